-- The calls of a daemon, stage by stage.
use Rattle.std.specs.Prelude.{Option, Some, Result, Ok, Err, IfErr}
use Rattle.std.proofs.Common.{◌≡◌, ◌≤◌, ℕ, List, [], ◌∷◌, ◌++◌, refl, sym, arith, ap}
use Rattle.std.proofs.Common.{◌∙◌, append_assoc, subst, inl, inr}
use Rattle.booth_keys.specs.declared.ring.Ring.{Ring}
use Rattle.booth_base.specs.declared.address.Address.{Address}
use Rattle.booth_cli.specs.declared.asking.DaemonWords.{DaemonWords}
use Rattle.booth_conf.specs.Config.{ConfigSays}
use Rattle.booth_rec.specs.declared.record.Record.{Record}
use Rattle.booth_host.specs.declared.entry.Entry.{Entry}
use Rattle.booth_host.specs.declared.host.Failed.{Failed}
use Rattle.booth_host.specs.declared.entry.Entry.TheVariants.{Open, Now, ReadFile}
use Rattle.booth_host.specs.Past.{GrewBy, GrewSome}
use Rattle.booth_host.specs.Causes.{Rose}
use Rattle.booth_host.proofs.PastLemmas.{one_more, some_of, some_joined, some_weaker, then_some}
use Rattle.booth_node.specs.State.{State}
use Rattle.booth_node.specs.declared.node.Node.{Node}
use Rattle.booth_node.specs.View.{node_config, state_of}
use Rattle.booth_node.specs.Opening.{opened as start_state}
use Rattle.booth_outcomes.specs.declared.outcome.Ended.{Ended}
use Rattle.booth_outcomes.specs.declared.outcome.Outcome.{Outcome}
use Rattle.booth_outcomes.specs.declared.outcome.Outcome.TheVariants.{ConfUnread, KeyUnread, LockFault, OpenFault}
use Rattle.booth_outcomes.specs.declared.outcome.Outcome.TheVariants.{JournalUnread, RecordUnread, PrintFault, OutOfMemory, SendFault}
use Rattle.booth_outcomes.specs.Texts.{out_of_memory_text, unopened_text}
use Rattle.booth_daemon.specs.Fitness.{IsAdmitted}
use Rattle.booth_daemon.specs.Records.{AreKept, AreUnread}
use Rattle.booth_outcomes.specs.Configuration.{IsConfigRead}
use Rattle.booth_outcomes.proofs.EndedLemmas.{ErrIs, err_has}
use Rattle.booth_outcomes.specs.Keys.{IsRingRead}
use Rattle.booth_daemon.specs.Opening.{IsLocked, IsNodeOpened, IsReady, IsUnopened}
use Rattle.booth_daemon.specs.Opening.{IsStarted, reads_of, opened as opening_calls, member_config}
use Rattle.booth_daemon.specs.Serving.{IsNodeRun, IsServing, Refused, Unkeyed, Unlocked, Unopened}
use Rattle.booth_outcomes.specs.Outcomes.{HasBlame}
use Rattle.booth_daemon.specs.Serving.{Turning, IsOpened}

-- ---- whom an end blames

rose_since : (a b c : ℕ) → a ≤ b → Rose b c → Rose a c
rose_since a b c le rose = grind (arith, le, rose)

-- who had failed later had failed since before
pub blame_since : (outcome : Outcome) (a b c : ℕ) → a ≤ b → HasBlame outcome b c → HasBlame outcome a c
blame_since ConfUnread a b c le blame = rose_since a b c le blame
blame_since KeyUnread a b c le blame = rose_since a b c le blame
blame_since JournalUnread a b c le blame = rose_since a b c le blame
blame_since LockFault a b c le blame = rose_since a b c le blame
blame_since OpenFault a b c le blame = rose_since a b c le blame
blame_since RecordUnread a b c le blame = rose_since a b c le blame
blame_since PrintFault a b c le blame = rose_since a b c le blame
blame_since SendFault a b c le blame = rose_since a b c le blame
blame_since outcome a b c le blame = tt

pub blamed : {T : Type 0} (r : Result T Ended) (ended : Ended) (a b c : ℕ) → ErrIs r ended → a ≤ b → HasBlame ended.outcome b c →
    IfErr r (λ e. HasBlame e.outcome a c)
blamed r ended a b c is le blame = err_has (λ r. IfErr r (λ e. HasBlame e.outcome a c)) r ended is (blame_since ended.outcome a b c le blame)

-- a fit configuration and its key were read
pub record AreRead (address : Address) (path : List ℕ) (config : ConfigSays) (ring : Option Ring)
    (entries : List Entry) : Type 0 where
  pub ready : IsReady address config ring
  pub whole : entries ≡ reads_of path ready

module _ (asked : DaemonWords) where
  -- ---- the ends of the opening, in their order

  module _ (config : ConfigSays) where
    pub refused : {a b : Option (List Entry)} (r : Result Node Ended) (ended : Ended) → ErrIs r ended → GrewSome (IsConfigRead asked.conf (Ok config)) a b →
        IsAdmitted asked.site config (Err ended) → GrewSome (IsOpened asked r) a b
    refused {a} {b} r ended is read not =
        err_has (λ r. GrewSome (IsOpened asked r) a b) r ended is
        (some_weaker (IsConfigRead asked.conf (Ok config)) (IsOpened asked (Err ended))
        (λ es h. Refused (record { text = h.0; config = config; says = h.1; whole = h.2; here = not })) read)

    pub unkeyed : {a b c : Option (List Entry)} (r : Result Node Ended) (ended : Ended) → ErrIs r ended → GrewSome (IsConfigRead asked.conf (Ok config)) a b →
        IsAdmitted asked.site config (Ok tt) → GrewSome (IsRingRead config (Err ended)) b c → GrewSome (IsOpened asked r) a c
    unkeyed {a} {b} {c} r ended is read fit keyless =
        err_has (λ r. GrewSome (IsOpened asked r) a c) r ended is
        (some_joined (IsConfigRead asked.conf (Ok config)) (IsRingRead config (Err ended)) (IsOpened asked (Err ended))
        (λ xs ys h k. Unkeyed (record {
          text = h.0;
          config = config;
          fit = record { says = h.1; member = fit };
          rest = ys;
          whole = ap (λ zs. zs ++ ys) h.2;
          here = k;
        })) read keyless)

    module _ (ring : Option Ring) where
      pub are_read : {a b c : Option (List Entry)} → GrewSome (IsConfigRead asked.conf (Ok config)) a b → IsAdmitted asked.site config (Ok tt) →
          GrewSome (IsRingRead config (Ok ring)) b c → GrewSome (AreRead asked.site asked.conf config ring) a c
      are_read read fit keyed =
          some_joined (IsConfigRead asked.conf (Ok config)) (IsRingRead config (Ok ring)) (AreRead asked.site asked.conf config ring)
          (λ xs ys h k. record {
            ready = record { text = h.0; fit = record { says = h.1; member = fit }; key_texts = k.0; holds = k.1 };
            whole = ap (λ zs. zs ++ ys) h.2 ∙ ap (λ zs. ReadFile asked.conf (Ok h.0) ∷ zs) k.2;
          }) read keyed

      pub unlocked : {a b c : Option (List Entry)} (r : Result Node Ended) (ended : Ended) → ErrIs r ended → GrewSome (AreRead asked.site asked.conf config ring) a b →
          GrewSome (IsLocked asked.lock (Err ended)) b c → GrewSome (IsOpened asked r) a c
      unlocked {a} {b} {c} r ended is read lockless =
          err_has (λ r. GrewSome (IsOpened asked r) a c) r ended is
          (some_joined (AreRead asked.site asked.conf config ring) (IsLocked asked.lock (Err ended)) (IsOpened asked (Err ended))
          (λ xs ys h l. Unlocked (record { config = config; ring = ring; ready = h.ready; rest = ys; whole = ap (λ zs. zs ++ ys) h.whole; here = l })) read lockless)

      -- ---- the clock, the socket, the records and the node

      -- a node that was opened
      pub node_opened : {a b c d : Option (List Entry)} (reading : ℕ) (records : List (Option Record)) (node : Node) → GrewBy a b (Now reading ∷ []) →
          GrewBy b c (Open (Some asked.site) config.port asked.records asked.conf (Ok tt) ∷ []) → GrewSome (AreKept config.tickets records) c d →
          node_config node ≡ member_config asked.site config ring → state_of node ≡ start_state (member_config asked.site config ring) records reading →
          GrewSome (IsNodeOpened asked config ring (Ok node)) a d
      node_opened reading records node now_call open_call read same begun =
          then_some (AreKept config.tickets records) (IsNodeOpened asked config ring (Ok node)) (one_more now_call open_call)
          (λ es kept. record {
            reading = reading;
            records = records;
            kept = es;
            read = kept;
            fresh = record { own = same; state = begun };
            whole = refl;
          }) read

      -- a socket that was not opened
      pub not_opened : {a b c : Option (List Entry)} (reading : ℕ) (failed : Failed) (said : List ℕ) → GrewBy a b (Now reading ∷ []) →
          GrewBy b c (Open (Some asked.site) config.port asked.records asked.conf (Err failed) ∷ []) → said ≡ unopened_text →
          GrewSome (IsNodeOpened asked config ring (Err (record { outcome = OpenFault; said = said }))) a c
      not_opened reading failed said now_call open_call is =
          some_of (IsNodeOpened asked config ring (Err (record { outcome = OpenFault; said = said }))) (one_more now_call open_call) (is, reading, failed, refl)

      unread_behind : (outcome : Outcome) (said : List ℕ) (reading : ℕ) (es : List Entry) → AreUnread config.tickets outcome said es →
          IsUnopened asked config outcome said (opening_calls asked config reading (Ok tt) ++ es)
      unread_behind RecordUnread said reading es un = record { reading = reading; rest = es; whole = refl; here = un }
      unread_behind OutOfMemory said reading es un = (un.0, record { reading = reading; rest = es; whole = refl; here = inl un.1 })
      unread_behind outcome said reading es un = absurd un

      -- the records were not read
      pub not_started : {a b c d : Option (List Entry)} (r : Result Node Ended) (ended : Ended) (reading : ℕ) → ErrIs r ended → GrewBy a b (Now reading ∷ []) →
          GrewBy b c (Open (Some asked.site) config.port asked.records asked.conf (Ok tt) ∷ []) → GrewSome (AreUnread config.tickets ended.outcome ended.said) c d →
          GrewSome (IsNodeOpened asked config ring r) a d
      not_started {a} {b} {c} {d} r ended reading is now_call open_call unread =
          err_has (λ r. GrewSome (IsNodeOpened asked config ring r) a d) r ended is
          (then_some (AreUnread config.tickets ended.outcome ended.said) (IsNodeOpened asked config ring (Err ended)) (one_more now_call open_call)
          (λ es un. unread_behind ended.outcome ended.said reading es un) unread)

      -- no memory for the node
      pub no_node : {a b c d : Option (List Entry)} (reading : ℕ) (records : List (Option Record)) (ended : Ended) → GrewBy a b (Now reading ∷ []) →
          GrewBy b c (Open (Some asked.site) config.port asked.records asked.conf (Ok tt) ∷ []) → GrewSome (AreKept config.tickets records) c d →
          ended.outcome ≡ OutOfMemory → ended.said ≡ out_of_memory_text → GrewSome (IsNodeOpened asked config ring (Err ended)) a d
      no_node reading records ended now_call open_call read out is =
          then_some (AreKept config.tickets records) (IsNodeOpened asked config ring (Err ended)) (one_more now_call open_call)
          (λ es kept.
          subst (λ outcome. IsUnopened asked config outcome ended.said (opening_calls asked config reading (Ok tt) ++ es)) (sym out)
          (is, record { reading = reading; rest = es; whole = refl; here = inr (records, kept) })) read

      -- ---- the node behind the lock, or how it ends without one

      behind_lock : (result : Result Node Ended) (xs ys zs : List Entry) → AreRead asked.site asked.conf config ring xs → IsLocked asked.lock (Ok tt) ys →
          IsNodeOpened asked config ring result zs → IsOpened asked result (xs ++ (ys ++ zs))
      behind_lock (Ok node) xs ys zs r l n = record {
        config = config;
        ring = ring;
        ready = r.ready;
        rest = ys ++ zs;
        whole = ap (λ ws. ws ++ (ys ++ zs)) r.whole;
        started = subst (λ ws. IsStarted asked config ring node (ws ++ zs)) (sym l) n;
      }
      behind_lock (Err ended) xs ys zs r l n =
          Unopened (record {
            config = config;
            ring = ring;
            ready = r.ready;
            rest = ys ++ zs;
            whole = ap (λ ws. ws ++ (ys ++ zs)) r.whole;
            here = subst (λ ws. IsUnopened asked config ended.outcome ended.said (ws ++ zs)) (sym l) n;
          })

      pub opened : {a b c d : Option (List Entry)} (result : Result Node Ended) → GrewSome (AreRead asked.site asked.conf config ring) a b → GrewSome (IsLocked asked.lock (Ok tt)) b c →
          GrewSome (IsNodeOpened asked config ring result) c d → GrewSome (IsOpened asked result) a d
      opened {a} {b} {c} {d} result read locked node =
          let Q : List Entry → Type 0 = λ es. (ys : List Entry) × (zs : List Entry) × (es ≡ ys ++ zs) × IsLocked asked.lock (Ok tt) ys × IsNodeOpened asked config ring result zs in
          let later : GrewSome Q b d = some_joined (IsLocked asked.lock (Ok tt)) (IsNodeOpened asked config ring result) Q (λ ys zs l n. (ys, zs, refl, l, n)) locked node in
          some_joined (AreRead asked.site asked.conf config ring) Q (IsOpened asked result)
          (λ xs es r q. subst (λ ws. IsOpened asked result (xs ++ ws)) (sym q.2) (behind_lock result xs q.0 q.1 r q.3 q.4)) read later

  -- ---- the turns

  pub ran : {a b c : Option (List Entry)} (node : Node) (last : State) (outcome : Outcome) (said : List ℕ) → GrewSome (IsOpened asked (Ok node)) a b →
      GrewSome (IsNodeRun (node_config node) asked.turns (state_of node) last outcome said) b c → GrewSome (IsServing asked outcome said) a c
  ran node last outcome said opened turns =
      some_joined (IsOpened asked (Ok node)) (IsNodeRun (node_config node) asked.turns (state_of node) last outcome said) (IsServing asked outcome said)
      (λ xs ys o t. Turning (record {
        config = o.config;
        ring = o.ring;
        ready = o.ready;
        reading = o.started.reading;
        records = o.started.records;
        kept = o.started.kept;
        read = o.started.read;
        turns = ys;
        last = last;
        whole = ap (λ zs. zs ++ ys) o.whole ∙ append_assoc (reads_of asked.conf o.ready) o.rest ys
            ∙ ap (λ zs. reads_of asked.conf o.ready ++ (zs ++ ys)) o.started.whole
            ∙ ap (λ zs. reads_of asked.conf o.ready ++ zs) (append_assoc (opening_calls asked o.config o.started.reading (Ok tt)) o.started.kept ys);
        log = subst (λ s. IsNodeRun (member_config asked.site o.config o.ring) asked.turns s last outcome said ys) o.started.fresh.state
            (subst (λ s. IsNodeRun s asked.turns (state_of node) last outcome said ys) o.started.fresh.own t);
      })) opened turns
