-- Each kind of entry of a world, as entries of the hosts of one ticket: a start, a call, a cut.
use Rattle.std.proofs.Common.{◌≡◌, ◌⊎◌, ⊎_elim, inl, inr, ℕ, zero, suc, ◌+◌, ◌^◌, ◌<◌, ◌≤◌, Bool, true, false, List, [], ◌∷◌, length, refl, sym, ap, ◌∙◌, subst, arith, if◌then◌else◌}
use Rattle.std.specs.List.{filter, range_with_len}
use Rattle.std.specs.Prelude.{Option, Some, None, not, ◌==◌, is_ok, slice_get, max, bytes_eq, unwrap_or, IsSomeAnd, Result, Ok, Err}
use Rattle.std.proofs.Math.Nat.{max-eq_right, min-eq_left}
use Rattle.booth_base.specs.Tree.{Deeds, Ends, Does}
use Rattle.booth_conf.specs.Config.{ConfigSays}
use Rattle.booth_conf.specs.declared.tickets.TicketConf.{TicketConf}
use Rattle.booth_rec.specs.declared.record.Record.{Record}
use Rattle.booth_rec.specs.Record.{record_or_none}
use Rattle.booth_wire.specs.PlainMessage.{PlainMessage}
use Rattle.booth_host.specs.declared.host.Failed.{Failed}
use Rattle.booth_host.specs.declared.host.Arrival.{Arrival}
use Rattle.booth_host.specs.declared.entry.Entry.{Entry}
use Rattle.booth_host.specs.declared.entry.Entry.TheVariants as calls
use Rattle.booth_wire.specs.declared.message.Setup.{Setup}
use Rattle.booth_raft.specs.declared.view.View.{View}
use Rattle.booth_raft.specs.StartAndLearn.{started}
use Rattle.booth_ticket.specs.Saying.{others}
use Rattle.booth_ticket.specs.Ticket.{TicketState}
use Rattle.booth_node.specs.declared.node_config.NodeConfig.{NodeConfig}
use Rattle.booth_world.specs.Reading.{MayBeRead, IsLaterOrKept}
use Rattle.booth_world.specs.States.{HasClocks, reads}
use Rattle.booth_node.specs.Opening.{is_site_at, setup_of, started_from, start_reading, known_at_start, opened, opened_by}
use Rattle.booth_host.specs.declared.host.Job.{Job}
use Rattle.booth_node.specs.Reaction.{Ask, Send, Keep, Start, used, react}
use Rattle.booth_node.specs.Records.{may_after_keep, may_after, record_at}
use Rattle.booth_node.specs.Session.{CutCall, CutNext, CutNow, CutSend, CutKeep, CutStart, Starts, Makes, IsCut, Stand, Down, Doing, Hearing, MayMake, after_call, MayBeCut}
use Rattle.booth_node.specs.State.{State}
use Rattle.booth_node.specs.World.{World, members_of, clock_at, HoldsNothing, begins_with, HasRisingClocks}
use Rattle.booth_world.specs.Facts.{Has, Release}
use Rattle.booth_world.specs.Turns.{Keeps, TurnTree, turn_tree}
use Rattle.booth_world.specs.Hosts.{BeginsTurn, DoesAsk, Halts, Boots, HostPlace, Hosts, pending_in, pending, MayBegin, MayCome, begun, hosted, hosts_after}
use Rattle.booth_world.specs.HostLaws.{Revokes, RevokesAfter, IsHostReleaseAt}
use Rattle.booth_world.specs.Revocations.{others_of, IsRevocation, SendsEach}
use Rattle.booth_world.proofs.HostSteps.{still_read, still_later}
use Rattle.booth_world.proofs.Lists.{none_is, some_same}
use Rattle.booth_world.proofs.CallSteps.{put_same}
use Rattle.booth_world.proofs.Mirrors.{Repeats, IsTold}
use Rattle.booth_world.proofs.NodeTurns.{IsPlacedAt}
use Rattle.booth_world.proofs.NodeArrivals.{IsTurnOf, HearsGood, reacts}
use Rattle.booth_world.proofs.HostRuns.{of_both, sent_as}
use Rattle.booth_world.proofs.WorldPhases.{is_open, has_opened}
use Rattle.booth_world.proofs.WorldSteps.{Trace, Frees, IsTrace, Setting, same_bytes, other_bytes, cluster, setup_at, cast, Seats, all_of, Doings, StandsAt, Shows, Steps, rests_so, then_says, moved_one, keeps_own, starts_own}
use Rattle.booth_world.proofs.Configured.{names_apart}
use Rattle.booth_world.specs.Cores.{Session}
use Rattle.booth_world.proofs.Beginnings.{begins_well}

pub when_true : {A : Type 0} (b : Bool) (x y : A) → b ≡ true → (if b then x else y) ≡ x
when_true true x y e = refl
when_true false x y e = absurd cc

pub when_false : {A : Type 0} (b : Bool) (x y : A) → b ≡ false → (if b then x else y) ≡ y
when_false true x y e = absurd cc
when_false false x y e = refl

-- a reading that is not before the last one, and early enough, is used as it is
clamped : (last reading : ℕ) → last ≤ reading → reading < 2 ^ 62 → used last reading ≡ reading
clamped last reading rises small =
    ap (λ (n : ℕ). max last n) (min-eq_left (omega (arith, small))) ∙ max-eq_right rises

clamped_start : (reading : ℕ) → reading < 2 ^ 62 → start_reading reading ≡ reading
clamped_start reading small = min-eq_left (omega (arith, small))

-- ---- a start

pub started_at : (node : NodeConfig) (now first i : ℕ) (tickets : List TicketConf) (records : List (Option Record)) (t : TicketConf)
    → length records ≡ length tickets → slice_get tickets i ≡ Some t
    → slice_get (started_from node now first tickets records) i
    ≡ Some (opened_by t (setup_of node (first + i) t) (record_or_none (unwrap_or (slice_get records i) None)) now)
started_at node now first i [] records t same is = absurd (none_is t is)
started_at node now first i (x ∷ tickets) [] t same is = absurd (omega (arith, same))
started_at node now first zero (x ∷ tickets) (r ∷ records) t same is =
    ap (λ (y : TicketConf). Some (opened_by y (setup_of node first y) (record_or_none r) now)) (some_same x t is)
    ∙ ap (λ (n : ℕ). Some (opened_by t (setup_of node n t) (record_or_none r) now)) (omega arith)
started_at node now first (suc i) (x ∷ tickets) (r ∷ records) t same is =
    started_at node now (first + 1) i tickets records t (omega (arith, same)) is
    ∙ ap (λ (n : ℕ). Some (opened_by t (setup_of node n t) (record_or_none (unwrap_or (slice_get records i) None)) now)) (omega arith)

pub started_is : (node : NodeConfig) (now first i : ℕ) (tickets : List TicketConf) (records : List (Option Record)) (s : TicketState)
    → slice_get (started_from node now first tickets records) i ≡ Some s
    → (t : TicketConf) × (slice_get tickets i ≡ Some t) × (s.setup.ticket ≡ t.name)
started_is node now first i [] records s is = absurd (none_is s is)
started_is node now first i (x ∷ tickets) [] s is = absurd (none_is s is)
started_is node now first zero (x ∷ tickets) (r ∷ records) s is =
    (x, refl, ap (λ (y : TicketState). y.setup.ticket) (sym (some_same (opened_by x (setup_of node first x) (record_or_none r) now) s is)))
started_is node now first (suc i) (x ∷ tickets) (r ∷ records) s is = started_is node now (first + 1) i tickets records s is

-- ---- what follows a release

-- what is so of each send
sends_so : {S : Type 0} (config : ConfigSays) (places : List ℕ) (P Q : PlainMessage → Type 0) (deeds : Deeds Ask S) → ((message : PlainMessage) → P message → Q message)
    → SendsEach config places P deeds → SendsEach config places Q deeds
sends_so config [] P Q deeds gives x = tt
sends_so config (place ∷ places) P Q (Does (Send peer message) go) gives x =
    (x.0, gives message x.1, λ ok. sends_so config places P Q (go ok) gives (x.2 ok))
sends_so config (place ∷ places) P Q (Does (Keep name tried) go) gives x = absurd x
sends_so config (place ∷ places) P Q (Does (Start job) go) gives x = absurd x
sends_so config (place ∷ places) P Q (Ends state) gives x = absurd x

-- a member that is alone has no others
alone : (n m : ℕ) → m < n → n ≤ 1 → filter (λ place. not (place == m)) (range_with_len 0 n) ≡ []
alone zero m below few = absurd (omega (arith, below))
alone (suc zero) zero below few = refl
alone (suc zero) (suc m) below few = absurd (omega (arith, below))
alone (suc (suc n)) m below few = absurd (omega (arith, few))

has_others : (n : ℕ) → (1 < n) ⊎ (n ≤ 1)
has_others zero = inr (omega arith)
has_others (suc zero) = inr (omega arith)
has_others (suc (suc n)) = inl (omega arith)

-- what the host says after a release the node says to each other member
revoked : (w : World) (ticket : TicketConf) (setting : Setting w ticket) (m : ℕ) (session : Session) (node : NodeConfig) → m < members_of w → (term term' : ℕ) → term ≡ term'
    → (tree : TurnTree) (deeds : Deeds Ask State) → (1 < members_of w → Revokes term tree)
    → IsTold node (setup_at w ticket setting m session) tree deeds
    → SendsEach node.config (others_of w m) (IsRevocation ticket.name term') deeds
revoked w ticket setting m session node below term term' same tree deeds says told =
    ⊎_elim
    (λ (more : 1 < members_of w).
    let first = says more in
    let all = told more first.message first.go first.next_is first.revokes in
    subst (λ (k : ℕ). SendsEach node.config (filter (λ other. not (other == k)) (range_with_len 0 (members_of w))) (IsRevocation ticket.name term') deeds)
    refl
    (sends_so node.config (others (setup_at w ticket setting m session)) (Repeats first.message) (IsRevocation ticket.name term') deeds
    (λ message is. record {
      part = first.message.part;
      revokes = is.0 ∙ first.revokes;
      about = is.1;
      named = all.0;
      same_term = first.same_term ∙ same;
    })
    all.1))
    (λ (few : members_of w ≤ 1).
    subst (λ (places : List ℕ). SendsEach node.config places (IsRevocation ticket.name term') deeds) (sym (alone (members_of w) m below few)) tt)
    (has_others (members_of w))

module _ (w : World) (clocks : HasRisingClocks w) (ticket : TicketConf) (setting : Setting w ticket) where
  pub has_clocks : ((m : ℕ) → HoldsNothing w m (clock_at w m 0) (begins_with w m ticket.name)) → HasClocks (cluster w ticket setting)
  has_clocks free = record {
    some = clocks.some;
    long = clocks.long;
    rising = clocks.rising;
    begins = λ m. begins_well w ticket setting m (clock_at w m 0) (begins_with w m ticket.name) (free m);
  }

  abbrev pub read_by : ℕ → ℕ → ℕ
  read_by m time = reads (cluster w ticket setting) m time

  small_at : (m time : ℕ) → m < members_of w → time < w.span → read_by m time < 2 ^ 62
  small_at m time below within = (clocks.rising m below).small time (subst (λ (n : ℕ). time < n) (sym (clocks.long m below)) within)

  rises_at : (m early late : ℕ) → m < members_of w → early ≤ late → late < w.span → read_by m early ≤ read_by m late
  rises_at m early late below later within =
      (clocks.rising m below).rises early late later (subst (λ (n : ℕ). late < n) (sym (clocks.long m below)) within)

  abbrev pub Stepping : Hosts → ℕ → Session → Stand → List Record → (Trace → Type 0) → Type 0
  Stepping hosts m session stand may R = Steps w ticket setting hosts m session stand may R

  module _ (m : ℕ) (session : Session) (below : m < members_of w) (hosts : Hosts) (within : hosts.now < w.span) where
    abbrev pub Stood : Stand → List Record → Type 0
    Stood stand may = Shows w ticket setting m session stand may hosts.now (hosts.place m) hosts.sent

    rests_here : (stand stand' : Stand) (may may' : List Record) (R : Trace → Type 0) → Stood stand may → may' ≡ may
        → StandsAt w ticket setting m session stand' (hosts.place m) hosts.sent → Stepping hosts m session stand' may' R
    rests_here stand stand' may may' R x same now_at =
        rests_so w ticket setting hosts m session stand' may' R
        (record { same_session = x.same_session; same_may = x.same_may ∙ sym same; time = x.time; past = x.past; read = x.read; stands = now_at })

    -- ---- calls

    keeps : (node : NodeConfig) (name : List ℕ) (tried : Record) (go : Bool → Deeds Ask State) (may : List Record) (ticket_name : List ℕ)
        (rec : Record) (answer : Result (Unit {0}) Failed) → Stood (Doing node (Does (Keep name tried) go)) may
        → ticket_name ≡ name → rec ≡ tried
        → Stepping hosts m session (Doing node (go (is_ok answer))) (may_after ticket.name may (Makes (calls.Keep ticket_name rec answer)))
        (IsTrace w ticket.name m hosts.now (Doing node (go (is_ok answer))) (Makes (calls.Keep ticket_name rec answer)))
    keeps node name tried go may ticket_name rec answer x named same = by_ticket x.stands.5
      where
        R : Trace → Type 0
        R = IsTrace w ticket.name m hosts.now (Doing node (go (is_ok answer))) (Makes (calls.Keep ticket_name rec answer))

        releases : (r : Record) (a : Result (Unit {0}) Failed) → r ≡ tried → ticket_name ≡ ticket.name → (rest : Bool → TurnTree)
            → (hosts.place m).tree ≡ Some (Does (Keeps tried) rest)
            → IsTold node (setup_at w ticket setting m session) (rest true) (go true) → (z : Release)
            → IsHostReleaseAt (cluster w ticket setting) hosts (DoesAsk m (Keeps tried) (is_ok a)) z → IsTrace w ticket.name m hosts.now (Doing node (go (is_ok a))) (Makes (calls.Keep ticket_name r a)) (Frees z)
        releases r (Ok done) e here rest at_keep told z rel = (
          here,
          ap (λ (q : Record). q.lease) e ∙ rel.1,
          ap (λ (q : Release). q.site) rel.0,
          ap (λ (q : Release). q.term) rel.0 ∙ ap (λ (q : Record). q.term) (sym e),
          ap (λ (q : Release). q.at) rel.0,
          revoked w ticket setting m session node below tried.term r.term (ap (λ (q : Record). q.term) (sym e)) (rest true) (go true)
              (subst (λ (o : Option TurnTree). IsSomeAnd o (RevokesAfter (members_of w) tried.term)) at_keep rel.2) told,
        )
        releases r (Err failed) e here rest at_keep told z rel = absurd rel

        by_ticket : Doings w ticket setting m session node x.stands.0 (hosts.place m).reading x.stands.2 (Does (Keep name tried) go) x.stands.1
            → Stepping hosts m session (Doing node (go (is_ok answer))) (may_after ticket.name may (Makes (calls.Keep ticket_name rec answer)))
            (IsTrace w ticket.name m hosts.now (Doing node (go (is_ok answer))) (Makes (calls.Keep ticket_name rec answer)))
        by_ticket (inl other) =
            rests_here (Doing node (Does (Keep name tried) go)) (Doing node (go (is_ok answer))) may _ _ x
            (when_false (bytes_eq ticket_name ticket.name) _ _ (other_bytes ticket_name ticket.name (λ e. other.0 (sym named ∙ e))))
            (x.stands.0, x.stands.1, x.stands.2, x.stands.3, x.stands.4, other.1 (is_ok answer))
        by_ticket (inr own) =
            subst (λ (rs : List Record). Stepping hosts m session (Doing node (go (is_ok answer))) rs (IsTrace w ticket.name m hosts.now (Doing node (go (is_ok answer))) (Makes (calls.Keep ticket_name rec answer))))
            (ap (λ (r : Record). may_after_keep (is_ok answer) r may) (sym same)
            ∙ sym (when_true (bytes_eq ticket_name ticket.name) _ _ (same_bytes ticket_name ticket.name (named ∙ own.0))))
            (keeps_own w ticket setting m below hosts within session node (Doing node (Does (Keep name tried) go)) (Doing node (go (is_ok answer))) may
            (IsTrace w ticket.name m hosts.now (Doing node (go (is_ok answer))) (Makes (calls.Keep ticket_name rec answer))) tried (is_ok answer) go x.stands.1 x.stands.2 own.1
            x.stands.0 refl x x.stands.3 x.stands.4 own.2 (own.3 (is_ok answer))
            (releases rec answer same (named ∙ own.0) own.1 (x.stands.3 ∙ ap (λ (t : TurnTree). Some t) own.2) own.4))

    starts_job : (node : NodeConfig) (job : Job) (go : Bool → Deeds Ask State) (ok : Bool) (may : List Record) (R : Trace → Type 0)
        → Stood (Doing node (Does (Start job) go)) may → Stepping hosts m session (Doing node (go ok)) may R
    starts_job node job go ok may R x = by_ticket x.stands.5
      where
        by_ticket : Doings w ticket setting m session node x.stands.0 (hosts.place m).reading x.stands.2 (Does (Start job) go) x.stands.1
            → Stepping hosts m session (Doing node (go ok)) may R
        by_ticket (inl other) =
            rests_here (Doing node (Does (Start job) go)) (Doing node (go ok)) may may R x refl
            (x.stands.0, x.stands.1, x.stands.2, x.stands.3, x.stands.4, other ok)
        by_ticket (inr own) =
            starts_own w ticket setting m below hosts within session node (Doing node (Does (Start job) go)) (Doing node (go ok)) may R ok (own.2 ok).0 go
            x.stands.1 x.stands.2 own.0 x.stands.0 refl x x.stands.3 x.stands.4 own.1 (own.2 ok).1

    -- the turn uses the reading of the clock as it is
    pub used_is : (last time reading : ℕ) → last ≡ read_by m time → time ≤ hosts.now → reading ≡ clock_at w m hosts.now
        → used last reading ≡ read_by m hosts.now
    used_is last time reading was past is =
        ap (λ (n : ℕ). used last n) is
        ∙ clamped last (read_by m hosts.now) (subst (λ (n : ℕ). n ≤ read_by m hosts.now) (sym was) (rises_at m time hosts.now below past within))
        (small_at m hosts.now below within)

    -- the clock is read, and the turn begins
    begins : (node : NodeConfig) (old : State) (answer : Result Arrival Failed) (bytes : List ℕ) (may : List Record) (reading : ℕ)
        → (x : Stood (Hearing node old answer bytes) may) → reading ≡ clock_at w m hosts.now
        → HearsGood (setup_at w ticket setting m session) x.stands.0.place node (read_by m hosts.now) (all_of w ticket setting m session node x.stands.0) below setting.most setting.enough
        (MayCome (cluster w ticket setting) (cast w ticket setting) session hosts) answer bytes
        → Stepping hosts m session (Doing node (react node old (used old.last_reading reading) answer bytes)) may (IsTrace w ticket.name m hosts.now (Doing node (react node old (used old.last_reading reading) answer bytes)) (Makes (calls.Now reading)))
    begins node old answer bytes may reading x read_is good =
        let R : Trace → Type 0 = IsTrace w ticket.name m hosts.now (Doing node (react node old (used old.last_reading reading) answer bytes)) (Makes (calls.Now reading)) in
        let view : View = x.stands.1 in
        let moment : ℕ = read_by m hosts.now in
        let used_so : used old.last_reading reading ≡ moment = used_is old.last_reading x.time reading (x.stands.4 ∙ x.read) x.past read_is in
        let turn : IsTurnOf (setup_at w ticket setting m session) x.stands.0.place node moment (all_of w ticket setting m session node x.stands.0) below setting.most setting.enough
        (MayCome (cluster w ticket setting) (cast w ticket setting) session hosts) view (react node old moment answer bytes) =
        reacts (setup_at w ticket setting m session) x.stands.0.place node moment (all_of w ticket setting m session node x.stands.0) below setting.most setting.enough
        (MayCome (cluster w ticket setting) (cast w ticket setting) session hosts) old view answer bytes x.stands.3 x.stands.5 good in
        let tree : TurnTree = turn_tree (setup_at w ticket setting m session) moment view turn.came turn.plan in
        subst (λ (at : ℕ). Stepping hosts m session (Doing node (react node old at answer bytes)) may R) (sym used_so)
        (then_says w ticket setting m below hosts within (BeginsTurn m hosts.now turn.came turn.plan) session (Doing node (react node old moment answer bytes)) may R tree (
          below,
          omega arith,
          within,
          subst (λ (b : Session). IsSomeAnd (hosts.place m).tree (MayBegin (setup_at w ticket setting m b) moment turn.came turn.plan)) (sym x.same_session)
              (subst (λ (o : Option TurnTree). IsSomeAnd o (MayBegin (setup_at w ticket setting m session) moment turn.came turn.plan)) (sym x.stands.2) turn.may),
          turn.good,
          is_open w setting.goes_on ticket (hosts.place m).session hosts.now within,
        )
        (moved_one w ticket setting m below hosts _ hosts.sent (λ l h. h))
        (ap (λ (p : HostPlace). p.tree) (put_same hosts.place m _)
        ∙ ap (λ (b : Session). begun (setup_at w ticket setting m b) moment turn.came turn.plan (hosts.place m).tree) x.same_session
        ∙ ap (λ (o : Option TurnTree). begun (setup_at w ticket setting m session) moment turn.came turn.plan o) x.stands.2)
        (λ p tree_is reading_is may_is session_is. record {
          same_session = session_is ∙ ap (λ (q : HostPlace). q.session) (put_same hosts.place m _) ∙ x.same_session;
          same_may = may_is ∙ ap (λ (q : HostPlace). q.may) (put_same hosts.place m _) ∙ x.same_may;
          time = hosts.now;
          past = omega arith;
          read = reading_is ∙ ap (λ (q : HostPlace). q.reading) (put_same hosts.place m _);
          stands = (
            x.stands.0,
            tree,
            [],
            tree_is,
            sent_as m tree [] hosts.sent (λ l h. absurd h),
            subst (λ (r : ℕ). Doings w ticket setting m session node x.stands.0 r [] (react node old moment answer bytes) tree)
                (sym (reading_is ∙ ap (λ (q : HostPlace). q.reading) (put_same hosts.place m _))) (turn.over []),
          );
        })
        (λ z r. absurd r) (λ k t r. (sym r.0, sym r.1, read_is)) (λ b r. absurd r) (λ p. tt))

    -- what is heard at this stand may come
    abbrev pub HearsGoodAt : Stand → Type 0
    HearsGoodAt (Hearing node old answer bytes) =
        (own : Seats w ticket setting m session node)
        → HearsGood (setup_at w ticket setting m session) own.place node (read_by m hosts.now) (all_of w ticket setting m session node own) below setting.most setting.enough
        (MayCome (cluster w ticket setting) (cast w ticket setting) session hosts) answer bytes
    HearsGoodAt stand = Unit {0}

    abbrev pub ReadsHere : Entry → Type 0
    ReadsHere (calls.Now reading) = reading ≡ clock_at w m hosts.now
    ReadsHere call = Unit {0}

    pub makes : (stand : Stand) (call : Entry) (may : List Record) → Stood stand may → MayMake stand call → ReadsHere call → HearsGoodAt stand
        → Stepping hosts m session (after_call stand call) (may_after ticket.name may (Makes call)) (IsTrace w ticket.name m hosts.now (after_call stand call) (Makes call))
    makes Down call may x d r g = absurd d
    makes (Doing node (Ends old)) (calls.Next wait answer bytes) may x d r g =
        rests_here (Doing node (Ends old)) (Hearing node old answer bytes) may may _ x refl
        (x.stands.0, x.stands.5.view, x.stands.3 ∙ ap (λ (t : TurnTree). Some t) x.stands.5.ended, x.stands.5.at, x.stands.5.moment_is, x.stands.5.few)
    makes (Doing node (Ends old)) call may x d r g = absurd d
    makes (Doing node (Does (Send peer message) go)) (calls.Send to bytes answer) may x d r g =
        rests_here (Doing node (Does (Send peer message) go)) (Doing node (go (is_ok answer))) may may _ x refl
        (x.stands.0, x.stands.1, x.stands.2, x.stands.3, x.stands.4, x.stands.5.1 (is_ok answer))
    makes (Doing node (Does (Send peer message) go)) call may x d r g = absurd d
    makes (Doing node (Does (Keep name tried) go)) (calls.Keep ticket_name rec answer) may x d r g =
        keeps node name tried go may ticket_name rec answer x d.0 d.1
    makes (Doing node (Does (Keep name tried) go)) call may x d r g = absurd d
    makes (Doing node (Does (Start job) go)) (calls.Start number named handler local expires answer) may x d r g =
        starts_job node job go (is_ok answer) may _ x
    makes (Doing node (Does (Start job) go)) call may x d r g = absurd d
    makes (Hearing node old answer bytes) (calls.Now reading) may x d r g = begins node old answer bytes may reading x r (g x.stands.0)
    makes (Hearing node old answer bytes) call may x d r g = absurd d

    -- ---- cuts

    cuts_keep : (node : NodeConfig) (name : List ℕ) (tried : Record) (go : Bool → Deeds Ask State) (may : List Record) (ticket_name : List ℕ)
        (rec : Record) → Stood (Doing node (Does (Keep name tried) go)) may → ticket_name ≡ name → rec ≡ tried
        → Stepping hosts m session Down (may_after ticket.name may (IsCut (CutKeep ticket_name rec))) (IsTrace w ticket.name m hosts.now Down (IsCut (CutKeep ticket_name rec)))
    cuts_keep node name tried go may ticket_name rec x named same = by_ticket x.stands.5
      where
        by_ticket : Doings w ticket setting m session node x.stands.0 (hosts.place m).reading x.stands.2 (Does (Keep name tried) go) x.stands.1
            → Stepping hosts m session Down (may_after ticket.name may (IsCut (CutKeep ticket_name rec))) (IsTrace w ticket.name m hosts.now Down (IsCut (CutKeep ticket_name rec)))
        by_ticket (inl other) =
            rests_here (Doing node (Does (Keep name tried) go)) Down may _ _ x
            (when_false (bytes_eq ticket_name ticket.name) _ _ (other_bytes ticket_name ticket.name (λ e. other.0 (sym named ∙ e)))) tt
        by_ticket (inr own) =
            let at_keep : (hosts.place m).tree ≡ Some (Does (Keeps tried) own.1) = x.stands.3 ∙ ap (λ (t : TurnTree). Some t) own.2 in
            record {
              entries = Halts m ∷ [];
              hosted_all = ((below, subst (λ (o : Option TurnTree). IsSomeAnd o (λ tree. Unit {0})) (sym at_keep) tt), tt);
              own = moved_one w ticket setting m below hosts _ hosts.sent (λ l h. h);
              here = subst (λ (p : HostPlace). Shows w ticket setting m session Down (may_after ticket.name may (IsCut (CutKeep ticket_name rec))) hosts.now p hosts.sent)
                  (sym (put_same hosts.place m _))
                  (record {
                    same_session = x.same_session;
                    same_may = ap (λ (o : Option TurnTree). pending o (hosts.place m).may) at_keep
                        ∙ ap (λ (rs : List Record). tried ∷ rs) x.same_may ∙ ap (λ (q : Record). q ∷ may) (sym same)
                        ∙ sym (when_true (bytes_eq ticket_name ticket.name) _ _ (same_bytes ticket_name ticket.name (named ∙ own.0)));
                    time = x.time;
                    past = x.past;
                    read = x.read;
                    stands = tt;
                  });
              at_cut = inl (ap (λ (p : HostPlace). p.tree) (put_same hosts.place m _));
              released = λ z r. ⊎_elim (λ (a : ⊥). a) (λ (b : ⊥). b) r;
              read = λ k t r. absurd (⊎_elim (λ (a : ⊥). a) (λ (b : ⊥). b) r);
              started = λ v r. absurd (⊎_elim (λ (a : ⊥). a) (λ (b : ⊥). b) r);
            }

    pub cuts : (stand : Stand) (call : CutCall) (may : List Record) → Stood stand may → MayBeCut stand call
        → Stepping hosts m session Down (may_after ticket.name may (IsCut call)) (IsTrace w ticket.name m hosts.now Down (IsCut call))
    cuts stand CutNext may x d = rests_here stand Down may may _ x refl tt
    cuts stand CutNow may x d = rests_here stand Down may may _ x refl tt
    cuts stand (CutSend to bytes) may x d = rests_here stand Down may may _ x refl tt
    cuts stand (CutStart job) may x d = rests_here stand Down may may _ x refl tt
    cuts Down (CutKeep ticket_name rec) may x d = absurd d
    cuts (Doing node (Ends old)) (CutKeep ticket_name rec) may x d = absurd d
    cuts (Doing node (Does (Send peer message) go)) (CutKeep ticket_name rec) may x d = absurd d
    cuts (Doing node (Does (Keep name tried) go)) (CutKeep ticket_name rec) may x d = cuts_keep node name tried go may ticket_name rec x d.0 d.1
    cuts (Doing node (Does (Start job) go)) (CutKeep ticket_name rec) may x d = absurd d
    cuts (Hearing node old answer bytes) (CutKeep ticket_name rec) may x d = absurd d

  -- ---- starts

  -- the state that a start leaves has the ticket, with the view of its record
  opened_at : (m : ℕ) (session : Session) (node : NodeConfig) (its : Seats w ticket setting m session node) → its.conf.manual ≡ false
      → (now reading : ℕ) (records : List (Option Record))
      → length records ≡ length node.config.tickets → reading ≡ now → now < 2 ^ 62
      → IsPlacedAt (setup_at w ticket setting m session) its.place (started (setup_at w ticket setting m session) (record_at records its.place) now)
      (opened node records reading).tickets
  opened_at m session node its automatic now reading records all is small = record {
    own = started_at node (start_reading reading) 0 its.place node.config.tickets records its.conf all its.there
        ∙ ap (λ (n : ℕ). Some (opened_by its.conf (setup_of node n its.conf) (record_at records its.place) (start_reading reading))) (omega arith)
        ∙ ap (λ (s : Setup). Some (opened_by its.conf s (record_at records its.place) (start_reading reading))) its.same
        ∙ ap (λ (n : ℕ). Some (opened_by its.conf (setup_at w ticket setting m session) (record_at records its.place) n))
        (ap start_reading is ∙ clamped_start now small)
        ∙ ap (λ (b : Bool). Some (record {
          setup = setup_at w ticket setting m session;
          known = known_at_start b (setup_at w ticket setting m session) (record_at records its.place) now;
        })) automatic;
    others = λ other t read ne named.
        let q : (conf : TicketConf) × (slice_get node.config.tickets other ≡ Some conf) × (t.setup.ticket ≡ conf.name) =
        started_is node (start_reading reading) 0 other node.config.tickets records t read in
        names_apart node.config its.own.sound its.place other its.conf q.0 its.there q.1 ne (sym q.2 ∙ named ∙ sym its.named);
  }

  module _ (m : ℕ) (below : m < members_of w) where
    boots : (hosts : Hosts) (session : Session) (node : NodeConfig) (its : Seats w ticket setting m session node) → its.conf.manual ≡ false → (reading : ℕ) (records : List (Option Record)) → hosts.now < w.span → (hosts.place m).tree ≡ None
        → ((hosts.place m).session.second ≡ true → session.second ≡ true)
        → length records ≡ length node.config.tickets → reading ≡ clock_at w m hosts.now → MayBeRead (is_site_at w.members m) (hosts.place m).may (record_at records its.place)
        → (setting.goes_on ≡ true → IsLaterOrKept (hosts.place m).may (record_at records its.place))
        → Stepping hosts m session (Doing node (Ends (opened node records reading))) (record_at records its.place ∷ [])
        (IsTrace w ticket.name m hosts.now (Doing node (Ends (opened node records reading))) (Starts node reading records))
    boots hosts session node its automatic reading records within down stays all is may_read on =
        let now : ℕ = read_by m hosts.now in
        let kept : Record = record_at records its.place in
        then_says w ticket setting m below hosts within (Boots m hosts.now session kept) session (Doing node (Ends (opened node records reading))) (kept ∷ [])
        (IsTrace w ticket.name m hosts.now (Doing node (Ends (opened node records reading))) (Starts node reading records))
        (Ends (started (setup_at w ticket setting m session) kept now))
        (below, omega arith, within, down, may_read, stays, on, has_opened w setting.goes_on ticket session hosts.now its.first, is_open w setting.goes_on ticket session hosts.now within, (below, refl))
        (moved_one w ticket setting m below hosts _ hosts.sent (λ l h. h))
        (ap (λ (p : HostPlace). p.tree) (put_same hosts.place m _))
        (λ p tree_is reading_is may_is session_is. record {
          same_session = session_is ∙ ap (λ (q : HostPlace). q.session) (put_same hosts.place m _);
          same_may = may_is ∙ ap (λ (q : HostPlace). q.may) (put_same hosts.place m _);
          time = hosts.now;
          past = omega arith;
          read = reading_is ∙ ap (λ (q : HostPlace). q.reading) (put_same hosts.place m _);
          stands = (
            its,
            Ends (started (setup_at w ticket setting m session) kept now),
            [],
            tree_is,
            (λ l h. absurd h),
            record {
              view = started (setup_at w ticket setting m session) kept now;
              ended = refl;
              at = opened_at m session node its automatic now reading records all is (small_at m hosts.now below within);
              moment_is = ap start_reading is ∙ clamped_start now (small_at m hosts.now below within)
                  ∙ sym (reading_is ∙ ap (λ (q : HostPlace). q.reading) (put_same hosts.place m _));
              few = omega arith;
            },
          );
        })
        (λ z r. absurd r) (λ k t r. (sym r.0, sym r.1, is)) (λ v r. ap (λ (s : Setup). s.second) its.same ∙ r) (λ p. tt)

    -- what may be kept may still, where a host stops
    still_may : (o : Option TurnTree) (may : List Record) (k : Record) → Has may k → Has (pending o may) k
    still_may None may k h = h
    still_may (Some t) may k h = by_tree t
      where
        by_tree : (u : TurnTree) → Has (pending_in u may) k
        by_tree (Ends view) = h
        by_tree (Does (Keeps kept) go) = inr h
        by_tree (Does ask go) = h

    pub starts : (hosts : Hosts) (session : Session) (node : NodeConfig) (reading : ℕ) (records : List (Option Record)) → hosts.now < w.span
        → length records ≡ length node.config.tickets → (its : Seats w ticket setting m session node) → its.conf.manual ≡ false → reading ≡ clock_at w m hosts.now
        → ((hosts.place m).session.second ≡ true → session.second ≡ true) → MayBeRead (is_site_at w.members m) (hosts.place m).may (record_at records its.place)
        → (setting.goes_on ≡ true → IsLaterOrKept (hosts.place m).may (record_at records its.place))
        → Stepping hosts m session (Doing node (Ends (opened node records reading))) (record_at records its.place ∷ [])
        (IsTrace w ticket.name m hosts.now (Doing node (Ends (opened node records reading))) (Starts node reading records))
    starts hosts session node reading records within all its automatic is stays may_read on = by_tree (hosts.place m).tree refl
      where
        by_tree : (o : Option TurnTree) → (hosts.place m).tree ≡ o
            → Stepping hosts m session (Doing node (Ends (opened node records reading))) (record_at records its.place ∷ [])
            (IsTrace w ticket.name m hosts.now (Doing node (Ends (opened node records reading))) (Starts node reading records))
        by_tree None down = boots hosts session node its automatic reading records within down stays all is may_read on
        by_tree (Some t) up =
            let halted : Hosts = hosted (cluster w ticket setting) (cast w ticket setting) hosts (Halts m) in
            let rest : Stepping halted m session (Doing node (Ends (opened node records reading))) (record_at records its.place ∷ [])
            (IsTrace w ticket.name m hosts.now (Doing node (Ends (opened node records reading))) (Starts node reading records)) =
            boots halted session node its automatic reading records within (ap (λ (p : HostPlace). p.tree) (put_same hosts.place m _))
            (λ was. stays (sym (ap (λ (p : HostPlace). p.session.second) (put_same hosts.place m _)) ∙ was)) all is
            (subst (λ (p : HostPlace). MayBeRead (is_site_at w.members m) p.may (record_at records its.place)) (sym (put_same hosts.place m _))
            (still_read (is_site_at w.members m) (hosts.place m).may (pending (hosts.place m).tree (hosts.place m).may) (record_at records its.place)
            (still_may (hosts.place m).tree (hosts.place m).may) may_read))
            (λ going. subst (λ (p : HostPlace). IsLaterOrKept p.may (record_at records its.place)) (sym (put_same hosts.place m _))
            (still_later (hosts.place m).may (pending (hosts.place m).tree (hosts.place m).may) (record_at records its.place)
            (still_may (hosts.place m).tree (hosts.place m).may) (on going))) in
            record {
              entries = Halts m ∷ rest.entries;
              hosted_all = ((below, subst (λ (o : Option TurnTree). IsSomeAnd o (λ tree. Unit {0})) (sym up) tt), rest.hosted_all);
              own = of_both (cluster w ticket setting) (cast w ticket setting) m hosts halted
                  (hosts_after (cluster w ticket setting) (cast w ticket setting) halted rest.entries)
                  (moved_one w ticket setting m below hosts _ hosts.sent (λ l h. h)) rest.own;
              here = rest.here;
              at_cut = tt;
              released = λ z r. ⊎_elim (λ (a : ⊥). absurd a) (λ b. rest.released z b) r;
              read = λ k t r. ⊎_elim (λ (a : ⊥). absurd a) (λ b. rest.read k t b) r;
              started = λ v r. ⊎_elim (λ (a : ⊥). absurd a) (λ b. rest.started v b) r;
            }
