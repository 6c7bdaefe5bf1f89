-- What a turn changes, deed by deed, is what its entries change.
use Rattle.std.proofs.Common.{◌≡◌, ℕ, ◌+◌, ◌<◌, ◌≤◌, ◌^◌, List, [], ◌∷◌, ◌++◌, length, take, get_or, refl, sym, ap, ◌∙◌, subst, arith}
use Rattle.std.specs.Prelude.{Option, Ok, Bool, true, false}
use Rattle.std.proofs.lemmas.List.{append-nil, append_assoc, length-take, map-append, take_more, with_items_is}
use Rattle.std.specs.Vec.{with_items}
use Rattle.booth_keys.specs.declared.ring.Ring.{Ring}
use Rattle.booth_base.specs.Tree.{Deeds, Ends, Does, Leads}
use Rattle.booth_conf.specs.Config.{ConfigSays}
use Rattle.booth_rec.specs.declared.record.Record.{Record}
use Rattle.booth_host.specs.declared.entry.Entry.{Entry}
use Rattle.booth_host.specs.declared.entry.Entry.TheVariants as calls
use Rattle.booth_host.specs.declared.memory.MemoryHost.{MemoryHost}
use Rattle.booth_node.specs.declared.node.Node.{Node}
use Rattle.booth_node.specs.Reaction.{Ask, Send, Keep, Start, IsDone}
use Rattle.booth_node.specs.Session.{Makes}
use Rattle.booth_node.specs.State.{State}
use Rattle.booth_node.specs.View.{node_config, state_of}
use Rattle.booth_node.specs.World.{WorldEntry}
use Rattle.booth_sim.specs.declared.daemon.Coming.{Coming}
use Rattle.booth_sim.specs.declared.daemon.Daemon.{Daemon}
use Rattle.booth_sim.specs.declared.frames.SentFrame.{SentFrame}
use Rattle.booth_sim.specs.declared.summary.Summary.{Summary}
use Rattle.booth_sim.specs.Counts.{is_delivery, one_if}
use Rattle.booth_sim.specs.Simulation.{entry_at, made_at}
use Rattle.booth_sim.specs.Standing.{IsCounted, IsSeen, RisesByOne, TookTurn}
use Rattle.booth_sim.specs.Turning.{MadeTurn, NoneArrives, Sees}
use Rattle.booth_sim.proofs.ClusterCounts.{frames_stay, kept_stay, next_counted, now_counted}

-- ---- deeds

pub sees_none : (config : ConfigSays) (place : ℕ) (kept : List (Option Record)) (sent : List SentFrame) (counted : Summary)
    → Sees config place [] kept kept sent sent counted counted
sees_none config place kept sent counted = record {
  sees = λ before time none is. subst (λ (es : List WorldEntry). IsSeen config es place kept sent counted) (sym (append-nil before)) is;
  all = refl;
  grows = record {
    arrived = omega arith;
    started = omega arith;
    gained = omega arith;
    released = omega arith;
    events = refl;
    number = refl;
    most = refl;
  };
}

-- what one deed of the member at a place changes
abbrev pub SeesOne : ConfigSays → ℕ → Entry → List (Option Record) → List (Option Record) → List SentFrame → List SentFrame
    → Summary → Summary → Type 0
SeesOne config place call old new sent kept counted now =
    (before : List WorldEntry) (time : ℕ) → is_delivery config (Makes call) ≡ false → IsSeen config before place old sent counted
    → IsSeen config (before ++ entry_at place time (Makes call) ∷ []) place new kept now

none_of_more : (config : ConfigSays) (deeds : List Entry) (call : Entry) → NoneArrives config (deeds ++ call ∷ [])
    → NoneArrives config deeds × (is_delivery config (Makes call) ≡ false)
none_of_more config [] call none = (tt, none.0)
none_of_more config (deed ∷ deeds) call none =
    let rest = none_of_more config deeds call none.1 in ((none.0, rest.0), rest.1)

sees_more : (config : ConfigSays) (place : ℕ) (deeds : List Entry) (call : Entry) (first old new : List (Option Record))
    (start sent kept : List SentFrame) (zeroth counted now : Summary) → Sees config place deeds first old start sent zeroth counted
    → SeesOne config place call old new sent kept counted now → length new ≡ length old → RisesByOne counted now
    → Sees config place (deeds ++ call ∷ []) first new start kept zeroth now
sees_more config place deeds call first old new start sent kept zeroth counted now sees one all rises = record {
  sees = λ before time none is.
      subst (λ (es : List WorldEntry). IsSeen config es place new kept now)
      (append_assoc before (made_at place time deeds) (entry_at place time (Makes call) ∷ [])
      ∙ ap (λ (es : List WorldEntry). before ++ es) (sym (map-append (λ (c : Entry). entry_at place time (Makes c)) deeds (call ∷ []))))
      (one (before ++ made_at place time deeds) time (none_of_more config deeds call none).1
      (sees.sees before time (none_of_more config deeds call none).0 is));
  all = all ∙ sees.all;
  grows = record {
    arrived = let a = sees.grows.arrived in let b = rises.delivered in omega (arith, a, b);
    started = let a = sees.grows.started in let b = rises.restarts in omega (arith, a, b);
    gained = let a = sees.grows.gained in let b = rises.gains in let n = longer deeds call in omega (arith, a, b, n);
    released = let a = sees.grows.released in let b = rises.releases in let n = longer deeds call in omega (arith, a, b, n);
    events = rises.events ∙ sees.grows.events;
    number = rises.number ∙ sees.grows.number;
    most = rises.most ∙ sees.grows.most;
  };
}
  where
    longer : (xs : List Entry) (x : Entry) → length (xs ++ x ∷ []) ≡ length xs + 1
    longer [] x = refl
    longer (y ∷ xs) x = let rest = longer xs x in omega (arith, rest)

-- the deed at a place of the list
pub sees_next : (config : ConfigSays) (place : ℕ) (deeds : List Entry) (i : ℕ) (call : Entry) (first old new : List (Option Record))
    (start sent kept : List SentFrame) (zeroth counted now : Summary) → i < length deeds → call ≡ get_or deeds i call
    → Sees config place (take i deeds) first old start sent zeroth counted
    → SeesOne config place call old new sent kept counted now → length new ≡ length old → RisesByOne counted now
    → Sees config place (take (i + 1) deeds) first new start kept zeroth now
sees_next config place deeds i call first old new start sent kept zeroth counted now below is sees one all rises =
    subst (λ (ds : List Entry). Sees config place ds first new start kept zeroth now)
    (sym (take_more deeds i call below ∙ ap (λ (c : Entry). take i deeds ++ c ∷ []) (sym is)))
    (sees_more config place (take i deeds) call first old new start sent kept zeroth counted now sees one all rises)

-- a deed has room where all deeds have
pub has_room : (deeds : List Entry) (i old now room : ℕ) → i < length deeds → now ≤ old + length (take i deeds) → old + length deeds < room
    → now + 1 < room
has_room deeds i old now room below rose all = let n = length-take i deeds in omega (arith, below, rose, all, n)

-- ---- a turn

-- the deeds of a turn bring no frame
deeds_bring_none : (config : ConfigSays) (ring : Option Ring) (deeds left : Deeds Ask State) (entries : List Entry)
    → Leads (IsDone ring) deeds entries left → NoneArrives config entries
deeds_bring_none config ring deeds left [] leads = tt
deeds_bring_none config ring (Ends state) left (call ∷ entries) leads = absurd leads
deeds_bring_none config ring (Does ask go) left (call ∷ entries) leads =
    (deed ring ask leads.0 call leads.1, deeds_bring_none config ring (go leads.0) left entries leads.2)
  where
    deed : (k : Option Ring) (a : Ask) (ok : Bool) (c : Entry) → IsDone k a ok c → is_delivery config (Makes c) ≡ false
    deed k (Send peer message) ok (calls.Send to bytes answer) d = refl
    deed k (Keep name tried) ok (calls.Keep ticket rec answer) d = refl
    deed k (Start job) ok (calls.Start number ticket handler local expires answer) d = refl
    deed k (Send peer message) ok c d = absurd d
    deed k (Keep name tried) ok c d = absurd d
    deed k (Start job) ok c d = absurd d

pub made_turn : (config : ConfigSays) (place : ℕ) (coming : Coming) (old new : Daemon) (sent kept : List SentFrame)
    (counted mid now : Summary) (deeds : List Entry)
    → node_config new.node ≡ node_config old.node
    → TookTurn (node_config old.node) (state_of old.node) (state_of new.node) coming deeds → length deeds < 2 ^ 32
    → mid ≡ record counted { delivered = counted.delivered + one_if (is_delivery config (Makes (calls.Next 100 (Ok coming.arrival) []))) }
    → Sees config place deeds old.kept.items new.kept.items sent kept mid now
    → MadeTurn config place coming old new sent kept counted now
made_turn config place coming old new sent kept counted mid now deeds same took few arrived sees = record {
  deeds = deeds;
  node = same;
  took = took;
  sees = λ before time is.
      subst (λ (es : List WorldEntry). IsSeen config es place new.kept.items kept now)
      (append_assoc (before ++ next time ∷ []) (read time ∷ []) (made_at place time deeds)
      ∙ append_assoc before (next time ∷ []) (read time ∷ made_at place time deeds))
      (sees.sees ((before ++ next time ∷ []) ++ read time ∷ []) time
      (deeds_bring_none config (node_config old.node).ring _ (Ends (state_of new.node)) deeds took.turn.2) (after_read (before ++ next time ∷ []) time (after_next before time is)));
  grows = record {
    arrived = let a = sees.grows.arrived in let b = ap (λ (s : Summary). s.delivered) arrived in
        let c = one_at_most (is_delivery config (Makes (calls.Next 100 (Ok coming.arrival) []))) in omega (arith, a, b, c);
    started = let a = sees.grows.started in let b = ap (λ (s : Summary). s.restarts) arrived in omega (arith, a, b);
    gained = let a = sees.grows.gained in let b = ap (λ (s : Summary). s.gains) arrived in omega (arith, a, b, few);
    released = let a = sees.grows.released in let b = ap (λ (s : Summary). s.releases) arrived in omega (arith, a, b, few);
    events = sees.grows.events ∙ ap (λ (s : Summary). s.events) arrived;
    number = sees.grows.number ∙ ap (λ (s : Summary). s.number) arrived;
    most = sees.grows.most ∙ ap (λ (s : Summary). s.most_holders) arrived;
  };
}
  where
    next : ℕ → WorldEntry
    next time = entry_at place time (Makes (calls.Next 100 (Ok coming.arrival) coming.bytes.now))

    read : ℕ → WorldEntry
    read time = entry_at place time (Makes (calls.Now coming.reading))

    one_at_most : (b : Bool) → one_if b ≤ 1
    one_at_most true = omega arith
    one_at_most false = omega arith

    after_next : (before : List WorldEntry) (time : ℕ) → IsSeen config before place old.kept.items sent counted
        → IsSeen config (before ++ next time ∷ []) place old.kept.items sent mid
    after_next before time is = record {
      records = is.records ∙ sym (kept_stay config.tickets before (next time) (λ name kept. refl));
      sent = is.sent ∙ sym (frames_stay config before (next time) refl);
      counted = subst (λ (s : Summary). IsCounted config (before ++ next time ∷ []) s) (sym arrived)
          (next_counted config before place time coming.arrival coming.bytes.now counted is.counted);
    }

    after_read : (before : List WorldEntry) (time : ℕ) → IsSeen config before place old.kept.items sent mid
        → IsSeen config (before ++ read time ∷ []) place old.kept.items sent mid
    after_read before time is = record {
      records = is.records ∙ sym (kept_stay config.tickets before (read time) (λ name kept. refl));
      sent = is.sent ∙ sym (frames_stay config before (read time) refl);
      counted = now_counted config before place time coming.reading mid is.counted;
    }

-- the same of a daemon whose parts were taken apart
pub turn_made : (config : ConfigSays) (place : ℕ) (coming : Coming) (old : Daemon) (node : Node) (host : MemoryHost)
    (first items : List (Option Record)) (sent kept : List SentFrame) (counted mid now : Summary) (deeds : List Entry)
    → node_config node ≡ node_config old.node → TookTurn (node_config old.node) (state_of old.node) (state_of node) coming deeds
    → length deeds < 2 ^ 32
    → mid ≡ record counted { delivered = counted.delivered + one_if (is_delivery config (Makes (calls.Next 100 (Ok coming.arrival) []))) }
    → first ≡ old.kept.items → Sees config place deeds first items sent kept mid now
    → MadeTurn config place coming old (record { node = node; host = host; kept = with_items old.kept items }) sent kept counted now
turn_made config place coming old node host first items sent kept counted mid now deeds same took few arrived all sees =
    made_turn config place coming old (record { node = node; host = host; kept = with_items old.kept items }) sent kept counted mid now deeds
    same took few arrived
    (subst (λ (ks : List (Option Record)). Sees config place deeds old.kept.items ks sent kept mid now)
    (sym (with_items_is old.kept items (sees.all ∙ ap (λ (ks : List (Option Record)). length ks) all ∙ sym old.kept.ok.0)))
    (subst (λ (ks : List (Option Record)). Sees config place deeds ks items sent kept mid now) all sees))
