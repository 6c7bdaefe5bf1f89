-- Entries of the lease cores make a run of the world, and so the laws hold of them.
use Rattle.std.proofs.Common.{◌≡◌, ◌≢◌, ℕ, ◌^◌, ◌<◌, ◌≤◌, List, [], ◌∷◌, ◌++◌, Bool, true, false, refl, sym, ap, ◌∙◌, subst, inl, inr, ⊎_elim, arith}
use Rattle.std.specs.Prelude.{Option, Some, None, ◌==◌, if◌then◌else◌}
use Rattle.std.specs.Option.{ForSome}
use Rattle.std.proofs.lemmas.Bool.Decides.{nat_tests}
use Rattle.booth_rec.specs.declared.record.Record.{Record}
use Rattle.booth_wire.specs.declared.message.Say.{Say}
use Rattle.booth_wire.specs.declared.message.Say.TheVariants as says
use Rattle.booth_raft.specs.declared.view.View.{View}
use Rattle.booth_raft.specs.Facts.{ViewFacts}
use Rattle.booth_raft.specs.AskAndRenew.{finish}
use Rattle.booth_raft.specs.StartAndLearn.{started}
use Rattle.booth_raft.proofs.HeardLemmas.{start_facts, hear_good}
use Rattle.booth_raft.proofs.KeptLemmas.{ask_good, finish_good, release_good, renew_good}
use Rattle.booth_raft.proofs.DueLemmas.{due_now_good, greeted_facts, noted_facts}
use Rattle.booth_world.specs.Reading.{MayBeRead, IsLaterOrKept}
use Rattle.booth_world.specs.Facts.{Has, Round, Answer, Gain, Release, Facts}
use Rattle.booth_world.specs.States.{MemberState, WorldState, opening, put, Cluster, HasClocks, HasPhases, IsIn, reads}
use Rattle.booth_world.specs.Lives.{reading_clock, crashing}
use Rattle.booth_world.specs.Steps.{WorldStep, ReadsClock, Crashes, MemberDoes, Passes, IsRun, AreSecond, after_steps, world_of}
use Rattle.booth_world.specs.Agreement.{IsSeated, records_in, Agrees}
use Rattle.booth_world.specs.Messages.{IsFact, IsSaid}
use Rattle.booth_world.specs.Gives.{Mark, AddsOnly, IsMarkedRound, IsMarkedAnswer, IsMarkedGain, Given, given_by, may_answered, releases_answered}
use Rattle.booth_world.specs.Calls.{mark_at, Caller, IsMember, MayCall, Gives, GivesIn}
use Rattle.booth_world.specs.Stability.{InSession}
use Rattle.booth_world.proofs.HearSteps.{untrue}
use Rattle.booth_world.specs.Rules.{MemberMessage, CoreCall, Asks, Hears, Greets, MeetsDeadline, MakesNote, RenewsLease, GivesBack, lease_call}
use Rattle.booth_world.specs.Cores.{IsInTime, Session, CoreEntry, ReadsTime, CallsCore, HasAnswer, Stops, StartsWith, CorePlace, Cores, opening_cores, Cast, IsCast, MayCallCore, MayEnter, said_more, has_given, after_call, after_answer, mark_in, entered, AreEntered, cores_after, setup_in, TimePasses}
use Rattle.booth_world.proofs.Lists.{none_is, some_same, put_all}
use Rattle.booth_world.proofs.Invariant.{Good}
use Rattle.booth_world.proofs.AskSteps.{the_value}
use Rattle.booth_world.proofs.CallSteps.{calls_are_steps, good_world}
use Rattle.booth_world.proofs.StabilityLemmas.{agreement_stays, calls_lead_on, runs_append}

-- what holds of the moved one of each of two, and of each other, holds of all
put_both : {A B : Type 0} (Q : ℕ → A → B → Type 0) (f : ℕ → A) (g : ℕ → B) (m : ℕ) (x : A) (y : B) → Q m x y → ((k : ℕ) → k ≢ m → Q k (f k) (g k)) → (k : ℕ) → Q k (put f m x k) (put g m y k)
put_both {A} {B} Q f g m x y here there k = go (k == m) refl
  where
    go : (b : Bool) → (k == m) ≡ b → Q k (if b then x else f k) (if b then y else g k)
    go true e = let same : m ≡ k = grind (arith, nat_tests) in subst (λ (j : ℕ). Q j x y) same here
    go false e = there k (grind (arith, nat_tests))

-- ---- the relation

-- a member's place and its state
pub record CorePlaceHolds (c : Cluster) (cast : Cast) (f : Facts) (m : ℕ) (x : MemberState) (s : CorePlace) : Type 0 where
  pub same_may : records_in cast.id_of x.may ≡ s.may
  pub same_second : x.second ≡ s.session.second
  pub same_phase : x.phase ≡ s.session.phase
  pub same_reading : x.reading ≡ s.reading
  pub same_at : x.at ≡ s.at
  pub down : s.view ≡ None → x.up ≡ false
  pub agrees : (view : View) → s.view ≡ Some view → Agrees c cast.id_of f m view x
  pub view_facts : (view : View) → s.view ≡ Some view → ViewFacts (cast.setup m s.session) view

-- each round, answer and lease bears the mark of an entry
pub record IsMarked (marks : List Mark) (f : Facts) : Type 0 where
  pub rounds : (r : Round) → Has f.rounds r → (mark : Mark) × (Has marks mark) × IsMarkedRound mark r
  pub answers : (a : Answer) → Has f.answers a → (mark : Mark) × (Has marks mark) × IsMarkedAnswer mark a
  pub leases : (g : Gain) → Has f.leases g → (mark : Mark) × (Has marks mark) × IsMarkedGain mark g

marks_more : (mark : Mark) (marks : List Mark) (releases : List Release) (f f' : Facts) → IsMarked marks f → AddsOnly mark releases f f' → IsMarked (mark ∷ marks) f'
marks_more mark marks releases f f' i adds = record {
  rounds = λ r h. ⊎_elim
      (λ (old : Has f.rounds r). let q = i.rounds r old in (q.0, inr q.1, q.2))
      (λ (new : IsMarkedRound mark r). (mark, inl refl, new)) (adds.rounds r h);
  answers = λ r h. ⊎_elim
      (λ (old : Has f.answers r). let q = i.answers r old in (q.0, inr q.1, q.2))
      (λ (new : IsMarkedAnswer mark r). (mark, inl refl, new)) (adds.answers r h);
  leases = λ r h. ⊎_elim
      (λ (old : Has f.leases r). let q = i.leases r old in (q.0, inr q.1, q.2))
      (λ (new : IsMarkedGain mark r). (mark, inl refl, new)) (adds.leases r h);
}

-- all members, what was said, what was released, and the marks
pub record CoresHold (c : Cluster) (cast : Cast) (cores : Cores) (w : WorldState) : Type 0 where
  pub same_now : w.now ≡ cores.now
  pub each : (m : ℕ) → m < c.members → CorePlaceHolds c cast w.facts m (w.member m) (cores.place m)
  pub heard_now : (l : MemberMessage) → Has cores.said l
      → (l.sender < c.members) × IsFact cast.id_of w.facts l.sender l.head l.part l.head.cmd
  pub same_releases : w.facts.releases ≡ cores.releases
  pub marked : IsMarked cores.marks w.facts

-- more steps lead to a world that is related; where this is so they start in version 2 alone
pub record Reached (c : Cluster) (cast : Cast) (cores : Cores) (steps : List WorldStep) (IsSecond : Type 0) : Type 0 where
  pub more : List WorldStep
  pub all_second : IsSecond → AreSecond more
  pub run : IsRun c (opening c) (steps ++ more)
  pub holds : CoresHold c cast cores (world_of c (steps ++ more))

goes_on : (c : Cluster) (cast : Cast) (cores : Cores) (steps more : List WorldStep) (IsSecond : Type 0) → (IsSecond → AreSecond more) → IsRun c (opening c) steps → IsRun c (world_of c steps) more
    → CoresHold c cast cores (after_steps c (world_of c steps) more) → Reached c cast cores steps IsSecond
goes_on c cast cores steps more IsSecond second run further holds = record {
  more = more;
  all_second = second;
  run = runs_append.run c (opening c) steps more run further;
  holds = subst (λ (w : WorldState). CoresHold c cast cores w) (sym (runs_append.world c (opening c) steps more)) holds;
}

append_assoc : (a b d : List WorldStep) → (a ++ b) ++ d ≡ a ++ (b ++ d)
append_assoc [] b d = refl
append_assoc (x ∷ a) b d = ap (λ (l : List WorldStep). x ∷ l) (append_assoc a b d)

pub second_append : (a b : List WorldStep) → AreSecond a → AreSecond b → AreSecond (a ++ b)
second_append [] b x y = y
second_append (step ∷ a) b x y = (x.0, second_append a b x.1 y)

append_none : (a : List WorldStep) → a ++ [] ≡ a
append_none [] = refl
append_none (x ∷ a) = ap (λ (l : List WorldStep). x ∷ l) (append_none a)

module _ (c : Cluster) (cast : Cast) (clocks : HasClocks c) (phases : HasPhases c) (is_cast : IsCast c cast) where
  pub opens : CoresHold c cast (opening_cores c cast) (opening c)
  opens = record {
    same_now = refl;
    each = λ m below. record {
      same_may = refl;
      same_second = refl;
      same_phase = refl;
      same_reading = refl;
      same_at = refl;
      down = λ e. refl;
      agrees = λ v e. absurd (none_is v e);
      view_facts = λ v e. absurd (none_is v e);
    };
    heard_now = λ l h. absurd h;
    same_releases = refl;
    marked = record { rounds = λ r h. absurd h; answers = λ r h. absurd h; leases = λ r h. absurd h };
  }

  -- ---- what a core gives

  others_stay : (f f' : Facts) (m : ℕ) (x y : MemberState) (s : CorePlace) → y ≡ x
      → ((view : View) → Agrees c cast.id_of f m view x → Agrees c cast.id_of f' m view y)
      → CorePlaceHolds c cast f m x s → CorePlaceHolds c cast f' m y s
  others_stay f f' m x y s same agree i = record {
    same_may = ap (λ (x : MemberState). records_in cast.id_of x.may) same ∙ i.same_may;
    same_second = ap (λ (x : MemberState). x.second) same ∙ i.same_second;
    same_phase = ap (λ (x : MemberState). x.phase) same ∙ i.same_phase;
    same_reading = ap (λ (x : MemberState). x.reading) same ∙ i.same_reading;
    same_at = ap (λ (x : MemberState). x.at) same ∙ i.same_at;
    down = λ e. ap (λ (x : MemberState). x.up) same ∙ i.down e;
    agrees = λ view e. agree view (i.agrees view e);
    view_facts = i.view_facts;
  }

  messages_hold : (f : Facts) (m : ℕ) (say : Say) (said : List MemberMessage) → m < c.members → IsSaid cast.id_of f m say
      → ((l : MemberMessage) → Has said l → (l.sender < c.members) × IsFact cast.id_of f l.sender l.head l.part l.head.cmd)
      → (l : MemberMessage) → Has (said_more m say said) l → (l.sender < c.members) × IsFact cast.id_of f l.sender l.head l.part l.head.cmd
  messages_hold f m says.Nothing said below fact old l h = old l h
  messages_hold f m (says.All head part) said below fact old l h = ⊎_elim
      (λ (e : record { sender = m; head = head; part = part } ≡ l). subst (λ (l : MemberMessage). (l.sender < c.members) × IsFact cast.id_of f l.sender l.head l.part l.head.cmd) e (below, fact))
      (λ (i : Has said l). old l i) h
  messages_hold f m (says.Unanswered head part members) said below fact old l h = ⊎_elim
      (λ (e : record { sender = m; head = head; part = part } ≡ l). subst (λ (l : MemberMessage). (l.sender < c.members) × IsFact cast.id_of f l.sender l.head l.part l.head.cmd) e (below, fact))
      (λ (i : Has said l). old l i) h
  messages_hold f m (says.Reply head part) said below fact old l h = ⊎_elim
      (λ (e : record { sender = m; head = head; part = part } ≡ l). subst (λ (l : MemberMessage). (l.sender < c.members) × IsFact cast.id_of f l.sender l.head l.part l.head.cmd) e (below, fact))
      (λ (i : Has said l). old l i) h

  same_mark : (cores : Cores) (w : WorldState) (m : ℕ) → CoresHold c cast cores w → m < c.members → mark_at w m ≡ mark_in cores m
  same_mark cores w m i below = λ j. record {
    member = m;
    second = (i.each m below).same_second j;
    phase = (i.each m below).same_phase j;
    reading = (i.each m below).same_reading j;
    at = (i.each m below).same_at j;
    now = i.same_now j;
  }

  given_holds : (cores : Cores) (steps : List WorldStep) (m : ℕ) (session : Session) (given : Given) → IsRun c (opening c) steps → CoresHold c cast cores (world_of c steps)
      → m < c.members → InSession c (world_of c steps) m session.phase → GivesIn session.second session.phase c cast.id_of (world_of c steps) m given → ViewFacts (cast.setup m session) given.view
      → Reached c cast (has_given cores m session given) steps (session.second ≡ true)
  given_holds cores steps m session given run i below set gives view_facts =
      let w = world_of c steps in
      let call = calls_lead_on c cast.id_of w m session.second session.phase given below set gives in
      let next = call.2 in
      let z = after_steps c w call.0 in
      goes_on c cast (has_given cores m session given) steps call.0 (session.second ≡ true) call.3 run call.1
      (record {
        same_now = next.same_time ∙ i.same_now;
        each = put_all (λ (k : ℕ) (s : CorePlace). k < c.members → CorePlaceHolds c cast z.facts k (z.member k) s)
            cores.place m (record (cores.place m) { view = Some given.view; session = session; may = given.may })
            (λ within. record {
              same_may = next.reached.may_now;
              same_second = next.reached.same_second;
              same_phase = next.reached.same_phase;
              same_reading = next.reached.same_reading ∙ (i.each m below).same_reading;
              same_at = next.reached.same_at ∙ (i.each m below).same_at;
              down = λ e. absurd (none_is given.view (sym e));
              agrees = λ view e. subst (λ (v : View). Agrees c cast.id_of z.facts m v (z.member m)) (some_same given.view view e) next.reached.agrees;
              view_facts = λ view e. subst (λ (v : View). ViewFacts (cast.setup m session) v) (some_same given.view view e) view_facts;
            })
            (λ k other within. others_stay w.facts z.facts k (w.member k) (z.member k) (cores.place k) (next.unmoved k other)
            (λ view a. next.others_agree k view other a) (i.each k within));
        heard_now = messages_hold z.facts m given.say cores.said below next.reached.said
            (λ l h. let q = i.heard_now l h in (q.0, next.said_on l.sender l.head l.part l.head.cmd q.1));
        same_releases = next.adds.releases_now;
        marked = subst (λ (mark : Mark). IsMarked (record mark { second = session.second; phase = session.phase } ∷ cores.marks) z.facts) (same_mark cores w m i below)
            (marks_more (record (mark_at w m) { second = session.second; phase = session.phase }) cores.marks given.releases w.facts z.facts i.marked next.adds);
      })

  placed_in : (cores : Cores) (w : WorldState) (m : ℕ) (view : View) → CoresHold c cast cores w → m < c.members → (cores.place m).view ≡ Some view
      → Good c w → IsIn c (cores.place m).session.phase m
  placed_in cores w m view i below e good =
      let one = i.each m below in
      subst (λ (p : ℕ). IsIn c p m) one.same_phase ((good.each m).session (one.agrees view e).up).1

  -- a member that is up is in its session
  in_session : (cores : Cores) (w : WorldState) (m : ℕ) (view : View) → CoresHold c cast cores w → m < c.members → (cores.place m).view ≡ Some view
      → Good c w → IsInTime c cores m → InSession c w m (cores.place m).session.phase
  in_session cores w m view i below e good timely =
      let one = i.each m below in
      let s = (good.each m).session (one.agrees view e).up in record {
        opened = subst (λ (p : ℕ). (c.phase p).opens ≤ (w.member m).at) one.same_phase s.0;
        past = (good.each m).clock.past;
        timely = let n = i.same_now in omega (arith, n, timely);
        placed = placed_in cores w m view i below e good;
        own = λ up. one.same_phase;
      }

  member_in : (cores : Cores) (w : WorldState) (m : ℕ) (view : View) → CoresHold c cast cores w → m < c.members → (cores.place m).view ≡ Some view
      → Good c w → IsInTime c cores m
      → IsMember c w (record { id_of = cast.id_of; place = m; setup = setup_in cast cores m; view = view })
  member_in cores w m view i below e good timely = record {
    ids = is_cast.ids;
    below = below;
    seated = subst (λ (b : Bool). IsSeated c cast.id_of m b (w.member m).phase (setup_in cast cores m)) (sym (i.each m below).same_second)
        (subst (λ (p : ℕ). IsSeated c cast.id_of m (cores.place m).session.second p (setup_in cast cores m)) (sym (i.each m below).same_phase)
        (is_cast.seated m below (cores.place m).session (placed_in cores w m view i below e good)));
    timely = subst (λ (p : ℕ). w.now ≤ (c.phase p).closes) (sym (i.each m below).same_phase) (let n = i.same_now in omega (arith, n, timely));
    sound = is_cast.sound m below (cores.place m).session (placed_in cores w m view i below e good);
    view_facts = (i.each m below).view_facts view e;
    agrees = (i.each m below).agrees view e;
  }

  early : (w : WorldState) (m : ℕ) → Good c w → m < c.members → (w.member m).reading < 2 ^ 62
  early w m g below =
      let k = (g.each m).clock in
      let a = k.past in
      let b = g.facts.within in
      let e = clocks.long m below in
      let s : reads c m (w.member m).at < 2 ^ 62 = (clocks.rising m below).small (w.member m).at (omega arith) in
      subst (λ (r : ℕ). r < 2 ^ 62) (sym k.clock) s

  -- ---- calls

  abbrev caller : Cores → ℕ → View → Caller
  caller cores m view = record { id_of = cast.id_of; place = m; setup = setup_in cast cores m; view = view }

  may_call : (cores : Cores) (w : WorldState) (m : ℕ) (view : View) (call : CoreCall) → CoresHold c cast cores w → m < c.members
      → MayCallCore c cast cores m view call → MayCall c w (caller cores m view) call
  may_call cores w m view (Asks reason) i below may = may
  may_call cores w m view (Hears message) i below may =
      let one = i.each m below in
      let q = i.heard_now _ may.0 in
      record {
        timely = one.same_at ∙ may.2 ∙ sym i.same_now;
        below = subst (λ (p : ℕ). message.sender < (c.phase p).seats.size) (sym one.same_phase) may.3;
        from = subst (λ (p : ℕ). message.head.from ≡ cast.id_of ((c.phase p).seats.number message.sender)) (sym one.same_phase) may.1;
        fact = subst (λ (p : ℕ). IsFact cast.id_of w.facts ((c.phase p).seats.number message.sender) message.head message.part message.head.cmd) (sym one.same_phase) q.1;
      }
  may_call cores w m view Greets i below may = tt
  may_call cores w m view MeetsDeadline i below may = tt
  may_call cores w m view (MakesNote note) i below may = tt
  may_call cores w m view RenewsLease i below may = may
  may_call cores w m view (GivesBack reason) i below may = may

  -- the session's version is the member's
  in_version : (cores : Cores) (w : WorldState) (m : ℕ) → CoresHold c cast cores w → m < c.members → (given : Given)
      → Gives c cast.id_of w m given → GivesIn (cores.place m).session.second (cores.place m).session.phase c cast.id_of w m given
  in_version cores w m i below given gives =
      subst (λ (p : ℕ). GivesIn (cores.place m).session.second p c cast.id_of w m given) (i.each m below).same_phase
      (subst (λ (b : Bool). GivesIn b (w.member m).phase c cast.id_of w m given) (i.each m below).same_second gives)

  call_facts : (cores : Cores) (m : ℕ) (view : View) (now : ℕ) (call : CoreCall) → view.waiting ≡ None → MayCallCore c cast cores m view call → now < 2 ^ 62 → ViewFacts (setup_in cast cores m) view
      → ViewFacts (setup_in cast cores m) (lease_call (setup_in cast cores m) view now call).view
  call_facts cores m view now (Asks reason) none may small facts = (ask_good (setup_in cast cores m) view reason now).facts
  call_facts cores m view now (Hears message) none may small facts =
      (hear_good (setup_in cast cores m) view message.sender message.head message.part now message.head.cmd none facts).facts
  call_facts cores m view now Greets none may small facts = greeted_facts (setup_in cast cores m) view facts
  call_facts cores m view now MeetsDeadline none may small facts = (due_now_good (setup_in cast cores m) view now none facts).facts
  call_facts cores m view now (MakesNote note) none may small facts = noted_facts (setup_in cast cores m) view now note none may facts
  call_facts cores m view now RenewsLease none may small facts = (renew_good (setup_in cast cores m) view now small none facts).facts
  call_facts cores m view now (GivesBack reason) none may small facts = (release_good (setup_in cast cores m) view reason now facts.round_fits).facts

  -- what the world gives is what the entries count
  called : (cores : Cores) (steps : List WorldStep) (m : ℕ) (view : View) (call : CoreCall) → IsRun c (opening c) steps
      → CoresHold c cast cores (world_of c steps) → m < c.members → (cores.place m).view ≡ Some view → view.waiting ≡ None → MayCallCore c cast cores m view call → IsInTime c cores m
      → Reached c cast (after_call cast cores m call (Some view)) steps ((cores.place m).session.second ≡ true)
  called cores steps m view call run i below e none may timely =
      let w = world_of c steps in
      let good = good_world c clocks phases steps run in
      let one = i.each m below in
      let gives = calls_are_steps.call_gives c clocks phases steps run _ (member_in cores w m view i below e good timely) none call (may_call cores w m view call i below may) in
      let by_reading = subst (λ (r : ℕ). Gives c cast.id_of w m (given_by (lease_call (setup_in cast cores m) view r call) (records_in cast.id_of (w.member m).may) w.facts.releases)) one.same_reading gives in
      let by_may = subst (λ (l : List Record). Gives c cast.id_of w m (given_by (lease_call (setup_in cast cores m) view (cores.place m).reading call) l w.facts.releases)) one.same_may by_reading in
      let by_all = subst (λ (l : List Release). Gives c cast.id_of w m (given_by (lease_call (setup_in cast cores m) view (cores.place m).reading call) (cores.place m).may l)) i.same_releases by_may in
      given_holds cores steps m (cores.place m).session _ run i below (in_session cores w m view i below e good timely) (in_version cores w m i below _ by_all)
      (call_facts cores m view (cores.place m).reading call none may
      (subst (λ (r : ℕ). r < 2 ^ 62) one.same_reading (early w m good below)) (one.view_facts view e))

  answered : (cores : Cores) (steps : List WorldStep) (m : ℕ) (view : View) (ok : Bool) → IsRun c (opening c) steps
      → CoresHold c cast cores (world_of c steps) → m < c.members → (cores.place m).view ≡ Some view → IsInTime c cores m
      → Reached c cast (after_answer cast cores m ok (Some view)) steps ((cores.place m).session.second ≡ true)
  answered cores steps m view ok run i below e timely =
      let w = world_of c steps in
      let good = good_world c clocks phases steps run in
      let one = i.each m below in
      let gives = calls_are_steps.answer_gives c clocks phases steps run _ (member_in cores w m view i below e good timely) ok in
      let by_reading = subst (λ (r : ℕ). Gives c cast.id_of w m (given_by (finish (setup_in cast cores m) view r ok) (may_answered view.waiting ok (records_in cast.id_of (w.member m).may)) (releases_answered (record { member = m; second = (w.member m).second; phase = (w.member m).phase; reading = r; at = (w.member m).at; now = w.now }) view.waiting ok w.facts.releases))) one.same_reading gives in
      let by_at = subst (λ (t : ℕ). Gives c cast.id_of w m (given_by (finish (setup_in cast cores m) view (cores.place m).reading ok) (may_answered view.waiting ok (records_in cast.id_of (w.member m).may)) (releases_answered (record { member = m; second = (w.member m).second; phase = (w.member m).phase; reading = (cores.place m).reading; at = t; now = w.now }) view.waiting ok w.facts.releases))) one.same_at by_reading in
      let by_now = subst (λ (t : ℕ). Gives c cast.id_of w m (given_by (finish (setup_in cast cores m) view (cores.place m).reading ok) (may_answered view.waiting ok (records_in cast.id_of (w.member m).may)) (releases_answered (record { member = m; second = (w.member m).second; phase = (w.member m).phase; reading = (cores.place m).reading; at = (cores.place m).at; now = t }) view.waiting ok w.facts.releases))) i.same_now by_at in
      let by_version = subst (λ (b : Bool). Gives c cast.id_of w m (given_by (finish (setup_in cast cores m) view (cores.place m).reading ok) (may_answered view.waiting ok (records_in cast.id_of (w.member m).may)) (releases_answered (record { member = m; second = b; phase = (w.member m).phase; reading = (cores.place m).reading; at = (cores.place m).at; now = cores.now }) view.waiting ok w.facts.releases))) one.same_second by_now in
      let by_phase = subst (λ (p : ℕ). Gives c cast.id_of w m (given_by (finish (setup_in cast cores m) view (cores.place m).reading ok) (may_answered view.waiting ok (records_in cast.id_of (w.member m).may)) (releases_answered (record { member = m; second = (cores.place m).session.second; phase = p; reading = (cores.place m).reading; at = (cores.place m).at; now = cores.now }) view.waiting ok w.facts.releases))) one.same_phase by_version in
      let by_may = subst (λ (l : List Record). Gives c cast.id_of w m (given_by (finish (setup_in cast cores m) view (cores.place m).reading ok) (may_answered view.waiting ok l) (releases_answered (mark_in cores m) view.waiting ok w.facts.releases))) one.same_may by_phase in
      let by_all = subst (λ (l : List Release). Gives c cast.id_of w m (given_by (finish (setup_in cast cores m) view (cores.place m).reading ok) (may_answered view.waiting ok (cores.place m).may) (releases_answered (mark_in cores m) view.waiting ok l))) i.same_releases by_may in
      given_holds cores steps m (cores.place m).session _ run i below (in_session cores w m view i below e good timely) (in_version cores w m i below _ by_all)
      (finish_good (setup_in cast cores m) view (cores.place m).reading ok
      (subst (λ (r : ℕ). r < 2 ^ 62) one.same_reading (early w m good below)) (one.view_facts view e)).facts

  -- ---- time, and lives

  time_passed : (cores : Cores) (steps : List WorldStep) (time : ℕ) → IsRun c (opening c) steps → CoresHold c cast cores (world_of c steps)
      → cores.now ≤ time → time < c.span → Reached c cast (entered c cast cores (TimePasses time)) steps (Unit {0})
  time_passed cores steps time run i later within =
      goes_on c cast (entered c cast cores (TimePasses time)) steps (Passes time ∷ []) (Unit {0}) (λ so. (tt, tt)) run
      (record { later = let e = i.same_now in omega (arith, e, later); within = within }, tt)
      (record { same_now = refl; each = i.each; heard_now = i.heard_now; same_releases = i.same_releases; marked = i.marked })

  time_read : (cores : Cores) (steps : List WorldStep) (m time : ℕ) → IsRun c (opening c) steps → CoresHold c cast cores (world_of c steps)
      → m < c.members → cores.now ≤ time → time < c.span → ((cores.place m).session.second ≡ true → ForSome (cores.place m).view (λ view. view.waiting ≡ None))
      → Reached c cast (entered c cast cores (ReadsTime m time)) steps (Unit {0})
  time_read cores steps m time run i below later within idle =
      let w = world_of c steps in
      goes_on c cast (entered c cast cores (ReadsTime m time)) steps (Passes time ∷ MemberDoes m ReadsClock ∷ []) (Unit {0}) (λ so. (tt, (tt, tt))) run
      (record { later = let e = i.same_now in omega (arith, e, later); within = within }, ((below, tt, tt), tt))
      (record {
        same_now = refl;
        each = put_both (λ (k : ℕ) (x : MemberState) (s : CorePlace). k < c.members → CorePlaceHolds c cast w.facts k x s)
            w.member cores.place m (reading_clock c time m (w.member m)) (record (cores.place m) { reading = reads c m time; at = time })
            (λ inside. record {
              same_may = (i.each m below).same_may;
              same_second = (i.each m below).same_second;
              same_phase = (i.each m below).same_phase;
              same_reading = refl;
              same_at = refl;
              down = (i.each m below).down;
              agrees = λ view e. agreement_stays.clock_read c cast.id_of w.facts m time view (w.member m)
                  (λ second. idle (sym (i.each m below).same_second ∙ second) view e) ((i.each m below).agrees view e);
              view_facts = (i.each m below).view_facts;
            })
            (λ k other inside. i.each k inside);
        heard_now = i.heard_now;
        same_releases = i.same_releases;
        marked = i.marked;
      })

  stopped : (cores : Cores) (steps : List WorldStep) (m : ℕ) (view : View) → IsRun c (opening c) steps → CoresHold c cast cores (world_of c steps)
      → m < c.members → (cores.place m).view ≡ Some view → Reached c cast (entered c cast cores (Stops m)) steps (Unit {0})
  stopped cores steps m view run i below e =
      let w = world_of c steps in
      goes_on c cast (entered c cast cores (Stops m)) steps (MemberDoes m Crashes ∷ []) (Unit {0}) (λ so. (tt, tt)) run
      ((below, ((i.each m below).agrees view e).up, tt), tt)
      (record {
        same_now = i.same_now;
        each = put_both (λ (k : ℕ) (x : MemberState) (s : CorePlace). k < c.members → CorePlaceHolds c cast w.facts k x s)
            w.member cores.place m (crashing (w.member m)) (record (cores.place m) { view = None })
            (λ inside. record {
              same_may = (i.each m below).same_may;
              same_second = (i.each m below).same_second;
              same_phase = (i.each m below).same_phase;
              same_reading = (i.each m below).same_reading;
              same_at = (i.each m below).same_at;
              down = λ e. refl;
              agrees = λ v e. absurd (none_is v e);
              view_facts = λ v e. absurd (none_is v e);
            })
            (λ k other inside. i.each k inside);
        heard_now = i.heard_now;
        same_releases = i.same_releases;
        marked = i.marked;
      })

  starts_again : (cores : Cores) (steps : List WorldStep) (m : ℕ) (session : Session) (kept : Record) → IsRun c (opening c) steps → CoresHold c cast cores (world_of c steps)
      → m < c.members → (cores.place m).view ≡ None → MayBeRead (c.is_site m) (cores.place m).may kept → ((cores.place m).session.second ≡ true → session.second ≡ true)
      → (c.goes_on ≡ true → IsLaterOrKept (cores.place m).may kept)
      → (c.phase session.phase).opens ≤ (cores.place m).at → cores.now ≤ (c.phase session.phase).closes → IsIn c session.phase m → Reached c cast (entered c cast cores (StartsWith m session kept)) steps (session.second ≡ true)
  starts_again cores steps m session kept run i below down read stays on opened timely placed =
      let w = world_of c steps in
      let good = good_world c clocks phases steps run in
      let one = i.each m below in
      let gives = calls_are_steps.start_gives c clocks phases steps run cast.id_of m session.second session.phase (cast.setup m session) is_cast.ids below (is_cast.seated m below session placed) (one.down down) (λ was. stays (sym one.same_second ∙ was)) kept
      (subst (λ (l : List Record). MayBeRead (c.is_site m) l kept) (sym one.same_may) read)
      (λ going. subst (λ (l : List Record). IsLaterOrKept l kept) (sym one.same_may) (on going)) in
      let by_reading = subst (λ (r : ℕ). GivesIn session.second session.phase c cast.id_of w m (record { view = started (cast.setup m session) kept r; say = says.Nothing; may = kept ∷ []; releases = w.facts.releases })) one.same_reading gives in
      let by_all = subst (λ (l : List Release). GivesIn session.second session.phase c cast.id_of w m (record { view = started (cast.setup m session) kept (cores.place m).reading; say = says.Nothing; may = kept ∷ []; releases = l })) i.same_releases by_reading in
      given_holds cores steps m session _ run i below
      (record {
        opened = let a = one.same_at in omega (arith, a, opened);
        past = (good.each m).clock.past;
        timely = let n = i.same_now in omega (arith, n, timely);
        placed = placed;
        own = λ up. absurd (untrue (sym (one.down down) ∙ up));
      })
      by_all (start_facts (cast.setup m session) kept (cores.place m).reading)

  -- ---- entries

  -- what makes the steps of an entry start in version 2 alone
  abbrev pub IsSecondAt : Cores → CoreEntry → Type 0
  IsSecondAt cores (CallsCore m call) = (cores.place m).session.second ≡ true
  IsSecondAt cores (HasAnswer m kept ok) = (cores.place m).session.second ≡ true
  IsSecondAt cores (StartsWith m session kept) = session.second ≡ true
  IsSecondAt cores entry = Unit {0}

  abbrev pub AreSecondFrom : Cores → List CoreEntry → Type 0
  AreSecondFrom cores [] = Unit {0}
  AreSecondFrom cores (entry ∷ entries) = IsSecondAt cores entry × AreSecondFrom (entered c cast cores entry) entries

  pub enters : (cores : Cores) (entry : CoreEntry) (steps : List WorldStep) → IsRun c (opening c) steps → CoresHold c cast cores (world_of c steps) → MayEnter c cast cores entry
      → Reached c cast (entered c cast cores entry) steps (IsSecondAt cores entry)
  enters cores (TimePasses time) steps run i may = time_passed cores steps time run i may.0 may.1
  enters cores (ReadsTime m time) steps run i may = time_read cores steps m time run i may.0 may.1 may.2 may.3
  enters cores (CallsCore m call) steps run i may =
      let v = the_value _ (cores.place m).view may.1 in
      subst (λ (o : Option View). Reached c cast (after_call cast cores m call o) steps ((cores.place m).session.second ≡ true)) (sym v.1) (called cores steps m v.0 call run i may.0 v.1 v.2.0 v.2.1 may.2)
  enters cores (HasAnswer m kept ok) steps run i may =
      let v = the_value _ (cores.place m).view may.1 in
      subst (λ (o : Option View). Reached c cast (after_answer cast cores m ok o) steps ((cores.place m).session.second ≡ true)) (sym v.1) (answered cores steps m v.0 ok run i may.0 v.1 may.2)
  enters cores (Stops m) steps run i may =
      let v = the_value _ (cores.place m).view may.1 in
      stopped cores steps m v.0 run i may.0 v.1
  enters cores (StartsWith m session kept) steps run i may = starts_again cores steps m session kept run i may.0 may.1 may.2 may.3 may.4 may.5 may.6 may.7

  pub enter_all : (cores : Cores) (entries : List CoreEntry) (steps : List WorldStep) → IsRun c (opening c) steps → CoresHold c cast cores (world_of c steps) → AreEntered c cast cores entries
      → Reached c cast (cores_after c cast cores entries) steps (AreSecondFrom cores entries)
  enter_all cores [] steps run i all = record {
    more = [];
    all_second = λ so. tt;
    run = subst (λ (l : List WorldStep). IsRun c (opening c) l) (sym (append_none steps)) run;
    holds = subst (λ (l : List WorldStep). CoresHold c cast cores (world_of c l)) (sym (append_none steps)) i;
  }
  enter_all cores (entry ∷ entries) steps run i all =
      let one = enters cores entry steps run i all.0 in
      let rest = enter_all (entered c cast cores entry) entries (steps ++ one.more) one.run one.holds all.1 in record {
        more = one.more ++ rest.more;
        all_second = λ so. second_append one.more rest.more (one.all_second so.0) (rest.all_second so.1);
        run = subst (λ (l : List WorldStep). IsRun c (opening c) l) (append_assoc steps one.more rest.more) rest.run;
        holds = subst (λ (l : List WorldStep). CoresHold c cast (cores_after c cast (entered c cast cores entry) entries) (world_of c l)) (append_assoc steps one.more rest.more) rest.holds;
      }
