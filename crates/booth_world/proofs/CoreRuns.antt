-- Releases are the entries', and the three laws hold of entries of the cores.
use Rattle.std.proofs.Common.{mul-le-mul_left, ◌*◌, ◌-◌, ◌≡◌, ◌⊎◌, ℕ, ◌<◌, ◌≤◌, List, [], ◌∷◌, ◌++◌, Bool, true, false, refl, sym, ap, ◌∙◌, subst, inl, inr, ⊎_elim, arith}
use Rattle.std.specs.Prelude.{Option, Some, None, IsSomeAnd}
use Rattle.booth_rec.specs.declared.record.Record.{Record}
use Rattle.booth_rec.specs.Record.{IsInForce}
use Rattle.booth_wire.specs.declared.message.Setup.{Setup}
use Rattle.booth_raft.specs.declared.view.Rule.{Rule}
use Rattle.booth_raft.specs.declared.view.Rule.TheVariants as rules
use Rattle.booth_raft.specs.declared.view.View.{View}
use Rattle.booth_raft.specs.declared.view.Waiting.{Waiting}
use Rattle.booth_raft.specs.Facts.{TriesOf, ViewFacts}
use Rattle.booth_raft.specs.GainReleaseLost.{free_record}
use Rattle.booth_world.specs.Facts.{Has, Release}
use Rattle.booth_world.specs.States.{distance_in, IsWindow, KeptRecord, WorldState, opening, Cluster, HasClocks, HasPhases, reads}
use Rattle.booth_world.specs.Steps.{WorldStep, IsRun, world_of}
use Rattle.booth_world.specs.Held.{IsHeldBy, Held, IsApartFrom, IsApart, GivesBackLease, ReleasedBetween}
use Rattle.booth_world.specs.Agreement.{record_in}
use Rattle.booth_world.specs.Gives.{released_by, releases_answered}
use Rattle.booth_world.specs.Cores.{Session, CoreEntry, ReadsTime, CallsCore, HasAnswer, Stops, StartsWith, Cores, opening_cores, Cast, IsCast, MayEnter, after_call, after_answer, mark_in, entered, AreEntered, cores_after, setup_in, TimePasses}
use Rattle.booth_world.specs.CoreLaws.{IsReleasing, IsReleaseAt, IsReleaseIn, CoreHoldsBy, CoreHolds, CoreCourse, early_cores, late_cores, CoresHoldOne, CoresAreApart, CoreTermsNeverFall}
use Rattle.booth_world.proofs.Views.{kept_of, record_has}
use Rattle.booth_world.proofs.AskSteps.{the_value}
use Rattle.booth_world.proofs.Runs.{runs_have_phases, runs_hold_one, runs_hold_apart, runs_keep_terms}
use Rattle.booth_world.proofs.WorldGood.{opening_good, run_good}
use Rattle.booth_world.proofs.CoreSteps.{CoresHold, opens, enters, enter_all, IsSecondAt, AreSecondFrom, second_append}
use Rattle.booth_world.specs.Steps.{AreSecond}
use Rattle.booth_world.proofs.Lists.{none_is, put_all}
use Rattle.booth_world.proofs.LaterTerms.{runs_rise_within}
use Rattle.booth_world.specs.CoreLaws.{IsSecondStart, AreSecondStarts, LaterCoreHasLaterTerm}
use Rattle.booth_world.specs.Cores.{CorePlace, has_given, call_given, answer_given}
use Rattle.booth_world.specs.Rules.{lease_rules}
use Rattle.booth_wire.specs.declared.message.Say.TheVariants as says
use Rattle.booth_world.specs.Gives.{Given}

module _ (c : Cluster) (cast : Cast) (clocks : HasClocks c) (phases : HasPhases c) (is_cast : IsCast c cast) where
  one_released : (setup : Setup) (view : View) (w : Waiting) (m now : ℕ) (kept : Record) (releases : List Release) (z : Release) → w.tried ≡ kept
      → TriesOf setup view w.rule w.tried
      → Has (released_by w.rule (record { site = m; term = w.tried.term; at = now }) releases) z
      → Has releases z ⊎ ((z ≡ record { site = m; term = kept.term; at = now }) × (kept.lease ≡ None) × IsReleasing w.rule)
  one_released setup view w m now kept releases z same tries has = by_rule w.rule refl
    where
      is_new : IsReleasing w.rule → w.tried ≡ free_record setup view → Has (record { site = m; term = w.tried.term; at = now } ∷ releases) z
          → Has releases z ⊎ ((z ≡ record { site = m; term = kept.term; at = now }) × (kept.lease ≡ None) × IsReleasing w.rule)
      is_new gives free h = ⊎_elim
          (λ (e : record { site = m; term = w.tried.term; at = now } ≡ z).
          inr (sym e ∙ ap (λ (k : Record). let r : Release = record { site = m; term = k.term; at = now } in r) same, ap (λ (k : Record). k.lease) (sym same ∙ free), gives))
          (λ (old : Has releases z). inl old) h

      by_rule : (rule : Rule) → w.rule ≡ rule → Has releases z ⊎ ((z ≡ record { site = m; term = kept.term; at = now }) × (kept.lease ≡ None) × IsReleasing w.rule)
      by_rule rules.Gain e = inl (subst (λ (r : Rule). Has (released_by r (record { site = m; term = w.tried.term; at = now }) releases) z) e has)
      by_rule (rules.Ask reason) e = inl (subst (λ (r : Rule). Has (released_by r (record { site = m; term = w.tried.term; at = now }) releases) z) e has)
      by_rule (rules.Release reason) e =
          is_new (subst (λ (r : Rule). IsReleasing r) (sym e) tt) (subst (λ (r : Rule). TriesOf setup view r w.tried) e tries)
          (subst (λ (r : Rule). Has (released_by r (record { site = m; term = w.tried.term; at = now }) releases) z) e has)
      by_rule (rules.Renew number) e = inl (subst (λ (r : Rule). Has (released_by r (record { site = m; term = w.tried.term; at = now }) releases) z) e has)
      by_rule (rules.Answer kind to number request told) e = inl (subst (λ (r : Rule). Has (released_by r (record { site = m; term = w.tried.term; at = now }) releases) z) e has)
      by_rule rules.EndRound e =
          is_new (subst (λ (r : Rule). IsReleasing r) (sym e) tt) (subst (λ (r : Rule). TriesOf setup view r w.tried) e tries)
          (subst (λ (r : Rule). Has (released_by r (record { site = m; term = w.tried.term; at = now }) releases) z) e has)

  answer_released : (cores : Cores) (w : WorldState) (m : ℕ) (kept : Record) (ok : Bool) (z : Release) → CoresHold c cast cores w → MayEnter c cast cores (HasAnswer m kept ok)
      → Has (entered c cast cores (HasAnswer m kept ok)).releases z → Has cores.releases z ⊎ IsReleaseAt cores (HasAnswer m kept ok) z
  answer_released cores w m kept ok z i may has =
      let v = the_value _ (cores.place m).view may.1 in
      let t = the_value _ (v.0).waiting v.2 in
      by_answer ok v.0 t.0 ((i.each m may.0).view_facts v.0 v.1) v.1 t.1 t.2
      (subst (λ (o : Option View). Has (after_answer cast cores m ok o).releases z) v.1 has)
    where
      by_answer : (ok : Bool) (view : View) (waits : Waiting) → ViewFacts (setup_in cast cores m) view → (cores.place m).view ≡ Some view → view.waiting ≡ Some waits
          → waits.tried ≡ kept
          → Has (releases_answered (mark_in cores m) view.waiting ok cores.releases) z → Has cores.releases z ⊎ IsReleaseAt cores (HasAnswer m kept ok) z
      by_answer false view waits facts shows e same h = inl (subst (λ (o : Option Waiting). Has (releases_answered (mark_in cores m) o false cores.releases) z) e h)
      by_answer true view waits facts shows e same h =
          ⊎_elim
          (λ (old : Has cores.releases z). inl old)
          (λ new. inr (
            new.0,
            new.1,
            subst (λ (o : Option View). IsSomeAnd o (λ v. IsSomeAnd v.waiting (λ x. IsReleasing x.rule))) (sym shows)
                (subst (λ (o : Option Waiting). IsSomeAnd o (λ x. IsReleasing x.rule)) (sym e) new.2),
          ))
          (one_released (setup_in cast cores m) view waits m cores.now kept cores.releases z same (facts.tried waits e)
          (subst (λ (o : Option Waiting). Has (releases_answered (mark_in cores m) o true cores.releases) z) e h))

  entry_released : (cores : Cores) (w : WorldState) (entry : CoreEntry) (z : Release) → CoresHold c cast cores w → MayEnter c cast cores entry
      → Has (entered c cast cores entry).releases z → Has cores.releases z ⊎ IsReleaseAt cores entry z
  entry_released cores w (TimePasses time) z i may has = inl has
  entry_released cores w (ReadsTime m time) z i may has = inl has
  entry_released cores w (CallsCore m call) z i may has =
      let v = the_value _ (cores.place m).view may.1 in
      inl (subst (λ (o : Option View). Has (after_call cast cores m call o).releases z) v.1 has)
  entry_released cores w (HasAnswer m kept ok) z i may has = answer_released cores w m kept ok z i may has
  entry_released cores w (Stops m) z i may has = inl has
  entry_released cores w (StartsWith m session kept) z i may has = inl has

  pub all_released : (cores : Cores) (entries : List CoreEntry) (steps : List WorldStep) (z : Release) → IsRun c (opening c) steps → CoresHold c cast cores (world_of c steps)
      → AreEntered c cast cores entries → Has (cores_after c cast cores entries).releases z → Has cores.releases z ⊎ IsReleaseIn c cast cores entries z
  all_released cores [] steps z run i all has = inl has
  all_released cores (entry ∷ entries) steps z run i all has =
      let one = enters c cast clocks phases is_cast cores entry steps run i all.0 in
      ⊎_elim
      (λ (old : Has (entered c cast cores entry).releases z). ⊎_elim
      (λ (older : Has cores.releases z). inl older)
      (λ (new : IsReleaseAt cores entry z). inr (inl new))
      (entry_released cores (world_of c steps) entry z i all.0 old))
      (λ (new : IsReleaseIn c cast (entered c cast cores entry) entries z). inr (inr new))
      (all_released (entered c cast cores entry) entries (steps ++ one.more) z one.run one.holds all.1 has)

-- ---- the laws

-- runs of the world for both parts
pub record Runs (c : Cluster) (cast : Cast) (early late : List CoreEntry) (i : CoreCourse c cast early late) : Type 0 where
  pub first : List WorldStep
  pub more : List WorldStep
  pub run_first : IsRun c (opening c) first
  pub run_all : IsRun c (opening c) (first ++ more)
  pub early_holds : CoresHold c cast (early_cores c cast early) (world_of c first)
  pub late_holds : CoresHold c cast (late_cores c cast early late) (world_of c (first ++ more))
  pub all_second : AreSecondFrom c cast i.clocks i.phases i.is_cast (opening_cores c cast) early → AreSecondFrom c cast i.clocks i.phases i.is_cast (early_cores c cast early) late → AreSecond (first ++ more)

pub runs_of : (c : Cluster) (cast : Cast) (early late : List CoreEntry) (i : CoreCourse c cast early late) → Runs c cast early late i
runs_of c cast early late i =
    let one = enter_all c cast i.clocks i.phases i.is_cast (opening_cores c cast) early [] tt (opens c cast i.clocks i.phases i.is_cast) i.enters_early in
    let two = enter_all c cast i.clocks i.phases i.is_cast (early_cores c cast early) late one.more one.run one.holds i.enters_late in record {
      first = one.more;
      more = two.more;
      run_first = one.run;
      run_all = two.run;
      early_holds = one.holds;
      late_holds = two.holds;
      all_second = λ a b. second_append one.more two.more (one.all_second a) (two.all_second b);
    }

-- a record by which a core holds, as the world has it
held_by : (c : Cluster) (cast : Cast) (cores : Cores) (w : WorldState) (s : ℕ) (k : Record) → CoresHold c cast cores w → CoreHoldsBy c cores s k
    → (z : KeptRecord) × (record_in cast.id_of z ≡ k) × IsHeldBy c w s z
held_by c cast cores w s k i h =
    let z = kept_of cast.id_of (w.member s).may k (subst (λ (l : List Record). Has l k) (sym (i.each s h.0).same_may) h.1) in (
      z.0,
      z.2,
      record {
        below = h.0;
        may = z.1;
        in_force = subst (λ (k : Record). IsInForce k (reads c s w.now)) (sym z.2) (subst (λ (t : ℕ). IsInForce k (reads c s t)) (sym i.same_now) h.2);
      },
    )

pub held : (c : Cluster) (cast : Cast) (cores : Cores) (w : WorldState) (s : ℕ) → CoresHold c cast cores w → CoreHolds c cores s → Held c w s
held c cast cores w s i h = let z = held_by c cast cores w s h.0 i h.1 in (z.0, z.2)

pub cores_hold_one : CoresHoldOne
cores_hold_one c cast entries course timed s t hs ht =
    let r = runs_of c cast entries [] course in
    let cores = early_cores c cast entries in
    runs_hold_one c course.clocks timed course.phases r.first r.run_first s t
    (held c cast cores (world_of c r.first) s r.early_holds hs)
    (held c cast cores (world_of c r.first) t r.early_holds ht)

-- a smaller distance
less_apart : (c : Cluster) (less more s : ℕ) (k : Record) (early late : ℕ) → less ≤ more → IsApartFrom c more s k early late → IsApartFrom c less s k early late
less_apart c less more s k early late below apart at from to force =
    let far : c.ticks * (1000000 * more) < 1001000 * (late - at) = apart at from to force in
    let fewer = mul-le-mul_left c.ticks below in
    omega (arith, far, fewer)

pub cores_are_apart : CoresAreApart
cores_are_apart c cast early late course timed s t other k distance least hs ht =
    let r = runs_of c cast early late course in
    let w = world_of c r.first in
    let z = world_of c (r.first ++ r.more) in
    let first = held_by c cast (early_cores c cast early) w s k r.early_holds hs in
    let of_phase = runs_have_phases c course.clocks course.phases r.first r.run_first s first.0 first.2 in
    ⊎_elim
    (λ (apart : IsApart c (distance_in c of_phase.2) s first.0 w z).
    inl (less_apart c distance (distance_in c of_phase.2) s k _ _ (least of_phase.2) (subst (λ (k : Record). IsApartFrom c (distance_in c of_phase.2) s k (early_cores c cast early).now (late_cores c cast early late).now) first.1
    (subst (λ (a : ℕ). IsApartFrom c (distance_in c of_phase.2) s (record_in cast.id_of first.0) a (late_cores c cast early late).now) r.early_holds.same_now
    (subst (λ (b : ℕ). IsApartFrom c (distance_in c of_phase.2) s (record_in cast.id_of first.0) w.now b) r.late_holds.same_now apart)))))
    (λ (b : ReleasedBetween w z s first.0).
    let in_late = subst (λ (l : List Release). Has l b.release) r.late_holds.same_releases b.fact in
    ⊎_elim
    (λ (old : Has (early_cores c cast early).releases b.release).
    absurd (b.fresh (subst (λ (l : List Release). Has l b.release) (sym r.early_holds.same_releases) old)))
    (λ (new : IsReleaseIn c cast (early_cores c cast early) late b.release).
    inr (b.release, new, subst (λ (k : Record). GivesBackLease s k.lease b.release) first.1 b.gives_back))
    (all_released c cast course.clocks course.phases course.is_cast (early_cores c cast early) late r.first b.release r.run_first r.early_holds course.enters_late in_late))
    (runs_hold_apart c course.clocks timed course.phases r.first r.more r.run_all s t other first.0 of_phase.0 of_phase.2 of_phase.1 of_phase.3 first.2
    (held c cast (late_cores c cast early late) z t r.late_holds ht))

pub core_terms : CoreTermsNeverFall
core_terms c cast early late course s term below on at k has =
    let r = runs_of c cast early late course in
    let w = world_of c r.first in
    let z = world_of c (r.first ++ r.more) in
    let one = kept_of cast.id_of (z.member s).may k (subst (λ (l : List Record). Has l k) (sym (r.late_holds.each s below).same_may) has) in
    let l = runs_keep_terms c r.first r.more r.run_all s term on
    (λ y h. at (record_in cast.id_of y)
    (subst (λ (l : List Record). Has l (record_in cast.id_of y)) (r.early_holds.each s below).same_may (record_has cast.id_of (w.member s).may y h)))
    one.0 one.1 in
    subst (λ (k : Record). term ≤ k.term) one.2 l

-- a record that is tried is of its rule's term
pub tries_term : (setup : Setup) (view : View) (rule : Rule) (tried : Record) → TriesOf setup view rule tried → tried.term ≡ view.term
tries_term setup view rules.Gain tried t = ap (λ (k : Record). k.term) (the_value _ view.round t.1).2.1
tries_term setup view (rules.Ask reason) tried t = ap (λ (k : Record). k.term) t.1
tries_term setup view (rules.Release reason) tried t = ap (λ (k : Record). k.term) t
tries_term setup view rules.EndRound tried t = ap (λ (k : Record). k.term) t
tries_term setup view (rules.Answer kind to number request told) tried t = ap (λ (k : Record). k.term) t
tries_term setup view (rules.Renew number) tried t = ap (λ (k : Record). k.term) t

-- and so of at least the term of each record that may be kept
pub tried_is_highest : (c : Cluster) (cast : Cast) (entries : List CoreEntry) → CoreCourse c cast entries [] → (m : ℕ) → m < c.members
    → (view : View) → ((early_cores c cast entries).place m).view ≡ Some view → (waits : Waiting) → view.waiting ≡ Some waits
    → (k : Record) → Has ((early_cores c cast entries).place m).may k → k.term ≤ waits.tried.term
tried_is_highest c cast entries course m below view is waits waiting k h =
    let r = runs_of c cast entries [] course in
    let w = world_of c r.first in
    let place = r.early_holds.each m below in
    let agrees = place.agrees view is in
    let facts = place.view_facts view is in
    let tried = tries_term (setup_in cast (early_cores c cast entries) m) view waits.rule waits.tried (facts.tried waits waiting) in
    let z = kept_of cast.id_of (w.member m).may k (subst (λ (l : List Record). Has l k) (sym place.same_may) h) in
    let good = (run_good c course.clocks course.phases (opening c) r.first (opening_good c course.clocks) r.run_first).each m in
    let most : z.0.term ≤ (w.member m).term = good.term agrees.up z.0 z.1 in
    let own : view.term ≡ (w.member m).term = agrees.term in
    let same : z.0.term ≡ k.term = ap (λ (q : Record). q.term) z.2 in
    omega (arith, most, own, same, tried)

-- ---- version 2 alone

-- each member that is up is in version 2
abbrev UpSecond : Cores → Type 0
UpSecond cores = (m : ℕ) (view : View) → (cores.place m).view ≡ Some view → (cores.place m).session.second ≡ true

given_second : (cores : Cores) (m : ℕ) (session : Session) (given : Given) → UpSecond cores → session.second ≡ true → UpSecond (has_given cores m session given)
given_second cores m session given up is =
    put_all (λ (k : ℕ) (s : CorePlace). (view : View) → s.view ≡ Some view → s.session.second ≡ true) cores.place m _ (λ view e. is) (λ k other view e. up k view e)

entry_second : (c : Cluster) (cast : Cast) (cores : Cores) (entry : CoreEntry) → UpSecond cores → IsSecondStart entry → UpSecond (entered c cast cores entry)
entry_second c cast cores (TimePasses time) up so = up
entry_second c cast cores (ReadsTime m time) up so =
    put_all (λ (k : ℕ) (s : CorePlace). (view : View) → s.view ≡ Some view → s.session.second ≡ true) cores.place m _ (up m) (λ k other view e. up k view e)
entry_second c cast cores (CallsCore m call) up so = by_view (cores.place m).view refl
  where
    by_view : (o : Option View) → (cores.place m).view ≡ o → UpSecond (after_call cast cores m call o)
    by_view None e = up
    by_view (Some view) e = given_second cores m (cores.place m).session (call_given cast cores m call view) up (up m view e)
entry_second c cast cores (HasAnswer m kept ok) up so = by_view (cores.place m).view refl
  where
    by_view : (o : Option View) → (cores.place m).view ≡ o → UpSecond (after_answer cast cores m ok o)
    by_view None e = up
    by_view (Some view) e = given_second cores m (cores.place m).session (answer_given cast cores m ok view) up (up m view e)
entry_second c cast cores (Stops m) up so =
    put_all (λ (k : ℕ) (s : CorePlace). (view : View) → s.view ≡ Some view → s.session.second ≡ true) cores.place m _ (λ view e. absurd (none_is view e)) (λ k other view e. up k view e)
entry_second c cast cores (StartsWith m session kept) up so = given_second cores m session (record {
  view = lease_rules.start (cast.setup m session) kept (cores.place m).reading;
  say = says.Nothing;
  may = kept ∷ [];
  releases = cores.releases;
}) up so

module _ (c : Cluster) (cast : Cast) (clocks : HasClocks c) (phases : HasPhases c) (is_cast : IsCast c cast) where
  at_second : (cores : Cores) (entry : CoreEntry) → UpSecond cores → IsSecondStart entry → MayEnter c cast cores entry → IsSecondAt c cast clocks phases is_cast cores entry
  at_second cores (TimePasses time) up so may = tt
  at_second cores (ReadsTime m time) up so may = tt
  at_second cores (CallsCore m call) up so may = let v = the_value _ (cores.place m).view may.1 in up m v.0 v.1
  at_second cores (HasAnswer m kept ok) up so may = let v = the_value _ (cores.place m).view may.1 in up m v.0 v.1
  at_second cores (Stops m) up so may = tt
  at_second cores (StartsWith m session kept) up so may = so

  second_from : (cores : Cores) (entries : List CoreEntry) → UpSecond cores → AreSecondStarts entries → AreEntered c cast cores entries → AreSecondFrom c cast clocks phases is_cast cores entries
  second_from cores [] up so all = tt
  second_from cores (entry ∷ entries) up so all =
      (at_second cores entry up so.0 all.0, second_from (entered c cast cores entry) entries (entry_second c cast cores entry up so.0) so.1 all.1)

  up_after : (cores : Cores) (entries : List CoreEntry) → UpSecond cores → AreSecondStarts entries → UpSecond (cores_after c cast cores entries)
  up_after cores [] up so = up
  up_after cores (entry ∷ entries) up so = up_after (entered c cast cores entry) entries (entry_second c cast cores entry up so.0) so.1

-- where each start of the cores is of version 2, so is each of the steps
pub all_are_second : (c : Cluster) (cast : Cast) (early late : List CoreEntry) (course : CoreCourse c cast early late) (r : Runs c cast early late course)
    → AreSecondStarts early → AreSecondStarts late → AreSecond (r.first ++ r.more)
all_are_second c cast early late course r es ls =
    let none_up : UpSecond (opening_cores c cast) = λ m view e. absurd (none_is view e) in
    let early_up = up_after c cast course.clocks course.phases course.is_cast (opening_cores c cast) early none_up es in
    r.all_second (second_from c cast course.clocks course.phases course.is_cast (opening_cores c cast) early none_up es course.enters_early)
    (second_from c cast course.clocks course.phases course.is_cast (early_cores c cast early) late early_up ls course.enters_late)

pub later_core : LaterCoreHasLaterTerm
later_core c cast early late course timed on es ls s t other k n l m kl nl phase window hs ht =
    let r = runs_of c cast early late course in
    let w = world_of c r.first in
    let z = world_of c (r.first ++ r.more) in
    let second = all_are_second c cast early late course r es ls in
    let a = held_by c cast (early_cores c cast early) w s k r.early_holds hs in
    let b = held_by c cast (late_cores c cast early late) z t n r.late_holds ht in
    runs_rise_within c course.clocks timed course.phases on r.first r.more r.run_all second s t other a.0 b.0 l m
    (ap (λ (k : Record). k.lease) a.1 ∙ kl) (ap (λ (k : Record). k.lease) b.1 ∙ nl) phase
    (subst (λ (x : ℕ). IsWindow c phase x z.now) (sym r.early_holds.same_now) (subst (λ (y : ℕ). IsWindow c phase (early_cores c cast early).now y) (sym r.late_holds.same_now) window))
    a.2 b.2
