-- Each call of the lease rules is a list of steps of its member, and those are steps of the world.
use Rattle.std.proofs.Common.{◌≡◌, ℕ, ◌<◌, List, [], ◌∷◌, Bool, true, false, cond, ◌||◌, refl, sym, ap, ◌∙◌, subst, inl, arith}
use Rattle.std.specs.Prelude.{Option, Some, None, ◌==◌}
use Rattle.std.specs.Option.{ForSome}
use Rattle.std.proofs.lemmas.Bool.Decides.{nat_tests}
use Rattle.booth_base.specs.declared.address.MemberId.{MemberId}
use Rattle.booth_wire.specs.declared.command.Cmd.{Cmd}
use Rattle.booth_wire.specs.declared.command.Cmd.TheVariants as cmds
use Rattle.booth_wire.specs.declared.message.Head.{Head}
use Rattle.booth_wire.specs.declared.message.TicketPart.{TicketPart}
use Rattle.booth_wire.specs.declared.message.Setup.{Setup}
use Rattle.booth_wire.specs.declared.message.Say.TheVariants as says
use Rattle.booth_raft.specs.declared.view.RoundKind.TheVariants.{Election, Renewal}
use Rattle.booth_raft.specs.declared.view.Rule.{Rule}
use Rattle.booth_raft.specs.declared.view.Rule.TheVariants as rules
use Rattle.booth_raft.specs.declared.deed.Told.TheVariants as tells
use Rattle.booth_rec.specs.declared.record.Record.{Record}
use Rattle.booth_raft.specs.declared.view.View.{View}
use Rattle.booth_raft.specs.declared.view.Waiting.{Waiting}
use Rattle.booth_raft.specs.Facts.{RoundFits}
use Rattle.booth_raft.specs.Members.{is_candidate, is_leader}
use Rattle.booth_raft.specs.Outcome.{Outcome, quiet, saying}
use Rattle.booth_world.specs.Facts.{Facts}
use Rattle.booth_world.specs.States.{MemberState, Cluster, HasClocks, HasPhases, expire_in}
use Rattle.booth_world.specs.Steps.{MemberStep, member_after, facts_after}
use Rattle.booth_world.specs.MemberRuns.{IsMemberRun, AreTimely, member_after_all, facts_after_all}
use Rattle.booth_world.specs.Agreement.{seat, records_in, IsAsked, Agrees}
use Rattle.booth_world.specs.Messages.{IsFact, AnswerSaid}
use Rattle.booth_world.specs.Gives.{LeadsTo, mark_of, given_by, may_answered, releases_answered}
use Rattle.booth_world.proofs.Timely.{Works}
use Rattle.booth_world.proofs.Lists.{none_is}
use Rattle.booth_world.proofs.Invariant.{MemberGood, FactsGood}
use Rattle.booth_world.proofs.Views.{IsPlaced, SameParts, agrees_same, on_cond, read_of, rests}
use Rattle.booth_raft.specs.AskAndRenew.{ask, goes_on, finish, renew}
use Rattle.booth_raft.specs.Deadlines.{due_now, greeted, hello}
use Rattle.booth_raft.specs.Facts.{TriesOf}
use Rattle.booth_raft.specs.GainReleaseLost.{release}
use Rattle.booth_raft.specs.Notes.{noted}
use Rattle.booth_raft.specs.OtherMessages.{hear, refused, revoked, unasking}
use Rattle.booth_raft.specs.RoundsAndAnswers.{hear_answer}
use Rattle.booth_raft.specs.StartAndLearn.{learned, started, with_seen}
use Rattle.booth_world.specs.States.{WorldState, opening, put}
use Rattle.booth_world.specs.Steps.{WorldStep, MemberDoes, May, IsTimely, IsRun, after_steps, happens, world_of}
use Rattle.booth_world.specs.MemberRuns.{world_steps}
use Rattle.booth_world.specs.Rules.{CoreCall, Asks, Hears, Greets, MeetsDeadline, MakesNote, RenewsLease, GivesBack, lease_rules}
use Rattle.booth_world.specs.Calls.{mark_at, Caller, IsMember, MayCall, Gives, GivesIn, given_by_call, CallsAreSteps, StepsOfOneAreSteps}
use Rattle.booth_world.proofs.Invariant.{Good}
use Rattle.booth_world.proofs.WorldGood.{opening_good, run_good}
use Rattle.booth_world.proofs.HearSteps.{LeadsToOutcome, hears_release, hears_round, same_learned, same_refused, same_unasking, then_same, tries_record, unchanged}
use Rattle.booth_world.proofs.GainSteps.{hears_answer}
use Rattle.booth_world.proofs.AskSteps.{asks_term}
use Rattle.booth_world.proofs.KeptSteps.{goes_on_leads}
use Rattle.booth_world.proofs.DueSteps.{stays, renews, ticks, notes_it, greets, starts_with}

-- what an answer finishes, by what waits
abbrev finish_by : Setup → View → Option Waiting → ℕ → Bool → Outcome
finish_by setup view waits now ok = elim waits [
  | None ↦ quiet view
  | Some waits ↦ goes_on setup (record view { waiting = None }) waits.rule waits.tried now ok
]

module _ (c : Cluster) (id_of : ℕ → MemberId) (now m : ℕ) (ids : IsPlaced c id_of m) (setup : Setup) where
  seen : (f : Facts) (x : MemberState) (view : View) (part : TicketPart) → view.waiting ≡ None → Agrees c id_of f m view x → Agrees c id_of f m (with_seen view part.term) x
  seen f x view part none a =
      agrees_same c id_of f m view _ x
      (record { term = refl; bound = refl; promise = refl; abstain = refl; kept = refl; round = inl refl; role = λ h. h; repeated = λ h. (h, refl); waiting = none }) a

  answer : (f : Facts) (x : MemberState) (view : View) (place : ℕ) (head : Head) (part : TicketPart) → place < (c.phase x.phase).seats.size
      → MemberGood c now f m x → FactsGood c now f → view.waiting ≡ None → Agrees c id_of f m view x → AnswerSaid id_of f ((c.phase x.phase).seats.number place) part.leader part.term head.options
      → LeadsToOutcome c id_of now m f x (hear_answer (seat c id_of m x.second x.phase setup) (with_seen view part.term) place head part x.reading)
  answer f x view place head part inside good facts none a said =
      hears_answer c id_of now m ids f x setup (with_seen view part.term) place head part said.0 inside said.2 good facts none (seen f x view part none a) said.1 said.3 said.4 said.5

  -- what is heard, by its command
  hears : (f : Facts) (x : MemberState) (view : View) (place : ℕ) (head : Head) (part : TicketPart) (cmd : Cmd)
      → MemberGood c now f m x → FactsGood c now f → x.at ≡ now → view.waiting ≡ None → RoundFits view.term view.role view.round → Agrees c id_of f m view x
      → HasPhases c → place < (c.phase x.phase).seats.size → head.from ≡ id_of ((c.phase x.phase).seats.number place) → IsFact id_of f ((c.phase x.phase).seats.number place) head part cmd
      → LeadsToOutcome c id_of now m f x (hear (seat c id_of m x.second x.phase setup) view place head part x.reading cmd)
  hears f x view place head part cmds.RVot good facts timely none fits a phases within from said =
      on_cond (λ (q : Outcome). LeadsToOutcome c id_of now m f x q) (head.options == 0) _ _
      (hears_round c id_of now m ids f x setup (with_seen view part.term) Election head part said.0 facts timely none fits (seen f x view part none a) said.1 (from ∙ ap id_of (sym said.2)) said.3 said.4)
      (rests c id_of now m f x (with_seen view part.term) _ (seen f x view part none a) tt)
  hears f x view place head part cmds.HrtB good facts timely none fits a phases within from said =
      on_cond (λ (q : Outcome). LeadsToOutcome c id_of now m f x q) (head.options == 0) _ _
      (rests c id_of now m f x (with_seen view part.term) _ (seen f x view part none a) tt)
      (hears_round c id_of now m ids f x setup (with_seen view part.term) Renewal head part said.0 facts timely none fits (seen f x view part none a) said.1 (from ∙ ap id_of (sym said.2)) said.3 said.4)
  hears f x view place head part cmds.VtFr good facts timely none fits a phases within from said =
      on_cond (λ (q : Outcome). LeadsToOutcome c id_of now m f x q) (head.options == 0) _ _
      (answer f x view place head part within good facts none a said)
      (rests c id_of now m f x (with_seen view part.term) _ (seen f x view part none a) tt)
  hears f x view place head part cmds.Ack good facts timely none fits a phases within from said =
      on_cond (λ (q : Outcome). LeadsToOutcome c id_of now m f x q) (head.options == 0) _ _
      (rests c id_of now m f x (with_seen view part.term) _ (seen f x view part none a) tt)
      (answer f x view place head part within good facts none a said)
  hears f x view place head part cmds.Revk good facts timely none fits a phases within from said =
      let own : Setup = seat c id_of m x.second x.phase setup in
      let unasked : View = unasking own (with_seen view part.term) head.reason in
      let same : SameParts (with_seen view part.term) unasked = same_unasking own (with_seen view part.term) head.reason none in
      let agreed : Agrees c id_of f m unasked x = agrees_same c id_of f m (with_seen view part.term) unasked x same (seen f x view part none a) in
      subst (λ (i : MemberId). LeadsToOutcome c id_of now m f x (quiet (revoked own unasked i part.term head.reason x.reading)))
      (sym (from ∙ ap id_of (sym said.2)))
      (subst (λ (t : ℕ). LeadsToOutcome c id_of now m f x (quiet (revoked own unasked (id_of (said.0).site) t head.reason x.reading)))
      said.3
      (hears_release c id_of now m ids f x setup unasked head.reason said.0 (subst (λ (s : ℕ). s < c.members) (sym said.2) (phases.seats.named x.phase place within).0) same.waiting agreed said.1))
  hears f x view place head part cmds.Stat good facts timely none fits a phases within from said =
      stays c id_of now m ids setup f x view _ _ (same_learned (seat c id_of m x.second x.phase setup) view part x.reading none) a tt
  hears f x view place head part cmds.MIdx good facts timely none fits a phases within from said =
      stays c id_of now m ids setup f x view _ _ (same_learned (seat c id_of m x.second x.phase setup) view part x.reading none) a tt
  hears f x view place head part cmds.Rjc good facts timely none fits a phases within from said =
      let own : Setup = seat c id_of m x.second x.phase setup in
      let after : View = refused own view head part in
      let same : SameParts view after = same_refused own view head part none in
      stays c id_of now m ids setup f x view _ _
      (then_same view after (learned own after part x.reading) same (same_learned own after part x.reading same.waiting)) a tt
  hears f x view place head part cmds.UpdE good facts timely none fits a phases within from said =
      stays c id_of now m ids setup f x view _ _ (same_learned (seat c id_of m x.second x.phase setup) view part x.reading none) a tt
  hears f x view place head part cmd good facts timely none fits a phases within from said =
      stays c id_of now m ids setup f x view _ _ (unchanged view none) a tt

  waits_no_more : (f : Facts) (x : MemberState) (view : View) → Agrees c id_of f m view x → Agrees c id_of f m (record view { waiting = None }) x
  waits_no_more f x view a = record {
    up = a.up;
    term = a.term;
    bound = a.bound;
    promise = a.promise;
    abstain = a.abstain;
    within = a.within;
    kept = a.kept;
    round = a.round;
    tried = λ v n. absurd (none_is v n);
    asked = λ v n. absurd (none_is v n);
    active = a.active;
    repeated = a.repeated;
  }

  asked_before : (f : Facts) (x : MemberState) (view : View) (rule : Rule) → IsAsked c id_of f m x view rule → IsAsked c id_of f m x (record view { waiting = None }) rule
  asked_before f x view rules.Gain q = q
  asked_before f x view (rules.Ask reason) q = q
  asked_before f x view (rules.Release reason) q = q
  asked_before f x view rules.EndRound q = q
  asked_before f x view (rules.Renew number) q = q
  asked_before f x view (rules.Answer kind to number request told) q = q

  -- the answer of a keep
  keep_answer : HasClocks c → (f : Facts) (x : MemberState) → Works c now m x.phase → (view : View) (ok : Bool)
      → MemberGood c now f m x → FactsGood c now f → Agrees c id_of f m view x
      → ForSome view.waiting (λ w. TriesOf (seat c id_of m x.second x.phase setup) view w.rule w.tried) → 0 < expire_in c x.phase
      → LeadsTo c id_of (mark_of now m x) f x
      (given_by (finish (seat c id_of m x.second x.phase setup) view x.reading ok)
      (may_answered view.waiting ok (records_in id_of x.may)) (releases_answered (mark_of now m x) view.waiting ok f.releases))
  keep_answer clocks f x works view ok good facts a fits lasts = by_waiting view.waiting ok refl
    where
      by_waiting : (waits : Option Waiting) (ok : Bool) → view.waiting ≡ waits
          → LeadsTo c id_of (mark_of now m x) f x
          (given_by (finish_by (seat c id_of m x.second x.phase setup) view waits x.reading ok)
          (may_answered waits ok (records_in id_of x.may)) (releases_answered (mark_of now m x) waits ok f.releases))
      by_waiting None ok e = stays c id_of now m ids setup f x view _ _ (unchanged view e) a tt
      by_waiting (Some w) true e =
          goes_on_leads c id_of now m ids setup clocks f x works (record view { waiting = None }) w.rule w.tried true good facts refl
          (waits_no_more f x view a) (a.tried w e) (fits w e) (asked_before f x view w.rule (a.asked w e)) lasts
      by_waiting (Some w) false e =
          goes_on_leads c id_of now m ids setup clocks f x works (record view { waiting = None }) w.rule w.tried false good facts refl
          (waits_no_more f x view a) (a.tried w e) (fits w e) (asked_before f x view w.rule (a.asked w e)) lasts

-- ---- the world

pub put_same : {A : Type 0} (states : ℕ → A) (m : ℕ) (x : A) → put states m x m ≡ x
put_same states m x = by_test (m == m) refl
  where
    by_test : (b : Bool) → (m == m) ≡ b → cond b x (states m) ≡ x
    by_test true e = refl
    by_test false e = absurd (grind (arith, nat_tests))

lifts : (c : Cluster) (w : WorldState) (m : ℕ) (x : MemberState) (steps : List MemberStep) → m < c.members → w.member m ≡ x → IsMemberRun c w.now m w.facts x steps → AreTimely c w.now m x steps
    → IsRun c w (world_steps m steps)
    × ((after_steps c w (world_steps m steps)).member m ≡ member_after_all c w.now m x steps)
    × ((after_steps c w (world_steps m steps)).facts ≡ facts_after_all c w.now m w.facts x steps)
lifts c w m x [] below same all timely = (tt, same, refl)
lifts c w m x (step ∷ steps) below same all timely =
    let here : May c w.facts m (w.member m) step = subst (λ (y : MemberState). May c w.facts m y step) (sym same) all.0 in
    let in_time : IsTimely c w.now m (w.member m) step = subst (λ (y : MemberState). IsTimely c w.now m y step) (sym same) timely.0 in
    let next = happens c w (MemberDoes m step) in
    let facts_same : facts_after w.now m x step w.facts ≡ next.facts = ap (λ (y : MemberState). facts_after w.now m y step w.facts) (sym same) in
    let q = lifts c next m (member_after c w.now m x step) steps below
    (put_same w.member m (member_after c w.now m (w.member m) step) ∙ ap (λ (y : MemberState). member_after c w.now m y step) same)
    (subst (λ (g : Facts). IsMemberRun c w.now m g (member_after c w.now m x step) steps) facts_same all.1) timely.1 in
    (((below, here, in_time), q.0), q.1, q.2 ∙ ap (λ (g : Facts). facts_after_all c w.now m g (member_after c w.now m x step) steps) (sym facts_same))

pub steps_of_one : StepsOfOneAreSteps
steps_of_one c w m steps below all timely = lifts c w m (w.member m) steps below refl all timely

pub good_world : (c : Cluster) → HasClocks c → HasPhases c → (steps : List WorldStep) → IsRun c (opening c) steps → Good c (world_of c steps)
good_world c clocks phases steps run = run_good c clocks phases (opening c) steps (opening_good c clocks) run

-- a lease lasts
lasts : (c : Cluster) (w : WorldState) (a : Caller) → IsMember c w a → 0 < expire_in c (w.member a.place).phase
lasts c w a i =
    let l = i.sound.renewal in
    let e : a.setup.times.expire ≡ expire_in c (w.member a.place).phase = ap (λ (s : Setup). s.times.expire) i.seated in
    omega (arith, l, e)

placed : (c : Cluster) (w : WorldState) (a : Caller) → IsMember c w a → IsPlaced c a.id_of a.place
placed c w a i = record { apart = i.ids; below = i.below }

or_so : (a b : Bool) → b ≡ true → (a || b) ≡ true
or_so true b e = refl
or_so false b e = e

at_site : (c : Cluster) (w : WorldState) (a : Caller) → IsMember c w a → a.setup.site ≡ true → c.is_site a.place ≡ true
at_site c w a i site = sym (ap (λ (s : Setup). s.site) i.seated) ∙ site

-- what an outcome gives
abbrev GivesOutcome : Cluster → WorldState → Caller → Outcome → Type 0
GivesOutcome c w a outcome = Gives c a.id_of w a.place (given_by outcome (records_in a.id_of (w.member a.place).may) w.facts.releases)

call_steps :
    (c : Cluster) → HasClocks c → HasPhases c → (w : WorldState) (a : Caller) → Good c w → IsMember c w a → a.view.waiting ≡ None
    → (call : CoreCall) → MayCall c w a call → Gives c a.id_of w a.place (given_by_call lease_rules w a call)
call_steps c clocks phases w a g i none (Asks reason) may =
    let x = w.member a.place in
    subst (λ (s : Setup). GivesOutcome c w a (ask s a.view reason x.reading)) (sym i.seated)
    (asks_term c a.id_of w.now a.place (placed c w a i) a.setup w.facts x a.view reason (g.each a.place) none i.agrees (at_site c w a i may))
call_steps c clocks phases w a g i none (Hears message) may =
    let x = w.member a.place in
    subst (λ (s : Setup). GivesOutcome c w a (hear s a.view message.sender message.head message.part x.reading message.head.cmd)) (sym i.seated)
    (hears c a.id_of w.now a.place (placed c w a i) a.setup w.facts x a.view message.sender message.head message.part message.head.cmd (g.each a.place) g.facts may.timely none i.view_facts.round_fits i.agrees phases may.below may.from may.fact)
call_steps c clocks phases w a g i none Greets may =
    let x = w.member a.place in
    subst (λ (s : Setup). GivesOutcome c w a (saying (greeted s a.view) (hello s a.view x.reading) tells.Nothing)) (sym i.seated)
    (greets c a.id_of w.now a.place (placed c w a i) a.setup w.facts x a.view none i.agrees)
call_steps c clocks phases w a g i none MeetsDeadline may =
    let x = w.member a.place in
    subst (λ (s : Setup). GivesOutcome c w a (due_now s a.view x.reading)) (sym i.seated)
    (ticks c a.id_of w.now a.place (placed c w a i) a.setup w.facts x a.view (g.each a.place) none i.agrees)
call_steps c clocks phases w a g i none (MakesNote note) may =
    let x = w.member a.place in
    subst (λ (s : Setup). GivesOutcome c w a (quiet (noted s a.view x.reading note))) (sym i.seated)
    (notes_it c a.id_of w.now a.place (placed c w a i) a.setup w.facts x a.view note none i.agrees)
call_steps c clocks phases w a g i none RenewsLease may =
    let x = w.member a.place in
    subst (λ (s : Setup). GivesOutcome c w a (renew s a.view x.reading)) (sym i.seated)
    (renews c a.id_of w.now a.place (placed c w a i) a.setup clocks w.facts x (record { phases = phases; below = i.below; timely = i.timely }) a.view (g.each a.place) g.facts none i.agrees
    (i.agrees.active (or_so (is_candidate a.view.role) (is_leader a.view.role) may)) (lasts c w a i))
call_steps c clocks phases w a g i none (GivesBack reason) may =
    let x = w.member a.place in
    subst (λ (s : Setup). GivesOutcome c w a (release s a.view reason x.reading)) (sym i.seated)
    (tries_record c a.id_of w.now a.place a.setup w.facts x a.view (rules.Release reason) None i.agrees tt (at_site c w a i may))

pub calls_are_steps : CallsAreSteps lease_rules
calls_are_steps = record {
  start_gives = λ c clocks phases steps run id_of m second phase setup ids below seated down stays kept read on.
      let w = world_of c steps in
      let x = w.member m in
      let z = read_of id_of (c.is_site m) c.goes_on x.may kept read on in
      subst (λ (s : Setup). GivesIn second phase c id_of w m (record { view = started s kept x.reading; say = says.Nothing; may = kept ∷ []; releases = w.facts.releases })) (sym seated)
      (subst (λ (k : Record). GivesIn second phase c id_of w m (record { view = started (seat c id_of m second phase setup) k x.reading; say = says.Nothing; may = k ∷ []; releases = w.facts.releases })) z.3
      (starts_with c id_of w.now m (record { apart = ids; below = below }) setup w.facts x z.0 second phase ((good_world c clocks phases steps run).each m) down z.1 z.2 stays));
  call_gives = λ c clocks phases steps run a i none call may.
      call_steps c clocks phases (world_of c steps) a (good_world c clocks phases steps run) i none call may;
  answer_gives = λ c clocks phases steps run a i ok.
      let w = world_of c steps in
      let g = good_world c clocks phases steps run in
      let x = w.member a.place in
      subst (λ (s : Setup). Gives c a.id_of w a.place (given_by (finish s a.view x.reading ok) (may_answered a.view.waiting ok (records_in a.id_of x.may)) (releases_answered (mark_at w a.place) a.view.waiting ok w.facts.releases))) (sym i.seated)
      (keep_answer c a.id_of w.now a.place (placed c w a i) a.setup clocks w.facts x (record { phases = phases; below = i.below; timely = i.timely }) a.view ok (g.each a.place) g.facts i.agrees
      (subst (λ (s : Setup). ForSome a.view.waiting (λ w. TriesOf s a.view w.rule w.tried)) i.seated i.view_facts.tried)
      (lasts c w a i));
}
