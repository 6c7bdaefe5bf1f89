-- What holds of the deeds of every move, row by row.
use Rattle.std.proofs.Common.{◌≡◌, ◌<◌, ◌≤◌, ◌+◌, ◌-◌, ◌++◌, ◌==◌, not, cond, map, ℕ, suc, Bool, true, false, List, [], ◌∷◌, length, Some, None, refl, sym, ap, subst, inl, inr, arith}
use Rattle.std.specs.List.{position_or_len}
use Rattle.booth_base.specs.declared.address.MemberId.{MemberId}
use Rattle.booth_conf.specs.Config.{has_id}
use Rattle.booth_conf.specs.declared.members.Member.{Member}
use Rattle.booth_talk.specs.Asking.{number_of}
use Rattle.booth_move.specs.declared.deeds.MoveDeed.{MoveDeed}
use Rattle.booth_move.specs.declared.deeds.MoveDeed.TheVariants as deeds
use Rattle.booth_move.specs.declared.stage.Request.{Request}
use Rattle.booth_move.specs.declared.stage.Stage.{Stage}
use Rattle.booth_move.specs.declared.stage.Stage.TheVariants.{Opening, Revoking, Granting, Pausing, Ended}
use Rattle.booth_move.specs.Deeds.{deeds_from, move_deeds, move_step, stage_after}
use Rattle.booth_move.specs.Laws.{AsksSeldom, IsRising, IsRisingFrom, NumbersRise, PlacesAreMembers, StepsAreRows, StepsMakeDeeds, grants_of, redirections}
use Rattle.booth_move.specs.Move.{IsSoundStage, MoveSetup, Pair, id_number}
use Rattle.booth_move.specs.Rows.{Follows, GoesOn}
use Rattle.booth_move.proofs.RowLemmas.{step_row}
use Rattle.booth_move.proofs.SoundLemmas.{step_sound}

pub all_rows : StepsAreRows
all_rows = record { row = step_row; sound = step_sound }

-- ---- steps one after the other

deeds_push : (setup : MoveSetup) (stage : Stage) (ps : List Pair) (p : Pair) →
    deeds_from setup stage (ps ++ p ∷ []) ≡ deeds_from setup stage ps ++ (move_step setup (stage_after setup stage ps) p).deed ∷ []
unfolding deeds_from stage_after
deeds_push setup stage [] p = refl
deeds_push setup stage (q ∷ ps) p =
    ap (λ (ds : List MoveDeed). (move_step setup stage q).deed ∷ ds) (deeds_push setup (move_step setup stage q).stage ps p)

stage_push : (setup : MoveSetup) (stage : Stage) (ps : List Pair) (p : Pair) →
    stage_after setup stage (ps ++ p ∷ []) ≡ (move_step setup (stage_after setup stage ps) p).stage
unfolding stage_after
stage_push setup stage [] p = refl
stage_push setup stage (q ∷ ps) p = stage_push setup (move_step setup stage q).stage ps p

as_many_deeds : (setup : MoveSetup) (stage : Stage) (ps : List Pair) → length (deeds_from setup stage ps) ≡ length ps
unfolding deeds_from
as_many_deeds setup stage [] = refl
as_many_deeds setup stage (p ∷ ps) = ap (λ (n : ℕ). suc n) (as_many_deeds setup (move_step setup stage p).stage ps)

first_deed : (setup : MoveSetup) (start : ℕ) (p : Pair) → move_deeds setup start (p ∷ []) ≡ deeds.Revoke None (number_of start) ∷ []
unfolding deeds_from
first_deed setup start p = refl

pub deeds_made : StepsMakeDeeds
deeds_made = record {
  first = first_deed;
  one_more = λ setup start ps p. deeds_push setup (Opening start) ps p;
  then = λ setup start ps p. stage_push setup (Opening start) ps p;
  as_many = λ setup start ps. as_many_deeds setup (Opening start) ps;
}

-- ---- places

ids_before : (members : List Member) (id : MemberId) →
    position_or_len (λ (other : ℕ). other == id.0) (map id_number members) ≡ position_or_len (has_id id) members
ids_before [] id = refl
ids_before (m ∷ members) id = ap (λ (n : ℕ). cond (not (m.id.0 == id.0)) (1 + n) 0) (ids_before members id)

pub ids_many : (members : List Member) → length (map id_number members) ≡ length members
ids_many [] = refl
ids_many (m ∷ members) = ap (λ (n : ℕ). suc n) (ids_many members)

pub places : PlacesAreMembers
places members id = rw (ids_before members id, ids_many members) refl

-- ---- how often

-- how often the revoke may still be sent on
abbrev on_left : Stage → ℕ
on_left (Opening start) = 1
on_left (Revoking last false) = 1
on_left stage = 0

on_row : (setup : MoveSetup) (stage : Stage) (p : Pair) (d : MoveDeed) (next : Stage) (ds : List MoveDeed) →
    Follows setup stage p d next → length (redirections ds) ≤ on_left next → length (redirections (d ∷ ds)) ≤ on_left stage
on_row setup (Opening start) p (deeds.Revoke None number) (Revoking next on) ds h le = by_on on le
  where
    by_on : (on : Bool) → length (redirections ds) ≤ on_left (Revoking next on) → length (redirections ds) ≤ 1
    by_on true le = omega (arith, le)
    by_on false le = le
on_row setup (Revoking last sent_on) p deeds.Nothing (Revoking next on) ds h le =
    subst (λ (b : Bool). length (redirections ds) ≤ on_left (Revoking last b)) h.1 (by_on on le)
  where
    by_on : (on : Bool) → length (redirections ds) ≤ on_left (Revoking next on) → length (redirections ds) ≤ on_left (Revoking last on)
    by_on true le = le
    by_on false le = le
on_row setup (Revoking last sent_on) p (deeds.Revoke (Some place) number) (Revoking next on) ds h le =
    subst (λ (b : Bool). suc (length (redirections ds)) ≤ on_left (Revoking last b)) (sym h.1)
    (let none : length (redirections ds) ≤ 0 = subst (λ (b : Bool). length (redirections ds) ≤ on_left (Revoking next b)) h.3 le in omega (arith, none))
on_row setup (Revoking last sent_on) p (deeds.Grant number) (Granting next again) ds h le = omega (arith, le)
on_row setup (Revoking last sent_on) p (deeds.End end) Ended ds h le = omega (arith, le)
on_row setup (Granting last repeats) p deeds.Nothing (Granting next again) ds h le = le
on_row setup (Granting last repeats) p deeds.Nothing (Pausing next again) ds h le = le
on_row setup (Granting last repeats) p (deeds.Grant number) (Granting next again) ds h le = le
on_row setup (Granting last repeats) p (deeds.End end) Ended ds h le = le
on_row setup (Pausing last repeats) p deeds.Nothing (Pausing next again) ds h le = le
on_row setup (Pausing last repeats) p (deeds.Grant number) (Granting next again) ds h le = le
on_row setup (Pausing last repeats) p (deeds.End end) Ended ds h le = le
on_row setup Ended p deeds.Nothing Ended ds h le = le
on_row setup stage p d next ds h le = absurd h

on_from : (setup : MoveSetup) (ps : List Pair) (stage : Stage) → IsSoundStage stage →
    length (redirections (deeds_from setup stage ps)) ≤ on_left stage
unfolding deeds_from
on_from setup [] stage sound = omega arith
on_from setup (p ∷ ps) stage sound =
    let next : Stage = (move_step setup stage p).stage in
    on_row setup stage p (move_step setup stage p).deed next (deeds_from setup next ps) (step_row setup stage p sound)
    (on_from setup ps next (step_sound setup stage p sound))

-- how many grants may still be sent
abbrev grants_left : Stage → ℕ
grants_left (Opening start) = 11
grants_left (Revoking last sent_on) = 11
grants_left (Granting last repeats) = 10 - repeats
grants_left (Pausing last repeats) = 10 - repeats
grants_left Ended = 0

same_left : (n again repeats : ℕ) → again ≡ repeats → n ≤ 10 - again → n ≤ 10 - repeats
same_left n again repeats e le = omega (arith, e, le)

one_left : (n again repeats : ℕ) → again ≡ repeats + 1 → repeats < 10 → n ≤ 10 - again → suc n ≤ 10 - repeats
one_left n again repeats e lt le = omega (arith, e, lt, le)

grants_row : (setup : MoveSetup) (stage : Stage) (p : Pair) (d : MoveDeed) (next : Stage) (ds : List MoveDeed) →
    Follows setup stage p d next → length (grants_of ds) ≤ grants_left next → length (grants_of (d ∷ ds)) ≤ grants_left stage
grants_row setup (Opening start) p (deeds.Revoke None number) (Revoking next on) ds h le = le
grants_row setup (Revoking last sent_on) p deeds.Nothing (Revoking next on) ds h le = le
grants_row setup (Revoking last sent_on) p (deeds.Revoke (Some place) number) (Revoking next on) ds h le = le
grants_row setup (Revoking last sent_on) p (deeds.Grant number) (Granting next again) ds h le = omega (arith, le)
grants_row setup (Revoking last sent_on) p (deeds.End end) Ended ds h le = omega (arith, le)
grants_row setup (Granting last repeats) p deeds.Nothing (Granting next again) ds h le = same_left _ again repeats h.1 le
grants_row setup (Granting last repeats) p deeds.Nothing (Pausing next again) ds h le = same_left _ again repeats h.4 le
grants_row setup (Granting last repeats) p (deeds.Grant number) (Granting next again) ds h le =
    one_left _ again repeats h.1.one_more h.1.fewer le
grants_row setup (Granting last repeats) p (deeds.End end) Ended ds h le = omega (arith, le)
grants_row setup (Pausing last repeats) p deeds.Nothing (Pausing next again) ds h le = same_left _ again repeats h.3 le
grants_row setup (Pausing last repeats) p (deeds.Grant number) (Granting next again) ds h le =
    one_left _ again repeats h.one_more h.fewer le
grants_row setup (Pausing last repeats) p (deeds.End end) Ended ds h le = omega (arith, le)
grants_row setup Ended p deeds.Nothing Ended ds h le = le
grants_row setup stage p d next ds h le = absurd h

grants_from : (setup : MoveSetup) (ps : List Pair) (stage : Stage) → IsSoundStage stage →
    length (grants_of (deeds_from setup stage ps)) ≤ grants_left stage
unfolding deeds_from
grants_from setup [] stage sound = omega arith
grants_from setup (p ∷ ps) stage sound =
    let next : Stage = (move_step setup stage p).stage in
    grants_row setup stage p (move_step setup stage p).deed next (deeds_from setup next ps) (step_row setup stage p sound)
    (grants_from setup ps next (step_sound setup stage p sound))

pub seldom : AsksSeldom
seldom = record {
  once = λ setup start pairs. on_from setup pairs (Opening start) tt;
  eleven = λ setup start pairs. grants_from setup pairs (Opening start) tt;
}

-- ---- numbers

-- how the numbers of grants go on from a stage
abbrev RisesFrom : Stage → List ℕ → Type 0
RisesFrom (Granting last repeats) numbers = IsRisingFrom last.number numbers
RisesFrom (Pausing last repeats) numbers = IsRisingFrom last.number numbers
RisesFrom Ended numbers = numbers ≡ []
RisesFrom stage numbers = IsRising numbers

rises_none : (number : ℕ) (numbers : List ℕ) → numbers ≡ [] → IsRisingFrom number numbers
rises_none number numbers e = subst (λ (ns : List ℕ). IsRisingFrom number ns) (sym e) tt

-- a request of this number
rises_with : (next other : Request) (numbers : List ℕ) → next ≡ other → IsRisingFrom next.number numbers → IsRisingFrom other.number numbers
rises_with next other numbers e rises = subst (λ (r : Request). IsRisingFrom r.number numbers) e rises

rises_on : (wait : Bool) (last : Request) (p : Pair) (next : Request) (numbers : List ℕ) → GoesOn wait last p next →
    IsRisingFrom next.number numbers → IsRisingFrom last.number numbers
rises_on wait last p next numbers (inl more) rises = rises_with next _ numbers more.2 rises
rises_on wait last p next numbers (inr begun) rises = rises_with next _ numbers begun.2 rises

rises_row : (setup : MoveSetup) (stage : Stage) (p : Pair) (d : MoveDeed) (next : Stage) (ds : List MoveDeed) →
    Follows setup stage p d next → RisesFrom next (grants_of ds) → RisesFrom stage (grants_of (d ∷ ds))
rises_row setup (Opening start) p (deeds.Revoke None number) (Revoking next on) ds h rises = rises
rises_row setup (Revoking last sent_on) p deeds.Nothing (Revoking next on) ds h rises = rises
rises_row setup (Revoking last sent_on) p (deeds.Revoke (Some place) number) (Revoking next on) ds h rises = rises
rises_row setup (Revoking last sent_on) p (deeds.Grant number) (Granting next again) ds h rises = rises_with next _ (grants_of ds) h.1.is rises
rises_row setup (Revoking last sent_on) p (deeds.End end) Ended ds h rises = subst (λ (ns : List ℕ). IsRising ns) (sym rises) tt
rises_row setup (Granting last repeats) p deeds.Nothing (Granting next again) ds h rises = rises_on setup.wait last p next (grants_of ds) h.0 rises
rises_row setup (Granting last repeats) p deeds.Nothing (Pausing next again) ds h rises = rises_with next _ (grants_of ds) h.3 rises
rises_row setup (Granting last repeats) p (deeds.Grant number) (Granting next again) ds h rises =
    (h.1.number_is, rises_with next _ (grants_of ds) h.1.is rises)
rises_row setup (Granting last repeats) p (deeds.End end) Ended ds h rises = rises_none last.number (grants_of ds) rises
rises_row setup (Pausing last repeats) p deeds.Nothing (Pausing next again) ds h rises = rises_with next _ (grants_of ds) h.2 rises
rises_row setup (Pausing last repeats) p (deeds.Grant number) (Granting next again) ds h rises =
    (h.number_is, rises_with next _ (grants_of ds) h.is rises)
rises_row setup (Pausing last repeats) p (deeds.End end) Ended ds h rises = rises_none last.number (grants_of ds) rises
rises_row setup Ended p deeds.Nothing Ended ds h rises = rises
rises_row setup stage p d next ds h rises = absurd h

rises_end : (stage : Stage) → RisesFrom stage []
rises_end (Opening start) = tt
rises_end (Revoking last sent_on) = tt
rises_end (Granting last repeats) = tt
rises_end (Pausing last repeats) = tt
rises_end Ended = refl

rises_from : (setup : MoveSetup) (ps : List Pair) (stage : Stage) → IsSoundStage stage → RisesFrom stage (grants_of (deeds_from setup stage ps))
unfolding deeds_from
rises_from setup [] stage sound = rises_end stage
rises_from setup (p ∷ ps) stage sound =
    let next : Stage = (move_step setup stage p).stage in
    rises_row setup stage p (move_step setup stage p).deed next (deeds_from setup next ps) (step_row setup stage p sound)
    (rises_from setup ps next (step_sound setup stage p sound))

pub rise : NumbersRise
rise setup start pairs = rises_from setup pairs (Opening start) tt
