-- A step keeps to the bounds of waits and repeats.
use Rattle.std.proofs.Common.{◌≡◌, ◌<◌, ◌≤◌, ◌+◌, Bool, sym, subst, inl, inr, arith}
use Rattle.std.specs.Prelude.{Some, None}
use Rattle.booth_talk.specs.declared.wait.TheConstants.{MOST_PAIRS}
use Rattle.booth_move.specs.declared.deeds.MoveDeed.{MoveDeed}
use Rattle.booth_move.specs.declared.deeds.MoveDeed.TheVariants as deeds
use Rattle.booth_move.specs.declared.stage.Request.{Request}
use Rattle.booth_move.specs.declared.stage.Stage.{Stage}
use Rattle.booth_move.specs.declared.stage.Stage.TheVariants.{Opening, Revoking, Granting, Pausing, Ended}
use Rattle.booth_move.specs.Move.{IsSoundStage, MoveSetup, Pair}
use Rattle.booth_move.specs.Deeds.{move_step}
use Rattle.booth_move.specs.Rows.{Follows, GoesOn}
use Rattle.booth_move.proofs.RowLemmas.{step_row}

-- a request with these pairs
with_pairs : (next other : Request) → next ≡ other → other.pairs < MOST_PAIRS → next.pairs < MOST_PAIRS
with_pairs next other is below = subst (λ (r : Request). r.pairs < MOST_PAIRS) (sym is) below

goes_on_below : (wait : Bool) (last : Request) (p : Pair) (next : Request) → GoesOn wait last p next → next.pairs < MOST_PAIRS
goes_on_below wait last p next (inl more) = with_pairs next (record last { pairs = last.pairs + 1 }) more.2 more.1
goes_on_below wait last p next (inr begun) = with_pairs next _ begun.2 (omega arith)

pub row_sound : (setup : MoveSetup) (stage : Stage) (p : Pair) (deed : MoveDeed) (next : Stage) → IsSoundStage stage →
    Follows setup stage p deed next → IsSoundStage next
row_sound setup (Opening start) p (deeds.Revoke None number) (Revoking next on) sound h = with_pairs next _ h.1 (omega arith)
row_sound setup (Revoking last sent_on) p deeds.Nothing (Revoking next on) sound h = goes_on_below setup.wait last p next h.0
row_sound setup (Revoking last sent_on) p (deeds.Revoke (Some place) number) (Revoking next on) sound h = with_pairs next _ h.2.is (omega arith)
row_sound setup (Revoking last sent_on) p (deeds.Grant number) (Granting next again) sound h =
    (with_pairs next _ h.1.is (omega arith), let e : again ≡ 0 = h.2 in omega arith)
row_sound setup (Granting last repeats) p deeds.Nothing (Granting next again) sound h =
    (goes_on_below setup.wait last p next h.0, let e : again ≡ repeats = h.1 in let le : repeats ≤ 10 = sound.1 in omega arith)
row_sound setup (Granting last repeats) p deeds.Nothing (Pausing next again) sound h =
    (with_pairs next _ h.3 (omega arith), let e : again ≡ repeats = h.4 in let lt : repeats < 10 = h.2 in omega arith)
row_sound setup (Granting last repeats) p (deeds.Grant number) (Granting next again) sound h =
    (with_pairs next _ h.1.is (omega arith), let e : again ≡ repeats + 1 = h.1.one_more in let lt : repeats < 10 = h.1.fewer in omega arith)
row_sound setup (Pausing last repeats) p deeds.Nothing (Pausing next again) sound h =
    (with_pairs next _ h.2 h.1, let e : again ≡ repeats = h.3 in let lt : repeats < 10 = sound.1 in omega arith)
row_sound setup (Pausing last repeats) p (deeds.Grant number) (Granting next again) sound h =
    (with_pairs next _ h.is (omega arith), let e : again ≡ repeats + 1 = h.one_more in let lt : repeats < 10 = h.fewer in omega arith)
row_sound setup (Revoking last sent_on) p (deeds.End end) Ended sound h = tt
row_sound setup (Granting last repeats) p (deeds.End end) Ended sound h = tt
row_sound setup (Pausing last repeats) p (deeds.End end) Ended sound h = tt
row_sound setup Ended p deeds.Nothing Ended sound h = tt
row_sound setup stage p deed next sound h = absurd h

pub step_sound : (setup : MoveSetup) (stage : Stage) (p : Pair) → IsSoundStage stage → IsSoundStage (move_step setup stage p).stage
step_sound setup stage p sound = row_sound setup stage p (move_step setup stage p).deed (move_step setup stage p).stage sound (step_row setup stage p sound)
