-- The number of pairs that a move may have before it ends.
use Rattle.std.specs.Prelude.{◌≤◌, ◌+◌, ◌-◌, ◌*◌, ℕ, Bool, true, false}
use Rattle.booth_talk.specs.declared.wait.TheConstants.{MOST_PAIRS}
use Rattle.booth_move.specs.declared.deeds.MoveDeed.{MoveDeed}
use Rattle.booth_move.specs.declared.deeds.MoveDeed.TheVariants as deeds
use Rattle.booth_move.specs.declared.stage.Request.{Request}
use Rattle.booth_move.specs.declared.stage.Stage.{Stage}
use Rattle.booth_move.specs.declared.stage.Stage.TheVariants.{Opening, Revoking, Granting, Pausing, Ended}

-- The waits for the answer to one request: the wait for the first answer, and the wait for its outcome.
abbrev pub wait_left : Bool → ℕ → ℕ
wait_left true pairs = MOST_PAIRS - pairs
wait_left false pairs = MOST_PAIRS + (MOST_PAIRS - pairs)

abbrev pub request_left : Request → ℕ
request_left last = wait_left last.begun last.pairs

-- The waits of a revoke that is redirected to the owner.
abbrev pub on_left : Bool → ℕ
on_left true = 0
on_left false = 2 * MOST_PAIRS

abbrev pub pairs_left : Stage → ℕ
pairs_left (Opening start) = 1 + 36 * MOST_PAIRS
pairs_left (Revoking last sent_on) = request_left last + on_left sent_on + 32 * MOST_PAIRS
pairs_left (Granting last repeats) = request_left last + (10 - repeats) * (3 * MOST_PAIRS)
pairs_left (Pausing last repeats) = (MOST_PAIRS - last.pairs) + 2 * MOST_PAIRS + (9 - repeats) * (3 * MOST_PAIRS)
pairs_left Ended = 0

-- A step ends the move, or leaves it with fewer pairs left.
abbrev pub Lessens : Stage → MoveDeed → Stage → Type 0
Lessens old (deeds.End end) new = Unit {0}
Lessens old deed new = 1 ≤ pairs_left old → (1 ≤ pairs_left new) × (pairs_left new + 1 ≤ pairs_left old)
