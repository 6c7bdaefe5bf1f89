-- Laws of the calls of every move.
use Rattle.std.specs.Prelude.{◌≡◌, ◌<◌, ◌++◌, ℕ, true, List, [], ◌∷◌, length, None, is_some, Bool, false, T}
use Rattle.booth_host.specs.declared.entry.Entry.{Entry}
use Rattle.booth_talk.specs.Waiting.{Pair as CallPair, calls_of}
use Rattle.booth_move.specs.declared.carrying.Moving.{Moving}
use Rattle.booth_move.specs.declared.deeds.MoveDeed.{MoveDeed}
use Rattle.booth_move.specs.declared.deeds.MoveDeed.TheVariants as deeds
use Rattle.booth_move.specs.declared.stage.Stage.{Stage}
use Rattle.booth_move.specs.declared.stage.Stage.TheVariants.{Opening}
use Rattle.booth_move.specs.Carrying.{calls_so_far, sends, sent_for, setup_of, step_at, told}
use Rattle.booth_move.specs.Deeds.{move_deeds, opens}
use Rattle.booth_move.specs.Laws.{AreAnswers}
use Rattle.booth_move.specs.Move.{IsSoundStage, Pair}

-- The pairs of calls, as the move receives them from a stage on.
unfoldable pub told_from : Moving → Stage → List CallPair → List Pair
told_from moving stage [] = []
told_from moving stage (p ∷ ps) = told moving stage p ∷ told_from moving (step_at moving stage p).stage ps

-- All input of a move: its start, and then each pair.
abbrev pub all_told : Moving → ℕ → List CallPair → List Pair
all_told moving start pairs =
    let first : Pair = record { reading = start; reply = None } in first ∷ told_from moving (opens start).stage pairs

-- The calls of pairs, each followed by the send for an action.
abbrev pub calls_with : Moving → List CallPair → List MoveDeed → List Entry
calls_with moving (p ∷ ps) (d ∷ ds) =
    (calls_of p ++ sends moving p.reading (sent_for moving d)) ++ calls_with moving ps ds
calls_with moving ps ds = []

-- The calls of a move with these actions. The first action follows the start.
abbrev pub calls_of_deeds : Moving → ℕ → List CallPair → List MoveDeed → List Entry
calls_of_deeds moving start pairs [] = []
calls_of_deeds moving start pairs (d ∷ ds) = sends moving start (sent_for moving d) ++ calls_with moving pairs ds

-- The calls of a move are its pairs, with the sends of its actions between them. Each reply that the move receives is
-- an answer to its last request. So a property of the actions is a property of the sends.
pub record CarriesDeeds : Type 0 where
  pub calls : (moving : Moving) (start : ℕ) (pairs : List CallPair) →
      calls_so_far moving start pairs
      ≡ calls_of_deeds moving start pairs (move_deeds (setup_of moving) start (all_told moving start pairs))
  pub answers : (moving : Moving) (start : ℕ) (pairs : List CallPair) →
      AreAnswers (setup_of moving) (Opening start) (all_told moving start pairs)

-- The action is a request.
abbrev pub is_request : MoveDeed → Bool
is_request (deeds.Revoke to number) = true
is_request (deeds.Grant number) = true
is_request deed = false

abbrev pub IsRequest : MoveDeed → Type 0
IsRequest deed = T (is_request deed)

-- Each request of a move to a member's place is sent to some address.
abbrev pub RequestsAreSent : Type 0
RequestsAreSent = (moving : Moving) (stage : Stage) (p : CallPair) → moving.target < length moving.config.members →
    IsSoundStage stage → IsRequest (step_at moving stage p).deed
    → is_some (sent_for moving (step_at moving stage p).deed) ≡ true
