-- The setup of a move, the pairs that it receives, and the part of the move that contracts see.
use Rattle.std.specs.Prelude.{◌<◌, ◌≤◌, ℕ, Bool, true, false, ◌==◌, ◌&&◌, List, length, position, is_some, Option}
use Rattle.std.specs.Option.{option_map_or}
use Rattle.booth_base.specs.declared.limits.TheConstants.{MEMBERS}
use Rattle.booth_base.specs.declared.address.MemberId.{MemberId}
use Rattle.booth_conf.specs.declared.members.Member.{Member}
use Rattle.booth_wire.specs.declared.command.Cmd.{Cmd}
use Rattle.booth_wire.specs.declared.command.Cmd.TheVariants.{CGnt, CRvk}
use Rattle.booth_wire.specs.Command.{answer_of, code_of}
use Rattle.booth_wire.specs.PlainMessage.{PlainMessage}
use Rattle.booth_talk.specs.declared.wait.TheConstants.{MOST_PAIRS}
use Rattle.booth_move.specs.declared.steps.TheConstants.{REPEATS}
use Rattle.booth_move.specs.declared.stage.Stage.{Stage}
use Rattle.booth_move.specs.declared.stage.Stage.TheVariants.{Opening, Revoking, Granting, Pausing, Ended}

abbrev pub id_number : Member → ℕ
id_number m = m.id.0

-- The place of this id among the members' ids.
abbrev pub place_of : MemberId → List ℕ → Option ℕ
place_of id ids = position (λ other. other == id.0) ids

-- The setup: the ids of the members in the order of the configuration, the ticket, the place of the target, and
-- whether the move waits for outcomes.
pub record MoveSetup : Type 0 where
  pub ids : List ℕ
  pub ticket : List ℕ
  pub target : ℕ
  pub wait : Bool

-- A clock reading, and the reply that arrived before it.
pub record Pair : Type 0 where
  pub reading : ℕ
  pub reply : Option PlainMessage

-- ---- the replies that are answers

-- The command answers the command of the request.
abbrev pub answers : Cmd → Cmd → Bool
answers asked cmd = option_map_or (λ answer. code_of answer == code_of cmd) (answer_of asked) false

-- The reply answers the command of the request, has its number, and comes from a member.
abbrev pub is_reply_to : List ℕ → Cmd → ℕ → PlainMessage → Bool
is_reply_to ids asked number m =
    answers asked m.head.cmd && ((m.head.request == number) && is_some (place_of m.head.from ids))

-- The reply answers the last request. Before the first request there is no answer, and after the end it does not
-- matter.
abbrev pub is_answer : MoveSetup → Stage → PlainMessage → Bool
is_answer setup (Opening start) m = false
is_answer setup (Revoking last sent_on) m = is_reply_to setup.ids CRvk last.number m
is_answer setup (Granting last repeats) m = is_reply_to setup.ids CGnt last.number m
is_answer setup (Pausing last repeats) m = is_reply_to setup.ids CGnt last.number m
is_answer setup Ended m = true

-- ---- a move as contracts see it

pub record Move : Type 0 where
  pub setup : MoveSetup
  pub stage : Stage

-- The target is the place of a member.
pub record IsSoundSetup (setup : MoveSetup) : Type 0 where
  pub few : length setup.ids ≤ MEMBERS
  pub there : setup.target < length setup.ids

-- No wait has more pairs than allowed, and the grant was not repeated too often.
abbrev pub IsSoundStage : Stage → Type 0
IsSoundStage (Opening start) = Unit {0}
IsSoundStage (Revoking last sent_on) = last.pairs < MOST_PAIRS
IsSoundStage (Granting last repeats) = (last.pairs < MOST_PAIRS) × (repeats ≤ REPEATS)
IsSoundStage (Pausing last repeats) = (last.pairs < MOST_PAIRS) × (repeats < REPEATS)
IsSoundStage Ended = Unit {0}
