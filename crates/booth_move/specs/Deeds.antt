-- The action and the stage after a pair at each stage of a move, and the actions of a move.
use Rattle.std.specs.Prelude.{ℕ, Bool, true, false, not, ◌+◌, ◌%◌, ◌^◌, ◌&&◌, ◌==◌, nat_lt, List, [], ◌∷◌}
use Rattle.std.specs.Prelude.{Option, Some, None, if◌then◌else◌}
use Rattle.booth_wire.specs.declared.codes.results.TheConstants.{SUCCESS, ASYN, BUSY, REDR}
use Rattle.booth_talk.specs.declared.reply.Reply.{Reply}
use Rattle.booth_talk.specs.Asking.{number_of}
use Rattle.booth_move.specs.declared.deeds.MoveDeed.{MoveDeed}
use Rattle.booth_move.specs.declared.deeds.MoveDeed.TheVariants as deeds
use Rattle.booth_move.specs.declared.deeds.MoveEnd.{MoveEnd}
use Rattle.booth_move.specs.declared.deeds.MoveEnd.TheVariants.{Moved, Asked, Refused, Stranded, NoReply}
use Rattle.booth_move.specs.declared.stage.Request.{Request}
use Rattle.booth_move.specs.declared.stage.Stage.{Stage}
use Rattle.booth_move.specs.declared.stage.Stage.TheVariants.{Opening, Revoking, Granting, Pausing, Ended}
use Rattle.booth_move.specs.declared.steps.TheConstants.{REPEATS}
use Rattle.booth_move.specs.declared.steps.Step.{Step}
use Rattle.booth_move.specs.declared.waiting.Waits.{Waits}
use Rattle.booth_move.specs.declared.waiting.Waits.TheVariants.{On, Over, Came}
use Rattle.booth_move.specs.Move.{MoveSetup, Pair, place_of}
use Rattle.booth_move.specs.Waiting.{is_rested, judged, one_more, request_at, sent}

abbrev pub no_deed : Stage → Step
no_deed stage = record { deed = deeds.Nothing; stage = stage }

abbrev pub ends : MoveEnd → Step
ends end = record { deed = deeds.End end; stage = Ended }

-- The revoke is sent for the first time, to the same member as by `booth revoke`.
abbrev pub opens : ℕ → Step
opens start = record { deed = deeds.Revoke None (number_of start); stage = Revoking (request_at start) false }

-- ---- the revoke

-- The revoke is redirected to the member that the reply named as the owner, as a new request.
abbrev pub sends_on : ℕ → ℕ → Step
sends_on place reading =
    record { deed = deeds.Revoke (Some place) (number_of reading); stage = Revoking (request_at reading) true }

-- The place of the member that the reply named as the owner. The revoke is redirected once only.
abbrev pub followed : List ℕ → Bool → Reply → Option ℕ
followed ids sent_on reply =
    if not sent_on && reply.result == REDR then place_of reply.leader ids else None

-- The grant with this number is sent, after this many repeats.
abbrev pub grants : ℕ → ℕ → ℕ → Step
grants number reading repeats =
    record { deed = deeds.Grant number; stage = Granting (sent number reading) repeats }

abbrev pub sent_on_or_refused : Option ℕ → ℕ → Reply → Step
sent_on_or_refused (Some place) reading reply = sends_on place reading
sent_on_or_refused None reading reply = ends (Refused reply.result)

-- The revoke has an answer. The grant is sent, as a new request, only if the ticket was released.
abbrev pub revoke_answered : List ℕ → Bool → ℕ → Reply → Step
revoke_answered ids sent_on reading reply =
    if reply.result == SUCCESS then grants (number_of reading) reading 0
    else sent_on_or_refused (followed ids sent_on reply) reading reply

abbrev pub while_revoking : List ℕ → Bool → ℕ → Waits → Step
while_revoking ids sent_on reading (On last) = no_deed (Revoking last sent_on)
while_revoking ids sent_on reading Over = ends NoReply
while_revoking ids sent_on reading (Came reply) = revoke_answered ids sent_on reading reply

-- ---- the grant

-- The next request number, which is 0 after the last.
abbrev pub next_number : ℕ → ℕ
next_number number = (number + 1) % 2 ^ 32

-- The grant is sent again.
abbrev pub repeats_grant : Request → ℕ → ℕ → Step
repeats_grant last repeats reading = grants (next_number last.number) reading (repeats + 1)

-- The target is busy. If the reading of this answer is late enough, the grant is repeated at once.
abbrev pub rests : Request → ℕ → ℕ → Step
rests last repeats reading =
    if is_rested last reading then repeats_grant last repeats reading
    else no_deed (Pausing (record last { pairs = 0 }) repeats)

-- The grant has an answer.
abbrev pub grant_answered : Request → ℕ → ℕ → Reply → Step
grant_answered last repeats reading reply =
    if reply.result == SUCCESS then ends Moved
    else (if reply.result == ASYN then ends Asked
    else (if (reply.result == BUSY) && nat_lt repeats REPEATS then rests last repeats reading
    else ends (Stranded reply.result)))

abbrev pub while_granting : Request → ℕ → ℕ → Waits → Step
while_granting last repeats reading (On next) = no_deed (Granting next repeats)
while_granting last repeats reading Over = ends NoReply
while_granting last repeats reading (Came reply) = grant_answered last repeats reading reply

-- ---- the pause

abbrev pub pauses_on : Option Request → ℕ → Step
pauses_on (Some last) repeats = no_deed (Pausing last repeats)
pauses_on None repeats = ends NoReply

-- The move sends the target nothing, and ignores replies. At the first reading that is late enough, it repeats the
-- grant, with the next number and this reading as its start.
abbrev pub while_pausing : Request → ℕ → ℕ → Step
while_pausing last repeats reading =
    if is_rested last reading then repeats_grant last repeats reading else pauses_on (one_more last) repeats

-- ---- all stages

-- The action and the stage after a pair.
abbrev pub move_step : MoveSetup → Stage → Pair → Step
move_step setup (Opening start) p = opens start
move_step setup (Revoking last sent_on) p =
    while_revoking setup.ids sent_on p.reading (judged setup.wait last p.reading p.reply)
move_step setup (Granting last repeats) p =
    while_granting last repeats p.reading (judged setup.wait last p.reading p.reply)
move_step setup (Pausing last repeats) p = while_pausing last repeats p.reading
move_step setup Ended p = no_deed Ended

-- The actions of these pairs from a stage on, one for each pair.
unfoldable pub deeds_from : MoveSetup → Stage → List Pair → List MoveDeed
deeds_from setup stage [] = []
deeds_from setup stage (p ∷ ps) =
    let step : Step = move_step setup stage p in step.deed ∷ deeds_from setup step.stage ps

-- The actions of a move that starts at this reading, one for each pair. The first is the action of the start,
-- whatever its pair has.
abbrev pub move_deeds : MoveSetup → ℕ → List Pair → List MoveDeed
move_deeds setup start pairs = deeds_from setup (Opening start) pairs

-- The stage after these pairs, from a stage on.
unfoldable pub stage_after : MoveSetup → Stage → List Pair → Stage
stage_after setup stage [] = stage
stage_after setup stage (p ∷ ps) = stage_after setup (move_step setup stage p).stage ps
