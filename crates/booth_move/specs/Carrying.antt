-- A move over a host: the messages for its actions, the reply in a datagram, and all calls of a move.
use Rattle.std.specs.Prelude.{◌≡◌, ◌≤◌, ◌+◌, ◌++◌, ◌&&◌, ◌⊎◌, ℕ, false, List, [], ◌∷◌, length, map, slice_get, Option, Some, None, option_map, Result, Ok, Err, if◌then◌else◌}
use Rattle.booth_base.specs.declared.address.Peer.{Peer as Place}
use Rattle.booth_wire.specs.declared.codes.options.TheConstants.{WAIT}
use Rattle.booth_wire.specs.declared.command.Cmd.{Cmd}
use Rattle.booth_wire.specs.declared.command.Cmd.TheVariants.{CGnt, CRvk}
use Rattle.booth_wire.specs.declared.message.FrameFault.{FrameFault}
use Rattle.booth_wire.specs.PlainMessage.{PlainMessage, Ticket}
use Rattle.booth_wire.specs.Reading.{decoded}
use Rattle.booth_auth.specs.Sealed.{sealed, stamped}
use Rattle.booth_auth.specs.Verdict.{is_signed}
use Rattle.booth_host.specs.declared.host.Arrival.{Arrival}
use Rattle.booth_host.specs.declared.host.Arrival.TheVariants.{Datagram}
use Rattle.booth_host.specs.declared.host.Failed.{Failed}
use Rattle.booth_host.specs.declared.entry.Entry.{Entry}
use Rattle.booth_host.specs.declared.entry.Entry.TheVariants.{Send}
use Rattle.booth_talk.specs.Asking.{asked_part, bit, peer_at}
use Rattle.booth_talk.specs.Waiting.{Pair as CallPair, calls_of}
use Rattle.booth_move.specs.declared.carrying.Asks.{Asks}
use Rattle.booth_move.specs.declared.carrying.Asks.TheVariants as asks
use Rattle.booth_move.specs.declared.carrying.Moving.{Moving}
use Rattle.booth_move.specs.declared.carrying.Sending.{Sending}
use Rattle.booth_move.specs.declared.deeds.MoveDeed.{MoveDeed}
use Rattle.booth_move.specs.declared.deeds.MoveDeed.TheVariants as deeds
use Rattle.booth_move.specs.declared.deeds.MoveEnd.{MoveEnd}
use Rattle.booth_move.specs.declared.stage.Stage.{Stage}
use Rattle.booth_move.specs.declared.steps.Step.{Step}
use Rattle.booth_move.specs.Bound.{pairs_left}
use Rattle.booth_move.specs.Deeds.{move_step, opens}
use Rattle.booth_move.specs.Move.{MoveSetup, Pair, id_number, is_answer}

abbrev pub setup_of : Moving → MoveSetup
setup_of moving = record {
  ids = map id_number moving.config.members;
  ticket = moving.ticket;
  target = moving.target;
  wait = moving.wait;
}

-- ---- the messages of requests

abbrev pub cmd_of : Asks → Cmd
cmd_of asks.Revoke = CRvk
cmd_of asks.Grant = CGnt

-- The message of a request, except its time and MAC.
abbrev pub request : Moving → Asks → ℕ → PlainMessage
request moving what number = record {
  head = record {
    auth = false;
    secs = 0;
    usecs = 0;
    from = record { 0 = 0 };
    cmd = cmd_of what;
    request = number;
    options = bit moving.wait WAIT;
    reason = 0;
    result = 0;
  };
  content = Ticket (asked_part moving.ticket);
}

-- The bytes of a request with this number that is sent at this reading.
abbrev pub request_bytes : Moving → Asks → ℕ → ℕ → List ℕ
request_bytes moving what number start = sealed moving.ring (stamped moving.ring start (request moving what number))

-- The address at which the member with this index listens.
abbrev pub member_peer : Moving → ℕ → Option Place
member_peer moving place = option_map (peer_at moving.config) (slice_get moving.config.members place)

abbrev pub sending_to : Asks → ℕ → Place → Sending
sending_to what number to = record { to = to; what = what; number = number }

-- The message for an action. The first revoke goes to the member that is asked for the ticket. Every other request
-- goes to a member by its place.
abbrev pub sent_for : Moving → MoveDeed → Option Sending
sent_for moving deeds.Nothing = None
sent_for moving (deeds.Revoke None number) = Some (sending_to asks.Revoke number moving.to)
sent_for moving (deeds.Revoke (Some place) number) =
    option_map (sending_to asks.Revoke number) (member_peer moving place)
sent_for moving (deeds.Grant number) = option_map (sending_to asks.Grant number) (member_peer moving moving.target)
sent_for moving (deeds.End end) = None

-- The call that sends the message at a reading.
abbrev pub send_call : Moving → ℕ → Sending → Result Unit Failed → Entry
send_call moving start s answer = Send s.to (request_bytes moving s.what s.number start) answer

-- ---- replies

-- The message, if it has the right MAC (if there is a key) and answers the last request.
abbrev pub answer_read : Moving → Stage → List ℕ → Result PlainMessage FrameFault → Option PlainMessage
answer_read moving stage bytes (Ok m) =
    if is_signed moving.ring m.head bytes && is_answer (setup_of moving) stage m then Some m else None
answer_read moving stage bytes (Err fault) = None

-- The answer in these bytes, if they are an answer.
unfoldable pub answer_in : Moving → Stage → List ℕ → Option PlainMessage
answer_in moving stage bytes = answer_read moving stage bytes (decoded bytes)

-- The answer in an arrival. Only a datagram has one.
abbrev pub answer_at : Moving → Stage → Result Arrival Failed → List ℕ → Option PlainMessage
answer_at moving stage (Ok (Datagram peer)) bytes = answer_in moving stage bytes
answer_at moving stage answer bytes = None

-- A pair of calls, as the move receives it.
abbrev pub told : Moving → Stage → CallPair → Pair
told moving stage p = record { reading = p.reading; reply = answer_at moving stage p.answer p.bytes }

-- ---- the calls

-- The send for an action, if the action has a message. The send succeeded.
abbrev pub sends : Moving → ℕ → Option Sending → List Entry
sends moving start None = []
sends moving start (Some s) = send_call moving start s (Ok tt) ∷ []

abbrev pub step_at : Moving → Stage → CallPair → Step
step_at moving stage p = move_step (setup_of moving) stage (told moving stage p)

-- The calls of these pairs from a stage on, with the sends between them.
unfoldable pub calls_from : Moving → Stage → List CallPair → List Entry
calls_from moving stage [] = []
calls_from moving stage (p ∷ ps) =
    let step : Step = step_at moving stage p in
    (calls_of p ++ sends moving p.reading (sent_for moving step.deed)) ++ calls_from moving step.stage ps

-- The stage after these pairs.
unfoldable pub stage_from : Moving → Stage → List CallPair → Stage
stage_from moving stage [] = stage
stage_from moving stage (p ∷ ps) = stage_from moving (step_at moving stage p).stage ps

-- The calls of a move that continues after these pairs.
abbrev pub calls_so_far : Moving → ℕ → List CallPair → List Entry
calls_so_far moving start pairs =
    sends moving start (sent_for moving (opens start).deed) ++ calls_from moving (opens start).stage pairs

abbrev pub stage_so_far : Moving → ℕ → List CallPair → Stage
stage_so_far moving start pairs = stage_from moving (opens start).stage pairs

-- The move reached this end, after its last pair.
pub record IsFinished (moving : Moving) (start : ℕ) (end : MoveEnd) (entries : List Entry) : Type 0 where
  pub pairs : List CallPair
  pub last : CallPair
  pub whole : entries ≡ calls_so_far moving start pairs ++ calls_of last
  pub is : (step_at moving (stage_so_far moving start pairs) last).deed ≡ deeds.End end

-- A request could not be sent: the request of the start, or a request after a pair.
pub record IsUnopened (moving : Moving) (start : ℕ) (failed : Failed) (entries : List Entry) : Type 0 where
  pub s : Sending
  pub is : sent_for moving (opens start).deed ≡ Some s
  pub whole : entries ≡ send_call moving start s (Err failed) ∷ []

pub record IsUnsent (moving : Moving) (start : ℕ) (failed : Failed) (entries : List Entry) : Type 0 where
  pub pairs : List CallPair
  pub last : CallPair
  pub s : Sending
  pub is : sent_for moving (step_at moving (stage_so_far moving start pairs) last).deed ≡ Some s
  pub whole : entries ≡ calls_so_far moving start pairs
      ++ (calls_of last ++ send_call moving last.reading s (Err failed) ∷ [])

-- All calls of a move from its start on, by how it ended.
abbrev pub IsCarried : Moving → ℕ → Result MoveEnd Failed → List Entry → Type 0
IsCarried moving start (Ok end) entries = IsFinished moving start end entries
IsCarried moving start (Err failed) entries =
    IsUnopened moving start failed entries ⊎ IsUnsent moving start failed entries

-- ---- in the code

-- The calls for an action, with this message if there is one.
abbrev pub IsSent : Moving → ℕ → Option Sending → Result Unit Failed → List Entry → Type 0
IsSent moving start None (Ok done) entries = entries ≡ []
IsSent moving start (Some s) answer entries = entries ≡ send_call moving start s answer ∷ []
IsSent moving start None (Err failed) entries = ⊥

-- The calls of this many pairs, after which the move is at this stage.
pub record IsUnderway (moving : Moving) (start : ℕ) (stage : Stage) (count : ℕ) (entries : List Entry) : Type 0 where
  pub pairs : List CallPair
  pub number : length pairs ≡ count
  pub stands : stage_so_far moving start pairs ≡ stage
  pub whole : entries ≡ calls_so_far moving start pairs

-- The end, if the action is one.
abbrev pub end_of : MoveDeed → Option MoveEnd
end_of (deeds.End end) = Some end
end_of deed = None

-- The calls of one pair after which the move continues, with the send for its action.
pub record IsGoneOn (moving : Moving) (old new : Stage) (entries : List Entry) : Type 0 where
  pub p : CallPair
  pub stands : new ≡ (step_at moving old p).stage
  pub whole : entries ≡ calls_of p ++ sends moving p.reading (sent_for moving (step_at moving old p).deed)

-- The calls of the last pair.
pub record IsLast (moving : Moving) (old : Stage) (end : MoveEnd) (entries : List Entry) : Type 0 where
  pub p : CallPair
  pub is : (step_at moving old p).deed ≡ deeds.End end
  pub whole : entries ≡ calls_of p

-- The calls of a pair after which the send failed.
pub record IsStuck (moving : Moving) (old : Stage) (failed : Failed) (entries : List Entry) : Type 0 where
  pub p : CallPair
  pub s : Sending
  pub is : sent_for moving (step_at moving old p).deed ≡ Some s
  pub whole : entries ≡ calls_of p ++ send_call moving p.reading s (Err failed) ∷ []

abbrev pub IsPair : Moving → Stage → Stage → Result (Option MoveEnd) Failed → List Entry → Type 0
IsPair moving old new (Ok None) entries = IsGoneOn moving old new entries
IsPair moving old new (Ok (Some end)) entries = IsLast moving old end entries
IsPair moving old new (Err failed) entries = IsStuck moving old failed entries

-- If the move continues, it has fewer pairs left.
abbrev pub Goes : Stage → Result (Option MoveEnd) Failed → Stage → Type 0
Goes old (Ok None) new = 1 ≤ pairs_left old → (1 ≤ pairs_left new) × (pairs_left new + 1 ≤ pairs_left old)
Goes old result new = Unit {0}
