-- The datagrams that are authentic replies to a request.
use Rattle.std.specs.Prelude.{◌≡◌, ◌==◌, ◌&&◌, ℕ, Bool, true, false, List, [], Option, Some, None, option_map, Result, Ok, Err, if◌then◌else◌}
use Rattle.std.specs.Option.{option_map_or}
use Rattle.booth_base.specs.declared.address.MemberId.{MemberId}
use Rattle.booth_base.specs.declared.address.TheConstants.{NO_ONE}
use Rattle.booth_wire.specs.declared.command.Cmd.{Cmd}
use Rattle.booth_wire.specs.declared.message.FrameFault.{FrameFault}
use Rattle.booth_wire.specs.Command.{answer_of, code_of}
use Rattle.booth_wire.specs.PlainMessage.{PlainMessage, Content, Ticket, Text}
use Rattle.booth_wire.specs.Reading.{decoded}
use Rattle.booth_auth.specs.Verdict.{is_member, is_signed}
use Rattle.booth_talk.specs.declared.order.Asking.{Asking}
use Rattle.booth_talk.specs.declared.order.Order.{Order}
use Rattle.booth_talk.specs.declared.reply.Reply.{Reply}
use Rattle.booth_talk.specs.Asking.{cmd_of, number_of}

-- The command answers the command of the order.
abbrev pub answers : Order → Cmd → Bool
answers order cmd = option_map_or (λ answer. code_of answer == code_of cmd) (answer_of (cmd_of order)) false

-- The command answers, the number is the number of the request, and the sender is a member.
abbrev pub is_answer : Asking → ℕ → PlainMessage → Bool
is_answer asking start m =
    answers asking.order m.head.cmd
    && ((m.head.request == number_of start) && is_member asking.config m.head.from)

-- The member in the reply.
abbrev pub leader_in : Content → MemberId
leader_in (Ticket part) = part.leader
leader_in content = NO_ONE

-- The text in the reply.
abbrev pub text_in : Content → List ℕ
text_in (Text text) = text
text_in content = []

abbrev pub reply_of : PlainMessage → Reply
reply_of m = record { result = m.head.result; leader = leader_in m.content }

abbrev pub message_read : Asking → ℕ → List ℕ → Result PlainMessage FrameFault → Option PlainMessage
message_read asking start bytes (Ok m) =
    if is_signed asking.ring m.head bytes then (if is_answer asking start m then Some m else None) else None
message_read asking start bytes (Err fault) = None

-- The authentic message that these bytes spell, in answer to the request that was sent at this reading.
unfoldable pub message_in : Asking → ℕ → List ℕ → Option PlainMessage
message_in asking start bytes = message_read asking start bytes (decoded bytes)

-- The reply that these bytes spell, in answer to the request that was sent at this reading.
unfoldable pub reply_in : Asking → ℕ → List ℕ → Option Reply
reply_in asking start bytes = option_map reply_of (message_in asking start bytes)

-- ---- five conditions

-- The bytes meet five conditions. They spell a message, and it has the right MAC if there is a key. Its command
-- answers the request's command, its number is the request's number, and its sender is a member.
pub record IsAuthentic (asking : Asking) (start : ℕ) (bytes : List ℕ) (m : PlainMessage) : Type 0 where
  pub read : decoded bytes ≡ Ok m
  pub signed : is_signed asking.ring m.head bytes ≡ true
  pub answer : answers asking.order m.head.cmd ≡ true
  pub number : m.head.request ≡ number_of start
  pub member : is_member asking.config m.head.from ≡ true

-- Exactly the bytes of authentic replies count as replies, and they spell the message that counts.
pub record RepliesAreAuthentic : Type 0 where
  pub message : (asking : Asking) (start : ℕ) (bytes : List ℕ) (m : PlainMessage) →
      message_in asking start bytes ≡ Some m → IsAuthentic asking start bytes m
  pub spelled : (asking : Asking) (start : ℕ) (bytes : List ℕ) (m : PlainMessage) →
      IsAuthentic asking start bytes m → message_in asking start bytes ≡ Some m
  pub only : (asking : Asking) (start : ℕ) (bytes : List ℕ) (reply : Reply) →
      reply_in asking start bytes ≡ Some reply →
      (m : PlainMessage) × IsAuthentic asking start bytes m × (reply ≡ reply_of m)
  pub all : (asking : Asking) (start : ℕ) (bytes : List ℕ) (m : PlainMessage) →
      IsAuthentic asking start bytes m → reply_in asking start bytes ≡ Some (reply_of m)
