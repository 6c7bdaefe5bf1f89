-- The sending of a list, part by part.
use Rattle.std.specs.Prelude.{ℕ, List, Option, map}
use Rattle.booth_base.specs.declared.address.Peer.{Peer}
use Rattle.booth_host.specs.declared.entry.Entry.{Entry}
use Rattle.booth_wire.specs.PlainMessage.{PlainMessage}
use Rattle.booth_auth.specs.Sealed.{stamped}
use Rattle.booth_node.specs.declared.node_config.NodeConfig.{NodeConfig}
use Rattle.booth_node.specs.Led.{Led}
use Rattle.booth_node.specs.Lists.{IsPart, cut_lines}
use Rattle.booth_node.specs.Reaction.{IsDone, sends_back}
use Rattle.booth_node.specs.Replies.{part_message, part_messages}
use Rattle.booth_node.specs.ReplyForms.{part_result}

-- The messages with these lines of a list, as they are sent at this moment.
abbrev pub list_messages : NodeConfig → ℕ → ℕ → List (List ℕ) → List PlainMessage
list_messages node now request lines = map (stamped node.ring now) (part_messages node.me request 0 (cut_lines 0 lines))

-- The host was called to send the first part of these lines, which contains this many of them, as the reply with this
-- number.
pub record SendsPart {H : Type 0} (past : H → Option (List Entry)) (faults : H → ℕ) (node : NodeConfig) (now : ℕ)
    (lines : List (List ℕ)) (to : Peer) (request number count : ℕ) (old new : H) : Type 0 where
  pub text : List ℕ
  pub part : IsPart lines count text
  pub led : Led past faults (IsDone node.ring)
      (sends_back to (stamped node.ring now (part_message node.me request number (part_result lines count) text)))
      tt old new
