-- The properties of the replies that the code makes.
use Rattle.std.specs.Prelude.{◌≡◌, true, false, Bool, List, [], ◌∷◌, length, nat_le, ℕ, Option, Some, None, if◌then◌else◌}
use Rattle.booth_keys.specs.declared.ring.Ring.{Ring}
use Rattle.booth_wire.specs.declared.command.Cmd.{Cmd}
use Rattle.booth_wire.specs.declared.codes.results.TheConstants.{SUCCESS, MORE}
use Rattle.booth_wire.specs.Command.{kind_of}
use Rattle.booth_wire.specs.PlainMessage.{PlainMessage, Content, content_of, kind_in, is_named, has_text}
use Rattle.booth_wire.specs.Spelling.{Fits}
use Rattle.booth_auth.specs.Sealed.{sealed, stamped}
use Rattle.booth_node.specs.declared.replies.Reply.{Reply as MadeReply}
use Rattle.booth_node.specs.declared.node_config.NodeConfig.{NodeConfig}
use Rattle.booth_node.specs.Lists.{IsPart}
use Rattle.booth_node.specs.Replies.{Reply, part_message}

-- The content has the form that its command requires.
pub record HasForm (cmd : Cmd) (content : Content) : Type 0 where
  pub kind : kind_in content ≡ kind_of cmd
  pub named : is_named cmd content ≡ true
  pub text : has_text content ≡ true

abbrev pub reply_of : MadeReply → Reply
reply_of reply = record { result = reply.result; content = content_of reply.body }

-- If there is a reply, this frame contains it, with its time and sealed. The Boolean shows whether there is one.
abbrev pub IsWritten : Option Ring → ℕ → List PlainMessage → Bool → List ℕ → Type 0
IsWritten ring now [] written frame = written ≡ false
IsWritten ring now (reply ∷ []) written frame =
    (written ≡ true) × (frame ≡ sealed ring (stamped ring now reply)) × Fits (stamped ring now reply)
IsWritten ring now (reply ∷ next ∷ replies) written frame = ⊥

-- The result of a part with this many of these lines.
abbrev pub part_result : List (List ℕ) → ℕ → ℕ
part_result lines count = if nat_le (length lines) count then SUCCESS else MORE

-- This frame contains the first part of these lines as the reply with this number, with its time and sealed. The part
-- has this many lines.
pub record IsPartWritten (node : NodeConfig) (now : ℕ) (lines : List (List ℕ)) (request number count : ℕ)
    (frame : List ℕ) : Type 0 where
  pub text : List ℕ
  pub part : IsPart lines count text
  pub written : frame
      ≡ sealed node.ring (stamped node.ring now (part_message node.me request number (part_result lines count) text))
  pub fits : Fits (stamped node.ring now (part_message node.me request number (part_result lines count) text))

-- An optional value as a list with one element or none.
abbrev pub listed : {A : Type 0} → Option A → List A
listed None = []
listed (Some x) = x ∷ []
