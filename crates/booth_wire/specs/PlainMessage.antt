-- A message without the place of its text in memory, and the forms of its parts.
use Rattle.std.specs.Prelude.{ℕ, Bool, true, not, ◌&&◌, ◌==◌, nat_le, List, length, is_none, if◌then◌else◌}
use Rattle.std.specs.List.{list_all}
use Rattle.booth_base.specs.Name.{is_line_byte}
use Rattle.booth_base.specs.declared.buffer.TheConstants.{TEXT_BYTES}
use Rattle.booth_wire.specs.declared.command.Cmd.{Cmd}
use Rattle.booth_wire.specs.declared.command.Cmd.TheVariants.{ALst}
use Rattle.booth_wire.specs.declared.command.Kind.{Kind}
use Rattle.booth_wire.specs.declared.command.Kind.TheVariants as kinds
use Rattle.booth_wire.specs.declared.message.Head.{Head}
use Rattle.booth_wire.specs.declared.message.TicketPart.{TicketPart}
use Rattle.booth_wire.specs.declared.message.AttrPart.{AttrPart}
use Rattle.booth_wire.specs.declared.message.Body.{Body}
use Rattle.booth_wire.specs.declared.message.Body.TheVariants as bodies
use Rattle.booth_wire.specs.declared.message.Message.{Message}
use Rattle.booth_wire.specs.Command.{code_of}

-- the content of a message behind its head
pub data Content : Type 0 where
  Bare : Content
  Ticket : (part : TicketPart) → Content
  Attr : (part : AttrPart) → Content
  Text : (text : List ℕ) → Content

-- a message without the place of its text in memory
pub record PlainMessage : Type 0 where
  pub head : Head
  pub content : Content

abbrev pub content_of : Body → Content
content_of bodies.Bare = Bare
content_of (bodies.Ticket part) = Ticket part
content_of (bodies.Attr part) = Attr part
content_of (bodies.Text text) = Text text.now

abbrev pub plain_of : Message → PlainMessage
plain_of m = record { head = m.head; content = content_of m.body }

abbrev pub kind_in : Content → Kind
kind_in Bare = kinds.Bare
kind_in (Ticket part) = kinds.Ticket
kind_in (Attr part) = kinds.Attr
kind_in (Text text) = kinds.Text

-- only the command that lists attributes names none
abbrev pub names_none : Cmd → Bool
names_none cmd = code_of cmd == code_of ALst

abbrev pub is_same : Bool → Bool → Bool
is_same a b = if a then b else not b

abbrev pub is_named : Cmd → Content → Bool
is_named cmd (Attr part) = is_same (names_none cmd) (is_none part.name)
is_named cmd content = true

abbrev pub has_text : Content → Bool
has_text (Text text) = nat_le (length text) TEXT_BYTES && list_all is_line_byte text
has_text content = true
