-- The bytes of a message, which messages have a spelling, which bytes spell a message, and what signing changes.
use Rattle.std.specs.Prelude.{◌≡◌, ℕ, ◌+◌, ◌-◌, ◌%◌, ◌^◌, ◌≤◌, ◌<◌, true, Bool, if◌then◌else◌, List, [], ◌++◌, length, take, replicate, unwrap_or, IfSome}
use Rattle.booth_base.specs.Name.{is_name, is_value}
use Rattle.booth_wire.specs.declared.message.Head.{Head}
use Rattle.booth_wire.specs.declared.message.TicketPart.{TicketPart}
use Rattle.booth_wire.specs.declared.message.AttrPart.{AttrPart}
use Rattle.booth_wire.specs.Command.{code_of, kind_of}
use Rattle.booth_wire.specs.Layout.{word, padded_to, word_at, opts_of, auth_len}
use Rattle.booth_wire.specs.PlainMessage.{Content, Bare, Ticket, Attr, Text, PlainMessage, kind_in, is_named, has_text}

-- the twelve numbers of the header of a frame with this many bytes
unfoldable pub header : Head → ℕ → List ℕ
header h size =
    word (opts_of h.auth (kind_of h.cmd)) ++ word h.secs ++ word h.usecs ++ word 0x5F1BA08C
    ++ word 0x00010003 ++ word h.from.0 ++ word size ++ word (code_of h.cmd)
    ++ word h.request ++ word h.options ++ word h.reason ++ word h.result

abbrev pub body : Content → List ℕ
body Bare = []
body (Ticket part) =
    padded_to 64 part.ticket ++ word part.leader.0 ++ word part.term ++ word part.valid_for
body (Attr part) =
    padded_to 64 part.ticket ++ padded_to 64 (unwrap_or part.name []) ++ padded_to 128 part.value
body (Text text) = text

abbrev pub body_len : Content → ℕ
body_len Bare = 0
body_len (Ticket part) = 76
body_len (Attr part) = 256
body_len (Text text) = length text

abbrev pub frame_len : PlainMessage → ℕ
frame_len l = 48 + body_len l.content + auth_len l.head.auth

-- the message's frame with these bytes as authentication part
abbrev pub frame_with : List ℕ → PlainMessage → List ℕ
frame_with auth l = header l.head (frame_len l) ++ body l.content ++ auth

-- the authentication part before it is signed: hash id 2, and a hash of zeros
unfoldable pub blank_auth : Bool → List ℕ
blank_auth auth = if auth then word 2 ++ replicate 24 0 else []

-- the one spelling of a message before it is signed
abbrev pub spelling : PlainMessage → List ℕ
spelling l = frame_with (blank_auth l.head.auth) l

-- each number has four bytes
pub record HeadFits (h : Head) : Type 0 where
  pub secs : h.secs < 2 ^ 32
  pub usecs : h.usecs < 2 ^ 32
  pub from : h.from.0 < 2 ^ 32
  pub request : h.request < 2 ^ 32
  pub options : h.options < 2 ^ 32
  pub reason : h.reason < 2 ^ 32
  pub result : h.result < 2 ^ 32

pub record TicketFits (p : TicketPart) : Type 0 where
  pub ticket : is_name p.ticket ≡ true
  pub leader : p.leader.0 < 2 ^ 32
  pub term : p.term < 2 ^ 32
  pub valid_for : p.valid_for < 2 ^ 32

pub record AttrFits (p : AttrPart) : Type 0 where
  pub ticket : is_name p.ticket ≡ true
  pub name : IfSome p.name (λ name. is_name name ≡ true)
  pub value : is_value p.value ≡ true

abbrev pub PartFits : Content → Type 0
PartFits (Ticket part) = TicketFits part
PartFits (Attr part) = AttrFits part
PartFits content = Unit {0}

-- The message has a spelling: its numbers and names fit their fields, and its content is its command's.
pub record Fits (l : PlainMessage) : Type 0 where
  pub head : HeadFits l.head
  pub part : PartFits l.content
  pub kind : kind_in l.content ≡ kind_of l.head.cmd
  pub named : is_named l.head.cmd l.content ≡ true
  pub text : has_text l.content ≡ true

-- Header, body and, if AUTH is set, 28 bytes of any content.
pub record Spells (bytes : List ℕ) (l : PlainMessage) : Type 0 where
  pub auth : List ℕ
  pub size : length auth ≡ auth_len l.head.auth
  pub parts : bytes ≡ frame_with auth l

-- a frame with room for an authentication part, which its opts announce
pub record HasAuth (bytes : List ℕ) : Type 0 where
  pub room : 76 ≤ length bytes
  pub bit : word_at 0 bytes % 2 ≡ 1

-- the bytes of such a frame that its authentication part covers
abbrev pub before_auth : List ℕ → List ℕ
before_auth bytes = take (length bytes - 28) bytes

-- the frame with this authentication part in place of its own
abbrev pub signed : List ℕ → ℕ → List ℕ → List ℕ
signed bytes id hash = before_auth bytes ++ (word id ++ hash)
