-- The message that bytes spell, each field read from its place, or the first fault.
use Rattle.std.specs.Prelude.{◌≡◌, ℕ, ◌+◌, ◌-◌, Bool, true, false, not, ◌&&◌, ◌||◌, ◌==◌, nat_le, nat_lt, if◌then◌else◌, List, length, drop, Option, Some, None, option_map, ok_or, Result, Ok, Err}
use Rattle.std.specs.List.{list_all, take_while}
use Rattle.booth_base.specs.Name.{is_name, is_value, is_line_byte}
use Rattle.booth_base.specs.declared.buffer.TheConstants.{TEXT_BYTES}
use Rattle.booth_wire.specs.declared.command.Cmd.{Cmd}
use Rattle.booth_wire.specs.declared.command.Kind.{Kind}
use Rattle.booth_wire.specs.declared.command.Kind.TheVariants as kinds
use Rattle.booth_wire.specs.declared.message.Head.{Head}
use Rattle.booth_wire.specs.declared.message.Body.{Body}
use Rattle.booth_wire.specs.declared.message.Message.{Message}
use Rattle.booth_wire.specs.declared.message.FrameFault.{FrameFault}
use Rattle.booth_wire.specs.declared.message.FrameFault.TheVariants as faults
use Rattle.booth_wire.specs.declared.frame.TheConstants.{FRAME_BYTES}
use Rattle.booth_wire.specs.Command.{cmd_of, kind_of}
use Rattle.booth_wire.specs.Layout.{word_at, field_at, opts_of, auth_len}
use Rattle.booth_wire.specs.PlainMessage.{Content, Bare, Ticket, Attr, Text, PlainMessage, content_of, plain_of, names_none}

infixl 10 ◌>>=◌
abbrev pub ◌>>=◌ : {A B : Type 0} → Result A FrameFault → (A → Result B FrameFault)
    → Result B FrameFault
(Ok x) >>= f = f x
(Err e) >>= f = Err e

-- a field's bytes before the first zero
abbrev pub text_of : List ℕ → List ℕ
text_of field = take_while (λ b. not (b == 0)) field

abbrev pub are_zeros : List ℕ → Bool
are_zeros bytes = list_all (λ b. b == 0) bytes

-- all bytes behind those are zeros
abbrev pub is_padded : List ℕ → Bool
is_padded field = are_zeros (drop (length (text_of field)) field)

abbrev pub name_in : List ℕ → Option (List ℕ)
name_in field = if is_padded field && is_name (text_of field) then Some (text_of field) else None

abbrev pub value_in : List ℕ → Option (List ℕ)
value_in field = if is_padded field && is_value (text_of field) then Some (text_of field) else None

-- whether AUTH is set, if these are the opts of a command with this kind of body
abbrev pub auth_in : Kind → ℕ → Option Bool
auth_in kind opts =
    if opts == opts_of false kind then Some false else
    if opts == opts_of true kind then Some true else None

abbrev pub head_at : Bool → Cmd → List ℕ → Head
head_at auth cmd bytes = record {
  auth = auth;
  secs = word_at 4 bytes;
  usecs = word_at 8 bytes;
  from = record { 0 = word_at 20 bytes };
  cmd = cmd;
  request = word_at 32 bytes;
  options = word_at 36 bytes;
  reason = word_at 40 bytes;
  result = word_at 44 bytes;
}

-- the head, or the first of five faults
abbrev pub head_read : List ℕ → Result Head FrameFault
head_read bytes =
    if nat_lt (length bytes) 48 then Err faults.Short else
    if not (word_at 12 bytes == 0x5F1BA08C) then Err faults.Magic else
    if not (word_at 16 bytes == 0x00010003) then Err faults.Version else
    if not (word_at 24 bytes == length bytes) || nat_lt FRAME_BYTES (length bytes) then Err faults.Length
    else do
      cmd ← ok_or (cmd_of (word_at 28 bytes)) faults.Command
      auth ← ok_or (auth_in (kind_of cmd) (word_at 0 bytes)) faults.Command
      Ok (head_at auth cmd bytes)

-- how many bytes a body may have
abbrev pub has_size : Kind → ℕ → Bool
has_size kinds.Bare size = size == 0
has_size kinds.Ticket size = size == 76
has_size kinds.Attr size = size == 256
has_size kinds.Text size = nat_le size TEXT_BYTES

-- the bytes between header and authentication part
abbrev pub body_read : Head → List ℕ → Result (List ℕ) FrameFault
body_read h bytes =
    let around = 48 + auth_len h.auth in
    let size = length bytes - around in
    if nat_le around (length bytes) && has_size (kind_of h.cmd) size then Ok (field_at 48 size bytes)
    else Err faults.Size

abbrev pub ticket_with : List ℕ → List ℕ → Content
ticket_with bytes ticket = Ticket (record {
  ticket = ticket;
  leader = record { 0 = word_at 64 bytes };
  term = word_at 68 bytes;
  valid_for = word_at 72 bytes;
})

abbrev pub ticket_in : List ℕ → Option Content
ticket_in bytes = option_map (ticket_with bytes) (name_in (field_at 0 64 bytes))

-- an attribute's name; none, in a field of zeros, if the command names none
abbrev pub attr_name_in : Cmd → List ℕ → Option (Option (List ℕ))
attr_name_in cmd field =
    if names_none cmd then (if are_zeros field then Some None else None)
    else option_map (λ name. Some name) (name_in field)

abbrev pub attr_with : Option (List ℕ) → Option (Option (List ℕ)) → Option (List ℕ) → Option Content
attr_with (Some ticket) (Some name) (Some value) =
    Some (Attr (record { ticket = ticket; name = name; value = value }))
attr_with ticket name value = None

abbrev pub attr_in : Cmd → List ℕ → Option Content
attr_in cmd bytes =
    attr_with (name_in (field_at 0 64 bytes)) (attr_name_in cmd (field_at 64 64 bytes))
    (value_in (field_at 128 128 bytes))

abbrev pub text_in : List ℕ → Option Content
text_in bytes = if list_all is_line_byte bytes then Some (Text bytes) else None

-- the content of a body, if its names, values and texts have their forms
abbrev pub content_in : Cmd → Kind → List ℕ → Option Content
content_in cmd kinds.Bare bytes = Some Bare
content_in cmd kinds.Ticket bytes = ticket_in bytes
content_in cmd kinds.Attr bytes = attr_in cmd bytes
content_in cmd kinds.Text bytes = text_in bytes

-- the message that bytes spell, or the first fault
abbrev pub decoded : List ℕ → Result PlainMessage FrameFault
decoded bytes = do
  h ← head_read bytes
  inner ← body_read h bytes
  content ← ok_or (content_in h.cmd (kind_of h.cmd) inner) faults.Name
  Ok (record { head = h; content = content })

-- a message or a fault equals what the bytes are read as
abbrev pub Gives : Result Message FrameFault → Result PlainMessage FrameFault → Type 0
Gives (Ok m) read = read ≡ Ok (plain_of m)
Gives (Err f) read = read ≡ Err f

abbrev pub GivesContent : Option Body → Option Content → Type 0
GivesContent (Some b) read = read ≡ Some (content_of b)
GivesContent None read = read ≡ None
