-- Reading gives the first of the seven conditions that holds.
use Rattle.std.proofs.Common.{◌≡◌, ℕ, Bool, true, false, cond, List, [], ◌∷◌, length, Option, Some, None, Result, Ok, Err, refl, ap}
use Rattle.std.specs.Prelude.{not, ◌&&◌, ◌||◌, ◌==◌, nat_le, nat_lt, is_none, option_map, ok_or}
use Rattle.booth_wire.specs.declared.command.Cmd.{Cmd}
use Rattle.booth_wire.specs.declared.message.FrameFault.{FrameFault}
use Rattle.booth_wire.specs.declared.message.FrameFault.TheVariants as faults
use Rattle.booth_wire.specs.declared.message.Head.{Head}
use Rattle.booth_wire.specs.Command.{cmd_of, kind_of}
use Rattle.booth_wire.specs.declared.frame.TheConstants.{FRAME_BYTES}
use Rattle.booth_wire.specs.Faults.{GivesFirstFault, around, fault_of, first_of, head_in, of_head, size_of}
use Rattle.booth_wire.specs.Layout.{word_at, field_at}
use Rattle.booth_wire.specs.PlainMessage.{Content, PlainMessage}
use Rattle.booth_wire.specs.Reading.{◌>>=◌, auth_in, body_read, content_in, decoded, has_size, head_at, head_read}

-- a test in front of what is read, and its condition in front of the others
tested : {A B : Type 0} (b : Bool) (fault : FrameFault) (read : Result A FrameFault) (f : A → Result B FrameFault)
    (others : List (Bool × FrameFault)) → fault_of (read >>= f) ≡ first_of others
    → fault_of (cond b (Err fault) read >>= f) ≡ first_of ((b, fault) ∷ others)
tested true fault read f others e = refl
tested false fault read f others e = e

-- what is read behind a head
abbrev behind : List ℕ → Head → Result PlainMessage FrameFault
behind bytes h = body_read h bytes >>= λ inner. ok_or (content_in h.cmd (kind_of h.cmd) inner) faults.Name
    >>= λ content. Ok (record { head = h; content = content })

-- a fault of the head is that of the message
pub of_read_head : (bytes : List ℕ) (fault : FrameFault) → head_read bytes ≡ Err fault → decoded bytes ≡ Err fault
of_read_head bytes fault is = ap (λ (read : Result Head FrameFault). read >>= behind bytes) is

-- the last three conditions, by the head
abbrev by_head : List ℕ → Option Head → List (Bool × FrameFault)
by_head bytes head =
    (is_none head, faults.Command)
    ∷ (of_head head (λ h. not (nat_le (around h) (length bytes) && has_size (kind_of h.cmd) (size_of h bytes))), faults.Size)
    ∷ (of_head head (λ h. is_none (content_in h.cmd (kind_of h.cmd) (field_at 48 (size_of h bytes) bytes))), faults.Name)
    ∷ []

named : (h : Head) (content : Option Content)
    → fault_of {A = PlainMessage} (ok_or content faults.Name >>= λ found. Ok (record { head = h; content = found })) ≡ first_of ((is_none content, faults.Name) ∷ [])
named h None = refl
named h (Some content) = refl

sized : (h : Head) (fits : Bool) (inner : List ℕ)
    → fault_of {A = PlainMessage} (cond fits (Ok inner) (Err faults.Size) >>= λ found. ok_or (content_in h.cmd (kind_of h.cmd) found) faults.Name
    >>= λ content. Ok (record { head = h; content = content }))
    ≡ first_of ((not fits, faults.Size) ∷ (is_none (content_in h.cmd (kind_of h.cmd) inner), faults.Name) ∷ [])
sized h true inner = named h (content_in h.cmd (kind_of h.cmd) inner)
sized h false inner = refl

by_auth : (bytes : List ℕ) (cmd : Cmd) (auth : Option Bool)
    → fault_of ((ok_or auth faults.Command >>= λ a. Ok (head_at a cmd bytes)) >>= behind bytes)
    ≡ first_of (by_head bytes (option_map (λ a. head_at a cmd bytes) auth))
by_auth bytes cmd None = refl
by_auth bytes cmd (Some a) =
    let h : Head = head_at a cmd bytes in
    sized h (nat_le (around h) (length bytes) && has_size (kind_of h.cmd) (size_of h bytes)) (field_at 48 (size_of h bytes) bytes)

by_cmd : (bytes : List ℕ) (cmd : Option Cmd)
    → fault_of ((ok_or cmd faults.Command >>= λ c. ok_or (auth_in (kind_of c) (word_at 0 bytes)) faults.Command
    >>= λ a. Ok (head_at a c bytes)) >>= behind bytes)
    ≡ first_of (by_head bytes (elim cmd [
      | None ↦ None
      | Some c ↦ option_map (λ a. head_at a c bytes) (auth_in (kind_of c) (word_at 0 bytes))
    ]))
by_cmd bytes None = refl
by_cmd bytes (Some cmd) = by_auth bytes cmd (auth_in (kind_of cmd) (word_at 0 bytes))

-- ---- the tests in front of the head, each in front of what is read behind it

abbrev is_other_magic : List ℕ → Bool
is_other_magic bytes = not (word_at 12 bytes == 0x5F1BA08C)

abbrev is_other_version : List ℕ → Bool
is_other_version bytes = not (word_at 16 bytes == 0x00010003)

abbrev is_other_length : List ℕ → Bool
is_other_length bytes = not (word_at 24 bytes == length bytes) || nat_lt FRAME_BYTES (length bytes)

abbrev from_cmd : List ℕ → Result Head FrameFault
from_cmd bytes = ok_or (cmd_of (word_at 28 bytes)) faults.Command >>= λ c. ok_or (auth_in (kind_of c) (word_at 0 bytes)) faults.Command
    >>= λ a. Ok (head_at a c bytes)

abbrev from_length : List ℕ → Result Head FrameFault
from_length bytes = cond (is_other_length bytes) (Err faults.Length) (from_cmd bytes)

abbrev from_version : List ℕ → Result Head FrameFault
from_version bytes = cond (is_other_version bytes) (Err faults.Version) (from_length bytes)

abbrev from_magic : List ℕ → Result Head FrameFault
from_magic bytes = cond (is_other_magic bytes) (Err faults.Magic) (from_version bytes)

abbrev cmd_faults : List ℕ → List (Bool × FrameFault)
cmd_faults bytes = by_head bytes (head_in bytes)

abbrev length_faults : List ℕ → List (Bool × FrameFault)
length_faults bytes = (is_other_length bytes, faults.Length) ∷ cmd_faults bytes

abbrev version_faults : List ℕ → List (Bool × FrameFault)
version_faults bytes = (is_other_version bytes, faults.Version) ∷ length_faults bytes

abbrev magic_faults : List ℕ → List (Bool × FrameFault)
magic_faults bytes = (is_other_magic bytes, faults.Magic) ∷ version_faults bytes

pub gives_first_fault : GivesFirstFault
gives_first_fault bytes =
    tested (nat_lt (length bytes) 48) faults.Short (from_magic bytes) (behind bytes) (magic_faults bytes)
    (tested (is_other_magic bytes) faults.Magic (from_version bytes) (behind bytes) (version_faults bytes)
    (tested (is_other_version bytes) faults.Version (from_length bytes) (behind bytes) (length_faults bytes)
    (tested (is_other_length bytes) faults.Length (from_cmd bytes) (behind bytes) (cmd_faults bytes)
    (by_cmd bytes (cmd_of (word_at 28 bytes))))))
