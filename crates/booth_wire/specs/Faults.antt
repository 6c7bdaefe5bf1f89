-- Why bytes are not a frame: seven conditions. The fault is the first condition that holds.
use Rattle.std.specs.Prelude.{◌≡◌, ℕ, ◌+◌, ◌-◌, Bool, false, not, ◌&&◌, ◌||◌, ◌==◌, nat_le, nat_lt, List, [], ◌∷◌, length, Option, Some, None, is_none, option_map, Result, Ok, Err}
use Rattle.std.specs.List.{find}
use Rattle.booth_wire.specs.declared.frame.TheConstants.{FRAME_BYTES}
use Rattle.booth_wire.specs.declared.message.FrameFault.{FrameFault}
use Rattle.booth_wire.specs.declared.message.FrameFault.TheVariants as faults
use Rattle.booth_wire.specs.declared.message.Head.{Head}
use Rattle.booth_wire.specs.Command.{cmd_of, kind_of}
use Rattle.booth_wire.specs.Layout.{word_at, field_at, auth_len}
use Rattle.booth_wire.specs.Reading.{auth_in, content_in, decoded, has_size, head_at}

-- the first fault of a list whose condition holds
abbrev pub first_of : {F : Type 0} → List (Bool × F) → Option F
first_of conditions = option_map (λ c. c.1) (find (λ c. c.0) conditions)

abbrev pub fault_of : {A F : Type 0} → Result A F → Option F
fault_of (Ok x) = None
fault_of (Err fault) = Some fault

-- the head, if the code is a command's code and opts are allowed for this command
abbrev pub head_in : List ℕ → Option Head
head_in bytes = elim (cmd_of (word_at 28 bytes)) [
  | None ↦ None
  | Some cmd ↦ option_map (λ auth. head_at auth cmd bytes) (auth_in (kind_of cmd) (word_at 0 bytes))
]

-- whether a condition holds for the head; false if there is no head
abbrev pub of_head : Option Head → (Head → Bool) → Bool
of_head None holds = false
of_head (Some h) holds = holds h

-- the bytes before and after a body, and the bytes of the body
abbrev pub around : Head → ℕ
around h = 48 + auth_len h.auth

abbrev pub size_of : Head → List ℕ → ℕ
size_of h bytes = length bytes - around h

-- the conditions, each over the bytes alone, in the order of the faults
abbrev pub conditions : List ℕ → List (Bool × FrameFault)
conditions bytes =
    (nat_lt (length bytes) 48, faults.Short)
    ∷ (not (word_at 12 bytes == 0x5F1BA08C), faults.Magic)
    ∷ (not (word_at 16 bytes == 0x00010003), faults.Version)
    ∷ (not (word_at 24 bytes == length bytes) || nat_lt FRAME_BYTES (length bytes), faults.Length)
    ∷ (is_none (head_in bytes), faults.Command)
    ∷ (
      of_head (head_in bytes)
          (λ h. not (nat_le (around h) (length bytes) && has_size (kind_of h.cmd) (size_of h bytes))),
      faults.Size,
    )
    ∷ (
      of_head (head_in bytes)
          (λ h. is_none (content_in h.cmd (kind_of h.cmd) (field_at 48 (size_of h bytes) bytes))),
      faults.Name,
    )
    ∷ []

-- Reading returns the first fault, and a message if there is none.
abbrev pub GivesFirstFault : Type 0
GivesFirstFault = (bytes : List ℕ) → fault_of (decoded bytes) ≡ first_of (conditions bytes)
