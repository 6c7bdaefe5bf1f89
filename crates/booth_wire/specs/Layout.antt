-- The parts of a frame: numbers and fields, their places, and the bits of opts.
use Rattle.std.specs.Prelude.{ℕ, ◌+◌, ◌-◌, Bool, if◌then◌else◌, List, ◌++◌, length, take, drop, replicate}
use Rattle.std.specs.Int.{w32, from_be_bytes, to_be_bytes}
use Rattle.booth_wire.specs.declared.command.Kind.{Kind}
use Rattle.booth_wire.specs.declared.command.Kind.TheVariants as kinds

-- a number, the most significant byte first
unfoldable pub word : ℕ → List ℕ
word n = to_be_bytes w32 n

-- a name or a value, and zeros up to the field's size
unfoldable pub padded_to : ℕ → List ℕ → List ℕ
padded_to size text = text ++ replicate (size - length text) 0

-- the number at a place, and the field of a given size at a place
abbrev pub word_at : ℕ → List ℕ → ℕ
word_at at bytes = from_be_bytes w32 (take 4 (drop at bytes))

abbrev pub field_at : ℕ → ℕ → List ℕ → List ℕ
field_at at size bytes = take size (drop at bytes)

-- the bits of opts: 1 if an authentication part follows, 4 if the body is an attribute's
abbrev pub auth_bit : Bool → ℕ
auth_bit auth = if auth then 1 else 0

abbrev pub attr_bit : Kind → ℕ
attr_bit kinds.Attr = 4
attr_bit kind = 0

abbrev pub opts_of : Bool → Kind → ℕ
opts_of auth kind = attr_bit kind + auth_bit auth

-- the size of the authentication part, if there is one
abbrev pub auth_len : Bool → ℕ
auth_len auth = if auth then 28 else 0
