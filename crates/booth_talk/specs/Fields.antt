-- The fields of a line, with one blank between them.
use Rattle.std.specs.Prelude.{◌≡◌, ◌<◌, ◌⊎◌, ◌+◌, ◌^◌, ◌==◌, ℕ, Bool, not, List, codes, decimal, take, drop}
use Rattle.std.specs.List.{prefix_len}
use Rattle.booth_base.specs.declared.address.Address.{Address}
use Rattle.booth_base.specs.Address.{IsAddress, printed}

-- Any byte except the blank.
abbrev pub is_field_byte : ℕ → Bool
is_field_byte b = not (b == 0x20)

-- The bytes before the first blank.
abbrev pub first : List ℕ → List ℕ
first line = take (prefix_len is_field_byte line) line

-- The bytes after the first blank. There are none if there is no blank.
abbrev pub rest : List ℕ → List ℕ
rest line = drop (prefix_len is_field_byte line + 1) line

-- The text is a number below 2^64 as it is printed, without leading zeros.
pub record IsNumber (text : List ℕ) : Type 0 where
  pub number : ℕ
  pub small : number < 2 ^ 64
  pub spelled : text ≡ decimal number

-- The text is an address as it is printed.
pub record IsPrinted (text : List ℕ) : Type 0 where
  pub address : Address
  pub whole : IsAddress address
  pub spelled : text ≡ printed address

-- The owner of a ticket, as text: an address, or `none`.
abbrev pub IsOwner : List ℕ → Type 0
IsOwner text = (text ≡ codes "none") ⊎ IsPrinted text

abbrev pub IsRole : List ℕ → Type 0
IsRole text = (text ≡ codes "site") ⊎ (text ≡ codes "arbitrator")
