-- What a field spells.
use Rattle.std.specs.Prelude.{codes, length, FitsSigned, Option, None, Some, Ok, Err}
use Rattle.std.specs.Str.{bytes_eq}
use Rattle.std.specs.Int.{w32}
use Rattle.std.specs.Int.Signed.{mag}
use Rattle.std.proofs.Common.{◌≡◌, ◌<◌, ◌≤◌, ◌^◌, ◌⊎◌, inl, inr, ℕ, ℤ, pos, negsuc, true, false, List, [], ◌∷◌, refl, sym, ◌∙◌, ap, subst, arith, true≢false}
use Rattle.std.proofs.lemmas.Fmt.{decimal_injective}
use Rattle.std.proofs.lemmas.Slice.Eq.{bytes_eq-Decides}
use Rattle.hex.specs.Hex.{encode_lower, encode_with, decode_of}
use Rattle.hex.specs.declared.error.FromHexError.{FromHexError}
use Rattle.hex.specs.declared.error.FromHexError.TheVariants.{OutOfMemory as HexMemory}
use Rattle.hex.proofs.HexLemmas.{decode_of-encode_lower, decode_of-ok}
use Rattle.booth_base.specs.declared.address.Address.{Address}
use Rattle.booth_base.specs.Address.{IsAddress, Spells, printed}
use Rattle.booth_base.proofs.AddressLemmas.{one_address, printed_spells}
use Rattle.booth_journal.specs.Reading.{AreOctets, SpellsAddress, SpellsBytes, SpellsLocal, SpellsNumber, SpellsPort}
use Rattle.booth_journal.proofs.HexLemmas.{encode_long}
use Rattle.booth_journal.proofs.ReadingLemmas.{differ, one_value}

-- ---- addresses

-- an address that was read, and its text again
pub shown : (text again : List ℕ) (a : Address) → IsAddress a → again ≡ printed a → true ≡ bytes_eq again text → SpellsAddress text a
shown text again a whole is test = (whole, sym ((bytes_eq-Decides again text).0 (sym test)) ∙ is)

pub shown_otherwise : (text again : List ℕ) (a : Address) → Spells text a → again ≡ printed a → false ≡ bytes_eq again text
    → (b : Address) → SpellsAddress text b → ⊥
shown_otherwise text again a spells is test b p =
    let also : Spells text b = subst (λ t. Spells t b) (sym p.1) (printed_spells b p.0) in
    let one : a ≡ b = one_address text a b spells also in
    let equal : again ≡ text = is ∙ ap printed one ∙ sym p.1 in
    true≢false (sym ((bytes_eq-Decides again text).1 equal) ∙ sym test)

pub never_shown : (text : List ℕ) → ((a : Address) → Spells text a → ⊥) → (b : Address) → SpellsAddress text b → ⊥
never_shown text none b p = none b (subst (λ t. Spells t b) (sym p.1) (printed_spells b p.0))

pub no_local : (text : List ℕ) → (text ≡ codes "-" → ⊥) → ((a : Address) → SpellsAddress text a → ⊥) → (local : Option Address)
    → SpellsLocal text local → ⊥
no_local text dash never None s = dash s.1
no_local text dash never (Some a) s = never a s

-- ---- numbers

pub no_port : (text : List ℕ) (n : ℕ) → SpellsNumber text n → 2 ^ 16 ≤ n → (port : ℕ) → SpellsPort text port → ⊥
no_port text n is large port also =
    let small : port < 2 ^ 64 = omega (arith, also.0) in
    let same : n ≡ port = decimal_injective n port is.0 small (sym is.1 ∙ also.1) in
    omega (arith, large, same, also.0)

pub port_is_number : (text : List ℕ) (port : ℕ) → SpellsPort text port → SpellsNumber text port
port_is_number text port is = (omega (arith, is.0), is.1)

-- ---- bytes

-- digits that were read and are spelled again
pub octets_of : (text bytes again : List ℕ) → decode_of text ≡ Ok bytes → again ≡ encode_lower bytes → true ≡ bytes_eq again text
    → AreOctets bytes × (text ≡ encode_lower bytes)
octets_of text bytes again read is test =
    ((decode_of-ok text bytes read).3, sym ((bytes_eq-Decides again text).0 (sym test)) ∙ is)

pub octets_otherwise : (text bytes again : List ℕ) → decode_of text ≡ Ok bytes → again ≡ encode_lower bytes → false ≡ bytes_eq again text
    → (other : List ℕ) → AreOctets other → text ≡ encode_lower other → ⊥
octets_otherwise text bytes again read is test other octets spelled =
    let also : decode_of text ≡ Ok other = ap decode_of spelled ∙ decode_of-encode_lower other octets in
    let same : bytes ≡ other = one_value (decode_of text) bytes other read also in
    let equal : again ≡ text = is ∙ ap encode_lower same ∙ sym spelled in
    true≢false (sym ((bytes_eq-Decides again text).1 equal) ∙ sym test)

pub octets_never : (text : List ℕ) (e : FromHexError) → (e ≡ HexMemory) ⊎ (decode_of text ≡ Err e) → (e ≡ HexMemory → ⊥)
    → (bytes : List ℕ) → AreOctets bytes → text ≡ encode_lower bytes → ⊥
octets_never text e (inl full) other bytes octets spelled = other full
octets_never text e (inr refused) other bytes octets spelled =
    let read : decode_of text ≡ Ok bytes = ap decode_of spelled ∙ decode_of-encode_lower bytes octets in
    let both = sym refused ∙ read in
    cc

pub some_bytes : (text bytes : List ℕ) → (text ≡ [] → ⊥) → AreOctets bytes × (text ≡ encode_lower bytes) → SpellsBytes text bytes
unfolding encode_with
some_bytes text [] some is = absurd (some is.1)
some_bytes text (b ∷ bytes) some is = is

pub no_bytes : (text : List ℕ) → (text ≡ codes "-" → ⊥)
    → ((bytes : List ℕ) → AreOctets bytes → text ≡ encode_lower bytes → ⊥) → (bytes : List ℕ) → SpellsBytes text bytes → ⊥
no_bytes text dash never [] s = dash s.1
no_bytes text dash never (b ∷ bytes) s = never (b ∷ bytes) s.0 s.1

pub empty_bytes : (text : List ℕ) → text ≡ [] → (bytes : List ℕ) → SpellsBytes text bytes → ⊥
empty_bytes text none [] s = differ (sym none ∙ s.1) refl
empty_bytes text none (b ∷ bytes) s =
    let len : 0 ≡ length (encode_lower (b ∷ bytes)) = ap length (sym none ∙ s.1) in omega (arith, len, encode_long (b ∷ bytes))

-- ---- statuses

pub small_status : (z : ℤ) → FitsSigned w32 z → mag z < 2 ^ 63
small_status (pos n) fits = omega (arith, fits)
small_status (negsuc n) fits = omega (arith, fits)
