-- A printed address is read as the same.
use Rattle.std.proofs.Common.{◌≡◌, ◌<◌, ◌≤◌, ◌+◌, ◌*◌, ◌==◌, ◌^◌, ℕ, zero, suc, Bool, true, false, List, [], ◌∷◌, ◌++◌, length, get_or, take, drop, Some, All, refl, arith, ap, decimal, length-append, length-take, length-drop, cond, inl, inr}
use Rattle.std.specs.Prelude.{codes, slice_index, nat_lt, ◌/◌, ◌%◌}
use Rattle.std.specs.Char.{digit_char}
use Rattle.std.specs.List.{list_all, flat_map}
use Rattle.std.specs.Net.Addr.{segments_of}
use Rattle.std.specs.Net.Text.{ipv4_text, hex, groups_text, hex_groups_text, longest_zero_run, leading_zero_digits}
use Rattle.std.proofs.NetLemmas.Alphabet.{IsDigitOrDot, IsHexOrColon, All-ipv4_text, All-hex_groups_text}
use Rattle.std.proofs.lemmas.List.Sums.{list_all-from_AllPass}
use Rattle.std.proofs.lemmas.Fmt.{length-decimal-le}
use Rattle.std.proofs.lemmas.Bool.Decides.{nat_tests}
use Rattle.booth_base.specs.Address.{IsAddress, printed as address_text, id_of}
use Rattle.booth_base.specs.declared.address.Address.{Address}
use Rattle.booth_base.specs.declared.address.Address.TheVariants.{V4, V6}
use Rattle.booth_base.proofs.AddressLemmas.{printed_spells}
use Rattle.booth_conf.specs.Grammar.{is_value_byte, is_other}
use Rattle.booth_conf.specs.Values.{member_at}
use Rattle.booth_conf.specs.ValueReader.{address_in}
use Rattle.booth_conf.specs.Sound.{is_byte, is_address, is_member, is_sayable}
use Rattle.booth_conf.specs.declared.members.Member.{Member}
use Rattle.booth_conf.proofs.KeyLemmas.{both_true}
use Rattle.booth_conf.proofs.AddressLemmas.{address_only}
use Rattle.booth_conf.proofs.SegmentLemmas.{segments_below, segments_len}
use Rattle.booth_conf.proofs.ValueAgain.{plain_sayable}

bytes_below : (xs : List ℕ) → list_all is_byte xs ≡ true → (k : ℕ) → get_or xs k 0 < 2 ^ 8
bytes_below [] h k = omega arith
bytes_below (x ∷ xs) h zero = grind (arith, nat_tests)
bytes_below (x ∷ xs) h (suc k) = bytes_below xs (both_true (is_byte x) (list_all is_byte xs) h).1 k

pub address_is : (a : Address) → is_address a ≡ true → IsAddress a
address_is (V4 bytes) h =
    let b = both_true (length bytes == 4) (list_all is_byte bytes) h in
    (grind (arith, nat_tests, b.0), bytes_below bytes b.1)
address_is (V6 bytes) h =
    let b = both_true (length bytes == 16) (list_all is_byte bytes) h in
    (grind (arith, nat_tests, b.0), bytes_below bytes b.1)

pub address_again : (a : Address) → is_address a ≡ true → address_in (address_text a) ≡ Some a
address_again a h = address_only (address_text a) a (printed_spells a (address_is a h))

-- MEMBERS

pub member_again : (m : Member) → is_member m ≡ true → member_at m.site m.address ≡ m
member_again m h =
    let b = both_true (is_address m.address) (m.id.0 == id_of m.address) h in
    let id : id_of m.address ≡ m.id.0 = grind (arith, nat_tests, b.1) in
    ap (λ i. record { site = m.site; address = m.address; id = record { 0 = i } }) id

-- BYTES

all_pass : (P : ℕ → Type 0) (p : ℕ → Bool) (xs : List ℕ) → ((b : ℕ) → P b → p b ≡ true) → All P xs →
    list_all p xs ≡ true
all_pass P p xs f h = list_all-from_AllPass p xs (λ k d l. f _ (h k d l))

dotted_plain : (b : ℕ) → IsDigitOrDot b → is_value_byte b ≡ true
dotted_plain b (inl h) = grind (arith, nat_tests, h.0, h.1)
dotted_plain b (inr h) = rw h refl

dotted_other : (b : ℕ) → IsDigitOrDot b → is_other 0x22 b ≡ true
dotted_other b (inl h) = grind (arith, nat_tests, h.0, h.1)
dotted_other b (inr h) = rw h refl

hex_plain : (b : ℕ) → IsHexOrColon b → is_value_byte b ≡ true
hex_plain b (inl h) = grind (arith, nat_tests, h.0, h.1)
hex_plain b (inr h) = grind (arith, nat_tests, h.0, h.1)

hex_other : (b : ℕ) → IsHexOrColon b → is_other 0x22 b ≡ true
hex_other b (inl h) = grind (arith, nat_tests, h.0, h.1)
hex_other b (inr h) = grind (arith, nat_tests, h.0, h.1)

text_sayable : (a : Address) → IsAddress a → is_sayable (address_text a) ≡ true
text_sayable (V4 bytes) h =
    let all : All IsDigitOrDot (ipv4_text bytes) = All-ipv4_text bytes h.1 in
    plain_sayable (ipv4_text bytes) (all_pass IsDigitOrDot is_value_byte (ipv4_text bytes) dotted_plain all) (all_pass IsDigitOrDot (is_other 0x22) (ipv4_text bytes) dotted_other all)
text_sayable (V6 bytes) h =
    let text : List ℕ = hex_groups_text (segments_of bytes) in
    let all : All IsHexOrColon text =
    All-hex_groups_text (segments_of bytes) (segments_below bytes h.1) in
    plain_sayable text (all_pass IsHexOrColon is_value_byte text hex_plain all) (all_pass IsHexOrColon (is_other 0x22) text hex_other all)

pub address_sayable : (a : Address) → is_address a ≡ true → is_sayable (address_text a) ≡ true
address_sayable a h = text_sayable a (address_is a h)

-- LENGTH

short_decimal : (n : ℕ) → n < 2 ^ 8 → length (decimal n) ≤ 3
short_decimal n h = length-decimal-le 3 n (omega arith) (omega arith) (omega arith)

short_hex : (n : ℕ) → length (hex n) ≤ 4
unfolding hex
short_hex n =
    omega (arith, length-drop (leading_zero_digits n) (digit_char (n / 0x1000) ∷ digit_char (n / 0x100 % 16) ∷ digit_char (n / 0x10 % 16) ∷ digit_char (n % 16) ∷ []))

short_more : (xs : List ℕ) → length (flat_map (λ t. codes ":" ++ hex t) xs) ≤ 5 * length xs
short_more [] = omega arith
short_more (x ∷ xs) =
    omega (arith, short_hex x, short_more xs, length-append (hex x) (flat_map (λ t. codes ":" ++ hex t) xs))

short_groups : (xs : List ℕ) → length (groups_text xs) ≤ 5 * length xs
short_groups [] = omega arith
short_groups (x ∷ xs) =
    omega (arith, short_hex x, short_more xs, length-append (hex x) (flat_map (λ t. codes ":" ++ hex t) xs))

short_by : (b : Bool) (xs ys zs : List ℕ) (most : ℕ) → length xs + (2 + length ys) ≤ most →
    length zs ≤ most → length (cond b (xs ++ codes "::" ++ ys) zs) ≤ most
short_by true xs ys zs most h k =
    omega (arith, h, length-append (xs ++ codes "::") ys, length-append xs (codes "::"))
short_by false xs ys zs most h k = k

short_v6 : (xs : List ℕ) → length xs ≡ 8 → length (hex_groups_text xs) ≤ 82
unfolding hex_groups_text
short_v6 xs h =
    let run : ℕ × ℕ = longest_zero_run xs in
    let front : length (take run.0 xs) ≤ 8 = omega (arith, length-take run.0 xs, h) in
    let back : length (drop (run.0 + run.1) xs) ≤ 8 =
    omega (arith, length-drop (run.0 + run.1) xs, h) in
    short_by (nat_lt 1 run.1) (groups_text (take run.0 xs)) (groups_text (drop (run.0 + run.1) xs)) (groups_text xs) 82
    (omega (arith, front, back, short_groups (take run.0 xs), short_groups (drop (run.0 + run.1) xs)))
    (omega (arith, h, short_groups xs))

short_v4 : (xs : List ℕ) → ((k : ℕ) → get_or xs k 0 < 2 ^ 8) → length (ipv4_text xs) ≤ 82
short_v4 xs h =
    let a : length (decimal (slice_index xs 0)) ≤ 3 = short_decimal (slice_index xs 0) (h 0) in
    let b : length (decimal (slice_index xs 1)) ≤ 3 = short_decimal (slice_index xs 1) (h 1) in
    let c : length (decimal (slice_index xs 2)) ≤ 3 = short_decimal (slice_index xs 2) (h 2) in
    let d : length (decimal (slice_index xs 3)) ≤ 3 = short_decimal (slice_index xs 3) (h 3) in
    simp length-append (omega arith)

pub address_short : (a : Address) → is_address a ≡ true → length (address_text a) ≤ 82
address_short (V4 bytes) h = short_v4 bytes (address_is (V4 bytes) h).1
address_short (V6 bytes) h =
    short_v6 (segments_of bytes) (segments_len bytes (address_is (V6 bytes) h).0)
