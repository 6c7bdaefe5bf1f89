-- Numbers and addresses are bytes of a text of lines.
use Rattle.std.specs.Prelude.{decimal}
use Rattle.std.specs.List.{list_all, flat_map, zip}
use Rattle.std.specs.Char.{digit_value}
use Rattle.std.specs.Str.Parse.{AllDigits}
use Rattle.std.specs.Net.Addr.{segments_of}
use Rattle.std.specs.Net.Text.{ipv4_text, hex_groups_text}
use Rattle.std.proofs.Common.{◌≡◌, ◌<◌, ◌^◌, ℕ, true, List, [], ◌∷◌, ◌++◌, length, All, refl, sym, ◌∙◌, append-nil, arith, inl, inr, ◌⊎◌}
use Rattle.std.proofs.NetLemmas.Alphabet.{IsDigitOrDot, IsHexOrColon, All-ipv4_text, All-hex_groups_text}
use Rattle.std.proofs.lemmas.Fmt.{decimal_is_IsNumeral}
use Rattle.std.proofs.lemmas.List.Sums.{list_all-from_AllPass}
use Rattle.std.proofs.lemmas.Bool.Decides.{nat_tests}
use Rattle.booth_base.specs.declared.address.Address.{Address}
use Rattle.booth_base.specs.declared.address.Address.TheVariants.{V4, V6}
use Rattle.booth_base.specs.Address.{IsAddress, printed}
use Rattle.booth_base.specs.Name.{is_line_byte}
use Rattle.booth_conf.proofs.SegmentLemmas.{segments_below}

all_pass : (P : ℕ → Type 0) (xs : List ℕ) → ((b : ℕ) → P b → is_line_byte b ≡ true) → All P xs
    → list_all is_line_byte xs ≡ true
all_pass P xs f h = list_all-from_AllPass is_line_byte xs (λ k d l. f _ (h k d l))

dotted : (b : ℕ) → IsDigitOrDot b → is_line_byte b ≡ true
dotted b (inl h) = grind (arith, nat_tests, h.0, h.1)
dotted b (inr h) = rw h refl

hex : (b : ℕ) → IsHexOrColon b → is_line_byte b ≡ true
hex b (inl h) = grind (arith, nat_tests, h.0, h.1)
hex b (inr h) = grind (arith, nat_tests, h.0, h.1)

pub address_is_line : (a : Address) → IsAddress a → list_all is_line_byte (printed a) ≡ true
address_is_line (V4 bytes) h = all_pass IsDigitOrDot (ipv4_text bytes) dotted (All-ipv4_text bytes h.1)
address_is_line (V6 bytes) h =
    all_pass IsHexOrColon (hex_groups_text (segments_of bytes)) hex (All-hex_groups_text (segments_of bytes)
    (segments_below bytes h.1))

digit : (c : ℕ) → digit_value c < 10 → is_line_byte c ≡ true
digit c h = grind (arith, nat_tests, h)

digits : (ds : List ℕ) → AllDigits 10 ds → list_all is_line_byte ds ≡ true
digits [] h = refl
digits (c ∷ cs) h = rw (digit c h.0) (digits cs h.1)

pub number_is_line : (n : ℕ) → n < 2 ^ 64 → list_all is_line_byte (decimal n) ≡ true
number_is_line n h = digits (decimal n) (decimal_is_IsNumeral n h).0.1

-- where one of two lists is over, nothing is left of both
pub nothing_left : {A B : Type 0} (f : A × B → List ℕ) (xs : List A) (ys : List B) (text whole : List ℕ) →
    (length xs ≡ 0) ⊎ (length ys ≡ 0) → text ++ flat_map f (zip xs ys) ≡ whole → text ≡ whole
nothing_left f [] ys text whole over same = sym (append-nil text) ∙ same
nothing_left f (x ∷ xs) [] text whole over same = sym (append-nil text) ∙ same
nothing_left f (x ∷ xs) (y ∷ ys) text whole (inl none) same = absurd (omega (arith, none))
nothing_left f (x ∷ xs) (y ∷ ys) text whole (inr none) same = absurd (omega (arith, none))
