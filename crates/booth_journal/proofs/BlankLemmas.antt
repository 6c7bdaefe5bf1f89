-- Which bytes no spelled field has, and where a text is cut.
use Rattle.std.specs.Prelude.{decimal, nat_le, length, take, drop, slice_index, ◌&&◌}
use Rattle.std.specs.List.{list_all, prefix_len}
use Rattle.std.specs.Char.{digit_value}
use Rattle.std.specs.Str.Parse.{AllDigits}
use Rattle.std.specs.Net.Addr.{segments_of}
use Rattle.std.specs.Net.Text.{ipv4_text, hex_groups_text}
use Rattle.std.proofs.Common.{◌≡◌, ◌<◌, ◌≤◌, ◌^◌, ◌+◌, ◌-◌, subst, ℕ, zero, suc, Bool, true, false, List, [], ◌∷◌, ◌++◌, All, get_or, refl, sym, ◌∙◌, ap, arith, inl, inr, true≢false}
use Rattle.std.proofs.NetLemmas.Alphabet.{IsDigitOrDot, IsHexOrColon, All-ipv4_text, All-hex_groups_text}
use Rattle.std.proofs.lemmas.Fmt.{decimal_is_IsNumeral}
use Rattle.std.specs.Str.{bytes_eq}
use Rattle.std.proofs.lemmas.List.{length-drop, take_all, take-append-le}
use Rattle.std.proofs.lemmas.List.Sums.{list_all-from_AllPass}
use Rattle.std.proofs.lemmas.Slice.Eq.{bytes_eq-Decides}
use Rattle.std.proofs.lemmas.Bool.Decides.{nat_tests}
use Rattle.booth_base.specs.declared.address.Address.{Address}
use Rattle.booth_base.specs.declared.address.Address.TheVariants.{V4, V6}
use Rattle.booth_base.specs.Address.{IsAddress, printed}
use Rattle.booth_base.specs.Name.{is_name, is_name_byte}
use Rattle.booth_journal.specs.Fields.{HasNo, IsCut, is_other}

-- ---- what has no blank

both : (a b : Bool) → (a && b) ≡ true → (a ≡ true) × (b ≡ true)
both true true h = (refl, refl)
both true false h = absurd (true≢false (sym h))
both false b h = absurd (true≢false (sym h))

-- the end itself is no other
other_end : (end c : ℕ) → c ≡ end → is_other end c ≡ true → ⊥
other_end end c same other = grind (arith, nat_tests, same, other)

all_pass : (end : ℕ) (P : ℕ → Type 0) (xs : List ℕ) → ((b : ℕ) → P b → is_other end b ≡ true) → All P xs → HasNo end xs
all_pass end P xs f h = list_all-from_AllPass (is_other end) xs (λ k d l. f _ (h k d l))

dotted : (end b : ℕ) → end < 0x2E → IsDigitOrDot b → is_other end b ≡ true
dotted end b low (inl h) = grind (arith, nat_tests, h.0, h.1, low)
dotted end b low (inr h) = rw h (grind (arith, nat_tests, low))

hex : (end b : ℕ) → end < 0x2E → IsHexOrColon b → is_other end b ≡ true
hex end b low (inl h) = grind (arith, nat_tests, h.0, h.1, low)
hex end b low (inr h) = grind (arith, nat_tests, h.0, h.1, low)

segments_below : (os : List ℕ) → ((k : ℕ) → get_or os k 0 < 2 ^ 8) → (k : ℕ) → get_or (segments_of os) k 0 < 2 ^ 16
segments_below [] h k = omega arith
segments_below (a ∷ []) h k = omega arith
segments_below (a ∷ b ∷ os) h zero = let x : a < 256 = h 0 in let y : b < 256 = h 1 in omega arith
segments_below (a ∷ b ∷ os) h (suc k) = segments_below os (λ j. h (suc (suc j))) k

-- a printed address has no byte below the dot
pub address_has_no : (end : ℕ) → end < 0x2E → (a : Address) → IsAddress a → HasNo end (printed a)
address_has_no end low (V4 bytes) h =
    all_pass end IsDigitOrDot (ipv4_text bytes) (λ b. dotted end b low) (All-ipv4_text bytes h.1)
address_has_no end low (V6 bytes) h =
    all_pass end IsHexOrColon (hex_groups_text (segments_of bytes)) (λ b. hex end b low) (All-hex_groups_text (segments_of bytes)
    (segments_below bytes h.1))

pub address_has_none : (a : Address) → IsAddress a → HasNo 0x20 (printed a)
address_has_none = address_has_no 0x20 (omega arith)

-- no digit
abbrev pub IsNoDigit : ℕ → Type 0
IsNoDigit end = (c : ℕ) → digit_value c < 10 → is_other end c ≡ true

pub blank_no_digit : IsNoDigit 0x20
blank_no_digit c h = grind (arith, nat_tests, h)

digits : (end : ℕ) → IsNoDigit end → (ds : List ℕ) → AllDigits 10 ds → HasNo end ds
digits end other [] h = refl
digits end other (c ∷ cs) h = rw (other c h.0) (digits end other cs h.1)

pub number_has_no : (end : ℕ) → IsNoDigit end → (n : ℕ) → n < 2 ^ 64 → HasNo end (decimal n)
number_has_no end other n h = digits end other (decimal n) (decimal_is_IsNumeral n h).0.1

pub number_has_none : (n : ℕ) → n < 2 ^ 64 → HasNo 0x20 (decimal n)
number_has_none = number_has_no 0x20 blank_no_digit

named : (end c : ℕ) → end < 0x21 → is_name_byte c ≡ true → is_other end c ≡ true
named end c low h = grind (arith, nat_tests, h, low)

all_named : (end : ℕ) → end < 0x21 → (cs : List ℕ) → list_all is_name_byte cs ≡ true → HasNo end cs
all_named end low [] h = refl
all_named end low (c ∷ cs) h =
    let parts = both (is_name_byte c) (list_all is_name_byte cs) h in
    rw (named end c low parts.0) (all_named end low cs parts.1)

-- a name has no byte up to the blank
pub name_has_no : (end : ℕ) → end < 0x21 → (name : List ℕ) → is_name name ≡ true → HasNo end name
name_has_no end low name h =
    all_named end low name (both (nat_le 1 (length name) && nat_le (length name) 63) (list_all is_name_byte name) h).1

pub name_has_none : (name : List ℕ) → is_name name ≡ true → HasNo 0x20 name
name_has_none = name_has_no 0x20 (omega arith)

-- neither of two
pub both_have_no : (end : ℕ) (xs ys : List ℕ) → HasNo end xs → HasNo end ys → HasNo end (xs ++ ys)
both_have_no end [] ys of_xs of_ys = of_ys
both_have_no end (x ∷ xs) ys of_xs of_ys =
    let parts = both (is_other end x) (list_all (is_other end) xs) of_xs in
    rw parts.0 (both_have_no end xs ys parts.1 of_ys)

-- a byte of a text, or 0 behind it
pub byte_passes : (p : ℕ → Bool) (xs : List ℕ) (k : ℕ) → list_all p xs ≡ true → p 0 ≡ true → p (slice_index xs k) ≡ true
byte_passes p [] k all none = none
byte_passes p (x ∷ xs) zero all none = (both (p x) (list_all p xs) all).0
byte_passes p (x ∷ xs) (suc k) all none = byte_passes p xs k (both (p x) (list_all p xs) all).1 none

-- ---- the first of such bytes

pub no_cut : (end : ℕ) (text first behind : List ℕ) → HasNo end text → text ≡ first ++ end ∷ behind → ⊥
no_cut end [] [] behind plain same = omega (arith, ap length same)
no_cut end [] (c ∷ first) behind plain same = omega (arith, ap length same)
no_cut end (c ∷ text) [] behind plain same =
    let parts = both (is_other end c) (list_all (is_other end) text) plain in
    let here : c ≡ end = ap (λ l. get_or l 0 0) same in
    other_end end c here parts.0
no_cut end (c ∷ text) (d ∷ first) behind plain same =
    let parts = both (is_other end c) (list_all (is_other end) text) plain in
    no_cut end text first behind parts.1 (ap (drop 1) same)

pub one_cut : (end : ℕ) (a b x y : List ℕ) → HasNo end a → HasNo end b → a ++ end ∷ x ≡ b ++ end ∷ y → (a ≡ b) × (x ≡ y)
one_cut end [] [] x y pa pb same = (refl, ap (drop 1) same)
one_cut end [] (d ∷ b) x y pa pb same =
    let parts = both (is_other end d) (list_all (is_other end) b) pb in
    let here : end ≡ d = ap (λ l. get_or l 0 0) same in
    absurd (other_end end d (sym here) parts.0)
one_cut end (c ∷ a) [] x y pa pb same =
    let parts = both (is_other end c) (list_all (is_other end) a) pa in
    let here : c ≡ end = ap (λ l. get_or l 0 0) same in
    absurd (other_end end c here parts.0)
one_cut end (c ∷ a) (d ∷ b) x y pa pb same =
    let p = both (is_other end c) (list_all (is_other end) a) pa in
    let q = both (is_other end d) (list_all (is_other end) b) pb in
    let head : c ≡ d = ap (λ l. get_or l 0 0) same in
    let rest = one_cut end a b x y p.1 q.1 (ap (drop 1) same) in
    (rw head (ap (λ l. d ∷ l) rest.0), rest.1)

-- ---- where a text is cut

cut_found : (p : ℕ → Bool) (end : ℕ) (xs : List ℕ) → ((c : ℕ) → p c ≡ false → c ≡ end) → prefix_len p xs < length xs
    → (list_all p (take (prefix_len p xs) xs) ≡ true)
    × (xs ≡ take (prefix_len p xs) xs ++ end ∷ drop (prefix_len p xs + 1) xs)
cut_found p end [] only below = absurd (omega (arith, below))
cut_found p end (c ∷ cs) only below = by (λ within. cut_found p end cs only within) (p c) refl
  where
    at : ℕ → Type 0
    at k = (list_all p (take k (c ∷ cs)) ≡ true) × (c ∷ cs ≡ take k (c ∷ cs) ++ end ∷ drop (k + 1) (c ∷ cs))

    by : (prefix_len p cs < length cs
        → (list_all p (take (prefix_len p cs) cs) ≡ true)
        × (cs ≡ take (prefix_len p cs) cs ++ end ∷ drop (prefix_len p cs + 1) cs))
        → (b : Bool) → p c ≡ b → at (prefix_len p (c ∷ cs))
    by later true passes =
        let n = prefix_len p cs in
        let len : prefix_len p (c ∷ cs) ≡ suc n = rw passes (omega arith) in
        let rest = later (omega (arith, below, len)) in
        let next : suc n + 1 ≡ suc (n + 1) = omega arith in
        subst at (sym len) (rw passes rest.0, rw next (ap (λ l. c ∷ l) rest.1))
    by later false fails =
        let len : prefix_len p (c ∷ cs) ≡ 0 = rw fails refl in
        subst at (sym len) (refl, ap (λ d. d ∷ cs) (only c fails))

cut_missed : (p : ℕ → Bool) (xs : List ℕ) → length xs ≤ prefix_len p xs → list_all p xs ≡ true
cut_missed p [] within = refl
cut_missed p (c ∷ cs) within = by (λ less. cut_missed p cs less) (p c) refl
  where
    by : (length cs ≤ prefix_len p cs → list_all p cs ≡ true) → (b : Bool) → p c ≡ b → list_all p (c ∷ cs) ≡ true
    by later true passes =
        let len : prefix_len p (c ∷ cs) ≡ suc (prefix_len p cs) = rw passes (omega arith) in
        rw passes (later (omega (arith, within, len)))
    by later false fails =
        let len : prefix_len p (c ∷ cs) ≡ 0 = rw fails refl in absurd (omega (arith, within, len))

is_end : (end c : ℕ) → is_other end c ≡ false → c ≡ end
is_end end c h = grind (arith, nat_tests, h)

pub cut_at : (end : ℕ) (text : List ℕ) → prefix_len (is_other end) text < length text
    → IsCut end text (take (prefix_len (is_other end) text) text) (drop (prefix_len (is_other end) text + 1) text)
cut_at end text below =
    let both = cut_found (is_other end) end text (is_end end) below in record { plain = both.0; joined = both.1 }

pub uncut : (end : ℕ) (text : List ℕ) → length text ≤ prefix_len (is_other end) text → HasNo end text
uncut end text within = cut_missed (is_other end) text within

-- as a cut is made
pub cut_there : (end n : ℕ) (text : List ℕ) → n ≡ prefix_len (is_other end) text → n < length text
    → IsCut end text (take n text) (take (length text - (n + 1)) (drop (n + 1) text))
cut_there end n text is below =
    let all = take_all (length text - (n + 1)) (drop (n + 1) text) (omega (arith, length-drop (n + 1) text)) in
    let cut = cut_at end text (subst (λ k. k < length text) is below) in
    subst (λ l. IsCut end text (take n text) l) (sym all)
    (subst (λ k. IsCut end text (take k text) (drop (k + 1) text)) (sym is) cut)

-- a text that begins otherwise
pub begins_otherwise : (begin first text : List ℕ) → first ≡ take (length begin) text → false ≡ bytes_eq first begin
    → (rest : List ℕ) → text ≡ begin ++ rest → ⊥
begins_otherwise begin first text is test rest same =
    let front = take-append-le (length begin) begin rest (omega arith) in
    let all = take_all (length begin) begin (omega arith) in
    let equal : first ≡ begin = is ∙ ap (take (length begin)) same ∙ front ∙ all in
    true≢false (sym ((bytes_eq-Decides first begin).1 equal) ∙ sym test)
