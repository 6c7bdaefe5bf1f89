-- Lines of texts: where a text is a row of lines, each line in it is one of these.
use Rattle.std.proofs.Common.{◌≡◌, ◌≢◌, ◌⊎◌, ⊎_elim, inl, inr, ℕ, zero, suc, ◌+◌, ◌/◌, ◌%◌, ◌<◌, Bool, true, false, List, [], ◌∷◌, ◌++◌, length, decimal, All, refl, sym, ap, ◌∙◌, subst, arith}
use Rattle.std.specs.Prelude.{nat_le, nat_lt, ◌==◌, ◌&&◌, codes}
use Rattle.std.specs.List.{list_all}
use Rattle.std.specs.Net.Addr.{segments_of}
use Rattle.std.specs.Net.Text.{ipv4_text, hex_groups_text}
use Rattle.std.proofs.NetLemmas.Alphabet.{IsDigitOrDot, IsHexOrColon, All-ipv4_text, All-hex_groups_text}
use Rattle.std.proofs.lemmas.Bool.Decides.{nat_tests}
use Rattle.std.specs.Fmt.{digits, digits_onto, digit_glyph}
use Rattle.booth_base.specs.declared.address.Address.{Address}
use Rattle.booth_base.specs.declared.address.Address.TheVariants.{V4, V6}
use Rattle.booth_base.specs.declared.buffer.TheConstants.{TEXT_BYTES}
use Rattle.booth_base.specs.Address.{IsAddress, printed}
use Rattle.booth_base.specs.Name.{is_name_byte}
use Rattle.booth_conf.proofs.SegmentLemmas.{segments_below}
use Rattle.booth_node.specs.Lists.{cut_lines, part_text, with_first}
use Rattle.booth_raft.proofs.FactsLemmas.{on_cond}
use Rattle.booth_world.specs.Tellers.{HasNone, BeginsLine, EndsLine, HasLine}

-- ---- texts

heads : (x y : ℕ) (xs ys : List ℕ) → x ∷ xs ≡ y ∷ ys → (x ≡ y) × (xs ≡ ys)
heads x y xs ys e = (cc, cc)

pub joins : (xs ys zs : List ℕ) → (xs ++ ys) ++ zs ≡ xs ++ (ys ++ zs)
joins [] ys zs = refl
joins (x ∷ xs) ys zs = ap (λ (l : List ℕ). x ∷ l) (joins xs ys zs)

with_none : (xs : List ℕ) → xs ++ [] ≡ xs
with_none [] = refl
with_none (x ∷ xs) = ap (λ (l : List ℕ). x ∷ l) (with_none xs)

pub none_in_both : (b : ℕ) (xs ys : List ℕ) → HasNone b xs → HasNone b ys → HasNone b (xs ++ ys)
none_in_both b [] ys h k = k
none_in_both b (x ∷ xs) ys h k = (h.0, none_in_both b xs ys h.1 k)

-- two texts that are cut at the first byte of a kind
pub cut_same : (b : ℕ) (xs ys more others : List ℕ) → HasNone b xs → HasNone b ys → xs ++ b ∷ more ≡ ys ++ b ∷ others
    → (xs ≡ ys) × (more ≡ others)
cut_same b [] [] more others h k e = (refl, (heads b b more others e).1)
cut_same b [] (y ∷ ys) more others h k e = absurd (k.0 (sym (heads b y more (ys ++ b ∷ others) e).0))
cut_same b (x ∷ xs) [] more others h k e = absurd (h.0 (heads x b (xs ++ b ∷ more) others e).0)
cut_same b (x ∷ xs) (y ∷ ys) more others h k e =
    let both = heads x y (xs ++ b ∷ more) (ys ++ b ∷ others) e in
    let rest = cut_same b xs ys more others h.1 k.1 both.1 in
    (ap (λ (n : ℕ). n ∷ xs) both.0 ∙ ap (λ (l : List ℕ). y ∷ l) rest.0, rest.1)

-- what ends with such a byte is the first piece, or goes on behind it
cut_behind : (b : ℕ) (body earlier more others : List ℕ) → HasNone b body → earlier ++ b ∷ more ≡ body ++ b ∷ others
    → (more ≡ others) ⊎ ((rest : List ℕ) × (rest ++ b ∷ more ≡ others))
cut_behind b [] [] more others h e = inl (heads b b more others e).1
cut_behind b [] (x ∷ earlier) more others h e = inr (earlier, (heads x b (earlier ++ b ∷ more) others e).1)
cut_behind b (y ∷ body) [] more others h e = absurd (h.0 (sym (heads b y more (body ++ b ∷ others) e).0))
cut_behind b (y ∷ body) (x ∷ earlier) more others h e =
    cut_behind b body earlier more others h.1 (heads x y (earlier ++ b ∷ more) (body ++ b ∷ others) e).1

-- ---- rows of lines

-- a line, of which Q holds without its end
abbrev pub IsLineOf : (List ℕ → Type 0) → List ℕ → Type 0
IsLineOf Q line = (body : List ℕ) × (line ≡ body ++ 10 ∷ []) × HasNone 10 body × Q body

abbrev pub AllOf : {A : Type 0} → (A → Type 0) → List A → Type 0
AllOf P [] = Unit {0}
AllOf P (x ∷ xs) = P x × AllOf P xs

nothing : (before line after : List ℕ) → [] ≡ before ++ (line ++ 10 ∷ after) → ⊥
nothing [] [] after e = cc
nothing [] (x ∷ line) after e = cc
nothing (x ∷ before) line after e = cc

found : (Q : List ℕ → Type 0) (lines : List (List ℕ)) → AllOf (IsLineOf Q) lines → (before line after : List ℕ)
    → part_text lines ≡ before ++ (line ++ 10 ∷ after) → EndsLine before → HasNone 10 line → Q line
found Q [] all before line after e begins single = absurd (nothing before line after e)
found Q (l ∷ lines) all before line after e begins single =
    by_begin begins (λ (rest : List ℕ) is ends. found Q lines all.1 rest line after is ends single)
  where
    body : List ℕ
    body = all.0.0

    spelled : body ++ 10 ∷ part_text lines ≡ before ++ (line ++ 10 ∷ after)
    spelled = sym (joins body (10 ∷ []) (part_text lines)) ∙ ap (λ (x : List ℕ). x ++ part_text lines) (sym all.0.1) ∙ e

    by_begin : EndsLine before → ((rest : List ℕ) → part_text lines ≡ rest ++ (line ++ 10 ∷ after) → EndsLine rest → Q line) → Q line
    by_begin (inl none) again =
        let same = cut_same 10 body line (part_text lines) after all.0.2 single
        (spelled ∙ ap (λ (x : List ℕ). x ++ (line ++ 10 ∷ after)) none) in
        subst Q same.0 all.0.3
    by_begin (inr behind) again =
        ⊎_elim
        (λ (at_once : line ++ 10 ∷ after ≡ part_text lines). again [] (sym at_once) (inl refl))
        (λ (later : (rest : List ℕ) × (rest ++ 10 ∷ (line ++ 10 ∷ after) ≡ part_text lines)).
        again (later.0 ++ 10 ∷ []) (sym later.1 ∙ sym (joins later.0 (10 ∷ []) (line ++ 10 ∷ after))) (inr (later.0, refl)))
        (cut_behind 10 body behind.0 (line ++ 10 ∷ after) (part_text lines) all.0.2
        (sym (joins behind.0 (10 ∷ []) (line ++ 10 ∷ after)) ∙ ap (λ (x : List ℕ). x ++ (line ++ 10 ∷ after)) (sym behind.1) ∙ sym spelled))

-- a text of lines is empty, or ends with a line end
text_ends : (Q : List ℕ → Type 0) (lines : List (List ℕ)) → AllOf (IsLineOf Q) lines
    → (part_text lines ≡ []) ⊎ ((start : List ℕ) × (part_text lines ≡ start ++ 10 ∷ []))
text_ends Q [] all = inl refl
text_ends Q (l ∷ lines) all =
    inr (⊎_elim
    (λ (none : part_text lines ≡ []). (all.0.0, ap (λ (rest : List ℕ). l ++ rest) none ∙ with_none l ∙ all.0.1))
    (λ (q : (start : List ℕ) × (part_text lines ≡ start ++ 10 ∷ [])).
    (l ++ q.0, ap (λ (rest : List ℕ). l ++ rest) q.1 ∙ sym (joins l q.0 (10 ∷ []))))
    (text_ends Q lines all.1))

last_is_none : (start : List ℕ) → HasNone 10 (start ++ 10 ∷ []) → ⊥
last_is_none [] h = h.0 refl
last_is_none (x ∷ start) h = last_is_none start h.1

none_behind : (before line : List ℕ) → before ++ line ≡ [] → line ≡ []
none_behind [] line e = e
none_behind (x ∷ before) line e = absurd cc

-- what stands behind the last line end is empty
rest_is_none : (before line start : List ℕ) → before ++ line ≡ start ++ 10 ∷ [] → HasNone 10 line → line ≡ []
rest_is_none [] line start e h = absurd (last_is_none start (subst (λ (l : List ℕ). HasNone 10 l) e h))
rest_is_none (x ∷ before) line [] e h = none_behind before line (heads x 10 (before ++ line) [] e).1
rest_is_none (x ∷ before) line (y ∷ start) e h = rest_is_none before line start (heads x y (before ++ line) (start ++ 10 ∷ []) e).1 h

-- each line of the text is one of these, so Q holds of it
pub line_found : (Q : List ℕ → Type 0) (lines : List (List ℕ)) → AllOf (IsLineOf Q) lines → (line : List ℕ) → line ≢ []
    → HasLine (part_text lines) line → Q line
line_found Q lines all line some has = by_end has.ends
  where
    at_end : has.after ≡ [] → part_text lines ≡ has.before ++ line
    at_end none = has.whole ∙ ap (λ (rest : List ℕ). has.before ++ (line ++ rest)) none ∙ ap (λ (rest : List ℕ). has.before ++ rest) (with_none line)

    by_end : BeginsLine has.after → Q line
    by_end (inl none) =
        absurd (some (⊎_elim
        (λ (empty : part_text lines ≡ []). none_behind has.before line (sym (at_end none) ∙ empty))
        (λ (q : (start : List ℕ) × (part_text lines ≡ start ++ 10 ∷ [])). rest_is_none has.before line q.0 (sym (at_end none) ∙ q.1) has.single)
        (text_ends Q lines all)))
    by_end (inr later) =
        found Q lines all has.before line later.0
        (has.whole ∙ ap (λ (rest : List ℕ). has.before ++ (line ++ rest)) later.1) has.begins has.single

-- a name and what follows it
pub named_is_some : (name rest : List ℕ) → name ++ 32 ∷ rest ≢ []
named_is_some [] rest e = absurd cc
named_is_some (x ∷ name) rest e = absurd cc

-- ---- parts

abbrev pub AllParts : (List ℕ → Type 0) → List (List (List ℕ)) → Type 0
AllParts P parts = AllOf (AllOf P) parts

first_of_all : (P : List ℕ → Type 0) (line : List ℕ) (parts : List (List (List ℕ))) → P line → AllParts P parts → AllParts P (with_first line parts)
first_of_all P line [] h all = ((h, tt), tt)
first_of_all P line (part ∷ parts) h all = ((h, all.0), all.1)

pub cut_of_all : (P : List ℕ → Type 0) (taken : ℕ) (lines : List (List ℕ)) → AllOf P lines → AllParts P (cut_lines taken lines)
cut_of_all P taken [] all = (tt, tt)
cut_of_all P taken (line ∷ lines) all =
    on_cond (AllParts P) (nat_le (taken + length line) TEXT_BYTES) _ _
    (first_of_all P line (cut_lines (taken + length line) lines) all.0 (cut_of_all P (taken + length line) lines all.1))
    (tt, first_of_all P line (cut_lines (length line) lines) all.0 (cut_of_all P (length line) lines all.1))

-- ---- bytes

none_by : (b : ℕ) (P : ℕ → Type 0) → ((x : ℕ) → P x → x ≢ b) → (xs : List ℕ) → All P xs → HasNone b xs
none_by b P other [] all = tt
none_by b P other (x ∷ xs) all = (other x (all 0 x (omega arith)), none_by b P other xs (λ k d l. all (suc k) d (omega (arith, l))))

-- a blank or a line end
abbrev pub IsGap : ℕ → Type 0
IsGap b = b < 46

pub none_in_address : (b : ℕ) → IsGap b → (a : Address) → IsAddress a → HasNone b (printed a)
none_in_address b gap (V4 bytes) h = none_by b IsDigitOrDot other (ipv4_text bytes) (All-ipv4_text bytes h.1)
  where
    other : (x : ℕ) → IsDigitOrDot x → x ≢ b
    other x (inl q) e = omega (arith, q.0, gap, e)
    other x (inr q) e = omega (arith, q, gap, e)
none_in_address b gap (V6 bytes) h = none_by b IsHexOrColon other (hex_groups_text (segments_of bytes)) (All-hex_groups_text (segments_of bytes) (segments_below bytes h.1))
  where
    other : (x : ℕ) → IsHexOrColon x → x ≢ b
    other x (inl q) e = omega (arith, q.0, gap, e)
    other x (inr q) e = omega (arith, q.0, gap, e)

-- no address is printed as `none`
pub none_is_no_address : (a : Address) → IsAddress a → codes "none" ≡ printed a → ⊥
none_is_no_address (V4 bytes) h e = digit (subst (λ (xs : List ℕ). All IsDigitOrDot xs) (sym e) (All-ipv4_text bytes h.1) 0 0 (omega arith))
  where
    digit : IsDigitOrDot 110 → ⊥
    digit (inl q) = omega (arith, q.1)
    digit (inr q) = omega (arith, q)
none_is_no_address (V6 bytes) h e =
    hex (subst (λ (xs : List ℕ). All IsHexOrColon xs) (sym e) (All-hex_groups_text (segments_of bytes) (segments_below bytes h.1)) 0 0 (omega arith))
  where
    hex : IsHexOrColon 110 → ⊥
    hex (inl q) = omega (arith, q.1)
    hex (inr q) = omega (arith, q.1)

glyph_other : (b d : ℕ) → IsGap b → digit_glyph false d ≢ b
glyph_other b d gap = on_cond (λ (n : ℕ). n ≢ b) (nat_lt d 10) (48 + d) (87 + d) (λ e. omega (arith, gap, e)) (λ e. omega (arith, gap, e))

none_in_digits : (b : ℕ) → IsGap b → (k n : ℕ) (acc : List ℕ) → HasNone b acc → HasNone b (digits_onto k 10 false n acc)
none_in_digits b gap zero n acc h = h
none_in_digits b gap (suc k) n acc h =
    on_cond (HasNone b) (n / 10 == 0) _ _ (glyph_other b (n % 10) gap, h)
    (none_in_digits b gap k (n / 10) (digit_glyph false (n % 10) ∷ acc) (glyph_other b (n % 10) gap, h))

pub none_in_decimal : (b : ℕ) → IsGap b → (n : ℕ) → HasNone b (decimal n)
unfolding digits
none_in_decimal b gap n = none_in_digits b gap 64 n [] tt

pub both_parts : (a b : Bool) → a && b ≡ true → (a ≡ true) × (b ≡ true)
both_parts true b e = (refl, e)
both_parts false b e = absurd cc

pub none_in_name : (b : ℕ) → b < 33 → (name : List ℕ) → list_all is_name_byte name ≡ true → HasNone b name
none_in_name b low [] e = tt
none_in_name b low (x ∷ xs) e =
    let both = both_parts (is_name_byte x) (list_all is_name_byte xs) e in
    let low_byte : nat_le 33 x ≡ true = (both_parts (nat_le 33 x) (nat_le x 126) both.0).0 in
    let above : 33 < x + 1 = grind (arith, nat_tests) in
    ((λ is. omega (arith, above, low, is)), none_in_name b low xs both.1)
