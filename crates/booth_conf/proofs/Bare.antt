-- A bare value and what follows it.
use Rattle.std.proofs.Common.{◌≡◌, ℕ, ◌+◌, ◌==◌, Bool, true, false, ◌&&◌, List, [], ◌∷◌, ◌++◌, refl, arith, take, drop, cond, ap, ◌∙◌, sym, append-nil, inl, inr, append_assoc, ◌-◌, ◌≤◌, ◌<◌, length, get_or, length-take, length-drop, take-append-drop}
use Rattle.std.proofs.lemmas.List.{drop-drop, drop_more, take_more, take_all, get_or-drop}
use Rattle.std.proofs.Math.Seq.{take-add}
use Rattle.std.proofs.lemmas.Bool.{cases_eq}
use Rattle.std.proofs.lemmas.List.Folds.{list_all_more}
use Rattle.std.specs.List.{list_all}
use Rattle.std.proofs.lemmas.Bool.Decides.{nat_tests}
use Rattle.booth_conf.specs.Grammar.{is_blank, is_end, stays_bare, ends_bare, beyond, begins_note}
use Rattle.booth_conf.specs.LineReader.{bare_part}
use Rattle.booth_conf.proofs.Cuts.{beyond_more, beyond_none}

pub bare_of : (value tail : List ℕ) → stays_bare value tail ≡ true → ends_bare tail ≡ true →
    bare_part (value ++ tail) ≡ value
bare_of [] [] s e = refl
bare_of [] (b ∷ bs) s e = grind (arith, nat_tests)
bare_of (b ∷ bs) tail s e = grind (arith, nat_tests, bare_of bs tail)

-- what stands after a bare value
abbrev pub bare_tail : List ℕ → List ℕ
bare_tail [] = []
bare_tail (b ∷ bs) = cond (is_blank b && is_end bs) (b ∷ bs) (bare_tail bs)

pub bare_parts : (xs : List ℕ) → xs ≡ bare_part xs ++ bare_tail xs
bare_parts [] = refl
bare_parts (b ∷ bs) = elim (is_blank b && is_end bs) as (λ t. b ∷ bs ≡ cond t [] (b ∷ bare_part bs) ++ cond t (b ∷ bs) (bare_tail bs))
    [ true ↦ refl | false ↦ ap (λ ys. b ∷ ys) (bare_parts bs) ]

pub bare_stays : (xs : List ℕ) → stays_bare (bare_part xs) (bare_tail xs) ≡ true
bare_stays [] = refl
bare_stays (b ∷ bs) = grind (arith, nat_tests, bare_stays bs, bare_parts bs)

pub bare_ends : (xs : List ℕ) → ends_bare (bare_tail xs) ≡ true
bare_ends [] = refl
bare_ends (b ∷ bs) = grind (arith, nat_tests, bare_ends bs)

abbrev pub is_some_list : List ℕ → Bool
is_some_list [] = false
is_some_list (b ∷ bs) = true

pub beyond_to : (gap : List ℕ) (b : ℕ) (rest : List ℕ) → list_all is_blank gap ≡ true →
    is_blank b ≡ false → beyond is_blank (gap ++ b ∷ rest) ≡ b ∷ rest
beyond_to gap b rest g n =
    beyond_more is_blank gap (b ∷ rest) g ∙ beyond_none is_blank (b ∷ rest) (grind (arith, nat_tests))

-- blanks and a byte that stays in the value
pub bare_step : (gap : List ℕ) (b : ℕ) (rest : List ℕ) → list_all is_blank gap ≡ true →
    is_blank b ≡ false → (is_some_list gap && b == 0x23) ≡ false →
    bare_part (gap ++ b ∷ rest) ≡ gap ++ b ∷ bare_part rest
bare_step [] b rest g n s = grind (arith, nat_tests)
bare_step (x ∷ xs) b rest g n s =
    let gs : list_all is_blank xs ≡ true = grind (arith, nat_tests) in
    let e : is_end (xs ++ b ∷ rest) ≡ false = ap begins_note (beyond_to xs b rest gs n) ∙ s in
    let s' : (is_some_list xs && b == 0x23) ≡ false = grind (arith, nat_tests) in
    grind (arith, nat_tests, bare_step xs b rest gs n s', e)

-- blanks and a comment
pub bare_note : (x : ℕ) (xs rest : List ℕ) → list_all is_blank (x ∷ xs) ≡ true →
    bare_part ((x ∷ xs) ++ 0x23 ∷ rest) ≡ []
bare_note x xs rest g =
    let gs : list_all is_blank xs ≡ true = grind (arith, nat_tests) in
    let e : is_end (xs ++ 0x23 ∷ rest) ≡ true = ap begins_note (beyond_to xs 0x23 rest gs refl) in
    grind (arith, nat_tests, e)

-- blanks alone
pub bare_blanks : (xs : List ℕ) → list_all is_blank xs ≡ true → bare_part xs ≡ []
bare_blanks [] g = refl
bare_blanks (x ∷ xs) g =
    let gs : list_all is_blank xs ≡ true = grind (arith, nat_tests) in
    let p : beyond is_blank xs ≡ [] =
    ap (beyond is_blank) (sym (append-nil xs)) ∙ beyond_more is_blank xs [] gs in
    let e : is_end xs ≡ true = ap begins_note p in
    grind (arith, nat_tests, e)

pub bare_note_of : (gap rest : List ℕ) → 0 < length gap → list_all is_blank gap ≡ true →
    bare_part (gap ++ 0x23 ∷ rest) ≡ []
bare_note_of [] rest n g = absurd (omega arith)
bare_note_of (x ∷ xs) rest n g = bare_note x xs rest g

-- BY PLACES, as the loop goes: the value ends before e, and blanks stand from there to i

abbrev pub gap_of : List ℕ → ℕ → ℕ → List ℕ
gap_of bytes e i = take (i - e) (drop e bytes)

gap_then : (bytes : List ℕ) (e i : ℕ) → e ≤ i → drop e bytes ≡ gap_of bytes e i ++ drop i bytes
gap_then bytes e i le =
    let sum : e + (i - e) ≡ i = omega arith in
    sym (take-append-drop (i - e) (drop e bytes))
    ∙ ap (λ xs. gap_of bytes e i ++ xs) (drop-drop (i - e) e bytes ∙ ap (λ n. drop n bytes) sum)

pub after_byte : (bytes : List ℕ) (e i : ℕ) → e ≤ i → i < length bytes →
    list_all is_blank (gap_of bytes e i) ≡ true → is_blank (get_or bytes i 0) ≡ false →
    (is_some_list (gap_of bytes e i) && get_or bytes i 0 == 0x23) ≡ false →
    bare_part bytes ≡ take e bytes ++ bare_part (drop e bytes) →
    bare_part bytes ≡ take (i + 1) bytes ++ bare_part (drop (i + 1) bytes)
after_byte bytes e i le lt g n s v =
    let b : ℕ = get_or bytes i 0 in
    let gap : List ℕ = gap_of bytes e i in
    let rest : List ℕ = drop (i + 1) bytes in
    let here : drop e bytes ≡ gap ++ (b ∷ rest) =
    gap_then bytes e i le ∙ ap (λ xs. gap ++ xs) (drop_more bytes i 0 lt) in
    let sum : e + (i - e) ≡ i = omega arith in
    let upto : take i bytes ≡ take e bytes ++ gap =
    ap (λ n. take n bytes) (sym sum) ∙ take-add e (i - e) bytes in
    let more : take (i + 1) bytes ≡ (take e bytes ++ gap) ++ (b ∷ []) =
    take_more bytes i 0 lt ∙ ap (λ xs. xs ++ (b ∷ [])) upto in
    v ∙ ap (λ xs. take e bytes ++ xs) (ap bare_part here ∙ bare_step gap b rest g n s)
    ∙ sym (ap (λ xs. xs ++ bare_part rest) more ∙ append_assoc (take e bytes ++ gap) (b ∷ []) (bare_part rest) ∙ append_assoc (take e bytes) gap (b ∷ bare_part rest))

pub after_blank : (bytes : List ℕ) (e i : ℕ) → e ≤ i → i < length bytes →
    list_all is_blank (gap_of bytes e i) ≡ true → is_blank (get_or bytes i 0) ≡ true →
    list_all is_blank (gap_of bytes e (i + 1)) ≡ true
after_blank bytes e i le lt g b =
    let k : i + 1 - e ≡ i - e + 1 = omega arith in
    let sum : e + (i - e) ≡ i = omega arith in
    let short : i - e < length (drop e bytes) = simp length-drop (omega arith) in
    let at : get_or (drop e bytes) (i - e) 0 ≡ get_or bytes i 0 =
    get_or-drop e bytes (i - e) 0 ∙ ap (λ n. get_or bytes n 0) sum in
    let m : list_all is_blank (take (i - e + 1) (drop e bytes)) ≡ (list_all is_blank (gap_of bytes e i) && is_blank (get_or (drop e bytes) (i - e) 0)) = list_all_more is_blank (drop e bytes) (i - e) 0 short in
    rw k (m ∙ rw (g, at) b)

pub at_note : (bytes : List ℕ) (e i : ℕ) → e < i → i < length bytes →
    list_all is_blank (gap_of bytes e i) ≡ true → get_or bytes i 0 ≡ 0x23 →
    bare_part bytes ≡ take e bytes ++ bare_part (drop e bytes) → take e bytes ≡ bare_part bytes
at_note bytes e i l lt g h v =
    let le : e ≤ i = omega arith in
    let gap : List ℕ = gap_of bytes e i in
    let some_gap : 0 < length gap = simp (length-take, length-drop) (omega arith) in
    let here : drop e bytes ≡ gap ++ (0x23 ∷ drop (i + 1) bytes) =
    gap_then bytes e i le
    ∙ ap (λ xs. gap ++ xs) (drop_more bytes i 0 lt ∙ ap (λ b. b ∷ drop (i + 1) bytes) h) in
    let none : bare_part (drop e bytes) ≡ [] =
    ap bare_part here ∙ bare_note_of gap (drop (i + 1) bytes) some_gap g in
    sym (v ∙ ap (λ xs. take e bytes ++ xs) none ∙ append-nil (take e bytes))

pub at_end : (bytes : List ℕ) (e i : ℕ) → e ≤ i → length bytes ≤ i →
    list_all is_blank (gap_of bytes e i) ≡ true →
    bare_part bytes ≡ take e bytes ++ bare_part (drop e bytes) → take e bytes ≡ bare_part bytes
at_end bytes e i le beyond g v =
    let all : gap_of bytes e i ≡ drop e bytes =
    take_all (i - e) (drop e bytes) (simp length-drop (omega arith)) in
    let none : bare_part (drop e bytes) ≡ [] = bare_blanks (drop e bytes) (rw (← all) g) in
    sym (v ∙ ap (λ xs. take e bytes ++ xs) none ∙ append-nil (take e bytes))

pub no_gap : (bytes : List ℕ) (n : ℕ) → list_all is_blank (gap_of bytes n n) ≡ true
no_gap bytes n = let z : n - n ≡ 0 = omega arith in rw z refl

pub stays : (bytes : List ℕ) (e i : ℕ) → (get_or bytes i 0 ≡ 0x23 → i ≤ e) →
    (is_some_list (gap_of bytes e i) && get_or bytes i 0 == 0x23) ≡ false
stays bytes e i h = elim (cases_eq (get_or bytes i 0) 0x23) [
  | inl y ↦ (let z : i - e ≡ 0 = omega (arith, h y) in rw z refl)
  | inr n ↦ grind (arith, nat_tests)
]
