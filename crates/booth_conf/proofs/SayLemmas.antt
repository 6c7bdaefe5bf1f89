-- Values that a line can say.
use Rattle.std.proofs.Common.{◌≡◌, ℕ, Bool, true, false, not, ◌&&◌, ◌||◌, ◌==◌, List, [], ◌∷◌, ◌++◌, refl, arith, ap, ◌∙◌, subst, inl, inr, ◌⊎◌, append-nil}
use Rattle.std.specs.List.{list_all}
use Rattle.std.proofs.lemmas.Bool.Decides.{nat_tests}
use Rattle.booth_base.specs.Name.{is_name, is_value, is_name_byte, is_text_byte}
use Rattle.booth_conf.specs.Grammar.{is_blank, is_value_byte, is_other, is_end, begins_bare, stays_bare, ends_bare, IsWritten, IsPair}
use Rattle.booth_conf.specs.Values.{is_gap, is_word_byte, is_word, begins_gap, AreWords, IsPrereq, IsKindWord, IsTestWord}
use Rattle.booth_conf.specs.Print.{kind_word, test_word, prereq_text}
use Rattle.booth_conf.specs.Sound.{is_sayable, is_prereq}
use Rattle.booth_conf.specs.declared.tickets.GrantKind.{GrantKind}
use Rattle.booth_conf.specs.declared.tickets.GrantKind.TheVariants.{Auto, Manual}
use Rattle.booth_conf.specs.declared.tickets.Prereq.{Prereq}
use Rattle.booth_conf.proofs.KeyLemmas.{both_true}

-- the three forms of a value, as one test
abbrev pub is_formed : List ℕ → Bool
is_formed value =
    list_all (is_other 0x22) value || (list_all (is_other 0x27) value || (begins_bare value && stays_bare value []))

end_append : (bs tail : List ℕ) → is_end bs ≡ true → is_end tail ≡ true → is_end (bs ++ tail) ≡ true
end_append [] tail e t = t
end_append (b ∷ bs) tail e t = grind (arith, nat_tests, end_append bs tail)

bare_end : (tail : List ℕ) → ends_bare tail ≡ true → is_end tail ≡ true
bare_end [] e = refl
bare_end (b ∷ bs) e = grind (arith, nat_tests)

stays_alone : (value tail : List ℕ) → is_end tail ≡ true → stays_bare value tail ≡ true →
    stays_bare value [] ≡ true
stays_alone [] tail t s = refl
stays_alone (b ∷ bs) tail t s =
    let e : bs ++ [] ≡ bs = append-nil bs in
    rw e (grind (arith, nat_tests, end_append bs tail, stays_alone bs tail))

pub first_form : (a b c : Bool) → a ≡ true → (a || (b || c)) ≡ true
first_form a b c h = rw h refl

pub second_form : (a b c : Bool) → b ≡ true → (a || (b || c)) ≡ true
second_form true b c h = refl
second_form false b c h = rw h refl

pub third_form : (a b c : Bool) → c ≡ true → (a || (b || c)) ≡ true
third_form true b c h = refl
third_form false true c h = refl
third_form false false c h = h

written_formed : (rest value : List ℕ) → IsWritten rest value → is_formed value ≡ true
written_formed rest value (inl w) =
    first_form _ (list_all (is_other 0x27) value) (begins_bare value && stays_bare value []) w.plain
written_formed rest value (inr (inl w)) =
    second_form (list_all (is_other 0x22) value) _ (begins_bare value && stays_bare value []) w.plain
written_formed rest value (inr (inr w)) =
    third_form (list_all (is_other 0x22) value) (list_all (is_other 0x27) value) _ (rw (w.begins, stays_alone value w.tail (bare_end w.tail w.ends) w.stays) refl)

-- each value that a line says is one
pub pair_sayable : (line name value : List ℕ) → IsPair line name value → is_sayable value ≡ true
pair_sayable line name value p = rw (p.plain, written_formed p.rest value p.written) refl

-- PREREQUISITES

-- what the bytes of a list all pass, those of its end pass
all_end : (p : ℕ → Bool) (xs ys : List ℕ) → list_all p (xs ++ ys) ≡ true → list_all p ys ≡ true
all_end p [] ys h = h
all_end p (x ∷ xs) ys h = all_end p xs ys (both_true (p x) (list_all p (xs ++ ys)) h).1

all_start : (p : ℕ → Bool) (xs ys : List ℕ) → list_all p (xs ++ ys) ≡ true → list_all p xs ≡ true
all_start p [] ys h = refl
all_start p (x ∷ xs) ys h = let b = both_true (p x) (list_all p (xs ++ ys)) h in rw (b.0, all_start p xs ys b.1) refl

all_both : (p : ℕ → Bool) (xs ys : List ℕ) → list_all p xs ≡ true → list_all p ys ≡ true →
    list_all p (xs ++ ys) ≡ true
all_both p [] ys h k = k
all_both p (x ∷ xs) ys h k = let b = both_true (p x) (list_all p xs) h in rw (b.0, all_both p xs ys b.1 k) refl

stays_end : (xs ys : List ℕ) → stays_bare (xs ++ ys) [] ≡ true → stays_bare ys [] ≡ true
stays_end [] ys h = h
stays_end (x ∷ xs) ys h = stays_end xs ys (both_true _ (stays_bare (xs ++ ys) []) h).1

-- four words in a text, with what stands round them
pub record FourWords (text kind name test value : List ℕ) : Type 0 where
  pub lead : List ℕ
  pub gap1 : List ℕ
  pub gap2 : List ℕ
  pub gap3 : List ℕ
  pub tail : List ℕ
  pub spelled : text ≡ lead ++ (kind ++ (gap1 ++ (name ++ (gap2 ++ (test ++ (gap3 ++ (value ++ tail)))))))
  pub gaps1 : list_all is_gap gap1 ≡ true
  pub gaps2 : list_all is_gap gap2 ≡ true
  pub gaps3 : list_all is_gap gap3 ≡ true
  pub some1 : (gap1 ≡ []) → ⊥
  pub some3 : (gap3 ≡ []) → ⊥
  pub name_word : is_word name ≡ true
  pub value_word : is_word value ≡ true

-- a word does not begin with a gap, so a gap stands before it
gap_before : (gap word rest : List ℕ) → is_word word ≡ true →
    begins_gap (gap ++ (word ++ rest)) ≡ true → (gap ≡ []) → ⊥
gap_before [] [] rest w b e = cc
gap_before [] (x ∷ xs) rest w b e =
    let p : is_word_byte x ≡ true = (both_true (is_word_byte x) (list_all is_word_byte xs) w).0 in
    let f : true ≡ false = grind (arith, nat_tests) in cc
gap_before (g ∷ gs) word rest w b e = cc

pub four_of : (text kind name test value : List ℕ) →
    AreWords text (kind ∷ name ∷ test ∷ value ∷ []) → FourWords text kind name test value
four_of text kind name test value (ga, ra, sa, aa, wa, ea, (gb, rb, sb, ab, wb, eb, (gc, rc, sc, ac, wc, ec, (gd, rd, sd, ad, wd, ed, last)))) = record {
  lead = ga;
  gap1 = gb;
  gap2 = gc;
  gap3 = gd;
  tail = rd;
  spelled =
      sa
      ∙ ap (λ xs. ga ++ (kind ++ xs)) (sb ∙ ap (λ xs. gb ++ (name ++ xs)) (sc ∙ ap (λ xs. gc ++ (test ++ xs)) sd));
  gaps1 = ab;
  gaps2 = ac;
  gaps3 = ad;
  some1 = gap_before gb name rb wb (subst (λ xs. begins_gap xs ≡ true) sb ea);
  some3 = gap_before gd value rd wd (subst (λ xs. begins_gap xs ≡ true) sd ec);
  name_word = wb;
  value_word = wd;
}

-- what all bytes of the text pass, those of the words pass
words_all : (p : ℕ → Bool) (text kind name test value : List ℕ) →
    FourWords text kind name test value → list_all p text ≡ true →
    (list_all p kind ≡ true) × (list_all p name ≡ true) × (list_all p test ≡ true) × (list_all p value ≡ true)
words_all p text kind name test value w h =
    let from_kind : list_all p (kind ++ (w.gap1 ++ (name ++ (w.gap2 ++ (test ++ (w.gap3 ++ (value ++ w.tail))))))) ≡ true =
    all_end p w.lead _ (subst (λ xs. list_all p xs ≡ true) w.spelled h) in
    let from_name : list_all p (name ++ (w.gap2 ++ (test ++ (w.gap3 ++ (value ++ w.tail))))) ≡ true =
    all_end p w.gap1 _ (all_end p kind _ from_kind) in
    let from_test : list_all p (test ++ (w.gap3 ++ (value ++ w.tail))) ≡ true =
    all_end p w.gap2 _ (all_end p name _ from_name) in
    let from_value : list_all p (value ++ w.tail) ≡ true =
    all_end p w.gap3 _ (all_end p test _ from_test) in
    (all_start p kind _ from_kind, all_start p name _ from_name, all_start p test _ from_test, all_start p value _ from_value)

-- and so do those of the words with one space between them
text_all : (p : ℕ → Bool) (q : Prereq) → p 0x20 ≡ true → list_all p (kind_word q.kind) ≡ true →
    list_all p q.name ≡ true → list_all p (test_word q.equal) ≡ true → list_all p q.value ≡ true →
    list_all p (prereq_text q) ≡ true
text_all p q s k n t v =
    all_both p (kind_word q.kind) _ k (rw s (all_both p q.name _ n (rw s (all_both p (test_word q.equal) _ t (rw s v)))))

name_plain : (name : List ℕ) → list_all is_name_byte name ≡ true →
    list_all is_value_byte name ≡ true
name_plain [] h = refl
name_plain (b ∷ bs) h = grind (arith, nat_tests, name_plain bs)

value_plain : (value : List ℕ) → list_all is_text_byte value ≡ true →
    list_all is_value_byte value ≡ true
value_plain [] h = refl
value_plain (b ∷ bs) h = grind (arith, nat_tests, value_plain bs)

kind_plain : (kind : GrantKind) → list_all is_value_byte (kind_word kind) ≡ true
kind_plain Auto = refl
kind_plain Manual = refl

test_plain : (equal : Bool) → list_all is_value_byte (test_word equal) ≡ true
test_plain true = refl
test_plain false = refl

pub name_bytes : (name : List ℕ) → is_name name ≡ true → list_all is_name_byte name ≡ true
name_bytes name h = (both_true _ (list_all is_name_byte name) h).1

pub value_bytes : (value : List ℕ) → is_value value ≡ true → list_all is_text_byte value ≡ true
value_bytes value h = (both_true _ (list_all is_text_byte value) h).1

-- BARE

-- no blank in it, and no `#` in front
abbrev pub is_solid : List ℕ → Bool
is_solid [] = false
is_solid (b ∷ bs) = not (b == 0x23) && (not (is_blank b) && list_all (λ c. not (is_blank c)) bs)

solid_stays : (bs rest : List ℕ) → list_all (λ c. not (is_blank c)) bs ≡ true →
    stays_bare rest [] ≡ true → stays_bare (bs ++ rest) [] ≡ true
solid_stays [] rest h k = k
solid_stays (b ∷ bs) rest h k = grind (arith, nat_tests, solid_stays bs rest)

solid_all : (word : List ℕ) → is_solid word ≡ true → list_all (λ c. not (is_blank c)) word ≡ true
solid_all [] h = refl
solid_all (b ∷ bs) h = grind (arith, nat_tests)

not_end : (word rest : List ℕ) → is_solid word ≡ true → is_end (word ++ rest) ≡ false
not_end [] rest h = cc
not_end (b ∷ bs) rest h = grind (arith, nat_tests)

space_stays : (word rest : List ℕ) → is_solid word ≡ true → stays_bare (word ++ rest) [] ≡ true →
    stays_bare (0x20 ∷ (word ++ rest)) [] ≡ true
space_stays word rest h k =
    let e : is_end ((word ++ rest) ++ []) ≡ false =
    ap is_end (append-nil (word ++ rest)) ∙ not_end word rest h in
    rw (e, k) refl

-- a word after a gap of a bare text does not begin with `#`
gap_solid : (gap : List ℕ) (b : ℕ) (bs : List ℕ) → list_all is_gap gap ≡ true → ((gap ≡ []) → ⊥) →
    is_blank b ≡ false → stays_bare (gap ++ (b ∷ bs)) [] ≡ true → (b == 0x23) ≡ false
gap_solid [] b bs g n k h = absurd (n refl)
gap_solid (x ∷ []) b bs g n k h = grind (arith, nat_tests)
gap_solid (x ∷ y ∷ ys) b bs g n k h =
    gap_solid (y ∷ ys) b bs (both_true (is_gap x) (list_all is_gap (y ∷ ys)) g).1 (λ e. cc) k (both_true _ (stays_bare ((y ∷ ys) ++ (b ∷ bs)) []) h).1

solid_word : (b : ℕ) (bs : List ℕ) → (b == 0x23) ≡ false →
    list_all (λ c. not (is_blank c)) (b ∷ bs) ≡ true → is_solid (b ∷ bs) ≡ true
solid_word b bs h k = rw h k

name_solid : (name : List ℕ) → list_all is_name_byte name ≡ true →
    list_all (λ c. not (is_blank c)) name ≡ true
name_solid [] h = refl
name_solid (b ∷ bs) h = grind (arith, nat_tests, name_solid bs)

value_solid : (value : List ℕ) → list_all is_text_byte value ≡ true →
    list_all is_word_byte value ≡ true → list_all (λ c. not (is_blank c)) value ≡ true
value_solid [] h k = refl
value_solid (b ∷ bs) h k = grind (arith, nat_tests, value_solid bs)

behind_gap : (gap word rest : List ℕ) → list_all is_gap gap ≡ true → ((gap ≡ []) → ⊥) →
    is_word word ≡ true → list_all (λ c. not (is_blank c)) word ≡ true →
    stays_bare (gap ++ (word ++ rest)) [] ≡ true → is_solid word ≡ true
behind_gap gap [] rest g n w k h = cc
behind_gap gap (b ∷ bs) rest g n w k h =
    let first : is_blank b ≡ false = grind (arith, nat_tests) in
    solid_word b bs (gap_solid gap b (bs ++ rest) g n first h) k

kind_solid : (kind : GrantKind) → list_all (λ c. not (is_blank c)) (kind_word kind) ≡ true
kind_solid Auto = refl
kind_solid Manual = refl

test_solid : (equal : Bool) → is_solid (test_word equal) ≡ true
test_solid true = refl
test_solid false = refl

kind_begins : (kind : GrantKind) (rest : List ℕ) → begins_bare (kind_word kind ++ rest) ≡ true
kind_begins Auto rest = refl
kind_begins Manual rest = refl

-- the words with one space between them stay bare
text_stays : (q : Prereq) → is_solid q.name ≡ true → is_solid q.value ≡ true →
    stays_bare (prereq_text q) [] ≡ true
text_stays q n v =
    let end : stays_bare (q.value ++ []) [] ≡ true =
    solid_stays q.value [] (solid_all q.value v) refl in
    let value : stays_bare (0x20 ∷ q.value) [] ≡ true =
    subst (λ xs. stays_bare (0x20 ∷ xs) [] ≡ true) (append-nil q.value) (space_stays q.value [] v end) in
    let test : stays_bare (0x20 ∷ (test_word q.equal ++ (0x20 ∷ q.value))) [] ≡ true =
    space_stays (test_word q.equal) (0x20 ∷ q.value) (test_solid q.equal) (solid_stays (test_word q.equal) (0x20 ∷ q.value) (solid_all (test_word q.equal) (test_solid q.equal)) value) in
    let name : stays_bare (0x20 ∷ (q.name ++ (0x20 ∷ (test_word q.equal ++ (0x20 ∷ q.value))))) [] ≡ true =
    space_stays q.name (0x20 ∷ (test_word q.equal ++ (0x20 ∷ q.value))) n (solid_stays q.name (0x20 ∷ (test_word q.equal ++ (0x20 ∷ q.value))) (solid_all q.name n) test) in
    solid_stays (kind_word q.kind) (0x20 ∷ (q.name ++ (0x20 ∷ (test_word q.equal ++ (0x20 ∷ q.value))))) (kind_solid q.kind) name

word_bytes : (word : List ℕ) → is_word word ≡ true → list_all is_word_byte word ≡ true
word_bytes [] h = cc
word_bytes (b ∷ bs) h = h

bare_formed : (text : List ℕ) (q : Prereq) (kind test : List ℕ) →
    FourWords text kind q.name test q.value → is_name q.name ≡ true → is_value q.value ≡ true →
    stays_bare text [] ≡ true →
    (begins_bare (prereq_text q) && stays_bare (prereq_text q) []) ≡ true
bare_formed text q kind test w n v h =
    let whole : stays_bare (w.lead ++ (kind ++ (w.gap1 ++ (q.name ++ (w.gap2 ++ (test ++ (w.gap3 ++ (q.value ++ w.tail)))))))) [] ≡ true = subst (λ xs. stays_bare xs [] ≡ true) w.spelled h in
    let from_gap : stays_bare (w.gap1 ++ (q.name ++ (w.gap2 ++ (test ++ (w.gap3 ++ (q.value ++ w.tail)))))) [] ≡ true = stays_end kind _ (stays_end w.lead _ whole) in
    let from_gap3 : stays_bare (w.gap3 ++ (q.value ++ w.tail)) [] ≡ true =
    stays_end test _ (stays_end w.gap2 _ (stays_end q.name _ (stays_end w.gap1 _ from_gap))) in
    let name : is_solid q.name ≡ true =
    behind_gap w.gap1 q.name _ w.gaps1 w.some1 w.name_word (name_solid q.name (name_bytes q.name n)) from_gap in
    let value : is_solid q.value ≡ true =
    behind_gap w.gap3 q.value w.tail w.gaps3 w.some3 w.value_word (value_solid q.value (value_bytes q.value v) (word_bytes q.value w.value_word)) from_gap3 in
    rw (kind_begins q.kind (0x20 ∷ (q.name ++ (0x20 ∷ (test_word q.equal ++ (0x20 ∷ q.value))))), text_stays q name value) refl

kind_spelled : (word : List ℕ) (kind : GrantKind) → IsKindWord word kind → word ≡ kind_word kind
kind_spelled word Auto h = h
kind_spelled word Manual h = h

test_spelled : (word : List ℕ) (equal : Bool) → IsTestWord word equal → word ≡ test_word equal
test_spelled word true h = h
test_spelled word false h = h

other_text : (quote : ℕ) (text : List ℕ) (q : Prereq) (h : IsPrereq text q) →
    is_other quote 0x20 ≡ true → list_all (is_other quote) text ≡ true →
    list_all (is_other quote) (prereq_text q) ≡ true
other_text quote text q h space all =
    let w : FourWords text h.kind q.name h.test q.value =
    four_of text h.kind q.name h.test q.value h.words in
    let (k, n, t, v) = words_all (is_other quote) text h.kind q.name h.test q.value w all in
    text_all (is_other quote) q space
    (subst (λ xs. list_all (is_other quote) xs ≡ true) (kind_spelled h.kind q.kind h.kind_is) k) n
    (subst (λ xs. list_all (is_other quote) xs ≡ true) (test_spelled h.test q.equal h.test_is) t) v

formed_cases : (value : List ℕ) (a b : Bool) → list_all (is_other 0x22) value ≡ a →
    list_all (is_other 0x27) value ≡ b →
    (a || (b || (begins_bare value && stays_bare value []))) ≡ true →
    (list_all (is_other 0x22) value ≡ true) ⊎ (list_all (is_other 0x27) value ≡ true) ⊎ (stays_bare value [] ≡ true)
formed_cases value true b e f h = inl e
formed_cases value false true e f h = inr (inl f)
formed_cases value false false e f h =
    inr (inr (both_true (begins_bare value) (stays_bare value []) h).1)

prereq_formed : (text : List ℕ) (q : Prereq) → IsPrereq text q →
    (list_all (is_other 0x22) text ≡ true) ⊎ (list_all (is_other 0x27) text ≡ true) ⊎ (stays_bare text [] ≡ true) →
    is_formed (prereq_text q) ≡ true
prereq_formed text q h (inl a) =
    first_form _ (list_all (is_other 0x27) (prereq_text q)) (begins_bare (prereq_text q) && stays_bare (prereq_text q) []) (other_text 0x22 text q h refl a)
prereq_formed text q h (inr (inl a)) =
    second_form (list_all (is_other 0x22) (prereq_text q)) _ (begins_bare (prereq_text q) && stays_bare (prereq_text q) []) (other_text 0x27 text q h refl a)
prereq_formed text q h (inr (inr a)) =
    third_form (list_all (is_other 0x22) (prereq_text q)) (list_all (is_other 0x27) (prereq_text q)) _
    (bare_formed text q h.kind h.test (four_of text h.kind q.name h.test q.value h.words) h.name_is h.value_is a)

pub prereq_sound : (text : List ℕ) (q : Prereq) → is_sayable text ≡ true → IsPrereq text q →
    is_prereq q ≡ true
prereq_sound text q s h =
    let w : FourWords text h.kind q.name h.test q.value =
    four_of text h.kind q.name h.test q.value h.words in
    let b = both_true (list_all is_value_byte text) (is_formed text) s in
    let plain : list_all is_value_byte (prereq_text q) ≡ true =
    text_all is_value_byte q refl (kind_plain q.kind) (name_plain q.name (name_bytes q.name h.name_is)) (test_plain q.equal) (value_plain q.value (value_bytes q.value h.value_is)) in
    let formed : is_formed (prereq_text q) ≡ true =
    prereq_formed text q h (formed_cases text (list_all (is_other 0x22) text) (list_all (is_other 0x27) text) refl refl b.1) in
    rw (h.name_is, h.value_is, w.value_word, plain, formed) refl
