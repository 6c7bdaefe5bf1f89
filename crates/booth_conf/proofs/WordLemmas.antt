-- Words between gaps, both ways.
use Rattle.std.proofs.Common.{◌≡◌, ℕ, true, false, List, [], ◌∷◌, ◌++◌, Option, Some, None, refl, arith, ap, ◌∙◌, sym, subst, append-nil}
use Rattle.std.specs.Prelude.{is_some}
use Rattle.std.specs.List.{list_all}
use Rattle.std.proofs.lemmas.Bool.Decides.{nat_tests}
use Rattle.std.proofs.NetLemmas.Options.{cond_none}
use Rattle.booth_conf.specs.Grammar.{beyond}
use Rattle.booth_conf.specs.LineReader.{front}
use Rattle.booth_conf.specs.Values.{is_gap, is_word_byte, is_word, begins_gap, AreWords}
use Rattle.booth_conf.specs.ValueReader.{word_of, word_in, then_word, last_word, one_word, four_words, Words}
use Rattle.booth_conf.proofs.Cuts.{beyond_more, front_more, front_beyond, front_all, beyond_none, front_none, beyond_stops, stops}

-- a text begins with this word, and goes on with the rest
pub record IsFirst (text word rest : List ℕ) : Type 0 where
  pub gap : List ℕ
  pub spelled : text ≡ gap ++ (word ++ rest)
  pub gaps : list_all is_gap gap ≡ true
  pub some : is_word word ≡ true
  pub ends : begins_gap rest ≡ true

front_word : (b : ℕ) (bs : List ℕ) → stops is_gap (b ∷ bs) ≡ true →
    is_word (front is_word_byte (b ∷ bs)) ≡ true
front_word b bs h = grind (arith, nat_tests, front_all is_word_byte bs)

stops_gap : (xs : List ℕ) → stops is_word_byte xs ≡ true → begins_gap xs ≡ true
stops_gap [] h = refl
stops_gap (b ∷ bs) h = grind (arith, nat_tests)

gap_stops : (xs : List ℕ) → begins_gap xs ≡ true → stops is_word_byte xs ≡ true
gap_stops [] h = refl
gap_stops (b ∷ bs) h = grind (arith, nat_tests)

word_stops : (word rest : List ℕ) → is_word word ≡ true → stops is_gap (word ++ rest) ≡ true
word_stops [] rest h = cc
word_stops (b ∷ bs) rest h = grind (arith, nat_tests)

word_at : (word rest : List ℕ) → is_word word ≡ true → begins_gap rest ≡ true →
    word_of (word ++ rest) ≡ Some (word, rest)
word_at [] rest h e = cc
word_at (b ∷ bs) rest h e =
    let all : list_all is_word_byte (b ∷ bs) ≡ true = h in
    let f : front is_word_byte ((b ∷ bs) ++ rest) ≡ b ∷ bs =
    front_more is_word_byte (b ∷ bs) rest all
    ∙ ap (λ xs. (b ∷ bs) ++ xs) (front_none is_word_byte rest (gap_stops rest e))
    ∙ append-nil (b ∷ bs) in
    let p : beyond is_word_byte ((b ∷ bs) ++ rest) ≡ rest =
    beyond_more is_word_byte (b ∷ bs) rest all ∙ beyond_none is_word_byte rest (gap_stops rest e) in
    rw (f, p) refl

pub word_only : (text word rest : List ℕ) → IsFirst text word rest →
    word_in text ≡ Some (word, rest)
word_only text word rest h =
    let start : beyond is_gap text ≡ word ++ rest =
    ap (beyond is_gap) h.spelled ∙ beyond_more is_gap h.gap (word ++ rest) h.gaps
    ∙ beyond_none is_gap (word ++ rest) (word_stops word rest h.some) in
    rw start (word_at word rest h.some h.ends)

first_of : (text start : List ℕ) (w : List ℕ × List ℕ) → beyond is_gap text ≡ start →
    stops is_gap start ≡ true → word_of start ≡ Some w → IsFirst text w.0 w.1
first_of text [] w p s e = cc
first_of text (b ∷ bs) w p s e =
    let f : front is_word_byte (b ∷ bs) ≡ w.0 = cc in
    let q : beyond is_word_byte (b ∷ bs) ≡ w.1 = cc in
    record {
      gap = front is_gap text;
      spelled = front_beyond is_gap text ∙ ap (λ xs. front is_gap text ++ xs) (p ∙ front_beyond is_word_byte (b ∷ bs) ∙ ap (λ xs. xs ++ beyond is_word_byte (b ∷ bs)) f ∙ ap (λ xs. w.0 ++ xs) q);
      gaps = front_all is_gap text;
      some = subst (λ xs. is_word xs ≡ true) f (front_word b bs s);
      ends = subst (λ xs. begins_gap xs ≡ true) q (stops_gap (beyond is_word_byte (b ∷ bs)) (beyond_stops is_word_byte (b ∷ bs)));
    }

pub word_found : (text : List ℕ) (w : List ℕ × List ℕ) → word_in text ≡ Some w →
    IsFirst text w.0 w.1
word_found text w e = first_of text (beyond is_gap text) w refl (beyond_stops is_gap text) e

-- gaps alone

no_word : (start : List ℕ) → is_some (word_of start) ≡ false → start ≡ []
no_word [] h = refl
no_word (b ∷ bs) h = cc

gaps_found : (text : List ℕ) → is_some (word_in text) ≡ false → list_all is_gap text ≡ true
gaps_found text h =
    let none : beyond is_gap text ≡ [] = no_word (beyond is_gap text) h in
    let all : text ≡ front is_gap text =
    front_beyond is_gap text ∙ ap (λ xs. front is_gap text ++ xs) none
    ∙ append-nil (front is_gap text) in
    subst (λ xs. list_all is_gap xs ≡ true) (sym all) (front_all is_gap text)

gaps_only : (text : List ℕ) → list_all is_gap text ≡ true → is_some (word_in text) ≡ false
gaps_only text h =
    let none : beyond is_gap text ≡ [] =
    ap (beyond is_gap) (sym (append-nil text)) ∙ beyond_more is_gap text [] h in
    rw none refl

-- LISTS OF WORDS

then_found : {A P : Type 0} (text : List ℕ) (o : Option (List ℕ × List ℕ)) (f : List ℕ → List ℕ → Option A) (y : A) →
    word_in text ≡ o → then_word o f ≡ Some y →
    ((w rest : List ℕ) → IsFirst text w rest → f w rest ≡ Some y → P) → P
then_found text None f y e h k = cc
then_found text (Some w) f y e h k = k w.0 w.1 (word_found text w e) h

more_words : (text word rest : List ℕ) (words : List (List ℕ)) → IsFirst text word rest →
    AreWords rest words → AreWords text (word ∷ words)
more_words text word rest words h more = (h.gap, rest, h.spelled, h.gaps, h.some, h.ends, more)

pub one_found : (text word : List ℕ) → one_word text ≡ Some word → AreWords text (word ∷ [])
one_found text word e = then_found text (word_in text) last_word word refl e (λ w rest first last.
    let n = cond_none (is_some (word_in rest)) (Some w) word last in
    let same : w ≡ word = cc in
    more_words text word rest [] (subst (λ v. IsFirst text v rest) same first) (gaps_found rest n.0))

pub one_only : (text word : List ℕ) → AreWords text (word ∷ []) → one_word text ≡ Some word
one_only text word (gap, rest, spelled, gaps, some, ends, last) =
    let w : word_in text ≡ Some (word, rest) =
    word_only text word rest (record { gap = gap; spelled = spelled; gaps = gaps; some = some; ends = ends }) in
    rw (w, gaps_only rest last) refl

pub four_found : (text : List ℕ) (w : Words) → four_words text ≡ Some w →
    AreWords text (w.0 ∷ w.1 ∷ w.2 ∷ w.3 ∷ [])
four_found text w e =
    then_found text (word_in text) _ w refl e (λ a after_a first_a in_a.
    then_found after_a (word_in after_a) _ w refl in_a (λ b after_b first_b in_b.
    then_found after_b (word_in after_b) _ w refl in_b (λ c after_c first_c in_c.
    then_found after_c (word_in after_c) _ w refl in_c (λ d after_d first_d in_d.
    let n = cond_none (is_some (word_in after_d)) (Some (a, b, c, d)) w in_d in
    let same : (a, b, c, d) ≡ w = cc in
    subst (λ v. AreWords text (v.0 ∷ v.1 ∷ v.2 ∷ v.3 ∷ [])) same
    (more_words text a after_a (b ∷ c ∷ d ∷ []) first_a
    (more_words after_a b after_b (c ∷ d ∷ []) first_b
    (more_words after_b c after_c (d ∷ []) first_c
    (more_words after_c d after_d [] first_d (gaps_found after_d n.0)))))))))

pub four_only : (text a b c d : List ℕ) → AreWords text (a ∷ b ∷ c ∷ d ∷ []) →
    four_words text ≡ Some (a, b, c, d)
four_only text a b c d (ga, ra, sa, aa, wa, ea, (gb, rb, sb, ab, wb, eb, (gc, rc, sc, ac, wc, ec, (gd, rd, sd, ad, wd, ed, last)))) =
    let a_is : word_in text ≡ Some (a, ra) =
    word_only text a ra (record { gap = ga; spelled = sa; gaps = aa; some = wa; ends = ea }) in
    let b_is : word_in ra ≡ Some (b, rb) =
    word_only ra b rb (record { gap = gb; spelled = sb; gaps = ab; some = wb; ends = eb }) in
    let c_is : word_in rb ≡ Some (c, rc) =
    word_only rb c rc (record { gap = gc; spelled = sc; gaps = ac; some = wc; ends = ec }) in
    let d_is : word_in rc ≡ Some (d, rd) =
    word_only rc d rd (record { gap = gd; spelled = sd; gaps = ad; some = wd; ends = ed }) in
    rw (a_is, b_is, c_is, d_is, gaps_only rd last) refl
