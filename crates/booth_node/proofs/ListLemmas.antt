-- Lists of tickets in parts.
use Rattle.std.specs.Prelude.{Bool, true, false, nat_le, if◌then◌else◌}
use Rattle.std.proofs.Common.{◌≡◌, ◌+◌, ◌<◌, ◌≤◌, ℕ, zero, suc, List, [], ◌∷◌, ◌++◌, length, take, drop, get_or, refl, sym, ◌∙◌, ap, append-nil, arith}
use Rattle.std.proofs.lemmas.Bool.Decides.{nat_tests}
use Rattle.std.proofs.lemmas.List.{drop-drop, drop_more, length-append, length-drop, take-append-drop, take_all, take_more}
use Rattle.std.proofs.Math.ListN.{drop_of_length-le}
use Rattle.booth_base.specs.declared.address.MemberId.{MemberId}
use Rattle.booth_base.specs.declared.buffer.TheConstants.{TEXT_BYTES}
use Rattle.booth_wire.specs.declared.codes.results.TheConstants.{SUCCESS, MORE}
use Rattle.booth_node.specs.Lists.{IsPart, cut_lines, part_text, parts_from, with_first}
use Rattle.booth_node.specs.Replies.{part_message, part_messages}
use Rattle.booth_node.specs.ReplyForms.{part_result}

-- ---- the lines that a part took, before those that are cut on

pub with_all : List (List ℕ) → List (List (List ℕ)) → List (List (List ℕ))
with_all [] parts = parts
with_all (line ∷ lines) parts = with_first line (with_all lines parts)

pub all_first : (lines : List (List ℕ)) (parts : List (List (List ℕ))) → with_all lines ([] ∷ parts) ≡ lines ∷ parts
unfolding with_all
all_first [] parts = refl
all_first (line ∷ lines) parts = ap (λ (ps : List (List (List ℕ))). with_first line ps) (all_first lines parts)

pub all_and_one : (lines : List (List ℕ)) (line : List ℕ) (parts : List (List (List ℕ)))
    → with_all (lines ++ line ∷ []) parts ≡ with_all lines (with_first line parts)
unfolding with_all
all_and_one [] line parts = refl
all_and_one (first ∷ lines) line parts = ap (λ (ps : List (List (List ℕ))). with_first first ps) (all_and_one lines line parts)

pub text_and_one : (lines : List (List ℕ)) (line : List ℕ) → part_text (lines ++ line ∷ []) ≡ part_text lines ++ line
text_and_one [] line = nil_right line
  where
    nil_right : (xs : List ℕ) → xs ++ [] ≡ xs
    nil_right [] = refl
    nil_right (x ∷ xs) = ap (λ (l : List ℕ). x ∷ l) (nil_right xs)
text_and_one (first ∷ lines) line =
    ap (λ (text : List ℕ). first ++ text) (text_and_one lines line) ∙ assoc first (part_text lines) line
  where
    assoc : (xs ys zs : List ℕ) → xs ++ (ys ++ zs) ≡ (xs ++ ys) ++ zs
    assoc [] ys zs = refl
    assoc (x ∷ xs) ys zs = ap (λ (l : List ℕ). x ∷ l) (assoc xs ys zs)

-- a line that fits is the next one of the part
pub cut_fits : (taken : ℕ) (line : List ℕ) (lines : List (List ℕ)) → taken + length line ≤ TEXT_BYTES
    → cut_lines taken (line ∷ lines) ≡ with_first line (cut_lines (taken + length line) lines)
cut_fits taken line lines fits = by_test (nat_le (taken + length line) TEXT_BYTES) (grind (arith, nat_tests))
  where
    by_test : (b : Bool) → b ≡ true
        → (if b then with_first line (cut_lines (taken + length line) lines) else [] ∷ with_first line (cut_lines (length line) lines))
        ≡ with_first line (cut_lines (taken + length line) lines)
    by_test true is = refl
    by_test false is = absurd cc

-- a line that does not fit begins the next part, as it does where nothing is taken
pub cut_over : (taken : ℕ) (line : List ℕ) (lines : List (List ℕ)) → TEXT_BYTES < taken + length line
    → length line ≤ TEXT_BYTES → cut_lines taken (line ∷ lines) ≡ [] ∷ cut_lines 0 (line ∷ lines)
cut_over taken line lines over fits =
    by_test (nat_le (taken + length line) TEXT_BYTES) (grind (arith, nat_tests))
    ∙ ap (λ (ps : List (List (List ℕ))). [] ∷ ps)
    (ap (λ (n : ℕ). with_first line (cut_lines n lines)) (omega arith) ∙ sym (cut_fits 0 line lines (omega (arith, fits))))
  where
    by_test : (b : Bool) → b ≡ false
        → (if b then with_first line (cut_lines (taken + length line) lines) else [] ∷ with_first line (cut_lines (length line) lines))
        ≡ [] ∷ with_first line (cut_lines (length line) lines)
    by_test true is = absurd cc
    by_test false is = refl

-- behind the last line there is no part
pub none_from : (lines : List (List ℕ)) (count : ℕ) → length lines ≤ count → parts_from lines count ≡ []
none_from lines count over = by_test (nat_le (length lines) count) (grind (arith, nat_tests))
  where
    by_test : (b : Bool) → b ≡ true → (if b then [] else cut_lines 0 (drop count lines)) ≡ []
    by_test true is = refl
    by_test false is = absurd cc

pub some_from : (lines : List (List ℕ)) (count : ℕ) → count < length lines → parts_from lines count ≡ cut_lines 0 (drop count lines)
some_from lines count below = by_test (nat_le (length lines) count) (grind (arith, nat_tests))
  where
    by_test : (b : Bool) → b ≡ false → (if b then [] else cut_lines 0 (drop count lines)) ≡ cut_lines 0 (drop count lines)
    by_test true is = absurd cc
    by_test false is = refl

-- ---- a part that is being written

-- so many lines were taken, and their text is this
pub record Taken (lines : List (List ℕ)) (count : ℕ) (text : List ℕ) : Type 0 where
  pub text_is : text ≡ part_text (take count lines)
  pub cut : cut_lines 0 lines ≡ with_all (take count lines) (cut_lines (length text) (drop count lines))

pub none_taken : (lines : List (List ℕ)) → Taken lines 0 []
unfolding with_all
none_taken lines = record { text_is = refl; cut = refl }

pub one_taken : (lines : List (List ℕ)) (count : ℕ) (text line : List ℕ) → count < length lines → get_or lines count [] ≡ line
    → length text + length line ≤ TEXT_BYTES → Taken lines count text → Taken lines (count + 1) (text ++ line)
one_taken lines count text line below is fits taken = record {
  text_is = ap (λ (t : List ℕ). t ++ line) taken.text_is ∙ sym (text_and_one (take count lines) line)
      ∙ ap (λ (ls : List (List ℕ)). part_text ls) (sym more);
  cut = taken.cut
      ∙ ap (λ (ls : List (List ℕ)). with_all (take count lines) (cut_lines (length text) ls)) left
      ∙ ap (λ (ps : List (List (List ℕ))). with_all (take count lines) ps) (cut_fits (length text) line (drop (count + 1) lines) fits)
      ∙ sym (all_and_one (take count lines) line (cut_lines (length text + length line) (drop (count + 1) lines)))
      ∙ ap (λ (ls : List (List ℕ)). with_all ls (cut_lines (length text + length line) (drop (count + 1) lines))) (sym more)
      ∙ ap (λ (n : ℕ). with_all (take (count + 1) lines) (cut_lines n (drop (count + 1) lines))) (sym (length-append text line));
}
  where
    left : drop count lines ≡ line ∷ drop (count + 1) lines
    left = drop_more lines count [] below ∙ ap (λ (l : List ℕ). l ∷ drop (count + 1) lines) is

    more : take (count + 1) lines ≡ take count lines ++ line ∷ []
    more = take_more lines count [] below ∙ ap (λ (l : List ℕ). take count lines ++ l ∷ []) is

-- the next line has no room: the part ends
pub part_over : (lines : List (List ℕ)) (count : ℕ) (text line : List ℕ) → count < length lines → get_or lines count [] ≡ line
    → TEXT_BYTES < length text + length line → length line ≤ TEXT_BYTES → Taken lines count text → IsPart lines count text
part_over lines count text line below is over fits taken = record {
  part = take count lines;
  text_is = taken.text_is;
  cut = taken.cut
      ∙ ap (λ (ls : List (List ℕ)). with_all (take count lines) (cut_lines (length text) ls)) left
      ∙ ap (λ (ps : List (List (List ℕ))). with_all (take count lines) ps)
      (cut_over (length text) line (drop (count + 1) lines) over fits)
      ∙ all_first (take count lines) (cut_lines 0 (line ∷ drop (count + 1) lines))
      ∙ ap (λ (ps : List (List (List ℕ))). take count lines ∷ ps)
      (ap (λ (ls : List (List ℕ)). cut_lines 0 ls) (sym left) ∙ sym (some_from lines count below));
  within = omega (arith, below);
  on = λ some. begun count taken.text_is;
}
  where
    left : drop count lines ≡ line ∷ drop (count + 1) lines
    left = drop_more lines count [] below ∙ ap (λ (l : List ℕ). l ∷ drop (count + 1) lines) is

    begun : (n : ℕ) → text ≡ part_text (take n lines) → 0 < n
    begun zero none =
        let empty : length text ≡ 0 = ap (λ (t : List ℕ). length t) none in
        absurd (omega (arith, over, fits, empty))
    begun (suc n) some = omega arith

-- all lines were taken: it is the only part
pub part_whole : (lines : List (List ℕ)) (text : List ℕ) → Taken lines (length lines) text → IsPart lines (length lines) text
part_whole lines text taken = record {
  part = lines;
  text_is = taken.text_is ∙ ap (λ (ls : List (List ℕ)). part_text ls) all;
  cut = taken.cut
      ∙ ap (λ (ls : List (List ℕ)). with_all ls (cut_lines (length text) (drop (length lines) lines))) all
      ∙ ap (λ (ls : List (List ℕ)). with_all lines (cut_lines (length text) ls)) (drop_of_length-le lines (omega arith))
      ∙ all_first lines []
      ∙ ap (λ (ps : List (List (List ℕ))). lines ∷ ps) (sym (none_from lines (length lines) (omega arith)));
  within = omega arith;
  on = λ some. some;
}
  where
    all : take (length lines) lines ≡ lines
    all = take_all (length lines) lines (omega arith)

-- a cut has a part at least
pub some_part : (taken : ℕ) (lines : List (List ℕ))
    → (first : List (List ℕ)) × (rest : List (List (List ℕ))) × (cut_lines taken lines ≡ first ∷ rest)
some_part taken [] = ([], [], refl)
some_part taken (line ∷ lines) = by_test (nat_le (taken + length line) TEXT_BYTES)
  where
    with_it : (parts : List (List (List ℕ)))
        → (first : List (List ℕ)) × (rest : List (List (List ℕ))) × (with_first line parts ≡ first ∷ rest)
    with_it [] = (_, _, refl)
    with_it (part ∷ parts) = (_, _, refl)

    by_test : (b : Bool) → (first : List (List ℕ)) × (rest : List (List (List ℕ)))
        × ((if b then with_first line (cut_lines (taken + length line) lines) else [] ∷ with_first line (cut_lines (length line) lines))
        ≡ first ∷ rest)
    by_test true = with_it (cut_lines (taken + length line) lines)
    by_test false = (_, _, refl)

-- ---- the messages of a list

module _ (me : MemberId) (request : ℕ) where
  -- the first part is the first message, and the others follow
  pub first_message : (number : ℕ) (lines : List (List ℕ)) (count : ℕ) (text : List ℕ) → IsPart lines count text
      → part_messages me request number (cut_lines 0 lines)
      ≡ part_message me request number (part_result lines count) text
      ∷ part_messages me request (number + 1) (parts_from lines count)
  first_message number lines count text is =
      ap (λ (ps : List (List (List ℕ))). part_messages me request number ps) is.cut
      ∙ by_test (nat_le (length lines) count)
      ∙ ap (λ (t : List ℕ). part_message me request number (part_result lines count) t
      ∷ part_messages me request (number + 1) (parts_from lines count)) (sym is.text_is)
    where
      by_some : (first : List (List ℕ)) (rest parts : List (List (List ℕ))) → parts ≡ first ∷ rest
          → part_messages me request number (is.part ∷ parts)
          ≡ part_message me request number MORE (part_text is.part) ∷ part_messages me request (number + 1) parts
      by_some first rest parts e =
          ap (λ (ps : List (List (List ℕ))). part_messages me request number (is.part ∷ ps)) e
          ∙ ap (λ (ps : List (List (List ℕ))). part_message me request number MORE (part_text is.part)
          ∷ part_messages me request (number + 1) ps) (sym e)

      by_test : (b : Bool)
          → part_messages me request number (is.part ∷ (if b then [] else cut_lines 0 (drop count lines)))
          ≡ part_message me request number (if b then SUCCESS else MORE) (part_text is.part)
          ∷ part_messages me request (number + 1) (if b then [] else cut_lines 0 (drop count lines))
      by_test true = refl
      by_test false =
          let some = some_part 0 (drop count lines) in
          by_some some.0 some.1 (cut_lines 0 (drop count lines)) some.2

-- the parts behind a part that begins behind so many lines
pub parts_on : (lines : List (List ℕ)) (next count : ℕ) → next ≤ length lines
    → parts_from (drop next lines) count ≡ parts_from lines (next + count)
parts_on lines next count within =
    ap (λ (ls : List (List ℕ)). if nat_le (length (drop next lines)) count then [] else cut_lines 0 ls) (drop-drop count next lines)
    ∙ ap (λ (b : Bool). if b then [] else cut_lines 0 (drop (next + count) lines)) same
  where
    same : nat_le (length (drop next lines)) count ≡ nat_le (length lines) (next + count)
    same = let left = length-drop next lines in grind (arith, nat_tests, left, within)

-- what a list that is not over begins with
pub record Begins {A : Type 0} (xs : List A) (i : ℕ) (d x : A) (rest : List A) : Type 0 where
  pub below : i < length xs
  pub here : get_or xs i d ≡ x
  pub after : drop (i + 1) xs ≡ rest

pub begins : {A : Type 0} (xs : List A) (i : ℕ) (d x : A) (rest : List A) → drop i xs ≡ x ∷ rest → Begins xs i d x rest
begins [] zero d x rest is = absurd cc
begins [] (suc i) d x rest is = absurd cc
begins (y ∷ xs) zero d x rest is = record { below = omega arith; here = cc; after = cc }
begins (y ∷ xs) (suc i) d x rest is =
    let more = begins xs i d x rest is in
    let low = more.below in
    let one : suc i + 1 ≡ suc (i + 1) = omega arith in
    record {
      below = omega (arith, low);
      here = more.here;
      after = ap (λ (n : ℕ). drop n (y ∷ xs)) one ∙ more.after;
    }

pub all_taken : {A : Type 0} (xs : List A) (i : ℕ) → drop i xs ≡ [] → take i xs ≡ xs
all_taken xs i over =
    sym (append-nil (take i xs)) ∙ ap (λ ys. take i xs ++ ys) (sym over) ∙ take-append-drop i xs
