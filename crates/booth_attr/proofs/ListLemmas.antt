-- Attribute lists: what holds of a list with a pair of a name, and of one without.
use Rattle.std.proofs.Common.{◌≡◌, ℕ, true, false, not, ◌||◌, List, [], ◌∷◌, ◌++◌, map, refl, sym, ◌∙◌, ap, subst, arith}
use Rattle.std.specs.Prelude.{Some, None, find, bytes_eq}
use Rattle.std.specs.List.{list_all}
use Rattle.std.proofs.lemmas.Bool.{or_parts, or_from, or_left, or_right, cond-true, cond-false, not_from_true, not_from_false, false_from_ne_true, false≢true}
use Rattle.std.proofs.lemmas.Slice.Eq.{bytes_eq-Decides}
use Rattle.std.proofs.lemmas.Bool.Decides.{nat_tests}
use Rattle.booth_base.specs.Name.{is_text_byte, is_line_byte, is_value}
use Rattle.booth_attr.specs.declared.pair.Pair.{Pair}
use Rattle.booth_attr.specs.Lists.{is_named, has_name, AttributeList, revalued, without}

pub named_is : (name : List ℕ) (pair : Pair) → is_named name pair ≡ true → pair.name ≡ name
named_is name pair h = (bytes_eq-Decides pair.name name).0 h

pub is_named_is : (name : List ℕ) (pair : Pair) → pair.name ≡ name → is_named name pair ≡ true
is_named_is name pair e = (bytes_eq-Decides pair.name name).1 e

-- two names that differ do so both ways
pub differs_back : (one other : Pair) → is_named one.name other ≡ false → is_named other.name one ≡ false
differs_back one other h =
    false_from_ne_true (is_named other.name one) (λ t. false≢true (sym h ∙ is_named_is one.name other (sym (named_is other.name one t))))

-- no pair of the two lists has the name exactly where none of both together has it
pub has_none_of_both : (name : List ℕ) (one other : List Pair) → has_name name one ≡ false → has_name name other ≡ false → has_name name (one ++ other) ≡ false
has_none_of_both name [] other h k = k
has_none_of_both name (pair ∷ one) other h k =
    let p = or_parts (is_named name pair) (has_name name one) h in
    or_from (is_named name pair) (has_name name (one ++ other)) p.0 (has_none_of_both name one other p.1 k)

pub has_none_in_each : (name : List ℕ) (one other : List Pair) → has_name name (one ++ other) ≡ false → (has_name name one ≡ false) × (has_name name other ≡ false)
has_none_in_each name [] other h = (refl, h)
has_none_in_each name (pair ∷ one) other h =
    let p = or_parts (is_named name pair) (has_name name (one ++ other)) h in
    let q = has_none_in_each name one other p.1 in
    (or_from (is_named name pair) (has_name name one) p.0 q.0, q.1)

-- a pair in the middle has its name
pub has_middle : (name : List ℕ) (before : List Pair) (pair : Pair) (rest : List Pair) → is_named name pair ≡ true → has_name name (before ++ pair ∷ rest) ≡ true
has_middle name [] pair rest h = or_left (is_named name pair) (has_name name rest) h
has_middle name (other ∷ before) pair rest h =
    or_right (is_named name other) (has_name name (before ++ pair ∷ rest)) (has_middle name before pair rest h)

-- the others of an attribute list have other names
pub alone : (name : List ℕ) (before : List Pair) (pair : Pair) (rest : List Pair) → AttributeList (before ++ pair ∷ rest) → pair.name ≡ name
    → (has_name name before ≡ false) × (has_name name rest ≡ false)
alone name [] pair rest list e = (refl, subst (λ (n : List ℕ). has_name n rest ≡ false) e list.0)
alone name (other ∷ before) pair rest list e =
    let later = alone name before pair rest list.1 e in
    let each = has_none_in_each other.name before (pair ∷ rest) list.0 in
    let apart : is_named other.name pair ≡ false = (or_parts (is_named other.name pair) (has_name other.name rest) each.1).0 in
    let back : is_named name other ≡ false = subst (λ (n : List ℕ). is_named n other ≡ false) e (differs_back other pair apart) in
    (or_from (is_named name other) (has_name name before) back later.0, later.1)

-- where no pair has the name
pub find_none : (name : List ℕ) (pairs : List Pair) → has_name name pairs ≡ false → find (is_named name) pairs ≡ None
find_none name [] h = refl
find_none name (pair ∷ pairs) h =
    let p = or_parts (is_named name pair) (has_name name pairs) h in
    cond-false (is_named name pair) (Some pair) (find (is_named name) pairs) p.0 ∙ find_none name pairs p.1

pub without_kept : (name : List ℕ) (pairs : List Pair) → has_name name pairs ≡ false → without name pairs ≡ pairs
without_kept name [] h = refl
without_kept name (pair ∷ pairs) h =
    let p = or_parts (is_named name pair) (has_name name pairs) h in
    cond-true (not (is_named name pair)) (pair ∷ without name pairs) (without name pairs) (not_from_false (is_named name pair) p.0)
    ∙ ap (λ ps. pair ∷ ps) (without_kept name pairs p.1)

pub revalued_kept : (name value : List ℕ) (pairs : List Pair) → has_name name pairs ≡ false → map (revalued name value) pairs ≡ pairs
revalued_kept name value [] h = refl
revalued_kept name value (pair ∷ pairs) h =
    let p = or_parts (is_named name pair) (has_name name pairs) h in
    ap (λ q. q ∷ map (revalued name value) pairs) (cond-false (is_named name pair) (record pair { value = value }) pair p.0)
    ∙ ap (λ ps. pair ∷ ps) (revalued_kept name value pairs p.1)

-- where one pair has the name
pub find_middle : (name : List ℕ) (before : List Pair) (pair : Pair) (rest : List Pair) → has_name name before ≡ false → is_named name pair ≡ true
    → find (is_named name) (before ++ pair ∷ rest) ≡ Some pair
find_middle name [] pair rest h k = cond-true (is_named name pair) (Some pair) (find (is_named name) rest) k
find_middle name (other ∷ before) pair rest h k =
    let p = or_parts (is_named name other) (has_name name before) h in
    cond-false (is_named name other) (Some other) (find (is_named name) (before ++ pair ∷ rest)) p.0 ∙ find_middle name before pair rest p.1 k

pub without_middle : (name : List ℕ) (before : List Pair) (pair : Pair) (rest : List Pair) → has_name name before ≡ false → has_name name rest ≡ false → is_named name pair ≡ true
    → without name (before ++ pair ∷ rest) ≡ before ++ rest
without_middle name [] pair rest h l k =
    cond-false (not (is_named name pair)) (pair ∷ without name rest) (without name rest) (not_from_true (is_named name pair) k) ∙ without_kept name rest l
without_middle name (other ∷ before) pair rest h l k =
    let p = or_parts (is_named name other) (has_name name before) h in
    cond-true (not (is_named name other)) (other ∷ without name (before ++ pair ∷ rest)) (without name (before ++ pair ∷ rest)) (not_from_false (is_named name other) p.0)
    ∙ ap (λ ps. other ∷ ps) (without_middle name before pair rest p.1 l k)

pub revalued_middle : (name value : List ℕ) (before : List Pair) (pair : Pair) (rest : List Pair) → has_name name before ≡ false → has_name name rest ≡ false → pair.name ≡ name
    → map (revalued name value) (before ++ pair ∷ rest) ≡ before ++ (record { name = name; value = value }) ∷ rest
revalued_middle name value [] pair rest h l e =
    ap (λ q. q ∷ map (revalued name value) rest) (cond-true (is_named name pair) (record pair { value = value }) pair (is_named_is name pair e))
    ∙ ap (λ ps. (record pair { value = value }) ∷ ps) (revalued_kept name value rest l)
    ∙ ap (λ (n : List ℕ). (record { name = n; value = value }) ∷ rest) e
revalued_middle name value (other ∷ before) pair rest h l e =
    let p = or_parts (is_named name other) (has_name name before) h in
    ap (λ q. q ∷ map (revalued name value) (before ++ pair ∷ rest)) (cond-false (is_named name other) (record other { value = value }) other p.0)
    ∙ ap (λ ps. other ∷ ps) (revalued_middle name value before pair rest p.1 l e)

-- what stays an attribute list
pub list_without : (before : List Pair) (pair : Pair) (rest : List Pair) → AttributeList (before ++ pair ∷ rest) → AttributeList (before ++ rest)
list_without [] pair rest list = list.1
list_without (other ∷ before) pair rest list =
    let each = has_none_in_each other.name before (pair ∷ rest) list.0 in
    let later = (or_parts (is_named other.name pair) (has_name other.name rest) each.1).1 in
    (has_none_of_both other.name before rest each.0 later, list_without before pair rest list.1)

pub list_with : (before : List Pair) (pair new : Pair) (rest : List Pair) → AttributeList (before ++ pair ∷ rest) → pair.name ≡ new.name → AttributeList (before ++ new ∷ rest)
list_with [] pair new rest list e = (subst (λ (n : List ℕ). has_name n rest ≡ false) e list.0, list.1)
list_with (other ∷ before) pair new rest list e =
    let each = has_none_in_each other.name before (pair ∷ rest) list.0 in
    let later : has_name other.name (new ∷ rest) ≡ false = subst (λ (n : List ℕ). (bytes_eq n other.name || has_name other.name rest) ≡ false) e each.1 in
    (has_none_of_both other.name before (new ∷ rest) each.0 later, list_with before pair new rest list.1 e)

pub list_push : (pairs : List Pair) (new : Pair) → AttributeList pairs → has_name new.name pairs ≡ false → AttributeList (pairs ++ new ∷ [])
list_push [] new list h = (refl, tt)
list_push (pair ∷ pairs) new list h =
    let p = or_parts (is_named new.name pair) (has_name new.name pairs) h in
    let last : has_name pair.name (new ∷ []) ≡ false = or_from (is_named pair.name new) false (differs_back new pair p.0) refl in
    (has_none_of_both pair.name pairs (new ∷ []) list.0 last, list_push pairs new list.1 p.1)

lines_of_values : (bytes : List ℕ) → list_all is_text_byte bytes ≡ true → list_all is_line_byte bytes ≡ true
lines_of_values [] all = refl
lines_of_values (b ∷ bytes) all = grind (arith, nat_tests, lines_of_values bytes)

-- a value may stand in a text of lines
pub line_of_value : (bytes : List ℕ) → is_value bytes ≡ true → list_all is_line_byte bytes ≡ true
line_of_value bytes value = lines_of_values bytes (grind (arith, nat_tests, value))
