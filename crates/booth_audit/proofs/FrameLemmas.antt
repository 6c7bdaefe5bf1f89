-- What is in a list, and in a set of frames.
use Rattle.std.specs.Prelude.{◌↔◌, ◌⊎◌, ◌||◌, ◌<◌, Bool, true, false, not, map, length, slice_index_or, bytes_eq, IsTrue}
use Rattle.std.specs.Bool.{MatchBool}
use Rattle.std.specs.List.{Contains, list_any}
use Rattle.std.specs.List.Sorted.{IsPermutation}
use Rattle.std.proofs.Common.{◌≡◌, inl, inr, ℕ, zero, suc, List, [], ◌∷◌, ◌++◌, refl, sym, ◌∙◌, subst, arith}
use Rattle.std.proofs.lemmas.List.Sorted.{Contains-permutation, IsPermutation-map, IsPermutation-sym}
use Rattle.std.proofs.lemmas.Slice.Eq.{bytes_eq-Decides}
use Rattle.booth_node.specs.Records.{Has}
use Rattle.booth_audit.specs.Sends.{HasOneMore}

-- ---- lists

pub has_left : {A : Type 0} (xs ys : List A) (x : A) → Has xs x → Has (xs ++ ys) x
has_left [] ys x has = absurd has
has_left (first ∷ xs) ys x (inl is) = inl is
has_left (first ∷ xs) ys x (inr has) = inr (has_left xs ys x has)

pub has_right : {A : Type 0} (xs ys : List A) (x : A) → Has ys x → Has (xs ++ ys) x
has_right [] ys x has = has
has_right (first ∷ xs) ys x has = inr (has_right xs ys x has)

pub has_either : {A : Type 0} (xs ys : List A) (x : A) → Has (xs ++ ys) x → Has xs x ⊎ Has ys x
has_either [] ys x has = inr has
has_either (first ∷ xs) ys x (inl is) = inl (inl is)
has_either (first ∷ xs) ys x (inr has) =
    elim (has_either xs ys x has) [
      | inl some ↦ inl (inr some)
      | inr other ↦ inr other
    ]

has_of : {A : Type 0} (xs : List A) (x : A) (k : ℕ) → k < length xs → slice_index_or xs k x ≡ x → Has xs x
has_of [] x k below is = let none : k < 0 = below in omega (arith, none)
has_of (first ∷ xs) x zero below is = inl is
has_of (first ∷ xs) x (suc k) below is = inr (has_of xs x k (omega (arith, below)) is)

contains_of : {A : Type 0} (xs : List A) (x : A) → Has xs x → Contains xs x
contains_of [] x has = absurd has
contains_of (first ∷ xs) x (inl is) = (0, omega arith, is)
contains_of (first ∷ xs) x (inr has) =
    let there = contains_of xs x has in (suc there.0, omega (arith, there.1), there.2)

has_permuted : {A : Type 0} (xs ys : List A) (x : A) → IsPermutation xs ys → Has xs x → Has ys x
has_permuted xs ys x moved has =
    let there = Contains-permutation xs ys x moved (contains_of xs x has) in has_of ys x there.0 there.1 there.2

-- ---- keys of a set

abbrev is_same : {K : Type 0} → (K → List ℕ) → List ℕ → K → Bool
is_same items frame key = bytes_eq frame (items key)

found_by : {K : Type 0} (items : K → List ℕ) (key : K) (keys : List K) (frame : List ℕ) (b rest : Bool)
    → is_same items frame key ≡ b → (b || rest) ≡ true → (rest ≡ true → Has (map items keys) frame)
    → Has (map items (key ∷ keys)) frame
found_by items key keys frame true rest is found later = inl (sym ((bytes_eq-Decides frame (items key)).0 is))
found_by items key keys frame false rest is found later = inr (later found)

found_has : {K : Type 0} (items : K → List ℕ) (keys : List K) (frame : List ℕ)
    → list_any (is_same items frame) keys ≡ true → Has (map items keys) frame
found_has items [] frame found = absurd cc
found_has items (key ∷ keys) frame found =
    found_by items key keys frame (is_same items frame key) (list_any (is_same items frame) keys) refl found
    (found_has items keys frame)

or_true : (b : Bool) → (b || true) ≡ true
or_true true = refl
or_true false = refl

has_found : {K : Type 0} (items : K → List ℕ) (keys : List K) (frame : List ℕ) → Has (map items keys) frame
    → list_any (is_same items frame) keys ≡ true
has_found items [] frame has = absurd has
has_found items (key ∷ keys) frame (inl is) =
    subst (λ (b : Bool). (b || list_any (is_same items frame) keys) ≡ true)
    (sym ((bytes_eq-Decides frame (items key)).1 (sym is))) refl
has_found items (key ∷ keys) frame (inr has) =
    subst (λ (b : Bool). (is_same items frame key || b) ≡ true) (sym (has_found items keys frame has))
    (or_true (is_same items frame key))

-- whether a set has a frame
pub found_so : {K : Type 0} (keys : List K) (items : K → List ℕ) (frame : List ℕ) (result : Bool)
    → result ≡ list_any (is_same items frame) keys → IsTrue result ↔ Has (map items keys) frame
found_so keys items frame result is =
    (λ yes. found_has items keys frame (sym is ∙ yes), λ has. is ∙ has_found items keys frame has)

not_absent : (b : Bool) → false ≡ not b → b ≡ true
not_absent true is = refl
not_absent false is = absurd cc

-- the keys after one was put in, which may have been there
pub put_so : {K : Type 0} (old new : List K) (items : K → List ℕ) (key : K) (added : Bool)
    → MatchBool added (IsPermutation (key ∷ old) new) (new ≡ old)
    → added ≡ not (list_any (is_same items (items key)) old)
    → HasOneMore (map items old) (items key) (map items new)
put_so old new items key true puts is frame = (
  λ has. elim (has_permuted (map items new) (map items (key ∷ old)) frame
      (IsPermutation-sym (map items (key ∷ old)) (map items new) (IsPermutation-map items (key ∷ old) new puts)) has) [
        | inl one ↦ inr one
        | inr there ↦ inl there
      ],
  λ either. has_permuted (map items (key ∷ old)) (map items new) frame (IsPermutation-map items (key ∷ old) new puts)
      (elim either [
        | inl there ↦ inr there
        | inr one ↦ inl one
      ]),
)
put_so old new items key false puts is frame = (
  λ has. inl (subst (λ (keys : List _). Has (map items keys) frame) puts has),
  λ either. subst (λ (keys : List _). Has (map items keys) frame) (sym puts)
      (elim either [
        | inl there ↦ there
        | inr one ↦
            subst (Has (map items old)) one
            (found_has items old (items key) (not_absent (list_any (is_same items (items key)) old) is))
      ]),
)
