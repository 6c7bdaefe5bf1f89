-- Parts by number, and when they are a whole list.
use Rattle.std.specs.Prelude.{IfSome, option_map}
use Rattle.std.specs.List.{concat}
use Rattle.std.specs.Option.{option_map_or, option_or}
use Rattle.std.proofs.Common.{◌≡◌, ◌<◌, ◌≤◌, ◌+◌, ◌++◌, ◌||◌, ℕ, zero, suc, Bool, true, false, cond, List, [], ◌∷◌, length, drop, get_or, Option, Some, None, inl, inr, refl, sym, ap, ◌∙◌, subst, arith, append_assoc, append-nil, true≢false}
use Rattle.std.proofs.lemmas.Bool.{cases_lt}
use Rattle.std.proofs.lemmas.List.{drop_all, drop_more, ext_get_or}
use Rattle.booth_talk.specs.declared.order.Asking.{Asking}
use Rattle.booth_talk.specs.Parts.{AreNone, AreTaken, BringList, IsWhole, ListsAreOne, Part, first_part, is_whole, part_at, text_of}
use Rattle.booth_talk.specs.Waiting.{Pair}

-- ---- one list

is_last : Option Part → Bool
is_last o = option_map_or (λ (p : Part). p.last) o false

abbrev text_at : Option Part → List ℕ
text_at o = option_map_or (λ (p : Part). p.text) o []

-- no part is the last and is not
not_both : (o : Option Part) (t u : List ℕ) → o ≡ Some (record { last = false; text = t }) → o ≡ Some (record { last = true; text = u }) → ⊥
unfolding is_last
not_both o t u inner end = true≢false (sym (ap is_last end) ∙ ap is_last inner)

module _ (part : ℕ → Option Part) where
  one_last : (xs ys : List (List ℕ)) (a : IsWhole part xs) (b : IsWhole part ys) → a.last ≡ b.last
  one_last xs ys a b = elim (cases_lt a.last b.last) [
    | inl lt ↦ absurd (not_both (part a.last) _ _ (b.inner a.last lt) a.end)
    | inr le ↦ elim (cases_lt b.last a.last) [
      | inl lt ↦ absurd (not_both (part b.last) _ _ (a.inner b.last lt) b.end)
      | inr ge ↦ omega (arith, le, ge)
    ]
  ]

  -- the texts of a whole list are those of its parts
  text_is : (xs : List (List ℕ)) (a : IsWhole part xs) (n : ℕ) → n < length xs → get_or xs n [] ≡ text_at (part n)
  text_is xs a n lt = elim (cases_lt n a.last) [
    | inl below ↦ sym (ap text_at (a.inner n below))
    | inr le ↦
        let there : a.last ≡ n = omega (arith, le, lt, a.number) in
        subst (λ (k : ℕ). get_or xs k [] ≡ text_at (part k)) there (sym (ap text_at a.end))
  ]

  pub one_whole : (xs ys : List (List ℕ)) → IsWhole part xs → IsWhole part ys → xs ≡ ys
  one_whole xs ys a b =
      let same = one_last xs ys a b in
      let long : length xs ≡ length ys = omega (arith, a.number, b.number, same) in
      ext_get_or [] xs ys long
      (λ n lt. text_is xs a n lt ∙ sym (text_is ys b n (omega (arith, lt, long))))

-- parts that are there for others too
pub whole_there : (part other : ℕ → Option Part) (texts : List (List ℕ)) → ((n : ℕ) (p : Part) → part n ≡ Some p → other n ≡ Some p) →
    IsWhole part texts → IsWhole other texts
whole_there part other texts there w = record {
  last = w.last;
  number = w.number;
  inner = λ n lt. there n _ (w.inner n lt);
  end = there w.last _ w.end;
}

-- ---- more pairs

or_assoc : {X : Type 0} (a b c : Option X) → option_or a (option_or b c) ≡ option_or (option_or a b) c
or_assoc None b c = refl
or_assoc (Some x) b c = refl

or_none : {X : Type 0} (a : Option X) → option_or a None ≡ a
or_none None = refl
or_none (Some x) = refl

module _ (asking : Asking) (start : ℕ) where
  pub first-append : (pairs more : List Pair) (n : ℕ) →
      first_part asking start (pairs ++ more) n ≡ option_or (first_part asking start pairs n) (first_part asking start more n)
  unfolding first_part
  first-append [] more n = refl
  first-append (p ∷ ps) more n =
      ap (option_or (part_at asking start n p)) (first-append ps more n)
      ∙ or_assoc (part_at asking start n p) (first_part asking start ps n) (first_part asking start more n)

  one_pair_first : (p : Pair) (n : ℕ) → first_part asking start (p ∷ []) n ≡ part_at asking start n p
  unfolding first_part
  one_pair_first p n = or_none (part_at asking start n p)

  pub first-push : (pairs : List Pair) (p : Pair) (n : ℕ) →
      first_part asking start (pairs ++ p ∷ []) n ≡ option_or (first_part asking start pairs n) (part_at asking start n p)
  first-push pairs p n =
      first-append pairs (p ∷ []) n ∙ ap (option_or (first_part asking start pairs n)) (one_pair_first p n)

  pub no_part : (n : ℕ) → first_part asking start [] n ≡ None
  unfolding first_part
  no_part n = refl

or_some : (a b : Option Part) (p : Part) → a ≡ Some p → option_or a b ≡ Some p
or_some None b p h = absurd cc
or_some (Some q) b p h = h

stays : (asking : Asking) (start : ℕ) (pairs more : List Pair) (text : List ℕ) → BringList asking start pairs text →
    BringList asking start (pairs ++ more) text
stays asking start pairs more text is = record {
  texts = is.texts;
  whole = whole_there (first_part asking start pairs) (first_part asking start (pairs ++ more)) is.texts
      (λ n p h. first-append asking start pairs more n ∙ or_some (first_part asking start pairs n) (first_part asking start more n) p h) is.whole;
  joined = is.joined;
}

one : (asking : Asking) (start : ℕ) (pairs : List Pair) (text other : List ℕ) → BringList asking start pairs text →
    BringList asking start pairs other → text ≡ other
one asking start pairs text other a b =
    a.joined ∙ ap concat (one_whole (first_part asking start pairs) a.texts b.texts a.whole b.whole) ∙ sym b.joined

pub lists_are_one : ListsAreOne
lists_are_one = record { one = one; stays = stays }

-- ---- the parts that are kept

-- of each number this part is kept
abbrev pub AreKept : (ℕ → Option Part) → List (Option Part) → Type 0
AreKept part kept = (n : ℕ) → get_or kept n None ≡ part n

none_some : (o : Option Part) (p : Part) → None ≡ o → o ≡ Some p → ⊥
none_some o p none some = let bad = none ∙ some in absurd cc

ends_there : (last rest : Bool) → last || rest ≡ false → (last ≡ false) × (rest ≡ false)
ends_there true rest h = absurd cc
ends_there false rest h = (refl, h)

-- the part at number 0
abbrev part_with : Bool → List ℕ → Option Part
part_with last text = Some (record { last = last; text = text })

-- the parts before the last one, of which this is the first
inner_part : (part : ℕ → Option Part) (text : List ℕ) (texts : List (List ℕ)) (w : IsWhole (λ n. part (suc n)) texts) → part 0 ≡ part_with false text →
    (n : ℕ) → n < suc w.last → part n ≡ part_with false (get_or (text ∷ texts) n [])
inner_part part text texts w first zero lt = first
inner_part part text texts w first (suc n) lt = w.inner n (omega (arith, lt))

pub whole_of : (kept : List (Option Part)) (part : ℕ → Option Part) → AreKept part kept → is_whole kept ≡ true →
    (texts : List (List ℕ)) × IsWhole part texts × (text_of kept ≡ concat texts)
unfolding is_whole text_of
whole_of [] part are h = absurd cc
whole_of (None ∷ kept) part are h = absurd cc
whole_of (Some p ∷ kept) part are h =
    go p.last refl h (λ whole. whole_of kept (λ n. part (suc n)) (λ n. are (suc n)) whole)
  where
    go : (last : Bool) → p.last ≡ last → (last || is_whole kept) ≡ true →
        (is_whole kept ≡ true → (texts : List (List ℕ)) × IsWhole (λ n. part (suc n)) texts × (text_of kept ≡ concat texts)) →
        (texts : List (List ℕ)) × IsWhole part texts × (p.text ++ cond p.last [] (text_of kept) ≡ concat texts)
    go true is whole later = (
      p.text ∷ [],
      record {
        last = 0;
        number = refl;
        inner = λ n lt. absurd (omega (arith, lt));
        end = sym (are 0) ∙ ap (λ b. part_with b p.text) is;
      },
      ap (λ b. p.text ++ cond b [] (text_of kept)) is,
    )
    go false is whole later =
        let rest = later whole in (
          p.text ∷ rest.0,
          record {
            last = suc rest.1.last;
            number = omega (arith, rest.1.number);
            inner = inner_part part p.text rest.0 rest.1 (sym (are 0) ∙ ap (λ b. part_with b p.text) is);
            end = rest.1.end;
          },
          ap (λ b. p.text ++ cond b [] (text_of kept)) is ∙ ap (λ t. p.text ++ t) rest.2,
        )

not_whole_at : (kept : List (Option Part)) (part : ℕ → Option Part) → AreKept part kept → is_whole kept ≡ false →
    (last : ℕ) (text : ℕ → List ℕ) → ((n : ℕ) → n < last → part n ≡ part_with false (text n)) → part last ≡ part_with true (text last) → ⊥
unfolding is_whole
not_whole_at [] part are h last text inner end = none_some (part last) _ (are last) end
not_whole_at (None ∷ kept) part are h zero text inner end = none_some (part 0) _ (are 0) end
not_whole_at (None ∷ kept) part are h (suc last) text inner end = none_some (part 0) _ (are 0) (inner 0 (omega arith))
not_whole_at (Some p ∷ kept) part are h zero text inner end =
    let is = (ends_there p.last (is_whole kept) h).0 in
    not_both (part 0) p.text (text 0) (sym (are 0) ∙ ap (λ b. part_with b p.text) is) end
not_whole_at (Some p ∷ kept) part are h (suc last) text inner end =
    not_whole_at kept (λ n. part (suc n)) (λ n. are (suc n)) (ends_there p.last (is_whole kept) h).1 last (λ n. text (suc n))
    (λ n lt. inner (suc n) (omega (arith, lt))) end

pub not_whole : (kept : List (Option Part)) (part : ℕ → Option Part) → AreKept part kept → is_whole kept ≡ false →
    (texts : List (List ℕ)) → IsWhole part texts → ⊥
not_whole kept part are h texts w = not_whole_at kept part are h w.last (λ n. get_or texts n []) w.inner w.end

-- behind one more pair
pub taken_first : (asking : Asking) (start : ℕ) (pairs : List Pair) (p : Pair) (old new : List (Option Part)) → AreKept (first_part asking start pairs) old →
    AreTaken (λ n. part_at asking start n p) old new → AreKept (first_part asking start (pairs ++ p ∷ [])) new
taken_first asking start pairs p old new are taken n =
    taken.each n ∙ ap (λ o. option_or o (part_at asking start n p)) (are n) ∙ sym (first-push asking start pairs p n)

pub none_first : (asking : Asking) (start : ℕ) (kept : List (Option Part)) → AreNone kept → AreKept (first_part asking start []) kept
none_first asking start kept none n = none n ∙ sym (no_part asking start n)

pub none_whole : (asking : Asking) (start : ℕ) (texts : List (List ℕ)) → IsWhole (first_part asking start []) texts → ⊥
none_whole asking start texts w = none_some _ _ (sym (no_part asking start w.last)) w.end

-- ---- part by part

abbrev last_of : Option Part → Option Bool
last_of x = option_map (λ (p : Part). p.last) x

left : (kept : List (Option Part)) (i : ℕ) (x : Option Part) → i < length kept → x ≡ get_or kept i x → drop i kept ≡ x ∷ drop (i + 1) kept
left kept i x lt is = drop_more kept i x lt ∙ ap (λ y. y ∷ drop (i + 1) kept) (sym is)

some_same : (a b : Bool) → Some a ≡ Some b → a ≡ b
some_same a b h = cc

whole_by : (x : Option Part) (rest : List (Option Part)) (last : Bool) → last_of x ≡ Some last → is_whole (x ∷ rest) ≡ last || is_whole rest
unfolding is_whole
whole_by None rest last h = absurd cc
whole_by (Some p) rest last h = ap (λ b. b || is_whole rest) (some_same p.last last h)

whole_without : (x : Option Part) (rest : List (Option Part)) → last_of x ≡ None → is_whole (x ∷ rest) ≡ false
unfolding is_whole
whole_without None rest h = refl
whole_without (Some p) rest h = absurd cc

pub whole_on : (kept : List (Option Part)) (i : ℕ) (x : Option Part) (last : Bool) → i < length kept → x ≡ get_or kept i x →
    is_whole kept ≡ is_whole (drop i kept) → last_of x ≡ Some last → is_whole kept ≡ last || is_whole (drop (i + 1) kept)
whole_on kept i x last lt is so_far here = so_far ∙ ap is_whole (left kept i x lt is) ∙ whole_by x (drop (i + 1) kept) last here

pub whole_missing : (kept : List (Option Part)) (i : ℕ) (x : Option Part) → i < length kept → x ≡ get_or kept i x →
    is_whole kept ≡ is_whole (drop i kept) → last_of x ≡ None → is_whole kept ≡ false
whole_missing kept i x lt is so_far here = so_far ∙ ap is_whole (left kept i x lt is) ∙ whole_without x (drop (i + 1) kept) here

pub whole_end : (kept : List (Option Part)) (i : ℕ) → length kept ≤ i → is_whole kept ≡ is_whole (drop i kept) → is_whole kept ≡ false
unfolding is_whole
whole_end kept i le so_far = so_far ∙ ap is_whole (drop_all i kept le)

text_by : (x : Option Part) (rest : List (Option Part)) (last : Bool) (piece : List ℕ) → last_of x ≡ Some last → IfSome x (λ p. piece ≡ p.text) →
    text_of (x ∷ rest) ≡ piece ++ cond last [] (text_of rest)
unfolding text_of
text_by None rest last piece h is = absurd cc
text_by (Some p) rest last piece h is =
    ap (λ t. t ++ cond p.last [] (text_of rest)) (sym is) ∙ ap (λ b. piece ++ cond b [] (text_of rest)) (some_same p.last last h)

text_without : (x : Option Part) (rest : List (Option Part)) → last_of x ≡ None → text_of (x ∷ rest) ≡ []
unfolding text_of
text_without None rest h = refl
text_without (Some p) rest h = absurd cc

pub text_on : (kept : List (Option Part)) (i : ℕ) (x : Option Part) (last : Bool) (text more piece : List ℕ) → i < length kept → x ≡ get_or kept i x →
    text_of kept ≡ text ++ text_of (drop i kept) → last_of x ≡ Some last → IfSome x (λ p. piece ≡ p.text) → more ≡ text ++ piece →
    text_of kept ≡ more ++ cond last [] (text_of (drop (i + 1) kept))
text_on kept i x last text more piece lt is so_far here piece_is put =
    so_far ∙ ap (λ t. text ++ t) (ap text_of (left kept i x lt is) ∙ text_by x (drop (i + 1) kept) last piece here piece_is)
    ∙ sym (append_assoc text piece (cond last [] (text_of (drop (i + 1) kept))))
    ∙ ap (λ t. t ++ cond last [] (text_of (drop (i + 1) kept))) (sym put)

pub text_missing : (kept : List (Option Part)) (i : ℕ) (x : Option Part) (text : List ℕ) → i < length kept → x ≡ get_or kept i x →
    text_of kept ≡ text ++ text_of (drop i kept) → last_of x ≡ None → text_of kept ≡ text
text_missing kept i x text lt is so_far here =
    so_far ∙ ap (λ t. text ++ t) (ap text_of (left kept i x lt is) ∙ text_without x (drop (i + 1) kept) here) ∙ append-nil text

pub text_end : (kept : List (Option Part)) (i : ℕ) (text : List ℕ) → length kept ≤ i → text_of kept ≡ text ++ text_of (drop i kept) → text_of kept ≡ text
unfolding text_of
text_end kept i text le so_far = so_far ∙ ap (λ t. text ++ text_of t) (drop_all i kept le) ∙ append-nil text
