-- Attributes as the pool's lists: what a change of the pool does to them.
use Rattle.std.proofs.Common.{◌≡◌, ℕ, zero, suc, ◌+◌, ◌<◌, ◌≤◌, List, [], ◌∷◌, ◌++◌, length, get_or, set, map, replicate, refl, sym, ◌∙◌, ap, subst, inl, inr, arith, get_or-set_same, get_or-set_other}
use Rattle.std.proofs.Math.ListN.{get_or-map}
use Rattle.std.proofs.lemmas.List.{map-set, length-map}
use Rattle.std.proofs.lemmas.List.Sums.{sum_by-set}
use Rattle.std.proofs.lemmas.List.Folds.{sum_by-replicate}
use Rattle.std.proofs.lemmas.Bool.{cases_eq}
use Rattle.booth_chain.specs.Pool.{Pool, items_at}
use Rattle.booth_attr.specs.declared.pair.Pair.{Pair}
use Rattle.booth_attr.specs.declared.attrs.TheConstants.{ATTRIBUTES, TICKET_NAMES}
use Rattle.booth_attr.specs.Lists.{AttributeList}
use Rattle.booth_attr.specs.Attributes.{Attributes, pairs_of, AreSound, no_attributes}
use Rattle.booth_attr.specs.Places.{pairs_in, attributes_of}

abbrev Entries : Type 0
Entries = List (ℕ × Pair)

pub length-middle : {X : Type 0} (x : X) (xs ys : List X) → length (xs ++ x ∷ ys) ≡ length (xs ++ ys) + 1
length-middle x [] ys = omega arith
length-middle x (y ∷ xs) ys = omega (arith, length-middle x xs ys)

pub length-push : {X : Type 0} (x : X) (xs : List X) → length (xs ++ x ∷ []) ≡ length xs + 1
length-push x [] = omega arith
length-push x (y ∷ xs) = omega (arith, length-push x xs)

pub pairs_there : (pool : Pool Pair) (ticket : ℕ) → pairs_of (attributes_of pool) ticket ≡ pairs_in (items_at pool ticket)
pairs_there pool ticket = get_or-map pairs_in pool.lists ticket []

pub length-pairs_in : (entries : Entries) → length (pairs_in entries) ≡ length entries
length-pairs_in entries = length-map entries (λ entry. entry.1)

none_there : (tickets ticket : ℕ) → pairs_of (no_attributes tickets) ticket ≡ []
none_there zero ticket = refl
none_there (suc tickets) zero = refl
none_there (suc tickets) (suc ticket) = none_there tickets ticket

pub new_sound : (tickets : ℕ) → AreSound (no_attributes tickets)
new_sound tickets = record {
  distinct = λ ticket. subst (λ (ps : List Pair). AttributeList ps) (sym (none_there tickets ticket)) tt;
  few = λ ticket. subst (λ (ps : List Pair). length ps ≤ TICKET_NAMES) (sym (none_there tickets ticket)) (omega arith);
  whole = let none : List Pair = [] in omega (arith, sum_by-replicate length tickets none);
}

-- one ticket's list is another
pub sound_with : (all : Attributes) (ticket : ℕ) (pairs : List Pair) (spare : ℕ) → AreSound all → ticket < length all.lists → AttributeList pairs → length pairs ≤ TICKET_NAMES
    → length pairs + spare ≡ length (pairs_of all ticket) + all.spare
    → AreSound (record { lists = set all.lists ticket pairs; spare = spare })
sound_with all ticket pairs spare sound exists list few room = record {
  distinct = λ t. elim (cases_eq t ticket) [
    | inl e ↦ subst (λ (k : ℕ). AttributeList (get_or (set all.lists ticket pairs) k [])) (sym e) (subst (λ (ps : List Pair). AttributeList ps) (sym (get_or-set_same all.lists ticket pairs [] exists)) list)
    | inr ne ↦ subst (λ (ps : List Pair). AttributeList ps) (sym (get_or-set_other all.lists ticket t pairs [] ne)) (sound.distinct t)
  ];
  few = λ t. elim (cases_eq t ticket) [
    | inl e ↦ subst (λ (k : ℕ). length (get_or (set all.lists ticket pairs) k []) ≤ TICKET_NAMES) (sym e) (subst (λ (ps : List Pair). length ps ≤ TICKET_NAMES) (sym (get_or-set_same all.lists ticket pairs [] exists)) few)
    | inr ne ↦ subst (λ (ps : List Pair). length ps ≤ TICKET_NAMES) (sym (get_or-set_other all.lists ticket t pairs [] ne)) (sound.few t)
  ];
  whole = omega (arith, sound.whole, sum_by-set length all.lists ticket pairs [] exists, room);
}

pub same_attributes : (one other : Attributes) → one.lists ≡ other.lists → one.spare ≡ other.spare → one ≡ other
same_attributes one other lists spare =
    ap (λ (ls : List (List Pair)). record one { lists = ls }) lists ∙ ap (λ (n : ℕ). record other { spare = n }) spare

no_entries : (tickets : ℕ) → let none : Entries = [] in map pairs_in (replicate tickets none) ≡ replicate tickets []
no_entries zero = refl
no_entries (suc tickets) = ap (λ ls. [] ∷ ls) (no_entries tickets)

pub new_is : (pool : Pool Pair) (tickets : ℕ) → pool.lists ≡ replicate tickets [] → pool.spare ≡ ATTRIBUTES → attributes_of pool ≡ no_attributes tickets
new_is pool tickets lists spare =
    same_attributes (attributes_of pool) (no_attributes tickets) (ap (map pairs_in) lists ∙ no_entries tickets) spare

pub pool_sound : (pool : Pool Pair) (tickets : ℕ) → pool.lists ≡ replicate tickets [] → pool.spare ≡ ATTRIBUTES → AreSound (attributes_of pool)
pool_sound pool tickets lists spare = subst (λ (a : Attributes). AreSound a) (sym (new_is pool tickets lists spare)) (new_sound tickets)

-- one ticket's list in the pool is another
pub with_list : (pool new : Pool Pair) (ticket : ℕ) (entries : Entries) (pairs : List Pair) → new.lists ≡ set pool.lists ticket entries → pairs_in entries ≡ pairs
    → (attributes_of new).lists ≡ set (attributes_of pool).lists ticket pairs
with_list pool new ticket entries pairs lists is =
    ap (map pairs_in) lists ∙ map-set pairs_in pool.lists ticket entries ∙ ap (set (map pairs_in pool.lists) ticket) is

pub exists_there : (pool : Pool Pair) (ticket : ℕ) → ticket < length (attributes_of pool).lists → ticket < length pool.lists
exists_there pool ticket exists = omega (arith, exists, length-map pool.lists pairs_in)

pub exists_in : (pool : Pool Pair) (all : Attributes) (ticket : ℕ) → attributes_of pool ≡ all → ticket < length all.lists → ticket < length pool.lists
exists_in pool all ticket is exists = exists_there pool ticket (subst (λ (a : Attributes). ticket < length a.lists) (sym is) exists)

pub length_there : (pool : Pool Pair) (ticket : ℕ) → length (pairs_of (attributes_of pool) ticket) ≡ length (items_at pool ticket)
length_there pool ticket = ap length (pairs_there pool ticket) ∙ length-pairs_in (items_at pool ticket)
