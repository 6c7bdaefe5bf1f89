-- Records that may be kept, and the first of a start's records that it may not read.
use Rattle.std.specs.Prelude.{slice_set, Bool, true, false, Option, None, Some, length, nat_lt, not, position, reverse, slice_get, ◌==◌, ◌&&◌, ◌||◌, if◌then◌else◌}
use Rattle.std.specs.List.{list_any, position_or_len, zip}
use Rattle.std.specs.Option.{option_eq}
use Rattle.std.proofs.Common.{◌≡◌, ◌<◌, ◌≤◌, inl, inr, ℕ, zero, suc, List, [], ◌∷◌, ◌++◌, refl, sym, ◌∙◌, ap, arith, get_or, subst}
use Rattle.std.proofs.lemmas.Bool.{and_parts, eqb-true, eq-eqb, le-leb, leb-true}
use Rattle.std.proofs.lemmas.Bool.Decides.{nat_tests}
use Rattle.std.proofs.lemmas.List.{reverse-append}
use Rattle.std.proofs.lemmas.List.Folds.{list_any-append}
use Rattle.std.proofs.lemmas.List.Quantifiers.{position-Some}
use Rattle.std.proofs.lemmas.List.Sorted.{IsPermutation-reverse, list_any-IsPermutation}
use Rattle.std.proofs.lemmas.List.Sums.{fails_before_first}
use Rattle.booth_base.specs.contracts.address.MemberIdPartialEq.TheImpl as ids
use Rattle.booth_base.specs.declared.address.MemberId.{MemberId}
use Rattle.booth_rec.specs.contracts.record.LeasePartialEq.TheImpl as leases
use Rattle.booth_rec.specs.contracts.record.PromisePartialEq.TheImpl as promises
use Rattle.booth_rec.specs.contracts.record.RecordPartialEq.TheImpl as equality
use Rattle.booth_rec.specs.declared.record.Lease.{Lease}
use Rattle.booth_rec.specs.declared.record.Promise.{Promise}
use Rattle.booth_rec.specs.declared.record.Record.{Record}
use Rattle.booth_rec.specs.Record.{first_plain, record_or_none}
use Rattle.booth_audit.specs.Kept.{change_at}
use Rattle.booth_node.specs.Records.{Has, IsSilent, MayRead, record_at}
use Rattle.booth_audit.specs.Silent.{is_among}
use Rattle.booth_audit.specs.Watched.{first_wrong, is_silent, is_up_to, is_wrong, may_read}

-- ---- the list of the code

-- a record that was tried is the latest
pub with_tried : (tried : List Record) (kept last : Record)
    → reverse (tried ++ last ∷ []) ++ kept ∷ [] ≡ last ∷ (reverse tried ++ kept ∷ [])
with_tried tried kept last = ap (λ (l : List Record). l ++ kept ∷ []) (reverse-append tried (last ∷ []))

or_false : (b : Bool) → (b || false) ≡ b
or_false true = refl
or_false false = refl

module _ (one : Record) where
  abbrev is_one : Record → Bool
  is_one other = equality.eq-value.it other one

  pub among_both : (tried : List Record) (kept : Record)
      → is_among (reverse tried ++ kept ∷ []) one ≡ (list_any is_one tried || is_one kept)
  among_both tried kept =
      list_any-append is_one (reverse tried) (kept ∷ [])
      ∙ ap (λ (b : Bool). list_any is_one (reverse tried) || b) (or_false (is_one kept))
      ∙ ap (λ (b : Bool). b || is_one kept)
      (sym (list_any-IsPermutation is_one tried (reverse tried) (IsPermutation-reverse tried)))

-- one of them has this term or an earlier one
pub reached_both : (term : ℕ) (tried : List Record) (kept : Record)
    → list_any (is_up_to term) (reverse tried ++ kept ∷ []) ≡ (list_any (is_up_to term) tried || is_up_to term kept)
reached_both term tried kept =
    list_any-append (is_up_to term) (reverse tried) (kept ∷ [])
    ∙ ap (λ (b : Bool). list_any (is_up_to term) (reverse tried) || b) (or_false (is_up_to term kept))
    ∙ ap (λ (b : Bool). b || is_up_to term kept)
    (sym (list_any-IsPermutation (is_up_to term) tried (reverse tried) (IsPermutation-reverse tried)))

-- the ticket at a place is changed alone
pub changed_there : (all : List (List Record)) (place : ℕ) (change : List Record → List Record)
    (may after : List Record) → place < length all → may ≡ get_or all place may → after ≡ change may
    → slice_set all place after ≡ change_at place change all
changed_there [] place change may after below is then_is = absurd (omega (arith, below))
changed_there (first ∷ all) zero change may after below is then_is =
    ap (λ (m : List Record). m ∷ all) (then_is ∙ ap change is)
changed_there (first ∷ all) (suc place) change may after below is then_is =
    ap (λ (l : List (List Record)). first ∷ l)
    (changed_there all place change may after (omega (arith, below)) is then_is)

-- behind the last place no ticket is
pub changed_past : (all : List (List Record)) (place : ℕ) (change : List Record → List Record) → length all ≤ place
    → all ≡ change_at place change all
changed_past [] place change past = refl
changed_past (first ∷ all) zero change past = absurd (omega (arith, past))
changed_past (first ∷ all) (suc place) change past =
    ap (λ (l : List (List Record)). first ∷ l) (changed_past all place change (omega (arith, past)))

-- ---- records that are equal

same_options : {X : Type 0} (E : X → X → Bool) → ((x y : X) → E x y ≡ true → x ≡ y) → (a b : Option X)
    → option_eq E a b ≡ true → a ≡ b
same_options E each None None same = refl
same_options E each None (Some y) same = absurd cc
same_options E each (Some x) None same = absurd cc
same_options E each (Some x) (Some y) same = ap Some (each x y same)

option_itself : {X : Type 0} (E : X → X → Bool) → ((x : X) → E x x ≡ true) → (a : Option X) → option_eq E a a ≡ true
option_itself E each None = refl
option_itself E each (Some x) = each x

both : {a b : Bool} → a ≡ true → b ≡ true → (a && b) ≡ true
both {a} {b} first second = rw (first, second) refl

same_ids : (a b : MemberId) → ids.eq-value.it a b ≡ true → a ≡ b
same_ids a b same = ap (λ (n : ℕ). record { 0 = n }) (eqb-true a.0 b.0 same)

id_itself : (a : MemberId) → ids.eq-value.it a a ≡ true
id_itself a = eq-eqb a.0 a.0 refl

abbrev lease_of : ℕ → ℕ → Lease
lease_of term until = record { term = term; until = until }

same_leases : (a b : Lease) → leases.eq-value.it a b ≡ true → a ≡ b
same_leases a b same =
    let each = and_parts (a.term == b.term) (a.until == b.until) same in
    ap (λ (n : ℕ). lease_of n a.until) (eqb-true a.term b.term each.0)
    ∙ ap (lease_of b.term) (eqb-true a.until b.until each.1)

lease_itself : (a : Lease) → leases.eq-value.it a a ≡ true
lease_itself a = both (eq-eqb a.term a.term refl) (eq-eqb a.until a.until refl)

abbrev promise_of : MemberId → ℕ → ℕ → Promise
promise_of to term until = record { to = to; term = term; until = until }

same_promises : (a b : Promise) → promises.eq-value.it a b ≡ true → a ≡ b
same_promises a b same =
    let to = and_parts (ids.eq-value.it a.to b.to) ((a.term == b.term) && (a.until == b.until)) same in
    let others = and_parts (a.term == b.term) (a.until == b.until) to.1 in
    ap (λ (m : MemberId). promise_of m a.term a.until) (same_ids a.to b.to to.0)
    ∙ ap (λ (n : ℕ). promise_of b.to n a.until) (eqb-true a.term b.term others.0)
    ∙ ap (promise_of b.to b.term) (eqb-true a.until b.until others.1)

promise_itself : (a : Promise) → promises.eq-value.it a a ≡ true
promise_itself a = both (id_itself a.to) (both (eq-eqb a.term a.term refl) (eq-eqb a.until a.until refl))

abbrev record_of : ℕ → ℕ → Option Lease → Option MemberId → Option Promise → ℕ → Record
record_of version term lease bound promise abstain =
    record { version = version; term = term; lease = lease; bound = bound; promise = promise; abstain = abstain }

abbrev behind_lease : Record → Record → Bool
behind_lease a b =
    option_eq ids.eq-value.it a.bound b.bound
    && (option_eq promises.eq-value.it a.promise b.promise && (a.abstain == b.abstain))

pub same_records : (a b : Record) → equality.eq-value.it a b ≡ true → a ≡ b
same_records a b same =
    let version =
    and_parts (a.version == b.version)
    ((a.term == b.term) && (option_eq leases.eq-value.it a.lease b.lease && behind_lease a b)) same in
    let term =
    and_parts (a.term == b.term) (option_eq leases.eq-value.it a.lease b.lease && behind_lease a b) version.1 in
    let lease = and_parts (option_eq leases.eq-value.it a.lease b.lease) (behind_lease a b) term.1 in
    let bound =
    and_parts (option_eq ids.eq-value.it a.bound b.bound)
    (option_eq promises.eq-value.it a.promise b.promise && (a.abstain == b.abstain)) lease.1 in
    let promise = and_parts (option_eq promises.eq-value.it a.promise b.promise) (a.abstain == b.abstain) bound.1 in
    ap (λ (n : ℕ). record_of n a.term a.lease a.bound a.promise a.abstain) (eqb-true a.version b.version version.0)
    ∙ ap (λ (n : ℕ). record_of b.version n a.lease a.bound a.promise a.abstain) (eqb-true a.term b.term term.0)
    ∙ ap (λ (o : Option Lease). record_of b.version b.term o a.bound a.promise a.abstain)
    (same_options leases.eq-value.it same_leases a.lease b.lease lease.0)
    ∙ ap (λ (o : Option MemberId). record_of b.version b.term b.lease o a.promise a.abstain)
    (same_options ids.eq-value.it same_ids a.bound b.bound bound.0)
    ∙ ap (λ (o : Option Promise). record_of b.version b.term b.lease b.bound o a.abstain)
    (same_options promises.eq-value.it same_promises a.promise b.promise promise.0)
    ∙ ap (record_of b.version b.term b.lease b.bound b.promise) (eqb-true a.abstain b.abstain promise.1)

pub record_itself : (a : Record) → equality.eq-value.it a a ≡ true
record_itself a =
    both (eq-eqb a.version a.version refl)
    (both (eq-eqb a.term a.term refl)
    (both (option_itself leases.eq-value.it lease_itself a.lease)
    (both (option_itself ids.eq-value.it id_itself a.bound)
    (both (option_itself promises.eq-value.it promise_itself a.promise) (eq-eqb a.abstain a.abstain refl)))))

-- ---- records that may be kept

pub has_among : (may : List Record) (kept : Record) → is_among may kept ≡ true → Has may kept
has_among [] kept among = absurd cc
has_among (other ∷ may) kept among = by_test (equality.eq-value.it other kept) refl among (has_among may kept)
  where
    by_test : (b : Bool) → equality.eq-value.it other kept ≡ b → (b || is_among may kept) ≡ true
        → (is_among may kept ≡ true → Has may kept) → Has (other ∷ may) kept
    by_test true is any later = inl (same_records other kept is)
    by_test false is any later = inr (later any)

or_left : (a b : Bool) → a ≡ true → (a || b) ≡ true
or_left a b is = rw is refl

or_right : (a b : Bool) → b ≡ true → (a || b) ≡ true
or_right true b is = refl
or_right false b is = is

pub among_has : (may : List Record) (kept : Record) → Has may kept → is_among may kept ≡ true
among_has [] kept has = absurd has
among_has (other ∷ may) kept (inl same) =
    or_left (equality.eq-value.it other kept) (is_among may kept)
    (subst (λ (r : Record). equality.eq-value.it other r ≡ true) same (record_itself other))
among_has (other ∷ may) kept (inr has) =
    or_right (equality.eq-value.it other kept) (is_among may kept) (among_has may kept has)

-- ---- records that are silent

up_to_one : (may : List Record) (term : ℕ) → list_any (is_up_to term) may ≡ true
    → (k : Record) × Has may k × (k.term ≤ term)
up_to_one [] term any = absurd cc
up_to_one (one ∷ may) term any = by_test (is_up_to term one) refl any (up_to_one may term)
  where
    by_test : (b : Bool) → is_up_to term one ≡ b → (b || list_any (is_up_to term) may) ≡ true
        → (list_any (is_up_to term) may ≡ true → (k : Record) × Has may k × (k.term ≤ term))
        → (k : Record) × Has (one ∷ may) k × (k.term ≤ term)
    by_test true is any later = (one, inl refl, leb-true one.term term is)
    by_test false is any later = let there = later any in (there.0, inr there.1, there.2)

one_up_to : (may : List Record) (term : ℕ) (k : Record) → Has may k → k.term ≤ term
    → list_any (is_up_to term) may ≡ true
one_up_to [] term k has within = absurd has
one_up_to (one ∷ may) term k (inl same) within =
    or_left (is_up_to term one) (list_any (is_up_to term) may)
    (subst (λ (r : Record). is_up_to term r ≡ true) (sym same) (le-leb k.term term within))
one_up_to (one ∷ may) term k (inr has) within =
    or_right (is_up_to term one) (list_any (is_up_to term) may) (one_up_to may term k has within)

reaching : (site : Bool) (may : List Record) (term : ℕ) → (not site || list_any (is_up_to term) may) ≡ true
    → site ≡ true → (k : Record) × Has may k × (k.term ≤ term)
reaching true may term any is = up_to_one may term any
reaching false may term any is = absurd cc

reached : (site : Bool) (may : List Record) (term : ℕ) → (site ≡ true → (k : Record) × Has may k × (k.term ≤ term))
    → (not site || list_any (is_up_to term) may) ≡ true
reached true may term reaches = let k = reaches refl in one_up_to may term k.0 k.1 k.2
reached false may term reaches = refl

silent_is : (site : Bool) (may : List Record) (kept : Record) → is_silent site may kept ≡ true → IsSilent site may kept
silent_is site may kept is =
    let parts = and_parts (equality.eq-value.it kept (first_plain kept.term None))
    (not site || list_any (is_up_to kept.term) may) is in
    record {
      bare = same_records kept (first_plain kept.term None) parts.0;
      reaches = reaching site may kept.term parts.1;
    }

is_so_silent : (site : Bool) (may : List Record) (kept : Record) → IsSilent site may kept → is_silent site may kept ≡ true
is_so_silent site may kept silent =
    both (subst (λ (r : Record). equality.eq-value.it kept r ≡ true) silent.bare (record_itself kept))
    (reached site may kept.term silent.reaches)

-- ---- records that may be read

read_is : (site : Bool) (may : List Record) (kept : Record) → may_read site may kept ≡ true → MayRead site may kept
read_is site may kept is = by_test (is_among may kept) refl is
  where
    by_test : (b : Bool) → is_among may kept ≡ b → (b || is_silent site may kept) ≡ true → MayRead site may kept
    by_test true among is = inl (has_among may kept among)
    by_test false among is = inr (silent_is site may kept is)

is_read : (site : Bool) (may : List Record) (kept : Record) → MayRead site may kept → may_read site may kept ≡ true
is_read site may kept (inl has) = or_left (is_among may kept) (is_silent site may kept) (among_has may kept has)
is_read site may kept (inr silent) =
    or_right (is_among may kept) (is_silent site may kept) (is_so_silent site may kept silent)

-- ---- the first that may not be read

none_there : {X : Type 0} (place : ℕ) (x : X) → slice_get [] place ≡ Some x → ⊥
none_there place x is = let none : None ≡ Some x = is in absurd cc

-- what is read of the ticket at a place is tested by what may be kept of it
wrong_at : (site : Bool) (all : List (List Record)) (records : List (Option Record)) (place : ℕ) (may : List Record)
    → slice_get all place ≡ Some may → place < length records
    → is_wrong site (get_or (zip all records) place ([], None)) ≡ not (may_read site may (record_at records place))
wrong_at site [] records place may is below = absurd (none_there place may is)
wrong_at site (first ∷ all) [] place may is below = absurd (omega (arith, below))
wrong_at site (first ∷ all) (found ∷ records) zero may is below =
    let same : first ≡ may = cc in ap (λ (m : List Record). not (may_read site m (record_or_none found))) same
wrong_at site (first ∷ all) (found ∷ records) (suc place) may is below =
    wrong_at site all records place may is (omega (arith, below))

within_both : (all : List (List Record)) (records : List (Option Record)) (place : ℕ) (may : List Record)
    → slice_get all place ≡ Some may → place < length records → place < length (zip all records)
within_both [] records place may is below = absurd (none_there place may is)
within_both (first ∷ all) [] place may is below = absurd (omega (arith, below))
within_both (first ∷ all) (found ∷ records) zero may is below = omega arith
within_both (first ∷ all) (found ∷ records) (suc place) may is below =
    let rest = within_both all records place may is (omega (arith, below)) in omega (arith, rest)

within_records : (all : List (List Record)) (records : List (Option Record)) (place : ℕ)
    → place < length (zip all records) → place < length records
within_records [] records place below = absurd (omega (arith, below))
within_records (first ∷ all) [] place below = absurd (omega (arith, below))
within_records (first ∷ all) (found ∷ records) zero below = omega arith
within_records (first ∷ all) (found ∷ records) (suc place) below =
    let rest = within_records all records place (omega (arith, below)) in omega (arith, rest)

none_before : {X : Type 0} (p : X → Bool) (xs : List X) → position p xs ≡ None → length xs ≤ position_or_len p xs
none_before p xs none = by_test (nat_lt (position_or_len p xs) (length xs)) refl none
  where
    by_test : (b : Bool) → nat_lt (position_or_len p xs) (length xs) ≡ b
        → (if b then Some (position_or_len p xs) else None) ≡ None → length xs ≤ position_or_len p xs
    by_test true is same = absurd cc
    by_test false is same = grind (arith, nat_tests)

not_wrong : (site : Bool) (may : List Record) (kept : Record) → not (may_read site may kept) ≡ false
    → MayRead site may kept
not_wrong site may kept right = by_test (may_read site may kept) refl right
  where
    by_test : (b : Bool) → may_read site may kept ≡ b → not b ≡ false → MayRead site may kept
    by_test true is same = read_is site may kept is
    by_test false is same = absurd cc

not_right : (site : Bool) (may : List Record) (kept : Record) → not (may_read site may kept) ≡ true
    → MayRead site may kept → ⊥
not_right site may kept wrong may_be =
    let false_true : not true ≡ true = ap not (sym (is_read site may kept may_be)) ∙ wrong in absurd cc

module _ (site : Bool) (all : List (List Record)) (records : List (Option Record)) where
  -- where there is no such place, each record may be read
  pub none_is_wrong : first_wrong site all records ≡ None → (place : ℕ) (may : List Record) → slice_get all place ≡ Some may
      → place < length records → MayRead site may (record_at records place)
  none_is_wrong none place may is below =
      let past = none_before (is_wrong site) (zip all records) none in
      let within = within_both all records place may is below in
      not_wrong site may (record_at records place)
      (sym (wrong_at site all records place may is below)
      ∙ fails_before_first (is_wrong site) (zip all records) place ([], None) (omega (arith, past, within)))

  module _ (first : ℕ) (found : first_wrong site all records ≡ Some first) where
    pub first_within : first < length records
    first_within =
        within_records all records first (position-Some (is_wrong site) (zip all records) first ([], None) found).0

    pub first_is_wrong : (may : List Record) → slice_get all first ≡ Some may → MayRead site may (record_at records first) → ⊥
    first_is_wrong may is =
        not_right site may (record_at records first) (sym (wrong_at site all records first may is first_within)
        ∙ (position-Some (is_wrong site) (zip all records) first ([], None) found).1)

    pub others_are_right : (place : ℕ) (may : List Record) → place < first → slice_get all place ≡ Some may
        → MayRead site may (record_at records place)
    others_are_right place may earlier is =
        let within = first_within in
        not_wrong site may (record_at records place)
        (sym (wrong_at site all records place may is (omega (arith, earlier, within)))
        ∙ (position-Some (is_wrong site) (zip all records) first ([], None) found).2 place earlier)
