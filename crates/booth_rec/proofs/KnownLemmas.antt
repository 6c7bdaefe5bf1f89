-- What four slots say, put together from what each of them holds.
use Rattle.std.proofs.Common.{◌≡◌, ℕ, Bool, true, false, List, [], ◌∷◌, Option, None, Some, is_some, refl, sym, ◌∙◌, ap, subst, arith, if◌then◌else◌}
use Rattle.std.specs.Prelude.{nat_lt}
use Rattle.std.proofs.lemmas.Bool.Decides.{nat_tests}
use Rattle.booth_rec.specs.declared.record.Record.{Record}
use Rattle.booth_rec.specs.declared.record_file.Half.{Half}
use Rattle.booth_rec.specs.declared.record_file.Half.TheVariants.{First, Second}
use Rattle.booth_rec.specs.declared.record_file.Held.{Held}
use Rattle.booth_rec.specs.declared.record_file.Standing.{Standing}
use Rattle.booth_rec.specs.Spelling.{record_in}
use Rattle.booth_rec.specs.RecordFile.{Slot, first_slot, second_slot, greater, greatest, record_of_slot, number_of_slot, HoldsRecord, IsWhole}
use Rattle.booth_rec.specs.Holding.{new_slot, other_of, spare_after, spare_of, record_of, number_of, open_of, Holds, newer, standing_in, known_of, IsHolding}
use Rattle.booth_rec.proofs.SpellingLemmas.{read_back, is_record}

-- a slot where it is open
abbrev open_one : Slot → Option Slot
open_one slot = if slot.is_open then Some slot else None

-- of two slots the one with the greater number, the first among equals
abbrev join : Option Slot → Option Slot → Option Slot
join None later = later
join (Some slot) later = greater slot later

-- ---- the greatest of four, two by two

join_none : (o : Option Slot) → join o None ≡ o
join_none None = refl
join_none (Some s) = refl

of_two : (a b : Slot) → greatest (a ∷ b ∷ []) ≡ join (open_one a) (open_one b)
of_two a b = by_gates a.is_open refl b.is_open refl
  where
    by_gates : (x : Bool) → a.is_open ≡ x → (y : Bool) → b.is_open ≡ y → greatest (a ∷ b ∷ []) ≡ join (open_one a) (open_one b)
    by_gates true e true f = rw (e, f) refl
    by_gates true e false f = rw (e, f) refl
    by_gates false e true f = rw (e, f) refl
    by_gates false e false f = rw (e, f) refl

join_again : (x y z : Option Slot) → join (join x y) z ≡ join x (join y z)
join_again None y z = refl
join_again (Some x) None z = refl
join_again (Some x) (Some y) None = join_none (greater x (Some y))
join_again (Some x) (Some y) (Some z) = by_tests (nat_lt x.number y.number) refl (nat_lt y.number z.number) refl (nat_lt x.number z.number) refl
  where
    by_tests : (p : Bool) → nat_lt x.number y.number ≡ p → (q : Bool) → nat_lt y.number z.number ≡ q → (r : Bool) → nat_lt x.number z.number ≡ r
        → join (greater x (Some y)) (Some z) ≡ greater x (greater y (Some z))
    by_tests true e true f true g = rw (e, f, g) refl
    by_tests true e true f false g = absurd (grind (arith, nat_tests))
    by_tests true e false f r g = rw (e, f) (rw e refl)
    by_tests false e true f true g = rw (e, f, g) refl
    by_tests false e true f false g = rw (e, f, g) refl
    by_tests false e false f true g = absurd (grind (arith, nat_tests))
    by_tests false e false f false g = rw (e, f, g, e) refl

in_front : (a : Slot) (l : List Slot) → greatest (a ∷ l) ≡ join (open_one a) (greatest l)
in_front a l = by_gate a.is_open refl
  where
    by_gate : (x : Bool) → a.is_open ≡ x → greatest (a ∷ l) ≡ join (open_one a) (greatest l)
    by_gate true e = rw e refl
    by_gate false e = rw e refl

of_four : (a b c d : Slot) → greatest (a ∷ b ∷ c ∷ d ∷ []) ≡ join (join (open_one a) (open_one b)) (join (open_one c) (open_one d))
of_four a b c d =
    in_front a (b ∷ c ∷ d ∷ []) ∙ ap (join (open_one a)) (in_front b (c ∷ d ∷ []) ∙ ap (join (open_one b)) (of_two c d))
    ∙ sym (join_again (open_one a) (open_one b) (join (open_one c) (open_one d)))

of_three : (a b c : Slot) → greatest (a ∷ b ∷ c ∷ []) ≡ join (join (open_one a) (open_one b)) (open_one c)
of_three a b c =
    in_front a (b ∷ c ∷ []) ∙ ap (join (open_one a)) (of_two b c) ∙ sym (join_again (open_one a) (open_one b) (open_one c))

-- ---- what stands in slots

-- what stands in a slot, where there is one
abbrev Says : Option Slot → Option Standing → Type 0
Says slot None = slot ≡ None
Says slot (Some standing) = (s : Slot) × (slot ≡ Some s) × (s.number ≡ standing.held.number) × (record_in s.body ≡ standing.held.kept)

holds_says : (half : Option Half) (slot : Slot) (held : Option Held) → Holds slot held → Says (open_one slot) (standing_in half held)
holds_says half slot None closed = ap (λ (b : Bool). if b then Some slot else None) closed
holds_says half slot (Some held) (opened, number, spells) =
    (slot, ap (λ (b : Bool). if b then Some slot else None) opened, number, read_back slot.body held.kept spells)

newer_says : (x y : Option Slot) (p q : Option Standing) → Says x p → Says y q → Says (join x y) (newer p q)
newer_says x y None q is says = subst (λ (o : Option Slot). Says (join o y) q) (sym is) says
newer_says x y (Some p) None (s, is, number, kept) none =
    (s, ap (λ (o : Option Slot). join o y) is ∙ ap (join (Some s)) none, number, kept)
newer_says x y (Some p) (Some q) (s, is, number, kept) (t, it, other, later) =
    subst (λ (o : Option Slot). Says o (newer (Some p) (Some q))) (sym (ap (λ (o : Option Slot). join o y) is ∙ ap (join (Some s)) it))
    (by_test (nat_lt p.held.number q.held.number) refl)
  where
    same : nat_lt s.number t.number ≡ nat_lt p.held.number q.held.number
    same = ap (λ (n : ℕ). nat_lt n t.number) number ∙ ap (nat_lt p.held.number) other

    by_test : (b : Bool) → nat_lt p.held.number q.held.number ≡ b → Says (if nat_lt s.number t.number then Some t else Some s) (if nat_lt p.held.number q.held.number then Some q else Some p)
    by_test true e = rw (same, e) (t, refl, other, later)
    by_test false e = rw (same, e) (s, refl, number, kept)

abbrev half_of : Option Standing → Option Half
half_of None = None
half_of (Some s) = s.half

-- what stands in two slots of version 1 is not in one of version 2
no_half : (a b : Option Held) (s : Standing) → newer (standing_in None a) (standing_in None b) ≡ Some s → s.half ≡ None
no_half None None s e = absurd (never e)
  where
    never : (let none : Option Standing = None in none) ≡ Some s → ⊥
    never e = cc
no_half None (Some b) s e = sym (ap half_of e)
no_half (Some a) None s e = sym (ap half_of e)
no_half (Some a) (Some b) s e = by_test (nat_lt a.number b.number) e
  where
    by_test : (t : Bool) → (if t then standing_in None (Some b) else standing_in None (Some a)) ≡ Some s → s.half ≡ None
    by_test true e = sym (ap half_of e)
    by_test false e = sym (ap half_of e)

-- of two that of a half
abbrev pick : Option Slot → Option Slot → Half → Option Slot
pick c d First = c
pick c d Second = d

-- of two slots with these numbers
join_by : (x y : Option Slot) (p q : Standing) → Says x (Some p) → Says y (Some q) → (less : Bool) → nat_lt p.held.number q.held.number ≡ less
    → join x y ≡ (if less then y else x)
join_by x y p q (s, is, number, _) (t, it, other, _) less e = by_less less (same ∙ e)
  where
    same : nat_lt s.number t.number ≡ nat_lt p.held.number q.held.number
    same = ap (λ (n : ℕ). nat_lt n t.number) number ∙ ap (nat_lt p.held.number) other

    both : join x y ≡ (if nat_lt s.number t.number then Some t else Some s)
    both = ap (λ (o : Option Slot). join o y) is ∙ ap (join (Some s)) it

    by_less : (less : Bool) → nat_lt s.number t.number ≡ less → join x y ≡ (if less then y else x)
    by_less true e = both ∙ ap (λ (b : Bool). if b then Some t else Some s) e ∙ sym it
    by_less false e = both ∙ ap (λ (b : Bool). if b then Some t else Some s) e ∙ sym is

-- a record in a slot of version 2
abbrev in_half : Half → Held → Standing
in_half half held = record { half = Some half; held = held }

-- which of the slots of version 2 the next put leaves, where this stands in slots of version 1
left_by : Option Standing → Option Held → Option Held → Half
left_by p first second = other_of (spare_of (newer p (newer (standing_in (Some First) first) (standing_in (Some Second) second))))

-- without the slot that the next put takes the same is in force
beside : (p : Option Standing) → ((s : Standing) → p ≡ Some s → s.half ≡ None) → (first second : Option Held) (o c d : Option Slot)
    → Says o p → Says c (standing_in (Some First) first) → Says d (standing_in (Some Second) second)
    → join o (join c d) ≡ join o (pick c d (left_by p first second))
unfolding left_by
beside None old None None o c d so sc sd = ap (λ (k : Option Slot). join o (join k d)) sc
beside None old None (Some m) o c d so sc sd = ap (λ (k : Option Slot). join o (join k d)) sc
beside None old (Some k) None o c d so sc sd = ap (join o) (ap (join c) sd ∙ join_none c)
beside None old (Some k) (Some m) o c d so sc sd = by_less (nat_lt k.number m.number) refl
  where
    by_less : (b : Bool) → nat_lt k.number m.number ≡ b
        → join o (join c d) ≡ join o (pick c d (other_of (spare_of (if b then standing_in (Some Second) (Some m) else standing_in (Some First) (Some k)))))
    by_less true e = ap (join o) (join_by c d (in_half First k) (in_half Second m) sc sd true e)
    by_less false e = ap (join o) (join_by c d (in_half First k) (in_half Second m) sc sd false e)
beside (Some p) old None None o c d so sc sd =
    ap (λ (k : Option Slot). join o (join k d)) sc ∙ ap (λ (h : Option Half). join o (pick c d (other_of (spare_after h)))) (sym (old p refl))
beside (Some p) old None (Some m) o c d so sc sd = ap (λ (k : Option Slot). join o (join k d)) sc ∙ by_less (nat_lt p.held.number m.number)
  where
    by_less : (b : Bool) → join o d ≡ join o (pick c d (other_of (spare_of (if b then standing_in (Some Second) (Some m) else Some p))))
    by_less true = refl
    by_less false = ap (λ (h : Option Half). join o (pick c d (other_of (spare_after h)))) (sym (old p refl))
beside (Some p) old (Some k) None o c d so sc sd = ap (join o) (ap (join c) sd ∙ join_none c) ∙ by_less (nat_lt p.held.number k.number) refl
  where
    by_less : (b : Bool) → nat_lt p.held.number k.number ≡ b
        → join o c ≡ join o (pick c d (other_of (spare_of (if b then standing_in (Some First) (Some k) else Some p))))
    by_less true e = refl
    by_less false e =
        join_by o c p (in_half First k) so sc false e ∙ sym (join_none o) ∙ ap (join o) (sym sd)
        ∙ ap (λ (h : Option Half). join o (pick c d (other_of (spare_after h)))) (sym (old p refl))
beside (Some p) old (Some k) (Some m) o c d so sc sd =
    by_tests (nat_lt k.number m.number) refl (nat_lt p.held.number k.number) refl (nat_lt p.held.number m.number) refl
  where
    at_old : join o (pick c d (other_of (spare_after None))) ≡ join o (pick c d (other_of (spare_after p.half)))
    at_old = ap (λ (h : Option Half). join o (pick c d (other_of (spare_after h)))) (sym (old p refl))

    above_both : nat_lt k.number m.number ≡ false → nat_lt p.held.number k.number ≡ false → nat_lt p.held.number m.number ≡ false
    above_both e f = grind (arith, nat_tests)

    by_tests : (x : Bool) → nat_lt k.number m.number ≡ x → (y : Bool) → nat_lt p.held.number k.number ≡ y → (z : Bool) → nat_lt p.held.number m.number ≡ z
        → join o (join c d) ≡ join o (pick c d (other_of (spare_of (newer (Some p) (if x then standing_in (Some Second) (Some m) else standing_in (Some First) (Some k))))))
    by_tests true e y f true g = ap (join o) (join_by c d (in_half First k) (in_half Second m) sc sd true e) ∙ rw g refl
    by_tests true e y f false g = ap (join o) (join_by c d (in_half First k) (in_half Second m) sc sd true e) ∙ rw g at_old
    by_tests false e true f z g = ap (join o) (join_by c d (in_half First k) (in_half Second m) sc sd false e) ∙ rw f refl
    by_tests false e false f z g =
        ap (join o) (join_by c d (in_half First k) (in_half Second m) sc sd false e) ∙ join_by o c p (in_half First k) so sc false f
        ∙ sym (join_by o d p (in_half Second m) so sd false (above_both e f)) ∙ rw f at_old

-- ---- four slots of a file

halves : (f : List ℕ) (h : Half) → pick (open_one (second_slot 128 f)) (open_one (second_slot 256 f)) h ≡ open_one (new_slot h f)
halves f First = refl
halves f Second = refl

pub known : (f : List ℕ) (old_first old_second first second : Option Held)
    → Holds (first_slot 0 f) old_first → Holds (first_slot 64 f) old_second → Holds (second_slot 128 f) first → Holds (second_slot 256 f) second
    → IsWhole f → IsHolding f (known_of old_first old_second first second)
unfolding left_by
known f old_first old_second first second ha hb hc hd whole =
    let a = holds_says None (first_slot 0 f) old_first ha in
    let b = holds_says None (first_slot 64 f) old_second hb in
    let c = holds_says (Some First) (second_slot 128 f) first hc in
    let d = holds_says (Some Second) (second_slot 256 f) second hd in
    let old = newer_says _ _ (standing_in None old_first) (standing_in None old_second) a b in
    let new = newer_says _ _ (standing_in (Some First) first) (standing_in (Some Second) second) c d in
    let all = newer_says _ _ (newer (standing_in None old_first) (standing_in None old_second)) (newer (standing_in (Some First) first) (standing_in (Some Second) second)) old new in
    let four = of_four (first_slot 0 f) (first_slot 64 f) (second_slot 128 f) (second_slot 256 f) in
    let h = left_by (newer (standing_in None old_first) (standing_in None old_second)) first second in
    record {
      whole = whole;
      stands = ap record_of_slot four ∙ says_record _ _ all;
      numbered = ap number_of_slot four ∙ says_number _ _ all;
      aside = four
          ∙ beside (newer (standing_in None old_first) (standing_in None old_second)) (no_half old_first old_second) first second _ _ _ old c d
          ∙ ap (join (join (open_one (first_slot 0 f)) (open_one (first_slot 64 f)))) (halves f h)
          ∙ sym (of_three (first_slot 0 f) (first_slot 64 f) (new_slot h f));
      opens = opens;
    }
  where
    says_record : (o : Option Slot) (p : Option Standing) → Says o p → record_of_slot o ≡ record_of p
    says_record o None none = ap record_of_slot none
    says_record o (Some p) (s, is, number, kept) = ap record_of_slot is ∙ ap (λ (r : Record). Some r) kept

    says_number : (o : Option Slot) (p : Option Standing) → Says o p → number_of_slot o ≡ number_of p
    says_number o None none = ap number_of_slot none
    says_number o (Some p) (s, is, number, kept) = ap number_of_slot is ∙ ap (λ (n : ℕ). Some n) number

    opens_as : (slot : Slot) (held : Option Held) → Holds slot held → slot.is_open ≡ is_some held
    opens_as slot None closed = closed
    opens_as slot (Some h) (opened, number, spells) = opened

    opens : (half : Half) → (new_slot half f).is_open ≡ open_of (known_of old_first old_second first second) half
    opens First = opens_as (second_slot 128 f) first hc
    opens Second = opens_as (second_slot 256 f) second hd

-- an open slot that holds something holds a record
pub holds_record : (slot : Slot) (held : Option Held) → Holds slot held → HoldsRecord slot
holds_record slot None closed opened = absurd (untrue (sym closed ∙ opened))
  where
    untrue : false ≡ true → ⊥
    untrue e = cc
holds_record slot (Some held) (is, number, spells) opened = is_record slot.body held.kept spells
