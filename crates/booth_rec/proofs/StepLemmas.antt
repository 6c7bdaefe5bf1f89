-- What a crash leaves of each of the three steps of a put, and what the step makes of the file.
use Rattle.std.proofs.Common.{◌≡◌, ◌⊎◌, inl, inr, ⊎_elim, ℕ, ◌+◌, ◌-◌, ◌==◌, ◌<◌, ◌≤◌, ◌^◌, Bool, true, false, List, [], ◌∷◌, ◌++◌, length, get_or, Option, None, Some, refl, sym, ◌∙◌, ap, subst, arith, length-append, if◌then◌else◌}
use Rattle.std.specs.Int.{w64, from_be_bytes}
use Rattle.std.proofs.lemmas.List.{get_or_append_left, get_or-append-add}
use Rattle.std.proofs.lemmas.Nat.{from_be_bytes-to_be_bytes_8}
use Rattle.booth_rec.specs.declared.record.Record.{Record}
use Rattle.booth_rec.specs.declared.record_file.Half.{Half}
use Rattle.booth_rec.specs.declared.record_file.Half.TheVariants.{First, Second}
use Rattle.booth_rec.specs.declared.record_file.Holding.{Holding}
use Rattle.booth_rec.specs.Record.{is_second}
use Rattle.booth_rec.specs.Spelling.{spelling, long, record_in, FitsTypes, Spells}
use Rattle.booth_rec.specs.Disk.{SameOutside, IsWritten}
use Rattle.booth_rec.specs.RecordFile.{Slot, bytes_at, slot_at, first_slot, slots_of, greatest, record_of_slot, number_of_slot, HoldsRecord, IsWhole}
use Rattle.booth_rec.specs.Holding.{place_of, new_slot, other_of, others_of, spare_of, record_of, number_of, open_of, IsHolding}
use Rattle.booth_rec.specs.Slots.{next_number, StandsFor, IsOldOrNew, entry, opened_in, filled_in, after, closed_in, closed_after, Closes, Closing}
use Rattle.booth_rec.proofs.Greatest.{Has, untrue, aside, greatest_is_most, no_open, newest}
use Rattle.booth_rec.proofs.SpellingLemmas.{length_of, read_back, is_record}
use Rattle.booth_rec.proofs.FileLemmas.{bytes_there, same_slot, same_number, same_body, same_gate, slots_equal, body_of, gate_open, gate_closed}

-- ---- the slots of a file, with one apart

-- the slots before that of a half, and behind it
front_of : Half → List ℕ → List Slot
front_of First f = first_slot 0 f ∷ first_slot 64 f ∷ []
front_of Second f = first_slot 0 f ∷ first_slot 64 f ∷ new_slot First f ∷ []

back_of : Half → List ℕ → List Slot
back_of First f = new_slot Second f ∷ []
back_of Second f = []

split : (h : Half) (f : List ℕ) → slots_of f ≡ front_of h f ++ new_slot h f ∷ back_of h f
unfolding front_of back_of
split First f = refl
split Second f = refl

joined : (h : Half) (f : List ℕ) → others_of h f ≡ front_of h f ++ back_of h f
unfolding front_of back_of
joined First f = refl
joined Second f = refl

twice : (h : Half) → other_of (other_of h) ≡ h
twice First = refl
twice Second = refl

-- each open slot holds a record: the one of a half, and the others
whole_of : (h : Half) (f : List ℕ) → HoldsRecord (new_slot h f) → ((s : Slot) → Has (others_of h f) s → HoldsRecord s) → IsWhole f
whole_of First f here others = record { old_first = others _ (inl refl); old_second = others _ (inr (inl refl)); first = here; second = others _ (inr (inr (inl refl))) }
whole_of Second f here others = record { old_first = others _ (inl refl); old_second = others _ (inr (inl refl)); first = others _ (inr (inr (inl refl))); second = here }

whole_here : (h : Half) (f : List ℕ) → IsWhole f → HoldsRecord (new_slot h f)
whole_here First f whole = whole.first
whole_here Second f whole = whole.second

whole_others : (h : Half) (f : List ℕ) → IsWhole f → (s : Slot) → Has (others_of h f) s → HoldsRecord s
whole_others h f whole s (inl e) = subst (λ (s : Slot). HoldsRecord s) e whole.old_first
whole_others h f whole s (inr (inl e)) = subst (λ (s : Slot). HoldsRecord s) e whole.old_second
whole_others h f whole s (inr (inr (inl e))) = subst (λ (s : Slot). HoldsRecord s) e (whole_here (other_of h) f whole)
whole_others h f whole s (inr (inr (inr n))) = absurd n

-- ---- a file that a put may be made on

-- the slot of a half is not in force, and the number is above that of each other
pub record IsReady (h : Half) (gate : Bool) (next : ℕ) (before : Option Record) (f : List ℕ) : Type 0 where
  pub target : HoldsRecord (new_slot h f)
  pub others : (s : Slot) → Has (others_of h f) s → HoldsRecord s
  pub is_aside : greatest (slots_of f) ≡ greatest (others_of h f)
  pub stands : record_of_slot (greatest (others_of h f)) ≡ before
  pub below : (s : Slot) → Has (others_of h f) s → s.is_open ≡ true → s.number < next
  pub is_gate : (new_slot h f).is_open ≡ gate

closed_aside : (h : Half) (f : List ℕ) → (new_slot h f).is_open ≡ false → greatest (slots_of f) ≡ greatest (others_of h f)
closed_aside h f closed =
    ap greatest (split h f) ∙ aside (front_of h f) (back_of h f) (new_slot h f) closed ∙ ap greatest (sym (joined h f))

module _ (h : Half) (next : ℕ) (before : Option Record) where
  -- it stands for the record before
  pub ready_stands : (gate : Bool) (f : List ℕ) → IsReady h gate next before f → StandsFor before f
  ready_stands gate f ready = record {
    whole = whole_of h f ready.target ready.others;
    stands = ap record_of_slot ready.is_aside ∙ ready.stands;
  }

  -- so does a file with the same other slots, where this one is closed
  closed_ready : (gate : Bool) (f c : List ℕ) → IsReady h gate next before f → others_of h c ≡ others_of h f
      → (new_slot h c).is_open ≡ false → IsReady h false next before c
  closed_ready gate f c ready same closed = record {
    target = λ opened. absurd (untrue (sym closed ∙ opened));
    others = subst (λ (l : List Slot). (s : Slot) → Has l s → HoldsRecord s) (sym same) ready.others;
    is_aside = closed_aside h c closed;
    stands = ap (λ (l : List Slot). record_of_slot (greatest l)) same ∙ ready.stands;
    below = subst (λ (l : List Slot). (s : Slot) → Has l s → s.is_open ≡ true → s.number < next) (sym same) ready.below;
    is_gate = closed;
  }

  -- and one with the same slots
  same_ready : (gate : Bool) (f c : List ℕ) → IsReady h gate next before f → slots_of c ≡ slots_of f → others_of h c ≡ others_of h f
      → new_slot h c ≡ new_slot h f → IsReady h gate next before c
  same_ready gate f c ready all same target = record {
    target = subst (λ (s : Slot). HoldsRecord s) (sym target) ready.target;
    others = subst (λ (l : List Slot). (s : Slot) → Has l s → HoldsRecord s) (sym same) ready.others;
    is_aside = ap greatest all ∙ ready.is_aside ∙ ap greatest (sym same);
    stands = ap (λ (l : List Slot). record_of_slot (greatest l)) same ∙ ready.stands;
    below = subst (λ (l : List Slot). (s : Slot) → Has l s → s.is_open ≡ true → s.number < next) (sym same) ready.below;
    is_gate = ap (λ (s : Slot). s.is_open) target ∙ ready.is_gate;
  }

-- ---- what a write leaves

-- a write within the slot of a half leaves the others as they are
pub others_stay : (h : Half) (d n : ℕ) (f c : List ℕ) → d + n ≤ 80 → SameOutside (place_of h + d) n f c → others_of h c ≡ others_of h f
others_stay First d n f c fits same =
    let a : first_slot 0 c ≡ first_slot 0 f = same_slot 0 32 c f (λ i ge below. same.before i (omega (arith, below))) in
    let b : first_slot 64 c ≡ first_slot 64 f = same_slot 64 32 c f (λ i ge below. same.before i (omega (arith, below))) in
    let e : new_slot Second c ≡ new_slot Second f = same_slot 256 64 c f (λ i ge below. same.behind i (omega (arith, ge, fits))) in
    rw (a, b, e) refl
others_stay Second d n f c fits same =
    let a : first_slot 0 c ≡ first_slot 0 f = same_slot 0 32 c f (λ i ge below. same.before i (omega (arith, below))) in
    let b : first_slot 64 c ≡ first_slot 64 f = same_slot 64 32 c f (λ i ge below. same.before i (omega (arith, below))) in
    let e : new_slot First c ≡ new_slot First f = same_slot 128 64 c f (λ i ge below. same.before i (omega (arith, below))) in
    rw (a, b, e) refl

-- all slots are as they were, where those of a half and the others are
all_same : (h : Half) (f c : List ℕ) → others_of h c ≡ others_of h f → new_slot h c ≡ new_slot h f → slots_of c ≡ slots_of f
all_same First f c others here = ap (λ (l : List Slot). put_third l (new_slot First c)) others ∙ ap (λ (s : Slot). put_third (others_of First f) s) here
  where
    put_third : List Slot → Slot → List Slot
    put_third (a ∷ b ∷ d ∷ l) s = a ∷ b ∷ s ∷ d ∷ l
    put_third l s = l
all_same Second f c others here = ap (λ (l : List Slot). l ++ new_slot Second c ∷ []) others ∙ ap (λ (s : Slot). others_of Second f ++ s ∷ []) here

pub number_stays : (p : ℕ) (f c : List ℕ) → SameOutside p 1 f c → (slot_at p 64 c).number ≡ (slot_at p 64 f).number
number_stays p f c same = same_number p 64 c f (λ i ge below. same.behind i (omega (arith, ge)))

pub body_stays : (p : ℕ) (f c : List ℕ) → SameOutside p 1 f c → (slot_at p 64 c).body ≡ (slot_at p 64 f).body
body_stays p f c same = same_body p 64 c f (λ i ge below. same.behind i (omega (arith, ge)))

pub gate_stays : (p n : ℕ) (f c : List ℕ) → SameOutside (p + 8) n f c → (slot_at p 64 c).is_open ≡ (slot_at p 64 f).is_open
gate_stays p n f c same = same_gate p 64 c f (same.before p (omega arith))

at_zero : (h : Half) (n : ℕ) (f c : List ℕ) → SameOutside (place_of h) n f c → SameOutside (place_of h + 0) n f c
at_zero First n f c same = same
at_zero Second n f c same = same

gate_cases : (b : Bool) → (b ≡ true) ⊎ (b ≡ false)
gate_cases true = inl refl
gate_cases false = inr refl

module _ (h : Half) (next : ℕ) (before : Option Record) where
  -- ---- closing

  pub closing : (gate : Bool) (f c : List ℕ) → IsReady h gate next before f → Closing h gate f c → StandsFor before c
  closing false f c ready same = subst (λ (x : List ℕ). StandsFor before x) (sym same) (ready_stands h next before false f ready)
  closing true f c ready torn = ⊎_elim
      (λ opened.
      let here = slots_equal (new_slot h c) (new_slot h f) (opened ∙ sym ready.is_gate)
      (number_stays (place_of h) f c torn) (body_stays (place_of h) f c torn) in
      ready_stands h next before true c (same_ready h next before true f c ready (all_same h f c others here) others here))
      (λ closed. ready_stands h next before false c (closed_ready h next before true f c ready others closed))
      (gate_cases (new_slot h c).is_open)
    where
      others : others_of h c ≡ others_of h f
      others = others_stay h 0 1 f c (omega arith) (at_zero h 1 f c torn)

  pub closed : (gate : Bool) (f g : List ℕ) → IsReady h gate next before f → Closes h gate f g → IsReady h false next before g
  closed false f g ready same = subst (λ (x : List ℕ). IsReady h false next before x) (sym same) ready
  closed true f g ready written = closed_ready h next before true f g ready
      (others_stay h 0 1 f g (omega arith) (at_zero h 1 f g written.others))
      (gate_closed (place_of h) 64 g (λ one. not_both (get_or g (place_of h) 0) one (ap (λ (k : ℕ). get_or g k 0) at_place ∙ written.there 0 (omega arith))))
    where
      at_place : place_of h ≡ place_of h + 0
      at_place = omega arith

      not_both : (n : ℕ) → n ≡ 1 → n ≡ 0 → ⊥
      not_both n one none = omega (arith, one, none)

  -- ---- filling

  pub filling : (f c : List ℕ) → IsReady h false next before f → SameOutside (place_of h + 8) 72 f c → StandsFor before c
  filling f c ready torn = ready_stands h next before false c (closed_ready h next before false f c ready
      (others_stay h 8 72 f c (omega arith) torn) (gate_stays (place_of h) 72 f c torn ∙ ready.is_gate))

-- the slot of a half has this number and this record, and is closed
pub record IsFilled (h : Half) (next : ℕ) (before : Option Record) (rec : Record) (f : List ℕ) : Type 0 where
  pub ready : IsReady h false next before f
  pub numbered : (new_slot h f).number ≡ next
  pub spelled : (new_slot h f).body ≡ spelling rec

long_length : (n : ℕ) → length (long n) ≡ 8
unfolding long
long_length n = refl

pub entry_length : (n : ℕ) (rec : Record) → is_second rec ≡ true → length (entry n rec) ≡ 72
entry_length n rec second = length-append (long n) (spelling rec) ∙ omega (arith, long_length n, length_of rec second)

read_number : (n : ℕ) → n < 2 ^ 64 → from_be_bytes w64 (long n) ≡ n
unfolding long
read_number n fits = from_be_bytes-to_be_bytes_8 n fits

slot_number : (p : ℕ) (f bytes : List ℕ) → bytes_at (p + 8) 8 f ≡ bytes → (slot_at p 64 f).number ≡ from_be_bytes w64 bytes
unfolding slot_at
slot_number p f bytes is = ap (from_be_bytes w64) is

number_there : (p n : ℕ) (rec : Record) (f g : List ℕ) → is_second rec ≡ true → n < 2 ^ 64 → IsWritten (p + 8) (entry n rec) f g → (slot_at p 64 g).number ≡ n
number_there p n rec f g second fits written =
    let there : (i : ℕ) → i < length (long n) → get_or g (p + 8 + i) 0 ≡ get_or (long n) i 0 = λ i below.
    written.there i (omega (arith, below, long_length n, entry_length n rec second)) ∙ get_or_append_left (long n) (spelling rec) 0 i below in
    slot_number p g (long n) (ap (λ (k : ℕ). bytes_at (p + 8) k g) (sym (long_length n)) ∙ bytes_there (long n) (p + 8) g there) ∙ read_number n fits

body_there : (p n : ℕ) (rec : Record) (f g : List ℕ) → is_second rec ≡ true → IsWritten (p + 8) (entry n rec) f g → (slot_at p 64 g).body ≡ spelling rec
body_there p n rec f g second written =
    let there : (i : ℕ) → i < length (spelling rec) → get_or g (p + 16 + i) 0 ≡ get_or (spelling rec) i 0 = λ i below.
    let place : p + 16 + i ≡ p + 8 + (8 + i) = omega arith in
    let behind : 8 + i ≡ length (long n) + i = omega (arith, long_length n) in
    ap (λ (k : ℕ). get_or g k 0) place ∙ written.there (8 + i) (omega (arith, below, length_of rec second, entry_length n rec second))
    ∙ ap (λ (k : ℕ). get_or (entry n rec) k 0) behind ∙ get_or-append-add (long n) (spelling rec) i 0 in
    body_of p 64 g ∙ ap (λ (k : ℕ). bytes_at (p + 16) k g) (sym (length_of rec second)) ∙ bytes_there (spelling rec) (p + 16) g there

-- a slot with the spelling of a record of version 2
spells_there : (s : Slot) (rec : Record) → is_second rec ≡ true → FitsTypes rec → s.body ≡ spelling rec → Spells s.body rec
spells_there s rec second fits body = record { version = inl second; fits = fits; spelled = body }

module _ (h : Half) (next : ℕ) (before : Option Record) (rec : Record) (second : is_second rec ≡ true) (fits : FitsTypes rec) where
  pub filled : (f g : List ℕ) → next < 2 ^ 64 → IsReady h false next before f → IsWritten (place_of h + 8) (entry next rec) f g → IsFilled h next before rec g
  filled f g small ready written =
      let others : SameOutside (place_of h + 8) 72 f g = subst (λ (n : ℕ). SameOutside (place_of h + 8) n f g) (entry_length next rec second) written.others in
      record {
        ready = closed_ready h next before false f g ready (others_stay h 8 72 f g (omega arith) others) (gate_stays (place_of h) 72 f g others ∙ ready.is_gate);
        numbered = number_there (place_of h) next rec f g second small written;
        spelled = body_there (place_of h) next rec f g second written;
      }

  -- a file with the slot open
  pub record IsOpened (f : List ℕ) : Type 0 where
    pub opened : (new_slot h f).is_open ≡ true
    pub says : record_in (new_slot h f).body ≡ rec
    pub in_force : greatest (slots_of f) ≡ Some (new_slot h f)
    pub numbered : (new_slot h f).number ≡ next
    pub whole : IsWhole f

  opened_of : (f c : List ℕ) → IsFilled h next before rec f → SameOutside (place_of h) 1 f c → (new_slot h c).is_open ≡ true → IsOpened c
  opened_of f c done torn opened =
      let others = others_stay h 0 1 f c (omega arith) (at_zero h 1 f c torn) in
      let number = number_stays (place_of h) f c torn ∙ done.numbered in
      let spells = spells_there (new_slot h c) rec second fits (body_stays (place_of h) f c torn ∙ done.spelled) in
      let below = subst (λ (l : List Slot). (s : Slot) → Has l s → s.is_open ≡ true → s.number < next) (sym others) done.ready.below in
      record {
        opened = opened;
        says = read_back (new_slot h c).body rec spells;
        in_force = ap greatest (split h c) ∙ newest (front_of h c) (back_of h c) (new_slot h c) opened
            (subst (λ (l : List Slot). (s : Slot) → Has l s → s.is_open ≡ true → s.number < (new_slot h c).number) (joined h c)
            (λ s has o. subst (λ (n : ℕ). s.number < n) (sym number) (below s has o)));
        numbered = number;
        whole = whole_of h c (λ o. is_record (new_slot h c).body rec spells) (subst (λ (l : List Slot). (s : Slot) → Has l s → HoldsRecord s) (sym others) done.ready.others);
      }

  opened_stands : (c : List ℕ) → IsOpened c → StandsFor (Some rec) c
  opened_stands c is = record { whole = is.whole; stands = ap record_of_slot is.in_force ∙ ap (λ (r : Record). Some r) is.says }

  -- ---- opening

  pub committing : (f c : List ℕ) → IsFilled h next before rec f → SameOutside (place_of h) 1 f c → IsOldOrNew before rec c
  committing f c done torn = ⊎_elim
      (λ opened. inr (opened_stands c (opened_of f c done torn opened)))
      (λ closed. inl (ready_stands h next before false c (closed_ready h next before false f c done.ready
      (others_stay h 0 1 f c (omega arith) (at_zero h 1 f c torn)) closed)))
      (gate_cases (new_slot h c).is_open)

  pub committed : (f g : List ℕ) → IsFilled h next before rec f → IsWritten (place_of h) (1 ∷ []) f g → IsOpened g
  committed f g done written = opened_of f g done written.others
      (gate_open (place_of h) 64 g (ap (λ (k : ℕ). get_or g k 0) at_place ∙ written.there 0 (omega arith)))
    where
      at_place : place_of h ≡ place_of h + 0
      at_place = omega arith

-- ---- from what is known of a file, and back

number_below : (n next : ℕ) → next_number (Some n) ≡ Some next → n < next
number_below n next is = by_case (n == 2 ^ 64 - 1) is
  where
    by_case : (b : Bool) → (if b then None else Some (n + 1)) ≡ Some next → n < next
    by_case true e = absurd (never e)
      where
        never : (let none : Option ℕ = None in none) ≡ Some next → ⊥
        never e = cc
    by_case false e = let same : n + 1 ≡ next = cc in omega (arith, same)

-- each open one of the others has a number below the next
below_next : (others : List Slot) (number : Option ℕ) (next : ℕ) → number_of_slot (greatest others) ≡ number → next_number number ≡ Some next
    → (s : Slot) → Has others s → s.is_open ≡ true → s.number < next
below_next others number next is follows s has opened = by_greatest (greatest others) refl
  where
    by_greatest : (o : Option Slot) → greatest others ≡ o → s.number < next
    by_greatest None e = absurd (no_open others e s has opened)
    by_greatest (Some g) e =
        let most = greatest_is_most others g e s has opened in
        let known : Some g.number ≡ number = ap (λ (o : Option Slot). number_of_slot o) (sym e) ∙ is in
        let less = number_below g.number next (ap next_number known ∙ follows) in
        omega (arith, most, less)

pub ready_at_first : (h : Half) (gate : Bool) (next : ℕ) (holding : Holding) (f : List ℕ) → h ≡ spare_of holding.standing → gate ≡ open_of holding h
    → IsHolding f holding → next_number (number_of holding.standing) ≡ Some next → IsReady h gate next (record_of holding.standing) f
ready_at_first h gate next holding f is opens known follows =
    let besides : greatest (slots_of f) ≡ greatest (others_of h f) = known.aside ∙ ap (λ (k : Half). greatest (others_of k f)) (sym is) in
    record {
      target = whole_here h f known.whole;
      others = whole_others h f known.whole;
      is_aside = besides;
      stands = ap record_of_slot (sym besides) ∙ known.stands;
      below = below_next (others_of h f) (number_of holding.standing) next (ap number_of_slot (sym besides) ∙ known.numbered) follows;
      is_gate = known.opens h ∙ sym opens;
    }

-- what a put leaves of the others
closes_others : (h : Half) (gate : Bool) (f g : List ℕ) → Closes h gate f g → others_of h g ≡ others_of h f
closes_others h true f g written = others_stay h 0 1 f g (omega arith) (at_zero h 1 f g written.others)
closes_others h false f g same = ap (λ (x : List ℕ). others_of h x) same

pub put_others : (h : Half) (gate : Bool) (next : ℕ) (rec : Record) (f shut full last : List ℕ) → is_second rec ≡ true
    → Closes h gate f shut → IsWritten (place_of h + 8) (entry next rec) shut full → IsWritten (place_of h) (1 ∷ []) full last → others_of h last ≡ others_of h f
put_others h gate next rec f shut full last second closes written opens =
    others_stay h 0 1 full last (omega arith) (at_zero h 1 full last opens.others)
    ∙ others_stay h 8 72 shut full (omega arith) (subst (λ (n : ℕ). SameOutside (place_of h + 8) n shut full) (entry_length next rec second) written.others)
    ∙ closes_others h gate f shut closes

-- the gate of the other slot of version 2 is as it was
other_gate : (h : Half) (f c : List ℕ) → others_of h c ≡ others_of h f → (new_slot (other_of h) c).is_open ≡ (new_slot (other_of h) f).is_open
other_gate h f c same = ap (λ (l : List Slot). gate_of_third l) same
  where
    gate_of_third : List Slot → Bool
    gate_of_third (a ∷ b ∷ d ∷ l) = d.is_open
    gate_of_third l = false

opens_after : (holding : Holding) (h : Half) (f : List ℕ) → (new_slot h f).is_open ≡ true → (new_slot (other_of h) f).is_open ≡ open_of holding (other_of h)
    → (half : Half) → (new_slot half f).is_open ≡ open_of (opened_in holding h) half
opens_after holding First f here there First = here
opens_after holding First f here there Second = there
opens_after holding Second f here there First = there
opens_after holding Second f here there Second = here

pub known_after : (h : Half) (gate : Bool) (next : ℕ) (holding : Holding) (rec : Record) (second : is_second rec ≡ true) (fits : FitsTypes rec) (f last : List ℕ)
    → h ≡ spare_of holding.standing → IsHolding f holding → IsReady h gate next (record_of holding.standing) f → others_of h last ≡ others_of h f
    → IsOpened h next (record_of holding.standing) rec second fits last → IsHolding last (after holding next rec)
known_after h gate next holding rec second fits f last is known ready same opened =
    subst (λ (k : Half). IsHolding last (filled_in k holding next rec)) is
    (record {
      whole = opened.whole;
      stands = ap record_of_slot opened.in_force ∙ ap (λ (r : Record). Some r) opened.says;
      numbered = ap number_of_slot opened.in_force ∙ ap (λ (n : ℕ). Some n) opened.numbered;
      aside = opened.in_force ∙ sym still_in_force;
      opens = opens_after holding h last opened.opened (other_gate h f last same ∙ known.opens (other_of h));
    })
  where
    below : (s : Slot) → Has (others_of h last) s → s.is_open ≡ true → s.number < (new_slot h last).number
    below s has o =
        subst (λ (n : ℕ). s.number < n) (sym opened.numbered)
        (subst (λ (l : List Slot). (s : Slot) → Has l s → s.is_open ≡ true → s.number < next) (sym same) ready.below s has o)

    of_old : (s : Slot) → Has (first_slot 0 last ∷ first_slot 64 last ∷ []) s → Has (others_of h last) s
    of_old s (inl e) = inl e
    of_old s (inr (inl e)) = inr (inl e)
    of_old s (inr (inr n)) = absurd n

    -- without the other slot of version 2 the new one is in force still
    still_in_force : greatest (others_of (other_of h) last) ≡ Some (new_slot h last)
    still_in_force =
        ap (λ (k : Half). greatest (first_slot 0 last ∷ first_slot 64 last ∷ new_slot k last ∷ [])) (twice h)
        ∙ newest (first_slot 0 last ∷ first_slot 64 last ∷ []) [] (new_slot h last) opened.opened (λ s has o. below s (of_old s has) o)

closes_after : (holding : Holding) (h : Half) (f : List ℕ) → (new_slot h f).is_open ≡ false → (new_slot (other_of h) f).is_open ≡ open_of holding (other_of h)
    → (half : Half) → (new_slot half f).is_open ≡ open_of (closed_in holding h) half
closes_after holding First f here there First = here
closes_after holding First f here there Second = there
closes_after holding Second f here there First = there
closes_after holding Second f here there Second = here

standing_stays : (holding : Holding) (h : Half) → (closed_in holding h).standing ≡ holding.standing
standing_stays holding First = refl
standing_stays holding Second = refl

pub known_closed : (h : Half) (gate : Bool) (next : ℕ) (holding : Holding) (f g : List ℕ) → h ≡ spare_of holding.standing
    → IsHolding f holding → IsReady h gate next (record_of holding.standing) f → Closes h gate f g → IsHolding g (closed_after holding)
known_closed h gate next holding f g is known ready closes =
    subst (λ (k : Half). IsHolding g (closed_in holding k)) is
    (let shut = closed h next (record_of holding.standing) gate f g ready closes in
    let stands = ready_stands h next (record_of holding.standing) false g shut in
    let same = closes_others h gate f g closes in
    let still = sym (standing_stays holding h) in
    let besides = ready.is_aside in
    record {
      whole = stands.whole;
      stands = stands.stands ∙ ap record_of still;
      numbered = ap number_of_slot (shut.is_aside ∙ ap greatest same ∙ sym besides) ∙ known.numbered ∙ ap number_of still;
      aside = shut.is_aside ∙ ap (λ (k : Half). greatest (others_of k g)) (is ∙ ap spare_of still);
      opens = closes_after holding h g shut.is_gate (other_gate h f g same ∙ known.opens (other_of h));
    })
