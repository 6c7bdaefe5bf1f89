-- What is read of a file is what is known of it.
use Rattle.std.proofs.Common.{◌≡◌, ⊎_elim, ℕ, ◌+◌, ◌-◌, ◌<◌, ◌≤◌, List, length, get_or, take, drop, refl, sym, ◌∙◌, ap, subst, arith}
use Rattle.std.proofs.lemmas.Bool.{cases_lt}
use Rattle.std.proofs.lemmas.List.{get_or_append_left, get_or-append_right, get_or-take, get_or-drop, get_or_past, get_or-replicate, length-replicate, length-take}
use Rattle.booth_rec.specs.declared.record_file.Holding.{Holding}
use Rattle.booth_rec.specs.Spelling.{zeros}
use Rattle.booth_rec.specs.Disk.{IsRead}
use Rattle.booth_rec.specs.RecordFile.{Slot, slot_at, slots_of, greatest, record_of_slot, number_of_slot, HoldsRecord, IsWhole}
use Rattle.booth_rec.specs.declared.record_file.Half.{Half}
use Rattle.booth_rec.specs.declared.record_file.Half.TheVariants.{First, Second}
use Rattle.booth_rec.specs.Holding.{new_slot, other_of, others_of, spare_of, IsHolding}
use Rattle.booth_rec.specs.Slots.{ReadsAlike}
use Rattle.booth_rec.proofs.FileLemmas.{same_slot}

zeros_at : (n i : ℕ) → i < n → get_or (zeros n) i 0 ≡ 0
unfolding zeros
zeros_at n i below = let none : ℕ = 0 in get_or-replicate n i none none below

zeros_long : (n : ℕ) → length (zeros n) ≡ n
unfolding zeros
zeros_long n = let none : ℕ = 0 in length-replicate n none

pub reads_alike : (f : List ℕ) (count : ℕ) (old new : List ℕ) → old ≡ zeros 336 → IsRead f 0 count old new → ReadsAlike new f
reads_alike f count old new blank read i below =
    let wide : length old ≡ 336 = ap length blank ∙ zeros_long 336 in
    let front : length (take count f) ≡ count = length-take count f ∙ omega (arith, read.as_many, wide) in
    ap (λ (l : List ℕ). get_or l i 0) read.bytes ∙ ⊎_elim
    (λ within. get_or_append_left (take count f) (drop count old) 0 i (omega (arith, within, front)) ∙ get_or-take count f i 0 within)
    (λ past.
    get_or-append_right (take count f) (drop count old) count i 0 front past
    ∙ get_or-drop count old (i - count) 0 ∙ ap (λ (l : List ℕ). get_or l (count + (i - count)) 0) blank ∙ zeros_at 336 (count + (i - count)) (omega (arith, past, below))
    ∙ sym (get_or_past f i 0 (omega (arith, past, below, read.as_many, wide))))
    (cases_lt i count)

-- a slot that ends within the bytes that were read
slot_alike : (p n : ℕ) (b f : List ℕ) → p + (16 + n) ≤ 336 → ReadsAlike b f → slot_at p n b ≡ slot_at p n f
slot_alike p n b f within alike = same_slot p n b f (λ i ge below. alike i (omega (arith, below, within)))

new_alike : (half : Half) (b f : List ℕ) → ReadsAlike b f → new_slot half b ≡ new_slot half f
new_alike First b f alike = slot_alike 128 64 b f (omega arith) alike
new_alike Second b f alike = slot_alike 256 64 b f (omega arith) alike

slots_alike : (b f : List ℕ) → ReadsAlike b f → slots_of b ≡ slots_of f
slots_alike b f alike =
    rw (
      slot_alike 0 32 b f (omega arith) alike,
      slot_alike 64 32 b f (omega arith) alike,
      slot_alike 128 64 b f (omega arith) alike,
      slot_alike 256 64 b f (omega arith) alike,
    ) refl

others_alike : (half : Half) (b f : List ℕ) → ReadsAlike b f → others_of half b ≡ others_of half f
others_alike half b f alike =
    rw (slot_alike 0 32 b f (omega arith) alike, slot_alike 64 32 b f (omega arith) alike, new_alike (other_of half) b f alike) refl

pub whole_alike : (b f : List ℕ) → ReadsAlike b f → IsWhole b → IsWhole f
whole_alike b f alike whole = record {
  old_first = subst (λ (s : Slot). HoldsRecord s) (slot_alike 0 32 b f (omega arith) alike) whole.old_first;
  old_second = subst (λ (s : Slot). HoldsRecord s) (slot_alike 64 32 b f (omega arith) alike) whole.old_second;
  first = subst (λ (s : Slot). HoldsRecord s) (slot_alike 128 64 b f (omega arith) alike) whole.first;
  second = subst (λ (s : Slot). HoldsRecord s) (slot_alike 256 64 b f (omega arith) alike) whole.second;
}

pub whole_back : (b f : List ℕ) → ReadsAlike b f → IsWhole f → IsWhole b
whole_back b f alike whole = whole_alike f b (λ i below. sym (alike i below)) whole

pub known_alike : (b f : List ℕ) (holding : Holding) → ReadsAlike b f → IsHolding b holding → IsHolding f holding
known_alike b f holding alike known = record {
  whole = whole_alike b f alike known.whole;
  stands = ap (λ (l : List Slot). record_of_slot (greatest l)) (sym (slots_alike b f alike)) ∙ known.stands;
  numbered = ap (λ (l : List Slot). number_of_slot (greatest l)) (sym (slots_alike b f alike)) ∙ known.numbered;
  aside = ap (λ (l : List Slot). greatest l) (sym (slots_alike b f alike)) ∙ known.aside
      ∙ ap (λ (l : List Slot). greatest l) (others_alike (spare_of holding.standing) b f alike);
  opens = λ half. ap (λ (s : Slot). s.is_open) (sym (new_alike half b f alike)) ∙ known.opens half;
}
