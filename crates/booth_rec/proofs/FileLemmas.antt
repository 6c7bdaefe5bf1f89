-- Bytes of a file at their places, and what a slot is made of.
use Rattle.std.proofs.Common.{◌≡◌, ℕ, zero, suc, ◌+◌, ◌==◌, ◌<◌, ◌≤◌, Bool, List, [], ◌∷◌, length, get_or, take, drop, refl, sym, ◌∙◌, ap, arith, true, false, eq-eqb}
use Rattle.std.specs.Int.{w64, from_be_bytes}
use Rattle.std.proofs.lemmas.List.{drop_more}
use Rattle.booth_rec.specs.Spelling.{long_at}
use Rattle.booth_rec.specs.RecordFile.{Slot, bytes_at, slot_at}

-- a file has the bytes of another in these places
abbrev pub SameFrom : ℕ → ℕ → List ℕ → List ℕ → Type 0
SameFrom at n f g = (i : ℕ) → at ≤ i → i < at + n → get_or f i 0 ≡ get_or g i 0

pub same_bytes : (n at : ℕ) (f g : List ℕ) → SameFrom at n f g → bytes_at at n f ≡ bytes_at at n g
unfolding bytes_at
same_bytes zero at f g same = refl
same_bytes (suc n) at f g same =
    ap (λ (x : ℕ). x ∷ bytes_at (at + 1) n f) (same at (omega arith) (omega arith))
    ∙ ap (λ (l : List ℕ). get_or g at 0 ∷ l) (same_bytes n (at + 1) f g (λ i ge below. same i (omega (arith, ge)) (omega (arith, below))))

-- what was written at a place stands there
pub bytes_there : (bs : List ℕ) (at : ℕ) (f : List ℕ) → ((i : ℕ) → i < length bs → get_or f (at + i) 0 ≡ get_or bs i 0) → bytes_at at (length bs) f ≡ bs
unfolding bytes_at
bytes_there [] at f there = refl
bytes_there (b ∷ bs) at f there =
    ap (λ (x : ℕ). x ∷ bytes_at (at + 1) (length bs) f) (ap (λ (k : ℕ). get_or f k 0) (omega arith) ∙ there 0 (omega arith))
    ∙ ap (λ (l : List ℕ). b ∷ l) (bytes_there bs (at + 1) f (λ i below. ap (λ (k : ℕ). get_or f k 0) (omega arith) ∙ there (suc i) (omega (arith, below))))

-- in a list that is long enough
pub bytes_within : (n at : ℕ) (f : List ℕ) → at + n ≤ length f → bytes_at at n f ≡ take n (drop at f)
unfolding bytes_at
bytes_within zero at f fits = refl
bytes_within (suc n) at f fits =
    ap (λ (l : List ℕ). get_or f at 0 ∷ l) (bytes_within n (at + 1) f (omega (arith, fits)))
    ∙ sym (ap (take (suc n)) (drop_more f at 0 (omega (arith, fits))))

-- a slot of these parts
abbrev pub made_of : Bool → ℕ → List ℕ → Slot
made_of is_open number body = record { is_open = is_open; number = number; body = body }

pub same_number : (p n : ℕ) (f g : List ℕ) → SameFrom (p + 8) 8 f g → (slot_at p n f).number ≡ (slot_at p n g).number
unfolding slot_at
same_number p n f g same = ap (from_be_bytes w64) (same_bytes 8 (p + 8) f g same)

pub same_body : (p n : ℕ) (f g : List ℕ) → SameFrom (p + 16) n f g → (slot_at p n f).body ≡ (slot_at p n g).body
unfolding slot_at
same_body p n f g same = same_bytes n (p + 16) f g same

pub same_gate : (p n : ℕ) (f g : List ℕ) → get_or f p 0 ≡ get_or g p 0 → (slot_at p n f).is_open ≡ (slot_at p n g).is_open
unfolding slot_at
same_gate p n f g same = ap (λ (b : ℕ). b == 1) same

-- slots with the same parts are one
pub slots_equal : (a b : Slot) → a.is_open ≡ b.is_open → a.number ≡ b.number → a.body ≡ b.body → a ≡ b
slots_equal a b gate number body =
    ap (λ (x : Bool). made_of x a.number a.body) gate ∙ ap (λ (n : ℕ). made_of b.is_open n a.body) number ∙ ap (λ (l : List ℕ). made_of b.is_open b.number l) body

pub same_slot : (p n : ℕ) (f g : List ℕ) → SameFrom p (16 + n) f g → slot_at p n f ≡ slot_at p n g
same_slot p n f g same = slots_equal (slot_at p n f) (slot_at p n g)
    (same_gate p n f g (same p (omega arith) (omega arith)))
    (same_number p n f g (λ i ge below. same i (omega (arith, ge)) (omega (arith, below))))
    (same_body p n f g (λ i ge below. same i (omega (arith, ge)) (omega (arith, below))))

-- what a slot of a list that is long enough reads
pub number_within : (p n : ℕ) (f : List ℕ) → p + 16 ≤ length f → (slot_at p n f).number ≡ long_at (p + 8) f
unfolding slot_at
number_within p n f fits = ap (from_be_bytes w64) (bytes_within 8 (p + 8) f (omega (arith, fits)))

pub body_of : (p n : ℕ) (f : List ℕ) → (slot_at p n f).body ≡ bytes_at (p + 16) n f
unfolding slot_at
body_of p n f = refl

pub gate_open : (p n : ℕ) (f : List ℕ) → get_or f p 0 ≡ 1 → (slot_at p n f).is_open ≡ true
unfolding slot_at
gate_open p n f is = eq-eqb (get_or f p 0) 1 is

pub gate_closed : (p n : ℕ) (f : List ℕ) → (get_or f p 0 ≡ 1 → ⊥) → (slot_at p n f).is_open ≡ false
unfolding slot_at
gate_closed p n f other = grind (arith, other)
