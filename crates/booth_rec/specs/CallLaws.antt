-- A crash may leave what a read returns, and the only moment since now is now.
use Rattle.std.proofs.Common.{◌≡◌, ⊎_elim, ℕ, zero, suc, ◌+◌, ◌-◌, ◌<◌, ◌≤◌, List, [], ◌∷◌, ◌++◌, length, get_or, take, drop, refl, sym, ◌∙◌, ap, subst, arith, append_assoc, length-append, length-drop}
use Rattle.std.proofs.lemmas.List.{get_or-replicate, get_or_past, get_or_append_left, get_or-append_right, get_or-take, get_or-drop, length-replicate, length-take-le, take_all}
use Rattle.std.proofs.lemmas.Bool.{cases_lt}
use Rattle.booth_rec.specs.declared.memory_disk.Call.{Call}
use Rattle.booth_rec.specs.declared.memory_disk.Call.TheVariants.{Write, Sync}
use Rattle.booth_rec.specs.Spelling.{zeros}
use Rattle.booth_rec.specs.Disk.{SameOutside, IsWritten}
use Rattle.booth_rec.specs.Calls.{overwritten, seen_after, Torn, left_after, MayLeave, MightHaveLeft}

pub length_zeros : (n : ℕ) → length (zeros n) ≡ n
unfolding zeros
length_zeros n = let none : ℕ = 0 in length-replicate n none

zeros_at : (n i : ℕ) → i < n → get_or (zeros n) i 0 ≡ 0
unfolding zeros
zeros_at n i below = let none : ℕ = 0 in get_or-replicate n i none none below

-- zeros after a list change no byte of it
pub padded : (old : List ℕ) (n i : ℕ) → get_or (old ++ zeros n) i 0 ≡ get_or old i 0
padded [] n i =
    ⊎_elim (λ below. zeros_at n i below) (λ past. get_or_past (zeros n) i 0 (omega (arith, past, length_zeros n)))
    (cases_lt i n)
padded (x ∷ old) n zero = refl
padded (x ∷ old) n (suc i) = padded old n i

-- the bytes before a write, and those after it
abbrev front : ℕ → List ℕ → List ℕ
front at old = take at (old ++ zeros at)

abbrev rest : ℕ → List ℕ → List ℕ → List ℕ
rest at bytes old = bytes ++ drop (at + length bytes) old

parts : (at : ℕ) (bytes old : List ℕ) → overwritten at bytes old ≡ front at old ++ rest at bytes old
unfolding overwritten
parts at bytes old = append_assoc (front at old) bytes (drop (at + length bytes) old)

front_length : (at : ℕ) (old : List ℕ) → length (front at old) ≡ at
front_length at old = length-take-le at (old ++ zeros at) (omega (arith, length-append old (zeros at), length_zeros at))

-- the byte at a place of the overwritten bytes
read_of : (at : ℕ) (bytes old : List ℕ) (i : ℕ)
    → get_or (overwritten at bytes old) i 0 ≡ get_or (front at old ++ rest at bytes old) i 0
read_of at bytes old i = ap (λ (l : List ℕ). get_or l i 0) (parts at bytes old)

behind_front : (at : ℕ) (bytes old : List ℕ) (i j : ℕ) → i ≡ at + j
    → get_or (overwritten at bytes old) i 0 ≡ get_or (rest at bytes old) j 0
behind_front at bytes old i j is =
    read_of at bytes old i
    ∙ get_or-append_right (front at old) (rest at bytes old) at i 0 (front_length at old) (omega (arith, is))
    ∙ ap (λ (k : ℕ). get_or (rest at bytes old) k 0) (omega (arith, is))

before : (at : ℕ) (bytes old : List ℕ) (i : ℕ) → i < at → get_or (overwritten at bytes old) i 0 ≡ get_or old i 0
before at bytes old i below =
    read_of at bytes old i
    ∙ get_or_append_left (front at old) (rest at bytes old) 0 i (omega (arith, below, front_length at old))
    ∙ get_or-take at (old ++ zeros at) i 0 below ∙ padded old at i

pub there : (at : ℕ) (bytes old : List ℕ) (i : ℕ) → i < length bytes
    → get_or (overwritten at bytes old) (at + i) 0 ≡ get_or bytes i 0
there at bytes old i below =
    behind_front at bytes old (at + i) i refl ∙ get_or_append_left bytes (drop (at + length bytes) old) 0 i below

behind : (at : ℕ) (bytes old : List ℕ) (i : ℕ) → at + length bytes ≤ i
    → get_or (overwritten at bytes old) i 0 ≡ get_or old i 0
behind at bytes old i past =
    behind_front at bytes old i (i - at) (omega (arith, past))
    ∙ get_or-append_right bytes (drop (at + length bytes) old) (length bytes) (i - at) 0 refl (omega (arith, past))
    ∙ get_or-drop (at + length bytes) old (i - at - length bytes) 0
    ∙ ap (λ (k : ℕ). get_or old k 0) (omega (arith, past))

pub outside : (at : ℕ) (bytes old : List ℕ) → SameOutside at (length bytes) old (overwritten at bytes old)
outside at bytes old = record { before = before at bytes old; behind = behind at bytes old }

pub is_written : (at : ℕ) (bytes old : List ℕ) → IsWritten at bytes old (overwritten at bytes old)
is_written at bytes old = record {
  there = there at bytes old;
  others = outside at bytes old;
  long = ap length (parts at bytes old) ∙ length-append (front at old) (rest at bytes old)
      ∙ omega (
        arith,
        front_length at old,
        length-append bytes (drop (at + length bytes) old),
        length-drop (at + length bytes) old,
      );
}

-- a crash may leave what a read returns
pub leaves_seen : (seen : List ℕ) (left : List ℕ → Type 0) (calls : List Call) → left seen
    → left_after seen left calls (seen_after seen calls)
leaves_seen seen left [] is = is
leaves_seen seen left (Write at bytes len ∷ calls) is =
    leaves_seen (overwritten at (take len bytes) seen) (Torn left at (length (take len bytes))) calls
    (seen, is, outside at (take len bytes) seen)
leaves_seen seen left (Sync ∷ calls) is = leaves_seen seen (λ c. c ≡ seen) calls refl

-- all calls together are the moment now
pub now_counts : (first : List ℕ) (calls : List Call) (t : ℕ) (c : List ℕ) → t ≤ length calls → MayLeave first calls c
    → MightHaveLeft first calls t c
now_counts first calls t c le left = (
  length calls,
  le,
  omega arith,
  subst (λ (cs : List Call). MayLeave first cs c)
      (sym (take_all (length calls) calls (omega arith))) left,
)

pub now_alone : (first : List ℕ) (calls : List Call) (c : List ℕ) → MightHaveLeft first calls (length calls) c
    → MayLeave first calls c
now_alone first calls c (k, ge, le, left) = subst (λ (cs : List Call). MayLeave first cs c) (take_all k calls ge) left
