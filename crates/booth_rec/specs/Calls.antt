-- The effect of a list of calls on a disk in memory: what a read returns, and what a crash may leave.
use Rattle.std.specs.Prelude.{◌≡◌, ℕ, ◌+◌, ◌≤◌, List, [], ◌∷◌, ◌++◌, length, take, drop}
use Rattle.booth_rec.specs.declared.memory_disk.Call.{Call}
use Rattle.booth_rec.specs.declared.memory_disk.Call.TheVariants.{Write, Sync}
use Rattle.booth_rec.specs.Spelling.{zeros}
use Rattle.booth_rec.specs.Disk.{SameOutside}

-- the bytes after a write: those before its place, zeros if there were none, the written bytes, and those after them
unfoldable pub overwritten : ℕ → List ℕ → List ℕ → List ℕ
overwritten at bytes old = take at (old ++ zeros at) ++ bytes ++ drop (at + length bytes) old

-- the call of a write of these bytes at this place
abbrev pub IsWriteOf : ℕ → List ℕ → Call → Type 0
IsWriteOf at bytes (Write place kept len) = (place ≡ at) × (take len kept ≡ bytes)
IsWriteOf at bytes Sync = ⊥

-- what a read returns after these calls
abbrev pub seen_after : List ℕ → List Call → List ℕ
seen_after seen [] = seen
seen_after seen (Write at bytes len ∷ calls) = seen_after (overwritten at (take len bytes) seen) calls
seen_after seen (Sync ∷ calls) = seen_after seen calls

-- a file that a crash could leave, with any bytes in these n places
abbrev pub Torn : (List ℕ → Type 0) → ℕ → ℕ → List ℕ → Type 0
Torn left at n c = (d : List ℕ) × left d × SameOutside at n d c

-- what a crash may leave after these calls, if it could leave this before them
abbrev pub left_after : List ℕ → (List ℕ → Type 0) → List Call → List ℕ → Type 0
left_after seen left [] = left
left_after seen left (Write at bytes len ∷ calls) =
    left_after (overwritten at (take len bytes) seen) (Torn left at (length (take len bytes))) calls
left_after seen left (Sync ∷ calls) = left_after seen (λ c. c ≡ seen) calls

-- the same for a disk that began with these bytes, all of them on the disk
abbrev pub MayLeave : List ℕ → List Call → List ℕ → Type 0
MayLeave first calls = left_after first (λ c. c ≡ first) calls

-- what a crash after at least t of the calls might have left
abbrev pub MightHaveLeft : List ℕ → List Call → ℕ → List ℕ → Type 0
MightHaveLeft first calls t c = (k : ℕ) × (t ≤ k) × (k ≤ length calls) × MayLeave first (take k calls) c
