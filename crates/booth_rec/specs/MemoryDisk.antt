-- A disk in memory: what a read returns, what a crash may leave, and when its calls fail.
use Rattle.std.specs.Prelude.{◌≡◌, ◌⊎◌, ℕ, ◌+◌, ◌-◌, ◌^◌, ◌<◌, ◌≤◌, min, max, List, [], length}
use Rattle.booth_rec.specs.declared.memory_disk.MemoryDisk.{MemoryDisk}
use Rattle.booth_rec.specs.Disk.{Elapses}
use Rattle.booth_rec.specs.Calls.{seen_after, MayLeave, MightHaveLeft}

abbrev pub memory_seen : MemoryDisk → List ℕ
memory_seen disk = seen_after disk.first.items disk.calls.items

abbrev pub memory_may_leave : MemoryDisk → List ℕ → Type 0
memory_may_leave disk = MayLeave disk.first.items disk.calls.items

-- time passes from the old disk to the new one
abbrev pub Passes : MemoryDisk → MemoryDisk → Type 0
Passes old new = Elapses (length old.calls.items) (length new.calls.items)
    (MightHaveLeft old.first.items old.calls.items) (MightHaveLeft new.first.items new.calls.items)
    (memory_may_leave new)

-- the disk has made the number of calls after which each further one fails
abbrev pub IsOver : MemoryDisk → Type 0
IsOver disk = disk.passes ≤ disk.made

-- a write that is short enough, and ends within the room
abbrev pub HasRoom : MemoryDisk → ℕ → ℕ → Type 0
HasRoom disk at len = (len ≤ 128) × (at + len ≤ disk.room)

-- a write that does not succeed, or is too long, or ends past the room
abbrev pub FailsToWrite : MemoryDisk → ℕ → ℕ → Type 0
FailsToWrite disk at len = IsOver disk ⊎ (128 < len) ⊎ (disk.room < at + len)

-- a new disk: these bytes, all of them on the disk, and this many calls that succeed
pub record IsNew (disk : MemoryDisk) (bytes : List ℕ) (passing roomy : ℕ) : Type 0 where
  pub started : disk.first.items ≡ bytes
  pub none : disk.calls.items ≡ []
  pub unused : disk.made ≡ 0
  pub some : disk.passes ≡ passing
  pub unfailed : disk.faults ≡ 0
  pub width : disk.room ≡ max roomy 4096

-- bytes, calls and bounds are unchanged
pub record Keeps (old new : MemoryDisk) : Type 0 where
  pub bytes : new.bytes ≡ old.bytes
  pub first : new.first ≡ old.first
  pub calls : new.calls ≡ old.calls
  pub passes : new.passes ≡ old.passes
  pub room : new.room ≡ old.room

-- a call was made, and the bounds are unchanged
pub record Counts (old new : MemoryDisk) : Type 0 where
  pub one_more : new.made ≡ min (old.made + 1) (2 ^ 64 - 1)
  pub passing : new.passes ≡ old.passes
  pub width : new.room ≡ old.room
