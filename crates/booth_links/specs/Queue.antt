-- How many more bytes a link stores for its peer, and its queue after a write.
use Rattle.std.specs.Prelude.{◌≡◌, ◌-◌, ◌++◌, ℕ, List, drop, length, take}
use Rattle.booth_links.specs.declared.queue.TheConstants.{QUEUE_BYTES}

-- how many more bytes fit after these
abbrev pub room : List ℕ → ℕ
room bytes = QUEUE_BYTES - length bytes

-- A write took this many of these bytes, from the first: the bytes that were queued before, followed by those that
-- were taken, are the bytes that went to the system, followed by those that are queued now. So no byte that was taken
-- is lost, and none overtakes another.
pub record KeepsOrder (before bytes : List ℕ) (taken : ℕ) (after : List ℕ) : Type 0 where
  pub gone : ℕ
  pub left : after ≡ drop gone (before ++ take taken bytes)
