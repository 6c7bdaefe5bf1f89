-- The keys that a member has.
use Rattle.std.specs.Prelude.{ℕ, List, None}
use Rattle.booth_keys.specs.declared.ring.Hash.TheVariants.{Sha1}
use Rattle.booth_keys.specs.declared.ring.Ring.{Ring}

-- one key, which seals with SHA-1
abbrev pub alone : List ℕ → Ring
alone key = record { first = key; old = None; hash = Sha1 }
