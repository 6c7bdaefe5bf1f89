-- The ring of a member that has one key, or none.
use Rattle.std.specs.Prelude.{ℕ, List, Option, None, Some}
use Rattle.booth_keys.specs.Ring.{alone}
use Rattle.booth_keys.specs.declared.ring.Ring.{Ring}

-- this key alone, which seals with SHA-1
abbrev pub ring_with : Option (List ℕ) → Option Ring
ring_with None = None
ring_with (Some key) = Some (alone key)
