-- The hashes of a key, each behind one of its pads.
use Rattle.std.specs.Prelude.{ℕ, List}
use Rattle.sha1.specs.Sha1.{Holds}
use Rattle.sha2.specs.Hashers.{Holds256}
use Rattle.booth_keys.specs.Mac.{inner_pad, outer_pad}
use Rattle.booth_keys.specs.declared.pads.Pads.{Pads}

-- each hash has taken the pad of this key
pub record ArePads (key : List ℕ) (pads : Pads) : Type 0 where
  pub inner : Holds pads.inner (inner_pad key)
  pub outer : Holds pads.outer (outer_pad key)
  pub inner256 : Holds256 pads.inner256 (inner_pad key)
  pub outer256 : Holds256 pads.outer256 (outer_pad key)
