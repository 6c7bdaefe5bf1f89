-- What a cutter aims at next.
use Rattle.std.specs.Prelude.{ℕ}
use Rattle.booth_stream.specs.declared.cutter.Aim.{Aim}
use Rattle.booth_stream.specs.declared.cutter.Aim.TheVariants.{Unsaid, Wrong, Of}

abbrev pub MatchAim : Aim → Type 0 → Type 0 → (ℕ → Type 0) → Type 0
MatchAim Unsaid unsaid wrong of = unsaid
MatchAim Wrong unsaid wrong of = wrong
MatchAim (Of n) unsaid wrong of = of n
