-- The end of a sequence of turns.
use Rattle.booth_daemon.specs.declared.serving.Ending.{Ending}
use Rattle.booth_daemon.specs.declared.serving.Ending.TheVariants.{Stopped, Spent}

-- The first statement holds if the sequence stopped, and the second if it did not.
abbrev pub MatchEnding : Ending → Type 0 → Type 0 → Type 0
MatchEnding Stopped P Q = P
MatchEnding Spent P Q = Q
