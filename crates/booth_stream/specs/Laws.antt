-- What holds for every stream and every way to cut it into pieces.
use Rattle.std.specs.Prelude.{◌≡◌, ℕ, List}
use Rattle.booth_stream.specs.Cut.{IsCut, cut, joined}
use Rattle.booth_stream.specs.Feeding.{Held, Feeds, fresh, GivesAll}
use Rattle.booth_stream.specs.declared.cutter.Fed.{Fed}

-- The function `cut` returns a cut of each stream.
abbrev pub CutsEach : Type 0
CutsEach = (stream : List ℕ) → IsCut stream (cut stream).frames (cut stream).tail

-- A stream has one cut.
abbrev pub OneCut : Type 0
OneCut =
    (stream : List ℕ) (frames others : List (List ℕ)) (tail other : List ℕ)
    → IsCut stream frames tail → IsCut stream others other → (frames ≡ others) × (tail ≡ other)

-- A new cutter returns the frames of the stream's cut, for every way to cut the stream into pieces.
abbrev pub CutsDoNotMatter : Type 0
CutsDoNotMatter =
    (pieces frames : List (List ℕ)) (last : Held) → GivesAll fresh pieces frames last
    → frames ≡ (cut (joined pieces)).frames

-- A cutter that holds given bytes has one answer to a piece.
abbrev pub OneAnswer : Type 0
OneAnswer =
    (old : Held) (piece : List ℕ) (fed other : Fed) (before frame last after : List ℕ) (new next : Held)
    → Feeds old piece fed before frame new → Feeds old piece other last after next → (fed ≡ other) × (new ≡ next)
