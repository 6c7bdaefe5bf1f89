-- The answers of a cutter to pieces of a stream.
use Rattle.std.specs.Prelude.{◌≡◌, ◌≤◌, ◌+◌, ◌++◌, ℕ, Bool, true, false, List, [], ◌∷◌, length, take, drop}
use Rattle.booth_stream.specs.declared.cutter.Fed.{Fed}
use Rattle.booth_stream.specs.declared.cutter.Got.{Got}
use Rattle.booth_stream.specs.declared.cutter.Got.TheVariants.{Nothing, Frame, Broken}
use Rattle.booth_stream.specs.Cut.{IsFrame, IsRest, IsBroken}

-- the bytes since the last frame, and whether the stream is broken
pub record Held : Type 0 where
  pub rest : List ℕ
  pub broken : Bool

abbrev pub fresh : Held
fresh = record { rest = []; broken = false }

abbrev pub IsHeld : Held → Type 0
IsHeld held = (held.broken ≡ false → IsRest held.rest) × (held.broken ≡ true → IsBroken held.rest)

-- A call, by its result. Together the bytes that the cutter has and the bytes that it takes are the start of a frame, a
-- frame, or broken; the first 28 bytes decide this. A broken cutter takes nothing more.
abbrev pub FeedsAs : Held → List ℕ → ℕ → Got → List ℕ → List ℕ → Held → Type 0
FeedsAs old piece taken Nothing before frame new =
    (old.broken ≡ false) × (taken ≡ length piece) × IsRest (old.rest ++ piece)
    × (new ≡ record { rest = old.rest ++ piece; broken = false }) × (frame ≡ before)
FeedsAs old piece taken Frame before frame new =
    (old.broken ≡ false) × (taken ≤ length piece) × IsFrame frame × (frame ≡ old.rest ++ take taken piece)
    × (new ≡ fresh)
FeedsAs old piece taken Broken before frame new =
    (taken ≤ length piece) × IsBroken (old.rest ++ take taken piece)
    × (new ≡ record { rest = old.rest ++ take taken piece; broken = true })
    × (old.broken ≡ true → taken ≡ 0) × (frame ≡ before)
    × (old.broken ≡ false → length old.rest + taken ≡ 28)

abbrev pub Feeds : Held → List ℕ → Fed → List ℕ → List ℕ → Held → Type 0
Feeds old piece fed before frame new = FeedsAs old piece fed.taken fed.got before frame new

-- ---- many calls

-- no frame resulted from the call
abbrev pub IsLast : Got → Type 0
IsLast Nothing = Unit {0}
IsLast Frame = ⊥
IsLast Broken = Unit {0}

-- a piece is passed until the cutter has taken all of it or is broken; these frames result
abbrev pub Gives : Held → List ℕ → List (List ℕ) → Held → Type 0
Gives old piece [] new = (fed : Fed) × (before after : List ℕ) × Feeds old piece fed before after new × IsLast fed.got
Gives old piece (frame ∷ frames) new =
    (taken : ℕ) × (before : List ℕ) × (mid : Held) × FeedsAs old piece taken Frame before frame mid
    × Gives mid (drop taken piece) frames new

-- pieces are passed one after the other
abbrev pub GivesAll : Held → List (List ℕ) → List (List ℕ) → Held → Type 0
GivesAll old [] frames new = (frames ≡ []) × (new ≡ old)
GivesAll old (piece ∷ pieces) frames new =
    (early late : List (List ℕ)) × (mid : Held) × (frames ≡ early ++ late)
    × Gives old piece early mid × GivesAll mid pieces late new
