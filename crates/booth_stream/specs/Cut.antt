-- The cut of a stream of bytes into frames.
use Rattle.std.specs.Prelude.{◌≡◌, ◌≤◌, ◌<◌, ◌⊎◌, ◌++◌, ◌&&◌, nat_le, ℕ, zero, suc, Bool, if◌then◌else◌, List, [], ◌∷◌, length, take, drop}
use Rattle.booth_wire.specs.Layout.{word_at}
use Rattle.booth_wire.specs.declared.frame.TheConstants.{FRAME_BYTES}

-- the length that a frame states, if its first 28 bytes are present
unfoldable pub length_said : List ℕ → ℕ
length_said bytes = word_at 24 bytes

-- a frame has a header, and at most this many bytes
abbrev pub IsLength : ℕ → Type 0
IsLength n = (48 ≤ n) × (n ≤ FRAME_BYTES)

abbrev pub IsWrong : ℕ → Type 0
IsWrong n = (n < 48) ⊎ (FRAME_BYTES < n)

-- as many bytes as the frame states
pub record IsFrame (bytes : List ℕ) : Type 0 where
  pub as_said : length bytes ≡ length_said bytes
  pub long : IsLength (length bytes)

-- too few bytes to state a length, or fewer than stated
abbrev pub IsRest : List ℕ → Type 0
IsRest bytes = (length bytes < 28) ⊎ (IsLength (length_said bytes) × (length bytes < length_said bytes))

-- no frame begins with these bytes
pub record IsBroken (bytes : List ℕ) : Type 0 where
  pub told : 28 ≤ length bytes
  pub wrong : IsWrong (length_said bytes)

-- what follows the last frame: the start of a frame, or bytes with which no frame begins
pub data IsTail (bytes : List ℕ) : Type 0 where
  Waits : IsRest bytes → IsTail bytes
  Breaks : IsBroken bytes → IsTail bytes

abbrev pub joined : List (List ℕ) → List ℕ
joined [] = []
joined (piece ∷ pieces) = piece ++ joined pieces

abbrev pub AreFrames : List (List ℕ) → Type 0
AreFrames [] = Unit {0}
AreFrames (frame ∷ frames) = IsFrame frame × AreFrames frames

-- The stream consists of these frames, followed by bytes that are no whole frame yet or never will be.
pub record IsCut (stream : List ℕ) (frames : List (List ℕ)) (tail : List ℕ) : Type 0 where
  pub whole : stream ≡ joined frames ++ tail
  pub each : AreFrames frames
  pub end : IsTail tail

-- ---- the cut as a function

pub record Parts : Type 0 where
  pub frames : List (List ℕ)
  pub tail : List ℕ

-- there is a whole frame at the front
abbrev pub begins_whole : List ℕ → Bool
begins_whole bytes = nat_le 28 (length bytes) && (nat_le 48 (length_said bytes)
    && (nat_le (length_said bytes) FRAME_BYTES && nat_le (length_said bytes) (length bytes)))

abbrev pub with_first : List ℕ → Parts → Parts
with_first frame parts = record { frames = frame ∷ parts.frames; tail = parts.tail }

-- at most this many frames are cut off
abbrev pub cut_first : ℕ → List ℕ → Parts
cut_first zero bytes = record { frames = []; tail = bytes }
cut_first (suc n) bytes = if begins_whole bytes
    then with_first (take (length_said bytes) bytes) (cut_first n (drop (length_said bytes) bytes))
    else record { frames = []; tail = bytes }

-- The frames of a stream, and its tail. It has no more frames than bytes.
abbrev pub cut : List ℕ → Parts
cut bytes = cut_first (length bytes) bytes
