-- A cutter has one answer to a piece.
use Rattle.std.specs.Prelude.{take, drop, Bool, true, false}
use Rattle.std.proofs.Common.{◌≡◌, ℕ, ◌+◌, ◌≤◌, List, ◌++◌, length, refl, sym, ◌∙◌, ap, inl, inr, arith, subst, length-append}
use Rattle.std.proofs.lemmas.List.{length-take-le}
use Rattle.booth_stream.specs.declared.cutter.Got.{Got}
use Rattle.booth_stream.specs.declared.cutter.Got.TheVariants.{Nothing, Frame, Broken}
use Rattle.booth_stream.specs.Cut.{IsFrame, IsRest, IsBroken, IsTail, Waits, Breaks}
use Rattle.booth_stream.specs.Feeding.{Held, FeedsAs}
use Rattle.booth_stream.specs.Laws.{OneAnswer}
use Rattle.booth_stream.proofs.CutLemmas.{same_first, no_tail, broken_stays}
use Rattle.booth_stream.proofs.FeedLemmas.{one_more}

-- the whole of what is held and given
said : (old : Held) (piece : List ℕ) (n : ℕ) → (old.rest ++ take n piece) ++ drop n piece ≡ old.rest ++ piece
said old piece n = sym (one_more old.rest piece n)

-- a frame was given, and the same bytes are a tail: that cannot be
frame_no_tail : (old : Held) (piece frame : List ℕ) (n : ℕ) → IsFrame frame → frame ≡ old.rest ++ take n piece
    → IsTail (old.rest ++ piece) → ⊥
frame_no_tail old piece frame n is_frame is tail =
    no_tail frame (drop n piece) is_frame
    (subst IsTail (sym (ap (λ l. l ++ drop n piece) is ∙ said old piece n)) tail)

-- broken after a part is broken
all_broken : (old : Held) (piece : List ℕ) (n : ℕ) → IsBroken (old.rest ++ take n piece) → IsBroken (old.rest ++ piece)
all_broken old piece n broken = subst IsBroken (said old piece n) (broken_stays (old.rest ++ take n piece) (drop n piece) broken)

rest_no_broken : (bytes : List ℕ) → IsRest bytes → IsBroken bytes → ⊥
rest_no_broken bytes (inl few) broken = let told = broken.told in absurd (omega (arith, few, told))
rest_no_broken bytes (inr part) broken = elim broken.wrong [
  | inl small ↦ let low = part.0.0 in absurd (omega (arith, small, low))
  | inr large ↦ let high = part.0.1 in absurd (omega (arith, large, high))
]

-- what two frames of one stream have in common
same_taken : (old : Held) (piece : List ℕ) (a b : ℕ) (frame other : List ℕ) → a ≤ length piece → b ≤ length piece
    → IsFrame frame → IsFrame other → frame ≡ old.rest ++ take a piece → other ≡ old.rest ++ take b piece → a ≡ b
same_taken old piece a b frame other fits_a fits_b is_frame is_other is_a is_b =
    let same = (same_first frame other (drop a piece) (drop b piece) is_frame is_other
    (ap (λ l. l ++ drop a piece) is_a ∙ said old piece a ∙ sym (said old piece b) ∙ ap (λ l. l ++ drop b piece) (sym is_b))).0 in
    let lengths : length (old.rest ++ take a piece) ≡ length (old.rest ++ take b piece) = ap length (sym is_a ∙ same ∙ is_b) in
    let long_a = length-append old.rest (take a piece) in
    let long_b = length-append old.rest (take b piece) in
    let take_a = length-take-le a piece fits_a in
    let take_b = length-take-le b piece fits_b in
    omega (arith, lengths, long_a, long_b, take_a, take_b)

-- how many bytes a broken cutter takes
broken_taken : (old : Held) (a b : ℕ) → (old.broken ≡ true → a ≡ 0) → (old.broken ≡ false → length old.rest + a ≡ 28)
    → (old.broken ≡ true → b ≡ 0) → (old.broken ≡ false → length old.rest + b ≡ 28) → (c : Bool) → old.broken ≡ c → a ≡ b
broken_taken old a b none_a least_a none_b least_b true is = none_a is ∙ sym (none_b is)
broken_taken old a b none_a least_a none_b least_b false is =
    let x = least_a is in let y = least_b is in omega (arith, x, y)

answer : (old : Held) (piece : List ℕ) (n m : ℕ) (got other : Got) (before frame last after : List ℕ) (new next : Held)
    → FeedsAs old piece n got before frame new → FeedsAs old piece m other last after next
    → (n ≡ m) × (got ≡ other) × (new ≡ next)
answer old piece n m Nothing Nothing before frame last after new next a b = (a.1 ∙ sym b.1, refl, a.3 ∙ sym b.3)
answer old piece n m Nothing Frame before frame last after new next a b =
    absurd (frame_no_tail old piece after m b.2 b.3 (Waits a.2))
answer old piece n m Nothing Broken before frame last after new next a b =
    absurd (rest_no_broken (old.rest ++ piece) a.2 (all_broken old piece m b.1))
answer old piece n m Frame Nothing before frame last after new next a b =
    absurd (frame_no_tail old piece frame n a.2 a.3 (Waits b.2))
answer old piece n m Frame Frame before frame last after new next a b =
    (same_taken old piece n m frame after a.1 b.1 a.2 b.2 a.3 b.3, refl, a.4 ∙ sym b.4)
answer old piece n m Frame Broken before frame last after new next a b =
    absurd (frame_no_tail old piece frame n a.2 a.3 (Breaks (all_broken old piece m b.1)))
answer old piece n m Broken Nothing before frame last after new next a b =
    absurd (rest_no_broken (old.rest ++ piece) b.2 (all_broken old piece n a.1))
answer old piece n m Broken Frame before frame last after new next a b =
    absurd (frame_no_tail old piece after m b.2 b.3 (Breaks (all_broken old piece n a.1)))
answer old piece n m Broken Broken before frame last after new next a b =
    let same = broken_taken old n m a.3 a.5 b.3 b.5 old.broken refl in
    (same, refl, a.2 ∙ ap (λ k. record { rest = old.rest ++ take k piece; broken = true }) same ∙ sym b.2)

pub one_answer : OneAnswer
one_answer old piece fed other before frame last after new next a b =
    let same = answer old piece fed.taken other.taken fed.got other.got before frame last after new next a b in
    (ap (λ n. record { taken = n; got = fed.got }) same.0 ∙ ap (λ g. record { taken = other.taken; got = g }) same.1, same.2)
