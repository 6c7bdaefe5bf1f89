-- What a cutter gives, over many calls.
use Rattle.std.specs.Prelude.{take, drop, min, Bool, true, false}
use Rattle.std.proofs.Common.{◌≡◌, ℕ, ◌+◌, ◌-◌, ◌<◌, ◌≤◌, List, [], ◌∷◌, ◌++◌, length, refl, sym, ◌∙◌, ap, inl, inr, arith, append_assoc, append-nil, length-append, subst}
use Rattle.std.proofs.lemmas.List.{take-append-drop, length-take-le, length-drop}
use Rattle.std.proofs.Math.Seq.{take-add, take-length}
use Rattle.booth_stream.specs.declared.cutter.Got.{Got}
use Rattle.booth_stream.specs.declared.cutter.Got.TheVariants.{Nothing, Frame, Broken}
use Rattle.booth_stream.specs.Cut.{length_said, IsLength, IsRest, IsTail, Waits, Breaks, AreFrames, IsCut, cut, joined}
use Rattle.booth_stream.specs.Feeding.{Held, IsHeld, FeedsAs, Gives, GivesAll, IsLast, fresh}
use Rattle.booth_stream.specs.Laws.{CutsDoNotMatter}
use Rattle.booth_stream.proofs.CutLemmas.{broken_stays, said_stays, lt_or_not, one_cut, cuts_each}

-- what one piece gives, after the bytes that were held: frames, then the bytes that are held, and what a broken cutter
-- leaves untaken
pub record Given (old : Held) (piece : List ℕ) (frames : List (List ℕ)) (new : Held) : Type 0 where
  pub left : List ℕ
  pub whole : old.rest ++ piece ≡ joined frames ++ (new.rest ++ left)
  pub each : AreFrames frames
  pub held : IsHeld new
  pub taken : new.broken ≡ false → left ≡ []

pub not_both : (b : Bool) → b ≡ true → b ≡ false → ⊥
not_both true is not = cc
not_both false is not = cc

-- the bytes held, of which so many of the piece are the last
pub one_more : (held piece : List ℕ) (n : ℕ) → held ++ piece ≡ (held ++ take n piece) ++ drop n piece
one_more held piece n = ap (λ l. held ++ l) (sym (take-append-drop n piece)) ∙ sym (append_assoc held (take n piece) (drop n piece))

given_last : (old : Held) (piece : List ℕ) (taken : ℕ) (got : Got) (before after : List ℕ) (new : Held)
    → FeedsAs old piece taken got before after new → IsLast got → Given old piece [] new
given_last old piece taken Nothing before after new feeds last = record {
  left = [];
  whole = sym (append-nil (old.rest ++ piece)) ∙ ap (λ (h : Held). h.rest ++ []) (sym feeds.3);
  each = cc;
  held = subst IsHeld (sym feeds.3) ((λ is. feeds.2), (λ is. absurd cc));
  taken = λ is. refl;
}
given_last old piece taken Frame before after new feeds last = absurd last
given_last old piece taken Broken before after new feeds last = record {
  left = drop taken piece;
  whole = one_more old.rest piece taken ∙ ap (λ (h : Held). h.rest ++ drop taken piece) (sym feeds.2);
  each = cc;
  held = subst IsHeld (sym feeds.2) ((λ is. absurd cc), (λ is. feeds.1));
  taken = λ is. absurd (not_both new.broken (ap (λ (h : Held). h.broken) feeds.2) is);
}

pub given : (old : Held) (piece : List ℕ) (frames : List (List ℕ)) (new : Held)
    → Gives old piece frames new → Given old piece frames new
given old piece [] new gives =
    given_last old piece gives.0.taken gives.0.got gives.1 gives.2 new gives.3 gives.4
given old piece (frame ∷ frames) new gives =
    let feeds = gives.3 in
    let later : Given fresh (drop gives.0 piece) frames new =
    given fresh (drop gives.0 piece) frames new
    (subst (λ (h : Held). Gives h (drop gives.0 piece) frames new) feeds.4 gives.4) in
    record {
      left = later.left;
      whole = one_more old.rest piece gives.0 ∙ ap (λ l. l ++ drop gives.0 piece) (sym feeds.3)
          ∙ ap (λ l. frame ++ l) later.whole ∙ sym (append_assoc frame (joined frames) (new.rest ++ later.left));
      each = (feeds.2, later.each);
      held = later.held;
      taken = later.taken;
    }

-- a broken cutter gives nothing more
stays_broken : (old : Held) (piece : List ℕ) (frames : List (List ℕ)) (new : Held) → old.broken ≡ true
    → Gives old piece frames new → (frames ≡ []) × (new.broken ≡ true)
stays_broken old piece [] new is gives = (refl, last gives.0.got gives.3 gives.4)
  where
    last : (got : Got) → FeedsAs old piece gives.0.taken got gives.1 gives.2 new → IsLast got → new.broken ≡ true
    last Nothing feeds end = absurd (not_both old.broken is feeds.0)
    last Frame feeds end = absurd end
    last Broken feeds end = ap (λ (h : Held). h.broken) feeds.2
stays_broken old piece (frame ∷ frames) new is gives = absurd (not_both old.broken is gives.3.0)

none_given : (old : Held) (pieces frames : List (List ℕ)) (new : Held) → old.broken ≡ true
    → GivesAll old pieces frames new → frames ≡ []
none_given old [] frames new is gives = gives.0
none_given old (piece ∷ pieces) frames new is gives =
    let first = stays_broken old piece gives.0 gives.2 is gives.4 in
    let later = none_given gives.2 pieces gives.1 new first.1 gives.5 in
    gives.3 ∙ ap (λ l. l ++ gives.1) first.0 ∙ later

no_frames : joined [] ≡ []
no_frames = refl

pub joined-append : (fs gs : List (List ℕ)) → joined (fs ++ gs) ≡ joined fs ++ joined gs
joined-append [] gs = refl
joined-append (f ∷ fs) gs = ap (λ l. f ++ l) (joined-append fs gs) ∙ sym (append_assoc f (joined fs) (joined gs))

pub AreFrames-append : (fs gs : List (List ℕ)) → AreFrames fs → AreFrames gs → AreFrames (fs ++ gs)
AreFrames-append [] gs of_f of_g = of_g
AreFrames-append (f ∷ fs) gs of_f of_g = (of_f.0, AreFrames-append fs gs of_f.1 of_g)

-- the bytes held and all pieces, cut
abbrev pub Cuts : Held → List (List ℕ) → List (List ℕ) → Type 0
Cuts old pieces frames = (tail : List ℕ) × IsCut (old.rest ++ joined pieces) frames tail

tail_of : (held : Held) → IsHeld held → (b : Bool) → held.broken ≡ b → IsTail held.rest
tail_of held is true broken = Breaks (is.1 broken)
tail_of held is false whole = Waits (is.0 whole)

-- frames of a piece, and then a cut of what follows
follows : (old mid : Held) (piece : List ℕ) (more : List ℕ) (early late : List (List ℕ)) (g : Given old piece early mid)
    → (tail : List ℕ) → IsCut (mid.rest ++ (g.left ++ more)) late tail → IsCut (old.rest ++ (piece ++ more)) (early ++ late) tail
follows old mid piece more early late g tail cut = record {
  whole = sym (append_assoc old.rest piece more) ∙ ap (λ l. l ++ more) g.whole
      ∙ append_assoc (joined early) (mid.rest ++ g.left) more
      ∙ ap (λ l. joined early ++ l) (append_assoc mid.rest g.left more ∙ cut.whole)
      ∙ sym (append_assoc (joined early) (joined late) tail)
      ∙ ap (λ l. l ++ tail) (sym (joined-append early late));
  each = AreFrames-append early late g.each cut.each;
  end = cut.end;
}

-- what follows the first piece, by whether the cutter is broken then
cuts_after : (old mid : Held) (piece : List ℕ) (pieces early late : List (List ℕ)) (new : Held)
    → Given old piece early mid → GivesAll mid pieces late new → (IsHeld mid → Cuts mid pieces late)
    → (b : Bool) → mid.broken ≡ b → Cuts old (piece ∷ pieces) (early ++ late)
cuts_after old mid piece pieces early late new g gives cuts true broken =
    let none = none_given mid pieces late new broken gives in
    let tail = mid.rest ++ (g.left ++ joined pieces) in (
      tail,
      follows old mid piece (joined pieces) early late g tail
          (subst (λ (fs : List (List ℕ)). IsCut tail fs tail) (sym none)
          (record { whole = refl; each = cc; end = Breaks (broken_stays mid.rest (g.left ++ joined pieces) (g.held.1 broken)) })),
    )
cuts_after old mid piece pieces early late new g gives cuts false whole =
    let later = cuts g.held in (
      later.0,
      follows old mid piece (joined pieces) early late g later.0
          (subst (λ (l : List ℕ). IsCut (mid.rest ++ (l ++ joined pieces)) late later.0) (sym (g.taken whole)) later.1),
    )

pub cuts : (old : Held) (pieces frames : List (List ℕ)) (new : Held) → IsHeld old
    → GivesAll old pieces frames new → Cuts old pieces frames
cuts old [] frames new held gives = (
  old.rest,
  record {
    whole = append-nil old.rest ∙ ap (λ fs. joined fs ++ old.rest) (sym gives.0);
    each = subst AreFrames (sym gives.0) cc;
    end = tail_of old held old.broken refl;
  },
)
cuts old (piece ∷ pieces) frames new held gives =
    subst (λ (fs : List (List ℕ)). Cuts old (piece ∷ pieces) fs) (sym gives.3)
    (cuts_after old gives.2 piece pieces gives.0 gives.1 new (given old piece gives.0 gives.2 gives.4) gives.5
    (λ is. cuts gives.2 pieces gives.1 new is gives.5) gives.2.broken refl)

pub cuts_do_not_matter : CutsDoNotMatter
cuts_do_not_matter pieces frames last gives =
    let found = cuts fresh pieces frames last ((λ is. inl (omega arith)), (λ is. absurd cc)) gives in
    let stream = joined pieces in
    (one_cut stream frames (cut stream).frames found.0 (cut stream).tail found.1 (cuts_each stream)).0

-- ---- one call

-- the bytes after the first filling are fewer than they say
below_few : (rest piece : List ℕ) (n : ℕ) → length rest < 28 → n ≤ 28 - length rest → n ≤ length piece
    → IsLength (length_said (rest ++ take n piece))
    → length (rest ++ take n piece) < length_said (rest ++ take n piece)
below_few rest piece n few le fits aim =
    let a = length-append rest (take n piece) in
    let b = length-take-le n piece fits in
    omega (arith, a, b, le, few, aim.0)

below_all : (rest piece : List ℕ) (n : ℕ) → 28 ≤ length rest → n ≡ 0 → length rest < length_said rest
    → length (rest ++ take n piece) < length_said (rest ++ take n piece)
below_all rest piece n many none part =
    let same : rest ++ take n piece ≡ rest = ap (λ k. rest ++ take k piece) none ∙ append-nil rest in
    subst (λ (l : List ℕ). length l < length_said l) (sym same) part

pub below : (rest piece : List ℕ) (n : ℕ) → IsRest rest → n ≤ 28 - length rest → n ≤ length piece
    → IsLength (length_said (rest ++ take n piece))
    → length (rest ++ take n piece) < length_said (rest ++ take n piece)
below rest piece n (inl few) le fits aim = below_few rest piece n few le fits aim
below rest piece n (inr part) le fits aim = elim (lt_or_not (length rest) 28) [
  | inl few ↦ below_few rest piece n few le fits aim
  | inr many ↦ below_all rest piece n many (omega (arith, le, many)) part.1
]

-- What both fillings leave: all of the piece, or the frame that is wanted.
pub record Filled (held : Held) (piece r2 : List ℕ) (taken len : ℕ) : Type 0 where
  pub fits : taken ≤ length piece
  pub is : r2 ≡ held.rest ++ take taken piece
  pub said : length_said r2 ≡ len
  pub most : length r2 ≤ len
  pub all : length r2 < len → taken ≡ length piece

pub filled : (held : Held) (piece r1 r2 : List ℕ) (n m len : ℕ) → held.broken ≡ false → IsHeld held
    → n ≡ min (28 - length held.rest) (length piece) → r1 ≡ held.rest ++ take n piece → 28 ≤ length r1
    → len ≡ length_said r1 → IsLength len → m ≡ min (len - length r1) (length (drop n piece))
    → r2 ≡ r1 ++ take m (drop n piece) → Filled held piece r2 (n + m) len
filled held piece r1 r2 n m len whole is_held first r1_is told said aim second r2_is =
    let left = length-drop n piece in
    let n_fits : n ≤ length piece = omega (arith, first) in
    let n_less : n ≤ 28 - length held.rest = omega (arith, first) in
    let m_fits : m ≤ length (drop n piece) = omega (arith, second) in
    let m_less : m ≤ len - length r1 = omega (arith, second) in
    let r1_below : length r1 < len =
    subst (λ (k : ℕ). length r1 < k) (sym said)
    (subst (λ (l : List ℕ). length l < length_said l) (sym r1_is)
    (below held.rest piece n (is_held.0 whole) n_less n_fits
    (subst IsLength (said ∙ ap length_said r1_is) aim))) in
    let long : length r2 ≡ length r1 + m =
    ap length r2_is ∙ length-append r1 (take m (drop n piece)) ∙ ap (λ k. length r1 + k) (length-take-le m (drop n piece) m_fits) in
    record {
      fits = omega (arith, left, m_fits, n_fits);
      is = r2_is ∙ ap (λ l. l ++ take m (drop n piece)) r1_is
          ∙ append_assoc held.rest (take n piece) (take m (drop n piece))
          ∙ ap (λ l. held.rest ++ l) (sym (take-add n m piece));
      said = ap length_said r2_is ∙ said_stays r1 (take m (drop n piece)) told ∙ sym said;
      most = omega (arith, long, m_less, r1_below);
      all = λ less. omega (arith, long, less, second, left, n_fits, r1_below);
    }

-- more is wanted
pub wants_more : (held : Held) (piece r2 before : List ℕ) (taken len : ℕ) → held.broken ≡ false → IsLength len
    → Filled held piece r2 taken len → length r2 < len
    → FeedsAs held piece taken Nothing before before (record { rest = r2; broken = held.broken })
wants_more held piece r2 before taken len whole aim filled less =
    let all : r2 ≡ held.rest ++ piece =
    filled.is ∙ ap (λ n. held.rest ++ take n piece) (filled.all less) ∙ ap (λ l. held.rest ++ l) (take-length piece) in
    let rest : IsRest r2 =
    inr (subst IsLength (sym filled.said) aim, subst (λ (n : ℕ). length r2 < n) (sym filled.said) less) in (
      whole,
      filled.all less,
      subst IsRest all rest,
      ap (λ l. record { rest = l; broken = held.broken }) all ∙ ap (λ b. record { rest = held.rest ++ piece; broken = b }) whole,
      refl,
    )

pub still_held : (held : Held) (piece r2 : List ℕ) (taken len : ℕ) → held.broken ≡ false → IsLength len
    → Filled held piece r2 taken len → length r2 < len → IsHeld (record { rest = r2; broken = held.broken })
still_held held piece r2 taken len whole aim filled less = (
  (λ is. inr (subst IsLength (sym filled.said) aim, subst (λ (n : ℕ). length r2 < n) (sym filled.said) less)),
  (λ is. absurd (not_both held.broken is whole)),
)

-- the frame is whole
pub is_whole : (held : Held) (piece r2 before : List ℕ) (taken len : ℕ) → held.broken ≡ false → IsLength len
    → Filled held piece r2 taken len → len ≤ length r2
    → FeedsAs held piece taken Frame before r2 (record { rest = []; broken = held.broken })
is_whole held piece r2 before taken len whole aim filled more =
    let most = filled.most in
    let long : length r2 ≡ len = omega (arith, most, more) in (
      whole,
      filled.fits,
      record { as_said = long ∙ sym filled.said; long = subst IsLength (sym long) aim },
      filled.is,
      ap (λ b. record { rest = []; broken = b }) whole,
    )
