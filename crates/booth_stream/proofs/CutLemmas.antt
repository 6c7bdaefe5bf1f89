-- A stream has one cut.
use Rattle.std.specs.Prelude.{take, drop, Bool, true, false, if◌then◌else◌}
use Rattle.std.specs.Int.{w32, from_be_bytes}
use Rattle.std.proofs.Common.{◌≡◌, ℕ, ◌≤◌, List, [], ◌∷◌, ◌++◌, length, zero, suc, ◌<◌, ◌⊎◌, refl, sym, ◌∙◌, ap, inl, inr, arith, append_assoc, length-append, subst}
use Rattle.std.proofs.Math.Seq.{take-append_seam}
use Rattle.std.proofs.lemmas.List.{drop-append-le, take-append-le, length-drop, append_cancel_left, take-append-drop, length-take-le}
use Rattle.booth_stream.specs.Cut.{length_said, IsLength, IsWrong, IsFrame, IsRest, IsBroken, IsTail, Waits, Breaks, AreFrames, IsCut, Parts, begins_whole, with_first, cut_first, joined}
use Rattle.booth_stream.specs.Laws.{OneCut, CutsEach}
use Rattle.booth_wire.specs.declared.frame.TheConstants.{FRAME_BYTES}

-- what the length field says stays, once it is there
pub said_stays : (a b : List ℕ) → 28 ≤ length a → length_said (a ++ b) ≡ length_said a
unfolding length_said
said_stays a b h =
    let later : take 4 (drop 24 a ++ b) ≡ take 4 (drop 24 a) =
    take-append-le 4 (drop 24 a) b (rw (length-drop 24 a) (omega (arith, h))) in
    ap (λ l. from_be_bytes w32 (take 4 l)) (drop-append-le 24 a b (omega (arith, h))) ∙ ap (from_be_bytes w32) later

pub said_of_frame : (f more : List ℕ) → IsFrame f → length_said (f ++ more) ≡ length f
said_of_frame f more frame = said_stays f more (omega (arith, frame.long.0)) ∙ sym frame.as_said

-- what is no frame yet stays so where no byte comes, and what never will be stays so whatever comes
pub broken_stays : (a b : List ℕ) → IsBroken a → IsBroken (a ++ b)
broken_stays a b broken = record {
  told = rw (length-append a b) (omega (arith, broken.told));
  wrong = subst IsWrong (sym (said_stays a b broken.told)) broken.wrong;
}

no_wrong : (n : ℕ) → IsWrong n → IsLength n → ⊥
no_wrong n (inl small) length = absurd (omega (arith, small, length.0))
no_wrong n (inr large) length = absurd (omega (arith, large, length.1))

no_rest : (f more : List ℕ) → IsFrame f → IsRest (f ++ more) → ⊥
no_rest f more frame (inl short) =
    let e = length-append f more in absurd (omega (arith, e, short, frame.long.0))
no_rest f more frame (inr part) =
    let e = length-append f more in let s = said_of_frame f more frame in
    absurd (omega (arith, e, s, part.1))

pub no_tail : (f more : List ℕ) → IsFrame f → IsTail (f ++ more) → ⊥
no_tail f more frame (Waits rest) = no_rest f more frame rest
no_tail f more frame (Breaks broken) =
    no_wrong (length f) (subst IsWrong (said_of_frame f more frame) broken.wrong) frame.long

-- two frames that begin one stream are one
pub same_first : (f g x y : List ℕ) → IsFrame f → IsFrame g → f ++ x ≡ g ++ y → (f ≡ g) × (x ≡ y)
same_first f g x y of_f of_g same =
    let lengths : length f ≡ length g =
    sym (said_of_frame f x of_f) ∙ ap length_said same ∙ said_of_frame g y of_g in
    let fronts : f ≡ g =
    sym (take-append_seam f x) ∙ ap (λ n. take n (f ++ x)) lengths ∙ ap (take (length g)) same ∙ take-append_seam g y in
    (fronts, append_cancel_left g x y (subst (λ (l : List ℕ). l ++ x ≡ g ++ y) fronts same))

same_frames : (fs gs : List (List ℕ)) (t u : List ℕ) → AreFrames fs → AreFrames gs → IsTail t → IsTail u
    → joined fs ++ t ≡ joined gs ++ u → (fs ≡ gs) × (t ≡ u)
same_frames [] [] t u of_f of_g of_t of_u same = (refl, same)
same_frames [] (g ∷ gs) t u of_f of_g of_t of_u same =
    absurd (no_tail g (joined gs ++ u) of_g.0 (subst IsTail (same ∙ append_assoc g (joined gs) u) of_t))
same_frames (f ∷ fs) [] t u of_f of_g of_t of_u same =
    absurd (no_tail f (joined fs ++ t) of_f.0 (subst IsTail (sym same ∙ append_assoc f (joined fs) t) of_u))
same_frames (f ∷ fs) (g ∷ gs) t u of_f of_g of_t of_u same =
    let first = same_first f g (joined fs ++ t) (joined gs ++ u) of_f.0 of_g.0
    (sym (append_assoc f (joined fs) t) ∙ same ∙ append_assoc g (joined gs) u) in
    let later = same_frames fs gs t u of_f.1 of_g.1 of_t of_u first.1 in
    (ap (λ x. x ∷ fs) first.0 ∙ ap (λ xs. g ∷ xs) later.0, later.1)

pub one_cut : OneCut
one_cut stream frames others tail other a b =
    same_frames frames others tail other a.each b.each a.end b.end (sym a.whole ∙ b.whole)

-- ---- the cut as a function

pub lt_or_not : (a b : ℕ) → (a < b) ⊎ (b ≤ a)
lt_or_not zero zero = inr (omega arith)
lt_or_not zero (suc b) = inl (omega arith)
lt_or_not (suc a) zero = inr (omega arith)
lt_or_not (suc a) (suc b) = elim (lt_or_not a b) [ inl lt ↦ inl (omega arith) | inr le ↦ inr (omega arith) ]

-- no whole frame stands at the front: what is there is a tail
pub no_front : (bytes : List ℕ) → begins_whole bytes ≡ false → IsTail bytes
no_front bytes none = elim (lt_or_not (length bytes) 28) [
  | inl few ↦ Waits (inl few)
  | inr named ↦ elim (lt_or_not (length_said bytes) 48) [
    | inl small ↦ Breaks (record { told = named; wrong = inl small })
    | inr enough ↦ elim (lt_or_not FRAME_BYTES (length_said bytes)) [
      | inl large ↦ Breaks (record { told = named; wrong = inr large })
      | inr fits ↦ elim (lt_or_not (length bytes) (length_said bytes)) [
        | inl part ↦ Waits (inr ((enough, fits), part))
        | inr whole ↦ absurd (grind (arith, none, named, enough, fits, whole))
      ]
    ]
  ]
]

-- a whole frame does
record Front (bytes : List ℕ) : Type 0 where
  pub long : IsLength (length_said bytes)
  pub there : length_said bytes ≤ length bytes

front : (bytes : List ℕ) → begins_whole bytes ≡ true → Front bytes
front bytes is = record { long = (grind (arith, is), grind (arith, is)); there = grind (arith, is) }

front_frame : (bytes : List ℕ) → Front bytes → IsFrame (take (length_said bytes) bytes)
front_frame bytes is =
    let len = length-take-le (length_said bytes) bytes is.there in
    let named : 28 ≤ length (take (length_said bytes) bytes) = omega (arith, len, is.long.0) in
    let said : length_said bytes ≡ length_said (take (length_said bytes) bytes) =
    ap length_said (sym (take-append-drop (length_said bytes) bytes))
    ∙ said_stays (take (length_said bytes) bytes) (drop (length_said bytes) bytes) named in
    record { as_said = len ∙ said; long = subst IsLength (sym len) is.long }

parts_if : Bool → ℕ → List ℕ → Parts
parts_if b n bytes = if b then with_first (take (length_said bytes) bytes) (cut_first n (drop (length_said bytes) bytes))
    else record { frames = []; tail = bytes }

cut_step : (n : ℕ) (bytes : List ℕ) (b : Bool) → begins_whole bytes ≡ b
    → (Front bytes → IsCut (drop (length_said bytes) bytes) (cut_first n (drop (length_said bytes) bytes)).frames
    (cut_first n (drop (length_said bytes) bytes)).tail)
    → IsCut bytes (parts_if b n bytes).frames (parts_if b n bytes).tail
unfolding parts_if
cut_step n bytes false none later = record { whole = refl; each = tt; end = no_front bytes none }
cut_step n bytes true is later =
    let len = length_said bytes in
    let at : Front bytes = front bytes is in
    let rest = later at in
    record {
      whole = sym (take-append-drop len bytes) ∙ ap (λ l. take len bytes ++ l) rest.whole
          ∙ sym (append_assoc (take len bytes) (joined (cut_first n (drop len bytes)).frames) (cut_first n (drop len bytes)).tail);
      each = (front_frame bytes at, rest.each);
      end = rest.end;
    }

cut_is : (n : ℕ) (bytes : List ℕ) → length bytes ≤ n → IsCut bytes (cut_first n bytes).frames (cut_first n bytes).tail
unfolding parts_if
cut_is zero bytes few = record { whole = refl; each = tt; end = Waits (inl (omega (arith, few))) }
cut_is (suc n) bytes few = cut_step n bytes (begins_whole bytes) refl (λ at.
    let less = length-drop (length_said bytes) bytes in
    cut_is n (drop (length_said bytes) bytes) (omega (arith, less, few, at.long.0, at.there)))

pub cuts_each : CutsEach
cuts_each stream = cut_is (length stream) stream (omega arith)
