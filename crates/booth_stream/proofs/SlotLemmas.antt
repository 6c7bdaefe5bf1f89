-- What a slot gives, and when its link is broken.
use Rattle.std.specs.Prelude.{take, drop, Bool, true, false, if◌then◌else◌, Option, Some, None}
use Rattle.std.proofs.Common.{◌≡◌, ℕ, List, [], ◌∷◌, ◌++◌, refl, sym, ◌∙◌, ap, inl, inr, arith, append-nil, subst}
use Rattle.std.proofs.lemmas.List.{drop_all}
use Rattle.booth_stream.specs.declared.cutter.Got.TheVariants.{Nothing, Frame, Broken}
use Rattle.booth_stream.specs.declared.link_call.LinkCall.TheVariants.{Close}
use Rattle.booth_stream.specs.declared.slot.Caller.{Caller}
use Rattle.booth_stream.specs.Cut.{IsRest, IsBroken, IsTail, Waits, Breaks}
use Rattle.booth_stream.specs.Feeding.{Held, IsHeld, FeedsAs}
use Rattle.booth_stream.specs.Places.{OpenLink, NoFrame, GivesFrame, is_broken, unless_broken, closing}
use Rattle.booth_stream.specs.Slot.{PlainSlot, called, link_in, IsFed, IsDry, IsWaiting}
use Rattle.booth_stream.proofs.CutLemmas.{broken_stays, no_front}
use Rattle.booth_stream.proofs.FeedLemmas.{one_more, not_both}

-- ---- what a slot gives

-- the slot after its cutter took so many bytes
abbrev pub fed_on : PlainSlot → Held → ℕ → PlainSlot
fed_on old held taken = record { caller = old.caller; held = held; later = drop taken old.later }

pub gave : (old : PlainSlot) (caller : Caller) (taken : ℕ) (before frame : List ℕ) (held : Held) → old.caller ≡ Some caller
    → FeedsAs old.held old.later taken Frame before frame held
    → GivesFrame (link_in old) caller.peer frame (link_in (fed_on old held taken))
gave old caller taken before frame held is feeds =
    let rest = old.held.rest ++ old.later in
    record {
      link = record { number = caller.number; peer = caller.peer; rest = rest };
      left = drop taken old.later;
      was = ap (λ (c : Option Caller). called c rest) is;
      from = refl;
      frame = feeds.2;
      begins = one_more old.held.rest old.later taken ∙ ap (λ l. l ++ drop taken old.later) (sym feeds.3);
      now = ap (λ (c : Option Caller). called c (held.rest ++ drop taken old.later)) is
          ∙ ap (λ (h : Held). called (Some caller) (h.rest ++ drop taken old.later)) feeds.4;
    }

no_frame : (slot : PlainSlot) (rest : List ℕ) (c : Option Caller) → IsTail rest → NoFrame (called c rest)
no_frame slot rest None tail = tt
no_frame slot rest (Some caller) tail = tail

pub wants : (old : PlainSlot) (taken : ℕ) (before frame : List ℕ) (held : Held)
    → FeedsAs old.held old.later taken Nothing before frame held
    → (link_in (fed_on old held taken) ≡ link_in old) × IsDry (fed_on old held taken)
wants old taken before frame held feeds =
    let none : drop taken old.later ≡ [] = drop_all taken old.later (let all = feeds.1 in omega (arith, all)) in
    let same : held.rest ++ drop taken old.later ≡ old.held.rest ++ old.later =
    ap (λ l. held.rest ++ l) none ∙ append-nil held.rest ∙ ap (λ (h : Held). h.rest) feeds.3 in (
      ap (λ l. called old.caller l) same,
      record {
        fed = λ is. none;
        none = no_frame old (held.rest ++ drop taken old.later) old.caller (subst IsTail (sym same) (Waits feeds.2));
      },
    )

pub breaks : (old : PlainSlot) (taken : ℕ) (before frame : List ℕ) (held : Held)
    → FeedsAs old.held old.later taken Broken before frame held
    → (link_in (fed_on old held taken) ≡ link_in old) × IsDry (fed_on old held taken)
breaks old taken before frame held feeds =
    let now : held.rest ≡ old.held.rest ++ take taken old.later = ap (λ (h : Held). h.rest) feeds.2 in
    let same : held.rest ++ drop taken old.later ≡ old.held.rest ++ old.later =
    ap (λ l. l ++ drop taken old.later) now ∙ sym (one_more old.held.rest old.later taken) in
    let broken : IsBroken held.rest = subst IsBroken (sym now) feeds.1 in (
      ap (λ l. called old.caller l) same,
      record {
        fed = λ is. absurd (not_both held.broken (ap (λ (h : Held). h.broken) feeds.2) is);
        none = no_frame old (held.rest ++ drop taken old.later) old.caller
            (Breaks (broken_stays held.rest (drop taken old.later) broken));
      },
    )

-- ---- broken links

broken_true : (bytes : List ℕ) → IsBroken bytes → is_broken bytes ≡ true
broken_true bytes broken = elim broken.wrong [
  | inl small ↦ let told = broken.told in grind (arith, told, small)
  | inr large ↦ let told = broken.told in grind (arith, told, large)
]

rest_false : (bytes : List ℕ) → IsRest bytes → is_broken bytes ≡ false
rest_false bytes (inl few) = grind (arith, few)
rest_false bytes (inr part) = let low = part.0.0 in let high = part.0.1 in grind (arith, low, high)

broken_as : (slot : PlainSlot) → IsHeld slot.held → IsFed slot → (b : Bool) → slot.held.broken ≡ b
    → is_broken (slot.held.rest ++ slot.later) ≡ b
broken_as slot held fed true is = broken_true (slot.held.rest ++ slot.later) (broken_stays slot.held.rest slot.later (held.1 is))
broken_as slot held fed false is =
    rest_false (slot.held.rest ++ slot.later)
    (subst IsRest (sym (ap (λ l. slot.held.rest ++ l) (fed is) ∙ append-nil slot.held.rest)) (held.0 is))

-- a link that is not broken stays, and no call is made
pub stays_open : (slot : PlainSlot) (caller : Caller) → slot.caller ≡ Some caller → IsHeld slot.held → IsFed slot
    → slot.held.broken ≡ false → (link_in slot ≡ unless_broken (link_in slot)) × ([] ≡ closing (link_in slot))
stays_open slot caller is held fed whole =
    let rest = slot.held.rest ++ slot.later in
    let link : OpenLink = record { number = caller.number; peer = caller.peer; rest = rest } in
    let not_broken = broken_as slot held fed false whole in (
      subst (λ (c : Option Caller). called c rest ≡ unless_broken (called c rest)) (sym is)
          (ap (λ (b : Bool). if b then None else Some link) (sym not_broken)),
      subst (λ (c : Option Caller). [] ≡ closing (called c rest)) (sym is)
          (ap (λ (b : Bool). if b then Close caller.number ∷ [] else []) (sym not_broken)),
    )

-- a broken one is closed
pub is_closed : (slot : PlainSlot) (caller : Caller) → slot.caller ≡ Some caller → IsHeld slot.held → IsFed slot
    → slot.held.broken ≡ true → (None ≡ unless_broken (link_in slot)) × (Close caller.number ∷ [] ≡ closing (link_in slot))
is_closed slot caller is held fed whole =
    let rest = slot.held.rest ++ slot.later in
    let link : OpenLink = record { number = caller.number; peer = caller.peer; rest = rest } in
    let broken = broken_as slot held fed true whole in (
      subst (λ (c : Option Caller). None ≡ unless_broken (called c rest)) (sym is)
          (ap (λ (b : Bool). if b then None else Some link) (sym broken)),
      subst (λ (c : Option Caller). Close caller.number ∷ [] ≡ closing (called c rest)) (sym is)
          (ap (λ (b : Bool). if b then Close caller.number ∷ [] else []) (sym broken)),
    )

-- ---- at rest

-- no frame can be given at rest, and no link leaves
pub at_rest : (place : Option OpenLink) → ((link : OpenLink) → place ≡ Some link → IsWaiting link.rest)
    → NoFrame place × (place ≡ unless_broken place) × ([] ≡ closing place)
at_rest None waits = (tt, refl, refl)
at_rest (Some link) waits =
    let is = waits link refl in (
      no_front link.rest is.0,
      ap (λ (b : Bool). if b then None else Some link) (sym is.1),
      ap (λ (b : Bool). if b then Close link.number ∷ [] else []) (sym is.1),
    )
