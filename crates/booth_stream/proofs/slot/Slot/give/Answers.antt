use Rattle.std.specs.Prelude.{drop}
use Rattle.std.proofs.Common.{◌≡◌, ap, ◌∙◌, subst}
use Rattle.std.proofs.lemmas.List.{drop-drop}
use Rattle.booth_stream.specs.Feeding.{FeedsAs}
use Rattle.booth_stream.specs.declared.cutter.Got.{Got}
use Rattle.booth_stream.specs.declared.cutter.Got.TheVariants.{Nothing, Frame, Broken}
use Rattle.booth_stream.specs.Slot.{PlainSlot}
use Rattle.booth_stream.proofs.SlotLemmas.{gave, wants, breaks}
use Rattle.booth_stream.proofs.slot.Slot.give.Goals.{in-Frame, in-Nothing, in-Broken}
use Rattle.booth_stream.proofs.slot.Slot.give.Goals as goal

pub returns : goal.returns
returns c =
    let old : PlainSlot = record { caller = c.self.inside.caller; held = c.self.inside.cutter; later = drop c.self.inside.taken c.self.inside.piece } in
    let fed = c.feed-fed.result in
    let held = c.feed-fed.new.self in
    let later : c.split_at.result.1.now ≡ old.later =
    c.split_at.ensures.back ∙ ap (λ l. drop c.self.inside.taken l) c.bytes.ensures.value in
    let feeds : FeedsAs old.held old.later fed.taken fed.got c.args.into.now c.feed-fed.new.into held =
    subst (λ l. FeedsAs old.held l fed.taken fed.got c.args.into.now c.feed-fed.new.into held) later c.feed-fed.ensures in
    let said : (got : Got) → fed.got ≡ got → FeedsAs old.held old.later fed.taken got c.args.into.now c.feed-fed.new.into held =
    λ got is. subst (λ (g : Got). FeedsAs old.held old.later fed.taken g c.args.into.now c.feed-fed.new.into held) is feeds in
    let before = c.args.into.now in
    let frame = c.feed-fed.new.into in
    rw (← c.self.view_is, ← drop-drop fed.taken c.self.inside.taken c.self.inside.piece)
    (elim c.match-fed.branch [
      | in-Frame w ↦ rw w.result-is (gave old c.in-Some.caller fed.taken before frame held c.in-Some.is (said Frame w.in-Frame.is))
      | in-Nothing w ↦ rw w.result-is (wants old fed.taken before frame held (said Nothing w.in-Nothing.is))
      | in-Broken w ↦ rw w.result-is (breaks old fed.taken before frame held (said Broken w.in-Broken.is))
    ])
