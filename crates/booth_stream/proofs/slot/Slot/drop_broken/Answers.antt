use Rattle.std.specs.Prelude.{drop}
use Rattle.std.proofs.Common.{◌∙◌, sym, subst}
use Rattle.booth_stream.specs.Slot.{PlainSlot, IsFed}
use Rattle.booth_stream.proofs.SlotLemmas.{stays_open, is_closed}
use Rattle.booth_stream.proofs.slot.Slot.drop_broken.Goals as goal

pub returns-then-not-is_broken-clause-link : goal.returns-then-not-is_broken-clause-link
returns-then-not-is_broken-clause-link c =
    let slot : PlainSlot = record { caller = c.self.inside.caller; held = c.self.inside.cutter; later = drop c.self.inside.taken c.self.inside.piece } in
    let fed : IsFed slot = subst (λ (s : PlainSlot). IsFed s) (sym c.self.view_is) c.requires in
    rw (← c.self.view_is)
    (stays_open slot c.in-Some.caller c.in-Some.is c.is_broken.ensures.sound fed (sym c.is_broken.ensures.broken ∙ c.if-not-is_broken.true)).0

pub returns-then-not-is_broken-clause-number : goal.returns-then-not-is_broken-clause-number
returns-then-not-is_broken-clause-number c =
    let slot : PlainSlot = record { caller = c.self.inside.caller; held = c.self.inside.cutter; later = drop c.self.inside.taken c.self.inside.piece } in
    let fed : IsFed slot = subst (λ (s : PlainSlot). IsFed s) (sym c.self.view_is) c.requires in
    rw (← c.self.view_is)
    (stays_open slot c.in-Some.caller c.in-Some.is c.is_broken.ensures.sound fed (sym c.is_broken.ensures.broken ∙ c.if-not-is_broken.true)).1

pub returns-clause-link : goal.returns-clause-link
returns-clause-link c =
    let slot : PlainSlot = record { caller = c.self.inside.caller; held = c.self.inside.cutter; later = drop c.self.inside.taken c.self.inside.piece } in
    let fed : IsFed slot = subst (λ (s : PlainSlot). IsFed s) (sym c.self.view_is) c.requires in
    rw (← c.self.view_is)
    (c.free.ensures.link
    ∙ (is_closed slot c.in-Some.caller c.in-Some.is c.is_broken.ensures.sound fed (sym c.is_broken.ensures.broken ∙ c.if-not-is_broken.false)).0)

pub returns-clause-number : goal.returns-clause-number
returns-clause-number c =
    let slot : PlainSlot = record { caller = c.self.inside.caller; held = c.self.inside.cutter; later = drop c.self.inside.taken c.self.inside.piece } in
    let fed : IsFed slot = subst (λ (s : PlainSlot). IsFed s) (sym c.self.view_is) c.requires in
    rw (← c.self.view_is)
    (is_closed slot c.in-Some.caller c.in-Some.is c.is_broken.ensures.sound fed (sym c.is_broken.ensures.broken ∙ c.if-not-is_broken.false)).1
