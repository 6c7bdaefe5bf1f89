use Rattle.booth_ticket.specs.Fake.{notes_act}
use Rattle.booth_ticket.proofs.DidLemmas.{said_more}
use Rattle.booth_ticket.proofs.fake.FakeHandsHands.say_each.Goals as goal

pub loop-place-preserved : goal.loop-place-preserved
loop-place-preserved c =
    said_more notes_act _ _ _ c.args.places.now c.loop-place.place-index _ c.args.head.now
    c.args.part.now c.loop-place-test.true
    c.loop-place.invariant c.say.ensures.did
