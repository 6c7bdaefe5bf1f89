use Rattle.std.specs.Prelude.{take}
use Rattle.booth_ticket.specs.Acts.{Dids, said_to_each}
use Rattle.booth_ticket.specs.Fake.{notes_act}
use Rattle.booth_ticket.proofs.fake.FakeHandsHands.say_each.Given as goal

abbrev pub invariant-loop-place : goal.invariant-loop-place
invariant-loop-place l =
    Dids notes_act l.fn.self (said_to_each (take l.place-index l.places) l.head l.part) l.self
