use Rattle.std.proofs.Common.{[], refl}
use Rattle.booth_stream.specs.Places.{closings}
use Rattle.booth_stream.specs.Table.{places_of}
use Rattle.booth_stream.proofs.CallLemmas.{no_call}
use Rattle.booth_stream.proofs.TableLemmas.{given_settled}
use Rattle.booth_stream.proofs.table.Table.give_or_close.Goals as goal

pub returns-in-Some-clause-does : goal.returns-in-Some-clause-does
returns-in-Some-clause-does g c = ([], no_call, (c.in-Some.ensures, refl))

pub returns-clause-does : goal.returns-clause-does
returns-clause-does g c =
    let none = c.in_default.ensures in (
      closings (places_of c.give.new.self),
      c.close_broken.ensures.calls,
      given_settled c.args.self.now.slots.items c.give.new.self.slots.items c.close_broken.new.self.slots.items none.0 none.1
          c.close_broken.ensures.places c.close_broken.ensures.rests,
    )
