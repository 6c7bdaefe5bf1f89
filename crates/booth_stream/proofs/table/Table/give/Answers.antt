use Rattle.std.proofs.Common.{refl}
use Rattle.booth_stream.proofs.TableLemmas.{rest_dry, is_known}
use Rattle.booth_stream.proofs.table.Table.give.Goals as goal

pub returns-in-Empty : goal.returns-in-Empty
returns-in-Empty c =
    let table = c.args.self.now in
    (refl, rest_dry table.slots.items (table.rest (is_known table.known c.in-Empty.is)))
