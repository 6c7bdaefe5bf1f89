use Rattle.std.proofs.Common.{arith}
use Rattle.booth_stream.proofs.TableLemmas.{rest_unbroken, rest_calls, is_known}
use Rattle.booth_stream.proofs.table.Table.close_broken.Goals as goal

pub returns-in-Empty : goal.returns-in-Empty
returns-in-Empty g c =
    let table = c.args.self.now in
    let rest = table.rest (is_known table.known c.in-Empty.is) in
    record {
      places = rest_unbroken table.slots.items rest;
      rests = rest;
      calls = rest_calls table.slots.items rest;
      later = omega arith;
    }
