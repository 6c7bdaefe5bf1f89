use Rattle.booth_stream.proofs.TableLemmas.{none_reached}
use Rattle.booth_stream.proofs.table.Table.reach.Goals as goal

pub returns-in-Empty : goal.returns-in-Empty
returns-in-Empty c =
    let table = c.args.self.now in none_reached table.slots.items c.args.peer.now (table.empty c.in-Empty.is)
