use Rattle.booth_stream.proofs.TableLemmas.{is_known}
use Rattle.booth_stream.proofs.table.Table.is_at_rest.Goals as goal

pub returns-in-Empty : goal.returns-in-Empty
returns-in-Empty c = λ _. let table = c.args.self.now in table.rest (is_known table.known c.in-Empty.is)
