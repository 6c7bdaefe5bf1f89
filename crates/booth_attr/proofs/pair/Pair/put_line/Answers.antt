use Rattle.booth_base.proofs.TextLemmas.{line_of_name}
use Rattle.booth_attr.proofs.ListLemmas.{line_of_value}
use Rattle.booth_attr.proofs.pair.Pair.put_line.Goals as goal

pub put-requires-clause-form : goal.put-requires-clause-form
put-requires-clause-form c = line_of_name c.bytes.result.now c.bytes.ensures.form

pub put-requires-3-clause-form : goal.put-requires-3-clause-form
put-requires-3-clause-form c = line_of_value c.bytes-2.result.now c.bytes-2.ensures.form
