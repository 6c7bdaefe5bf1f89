use Rattle.std.specs.Prelude.{codes}
use Rattle.booth_outcomes.specs.Texts.{key_name}
use Rattle.booth_outcomes.proofs.TextLemmas.{two_pieces}
use Rattle.booth_outcomes.proofs.texts.put_value.Goals as goal

pub returns-clause-bytes : goal.returns-clause-bytes
returns-clause-bytes c =
    two_pieces c.args.line.now (codes "bad value for ") (key_name c.args.key) c.put.new.self c.put-2.new.self
    c.put.ensures (rw (c.as_bytes.ensures.value, c.key_name.ensures.name) at c.put-2.ensures)
