use Rattle.std.specs.Prelude.{codes}
use Rattle.booth_base.specs.Address.{printed}
use Rattle.booth_outcomes.proofs.TextLemmas.{two_pieces}
use Rattle.booth_outcomes.proofs.texts.put_not_member.Goals as goal

pub returns-clause-bytes : goal.returns-clause-bytes
returns-clause-bytes c =
    two_pieces c.args.line.now (printed c.args.address.now) (codes " is not a member") c.put.new.self c.put-2.new.self
    (rw (c.as_bytes.ensures.value, c.deref.ensures.0, c.print.ensures) at c.put.ensures) c.put-2.ensures
