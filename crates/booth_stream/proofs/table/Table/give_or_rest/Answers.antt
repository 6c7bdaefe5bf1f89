use Rattle.std.proofs.Common.{[], refl}
use Rattle.booth_stream.proofs.CallLemmas.{no_call}
use Rattle.booth_stream.proofs.TableLemmas.{rest_settled}
use Rattle.booth_stream.proofs.table.Table.give_or_rest.Goals as goal

pub returns-then-is_at_rest-clause-does : goal.returns-then-is_at_rest-clause-does
returns-then-is_at_rest-clause-does g c =
    ([], no_call, rest_settled c.args.self.now.slots.items (c.if-is_at_rest.ensures refl))
