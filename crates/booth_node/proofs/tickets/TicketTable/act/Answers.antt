use Rattle.std.proofs.Common.{arith}
use Rattle.std.proofs.lemmas.Grind.{common_steps}
use Rattle.booth_node.proofs.PlaceLemmas.{still_ours}
use Rattle.booth_node.proofs.tickets.TicketTable.act.Goals as goal

pub invariant_of-self : goal.invariant_of-self
invariant_of-self g c =
    let node = c.args.self.now.node in
    record {
      ours = still_ours node.me node.config.members _ _ _ c.act_at.ensures.others c.args.self.now.ours;
      whole = grind (arith, common_steps);
      few = grind (arith, common_steps);
      lists = grind (arith, common_steps);
      named = grind (arith, common_steps);
    }
