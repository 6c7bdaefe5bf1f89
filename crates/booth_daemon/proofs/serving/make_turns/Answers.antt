use Rattle.std.proofs.Common.{◌∙◌, arith}
use Rattle.booth_node.proofs.LogLemmas.{one_turn}
use Rattle.booth_daemon.proofs.TurnLemmas.{last_within}
use Rattle.booth_daemon.proofs.serving.make_turns.Goals as goal

pub returns-in-Stopped-clause-past : goal.returns-in-Stopped-clause-past
returns-in-Stopped-clause-past g c =
    last_within (omega arith) c.loop-turn.invariant.past (rw c.loop-turn.invariant.node at c.in-Stopped.ensures.past)

pub loop-turn-preserved : goal.loop-turn-preserved
loop-turn-preserved g c = record {
  past = one_turn c.loop-turn.invariant.past (rw c.loop-turn.invariant.node at c.in-Went.ensures.past);
  node = c.in-Went.ensures.node ∙ c.loop-turn.invariant.node;
  later = omega (arith, c.loop-turn.invariant.later, c.in-Went.ensures.later);
}
