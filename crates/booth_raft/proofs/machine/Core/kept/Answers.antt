-- The rule leaves what is true of every view.
use Rattle.booth_raft.proofs.FactsLemmas.{leaves}
use Rattle.booth_raft.proofs.KeptLemmas.{finish_good}
use Rattle.booth_raft.proofs.machine.Core.kept.Goals as goal

pub invariant_of-self : goal.invariant_of-self
invariant_of-self c =
    record {
      sound = c.self.invariant.sound;
      second = c.self.invariant.second;
      facts = (leaves _ c.args.now _ _ c.finish.result c.finish.ensures.view c.finish.ensures.deed (finish_good _ _ _ _ c.requires.early c.self.invariant.facts)).facts;
    }

pub returns-clause-waits : goal.returns-clause-waits
returns-clause-waits c =
    (leaves c.self.inside.setup c.args.now _ _ _ c.finish.ensures.view c.finish.ensures.deed (finish_good _ _ _ _ c.requires.early c.self.invariant.facts)).waits
