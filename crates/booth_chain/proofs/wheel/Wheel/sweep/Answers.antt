use Rattle.booth_chain.proofs.ReachLemmas.{kept_swept}
use Rattle.booth_chain.proofs.wheel.Wheel.sweep.Goals as goal

pub invariant_of-self : goal.invariant_of-self
invariant_of-self c = kept_swept _ _ _ _ c.args.now _ c.self.invariant c.self.view_is c.requires.later c.requires.none
