use Rattle.std.proofs.Common.{subst, sym}
use Rattle.booth_manual.specs.declared.view.ManualView.{ManualView}
use Rattle.booth_manual.specs.Facts.{ViewFacts}
use Rattle.booth_manual.proofs.FactsLemmas.{finish_facts}
use Rattle.booth_manual.proofs.machine.Manual.kept.Goals as goal

pub invariant_of-self : goal.invariant_of-self
invariant_of-self c = (
  c.self.invariant.0,
  subst (λ (v : ManualView). ViewFacts c.self.inside.setup v) (sym c.finish.ensures.view)
      (finish_facts c.self.inside.setup c.self.inside.view c.args.ok c.self.invariant.1),
)
