-- The rule leaves what is true of every view.
use Rattle.std.proofs.Common.{◌≡◌, None, ap, ◌∙◌}
use Rattle.booth_raft.specs.State.{State}
use Rattle.booth_raft.proofs.FactsLemmas.{leaves}
use Rattle.booth_raft.proofs.KeptLemmas.{renew_good}
use Rattle.booth_raft.proofs.machine.Core.renew.Goals as goal

pub invariant_of-self : goal.invariant_of-self
invariant_of-self c =
    let nothing : c.self.inside.view.waiting ≡ None = ap (λ (s : State). s.view.waiting) c.self.view_is ∙ c.requires.idle in
    record {
      sound = c.self.invariant.sound;
      second = c.self.invariant.second;
      facts = (leaves _ c.args.now _ _ c.renew.result c.renew.ensures.view c.renew.ensures.deed (renew_good _ _ _ c.requires.early nothing c.self.invariant.facts)).facts;
    }

pub returns-clause-waits : goal.returns-clause-waits
returns-clause-waits c =
    let nothing : c.self.inside.view.waiting ≡ None = ap (λ (s : State). s.view.waiting) c.self.view_is ∙ c.requires.idle in
    (leaves c.self.inside.setup c.args.now _ _ _ c.renew.ensures.view c.renew.ensures.deed (renew_good _ _ _ c.requires.early nothing c.self.invariant.facts)).waits
