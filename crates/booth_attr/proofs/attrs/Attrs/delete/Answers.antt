use Rattle.booth_attr.proofs.ChangeLemmas.{removed}
use Rattle.booth_attr.proofs.attrs.Attrs.delete.Goals as goal

pub invariant_of-self : goal.invariant_of-self
invariant_of-self c =
    (removed _ _ _ c.args.ticket _ c.args.name.now _ c.self.invariant c.self.view_is c.requires c.in-Some.ensures c.remove.ensures.removes).sound

pub returns-in-Some-clause-answer : goal.returns-in-Some-clause-answer
returns-in-Some-clause-answer c =
    (removed _ _ _ c.args.ticket _ c.args.name.now _ c.self.invariant c.self.view_is c.requires c.in-Some.ensures c.remove.ensures.removes).answer_is

pub returns-in-Some-clause-after : goal.returns-in-Some-clause-after
returns-in-Some-clause-after c =
    (removed _ _ _ c.args.ticket _ c.args.name.now _ c.self.invariant c.self.view_is c.requires c.in-Some.ensures c.remove.ensures.removes).after

pub returns-in-Some-clause-sound : goal.returns-in-Some-clause-sound
returns-in-Some-clause-sound c = invariant_of-self c

pub returns-in-Some-clause-tickets : goal.returns-in-Some-clause-tickets
returns-in-Some-clause-tickets c =
    (removed _ _ _ c.args.ticket _ c.args.name.now _ c.self.invariant c.self.view_is c.requires c.in-Some.ensures c.remove.ensures.removes).tickets
