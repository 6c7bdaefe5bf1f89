use Rattle.booth_attr.proofs.ChangeLemmas.{stands_at, replaced}
use Rattle.booth_attr.proofs.PoolLemmas.{exists_in}
use Rattle.booth_attr.proofs.attrs.Attrs.set.Goals as goal

pub replace-requires : goal.replace-requires
replace-requires c = stands_at _ c.args.ticket c.args.name.now _ (exists_in _ _ _ c.self.view_is c.requires) c.in-Some.ensures

pub invariant_of-self : goal.invariant_of-self
invariant_of-self c =
    (replaced _ _ _ c.args.ticket _ c.args.name.now c.args.value.now _ _ c.self.invariant c.self.view_is c.requires c.copy.ensures c.copy-2.ensures c.in-Some.ensures c.replace.ensures.replaces).sound

pub returns-in-Some-clause-answer : goal.returns-in-Some-clause-answer
returns-in-Some-clause-answer c =
    (replaced _ _ _ c.args.ticket _ c.args.name.now c.args.value.now _ _ c.self.invariant c.self.view_is c.requires c.copy.ensures c.copy-2.ensures c.in-Some.ensures c.replace.ensures.replaces).answer_is

pub returns-in-Some-clause-after : goal.returns-in-Some-clause-after
returns-in-Some-clause-after c =
    (replaced _ _ _ c.args.ticket _ c.args.name.now c.args.value.now _ _ c.self.invariant c.self.view_is c.requires c.copy.ensures c.copy-2.ensures c.in-Some.ensures c.replace.ensures.replaces).after

pub returns-in-Some-clause-sound : goal.returns-in-Some-clause-sound
returns-in-Some-clause-sound c = invariant_of-self c

pub returns-in-Some-clause-tickets : goal.returns-in-Some-clause-tickets
returns-in-Some-clause-tickets c =
    (replaced _ _ _ c.args.ticket _ c.args.name.now c.args.value.now _ _ c.self.invariant c.self.view_is c.requires c.copy.ensures c.copy-2.ensures c.in-Some.ensures c.replace.ensures.replaces).tickets
