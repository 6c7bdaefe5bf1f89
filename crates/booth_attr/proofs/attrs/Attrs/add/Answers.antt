use Rattle.std.proofs.Common.{arith, rules}
use Rattle.booth_attr.proofs.ChangeLemmas.{added, pool_full}
use Rattle.booth_attr.proofs.attrs.Attrs.add.Goals as goal
use Rattle.booth_attr.proofs.attrs.Attrs.add.Goals.{in-Ok, in-Err}

pub invariant_of-self : goal.invariant_of-self
invariant_of-self c = elim c.match-push_back.branch [
  | in-Ok w ↦ (added _ _ _ _ _ c.args.pair c.self.invariant c.self.view_is c.requires.exists c.requires.is_new (omega (arith, c.count.ensures)) w.in-Ok.ensures.pushed).sound
  | in-Err w ↦ (pool_full _ _ _ c.args.ticket c.args.pair c.self.invariant c.self.view_is c.requires.is_new (w.in-Err.ensures.full.0 (search rules)) w.in-Err.ensures.unchanged).sound
]

pub returns-clause-after : goal.returns-clause-after
returns-clause-after c = elim c.match-push_back.branch [
  | in-Ok w ↦ (added _ _ _ _ _ c.args.pair c.self.invariant c.self.view_is c.requires.exists c.requires.is_new (omega (arith, c.count.ensures)) w.in-Ok.ensures.pushed).after
  | in-Err w ↦ (pool_full _ _ _ c.args.ticket c.args.pair c.self.invariant c.self.view_is c.requires.is_new (w.in-Err.ensures.full.0 (search rules)) w.in-Err.ensures.unchanged).after
]

pub returns-clause-sound : goal.returns-clause-sound
returns-clause-sound c = invariant_of-self c

pub returns-clause-tickets : goal.returns-clause-tickets
returns-clause-tickets c = elim c.match-push_back.branch [
  | in-Ok w ↦ (added _ _ _ _ _ c.args.pair c.self.invariant c.self.view_is c.requires.exists c.requires.is_new (omega (arith, c.count.ensures)) w.in-Ok.ensures.pushed).tickets
  | in-Err w ↦ (pool_full _ _ _ c.args.ticket c.args.pair c.self.invariant c.self.view_is c.requires.is_new (w.in-Err.ensures.full.0 (search rules)) w.in-Err.ensures.unchanged).tickets
]
