use Rattle.std.proofs.Common.{sym, ap, ◌∙◌}
use Rattle.std.specs.Prelude.{Some}
use Rattle.booth_attr.specs.declared.pair.Pair.{Pair}
use Rattle.booth_attr.proofs.PoolLemmas.{exists_in}
use Rattle.booth_attr.proofs.ChangeLemmas.{stands_at, value_found, value_absent, absent}
use Rattle.booth_attr.proofs.attrs.Attrs.get.Goals as goal

pub returns-in-Some-clause-value : goal.returns-in-Some-clause-value
returns-in-Some-clause-value c =
    let at = stands_at _ c.args.ticket c.args.name.now _ (exists_in _ _ _ c.self.view_is c.requires) c.in-Some.ensures in
    ap (λ (p : Pair). Some p.value) (c.at.ensures at)
    ∙ sym (value_found _ _ c.args.ticket c.args.name.now _ c.self.invariant c.self.view_is c.in-Some.ensures)

pub returns-in-None-clause-value : goal.returns-in-None-clause-value
returns-in-None-clause-value c =
    sym (value_absent c.args.self.now c.args.ticket c.args.name.now (absent _ c.args.self.now c.args.ticket c.args.name.now c.self.view_is c.in-None.ensures))
