use Rattle.std.proofs.Common.{◌∙◌, sym}
use Rattle.booth_conf.specs.Config.{same_id}
use Rattle.booth_conf.proofs.FirstLemmas.{given_at, or_some, or_none}
use Rattle.booth_conf.proofs.checks.clash.Goals as goal

pub returns-then-is_some : goal.returns-then-is_some
returns-then-is_some c =
    sym (c.loop-place.invariant ∙ given_at (same_id c.args.members.now) c.args.members.now c.loop-place.place _ c.same_id-found.result c.loop-place-test.true (sym c.same_id-found.ensures)
    ∙ or_some c.same_id-found.result _ (sym c.if-is_some.ensures))

pub loop-place-preserved : goal.loop-place-preserved
loop-place-preserved c =
    c.loop-place.invariant
    ∙ given_at (same_id c.args.members.now) c.args.members.now c.loop-place.place _ c.same_id-found.result c.loop-place-test.true (sym c.same_id-found.ensures)
    ∙ or_none c.same_id-found.result _ (sym c.if-is_some.ensures)
