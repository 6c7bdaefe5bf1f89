use Rattle.std.proofs.Common.{arith, ap, ◌∙◌, ◌≡◌, ◌++◌}
use Rattle.booth_attr.specs.Lists.{line_of}
use Rattle.booth_attr.proofs.PoolLemmas.{exists_in, length_there}
use Rattle.booth_attr.proofs.WalkLemmas.{here, stands_here, list_begins, list_goes_on, list_whole, passed_all, counted_all}
use Rattle.booth_attr.proofs.attrs.Attrs.list.Goals as goal

pub loop-place-init : goal.loop-place-init
loop-place-init c = list_begins _ _ c.args.into.now _ c.front-next.ensures

pub at-requires : goal.at-requires
at-requires c =
    stands_here _ c.args.ticket _ _ (exists_in _ _ _ c.self.view_is c.requires.exists) (here _ _ _ c.in-Some.node _ c.loop-place.invariant.walked c.in-Some.is)

pub after-next-requires : goal.after-next-requires
after-next-requires c =
    stands_here _ c.args.ticket _ _ (exists_in _ _ _ c.self.view_is c.requires.exists) (here _ _ _ c.in-Some.node _ c.loop-place.invariant.walked c.in-Some.is)

pub put_line-requires : goal.put_line-requires
put_line-requires c =
    record { room = omega (arith, c.requires.room, c.loop-place.invariant.short, c.loop-place-test.true, c.count-place-end.ensures, length_there c.self.inside.chains c.args.ticket, c.self.invariant.few c.args.ticket) }

pub loop-place-preserved : goal.loop-place-preserved
loop-place-preserved c =
    let h = here _ c.args.ticket _ c.in-Some.node _ c.loop-place.invariant.walked c.in-Some.is in
    let at = stands_here _ c.args.ticket _ _ (exists_in _ _ _ c.self.view_is c.requires.exists) h in
    let found : c.at.result.now ≡ h.pair = c.at.ensures at in
    list_goes_on _ _ _ _ _ _ _ _ _ c.loop-place.invariant h (c.put_line.ensures.line ∙ ap (λ p. c.loop-place.into ++ line_of p) found) c.put_line.ensures.short (c.after-next.ensures at)

pub returns-in_default-clause-lines : goal.returns-in_default-clause-lines
returns-in_default-clause-lines c =
    list_whole _ _ _ _ _ _ _ c.self.view_is c.loop-place.invariant (passed_all _ _ _ _ c.loop-place.invariant.walked c.in_default.is)

pub returns-clause-lines : goal.returns-clause-lines
returns-clause-lines c =
    list_whole _ _ _ _ _ _ _ c.self.view_is c.loop-place.invariant (counted_all _ _ _ _ c.loop-place.invariant.walked (omega (arith, c.count-place-end.ensures, c.loop-place-test.false)))
