use Rattle.std.proofs.Common.{arith, sym, ap, ◌∙◌, ◌≡◌, false}
use Rattle.booth_chain.specs.Pool.{items_at}
use Rattle.booth_attr.specs.Lists.{is_named, has_name}
use Rattle.booth_attr.specs.Places.{pairs_in}
use Rattle.booth_attr.proofs.ListLemmas.{named_is}
use Rattle.booth_attr.proofs.WalkLemmas.{here, stands_here, search_begins, search_goes_on, passed_all, counted_all}
use Rattle.booth_attr.proofs.find.node_of.Goals as goal

pub loop-place-init : goal.loop-place-init
loop-place-init c = search_begins _ _ c.args.name.now _ c.front-next.ensures

pub at-requires : goal.at-requires
at-requires c =
    stands_here _ c.args.ticket _ _ c.requires (here _ _ _ c.in_ok-node.node _ c.loop-place.invariant.walked c.in_ok-node.was)

pub after-next-requires : goal.after-next-requires
after-next-requires c =
    stands_here _ c.args.ticket _ _ c.requires (here _ _ _ c.in_ok-node.node _ c.loop-place.invariant.walked c.in_ok-node.was)

pub returns-then-eq : goal.returns-then-eq
returns-then-eq c =
    let h = here _ c.args.ticket _ c.in_ok-node.node _ c.loop-place.invariant.walked c.in_ok-node.was in
    let found : c.at.result.now ≡ h.pair = c.at.ensures (stands_here _ c.args.ticket _ _ c.requires h) in
    record {
      before = c.loop-place.invariant.walked.before;
      pair = h.pair;
      rest = h.rest;
      place = h.place;
      named = named_is c.args.name.now h.pair (ap (is_named c.args.name.now) (sym found) ∙ sym c.eq.ensures ∙ c.if-eq.true);
    }

pub loop-place-preserved : goal.loop-place-preserved
loop-place-preserved c =
    let h = here _ c.args.ticket _ c.in_ok-node.node _ c.loop-place.invariant.walked c.in_ok-node.was in
    let at = stands_here _ c.args.ticket _ _ c.requires h in
    let found : c.at.result.now ≡ h.pair = c.at.ensures at in
    search_goes_on _ _ _ _ _ _ _ c.loop-place.invariant h (ap (is_named c.args.name.now) (sym found) ∙ sym c.eq.ensures ∙ c.if-eq.false) (c.after-next.ensures at)

pub returns-in_err-node : goal.returns-in_err-node
returns-in_err-node c =
    let none : has_name c.args.name.now (pairs_in (items_at c.args.chains.now c.args.ticket)) ≡ false =
    ap (λ es. has_name c.args.name.now (pairs_in es)) (passed_all _ _ _ _ c.loop-place.invariant.walked c.in_err-node.was) ∙ c.loop-place.invariant.none in
    rw c.from_residual.ensures none

pub returns : goal.returns
returns c =
    ap (λ es. has_name c.args.name.now (pairs_in es)) (counted_all _ _ _ _ c.loop-place.invariant.walked (omega (arith, c.count-place-end.ensures, c.loop-place-test.false)))
    ∙ c.loop-place.invariant.none
