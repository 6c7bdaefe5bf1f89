use Rattle.std.specs.Prelude.{Err, Ok}
use Rattle.std.proofs.Common.{◌<◌, ℕ, List, refl, arith, subst, sym}
use Rattle.booth_stream.proofs.WriteLemmas.{one_part, stopped, all_written, is_wide, is_nil, SoFar}
use Rattle.booth_stream.specs.declared.stream_host.Wrote.TheVariants as wrotes
use Rattle.booth_stream.proofs.stream_host.write_all.Goals as goal

pub returns-in_default-clause-past : goal.returns-in_default-clause-past
returns-in_default-clause-past g c =
    stopped c.args.number c.args.bytes.now c.writing.rest.now (Err c.in_default.field-0) wrotes.Fault c.writing.invariant.so_far
    c.in_default.ensures.past (is_wide c.writing.rest.now c.writing-test.ensures) refl

pub returns-then-taken-eq0-clause-past : goal.returns-then-taken-eq0-clause-past
returns-then-taken-eq0-clause-past g c =
    stopped c.args.number c.args.bytes.now c.writing.rest.now (Ok c.in-Ok.taken) wrotes.Nothing c.writing.invariant.so_far
    c.in-Ok.ensures.past (is_wide c.writing.rest.now c.writing-test.ensures) (c.if-taken-eq0.true, refl)

pub writing-preserved : goal.writing-preserved
writing-preserved g c =
    let some : 0 < c.in-Ok.taken = let not_none = c.if-taken-eq0.false in omega (arith, not_none) in
    let part = one_part c.args.number c.args.bytes.now c.writing.rest.now c.in-Ok.taken c.writing.invariant.so_far
    c.in-Ok.ensures.past some c.in-Ok.ensures.fits in
    record {
      so_far = subst (λ (l : List ℕ). SoFar c.args.number c.args.bytes.now l (g.L.Links.past c.args.links.now)
          (g.L.Links.past c.write.new.self)) (sym c.split_at.ensures.back) part;
      later = let a = c.writing.invariant.later in let b = c.write.ensures.cause.later in omega (arith, a, b);
    }

pub returns-clause-past : goal.returns-clause-past
returns-clause-past g c =
    all_written c.args.number c.args.bytes.now c.writing.rest.now c.writing.invariant.so_far
    (is_nil c.writing.rest.now c.writing-test.ensures)
