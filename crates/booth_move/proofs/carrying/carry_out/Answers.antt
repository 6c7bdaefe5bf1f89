use Rattle.std.proofs.Common.{◌≡◌, ◌≤◌, ◌+◌, ◌*◌, ℕ, List, Option, None, Ok, ap, subst, ◌∙◌, arith}
use Rattle.booth_talk.specs.declared.wait.TheConstants.{MOST_PAIRS}
use Rattle.booth_host.specs.Past.{GrewSome}
use Rattle.booth_move.specs.declared.deeds.MoveEnd.{MoveEnd}
use Rattle.booth_move.specs.declared.stage.Stage.{Stage}
use Rattle.booth_move.specs.Bound.{pairs_left}
use Rattle.booth_move.specs.Carrying.{Goes, IsPair, setup_of}
use Rattle.booth_move.specs.Deeds.{move_step, opens}
use Rattle.booth_move.specs.Move.{MoveSetup, Pair}
use Rattle.booth_move.proofs.CarryingLemmas.{begun, finished, one_more_pair, unsent}
use Rattle.booth_move.proofs.carrying.carry_out.Goals as goal

pub loop-pair-init : goal.loop-pair-init
loop-pair-init g c =
    let setup : MoveSetup = c.start-mover.result.setup in
    let first : Pair = record { reading = c.args.start; reply = None } in
    let deed : c.step-first.result ≡ (opens c.args.start).deed =
    c.step-first.ensures.deed ∙ ap (λ (s : Stage). (move_step setup s first).deed) c.start-mover.ensures.stage in
    let stage : c.step-first.new.self.stage ≡ (opens c.args.start).stage =
    c.step-first.ensures.stage ∙ ap (λ (s : Stage). (move_step setup s first).stage) c.start-mover.ensures.stage in
    let left : pairs_left c.step-first.new.self.stage ≡ 36 * MOST_PAIRS = ap (λ (s : Stage). pairs_left s) stage ∙ omega arith in
    record {
      past = begun c.args.moving.now c.args.start c.step-first.result c.step-first.new.self.stage deed stage c.in-Ok.ensures.past;
      setup = c.step-first.ensures.setup ∙ c.start-mover.ensures.setup
          ∙ ap (λ (t : List ℕ). let s : MoveSetup = record (setup_of c.args.moving.now) { ticket = t } in s) c.copy-ticket.ensures;
      some = omega (arith, left);
      left = omega (arith, left);
      later = c.in-Ok.ensures.cause.later;
    }

pub returns-in-Ok-Some-clause-past : goal.returns-in-Ok-Some-clause-past
returns-in-Ok-Some-clause-past g c =
    let old : Stage = c.loop-pair.mover.stage in
    let new : Stage = c.one_pair.new.mover.stage in
    finished c.args.moving.now c.args.start c.loop-pair._pair old new c.in-Ok-Some.end c.loop-pair.invariant.past
    (subst (λ (o : Option MoveEnd). GrewSome (IsPair c.args.moving.now old new (Ok o)) (g.H.Host.past c.loop-pair.host) (g.H.Host.past c.one_pair.new.host))
    c.in-Ok-Some.field-0-is c.in-Ok-Some.ensures.past)

pub returns-in-Err-one_pair-clause-past : goal.returns-in-Err-one_pair-clause-past
returns-in-Err-one_pair-clause-past g c =
    unsent c.args.moving.now c.args.start c.loop-pair._pair c.loop-pair.mover.stage c.one_pair.new.mover.stage c.in-Err-one_pair.failed
    c.loop-pair.invariant.past c.in-Err-one_pair.ensures.past

pub loop-pair-preserved : goal.loop-pair-preserved
loop-pair-preserved g c =
    let old : Stage = c.loop-pair.mover.stage in
    let new : Stage = c.one_pair.new.mover.stage in
    let less : (1 ≤ pairs_left new) × (pairs_left new + 1 ≤ pairs_left old) =
    subst (λ (o : Option MoveEnd). Goes old (Ok o) new) c.in-Ok-None.field-0-is c.in-Ok-None.ensures.goes c.loop-pair.invariant.some in
    record {
      past = one_more_pair c.args.moving.now c.args.start c.loop-pair._pair old new c.loop-pair.invariant.past
          (subst (λ (o : Option MoveEnd). GrewSome (IsPair c.args.moving.now old new (Ok o)) (g.H.Host.past c.loop-pair.host) (g.H.Host.past c.one_pair.new.host))
          c.in-Ok-None.field-0-is c.in-Ok-None.ensures.past);
      setup = c.in-Ok-None.ensures.setup;
      some = less.0;
      left = omega (arith, less.1, c.loop-pair.invariant.left);
      later = omega (arith, c.loop-pair.invariant.later, c.in-Ok-None.ensures.cause.later);
    }
