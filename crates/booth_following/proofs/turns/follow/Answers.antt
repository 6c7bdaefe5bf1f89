use Rattle.std.proofs.Common.{◌+◌, sym, ap, ◌∙◌, subst, arith}
use Rattle.std.specs.Prelude.{Option}
use Rattle.booth_host.specs.Past.{GrewSome}
use Rattle.booth_following.specs.declared.turns.Awaited.{Awaited}
use Rattle.booth_following.specs.Turns.{IsSilent, IsUnderway, Leaves, is_unheard}
use Rattle.booth_following.proofs.TurnLemmas.{ended_by, no_turn, one_more_turn, stays}
use Rattle.booth_following.proofs.turns.follow.Goals as goal

pub loop-turn-init : goal.loop-turn-init
loop-turn-init g c = record { past = no_turn c.args.f.now c.args.seat.now; later = omega arith }

pub returns-in-Leave-clause-past : goal.returns-in-Leave-clause-past
returns-in-Leave-clause-past g c =
    ended_by c.args.f.now c.args.seat.now c.loop-turn.seat c.turn-made.new.seat c.loop-turn.awaited c.loop-turn._turn c.turn-made.result Leaves
    c.in-Leave.is c.loop-turn.invariant.past c.turn-made.ensures.past

pub returns-then-is_unheard : goal.returns-then-is_unheard
returns-then-is_unheard g c = record {
  past =
      ended_by c.args.f.now c.args.seat.now c.loop-turn.seat c.turn-made.new.seat c.loop-turn.awaited c.loop-turn._turn c.turn-made.result IsSilent (
        stays c.turn-made.result.deed c.in-Nothing.is,
        ap (λ (o : Option Awaited). is_unheard o c.turn-made.result.reading) (sym c.awaited_after-awaited.ensures) ∙ sym c.is_unheard.ensures ∙ c.if-is_unheard.true,
      )
      c.loop-turn.invariant.past c.turn-made.ensures.past;
  later = omega (arith, c.loop-turn.invariant.later, c.turn-made.ensures.later);
}

pub loop-turn-preserved : goal.loop-turn-preserved
loop-turn-preserved g c = record {
  past = subst (λ (o : Option Awaited).
      GrewSome (IsUnderway c.args.f.now c.args.seat.now c.turn-made.new.seat o (c.loop-turn._turn + 1)) (g.H.Host.past c.args.host.now) (g.H.Host.past c.turn-made.new.host))
      (sym c.awaited_after-awaited.ensures)
      (one_more_turn c.args.f.now c.args.seat.now c.loop-turn.seat c.turn-made.new.seat c.loop-turn.awaited c.loop-turn._turn c.turn-made.result
      (ap (λ (o : Option Awaited). is_unheard o c.turn-made.result.reading) (sym c.awaited_after-awaited.ensures) ∙ sym c.is_unheard.ensures ∙ c.if-is_unheard.false)
      c.loop-turn.invariant.past c.turn-made.ensures.past);
  later = omega (arith, c.loop-turn.invariant.later, c.turn-made.ensures.later);
}
