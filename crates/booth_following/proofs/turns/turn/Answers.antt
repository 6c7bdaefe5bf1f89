use Rattle.std.proofs.Common.{◌∙◌, ap}
use Rattle.booth_follow_rule.specs.declared.state.State.{State}
use Rattle.booth_following.specs.Waits.{running_after}
use Rattle.booth_following.proofs.TurnLemmas.{one_turn}
use Rattle.booth_following.proofs.turns.turn.Goals as goal

pub returns-clause-past : goal.returns-clause-past
returns-clause-past g c =
    one_turn c.args.f.now c.args.seat.now c.step-deed.new.self c.step-deed.result c.standing_at-standing.result c.news_of-said.result c.learnt-heard.result c.is_outdated-outdated.result
    c.failed_left-left.result c.asked_after-seat.result c.told_after-seat.result c.term_after-seat.result c.started_after-seat.result c.failed_after-seat.result c.running_after-seat.result c.wait_of.result c.is_told-told.result
    c.term_heard-term.result c.asks-asking.result c.run-started.result c.send_asked-sent.result c.wait_of.ensures c.next-answer.ensures.past c.now-reading.ensures.past c.run-started.ensures.past c.send_asked-sent.ensures.past
    c.standing_at-standing.ensures c.news_of-said.ensures c.step-deed.ensures.deed c.step-deed.ensures.margins c.step-deed.ensures.state c.failed_left-left.ensures
    c.failed_after-seat.ensures c.term_heard-term.ensures c.is_told-told.ensures c.asks-asking.ensures c.asked_after-seat.ensures c.told_after-seat.ensures
    c.term_after-seat.ensures c.learnt-heard.ensures c.is_outdated-outdated.ensures c.started_after-seat.ensures
    (c.running_after-seat.ensures
    ∙ ap (λ (s : State). running_after c.args.seat.now.running s.run c.learnt-heard.result c.step-deed.result) c.state-before.ensures)
