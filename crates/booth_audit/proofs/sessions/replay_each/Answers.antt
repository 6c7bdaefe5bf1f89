use Rattle.std.proofs.Common.{◌∙◌, arith}
use Rattle.booth_node.specs.View.{state_of}
use Rattle.booth_audit.proofs.SessionLemmas.{going_more, going_none, of_member, session_over, turn_shorter}
use Rattle.booth_audit.proofs.sessions.replay_each.Goals as goal

pub turns-init : goal.turns-init
turns-init c = record {
  member = c.requires.member;
  going = λ left says.
      going_none c.args.whose.now (state_of c.args.node.now) c.args.from.rest.now c.args.from.line left c.args.tally.now says;
}

pub replay_turn-requires : goal.replay_turn-requires
replay_turn-requires c =
    let within = (c.turns.invariant.going c.requires.says.0 c.requires.says.1).still.within in
    let short = c.requires.short in
    omega (arith, within, short)

pub turns-preserved : goal.turns-preserved
turns-preserved c = record {
  member = c.replay_turn.ensures.node ∙ c.turns.invariant.member;
  going = λ left says.
      let going = c.turns.invariant.going left says in
      going_more going
      (of_member c.turns.invariant.member (c.in_ok-turned.ensures.turned going.then_left going.still.says))
      c.in_ok-tally_turn.ensures c.in-None.is;
}

pub turns-smaller : goal.turns-smaller
turns-smaller c =
    let going = c.turns.invariant.going c.requires.says.0 c.requires.says.1 in
    turn_shorter c.args.whose.now
    (of_member c.turns.invariant.member (c.in_ok-turned.ensures.turned going.then_left going.still.says)) c.in-None.is

pub left_behind-requires : goal.left_behind-requires
left_behind-requires c =
    let going = c.turns.invariant.going c.requires.says.0 c.requires.says.1 in
    let within = going.still.within in
    let then_within = (c.in_ok-turned.ensures.turned going.then_left going.still.says).within in
    let short = c.requires.short in
    omega (arith, within, then_within, short)

pub returns-in-Some : goal.returns-in-Some
returns-in-Some c left says =
    let going = c.turns.invariant.going left says in
    session_over going
    (of_member c.turns.invariant.member (c.in_ok-turned.ensures.turned going.then_left going.still.says))
    c.in_ok-tally_turn.ensures c.in-Some.how c.in-Some.is c.left_behind.ensures
