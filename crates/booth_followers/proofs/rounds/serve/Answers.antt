use Rattle.std.proofs.Common.{◌∙◌, ℕ, refl, sym, subst, arith}
use Rattle.std.specs.Prelude.{List}
use Rattle.booth_host.specs.Past.{GrewSome}
use Rattle.booth_following.specs.declared.following.Seat.{Seat}
use Rattle.booth_following.specs.declared.turns.FollowEnd.TheVariants.{Left, Spent}
use Rattle.booth_following.specs.Turns.{first_seat}
use Rattle.booth_followers.specs.Rounds.{AreMade, IsReadAgain}
use Rattle.booth_followers.proofs.RoundLemmas.{exhausted, finished, no_round, one_more_round}
use Rattle.booth_followers.proofs.rounds.serve.Goals as goal

pub loop-round-init : goal.loop-round-init
loop-round-init g c = record {
  past = subst (λ (s : Seat).
      GrewSome (AreMade c.args.service.now.conf c.args.service.now.following c.args.service.now.following (first_seat c.args.service.now.following c.args.setting.now.left) s 0)
      (g.H.Host.past c.args.host.now) (g.H.Host.past c.args.host.now))
      (sym c.first-seat.ensures)
      (no_round c.args.service.now.conf c.args.service.now.following (first_seat c.args.service.now.following c.args.setting.now.left));
  conf = refl;
  later = omega arith;
}

pub returns-in-Left-clause-past : goal.returns-in-Left-clause-past
returns-in-Left-clause-past g c =
    finished c.args.setting.now.left c.args.service.now.conf c.args.service.now.following c.loop-round.service.following c.loop-round.seat
    c.follow-end.new.seat c.loop-round._round Left c.done.result.outcome c.done.result.said c.done.ensures.ends c.loop-round.invariant.past c.in-Left.ensures.past

pub returns-in-Spent-clause-past : goal.returns-in-Spent-clause-past
returns-in-Spent-clause-past g c =
    finished c.args.setting.now.left c.args.service.now.conf c.args.service.now.following c.loop-round.service.following c.loop-round.seat
    c.follow-end.new.seat c.loop-round._round Spent c.spent.result.outcome c.spent.result.said c.spent.ensures.ends c.loop-round.invariant.past c.in-Spent.ensures.past

pub loop-round-preserved : goal.loop-round-preserved
loop-round-preserved g c = record {
  past =
      one_more_round c.args.service.now.conf c.args.service.now.following c.loop-round.service.following c.read_again.new.service.following
      (first_seat c.args.service.now.following c.args.setting.now.left) c.loop-round.seat c.follow-end.new.seat c.loop-round._round
      c.loop-round.invariant.past c.in-Unheard.ensures.past
      (subst (λ (conf : List ℕ). GrewSome (IsReadAgain conf c.loop-round.service.following c.read_again.new.service.following) (g.H.Host.past c.follow-end.new.host)
      (g.H.Host.past c.read_again.new.host)) c.loop-round.invariant.conf c.read_again.ensures.past);
  conf = c.read_again.ensures.conf ∙ c.loop-round.invariant.conf;
  later = omega (arith, c.loop-round.invariant.later, c.follow-end.ensures.later, c.read_again.ensures.later);
}

pub returns-clause-past : goal.returns-clause-past
returns-clause-past g c =
    exhausted c.args.setting.now.left c.args.service.now.conf c.args.service.now.following c.loop-round.service.following c.loop-round.seat
    c.loop-round._round c.spent-2.result.outcome c.spent-2.result.said c.spent-2.ensures.ends
    (let test = c.loop-round-test.false in let end = c.loop-round.auto._round-end in omega (arith, test, end)) c.loop-round.invariant.past
