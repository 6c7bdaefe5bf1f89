use Rattle.std.proofs.Common.{◌≡◌, ◌∙◌, arith, true, List, subst, sym, ℕ}
use Rattle.booth_audit.specs.Sends.{IsHeardOf, KnowsAll}
use Rattle.booth_audit.proofs.SendsLemmas.{all_known, first_here, known_more}
use Rattle.booth_audit.proofs.sends.Sends.first_unsent.Goals as goal

pub returns-then-not-was_sent-clause-first : goal.returns-then-not-was_sent-clause-first
returns-then-not-was_sent-clause-first c senders knows =
    let known_now =
    subst (λ (frames : List (List ℕ)). KnowsAll frames senders) (sym c.loop-hears.invariant.same) knows in
    first_here senders c.args.heard.now c.loop-hears.hears-index c.hears-item.result
    c.loop-hears-test.true c.hears-item.is (c.loop-hears.invariant.sent senders knows)
    (λ heard.
    let yes : c.was_sent.result ≡ true =
    (c.was_sent.ensures.sent senders known_now).1 (subst (IsHeardOf senders) (sym c.bytes.ensures) heard) in
    let no = c.if-not-was_sent.true in absurd cc)

pub loop-hears-preserved : goal.loop-hears-preserved
loop-hears-preserved c = record {
  same = c.was_sent.ensures.same ∙ c.loop-hears.invariant.same;
  sent = λ senders knows.
      let known_now =
      subst (λ (frames : List (List ℕ)). KnowsAll frames senders) (sym c.loop-hears.invariant.same) knows in
      let yes : c.was_sent.result ≡ true = (let no = c.if-not-was_sent.false in cc) in
      known_more senders c.args.heard.now c.loop-hears.hears-index c.hears-item.result
      c.loop-hears-test.true c.hears-item.is (c.loop-hears.invariant.sent senders knows)
      (subst (IsHeardOf senders) c.bytes.ensures ((c.was_sent.ensures.sent senders known_now).0 yes));
}

pub returns-clause-first : goal.returns-clause-first
returns-clause-first c senders knows =
    all_known senders c.args.heard.now c.loop-hears.hears-index
    (let over = c.loop-hears-test.false in omega (arith, over))
    (c.loop-hears.invariant.sent senders knows)
