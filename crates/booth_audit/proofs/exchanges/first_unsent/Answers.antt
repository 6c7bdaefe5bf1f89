use Rattle.std.proofs.Common.{◌∙◌, arith, List, subst, sym, ℕ}
use Rattle.booth_audit.specs.Sends.{KnowsAll}
use Rattle.booth_audit.proofs.ExchangeLemmas.{first_in, none_unsent, well_all, well_more}
use Rattle.booth_audit.proofs.exchanges.first_unsent.Goals as goal

pub returns-in-Some : goal.returns-in-Some
returns-in-Some c senders knows =
    let known_now =
    subst (λ (frames : List (List ℕ)). KnowsAll frames senders) (sym c.loop-journal.invariant.same) knows in
    first_in senders c.args.exchanges.now c.loop-journal.journal c.index-exchanges-journal.result
    c.loop-journal-test.true c.index-exchanges-journal.is (c.loop-journal.invariant.well senders knows) c.in-Some.line
    (c.in-Some.ensures.first senders known_now)

pub loop-journal-preserved : goal.loop-journal-preserved
loop-journal-preserved c = record {
  same = c.first_unsent.ensures.same ∙ c.loop-journal.invariant.same;
  well = λ senders knows.
      let known_now =
      subst (λ (frames : List (List ℕ)). KnowsAll frames senders) (sym c.loop-journal.invariant.same) knows in
      well_more senders c.args.exchanges.now c.loop-journal.journal c.index-exchanges-journal.result
      c.loop-journal-test.true c.index-exchanges-journal.is (c.loop-journal.invariant.well senders knows)
      (none_unsent senders c.index-exchanges-journal.result.heard.now c.first_unsent.result c.in_default.is
      (c.first_unsent.ensures.first senders known_now));
}

pub returns : goal.returns
returns c senders knows =
    well_all senders c.args.exchanges.now c.loop-journal.journal
    (let over = c.loop-journal-test.false in omega (arith, over))
    (c.loop-journal.invariant.well senders knows)
