use Rattle.std.proofs.Common.{◌≤◌, ◌+◌, ◌∙◌, ℕ, List, [], ◌∷◌, ap, arith, length, length-append, subst, sym, take}
use Rattle.booth_audit.specs.declared.exchanges.Exchange.{Exchange}
use Rattle.booth_audit.specs.Audit.{id_of}
use Rattle.booth_audit.specs.Judging.{AreExchanges, JudgedSays}
use Rattle.booth_audit.proofs.HeardLemmas.{exchanges_more}
use Rattle.booth_audit.proofs.auditing.exchanges_of.Goals as goal

pub loop-judged-preserved : goal.loop-judged-preserved
loop-judged-preserved c =
    let is = c.judged.view_is in
    let exchange : Exchange = record { id = c.id_of.result; sent = c.sent.result; heard = c.heard.result } in
    record {
      count = omega (
        arith,
        c.loop-judged.invariant.count,
        ap (λ (l : List Exchange). length l) c.push_reserved.ensures.items,
        length-append c.loop-judged.exchanges.items (exchange ∷ []),
      );
      room = subst (λ (n : ℕ). length c.args.all.now ≤ n) (sym c.push_reserved.ensures.capacity) c.loop-judged.invariant.room;
      are = subst
          (λ (l : List Exchange). AreExchanges c.args.config.now.members (take (c.loop-judged.judged-index + 1) c.args.all.now) l)
          (sym c.push_reserved.ensures.items)
          (exchanges_more c.args.config.now.members c.args.all.now c.loop-judged.exchanges.items c.loop-judged.judged-index
          c.judged-item.result exchange c.loop-judged-test.true c.judged-item.is c.loop-judged.invariant.are
          (c.id_of.ensures ∙ ap (λ (j : JudgedSays). id_of c.args.config.now.members j.owner) is)
          (c.sent.ensures ∙ ap (λ (j : JudgedSays). j.tally.noted.sent) is)
          (c.heard.ensures ∙ ap (λ (j : JudgedSays). j.tally.hearings.all) is));
    }
