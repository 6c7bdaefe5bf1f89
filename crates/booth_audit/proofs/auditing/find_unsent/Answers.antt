use Rattle.std.proofs.Common.{List, ap, arith, length, subst, sym}
use Rattle.booth_audit.specs.declared.exchanges.Exchange.{Exchange}
use Rattle.booth_audit.specs.Judging.{AreExchanges}
use Rattle.booth_audit.proofs.HeardLemmas.{exchanges_count, sent_by_told}
use Rattle.booth_audit.proofs.auditing.find_unsent.Goals as goal

pub check_exchanges-requires : goal.check_exchanges-requires
check_exchanges-requires c =
    let count = exchanges_count c.args.config.now.members c.args.all.now c.in-Ok.exchanges.items c.in-Ok.ensures in
    let few = c.requires.few in
    omega (arith, count, few, ap (λ (l : List Exchange). length l) c.deref.ensures.value)

pub returns-in-Ok : goal.returns-in-Ok
returns-in-Ok c =
    sent_by_told c.args.config.now.members c.args.all.now c.deref.result.now c.check_exchanges.result
    (subst (λ (l : List Exchange). AreExchanges c.args.config.now.members c.args.all.now l) (sym c.deref.ensures.value) c.in-Ok.ensures)
    c.check_exchanges.ensures
