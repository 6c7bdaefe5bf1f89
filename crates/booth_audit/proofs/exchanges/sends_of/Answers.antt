use Rattle.std.proofs.Common.{arith, take}
use Rattle.booth_audit.specs.Exchanges.{senders_in}
use Rattle.booth_audit.proofs.ExchangeLemmas.{senders_all, senders_more}
use Rattle.booth_audit.proofs.exchanges.sends_of.Goals as goal

pub loop-exchange-preserved : goal.loop-exchange-preserved
loop-exchange-preserved c =
    senders_more c.add.new.self c.args.exchanges.now c.loop-exchange.exchange-index c.exchange-item.result
    c.loop-exchange-test.true c.exchange-item.is
    (c.in_ok-add.ensures (senders_in (take c.loop-exchange.exchange-index c.args.exchanges.now))
    c.loop-exchange.invariant)

pub returns : goal.returns
returns c =
    senders_all c.loop-exchange.sends c.args.exchanges.now c.loop-exchange.exchange-index
    (let over = c.loop-exchange-test.false in omega (arith, over)) c.loop-exchange.invariant
