use Rattle.booth_audit.proofs.SendsLemmas.{sent_more}
use Rattle.booth_audit.proofs.sends.Sends.read_all.Goals as goal

pub loop-bytes-preserved : goal.loop-bytes-preserved
loop-bytes-preserved c =
    sent_more c.args.self.now c.loop-bytes.self c.read.new.self c.args.id c.args.sent.now c.loop-bytes.bytes-index
    c.bytes-item.result c.bytes.result.now c.loop-bytes-test.true c.bytes-item.is c.bytes.ensures c.loop-bytes.invariant
    c.in_ok-read.ensures
