use Rattle.booth_wire.specs.PlainMessage.{plain_of}
use Rattle.booth_audit.proofs.SendsLemmas.{heard_so}
use Rattle.booth_audit.proofs.sends.Sends.was_sent.Goals as goal

pub returns-in-Ok-clause-sent : goal.returns-in-Ok-clause-sent
returns-in-Ok-clause-sent c =
    heard_so c.args.self.now c.args.bytes.now (plain_of c.in-Ok.message) c.has.result c.in-Ok.ensures.exact
    c.in-Ok.ensures.fits c.has.ensures.known
