use Rattle.std.proofs.Common.{rules, ◌≡◌}
use Rattle.booth_wire.specs.PlainMessage.{plain_of}
use Rattle.booth_audit.proofs.SendsLemmas.{on_kept, sent_one}
use Rattle.booth_audit.proofs.sends.Sends.read.Goals as goal

pub returns : goal.returns
returns c =
    let own : c.in-Ok.message.head.from ≡ c.args.id = search rules in
    on_kept c.keep.result
    (sent_one c.args.self.now c.keep.new.self c.args.id c.args.bytes.now (plain_of c.in-Ok.message)
    c.in-Ok.ensures.exact c.in-Ok.ensures.fits own)
    c.keep.ensures
