use Rattle.booth_audit.proofs.SendsLemmas.{knows_next, on_kept}
use Rattle.booth_audit.proofs.sends.Sends.add.Goals as goal

pub returns : goal.returns
returns c =
    on_kept c.read_all.result (knows_next c.args.self.now c.read_all.new.self c.args.id c.args.sent.now)
    c.read_all.ensures
