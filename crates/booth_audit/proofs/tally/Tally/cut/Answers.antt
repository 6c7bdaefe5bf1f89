use Rattle.booth_node.specs.Session.{IsCut}
use Rattle.booth_audit.specs.Turns.{cut_of}
use Rattle.booth_audit.proofs.TallyLemmas.{parts_tallied}
use Rattle.booth_audit.proofs.tally.Tally.cut.Goals as goal

pub returns : goal.returns
returns c =
    parts_tallied c.args.whose.now c.args.self.now c.self.inside.notes c.self.inside.watch c.self.inside.hearings
    (IsCut (cut_of c.args.entry.now)) c.args.line c.self.view_is c.in_ok-cut-2.ensures (c.in_ok-cut.ensures c.args.line)
    (c.pass.ensures.passed.1 c.args.whose.now c.self.inside.notes.last c.args.line (cut_of c.args.entry.now))
