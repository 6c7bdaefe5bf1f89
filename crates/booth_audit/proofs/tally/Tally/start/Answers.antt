use Rattle.booth_node.specs.Session.{Starts}
use Rattle.booth_audit.proofs.TallyLemmas.{parts_tallied}
use Rattle.booth_audit.proofs.tally.Tally.start.Goals as goal

pub returns : goal.returns
returns c =
    parts_tallied c.args.whose.now c.args.self.now c.self.inside.notes c.self.inside.watch c.self.inside.hearings
    (Starts c.args.whose.now.node c.args.reading c.args.records.now) c.args.line c.self.view_is c.in_ok-start.ensures
    (c.in_ok-start-2.ensures c.args.reading)
    (c.pass.ensures.passed.0 c.args.whose.now c.self.inside.notes.last c.args.line c.args.whose.now.node c.args.reading
    c.args.records.now)
