use Rattle.std.proofs.Common.{◌∙◌, ap, ℕ}
use Rattle.booth_node.specs.Session.{Makes}
use Rattle.booth_audit.specs.Hearings.{hearings_noted}
use Rattle.booth_audit.proofs.TallyLemmas.{parts_tallied}
use Rattle.booth_audit.proofs.tally.Tally.call.Goals as goal

pub returns : goal.returns
returns c =
    parts_tallied c.args.whose.now c.args.self.now c.self.inside.notes c.self.inside.watch c.self.inside.hearings
    (Makes c.args.entry.now) c.args.line c.self.view_is c.in_ok-call-3.ensures (c.in_ok-call-2.ensures c.args.line)
    (c.in_ok-call.ensures
    ∙ ap (λ (n : ℕ). hearings_noted c.args.whose.now n c.self.inside.hearings (record { what = Makes c.args.entry.now; line = c.args.line }))
    c.last-last.ensures)
