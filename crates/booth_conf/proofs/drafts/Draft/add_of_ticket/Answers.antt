use Rattle.std.proofs.Common.{rules}
use Rattle.booth_conf.specs.Rules.{Summary}
use Rattle.booth_conf.proofs.LastLemmas.{placed_answer}
use Rattle.booth_conf.proofs.drafts.Draft.add_of_ticket.Goals as goal

pub returns-then-len-gt0 : goal.returns-then-len-gt0
returns-then-len-gt0 c =
    let d : Summary = record { top = c.self.inside.top; members = c.self.inside.members; defaults = c.self.inside.defaults; tickets = c.self.inside.tickets } in
    rw (← c.self.view_is) (placed_answer c.add.result d c.add.new.self c.args.entry (search rules) c.add.ensures)
