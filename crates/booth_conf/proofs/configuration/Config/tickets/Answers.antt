use Rattle.std.proofs.Common.{List, subst, sym}
use Rattle.std.specs.List.{All}
use Rattle.booth_conf.specs.Sound.{HasTimes}
use Rattle.booth_conf.specs.declared.tickets.TicketConf.{TicketConf}
use Rattle.booth_conf.proofs.TimesLemmas.{tickets_timed}
use Rattle.booth_conf.proofs.configuration.Config.tickets.Goals as goal

pub returns-clause-times : goal.returns-clause-times
returns-clause-times c =
    subst (λ (ts : List TicketConf). All HasTimes ts) (sym c.deref.ensures.value) (tickets_timed _ c.self.invariant.1)
