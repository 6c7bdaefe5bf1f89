use Rattle.booth_daemon.proofs.AuditedStartLemmas.{audits_accept_as_worlds}
use Rattle.booth_daemon.proofs.laws.audits_accept_as_worlds.Goals as goal

pub returns : goal.returns
returns c = audits_accept_as_worlds
