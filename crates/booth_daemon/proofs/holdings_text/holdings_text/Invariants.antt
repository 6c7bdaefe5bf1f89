use Rattle.std.proofs.Common.{◌≡◌, take}
use Rattle.booth_daemon.specs.Auditing.{holdings_text}
use Rattle.booth_daemon.proofs.holdings_text.holdings_text.Given as goal

abbrev pub invariant-loop-held : goal.invariant-loop-held
invariant-loop-held l = l.text.items ≡ holdings_text l.config (take l.held-index l.holdings)
