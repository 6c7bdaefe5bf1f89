use Rattle.std.proofs.Common.{◌/◌, List, sym, subst}
use native.Mathlib.Nat.{div-le_self}
use Rattle.booth_real.specs.Waiting.{AreWithin}
use Rattle.booth_real.specs.declared.backlog.Held.{Held}
use Rattle.booth_real.specs.declared.backlog.TheConstants.{BACKLOG_BYTES}
use Rattle.booth_real.proofs.SharingLemmas.{within_none}
use Rattle.booth_real.proofs.backlog.Backlog.divide.Goals as goal

pub invariant_of-self-clause-part : goal.invariant_of-self-clause-part
invariant_of-self-clause-part c = div-le_self BACKLOG_BYTES c.args.sockets

pub invariant_of-self-clause-fair : goal.invariant_of-self-clause-fair
invariant_of-self-clause-fair c =
    subst (λ (hs : List Held). AreWithin (BACKLOG_BYTES / c.args.sockets) hs) (sym c.clear.ensures.empty)
    (within_none (BACKLOG_BYTES / c.args.sockets))
