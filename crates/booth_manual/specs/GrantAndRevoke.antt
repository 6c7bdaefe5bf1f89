-- The rules grant, again and revoke: what each writes, and what follows the write.
use Rattle.std.specs.Prelude.{ℕ, ◌+◌, Bool, true, false, nat_le, Option, Some, None, if◌then◌else◌}
use Rattle.booth_rec.specs.declared.record.Lease.{Lease}
use Rattle.booth_rec.specs.declared.record.Record.{Record}
use Rattle.booth_rec.specs.Record.{no_record}
use Rattle.booth_wire.specs.declared.message.Setup.{Setup}
use Rattle.booth_manual.specs.declared.view.TheConstants.{LAST_TERM, NO_END}
use Rattle.booth_manual.specs.declared.view.Call.{Call}
use Rattle.booth_manual.specs.declared.view.Call.TheVariants as calls
use Rattle.booth_manual.specs.declared.view.ManualView.{ManualView}
use Rattle.booth_manual.specs.Messages.{revokes, tells_grant}
use Rattle.booth_manual.specs.Outcome.{Keep, Outcome, quiet, saying}

-- the last term was used: no grant is possible any more
abbrev pub are_terms_spent : ManualView → Bool
are_terms_spent view = nat_le LAST_TERM view.term

-- The record of a term and perhaps a lease, in the version that the rules write. A manual ticket has no promises, so
-- its record has no pledge.
abbrev pub kept_by_hand : Setup → ℕ → Option Lease → Record
kept_by_hand setup term lease =
    record no_record { version = if setup.second then 2 else 1; term = term; lease = lease }

-- a call requests a write, and waits for its result
abbrev pub keeping : ManualView → Call → Record → Keep
keeping view call tried = record {
  view = record view { waiting = Some (record { call = call; tried = tried }) };
  tried = tried;
}

-- ---- grant

-- the record of a grant: a lease without an end, in the term after the view's
abbrev pub granted_record : Setup → ManualView → Record
granted_record setup view =
    kept_by_hand setup (view.term + 1) (Some (record { term = view.term + 1; until = NO_END }))

-- Grant: this site holds the ticket in a new term, whichever owner it knew before
abbrev pub grant : Setup → ManualView → Keep
grant setup view = keeping (record view {
  term = view.term + 1;
  kept = granted_record setup view;
  owner = true;
  shown = None;
}) calls.Grant (granted_record setup view)

-- Grant, after the write: the site announces the grant if the record was written
abbrev pub finish_grant : Setup → ManualView → Bool → Outcome
finish_grant setup view true = saying (record view { sure = true }) (tells_grant setup view.term)
finish_grant setup view false = quiet (record view { sure = false })

-- ---- again

-- Again: the site writes the view's record once more, and announces nothing
abbrev pub again : Setup → ManualView → Keep
again setup view = keeping view calls.Again (kept_by_hand setup view.kept.term view.kept.lease)

abbrev pub finish_again : ManualView → Record → Bool → Outcome
finish_again view tried true = quiet (record view { kept = tried; sure = true })
finish_again view tried false = quiet (record view { sure = false })

-- ---- revoke

-- Revoke: the site writes a record without a lease, and holds the ticket until that is done
abbrev pub revoke : Setup → ManualView → Keep
revoke setup view = keeping view calls.Revoke (kept_by_hand setup view.term None)

-- Revoke, after the write: if the record was written, this site no longer holds the ticket, and announces it
abbrev pub finish_revoke : Setup → ManualView → Record → Bool → Outcome
finish_revoke setup view tried true =
    saying (record view { kept = tried; sure = true; owner = false }) (revokes setup view.term)
finish_revoke setup view tried false = quiet (record view { sure = false })

-- ---- after a write

-- the call that waits continues with the result of its write
abbrev pub goes_on : Setup → ManualView → Call → Record → Bool → Outcome
goes_on setup view calls.Grant tried ok = finish_grant setup view ok
goes_on setup view calls.Again tried ok = finish_again view tried ok
goes_on setup view calls.Revoke tried ok = finish_revoke setup view tried ok

-- no call waits any longer; if none waited, nothing follows
abbrev pub finish : Setup → ManualView → Bool → Outcome
finish setup view ok = elim (view.waiting) [
  | None ↦ quiet view
  | Some waits ↦ goes_on setup (record view { waiting = None }) waits.call waits.tried ok
]
