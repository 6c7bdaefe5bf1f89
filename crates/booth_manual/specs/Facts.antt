-- What holds for every view of a manual ticket.
use Rattle.std.specs.Prelude.{◌≡◌, IsTrue, None, is_some}
use Rattle.std.specs.Option.{ForSome}
use Rattle.booth_rec.specs.declared.record.Record.{Record}
use Rattle.booth_wire.specs.declared.message.Setup.{Setup}
use Rattle.booth_manual.specs.declared.view.Call.{Call}
use Rattle.booth_manual.specs.declared.view.Call.TheVariants as calls
use Rattle.booth_manual.specs.declared.view.ManualView.{ManualView}
use Rattle.booth_manual.specs.GrantAndRevoke.{kept_by_hand}

-- The record that a call of the owner writes: the view's, one with its term and lease, or one with its term and no
-- lease.
abbrev pub Tries : Setup → ManualView → Call → Record → Type 0
Tries setup view calls.Grant tried = tried ≡ view.kept
Tries setup view calls.Again tried = tried ≡ kept_by_hand setup view.kept.term view.kept.lease
Tries setup view calls.Revoke tried = tried ≡ kept_by_hand setup view.term None

-- The record has the view's term, and this site holds the ticket exactly if the record has a lease. While a write
-- waits, this site holds the ticket.
pub record ViewFacts (setup : Setup) (view : ManualView) : Type 0 where
  pub own_term : view.kept.term ≡ view.term
  pub leased : is_some view.kept.lease ≡ view.owner
  pub tried : ForSome view.waiting (λ waits. IsTrue view.owner × Tries setup view waits.call waits.tried)
