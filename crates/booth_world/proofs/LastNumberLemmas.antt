-- What comes at the last number.
use Rattle.std.proofs.Common.{◌≡◌, ℕ, ◌+◌, false, refl, sym, subst, if◌then◌else◌}
use Rattle.std.specs.Prelude.{Option, Some, None, ◌==◌}
use Rattle.booth_wire.specs.declared.message.Setup.{Setup}
use Rattle.booth_raft.specs.declared.view.TheConstants.{LAST_NUMBER}
use Rattle.booth_raft.specs.declared.view.Round.{Round}
use Rattle.booth_raft.specs.declared.view.View.{View}
use Rattle.booth_raft.specs.AskAndRenew.{needs_term, renew, renew_by_term, renew_in_term, runs_out}
use Rattle.booth_raft.specs.Outcome.{Outcome}
use Rattle.booth_ticket.proofs.CaseLemmas.{is_number, when_false, when_true}
use Rattle.booth_world.specs.LastNumbers.{LastNumbers}

last_round : (setup : Setup) (view : View) (round : Round) (now : ℕ) → view.round ≡ Some round → round.number ≡ 4294967295
    → needs_term setup view round ≡ false → renew setup view now ≡ runs_out view
last_round setup view round now is last unneeded =
    subst
    (λ (o : Option Round).
    (elim o [
      | None ↦ renew_by_term setup view now
      | Some r ↦
          if needs_term setup view r then renew_by_term setup view now else
          if r.number == LAST_NUMBER then runs_out view else
          renew_in_term setup view (r.number + 1) now
    ]) ≡ runs_out view)
    (sym is)
    (when_false (λ (x : Outcome). x ≡ runs_out view) (needs_term setup view round) _ _ unneeded
    (when_true (λ (x : Outcome). x ≡ runs_out view) (round.number == LAST_NUMBER) (runs_out view) _ (is_number round.number LAST_NUMBER last) refl))

pub last_numbers : LastNumbers
last_numbers = record { round = last_round; job = refl; job_again = refl; counter = refl; counter_stays = refl }
