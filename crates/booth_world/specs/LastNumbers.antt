-- The effects of the last number of a round, of a job, and of a counter. No test counts that high.
use Rattle.std.specs.Prelude.{◌≡◌, ℕ, false, Some}
use Rattle.booth_wire.specs.declared.message.Setup.{Setup}
use Rattle.booth_raft.specs.declared.view.Round.{Round}
use Rattle.booth_raft.specs.declared.view.View.{View}
use Rattle.booth_raft.specs.AskAndRenew.{needs_term, renew}
use Rattle.booth_raft.specs.GainReleaseLost.{own_end}
use Rattle.booth_raft.specs.Outcome.{quiet}
use Rattle.booth_node.specs.Counting.{more}
use Rattle.booth_node.specs.Jobs.{number_after}

pub record LastNumbers : Type 0 where
  -- No renewal follows the round with the last number. The lease runs out, and the member handles its deadline at
  -- that time.
  pub round : (setup : Setup) (view : View) (round : Round) (now : ℕ) → view.round ≡ Some round
      → round.number ≡ 4294967295 → needs_term setup view round ≡ false
      → renew setup view now ≡ quiet (record view { due = Some (own_end view) })
  -- The second-to-last job number is followed by the last one, and the last one by the first.
  pub job : number_after 18446744073709551614 ≡ 18446744073709551615
  pub job_again : number_after 18446744073709551615 ≡ 1
  -- A counter stays at its greatest value.
  pub counter : more 18446744073709551614 ≡ 18446744073709551615
  pub counter_stays : more 18446744073709551615 ≡ 18446744073709551615
