-- By the steady rules a leader whose round was refused, or not won, asks in a new term.
use Rattle.std.specs.Prelude.{◌≡◌, ◌≢◌, ℕ, ◌<◌, ◌≤◌, true, false, Some}
use Rattle.std.specs.Option.{ForSome}
use Rattle.booth_base.specs.declared.address.MemberId.{MemberId}
use Rattle.booth_wire.specs.declared.codes.results.TheConstants.{TODT}
use Rattle.booth_wire.specs.declared.command.Cmd.TheVariants.{Rjc}
use Rattle.booth_wire.specs.declared.message.Head.{Head}
use Rattle.booth_wire.specs.declared.message.TicketPart.{TicketPart}
use Rattle.booth_wire.specs.declared.message.Setup.{Setup}
use Rattle.booth_raft.specs.declared.deed.Want.TheVariants as wants
use Rattle.booth_raft.specs.declared.view.Round.{Round}
use Rattle.booth_raft.specs.declared.view.View.{View}
use Rattle.booth_raft.specs.AskAndRenew.{next_term, renew}
use Rattle.booth_raft.specs.Deadlines.{due_now}
use Rattle.booth_raft.specs.OtherMessages.{hear}
use Rattle.booth_raft.specs.Outcome.{Outcome, wanting}
use Rattle.booth_raft.specs.RoundsAndAnswers.{MayAnswer}
use Rattle.booth_progress.specs.Kept.{AllKept}
use Rattle.booth_progress.specs.Leading.{HasTermsLeft, IsLeading, OpensRound}

-- The message refuses the round, because its sender voted for another site in the round's term.
pub record IsRefusalOf (round : Round) (head : Head) (part : TicketPart) : Type 0 where
  pub result : head.result ≡ TODT
  pub number : head.options ≡ round.number
  pub term : part.term ≡ round.term

-- The member has seen a term above its own, and its own term is unchanged.
pub record HasSeenMore (old : View) (outcome : Outcome) : Type 0 where
  pub same : outcome.view.term ≡ old.term
  pub above : outcome.view.term < outcome.view.seen

-- The new round is in the term after each term that the member had or had seen.
pub record AsksInNewTerm (setup : Setup) (now : ℕ) (old : View) (outcome : Outcome) : Type 0 where
  pub opens : OpensRound setup now old outcome
  pub term : outcome.view.term ≡ next_term old

-- Nothing keeps the member from an answer to the site in a new term. It does not abstain, no lease of its own may be in
-- force, and no promise to another member is live.
pub record IsFree (site : MemberId) (now : ℕ) (view : View) : Type 0 where
  pub rested : view.abstain ≤ now
  pub unforced : view.force ≤ now
  pub unpromised : ForSome view.promise (λ promise. promise.to ≢ site → promise.until ≤ now)

-- A leader follows the steady rules. A refusal of its open round leaves it with a greater term seen. If it has seen a
-- greater term, it does not repeat its round at its deadline. If its round is not won, or if it has seen a greater
-- term, its renewal opens a round in a new term. A member that is free may answer a round in a new term.
pub record LeadersTakeNewTerms : Type 0 where
  pub refused : (setup : Setup) (view : View) (now place : ℕ) (head : Head) (part : TicketPart) (round : Round)
      → setup.steady ≡ true → IsLeading setup now view
      → view.round ≡ Some round → round.won ≡ false → view.term < 4294967295 → IsRefusalOf round head part
      → AllKept setup now (HasSeenMore view) (hear setup view place head part now Rjc)
  pub due : (setup : Setup) (view : View) (now : ℕ) → setup.steady ≡ true → IsLeading setup now view
      → view.term < view.seen → due_now setup view now ≡ wanting view wants.Renew
  pub unwon : (setup : Setup) (view : View) (now : ℕ) → setup.steady ≡ true → 1 < setup.members
      → IsLeading setup now view → HasTermsLeft view → ForSome view.round (λ round. round.won ≡ false)
      → AllKept setup now (AsksInNewTerm setup now view) (renew setup view now)
  pub seen : (setup : Setup) (view : View) (now : ℕ) → 1 < setup.members → IsLeading setup now view
      → HasTermsLeft view → view.term < view.seen
      → AllKept setup now (AsksInNewTerm setup now view) (renew setup view now)
  pub free : (view : View) (site : MemberId) (term now : ℕ) → IsFree site now view → view.term < term
      → MayAnswer view site term now
