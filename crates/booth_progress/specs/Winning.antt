-- A leader's open round, over the turns and the session of its node: it stays open until a majority has answered it.
use Rattle.std.specs.Prelude.{◌≡◌, ◌⊎◌, ℕ, ◌+◌, ◌<◌, ◌≤◌, List, [], ◌∷◌, Bool, true, false, None, Some, Ok, Result, length}
use Rattle.booth_host.specs.declared.entry.Entry.TheVariants as calls
use Rattle.booth_host.specs.declared.host.Arrival.{Arrival}
use Rattle.booth_host.specs.declared.host.Arrival.TheVariants as arrivals
use Rattle.booth_host.specs.declared.host.Failed.{Failed}
use Rattle.booth_wire.specs.declared.message.Setup.{Setup}
use Rattle.booth_raft.specs.declared.view.Round.{Round}
use Rattle.booth_raft.specs.declared.view.View.{View}
use Rattle.booth_raft.specs.GainReleaseLost.{own_end, retry_at}
use Rattle.booth_raft.specs.Members.{is_majority}
use Rattle.booth_node.specs.declared.node_config.NodeConfig.{NodeConfig}
use Rattle.booth_node.specs.Jobs.{handler_at}
use Rattle.booth_node.specs.Reaction.{Action, Hears, action, used}
use Rattle.booth_node.specs.Session.{AreSessions, Hearing, Makes, SessionEntry, Stand, after_entries, after_entry}
use Rattle.booth_node.specs.State.{State}
use Rattle.booth_progress.specs.Extending.{AllHave, IsAnswerOf}
use Rattle.booth_progress.specs.Leading.{GrewFrom, HasAnswered, HasTermsLeft, IsLeading, KeepsLease}
use Rattle.booth_progress.specs.Renewing.{after_renewal}
use Rattle.booth_progress.specs.Sessions.{AtReading, EachEntry, IsWell, Stands}
use Rattle.booth_progress.specs.Turns.{HasSomeView, IsNoRevoke}

-- A leader's try to renew: its setup, its view when it opened the round, the places of a majority, the round as it was
-- opened, and the deadline at which the round is sent again.
pub record Attempt : Type 0 where
  pub setup : Setup
  pub start : View
  pub majority : List ℕ
  pub first : Round
  pub deadline : ℕ

-- The answers of these members are a majority. The lease is renewed before it ends, and there are other members.
pub record IsFit (attempt : Attempt) : Type 0 where
  pub enough : (answers : List Bool) → AllHave attempt.majority answers → is_majority attempt.setup answers ≡ true
  pub short : attempt.setup.times.renewal < attempt.setup.times.expire
  pub others : 1 < attempt.setup.members

-- The round is open, with no answer less than at first. It is not won, and a member of the majority has not answered
-- yet. The next deadline is still the one at which the round is sent again.
pub record IsAwaiting (attempt : Attempt) (view : View) : Type 0 where
  pub round : Round
  pub current : view.round ≡ Some round
  pub grew : GrewFrom attempt.first round
  pub unwon : round.won ≡ false
  pub missing : AllHave attempt.majority round.answers → ⊥
  pub due : view.due ≡ Some attempt.deadline

-- The lease lasts at least until `expire` after the opening of the round.
abbrev pub IsRenewed : Attempt → View → Type 0
IsRenewed attempt view = attempt.first.opened + attempt.setup.times.expire ≤ own_end view

-- The leader has kept its lease. The lease is renewed, or the round is open.
pub record Wins (attempt : Attempt) (now : ℕ) (view : View) : Type 0 where
  pub keeps : KeepsLease attempt.setup now attempt.start view
  pub wins : IsRenewed attempt view ⊎ IsAwaiting attempt view

-- The leader has kept its lease, and the lease is renewed.
pub record HasRenewed (attempt : Attempt) (now : ℕ) (view : View) : Type 0 where
  pub keeps : KeepsLease attempt.setup now attempt.start view
  pub renewed : IsRenewed attempt view

-- The attempt of a leader that renews at a reading, with the round that it opens.
abbrev pub attempt_of : Setup → List ℕ → View → ℕ → Round → Attempt
attempt_of setup majority view now round = record {
  setup = setup;
  start = after_renewal setup view now;
  majority = majority;
  first = round;
  deadline = retry_at setup (after_renewal setup view now) now;
}

-- ---- answers

-- The arrival is a datagram whose action has this property.
abbrev pub Brings : NodeConfig → ℕ → State → Result Arrival Failed → List ℕ → (Action → Type 0) → Type 0
Brings node now state (Ok (arrivals.Datagram from)) bytes Holds =
    Holds (action node now state.tickets state.common from bytes)
Brings node now state arrival bytes Holds = ⊥

-- The message is an answer of this member to the round of the ticket at this place.
abbrev pub IsAnswerBy : Attempt → (place now member : ℕ) → Action → Type 0
IsAnswerBy attempt place now member (Hears from ticket head part) =
    (ticket ≡ place) × (member < length attempt.first.answers)
    × IsAnswerOf attempt.setup attempt.first member (record { place = from; head = head; part = part; now = now })
IsAnswerBy attempt place now member met = ⊥

-- The turn's datagram is an answer of this member.
abbrev pub HearsOne : Attempt → ℕ → ℕ → Stand → SessionEntry → Type 0
HearsOne attempt place member (Hearing node old answer bytes) (Makes (calls.Now reading)) =
    Brings node (used old.last_reading reading) old answer bytes
    (IsAnswerBy attempt place (used old.last_reading reading) member)
HearsOne attempt place member stand what = ⊥

-- A turn among these entries hears an answer of this member.
abbrev pub HearsAnswer : Attempt → ℕ → ℕ → Stand → List SessionEntry → Type 0
HearsAnswer attempt place member stand [] = ⊥
HearsAnswer attempt place member stand (entry ∷ entries) =
    HearsOne attempt place member stand entry
    ⊎ HearsAnswer attempt place member (after_entry stand entry) entries

-- The entry is well. A turn reads its clock before the end of the lease and before the deadline, and hears no revoke of
-- the ticket, which has no handler.
pub record IsTimelyEntry (attempt : Attempt) (place : ℕ) (stand : Stand) (what : SessionEntry) : Type 0 where
  pub well : IsWell what
  pub hears : AtReading
      (λ node now. (now < own_end attempt.start) × (now < attempt.deadline) × (handler_at node place ≡ None))
      (IsNoRevoke place) stand what

abbrev pub RestsWinning : Attempt → ℕ → State → Type 0
RestsWinning attempt place state = HasSomeView state place attempt.setup (Wins attempt state.last_reading)

abbrev pub RestsRenewed : Attempt → ℕ → State → Type 0
RestsRenewed attempt place state = HasSomeView state place attempt.setup (HasRenewed attempt state.last_reading)

-- Each of these members had answered the round when it was opened, or a turn hears its answer.
abbrev pub AllAreHeard : Attempt → ℕ → Stand → List SessionEntry → List ℕ → Type 0
AllAreHeard attempt place stand entries [] = Unit {0}
AllAreHeard attempt place stand entries (member ∷ members) =
    (HasAnswered attempt.first.answers member ⊎ HearsAnswer attempt place member stand entries)
    × AllAreHeard attempt place stand entries members

-- A renewal opens a round. Through a session, the round stays open until it is won. If turns hear the answers of all
-- members of the majority, the lease is renewed.
pub record SessionsWin : Type 0 where
  pub begins : (setup : Setup) (majority : List ℕ) (view : View) (now : ℕ) (round : Round)
      → IsFit (attempt_of setup majority view now round) → IsLeading setup now view → HasTermsLeft view
      → (after_renewal setup view now).round ≡ Some round
      → Wins (attempt_of setup majority view now round) now (after_renewal setup view now)
  pub goes_on : (place : ℕ) (attempt : Attempt) (stand : Stand) (entries : List SessionEntry)
      → IsFit attempt → AreSessions stand entries → EachEntry (IsTimelyEntry attempt place) stand entries
      → Stands (RestsWinning attempt place) stand
      → Stands (RestsWinning attempt place) (after_entries stand entries)
  pub renewed : (place : ℕ) (attempt : Attempt) (stand : Stand) (entries : List SessionEntry)
      → IsFit attempt → AreSessions stand entries → EachEntry (IsTimelyEntry attempt place) stand entries
      → Stands (RestsWinning attempt place) stand
      → AllAreHeard attempt place stand entries attempt.majority
      → Stands (RestsRenewed attempt place) (after_entries stand entries)
