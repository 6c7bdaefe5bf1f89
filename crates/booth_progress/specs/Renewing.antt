-- One renewal: a leader opens a round, members that are behind it answer, and it has a longer lease.
use Rattle.std.specs.Prelude.{◌≡◌, ◌⊎◌, ℕ, ◌+◌, ◌<◌, ◌≤◌, List, [], ◌∷◌, true, Bool, Some}
use Rattle.booth_base.specs.declared.limits.TheConstants.{MEMBERS}
use Rattle.booth_base.specs.Times.{promise_of}
use Rattle.booth_wire.specs.declared.message.Head.{Head}
use Rattle.booth_wire.specs.declared.message.Say.{Say}
use Rattle.booth_wire.specs.declared.message.Say.TheVariants as says
use Rattle.booth_wire.specs.declared.message.Setup.{Setup}
use Rattle.booth_wire.specs.declared.message.TicketPart.{TicketPart}
use Rattle.booth_raft.specs.declared.view.Round.{Round}
use Rattle.booth_raft.specs.declared.view.View.{View}
use Rattle.booth_raft.specs.AskAndRenew.{renew}
use Rattle.booth_raft.specs.GainReleaseLost.{own_end}
use Rattle.booth_raft.specs.Members.{is_majority}
use Rattle.booth_raft.specs.Messages.{round_head, round_part}
use Rattle.booth_raft.specs.OtherMessages.{hear}
use Rattle.booth_progress.specs.Behind.{IsBehind}
use Rattle.booth_progress.specs.Extending.{AllHave, AreBelow, Hearing, after_hearing, after_hearings}
use Rattle.booth_progress.specs.Kept.{all_kept}
use Rattle.booth_progress.specs.Leading.{HasTermsLeft, IsLeading}

-- The head that a member hears. The sender sets only the fields for the authentication and the time.
pub record IsHeardAs (sent heard : Head) : Type 0 where
  pub from : heard.from ≡ sent.from
  pub cmd : heard.cmd ≡ sent.cmd
  pub request : heard.request ≡ sent.request
  pub options : heard.options ≡ sent.options
  pub reason : heard.reason ≡ sent.reason
  pub result : heard.result ≡ sent.result

-- The message is heard, from the member at this place.
pub record IsHearingOf (head : Head) (part : TicketPart) (place : ℕ) (hearing : Hearing) : Type 0 where
  pub from : hearing.place ≡ place
  pub head_is : IsHeardAs head hearing.head
  pub part_is : hearing.part ≡ part

abbrev pub IsAmong : Head → TicketPart → ℕ → List Hearing → Type 0
IsAmong head part place [] = ⊥
IsAmong head part place (hearing ∷ hearings) =
    IsHearingOf head part place hearing ⊎ IsAmong head part place hearings

-- The reply of the member at this place is heard.
abbrev pub IsHeardBack : Say → ℕ → List Hearing → Type 0
IsHeardBack (says.Reply head part) place hearings = IsAmong head part place hearings
IsHeardBack say place hearings = ⊥

-- What a member says after a message, if its writes succeed.
abbrev pub said_after : Setup → View → Hearing → Say
said_after setup view hearing =
    (all_kept setup hearing.now
    (hear setup view hearing.place hearing.head hearing.part hearing.now hearing.head.cmd)).deed.say

-- The leader's view after it wanted to renew, if its writes succeed.
abbrev pub after_renewal : Setup → View → ℕ → View
after_renewal setup view now = (all_kept setup now (renew setup view now)).view

-- The member at this place is behind the leader, in the leader's term or an earlier one, when it hears the leader's
-- round. The leader hears its reply.
pub record TakesPart (leader : Setup) (led : View) (opened : ℕ) (round : Round) (hearings : List Hearing)
    (place : ℕ) : Type 0 where
  pub setup : Setup
  pub old : View
  pub since : ℕ
  pub term : ℕ
  pub until : ℕ
  pub hearing : Hearing
  pub behind : IsBehind leader.me since term until hearing.now old
  pub no_later : term ≤ led.term
  pub head : IsHeardAs (round_head leader led round.number) hearing.head
  pub part : hearing.part ≡ round_part leader led opened
  pub back : IsHeardBack (said_after setup old hearing) place hearings

-- Each of these places is the leader's own, or its member takes part.
abbrev pub AllTakePart : Setup → View → ℕ → Round → List Hearing → List ℕ → Type 0
AllTakePart leader led opened round hearings [] = Unit {0}
AllTakePart leader led opened round hearings (place ∷ places) =
    (place < MEMBERS) × ((place ≡ leader.place) ⊎ TakesPart leader led opened round hearings place)
    × AllTakePart leader led opened round hearings places

-- A leader renews. Each member of a majority takes part, and the leader hears the replies, and any other messages,
-- while its old lease runs. Then its lease lasts at least until `expire` after the reading at which it renewed. Each
-- other member that took part is behind the leader for the time of a promise.
pub record RenewalsSucceed : Type 0 where
  pub renewed : (leader : Setup) (old : View) (opened : ℕ) (round : Round) (majority : List ℕ)
      (hearings : List Hearing)
      → leader.times.renewal < leader.times.expire → 1 < leader.members
      → IsLeading leader opened old → HasTermsLeft old
      → ((answers : List Bool) → AllHave majority answers → is_majority leader answers ≡ true)
      → AreBelow opened (own_end old) hearings → (after_renewal leader old opened).round ≡ Some round
      → AllTakePart leader (after_renewal leader old opened) opened round hearings majority
      → opened + leader.times.expire ≤ own_end (after_hearings leader (after_renewal leader old opened) hearings)
  pub left_behind : (leader : Setup) (led : View) (opened : ℕ) (round : Round) (hearings : List Hearing)
      (place : ℕ) → (part : TakesPart leader led opened round hearings place)
      → IsBehind leader.me led.term led.term (part.hearing.now + promise_of part.setup.times) part.hearing.now
      (after_hearing part.setup part.old part.hearing)
