-- A leader that hears the answers of a majority in time has a longer lease.
use Rattle.std.specs.Prelude.{◌≡◌, ◌≢◌, ◌⊎◌, ℕ, ◌+◌, ◌<◌, ◌≤◌, Bool, true, false, List, [], ◌∷◌, length, Some}
use Rattle.booth_wire.specs.declared.command.Cmd.TheVariants.{VtFr, Ack}
use Rattle.booth_wire.specs.declared.message.Head.{Head}
use Rattle.booth_wire.specs.declared.message.TicketPart.{TicketPart}
use Rattle.booth_wire.specs.declared.message.Setup.{Setup}
use Rattle.booth_raft.specs.declared.view.Round.{Round}
use Rattle.booth_raft.specs.declared.view.View.{View}
use Rattle.booth_raft.specs.GainReleaseLost.{own_end}
use Rattle.booth_raft.specs.Members.{is_majority}
use Rattle.booth_raft.specs.OtherMessages.{hear}
use Rattle.booth_raft.specs.RoundsAndAnswers.{is_answer_to}
use Rattle.booth_progress.specs.Kept.{all_kept}
use Rattle.booth_progress.specs.Leading.{HasAnswered, IsLeading}

-- A message that is heard at a reading, from the member at a place.
pub record Hearing : Type 0 where
  pub place : ℕ
  pub head : Head
  pub part : TicketPart
  pub now : ℕ

-- The view after a message, and after several messages, if each write succeeds.
abbrev pub after_hearing : Setup → View → Hearing → View
after_hearing setup view hearing =
    (all_kept setup hearing.now
    (hear setup view hearing.place hearing.head hearing.part hearing.now hearing.head.cmd)).view

abbrev pub after_hearings : Setup → View → List Hearing → View
after_hearings setup view [] = view
after_hearings setup view (hearing ∷ hearings) = after_hearings setup (after_hearing setup view hearing) hearings

-- The readings never fall, from one reading on, and stay below another.
abbrev pub AreBelow : ℕ → ℕ → List Hearing → Type 0
AreBelow now limit [] = Unit {0}
AreBelow now limit (hearing ∷ hearings) =
    (now ≤ hearing.now) × (hearing.now < limit) × AreBelow hearing.now limit hearings

-- The message is the answer of the member at this place to the round.
pub record IsAnswerOf (setup : Setup) (round : Round) (place : ℕ) (hearing : Hearing) : Type 0 where
  pub from : hearing.place ≡ place
  pub kind : ((hearing.head.cmd ≡ VtFr) × (hearing.head.options ≡ 0))
      ⊎ ((hearing.head.cmd ≡ Ack) × (hearing.head.options ≢ 0))
  pub to : is_answer_to setup round hearing.head hearing.part ≡ true

-- One of the messages is this answer.
abbrev pub IsAnsweredBy : Setup → Round → ℕ → List Hearing → Type 0
IsAnsweredBy setup round place [] = ⊥
IsAnsweredBy setup round place (hearing ∷ hearings) =
    IsAnswerOf setup round place hearing ⊎ IsAnsweredBy setup round place hearings

-- The members at these places are among those that answered.
abbrev pub AllHave : List ℕ → List Bool → Type 0
AllHave [] answers = Unit {0}
AllHave (place ∷ places) answers = HasAnswered answers place × AllHave places answers

-- Each of these members answered the round before, or answers it by one of the messages.
abbrev pub AllAnswer : Setup → Round → List Hearing → List ℕ → Type 0
AllAnswer setup round hearings [] = Unit {0}
AllAnswer setup round hearings (place ∷ places) =
    (place < length round.answers)
    × (HasAnswered round.answers place ⊎ IsAnsweredBy setup round place hearings)
    × AllAnswer setup round hearings places

-- A leader has an open round that some members of a majority have not answered. While its lease runs, it hears their
-- answers, and any other messages. Then its lease lasts at least until `expire` after the opening of the round.
abbrev pub AnsweredRoundsExtend : Type 0
AnsweredRoundsExtend =
    (setup : Setup) (view : View) (round : Round) (now : ℕ) (majority : List ℕ) (hearings : List Hearing)
    → setup.times.renewal < setup.times.expire → IsLeading setup now view → view.round ≡ Some round
    → round.won ≡ false → (AllHave majority round.answers → ⊥)
    → ((answers : List Bool) → AllHave majority answers → is_majority setup answers ≡ true)
    → AreBelow now (own_end view) hearings → AllAnswer setup round hearings majority
    → round.opened + setup.times.expire ≤ own_end (after_hearings setup view hearings)
