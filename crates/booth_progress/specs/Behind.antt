-- A member that has promised to a site. Until the promise ends, it answers that site alone, and it does not compete.
use Rattle.std.specs.Prelude.{◌≡◌, ◌≢◌, ◌⊎◌, ℕ, ◌+◌, ◌<◌, ◌≤◌, true, None, IsSomeAnd}
use Rattle.std.specs.Option.{ForSome}
use Rattle.booth_base.specs.declared.address.MemberId.{MemberId}
use Rattle.booth_base.specs.Times.{promise_of}
use Rattle.booth_wire.specs.declared.command.Cmd.{Cmd}
use Rattle.booth_wire.specs.declared.command.Cmd.TheVariants.{Revk}
use Rattle.booth_wire.specs.declared.message.Head.{Head}
use Rattle.booth_wire.specs.declared.message.TicketPart.{TicketPart}
use Rattle.booth_wire.specs.declared.message.Setup.{Setup}
use Rattle.booth_raft.specs.declared.deed.Want.TheVariants as wants
use Rattle.booth_raft.specs.declared.view.Role.TheVariants.{Candidate}
use Rattle.booth_raft.specs.declared.view.RoundKind.{RoundKind}
use Rattle.booth_raft.specs.declared.view.View.{View}
use Rattle.booth_raft.specs.Deadlines.{due_now}
use Rattle.booth_raft.specs.Members.{is_follower}
use Rattle.booth_raft.specs.Messages.{answers_round}
use Rattle.booth_raft.specs.OtherMessages.{hear}
use Rattle.booth_raft.specs.Outcome.{Outcome}
use Rattle.booth_raft.specs.RoundsAndAnswers.{MayAnswer, hear_round}
use Rattle.booth_progress.specs.Kept.{AllKept}

-- At this reading the member follows, and no write waits. It has promised to the site at least until a time, in a term
-- that is not before a first one, and may answer each round of the site in this term or a later one.
pub record IsBehind (site : MemberId) (since term until now : ℕ) (view : View) : Type 0 where
  pub follows : is_follower view.role ≡ true
  pub idle : view.round ≡ None
  pub rests : view.waiting ≡ None
  pub rested : view.abstain ≤ now
  pub unforced : view.force ≤ now
  pub reached : since ≤ view.term
  pub promised : IsSomeAnd view.promise (λ promise.
      (promise.to ≡ site) × (since ≤ promise.term) × (until ≤ promise.until))
  pub unbound : (view.term < term) ⊎ ((view.term ≡ term) × ForSome view.bound (λ bound. bound ≡ site))

-- If the message comes from the site, it has no later term. If it is a release message of the site, its term is before
-- the first one.
pub record IsFair (site : MemberId) (since term : ℕ) (cmd : Cmd) (head : Head) (part : TicketPart) : Type 0 where
  pub known : head.from ≡ site → part.term ≤ term
  pub holds_on : head.from ≡ site → cmd ≡ Revk → part.term < since

abbrev pub BehindAfter : MemberId → ℕ → ℕ → ℕ → ℕ → Outcome → Type 0
BehindAfter site since term until now outcome = IsBehind site since term until now outcome.view

-- Until its promise to the site ends, the member stays behind the site, whatever it hears, and at each of its
-- deadlines. It acquires nothing, and it may answer the site's rounds. The same holds for a later term of the site and
-- at a later reading.
pub record MembersStayBehind : Type 0 where
  pub heard : (setup : Setup) (view : View) (site : MemberId) (since term until now place : ℕ) (head : Head)
      (part : TicketPart) (cmd : Cmd) → now < until → until ≤ now + promise_of setup.times
      → IsBehind site since term until now view → IsFair site since term cmd head part
      → AllKept setup now (BehindAfter site since term until now) (hear setup view place head part now cmd)
  pub due : (setup : Setup) (view : View) (site : MemberId) (since term until now : ℕ) → now < until → setup.me ≢ site
      → IsBehind site since term until now view
      → AllKept setup now (BehindAfter site since term until now) (due_now setup view now)
      × ((due_now setup view now).deed.want ≡ wants.Nothing)
  pub answers : (view : View) (site : MemberId) (since term until now : ℕ) → IsBehind site since term until now view
      → MayAnswer view site term now
  pub passes : (view : View) (site : MemberId) (since term later_term until now later : ℕ)
      → term ≤ later_term → now ≤ later
      → IsBehind site since term until now view → IsBehind site since later_term until later view

-- The member is behind the round's site for the time of a promise, and it sends the answer.
pub record AnswersSo (setup : Setup) (kind : RoundKind) (head : Head) (part : TicketPart) (now : ℕ)
    (outcome : Outcome) : Type 0 where
  pub behind : IsBehind head.from part.term part.term (now + promise_of setup.times) now outcome.view
  pub said : outcome.deed.say ≡ answers_round setup kind head.from head.options head.request part.term

-- If a follower without a round, or a candidate, may answer a round, it answers the round, and is then behind the
-- round's site.
abbrev pub AnswersLeaveBehind : Type 0
AnswersLeaveBehind =
    (setup : Setup) (view : View) (kind : RoundKind) (head : Head) (part : TicketPart) (now : ℕ)
    → view.waiting ≡ None
    → ((is_follower view.role ≡ true) × (view.round ≡ None)) ⊎ (view.role ≡ Candidate)
    → MayAnswer view head.from part.term now
    → AllKept setup now (AnswersSo setup kind head part now) (hear_round setup view kind head part now)
