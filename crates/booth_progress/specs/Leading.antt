-- A leader whose lease runs. A message leaves it a leader, and at its deadline it asks the other members.
use Rattle.std.specs.Prelude.{◌≡◌, ◌≢◌, ◌⊎◌, ℕ, ◌+◌, ◌<◌, ◌≤◌, Bool, true, false, List, Some, None, IsSomeAnd, length, slice_index_or}
use Rattle.std.specs.Option.{ForSome}
use Rattle.booth_base.specs.declared.limits.TheConstants.{MEMBERS}
use Rattle.booth_wire.specs.declared.command.Cmd.{Cmd}
use Rattle.booth_wire.specs.declared.message.Head.{Head}
use Rattle.booth_wire.specs.declared.message.TicketPart.{TicketPart}
use Rattle.booth_wire.specs.declared.message.Setup.{Setup}
use Rattle.booth_raft.specs.declared.deed.Told.TheVariants as tells
use Rattle.booth_raft.specs.declared.deed.Want.TheVariants as wants
use Rattle.booth_raft.specs.declared.view.TheConstants.{LAST_NUMBER}
use Rattle.booth_raft.specs.declared.view.Round.{Round}
use Rattle.booth_raft.specs.declared.view.View.{View}
use Rattle.booth_raft.specs.AskAndRenew.{are_terms_spent, renew}
use Rattle.booth_raft.specs.Deadlines.{due_now, is_over_early, is_tried}
use Rattle.booth_raft.specs.GainReleaseLost.{own_end, retry_at}
use Rattle.booth_raft.specs.Members.{is_leader, is_majority}
use Rattle.booth_raft.specs.Messages.{asks_again, asks_all}
use Rattle.booth_raft.specs.OtherMessages.{hear}
use Rattle.booth_raft.specs.Outcome.{Outcome, saying, wanting}
use Rattle.booth_progress.specs.Kept.{AllKept}

-- The round was opened by this reading, and its lease would end no earlier than the lease of the record.
pub record Extends (setup : Setup) (now : ℕ) (view : View) (round : Round) : Type 0 where
  pub opened : round.opened ≤ now
  pub longer : own_end view ≤ round.opened + setup.times.expire

-- The deadline is at most a timeout away (or 1 ms), or it is a renewal's time after the start of the lease.
abbrev pub IsSoon : Setup → ℕ → View → ℕ → Type 0
IsSoon setup now view due =
    (due ≤ now + setup.times.timeout + 1) ⊎ (due + setup.times.expire ≤ own_end view + setup.times.renewal)

-- The terms are used up, or the open round has the last number, and another renewal may be impossible.
abbrev pub IsSpent : View → Type 0
IsSpent view = (are_terms_spent view ≡ true) ⊎ IsSomeAnd view.round (λ round. round.number ≡ LAST_NUMBER)

-- The member has terms and numbers of rounds left.
pub record HasTermsLeft (view : View) : Type 0 where
  pub terms : are_terms_spent view ≡ false
  pub numbers : ForSome view.round (λ round. round.number ≢ LAST_NUMBER)

-- At this reading the member leads by a lease that runs, no handler runs and no write waits. A lease that it may have
-- written ends no earlier, so it answers no round of others. It may answer its own rounds. Its deadline is soon, unless
-- its terms or numbers are used up.
pub record IsLeading (setup : Setup) (now : ℕ) (view : View) : Type 0 where
  pub leads : is_leader view.role ≡ true
  pub free : view.job ≡ None
  pub rests : view.waiting ≡ None
  pub runs : now < own_end view
  pub forced : own_end view ≤ view.force
  pub within : own_end view ≤ now + setup.times.expire
  pub rested : view.abstain ≤ now
  pub unpromised : ForSome view.promise (λ promise. promise.to ≢ setup.me → promise.until ≤ now)
  pub round : ForSome view.round (λ round. Extends setup now view round)
  pub due : IsSomeAnd view.due (λ due. (due ≤ own_end view) × (IsSoon setup now view due ⊎ IsSpent view))

-- The member leads, and its lease ends no earlier than before.
pub record KeepsLease (setup : Setup) (now : ℕ) (old new : View) : Type 0 where
  pub leading : IsLeading setup now new
  pub longer : own_end old ≤ own_end new

abbrev pub HasAnswered : List Bool → ℕ → Type 0
HasAnswered answers place = slice_index_or answers place false ≡ true

-- The same round, with all its answers, and perhaps more.
pub record GrewFrom (old new : Round) : Type 0 where
  pub term : new.term ≡ old.term
  pub number : new.number ≡ old.number
  pub opened : new.opened ≡ old.opened
  pub won : old.won ≡ true → new.won ≡ true
  pub size : length new.answers ≡ length old.answers
  pub answers : (place : ℕ) → HasAnswered old.answers place → HasAnswered new.answers place

-- The member still leads, by a lease that ends no earlier, and with the same round. Its deadline is unchanged, or the
-- round is won.
pub record LeadsOn (setup : Setup) (now : ℕ) (old new : View) : Type 0 where
  pub leading : IsLeading setup now new
  pub longer : own_end old ≤ own_end new
  pub round : ForSome old.round (λ round. IsSomeAnd new.round (λ grown. GrewFrom round grown))
  pub due : (new.due ≡ old.due) ⊎ IsSomeAnd new.round (λ round. round.won ≡ true)

-- Whatever a leader hears while its lease runs, it leads on.
abbrev pub LeadersLeadOn : Type 0
LeadersLeadOn =
    (setup : Setup) (view : View) (now place : ℕ) (head : Head) (part : TicketPart) (cmd : Cmd)
    → setup.times.renewal < setup.times.expire → IsLeading setup now view
    → AllKept setup now (λ outcome. LeadsOn setup now view outcome.view) (hear setup view place head part now cmd)

-- ---- a deadline

-- The open round is sent again to the members that have not answered it.
pub record SendsAgain (setup : Setup) (now : ℕ) (view : View) (outcome : Outcome) : Type 0 where
  pub round : Round
  pub current : view.round ≡ Some round
  pub unwon : round.won ≡ false
  pub tried : is_tried setup round now ≡ true
  pub timely : is_over_early setup view ≡ false
  pub leading : IsLeading setup now (record view { due = Some (retry_at setup view now) })
  pub sent : outcome
      ≡ saying (record view { due = Some (retry_at setup view now) }) (asks_again setup view round now) tells.Nothing

-- The lease must be renewed. There is no round, or the round is won, or it had all its retries, or by the steady rules
-- the round is over early.
pub record IsToRenew (setup : Setup) (now : ℕ) (view : View) (outcome : Outcome) : Type 0 where
  pub over : ForSome view.round (λ round.
      (round.won ≡ true) ⊎ ((is_tried setup round now ≡ false) ⊎ (is_over_early setup view ≡ true)))
  pub wanted : outcome ≡ wanting view wants.Renew

-- The round was opened at this reading, in the view's term, and all members are asked in it. The member's own answer is
-- among the answers, and they are no majority yet.
pub record IsOpened (setup : Setup) (now : ℕ) (outcome : Outcome) (round : Round) : Type 0 where
  pub opened : round.opened ≡ now
  pub term : round.term ≡ outcome.view.term
  pub unwon : round.won ≡ false
  pub size : length round.answers ≡ MEMBERS
  pub own : setup.place < MEMBERS → HasAnswered round.answers setup.place
  pub few : is_majority setup round.answers ≡ false
  pub said : outcome.deed.say ≡ asks_all setup outcome.view round.number now

-- A round is opened. The lease is unchanged. The next deadline is a timeout later, or at the end of the lease.
pub record OpensRound (setup : Setup) (now : ℕ) (old : View) (outcome : Outcome) : Type 0 where
  pub leading : IsLeading setup now outcome.view
  pub same_end : own_end outcome.view ≡ own_end old
  pub round : IsSomeAnd outcome.view.round (λ round. IsOpened setup now outcome round)
  pub due : outcome.view.due ≡ Some (retry_at setup outcome.view now)

-- At its deadline a leader sends its round again, or must renew. A renewal opens a round, if terms and numbers are
-- left. In any case it leaves the lease. The member is not the only one, and its writes succeed.
pub record LeadersOpenRounds : Type 0 where
  pub due : (setup : Setup) (view : View) (now : ℕ) → IsLeading setup now view
      → SendsAgain setup now view (due_now setup view now) ⊎ IsToRenew setup now view (due_now setup view now)
  pub renewed : (setup : Setup) (view : View) (now : ℕ) → 1 < setup.members → IsLeading setup now view
      → HasTermsLeft view → AllKept setup now (OpensRound setup now view) (renew setup view now)
  pub kept : (setup : Setup) (view : View) (now : ℕ) → 1 < setup.members → IsLeading setup now view
      → AllKept setup now (λ outcome. KeepsLease setup now view outcome.view) (renew setup view now)
