-- The result of a call of the lease rules: the view, the records that may have been written, and the new facts.
use Rattle.std.specs.Prelude.{◌≡◌, ◌⊎◌, ℕ, List, [], ◌∷◌, Bool, true, false, Option, Some, None}
use Rattle.booth_base.specs.declared.address.MemberId.{MemberId}
use Rattle.booth_rec.specs.declared.record.Record.{Record}
use Rattle.booth_wire.specs.declared.message.Say.{Say}
use Rattle.booth_raft.specs.declared.view.Rule.{Rule}
use Rattle.booth_raft.specs.declared.view.Rule.TheVariants as rules
use Rattle.booth_raft.specs.declared.view.View.{View}
use Rattle.booth_raft.specs.declared.view.Waiting.{Waiting}
use Rattle.booth_raft.specs.Outcome.{Outcome}
use Rattle.booth_world.specs.Facts.{Has, Round, Answer, Gain, Release, Facts}
use Rattle.booth_world.specs.States.{MemberState, Cluster}
use Rattle.booth_world.specs.Steps.{MemberStep}
use Rattle.booth_world.specs.MemberRuns.{IsMemberRun, member_after_all, facts_after_all, AreStartsOf}
use Rattle.booth_world.specs.Agreement.{records_in, Agrees}
use Rattle.booth_world.specs.Messages.{IsSaid}

-- ---- the records that may have been written

-- The records that may have been written after a call: the record that its action writes is added.
abbrev pub may_after : Option Record → List Record → List Record
may_after None may = may
may_after (Some tried) may = tried ∷ may

-- The records that may have been written after the result of a write. A record that was written is the only one. A
-- record whose write failed is still one of them.
abbrev pub may_answered : Option Waiting → Bool → List Record → List Record
may_answered None ok may = may
may_answered (Some waits) true may = waits.tried ∷ []
may_answered (Some waits) false may = may

-- ---- the facts of a call

-- The marks of a call's facts: its member; the member's last reading and the true time of that reading; the true time
-- now; and the version and the phase of the member's session, which are those of its starts.
pub record Mark : Type 0 where
  pub member : ℕ
  pub second : Bool
  pub phase : ℕ
  pub reading : ℕ
  pub at : ℕ
  pub now : ℕ

abbrev pub mark_of : ℕ → ℕ → MemberState → Mark
mark_of now m x = record { member = m; second = x.second; phase = x.phase; reading = x.reading; at = x.at; now = now }

abbrev pub IsMarkedRound : Mark → Round → Type 0
IsMarkedRound mark round =
    (round.site ≡ mark.member) × (round.opened ≡ mark.reading) × (round.at ≡ mark.at)

abbrev pub IsMarkedAnswer : Mark → Answer → Type 0
IsMarkedAnswer mark answer =
    (answer.member ≡ mark.member) × (answer.reading ≡ mark.reading) × (answer.at ≡ mark.at)

abbrev pub IsMarkedGain : Mark → Gain → Type 0
IsMarkedGain mark gain = (gain.round.site ≡ mark.member) × (gain.at ≡ mark.now)

-- Each new fact has the mark, and the releases are exactly these.
pub record AddsOnly (mark : Mark) (releases : List Release) (f f' : Facts) : Type 0 where
  pub rounds : (r : Round) → Has f'.rounds r → Has f.rounds r ⊎ IsMarkedRound mark r
  pub answers : (a : Answer) → Has f'.answers a → Has f.answers a ⊎ IsMarkedAnswer mark a
  pub leases : (g : Gain) → Has f'.leases g → Has f.leases g ⊎ IsMarkedGain mark g
  pub releases_now : f'.releases ≡ releases

-- The releases after a written record. It releases its term if a release, or the end of a round, waited for the
-- write.
abbrev pub released_by : Rule → Release → List Release → List Release
released_by (rules.Release reason) new releases = new ∷ releases
released_by rules.EndRound new releases = new ∷ releases
released_by rule new releases = releases

-- The releases after a write. If a release waited and its record was written, the release of the record's term is
-- added.
abbrev pub releases_answered : Mark → Option Waiting → Bool → List Release → List Release
releases_answered mark (Some waits) true releases =
    released_by waits.rule
    (record { site = mark.member; term = waits.tried.term; at = mark.now })
    releases
releases_answered mark waiting ok releases = releases

-- ---- the result of a call

-- The result of a call: the view and the messages, and then the records that may have been written and the releases.
pub record Given : Type 0 where
  pub view : View
  pub say : Say
  pub may : List Record
  pub releases : List Release

-- The result of a rule's outcome, from the records that may have been written before and the releases.
abbrev pub given_by : Outcome → List Record → List Release → Given
given_by outcome may releases = record {
  view = outcome.view;
  say = outcome.deed.say;
  may = may_after outcome.deed.keep may;
  releases = releases;
}

-- The member has reached a state that agrees with the view. Its messages are facts, the records that it may have
-- written are the given ones, and it has not read its clock.
pub record IsReached (c : Cluster) (id_of : ℕ → MemberId) (mark : Mark) (given : Given) (f : Facts)
    (x : MemberState) : Type 0 where
  pub agrees : Agrees c id_of f mark.member given.view x
  pub said : IsSaid id_of f mark.member given.say
  pub may_now : records_in id_of x.may ≡ given.may
  pub same_second : x.second ≡ mark.second
  pub same_phase : x.phase ≡ mark.phase
  pub same_reading : x.reading ≡ mark.reading
  pub same_at : x.at ≡ mark.at

-- These steps of the member are allowed, lead to the given result, and add no other facts.
pub record LeadsTo (c : Cluster) (id_of : ℕ → MemberId) (mark : Mark) (f : Facts) (x : MemberState)
    (given : Given) : Type 0 where
  pub steps : List MemberStep
  pub run : IsMemberRun c mark.now mark.member f x steps
  pub starts_so : AreStartsOf mark.second mark.phase steps
  pub reached : IsReached c id_of mark given (facts_after_all c mark.now mark.member f x steps)
      (member_after_all c mark.now mark.member x steps)
  pub adds : AddsOnly mark given.releases f (facts_after_all c mark.now mark.member f x steps)
