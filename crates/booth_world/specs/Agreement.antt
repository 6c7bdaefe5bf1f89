-- The conditions under which the lease rules' view of a ticket agrees with the state of a member in the world.
use Rattle.std.specs.Prelude.{◌≡◌, ◌≢◌, ℕ, ◌+◌, ◌<◌, ◌≤◌, Bool, IsSomeAnd, true, false, slice_index_or, ◌||◌, IsTrue, List, [], ◌∷◌, Option, Some, None}
use Rattle.std.specs.Option.{ForSome}
use Rattle.booth_base.specs.declared.address.MemberId.{MemberId}
use Rattle.booth_rec.specs.declared.record.Record.{Record}
use Rattle.booth_wire.specs.declared.message.Setup.{Setup}
use Rattle.booth_rec.specs.declared.record.Promise.{Promise as ViewPromise}
use Rattle.booth_raft.specs.declared.view.Round.{Round as ViewRound}
use Rattle.booth_raft.specs.declared.view.Rule.{Rule}
use Rattle.booth_raft.specs.declared.view.Rule.TheVariants as rules
use Rattle.booth_raft.specs.declared.view.View.{View}
use Rattle.booth_raft.specs.Members.{is_candidate, is_leader}
use Rattle.booth_world.specs.Facts.{Has, Round, Answer, Facts}
use Rattle.booth_world.specs.Rounds.{new_promise}
use Rattle.booth_world.specs.Leases.{pledge_of}
use Rattle.booth_world.specs.Messages.{ReleaseSaid}
use Rattle.booth_world.specs.States.{Pledge, KeptRecord, Promise, IsWithin, MemberState, Cluster, promise_time}

-- ---- the names of members

-- Each member has an id of its own.
abbrev pub AreIds : ℕ → (ℕ → MemberId) → Type 0
AreIds members id_of =
    (s t : ℕ) → s < members → t < members → id_of s ≡ id_of t → s ≡ t

-- The setup of the member with this number in the cluster, in a session of version 2 or 1 and of a phase. The ticket's
-- name and the member's rank stay as in the given setup.
abbrev pub seat : Cluster → (ℕ → MemberId) → ℕ → Bool → ℕ → Setup → Setup
seat c id_of m second phase setup = record setup {
  me = id_of m;
  place = (c.phase phase).seats.place m;
  members = (c.phase phase).seats.size;
  site = c.is_site m;
  times = (c.phase phase).times;
  second = second;
}

abbrev pub IsSeated : Cluster → (ℕ → MemberId) → ℕ → Bool → ℕ → Setup → Type 0
IsSeated c id_of m second phase setup = setup ≡ seat c id_of m second phase setup

-- ---- members: the rules name them by ids, and the world by places

abbrev pub bound_in : (ℕ → MemberId) → Option ℕ → Option MemberId
bound_in id_of None = None
bound_in id_of (Some s) = Some (id_of s)

abbrev pub promise_in : (ℕ → MemberId) → Option Promise → Option ViewPromise
promise_in id_of None = None
promise_in id_of (Some promise) =
    Some (record { to = id_of promise.to; term = promise.term; until = promise.until })

-- The version of a record with this pledge. The rules have one type of record for both versions: a record of version
-- 1 has version 1, a term and perhaps a lease, and nothing else.
abbrev pub version_in : Option Pledge → ℕ
version_in None = 1
version_in (Some pledge) = 2

abbrev pub bound_kept : Option Pledge → Option ℕ
bound_kept None = None
bound_kept (Some pledge) = pledge.bound

abbrev pub promise_kept : Option Pledge → Option Promise
promise_kept None = None
promise_kept (Some pledge) = pledge.promise

abbrev pub abstain_kept : Option Pledge → ℕ
abstain_kept None = 0
abstain_kept (Some pledge) = pledge.abstain

abbrev pub record_in : (ℕ → MemberId) → KeptRecord → Record
record_in id_of kept = record {
  version = version_in kept.pledge;
  term = kept.term;
  lease = kept.lease;
  bound = bound_in id_of (bound_kept kept.pledge);
  promise = promise_in id_of (promise_kept kept.pledge);
  abstain = abstain_kept kept.pledge;
}

abbrev pub records_in : (ℕ → MemberId) → List KeptRecord → List Record
records_in id_of [] = []
records_in id_of (kept ∷ others) = record_in id_of kept ∷ records_in id_of others

-- ---- a round

-- The member at this place answered the round.
abbrev pub HasAnswered : Facts → Round → ℕ → Type 0
HasAnswered f round place =
    (a : Answer) × (Has f.answers a) × (a.member ≡ place) × (a.round ≡ round)

-- The view's round is the round that the member has open. If the view notes that the member at a place answered the
-- round, this member has answered it. The view names members by their places in the round's phase.
pub record IsOpen (c : Cluster) (f : Facts) (m : ℕ) (round : ViewRound) (open_round : Option Round) : Type 0 where
  pub own : Round
  pub open_at : open_round ≡ Some own
  pub site : own.site ≡ m
  pub term : own.term ≡ round.term
  pub number : own.number ≡ round.number
  pub opened : own.opened ≡ round.opened
  pub answered : (place : ℕ) → slice_index_or round.answers place false ≡ true
      → (place < (c.phase own.phase).seats.size) × HasAnswered f own ((c.phase own.phase).seats.number place)

-- ---- a view and a member

-- If the member may promise itself at its last reading, it has done so, and the promise runs from that reading on. So
-- the record that it writes before its own round includes its own answer to that round.
abbrev pub PromisesItself : Cluster → ℕ → MemberState → Type 0
PromisesItself c m x =
    x.abstain ≤ x.reading → ForSome x.promise (λ promise. promise.to ≢ m → promise.until ≤ x.reading)
    → (x.bound ≡ Some m) × (x.promise ≡ Some (new_promise c x m x.term))

-- A round that a member of version 2 will answer after its promise is written. The round is one of the facts: it has
-- this number, its site has this id, and its term is the member's term. The site opened it no later than the true
-- time of the member's reading. The member has voted for the round's site, and has promised it until this reading.
pub record PromisesTo (id_of : ℕ → MemberId) (rounds : List Round) (second : Bool) (term at until : ℕ)
    (bound : Option ℕ) (promise : Option Promise) (to : MemberId) (number : ℕ) : Type 0 where
  pub in_second : second ≡ true
  pub round : Round
  pub fact : Has rounds round
  pub site : to ≡ id_of round.site
  pub own_term : round.term ≡ term
  pub own_number : round.number ≡ number
  pub later : round.at ≤ at
  pub is_bound : bound ≡ Some round.site
  pub given : promise ≡ Some (record { to = round.site; term = term; until = until })

-- The condition that holds while the write of a rule waits. Only a site gains a lease, starts an election, releases
-- and renews. The term of a new election is above the term of the record, and the member has voted for no other
-- member in it. A renewal is about the open round, and the member has voted for itself. In version 2 the member has
-- promised itself by then, if it may; and a round that will be answered already has its promise.
abbrev pub IsAsked : Cluster → (ℕ → MemberId) → Facts → ℕ → MemberState → View → Rule → Type 0
IsAsked c id_of f m x view (rules.Ask reason) =
    (c.is_site m ≡ true) × (view.kept.term < view.term) × ForSome x.bound (λ bound. bound ≡ m)
    × (x.second ≡ true → PromisesItself c m x)
IsAsked c id_of f m x view (rules.Renew number) =
    (c.is_site m ≡ true) × (x.bound ≡ Some m) × IsSomeAnd view.round (λ round. round.number + 1 ≡ number)
    × (x.second ≡ true → PromisesItself c m x)
IsAsked c id_of f m x view (rules.Answer kind to number request told) =
    PromisesTo id_of f.rounds x.second x.term x.at (x.reading + promise_time c x.phase) x.bound x.promise to number
IsAsked c id_of f m x view rule = c.is_site m ≡ true

-- A record whose write waits may have been written, and its pledge is the member's.
pub record IsTried (id_of : ℕ → MemberId) (x : MemberState) (tried : Record) : Type 0 where
  pub kept : KeptRecord
  pub may : Has x.may kept
  pub same : record_in id_of kept ≡ tried
  pub pledge : kept.pledge ≡ pledge_of x

-- A view agrees with a member's state. The member may still have a round that the view has ended. Only a site is a
-- candidate or leads. A release message that will still be repeated is about a release by the member.
pub record Agrees (c : Cluster) (id_of : ℕ → MemberId) (f : Facts) (m : ℕ) (view : View)
    (x : MemberState) : Type 0 where
  pub up : x.up ≡ true
  pub term : view.term ≡ x.term
  pub bound : view.bound ≡ bound_in id_of x.bound
  pub promise : view.promise ≡ promise_in id_of x.promise
  pub abstain : view.abstain ≡ x.abstain
  pub within : IsWithin c.members x.bound x.promise
  pub kept : Has (records_in id_of x.may) view.kept
  pub round : ForSome view.round (λ round. IsOpen c f m round x.round)
  pub tried : ForSome view.waiting (λ waits. IsTried id_of x waits.tried)
  pub asked : ForSome view.waiting (λ waits. IsAsked c id_of f m x view waits.rule)
  pub active : IsTrue (is_candidate view.role || is_leader view.role) → c.is_site m ≡ true
  pub repeated : 0 < view.repeat → ReleaseSaid f m view.repeat_term
