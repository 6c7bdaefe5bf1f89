-- The kinds of step by which a member gains, writes, releases and frees a lease, with the condition and the effect of
-- each.
use Rattle.std.specs.Prelude.{◌≡◌, ◌⊎◌, ℕ, ◌+◌, ◌<◌, ◌&&◌, true, if◌then◌else◌, not, ◌==◌, nat_lt, Option, Some, None, List, [], ◌∷◌}
use Rattle.booth_rec.specs.declared.record.Lease.{Lease}
use Rattle.booth_world.specs.Facts.{Has, Round, Answer, Gain, Release, Facts, IsMajority}
use Rattle.booth_world.specs.States.{Pledge, KeptRecord, Promise, MemberState, Cluster, expire_in}

-- ---- a gain
-- The open round gives a lease if a majority answered it and the lease has not ended yet. The lease is added to the
-- facts.

pub record MayGain (c : Cluster) (f : Facts) (x : MemberState) (round : Round) (places : List ℕ)
    : Type 0 where
  pub up : x.up ≡ true
  pub open_round : x.round ≡ Some round
  pub majority : IsMajority (c.phase round.phase).seats places
  pub answered : (m : ℕ) → Has places m
      → (a : Answer) × (Has f.answers a) × (a.member ≡ m) × (a.round ≡ round)
  pub soon : x.reading < round.opened + expire_in c round.phase

abbrev pub with_gain : Facts → Round → ℕ → List ℕ → Facts
with_gain f round now places =
    record f { leases = record { round = round; at = now; answers = places } ∷ f.leases }

-- ---- a write
-- A member writes a record with its term and the version of its session. The record has no lease, a lease that the
-- member may have written, or the lease that its open round gave. In version 2 it also has the member's pledge at
-- that time. In version 1 only sites write; in version 2 arbitrators write too. When a write is tried, its record
-- joins those that may have been written. When the write is done, its record is the only one.

-- The lease of an open round that gave one. It runs from the reading at which the round was opened.
pub record IsWon (c : Cluster) (f : Facts) (x : MemberState) (lease : Lease) : Type 0 where
  pub gained : Gain
  pub fact : Has f.leases gained
  pub open_round : x.round ≡ Some gained.round
  pub same : lease
      ≡ record { term = gained.round.term; until = gained.round.opened + expire_in c gained.round.phase }

abbrev pub MayLease : Cluster → Facts → MemberState → Option Lease → Type 0
MayLease c f x None = Unit {0}
MayLease c f x (Some lease) =
    ((k : KeptRecord) × Has x.may k × (k.lease ≡ Some lease)) ⊎ IsWon c f x lease

-- The part of its pledge that a member writes: all of it in version 2, nothing in version 1.
abbrev pub pledge_of : MemberState → Option Pledge
pledge_of x =
    if x.second
    then Some (record { bound = x.bound; promise = x.promise; abstain = x.abstain })
    else None

pub record MayKeep (c : Cluster) (f : Facts) (m : ℕ) (x : MemberState) (kept : KeptRecord)
    : Type 0 where
  pub up : x.up ≡ true
  pub keeper : (c.is_site m ≡ true) ⊎ (x.second ≡ true)
  pub own_term : kept.term ≡ x.term
  pub pledge : kept.pledge ≡ pledge_of x
  pub lease : MayLease c f x kept.lease

abbrev pub trying : MemberState → KeptRecord → MemberState
trying x kept = record x { may = kept ∷ x.may }

abbrev pub having : MemberState → KeptRecord → MemberState
having x kept = record x { may = kept ∷ [] }

-- ---- a release
-- A site releases its term if all records that it may have written are of that term and none of them has a lease. Its
-- round is closed, its promise to itself is dropped, and the release is added to the facts.

pub record MayRelease (c : Cluster) (m : ℕ) (x : MemberState) : Type 0 where
  pub up : x.up ≡ true
  pub site : c.is_site m ≡ true
  pub own_term : (k : KeptRecord) → Has x.may k → k.term ≡ x.term
  pub no_lease : (k : KeptRecord) → Has x.may k → k.lease ≡ None

abbrev pub not_to : ℕ → Option Promise → Option Promise
not_to m None = None
not_to m (Some promise) = if promise.to == m then None else Some promise

abbrev pub releasing : ℕ → MemberState → MemberState
releasing m x = record x { promise = not_to m x.promise; round = None }

abbrev pub with_release : Facts → ℕ → ℕ → ℕ → Facts
with_release f m term now =
    record f { releases = record { site = m; term = term; at = now } ∷ f.releases }

-- ---- a clearing
-- A member that receives a release message drops a promise to the message's site if the promise's term is no greater
-- than the release's. It drops no other promise.

pub record MayClear (f : Facts) (x : MemberState) (release : Release) : Type 0 where
  pub up : x.up ≡ true
  pub fact : Has f.releases release

abbrev pub cleared : Option Promise → ℕ → ℕ → Option Promise
cleared None site term = None
cleared (Some promise) site term =
    if promise.to == site && not (nat_lt term promise.term) then None else Some promise

abbrev pub clearing : MemberState → Release → MemberState
clearing x release = record x { promise = cleared x.promise release.site release.term }
