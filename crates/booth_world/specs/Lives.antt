-- The kinds of step by which a member learns a term, crashes and starts, and by which time passes, with the condition
-- and the effect of each.
use Rattle.std.specs.Prelude.{◌≡◌, ◌⊎◌, ℕ, ◌+◌, ◌<◌, ◌≤◌, Bool, true, false, Option, Some, None, List, [], ◌∷◌}
use Rattle.booth_world.specs.Facts.{Has}
use Rattle.booth_world.specs.States.{Pledge, KeptRecord, MemberState, WorldState, Cluster, promise_time, reads}

-- ---- a term is learnt
-- A member takes a term above its own. It has answered no round in that term, and its own round is closed.

pub record MayLearn (x : MemberState) (term : ℕ) : Type 0 where
  pub up : x.up ≡ true
  pub above : x.term < term

abbrev pub learning : MemberState → ℕ → MemberState
learning x term = record x { term = term; bound = None; round = None }

-- ---- a crash
-- A member that is up may crash at any time.

abbrev pub crashing : MemberState → MemberState
crashing x = record x { up = false }

-- ---- a start
-- A member that is down starts with a record that it may have written, or with a silent record, in a session of either
-- version and of any phase; but after a session of version 2 it stays in version 2. With a record of version 2 it has
-- that record's pledge, and abstains no longer than the record states. With any other record it does not know what it
-- promised, so it answers no round for the time of a whole promise of its phase.

-- A silent record states no promise and has no lease. An arbitrator's may have any term, so a missing record is one
-- too. A site's has at least the term of a record that the member may have written. In a smaller term the site may have
-- opened a round or released a lease before, and late messages of that would count again.
pub record IsSilent (site : Bool) (may : List KeptRecord) (kept : KeptRecord) : Type 0 where
  pub unpledged : kept.pledge ≡ None
  pub free : kept.lease ≡ None
  pub reaches : site ≡ true → (k : KeptRecord) × Has may k × (k.term ≤ kept.term)

-- A start may read a record that its member may have written, or a silent record.
abbrev pub MayRead : Bool → List KeptRecord → KeptRecord → Type 0
MayRead site may kept = Has may kept ⊎ IsSilent site may kept

-- The member may have written the record, or has a record that it may have written with a smaller term.
abbrev pub GoesOn : List KeptRecord → KeptRecord → Type 0
GoesOn may kept = Has may kept ⊎ ((k : KeptRecord) × Has may k × (k.term < kept.term))

pub record MayStart (c : Cluster) (m : ℕ) (x : MemberState) (kept : KeptRecord) (second : Bool) : Type 0 where
  pub down : x.up ≡ false
  pub read : MayRead (c.is_site m) x.may kept
  pub on : c.goes_on ≡ true → GoesOn x.may kept
  pub stays : x.second ≡ true → second ≡ true

-- The pledge after a start at this reading in a session of this phase, from the record's pledge.
abbrev pub pledge_at_start : Cluster → ℕ → ℕ → Option Pledge → Pledge
pledge_at_start c phase reading None =
    record { bound = None; promise = None; abstain = reading + promise_time c phase }
pledge_at_start c phase reading (Some pledge) = pledge

abbrev pub starting : Cluster → MemberState → KeptRecord → Bool → ℕ → MemberState
starting c x kept second phase = record x {
  up = true;
  second = second;
  phase = phase;
  term = kept.term;
  bound = (pledge_at_start c phase x.reading kept.pledge).bound;
  promise = (pledge_at_start c phase x.reading kept.pledge).promise;
  abstain = (pledge_at_start c phase x.reading kept.pledge).abstain;
  may = kept ∷ [];
  round = None;
}

-- ---- time
-- True time rises within the clocks' span, and a member, up or down, may read its clock.

pub record MayPass (c : Cluster) (w : WorldState) (time : ℕ) : Type 0 where
  pub later : w.now ≤ time
  pub within : time < c.span

abbrev pub reading_clock : Cluster → ℕ → ℕ → MemberState → MemberState
reading_clock c now m x = record x { reading = reads c m now; at = now }
