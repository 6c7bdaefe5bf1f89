-- Members behind a site, and leaders, over the entries of a session.
use Rattle.std.specs.Prelude.{◌≡◌, ◌≢◌, ℕ, ◌+◌, ◌<◌, ◌≤◌, true, None, List, [], ◌∷◌, is_ok}
use Rattle.booth_base.specs.declared.address.MemberId.{MemberId}
use Rattle.booth_base.specs.Times.{promise_of}
use Rattle.booth_host.specs.declared.entry.Entry.TheVariants as calls
use Rattle.booth_wire.specs.declared.message.Setup.{Setup}
use Rattle.booth_raft.specs.declared.view.View.{View}
use Rattle.booth_raft.specs.GainReleaseLost.{own_end}
use Rattle.booth_node.specs.declared.node_config.NodeConfig.{NodeConfig}
use Rattle.booth_node.specs.Jobs.{handler_at}
use Rattle.booth_node.specs.Reaction.{Action, used}
use Rattle.booth_node.specs.Session.{AreSessions, Doing, Down, Hearing, IsCut, Makes, SessionEntry, Stand, Starts, after_entries, after_entry}
use Rattle.booth_node.specs.State.{State}
use Rattle.booth_progress.specs.Behind.{IsBehind}
use Rattle.booth_progress.specs.Leading.{KeepsLease}
use Rattle.booth_progress.specs.Turns.{HasSomeView, IsFairTo, IsNoRevoke, Meets}
use Rattle.booth_progress.specs.Written.{IsKept, Whenever}

-- The member runs. Between two turns, and when a turn begins, its state has this property. Within a turn, the turn
-- leaves such a state if the writes that remain succeed.
abbrev pub Stands : (State → Type 0) → Stand → Type 0
Stands Holds Down = ⊥
Stands Holds (Doing node deeds) = Whenever IsKept Holds deeds
Stands Holds (Hearing node old answer bytes) = Holds old

-- Each entry, with the state of the member before it, has this property.
abbrev pub EachEntry : (Stand → SessionEntry → Type 0) → Stand → List SessionEntry → Type 0
EachEntry Fits stand [] = Unit {0}
EachEntry Fits stand (entry ∷ entries) = Fits stand entry × EachEntry Fits (after_entry stand entry) entries

-- What a turn hears at its reading: the node, the reading that it uses, and the action for its datagram, if it has one.
abbrev pub AtReading : (NodeConfig → ℕ → Type 0) → (Action → Type 0) → Stand → SessionEntry → Type 0
AtReading Now May (Hearing node old answer bytes) (Makes (calls.Now reading)) =
    Now node (used old.last_reading reading) × Meets node (used old.last_reading reading) old answer bytes May
AtReading Now May stand what = Unit {0}

-- The member does not start, no call is interrupted, and each write succeeds.
abbrev pub IsWell : SessionEntry → Type 0
IsWell (Starts node reading records) = ⊥
IsWell (IsCut call) = ⊥
IsWell (Makes (calls.Keep ticket rec answer)) = is_ok answer ≡ true
IsWell what = Unit {0}

-- ---- a member that is behind a site

-- At its last reading the member was behind the site, and its promise was made by then.
pub record RestsBehind (place : ℕ) (setup : Setup) (site : MemberId) (since term until : ℕ) (state : State) : Type 0
  where
    pub made : until ≤ state.last_reading + promise_of setup.times
    pub behind : HasSomeView state place setup (IsBehind site since term until state.last_reading)

-- The entry is well. A turn reads its clock before a time, and what it hears of the site is fair.
pub record IsFairEntry (place : ℕ) (site : MemberId) (since term until : ℕ) (stand : Stand)
    (what : SessionEntry) : Type 0 where
  pub well : IsWell what
  pub hears : AtReading (λ node now. now < until) (IsFairTo place site since term) stand what

-- A member that is behind a site stays behind it through its session, until its promise ends. This holds if the entries
-- are well, and if what the member hears of the site is fair.
abbrev pub SessionsStayBehind : Type 0
SessionsStayBehind =
    (place : ℕ) (setup : Setup) (site : MemberId) (since term until : ℕ) (stand : Stand) (entries : List SessionEntry)
    → setup.me ≢ site → AreSessions stand entries
    → EachEntry (IsFairEntry place site since term until) stand entries
    → Stands (RestsBehind place setup site since term until) stand
    → Stands (RestsBehind place setup site since term until) (after_entries stand entries)

-- ---- a leader

-- At its last reading the member led, by a lease that ends no earlier than the lease of a view.
pub record RestsLeading (place : ℕ) (setup : Setup) (first : View) (state : State) : Type 0 where
  pub keeps : HasSomeView state place setup (KeepsLease setup state.last_reading first)

-- The entry is well. A turn reads its clock before the end of the view's lease, and hears no revoke of the ticket,
-- which has no handler.
pub record IsCalmEntry (place : ℕ) (first : View) (stand : Stand) (what : SessionEntry) : Type 0 where
  pub well : IsWell what
  pub hears : AtReading (λ node now. (now < own_end first) × (handler_at node place ≡ None)) (IsNoRevoke place)
      stand what

-- A leader keeps its lease through its session, until the lease ends. This holds if the entries are well, if the ticket
-- has no handler and is not revoked, and if there are other members.
abbrev pub SessionsKeepLeases : Type 0
SessionsKeepLeases =
    (place : ℕ) (setup : Setup) (first : View) (stand : Stand) (entries : List SessionEntry)
    → setup.times.renewal < setup.times.expire → 1 < setup.members → AreSessions stand entries
    → EachEntry (IsCalmEntry place first) stand entries
    → Stands (RestsLeading place setup first) stand
    → Stands (RestsLeading place setup first) (after_entries stand entries)
