-- Members behind a site, and leaders, in the turns of a node.
use Rattle.std.specs.Prelude.{◌≡◌, ◌≢◌, ℕ, ◌+◌, ◌<◌, ◌≤◌, List, None, Some, Result, Ok, slice_get}
use Rattle.booth_base.specs.declared.address.MemberId.{MemberId}
use Rattle.booth_base.specs.Times.{promise_of}
use Rattle.booth_host.specs.declared.host.Arrival.{Arrival}
use Rattle.booth_host.specs.declared.host.Arrival.TheVariants as arrivals
use Rattle.booth_host.specs.declared.host.Failed.{Failed}
use Rattle.booth_wire.specs.declared.message.Setup.{Setup}
use Rattle.booth_raft.specs.declared.view.View.{View}
use Rattle.booth_raft.specs.GainReleaseLost.{own_end}
use Rattle.booth_ticket.specs.declared.request.Wish.TheVariants.{Revoke}
use Rattle.booth_ticket.specs.Ticket.{Automatic}
use Rattle.booth_node.specs.declared.node_config.NodeConfig.{NodeConfig}
use Rattle.booth_node.specs.Jobs.{handler_at}
use Rattle.booth_node.specs.Reaction.{Action, Hears, Asks, action, react}
use Rattle.booth_node.specs.State.{State}
use Rattle.booth_progress.specs.Behind.{IsBehind, IsFair}
use Rattle.booth_progress.specs.Leading.{IsLeading, KeepsLease}
use Rattle.booth_progress.specs.Written.{IsKept, Whenever}

-- The ticket at this place is automatic, with this setup and this view.
abbrev pub HasView : State → ℕ → Setup → View → Type 0
HasView state place setup view =
    slice_get state.tickets place ≡ Some (record { setup = setup; known = Automatic view })

-- The view of the ticket at this place has this property.
abbrev pub HasSomeView : State → ℕ → Setup → (View → Type 0) → Type 0
HasSomeView state place setup Holds = (view : View) × HasView state place setup view × Holds view

-- The node used this reading last, and the view of the ticket at this place has this property.
pub record IsLeft (now place : ℕ) (setup : Setup) (Holds : View → Type 0) (state : State) : Type 0 where
  pub reading : state.last_reading ≡ now
  pub ticket : HasSomeView state place setup Holds

-- The arrival has this action for its datagram, if it is one.
abbrev pub Meets : NodeConfig → ℕ → State → Result Arrival Failed → List ℕ → (Action → Type 0) → Type 0
Meets node now state (Ok (arrivals.Datagram from)) bytes May =
    May (action node now state.tickets state.common from bytes)
Meets node now state arrival bytes May = Unit {0}

-- If the message is about the ticket at this place, it is fair to a member that is behind the site.
abbrev pub IsFairTo : ℕ → MemberId → ℕ → ℕ → Action → Type 0
IsFairTo place site since term (Hears from ticket head part) =
    ticket ≡ place → IsFair site since term head.cmd head part
IsFairTo place site since term met = Unit {0}

-- Until its promise to a site ends, a member is behind the site after each turn, if its writes succeed, and if what the
-- turn hears of the site is fair.
abbrev pub TurnsStayBehind : Type 0
TurnsStayBehind =
    (node : NodeConfig) (state : State) (place : ℕ) (setup : Setup) (site : MemberId)
    (since term until before now : ℕ) (arrival : Result Arrival Failed) (bytes : List ℕ)
    → before ≤ now → now < until → until ≤ now + promise_of setup.times → setup.me ≢ site
    → HasSomeView state place setup (IsBehind site since term until before)
    → Meets node now state arrival bytes (IsFairTo place site since term)
    → Whenever IsKept (IsLeft now place setup (IsBehind site since term until now))
    (react node state now arrival bytes)

-- The datagram is no revoke of the ticket at this place.
abbrev pub IsNoRevoke : ℕ → Action → Type 0
IsNoRevoke place (Asks ticket request) = ticket ≡ place → request.wish ≢ Revoke
IsNoRevoke place met = Unit {0}

-- A leader whose lease runs at the reading of a turn leads after the turn, by a lease that ends no earlier. This
-- requires that its writes succeed, that the ticket has no handler, that the turn hears no revoke of the ticket, and
-- that there are other members.
abbrev pub TurnsKeepLeases : Type 0
TurnsKeepLeases =
    (node : NodeConfig) (state : State) (place : ℕ) (setup : Setup) (view : View) (before now : ℕ)
    (arrival : Result Arrival Failed) (bytes : List ℕ)
    → before ≤ now → now < own_end view → setup.times.renewal < setup.times.expire
    → handler_at node place ≡ None → 1 < setup.members
    → HasView state place setup view → IsLeading setup before view
    → Meets node now state arrival bytes (IsNoRevoke place)
    → Whenever IsKept (IsLeft now place setup (KeepsLease setup now view))
    (react node state now arrival bytes)
