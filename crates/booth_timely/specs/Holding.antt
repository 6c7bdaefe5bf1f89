-- When a member of a world goes on to hold a ticket.
use Rattle.std.specs.Prelude.{◌≡◌, ℕ, ◌+◌, ◌<◌, List, Some, position}
use Rattle.booth_base.specs.Tree.{Ends}
use Rattle.booth_conf.specs.Lookups.{is_called}
use Rattle.booth_conf.specs.declared.tickets.TicketConf.{TicketConf}
use Rattle.booth_wire.specs.declared.message.Setup.{Setup}
use Rattle.booth_raft.specs.declared.view.View.{View}
use Rattle.booth_raft.specs.GainReleaseLost.{own_end}
use Rattle.booth_node.specs.Held.{Holds, IsAutomatic, Moment}
use Rattle.booth_node.specs.Session.{Doing, Down, Hearing, Stand}
use Rattle.booth_node.specs.World.{IsUntimedWorld, World, WorldEntry, clock_at, entries_of, members_of, stand_after}
use Rattle.booth_world.specs.Worlds.{IsLater}
use Rattle.booth_progress.specs.Exchange.{IsAtRest}
use Rattle.booth_progress.specs.Sessions.{EachEntry, IsCalmEntry, RestsLeading, Stands}
use Rattle.booth_progress.specs.Turns.{HasView}
use Rattle.booth_progress.specs.Winning.{AllAreHeard, Attempt, IsFit, IsTimelyEntry, RestsWinning}

-- The member's configuration has the ticket with this name at this place.
abbrev pub HasPlace : List ℕ → ℕ → Stand → Type 0
HasPlace name place Down = ⊥
HasPlace name place (Doing node deeds) = position (is_called name) node.config.tickets ≡ Some place
HasPlace name place (Hearing node old answer bytes) = position (is_called name) node.config.tickets ≡ Some place

-- The member is between two turns, or begins one, with this view of the ticket at this place.
abbrev pub RestsWith : ℕ → Setup → View → Stand → Type 0
RestsWith place setup view (Doing node (Ends state)) = HasView state place setup view
RestsWith place setup view (Hearing node old answer bytes) = HasView old place setup view
RestsWith place setup view stand = ⊥

-- A member holds a ticket if its view, between two turns, has a lease that runs by its clock.
abbrev pub ViewsHold : Type 0
ViewsHold =
    (w : World) → IsUntimedWorld w → (ticket : TicketConf) → IsAutomatic w ticket
    → (m : ℕ) → m < members_of w → (moment : Moment w) (place : ℕ) (setup : Setup) (view : View)
    → HasPlace ticket.name place (stand_after m moment.before)
    → RestsWith place setup view (stand_after m moment.before)
    → clock_at w m moment.time < own_end view → Holds w ticket m moment

-- A leader is a member of a world, between two moments of it. Its entries between the two are calm: they are well, a
-- turn reads its clock before the end of the lease, and hears no revoke. At the second moment the member is between two
-- turns. Then it holds the ticket, if its clock reads before the end of the lease.
abbrev pub LeasesLast : Type 0
LeasesLast =
    (w : World) → IsUntimedWorld w → (ticket : TicketConf) → IsAutomatic w ticket
    → (m : ℕ) → m < members_of w → (early late : Moment w) (between : List WorldEntry)
    → IsLater w early late between → (place : ℕ) (setup : Setup) (first : View)
    → HasPlace ticket.name place (stand_after m early.before)
    → setup.times.renewal < setup.times.expire → 1 < setup.members
    → Stands (RestsLeading place setup first) (stand_after m early.before)
    → EachEntry (IsCalmEntry place first) (stand_after m early.before) (entries_of m between)
    → IsAtRest (stand_after m late.before) → clock_at w m late.time < own_end first
    → Holds w ticket m late

-- A leader has opened a round. Its entries between two moments are well and in time: a turn reads its clock before the
-- end of the old lease, and before the round is sent again. Turns among them hear the answers of a majority. Then the
-- member holds the ticket at the second moment, if its clock reads less than `expire` after the opening of the round.
abbrev pub AnsweredRenewalsHold : Type 0
AnsweredRenewalsHold =
    (w : World) → IsUntimedWorld w → (ticket : TicketConf) → IsAutomatic w ticket
    → (m : ℕ) → m < members_of w → (early late : Moment w) (between : List WorldEntry)
    → IsLater w early late between → (place : ℕ) (attempt : Attempt)
    → HasPlace ticket.name place (stand_after m early.before) → IsFit attempt
    → Stands (RestsWinning attempt place) (stand_after m early.before)
    → EachEntry (IsTimelyEntry attempt place) (stand_after m early.before) (entries_of m between)
    → AllAreHeard attempt place (stand_after m early.before) (entries_of m between) attempt.majority
    → IsAtRest (stand_after m late.before)
    → clock_at w m late.time < attempt.first.opened + attempt.setup.times.expire
    → Holds w ticket m late
