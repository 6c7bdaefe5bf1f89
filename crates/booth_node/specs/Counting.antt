-- The counters of a node, and their changes.
use Rattle.std.specs.Prelude.{ℕ, ◌+◌, ◌-◌, ◌/◌, ◌^◌, min, Bool, true, false, slice_index, slice_index_or, slice_set, replicate}
use Rattle.booth_base.specs.declared.limits.TheConstants.{MEMBERS}
use Rattle.booth_auth.specs.declared.admission.DropFault.{DropFault}
use Rattle.booth_auth.specs.declared.admission.DropFault.TheVariants.{Frame, NoMac, BadMac, TooOld, Stranger, Own, Ticket, Leader}
use Rattle.booth_ticket.specs.declared.hands.To.{To}
use Rattle.booth_ticket.specs.declared.hands.To.TheVariants.{Member, Client}
use Rattle.booth_node.specs.declared.state.Common.{Common}
use Rattle.booth_node.specs.declared.state.Counters.{Counters}
use Rattle.booth_node.specs.State.{State}

-- The next value of a counter. The counter stays at its greatest value.
abbrev pub more : ℕ → ℕ
more count = min (count + 1) (2 ^ 64 - 1)

-- The place of each fault among the eight drop counters, in the gate's order.
abbrev pub place_of : DropFault → ℕ
place_of (Frame fault) = 0
place_of NoMac = 1
place_of BadMac = 2
place_of TooOld = 3
place_of Stranger = 4
place_of Own = 5
place_of Ticket = 6
place_of Leader = 7

-- The counters after one more datagram was dropped for this fault.
abbrev pub count_drop : Common → DropFault → Common
count_drop common fault =
    let count = more (slice_index common.drops (place_of fault)) in
    record common { drops = slice_set common.drops (place_of fault) count }

abbrev pub dropped : State → DropFault → State
dropped state fault = record state { common = count_drop state.common fault }

-- The counters of a member before any message.
abbrev pub no_counts : Counters
no_counts = record { accepted = 0; sent = 0; errors = 0; last = 0 }

-- The counters of the member with this index.
abbrev pub counters_at : Common → ℕ → Counters
counters_at common place = slice_index_or common.members place no_counts

abbrev pub with_counters : Common → ℕ → Counters → Common
with_counters common place counters = record common { members = slice_set common.members place counters }

-- The counters of a member after one more of its datagrams was accepted, at this moment.
abbrev pub counted : Counters → ℕ → Counters
counted counters now = record counters { accepted = more counters.accepted; last = now / 1000 }

abbrev pub accepted : State → ℕ → ℕ → State
accepted state place now = record state {
  common = with_counters state.common place (counted (counters_at state.common place) now);
}

-- The counters of a member after one more message to it was sent, or failed to be sent.
abbrev pub tried : Counters → Bool → Counters
tried counters true = record counters { sent = more counters.sent }
tried counters false = record counters { errors = more counters.errors }

-- The counters after a rule's send, which counts for its receiver. A reply to a client changes no counter.
abbrev pub count_send : Common → To → Bool → Common
count_send common (Member place) ok = with_counters common place (tried (counters_at common place) ok)
count_send common (Client peer) ok = common

-- The counters at the beginning: nothing was counted, and no handler was started.
abbrev pub nothing_counted : Common
nothing_counted = record { drops = replicate 8 0; members = replicate MEMBERS no_counts; next_job = 1 }
