-- The cluster of one automatic ticket of a world.
use Rattle.std.specs.Prelude.{ℕ, Bool, false, Option, Some, None, position, unwrap_or, if◌then◌else◌}
use Rattle.booth_base.specs.declared.address.MemberId.{MemberId}
use Rattle.booth_conf.specs.Config.{has_id}
use Rattle.booth_conf.specs.declared.tickets.TicketConf.{TicketConf}
use Rattle.booth_rec.specs.declared.record.Promise.{Promise as IdPromise}
use Rattle.booth_rec.specs.declared.record.Record.{Record}
use Rattle.booth_rec.specs.Record.{is_second}
use Rattle.booth_node.specs.Opening.{is_site_at}
use Rattle.booth_node.specs.World.{World, members_of, begins_with}
use Rattle.booth_world.specs.OnePhase.{all_seats, only_phase}
use Rattle.booth_world.specs.States.{Promise, KeptRecord, Cluster}

-- The place of the member with this id.
abbrev pub place_of : World → MemberId → ℕ
place_of w id = unwrap_or (position (has_id id) w.members) 0

abbrev pub bound_at : World → Option MemberId → Option ℕ
bound_at w None = None
bound_at w (Some id) = Some (place_of w id)

abbrev pub promise_at : World → Option IdPromise → Option Promise
promise_at w None = None
promise_at w (Some promise) =
    Some (record { to = place_of w promise.to; term = promise.term; until = promise.until })

-- A record with its members named by place. A record of version 2 has a pledge.
abbrev pub kept_at : World → Record → KeptRecord
kept_at w kept = record {
  term = kept.term;
  lease = kept.lease;
  pledge = if is_second kept
      then Some (record { bound = bound_at w kept.bound; promise = promise_at w kept.promise; abstain = kept.abstain })
      else None;
}

-- The cluster of a ticket, from the world's members, clocks and configuration. It has one phase, since all starts of a
-- world have the same members, and the ticket has the same times in each of them. If `going` is true, each of its
-- starts goes on from a record that its member may have written, or in a later term.
abbrev pub cluster_going : Bool → World → TicketConf → Cluster
cluster_going going w ticket = record {
  members = members_of w;
  is_site = is_site_at w.members;
  phase = only_phase w.span w.ticks (all_seats (members_of w)) ticket.times;
  ticks = w.ticks;
  span = w.span;
  clock = w.clock;
  begins = λ m. record { second = (w.begins m).second; kept = kept_at w (begins_with w m ticket.name) };
  goes_on = going;
}

-- The same cluster, whose starts may read each silent record.
abbrev pub cluster_of : World → TicketConf → Cluster
cluster_of w ticket = cluster_going false w ticket
