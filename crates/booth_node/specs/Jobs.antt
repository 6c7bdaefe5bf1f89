-- The runs of handlers (jobs) that a node starts: the ticket and the number of each.
use Rattle.std.specs.Prelude.{ℕ, ◌+◌, ◌-◌, ◌^◌, ◌==◌, List, [], ◌∷◌, option_map, position, slice_get, Option, Some, None, Result, unwrap_or, if◌then◌else◌}
use Rattle.booth_base.specs.declared.address.Address.{Address}
use Rattle.booth_base.specs.declared.address.Address.TheVariants.{V4}
use Rattle.booth_conf.specs.Lookups.{is_called}
use Rattle.booth_conf.specs.declared.members.Member.{Member}
use Rattle.booth_conf.specs.declared.tickets.TicketConf.{TicketConf}
use Rattle.booth_host.specs.declared.entry.Entry.{Entry}
use Rattle.booth_host.specs.declared.entry.Entry.TheVariants as calls
use Rattle.booth_host.specs.declared.host.Failed.{Failed}
use Rattle.booth_host.specs.declared.host.Job.{Job}
use Rattle.booth_node.specs.declared.node_config.NodeConfig.{NodeConfig}
use Rattle.booth_node.specs.declared.state.Common.{Common}
use Rattle.booth_node.specs.Opening.{own_place}

-- ---- numbers

-- The number after this one. Jobs count from 1, and restart after the greatest number.
abbrev pub number_after : ℕ → ℕ
number_after number = if number == 2 ^ 64 - 1 then 1 else number + 1

-- The counters after a job's number was used up.
abbrev pub count_start : Common → Common
count_start common = record common { next_job = number_after common.next_job }

-- ---- handlers

abbrev pub handler_in : Option TicketConf → Option (List ℕ)
handler_in None = None
handler_in (Some ticket) = ticket.handler

-- The handler of the ticket with this index, if it has one.
abbrev pub handler_at : NodeConfig → ℕ → Option (List ℕ)
handler_at node place = handler_in (slice_get node.config.tickets place)

-- The number of the job that the ticket with this index may start, if it has a handler.
abbrev pub job_at : NodeConfig → ℕ → Common → Option ℕ
job_at node place common = option_map (λ handler. common.next_job) (handler_at node place)

-- ---- a job, as the node passes it to the host

-- The handler of a ticket, found by the ticket's name. A ticket without a handler runs nothing.
abbrev pub words_at : NodeConfig → Option ℕ → List ℕ
words_at node None = []
words_at node (Some place) = unwrap_or (handler_at node place) []

abbrev pub address_in : Option Member → Address
address_in None = V4 (0 ∷ 0 ∷ 0 ∷ 0 ∷ [])
address_in (Some member) = member.address

-- The address of this member.
abbrev pub own_address : NodeConfig → Address
own_address node = address_in (slice_get node.config.members (own_place node))

-- The job of a ticket with this name and number.
abbrev pub job_of : NodeConfig → List ℕ → ℕ → ℕ → Job
job_of node name number expires = record {
  number = number;
  ticket = name;
  handler = words_at node (position (is_called name) node.config.tickets);
  local = own_address node;
  expires = expires;
}

-- The call that starts a job.
abbrev pub start_call : Job → Result (Unit {0}) Failed → Entry
start_call job answer = calls.Start job.number job.ticket job.handler job.local job.expires answer
