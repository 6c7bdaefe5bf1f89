-- The state of a node after it was opened.
use Rattle.std.specs.Prelude.{◌≡◌, ℕ, ◌+◌, ◌-◌, ◌^◌, min, Bool, true, false, List, [], ◌∷◌, length, map, position, replicate, slice_get, Option, unwrap_or, if◌then◌else◌}
use Rattle.std.specs.Option.{option_map_or}
use Rattle.booth_conf.specs.Config.{has_id}
use Rattle.booth_conf.specs.Lookups.{rank_of, weights_at}
use Rattle.booth_conf.specs.declared.members.Member.{Member}
use Rattle.booth_conf.specs.declared.tickets.TicketConf.{TicketConf}
use Rattle.booth_rec.specs.declared.record.Record.{Record}
use Rattle.booth_rec.specs.Record.{record_or_none}
use Rattle.booth_wire.specs.declared.message.Setup.{Setup}
use Rattle.booth_attr.specs.Attributes.{no_attributes}
use Rattle.booth_ticket.specs.Ticket.{Known, TicketState, opened as ticket_opened, opened_by_hand}
use Rattle.booth_node.specs.declared.node_config.NodeConfig.{NodeConfig}
use Rattle.booth_node.specs.Counting.{nothing_counted}
use Rattle.booth_node.specs.State.{State}

-- The member's place in the configuration.
abbrev pub own_place : NodeConfig → ℕ
own_place node = unwrap_or (position (has_id node.me) node.config.members) 0

abbrev pub is_site_at : List Member → ℕ → Bool
is_site_at members place = option_map_or (λ member. member.site) (slice_get members place) false

-- The number of sites that come before this member. An arbitrator has no rank.
abbrev pub rank_at : NodeConfig → ℕ → ℕ
rank_at node index =
    if is_site_at node.config.members (own_place node)
    then rank_of node.config.members (weights_at node.config.tickets index) (own_place node)
    else 0

-- The setup of the ticket at this place.
abbrev pub setup_of : NodeConfig → ℕ → TicketConf → Setup
setup_of node index ticket = record {
  ticket = ticket.name;
  me = node.me;
  place = own_place node;
  members = length node.config.members;
  site = is_site_at node.config.members (own_place node);
  rank = rank_at node index;
  times = ticket.times;
  second = node.second;
  steady = ticket.steady;
}

-- The setups of these tickets, from this place on.
abbrev pub setups_from : NodeConfig → ℕ → List TicketConf → List Setup
setups_from node index [] = []
setups_from node index (ticket ∷ tickets) = setup_of node index ticket ∷ setups_from node (index + 1) tickets

-- The node's tickets are the tickets of the configuration. Each is set up for this node, and has a list of the
-- clients that wait for it.
abbrev pub AreSetUp : NodeConfig → State → Type 0
AreSetUp node state =
    (map (λ ticket. ticket.setup) state.tickets ≡ setups_from node 0 node.config.tickets)
    × (length state.waiters ≡ length node.config.tickets)

-- The knowledge about a ticket at its start, automatic or manual.
abbrev pub known_at_start : Bool → Setup → Record → ℕ → Known
known_at_start true setup rec now = (opened_by_hand setup rec now).known
known_at_start false setup rec now = (ticket_opened setup rec now).known

-- A ticket of the configuration at its start, by its kind.
abbrev pub opened_by : TicketConf → Setup → Record → ℕ → TicketState
opened_by ticket setup rec now =
    record { setup = setup; known = known_at_start ticket.manual setup rec now }

-- The tickets at their start, each from its record, from this place on.
abbrev pub started_from : NodeConfig → ℕ → ℕ → List TicketConf → List (Option Record) → List TicketState
started_from node now index (ticket ∷ tickets) (rec ∷ records) =
    opened_by ticket (setup_of node index ticket) (record_or_none rec) now
    ∷ started_from node now (index + 1) tickets records
started_from node now index tickets records = []

-- The clock reading that a start uses.
abbrev pub start_reading : ℕ → ℕ
start_reading reading = min reading (2 ^ 62 - 1)

abbrev pub opened : NodeConfig → List (Option Record) → ℕ → State
opened node records reading = record {
  tickets = started_from node (start_reading reading) 0 node.config.tickets records;
  waiters = replicate (length node.config.tickets) [];
  attributes = no_attributes (length node.config.tickets);
  common = nothing_counted;
  last_reading = start_reading reading;
}
