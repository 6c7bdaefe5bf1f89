-- The parts of a node that a caller sees.
use Rattle.booth_node.specs.declared.node_config.NodeConfig.{NodeConfig}
use Rattle.booth_node.specs.declared.node.Node.{Node}
use Rattle.booth_node.specs.declared.tickets.TicketTable.{TicketTable}
use Rattle.std.specs.Prelude.{◌≡◌, ℕ}
use Rattle.booth_node.specs.State.{State, state_of_parts}

abbrev pub state_with : TicketTable → ℕ → State
state_with table last_reading =
    state_of_parts table.tickets.items table.waiters table.attrs table.common last_reading

-- Only the buffer for messages has changed.
pub record TellsAlone (old new : TicketTable) : Type 0 where
  pub node : new.node ≡ old.node
  pub tickets : new.tickets.items ≡ old.tickets.items
  pub waiters : new.waiters ≡ old.waiters
  pub attributes : new.attrs ≡ old.attrs
  pub common : new.common ≡ old.common

abbrev pub node_config : Node → NodeConfig
node_config node = node.table.node

abbrev pub state_of : Node → State
state_of node = state_with node.table node.last_reading
