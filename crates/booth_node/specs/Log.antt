-- The calls of many turns, one after the other.
use Rattle.std.specs.Prelude.{◌≡◌, ◌++◌, ℕ, List, [], ◌∷◌, length}
use Rattle.booth_host.specs.declared.entry.Entry.{Entry}
use Rattle.booth_node.specs.State.{State}
use Rattle.booth_node.specs.declared.node.Turn.TheVariants.{Went, Stopped}
use Rattle.booth_node.specs.declared.node_config.NodeConfig.{NodeConfig}
use Rattle.booth_node.specs.Reaction.{IsTurn}

-- Each turn begins in the state after the turn before it, and no turn stopped.
abbrev pub AreTurns : NodeConfig → State → List (List Entry) → State → Type 0
AreTurns node old [] new = new ≡ old
AreTurns node old (entries ∷ turns) new =
    (mid : State) × IsTurn node old Went entries mid × AreTurns node mid turns new

abbrev pub joined_turns : List (List Entry) → List Entry
joined_turns [] = []
joined_turns (turn ∷ turns) = turn ++ joined_turns turns

-- The entries are the calls of this many turns, and no turn stopped.
pub record IsNodeLog (node : NodeConfig) (old : State) (count : ℕ) (new : State) (entries : List Entry)
    : Type 0 where
  pub turns : List (List Entry)
  pub number : length turns ≡ count
  pub whole : entries ≡ joined_turns turns
  pub each : AreTurns node old turns new

-- The entries are the calls of turns, and the last turn stopped.
pub record IsStoppedLog (node : NodeConfig) (old new : State) (entries : List Entry) : Type 0 where
  pub count : ℕ
  pub mid : State
  pub before : List Entry
  pub last : List Entry
  pub whole : entries ≡ before ++ last
  pub log : IsNodeLog node old count mid before
  pub stop : IsTurn node mid Stopped last new
