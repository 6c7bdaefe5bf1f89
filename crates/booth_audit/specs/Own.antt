-- The owner of the starts in a replay.
use Rattle.std.specs.Prelude.{◌≡◌, List, [], ◌∷◌}
use Rattle.booth_journal.specs.Says.{Said}
use Rattle.booth_node.specs.declared.node_config.NodeConfig.{NodeConfig}
use Rattle.booth_node.specs.Session.{SessionEntry, Starts}
use Rattle.booth_audit.specs.Replay.{deeds_of, replay}

-- A start is this member's.
abbrev pub IsOwn : NodeConfig → SessionEntry → Type 0
IsOwn node (Starts other reading records) = other ≡ node
IsOwn node what = Unit {0}

abbrev pub AllOwn : NodeConfig → List SessionEntry → Type 0
AllOwn node [] = Unit {0}
AllOwn node (what ∷ more) = IsOwn node what × AllOwn node more

-- All starts of a replay are starts of its member.
abbrev pub ReplaysAreOwn : Type 0
ReplaysAreOwn = (node : NodeConfig) (all : List Said) → AllOwn node (deeds_of (replay node all).events)
