-- The lines of a replay are counted from 1 on.
use Rattle.std.specs.Prelude.{◌≤◌}
use Rattle.std.specs.List.{AllByRecursion}
use Rattle.std.proofs.Common.{ℕ, List, [], ◌∷◌, arith}
use Rattle.std.proofs.lemmas.List.Elements.{All-from_recursion}
use Rattle.booth_journal.specs.Says.{Said}
use Rattle.booth_node.specs.declared.node_config.NodeConfig.{NodeConfig}
use Rattle.booth_audit.specs.Hearings.{ReplaysAreCounted}
use Rattle.booth_audit.specs.Replay.{Did, Event, Idle, Passes, Place, Replayed, Step, Strays, by_step, line_behind, replay, replayed, stepped}

abbrev Counted : List Event → Type 0
Counted events = AllByRecursion (λ (event : Event). 1 ≤ event.line) events

by_counted : (step : Step) (line : ℕ) (rest : Place → Replayed) → 1 ≤ line → ((place : Place) → Counted (rest place).events)
    → Counted (by_step step line rest).events
by_counted (Passes place) line rest above others = others place
by_counted (Did what place) line rest above others = (above, others place)
by_counted Strays line rest above others = tt

replayed_counted : (node : NodeConfig) (place : Place) (line : ℕ) (all : List Said) → 1 ≤ line
    → Counted (replayed node place line all).events
replayed_counted node place line [] above = tt
replayed_counted node place line (said ∷ more) above =
    by_counted (stepped node place said more) line (λ after. replayed node after (line_behind line said) more) above
    (λ after. replayed_counted node after (line_behind line said) more (omega (arith, above)))

pub replays_are_counted : ReplaysAreCounted
replays_are_counted node all =
    All-from_recursion (λ (event : Event). 1 ≤ event.line) (replay node all).events (replayed_counted node Idle 1 all (omega arith))
