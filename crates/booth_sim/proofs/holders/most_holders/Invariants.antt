-- The most so far, and of the tickets that are left, is the most of all.
use Rattle.std.proofs.Common.{◌≡◌, List, drop, max}
use Rattle.booth_node.specs.World.{WorldEntry, last_time}
use Rattle.booth_sim.specs.Counts.{most_of}
use Rattle.booth_sim.specs.Standing.{AreDaemons}
use Rattle.booth_sim.proofs.holders.most_holders.Given as goal

abbrev pub invariant-loop-place : goal.invariant-loop-place
invariant-loop-place l =
    (before : List WorldEntry) → AreDaemons l.config before 0 l.daemons → l.time ≡ last_time 0 before
    → max l.most (most_of l.config before (drop l.place l.config.tickets)) ≡ most_of l.config before l.config.tickets
