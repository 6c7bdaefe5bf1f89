use Rattle.booth_node.proofs.deadlines.drain.Given as goal

abbrev pub ghosts-drain_counted : goal.ghosts-drain_counted
ghosts-drain_counted a = record { name = a.blank.name; parts = a.blank.parts }
