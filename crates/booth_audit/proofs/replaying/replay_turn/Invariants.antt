use Rattle.booth_audit.proofs.replaying.replay_turn.Given as goal

abbrev pub ghosts-turn_over : goal.ghosts-turn_over
ghosts-turn_over a = record { text = a.text.now; line = a.line }
