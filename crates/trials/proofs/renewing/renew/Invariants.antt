use Rattle.trials.proofs.renewing.renew.Given as goal

abbrev pub ghosts-renew_counted : goal.ghosts-renew_counted
ghosts-renew_counted a = record { name = a.blank.name; parts = a.blank.parts }
