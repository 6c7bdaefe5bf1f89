-- Stories that were worked out manually: the events before each reading, and the action after it.
use Rattle.std.specs.Prelude.{◌≡◌, ℕ, List, [], ◌∷◌, map, Option, Some, None}
use Rattle.booth_follow_rule.specs.declared.margins.Margins.{Margins}
use Rattle.booth_follow_rule.specs.declared.news.News.{News}
use Rattle.booth_follow_rule.specs.declared.news.News.TheVariants as n
use Rattle.booth_follow_rule.specs.declared.news.RunEnd.TheVariants.{Done, Failed}
use Rattle.booth_follow_rule.specs.declared.news.Shown.TheVariants.{Here, Elsewhere}
use Rattle.booth_follow_rule.specs.declared.state.FollowDeed.{FollowDeed}
use Rattle.booth_follow_rule.specs.declared.state.FollowDeed.TheVariants as deeds
use Rattle.booth_follow_rule.specs.declared.state.Word.TheVariants.{Check, Renew, Start, Stop, Kill}
use Rattle.booth_follow_rule.specs.Known.{Row}
use Rattle.booth_follow_rule.specs.Rule.{follow_deeds}

-- stopped 20 seconds before the end, killed 5 seconds before it, and left so for 5 seconds
abbrev pub times : Margins
times = record { margin = 20000; kill = 5000; pause = 5000 }

-- those of a lease of 20 seconds that is renewed each 10 seconds
abbrev pub short_times : Margins
short_times = record { margin = 5000; kill = 2500; pause = 5000 }

abbrev pub row : ℕ → News → FollowDeed → Row
row reading heard deed = record { at = record { reading = reading; heard = heard }; deed = deed }

-- the actions of a story are the actions of the rule, for a follower with these times if an earlier follower left this
-- end
abbrev pub IsFollowedBy : Margins → Option ℕ → List Row → Type 0
IsFollowedBy m left rows = follow_deeds m left (map (λ r. r.at) rows) ≡ map (λ r. r.deed) rows

abbrev pub IsFollowed : Option ℕ → List Row → Type 0
IsFollowed left rows = IsFollowedBy times left rows

-- A service through a whole life of a ticket: the follower stops what an earlier one left; it arms an end, and starts
-- the service; it renews the lease and then cannot, and kills the service; it starts it again, until a list shows
-- another site, and the follower is asked to end.
abbrev pub a_whole_life : List Row
a_whole_life =
    row 1000 n.Nothing (deeds.Run Stop 1 0)
    ∷ row 1100 (n.End 1 Done) deeds.Nothing
    ∷ row 2000 (n.List (Here 60000)) deeds.Nothing
    ∷ row 6099 n.Nothing deeds.Nothing
    ∷ row 6100 n.Nothing (deeds.Run Renew 2 60000)
    ∷ row 6200 (n.End 2 Done) (deeds.Run Start 3 60000)
    ∷ row 6300 (n.End 3 Done) deeds.Nothing
    ∷ row 31000 (n.List (Here 90000)) (deeds.Run Renew 4 90000)
    ∷ row 31100 (n.End 4 Done) deeds.Nothing
    ∷ row 69999 n.Nothing deeds.Nothing
    ∷ row 70000 n.Nothing (deeds.Run Stop 5 90000)
    ∷ row 84999 n.Nothing deeds.Nothing
    ∷ row 85000 n.Nothing (deeds.Run Kill 6 90000)
    ∷ row 85100 (n.End 5 Failed) deeds.Nothing
    ∷ row 85200 (n.End 6 Done) deeds.Nothing
    ∷ row 86000 (n.List Elsewhere) deeds.Nothing
    ∷ row 95000 n.Nothing deeds.Nothing
    ∷ row 96000 (n.List (Here 200000)) (deeds.Run Renew 7 200000)
    ∷ row 96100 (n.End 7 Done) (deeds.Run Start 8 200000)
    ∷ row 97000 (n.List Elsewhere) (deeds.Run Stop 9 200000)
    ∷ row 98000 (n.End 9 Done) deeds.Nothing
    ∷ row 99000 n.Stop deeds.Leave
    ∷ row 99100 (n.List (Here 300000)) deeds.Nothing
    ∷ []

-- Failures: a stop that fails is followed by a kill, and a kill that fails by another after a pause; a renewal that
-- fails is run again 0.9 seconds after it was run; a start that fails is cleaned up, and tried again after a renewal;
-- if readings stood still for too long, there is no time to stop.
abbrev pub what_fails : List Row
what_fails =
    row 1000 n.Nothing (deeds.Run Stop 1 0)
    ∷ row 1100 (n.End 1 Failed) (deeds.Run Kill 2 0)
    ∷ row 1200 (n.End 2 Failed) deeds.Nothing
    ∷ row 6199 n.Nothing deeds.Nothing
    ∷ row 6200 n.Nothing (deeds.Run Kill 3 0)
    ∷ row 6300 (n.End 3 Done) deeds.Nothing
    ∷ row 12000 (n.List (Here 60000)) (deeds.Run Renew 4 60000)
    ∷ row 12100 (n.End 4 Failed) deeds.Nothing
    ∷ row 12899 n.Nothing deeds.Nothing
    ∷ row 12900 n.Nothing (deeds.Run Renew 5 60000)
    ∷ row 17100 (n.End 5 Done) (deeds.Run Start 6 60000)
    ∷ row 17200 (n.End 6 Failed) (deeds.Run Stop 7 60000)
    ∷ row 17300 (n.End 7 Done) deeds.Nothing
    ∷ row 18000 (n.List (Here 60000)) deeds.Nothing
    ∷ row 22299 n.Nothing deeds.Nothing
    ∷ row 22300 n.Nothing (deeds.Run Renew 8 60000)
    ∷ row 22400 (n.End 8 Done) (deeds.Run Start 9 60000)
    ∷ row 56000 n.Nothing (deeds.Run Kill 10 60000)
    ∷ row 56100 n.Stop deeds.Nothing
    ∷ row 56200 (n.End 10 Done) deeds.Nothing
    ∷ row 56300 n.Nothing deeds.Leave
    ∷ []

-- No start: a stop that does not end is followed by a kill; a lease, or an armed end, with no more than the margin
-- left starts nothing; nor does the end of a run that is not among the last.
abbrev pub no_start : List Row
no_start =
    row 1000 n.Nothing (deeds.Run Stop 1 0)
    ∷ row 1001 (n.List Elsewhere) deeds.Nothing
    ∷ row 15999 n.Nothing deeds.Nothing
    ∷ row 16000 n.Nothing (deeds.Run Kill 2 0)
    ∷ row 17000 (n.End 1 Done) deeds.Nothing
    ∷ row 18000 (n.End 2 Done) deeds.Nothing
    ∷ row 23000 (n.List (Here 43000)) deeds.Nothing
    ∷ row 23001 (n.List (Here 43001)) deeds.Nothing
    ∷ row 23001 (n.List (Here 43002)) (deeds.Run Renew 3 43002)
    ∷ row 23002 (n.End 3 Done) deeds.Nothing
    ∷ row 24000 (n.List (Here 50000)) (deeds.Run Renew 4 50000)
    ∷ row 24100 (n.End 4 Done) (deeds.Run Start 5 50000)
    ∷ []

-- If a renewal fails or is still running, the earlier end stays in force. A renewal that is still running is run again
-- after a pause. The service is stopped in time for the end before; a renewal that succeeds while it stops gives the
-- stop more time.
abbrev pub a_renewal_fails : List Row
a_renewal_fails =
    row 1000 n.Nothing (deeds.Run Stop 1 0)
    ∷ row 1100 (n.End 1 Done) deeds.Nothing
    ∷ row 7000 (n.List (Here 60000)) (deeds.Run Renew 2 60000)
    ∷ row 7100 (n.End 2 Done) (deeds.Run Start 3 60000)
    ∷ row 30000 (n.List (Here 90000)) (deeds.Run Renew 4 90000)
    ∷ row 30100 (n.End 4 Failed) deeds.Nothing
    ∷ row 30899 n.Nothing deeds.Nothing
    ∷ row 30900 n.Nothing (deeds.Run Renew 5 90000)
    ∷ row 31100 (n.List (Here 91000)) deeds.Nothing
    ∷ row 35899 n.Nothing deeds.Nothing
    ∷ row 35900 n.Nothing (deeds.Run Renew 6 91000)
    ∷ row 39999 (n.End 5 Failed) deeds.Nothing
    ∷ row 40000 n.Nothing (deeds.Run Stop 7 60000)
    ∷ row 40899 n.Nothing deeds.Nothing
    ∷ row 40900 n.Nothing (deeds.Run Renew 8 91000)
    ∷ row 41100 (n.End 8 Done) deeds.Nothing
    ∷ row 55000 n.Nothing deeds.Nothing
    ∷ row 56000 (n.End 7 Done) deeds.Nothing
    ∷ []

-- A lease of 20 seconds that is renewed every 10 seconds. A renewal that fails is run again 0.9 seconds after it was
-- run, or at once if it took longer to fail. So the service, which would have been stopped at 21000 for its end,
-- keeps running.
abbrev pub a_short_lease : List Row
a_short_lease =
    row 1000 n.Nothing (deeds.Run Stop 1 0)
    ∷ row 1100 (n.End 1 Done) deeds.Nothing
    ∷ row 6500 (n.List (Here 26000)) (deeds.Run Renew 2 26000)
    ∷ row 6600 (n.End 2 Done) (deeds.Run Start 3 26000)
    ∷ row 6900 (n.End 3 Done) deeds.Nothing
    ∷ row 16000 (n.List (Here 26000)) deeds.Nothing
    ∷ row 17000 (n.List (Here 36000)) (deeds.Run Renew 4 36000)
    ∷ row 17100 (n.End 4 Failed) deeds.Nothing
    ∷ row 17899 n.Nothing deeds.Nothing
    ∷ row 17900 n.Nothing (deeds.Run Renew 5 36000)
    ∷ row 18000 (n.List (Here 36000)) deeds.Nothing
    ∷ row 20100 (n.End 5 Failed) (deeds.Run Renew 6 36000)
    ∷ row 20200 (n.End 6 Done) deeds.Nothing
    ∷ row 21000 n.Nothing deeds.Nothing
    ∷ row 27000 (n.List (Here 46000)) (deeds.Run Renew 7 46000)
    ∷ row 27100 (n.End 7 Done) deeds.Nothing
    ∷ row 40999 n.Nothing deeds.Nothing
    ∷ row 41000 n.Nothing (deeds.Run Stop 8 46000)
    ∷ []

-- While no renewal of such a lease succeeds, one is run every 0.9 seconds, and the service is stopped in time for the
-- earlier end. It is started again after a renewal that succeeds.
abbrev pub no_renewal_is_done : List Row
no_renewal_is_done =
    row 1000 n.Nothing (deeds.Run Stop 1 0)
    ∷ row 1100 (n.End 1 Done) deeds.Nothing
    ∷ row 6500 (n.List (Here 26000)) (deeds.Run Renew 2 26000)
    ∷ row 6600 (n.End 2 Done) (deeds.Run Start 3 26000)
    ∷ row 18000 (n.List (Here 36000)) (deeds.Run Renew 4 36000)
    ∷ row 18100 (n.End 4 Failed) deeds.Nothing
    ∷ row 18900 n.Nothing (deeds.Run Renew 5 36000)
    ∷ row 19000 (n.End 5 Failed) deeds.Nothing
    ∷ row 19799 n.Nothing deeds.Nothing
    ∷ row 19800 n.Nothing (deeds.Run Renew 6 36000)
    ∷ row 19900 (n.End 6 Failed) deeds.Nothing
    ∷ row 20700 n.Nothing (deeds.Run Renew 7 36000)
    ∷ row 20800 (n.End 7 Failed) deeds.Nothing
    ∷ row 20999 n.Nothing deeds.Nothing
    ∷ row 21000 n.Nothing (deeds.Run Stop 8 26000)
    ∷ row 21100 (n.End 8 Done) deeds.Nothing
    ∷ row 22000 (n.List (Here 36000)) deeds.Nothing
    ∷ row 26099 n.Nothing deeds.Nothing
    ∷ row 26100 n.Nothing (deeds.Run Renew 9 36000)
    ∷ row 26200 (n.End 9 Failed) deeds.Nothing
    ∷ row 26999 n.Nothing deeds.Nothing
    ∷ row 27000 n.Nothing (deeds.Run Renew 10 36000)
    ∷ row 27100 (n.End 10 Done) (deeds.Run Start 11 36000)
    ∷ []

-- A stop has more time if the lease is renewed meanwhile, for example when the follower is asked to end.
abbrev pub a_stop_has_longer : List Row
a_stop_has_longer =
    row 1000 n.Nothing (deeds.Run Stop 1 0)
    ∷ row 1100 (n.End 1 Done) deeds.Nothing
    ∷ row 7000 (n.List (Here 60000)) (deeds.Run Renew 2 60000)
    ∷ row 7100 (n.End 2 Done) (deeds.Run Start 3 60000)
    ∷ row 8000 n.Stop (deeds.Run Stop 4 60000)
    ∷ row 50000 (n.List (Here 90000)) (deeds.Run Renew 5 90000)
    ∷ row 50100 (n.End 5 Done) deeds.Nothing
    ∷ row 84999 n.Nothing deeds.Nothing
    ∷ row 85000 n.Nothing (deeds.Run Kill 6 90000)
    ∷ row 85001 (n.End 6 Done) deeds.Nothing
    ∷ row 85002 n.Nothing deeds.Leave
    ∷ []

-- A service that an earlier follower left with an end is taken over if it runs: it continues beyond that end if a list
-- has a later one.
abbrev pub taken_over : List Row
taken_over =
    row 1000 n.Nothing (deeds.Run Check 1 60000)
    ∷ row 1100 (n.End 1 Done) deeds.Nothing
    ∷ row 2000 (n.List (Here 60000)) deeds.Nothing
    ∷ row 31000 (n.List (Here 90000)) (deeds.Run Renew 2 90000)
    ∷ row 31100 (n.End 2 Done) deeds.Nothing
    ∷ row 69999 n.Nothing deeds.Nothing
    ∷ row 70000 n.Nothing (deeds.Run Stop 3 90000)
    ∷ []

-- If it does not run, it is stopped, and started when a list shows this site.
abbrev pub not_running : List Row
not_running =
    row 1000 n.Nothing (deeds.Run Check 1 60000)
    ∷ row 1100 (n.End 1 Failed) (deeds.Run Stop 2 60000)
    ∷ row 1200 (n.End 2 Done) deeds.Nothing
    ∷ row 7000 n.Nothing deeds.Nothing
    ∷ row 8000 (n.List (Here 60000)) (deeds.Run Renew 3 60000)
    ∷ row 8100 (n.End 3 Done) (deeds.Run Start 4 60000)
    ∷ []

-- No answer arrives. The service that was taken over is stopped one margin before the end that was left.
abbrev pub nobody_answers : List Row
nobody_answers =
    row 1000 n.Nothing (deeds.Run Check 1 60000)
    ∷ row 1100 (n.End 1 Done) deeds.Nothing
    ∷ row 39999 n.Nothing deeds.Nothing
    ∷ row 40000 n.Nothing (deeds.Run Stop 2 60000)
    ∷ row 54999 n.Nothing deeds.Nothing
    ∷ row 55000 n.Nothing (deeds.Run Kill 3 60000)
    ∷ []

-- If a list shows another site, the service is stopped, whether or not the check is done.
abbrev pub shown_elsewhere : List Row
shown_elsewhere =
    row 1000 n.Nothing (deeds.Run Check 1 60000)
    ∷ row 1050 (n.List Elsewhere) (deeds.Run Stop 2 60000)
    ∷ row 1100 (n.End 2 Done) deeds.Nothing
    ∷ []

-- A follower that starts within the margin of that end stops the service.
abbrev pub begun_late : List Row
begun_late =
    row 40000 n.Nothing (deeds.Run Stop 1 60000)
    ∷ row 55000 n.Nothing (deeds.Run Kill 2 60000)
    ∷ []

-- A follower that starts within the time of a kill before that end kills the service.
abbrev pub begun_too_late : List Row
begun_too_late =
    row 55000 n.Nothing (deeds.Run Kill 1 60000)
    ∷ row 55100 (n.End 1 Done) deeds.Nothing
    ∷ row 56000 n.Stop deeds.Leave
    ∷ []

-- The rule follows all these stories.
pub record StoriesAreFollowed : Type 0 where
  pub a_whole_life_is : IsFollowed None a_whole_life
  pub what_fails_is : IsFollowed None what_fails
  pub no_start_is : IsFollowed None no_start
  pub a_renewal_fails_is : IsFollowed None a_renewal_fails
  pub a_short_lease_is : IsFollowedBy short_times None a_short_lease
  pub no_renewal_is_done_is : IsFollowedBy short_times None no_renewal_is_done
  pub a_stop_has_longer_is : IsFollowed None a_stop_has_longer
  pub taken_over_is : IsFollowed (Some 60000) taken_over
  pub not_running_is : IsFollowed (Some 60000) not_running
  pub nobody_answers_is : IsFollowed (Some 60000) nobody_answers
  pub shown_elsewhere_is : IsFollowed (Some 60000) shown_elsewhere
  pub begun_late_is : IsFollowed (Some 60000) begun_late
  pub begun_too_late_is : IsFollowed (Some 60000) begun_too_late
