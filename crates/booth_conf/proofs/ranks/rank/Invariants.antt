use Rattle.std.proofs.Common.{◌≡◌, ◌+◌, ◌≤◌, drop, count_by}
use Rattle.std.specs.List.{enumerate_from}
use Rattle.booth_conf.specs.Lookups.{comes_before, rank_of}
use Rattle.booth_conf.proofs.ranks.rank.Given as goal

-- those so far and those that are left are all
abbrev pub invariant-loop-place : goal.invariant-loop-place
invariant-loop-place l = record {
  all : l.rank + count_by (comes_before l.weights l.member) (enumerate_from l.place (drop l.place l.members)) ≡ rank_of l.members l.weights l.member;
  few : l.rank ≤ l.place;
}
