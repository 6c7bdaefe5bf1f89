-- The programs that are run for a service.
use Rattle.std.specs.Prelude.{ℕ, ◌+◌, ◌++◌, ◌==◌, List, codes, decimal, length, nat_le, if◌then◌else◌}
use Rattle.booth_follow_rule.specs.declared.state.Word.{Word}
use Rattle.booth_follow_rule.specs.declared.state.Word.TheVariants.{Check, Renew, Start, Stop, Kill}
use Rattle.booth_following.specs.declared.programs.TheConstants.{PATH_BYTES}
use Rattle.booth_following.specs.declared.programs.Programs.{Programs}

-- the program with its arguments, followed by one word
abbrev pub programs_of : List ℕ → Programs
programs_of program = record {
  check = program ++ codes " check";
  renew = program ++ codes " renew";
  start = program ++ codes " start";
  stop = program ++ codes " stop";
  kill = program ++ codes " kill";
}

-- a renewal followed by the time of a kill in ms, if a path has room for it
abbrev pub renewal_of : List ℕ → ℕ → List ℕ
renewal_of renew kill =
    if nat_le (length renew + (1 + length (decimal kill))) PATH_BYTES then renew ++ (codes " " ++ decimal kill)
    else renew

abbrev pub program_for : Programs → ℕ → Word → List ℕ
program_for programs kill Check = programs.check
program_for programs kill Renew = renewal_of programs.renew kill
program_for programs kill Start = programs.start
program_for programs kill Stop = programs.stop
program_for programs kill Kill = programs.kill

-- The program followed by the term of the lease, if a term is known and a path has room for it. The host passes the
-- term to the program.
abbrev pub termed : List ℕ → ℕ → List ℕ
termed path term =
    if term == 0 then path
    else (if nat_le (length path + (6 + length (decimal term))) PATH_BYTES then path ++ (codes " term=" ++ decimal term)
    else path)
