-- Valid arguments.
use Rattle.std.specs.Prelude.{◌≡◌, ℕ, true, List, Some}
use Rattle.clap.specs.Words.{takes}
use Rattle.booth_cli.specs.declared.command.Verb.{Verb}
use Rattle.booth_cli.specs.declared.word.Word.{Word}
use Rattle.booth_cli.specs.declared.program.Program.{Program}
use Rattle.booth_cli.specs.Commands.{app_for, verb_in}
use Rattle.booth_cli.specs.Given.{found_in}
use Rattle.booth_cli.specs.Reading.{Refuses}

-- the first argument is this command of the program, which accepts the others, and each reader accepts its argument
pub record AreValid (program : Program) (words : List (List ℕ)) (verb : Verb) : Type 0 where
  pub named : verb_in program words ≡ Some verb
  pub taken : takes (app_for verb) words ≡ true
  pub accepted : (word : Word) → Refuses (found_in verb words) word → ⊥
