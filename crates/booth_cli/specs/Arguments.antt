-- Arguments as the code lists them, and the rules of `clap` for them.
use Rattle.std.specs.Prelude.{ℕ, true, List, Some}
use Rattle.clap.specs.Words.{Rule, new_rule}
use Rattle.clap.specs.declared.builder.action.ArgAction.TheVariants.{Set}
use Rattle.booth_cli.specs.declared.argument.Argument.{Argument}
use Rattle.booth_cli.specs.declared.argument.TheConstants.{MOST_JOURNALS}
use Rattle.booth_cli.specs.declared.argument.Form.{Form}
use Rattle.booth_cli.specs.declared.argument.Form.TheVariants.{Word, Words, Valued, Needed, Flag, NamedFlag}
use Rattle.booth_cli.specs.Commands.{flag, needed, option, word}

-- an argument with a value
abbrev pub valued : List ℕ → Rule
valued id = record (new_rule id) { action = Some Set; value_names = 1 }

-- arguments by their places, at least one
abbrev pub words : List ℕ → Rule
words id = record (word id) { range = Some (record { start_inclusive = 1; end_inclusive = MOST_JOURNALS }) }

-- the rule of an argument with this name and form
abbrev pub rule_in : List ℕ → Form → Rule
rule_in id Word = word id
rule_in id Words = words id
rule_in id (Valued letter) = option id letter
rule_in id (Needed letter) = needed (option id letter)
rule_in id (Flag letter) = flag id letter
rule_in id (NamedFlag letter) = record (flag id letter) { long = Some id }

abbrev pub rule_for : Argument → Rule
rule_for argument = rule_in argument.id.now argument.form
