-- Valid words are taken, and none of them is bad.
use Rattle.std.specs.Prelude.{Some}
use Rattle.std.proofs.Common.{◌≡◌, ℕ, true, List, sym, subst}
use Rattle.clap.specs.Words.{takes}
use Rattle.clap.specs.declared.error.kind.ErrorKind.{ErrorKind}
use Rattle.booth_cli.specs.declared.word.Word.{Word}
use Rattle.booth_cli.specs.declared.command.Verb.{Verb}
use Rattle.booth_cli.specs.declared.program.Program.{Program}
use Rattle.booth_cli.specs.Commands.{app_for, verb_in}
use Rattle.booth_cli.specs.Given.{found_in}
use Rattle.booth_cli.specs.Reading.{Refuses}
use Rattle.booth_cli.specs.Asking.{HasBadWord, IsUntaken}
use Rattle.booth_cli.specs.Valid.{AreValid}

same_verb : (verb other : Verb) (program : Program) (words : List (List ℕ)) → verb_in program words ≡ Some verb → verb_in program words ≡ Some other → other ≡ verb
same_verb verb other program words is named = cc

-- valid words are taken
pub taken_words : (program : Program) (words : List (List ℕ)) (verb : Verb) (kind : ErrorKind) → AreValid program words verb → IsUntaken program words kind → ⊥
taken_words program words verb kind valid un =
    un.untaken (subst (λ v. takes (app_for v) words ≡ true) (sym (same_verb verb un.verb program words valid.named un.named)) valid.taken)

-- valid words have no bad word
pub good_words : (program : Program) (words : List (List ℕ)) (verb : Verb) (word : Word) → AreValid program words verb → HasBadWord program words word → ⊥
good_words program words verb word valid bad =
    valid.accepted word (subst (λ v. Refuses (found_in v words) word) (same_verb verb bad.verb program words valid.named bad.named) bad.first.refused)
