-- What is told of an error of `clap`, and words that ask for nothing.
use Rattle.std.specs.Prelude.{Option, Some, None, Result, Ok}
use Rattle.std.proofs.Common.{◌≡◌, ◌∙◌, ℕ, true, false, true≢false, List, [], ◌∷◌, refl, sym, ap, subst}
use Rattle.clap.specs.declared.error.kind.ErrorKind.{ErrorKind}
use Rattle.clap.specs.declared.error.kind.ErrorKind.TheVariants as kinds
use Rattle.booth_host.specs.declared.host.Failed.{Failed}
use Rattle.booth_host.specs.declared.entry.Entry.{Entry}
use Rattle.booth_host.specs.declared.entry.Entry.TheVariants as calls
use Rattle.booth_host.specs.Past.{GrewBy, GrewSome}
use Rattle.booth_host.proofs.PastLemmas.{some_of}
use Rattle.booth_cli.specs.declared.command.Verb.{Verb}
use Rattle.booth_cli.specs.declared.program.Program.{Program}
use Rattle.booth_cli.specs.declared.page.Page.{Page}
use Rattle.booth_cli.specs.Asking.{AsksAbout, IsUntaken, IsUntakenFor}
use Rattle.booth_cli.specs.Valid.{AreValid}
use Rattle.booth_cli.proofs.AskingLemmas.{untaken_named, untaken_of}
use Rattle.booth_cli.proofs.ValidLemmas.{good_words, taken_words}
use Rattle.booth_outcomes.specs.declared.outcome.Outcome.{Outcome}
use Rattle.booth_outcomes.specs.declared.outcome.Outcome.TheVariants.{Usage, Shown, BadWord, PrintFault, OutOfMemory}
use Rattle.booth_outcomes.specs.Pages.{IsPageTold, page_text}
use Rattle.booth_outcomes.specs.Unasked.{IsRequest, IsShown, IsTold, IsToldOutcome, IsUnasked, OfCommand, OfProgram, is_request}

-- what is no answer to a request is one err
pub complained : {a b : Option (List Entry)} (program : Program) (kind : ErrorKind) (said text : List ℕ) (answer : Result (Unit {0}) Failed) → is_request kind ≡ false →
    said ≡ [] → GrewBy a b (calls.Err text answer ∷ []) → GrewSome (IsTold program kind (Usage (Some kind)) said) a b
complained program kind said text answer mistake nothing grew =
    some_of (IsTold program kind (Usage (Some kind)) said) grew
    (refl, nothing, subst (λ b. IsShown program kind b (calls.Err text answer ∷ [])) (sym mistake) (text, answer, refl))

-- ---- words that ask for nothing

pub no_memory : (kind : ErrorKind) → is_request kind ≡ true → kind ≡ kinds.OutOfMemory → ⊥
no_memory kind asked same = true≢false (sym asked ∙ ap is_request same)

pub unasked_of : (program : Program) (words : List (List ℕ)) (kind : ErrorKind) (outcome : Outcome) (said : List ℕ) (es : List Entry) →
    IsUntakenFor program words kind → IsToldOutcome kind outcome → IsTold program kind outcome said es → IsUnasked program words outcome said es
unasked_of program words kind (Usage (Some told)) said es un out is =
    (subst (λ k. IsUntaken program words k) (sym is.0) (untaken_of program words kind out.1 un), is.1, subst (λ k. IsShown program k (is_request k) es) (sym is.0) is.2)
unasked_of program words kind PrintFault said es un out is =
    (OfCommand kind (untaken_of program words kind (no_memory kind out) un) is.0, is.1, is.2, is.3, is.4, is.5)
unasked_of program words kind OutOfMemory said es un out is = (untaken_named program words kind un, is.0, is.1)
unasked_of program words kind outcome said es un out is = absurd is

-- words that ask for a text about the program
pub about_of : (program : Program) (words : List (List ℕ)) (page : Page) (outcome : Outcome) (said : List ℕ) (es : List Entry) →
    AsksAbout program words page → IsPageTold program page outcome said es → IsUnasked program words outcome said es
about_of program words page (Shown told) said es asks is =
    subst (λ (p : Page). AsksAbout program words p × (said ≡ []) × (es ≡ calls.Out (page_text program p) (Ok tt) ∷ [])) (sym is.0) (asks, is.1, is.2)
about_of program words page PrintFault said es asks is = (OfProgram page asks, is.0, page_text program page, refl, is.1, is.2)
about_of program words page outcome said es asks is = absurd is

-- valid words ask for no text about the program
no_request : (program : Program) (words : List (List ℕ)) (verb : Verb) → AreValid program words verb → IsRequest program words → ⊥
no_request program words verb valid (OfCommand kind untaken is) = taken_words program words verb kind valid untaken
no_request program words verb valid (OfProgram page asks) = let named = valid.named in let none = asks.no_command in cc

-- the only outcome of valid words that ask for nothing is want of memory
pub for_memory : (program : Program) (words : List (List ℕ)) (verb : Verb) (outcome : Outcome) (said : List ℕ) (es : List Entry) → AreValid program words verb →
    IsUnasked program words outcome said es → outcome ≡ OutOfMemory
for_memory program words verb (Usage None) said es valid is = let named = valid.named in let none = is.0.no_command in cc
for_memory program words verb (Shown page) said es valid is = let named = valid.named in let none = is.0.no_command in cc
for_memory program words verb (Usage (Some kind)) said es valid is = absurd (taken_words program words verb kind valid is.0)
for_memory program words verb (BadWord word) said es valid is = absurd (good_words program words verb word valid is.0)
for_memory program words verb PrintFault said es valid is = absurd (no_request program words verb valid is.0)
for_memory program words verb OutOfMemory said es valid is = refl
for_memory program words verb outcome said es valid is = absurd is
