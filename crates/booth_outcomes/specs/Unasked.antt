-- Arguments without a request, and how this is reported: help and version on standard output, anything else on
-- standard error.
use Rattle.std.specs.Prelude.{◌≡◌, ℕ, Bool, true, false, List, [], ◌∷◌, Some, None, Result, Ok}
use Rattle.std.specs.Prelude.{Err}
use Rattle.clap.specs.declared.error.kind.ErrorKind.{ErrorKind}
use Rattle.clap.specs.declared.error.kind.ErrorKind.TheVariants.{DisplayHelp, DisplayVersion}
use Rattle.clap.specs.declared.error.kind.ErrorKind.TheVariants.{OutOfMemory as NoMemory}
use Rattle.booth_host.specs.declared.host.Failed.{Failed}
use Rattle.booth_host.specs.declared.entry.Entry.{Entry}
use Rattle.booth_host.specs.declared.entry.Entry.TheVariants as calls
use Rattle.booth_outcomes.specs.declared.outcome.Outcome.{Outcome}
use Rattle.booth_outcomes.specs.declared.outcome.Outcome.TheVariants.{Usage, Shown, BadWord, PrintFault, OutOfMemory}
use Rattle.booth_cli.specs.declared.program.Program.{Program}
use Rattle.booth_cli.specs.declared.page.Page.{Page}
use Rattle.booth_cli.specs.Asking.{AsksAbout, AsksNothing, NamesCommand, IsUntaken, HasBadWord}
use Rattle.booth_outcomes.specs.Pages.{page_text}
use Rattle.booth_outcomes.specs.Texts.{usage_text, version_text, bad_word_text, unprinted_text, out_of_memory_text}

-- the kind answers a request, and is no mistake
abbrev pub is_request : ErrorKind → Bool
is_request DisplayHelp = true
is_request DisplayVersion = true
is_request kind = false

-- The text that is printed for a request of this kind: the version is a line of its own, and help is any text.
abbrev pub IsShownText : Program → ErrorKind → List ℕ → Type 0
IsShownText program kind text = kind ≡ DisplayVersion → text ≡ version_text program

-- a print on standard output if the text was requested, and else a line on standard error with some text
abbrev pub IsShown : Program → ErrorKind → Bool → List Entry → Type 0
IsShown program kind true entries = (text : List ℕ) × IsShownText program kind text
    × (entries ≡ calls.Out text (Ok tt) ∷ [])
IsShown program kind false entries = (text : List ℕ) × (answer : Result (Unit {0}) Failed)
    × (entries ≡ calls.Err text answer ∷ [])

-- the report of a program about an error of `clap` with this kind
abbrev pub IsTold : Program → ErrorKind → Outcome → List ℕ → List Entry → Type 0
IsTold program kind (Usage (Some told)) said entries = (told ≡ kind) × (said ≡ [])
    × IsShown program kind (is_request kind) entries
IsTold program kind PrintFault said entries = (is_request kind ≡ true) × (said ≡ unprinted_text)
    × (text : List ℕ) × IsShownText program kind text
    × (failed : Failed) × (entries ≡ calls.Out text (Err failed) ∷ [])
IsTold program kind OutOfMemory said entries = (said ≡ out_of_memory_text) × (entries ≡ [])
IsTold program kind outcome said entries = ⊥

-- the outcomes for an error of this kind
abbrev pub IsToldOutcome : ErrorKind → Outcome → Type 0
IsToldOutcome kind (Usage (Some told)) = (told ≡ kind) × (kind ≡ NoMemory → ⊥)
IsToldOutcome kind PrintFault = is_request kind ≡ true
IsToldOutcome kind OutOfMemory = Unit {0}
IsToldOutcome kind outcome = ⊥

-- help or the version was requested, of a command or of the program
pub data IsRequest (program : Program) (words : List (List ℕ)) : Type 0 where
  OfCommand : (kind : ErrorKind) → IsUntaken program words kind → is_request kind ≡ true → IsRequest program words
  OfProgram : (page : Page) → AsksAbout program words page → IsRequest program words

-- the text that answers such a request
abbrev pub IsAnswer : {program : Program} {words : List (List ℕ)} → IsRequest program words → List ℕ → Type 0
IsAnswer {program} (OfCommand kind untaken is) text = IsShownText program kind text
IsAnswer {program} (OfProgram page asks) text = text ≡ page_text program page

-- The arguments of this program have no request, by this outcome. Out of memory may come in place of any request, but
-- only if there is a command: no memory is needed to see that there is none.
abbrev pub IsUnasked : Program → List (List ℕ) → Outcome → List ℕ → List Entry → Type 0
IsUnasked program words (Usage None) said entries = AsksNothing program words
    × (said ≡ usage_text program) × (entries ≡ [])
IsUnasked program words (Shown page) said entries = AsksAbout program words page × (said ≡ [])
    × (entries ≡ calls.Out (page_text program page) (Ok tt) ∷ [])
IsUnasked program words (Usage (Some kind)) said entries = IsUntaken program words kind × (said ≡ [])
    × IsShown program kind (is_request kind) entries
IsUnasked program words (BadWord word) said entries = HasBadWord program words word
    × (said ≡ bad_word_text word) × (entries ≡ [])
IsUnasked program words PrintFault said entries = (request : IsRequest program words) × (said ≡ unprinted_text)
    × (text : List ℕ) × IsAnswer request text
    × (failed : Failed) × (entries ≡ calls.Out text (Err failed) ∷ [])
IsUnasked program words OutOfMemory said entries = NamesCommand program words
    × (said ≡ out_of_memory_text) × (entries ≡ [])
IsUnasked program words outcome said entries = ⊥
