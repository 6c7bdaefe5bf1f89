-- A run from its parts, and what its words have to do with its outcome.
use Rattle.std.specs.Prelude.{Option, Some, Ok}
use Rattle.std.proofs.Common.{◌≡◌, ℕ, List, [], refl, sym, subst}
use Rattle.clap.specs.declared.error.kind.ErrorKind.{ErrorKind}
use Rattle.booth_host.specs.declared.entry.Entry.{Entry}
use Rattle.booth_host.specs.Past.{GrewSome}
use Rattle.booth_host.proofs.PastLemmas.{no_entry, some_joined, some_of, some_weaker}
use Rattle.booth_cli.specs.declared.asking.Asked.{Asked}
use Rattle.booth_cli.specs.declared.asking.Asked.TheVariants.{Follow}
use Rattle.booth_cli.specs.declared.asking.FollowWords.{FollowWords}
use Rattle.booth_cli.specs.declared.command.Verb.TheVariants as verbs
use Rattle.booth_cli.specs.declared.program.Program.TheVariants.{BoothFollow}
use Rattle.booth_cli.specs.Asking.{Asks, AsksFollow, IsUntaken, IsUntakenFor}
use Rattle.booth_cli.proofs.AskingLemmas.{taken_named, untaken_named, untaken_of}
use Rattle.booth_outcomes.specs.declared.outcome.Outcome.{Outcome}
use Rattle.booth_outcomes.specs.declared.outcome.Outcome.TheVariants as outs
use Rattle.booth_outcomes.specs.Texts.{IsText}
use Rattle.booth_outcomes.specs.Unasked.{IsTold, IsToldOutcome, IsUnasked, OfCommand}
use Rattle.booth_outcomes.proofs.UsageLemmas.{no_memory, unasked_of}
use Rattle.booth_followers.specs.Run.{FitsFollowWords, IsFollowMade, IsFollowRun, Followed, Unasked}
use Rattle.booth_followers.specs.Service.{IsFollowAnswered, IsFollowLog}
use Rattle.clap.specs.declared.error.Error.{Error}
use Rattle.booth_cli.specs.declared.asking.Refusal.{Refusal}
use Rattle.booth_cli.specs.declared.asking.Refusal.TheVariants.{Untaken}
use Rattle.std.specs.Prelude.{Err}

pub followed_made : {a b : Option (List Entry)} (left : Option ℕ) (words : List (List ℕ)) (asked : FollowWords) (outcome : Outcome) (said : List ℕ) → AsksFollow words asked →
    GrewSome (IsFollowLog left asked outcome said) a b → GrewSome (IsFollowMade left words outcome said) a b
followed_made left words asked outcome said asks log =
    some_weaker (IsFollowLog left asked outcome said) (IsFollowMade left words outcome said) (λ es is. Followed asked asks is) log

pub told_made : {a b : Option (List Entry)} (left : Option ℕ) (words : List (List ℕ)) (kind : ErrorKind) (outcome : Outcome) (said : List ℕ) →
    IsUntakenFor BoothFollow words kind → IsToldOutcome kind outcome → GrewSome (IsTold BoothFollow kind outcome said) a b → GrewSome (IsFollowMade left words outcome said) a b
told_made left words kind outcome said un out told =
    some_weaker (IsTold BoothFollow kind outcome said) (IsFollowMade left words outcome said)
    (λ es is. Unasked (unasked_of BoothFollow words kind outcome said es un out is)) told

-- the same of a refusal that is such an error
pub told_asked : {a b : Option (List Entry)} (left : Option ℕ) (words : List (List ℕ)) (error : Error) (refusal : Refusal) (outcome : Outcome) (said : List ℕ) →
    Asks BoothFollow words (Err refusal) → refusal ≡ Untaken error → IsToldOutcome error.kind outcome → GrewSome (IsTold BoothFollow error.kind outcome said) a b →
    GrewSome (IsFollowMade left words outcome said) a b
told_asked left words error refusal outcome said asks same out told =
    told_made left words error.kind outcome said (subst (λ (x : Refusal). Asks BoothFollow words (Err x)) same asks) out told

pub unasked_made : {a : Option (List Entry)} (left : Option ℕ) (words : List (List ℕ)) (outcome : Outcome) (said : List ℕ) → IsUnasked BoothFollow words outcome said [] →
    GrewSome (IsFollowMade left words outcome said) a a
unasked_made left words outcome said is = some_of (IsFollowMade left words outcome said) no_entry (Unasked is)

pub fits_untaken : (words : List (List ℕ)) (kind : ErrorKind) (outcome : Outcome) → IsUntakenFor BoothFollow words kind → IsToldOutcome kind outcome →
    FitsFollowWords words outcome
fits_untaken words kind (outs.Usage (Some told)) un out = subst (λ k. IsUntaken BoothFollow words k) (sym out.0) (untaken_of BoothFollow words kind out.1 un)
fits_untaken words kind outs.PrintFault un out =
    OfCommand kind (untaken_of BoothFollow words kind (no_memory kind out) un) out
fits_untaken words kind outs.OutOfMemory un out = untaken_named BoothFollow words kind un
fits_untaken words kind outcome un out = absurd out

-- the same of a refusal that is such an error
pub fits_asked : (words : List (List ℕ)) (error : Error) (refusal : Refusal) (outcome : Outcome) →
    Asks BoothFollow words (Err refusal) → refusal ≡ Untaken error → IsToldOutcome error.kind outcome → FitsFollowWords words outcome
fits_asked words error refusal outcome asks same out =
    fits_untaken words error.kind outcome (subst (λ (x : Refusal). Asks BoothFollow words (Err x)) same asks) out

pub asks_follow : (words : List (List ℕ)) (asked : FollowWords) (all : Asked) → Asks BoothFollow words (Ok all) → all ≡ Follow asked → AsksFollow words asked
asks_follow words asked all asks same =
    let is : Asks BoothFollow words (Ok (Follow asked)) = subst (λ x. Asks BoothFollow words (Ok x)) same asks in is.1

pub fits_answered : (words : List (List ℕ)) (asked : FollowWords) (outcome : Outcome) → AsksFollow words asked → IsFollowAnswered outcome → FitsFollowWords words outcome
fits_answered words asked (outs.Usage kind) asks is = absurd is
fits_answered words asked (outs.BadWord word) asks is = absurd is
fits_answered words asked outs.PrintFault asks is = absurd is
fits_answered words asked outs.OutOfMemory asks is = taken_named BoothFollow words verbs.Follow asks.all asks.asks
fits_answered words asked outcome asks is = (record { asked = asked; asks = asks }, is)

-- the calls up to the outcome, and then what is said
pub follow_run_of : {a b c : Option (List Entry)} (left : Option ℕ) (words : List (List ℕ)) (outcome : Outcome) (said : List ℕ) →
    GrewSome (IsFollowMade left words outcome said) a b → GrewSome (IsText BoothFollow said) b c → GrewSome (IsFollowRun left words outcome) a c
follow_run_of left words outcome said body last =
    some_joined (IsFollowMade left words outcome said) (IsText BoothFollow said) (IsFollowRun left words outcome)
    (λ xs ys made told. record { said = said; body = xs; last = ys; whole = refl; made = made; told = told }) body last
