-- A whole run from its parts.
use Rattle.std.specs.Prelude.{Option, Some, Ok}
use Rattle.std.proofs.Common.{◌≡◌, ℕ, List, [], refl, sym}
use Rattle.std.proofs.Common.{subst, inl, inr}
use Rattle.clap.specs.declared.error.kind.ErrorKind.{ErrorKind}
use Rattle.booth_host.specs.declared.entry.Entry.{Entry}
use Rattle.booth_host.specs.Past.{GrewSome}
use Rattle.booth_host.proofs.PastLemmas.{no_entry, some_of, some_joined, some_weaker}
use Rattle.booth_outcomes.specs.declared.outcome.Outcome.{Outcome}
use Rattle.booth_outcomes.specs.declared.outcome.Outcome.TheVariants.{Done, Usage, Shown, BadWord, LockFault, NotRunning}
use Rattle.booth_outcomes.specs.declared.outcome.Outcome.TheVariants.{PrintFault, OutOfMemory, Report, Refused, NoReply}
use Rattle.booth_outcomes.specs.declared.outcome.Outcome.TheVariants.{SendFault, ConfUnread, ConfBad, NotSite, NotFollowed, Stranded}
use Rattle.booth_outcomes.specs.declared.outcome.Outcome.TheVariants.{AuditBad, JournalUnread, KeyBad, KeyUnread}
use Rattle.booth_cli.specs.declared.command.Verb.TheVariants as verbs
use Rattle.booth_cli.specs.declared.program.Program.TheVariants.{Boothd}
use Rattle.booth_cli.specs.declared.asking.AuditWords.{AuditWords}
use Rattle.booth_cli.specs.declared.asking.DaemonWords.{DaemonWords}
use Rattle.booth_cli.specs.declared.asking.SimulationWords.{SimulationWords}
use Rattle.booth_cli.specs.declared.asking.Asked.{Asked}
use Rattle.booth_cli.specs.declared.asking.Asked.TheVariants.{Audit, Daemon, Status, Simulation}
use Rattle.booth_cli.specs.declared.page.Page.{Page}
use Rattle.booth_cli.specs.Asking.{Asks, AsksAbout, AsksAudit, AsksDaemon, AsksSimulation, AsksStatus, IsUntaken, IsUntakenFor}
use Rattle.booth_cli.proofs.AskingLemmas.{taken_named, untaken_named, untaken_of}
use Rattle.booth_outcomes.proofs.UsageLemmas.{about_of, no_memory, unasked_of}
use Rattle.booth_outcomes.specs.Pages.{IsPageOutcome, IsPageTold}
use Rattle.booth_outcomes.specs.Unasked.{IsTold, IsToldOutcome, IsUnasked, OfCommand, OfProgram}
use Rattle.booth_daemon.specs.Serving.{IsServing}
use Rattle.booth_outcomes.specs.Outcomes.{IsServed}
use Rattle.booth_daemon.specs.Status.{IsStatus, IsStatusOutcome}
use Rattle.booth_daemon.specs.Simulating.{IsSimulated, IsSimulationEnd}
use Rattle.booth_daemon.specs.Auditing.{IsAuditOutcome, IsAuditing}
use Rattle.booth_outcomes.specs.Texts.{IsText}
use Rattle.booth_daemon.specs.Run.{AskForAudit, IsMade, Unasked, Served, Summed, Reviewed, Looked, IsRun, FitsWords}
use Rattle.clap.specs.declared.error.Error.{Error}
use Rattle.booth_cli.specs.declared.asking.Refusal.{Refusal}
use Rattle.booth_cli.specs.declared.asking.Refusal.TheVariants.{About, Untaken}
use Rattle.std.specs.Prelude.{Err}

-- ---- words that ask for nothing

pub told_made : {a b : Option (List Entry)} (words : List (List ℕ)) (kind : ErrorKind) (outcome : Outcome) (said : List ℕ) →
    IsUntakenFor Boothd words kind → IsToldOutcome kind outcome → GrewSome (IsTold Boothd kind outcome said) a b → GrewSome (IsMade words outcome said) a b
told_made words kind outcome said un out told =
    some_weaker (IsTold Boothd kind outcome said) (IsMade words outcome said) (λ es is. Unasked (unasked_of Boothd words kind outcome said es un out is)) told

-- the same of a refusal that is such an error
pub told_asked : {a b : Option (List Entry)} (words : List (List ℕ)) (error : Error) (refusal : Refusal) (outcome : Outcome) (said : List ℕ) →
    Asks Boothd words (Err refusal) → refusal ≡ Untaken error → IsToldOutcome error.kind outcome → GrewSome (IsTold Boothd error.kind outcome said) a b →
    GrewSome (IsMade words outcome said) a b
told_asked words error refusal outcome said asks same out told =
    told_made words error.kind outcome said (subst (λ (x : Refusal). Asks Boothd words (Err x)) same asks) out told

pub unasked_made : {a : Option (List Entry)} (words : List (List ℕ)) (outcome : Outcome) (said : List ℕ) → IsUnasked Boothd words outcome said [] →
    GrewSome (IsMade words outcome said) a a
unasked_made words outcome said is = some_of (IsMade words outcome said) no_entry (Unasked is)

-- a text about the program that was asked for
pub about_asked : {a b : Option (List Entry)} (words : List (List ℕ)) (page : Page) (refusal : Refusal) (outcome : Outcome) (said : List ℕ) →
    Asks Boothd words (Err refusal) → refusal ≡ About page → GrewSome (IsPageTold Boothd page outcome said) a b → GrewSome (IsMade words outcome said) a b
about_asked words page refusal outcome said asks same told =
    some_weaker (IsPageTold Boothd page outcome said) (IsMade words outcome said)
    (λ es is. Unasked (about_of Boothd words page outcome said es (subst (λ (x : Refusal). Asks Boothd words (Err x)) same asks) is)) told

pub fits_about : (words : List (List ℕ)) (page : Page) (refusal : Refusal) (outcome : Outcome) →
    Asks Boothd words (Err refusal) → refusal ≡ About page → IsPageOutcome page outcome → FitsWords words outcome
fits_about words page refusal outcome asks same is = go outcome is
  where
    about : AsksAbout Boothd words page
    about = subst (λ (x : Refusal). Asks Boothd words (Err x)) same asks

    go : (outcome : Outcome) → IsPageOutcome page outcome → FitsWords words outcome
    go (Shown told) is = subst (λ (p : Page). AsksAbout Boothd words p) (sym is) about
    go PrintFault is = inr (inr (inr (OfProgram page about)))
    go outcome is = absurd is

pub fits_told : (words : List (List ℕ)) (kind : ErrorKind) (outcome : Outcome) → IsUntakenFor Boothd words kind → IsToldOutcome kind outcome → FitsWords words outcome
fits_told words kind (Usage (Some told)) un out = subst (λ k. IsUntaken Boothd words k) (sym out.0) (untaken_of Boothd words kind out.1 un)
fits_told words kind PrintFault un out =
    inr (inr (inr (OfCommand kind (untaken_of Boothd words kind (no_memory kind out) un) out)))
fits_told words kind OutOfMemory un out = untaken_named Boothd words kind un
fits_told words kind outcome un out = absurd out

-- the same of a refusal that is such an error
pub fits_asked : (words : List (List ℕ)) (error : Error) (refusal : Refusal) (outcome : Outcome) →
    Asks Boothd words (Err refusal) → refusal ≡ Untaken error → IsToldOutcome error.kind outcome → FitsWords words outcome
fits_asked words error refusal outcome asks same out =
    fits_told words error.kind outcome (subst (λ (x : Refusal). Asks Boothd words (Err x)) same asks) out

-- ---- words that ask for something

pub asks_daemon : (words : List (List ℕ)) (asked : DaemonWords) (all : Asked) → Asks Boothd words (Ok all) → all ≡ Daemon asked → AsksDaemon words asked
asks_daemon words asked all asks same = let is : Asks Boothd words (Ok (Daemon asked)) = subst (λ x. Asks Boothd words (Ok x)) same asks in is.1

pub asks_status : (words : List (List ℕ)) (lock : List ℕ) (all : Asked) → Asks Boothd words (Ok all) → all ≡ Status lock → AsksStatus words lock
asks_status words lock all asks same = let is : Asks Boothd words (Ok (Status lock)) = subst (λ x. Asks Boothd words (Ok x)) same asks in is.1

pub asks_simulation : (words : List (List ℕ)) (asked : SimulationWords) (all : Asked) → Asks Boothd words (Ok all) → all ≡ Simulation asked → AsksSimulation words asked
asks_simulation words asked all asks same = let is : Asks Boothd words (Ok (Simulation asked)) = subst (λ x. Asks Boothd words (Ok x)) same asks in is.1

pub asks_audit : (words : List (List ℕ)) (asked : AuditWords) (all : Asked) → Asks Boothd words (Ok all) → all ≡ Audit asked → AsksAudit words asked
asks_audit words asked all asks same = let is : Asks Boothd words (Ok (Audit asked)) = subst (λ x. Asks Boothd words (Ok x)) same asks in is.1

pub served_made : {a b : Option (List Entry)} (words : List (List ℕ)) (asked : DaemonWords) (outcome : Outcome) (said : List ℕ) → AsksDaemon words asked →
    GrewSome (IsServing asked outcome said) a b → GrewSome (IsMade words outcome said) a b
served_made words asked outcome said asks served =
    some_weaker (IsServing asked outcome said) (IsMade words outcome said) (λ es is. Served asked asks is) served

pub summed_made : {a b : Option (List Entry)} (words : List (List ℕ)) (asked : SimulationWords) (outcome : Outcome) (said : List ℕ) → AsksSimulation words asked →
    GrewSome (IsSimulated asked outcome said) a b → GrewSome (IsMade words outcome said) a b
summed_made words asked outcome said asks simulated =
    some_weaker (IsSimulated asked outcome said) (IsMade words outcome said) (λ es is. Summed asked asks is) simulated

pub audited_made : {a b : Option (List Entry)} (words : List (List ℕ)) (asked : AuditWords) (outcome : Outcome) (said : List ℕ) → AsksAudit words asked →
    GrewSome (IsAuditing asked outcome said) a b → GrewSome (IsMade words outcome said) a b
audited_made words asked outcome said asks audited =
    some_weaker (IsAuditing asked outcome said) (IsMade words outcome said) (λ es is. Reviewed asked asks is) audited

pub looked_made : {a b : Option (List Entry)} (words : List (List ℕ)) (lock : List ℕ) (outcome : Outcome) (said : List ℕ) → AsksStatus words lock →
    GrewSome (IsStatus lock outcome said) a b → GrewSome (IsMade words outcome said) a b
looked_made words lock outcome said asks looked =
    some_weaker (IsStatus lock outcome said) (IsMade words outcome said) (λ es is. Looked lock asks is) looked

pub fits_served : (words : List (List ℕ)) (asked : DaemonWords) (outcome : Outcome) → AsksDaemon words asked → IsServed outcome → FitsWords words outcome
fits_served words asked (Usage kind) asks served = absurd served
fits_served words asked (Shown page) asks served = absurd served
fits_served words asked (BadWord word) asks served = absurd served
fits_served words asked NotRunning asks served = absurd served
fits_served words asked PrintFault asks served = absurd served
fits_served words asked Report asks served = absurd served
fits_served words asked (Refused result) asks served = absurd served
fits_served words asked NoReply asks served = absurd served
fits_served words asked SendFault asks served = absurd served
fits_served words asked NotSite asks served = absurd served
fits_served words asked (Stranded result) asks served = absurd served
fits_served words asked (NotFollowed fault) asks served = absurd served
fits_served words asked JournalUnread asks served = absurd served
fits_served words asked (AuditBad fault) asks served = absurd served
fits_served words asked KeyUnread asks served = inl (record { asked = asked; asks = asks })
fits_served words asked (KeyBad fault) asks served = inl (record { asked = asked; asks = asks })
fits_served words asked Done asks served = inl (record { asked = asked; asks = asks })
fits_served words asked LockFault asks served = inl (record { asked = asked; asks = asks })
fits_served words asked OutOfMemory asks served = taken_named Boothd words verbs.Daemon asks.all asks.asks
fits_served words asked ConfUnread asks served = inl (record { asked = asked; asks = asks })
fits_served words asked (ConfBad fault) asks served = inl (record { asked = asked; asks = asks })
fits_served words asked outcome asks served = (served, record { asked = asked; asks = asks })

pub fits_looked : (words : List (List ℕ)) (lock : List ℕ) (outcome : Outcome) → AsksStatus words lock → IsStatusOutcome outcome → FitsWords words outcome
fits_looked words lock Done asks is = inr (inl (record { lock = lock; asks = asks }))
fits_looked words lock LockFault asks is = inr (record { lock = lock; asks = asks })
fits_looked words lock NotRunning asks is = record { lock = lock; asks = asks }
fits_looked words lock PrintFault asks is = inl (record { lock = lock; asks = asks })
fits_looked words lock outcome asks is = absurd is

pub fits_summed : (words : List (List ℕ)) (asked : SimulationWords) (outcome : Outcome) → AsksSimulation words asked → IsSimulationEnd asked.conf outcome →
    FitsWords words outcome
fits_summed words asked Done asks is = inr (inr (inl (record { asked = asked; asks = asks })))
fits_summed words asked PrintFault asks is = inr (inl (record { asked = asked; asks = asks }))
fits_summed words asked OutOfMemory asks is = taken_named Boothd words verbs.Simulate asks.all asks.asks
fits_summed words asked ConfUnread asks is = inr (inl (record { asked = asked; asks = asks; named = is }))
fits_summed words asked (ConfBad fault) asks is = inr (inl (record { asked = asked; asks = asks; named = is }))
fits_summed words asked outcome asks is = absurd is

pub fits_audited : (words : List (List ℕ)) (asked : AuditWords) (outcome : Outcome) → AsksAudit words asked → IsAuditOutcome outcome → FitsWords words outcome
fits_audited words asked outcome asks is = go outcome is
  where
    audit : AskForAudit words
    audit = record { asked = asked; asks = asks }

    go : (outcome : Outcome) → IsAuditOutcome outcome → FitsWords words outcome
    go Done is = inr (inr (inr audit))
    go PrintFault is = inr (inr (inl audit))
    go OutOfMemory is = taken_named Boothd words verbs.Audit asks.all asks.asks
    go ConfUnread is = inr (inr audit)
    go (ConfBad fault) is = inr (inr audit)
    go KeyUnread is = inr audit
    go (KeyBad fault) is = inr audit
    go JournalUnread is = audit
    go (AuditBad fault) is = audit
    go outcome is = absurd is

-- ---- the whole run

-- the calls up to the outcome, and then what is said
pub run_of : {a b c : Option (List Entry)} (words : List (List ℕ)) (outcome : Outcome) (said : List ℕ) → GrewSome (IsMade words outcome said) a b →
    GrewSome (IsText Boothd said) b c → GrewSome (IsRun words outcome) a c
run_of words outcome said body last =
    some_joined (IsMade words outcome said) (IsText Boothd said) (IsRun words outcome)
    (λ xs ys made told. record { said = said; body = xs; last = ys; whole = refl; made = made; told = told }) body last
