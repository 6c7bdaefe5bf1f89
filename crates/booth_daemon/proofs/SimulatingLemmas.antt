-- A simulation from its parts.
use Rattle.std.specs.Prelude.{Option, None, Result, Ok, Err, IfErr, IfOk}
use Rattle.std.proofs.Common.{◌≡◌, ◌≤◌, ℕ, List, [], refl, sym, subst}
use Rattle.booth_conf.specs.Config.{ConfigSays}
use Rattle.booth_conf.specs.Says.{Says}
use Rattle.booth_host.specs.declared.entry.Entry.{Entry}
use Rattle.booth_host.specs.Past.{GrewSome}
use Rattle.booth_host.proofs.PastLemmas.{no_entry, some_of, some_joined, some_weaker}
use Rattle.booth_sim.specs.Laws.{IsSummary}
use Rattle.booth_sim.specs.declared.summary.Summary.{Summary}
use Rattle.booth_cli.specs.declared.asking.SimulationWords.{SimulationWords}
use Rattle.booth_outcomes.specs.declared.outcome.Ended.{Ended}
use Rattle.booth_outcomes.specs.declared.outcome.Outcome.{Outcome}
use Rattle.booth_outcomes.specs.declared.outcome.Outcome.TheVariants.{Done, PrintFault}
use Rattle.booth_daemon.specs.Simulating.{HasNoMemory, IsConfigChosen, IsPrinted, IsSimulated, IsSummed, Simulated, example_text}

example_is : (r : Result ConfigSays Ended) → IfOk r (λ config. Says example_text config) → IfErr r HasNoMemory → IsConfigChosen None r []
example_is (Ok config) says memory = (says, refl)
example_is (Err ended) says memory = (memory.outcome, memory.said, refl)

-- the example is chosen without a call
pub example : {a : Option (List Entry)} (conf : Option (List ℕ)) (r : Result ConfigSays Ended) → conf ≡ None →
    IfOk r (λ config. Says example_text config) → IfErr r HasNoMemory → GrewSome (IsConfigChosen conf r) a a
example conf r none says memory =
    some_of (IsConfigChosen conf r) no_entry (subst (λ conf. IsConfigChosen conf r []) (sym none) (example_is r says memory))

-- what was printed of a summary is how its simulation ends
printed_end : (config : ConfigSays) (asked : SimulationWords) (summary : Summary) (outcome : Outcome) (said : List ℕ) (entries : List Entry) →
    IsSummary config asked.events asked.number summary → summary.most_holders ≤ 1 → IsPrinted summary outcome said entries → IsSummed config asked outcome said entries
printed_end config asked summary Done said entries is one print = (print.0, summary, is, one, print.1)
printed_end config asked summary PrintFault said entries is one print = (print.0, summary, is, one, print.1, print.2)
printed_end config asked summary outcome said entries is one print = absurd print

pub printed : {a b : Option (List Entry)} (config : ConfigSays) (asked : SimulationWords) (summary : Summary) (outcome : Outcome) (said : List ℕ) →
    IsSummary config asked.events asked.number summary → summary.most_holders ≤ 1 → GrewSome (IsPrinted summary outcome said) a b →
    GrewSome (IsSummed config asked outcome said) a b
printed config asked summary outcome said is one print =
    some_weaker (IsPrinted summary outcome said) (IsSummed config asked outcome said)
    (λ entries p. printed_end config asked summary outcome said entries is one p) print

-- the configuration, and what the cluster became
pub simulated : {a b c : Option (List Entry)} (asked : SimulationWords) (config : ConfigSays) (outcome : Outcome) (said : List ℕ) →
    GrewSome (IsConfigChosen asked.conf (Ok config)) a b → GrewSome (IsSummed config asked outcome said) b c → GrewSome (IsSimulated asked outcome said) a c
simulated asked config outcome said chosen summed =
    some_joined (IsConfigChosen asked.conf (Ok config)) (IsSummed config asked outcome said) (IsSimulated asked outcome said)
    (λ xs ys is sum. Simulated config xs ys is sum refl) chosen summed
