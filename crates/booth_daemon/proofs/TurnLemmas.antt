-- Turns up to one that stopped, and how a daemon ends with them.
use Rattle.std.specs.Prelude.{Option, Some, None, unwrap_or}
use Rattle.std.proofs.Common.{◌≡◌, ◌<◌, ℕ, List, [], refl, inl, inr}
use Rattle.booth_host.specs.declared.entry.Entry.{Entry}
use Rattle.booth_host.specs.Past.{GrewSome}
use Rattle.booth_host.proofs.PastLemmas.{some_joined, some_weaker}
use Rattle.booth_node.specs.State.{State}
use Rattle.booth_node.specs.declared.node.Turn.TheVariants.{Stopped}
use Rattle.booth_node.specs.declared.node_config.NodeConfig.{NodeConfig}
use Rattle.booth_node.specs.Reaction.{IsTurn}
use Rattle.booth_node.specs.Log.{IsNodeLog}
use Rattle.booth_outcomes.specs.declared.outcome.Outcome.{Outcome}
use Rattle.booth_outcomes.specs.declared.outcome.Outcome.TheVariants.{Done, TurnsSpent}
use Rattle.booth_cli.specs.declared.reading.TheConstants.{MOST_TURNS}
use Rattle.booth_daemon.specs.Serving.{AreSpent, IsNodeRun, IsStoppedWithin}

-- a last turn that stopped, before as many turns were made
pub last_within : {node : NodeConfig} {old mid new : State} {n limit : ℕ} {a b c : Option (List Entry)} → n < limit →
    GrewSome (λ es. IsNodeLog node old n mid es) a b → GrewSome (λ es. IsTurn node mid Stopped es new) b c →
    GrewSome (λ es. IsStoppedWithin node old limit new es) a c
last_within {node} {old} {mid} {new} {n} {limit} lt log turn =
    some_joined (λ es. IsNodeLog node old n mid es) (λ es. IsTurn node mid Stopped es new) (λ es. IsStoppedWithin node old limit new es)
    (λ xs ys before stop. record {
      stopped = record { count = n; mid = mid; before = xs; last = ys; whole = refl; log = before; stop = stop };
      within = lt;
    }) log turn

module _ (node : NodeConfig) (old new : State) where
  -- a daemon whose last turn stopped
  pub stopped : {a b : Option (List Entry)} (turns : Option ℕ) (limit : ℕ) (said : List ℕ) →
      limit ≡ unwrap_or turns MOST_TURNS → said ≡ [] → GrewSome (λ es. IsStoppedWithin node old limit new es) a b →
      GrewSome (IsNodeRun node turns old new Done said) a b
  stopped turns limit said same nothing log =
      some_weaker (λ es. IsStoppedWithin node old limit new es) (IsNodeRun node turns old new Done said)
      (λ es h. (nothing, inl (rw same at h))) log

  spent_by : (turns : Option ℕ) (limit : ℕ) (outcome : Outcome) (said : List ℕ) (es : List Entry) →
      limit ≡ unwrap_or turns MOST_TURNS → AreSpent turns outcome said → IsNodeLog node old limit new es →
      IsNodeRun node turns old new outcome said es
  spent_by (Some count) limit Done said es same is log = (is, inr (rw same at log))
  spent_by None limit TurnsSpent said es same is log = (refl, is, rw same at log)
  spent_by turns limit outcome said es same is log = absurd is

  -- a daemon that made all its turns
  pub all_spent : {a b : Option (List Entry)} (turns : Option ℕ) (limit : ℕ) (outcome : Outcome) (said : List ℕ) →
      limit ≡ unwrap_or turns MOST_TURNS → AreSpent turns outcome said → GrewSome (λ es. IsNodeLog node old limit new es) a b →
      GrewSome (IsNodeRun node turns old new outcome said) a b
  all_spent turns limit outcome said same is log =
      some_weaker (λ es. IsNodeLog node old limit new es) (IsNodeRun node turns old new outcome said)
      (λ es h. spent_by turns limit outcome said es same is h) log
