-- A log of turns goes on by one turn.
use Rattle.std.specs.Prelude.{Option}
use Rattle.std.proofs.Common.{◌≡◌, ◌+◌, ℕ, List, [], ◌∷◌, ◌++◌, refl, sym, ap, ◌∙◌, append_assoc, append-nil, length-append, subst}
use Rattle.booth_host.specs.declared.entry.Entry.{Entry}
use Rattle.booth_host.specs.Past.{GrewSome}
use Rattle.booth_host.proofs.PastLemmas.{some_of, some_joined, no_entry}
use Rattle.booth_node.specs.State.{State}
use Rattle.booth_node.specs.declared.node.Turn.TheVariants.{Went, Stopped}
use Rattle.booth_node.specs.declared.node_config.NodeConfig.{NodeConfig}
use Rattle.booth_node.specs.Reaction.{IsTurn}
use Rattle.booth_node.specs.Log.{AreTurns, joined_turns, IsNodeLog, IsStoppedLog}

joined_turns-append : (ts : List (List Entry)) (t : List Entry)
    → joined_turns (ts ++ t ∷ []) ≡ joined_turns ts ++ t
joined_turns-append [] t = append-nil t
joined_turns-append (s ∷ ts) t = ap (λ es. s ++ es) (joined_turns-append ts t)
    ∙ sym (append_assoc s (joined_turns ts) t)

AreTurns-append : (node : NodeConfig) (old mid new : State) (ts : List (List Entry)) (t : List Entry) →
    AreTurns node old ts mid → IsTurn node mid Went t new → AreTurns node old (ts ++ t ∷ []) new
AreTurns-append node old mid new [] t turns turn =
    (new, subst (λ (s : State). IsTurn node s Went t new) turns turn, refl)
AreTurns-append node old mid new (s ∷ ts) t turns turn =
    (turns.0, turns.1, AreTurns-append node turns.0 mid new ts t turns.2 turn)

log_none : (node : NodeConfig) (old : State) → IsNodeLog node old 0 old []
log_none node old = record { turns = []; number = refl; whole = refl; each = refl }

log_more : (node : NodeConfig) (old mid new : State) (n : ℕ) (xs ys : List Entry) →
    IsNodeLog node old n mid xs → IsTurn node mid Went ys new → IsNodeLog node old (n + 1) new (xs ++ ys)
log_more node old mid new n xs ys log turn = record {
  turns = log.turns ++ ys ∷ [];
  number = length-append log.turns (ys ∷ []) ∙ ap (λ k. k + 1) log.number;
  whole = ap (λ es. es ++ ys) log.whole ∙ sym (joined_turns-append log.turns ys);
  each = AreTurns-append node old mid new log.turns ys log.each turn;
}

-- before the first turn
pub no_turn : {node : NodeConfig} {old : State} {a : Option (List Entry)}
    → GrewSome (λ es. IsNodeLog node old 0 old es) a a
no_turn {node} {old} = some_of (λ es. IsNodeLog node old 0 old es) no_entry (log_none node old)

-- one more turn that went on
pub one_turn : {node : NodeConfig} {old mid new : State} {n : ℕ} {a b c : Option (List Entry)} →
    GrewSome (λ es. IsNodeLog node old n mid es) a b → GrewSome (λ es. IsTurn node mid Went es new) b c →
    GrewSome (λ es. IsNodeLog node old (n + 1) new es) a c
one_turn {node} {old} {mid} {new} {n} log turn =
    some_joined (λ es. IsNodeLog node old n mid es) (λ es. IsTurn node mid Went es new)
    (λ es. IsNodeLog node old (n + 1) new es)
    (log_more node old mid new n) log turn

-- a last turn that stopped
pub last_turn : {node : NodeConfig} {old mid new : State} {n : ℕ} {a b c : Option (List Entry)} →
    GrewSome (λ es. IsNodeLog node old n mid es) a b → GrewSome (λ es. IsTurn node mid Stopped es new) b c →
    GrewSome (λ es. IsStoppedLog node old new es) a c
last_turn {node} {old} {mid} {new} {n} log turn =
    some_joined (λ es. IsNodeLog node old n mid es) (λ es. IsTurn node mid Stopped es new)
    (λ es. IsStoppedLog node old new es)
    (λ xs ys before stop. record {
      count = n;
      mid = mid;
      before = xs;
      last = ys;
      whole = refl;
      log = before;
      stop = stop;
    }) log turn
