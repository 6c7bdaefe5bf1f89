-- The parts of a turn, one after the other.
use Rattle.std.proofs.Common.{◌≡◌, ℕ, List, [], ◌∷◌, refl, sym, ◌∙◌, ap, subst}
use Rattle.std.specs.Prelude.{Option, Result}
use Rattle.booth_base.specs.Tree.{Deeds, Ends, Leads, ◌>>=◌}
use Rattle.booth_base.proofs.TreeLemmas.{leads_then}
use Rattle.booth_host.specs.declared.host.Failed.{Failed}
use Rattle.booth_host.specs.declared.host.Arrival.{Arrival}
use Rattle.booth_host.specs.declared.entry.Entry.{Entry}
use Rattle.booth_host.specs.declared.entry.Entry.TheVariants as calls
use Rattle.booth_host.specs.Past.{GrewBy, GrewSome}
use Rattle.booth_host.proofs.PastLemmas.{no_entry, some_of, some_joined, then_some, one_more}
use Rattle.booth_node.specs.declared.node.Turn.{Turn}
use Rattle.booth_node.specs.declared.node.Turn.TheVariants.{Went, Stopped}
use Rattle.booth_node.specs.declared.node_config.NodeConfig.{NodeConfig}
use Rattle.booth_node.specs.Reaction.{Ask, IsDone, arrived, due_places, dues, each_due, react, turn_end, used, IsTurn}
use Rattle.booth_node.specs.State.{State}

module _ {a b c d : Option (List Entry)} (node node' : NodeConfig) (old begun mid : State)
    (answer : Result Arrival Failed)
    (bytes bytes' : List ℕ) (reading : ℕ) (turn : Turn) (ends : turn ≡ turn_end answer)
    (same : begun ≡ record old { last_reading = used old.last_reading reading }) (same_node : node' ≡ node)
    (same_bytes : bytes' ≡ bytes)
    (next_call : GrewBy a b (calls.Next 100 answer bytes ∷ []))
    (now_call : GrewBy b c (calls.Now reading ∷ []))
    (deeds : GrewSome (λ es. Leads {S = State} (IsDone node'.ring)
    (arrived node' begun.last_reading begun answer bytes') es (Ends mid)) c d) where
  first : GrewSome (λ es. Leads {S = State} (IsDone node.ring)
      (arrived node (used old.last_reading reading)
      (record old { last_reading = used old.last_reading reading }) answer bytes) es (Ends mid)) c d
  first =
      subst (λ (s : State). GrewSome (λ es. Leads {S = State} (IsDone node.ring)
      (arrived node s.last_reading s answer bytes) es (Ends mid)) c d) same
      (subst (λ (bs : List ℕ). GrewSome (λ es. Leads {S = State} (IsDone node.ring)
      (arrived node begun.last_reading begun answer bs) es (Ends mid)) c d)
      same_bytes
      (subst (λ (n : NodeConfig). GrewSome
      (λ es. Leads {S = State} (IsDone n.ring) (arrived n begun.last_reading begun answer bytes') es
      (Ends mid)) c d)
      same_node deeds))

  begins : Deeds Ask State
  begins = arrived node (used old.last_reading reading) (record old { last_reading = used old.last_reading reading }) answer bytes

  follows : State → Deeds Ask State
  follows = dues node (used old.last_reading reading) (turn_end answer)

  -- an arrival, a reading, what the arrival demands, and what the deadlines do
  turn_of : {e : Option (List Entry)} (new : State)
      → GrewSome (λ es. Leads {S = State} (IsDone node.ring) (dues node (used old.last_reading reading)
      (turn_end answer) mid) es (Ends new)) d e
      → GrewSome (λ es. IsTurn node old turn es new) a e
  unfolding begins follows
  turn_of new later =
      then_some (λ es. Leads {S = State} (IsDone node.ring)
      (react node old (used old.last_reading reading) answer bytes) es (Ends new))
      (λ es. IsTurn node old turn es new)
      (one_more next_call now_call) (λ ys h. (refl, ends, h))
      (some_joined (λ es. Leads (IsDone node.ring) begins es (Ends mid)) (λ es. Leads (IsDone node.ring) (follows mid) es (Ends new))
      (λ es. Leads {S = State} (IsDone node.ring) (begins >>= follows) es (Ends new))
      (λ xs ys h g. leads_then (IsDone node.ring) begins follows mid (Ends new) xs ys h g) first later)

  pub went : {e : Option (List Entry)} (node'' : NodeConfig) (new : State) → turn ≡ Went → node'' ≡ node'
      → mid.last_reading ≡ begun.last_reading
      → GrewSome (λ es. Leads {S = State} (IsDone node''.ring)
      (each_due node'' mid.last_reading (due_places mid.last_reading mid.tickets) mid) es (Ends new)) d e
      → GrewSome (λ es. IsTurn node old turn es new) a e
  went {e} node'' new is same_again kept later =
      turn_of new
      (subst (λ (t : Turn). GrewSome (λ es. Leads {S = State} (IsDone node.ring)
      (dues node (used old.last_reading reading) t mid) es (Ends new)) d e)
      (sym is ∙ ends)
      (subst (λ (m : ℕ). GrewSome (λ es. Leads {S = State} (IsDone node.ring)
      (each_due node m (due_places m mid.tickets) mid) es (Ends new)) d e)
      (kept ∙ ap (λ (s : State). s.last_reading) same)
      (subst (λ (n : NodeConfig). GrewSome (λ es. Leads {S = State} (IsDone n.ring)
      (each_due n mid.last_reading (due_places mid.last_reading mid.tickets) mid) es (Ends new)) d e)
      (same_again ∙ same_node) later)))

  pub stopped : turn ≡ Stopped → GrewSome (λ es. IsTurn node old turn es mid) a d
  stopped is =
      turn_of mid
      (subst (λ (t : Turn). GrewSome (λ es. Leads {S = State} (IsDone node.ring)
      (dues node (used old.last_reading reading) t mid) es (Ends mid)) d d)
      (sym is ∙ ends)
      (some_of (λ es. Leads {S = State} (IsDone node.ring) (Ends mid) es (Ends mid)) no_entry refl))
