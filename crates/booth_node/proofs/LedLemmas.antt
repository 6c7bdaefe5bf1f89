-- What a host was led to, one part after the other.
use Rattle.std.proofs.Common.{◌≡◌, ◌≤◌, ◌<◌, ◌+◌, ℕ, zero, suc, Bool, List, [], ◌∷◌, ◌++◌, length, take, get_or, refl, ap, sym, ◌∙◌, subst, append-nil, arith}
use Rattle.std.proofs.lemmas.List.{take_more, take-append-drop}
use Rattle.std.proofs.Math.ListN.{drop_of_length-le}
use Rattle.std.specs.Prelude.{Option}
use Rattle.std.specs.List.{range_with_len}
use native.Mathlib.Nat.{le_refl, le_trans}
use Rattle.booth_base.specs.Tree.{Deeds, Ends, Does, Leads, ◌>>=◌, each, through}
use Rattle.booth_base.proofs.TreeLemmas.{leads_then, each_on, each_one, through_on, through_one}
use Rattle.booth_host.specs.declared.entry.Entry.{Entry}
use Rattle.booth_host.specs.Past.{GrewBy}
use Rattle.booth_host.proofs.PastLemmas.{no_entry, some_joined, some_of}
use Rattle.booth_ticket.specs.Acts.{Ask as TicketAsk, Act, Did, Dids, IsAct}
use Rattle.booth_node.specs.declared.node_config.NodeConfig.{NodeConfig}
use Rattle.booth_node.specs.declared.state.Common.{Common}
use Rattle.booth_node.specs.Led.{Led}
use Rattle.booth_node.specs.Reaction.{IsDone, lifted, one_of}

module _ {A H : Type 0} {past : H → Option (List Entry)} {faults : H → ℕ} {Done : A → Bool → Entry → Type 0} where
  -- nothing was left to do
  pub led_end : {S : Type 0} {left : S} {a : H} → Led past faults Done (Ends left) left a a
  led_end {left = left} = record { grew = some_of (λ es. Leads Done (Ends left) es (Ends left)) no_entry refl; later = le_refl _ }

  -- all of a tree, and then all of what follows from what it left
  pub led_then : {S T : Type 0} {t : Deeds A S} {x : S} {y : T} {a b c : H} (f : S → Deeds A T)
      → Led past faults Done t x a b → Led past faults Done (f x) y b c → Led past faults Done (t >>= f) y a c
  led_then {t = t} {x = x} {y = y} f first second = record {
    grew = some_joined (λ es. Leads Done t es (Ends x)) (λ es. Leads Done (f x) es (Ends y)) (λ es. Leads Done (t >>= f) es (Ends y))
        (λ xs ys h g. leads_then Done t f x (Ends y) xs ys h g) first.grew second.grew;
    later = le_trans first.later second.later;
  }

  -- one call that does what was asked, and what its answer leaves is the end
  pub led_last : {S : Type 0} {ask : A} {a b : H} (ok : Bool) (entry : Entry) (f : Bool → S)
      → GrewBy (past a) (past b) (entry ∷ []) → faults a ≤ faults b → Done ask ok entry
      → Led past faults Done (Does ask (λ ok. Ends (f ok))) (f ok) a b
  led_last {ask = ask} ok entry f grew later done = record {
    grew = some_of (λ es. Leads Done (Does ask (λ ok. Ends (f ok))) es (Ends (f ok))) grew (ok, done, refl);
    later = later;
  }

  -- the same, of an equal tree and of what is equally left
  pub led_as : {S : Type 0} {t t' : Deeds A S} {x x' : S} {a b : H} → t ≡ t' → x ≡ x' → Led past faults Done t x a b
      → Led past faults Done t' x' a b
  led_as {S} {a = a} {b = b} is left_is led =
      subst (λ (both : Deeds A S × S). Led past faults Done both.0 both.1 a b) (λ i. (is i, left_is i)) led

  -- a loop: one more, and all
  pub led_one_more : {B S : Type 0} (f : B → S → Deeds A S) (xs : List B) (x : B) (s : S) {s' s'' : S} {a b c : H}
      → Led past faults Done (through f xs s) s' a b → Led past faults Done (f x s') s'' b c
      → Led past faults Done (through f (xs ++ x ∷ []) s) s'' a c
  led_one_more {B} {S} f xs x s {s'} first later =
      led_as
      (sym (through_on f xs (x ∷ []) s))
      refl
      (led_then (through f (x ∷ [])) first (led_as (sym (through_one f x s')) refl later))

  pub led_taken : {B S : Type 0} (f : B → S → Deeds A S) (xs : List B) (i : ℕ) (d : B) (s : S) {s' s'' : S} {a b c : H} → i < length xs
      → Led past faults Done (through f (take i xs) s) s' a b → Led past faults Done (f (get_or xs i d) s') s'' b c
      → Led past faults Done (through f (take (i + 1) xs) s) s'' a c
  led_taken f xs i d s below first later =
      led_as (ap (λ ys. through f ys s) (sym (take_more xs i d below))) refl
      (led_one_more f (take i xs) (get_or xs i d) s first later)

  pub led_all : {B S : Type 0} (f : B → S → Deeds A S) (xs : List B) (i : ℕ) (s : S) {s' : S} {a b : H} → length xs ≤ i
      → Led past faults Done (through f (take i xs) s) s' a b → Led past faults Done (through f xs s) s' a b
  led_all f xs i s over led =
      led_as (ap (λ ys. through f ys s)
      (sym (append-nil (take i xs)) ∙ ap (λ ys. take i xs ++ ys) (sym (drop_of_length-le xs over)) ∙ take-append-drop i xs))
      refl led

module _ {A B H : Type 0} {past : H → Option (List Entry)} {faults : H → ℕ} {Done : A → Bool → Entry → Type 0} where
  -- a loop that leaves nothing: one more, and all
  pub led_each_taken : (f : B → Deeds A (Unit {0})) (xs : List B) (i : ℕ) (d : B) {a b c : H} → i < length xs
      → Led past faults Done (each f (take i xs)) tt a b → Led past faults Done (f (get_or xs i d)) tt b c
      → Led past faults Done (each f (take (i + 1) xs)) tt a c
  led_each_taken f xs i d below first later =
      led_as (sym (ap (λ ys. each f ys) (take_more xs i d below) ∙ each_on f (take i xs) (get_or xs i d ∷ [])
      ∙ ap (λ t. each f (take i xs) >>= (λ done. t)) (each_one f (get_or xs i d)))) refl
      (led_then (λ (done : Unit {0}). f (get_or xs i d)) first later)

-- one place more
place_more : (from n : ℕ) → range_with_len from (n + 1) ≡ range_with_len from n ++ (from + n) ∷ []
place_more from zero = ap (λ (k : ℕ). k ∷ []) (omega arith)
place_more from (suc n) =
    let on : suc n + 1 ≡ suc (n + 1) = omega arith in
    ap (λ (k : ℕ). range_with_len from k) on
    ∙ ap (λ (ks : List ℕ). from ∷ ks) (place_more (from + 1) n
    ∙ ap (λ (k : ℕ). range_with_len (from + 1) n ++ k ∷ []) (omega arith))

pub last_place : (n : ℕ) → range_with_len 0 (n + 1) ≡ range_with_len 0 n ++ n ∷ []
last_place n = place_more 0 n ∙ ap (λ (k : ℕ). range_with_len 0 n ++ k ∷ []) (omega arith)

-- ---- a ticket's deeds as the node's

module _ {H : Type 0} {past : H → Option (List Entry)} {faults : H → ℕ} {X : Type 0} {did : X → Act → X → Type 0}
    (node : NodeConfig) (now : ℕ) (name : List ℕ) (host : X → H) (common : X → Common) (Stays : X → Type 0)
    (step : (a b : X) (act : Act) → Stays a → did a act b
    → Stays b × Led past faults (IsDone node.ring) (one_of node now name (common a) act.ask)
    (record { ok = act.ok; common = common b }) (host a) (host b)) where
  -- what the hands led the host to, and what they left as it was
  abbrev LedTo : {S : Type 0} → Deeds TicketAsk S → S → X → X → Type 0
  LedTo t left a b =
      Stays b × Led past faults (IsDone node.ring) (lifted node now name (common a) t)
      (record { common = common b; left = left }) (host a) (host b)

  led_lifted : {S : Type 0} (t : Deeds TicketAsk S) (left : S) (a b : X) (acts : List Act) → Stays a → Dids did a acts b
      → Leads IsAct t acts (Ends left) → LedTo t left a b
  led_lifted {S} t left a b [] stays chain leads =
      subst (λ (z : X). LedTo t left a z) (sym chain)
      (subst (λ (u : Deeds TicketAsk S). LedTo u left a a) leads (stays, led_end))
  led_lifted (Ends s) left a b (act ∷ acts) stays chain leads = absurd leads
  led_lifted (Does ask goes_on) left a b (act ∷ acts) stays chain leads =
      let mid : X = chain.0 in
      let one = step a mid act stays chain.1 in
      let more : LedTo (goes_on leads.0) left mid b = led_lifted (goes_on leads.0) left mid b acts one.0 chain.2 leads.2 in
      let asked : Led past faults (IsDone node.ring) (one_of node now name (common a) ask)
      (record { ok = leads.0; common = common mid }) (host a) (host mid) =
      subst (λ (c : Act). Led past faults (IsDone node.ring) (one_of node now name (common a) c.ask)
      (record { ok = c.ok; common = common mid }) (host a) (host mid)) leads.1 one.1 in
      (more.0, led_then (λ done. lifted node now name done.common (goes_on done.ok)) asked more.1)

  pub led_by : {S : Type 0} {t : Deeds TicketAsk S} {left : S} {a b : X} → Stays a → Did did t left a b → LedTo t left a b
  led_by {t = t} {left = left} {a = a} {b = b} stays done =
      led_lifted t left a b done.acts stays done.chain done.leads

-- Hands that borrow their host, what is counted and a frame keep these; they stay at their node, in their moment and
-- under their name; and what they did of a ticket's tree is what the host was led to.
pub led_hands : {H X A B C : Type 0} {past : H → Option (List Entry)} {faults : H → ℕ} {did : X → Act → X → Type 0}
    (host_name : X → A) (common_name : X → B) (frame_name : X → C) (node : X → NodeConfig) (now : X → ℕ) (name : X → List ℕ)
    (host : X → H) (common : X → Common)
    → ((a b : X) (act : Act) → did a act b → (host_name b ≡ host_name a) × (common_name b ≡ common_name a)
    × (frame_name b ≡ frame_name a) × ((node b ≡ node a) × (now b ≡ now a) × (name b ≡ name a))
    × Led past faults (IsDone (node a).ring) (one_of (node a) (now a) (name a) (common a) act.ask)
    (record { ok = act.ok; common = common b }) (host a) (host b))
    → {S : Type 0} {t : Deeds TicketAsk S} {left : S} {a b : X} → Did did t left a b
    → ((host_name b ≡ host_name a) × (common_name b ≡ common_name a) × (frame_name b ≡ frame_name a)
    × (node b ≡ node a) × (now b ≡ now a) × (name b ≡ name a))
    × Led past faults (IsDone (node a).ring) (lifted (node a) (now a) (name a) (common a) t)
    (record { common = common b; left = left }) (host a) (host b)
led_hands {H} {X} {past = past} {faults = faults} host_name common_name frame_name node now name host common step {a = first} done =
    led_by (node first) (now first) (name first) host common
    (λ (x : X). (host_name x ≡ host_name first) × (common_name x ≡ common_name first) × (frame_name x ≡ frame_name first)
    × (node x ≡ node first) × (now x ≡ now first) × (name x ≡ name first))
    (λ a b act stays did_so.
    let one = step a b act did_so in (
      (
        one.0 ∙ stays.0,
        one.1 ∙ stays.1,
        one.2 ∙ stays.2,
        one.3.0 ∙ stays.3,
        one.3.1 ∙ stays.4,
        one.3.2 ∙ stays.5,
      ),
      subst (λ (n : List ℕ). Led past faults (IsDone (node first).ring) (one_of (node first) (now first) n (common a) act.ask)
          (record { ok = act.ok; common = common b }) (host a) (host b)) stays.5
          (subst (λ (m : ℕ). Led past faults (IsDone (node first).ring) (one_of (node first) m (name a) (common a) act.ask)
          (record { ok = act.ok; common = common b }) (host a) (host b)) stays.4
          (subst (λ (n : NodeConfig). Led past faults (IsDone n.ring) (one_of n (now a) (name a) (common a) act.ask)
          (record { ok = act.ok; common = common b }) (host a) (host b)) stays.3 one.4)),
    ))
    (refl, refl, refl, refl, refl, refl) done
