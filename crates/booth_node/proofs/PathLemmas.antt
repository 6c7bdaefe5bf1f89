-- The calls of a lifted ticket are a path of the ticket's own deeds.
use Rattle.std.proofs.Common.{◌≡◌, ℕ, Bool, true, List, [], ◌∷◌, ◌++◌, refl, sym, ap, ◌∙◌, subst}
use Rattle.std.specs.Prelude.{Option, Some, None, IsSome, Result, is_ok}
use Rattle.booth_keys.specs.declared.ring.Ring.{Ring}
use Rattle.booth_base.specs.declared.address.Peer.{Peer}
use Rattle.booth_base.specs.Tree.{Deeds, Ends, Does, Leads, ◌>>=◌, ◌>>◌, each}
use Rattle.booth_base.proofs.TreeLemmas.{at_end}
use Rattle.booth_rec.specs.declared.record.Record.{Record}
use Rattle.booth_wire.specs.declared.message.Head.{Head}
use Rattle.booth_wire.specs.declared.message.TicketPart.{TicketPart}
use Rattle.booth_wire.specs.PlainMessage.{PlainMessage}
use Rattle.booth_auth.specs.Sealed.{sealed}
use Rattle.booth_host.specs.declared.entry.Entry.{Entry}
use Rattle.booth_host.specs.declared.entry.Entry.TheVariants as calls
use Rattle.booth_host.specs.declared.host.Failed.{Failed}
use Rattle.booth_host.specs.declared.host.Job.{Job}
use Rattle.booth_ticket.specs.declared.hands.To.{To}
use Rattle.booth_ticket.specs.declared.hands.To.TheVariants as whom
use Rattle.booth_ticket.specs.Acts.{Ask as TicketAsk, Keep as KeepsRecord, Start as StartsJob, Say, Act, IsAct}
use Rattle.booth_ticket.specs.Ticket.{TicketLeft}
use Rattle.booth_node.specs.declared.node_config.NodeConfig.{NodeConfig}
use Rattle.booth_node.specs.declared.state.Common.{Common}
use Rattle.booth_node.specs.Calls.{AreCallsOf, IsCallOf}
use Rattle.booth_node.specs.Counting.{count_send}
use Rattle.booth_node.specs.Jobs.{job_of, start_call, count_start}
use Rattle.booth_node.specs.Reaction.{Ask, Send, Keep, Start, IsDone, Lifted, lifted, peer_of, sends, sends_back, sent_as}
use Rattle.booth_node.specs.Laws.{AreSends}
use Rattle.booth_node.specs.State.{State}

-- ---- calls

is_keep : (ring : Option Ring) (name : List ℕ) (tried : Record) (ok : Bool) (e : Entry)
    → IsDone ring (Keep name tried) ok e
    → (answer : Result (Unit {0}) Failed) × (e ≡ calls.Keep name tried answer) × (is_ok answer ≡ ok)
is_keep ring name tried ok (calls.Keep ticket rec answer) done = (
  answer,
  ap (λ (n : List ℕ). calls.Keep n rec answer) done.0 ∙ ap (λ (r : Record). calls.Keep name r answer) done.1,
  sym done.2,
)
is_keep ring name tried ok (calls.Send to bytes answer) done = absurd done
is_keep ring name tried ok (calls.Open local port records conf_path answer) done = absurd done
is_keep ring name tried ok (calls.Next wait answer bytes) done = absurd done
is_keep ring name tried ok (calls.Now reading) done = absurd done
is_keep ring name tried ok (calls.ReadFile path answer) done = absurd done
is_keep ring name tried ok (calls.Lock path answer) done = absurd done
is_keep ring name tried ok (calls.Kept ticket answer) done = absurd done
is_keep ring name tried ok (calls.Start number ticket handler local expires answer) done = absurd done
is_keep ring name tried ok (calls.Out bytes answer) done = absurd done
is_keep ring name tried ok (calls.Err bytes answer) done = absurd done

is_start : (ring : Option Ring) (job : Job) (ok : Bool) (e : Entry)
    → IsDone ring (Start job) ok e
    → (answer : Result (Unit {0}) Failed) × (e ≡ start_call job answer) × (is_ok answer ≡ ok)
is_start ring job ok (calls.Start number ticket handler local expires answer) done =
    (answer, ap (λ (j : Job). start_call j answer) done.0, sym done.1)
is_start ring job ok (calls.Keep ticket rec answer) done = absurd done
is_start ring job ok (calls.Send to bytes answer) done = absurd done
is_start ring job ok (calls.Open local port records conf_path answer) done = absurd done
is_start ring job ok (calls.Next wait answer bytes) done = absurd done
is_start ring job ok (calls.Now reading) done = absurd done
is_start ring job ok (calls.ReadFile path answer) done = absurd done
is_start ring job ok (calls.Lock path answer) done = absurd done
is_start ring job ok (calls.Kept ticket answer) done = absurd done
is_start ring job ok (calls.Out bytes answer) done = absurd done
is_start ring job ok (calls.Err bytes answer) done = absurd done

pub is_send : (ring : Option Ring) (peer : Peer) (message : PlainMessage) (ok : Bool) (e : Entry)
    → IsDone ring (Send peer message) ok e
    → (answer : Result (Unit {0}) Failed) × (e ≡ calls.Send peer (sealed ring message) answer)
is_send ring peer message ok (calls.Send to bytes answer) done = (
  answer,
  ap (λ (p : Peer). calls.Send p bytes answer) done.0
      ∙ ap (λ (b : List ℕ). calls.Send peer b answer) done.1,
)
is_send ring peer message ok (calls.Keep ticket rec answer) done = absurd done
is_send ring peer message ok (calls.Open local port records conf_path answer) done = absurd done
is_send ring peer message ok (calls.Next wait answer bytes) done = absurd done
is_send ring peer message ok (calls.Now reading) done = absurd done
is_send ring peer message ok (calls.ReadFile path answer) done = absurd done
is_send ring peer message ok (calls.Lock path answer) done = absurd done
is_send ring peer message ok (calls.Kept ticket answer) done = absurd done
is_send ring peer message ok (calls.Start number ticket handler local expires answer) done = absurd done
is_send ring peer message ok (calls.Out bytes answer) done = absurd done
is_send ring peer message ok (calls.Err bytes answer) done = absurd done

-- messages that were sent back to who asked
pub record SentBack (ring : Option Ring) (from : Peer) (messages : List PlainMessage) (state : State) (es : List Entry)
    (after : State) : Type 0 where
  pub sends : AreSends ring from messages es
  pub left : after ≡ state

pub sent_back : (ring : Option Ring) (from : Peer) (messages : List PlainMessage) (state : State) (es : List Entry)
    (after : State) → Leads (IsDone ring) (each (sends_back from) messages >> Ends state) es (Ends after)
    → SentBack ring from messages state es after
sent_back ring from [] state es after leads =
    let over = at_end (IsDone ring) state after es leads in
    record { sends = subst (λ (l : List Entry). AreSends ring from [] l) (sym over.0) tt; left = over.1 }
sent_back ring from (message ∷ messages) state [] after leads = absurd cc
sent_back ring from (message ∷ messages) state (e ∷ es) after leads =
    let sent = is_send ring from message leads.0 e leads.1 in
    let more = sent_back ring from messages state es after leads.2 in
    record {
      sends = subst (λ (entry : Entry). AreSends ring from (message ∷ messages) (entry ∷ es)) (sym sent.1) (refl, refl, more.sends);
      left = more.left;
    }

-- ---- acts that are seen

-- One act: its call comes first, and More holds of the calls that follow. A message to nobody's place is no call.
abbrev pub SaidFirst : Option Peer → List ℕ → List Entry → (List Entry → Type 0) → Type 0
SaidFirst None bytes es More = More es
SaidFirst (Some peer) bytes es More =
    (answer : Result (Unit {0}) Failed) × (rest : List Entry) × (es ≡ calls.Send peer bytes answer ∷ rest)
    × More rest

abbrev pub ActFirst :
    NodeConfig → ℕ → List ℕ → TicketAsk → Bool → List Entry → (List Entry → Type 0) → Type 0
ActFirst node now name (KeepsRecord tried) ok es More =
    (answer : Result (Unit {0}) Failed) × (rest : List Entry) × (es ≡ calls.Keep name tried answer ∷ rest)
    × (is_ok answer ≡ ok) × More rest
ActFirst node now name (StartsJob number expires) ok es More =
    (answer : Result (Unit {0}) Failed) × (rest : List Entry)
    × (es ≡ start_call (job_of node name number expires) answer ∷ rest)
    × (is_ok answer ≡ ok) × More rest
ActFirst node now name (Say to head part) ok es More =
    (ok ≡ true) × SaidFirst (peer_of node.config to) (sealed node.ring (sent_as node now head part)) es More

-- these calls are those acts
abbrev pub Seen : NodeConfig → ℕ → List ℕ → List Act → List Entry → Type 0
Seen node now name [] es = es ≡ []
Seen node now name (act ∷ acts) es = ActFirst node now name act.ask act.ok es
    (Seen node now name acts)

-- A path of a ticket's deeds, as it is seen: what it leaves is what the node goes on with, and no drop is counted.
pub record Path {S : Type 0} (node : NodeConfig) (now : ℕ) (name : List ℕ) (common : Common)
    (deeds : Deeds TicketAsk TicketLeft) (g : Common → TicketLeft
    → S) (es : List Entry) (s : S) : Type 0 where
  pub acts : List Act
  pub left : TicketLeft
  pub after : Common
  pub leads : Leads IsAct deeds acts (Ends left)
  pub seen : Seen node now name acts es
  pub undropped : after.drops ≡ common.drops
  pub ends : s ≡ g after left

module _ {S : Type 0} (node : NodeConfig) (now : ℕ) (name : List ℕ) (g : Common → TicketLeft
    → S) (s : S) where
  abbrev ending : Lifted TicketLeft → Deeds Ask S
  ending done = Ends (g done.common done.left)

  abbrev Lifts : Common → Deeds TicketAsk TicketLeft → List Entry → Type 0
  Lifts common deeds es =
      Leads (IsDone node.ring) (lifted node now name common deeds >>= ending) es (Ends s)

  send_undropped : (common : Common) (to : To) (ok : Bool) → (count_send common to ok).drops ≡ common.drops
  send_undropped common (whom.Member place) ok = refl
  send_undropped common (whom.Client peer) ok = refl

  -- one act, and then a path
  acted_on : (common : Common) (ask : TicketAsk) (f : Bool → Deeds TicketAsk TicketLeft) (ok : Bool)
      (es rest : List Entry)
      (c : Common) → c.drops ≡ common.drops → ((More : List Entry → Type 0) → More rest
      → ActFirst node now name ask ok es More)
      → Path node now name c (f ok) g rest s → Path node now name common (Does ask f) g es s
  acted_on common ask f ok es rest c undropped first path = record {
    acts = record { ask = ask; ok = ok } ∷ path.acts;
    left = path.left;
    after = path.after;
    leads = (ok, refl, path.leads);
    seen = first (Seen node now name path.acts) path.seen;
    undropped = path.undropped ∙ undropped;
    ends = path.ends;
  }

  -- a message, and then a path
  said_on : (to : To) (head : Head) (part : TicketPart) (f : Bool
      → Deeds TicketAsk TicketLeft) (common : Common)
      → ((c : Common) (es : List Entry) → Lifts c (f true) es → Path node now name c (f true) g es s)
      → (o : Option Peer) → peer_of node.config to ≡ o → (es : List Entry)
      → Leads (IsDone node.ring) ((sends o (sent_as node now head part) common to
      >>= (λ done. lifted node now name done.common (f done.ok))) >>= ending) es (Ends s)
      → Path node now name common (Does (Say to head part) f) g es s
  said_on to head part f common more None nowhere es leads =
      acted_on common (Say to head part) f true es es common refl
      (λ More rest. (
        refl,
        subst (λ (o : Option Peer). SaidFirst o (sealed node.ring (sent_as node now head part)) es More)
            (sym nowhere) rest,
      ))
      (more common es leads)
  said_on to head part f common more (Some peer) there [] leads = absurd cc
  said_on to head part f common more (Some peer) there (e ∷ es) leads =
      let sent = is_send node.ring peer (sent_as node now head part) leads.0 e leads.1 in
      acted_on common (Say to head part) f true (e ∷ es) es (count_send common to leads.0)
      (send_undropped common to leads.0)
      (λ More rest. (
        refl,
        subst (λ (o : Option Peer). SaidFirst o (sealed node.ring (sent_as node now head part))
            (e ∷ es) More) (sym there)
            (sent.0, es, ap (λ (x : Entry). x ∷ es) sent.1, rest),
      ))
      (more (count_send common to leads.0) es leads.2)

  pub path_of : (deeds : Deeds TicketAsk TicketLeft) (common : Common) (es : List Entry)
      → Lifts common deeds es
      → Path node now name common deeds g es s
  path_of (Ends left) common [] leads = record {
    acts = [];
    left = left;
    after = common;
    leads = refl;
    seen = refl;
    undropped = refl;
    ends = cc;
  }
  path_of (Ends left) common (e ∷ es) leads = absurd leads
  path_of (Does (KeepsRecord tried) f) common [] leads = absurd cc
  path_of (Does (KeepsRecord tried) f) common (e ∷ es) leads =
      let kept = is_keep node.ring name tried leads.0 e leads.1 in
      acted_on common (KeepsRecord tried) f leads.0 (e ∷ es) es common refl
      (λ More more. (kept.0, es, ap (λ (x : Entry). x ∷ es) kept.1, kept.2, more))
      (path_of (f leads.0) common es leads.2)
  path_of (Does (StartsJob number expires) f) common [] leads = absurd cc
  path_of (Does (StartsJob number expires) f) common (e ∷ es) leads =
      let started = is_start node.ring (job_of node name number expires) leads.0 e leads.1 in
      acted_on common (StartsJob number expires) f leads.0 (e ∷ es) es (count_start common) refl
      (λ More more. (started.0, es, ap (λ (x : Entry). x ∷ es) started.1, started.2, more))
      (path_of (f leads.0) (count_start common) es leads.2)
  path_of (Does (Say to head part) f) common es leads =
      said_on to head part f common (λ c rest more. path_of (f true) c rest more) (peer_of node.config to)
      refl es leads

-- ---- acts that all have a call

-- whom it is said to has a place to listen at
abbrev pub HasPeer : NodeConfig → TicketAsk → Type 0
HasPeer node (KeepsRecord tried) = Unit {0}
HasPeer node (StartsJob number expires) = Unit {0}
HasPeer node (Say to head part) = IsSome (peer_of node.config to)

abbrev pub HavePeers : NodeConfig → List Act → Type 0
HavePeers node [] = Unit {0}
HavePeers node (act ∷ acts) = HasPeer node act.ask × HavePeers node acts

module _ (node : NodeConfig) (now : ℕ) (name : List ℕ) where
  first_call : (ask : TicketAsk) (ok : Bool) (es : List Entry) (More : List Entry → Type 0) → HasPeer node ask
      → ActFirst node now name ask ok es More
      → (e : Entry) × (rest : List Entry) × (es ≡ e ∷ rest) × IsCallOf node now name ask ok e × More rest
  first_call (KeepsRecord tried) ok es More has first =
      (calls.Keep name tried first.0, first.1, first.2, (refl, refl, first.3), first.4)
  first_call (StartsJob number expires) ok es More has first =
      (start_call (job_of node name number expires) first.0, first.1, first.2, (refl, first.3), first.4)
  first_call (Say to head part) ok es More has first = by_peer (peer_of node.config to) refl has first.1
    where
      bytes : List ℕ
      bytes = sealed node.ring (sent_as node now head part)

      by_peer : (o : Option Peer) → peer_of node.config to ≡ o → IsSome o → SaidFirst o bytes es More
          → (e : Entry) × (rest : List Entry) × (es ≡ e ∷ rest)
          × IsCallOf node now name (Say to head part) ok e × More rest
      by_peer None is some said = absurd cc
      by_peer (Some peer) is some said = (calls.Send peer bytes said.0, said.1, said.2, (is, refl), said.3)

  pub one_call : (act : Act) (acts : List Act) (es : List Entry) → HasPeer node act.ask
      → Seen node now name (act ∷ acts) es
      → (e : Entry) × (rest : List Entry) × (es ≡ e ∷ rest) × IsCallOf node now name act.ask act.ok e
      × Seen node now name acts rest
  one_call act acts es has seen = first_call act.ask act.ok es (Seen node now name acts) has seen

  pub are_calls : (acts : List Act) (es : List Entry) → HavePeers node acts → Seen node now name acts es
      → AreCallsOf node now name acts es
  are_calls [] es have seen = subst (λ (l : List Entry). AreCallsOf node now name [] l) (sym seen) tt
  are_calls (act ∷ acts) es have seen =
      let one = one_call act acts es have.0 seen in
      subst (λ (l : List Entry). AreCallsOf node now name (act ∷ acts) l) (sym one.2)
      (one.3, are_calls acts one.1 have.1 one.4)

  -- ---- one part of the acts, and another

  said_parts : (o : Option Peer) (bytes : List ℕ) (es : List Entry) (More Mine Others : List Entry → Type 0)
      → ((r : List Entry) → More r → (first : List Entry) × (later : List Entry) × (r ≡ first ++ later)
      × Mine first × Others later)
      → SaidFirst o bytes es More
      → (first : List Entry) × (later : List Entry) × (es ≡ first ++ later) × SaidFirst o bytes first Mine
      × Others later
  said_parts None bytes es More Mine Others goes said = goes es said
  said_parts (Some peer) bytes es More Mine Others goes said =
      let g = goes said.1 said.3 in (
        calls.Send peer bytes said.0 ∷ g.0,
        g.1,
        said.2 ∙ ap (λ (l : List Entry). calls.Send peer bytes said.0 ∷ l) g.2,
        (said.0, g.0, refl, g.3),
        g.4,
      )

  first_parts : (ask : TicketAsk) (ok : Bool) (es : List Entry) (More Mine Others : List Entry → Type 0)
      → ((r : List Entry) → More r → (first : List Entry) × (later : List Entry) × (r ≡ first ++ later)
      × Mine first × Others later)
      → ActFirst node now name ask ok es More
      → (first : List Entry) × (later : List Entry) × (es ≡ first ++ later)
      × ActFirst node now name ask ok first Mine × Others later
  first_parts (KeepsRecord tried) ok es More Mine Others goes kept =
      let g = goes kept.1 kept.4 in (
        calls.Keep name tried kept.0 ∷ g.0,
        g.1,
        kept.2 ∙ ap (λ (l : List Entry). calls.Keep name tried kept.0 ∷ l) g.2,
        (kept.0, g.0, refl, kept.3, g.3),
        g.4,
      )
  first_parts (StartsJob number expires) ok es More Mine Others goes started =
      let call : Entry = start_call (job_of node name number expires) started.0 in
      let g = goes started.1 started.4 in (
        call ∷ g.0,
        g.1,
        started.2 ∙ ap (λ (l : List Entry). call ∷ l) g.2,
        (started.0, g.0, refl, started.3, g.3),
        g.4,
      )
  first_parts (Say to head part) ok es More Mine Others goes said =
      let g =
      said_parts (peer_of node.config to) (sealed node.ring (sent_as node now head part)) es More Mine
      Others goes said.1 in
      (g.0, g.1, g.2, (said.0, g.3), g.4)

  pub seen_parts : (xs ys : List Act) (es : List Entry) → Seen node now name (xs ++ ys) es
      → (first : List Entry) × (later : List Entry) × (es ≡ first ++ later) × Seen node now name xs first
      × Seen node now name ys later
  seen_parts [] ys es seen = ([], es, refl, refl, seen)
  seen_parts (act ∷ xs) ys es seen =
      first_parts act.ask act.ok es (Seen node now name (xs ++ ys)) (Seen node now name xs)
      (Seen node now name ys)
      (λ r more. seen_parts xs ys r more) seen
