-- Whom calls reach, members and those that wait, and who waits from one state to another.
use Rattle.std.proofs.Common.{◌≡◌, ◌⊎◌, inl, inr, ℕ, zero, suc, ◌+◌, Bool, List, [], ◌∷◌, ◌++◌, set, refl, sym, ap, ◌∙◌, subst, append_assoc}
use Rattle.std.specs.Prelude.{Option, Some, None}
use Rattle.booth_base.specs.declared.address.Peer.{Peer}
use Rattle.booth_wire.specs.declared.message.Head.{Head}
use Rattle.booth_wire.specs.declared.message.Setup.{Setup}
use Rattle.booth_wire.specs.declared.message.TicketPart.{TicketPart}
use Rattle.booth_auth.specs.Sealed.{sealed}
use Rattle.booth_host.specs.declared.entry.Entry.{Entry}
use Rattle.booth_host.specs.declared.entry.Entry.TheVariants as calls
use Rattle.booth_raft.specs.Speech.{IsOwn}
use Rattle.booth_ticket.specs.declared.hands.To.TheVariants.{Client, Member}
use Rattle.booth_ticket.specs.Acts.{Ask as TicketAsk, Keep as KeepsRecord, Start as StartsJob, Say, Act}
use Rattle.booth_ticket.specs.declared.waiters.Waiter.{Waiter}
use Rattle.booth_ticket.specs.Waiting.{waiting_at}
use Rattle.booth_node.specs.declared.node_config.NodeConfig.{NodeConfig}
use Rattle.booth_node.specs.Calls.{IsAmong, IsToldIn, NamesTicket, ReachesWaiters}
use Rattle.booth_node.specs.Reaction.{peer_of, sent_as}
use Rattle.booth_node.proofs.DueLemmas.{Each}
use Rattle.booth_node.proofs.PathLemmas.{ActFirst, SaidFirst, Seen, seen_parts}
use Rattle.booth_node.proofs.ReachLemmas.{AllAmong, Among, Fewer, IsTold}
use Rattle.booth_node.proofs.SetupLemmas.{IsSetUpAt}

-- ---- calls to members and to those that wait

module _ (node : NodeConfig) (now : ℕ) (name : List ℕ) (setup : Setup) (list : ℕ)
    (set_up : IsSetUpAt node list setup) (waiters : List (List Waiter)) where
  ours : setup.me ≡ node.me
  ours = ap (λ (s : Setup). s.me) set_up.2

  -- what is said under the setup's ticket names the one at its place
  names : (head : Head) (part : TicketPart) → part.ticket ≡ setup.ticket
      → NamesTicket node list (sent_as node now head part).content
  names head part same = record {
    part = part;
    ticket = set_up.0;
    says = refl;
    there = set_up.1;
    named = same ∙ ap (λ (s : Setup). s.ticket) set_up.2;
  }

  abbrev Reaches : List Entry → Type 0
  Reaches es = Each (ReachesWaiters node waiters) es

  to_member : (place : ℕ) (head : Head) (part : TicketPart) (ok : Bool) (es : List Entry) (More : List Entry
      → Type 0)
      → IsOwn setup head part
      → SaidFirst (peer_of node.config (Member place)) (sealed node.ring (sent_as node now head part))
      es More
      → ((rest : List Entry) → More rest → Reaches rest) → Reaches es
  to_member place head part ok es More own first later = by_peer (peer_of node.config (Member place)) refl
      first
    where
      by_peer : (o : Option Peer) → peer_of node.config (Member place) ≡ o
          → SaidFirst o (sealed node.ring (sent_as node now head part)) es More
          → Reaches es
      by_peer None is first = later es first
      by_peer (Some peer) is first =
          subst (λ (l : List Entry). Reaches l) (sym first.2) (
            inl (record {
              place = place;
              message = sent_as node now head part;
              there = is;
              spelled = refl;
              between = own.between;
              from = own.from ∙ ours;
            }),
            later first.1 first.3,
          )

  one_among : (ask : TicketAsk) (ok : Bool) (es : List Entry) (More : List Entry → Type 0)
      → Among setup (waiting_at waiters list) ask
      → ActFirst node now name ask ok es More
      → ((rest : List Entry) → More rest → Reaches rest)
      → Reaches es
  one_among (KeepsRecord tried) ok es More among first later =
      subst (λ (l : List Entry). Reaches l) (sym first.2) (tt, later first.1 first.4)
  one_among (StartsJob number expires) ok es More among first later =
      subst (λ (l : List Entry). Reaches l) (sym first.2) (tt, later first.1 first.4)
  one_among (Say (Member place) head part) ok es More among first later = to_member place head part ok es
      More among first.1 later
  one_among (Say (Client peer) head part) ok es More among first later =
      subst (λ (l : List Entry). Reaches l) (sym first.1.2) (
        inr (record {
          place = list;
          waiter = among.waiter;
          message = sent_as node now head part;
          waits = among.waits;
          to = among.to;
          spelled = refl;
          outcome = record {
            cmd = among.outcome.cmd;
            request = among.outcome.request;
            options = among.outcome.options;
            reason = among.outcome.reason;
            result = among.outcome.result;
            from = among.outcome.from ∙ ours;
          };
          about = names head part among.ticket;
        }),
        later first.1.1 first.1.3,
      )

  pub all_among : (xs : List Act) (es : List Entry) → AllAmong setup (waiting_at waiters list) xs
      → Seen node now name xs es → Reaches es
  all_among [] es among seen = subst (λ (l : List Entry). Reaches l) (sym seen) tt
  all_among (act ∷ xs) es among seen =
      one_among act.ask act.ok es (Seen node now name xs) among.0 seen
      (λ rest more. all_among xs rest among.1 more)

  -- a client that one of the acts tells is told by one of these calls
  pub told_in : (waiter : Waiter) (xs : List Act) (es : List Entry) → IsTold setup waiter xs
      → Seen node now name xs es → IsToldIn node list waiter es
  told_in waiter xs es told seen =
      let act : Act = record { ask = Say (Client waiter.from) told.head told.part; ok = told.ok } in
      let parts =
      seen_parts node now name told.before (act ∷ told.after) es
      (subst (λ (l : List Act). Seen node now name l es) told.whole seen) in
      let sent = parts.4.1 in
      record {
        before = parts.0;
        message = sent_as node now told.head told.part;
        answer = sent.0;
        after = sent.1;
        whole = parts.2 ∙ ap (λ (l : List Entry). parts.0 ++ l) sent.2;
        outcome = record {
          cmd = told.outcome.cmd;
          request = told.outcome.request;
          options = told.outcome.options;
          reason = told.outcome.reason;
          result = told.outcome.result;
          from = told.outcome.from ∙ ours;
        };
        about = names told.head told.part told.ticket;
      }

-- ---- those that wait, from one state to another

-- who waited for a ticket does so still, or one of these calls tells it of that ticket
abbrev pub AllRemember : NodeConfig → List (List Waiter) → List (List Waiter) → List Entry → Type 0
AllRemember node before after es =
    (place : ℕ) (waiter : Waiter) → IsAmong waiter (waiting_at before place)
    → IsAmong waiter (waiting_at after place) ⊎ IsToldIn node place waiter es

told_before : (node : NodeConfig) (place : ℕ) (waiter : Waiter) (xs ys es : List Entry) → es ≡ xs ++ ys
    → IsToldIn node place waiter xs → IsToldIn node place waiter es
told_before node place waiter xs ys es whole told = record {
  before = told.before;
  message = told.message;
  answer = told.answer;
  after = told.after ++ ys;
  whole = whole ∙ ap (λ (l : List Entry). l ++ ys) told.whole
      ∙ append_assoc told.before (calls.Send waiter.from (sealed node.ring told.message) told.answer ∷ told.after)
      ys;
  outcome = told.outcome;
  about = told.about;
}

told_after : (node : NodeConfig) (place : ℕ) (waiter : Waiter) (xs ys es : List Entry) → es ≡ xs ++ ys
    → IsToldIn node place waiter ys → IsToldIn node place waiter es
told_after node place waiter xs ys es whole told = record {
  before = xs ++ told.before;
  message = told.message;
  answer = told.answer;
  after = told.after;
  whole = whole ∙ ap (λ (l : List Entry). xs ++ l) told.whole
      ∙ sym (append_assoc xs told.before
      (calls.Send waiter.from (sealed node.ring told.message) told.answer ∷ told.after));
  outcome = told.outcome;
  about = told.about;
}

pub remember_on : (node : NodeConfig) (a b c : List (List Waiter)) (xs ys es : List Entry) → es ≡ xs ++ ys
    → AllRemember node a b xs → AllRemember node b c ys → AllRemember node a c es
remember_on node a b c xs ys es whole first later place w h = by_first (first place w h) (later place w)
  where
    by_later : IsAmong w (waiting_at c place) ⊎ IsToldIn node place w ys
        → IsAmong w (waiting_at c place) ⊎ IsToldIn node place w es
    by_later (inl g) = inl g
    by_later (inr told) = inr (told_after node place w xs ys es whole told)

    by_first : IsAmong w (waiting_at b place) ⊎ IsToldIn node place w xs
        → (IsAmong w (waiting_at b place) → IsAmong w (waiting_at c place) ⊎ IsToldIn node place w ys)
        → IsAmong w (waiting_at c place) ⊎ IsToldIn node place w es
    by_first (inl g) more = by_later (more g)
    by_first (inr told) more = inr (told_before node place w xs ys es whole told)

-- one ticket's list is another
pub remember_at : (Told : ℕ → Waiter → Type 0) (lists : List (List Waiter)) (place : ℕ) (stay : List Waiter)
    → ((w : Waiter) → IsAmong w (waiting_at lists place) → IsAmong w stay ⊎ Told place w)
    → (p : ℕ) (w : Waiter) → IsAmong w (waiting_at lists p) → IsAmong w (waiting_at (set lists place stay) p) ⊎ Told p w
remember_at Told [] place stay kept p w h = inl h
remember_at Told (ws ∷ lists) zero stay kept zero w h = kept w h
remember_at Told (ws ∷ lists) zero stay kept (suc p) w h = inl h
remember_at Told (ws ∷ lists) (suc place) stay kept zero w h = inl h
remember_at Told (ws ∷ lists) (suc place) stay kept (suc p) w h =
    remember_at (λ n. Told (suc n)) lists place stay kept p w h

-- who waits in one state waited for the same ticket in the other
abbrev pub AllFewer : List (List Waiter) → List (List Waiter) → Type 0
AllFewer before after = (place : ℕ) → Fewer (waiting_at before place) (waiting_at after place)

pub fewer_at : (lists : List (List Waiter)) (place : ℕ) (stay : List Waiter)
    → Fewer (waiting_at lists place) stay → AllFewer lists (set lists place stay)
fewer_at [] place stay fewer p w h = h
fewer_at (ws ∷ lists) zero stay fewer zero w h = fewer w h
fewer_at (ws ∷ lists) zero stay fewer (suc p) w h = h
fewer_at (ws ∷ lists) (suc place) stay fewer zero w h = h
fewer_at (ws ∷ lists) (suc place) stay fewer (suc p) w h = fewer_at lists place stay fewer p w h

reaches_fewer : (node : NodeConfig) (before after : List (List Waiter)) → AllFewer before after → (e : Entry)
    → ReachesWaiters node after e → ReachesWaiters node before e
reaches_fewer node before after fewer (calls.Keep ticket rec answer) r = tt
reaches_fewer node before after fewer (calls.Start number ticket handler local expires answer) r = tt
reaches_fewer node before after fewer (calls.Send peer bytes answer) (inl between) = inl between
reaches_fewer node before after fewer (calls.Send peer bytes answer) (inr tells_one) =
    inr (record {
      place = tells_one.place;
      waiter = tells_one.waiter;
      message = tells_one.message;
      waits = fewer tells_one.place tells_one.waiter tells_one.waits;
      to = tells_one.to;
      spelled = tells_one.spelled;
      outcome = tells_one.outcome;
      about = tells_one.about;
    })
reaches_fewer node before after fewer e r = absurd r

pub each_fewer : (node : NodeConfig) (before after : List (List Waiter)) (es : List Entry)
    → AllFewer before after → Each (ReachesWaiters node after) es → Each (ReachesWaiters node before) es
each_fewer node before after [] fewer each = tt
each_fewer node before after (e ∷ es) fewer each =
    (reaches_fewer node before after fewer e each.0, each_fewer node before after es fewer each.1)
