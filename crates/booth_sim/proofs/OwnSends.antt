-- What a member sends in a turn bears its own id.
use Rattle.booth_host.specs.declared.host.Failed.{Failed}
use Rattle.std.proofs.Common.{◌≡◌, ◌⊎◌, ⊎_elim, ℕ, suc, ◌^◌, ◌<◌, List, [], ◌∷◌, ◌++◌, refl, sym, ap, ◌∙◌, subst, inl, inr, arith, ◌+◌}
use Rattle.std.specs.Prelude.{None, Result, Ok, Err, Option}
use Rattle.std.specs.List.{All}
use Rattle.booth_keys.specs.declared.ring.Ring.{Ring}
use Rattle.booth_base.specs.declared.address.MemberId.{MemberId}
use Rattle.booth_base.specs.declared.address.Peer.{Peer}
use Rattle.booth_base.specs.Tree.{Ends, Leads}
use Rattle.booth_conf.specs.Config.{ConfigSays}
use Rattle.booth_wire.specs.declared.command.Direction.{Direction}
use Rattle.booth_wire.specs.declared.command.Direction.TheVariants.{ToDaemon, ToClient, BetweenMembers}
use Rattle.booth_wire.specs.Command.{direction_of}
use Rattle.booth_wire.specs.Layout.{word_at}
use Rattle.booth_wire.specs.PlainMessage.{PlainMessage}
use Rattle.booth_auth.specs.declared.admission.DropFault.{DropFault}
use Rattle.booth_auth.specs.Sealed.{sealed}
use Rattle.booth_auth.specs.Verdict.{verdict}
use Rattle.booth_host.specs.declared.host.Arrival.{Arrival}
use Rattle.booth_host.specs.declared.host.Arrival.TheVariants as arrivals
use Rattle.booth_host.specs.declared.entry.Entry.{Entry}
use Rattle.booth_host.specs.declared.entry.Entry.TheVariants as calls
use Rattle.booth_ticket.specs.declared.waiters.Waiter.{Waiter}
use Rattle.booth_node.specs.Calls.{ReachesWaiters}
use Rattle.booth_node.specs.Laws.{AreRepliesTo, AreSends, ClientsAreAnswered, IsReplyTo, OthersAreNotAnswered, IsAnswered, asked_by, request_let_in, request_of}
use Rattle.booth_node.specs.Opening.{AreSetUp}
use Rattle.booth_node.specs.Reaction.{IsDone, react}
use Rattle.booth_node.specs.Records.{Has}
use Rattle.booth_node.specs.Session.{Makes}
use Rattle.booth_node.specs.State.{State}
use Rattle.booth_node.specs.World.{IsSend}
use Rattle.booth_sim.specs.Simulation.{node_in}
use Rattle.booth_sim.proofs.Speaking.{sent_from}

all_has : {X : Type 0} (P : X → Type 0) (xs : List X) (x : X) → All P xs → Has xs x → P x
all_has P [] x all h = absurd h
all_has {X} P (y ∷ ys) x all (inl e) = subst P e (all 0 y (omega arith))
all_has P (y ∷ ys) x all (inr h) = all_has P ys x (λ k d below. all (suc k) d (omega (arith, below))) h

has_either : (xs ys : List Entry) (x : Entry) → Has (xs ++ ys) x → Has xs x ⊎ Has ys x
has_either [] ys x h = inr h
has_either (z ∷ zs) ys x (inl e) = inl (inl e)
has_either (z ∷ zs) ys x (inr h) =
    ⊎_elim (λ (a : Has zs x). inl (inr a)) (λ (b : Has ys x). inr b) (has_either zs ys x h)

-- the call that is the send of a message
sends_first : (ring : Option Ring) (to : Peer) (message : PlainMessage) (messages : List PlainMessage) (e : Entry)
    (es : List Entry) → AreSends ring to (message ∷ messages) (e ∷ es)
    → (answer : Result (Unit {0}) Failed) × (e ≡ calls.Send to (sealed ring message) answer) × AreSends ring to messages es
sends_first ring to message messages (calls.Send peer bytes answer) es sends = (
  answer,
  ap (λ (p : Peer). calls.Send p bytes answer) sends.0 ∙ ap (λ (b : List ℕ). calls.Send to b answer) sends.1,
  sends.2,
)
sends_first ring to message messages call es sends = absurd sends

-- the bytes of a message of this member bear its id
bears : (me : MemberId) (message : PlainMessage) (bytes sent : List ℕ) → me.0 < 2 ^ 32 → message.head.from ≡ me → bytes ≡ sealed None message
    → bytes ≡ sent → word_at 20 sent ≡ me.0
bears me message bytes sent small from spelled e =
    ap (word_at 20) (sym e ∙ spelled)
    ∙ sent_from message (subst (λ (i : MemberId). i.0 < 2 ^ 32) (sym from) small) ∙ ap (λ (i : MemberId). i.0) from

module _ (config : ConfigSays) (place : ℕ) (small : (node_in config place).me.0 < 2 ^ 32) where
  -- the call's bytes, where it is a send, bear this member's id
  abbrev pub IsOwn : Entry → Type 0
  IsOwn call = (sent : List ℕ) → IsSend (Makes call) sent → word_at 20 sent ≡ (node_in config place).me.0

  own_call : (waiters : List (List Waiter)) (call : Entry) → ReachesWaiters (node_in config place) waiters call → IsOwn call
  own_call waiters (calls.Send peer bytes answer) (inl between) sent e =
      bears (node_in config place).me between.message bytes sent small between.from between.spelled e
  own_call waiters (calls.Send peer bytes answer) (inr tells) sent e =
      bears (node_in config place).me tells.message bytes sent small tells.outcome.from tells.spelled e
  own_call waiters (calls.Keep ticket rec answer) reaches sent e = absurd e
  own_call waiters (calls.Start number ticket handler local expires answer) reaches sent e = absurd e
  own_call waiters call reaches sent e = absurd reaches

  module _ (answered : ClientsAreAnswered) (others : OthersAreNotAnswered) (old new : State) (moment : ℕ) (deeds : List Entry)
      (set_up : AreSetUp (node_in config place) old) where
    abbrev DoneIn : Arrival → List ℕ → Type 0
    DoneIn arrival bytes = Leads (IsDone None) (react (node_in config place) old moment (Ok arrival) bytes) deeds (Ends new)

    unasked : (arrival : Arrival) (bytes : List ℕ) → DoneIn arrival bytes → request_of (node_in config place) moment (Ok arrival) bytes ≡ None
        → (call : Entry) → Has deeds call → IsOwn call
    unasked arrival bytes done none call h =
        own_call old.waiters call
        (all_has (ReachesWaiters (node_in config place) old.waiters) deeds call
        (others (node_in config place) old new moment (Ok arrival) bytes deeds set_up done none) h)

    asked : (from : Peer) (message : PlainMessage) → IsAnswered (node_in config place) old moment from message deeds new
        → (call : Entry) → Has deeds call → IsOwn call
    asked from message is call h =
        by_part (has_either (is.before ++ is.sent) is.deadlines call (subst (λ (xs : List Entry). Has xs call) is.whole h))
      where
        reply_own : (number : ℕ) (reply : PlainMessage) (answer : Result (Unit {0}) Failed)
            → IsReplyTo (node_in config place) message number reply → calls.Send from (sealed None reply) answer ≡ call
            → IsOwn call
        reply_own number reply answer replies e = subst IsOwn e (λ sent s.
            bears (node_in config place).me reply (sealed None reply) sent small replies.from refl s)

        sent_own : (number : ℕ) (replies : List PlainMessage) (es : List Entry)
            → AreRepliesTo (node_in config place) message number replies → AreSends None from replies es → Has es call
            → IsOwn call
        sent_own number [] es are sends h = absurd are
        sent_own number (reply ∷ replies) [] are sends h = absurd h
        sent_own number (reply ∷ []) (e ∷ []) are sends (inl here) =
            let first = sends_first None from reply [] e [] sends in
            reply_own number reply first.0 are (sym first.1 ∙ here)
        sent_own number (reply ∷ []) (e ∷ []) are sends (inr h) = absurd h
        sent_own number (reply ∷ []) (e ∷ f ∷ es) are sends h =
            absurd (sends_first None from reply [] e (f ∷ es) sends).2
        sent_own number (reply ∷ next ∷ replies) (e ∷ es) are sends (inl here) =
            let first = sends_first None from reply (next ∷ replies) e es sends in
            reply_own number reply first.0 are.0 (sym first.1 ∙ here)
        sent_own number (reply ∷ next ∷ replies) (e ∷ es) are sends (inr h) =
            sent_own (number + 1) (next ∷ replies) es are.3 (sends_first None from reply (next ∷ replies) e es sends).2 h

        by_early : Has is.before call ⊎ Has is.sent call → IsOwn call
        by_early (inl a) = own_call old.waiters call (all_has (ReachesWaiters (node_in config place) old.waiters) is.before call is.waited a)
        by_early (inr b) = sent_own 0 is.replies is.sent is.answers is.sends b

        by_part : Has (is.before ++ is.sent) call ⊎ Has is.deadlines call → IsOwn call
        by_part (inl a) = by_early (has_either is.before is.sent call a)
        by_part (inr b) = own_call is.after.waiters call (all_has (ReachesWaiters (node_in config place) is.after.waiters) is.deadlines call is.waiting b)

    pub turn_own : (arrival : Arrival) (bytes : List ℕ) → DoneIn arrival bytes → (call : Entry) → Has deeds call → IsOwn call
    turn_own (arrivals.Datagram from) bytes done call h = by_verdict (verdict config None (node_in config place).me moment bytes) refl
      where
        by_direction : (message : PlainMessage) → verdict config None (node_in config place).me moment bytes ≡ Ok message
            → (d : Direction) → direction_of message.head.cmd ≡ d → IsOwn call
        by_direction message v ToDaemon e =
            asked from message
            (answered (node_in config place) old new moment from message deeds set_up (record { bytes = bytes; let_in = v; deeds = done }) e) call h
        by_direction message v BetweenMembers e =
            unasked (arrivals.Datagram from) bytes done (ap request_let_in v ∙ ap (λ (d : Direction). asked_by d message) e) call h
        by_direction message v ToClient e =
            unasked (arrivals.Datagram from) bytes done (ap request_let_in v ∙ ap (λ (d : Direction). asked_by d message) e) call h

        by_verdict : (r : Result PlainMessage DropFault) → verdict config None (node_in config place).me moment bytes ≡ r → IsOwn call
        by_verdict (Err fault) v = unasked (arrivals.Datagram from) bytes done (ap request_let_in v) call h
        by_verdict (Ok message) v = by_direction message v (direction_of message.head.cmd) refl
    turn_own (arrivals.Handler job status) bytes done call h = unasked (arrivals.Handler job status) bytes done refl call h
    turn_own arrivals.Quiet bytes done call h = unasked arrivals.Quiet bytes done refl call h
    turn_own arrivals.Stop bytes done call h = unasked arrivals.Stop bytes done refl call h
