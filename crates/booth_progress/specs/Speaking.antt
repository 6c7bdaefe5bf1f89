-- What a ticket's calls send: a leader that renews asks each other member, and a member that is behind it answers.
use Rattle.std.specs.Prelude.{◌≡◌, ◌≢◌, ◌⊎◌, ℕ, ◌<◌, ◌≤◌, Bool, List, Some, None, slice_get}
use Rattle.std.specs.Option.{ForSome}
use Rattle.booth_base.specs.declared.address.Peer.{Peer}
use Rattle.booth_base.specs.Tree.{Deeds, Ends, Does}
use Rattle.booth_wire.specs.declared.message.Head.{Head}
use Rattle.booth_wire.specs.declared.message.Say.{Say}
use Rattle.booth_wire.specs.declared.message.Say.TheVariants as says
use Rattle.booth_wire.specs.declared.message.Setup.{Setup}
use Rattle.booth_wire.specs.declared.message.TicketPart.{TicketPart}
use Rattle.booth_wire.specs.PlainMessage.{PlainMessage}
use Rattle.booth_raft.specs.declared.view.View.{View}
use Rattle.booth_raft.specs.Deadlines.{due_now, greeted}
use Rattle.booth_raft.specs.Messages.{round_head, round_part}
use Rattle.booth_ticket.specs.declared.hands.To.{To}
use Rattle.booth_ticket.specs.declared.hands.To.TheVariants.{Member}
use Rattle.booth_ticket.specs.declared.request.Given.{Given}
use Rattle.booth_ticket.specs.declared.waiters.Waiter.{Waiter}
use Rattle.booth_ticket.specs.Acts.{Ask as TicketAsk, Say as Speaks}
use Rattle.booth_ticket.specs.Automatic.{come_due, hear}
use Rattle.booth_node.specs.declared.node.Turn.TheVariants.{Went}
use Rattle.booth_node.specs.declared.node_config.NodeConfig.{NodeConfig}
use Rattle.booth_node.specs.Befalling.{is_told}
use Rattle.booth_node.specs.Jobs.{handler_at}
use Rattle.booth_node.specs.Reaction.{Ask, Send, acts, dues, peer_at, sent_as}
use Rattle.booth_node.specs.State.{State}
use Rattle.booth_progress.specs.Extending.{Hearing, after_hearing}
use Rattle.booth_progress.specs.Leading.{HasTermsLeft, IsLeading, IsToRenew}
use Rattle.booth_progress.specs.Renewing.{after_renewal, said_after}
use Rattle.booth_progress.specs.Turns.{HasView, IsLeft}
use Rattle.booth_progress.specs.Written.{IsKept, IsWritten, Leaves, Whenever, core_of}

-- If each request gets an answer that it may get, one of the requests has this property.
abbrev pub WillAsk : {A S : Type 0} → (A → Bool → Type 0) → (A → Type 0) → Deeds A S → Type 0
WillAsk MayGet Wanted (Ends left) = ⊥
WillAsk MayGet Wanted (Does ask goes_on) =
    Wanted ask ⊎ ((ok : Bool) → MayGet ask ok → WillAsk MayGet Wanted (goes_on ok))

-- The request sends this message to this receiver.
abbrev pub IsSaid : To → Head → TicketPart → TicketAsk → Type 0
IsSaid to head part ask = ask ≡ Speaks to head part

-- If the outcome has a reply, it is sent to the member at this place.
abbrev pub Replies : ℕ → Say → {S : Type 0} → Deeds TicketAsk S → Type 0
Replies from (says.Reply head part) deeds = WillAsk IsWritten (IsSaid (Member from) head part) deeds
Replies from say deeds = Unit {0}

-- A leader at its deadline that must renew, of a ticket without a handler, sends the message of its new round to each
-- other member. Its view is then the view after the renewal. A member that hears a message sends the reply of its rule,
-- and its view is then the view of the rule. All this holds if the writes succeed.
pub record TicketsSpeak : Type 0 where
  pub asks : (setup : Setup) (view : View) (waiters : List Waiter) (given : Given) (place : ℕ)
      → given.job ≡ None → 1 < setup.members → IsLeading setup given.now view → HasTermsLeft view
      → IsToRenew setup given.now (greeted setup view) (due_now setup (greeted setup view) given.now)
      → place < setup.members → place ≢ setup.place
      → ForSome (after_renewal setup (greeted setup view) given.now).round (λ round.
      WillAsk IsWritten
      (IsSaid (Member place) (round_head setup (after_renewal setup (greeted setup view) given.now) round.number)
      (round_part setup (after_renewal setup (greeted setup view) given.now) given.now))
      (come_due (core_of setup view) waiters given))
  pub renewed : (setup : Setup) (view : View) (waiters : List Waiter) (given : Given)
      → given.job ≡ None → IsLeading setup given.now view
      → IsToRenew setup given.now (greeted setup view) (due_now setup (greeted setup view) given.now)
      → Leaves setup (λ left. left ≡ after_renewal setup (greeted setup view) given.now)
      (come_due (core_of setup view) waiters given)
  pub replies : (setup : Setup) (view : View) (waiters : List Waiter) (hearing : Hearing)
      → Replies hearing.place (said_after setup view hearing)
      (hear (core_of setup view) waiters hearing.place hearing.head hearing.part hearing.now)
  pub heard : (setup : Setup) (view : View) (waiters : List Waiter) (hearing : Hearing)
      → Leaves setup (λ left. left ≡ after_hearing setup view hearing)
      (hear (core_of setup view) waiters hearing.place hearing.head hearing.part hearing.now)

-- ---- the turns of a node

-- The request sends this message to this peer.
abbrev pub IsSent : Peer → PlainMessage → Ask → Type 0
IsSent peer message ask = ask ≡ Send peer message

-- If the outcome has a reply, the node sends it to this peer.
abbrev pub Sends : NodeConfig → ℕ → Peer → Say → {S : Type 0} → Deeds Ask S → Type 0
Sends node now peer (says.Reply head part) deeds =
    WillAsk IsKept (IsSent peer (sent_as node now head part)) deeds
Sends node now peer say deeds = Unit {0}

-- The same in a turn. After the arrival, the deadline of a leader that must renew has passed. Then the node sends the
-- message of the new round to the address of each other member, and the ticket's view is the view after the renewal. A
-- node that hears a member's message sends the reply of the ticket's rule to the member's address.
pub record TurnsSpeak : Type 0 where
  pub asks : (node : NodeConfig) (state : State) (place : ℕ) (setup : Setup) (view : View) (now due other : ℕ)
      (peer : Peer) → handler_at node place ≡ None → 1 < setup.members
      → IsLeading setup now view → HasTermsLeft view
      → IsToRenew setup now (greeted setup view) (due_now setup (greeted setup view) now)
      → HasView state place setup view → state.last_reading ≡ now → view.due ≡ Some due → due ≤ now
      → other < setup.members → other ≢ setup.place
      → peer_at node.config (slice_get node.config.members other) ≡ Some peer
      → ForSome (after_renewal setup (greeted setup view) now).round (λ round.
      WillAsk IsKept
      (IsSent peer (sent_as node now (round_head setup (after_renewal setup (greeted setup view) now) round.number)
      (round_part setup (after_renewal setup (greeted setup view) now) now)))
      (dues node now Went state))
  pub renewed : (node : NodeConfig) (state : State) (place : ℕ) (setup : Setup) (view : View) (now due : ℕ)
      → handler_at node place ≡ None → IsLeading setup now view
      → IsToRenew setup now (greeted setup view) (due_now setup (greeted setup view) now)
      → HasView state place setup view → state.last_reading ≡ now → view.due ≡ Some due → due ≤ now
      → Whenever IsKept (IsLeft now place setup (λ left. left ≡ after_renewal setup (greeted setup view) now))
      (dues node now Went state)
  pub replies : (node : NodeConfig) (state : State) (place : ℕ) (setup : Setup) (view : View) (hearing : Hearing)
      (peer : Peer) → HasView state place setup view
      → peer_at node.config (slice_get node.config.members hearing.place) ≡ Some peer
      → Sends node hearing.now peer (said_after setup view hearing)
      (acts node hearing.now state place (is_told hearing.place hearing.head hearing.part))
