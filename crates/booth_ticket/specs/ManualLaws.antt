-- Laws over the trees of manual tickets: actions that a ticket does whenever it may, for every setup and view.
use Rattle.std.specs.Prelude.{◌≡◌, ℕ, ◌+◌, Bool, true, false, List, [], ◌∷◌, ◌++◌, Option, None}
use Rattle.std.specs.Option.{is_some}
use Rattle.booth_base.specs.declared.address.Peer.{Peer}
use Rattle.booth_base.specs.declared.address.TheConstants.{NO_ONE}
use Rattle.booth_base.specs.Tree.{Deeds, Ends, Leads}
use Rattle.booth_rec.specs.declared.record.Record.{Record}
use Rattle.booth_wire.specs.declared.codes.reasons.TheConstants.{ADMN, NONE}
use Rattle.booth_wire.specs.declared.codes.results.TheConstants.{SUCCESS}
use Rattle.booth_wire.specs.declared.command.Cmd.TheVariants.{UpdE, Revk, RGnt, RRvk}
use Rattle.booth_wire.specs.declared.message.Setup.{Setup}
use Rattle.booth_manual.specs.declared.view.TheConstants.{NO_END_SECONDS}
use Rattle.booth_manual.specs.declared.view.ManualView.{ManualView}
use Rattle.booth_manual.specs.GrantAndRevoke.{are_terms_spent, granted_record, kept_by_hand}
use Rattle.booth_manual.specs.Messages.{head_of, part_of, shown_or_none}
use Rattle.booth_raft.specs.Messages.{head_of as reply_head}
use Rattle.booth_ticket.specs.declared.hands.To.TheVariants.{Client}
use Rattle.booth_ticket.specs.declared.request.Request.{Request}
use Rattle.booth_ticket.specs.declared.request.Wish.{Wish}
use Rattle.booth_ticket.specs.declared.request.Wish.TheVariants.{Grant, Revoke}
use Rattle.booth_ticket.specs.Acts.{Ask, Act, IsAct, kept, said, said_to_each}
use Rattle.booth_ticket.specs.declared.handling.Service.TheVariants.{CanRun}
use Rattle.booth_ticket.specs.declared.waiters.Waiter.{Waiter}
use Rattle.booth_ticket.specs.Laws.{told_granted}
use Rattle.booth_ticket.specs.Manual.{ManualKnown, ManualLeft}
use Rattle.booth_ticket.specs.ManualHandling.{is_awaited, manual_over}
use Rattle.booth_ticket.specs.ManualRequests.{manual_asked, refused_manual_grant}
use Rattle.booth_ticket.specs.Saying.{others}

-- With these answers, these acts are all acts of the tree, and its result has this property.
pub record IsDoneByHand (deeds : Deeds Ask ManualLeft) (acts : List Act) (Holds : ManualLeft → Type 0) : Type 0
  where
    pub left : ManualLeft
    pub all : Leads IsAct deeds acts (Ends left)
    pub holds : Holds left

abbrev pub request_for : Wish → Peer → ℕ → ℕ → Request
request_for wish from number options =
    record { wish = wish; from = from; number = number; options = options }

-- The lease is written. Each other member is informed, and then the client that asked.
abbrev pub granting : Setup → ManualView → Peer → ℕ → List Act
granting setup view from number =
    kept (granted_record setup view) true
    ∷ said_to_each (others setup) (head_of setup UpdE 0 NONE)
    (part_of setup setup.me (view.term + 1) NO_END_SECONDS)
    ++ said (Client from) (reply_head setup RGnt number 0 0 SUCCESS)
    (part_of setup setup.me (view.term + 1) NO_END_SECONDS)
    ∷ []

-- This site holds the ticket, by this record, and the last write succeeded.
pub record HoldsByHand (own : Record) (view : ManualView) : Type 0 where
  pub owner : view.owner ≡ true
  pub sure : view.sure ≡ true
  pub kept_record : view.kept ≡ own
  pub shown : view.shown ≡ None

-- A grant is written, announced to all other members and answered with success, if the write succeeds. The ticket has
-- no handler, the grant is not refused, and the site does not hold the ticket.
abbrev pub GrantsByHand : Type 0
GrantsByHand =
    (setup : Setup) (known : ManualKnown) (waiters : List Waiter) (spare : ℕ) (ready : Bool) (from : Peer)
    (number options now : ℕ) → known.view.owner ≡ false
    → refused_manual_grant setup known.view (is_some known.job) spare ready options ≡ None
    → IsDoneByHand
    (manual_asked (record { setup = setup; known = known }) waiters spare
    (record { now = now; ready = ready; job = None })
    (request_for Grant from number options))
    (granting setup known.view from number)
    (λ left. HoldsByHand (granted_record setup known.view) left.ticket.known.view)

-- The lease is written. Each other member is informed, and then each client that waits.
abbrev pub granting_to_all : Setup → ManualView → List Waiter → List Act
granting_to_all setup view waiters =
    kept (granted_record setup view) true
    ∷ said_to_each (others setup) (head_of setup UpdE 0 NONE)
    (part_of setup setup.me (view.term + 1) NO_END_SECONDS)
    ++ told_granted setup waiters (part_of setup setup.me (view.term + 1) NO_END_SECONDS)

-- This site holds the ticket, no handler runs, and no client waits.
pub record HoldsAfterHandler (own : Record) (left : ManualLeft) : Type 0 where
  pub holds : HoldsByHand own left.ticket.known.view
  pub over : left.ticket.known.job ≡ None
  pub waiting : left.waiters ≡ []

-- If the handler of a grant reports that the service can run, the grant is written, announced to all other members
-- and sent to each client that waits. This requires that a term is left and the write succeeds.
abbrev pub GrantsAfterHandler : Type 0
GrantsAfterHandler =
    (setup : Setup) (known : ManualKnown) (waiters : List Waiter) (job : ℕ)
    → is_awaited known.job job ≡ true → are_terms_spent known.view ≡ false
    → IsDoneByHand (manual_over (record { setup = setup; known = known }) waiters job CanRun)
    (granting_to_all setup known.view waiters)
    (HoldsAfterHandler (granted_record setup known.view))

-- A record without a lease is written. Each other member is informed, and then the client that asked.
abbrev pub giving_back : Setup → ManualView → Peer → ℕ → List Act
giving_back setup view from number =
    kept (kept_by_hand setup view.term None) true
    ∷ said_to_each (others setup) (head_of setup Revk 0 ADMN) (part_of setup NO_ONE view.term 0)
    ++ said (Client from) (reply_head setup RRvk number 0 0 SUCCESS)
    (part_of setup (shown_or_none view.shown) view.term 0)
    ∷ []

-- This site no longer holds the ticket.
pub record HoldsNoMore (own : Record) (view : ManualView) : Type 0 where
  pub owner : view.owner ≡ false
  pub sure : view.sure ≡ true
  pub kept_record : view.kept ≡ own

-- A revoke at the site that holds the ticket is written, announced to all other members and answered with success, if
-- the write succeeds.
abbrev pub RevokesByHand : Type 0
RevokesByHand =
    (setup : Setup) (known : ManualKnown) (waiters : List Waiter) (spare : ℕ) (ready : Bool) (job : Option ℕ)
    (from : Peer) (number options now : ℕ) → known.view.owner ≡ true
    → IsDoneByHand
    (manual_asked (record { setup = setup; known = known }) waiters spare
    (record { now = now; ready = ready; job = job })
    (request_for Revoke from number options))
    (giving_back setup known.view from number)
    (λ left. HoldsNoMore (kept_by_hand setup known.view.term None) left.ticket.known.view)
