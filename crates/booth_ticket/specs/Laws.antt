-- Laws over the trees: actions that a ticket does whenever it may, for every setup, view and message.
use Rattle.std.specs.Prelude.{◌≡◌, ◌≢◌, ℕ, ◌+◌, ◌<◌, Bool, true, false, List, [], ◌∷◌, ◌++◌, map, Some, None, if◌then◌else◌}
use Rattle.booth_base.specs.declared.address.MemberId.{MemberId}
use Rattle.booth_base.specs.Times.{promise_of}
use Rattle.booth_base.specs.Tree.{Deeds, Ends, Leads}
use Rattle.booth_rec.specs.declared.record.Lease.{Lease}
use Rattle.booth_rec.specs.declared.record.Record.{Record}
use Rattle.booth_rec.specs.Record.{lease_end}
use Rattle.booth_wire.specs.declared.command.Cmd.TheVariants.{RVot, VtFr, HrtB, Ack, UpdE, RGnt}
use Rattle.booth_wire.specs.declared.message.Head.{Head}
use Rattle.booth_wire.specs.declared.message.TicketPart.{TicketPart}
use Rattle.booth_wire.specs.declared.message.Setup.{Setup}
use Rattle.booth_wire.specs.declared.codes.reasons.TheConstants.{ADMN}
use Rattle.booth_wire.specs.declared.codes.results.TheConstants.{ASYN, SUCCESS}
use Rattle.booth_raft.specs.declared.view.Role.TheVariants.{Candidate, Leader}
use Rattle.booth_raft.specs.declared.view.Round.{Round}
use Rattle.booth_raft.specs.declared.view.RoundKind.{RoundKind}
use Rattle.booth_raft.specs.declared.view.RoundKind.TheVariants.{Election, Renewal}
use Rattle.booth_raft.specs.declared.view.View.{View}
use Rattle.booth_raft.specs.AskAndRenew.{asking, next_term, own_answer}
use Rattle.booth_raft.specs.GainReleaseLost.{record_of}
use Rattle.booth_raft.specs.Members.{is_majority, joined_by}
use Rattle.booth_raft.specs.Messages.{answer_cmd, head_of, owner_now, part_of, shown_end}
use Rattle.booth_raft.specs.Numbers.{seconds_left}
use Rattle.booth_raft.specs.RoundsAndAnswers.{MayAnswer}
use Rattle.booth_ticket.specs.declared.hands.To.TheVariants.{Client, Member}
use Rattle.booth_ticket.specs.declared.request.Request.{Request}
use Rattle.booth_ticket.specs.declared.request.Wish.TheVariants.{Grant}
use Rattle.booth_ticket.specs.declared.waiters.Waiter.{Waiter}
use Rattle.booth_ticket.specs.Acts.{Ask, Act, IsAct, kept, said, said_to_each}
use Rattle.booth_ticket.specs.Automatic.{hear}
use Rattle.booth_ticket.specs.Requests.{follow_request, refused_grant}
use Rattle.booth_ticket.specs.Saying.{others}
use Rattle.booth_ticket.specs.Waiting.{Left, joined}

-- With these answers, these acts are the first of the tree, and the rest of the tree follows.
pub record IsBegunBy (deeds : Deeds Ask Left) (acts : List Act) : Type 0 where
  pub rest : Deeds Ask Left
  pub first : Leads IsAct deeds acts rest

-- With these answers, these acts are all acts of the tree, and its result has this property.
pub record IsDoneBy (deeds : Deeds Ask Left) (acts : List Act) (Holds : Left → Type 0) : Type 0
  where
    pub left : Left
    pub all : Leads IsAct deeds acts (Ends left)
    pub holds : Holds left

-- ---- a round is received

-- The message is a round of this kind. The number of an election is 0, and the number of a renewal is not.
abbrev pub IsRound : RoundKind → Head → Type 0
IsRound Election head = (head.cmd ≡ RVot) × (head.options ≡ 0)
IsRound Renewal head = (head.cmd ≡ HrtB) × (head.options ≢ 0)

-- The record with the promise to a round's sender. The member has voted for the sender in the round's term, and
-- promised it for the time of a promise from now on. It keeps its lease and its abstention.
abbrev pub promise_record : Setup → View → Head → TicketPart → ℕ → Record
promise_record setup view head part now = record {
  version = 2;
  term = part.term;
  lease = view.kept.lease;
  bound = Some head.from;
  promise = Some (record { to = head.from; term = part.term; until = now + promise_of setup.times });
  abstain = view.abstain;
}

-- The answer to a round's sender, with the round's term and number.
abbrev pub answer_to : Setup → ℕ → RoundKind → Head → TicketPart → Act
answer_to setup from kind head part =
    said (Member from) (head_of setup (answer_cmd kind) head.request head.options 0 0)
    (part_of setup head.from part.term 0)

-- The acts of a member that answers a round. In version 2 it writes its promise before it sends the answer.
abbrev pub answering_acts : Setup → View → ℕ → RoundKind → Head → TicketPart → ℕ → List Act
answering_acts setup view from kind head part now =
    if setup.second
    then kept (promise_record setup view head part now) true ∷ answer_to setup from kind head part ∷ []
    else answer_to setup from kind head part ∷ []

-- A member that may answer a round answers it before all other acts. In version 2 this requires that its promise was
-- written.
abbrev pub AnswersWhereItMay : Type 0
AnswersWhereItMay =
    (setup : Setup) (view : View) (waiters : List Waiter) (from : ℕ) (kind : RoundKind) (head : Head)
    (part : TicketPart) (now : ℕ)
    → IsRound kind head → MayAnswer view head.from part.term now
    → IsBegunBy (hear (record { setup = setup; view = view }) waiters from head part now)
    (answering_acts setup view from kind head part now)

-- ---- a grant

-- The record of a new term after a client's request. In version 2 it has the own promise, if the member votes for
-- itself.
abbrev pub asked_record : Setup → View → ℕ → Record
asked_record setup view now = record_of setup (asking setup view ADMN now) view.kept.lease

-- The acts of a grant that asks all members, for a ticket without a handler. The member writes the new term, asks
-- each other member for its vote, and informs the client that the grant was begun.
abbrev pub asking_acts : Setup → View → Request → ℕ → List Act
asking_acts setup view request now =
    kept (asked_record setup view now) true
    ∷ said_to_each (others setup) (head_of setup RVot 0 0 ADMN 0)
    (part_of setup setup.me (next_term view) (seconds_left (lease_end view.kept.lease) now))
    ++ said (Client request.from) (head_of setup RGnt request.number 0 0 ASYN)
    (part_of setup (owner_now view.shown now) (next_term view)
    (seconds_left (shown_end view.shown) now))
    ∷ []

-- A member is a candidate, with this record written and these clients waiting.
pub record AsksVotes (kept : Record) (waiters : List Waiter) (left : Left) : Type 0 where
  pub asks : left.core.view.role ≡ Candidate
  pub kept_record : left.core.view.kept ≡ kept
  pub waiting : left.waiters ≡ waiters

-- A grant that is not refused, of a ticket without a handler, asks every other member. This requires that the new
-- term was written and that this member alone is no majority. The client waits, if it asked for that.
abbrev pub GrantAsksAll : Type 0
GrantAsksAll =
    (setup : Setup) (view : View) (waiters : List Waiter) (spare : ℕ) (ready : Bool) (request : Request)
    (now : ℕ) → refused_grant setup view spare ready request.options now ≡ None
    → is_majority setup (own_answer setup view now) ≡ false
    → IsDoneBy (follow_request (record { setup = setup; view = view }) waiters spare
    (record { now = now; ready = ready; job = None }) request Grant)
    (asking_acts setup view request now)
    (AsksVotes (asked_record setup view now) (joined request ASYN waiters))

-- ---- an answer is received

-- The message is an answer to a round of this kind.
abbrev pub IsAnswer : RoundKind → Head → Type 0
IsAnswer Election head = (head.cmd ≡ VtFr) × (head.options ≡ 0)
IsAnswer Renewal head = (head.cmd ≡ Ack) × (head.options ≢ 0)

-- The answer of the member with this index completes a majority for this member's round before its lease would end. The
-- round is not won yet.
pub record Completes (setup : Setup) (round : Round) (from : ℕ) (head : Head) (part : TicketPart)
    (now : ℕ) : Type 0 where
  pub leader : part.leader ≡ setup.me
  pub term : part.term ≡ round.term
  pub number : head.options ≡ round.number
  pub majority : is_majority setup (joined_by round.answers from) ≡ true
  pub unwon : round.won ≡ false
  pub in_time : now < round.opened + setup.times.expire

-- The lease of the round. It runs from the time at which the round was opened.
abbrev pub lease_of : Setup → View → Round → Lease
lease_of setup view round = record { term = view.term; until = round.opened + setup.times.expire }

-- The record with this lease and the member's pledge.
abbrev pub lease_kept : Setup → View → Lease → Record
lease_kept setup view lease = record_of setup view (Some lease)

-- Each of these clients is informed that the ticket was granted, first to last.
abbrev pub told_granted : Setup → List Waiter → TicketPart → List Act
told_granted setup waiters part =
    map (λ waiter. said (Client waiter.from) (head_of setup RGnt waiter.number 0 0 SUCCESS) part) waiters

-- The acts of a member that gains: it writes the lease, announces the lease to all other members, and informs each
-- client that waits.
abbrev pub gaining_acts : Setup → View → List Waiter → Lease → ℕ → List Act
gaining_acts setup view waiters lease now =
    let state : TicketPart = part_of setup setup.me view.term (seconds_left lease.until now) in
    kept (lease_kept setup view lease) true
    ∷ said_to_each (others setup) (head_of setup UpdE 0 0 0 0) state ++ told_granted setup waiters state

-- A leader has the lease: its record was written, the leader is the known owner, and no client waits.
pub record HasLease (owner : MemberId) (own : Record) (lease : Lease) (left : Left) : Type 0 where
  pub leads : left.core.view.role ≡ Leader
  pub kept_record : left.core.view.kept ≡ own
  pub sure : left.core.view.sure ≡ true
  pub shown : left.core.view.shown ≡ Some (record { owner = owner; until = lease.until })
  pub waiting : left.waiters ≡ []

-- A majority that answers in time gives the lease, if its record was written. Each client that waits is informed.
abbrev pub MajorityGains : Type 0
MajorityGains =
    (setup : Setup) (view : View) (waiters : List Waiter) (round : Round) (from : ℕ) (kind : RoundKind)
    (head : Head) (part : TicketPart) (now : ℕ) → view.round ≡ Some round → IsAnswer kind head
    → Completes setup round from head part now
    → IsDoneBy (hear (record { setup = setup; view = view }) waiters from head part now)
    (gaining_acts setup view waiters (lease_of setup view round) now)
    (HasLease setup.me (lease_kept setup view (lease_of setup view round)) (lease_of setup view round))
