-- A member that is a majority by itself is granted a ticket in the turn in which a client asks for it.
use Rattle.std.specs.Prelude.{◌≡◌, ℕ, ◌+◌, ◌<◌, Bool, true, List, [], ◌∷◌, ◌++◌, Some, None}
use Rattle.booth_rec.specs.declared.record.Lease.{Lease}
use Rattle.booth_rec.specs.declared.record.Record.{Record}
use Rattle.booth_wire.specs.declared.codes.reasons.TheConstants.{ADMN}
use Rattle.booth_wire.specs.declared.codes.results.TheConstants.{SUCCESS}
use Rattle.booth_wire.specs.declared.command.Cmd.TheVariants.{RGnt, UpdE}
use Rattle.booth_wire.specs.declared.message.Setup.{Setup}
use Rattle.booth_wire.specs.declared.message.TicketPart.{TicketPart}
use Rattle.booth_raft.specs.declared.view.View.{View}
use Rattle.booth_raft.specs.AskAndRenew.{asking, next_term, own_answer}
use Rattle.booth_raft.specs.GainReleaseLost.{record_of}
use Rattle.booth_raft.specs.Members.{is_majority}
use Rattle.booth_raft.specs.Messages.{head_of, part_of}
use Rattle.booth_raft.specs.Numbers.{seconds_left}
use Rattle.booth_ticket.specs.declared.hands.To.TheVariants.{Client}
use Rattle.booth_ticket.specs.declared.request.Request.{Request}
use Rattle.booth_ticket.specs.declared.request.Wish.TheVariants.{Grant}
use Rattle.booth_ticket.specs.declared.waiters.Waiter.{Waiter}
use Rattle.booth_ticket.specs.Acts.{Act, kept, said, said_to_each}
use Rattle.booth_ticket.specs.Laws.{HasLease, IsDoneBy, asked_record, told_granted}
use Rattle.booth_ticket.specs.Requests.{follow_request, refused_grant}
use Rattle.booth_ticket.specs.Saying.{others}

-- The lease in the next term, which runs from now on.
abbrev pub lease_alone : Setup → View → ℕ → Lease
lease_alone setup view now = record { term = next_term view; until = now + setup.times.expire }

-- The record of this lease, with the member's pledge from the record of the new term.
abbrev pub record_alone : Setup → View → ℕ → Record
record_alone setup view now = record_of setup (asking setup view ADMN now) (Some (lease_alone setup view now))

-- The member writes the new term and then the lease. It informs the other members, then the waiting clients, and then
-- the client that asked.
abbrev pub alone_acts : Setup → View → List Waiter → Request → ℕ → List Act
alone_acts setup view waiters request now =
    let state : TicketPart = part_of setup setup.me (next_term view) (seconds_left (now + setup.times.expire) now) in
    kept (asked_record setup view now) true
    ∷ kept (record_alone setup view now) true
    ∷ said_to_each (others setup) (head_of setup UpdE 0 0 0 0) state
    ++ (told_granted setup waiters state
    ++ said (Client request.from) (head_of setup RGnt request.number 0 0 SUCCESS) state
    ∷ [])

-- A grant gives the lease at once under these conditions: the ticket has no handler, the grant is not refused, the
-- member is a majority by its own answer, and both records are written. The client that asked gets success, and no
-- client waits.
abbrev pub GrantGainsAlone : Type 0
GrantGainsAlone =
    (setup : Setup) (view : View) (waiters : List Waiter) (spare : ℕ) (ready : Bool) (request : Request)
    (now : ℕ) → refused_grant setup view spare ready request.options now ≡ None
    → is_majority setup (own_answer setup view now) ≡ true → 0 < setup.times.expire
    → IsDoneBy (follow_request (record { setup = setup; view = view }) waiters spare
    (record { now = now; ready = ready; job = None }) request Grant)
    (alone_acts setup view waiters request now)
    (HasLease setup.me (record_alone setup view now) (lease_alone setup view now))
