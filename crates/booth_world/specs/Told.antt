-- The term with which a member names itself as a ticket's holder, and the term with which it would do so between two
-- turns.
use Rattle.std.specs.Prelude.{◌≡◌, ℕ, ◌<◌, ◌≤◌, List, slice_get, Ok, Some}
use Rattle.booth_base.specs.declared.address.MemberId.{MemberId}
use Rattle.booth_conf.specs.declared.tickets.TicketConf.{TicketConf}
use Rattle.booth_rec.specs.declared.record.Lease.{Lease}
use Rattle.booth_wire.specs.declared.command.Cmd.TheVariants.{RTkt}
use Rattle.booth_wire.specs.declared.message.Head.{Head}
use Rattle.booth_wire.specs.declared.message.TicketPart.{TicketPart}
use Rattle.booth_wire.specs.PlainMessage.{PlainMessage, Ticket}
use Rattle.booth_wire.specs.Reading.{decoded}
use Rattle.booth_raft.specs.declared.view.View.{View}
use Rattle.booth_ticket.specs.Requests.{told_lease}
use Rattle.booth_ticket.specs.Ticket.{Automatic}
use Rattle.booth_node.specs.declared.node_config.NodeConfig.{NodeConfig}
use Rattle.booth_node.specs.Opening.{setup_of}
use Rattle.booth_node.specs.State.{State}
use Rattle.booth_node.specs.World.{WorldEntry, World, members_of, id_at, stand_after, IsSend, IsSecondWorld, IsUntimedWorld, RecordsGoOn}
use Rattle.booth_node.specs.Held.{Moment, IsAutomatic}
use Rattle.booth_world.specs.Shadows.{RestsIn}
use Rattle.booth_world.specs.Tellers.{IsNext}
use Rattle.booth_world.specs.Fencing.{HasGainedAt, IsBelowAt, TermsAreOfOneIn, HoldersOfOneTermIn, AskersHaveLaterTermsIn}
use Rattle.booth_world.specs.Worlds.{IsLater}

-- The member rests between two turns, or has the answer of a `next`, with this view of the ticket. At a reading that
-- is no earlier than its last one, it would report this lease.
pub record WouldTell (w : World) (ticket : TicketConf) (m : ℕ) (moment : Moment w) (lease : Lease) : Type 0 where
  pub below : m < members_of w
  pub node : NodeConfig
  pub resting : State
  pub rests : RestsIn (stand_after m moment.before) node resting
  pub place : ℕ
  pub own : TicketConf
  pub is : slice_get node.config.tickets place ≡ Some own
  pub named : own.name ≡ ticket.name
  pub view : View
  pub known : slice_get resting.tickets place ≡ Some (record { setup = setup_of node place own; known = Automatic view })
  pub reading : ℕ
  pub later : resting.last_reading ≤ reading
  pub tells : told_lease (setup_of node place own) view reading ≡ Some lease

-- If two members would report leases with the same term, each at its own moment and by its own clock, they are one
-- member.
abbrev pub ToldTermsAreOfOneIn : World → Type 0
ToldTermsAreOfOneIn w =
    (ticket : TicketConf) → IsAutomatic w ticket
    → (early late : Moment w) (between : List WorldEntry) → IsLater w early late between
    → (s t : ℕ) (first second : Lease)
    → WouldTell w ticket s early first → WouldTell w ticket t late second
    → first.term ≡ second.term → s ≡ t

-- ---- the term in an answer

-- An answer about the ticket with this name reports a term: it names this member as the holder, with seconds left.
pub record PartTellsTerm (name : List ℕ) (me : MemberId) (head : Head) (part : TicketPart) (told : ℕ) : Type 0 where
  pub answers : head.cmd ≡ RTkt
  pub named : part.ticket ≡ name
  pub leads : part.leader ≡ me
  pub left : 0 < part.valid_for
  pub term : part.term ≡ told

abbrev pub MessageTellsTerm : List ℕ → MemberId → PlainMessage → ℕ → Type 0
MessageTellsTerm name me message term =
    (part : TicketPart) × (message.content ≡ Ticket part) × PartTellsTerm name me message.head part term

-- By this entry its member sends an answer that reports this term and names the member itself. A send that failed or
-- was interrupted counts.
abbrev pub TellsTerm : World → TicketConf → WorldEntry → ℕ → Type 0
TellsTerm w ticket entry term =
    (bytes : List ℕ) × (message : PlainMessage) × IsSend entry.what bytes × (decoded bytes ≡ Ok message)
    × MessageTellsTerm ticket.name (id_at w entry.member) message term

-- Just before a member reports a term, it may have written a lease of that term, which it gained.
abbrev pub ToldTermsAreGainedIn : World → Type 0
ToldTermsAreGainedIn w =
    (ticket : TicketConf) → IsAutomatic w ticket
    → (moment : Moment w) (entry : WorldEntry) → IsNext moment entry → (term : ℕ) → TellsTerm w ticket entry term
    → (lease : Lease) × (lease.term ≡ term) × HasGainedAt w ticket entry.member moment lease

-- A member that reports a term has gained a lease of that term. This requires neither version 2, nor that the lease
-- is still in force: a member that is paused before its send reports a term late.
abbrev pub ToldTermsAreGained : Type 0
ToldTermsAreGained = (w : World) → IsUntimedWorld w → ToldTermsAreGainedIn w

-- Two entries that report the same term belong to one member.
abbrev pub TellersOfOneTermIn : World → Type 0
TellersOfOneTermIn w =
    (ticket : TicketConf) → IsAutomatic w ticket
    → (early late : Moment w) (between : List WorldEntry) → IsLater w early late between
    → (first second : WorldEntry) → IsNext early first → IsNext late second
    → (term : ℕ) → TellsTerm w ticket first term → TellsTerm w ticket second term → first.member ≡ second.member

-- Suppose that one member reports a term while another member has not written a term T yet. If the other member reports
-- T later, T is the greater of the two terms.
abbrev pub LaterTellersHaveLaterTermsIn : World → Type 0
LaterTellersHaveLaterTermsIn w =
    (ticket : TicketConf) → IsAutomatic w ticket
    → (early late : Moment w) (between : List WorldEntry) → IsLater w early late between
    → (first second : WorldEntry) → IsNext early first → IsNext late second
    → (term later : ℕ) → TellsTerm w ticket first term → TellsTerm w ticket second later
    → IsBelowAt w ticket second.member early later
    → term < later

-- ---- worlds of version 2

-- The terms of leases are fencing tokens. A storage system that compares them may rely on these laws.
pub record HasFencingTerms (w : World) : Type 0 where
  pub terms : TermsAreOfOneIn w
  pub holders : HoldersOfOneTermIn w
  pub askers : AskersHaveLaterTermsIn w
  pub told : ToldTermsAreOfOneIn w
  pub gained : ToldTermsAreGainedIn w
  pub tellers : TellersOfOneTermIn w
  pub later_tellers : LaterTellersHaveLaterTermsIn w

-- The terms of leases are fencing tokens in each world whose sessions are all of version 2 and go on, however its
-- clocks drift, stand still and step forward.
abbrev pub WorldsHaveFencingTerms : Type 0
WorldsHaveFencingTerms = (w : World) → IsUntimedWorld w → IsSecondWorld w → RecordsGoOn w → HasFencingTerms w
