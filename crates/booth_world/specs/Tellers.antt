-- The messages by which a member names itself as the holder of an automatic ticket, and the records that it may have
-- written by then.
use Rattle.std.specs.Prelude.{◌≡◌, ◌≢◌, ◌⊎◌, ◌++◌, ℕ, ◌<◌, ◌≤◌, ◌+◌, ◌-◌, ◌*◌, ◌/◌, ◌%◌, min, List, [], ◌∷◌, decimal, slice_get, Ok, IsSomeAnd}
use Rattle.booth_base.specs.declared.address.Address.{Address}
use Rattle.booth_base.specs.declared.address.MemberId.{MemberId}
use Rattle.booth_base.specs.Address.{printed}
use Rattle.booth_conf.specs.declared.tickets.TicketConf.{TicketConf}
use Rattle.booth_rec.specs.declared.record.Record.{Record}
use Rattle.booth_wire.specs.declared.codes.results.TheConstants.{SUCCESS}
use Rattle.booth_wire.specs.declared.command.Cmd.TheVariants.{RGnt, RLst}
use Rattle.booth_wire.specs.declared.message.Head.{Head}
use Rattle.booth_wire.specs.declared.message.TicketPart.{TicketPart}
use Rattle.booth_wire.specs.PlainMessage.{PlainMessage, Text, Ticket}
use Rattle.booth_wire.specs.Reading.{decoded}
use Rattle.booth_host.specs.declared.host.Job.{Job}
use Rattle.booth_host.specs.declared.entry.Entry.TheVariants as calls
use Rattle.booth_raft.specs.Numbers.{seconds_left}
use Rattle.booth_node.specs.Jobs.{address_in}
use Rattle.booth_node.specs.Records.{Has}
use Rattle.booth_node.specs.Session.{SessionEntry, Makes, IsCut, CutStart}
use Rattle.booth_node.specs.World.{WorldEntry, World, id_at, clock_at, IsSend, IsWorld, IsUntimedWorld}
use Rattle.booth_node.specs.Held.{Moment, IsAutomatic, may_at, HoldsBy, Holds}
use Rattle.booth_world.specs.Clusters.{cluster_of}
use Rattle.booth_world.specs.Held.{AreApart}
use Rattle.booth_world.specs.Worlds.{IsLater, ReleasedIn}

-- ---- claims

-- A claim about a lease. A message is identified by its head, which has the time at which it was sent.
pub data Claim : Type 0 where
  -- A client is informed that its grant was done.
  IsGranted : (head : Head) → Claim
  -- A message states that this many seconds are left.
  HasLeft : (head : Head) (seconds : ℕ) → Claim
  -- A handler is informed that the lease ends in this second of the member's clock.
  EndsIn : (second : ℕ) → Claim
  -- A list states that the lease ends in the second with these digits.
  IsListed : (digits : List ℕ) → Claim

-- A message that is sent at this reading of its member's clock carries the reading, in whole seconds and
-- microseconds.
abbrev pub IsSentAt : Head → ℕ → Type 0
IsSentAt head reading = (head.secs ≡ min (reading / 1000) 4294967295) × (head.usecs ≡ reading % 1000 * 1000)

-- A lease with this end bears the claim out. It ends after the message was sent. Seconds that are left are rounded
-- up, and the second in which a lease ends is rounded down.
abbrev pub BearsOut : Claim → ℕ → Type 0
BearsOut (IsGranted head) until = (reading : ℕ) × IsSentAt head reading × (reading < until)
BearsOut (HasLeft head seconds) until =
    (reading : ℕ) × IsSentAt head reading × (reading < until) × (seconds ≡ seconds_left until reading)
BearsOut (EndsIn second) until = until / 1000 ≡ second
BearsOut (IsListed digits) until = decimal (until / 1000) ≡ digits

-- ---- the sender of a claim

-- The message is about the ticket. It states that a grant was done, or it names this member as the ticket's leader
-- with seconds left. This holds for messages to members and to clients alike, with any command.
abbrev pub PartTells : List ℕ → MemberId → Head → TicketPart → Claim → Type 0
PartTells name me head part (IsGranted same) =
    (part.ticket ≡ name) × (head ≡ same) × (head.cmd ≡ RGnt) × (head.result ≡ SUCCESS)
PartTells name me head part (HasLeft same seconds) =
    (part.ticket ≡ name) × (head ≡ same) × (part.leader ≡ me) × (part.valid_for ≡ seconds) × (0 < seconds)
PartTells name me head part claim = ⊥

abbrev pub MessageTells : List ℕ → MemberId → PlainMessage → Claim → Type 0
MessageTells name me message claim =
    (part : TicketPart) × (message.content ≡ Ticket part) × PartTells name me message.head part claim

-- A handler is started for a lease that its member has, and gets the lease's end. An end of 0 means that there is no
-- lease.
abbrev pub JobTells : List ℕ → Job → Claim → Type 0
JobTells name job (EndsIn second) = (job.ticket ≡ name) × (job.expires ≡ second) × (0 < second)
JobTells name job claim = ⊥

-- This byte is not among these bytes.
abbrev pub HasNone : ℕ → List ℕ → Type 0
HasNone b [] = Unit {0}
HasNone b (x ∷ xs) = (x ≢ b) × HasNone b xs

-- The bytes before a line are empty, or end with a line end.
abbrev pub EndsLine : List ℕ → Type 0
EndsLine before = (before ≡ []) ⊎ ((earlier : List ℕ) × (before ≡ earlier ++ 10 ∷ []))

-- The bytes after a line are empty, or begin with a line end.
abbrev pub BeginsLine : List ℕ → Type 0
BeginsLine after = (after ≡ []) ⊎ ((later : List ℕ) × (after ≡ 10 ∷ later))

-- The text has this line, given here without its line end.
pub record HasLine (text line : List ℕ) : Type 0 where
  pub before : List ℕ
  pub after : List ℕ
  pub whole : text ≡ before ++ (line ++ after)
  pub begins : EndsLine before
  pub ends : BeginsLine after
  pub single : HasNone 10 line

-- A list, or a part of one, has a line for the ticket that gives this address as its owner's.
abbrev pub ListTells : List ℕ → Address → PlainMessage → Claim → Type 0
ListTells name address message (IsListed digits) =
    (text : List ℕ) × (message.head.cmd ≡ RLst) × (message.content ≡ Text text)
    × HasLine text (name ++ 32 ∷ (printed address ++ 32 ∷ digits))
ListTells name address message claim = ⊥

-- The entry starts this job. A start that failed or was interrupted counts.
abbrev pub IsStart : SessionEntry → Job → Type 0
IsStart (Makes (calls.Start number ticket handler local expires answer)) job =
    record { number = number; ticket = ticket; handler = handler; local = local; expires = expires } ≡ job
IsStart (IsCut (CutStart started)) job = started ≡ job
IsStart what job = ⊥

-- The entry sends a message with this claim, or a list with it.
abbrev pub SendTells : List ℕ → MemberId → Address → SessionEntry → Claim → Type 0
SendTells name me address what claim =
    (bytes : List ℕ) × (message : PlainMessage) × IsSend what bytes × (decoded bytes ≡ Ok message)
    × (MessageTells name me message claim ⊎ ListTells name address message claim)

-- The entry starts a job with this claim.
abbrev pub StartTells : List ℕ → SessionEntry → Claim → Type 0
StartTells name what claim = (job : Job) × IsStart what job × JobTells name job claim

-- The address of the member with this index.
abbrev pub address_at : World → ℕ → Address
address_at w m = address_in (slice_get w.members m)

-- By this entry its member names itself as the ticket's holder.
abbrev pub Tells : World → TicketConf → WorldEntry → Claim → Type 0
Tells w ticket entry claim =
    SendTells ticket.name (id_at w entry.member) (address_at w entry.member) entry.what claim
    ⊎ StartTells ticket.name entry.what claim

-- ---- the laws

-- The next entry of the world is this one.
abbrev pub IsNext : {w : World} → Moment w → WorldEntry → Type 0
IsNext moment entry = (after : List WorldEntry) × (moment.after ≡ entry ∷ after)

-- The claim has not ended at the time that the member's clock reads: each end that bears the claim out is above it.
abbrev pub IsLive : (w : World) → ℕ → Moment w → Claim → Type 0
IsLive w m moment claim = (until : ℕ) → BearsOut claim until → clock_at w m moment.time < until

-- A claim has not ended at readings below the end that it states. For a handler or a list, that is the second in
-- which the lease ends. For a message, it is the reading that the message carries, plus the seconds that it states,
-- minus one.
pub record ClaimsLast : Type 0 where
  pub ends_in : (w : World) (m : ℕ) (moment : Moment w) (second : ℕ) → clock_at w m moment.time < 1000 * second
      → IsLive w m moment (EndsIn second)
  pub has_left : (w : World) (m : ℕ) (moment : Moment w) (head : Head) (seconds : ℕ) → head.secs < 4294967295
      → clock_at w m moment.time ≤ 1000 * head.secs + head.usecs / 1000 + 1000 * (seconds - 1)
      → IsLive w m moment (HasLeft head seconds)
  pub granted : (w : World) (m : ℕ) (moment : Moment w) (head : Head) → head.secs < 4294967295
      → clock_at w m moment.time ≤ 1000 * head.secs + head.usecs / 1000 → IsLive w m moment (IsGranted head)

-- Just before a member names itself as the holder, it may have written a record whose lease bears the claim out.
abbrev pub TellersHaveKeptIn : World → Type 0
TellersHaveKeptIn w =
    (ticket : TicketConf) → IsAutomatic w ticket
    → (moment : Moment w) (entry : WorldEntry) → IsNext moment entry → (claim : Claim) → Tells w ticket entry claim
    → (kept : Record) × Has (may_at w ticket entry.member moment) kept
    × IsSomeAnd kept.lease (λ lease. BearsOut claim lease.until)

abbrev pub WhoTellsHasKept : Type 0
WhoTellsHasKept = (w : World) → IsUntimedWorld w → TellersHaveKeptIn w

-- A client is informed that its grant was done only after a record whose lease bears this out was written. It is then
-- the only record that the member may have written.
abbrev pub GrantsAreKept : Type 0
GrantsAreKept =
    (w : World) → IsUntimedWorld w → (ticket : TicketConf) → IsAutomatic w ticket
    → (moment : Moment w) (entry : WorldEntry) → IsNext moment entry → (head : Head)
    → Tells w ticket entry (IsGranted head)
    → (kept : Record) × (may_at w ticket entry.member moment ≡ kept ∷ [])
    × IsSomeAnd kept.lease (λ lease. BearsOut (IsGranted head) lease.until)

-- While its claim has not ended, a member that names itself as the holder holds the ticket at that moment, and no
-- other member does.
abbrev pub TellersHoldIn : World → Type 0
TellersHoldIn w =
    (ticket : TicketConf) → IsAutomatic w ticket
    → (moment : Moment w) (entry : WorldEntry) → IsNext moment entry → (claim : Claim) → Tells w ticket entry claim
    → IsLive w entry.member moment claim
    → Holds w ticket entry.member moment
    × ((other : ℕ) → Holds w ticket other moment → entry.member ≡ other)

abbrev pub WhoTellsHolds : Type 0
WhoTellsHolds = (w : World) → IsWorld w → TellersHoldIn w

-- One member names itself as the holder, another does so later, and neither claim has ended at its moment. Then
-- acquire-after lies between the two, or the first member released its lease in between: the lease by which it held,
-- and which bears its claim out. So two members never name themselves at the same moment, unless the lease was
-- released then.
abbrev pub TellersAreApartIn : World → Type 0
TellersAreApartIn w =
    (ticket : TicketConf) → IsAutomatic w ticket
    → (early late : Moment w) (between : List WorldEntry) → IsLater w early late between
    → (first second : WorldEntry) → IsNext early first → IsNext late second → first.member ≢ second.member
    → (claim other : Claim) → Tells w ticket first claim → Tells w ticket second other
    → IsLive w first.member early claim → IsLive w second.member late other
    → AreApart (cluster_of w ticket) ticket.times.after early.time late.time
    ⊎ ((kept : Record) × HoldsBy w ticket first.member early kept
    × IsSomeAnd kept.lease (λ lease. BearsOut claim lease.until)
    × ReleasedIn w ticket first.member kept early.before between)

abbrev pub TellersAreApart : Type 0
TellersAreApart = (w : World) → IsWorld w → TellersAreApartIn w
