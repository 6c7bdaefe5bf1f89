-- For how long lines of two members can overlap in an audit.
use Rattle.std.specs.Prelude.{◌≡◌, ◌≢◌, ◌⊎◌, ◌++◌, ℕ, ◌+◌, ◌<◌, ◌≤◌, max, min, false, List, [], ◌∷◌, slice_get, Option, Some}
use Rattle.booth_conf.specs.Config.{ConfigSays}
use Rattle.booth_conf.specs.Sound.{IsSound}
use Rattle.booth_conf.specs.declared.tickets.TicketConf.{TicketConf}
use Rattle.booth_keys.specs.declared.ring.Ring.{Ring}
use Rattle.booth_rec.specs.declared.record.Lease.{Lease}
use Rattle.booth_rec.specs.declared.record.Record.{Record}
use Rattle.booth_rec.specs.Record.{no_record}
use Rattle.booth_host.specs.declared.entry.Entry.TheVariants as calls
use Rattle.booth_node.specs.Records.{Has, may_after_all}
use Rattle.booth_node.specs.Session.{CutKeep, IsCut, Makes, SessionEntry, Starts}
use Rattle.booth_node.specs.World.{AtEach, World, WorldEntry, clock_at, entries_of}
use Rattle.booth_world.specs.Worlds.{ReleasedIn}
use Rattle.booth_audit.specs.declared.holding.Holding.{Holding}
use Rattle.booth_audit.specs.Audit.{AuditSays, IsAudited}
use Rattle.booth_audit.specs.Holdings.{used_after_all}
use Rattle.booth_evidence.specs.Journals.{FitsJournals}

-- ---- clocks and writes

-- The clocks of two members never differ by more than this.
abbrev pub ClocksDifferBy : World → ℕ → ℕ → ℕ → Type 0
ClocksDifferBy w s t most =
    (time : ℕ) → time < w.span
    → (clock_at w s time ≤ clock_at w t time + most) × (clock_at w t time ≤ clock_at w s time + most)

-- The entry writes a record. A write that failed or was interrupted counts.
abbrev pub IsWrite : SessionEntry → Type 0
IsWrite (Makes (calls.Keep ticket rec answer)) = Unit {0}
IsWrite (IsCut (CutKeep ticket rec)) = Unit {0}
IsWrite what = ⊥

-- A line of an audit is of a start, or of an entry that writes a record.
abbrev pub MayGiveALine : SessionEntry → Type 0
MayGiveALine (Starts node reading records) = Unit {0}
MayGiveALine what = IsWrite what

-- When the member writes a record, no more time than this has passed by its own clock since the reading in use.
abbrev pub WritesWithin : World → ℕ → ℕ → Type 0
WritesWithin w m most =
    AtEach w (λ before entry. entry.member ≡ m → IsWrite entry.what
    → clock_at w m entry.time ≤ used_after_all 0 (entries_of m (before ++ entry ∷ [])) + most)

-- ---- lines

-- The line of a lease is of this entry, which follows these. The entry is a start, or writes a record. The member may
-- have this record after it, and the record has the lease. The line begins at the reading in use.
pub record IsLineOf (w : World) (ticket : TicketConf) (line : Holding) (before : List WorldEntry) (entry : WorldEntry)
    (kept : Record) (lease : Lease) : Type 0 where
  pub own : entry.member ≡ line.member
  pub kind : MayGiveALine entry.what
  pub may : Has (may_after_all ticket.name (no_record ∷ []) (entries_of line.member (before ++ entry ∷ []))) kept
  pub leased : kept.lease ≡ Some lease
  pub from : line.from ≡ used_after_all 0 (entries_of line.member (before ++ entry ∷ []))
  pub until : line.until ≡ lease.until

-- The lease of a line was released after the entry of the line.
pub record WasReleased (w : World) (ticket : TicketConf) (line : Holding) : Type 0 where
  pub before : List WorldEntry
  pub entry : WorldEntry
  pub between : List WorldEntry
  pub after : List WorldEntry
  pub whole : w.entries ≡ before ++ entry ∷ (between ++ after)
  pub kept : Record
  pub lease : Lease
  pub line_of : IsLineOf w ticket line before entry kept lease
  pub released : ReleasedIn w ticket line.member kept (before ++ entry ∷ []) between

-- From the later beginning of two lines to the earlier end there is no more time than this.
abbrev pub OverlapAtMost : ℕ → Holding → Holding → Type 0
OverlapAtMost most one other = min one.until other.until ≤ max one.from other.from + most

-- Suppose that an audit finds no fault, and a world fits the journals. Two lines of the audit are of the same automatic
-- ticket and of two members, whose clocks never differ by more than `apart`, and who write within `pause` of a reading.
-- Then the lines overlap for at most the two times together, or one of the two leases was released.
abbrev pub LinesAreApart : Type 0
LinesAreApart =
    (config : ConfigSays) → IsSound config → (ring : Option Ring) (texts : List (List ℕ)) (says : AuditSays)
    → IsAudited config ring texts says → (w : World) → FitsJournals config ring texts w
    → (place : ℕ) (ticket : TicketConf) → slice_get config.tickets place ≡ Some ticket → ticket.manual ≡ false
    → (one other : Holding) → Has says.holdings one → Has says.holdings other
    → one.ticket ≡ place → other.ticket ≡ place → one.member ≢ other.member → (apart pause : ℕ) → ClocksDifferBy w one.member other.member apart
    → WritesWithin w one.member pause → WritesWithin w other.member pause
    → OverlapAtMost (apart + pause) one other ⊎ (WasReleased w ticket one ⊎ WasReleased w ticket other)
