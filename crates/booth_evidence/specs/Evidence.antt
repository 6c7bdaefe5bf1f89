-- Audited journals are worlds, and the lines of the audit cover each lease of such a world.
use Rattle.std.specs.Prelude.{◌≡◌, ℕ, ◌<◌, ◌≤◌, List, [], slice_get, Option, Some}
use Rattle.booth_conf.specs.Config.{ConfigSays}
use Rattle.booth_conf.specs.Sound.{IsSound}
use Rattle.booth_conf.specs.declared.tickets.TicketConf.{TicketConf}
use Rattle.booth_keys.specs.declared.ring.Ring.{Ring}
use Rattle.booth_rec.specs.declared.record.Record.{Record}
use Rattle.booth_rec.specs.Record.{lease_end}
use Rattle.booth_node.specs.Held.{HoldsBy, Moment}
use Rattle.booth_node.specs.Records.{Has}
use Rattle.booth_node.specs.World.{IsSecondWorld, IsWorld, RecordsGoOn, World, clock_at}
use Rattle.booth_world.specs.Worlds.{HoldsOneIn}
use Rattle.booth_audit.specs.declared.holding.Holding.{Holding}
use Rattle.booth_audit.specs.Audit.{AuditSays, IsAudited}
use Rattle.booth_evidence.specs.Journals.{FitsJournals}

-- One of these holdings is of this ticket and member, and ends with this lease. At this reading of the member's clock
-- it has begun and not ended.
pub record IsReported (holdings : List Holding) (ticket member until reading : ℕ) : Type 0 where
  pub line : Holding
  pub among : Has holdings line
  pub of_ticket : line.ticket ≡ ticket
  pub of_member : line.member ≡ member
  pub same_end : line.until ≡ until
  pub begun : line.from ≤ reading
  pub running : reading < line.until

-- At each moment at which a member of the world holds a ticket by a record, its lease is among these holdings.
abbrev pub ReportEachHold : ConfigSays → List Holding → World → Type 0
ReportEachHold config holdings w =
    (place : ℕ) (ticket : TicketConf) → slice_get config.tickets place ≡ Some ticket
    → (moment : Moment w) (m : ℕ) (kept : Record) → HoldsBy w ticket m moment kept
    → IsReported holdings place m (lease_end kept.lease) (clock_at w m moment.time)

-- The world meets all premises, and all its sessions are of version 2. So no two members ever hold an automatic ticket
-- at the same time. Each lease by which a member holds a ticket is among the holdings of the audit.
pub record IsAuditedWorld (config : ConfigSays) (says : AuditSays) (w : World) : Type 0 where
  pub world : IsWorld w
  pub second : IsSecondWorld w
  pub holds_one : HoldsOneIn w
  pub reported : ReportEachHold config says.holdings w

-- If an audit of journals finds no fault, this holds for each world that fits the journals.
abbrev pub AuditedJournalsAreWorlds : Type 0
AuditedJournalsAreWorlds =
    (config : ConfigSays) → IsSound config → (ring : Option Ring) (texts : List (List ℕ)) (says : AuditSays)
    → IsAudited config ring texts says → (w : World) → FitsJournals config ring texts w → IsAuditedWorld config says w

-- If the audit also reports no silent start, each start of the world goes on.
abbrev pub StartsGoOnUnlessSilent : Type 0
StartsGoOnUnlessSilent =
    (config : ConfigSays) → IsSound config → (ring : Option Ring) (texts : List (List ℕ)) (says : AuditSays)
    → IsAudited config ring texts says → says.silent ≡ [] → (w : World) → FitsJournals config ring texts w
    → RecordsGoOn w
