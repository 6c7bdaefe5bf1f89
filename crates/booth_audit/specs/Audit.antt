-- The answer of an audit.
use Rattle.std.specs.Prelude.{◌≡◌, ◌++◌, ℕ, true, List, [], ◌∷◌, map, take, slice_get}
use Rattle.std.specs.Prelude.{Option, None, Some}
use Rattle.std.specs.List.{All}
use Rattle.std.specs.Option.{option_map_or}
use Rattle.booth_base.specs.declared.address.MemberId.{MemberId}
use Rattle.booth_base.specs.declared.address.TheConstants.{NO_ONE}
use Rattle.booth_conf.specs.Config.{ConfigSays}
use Rattle.booth_conf.specs.declared.members.Member.{Member}
use Rattle.booth_journal.specs.Texts.{IsFirstFault}
use Rattle.booth_keys.specs.declared.ring.Ring.{Ring}
use Rattle.booth_node.specs.declared.node_config.NodeConfig.{NodeConfig}
use Rattle.booth_node.specs.Records.{Has}
use Rattle.booth_node.specs.Session.{AreSessions, Down}
use Rattle.booth_journal.specs.declared.audit_fault.AuditFault.{AuditFault}
use Rattle.booth_journal.specs.declared.audit_fault.AuditFault.TheVariants as faults
use Rattle.booth_audit.specs.declared.holding.Holding.{Holding}
use Rattle.booth_audit.specs.declared.silent.SilentStart.{SilentStart}
use Rattle.booth_audit.specs.declared.journal_fault.JournalFault.{JournalFault}
use Rattle.booth_audit.specs.declared.journal_fault.JournalFault.TheVariants as wrongs
use Rattle.booth_audit.specs.Faults.{AllHearSent, AllReadKept, FirstNotKept, FirstUnsent, Heard, IsOf}
use Rattle.booth_audit.specs.Holdings.{Covers, Deeds, holdings_from}
use Rattle.booth_audit.specs.Replay.{Event, deeds_of, replay}
use Rattle.booth_audit.specs.Silent.{silent_starts}
use Rattle.booth_journal.specs.Says.{Said, Says}

-- The id of the member with this index. Without an index it is the id that stands for no member.
abbrev pub id_of : List Member → Option ℕ → MemberId
id_of members None = NO_ONE
id_of members (Some place) = option_map_or (λ (member : Member). member.id) (slice_get members place) NO_ONE

-- The node of that member, as its daemon runs it.
abbrev pub node_of : ConfigSays → Option Ring → Option ℕ → NodeConfig
node_of config ring at = record { config = config; ring = ring; me = id_of config.members at; second = true }

-- ---- one journal

-- A text consists of calls. All its starts are starts of one member that has no earlier journal.
pub record IsMembers (config : ConfigSays) (earlier : List (Option ℕ)) (text : List ℕ) (at : Option ℕ)
    (all : List Said) : Type 0 where
  pub says : Says text all
  pub whose : IsOf config.members all at
  pub other : (place : ℕ) → at ≡ Some place → Has earlier at → ⊥

-- A text is the journal of the member with this index. The rules demanded each call, and each start read records that
-- it may read. `heard` has the member's place, its id and its events.
pub record IsTrue (config : ConfigSays) (ring : Option Ring) (earlier : List (Option ℕ)) (text : List ℕ)
    (heard : Heard) : Type 0 where
  pub said : List Said
  pub members : IsMembers config earlier text heard.member said
  pub id : heard.id ≡ id_of config.members heard.member
  pub replayed : replay (node_of config ring heard.member) said ≡ record { events = heard.events; strays = None }
  pub kept : AllReadKept [] (deeds_of heard.events)
  pub sessions : AreSessions Down (deeds_of heard.events)

abbrev pub member_places : List Heard → List (Option ℕ)
member_places all = map (λ (heard : Heard). heard.member) all

-- The texts are true journals, each of another member than the texts before it.
abbrev pub AreTrue : ConfigSays → Option Ring → List Heard → List (List ℕ) → List Heard → Type 0
AreTrue config ring earlier [] [] = Unit {0}
AreTrue config ring earlier (text ∷ texts) (heard ∷ more) =
    IsTrue config ring (member_places earlier) text heard × AreTrue config ring (earlier ++ heard ∷ []) texts more
AreTrue config ring earlier texts more = ⊥

-- ---- all journals

abbrev pub deeds_by : Heard → Deeds
deeds_by heard = record { member = heard.member; entries = deeds_of heard.events }

-- The holdings and the silent starts that an audit reports.
pub record AuditSays : Type 0 where
  pub holdings : List Holding
  pub silent : List SilentStart

-- The answer of an audit that finds no fault.
pub record IsAudited (config : ConfigSays) (ring : Option Ring) (texts : List (List ℕ)) (says : AuditSays)
    : Type 0 where
  pub heard : List Heard
  pub each : AreTrue config ring [] texts heard
  pub sent : All (λ (one : Heard). AllHearSent heard [] (deeds_of one.events)) heard
  pub held : says.holdings ≡ holdings_from (map deeds_by heard) 0 config.tickets
  pub covers : Covers config.tickets (map deeds_by heard) says.holdings
  pub silent : says.silent ≡ silent_starts 0 heard

-- ---- a journal that belongs to no member, or that does not fit what its member did

-- A journal of a member, with what the member did before the first call that was not demanded.
pub record Replays (config : ConfigSays) (ring : Option Ring) (earlier : List (Option ℕ)) (text : List ℕ)
    (events : List Event) (strays : Option ℕ) : Type 0 where
  pub said : List Said
  pub at : Option ℕ
  pub members : IsMembers config earlier text at said
  pub replayed : replay (node_of config ring at) said ≡ record { events = events; strays = strays }

-- A text consists of calls, but they are not the calls of any member that still lacks a journal.
pub record IsNoMembers (config : ConfigSays) (earlier : List (Option ℕ)) (text : List ℕ) : Type 0 where
  pub said : List Said
  pub says : Says text said
  pub wrong : (member : Option ℕ) → IsMembers config earlier text member said → ⊥

-- The call at this line was not demanded, and each start before it read records that it may read.
pub record DiffersAt (config : ConfigSays) (ring : Option Ring) (earlier : List (Option ℕ)) (text : List ℕ)
    (line : ℕ) : Type 0 where
  pub events : List Event
  pub replays : Replays config ring earlier text events (Some line)
  pub kept : AllReadKept [] (deeds_of events)

-- This line is the first one with a record that its start may not read.
pub record IsNotKeptAt (config : ConfigSays) (ring : Option Ring) (earlier : List (Option ℕ)) (text : List ℕ)
    (line : ℕ) : Type 0 where
  pub events : List Event
  pub strays : Option ℕ
  pub replays : Replays config ring earlier text events strays
  pub wrong : FirstNotKept events line

-- The fault of one journal, if the journals before it are of these members.
abbrev pub IsWrong : ConfigSays → Option Ring → List (Option ℕ) → List ℕ → JournalFault → Type 0
IsWrong config ring earlier text (wrongs.Line line) = IsFirstFault text line
IsWrong config ring earlier text wrongs.Member = IsNoMembers config earlier text
IsWrong config ring earlier text (wrongs.Differs line) = DiffersAt config ring earlier text line
IsWrong config ring earlier text (wrongs.Kept line) = IsNotKeptAt config ring earlier text line
IsWrong config ring earlier text wrongs.OutOfMemory = Unit {0}

-- ---- faults

-- The first journal that is wrong, with its fault.
pub record HasWrong (config : ConfigSays) (ring : Option Ring) (texts : List (List ℕ)) (place : ℕ)
    (fault : JournalFault) : Type 0 where
  pub text : List ℕ
  pub is : slice_get texts place ≡ Some text
  pub earlier : List Heard
  pub before : AreTrue config ring [] (take place texts) earlier
  pub wrong : IsWrong config ring (member_places earlier) text fault

-- No journal is wrong, and this line of one is the first with a received message that no journal has as a send.
pub record HasUnsent (config : ConfigSays) (ring : Option Ring) (texts : List (List ℕ)) (place line : ℕ)
    : Type 0 where
  pub heard : List Heard
  pub each : AreTrue config ring [] texts heard
  pub one : Heard
  pub is : slice_get heard place ≡ Some one
  pub before : All (λ (other : Heard). AllHearSent heard [] (deeds_of other.events)) (take place heard)
  pub wrong : FirstUnsent heard one.events line

-- The meaning of a fault. Out of memory may come in place of any answer.
abbrev pub HasFault : ConfigSays → Option Ring → List (List ℕ) → AuditFault → Type 0
HasFault config ring texts (faults.Line place line) = HasWrong config ring texts place (wrongs.Line line)
HasFault config ring texts (faults.Member place) = HasWrong config ring texts place wrongs.Member
HasFault config ring texts (faults.Differs place line) = HasWrong config ring texts place (wrongs.Differs line)
HasFault config ring texts (faults.Kept place line) = HasWrong config ring texts place (wrongs.Kept line)
HasFault config ring texts (faults.Unsent place line) = HasUnsent config ring texts place line
HasFault config ring texts faults.OutOfMemory = Unit {0}
