-- The results of journals, which are judged first one by one and then all together.
use Rattle.std.specs.Prelude.{◌≡◌, ◌==◌, ◌+◌, ◌++◌, ℕ, Bool, false, List, [], ◌∷◌, map}
use Rattle.std.specs.Prelude.{Option, None, Some, Result, Ok, Err}
use Rattle.std.specs.List.{flat_map}
use Rattle.std.specs.Option.{option_map_or}
use Rattle.booth_conf.specs.Config.{ConfigSays}
use Rattle.booth_conf.specs.declared.members.Member.{Member}
use Rattle.booth_keys.specs.declared.ring.Ring.{Ring}
use Rattle.booth_journal.specs.declared.audit_fault.AuditFault.{AuditFault}
use Rattle.booth_journal.specs.declared.audit_fault.AuditFault.TheVariants as faults
use Rattle.booth_audit.specs.declared.exchanges.Exchange.{Exchange}
use Rattle.booth_audit.specs.declared.holding.Holding.{Holding}
use Rattle.booth_audit.specs.declared.journal_fault.JournalFault.{JournalFault}
use Rattle.booth_audit.specs.declared.journal_fault.JournalFault.TheVariants as wrongs
use Rattle.booth_audit.specs.declared.silent.SilentStart.{SilentStart}
use Rattle.booth_audit.specs.Audit.{AreTrue, IsTrue, IsWrong, id_of, node_of}
use Rattle.booth_audit.specs.Exchanges.{IsToldSo, senders_in}
use Rattle.booth_audit.specs.Faults.{Heard}
use Rattle.booth_audit.specs.Noted.{MemberSays}
use Rattle.booth_audit.specs.Silent.{silent_start}
use Rattle.booth_audit.specs.Tally.{Tally, nothing_tallied, tallied_all}

-- The fault of the journal with this index.
abbrev pub fault_at : JournalFault → ℕ → AuditFault
fault_at (wrongs.Line line) journal = faults.Line journal line
fault_at wrongs.Member journal = faults.Member journal
fault_at (wrongs.Differs line) journal = faults.Differs journal line
fault_at (wrongs.Kept line) journal = faults.Kept journal line
fault_at wrongs.OutOfMemory journal = faults.OutOfMemory

-- The owner of a journal, and its tally.
pub record JudgedSays : Type 0 where
  pub owner : Option ℕ
  pub tally : Tally

-- The member with this index, or no member without an index.
abbrev pub member_at : ConfigSays → Option Ring → Option ℕ → MemberSays
member_at config ring at = record {
  node = node_of config ring at;
  place = option_map_or (λ (place : ℕ). place) at 0;
}

-- The tally of this member's journal.
pub record IsTallied (config : ConfigSays) (ring : Option Ring) (heard : Heard) (judged : JudgedSays) : Type 0 where
  pub owner : judged.owner ≡ heard.member
  pub tally : judged.tally
      ≡ tallied_all (member_at config ring heard.member) (nothing_tallied config.tickets) heard.events
  pub nobody : heard.member ≡ None → heard.events ≡ []

abbrev pub AreTallied : ConfigSays → Option Ring → List Heard → List JudgedSays → Type 0
AreTallied config ring [] [] = Unit {0}
AreTallied config ring (heard ∷ more) (judged ∷ all) =
    IsTallied config ring heard judged × AreTallied config ring more all
AreTallied config ring heard all = ⊥

-- A true journal of one more member, and its tally.
pub record IsTrueSo (config : ConfigSays) (ring : Option Ring) (earlier : List (Option ℕ)) (text : List ℕ)
    (judged : JudgedSays) : Type 0 where
  pub heard : Heard
  pub is : IsTrue config ring earlier text heard
  pub tallied : IsTallied config ring heard judged

-- The result for one journal, if the journals before it are of these members.
abbrev pub IsJudged : ConfigSays → Option Ring → List (Option ℕ) → List ℕ → Result JudgedSays JournalFault
    → Type 0
IsJudged config ring earlier text (Ok judged) = IsTrueSo config ring earlier text judged
IsJudged config ring earlier text (Err fault) = IsWrong config ring earlier text fault

abbrev pub owners_of : List JudgedSays → List (Option ℕ)
owners_of all = map (λ (judged : JudgedSays). judged.owner) all

-- These journals are true, and these are their tallies.
pub record AreTrueSo (config : ConfigSays) (ring : Option Ring) (texts : List (List ℕ)) (all : List JudgedSays)
    : Type 0 where
  pub heard : List Heard
  pub each : AreTrue config ring [] texts heard
  pub tallied : AreTallied config ring heard all

-- The result after the replay of a member's journal.
abbrev pub concluded : ℕ → Tally → Option ℕ → Option ℕ → Result JudgedSays JournalFault
concluded place tally (Some line) strays = Err (wrongs.Kept line)
concluded place tally None (Some line) = Err (wrongs.Differs line)
concluded place tally None None = Ok (record { owner = Some place; tally = tally })

abbrev pub is_place : ℕ → Option ℕ → Bool
is_place place None = false
is_place place (Some owner) = owner == place

abbrev pub is_of_place : ℕ → JudgedSays → Bool
is_of_place place judged = is_place place judged.owner

-- ---- all journals

-- The messages that each member sent and received.
abbrev pub AreExchanges : List Member → List JudgedSays → List Exchange → Type 0
AreExchanges members [] [] = Unit {0}
AreExchanges members (judged ∷ all) (exchange ∷ exchanges) =
    (exchange.id ≡ id_of members judged.owner) × (exchange.sent.now ≡ judged.tally.noted.sent)
    × (exchange.heard.now ≡ judged.tally.hearings.all) × AreExchanges members all exchanges
AreExchanges members all exchanges = ⊥

-- All received messages were sent, or this is the fault of the first message that was not sent. Out of memory may
-- come in place of both.
abbrev pub IsToldOf : List Member → List JudgedSays → Result (Unit {0}) AuditFault → Type 0
IsToldOf members all (Err faults.OutOfMemory) = Unit {0}
IsToldOf members all result =
    (exchanges : List Exchange) × AreExchanges members all exchanges
    × IsToldSo (senders_in exchanges) exchanges result

-- The silent starts of all journals, one after the other. The first journal has this place.
abbrev pub silent_by : ℕ → List JudgedSays → List SilentStart
silent_by journal [] = []
silent_by journal (judged ∷ all) =
    map (silent_start journal) judged.tally.watched.unwritten ++ silent_by (journal + 1) all

-- The holdings of all journals, one after the other.
abbrev pub held_by : List JudgedSays → List Holding
held_by all = flat_map (λ (judged : JudgedSays). judged.tally.noted.held) all
