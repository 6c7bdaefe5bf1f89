-- Worlds that fit journals: the actions of each member are those of its journal, each at a true time.
use Rattle.std.specs.Prelude.{◌≡◌, ◌⊎◌, ℕ, ◌<◌, ◌≤◌, List, [], Option, Some, Ok}
use Rattle.booth_conf.specs.Config.{ConfigSays}
use Rattle.booth_keys.specs.declared.ring.Ring.{Ring}
use Rattle.booth_wire.specs.declared.command.Direction.TheVariants.{BetweenMembers}
use Rattle.booth_wire.specs.Command.{direction_of}
use Rattle.booth_wire.specs.PlainMessage.{PlainMessage}
use Rattle.booth_auth.specs.Verdict.{verdict}
use Rattle.booth_host.specs.declared.host.Arrival.TheVariants as arrivals
use Rattle.booth_host.specs.declared.entry.Entry.TheVariants as calls
use Rattle.booth_journal.specs.Says.{Said, Says}
use Rattle.booth_node.specs.Reaction.{used}
use Rattle.booth_node.specs.Records.{Has}
use Rattle.booth_node.specs.Session.{Hearing, Makes, SessionEntry, Stand}
use Rattle.booth_node.specs.World.{AtEach, HasTrueClocks, WasSent, World, WorldEntry, entries_of, from_nothing, last_time, members_of, stand_after}
use Rattle.booth_audit.specs.Audit.{node_of}
use Rattle.booth_audit.specs.Faults.{IsOf}
use Rattle.booth_audit.specs.Replay.{deeds_of, replay}

-- ---- the journal of a member

-- The text is a journal of the member at this place: it consists of calls, and all its starts are starts of this
-- member. According to these calls the member did this.
pub record IsJournalOf (config : ConfigSays) (ring : Option Ring) (m : ℕ) (text : List ℕ) (deeds : List SessionEntry)
    : Type 0 where
  pub said : List Said
  pub says : Says text said
  pub own : IsOf config.members said (Some m)
  pub did : deeds ≡ deeds_of (replay (node_of config ring (Some m)) said).events

-- According to these journals the member did this. If none of them is the member's, the member did nothing.
abbrev pub IsJournaled : ConfigSays → Option Ring → List (List ℕ) → ℕ → List SessionEntry → Type 0
IsJournaled config ring texts m deeds =
    ((text : List ℕ) × Has texts text × IsJournalOf config ring m text deeds)
    ⊎ (((text : List ℕ) (others : List SessionEntry) → Has texts text → IsJournalOf config ring m text others → ⊥)
    × (deeds ≡ []))

-- ---- true times

-- If the turn accepts a message of a member at this reading, it does not accept it before it is sent: if the message
-- is sent at any time in the world, it was sent in one of these earlier entries.
abbrev pub HearsNothingEarly : World → List WorldEntry → Stand → SessionEntry → Type 0
HearsNothingEarly w before (Hearing node old (Ok (arrivals.Datagram from)) bytes) (Makes (calls.Now reading)) =
    (message : PlainMessage) → verdict node.config node.ring node.me (used old.last_reading reading) bytes ≡ Ok message
    → direction_of message.head.cmd ≡ BetweenMembers → WasSent w w.entries message → WasSent w before message
HearsNothingEarly w before stand what = Unit {0}

-- The world fits the journals of the members of a configuration. It has these members, and nobody has written a record
-- before it. Each member did what its journal says, at true times that do not fall. Each member has one true clock,
-- which gave all its readings. No message was received before it was sent. A journal does not show the last three.
pub record FitsJournals (config : ConfigSays) (ring : Option Ring) (texts : List (List ℕ)) (w : World) : Type 0 where
  pub same_members : config.members ≡ w.members
  pub nothing_before : (m : ℕ) → w.begins m ≡ from_nothing
  pub of_members : AtEach w (λ before entry. entry.member < members_of w)
  pub journaled : (m : ℕ) → IsJournaled config ring texts m (entries_of m w.entries)
  pub in_order : AtEach w (λ before entry. last_time 0 before ≤ entry.time)
  pub within : AtEach w (λ before entry. entry.time < w.span)
  pub true_clocks : HasTrueClocks w
  pub nothing_early : AtEach w (λ before entry. HearsNothingEarly w before (stand_after entry.member before) entry.what)
