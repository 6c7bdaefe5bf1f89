-- The notes about the events of a member: when it held each ticket, and what it sent.
use Rattle.std.specs.Prelude.{◌≡◌, ◌+◌, ◌++◌, ◌==◌, ℕ, Bool, true, List, [], ◌∷◌, position, slice_get}
use Rattle.std.specs.Prelude.{Option, Some}
use Rattle.std.specs.List.{filter}
use Rattle.std.specs.Option.{option_map_or}
use Rattle.booth_conf.specs.Config.{ConfigSays}
use Rattle.booth_conf.specs.Lookups.{is_called}
use Rattle.booth_conf.specs.declared.members.Member.{Member}
use Rattle.booth_conf.specs.declared.tickets.TicketConf.{TicketConf}
use Rattle.booth_host.specs.declared.entry.Entry.TheVariants as entries
use Rattle.booth_keys.specs.declared.ring.Ring.{Ring}
use Rattle.booth_node.specs.declared.node_config.NodeConfig.{NodeConfig}
use Rattle.booth_node.specs.Opening.{start_reading}
use Rattle.booth_node.specs.Reaction.{used}
use Rattle.booth_node.specs.Session.{CutKeep, CutSend, IsCut, Makes, SessionEntry, Starts}
use Rattle.booth_rec.specs.declared.record.Record.{Record}
use Rattle.booth_rec.specs.Record.{record_or_none}
use Rattle.booth_audit.specs.declared.holding.Holding.{Holding}
use Rattle.booth_audit.specs.Holdings.{holding_by, holdings_in, used_after_all}
use Rattle.booth_audit.specs.Replay.{Event, deeds_of}

-- A member, and its place in the configuration.
pub record MemberSays : Type 0 where
  pub node : NodeConfig
  pub place : ℕ

-- The member at a place of a configuration, with this ring.
pub record IsMember (config : ConfigSays) (ring : Option Ring) (place : ℕ) (member : MemberSays) : Type 0 where
  pub conf : Member
  pub is : slice_get config.members place ≡ Some conf
  pub same : member ≡ record {
    node = record { config = config; ring = ring; me = conf.id; second = true };
    place = place;
  }

-- The reading in use, the holdings, and the bytes of each send. Holdings and sends are in the order of the lines.
pub record Noted : Type 0 where
  pub last : ℕ
  pub held : List Holding
  pub sent : List (List ℕ)

abbrev pub nothing_noted : Noted
nothing_noted = record { last = 0; held = []; sent = [] }

-- ---- holdings

-- The holdings of a start, from the ticket at this place on.
abbrev pub held_from : ℕ → ℕ → ℕ → List (Option Record) → List Holding
held_from ticket member from [] = []
held_from ticket member from (found ∷ records) =
    holding_by ticket member from (record_or_none found).lease ++ held_from (ticket + 1) member from records

-- The holding of a write, if the ticket with this name is at this place.
abbrev pub kept_at : Option ℕ → ℕ → ℕ → Record → List Holding
kept_at place member from kept = option_map_or (λ ticket. holding_by ticket member from kept.lease) place []

abbrev pub with_kept : MemberSays → Noted → List ℕ → Record → Noted
with_kept member notes name kept = record notes {
  held = notes.held
      ++ kept_at (position (is_called name) member.node.config.tickets) member.place notes.last kept;
}

abbrev pub with_sent : Noted → List ℕ → Noted
with_sent notes bytes = record notes { sent = notes.sent ++ bytes ∷ [] }

-- ---- all events

-- The notes after an entry. A start that read leases gives holdings, and so does each write of a lease; each send
-- counts. For writes and sends it makes no difference whether they were done, failed or interrupted.
abbrev pub noted : MemberSays → Noted → SessionEntry → Noted
noted member notes (Starts node reading records) = record notes {
  last = start_reading reading;
  held = notes.held ++ held_from 0 member.place (start_reading reading) records;
}
noted member notes (Makes (entries.Now reading)) = record notes { last = used notes.last reading }
noted member notes (Makes (entries.Send to bytes answer)) = with_sent notes bytes
noted member notes (Makes (entries.Keep name kept answer)) = with_kept member notes name kept
noted member notes (IsCut (CutSend to bytes)) = with_sent notes bytes
noted member notes (IsCut (CutKeep name kept)) = with_kept member notes name kept
noted member notes what = notes

abbrev pub noted_all : MemberSays → Noted → List Event → Noted
noted_all member notes [] = notes
noted_all member notes (event ∷ events) = noted_all member (noted member notes event.what) events

-- ---- the notes, ticket by ticket

abbrev pub is_of : ℕ → Holding → Bool
is_of ticket holding = holding.ticket == ticket

-- The noted reading in use, and the noted holdings of each ticket, follow from what the member did.
abbrev pub NotesAreDeeds : Type 0
NotesAreDeeds =
    (member : MemberSays) (ticket : ℕ) (conf : TicketConf)
    → slice_get member.node.config.tickets ticket ≡ Some conf
    → position (is_called conf.name) member.node.config.tickets ≡ Some ticket → (events : List Event)
    → ((noted_all member nothing_noted events).last ≡ used_after_all 0 (deeds_of events))
    × (filter (is_of ticket) (noted_all member nothing_noted events).held
    ≡ holdings_in conf.name ticket member.place 0 (deeds_of events))
