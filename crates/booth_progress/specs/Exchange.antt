-- What the entries of a session send.
use Rattle.std.specs.Prelude.{◌≡◌, ◌⊎◌, ℕ, List, [], ◌∷◌, Option, Some, Ok, slice_get}
use Rattle.booth_base.specs.declared.address.Peer.{Peer}
use Rattle.booth_base.specs.Tree.{Deeds, Ends}
use Rattle.booth_keys.specs.declared.ring.Ring.{Ring}
use Rattle.booth_auth.specs.Sealed.{sealed}
use Rattle.booth_host.specs.declared.entry.Entry.TheVariants as calls
use Rattle.booth_host.specs.declared.host.Arrival.TheVariants as arrivals
use Rattle.booth_wire.specs.declared.message.Head.{Head}
use Rattle.booth_wire.specs.declared.message.Say.{Say}
use Rattle.booth_wire.specs.declared.message.Say.TheVariants as says
use Rattle.booth_wire.specs.declared.message.Setup.{Setup}
use Rattle.booth_wire.specs.declared.message.TicketPart.{TicketPart}
use Rattle.booth_wire.specs.PlainMessage.{PlainMessage}
use Rattle.booth_wire.specs.Spelling.{Fits}
use Rattle.booth_raft.specs.declared.view.View.{View}
use Rattle.booth_node.specs.declared.node_config.NodeConfig.{NodeConfig}
use Rattle.booth_node.specs.Reaction.{Ask, Hears, action, peer_at, react, sent_as, used}
use Rattle.booth_node.specs.Session.{AreSessions, Doing, Hearing as Begins, Makes, SessionEntry, Stand, after_entries}
use Rattle.booth_node.specs.State.{State}
use Rattle.booth_progress.specs.Renewing.{said_after}
use Rattle.booth_progress.specs.Sessions.{EachEntry, IsWell}
use Rattle.booth_progress.specs.Speaking.{IsSent, WillAsk}
use Rattle.booth_progress.specs.Turns.{HasView}
use Rattle.booth_progress.specs.Written.{IsKept}

-- One of these entries is a send of this message to this peer, whatever its answer.
abbrev pub SendsIn : Option Ring → Peer → PlainMessage → List SessionEntry → Type 0
SendsIn ring peer message [] = ⊥
SendsIn ring peer message (Makes (calls.Send to bytes answer) ∷ entries) =
    ((to ≡ peer) × (bytes ≡ sealed ring message) × Fits message) ⊎ SendsIn ring peer message entries
SendsIn ring peer message (entry ∷ entries) = SendsIn ring peer message entries

-- If this is a reply, one of the entries sends it to this peer, with the time of this reading.
abbrev pub RepliesIn : NodeConfig → ℕ → Peer → Say → List SessionEntry → Type 0
RepliesIn node now peer (says.Reply head part) entries =
    SendsIn node.ring peer (sent_as node now head part) entries
RepliesIn node now peer say entries = Unit {0}

-- The member is between two turns, or begins one.
abbrev pub IsAtRest : Stand → Type 0
IsAtRest (Doing node (Ends state)) = Unit {0}
IsAtRest (Begins node old answer bytes) = Unit {0}
IsAtRest stand = ⊥

abbrev pub AreWell : Stand → List SessionEntry → Type 0
AreWell stand entries = EachEntry (λ at what. IsWell what) stand entries

-- A turn that comes to its end makes each send that its actions contain. If a turn hears a message about a ticket from
-- a member, it sends the reply of the ticket's rule to the member's address. All entries are well.
pub record SessionsSend : Type 0 where
  pub sends : (node : NodeConfig) (deeds : Deeds Ask State) (peer : Peer) (message : PlainMessage)
      (entries : List SessionEntry) → AreSessions (Doing node deeds) entries → AreWell (Doing node deeds) entries
      → WillAsk IsKept (IsSent peer message) deeds → IsAtRest (after_entries (Doing node deeds) entries)
      → SendsIn node.ring peer message entries
  pub replies : (node : NodeConfig) (old : State) (reading : ℕ) (from peer : Peer) (bytes : List ℕ)
      (place : ℕ) (setup : Setup) (view : View) (member : ℕ) (head : Head) (part : TicketPart)
      (entries : List SessionEntry)
      → action node (used old.last_reading reading) old.tickets old.common from bytes
      ≡ Hears member place head part
      → HasView old place setup view → peer_at node.config (slice_get node.config.members member) ≡ Some peer
      → AreSessions (Doing node (react node old (used old.last_reading reading) (Ok (arrivals.Datagram from)) bytes))
      entries
      → AreWell (Doing node (react node old (used old.last_reading reading) (Ok (arrivals.Datagram from)) bytes))
      entries
      → IsAtRest (after_entries
      (Doing node (react node old (used old.last_reading reading) (Ok (arrivals.Datagram from)) bytes)) entries)
      → RepliesIn node (used old.last_reading reading) peer
      (said_after setup view (record {
        place = member;
        head = head;
        part = part;
        now = used old.last_reading reading;
      }))
      entries
