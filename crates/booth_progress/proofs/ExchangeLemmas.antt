-- A turn that comes to its end makes its sends.
use Rattle.std.proofs.Common.{◌≡◌, inl, inr, ℕ, List, [], ◌∷◌, sym, ap, ◌∙◌, subst}
use Rattle.std.specs.Prelude.{Some, Ok, is_ok, slice_get}
use Rattle.booth_base.specs.declared.address.Peer.{Peer}
use Rattle.booth_base.specs.Tree.{Deeds, Ends, Does, ◌>>=◌}
use Rattle.booth_auth.specs.Sealed.{sealed}
use Rattle.booth_wire.specs.Spelling.{Fits}
use Rattle.booth_host.specs.declared.entry.Entry.TheVariants as calls
use Rattle.booth_host.specs.declared.host.Arrival.TheVariants as arrivals
use Rattle.booth_wire.specs.declared.message.Head.{Head}
use Rattle.booth_wire.specs.declared.message.Say.{Say}
use Rattle.booth_wire.specs.declared.message.Say.TheVariants as says
use Rattle.booth_wire.specs.declared.message.Setup.{Setup}
use Rattle.booth_wire.specs.declared.message.TicketPart.{TicketPart}
use Rattle.booth_wire.specs.PlainMessage.{PlainMessage}
use Rattle.booth_raft.specs.declared.view.View.{View}
use Rattle.booth_node.specs.declared.node.Turn.TheVariants.{Went}
use Rattle.booth_node.specs.declared.node_config.NodeConfig.{NodeConfig}
use Rattle.booth_node.specs.Befalling.{is_told}
use Rattle.booth_node.specs.Counting.{accepted}
use Rattle.booth_node.specs.Reaction.{Action, Ask, Hears, Keep, Send, Start, action, acts, dues, met, peer_at, react, sent_as, used}
use Rattle.booth_node.specs.Session.{AreSessions, Doing, IsCut, Makes, SessionEntry, Starts, after_entries}
use Rattle.booth_node.specs.State.{State}
use Rattle.booth_progress.specs.Exchange.{AreWell, IsAtRest, RepliesIn, SendsIn, SessionsSend}
use Rattle.booth_progress.specs.Extending.{Hearing}
use Rattle.booth_progress.specs.Renewing.{said_after}
use Rattle.booth_progress.specs.Speaking.{IsSent, Sends, WillAsk}
use Rattle.booth_progress.specs.Turns.{HasView}
use Rattle.booth_progress.specs.Written.{IsKept}
use Rattle.booth_progress.proofs.SpeakingLemmas.{will_first}
use Rattle.booth_progress.proofs.TurnSpeakingLemmas.{turns_speak}

module _ (node : NodeConfig) (peer : Peer) (message : PlainMessage) where
  will_send : (deeds : Deeds Ask State) (entries : List SessionEntry) → AreSessions (Doing node deeds) entries
      → AreWell (Doing node deeds) entries → WillAsk IsKept (IsSent peer message) deeds
      → IsAtRest (after_entries (Doing node deeds) entries) → SendsIn node.ring peer message entries
  will_send (Ends state) entries are well will rest = absurd will
  will_send (Does ask go) [] are well will rest = absurd rest
  will_send (Does ask go) (Starts other reading records ∷ entries) are well will rest = absurd well.0
  will_send (Does ask go) (IsCut call ∷ entries) are well will rest = absurd well.0
  will_send (Does (Send to said) go) (Makes (calls.Send address bytes answer) ∷ entries) are well (inl is) rest =
      inl (
        are.0.0 ∙ same_peer is,
        are.0.1 ∙ ap (λ (m : PlainMessage). sealed node.ring m) (same_message is),
        subst (λ (m : PlainMessage). Fits m) (same_message is) are.0.2,
      )
    where
      same_peer : Send to said ≡ Send peer message → to ≡ peer
      same_peer e = cc

      same_message : Send to said ≡ Send peer message → said ≡ message
      same_message e = cc
  will_send (Does (Send to said) go) (Makes (calls.Send address bytes answer) ∷ entries) are well (inr later) rest =
      inr (will_send (go (is_ok answer)) entries are.1 well.1 (later (is_ok answer) tt) rest)
  will_send (Does (Keep name tried) go) (Makes (calls.Keep ticket rec answer) ∷ entries) are well (inl is) rest = absurd cc
  will_send (Does (Keep name tried) go) (Makes (calls.Keep ticket rec answer) ∷ entries) are well (inr later) rest =
      will_send (go (is_ok answer)) entries are.1 well.1 (later (is_ok answer) well.0) rest
  will_send (Does (Start job) go) (Makes (calls.Start number ticket handler local expires answer) ∷ entries) are well (inl is) rest =
      absurd cc
  will_send (Does (Start job) go) (Makes (calls.Start number ticket handler local expires answer) ∷ entries) are well (inr later) rest =
      will_send (go (is_ok answer)) entries are.1 well.1 (later (is_ok answer) tt) rest
  will_send (Does (Send to said) go) (Makes call ∷ entries) are well will rest = absurd are.0
  will_send (Does (Keep name tried) go) (Makes call ∷ entries) are well will rest = absurd are.0
  will_send (Does (Start job) go) (Makes call ∷ entries) are well will rest = absurd are.0

module _ (node : NodeConfig) (old : State) (reading : ℕ) (from peer : Peer) (bytes : List ℕ) (place : ℕ) (setup : Setup)
    (view : View) (member : ℕ) (head : Head) (part : TicketPart) where
  abbrev now : ℕ
  now = used old.last_reading reading

  abbrev begun : State
  begun = record old { last_reading = now }

  abbrev message : Hearing
  message = record { place = member; head = head; part = part; now = now }

  abbrev tree : Deeds Ask State
  tree = react node old now (Ok (arrivals.Datagram from)) bytes

  replies_so : (entries : List SessionEntry) → action node now old.tickets old.common from bytes ≡ Hears member place head part
      → HasView old place setup view → peer_at node.config (slice_get node.config.members member) ≡ Some peer
      → AreSessions (Doing node tree) entries → AreWell (Doing node tree) entries → IsAtRest (after_entries (Doing node tree) entries)
      → RepliesIn node now peer (said_after setup view message) entries
  replies_so entries is has there are well rest =
      by_say (said_after setup view message) (turns_speak.replies node (accepted begun member now) place setup view message peer has there)
    where
      by_say : (words : Say) → Sends node now peer words (acts node now (accepted begun member now) place (is_told member head part))
          → RepliesIn node now peer words entries
      by_say says.Nothing w = tt
      by_say (says.All other other_part) w = tt
      by_say (says.Unanswered other other_part bits) w = tt
      by_say (says.Reply answer answer_part) w =
          will_send node peer (sent_as node now answer answer_part) tree entries are well
          (subst (λ (a : Action). WillAsk IsKept (IsSent peer (sent_as node now answer answer_part))
          (met node now begun from a >>= dues node now Went)) (sym is)
          (will_first IsKept (IsSent peer (sent_as node now answer answer_part))
          (acts node now (accepted begun member now) place (is_told member head part)) (dues node now Went) w))
          rest

pub sessions_send : SessionsSend
sessions_send = record {
  sends = λ node deeds peer message entries are well will rest. will_send node peer message deeds entries are well will rest;
  replies = λ node old reading from peer bytes place setup view member head part entries is has there are well rest.
      replies_so node old reading from peer bytes place setup view member head part entries is has there are well rest;
}
