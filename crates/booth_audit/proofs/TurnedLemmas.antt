-- A turn over a host that replays a journal.
use Rattle.std.specs.Prelude.{Option, Some, IsSome}
use Rattle.std.proofs.Common.{◌≡◌, ℕ, List, [], sym, ◌∙◌, ap, subst}
use Rattle.booth_host.specs.declared.entry.Entry.{Entry}
use Rattle.booth_host.specs.Past.{GrewSome, grown}
use Rattle.booth_journal.specs.Says.{Said, Says}
use Rattle.booth_node.specs.declared.node.Turn.{Turn}
use Rattle.booth_node.specs.declared.node_config.NodeConfig.{NodeConfig}
use Rattle.booth_node.specs.Reaction.{IsTurn}
use Rattle.booth_node.specs.State.{State}
use Rattle.booth_audit.specs.declared.end.End.{End}
use Rattle.booth_audit.specs.Hosts.{IsReplay, IsTurned, Seen}
use Rattle.booth_audit.proofs.TurnLemmas.{turns_are_replayed}

pub turned : (text : List ℕ) (line : ℕ) (node : NodeConfig) (old new : State) (turn : Turn) (before after : Seen)
    → before.past ≡ Some [] → GrewSome (λ es. IsTurn node old turn es new) before.past after.past → IsSome after.past
    → IsReplay text line after → (left : List Said) → Says text left
    → IsTurned node old new text line left after.place.rest after.place.line after.place.end after.past
turned text line node old new turn before after none grew some replay left says =
    let more = grew.grew some in
    let past : after.past ≡ Some more.0 = more.1 ∙ ap (λ (p : Option (List Entry)). grown p more.0) none in
    let has = replay more.0 past left says in
    record {
      entries = more.0;
      then_left = has.then_left;
      turn = turn;
      is = more.2;
      told = past;
      says = has.says;
      within = has.within;
      replays = turns_are_replayed node old new turn more.0 line left after.place.end after.place.line has.then_left more.2
          has.reads;
    }

-- the same of what was taken of the host, whose text and first line are part of its type
pub turned_parts : (text typed : List ℕ) (line first : ℕ) (node : NodeConfig) (old new : State) (turn : Turn)
    (before after : Seen) (rest : List ℕ) (at : ℕ) (end : Option End) (past : Option (List Entry)) → text ≡ typed
    → line ≡ first → rest ≡ after.place.rest → at ≡ after.place.line → end ≡ after.place.end → past ≡ after.past
    → before.past ≡ Some [] → GrewSome (λ es. IsTurn node old turn es new) before.past after.past → IsSome after.past
    → IsReplay typed first after → (left : List Said) → Says text left
    → IsTurned node old new text line left rest at end past
turned_parts text typed line first node old new turn before after rest at end past text_is line_is rest_is at_is end_is past_is
    none grew some replay left says =
    let replays : IsReplay text line after =
    subst (λ (t : List ℕ). IsReplay t line after) (sym text_is)
    (subst (λ (n : ℕ). IsReplay typed n after) (sym line_is) replay) in
    let has = turned text line node old new turn before after none grew some replays left says in
    subst (λ (r : List ℕ). IsTurned node old new text line left r at end past) (sym rest_is)
    (subst (λ (n : ℕ). IsTurned node old new text line left after.place.rest n end past) (sym at_is)
    (subst (λ (e : Option End). IsTurned node old new text line left after.place.rest after.place.line e past) (sym end_is)
    (subst (λ (p : Option (List Entry)). IsTurned node old new text line left after.place.rest after.place.line after.place.end p)
    (sym past_is) has)))
