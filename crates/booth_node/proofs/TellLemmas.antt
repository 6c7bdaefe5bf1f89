-- A list that is told part by part.
use Rattle.std.specs.Prelude.{Option}
use Rattle.std.proofs.Common.{◌≡◌, ◌+◌, ◌-◌, ◌<◌, ◌≤◌, ℕ, List, [], ◌∷◌, length, map, take, drop, refl, sym, ◌∙◌, ap, subst, arith}
use Rattle.std.proofs.lemmas.List.{length-drop, take_all}
use Rattle.booth_base.specs.declared.address.Peer.{Peer}
use Rattle.booth_base.specs.Tree.{Ends, each}
use Rattle.booth_base.proofs.TreeLemmas.{each_one}
use Rattle.booth_host.specs.declared.entry.Entry.{Entry}
use Rattle.booth_wire.specs.PlainMessage.{PlainMessage}
use Rattle.booth_auth.specs.Sealed.{stamped}
use Rattle.booth_node.specs.declared.node_config.NodeConfig.{NodeConfig}
use Rattle.booth_node.specs.Led.{Led}
use Rattle.booth_node.specs.Lists.{cut_lines, parts_from}
use Rattle.booth_node.specs.Reaction.{Answers, IsDone, answers, met, sends_back}
use Rattle.booth_node.specs.Replies.{list_lines, part_message, part_messages}
use Rattle.booth_node.specs.ReplyForms.{part_result}
use Rattle.booth_node.specs.State.{State}
use Rattle.booth_node.specs.View.{TellsAlone}
use Rattle.booth_node.specs.declared.tickets.TicketTable.{TicketTable}
use Rattle.booth_ticket.specs.Ticket.{TicketState}
use Rattle.booth_node.specs.Telling.{SendsPart, list_messages}
use Rattle.booth_node.proofs.LedLemmas.{led_as, led_each_taken, led_end, led_then}
use Rattle.booth_node.proofs.ListLemmas.{all_taken, begins, first_message, none_from, parts_on, some_from, some_part}

-- the messages of a list are what is answered
pub list_answers : (node : NodeConfig) (now request : ℕ) (lines : List (List ℕ))
    → answers node.ring now (part_messages node.me request 0 (cut_lines 0 lines)) ≡ Answers (list_messages node now request lines)
list_answers node now request lines =
    let some = some_part 0 lines in
    by_parts some.0 some.1 (cut_lines 0 lines) some.2
  where
    in_parts : (part : List (List ℕ)) (parts : List (List (List ℕ)))
        → answers node.ring now (part_messages node.me request 0 (part ∷ parts))
        ≡ Answers (map (stamped node.ring now) (part_messages node.me request 0 (part ∷ parts)))
    in_parts part [] = refl
    in_parts part (next ∷ parts) = refl

    by_parts : (part : List (List ℕ)) (parts all : List (List (List ℕ))) → all ≡ part ∷ parts
        → answers node.ring now (part_messages node.me request 0 all)
        ≡ Answers (map (stamped node.ring now) (part_messages node.me request 0 all))
    by_parts part parts all is =
        ap (λ (ps : List (List (List ℕ))). answers node.ring now (part_messages node.me request 0 ps)) is
        ∙ in_parts part parts
        ∙ ap (λ (ps : List (List (List ℕ))). Answers (map (stamped node.ring now) (part_messages node.me request 0 ps))) (sym is)

-- The parts of these numbers, this one the last, were sent, and so many lines stood in them.
pub record Told {H : Type 0} (past : H → Option (List Entry)) (faults : H → ℕ) (node : NodeConfig) (now : ℕ) (to : Peer)
    (request : ℕ) (lines : List (List ℕ)) (number next : ℕ) (a b : H) : Type 0 where
  pub led : Led past faults (IsDone node.ring)
      (each (sends_back to) (take (number + 1) (list_messages node now request lines))) tt a b
  pub left : drop (number + 1) (list_messages node now request lines)
      ≡ map (stamped node.ring now) (part_messages node.me request (number + 1) (parts_from lines next))
  pub within : next ≤ length lines
  pub counted : number ≤ next

module _ {H : Type 0} {past : H → Option (List Entry)} {faults : H → ℕ} (node : NodeConfig) (now : ℕ) (to : Peer)
    (request : ℕ) (lines : List (List ℕ)) where
  pub told_first : (count : ℕ) {a b : H} → SendsPart past faults node now lines to request 0 count a b → Told past faults node now to request lines 0 count a b
  told_first count {a} {b} sent =
      let first = part_message node.me request 0 (part_result lines count) sent.text in
      let rest = part_messages node.me request 1 (parts_from lines count) in
      let all : (list_messages node now request lines) ≡ stamped node.ring now first ∷ map (stamped node.ring now) rest =
      ap (λ (ms : List PlainMessage). map (stamped node.ring now) ms) (first_message node.me request 0 lines count sent.text sent.part) in
      let within = sent.part.within in
      record {
        led = led_as (sym (ap (λ (ms : List PlainMessage). each (sends_back to) (take 1 ms)) all
            ∙ each_one (sends_back to) (stamped node.ring now first))) refl sent.led;
        left = ap (λ (ms : List PlainMessage). drop 1 ms) all;
        within = within;
        counted = omega arith;
      }

  pub lines_more : (next count : ℕ) {number : ℕ} {a b : H} → next < length lines
      → SendsPart past faults node now (drop next lines) to request number count a b
      → (next + count ≤ length lines) × (0 < count)
  lines_more next count below sent =
      let within = sent.part.within in
      let left = length-drop next lines in
      let some : 0 < length (drop next lines) = omega (arith, below, left) in
      (omega (arith, within, left, below), sent.part.on some)

  pub told_next : (number next count : ℕ) {a b c : H} → next < length lines → Told past faults node now to request lines number next a b
      → SendsPart past faults node now (drop next lines) to request (number + 1) count b c
      → Told past faults node now to request lines (number + 1) (next + count) a c
  told_next number next count below told sent =
      let one = part_message node.me request (number + 1) (part_result (drop next lines) count) sent.text in
      let rest = map (stamped node.ring now) (part_messages node.me request (number + 1 + 1) (parts_from lines (next + count))) in
      let more = lines_more next count below sent in
      let low = told.within in
      let counted = told.counted in
      let left : drop (number + 1) (list_messages node now request lines) ≡ stamped node.ring now one ∷ rest =
      told.left
      ∙ ap (λ (ps : List (List (List ℕ))). map (stamped node.ring now) (part_messages node.me request (number + 1) ps))
      (some_from lines next below)
      ∙ ap (λ (ms : List PlainMessage). map (stamped node.ring now) ms)
      (first_message node.me request (number + 1) (drop next lines) count sent.text sent.part)
      ∙ ap (λ (ps : List (List (List ℕ))). stamped node.ring now one ∷ map (stamped node.ring now) (part_messages node.me request (number + 1 + 1) ps))
      (parts_on lines next count low) in
      let it = begins (list_messages node now request lines) (number + 1) (stamped node.ring now one) (stamped node.ring now one) rest left in
      record {
        led = led_each_taken (sends_back to) (list_messages node now request lines) (number + 1) (stamped node.ring now one) it.below told.led
            (led_as (ap (λ (m : PlainMessage). sends_back to m) (sym it.here)) refl sent.led);
        left = it.after;
        within = more.0;
        counted = let some = more.1 in omega (arith, counted, some);
      }

  pub told_all : (number next : ℕ) {a b : H} → length lines ≤ next → Told past faults node now to request lines number next a b
      → Led past faults (IsDone node.ring) (each (sends_back to) (list_messages node now request lines)) tt a b
  told_all number next over told =
      let none : drop (number + 1) (list_messages node now request lines) ≡ [] =
      told.left ∙ ap (λ (ps : List (List (List ℕ))). map (stamped node.ring now) (part_messages node.me request (number + 1) ps))
      (none_from lines next over) in
      led_as (ap (λ (ms : List PlainMessage). each (sends_back to) ms) (all_taken (list_messages node now request lines) (number + 1) none)) refl told.led

  -- all of it, and then the same state
  pub told_met : (state left : State) {a b : H} → left ≡ state
      → Led past faults (IsDone node.ring) (each (sends_back to) (list_messages node now request lines)) tt a b
      → Led past faults (IsDone node.ring) (met node now state to (answers node.ring now (part_messages node.me request 0 (cut_lines 0 lines)))) left a b
  told_met state left is led =
      led_as (ap (met node now state to) (sym (list_answers node now request lines))) (sym is)
      (led_then (λ (done : Unit {0}). Ends state) led led_end)

-- ---- a table that only tells

pub same_again : {a b c : TicketTable} → TellsAlone a b → TellsAlone b c → TellsAlone a c
same_again first later = record {
  node = later.node ∙ first.node;
  tickets = later.tickets ∙ first.tickets;
  waiters = later.waiters ∙ first.waiters;
  attributes = later.attributes ∙ first.attributes;
  common = later.common ∙ first.common;
}

-- what such a one sends is of the same lines
pub same_part : {H : Type 0} {past : H → Option (List Entry)} {faults : H → ℕ} {old table : TicketTable} {to : Peer}
    {request number count : ℕ} {a b : H} → TellsAlone old table → (now next : ℕ)
    → SendsPart past faults table.node now (drop next (list_lines table.node now table.tickets.items)) to request number count a b
    → SendsPart past faults old.node now (drop next (list_lines old.node now old.tickets.items)) to request number count a b
same_part {past = past} {faults = faults} {old = old} {table = table} {to = to} {request = request} {number = number} {count = count} {a = a} {b = b} same now next sent =
    subst (λ (n : NodeConfig). SendsPart past faults n now (drop next (list_lines n now old.tickets.items)) to request number count a b) same.node
    (subst (λ (ts : List TicketState). SendsPart past faults table.node now (drop next (list_lines table.node now ts)) to request number count a b)
    same.tickets sent)

-- the rest of a slice is all behind its place
pub rest_of : {A : Type 0} (xs : List A) (i : ℕ) → take (length xs - i) (drop i xs) ≡ drop i xs
rest_of xs i = let left = length-drop i xs in take_all (length xs - i) (drop i xs) (omega (arith, left))
