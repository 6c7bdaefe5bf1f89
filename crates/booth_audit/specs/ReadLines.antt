-- The lines of a journal with the records that a start read.
use Rattle.std.specs.Prelude.{◌≡◌, ◌+◌, ◌-◌, ◌*◌, ℕ, true, List, [], ◌∷◌, length, slice_get}
use Rattle.std.specs.Prelude.{Option, Some, Ok}
use Rattle.std.specs.List.{flat_map}
use Rattle.booth_base.specs.Tree.{Ends}
use Rattle.booth_conf.specs.declared.tickets.TicketConf.{TicketConf}
use Rattle.booth_rec.specs.declared.record.Record.{Record}
use Rattle.booth_journal.specs.declared.said.Call.TheVariants as calls
use Rattle.booth_journal.specs.Lines.{answer_text}
use Rattle.booth_journal.specs.Says.{Said, lines_saying}
use Rattle.booth_node.specs.declared.node_config.NodeConfig.{NodeConfig}
use Rattle.booth_node.specs.Opening.{opened}
use Rattle.booth_node.specs.Session.{Doing, Starts}
use Rattle.booth_audit.specs.Course.{kept_calls, start_on}
use Rattle.booth_audit.specs.Demand.{is_call}
use Rattle.booth_audit.specs.Faults.{answer_line}
use Rattle.booth_audit.specs.Left.{found_answer}
use Rattle.booth_audit.specs.Replay.{Going, replayed, with_event}

-- These calls read the records of these tickets, one after the other, and the other calls are left.
abbrev pub AreRead : List TicketConf → List (Option Record) → List Said → List Said → Type 0
AreRead [] [] left more = left ≡ more
AreRead (ticket ∷ tickets) (found ∷ records) left more =
    (said : Said) × (others : List Said) × (left ≡ said ∷ others)
    × (is_call (calls.Kept ticket.name) said.call ≡ true) × (said.answer ≡ Some (found_answer (Ok found)))
    × AreRead tickets records others more
AreRead tickets records left more = ⊥

-- The content of a line, if these calls begin at the first line.
abbrev pub line_at : ℕ → List Said → ℕ → Option (List ℕ)
line_at first left line = slice_get (flat_map lines_saying left) (line - first)

-- The line of the last read, if `count` reads begin at the line `first`.
abbrev pub last_read : ℕ → ℕ → ℕ
last_read count first = first + 2 * count - 2

-- A start whose reads begin at this line has the line of its last read. `answer_line` is the line of the answer with
-- the record of the ticket with this index.
abbrev pub StartsHaveLines : Type 0
StartsHaveLines =
    (node : NodeConfig) (reading first : ℕ) (records : List (Option Record)) (left more : List Said)
    → AreRead node.config.tickets records left more
    → (start_on node reading [] (kept_calls node.config.tickets) first left
    ≡ with_event (record { what = Starts node reading records; line = last_read (length node.config.tickets) first })
    (replayed node (Going (Doing node (Ends (opened node records reading))))
    (first + 2 * length node.config.tickets) more))
    × ((place : ℕ) (found : Option Record) → slice_get records place ≡ Some found
    → line_at first left
    (answer_line (length node.config.tickets) place (last_read (length node.config.tickets) first))
    ≡ Some (answer_text (found_answer (Ok found))))
