-- The log lines for a call, given what is known before it; and what is known after it. Together they give all lines
-- for a list of calls, from a start at which nothing is known.
use Rattle.std.specs.Prelude.{ℕ, ℤ, true, false, pos, List, [], ◌∷◌, ◌++◌, length, Option, None, Some, Result, Ok, Err, option_map, if◌then◌else◌}
use Rattle.std.specs.Ordering.{int_eq}
use Rattle.booth_host.specs.declared.entry.Entry.{Entry}
use Rattle.booth_host.specs.declared.entry.Entry.TheVariants.{Open, Next, Kept, Keep, Start}
use Rattle.booth_host.specs.declared.host.Arrival.{Arrival}
use Rattle.booth_host.specs.declared.host.Arrival.TheVariants.{Handler}
use Rattle.booth_host.specs.declared.host.Failed.{Failed}
use Rattle.booth_rec.specs.declared.record.Lease.{Lease}
use Rattle.booth_rec.specs.declared.record.Record.{Record}
use Rattle.booth_log.specs.declared.happening.Ending.{Ending}
use Rattle.booth_log.specs.declared.happening.Ending.TheVariants as endings
use Rattle.booth_log.specs.declared.happening.Happening.{Happening}
use Rattle.booth_log.specs.declared.happening.Happening.TheVariants.{Begins}
use Rattle.booth_log.specs.declared.seen.Seen.{Seen}
use Rattle.booth_log.specs.Known.{known_of, stored, ticket_of}
use Rattle.booth_log.specs.Happenings.{lease_change}
use Rattle.booth_log.specs.Texts.{line, begins_text, ready_text, of_ticket, happening_text, unstarted_text, status_text, stray_text}

-- the line of a text, if there is one
abbrev pub line_of : Option (List ℕ) → List (List ℕ)
line_of None = []
line_of (Some text) = line text ∷ []

-- ---- leases

-- the lease of a record that was found, if it has one
abbrev pub found_lease : Option Record → Option Lease
found_lease None = None
found_lease (Some kept) = kept.lease

-- the change of a ticket's lease
abbrev pub lease_lines : List ℕ → Option Happening → List (List ℕ)
lease_lines ticket happens = line_of (option_map (λ h. of_ticket ticket (happening_text h)) happens)

abbrev pub ending_of : Result (Unit {0}) Failed → Ending
ending_of (Ok done) = endings.Kept
ending_of (Err fault) = endings.Failed

-- the lines for a write of a record
abbrev pub keep_lines : Seen → List ℕ → Record → Result (Unit {0}) Failed → List (List ℕ)
keep_lines seen ticket kept answer =
    lease_lines ticket (lease_change (known_of seen.tickets ticket).lease kept.lease (ending_of answer))

-- ---- handlers

-- the handler of a job ended with a status other than 0
abbrev pub ended_text : Option (List ℕ) → ℕ → ℤ → List ℕ
ended_text (Some ticket) job status = of_ticket ticket (status_text status)
ended_text None job status = stray_text job status

abbrev pub ended_lines : Seen → ℕ → ℤ → List (List ℕ)
ended_lines seen job status =
    if int_eq status (pos 0) then [] else line (ended_text (ticket_of seen.tickets job) job status) ∷ []

abbrev pub arrival_lines : Seen → Result Arrival Failed → List (List ℕ)
arrival_lines seen (Ok (Handler job status)) = ended_lines seen job status
arrival_lines seen answer = []

-- the first wait ends the opening: this many records were read
abbrev pub opening_lines : Seen → List (List ℕ)
opening_lines seen = if seen.is_opening then line (ready_text (length seen.tickets)) ∷ [] else []

-- ---- calls

-- the lines for a call
abbrev pub lines_of : Seen → Entry → List (List ℕ)
lines_of seen (Open local port records conf_path (Ok done)) = line (begins_text local port records conf_path) ∷ []
lines_of seen (Kept ticket (Ok found)) = lease_lines ticket (option_map Begins (found_lease found))
lines_of seen (Keep ticket kept answer) = keep_lines seen ticket kept answer
lines_of seen (Start number ticket handler local expires (Err fault)) = line (of_ticket ticket unstarted_text) ∷ []
lines_of seen (Next wait answer bytes) = opening_lines seen ++ arrival_lines seen answer
lines_of seen call = []

abbrev pub with_lease : Seen → List ℕ → Option Lease → Seen
with_lease seen ticket lease = record seen {
  tickets = stored seen.tickets ticket (record (known_of seen.tickets ticket) { lease = lease });
}

abbrev pub with_job : Seen → List ℕ → ℕ → Seen
with_job seen ticket number = record seen {
  tickets = stored seen.tickets ticket (record (known_of seen.tickets ticket) { job = Some number });
}

-- what is known after a call: after a write that failed, the record before it may be in force, and counts
abbrev pub after : Seen → Entry → Seen
after seen (Open local port records conf_path (Ok done)) = record seen { is_opening = true }
after seen (Kept ticket (Ok found)) = with_lease seen ticket (found_lease found)
after seen (Keep ticket kept (Ok done)) = with_lease seen ticket kept.lease
after seen (Start number ticket handler local expires (Ok done)) = with_job seen ticket number
after seen (Next wait answer bytes) = record seen { is_opening = false }
after seen call = seen

-- before the first call nothing is known
abbrev pub at_first : Seen
at_first = record { tickets = []; is_opening = false }
