-- What is known about tickets: the lease in the last record that was read or written, and the last handler that was
-- started.
use Rattle.std.specs.Prelude.{ℕ, ◌==◌, Bool, false, List, [], ◌∷◌, ◌++◌, length, nat_lt, option_map, position, Option, None, Some, unwrap_or, if◌then◌else◌, bytes_eq}
use Rattle.std.specs.List.{find}
use Rattle.std.specs.Map.{keys_of, lookup}
use Rattle.indexmap.specs.Layout.{set_value_at}
use Rattle.booth_conf.specs.declared.limits.TheConstants.{TICKETS}
use Rattle.booth_log.specs.declared.known.Known.{Known}

-- about a ticket that was not seen yet, no lease and no handler is known
abbrev pub unknown : Known
unknown = record { lease = None; job = None }

-- what is known about the ticket with this name
abbrev pub known_of : List (List ℕ × Known) → List ℕ → Known
known_of tickets name = unwrap_or (lookup (bytes_eq name) tickets) unknown

-- the place of a ticket among those seen so far
abbrev pub place_of : List (List ℕ × Known) → List ℕ → Option ℕ
place_of tickets name = position (bytes_eq name) (keys_of tickets)

abbrev pub stored_at : List (List ℕ × Known) → List ℕ → Known → Option ℕ → List (List ℕ × Known)
stored_at tickets name known None =
    if nat_lt (length tickets) TICKETS then tickets ++ (name, known) ∷ [] else tickets
stored_at tickets name known (Some place) = set_value_at tickets place known

-- the tickets, with what is known about this one now; there is room for every ticket of a configuration
abbrev pub stored : List (List ℕ × Known) → List ℕ → Known → List (List ℕ × Known)
stored tickets name known = stored_at tickets name known (place_of tickets name)

abbrev pub is_number : ℕ → Option ℕ → Bool
is_number number None = false
is_number number (Some job) = job == number

abbrev pub has_job : ℕ → Known → Bool
has_job number known = is_number number known.job

-- the ticket whose last handler has this number
abbrev pub ticket_of : List (List ℕ × Known) → ℕ → Option (List ℕ)
ticket_of tickets number = option_map (λ pair. pair.0) (find (λ pair. has_job number pair.1) tickets)
