-- The tickets of a configuration by their names and places, and the ranks of its sites.
use Rattle.std.specs.Prelude.{ℕ, Bool, ◌&&◌, ◌||◌, ◌==◌, nat_lt, List, count_by, slice_index, slice_get, bytes_eq, []}
use Rattle.std.specs.List.{enumerate_from}
use Rattle.std.specs.Option.{option_map_or}
use Rattle.booth_conf.specs.declared.members.Member.{Member}
use Rattle.booth_conf.specs.declared.tickets.TicketConf.{TicketConf}

abbrev pub ticket_name : TicketConf → List ℕ
ticket_name t = t.name

-- the ticket with this name
abbrev pub is_called : List ℕ → TicketConf → Bool
is_called name t = bytes_eq name t.name

-- RANKS

-- a site of greater weight, or of equal weight and earlier in the file
abbrev pub comes_before : List ℕ → ℕ → ℕ × Member → Bool
comes_before weights member other =
    other.1.site
    && (nat_lt (slice_index weights member) (slice_index weights other.0)
    || (slice_index weights other.0 == slice_index weights member && nat_lt other.0 member))

-- the weights of the ticket at this place
abbrev pub weights_at : List TicketConf → ℕ → List ℕ
weights_at tickets place = option_map_or (λ t. t.weights.items) (slice_get tickets place) []

-- how many sites come before this one
abbrev pub rank_of : List Member → List ℕ → ℕ → ℕ
rank_of members weights member = count_by (comes_before weights member) (enumerate_from 0 members)
