-- The records that a member may have written for each ticket, noted during the replay of its journal.
use Rattle.std.proofs.Common.{zero, suc}
use Rattle.std.specs.Prelude.{◌≡◌, ℕ, List, [], ◌∷◌, map, position, slice_get, Option, None, Some, is_ok}
use Rattle.booth_conf.specs.Lookups.{is_called}
use Rattle.booth_conf.specs.declared.tickets.TicketConf.{TicketConf}
use Rattle.booth_host.specs.declared.entry.Entry.TheVariants as entries
use Rattle.booth_node.specs.declared.node_config.NodeConfig.{NodeConfig}
use Rattle.booth_node.specs.Records.{may_after_all, may_after_keep}
use Rattle.booth_node.specs.Session.{AreSessions, CutKeep, Down, IsCut, Makes, SessionEntry, Starts}
use Rattle.booth_rec.specs.declared.record.Record.{Record}
use Rattle.booth_rec.specs.Record.{no_record, record_or_none}
use Rattle.booth_audit.specs.Own.{AllOwn}

-- The records before any entry: a member has no record of any ticket.
abbrev pub first_may : List TicketConf → List (List Record)
first_may tickets = map (λ (conf : TicketConf). no_record ∷ []) tickets

-- The records after a start: for each ticket, only the record that was read.
abbrev pub read_may : List (Option Record) → List (List Record)
read_may records = map (λ (found : Option Record). record_or_none found ∷ []) records

abbrev pub change_at : ℕ → (List Record → List Record) → List (List Record) → List (List Record)
change_at place change [] = []
change_at zero change (may ∷ others) = change may ∷ others
change_at (suc place) change (may ∷ others) = may ∷ change_at place change others

-- The records with a change for the ticket with this index, if there is such a ticket.
abbrev pub change_if : Option ℕ → (List Record → List Record) → List (List Record) → List (List Record)
change_if None change all = all
change_if (Some place) change all = change_at place change all

-- The records that the member may have written for each ticket, in file order, after one more entry.
abbrev pub may_noted : List TicketConf → List (List Record) → SessionEntry → List (List Record)
may_noted tickets all (Starts node reading records) = read_may records
may_noted tickets all (Makes (entries.Keep name kept answer)) =
    change_if (position (is_called name) tickets) (may_after_keep (is_ok answer) kept) all
may_noted tickets all (IsCut (CutKeep name kept)) =
    change_if (position (is_called name) tickets) (λ (may : List Record). kept ∷ may) all
may_noted tickets all what = all

abbrev pub all_may_noted : List TicketConf → List (List Record) → List SessionEntry → List (List Record)
all_may_noted tickets all [] = all
all_may_noted tickets all (what ∷ more) = all_may_noted tickets (may_noted tickets all what) more

-- If all starts are this member's, the noted records of a ticket are the records that the member may have written.
abbrev pub MayIsNoted : Type 0
MayIsNoted =
    (node : NodeConfig) (place : ℕ) (conf : TicketConf) → slice_get node.config.tickets place ≡ Some conf
    → position (is_called conf.name) node.config.tickets ≡ Some place → (deeds : List SessionEntry)
    → AreSessions Down deeds → AllOwn node deeds
    → slice_get (all_may_noted node.config.tickets (first_may node.config.tickets) deeds) place
    ≡ Some (may_after_all conf.name (no_record ∷ []) deeds)
