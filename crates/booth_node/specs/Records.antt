-- The records that a member may have written for a ticket, according to its entries.
use Rattle.std.specs.Prelude.{◌≡◌, ◌⊎◌, ℕ, ◌<◌, ◌≤◌, Bool, true, false, List, [], ◌∷◌, slice_get, position, unwrap_or, Option, None, bytes_eq, if◌then◌else◌, is_ok}
use Rattle.std.specs.Option.{option_map_or}
use Rattle.booth_conf.specs.Lookups.{is_called}
use Rattle.booth_conf.specs.declared.tickets.TicketConf.{TicketConf}
use Rattle.booth_rec.specs.declared.record.Record.{Record}
use Rattle.booth_rec.specs.Record.{first_plain, record_or_none}
use Rattle.booth_host.specs.declared.entry.Entry.TheVariants as calls
use Rattle.booth_node.specs.Session.{SessionEntry, Starts, Makes, IsCut, CutKeep}

-- The value is in the list.
abbrev pub Has : {A : Type 0} → List A → A → Type 0
Has [] x = ⊥
Has (y ∷ ys) x = (y ≡ x) ⊎ Has ys x

-- The record that a start read for the ticket with this index.
abbrev pub record_at : List (Option Record) → ℕ → Record
record_at records place = record_or_none (unwrap_or (slice_get records place) None)

-- The records that may have been written after a write. If the write was done, its record is the only one. A write
-- that failed adds its record.
abbrev pub may_after_keep : Bool → Record → List Record → List Record
may_after_keep true rec may = rec ∷ []
may_after_keep false rec may = rec ∷ may

-- The records that may have been written after a start. If its configuration has the ticket with this name, the
-- record that the start read for it is the only one.
abbrev pub may_after_start : List ℕ → List TicketConf → List (Option Record) → List Record → List Record
may_after_start name tickets records may =
    option_map_or (λ place. record_at records place ∷ []) (position (is_called name) tickets) may

-- The records that may have been written after an entry. An interrupted write adds its record.
abbrev pub may_after : List ℕ → List Record → SessionEntry → List Record
may_after name may (Starts node reading records) = may_after_start name node.config.tickets records may
may_after name may (Makes (calls.Keep ticket rec answer)) =
    if bytes_eq ticket name then may_after_keep (is_ok answer) rec may else may
may_after name may (IsCut (CutKeep ticket rec)) = if bytes_eq ticket name then rec ∷ may else may
may_after name may entry = may

abbrev pub may_after_all : List ℕ → List Record → List SessionEntry → List Record
may_after_all name may [] = may
may_after_all name may (entry ∷ entries) = may_after_all name (may_after name may entry) entries

-- The records, with the record of the next entry if that entry is a write for the ticket, whether done, failed or
-- interrupted.
abbrev pub with_next : List ℕ → List Record → List SessionEntry → List Record
with_next name may (Makes (calls.Keep ticket rec answer) ∷ entries) =
    if bytes_eq ticket name then rec ∷ may else may
with_next name may (IsCut (CutKeep ticket rec) ∷ entries) =
    if bytes_eq ticket name then rec ∷ may else may
with_next name may entries = may

-- The records that a member, site or arbitrator, may have written for the ticket with a name, after some of its
-- entries and before others. At first it has the record with which it begins. If its next entry is a write for the
-- ticket, the record of that write already counts. A session whose configuration lacks the ticket reads and writes no
-- record for it.
abbrev pub may_be_kept : List ℕ → Record → List SessionEntry → List SessionEntry → List Record
may_be_kept name first before after = with_next name (may_after_all name (first ∷ []) before) after

-- ---- what a start may read

-- A silent record is a record of version 1 without a lease, so it states no promise. An arbitrator's silent record may
-- have any term, so a missing record is one too. A site's has at least the term of a record that the site may have
-- written. In a smaller term the site may have requested votes or released a lease before, and late messages of that
-- would count again.
pub record IsSilent (site : Bool) (may : List Record) (kept : Record) : Type 0 where
  pub bare : kept ≡ first_plain kept.term None
  pub reaches : site ≡ true → (k : Record) × Has may k × (k.term ≤ kept.term)

-- A start may read a record that its member may have written, or a silent record.
abbrev pub MayRead : Bool → List Record → Record → Type 0
MayRead site may kept = Has may kept ⊎ IsSilent site may kept

-- The member may have written the record, or has a record that it may have written with a smaller term.
abbrev pub GoesOn : List Record → Record → Type 0
GoesOn may kept = Has may kept ⊎ ((k : Record) × Has may k × (k.term < kept.term))
