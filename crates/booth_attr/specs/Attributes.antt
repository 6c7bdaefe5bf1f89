-- The attributes of all tickets, and the effect of a change.
use Rattle.std.specs.Prelude.{◌≡◌, ℕ, ◌+◌, ◌-◌, ◌≤◌, Bool, not, ◌&&◌, ◌||◌, ◌==◌, nat_le, List, [], length, replicate, slice_index_or, slice_set, if◌then◌else◌}
use Rattle.std.specs.List.{sum_by}
use Rattle.booth_attr.specs.declared.pair.Pair.{Pair}
use Rattle.booth_attr.specs.declared.attrs.TheConstants.{ATTRIBUTES, TICKET_NAMES}
use Rattle.booth_attr.specs.declared.attrs.SetAnswer.{SetAnswer}
use Rattle.booth_attr.specs.declared.attrs.SetAnswer.TheVariants as set
use Rattle.booth_attr.specs.declared.attrs.DelAnswer.{DelAnswer}
use Rattle.booth_attr.specs.declared.attrs.DelAnswer.TheVariants as del
use Rattle.booth_attr.specs.Lists.{has_name, AttributeList, with_value, without}

-- The list of each ticket, and how many more attributes fit in all.
pub record Attributes : Type 0 where
  pub lists : List (List Pair)
  pub spare : ℕ

-- the attributes of this ticket
abbrev pub pairs_of : Attributes → ℕ → List Pair
pairs_of all ticket = slice_index_or all.lists ticket []

-- Each ticket has an attribute list of at most 64, and there is room for 512 in all.
pub record AreSound (all : Attributes) : Type 0 where
  pub distinct : (ticket : ℕ) → AttributeList (pairs_of all ticket)
  pub few : (ticket : ℕ) → length (pairs_of all ticket) ≤ TICKET_NAMES
  pub whole : sum_by length all.lists + all.spare ≡ ATTRIBUTES

-- no attributes, for this many tickets
abbrev pub no_attributes : ℕ → Attributes
no_attributes tickets = record { lists = replicate tickets []; spare = ATTRIBUTES }

-- the name is new, and the ticket or the pool has no room for it
abbrev pub is_full : Attributes → ℕ → List ℕ → Bool
is_full all ticket name =
    not (has_name name (pairs_of all ticket))
    && (nat_le TICKET_NAMES (length (pairs_of all ticket)) || all.spare == 0)

-- the name has this value afterwards
abbrev pub with_attribute : Attributes → ℕ → List ℕ → List ℕ → Attributes
with_attribute all ticket name value = record {
  lists = slice_set all.lists ticket (with_value name value (pairs_of all ticket));
  spare = if has_name name (pairs_of all ticket) then all.spare else all.spare - 1;
}

-- an existing name is removed
abbrev pub without_attribute : Attributes → ℕ → List ℕ → Attributes
without_attribute all ticket name = record {
  lists = slice_set all.lists ticket (without name (pairs_of all ticket));
  spare = all.spare + 1;
}

-- the answer of `set`, and the attributes after it
abbrev pub set_answer : Attributes → ℕ → List ℕ → SetAnswer
set_answer all ticket name = if is_full all ticket name then set.Full else set.Done

abbrev pub after_set : Attributes → ℕ → List ℕ → List ℕ → Attributes
after_set all ticket name value =
    if is_full all ticket name then all else with_attribute all ticket name value

-- the answer of `delete`, and the attributes after it
abbrev pub del_answer : Attributes → ℕ → List ℕ → DelAnswer
del_answer all ticket name = if has_name name (pairs_of all ticket) then del.Done else del.NoSuch

abbrev pub after_delete : Attributes → ℕ → List ℕ → Attributes
after_delete all ticket name =
    if has_name name (pairs_of all ticket) then without_attribute all ticket name else all
