-- The settings of a text's lines, and the first line that is not allowed at its place.
use Rattle.std.specs.Prelude.{◌≡◌, ◌<◌, ℕ, Bool, true, false, not, ◌&&◌, nat_lt, List, [], ◌∷◌, ◌++◌, length, take, map, Option, Some, None, is_some, if◌then◌else◌, slice_index_or, bytes_eq}
use Rattle.std.specs.List.{list_any, filter_map}
use Rattle.booth_base.specs.declared.address.Address.{Address}
use Rattle.booth_base.specs.contracts.address.AddressPartialEq.TheImpl as addresses
use Rattle.booth_conf.specs.Keys.{row_of, number_of}
use Rattle.booth_conf.specs.Sections.{inherited, entry_clash}
use Rattle.booth_conf.specs.declared.limits.TheConstants.{TICKETS}
use Rattle.booth_base.specs.declared.limits.TheConstants.{MEMBERS}
use Rattle.booth_conf.specs.declared.keys.ConfKey.{ConfKey}
use Rattle.booth_conf.specs.declared.keys.Scope.{Scope}
use Rattle.booth_conf.specs.declared.keys.Scope.TheVariants as scopes
use Rattle.booth_conf.specs.declared.members.Member.{Member as MemberOf}
use Rattle.booth_conf.specs.declared.sections.NamedSection.{NamedSection}
use Rattle.booth_conf.specs.declared.settings.Entry.{Entry}
use Rattle.booth_conf.specs.declared.settings.Setting.{Setting}
use Rattle.booth_conf.specs.declared.settings.Setting.TheVariants.{File, Member, Ticket, Defaults, Of}
use Rattle.booth_conf.specs.declared.line_meaning.Said.{Said}
use Rattle.booth_conf.specs.declared.line_meaning.Said.TheVariants.{Empty, Broken, Unknown, Pair}
use Rattle.booth_conf.specs.declared.faults.LineFault.{LineFault}
use Rattle.booth_conf.specs.declared.faults.LineFault.TheVariants.{Syntax, UnknownKey, Misplaced, BadValue, Repeated, DefaultLate, TooMany}

-- THE SETTINGS OF A TEXT

-- the setting of a line, if it has one
abbrev pub setting_said : Said → Option Setting
setting_said (Pair key setting) = setting
setting_said line = None

abbrev pub settings : List Said → List Setting
settings lines = filter_map setting_said lines

-- THE TOP PART: the keys of the whole file, at any place
abbrev pub file_in : Setting → Option Entry
file_in (File e) = Some e
file_in s = None

abbrev pub member_in : Setting → Option MemberOf
member_in (Member m) = Some m
member_in s = None

-- THE PARTS: the keys of tickets, up to the next ticket. (`__default__` comes before all of them.)
abbrev pub own : List Setting → List Entry
own [] = []
own (Ticket n ∷ ss) = []
own (Of e ∷ ss) = e ∷ own ss
own (s ∷ ss) = own ss

-- a ticket's name and the keys below its line
pub record OwnKeys : Type 0 where
  pub name : List ℕ
  pub keys : List Entry

-- the section of each ticket
abbrev pub owns : List Setting → List OwnKeys
owns [] = []
owns (Ticket n ∷ ss) = record { name = n; keys = own ss } ∷ owns ss
owns (s ∷ ss) = owns ss

-- the section of `__default__`, if it comes before each ticket
abbrev pub default_own : List Setting → Option (List Entry)
default_own [] = None
default_own (Defaults ∷ ss) = Some (own ss)
default_own (Ticket n ∷ ss) = None
default_own (s ∷ ss) = default_own ss

-- the part of `__default__` that each ticket inherits: its prerequisites
abbrev pub prereqs_of : Option (List Entry) → List Entry
prereqs_of None = []
prereqs_of (Some section) = inherited section

-- a ticket's section: inherited entries come first
abbrev pub named_section : List Entry → OwnKeys → NamedSection
named_section prereqs own = record { name = own.name; section = prereqs ++ own.keys }

pub record Summary : Type 0 where
  pub top : List Entry
  pub members : List MemberOf
  pub defaults : Option (List Entry)
  pub tickets : List NamedSection

-- the summary of all settings
abbrev pub summary : List Setting → Summary
summary ss = record {
  top = filter_map file_in ss;
  members = filter_map member_in ss;
  defaults = default_own ss;
  tickets = map (named_section (prereqs_of (default_own ss))) (owns ss);
}

-- FAULTS of one more setting

-- the member has this address, however it was written: `==` of the type
abbrev pub is_at : Address → MemberOf → Bool
is_at address member = addresses.eq-value.it address member.address

abbrev pub has_name : List ℕ → NamedSection → Bool
has_name name ticket = bytes_eq name ticket.name

abbrev pub name_of : NamedSection → List ℕ
name_of ticket = ticket.name

-- the section to which a ticket's key belongs: the last ticket's, or else the section of `__default__`
abbrev pub open_section : Option (List Entry) → List NamedSection → Option (List Entry)
open_section defaults [] = defaults
open_section defaults (t ∷ []) = Some t.section
open_section defaults (t ∷ u ∷ ts) = open_section defaults (u ∷ ts)

abbrev pub placed_clash : Option (List Entry) → Entry → Option LineFault
placed_clash None e = Some Misplaced
placed_clash (Some section) e = entry_clash section e

abbrev pub below : ℕ → ℕ → Option LineFault
below count most = if nat_lt count most then None else Some TooMany

abbrev pub or_below : Bool → ℕ → ℕ → Option LineFault
or_below given count most = if given then Some Repeated else below count most

abbrev pub clash : Summary → Setting → Option LineFault
clash d (File e) = entry_clash d.top e
clash d (Member m) = or_below (list_any (is_at m.address) d.members) (length d.members) MEMBERS
clash d (Ticket n) = or_below (list_any (has_name n) d.tickets) (length d.tickets) TICKETS
clash d Defaults =
    if is_some d.defaults then Some Repeated
    else (if nat_lt 0 (length d.tickets) then Some DefaultLate else None)
clash d (Of e) = placed_clash (open_section d.defaults d.tickets) e

-- the faults of a line, in the order in which they are reported

abbrev pub value_fault : ConfKey → Summary → Option Setting → Option LineFault
value_fault key d None = Some (BadValue (number_of key))
value_fault key d (Some s) = clash d s

abbrev pub is_of_ticket : Scope → Bool
is_of_ticket scopes.File = false
is_of_ticket scopes.Ticket = true

abbrev pub is_misplaced : ConfKey → Summary → Bool
is_misplaced key d =
    is_of_ticket (row_of key).scope && not (is_some (open_section d.defaults d.tickets))

abbrev pub said_fault : Summary → Said → Option LineFault
said_fault d Empty = None
said_fault d Broken = Some Syntax
said_fault d Unknown = Some UnknownKey
said_fault d (Pair key setting) =
    if is_misplaced key d then Some Misplaced else value_fault key d setting

-- the fault of a line after these lines
abbrev pub line_fault : List Said → Said → Option LineFault
line_fault before line = said_fault (summary (settings before)) line

-- line n, counted from 0, is the first with a fault
pub record IsFirstFault (lines : List Said) (n : ℕ) (fault : LineFault) : Type 0 where
  pub within : n < length lines
  pub here : line_fault (take n lines) (slice_index_or lines n Empty) ≡ Some fault
  pub earlier : (m : ℕ) → m < n → line_fault (take m lines) (slice_index_or lines m Empty) ≡ None

-- no line has a fault
abbrev pub AreFine : List Said → Type 0
AreFine lines =
    (m : ℕ) → m < length lines → line_fault (take m lines) (slice_index_or lines m Empty) ≡ None
