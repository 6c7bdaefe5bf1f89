-- What holds while a text is read, before the defaults are filled in.
use Rattle.std.specs.Prelude.{◌≡◌, ◌≤◌, Bool, true, false, ◌&&◌, nat_lt, nat_le, List, [], length, count_by, bytes_eq}
use Rattle.std.specs.List.{list_all, filter_map}
use Rattle.booth_base.specs.declared.limits.TheConstants.{MEMBERS}
use Rattle.booth_conf.specs.Keys.{row_of}
use Rattle.booth_conf.specs.Values.{words_of}
use Rattle.booth_conf.specs.Sections.{has_key, extra_of}
use Rattle.booth_conf.specs.Rules.{Summary}
use Rattle.booth_conf.specs.Sound.{is_within, each, is_text, is_command, is_address, is_member, are_weights, is_prereq, is_ticket_name, are_new, same_key, same_member}
use Rattle.booth_conf.specs.declared.limits.TheConstants.{PREREQS, TICKETS}
use Rattle.booth_conf.specs.declared.keys.ConfKey.TheVariants as keys
use Rattle.booth_conf.specs.declared.keys.Form.{Form}
use Rattle.booth_conf.specs.declared.keys.Form.TheVariants as forms
use Rattle.booth_conf.specs.declared.sections.NamedSection.{NamedSection}
use Rattle.booth_conf.specs.declared.settings.Value.{Value}
use Rattle.booth_conf.specs.declared.settings.Value.TheVariants.{Number, Text, Word, Address, Name, Defaults, Weights, Prereq}
use Rattle.booth_conf.specs.declared.settings.Entry.{Entry}

-- a value that some line can contain, in this form
abbrev pub is_of : Form → Value → Bool
is_of (forms.Number least most) (Number n) = is_within least most n
is_of (forms.Text least) (Text text) = is_text least text
is_of forms.Command (Text text) = is_command text
is_of (forms.OneOf choice) (Word place) = nat_lt place (length (words_of choice))
is_of forms.Address (Address address) = is_address address
is_of forms.TicketName (Name name) = is_ticket_name name
is_of forms.TicketName Defaults = true
is_of forms.Weights (Weights weights) = nat_lt 0 (length weights.items) && are_weights weights.items
is_of forms.Prereq (Prereq prereq) = is_prereq prereq
is_of form value = false

abbrev pub is_entry : Entry → Bool
is_entry e = is_of (row_of e.key).form e.value

-- each entry has its key's form, and there are not too many prerequisites
abbrev pub is_section : List Entry → Bool
is_section section =
    list_all is_entry section && nat_le (count_by (has_key keys.AttrPrereq) section) PREREQS

abbrev pub is_named_section : NamedSection → Bool
is_named_section t = is_ticket_name t.name && is_section t.section

abbrev pub same_section : NamedSection → NamedSection → Bool
same_section t u = bytes_eq t.name u.name

pub record IsSoundDraft (d : Summary) : Type 0 where
  pub top : is_section d.top ≡ true
  pub new_extras : are_new same_key [] (filter_map extra_of d.top) ≡ true
  pub members : list_all is_member d.members ≡ true
  pub new_members : are_new same_member [] d.members ≡ true
  pub few_members : length d.members ≤ MEMBERS
  pub defaults : each is_section d.defaults ≡ true
  pub tickets : list_all is_named_section d.tickets ≡ true
  pub new_tickets : are_new same_section [] d.tickets ≡ true
  pub few_tickets : length d.tickets ≤ TICKETS
