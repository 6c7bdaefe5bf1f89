-- The line of a setting is read as that setting.
use Rattle.std.proofs.Common.{◌≡◌, ◌==◌, ◌≤◌, ℕ, Bool, true, false, not, ◌&&◌, List, ◌++◌, length, Option, Some, None, refl, ap, ◌∙◌, sym}
use Rattle.std.specs.Prelude.{is_some, option_map, codes}
use Rattle.booth_base.specs.Address.{printed as address_text, id_of}
use Rattle.booth_conf.specs.Keys.{row_of}
use Rattle.booth_conf.specs.Values.{in_scope, setting_of, member_at}
use Rattle.booth_conf.specs.ValueReader.{setting_in}
use Rattle.booth_conf.specs.SaidReader.{said}
use Rattle.booth_conf.specs.Rules.{Summary, clash, placed_clash, open_section, said_fault, is_of_ticket}
use Rattle.booth_conf.specs.Print.{setting_name, setting_value, setting_line, written, role_name, entry_value}
use Rattle.booth_conf.specs.Sound.{is_sayable, is_member, is_address, is_ticket_name}
use Rattle.booth_conf.specs.SoundDraft.{is_of, is_entry}
use Rattle.booth_conf.specs.declared.keys.ConfKey.{ConfKey}
use Rattle.booth_conf.specs.declared.keys.ConfKey.TheVariants as keys
use Rattle.booth_conf.specs.declared.keys.Form.{Form}
use Rattle.booth_conf.specs.declared.keys.Form.TheVariants as forms
use Rattle.booth_conf.specs.declared.keys.Scope.{Scope}
use Rattle.booth_conf.specs.declared.keys.Scope.TheVariants as scopes
use Rattle.booth_conf.specs.declared.members.Member.{Member as MemberOf}
use Rattle.booth_conf.specs.declared.settings.Value.{Value}
use Rattle.booth_conf.specs.declared.settings.Value.TheVariants as values
use Rattle.booth_conf.specs.declared.settings.Value.TheVariants.{Address, Name}
use Rattle.booth_conf.specs.declared.settings.Entry.{Entry}
use Rattle.booth_conf.specs.declared.settings.Setting.{Setting}
use Rattle.booth_conf.specs.declared.settings.Setting.TheVariants.{File, Member, Ticket, Defaults, Of}
use Rattle.booth_conf.specs.declared.line_meaning.Said.TheVariants.{Pair}
use Rattle.booth_conf.proofs.KeyLemmas.{both_true, short_form}
use Rattle.booth_conf.proofs.LineAgain.{key_said}
use Rattle.booth_conf.proofs.ValueAgain.{ticket_sayable}
use Rattle.booth_conf.proofs.AddressAgain.{address_again, address_sayable, member_again}
use Rattle.booth_conf.proofs.FormAgain.{form_again, text_most, text_stands}

-- EACH SETTING

-- a form whose values are kept with their keys
abbrev pub is_plain : Form → Bool
is_plain forms.Address = false
is_plain forms.TicketName = false
is_plain form = true

abbrev pub is_file_key : ConfKey → Bool
is_file_key key = not (is_of_ticket (row_of key).scope) && is_plain (row_of key).form

abbrev pub is_ticket_key : ConfKey → Bool
is_ticket_key key = is_of_ticket (row_of key).scope && is_plain (row_of key).form

abbrev pub is_file_entry : Entry → Bool
is_file_entry e = is_file_key e.key && is_entry e

abbrev pub is_ticket_entry : Entry → Bool
is_ticket_entry e = is_ticket_key e.key && is_entry e

-- a setting of which a line can be printed
abbrev pub is_printed : Setting → Bool
is_printed (File e) = is_file_entry e
is_printed (Member m) = is_member m
is_printed (Ticket name) = is_ticket_name name
is_printed Defaults = false
is_printed (Of e) = is_ticket_entry e

abbrev pub role_key : Bool → ConfKey
role_key true = keys.Site
role_key false = keys.Arbitrator

-- the key of a setting
abbrev pub key_of : Setting → ConfKey
key_of (File e) = e.key
key_of (Member m) = role_key m.site
key_of (Ticket name) = keys.Ticket
key_of Defaults = keys.Ticket
key_of (Of e) = e.key

-- what is read of the line of a setting
pub record IsRead (s : Setting) : Type 0 where
  pub name : setting_name s ≡ (row_of (key_of s)).name
  pub sayable : is_sayable (setting_value s) ≡ true
  pub reads : setting_in (key_of s) (setting_value s) ≡ Some s

pub line_said : (s : Setting) → IsRead s → said (setting_line s) ≡ Pair (key_of s) (Some s)
line_said s r =
    ap (λ n. said (n ++ (codes " = " ++ written (setting_value s)))) r.name
    ∙ key_said (key_of s) (setting_value s) s r.sayable r.reads

-- ENTRIES

kept_with : (key : ConfKey) (value : Value) (form : Form) → is_plain form ≡ true → is_of form value ≡ true →
    setting_of key value ≡ in_scope (row_of key).scope (record { key = key; value = value })
kept_with key (Address a) forms.Address p h = cc
kept_with key (Address a) form p h = cc
kept_with key (Name n) forms.TicketName p h = cc
kept_with key (Name n) form p h = cc
kept_with key values.Defaults forms.TicketName p h = cc
kept_with key values.Defaults form p h = cc
kept_with key value form p h = refl

file_scope : (scope : Scope) (e : Entry) → not (is_of_ticket scope) ≡ true → in_scope scope e ≡ File e
file_scope scopes.File e h = refl
file_scope scopes.Ticket e h = cc

ticket_scope : (scope : Scope) (e : Entry) → is_of_ticket scope ≡ true → in_scope scope e ≡ Of e
ticket_scope scopes.File e h = cc
ticket_scope scopes.Ticket e h = refl

entry_again : (e : Entry) → is_plain (row_of e.key).form ≡ true → is_entry e ≡ true →
    setting_in e.key (entry_value e) ≡ Some (in_scope (row_of e.key).scope e)
entry_again e p h =
    ap (option_map (setting_of e.key)) (form_again (row_of e.key).form e.value (short_form e.key) h)
    ∙ ap (λ s. Some s) (kept_with e.key e.value (row_of e.key).form p h)

-- the text of an entry can stand on a line, and is short
pub entry_stands : (e : Entry) → is_entry e ≡ true →
    (is_sayable (entry_value e) ≡ true) × (length (entry_value e) ≤ text_most (row_of e.key).form)
entry_stands e h = text_stands (row_of e.key).form e.value (short_form e.key) h

file_read : (e : Entry) → is_file_entry e ≡ true → IsRead (File e)
file_read e h =
    let b = both_true (is_file_key e.key) (is_entry e) h in
    let k = both_true (not (is_of_ticket (row_of e.key).scope)) (is_plain (row_of e.key).form) b.0 in
    record { name = refl; sayable = (entry_stands e b.1).0; reads = entry_again e k.1 b.1 ∙ ap (λ s. Some s) (file_scope (row_of e.key).scope e k.0) }

ticket_read : (e : Entry) → is_ticket_entry e ≡ true → IsRead (Of e)
ticket_read e h =
    let b = both_true (is_ticket_key e.key) (is_entry e) h in
    let k = both_true (is_of_ticket (row_of e.key).scope) (is_plain (row_of e.key).form) b.0 in
    record { name = refl; sayable = (entry_stands e b.1).0; reads = entry_again e k.1 b.1 ∙ ap (λ s. Some s) (ticket_scope (row_of e.key).scope e k.0) }

-- MEMBERS AND TICKETS

role_name_is : (site : Bool) → role_name site ≡ (row_of (role_key site)).name
role_name_is true = refl
role_name_is false = refl

member_read_at : (site : Bool) (m : MemberOf) → m.site ≡ site → is_member m ≡ true →
    setting_in (role_key site) (address_text m.address) ≡ Some (Member m)
member_read_at true m e h =
    let b = both_true (is_address m.address) (m.id.0 == id_of m.address) h in
    ap (λ o. option_map (setting_of keys.Site) (option_map Address o)) (address_again m.address b.0)
    ∙ ap (λ s. Some (Member (member_at s m.address))) (sym e)
    ∙ ap (λ x. Some (Member x)) (member_again m h)
member_read_at false m e h =
    let b = both_true (is_address m.address) (m.id.0 == id_of m.address) h in
    ap (λ o. option_map (setting_of keys.Arbitrator) (option_map Address o)) (address_again m.address b.0)
    ∙ ap (λ s. Some (Member (member_at s m.address))) (sym e)
    ∙ ap (λ x. Some (Member x)) (member_again m h)

member_read : (m : MemberOf) → is_member m ≡ true → IsRead (Member m)
member_read m h =
    let b = both_true (is_address m.address) (m.id.0 == id_of m.address) h in
    record { name = role_name_is m.site; sayable = address_sayable m.address b.0; reads = member_read_at m.site m refl h }

name_read : (name : List ℕ) → is_ticket_name name ≡ true → IsRead (Ticket name)
name_read name h = record {
  name = refl;
  sayable = ticket_sayable name h;
  reads = ap (option_map (setting_of keys.Ticket)) (form_again forms.TicketName (Name name) refl h);
}

pub setting_read : (s : Setting) → is_printed s ≡ true → IsRead s
setting_read (File e) h = file_read e h
setting_read (Member m) h = member_read m h
setting_read (Ticket name) h = name_read name h
setting_read Defaults h = cc
setting_read (Of e) h = ticket_read e h

-- NO FAULT

not_true : (b : Bool) → not b ≡ true → b ≡ false
not_true true h = cc
not_true false h = refl

file_fine : (d : Summary) (e : Entry) → is_file_entry e ≡ true → clash d (File e) ≡ None →
    said_fault d (Pair e.key (Some (File e))) ≡ None
file_fine d e w h =
    let b = both_true (is_file_key e.key) (is_entry e) w in
    let k = both_true (not (is_of_ticket (row_of e.key).scope)) (is_plain (row_of e.key).form) b.0 in
    let f : is_of_ticket (row_of e.key).scope ≡ false = not_true (is_of_ticket (row_of e.key).scope) k.0 in
    rw f h

member_fine : (d : Summary) (m : MemberOf) (site : Bool) → clash d (Member m) ≡ None →
    said_fault d (Pair (role_key site) (Some (Member m))) ≡ None
member_fine d m true h = h
member_fine d m false h = h

section_placed : (e : Entry) (o : Option (List Entry)) → placed_clash o e ≡ None → is_some o ≡ true
section_placed e None h = cc
section_placed e (Some section) h = refl

ticket_fine : (d : Summary) (e : Entry) → is_ticket_entry e ≡ true → clash d (Of e) ≡ None →
    said_fault d (Pair e.key (Some (Of e))) ≡ None
ticket_fine d e w h =
    let b = both_true (is_ticket_key e.key) (is_entry e) w in
    let k = both_true (is_of_ticket (row_of e.key).scope) (is_plain (row_of e.key).form) b.0 in
    let placed : is_some (open_section d.defaults d.tickets) ≡ true =
    section_placed e (open_section d.defaults d.tickets) h in
    rw (k.0, placed) h

-- a setting that does not clash makes no fault of its line
pub setting_fine : (d : Summary) (s : Setting) → is_printed s ≡ true → clash d s ≡ None →
    said_fault d (Pair (key_of s) (Some s)) ≡ None
setting_fine d (File e) w h = file_fine d e w h
setting_fine d (Member m) w h = member_fine d m m.site h
setting_fine d (Ticket name) w h = h
setting_fine d Defaults w h = h
setting_fine d (Of e) w h = ticket_fine d e w h
