-- The text of a configuration: one line for each key, as `key = value`.
use Rattle.std.specs.Prelude.{ℕ, Bool, true, false, ◌==◌, ◌/◌, List, [], ◌∷◌, ◌++◌, map, flat_map, Option, Some, None, option_map, unwrap_or, slice_get, if◌then◌else◌, codes, decimal}
use Rattle.std.specs.List.{list_all}
use Rattle.std.specs.Option.{option_map_or}
use Rattle.booth_base.specs.Address.{printed as address_text}
use Rattle.booth_base.specs.declared.times.Times.{Times}
use Rattle.booth_keys.specs.declared.ring.Hash.{Hash}
use Rattle.booth_keys.specs.declared.ring.Hash.TheVariants.{Sha1, Sha256}
use Rattle.booth_conf.specs.Grammar.{is_other}
use Rattle.booth_conf.specs.Keys.{row_of, key_numbered}
use Rattle.booth_conf.specs.Values.{default_name, words_of}
use Rattle.booth_conf.specs.Config.{ConfigSays}
use Rattle.booth_conf.specs.declared.keys.Choice.{Choice}
use Rattle.booth_conf.specs.declared.keys.ConfKey.{ConfKey}
use Rattle.booth_conf.specs.declared.keys.ConfKey.TheVariants as keys
use Rattle.booth_conf.specs.declared.keys.Form.{Form}
use Rattle.booth_conf.specs.declared.keys.Form.TheVariants.{OneOf}
use Rattle.booth_conf.specs.declared.keys.KeyNo.{KeyNo}
use Rattle.booth_conf.specs.declared.tickets.GrantKind.{GrantKind}
use Rattle.booth_conf.specs.declared.tickets.GrantKind.TheVariants.{Auto, Manual}
use Rattle.booth_conf.specs.declared.tickets.Prereq.{Prereq as PrereqOf}
use Rattle.booth_conf.specs.declared.tickets.TicketConf.{TicketConf}
use Rattle.booth_conf.specs.declared.settings.Value.{Value}
use Rattle.booth_conf.specs.declared.settings.Value.TheVariants as values
use Rattle.booth_conf.specs.declared.settings.Value.TheVariants.{Number, Text, Word, Address, Name, Weights, Prereq}
use Rattle.booth_conf.specs.declared.settings.Entry.{Entry}
use Rattle.booth_conf.specs.declared.settings.Setting.{Setting}
use Rattle.booth_conf.specs.declared.settings.Setting.TheVariants.{File, Member, Ticket, Defaults, Of}

-- A SETTING AS A LINE

abbrev pub role_name : Bool → List ℕ
role_name true = (row_of keys.Site).name
role_name false = (row_of keys.Arbitrator).name

abbrev pub kind_word : GrantKind → List ℕ
kind_word Auto = codes "auto"
kind_word Manual = codes "manual"

abbrev pub test_word : Bool → List ℕ
test_word true = codes "eq"
test_word false = codes "ne"

-- four words with one space between them
abbrev pub prereq_text : PrereqOf → List ℕ
prereq_text q =
    kind_word q.kind ++ (0x20 ∷ (q.name ++ (0x20 ∷ (test_word q.equal ++ (0x20 ∷ q.value)))))

-- numbers with a comma between them
abbrev pub weights_text : List ℕ → List ℕ
weights_text [] = []
weights_text (n ∷ ns) = decimal n ++ flat_map (λ m. 0x2C ∷ decimal m) ns

abbrev pub word_at : Choice → ℕ → List ℕ
word_at choice place = option_map_or (λ word. word.0) (slice_get (words_of choice) place) []

abbrev pub word_text : Form → ℕ → List ℕ
word_text (OneOf choice) place = word_at choice place
word_text form place = []

-- a value of this form
abbrev pub value_text : Form → Value → List ℕ
value_text form (Number n) = decimal n
value_text form (Text text) = text
value_text form (Word place) = word_text form place
value_text form (Address address) = address_text address
value_text form (Name name) = name
value_text form values.Defaults = default_name
value_text form (Weights weights) = weights_text weights.items
value_text form (Prereq prereq) = prereq_text prereq

abbrev pub entry_name : Entry → List ℕ
entry_name e = (row_of e.key).name

abbrev pub entry_value : Entry → List ℕ
entry_value e = value_text (row_of e.key).form e.value

-- the name of a setting's key
abbrev pub setting_name : Setting → List ℕ
setting_name (File e) = entry_name e
setting_name (Member m) = role_name m.site
setting_name (Ticket name) = (row_of keys.Ticket).name
setting_name Defaults = (row_of keys.Ticket).name
setting_name (Of e) = entry_name e

-- the value of a setting
abbrev pub setting_value : Setting → List ℕ
setting_value (File e) = entry_value e
setting_value (Member m) = address_text m.address
setting_value (Ticket name) = name
setting_value Defaults = default_name
setting_value (Of e) = entry_value e

-- in `"` if the value has no `"`; else in `'` if it has no `'`; else without quotes
abbrev pub written : List ℕ → List ℕ
written value =
    if list_all (is_other 0x22) value then 0x22 ∷ (value ++ 0x22 ∷ [])
    else (if list_all (is_other 0x27) value then 0x27 ∷ (value ++ 0x27 ∷ []) else value)

-- a key and its value on a line
abbrev pub pair_line : List ℕ → List ℕ → List ℕ
pair_line name value = name ++ (codes " = " ++ written value)

-- the line with its end
unfoldable pub line_text : List ℕ → List ℕ → List ℕ
line_text name value = pair_line name value ++ 0x0A ∷ []

abbrev pub setting_line : Setting → List ℕ
setting_line s = pair_line (setting_name s) (setting_value s)

-- each setting on a line of its own
abbrev pub lines_text : List Setting → List ℕ
lines_text ss = flat_map (λ s. line_text (setting_name s) (setting_value s)) ss

abbrev pub entries_text : List Entry → List ℕ
entries_text es = flat_map (λ e. line_text (entry_name e) (entry_value e)) es

-- THE SETTINGS THAT ARE PRINTED, in the order of the table, except the last two keys of the file, which follow the
-- fourth

abbrev pub set : ConfKey → Value → Entry
set key value = record { key = key; value = value }

-- a key, if there is a value for it
abbrev pub optional : ConfKey → Option Value → List Entry
optional key None = []
optional key (Some value) = set key value ∷ []

abbrev pub authfile_entries : Option (List ℕ) → List Entry
authfile_entries authfile = optional keys.Authfile (option_map Text authfile)

abbrev pub authfile_old_entries : Option (List ℕ) → List Entry
authfile_old_entries authfile_old = optional keys.AuthfileOld (option_map Text authfile_old)

-- the place of a hash's word
abbrev pub hash_place : Hash → ℕ
hash_place Sha1 = 0
hash_place Sha256 = 1

abbrev pub hash_entry : Hash → Entry
hash_entry hash = set keys.Authhash (Word (hash_place hash))

-- the key without effect with this number
abbrev pub extra_key : KeyNo → ConfKey
extra_key number = unwrap_or (key_numbered number) keys.Debug

abbrev pub extra_entry : KeyNo × List ℕ → Entry
extra_entry extra = set (extra_key extra.0) (Text extra.1)

-- a renewal of half of expire is left out
abbrev pub renewal_said : Times → Option ℕ
renewal_said times = if times.renewal == times.expire / 2 then None else Some (times.renewal / 1000)

abbrev pub renewal_entries : Times → List Entry
renewal_entries times = optional keys.RenewalFreq (option_map Number (renewal_said times))

abbrev pub weights_said : List ℕ → Option Value
weights_said [] = None
weights_said (n ∷ ns) = Some (Weights (record { items = n ∷ ns }))

abbrev pub weights_entries : List ℕ → List Entry
weights_entries weights = optional keys.Weights (weights_said weights)

abbrev pub handler_entries : Option (List ℕ) → List Entry
handler_entries handler = optional keys.BeforeAcquireHandler (option_map Text handler)

abbrev pub prereq_entry : PrereqOf → Entry
prereq_entry prereq = set keys.AttrPrereq (Prereq prereq)

-- the place of a mode's word
abbrev pub word_of : Bool → ℕ
word_of false = 0
word_of true = 1

-- `steady` is printed only if it is `yes`
abbrev pub steady_said : Bool → Option Value
steady_said false = None
steady_said true = Some (Word 1)

abbrev pub steady_entries : Bool → List Entry
steady_entries steady = optional keys.Steady (steady_said steady)

-- the times in seconds
abbrev pub times_entries : Times → List Entry
times_entries times =
    set keys.Expire (Number (times.expire / 1000)) ∷ set keys.AcquireAfter (Number (times.after / 1000))
    ∷ set keys.Timeout (Number (times.timeout / 1000)) ∷ set keys.Retries (Number times.retries) ∷ renewal_entries times

-- the keys of a ticket
abbrev pub key_entries : TicketConf → List Entry
key_entries t =
    times_entries t.times ++ (weights_entries t.weights.items ++ (handler_entries t.handler
    ++ (map prereq_entry t.prereqs ++ set keys.Mode (Word (word_of t.manual)) ∷ steady_entries t.steady)))

abbrev pub ticket_settings : TicketConf → List Setting
ticket_settings t = Ticket t.name ∷ map Of (key_entries t)

-- the two keys for the change of the key and the hash, and the keys without effect
abbrev pub late_entries : Option (List ℕ) → Hash → List (KeyNo × List ℕ) → List Entry
late_entries authfile_old auth_hash extras =
    authfile_old_entries authfile_old ++ (hash_entry auth_hash ∷ map extra_entry extras)

-- the first four keys of the whole file
abbrev pub early_entries : ℕ → Option (List ℕ) → ℕ → List Entry
early_entries port authfile skew =
    set keys.Port (Number port) ∷ set keys.Transport (Word 0)
    ∷ (authfile_entries authfile ++ set keys.Maxtimeskew (Number skew) ∷ [])

-- the keys of the whole file
abbrev pub top_entries : ConfigSays → List Entry
top_entries c =
    early_entries c.port c.authfile c.skew ++ late_entries c.authfile_old c.auth_hash c.extras

-- the keys of the whole file, the members, and the tickets with all their keys
abbrev pub settings_of : ConfigSays → List Setting
settings_of c =
    map File (top_entries c)
    ++ (map Member c.members ++ flat_map ticket_settings c.tickets)

abbrev pub printed : ConfigSays → List ℕ
printed c = lines_text (settings_of c)
