-- The forms of values, and the setting of a key and its value. It contains no reader.
use Rattle.std.specs.Prelude.{◌≡◌, ◌≢◌, ◌≤◌, ◌<◌, ℕ, Bool, true, false, ◌&&◌, ◌||◌, not, nat_le, ◌==◌, ◌+◌, ◌-◌, ◌*◌, List, [], ◌∷◌, ◌++◌, length, fold, position, Some, codes, bytes_eq}
use Rattle.std.specs.List.{list_all, list_any, slice_split}
use Rattle.booth_base.specs.Name.{is_name, is_value}
use Rattle.booth_base.specs.Address.{Spells, id_of}
use Rattle.booth_base.specs.declared.address.Address.{Address as AddressOf}
use Rattle.booth_base.specs.declared.limits.TheConstants.{MEMBERS}
use Rattle.booth_base.specs.declared.text.TheConstants.{PATH_BYTES}
use Rattle.booth_conf.specs.Keys.{row_of, are_one}
use Rattle.booth_conf.specs.declared.limits.TheConstants.{WEIGHT}
use Rattle.booth_conf.specs.declared.keys.Choice.{Choice}
use Rattle.booth_conf.specs.declared.keys.Choice.TheVariants as choices
use Rattle.booth_conf.specs.declared.keys.ConfKey.{ConfKey}
use Rattle.booth_conf.specs.declared.keys.ConfKey.TheVariants as keys
use Rattle.booth_conf.specs.declared.keys.Form.{Form}
use Rattle.booth_conf.specs.declared.keys.Form.TheVariants as forms
use Rattle.booth_conf.specs.declared.keys.Scope.{Scope}
use Rattle.booth_conf.specs.declared.keys.Scope.TheVariants as scopes
use Rattle.booth_conf.specs.declared.members.Member.{Member as MemberOf}
use Rattle.booth_conf.specs.declared.tickets.GrantKind.{GrantKind}
use Rattle.booth_conf.specs.declared.tickets.GrantKind.TheVariants as kinds
use Rattle.booth_conf.specs.declared.tickets.Prereq.{Prereq as PrereqOf}
use Rattle.booth_conf.specs.declared.settings.Value.{Value}
use Rattle.booth_conf.specs.declared.settings.Value.TheVariants.{Number, Text, Word, Address, Name, Defaults, Weights, Prereq}
use Rattle.booth_conf.specs.declared.settings.Entry.{Entry}
use Rattle.booth_conf.specs.declared.settings.Setting.{Setting}
use Rattle.booth_conf.specs.declared.settings.Setting.TheVariants as settings
use Rattle.booth_conf.specs.declared.settings.Setting.TheVariants.{File, Member, Ticket, Of}

-- NUMBERS

abbrev pub is_digit : ℕ → Bool
is_digit b = nat_le 0x30 b && nat_le b 0x39

-- the number that digits spell
abbrev pub worth : List ℕ → ℕ
worth digits = fold (λ n b. n * 10 + (b - 0x30)) 0 digits

-- one to ten digits in this range, and nothing else
pub record IsNumber (least most : ℕ) (text : List ℕ) (n : ℕ) : Type 0 where
  pub digits : list_all is_digit text ≡ true
  pub some : 0 < length text
  pub few : length text ≤ 10
  pub value : n ≡ worth text
  pub low : least ≤ n
  pub high : n ≤ most

-- WORDS

-- a space or a tab
abbrev pub is_gap : ℕ → Bool
is_gap b = b == 0x20 || b == 0x09

abbrev pub is_word_byte : ℕ → Bool
is_word_byte b = not (is_gap b)

-- one or more bytes, none of which is a gap
abbrev pub is_word : List ℕ → Bool
is_word [] = false
is_word (b ∷ bs) = list_all is_word_byte (b ∷ bs)

-- nothing, or a gap
abbrev pub begins_gap : List ℕ → Bool
begins_gap [] = true
begins_gap (b ∷ bs) = is_gap b

-- these words with gaps between them, and perhaps around them
abbrev pub AreWords : List ℕ → List (List ℕ) → Type 0
AreWords text [] = list_all is_gap text ≡ true
AreWords text (word ∷ words) =
    (gap rest : List ℕ) × (text ≡ gap ++ (word ++ rest)) × (list_all is_gap gap ≡ true)
    × (is_word word ≡ true) × (begins_gap rest ≡ true) × AreWords rest words

-- FORMS

-- a text with this many bytes
pub record IsText (least most : ℕ) (text value : List ℕ) : Type 0 where
  pub same : value ≡ text
  pub some : least ≤ length text
  pub few : length text ≤ most

-- a path and its arguments, not only blanks
pub record IsCommand (text value : List ℕ) : Type 0 where
  pub text_of : IsText 1 PATH_BYTES text value
  pub some_word : list_any is_word_byte text ≡ true

-- each word as it is printed, and its other spelling; a word with one spelling is there twice
abbrev pub words_of : Choice → List (List ℕ × List ℕ)
words_of choices.Transport = (codes "UDP", codes "udp") ∷ []
words_of choices.Mode = (codes "auto", codes "AUTO") ∷ (codes "manual", codes "MANUAL") ∷ []
words_of choices.Hash = (codes "sha1", codes "sha1") ∷ (codes "sha256", codes "sha256") ∷ []
words_of choices.Steady = (codes "no", codes "NO") ∷ (codes "yes", codes "YES") ∷ []

abbrev pub is_word_of : List ℕ → List ℕ × List ℕ → Bool
is_word_of text word = bytes_eq text word.0 || bytes_eq text word.1

-- the place of the first of these words that equals the text
abbrev pub IsOneOf : Choice → List ℕ → ℕ → Type 0
IsOneOf choice text place = position (is_word_of text) (words_of choice) ≡ Some place

-- one number between the commas, with gaps around it
abbrev pub IsWeight : List ℕ → ℕ → Type 0
IsWeight piece n = (word : List ℕ) × AreWords piece (word ∷ []) × IsNumber 0 WEIGHT word n

abbrev pub AreWeights : List (List ℕ) → List ℕ → Type 0
AreWeights [] [] = Unit {0}
AreWeights (p ∷ ps) (n ∷ ns) = IsWeight p n × AreWeights ps ns
AreWeights pieces numbers = ⊥

-- numbers between commas, at most one for each member
pub record IsWeightList (text weights : List ℕ) : Type 0 where
  pub numbers : AreWeights (slice_split (λ b. b == 0x2C) text) weights
  pub few : length weights ≤ MEMBERS

abbrev pub IsKindWord : List ℕ → GrantKind → Type 0
IsKindWord word kinds.Auto = word ≡ codes "auto"
IsKindWord word kinds.Manual = word ≡ codes "manual"

abbrev pub IsTestWord : List ℕ → Bool → Type 0
IsTestWord word true = word ≡ codes "eq"
IsTestWord word false = word ≡ codes "ne"

-- four words: the kind of grant, a name, `eq` or `ne`, and a value
pub record IsPrereq (text : List ℕ) (prereq : PrereqOf) : Type 0 where
  pub kind : List ℕ
  pub test : List ℕ
  pub words : AreWords text (kind ∷ prereq.name ∷ test ∷ prereq.value ∷ [])
  pub kind_is : IsKindWord kind prereq.kind
  pub name_is : is_name prereq.name ≡ true
  pub test_is : IsTestWord test prereq.equal
  pub value_is : is_value prereq.value ≡ true

abbrev pub default_name : List ℕ
default_name = codes "__default__"

-- the value that a text spells in this form
abbrev pub HasForm : Form → List ℕ → Value → Type 0
HasForm (forms.Number least most) text (Number n) = IsNumber least most text n
HasForm (forms.Text least) text (Text value) = IsText least PATH_BYTES text value
HasForm forms.Command text (Text value) = IsCommand text value
HasForm (forms.OneOf choice) text (Word place) = IsOneOf choice text place
HasForm forms.Address text (Address address) = Spells text address
HasForm forms.TicketName text (Name name) = (text ≢ default_name) × (is_name text ≡ true) × (name ≡ text)
HasForm forms.TicketName text Defaults = text ≡ default_name
HasForm forms.Weights text (Weights weights) = IsWeightList text weights.items
HasForm forms.Prereq text (Prereq prereq) = IsPrereq text prereq
HasForm form text value = ⊥

-- THE SETTING OF A KEY

abbrev pub member_at : Bool → AddressOf → MemberOf
member_at site address = record { site = site; address = address; id = record { 0 = id_of address } }

abbrev pub in_scope : Scope → Entry → Setting
in_scope scopes.File entry = File entry
in_scope scopes.Ticket entry = Of entry

-- the setting of a key and its value
abbrev pub setting_of : ConfKey → Value → Setting
setting_of key (Address address) = Member (member_at (are_one keys.Site key) address)
setting_of key (Name name) = Ticket name
setting_of key Defaults = settings.Defaults
setting_of key value = in_scope (row_of key).scope (record { key = key; value = value })

-- the text spells a value in the key's form, and this is the setting
pub record HasValue (key : ConfKey) (text : List ℕ) (setting : Setting) : Type 0 where
  pub value : Value
  pub spelled : HasForm (row_of key).form text value
  pub set : setting ≡ setting_of key value
