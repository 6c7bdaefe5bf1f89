-- A section: the entries of the whole file, or those below one `ticket` line. They are grouped by key, and in their
-- order for each key.
use Rattle.std.specs.Prelude.{ℕ, Bool, nat_lt, nat_le, ◌&&◌, List, [], ◌∷◌, count_by, filter, Option, Some, None, option_map, option_and_then, if◌then◌else◌}
use Rattle.std.specs.List.{find}
use Rattle.arrayvec.specs.ArrayVec.{ArrayVec}
use Rattle.booth_conf.specs.Keys.{row_of, are_one, number_of}
use Rattle.booth_conf.specs.declared.limits.TheConstants.{PREREQS}
use Rattle.booth_conf.specs.declared.keys.ConfKey.{ConfKey}
use Rattle.booth_conf.specs.declared.keys.ConfKey.TheVariants as keys
use Rattle.booth_conf.specs.declared.keys.KeyNo.{KeyNo}
use Rattle.booth_conf.specs.declared.keys.Form.{Form}
use Rattle.booth_conf.specs.declared.keys.Form.TheVariants as forms
use Rattle.booth_conf.specs.declared.tickets.Prereq.{Prereq as PrereqOf}
use Rattle.booth_conf.specs.declared.settings.Value.{Value}
use Rattle.booth_conf.specs.declared.settings.Value.TheVariants.{Number, Text, Word, Weights, Prereq}
use Rattle.booth_conf.specs.declared.settings.Entry.{Entry}
use Rattle.booth_conf.specs.declared.faults.LineFault.{LineFault}
use Rattle.booth_conf.specs.declared.faults.LineFault.TheVariants.{Repeated, TooMany}

-- the first element of a list, if there is one
abbrev pub first : {X : Type 0} → List X → Option X
first [] = None
first (x ∷ xs) = Some x

-- ENTRIES

abbrev pub has_key : ConfKey → Entry → Bool
has_key key entry = are_one key entry.key

abbrev pub value_of : Entry → Value
value_of entry = entry.value

-- the value of a key's entry
abbrev pub given : ConfKey → List Entry → Option Value
given key section = option_map value_of (find (has_key key) section)

abbrev pub as_number : Value → Option ℕ
as_number (Number n) = Some n
as_number value = None

abbrev pub as_text : Value → Option (List ℕ)
as_text (Text text) = Some text
as_text value = None

abbrev pub as_word : Value → Option ℕ
as_word (Word place) = Some place
as_word value = None

abbrev pub as_weights : Value → Option (ArrayVec ℕ)
as_weights (Weights weights) = Some weights
as_weights value = None

abbrev pub as_prereq : Value → Option PrereqOf
as_prereq (Prereq prereq) = Some prereq
as_prereq value = None

abbrev pub number_given : ConfKey → List Entry → Option ℕ
number_given key section = option_and_then as_number (given key section)

abbrev pub text_given : ConfKey → List Entry → Option (List ℕ)
text_given key section = option_and_then as_text (given key section)

abbrev pub word_given : ConfKey → List Entry → Option ℕ
word_given key section = option_and_then as_word (given key section)

abbrev pub weights_given : ConfKey → List Entry → Option (ArrayVec ℕ)
weights_given key section = option_and_then as_weights (given key section)

abbrev pub prereq_of : Entry → Option PrereqOf
prereq_of entry = as_prereq entry.value

-- the entries that a new section inherits from this one: its prerequisites
abbrev pub inherited : List Entry → List Entry
inherited section = filter (has_key keys.AttrPrereq) section

-- the keys without effect are the keys with the numbers 5 to 9
abbrev pub is_without_effect : ConfKey → Bool
is_without_effect key = nat_le 5 (row_of key).number && nat_le (row_of key).number 9

-- the text of a key without effect, with its number
abbrev pub extra_of : Entry → Option (KeyNo × List ℕ)
extra_of entry =
    if is_without_effect entry.key then option_map (λ text. (number_of entry.key, text)) (as_text entry.value) else None

-- FAULTS of one more entry

-- how often a key of this form is allowed in a section
abbrev pub most_of : Form → ℕ
most_of forms.Prereq = PREREQS
most_of form = 1

-- the fault of a key that is there more often
abbrev pub too_often : Form → LineFault
too_often forms.Prereq = TooMany
too_often form = Repeated

abbrev pub entry_clash : List Entry → Entry → Option LineFault
entry_clash section entry =
    let form : Form = (row_of entry.key).form in
    if nat_lt (count_by (has_key entry.key) section) (most_of form) then None else Some (too_often form)
