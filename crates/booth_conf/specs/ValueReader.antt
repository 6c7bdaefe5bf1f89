-- The results of the functions that read a value. The proofs show that they are what the text spells.
use Rattle.std.specs.Prelude.{◌≡◌, ℕ, Bool, true, false, ◌&&◌, nat_le, nat_lt, List, [], ◌∷◌, ◌++◌, length, Option, Some, None, is_some, option_map, option_and_then, position, if◌then◌else◌, codes, bytes_eq, ◌==◌}
use Rattle.std.specs.List.{list_all, list_any, slice_split}
use Rattle.std.specs.Borrow.{Bor}
use Rattle.std.specs.Net.Addr.{octets_of}
use Rattle.std.specs.Net.Reader.{read_ipv4, read_ipv6, whole_value}
use Rattle.booth_base.specs.Name.{is_name, is_value}
use Rattle.booth_base.specs.declared.address.Address.{Address}
use Rattle.booth_base.specs.declared.address.Address.TheVariants.{V4, V6}
use Rattle.booth_conf.specs.Grammar.{beyond}
use Rattle.booth_conf.specs.LineReader.{front}
use Rattle.booth_conf.specs.Keys.{row_of}
use Rattle.booth_conf.specs.Values.{is_digit, worth, is_gap, is_word_byte, is_word_of, words_of, default_name, setting_of}
use Rattle.booth_conf.specs.declared.limits.TheConstants.{WEIGHT}
use Rattle.booth_base.specs.declared.limits.TheConstants.{MEMBERS}
use Rattle.booth_conf.specs.declared.words.FourWords.{FourWords}
use Rattle.booth_conf.specs.declared.keys.ConfKey.{ConfKey}
use Rattle.booth_conf.specs.declared.keys.Form.{Form}
use Rattle.booth_conf.specs.declared.keys.Form.TheVariants as forms
use Rattle.booth_conf.specs.declared.tickets.GrantKind.{GrantKind}
use Rattle.booth_conf.specs.declared.tickets.GrantKind.TheVariants.{Auto, Manual}
use Rattle.booth_conf.specs.declared.tickets.Prereq.{Prereq as PrereqOf}
use Rattle.booth_conf.specs.declared.settings.Value.{Value}
use Rattle.booth_conf.specs.declared.settings.Value.TheVariants.{Number, Text, Word, Address as AnAddress, Name, Defaults, Weights, Prereq}
use Rattle.booth_conf.specs.declared.settings.Setting.{Setting}
use Rattle.booth_base.specs.declared.text.TheConstants.{PATH_BYTES}

-- NUMBERS

abbrev pub number_in : List ℕ → Option ℕ
number_in text =
    if nat_lt 0 (length text) && nat_le (length text) 10 && list_all is_digit text
    then Some (worth text) else None

abbrev pub when_within : ℕ → ℕ → ℕ → Option ℕ
when_within least most n = if nat_le least n && nat_le n most then Some n else None

abbrev pub number_within : ℕ → ℕ → List ℕ → Option ℕ
number_within least most text = option_and_then (when_within least most) (number_in text)

-- WORDS

abbrev pub word_of : List ℕ → Option (List ℕ × List ℕ)
word_of [] = None
word_of (b ∷ bs) = Some (front is_word_byte (b ∷ bs), beyond is_word_byte (b ∷ bs))

-- the first word, and what follows it
abbrev pub word_in : List ℕ → Option (List ℕ × List ℕ)
word_in text = word_of (beyond is_gap text)

abbrev pub then_word : {A : Type 0} → Option (List ℕ × List ℕ) → (List ℕ → List ℕ → Option A) → Option A
then_word None f = None
then_word (Some w) f = f w.0 w.1

abbrev pub last_word : List ℕ → List ℕ → Option (List ℕ)
last_word word rest = if is_some (word_in rest) then None else Some word

abbrev pub one_word : List ℕ → Option (List ℕ)
one_word text = then_word (word_in text) last_word

abbrev pub Words : Type 0
Words = List ℕ × List ℕ × List ℕ × List ℕ

abbrev pub four_words : List ℕ → Option Words
four_words text =
    then_word (word_in text) (λ a after_a.
    then_word (word_in after_a) (λ b after_b.
    then_word (word_in after_b) (λ c after_c.
    then_word (word_in after_c) (λ d after_d.
    if is_some (word_in after_d) then None else Some (a, b, c, d)))))

abbrev pub GivesWord : Option (Bor (List ℕ) × Bor (List ℕ)) → Option (List ℕ × List ℕ) → Type 0
GivesWord None read = read ≡ None
GivesWord (Some w) read = read ≡ Some (w.0.now, w.1.now)

abbrev pub GivesFour : Option FourWords → Option Words → Type 0
GivesFour None read = read ≡ None
GivesFour (Some w) read = read ≡ Some (w.kind.now, w.name.now, w.test.now, w.value.now)

-- FORMS

abbrev pub text_in : ℕ → List ℕ → Option (List ℕ)
text_in least text =
    if nat_le least (length text) && nat_le (length text) PATH_BYTES then Some text else None

abbrev pub command_in : List ℕ → Option (List ℕ)
command_in text = if list_any is_word_byte text then text_in 1 text else None

abbrev pub is_segment : ℕ → Bool
is_segment segment = nat_lt segment 65536

abbrev pub are_segments : List ℕ → Bool
are_segments segments = length segments == 8 && list_all is_segment segments

abbrev pub address_by : Option (List ℕ) → Option (List ℕ) → Option Address
address_by (Some octets) v6 = Some (V4 octets)
address_by None None = None
address_by None (Some segments) =
    if are_segments segments then Some (V6 (octets_of segments)) else None

abbrev pub address_in : List ℕ → Option Address
address_in text = address_by (whole_value (read_ipv4 text)) (whole_value (read_ipv6 text))

abbrev pub name_in : List ℕ → Option (List ℕ)
name_in text = if is_name text then Some text else None

abbrev pub value_in : List ℕ → Option (List ℕ)
value_in text = if is_value text then Some text else None

abbrev pub weight_in : List ℕ → Option ℕ
weight_in piece = option_and_then (number_within 0 WEIGHT) (one_word piece)

-- one more weight, if the piece spells one and there is room for it
abbrev pub weight_added : List ℕ → List ℕ → Option (List ℕ)
weight_added weights piece =
    option_and_then (λ n. if nat_lt (length weights) MEMBERS then Some (weights ++ n ∷ []) else None)
    (weight_in piece)

-- these weights, and those of the remaining pieces
abbrev pub weights_from : List ℕ → List (List ℕ) → Option (List ℕ)
weights_from weights [] = Some weights
weights_from weights (p ∷ ps) = option_and_then (λ more. weights_from more ps) (weight_added weights p)

abbrev pub weights_in : List ℕ → Option (List ℕ)
weights_in text = weights_from [] (slice_split (λ b. b == 0x2C) text)

abbrev pub kind_in : List ℕ → Option GrantKind
kind_in word =
    if bytes_eq word (codes "auto") then Some Auto
    else (if bytes_eq word (codes "manual") then Some Manual else None)

abbrev pub test_in : List ℕ → Option Bool
test_in word =
    if bytes_eq word (codes "eq") then Some true
    else (if bytes_eq word (codes "ne") then Some false else None)

abbrev pub prereq_of : Words → Option PrereqOf
prereq_of w =
    option_and_then (λ kind.
    option_and_then (λ name.
    option_and_then (λ equal.
    option_map (λ value. record { kind = kind; name = name; equal = equal; value = value })
    (value_in w.3)) (test_in w.2)) (name_in w.1)) (kind_in w.0)

abbrev pub prereq_in : List ℕ → Option PrereqOf
prereq_in text = option_and_then prereq_of (four_words text)

-- THE VALUE OF A KEY

abbrev pub weights_value : List ℕ → Value
weights_value ws = Weights (record { items = ws })

-- the value that a text spells in this form, if there is one
abbrev pub form_in : Form → List ℕ → Option Value
form_in (forms.Number least most) text = option_map Number (number_within least most text)
form_in (forms.Text least) text = option_map Text (text_in least text)
form_in forms.Command text = option_map Text (command_in text)
form_in (forms.OneOf choice) text = option_map Word (position (is_word_of text) (words_of choice))
form_in forms.Address text = option_map AnAddress (address_in text)
form_in forms.TicketName text = if bytes_eq text default_name then Some Defaults else option_map Name (name_in text)
form_in forms.Weights text = option_map weights_value (weights_in text)
form_in forms.Prereq text = option_map Prereq (prereq_in text)

abbrev pub setting_in : ConfKey → List ℕ → Option Setting
setting_in key text = option_map (setting_of key) (form_in (row_of key).form text)
