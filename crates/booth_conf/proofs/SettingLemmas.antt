-- Each setting of a line has the form of its key.
use Rattle.std.proofs.Common.{◌≡◌, ◌≢◌, ◌<◌, ◌+◌, ◌==◌, ◌^◌, ℕ, suc, Bool, true, false, not, ◌&&◌, nat_lt, nat_le, List, [], ◌∷◌, length, get_or, Some, refl, arith, ap, ◌∙◌, subst, eq-eqb}
use Rattle.std.specs.Prelude.{bytes_eq, count_by, position}
use Rattle.std.specs.List.{list_all, list_any, slice_split}
use Rattle.std.specs.Net.Grammar.{IsDotted}
use Rattle.std.proofs.lemmas.Bool.Decides.{nat_tests}
use Rattle.std.proofs.lemmas.List.Quantifiers.{position-Some}
use Rattle.std.proofs.lemmas.List.Splits.{length-slice_split}
use Rattle.std.proofs.lemmas.Slice.Eq.{bytes_eq-Decides}
use Rattle.booth_base.specs.Address.{Spells, id_of}
use Rattle.booth_base.specs.declared.address.Address.{Address as AddressOf}
use Rattle.booth_base.specs.declared.address.Address.TheVariants.{V4, V6}
use Rattle.booth_base.specs.declared.text.TheConstants.{PATH_BYTES}
use Rattle.booth_conf.specs.Keys.{row_of, are_one}
use Rattle.booth_conf.specs.Values.{IsNumber, IsText, IsCommand, AreWeights, IsWeightList, HasForm, HasValue, in_scope, setting_of, default_name, member_at, is_word_byte, is_word_of, words_of}
use Rattle.booth_conf.specs.Said.{SaysKey, IsSaid}
use Rattle.booth_conf.specs.SaidReader.{said}
use Rattle.booth_conf.specs.Sound.{is_within, is_sayable, is_text, is_command, is_byte, is_address, is_member, is_weight, are_weights, is_ticket_name}
use Rattle.booth_conf.specs.SoundDraft.{is_of, is_entry}
use Rattle.booth_conf.specs.declared.keys.ConfKey.{ConfKey}
use Rattle.booth_conf.specs.declared.keys.ConfKey.TheVariants as keys
use Rattle.booth_conf.specs.declared.keys.Form.{Form}
use Rattle.booth_conf.specs.declared.keys.Form.TheVariants as forms
use Rattle.booth_conf.specs.declared.keys.Scope.{Scope}
use Rattle.booth_conf.specs.declared.keys.Scope.TheVariants as scopes
use Rattle.booth_conf.specs.declared.settings.Value.{Value}
use Rattle.booth_conf.specs.declared.settings.Value.TheVariants as values
use Rattle.booth_conf.specs.declared.settings.Value.TheVariants.{Number, Text, Word, Address, Name, Weights, Prereq}
use Rattle.booth_conf.specs.declared.settings.Entry.{Entry}
use Rattle.booth_conf.specs.declared.settings.Setting.{Setting}
use Rattle.booth_conf.specs.declared.settings.Setting.TheVariants.{File, Member, Ticket, Defaults, Of}
use Rattle.booth_conf.specs.declared.line_meaning.Said.{Said}
use Rattle.booth_conf.specs.declared.line_meaning.Said.TheVariants.{Pair}
use Rattle.booth_conf.proofs.SayLemmas.{pair_sayable, prereq_sound}
use Rattle.booth_conf.proofs.SaidLemmas.{said_found}

-- what is true of a setting
abbrev pub is_setting : Setting → Bool
is_setting (File e) = is_entry e
is_setting (Member m) = is_member m
is_setting (Ticket name) = is_ticket_name name
is_setting Defaults = true
is_setting (Of e) = is_entry e

within : (least most : ℕ) (text : List ℕ) (n : ℕ) → IsNumber least most text n →
    is_within least most n ≡ true
within least most text n h = grind (arith, nat_tests, h.low, h.high)

text_form : (least : ℕ) (text value : List ℕ) → is_sayable text ≡ true →
    IsText least PATH_BYTES text value → is_text least value ≡ true
text_form least text value s h =
    let w : is_within least PATH_BYTES (length text) ≡ true =
    grind (arith, nat_tests, h.some, h.few) in
    rw (h.same, s, w) refl

command_form : (text value : List ℕ) → is_sayable text ≡ true → IsCommand text value →
    is_command value ≡ true
command_form text value s h =
    let any : list_any is_word_byte value ≡ true = rw h.text_of.same h.some_word in
    rw (text_form 1 text value s h.text_of, any) refl

bytes_pass : (xs : List ℕ) → ((k : ℕ) → get_or xs k 0 < 2 ^ 8) → list_all is_byte xs ≡ true
bytes_pass [] h = refl
bytes_pass (x ∷ xs) h =
    let here : x < 256 = h 0 in
    let rest : list_all is_byte xs ≡ true = bytes_pass xs (λ k. h (suc k)) in
    grind (arith, nat_tests)

dotted_form : (text octets : List ℕ) → IsDotted text octets → is_address (V4 octets) ≡ true
dotted_form text octets h =
    let a : nat_lt h.a 256 ≡ true = grind (arith, nat_tests, h.fit.0) in
    let b : nat_lt h.b 256 ≡ true = grind (arith, nat_tests, h.fit.1) in
    let c : nat_lt h.c 256 ≡ true = grind (arith, nat_tests, h.fit.2) in
    let d : nat_lt h.d 256 ≡ true = grind (arith, nat_tests, h.fit.3) in
    rw (h.value, a, b, c, d) refl

address_form : (text : List ℕ) (a : AddressOf) → Spells text a → is_address a ≡ true
address_form text (V4 octets) h = dotted_form text octets h
address_form text (V6 octets) h =
    let n : (length octets == 16) ≡ true = grind (arith, nat_tests, h.0.0) in
    rw (n, bytes_pass octets h.0.1) refl

weights_pass : (pieces : List (List ℕ)) (ws : List ℕ) → AreWeights pieces ws →
    list_all is_weight ws ≡ true
weights_pass [] [] h = refl
weights_pass [] (n ∷ ns) h = absurd h
weights_pass (p ∷ ps) [] h = absurd h
weights_pass (p ∷ ps) (n ∷ ns) h =
    let here : is_weight n ≡ true = grind (arith, nat_tests, h.0.2.high) in
    rw (here, weights_pass ps ns h.1) refl

pieces_len : (pieces : List (List ℕ)) (ws : List ℕ) → AreWeights pieces ws → length ws ≡ length pieces
pieces_len [] [] h = refl
pieces_len [] (n ∷ ns) h = absurd h
pieces_len (p ∷ ps) [] h = absurd h
pieces_len (p ∷ ps) (n ∷ ns) h = ap suc (pieces_len ps ns h.1)

weights_form : (text ws : List ℕ) → IsWeightList text ws → (nat_lt 0 (length ws) && are_weights ws) ≡ true
weights_form text ws h =
    let pieces : List (List ℕ) = slice_split (λ b. b == 0x2C) text in
    let len : length ws ≡ count_by (λ b. b == 0x2C) text + 1 =
    pieces_len pieces ws h.numbers ∙ length-slice_split (λ b. b == 0x2C) text in
    let some : nat_lt 0 (length ws) ≡ true = grind (arith, nat_tests, len) in
    let few : nat_le (length ws) 16 ≡ true = grind (arith, nat_tests, h.few) in
    rw (some, few, weights_pass pieces ws h.numbers) refl

word_form : (words : List (List ℕ × List ℕ)) (text : List ℕ) (place : ℕ) →
    position (is_word_of text) words ≡ Some place → nat_lt place (length words) ≡ true
word_form words text place e =
    let h : place < length words = (position-Some (is_word_of text) words place ([], []) e).0 in
    grind (arith, nat_tests)

other_name : (name : List ℕ) → name ≢ default_name → not (bytes_eq name default_name) ≡ true
other_name name n = other_at name (bytes_eq name default_name) n refl where
  other_at : (name : List ℕ) (b : Bool) → name ≢ default_name → bytes_eq name default_name ≡ b →
      not b ≡ true
  other_at name true n e = absurd (n ((bytes_eq-Decides name default_name).0 e))
  other_at name false n e = refl

-- a value that a line spells can be said by a line
form_sound : (form : Form) (text : List ℕ) (value : Value) → is_sayable text ≡ true → HasForm form text value →
    is_of form value ≡ true
form_sound (forms.Number least most) text (Number n) t h = within least most text n h
form_sound (forms.Text least) text (Text value) t h = text_form least text value t h
form_sound forms.Command text (Text value) t h = command_form text value t h
form_sound (forms.OneOf choice) text (Word place) t h = word_form (words_of choice) text place h
form_sound forms.Address text (Address address) t h = address_form text address h
form_sound forms.TicketName text (Name name) t h = rw (h.2, h.1, other_name text h.0, t) refl
form_sound forms.TicketName text values.Defaults t h = refl
form_sound forms.Weights text (Weights weights) t h = weights_form text weights.items h
form_sound forms.Prereq text (Prereq prereq) t h = prereq_sound text prereq t h
form_sound form text value t h = absurd h

entry_sound : (scope : Scope) (e : Entry) → is_entry e ≡ true → is_setting (in_scope scope e) ≡ true
entry_sound scopes.File e h = h
entry_sound scopes.Ticket e h = h

member_sound : (site : Bool) (form : Form) (a : AddressOf) → is_of form (Address a) ≡ true →
    is_member (member_at site a) ≡ true
member_sound site forms.Address a h = let same : (id_of a == id_of a) ≡ true = eq-eqb (id_of a) (id_of a) refl in rw (h, same) refl
member_sound site form a h = cc

name_sound : (form : Form) (name : List ℕ) → is_of form (Name name) ≡ true → is_ticket_name name ≡ true
name_sound forms.TicketName name h = h
name_sound form name h = cc

value_sound : (key : ConfKey) (value : Value) → is_of (row_of key).form value ≡ true →
    is_setting (setting_of key value) ≡ true
value_sound key (Address a) h = member_sound (are_one keys.Site key) (row_of key).form a h
value_sound key (Name name) h = name_sound (row_of key).form name h
value_sound key values.Defaults h = refl
value_sound key value h = entry_sound (row_of key).scope (record { key = key; value = value }) h

setting_form : (key : ConfKey) (text : List ℕ) (s : Setting) → is_sayable text ≡ true →
    HasValue key text s → is_setting s ≡ true
setting_form key text s t h =
    rw h.set (value_sound key h.value (form_sound (row_of key).form text h.value t h.spelled))

-- the setting of a line
said_form : (line : List ℕ) (t : Said) (key : ConfKey) (s : Setting) → IsSaid line t →
    t ≡ Pair key (Some s) → is_setting s ≡ true
said_form line t key s h e =
    let k : SaysKey line key (Some s) = subst (λ x. IsSaid line x) e h in
    setting_form key k.value s (pair_sayable line _ k.value k.pair) k.makes

pub line_form : (line : List ℕ) (key : ConfKey) (s : Setting) → said line ≡ Pair key (Some s) →
    is_setting s ≡ true
line_form line key s e = said_form line (said line) key s (said_found line) e
