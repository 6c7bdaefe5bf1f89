-- What is printed of a value is read as that value, can stand on a line, and is short.
use Rattle.std.proofs.Common.{◌≡◌, ◌≤◌, ◌<◌, ◌*◌, ℕ, zero, suc, Bool, true, false, not, ◌&&◌, nat_lt, nat_le, List, [], ◌∷◌, ◌++◌, length, Some, refl, arith, lit≤, ap, decimal, length-append}
use Rattle.std.specs.Prelude.{option_map, bytes_eq}
use Rattle.std.specs.List.{list_all, flat_map}
use Rattle.std.proofs.lemmas.Fmt.{length-decimal-le}
use Rattle.std.proofs.lemmas.Bool.Decides.{nat_tests}
use Rattle.booth_base.specs.Name.{is_name, is_value}
use Rattle.booth_base.specs.declared.limits.TheConstants.{MEMBERS}
use Rattle.booth_base.specs.declared.text.TheConstants.{PATH_BYTES}
use Rattle.booth_conf.specs.Values.{default_name}
use Rattle.booth_conf.specs.ValueReader.{form_in, weights_value}
use Rattle.booth_conf.specs.Print.{kind_word, test_word, prereq_text, weights_text, word_at, value_text}
use Rattle.booth_conf.specs.Sound.{is_within, is_sayable, is_text, is_weight, are_weights, is_prereq}
use Rattle.booth_conf.specs.SoundDraft.{is_of}
use Rattle.booth_conf.specs.declared.limits.TheConstants.{WEIGHT}
use Rattle.booth_conf.specs.declared.keys.Choice.{Choice}
use Rattle.booth_conf.specs.declared.keys.Choice.TheVariants as choices
use Rattle.booth_conf.specs.declared.keys.Form.{Form}
use Rattle.booth_conf.specs.declared.keys.Form.TheVariants as forms
use Rattle.booth_conf.specs.declared.tickets.GrantKind.{GrantKind}
use Rattle.booth_conf.specs.declared.tickets.GrantKind.TheVariants.{Auto, Manual}
use Rattle.booth_conf.specs.declared.tickets.Prereq.{Prereq as PrereqOf}
use Rattle.booth_conf.specs.declared.settings.Value.{Value}
use Rattle.booth_conf.specs.declared.settings.Value.TheVariants.{Number, Text, Word, Address, Name, Defaults, Weights, Prereq}
use Rattle.booth_conf.proofs.KeyLemmas.{both_true, is_short}
use Rattle.booth_conf.proofs.ValueAgain.{PrereqFacts, prereq_facts, within_again, number_sayable, text_again, text_sayable, command_again, command_sayable, ticket_sayable, weights_again, weights_sayable, prereq_again}
use Rattle.booth_conf.proofs.AddressAgain.{address_again, address_sayable, address_short}

-- READ AGAIN

word_again : (choice : Choice) (place : ℕ) → is_of (forms.OneOf choice) (Word place) ≡ true →
    form_in (forms.OneOf choice) (word_at choice place) ≡ Some (Word place)
word_again choices.Transport zero h = refl
word_again choices.Transport (suc n) h = grind (arith, nat_tests)
word_again choices.Mode zero h = refl
word_again choices.Mode (suc zero) h = refl
word_again choices.Mode (suc (suc n)) h = grind (arith, nat_tests)
word_again choices.Hash zero h = refl
word_again choices.Hash (suc zero) h = refl
word_again choices.Hash (suc (suc n)) h = grind (arith, nat_tests)
word_again choices.Steady zero h = refl
word_again choices.Steady (suc zero) h = refl
word_again choices.Steady (suc (suc n)) h = grind (arith, nat_tests)

weights_here : (ws : List ℕ) → (nat_lt 0 (length ws) && are_weights ws) ≡ true →
    form_in forms.Weights (value_text forms.Weights (weights_value ws)) ≡ Some (weights_value ws)
weights_here [] h = cc
weights_here (n ∷ ns) h =
    ap (option_map weights_value) (weights_again n ns (both_true (nat_lt 0 (length (n ∷ ns))) (are_weights (n ∷ ns)) h).1)

name_here : (name : List ℕ) → is_of forms.TicketName (Name name) ≡ true →
    form_in forms.TicketName name ≡ Some (Name name)
name_here name h =
    let a = both_true (is_name name) (not (bytes_eq name default_name) && is_sayable name) h in
    let b = both_true (not (bytes_eq name default_name)) (is_sayable name) a.1 in
    let n : bytes_eq name default_name ≡ false = grind (arith, nat_tests) in
    rw (n, a.0) refl

pub form_again : (form : Form) (value : Value) → is_short form ≡ true → is_of form value ≡ true →
    form_in form (value_text form value) ≡ Some value
form_again (forms.Number least most) (Number n) s h =
    ap (option_map Number) (within_again least most n (grind (arith, nat_tests)) h)
form_again (forms.Text least) (Text text) s h = ap (option_map Text) (text_again least text h)
form_again forms.Command (Text text) s h = ap (option_map Text) (command_again text h)
form_again (forms.OneOf choice) (Word place) s h = word_again choice place h
form_again forms.Address (Address address) s h = ap (option_map Address) (address_again address h)
form_again forms.TicketName (Name name) s h = name_here name h
form_again forms.TicketName Defaults s h = refl
form_again forms.Weights (Weights weights) s h = weights_here weights.items h
form_again forms.Prereq (Prereq prereq) s h = ap (option_map Prereq) (prereq_again prereq h)
form_again form value s h = cc

-- SHORT

number_len : (least most n : ℕ) → most < 10000000000 → is_within least most n ≡ true →
    length (decimal n) ≤ 10
number_len least most n top h =
    let le : n ≤ most = grind (arith, nat_tests) in
    length-decimal-le 10 n (omega arith) (omega arith) (omega arith)

text_len : (least : ℕ) (text : List ℕ) → is_text least text ≡ true → length text ≤ 255
text_len least text h = let b = both_true (is_sayable text) (is_within least 255 (length text)) h in grind (arith, nat_tests, b.1)

name_len : (name : List ℕ) → is_name name ≡ true → length name ≤ 63
name_len name h = grind (arith, nat_tests)

value_len : (value : List ℕ) → is_value value ≡ true → length value ≤ 127
value_len value h = grind (arith, nat_tests)

weight_len : (n : ℕ) → is_weight n ≡ true → length (decimal n) ≤ 10
weight_len n h =
    let le : n ≤ WEIGHT = grind (arith, nat_tests) in
    length-decimal-le 10 n (omega arith) (omega arith) (omega arith)

more_len : (ns : List ℕ) → list_all is_weight ns ≡ true →
    length (flat_map (λ m. 0x2C ∷ decimal m) ns) ≤ 11 * length ns
more_len [] h = omega arith
more_len (n ∷ ns) h =
    let b = both_true (is_weight n) (list_all is_weight ns) h in
    omega (arith, weight_len n b.0, more_len ns b.1, length-append (decimal n) (flat_map (λ m. 0x2C ∷ decimal m) ns))

weights_len : (ws : List ℕ) → list_all is_weight ws ≡ true →
    length (weights_text ws) ≤ 11 * length ws
weights_len [] h = omega arith
weights_len (n ∷ ns) h =
    let b = both_true (is_weight n) (list_all is_weight ns) h in
    omega (arith, weight_len n b.0, more_len ns b.1, length-append (decimal n) (flat_map (λ m. 0x2C ∷ decimal m) ns))

kind_len : (kind : GrantKind) → length (kind_word kind) ≤ 6
kind_len Auto = lit≤ tt
kind_len Manual = lit≤ tt

test_len : (equal : Bool) → length (test_word equal) ≤ 2
test_len true = lit≤ tt
test_len false = lit≤ tt

prereq_len : (q : PrereqOf) → is_prereq q ≡ true → length (prereq_text q) ≤ 201
prereq_len q h =
    let f : PrereqFacts q = prereq_facts q h in
    omega (
      arith,
      kind_len q.kind,
      name_len q.name f.name,
      test_len q.equal,
      value_len q.value f.value,
      length-append (kind_word q.kind) (0x20 ∷ (q.name ++ (0x20 ∷ (test_word q.equal ++ (0x20 ∷ q.value))))),
      length-append q.name (0x20 ∷ (test_word q.equal ++ (0x20 ∷ q.value))),
      length-append (test_word q.equal) (0x20 ∷ q.value),
    )

-- how long the text of a value may be
abbrev pub text_most : Form → ℕ
text_most (forms.Number least most) = 10
text_most (forms.Text least) = PATH_BYTES
text_most forms.Command = PATH_BYTES
text_most (forms.OneOf choice) = 6
text_most forms.Address = 82
text_most forms.TicketName = 63
text_most forms.Weights = 11 * MEMBERS
text_most forms.Prereq = 201

word_stands : (choice : Choice) (place : ℕ) → is_of (forms.OneOf choice) (Word place) ≡ true →
    (is_sayable (word_at choice place) ≡ true) × (length (word_at choice place) ≤ 6)
word_stands choices.Transport zero h = (refl, lit≤ tt)
word_stands choices.Transport (suc n) h = grind (arith, nat_tests)
word_stands choices.Mode zero h = (refl, lit≤ tt)
word_stands choices.Mode (suc zero) h = (refl, lit≤ tt)
word_stands choices.Mode (suc (suc n)) h = grind (arith, nat_tests)
word_stands choices.Hash zero h = (refl, lit≤ tt)
word_stands choices.Hash (suc zero) h = (refl, lit≤ tt)
word_stands choices.Hash (suc (suc n)) h = grind (arith, nat_tests)
word_stands choices.Steady zero h = (refl, lit≤ tt)
word_stands choices.Steady (suc zero) h = (refl, lit≤ tt)
word_stands choices.Steady (suc (suc n)) h = grind (arith, nat_tests)

weights_stand : (ws : List ℕ) → (nat_lt 0 (length ws) && are_weights ws) ≡ true →
    (is_sayable (weights_text ws) ≡ true) × (length (weights_text ws) ≤ 11 * MEMBERS)
weights_stand [] h = cc
weights_stand (n ∷ ns) h =
    let b = both_true (nat_lt 0 (length (n ∷ ns))) (are_weights (n ∷ ns)) h in
    let c = both_true (nat_le (length (n ∷ ns)) MEMBERS) (list_all is_weight (n ∷ ns)) b.1 in
    let few : length (n ∷ ns) ≤ MEMBERS = grind (arith, nat_tests, c.0) in
    (weights_sayable n ns b.1, omega (arith, few, weights_len (n ∷ ns) c.1))

pub text_stands : (form : Form) (value : Value) → is_short form ≡ true → is_of form value ≡ true →
    (is_sayable (value_text form value) ≡ true) × (length (value_text form value) ≤ text_most form)
text_stands (forms.Number least most) (Number n) s h =
    let top : most < 10000000000 = grind (arith, nat_tests, s) in
    (number_sayable least most n top h, number_len least most n top h)
text_stands (forms.Text least) (Text text) s h = (text_sayable least text h, text_len least text h)
text_stands forms.Command (Text text) s h =
    (command_sayable text h, text_len 1 text (both_true _ _ h).0)
text_stands (forms.OneOf choice) (Word place) s h = word_stands choice place h
text_stands forms.Address (Address address) s h = (address_sayable address h, address_short address h)
text_stands forms.TicketName (Name name) s h = (ticket_sayable name h, name_len name (both_true (is_name name) _ h).0)
text_stands forms.TicketName Defaults s h = (refl, lit≤ tt)
text_stands forms.Weights (Weights weights) s h = weights_stand weights.items h
text_stands forms.Prereq (Prereq prereq) s h = ((prereq_facts prereq h).sayable, prereq_len prereq h)
text_stands form value s h = cc
