-- The forms of values, both ways.
use Rattle.std.proofs.Common.{◌≡◌, ◌≢◌, ◌≤◌, ◌==◌, ℕ, Bool, true, false, ◌&&◌, cond, nat_lt, nat_le, List, [], ◌∷◌, ◌++◌, Option, Some, None, length, refl, arith, ap, ◌∙◌, sym, subst, append-nil, append_assoc, length-append}
use Rattle.std.specs.Prelude.{option_map, codes, bytes_eq}
use Rattle.std.specs.List.{list_all, list_any, slice_split}
use Rattle.std.proofs.lemmas.List.{length_push}
use Rattle.std.proofs.lemmas.Bool.Decides.{nat_tests}
use Rattle.std.proofs.lemmas.Slice.Eq.{bytes_eq-Decides}
use Rattle.std.proofs.NetLemmas.Options.{cond_some, and_then_some, map_some}
use Rattle.booth_base.specs.Name.{is_name, is_value}
use Rattle.booth_base.specs.Address.{Spells}
use Rattle.booth_base.specs.declared.limits.TheConstants.{MEMBERS}
use Rattle.booth_base.specs.declared.text.TheConstants.{PATH_BYTES}
use Rattle.booth_conf.specs.Keys.{row_of}
use Rattle.booth_conf.specs.Values.{is_digit, worth, IsNumber, AreWords, IsText, IsCommand, IsWeight, AreWeights, IsWeightList, IsKindWord, IsTestWord, IsPrereq, HasForm, HasValue, setting_of, default_name, is_word_byte}
use Rattle.booth_conf.specs.ValueReader.{number_in, number_within, when_within, text_in, command_in, address_in, name_in, value_in, weight_in, weight_added, weights_from, weights_in, weights_value, one_word, four_words, kind_in, test_in, prereq_of, prereq_in, Words, form_in, setting_in}
use Rattle.booth_conf.specs.declared.limits.TheConstants.{WEIGHT}
use Rattle.booth_conf.specs.declared.keys.ConfKey.{ConfKey}
use Rattle.booth_conf.specs.declared.keys.Form.{Form}
use Rattle.booth_conf.specs.declared.keys.Form.TheVariants as forms
use Rattle.booth_conf.specs.declared.tickets.GrantKind.{GrantKind}
use Rattle.booth_conf.specs.declared.tickets.GrantKind.TheVariants.{Auto, Manual}
use Rattle.booth_conf.specs.declared.tickets.Prereq.{Prereq as PrereqOf}
use Rattle.booth_conf.specs.declared.settings.Value.{Value}
use Rattle.booth_conf.specs.declared.settings.Value.TheVariants.{Number, Text, Word, Address, Name, Defaults, Weights, Prereq}
use Rattle.booth_conf.specs.declared.settings.Setting.{Setting}
use Rattle.booth_conf.proofs.WordLemmas.{one_found, one_only, four_found, four_only}
use Rattle.booth_conf.proofs.AddressLemmas.{address_found, address_only}

-- a reader reads a form: what it gives has the form, and it gives each value that has it
pub record Reads {X : Type 0} (Form : List ℕ → X → Type 0) (read : List ℕ → Option X) : Type 0 where
  pub found : (text : List ℕ) (x : X) → read text ≡ Some x → Form text x
  pub only : (text : List ℕ) (x : X) → Form text x → read text ≡ Some x

pub eq_found : (xs ys : List ℕ) → bytes_eq xs ys ≡ true → xs ≡ ys
eq_found xs ys = (bytes_eq-Decides xs ys).0

pub eq_only : (xs ys : List ℕ) → xs ≡ ys → bytes_eq xs ys ≡ true
eq_only xs ys = (bytes_eq-Decides xs ys).1

-- NUMBERS

number_found : (least most : ℕ) (text : List ℕ) (n : ℕ) → number_within least most text ≡ Some n →
    IsNumber least most text n
number_found least most text n e = and_then_some (when_within least most) (number_in text) n e (λ x at within.
    let t =
    cond_some (nat_lt 0 (length text) && nat_le (length text) 10 && list_all is_digit text) (worth text) x at in
    let u = cond_some (nat_le least x && nat_le x most) x n within in
    record {
      digits = grind (arith, nat_tests, t.0);
      some = grind (arith, nat_tests, t.0);
      few = grind (arith, nat_tests, t.0);
      value = sym u.1 ∙ sym t.1;
      low = grind (arith, nat_tests, u.0, u.1);
      high = grind (arith, nat_tests, u.0, u.1);
    })

number_only : (least most : ℕ) (text : List ℕ) (n : ℕ) → IsNumber least most text n →
    number_within least most text ≡ Some n
number_only least most text n h =
    let t : (nat_lt 0 (length text) && nat_le (length text) 10 && list_all is_digit text) ≡ true =
    grind (arith, nat_tests, h.some, h.few, h.digits) in
    let u : (nat_le least n && nat_le n most) ≡ true = grind (arith, nat_tests, h.low, h.high) in
    rw (t, ← h.value, u) refl

pub numbers : (least most : ℕ) → Reads (IsNumber least most) (number_within least most)
numbers least most = record { found = number_found least most; only = number_only least most }

-- TEXTS

text_found : (least : ℕ) (text value : List ℕ) → text_in least text ≡ Some value →
    IsText least PATH_BYTES text value
text_found least text value e =
    let t =
    cond_some (nat_le least (length text) && nat_le (length text) PATH_BYTES) text value e in
    record { same = sym t.1; some = grind (arith, nat_tests, t.0); few = grind (arith, nat_tests, t.0) }

text_only : (least : ℕ) (text value : List ℕ) → IsText least PATH_BYTES text value →
    text_in least text ≡ Some value
text_only least text value h =
    let t : (nat_le least (length text) && nat_le (length text) PATH_BYTES) ≡ true =
    grind (arith, nat_tests, h.some, h.few) in
    rw (h.same, t) refl

pub texts : (least : ℕ) → Reads (IsText least PATH_BYTES) (text_in least)
texts least = record { found = text_found least; only = text_only least }

none_if : {A : Type 0} (b : Bool) (o : Option A) (y : A) → cond b o None ≡ Some y →
    (b ≡ true) × (o ≡ Some y)
none_if true o y e = (refl, e)
none_if false o y e = cc

command_found : (text value : List ℕ) → command_in text ≡ Some value → IsCommand text value
command_found text value e =
    let t = none_if (list_any is_word_byte text) (text_in 1 text) value e in
    record { text_of = text_found 1 text value t.1; some_word = t.0 }

command_only : (text value : List ℕ) → IsCommand text value → command_in text ≡ Some value
command_only text value h = rw h.some_word (text_only 1 text value h.text_of)

pub commands : Reads IsCommand command_in
commands = record { found = command_found; only = command_only }

-- PREREQUISITES

kind_at : (word : List ℕ) (a b : Bool) (kind : GrantKind) → bytes_eq word (codes "auto") ≡ a →
    bytes_eq word (codes "manual") ≡ b →
    cond a (Some Auto) (cond b (Some Manual) None) ≡ Some kind → IsKindWord word kind
kind_at word true b Auto e f h = eq_found word (codes "auto") e
kind_at word true b Manual e f h = cc
kind_at word false true Manual e f h = eq_found word (codes "manual") f
kind_at word false true Auto e f h = cc
kind_at word false false kind e f h = cc

kind_found : (word : List ℕ) (kind : GrantKind) → kind_in word ≡ Some kind → IsKindWord word kind
kind_found word kind h =
    kind_at word (bytes_eq word (codes "auto")) (bytes_eq word (codes "manual")) kind refl refl h

kind_only : (word : List ℕ) (kind : GrantKind) → IsKindWord word kind → kind_in word ≡ Some kind
kind_only word Auto h = rw h refl
kind_only word Manual h = rw h refl

test_at : (word : List ℕ) (a b equal : Bool) → bytes_eq word (codes "eq") ≡ a →
    bytes_eq word (codes "ne") ≡ b → cond a (Some true) (cond b (Some false) None) ≡ Some equal →
    IsTestWord word equal
test_at word true b true e f h = eq_found word (codes "eq") e
test_at word true b false e f h = cc
test_at word false true false e f h = eq_found word (codes "ne") f
test_at word false true true e f h = cc
test_at word false false equal e f h = cc

test_found : (word : List ℕ) (equal : Bool) → test_in word ≡ Some equal → IsTestWord word equal
test_found word equal h =
    test_at word (bytes_eq word (codes "eq")) (bytes_eq word (codes "ne")) equal refl refl h

test_only : (word : List ℕ) (equal : Bool) → IsTestWord word equal → test_in word ≡ Some equal
test_only word true h = rw h refl
test_only word false h = rw h refl

prereq_made : (text : List ℕ) (w : Words) (q : PrereqOf) →
    AreWords text (w.0 ∷ w.1 ∷ w.2 ∷ w.3 ∷ []) → prereq_of w ≡ Some q → IsPrereq text q
prereq_made text w q words e =
    and_then_some _ (kind_in w.0) q e (λ kind kind_is e1.
    and_then_some _ (name_in w.1) q e1 (λ name name_is e2.
    and_then_some _ (test_in w.2) q e2 (λ equal test_is e3.
    map_some _ (value_in w.3) q e3 (λ value value_is e4.
    let n = cond_some (is_name w.1) w.1 name name_is in
    let v = cond_some (is_value w.3) w.3 value value_is in
    let given : PrereqOf = record { kind = kind; name = w.1; equal = equal; value = w.3 } in
    let made : IsPrereq text given = record {
      kind = w.0;
      test = w.2;
      words = words;
      kind_is = kind_found w.0 kind kind_is;
      name_is = n.0;
      test_is = test_found w.2 equal test_is;
      value_is = v.0;
    } in
    subst (λ p. IsPrereq text p) (ap (λ x. record { kind = kind; name = x; equal = equal; value = w.3 }) n.1 ∙ ap (λ x. record { kind = kind; name = name; equal = equal; value = x }) v.1 ∙ e4) made))))

prereq_found : (text : List ℕ) (q : PrereqOf) → prereq_in text ≡ Some q → IsPrereq text q
prereq_found text q e =
    and_then_some prereq_of (four_words text) q e (λ w split made. prereq_made text w q (four_found text w split) made)

pub prereq_only : (text : List ℕ) (q : PrereqOf) → IsPrereq text q → prereq_in text ≡ Some q
prereq_only text q h =
    rw (four_only text h.kind q.name h.test q.value h.words, kind_only h.kind q.kind h.kind_is, h.name_is, test_only h.test q.equal h.test_is, h.value_is) refl

pub prereqs : Reads IsPrereq prereq_in
prereqs = record { found = prereq_found; only = prereq_only }

-- WEIGHTS

weight_found : (piece : List ℕ) (n : ℕ) → weight_in piece ≡ Some n → IsWeight piece n
weight_found piece n e =
    and_then_some (number_within 0 WEIGHT) (one_word piece) n e (λ word is value. (word, one_found piece word is, number_found 0 WEIGHT word n value))

weight_only : (piece : List ℕ) (n : ℕ) → IsWeight piece n → weight_in piece ≡ Some n
weight_only piece n (word, words, number) =
    rw (one_only piece word words) (number_only 0 WEIGHT word n number)

-- the weights of the pieces that are left, after those before them
pub record AreBehind (before : List ℕ) (pieces : List (List ℕ)) (all : List ℕ) : Type 0 where
  pub more : List ℕ
  pub numbers : AreWeights pieces more
  pub joined : all ≡ before ++ more
  pub few : length all ≤ MEMBERS

from_found : (before : List ℕ) (pieces : List (List ℕ)) (all : List ℕ) → length before ≤ MEMBERS →
    weights_from before pieces ≡ Some all → AreBehind before pieces all
from_found before [] all few e =
    let same : before ≡ all = cc in
    record { more = []; numbers = tt; joined = sym same ∙ sym (append-nil before); few = subst (λ xs. length xs ≤ MEMBERS) same few }
from_found before (p ∷ ps) all few e =
    and_then_some (λ more. weights_from more ps) (weight_added before p) all e (λ longer added rest.
    and_then_some (λ n. cond (nat_lt (length before) MEMBERS) (Some (before ++ n ∷ [])) None) (weight_in p) longer added (λ n weight pushed.
    let c = cond_some (nat_lt (length before) MEMBERS) (before ++ n ∷ []) longer pushed in
    let room : length longer ≤ MEMBERS =
    subst (λ xs. length xs ≤ MEMBERS) c.1 (grind (arith, nat_tests, length_push before n, c.0)) in
    let b : AreBehind longer ps all = from_found longer ps all room rest in
    record {
      more = n ∷ b.more;
      numbers = (weight_found p n weight, b.numbers);
      joined = b.joined ∙ ap (λ xs. xs ++ b.more) (sym c.1) ∙ append_assoc before (n ∷ []) b.more;
      few = b.few;
    }))

from_only : (before : List ℕ) (pieces : List (List ℕ)) (more : List ℕ) → AreWeights pieces more →
    length (before ++ more) ≤ MEMBERS → weights_from before pieces ≡ Some (before ++ more)
from_only before [] [] h few = ap (λ xs. Some xs) (sym (append-nil before))
from_only before [] (n ∷ ns) h few = absurd h
from_only before (p ∷ ps) [] h few = absurd h
from_only before (p ∷ ps) (n ∷ ns) h few =
    let same : (before ++ n ∷ []) ++ ns ≡ before ++ n ∷ ns = append_assoc before (n ∷ []) ns in
    let fits : length ((before ++ n ∷ []) ++ ns) ≤ MEMBERS =
    subst (λ xs. length xs ≤ MEMBERS) (sym same) few in
    let room : nat_lt (length before) MEMBERS ≡ true =
    grind (arith, nat_tests, length-append before (n ∷ ns), few) in
    rw (weight_only p n h.0, room) (from_only (before ++ n ∷ []) ps ns h.1 fits ∙ ap (λ xs. Some xs) same)

weights_found : (text weights : List ℕ) → weights_in text ≡ Some weights → IsWeightList text weights
weights_found text weights e =
    let b : AreBehind [] (slice_split (λ b. b == 0x2C) text) weights =
    from_found [] (slice_split (λ b. b == 0x2C) text) weights (omega arith) e in
    record { numbers = subst (λ xs. AreWeights (slice_split (λ b. b == 0x2C) text) xs) (sym b.joined) b.numbers; few = b.few }

pub weights_only : (text weights : List ℕ) → IsWeightList text weights →
    weights_in text ≡ Some weights
weights_only text weights h =
    from_only [] (slice_split (λ b. b == 0x2C) text) weights h.numbers h.few

pub weight_lists : Reads IsWeightList weights_in
weight_lists = record { found = weights_found; only = weights_only }

pub addresses : Reads Spells address_in
addresses = record { found = address_found; only = address_only }

-- EACH FORM

-- what a reader makes has the form, where the maker keeps it
made : {X : Type 0} (F : List ℕ → X → Type 0) (read : List ℕ → Option X) (make : X → Value) (form : Form) (text : List ℕ) (value : Value) →
    Reads F read → ((x : X) → F text x → HasForm form text (make x)) →
    option_map make (read text) ≡ Some value → HasForm form text value
made F read make form text value r k e =
    map_some make (read text) value e (λ x is same. subst (λ v. HasForm form text v) same (k x (r.found text x is)))

ticket_at : (text : List ℕ) (a b : Bool) (value : Value) → bytes_eq text default_name ≡ a → is_name text ≡ b →
    cond a (Some Defaults) (option_map Name (cond b (Some text) None)) ≡ Some value →
    HasForm forms.TicketName text value
ticket_at text true b value e f h =
    let same : Defaults ≡ value = cc in
    subst (λ v. HasForm forms.TicketName text v) same (eq_found text default_name e)
ticket_at text false true value e f h =
    let same : Name text ≡ value = cc in
    subst (λ v. HasForm forms.TicketName text v) same (λ same. (let t : true ≡ false = sym (eq_only text default_name same) ∙ e in cc), f, refl)
ticket_at text false false value e f h = cc

pub form_found : (form : Form) (text : List ℕ) (value : Value) → form_in form text ≡ Some value → HasForm form text value
form_found (forms.Number least most) text value e = made _ _ Number (forms.Number least most) text value (numbers least most) (λ x h. h) e
form_found (forms.Text least) text value e = made _ _ Text (forms.Text least) text value (texts least) (λ x h. h) e
form_found forms.Command text value e = made _ _ Text forms.Command text value commands (λ x h. h) e
form_found (forms.OneOf choice) text value e =
    map_some Word _ value e (λ place is same. subst (λ v. HasForm (forms.OneOf choice) text v) same is)
form_found forms.Address text value e = made _ _ Address forms.Address text value addresses (λ x h. h) e
form_found forms.TicketName text value e = ticket_at text (bytes_eq text default_name) (is_name text) value refl refl e
form_found forms.Weights text value e = made _ _ weights_value forms.Weights text value weight_lists (λ x h. h) e
form_found forms.Prereq text value e = made _ _ Prereq forms.Prereq text value prereqs (λ x h. h) e

not_default : (text : List ℕ) (b : Bool) → text ≢ default_name → bytes_eq text default_name ≡ b →
    b ≡ false
not_default text true n e = absurd (n (eq_found text default_name e))
not_default text false n e = refl

pub form_only : (form : Form) (text : List ℕ) (value : Value) → HasForm form text value → form_in form text ≡ Some value
form_only (forms.Number least most) text (Number n) h = ap (option_map Number) ((numbers least most).only text n h)
form_only (forms.Text least) text (Text value) h = ap (option_map Text) ((texts least).only text value h)
form_only forms.Command text (Text value) h = ap (option_map Text) (commands.only text value h)
form_only (forms.OneOf choice) text (Word place) h = ap (option_map Word) h
form_only forms.Address text (Address address) h = ap (option_map Address) (addresses.only text address h)
form_only forms.TicketName text (Name name) h =
    rw (not_default text (bytes_eq text default_name) h.0 refl, h.1) (ap (λ n. Some (Name n)) (sym h.2))
form_only forms.TicketName text Defaults h = rw (eq_only text default_name h) refl
form_only forms.Weights text (Weights weights) h = ap (option_map weights_value) (weight_lists.only text weights.items h)
form_only forms.Prereq text (Prereq prereq) h = ap (option_map Prereq) (prereqs.only text prereq h)
form_only form text value h = absurd h

-- WHAT A KEY SETS

pub setting_found : (key : ConfKey) (text : List ℕ) (s : Setting) → setting_in key text ≡ Some s →
    HasValue key text s
setting_found key text s e =
    map_some (setting_of key) (form_in (row_of key).form text) s e (λ value is same. record { value = value; spelled = form_found (row_of key).form text value is; set = sym same })

pub setting_only : (key : ConfKey) (text : List ℕ) (s : Setting) → HasValue key text s →
    setting_in key text ≡ Some s
setting_only key text s h =
    ap (option_map (setting_of key)) (form_only (row_of key).form text h.value h.spelled) ∙ ap (λ x. Some x) (sym h.set)
