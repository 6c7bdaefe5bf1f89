-- A section: what was given for a key has its form, and one more entry keeps it sound.
use Rattle.std.proofs.Common.{◌≡◌, ◌≤◌, ◌<◌, ◌+◌, ℕ, zero, suc, Bool, true, false, nat_lt, nat_le, List, [], ◌∷◌, ◌++◌, length, take, get_or, Option, Some, None, cond, refl, arith, ap, ◌∙◌, sym, subst, append-nil}
use Rattle.std.specs.Prelude.{count_by, filter, option_map, option_and_then}
use Rattle.std.specs.List.{find, list_all, list_any, filter_map, cons_option}
use Rattle.std.proofs.lemmas.List.{length_push, take_more}
use Rattle.std.proofs.lemmas.List.Elements.{filter_map-append}
use Rattle.std.proofs.lemmas.List.Sums.{sum_by-append, length-filter, count_by-le-length}
use Rattle.std.proofs.lemmas.Bool.Decides.{nat_tests}
use Rattle.arrayvec.specs.ArrayVec.{ArrayVec}
use Rattle.booth_conf.specs.Keys.{row_of, are_one, number_of}
use Rattle.booth_conf.specs.Sections.{has_key, value_of, given, inherited, as_number, as_text, as_weights, prereq_of, is_without_effect, extra_of, too_often, entry_clash}
use Rattle.booth_conf.specs.Sound.{is_within, each, is_text, is_command, is_extra, is_prereq, are_prereqs, are_weights, is_ticket_name, same_key}
use Rattle.booth_conf.specs.SoundDraft.{is_of, is_entry, is_section, is_named_section}
use Rattle.booth_conf.specs.declared.limits.TheConstants.{PREREQS}
use Rattle.booth_conf.specs.declared.keys.ConfKey.{ConfKey}
use Rattle.booth_conf.specs.declared.keys.ConfKey.TheVariants as keys
use Rattle.booth_conf.specs.declared.keys.KeyNo.{KeyNo}
use Rattle.booth_conf.specs.declared.keys.Form.{Form}
use Rattle.booth_conf.specs.declared.keys.Form.TheVariants as forms
use Rattle.booth_conf.specs.declared.tickets.Prereq.{Prereq as PrereqOf}
use Rattle.booth_conf.specs.declared.sections.NamedSection.{NamedSection}
use Rattle.booth_conf.specs.declared.settings.Value.{Value}
use Rattle.booth_conf.specs.declared.settings.Value.TheVariants.{Number, Text, Weights, Prereq}
use Rattle.booth_conf.specs.declared.settings.Entry.{Entry}
use Rattle.booth_conf.proofs.KeyLemmas.{both_true, key_is}

-- LISTS

pub all_push : {X : Type 0} (p : X → Bool) (xs : List X) (x : X) → list_all p xs ≡ true → p x ≡ true →
    list_all p (xs ++ x ∷ []) ≡ true
all_push p [] x h k = rw k refl
all_push p (y ∷ ys) x h k = let b = both_true (p y) (list_all p ys) h in rw (b.0, all_push p ys x b.1 k) refl

-- what one more element gives
pub more_some : {X Y : Type 0} (f : X → Option Y) (xs : List X) (i : ℕ) (x : X) (y : Y) → i < length xs → x ≡ get_or xs i x →
    f x ≡ Some y → filter_map f (take (i + 1) xs) ≡ filter_map f (take i xs) ++ y ∷ []
more_some f xs i x y lt is g =
    ap (filter_map f) (take_more xs i x lt ∙ ap (λ z. take i xs ++ z ∷ []) (sym is))
    ∙ filter_map-append f (take i xs) (x ∷ []) ∙ rw g refl

pub more_none : {X Y : Type 0} (f : X → Option Y) (xs : List X) (i : ℕ) (x : X) → i < length xs → x ≡ get_or xs i x →
    f x ≡ None → filter_map f (take (i + 1) xs) ≡ filter_map f (take i xs)
more_none f xs i x lt is g =
    ap (filter_map f) (take_more xs i x lt ∙ ap (λ z. take i xs ++ z ∷ []) (sym is))
    ∙ filter_map-append f (take i xs) (x ∷ []) ∙ rw g (append-nil (filter_map f (take i xs)))

cons_le : {Y : Type 0} (o : Option Y) (xs ys : List Y) → length xs ≤ length ys →
    length (cons_option o xs) ≤ length (cons_option o ys)
cons_le None xs ys h = h
cons_le (Some y) xs ys h = omega (arith, h)

front_le : {X Y : Type 0} (f : X → Option Y) (xs : List X) (n : ℕ) →
    length (filter_map f (take n xs)) ≤ length (filter_map f xs)
front_le f [] zero = omega arith
front_le f [] (suc n) = omega arith
front_le f (x ∷ xs) zero = omega arith
front_le f (x ∷ xs) (suc n) = cons_le (f x) (filter_map f (take n xs)) (filter_map f xs) (front_le f xs n)

pub all_entries : (section : List Entry) → is_section section ≡ true → list_all is_entry section ≡ true
all_entries section h = (both_true (list_all is_entry section) _ h).0

-- each of sound sections is one
pub section_at : (ts : List NamedSection) (i : ℕ) (t : NamedSection) → list_all is_named_section ts ≡ true → i < length ts →
    t ≡ get_or ts i t → is_section t.section ≡ true
section_at [] i t h lt is = absurd (omega (arith, lt))
section_at (u ∷ us) zero t h lt is =
    let b = both_true (is_named_section u) (list_all is_named_section us) h in
    subst (λ v. is_section v.section ≡ true) (sym is) (both_true (is_ticket_name u.name) (is_section u.section) b.0).1
section_at (u ∷ us) (suc i) t h lt is =
    section_at us i t (both_true (is_named_section u) (list_all is_named_section us) h).1 (omega (arith, lt)) is

-- WHAT WAS GIVEN

given_at : (key : ConfKey) (e : Entry) (section : List Entry) (value : Value) (b : Bool) →
    has_key key e ≡ b → is_entry e ≡ true → (option_map value_of (find (has_key key) section) ≡ Some value → is_of (row_of key).form value ≡ true) →
    option_map value_of (cond b (Some e) (find (has_key key) section)) ≡ Some value →
    is_of (row_of key).form value ≡ true
given_at key e section value true t h rest g =
    let same : e.value ≡ value = cc in
    subst (λ v. is_of (row_of key).form v ≡ true) same (subst (λ k. is_of (row_of k).form e.value ≡ true) (key_is key e.key t) h)
given_at key e section value false t h rest g = rest g

-- what was given for a key has its form
pub given_form : (section : List Entry) (key : ConfKey) (value : Value) →
    list_all is_entry section ≡ true → given key section ≡ Some value → is_of (row_of key).form value ≡ true
given_form [] key value h g = cc
given_form (e ∷ section) key value h g =
    let b = both_true (is_entry e) (list_all is_entry section) h in
    given_at key e section value (has_key key e) refl b.0 (given_form section key value b.1) g

pub number_at : (least most : ℕ) (o : Option Value) → ((v : Value) → o ≡ Some v → is_of (forms.Number least most) v ≡ true) →
    each (is_within least most) (option_and_then as_number o) ≡ true
number_at least most None h = refl
number_at least most (Some (Number n)) h = h (Number n) refl
number_at least most (Some value) h = refl

pub text_at : (least : ℕ) (o : Option Value) → ((v : Value) → o ≡ Some v → is_of (forms.Text least) v ≡ true) →
    each (is_text least) (option_and_then as_text o) ≡ true
text_at least None h = refl
text_at least (Some (Text text)) h = h (Text text) refl
text_at least (Some value) h = refl

pub command_at : (o : Option Value) → ((v : Value) → o ≡ Some v → is_of forms.Command v ≡ true) →
    each is_command (option_and_then as_text o) ≡ true
command_at None h = refl
command_at (Some (Text text)) h = h (Text text) refl
command_at (Some value) h = refl

abbrev pub are_some_weights : ArrayVec ℕ → Bool
are_some_weights ws = are_weights ws.items

pub weights_at : (o : Option Value) → ((v : Value) → o ≡ Some v → is_of forms.Weights v ≡ true) →
    each are_some_weights (option_and_then as_weights o) ≡ true
weights_at None h = refl
weights_at (Some (Weights weights)) h =
    (both_true (nat_lt 0 (length weights.items)) (are_weights weights.items) (h (Weights weights) refl)).1
weights_at (Some value) h = refl

-- ONE MORE ENTRY

some_room : (count most : ℕ) (form : Form) → cond (nat_lt count most) None (Some (too_often form)) ≡ None → count < most
some_room count most form h = grind (arith, nat_tests)

few_prereqs : (section : List Entry) (e : Entry) (b : Bool) → has_key keys.AttrPrereq e ≡ b →
    entry_clash section e ≡ None → count_by (has_key keys.AttrPrereq) section ≤ PREREQS →
    count_by (has_key keys.AttrPrereq) section + (0 + cond b 1 0) ≤ PREREQS
few_prereqs section e true t c few =
    let key : e.key ≡ keys.AttrPrereq = key_is keys.AttrPrereq e.key t in
    let room : count_by (has_key keys.AttrPrereq) section < PREREQS =
    some_room (count_by (has_key keys.AttrPrereq) section) PREREQS forms.Prereq (subst (λ k. entry_clash section (record { key = k; value = e.value }) ≡ None) key c) in
    omega (arith, room)
few_prereqs section e false t c few = omega (arith, few)

-- one more entry of its form keeps a section sound
pub stays_sound : (section : List Entry) (e : Entry) → is_section section ≡ true → entry_clash section e ≡ None →
    is_entry e ≡ true → is_section (section ++ e ∷ []) ≡ true
stays_sound section e h c w =
    let b = both_true (list_all is_entry section) (nat_le (count_by (has_key keys.AttrPrereq) section) PREREQS) h in
    let few : count_by (has_key keys.AttrPrereq) section ≤ PREREQS = grind (arith, nat_tests, b.1) in
    let more : count_by (has_key keys.AttrPrereq) (section ++ e ∷ []) ≡ count_by (has_key keys.AttrPrereq) section + (0 + cond (has_key keys.AttrPrereq e) 1 0) =
    sum_by-append (λ t. cond (has_key keys.AttrPrereq t) 1 0) section (e ∷ []) in
    let room : nat_le (count_by (has_key keys.AttrPrereq) (section ++ e ∷ [])) PREREQS ≡ true =
    grind (arith, nat_tests, more, few_prereqs section e (has_key keys.AttrPrereq e) refl c few) in
    rw (all_push is_entry section e b.0 w, room) refl

-- PREREQUISITES

prereq_key : (key : ConfKey) (q : PrereqOf) → is_of (row_of key).form (Prereq q) ≡ true → are_one keys.AttrPrereq key ≡ true
prereq_key keys.AttrPrereq q h = refl
prereq_key key q h = cc

prereq_form : (form : Form) (q : PrereqOf) → is_of form (Prereq q) ≡ true → is_prereq q ≡ true
prereq_form forms.Prereq q h = h
prereq_form form q h = cc

-- an entry in front counts
counted : (key : ConfKey) (e : Entry) (section : List Entry) →
    count_by (has_key key) (e ∷ section) ≡ (0 + cond (has_key key e) 1 0) + count_by (has_key key) section
counted key e section = sum_by-append (λ t. cond (has_key key t) 1 0) (e ∷ []) section

-- no more prerequisites than entries of the key
prereqs_few : (section : List Entry) → list_all is_entry section ≡ true →
    length (filter_map prereq_of section) ≤ count_by (has_key keys.AttrPrereq) section
prereqs_few [] h = omega arith
prereqs_few (e ∷ section) h =
    let b = both_true (is_entry e) (list_all is_entry section) h in
    at e section e.value refl b.0 (prereqs_few section b.1) where
      at : (e : Entry) (section : List Entry) (v : Value) → e.value ≡ v → is_entry e ≡ true →
          length (filter_map prereq_of section) ≤ count_by (has_key keys.AttrPrereq) section →
          length (filter_map prereq_of (e ∷ section)) ≤ count_by (has_key keys.AttrPrereq) (e ∷ section)
      at e section (Prereq q) t h rest =
          let here : are_one keys.AttrPrereq e.key ≡ true = prereq_key e.key q (rw (sym t) h) in
          rw t (omega (arith, rest, counted keys.AttrPrereq e section, ap {B = ℕ} (λ b. cond b 1 0) here))
      at e section v t h rest = rw t (omega (arith, rest, counted keys.AttrPrereq e section))

prereqs_pass : (section : List Entry) → list_all is_entry section ≡ true →
    list_all is_prereq (filter_map prereq_of section) ≡ true
prereqs_pass [] h = refl
prereqs_pass (e ∷ section) h =
    let b = both_true (is_entry e) (list_all is_entry section) h in
    at e section e.value refl b.0 (prereqs_pass section b.1) where
      at : (e : Entry) (section : List Entry) (v : Value) → e.value ≡ v → is_entry e ≡ true →
          list_all is_prereq (filter_map prereq_of section) ≡ true →
          list_all is_prereq (filter_map prereq_of (e ∷ section)) ≡ true
      at e section (Prereq q) t h rest = rw (t, prereq_form (row_of e.key).form q (rw (sym t) h)) rest
      at e section v t h rest = rw t rest

pub few_given : (section : List Entry) → is_section section ≡ true → length (filter_map prereq_of section) ≤ PREREQS
few_given section h =
    let b = both_true (list_all is_entry section) (nat_le (count_by (has_key keys.AttrPrereq) section) PREREQS) h in
    grind (arith, nat_tests, b.1, prereqs_few section b.0)

-- there is room for each of them
pub prereq_room : (section : List Entry) (i : ℕ) (e : Entry) (q : PrereqOf) → is_section section ≡ true → i < length section →
    e ≡ get_or section i e → prereq_of e ≡ Some q → length (filter_map prereq_of (take i section)) < PREREQS
prereq_room section i e q h lt is g =
    let more : length (filter_map prereq_of (take (i + 1) section)) ≡ length (filter_map prereq_of (take i section)) + 1 =
    ap length (more_some prereq_of section i e q lt is g) ∙ length_push (filter_map prereq_of (take i section)) q in
    omega (arith, more, front_le prereq_of section (i + 1), few_given section h)

pub prereqs_sound : (section : List Entry) → is_section section ≡ true → are_prereqs (filter_map prereq_of section) ≡ true
prereqs_sound section h =
    let few : nat_le (length (filter_map prereq_of section)) PREREQS ≡ true = grind (arith, nat_tests, few_given section h) in
    rw (few, prereqs_pass section (all_entries section h)) refl

-- what a sound section hands on is one
kept_at : (e : Entry) (rest : List Entry) (b : Bool) → is_entry e ≡ true → list_all is_entry rest ≡ true →
    list_all is_entry (cond b (e ∷ rest) rest) ≡ true
kept_at e rest true h k = rw (h, k) refl
kept_at e rest false h k = k

kept_sound : (p : Entry → Bool) (section : List Entry) → list_all is_entry section ≡ true →
    list_all is_entry (filter p section) ≡ true
kept_sound p [] h = refl
kept_sound p (e ∷ section) h =
    let b = both_true (is_entry e) (list_all is_entry section) h in
    kept_at e (filter p section) (p e) b.0 (kept_sound p section b.1)

pub inherited_sound : (section : List Entry) → is_section section ≡ true → is_section (inherited section) ≡ true
inherited_sound section h =
    let b = both_true (list_all is_entry section) (nat_le (count_by (has_key keys.AttrPrereq) section) PREREQS) h in
    let few : nat_le (count_by (has_key keys.AttrPrereq) (inherited section)) PREREQS ≡ true =
    grind (arith, nat_tests, b.1, count_by-le-length (has_key keys.AttrPrereq) (inherited section), length-filter (has_key keys.AttrPrereq) section) in
    rw (kept_sound (has_key keys.AttrPrereq) section b.0, few) refl

-- THE KEYS WITHOUT EFFECT

extra_form : (key : ConfKey) → is_without_effect key ≡ true → (row_of key).form ≡ forms.Text 0
extra_form keys.Debug h = refl
extra_form keys.SiteUser h = refl
extra_form keys.SiteGroup h = refl
extra_form keys.ArbitratorUser h = refl
extra_form keys.ArbitratorGroup h = refl
extra_form key h = cc

-- the key and the text of an entry without effect
record IsExtraOf (e : Entry) (x : KeyNo × List ℕ) : Type 0 where
  without : is_without_effect e.key ≡ true
  text : List ℕ
  value : e.value ≡ Text text
  is : x ≡ (number_of e.key, text)

extra_at : (e : Entry) (v : Value) (b : Bool) (x : KeyNo × List ℕ) → e.value ≡ v → is_without_effect e.key ≡ b →
    cond b (option_map (λ text. (number_of e.key, text)) (as_text v)) None ≡ Some x → IsExtraOf e x
extra_at e (Text text) true x t w h = record { without = w; text = text; value = t; is = cc }
extra_at e v true x t w h = cc
extra_at e v false x t w h = cc

extra_is : (e : Entry) (x : KeyNo × List ℕ) → extra_of e ≡ Some x → IsExtraOf e x
extra_is e x h = extra_at e e.value (is_without_effect e.key) x refl refl h

extra_sound : (e : Entry) (x : KeyNo × List ℕ) → is_entry e ≡ true → extra_of e ≡ Some x → is_extra x ≡ true
extra_sound e x h g =
    let p : IsExtraOf e x = extra_is e x g in
    let good : is_text 0 p.text ≡ true = rw (extra_form e.key p.without, p.value) at h in
    rw p.is (rw (p.without, good) refl)

extras_at : (e : Entry) (o : Option (KeyNo × List ℕ)) (rest : List (KeyNo × List ℕ)) → is_entry e ≡ true →
    extra_of e ≡ o → list_all is_extra rest ≡ true → list_all is_extra (cons_option o rest) ≡ true
extras_at e None rest h g k = k
extras_at e (Some x) rest h g k = rw (extra_sound e x h g, k) refl

pub extras_sound : (section : List Entry) → list_all is_entry section ≡ true →
    list_all is_extra (filter_map extra_of section) ≡ true
extras_sound [] h = refl
extras_sound (e ∷ section) h =
    let b = both_true (is_entry e) (list_all is_entry section) h in
    extras_at e (extra_of e) (filter_map extra_of section) b.0 refl (extras_sound section b.1)

-- none of a section without a key has that key
none_more : (b : Bool) (n m : ℕ) → n ≡ (0 + cond b 1 0) + m → n ≡ 0 → (b ≡ false) × (m ≡ 0)
none_more true n m e z = absurd (omega (arith, e, z))
none_more false n m e z = (refl, omega (arith, e, z))

absent_at : (key : ConfKey) (e : Entry) (o : Option (KeyNo × List ℕ)) (rest : List (KeyNo × List ℕ)) (x : KeyNo × List ℕ) →
    extra_of e ≡ o → x.0 ≡ number_of key → has_key key e ≡ false → list_any (same_key x) rest ≡ false →
    list_any (same_key x) (cons_option o rest) ≡ false
absent_at key e None rest x g is other k = k
absent_at key e (Some y) rest x g is other k =
    let p : IsExtraOf e y = extra_is e y g in
    let apart : same_key x y ≡ false = rw (is, p.is) other in
    rw (apart, k) refl

absent : (key : ConfKey) (section : List Entry) (x : KeyNo × List ℕ) → x.0 ≡ number_of key →
    count_by (has_key key) section ≡ 0 → list_any (same_key x) (filter_map extra_of section) ≡ false
absent key [] x is none = refl
absent key (e ∷ section) x is none =
    let n = none_more (has_key key e) (count_by (has_key key) (e ∷ section)) (count_by (has_key key) section) (counted key e section) none in
    absent_at key e (extra_of e) (filter_map extra_of section) x refl is n.0 (absent key section x is n.1)

-- one more key without effect is a new one
pub extra_new : (section : List Entry) (e : Entry) (x : KeyNo × List ℕ) → entry_clash section e ≡ None → extra_of e ≡ Some x →
    list_any (same_key x) (filter_map extra_of section) ≡ false
extra_new section e x c g =
    let p : IsExtraOf e x = extra_is e x g in
    let few : count_by (has_key e.key) section < 1 =
    some_room (count_by (has_key e.key) section) 1 (forms.Text 0) (rw (extra_form e.key p.without) at c) in
    absent e.key section x (ap (λ y. y.0) p.is) (omega (arith, few))
