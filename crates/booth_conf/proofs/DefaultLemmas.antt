-- A configuration is sound where its draft is.
use Rattle.std.proofs.Common.{◌≡◌, ◌≤◌, ◌*◌, ◌/◌, ℕ, Bool, true, not, ◌&&◌, List, [], ◌∷◌, ◌++◌, map, Option, Some, None, refl, arith, ap, subst}
use Rattle.std.specs.Prelude.{is_some, unwrap_or}
use Rattle.std.specs.List.{list_all, list_any}
use Rattle.std.specs.Option.{option_or}
use Rattle.std.proofs.lemmas.List.{length-map, map-append}
use Rattle.std.proofs.lemmas.Bool.Decides.{nat_tests}
use Rattle.booth_base.specs.declared.times.Times.{Times}
use Rattle.booth_conf.specs.Keys.{row_of}
use Rattle.booth_conf.specs.Sections.{given, number_given, text_given, weights_given}
use Rattle.booth_conf.specs.Rules.{Summary, name_of}
use Rattle.booth_conf.specs.Config.{chosen, chosen_number, renewal_of, times_of, ticket_of, defaults_of, config_of, file_fault}
use Rattle.booth_conf.specs.Lookups.{ticket_name}
use Rattle.booth_conf.specs.Sound.{is_within, each, is_seconds, is_renewal, are_times, is_command, is_ticket_name, is_ticket, are_new, same_ticket, IsSound}
use Rattle.booth_conf.specs.SoundDraft.{is_of, is_entry, is_section, is_named_section, same_section, IsSoundDraft}
use Rattle.booth_conf.specs.declared.keys.ConfKey.{ConfKey}
use Rattle.booth_conf.specs.declared.keys.ConfKey.TheVariants as keys
use Rattle.booth_conf.specs.declared.keys.Form.TheVariants.{Number}
use Rattle.booth_conf.specs.declared.sections.NamedSection.{NamedSection}
use Rattle.booth_conf.specs.declared.settings.Entry.{Entry}
use Rattle.booth_conf.specs.declared.limits.TheConstants.{LEAST_RETRIES, MOST_RETRIES, SECONDS}
use Rattle.booth_conf.specs.declared.defaults.TheConstants.{EXPIRE, PORT, RETRIES, SKEW, TIMEOUT}
use Rattle.booth_conf.proofs.KeyLemmas.{both_true}
use Rattle.booth_conf.proofs.SectionLemmas.{all_entries, given_form, number_at, text_at, command_at, weights_at, are_some_weights, prereqs_sound, extras_sound}

-- a value that is chosen passes the test that each choice passes
each_chosen : {X : Type 0} (p : X → Bool) (own default : Option X) (table : X) → each p own ≡ true →
    each p default ≡ true → p table ≡ true → p (chosen own default table) ≡ true
each_chosen p None None table h k t = t
each_chosen p None (Some x) table h k t = k
each_chosen p (Some x) default table h k t = h

each_or : {X : Type 0} (p : X → Bool) (own default : Option X) → each p own ≡ true →
    each p default ≡ true → each p (option_or own default) ≡ true
each_or p None default h k = k
each_or p (Some x) default h k = h

each_unwrap : {X : Type 0} (p : X → Bool) (o : Option X) (table : X) → each p o ≡ true →
    p table ≡ true → p (unwrap_or o table) ≡ true
each_unwrap p None table h t = t
each_unwrap p (Some x) table h t = h

-- TIMES

whole_seconds : (least n : ℕ) → is_within least SECONDS n ≡ true →
    is_seconds least (1000 * n) ≡ true
whole_seconds least n h =
    let e : 1000 * n / 1000 ≡ n = omega arith in
    rw (e, h) (grind (arith, nat_tests))

renewal_sound : (o : Option ℕ) (times : Times) → times.renewal ≡ renewal_of o times.expire →
    each (is_within 1 SECONDS) o ≡ true → is_renewal times ≡ true
renewal_sound None times e h = grind (arith, nat_tests)
renewal_sound (Some n) times e h =
    let s : is_seconds 1 times.renewal ≡ true = rw e (whole_seconds 1 n h) in
    grind (arith, nat_tests)

all_five : (a b c d e : Bool) → a ≡ true → b ≡ true → c ≡ true → d ≡ true → e ≡ true →
    (a && (b && (c && (d && e)))) ≡ true
all_five a b c d e f g h i j = rw (f, g, h, i, j) refl

given_within : (least most : ℕ) (key : ConfKey) (section : List Entry) → (row_of key).form ≡ Number least most →
    list_all is_entry section ≡ true → each (is_within least most) (number_given key section) ≡ true
given_within least most key section form h =
    number_at least most (given key section) (λ v e. subst (λ f. is_of f v ≡ true) form (given_form section key v h e))

-- what is chosen for a key of numbers is in their range
chosen_within : (least most : ℕ) (key : ConfKey) (defaults own : List Entry) (table : ℕ) → (row_of key).form ≡ Number least most →
    list_all is_entry defaults ≡ true → list_all is_entry own ≡ true → is_within least most table ≡ true →
    is_within least most (chosen_number key defaults own table) ≡ true
chosen_within least most key defaults own table form d o t =
    each_chosen (is_within least most) (number_given key own) (number_given key defaults) table
    (given_within least most key own form o) (given_within least most key defaults form d) t

times_sound : (defaults own : List Entry) → list_all is_entry defaults ≡ true → list_all is_entry own ≡ true →
    are_times (times_of defaults own) ≡ true
times_sound defaults own d o =
    all_five _ _ _ _ _
    (whole_seconds 1 (chosen_number keys.Expire defaults own EXPIRE) (chosen_within 1 SECONDS keys.Expire defaults own EXPIRE refl d o refl))
    (whole_seconds 0 (chosen_number keys.AcquireAfter defaults own 0) (chosen_within 0 SECONDS keys.AcquireAfter defaults own 0 refl d o refl))
    (whole_seconds 1 (chosen_number keys.Timeout defaults own TIMEOUT) (chosen_within 1 SECONDS keys.Timeout defaults own TIMEOUT refl d o refl))
    (chosen_within LEAST_RETRIES MOST_RETRIES keys.Retries defaults own RETRIES refl d o refl)
    (renewal_sound (option_or (number_given keys.RenewalFreq own) (number_given keys.RenewalFreq defaults)) (times_of defaults own) refl
    (each_or (is_within 1 SECONDS) (number_given keys.RenewalFreq own) (number_given keys.RenewalFreq defaults) (given_within 1 SECONDS keys.RenewalFreq own refl o) (given_within 1 SECONDS keys.RenewalFreq defaults refl d)))

-- TICKETS

ticket_sound : (defaults : List Entry) (t : NamedSection) → list_all is_entry defaults ≡ true →
    is_named_section t ≡ true → is_ticket (ticket_of defaults t) ≡ true
ticket_sound defaults t d h =
    let n = both_true (is_ticket_name t.name) (is_section t.section) h in
    let o : list_all is_entry t.section ≡ true = all_entries t.section n.1 in
    all_five _ _ _ _ _
    n.0
    (times_sound defaults t.section d o)
    (each_chosen are_some_weights (weights_given keys.Weights t.section) (weights_given keys.Weights defaults) (record { items = [] }) (weights_at (given keys.Weights t.section) (λ v. given_form t.section keys.Weights v o)) (weights_at (given keys.Weights defaults) (λ v. given_form defaults keys.Weights v d)) refl)
    (each_or is_command (text_given keys.BeforeAcquireHandler t.section) (text_given keys.BeforeAcquireHandler defaults) (command_at (given keys.BeforeAcquireHandler t.section) (λ v. given_form t.section keys.BeforeAcquireHandler v o)) (command_at (given keys.BeforeAcquireHandler defaults) (λ v. given_form defaults keys.BeforeAcquireHandler v d)))
    (prereqs_sound t.section n.1)

tickets_sound : (defaults : List Entry) (ts : List NamedSection) → list_all is_entry defaults ≡ true →
    list_all is_named_section ts ≡ true → list_all is_ticket (map (ticket_of defaults) ts) ≡ true
tickets_sound defaults [] d h = refl
tickets_sound defaults (t ∷ ts) d h =
    let b = both_true (is_named_section t) (list_all is_named_section ts) h in
    rw (ticket_sound defaults t d b.0) (tickets_sound defaults ts d b.1)

same_any : (defaults : List Entry) (t : NamedSection) (before : List NamedSection) →
    list_any (same_ticket (ticket_of defaults t)) (map (ticket_of defaults) before) ≡ list_any (same_section t) before
same_any defaults t [] = refl
same_any defaults t (u ∷ us) = rw (same_any defaults t us) refl

new_sound : (defaults : List Entry) (before ts : List NamedSection) →
    are_new same_section before ts ≡ true →
    are_new same_ticket (map (ticket_of defaults) before) (map (ticket_of defaults) ts) ≡ true
new_sound defaults before [] h = refl
new_sound defaults before (t ∷ ts) h =
    let b =
    both_true (not (list_any (same_section t) before)) (are_new same_section (before ++ t ∷ []) ts) h in
    rw (same_any defaults t before, b.0, ← map-append (ticket_of defaults) before (t ∷ [])) (new_sound defaults (before ++ t ∷ []) ts b.1)

defaults_sound : (d : Summary) → IsSoundDraft d → list_all is_entry (defaults_of d) ≡ true
defaults_sound d h = all_entries (defaults_of d) (each_unwrap is_section d.defaults [] h.defaults refl)

-- the port fits its type
pub port_fits : (top : List Entry) (port : ℕ) → is_section top ≡ true → number_given keys.Port top ≡ Some port →
    port ≤ 65535
port_fits top port h e =
    let w : each (is_within 1 65535) (number_given keys.Port top) ≡ true = given_within 1 65535 keys.Port top refl (all_entries top h) in
    let p : is_within 1 65535 port ≡ true = rw e at w in
    grind (arith, nat_tests)

pub config_sound : (d : Summary) → IsSoundDraft d →
    file_fault (config_of d).members (config_of d).tickets ≡ None → IsSound (config_of d)
config_sound d h none =
    let facts : list_all is_entry (defaults_of d) ≡ true = defaults_sound d h in
    let top : list_all is_entry d.top ≡ true = all_entries d.top h.top in
    record {
      port = each_unwrap (is_within 1 65535) (number_given keys.Port d.top) PORT (given_within 1 65535 keys.Port d.top refl top) refl;
      authfile = text_at 1 (given keys.Authfile d.top) (λ v. given_form d.top keys.Authfile v top);
      skew = each_unwrap (is_within 1 SECONDS) (number_given keys.Maxtimeskew d.top) SKEW (given_within 1 SECONDS keys.Maxtimeskew d.top refl top) refl;
      authfile_old = text_at 1 (given keys.AuthfileOld d.top) (λ v. given_form d.top keys.AuthfileOld v top);
      extras = extras_sound d.top top;
      new_extras = h.new_extras;
      members = h.members;
      new_members = h.new_members;
      few_members = h.few_members;
      tickets = tickets_sound (defaults_of d) d.tickets facts h.tickets;
      new_tickets = new_sound (defaults_of d) [] d.tickets h.new_tickets;
      few_tickets = omega (arith, length-map d.tickets (ticket_of (defaults_of d)), h.few_tickets);
      no_fault = ap is_some none;
    }

pub names_of : (defaults : List Entry) (ts : List NamedSection) →
    map name_of ts ≡ map ticket_name (map (ticket_of defaults) ts)
names_of defaults [] = refl
names_of defaults (t ∷ ts) = ap (λ ns. t.name ∷ ns) (names_of defaults ts)
