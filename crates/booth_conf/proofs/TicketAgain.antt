-- What is printed of a ticket clashes nowhere and says that ticket.
use Rattle.std.proofs.Common.{◌≡◌, ◌≤◌, ◌+◌, ◌*◌, ◌/◌, ◌==◌, ℕ, Bool, true, false, nat_lt, nat_le, List, [], ◌∷◌, ◌++◌, length, map, Option, Some, None, cond, refl, arith, lit≤, ap, ◌∙◌}
use Rattle.std.specs.Prelude.{count_by, option_map, option_and_then, unwrap_or, if◌then◌else◌}
use Rattle.std.specs.List.{list_all, filter_map}
use Rattle.std.specs.Option.{option_or}
use Rattle.std.proofs.lemmas.List.Folds.{list_all-append}
use Rattle.std.proofs.lemmas.List.Sums.{sum_by-append}
use Rattle.std.proofs.lemmas.Bool.Decides.{nat_tests}
use Rattle.booth_base.specs.declared.times.Times.{Times}
use Rattle.booth_conf.specs.Keys.{row_of, are_one}
use Rattle.booth_conf.specs.Sections.{has_key, given, as_number, as_text, as_weights, prereq_of, entry_clash, most_of, as_word}
use Rattle.booth_conf.specs.Config.{is_manual, renewal_of, ticket_of, is_yes}
use Rattle.booth_conf.specs.Print.{set, optional, renewal_said, weights_said, prereq_entry, word_of, key_entries, steady_said, steady_entries}
use Rattle.booth_conf.specs.Sound.{is_within, is_seconds, is_renewal, are_times, is_ticket, is_ticket_name, are_weights, each, is_command, are_prereqs, is_prereq}
use Rattle.booth_conf.specs.declared.limits.TheConstants.{LEAST_RETRIES, MOST_RETRIES, PREREQS, SECONDS}
use Rattle.booth_conf.specs.declared.keys.ConfKey.{ConfKey}
use Rattle.booth_conf.specs.declared.keys.ConfKey.TheVariants as keys
use Rattle.booth_conf.specs.declared.keys.Form.{Form}
use Rattle.booth_conf.specs.declared.keys.Form.TheVariants as forms
use Rattle.booth_conf.specs.declared.tickets.Prereq.{Prereq as PrereqOf}
use Rattle.booth_conf.specs.declared.tickets.TicketConf.{TicketConf}
use Rattle.booth_conf.specs.declared.sections.NamedSection.{NamedSection}
use Rattle.booth_conf.specs.declared.settings.Value.{Value}
use Rattle.booth_conf.specs.declared.settings.Value.TheVariants.{Number, Text, Word}
use Rattle.booth_conf.specs.declared.settings.Entry.{Entry}
use Rattle.booth_conf.proofs.KeyLemmas.{both_true}

-- WHAT IS GIVEN BEHIND OPTIONAL KEYS

pub given_behind : (key other : ConfKey) (o : Option Value) (rest : List Entry) → are_one key other ≡ false →
    given key (optional other o ++ rest) ≡ given key rest
given_behind key other None rest h = refl
given_behind key other (Some value) rest h = rw h refl

pub given_here : (key : ConfKey) (o : Option Value) (rest : List Entry) → are_one key key ≡ true →
    given key rest ≡ None → given key (optional key o ++ rest) ≡ o
given_here key None rest h none = none
given_here key (Some value) rest h none = rw h refl

given_prereqs : (key : ConfKey) (qs : List PrereqOf) (rest : List Entry) → are_one key keys.AttrPrereq ≡ false →
    given key (map prereq_entry qs ++ rest) ≡ given key rest
given_prereqs key [] rest h = refl
given_prereqs key (q ∷ qs) rest h = rw h (given_prereqs key qs rest h)

-- the settings from each optional key on
abbrev mode_on : TicketConf → List Entry
mode_on t = set keys.Mode (Word (word_of t.manual)) ∷ steady_entries t.steady

abbrev prereqs_on : TicketConf → List Entry
prereqs_on t = map prereq_entry t.prereqs ++ mode_on t

abbrev handler_on : TicketConf → List Entry
handler_on t = optional keys.BeforeAcquireHandler (option_map Text t.handler) ++ prereqs_on t

abbrev weights_on : TicketConf → List Entry
weights_on t = optional keys.Weights (weights_said t.weights.items) ++ handler_on t

unsaid_steady : (key : ConfKey) (steady : Bool) → are_one key keys.Steady ≡ false → given key (steady_entries steady) ≡ None
unsaid_steady key false h = refl
unsaid_steady key true h = rw h refl

handler_given : (t : TicketConf) → given keys.BeforeAcquireHandler (key_entries t) ≡ option_map Text t.handler
handler_given t =
    given_behind keys.BeforeAcquireHandler keys.RenewalFreq (option_map Number (renewal_said t.times)) (weights_on t) refl
    ∙ given_behind keys.BeforeAcquireHandler keys.Weights (weights_said t.weights.items) (handler_on t) refl
    ∙ given_here keys.BeforeAcquireHandler (option_map Text t.handler) (prereqs_on t) refl (given_prereqs keys.BeforeAcquireHandler t.prereqs (mode_on t) refl ∙ unsaid_steady keys.BeforeAcquireHandler t.steady refl)

weights_are : (t : TicketConf) → given keys.Weights (key_entries t) ≡ weights_said t.weights.items
weights_are t =
    given_behind keys.Weights keys.RenewalFreq (option_map Number (renewal_said t.times)) (weights_on t) refl
    ∙ given_here keys.Weights (weights_said t.weights.items) (handler_on t) refl
    (given_behind keys.Weights keys.BeforeAcquireHandler (option_map Text t.handler) (prereqs_on t) refl ∙ given_prereqs keys.Weights t.prereqs (mode_on t) refl ∙ unsaid_steady keys.Weights t.steady refl)

renewal_given : (t : TicketConf) → given keys.RenewalFreq (key_entries t) ≡ option_map Number (renewal_said t.times)
renewal_given t =
    given_here keys.RenewalFreq (option_map Number (renewal_said t.times)) (weights_on t) refl
    (given_behind keys.RenewalFreq keys.Weights (weights_said t.weights.items) (handler_on t) refl
    ∙ given_behind keys.RenewalFreq keys.BeforeAcquireHandler (option_map Text t.handler) (prereqs_on t) refl
    ∙ given_prereqs keys.RenewalFreq t.prereqs (mode_on t) refl
    ∙ unsaid_steady keys.RenewalFreq t.steady refl)

mode_given : (t : TicketConf) → given keys.Mode (key_entries t) ≡ Some (Word (word_of t.manual))
mode_given t =
    given_behind keys.Mode keys.RenewalFreq (option_map Number (renewal_said t.times)) (weights_on t) refl
    ∙ given_behind keys.Mode keys.Weights (weights_said t.weights.items) (handler_on t) refl
    ∙ given_behind keys.Mode keys.BeforeAcquireHandler (option_map Text t.handler) (prereqs_on t) refl
    ∙ given_prereqs keys.Mode t.prereqs (mode_on t) refl

steady_here : (steady : Bool) → given keys.Steady (steady_entries steady) ≡ steady_said steady
steady_here false = refl
steady_here true = refl

steady_given : (t : TicketConf) → given keys.Steady (key_entries t) ≡ steady_said t.steady
steady_given t =
    given_behind keys.Steady keys.RenewalFreq (option_map Number (renewal_said t.times)) (weights_on t) refl
    ∙ given_behind keys.Steady keys.Weights (weights_said t.weights.items) (handler_on t) refl
    ∙ given_behind keys.Steady keys.BeforeAcquireHandler (option_map Text t.handler) (prereqs_on t) refl
    ∙ given_prereqs keys.Steady t.prereqs (mode_on t) refl
    ∙ steady_here t.steady

-- PREREQUISITES

no_prereq_number : (o : Option ℕ) (rest : List Entry) →
    filter_map prereq_of (optional keys.RenewalFreq (option_map Number o) ++ rest) ≡ filter_map prereq_of rest
no_prereq_number None rest = refl
no_prereq_number (Some n) rest = refl

no_prereq_weights : (ws : List ℕ) (rest : List Entry) →
    filter_map prereq_of (optional keys.Weights (weights_said ws) ++ rest) ≡ filter_map prereq_of rest
no_prereq_weights [] rest = refl
no_prereq_weights (n ∷ ns) rest = refl

no_prereq_handler : (o : Option (List ℕ)) (rest : List Entry) →
    filter_map prereq_of (optional keys.BeforeAcquireHandler (option_map Text o) ++ rest) ≡ filter_map prereq_of rest
no_prereq_handler None rest = refl
no_prereq_handler (Some text) rest = refl

no_prereq_steady : (steady : Bool) → filter_map prereq_of (steady_entries steady) ≡ []
no_prereq_steady false = refl
no_prereq_steady true = refl

prereqs_here : (qs : List PrereqOf) (t : TicketConf) → filter_map prereq_of (map prereq_entry qs ++ mode_on t) ≡ qs
prereqs_here [] t = no_prereq_steady t.steady
prereqs_here (q ∷ qs) t = ap (λ xs. q ∷ xs) (prereqs_here qs t)

prereqs_given : (t : TicketConf) → filter_map prereq_of (key_entries t) ≡ t.prereqs
prereqs_given t =
    no_prereq_number (renewal_said t.times) (weights_on t)
    ∙ no_prereq_weights t.weights.items (handler_on t)
    ∙ no_prereq_handler t.handler (prereqs_on t)
    ∙ prereqs_here t.prereqs t

-- THE TICKET

-- what the test of a ticket says of its values
pub record TicketFacts (t : TicketConf) : Type 0 where
  pub name : is_ticket_name t.name ≡ true
  pub times : are_times t.times ≡ true
  pub weights : are_weights t.weights.items ≡ true
  pub handler : each is_command t.handler ≡ true
  pub prereqs : are_prereqs t.prereqs ≡ true

pub ticket_facts : (t : TicketConf) → is_ticket t ≡ true → TicketFacts t
ticket_facts t h =
    let a = both_true _ _ h in
    let b = both_true _ _ a.1 in
    let c = both_true _ _ b.1 in
    let d = both_true _ _ c.1 in
    record { name = a.0; times = b.0; weights = c.0; handler = d.0; prereqs = d.1 }

pub record TimesFacts (times : Times) : Type 0 where
  pub expire : is_seconds 1 times.expire ≡ true
  pub after : is_seconds 0 times.after ≡ true
  pub timeout : is_seconds 1 times.timeout ≡ true
  pub retries : is_within LEAST_RETRIES MOST_RETRIES times.retries ≡ true
  pub renewal : is_renewal times ≡ true

pub times_facts : (times : Times) → are_times times ≡ true → TimesFacts times
times_facts times h =
    let a = both_true _ _ h in
    let b = both_true _ _ a.1 in
    let c = both_true _ _ b.1 in
    let d = both_true _ _ c.1 in
    record { expire = a.0; after = b.0; timeout = c.0; retries = d.0; renewal = d.1 }

pub ticket_few : (t : TicketConf) → is_ticket t ≡ true → length t.prereqs ≤ PREREQS
ticket_few t h =
    let f : TicketFacts t = ticket_facts t h in
    let b =
    both_true (nat_le (length t.prereqs) PREREQS) (list_all is_prereq t.prereqs) f.prereqs in
    grind (arith, nat_tests, b.0)

-- the section that is printed of a ticket
abbrev pub named_said : TicketConf → NamedSection
named_said t = record { name = t.name; section = key_entries t }

seconds_again : (least ms : ℕ) → is_seconds least ms ≡ true → 1000 * (ms / 1000) ≡ ms
seconds_again least ms h = let b = both_true (1000 * (ms / 1000) == ms) (is_within least SECONDS (ms / 1000)) h in grind (arith, nat_tests, b.0)

renewal_at : (times : Times) (b : Bool) → (times.renewal == times.expire / 2) ≡ b → is_renewal times ≡ true →
    renewal_of (option_or (option_and_then as_number (option_map Number (if b then None else Some (times.renewal / 1000)))) None) times.expire ≡ times.renewal
renewal_at times true e h = grind (arith, nat_tests)
renewal_at times false e h = seconds_again 1 times.renewal (grind (arith, nat_tests))

handler_at : (o : Option (List ℕ)) → option_or (option_and_then as_text (option_map Text o)) None ≡ o
handler_at None = refl
handler_at (Some text) = refl

weights_at : (ws : List ℕ) →
    unwrap_or (option_or (option_and_then as_weights (weights_said ws)) None) (record { items = [] }) ≡ record { items = ws }
weights_at [] = refl
weights_at (n ∷ ns) = refl

manual_at : (manual : Bool) → is_manual (word_of manual) ≡ manual
manual_at true = refl
manual_at false = refl

steady_at : (steady : Bool) → is_yes (unwrap_or (option_or (option_and_then as_word (steady_said steady)) None) 0) ≡ steady
steady_at false = refl
steady_at true = refl

-- what is printed of a ticket says that ticket
pub ticket_again : (t : TicketConf) → is_ticket t ≡ true → ticket_of [] (named_said t) ≡ t
ticket_again t h =
    let f : TicketFacts t = ticket_facts t h in
    let g : TimesFacts t.times = times_facts t.times f.times in
    rw (mode_given t, manual_at t.manual, steady_given t, steady_at t.steady, weights_are t, weights_at t.weights.items, handler_given t, handler_at t.handler, prereqs_given t, renewal_given t, seconds_again 1 t.times.expire g.expire, seconds_again 0 t.times.after g.after, seconds_again 1 t.times.timeout g.timeout, renewal_at t.times (t.times.renewal == t.times.expire / 2) refl g.renewal) refl

-- NO CLASH: the keys stand in the order of the table, so each is new

-- these entries may stand behind those
abbrev pub MayStand : List Entry → List Entry → Type 0
MayStand before [] = Unit {0}
MayStand before (e ∷ es) = (entry_clash before e ≡ None) × MayStand (before ++ e ∷ []) es

abbrev pub number_at : Entry → ℕ
number_at s = (row_of s.key).number

-- all have smaller numbers
abbrev pub are_below : ℕ → List Entry → Bool
are_below n settings = list_all (λ s. nat_lt (number_at s) n) settings

pub none_counted : (key : ConfKey) (settings : List Entry) → are_below (row_of key).number settings ≡ true →
    count_by (has_key key) settings ≡ 0
none_counted key [] h = refl
none_counted key (s ∷ settings) h =
    let b = both_true (nat_lt (number_at s) (row_of key).number) (are_below (row_of key).number settings) h in
    let other : has_key key s ≡ false = grind (arith, nat_tests, b.0) in
    rw other (none_counted key settings b.1)

pub may_once : (form : Form) → nat_lt 0 (most_of form) ≡ true
may_once forms.Prereq = refl
may_once form = refl

pub may_behind : (before : List Entry) (s : Entry) → are_below (number_at s) before ≡ true → entry_clash before s ≡ None
may_behind before s h = rw (none_counted s.key before h, may_once (row_of s.key).form) refl

pub below_more : (m n : ℕ) (es : List Entry) → m ≤ n → are_below m es ≡ true → are_below n es ≡ true
below_more m n [] l h = refl
below_more m n (e ∷ es) l h =
    let b = both_true (nat_lt (number_at e) m) (are_below m es) h in
    let here : nat_lt (number_at e) n ≡ true = grind (arith, nat_tests, b.0) in
    rw (here, below_more m n es l b.1) refl

pub below_push : (before : List Entry) (e : Entry) → are_below (number_at e) before ≡ true →
    are_below (number_at e + 1) (before ++ e ∷ []) ≡ true
below_push before e h =
    let here : nat_lt (number_at e) (number_at e + 1) ≡ true = grind (arith, nat_tests) in
    list_all-append (λ s. nat_lt (number_at s) (number_at e + 1)) before (e ∷ [])
    ∙ rw (below_more (number_at e) (number_at e + 1) before (omega arith) h, here) refl

-- an optional key, and what stands behind it
pub behind : (key : ConfKey) (o : Option Value) (before rest : List Entry) → are_below (row_of key).number before ≡ true →
    ((all : List Entry) → are_below ((row_of key).number + 1) all ≡ true → MayStand all rest) →
    MayStand before (optional key o ++ rest)
behind key None before rest h k =
    k before (below_more (row_of key).number ((row_of key).number + 1) before (omega arith) h)
behind key (Some value) before rest h k =
    (may_behind before (set key value) h, k (before ++ set key value ∷ []) (below_push before (set key value) h))

counted_more : (before : List Entry) (q : PrereqOf) →
    count_by (has_key keys.AttrPrereq) (before ++ prereq_entry q ∷ []) ≡ count_by (has_key keys.AttrPrereq) before + 1
counted_more before q = sum_by-append (λ s. cond (has_key keys.AttrPrereq s) 1 0) before (prereq_entry q ∷ [])

stands_prereqs : (qs : List PrereqOf) (before rest : List Entry) → are_below 21 before ≡ true →
    count_by (has_key keys.AttrPrereq) before + length qs ≤ PREREQS →
    ((all : List Entry) → are_below 21 all ≡ true → MayStand all rest) → MayStand before (map prereq_entry qs ++ rest)
stands_prereqs [] before rest h few k = k before h
stands_prereqs (q ∷ qs) before rest h few k =
    let room : nat_lt (count_by (has_key keys.AttrPrereq) before) PREREQS ≡ true = grind (arith, nat_tests) in
    let more : are_below 21 (before ++ prereq_entry q ∷ []) ≡ true =
    list_all-append (λ s. nat_lt (number_at s) 21) before (prereq_entry q ∷ []) ∙ rw h refl in
    (rw room refl, stands_prereqs qs (before ++ prereq_entry q ∷ []) rest more (omega (arith, counted_more before q)) k)

abbrev timed : TicketConf → List Entry
timed t =
    set keys.Expire (Number (t.times.expire / 1000)) ∷ set keys.AcquireAfter (Number (t.times.after / 1000))
    ∷ set keys.Timeout (Number (t.times.timeout / 1000)) ∷ set keys.Retries (Number t.times.retries) ∷ []

stands_steady : (steady : Bool) (before : List Entry) → are_below 24 before ≡ true → MayStand before (steady_entries steady)
stands_steady false before h = tt
stands_steady true before h = (may_behind before (set keys.Steady (Word 1)) h, tt)

stands : (t : TicketConf) → length t.prereqs ≤ PREREQS → MayStand [] (key_entries t)
stands t few = (
  refl,
  (
    refl,
    (
      refl,
      (
        refl,
        behind keys.RenewalFreq (option_map Number (renewal_said t.times)) (timed t) (weights_on t) refl (λ a low_a.
            behind keys.Weights (weights_said t.weights.items) a (handler_on t) low_a (λ b low_b.
            behind keys.BeforeAcquireHandler (option_map Text t.handler) b (prereqs_on t) low_b (λ c low_c.
            let none : count_by (has_key keys.AttrPrereq) c ≡ 0 = none_counted keys.AttrPrereq c low_c in
            stands_prereqs t.prereqs c (mode_on t) (below_more 20 21 c (lit≤ tt) low_c) (omega (arith, none)) (λ d low_d.
            let mode : Entry = set keys.Mode (Word (word_of t.manual)) in
            let low : are_below 24 (d ++ mode ∷ []) ≡ true =
            below_more 22 24 (d ++ mode ∷ []) (lit≤ tt) (below_push d mode low_d) in
            (may_behind d mode low_d, stands_steady t.steady (d ++ mode ∷ []) low))))),
      ),
    ),
  ),
)

-- what is printed of a ticket clashes nowhere
pub ticket_stands : (t : TicketConf) → is_ticket t ≡ true → MayStand [] (key_entries t)
ticket_stands t h = stands t (ticket_few t h)
