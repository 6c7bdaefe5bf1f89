-- A printed configuration is no longer than a text may be.
use Rattle.std.proofs.Common.{◌≡◌, ◌≤◌, ◌<◌, ◌+◌, ◌*◌, ◌==◌, ℕ, Bool, true, false, not, ◌||◌, cond, List, [], ◌∷◌, ◌++◌, length, map, Option, Some, None, refl, arith, ap, ◌∙◌, sym, lit≤, length-append, eqb, eq-eqb}
use Rattle.std.specs.Prelude.{codes, option_map}
use Rattle.std.specs.List.{list_all, list_any, flat_map, IsDistinct, AllByRecursion}
use Rattle.std.proofs.lemmas.List.{length-map}
use Rattle.std.proofs.lemmas.Map.Steps.{length-le_from_distinct_below}
use Rattle.std.proofs.lemmas.List.Folds.{list_any-append}
use Rattle.std.proofs.lemmas.Bool.Decides.{nat_tests}
use Rattle.booth_base.specs.Name.{is_name}
use Rattle.booth_base.specs.Address.{printed as address_text, id_of}
use Rattle.booth_base.specs.declared.limits.TheConstants.{MEMBERS}
use Rattle.booth_base.specs.declared.times.Times.{Times}
use Rattle.booth_conf.specs.Grammar.{is_other}
use Rattle.booth_conf.specs.Keys.{row_of}
use Rattle.booth_conf.specs.Config.{ConfigSays}
use Rattle.booth_conf.specs.Print.{written, pair_line, line_text, lines_text, role_name, entry_name, entry_value, setting_name, setting_value, set, optional, authfile_entries, authfile_old_entries, hash_entry, extra_key, extra_entry, early_entries, late_entries, renewal_said, renewal_entries, weights_said, weights_entries, handler_entries, prereq_entry, word_of, times_entries, key_entries, ticket_settings, settings_of, printed, steady_said, steady_entries}
use Rattle.booth_conf.specs.Sound.{is_within, is_text, is_extra, is_address, is_ticket, are_new, same_key, IsSound}
use Rattle.booth_conf.specs.SoundDraft.{is_entry}
use Rattle.booth_conf.specs.declared.limits.TheConstants.{PREREQS, TEXT_BYTES}
use Rattle.booth_conf.specs.declared.keys.ConfKey.{ConfKey}
use Rattle.booth_conf.specs.declared.keys.ConfKey.TheVariants as keys
use Rattle.booth_conf.specs.declared.keys.KeyNo.{KeyNo}
use Rattle.booth_conf.specs.declared.members.Member.{Member as MemberOf}
use Rattle.booth_conf.specs.declared.tickets.Prereq.{Prereq as PrereqOf}
use Rattle.booth_conf.specs.declared.tickets.TicketConf.{TicketConf}
use Rattle.booth_conf.specs.declared.settings.Value.{Value}
use Rattle.booth_conf.specs.declared.settings.Value.TheVariants.{Number, Text, Word}
use Rattle.booth_conf.specs.declared.settings.Entry.{Entry}
use Rattle.booth_conf.specs.declared.settings.Setting.{Setting}
use Rattle.booth_conf.specs.declared.settings.Setting.TheVariants.{File, Member, Ticket, Defaults, Of}
use Rattle.booth_conf.proofs.KeyLemmas.{both_true, name_most}
use Rattle.booth_conf.proofs.AddressAgain.{address_short}
use Rattle.booth_conf.proofs.FormAgain.{text_most}
use Rattle.booth_conf.proofs.SettingAgain.{is_file_key, is_ticket_key, is_printed, entry_stands}
use Rattle.booth_conf.proofs.TicketAgain.{ticket_few}
use Rattle.booth_conf.proofs.TopAgain.{top_of, extra_facts}

-- EXTRAS: at most ten, since their numbers are different ones below ten

abbrev has_number : ℕ → KeyNo × List ℕ → Bool
has_number n e = e.0.0 == n

abbrev numbers : List (KeyNo × List ℕ) → List ℕ
numbers es = map (λ e. e.0.0) es

apart_at : (n m : ℕ) (before : List (KeyNo × List ℕ)) (b : Bool) → eqb n m ≡ b → list_any (has_number n) before ≡ true →
    list_any (has_number m) before ≡ false → eqb n m ≡ false
apart_at n m before false e h k = e
apart_at n m before true e h k =
    let same : n ≡ m = grind (arith, nat_tests) in
    let f : true ≡ false = sym h ∙ ap (λ x. list_any (has_number x) before) same ∙ k in
    cc

old_apart : (n : ℕ) (before es : List (KeyNo × List ℕ)) → are_new same_key before es ≡ true →
    list_any (has_number n) before ≡ true → AllByRecursion (λ m. eqb n m ≡ false) (numbers es)
old_apart n before [] new h = tt
old_apart n before (e ∷ es) new h =
    let b = both_true (not (list_any (same_key e) before)) (are_new same_key (before ++ e ∷ []) es) new in
    let fresh : list_any (has_number e.0.0) before ≡ false = grind (arith, nat_tests, b.0) in
    let more : list_any (has_number n) (before ++ e ∷ []) ≡ true = list_any-append (has_number n) before (e ∷ []) ∙ rw h refl in
    (apart_at n e.0.0 before (eqb n e.0.0) refl h fresh, old_apart n (before ++ e ∷ []) es b.1 more)

distinct : (before es : List (KeyNo × List ℕ)) → are_new same_key before es ≡ true → IsDistinct eqb (numbers es)
unfolding IsDistinct
distinct before [] new = tt
distinct before (e ∷ es) new =
    let b = both_true (not (list_any (same_key e) before)) (are_new same_key (before ++ e ∷ []) es) new in
    let here : (e.0.0 == e.0.0) ≡ true = eq-eqb e.0.0 e.0.0 refl in
    let more : list_any (has_number e.0.0) (before ++ e ∷ []) ≡ true =
    list_any-append (has_number e.0.0) before (e ∷ []) ∙ rw here (grind (arith, nat_tests)) in
    (old_apart e.0.0 (before ++ e ∷ []) es b.1 more, distinct (before ++ e ∷ []) es b.1)

below_at : (n m : ℕ) (t u : Bool) → eqb n m ≡ t → is_within 5 9 m ≡ true → (t || u) ≡ true → (u ≡ true → n < 10) → n < 10
below_at n m true u e w h k = grind (arith, nat_tests)
below_at n m false u e w h k = k h

below_ten : (es : List (KeyNo × List ℕ)) (n : ℕ) → list_all is_extra es ≡ true → list_any (eqb n) (numbers es) ≡ true → n < 10
below_ten [] n h k = cc
below_ten (e ∷ es) n h k =
    let b = both_true (is_extra e) (list_all is_extra es) h in
    let w = both_true (is_within 5 9 e.0.0) (is_text 0 e.1) b.0 in
    below_at n e.0.0 (eqb n e.0.0) (list_any (eqb n) (numbers es)) refl w.0 k (λ rest. below_ten es n b.1 rest)

few_extras : (es : List (KeyNo × List ℕ)) → list_all is_extra es ≡ true →
    are_new same_key [] es ≡ true → length es ≤ 10
few_extras es h new =
    omega (arith, length-map es (λ e. e.0.0), length-le_from_distinct_below (numbers es) 10 (distinct [] es new) (λ n k. below_ten es n h k))

-- LINES

written_by : (value : List ℕ) (a b : Bool) →
    length (cond a (0x22 ∷ (value ++ 0x22 ∷ [])) (cond b (0x27 ∷ (value ++ 0x27 ∷ [])) value)) ≤ length value + 2
written_by value true b = omega (arith, length-append value (0x22 ∷ []))
written_by value false true = omega (arith, length-append value (0x27 ∷ []))
written_by value false false = omega arith

line_len : (name value : List ℕ) → length (line_text name value) ≤ length name + length value + 6
unfolding line_text
line_len name value =
    let w : length (written value) ≤ length value + 2 =
    written_by value (list_all (is_other 0x22) value) (list_all (is_other 0x27) value) in
    omega (arith, w, length-append (pair_line name value) (0x0A ∷ []), length-append name (codes " = " ++ written value), length-append (codes " = ") (written value))

-- how long the line of an entry, and of a setting, may be
abbrev entry_most : Entry → ℕ
entry_most e = 28 + text_most (row_of e.key).form

abbrev line_most : Setting → ℕ
line_most (File e) = entry_most e
line_most (Member m) = 110
line_most (Ticket name) = 91
line_most Defaults = 39
line_most (Of e) = entry_most e

entry_len : (e : Entry) → is_entry e ≡ true → length (line_text (entry_name e) (entry_value e)) ≤ entry_most e
entry_len e h = omega (arith, line_len (entry_name e) (entry_value e), name_most e.key, (entry_stands e h).1)

role_len : (site : Bool) → length (role_name site) ≤ 22
role_len true = lit≤ tt
role_len false = lit≤ tt

setting_len : (s : Setting) → is_printed s ≡ true →
    length (line_text (setting_name s) (setting_value s)) ≤ line_most s
setting_len (File e) h = entry_len e (both_true (is_file_key e.key) (is_entry e) h).1
setting_len (Member m) h =
    let b = both_true (is_address m.address) (m.id.0 == id_of m.address) h in
    omega (arith, line_len (role_name m.site) (address_text m.address), role_len m.site, address_short m.address b.0)
setting_len (Ticket name) h =
    let short : length name ≤ 63 = grind (arith, nat_tests, (both_true (is_name name) _ h).0) in
    omega (arith, line_len (row_of keys.Ticket).name name, short)
setting_len Defaults h = cc
setting_len (Of e) h = entry_len e (both_true (is_ticket_key e.key) (is_entry e) h).1

-- TOTALS

abbrev total : List Setting → ℕ
total [] = 0
total (s ∷ ss) = line_most s + total ss

total_append : (xs ys : List Setting) → total (xs ++ ys) ≡ total xs + total ys
total_append [] ys = omega arith
total_append (x ∷ xs) ys = omega (arith, total_append xs ys)

lines_len : (ss : List Setting) → list_all is_printed ss ≡ true → length (lines_text ss) ≤ total ss
lines_len [] h = omega arith
lines_len (s ∷ ss) h =
    let b = both_true (is_printed s) (list_all is_printed ss) h in
    omega (arith, setting_len s b.0, lines_len ss b.1, length-append (line_text (setting_name s) (setting_value s)) (lines_text ss))

-- of entries
abbrev sum : List Entry → ℕ
sum [] = 0
sum (e ∷ es) = entry_most e + sum es

sum_append : (xs ys : List Entry) → sum (xs ++ ys) ≡ sum xs + sum ys
sum_append [] ys = omega arith
sum_append (x ∷ xs) ys = omega (arith, sum_append xs ys)

total_file : (es : List Entry) → total (map File es) ≡ sum es
total_file [] = refl
total_file (e ∷ es) = omega (arith, total_file es)

total_of : (es : List Entry) → total (map Of es) ≡ sum es
total_of [] = refl
total_of (e ∷ es) = omega (arith, total_of es)

sum_optional : (key : ConfKey) (o : Option Value) → sum (optional key o) ≤ 28 + text_most (row_of key).form
sum_optional key None = omega arith
sum_optional key (Some value) = omega arith

sum_extras : (es : List (KeyNo × List ℕ)) → list_all is_extra es ≡ true → sum (map extra_entry es) ≡ 283 * length es
sum_extras [] h = omega arith
sum_extras (e ∷ es) h =
    let b = both_true (is_extra e) (list_all is_extra es) h in
    let most : text_most (row_of (extra_key e.0)).form ≡ 255 = ap text_most (extra_facts e b.0).form in
    omega (arith, most, sum_extras es b.1)

total_members : (ms : List MemberOf) → total (map Member ms) ≡ 110 * length ms
total_members [] = omega arith
total_members (m ∷ ms) = omega (arith, total_members ms)

sum_prereqs : (qs : List PrereqOf) → sum (map prereq_entry qs) ≡ 229 * length qs
sum_prereqs [] = omega arith
sum_prereqs (q ∷ qs) = omega (arith, sum_prereqs qs)

sum_times : (times : Times) → sum (times_entries times) ≤ 190
sum_times times =
    let renewal : sum (renewal_entries times) ≤ 38 = sum_optional keys.RenewalFreq (option_map Number (renewal_said times)) in
    omega (arith, renewal)

abbrev ticket_most : ℕ
ticket_most = 660 + 11 * MEMBERS + 229 * PREREQS

total_ticket : (t : TicketConf) → length t.prereqs ≤ PREREQS →
    total (ticket_settings t) ≤ ticket_most
total_ticket t few =
    let steady : List Entry = steady_entries t.steady in
    let mode : List Entry = set keys.Mode (Word (word_of t.manual)) ∷ steady in
    let most_steady : sum steady ≤ 34 = sum_optional keys.Steady (steady_said t.steady) in
    let prereqs : List Entry = map prereq_entry t.prereqs in
    let handler : List Entry = handler_entries t.handler in
    let weights : List Entry = weights_entries t.weights.items in
    let most_weights : sum weights ≤ 28 + 11 * MEMBERS = sum_optional keys.Weights (weights_said t.weights.items) in
    let most_handler : sum handler ≤ 283 = sum_optional keys.BeforeAcquireHandler (option_map Text t.handler) in
    let most_mode : sum mode ≤ 68 = omega (arith, most_steady) in
    omega (
      arith,
      total_of (key_entries t),
      sum_append (times_entries t.times) (weights ++ (handler ++ (prereqs ++ mode))),
      sum_append weights (handler ++ (prereqs ++ mode)),
      sum_append handler (prereqs ++ mode),
      sum_append prereqs mode,
      sum_times t.times,
      most_weights,
      most_handler,
      sum_prereqs t.prereqs,
      most_mode,
    )

total_tickets : (ts : List TicketConf) → list_all is_ticket ts ≡ true →
    total (flat_map ticket_settings ts) ≤ ticket_most * length ts
total_tickets [] h = omega arith
total_tickets (t ∷ ts) h =
    let b = both_true (is_ticket t) (list_all is_ticket ts) h in
    omega (arith, total_append (ticket_settings t) (flat_map ticket_settings ts), total_ticket t (ticket_few t b.0), total_tickets ts b.1)

sum_top : (c : ConfigSays) → list_all is_extra c.extras ≡ true → length c.extras ≤ 10 → sum (top_of c) ≤ 3540
sum_top c h few =
    let authfile : sum (authfile_entries c.authfile) ≤ 283 = sum_optional keys.Authfile (option_map Text c.authfile) in
    let authfile_old : sum (authfile_old_entries c.authfile_old) ≤ 283 = sum_optional keys.AuthfileOld (option_map Text c.authfile_old) in
    omega (
      arith,
      sum_append (early_entries c.port c.authfile c.skew) (late_entries c.authfile_old c.auth_hash c.extras),
      sum_append (authfile_entries c.authfile) (set keys.Maxtimeskew (Number c.skew) ∷ []),
      sum_append (authfile_old_entries c.authfile_old) (hash_entry c.auth_hash ∷ map extra_entry c.extras),
      authfile,
      authfile_old,
      sum_extras c.extras h,
    )

total_config : (c : ConfigSays) → IsSound c → total (settings_of c) ≤ TEXT_BYTES
total_config c s =
    omega (
      arith,
      total_append (map File (top_of c)) (map Member c.members ++ flat_map ticket_settings c.tickets),
      total_append (map Member c.members) (flat_map ticket_settings c.tickets),
      total_file (top_of c),
      sum_top c s.extras (few_extras c.extras s.extras s.new_extras),
      total_members c.members,
      total_tickets c.tickets s.tickets,
      s.few_members,
      s.few_tickets,
    )

pub config_short : (c : ConfigSays) → IsSound c → list_all is_printed (settings_of c) ≡ true →
    length (printed c) ≤ TEXT_BYTES
config_short c s h = omega (arith, lines_len (settings_of c) h, total_config c s)
