-- What is printed is read as the same configuration.
use Rattle.std.proofs.Common.{◌≡◌, ◌*◌, ◌/◌, ◌==◌, ℕ, Bool, true, false, nat_lt, List, [], ◌∷◌, ◌++◌, length, map, Option, Some, None, refl, arith, ap, ◌∙◌, sym, subst}
use Rattle.std.specs.Prelude.{is_some, option_map, if◌then◌else◌}
use Rattle.std.specs.List.{list_all, flat_map}
use Rattle.std.proofs.lemmas.List.Folds.{list_all-append, list_all-map}
use Rattle.std.proofs.lemmas.Bool.Decides.{nat_tests}
use Rattle.booth_base.specs.declared.times.Times.{Times}
use Rattle.booth_keys.specs.declared.ring.Hash.{Hash}
use Rattle.booth_keys.specs.declared.ring.Hash.TheVariants.{Sha1, Sha256}
use Rattle.booth_conf.specs.Rules.{Summary, summary, AreFine}
use Rattle.booth_conf.specs.SaidReader.{said}
use Rattle.booth_conf.specs.Steps.{added}
use Rattle.booth_conf.specs.Reads.{lines_of, said_lines}
use Rattle.booth_conf.specs.Config.{ConfigSays, config_of, file_fault}
use Rattle.booth_conf.specs.Print.{setting_name, setting_value, setting_line, line_text, lines_text, set, optional, authfile_entries, authfile_old_entries, hash_entry, extra_entry, early_entries, late_entries, renewal_said, renewal_entries, weights_said, weights_entries, handler_entries, prereq_entry, word_of, times_entries, key_entries, ticket_settings, settings_of, printed, steady_entries}
use Rattle.booth_conf.specs.Sound.{is_within, each, is_text, is_command, is_extra, is_member, are_weights, is_prereq, is_seconds, is_renewal, is_ticket, IsSound}
use Rattle.booth_conf.specs.Says.{Says, said_config}
use Rattle.booth_conf.specs.declared.limits.TheConstants.{SECONDS}
use Rattle.booth_conf.specs.declared.keys.ConfKey.{ConfKey}
use Rattle.booth_conf.specs.declared.keys.ConfKey.TheVariants as keys
use Rattle.booth_conf.specs.declared.keys.KeyNo.{KeyNo}
use Rattle.booth_conf.specs.declared.members.Member.{Member as MemberOf}
use Rattle.booth_conf.specs.declared.tickets.Prereq.{Prereq as PrereqOf}
use Rattle.booth_conf.specs.declared.tickets.TicketConf.{TicketConf}
use Rattle.booth_conf.specs.declared.faults.ConfFault.{ConfFault}
use Rattle.booth_conf.specs.declared.line_meaning.Said.{Said}
use Rattle.booth_conf.specs.declared.line_meaning.Said.TheVariants.{Empty, Pair}
use Rattle.booth_conf.specs.declared.settings.Value.{Value}
use Rattle.booth_conf.specs.declared.settings.Value.TheVariants.{Number, Text, Word}
use Rattle.booth_conf.specs.declared.settings.Entry.{Entry}
use Rattle.booth_conf.specs.declared.settings.Setting.{Setting}
use Rattle.booth_conf.specs.declared.settings.Setting.TheVariants.{File, Member, Of}
use Rattle.booth_conf.proofs.KeyLemmas.{both_true}
use Rattle.booth_conf.proofs.SaidLemmas.{all_said_found}
use Rattle.booth_conf.proofs.LineAgain.{line_cut}
use Rattle.booth_conf.proofs.SettingAgain.{is_file_entry, is_ticket_entry, is_printed, key_of, IsRead, setting_read, line_said, setting_fine}
use Rattle.booth_conf.proofs.Runs.{Runs, Takes, takes_fine, takes_ends}
use Rattle.booth_conf.proofs.TicketAgain.{TicketFacts, ticket_facts, TimesFacts, times_facts}
use Rattle.booth_conf.proofs.TopAgain.{top_of, ExtraFacts, extra_facts}
use Rattle.booth_conf.proofs.ConfigRuns.{printed_summary, config_run, config_again}
use Rattle.booth_conf.proofs.Short.{config_short}

-- LINES

-- what the lines of settings say: each its setting, and the end of the text nothing
abbrev said_of_lines : List Setting → List Said
said_of_lines [] = Empty ∷ []
said_of_lines (s ∷ ss) = Pair (key_of s) (Some s) ∷ said_of_lines ss

cut_setting : (s : Setting) (rest : List ℕ) → IsRead s →
    lines_of (line_text (setting_name s) (setting_value s) ++ rest) ≡ setting_line s ∷ lines_of rest
cut_setting s rest r = rw r.name (line_cut (key_of s) (setting_value s) rest r.sayable)

lines_said : (ss : List Setting) → list_all is_printed ss ≡ true →
    said_lines (lines_text ss) ≡ said_of_lines ss
lines_said [] h = refl
lines_said (s ∷ ss) h =
    let b = both_true (is_printed s) (list_all is_printed ss) h in
    let r : IsRead s = setting_read s b.0 in
    ap (map said) (cut_setting s (lines_text ss) r)
    ∙ ap (λ x. x ∷ said_lines (lines_text ss)) (line_said s r)
    ∙ ap (λ xs. Pair (key_of s) (Some s) ∷ xs) (lines_said ss b.1)

takes_runs : (d : Summary) (ss : List Setting) (e : Summary) → list_all is_printed ss ≡ true →
    Runs d ss e → Takes d (said_of_lines ss) e
takes_runs d [] e w r = (refl, r)
takes_runs d (s ∷ ss) e w r =
    let b = both_true (is_printed s) (list_all is_printed ss) w in
    (setting_fine d s b.0 r.0, takes_runs (added d s) ss e b.1 r.1)

-- EACH SETTING CAN BE PRINTED

all_both : {X : Type 0} (p : X → Bool) (xs ys : List X) → list_all p xs ≡ true → list_all p ys ≡ true →
    list_all p (xs ++ ys) ≡ true
all_both p xs ys h k = list_all-append p xs ys ∙ rw (h, k) refl

-- a key where there is a value for it
optional_printed : (p : Entry → Bool) (key : ConfKey) (o : Option Value) → each (λ v. p (set key v)) o ≡ true →
    list_all p (optional key o) ≡ true
optional_printed p key None h = refl
optional_printed p key (Some value) h = rw h refl

extra_printed : (e : KeyNo × List ℕ) → is_extra e ≡ true → is_file_entry (extra_entry e) ≡ true
extra_printed e h =
    let f : ExtraFacts e.0.0 = extra_facts e h in
    let b = both_true (is_within 5 9 e.0.0) (is_text 0 e.1) h in
    rw (f.file, f.form) b.1

extras_printed : (es : List (KeyNo × List ℕ)) → list_all is_extra es ≡ true →
    list_all is_file_entry (map extra_entry es) ≡ true
extras_printed [] h = refl
extras_printed (e ∷ es) h = let b = both_true (is_extra e) (list_all is_extra es) h in rw (extra_printed e b.0, extras_printed es b.1) refl

members_printed : (ms : List MemberOf) → list_all is_member ms ≡ true →
    list_all is_printed (map Member ms) ≡ true
members_printed [] h = refl
members_printed (m ∷ ms) h = let b = both_true (is_member m) (list_all is_member ms) h in rw (b.0, members_printed ms b.1) refl

prereqs_printed : (qs : List PrereqOf) → list_all is_prereq qs ≡ true →
    list_all is_ticket_entry (map prereq_entry qs) ≡ true
prereqs_printed [] h = refl
prereqs_printed (q ∷ qs) h = let b = both_true (is_prereq q) (list_all is_prereq qs) h in rw (b.0, prereqs_printed qs b.1) refl

authfile_printed : (o : Option (List ℕ)) → each (is_text 1) o ≡ true →
    each (λ v. is_file_entry (set keys.Authfile v)) (option_map Text o) ≡ true
authfile_printed None h = refl
authfile_printed (Some text) h = h

authfile_old_printed : (o : Option (List ℕ)) → each (is_text 1) o ≡ true →
    each (λ v. is_file_entry (set keys.AuthfileOld v)) (option_map Text o) ≡ true
authfile_old_printed None h = refl
authfile_old_printed (Some text) h = h

hash_printed : (hash : Hash) → is_file_entry (hash_entry hash) ≡ true
hash_printed Sha1 = refl
hash_printed Sha256 = refl

handler_printed : (o : Option (List ℕ)) → each is_command o ≡ true →
    each (λ v. is_ticket_entry (set keys.BeforeAcquireHandler v)) (option_map Text o) ≡ true
handler_printed None h = refl
handler_printed (Some text) h = h

weights_printed : (ws : List ℕ) → are_weights ws ≡ true →
    each (λ v. is_ticket_entry (set keys.Weights v)) (weights_said ws) ≡ true
weights_printed [] h = refl
weights_printed (n ∷ ns) h = let some : nat_lt 0 (length (n ∷ ns)) ≡ true = grind (arith, nat_tests) in rw (some, h) refl

seconds_within : (least ms : ℕ) → is_seconds least ms ≡ true →
    is_within least SECONDS (ms / 1000) ≡ true
seconds_within least ms h =
    (both_true (1000 * (ms / 1000) == ms) (is_within least SECONDS (ms / 1000)) h).1

renewal_printed : (times : Times) (b : Bool) → (times.renewal == times.expire / 2) ≡ b →
    is_renewal times ≡ true →
    each (λ v. is_ticket_entry (set keys.RenewalFreq v)) (option_map Number (if b then None else Some (times.renewal / 1000))) ≡ true
renewal_printed times true e h = refl
renewal_printed times false e h = seconds_within 1 times.renewal (grind (arith, nat_tests))

times_printed : (times : Times) → TimesFacts times →
    list_all is_ticket_entry (times_entries times) ≡ true
times_printed times f =
    let renewal : list_all is_ticket_entry (renewal_entries times) ≡ true =
    optional_printed is_ticket_entry keys.RenewalFreq (option_map Number (renewal_said times)) (renewal_printed times (times.renewal == times.expire / 2) refl f.renewal) in
    rw (seconds_within 1 times.expire f.expire, seconds_within 0 times.after f.after, seconds_within 1 times.timeout f.timeout, f.retries) renewal

mode_printed : (manual steady : Bool) → list_all is_ticket_entry (set keys.Mode (Word (word_of manual)) ∷ steady_entries steady) ≡ true
mode_printed true true = refl
mode_printed true false = refl
mode_printed false true = refl
mode_printed false false = refl

keys_printed : (t : TicketConf) → TicketFacts t → list_all is_ticket_entry (key_entries t) ≡ true
keys_printed t f =
    let qs = both_true _ (list_all is_prereq t.prereqs) f.prereqs in
    all_both is_ticket_entry (times_entries t.times) _ (times_printed t.times (times_facts t.times f.times))
    (all_both is_ticket_entry (weights_entries t.weights.items) _ (optional_printed is_ticket_entry keys.Weights (weights_said t.weights.items) (weights_printed t.weights.items f.weights))
    (all_both is_ticket_entry (handler_entries t.handler) _ (optional_printed is_ticket_entry keys.BeforeAcquireHandler (option_map Text t.handler) (handler_printed t.handler f.handler))
    (all_both is_ticket_entry (map prereq_entry t.prereqs) _ (prereqs_printed t.prereqs qs.1) (mode_printed t.manual t.steady))))

ticket_printed : (t : TicketConf) → is_ticket t ≡ true →
    list_all is_printed (ticket_settings t) ≡ true
ticket_printed t h =
    let f : TicketFacts t = ticket_facts t h in
    rw f.name (list_all-map is_printed Of (key_entries t) ∙ keys_printed t f)

tickets_printed : (ts : List TicketConf) → list_all is_ticket ts ≡ true →
    list_all is_printed (flat_map ticket_settings ts) ≡ true
tickets_printed [] h = refl
tickets_printed (t ∷ ts) h =
    let b = both_true (is_ticket t) (list_all is_ticket ts) h in
    all_both is_printed (ticket_settings t) (flat_map ticket_settings ts) (ticket_printed t b.0) (tickets_printed ts b.1)

top_printed : (c : ConfigSays) → IsSound c → list_all is_file_entry (top_of c) ≡ true
top_printed c s =
    let skewed : List Entry = set keys.Maxtimeskew (Number c.skew) ∷ [] in
    let last : list_all is_file_entry skewed ≡ true = rw s.skew refl in
    let early : list_all is_file_entry (early_entries c.port c.authfile c.skew) ≡ true =
    rw s.port (all_both is_file_entry (authfile_entries c.authfile) skewed
    (optional_printed is_file_entry keys.Authfile (option_map Text c.authfile) (authfile_printed c.authfile s.authfile)) last) in
    let rest : List Entry = hash_entry c.auth_hash ∷ map extra_entry c.extras in
    let hashed : list_all is_file_entry rest ≡ true = rw (hash_printed c.auth_hash, extras_printed c.extras s.extras) refl in
    all_both is_file_entry (early_entries c.port c.authfile c.skew) (late_entries c.authfile_old c.auth_hash c.extras) early
    (all_both is_file_entry (authfile_old_entries c.authfile_old) rest
    (optional_printed is_file_entry keys.AuthfileOld (option_map Text c.authfile_old) (authfile_old_printed c.authfile_old s.authfile_old)) hashed)

config_printed : (c : ConfigSays) → IsSound c → list_all is_printed (settings_of c) ≡ true
config_printed c s =
    all_both is_printed (map File (top_of c)) (map Member c.members ++ flat_map ticket_settings c.tickets)
    (list_all-map is_printed File (top_of c) ∙ top_printed c s)
    (all_both is_printed (map Member c.members) (flat_map ticket_settings c.tickets) (members_printed c.members s.members) (tickets_printed c.tickets s.tickets))

-- THE TEXT

none_of : (o : Option ConfFault) → is_some o ≡ false → o ≡ None
none_of None h = refl
none_of (Some f) h = cc

pub print_is_read : (c : ConfigSays) → IsSound c → Says (printed c) c
print_is_read c s =
    let ss : List Setting = settings_of c in
    let can : list_all is_printed ss ≡ true = config_printed c s in
    let lines : said_lines (printed c) ≡ said_of_lines ss = lines_said ss can in
    let taken : Takes (summary []) (said_of_lines ss) (printed_summary c) =
    takes_runs (summary []) ss (printed_summary c) can (config_run c s) in
    record {
      short = config_short c s can;
      said = said_lines (printed c);
      reads = all_said_found (lines_of (printed c));
      fine = subst AreFine (sym lines) (takes_fine [] (said_of_lines ss) (summary []) (printed_summary c) refl taken);
      value = sym (config_again c s) ∙ ap config_of (takes_ends [] (said_of_lines ss) (summary []) (printed_summary c) refl taken) ∙ ap said_config (sym lines);
      whole = none_of (file_fault c.members c.tickets) s.no_fault;
    }

pub printed_says : (text : List ℕ) (c : ConfigSays) → IsSound c → text ≡ printed c → Says text c
printed_says text c s e = subst (λ t. Says t c) (sym e) (print_is_read c s)
