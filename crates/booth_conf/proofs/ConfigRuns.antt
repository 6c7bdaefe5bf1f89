-- The settings that are printed are taken one after the other, and give the configuration.
use Rattle.std.proofs.Common.{◌≡◌, ◌≤◌, ◌<◌, ◌+◌, ℕ, true, false, not, nat_lt, List, [], ◌∷◌, ◌++◌, length, map, Option, Some, None, refl, arith, ap, ◌∙◌, sym, subst, append-nil, append_assoc, length-append}
use Rattle.std.specs.Prelude.{bytes_eq}
use Rattle.std.specs.List.{list_all, list_any, flat_map}
use Rattle.std.proofs.lemmas.List.{length_push, length-map, map-append}
use Rattle.std.proofs.lemmas.Bool.Decides.{nat_tests}
use Rattle.booth_base.specs.declared.limits.TheConstants.{MEMBERS}
use Rattle.booth_conf.specs.Sections.{entry_clash}
use Rattle.booth_conf.specs.Rules.{Summary, summary, clash, open_section, prereqs_of, has_name, is_at}
use Rattle.booth_conf.specs.Steps.{added, last_added, with_entry}
use Rattle.booth_conf.specs.Config.{ConfigSays, ticket_of, config_of}
use Rattle.booth_conf.specs.Print.{key_entries, ticket_settings, settings_of}
use Rattle.booth_conf.specs.Sound.{is_ticket, are_new, same_member, same_ticket, IsSound}
use Rattle.booth_conf.specs.declared.limits.TheConstants.{TICKETS}
use Rattle.booth_conf.specs.declared.members.Member.{Member as MemberOf}
use Rattle.booth_conf.specs.declared.tickets.TicketConf.{TicketConf}
use Rattle.booth_conf.specs.declared.sections.NamedSection.{NamedSection}
use Rattle.booth_conf.specs.declared.settings.Entry.{Entry}
use Rattle.booth_conf.specs.declared.settings.Setting.{Setting}
use Rattle.booth_conf.specs.declared.settings.Setting.TheVariants.{File, Member, Ticket, Of}
use Rattle.booth_conf.proofs.KeyLemmas.{both_true}
use Rattle.booth_conf.proofs.Runs.{Runs, runs_append}
use Rattle.booth_conf.proofs.TicketAgain.{MayStand, named_said, ticket_stands, ticket_again}
use Rattle.booth_conf.proofs.TopAgain.{top_of, TopSays, top_stands, top_again}

-- THE WHOLE FILE

abbrev with_top : Summary → List Entry → Summary
with_top d es = record d { top = d.top ++ es }

top_run : (d : Summary) (es : List Entry) → MayStand d.top es → Runs d (map File es) (with_top d es)
top_run d [] h = ap (λ xs. record d { top = xs }) (sym (append-nil d.top))
top_run d (e ∷ es) h =
    let next : Summary = record d { top = d.top ++ e ∷ [] } in
    (h.0, subst (λ xs. Runs next (map File es) (record d { top = xs })) (append_assoc d.top (e ∷ []) es) (top_run next es h.1))

-- MEMBERS

abbrev with_members : Summary → List MemberOf → Summary
with_members d ms = record d { members = d.members ++ ms }

members_run : (d : Summary) (ms : List MemberOf) → are_new same_member d.members ms ≡ true →
    length d.members + length ms ≤ MEMBERS → Runs d (map Member ms) (with_members d ms)
members_run d [] new few = ap (λ xs. record d { members = xs }) (sym (append-nil d.members))
members_run d (m ∷ ms) new few =
    let b =
    both_true (not (list_any (same_member m) d.members)) (are_new same_member (d.members ++ m ∷ []) ms) new in
    let fresh : list_any (is_at m.address) d.members ≡ false = grind (arith, nat_tests, b.0) in
    let room : nat_lt (length d.members) MEMBERS ≡ true = grind (arith, nat_tests) in
    let next : Summary = record d { members = d.members ++ m ∷ [] } in
    let more : length next.members + length ms ≤ MEMBERS = omega (arith, length_push d.members m) in
    let rest : Runs next (map Member ms) (with_members next ms) = members_run next ms b.1 more in
    (rw (fresh, room) refl, subst (λ xs. Runs next (map Member ms) (record d { members = xs })) (append_assoc d.members (m ∷ []) ms) rest)

-- THE LAST TICKET

open_behind : (defaults : Option (List Entry)) (ts : List NamedSection) (t : NamedSection) →
    open_section defaults (ts ++ t ∷ []) ≡ Some t.section
open_behind defaults [] t = refl
open_behind defaults (u ∷ []) t = refl
open_behind defaults (u ∷ v ∷ vs) t = open_behind defaults (v ∷ vs) t

last_behind : (ts : List NamedSection) (t : NamedSection) (s : Entry) →
    last_added (ts ++ t ∷ []) s ≡ ts ++ with_entry t s ∷ []
last_behind [] t s = refl
last_behind (u ∷ []) t s = refl
last_behind (u ∷ v ∷ vs) t s = ap (λ xs. u ∷ xs) (last_behind (v ∷ vs) t s)

some_tickets : (ts : List NamedSection) (t : NamedSection) → nat_lt 0 (length (ts ++ t ∷ [])) ≡ true
some_tickets ts t = simp length-append (grind (arith, nat_tests))

-- a draft whose last ticket has this name and this section
abbrev pub at_last : Summary → List NamedSection → List ℕ → List Entry → Summary
at_last d ts name p = record d { tickets = ts ++ (record { name = name; section = p }) ∷ [] }

placed_last : (d : Summary) (ts : List NamedSection) (name : List ℕ) (p : List Entry) (s : Entry) →
    added (at_last d ts name p) (Of s) ≡ at_last d ts name (p ++ s ∷ [])
placed_last d ts name p s =
    rw (some_tickets ts (record { name = name; section = p }), last_behind ts (record { name = name; section = p }) s) refl

clash_last : (d : Summary) (ts : List NamedSection) (name : List ℕ) (p : List Entry) (s : Entry) →
    clash (at_last d ts name p) (Of s) ≡ entry_clash p s
clash_last d ts name p s = rw (open_behind d.defaults ts (record { name = name; section = p })) refl

-- one more key of the last ticket
key_run : (d : Summary) (ts : List NamedSection) (name : List ℕ) (p : List Entry) (s : Entry) (ss : List Setting) (e : Summary) →
    entry_clash p s ≡ None → Runs (at_last d ts name (p ++ s ∷ [])) ss e →
    Runs (at_last d ts name p) (Of s ∷ ss) e
key_run d ts name p s ss e h r =
    (clash_last d ts name p s ∙ h, subst (λ x. Runs x ss e) (sym (placed_last d ts name p s)) r)

keys_run : (d : Summary) (ts : List NamedSection) (name : List ℕ) (section es : List Entry) → MayStand section es →
    Runs (at_last d ts name section) (map Of es) (at_last d ts name (section ++ es))
keys_run d ts name section [] h = ap (λ xs. at_last d ts name xs) (sym (append-nil section))
keys_run d ts name section (e ∷ es) h =
    let rest : Runs (at_last d ts name (section ++ e ∷ [])) (map Of es) (at_last d ts name ((section ++ e ∷ []) ++ es)) =
    keys_run d ts name (section ++ e ∷ []) es h.1 in
    key_run d ts name section e (map Of es) (at_last d ts name (section ++ (e ∷ es))) h.0
    (subst (λ xs. Runs (at_last d ts name (section ++ e ∷ [])) (map Of es) (at_last d ts name xs)) (append_assoc section (e ∷ []) es) rest)

-- TICKETS

-- a draft of these tickets
abbrev pub with_tickets : Summary → List TicketConf → Summary
with_tickets d ts = record d { tickets = map named_said ts }

named_any : (name : List ℕ) (ts : List TicketConf) →
    list_any (has_name name) (map named_said ts) ≡ list_any (λ (u : TicketConf). bytes_eq name u.name) ts
named_any name [] = refl
named_any name (t ∷ ts) = rw (named_any name ts) refl

ticket_run : (d : Summary) (before : List TicketConf) (t : TicketConf) → d.defaults ≡ None →
    list_any (same_ticket t) before ≡ false → length before < TICKETS →
    is_ticket t ≡ true →
    Runs (with_tickets d before) (ticket_settings t) (with_tickets d (before ++ t ∷ []))
ticket_run d before t none new few good =
    let len : length (map named_said before) ≡ length before = length-map before named_said in
    let room : nat_lt (length (map named_said before)) TICKETS ≡ true =
    grind (arith, nat_tests, len) in
    let fresh : list_any (has_name t.name) (map named_said before) ≡ false =
    named_any t.name before ∙ new in
    let started : added (with_tickets d before) (Ticket t.name) ≡ at_last d (map named_said before) t.name [] =
    ap (λ (o : Option (List Entry)). at_last d (map named_said before) t.name (prereqs_of o)) none in
    let ends : at_last d (map named_said before) t.name (key_entries t) ≡ with_tickets d (before ++ t ∷ []) = ap (λ xs. record d { tickets = xs }) (sym (map-append named_said before (t ∷ []))) in
    let keys : Runs (at_last d (map named_said before) t.name []) (map Of (key_entries t)) (at_last d (map named_said before) t.name (key_entries t)) = keys_run d (map named_said before) t.name [] (key_entries t) (ticket_stands t good) in
    (rw (fresh, room) refl, subst (λ x. Runs x (map Of (key_entries t)) (with_tickets d (before ++ t ∷ []))) (sym started) (subst (λ e. Runs (at_last d (map named_said before) t.name []) (map Of (key_entries t)) e) ends keys))

tickets_run : (d : Summary) (before ts : List TicketConf) → d.defaults ≡ None →
    are_new same_ticket before ts ≡ true → length before + length ts ≤ TICKETS →
    list_all is_ticket ts ≡ true →
    Runs (with_tickets d before) (flat_map ticket_settings ts) (with_tickets d (before ++ ts))
tickets_run d before [] none new few all = ap (λ xs. with_tickets d xs) (sym (append-nil before))
tickets_run d before (t ∷ ts) none new few all =
    let b =
    both_true (not (list_any (same_ticket t) before)) (are_new same_ticket (before ++ t ∷ []) ts) new in
    let w = both_true (is_ticket t) (list_all is_ticket ts) all in
    let fresh : list_any (same_ticket t) before ≡ false = grind (arith, nat_tests, b.0) in
    let lt : length before < TICKETS = omega arith in
    let more : length (before ++ t ∷ []) + length ts ≤ TICKETS =
    omega (arith, length_push before t) in
    let one : Runs (with_tickets d before) (ticket_settings t) (with_tickets d (before ++ t ∷ [])) =
    ticket_run d before t none fresh lt w.0 in
    let rest : Runs (with_tickets d (before ++ t ∷ [])) (flat_map ticket_settings ts) (with_tickets d ((before ++ t ∷ []) ++ ts)) = tickets_run d (before ++ t ∷ []) ts none b.1 more w.1 in
    runs_append (with_tickets d before) (ticket_settings t) (with_tickets d (before ++ t ∷ [])) (flat_map ticket_settings ts) (with_tickets d (before ++ (t ∷ ts))) one
    (subst (λ xs. Runs (with_tickets d (before ++ t ∷ [])) (flat_map ticket_settings ts) (with_tickets d xs)) (append_assoc before (t ∷ []) ts) rest)

-- THE WHOLE

abbrev topped : ConfigSays → Summary
topped c = record (summary []) { top = top_of c }

abbrev pub printed_summary : ConfigSays → Summary
printed_summary c = record (topped c) { members = c.members; tickets = map named_said c.tickets }

pub config_run : (c : ConfigSays) → IsSound c →
    Runs (summary []) (settings_of c) (printed_summary c)
config_run c s =
    let top : Runs (summary []) (map File (top_of c)) (topped c) =
    top_run (summary []) (top_of c) (top_stands c.port c.authfile c.skew c.authfile_old c.auth_hash c.extras s.extras s.new_extras) in
    let peopled : Summary = record (topped c) { members = c.members } in
    let members : Runs (topped c) (map Member c.members) peopled =
    members_run (topped c) c.members s.new_members (omega (arith, s.few_members)) in
    let tickets : Runs peopled (flat_map ticket_settings c.tickets) (printed_summary c) =
    tickets_run peopled [] c.tickets refl s.new_tickets (omega (arith, s.few_tickets)) s.tickets in
    runs_append (summary []) (map File (top_of c)) (topped c) (map Member c.members ++ flat_map ticket_settings c.tickets) (printed_summary c) top
    (runs_append (topped c) (map Member c.members) peopled (flat_map ticket_settings c.tickets) (printed_summary c) members tickets)

-- THE VALUE

tickets_again : (ts : List TicketConf) → list_all is_ticket ts ≡ true →
    map (ticket_of []) (map named_said ts) ≡ ts
tickets_again [] h = refl
tickets_again (t ∷ ts) h =
    let b = both_true (is_ticket t) (list_all is_ticket ts) h in
    ap (λ u. u ∷ map (ticket_of []) (map named_said ts)) (ticket_again t b.0)
    ∙ ap (λ us. t ∷ us) (tickets_again ts b.1)

pub config_again : (c : ConfigSays) → IsSound c → config_of (printed_summary c) ≡ c
config_again c s =
    let t : TopSays c = top_again c s.extras in
    rw (t.authfile, t.skew, t.authfile_old, t.auth_hash, t.extras, tickets_again c.tickets s.tickets) refl
