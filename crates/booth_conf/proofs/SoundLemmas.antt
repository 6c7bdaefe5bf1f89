-- What is read is sound: one more setting keeps it so.
use Rattle.std.proofs.Common.{◌≡◌, ◌≤◌, ◌<◌, ◌+◌, ℕ, zero, suc, Bool, true, false, not, nat_lt, List, [], ◌∷◌, ◌++◌, length, map, take, get_or, Option, Some, None, Result, Ok, Err, refl, arith, ap, ◌∙◌, sym, subst, append-nil, append_assoc}
use Rattle.std.specs.Prelude.{option_map, IfOk}
use Rattle.std.specs.List.{list_all, list_any, filter_map, cons_option}
use Rattle.std.proofs.lemmas.List.{length_push, length-map, get_or-map, take_all}
use Rattle.std.proofs.lemmas.List.Elements.{filter_map-append}
use Rattle.std.proofs.lemmas.Bool.Decides.{nat_tests}
use Rattle.booth_conf.specs.Sections.{extra_of, entry_clash}
use Rattle.booth_conf.specs.Rules.{Summary, summary, settings, clash, or_below, open_section, placed_clash, prereqs_of, said_fault, AreFine, is_at, has_name}
use Rattle.booth_conf.specs.Steps.{added, last_added, placed, said_added, begun}
use Rattle.booth_conf.specs.SaidReader.{said}
use Rattle.booth_conf.specs.Reads.{lines_of, said_lines, ReadsLines}
use Rattle.booth_conf.specs.Sound.{each, is_member, is_ticket_name, are_new, same_key, same_member}
use Rattle.booth_conf.specs.SoundDraft.{is_entry, is_section, is_named_section, same_section, IsSoundDraft}
use Rattle.booth_conf.specs.declared.limits.TheConstants.{TICKETS}
use Rattle.booth_base.specs.declared.limits.TheConstants.{MEMBERS}
use Rattle.booth_conf.specs.declared.keys.KeyNo.{KeyNo}
use Rattle.booth_conf.specs.declared.members.Member.{Member as MemberOf}
use Rattle.booth_conf.specs.declared.sections.NamedSection.{NamedSection}
use Rattle.booth_conf.specs.declared.faults.ConfFault.{ConfFault}
use Rattle.booth_conf.specs.declared.settings.Entry.{Entry}
use Rattle.booth_conf.specs.declared.settings.Setting.{Setting}
use Rattle.booth_conf.specs.declared.settings.Setting.TheVariants.{File, Member, Ticket, Defaults, Of}
use Rattle.booth_conf.specs.declared.line_meaning.Said.{Said}
use Rattle.booth_conf.specs.declared.line_meaning.Said.TheVariants.{Empty, Broken, Unknown, Pair}
use Rattle.booth_conf.proofs.KeyLemmas.{both_true}
use Rattle.booth_conf.proofs.SectionLemmas.{all_push, stays_sound, inherited_sound, extra_new}
use Rattle.booth_conf.proofs.SettingLemmas.{is_setting, line_form}
use Rattle.booth_conf.proofs.More.{pair_fine}
use Rattle.booth_conf.proofs.Turns.{AtLine, draft_more}

-- LISTS

new_push : {X : Type 0} (same : X → X → Bool) (before xs : List X) (x : X) →
    are_new same before xs ≡ true → list_any (same x) (before ++ xs) ≡ false →
    are_new same before (xs ++ x ∷ []) ≡ true
new_push same before [] x h k = let e : list_any (same x) before ≡ false = ap (list_any (same x)) (sym (append-nil before)) ∙ k in rw e refl
new_push same before (y ∷ ys) x h k =
    let b = both_true (not (list_any (same y) before)) (are_new same (before ++ y ∷ []) ys) h in
    rw b.0 (new_push same (before ++ y ∷ []) ys x b.1 (ap (list_any (same x)) (append_assoc before (y ∷ []) ys) ∙ k))

-- FAULTS

room_left : (given : Bool) (count most : ℕ) → or_below given count most ≡ None →
    (given ≡ false) × (count < most)
room_left true count most e = cc
room_left false count most e = (refl, grind (arith, nat_tests))

few_more : {X : Type 0} (xs : List X) (x : X) (most : ℕ) → length xs < most →
    length (xs ++ x ∷ []) ≤ most
few_more xs x most h = omega (arith, length_push xs x)

-- TICKETS

last_sound : (defaults : Option (List Entry)) (ts : List NamedSection) (s : Entry) →
    list_all is_named_section ts ≡ true → 0 < length ts →
    placed_clash (open_section defaults ts) s ≡ None → is_entry s ≡ true →
    list_all is_named_section (last_added ts s) ≡ true
last_sound defaults [] s h l c w = absurd (omega arith)
last_sound defaults (t ∷ []) s h l c w =
    let b = both_true (is_named_section t) true h in
    let n = both_true (is_ticket_name t.name) (is_section t.section) b.0 in
    rw (n.0, stays_sound t.section s n.1 c w) refl
last_sound defaults (t ∷ u ∷ us) s h l c w =
    let b = both_true (is_named_section t) (list_all is_named_section (u ∷ us)) h in
    rw b.0 (last_sound defaults (u ∷ us) s b.1 (omega arith) c w)

last_new : (before ts : List NamedSection) (s : Entry) →
    are_new same_section before ts ≡ true → are_new same_section before (last_added ts s) ≡ true
last_new before [] s h = refl
last_new before (t ∷ []) s h = h
last_new before (t ∷ u ∷ us) s h =
    let b =
    both_true (not (list_any (same_section t) before)) (are_new same_section (before ++ t ∷ []) (u ∷ us)) h in
    rw b.0 (last_new (before ++ t ∷ []) (u ∷ us) s b.1)

last_len : (ts : List NamedSection) (s : Entry) → length (last_added ts s) ≡ length ts
last_len [] s = refl
last_len (t ∷ []) s = refl
last_len (t ∷ u ∷ us) s = ap suc (last_len (u ∷ us) s)

-- SETTINGS

-- the keys without effect, with one more entry
extras_more : (top : List Entry) (e : Entry) (o : Option (KeyNo × List ℕ)) → extra_of e ≡ o → entry_clash top e ≡ None →
    are_new same_key [] (filter_map extra_of top) ≡ true →
    are_new same_key [] (filter_map extra_of top ++ cons_option o []) ≡ true
extras_more top e None g c new = rw (append-nil (filter_map extra_of top)) new
extras_more top e (Some x) g c new =
    new_push same_key [] (filter_map extra_of top) x new (extra_new top e x c g)

file_sound : (d : Summary) (e : Entry) → IsSoundDraft d → entry_clash d.top e ≡ None →
    is_entry e ≡ true → IsSoundDraft (added d (File e))
file_sound d e h c w =
    let extras : are_new same_key [] (filter_map extra_of (d.top ++ e ∷ [])) ≡ true =
    rw (filter_map-append extra_of d.top (e ∷ [])) (extras_more d.top e (extra_of e) refl c h.new_extras) in
    record { top = stays_sound d.top e h.top c w; new_extras = extras; members = h.members; new_members = h.new_members; few_members = h.few_members; defaults = h.defaults; tickets = h.tickets; new_tickets = h.new_tickets; few_tickets = h.few_tickets }

member_sound : (d : Summary) (m : MemberOf) → IsSoundDraft d → clash d (Member m) ≡ None →
    is_member m ≡ true → IsSoundDraft (added d (Member m))
member_sound d m h c w =
    let r = room_left (list_any (is_at m.address) d.members) (length d.members) MEMBERS c in
    record { top = h.top; new_extras = h.new_extras; members = all_push is_member d.members m h.members w; new_members = new_push same_member [] d.members m h.new_members r.0; few_members = few_more d.members m MEMBERS r.1; defaults = h.defaults; tickets = h.tickets; new_tickets = h.new_tickets; few_tickets = h.few_tickets }

-- what a new ticket inherits is sound
start_sound : (o : Option (List Entry)) → each is_section o ≡ true → is_section (prereqs_of o) ≡ true
start_sound None h = refl
start_sound (Some section) h = inherited_sound section h

ticket_sound : (d : Summary) (n : List ℕ) → IsSoundDraft d → clash d (Ticket n) ≡ None →
    is_ticket_name n ≡ true → IsSoundDraft (added d (Ticket n))
ticket_sound d n h c w =
    let r = room_left (list_any (has_name n) d.tickets) (length d.tickets) TICKETS c in
    let good : is_named_section (begun d n) ≡ true = rw w (start_sound d.defaults h.defaults) in
    record { top = h.top; new_extras = h.new_extras; members = h.members; new_members = h.new_members; few_members = h.few_members; defaults = h.defaults; tickets = all_push is_named_section d.tickets (begun d n) h.tickets good; new_tickets = new_push same_section [] d.tickets (begun d n) h.new_tickets r.0; few_tickets = few_more d.tickets (begun d n) TICKETS r.1 }

defaults_sound : (d : Summary) → IsSoundDraft d → IsSoundDraft (added d Defaults)
defaults_sound d h = record { top = h.top; new_extras = h.new_extras; members = h.members; new_members = h.new_members; few_members = h.few_members; defaults = refl; tickets = h.tickets; new_tickets = h.new_tickets; few_tickets = h.few_tickets }

with_tickets : (d : Summary) (ts : List NamedSection) → IsSoundDraft d →
    list_all is_named_section ts ≡ true → are_new same_section [] ts ≡ true → length ts ≤ TICKETS →
    IsSoundDraft (record d { tickets = ts })
with_tickets d ts h a n f = record { top = h.top; new_extras = h.new_extras; members = h.members; new_members = h.new_members; few_members = h.few_members; defaults = h.defaults; tickets = a; new_tickets = n; few_tickets = f }

with_defaults : (d : Summary) (o : Option (List Entry)) → IsSoundDraft d → each is_section o ≡ true →
    IsSoundDraft (record d { defaults = o })
with_defaults d o h a = record { top = h.top; new_extras = h.new_extras; members = h.members; new_members = h.new_members; few_members = h.few_members; defaults = a; tickets = h.tickets; new_tickets = h.new_tickets; few_tickets = h.few_tickets }

default_key : (o : Option (List Entry)) (s : Entry) → each is_section o ≡ true →
    placed_clash o s ≡ None → is_entry s ≡ true →
    each is_section (option_map (λ section. section ++ s ∷ []) o) ≡ true
default_key None s h c w = refl
default_key (Some p) s h c w = stays_sound p s h c w

of_at : (d : Summary) (s : Entry) (ts : List NamedSection) → d.tickets ≡ ts →
    IsSoundDraft d → placed_clash (open_section d.defaults ts) s ≡ None → is_entry s ≡ true →
    IsSoundDraft (placed d s)
of_at d s [] e h c w =
    let none : nat_lt 0 (length d.tickets) ≡ false = rw e refl in
    rw none (with_defaults d (option_map (λ section. section ++ s ∷ []) d.defaults) h (default_key d.defaults s h.defaults c w))
of_at d s (t ∷ ts) e h c w =
    let some : nat_lt 0 (length d.tickets) ≡ true = rw e (grind (arith, nat_tests)) in
    let l : 0 < length d.tickets = grind (arith, nat_tests) in
    rw some (with_tickets d (last_added d.tickets s) h
    (last_sound d.defaults d.tickets s h.tickets l (rw e c) w)
    (last_new [] d.tickets s h.new_tickets)
    (omega (arith, last_len d.tickets s, h.few_tickets)))

-- a setting that does not clash keeps what is read sound
pub setting_sound : (d : Summary) (s : Setting) → IsSoundDraft d → clash d s ≡ None →
    is_setting s ≡ true → IsSoundDraft (added d s)
setting_sound d (File f) h c w = file_sound d f h c w
setting_sound d (Member m) h c w = member_sound d m h c w
setting_sound d (Ticket n) h c w = ticket_sound d n h c w
setting_sound d Defaults h c w = defaults_sound d h
setting_sound d (Of s) h c w = of_at d s d.tickets refl h c w

-- LINES

said_sound : (d : Summary) (line : List ℕ) (t : Said) → said line ≡ t → IsSoundDraft d →
    said_fault d t ≡ None → IsSoundDraft (said_added d t)
said_sound d line Empty e h f = h
said_sound d line Broken e h f = h
said_sound d line Unknown e h f = h
said_sound d line (Pair key None) e h f = h
said_sound d line (Pair key (Some s)) e h f =
    setting_sound d s h (pair_fine d key (Some s) f) (line_form line key s e)

empty_sound : IsSoundDraft (summary [])
empty_sound = record { top = refl; new_extras = refl; members = refl; new_members = refl; few_members = omega arith; defaults = refl; tickets = refl; new_tickets = refl; few_tickets = omega arith }

-- the first n lines of a text without a fault
upto_sound : (ls : List (List ℕ)) (n : ℕ) → AreFine (map said ls) → n ≤ length ls →
    IsSoundDraft (summary (settings (take n (map said ls))))
upto_sound ls zero fine le = empty_sound
upto_sound ls (suc n) fine le =
    let ss : List Said = map said ls in
    let d : Summary = summary (settings (take n ss)) in
    let line : List ℕ = get_or ls n [] in
    let lt : n < length ls = omega arith in
    let within : n < length ss = omega (arith, length-map ls said) in
    let is : get_or ss n Empty ≡ said line = get_or-map said ls n [] Empty lt in
    let none : said_fault d (said line) ≡ None =
    ap (λ t. said_fault d t) (sym is) ∙ fine n within in
    let before : IsSoundDraft d = upto_sound ls n fine (omega arith) in
    let place : AtLine ss n (said line) d = record { within = within; is = is; read = refl } in
    let next : said_added d (said line) ≡ summary (settings (take (n + 1) ss)) =
    draft_more ss n (said line) d (said_added d (said line)) place none refl in
    let k : n + 1 ≡ suc n = omega arith in
    subst IsSoundDraft (next ∙ ap (λ i. summary (settings (take i ss))) k) (said_sound d line (said line) refl before none)

pub lines_sound : (text : List ℕ) → AreFine (said_lines text) →
    IsSoundDraft (summary (settings (said_lines text)))
lines_sound text fine =
    let ls : List (List ℕ) = lines_of text in
    subst (λ ss. IsSoundDraft (summary (settings ss))) (take_all (length ls) (map said ls) (omega (arith, length-map ls said))) (upto_sound ls (length ls) fine (omega arith))

pub reads_sound : (text : List ℕ) (r : Result Summary ConfFault) → ReadsLines r (said_lines text) →
    IfOk r IsSoundDraft
reads_sound text (Ok d) h = subst IsSoundDraft (sym h.1) (lines_sound text h.0)
reads_sound text (Err f) h = tt
