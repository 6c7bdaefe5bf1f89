-- One more setting, and one more line.
use Rattle.std.proofs.Common.{◌≡◌, ℕ, Bool, true, false, cond, nat_lt, List, [], ◌∷◌, ◌++◌, length, map, Option, Some, None, refl, arith, ap, ◌∙◌, sym, append-nil, append_assoc}
use Rattle.std.proofs.lemmas.List.{map-append}
use Rattle.std.specs.List.{filter_map, cons_option}
use Rattle.std.specs.Prelude.{is_some}
use Rattle.std.proofs.lemmas.Bool.Decides.{nat_tests}
use Rattle.std.proofs.lemmas.List.Elements.{filter_map-append}
use Rattle.booth_conf.specs.Rules.{OwnKeys, own, owns, default_own, file_in, member_in, prereqs_of, named_section, Summary, summary, open_section, placed_clash, clash, said_fault, setting_said, settings, line_fault, is_misplaced, value_fault}
use Rattle.booth_conf.specs.Steps.{added, last_added, said_added}
use Rattle.booth_conf.specs.declared.sections.NamedSection.{NamedSection}
use Rattle.booth_conf.specs.declared.keys.ConfKey.{ConfKey}
use Rattle.booth_conf.specs.declared.members.Member.{Member as MemberOf}
use Rattle.booth_conf.specs.declared.line_meaning.Said.{Said}
use Rattle.booth_conf.specs.declared.line_meaning.Said.TheVariants.{Empty, Broken, Unknown, Pair}
use Rattle.booth_conf.specs.declared.faults.LineFault.TheVariants.{Misplaced, Repeated, DefaultLate}
use Rattle.booth_conf.specs.declared.settings.Entry.{Entry}
use Rattle.booth_conf.specs.declared.settings.Setting.{Setting}
use Rattle.booth_conf.specs.declared.settings.Setting.TheVariants.{File, Member, Ticket, Defaults, Of}

kept : {X Y : Type 0} (h : X → Option Y) (ss : List X) (s : X) → h s ≡ None →
    filter_map h (ss ++ s ∷ []) ≡ filter_map h ss
kept h ss s n = filter_map-append h ss (s ∷ []) ∙ rw n (append-nil (filter_map h ss))

grows : {X Y : Type 0} (h : X → Option Y) (ss : List X) (s : X) (y : Y) → h s ≡ Some y →
    filter_map h (ss ++ s ∷ []) ≡ filter_map h ss ++ y ∷ []
grows h ss s y n = filter_map-append h ss (s ∷ []) ∙ rw n refl

-- one ticket's keys, with more after them
abbrev pub with_more : List Entry → OwnKeys → OwnKeys
with_more q o = record o { keys = o.keys ++ q }

-- the last ticket, with more keys
abbrev pub on_last : List Entry → List OwnKeys → List OwnKeys
on_last q [] = []
on_last q (o ∷ []) = with_more q o ∷ []
on_last q (o ∷ r ∷ rs) = o ∷ on_last q (r ∷ rs)

own_more_none : (ss : List Setting) (s : Setting) → owns ss ≡ [] →
    own (ss ++ s ∷ []) ≡ own ss ++ own (s ∷ [])
own_more_none [] s h = refl
own_more_none (File f ∷ ss) s h = own_more_none ss s h
own_more_none (Member m ∷ ss) s h = own_more_none ss s h
own_more_none (Ticket n ∷ ss) s h = cc
own_more_none (Defaults ∷ ss) s h = own_more_none ss s h
own_more_none (Of p ∷ ss) s h = ap (λ xs. p ∷ xs) (own_more_none ss s h)

own_more_some : (ss : List Setting) (s : Setting) (o : OwnKeys) (os : List OwnKeys) →
    owns ss ≡ o ∷ os → own (ss ++ s ∷ []) ≡ own ss
own_more_some [] s o os h = cc
own_more_some (File f ∷ ss) s o os h = own_more_some ss s o os h
own_more_some (Member m ∷ ss) s o os h = own_more_some ss s o os h
own_more_some (Ticket n ∷ ss) s o os h = refl
own_more_some (Defaults ∷ ss) s o os h = own_more_some ss s o os h
own_more_some (Of p ∷ ss) s o os h = ap (λ xs. p ∷ xs) (own_more_some ss s o os h)

abbrev titled : List ℕ → List Entry → OwnKeys
titled n ks = record { name = n; keys = ks }

owns_ticket : (n : List ℕ) (ss : List Setting) (s : Setting) (os : List OwnKeys) → owns ss ≡ os →
    owns (ss ++ s ∷ []) ≡ on_last (own (s ∷ [])) os ++ owns (s ∷ []) →
    titled n (own (ss ++ s ∷ [])) ∷ owns (ss ++ s ∷ []) ≡ on_last (own (s ∷ [])) (titled n (own ss) ∷ os) ++ owns (s ∷ [])
owns_ticket n ss s [] e h = rw (own_more_none ss s e, h) refl
owns_ticket n ss s (o ∷ os) e h = rw (own_more_some ss s o os e, h) refl

pub owns_more : (ss : List Setting) (s : Setting) →
    owns (ss ++ s ∷ []) ≡ on_last (own (s ∷ [])) (owns ss) ++ owns (s ∷ [])
owns_more [] s = refl
owns_more (File f ∷ ss) s = owns_more ss s
owns_more (Member m ∷ ss) s = owns_more ss s
owns_more (Ticket n ∷ ss) s = owns_ticket n ss s (owns ss) refl (owns_more ss s)
owns_more (Defaults ∷ ss) s = owns_more ss s
owns_more (Of p ∷ ss) s = owns_more ss s

-- the default's keys, where no ticket stands after them
abbrev pub default_more : Option (List Entry) → Setting → Option (List Entry)
default_more None s = default_own (s ∷ [])
default_more (Some o) s = Some (o ++ own (s ∷ []))

default_none : (ss : List Setting) (s : Setting) → owns ss ≡ [] →
    default_own (ss ++ s ∷ []) ≡ default_more (default_own ss) s
default_none [] s h = refl
default_none (File f ∷ ss) s h = default_none ss s h
default_none (Member m ∷ ss) s h = default_none ss s h
default_none (Ticket n ∷ ss) s h = cc
default_none (Defaults ∷ ss) s h = ap (λ o. Some o) (own_more_none ss s h)
default_none (Of p ∷ ss) s h = default_none ss s h

default_some : (ss : List Setting) (s : Setting) (o : OwnKeys) (os : List OwnKeys) →
    owns ss ≡ o ∷ os → default_own (ss ++ s ∷ []) ≡ default_own ss
default_some [] s o os h = cc
default_some (File f ∷ ss) s o os h = default_some ss s o os h
default_some (Member m ∷ ss) s o os h = default_some ss s o os h
default_some (Ticket n ∷ ss) s o os h = refl
default_some (Defaults ∷ ss) s o os h = ap (λ x. Some x) (own_more_some ss s o os h)
default_some (Of p ∷ ss) s o os h = default_some ss s o os h

on_last_nil : (os : List OwnKeys) → on_last [] os ≡ os
on_last_nil [] = refl
on_last_nil (o ∷ []) = ap (λ ks. titled o.name ks ∷ []) (append-nil o.keys)
on_last_nil (o ∷ r ∷ rs) = ap (λ xs. o ∷ xs) (on_last_nil (r ∷ rs))

default_more_nil : (o : Option (List Entry)) (s : Setting) → own (s ∷ []) ≡ [] →
    default_own (s ∷ []) ≡ None → default_more o s ≡ o
default_more_nil None s h d = d
default_more_nil (Some o) s h d = ap (λ q. Some (o ++ q)) h ∙ ap (λ x. Some x) (append-nil o)

-- a setting that is no ticket's and no default leaves the default as it is
default_kept_at : (ss : List Setting) (s : Setting) (os : List OwnKeys) → owns ss ≡ os →
    own (s ∷ []) ≡ [] → default_own (s ∷ []) ≡ None → default_own (ss ++ s ∷ []) ≡ default_own ss
default_kept_at ss s [] e h d = default_none ss s e ∙ default_more_nil (default_own ss) s h d
default_kept_at ss s (o ∷ os) e h d = default_some ss s o os e

default_kept : (ss : List Setting) (s : Setting) → own (s ∷ []) ≡ [] → default_own (s ∷ []) ≡ None →
    default_own (ss ++ s ∷ []) ≡ default_own ss
default_kept ss s h d = default_kept_at ss s (owns ss) refl h d

owns_kept : (ss : List Setting) (s : Setting) → own (s ∷ []) ≡ [] →
    owns (ss ++ s ∷ []) ≡ owns ss ++ owns (s ∷ [])
owns_kept ss s h =
    owns_more ss s ∙ ap (λ q. on_last q (owns ss) ++ owns (s ∷ [])) h
    ∙ ap (λ xs. xs ++ owns (s ∷ [])) (on_last_nil (owns ss))

none_of : {K : Type 0} (b : Bool) (k : K) → cond b (Some k) None ≡ None → b ≡ false
none_of true k e = cc
none_of false k e = refl

then_none : {K : Type 0} (b : Bool) (k : K) (o : Option K) → cond b (Some k) o ≡ None →
    (b ≡ false) × (o ≡ None)
then_none true k o e = cc
then_none false k o e = (refl, e)

sections_more : (inherited : List Entry) (defaults : Option (List Entry)) (o : OwnKeys) (os : List OwnKeys) (p : Entry) →
    placed_clash (open_section defaults (map (named_section inherited) (o ∷ os))) p ≡ None →
    map (named_section inherited) (on_last (p ∷ []) (o ∷ os)) ≡ last_added (map (named_section inherited) (o ∷ os)) p
sections_more inherited defaults o [] p h =
    ap (λ (x : List Entry). (record { name = o.name; section = x }) ∷ []) (sym (append_assoc inherited o.keys (p ∷ [])))
sections_more inherited defaults o (r ∷ rs) p h =
    ap (λ xs. named_section inherited o ∷ xs) (sections_more inherited defaults r rs p h)

summary_file : (ss : List Setting) (f : Entry) → clash (summary ss) (File f) ≡ None →
    summary (ss ++ File f ∷ []) ≡ added (summary ss) (File f)
summary_file ss f h =
    rw (grows file_in ss (File f) f refl, kept member_in ss (File f) refl, default_kept ss (File f) refl refl, owns_kept ss (File f) refl, append-nil (owns ss)) refl

summary_member : (ss : List Setting) (m : MemberOf) →
    summary (ss ++ Member m ∷ []) ≡ added (summary ss) (Member m)
summary_member ss m =
    rw (kept file_in ss (Member m) refl, grows member_in ss (Member m) m refl, default_kept ss (Member m) refl refl, owns_kept ss (Member m) refl, append-nil (owns ss)) refl

summary_ticket : (ss : List Setting) (n : List ℕ) →
    summary (ss ++ Ticket n ∷ []) ≡ added (summary ss) (Ticket n)
summary_ticket ss n =
    rw (kept file_in ss (Ticket n) refl, kept member_in ss (Ticket n) refl, default_kept ss (Ticket n) refl refl, owns_kept ss (Ticket n) refl, map-append (named_section (prereqs_of (default_own ss))) (owns ss) (titled n [] ∷ []), append-nil (prereqs_of (default_own ss))) refl

no_sections : (f : OwnKeys → NamedSection) (os : List OwnKeys) →
    nat_lt 0 (length (map f os)) ≡ false → os ≡ []
no_sections f [] h = refl
no_sections f (o ∷ os) h = grind (arith, nat_tests)

no_default : (o : Option (List Entry)) → is_some o ≡ false → o ≡ None
no_default None h = refl
no_default (Some o) h = cc

summary_defaults : (ss : List Setting) → clash (summary ss) Defaults ≡ None →
    summary (ss ++ Defaults ∷ []) ≡ added (summary ss) Defaults
summary_defaults ss h =
    let defaults : Option (List Entry) = default_own ss in
    let t =
    then_none (is_some defaults) Repeated (cond (nat_lt 0 (length (map (named_section (prereqs_of defaults)) (owns ss)))) (Some DefaultLate) None) h in
    let none : owns ss ≡ [] =
    no_sections (named_section (prereqs_of defaults)) (owns ss) (none_of _ DefaultLate t.1) in
    let was : default_own ss ≡ None = no_default (default_own ss) t.0 in
    rw (kept file_in ss Defaults refl, kept member_in ss Defaults refl, default_none ss Defaults none, owns_kept ss Defaults refl, none, was) refl

of_default : (ss : List Setting) (p : Entry) (d : Option (List Entry)) →
    owns ss ≡ [] → default_own ss ≡ d → clash (summary ss) (Of p) ≡ None →
    summary (ss ++ Of p ∷ []) ≡ added (summary ss) (Of p)
of_default ss p None none was h = let e : Some Misplaced ≡ None = rw (none, was) at h in cc
of_default ss p (Some o) none was h =
    rw (kept file_in ss (Of p) refl, kept member_in ss (Of p) refl, default_none ss (Of p) none, owns_more ss (Of p), none, was) refl

of_ticket : (ss : List Setting) (p : Entry) (o : OwnKeys) (os : List OwnKeys) →
    owns ss ≡ o ∷ os → clash (summary ss) (Of p) ≡ None →
    summary (ss ++ Of p ∷ []) ≡ added (summary ss) (Of p)
of_ticket ss p o os some h =
    let defaults : Option (List Entry) = default_own ss in
    let inherited : List Entry = prereqs_of defaults in
    let c : placed_clash (open_section defaults (map (named_section inherited) (o ∷ os))) p ≡ None =
    rw some at h in
    let t : nat_lt 0 (length (map (named_section inherited) (o ∷ os))) ≡ true =
    grind (arith, nat_tests) in
    rw (kept file_in ss (Of p) refl, kept member_in ss (Of p) refl, default_some ss (Of p) o os some, owns_more ss (Of p), some, append-nil (on_last (p ∷ []) (o ∷ os)), sections_more inherited defaults o os p c, t) refl

of_at : (ss : List Setting) (p : Entry) (os : List OwnKeys) → owns ss ≡ os →
    clash (summary ss) (Of p) ≡ None → summary (ss ++ Of p ∷ []) ≡ added (summary ss) (Of p)
of_at ss p [] e h = of_default ss p (default_own ss) e refl h
of_at ss p (o ∷ os) e h = of_ticket ss p o os e h

-- a setting that does not clash is added
pub summary_more : (ss : List Setting) (s : Setting) → clash (summary ss) s ≡ None →
    summary (ss ++ s ∷ []) ≡ added (summary ss) s
summary_more ss (File f) h = summary_file ss f h
summary_more ss (Member m) h = summary_member ss m
summary_more ss (Ticket n) h = summary_ticket ss n
summary_more ss Defaults h = summary_defaults ss h
summary_more ss (Of p) h = of_at ss p (owns ss) refl h

-- LINES

-- the setting of a line without a fault does not clash
pub pair_fine : (d : Summary) (key : ConfKey) (o : Option Setting) →
    said_fault d (Pair key o) ≡ None → value_fault key d o ≡ None
pair_fine d key o h = (then_none (is_misplaced key d) Misplaced (value_fault key d o) h).1

said_more : (ss : List Setting) (s : Said) → said_fault (summary ss) s ≡ None →
    summary (ss ++ cons_option (setting_said s) []) ≡ said_added (summary ss) s
said_more ss Empty h = ap summary (append-nil ss)
said_more ss Broken h = cc
said_more ss Unknown h = cc
said_more ss (Pair key None) h = let t = pair_fine (summary ss) key None h in cc
said_more ss (Pair key (Some s)) h = summary_more ss s (pair_fine (summary ss) key (Some s) h)

pub line_more : (lines : List Said) (line : Said) → line_fault lines line ≡ None →
    summary (settings (lines ++ line ∷ [])) ≡ said_added (summary (settings lines)) line
line_more lines line h =
    ap summary (filter_map-append setting_said lines (line ∷ []))
    ∙ said_more (settings lines) line h
