-- True journals are said by one list of members and deeds; so what is wrong with journals is one thing.
use Rattle.std.specs.Prelude.{length, Bool, Option, None, Some}
use Rattle.std.proofs.Common.{◌≡◌, ◌<◌, ◌+◌, inl, inr, ◌⊎◌, ℕ, List, [], ◌∷◌, ◌++◌, append_assoc, append-nil, refl, sym, ◌∙◌, ap, subst, arith}
use Rattle.booth_base.specs.declared.address.Address.{Address}
use Rattle.booth_base.specs.declared.address.MemberId.{MemberId}
use Rattle.booth_conf.specs.Config.{ConfigSays}
use Rattle.booth_conf.specs.declared.members.Member.{Member}
use Rattle.booth_conf.specs.declared.tickets.TicketConf.{TicketConf}
use Rattle.booth_journal.specs.Says.{Said}
use Rattle.booth_journal.proofs.OnceLemmas.{one_list_said}
use Rattle.booth_keys.specs.declared.ring.Ring.{Ring}
use Rattle.booth_node.specs.AttributeRequests.{is_at_site}
use Rattle.booth_node.specs.Session.{Down, IsCut, Makes, SessionEntry, Starts, after_entries}
use Rattle.booth_audit.specs.Audit.{AreTrue, IsMembers, IsTrue, id_of, member_places, node_of}
use Rattle.booth_rec.specs.declared.record.Record.{Record}
use Rattle.booth_audit.specs.Faults.{answer_line, AllHearSent, AllReadKept, AreOf, FirstNotKept, FirstUnsent, Heard, HearsSent, MayNotRead, ReadsKept, ReadsWrong, opened_in}
use Rattle.booth_audit.specs.Replay.{Event, Replayed, deeds_of, replay}
use Rattle.booth_audit.proofs.CourseLemmas.{deeds_then}
use Rattle.booth_audit.proofs.JudgingLemmas.{owner_alone}

-- ---- one owner, one journal

owners_same : (members : List Member) (locals : List (Option Address)) (one other : Option ℕ) → AreOf members locals one
    → AreOf members locals other → one ≡ other
owners_same members locals None None are then_are = refl
owners_same members locals None (Some place) are then_are = absurd (then_are.0 are)
owners_same members locals (Some place) other are then_are = sym (owner_alone members locals place other are then_are)

-- what two readings of one journal replay
module _ {config : ConfigSays} {earlier : List (Option ℕ)} {text : List ℕ} where
  one_said : {at other : Option ℕ} {said then_said : List Said} → IsMembers config earlier text at said
      → IsMembers config earlier text other then_said → then_said ≡ said
  one_said {said = said} {then_said} is then_is = one_list_said text then_said said then_is.says is.says

  one_owner : {at other : Option ℕ} {said then_said : List Said} → IsMembers config earlier text at said
      → IsMembers config earlier text other then_said → other ≡ at
  one_owner {at} {other} {said} {then_said} is then_is =
      owners_same config.members (opened_in said) other at
      (subst (λ (l : List Said). AreOf config.members (opened_in l) other) (one_said is then_is) then_is.whose) is.whose

pub one_replay : {config : ConfigSays} (ring : Option Ring) {earlier : List (Option ℕ)} {text : List ℕ} {at other : Option ℕ}
    {said then_said : List Said} {one two : Replayed} → IsMembers config earlier text at said
    → IsMembers config earlier text other then_said → replay (node_of config ring at) said ≡ one
    → replay (node_of config ring other) then_said ≡ two → two ≡ one
one_replay {config} ring {at = at} {other} {said} {then_said} is then_is first second =
    sym second ∙ ap (λ (o : Option ℕ). replay (node_of config ring o) then_said) (one_owner is then_is)
    ∙ ap (replay (node_of config ring at)) (one_said is then_is) ∙ first

true_once : (config : ConfigSays) (ring : Option Ring) (earlier : List (Option ℕ)) (text : List ℕ) (one other : Heard)
    → IsTrue config ring earlier text one → IsTrue config ring earlier text other → other ≡ one
true_once config ring earlier text one other is then_is =
    let member = one_owner is.members then_is.members in
    let events = ap (λ (r : Replayed). r.events) (one_replay ring is.members then_is.members is.replayed then_is.replayed) in
    let id = then_is.id ∙ ap (id_of config.members) member ∙ sym is.id in
    ap (λ (o : Option ℕ). record { member = o; id = other.id; events = other.events }) member
    ∙ ap (λ (i : MemberId). record { member = one.member; id = i; events = other.events }) id
    ∙ ap (λ (e : List Event). record { member = one.member; id = one.id; events = e }) events

pub trues_once : (config : ConfigSays) (ring : Option Ring) (earlier : List Heard) (texts : List (List ℕ)) (one other : List Heard)
    → AreTrue config ring earlier texts one → AreTrue config ring earlier texts other → other ≡ one
trues_once config ring earlier [] [] [] are then_are = refl
trues_once config ring earlier [] [] (second ∷ other) are then_are = absurd then_are
trues_once config ring earlier [] (first ∷ one) other are then_are = absurd are
trues_once config ring earlier (text ∷ texts) [] other are then_are = absurd are
trues_once config ring earlier (text ∷ texts) (first ∷ one) [] are then_are = absurd then_are
trues_once config ring earlier (text ∷ texts) (first ∷ one) (second ∷ other) are then_are =
    let head = true_once config ring (member_places earlier) text first second are.0 then_are.0 in
    ap (λ (h : Heard). h ∷ other) head
    ∙ ap (λ (l : List Heard). first ∷ l)
    (trues_once config ring (earlier ++ first ∷ []) texts one other are.1
    (subst (λ (h : Heard). AreTrue config ring (earlier ++ h ∷ []) texts other) head then_are.1))

-- ---- one first event

-- One event and another are the same, or one of them stands among those before the other.
abbrev Stands : (b : List Event) (e : Event) (c : List Event) (f : Event) → Type 0
Stands b e c f =
    ((b ≡ c) × (e ≡ f))
    ⊎ (((more : List Event) × (c ≡ b ++ e ∷ more)) ⊎ ((more : List Event) × (b ≡ c ++ f ∷ more)))

deeper : (x : Event) {b : List Event} {e : Event} {c : List Event} {f : Event} → Stands b e c f → Stands (x ∷ b) e (x ∷ c) f
deeper x (inl same) = inl (ap (λ (l : List Event). x ∷ l) same.0, same.1)
deeper x (inr (inl earlier)) = inr (inl (earlier.0, ap (λ (l : List Event). x ∷ l) earlier.1))
deeper x (inr (inr later)) = inr (inr (later.0, ap (λ (l : List Event). x ∷ l) later.1))

stands : (b c a d : List Event) (e f : Event) → b ++ e ∷ a ≡ c ++ f ∷ d → Stands b e c f
stands [] [] a d e f whole = let all : e ∷ a ≡ f ∷ d = whole in let same : e ≡ f = cc in inl (refl, same)
stands [] (y ∷ c) a d e f whole =
    let all : e ∷ a ≡ y ∷ (c ++ f ∷ d) = whole in
    let same : y ≡ e = cc in
    inr (inl (c, ap (λ (x : Event). x ∷ c) same))
stands (x ∷ b) [] a d e f whole =
    let all : x ∷ (b ++ e ∷ a) ≡ f ∷ d = whole in
    let same : x ≡ f = cc in
    inr (inr (b, ap (λ (z : Event). z ∷ b) same))
stands (x ∷ b) (y ∷ c) a d e f whole =
    let all : x ∷ (b ++ e ∷ a) ≡ y ∷ (c ++ f ∷ d) = whole in
    let same : x ≡ y = cc in
    let others : b ++ e ∷ a ≡ c ++ f ∷ d = cc in
    subst (λ (z : Event). Stands (x ∷ b) e (z ∷ c) f) same (deeper x (stands b c a d e f others))

deeds_there : (b : List Event) (e : Event) (more : List Event) → deeds_of (b ++ e ∷ more) ≡ deeds_of b ++ e.what ∷ deeds_of more
deeds_there b e more = deeds_then b (e ∷ more)

-- ---- records

kept_there : (base one : List SessionEntry) (what : SessionEntry) (more : List SessionEntry)
    → AllReadKept base (one ++ what ∷ more) → ReadsKept (base ++ one) what
kept_there base [] what more kept = subst (λ (l : List SessionEntry). ReadsKept l what) (sym (append-nil base)) kept.0
kept_there base (first ∷ one) what more kept =
    subst (λ (l : List SessionEntry). ReadsKept l what) (append_assoc base (first ∷ []) one)
    (kept_there (base ++ first ∷ []) one what more kept.1)

reads_never : (before : List SessionEntry) (what : SessionEntry) (last line : ℕ) → ReadsKept before what
    → ReadsWrong before what last line → ⊥
reads_never before (Starts node reading records) last line kept wrong =
    wrong.1.wrong (kept wrong.0 wrong.1.conf wrong.1.is)
reads_never before (Makes call) last line kept wrong = wrong
reads_never before (IsCut call) last line kept wrong = wrong

pub kept_never : (events : List Event) (line : ℕ) → AllReadKept [] (deeds_of events) → FirstNotKept events line → ⊥
kept_never events line kept first =
    reads_never (deeds_of first.before) first.event.what first.event.line line
    (kept_there [] (deeds_of first.before) first.event.what (deeds_of first.after)
    (subst (AllReadKept []) (ap deeds_of first.whole ∙ deeds_there first.before first.event first.after) kept)) first.wrong

-- the records of one start
places_same : (site : Bool) (before : List SessionEntry) (tickets : List TicketConf) (records : List (Option Record))
    (one other : ℕ) → MayNotRead site before tickets records one → MayNotRead site before tickets records other
    → (one < other → ⊥)
places_same site before tickets records one other is then_is less = is.wrong (then_is.others one is.conf less is.is)

lines_same : (before : List SessionEntry) (what : SessionEntry) (last one other : ℕ) → ReadsWrong before what last one
    → ReadsWrong before what last other → one ≡ other
lines_same before (Starts node reading records) last one other wrong then_wrong =
    let less =
    places_same (is_at_site node) before node.config.tickets records wrong.0 then_wrong.0 wrong.1 then_wrong.1 in
    let more =
    places_same (is_at_site node) before node.config.tickets records then_wrong.0 wrong.0 then_wrong.1 wrong.1 in
    let same : wrong.0 ≡ then_wrong.0 = alike wrong.0 then_wrong.0 less more in
    wrong.2 ∙ ap (λ (k : ℕ). answer_line (length node.config.tickets) k last) same ∙ sym then_wrong.2
  where
    alike : (m n : ℕ) → (m < n → ⊥) → (n < m → ⊥) → m ≡ n
    alike m n less more = grind (arith, less, more)
lines_same before (Makes call) last one other wrong then_wrong = absurd wrong
lines_same before (IsCut call) last one other wrong then_wrong = absurd wrong

pub kept_once : (events : List Event) (one other : ℕ) → FirstNotKept events one → FirstNotKept events other → one ≡ other
kept_once events one other first second =
    by (stands first.before second.before first.after second.after first.event second.event (sym first.whole ∙ second.whole))
  where
    never : (b : List Event) (e : Event) (c : List Event) (line : ℕ) (more : List Event) → c ≡ b ++ e ∷ more
        → AllReadKept [] (deeds_of c) → ReadsWrong (deeds_of b) e.what e.line line → ⊥
    never b e c line more is kept wrong =
        reads_never (deeds_of b) e.what e.line line
        (kept_there [] (deeds_of b) e.what (deeds_of more)
        (subst (AllReadKept []) (ap deeds_of is ∙ deeds_there b e more) kept)) wrong

    by : Stands first.before first.event second.before second.event → one ≡ other
    by (inl same) =
        lines_same (deeds_of second.before) second.event.what second.event.line one other
        (subst (λ (e : Event). ReadsWrong (deeds_of second.before) e.what e.line one) same.1
        (subst (λ (b : List Event). ReadsWrong (deeds_of b) first.event.what first.event.line one) same.0 first.wrong)) second.wrong
    by (inr (inl earlier)) = absurd (never first.before first.event second.before one earlier.0 earlier.1 second.earlier first.wrong)
    by (inr (inr later)) = absurd (never second.before second.event first.before other later.0 later.1 first.earlier second.wrong)

-- ---- messages

sent_there : (all : List Heard) (base one : List SessionEntry) (what : SessionEntry) (more : List SessionEntry)
    → AllHearSent all base (one ++ what ∷ more) → HearsSent all (after_entries Down (base ++ one)) what
sent_there all base [] what more sent =
    subst (λ (l : List SessionEntry). HearsSent all (after_entries Down l) what) (sym (append-nil base)) sent.0
sent_there all base (first ∷ one) what more sent =
    subst (λ (l : List SessionEntry). HearsSent all (after_entries Down l) what) (append_assoc base (first ∷ []) one)
    (sent_there all (base ++ first ∷ []) one what more sent.1)

sent_among : (all : List Heard) (b : List Event) (e : Event) (c more : List Event) → c ≡ b ++ e ∷ more
    → AllHearSent all [] (deeds_of c) → HearsSent all (after_entries Down (deeds_of b)) e.what
sent_among all b e c more is sent =
    sent_there all [] (deeds_of b) e.what (deeds_of more)
    (subst (AllHearSent all []) (ap deeds_of is ∙ deeds_there b e more) sent)

pub sent_never : (all : List Heard) (events : List Event) (line : ℕ) → AllHearSent all [] (deeds_of events)
    → FirstUnsent all events line → ⊥
sent_never all events line sent first =
    first.wrong (sent_among all first.before first.event events first.after first.whole sent)

pub unsent_once : (all : List Heard) (events : List Event) (one other : ℕ) → FirstUnsent all events one
    → FirstUnsent all events other → one ≡ other
unsent_once all events one other first second =
    by (stands first.before second.before first.after second.after first.event second.event (sym first.whole ∙ second.whole))
  where
    by : Stands first.before first.event second.before second.event → one ≡ other
    by (inl same) =
        let line = ap (λ (e : Event). e.line) same.1 in
        let place = first.place in
        let then_place = second.place in
        omega (arith, line, place, then_place)
    by (inr (inl earlier)) =
        absurd (first.wrong (sent_among all first.before first.event second.before earlier.0 earlier.1 second.earlier))
    by (inr (inr later)) =
        absurd (second.wrong (sent_among all second.before second.event first.before later.0 later.1 first.earlier))
