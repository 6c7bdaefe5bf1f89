-- What the tests of a world pass of it is so.
use Rattle.std.proofs.Common.{◌≡◌, ℕ, zero, suc, ◌<◌, ◌≤◌, ◌+◌, Bool, true, false, not, ◌||◌, List, [], ◌∷◌, ◌++◌, refl, sym, ap, subst, ◌∙◌, inl, inr, arith, if◌then◌else◌, ⊎_elim}
use Rattle.std.specs.Prelude.{◌==◌, nat_le, slice_get, Some, None, Result, Ok}
use Rattle.std.specs.List.{list_all, list_any, range_with_len}
use Rattle.std.proofs.lemmas.Bool.{and_parts, or_cases, or_left, or_right, eqb-true, eq-eqb, cases_eq, ltb-true, leb-true}
use Rattle.std.proofs.lemmas.List.{append-nil, append_assoc}
use Rattle.std.proofs.lemmas.Option.{same_Some, none-some}
use Rattle.booth_auth.proofs.GateLemmas.{lets_in}
use Rattle.booth_auth.specs.declared.admission.DropFault.{DropFault}
use Rattle.booth_base.specs.declared.address.MemberId.{MemberId}
use Rattle.booth_conf.specs.declared.tickets.TicketConf.{TicketConf}
use Rattle.booth_host.specs.declared.entry.Entry.TheVariants as calls
use Rattle.booth_host.specs.declared.host.Arrival.TheVariants as arrivals
use Rattle.booth_rec.specs.declared.record.Record.{Record}
use Rattle.booth_rec.specs.Record.{first_plain}
use Rattle.booth_node.specs.Opening.{is_site_at}
use Rattle.booth_wire.specs.PlainMessage.{PlainMessage}
use Rattle.booth_wire.specs.Reading.{decoded}
use Rattle.booth_wire.specs.declared.command.Direction.{Direction}
use Rattle.booth_node.specs.Reaction.{used}
use Rattle.booth_node.specs.Records.{Has, record_at, may_be_kept, IsSilent, MayRead}
use Rattle.booth_node.specs.Session.{SessionEntry, Starts, Makes, IsCut, CutSend, Stand, Down, Hearing, after_entries, AreSessions}
use Rattle.booth_node.specs.World.{World, WorldEntry, AtEach, HasForm, IsNodeOf, HasConfiguration, ReadsClock, ReadsKept, WasSecond, StaysSecond, IsSend, WasSent, HearsSent, members_of, id_at, entries_of, begins_with, stand_after}
use Rattle.booth_node.specs.declared.node_config.NodeConfig.{NodeConfig}
use Rattle.booth_examples.specs.Same.{same_id, same_list, same_member, same_record}
use Rattle.booth_examples.specs.Fitting.{is_sound}
use Rattle.booth_examples.specs.Checks.{along, each_ticket, config_of, least_ticket, fits_in, has_form, is_node_of, has_configuration, has_record, is_silent, may_read, reads_kept, was_second, stays_second, reads_clock, sent_bytes, is_sent_by, was_said, was_sent, hears_sent, stand_next, hears_if, hears_along, each_member, same_members, reads_clocks, records_return, versions_rise, members_speak, one_daemon}
use Rattle.booth_examples.proofs.SameLemmas.{no_test, bytes_are, id_is, list_is, member_is, option_is, record_is}
use Rattle.booth_examples.proofs.FittingLemmas.{config_is}
use Rattle.booth_examples.specs.Sessions.{are_sessions}
use Rattle.booth_examples.proofs.SessionLemmas.{sessions_are}

-- ---- along a list

same_head : (x y : WorldEntry) (xs ys : List WorldEntry) → x ∷ xs ≡ y ∷ ys → x ≡ y
same_head x y xs ys e = cc

same_tail : (x y : WorldEntry) (xs ys : List WorldEntry) → x ∷ xs ≡ y ∷ ys → xs ≡ ys
same_tail x y xs ys e = cc

along_at : (test : List WorldEntry → WorldEntry → Bool) (done entries : List WorldEntry) → along test done entries ≡ true
    → (before after : List WorldEntry) (entry : WorldEntry) → entries ≡ before ++ entry ∷ after → test (done ++ before) entry ≡ true
along_at test done [] h [] after entry e = absurd (cc)
along_at test done [] h (b ∷ before) after entry e = absurd (cc)
along_at test done (x ∷ xs) h [] after entry e =
    subst (λ (d : List WorldEntry). test d entry ≡ true) (sym (append-nil done))
    (subst (λ (y : WorldEntry). test done y ≡ true) (same_head x entry xs after e) (and_parts (test done x) _ h).0)
along_at test done (x ∷ xs) h (b ∷ before) after entry e =
    subst (λ (d : List WorldEntry). test d entry ≡ true)
    (append_assoc done (x ∷ []) before ∙ ap (λ (y : WorldEntry). done ++ y ∷ before) (same_head x b xs _ e))
    (along_at test (done ++ x ∷ []) xs (and_parts (test done x) _ h).1 before after entry (same_tail x b xs _ e))

-- what passes the test of each entry holds of each
pub at_each : (w : World) (test : List WorldEntry → WorldEntry → Bool) (P : List WorldEntry → WorldEntry → Type 0)
    → ((before : List WorldEntry) (entry : WorldEntry) → test before entry ≡ true → P before entry)
    → along test [] w.entries ≡ true → AtEach w P
at_each w test P holds e before after entry whole = holds before entry (along_at test [] w.entries e before after entry whole)

ticket_at : (test : ℕ → TicketConf → Bool) (first : ℕ) (tickets : List TicketConf) → each_ticket test first tickets ≡ true
    → (place : ℕ) (ticket : TicketConf) → slice_get tickets place ≡ Some ticket → test (first + place) ticket ≡ true
ticket_at test first [] e place ticket at = absurd (none-some ticket at)
ticket_at test first (t ∷ ts) e zero ticket at =
    let here : first ≡ first + zero = omega arith in
    subst (λ (n : ℕ). test n ticket ≡ true) here
    (subst (λ (u : TicketConf). test first u ≡ true) (same_Some t ticket at) (and_parts (test first t) _ e).0)
ticket_at test first (t ∷ ts) e (suc place) ticket at =
    let there : suc first + place ≡ first + suc place = omega arith in
    subst (λ (n : ℕ). test n ticket ≡ true) there
    (ticket_at test (suc first) ts (and_parts (test first t) _ e).1 place ticket at)

pub each_ticket_at : (test : ℕ → TicketConf → Bool) (tickets : List TicketConf) → each_ticket test 0 tickets ≡ true
    → (place : ℕ) (ticket : TicketConf) → slice_get tickets place ≡ Some ticket → test place ticket ≡ true
each_ticket_at test tickets e place ticket at =
    let here : 0 + place ≡ place = omega arith in
    subst (λ (n : ℕ). test n ticket ≡ true) here (ticket_at test 0 tickets e place ticket at)

range_at : (test : ℕ → Bool) (first n : ℕ) → list_all test (range_with_len first n) ≡ true
    → (m : ℕ) → first ≤ m → m < first + n → test m ≡ true
range_at test first zero e m least below = absurd (omega (arith, least, below))
range_at test first (suc n) e m least below =
    let q = and_parts (test first) _ e in
    ⊎_elim (λ (same : first ≡ m). subst (λ (k : ℕ). test k ≡ true) same q.0)
    (λ (other : first ≡ m → ⊥). range_at test (first + 1) n q.1 m (above first m least other) (omega (arith, below)))
    (cases_eq first m)
  where
    above : (a b : ℕ) → a ≤ b → (a ≡ b → ⊥) → a + 1 ≤ b
    above a b le ne = grind (arith, le, ne)

pub each_member_at : (w : World) (test : ℕ → Bool) → each_member w test ≡ true → (m : ℕ) → m < members_of w → test m ≡ true
each_member_at w test e m below = range_at test 0 (members_of w) e m (omega arith) (omega (arith, below))

-- ---- the form

pub form_is : (w : World) → has_form w ≡ true → HasForm w
form_is w e =
    let q = and_parts (is_sound (config_of w.members least_ticket)) _ e in
    let fits = at_each w (fits_in w) (λ before entry. fits_in w before entry ≡ true) (λ before entry h. h) q.1 in
    record {
      said = (config_of w.members least_ticket, config_is _ q.0, refl);
      members = λ before after entry whole. ltb-true _ _ (and_parts _ _ (fits before after entry whole)).0;
      in_order = λ before after entry whole. leb-true _ _ (and_parts _ _ (and_parts _ _ (fits before after entry whole)).1).0;
      within = λ before after entry whole. ltb-true _ _ (and_parts _ _ (and_parts _ _ (fits before after entry whole)).1).1;
    }

-- ---- starts

node_is : (w : World) (m : ℕ) (node : NodeConfig) → is_node_of w m node ≡ true → IsNodeOf w m node
node_is w m node e =
    let q = and_parts (is_sound node.config) _ e in
    let r = and_parts (same_list same_member node.config.members w.members) _ q.1 in
    record { sound = config_is _ q.0; members = list_is same_member member_is _ _ r.0; me = id_is node.me (id_at w m) r.1 }

configuration_is : (w : World) (entry : WorldEntry) (what : SessionEntry) → has_configuration w entry what ≡ true → HasConfiguration w entry what
configuration_is w entry (Starts node reading records) e = node_is w entry.member node e
configuration_is w entry (Makes call) e = tt
configuration_is w entry (IsCut call) e = tt

pub members_are : (w : World) → same_members w ≡ true → AtEach w (λ before entry. HasConfiguration w entry entry.what)
members_are w e = at_each w _ _ (λ before entry h. configuration_is w entry entry.what h) e

record_has : (kept : Record) (may : List Record) → has_record kept may ≡ true → Has may kept
record_has kept [] e = no_test e
record_has kept (one ∷ may) e =
    ⊎_elim (λ (here : same_record one kept ≡ true). inl (record_is one kept here))
    (λ (there : has_record kept may ≡ true). inr (record_has kept may there)) (or_cases (same_record one kept) _ e)

implied : (a b : Bool) → not a || b ≡ true → a ≡ true → b ≡ true
implied true b e h = e
implied false b e h = no_test h

reaches_one : (may : List Record) (term : ℕ) → list_any (λ one. nat_le one.term term) may ≡ true → (k : Record) × Has may k × (k.term ≤ term)
reaches_one [] term e = no_test e
reaches_one (one ∷ may) term e = ⊎_elim
    (λ (here : nat_le one.term term ≡ true). (one, inl refl, leb-true one.term term here))
    (λ (there : list_any (λ one. nat_le one.term term) may ≡ true). let q = reaches_one may term there in (q.0, inr q.1, q.2))
    (or_cases (nat_le one.term term) _ e)

silent_is : (site : Bool) (may : List Record) (kept : Record) → is_silent site may kept ≡ true → IsSilent site may kept
silent_is site may kept e =
    let parts = and_parts (same_record kept (first_plain kept.term None)) _ e in
    record {
      bare = record_is kept (first_plain kept.term None) parts.0;
      reaches = λ is. reaches_one may kept.term (implied site (list_any (λ one. nat_le one.term kept.term) may) parts.1 is);
    }

read_is : (site : Bool) (may : List Record) (kept : Record) → may_read site may kept ≡ true → MayRead site may kept
read_is site may kept e = ⊎_elim
    (λ (here : has_record kept may ≡ true). inl (record_has kept may here))
    (λ (there : is_silent site may kept ≡ true). inr (silent_is site may kept there))
    (or_cases (has_record kept may) _ e)

kept_is : (w : World) (before : List WorldEntry) (entry : WorldEntry) (what : SessionEntry) → reads_kept w before entry what ≡ true
    → ReadsKept w before entry what
kept_is w before entry (Starts node reading records) e = λ place ticket at.
    read_is (is_site_at w.members entry.member) _ (record_at records place) (each_ticket_at (λ n t. may_read (is_site_at w.members entry.member)
    (may_be_kept t.name (begins_with w entry.member t.name) (entries_of entry.member before)
    (Starts node reading records ∷ []))
    (record_at records n)) node.config.tickets e place ticket at)
kept_is w before entry (Makes call) e = tt
kept_is w before entry (IsCut call) e = tt

pub records_are : (w : World) → records_return w ≡ true → AtEach w (λ before entry. ReadsKept w before entry entry.what)
records_are w e = at_each w _ _ (λ before entry h. kept_is w before entry entry.what h) e

-- ---- versions

second_is : (entries : List SessionEntry) → WasSecond entries → was_second entries ≡ true
second_is [] h = absurd h
second_is (Starts node reading records ∷ entries) (inl here) = or_left node.second (was_second entries) here
second_is (Starts node reading records ∷ entries) (inr later) = or_right node.second (was_second entries) (second_is entries later)
second_is (Makes call ∷ entries) h = second_is entries h
second_is (IsCut call ∷ entries) h = second_is entries h

second_stays : (w : World) (before : List WorldEntry) (entry : WorldEntry) (what : SessionEntry) → stays_second w before entry what ≡ true
    → StaysSecond w before entry what
second_stays w before entry (Starts node reading records) e = λ was. implied _ node.second e
    (⊎_elim (λ (at_first : (w.begins entry.member).second ≡ true). or_left (w.begins entry.member).second _ at_first)
    (λ (started : WasSecond (entries_of entry.member before)). or_right (w.begins entry.member).second _ (second_is (entries_of entry.member before) started)) was)
second_stays w before entry (Makes call) e = tt
second_stays w before entry (IsCut call) e = tt

pub versions_are : (w : World) → versions_rise w ≡ true → AtEach w (λ before entry. StaysSecond w before entry entry.what)
versions_are w e = at_each w _ _ (λ before entry h. second_stays w before entry entry.what h) e

-- ---- readings

reading_is : (w : World) (entry : WorldEntry) (what : SessionEntry) → reads_clock w entry what ≡ true → ReadsClock w entry what
reading_is w entry (Starts node reading records) e = eqb-true _ _ e
reading_is w entry (Makes (calls.Now reading)) e = eqb-true _ _ e
reading_is w entry (Makes call) e = tt
reading_is w entry (IsCut call) e = tt

pub readings_are : (w : World) → reads_clocks w ≡ true → AtEach w (λ before entry. ReadsClock w entry entry.what)
readings_are w e = at_each w _ _ (λ before entry h. reading_is w entry entry.what h) e

-- ---- messages

send_is : (what : SessionEntry) (bytes : List ℕ) → sent_bytes what ≡ Some bytes → IsSend what bytes
send_is (Makes (calls.Send to sent answer)) bytes e = same_Some sent bytes e
send_is (IsCut (CutSend to sent)) bytes e = same_Some sent bytes e
send_is what bytes e = absurd (none-some bytes e)

abbrev Found : World → List WorldEntry → MemberId → List ℕ → Type 0
Found w before from bytes = (entry : WorldEntry) × Has before entry × (is_sent_by w from bytes entry ≡ true)

found_in : (w : World) (before : List WorldEntry) (from : MemberId) (bytes : List ℕ) → list_any (is_sent_by w from bytes) before ≡ true
    → Found w before from bytes
found_in w [] from bytes e = no_test e
found_in w (x ∷ before) from bytes e =
    ⊎_elim (λ (here : is_sent_by w from bytes x ≡ true). let found : Found w (x ∷ before) from bytes = (x, inl refl, here) in found)
    (λ (there : list_any (is_sent_by w from bytes) before ≡ true). let rest = found_in w before from bytes there in
    let found : Found w (x ∷ before) from bytes = (rest.0, inr rest.1, rest.2) in found)
    (or_cases (is_sent_by w from bytes x) _ e)

said_is : (w : World) (before : List WorldEntry) (bytes : List ℕ) (message : PlainMessage) → decoded bytes ≡ Ok message
    → list_any (is_sent_by w message.head.from bytes) before ≡ true → WasSent w before message
said_is w before bytes message read e =
    let found = found_in w before message.head.from bytes e in
    let q = and_parts (same_id (id_at w found.0.member) message.head.from) _ found.2 in
    record {
      entry = found.0;
      earlier = found.1;
      sender = id_is (id_at w found.0.member) message.head.from q.0;
      bytes = bytes;
      sent = send_is found.0.what bytes (option_is _ bytes_are (sent_bytes found.0.what) (Some bytes) q.1);
      same = read;
    }

heard_is : (w : World) (before : List WorldEntry) (stand : Stand) (what : SessionEntry) → hears_sent w before stand what ≡ true
    → HearsSent w before stand what
heard_is w before (Hearing node old (Ok (arrivals.Datagram from)) bytes) (Makes (calls.Now reading)) e = λ message let_in between.
    let at : ℕ = used old.last_reading reading in
    let read = ((lets_in node.config node.ring node.me at bytes message).0 let_in).read in
    let said : was_sent w before bytes (Ok message) ≡ true =
    subst (λ (r : Result PlainMessage DropFault). was_sent w before bytes r ≡ true) let_in e in
    said_is w before bytes message read
    (subst (λ (d : Direction). was_said w before bytes message.head.from d ≡ true) between said)
heard_is w before stand what e = tt

next_stand : (b : Bool) (stand : Stand) (what : SessionEntry) (entries : List SessionEntry)
    → after_entries (stand_next b stand what) entries ≡ after_entries stand (if b then what ∷ entries else entries)
next_stand true stand what entries = refl
next_stand false stand what entries = refl

hears_at : (w : World) (m : ℕ) (stand : Stand) (done entries : List WorldEntry) → hears_along w m stand done entries ≡ true
    → (before after : List WorldEntry) (entry : WorldEntry) → entries ≡ before ++ entry ∷ after → entry.member ≡ m
    → hears_sent w (done ++ before) (after_entries stand (entries_of m before)) entry.what ≡ true
hears_at w m stand done [] h [] after entry e own = absurd (cc)
hears_at w m stand done [] h (b ∷ before) after entry e own = absurd (cc)
hears_at w m stand done (x ∷ xs) h [] after entry e own =
    let same = same_head x entry xs after e in
    let mine : x.member == m ≡ true = eq-eqb x.member m (ap (λ (y : WorldEntry). y.member) same ∙ own) in
    let here : hears_sent w done stand x.what ≡ true =
    subst (λ (b : Bool). hears_if b w done stand x.what ≡ true) mine (and_parts (hears_if (x.member == m) w done stand x.what) _ h).0 in
    subst (λ (d : List WorldEntry). hears_sent w d stand entry.what ≡ true) (sym (append-nil done))
    (subst (λ (y : WorldEntry). hears_sent w done stand y.what ≡ true) same here)
hears_at w m stand done (x ∷ xs) h (b ∷ before) after entry e own =
    let same = same_head x b xs _ e in
    let rest = hears_at w m (stand_next (x.member == m) stand x.what) (done ++ x ∷ [])
    xs (and_parts (hears_if (x.member == m) w done stand x.what) _ h).1 before after entry (same_tail x b xs _ e) own in
    let there : hears_sent w (done ++ x ∷ before) (after_entries stand (entries_of m (x ∷ before))) entry.what ≡ true =
    subst (λ (d : List WorldEntry). hears_sent w d (after_entries stand (entries_of m (x ∷ before))) entry.what ≡ true)
    (append_assoc done (x ∷ []) before)
    (subst (λ (s : Stand). hears_sent w (done ++ x ∷ [] ++ before) s entry.what ≡ true)
    (next_stand (x.member == m) stand x.what (entries_of m before)) rest) in
    subst (λ (y : WorldEntry). hears_sent w (done ++ y ∷ before) (after_entries stand (entries_of m (y ∷ before))) entry.what ≡ true) same there

pub messages_are : (w : World) → AtEach w (λ before entry. entry.member < members_of w) → members_speak w ≡ true
    → AtEach w (λ before entry. HearsSent w before (stand_after entry.member before) entry.what)
messages_are w members e before after entry whole =
    heard_is w before (stand_after entry.member before) entry.what
    (hears_at w entry.member Down [] w.entries
    (each_member_at w (λ m. hears_along w m Down [] w.entries) e entry.member (members before after entry whole))
    before after entry whole refl)

pub daemons_are : (w : World) → one_daemon w ≡ true → (m : ℕ) → m < members_of w → AreSessions Down (entries_of m w.entries)
daemons_are w e m below = sessions_are Down (entries_of m w.entries)
    (each_member_at w (λ n. are_sessions Down (entries_of n w.entries)) e m below)
