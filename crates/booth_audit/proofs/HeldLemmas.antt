-- The holdings of all journals are those that their members' deeds make.
use Rattle.std.specs.Prelude.{length, map, position, slice_get, take, Option, None, Some}
use Rattle.std.specs.List.{All, filter}
use Rattle.std.specs.Option.{option_map_or}
use Rattle.std.proofs.Common.{◌≡◌, ◌≤◌, ◌<◌, ◌+◌, inl, inr, length-append, ℕ, List, [], ◌∷◌, ◌++◌, append_assoc, append-nil, get_or, refl, sym, ◌∙◌, ap, subst, arith}
use Rattle.std.proofs.lemmas.List.{take_all, take_more}
use Rattle.std.proofs.lemmas.List.Elements.{All-append, All-cons, All-nil, filter-append}
use Rattle.std.proofs.lemmas.List.Quantifiers.{position-Some}
use Rattle.booth_conf.specs.Config.{ConfigSays}
use Rattle.booth_conf.specs.Lookups.{is_called}
use Rattle.booth_conf.specs.declared.tickets.TicketConf.{TicketConf}
use Rattle.booth_host.specs.declared.entry.Entry.TheVariants as entries
use Rattle.booth_keys.specs.declared.ring.Ring.{Ring}
use Rattle.booth_node.specs.declared.node_config.NodeConfig.{NodeConfig}
use Rattle.booth_node.specs.Records.{Has}
use Rattle.booth_node.specs.Session.{AreSessions, CutKeep, CutNext, CutNow, CutSend, CutStart, Down, IsCut, Makes, SessionEntry, Stand, Starts, after_entry}
use Rattle.booth_rec.specs.declared.record.Lease.{Lease}
use Rattle.booth_rec.specs.declared.record.Record.{Record}
use Rattle.booth_rec.specs.Record.{record_or_none}
use Rattle.booth_audit.specs.declared.holding.Holding.{Holding}
use Rattle.booth_audit.specs.Audit.{AreTrue, IsTrue, deeds_by, node_of}
use Rattle.booth_audit.specs.Faults.{Heard}
use Rattle.booth_audit.specs.Holdings.{AllFindAt, Covers, Deeds, IsOfTickets, holding_by, holdings_by, holdings_from, holdings_in, holdings_of}
use Rattle.booth_audit.specs.Judging.{AreTallied, IsTallied, JudgedSays, held_by, member_at}
use Rattle.booth_audit.specs.Noted.{MemberSays, Noted, held_from, is_of, kept_at, noted, noted_all, nothing_noted}
use Rattle.booth_audit.specs.Order.{by_tickets}
use Rattle.booth_audit.specs.Own.{AllOwn, IsOwn}
use Rattle.booth_audit.specs.Replay.{Event, Replayed, deeds_of}
use Rattle.booth_audit.specs.Tally.{Tally, nothing_tallied}
use Rattle.booth_audit.specs.Watched.{AreFound}
use Rattle.booth_audit.proofs.HoldingLemmas.{holdings_cover}
use Rattle.booth_audit.proofs.NotedLemmas.{notes_are_deeds}
use Rattle.booth_audit.proofs.OwnLemmas.{replays_are_own}
use Rattle.booth_audit.proofs.TallyLemmas.{noted_so}

-- ---- one journal

pub own_deeds : {config : ConfigSays} {ring : Option Ring} {earlier : List (Option ℕ)} {text : List ℕ} {heard : Heard}
    → IsTrue config ring earlier text heard → AllOwn (node_of config ring heard.member) (deeds_of heard.events)
own_deeds {config} {ring} {heard = heard} is =
    subst (λ (r : Replayed). AllOwn (node_of config ring heard.member) (deeds_of r.events)) is.replayed
    (replays_are_own (node_of config ring heard.member) is.said)

pub noted_of : {config : ConfigSays} {ring : Option Ring} {heard : Heard} {judged : JudgedSays} → IsTallied config ring heard judged
    → judged.tally.noted ≡ noted_all (member_at config ring heard.member) nothing_noted heard.events
noted_of {config} {ring} {heard} is =
    ap (λ (t : Tally). t.noted) is.tally
    ∙ noted_so (member_at config ring heard.member) (nothing_tallied config.tickets) heard.events

-- those of one ticket, by the deeds of whoever it was
held_of : (config : ConfigSays) (ring : Option Ring) (found : AreFound config.tickets) (ticket : ℕ) (conf : TicketConf)
    → slice_get config.tickets ticket ≡ Some conf → (at : Option ℕ) (events : List Event) → (at ≡ None → events ≡ [])
    → filter (is_of ticket) (noted_all (member_at config ring at) nothing_noted events).held
    ≡ option_map_or (λ member. holdings_in conf.name ticket member 0 (deeds_of events)) at []
held_of config ring found ticket conf is None events nobody =
    ap (λ (l : List Event). filter (is_of ticket) (noted_all (member_at config ring None) nothing_noted l).held) (nobody refl)
held_of config ring found ticket conf is (Some place) events nobody =
    (notes_are_deeds (member_at config ring (Some place)) ticket conf is (found ticket conf is) events).1

-- ---- all journals

module _ (config : ConfigSays) (ring : Option Ring) (found : AreFound config.tickets) (ticket : ℕ) (conf : TicketConf)
    (is : slice_get config.tickets ticket ≡ Some conf) where
  filter_all : (heard : List Heard) (all : List JudgedSays) → AreTallied config ring heard all
      → filter (is_of ticket) (held_by all) ≡ holdings_of (map deeds_by heard) ticket conf
  filter_all [] [] are = refl
  filter_all [] (judged ∷ all) are = absurd are
  filter_all (one ∷ heard) [] are = absurd are
  filter_all (one ∷ heard) (judged ∷ all) are =
      filter-append (is_of ticket) judged.tally.noted.held (held_by all)
      ∙ ap (λ (l : List Holding). l ++ filter (is_of ticket) (held_by all))
      (ap (λ (n : Noted). filter (is_of ticket) n.held) (noted_of are.0)
      ∙ held_of config ring found ticket conf is one.member one.events are.0.nobody)
      ∙ ap (λ (l : List Holding). holdings_by ticket conf (deeds_by one) ++ l) (filter_all heard all are.1)

-- tickets from some place on
from_place : (tickets : List TicketConf) (ticket : ℕ) (conf : TicketConf) (more : List TicketConf) (before : List TicketConf)
    → tickets ≡ before ++ conf ∷ more → ticket ≡ length before → slice_get tickets ticket ≡ Some conf
from_place tickets ticket conf more before whole at =
    ap (λ (l : List TicketConf). slice_get l ticket) whole ∙ ap (slice_get (before ++ conf ∷ more)) at ∙ there before
  where
    there : (b : List TicketConf) → slice_get (b ++ conf ∷ more) (length b) ≡ Some conf
    there [] = refl
    there (x ∷ b) = there b

module _ (config : ConfigSays) (ring : Option Ring) (found : AreFound config.tickets) (heard : List Heard) (all : List JudgedSays)
    (are : AreTallied config ring heard all) where
  all_tickets : (before tickets : List TicketConf) (ticket : ℕ) → config.tickets ≡ before ++ tickets → ticket ≡ length before
      → by_tickets (held_by all) ticket (length tickets) ≡ holdings_from (map deeds_by heard) ticket tickets
  all_tickets before [] ticket whole at = refl
  all_tickets before (conf ∷ tickets) ticket whole at =
      ap (λ (l : List Holding). l ++ by_tickets (held_by all) (ticket + 1) (length tickets))
      (filter_all config ring found ticket conf (from_place config.tickets ticket conf tickets before whole at) heard all are)
      ∙ ap (λ (l : List Holding). holdings_of (map deeds_by heard) ticket conf ++ l)
      (all_tickets (before ++ conf ∷ []) tickets (ticket + 1)
      (whole ∙ sym (append_assoc before (conf ∷ []) tickets)) (longer before conf at))
    where
      longer : (b : List TicketConf) (c : TicketConf) → ticket ≡ length b → ticket + 1 ≡ length (b ++ c ∷ [])
      longer b c is = let one = length-append b (c ∷ []) in omega (arith, is, one)

  pub held_so : by_tickets (held_by all) 0 (length config.tickets) ≡ holdings_from (map deeds_by heard) 0 config.tickets
  held_so = all_tickets [] config.tickets 0 refl refl

-- ---- each holding is of a ticket

abbrev IsBelow : ℕ → Holding → Type 0
IsBelow count holding = holding.ticket < count

abbrev AreBelow : ℕ → List Holding → Type 0
AreBelow count held = All (IsBelow count) held

lease_below : (count ticket member from : ℕ) (lease : Option Lease) → ticket < count → AreBelow count (holding_by ticket member from lease)
lease_below count ticket member from None below = All-nil (IsBelow count)
lease_below count ticket member from (Some lease) below =
    All-cons (IsBelow count) (record { ticket = ticket; member = member; from = from; until = lease.until }) [] below
    (All-nil (IsBelow count))

from_below : (count ticket member from : ℕ) (records : List (Option Record)) → ticket + length records ≤ count
    → AreBelow count (held_from ticket member from records)
from_below count ticket member from [] within = All-nil (IsBelow count)
from_below count ticket member from (found ∷ records) within =
    All-append (IsBelow count) (holding_by ticket member from (record_or_none found).lease) (held_from (ticket + 1) member from records)
    (lease_below count ticket member from (record_or_none found).lease (omega (arith, within)))
    (from_below count (ticket + 1) member from records (omega (arith, within)))

module _ (member : MemberSays) where
  abbrev tickets : List TicketConf
  tickets = member.node.config.tickets

  kept_below : (place : Option ℕ) (from : ℕ) (kept : Record) → ((k : ℕ) → place ≡ Some k → k < length tickets)
      → AreBelow (length tickets) (kept_at place member.place from kept)
  kept_below None from kept within = All-nil (IsBelow (length tickets))
  kept_below (Some k) from kept within = lease_below (length tickets) k member.place from kept.lease (within k refl)

  found_within : (name : List ℕ) (k : ℕ) → position (is_called name) tickets ≡ Some k → k < length tickets
  found_within name k is = within tickets k is
    where
      within : (l : List TicketConf) (i : ℕ) → position (is_called name) l ≡ Some i → i < length l
      within [] i is = let no : None ≡ Some i = is in absurd cc
      within (first ∷ l) i is = (position-Some (is_called name) (first ∷ l) i first is).0

  keeps_below : (notes : Noted) (name : List ℕ) (kept : Record) → AreBelow (length tickets) notes.held
      → AreBelow (length tickets) (notes.held ++ kept_at (position (is_called name) tickets) member.place notes.last kept)
  keeps_below notes name kept below =
      All-append (IsBelow (length tickets)) notes.held (kept_at (position (is_called name) tickets) member.place notes.last kept) below
      (kept_below (position (is_called name) tickets) notes.last kept (found_within name))

  one_below : (stand : Stand) (notes : Noted) (what : SessionEntry) (more : List SessionEntry) → AreSessions stand (what ∷ more)
      → IsOwn member.node what → AreBelow (length tickets) notes.held → AreBelow (length tickets) (noted member notes what).held
  one_below stand notes (Starts node reading records) more are own below =
      let count : length records ≡ length node.config.tickets = are.0 in
      let same : length node.config.tickets ≡ length tickets = ap (λ (n : NodeConfig). length n.config.tickets) own in
      All-append (IsBelow (length tickets)) notes.held _ below
      (from_below (length tickets) 0 member.place _ records (omega (arith, count, same)))
  one_below stand notes (Makes (entries.Now reading)) more are own below = below
  one_below stand notes (Makes (entries.Keep name kept answer)) more are own below = keeps_below notes name kept below
  one_below stand notes (Makes (entries.Send to bytes answer)) more are own below = below
  one_below stand notes (Makes (entries.Open local port records conf_path answer)) more are own below = below
  one_below stand notes (Makes (entries.Next wait answer bytes)) more are own below = below
  one_below stand notes (Makes (entries.ReadFile path answer)) more are own below = below
  one_below stand notes (Makes (entries.Lock path answer)) more are own below = below
  one_below stand notes (Makes (entries.Kept name answer)) more are own below = below
  one_below stand notes (Makes (entries.Start number name handler local expires answer)) more are own below = below
  one_below stand notes (Makes (entries.Out bytes answer)) more are own below = below
  one_below stand notes (Makes (entries.Err bytes answer)) more are own below = below
  one_below stand notes (IsCut CutNext) more are own below = below
  one_below stand notes (IsCut CutNow) more are own below = below
  one_below stand notes (IsCut (CutSend to bytes)) more are own below = below
  one_below stand notes (IsCut (CutKeep name kept)) more are own below = keeps_below notes name kept below
  one_below stand notes (IsCut (CutStart job)) more are own below = below

  pub all_below : (stand : Stand) (notes : Noted) (events : List Event) → AreSessions stand (deeds_of events)
      → AllOwn member.node (deeds_of events) → AreBelow (length tickets) notes.held
      → AreBelow (length tickets) (noted_all member notes events).held
  all_below stand notes [] are own below = below
  all_below stand notes (event ∷ events) are own below =
      all_below (after_entry stand event.what) (noted member notes event.what) events are.1 own.1
      (one_below stand notes event.what (deeds_of events) are own.0 below)

-- of all journals
pub held_below : (config : ConfigSays) (ring : Option Ring) (earlier : List Heard) (texts : List (List ℕ)) (heard : List Heard)
    (all : List JudgedSays) → AreTrue config ring earlier texts heard → AreTallied config ring heard all
    → All (λ (holding : Holding). holding.ticket < length config.tickets) (held_by all)
held_below config ring earlier [] [] [] are tallied = All-nil (IsBelow (length config.tickets))
held_below config ring earlier [] [] (judged ∷ all) are tallied = absurd tallied
held_below config ring earlier [] (one ∷ heard) all are tallied = absurd are
held_below config ring earlier (text ∷ texts) [] all are tallied = absurd are
held_below config ring earlier (text ∷ texts) (one ∷ heard) [] are tallied = absurd tallied
held_below config ring earlier (text ∷ texts) (one ∷ heard) (judged ∷ all) are tallied =
    All-append (IsBelow (length config.tickets)) judged.tally.noted.held (held_by all)
    (subst (λ (n : Noted). AreBelow (length config.tickets) n.held) (sym (noted_of tallied.0))
    (all_below (member_at config ring one.member) Down nothing_noted one.events are.0.sessions (own_deeds are.0)
    (All-nil (IsBelow (length config.tickets)))))
    (held_below config ring (earlier ++ one ∷ []) texts heard all are.1 tallied.1)

-- ---- what holdings are good for

find_all : (node : NodeConfig) (name : List ℕ) (place : ℕ) (deeds : List SessionEntry)
    → position (is_called name) node.config.tickets ≡ Some place → AllOwn node deeds → AllFindAt name place deeds
find_all node name place [] is own = tt
find_all node name place (Starts other reading records ∷ deeds) is own = (
  subst (λ (n : NodeConfig). position (is_called name) n.config.tickets ≡ Some place) (sym own.0) is,
  find_all node name place deeds is own.1,
)
find_all node name place (Makes entry ∷ deeds) is own = (tt, find_all node name place deeds is own.1)
find_all node name place (IsCut call ∷ deeds) is own = (tt, find_all node name place deeds is own.1)

of_tickets : (config : ConfigSays) (ring : Option Ring) → AreFound config.tickets → (earlier : List Heard) (texts : List (List ℕ))
    (heard : List Heard) (all : List JudgedSays) → AreTrue config ring earlier texts heard → AreTallied config ring heard all
    → (one : Deeds) → Has (map deeds_by heard) one → IsOfTickets config.tickets one
of_tickets config ring found earlier [] [] all are tallied one has = absurd has
of_tickets config ring found earlier [] (first ∷ heard) all are tallied one has = absurd are
of_tickets config ring found earlier (text ∷ texts) [] all are tallied one has = absurd are
of_tickets config ring found earlier (text ∷ texts) (first ∷ heard) [] are tallied one has = absurd tallied
of_tickets config ring found earlier (text ∷ texts) (first ∷ heard) (judged ∷ all) are tallied one (inl here) =
    subst (IsOfTickets config.tickets) here (
      (λ at. ap deeds_of (tallied.0.nobody at)),
      (λ place conf is.
          find_all (node_of config ring first.member) conf.name place (deeds_of first.events) (found place conf is) (own_deeds are.0)),
    )
of_tickets config ring found earlier (text ∷ texts) (first ∷ heard) (judged ∷ all) are tallied one (inr there) =
    of_tickets config ring found (earlier ++ first ∷ []) texts heard all are.1 tallied.1 one there

pub covers_so : (config : ConfigSays) (ring : Option Ring) → AreFound config.tickets → (texts : List (List ℕ)) (heard : List Heard)
    (all : List JudgedSays) → AreTrue config ring [] texts heard → AreTallied config ring heard all
    → Covers config.tickets (map deeds_by heard) (holdings_from (map deeds_by heard) 0 config.tickets)
covers_so config ring found texts heard all are tallied =
    holdings_cover config.tickets (map deeds_by heard) (of_tickets config ring found [] texts heard all are tallied)

-- ---- the holdings of all journals, journal by journal

held_then : (all : List JudgedSays) (judged : JudgedSays) → held_by (all ++ judged ∷ []) ≡ held_by all ++ judged.tally.noted.held
held_then [] judged = append-nil judged.tally.noted.held
held_then (first ∷ all) judged =
    ap (λ (l : List Holding). first.tally.noted.held ++ l) (held_then all judged)
    ∙ sym (append_assoc first.tally.noted.held (held_by all) judged.tally.noted.held)

-- one more
pub held_more : (all : List JudgedSays) (i : ℕ) (judged : JudgedSays) {held then_held : List Holding} → i < length all
    → judged ≡ get_or all i judged → held ≡ held_by (take i all) → then_held ≡ held ++ judged.tally.noted.held
    → then_held ≡ held_by (take (i + 1) all)
held_more all i judged below at so_far is =
    is ∙ ap (λ (l : List Holding). l ++ judged.tally.noted.held) so_far
    ∙ sym (held_then (take i all) judged)
    ∙ ap held_by (ap (λ (j : JudgedSays). take i all ++ j ∷ []) at ∙ sym (take_more all i judged below))

pub held_all : (all : List JudgedSays) (i : ℕ) {held sorted : List Holding} → length all ≤ i → held ≡ held_by (take i all)
    → ((count : ℕ) → All (λ (holding : Holding). holding.ticket < count) held → sorted ≡ by_tickets held 0 count)
    → (count : ℕ) → All (λ (holding : Holding). holding.ticket < count) (held_by all) → sorted ≡ by_tickets (held_by all) 0 count
held_all all i {held} {sorted} above is sorts =
    subst (λ (l : List Holding). (count : ℕ) → All (λ (holding : Holding). holding.ticket < count) l → sorted ≡ by_tickets l 0 count)
    (is ∙ ap held_by (take_all i all above)) sorts
