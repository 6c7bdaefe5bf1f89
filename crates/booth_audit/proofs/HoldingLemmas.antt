-- What members may have kept has holdings.
use Rattle.std.specs.Prelude.{◌^◌, max, min, bytes_eq, length, position, slice_get, IsSomeAnd, Option, None, Some, is_ok, if◌then◌else◌}
use Rattle.std.specs.Option.{option_map_or}
use Rattle.std.proofs.Common.{◌≡◌, ◌<◌, ◌≤◌, ◌+◌, ◌-◌, inl, inr, ℕ, zero, suc, Bool, true, false, List, [], ◌∷◌, ◌++◌, refl, sym, ◌∙◌, ap, subst, arith, append_assoc}
use Rattle.std.proofs.lemmas.Option.{same_Some}
use Rattle.booth_conf.specs.Lookups.{is_called}
use Rattle.booth_conf.specs.declared.tickets.TicketConf.{TicketConf}
use Rattle.booth_host.specs.declared.entry.Entry.TheVariants as entries
use Rattle.booth_node.specs.Opening.{start_reading}
use Rattle.booth_node.specs.Reaction.{used}
use Rattle.booth_node.specs.Records.{Has, may_after, may_after_all, may_after_keep, record_at}
use Rattle.booth_node.specs.Session.{CutKeep, CutNext, CutNow, CutSend, CutStart, IsCut, Makes, SessionEntry, Starts}
use Rattle.booth_rec.specs.declared.record.Lease.{Lease}
use Rattle.booth_rec.specs.declared.record.Record.{Record}
use Rattle.booth_rec.specs.Record.{IsInForce, lease_end, no_record}
use Rattle.booth_audit.specs.declared.holding.Holding.{Holding}
use Rattle.booth_audit.specs.Holdings.{AllFindAt, Deeds, FindsAt, HoldingsCover, IsHeld, MembersAreCovered, holding_by, holding_in, holdings_by, holdings_from, holdings_in, holdings_of, used_after, used_after_all}

-- ---- lists

has_left : {X : Type 0} (xs ys : List X) (x : X) → Has xs x → Has (xs ++ ys) x
has_left [] ys x h = absurd h
has_left (y ∷ xs) ys x (inl e) = inl e
has_left (y ∷ xs) ys x (inr h) = inr (has_left xs ys x h)

has_right : {X : Type 0} (xs ys : List X) (x : X) → Has ys x → Has (xs ++ ys) x
has_right [] ys x h = h
has_right (y ∷ xs) ys x h = inr (has_right xs ys x h)

-- ---- one lease

-- more holdings, and a later reading
still_held : (ticket member : ℕ) (holdings more : List Holding) (last later : ℕ) (lease : Option Lease) → last ≤ later
    → IsHeld ticket member holdings last lease → IsHeld ticket member (holdings ++ more) later lease
still_held ticket member holdings more last later None no_less held = tt
still_held ticket member holdings more last later (Some lease) no_less held =
    (held.0, has_left holdings more held.0 held.1, held.2, held.3, held.4, omega (arith, no_less, held.5))

-- a lease that is kept now
newly_held : (ticket member : ℕ) (holdings : List Holding) (from : ℕ) (lease : Option Lease)
    → IsHeld ticket member (holdings ++ holding_by ticket member from lease) from lease
newly_held ticket member holdings from None = tt
newly_held ticket member holdings from (Some lease) =
    let holding : Holding = record { ticket = ticket; member = member; from = from; until = lease.until } in
    (holding, has_right holdings (holding ∷ []) holding (inl refl), refl, refl, refl, omega arith)

-- ---- all records that may be kept

abbrev AllHeld : ℕ → ℕ → List Holding → ℕ → List Record → Type 0
AllHeld ticket member holdings last may = (kept : Record) → Has may kept → IsHeld ticket member holdings last kept.lease

all_still : (ticket member : ℕ) (holdings more : List Holding) (last later : ℕ) (may : List Record) → last ≤ later
    → AllHeld ticket member holdings last may → AllHeld ticket member (holdings ++ more) later may
all_still ticket member holdings more last later may no_less all kept has =
    still_held ticket member holdings more last later kept.lease no_less (all kept has)

-- one record alone, which is read or kept now
alone : (ticket member : ℕ) (holdings : List Holding) (from : ℕ) (rec : Record)
    → AllHeld ticket member (holdings ++ holding_by ticket member from rec.lease) from (rec ∷ [])
alone ticket member holdings from rec kept (inl same) =
    subst (λ (r : Record). IsHeld ticket member (holdings ++ holding_by ticket member from rec.lease) from r.lease) same
    (newly_held ticket member holdings from rec.lease)
alone ticket member holdings from rec kept (inr none) = absurd none

-- one more record
added : (ticket member : ℕ) (holdings : List Holding) (last : ℕ) (rec : Record) (may : List Record)
    → AllHeld ticket member holdings last may
    → AllHeld ticket member (holdings ++ holding_by ticket member last rec.lease) last (rec ∷ may)
added ticket member holdings last rec may all kept (inl same) = alone ticket member holdings last rec kept (inl same)
added ticket member holdings last rec may all kept (inr has) =
    still_held ticket member holdings (holding_by ticket member last rec.lease) last last kept.lease (omega arith)
    (all kept has)

by_keep : (ticket member : ℕ) (holdings : List Holding) (last : ℕ) (rec : Record) (may : List Record) (ok : Bool)
    → AllHeld ticket member holdings last may
    → AllHeld ticket member (holdings ++ holding_by ticket member last rec.lease) last (may_after_keep ok rec may)
by_keep ticket member holdings last rec may true all = alone ticket member holdings last rec
by_keep ticket member holdings last rec may false all = added ticket member holdings last rec may all

if_kept : (ticket member : ℕ) (holdings : List Holding) (last : ℕ) (rec : Record) (may kept_now : List Record) (called : Bool)
    → AllHeld ticket member holdings last may
    → AllHeld ticket member (holdings ++ holding_by ticket member last rec.lease) last kept_now
    → AllHeld ticket member (holdings ++ (if called then holding_by ticket member last rec.lease else [])) last
    (if called then kept_now else may)
if_kept ticket member holdings last rec may kept_now true all now = now
if_kept ticket member holdings last rec may kept_now false all now =
    all_still ticket member holdings [] last last may (omega arith) all

no_less_max : (a b : ℕ) → a ≤ max a b
no_less_max a b = grind arith

by_start : (ticket member : ℕ) (holdings : List Holding) (from : ℕ) (records : List (Option Record)) (may : List Record)
    (found : Option ℕ) → found ≡ Some ticket
    → AllHeld ticket member (holdings ++ holding_by ticket member from (record_at records ticket).lease) from
    (option_map_or (λ place. record_at records place ∷ []) found may)
by_start ticket member holdings from records may found is =
    subst
    (λ (f : Option ℕ). AllHeld ticket member (holdings ++ holding_by ticket member from (record_at records ticket).lease) from
    (option_map_or (λ place. record_at records place ∷ []) f may))
    (sym is) (alone ticket member holdings from (record_at records ticket))

-- ---- entries

one_more : (name : List ℕ) (ticket member : ℕ) (what : SessionEntry) (holdings : List Holding) (last : ℕ) (may : List Record)
    → FindsAt name ticket what → AllHeld ticket member holdings last may
    → AllHeld ticket member (holdings ++ holding_in name ticket member (used_after last what) what) (used_after last what)
    (may_after name may what)
one_more name ticket member (Starts node reading records) holdings last may finds all =
    by_start ticket member holdings (start_reading reading) records may (position (is_called name) node.config.tickets) finds
one_more name ticket member (Makes (entries.Open local port records conf_path answer)) holdings last may finds all =
    all_still ticket member holdings [] last last may (omega arith) all
one_more name ticket member (Makes (entries.Next wait answer bytes)) holdings last may finds all =
    all_still ticket member holdings [] last last may (omega arith) all
one_more name ticket member (Makes (entries.Now reading)) holdings last may finds all =
    all_still ticket member holdings [] last (used last reading) may (no_less_max last (min reading (2 ^ 62 - 1))) all
one_more name ticket member (Makes (entries.Send to bytes answer)) holdings last may finds all =
    all_still ticket member holdings [] last last may (omega arith) all
one_more name ticket member (Makes (entries.ReadFile path answer)) holdings last may finds all =
    all_still ticket member holdings [] last last may (omega arith) all
one_more name ticket member (Makes (entries.Lock path answer)) holdings last may finds all =
    all_still ticket member holdings [] last last may (omega arith) all
one_more name ticket member (Makes (entries.Kept kept_of answer)) holdings last may finds all =
    all_still ticket member holdings [] last last may (omega arith) all
one_more name ticket member (Makes (entries.Keep kept_of rec answer)) holdings last may finds all =
    if_kept ticket member holdings last rec may (may_after_keep (is_ok answer) rec may) (bytes_eq kept_of name) all
    (by_keep ticket member holdings last rec may (is_ok answer) all)
one_more name ticket member (Makes (entries.Start number kept_of handler local expires answer)) holdings last may finds all =
    all_still ticket member holdings [] last last may (omega arith) all
one_more name ticket member (Makes (entries.Out bytes answer)) holdings last may finds all =
    all_still ticket member holdings [] last last may (omega arith) all
one_more name ticket member (Makes (entries.Err bytes answer)) holdings last may finds all =
    all_still ticket member holdings [] last last may (omega arith) all
one_more name ticket member (IsCut CutNext) holdings last may finds all =
    all_still ticket member holdings [] last last may (omega arith) all
one_more name ticket member (IsCut CutNow) holdings last may finds all =
    all_still ticket member holdings [] last last may (omega arith) all
one_more name ticket member (IsCut (CutSend to bytes)) holdings last may finds all =
    all_still ticket member holdings [] last last may (omega arith) all
one_more name ticket member (IsCut (CutKeep kept_of rec)) holdings last may finds all =
    if_kept ticket member holdings last rec may (rec ∷ may) (bytes_eq kept_of name) all
    (added ticket member holdings last rec may all)
one_more name ticket member (IsCut (CutStart job)) holdings last may finds all =
    all_still ticket member holdings [] last last may (omega arith) all

covered : (name : List ℕ) (ticket member : ℕ) (before after : List SessionEntry) (holdings : List Holding) (last : ℕ)
    (may : List Record) → AllFindAt name ticket before → AllHeld ticket member holdings last may
    → AllHeld ticket member (holdings ++ holdings_in name ticket member last (before ++ after)) (used_after_all last before)
    (may_after_all name may before)
covered name ticket member [] after holdings last may finds all =
    all_still ticket member holdings (holdings_in name ticket member last after) last last may (omega arith) all
covered name ticket member (what ∷ before) after holdings last may finds all =
    let from : ℕ = used_after last what in
    let now : List Holding = holding_in name ticket member from what in
    let rest = holdings_in name ticket member from (before ++ after) in
    subst (λ (hs : List Holding). AllHeld ticket member hs (used_after_all from before) (may_after_all name (may_after name may what) before))
    (append_assoc holdings now rest)
    (covered name ticket member before after (holdings ++ now) from (may_after name may what) finds.1
    (one_more name ticket member what holdings last may finds.0 all))

pub members_are_covered : MembersAreCovered
members_are_covered name ticket member before after finds kept has =
    covered name ticket member before after [] 0 (no_record ∷ []) finds (alone ticket member [] 0 no_record) kept has

-- ---- all members

finds_first : (name : List ℕ) (ticket : ℕ) (before after : List SessionEntry) → AllFindAt name ticket (before ++ after)
    → AllFindAt name ticket before
finds_first name ticket [] after finds = tt
finds_first name ticket (what ∷ before) after finds = (finds.0, finds_first name ticket before after finds.1)

in_all : (ticket : ℕ) (conf : TicketConf) (all : List Deeds) (one : Deeds) (holding : Holding) → Has all one
    → Has (holdings_by ticket conf one) holding → Has (holdings_of all ticket conf) holding
in_all ticket conf [] one holding has held = absurd has
in_all ticket conf (other ∷ all) one holding (inl same) held =
    has_left (holdings_by ticket conf other) (holdings_of all ticket conf) holding
    (subst (λ (d : Deeds). Has (holdings_by ticket conf d) holding) (sym same) held)
in_all ticket conf (other ∷ all) one holding (inr has) held =
    has_right (holdings_by ticket conf other) (holdings_of all ticket conf) holding
    (in_all ticket conf all one holding has held)

in_tickets : (all : List Deeds) (holding : Holding) (tickets : List TicketConf) (start place : ℕ) (conf : TicketConf)
    → slice_get tickets place ≡ Some conf → Has (holdings_of all (start + place) conf) holding
    → Has (holdings_from all start tickets) holding
in_tickets all holding [] start place conf is held = let none : None ≡ Some conf = is in cc
in_tickets all holding (first ∷ more) start zero conf is held =
    let same : first ≡ conf = same_Some first conf is in
    let here : start + 0 ≡ start = omega arith in
    has_left (holdings_of all start first) (holdings_from all (start + 1) more) holding
    (subst (λ (c : TicketConf). Has (holdings_of all start c) holding) (sym same)
    (subst (λ (k : ℕ). Has (holdings_of all k conf) holding) here held))
in_tickets all holding (first ∷ more) start (suc place) conf is held =
    let there : start + suc place ≡ (start + 1) + place = omega arith in
    has_right (holdings_of all start first) (holdings_from all (start + 1) more) holding
    (in_tickets all holding more (start + 1) place conf is
    (subst (λ (k : ℕ). Has (holdings_of all k conf) holding) there held))

-- a holding of a lease that is in force
abbrev Found : ℕ → ℕ → List Holding → ℕ → Option Lease → Type 0
Found ticket member holdings last lease =
    (holding : Holding) × Has holdings holding × (holding.ticket ≡ ticket) × (holding.member ≡ member)
    × (holding.until ≡ lease_end lease) × (holding.from ≤ last)

found_of : (ticket member : ℕ) (holdings : List Holding) (last reading : ℕ) (lease : Option Lease)
    → IsSomeAnd lease (λ l. reading < l.until) → IsHeld ticket member holdings last lease
    → Found ticket member holdings last lease
found_of ticket member holdings last reading None in_force held = absurd in_force
found_of ticket member holdings last reading (Some lease) in_force held = held

-- nobody may have kept a lease
nobody : (name : List ℕ) (entries before after : List SessionEntry) (kept : Record) (reading : ℕ) → entries ≡ before ++ after
    → entries ≡ [] → Has (may_after_all name (no_record ∷ []) before) kept → IsInForce kept reading → ⊥
nobody name entries [] after kept reading whole none (inl same) in_force =
    subst (λ (r : Record). IsInForce r reading) (sym same) in_force
nobody name entries [] after kept reading whole none (inr has) in_force = has
nobody name entries (what ∷ before) after kept reading whole none has in_force =
    omega (arith, ap length (sym none ∙ whole))

pub holdings_cover : HoldingsCover
holdings_cover tickets all alike one has before after whole place conf is kept may in_force = by one.member refl
  where
    by : (member : Option ℕ) → one.member ≡ member
        → (holding : Holding) × Has (holdings_from all 0 tickets) holding × (holding.ticket ≡ place)
        × (Some holding.member ≡ one.member) × (holding.until ≡ lease_end kept.lease)
        × (holding.from ≤ used_after_all 0 before)
    by None nobody_is =
        absurd (nobody conf.name one.entries before after kept (used_after_all 0 before) whole
        ((alike one has).0 nobody_is) may in_force)
    by (Some member) is_member =
        let finds = subst (AllFindAt conf.name place) whole ((alike one has).1 place conf is) in
        let held = members_are_covered conf.name place member before after (finds_first conf.name place before after finds)
        kept may in
        let found = found_of place member (holdings_in conf.name place member 0 (before ++ after)) (used_after_all 0 before)
        (used_after_all 0 before) kept.lease in_force held in
        let in_entries = subst (λ (es : List SessionEntry). Has (holdings_in conf.name place member 0 es) found.0) (sym whole)
        found.1 in
        let zero_more : place ≡ 0 + place = omega arith in
        let in_one : Has (holdings_by place conf one) found.0 =
        subst (λ (m : Option ℕ). Has (option_map_or (λ k. holdings_in conf.name place k 0 one.entries) m []) found.0)
        (sym is_member) in_entries in (
          found.0,
          in_tickets all found.0 tickets 0 place conf is
              (subst (λ (k : ℕ). Has (holdings_of all k conf) found.0) zero_more (in_all place conf all one found.0 has in_one)),
          found.2,
          ap Some found.3 ∙ sym is_member,
          found.4,
          found.5,
        )
