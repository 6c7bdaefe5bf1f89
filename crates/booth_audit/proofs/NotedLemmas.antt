-- What is noted of a member is what its deeds make.
use Rattle.std.specs.Prelude.{◌==◌, bytes_eq, position, slice_get, cond, Bool, true, false, Option, None, Some, if◌then◌else◌}
use Rattle.std.specs.List.{filter}
use Rattle.std.proofs.Common.{◌≡◌, ◌≢◌, ◌<◌, ◌+◌, inl, inr, ◌⊎◌, ℕ, zero, suc, List, [], ◌∷◌, ◌++◌, refl, sym, ◌∙◌, ap, subst, arith, append_assoc, append-nil, get_or, true≢false}
use Rattle.std.proofs.lemmas.Bool.Decides.{Decides-eqb}
use Rattle.std.proofs.lemmas.List.Elements.{filter-append}
use Rattle.std.proofs.lemmas.List.Quantifiers.{position-Some}
use Rattle.std.proofs.lemmas.Slice.Eq.{bytes_eq-Decides}
use Rattle.booth_conf.specs.Lookups.{is_called}
use Rattle.booth_conf.specs.declared.tickets.TicketConf.{TicketConf}
use Rattle.booth_host.specs.declared.entry.Entry.TheVariants as entries
use Rattle.booth_node.specs.Opening.{start_reading}
use Rattle.booth_node.specs.Reaction.{used}
use Rattle.booth_node.specs.Records.{record_at}
use Rattle.booth_node.specs.Session.{CutKeep, CutNext, CutNow, CutSend, CutStart, IsCut, Makes, SessionEntry, Starts}
use Rattle.booth_rec.specs.declared.record.Lease.{Lease}
use Rattle.booth_rec.specs.declared.record.Record.{Record}
use Rattle.booth_rec.specs.Record.{record_or_none}
use Rattle.booth_audit.specs.declared.holding.Holding.{Holding}
use Rattle.booth_audit.specs.Holdings.{holding_by, holding_in, holdings_in, if_called, used_after, used_after_all}
use Rattle.booth_audit.specs.Noted.{MemberSays, Noted, NotesAreDeeds, held_from, is_of, kept_at, noted, noted_all, nothing_noted, with_kept}
use Rattle.booth_audit.specs.Replay.{Event, deeds_of}

-- ---- one holding

same_is : (k : ℕ) → (k == k) ≡ true
same_is k = (Decides-eqb k k).1 refl

pub other_is : (j k : ℕ) → (j ≡ k → ⊥) → (j == k) ≡ false
other_is j k other = by (j == k) refl
  where
    by : (b : Bool) → (j == k) ≡ b → b ≡ false
    by true is = absurd (other ((Decides-eqb j k).0 is))
    by false is = refl

one_of : (k ticket member from until : ℕ) (b : Bool) → (ticket == k) ≡ b
    → filter (is_of k) (record { ticket = ticket; member = member; from = from; until = until } ∷ [])
    ≡ cond b (record { ticket = ticket; member = member; from = from; until = until } ∷ []) []
one_of k ticket member from until b is =
    ap (λ (x : Bool). cond x (record { ticket = ticket; member = member; from = from; until = until } ∷ []) []) is

its_own : (k member from : ℕ) (lease : Option Lease) → filter (is_of k) (holding_by k member from lease) ≡ holding_by k member from lease
its_own k member from None = refl
its_own k member from (Some lease) = one_of k k member from lease.until true (same_is k)

not_its : (k ticket member from : ℕ) (lease : Option Lease) → (ticket ≡ k → ⊥)
    → filter (is_of k) (holding_by ticket member from lease) ≡ []
not_its k ticket member from None other = refl
not_its k ticket member from (Some lease) other = one_of k ticket member from lease.until false (other_is ticket k other)

-- ---- starts

none_from : (k ticket member from : ℕ) (records : List (Option Record)) → k < ticket
    → filter (is_of k) (held_from ticket member from records) ≡ []
none_from k ticket member from [] below = refl
none_from k ticket member from (found ∷ records) below =
    filter-append (is_of k) (holding_by ticket member from (record_or_none found).lease) (held_from (ticket + 1) member from records)
    ∙ ap (λ (l : List Holding). l ++ filter (is_of k) (held_from (ticket + 1) member from records))
    (not_its k ticket member from (record_or_none found).lease (λ same. omega (arith, same, below)))
    ∙ none_from k (ticket + 1) member from records (omega (arith, below))

at_from : (place ticket member from : ℕ) (records : List (Option Record))
    → filter (is_of (ticket + place)) (held_from ticket member from records)
    ≡ holding_by (ticket + place) member from (record_at records place).lease
at_from place ticket member from [] = refl
at_from zero ticket member from (found ∷ records) =
    let here : ticket + 0 ≡ ticket = omega arith in
    filter-append (is_of (ticket + 0)) (holding_by ticket member from (record_or_none found).lease) (held_from (ticket + 1) member from records)
    ∙ ap (λ (l : List Holding). filter (is_of (ticket + 0)) (holding_by ticket member from (record_or_none found).lease) ++ l)
    (none_from (ticket + 0) (ticket + 1) member from records (omega arith))
    ∙ append-nil (filter (is_of (ticket + 0)) (holding_by ticket member from (record_or_none found).lease))
    ∙ ap (λ (n : ℕ). filter (is_of n) (holding_by ticket member from (record_or_none found).lease)) here
    ∙ its_own ticket member from (record_or_none found).lease
    ∙ ap (λ (n : ℕ). holding_by n member from (record_or_none found).lease) (sym here)
at_from (suc place) ticket member from (found ∷ records) =
    let there : ticket + suc place ≡ (ticket + 1) + place = omega arith in
    filter-append (is_of (ticket + suc place)) (holding_by ticket member from (record_or_none found).lease) (held_from (ticket + 1) member from records)
    ∙ ap (λ (l : List Holding). l ++ filter (is_of (ticket + suc place)) (held_from (ticket + 1) member from records))
    (not_its (ticket + suc place) ticket member from (record_or_none found).lease (λ same. omega (arith, same)))
    ∙ ap (λ (n : ℕ). filter (is_of n) (held_from (ticket + 1) member from records)) there
    ∙ at_from place (ticket + 1) member from records
    ∙ ap (λ (n : ℕ). holding_by n member from (record_at records place).lease) (sym there)

-- ---- keeps

module _ (tickets : List TicketConf) (k : ℕ) (conf : TicketConf) (at : get_or tickets k conf ≡ conf)
    (finds : position (is_called conf.name) tickets ≡ Some k) (member from : ℕ) (kept : Record) where
  kept_of : (name : List ℕ) (place : Option ℕ) (called : Bool) → position (is_called name) tickets ≡ place
      → bytes_eq name conf.name ≡ called
      → filter (is_of k) (kept_at place member from kept)
      ≡ (if called then holding_by k member from kept.lease else [])
  kept_of name None false is called = refl
  kept_of name None true is called =
      let same : name ≡ conf.name = (bytes_eq-Decides name conf.name).0 called in
      let both : None ≡ Some k = sym is ∙ ap (λ (n : List ℕ). position (is_called n) tickets) same ∙ finds in absurd cc
  kept_of name (Some j) true is called =
      let same : name ≡ conf.name = (bytes_eq-Decides name conf.name).0 called in
      let both : Some j ≡ Some k = sym is ∙ ap (λ (n : List ℕ). position (is_called n) tickets) same ∙ finds in
      let place : j ≡ k = cc in
      ap (λ (n : ℕ). filter (is_of k) (holding_by n member from kept.lease)) place ∙ its_own k member from kept.lease
  kept_of name (Some j) false is called =
      not_its k j member from kept.lease
      (λ same.
      let there = (position-Some (is_called name) tickets j conf is).1 in
      let here : bytes_eq name conf.name ≡ true =
      ap (λ (t : TicketConf). bytes_eq name t.name) (sym (ap (λ (n : ℕ). get_or tickets n conf) same ∙ at)) ∙ there in
      true≢false (sym here ∙ called))

-- ---- one event

module _ (member : MemberSays) (k : ℕ) (conf : TicketConf) (at : get_or member.node.config.tickets k conf ≡ conf)
    (finds : position (is_called conf.name) member.node.config.tickets ≡ Some k) where
  abbrev IsNotedSo : Noted → SessionEntry → Type 0
  IsNotedSo notes what =
      ((noted member notes what).last ≡ used_after notes.last what)
      × (filter (is_of k) (noted member notes what).held
      ≡ filter (is_of k) notes.held ++ holding_in conf.name k member.place (used_after notes.last what) what)

  nothing_more : (notes : Noted) → filter (is_of k) notes.held ≡ filter (is_of k) notes.held ++ []
  nothing_more notes = sym (append-nil (filter (is_of k) notes.held))

  keeps_so : (notes : Noted) (name : List ℕ) (kept : Record)
      → filter (is_of k) (with_kept member notes name kept).held
      ≡ filter (is_of k) notes.held ++ if_called conf.name name (holding_by k member.place notes.last kept.lease)
  keeps_so notes name kept =
      filter-append (is_of k) notes.held (kept_at (position (is_called name) member.node.config.tickets) member.place notes.last kept)
      ∙ ap (λ (l : List Holding). filter (is_of k) notes.held ++ l)
      (kept_of member.node.config.tickets k conf at finds member.place notes.last kept name
      (position (is_called name) member.node.config.tickets) (bytes_eq name conf.name) refl refl)

  noted_so : (notes : Noted) (what : SessionEntry) → IsNotedSo notes what
  noted_so notes (Starts node reading records) = (
    refl,
    filter-append (is_of k) notes.held (held_from 0 member.place (start_reading reading) records)
        ∙ ap (λ (l : List Holding). filter (is_of k) notes.held ++ l)
        (subst (λ (n : ℕ). filter (is_of n) (held_from 0 member.place (start_reading reading) records)
        ≡ holding_by n member.place (start_reading reading) (record_at records k).lease) zero_more
        (at_from k 0 member.place (start_reading reading) records)),
  )
    where
      zero_more : 0 + k ≡ k
      zero_more = omega arith
  noted_so notes (Makes (entries.Now reading)) = (refl, nothing_more notes)
  noted_so notes (Makes (entries.Keep name kept answer)) = (refl, keeps_so notes name kept)
  noted_so notes (Makes (entries.Send to bytes answer)) = (refl, nothing_more notes)
  noted_so notes (Makes (entries.Open local port records conf_path answer)) = (refl, nothing_more notes)
  noted_so notes (Makes (entries.Next wait answer bytes)) = (refl, nothing_more notes)
  noted_so notes (Makes (entries.ReadFile path answer)) = (refl, nothing_more notes)
  noted_so notes (Makes (entries.Lock path answer)) = (refl, nothing_more notes)
  noted_so notes (Makes (entries.Kept name answer)) = (refl, nothing_more notes)
  noted_so notes (Makes (entries.Start number name handler local expires answer)) = (refl, nothing_more notes)
  noted_so notes (Makes (entries.Out bytes answer)) = (refl, nothing_more notes)
  noted_so notes (Makes (entries.Err bytes answer)) = (refl, nothing_more notes)
  noted_so notes (IsCut CutNext) = (refl, nothing_more notes)
  noted_so notes (IsCut CutNow) = (refl, nothing_more notes)
  noted_so notes (IsCut (CutSend to bytes)) = (refl, nothing_more notes)
  noted_so notes (IsCut (CutKeep name kept)) = (refl, keeps_so notes name kept)
  noted_so notes (IsCut (CutStart job)) = (refl, nothing_more notes)

  all_noted : (notes : Noted) (events : List Event)
      → ((noted_all member notes events).last ≡ used_after_all notes.last (deeds_of events))
      × (filter (is_of k) (noted_all member notes events).held
      ≡ filter (is_of k) notes.held ++ holdings_in conf.name k member.place notes.last (deeds_of events))
  all_noted notes [] = (refl, nothing_more notes)
  all_noted notes (event ∷ events) =
      let one = noted_so notes event.what in
      let more = all_noted (noted member notes event.what) events in
      let from : ℕ = used_after notes.last event.what in (
        more.0 ∙ ap (λ (n : ℕ). used_after_all n (deeds_of events)) one.0,
        more.1
            ∙ ap (λ (l : List Holding). l ++ holdings_in conf.name k member.place (noted member notes event.what).last (deeds_of events)) one.1
            ∙ ap (λ (n : ℕ). (filter (is_of k) notes.held ++ holding_in conf.name k member.place from event.what) ++ holdings_in conf.name k member.place n (deeds_of events)) one.0
            ∙ append_assoc (filter (is_of k) notes.held) (holding_in conf.name k member.place from event.what) (holdings_in conf.name k member.place from (deeds_of events)),
      )

at_of : (tickets : List TicketConf) (k : ℕ) (conf : TicketConf) → slice_get tickets k ≡ Some conf → get_or tickets k conf ≡ conf
at_of [] k conf is = let none : None ≡ Some conf = is in absurd cc
at_of (first ∷ tickets) zero conf is = let same : Some first ≡ Some conf = is in cc
at_of (first ∷ tickets) (suc k) conf is = at_of tickets k conf is

pub notes_are_deeds : NotesAreDeeds
notes_are_deeds member ticket conf is finds events =
    all_noted member ticket conf (at_of member.node.config.tickets ticket conf is) finds nothing_noted events
