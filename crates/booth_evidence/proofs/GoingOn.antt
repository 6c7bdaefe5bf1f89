-- If the audit reports no silent start, each start of the world reads a record that its member may have written.
use Rattle.std.specs.Prelude.{map, option_map, slice_get, unwrap_or, Option, None, Some, if◌then◌else◌}
use Rattle.std.specs.Option.{option_map_or}
use Rattle.std.proofs.Common.{◌≡◌, inl, inr, ℕ, zero, suc, ◌+◌, ◌<◌, Bool, true, false, List, [], ◌∷◌, ◌++◌, append_assoc, append-nil, get_or, length, refl, sym, ◌∙◌, ap, subst, arith}
use Rattle.std.proofs.lemmas.Option.{slice_get-get_or, slice_get-map, slice_get_within}
use Rattle.booth_conf.specs.Config.{ConfigSays}
use Rattle.booth_conf.specs.Sound.{IsSound}
use Rattle.booth_conf.specs.declared.tickets.TicketConf.{TicketConf}
use Rattle.booth_keys.specs.declared.ring.Ring.{Ring}
use Rattle.booth_rec.specs.declared.record.Record.{Record}
use Rattle.booth_rec.specs.Record.{no_record, record_or_none}
use Rattle.booth_node.specs.Records.{Has, may_after_all, record_at}
use Rattle.booth_node.specs.Session.{AreSessions, Down, IsCut, Makes, SessionEntry, Starts, after_entries, MayDo}
use Rattle.booth_node.specs.World.{RecordsGoOn, StartsOn, World, WorldEntry, entries_of}
use Rattle.booth_world.proofs.WorldHosts.{sessions_at}
use Rattle.booth_audit.specs.declared.silent.Unwritten.{Unwritten}
use Rattle.booth_audit.specs.Audit.{AuditSays, IsAudited}
use Rattle.booth_audit.specs.Faults.{Heard, answer_line}
use Rattle.booth_audit.specs.Replay.{Event, deeds_of}
use Rattle.booth_audit.specs.Silent.{is_among, may_before, silent_start, silent_starts, unwritten_at, unwritten_by, unwritten_from, unwritten_in, unwritten_read}
use Rattle.booth_audit.proofs.MayLemmas.{has_among}
use Rattle.booth_evidence.specs.Evidence.{StartsGoOnUnlessSilent}
use Rattle.booth_evidence.specs.Journals.{FitsJournals, IsJournaled}
use Rattle.booth_evidence.proofs.Fitting.{begins_bare, found, mine}
use Rattle.booth_evidence.proofs.Journaled.{of_text, same_deeds}
use Rattle.booth_evidence.proofs.Lists.{both_none, heads, none_there}

none_mapped : {A B : Type 0} (f : A → B) (xs : List A) → map f xs ≡ [] → xs ≡ []
none_mapped f [] none = refl
none_mapped f (x ∷ xs) none = let no : f x ∷ map f xs ≡ [] = none in absurd cc

-- the audit reports none of the reads of a journal
none_reported : (journal : ℕ) (heard : List Heard) → silent_starts journal heard ≡ [] → (one : Heard) → Has heard one → unwritten_in [] one.events ≡ []
none_reported journal [] none one has = absurd has
none_reported journal (first ∷ heard) none one (inl same) =
    subst (λ (h : Heard). unwritten_in [] h.events ≡ []) same
    (none_mapped (silent_start journal) (unwritten_in [] first.events)
    (both_none (map (silent_start journal) (unwritten_in [] first.events)) (silent_starts (journal + 1) heard) none).0)
none_reported journal (first ∷ heard) none one (inr has) =
    none_reported (journal + 1) heard
    (both_none (map (silent_start journal) (unwritten_in [] first.events)) (silent_starts (journal + 1) heard) none).1 one has

-- nor those of one start
record NoneBy (before : List SessionEntry) (what : SessionEntry) : Type 0 where
  pub line : ℕ
  pub none : unwritten_by before what line ≡ []

none_by : (base : List SessionEntry) (events : List Event) → unwritten_in base events ≡ [] → (before after : List SessionEntry) (what : SessionEntry)
    → deeds_of events ≡ before ++ what ∷ after → NoneBy (base ++ before) what
none_by base [] none before after what whole = absurd (none_there before what after whole)
none_by base (event ∷ events) none [] after what whole =
    let here : event.what ≡ what = (heads event.what what (deeds_of events) after whole).0 in
    record {
      line = event.line;
      none = subst (λ (w : SessionEntry). unwritten_by (base ++ []) w event.line ≡ []) here
          (subst (λ (b : List SessionEntry). unwritten_by b event.what event.line ≡ []) (sym (append-nil base))
          (both_none (unwritten_by base event.what event.line) (unwritten_in (base ++ event.what ∷ []) events) none).0);
    }
none_by base (event ∷ events) none (first ∷ before) after what whole =
    let q = heads event.what first (deeds_of events) (before ++ what ∷ after) whole in
    let rest = none_by (base ++ event.what ∷ []) events
    (both_none (unwritten_by base event.what event.line) (unwritten_in (base ++ event.what ∷ []) events) none).1 before after what q.1 in
    subst (λ (b : List SessionEntry). NoneBy b what) (append_assoc base (event.what ∷ []) before ∙ ap (λ (x : SessionEntry). base ++ x ∷ before) q.0) rest

-- nor one read
none_at : (all : List (List Record)) (count last ticket : ℕ) (records : List (Option Record)) → unwritten_from all count last ticket records ≡ []
    → (place : ℕ) (read : Option Record) → slice_get records place ≡ Some read
    → unwritten_at all (ticket + place) (answer_line count (ticket + place) last) read ≡ []
none_at all count last ticket [] none place read is = let no : None ≡ Some read = is in absurd cc
none_at all count last ticket (first ∷ records) none zero read is =
    let same : first ≡ read = (let e : Some first ≡ Some read = is in cc) in
    let here : ticket ≡ ticket + 0 = omega arith in
    subst (λ (k : ℕ). unwritten_at all k (answer_line count k last) read ≡ []) here
    (subst (λ (r : Option Record). unwritten_at all ticket (answer_line count ticket last) r ≡ []) same
    (both_none (unwritten_at all ticket (answer_line count ticket last) first) (unwritten_from all count last (ticket + 1) records) none).0)
none_at all count last ticket (first ∷ records) none (suc place) read is =
    let there : (ticket + 1) + place ≡ ticket + suc place = omega arith in
    subst (λ (k : ℕ). unwritten_at all k (answer_line count k last) read ≡ []) there
    (none_at all count last (ticket + 1) records
    (both_none (unwritten_at all ticket (answer_line count ticket last) first) (unwritten_from all count last (ticket + 1) records) none).1 place read is)

among_if_none : (ticket line : ℕ) (may : List Record) (kept : Record) → unwritten_read ticket line may kept ≡ [] → is_among may kept ≡ true
among_if_none ticket line may kept none = by (is_among may kept) none
  where
    one : List Unwritten
    one = record { ticket = ticket; line = line; term = kept.term } ∷ []

    some : one ≡ [] → ⊥
    some e = absurd cc

    by : (b : Bool) → (if b then [] else one) ≡ [] → b ≡ true
    by true e = refl
    by false e = absurd (some e)

read_is : (records : List (Option Record)) (place : ℕ) → place < length records → (read : Option Record) × (slice_get records place ≡ Some read)
    × (record_at records place ≡ record_or_none read)
read_is records place below =
    let is = slice_get-get_or records place None below in
    (get_or records place None, is, ap (λ (o : Option (Option Record)). record_or_none (unwrap_or o None)) is)

may_there : (tickets : List TicketConf) (before : List SessionEntry) (place : ℕ) (ticket : TicketConf) → slice_get tickets place ≡ Some ticket
    → slice_get (may_before tickets before) place ≡ Some (may_after_all ticket.name (no_record ∷ []) before)
may_there tickets before place ticket is =
    slice_get-map (λ (conf : TicketConf). may_after_all conf.name (no_record ∷ []) before) tickets place
    ∙ ap (option_map (λ (conf : TicketConf). may_after_all conf.name (no_record ∷ []) before)) is

module _ (config : ConfigSays) (sound : IsSound config) (ring : Option Ring) (texts : List (List ℕ)) (says : AuditSays)
    (audited : IsAudited config ring texts says) (quiet : says.silent ≡ []) (w : World) (fits : FitsJournals config ring texts w) where
  -- no read of a member's start is reported
  none_of : (m : ℕ) (before after : List SessionEntry) (what : SessionEntry) → entries_of m w.entries ≡ before ++ what ∷ after → NoneBy before what
  none_of m before after what whole = by (fits.journaled m)
    where
      by : IsJournaled config ring texts m (entries_of m w.entries) → NoneBy before what
      by (inl j) =
          let q = of_text config ring [] texts audited.heard audited.each j.0 j.1 in
          none_by [] q.one.events (none_reported 0 audited.heard (sym audited.silent ∙ quiet) q.one q.among) before after what
          (sym (same_deeds config ring m j.0 q.one q.audited (entries_of m w.entries) j.2) ∙ whole)
      by (inr none) = absurd (none_there before what after (sym none.1 ∙ whole))

  starts_on : (before : List WorldEntry) (e : WorldEntry) (what : SessionEntry) → NoneBy (entries_of e.member before) what
      → MayDo (after_entries Down (entries_of e.member before)) what → StartsOn w before e what
  starts_on before e (Starts node reading records) none may = λ place ticket is.
      let within = slice_get_within node.config.tickets place ticket is in
      let count : length records ≡ length node.config.tickets = may in
      let no_more : 0 + place ≡ place = omega arith in
      let read = read_is records place (omega (arith, within, count)) in
      let here : unwritten_at (may_before node.config.tickets (entries_of e.member before)) place (answer_line (length records) place none.line) read.0 ≡ [] =
      subst (λ (k : ℕ). unwritten_at (may_before node.config.tickets (entries_of e.member before)) k (answer_line (length records) k none.line) read.0 ≡ [])
      no_more
      (none_at (may_before node.config.tickets (entries_of e.member before)) (length records) none.line 0 records none.none place read.0 read.1) in
      let among = among_if_none place (answer_line (length records) place none.line)
      (may_after_all ticket.name (no_record ∷ []) (entries_of e.member before)) (record_or_none read.0)
      (subst (λ (o : Option (List Record)). option_map_or (λ (may : List Record). unwritten_read place (answer_line (length records) place none.line) may
      (record_or_none read.0)) o [] ≡ []) (may_there node.config.tickets (entries_of e.member before) place ticket is) here) in
      inl (subst (λ (first : Record). Has (may_after_all ticket.name (first ∷ []) (entries_of e.member before)) (record_at records place))
      (begins_bare config sound ring texts says audited w fits e.member ticket.name)
      (subst (λ (r : Record). Has (may_after_all ticket.name (no_record ∷ []) (entries_of e.member before)) r) (sym read.2)
      (has_among (may_after_all ticket.name (no_record ∷ []) (entries_of e.member before)) (record_or_none read.0) among)))
  starts_on before e (Makes call) none may = tt
  starts_on before e (IsCut call) none may = tt

  pub go_on : RecordsGoOn w
  go_on before after e whole =
      let all = mine config sound ring texts says audited w fits before after e whole in
      starts_on before e e.what (none_of e.member (entries_of e.member before) (entries_of e.member after) e.what all)
      (sessions_at Down (entries_of e.member before) (entries_of e.member after) e.what
      (subst (AreSessions Down) all (found config sound ring texts says audited w fits e.member).sessions))

pub starts_go_on : StartsGoOnUnlessSilent
starts_go_on config sound ring texts says audited quiet w fits = go_on config sound ring texts says audited quiet w fits
