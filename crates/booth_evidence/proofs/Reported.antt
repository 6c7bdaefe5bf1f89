-- Each lease by which a member of the world holds a ticket is among the holdings of the audit.
use Rattle.std.specs.Prelude.{◌==◌, ◌^◌, ◌-◌, bytes_eq, is_ok, max, min, slice_get, IsSomeAnd, Option, None, Some, if◌then◌else◌}
use Rattle.std.proofs.Common.{◌≡◌, ◌⊎◌, inl, inr, ℕ, ◌<◌, ◌≤◌, Bool, true, false, List, [], ◌∷◌, ◌++◌, refl, sym, ◌∙◌, ap, subst, arith}
use Rattle.std.proofs.lemmas.Bool.Decides.{Decides-eqb}
use Rattle.std.proofs.lemmas.Option.{same_Some}
use Rattle.booth_conf.specs.Config.{ConfigSays}
use Rattle.booth_conf.specs.Sound.{IsSound}
use Rattle.booth_conf.specs.declared.tickets.TicketConf.{TicketConf}
use Rattle.booth_keys.specs.declared.ring.Ring.{Ring}
use Rattle.booth_rec.specs.declared.record.Lease.{Lease}
use Rattle.booth_rec.specs.declared.record.Record.{Record}
use Rattle.booth_rec.specs.Record.{IsInForce, lease_end, no_record}
use Rattle.booth_host.specs.declared.entry.Entry.TheVariants as calls
use Rattle.booth_node.specs.Held.{HoldsBy, Moment}
use Rattle.booth_node.specs.Records.{Has, may_after, may_after_all, may_after_keep, with_next}
use Rattle.booth_node.specs.Session.{CutKeep, IsCut, Makes, SessionEntry, Starts}
use Rattle.booth_node.specs.World.{IsWorld, ReadsClock, World, WorldEntry, clock_at, entries_of}
use Rattle.booth_world.proofs.WorldHosts.{entries_join, may_join}
use Rattle.booth_audit.specs.Audit.{AuditSays, IsAudited, deeds_by}
use Rattle.booth_audit.specs.Faults.{Heard}
use Rattle.booth_audit.specs.Holdings.{used_after, used_after_all}
use Rattle.booth_audit.specs.Replay.{deeds_of}
use Rattle.booth_evidence.specs.Evidence.{IsReported, ReportEachHold}
use Rattle.booth_evidence.specs.Journals.{FitsJournals, IsJournaled}
use Rattle.booth_evidence.proofs.Fitting.{begins_bare, is_world}
use Rattle.booth_evidence.proofs.Journaled.{of_text, same_deeds, same_owner}
use Rattle.booth_evidence.proofs.Lists.{both_none, joins, mapped, no_later, place_of}

-- ---- readings in use

pub used_join : (last : ℕ) (xs ys : List SessionEntry) → used_after_all last (xs ++ ys) ≡ used_after_all (used_after_all last xs) ys
used_join last [] ys = refl
used_join last (x ∷ xs) ys = used_join (used_after last x) xs ys

no_more_than : (reading last most : ℕ) → reading ≤ most → last ≤ most → max last (min reading (2 ^ 62 - 1)) ≤ most
no_more_than reading last most one other = grind arith

no_more_at_first : (reading most : ℕ) → reading ≤ most → min reading (2 ^ 62 - 1) ≤ most
no_more_at_first reading most one = grind arith

-- a reading in use is no later than what the clock reads
used_entry : (w : World) (e : WorldEntry) (what : SessionEntry) (last most : ℕ) → ReadsClock w e what → clock_at w e.member e.time ≤ most
    → last ≤ most → used_after last what ≤ most
used_entry w e (Starts node reading records) last most reads no_later so_far =
    no_more_at_first reading most (let same = reads in omega (arith, same, no_later))
used_entry w e (Makes (calls.Now reading)) last most reads no_later so_far =
    no_more_than reading last most (let same = reads in omega (arith, same, no_later)) so_far
used_entry w e what last most reads no_later so_far = so_far

module _ (w : World) (m most : ℕ) where
  -- each entry of the member among these is read by its clock, which shows no more than this
  abbrev ReadUpTo : List WorldEntry → Type 0
  ReadUpTo entries =
      (e : WorldEntry) → Has entries e → ReadsClock w e e.what × (e.member ≡ m → clock_at w e.member e.time ≤ most)

  pub used_up_to : (entries : List WorldEntry) (last : ℕ) → ReadUpTo entries → last ≤ most
      → used_after_all last (entries_of m entries) ≤ most
  used_up_to [] last read so_far = so_far
  used_up_to (e ∷ entries) last read so_far =
      by_test (e.member == m) refl (λ l less. used_up_to entries l (λ x has. read x (inr has)) less)
    where
      by_test : (b : Bool) → (e.member == m) ≡ b → ((l : ℕ) → l ≤ most → used_after_all l (entries_of m entries) ≤ most)
          → used_after_all last (if b then e.what ∷ entries_of m entries else entries_of m entries) ≤ most
      by_test true t rest =
          let q = read e (inl refl) in
          rest (used_after last e.what) (used_entry w e e.what last most q.0 (q.1 ((Decides-eqb e.member m).0 t)) so_far)
      by_test false t rest = rest last so_far

-- ---- records that may be written

in_keep : (ok : Bool) (rec kept : Record) (may : List Record) → rec ≡ kept → Has (may_after_keep ok rec may) kept
in_keep true rec kept may same = inl same
in_keep false rec kept may same = inl same

-- a record that may be written before an action may be so after it, or was before
record NextHas (name : List ℕ) (may : List Record) (what : SessionEntry) (kept : Record) : Type 0 where
  pub coming : Has (may_after name may what) kept
  pub reads_none : (last : ℕ) → used_after last what ≡ last

in_next : (name : List ℕ) (may : List Record) (what : SessionEntry) (more : List SessionEntry) (kept : Record)
    → Has (with_next name may (what ∷ more)) kept → Has may kept ⊎ NextHas name may what kept
in_next name may (Makes (calls.Keep ticket rec answer)) more kept has = by_test (bytes_eq ticket name) refl has
  where
    by_test : (b : Bool) → bytes_eq ticket name ≡ b → Has (if b then rec ∷ may else may) kept
        → Has may kept ⊎ NextHas name may (Makes (calls.Keep ticket rec answer)) kept
    by_test true t (inl same) = inr (record {
      coming = subst (λ (b : Bool). Has (if b then may_after_keep (is_ok answer) rec may else may) kept) (sym t)
          (in_keep (is_ok answer) rec kept may same);
      reads_none = λ last. refl;
    })
    by_test true t (inr old) = inl old
    by_test false t old = inl old
in_next name may (IsCut (CutKeep ticket rec)) more kept has = by_test (bytes_eq ticket name) refl has
  where
    by_test : (b : Bool) → bytes_eq ticket name ≡ b → Has (if b then rec ∷ may else may) kept
        → Has may kept ⊎ NextHas name may (IsCut (CutKeep ticket rec)) kept
    by_test true t (inl same) = inr (record {
      coming = subst (λ (b : Bool). Has (if b then rec ∷ may else may) kept) (sym t) (inl same);
      reads_none = λ last. refl;
    })
    by_test true t (inr old) = inl old
    by_test false t old = inl old
in_next name may what more kept has = inl has

still_running : (lease : Option Lease) (early late : ℕ) → early ≤ late → IsSomeAnd lease (λ l. late < l.until)
    → IsSomeAnd lease (λ l. early < l.until)
still_running None early late less running = absurd running
still_running (Some lease) early late less running = omega (arith, less, running)

ends_later : (lease : Option Lease) (reading : ℕ) → IsSomeAnd lease (λ l. reading < l.until) → reading < lease_end lease
ends_later None reading running = absurd running
ends_later (Some lease) reading running = running

nothing_runs : (kept : Record) (reading : ℕ) → no_record ≡ kept → IsInForce kept reading → ⊥
nothing_runs kept reading same running = subst (λ (r : Record). IsInForce r reading) (sym same) running

-- ---- the holdings

module _ (config : ConfigSays) (sound : IsSound config) (ring : Option Ring) (texts : List (List ℕ)) (says : AuditSays)
    (audited : IsAudited config ring texts says) (w : World) (fits : FitsJournals config ring texts w) where
  module _ (place : ℕ) (ticket : TicketConf) (is : slice_get config.tickets place ≡ Some ticket) (moment : Moment w) (m : ℕ) (kept : Record)
      (holds : HoldsBy w ticket m moment kept) where
    abbrev mine : List WorldEntry → List SessionEntry
    mine entries = entries_of m entries

    abbrev reading : ℕ
    reading = clock_at w m moment.time

    abbrev may_before : List Record
    may_before = may_after_all ticket.name (no_record ∷ []) (mine moment.before)

    whole : mine w.entries ≡ mine moment.before ++ mine moment.after
    whole = ap mine moment.whole ∙ entries_join m moment.before moment.after

    -- the reading in use at the moment
    used_before : used_after_all 0 (mine moment.before) ≤ reading
    used_before = used_up_to w m reading moment.before 0 read (omega arith)
      where
        world : IsWorld w
        world = is_world config sound ring texts says audited w fits

        by_place : (e : WorldEntry) (before after : List WorldEntry) → w.entries ≡ before ++ e ∷ after → e.time ≤ moment.time
            → ReadsClock w e e.what × (e.member ≡ m → clock_at w e.member e.time ≤ reading)
        by_place e before after split early = (
          fits.true_clocks.read before after e split,
          (λ own.
              subst (λ (k : ℕ). clock_at w k e.time ≤ reading) (sym own)
              ((fits.true_clocks.clocks m holds.0).rising.rises e.time moment.time early
              (let long = fits.true_clocks.long m holds.0 in let within = moment.within in omega (arith, long, within)))),
        )

        read : (e : WorldEntry) → Has moment.before e → ReadsClock w e e.what × (e.member ≡ m → clock_at w e.member e.time ≤ reading)
        read e has =
            let p = place_of moment.before e has in
            let split : w.entries ≡ p.before ++ e ∷ (p.after ++ moment.after) =
            moment.whole ∙ ap (λ (xs : List WorldEntry). xs ++ moment.after) p.whole ∙ joins p.before (e ∷ p.after) moment.after in
            let last = no_later w world.form moment.before moment.after moment.whole e has in
            let since = moment.since in
            by_place e p.before (p.after ++ moment.after) split (omega (arith, last, since))

    may_bare : Has (with_next ticket.name may_before (mine moment.after)) kept
    may_bare =
        subst (λ (first : Record). Has (with_next ticket.name (may_after_all ticket.name (first ∷ []) (mine moment.before)) (mine moment.after)) kept)
        (sym (begins_bare config sound ring texts says audited w fits m ticket.name)) holds.1

    -- the holding of a record that may have been written after these actions
    reported_at : (q : Heard) → Has audited.heard q → q.member ≡ Some m → mine w.entries ≡ deeds_of q.events
        → (early late : List SessionEntry) → mine w.entries ≡ early ++ late
        → Has (may_after_all ticket.name (no_record ∷ []) early) kept → used_after_all 0 early ≤ reading
        → IsReported says.holdings place m (lease_end kept.lease) reading
    reported_at q among owner same early late split may no_later =
        let c =
        audited.covers (deeds_by q) (mapped deeds_by audited.heard q among) early late (sym same ∙ split) place ticket is kept may
        (still_running kept.lease (used_after_all 0 early) reading no_later holds.2) in
        let until = c.4 in let runs = ends_later kept.lease reading holds.2 in let from = c.5 in
        record {
          line = c.0;
          among = c.1;
          of_ticket = c.2;
          of_member = same_Some c.0.member m (c.3 ∙ owner);
          same_end = c.4;
          begun = omega (arith, from, no_later);
          running = omega (arith, until, runs);
        }

    by_heard : (q : Heard) → Has audited.heard q → q.member ≡ Some m → mine w.entries ≡ deeds_of q.events
        → (after : List SessionEntry) → mine moment.after ≡ after → Has (with_next ticket.name may_before after) kept
        → IsReported says.holdings place m (lease_end kept.lease) reading
    by_heard q among owner same [] none may = reported_at q among owner same (mine moment.before) (mine moment.after) whole may used_before
    by_heard q among owner same (what ∷ more) next may = by (in_next ticket.name may_before what more kept may)
      where
        by : Has may_before kept ⊎ NextHas ticket.name may_before what kept
            → IsReported says.holdings place m (lease_end kept.lease) reading
        by (inl old) = reported_at q among owner same (mine moment.before) (mine moment.after) whole old used_before
        by (inr n) =
            reported_at q among owner same (mine moment.before ++ what ∷ []) more
            (whole ∙ ap (λ (xs : List SessionEntry). mine moment.before ++ xs) next ∙ sym (joins (mine moment.before) (what ∷ []) more))
            (subst (λ (may : List Record). Has may kept) (sym (may_join ticket.name (no_record ∷ []) (mine moment.before) (what ∷ []))) n.coming)
            (let joined = used_join 0 (mine moment.before) (what ∷ []) in let stays = n.reads_none (used_after_all 0 (mine moment.before)) in
            let so_far = used_before in omega (arith, joined, stays, so_far))

    -- a member that did nothing holds nothing
    by_nothing : mine w.entries ≡ [] → ⊥
    by_nothing none = by (mine moment.before) (mine moment.after) (both_none (mine moment.before) (mine moment.after) (sym whole ∙ none)) may_bare
      where
        by : (before after : List SessionEntry) → (before ≡ []) × (after ≡ [])
            → Has (with_next ticket.name (may_after_all ticket.name (no_record ∷ []) before) after) kept → ⊥
        by [] [] both (inl same) = nothing_runs kept reading same holds.2
        by [] [] both (inr has) = has
        by [] (x ∷ after) both has = absurd (let no : x ∷ after ≡ [] = both.1 in cc)
        by (x ∷ before) after both has = absurd (let no : x ∷ before ≡ [] = both.0 in cc)

    pub reported_here : IsReported says.holdings place m (lease_end kept.lease) reading
    reported_here = by (fits.journaled m)
      where
        by : IsJournaled config ring texts m (mine w.entries) → IsReported says.holdings place m (lease_end kept.lease) reading
        by (inl j) =
            let q = of_text config ring [] texts audited.heard audited.each j.0 j.1 in
            by_heard q.one q.among (same_owner config ring m j.0 q.one q.audited (mine w.entries) j.2)
            (same_deeds config ring m j.0 q.one q.audited (mine w.entries) j.2) (mine moment.after) refl may_bare
        by (inr none) = absurd (by_nothing none.1)

  pub reported : ReportEachHold config says.holdings w
  reported place ticket is moment m kept holds = reported_here place ticket is moment m kept holds
