-- The record that a member of a simulation keeps is one that it may have kept.
use Rattle.std.proofs.Common.{◌≡◌, ◌≢◌, ℕ, Bool, true, false, List, [], ◌∷◌, ◌++◌, refl, sym, ap, ◌∙◌, subst, inl, inr, arith, if◌then◌else◌}
use Rattle.std.specs.Prelude.{Option, Some, None, Ok, Err, ◌==◌, option_map, unwrap_or, slice_get, bytes_eq, position}
use Rattle.std.specs.Option.{option_map_or}
use Rattle.std.proofs.lemmas.Bool.Decides.{nat_tests}
use Rattle.std.proofs.lemmas.List.{append-nil, append_assoc}
use Rattle.std.proofs.lemmas.Option.{slice_get-map}
use Rattle.booth_conf.specs.Config.{ConfigSays}
use Rattle.booth_conf.specs.Lookups.{is_called}
use Rattle.booth_conf.specs.declared.tickets.TicketConf.{TicketConf}
use Rattle.booth_rec.specs.declared.record.Record.{Record}
use Rattle.booth_rec.specs.Record.{no_record, record_or_none}
use Rattle.booth_host.specs.declared.entry.Entry.TheVariants as calls
use Rattle.booth_node.specs.Session.{SessionEntry, Starts, Makes, IsCut, CutKeep}
use Rattle.booth_node.specs.declared.node_config.NodeConfig.{NodeConfig}
use Rattle.booth_node.specs.Records.{Has, record_at, may_after, may_after_all}
use Rattle.booth_node.specs.World.{WorldEntry, entries_of}
use Rattle.booth_sim.proofs.AlongWorlds.{Along}
use Rattle.booth_sim.specs.Kept.{all_kept, kept_after, kept_by}
use Rattle.booth_sim.proofs.Entries.{entries_join, entry_own, entry_other}
use Rattle.booth_sim.proofs.Follows.{Follows, HasNode, StartsKept}

pub kept_join : (name : List ℕ) (kept : Option Record) (xs ys : List SessionEntry)
    → kept_after name kept (xs ++ ys) ≡ kept_after name (kept_after name kept xs) ys
kept_join name kept [] ys = refl
kept_join name kept (Makes (calls.Keep ticket rec (Ok done)) ∷ xs) ys = kept_join name (if bytes_eq ticket name then Some rec else kept) xs ys
kept_join name kept (x ∷ xs) ys = kept_join name kept xs ys

may_join : (name : List ℕ) (may : List Record) (xs ys : List SessionEntry)
    → may_after_all name may (xs ++ ys) ≡ may_after_all name (may_after_all name may xs) ys
may_join name may [] ys = refl
may_join name may (x ∷ xs) ys = may_join name (may_after name may x) xs ys

-- a start finds the ticket at its place, and reads the record that is kept
abbrev ReadsIt : List ℕ → ℕ → Option Record → SessionEntry → Type 0
ReadsIt name place kept (Starts node reading records) =
    (position (is_called name) node.config.tickets ≡ Some place) × (record_at records place ≡ record_or_none kept)
ReadsIt name place kept what = Unit {0}

one_entry : (name : List ℕ) (place : ℕ) (may : List Record) (kept : Option Record) (what : SessionEntry) → Has may (record_or_none kept)
    → ReadsIt name place kept what → Has (may_after name may what) (record_or_none (kept_after name kept (what ∷ [])))
one_entry name place may kept (Starts node reading records) h reads =
    subst (λ (o : Option ℕ). Has (option_map_or (λ (n : ℕ). record_at records n ∷ []) o may) (record_or_none kept)) (sym reads.0) (inl reads.1)
one_entry name place may kept (Makes (calls.Keep ticket rec (Ok done))) h reads = by_test (bytes_eq ticket name)
  where
    by_test : (b : Bool) → Has (if b then rec ∷ [] else may) (record_or_none (if b then Some rec else kept))
    by_test true = inl refl
    by_test false = h
one_entry name place may kept (Makes (calls.Keep ticket rec (Err failed))) h reads = by_test (bytes_eq ticket name)
  where
    by_test : (b : Bool) → Has (if b then rec ∷ may else may) (record_or_none kept)
    by_test true = inr h
    by_test false = h
one_entry name place may kept (IsCut (CutKeep ticket rec)) h reads = by_test (bytes_eq ticket name)
  where
    by_test : (b : Bool) → Has (if b then rec ∷ may else may) (record_or_none kept)
    by_test true = inr h
    by_test false = h
one_entry name place may kept what h reads = h

-- the record of a ticket among all that are kept
pub record_of_all : (config : ConfigSays) (before : List WorldEntry) (m place : ℕ) (ticket : TicketConf) → slice_get config.tickets place ≡ Some ticket
    → record_at (all_kept config.tickets m before) place ≡ record_or_none (kept_by m ticket.name before)
record_of_all config before m place ticket is =
    ap (λ (o : Option (Option Record)). record_or_none (unwrap_or o None))
    (slice_get-map (λ (t : TicketConf). kept_by m t.name before) config.tickets place
    ∙ ap (λ (o : Option TicketConf). option_map (λ (t : TicketConf). kept_by m t.name before) o) is)

module _ (config : ConfigSays) (m place : ℕ) (ticket : TicketConf) (is : slice_get config.tickets place ≡ Some ticket)
    (found : position (is_called ticket.name) config.tickets ≡ Some place) where
  -- the kept record is one that may have been kept
  abbrev pub MayKeep : List WorldEntry → Type 0
  MayKeep before =
      Has (may_after_all ticket.name (no_record ∷ []) (entries_of m before)) (record_or_none (kept_by m ticket.name before))

  reads_it : (before : List WorldEntry) (what : SessionEntry) → HasNode config m what → StartsKept config before m what
      → ReadsIt ticket.name place (kept_by m ticket.name before) what
  reads_it before (Starts node reading records) own s = (
    ap (λ (n : NodeConfig). position (is_called ticket.name) n.config.tickets) own ∙ found,
    ap (λ (rs : List (Option Record)). record_at rs place) s ∙ record_of_all config before m place ticket is,
  )
  reads_it before (Makes call) own s = tt
  reads_it before (IsCut call) own s = tt

  one_more : (before : List WorldEntry) (entry : WorldEntry) → MayKeep before → HasNode config entry.member entry.what
      → StartsKept config before entry.member entry.what → MayKeep (before ++ entry ∷ [])
  one_more before entry h own s = by_test (entry.member == m) refl
    where
      by_test : (b : Bool) → (entry.member == m) ≡ b → MayKeep (before ++ entry ∷ [])
      by_test true t =
          let same : entry.member ≡ m = grind (arith, nat_tests) in
          let es : entries_of m (before ++ entry ∷ []) ≡ entries_of m before ++ entry.what ∷ [] =
          entries_join m before (entry ∷ []) ∙ ap (λ (xs : List SessionEntry). entries_of m before ++ xs) (entry_own m entry [] same) in
          subst (λ (xs : List SessionEntry). Has (may_after_all ticket.name (no_record ∷ []) xs)
          (record_or_none (kept_after ticket.name None xs))) (sym es)
          (subst (λ (may : List Record). Has may (record_or_none (kept_after ticket.name None (entries_of m before ++ entry.what ∷ []))))
          (sym (may_join ticket.name (no_record ∷ []) (entries_of m before) (entry.what ∷ [])))
          (subst (λ (kept : Option Record). Has (may_after ticket.name (may_after_all ticket.name (no_record ∷ []) (entries_of m before)) entry.what)
          (record_or_none kept)) (sym (kept_join ticket.name None (entries_of m before) (entry.what ∷ [])))
          (one_entry ticket.name place (may_after_all ticket.name (no_record ∷ []) (entries_of m before))
          (kept_by m ticket.name before) entry.what h (reads_it before entry.what (subst (λ (k : ℕ). HasNode config k entry.what) same own)
          (subst (λ (k : ℕ). StartsKept config before k entry.what) same s)))))
      by_test false t =
          let ne : entry.member ≢ m = grind (arith, nat_tests) in
          let es : entries_of m (before ++ entry ∷ []) ≡ entries_of m before =
          entries_join m before (entry ∷ []) ∙ ap (λ (xs : List SessionEntry). entries_of m before ++ xs) (entry_other m entry [] ne)
          ∙ append-nil (entries_of m before) in
          subst (λ (xs : List SessionEntry). Has (may_after_all ticket.name (no_record ∷ []) xs)
          (record_or_none (kept_after ticket.name None xs))) (sym es) h

  all_more : (done entries : List WorldEntry) → MayKeep done → Along (Follows config) done entries → MayKeep (done ++ entries)
  all_more done [] h along = subst MayKeep (sym (append-nil done)) h
  all_more done (entry ∷ entries) h along =
      subst MayKeep (append_assoc done (entry ∷ []) entries)
      (all_more (done ++ entry ∷ []) entries (one_more done entry h along.0.configured along.0.starts) along.1)

  pub may_keep : (before : List WorldEntry) → Along (Follows config) [] before → MayKeep before
  may_keep before along = all_more [] before (inl refl) along
