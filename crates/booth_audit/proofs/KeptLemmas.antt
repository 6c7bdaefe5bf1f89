-- What is noted of a ticket is what its member may have kept of it.
use Rattle.std.specs.Prelude.{bytes_eq, length, map, position, slice_get, unwrap_or, Bool, true, false, Option, None, Some, is_ok, if◌then◌else◌}
use Rattle.std.specs.Option.{option_map_or}
use Rattle.std.proofs.Common.{◌≡◌, ◌<◌, ◌+◌, ℕ, zero, suc, List, [], ◌∷◌, refl, sym, ◌∙◌, ap, subst, arith, get_or, true≢false}
use Rattle.std.proofs.lemmas.List.Quantifiers.{position-Some}
use Rattle.std.proofs.lemmas.Option.{slice_get_within}
use Rattle.std.proofs.lemmas.Slice.Eq.{bytes_eq-Decides}
use Rattle.booth_conf.specs.Lookups.{is_called}
use Rattle.booth_conf.specs.declared.tickets.TicketConf.{TicketConf}
use Rattle.booth_host.specs.declared.entry.Entry.TheVariants as entries
use Rattle.booth_node.specs.declared.node_config.NodeConfig.{NodeConfig}
use Rattle.booth_node.specs.Records.{may_after, may_after_all, may_after_keep, record_at}
use Rattle.booth_node.specs.Session.{AreSessions, CutKeep, CutNext, CutNow, CutSend, CutStart, Down, IsCut, Makes, MayDo, SessionEntry, Stand, Starts, after_entry}
use Rattle.booth_rec.specs.declared.record.Record.{Record}
use Rattle.booth_rec.specs.Record.{no_record, record_or_none}
use Rattle.booth_audit.specs.Kept.{MayIsNoted, all_may_noted, change_at, change_if, first_may, may_noted, read_may}
use Rattle.booth_audit.specs.Own.{AllOwn, IsOwn}

-- ---- places

none_at : {X : Type 0} (place : ℕ) (x : X) → slice_get [] place ≡ Some x → ⊥
none_at place x is = let none : None ≡ Some x = is in absurd cc

-- at first
first_at : (tickets : List TicketConf) (place : ℕ) (conf : TicketConf) → slice_get tickets place ≡ Some conf
    → slice_get (first_may tickets) place ≡ Some (no_record ∷ [])
first_at [] place conf is = absurd (none_at place conf is)
first_at (first ∷ tickets) zero conf is = refl
first_at (first ∷ tickets) (suc place) conf is = first_at tickets place conf is

-- what was read of a ticket
read_at : (records : List (Option Record)) (place : ℕ) → place < length records
    → slice_get (read_may records) place ≡ Some (record_at records place ∷ [])
read_at [] place below = absurd (omega (arith, below))
read_at (found ∷ records) zero below = refl
read_at (found ∷ records) (suc place) below = read_at records place (omega (arith, below))

change_here : (place : ℕ) (change : List Record → List Record) (all : List (List Record)) (may : List Record)
    → slice_get all place ≡ Some may → slice_get (change_at place change all) place ≡ Some (change may)
change_here place change [] may is = absurd (none_at place may is)
change_here zero change (first ∷ all) may is = let same : first ≡ may = cc in ap (λ (m : List Record). Some (change m)) same
change_here (suc place) change (first ∷ all) may is = change_here place change all may is

change_there : (other place : ℕ) (change : List Record → List Record) (all : List (List Record)) → (other ≡ place → ⊥)
    → slice_get (change_at other change all) place ≡ slice_get all place
change_there other place change [] differ = refl
change_there zero zero change (first ∷ all) differ = absurd (differ refl)
change_there zero (suc place) change (first ∷ all) differ = refl
change_there (suc other) zero change (first ∷ all) differ = refl
change_there (suc other) (suc place) change (first ∷ all) differ =
    change_there other place change all (λ same. differ (ap suc same))

-- ---- one ticket

at_of : (tickets : List TicketConf) (place : ℕ) (conf : TicketConf) → slice_get tickets place ≡ Some conf
    → get_or tickets place conf ≡ conf
at_of [] place conf is = absurd (none_at place conf is)
at_of (first ∷ tickets) zero conf is = let same : Some first ≡ Some conf = is in cc
at_of (first ∷ tickets) (suc place) conf is = at_of tickets place conf is

module _ (node : NodeConfig) (place : ℕ) (conf : TicketConf) (at : slice_get node.config.tickets place ≡ Some conf)
    (finds : position (is_called conf.name) node.config.tickets ≡ Some place) where
  changed : (name : List ℕ) (change : List Record → List Record) (all : List (List Record)) (may : List Record)
      (found : Option ℕ) (called : Bool) → slice_get all place ≡ Some may → position (is_called name) node.config.tickets ≡ found
      → bytes_eq name conf.name ≡ called
      → slice_get (change_if found change all) place ≡ Some (if called then change may else may)
  changed name change all may None false here is called = here
  changed name change all may None true here is called =
      let same : name ≡ conf.name = (bytes_eq-Decides name conf.name).0 called in
      let both : None ≡ Some place = sym is ∙ ap (λ (n : List ℕ). position (is_called n) node.config.tickets) same ∙ finds in absurd cc
  changed name change all may (Some other) true here is called =
      let same : name ≡ conf.name = (bytes_eq-Decides name conf.name).0 called in
      let both : Some other ≡ Some place = sym is ∙ ap (λ (n : List ℕ). position (is_called n) node.config.tickets) same ∙ finds in
      let there : other ≡ place = cc in
      ap (λ (n : ℕ). slice_get (change_at n change all) place) there ∙ change_here place change all may here
  changed name change all may (Some other) false here is called =
      change_there other place change all
      (λ same.
      let names = (position-Some (is_called name) node.config.tickets other conf is).1 in
      let here_too : bytes_eq name conf.name ≡ true =
      ap (λ (t : TicketConf). bytes_eq name t.name)
      (sym (ap (λ (n : ℕ). get_or node.config.tickets n conf) same ∙ at_of node.config.tickets place conf at)) ∙ names in
      true≢false (sym here_too ∙ called))
      ∙ here

  by_keep : (name : List ℕ) (change : List Record → List Record) (all : List (List Record)) (may : List Record)
      → slice_get all place ≡ Some may
      → slice_get (change_if (position (is_called name) node.config.tickets) change all) place
      ≡ Some (if bytes_eq name conf.name then change may else may)
  by_keep name change all may here =
      changed name change all may (position (is_called name) node.config.tickets) (bytes_eq name conf.name) here refl refl

  by_start : (other : NodeConfig) (records : List (Option Record)) (may : List Record) → other ≡ node
      → length records ≡ length other.config.tickets
      → slice_get (read_may records) place
      ≡ Some (option_map_or (λ p. record_at records p ∷ []) (position (is_called conf.name) other.config.tickets) may)
  by_start other records may same count =
      let within = slice_get_within node.config.tickets place conf at in
      let long : length records ≡ length node.config.tickets = count ∙ ap (λ (n : NodeConfig). length n.config.tickets) same in
      read_at records place (omega (arith, within, long))
      ∙ ap (λ (f : Option ℕ). Some (option_map_or (λ p. record_at records p ∷ []) f may))
      (sym (ap (λ (n : NodeConfig). position (is_called conf.name) n.config.tickets) same ∙ finds))

  one_may : (stand : Stand) (what : SessionEntry) (all : List (List Record)) (may : List Record) → MayDo stand what
      → IsOwn node what → slice_get all place ≡ Some may
      → slice_get (may_noted node.config.tickets all what) place ≡ Some (may_after conf.name may what)
  one_may stand (Starts other reading records) all may can own here = by_start other records may own can
  one_may stand (Makes (entries.Keep name kept answer)) all may can own here = by_keep name (may_after_keep (is_ok answer) kept) all may here
  one_may stand (Makes (entries.Open local port records conf_path answer)) all may can own here = here
  one_may stand (Makes (entries.Next wait answer bytes)) all may can own here = here
  one_may stand (Makes (entries.Now reading)) all may can own here = here
  one_may stand (Makes (entries.Send to bytes answer)) all may can own here = here
  one_may stand (Makes (entries.ReadFile path answer)) all may can own here = here
  one_may stand (Makes (entries.Lock path answer)) all may can own here = here
  one_may stand (Makes (entries.Kept name answer)) all may can own here = here
  one_may stand (Makes (entries.Start number name handler local expires answer)) all may can own here = here
  one_may stand (Makes (entries.Out bytes answer)) all may can own here = here
  one_may stand (Makes (entries.Err bytes answer)) all may can own here = here
  one_may stand (IsCut CutNext) all may can own here = here
  one_may stand (IsCut CutNow) all may can own here = here
  one_may stand (IsCut (CutSend to bytes)) all may can own here = here
  one_may stand (IsCut (CutKeep name kept)) all may can own here = by_keep name (λ (m : List Record). kept ∷ m) all may here
  one_may stand (IsCut (CutStart job)) all may can own here = here

  all_may : (stand : Stand) (deeds : List SessionEntry) (all : List (List Record)) (may : List Record) → AreSessions stand deeds
      → AllOwn node deeds → slice_get all place ≡ Some may
      → slice_get (all_may_noted node.config.tickets all deeds) place ≡ Some (may_after_all conf.name may deeds)
  all_may stand [] all may are own here = here
  all_may stand (what ∷ deeds) all may are own here =
      all_may (after_entry stand what) deeds (may_noted node.config.tickets all what) (may_after conf.name may what) are.1 own.1
      (one_may stand what all may are.0 own.0 here)

pub may_is_noted : MayIsNoted
may_is_noted node place conf at finds deeds are own =
    all_may node place conf at finds Down deeds (first_may node.config.tickets) (no_record ∷ []) are own
    (first_at node.config.tickets place conf at)
