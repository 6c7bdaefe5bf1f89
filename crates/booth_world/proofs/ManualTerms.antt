-- No kept term of a manual ticket falls: what its members do, one entry after the other.
use Rattle.std.proofs.Common.{◌≡◌, ◌≢◌, ◌⊎◌, ⊎_elim, inl, inr, ℕ, ◌<◌, ◌≤◌, Bool, true, false, List, [], ◌∷◌, ◌++◌, length, refl, sym, ap, ◌∙◌, subst, arith, slice_get, if◌then◌else◌}
use Rattle.std.specs.Prelude.{Option, Some, None, bytes_eq, is_ok, position}
use Rattle.std.specs.Option.{option_map_or}
use Rattle.booth_base.specs.Tree.{Deeds, Ends, Does}
use Rattle.booth_chain.proofs.NodesLemmas.{same_or_not}
use Rattle.booth_conf.specs.Lookups.{is_called}
use Rattle.booth_conf.specs.Sound.{IsSound as IsSoundConfig}
use Rattle.booth_conf.specs.declared.tickets.TicketConf.{TicketConf}
use Rattle.booth_rec.specs.declared.record.Record.{Record}
use Rattle.booth_host.specs.declared.entry.Entry.{Entry}
use Rattle.booth_host.specs.declared.entry.Entry.TheVariants as calls
use Rattle.booth_wire.specs.declared.message.Setup.{Setup}
use Rattle.booth_node.specs.declared.node_config.NodeConfig.{NodeConfig}
use Rattle.booth_node.specs.State.{State}
use Rattle.booth_node.specs.Held.{Moment, may_at}
use Rattle.booth_node.specs.Opening.{is_site_at, known_at_start, opened, opened_by, setup_of, start_reading}
use Rattle.booth_node.specs.Reaction.{Ask, Send, Keep, Start, react, used}
use Rattle.booth_node.specs.Records.{IsSilent, MayRead, GoesOn, Has, record_at, may_after, may_after_all, may_after_keep, with_next}
use Rattle.booth_node.specs.Session.{CutCall, MayMake, MayBeCut, CutKeep, CutNext, CutNow, CutSend, CutStart, SessionEntry, Starts, Makes, IsCut, Stand, Down, Doing, Hearing, MayDo, AreSessions, after_call, after_entry, after_entries}
use Rattle.booth_node.specs.World.{HasConfiguration, IsOneTicket, ReadsKept, RecordsGoOn, StartsOn, StartsWithIt, WorldEntry, World, members_of, entries_of, stand_after, begins_with, IsUntimedWorld}
use Rattle.booth_ticket.specs.Ticket.{TicketState, Known, Automatic, Manual}
use Rattle.booth_world.specs.Kept.{IsOfKind, RestsInKind, StandsInKind}
use Rattle.booth_world.specs.Worlds.{IsLater}
use Rattle.booth_world.proofs.Configured.{found_at, found_named, found_there}
use Rattle.booth_world.proofs.Lists.{none_is, some_same}
use Rattle.booth_world.proofs.ManualDeeds.{IsHigh}
use Rattle.booth_world.proofs.ManualKeeps.{IsHighOwn, IsPlaced, KeepsHigh, keeps_lower, turn_keeps}
use Rattle.booth_world.proofs.WorldEntries.{started_at, started_is}
use Rattle.booth_world.proofs.WorldHosts.{append_none, entries_join, entry_other, entry_own, may_join, sessions_at, stand_own}
use Rattle.booth_world.proofs.WorldRuns.{append_both}
use Rattle.booth_world.proofs.WorldSteps.{equal_bytes}

-- ---- lists of records

some_after : (own_name : List ℕ) (k : Record) (may : List Record) (xs : List SessionEntry) → Has may k → Has (with_next own_name may xs) k
some_after own_name k may [] h = h
some_after own_name k may (Makes (calls.Keep name rec answer) ∷ xs) h = by_name (bytes_eq name own_name)
  where
    by_name : (b : Bool) → Has (if b then rec ∷ may else may) k
    by_name true = inr h
    by_name false = h
some_after own_name k may (IsCut (CutKeep name rec) ∷ xs) h = by_name (bytes_eq name own_name)
  where
    by_name : (b : Bool) → Has (if b then rec ∷ may else may) k
    by_name true = inr h
    by_name false = h
some_after own_name k may (x ∷ xs) h = h

same_name : (own : List ℕ) (name ticket_name : List ℕ) → ticket_name ≡ name → bytes_eq ticket_name own ≡ true → name ≡ own
same_name own name ticket_name same e = sym same ∙ equal_bytes ticket_name own e

-- ---- where a member stands

module _ (own_name : List ℕ) where
  -- where a node's configuration has the ticket
  abbrev at_of : NodeConfig → Option ℕ
  at_of node = position (is_called own_name) node.config.tickets

  -- what a member that stands so is to keep has at least this term
  abbrev IsHighAt : ℕ → Stand → Type 0
  IsHighAt term Down = Unit {0}
  IsHighAt term (Doing node deeds) = IsSoundConfig node.config × KeepsHigh own_name (at_of node) term deeds
  IsHighAt term (Hearing node old answer bytes) = IsSoundConfig node.config × IsPlaced own_name (at_of node) term old.tickets

  -- This is the least term of the records that a member may have kept, and what it is to keep has at least that.
  record IsLeast (term : ℕ) (stand : Stand) (may : List Record) : Type 0 where
    pub lowest : Record
    pub one : Has may lowest
    pub is : lowest.term ≤ term
    pub least : (k : Record) → Has may k → term ≤ k.term
    pub high : IsHighAt term stand

  -- the same after more, and the term did not fall
  abbrev Rises : ℕ → Stand → List Record → Type 0
  Rises term stand may = (later : ℕ) × (term ≤ later) × IsLeast later stand may

  -- the same, but that the term did not fall is so where a premise is
  abbrev RisesIf : Type 0 → ℕ → Stand → List Record → Type 0
  RisesIf P term stand may = (later : ℕ) × (P → term ≤ later) × IsLeast later stand may

  stays : (term : ℕ) (stand after : Stand) (may : List Record) → IsLeast term stand may → IsHighAt term after → Rises term after may
  stays term stand after may x high =
      (term, omega arith, record { lowest = x.lowest; one = x.one; is = x.is; least = x.least; high = high })

  -- a record is added, of a term that is not below the least
  adds : (term : ℕ) (stand after : Stand) (rec : Record) (may : List Record) → IsLeast term stand may → term ≤ rec.term → IsHighAt term after
      → Rises term after (rec ∷ may)
  adds term stand after rec may x above high = (
    term,
    omega arith,
    record {
      lowest = x.lowest;
      one = inr x.one;
      is = x.is;
      least = λ k h. ⊎_elim (λ (e : rec ≡ k). subst (λ (r : Record). term ≤ r.term) e above) (λ (g : Has may k). x.least k g) h;
      high = high;
    },
  )

  -- a record is alone
  least_alone : (after : Stand) (rec : Record) → IsHighAt rec.term after → IsLeast rec.term after (rec ∷ [])
  least_alone after rec high = record {
    lowest = rec;
    one = inl refl;
    is = omega arith;
    least = λ k h. ⊎_elim (λ (e : rec ≡ k). subst (λ (r : Record). rec.term ≤ r.term) e (omega arith)) (λ (g : ⊥). absurd g) h;
    high = high;
  }

  -- and of a term that is not below the least
  alone : (term : ℕ) (after : Stand) (rec : Record) → term ≤ rec.term → IsHighAt rec.term after → Rises term after (rec ∷ [])
  alone term after rec above high = (rec.term, above, least_alone after rec high)

  -- a keep of this ticket, or of another
  keeps : (term : ℕ) (node : NodeConfig) (name : List ℕ) (tried : Record) (go : Bool → Deeds Ask State) (ticket_name : List ℕ) (rec : Record) (ok : Bool)
      (may : List Record) → IsLeast term (Doing node (Does (Keep name tried) go)) may → ticket_name ≡ name → rec ≡ tried
      → Rises term (Doing node (go ok)) (if bytes_eq ticket_name own_name then may_after_keep ok rec may else may)
  keeps term node name tried go ticket_name rec ok may x named same = by_name (bytes_eq ticket_name own_name) refl x.high.1
    where
      kept : (b : Bool) → (term ≤ tried.term) × KeepsHigh own_name (at_of node) tried.term (go true) × KeepsHigh own_name (at_of node) term (go false)
          → Rises term (Doing node (go b)) (may_after_keep b rec may)
      kept true h =
          subst (λ (r : Record). Rises term (Doing node (go true)) (r ∷ [])) (sym same) (alone term (Doing node (go true)) tried h.0 (x.high.0, h.1))
      kept false h =
          adds term (Doing node (Does (Keep name tried) go)) (Doing node (go false)) rec may x
          (subst (λ (r : Record). term ≤ r.term) (sym same) h.0) (x.high.0, h.2)

      other : (b : Bool) → (term ≤ tried.term) × KeepsHigh own_name (at_of node) tried.term (go true) × KeepsHigh own_name (at_of node) term (go false)
          → KeepsHigh own_name (at_of node) term (go b)
      other true h = keeps_lower own_name (at_of node) term tried.term (go true) h.0 h.1
      other false h = h.2

      by_name : (b : Bool) → bytes_eq ticket_name own_name ≡ b → KeepsHigh own_name (at_of node) term (Does (Keep name tried) go)
          → Rises term (Doing node (go ok)) (if b then may_after_keep ok rec may else may)
      by_name true e (inl h) = absurd (h.0 (same_name own_name name ticket_name named e))
      by_name true e (inr h) = kept ok h
      by_name false e (inl h) = stays term (Doing node (Does (Keep name tried) go)) (Doing node (go ok)) may x (x.high.0, h.1 ok)
      by_name false e (inr h) = stays term (Doing node (Does (Keep name tried) go)) (Doing node (go ok)) may x (x.high.0, other ok h)

  -- a keep of this ticket that was cut, or of another
  cuts_keep : (term : ℕ) (node : NodeConfig) (name : List ℕ) (tried : Record) (go : Bool → Deeds Ask State) (ticket_name : List ℕ) (rec : Record)
      (may : List Record) → IsLeast term (Doing node (Does (Keep name tried) go)) may → ticket_name ≡ name → rec ≡ tried
      → Rises term Down (if bytes_eq ticket_name own_name then rec ∷ may else may)
  cuts_keep term node name tried go ticket_name rec may x named same = by_name (bytes_eq ticket_name own_name) refl x.high.1
    where
      by_name : (b : Bool) → bytes_eq ticket_name own_name ≡ b → KeepsHigh own_name (at_of node) term (Does (Keep name tried) go)
          → Rises term Down (if b then rec ∷ may else may)
      by_name true e (inl h) = absurd (h.0 (same_name own_name name ticket_name named e))
      by_name true e (inr h) =
          adds term (Doing node (Does (Keep name tried) go)) Down rec may x (subst (λ (r : Record). term ≤ r.term) (sym same) h.0) tt
      by_name false e h = stays term (Doing node (Does (Keep name tried) go)) Down may x tt

  next_keep : (term : ℕ) (node : NodeConfig) (name : List ℕ) (tried : Record) (go : Bool → Deeds Ask State) (ticket_name : List ℕ) (rec : Record)
      (may : List Record) (k : Record) → IsLeast term (Doing node (Does (Keep name tried) go)) may → ticket_name ≡ name → rec ≡ tried
      → Has (if bytes_eq ticket_name own_name then rec ∷ may else may) k → term ≤ k.term
  next_keep term node name tried go ticket_name rec may k x named same h = by_name (bytes_eq ticket_name own_name) refl x.high.1 h
    where
      by_name : (b : Bool) → bytes_eq ticket_name own_name ≡ b → KeepsHigh own_name (at_of node) term (Does (Keep name tried) go)
          → Has (if b then rec ∷ may else may) k → term ≤ k.term
      by_name true e (inl high) g = absurd (high.0 (same_name own_name name ticket_name named e))
      by_name true e (inr high) (inl is) =
          let above : term ≤ tried.term = high.0 in
          let kept : tried.term ≡ k.term = ap (λ (r : Record). r.term) (sym same ∙ is) in
          omega (arith, above, kept)
      by_name true e (inr high) (inr g) = x.least k g
      by_name false e high g = x.least k g

  makes : (term : ℕ) (stand : Stand) (call : Entry) (may : List Record) → IsLeast term stand may → MayMake stand call
      → Rises term (after_call stand call) (may_after own_name may (Makes call))
  makes term Down call may x d = absurd d
  makes term (Doing node (Ends old)) (calls.Next wait answer bytes) may x d =
      stays term (Doing node (Ends old)) (Hearing node old answer bytes) may x x.high
  makes term (Doing node (Ends old)) call may x d = absurd d
  makes term (Doing node (Does (Send peer message) go)) (calls.Send to bytes answer) may x d =
      stays term (Doing node (Does (Send peer message) go)) (Doing node (go (is_ok answer))) may x (x.high.0, x.high.1 (is_ok answer))
  makes term (Doing node (Does (Send peer message) go)) call may x d = absurd d
  makes term (Doing node (Does (Keep name tried) go)) (calls.Keep ticket_name rec answer) may x d =
      keeps term node name tried go ticket_name rec (is_ok answer) may x d.0 d.1
  makes term (Doing node (Does (Keep name tried) go)) call may x d = absurd d
  makes term (Doing node (Does (Start job) go)) (calls.Start number named handler local expires answer) may x d =
      stays term (Doing node (Does (Start job) go)) (Doing node (go (is_ok answer))) may x (x.high.0, x.high.1 (is_ok answer))
  makes term (Doing node (Does (Start job) go)) call may x d = absurd d
  makes term (Hearing node old answer bytes) (calls.Now reading) may x d =
      stays term (Hearing node old answer bytes) (Doing node (react node old (used old.last_reading reading) answer bytes)) may x
      (x.high.0, turn_keeps own_name (at_of node) node (used old.last_reading reading) old answer bytes term x.high.1)
  makes term (Hearing node old answer bytes) call may x d = absurd d

  cuts : (term : ℕ) (stand : Stand) (call : CutCall) (may : List Record) → IsLeast term stand may → MayBeCut stand call
      → Rises term Down (may_after own_name may (IsCut call))
  cuts term stand CutNext may x d = stays term stand Down may x tt
  cuts term stand CutNow may x d = stays term stand Down may x tt
  cuts term stand (CutSend to bytes) may x d = stays term stand Down may x tt
  cuts term stand (CutStart job) may x d = stays term stand Down may x tt
  cuts term Down (CutKeep ticket_name rec) may x d = absurd d
  cuts term (Doing node (Ends old)) (CutKeep ticket_name rec) may x d = absurd d
  cuts term (Doing node (Does (Send peer message) go)) (CutKeep ticket_name rec) may x d = absurd d
  cuts term (Doing node (Does (Start job) go)) (CutKeep ticket_name rec) may x d = absurd d
  cuts term (Doing node (Does (Keep name tried) go)) (CutKeep ticket_name rec) may x d =
      cuts_keep term node name tried go ticket_name rec may x d.0 d.1
  cuts term (Hearing node old answer bytes) (CutKeep ticket_name rec) may x d = absurd d

  -- what a start owes: where it has the ticket, its record is of no earlier term than all that may have been kept, and
  -- the ticket stands in the state that it leaves; and where it has not, no ticket there has the name
  abbrev StartsSo : Type 0 → List Record → SessionEntry → Type 0
  StartsSo P may (Starts node reading records) =
      IsSoundConfig node.config
      × ((place : ℕ) → at_of node ≡ Some place
      → (P → (term : ℕ) → ((k : Record) → Has may k → term ≤ k.term) → term ≤ (record_at records place).term)
      × IsPlaced own_name (at_of node) (record_at records place).term (opened node records reading).tickets)
      × (at_of node ≡ None → (term : ℕ) → IsPlaced own_name (at_of node) term (opened node records reading).tickets)
  StartsSo P may what = Unit {0}

  if_so : (P : Type 0) (term : ℕ) (stand : Stand) (may : List Record) → Rises term stand may → RisesIf P term stand may
  if_so P term stand may r = (r.0, (λ p. r.1), r.2)

  one_entry : (P : Type 0) (term : ℕ) (stand : Stand) (what : SessionEntry) (may : List Record) → IsLeast term stand may → MayDo stand what
      → StartsSo P may what
      → RisesIf P term (after_entry stand what) (may_after own_name may what)
  one_entry P term stand (Starts node reading records) may x d so = by_place (at_of node) refl
    where
      by_place : (o : Option ℕ) → at_of node ≡ o
          → RisesIf P term (Doing node (Ends (opened node records reading))) (option_map_or (λ (n : ℕ). record_at records n ∷ []) o may)
      by_place None none = if_so P term (Doing node (Ends (opened node records reading))) may (stays term stand (Doing node (Ends (opened node records reading))) may x (so.0, so.2 none term))
      by_place (Some place) at =
          let q = so.1 place at in (
            (record_at records place).term,
            (λ p. q.0 p term x.least),
            least_alone (Doing node (Ends (opened node records reading))) (record_at records place) (so.0, q.1),
          )
  one_entry P term stand (Makes call) may x d so = if_so P term (after_call stand call) (may_after own_name may (Makes call)) (makes term stand call may x d)
  one_entry P term stand (IsCut call) may x d so = if_so P term Down (may_after own_name may (IsCut call)) (cuts term stand call may x d)

  -- the record of the next entry is not below the least term either
  next_above : (term : ℕ) (stand : Stand) (may : List Record) (x : SessionEntry) (xs : List SessionEntry) (k : Record) → IsLeast term stand may
      → MayDo stand x → Has (with_next own_name may (x ∷ xs)) k → term ≤ k.term
  next_above term (Doing node (Does (Keep name tried) go)) may (Makes (calls.Keep ticket_name rec answer)) xs k x d h =
      next_keep term node name tried go ticket_name rec may k x d.0 d.1 h
  next_above term (Doing node (Does (Send peer message) go)) may (Makes (calls.Keep ticket_name rec answer)) xs k x d h = absurd d
  next_above term (Doing node (Does (Start job) go)) may (Makes (calls.Keep ticket_name rec answer)) xs k x d h = absurd d
  next_above term (Doing node (Ends old)) may (Makes (calls.Keep ticket_name rec answer)) xs k x d h = absurd d
  next_above term Down may (Makes (calls.Keep ticket_name rec answer)) xs k x d h = absurd d
  next_above term (Hearing node old got into) may (Makes (calls.Keep ticket_name rec answer)) xs k x d h = absurd d
  next_above term (Doing node (Does (Keep name tried) go)) may (IsCut (CutKeep ticket_name rec)) xs k x d h =
      next_keep term node name tried go ticket_name rec may k x d.0 d.1 h
  next_above term (Doing node (Does (Send peer message) go)) may (IsCut (CutKeep ticket_name rec)) xs k x d h = absurd d
  next_above term (Doing node (Does (Start job) go)) may (IsCut (CutKeep ticket_name rec)) xs k x d h = absurd d
  next_above term (Doing node (Ends old)) may (IsCut (CutKeep ticket_name rec)) xs k x d h = absurd d
  next_above term Down may (IsCut (CutKeep ticket_name rec)) xs k x d h = absurd d
  next_above term (Hearing node old got into) may (IsCut (CutKeep ticket_name rec)) xs k x d h = absurd d
  next_above term stand may what xs k x d h = x.least k h

-- ---- a world

-- A record that a site reads, or that goes on, has at least the term that all records have that may have been written.
read_least : (site : Bool) (may : List Record) (k : Record) (term : ℕ) → MayRead site may k → (site ≡ true) ⊎ GoesOn may k
    → ((y : Record) → Has may y → term ≤ y.term) → term ≤ k.term
read_least site may k term read on least = ⊎_elim
    (λ (h : Has may k). least k h)
    (λ (silent : IsSilent site may k). ⊎_elim
    (λ (is : site ≡ true). let y = silent.reaches is in let l = least y.0 y.1 in omega (arith, l, y.2))
    (λ (goes : GoesOn may k). ⊎_elim
    (λ (h : Has may k). least k h)
    (λ (y : (z : Record) × Has may z × (z.term < k.term)). let l = least y.0 y.1 in omega (arith, l, y.2))
    goes)
    on)
    read

module _ (w : World) (is_world : IsUntimedWorld w) (ticket : TicketConf) (one : IsOneTicket w ticket) (by_hand : ticket.manual ≡ true)
    (m : ℕ) (below : m < members_of w) where
  -- the member is a site, or each start goes on
  abbrev Goes : Type 0
  Goes = (is_site_at w.members m ≡ true) ⊎ RecordsGoOn w

  abbrev start : Record
  start = begins_with w m ticket.name

  abbrev may_of : List WorldEntry → List Record
  may_of before = may_after_all ticket.name (start ∷ []) (entries_of m before)

  abbrev Least : ℕ → List WorldEntry → Type 0
  Least term before = IsLeast ticket.name term (stand_after m before) (may_of before)

  abbrev found : NodeConfig → Option ℕ
  found node = position (is_called ticket.name) node.config.tickets

  -- no other ticket has the name in the state that a start leaves
  others_so : (node : NodeConfig) → IsSoundConfig node.config → (reading : ℕ) (records : List (Option Record)) → (other : ℕ) (t : TicketState)
      → slice_get (opened node records reading).tickets other ≡ Some t → found node ≢ Some other → t.setup.ticket ≢ ticket.name
  others_so node sound reading records other t read ne named =
      let q : (conf : TicketConf) × (slice_get node.config.tickets other ≡ Some conf) × (t.setup.ticket ≡ conf.name) =
      started_is node (start_reading reading) 0 other node.config.tickets records t read in
      ne (found_at node.config sound other q.0 q.1 ticket.name (sym q.2 ∙ named))

  opened_so : (node : NodeConfig) → IsSoundConfig node.config → (reading : ℕ) (records : List (Option Record))
      → length records ≡ length node.config.tickets → StartsWithIt ticket (Starts node reading records)
      → (place : ℕ) → found node ≡ Some place
      → IsPlaced ticket.name (found node) (record_at records place).term (opened node records reading).tickets
  opened_so node sound reading records all agree place at =
      let there = found_there node.config place ticket.name at in
      let named : there.0.name ≡ ticket.name = found_named node.config place there.0 there.1 ticket.name at in
      let manual : there.0.manual ≡ true = (agree place there.0 there.1 named).0 ∙ by_hand in
      let now : ℕ = start_reading reading in
      let rec : Record = record_at records place in
      let s : Setup = setup_of node place there.0 in
      let here : IsHighOwn ticket.name (found node) place rec.term (opened node records reading).tickets = record {
        ticket = opened_by there.0 s rec now;
        own = started_at node now 0 place node.config.tickets records there.0 all there.1
            ∙ ap (λ (n : ℕ). Some (opened_by there.0 (setup_of node n there.0) rec now)) (omega arith);
        high = subst (λ (b : Bool). IsHigh rec.term (known_at_start b s rec now)) (sym manual) (omega arith, refl);
      } in
      record {
        own = λ p e. subst (λ (n : ℕ). IsHighOwn ticket.name (found node) n rec.term (opened node records reading).tickets)
            (some_same place p (sym at ∙ e)) here;
        others = others_so node sound reading records;
      }

  opened_without : (node : NodeConfig) → IsSoundConfig node.config → (reading : ℕ) (records : List (Option Record)) → found node ≡ None → (term : ℕ)
      → IsPlaced ticket.name (found node) term (opened node records reading).tickets
  opened_without node sound reading records none term = record {
    own = λ p e. absurd (none_is p (sym none ∙ e));
    others = others_so node sound reading records;
  }

  starts_so : (before after : List WorldEntry) (e : WorldEntry) → w.entries ≡ before ++ e ∷ after → e.member ≡ m
      → MayDo (stand_after m before) e.what → StartsSo ticket.name Goes (may_of before) e.what
  starts_so before after e whole is may_do =
      by_what e.what (is_world.same_members before after e whole) (is_world.records_return before after e whole) goes (one.same before after e whole) may_do
    where
      -- a site reads no earlier term, and where starts go on nobody does
      goes : Goes → (is_site_at w.members e.member ≡ true) ⊎ StartsOn w before e e.what
      goes on = ⊎_elim
          (λ (site : is_site_at w.members m ≡ true). inl (subst (λ (n : ℕ). is_site_at w.members n ≡ true) (sym is) site))
          (λ (all : RecordsGoOn w). inr (all before after e whole))
          on

      by_what : (what : SessionEntry) → HasConfiguration w e what → ReadsKept w before e what
          → (Goes → (is_site_at w.members e.member ≡ true) ⊎ StartsOn w before e what) → StartsWithIt ticket what
          → MayDo (stand_after m before) what → StartsSo ticket.name Goes (may_of before) what
      by_what (Starts node reading records) own kept goes agree many = (
        own.sound,
        (λ place at.
            let there = found_there node.config place ticket.name at in
            let named : there.0.name ≡ ticket.name = found_named node.config place there.0 there.1 ticket.name at in (
              (λ on term least. read_least (is_site_at w.members e.member) (may_of before) (record_at records place) term
                  (subst (λ (n : ℕ). MayRead (is_site_at w.members e.member) (may_after_all ticket.name (begins_with w n ticket.name ∷ []) (entries_of n before)) (record_at records place)) is
                  (subst (λ (name : List ℕ). MayRead (is_site_at w.members e.member) (may_after_all name (begins_with w e.member name ∷ []) (entries_of e.member before)) (record_at records place))
                  named (kept place there.0 there.1)))
                  (⊎_elim
                  (λ (site : is_site_at w.members e.member ≡ true). inl site)
                  (λ (starts : StartsOn w before e (Starts node reading records)). inr
                  (subst (λ (n : ℕ). GoesOn (may_after_all ticket.name (begins_with w n ticket.name ∷ []) (entries_of n before)) (record_at records place)) is
                  (subst (λ (name : List ℕ). GoesOn (may_after_all name (begins_with w e.member name ∷ []) (entries_of e.member before)) (record_at records place))
                  named (starts place there.0 there.1))))
                  (goes on))
                  least),
              opened_so node own.sound reading records many agree place at,
            )),
        (λ none term. opened_without node own.sound reading records none term),
      )
      by_what (Makes call) own kept goes agree many = tt
      by_what (IsCut call) own kept goes agree many = tt

  abbrev Later : ℕ → List WorldEntry → Type 0
  Later term before = (later : ℕ) × (Goes → term ≤ later) × Least later before

  one_step : (term : ℕ) (before after : List WorldEntry) (e : WorldEntry) → w.entries ≡ before ++ e ∷ after → Least term before
      → Later term (before ++ e ∷ [])
  one_step term before after e whole x = by_member (same_or_not e.member m)
    where
      by_member : (e.member ≡ m) ⊎ (e.member ≢ m) → Later term (before ++ e ∷ [])
      by_member (inr ne) =
          let same : entries_of m (before ++ e ∷ []) ≡ entries_of m before =
          entries_join m before (e ∷ []) ∙ ap (λ (xs : List SessionEntry). entries_of m before ++ xs) (entry_other m e [] ne)
          ∙ append_none (entries_of m before) in (
            term,
            (λ on. omega arith),
            subst (λ (xs : List SessionEntry). IsLeast ticket.name term (after_entries Down xs) (may_after_all ticket.name (start ∷ []) xs)) (sym same) x,
          )
      by_member (inl is) =
          let all : entries_of m (before ++ e ∷ []) ≡ entries_of m before ++ e.what ∷ [] =
          entries_join m before (e ∷ []) ∙ ap (λ (xs : List SessionEntry). entries_of m before ++ xs) (entry_own m e [] is) in
          let may_do : MayDo (stand_after m before) e.what =
          sessions_at Down (entries_of m before) (entries_of m after) e.what
          (subst (λ (xs : List SessionEntry). AreSessions Down xs)
          (ap (λ (es : List WorldEntry). entries_of m es) whole ∙ entries_join m before (e ∷ after)
          ∙ ap (λ (xs : List SessionEntry). entries_of m before ++ xs) (entry_own m e after is))
          (is_world.one_daemon m below)) in
          let r = one_entry ticket.name Goes term (stand_after m before) e.what (may_of before) x may_do (starts_so before after e whole is may_do) in (
            r.0,
            r.1,
            subst (λ (s : Stand). IsLeast ticket.name r.0 s (may_of (before ++ e ∷ []))) (sym (stand_own m before e is))
                (subst (λ (rs : List Record). IsLeast ticket.name r.0 (after_entry (stand_after m before) e.what) rs)
                (sym (ap (λ (xs : List SessionEntry). may_after_all ticket.name (start ∷ []) xs) all
                ∙ may_join ticket.name (start ∷ []) (entries_of m before) (e.what ∷ []))) r.2),
          )

  steps : (between before after : List WorldEntry) (term : ℕ) → w.entries ≡ before ++ (between ++ after) → Least term before
      → Later term (before ++ between)
  steps [] before after term whole x =
      (term, (λ on. omega arith), subst (λ (es : List WorldEntry). Least term es) (sym (append_none before)) x)
  steps (e ∷ between) before after term whole x =
      let one = one_step term before (between ++ after) e whole x in
      let rest =
      steps between (before ++ e ∷ []) after one.0 (whole ∙ sym (append_both before (e ∷ []) (between ++ after))) one.2 in (
        rest.0,
        (λ on. let low = one.1 on in let high = rest.1 on in omega arith),
        subst (λ (es : List WorldEntry). Least rest.0 es) (append_both before (e ∷ []) between) rest.2,
      )

  first : Least start.term []
  first = record {
    lowest = start;
    one = inl refl;
    is = omega arith;
    least = λ k h. ⊎_elim (λ (e : start ≡ k). subst (λ (r : Record). start.term ≤ r.term) e (omega arith)) (λ (n : ⊥). absurd n) h;
    high = tt;
  }

  -- each record that may have been kept at a moment is of at least the least term
  above_at : (moment : Moment w) (term : ℕ) → Least term moment.before → (k : Record) → Has (may_at w ticket m moment) k → term ≤ k.term
  above_at moment term x k h = by_next (entries_of m moment.after) refl h
    where
      by_next : (xs : List SessionEntry) → entries_of m moment.after ≡ xs → Has (with_next ticket.name (may_of moment.before) xs) k → term ≤ k.term
      by_next [] is g = x.least k g
      by_next (what ∷ xs) is g =
          next_above ticket.name term (stand_after m moment.before) (may_of moment.before) what xs k x
          (sessions_at Down (entries_of m moment.before) xs what
          (subst (λ (es : List SessionEntry). AreSessions Down es)
          (ap (λ (es : List WorldEntry). entries_of m es) moment.whole ∙ entries_join m moment.before moment.after
          ∙ ap (λ (es : List SessionEntry). entries_of m moment.before ++ es) is) (is_world.one_daemon m below))) g

  pub manual_terms_hold : (early late : Moment w) (between : List WorldEntry) → IsLater w early late between → (term : ℕ) → Goes
      → ((k : Record) → Has (may_at w ticket m early) k → term ≤ k.term)
      → (k : Record) → Has (may_at w ticket m late) k → term ≤ k.term
  manual_terms_hold early late between later term on least k h =
      let at_early = steps early.before [] early.after start.term early.whole first in
      let x : Least at_early.0 early.before = at_early.2 in
      let low : term ≤ x.lowest.term =
      least x.lowest (some_after ticket.name x.lowest (may_of early.before) (entries_of m early.after) x.one) in
      let at_late =
      steps between early.before late.after at_early.0
      (late.whole ∙ ap (λ (es : List WorldEntry). es ++ late.after) later.entries ∙ append_both early.before between late.after) x in
      let high : at_late.0 ≤ k.term =
      above_at late at_late.0 (subst (λ (es : List WorldEntry). Least at_late.0 es) (sym later.entries) at_late.2) k h in
      let is : x.lowest.term ≤ at_early.0 = x.is in
      let rises : at_early.0 ≤ at_late.0 = at_late.1 on in
      omega (arith, low, high, is, rises)

  -- where it rests, it stands as a manual ticket
  pub stands_by_hand : (moment : Moment w) → RestsInKind ticket (stand_after m moment.before)
  stands_by_hand moment =
      let at_moment = steps moment.before [] moment.after start.term moment.whole first in
      by_stand at_moment.0 (stand_after m moment.before) at_moment.2.high
    where
      by_known : (term : ℕ) (known : Known) → IsHigh term known → IsOfKind true known
      by_known term (Automatic view) h = absurd h
      by_known term (Manual known) h = tt

      placed : (term : ℕ) (node : NodeConfig) (state : State) → IsSoundConfig node.config → IsPlaced ticket.name (found node) term state.tickets
          → StandsInKind ticket node state
      placed term node state sound at = λ place own there named.
          let here : IsHighOwn ticket.name (found node) place term state.tickets = at.own place (found_at node.config sound place own there ticket.name named) in
          (here.ticket, here.own, subst (λ (b : Bool). IsOfKind b here.ticket.known) (sym by_hand) (by_known term here.ticket.known here.high))

      by_stand : (term : ℕ) (stand : Stand) → IsHighAt ticket.name term stand → RestsInKind ticket stand
      by_stand term Down h = tt
      by_stand term (Doing node (Ends state)) h = placed term node state h.0 h.1
      by_stand term (Doing node (Does ask go)) h = tt
      by_stand term (Hearing node old answer bytes) h = placed term node old h.0 h.1
