-- In each world, what a member tells of itself as a ticket's holder is borne out by a record that it may have kept.
use Rattle.std.proofs.Common.{◌≡◌, ◌≢◌, ◌⊎◌, ⊎_elim, inl, inr, ℕ, ◌<◌, ◌+◌, ◌-◌, ◌*◌, ◌/◌, ◌%◌, Bool, true, false, List, [], ◌∷◌, ◌++◌, length, refl, sym, ap, ◌∙◌, subst, arith, slice_get, if◌then◌else◌}
use Rattle.std.specs.Prelude.{min, Option, Some, None, Ok, Result, IsSomeAnd, bytes_eq, is_ok, position, unwrap_or}
use Rattle.std.specs.Option.{option_map_or}
use Rattle.booth_base.specs.Tree.{Deeds, Ends, Does}
use Rattle.booth_base.specs.declared.address.Address.{Address}
use Rattle.booth_base.specs.declared.address.MemberId.{MemberId}
use Rattle.booth_base.specs.declared.address.Peer.{Peer}
use Rattle.booth_chain.proofs.NodesLemmas.{same_or_not}
use Rattle.booth_base.specs.declared.times.Times.{Times}
use Rattle.booth_conf.specs.Lookups.{is_called}
use Rattle.booth_conf.specs.Sound.{IsSound as IsSoundConfig}
use Rattle.booth_conf.specs.declared.tickets.TicketConf.{TicketConf}
use Rattle.booth_rec.specs.declared.record.Lease.{Lease}
use Rattle.booth_rec.specs.declared.record.Record.{Record}
use Rattle.booth_rec.specs.Record.{IsInForce}
use Rattle.booth_auth.specs.Sealed.{sealed}
use Rattle.booth_auth.proofs.SealLemmas.{sealed_read}
use Rattle.booth_host.specs.declared.entry.Entry.{Entry}
use Rattle.booth_host.specs.declared.entry.Entry.TheVariants as calls
use Rattle.booth_host.specs.declared.host.Job.{Job}
use Rattle.booth_wire.specs.declared.message.FrameFault.{FrameFault}
use Rattle.booth_wire.specs.declared.message.Head.{Head}
use Rattle.booth_wire.specs.declared.message.Setup.{Setup}
use Rattle.booth_wire.specs.PlainMessage.{PlainMessage}
use Rattle.booth_wire.specs.Reading.{decoded}
use Rattle.booth_wire.specs.Spelling.{Fits}
use Rattle.booth_node.specs.declared.node_config.NodeConfig.{NodeConfig}
use Rattle.booth_node.specs.State.{State}
use Rattle.booth_node.specs.Held.{Moment, IsAutomatic, HoldsBy, Holds, may_at}
use Rattle.booth_node.specs.Opening.{known_at_start, opened, opened_by, own_place, rank_at, setup_of, start_reading}
use Rattle.booth_node.specs.Reaction.{Ask, Send, Keep, Start, used}
use Rattle.booth_node.specs.Records.{Has, record_at, may_after, may_after_all, may_after_keep, may_after_start, with_next}
use Rattle.booth_node.specs.Session.{MayMake, CutKeep, CutSend, CutStart, SessionEntry, Starts, Makes, IsCut, Stand, Down, Doing, Hearing, MayDo, AreSessions, after_call, after_entry, after_entries}
use Rattle.booth_node.specs.World.{HasConfiguration, IsNodeOf, IsOneTicket, IsSend, StartsWithIt, WorldEntry, World, clock_at, id_at, members_of, entries_of, stand_after, begins_with, IsUntimedWorld}
use Rattle.booth_world.specs.Cores.{opening_session}
use Rattle.booth_world.specs.Tellers.{BearsOut, Claim, IsGranted, HasLeft, EndsIn, IsListed, ClaimsLast, GrantsAreKept, IsSentAt, HasNone, IsLive, IsNext, IsStart, JobTells, SendTells, StartTells, Tells, TellersAreApart, WhoTellsHasKept, WhoTellsHolds, address_at}
use Rattle.booth_world.specs.Worlds.{ReleasedIn}
use Rattle.booth_world.specs.Held.{IsApartFrom}
use Rattle.booth_ticket.specs.Ticket.{Known, Automatic, Manual}
use Rattle.booth_world.specs.Kept.{IsOfKind, RestsInKind, StandsInKind}
use Rattle.booth_world.proofs.Configured.{found_at, found_named, found_there, setup_sound}
use Rattle.booth_world.proofs.TellerClaims.{IsBacked, IsKeptFor, IsOwn, IsPlaced, IsTold, Teller, any_kept}
use Rattle.booth_world.proofs.TellerLists.{AreTheirs}
use Rattle.booth_world.proofs.TellerMembers.{names_free, theirs_of}
use Rattle.booth_world.proofs.TellerNodes.{KeepsHonest}
use Rattle.booth_world.proofs.TellerTurns.{turn_honest}
use Rattle.booth_world.proofs.TellerKeeps.{started_calm}
use Rattle.booth_world.proofs.TellerSteps.{IsHonest}
use Rattle.booth_world.proofs.WorldEntries.{started_at, started_is}
use Rattle.booth_world.proofs.WorldHosts.{append_none, entries_join, entry_other, entry_own, may_join, sessions_at, stand_own}
use Rattle.booth_world.proofs.WorldLaws.{worlds_are_apart, worlds_hold_one}
use Rattle.booth_world.proofs.WorldRuns.{append_both}
use Rattle.booth_world.proofs.WorldSteps.{other_bytes, same_bytes, setup_by}
use Rattle.booth_world.specs.Clusters.{cluster_of}
use Rattle.booth_world.proofs.Untimed.{untimed}

pub same_message : (r : Result PlainMessage FrameFault) (a b : PlainMessage) → r ≡ Ok a → r ≡ Ok b → a ≡ b
same_message r a b e f = cc

-- ---- where a member stands

module _ (conf : TicketConf) (me : MemberId) (address : Address) (lasts : 0 < conf.times.expire) where
  -- where a node's configuration has the ticket
  abbrev pub at_of : NodeConfig → Option ℕ
  at_of node = position (is_called conf.name) node.config.tickets

  -- its configuration there says whether it follows the steady rules
  abbrev pub steady_at : List TicketConf → Option ℕ → Bool
  steady_at tickets None = false
  steady_at tickets (Some place) = option_map_or (λ (own : TicketConf). own.steady) (slice_get tickets place) false

  abbrev pub setup : NodeConfig → Setup
  setup node = record (setup_of node (unwrap_or (at_of node) 0) conf) { steady = steady_at node.config.tickets (at_of node) }

  -- the node is this member's, with an address of its own
  pub record IsItsNode (node : NodeConfig) : Type 0 where
    pub sound : IsSoundConfig node.config
    pub me_is : node.me ≡ me
    pub theirs : AreTheirs node.config node.me address

  -- all that a member that stands so is to tell of the ticket is borne out by the records that it may have kept then
  abbrev pub IsHonestAt : List Record → Stand → Type 0
  IsHonestAt may Down = Unit {0}
  IsHonestAt may (Doing node deeds) = IsItsNode node × KeepsHonest (setup node) (at_of node) lasts address node.ring may deeds
  IsHonestAt may (Hearing node old answer bytes) = IsItsNode node × IsPlaced (setup node) (at_of node) may old.tickets

  keeps : (node : NodeConfig) (name : List ℕ) (tried : Record) (go : Bool → Deeds Ask State) (ticket_name : List ℕ) (rec : Record) (ok : Bool)
      (may : List Record) → IsHonestAt may (Doing node (Does (Keep name tried) go)) → ticket_name ≡ name → rec ≡ tried
      → IsHonestAt (if bytes_eq ticket_name conf.name then may_after_keep ok rec may else may) (Doing node (go ok))
  keeps node name tried go ticket_name rec ok may h named same = (h.0, by_side h.1)
    where
      Goal : Bool → Type 0
      Goal b = KeepsHonest (setup node) (at_of node) lasts address node.ring (if b then may_after_keep ok rec may else may) (go ok)

      kept : (b : Bool) → KeepsHonest (setup node) (at_of node) lasts address node.ring (tried ∷ []) (go true)
          → KeepsHonest (setup node) (at_of node) lasts address node.ring (tried ∷ may) (go false)
          → KeepsHonest (setup node) (at_of node) lasts address node.ring (may_after_keep b tried may) (go b)
      kept true p q = p
      kept false p q = q

      by_side : KeepsHonest (setup node) (at_of node) lasts address node.ring may (Does (Keep name tried) go) → Goal (bytes_eq ticket_name conf.name)
      by_side (inl x) = subst Goal (sym (other_bytes ticket_name conf.name (λ e. x.0 (sym named ∙ e)))) (x.1 ok)
      by_side (inr x) =
          subst Goal (sym (same_bytes ticket_name conf.name (named ∙ x.0)))
          (subst (λ (r : Record). KeepsHonest (setup node) (at_of node) lasts address node.ring (may_after_keep ok r may) (go ok)) (sym same) (kept ok x.1 x.2))

  makes : (stand : Stand) (call : Entry) (may : List Record) → IsHonestAt may stand → MayMake stand call
      → IsHonestAt (may_after conf.name may (Makes call)) (after_call stand call)
  makes Down call may h d = absurd d
  makes (Doing node (Ends old)) (calls.Next wait answer bytes) may h d = h
  makes (Doing node (Ends old)) call may h d = absurd d
  makes (Doing node (Does (Send peer message) go)) (calls.Send to bytes answer) may h d = (h.0, h.1.1 (is_ok answer))
  makes (Doing node (Does (Send peer message) go)) call may h d = absurd d
  makes (Doing node (Does (Keep name tried) go)) (calls.Keep ticket_name rec answer) may h d =
      keeps node name tried go ticket_name rec (is_ok answer) may h d.0 d.1
  makes (Doing node (Does (Keep name tried) go)) call may h d = absurd d
  makes (Doing node (Does (Start job) go)) (calls.Start number named handler local expires answer) may h d = (h.0, h.1.1 (is_ok answer))
  makes (Doing node (Does (Start job) go)) call may h d = absurd d
  makes (Hearing node old answer bytes) (calls.Now reading) may h d =
      (h.0, turn_honest (setup node) (at_of node) lasts address node (used old.last_reading reading) refl h.0.theirs old answer bytes may h.1)
  makes (Hearing node old answer bytes) call may h d = absurd d

  -- what a start owes: the ticket stands in the state that it leaves, with the records that may be kept then
  abbrev StartsSo : List Record → SessionEntry → Type 0
  StartsSo may (Starts node reading records) =
      IsItsNode node
      × IsPlaced (setup node) (at_of node) (may_after_start conf.name node.config.tickets records may) (opened node records reading).tickets
  StartsSo may what = Unit {0}

  one_entry : (stand : Stand) (what : SessionEntry) (may : List Record) → IsHonestAt may stand → MayDo stand what → StartsSo may what
      → IsHonestAt (may_after conf.name may what) (after_entry stand what)
  one_entry stand (Starts node reading records) may h d so = so
  one_entry stand (Makes call) may h d so = makes stand call may h d
  one_entry stand (IsCut call) may h d so = tt

  -- ---- what an entry tells

  abbrev teller_of : MemberId → Teller
  teller_of i = record { name = conf.name; me = i; address = address }

  abbrev teller : Teller
  teller = teller_of me

  sends : (node : NodeConfig) (peer : Peer) (message' : PlainMessage) (go : Bool → Deeds Ask State) (may : List Record) (claim : Claim)
      → IsHonestAt may (Doing node (Does (Send peer message') go)) → (sent : List ℕ) → sent ≡ sealed node.ring message' → Fits message'
      → (bytes : List ℕ) (message : PlainMessage) → sent ≡ bytes → decoded bytes ≡ Ok message
      → IsTold teller message claim → IsBacked may claim
  sends node peer message' go may claim h sent sealed_so fits bytes message is read tells =
      let same : message' ≡ message =
      same_message (decoded bytes) message' message
      (ap decoded (sym is ∙ sealed_so) ∙ sealed_read node.ring message' fits h.1.0.0) read in
      h.1.0.1 claim
      (subst (λ (m : PlainMessage). IsTold (teller_of node.me) m claim) (sym same)
      (subst (λ (i : MemberId). IsTold (teller_of i) message claim) (sym h.0.me_is) tells))

  send_backed : (stand : Stand) (what : SessionEntry) (may : List Record) (claim : Claim) → IsHonestAt may stand → MayDo stand what
      → (bytes : List ℕ) (message : PlainMessage) → IsSend what bytes → decoded bytes ≡ Ok message
      → IsTold teller message claim → IsBacked may claim
  send_backed (Doing node (Does (Send peer message') go)) (Makes (calls.Send to sent answer)) may claim h d bytes message is read tells =
      sends node peer message' go may claim h sent d.1 d.2 bytes message is read tells
  send_backed (Doing node (Does (Keep name tried) go)) (Makes (calls.Send to sent answer)) may claim h d bytes message is read tells = absurd d
  send_backed (Doing node (Does (Start job) go)) (Makes (calls.Send to sent answer)) may claim h d bytes message is read tells = absurd d
  send_backed (Doing node (Ends old)) (Makes (calls.Send to sent answer)) may claim h d bytes message is read tells = absurd d
  send_backed Down (Makes (calls.Send to sent answer)) may claim h d bytes message is read tells = absurd d
  send_backed (Hearing node old got into) (Makes (calls.Send to sent answer)) may claim h d bytes message is read tells = absurd d
  send_backed (Doing node (Does (Send peer message') go)) (IsCut (CutSend to sent)) may claim h d bytes message is read tells =
      sends node peer message' go may claim h sent d.1 d.2 bytes message is read tells
  send_backed (Doing node (Does (Keep name tried) go)) (IsCut (CutSend to sent)) may claim h d bytes message is read tells = absurd d
  send_backed (Doing node (Does (Start job) go)) (IsCut (CutSend to sent)) may claim h d bytes message is read tells = absurd d
  send_backed (Doing node (Ends old)) (IsCut (CutSend to sent)) may claim h d bytes message is read tells = absurd d
  send_backed Down (IsCut (CutSend to sent)) may claim h d bytes message is read tells = absurd d
  send_backed (Hearing node old got into) (IsCut (CutSend to sent)) may claim h d bytes message is read tells = absurd d
  send_backed stand what may claim h d bytes message is read tells = absurd is

  start_backed : (stand : Stand) (what : SessionEntry) (may : List Record) (claim : Claim) → IsHonestAt may stand → MayDo stand what
      → (job : Job) → IsStart what job → JobTells conf.name job claim → IsBacked may claim
  start_backed (Doing node (Does (Start asked) go)) (Makes (calls.Start number named handler local expires answer)) may claim h d job is tells =
      h.1.0 claim (subst (λ (j : Job). JobTells conf.name j claim) (sym is ∙ d.0) tells)
  start_backed (Doing node (Does (Send peer message) go)) (Makes (calls.Start number named handler local expires answer)) may claim h d job is tells = absurd d
  start_backed (Doing node (Does (Keep name tried) go)) (Makes (calls.Start number named handler local expires answer)) may claim h d job is tells = absurd d
  start_backed (Doing node (Ends old)) (Makes (calls.Start number named handler local expires answer)) may claim h d job is tells = absurd d
  start_backed Down (Makes (calls.Start number named handler local expires answer)) may claim h d job is tells = absurd d
  start_backed (Hearing node old got into) (Makes (calls.Start number named handler local expires answer)) may claim h d job is tells = absurd d
  start_backed (Doing node (Does (Start asked) go)) (IsCut (CutStart started)) may claim h d job is tells =
      h.1.0 claim (subst (λ (j : Job). JobTells conf.name j claim) (sym is ∙ d) tells)
  start_backed (Doing node (Does (Send peer message) go)) (IsCut (CutStart started)) may claim h d job is tells = absurd d
  start_backed (Doing node (Does (Keep name tried) go)) (IsCut (CutStart started)) may claim h d job is tells = absurd d
  start_backed (Doing node (Ends old)) (IsCut (CutStart started)) may claim h d job is tells = absurd d
  start_backed Down (IsCut (CutStart started)) may claim h d job is tells = absurd d
  start_backed (Hearing node old got into) (IsCut (CutStart started)) may claim h d job is tells = absurd d
  start_backed stand what may claim h d job is tells = absurd is

-- ---- a world

module _ (w : World) (is_world : IsUntimedWorld w) (ticket : TicketConf) (one : IsOneTicket w ticket) (automatic : ticket.manual ≡ false) (m : ℕ)
    (below : m < members_of w) where
  pub lasts : 0 < ticket.times.expire
  lasts = let e = (setup_sound w is_world.form ticket one m below (opening_session false)).renewal in omega (arith, e)

  abbrev pub may_of : List WorldEntry → List Record
  may_of before = may_after_all ticket.name (begins_with w m ticket.name ∷ []) (entries_of m before)

  abbrev pub IsHonestAfter : List WorldEntry → Type 0
  IsHonestAfter before = IsHonestAt ticket (id_at w m) (address_at w m) lasts (may_of before) (stand_after m before)

  abbrev pub found : NodeConfig → Option ℕ
  found node = at_of ticket (id_at w m) (address_at w m) lasts node

  abbrev pub setup_now : NodeConfig → Setup
  setup_now node = setup ticket (id_at w m) (address_at w m) lasts node

  abbrev steady_of : NodeConfig → Option ℕ → Bool
  steady_of node at = steady_at ticket (id_at w m) (address_at w m) lasts node.config.tickets at

  -- the setup of the ticket is by its name, its times, and whether it follows the steady rules
  setup_same : (node : NodeConfig) (place : ℕ) (own : TicketConf) → slice_get node.config.tickets place ≡ Some own
      → own.name ≡ ticket.name → own.times ≡ ticket.times → found node ≡ Some place → setup_of node place own ≡ setup_now node
  setup_same node place own there named timed at =
      let by : List ℕ → Times → Bool → Setup = λ name times steady.
      setup_by name times node.config.members node.me (own_place node) (rank_at node place) node.second steady in
      ap (λ (name : List ℕ). by name own.times own.steady) named
      ∙ ap (λ (times : Times). by ticket.name times own.steady) timed
      ∙ ap (λ (o : Option TicketConf). by ticket.name ticket.times (option_map_or (λ (x : TicketConf). x.steady) o false)) (sym there)
      ∙ ap (λ (o : Option ℕ). record (setup_of node (unwrap_or o 0) ticket) { steady = steady_of node o }) (sym at)

  opened_so : (node : NodeConfig) → IsNodeOf w m node → (reading : ℕ) (records : List (Option Record)) → length records ≡ length node.config.tickets
      → StartsWithIt ticket (Starts node reading records) → (may : List Record)
      → IsPlaced (setup_now node) (found node) (may_after_start ticket.name node.config.tickets records may) (opened node records reading).tickets
  opened_so node is reading records all agree may = record {
    own = λ place at.
        let there = found_there node.config place ticket.name at in
        let named : there.0.name ≡ ticket.name = found_named node.config place there.0 there.1 ticket.name at in
        let agrees = agree place there.0 there.1 named in
        let rec : Record = record_at records place in
        record {
          known = known_at_start there.0.manual (setup_now node) rec now;
          own = started_at node now 0 place node.config.tickets records there.0 all there.1
              ∙ ap (λ (n : ℕ). Some (opened_by there.0 (setup_of node n there.0) rec now)) (omega arith)
              ∙ ap (λ (s : Setup). Some (opened_by there.0 s rec now)) (setup_same node place there.0 there.1 named agrees.1 at);
          honest = subst (λ (rs : List Record). IsHonest (setup_now node) rs (known_at_start there.0.manual (setup_now node) rec now))
              (sym (ap (λ (o : Option ℕ). option_map_or (λ (n : ℕ). record_at records n ∷ []) o may) at))
              (subst (λ (b : Bool). IsHonest (setup_now node) (rec ∷ []) (known_at_start b (setup_now node) rec now))
              (sym (agrees.0 ∙ automatic))
              (rec, inl refl, started_calm (setup_now node) rec (rec ∷ [] ≡ rec ∷ []) refl now));
        };
    others = λ other t read ne named.
        let q : (conf : TicketConf) × (slice_get node.config.tickets other ≡ Some conf) × (t.setup.ticket ≡ conf.name) =
        started_is node now 0 other node.config.tickets records t read in
        ne (found_at node.config is.sound other q.0 q.1 ticket.name (sym q.2 ∙ named));
    named = λ other t read.
        let q : (conf : TicketConf) × (slice_get node.config.tickets other ≡ Some conf) × (t.setup.ticket ≡ conf.name) =
        started_is node now 0 other node.config.tickets records t read in
        subst (λ (name : List ℕ). HasNone 10 name × HasNone 32 name) (sym q.2) (names_free node.config is.sound other q.0 q.1);
    clear = (names_free one.config one.sound one.place ticket one.said).1;
  }
    where
      now : ℕ
      now = start_reading reading

  -- each node of a start is this member's
  its_node : (node : NodeConfig) → IsNodeOf w m node → IsItsNode ticket (id_at w m) (address_at w m) lasts node
  its_node node is = record {
    sound = is.sound;
    me_is = is.me;
    theirs = subst (λ (id : MemberId). AreTheirs node.config id (address_at w m)) (sym is.me) (theirs_of w node.config is.sound is.members m below);
  }

  starts_so : (before after : List WorldEntry) (e : WorldEntry) → w.entries ≡ before ++ e ∷ after → e.member ≡ m
      → MayDo (stand_after m before) e.what → StartsSo ticket (id_at w m) (address_at w m) lasts (may_of before) e.what
  starts_so before after e whole is may_do =
      by_what e.what (is_world.same_members before after e whole) (one.same before after e whole) may_do
    where
      by_what : (what : SessionEntry) → HasConfiguration w e what → StartsWithIt ticket what → MayDo (stand_after m before) what
          → StartsSo ticket (id_at w m) (address_at w m) lasts (may_of before) what
      by_what (Starts node reading records) config agree many =
          let own : IsNodeOf w m node = subst (λ (n : ℕ). IsNodeOf w n node) is config in
          (its_node node own, opened_so node own reading records many agree (may_of before))
      by_what (Makes call) config agree many = tt
      by_what (IsCut call) config agree many = tt

  pub may_do_at : (before after : List WorldEntry) (e : WorldEntry) → w.entries ≡ before ++ e ∷ after → e.member ≡ m
      → MayDo (stand_after m before) e.what
  may_do_at before after e whole is =
      sessions_at Down (entries_of m before) (entries_of m after) e.what
      (subst (λ (xs : List SessionEntry). AreSessions Down xs)
      (ap (λ (es : List WorldEntry). entries_of m es) whole ∙ entries_join m before (e ∷ after)
      ∙ ap (λ (xs : List SessionEntry). entries_of m before ++ xs) (entry_own m e after is))
      (is_world.one_daemon m below))

  -- what each of the member's entries keeps true is true after all of them
  module _ (Q : List Record → Stand → Type 0)
      (keeps : (before after : List WorldEntry) (e : WorldEntry) → w.entries ≡ before ++ e ∷ after → e.member ≡ m
      → MayDo (stand_after m before) e.what → Q (may_of before) (stand_after m before)
      → Q (may_after ticket.name (may_of before) e.what) (after_entry (stand_after m before) e.what)) where
    abbrev IsSoAfter : List WorldEntry → Type 0
    IsSoAfter before = Q (may_of before) (stand_after m before)

    one_step : (before after : List WorldEntry) (e : WorldEntry) → w.entries ≡ before ++ e ∷ after → IsSoAfter before
        → IsSoAfter (before ++ e ∷ [])
    one_step before after e whole h = by_member (same_or_not e.member m)
      where
        by_member : (e.member ≡ m) ⊎ (e.member ≢ m) → IsSoAfter (before ++ e ∷ [])
        by_member (inr ne) =
            let same : entries_of m (before ++ e ∷ []) ≡ entries_of m before =
            entries_join m before (e ∷ []) ∙ ap (λ (xs : List SessionEntry). entries_of m before ++ xs) (entry_other m e [] ne)
            ∙ append_none (entries_of m before) in
            subst (λ (xs : List SessionEntry). Q (may_after_all ticket.name (begins_with w m ticket.name ∷ []) xs) (after_entries Down xs)) (sym same) h
        by_member (inl is) =
            let all : entries_of m (before ++ e ∷ []) ≡ entries_of m before ++ e.what ∷ [] =
            entries_join m before (e ∷ []) ∙ ap (λ (xs : List SessionEntry). entries_of m before ++ xs) (entry_own m e [] is) in
            let r = keeps before after e whole is (may_do_at before after e whole is) h in
            subst (λ (s : Stand). Q (may_of (before ++ e ∷ [])) s) (sym (stand_own m before e is))
            (subst (λ (rs : List Record). Q rs (after_entry (stand_after m before) e.what))
            (sym (ap (λ (xs : List SessionEntry). may_after_all ticket.name (begins_with w m ticket.name ∷ []) xs) all
            ∙ may_join ticket.name (begins_with w m ticket.name ∷ []) (entries_of m before) (e.what ∷ []))) r)

    steps : (between before after : List WorldEntry) → w.entries ≡ before ++ (between ++ after) → IsSoAfter before
        → IsSoAfter (before ++ between)
    steps [] before after whole h = subst (λ (es : List WorldEntry). IsSoAfter es) (sym (append_none before)) h
    steps (e ∷ between) before after whole h =
        subst (λ (es : List WorldEntry). IsSoAfter es) (append_both before (e ∷ []) between)
        (steps between (before ++ e ∷ []) after (whole ∙ sym (append_both before (e ∷ []) (between ++ after)))
        (one_step before (between ++ after) e whole h))

    pub along : (before after : List WorldEntry) → w.entries ≡ before ++ after → Q (begins_with w m ticket.name ∷ []) Down
        → Q (may_of before) (stand_after m before)
    along before after whole first = steps before [] after whole first

  -- all that the member tells after these entries is borne out
  pub honest_after : (before after : List WorldEntry) → w.entries ≡ before ++ after → IsHonestAfter before
  honest_after before after whole =
      along (λ (may : List Record) (stand : Stand). IsHonestAt ticket (id_at w m) (address_at w m) lasts may stand)
      (λ earlier later e is own may_do h.
      one_entry ticket (id_at w m) (address_at w m) lasts (stand_after m earlier) e.what (may_of earlier) h may_do
      (starts_so earlier later e is own may_do))
      before after whole tt

  -- the records that may have been kept are still among them with that of the next entry
  pub some_after : (k : Record) (may : List Record) (xs : List SessionEntry) → Has may k → Has (with_next ticket.name may xs) k
  some_after k may [] h = h
  some_after k may (Makes (calls.Keep name rec answer) ∷ xs) h = by_name (bytes_eq name ticket.name)
    where
      by_name : (b : Bool) → Has (if b then rec ∷ may else may) k
      by_name true = inr h
      by_name false = h
  some_after k may (IsCut (CutKeep name rec) ∷ xs) h = by_name (bytes_eq name ticket.name)
    where
      by_name : (b : Bool) → Has (if b then rec ∷ may else may) k
      by_name true = inr h
      by_name false = h
  some_after k may (x ∷ xs) h = h

  -- a send keeps nothing
  sends_only : (what : SessionEntry) (bytes : List ℕ) (may : List Record) (xs : List SessionEntry) → IsSend what bytes
      → with_next ticket.name may (what ∷ xs) ≡ may
  sends_only (Makes (calls.Send to sent answer)) bytes may xs is = refl
  sends_only (IsCut (CutSend to sent)) bytes may xs is = refl
  sends_only what bytes may xs is = absurd is

  -- what is kept for a claim is so with the entry that tells it
  still_kept : (moment : Moment w) (entry : WorldEntry) → IsNext moment entry → entry.member ≡ m → (claim : Claim)
      → SendTells ticket.name (id_at w m) (address_at w m) entry.what claim ⊎ StartTells ticket.name entry.what claim
      → (k : Record) → IsKeptFor (may_of moment.before) k claim → IsKeptFor (may_at w ticket m moment) k claim
  still_kept moment entry next is (IsGranted head) (inl sends) k kept =
      ap (λ (es : List WorldEntry). with_next ticket.name (may_of moment.before) (entries_of m es)) next.1
      ∙ ap (λ (xs : List SessionEntry). with_next ticket.name (may_of moment.before) xs) (entry_own m entry next.0 is)
      ∙ sends_only entry.what sends.0 (may_of moment.before) (entries_of m next.0) sends.2 ∙ kept
  still_kept moment entry next is (IsGranted head) (inr starts) k kept = absurd starts.2
  still_kept moment entry next is (HasLeft head seconds) tells k kept = some_after k (may_of moment.before) (entries_of m moment.after) kept
  still_kept moment entry next is (EndsIn second) tells k kept = some_after k (may_of moment.before) (entries_of m moment.after) kept
  still_kept moment entry next is (IsListed digits) tells k kept = some_after k (may_of moment.before) (entries_of m moment.after) kept

  pub tells_truly : (moment : Moment w) (entry : WorldEntry) → IsNext moment entry → entry.member ≡ m → (claim : Claim)
      → SendTells ticket.name (id_at w m) (address_at w m) entry.what claim ⊎ StartTells ticket.name entry.what claim
      → IsBacked (may_at w ticket m moment) claim
  tells_truly moment entry next is claim tells =
      (backed.0, still_kept moment entry next is claim tells backed.0 backed.1, backed.2)
    where
      whole : w.entries ≡ moment.before ++ entry ∷ next.0
      whole = moment.whole ∙ ap (λ (es : List WorldEntry). moment.before ++ es) next.1

      honest : IsHonestAfter moment.before
      honest = honest_after moment.before moment.after moment.whole

      may_do : MayDo (stand_after m moment.before) entry.what
      may_do = may_do_at moment.before next.0 entry whole is

      backed : IsBacked (may_of moment.before) claim
      backed =
          ⊎_elim
          (λ (t : SendTells ticket.name (id_at w m) (address_at w m) entry.what claim).
          send_backed ticket (id_at w m) (address_at w m) lasts (stand_after m moment.before) entry.what (may_of moment.before) claim honest may_do t.0 t.1 t.2 t.3 t.4)
          (λ (t : StartTells ticket.name entry.what claim).
          start_backed ticket (id_at w m) (address_at w m) lasts (stand_after m moment.before) entry.what (may_of moment.before) claim honest may_do t.0 t.1 t.2)
          tells

  -- where it rests, it stands as an automatic ticket
  pub stands_by_votes : (moment : Moment w) → RestsInKind ticket (stand_after m moment.before)
  stands_by_votes moment = by_stand (stand_after m moment.before) (honest_after moment.before moment.after moment.whole)
    where
      by_known : (s : Setup) (may : List Record) (known : Known) → IsHonest s may known → IsOfKind false known
      by_known s may (Automatic view) h = tt
      by_known s may (Manual known) h = absurd h

      placed : (node : NodeConfig) (may : List Record) (state : State) → IsSoundConfig node.config
          → IsPlaced (setup_now node) (found node) may state.tickets → StandsInKind ticket node state
      placed node may state sound at = λ place own there named.
          let here : IsOwn (setup_now node) (found node) place may state.tickets =
          at.own place (found_at node.config sound place own there ticket.name named) in (
            record { setup = setup_now node; known = here.known },
            here.own,
            subst (λ (b : Bool). IsOfKind b here.known) (sym automatic) (by_known (setup_now node) may here.known here.honest),
          )

      by_stand : (stand : Stand) → IsHonestAt ticket (id_at w m) (address_at w m) lasts (may_of moment.before) stand → RestsInKind ticket stand
      by_stand Down h = tt
      by_stand (Doing node (Ends state)) h = placed node (may_of moment.before) state h.0.sound h.1
      by_stand (Doing node (Does ask go)) h = tt
      by_stand (Hearing node old answer bytes) h = placed node (may_of moment.before) old h.0.sound h.1

-- ---- the laws

-- a member of the world's entries is one of its members
entry_below : (w : World) → IsUntimedWorld w → (moment : Moment w) (entry : WorldEntry) → IsNext moment entry → entry.member < members_of w
entry_below w is_world moment entry next =
    is_world.form.members moment.before next.0 entry (moment.whole ∙ ap (λ (es : List WorldEntry). moment.before ++ es) next.1)

-- what a member tells is borne out by a record that is kept for it
backed_at : (w : World) → IsUntimedWorld w → (ticket : TicketConf) → IsAutomatic w ticket → (moment : Moment w) (entry : WorldEntry) → IsNext moment entry
    → (claim : Claim) → Tells w ticket entry claim → IsBacked (may_at w ticket entry.member moment) claim
backed_at w is_world ticket automatic moment entry next claim tells =
    tells_truly w is_world ticket automatic.0 automatic.1 entry.member
    (entry_below w is_world moment entry next) moment entry next refl claim tells

pub who_tells_has_kept : WhoTellsHasKept
who_tells_has_kept w is_world ticket automatic moment entry next claim tells =
    let q = backed_at w is_world ticket automatic moment entry next claim tells in
    (q.0, any_kept (may_at w ticket entry.member moment) q.0 claim q.1, q.2)

pub grants_are_kept : GrantsAreKept
grants_are_kept w is_world ticket automatic moment entry next head tells =
    backed_at w is_world ticket automatic moment entry next (IsGranted head) tells

-- a lease that bears a live claim out is in force
in_force : (clock : ℕ) (claim : Claim) (k : Record) → ((until : ℕ) → BearsOut claim until → clock < until)
    → IsSomeAnd k.lease (λ lease. BearsOut claim lease.until) → IsInForce k clock
in_force clock claim k live some = by_lease k.lease some
  where
    by_lease : (o : Option Lease) → IsSomeAnd o (λ lease. BearsOut claim lease.until) → IsSomeAnd o (λ lease. clock < lease.until)
    by_lease None h = absurd h
    by_lease (Some lease) h = live lease.until h

held_by : (w : World) (is_world : IsUntimedWorld w) (ticket : TicketConf) (automatic : IsAutomatic w ticket)
    (moment : Moment w) (entry : WorldEntry) (next : IsNext moment entry) (claim : Claim) (tells : Tells w ticket entry claim)
    → IsLive w entry.member moment claim
    → HoldsBy w ticket entry.member moment (who_tells_has_kept w is_world ticket automatic moment entry next claim tells).0
held_by w is_world ticket automatic moment entry next claim tells live =
    let q = who_tells_has_kept w is_world ticket automatic moment entry next claim tells in
    (entry_below w is_world moment entry next, q.1, in_force (clock_at w entry.member moment.time) claim q.0 live q.2)

pub who_tells_holds : WhoTellsHolds
who_tells_holds w is_world ticket automatic moment entry next claim tells live =
    let holds : Holds w ticket entry.member moment = (
      (who_tells_has_kept w (untimed w is_world) ticket automatic moment entry next claim tells).0,
      held_by w (untimed w is_world) ticket automatic moment entry next claim tells live,
    ) in
    (holds, λ other by_other. worlds_hold_one w is_world ticket automatic moment entry.member other holds by_other)

pub tellers_are_apart : TellersAreApart
tellers_are_apart w is_world ticket automatic early late between later first second at_first at_second ne claim other tells tells_too live live_too =
    let q = who_tells_has_kept w (untimed w is_world) ticket automatic early first at_first claim tells in
    let holds : HoldsBy w ticket first.member early q.0 =
    held_by w (untimed w is_world) ticket automatic early first at_first claim tells live in
    let holds_too : Holds w ticket second.member late = (
      (who_tells_has_kept w (untimed w is_world) ticket automatic late second at_second other tells_too).0,
      held_by w (untimed w is_world) ticket automatic late second at_second other tells_too live_too,
    ) in
    ⊎_elim
    (λ (apart : IsApartFrom (cluster_of w ticket) ticket.times.after first.member q.0 early.time late.time).
    inl (apart early.time (omega arith) later.not_before holds.2))
    (λ (given : ReleasedIn w ticket first.member q.0 early.before between). inr (q.0, holds, q.2, given))
    (worlds_are_apart w is_world ticket automatic early late between later first.member second.member ne q.0 holds holds_too)

-- ---- when a claim is over

-- the reading that a message bears
borne_at : (head : Head) (reading : ℕ) → head.secs < 4294967295 → IsSentAt head reading → reading ≡ 1000 * head.secs + head.usecs / 1000
borne_at head reading small is =
    let seconds : head.secs ≡ min (reading / 1000) 4294967295 = is.0 in
    let rest : head.usecs ≡ reading % 1000 * 1000 = is.1 in
    omega (arith, seconds, rest, small)

pub claims_last : ClaimsLast
claims_last = record {
  ends_in = λ w m moment second early until bears. omega (arith, early, bears);
  has_left = λ w m moment head seconds small early until bears.
      let is = borne_at head bears.0 small bears.1 in
      let later = bears.2 in
      let left : seconds ≡ min ((until - bears.0 + 999) / 1000) 4294967295 = bears.3 in
      omega (arith, is, later, left, early);
  granted = λ w m moment head small early until bears.
      let is = borne_at head bears.0 small bears.1 in
      let later = bears.2 in
      omega (arith, is, later, early);
}
