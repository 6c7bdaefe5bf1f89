-- The shadow of a world: its entries as those of the hosts of a ticket, those as entries of the cores,
-- and those as steps.
use Rattle.std.proofs.Common.{◌≡◌, ◌⊎◌, inl, inr, ⊎_elim, ℕ, ◌<◌, Bool, List, [], refl, sym, ap, ◌∙◌, subst}
use Rattle.std.specs.Prelude.{◌≢◌, Option, Some, None, slice_get, position}
use Rattle.booth_base.specs.Tree.{Ends, Does}
use Rattle.booth_base.specs.declared.address.MemberId.{MemberId}
use Rattle.booth_chain.proofs.NodesLemmas.{same_or_not}
use Rattle.booth_conf.specs.Config.{ConfigSays}
use Rattle.booth_conf.specs.Lookups.{is_called}
use Rattle.booth_conf.specs.Sound.{IsSound as IsSoundConfig}
use Rattle.booth_conf.specs.declared.tickets.TicketConf.{TicketConf}
use Rattle.booth_rec.specs.declared.record.Record.{Record}
use Rattle.booth_wire.specs.declared.command.Cmd.{Cmd}
use Rattle.booth_wire.specs.declared.command.Cmd.TheVariants as cmds
use Rattle.booth_wire.specs.declared.message.Head.{Head}
use Rattle.booth_wire.specs.declared.message.TicketPart.{TicketPart}
use Rattle.booth_wire.specs.PlainMessage.{PlainMessage}
use Rattle.booth_auth.specs.Sealed.{stamped_head}
use Rattle.booth_raft.specs.declared.view.View.{View}
use Rattle.booth_ticket.specs.Ticket.{Automatic}
use Rattle.booth_node.specs.Held.{Moment, may_at}
use Rattle.booth_node.specs.Records.{Has as Holds}
use Rattle.booth_wire.specs.declared.message.Setup.{Setup}
use Rattle.booth_node.specs.declared.node_config.NodeConfig.{NodeConfig}
use Rattle.booth_node.specs.Opening.{setup_of}
use Rattle.booth_node.specs.Session.{Stand, Down, Doing, Hearing}
use Rattle.booth_node.specs.State.{State}
use Rattle.booth_node.specs.World.{WorldEntry, World, members_of, id_at, entries_of, clock_at, stand_after, IsUntimedWorld}
use Rattle.booth_world.specs.Facts.{Has, Release, Facts}
use Rattle.booth_world.specs.Messages.{IsFact}
use Rattle.booth_world.specs.States.{WorldState, opening}
use Rattle.booth_world.specs.Steps.{WorldStep, IsRun, world_of}
use Rattle.booth_world.specs.Cores.{Session, Cores, opening_cores, cores_after}
use Rattle.booth_world.specs.Turns.{Keeps, TurnTree}
use Rattle.booth_world.specs.Hosts.{Hosts, opening_hosts, pending}
use Rattle.booth_world.specs.Shadows.{IsComing, LastStand, RestsIn, TakesReading, IsReadIn, IsSentIn, last_after_all, records_of, HasShadow, Knows, WorldsHaveShadows}
use Rattle.booth_world.proofs.CoreSteps.{CoresHold, opens}
use Rattle.booth_world.proofs.CoreReads.{AreRead, opening_read, all_read, ReadsIn}
use Rattle.booth_world.proofs.CoreRuns.{runs_of, held, all_released}
use Rattle.booth_world.proofs.HostSteps.{HostsHold, follow_all, opens_hosts, host_held}
use Rattle.booth_world.proofs.WorldSteps.{Frees, Reads, Setting, Seats, same_bytes, cluster, setup_at, cast}
use Rattle.booth_world.proofs.NodeTurns.{IsPlacedAt}
use Rattle.booth_world.proofs.Configured.{names_apart, no_position, going_on, setting_of}
use Rattle.booth_world.proofs.Lists.{some_same}
use Rattle.booth_world.proofs.WorldEntries.{has_clocks}
use Rattle.booth_world.proofs.WorldPhases.{has_phases}
use Rattle.booth_world.proofs.WorldHosts.{has_here, no_stand, after_hosts, may_of, IsAt, Shadows}
use Rattle.booth_world.proofs.WorldRuns.{some_one, IsLeftIn, reached, begins_free, is_cast, covers, holds_so, holds_back, still_next}

-- a stamp changes nothing of what a message says
same_fact : (id_of : ℕ → MemberId) (f : Facts) (m : ℕ) (auth : Bool) (time : ℕ) (head : Head) (part : TicketPart) (cmd : Cmd)
    → IsFact id_of f m head part cmd → IsFact id_of f m (stamped_head auth time head) part cmd
same_fact id_of f m auth time head part cmds.RVot fact = fact
same_fact id_of f m auth time head part cmds.HrtB fact = fact
same_fact id_of f m auth time head part cmds.VtFr fact = fact
same_fact id_of f m auth time head part cmds.Ack fact = fact
same_fact id_of f m auth time head part cmds.Revk fact = fact
same_fact id_of f m auth time head part cmd fact = fact

-- a sound configuration has a name at one place
one_place : (config : ConfigSays) → IsSoundConfig config → (i j : ℕ) (a b : TicketConf) → slice_get config.tickets i ≡ Some a
    → slice_get config.tickets j ≡ Some b → a.name ≡ b.name → i ≡ j
one_place config sound i j a b is js same = by_place (same_or_not i j)
  where
    by_place : (i ≡ j) ⊎ (i ≢ j) → i ≡ j
    by_place (inl e) = e
    by_place (inr ne) = absurd (names_apart config sound i j a b is js (λ e. ne (sym e)) (sym same))

module _ (w : World) (is_world : IsUntimedWorld w) (ticket : TicketConf) (setting : Setting w ticket) (moment : Moment w) (hosts : Hosts)
    (shadow : Shadows w is_world ticket setting moment.before hosts) where
  -- what may be kept at a member's host may be kept by the entries, or comes next
  pub no_more_at : (m : ℕ) → m < members_of w → (k : Record) → Has (pending (hosts.place m).tree (hosts.place m).may) k
      → Holds (may_at w ticket m moment) k ⊎ IsComing ticket.name (entries_of m moment.before) k
  no_more_at m below k h = by_tree (hosts.place m).tree refl h
    where
      of_may : Has (hosts.place m).may k → Holds (may_at w ticket m moment) k
      of_may g =
          still_next w is_world ticket setting (may_of w is_world ticket setting m moment.before) (entries_of m moment.after) k
          (holds_back w is_world ticket setting (may_of w is_world ticket setting m moment.before) k
          (subst (λ (rs : List Record). Has rs k) (shadow.each m below).same_may g))

      by_tree : (o : Option TurnTree) → (hosts.place m).tree ≡ o → Has (pending o (hosts.place m).may) k
          → Holds (may_at w ticket m moment) k ⊎ IsComing ticket.name (entries_of m moment.before) k
      by_tree None is g = inl (of_may g)
      by_tree (Some (Ends view)) is g = inl (of_may g)
      by_tree (Some (Does (Keeps kept) go)) is (inl e) =
          inr (subst (λ (r : Record). IsComing ticket.name (entries_of m moment.before) r) e (shadow.coming m below kept go is))
      by_tree (Some (Does (Keeps kept) go)) is (inr g) = inl (of_may g)
      by_tree (Some (Does ask go)) is g = inl (of_may g)

  -- where a node rests its host is at its end, and there the core's view is that of the steps' member
  pub knows_at : (cores : Cores) (state : WorldState)
      → HostsHold (cluster w ticket setting) (cast w ticket setting) hosts cores
      → CoresHold (cluster w ticket setting) (cast w ticket setting) cores state
      → (m : ℕ) → m < members_of w → (node : NodeConfig) (resting : State) → RestsIn (stand_after m moment.before) node resting
      → (place : ℕ) (own : TicketConf) → slice_get node.config.tickets place ≡ Some own → own.name ≡ ticket.name
      → Knows w setting.goes_on ticket m node place own resting state
  knows_at cores state hold core_hold m below node resting rests place own there named =
      by_stand (stand_after m moment.before) (shadow.each m below).at rests
    where
      session : Session
      session = (hosts.place m).session

      last : LastStand
      last = last_after_all ticket.name no_stand (entries_of m moment.before)

      -- the steps' member is in the host's version
      version : (state.member m).second ≡ session.second
      version = (core_hold.each m below).same_second ∙ ap (λ (s : Session). s.second) (hold.each m below).in_version

      by_view : (n : NodeConfig) (left : State) → slice_get n.config.tickets place ≡ Some own → (seats : Seats w ticket setting m session n)
          → (view : View) → (hosts.place m).tree ≡ Some (Ends view)
          → IsPlacedAt (setup_at w ticket setting m session) seats.place view left.tickets → left.last_reading ≡ (hosts.place m).reading
          → Knows w setting.goes_on ticket m n place own left state
      by_view n left at_place seats view is at reading =
          let idle = ((hold.each m below).stands_at (Ends view) is).0 in
          let one : seats.place ≡ place =
          one_place n.config seats.own.sound seats.place place seats.conf own seats.there at_place (seats.named ∙ sym named) in
          let same : seats.conf ≡ own =
          some_same seats.conf own (sym seats.there ∙ ap (λ (k : ℕ). slice_get n.config.tickets k) one ∙ at_place) in
          let here : setup_of n place own ≡ setup_at w ticket setting m session =
          ap (λ (k : ℕ). setup_of n k own) (sym one) ∙ ap (λ (t : TicketConf). setup_of n seats.place t) (sym same) ∙ seats.same in
          record {
            view = view;
            known = subst (λ (s : Setup). slice_get left.tickets place ≡ Some (record { setup = s; known = Automatic view })) (sym here)
                (subst (λ (k : ℕ). slice_get left.tickets k ≡ Some (record { setup = setup_at w ticket setting m session; known = Automatic view }))
                one at.own);
            version = ap (λ (s : Setup). s.second) here ∙ sym version;
            none_waits = idle.at_rest;
            reading = reading ∙ sym idle.at_reading ∙ sym (core_hold.each m below).same_reading;
            agrees = (core_hold.each m below).agrees view idle.shows;
          }

      moved : (n : NodeConfig) (left : State) → (n ≡ node) × (left ≡ resting)
          → (slice_get n.config.tickets place ≡ Some own → Knows w setting.goes_on ticket m n place own left state) → Knows w setting.goes_on ticket m node place own resting state
      moved n left same k =
          subst (λ (s : State). Knows w setting.goes_on ticket m node place own s state) same.1
          (subst (λ (c : NodeConfig). Knows w setting.goes_on ticket m c place own left state) same.0
          (k (subst (λ (c : NodeConfig). slice_get c.config.tickets place ≡ Some own) (sym same.0) there)))

      -- a session without the ticket has no such place
      no_place : (n : NodeConfig) → slice_get n.config.tickets place ≡ Some own → position (is_called ticket.name) n.config.tickets ≡ None → ⊥
      no_place n at_place none =
          no_position (is_called ticket.name) n.config.tickets place own none at_place (same_bytes ticket.name own.name (sym named))

      by_stand : (stand : Stand) → IsAt w is_world ticket setting m stand last (hosts.place m) hosts.sent
          → RestsIn stand node resting → Knows w setting.goes_on ticket m node place own resting state
      by_stand (Doing n (Ends left)) (inl x) r =
          moved n left r (λ at_place. by_view n left at_place x.0.0 x.0.5.view
          (x.0.3 ∙ ap (λ (t : TurnTree). Some t) x.0.5.ended) x.0.5.at x.0.5.moment_is)
      by_stand (Doing n (Ends left)) (inr x) r = moved n left r (λ at_place. absurd (no_place n at_place x.0.2))
      by_stand (Doing n (Does ask go)) x r = absurd r
      by_stand (Hearing n old answer bytes) (inl x) r =
          moved n old r (λ at_place. by_view n old at_place x.0.0 x.0.1 x.0.2 x.0.3 x.0.4)
      by_stand (Hearing n old answer bytes) (inr x) r = moved n old r (λ at_place. absurd (no_place n at_place x.0.2))
      by_stand Down x r = absurd r

  -- a message that was sent says a fact, where the steps' world has what the hosts have sent
  pub said_at : (cores : Cores) (state : WorldState)
      → HostsHold (cluster w ticket setting) (cast w ticket setting) hosts cores
      → CoresHold (cluster w ticket setting) (cast w ticket setting) cores state
      → (m : ℕ) (message : PlainMessage) (part : TicketPart) → IsSentIn ticket.name moment.before m message part
      → IsFact (id_at w) state.facts m message.head part message.head.cmd
  said_at cores state hold core_hold m message part is =
      let q = shadow.said is.entry is.one is.bytes is.sent message is.read part is.members is.about is.named in
      let fact = core_hold.heard_now _ (hold.said _ q.4) in
      subst (λ (n : ℕ). IsFact (id_at w) state.facts n message.head part message.head.cmd) is.own
      (subst (λ (h : Head). IsFact (id_at w) state.facts is.entry.member h part h.cmd) (sym q.3)
      (same_fact (id_at w) state.facts is.entry.member q.1 q.2 q.0 part q.0.cmd fact.1))

-- a reading of the hosts is one of these entries
pub read_in : (w : World) (is_world : IsUntimedWorld w) (ticket : TicketConf) (setting : Setting w ticket) (before : List WorldEntry)
    (m reading time k t : ℕ) → m ≡ k → time ≡ t → reading ≡ clock_at w k t → IsLeftIn w is_world ticket setting [] before (Reads k t)
    → IsReadIn before m reading time
read_in w is_world ticket setting before m reading time k t same_m same_t is at =
    let left = some_one [] before _ (λ entry. (k ≡ entry.member) × (t ≡ entry.time) × TakesReading entry.what (clock_at w entry.member entry.time))
    (λ earlier entry read. read) at in record {
      entry = left.0;
      one = left.1;
      own = sym left.2.0 ∙ sym same_m;
      at = sym left.2.1 ∙ sym same_t;
      taken = subst (λ (n : ℕ). TakesReading left.0.what n)
          (ap (λ (j : ℕ). clock_at w j left.0.time) (sym left.2.0) ∙ ap (λ (n : ℕ). clock_at w k n) (sym left.2.1) ∙ sym is) left.2.2;
    }

-- The shadow of a moment, by hosts, cores and steps that stand as its entries leave them. Each release of the cores is
-- an entry's, and so is each reading that a mark is of.
abbrev pub shadow_by : (w : World) (is_world : IsUntimedWorld w) (ticket : TicketConf) (setting : Setting w ticket) (moment : Moment w)
    (hosts : Hosts) (cores : Cores) (steps : List WorldStep) (P : ℕ → ℕ → Type 0)
    → hosts.now ≡ moment.time → Shadows w is_world ticket setting moment.before hosts
    → HostsHold (cluster w ticket setting) (cast w ticket setting) hosts cores
    → IsRun (cluster w ticket setting) (opening (cluster w ticket setting)) steps
    → CoresHold (cluster w ticket setting) (cast w ticket setting) cores (world_of (cluster w ticket setting) steps)
    → ((z : Release) → Has cores.releases z → IsLeftIn w is_world ticket setting [] moment.before (Frees z))
    → AreRead (cluster w ticket setting) (cast w ticket setting) P cores
    → ((k t : ℕ) → P k t → IsLeftIn w is_world ticket setting [] moment.before (Reads k t))
    → HasShadow w setting.goes_on ticket moment
shadow_by w is_world ticket setting moment hosts cores steps P now_is shadow hold run holds released are read = record {
  steps = steps;
  run = run;
  now = holds.same_now ∙ hold.same_now ∙ now_is;
  versions = λ m below.
      (holds.each m below).same_second ∙ ap (λ (s : Session). s.second) (hold.each m below).in_version ∙ (shadow.each m below).version;
  records = λ m below kept h.
      holds_back w is_world ticket setting (records_of w (world_of (cluster w ticket setting) steps) m) kept
      (subst (λ (rs : List Record). Has rs kept) (sym (holds.each m below).same_may)
      ((hold.each m below).more kept (covers w is_world ticket setting moment m below hosts shadow kept h)));
  no_more = λ m below kept h.
      no_more_at w is_world ticket setting moment hosts shadow m below kept
      ((hold.each m below).only kept
      (subst (λ (rs : List Record). Has rs kept) (holds.each m below).same_may
      (has_here (records_of w (world_of (cluster w ticket setting) steps) m) kept h)));
  knows = λ m below node resting rests place own there named.
      knows_at w is_world ticket setting moment hosts shadow cores (world_of (cluster w ticket setting) steps) hold holds m below node resting rests place own
      there named;
  releases = λ release h. released release (subst (λ (rs : List Release). Has rs release) holds.same_releases h);
  rounds = λ round h.
      let q = holds.marked.rounds round h in
      let by = are.marks q.0 q.1 in
      read_in w is_world ticket setting moment.before round.site round.opened round.at q.0.member q.0.at q.2.0 q.2.2 (q.2.1 ∙ by.1)
      (read q.0.member q.0.at by.0);
  answers = λ answer h.
      let q = holds.marked.answers answer h in
      let by = are.marks q.0 q.1 in
      read_in w is_world ticket setting moment.before answer.member answer.reading answer.at q.0.member q.0.at q.2.0 q.2.2 (q.2.1 ∙ by.1)
      (read q.0.member q.0.at by.0);
  said = said_at w is_world ticket setting moment hosts shadow cores (world_of (cluster w ticket setting) steps) hold holds;
  held = λ m h.
      held (cluster w ticket setting) (cast w ticket setting) cores (world_of (cluster w ticket setting) steps) m holds (
        h.0,
        host_held (cluster w ticket setting) (cast w ticket setting) hosts cores m h.0 hold
            (holds_so w is_world ticket setting moment m hosts now_is shadow h.0 h.1),
      );
}

pub worlds_have_shadows : WorldsHaveShadows
worlds_have_shadows w is_world going recs ticket automatic moment =
    let setting = going_on w ticket going recs (setting_of w is_world.form ticket automatic.0 automatic.1) in
    let c = cluster w ticket setting in
    let k = cast w ticket setting in
    let r = reached w is_world ticket setting moment in
    let hosts = after_hosts w is_world ticket setting (opening_hosts c k) r.entries in
    let clocks = has_clocks w is_world.rising_clocks ticket setting (begins_free w is_world ticket setting) in
    let phases = has_phases w setting.goes_on ticket in
    let seated = is_cast w is_world ticket setting in
    let f = follow_all c k clocks phases seated (opening_hosts c k) (opening_cores c k) r.entries (opens_hosts c k clocks phases seated) r.hosted_all in
    let runs = runs_of c k f.0 [] (record { clocks = clocks; phases = phases; is_cast = seated; enters_early = f.1; enters_late = tt }) in
    shadow_by w is_world ticket setting moment hosts (cores_after c k (opening_cores c k) f.0) runs.first (ReadsIn r.entries)
    r.now_is r.shadow f.2 runs.run_first runs.early_holds
    (λ z h. ⊎_elim (λ (none : ⊥). absurd none) (λ in_entries. r.released z (f.3 z in_entries))
    (all_released c k clocks phases seated (opening_cores c k) f.0 [] z tt (opens c k clocks phases seated) f.1 h))
    (all_read c k (ReadsIn r.entries) (opening_cores c k) f.0 (opening_read c k (ReadsIn r.entries)) f.4)
    r.read
