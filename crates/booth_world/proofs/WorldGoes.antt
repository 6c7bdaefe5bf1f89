-- Each entry of a world leads the hosts of a ticket on.
use Rattle.std.proofs.Common.{◌≡◌, ◌≢◌, ◌⊎◌, ⊎_elim, inl, inr, ℕ, ◌<◌, ◌≤◌, Bool, true, false, List, [], ◌∷◌, ◌++◌, length, refl, sym, ap, ◌∙◌, subst, arith}
use Rattle.std.specs.Prelude.{Option, Some, None, position, bytes_eq, slice_get, Ok, Err}
use Rattle.std.specs.Option.{option_map_or}
use Rattle.booth_base.specs.Tree.{Ends, Does}
use Rattle.booth_chain.proofs.NodesLemmas.{same_or_not}
use Rattle.booth_conf.specs.Lookups.{is_called}
use Rattle.booth_conf.specs.declared.tickets.TicketConf.{TicketConf}
use Rattle.booth_rec.specs.declared.record.Record.{Record}
use Rattle.booth_rec.specs.Record.{no_record}
use Rattle.booth_host.specs.declared.host.Arrival.TheVariants as arrivals
use Rattle.booth_host.specs.declared.entry.Entry.{Entry}
use Rattle.booth_host.specs.declared.entry.Entry.TheVariants as calls
use Rattle.booth_raft.specs.StartAndLearn.{started}
use Rattle.booth_node.specs.declared.node_config.NodeConfig.{NodeConfig}
use Rattle.booth_node.specs.Opening.{is_site_at, opened, start_reading}
use Rattle.booth_node.specs.Reaction.{Send, Keep, Start, used}
use Rattle.booth_node.specs.Records.{Has as Holds, may_after, may_after_all, record_at}
use Rattle.booth_node.specs.Session.{CutCall, CutNext, CutNow, CutSend, CutKeep, CutStart, SessionEntry, Starts, Makes, IsCut, Stand, Down, Doing, Hearing, MayMake, MayBeCut, MayDo, did, after_call, after_entry, AreSessions}
use Rattle.booth_node.specs.World.{WorldEntry, World, members_of, clock_at, IsNodeOf, entries_of, HasConfiguration, ReadsClock, ReadsKept, StartsOn, StaysSecond, StartsWithIt, IsSend, HearsSent, stand_after, begins_with, IsUntimedWorld}
use Rattle.booth_world.specs.Reading.{MayBeRead, IsLaterOrKept}
use Rattle.booth_world.specs.Cores.{Session, opening_session}
use Rattle.booth_world.specs.Facts.{Release}
use Rattle.booth_world.specs.Turns.{Keeps, TurnTree}
use Rattle.booth_world.specs.Hosts.{HostEntry, LetsPass, HostPlace, Hosts, AreHosted}
use Rattle.booth_world.specs.HostLaws.{IsHostReleaseIn}
use Rattle.booth_world.specs.Shadows.{IsNextAt, IsComing, LastStand, has_ticket, last_after, last_after_all, second_after, second_after_all}
use Rattle.booth_world.proofs.Lists.{none_is}
use Rattle.booth_world.proofs.AbsentTurns.{IsWithout, reacts_quietly}
use Rattle.booth_world.proofs.Configured.{found_named, found_there, no_position, seats_of}
use Rattle.booth_world.proofs.CoreReads.{ReadsIn, StartsIn}
use Rattle.booth_world.proofs.HostRuns.{IsOf, of_none}
use Rattle.booth_world.proofs.Mirrors.{SentMore}
use Rattle.booth_world.proofs.WorldSteps.{Trace, Frees, Reads, Begins, IsTrace, Setting, Seats, same_bytes, other_bytes, cluster, cast, setup_for, StandsAt, next_at, Shows}
use Rattle.booth_world.proofs.WorldEntries.{read_by, used_is, HearsGoodAt, ReadsHere, makes, cuts, starts, started_is, when_true, when_false}
use Rattle.booth_world.proofs.WorldHosts.{read_here, goes_here, entries_join, entry_own, in_either, last_join, other_last, sessions_at, has_one, has_none, last_makes, last_rests, no_call, up_after, no_stand, was_second, may_of, after_hosts, IsSaidBy, IdlesAt, IsAt, Placed, PlacedAfter, placed_on, placed_more, placed_of, shows_of, Shadows, send_said, hears_so}

module _ (w : World) (is_world : IsUntimedWorld w) (ticket : TicketConf) (setting : Setting w ticket) where
  -- what an entry of a member that stands so leads its host to
  pub record Went (hosts : Hosts) (m : ℕ) (stand : Stand) (may : List Record) (second : Bool) (last : LastStand) (what : SessionEntry) : Type 0 where
    pub entries : List HostEntry
    pub hosted_all : AreHosted (cluster w ticket setting) (cast w ticket setting) hosts entries
    pub own : IsOf (cluster w ticket setting) (cast w ticket setting) m hosts (after_hosts w is_world ticket setting hosts entries)
    pub here : Placed w is_world ticket setting m (after_entry stand what) (may_after ticket.name may what) (second_after ticket.name second what)
        (last_after ticket.name last what) hosts.now ((after_hosts w is_world ticket setting hosts entries).place m)
        (after_hosts w is_world ticket setting hosts entries).sent
    pub released : (z : Release) → IsHostReleaseIn (cluster w ticket setting) (cast w ticket setting) hosts entries z
        → IsTrace w ticket.name m hosts.now (after_entry stand what) what (Frees z)
    pub read : (k time : ℕ) → ReadsIn entries k time → IsTrace w ticket.name m hosts.now (after_entry stand what) what (Reads k time)
    pub started : (version : Bool) → StartsIn entries version → IsTrace w ticket.name m hosts.now (after_entry stand what) what (Begins version)
    pub coming : (kept : Record) (go : Bool → TurnTree)
        → ((after_hosts w is_world ticket setting hosts entries).place m).tree ≡ Some (Does (Keeps kept) go)
        → ((hosts.place m).tree ≡ Some (Does (Keeps kept) go) → IsNextAt ticket.name last.stand kept)
        → IsNextAt ticket.name (last_after ticket.name last what).stand kept

  -- nothing happens at the host
  rests : (hosts : Hosts) (m : ℕ) (stand : Stand) (may : List Record) (second : Bool) (last : LastStand) (what : SessionEntry)
      → Placed w is_world ticket setting m stand may second last hosts.now (hosts.place m) hosts.sent
      → may_after ticket.name may what ≡ may → second_after ticket.name second what ≡ second
      → (last_after ticket.name last what).stand ≡ last.stand
      → IsAt w is_world ticket setting m (after_entry stand what) (last_after ticket.name last what) (hosts.place m) hosts.sent
      → Went hosts m stand may second last what
  rests hosts m stand may second last what x same_may same_second same_stand at = record {
    entries = [];
    hosted_all = tt;
    own = of_none (cluster w ticket setting) (cast w ticket setting) m hosts;
    here = record {
      same_may = x.same_may ∙ sym same_may;
      version = x.version ∙ sym same_second;
      time = x.time;
      past = x.past;
      read = x.read;
      at = at;
    };
    released = λ z r. absurd r;
    read = λ k t r. absurd r;
    started = λ v r. absurd r;
    coming = λ kept go is old. subst (λ (s : Stand). IsNextAt ticket.name s kept) (sym same_stand) (old is);
  }

  -- ---- sessions without the ticket

  idles_on : (m : ℕ) (stand : Stand) (call : Entry) → IdlesAt w is_world ticket setting m stand → MayMake stand call
      → IdlesAt w is_world ticket setting m (after_call stand call)
  idles_on m Down call x d = absurd d
  idles_on m (Doing node (Ends old)) (calls.Next wait answer bytes) x d = x
  idles_on m (Doing node (Ends old)) call x d = absurd d
  idles_on m (Doing node (Does (Send peer message) go)) call x d = (x.0, x.1.1 (did call), x.2)
  idles_on m (Doing node (Does (Keep name tried) go)) call x d = (x.0, x.1.1 (did call), x.2)
  idles_on m (Doing node (Does (Start job) go)) call x d = (x.0, x.1 (did call), x.2)
  idles_on m (Hearing node old answer bytes) (calls.Now reading) x d = (
    x.0,
    reacts_quietly (setup_for w ticket m (opening_session false)) node (used old.last_reading reading)
        (started (setup_for w ticket m (opening_session false)) no_record 0) old answer bytes x.1,
    x.2,
  )
  idles_on m (Hearing node old answer bytes) call x d = absurd d

  idle_may : (m : ℕ) (stand : Stand) (call : Entry) (may : List Record) → IdlesAt w is_world ticket setting m stand → MayMake stand call
      → may_after ticket.name may (Makes call) ≡ may
  idle_may m Down call may x d = absurd d
  idle_may m (Doing node (Ends old)) (calls.Next wait answer bytes) may x d = refl
  idle_may m (Doing node (Ends old)) call may x d = absurd d
  idle_may m (Doing node (Does (Send peer message) go)) (calls.Send to bytes answer) may x d = refl
  idle_may m (Doing node (Does (Send peer message) go)) call may x d = absurd d
  idle_may m (Doing node (Does (Keep name tried) go)) (calls.Keep named rec answer) may x d =
      when_false (bytes_eq named ticket.name) _ _ (other_bytes named ticket.name (λ e. x.1.0 (sym d.0 ∙ e)))
  idle_may m (Doing node (Does (Keep name tried) go)) call may x d = absurd d
  idle_may m (Doing node (Does (Start job) go)) (calls.Start number named handler local expires answer) may x d = refl
  idle_may m (Doing node (Does (Start job) go)) call may x d = absurd d
  idle_may m (Hearing node old answer bytes) (calls.Now reading) may x d = refl
  idle_may m (Hearing node old answer bytes) call may x d = absurd d

  idle_cut : (m : ℕ) (stand : Stand) (call : CutCall) (may : List Record) → IdlesAt w is_world ticket setting m stand → MayBeCut stand call
      → may_after ticket.name may (IsCut call) ≡ may
  idle_cut m stand CutNext may x d = refl
  idle_cut m stand CutNow may x d = refl
  idle_cut m stand (CutSend to bytes) may x d = refl
  idle_cut m stand (CutStart job) may x d = refl
  idle_cut m Down (CutKeep named rec) may x d = absurd d
  idle_cut m (Doing node (Ends old)) (CutKeep named rec) may x d = absurd d
  idle_cut m (Doing node (Does (Send peer message) go)) (CutKeep named rec) may x d = absurd d
  idle_cut m (Doing node (Does (Keep name tried) go)) (CutKeep named rec) may x d =
      when_false (bytes_eq named ticket.name) _ _ (other_bytes named ticket.name (λ e. x.1.0 (sym d.0 ∙ e)))
  idle_cut m (Doing node (Does (Start job) go)) (CutKeep named rec) may x d = absurd d
  idle_cut m (Hearing node old answer bytes) (CutKeep named rec) may x d = absurd d

  -- the state that a start leaves lacks the ticket
  opened_without : (m : ℕ) (node : NodeConfig) (reading : ℕ) (records : List (Option Record))
      → position (is_called ticket.name) node.config.tickets ≡ None → IsWithout ticket.name (opened node records reading)
  opened_without m node reading records none = record {
    lacks = λ other t read named.
        let q : (conf : TicketConf) × (slice_get node.config.tickets other ≡ Some conf) × (t.setup.ticket ≡ conf.name) =
        started_is node (start_reading reading) 0 other node.config.tickets records t read in
        no_position (is_called ticket.name) node.config.tickets other q.0 none q.1
        (same_bytes ticket.name q.0.name (sym named ∙ q.2));
    few = omega arith;
  }

  -- ---- sessions with the ticket

  went_makes : (hosts : Hosts) (m : ℕ) (below : m < members_of w) (within : hosts.now < w.span) (stand : Stand) (call : Entry) (may : List Record)
      (second : Bool) (last : LastStand) → Placed w is_world ticket setting m stand may second last hosts.now (hosts.place m) hosts.sent
      → StandsAt w ticket setting m (hosts.place m).session stand (hosts.place m) hosts.sent
      → (last.now ≡ true) × (stand ≡ last.stand) → MayMake stand call
      → ReadsHere w is_world.rising_clocks ticket setting m (hosts.place m).session below hosts within call
      → HearsGoodAt w is_world.rising_clocks ticket setting m (hosts.place m).session below hosts within stand
      → Went hosts m stand may second last (Makes call)
  went_makes hosts m below within stand call may second last x stands on d r good =
      let session : Session = (hosts.place m).session in
      let steps = makes w is_world.rising_clocks ticket setting m session below hosts within stand call may
      (shows_of w is_world ticket setting m stand may second last hosts.now (hosts.place m) hosts.sent x stands) d r good in
      let now_last = last_makes ticket.name last call on.0 in
      let same_stand : after_call stand call ≡ (last_after ticket.name last (Makes call)).stand =
      ap (λ (s : Stand). after_call s call) on.1 ∙ sym (ap (λ (l : LastStand). l.stand) now_last) in
      record {
        entries = steps.entries;
        hosted_all = steps.hosted_all;
        own = steps.own;
        here = placed_of w is_world ticket setting m session (after_call stand call) (may_after ticket.name may (Makes call)) second
            (last_after ticket.name last (Makes call)) hosts.now ((after_hosts w is_world ticket setting hosts steps.entries).place m)
            (after_hosts w is_world ticket setting hosts steps.entries).sent steps.here x.version
            (inr (ap (λ (l : LastStand). l.now) now_last, same_stand));
        released = steps.released;
        read = steps.read;
        started = steps.started;
        coming = λ kept go is old.
            subst (λ (s : Stand). IsNextAt ticket.name s kept) same_stand
            (⊎_elim (λ (n : IsNextAt ticket.name (after_call stand call) kept). n)
            (λ (down : after_call stand call ≡ Down). absurd (up_after stand call d down))
            (next_at w ticket setting m session (after_call stand call) ((after_hosts w is_world ticket setting hosts steps.entries).place m)
            (after_hosts w is_world ticket setting hosts steps.entries).sent kept go steps.here.stands is));
      }

  went_cuts : (hosts : Hosts) (m : ℕ) (below : m < members_of w) (within : hosts.now < w.span) (stand : Stand) (call : CutCall) (may : List Record)
      (second : Bool) (last : LastStand) → Placed w is_world ticket setting m stand may second last hosts.now (hosts.place m) hosts.sent
      → StandsAt w ticket setting m (hosts.place m).session stand (hosts.place m) hosts.sent → MayBeCut stand call
      → Went hosts m stand may second last (IsCut call)
  went_cuts hosts m below within stand call may second last x stands d =
      let session : Session = (hosts.place m).session in
      let steps = cuts w is_world.rising_clocks ticket setting m session below hosts within stand call may
      (shows_of w is_world ticket setting m stand may second last hosts.now (hosts.place m) hosts.sent x stands) d in
      record {
        entries = steps.entries;
        hosted_all = steps.hosted_all;
        own = steps.own;
        here = placed_of w is_world ticket setting m session Down (may_after ticket.name may (IsCut call)) second last hosts.now
            ((after_hosts w is_world ticket setting hosts steps.entries).place m) (after_hosts w is_world ticket setting hosts steps.entries).sent
            steps.here x.version (inl refl);
        released = steps.released;
        read = steps.read;
        started = steps.started;
        coming = λ kept go is old. ⊎_elim
            (λ (none : ((after_hosts w is_world ticket setting hosts steps.entries).place m).tree ≡ None).
            absurd (none_is (Does (Keeps kept) go) (sym none ∙ is)))
            (λ (same : (after_hosts w is_world ticket setting hosts steps.entries).place m ≡ hosts.place m).
            old (sym (ap (λ (p : HostPlace). p.tree) same) ∙ is))
            steps.at_cut;
      }

  -- a start whose configuration has the ticket
  went_starts : (hosts : Hosts) (m : ℕ) (below : m < members_of w) (within : hosts.now < w.span) (stand : Stand) (node : NodeConfig) (reading : ℕ)
      (records : List (Option Record)) (may : List Record) (second : Bool) (last : LastStand)
      → Placed w is_world ticket setting m stand may second last hosts.now (hosts.place m) hosts.sent
      → length records ≡ length node.config.tickets → IsNodeOf w m node → reading ≡ clock_at w m hosts.now
      → StartsWithIt ticket (Starts node reading records)
      → ((place : ℕ) (conf : TicketConf) → slice_get node.config.tickets place ≡ Some conf → conf.name ≡ ticket.name
      → MayBeRead (is_site_at w.members m) may (record_at records place))
      → ((place : ℕ) (conf : TicketConf) → slice_get node.config.tickets place ≡ Some conf → conf.name ≡ ticket.name
      → setting.goes_on ≡ true → IsLaterOrKept may (record_at records place))
      → ((hosts.place m).session.second ≡ true → node.second ≡ true)
      → (place : ℕ) → position (is_called ticket.name) node.config.tickets ≡ Some place
      → Went hosts m stand may second last (Starts node reading records)
  went_starts hosts m below within stand node reading records may second last x all own clock agree kept on stays place at =
      let conf = found_there node.config place ticket.name at in
      went conf.0 conf.1 (found_named node.config place conf.0 conf.1 ticket.name at)
    where
      went : (conf : TicketConf) → slice_get node.config.tickets place ≡ Some conf → conf.name ≡ ticket.name
          → Went hosts m stand may second last (Starts node reading records)
      went conf there named =
          let agrees = agree place conf there named in
          let s = seats_of w ticket setting m node below own place conf there named agrees.1 in
          let seats : Seats w ticket setting m s.0 node = s.2 in
          let steps = starts w is_world.rising_clocks ticket setting m below hosts s.0 node reading records within all seats
          (ap (λ (t : TicketConf). t.manual) s.4 ∙ agrees.0 ∙ setting.automatic) clock
          (λ was. s.1 ∙ stays was)
          (subst (λ (rs : List Record). MayBeRead (is_site_at w.members m) rs (record_at records seats.place)) (sym x.same_may)
          (subst (λ (n : ℕ). MayBeRead (is_site_at w.members m) may (record_at records n)) (sym s.3) (kept place conf there named)))
          (λ going. subst (λ (rs : List Record). IsLaterOrKept rs (record_at records seats.place)) (sym x.same_may)
          (subst (λ (n : ℕ). IsLaterOrKept may (record_at records n)) (sym s.3) (on place conf there named going))) in
          let last_hosts : Hosts = after_hosts w is_world ticket setting hosts steps.entries in
          let has : has_ticket ticket.name node ≡ true = has_one ticket.name node place at in
          let now_may : record_at records seats.place ∷ [] ≡ may_after ticket.name may (Starts node reading records) =
          ap (λ (n : ℕ). record_at records n ∷ []) s.3
          ∙ sym (ap (λ (o : Option ℕ). option_map_or (λ (n : ℕ). record_at records n ∷ []) o may) at) in
          let now_second : s.0.second ≡ second_after ticket.name second (Starts node reading records) =
          s.1 ∙ sym (when_true (has_ticket ticket.name node) _ _ has) in
          let now_last : last_after ticket.name last (Starts node reading records) ≡ record { now = true; stand = Doing node (Ends (opened node records reading)) } =
          when_true (has_ticket ticket.name node) _ _ has in
          record {
            entries = steps.entries;
            hosted_all = steps.hosted_all;
            own = steps.own;
            here = placed_of w is_world ticket setting m s.0 (Doing node (Ends (opened node records reading)))
                (may_after ticket.name may (Starts node reading records)) (second_after ticket.name second (Starts node reading records))
                (last_after ticket.name last (Starts node reading records)) hosts.now (last_hosts.place m) last_hosts.sent
                (subst (λ (rs : List Record). Shows w ticket setting m s.0 (Doing node (Ends (opened node records reading))) rs hosts.now
                (last_hosts.place m) last_hosts.sent) now_may steps.here) now_second
                (inr (ap (λ (l : LastStand). l.now) now_last, sym (ap (λ (l : LastStand). l.stand) now_last)));
            released = steps.released;
            read = steps.read;
            started = steps.started;
            coming = λ kept_next go is old.
                subst (λ (l : LastStand). IsNextAt ticket.name l.stand kept_next) (sym now_last)
                (⊎_elim (λ (n : IsNextAt ticket.name (Doing node (Ends (opened node records reading))) kept_next). n)
                (λ (down : Doing node (Ends (opened node records reading)) ≡ Down). absurd cc)
                (next_at w ticket setting m s.0 (Doing node (Ends (opened node records reading))) (last_hosts.place m) last_hosts.sent kept_next go
                steps.here.stands is));
          }

  -- a start whose configuration has not
  went_without : (hosts : Hosts) (m : ℕ) (stand : Stand) (node : NodeConfig) (reading : ℕ)
      (records : List (Option Record)) (may : List Record) (second : Bool) (last : LastStand)
      → Placed w is_world ticket setting m stand may second last hosts.now (hosts.place m) hosts.sent → IsNodeOf w m node
      → position (is_called ticket.name) node.config.tickets ≡ None
      → Went hosts m stand may second last (Starts node reading records)
  went_without hosts m stand node reading records may second last x own none =
      let has : has_ticket ticket.name node ≡ false = has_none ticket.name node none in
      let now_last : last_after ticket.name last (Starts node reading records) ≡ record { now = false; stand = last.stand } =
      when_false (has_ticket ticket.name node) _ _ has in
      rests hosts m stand may second last (Starts node reading records) x
      (ap (λ (o : Option ℕ). option_map_or (λ (n : ℕ). record_at records n ∷ []) o may) none)
      (when_false (has_ticket ticket.name node) _ _ has)
      (ap (λ (l : LastStand). l.stand) now_last)
      (inr ((own, opened_without m node reading records none, none), ap (λ (l : LastStand). l.now) now_last))

  -- ---- one entry

  module _ (before after : List WorldEntry) (e : WorldEntry) (whole : w.entries ≡ before ++ e ∷ after) (hosts : Hosts)
      (shadow : Shadows w is_world ticket setting before hosts) (below : e.member < members_of w) (within : e.time < w.span)
      (later : hosts.now ≤ e.time) (members : (entry : WorldEntry) → Holds before entry → entry.member < members_of w) where
    -- true time has passed
    abbrev passed : Hosts
    passed = record hosts { now = e.time }

    abbrev mine : List SessionEntry
    mine = entries_of e.member before

    abbrev stand : Stand
    stand = stand_after e.member before

    abbrev may : List Record
    may = may_of w is_world ticket setting e.member before

    abbrev second : Bool
    second = second_after_all ticket.name (w.begins e.member).second mine

    abbrev last : LastStand
    last = last_after_all ticket.name no_stand mine

    abbrev session : Session
    session = (hosts.place e.member).session

    abbrev Going : SessionEntry → Type 0
    Going what = Went passed e.member stand may second last what

    placed : Placed w is_world ticket setting e.member stand may second last e.time (hosts.place e.member) hosts.sent
    placed =
        placed_more w is_world ticket setting e.member stand may second last hosts.now e.time (hosts.place e.member) hosts.sent hosts.sent
        later (λ l h. h) (shadow.each e.member below)

    good_at : (at : Stand) (call : Entry) → Shows w ticket setting e.member session at may e.time (hosts.place e.member) hosts.sent
        → MayMake at call → ReadsHere w is_world.rising_clocks ticket setting e.member session below passed within call
        → HearsSent w before at (Makes call)
        → HearsGoodAt w is_world.rising_clocks ticket setting e.member session below passed within at
    good_at (Hearing node old (Ok (arrivals.Datagram from)) bytes) (calls.Now reading) x d r heard =
        λ own member head part let_in.
        let q = hears_so w is_world ticket setting e.member session before hosts node old from bytes reading
        (read_by w is_world.rising_clocks ticket setting e.member e.time) shadow own
        (used_is w is_world.rising_clocks ticket setting e.member session below passed within old.last_reading x.time reading (x.stands.4 ∙ x.read) x.past r)
        heard members hosts.sent refl member head part let_in in
        (q.0, q.1, q.2, q.3, (q.4, q.5, q.6))
    good_at (Hearing node old (Ok (arrivals.Datagram from)) bytes) call x d r heard = absurd d
    good_at (Hearing node old (Ok (arrivals.Handler job status)) bytes) call x d r heard = λ own. tt
    good_at (Hearing node old (Ok arrivals.Quiet) bytes) call x d r heard = λ own. tt
    good_at (Hearing node old (Ok arrivals.Stop) bytes) call x d r heard = λ own. tt
    good_at (Hearing node old (Err failed) bytes) call x d r heard = λ own. tt
    good_at Down call x d r heard = tt
    good_at (Doing node deeds) call x d r heard = tt

    reads_here : (call : Entry) → ReadsClock w e (Makes call) → ReadsHere w is_world.rising_clocks ticket setting e.member session below passed within call
    reads_here (calls.Now reading) r = r
    reads_here call r = tt

    begins_so : (node : NodeConfig) (reading : ℕ) (records : List (Option Record)) → length records ≡ length node.config.tickets
        → IsNodeOf w e.member node → reading ≡ clock_at w e.member e.time → ReadsKept w before e (Starts node reading records)
        → (setting.goes_on ≡ true → StartsOn w before e (Starts node reading records))
        → StaysSecond w before e (Starts node reading records) → StartsWithIt ticket (Starts node reading records)
        → (o : Option ℕ) → position (is_called ticket.name) node.config.tickets ≡ o → Going (Starts node reading records)
    begins_so node reading records all own clock kept on stays agree None none =
        went_without passed e.member stand node reading records may second last placed own none
    begins_so node reading records all own clock kept on stays agree (Some place) at =
        went_starts passed e.member below within stand node reading records may second last placed all own clock agree
        (λ n conf there named.
        subst (λ (name : List ℕ). MayBeRead (is_site_at w.members e.member) (may_after_all name (begins_with w e.member name ∷ []) mine) (record_at records n)) named
        (read_here (is_site_at w.members e.member) (may_after_all conf.name (begins_with w e.member conf.name ∷ []) mine) (record_at records n) (kept n conf there)))
        (λ n conf there named going.
        subst (λ (name : List ℕ). IsLaterOrKept (may_after_all name (begins_with w e.member name ∷ []) mine) (record_at records n)) named
        (goes_here (may_after_all conf.name (begins_with w e.member conf.name ∷ []) mine) (record_at records n) (on going n conf there)))
        (λ was. stays (was_second ticket.name (w.begins e.member).second mine (sym placed.version ∙ was)))
        place at

    makes_so : (call : Entry) → MayMake stand call → ReadsClock w e (Makes call) → HearsSent w before stand (Makes call) → Going (Makes call)
    makes_so call d clock heard = by_place placed.at
      where
        by_place : IsAt w is_world ticket setting e.member stand last (hosts.place e.member) hosts.sent → Going (Makes call)
        by_place (inl (stands, inl down)) = absurd (no_call stand call down d)
        by_place (inl (stands, inr on)) =
            went_makes passed e.member below within stand call may second last placed stands on d (reads_here call clock)
            (good_at stand call (shows_of w is_world ticket setting e.member stand may second last e.time (hosts.place e.member) hosts.sent placed stands)
            d (reads_here call clock) heard)
        by_place (inr (idle, off)) =
            rests passed e.member stand may second last (Makes call) placed (idle_may e.member stand call may idle d) refl
            (ap (λ (l : LastStand). l.stand) (last_rests ticket.name last call off))
            (inr (idles_on e.member stand call idle d, ap (λ (l : LastStand). l.now) (last_rests ticket.name last call off) ∙ off))

    cut_so : (call : CutCall) → MayBeCut stand call → Going (IsCut call)
    cut_so call d = by_place placed.at
      where
        by_place : IsAt w is_world ticket setting e.member stand last (hosts.place e.member) hosts.sent → Going (IsCut call)
        by_place (inl (stands, on)) = went_cuts passed e.member below within stand call may second last placed stands d
        by_place (inr (idle, off)) =
            rests passed e.member stand may second last (IsCut call) placed (idle_cut e.member stand call may idle d) refl refl (inl (tt, inl refl))

    pub goes : (what : SessionEntry) → MayDo stand what → HasConfiguration w e what → ReadsClock w e what → ReadsKept w before e what
        → (setting.goes_on ≡ true → StartsOn w before e what)
        → StaysSecond w before e what → HearsSent w before stand what → StartsWithIt ticket what → Going what
    goes (Starts node reading records) d own clock kept on stays heard agree =
        begins_so node reading records d own clock kept on stays agree (position (is_called ticket.name) node.config.tickets) refl
    goes (Makes call) d own clock kept on stays heard agree = makes_so call d clock heard
    goes (IsCut call) d own clock kept on stays heard agree = cut_so call d

  -- ---- entry by entry

  -- entries of the hosts that lead to where these entries of the world do, and leave only these traces
  pub record Extends (hosts : Hosts) (before : List WorldEntry) (now : ℕ) (R : Trace → Type 0) : Type 0 where
    pub entries : List HostEntry
    pub now_is : (after_hosts w is_world ticket setting hosts entries).now ≡ now
    pub hosted_all : AreHosted (cluster w ticket setting) (cast w ticket setting) hosts entries
    pub shadow : Shadows w is_world ticket setting before (after_hosts w is_world ticket setting hosts entries)
    pub released : (z : Release) → IsHostReleaseIn (cluster w ticket setting) (cast w ticket setting) hosts entries z → R (Frees z)
    pub read : (k time : ℕ) → ReadsIn entries k time → R (Reads k time)
    pub started : (version : Bool) → StartsIn entries version → R (Begins version)

  has_middle : (before after : List WorldEntry) (e : WorldEntry) (entry : WorldEntry) → Holds before entry
      → (first : List WorldEntry) × (last : List WorldEntry) × (before ++ e ∷ after ≡ first ++ entry ∷ last)
  has_middle [] after e entry h = absurd h
  has_middle (x ∷ before) after e entry (inl is) = ([], before ++ e ∷ after, ap (λ (y : WorldEntry). y ∷ before ++ e ∷ after) is)
  has_middle (x ∷ before) after e entry (inr h) =
      let q = has_middle before after e entry h in
      (x ∷ q.0, q.1, ap (λ (ys : List WorldEntry). x ∷ ys) q.2)

  -- what the member has done by then
  own_entries : (before : List WorldEntry) (e : WorldEntry) (m : ℕ) → e.member ≡ m
      → entries_of m (before ++ e ∷ []) ≡ entries_of m before ++ e.what ∷ []
  own_entries before e m own =
      entries_join m before (e ∷ []) ∙ ap (λ (xs : List SessionEntry). entries_of m before ++ xs) (entry_own m e [] own)

  pub one_step : (before after : List WorldEntry) (e : WorldEntry) (hosts : Hosts) → w.entries ≡ before ++ e ∷ after → hosts.now ≤ e.time
      → Shadows w is_world ticket setting before hosts
      → Extends hosts (before ++ e ∷ []) e.time (IsTrace w ticket.name e.member e.time (after_entry (stand_after e.member before) e.what) e.what)
  one_step before after e hosts whole later shadow =
      let below : e.member < members_of w = is_world.form.members before after e whole in
      let within : e.time < w.span = is_world.form.within before after e whole in
      let members : (entry : WorldEntry) → Holds before entry → entry.member < members_of w =
      λ entry h. let q = has_middle before after e entry h in is_world.form.members q.0 q.1 entry (whole ∙ q.2) in
      let mine : entries_of e.member w.entries ≡ entries_of e.member before ++ e.what ∷ entries_of e.member after =
      ap (λ (es : List WorldEntry). entries_of e.member es) whole ∙ entries_join e.member before (e ∷ after)
      ∙ ap (λ (xs : List SessionEntry). entries_of e.member before ++ xs) (entry_own e.member e after refl) in
      let may_do : MayDo (stand_after e.member before) e.what =
      sessions_at Down (entries_of e.member before) (entries_of e.member after) e.what
      (subst (λ (xs : List SessionEntry). AreSessions Down xs) mine (is_world.one_daemon e.member below)) in
      let went = goes before after e whole hosts shadow below within later members e.what may_do
      (is_world.same_members before after e whole) (is_world.rising_clocks.read before after e whole)
      (is_world.records_return before after e whole) (λ going. setting.on going before after e whole) (is_world.versions_rise before after e whole) (is_world.members_speak before after e whole)
      (setting.same before after e whole) in
      let last : Hosts = after_hosts w is_world ticket setting (record hosts { now = e.time }) went.entries in
      record {
        entries = LetsPass e.time ∷ went.entries;
        hosted_all = ((later, within), went.hosted_all);
        now_is = went.own.same_now;
        shadow = record {
          each = λ m m_below. by_member m m_below (same_or_not e.member m) last went.own.same_now went.own.others went.own.still_sent
              (placed_on w is_world ticket setting e.member (entries_of e.member before) e.what last.now (last.place e.member) last.sent
              (placed_more w is_world ticket setting e.member (after_entry (stand_after e.member before) e.what)
              (may_after ticket.name (may_of w is_world ticket setting e.member before) e.what)
              (second_after ticket.name (second_after_all ticket.name (w.begins e.member).second (entries_of e.member before)) e.what)
              (last_after ticket.name (last_after_all ticket.name no_stand (entries_of e.member before)) e.what) e.time last.now
              (last.place e.member) last.sent last.sent (let now = went.own.same_now in omega (arith, now)) (λ l h. h) went.here));
          said = λ entry h bytes is message read. ⊎_elim
              (λ (old : Holds before entry). λ part between content named.
              let q = shadow.said entry old bytes is message read part between content named in
              (q.0, q.1, q.2, q.3, went.own.still_sent _ q.4))
              (λ (new : e ≡ entry). subst (λ (x : WorldEntry). IsSaidBy w is_world ticket setting last.sent x.member message) new
              (λ part between content named.
              let q = send_said w is_world ticket setting e.member (stand_after e.member before) e.what
              (last_after_all ticket.name no_stand (entries_of e.member before)) (hosts.place e.member) hosts.sent
              (shadow.each e.member below).at may_do bytes (subst (λ (x : WorldEntry). IsSend x.what bytes) (sym new) is) message read part between content named in
              (q.0, q.1, q.2, q.3, went.own.still_sent _ q.4)))
              (in_either before e entry h);
          coming = λ m m_below kept go is. ⊎_elim
              (λ (own : e.member ≡ m). subst (λ (k : ℕ). IsComing ticket.name (entries_of k (before ++ e ∷ [])) kept) own
              (subst (λ (xs : List SessionEntry). IsComing ticket.name xs kept) (sym (own_entries before e e.member refl))
              (subst (λ (l : LastStand). IsNextAt ticket.name l.stand kept)
              (sym (last_join ticket.name no_stand (entries_of e.member before) (e.what ∷ [])))
              (went.coming kept go (subst (λ (k : ℕ). (last.place k).tree ≡ Some (Does (Keeps kept) go)) (sym own) is)
              (λ is_old. shadow.coming e.member below kept go is_old)))))
              (λ (other : e.member ≢ m). subst (λ (xs : List SessionEntry). IsComing ticket.name xs kept) (sym (other_last m before e other))
              (shadow.coming m m_below kept go (sym (ap (λ (p : HostPlace). p.tree) (went.own.others m (λ same. other (sym same)))) ∙ is)))
              (same_or_not e.member m);
        };
        released = λ z r. ⊎_elim (λ (a : ⊥). absurd a) (λ b. went.released z b) r;
        read = λ k t r. ⊎_elim (λ (a : ⊥). absurd a) (λ b. went.read k t b) r;
        started = λ v r. ⊎_elim (λ (a : ⊥). absurd a) (λ b. went.started v b) r;
      }
    where
      by_member : (m : ℕ) → m < members_of w → (e.member ≡ m) ⊎ (e.member ≢ m) → (last : Hosts) → last.now ≡ e.time
          → ((k : ℕ) → k ≢ e.member → last.place k ≡ hosts.place k) → SentMore hosts.sent last.sent
          → PlacedAfter w is_world ticket setting e.member (entries_of e.member before ++ e.what ∷ []) last.now (last.place e.member) last.sent
          → PlacedAfter w is_world ticket setting m (entries_of m (before ++ e ∷ [])) last.now (last.place m) last.sent
      by_member m m_below (inl own) last same_now others more here =
          subst (λ (k : ℕ). PlacedAfter w is_world ticket setting k (entries_of k (before ++ e ∷ [])) last.now (last.place k) last.sent) own
          (subst (λ (xs : List SessionEntry). PlacedAfter w is_world ticket setting e.member xs last.now (last.place e.member) last.sent)
          (sym (own_entries before e e.member refl)) here)
      by_member m m_below (inr other) last same_now others more here =
          subst (λ (xs : List SessionEntry). PlacedAfter w is_world ticket setting m xs last.now (last.place m) last.sent) (sym (other_last m before e other))
          (subst (λ (p : HostPlace). PlacedAfter w is_world ticket setting m (entries_of m before) last.now p last.sent)
          (sym (others m (λ same. other (sym same))))
          (placed_more w is_world ticket setting m (stand_after m before) (may_of w is_world ticket setting m before)
          (second_after_all ticket.name (w.begins m).second (entries_of m before)) (last_after_all ticket.name no_stand (entries_of m before))
          hosts.now last.now (hosts.place m) hosts.sent last.sent
          (subst (λ (n : ℕ). hosts.now ≤ n) (sym same_now) later) more (shadow.each m m_below)))
