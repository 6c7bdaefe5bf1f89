-- One entry of a world, as entries of the hosts of one ticket.
use Rattle.std.proofs.Common.{◌≡◌, ◌≢◌, ◌⊎◌, inl, inr, ⊎_elim, ℕ, ◌^◌, ◌<◌, ◌≤◌, Bool, true, false, List, [], ◌∷◌, length, refl, sym, ap, ◌∙◌, subst, arith}
use Rattle.std.specs.Prelude.{Option, Some, None, slice_get, position, unwrap_or, bytes_eq, IsSomeAnd}
use Rattle.booth_base.specs.Tree.{Deeds, Ends, Does}
use Rattle.booth_base.specs.declared.address.MemberId.{MemberId}
use Rattle.booth_base.specs.declared.times.Times.{Times}
use Rattle.booth_conf.specs.Config.{has_id}
use Rattle.booth_conf.specs.declared.members.Member.{Member}
use Rattle.booth_conf.specs.declared.tickets.TicketConf.{TicketConf}
use Rattle.booth_rec.specs.declared.record.Record.{Record}
use Rattle.booth_wire.specs.declared.message.Setup.{Setup}
use Rattle.booth_raft.specs.declared.view.View.{View}
use Rattle.booth_raft.specs.Sound.{IsSound}
use Rattle.booth_node.specs.declared.node_config.NodeConfig.{NodeConfig}
use Rattle.booth_node.specs.Opening.{is_site_at, own_place, setup_of}
use Rattle.booth_node.specs.Reaction.{Ask, Send, Keep, Start}
use Rattle.booth_node.specs.Records.{may_after_keep}
use Rattle.booth_node.specs.Session.{SessionEntry, Starts, Stand, Down, Doing, Hearing}
use Rattle.booth_node.specs.State.{State}
use Rattle.booth_node.specs.World.{World, AtEach, members_of, id_at, clock_at, IsNodeOf, StartsWithIt, RecordsGoOn}
use Rattle.booth_world.specs.Facts.{Release}
use Rattle.booth_world.specs.States.{put, Cluster, reads}
use Rattle.booth_world.specs.Rules.{MemberMessage}
use Rattle.booth_world.specs.Cores.{Session, Cast}
use Rattle.booth_world.specs.Turns.{Keeps, Sends, AsksElse, TurnTree}
use Rattle.booth_world.specs.Hosts.{HostEntry, DoesAsk, HostPlace, Hosts, MayHost, IsNextAsk, went_on, may_left, hosted, AreHosted, hosts_after}
use Rattle.booth_world.specs.HostLaws.{IsHostReleaseAt, IsHostReleaseIn}
use Rattle.booth_world.specs.Shadows.{KeepsNext, IsNextAt, GivesTermBack, TakesReading}
use Rattle.booth_world.proofs.Lists.{some_same}
use Rattle.booth_world.proofs.CallSteps.{put_same}
use Rattle.booth_world.proofs.CoreReads.{ReadsAt, ReadsIn, StartsAt, StartsIn}
use Rattle.booth_world.proofs.TreePlaces.{put_other}
use Rattle.booth_world.proofs.Mirrors.{skip, sent_by, later, SentMore}
use Rattle.booth_world.proofs.NodeTrees.{IsFew}
use Rattle.booth_world.proofs.NodeTurns.{IsPlacedAt, Over}
use Rattle.booth_world.proofs.HostRuns.{SentAs, sent_under, sent_as, IsOf, of_none, of_both, says, AreSaid, IsOpen, all_said, at_ask}
use Rattle.booth_world.proofs.WorldPhases.{is_open}
use Rattle.std.proofs.lemmas.Slice.Eq.{bytes_eq-Decides}
use Rattle.booth_world.specs.Clusters.{cluster_going}

-- ---- what entries leave behind

-- a release, or that a member read its clock at a true time, or that a session of this version started
pub data Trace : Type 0 where
  Frees : (release : Release) → Trace
  Reads : (m time : ℕ) → Trace
  Begins : (second : Bool) → Trace

-- it is a start in a session of this version (true: version 2)
abbrev pub StartsIt : SessionEntry → Bool → Type 0
StartsIt (Starts node reading records) second = node.second ≡ second
StartsIt what second = ⊥

-- an entry of the world, of this member and at this true time, which left the member so, left it behind
abbrev pub IsTrace : World → List ℕ → ℕ → ℕ → Stand → SessionEntry → Trace → Type 0
IsTrace w name m now after what (Frees release) = GivesTermBack w name m now after what release
IsTrace w name m now after what (Reads k time) = (k ≡ m) × (time ≡ now) × TakesReading what (clock_at w m now)
IsTrace w name m now after what (Begins second) = StartsIt what second

-- ---- the ticket in its configuration

-- the setup of a ticket, by its name and times, the members, a member's id, place and rank, its version and whether it
-- follows the steady rules
abbrev pub setup_by : List ℕ → Times → List Member → MemberId → ℕ → ℕ → Bool → Bool → Setup
setup_by name times members me own rank second steady = record {
  ticket = name;
  me = me;
  place = own;
  members = length members;
  site = is_site_at members own;
  rank = rank;
  times = times;
  second = second;
  steady = steady;
}

abbrev pub setup_for : World → TicketConf → ℕ → Session → Setup
setup_for w ticket m session = setup_by ticket.name ticket.times w.members (id_at w m) m session.rank session.second session.steady

-- What sound configurations give: each member's id is its own, the starts agree on the ticket, which is granted by
-- votes, and each member's setup, in any session, is one that the rules take. Numbers of jobs are below `most`. And
-- whether each start of the world goes on.
pub record Setting (w : World) (ticket : TicketConf) : Type 0 where
  pub most : ℕ
  pub enough : 2 ^ 64 ≤ most
  pub automatic : ticket.manual ≡ false
  pub ids : (m : ℕ) → m < members_of w → position (has_id (id_at w m)) w.members ≡ Some m
  pub same : AtEach w (λ before entry. StartsWithIt ticket entry.what)
  pub goes_on : Bool
  pub on : goes_on ≡ true → RecordsGoOn w
  pub sound : (m : ℕ) → m < members_of w → (session : Session) → IsSound (setup_for w ticket m session)

pub same_bytes : (a b : List ℕ) → a ≡ b → bytes_eq a b ≡ true
same_bytes a b e = (bytes_eq-Decides a b).1 e

pub equal_bytes : (a b : List ℕ) → bytes_eq a b ≡ true → a ≡ b
equal_bytes a b e = (bytes_eq-Decides a b).0 e

pub other_bytes : (a b : List ℕ) → a ≢ b → bytes_eq a b ≡ false
other_bytes a b ne = by_test (bytes_eq a b) refl
  where
    by_test : (t : Bool) → bytes_eq a b ≡ t → bytes_eq a b ≡ false
    by_test true is = absurd (ne (equal_bytes a b is))
    by_test false is = is

module _ (w : World) (ticket : TicketConf) (setting : Setting w ticket) where
  abbrev pub cluster : Cluster
  cluster = cluster_going setting.goes_on w ticket

  abbrev pub setup_at : ℕ → Session → Setup
  setup_at m session = setup_for w ticket m session

  abbrev pub cast : Cast
  cast = record { id_of = id_at w; setup = setup_at }

  -- the node is this member's, in this session of the only phase, and has the ticket at a place
  pub record Seats (m : ℕ) (session : Session) (node : NodeConfig) : Type 0 where
    pub own : IsNodeOf w m node
    pub place : ℕ
    pub conf : TicketConf
    pub there : slice_get node.config.tickets place ≡ Some conf
    pub named : conf.name ≡ ticket.name
    pub same : setup_of node place conf ≡ setup_at m session
    pub first : session.phase ≡ 0

  pub all_of : (m : ℕ) (session : Session) (node : NodeConfig) → Seats m session node → (setup_at m session).members ≡ length node.config.members
  all_of m session node seats = sym (ap (λ (members : List Member). length members) seats.own.members)

  pub own_place_of : (m : ℕ) (node : NodeConfig) → m < members_of w → IsNodeOf w m node → own_place node ≡ m
  own_place_of m node below is =
      ap (λ (o : Option ℕ). unwrap_or o 0)
      (ap (λ (id : MemberId). position (has_id id) node.config.members) is.me
      ∙ ap (λ (members : List Member). position (has_id (id_at w m)) members) is.members ∙ setting.ids m below)

  -- ---- where a member of the world and its host stand

  abbrev pub Doings : (m : ℕ) (session : Session) (node : NodeConfig) → Seats m session node → ℕ → List MemberMessage → Deeds Ask State → TurnTree → Type 0
  Doings m session node seats moment known deeds tree =
      Over (setup_at m session) seats.place node moment (all_of m session node seats) known deeds tree

  -- In this session the host is at the next keep or start of this ticket, or at the end of its turn; what
  -- comes before that is said already, under the member's number.
  abbrev pub StandsAt : ℕ → Session → Stand → HostPlace → List MemberMessage → Type 0
  StandsAt m session Down p sent = Unit {0}
  StandsAt m session (Doing node deeds) p sent =
      (seats : Seats m session node) × (tree : TurnTree) × (known : List MemberMessage) × (p.tree ≡ Some (skip tree))
      × SentAs m (sent_by tree known) sent × Doings m session node seats p.reading known deeds tree
  StandsAt m session (Hearing node old answer bytes) p sent =
      (seats : Seats m session node) × (view : View) × (p.tree ≡ Some (Ends view)) × IsPlacedAt (setup_at m session) seats.place view old.tickets
      × (old.last_reading ≡ p.reading) × IsFew old.common

  pub record Shows (m : ℕ) (session : Session) (stand : Stand) (may : List Record) (now : ℕ) (p : HostPlace) (sent : List MemberMessage) : Type 0 where
    pub same_session : p.session ≡ session
    pub same_may : p.may ≡ may
    pub time : ℕ
    pub past : time ≤ now
    pub read : p.reading ≡ reads cluster m time
    pub stands : StandsAt m session stand p sent

  pub stands_more : (m : ℕ) (session : Session) (stand : Stand) (p : HostPlace) (sent sent' : List MemberMessage) → SentMore sent sent'
      → StandsAt m session stand p sent → StandsAt m session stand p sent'
  stands_more m session Down p sent sent' more x = tt
  stands_more m session (Doing node deeds) p sent sent' more x = (x.0, x.1, x.2, x.3, (λ l h. more (record l { sender = m }) (x.4 l h)), x.5)
  stands_more m session (Hearing node old answer bytes) p sent sent' more x = x

  pub shows_more : (m : ℕ) (session : Session) (stand : Stand) (may : List Record) (now now' : ℕ) (p : HostPlace) (sent sent' : List MemberMessage)
      → now ≤ now' → SentMore sent sent' → Shows m session stand may now p sent → Shows m session stand may now' p sent'
  shows_more m session stand may now now' p sent sent' later more x = record {
    same_session = x.same_session;
    same_may = x.same_may;
    time = x.time;
    past = let old = x.past in omega (arith, old, later);
    read = x.read;
    stands = stands_more m session stand p sent sent' more x.stands;
  }

  -- the host's next keep is that of the node's deeds
  keeps_next : (m : ℕ) (session : Session) (node : NodeConfig) (own : Seats m session node) (moment : ℕ) (deeds : Deeds Ask State) (tree : TurnTree) (sent : List MemberMessage) (kept : Record) (go : Bool → TurnTree)
      → Doings m session node own moment sent deeds tree → skip tree ≡ Does (Keeps kept) go → KeepsNext ticket.name deeds kept
  keeps_next m session node its moment (Ends state) tree sent kept go over is = absurd (no_end over.view kept go (sym over.ended ∙ is))
    where
      no_end : (view : View) (kept : Record) (go : Bool → TurnTree) → Ends view ≡ Does (Keeps kept) go → ⊥
      no_end view kept go e = cc
  keeps_next m session node its moment (Does (Send peer message) more) tree sent kept go over is =
      (true, keeps_next m session node its moment (more true) tree sent kept go (over.1 true) is)
  keeps_next m session node its moment (Does (Keep name tried) more) tree sent kept go (inl other) is =
      inr (other.0, true, keeps_next m session node its moment (more true) tree sent kept go (other.1 true) is)
  keeps_next m session node its moment (Does (Keep name tried) more) tree sent kept go (inr own) is =
      inl (own.0, same_keep tried kept own.1 go (sym own.2 ∙ is))
    where
      same_keep : (a b : Record) (f g : Bool → TurnTree) → Does (Keeps a) f ≡ Does (Keeps b) g → a ≡ b
      same_keep a b f g e = cc
  keeps_next m session node its moment (Does (Start job) more) tree sent kept go (inl other) is =
      (true, keeps_next m session node its moment (more true) tree sent kept go (other true) is)
  keeps_next m session node its moment (Does (Start job) more) tree sent kept go (inr own) is = absurd (no_ask kept go own.0 (sym is ∙ own.1))
    where
      no_ask : (kept : Record) (go rest : Bool → TurnTree) → Does (Keeps kept) go ≡ Does AsksElse rest → ⊥
      no_ask kept go rest e = cc

  pub next_at : (m : ℕ) (session : Session) (stand : Stand) (p : HostPlace) (sent : List MemberMessage) (kept : Record) (go : Bool → TurnTree)
      → StandsAt m session stand p sent → p.tree ≡ Some (Does (Keeps kept) go) → IsNextAt ticket.name stand kept ⊎ (stand ≡ Down)
  next_at m session Down p sent kept go x is = inr refl
  next_at m session (Doing node deeds) p sent kept go x is =
      inl (keeps_next m session node x.0 p.reading deeds x.1 x.2 kept go x.5
      (some_same (skip x.1) (Does (Keeps kept) go) (sym x.3 ∙ is)))
  next_at m session (Hearing node old answer bytes) p sent kept go x is = absurd (no_end x.1 kept go (sym x.2 ∙ is))
    where
      no_end : (view : View) (kept : Record) (go : Bool → TurnTree) → Some (Ends view) ≡ Some (Does (Keeps kept) go) → ⊥
      no_end view kept go e = cc

  -- ---- what one entry leads to

  -- where a member was cut its host has stopped, or rests where it was
  abbrev pub AtCut : Stand → HostPlace → HostPlace → Type 0
  AtCut Down old new = (new.tree ≡ None) ⊎ (new ≡ old)
  AtCut stand old new = Unit {0}

  at_same : (stand : Stand) (p : HostPlace) → AtCut stand p p
  at_same Down p = inr refl
  at_same (Doing node deeds) p = tt
  at_same (Hearing node old answer bytes) p = tt

  -- entries of this member's host, at one true time, after which it stands so, in a session of this version
  pub record Steps (hosts : Hosts) (m : ℕ) (session : Session) (stand : Stand) (may : List Record) (R : Trace → Type 0) : Type 0 where
    pub entries : List HostEntry
    pub hosted_all : AreHosted cluster cast hosts entries
    pub own : IsOf cluster cast m hosts (hosts_after cluster cast hosts entries)
    pub here : Shows m session stand may hosts.now ((hosts_after cluster cast hosts entries).place m) (hosts_after cluster cast hosts entries).sent
    pub at_cut : AtCut stand (hosts.place m) ((hosts_after cluster cast hosts entries).place m)
    pub released : (z : Release) → IsHostReleaseIn cluster cast hosts entries z → R (Frees z)
    pub read : (k time : ℕ) → ReadsIn entries k time → R (Reads k time)
    pub started : (version : Bool) → StartsIn entries version → R (Begins version)

  -- nothing happens at the host
  pub rests_so : (hosts : Hosts) (m : ℕ) (session : Session) (stand : Stand) (may : List Record) (R : Trace → Type 0)
      → Shows m session stand may hosts.now (hosts.place m) hosts.sent → Steps hosts m session stand may R
  rests_so hosts m session stand may R x = record {
    entries = [];
    hosted_all = tt;
    own = of_none cluster cast m hosts;
    here = x;
    at_cut = at_same stand (hosts.place m);
    released = λ z r. absurd r;
    read = λ k t r. absurd r;
    started = λ b r. absurd r;
  }

  module _ (m : ℕ) (below : m < members_of w) where
    -- the only phase is open while the clocks run
    abbrev is_open_at : (hosts : Hosts) → hosts.now < w.span → IsOpen cluster cast m below hosts.now
    is_open_at hosts within session = is_open w setting.goes_on ticket session hosts.now within

    -- one entry at the host, and then what is said
    pub then_says : (hosts : Hosts) → hosts.now < w.span → (entry : HostEntry) (session : Session) (stand : Stand) (may : List Record) (R : Trace → Type 0) (tree : TurnTree)
        → MayHost cluster cast hosts entry → IsOf cluster cast m hosts (hosted cluster cast hosts entry)
        → ((hosted cluster cast hosts entry).place m).tree ≡ Some tree
        → ((p : HostPlace) → p.tree ≡ Some (skip tree) → p.reading ≡ ((hosted cluster cast hosts entry).place m).reading
        → p.may ≡ ((hosted cluster cast hosts entry).place m).may → p.session ≡ ((hosted cluster cast hosts entry).place m).session
        → Shows m session stand may hosts.now p (sent_under m tree (hosted cluster cast hosts entry).sent))
        → ((z : Release) → IsHostReleaseAt cluster hosts entry z → R (Frees z)) → ((k time : ℕ) → ReadsAt entry k time → R (Reads k time))
        → ((version : Bool) → StartsAt entry version → R (Begins version)) → ((p : HostPlace) → AtCut stand (hosts.place m) p)
        → Steps hosts m session stand may R
    then_says hosts within entry session stand may R tree may_do own is shows rel reading starting cut =
        let after : Hosts = hosted cluster cast hosts entry in
        let said : AreSaid cluster cast m below after tree = all_said cluster cast m below after tree (is_open_at after (let same = own.same_now in omega (arith, same, within))) is in
        let last : Hosts = hosts_after cluster cast after (says cluster cast m below tree) in
        record {
          entries = entry ∷ says cluster cast m below tree;
          hosted_all = (may_do, said.hosted_all);
          own = of_both cluster cast m hosts after last own said.own;
          here = subst (λ (sent : List MemberMessage). Shows m session stand may hosts.now (last.place m) sent) (sym said.all_sent)
              (shows (last.place m) said.tree_now said.same_reading said.same_may said.same_session);
          at_cut = cut (last.place m);
          released = λ z r. ⊎_elim (λ (x : IsHostReleaseAt cluster hosts entry z). rel z x)
              (λ (x : IsHostReleaseIn cluster cast after (says cluster cast m below tree) z). absurd (said.unreleased z x)) r;
          read = λ k t r. ⊎_elim (λ (x : ReadsAt entry k t). reading k t x)
              (λ (x : ReadsIn (says cluster cast m below tree) k t). absurd (said.unread k t x)) r;
          started = λ b r. ⊎_elim (λ (x : StartsAt entry b). starting b x)
              (λ (x : StartsIn (says cluster cast m below tree) b). absurd (said.unstarted b x)) r;
        }

    pub moved_one : (hosts : Hosts) (p : HostPlace) (sent : List MemberMessage) → SentMore hosts.sent sent
        → IsOf cluster cast m hosts (record { now = hosts.now; place = put hosts.place m p; sent = sent })
    moved_one hosts p sent more = record { same_now = refl; others = λ k ne. put_other hosts.place m k p ne; still_sent = more }

    -- a keep of this ticket is answered
    pub keeps_own : (hosts : Hosts) → hosts.now < w.span → (session : Session) (node : NodeConfig) (before stand : Stand) (may : List Record) (R : Trace → Type 0) (tried : Record) (ok : Bool)
        (go : Bool → Deeds Ask State) (tree : TurnTree) (known : List MemberMessage) (rest : Bool → TurnTree)
        → (own : Seats m session node) → stand ≡ Doing node (go ok)
        → Shows m session before may hosts.now (hosts.place m) hosts.sent
        → (hosts.place m).tree ≡ Some (skip tree) → SentAs m (sent_by tree known) hosts.sent
        → skip tree ≡ Does (Keeps tried) rest
        → Doings m session node own (hosts.place m).reading (sent_by tree known) (go ok) (rest ok)
        → ((z : Release) → IsHostReleaseAt cluster hosts (DoesAsk m (Keeps tried) ok) z → R (Frees z))
        → Steps hosts m session stand (may_after_keep ok tried may) R
    keeps_own hosts within session node before stand may R tried ok go tree known rest its stand_is x there more next_keep on rel =
        let at_keep : (hosts.place m).tree ≡ Some (Does (Keeps tried) rest) = there ∙ ap (λ (t : TurnTree). Some t) next_keep in
        then_says hosts within (DoesAsk m (Keeps tried) ok) session stand (may_after_keep ok tried may) R (rest ok)
        (below, subst (λ (o : Option TurnTree). IsSomeAnd o (IsNextAsk (Keeps tried))) (sym at_keep) refl, is_open_at hosts within (hosts.place m).session)
        (moved_one hosts _ hosts.sent (λ l h. h))
        (ap (λ (p : HostPlace). p.tree) (put_same hosts.place m _) ∙ ap (λ (o : Option TurnTree). went_on ok o) at_keep)
        (λ p tree_is reading_is may_is session_is. record {
          same_session = session_is ∙ ap (λ (q : HostPlace). q.session) (put_same hosts.place m _) ∙ x.same_session;
          same_may = may_is ∙ ap (λ (q : HostPlace). q.may) (put_same hosts.place m _) ∙ left_may ok;
          time = x.time;
          past = x.past;
          read = reading_is ∙ ap (λ (q : HostPlace). q.reading) (put_same hosts.place m _) ∙ x.read;
          stands = subst (λ (d : Stand). StandsAt m session d p (sent_under m (rest ok) hosts.sent)) (sym stand_is) (
            its,
            rest ok,
            sent_by tree known,
            tree_is,
            sent_as m (rest ok) (sent_by tree known) hosts.sent more,
            subst (λ (r : ℕ). Doings m session node its r (sent_by tree known) (go ok) (rest ok))
                (sym (reading_is ∙ ap (λ (q : HostPlace). q.reading) (put_same hosts.place m _))) on,
          );
        })
        rel (λ k t r. absurd r) (λ b r. absurd r)
        (λ p. subst (λ (d : Stand). AtCut d (hosts.place m) p) (sym stand_is) tt)
      where
        left_may : (b : Bool) → may_left (Keeps tried) b (hosts.place m).may ≡ may_after_keep b tried may
        left_may true = refl
        left_may false = ap (λ (rs : List Record). tried ∷ rs) x.same_may

    -- ---- something else is asked for

    abbrev asked_hosts : Bool → Hosts → Hosts
    asked_hosts ok hosts = hosted cluster cast hosts (DoesAsk m AsksElse ok)

    abbrev ShowsAt : Hosts → Session → Stand → List Record → TurnTree → Type 0
    ShowsAt hosts session stand may tree =
        (p : HostPlace) → p.tree ≡ Some (skip tree) → p.reading ≡ (hosts.place m).reading → p.may ≡ (hosts.place m).may
        → p.session ≡ (hosts.place m).session
        → Shows m session stand may hosts.now p (sent_under m tree hosts.sent)

    asked_tree : (ok : Bool) (hosts : Hosts) (go : Bool → TurnTree) (tree : TurnTree) → (hosts.place m).tree ≡ Some (Does AsksElse go) → go ok ≡ tree
        → ((asked_hosts ok hosts).place m).tree ≡ Some tree
    asked_tree ok hosts go tree there is =
        ap (λ (p : HostPlace). p.tree) (put_same hosts.place m _) ∙ ap (λ (o : Option TurnTree). went_on ok o) there ∙ ap (λ (t : TurnTree). Some t) is

    asked_shows : (ok : Bool) (hosts : Hosts) (session : Session) (stand : Stand) (may : List Record) (tree : TurnTree) → ShowsAt hosts session stand may tree
        → ShowsAt (asked_hosts ok hosts) session stand may tree
    asked_shows ok hosts session stand may tree shows =
        λ p tree_is reading_is may_is session_is. shows p tree_is (reading_is ∙ ap (λ (q : HostPlace). q.reading) (put_same hosts.place m _))
        (may_is ∙ ap (λ (q : HostPlace). q.may) (put_same hosts.place m _))
        (session_is ∙ ap (λ (q : HostPlace). q.session) (put_same hosts.place m _))

    -- it is answered, and then what follows is said
    asked_once : (ok : Bool) (hosts : Hosts) → hosts.now < w.span → (go : Bool → TurnTree) (session : Session) (stand : Stand) (may : List Record) (R : Trace → Type 0) (tree : TurnTree)
        → (hosts.place m).tree ≡ Some (Does AsksElse go) → go ok ≡ tree → ShowsAt hosts session stand may tree
        → ((old new : HostPlace) → AtCut stand old new) → Steps hosts m session stand may R
    asked_once ok hosts within go session stand may R tree there is shows cut =
        then_says hosts within (DoesAsk m AsksElse ok) session stand may R tree (at_ask cluster cast m below hosts AsksElse ok go (is_open_at hosts within) there)
        (moved_one hosts _ hosts.sent (λ l h. h)) (asked_tree ok hosts go tree there is) (asked_shows ok hosts session stand may tree shows)
        (λ z r. absurd r) (λ k t r. absurd r) (λ b r. absurd r) (λ p. cut (hosts.place m) p)

    -- it is answered, and then what else is asked for so, and then what follows is said
    asked : (ok : Bool) (answers : List Bool) (hosts : Hosts) → hosts.now < w.span → (go : Bool → TurnTree) (session : Session) (stand : Stand) (may : List Record) (R : Trace → Type 0)
        → (hosts.place m).tree ≡ Some (Does AsksElse go) → ShowsAt hosts session stand may (later answers (go ok))
        → ((old new : HostPlace) → AtCut stand old new) → Steps hosts m session stand may R
    asked ok [] hosts within go session stand may R there shows cut = asked_once ok hosts within go session stand may R (go ok) there refl shows cut
    asked ok (b ∷ more) hosts within go session stand may R there shows cut =
        by_tree (go ok) refl shows (λ on is shows_then. asked b more (asked_hosts ok hosts) within on session stand may R is shows_then cut)
      where
        by_tree : (tree : TurnTree) → go ok ≡ tree → ShowsAt hosts session stand may (later (b ∷ more) tree)
            → ((on : Bool → TurnTree) → ((asked_hosts ok hosts).place m).tree ≡ Some (Does AsksElse on)
            → ShowsAt (asked_hosts ok hosts) session stand may (later more (on b)) → Steps (asked_hosts ok hosts) m session stand may R)
            → Steps hosts m session stand may R
        by_tree (Ends view) is shows_then on_more = asked_once ok hosts within go session stand may R (Ends view) there is shows_then cut
        by_tree (Does (Keeps kept) on) is shows_then on_more = asked_once ok hosts within go session stand may R (Does (Keeps kept) on) there is shows_then cut
        by_tree (Does (Sends message) on) is shows_then on_more = asked_once ok hosts within go session stand may R (Does (Sends message) on) there is shows_then cut
        by_tree (Does AsksElse on) is shows_then on_more =
            let rest : Steps (asked_hosts ok hosts) m session stand may R =
            on_more on (asked_tree ok hosts go (Does AsksElse on) there is) (asked_shows ok hosts session stand may (later more (on b)) shows_then) in
            record {
              entries = DoesAsk m AsksElse ok ∷ rest.entries;
              hosted_all = (at_ask cluster cast m below hosts AsksElse ok go (is_open_at hosts within) there, rest.hosted_all);
              own = of_both cluster cast m hosts (asked_hosts ok hosts) (hosts_after cluster cast (asked_hosts ok hosts) rest.entries)
                  (moved_one hosts _ hosts.sent (λ l h. h)) rest.own;
              here = rest.here;
              at_cut = cut (hosts.place m) ((hosts_after cluster cast (asked_hosts ok hosts) rest.entries).place m);
              released = λ z r. ⊎_elim (λ (x : ⊥). absurd x) (λ x. rest.released z x) r;
              read = λ k t r. ⊎_elim (λ (x : ⊥). absurd x) (λ x. rest.read k t x) r;
              started = λ b r. ⊎_elim (λ (x : ⊥). absurd x) (λ x. rest.started b x) r;
            }

    -- a start of this ticket's handler is answered
    pub starts_own : (hosts : Hosts) → hosts.now < w.span → (session : Session) (node : NodeConfig) (before stand : Stand) (may : List Record) (R : Trace → Type 0) (ok : Bool)
        (answers : List Bool) (go : Bool → Deeds Ask State) (tree : TurnTree) (known : List MemberMessage) (rest : Bool → TurnTree)
        → (own : Seats m session node) → stand ≡ Doing node (go ok)
        → Shows m session before may hosts.now (hosts.place m) hosts.sent
        → (hosts.place m).tree ≡ Some (skip tree) → SentAs m (sent_by tree known) hosts.sent
        → skip tree ≡ Does AsksElse rest
        → Doings m session node own (hosts.place m).reading (sent_by tree known) (go ok) (later answers (rest ok))
        → Steps hosts m session stand may R
    starts_own hosts within session node before stand may R ok answers go tree known rest its stand_is x there more next_start on =
        asked ok answers hosts within rest session stand may R (there ∙ ap (λ (t : TurnTree). Some t) next_start)
        (λ p tree_is reading_is may_is session_is. record {
          same_session = session_is ∙ x.same_session;
          same_may = may_is ∙ x.same_may;
          time = x.time;
          past = x.past;
          read = reading_is ∙ x.read;
          stands = subst (λ (d : Stand). StandsAt m session d p (sent_under m (later answers (rest ok)) hosts.sent)) (sym stand_is) (
            its,
            later answers (rest ok),
            sent_by tree known,
            tree_is,
            sent_as m (later answers (rest ok)) (sent_by tree known) hosts.sent more,
            subst (λ (r : ℕ). Doings m session node its r (sent_by tree known) (go ok) (later answers (rest ok))) (sym reading_is) on,
          );
        })
        (λ old new. subst (λ (d : Stand). AtCut d old new) (sym stand_is) tt)
