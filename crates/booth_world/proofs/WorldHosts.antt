-- Entries of a world are entries of the hosts of one ticket.
use Rattle.std.proofs.Common.{◌≡◌, ◌≢◌, ◌⊎◌, ⊎_elim, inl, inr, ℕ, ◌<◌, ◌≤◌, Bool, true, false, List, [], ◌∷◌, ◌++◌, refl, sym, ap, ◌∙◌, subst, arith, if◌then◌else◌}
use Rattle.std.specs.Prelude.{Option, Some, None, is_some, position, slice_get, ◌==◌, Result, Ok}
use Rattle.std.proofs.lemmas.Bool.Decides.{nat_tests}
use Rattle.std.proofs.lemmas.List.Quantifiers.{position-Some}
use Rattle.std.proofs.lemmas.Option.{get_or_from_slice_get}
use Rattle.booth_base.specs.Tree.{Deeds, Ends, Does}
use Rattle.booth_base.specs.declared.address.MemberId.{MemberId}
use Rattle.booth_base.specs.declared.address.Peer.{Peer}
use Rattle.booth_conf.specs.Config.{has_id}
use Rattle.booth_conf.specs.Lookups.{is_called}
use Rattle.booth_conf.specs.declared.members.Member.{Member}
use Rattle.booth_conf.specs.declared.tickets.TicketConf.{TicketConf}
use Rattle.booth_rec.specs.declared.record.Record.{Record}
use Rattle.booth_wire.specs.declared.command.Direction.TheVariants.{BetweenMembers}
use Rattle.booth_wire.specs.declared.message.FrameFault.{FrameFault}
use Rattle.booth_wire.specs.declared.message.Head.{Head}
use Rattle.booth_wire.specs.declared.message.TicketPart.{TicketPart}
use Rattle.booth_wire.specs.Command.{direction_of}
use Rattle.booth_wire.specs.PlainMessage.{PlainMessage, Ticket}
use Rattle.booth_wire.specs.Reading.{decoded}
use Rattle.booth_wire.specs.Spelling.{Fits}
use Rattle.booth_auth.specs.Sealed.{stamped_head, sealed}
use Rattle.booth_auth.specs.Verdict.{verdict}
use Rattle.booth_auth.proofs.SealLemmas.{sealed_read}
use Rattle.booth_host.specs.declared.host.Arrival.TheVariants as arrivals
use Rattle.booth_host.specs.declared.entry.Entry.{Entry}
use Rattle.booth_host.specs.declared.entry.Entry.TheVariants as calls
use Rattle.booth_node.specs.declared.node_config.NodeConfig.{NodeConfig}
use Rattle.booth_node.specs.Reaction.{Ask, Send, Keep, Start, used}
use Rattle.booth_node.specs.Records.{IsSilent, MayRead, GoesOn, Has as Holds, may_after, may_after_all}
use Rattle.booth_node.specs.Session.{CutSend, SessionEntry, Starts, Makes, IsCut, Stand, Down, Doing, Hearing, MayMake, MayDo, after_call, after_entry, AreSessions, after_entries}
use Rattle.booth_node.specs.State.{State}
use Rattle.booth_node.specs.World.{WorldEntry, World, members_of, id_at, IsNodeOf, entries_of, last_time, WasSecond, IsSend, WasSent, HearsSent, stand_after, begins_with, IsUntimedWorld}
use Rattle.booth_world.specs.Reading.{MayBeRead, IsLaterOrKept}
use Rattle.booth_world.specs.Cores.{Session}
use Rattle.booth_world.specs.States.{reads}
use Rattle.booth_world.specs.Facts.{Has}
use Rattle.booth_world.specs.Rules.{MemberMessage}
use Rattle.booth_world.specs.Turns.{Keeps, TurnTree}
use Rattle.booth_world.specs.Hosts.{HostEntry, HostPlace, Hosts, hosts_after}
use Rattle.booth_world.specs.Shadows.{IsComing, LastStand, has_ticket, last_after, last_after_all, second_after, second_after_all}
use Rattle.booth_world.proofs.Lists.{some_same}
use Rattle.booth_world.proofs.AbsentTurns.{IsUnspoken, IsWithout, Quiet}
use Rattle.booth_world.proofs.HostRuns.{SentAs}
use Rattle.booth_world.proofs.Mirrors.{sent_by, SentMore, IsSpoken}
use Rattle.booth_world.proofs.NodeActions.{IsLetIn}
use Rattle.booth_world.proofs.WorldSteps.{Setting, Seats, equal_bytes, cluster, setup_at, cast, StandsAt, stands_more, Shows}
use Rattle.booth_world.proofs.WorldEntries.{when_true, when_false}

-- ---- lists of entries

pub has_here : {A : Type 0} (xs : List A) (x : A) → Holds xs x → Has xs x
has_here [] x h = h
has_here (y ∷ ys) x (inl e) = inl e
has_here (y ∷ ys) x (inr h) = inr (has_here ys x h)

-- what a start of the world may read
pub read_here : (site : Bool) (may : List Record) (k : Record) → MayRead site may k → MayBeRead site may k
read_here site may k read = ⊎_elim
    (λ (h : Holds may k). inl (has_here may k h))
    (λ (silent : IsSilent site may k). inr (record { bare = silent.bare; reaches = λ is. let y = silent.reaches is in (y.0, has_here may y.0 y.1, y.2) }))
    read

pub goes_here : (may : List Record) (k : Record) → GoesOn may k → IsLaterOrKept may k
goes_here may k goes = ⊎_elim
    (λ (h : Holds may k). inl (has_here may k h))
    (λ (y : (z : Record) × Holds may z × (z.term < k.term)). inr (y.0, has_here may y.0 y.1, y.2))
    goes

pub entries_join : (m : ℕ) (xs ys : List WorldEntry) → entries_of m (xs ++ ys) ≡ entries_of m xs ++ entries_of m ys
entries_join m [] ys = refl
entries_join m (x ∷ xs) ys = by_test (x.member == m) (entries_join m xs ys)
  where
    by_test : (b : Bool) → entries_of m (xs ++ ys) ≡ entries_of m xs ++ entries_of m ys
        → (if b then x.what ∷ entries_of m (xs ++ ys) else entries_of m (xs ++ ys))
        ≡ (if b then x.what ∷ entries_of m xs else entries_of m xs) ++ entries_of m ys
    by_test true e = ap (λ (zs : List SessionEntry). x.what ∷ zs) e
    by_test false e = e

pub entry_own : (m : ℕ) (x : WorldEntry) (xs : List WorldEntry) → x.member ≡ m → entries_of m (x ∷ xs) ≡ x.what ∷ entries_of m xs
entry_own m x xs e = by_test (x.member == m) refl
  where
    by_test : (b : Bool) → (x.member == m) ≡ b → (if b then x.what ∷ entries_of m xs else entries_of m xs) ≡ x.what ∷ entries_of m xs
    by_test true t = refl
    by_test false t = absurd (grind (arith, nat_tests))

pub entry_other : (m : ℕ) (x : WorldEntry) (xs : List WorldEntry) → x.member ≢ m → entries_of m (x ∷ xs) ≡ entries_of m xs
entry_other m x xs ne = by_test (x.member == m) refl
  where
    by_test : (b : Bool) → (x.member == m) ≡ b → (if b then x.what ∷ entries_of m xs else entries_of m xs) ≡ entries_of m xs
    by_test true t = absurd (ne (grind (arith, nat_tests)))
    by_test false t = refl

after_entries_join : (stand : Stand) (xs ys : List SessionEntry) → after_entries stand (xs ++ ys) ≡ after_entries (after_entries stand xs) ys
after_entries_join stand [] ys = refl
after_entries_join stand (x ∷ xs) ys = after_entries_join (after_entry stand x) xs ys

pub may_join : (name : List ℕ) (may : List Record) (xs ys : List SessionEntry)
    → may_after_all name may (xs ++ ys) ≡ may_after_all name (may_after_all name may xs) ys
may_join name may [] ys = refl
may_join name may (x ∷ xs) ys = may_join name (may_after name may x) xs ys

second_join : (name : List ℕ) (second : Bool) (xs ys : List SessionEntry)
    → second_after_all name second (xs ++ ys) ≡ second_after_all name (second_after_all name second xs) ys
second_join name second [] ys = refl
second_join name second (x ∷ xs) ys = second_join name (second_after name second x) xs ys

pub last_join : (name : List ℕ) (last : LastStand) (xs ys : List SessionEntry)
    → last_after_all name last (xs ++ ys) ≡ last_after_all name (last_after_all name last xs) ys
last_join name last [] ys = refl
last_join name last (x ∷ xs) ys = last_join name (last_after name last x) xs ys

-- a member whose last session that has the ticket is of version 2 started in it
pub was_second : (name : List ℕ) (second : Bool) (xs : List SessionEntry) → second_after_all name second xs ≡ true → (second ≡ true) ⊎ WasSecond xs
was_second name second [] is = inl is
was_second name second (Starts node reading records ∷ xs) is = by_ticket (has_ticket name node) (λ b so. was_second name b xs so) is
  where
    by_ticket : (b : Bool) → ((was : Bool) → second_after_all name was xs ≡ true → (was ≡ true) ⊎ WasSecond xs)
        → second_after_all name (if b then node.second else second) xs ≡ true → (second ≡ true) ⊎ ((node.second ≡ true) ⊎ WasSecond xs)
    by_ticket true rest so = inr (rest node.second so)
    by_ticket false rest so = ⊎_elim (λ (a : second ≡ true). inl a) (λ (b : WasSecond xs). inr (inr b)) (rest second so)
was_second name second (Makes call ∷ xs) is = was_second name second xs is
was_second name second (IsCut call ∷ xs) is = was_second name second xs is

pub sessions_at : (stand : Stand) (xs ys : List SessionEntry) (x : SessionEntry) → AreSessions stand (xs ++ x ∷ ys) → MayDo (after_entries stand xs) x
sessions_at stand [] ys x are = are.0
sessions_at stand (y ∷ xs) ys x are = sessions_at (after_entry stand y) xs ys x are.1

pub stand_own : (m : ℕ) (before : List WorldEntry) (e : WorldEntry) → e.member ≡ m → stand_after m (before ++ e ∷ []) ≡ after_entry (stand_after m before) e.what
stand_own m before e is =
    ap (λ (xs : List SessionEntry). after_entries Down xs) (entries_join m before (e ∷ []) ∙ ap (λ (xs : List SessionEntry). entries_of m before ++ xs) (entry_own m e [] is))
    ∙ after_entries_join Down (entries_of m before) (e.what ∷ [])

pub append_none : {A : Type 0} (xs : List A) → xs ++ [] ≡ xs
append_none [] = refl
append_none (x ∷ xs) = ap (λ ys. x ∷ ys) (append_none xs)

pub other_last : (m : ℕ) (before : List WorldEntry) (e : WorldEntry) → e.member ≢ m → entries_of m (before ++ e ∷ []) ≡ entries_of m before
other_last m before e ne =
    entries_join m before (e ∷ []) ∙ ap (λ (xs : List SessionEntry). entries_of m before ++ xs) (entry_other m e [] ne) ∙ append_none (entries_of m before)

pub last_of : (time : ℕ) (xs : List WorldEntry) (e : WorldEntry) → last_time time (xs ++ e ∷ []) ≡ e.time
last_of time [] e = refl
last_of time (x ∷ xs) e = last_of x.time xs e

pub in_either : (xs : List WorldEntry) (e x : WorldEntry) → Holds (xs ++ e ∷ []) x → Holds xs x ⊎ (e ≡ x)
in_either [] e x (inl is) = inr is
in_either [] e x (inr h) = absurd h
in_either (y ∷ ys) e x (inl is) = inl (inl is)
in_either (y ∷ ys) e x (inr h) = ⊎_elim (λ (a : Holds ys x). inl (inr a)) (λ (b : e ≡ x). inr b) (in_either ys e x h)

same_message : (r : Result PlainMessage FrameFault) (a b : PlainMessage) → r ≡ Ok a → r ≡ Ok b → a ≡ b
same_message r a b e f = cc

-- nothing happened yet
abbrev pub no_stand : LastStand
no_stand = record { now = false; stand = Down }

pub last_makes : (name : List ℕ) (last : LastStand) (call : Entry) → last.now ≡ true
    → last_after name last (Makes call) ≡ record { now = true; stand = after_call last.stand call }
last_makes name last call on = when_true last.now _ _ on

pub last_rests : (name : List ℕ) (last : LastStand) (call : Entry) → last.now ≡ false → last_after name last (Makes call) ≡ last
last_rests name last call off = when_false last.now _ _ off

pub has_one : (name : List ℕ) (node : NodeConfig) (place : ℕ) → position (is_called name) node.config.tickets ≡ Some place → has_ticket name node ≡ true
has_one name node place is = ap (λ (o : Option ℕ). is_some o) is

pub has_none : (name : List ℕ) (node : NodeConfig) → position (is_called name) node.config.tickets ≡ None → has_ticket name node ≡ false
has_none name node is = ap (λ (o : Option ℕ). is_some o) is

pub up_after : (stand : Stand) (call : Entry) → MayMake stand call → after_call stand call ≡ Down → ⊥
up_after (Doing node (Ends old)) (calls.Next wait answer bytes) d is = cc
up_after (Doing node (Ends old)) call d is = absurd d
up_after (Doing node (Does ask go)) call d is = cc
up_after (Hearing node old answer bytes) (calls.Now reading) d is = cc
up_after (Hearing node old answer bytes) call d is = absurd d
up_after Down call d is = absurd d

pub no_call : (stand : Stand) (call : Entry) → stand ≡ Down → MayMake stand call → ⊥
no_call stand call e d = subst (λ (s : Stand). MayMake s call) e d

module _ (w : World) (is_world : IsUntimedWorld w) (ticket : TicketConf) (setting : Setting w ticket) where
  abbrev pub may_of : ℕ → List WorldEntry → List Record
  may_of m before = may_after_all ticket.name (begins_with w m ticket.name ∷ []) (entries_of m before)

  abbrev pub after_hosts : Hosts → List HostEntry → Hosts
  after_hosts hosts entries = hosts_after (cluster w ticket setting) (cast w ticket setting) hosts entries

  -- a message of this ticket that a member sent is one of these messages, but for its stamp
  abbrev pub IsSaidBy : List MemberMessage → ℕ → PlainMessage → Type 0
  IsSaidBy sent m message =
      (part : TicketPart) → direction_of message.head.cmd ≡ BetweenMembers → message.content ≡ Ticket part → part.ticket ≡ ticket.name
      → (head : Head) × (auth : Bool) × (time : ℕ) × (message.head ≡ stamped_head auth time head)
      × Has sent (record { sender = m; head = head; part = part })

  -- ---- where a member stands

  -- a member in a session without the ticket
  abbrev pub IdlesAt : ℕ → Stand → Type 0
  IdlesAt m Down = ⊥
  IdlesAt m (Doing node deeds) =
      IsNodeOf w m node × Quiet ticket.name node deeds × (position (is_called ticket.name) node.config.tickets ≡ None)
  IdlesAt m (Hearing node old answer bytes) =
      IsNodeOf w m node × IsWithout ticket.name old × (position (is_called ticket.name) node.config.tickets ≡ None)

  -- it is down, or in a session that has the ticket, which is its last one; or in one that has not, where its host is
  -- as the last one left it
  abbrev pub IsAt : ℕ → Stand → LastStand → HostPlace → List MemberMessage → Type 0
  IsAt m stand last p sent =
      (StandsAt w ticket setting m p.session stand p sent × ((stand ≡ Down) ⊎ ((last.now ≡ true) × (stand ≡ last.stand))))
      ⊎ (IdlesAt m stand × (last.now ≡ false))

  pub record Placed (m : ℕ) (stand : Stand) (may : List Record) (second : Bool) (last : LastStand) (now : ℕ) (p : HostPlace) (sent : List MemberMessage)
      : Type 0 where
    pub same_may : p.may ≡ may
    pub version : p.session.second ≡ second
    pub time : ℕ
    pub past : time ≤ now
    pub read : p.reading ≡ reads (cluster w ticket setting) m time
    pub at : IsAt m stand last p sent

  -- after these entries of the member
  abbrev pub PlacedAfter : ℕ → List SessionEntry → ℕ → HostPlace → List MemberMessage → Type 0
  PlacedAfter m xs now p sent =
      Placed m (after_entries Down xs) (may_after_all ticket.name (begins_with w m ticket.name ∷ []) xs)
      (second_after_all ticket.name (w.begins m).second xs) (last_after_all ticket.name no_stand xs) now p sent

  pub placed_on : (m : ℕ) (xs : List SessionEntry) (what : SessionEntry) (now : ℕ) (p : HostPlace) (sent : List MemberMessage)
      → Placed m (after_entry (after_entries Down xs) what) (may_after ticket.name (may_after_all ticket.name (begins_with w m ticket.name ∷ []) xs) what)
      (second_after ticket.name (second_after_all ticket.name (w.begins m).second xs) what)
      (last_after ticket.name (last_after_all ticket.name no_stand xs) what) now p sent
      → PlacedAfter m (xs ++ what ∷ []) now p sent
  placed_on m xs what now p sent x =
      subst (λ (s : Stand). Placed m s (may_after_all ticket.name (begins_with w m ticket.name ∷ []) (xs ++ what ∷ []))
      (second_after_all ticket.name (w.begins m).second (xs ++ what ∷ [])) (last_after_all ticket.name no_stand (xs ++ what ∷ [])) now p sent)
      (sym (after_entries_join Down xs (what ∷ [])))
      (subst (λ (rs : List Record). Placed m (after_entry (after_entries Down xs) what) rs
      (second_after_all ticket.name (w.begins m).second (xs ++ what ∷ [])) (last_after_all ticket.name no_stand (xs ++ what ∷ [])) now p sent)
      (sym (may_join ticket.name (begins_with w m ticket.name ∷ []) xs (what ∷ [])))
      (subst (λ (b : Bool). Placed m (after_entry (after_entries Down xs) what)
      (may_after ticket.name (may_after_all ticket.name (begins_with w m ticket.name ∷ []) xs) what) b
      (last_after_all ticket.name no_stand (xs ++ what ∷ [])) now p sent)
      (sym (second_join ticket.name (w.begins m).second xs (what ∷ [])))
      (subst (λ (l : LastStand). Placed m (after_entry (after_entries Down xs) what)
      (may_after ticket.name (may_after_all ticket.name (begins_with w m ticket.name ∷ []) xs) what)
      (second_after ticket.name (second_after_all ticket.name (w.begins m).second xs) what) l now p sent)
      (sym (last_join ticket.name no_stand xs (what ∷ []))) x)))

  -- the same later, when more was said
  pub placed_more : (m : ℕ) (stand : Stand) (may : List Record) (second : Bool) (last : LastStand) (now now' : ℕ) (p : HostPlace)
      (sent sent' : List MemberMessage) → now ≤ now' → SentMore sent sent' → Placed m stand may second last now p sent
      → Placed m stand may second last now' p sent'
  placed_more m stand may second last now now' p sent sent' later more x = record {
    same_may = x.same_may;
    version = x.version;
    time = x.time;
    past = let old = x.past in omega (arith, old, later);
    read = x.read;
    at = ⊎_elim
        (λ (y : StandsAt w ticket setting m p.session stand p sent × ((stand ≡ Down) ⊎ ((last.now ≡ true) × (stand ≡ last.stand)))).
        inl (stands_more w ticket setting m p.session stand p sent sent' more y.0, y.1))
        (λ (y : IdlesAt m stand × (last.now ≡ false)). inr y) x.at;
  }

  pub shows_of : (m : ℕ) (stand : Stand) (may : List Record) (second : Bool) (last : LastStand) (now : ℕ) (p : HostPlace) (sent : List MemberMessage)
      → Placed m stand may second last now p sent → StandsAt w ticket setting m p.session stand p sent
      → Shows w ticket setting m p.session stand may now p sent
  shows_of m stand may second last now p sent x stands =
      record { same_session = refl; same_may = x.same_may; time = x.time; past = x.past; read = x.read; stands = stands }

  pub placed_of : (m : ℕ) (session : Session) (stand : Stand) (may : List Record) (second : Bool) (last : LastStand) (now : ℕ) (p : HostPlace)
      (sent : List MemberMessage) → Shows w ticket setting m session stand may now p sent → session.second ≡ second
      → (stand ≡ Down) ⊎ ((last.now ≡ true) × (stand ≡ last.stand)) → Placed m stand may second last now p sent
  placed_of m session stand may second last now p sent x version where_last = record {
    same_may = x.same_may;
    version = ap (λ (s : Session). s.second) x.same_session ∙ version;
    time = x.time;
    past = x.past;
    read = x.read;
    at = inl (subst (λ (s : Session). StandsAt w ticket setting m s stand p sent) (sym x.same_session) x.stands, where_last);
  }

  -- The hosts stand where these entries of the world leave its members.
  pub record Shadows (before : List WorldEntry) (hosts : Hosts) : Type 0 where
    pub each : (m : ℕ) → m < members_of w → PlacedAfter m (entries_of m before) hosts.now (hosts.place m) hosts.sent
    pub said : (entry : WorldEntry) → Holds before entry → (bytes : List ℕ) → IsSend entry.what bytes → (message : PlainMessage)
        → decoded bytes ≡ Ok message → IsSaidBy hosts.sent entry.member message
    pub coming : (m : ℕ) → m < members_of w → (kept : Record) (go : Bool → TurnTree) → (hosts.place m).tree ≡ Some (Does (Keeps kept) go)
        → IsComing ticket.name (entries_of m before) kept

  -- ---- what was sent

  sealed_said : (m : ℕ) (session : Session) (node : NodeConfig) (message' message : PlainMessage) (bytes : List ℕ) (known sent : List MemberMessage)
      → SentAs m known sent → IsSpoken node (setup_at w ticket setting m session) known message'
      → bytes ≡ sealed node.ring message' → Fits message' → decoded bytes ≡ Ok message → IsSaidBy sent m message
  sealed_said m session node message' message bytes known sent more spoken bytes_are fits read part between is named =
      let same : message' ≡ message =
      same_message (decoded bytes) message' message (ap decoded bytes_are ∙ sealed_read node.ring message' fits spoken.truly) read in
      let q = spoken.spoken part (ap (λ (l : PlainMessage). direction_of l.head.cmd) same ∙ between)
      (ap (λ (l : PlainMessage). l.content) same ∙ is) named in (
        q.0,
        is_some node.ring,
        q.1,
        ap (λ (l : PlainMessage). l.head) (sym same) ∙ q.2,
        more (record { sender = m; head = q.0; part = part }) q.3,
      )

  -- in a session without the ticket nothing is said of it
  quietly_said : (m : ℕ) (node : NodeConfig) (message' message : PlainMessage) (bytes : List ℕ) (sent : List MemberMessage)
      → IsUnspoken ticket.name node message'
      → bytes ≡ sealed node.ring message' → Fits message' → decoded bytes ≡ Ok message → IsSaidBy sent m message
  quietly_said m node message' message bytes sent unspoken bytes_are fits read part between is named =
      let same : message' ≡ message =
      same_message (decoded bytes) message' message (ap decoded bytes_are ∙ sealed_read node.ring message' fits unspoken.truly) read in
      absurd (unspoken.unspoken part (ap (λ (l : PlainMessage). direction_of l.head.cmd) same ∙ between)
      (ap (λ (l : PlainMessage). l.content) same ∙ is) named)

  sends_said : (m : ℕ) (last : LastStand) (p : HostPlace) (sent : List MemberMessage) (node : NodeConfig) (peer : Peer) (message' : PlainMessage)
      (go : Bool → Deeds Ask State) → IsAt m (Doing node (Does (Send peer message') go)) last p sent
      → (sent_bytes bytes : List ℕ) (message : PlainMessage) → sent_bytes ≡ sealed node.ring message' → Fits message' → sent_bytes ≡ bytes
      → decoded bytes ≡ Ok message → IsSaidBy sent m message
  sends_said m last p sent node peer message' go (inl x) sent_bytes bytes message sealed_so fits is read =
      sealed_said m p.session node message' message bytes (sent_by x.0.1 x.0.2) sent x.0.4 x.0.5.0 (sym is ∙ sealed_so) fits read
  sends_said m last p sent node peer message' go (inr x) sent_bytes bytes message sealed_so fits is read =
      quietly_said m node message' message bytes sent x.0.1.0 (sym is ∙ sealed_so) fits read

  pub send_said : (m : ℕ) (stand : Stand) (what : SessionEntry) (last : LastStand) (p : HostPlace) (sent : List MemberMessage)
      → IsAt m stand last p sent → MayDo stand what → (bytes : List ℕ) → IsSend what bytes → (message : PlainMessage)
      → decoded bytes ≡ Ok message → IsSaidBy sent m message
  send_said m (Doing node (Does (Send peer message') go)) (Makes (calls.Send to sent_bytes answer)) last p sent x d bytes is message read =
      sends_said m last p sent node peer message' go x sent_bytes bytes message d.1 d.2 is read
  send_said m (Doing node (Does (Keep name tried) go)) (Makes (calls.Send to sent_bytes answer)) last p sent x d bytes is message read = absurd d
  send_said m (Doing node (Does (Start job) go)) (Makes (calls.Send to sent_bytes answer)) last p sent x d bytes is message read = absurd d
  send_said m (Doing node (Ends old)) (Makes (calls.Send to sent_bytes answer)) last p sent x d bytes is message read = absurd d
  send_said m Down (Makes (calls.Send to sent_bytes answer)) last p sent x d bytes is message read = absurd d
  send_said m (Hearing node old got into) (Makes (calls.Send to sent_bytes answer)) last p sent x d bytes is message read = absurd d
  send_said m (Doing node (Does (Send peer message') go)) (IsCut (CutSend to sent_bytes)) last p sent x d bytes is message read =
      sends_said m last p sent node peer message' go x sent_bytes bytes message d.1 d.2 is read
  send_said m (Doing node (Does (Keep name tried) go)) (IsCut (CutSend to sent_bytes)) last p sent x d bytes is message read = absurd d
  send_said m (Doing node (Does (Start job) go)) (IsCut (CutSend to sent_bytes)) last p sent x d bytes is message read = absurd d
  send_said m (Doing node (Ends old)) (IsCut (CutSend to sent_bytes)) last p sent x d bytes is message read = absurd d
  send_said m Down (IsCut (CutSend to sent_bytes)) last p sent x d bytes is message read = absurd d
  send_said m (Hearing node old got into) (IsCut (CutSend to sent_bytes)) last p sent x d bytes is message read = absurd d
  send_said m stand what last p sent x d bytes is message read = absurd is

  -- ---- what is heard

  named_so : (node : NodeConfig) (place : ℕ) (conf : TicketConf) (part : TicketPart) → slice_get node.config.tickets place ≡ Some conf
      → conf.name ≡ ticket.name → position (is_called part.ticket) node.config.tickets ≡ Some place → part.ticket ≡ ticket.name
  named_so node place conf part there named at =
      let q = position-Some (is_called part.ticket) node.config.tickets place conf at in
      equal_bytes part.ticket conf.name
      (subst (λ (t : TicketConf). is_called part.ticket t ≡ true) (get_or_from_slice_get node.config.tickets place conf conf there) q.1)
      ∙ named

  pub hears_so : (m : ℕ) (session : Session) (before : List WorldEntry) (hosts : Hosts) (node : NodeConfig) (old : State) (from : Peer) (bytes : List ℕ) (reading : ℕ) (moment : ℕ)
      → Shadows before hosts → (its : Seats w ticket setting m session node) → used old.last_reading reading ≡ moment
      → HearsSent w before (Hearing node old (Ok (arrivals.Datagram from)) bytes) (Makes (calls.Now reading))
      → ((entry : WorldEntry) → Holds before entry → entry.member < members_of w)
      → (sent : List MemberMessage) → sent ≡ hosts.sent
      → (member : ℕ) (head : Head) (part : TicketPart)
      → IsLetIn node (verdict node.config node.ring node.me moment bytes) member its.place head part
      → (plain : Head) × (auth : Bool) × (time : ℕ) × (head ≡ stamped_head auth time plain)
      × Has sent (record { sender = member; head = plain; part = part }) × (plain.from ≡ id_at w member) × (member < members_of w)
  hears_so m session before hosts node old from bytes reading moment shadow its used_so heard members sent same member head part x =
      let let_in : verdict node.config node.ring node.me (used old.last_reading reading) bytes ≡ Ok x.message =
      ap (λ (t : ℕ). verdict node.config node.ring node.me t bytes) used_so ∙ x.let_in in
      let was : WasSent w before x.message = heard x.message let_in x.between in
      let q = shadow.said was.entry was.earlier was.bytes was.sent x.message was.same part x.between x.content_is
      (named_so node its.place its.conf part its.there its.named x.about) in
      let at : position (has_id (id_at w was.entry.member)) w.members ≡ Some member =
      ap (λ (i : MemberId). position (has_id i) w.members) (was.sender ∙ ap (λ (h : Head). h.from) x.head_is)
      ∙ ap (λ (ms : List Member). position (has_id head.from) ms) (sym its.own.members) ∙ x.from in
      let same_member : was.entry.member ≡ member =
      some_same was.entry.member member (sym (setting.ids was.entry.member (members was.entry was.earlier)) ∙ at) in (
        q.0,
        q.1,
        q.2,
        sym x.head_is ∙ q.3,
        subst (λ (n : ℕ). Has sent (record { sender = n; head = q.0; part = part })) same_member
            (subst (λ (ls : List MemberMessage). Has ls (record { sender = was.entry.member; head = q.0; part = part })) (sym same) q.4),
        ap (λ (h : Head). h.from) (sym q.3) ∙ sym was.sender ∙ ap (λ (n : ℕ). id_at w n) same_member,
        subst (λ (n : ℕ). n < members_of w) same_member (members was.entry was.earlier),
      )
