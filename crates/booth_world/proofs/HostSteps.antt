-- Entries of the hosts of one ticket are entries of its lease cores, and so the ticket has one
-- holder.
use Rattle.std.proofs.Common.{◌≤◌, ◌≡◌, ◌≢◌, ℕ, ◌^◌, ◌<◌, List, [], ◌∷◌, ◌++◌, Bool, true, false, refl, sym, ap, ◌∙◌, subst, inl, inr, ⊎_elim, arith, ◌⊎◌}
use Rattle.std.specs.Prelude.{Option, Some, None, IsSomeAnd}
use Rattle.std.specs.Option.{ForSome}
use Rattle.booth_base.specs.Tree.{Ends, Does}
use Rattle.booth_rec.specs.declared.record.Record.{Record}
use Rattle.booth_rec.specs.Record.{IsInForce}
use Rattle.booth_wire.specs.declared.message.Setup.{Setup}
use Rattle.booth_raft.specs.declared.view.View.{View}
use Rattle.booth_raft.specs.declared.view.Waiting.{Waiting}
use Rattle.booth_raft.specs.StartAndLearn.{started}
use Rattle.booth_raft.proofs.HeardLemmas.{start_facts}
use Rattle.booth_world.specs.Reading.{IsSilentRecord, MayBeRead, IsLaterOrKept}
use Rattle.booth_world.specs.Facts.{Has, Release}
use Rattle.booth_world.specs.States.{put, Cluster, HasClocks, HasPhases, IsIn, reads}
use Rattle.booth_world.specs.Gives.{Given, may_answered}
use Rattle.booth_world.specs.Rules.{MemberMessage}
use Rattle.booth_world.specs.Cores.{number_in, Session, opening_session, CoreEntry, TimePasses, ReadsTime, HasAnswer, Stops, StartsWith, CorePlace, Cores, opening_cores, Cast, IsCast, MayEnter, has_given, answer_given, after_answer, entered, AreEntered, cores_after}
use Rattle.booth_world.specs.CoreLaws.{CoreHoldsBy, IsReleaseAt, IsReleaseIn}
use Rattle.booth_world.specs.Turns.{TicketAsk, Keeps, Sends, AsksElse, TurnTree, Plan, turn_tree, MayTurn}
use Rattle.booth_world.specs.Hosts.{MayBegin, HostEntry, LetsPass, BeginsTurn, DoesAsk, Halts, Boots, HostPlace, Hosts, opening_hosts, pending_in, pending, IsNextAsk, MayHost, begun, went_on, may_left, hosted, AreHosted, hosts_after}
use Rattle.booth_world.specs.HostLaws.{RevokesAfter, IsHostReleaseAt, IsHostReleaseIn, HostHoldsBy}
use Rattle.booth_world.proofs.Lists.{none_is, some_same, put_all}
use Rattle.booth_world.proofs.AskSteps.{the_value}
use Rattle.booth_world.proofs.CallSteps.{put_same}
use Rattle.booth_world.proofs.CoreReads.{ReadsAt, ReadsIn, HasRead, AreReadBy, calls_read, read_more, read_join, StartsAt, StartsIn, AreStartedBy, calls_start, start_more, start_join}
use Rattle.booth_world.proofs.TreePlaces.{IsOwn, own_given, put_other, MayMore, more_after, IsUp, up_given, IsLater, IsIdle, IsLed, IsToldAfter, IsSeatedAt, InTime, At, Soon, at_later, at_no_more, release_split, entries_join}
use Rattle.booth_world.proofs.TurnPlaces.{plan_at, heard_at}

-- ---- the relation

-- a member's place at its host, and its place
pub record PlaceHolds (c : Cluster) (cast : Cast) (m : ℕ) (cores : Cores) (p : HostPlace) : Type 0 where
  pub down : p.tree ≡ None → (cores.place m).view ≡ None
  pub in_version : (cores.place m).session ≡ p.session
  pub stands_at : (t : TurnTree) → p.tree ≡ Some t → At c cast m p.reading p.session p.may t cores
  pub is_up : (t : TurnTree) → p.tree ≡ Some t → IsUp (cores.place m)
  pub placed : (t : TurnTree) → p.tree ≡ Some t → IsIn c p.session.phase m
  pub more : MayMore (pending p.tree p.may) (cores.place m).may
  pub only : MayMore (cores.place m).may (pending p.tree p.may)

pub record HostsHold (c : Cluster) (cast : Cast) (hosts : Hosts) (cores : Cores) : Type 0 where
  pub same_now : cores.now ≡ hosts.now
  pub each : (m : ℕ) → m < c.members → PlaceHolds c cast m cores (hosts.place m)
  pub said : (l : MemberMessage) → Has hosts.sent l → Has cores.said l

-- entries of the cores lead to a cores that is related, release only this, and read at these true times alone
abbrev Follows : Cluster → Cast → Hosts → Cores → (Release → Type 0) → (ℕ → ℕ → Type 0) → (Bool → Type 0) → Type 0
Follows c cast hosts cores IsRelease IsReading IsStart =
    (more : List CoreEntry) × AreEntered c cast cores more × HostsHold c cast hosts (cores_after c cast cores more)
    × ((z : Release) → IsReleaseIn c cast cores more z → IsRelease z) × AreReadBy c cast IsReading cores more × AreStartedBy IsStart more

-- what is read may be so where more may be kept
pub still_read : (site : Bool) (may more : List Record) (kept : Record) → MayMore may more → MayBeRead site may kept → MayBeRead site more kept
still_read site may more kept on read = ⊎_elim
    (λ (h : Has may kept). inl (on kept h))
    (λ (silent : IsSilentRecord site may kept). inr (record { bare = silent.bare; reaches = λ is. let y = silent.reaches is in (y.0, on y.0 y.1, y.2) }))
    read

pub still_later : (may more : List Record) (kept : Record) → MayMore may more → IsLaterOrKept may kept → IsLaterOrKept more kept
still_later may more kept on goes = ⊎_elim
    (λ (h : Has may kept). inl (on kept h))
    (λ (y : (k : Record) × Has may k × (k.term < kept.term)). inr (y.0, on y.0 y.1, y.2))
    goes

module _ (c : Cluster) (cast : Cast) (clocks : HasClocks c) (phases : HasPhases c) (is_cast : IsCast c cast) where
  place_later : (k : ℕ) (cores cores' : Cores) (p : HostPlace) → IsLater k cores cores' → PlaceHolds c cast k cores p → PlaceHolds c cast k cores' p
  place_later k cores cores' p later i = record {
    down = λ e. ap (λ (s : CorePlace). s.view) later.same ∙ i.down e;
    in_version = ap (λ (s : CorePlace). s.session) later.same ∙ i.in_version;
    stands_at = λ t e. at_later c cast k p.reading p.session p.may t cores cores' later (i.stands_at t e);
    is_up = λ t e. subst (λ (s : CorePlace). IsUp s) (sym later.same) (i.is_up t e);
    placed = i.placed;
    more = λ r h. subst (λ (s : CorePlace). Has s.may r) (sym later.same) (i.more r h);
    only = subst (λ (s : CorePlace). MayMore s.may (pending p.tree p.may)) (sym later.same) i.only;
  }

  -- one member has gone on, and the others are as they were
  moved : (hosts : Hosts) (cores cores' : Cores) (m now : ℕ) (p : HostPlace) (sent : List MemberMessage) → HostsHold c cast hosts cores → cores'.now ≡ now
      → ((k : ℕ) → k ≢ m → cores'.place k ≡ cores.place k) → ((l : MemberMessage) → Has cores.said l → Has cores'.said l)
      → PlaceHolds c cast m cores' p → ((l : MemberMessage) → Has sent l → Has cores'.said l)
      → HostsHold c cast (record { now = now; place = put hosts.place m p; sent = sent }) cores'
  moved hosts cores cores' m now p sent i same_now others said_on here sent_said = record {
    same_now = same_now;
    each = put_all (λ (k : ℕ) (q : HostPlace). k < c.members → PlaceHolds c cast k cores' q) hosts.place m p (λ below. here)
        (λ k other below. place_later k cores cores' (hosts.place k) (record { same = others k other; said_still = said_on }) (i.each k below));
    said = sent_said;
  }

  -- what comes next is among what may be kept
  pending_more : (m now : ℕ) (session : Session) (t : TurnTree) (may : List Record) (cores : Cores) → At c cast m now session may t cores → MayMore may (cores.place m).may → MayMore (pending_in t may) (cores.place m).may
  pending_more m now session (Ends view) may cores h more = more
  pending_more m now session (Does (Keeps kept) g) may cores h more =
      λ k i. ⊎_elim (λ (e : kept ≡ k). subst (λ (k : Record). Has (cores.place m).may k) e h.0) (λ (old : Has may k). more k old) i
  pending_more m now session (Does (Sends message) g) may cores h more = more
  pending_more m now session (Does AsksElse g) may cores h more = more

  stands : (m : ℕ) (p : HostPlace) (t : TurnTree) (cores : Cores) → p.tree ≡ Some t → (cores.place m).session ≡ p.session → At c cast m p.reading p.session p.may t cores → IsUp (cores.place m) → IsIn c p.session.phase m → MayMore p.may (cores.place m).may
      → PlaceHolds c cast m cores p
  stands m p t cores e version h up placed more = record {
    in_version = version;
    down = λ none. absurd (none_is t (sym none ∙ e));
    stands_at = λ u d. subst (λ (t : TurnTree). At c cast m p.reading p.session p.may t cores) (some_same t u (sym e ∙ d)) h;
    is_up = λ u d. up;
    placed = λ u d. placed;
    more = subst (λ (o : Option TurnTree). MayMore (pending o p.may) (cores.place m).may) (sym e) (pending_more m p.reading p.session t p.may cores h more);
    only = subst (λ (o : Option TurnTree). MayMore (cores.place m).may (pending o p.may)) (sym e) (at_no_more c cast m p.reading p.session p.may t cores h);
  }

  still : (m : ℕ) (p : HostPlace) (cores : Cores) → PlaceHolds c cast m cores p → MayMore p.may (cores.place m).may
  still m p cores i = by_tree p.tree i.more
    where
      by_pending : (t : TurnTree) → MayMore (pending_in t p.may) (cores.place m).may → MayMore p.may (cores.place m).may
      by_pending (Ends view) more = more
      by_pending (Does (Keeps kept) g) more = λ k h. more k (inr h)
      by_pending (Does (Sends message) g) more = more
      by_pending (Does AsksElse g) more = more

      by_tree : (o : Option TurnTree) → MayMore (pending o p.may) (cores.place m).may → MayMore p.may (cores.place m).may
      by_tree None more = more
      by_tree (Some t) more = by_pending t more

  own_place : (m : ℕ) (session : Session) → m < c.members → IsIn c session.phase m → IsSeatedAt c cast m session
  own_place m session below placed = ap (λ (s : Setup). s.members) (is_cast.seated m below session placed)

  small : (m time : ℕ) → m < c.members → time < c.span → reads c m time < 2 ^ 62
  small m time below within = let e = clocks.long m below in (clocks.rising m below).small time (omega arith)

  -- nothing waits at a core that is idle
  at_rest_of : (place : CorePlace) (view : View) {s : Setup} {session : Session} {now : ℕ} → IsIdle s session now view place → ForSome place.view (λ v. v.waiting ≡ None)
  at_rest_of place view idle v e = ap (λ (v : View). v.waiting) (some_same v view (sym e ∙ idle.shows)) ∙ idle.at_rest

  -- ---- a turn

  after_reading : (m time : ℕ) (session : Session) (view : View) (cores : Cores) (reading : ℕ) → IsIdle (cast.setup m session) session reading view (cores.place m)
      → IsIdle (cast.setup m session) session (reads c m time) view ((entered c cast cores (ReadsTime m time)).place m)
  after_reading m time session view cores reading i =
      subst (λ (s : CorePlace). IsIdle (cast.setup m session) session (reads c m time) view s) (sym (put_same cores.place m _))
      (record { shows = i.shows; in_version = i.in_version; at_rest = i.at_rest; at_reading = refl; view_facts = i.view_facts })

  turn_soon : (m time : ℕ) (session : Session) (base : List Record) (view : View) (came : Option MemberMessage) (plan : View → Plan) (cores : Cores) → m < c.members → time < c.span
      → IsIdle (cast.setup m session) session (reads c m time) view (cores.place m) → (cores.place m).at ≡ cores.now
      → IsIn c session.phase m → InTime c cast m (reads c m time) session cores
      → MayMore (cores.place m).may base → ForSome came (λ l. (Has cores.said (record l { sender = number_in c session l.sender })) × (l.head.from ≡ cast.id_of (number_in c session l.sender)) × (l.sender < (c.phase session.phase).seats.size))
      → MayTurn (cast.setup m session) (reads c m time) view came plan
      → Soon c cast m (reads c m time) session (At c cast m (reads c m time) session base (turn_tree (cast.setup m session) (reads c m time) view came plan)) cores
  turn_soon m time session base view None plan cores below within idle timely placed in_time only so may =
      plan_at c cast m (reads c m time) session below (small m time below within) (own_place m session below placed) (plan view) base view cores in_time idle only may
  turn_soon m time session base view (Some message) plan cores below within idle timely placed in_time only so may =
      let l = so message refl in
      heard_at c cast m (reads c m time) session below (small m time below within) (own_place m session below placed) message plan base view cores in_time idle only
      (subst (λ (x : Session). (Has cores.said (record message { sender = number_in c x message.sender })) × (message.head.from ≡ cast.id_of (number_in c x message.sender)) × ((cores.place m).at ≡ cores.now) × (message.sender < (c.phase x.phase).seats.size)) (sym idle.in_version) (l.0, l.1, timely, l.2)) may

  begins : (hosts : Hosts) (cores : Cores) (m time : ℕ) (came : Option MemberMessage) (plan : View → Plan) → HostsHold c cast hosts cores → MayHost c cast hosts (BeginsTurn m time came plan)
      → Follows c cast (hosted c cast hosts (BeginsTurn m time came plan)) cores (IsHostReleaseAt c hosts (BeginsTurn m time came plan)) (ReadsAt (BeginsTurn m time came plan)) (StartsAt (BeginsTurn m time came plan))
  begins hosts cores m time came plan i may =
      let p = the_value _ (hosts.place m).tree may.3 in
      by_tree p.0 p.1 p.2
    where
      by_tree : (t : TurnTree) → (hosts.place m).tree ≡ Some t → MayBegin (cast.setup m (hosts.place m).session) (reads c m time) came plan t → Follows c cast (hosted c cast hosts (BeginsTurn m time came plan)) cores (IsHostReleaseAt c hosts (BeginsTurn m time came plan)) (ReadsAt (BeginsTurn m time came plan)) (StartsAt (BeginsTurn m time came plan))
      by_tree (Does ask g) e none = absurd none
      by_tree (Ends view) e turns =
          let now = reads c m time in
          let one = entered c cast cores (ReadsTime m time) in
          let here = i.each m may.0 in
          let read = put_same cores.place m (record (cores.place m) { reading = now; at = time }) in
          let session = (hosts.place m).session in
          let soon = turn_soon m time session (hosts.place m).may view came plan one may.0 may.2
          (after_reading m time session view cores (hosts.place m).reading (here.stands_at (Ends view) e).0)
          (ap (λ (s : CorePlace). s.at) read)
          (here.placed (Ends view) e) may.5
          (subst (λ (s : CorePlace). MayMore s.may (hosts.place m).may) (sym read) (here.stands_at (Ends view) e).1)
          (λ l e. let q = may.4 l e in (i.said _ q.0, q.1, q.2)) turns in
          let end = cores_after c cast one soon.0 in
          let led : IsLed c cast m now session one soon.0 = soon.2 in (
            ReadsTime m time ∷ soon.0,
            ((may.0, (let t = i.same_now in let l = may.1 in omega (arith, t, l)), may.2, λ so. at_rest_of (cores.place m) view (here.stands_at (Ends view) e).0), soon.1),
            moved hosts cores end m time _ hosts.sent i led.own.same_time
                (λ k other. led.own.others k other ∙ put_other cores.place m k _ other)
                (λ l h. led.own.said_on l h)
                (stands m (record (hosts.place m) { tree = begun (cast.setup m session) now came plan (hosts.place m).tree; reading = now })
                (turn_tree (cast.setup m session) now view came plan) end
                (ap (λ (o : Option TurnTree). begun (cast.setup m session) now came plan o) e) (led.same_version ∙ ap (λ (s : CorePlace). s.session) read ∙ here.in_version) soon.3
                (led.up_still (subst (λ (s : CorePlace). IsUp s) (sym read) (here.is_up (Ends view) e)))
                (here.placed (Ends view) e)
                (λ k h. led.more k (subst (λ (s : CorePlace). Has s.may k) (sym read) (still m (hosts.place m) cores here k h))))
                (λ l h. led.own.said_on l (i.said l h)),
            λ z h. ⊎_elim (λ (n : ⊥). n) (λ (n : IsReleaseIn c cast one soon.0 z). led.unreleased z n) h,
            ((refl, refl), calls_read c cast (ReadsAt (BeginsTurn m time came plan)) one soon.0 led.are_calls),
            (tt, calls_start (StartsAt (BeginsTurn m time came plan)) soon.0 led.are_calls),
          )

  version_given : (cores : Cores) (m : ℕ) (given : Given) → ((has_given cores m (cores.place m).session given).place m).session ≡ (cores.place m).session
  version_given cores m given = ap (λ (s : CorePlace). s.session) (put_same cores.place m _)

  -- ---- an ask

  answer_may : (cores : Cores) (m : ℕ) (kept : Record) (ok : Bool) (may : List Record) → MayEnter c cast cores (HasAnswer m kept ok)
      → MayMore may (cores.place m).may → Has (cores.place m).may kept
      → MayMore (may_left (Keeps kept) ok may) ((entered c cast cores (HasAnswer m kept ok)).place m).may
  answer_may cores m kept ok may enter more has k h =
      let v = the_value _ (cores.place m).view enter.1 in
      let w = the_value _ (v.0).waiting v.2 in
      subst (λ (o : Option View). Has ((after_answer cast cores m ok o).place m).may k) (sym v.1)
      (subst (λ (s : CorePlace). Has s.may k) (sym (put_same cores.place m _))
      (more_after _ (may_answered (v.0).waiting ok (cores.place m).may) k
      (subst (λ (o : Option Waiting). Has (may_answered o ok (cores.place m).may) k) (sym w.1) (by_answer ok w.0 w.2 h))))
    where
      by_answer : (ok : Bool) (w : Waiting) → w.tried ≡ kept → Has (may_left (Keeps kept) ok may) k → Has (may_answered (Some w) ok (cores.place m).may) k
      by_answer true w same h = ⊎_elim (λ (e : kept ≡ k). inl (same ∙ e)) (λ (n : ⊥). absurd n) h
      by_answer false w same h = ⊎_elim (λ (e : kept ≡ k). subst (λ (k : Record). Has (cores.place m).may k) e has) (λ (old : Has may k). more k old) h

  answer_own : (cores : Cores) (m : ℕ) (kept : Record) (ok : Bool) → MayEnter c cast cores (HasAnswer m kept ok)
      → IsOwn m cores (entered c cast cores (HasAnswer m kept ok)) × IsUp ((entered c cast cores (HasAnswer m kept ok)).place m)
      × (((entered c cast cores (HasAnswer m kept ok)).place m).session ≡ (cores.place m).session)
  answer_own cores m kept ok enter =
      let v = the_value _ (cores.place m).view enter.1 in
      subst (λ (o : Option View). IsOwn m cores (after_answer cast cores m ok o) × IsUp ((after_answer cast cores m ok o).place m)
      × (((after_answer cast cores m ok o).place m).session ≡ (cores.place m).session)) (sym v.1)
      (own_given cores m (cores.place m).session (answer_given cast cores m ok v.0), up_given cores m (cores.place m).session (answer_given cast cores m ok v.0), version_given cores m (answer_given cast cores m ok v.0))

  asks : (hosts : Hosts) (cores : Cores) (m : ℕ) (ask : TicketAsk) (ok : Bool) → HostsHold c cast hosts cores → MayHost c cast hosts (DoesAsk m ask ok)
      → Follows c cast (hosted c cast hosts (DoesAsk m ask ok)) cores (IsHostReleaseAt c hosts (DoesAsk m ask ok)) (ReadsAt (DoesAsk m ask ok)) (StartsAt (DoesAsk m ask ok))
  asks hosts cores m ask ok i may =
      let p = the_value _ (hosts.place m).tree may.1 in
      by_tree p.0 p.1 p.2
    where
      here : PlaceHolds c cast m cores (hosts.place m)
      here = i.each m may.0

      answer_frees : (kept : Record) (g : Bool → TurnTree) (ok : Bool) (z : Release) → (hosts.place m).tree ≡ Some (Does (Keeps kept) g)
          → IsToldAfter (c.phase (hosts.place m).session.phase).seats.size (cores.place m) kept (g true) → IsReleaseAt cores (HasAnswer m kept ok) z → IsHostReleaseAt c hosts (DoesAsk m (Keeps kept) ok) z
      answer_frees kept g true z e tells h =
          let v = the_value _ (cores.place m).view h.2 in
          let waits = the_value _ (v.0).waiting v.2 in (
            h.0 ∙ ap (λ (t : ℕ). let r : Release = record { site = m; term = kept.term; at = t } in r) i.same_now,
            h.1,
            subst (λ (o : Option TurnTree). IsSomeAnd o (RevokesAfter (c.phase (hosts.place m).session.phase).seats.size kept.term)) (sym e) (tells v.0 v.1 waits.0 waits.1 waits.2),
          )
      answer_frees kept g false z e tells h = h

      by_tree : (t : TurnTree) → (hosts.place m).tree ≡ Some t → IsNextAsk ask t → Follows c cast (hosted c cast hosts (DoesAsk m ask ok)) cores (IsHostReleaseAt c hosts (DoesAsk m ask ok)) (ReadsAt (DoesAsk m ask ok)) (StartsAt (DoesAsk m ask ok))
      by_tree (Ends view) e none = absurd none
      by_tree (Does (Keeps kept) g) e same =
          let h_at = here.stands_at (Does (Keeps kept) g) e in
          let q = h_at.2 ok cores (record { same = refl; said_still = λ l h. h }) in
          let one = entered c cast cores (HasAnswer m kept ok) in
          let may_enter : MayEnter c cast cores (HasAnswer m kept ok) = (q.0.0, q.0.1, subst (λ (x : Session). cores.now ≤ (c.phase x.phase).closes) (sym here.in_version) (let n = i.same_now in let l = may.2 in omega (arith, n, l))) in
          let own = answer_own cores m kept ok may_enter in
          let on = q.1 (let n = i.same_now in let l = may.2 in let k = own.0.same_time in omega (arith, n, l, k)) in
          let end = cores_after c cast one on.0 in
          let led : IsLed c cast m (hosts.place m).reading (hosts.place m).session one on.0 = on.2 in
          subst (λ (a : TicketAsk). Follows c cast (hosted c cast hosts (DoesAsk m a ok)) cores (IsHostReleaseAt c hosts (DoesAsk m a ok)) (ReadsAt (DoesAsk m a ok)) (StartsAt (DoesAsk m a ok))) same (
            HasAnswer m kept ok ∷ on.0,
            (may_enter, on.1),
            moved hosts cores end m hosts.now _ hosts.sent i (led.own.same_time ∙ own.0.same_time ∙ i.same_now)
                (λ k other. led.own.others k other ∙ own.0.others k other)
                (λ l h. led.own.said_on l (own.0.said_on l h))
                (stands m (record (hosts.place m) { tree = went_on ok (hosts.place m).tree; may = may_left (Keeps kept) ok (hosts.place m).may })
                (g ok) end (ap (λ (o : Option TurnTree). went_on ok o) e) (led.same_version ∙ own.2 ∙ here.in_version) on.3 (led.up_still own.1) (here.placed _ e)
                (λ k h. led.more k (answer_may cores m kept ok (hosts.place m).may may_enter (still m (hosts.place m) cores here) (here.stands_at (Does (Keeps kept) g) e).0 k h)))
                (λ l h. led.own.said_on l (own.0.said_on l (i.said l h))),
            λ z h. ⊎_elim
                (λ (n : IsReleaseAt cores (HasAnswer m kept ok) z). answer_frees kept g ok z e h_at.3 n)
                (λ (n : IsReleaseIn c cast one on.0 z). absurd (led.unreleased z n)) h,
            (tt, calls_read c cast (ReadsAt (DoesAsk m (Keeps kept) ok)) one on.0 led.are_calls),
            (tt, calls_start (StartsAt (DoesAsk m (Keeps kept) ok)) on.0 led.are_calls),
          )
      by_tree (Does (Sends message) g) e same =
          let h = here.stands_at (Does (Sends message) g) e in
          let q = h.2 ok cores (record { same = refl; said_still = λ l h. h }) (let n = i.same_now in let l = may.2 in omega (arith, n, l)) in
          let end = cores_after c cast cores q.0 in
          let led : IsLed c cast m (hosts.place m).reading (hosts.place m).session cores q.0 = q.2 in
          subst (λ (a : TicketAsk). Follows c cast (hosted c cast hosts (DoesAsk m a ok)) cores (IsHostReleaseAt c hosts (DoesAsk m a ok)) (ReadsAt (DoesAsk m a ok)) (StartsAt (DoesAsk m a ok))) same (
            q.0,
            q.1,
            moved hosts cores end m hosts.now _ (record message { sender = m } ∷ hosts.sent) i (led.own.same_time ∙ i.same_now)
                led.own.others
                led.own.said_on
                (stands m (record (hosts.place m) { tree = went_on ok (hosts.place m).tree; may = (hosts.place m).may })
                (g ok) end (ap (λ (o : Option TurnTree). went_on ok o) e) (led.same_version ∙ here.in_version) q.3 (led.up_still (here.is_up _ e)) (here.placed _ e)
                (λ k h. led.more k (still m (hosts.place m) cores here k h)))
                (λ l d. led.own.said_on l (⊎_elim (λ (e : record message { sender = m } ≡ l). subst (λ (l : MemberMessage). Has cores.said l) e h.0) (λ (old : Has hosts.sent l). i.said l old) d)),
            λ z h. led.unreleased z h,
            calls_read c cast (ReadsAt (DoesAsk m (Sends message) ok)) cores q.0 led.are_calls,
            calls_start (StartsAt (DoesAsk m (Sends message) ok)) q.0 led.are_calls,
          )
      by_tree (Does AsksElse g) e same =
          let h = here.stands_at (Does AsksElse g) e in
          let q = h.1 ok cores (record { same = refl; said_still = λ l h. h }) (let n = i.same_now in let l = may.2 in omega (arith, n, l)) in
          let end = cores_after c cast cores q.0 in
          let led : IsLed c cast m (hosts.place m).reading (hosts.place m).session cores q.0 = q.2 in
          subst (λ (a : TicketAsk). Follows c cast (hosted c cast hosts (DoesAsk m a ok)) cores (IsHostReleaseAt c hosts (DoesAsk m a ok)) (ReadsAt (DoesAsk m a ok)) (StartsAt (DoesAsk m a ok))) same (
            q.0,
            q.1,
            moved hosts cores end m hosts.now _ hosts.sent i (led.own.same_time ∙ i.same_now)
                led.own.others
                led.own.said_on
                (stands m (record (hosts.place m) { tree = went_on ok (hosts.place m).tree; may = (hosts.place m).may })
                (g ok) end (ap (λ (o : Option TurnTree). went_on ok o) e) (led.same_version ∙ here.in_version) q.3 (led.up_still (here.is_up _ e)) (here.placed _ e)
                (λ k h. led.more k (still m (hosts.place m) cores here k h)))
                (λ l d. led.own.said_on l (i.said l d)),
            λ z h. led.unreleased z h,
            calls_read c cast (ReadsAt (DoesAsk m AsksElse ok)) cores q.0 led.are_calls,
            calls_start (StartsAt (DoesAsk m AsksElse ok)) q.0 led.are_calls,
          )

  -- ---- lives

  halts : (hosts : Hosts) (cores : Cores) (m : ℕ) → HostsHold c cast hosts cores → MayHost c cast hosts (Halts m) → Follows c cast (hosted c cast hosts (Halts m)) cores (IsHostReleaseAt c hosts (Halts m)) (ReadsAt (Halts m)) (StartsAt (Halts m))
  halts hosts cores m i may =
      let p = the_value _ (hosts.place m).tree may.1 in
      let here = i.each m may.0 in
      let gone = put_same cores.place m (record (cores.place m) { view = None }) in (
        Stops m ∷ [],
        ((may.0, here.is_up p.0 p.1), tt),
        moved hosts cores (entered c cast cores (Stops m)) m hosts.now _ hosts.sent i i.same_now
            (λ k other. put_other cores.place m k _ other)
            (λ l h. h)
            (record {
              down = λ e. ap (λ (s : CorePlace). s.view) gone;
              in_version = ap (λ (s : CorePlace). s.session) gone ∙ here.in_version;
              stands_at = λ t e. absurd (none_is t e);
              is_up = λ t e. absurd (none_is t e);
              placed = λ t e. absurd (none_is t e);
              more = λ k h. subst (λ (s : CorePlace). Has s.may k) (sym gone) (here.more k h);
              only = subst (λ (s : CorePlace). MayMore s.may (pending (hosts.place m).tree (hosts.place m).may)) (sym gone) here.only;
            })
            i.said,
        λ z h. ⊎_elim (λ (n : ⊥). n) (λ (n : ⊥). n) h,
        (tt, tt),
        (tt, tt),
      )

  boots : (hosts : Hosts) (cores : Cores) (m time : ℕ) (session : Session) (kept : Record) → HostsHold c cast hosts cores → MayHost c cast hosts (Boots m time session kept)
      → Follows c cast (hosted c cast hosts (Boots m time session kept)) cores (IsHostReleaseAt c hosts (Boots m time session kept)) (ReadsAt (Boots m time session kept)) (StartsAt (Boots m time session kept))
  boots hosts cores m time session kept i may =
      let here = i.each m may.0 in
      let now = reads c m time in
      let one = entered c cast cores (ReadsTime m time) in
      let read = put_same cores.place m (record (cores.place m) { reading = now; at = time }) in
      let end = entered c cast one (StartsWith m session kept) in
      let up = put_same one.place m (record (one.place m) { view = Some (started (cast.setup m session) kept (one.place m).reading); session = session; may = kept ∷ [] }) in
      let reading : (one.place m).reading ≡ now = ap (λ (s : CorePlace). s.reading) read in (
        ReadsTime m time ∷ StartsWith m session kept ∷ [],
        (
          (may.0, (let t = i.same_now in let l = may.1 in omega (arith, t, l)), may.2, λ so view e. absurd (none_is view (sym (here.down may.3) ∙ e))),
          (
            (
              may.0,
              ap (λ (s : CorePlace). s.view) read ∙ here.down may.3,
              subst (λ (s : CorePlace). MayBeRead (c.is_site m) s.may kept) (sym read) (still_read (c.is_site m) (hosts.place m).may (cores.place m).may kept (still m (hosts.place m) cores here) may.4),
              (λ was. may.5 (ap (λ (s : Session). s.second) (sym here.in_version) ∙ (ap (λ (s : CorePlace). s.session.second) (sym read) ∙ was))),
              (λ going. subst (λ (s : CorePlace). IsLaterOrKept s.may kept) (sym read) (still_later (hosts.place m).may (cores.place m).may kept (still m (hosts.place m) cores here) (may.6 going))),
              subst (λ (y : ℕ). (c.phase session.phase).opens ≤ y) (ap (λ (s : CorePlace). s.at) (sym read)) may.7,
              may.8,
              may.9,
            ),
            tt,
          ),
        ),
        moved hosts cores end m time _ hosts.sent i refl
            (λ k other. put_other one.place m k _ other ∙ put_other cores.place m k _ other)
            (λ l h. h)
            (stands m (record { tree = Some (Ends (started (cast.setup m session) kept now)); session = session; reading = now; may = kept ∷ [] })
            (Ends (started (cast.setup m session) kept now)) end refl (ap (λ (s : CorePlace). s.session) up) (
              subst (λ (s : CorePlace). IsIdle (cast.setup m session) session now (started (cast.setup m session) kept now) s) (sym up)
                  (record {
                    shows = ap (λ (r : ℕ). let o : Option View = Some (started (cast.setup m session) kept r) in o) reading;
                    in_version = refl;
                    at_rest = refl;
                    at_reading = reading;
                    view_facts = start_facts (cast.setup m session) kept now;
                  }),
              subst (λ (s : CorePlace). MayMore s.may (kept ∷ [])) (sym up) (λ k h. h),
            )
            (subst (λ (s : CorePlace). IsUp s) (sym up) tt)
            may.9
            (λ k h. subst (λ (s : CorePlace). Has s.may k) (sym up) h))
            i.said,
        λ z h. ⊎_elim (λ (n : ⊥). n) (λ (h : ⊥ ⊎ ⊥). ⊎_elim (λ (n : ⊥). n) (λ (n : ⊥). n) h) h,
        (
          (refl, refl),
          (subst (λ (s : CorePlace). HasRead c cast (ReadsAt (Boots m time session kept)) m s) (sym read) ((refl, refl), refl), tt),
        ),
        (tt, (refl, tt)),
      )

  passes : (hosts : Hosts) (cores : Cores) (time : ℕ) → HostsHold c cast hosts cores → MayHost c cast hosts (LetsPass time) → Follows c cast (hosted c cast hosts (LetsPass time)) cores (IsHostReleaseAt c hosts (LetsPass time)) (ReadsAt (LetsPass time)) (StartsAt (LetsPass time))
  passes hosts cores time i may = (
    TimePasses time ∷ [],
    (((let t = i.same_now in let l = may.0 in omega (arith, t, l)), may.1), tt),
    record {
      same_now = refl;
      each = λ k below. place_later k cores (entered c cast cores (TimePasses time)) (hosts.place k) (record { same = refl; said_still = λ l h. h }) (i.each k below);
      said = i.said;
    },
    λ z h. ⊎_elim (λ (n : ⊥). n) (λ (n : ⊥). n) h,
    (tt, tt),
    (tt, tt),
  )

  -- ---- all entries

  follows : (hosts : Hosts) (cores : Cores) (entry : HostEntry) → HostsHold c cast hosts cores → MayHost c cast hosts entry → Follows c cast (hosted c cast hosts entry) cores (IsHostReleaseAt c hosts entry) (ReadsAt entry) (StartsAt entry)
  follows hosts cores (LetsPass time) i may = passes hosts cores time i may
  follows hosts cores (BeginsTurn m time came plan) i may = begins hosts cores m time came plan i may
  follows hosts cores (DoesAsk m ask ok) i may = asks hosts cores m ask ok i may
  follows hosts cores (Halts m) i may = halts hosts cores m i may
  follows hosts cores (Boots m time session kept) i may = boots hosts cores m time session kept i may

  pub follow_all : (hosts : Hosts) (cores : Cores) (entries : List HostEntry) → HostsHold c cast hosts cores → AreHosted c cast hosts entries → Follows c cast (hosts_after c cast hosts entries) cores (IsHostReleaseIn c cast hosts entries) (ReadsIn entries) (StartsIn entries)
  follow_all hosts cores [] i all = ([], tt, i, λ z n. n, tt, tt)
  follow_all hosts cores (entry ∷ entries) i all =
      let one = follows hosts cores entry i all.0 in
      let rest = follow_all (hosted c cast hosts entry) (cores_after c cast cores one.0) entries one.2 all.1 in
      let j = entries_join c cast 0 0 (opening_session false) cores one.0 rest.0 one.1 rest.1 in (
        one.0 ++ rest.0,
        j.0,
        subst (λ (n : Cores). HostsHold c cast (hosts_after c cast (hosted c cast hosts entry) entries) n) (sym j.1) rest.2,
        λ z h. ⊎_elim
            (λ (first : IsReleaseIn c cast cores one.0 z). inl (one.3 z first))
            (λ (second : IsReleaseIn c cast (cores_after c cast cores one.0) rest.0 z). inr (rest.3 z second))
            (release_split c cast 0 0 (opening_session false) cores one.0 rest.0 z h),
        read_join c cast (ReadsIn (entry ∷ entries)) cores one.0 rest.0
            (read_more c cast (ReadsAt entry) (ReadsIn (entry ∷ entries)) (λ m time r. inl r) cores one.0 one.4)
            (read_more c cast (ReadsIn entries) (ReadsIn (entry ∷ entries)) (λ m time r. inr r) (cores_after c cast cores one.0) rest.0 rest.4),
        start_join (StartsIn (entry ∷ entries)) one.0 rest.0
            (start_more (StartsAt entry) (StartsIn (entry ∷ entries)) (λ second s. inl s) one.0 one.5)
            (start_more (StartsIn entries) (StartsIn (entry ∷ entries)) (λ second s. inr s) rest.0 rest.5),
      )

  pub opens_hosts : HostsHold c cast (opening_hosts c cast) (opening_cores c cast)
  opens_hosts = record {
    same_now = refl;
    each = λ m below. record {
      down = λ e. refl;
      in_version = refl;
      stands_at = λ t e. absurd (none_is t e);
      is_up = λ t e. absurd (none_is t e);
      placed = λ t e. absurd (none_is t e);
      more = λ k h. h;
      only = λ k h. h;
    };
    said = λ l h. absurd h;
  }

pub host_held : (c : Cluster) (cast : Cast) (hosts : Hosts) (cores : Cores) (s : ℕ) (k : Record) → HostsHold c cast hosts cores → HostHoldsBy c hosts s k → CoreHoldsBy c cores s k
host_held c cast hosts cores s k i h =
    (h.0, (i.each s h.0).more k h.1, subst (λ (n : ℕ). IsInForce k (reads c s n)) (sym i.same_now) h.2)
