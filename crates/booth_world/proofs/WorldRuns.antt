-- The laws over worlds: each moment of a world is one of the hosts of each of its tickets.
use Rattle.std.proofs.Common.{◌≡◌, ◌≢◌, ◌⊎◌, ⊎_elim, inl, inr, ℕ, ◌<◌, ◌≤◌, Bool, true, false, List, [], ◌∷◌, ◌++◌, refl, sym, ap, ◌∙◌, subst, arith, if◌then◌else◌}
use Rattle.std.specs.Prelude.{Option, Some, None, position, bytes_eq, is_ok, Ok}
use Rattle.booth_base.specs.Tree.{Deeds, Ends, Does}
use Rattle.booth_base.specs.declared.address.MemberId.{MemberId}
use Rattle.booth_conf.specs.Config.{has_id}
use Rattle.booth_conf.specs.Lookups.{is_called}
use Rattle.std.specs.Option.{option_map_or}
use Rattle.booth_conf.specs.declared.tickets.TicketConf.{TicketConf}
use Rattle.booth_rec.specs.declared.record.Lease.{Lease}
use Rattle.booth_rec.specs.declared.record.Record.{Record}
use Rattle.booth_rec.specs.Record.{IsInForce}
use Rattle.booth_host.specs.declared.entry.Entry.TheVariants as calls
use Rattle.booth_node.specs.Opening.{is_site_at}
use Rattle.booth_node.specs.declared.node_config.NodeConfig.{NodeConfig}
use Rattle.booth_node.specs.State.{State}
use Rattle.booth_world.specs.Rules.{MemberMessage}
use Rattle.booth_world.specs.States.{IsTimed, reads}
use Rattle.booth_node.specs.Reaction.{Ask, Send, Keep, Start}
use Rattle.booth_node.specs.Records.{Has as Holds, may_after_keep, may_after, may_after_all, record_at, with_next}
use Rattle.booth_node.specs.Session.{CutKeep, SessionEntry, Starts, Makes, IsCut, Stand, Down, Doing, Hearing, MayDo, after_entry, AreSessions}
use Rattle.booth_node.specs.World.{WorldEntry, World, AtEach, HasNoManual, HoldsNothing, StartsWithIt, members_of, entries_of, last_time, stand_after, IsSecondStart, IsSecondWorld, begins_with, id_at, clock_at, IsUntimedWorld}
use Rattle.booth_node.specs.Held.{IsBefore, Moment, may_at, HoldsBy, Holds as HoldsIt}
use Rattle.booth_world.specs.Facts.{Has, Release}
use Rattle.booth_world.specs.Held.{IsApartFrom, GivesBackLease}
use Rattle.booth_world.specs.Cores.{IsCast}
use Rattle.booth_world.specs.Turns.{Keeps, TurnTree}
use Rattle.booth_world.specs.Hosts.{HostEntry, LetsPass, HostPlace, Hosts, opening_hosts, pending, AreHosted}
use Rattle.booth_world.specs.HostLaws.{IsHostReleaseIn, host_may, HostHoldsBy}
use Rattle.booth_world.specs.Revocations.{AtSome}
use Rattle.booth_world.specs.Worlds.{IsLater, GivesBack, ReleasedIn}
use Rattle.booth_world.specs.Shadows.{GivesTermBack, LastStand, last_after_all, second_after_all}
use Rattle.booth_world.proofs.CoreReads.{ReadsIn, reads_split, StartsIn, starts_split, all_boots_second}
use Rattle.booth_world.proofs.Lists.{none_is, some_same}
use Rattle.booth_world.proofs.HostCourses.{hosts_hold_one, hosts_are_apart, host_terms, later_host, next_is_highest}
use Rattle.booth_world.proofs.HostRuns.{hosted_join, after_join, released_join}
use Rattle.booth_world.proofs.WorldSteps.{Trace, Frees, Reads, Begins, StartsIt, IsTrace, Setting, equal_bytes, cluster, cast}
use Rattle.booth_world.proofs.WorldEntries.{has_clocks}
use Rattle.booth_world.proofs.WorldPhases.{has_phases, is_distance, is_window}
use Rattle.booth_world.proofs.WorldHosts.{has_here, entries_join, sessions_at, stand_own, last_of, append_none, no_stand, may_of, after_hosts, IsAt, placed_more, Shadows}
use Rattle.booth_world.proofs.WorldGoes.{Extends, one_step}
use Rattle.booth_world.specs.Clusters.{cluster_of, kept_at}
use Rattle.booth_world.specs.Agreement.{record_in}
use Rattle.booth_world.proofs.Beginnings.{kept_back}

pub append_both : {A : Type 0} (xs ys zs : List A) → (xs ++ ys) ++ zs ≡ xs ++ (ys ++ zs)
append_both [] ys zs = refl
append_both (x ∷ xs) ys zs = ap (λ rest. x ∷ rest) (append_both xs ys zs)

last_join : (time : ℕ) (xs ys : List WorldEntry) (y : WorldEntry) → last_time time (xs ++ y ∷ ys) ≡ last_time y.time ys
last_join time [] ys y = refl
last_join time (x ∷ xs) ys y = last_join x.time xs ys y

-- ---- at one of these entries

some_so : (before entries : List WorldEntry) (P Q : List WorldEntry → WorldEntry → Type 0)
    → ((earlier : List WorldEntry) (entry : WorldEntry) → P earlier entry → Q earlier entry) → AtSome before entries P → AtSome before entries Q
some_so before [] P Q gives x = absurd x
some_so before (e ∷ entries) P Q gives (inl here) = inl (gives before e here)
some_so before (e ∷ entries) P Q gives (inr later) = inr (some_so (before ++ e ∷ []) entries P Q gives later)

-- an entry of which it is so, whatever is before it
pub some_one : (before entries : List WorldEntry) (P : List WorldEntry → WorldEntry → Type 0) (Q : WorldEntry → Type 0)
    → ((earlier : List WorldEntry) (entry : WorldEntry) → P earlier entry → Q entry) → AtSome before entries P
    → (entry : WorldEntry) × Holds entries entry × Q entry
some_one before [] P Q gives x = absurd x
some_one before (e ∷ entries) P Q gives (inl here) = (e, inl refl, gives before e here)
some_one before (e ∷ entries) P Q gives (inr later) =
    let q = some_one (before ++ e ∷ []) entries P Q gives later in (q.0, inr q.1, q.2)

-- where the starts agree that it is granted by votes, none has it as one that is granted by hand
pub no_manual : (w : World) (ticket : TicketConf) → Setting w ticket → AtEach w (λ before entry. HasNoManual ticket.name entry.what)
no_manual w ticket setting before after entry whole = by_what entry.what (setting.same before after entry whole)
  where
    by_what : (what : SessionEntry) → StartsWithIt ticket what → HasNoManual ticket.name what
    by_what (Starts node reading records) same = λ place own at named. (same place own at named).0 ∙ setting.automatic
    by_what (Makes call) same = tt
    by_what (IsCut call) same = tt

module _ (w : World) (is_world : IsUntimedWorld w) (ticket : TicketConf) (setting : Setting w ticket) where
  -- each member begins with no lease
  pub begins_free : (m : ℕ) → HoldsNothing w m (clock_at w m 0) (begins_with w m ticket.name)
  begins_free m = is_world.nothing_held m ticket.name (no_manual w ticket setting)

  abbrev pub Opening : Hosts
  Opening = opening_hosts (cluster w ticket setting) (cast w ticket setting)

  -- one of these entries, which follow on the others, left this trace
  abbrev pub IsLeftIn : List WorldEntry → List WorldEntry → Trace → Type 0
  IsLeftIn before between trace =
      AtSome before between
      (λ earlier entry. IsTrace w ticket.name entry.member entry.time (stand_after entry.member (earlier ++ entry ∷ [])) entry.what trace)

  extends : (between before after : List WorldEntry) (hosts : Hosts) → w.entries ≡ before ++ (between ++ after) → IsBefore hosts.now between
      → Shadows w is_world ticket setting before hosts
      → Extends w is_world ticket setting hosts (before ++ between) (last_time hosts.now between) (IsLeftIn before between)
  extends [] before after hosts whole later shadow = record {
    entries = [];
    now_is = refl;
    hosted_all = tt;
    shadow = subst (λ (es : List WorldEntry). Shadows w is_world ticket setting es hosts) (sym (append_none before)) shadow;
    released = λ z r. absurd r;
    read = λ k t r. absurd r;
    started = λ v r. absurd r;
  }
  extends (e ∷ between) before after hosts whole later shadow =
      let first : Extends w is_world ticket setting hosts (before ++ e ∷ []) e.time (IsTrace w ticket.name e.member e.time (after_entry (stand_after e.member before) e.what) e.what) =
      one_step w is_world ticket setting before (between ++ after) e hosts whole later shadow in
      let mid : Hosts = after_hosts w is_world ticket setting hosts first.entries in
      let whole_rest : w.entries ≡ (before ++ e ∷ []) ++ (between ++ after) = whole ∙ sym (append_both before (e ∷ []) (between ++ after)) in
      let rest : Extends w is_world ticket setting mid ((before ++ e ∷ []) ++ between) (last_time mid.now between) (IsLeftIn (before ++ e ∷ []) between) =
      extends between (before ++ e ∷ []) after mid whole_rest (next_later between mid.now first.now_is whole_rest) first.shadow in
      record {
        entries = first.entries ++ rest.entries;
        now_is = ap (λ (h : Hosts). h.now) (after_join (cluster w ticket setting) (cast w ticket setting) hosts first.entries rest.entries)
            ∙ rest.now_is ∙ ap (λ (n : ℕ). last_time n between) first.now_is;
        hosted_all = hosted_join (cluster w ticket setting) (cast w ticket setting) hosts first.entries rest.entries first.hosted_all rest.hosted_all;
        shadow = subst (λ (h : Hosts). Shadows w is_world ticket setting (before ++ e ∷ between) h)
            (sym (after_join (cluster w ticket setting) (cast w ticket setting) hosts first.entries rest.entries))
            (subst (λ (es : List WorldEntry). Shadows w is_world ticket setting es (after_hosts w is_world ticket setting mid rest.entries))
            (append_both before (e ∷ []) between) rest.shadow);
        released = λ z r. ⊎_elim
            (λ (a : IsHostReleaseIn (cluster w ticket setting) (cast w ticket setting) hosts first.entries z).
            inl (subst (λ (d : Stand). IsTrace w ticket.name e.member e.time d e.what (Frees z)) (sym (stand_own e.member before e refl)) (first.released z a)))
            (λ (b : IsHostReleaseIn (cluster w ticket setting) (cast w ticket setting) mid rest.entries z). inr (rest.released z b))
            (released_join (cluster w ticket setting) (cast w ticket setting) hosts first.entries rest.entries z r);
        read = λ k t r. ⊎_elim
            (λ (a : ReadsIn first.entries k t). inl (first.read k t a))
            (λ (b : ReadsIn rest.entries k t). inr (rest.read k t b))
            (reads_split first.entries rest.entries k t r);
        started = λ v r. ⊎_elim
            (λ (a : StartsIn first.entries v). inl (first.started v a))
            (λ (b : StartsIn rest.entries v). inr (rest.started v b))
            (starts_split first.entries rest.entries v r);
      }
    where
      next_later : (es : List WorldEntry) (now : ℕ) → now ≡ e.time → w.entries ≡ (before ++ e ∷ []) ++ (es ++ after) → IsBefore now es
      next_later [] now is all = tt
      next_later (x ∷ es) now is all =
          subst (λ (n : ℕ). n ≤ x.time) (last_of 0 before e ∙ sym is) (is_world.form.in_order (before ++ e ∷ []) (es ++ after) x all)

  begins_so : (m : ℕ) → record_in (id_at w) (kept_at w (begins_with w m ticket.name)) ∷ [] ≡ begins_with w m ticket.name ∷ []
  begins_so m =
      ap (λ (r : Record). r ∷ []) (kept_back w ticket setting m (clock_at w m 0) (begins_with w m ticket.name)
      (begins_free m))

  opening_shadow : Shadows w is_world ticket setting [] Opening
  opening_shadow = record {
    each = λ m below. record { same_may = begins_so m; version = refl; time = 0; past = omega arith; read = refl; at = inl (tt, inl refl) };
    said = λ entry h bytes is message read. absurd h;
    coming = λ m below kept go is. absurd (none_is (Does (Keeps kept) go) is);
  }

  -- ---- moments

  -- the hosts at a moment, with time passed up to it
  pub record Reaches (hosts : Hosts) (before : List WorldEntry) (time : ℕ) (R : Trace → Type 0) : Type 0 where
    pub entries : List HostEntry
    pub hosted_all : AreHosted (cluster w ticket setting) (cast w ticket setting) hosts entries
    pub now_is : (after_hosts w is_world ticket setting hosts entries).now ≡ time
    pub shadow : Shadows w is_world ticket setting before (after_hosts w is_world ticket setting hosts entries)
    pub released : (z : Release) → IsHostReleaseIn (cluster w ticket setting) (cast w ticket setting) hosts entries z → R (Frees z)
    pub read : (k time : ℕ) → ReadsIn entries k time → R (Reads k time)
    pub started : (version : Bool) → StartsIn entries version → R (Begins version)

  waits : (hosts : Hosts) (before : List WorldEntry) (now time : ℕ) (R : Trace → Type 0) → now ≤ time → time < w.span
      → Extends w is_world ticket setting hosts before now R → Reaches hosts before time R
  waits hosts before now time R later within x =
      let last : Hosts = after_hosts w is_world ticket setting hosts x.entries in
      let on : last.now ≤ time = subst (λ (n : ℕ). n ≤ time) (sym x.now_is) later in
      let passed : Hosts = record last { now = time } in
      let joined : after_hosts w is_world ticket setting hosts (x.entries ++ LetsPass time ∷ []) ≡ passed =
      after_join (cluster w ticket setting) (cast w ticket setting) hosts x.entries (LetsPass time ∷ []) in
      record {
        entries = x.entries ++ LetsPass time ∷ [];
        hosted_all = hosted_join (cluster w ticket setting) (cast w ticket setting) hosts x.entries (LetsPass time ∷ []) x.hosted_all ((on, within), tt);
        now_is = ap (λ (h : Hosts). h.now) joined;
        shadow = subst (λ (h : Hosts). Shadows w is_world ticket setting before h) (sym joined) (record {
          each = λ m below. placed_more w is_world ticket setting m (stand_after m before) (may_of w is_world ticket setting m before)
              (second_after_all ticket.name (w.begins m).second (entries_of m before)) (last_after_all ticket.name no_stand (entries_of m before))
              last.now time (last.place m) last.sent last.sent on (λ l h. h) (x.shadow.each m below);
          said = x.shadow.said;
          coming = x.shadow.coming;
        });
        released = λ z r. ⊎_elim
            (λ (a : IsHostReleaseIn (cluster w ticket setting) (cast w ticket setting) hosts x.entries z). x.released z a)
            (λ (b : IsHostReleaseIn (cluster w ticket setting) (cast w ticket setting) last (LetsPass time ∷ []) z). ⊎_elim (λ (c : ⊥). absurd c) (λ (c : ⊥). absurd c) b)
            (released_join (cluster w ticket setting) (cast w ticket setting) hosts x.entries (LetsPass time ∷ []) z r);
        read = λ k t r. ⊎_elim
            (λ (a : ReadsIn x.entries k t). x.read k t a)
            (λ (b : ReadsIn (LetsPass time ∷ []) k t). ⊎_elim (λ (c : ⊥). absurd c) (λ (c : ⊥). absurd c) b)
            (reads_split x.entries (LetsPass time ∷ []) k t r);
        started = λ v r. ⊎_elim
            (λ (a : StartsIn x.entries v). x.started v a)
            (λ (b : StartsIn (LetsPass time ∷ []) v). ⊎_elim (λ (c : ⊥). absurd c) (λ (c : ⊥). absurd c) b)
            (starts_split x.entries (LetsPass time ∷ []) v r);
      }

  pub reached : (moment : Moment w) → Reaches Opening moment.before moment.time (IsLeftIn [] moment.before)
  reached moment =
      waits Opening moment.before (last_time 0 moment.before) moment.time (IsLeftIn [] moment.before) moment.since moment.within
      (extends moment.before [] moment.after Opening moment.whole (first moment.before) opening_shadow)
    where
      first : (es : List WorldEntry) → IsBefore 0 es
      first [] = tt
      first (e ∷ es) = omega arith

  pub reached_later : (early late : Moment w) (between : List WorldEntry) (hosts : Hosts) → IsLater w early late between → hosts.now ≡ early.time
      → Shadows w is_world ticket setting early.before hosts
      → Reaches hosts late.before late.time (IsLeftIn early.before between)
  reached_later early late between hosts later now_is shadow =
      subst (λ (es : List WorldEntry). Reaches hosts es late.time (IsLeftIn early.before between)) (sym later.entries)
      (waits hosts (early.before ++ between) (last_time hosts.now between) late.time (IsLeftIn early.before between)
      (by_last between later.entries) late.within
      (extends between early.before late.after hosts whole (by_first between (early_until between later.entries)) shadow))
    where
      whole : w.entries ≡ early.before ++ (between ++ late.after)
      whole = late.whole ∙ ap (λ (es : List WorldEntry). es ++ late.after) later.entries ∙ append_both early.before between late.after

      by_last : (es : List WorldEntry) → late.before ≡ early.before ++ es → last_time hosts.now es ≤ late.time
      by_last [] is = subst (λ (n : ℕ). n ≤ late.time) (sym now_is) later.not_before
      by_last (e ∷ es) is =
          subst (λ (n : ℕ). n ≤ late.time) (ap (λ (xs : List WorldEntry). last_time 0 xs) is ∙ last_join 0 early.before es e) late.since

      cancel : (xs ys zs : List WorldEntry) → xs ++ ys ≡ xs ++ zs → ys ≡ zs
      cancel [] ys zs e = e
      cancel (x ∷ xs) ys zs e = cancel xs ys zs (tail (x ∷ xs ++ ys) (x ∷ xs ++ zs) e)
        where
          rest_of : List WorldEntry → List WorldEntry
          rest_of [] = []
          rest_of (a ∷ others) = others

          tail : (one other : List WorldEntry) → one ≡ other → rest_of one ≡ rest_of other
          tail one other same = ap rest_of same

      early_until : (es : List WorldEntry) → late.before ≡ early.before ++ es → IsBefore early.time es
      early_until [] is = tt
      early_until (e ∷ es) is =
          subst (λ (xs : List WorldEntry). IsBefore early.time xs)
          (cancel early.before early.after (e ∷ es ++ late.after)
          (sym early.whole ∙ late.whole ∙ ap (λ (xs : List WorldEntry). xs ++ late.after) is ∙ append_both early.before (e ∷ es) late.after)) early.until

      by_first : (es : List WorldEntry) → IsBefore early.time es → IsBefore hosts.now es
      by_first [] b = tt
      by_first (e ∷ es) b = subst (λ (n : ℕ). n ≤ e.time) (sym now_is) b

  -- ---- what a moment's hosts may have kept

  in_pending : (o : Option TurnTree) (may : List Record) (k : Record) → Has may k → Has (pending o may) k
  in_pending None may k h = h
  in_pending (Some (Ends view)) may k h = h
  in_pending (Some (Does (Keeps kept) go)) may k h = inr h
  in_pending (Some (Does ask go)) may k h = h

  next_kept : (m : ℕ) (node : NodeConfig) (name : List ℕ) (tried : Record) (go : Bool → Deeds Ask State) (ticket_name : List ℕ) (rec k : Record)
      (may : List Record) (last : LastStand) (p : HostPlace) (sent : List MemberMessage)
      → IsAt w is_world ticket setting m (Doing node (Does (Keep name tried) go)) last p sent → p.may ≡ may → ticket_name ≡ name → rec ≡ tried
      → Holds (if bytes_eq ticket_name ticket.name then rec ∷ may else may) k → Has (pending p.tree p.may) k
  next_kept m node name tried go ticket_name rec k may last p sent at same_may named same h = by_name (bytes_eq ticket_name ticket.name) refl h
    where
      old : Holds may k → Has (pending p.tree p.may) k
      old g = in_pending p.tree p.may k (subst (λ (rs : List Record). Has rs k) (sym same_may) (has_here may k g))

      this_one : bytes_eq ticket_name ticket.name ≡ true → rec ≡ k → IsAt w is_world ticket setting m (Doing node (Does (Keep name tried) go)) last p sent
          → Has (pending p.tree p.may) k
      this_one e is (inl x) =
          ⊎_elim
          (λ other. absurd (other.0 (sym named ∙ equal_bytes ticket_name ticket.name e)))
          (λ own. subst (λ (o : Option TurnTree). Has (pending o p.may) k) (sym (x.0.3 ∙ ap (λ (t : TurnTree). Some t) own.2)) (inl (sym same ∙ is)))
          x.0.5
      this_one e is (inr x) = absurd (x.0.1.0 (sym named ∙ equal_bytes ticket_name ticket.name e))

      by_name : (b : Bool) → bytes_eq ticket_name ticket.name ≡ b → Holds (if b then rec ∷ may else may) k → Has (pending p.tree p.may) k
      by_name false e g = old g
      by_name true e (inr g) = old g
      by_name true e (inl is) = this_one e is at

  next_covers : (m : ℕ) (stand : Stand) (x : SessionEntry) (xs : List SessionEntry) (may : List Record) (last : LastStand) (p : HostPlace) (sent : List MemberMessage) (k : Record)
      → IsAt w is_world ticket setting m stand last p sent → p.may ≡ may → MayDo stand x → Holds (with_next ticket.name may (x ∷ xs)) k
      → Has (pending p.tree p.may) k
  next_covers m (Doing node (Does (Keep name tried) go)) (Makes (calls.Keep ticket_name rec answer)) xs may last p sent k at same d h =
      next_kept m node name tried go ticket_name rec k may last p sent at same d.0 d.1 h
  next_covers m (Doing node (Does (Send peer message) go)) (Makes (calls.Keep ticket_name rec answer)) xs may last p sent k at same d h = absurd d
  next_covers m (Doing node (Does (Start job) go)) (Makes (calls.Keep ticket_name rec answer)) xs may last p sent k at same d h = absurd d
  next_covers m (Doing node (Ends old)) (Makes (calls.Keep ticket_name rec answer)) xs may last p sent k at same d h = absurd d
  next_covers m Down (Makes (calls.Keep ticket_name rec answer)) xs may last p sent k at same d h = absurd d
  next_covers m (Hearing node old got into) (Makes (calls.Keep ticket_name rec answer)) xs may last p sent k at same d h = absurd d
  next_covers m (Doing node (Does (Keep name tried) go)) (IsCut (CutKeep ticket_name rec)) xs may last p sent k at same d h =
      next_kept m node name tried go ticket_name rec k may last p sent at same d.0 d.1 h
  next_covers m (Doing node (Does (Send peer message) go)) (IsCut (CutKeep ticket_name rec)) xs may last p sent k at same d h = absurd d
  next_covers m (Doing node (Does (Start job) go)) (IsCut (CutKeep ticket_name rec)) xs may last p sent k at same d h = absurd d
  next_covers m (Doing node (Ends old)) (IsCut (CutKeep ticket_name rec)) xs may last p sent k at same d h = absurd d
  next_covers m Down (IsCut (CutKeep ticket_name rec)) xs may last p sent k at same d h = absurd d
  next_covers m (Hearing node old got into) (IsCut (CutKeep ticket_name rec)) xs may last p sent k at same d h = absurd d
  next_covers m stand what xs may last p sent k at same d h =
      in_pending p.tree p.may k (subst (λ (rs : List Record). Has rs k) (sym same) (has_here may k h))

  pub covers : (moment : Moment w) (m : ℕ) → m < members_of w → (hosts : Hosts) → Shadows w is_world ticket setting moment.before hosts → (k : Record)
      → Holds (may_at w ticket m moment) k → Has (host_may hosts m) k
  covers moment m below hosts shadow k h = by_next (entries_of m moment.after) refl h
    where
      by_next : (es : List SessionEntry) → entries_of m moment.after ≡ es
          → Holds (with_next ticket.name (may_of w is_world ticket setting m moment.before) es) k → Has (host_may hosts m) k
      by_next [] is g =
          in_pending (hosts.place m).tree (hosts.place m).may k
          (subst (λ (rs : List Record). Has rs k) (sym (shadow.each m below).same_may) (has_here (may_of w is_world ticket setting m moment.before) k g))
      by_next (x ∷ xs) is g =
          next_covers m (stand_after m moment.before) x xs (may_of w is_world ticket setting m moment.before)
          (last_after_all ticket.name no_stand (entries_of m moment.before)) (hosts.place m) hosts.sent k
          (shadow.each m below).at (shadow.each m below).same_may
          (sessions_at Down (entries_of m moment.before) xs x
          (subst (λ (es : List SessionEntry). AreSessions Down es)
          (ap (λ (es : List WorldEntry). entries_of m es) moment.whole ∙ entries_join m moment.before moment.after
          ∙ ap (λ (es : List SessionEntry). entries_of m moment.before ++ es) is) (is_world.one_daemon m below))) g

  -- ---- who stands at the places

  pub is_cast : IsCast (cluster w ticket setting) (cast w ticket setting)
  is_cast = record {
    ids = λ s t s_below t_below e.
        some_same s t (sym (setting.ids s s_below) ∙ ap (λ (i : MemberId). position (has_id i) w.members) e ∙ setting.ids t t_below);
    seated = λ m below session inside. refl;
    sound = λ m below session inside. setting.sound m below session;
  }

  pub holds_so : (moment : Moment w) (m : ℕ) (hosts : Hosts) → hosts.now ≡ moment.time → Shadows w is_world ticket setting moment.before hosts
      → (k : Record) → HoldsBy w ticket m moment k → HostHoldsBy (cluster w ticket setting) hosts m k
  holds_so moment m hosts now_is shadow k h = (
    h.0,
    covers moment m h.0 hosts shadow k h.1,
    subst (λ (t : ℕ). IsInForce k (reads (cluster w ticket setting) m t)) (sym now_is) h.2,
  )

  pub one_holds : IsTimed (cluster w ticket setting) → (moment : Moment w) (s t : ℕ) → HoldsIt w ticket s moment → HoldsIt w ticket t moment → s ≡ t
  one_holds timed moment s t by_s by_t =
      let r = reached moment in
      let hosts : Hosts = after_hosts w is_world ticket setting Opening r.entries in
      hosts_hold_one (cluster w ticket setting) (cast w ticket setting) r.entries
      (record { clocks = has_clocks w is_world.rising_clocks ticket setting begins_free; phases = has_phases w setting.goes_on ticket; is_cast = is_cast; hosted_early = r.hosted_all; hosted_late = tt })
      timed s t (by_s.0, holds_so moment s hosts r.now_is r.shadow by_s.0 by_s.1) (by_t.0, holds_so moment t hosts r.now_is r.shadow by_t.0 by_t.1)

  gave_back : (s : ℕ) (kept : Record) (z : Release) (earlier : List WorldEntry) (entry : WorldEntry)
      → GivesTermBack w ticket.name entry.member entry.time (stand_after entry.member (earlier ++ entry ∷ [])) entry.what z
      → GivesBackLease s kept.lease z
      → (entry.member ≡ s) × GivesBack w ticket.name s kept (stand_after s (earlier ++ entry ∷ [])) entry.what
  gave_back s kept z earlier entry back gives =
      let q = by_what (stand_after entry.member (earlier ++ entry ∷ [])) entry.what back in (
        q.0,
        subst (λ (m : ℕ). GivesBack w ticket.name m kept (stand_after m (earlier ++ entry ∷ [])) entry.what) q.0 q.1,
      )
    where
      by_what : (after : Stand) (what : SessionEntry) → GivesTermBack w ticket.name entry.member entry.time after what z
          → (entry.member ≡ s) × GivesBack w ticket.name entry.member kept after what
      by_what after (Makes (calls.Keep name rec (Ok done))) r =
          (sym r.2 ∙ gives.0, (r.0, r.1, (λ given is. subst (λ (n : ℕ). given.term ≤ n) r.3 (gives.1 given is)), r.5))
      by_what after what r = absurd r

  pub are_apart : IsTimed (cluster w ticket setting) → (early late : Moment w) (between : List WorldEntry) → IsLater w early late between → (s t : ℕ) → s ≢ t → (kept : Record)
      → HoldsBy w ticket s early kept → HoldsIt w ticket t late
      → IsApartFrom (cluster_of w ticket) ticket.times.after s kept early.time late.time ⊎ ReleasedIn w ticket s kept early.before between
  are_apart timed early late between later s t ne kept by_s by_t =
      let r = reached early in
      let hosts : Hosts = after_hosts w is_world ticket setting Opening r.entries in
      let q = reached_later early late between hosts later r.now_is r.shadow in
      let last : Hosts = after_hosts w is_world ticket setting hosts q.entries in
      ⊎_elim
      (λ (apart : IsApartFrom (cluster w ticket setting) ticket.times.after s kept hosts.now last.now).
      inl (subst (λ (n : ℕ). IsApartFrom (cluster w ticket setting) ticket.times.after s kept early.time n) q.now_is
      (subst (λ (n : ℕ). IsApartFrom (cluster w ticket setting) ticket.times.after s kept n last.now) r.now_is apart)))
      (λ x. inr (some_so early.before between _ _ (λ earlier entry rel. gave_back s kept x.0 earlier entry rel x.2) (q.released x.0 x.1)))
      (hosts_are_apart (cluster w ticket setting) (cast w ticket setting) r.entries q.entries
      (record { clocks = has_clocks w is_world.rising_clocks ticket setting begins_free; phases = has_phases w setting.goes_on ticket; is_cast = is_cast; hosted_early = r.hosted_all; hosted_late = q.hosted_all })
      timed s t ne kept ticket.times.after (is_distance w setting.goes_on ticket)
      (holds_so early s hosts r.now_is r.shadow kept by_s) (by_t.0, holds_so late t last q.now_is q.shadow by_t.0 by_t.1))

  -- ---- version 2 alone

  second_start : (what : SessionEntry) (version : Bool) → IsSecondStart what → StartsIt what version → version ≡ true
  second_start (Starts node reading records) version is here = sym here ∙ is
  second_start (Makes call) version is here = absurd here
  second_start (IsCut call) version is here = absurd here

  -- where each start of the world is of version 2, so is each that left its trace
  pub left_second : IsSecondWorld w → (before between after : List WorldEntry) → w.entries ≡ before ++ (between ++ after) → (version : Bool)
      → IsLeftIn before between (Begins version) → version ≡ true
  left_second all before [] after whole version x = absurd x
  left_second all before (e ∷ between) after whole version (inl here) =
      second_start e.what version (all before (between ++ after) e whole) here
  left_second all before (e ∷ between) after whole version (inr later) =
      left_second all (before ++ e ∷ []) between after (whole ∙ sym (append_both before (e ∷ []) (between ++ after))) version later

  pub terms_rise : IsTimed (cluster w ticket setting) → setting.goes_on ≡ true → IsSecondWorld w → (early late : Moment w) (between : List WorldEntry) → IsLater w early late between → (s t : ℕ) → s ≢ t
      → (kept other : Record) (first second : Lease) → kept.lease ≡ Some first → other.lease ≡ Some second
      → HoldsBy w ticket s early kept → HoldsBy w ticket t late other → first.term < second.term
  terms_rise timed on all early late between later s t ne kept other first second is_first is_second by_s by_t =
      let r = reached early in
      let hosts : Hosts = after_hosts w is_world ticket setting Opening r.entries in
      let q = reached_later early late between hosts later r.now_is r.shadow in
      let last : Hosts = after_hosts w is_world ticket setting hosts q.entries in
      let whole : w.entries ≡ early.before ++ (between ++ late.after) =
      late.whole ∙ ap (λ (es : List WorldEntry). es ++ late.after) later.entries ∙ append_both early.before between late.after in
      later_host (cluster w ticket setting) (cast w ticket setting) r.entries q.entries
      (record { clocks = has_clocks w is_world.rising_clocks ticket setting begins_free; phases = has_phases w setting.goes_on ticket; is_cast = is_cast; hosted_early = r.hosted_all; hosted_late = q.hosted_all })
      timed on (all_boots_second r.entries (λ v h. left_second all [] early.before early.after early.whole v (r.started v h)))
      (all_boots_second q.entries (λ v h. left_second all early.before between late.after whole v (q.started v h)))
      s t ne kept other first second is_first is_second 0
      (is_window w setting.goes_on ticket hosts.now last.now (subst (λ (n : ℕ). n < w.span) (sym q.now_is) late.within))
      (holds_so early s hosts r.now_is r.shadow kept by_s) (holds_so late t last q.now_is q.shadow other by_t)

  -- ---- terms

  some_after : (may : List Record) (x : SessionEntry) → (y : Record) × Has may y → (y : Record) × Has (may_after ticket.name may x) y
  some_after may (Starts node reading records) some = by_place (position (is_called ticket.name) node.config.tickets)
    where
      by_place : (o : Option ℕ) → (y : Record) × Has (option_map_or (λ (n : ℕ). record_at records n ∷ []) o may) y
      by_place None = some
      by_place (Some place) = (record_at records place, inl refl)
  some_after may (Makes (calls.Keep name rec answer)) some = by_name (bytes_eq name ticket.name) (is_ok answer)
    where
      by_name : (b ok : Bool) → (y : Record) × Has (if b then may_after_keep ok rec may else may) y
      by_name false ok = some
      by_name true true = (rec, inl refl)
      by_name true false = (rec, inl refl)
  some_after may (IsCut (CutKeep name rec)) some = by_name (bytes_eq name ticket.name)
    where
      by_name : (b : Bool) → (y : Record) × Has (if b then rec ∷ may else may) y
      by_name false = some
      by_name true = (rec, inl refl)
  some_after may x some = some

  some_after_all : (may : List Record) (xs : List SessionEntry) → (y : Record) × Has may y → (y : Record) × Has (may_after_all ticket.name may xs) y
  some_after_all may [] some = some
  some_after_all may (x ∷ xs) some = some_after_all (may_after ticket.name may x) xs (some_after may x some)

  pub holds_back : (xs : List Record) (x : Record) → Has xs x → Holds xs x
  holds_back [] x h = h
  holds_back (y ∷ ys) x (inl e) = inl e
  holds_back (y ∷ ys) x (inr h) = inr (holds_back ys x h)

  pub still_next : (may : List Record) (es : List SessionEntry) (k : Record) → Holds may k → Holds (with_next ticket.name may es) k
  still_next may [] k h = h
  still_next may (Makes (calls.Keep name rec answer) ∷ es) k h = by_name (bytes_eq name ticket.name)
    where
      by_name : (b : Bool) → Holds (if b then rec ∷ may else may) k
      by_name true = inr h
      by_name false = h
  still_next may (IsCut (CutKeep name rec) ∷ es) k h = by_name (bytes_eq name ticket.name)
    where
      by_name : (b : Bool) → Holds (if b then rec ∷ may else may) k
      by_name true = inr h
      by_name false = h
  still_next may (x ∷ es) k h = h

  -- where each record that a member may have kept has at least a term, so has each one at its host, a keep that comes
  -- next among them
  at_host : (early : Moment w) (s term : ℕ) → (below : s < members_of w)
      → ((k : Record) → Holds (may_at w ticket s early) k → term ≤ k.term)
      → (k : Record) → Has (host_may (after_hosts w is_world ticket setting Opening (reached early).entries) s) k → term ≤ k.term
  at_host early s term below least k h = by_tree (hosts.place s).tree refl h
    where
      hosts : Hosts
      hosts = after_hosts w is_world ticket setting Opening (reached early).entries

      of_may : (y : Record) → Has (hosts.place s).may y → term ≤ y.term
      of_may y g =
          least y (still_next (may_of w is_world ticket setting s early.before) (entries_of s early.after) y
          (holds_back (may_of w is_world ticket setting s early.before) y
          (subst (λ (rs : List Record). Has rs y) ((reached early).shadow.each s below).same_may g)))

      by_tree : (o : Option TurnTree) → (hosts.place s).tree ≡ o → Has (pending o (hosts.place s).may) k → term ≤ k.term
      by_tree None is g = of_may k g
      by_tree (Some (Ends view)) is g = of_may k g
      by_tree (Some (Does (Keeps kept) go)) is (inr g) = of_may k g
      by_tree (Some (Does (Keeps kept) go)) is (inl e) =
          let some = some_after_all (begins_with w s ticket.name ∷ []) (entries_of s early.before) (begins_with w s ticket.name, inl refl) in
          let there : Has (hosts.place s).may some.0 =
          subst (λ (rs : List Record). Has rs some.0) (sym ((reached early).shadow.each s below).same_may) some.1 in
          let low = of_may some.0 there in
          let high = next_is_highest (cluster w ticket setting) (cast w ticket setting) (reached early).entries
          (record { clocks = has_clocks w is_world.rising_clocks ticket setting begins_free; phases = has_phases w setting.goes_on ticket; is_cast = is_cast; hosted_early = (reached early).hosted_all; hosted_late = tt })
          s below kept go is some.0 (in_pending (hosts.place s).tree (hosts.place s).may some.0 there) in
          let same : kept.term ≡ k.term = ap (λ (r : Record). r.term) e in
          omega (arith, low, high, same)
      by_tree (Some (Does ask go)) is g = of_may k g

  pub terms_hold : (early late : Moment w) (between : List WorldEntry) → IsLater w early late between → (s term : ℕ) → s < members_of w
      → (is_site_at w.members s ≡ true) ⊎ (setting.goes_on ≡ true)
      → ((k : Record) → Holds (may_at w ticket s early) k → term ≤ k.term)
      → (k : Record) → Holds (may_at w ticket s late) k → term ≤ k.term
  terms_hold early late between later s term below on least k h =
      let r = reached early in
      let hosts : Hosts = after_hosts w is_world ticket setting Opening r.entries in
      let q = reached_later early late between hosts later r.now_is r.shadow in
      let last : Hosts = after_hosts w is_world ticket setting hosts q.entries in
      host_terms (cluster w ticket setting) (cast w ticket setting) r.entries q.entries
      (record { clocks = has_clocks w is_world.rising_clocks ticket setting begins_free; phases = has_phases w setting.goes_on ticket; is_cast = is_cast; hosted_early = r.hosted_all; hosted_late = q.hosted_all })
      s term below on (at_host early s term below least) k (covers late s below last q.shadow k h)
