-- A leader goes on to hold its ticket in a world.
use Rattle.std.proofs.Common.{◌≡◌, ℕ, ◌+◌, ◌<◌, ◌≤◌, List, [], ◌∷◌, ◌++◌, refl, sym, ap, ◌∙◌, subst, arith}
use Rattle.std.specs.Prelude.{Option, Some, None, IsSomeAnd, slice_get}
use Rattle.booth_base.specs.Tree.{Ends, Does}
use Rattle.booth_host.specs.declared.entry.Entry.{Entry}
use Rattle.booth_host.specs.declared.entry.Entry.TheVariants as calls
use Rattle.booth_rec.specs.declared.record.Lease.{Lease}
use Rattle.booth_rec.specs.declared.record.Record.{Record}
use Rattle.booth_rec.specs.Record.{IsInForce, lease_end}
use Rattle.booth_wire.specs.declared.message.Setup.{Setup}
use Rattle.booth_raft.specs.declared.view.View.{View}
use Rattle.booth_raft.specs.GainReleaseLost.{own_end}
use Rattle.booth_ticket.specs.Ticket.{Automatic, Known, Manual, TicketState}
use Rattle.booth_node.specs.declared.node_config.NodeConfig.{NodeConfig}
use Rattle.booth_node.specs.Held.{Holds, Moment}
use Rattle.booth_node.specs.Records.{Has}
use Rattle.booth_node.specs.Session.{AreSessions, Doing, Down, Hearing, IsCut, Makes, MayMake, SessionEntry, Stand, Starts, after_call, after_entries, after_entry}
use Rattle.booth_node.specs.State.{State}
use Rattle.booth_node.specs.World.{IsUntimedWorld, World, WorldEntry, clock_at, entries_of, id_at, members_of, stand_after}
use Rattle.booth_world.specs.Tellers.{address_at}
use Rattle.booth_world.specs.Worlds.{IsLater}
use Rattle.booth_world.proofs.TellerClaims.{IsOwn, IsPlaced}
use Rattle.booth_world.proofs.TellerSteps.{IsHonest}
use Rattle.booth_world.proofs.TellerWorlds.{IsHonestAt, found, honest_after, lasts, may_of, setup_now, some_after}
use Rattle.booth_world.proofs.WorldHosts.{entries_join}
use Rattle.booth_world.proofs.WorldRuns.{append_both}
use Rattle.booth_progress.specs.Exchange.{IsAtRest}
use Rattle.booth_progress.specs.Sessions.{EachEntry, IsCalmEntry, IsWell, RestsLeading, Stands}
use Rattle.booth_progress.specs.Turns.{HasSomeView, HasView}
use Rattle.booth_progress.specs.Winning.{IsTimelyEntry, RestsRenewed}
use Rattle.booth_progress.proofs.SessionLemmas.{sessions_keep_leases}
use Rattle.booth_progress.proofs.WinningSessions.{sessions_win}
use Rattle.booth_timely.specs.Holding.{AnsweredRenewalsHold, HasPlace, LeasesLast, RestsWith, ViewsHold}

-- ---- a view with a lease in force

in_force : (clock : ℕ) (kept : Record) → clock < lease_end kept.lease → IsInForce kept clock
in_force clock kept early = by_lease kept.lease early
  where
    by_lease : (o : Option Lease) → clock < lease_end o → IsSomeAnd o (λ lease. clock < lease.until)
    by_lease None early = absurd (omega (arith, early))
    by_lease (Some lease) early = early

same_known : (setup own : Setup) (view : View) (known : Known) (o : Option TicketState)
    → o ≡ Some (record { setup = own; known = known }) → o ≡ Some (record { setup = setup; known = Automatic view })
    → known ≡ Automatic view
same_known setup own view known o e f =
    ap (λ (t : TicketState). t.known)
    (some_ticket (record { setup = own; known = known }) (record { setup = setup; known = Automatic view }) (sym e ∙ f))
  where
    some_ticket : (a b : TicketState) → Some a ≡ Some b → a ≡ b
    some_ticket a b e = cc

-- an honest view's record may have been written
kept_of : (s : Setup) (may : List Record) (known : Known) (view : View) → IsHonest s may known → known ≡ Automatic view
    → Has may view.kept
kept_of s may (Manual known) view honest is = absurd honest
kept_of s may (Automatic own) view honest is =
    subst (λ (v : View). Has may v.kept) (same_view is) (subst (λ (r : Record). Has may r) (sym honest.2.same) honest.1)
  where
    same_view : Automatic own ≡ Automatic view → own ≡ view
    same_view e = cc

pub views_hold : ViewsHold
views_hold w is_world ticket automatic m below moment place setup view at rests early = (
  view.kept,
  (
    below,
    some_after w is_world ticket automatic.0 automatic.1 m below view.kept
        (may_of w is_world ticket automatic.0 automatic.1 m below moment.before) (entries_of m moment.after) kept,
    in_force (clock_at w m moment.time) view.kept early,
  ),
)
  where
    by_place : (node : NodeConfig) (state : State) → HasView state place setup view
        → IsPlaced (setup_now w is_world ticket automatic.0 automatic.1 m below node)
        (found w is_world ticket automatic.0 automatic.1 m below node)
        (may_of w is_world ticket automatic.0 automatic.1 m below moment.before) state.tickets
        → found w is_world ticket automatic.0 automatic.1 m below node ≡ Some place
        → Has (may_of w is_world ticket automatic.0 automatic.1 m below moment.before) view.kept
    by_place node state has placed is =
        by_own (placed.own place is)
      where
        by_own : IsOwn (setup_now w is_world ticket automatic.0 automatic.1 m below node)
            (found w is_world ticket automatic.0 automatic.1 m below node) place
            (may_of w is_world ticket automatic.0 automatic.1 m below moment.before) state.tickets
            → Has (may_of w is_world ticket automatic.0 automatic.1 m below moment.before) view.kept
        by_own own =
            kept_of (setup_now w is_world ticket automatic.0 automatic.1 m below node)
            (may_of w is_world ticket automatic.0 automatic.1 m below moment.before) own.known view own.honest
            (same_known setup (setup_now w is_world ticket automatic.0 automatic.1 m below node) view own.known (slice_get state.tickets place) own.own has)

    by_stand : (stand : Stand) → HasPlace ticket.name place stand → RestsWith place setup view stand
        → IsHonestAt ticket (id_at w m) (address_at w m) (lasts w is_world ticket automatic.0 automatic.1 m below)
        (may_of w is_world ticket automatic.0 automatic.1 m below moment.before) stand
        → Has (may_of w is_world ticket automatic.0 automatic.1 m below moment.before) view.kept
    by_stand Down at rests honest = absurd at
    by_stand (Doing node (Ends state)) at rests honest = by_place node state rests honest.1 at
    by_stand (Doing node (Does ask go)) at rests honest = absurd rests
    by_stand (Hearing node old answer bytes) at rests honest = by_place node old rests honest.1 at

    kept : Has (may_of w is_world ticket automatic.0 automatic.1 m below moment.before) view.kept
    kept =
        by_stand (stand_after m moment.before) at rests
        (honest_after w is_world ticket automatic.0 automatic.1 m below moment.before moment.after moment.whole)

-- ---- the entries between two moments

after_on : (stand : Stand) (xs ys : List SessionEntry) → after_entries stand (xs ++ ys) ≡ after_entries (after_entries stand xs) ys
after_on stand [] ys = refl
after_on stand (x ∷ xs) ys = after_on (after_entry stand x) xs ys

sessions_on : (stand : Stand) (xs ys : List SessionEntry) → AreSessions stand (xs ++ ys) → AreSessions (after_entries stand xs) ys
sessions_on stand [] ys are = are
sessions_on stand (x ∷ xs) ys are = sessions_on (after_entry stand x) xs ys are.1

sessions_first : (stand : Stand) (xs ys : List SessionEntry) → AreSessions stand (xs ++ ys) → AreSessions stand xs
sessions_first stand [] ys are = tt
sessions_first stand (x ∷ xs) ys are = (are.0, sessions_first (after_entry stand x) xs ys are.1)

module _ (w : World) (is_world : IsUntimedWorld w) (m : ℕ) (below : m < members_of w) (early late : Moment w)
    (between : List WorldEntry) (later : IsLater w early late between) where
  are_sessions : AreSessions (stand_after m early.before) (entries_of m between)
  are_sessions =
      sessions_first (stand_after m early.before) (entries_of m between) (entries_of m late.after)
      (sessions_on Down (entries_of m early.before) (entries_of m between ++ entries_of m late.after)
      (subst (λ (xs : List SessionEntry). AreSessions Down xs) whole (is_world.one_daemon m below)))
    where
      whole : entries_of m w.entries ≡ entries_of m early.before ++ (entries_of m between ++ entries_of m late.after)
      whole =
          ap (λ (es : List WorldEntry). entries_of m es) late.whole
          ∙ ap (λ (es : List WorldEntry). entries_of m (es ++ late.after)) later.entries
          ∙ ap (λ (es : List WorldEntry). entries_of m es) (append_both early.before between late.after)
          ∙ entries_join m early.before (between ++ late.after)
          ∙ ap (λ (xs : List SessionEntry). entries_of m early.before ++ xs) (entries_join m between late.after)

  stands_late : stand_after m late.before ≡ after_entries (stand_after m early.before) (entries_of m between)
  stands_late =
      ap (λ (es : List WorldEntry). after_entries Down (entries_of m es)) later.entries
      ∙ ap (λ (xs : List SessionEntry). after_entries Down xs) (entries_join m early.before between)
      ∙ after_on Down (entries_of m early.before) (entries_of m between)

-- the place of the ticket is the same through a session
place_makes : (name : List ℕ) (place : ℕ) (stand : Stand) (call : Entry) → HasPlace name place stand → MayMake stand call
    → HasPlace name place (after_call stand call)
place_makes name place Down call at d = absurd at
place_makes name place (Doing node (Ends old)) (calls.Next wait answer bytes) at d = at
place_makes name place (Doing node (Ends old)) call at d = absurd d
place_makes name place (Doing node (Does ask go)) call at d = at
place_makes name place (Hearing node old answer bytes) (calls.Now reading) at d = at
place_makes name place (Hearing node old answer bytes) call at d = absurd d

place_on : (name : List ℕ) (place : ℕ) (Fits : Stand → SessionEntry → Type 0)
    → ((stand : Stand) (what : SessionEntry) → Fits stand what → IsWell what) → (stand : Stand) (entries : List SessionEntry)
    → AreSessions stand entries → EachEntry Fits stand entries → HasPlace name place stand
    → HasPlace name place (after_entries stand entries)
place_on name place Fits well stand [] are fits at = at
place_on name place Fits well stand (Makes call ∷ entries) are fits at =
    place_on name place Fits well (after_call stand call) entries are.1 fits.1 (place_makes name place stand call at are.0)
place_on name place Fits well stand (Starts node reading records ∷ entries) are fits at =
    absurd (well stand (Starts node reading records) fits.0)
place_on name place Fits well stand (IsCut call ∷ entries) are fits at = absurd (well stand (IsCut call) fits.0)

-- the state at rest
at_rest : (Holding : View → Type 0) (Rest : State → Type 0) (place : ℕ) (setup : Setup)
    → ((state : State) → Rest state → HasSomeView state place setup Holding) → (stand : Stand) → IsAtRest stand → Stands Rest stand
    → (view : View) × RestsWith place setup view stand × Holding view
at_rest Holding Rest place setup open_it Down rests h = absurd rests
at_rest Holding Rest place setup open_it (Doing node (Ends state)) rests h = open_it state h
at_rest Holding Rest place setup open_it (Doing node (Does ask go)) rests h = absurd rests
at_rest Holding Rest place setup open_it (Hearing node old answer bytes) rests h = open_it old h

pub leases_last : LeasesLast
leases_last w is_world ticket automatic m below early late between later place setup first at short two leads calm rests runs =
    by_view (at_rest (λ v. own_end first ≤ own_end v) (RestsLeading place setup first) place setup opened
    (stand_after m late.before) rests (subst (λ (s : Stand). Stands (RestsLeading place setup first) s) (sym stand_is) kept))
  where
    are : AreSessions (stand_after m early.before) (entries_of m between)
    are = are_sessions w is_world m below early late between later

    stand_is : stand_after m late.before ≡ after_entries (stand_after m early.before) (entries_of m between)
    stand_is = stands_late w is_world m below early late between later

    kept : Stands (RestsLeading place setup first) (after_entries (stand_after m early.before) (entries_of m between))
    kept = sessions_keep_leases place setup first (stand_after m early.before) (entries_of m between) short two are calm leads

    still_at : HasPlace ticket.name place (stand_after m late.before)
    still_at =
        subst (λ (s : Stand). HasPlace ticket.name place s) (sym stand_is)
        (place_on ticket.name place (IsCalmEntry place first) (λ stand what fit. fit.well) (stand_after m early.before)
        (entries_of m between) are calm at)

    opened : (state : State) → RestsLeading place setup first state → HasSomeView state place setup (λ v. own_end first ≤ own_end v)
    opened state r = let found_view = r.keeps in (found_view.0, found_view.1, found_view.2.longer)

    by_view : (view : View) × RestsWith place setup view (stand_after m late.before) × (own_end first ≤ own_end view)
        → Holds w ticket m late
    by_view (view, there, longer) =
        views_hold w is_world ticket automatic m below late place setup view still_at there (omega (arith, runs, longer))

pub answered_renewals_hold : AnsweredRenewalsHold
answered_renewals_hold w is_world ticket automatic m below early late between later place attempt at fit awaits timely heard rests runs =
    by_view (at_rest (λ v. attempt.first.opened + attempt.setup.times.expire ≤ own_end v) (RestsRenewed attempt place) place
    attempt.setup opened (stand_after m late.before) rests
    (subst (λ (s : Stand). Stands (RestsRenewed attempt place) s) (sym stand_is) renewed))
  where
    are : AreSessions (stand_after m early.before) (entries_of m between)
    are = are_sessions w is_world m below early late between later

    stand_is : stand_after m late.before ≡ after_entries (stand_after m early.before) (entries_of m between)
    stand_is = stands_late w is_world m below early late between later

    renewed : Stands (RestsRenewed attempt place) (after_entries (stand_after m early.before) (entries_of m between))
    renewed = sessions_win.renewed place attempt (stand_after m early.before) (entries_of m between) fit are timely awaits heard

    still_at : HasPlace ticket.name place (stand_after m late.before)
    still_at =
        subst (λ (s : Stand). HasPlace ticket.name place s) (sym stand_is)
        (place_on ticket.name place (IsTimelyEntry attempt place) (λ stand what fits. fits.well) (stand_after m early.before)
        (entries_of m between) are timely at)

    opened : (state : State) → RestsRenewed attempt place state
        → HasSomeView state place attempt.setup (λ v. attempt.first.opened + attempt.setup.times.expire ≤ own_end v)
    opened state (view, there, h) = (view, there, h.renewed)

    by_view : (view : View) × RestsWith place attempt.setup view (stand_after m late.before)
        × (attempt.first.opened + attempt.setup.times.expire ≤ own_end view) → Holds w ticket m late
    by_view (view, there, longer) =
        views_hold w is_world ticket automatic m below late place attempt.setup view still_at there (omega (arith, runs, longer))
