-- The term that a resting node would tell is that of a lease that it gained.
use Rattle.std.proofs.Common.{◌≡◌, ℕ, ◌<◌, ◌≤◌, Bool, true, false, List, refl, sym, ap, ◌∙◌, subst, arith}
use Rattle.std.specs.Prelude.{Option, Some, None, if◌then◌else◌, ◌&&◌, nat_lt, slice_get}
use Rattle.std.proofs.lemmas.Bool.Decides.{nat_tests}
use Rattle.std.proofs.lemmas.Bool.{and_parts}
use Rattle.booth_conf.specs.declared.tickets.TicketConf.{TicketConf}
use Rattle.booth_rec.specs.declared.record.Lease.{Lease}
use Rattle.booth_rec.specs.declared.record.Record.{Record}
use Rattle.booth_rec.specs.Record.{lease_end}
use Rattle.booth_wire.specs.declared.message.Setup.{Setup}
use Rattle.booth_raft.specs.declared.view.View.{View}
use Rattle.booth_raft.specs.Members.{is_leader}
use Rattle.booth_raft.specs.GainReleaseLost.{own_end}
use Rattle.booth_ticket.specs.Requests.{is_holder, told_lease}
use Rattle.booth_ticket.specs.Ticket.{TicketState, Automatic}
use Rattle.booth_node.specs.Opening.{setup_of}
use Rattle.booth_node.specs.World.{World, id_at, clock_at, IsSecondWorld, IsUntimedWorld, RecordsGoOn}
use Rattle.booth_node.specs.Held.{Moment, IsAutomatic}
use Rattle.booth_world.specs.Clusters.{cluster_going}
use Rattle.booth_world.specs.States.{opening, HasClocks}
use Rattle.booth_world.specs.Steps.{WorldStep, IsRun, AreSecond, world_of}
use Rattle.booth_world.specs.Shadows.{HasShadow}
use Rattle.booth_world.specs.Fencing.{HasGained}
use Rattle.booth_world.specs.Told.{WouldTell, ToldTermsAreOfOneIn}
use Rattle.booth_world.proofs.Lists.{none_is, some_same}
use Rattle.booth_world.proofs.Views.{kept_of}
use Rattle.booth_world.proofs.Configured.{going_on, setting_of}
use Rattle.booth_world.proofs.WorldGood.{opening_good, run_good}
use Rattle.booth_world.proofs.WorldEntries.{has_clocks}
use Rattle.booth_world.proofs.WorldRuns.{begins_free}
use Rattle.booth_world.proofs.WorldGrowth.{shadows_grow}
use Rattle.booth_world.proofs.WorldPhases.{one_phase, has_phases}
use Rattle.booth_world.proofs.FencedPhases.{terms_of_first}
use Rattle.booth_world.proofs.FencedWorlds.{going_clocks}

-- what is told is the record's lease, and not over
pub told_is : (setup : Setup) (view : View) (now : ℕ) (lease : Lease) → told_lease setup view now ≡ Some lease
    → (view.kept.lease ≡ Some lease) × (now < lease.until)
told_is setup view now lease e = by_holder (is_holder setup view now) refl e
  where
    by_holder : (b : Bool) → is_holder setup view now ≡ b → (if b then view.kept.lease else None) ≡ Some lease
        → (view.kept.lease ≡ Some lease) × (now < lease.until)
    by_holder false is q = absurd (none_is lease q)
    by_holder true is q =
        let left : nat_lt now (own_end view) ≡ true = (and_parts (setup.site && is_leader view.role) (nat_lt now (own_end view)) is).1 in
        let end : own_end view ≡ lease.until = ap (λ (o : Option Lease). lease_end o) q in
        (q, grind (arith, nat_tests, left, end))

the_view : (o : Option TicketState) (setup : Setup) (a b : View) → o ≡ Some (record { setup = setup; known = Automatic a })
    → o ≡ Some (record { setup = setup; known = Automatic b }) → a ≡ b
the_view o setup a b first second =
    let e : Some (state_of a) ≡ Some (state_of b) = sym first ∙ second in
    same_view (ap (λ (x : TicketState). x.known) (some_same (state_of a) (state_of b) e))
  where
    state_of : View → TicketState
    state_of view = record { setup = setup; known = Automatic view }

    same_view : Automatic a ≡ Automatic b → a ≡ b
    same_view e = cc

gained_told : (w : World) → IsUntimedWorld w → RecordsGoOn w → (ticket : TicketConf) → IsAutomatic w ticket → (m : ℕ) (moment : Moment w) (lease : Lease)
    → (shadow : HasShadow w true ticket moment) → WouldTell w ticket m moment lease
    → HasGained (cluster_going true w ticket) (world_of (cluster_going true w ticket) shadow.steps) m lease
gained_told w is_world on ticket automatic m moment lease shadow tells =
    let c = cluster_going true w ticket in
    let state = world_of c shadow.steps in
    let setting = going_on w ticket true (λ going. on) (setting_of w is_world.form ticket automatic.0 automatic.1) in
    let free = begins_free w is_world ticket setting in
    let clocks : HasClocks c = has_clocks w is_world.rising_clocks ticket setting free in
    let k = shadow.knows m tells.below tells.node tells.resting tells.rests tells.place tells.own tells.is tells.named in
    let same : k.view ≡ tells.view = the_view (slice_get tells.resting.tickets tells.place) (setup_of tells.node tells.place tells.own) k.view tells.view k.known tells.known in
    let z = kept_of (id_at w) (state.member m).may k.view.kept k.agrees.kept in
    let told = told_is (setup_of tells.node tells.place tells.own) tells.view tells.reading lease tells.tells in
    let good = (run_good c clocks (has_phases w true ticket) (opening c) shadow.steps (opening_good c clocks) shadow.run) in
    let clock = (good.each m).clock in
    let read = clock.clock in
    let past = clock.past in
    let within = good.facts.within in
    let rise : clock_at w m 0 ≤ clock_at w m (state.member m).at =
    (clocks.rising m tells.below).rises 0 (state.member m).at (omega arith) (let long = clocks.long m tells.below in omega (arith, long, past, within)) in
    let last = k.reading in
    let later = tells.later in
    record {
      kept = z.0;
      may = z.1;
      has = ap (λ (r : Record). r.lease) z.2 ∙ (ap (λ (v : View). v.kept.lease) same ∙ told.0);
      fresh = λ began. let over = (free m).over lease began in let live = told.1 in omega (arith, over, live, rise, read, last, later);
    }

pub told_terms : (w : World) → IsUntimedWorld w → IsSecondWorld w → RecordsGoOn w → ToldTermsAreOfOneIn w
told_terms w is_world all on ticket automatic early late between later s t first second by_s by_t same =
    let c = cluster_going true w ticket in
    let g = shadows_grow w is_world true (λ going. on) ticket automatic early late between later in
    terms_of_first c ticket.times (one_phase w true ticket) (going_clocks w is_world on ticket automatic) refl g.first.steps g.more (subst (λ (steps : List WorldStep). IsRun c (opening c) steps) g.goes_on g.second.run)
    (subst AreSecond g.goes_on (g.all_second all)) s t first second
    (gained_told w is_world on ticket automatic s early first g.first by_s)
    (subst (λ (steps : List WorldStep). HasGained c (world_of c steps) t second) g.goes_on (gained_told w is_world on ticket automatic t late second g.second by_t))
    same
