-- In a world of version 2 leases are told apart by their terms, whatever its clocks do.
use Rattle.std.proofs.Common.{◌≡◌, ℕ, ◌<◌, ◌≤◌, true, List, ◌++◌, refl, sym, ap, ◌∙◌, subst, arith}
use Rattle.std.specs.Prelude.{Some}
use Rattle.booth_conf.specs.declared.tickets.TicketConf.{TicketConf}
use Rattle.booth_rec.specs.declared.record.Lease.{Lease}
use Rattle.booth_rec.specs.declared.record.Record.{Record}
use Rattle.booth_node.specs.World.{WorldEntry, World, members_of, id_at, clock_at, IsSecondWorld, IsUntimedWorld, RecordsGoOn}
use Rattle.booth_node.specs.Held.{Moment, IsAutomatic, HoldsBy}
use Rattle.booth_world.specs.Agreement.{record_in}
use Rattle.booth_world.specs.Clusters.{cluster_going}
use Rattle.booth_world.specs.States.{opening, HasClocks}
use Rattle.booth_world.specs.Steps.{WorldStep, IsRun, AreSecond, world_of}
use Rattle.booth_world.specs.Shadows.{HasShadow}
use Rattle.booth_world.specs.Worlds.{IsLater}
use Rattle.booth_world.specs.Fencing.{HasGained, IsBelow, HasGainedAt, IsBelowAt, TermsAreOfOneIn, HoldersOfOneTermIn, AskersHaveLaterTermsIn}
use Rattle.booth_world.proofs.Lists.{some_same}
use Rattle.booth_world.proofs.Views.{kept_of, record_has}
use Rattle.booth_world.proofs.Holders.{lease_in_force}
use Rattle.booth_world.proofs.Configured.{going_on, setting_of}
use Rattle.booth_world.proofs.WorldEntries.{has_clocks}
use Rattle.booth_world.proofs.WorldPhases.{one_phase}
use Rattle.booth_world.proofs.WorldRuns.{begins_free}
use Rattle.booth_world.proofs.WorldGrowth.{shadows_grow}
use Rattle.booth_world.proofs.FencedPhases.{terms_of_first, askers_of_first}

-- what a member has gained at a moment, its shadow's member has
gained_in : (w : World) (ticket : TicketConf) (m : ℕ) (moment : Moment w) (lease : Lease) (shadow : HasShadow w true ticket moment)
    → HasGainedAt w ticket m moment lease → HasGained (cluster_going true w ticket) (world_of (cluster_going true w ticket) shadow.steps) m lease
gained_in w ticket m moment lease shadow has =
    let z = kept_of (id_at w) ((world_of (cluster_going true w ticket) shadow.steps).member m).may has.kept (shadow.records m has.below has.kept has.may) in
    record { kept = z.0; may = z.1; has = ap (λ (k : Record). k.lease) z.2 ∙ has.has; fresh = has.fresh }

below_in : (w : World) (ticket : TicketConf) (m term : ℕ) (moment : Moment w) (shadow : HasShadow w true ticket moment) → m < members_of w
    → IsBelowAt w ticket m moment term → IsBelow (world_of (cluster_going true w ticket) shadow.steps) m term
below_in w ticket m term moment shadow inside below k h =
    below (record_in (id_at w) k)
    (shadow.no_more m inside (record_in (id_at w) k) (record_has (id_at w) ((world_of (cluster_going true w ticket) shadow.steps).member m).may k h))

-- the steps of both moments, as one list
record InSteps (w : World) (ticket : TicketConf) (early late : Moment w) : Type 0 where
  pub first : List WorldStep
  pub more : List WorldStep
  pub run : IsRun (cluster_going true w ticket) (opening (cluster_going true w ticket)) (first ++ more)
  pub second : AreSecond (first ++ more)
  pub early_gained : (m : ℕ) (lease : Lease) → HasGainedAt w ticket m early lease → HasGained (cluster_going true w ticket) (world_of (cluster_going true w ticket) first) m lease
  pub late_gained : (m : ℕ) (lease : Lease) → HasGainedAt w ticket m late lease → HasGained (cluster_going true w ticket) (world_of (cluster_going true w ticket) (first ++ more)) m lease
  pub early_below : (m term : ℕ) → m < members_of w → IsBelowAt w ticket m early term → IsBelow (world_of (cluster_going true w ticket) first) m term

in_steps : (w : World) → IsUntimedWorld w → IsSecondWorld w → RecordsGoOn w → (ticket : TicketConf) → IsAutomatic w ticket
    → (early late : Moment w) (between : List WorldEntry) → IsLater w early late between → InSteps w ticket early late
in_steps w is_world all on ticket automatic early late between later =
    let g = shadows_grow w is_world true (λ going. on) ticket automatic early late between later in
    let c = cluster_going true w ticket in record {
      first = g.first.steps;
      more = g.more;
      run = subst (λ (steps : List WorldStep). IsRun c (opening c) steps) g.goes_on g.second.run;
      second = subst AreSecond g.goes_on (g.all_second all);
      early_gained = λ m lease has. gained_in w ticket m early lease g.first has;
      late_gained = λ m lease has. subst (λ (steps : List WorldStep). HasGained c (world_of c steps) m lease) g.goes_on (gained_in w ticket m late lease g.second has);
      early_below = λ m term inside below. below_in w ticket m term early g.first inside below;
    }

-- the clocks of the ticket's cluster
pub going_clocks : (w : World) → IsUntimedWorld w → RecordsGoOn w → (ticket : TicketConf) → IsAutomatic w ticket → HasClocks (cluster_going true w ticket)
going_clocks w is_world on ticket automatic =
    let setting = going_on w ticket true (λ going. on) (setting_of w is_world.form ticket automatic.0 automatic.1) in
    has_clocks w is_world.rising_clocks ticket setting (begins_free w is_world ticket setting)

pub world_terms_of_one : (w : World) → IsUntimedWorld w → IsSecondWorld w → RecordsGoOn w → TermsAreOfOneIn w
world_terms_of_one w is_world all on ticket automatic early late between later s t first second by_s by_t same =
    let x = in_steps w is_world all on ticket automatic early late between later in
    terms_of_first (cluster_going true w ticket) ticket.times (one_phase w true ticket) (going_clocks w is_world on ticket automatic) refl x.first x.more x.run x.second s t first second (x.early_gained s first by_s) (x.late_gained t second by_t) same

pub world_askers : (w : World) → IsUntimedWorld w → IsSecondWorld w → RecordsGoOn w → AskersHaveLaterTermsIn w
world_askers w is_world all on ticket automatic early late between later s t first second by_s by_t below =
    let x = in_steps w is_world all on ticket automatic early late between later in
    askers_of_first (cluster_going true w ticket) ticket.times (one_phase w true ticket) (going_clocks w is_world on ticket automatic) refl x.first x.more x.run x.second s t first second (x.early_gained s first by_s) (x.late_gained t second by_t)
    (x.early_below t second.term by_t.below below)

-- who holds has gained the lease: one that it began with was over at what its clock first read
holder_gained : (w : World) → IsUntimedWorld w → (ticket : TicketConf) → IsAutomatic w ticket → (m : ℕ) (moment : Moment w) (kept : Record) (lease : Lease)
    → kept.lease ≡ Some lease → HoldsBy w ticket m moment kept → HasGainedAt w ticket m moment lease
holder_gained w is_world ticket automatic m moment kept lease is holds =
    let free = begins_free w is_world ticket (setting_of w is_world.form ticket automatic.0 automatic.1) m in
    let clocks = is_world.rising_clocks in
    let rise : clock_at w m 0 ≤ clock_at w m moment.time =
    (clocks.rising m holds.0).rises 0 moment.time (omega arith) (subst (λ (n : ℕ). moment.time < n) (sym (clocks.long m holds.0)) moment.within) in
    let q = lease_in_force kept.lease (clock_at w m moment.time) holds.2 in
    let live : clock_at w m moment.time < lease.until = subst (λ (l : Lease). clock_at w m moment.time < l.until) (some_same q.0 lease (sym q.1 ∙ is)) q.2 in
    record {
      below = holds.0;
      kept = kept;
      may = holds.1;
      has = is;
      fresh = λ began. let over = free.over lease began in omega (arith, over, rise, live);
    }

pub holders_of_one_term : (w : World) → IsUntimedWorld w → IsSecondWorld w → RecordsGoOn w → HoldersOfOneTermIn w
holders_of_one_term w is_world all on ticket automatic early late between later s t kept other first second is_first is_second by_s by_t same =
    world_terms_of_one w is_world all on ticket automatic early late between later s t first second
    (holder_gained w is_world ticket automatic s early kept first is_first by_s)
    (holder_gained w is_world ticket automatic t late other second is_second by_t)
    same
