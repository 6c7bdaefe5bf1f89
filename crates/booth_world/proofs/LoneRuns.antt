-- The entries of the lone member may come, and the ticket is held after them.
use Rattle.std.proofs.Common.{Bool, false, [], refl, inl, arith}
use Rattle.booth_base.specs.Tree.{Ends, Does}
use Rattle.booth_base.specs.declared.name.Name.{Name}
use Rattle.booth_raft.specs.declared.view.View.{View}
use Rattle.booth_world.specs.Examples.{example_times}
use Rattle.booth_world.specs.OnePhase.{all_seats}
use Rattle.booth_world.specs.States.{HasClocks, HasPhases}
use Rattle.booth_world.specs.Cores.{IsCast, opening_session}
use Rattle.booth_world.specs.CoreLaws.{CoreCourse, CoreHolds, early_cores}
use Rattle.booth_world.specs.Rules.{Asks, Greets, lease_rules}
use Rattle.booth_world.specs.Turns.{TurnTree, call_tree, LeavesAlways}
use Rattle.booth_rec.specs.Record.{no_record}
use Rattle.booth_world.specs.HostLaws.{HostCourse, HostHolds, early_hosts}
use Rattle.booth_world.specs.LoneExamples.{lone, lone_cast, lone_lease, lone_grant, lone_restart, lone_turn}
use Rattle.booth_world.proofs.ExampleRuns.{same_place, each_clock, inactive}
use Rattle.booth_world.proofs.OnePhaseLemmas.{one_phase_is_enough}
use Rattle.booth_world.proofs.WorldGood.{bare_well}

lone_clocks : HasClocks lone
lone_clocks = record { some = omega arith; long = λ m h. refl; rising = λ m h. (each_clock 2).rising; begins = λ m. bare_well 1 _ }

lone_phases : HasPhases lone
lone_phases = (one_phase_is_enough lone (all_seats 1) example_times refl (λ place below. (below, refl))).phases

lone_is_cast : (ticket : Name) → IsCast lone (lone_cast ticket)
lone_is_cast ticket = record {
  ids = same_place 1;
  seated = λ m below session inside. refl;
  sound = λ m below session inside. record {
    place = below;
    members = omega arith;
    rank = omega arith;
    expire = omega arith;
    after = omega arith;
    timeout = omega arith;
    renewal = omega arith;
    retries = omega arith;
  };
}

pub lone_entered : (ticket : Name) → CoreCourse lone (lone_cast ticket) lone_grant lone_restart
lone_entered ticket = record {
  clocks = lone_clocks;
  phases = lone_phases;
  is_cast = lone_is_cast ticket;
  enters_early = (
    (omega arith, refl, inl (inl refl), (λ e. e), (λ on. inl (inl refl)), omega arith, omega arith, (omega arith, refl)),
    (
      (omega arith, omega arith, omega arith, λ second. absurd (inactive second)),
      ((omega arith, (refl, refl), omega arith), ((omega arith, refl, omega arith), ((omega arith, refl, omega arith), tt))),
    ),
  );
  enters_late = (
    (omega arith, (refl, refl), omega arith),
    ((omega arith, refl, omega arith), ((omega arith, (refl, refl), omega arith), ((omega arith, tt), ((omega arith, refl, inl (inl refl), (λ e. e), (λ on. inl (inl refl)), omega arith, omega arith, (omega arith, refl)), tt)))),
  );
}

pub lone_holds : (ticket : Name) → CoreHolds lone (early_cores lone (lone_cast ticket) lone_grant) 0
lone_holds ticket = (lone_lease, (omega arith, inl refl, omega arith))

-- what is so of every view is so of what a tree leaves
left_so : (P : View → Type 0) → ((view : View) → P view) → (tree : TurnTree) → LeavesAlways P tree
left_so P so (Ends view) = so view
left_so P so (Does ask go) = λ ok. left_so P so (go ok)

-- the deeds of its call
abbrev asks_tree : Name → TurnTree
asks_tree ticket =
    let s = (lone_cast ticket).setup 0 (opening_session false) in
    let view = lease_rules.start s no_record 0 in
    call_tree s 6 (lease_rules.call s view 6 Greets).view (Asks 0)

pub lone_hosted : (ticket : Name) → HostCourse lone (lone_cast ticket) lone_turn []
lone_hosted ticket = record {
  clocks = lone_clocks;
  phases = lone_phases;
  is_cast = lone_is_cast ticket;
  hosted_early = (
    (omega arith, omega arith, omega arith, refl, inl (inl refl), (λ e. e), (λ on. inl (inl refl)), omega arith, omega arith, (omega arith, refl)),
    (
      (omega arith, omega arith, omega arith, (tt, (refl, left_so (λ (view : View). (ok : Bool) → Unit {0}) (λ view ok. tt) (asks_tree ticket))), (λ l e. absurd (cc)), omega arith),
      (
        (omega arith, refl, omega arith),
        ((omega arith, refl, omega arith), ((omega arith, tt), ((omega arith, omega arith, omega arith, refl, inl (inl refl), (λ e. e), (λ on. inl (inl refl)), omega arith, omega arith, (omega arith, refl)), tt))),
      ),
    ),
  );
  hosted_late = tt;
}

pub lone_host_holds : (ticket : Name) → HostHolds lone (early_hosts lone (lone_cast ticket) lone_turn) 0
lone_host_holds ticket = (lone_lease, (omega arith, inl refl, omega arith))
