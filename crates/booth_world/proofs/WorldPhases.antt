-- The cluster of a world's ticket has one phase, which is open as long as the clocks run.
use Rattle.std.proofs.Common.{◌≡◌, ℕ, ◌+◌, ◌*◌, ◌<◌, ◌≤◌, Bool, refl, sym, subst, arith}
use native.Mathlib.Nat.{le_of_eq}
use Rattle.booth_base.specs.Times.{promise_of}
use Rattle.booth_conf.specs.declared.tickets.TicketConf.{TicketConf}
use Rattle.booth_node.specs.World.{World, members_of}
use Rattle.booth_world.specs.Clusters.{cluster_going}
use Rattle.booth_world.specs.Cores.{Session}
use Rattle.booth_world.specs.Hosts.{IsOpenAt}
use Rattle.booth_world.specs.OnePhase.{stride, all_seats, HasOnePhase}
use Rattle.booth_world.specs.States.{HasPhases, IsDistance, IsWindow}
use Rattle.booth_world.proofs.OnePhaseLemmas.{one_phase_is_enough}

module _ (w : World) (going : Bool) (ticket : TicketConf) where
  pub one_phase : HasOnePhase (cluster_going going w ticket) ticket.times
  one_phase = one_phase_is_enough (cluster_going going w ticket) (all_seats (members_of w)) ticket.times refl (λ place below. (below, refl))

  pub has_phases : HasPhases (cluster_going going w ticket)
  has_phases = one_phase.phases

  pub is_distance : IsDistance (cluster_going going w ticket) ticket.times.after
  is_distance phase = le_of_eq (sym (one_phase.distance phase))

  pub is_window : (early late : ℕ) → late < w.span → IsWindow (cluster_going going w ticket) 0 early late
  is_window early late within =
      (at_first (stride w.span w.ticks ticket.times), next_late (stride w.span w.ticks ticket.times) (longer w.span (w.ticks * (promise_of ticket.times + 1))))
    where
      at_first : (length : ℕ) → length * 0 ≤ early
      at_first length = omega arith

      longer : (span x : ℕ) → span ≤ span + 2 * x
      longer span x = omega arith

      next_late : (length : ℕ) → w.span ≤ length → late < length * (0 + 1)
      next_late length long = omega (arith, within, long)

  pub is_open : (session : Session) (time : ℕ) → time < w.span → IsOpenAt (cluster_going going w ticket) session time
  is_open session time within = by_opening (stride w.span w.ticks ticket.times * session.phase)
    where
      by_opening : (opens : ℕ) → time ≤ opens + w.span
      by_opening opens = omega (arith, within)

  -- a session of the only phase starts when the phase is open
  pub has_opened : (session : Session) (time : ℕ) → session.phase ≡ 0 → ((cluster_going going w ticket).phase session.phase).opens ≤ time
  has_opened session time first =
      subst (λ (phase : ℕ). ((cluster_going going w ticket).phase phase).opens ≤ time) (sym first) (at_first (stride w.span w.ticks ticket.times))
    where
      at_first : (length : ℕ) → length * 0 ≤ time
      at_first length = omega arith
