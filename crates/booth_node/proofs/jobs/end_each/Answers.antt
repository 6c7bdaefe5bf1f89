use Rattle.std.proofs.Common.{ℕ, List, refl, ap, sym, ◌∙◌, subst}
use Rattle.std.specs.Prelude.{Some}
use Rattle.std.specs.List.{range_with_len}
use Rattle.booth_node.specs.declared.event.Event.TheVariants.{Over}
use Rattle.booth_node.specs.declared.node_config.NodeConfig.{NodeConfig}
use Rattle.booth_node.specs.Led.{Led}
use Rattle.booth_node.specs.Reaction.{IsDone, acts, each_over}
use Rattle.booth_node.specs.State.{state_of_parts}
use Rattle.booth_node.specs.View.{state_with}
use Rattle.booth_node.proofs.DueLemmas.{last_again, same_length, timed_again}
use Rattle.booth_node.proofs.LedLemmas.{last_place, led_as, led_end, led_one_more}
use Rattle.booth_node.proofs.jobs.end_each.Goals as goal

pub loop-place-init : goal.loop-place-init
loop-place-init g c = record {
  led = led_end;
  node = refl;
  timed = c.requires.timed;
  last = refl;
  tickets = refl;
}

pub loop-place-preserved : goal.loop-place-preserved
loop-place-preserved g c =
    let place : ℕ = c.loop-place.place in
    record {
      led = led_as (ap (λ (places : List ℕ). each_over c.args.table.now.node c.args.now c.args.job c.args.service places
          (state_of_parts c.args.table.now.tickets.items c.args.table.now.waiters c.args.table.now.attrs
          c.args.table.now.common c.args.now)) (sym (last_place place))) refl
          (led_one_more (λ place state. acts c.args.table.now.node c.args.now state place (Over c.args.job c.args.service))
          (range_with_len 0 place) place
          (state_of_parts c.args.table.now.tickets.items c.args.table.now.waiters c.args.table.now.attrs c.args.table.now.common c.args.now)
          c.loop-place.invariant.led
          (subst (λ (n : NodeConfig). Led g.H.Host.past g.H.Host.faults (IsDone n.ring) (acts n c.args.now
          (state_of_parts c.loop-place.table.tickets.items c.loop-place.table.waiters c.loop-place.table.attrs
          c.loop-place.table.common c.args.now) place (Over c.args.job c.args.service)) (state_with c.end_job.new.self c.args.now)
          c.loop-place.host c.end_job.new.host)
          c.loop-place.invariant.node c.end_job.ensures.led));
      node = c.end_job.ensures.node ∙ c.loop-place.invariant.node;
      timed = timed_again _ _ _ _ (Some place) c.end_job.ensures.others c.look_again.ensures c.loop-place.invariant.timed;
      last = last_again c.loop-place.table.tickets.items _ _ _ (Some place) c.look_again.ensures
          ∙ c.loop-place.invariant.last;
      tickets = same_length _ _ _ c.end_job.ensures.others ∙ c.loop-place.invariant.tickets;
    }
