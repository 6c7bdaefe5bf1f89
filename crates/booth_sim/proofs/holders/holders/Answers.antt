-- One more daemon counts where its member holds the ticket.
use Rattle.std.proofs.Common.{true, false, arith, refl}
use Rattle.booth_sim.specs.Counts.{is_holder}
use Rattle.booth_sim.proofs.Daemons.{holder_more, stands, there}
use Rattle.booth_sim.proofs.holders.holders.Goals as goal
use Rattle.booth_sim.proofs.holders.holders.Goals.{then-is_holder, else-is_holder}

pub loop-place-preserved : goal.loop-place-preserved
loop-place-preserved c =
    elim c.if-is_holder.branch [
      | then-is_holder w ↦ (
        let more = w.holders-is in omega (arith, more, c.loop-place.invariant.0),
        λ before conf is are now.
            holder_more (is_holder c.args.config.now before conf) c.loop-place.place c.loop-place.holders c.if-is_holder.holders true
            (c.loop-place.invariant.1 before conf is are now)
            (let own = c.is_holder.ensures before conf is
            (stands c.args.config.now before c.args.daemons.now c.loop-place.place c.index-daemons-place.result are
            (there _ c.args.daemons.now c.loop-place.place _ refl (omega arith) c.index-daemons-place.is)) now in cc) w.holders-is,
      )
      | else-is_holder w ↦ (
        let same = w.holders-is in omega (arith, same, c.loop-place.invariant.0),
        λ before conf is are now.
            holder_more (is_holder c.args.config.now before conf) c.loop-place.place c.loop-place.holders c.if-is_holder.holders false
            (c.loop-place.invariant.1 before conf is are now)
            (let own = c.is_holder.ensures before conf is
            (stands c.args.config.now before c.args.daemons.now c.loop-place.place c.index-daemons-place.result are
            (there _ c.args.daemons.now c.loop-place.place _ refl (omega arith) c.index-daemons-place.is)) now in cc)
            (let same = w.holders-is in omega (arith, same)),
      )
    ]
