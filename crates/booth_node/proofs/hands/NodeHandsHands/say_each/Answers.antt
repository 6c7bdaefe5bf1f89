use Rattle.std.proofs.Common.{arith}
use Rattle.booth_ticket.proofs.DidLemmas.{said_more}
use Rattle.booth_node.proofs.EachLemmas.{all_said, still_fits, still_written}
use Rattle.booth_node.proofs.hands.NodeHandsHands.say_each.Goals as goal

pub loop-place-preserved : goal.loop-place-preserved
loop-place-preserved g c = record {
  chain = said_more _ _ _ _ _ c.loop-place.place-index _ c.args.head.now c.args.part.now
      c.loop-place-test.true
      c.loop-place.invariant.chain (
        c.say_written.ensures.host,
        c.say_written.ensures.counts,
        c.say_written.ensures.buffer,
        c.say_written.ensures.same,
        c.say_written.ensures.led,
      );
  written = still_written _ _ _ _ c.args.head.now c.args.part.now _ _ c.say_written.ensures.frame
      c.say_written.ensures.same.0 c.say_written.ensures.same.1 c.loop-place.invariant.written;
  fits = still_fits _ _ _ _ c.args.head.now c.args.part.now c.say_written.ensures.same.0
      c.say_written.ensures.same.1 c.loop-place.invariant.fits;
}

pub returns : goal.returns
returns g c = record {
  did = all_said _ c.args.places.now _ c.loop-place.place-index _ c.args.head.now c.args.part.now _
      c.say_anew.new.self _ c.in-len1-up.len_at_least (omega arith)
      (c.say_anew.ensures.host, c.say_anew.ensures.counts, c.say_anew.ensures.buffer, c.say_anew.ensures.same, c.say_anew.ensures.led)
      c.loop-place.invariant.chain c.loop-place-test.false;
}
