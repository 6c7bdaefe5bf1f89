use Rattle.std.proofs.Common.{Bool, refl}
use Rattle.booth_host.specs.declared.entry.Entry.TheVariants as calls
use Rattle.booth_node.specs.Reaction.{Answered}
use Rattle.booth_node.proofs.LedLemmas.{led_last}
use Rattle.booth_node.proofs.hands.NodeHandsHands.keep.Goals as goal

pub returns : goal.returns
returns g c =
    let left = λ (ok : Bool). let answered : Answered = record { ok = ok; common = c.args.self.now.common.now } in answered in
    record {
      did = (
        refl,
        refl,
        refl,
        (refl, refl, refl),
        led_last c.is_ok.result (calls.Keep c.args.self.now.name.now c.args.rec.now c.keep-answer.result) left
            c.keep-answer.ensures.past c.keep-answer.ensures.cause.later (refl, refl, c.is_ok.ensures.value),
      );
    }
