use Rattle.std.proofs.Common.{Bool, refl, sym, ap}
use Rattle.booth_node.specs.declared.state.Common.{Common}
use Rattle.booth_node.specs.Jobs.{start_call, count_start}
use Rattle.booth_node.specs.Reaction.{Answered}
use Rattle.booth_node.proofs.LedLemmas.{led_as, led_last}
use Rattle.booth_node.proofs.hands.NodeHandsHands.start.Goals as goal

pub returns : goal.returns
returns g c =
    let self = c.args.self.now in
    let left = λ (common : Common) (ok : Bool). let answered : Answered = record { ok = ok; common = common } in answered in
    record {
      did = (
        refl,
        refl,
        refl,
        (refl, refl, refl),
        led_as refl (ap (λ (common : Common). left common c.is_ok.result) (sym c.count_start.ensures))
            (led_last c.is_ok.result (start_call c.job_of-job.result c.start-answer.result) (left (count_start self.common.now))
            c.start-answer.ensures.past c.start-answer.ensures.cause.later (c.job_of-job.ensures, c.is_ok.ensures.value)),
      );
    }
