use Rattle.std.specs.Prelude.{Result}
use Rattle.std.proofs.Common.{sym, ap, ◌∙◌}
use Rattle.booth_host.specs.declared.host.Failed.{Failed}
use Rattle.booth_stream.specs.Steps.{both}
use Rattle.booth_stream.proofs.stream_host.StreamHostHost.open.Goals.{in-Ok, in-Err}
use Rattle.booth_stream.proofs.stream_host.StreamHostHost.open.Goals as goal

pub returns-clause-opens : goal.returns-clause-opens
returns-clause-opens g c = record {
  first = c.open-first.result;
  second = c.open-second.result;
  inside = c.open-first.ensures.past;
  called = c.open-second.ensures.past;
  answers = elim c.match-first.branch [
    | in-Ok w ↦ w.answer-is ∙ ap (λ (r : Result (Unit {0}) Failed). both r c.open-second.result) (sym w.in-Ok.is)
    | in-Err w ↦ w.answer-is ∙ ap (λ (r : Result (Unit {0}) Failed). both r c.open-second.result) (sym w.in-Err.is)
  ];
}
