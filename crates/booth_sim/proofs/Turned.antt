-- The calls that a host told of a turn.
use Rattle.std.proofs.Common.{◌≡◌, List, ◌∷◌, ap, ◌∙◌, All}
use Rattle.std.specs.Prelude.{Ok}
use Rattle.booth_host.specs.declared.entry.Entry.{Entry}
use Rattle.booth_host.specs.declared.entry.Entry.TheVariants as calls
use Rattle.booth_sim.specs.declared.daemon.Coming.{Coming}
use Rattle.booth_sim.specs.Simulation.{IsAnswered}
use Rattle.booth_sim.specs.Standing.{Brought, MetIn}
use Rattle.booth_sim.proofs.Answered.{all_answered}

-- the calls of a turn that met this, one after the other
pub met_in : {coming : Coming} {told rest deeds : List Entry} {next now : Entry} → told ≡ next ∷ rest → rest ≡ now ∷ deeds → Brought coming next
    → now ≡ calls.Now coming.reading → All (IsAnswered coming.keeps_fail) deeds → MetIn coming told deeds
met_in {coming} {told} {rest} {deeds} {next} {now} first second brought reads answered = record {
  wait = brought.wait;
  whole = first ∙ ap (λ (es : List Entry). next ∷ es) second ∙ ap (λ (e : Entry). e ∷ now ∷ deeds) brought.is
      ∙ ap (λ (e : Entry). calls.Next brought.wait (Ok coming.arrival) coming.bytes.now ∷ e ∷ deeds) reads;
  answered = all_answered coming.keeps_fail deeds answered;
}
