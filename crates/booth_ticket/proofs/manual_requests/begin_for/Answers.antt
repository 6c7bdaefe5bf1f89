use Rattle.std.proofs.Common.{ℕ, refl, sym, ap, ◌∙◌}
use Rattle.std.specs.Prelude.{Option, None, if◌then◌else◌}
use Rattle.booth_manual.specs.declared.view.ManualView.{ManualView}
use Rattle.booth_ticket.specs.ManualRequests.{begin_for, wants_handler}
use Rattle.booth_ticket.proofs.DidLemmas.{did_as, did_end, did_then}
use Rattle.booth_ticket.proofs.manual_requests.begin_for.Goals as goal

pub returns-in-Some-clause-did : goal.returns-in-Some-clause-did
returns-in-Some-clause-did g c =
    did_as
    (ap (λ (job : Option ℕ). begin_for c.args.rules.now c.args.running.now job c.args.wish c.args.now)
    (sym (ap (λ (v : ManualView). if wants_handler v c.args.wish then c.args.job else None) (sym c.view.ensures.value)
    ∙ sym c.job_for.ensures ∙ c.in-Some.is)))
    refl c.start_for.ensures.did

pub returns-in-None-clause-did : goal.returns-in-None-clause-did
returns-in-None-clause-did g c =
    did_as
    (ap (λ (job : Option ℕ). begin_for c.args.rules.now c.args.running.now job c.args.wish c.args.now)
    (sym (ap (λ (v : ManualView). if wants_handler v c.args.wish then c.args.job else None) (sym c.view.ensures.value)
    ∙ sym c.job_for.ensures ∙ c.in-None.is)))
    refl (did_then _ c.keep_for.ensures.did did_end)
