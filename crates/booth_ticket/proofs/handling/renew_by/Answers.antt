use Rattle.std.proofs.Common.{ℕ, ◌/◌, Bool, sym, ap, ◌∙◌, subst}
use Rattle.std.specs.Prelude.{Option, None, if◌then◌else◌}
use Rattle.booth_wire.specs.declared.message.Setup.{Setup}
use Rattle.booth_raft.specs.declared.view.View.{View}
use Rattle.booth_raft.specs.GainReleaseLost.{own_end}
use Rattle.booth_raft.specs.Speech.{IsSpeech}
use Rattle.booth_raft.specs.State.{Step, step}
use Rattle.booth_raft.proofs.SpeechLemmas.{rules_speak}
use Rattle.booth_ticket.specs.Acts.{started}
use Rattle.booth_ticket.specs.Handling.{checks, renews_by}
use Rattle.booth_ticket.proofs.DidLemmas.{did_as, did_end, did_last}
use Rattle.booth_ticket.proofs.handling.renew_by.Goals as goal

pub returns-in_default-clause-did : goal.returns-in_default-clause-did
returns-in_default-clause-did g c =
    let core = c.args.core.now in
    did_as
    (ap (λ (job : Option ℕ). renews_by core job c.args.now)
    (sym (ap (λ (s : Setup). if s.site then c.args.job else None) (sym c.setup.ensures.value)
    ∙ sym c.job_at.ensures ∙ c.in_default.is)))
    (sym c.renew.ensures.step)
    did_end

pub returns-in_default-clause-speech : goal.returns-in_default-clause-speech
returns-in_default-clause-speech g c =
    subst (λ (s : Step). IsSpeech s.core.setup s.deed.say) (sym c.renew.ensures.step)
    (rules_speak.renewed c.args.core.now.setup c.args.core.now.view c.args.now)

pub returns-clause-did : goal.returns-clause-did
returns-clause-did g c =
    let core = c.args.core.now in
    did_as
    (ap (λ (job : Option ℕ). renews_by core job c.args.now)
    (sym (ap (λ (s : Setup). if s.site then c.args.job else None) (sym c.setup.ensures.value)
    ∙ sym c.job_at.ensures ∙ c.in-Some.is)))
    (sym c.check.ensures.step)
    (did_last c.start-ok.result (λ (ok : Bool). step core (checks core.setup core.view c.in-Some.job c.args.now ok))
    (subst (λ (n : ℕ). g.W.Hands.did c.args.hands.now (started c.in-Some.job n c.start-ok.result) c.start-ok.new.self)
    (ap (λ (n : ℕ). n / 1000) (c.own_end.ensures ∙ ap (λ (v : View). own_end v) c.view.ensures.value))
    c.start-ok.ensures.did))
