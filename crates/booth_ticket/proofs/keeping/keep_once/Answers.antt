use Rattle.std.proofs.Common.{sym, subst}
use Rattle.booth_raft.specs.State.{Step}
use Rattle.booth_raft.specs.Speech.{IsSpeech}
use Rattle.booth_raft.proofs.SpeechLemmas.{rules_speak}
use Rattle.booth_ticket.specs.Keeping.{keep_once}
use Rattle.booth_ticket.proofs.DidLemmas.{did_end, did_last}
use Rattle.booth_ticket.proofs.GainLemmas.{IsGainAtMost, gains_at_most}
use Rattle.booth_ticket.proofs.keeping.keep_once.Goals as goal

pub returns-in_default-clause-did : goal.returns-in_default-clause-did
unfolding keep_once
returns-in_default-clause-did g c = rw c.in_default.is did_end

pub returns-clause-did : goal.returns-clause-did
unfolding keep_once
returns-clause-did g c = rw (c.in-Some.is, c.kept.ensures.step) (did_last _ _ c.keep-ok.ensures.did)

pub returns-clause-gains : goal.returns-clause-gains
returns-clause-gains g c =
    subst (λ (s : Step). IsGainAtMost s.core.view.waiting) (sym c.kept.ensures.step)
    (gains_at_most c.args.core.now.setup c.args.core.now.view c.args.now c.keep-ok.result)

pub returns-clause-speech : goal.returns-clause-speech
returns-clause-speech g c =
    subst (λ (s : Step). IsSpeech s.core.setup s.deed.say) (sym c.kept.ensures.step)
    (rules_speak.answered c.args.core.now.setup c.args.core.now.view c.args.now c.keep-ok.result)
