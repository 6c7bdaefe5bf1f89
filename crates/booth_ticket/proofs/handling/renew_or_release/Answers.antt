use Rattle.std.proofs.Common.{sym, subst}
use Rattle.booth_raft.specs.Speech.{IsSpeech}
use Rattle.booth_raft.specs.State.{Step}
use Rattle.booth_raft.proofs.SpeechLemmas.{rules_speak}
use Rattle.booth_ticket.proofs.handling.renew_or_release.Goals as goal

pub returns-in-CanRun-clause-speech : goal.returns-in-CanRun-clause-speech
returns-in-CanRun-clause-speech c =
    subst (λ (s : Step). IsSpeech s.core.setup s.deed.say) (sym c.renew.ensures.step)
    (rules_speak.renewed c.args.core.now.setup c.args.core.now.view c.args.now)
