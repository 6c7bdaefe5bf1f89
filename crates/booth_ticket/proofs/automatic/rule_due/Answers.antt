use Rattle.std.proofs.Common.{sym, subst}
use Rattle.booth_raft.specs.State.{Step}
use Rattle.booth_raft.specs.Speech.{IsSpeech}
use Rattle.booth_raft.proofs.SpeechLemmas.{rules_speak}
use Rattle.booth_ticket.specs.Acts.{Did}
use Rattle.booth_ticket.specs.Automatic.{MayFollow, follow}
use Rattle.booth_ticket.proofs.FollowLemmas.{may_follow}
use Rattle.booth_ticket.proofs.automatic.rule_due.Goals as goal

pub returns-clause-did : goal.returns-clause-did
returns-clause-did g c =
    let last : Step = record { core = c.follow.new.core; deed = c.follow.result } in
    subst (λ (s : Step). Did g.W.Hands.did (follow s s.deed.want c.args.given) last c.args.hands.now c.follow.new.hands)
    c.tick-deed.ensures.step c.follow.ensures.did

pub follow-requires-clause-wants : goal.follow-requires-clause-wants
follow-requires-clause-wants g c =
    subst (λ (s : Step). MayFollow s.core.setup s.core.view s.deed.want) (sym c.tick-deed.ensures.step)
    (may_follow c.args.core.now.setup c.args.core.now.view c.args.given.now c.requires.idle)

pub follow-requires-clause-speech : goal.follow-requires-clause-speech
follow-requires-clause-speech g c =
    subst (λ (s : Step). IsSpeech s.core.setup s.deed.say) (sym c.tick-deed.ensures.step)
    (rules_speak.due c.args.core.now.setup c.args.core.now.view c.args.given.now)
