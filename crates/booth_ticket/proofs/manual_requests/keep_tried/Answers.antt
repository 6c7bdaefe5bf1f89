use Rattle.std.proofs.Common.{Bool, refl, ap, sym, ◌∙◌}
use Rattle.std.specs.Prelude.{None}
use Rattle.booth_manual.specs.GrantAndRevoke.{finish}
use Rattle.booth_manual.specs.State.{State}
use Rattle.booth_ticket.specs.ManualRequests.{keep_tried}
use Rattle.booth_ticket.proofs.DidLemmas.{did_as, did_end, did_last, did_then}
use Rattle.booth_ticket.proofs.SayLemmas.{said_so}
use Rattle.booth_ticket.proofs.manual_requests.keep_tried.Goals as goal

pub returns-clause-did : goal.returns-clause-did
unfolding keep_tried
returns-clause-did g c =
    let rules = c.args.rules.now in
    did_as refl
    (λ i. record { answer = sym c.result_of_keep.ensures i; rules = sym c.kept-words.ensures.view i })
    (did_then _ (did_last c.keep-ok.result (λ (ok : Bool). ok) c.keep-ok.ensures.did)
    (did_then _
    (said_so rules.setup c.setup.result.now None (finish rules.setup rules.view c.keep-ok.result).say c.kept-words.result
    (c.setup.ensures ∙ ap (λ (s : State). s.setup) c.kept-words.ensures.view) c.kept-words.ensures.say c.say.ensures.did)
    did_end))
