use Rattle.std.proofs.Common.{refl, ap, sym, ◌∙◌, subst}
use Rattle.std.specs.Prelude.{Some}
use Rattle.booth_manual.specs.State.{State}
use Rattle.booth_ticket.specs.Acts.{Did}
use Rattle.booth_ticket.specs.Manual.{ManualState, heard_of, manual_heard, ticket_as}
use Rattle.booth_ticket.proofs.DidLemmas.{did_as, did_end, did_then}
use Rattle.booth_ticket.proofs.SayLemmas.{said_so}
use Rattle.booth_ticket.proofs.manual.ManualTicket.hear.Goals as goal

pub returns : goal.returns
unfolding manual_heard
returns g c =
    let rules = c.self.inside.rules in
    let ticket = ticket_as rules c.self.inside.greets_at c.self.inside.running in
    let after = c.hear-words.new.self in
    record {
      did = subst (λ (t : ManualState). Did g.W.Hands.did (manual_heard t c.args.from c.args.head.now c.args.part.now)
          (ticket_as after c.self.inside.greets_at c.self.inside.running) c.args.hands.now c.say.new.hands) c.self.view_is
          (did_as refl
          (ap (λ (r : State). ticket_as r c.self.inside.greets_at c.self.inside.running) (sym c.hear-words.ensures.view))
          (did_then _
          (said_so rules.setup c.setup.result.now (Some c.args.from) (heard_of ticket c.args.head.now c.args.part.now).say
          c.hear-words.result (c.setup.ensures ∙ ap (λ (s : State). s.setup) c.hear-words.ensures.view) c.hear-words.ensures.say
          c.say.ensures.did)
          did_end));
    }
