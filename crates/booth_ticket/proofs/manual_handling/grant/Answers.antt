use Rattle.std.proofs.Common.{Bool, sym, ap, subst}
use Rattle.std.specs.Prelude.{if◌then◌else◌}
use Rattle.booth_rec.specs.declared.record.Record.{Record}
use Rattle.booth_raft.specs.declared.deed.Told.TheVariants as tells
use Rattle.booth_manual.specs.GrantAndRevoke.{grant}
use Rattle.booth_manual.specs.declared.view.ManualView.{ManualView}
use Rattle.booth_manual.specs.State.{State}
use Rattle.booth_ticket.specs.declared.request.Wish.TheVariants.{Grant}
use Rattle.booth_base.specs.Tree.{Ends}
use Rattle.booth_ticket.specs.Acts.{Did}
use Rattle.booth_ticket.specs.ManualHandling.{Granted, grant_now}
use Rattle.booth_ticket.specs.ManualRequests.{Tried, keep_tried}
use Rattle.booth_ticket.proofs.DidLemmas.{did_as, did_end, did_then}
use Rattle.booth_ticket.proofs.ManualLemmas.{not_spent}
use Rattle.booth_ticket.proofs.manual_handling.grant.Goals as goal

pub returns-in-Ok-clause-did : goal.returns-in-Ok-clause-did
unfolding grant_now
returns-in-Ok-clause-did g c =
    let rules = c.args.rules.now in
    let left : Tried = record { answer = c.keep_tried.result; rules = c.keep_tried.new.rules } in
    did_as
    (ap (λ (spent : Bool). if spent then Ends (record { told = tells.AskFailed; rules = rules }) else grant_now rules)
    (sym (not_spent rules.view c.in-Ok.ensures.spent.1)))
    (ap (λ (v : ManualView). let granted : Granted = record { told = tells.Gained v.sure; rules = c.keep_tried.new.rules } in granted)
    (sym c.view.ensures.value))
    (did_then _
    (subst (λ (r : State). Did g.W.Hands.did (keep_tried r Grant (grant rules.setup rules.view).tried) left
    c.args.hands.now c.keep_tried.new.hands) c.in-Ok.ensures.view
    (subst (λ (t : Record). Did g.W.Hands.did (keep_tried c.grant.new.self Grant t) left
    c.args.hands.now c.keep_tried.new.hands) c.in-Ok.ensures.tried c.keep_tried.ensures.did))
    did_end)
