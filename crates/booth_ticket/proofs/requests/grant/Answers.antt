use Rattle.std.proofs.Common.{sym, ◌∙◌}
use Rattle.booth_ticket.proofs.RoomLemmas.{room_refused, room_unrefused}
use Rattle.booth_ticket.proofs.requests.grant.Goals as goal

pub returns-in-Some-clause-room : goal.returns-in-Some-clause-room
returns-in-Some-clause-room g c =
    room_refused c.args.spare c.setup.result.now c.view.result.now c.args.given.ready c.args.options c.args.given.now
    c.in-Some.answer (sym c.refused_grant.ensures ∙ c.in-Some.is)

pub returns-in-None-clause-room : goal.returns-in-None-clause-room
returns-in-None-clause-room g c =
    room_unrefused c.args.spare c.setup.result.now c.view.result.now c.args.given.ready c.args.options c.args.given.now
    _ (sym c.refused_grant.ensures ∙ c.in-None.is)
