use Rattle.std.proofs.Common.{inl, sym, ◌∙◌}
use Rattle.booth_ticket.proofs.RoomLemmas.{room_by_hand}
use Rattle.booth_ticket.proofs.manual_requests.do_for.Goals as goal

pub returns-in-Some-clause-room : goal.returns-in-Some-clause-room
returns-in-Some-clause-room g c =
    room_by_hand c.args.spare c.setup.result.now c.view.result.now c.is_some.result c.args.given.ready c.args.request.now
    c.in-Some.answer (inl (sym c.refused.ensures.answer ∙ c.in-Some.is))
