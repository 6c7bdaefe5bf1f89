use Rattle.std.specs.Prelude.{Some, None}
use Rattle.std.proofs.Common.{List, ap, sym, ◌∙◌, subst}
use Rattle.booth_stream.specs.declared.link_call.LinkCall.{LinkCall}
use Rattle.booth_stream.specs.Calls.{CallsGrewBy}
use Rattle.booth_stream.specs.Places.{After}
use Rattle.booth_stream.specs.Slots.{links_in}
use Rattle.booth_stream.proofs.CallLemmas.{no_call}
use Rattle.booth_stream.proofs.SlotsLemmas.{opened_as, begun_at}
use Rattle.booth_stream.proofs.slots.open.Goals as goal

pub returns-in-Some-clause-places : goal.returns-in-Some-clause-places
returns-in-Some-clause-places g c =
    let as_placed = opened_as c.args.caller.number c.args.caller.peer (links_in c.args.slots.now) c.leave.new.slots (Some c.in-Some.place)
    c.leave.ensures.places c.in-Some.ensures in
    begun_at c.leave.new.slots c.in-Some.place c.begin.new.self c.args.caller.number c.args.caller.peer c.begin.ensures.link
    ∙ sym (ap (λ (a : After). a.places) as_placed)

pub returns-in-Some-clause-calls : goal.returns-in-Some-clause-calls
returns-in-Some-clause-calls g c =
    let as_placed = opened_as c.args.caller.number c.args.caller.peer (links_in c.args.slots.now) c.leave.new.slots (Some c.in-Some.place)
    c.leave.ensures.places c.in-Some.ensures in
    subst (λ (l : List LinkCall). CallsGrewBy (g.L.Links.past c.args.links.now) (g.L.Links.past c.args.links.now) l)
    (sym (ap (λ (a : After). a.calls) as_placed)) no_call

pub returns-in-None-clause-places : goal.returns-in-None-clause-places
returns-in-None-clause-places g c =
    sym (ap (λ (a : After). a.places) (opened_as c.args.caller.number c.args.caller.peer (links_in c.args.slots.now) c.leave.new.slots None
    c.leave.ensures.places c.in-None.ensures))

pub returns-in-None-clause-calls : goal.returns-in-None-clause-calls
returns-in-None-clause-calls g c =
    let as_placed = opened_as c.args.caller.number c.args.caller.peer (links_in c.args.slots.now) c.leave.new.slots None
    c.leave.ensures.places c.in-None.ensures in
    subst (λ (l : List LinkCall). CallsGrewBy (g.L.Links.past c.args.links.now) (g.L.Links.past c.close.new.self) l)
    (sym (ap (λ (a : After). a.calls) as_placed)) c.close.ensures.past
