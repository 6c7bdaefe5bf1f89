-- Closing the spare slot leaves the same record, at each moment.
use Rattle.std.proofs.Common.{◌∙◌, OnOk, Result, Ok, Err}
use Rattle.booth_rec.specs.Disk.{Only}
use Rattle.booth_rec.specs.Holding.{record_of}
use Rattle.booth_rec.specs.Slots.{StandsFor, IsSettled, Closes, Closing, closed_after}
use Rattle.booth_rec.proofs.Moments.{weaker}
use Rattle.booth_rec.proofs.StepLemmas.{ready_at_first, closing, known_closed}
use Rattle.booth_rec.proofs.slots.close_spare.Goals as goal

on_ok_both : {T E : Type 0} (r : Result T E) (A B C : Type 0) → (A → B → C) → OnOk r A → OnOk r B → OnOk r C
on_ok_both (Ok x) A B C both a b = both a b
on_ok_both (Err e) A B C both a b = a

pub returns-clause-closed : goal.returns-clause-closed
returns-clause-closed g c told =
    let h = c.spare-half.result in
    let holding = c.args.holding.now in
    let seen = g.D.Disk.seen c.args.disk.now in
    let shut = g.D.Disk.seen c.close.new.disk in
    let gate = c.is_open.result in
    let known = (c.requires.settled told).known in
    let ready = ready_at_first h gate c.args.number holding seen c.spare-half.ensures c.is_open.ensures known c.requires.next in
    on_ok_both c.close.result (Closes h gate seen shut) (Only shut (g.D.Disk.may_leave c.close.new.disk))
    (IsSettled shut (g.D.Disk.may_leave c.close.new.disk) (closed_after holding))
    (λ closes only. record {
      known = known_closed h gate c.args.number holding seen shut c.spare-half.ensures known ready closes;
      durable = only;
    })
    (c.close.ensures.closed told) (c.close.ensures.durable told)

pub returns-clause-any_moment : goal.returns-clause-any_moment
returns-clause-any_moment g c told =
    let h = c.spare-half.result in
    let holding = c.args.holding.now in
    let before = record_of holding.standing in
    let seen = g.D.Disk.seen c.args.disk.now in
    let gate = c.is_open.result in
    let ready = ready_at_first h gate c.args.number holding seen c.spare-half.ensures c.is_open.ensures (c.requires.settled told).known c.requires.next in
    weaker g.D.Disk.moment g.D.Disk.left_since c.args.disk.now c.close.new.disk (Closing h gate seen) (StandsFor before)
    (λ f torn. closing h c.args.number before gate seen f ready torn) (c.close.ensures.any_moment told)
