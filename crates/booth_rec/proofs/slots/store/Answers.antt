-- Each step leaves the record before, and the last one leaves it or the new one.
use Rattle.std.proofs.Common.{arith, ◌+◌, ◌∙◌, inl, [], ◌∷◌, OnOk, Result, Ok, Err}
use Rattle.booth_rec.specs.Disk.{SameOutside, IsWritten, Only}
use Rattle.booth_rec.specs.Holding.{place_of, record_of}
use Rattle.booth_rec.specs.Slots.{IsOldOrNew, IsSettled, Closing, after}
use Rattle.booth_rec.proofs.Moments.{weaker, then_run}
use Rattle.booth_rec.proofs.StepLemmas.{ready_at_first, closing, closed, filling, filled, committing, committed, put_others, known_after}
use Rattle.booth_rec.proofs.slots.store.Goals as goal

on_ok_both : {T E : Type 0} (r : Result T E) (A B C : Type 0) → (A → B → C) → OnOk r A → OnOk r B → OnOk r C
on_ok_both (Ok x) A B C both a b = both a b
on_ok_both (Err e) A B C both a b = a

pub returns-in_err-close-clause-any_moment : goal.returns-in_err-close-clause-any_moment
returns-in_err-close-clause-any_moment g c told =
    let h = c.spare-half.result in
    let holding = c.args.holding.now in
    let before = record_of holding.standing in
    let seen = g.D.Disk.seen c.args.disk.now in
    let gate = c.is_open.result in
    let ready = ready_at_first h gate c.args.number holding seen c.spare-half.ensures c.is_open.ensures (c.requires.settled told).known c.requires.next in
    weaker g.D.Disk.moment g.D.Disk.left_since c.args.disk.now c.close.new.disk (Closing h gate seen) (IsOldOrNew before c.args.rec.now)
    (λ f torn. inl (closing h c.args.number before gate seen f ready torn)) (c.close.ensures.any_moment told)

pub returns-in_err-fill-clause-any_moment : goal.returns-in_err-fill-clause-any_moment
returns-in_err-fill-clause-any_moment g c told =
    let h = c.spare-half.result in
    let holding = c.args.holding.now in
    let before = record_of holding.standing in
    let seen = g.D.Disk.seen c.args.disk.now in
    let shut = g.D.Disk.seen c.close.new.disk in
    let P = IsOldOrNew before c.args.rec.now in
    let gate = c.is_open.result in
    let ready = ready_at_first h gate c.args.number holding seen c.spare-half.ensures c.is_open.ensures (c.requires.settled told).known c.requires.next in
    let first = weaker g.D.Disk.moment g.D.Disk.left_since c.args.disk.now c.close.new.disk (Closing h gate seen) P
    (λ f torn. inl (closing h c.args.number before gate seen f ready torn)) (c.close.ensures.any_moment told) in
    let closed_now = closed h c.args.number before gate seen shut ready (c.in_ok-close.ensures.closed told) in
    let still = c.close.ensures.tells ∙ told in
    let second = weaker g.D.Disk.moment g.D.Disk.left_since c.close.new.disk c.fill.new.disk (SameOutside (place_of h + 8) 72 shut) P
    (λ f torn. inl (filling h c.args.number before shut f closed_now torn)) (c.fill.ensures.any_moment still) in
    then_run g.D.Disk.moment g.D.Disk.left_since c.args.disk.now c.close.new.disk c.fill.new.disk P first second

pub returns-clause-stored : goal.returns-clause-stored
returns-clause-stored g c told =
    let h = c.spare-half.result in
    let holding = c.args.holding.now in
    let before = record_of holding.standing in
    let seen = g.D.Disk.seen c.args.disk.now in
    let shut = g.D.Disk.seen c.close.new.disk in
    let full = g.D.Disk.seen c.fill.new.disk in
    let last = g.D.Disk.seen c.commit.new.disk in
    let gate = c.is_open.result in
    let ready = ready_at_first h gate c.args.number holding seen c.spare-half.ensures c.is_open.ensures (c.requires.settled told).known c.requires.next in
    let closed_now = closed h c.args.number before gate seen shut ready (c.in_ok-close.ensures.closed told) in
    let still = c.close.ensures.tells ∙ told in
    let filled_now = filled h c.args.number before c.args.rec.now c.requires.second c.fill.ensures.fits shut full (omega (arith, c.ranges.number)) closed_now (c.in_ok-fill.ensures.filled still) in
    let later = c.fill.ensures.tells ∙ still in
    on_ok_both c.commit.result (IsWritten (place_of h) (1 ∷ []) full last) (Only last (g.D.Disk.may_leave c.commit.new.disk))
    (IsSettled last (g.D.Disk.may_leave c.commit.new.disk) (after holding c.args.number c.args.rec.now))
    (λ written only. record {
      known = known_after h gate c.args.number holding c.args.rec.now c.requires.second c.fill.ensures.fits seen last c.spare-half.ensures (c.requires.settled told).known ready
          (put_others h gate c.args.number c.args.rec.now seen shut full last c.requires.second (c.in_ok-close.ensures.closed told) (c.in_ok-fill.ensures.filled still) written)
          (committed h c.args.number before c.args.rec.now c.requires.second c.fill.ensures.fits full last filled_now written);
      durable = only;
    })
    (c.commit.ensures.opened later) (c.commit.ensures.durable later)

pub returns-clause-any_moment : goal.returns-clause-any_moment
returns-clause-any_moment g c told =
    let h = c.spare-half.result in
    let holding = c.args.holding.now in
    let before = record_of holding.standing in
    let seen = g.D.Disk.seen c.args.disk.now in
    let shut = g.D.Disk.seen c.close.new.disk in
    let full = g.D.Disk.seen c.fill.new.disk in
    let P = IsOldOrNew before c.args.rec.now in
    let gate = c.is_open.result in
    let ready = ready_at_first h gate c.args.number holding seen c.spare-half.ensures c.is_open.ensures (c.requires.settled told).known c.requires.next in
    let first = weaker g.D.Disk.moment g.D.Disk.left_since c.args.disk.now c.close.new.disk (Closing h gate seen) P
    (λ f torn. inl (closing h c.args.number before gate seen f ready torn)) (c.close.ensures.any_moment told) in
    let closed_now = closed h c.args.number before gate seen shut ready (c.in_ok-close.ensures.closed told) in
    let still = c.close.ensures.tells ∙ told in
    let second = weaker g.D.Disk.moment g.D.Disk.left_since c.close.new.disk c.fill.new.disk (SameOutside (place_of h + 8) 72 shut) P
    (λ f torn. inl (filling h c.args.number before shut f closed_now torn)) (c.fill.ensures.any_moment still) in
    let filled_now = filled h c.args.number before c.args.rec.now c.requires.second c.fill.ensures.fits shut full (omega (arith, c.ranges.number)) closed_now (c.in_ok-fill.ensures.filled still) in
    let later = c.fill.ensures.tells ∙ still in
    let third = weaker g.D.Disk.moment g.D.Disk.left_since c.fill.new.disk c.commit.new.disk (SameOutside (place_of h) 1 full) P
    (λ f torn. committing h c.args.number before c.args.rec.now c.requires.second c.fill.ensures.fits full f filled_now torn) (c.commit.ensures.any_moment later) in
    then_run g.D.Disk.moment g.D.Disk.left_since c.args.disk.now c.fill.new.disk c.commit.new.disk P
    (then_run g.D.Disk.moment g.D.Disk.left_since c.args.disk.now c.close.new.disk c.fill.new.disk P first second) third
