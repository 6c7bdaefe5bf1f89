-- A crash within the write or the sync leaves what was there, but for the bytes that are written.
use Rattle.std.proofs.Common.{◌∙◌, List, ℕ, length, subst}
use Rattle.booth_rec.specs.Disk.{SameOutside}
use Rattle.booth_rec.proofs.Moments.{started, goes_on, same_outside}
use Rattle.booth_rec.proofs.slots.write_through.Goals as goal

pub returns-clause-any_moment : goal.returns-clause-any_moment
returns-clause-any_moment g c told =
    let was = c.requires told in
    let P : List ℕ → Type 0 = λ f. SameOutside c.args.at (length c.args.bytes.now) (g.D.Disk.seen c.args.disk.now) f in
    let torn : (f : List ℕ) → g.D.Disk.may_leave c.write_at.new.self f → P f = λ f now.
    let from = c.write_at.ensures.crash told f now in
    subst (λ (d : List ℕ). SameOutside c.args.at (length c.args.bytes.now) d f) (was from.0 from.1) from.2 in
    let at_start = started g.D.Disk.moment g.D.Disk.left_since c.args.disk.now P
    (λ f left. same_outside c.args.at (length c.args.bytes.now) _ f (was f (g.met.D.Disk.only_now c.args.disk.now f left))) in
    let written = goes_on g.D.Disk.moment g.D.Disk.left_since c.args.disk.now c.args.disk.now c.write_at.new.self P _ at_start (c.write_at.ensures.time told) torn in
    let still = c.write_at.ensures.tells ∙ told in
    goes_on g.D.Disk.moment g.D.Disk.left_since c.args.disk.now c.write_at.new.self c.sync.new.self P _ written (c.sync.ensures.time still)
    (λ f now. torn f (c.sync.ensures.crash still f now))
