use Rattle.std.proofs.Common.{◌≡◌, ◌≤◌, ◌<◌, ◌+◌, ◌-◌, List, length, get_or, ap, subst, arith}
use Rattle.std.specs.List.{All}
use Rattle.booth_host.specs.declared.datagram.TheConstants.{DATAGRAM_BYTES}
use Rattle.booth_real.specs.Waiting.{AreCounted, AreWithin, room_of, total}
use Rattle.booth_real.specs.declared.backlog.Held.{Held}
use Rattle.booth_real.specs.declared.backlog.TheConstants.{SOCKETS}
use Rattle.booth_real.proofs.SharingLemmas.{counted_after, own_is_counted, within_after}
use Rattle.booth_real.proofs.WaitingLemmas.{all_after}
use Rattle.booth_real.proofs.backlog.Backlog.give.Goals as goal

pub invariant_of-self-2-clause-whole : goal.invariant_of-self-2-clause-whole
invariant_of-self-2-clause-whole c =
    let first = ap (λ (hs : List Held). total hs) c.in_ok-first.ensures.items in
    let before = c.args.self.now.whole in
    omega (arith, first, before)

pub invariant_of-self-2-clause-each : goal.invariant_of-self-2-clause-each
invariant_of-self-2-clause-each c =
    let fits : Held → Type 0 = λ one. (one.length ≤ DATAGRAM_BYTES) × (one.place < SOCKETS) in
    all_after fits c.in_ok-first.first c.pop_front.new.self.items
    (subst (λ (hs : List Held). All fits hs) c.in_ok-first.ensures.items c.args.self.now.each)

pub invariant_of-self-2-clause-counted : goal.invariant_of-self-2-clause-counted
invariant_of-self-2-clause-counted c =
    let fits : Held → Type 0 = λ one. (one.length ≤ DATAGRAM_BYTES) × (one.place < SOCKETS) in
    let each = subst (λ (hs : List Held). All fits hs) c.in_ok-first.ensures.items c.args.self.now.each in
    let fit : fits c.in_ok-first.first = each 0 c.in_ok-first.first (omega arith) in
    let low : c.in_ok-first.first.place < length c.args.self.now.filled = omega (arith, fit.1) in
    let counted = subst (λ (hs : List Held). AreCounted c.args.self.now.filled hs) c.in_ok-first.ensures.items
    c.args.self.now.counted in
    let own = own_is_counted c.args.self.now.filled c.in_ok-first.first c.pop_front.new.self.items low counted in
    let difference : get_or c.args.self.now.filled c.in_ok-first.first.place 0 - c.room_of.result
    + room_of c.in_ok-first.first.length ≡ get_or c.args.self.now.filled c.in_ok-first.first.place 0 =
    omega (arith, own, c.room_of.ensures) in
    counted_after c.args.self.now.filled c.in_ok-first.first c.pop_front.new.self.items
    (get_or c.args.self.now.filled c.in_ok-first.first.place 0 - c.room_of.result) low difference counted

pub invariant_of-self-2-clause-fair : goal.invariant_of-self-2-clause-fair
invariant_of-self-2-clause-fair c =
    within_after c.args.self.now.share c.in_ok-first.first c.pop_front.new.self.items
    (subst (λ (hs : List Held). AreWithin c.args.self.now.share hs) c.in_ok-first.ensures.items c.args.self.now.fair)
