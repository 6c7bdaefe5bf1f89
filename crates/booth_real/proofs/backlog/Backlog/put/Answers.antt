use Rattle.std.proofs.Common.{rules, ◌≡◌, ◌≤◌, ◌<◌, ◌+◌, ◌++◌, [], ◌∷◌, length, get_or, set, ℕ, List, ap, ◌∙◌, sym, refl, subst, arith}
use Rattle.std.proofs.lemmas.List.{length-append}
use Rattle.std.specs.List.{All}
use Rattle.booth_host.specs.declared.datagram.TheConstants.{DATAGRAM_BYTES}
use Rattle.booth_real.specs.Waiting.{AreCounted, AreWithin, room_of, total, waits}
use Rattle.booth_real.specs.declared.backlog.Held.{Held}
use Rattle.booth_real.specs.declared.backlog.TheConstants.{SOCKETS}
use Rattle.booth_real.proofs.SharingLemmas.{counted_behind, within_behind}
use Rattle.booth_real.proofs.WaitingLemmas.{all_behind, total_behind, waits_behind}
use Rattle.booth_real.proofs.backlog.Backlog.put.Goals as goal

pub invariant_of-self-clause-whole : goal.invariant_of-self-clause-whole
invariant_of-self-clause-whole c =
    let one : Held = record { from = c.args.from.now; length = length c.args.bytes.now; place = c.args.place } in
    let grown : c.extend_from_slice.new.self.items ≡ c.args.self.now.bytes.items ++ c.args.bytes.now = search rules in
    let size = ap (λ (bs : List ℕ). length bs) grown ∙ length-append c.args.self.now.bytes.items c.args.bytes.now in
    let more = ap (λ (hs : List Held). total hs) c.push_back_reserved.ensures.items ∙ total_behind c.args.self.now.held.items one in
    let before = c.args.self.now.whole in
    omega (arith, size, more, before)

pub invariant_of-self-clause-each : goal.invariant_of-self-clause-each
invariant_of-self-clause-each c =
    let fits : Held → Type 0 = λ one. (one.length ≤ DATAGRAM_BYTES) × (one.place < SOCKETS) in
    let one : Held = record { from = c.args.from.now; length = length c.args.bytes.now; place = c.args.place } in
    subst (λ (hs : List Held). All fits hs) (sym c.push_back_reserved.ensures.items)
    (all_behind fits c.args.self.now.held.items one c.args.self.now.each (c.requires.short, c.requires.place))

pub invariant_of-self-clause-counted : goal.invariant_of-self-clause-counted
invariant_of-self-clause-counted c =
    let one : Held = record { from = c.args.from.now; length = length c.args.bytes.now; place = c.args.place } in
    let filled = c.args.self.now.filled in
    let low : c.args.place < length c.args.self.now.filled = omega arith in
    let sum : get_or c.args.self.now.filled c.args.place 0 + c.room_of.result
    ≡ get_or c.args.self.now.filled c.args.place 0 + room_of one.length =
    ap (λ (n : ℕ). get_or c.args.self.now.filled c.args.place 0 + n) c.room_of.ensures in
    subst (λ (hs : List Held). AreCounted (set filled c.args.place (get_or filled c.args.place 0 + c.room_of.result)) hs)
    (sym c.push_back_reserved.ensures.items)
    (counted_behind filled c.args.self.now.held.items one (get_or filled c.args.place 0 + c.room_of.result) low sum
    c.args.self.now.counted)

pub invariant_of-self-clause-fair : goal.invariant_of-self-clause-fair
invariant_of-self-clause-fair c =
    let one : Held = record { from = c.args.from.now; length = length c.args.bytes.now; place = c.args.place } in
    subst (λ (hs : List Held). AreWithin c.args.self.now.share hs) (sym c.push_back_reserved.ensures.items)
    (within_behind c.args.self.now.share c.args.self.now.held.items one c.requires.short c.requires.part c.args.self.now.fair)

pub returns : goal.returns
returns c =
    let old = c.args.self.now in
    let one : Held = record { from = c.args.from.now; length = length c.args.bytes.now; place = c.args.place } in
    let grown : c.extend_from_slice.new.self.items ≡ c.args.self.now.bytes.items ++ c.args.bytes.now = search rules in
    ap (λ (hs : List Held). waits hs old.given c.extend_from_slice.new.self.items) c.push_back_reserved.ensures.items
    ∙ ap (λ (bs : List ℕ). waits (old.held.items ++ one ∷ []) old.given bs) grown
    ∙ waits_behind old.held.items one old.given old.bytes.items c.args.bytes.now old.whole refl
