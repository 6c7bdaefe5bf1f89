use Rattle.std.specs.Prelude.{take, drop, min}
use Rattle.std.proofs.Common.{◌≡◌, ℕ, List, ◌++◌, length, ap, ◌∙◌, subst, ◌+◌, ◌-◌, ◌<◌, ◌≤◌}
use Rattle.booth_stream.specs.Cut.{length_said}
use Rattle.booth_stream.specs.Feeding.{Held}
use Rattle.booth_stream.proofs.FeedLemmas.{Filled, filled, wants_more, still_held, is_whole}
use Rattle.booth_stream.proofs.cutter.Cutter.feed.Goals as goal

pub invariant_of-self-then-bytes-len : goal.invariant_of-self-then-bytes-len
invariant_of-self-then-bytes-len c =
    let held : Held = record { rest = c.self.inside.rest; broken = c.self.inside.broken } in
    let aim = c.in-Of.ensures in
    let named = c.bytes.ensures.value in
    let said : c.in-Of.len ≡ length_said c.fill-named.new.rest = aim.1 ∙ ap length_said named in
    let told : 28 ≤ length c.fill-named.new.rest = subst (λ (l : List ℕ). 28 ≤ length l) named aim.0 in
    let second : c.fill-more.result ≡ min (c.in-Of.len - length c.fill-named.new.rest) (length (drop c.fill-named.result c.args.piece.now)) =
    c.fill-more.ensures.taken ∙ ap (λ (l : List ℕ). min (c.in-Of.len - length c.fill-named.new.rest) (length l)) c.split_at.ensures.back in
    let added : c.fill-more.new.rest ≡ c.fill-named.new.rest ++ take c.fill-more.result (drop c.fill-named.result c.args.piece.now) =
    c.fill-more.ensures.rest ∙ ap (λ (l : List ℕ). c.fill-named.new.rest ++ take c.fill-more.result l) c.split_at.ensures.back in
    let is : Filled held c.args.piece.now c.fill-more.new.rest (c.fill-named.result + c.fill-more.result) c.in-Of.len =
    filled held c.args.piece.now c.fill-named.new.rest c.fill-more.new.rest c.fill-named.result c.fill-more.result c.in-Of.len
    c.if-self.false c.self.invariant c.fill-named.ensures.taken c.fill-named.ensures.rest told said aim.2 second added in
    still_held held c.args.piece.now c.fill-more.new.rest (c.fill-named.result + c.fill-more.result) c.in-Of.len c.if-self.false aim.2 is
    (subst (λ (l : List ℕ). length l < c.in-Of.len) c.bytes-in-Of.ensures.value c.if-bytes-len.true)

pub returns-then-bytes-len : goal.returns-then-bytes-len
returns-then-bytes-len c =
    let held : Held = record { rest = c.self.inside.rest; broken = c.self.inside.broken } in
    let aim = c.in-Of.ensures in
    let named = c.bytes.ensures.value in
    let said : c.in-Of.len ≡ length_said c.fill-named.new.rest = aim.1 ∙ ap length_said named in
    let told : 28 ≤ length c.fill-named.new.rest = subst (λ (l : List ℕ). 28 ≤ length l) named aim.0 in
    let second : c.fill-more.result ≡ min (c.in-Of.len - length c.fill-named.new.rest) (length (drop c.fill-named.result c.args.piece.now)) =
    c.fill-more.ensures.taken ∙ ap (λ (l : List ℕ). min (c.in-Of.len - length c.fill-named.new.rest) (length l)) c.split_at.ensures.back in
    let added : c.fill-more.new.rest ≡ c.fill-named.new.rest ++ take c.fill-more.result (drop c.fill-named.result c.args.piece.now) =
    c.fill-more.ensures.rest ∙ ap (λ (l : List ℕ). c.fill-named.new.rest ++ take c.fill-more.result l) c.split_at.ensures.back in
    let is : Filled held c.args.piece.now c.fill-more.new.rest (c.fill-named.result + c.fill-more.result) c.in-Of.len =
    filled held c.args.piece.now c.fill-named.new.rest c.fill-more.new.rest c.fill-named.result c.fill-more.result c.in-Of.len
    c.if-self.false c.self.invariant c.fill-named.ensures.taken c.fill-named.ensures.rest told said aim.2 second added in
    rw (← c.self.view_is)
    (wants_more held c.args.piece.now c.fill-more.new.rest c.args.into.now (c.fill-named.result + c.fill-more.result) c.in-Of.len c.if-self.false aim.2 is
    (subst (λ (l : List ℕ). length l < c.in-Of.len) c.bytes-in-Of.ensures.value c.if-bytes-len.true))

pub returns-else-bytes-len : goal.returns-else-bytes-len
returns-else-bytes-len c =
    let held : Held = record { rest = c.self.inside.rest; broken = c.self.inside.broken } in
    let aim = c.in-Of.ensures in
    let named = c.bytes.ensures.value in
    let said : c.in-Of.len ≡ length_said c.fill-named.new.rest = aim.1 ∙ ap length_said named in
    let told : 28 ≤ length c.fill-named.new.rest = subst (λ (l : List ℕ). 28 ≤ length l) named aim.0 in
    let second : c.fill-more.result ≡ min (c.in-Of.len - length c.fill-named.new.rest) (length (drop c.fill-named.result c.args.piece.now)) =
    c.fill-more.ensures.taken ∙ ap (λ (l : List ℕ). min (c.in-Of.len - length c.fill-named.new.rest) (length l)) c.split_at.ensures.back in
    let added : c.fill-more.new.rest ≡ c.fill-named.new.rest ++ take c.fill-more.result (drop c.fill-named.result c.args.piece.now) =
    c.fill-more.ensures.rest ∙ ap (λ (l : List ℕ). c.fill-named.new.rest ++ take c.fill-more.result l) c.split_at.ensures.back in
    let is : Filled held c.args.piece.now c.fill-more.new.rest (c.fill-named.result + c.fill-more.result) c.in-Of.len =
    filled held c.args.piece.now c.fill-named.new.rest c.fill-more.new.rest c.fill-named.result c.fill-more.result c.in-Of.len
    c.if-self.false c.self.invariant c.fill-named.ensures.taken c.fill-named.ensures.rest told said aim.2 second added in
    let more : c.in-Of.len ≤ length c.fill-more.new.rest =
    subst (λ (l : List ℕ). c.in-Of.len ≤ length l) c.bytes-in-Of.ensures.value c.if-bytes-len.false in
    rw (← c.self.view_is, c.give.ensures.given, c.give.ensures.left)
    (is_whole held c.args.piece.now c.fill-more.new.rest c.args.into.now (c.fill-named.result + c.fill-more.result) c.in-Of.len c.if-self.false aim.2 is more)
