use Rattle.std.proofs.Common.{◌≡◌, ℕ, List, ◌∙◌, ap, get_or, subst}
use Rattle.std.specs.Prelude.{Option, None}
use Rattle.std.specs.List.Sorted.{IsStrictlySortedBy}
use Rattle.booth_chain.specs.Draining.{by_deadline, cleared}
use Rattle.booth_chain.specs.Slots.{deadlines_of}
use Rattle.booth_chain.specs.Wheel.{Timer, IsDue}
use Rattle.booth_chain.proofs.DrainLemmas.{all_there, cleared_is_undue, due_alike, none_due, sorted_is_due, untaken}
use Rattle.booth_chain.proofs.wheel.Wheel.drain.Goals as goal

pub clear_each-requires : goal.clear_each-requires
clear_each-requires g c =
    let due = due_alike c.args.self.now.deadlines c.args.now _ _ c.sort_once.ensures.same c.collect.ensures.found in
    all_there c.args.self.now.deadlines c.args.now c.sort_once.new.due.items c.deref-2.result.now due c.deref-2.ensures.value

pub sweep-requires-clause-none : goal.sweep-requires-clause-none
sweep-requires-clause-none g c = λ slot deadline is.
    let due = due_alike c.args.self.now.deadlines c.args.now _ _ c.sort_once.ensures.same c.collect.ensures.found in
    let left : c.clear_each.new.self.deadlines ≡ cleared c.sort_once.new.due.items c.args.self.now.deadlines =
    ap (λ (t : Timer). t.deadlines) c.clear_each.ensures ∙ ap (λ (slots : List ℕ). cleared slots c.args.self.now.deadlines) c.deref-2.ensures.value in
    none_due c.args.self.now.deadlines c.args.now c.sort_once.new.due.items due slot deadline
    (subst (λ (ds : List (Option ℕ)). IsDue ds c.args.now slot deadline) left is)

pub returns-clause-due : goal.returns-clause-due
returns-clause-due g c =
    let due = due_alike c.args.self.now.deadlines c.args.now _ _ c.sort_once.ensures.same c.collect.ensures.found in
    let same : deadlines_of c.deref.result.now ≡ c.args.self.now.deadlines =
    ap deadlines_of c.deref.ensures.value ∙ ap (λ (t : Timer). t.deadlines) c.self.view_is in
    sorted_is_due c.args.self.now.deadlines c.args.now c.sort_once.new.due.items due
    (subst (λ (ds : List (Option ℕ)). IsStrictlySortedBy (by_deadline ds) c.sort_once.new.due.items) same c.sort_once.ensures.sorted)

pub returns-clause-left : goal.returns-clause-left
returns-clause-left g c =
    let due = due_alike c.args.self.now.deadlines c.args.now _ _ c.sort_once.ensures.same c.collect.ensures.found in
    let left : c.clear_each.new.self.deadlines ≡ cleared c.sort_once.new.due.items c.args.self.now.deadlines =
    ap (λ (t : Timer). t.deadlines) c.clear_each.ensures ∙ ap (λ (slots : List ℕ). cleared slots c.args.self.now.deadlines) c.deref-2.ensures.value in
    let timer : List (Option ℕ) → Timer = λ ds. record { deadlines = ds; last = c.args.now; swept = c.args.now } in
    c.sweep.ensures ∙ ap timer (left ∙ cleared_is_undue c.args.self.now.deadlines c.args.now c.sort_once.new.due.items due)

pub returns-clause-rest : goal.returns-clause-rest
returns-clause-rest g c = λ slot none.
    let left : c.clear_each.new.self.deadlines ≡ cleared c.sort_once.new.due.items c.args.self.now.deadlines =
    ap (λ (t : Timer). t.deadlines) c.clear_each.ensures ∙ ap (λ (slots : List ℕ). cleared slots c.args.self.now.deadlines) c.deref-2.ensures.value in
    ap (λ (t : Timer). get_or t.deadlines slot None) c.sweep.ensures
    ∙ ap (λ (ds : List (Option ℕ)). get_or ds slot None) left
    ∙ untaken c.args.self.now.deadlines c.args.now c.sort_once.new.due.items slot none
