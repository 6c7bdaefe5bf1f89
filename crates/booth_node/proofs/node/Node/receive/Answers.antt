use Rattle.std.proofs.Common.{◌≤◌, ℕ, sym, subst}
use Rattle.std.specs.Prelude.{vec_capacity}
use Rattle.booth_node.proofs.DueLemmas.{timed_again, last_again, length_again, placed_again}
use Rattle.booth_node.proofs.node.Node.receive.Goals as goal

pub look_again-requires-clause-there : goal.look_again-requires-clause-there
look_again-requires-clause-there g c = placed_again c.receive-place.result _ _ c.receive-place.ensures.others

pub invariant_of-self-clause-timed : goal.invariant_of-self-clause-timed
invariant_of-self-clause-timed g c =
    timed_again _ _ _ _ c.receive-place.result c.receive-place.ensures.others c.look_again.ensures
    c.args.self.now.timed

pub invariant_of-self-clause-waited : goal.invariant_of-self-clause-waited
invariant_of-self-clause-waited g c =
    subst (λ (n : ℕ). n ≤ c.args.self.now.last_reading)
    (sym (last_again c.args.self.now.table.tickets.items _ _ _ c.receive-place.result
    c.look_again.ensures)) c.args.self.now.waited

pub invariant_of-self-clause-room : goal.invariant_of-self-clause-room
invariant_of-self-clause-room g c =
    subst (λ (n : ℕ). n ≤ vec_capacity c.args.self.now.due)
    (sym (length_again c.receive-place.result _ _ c.receive-place.ensures.others)) c.args.self.now.room
