-- The list is long enough for what is put into it.
use Rattle.std.proofs.Common.{◌∙◌, ◌+◌, ◌-◌, List, ℕ, ◌++◌, length, take, drop, ap, arith, length-append}
use Rattle.std.proofs.lemmas.List.{take_at}
use Rattle.booth_rec.specs.Spelling.{zeros}
use Rattle.booth_rec.specs.CallLaws.{length_zeros}
use Rattle.booth_rec.proofs.MemoryLemmas.{written_over}
use Rattle.booth_rec.proofs.memory_disk.overwrite.Goals as goal

pub put_within-requires : goal.put_within-requires
put_within-requires c =
    let n = c.args.at + length c.args.bytes.now - length c.args.list.now.items in
    omega (arith, ap length c.deref_mut.ensures.value, ap length c.reach.ensures.items, length-append c.args.list.now.items (zeros n), length_zeros n)

pub returns-clause-items : goal.returns-clause-items
returns-clause-items c =
    let whole = take_at c.put_within.new.list (drop (length c.put_within.new.list) c.reach.new.list.items) c.reach.new.list.len (c.put_within.ensures.len ∙ c.deref_mut.ensures.len) in
    let put = λ (l : List ℕ). take c.args.at l ++ c.args.bytes.now ++ drop (c.args.at + length c.args.bytes.now) l in
    whole ∙ c.put_within.ensures.after ∙ ap put (c.deref_mut.ensures.value ∙ c.reach.ensures.items) ∙ written_over c.args.at c.args.bytes.now c.args.list.now.items
