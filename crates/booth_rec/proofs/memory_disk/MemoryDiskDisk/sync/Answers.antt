-- A sync is one call more.
use Rattle.std.proofs.Common.{◌∙◌, List, ℕ, [], ◌∷◌, ◌++◌, ap, sym, subst, Vec}
use Rattle.std.specs.declared.alloc.Global.{Global}
use Rattle.booth_rec.specs.declared.memory_disk.Call.{Call}
use Rattle.booth_rec.specs.declared.memory_disk.Call.TheVariants.{Sync}
use Rattle.booth_rec.specs.Disk.{Only}
use Rattle.booth_rec.specs.Calls.{seen_after, MayLeave}
use Rattle.booth_rec.proofs.MemoryLemmas.{seen_synced, synced_only, less_synced, elapses_push}
use Rattle.booth_rec.proofs.memory_disk.MemoryDiskDisk.sync.Goals as goal

pub invariant_of-self-clause-same : goal.invariant_of-self-clause-same
invariant_of-self-clause-same c =
    let disk = c.passes.new.self in
    disk.same ∙ sym (ap (λ (cs : List Call). seen_after disk.first.items cs) c.push_reserved.ensures.items ∙ seen_synced disk.first.items disk.calls.items)

pub returns-clause-durable : goal.returns-clause-durable
returns-clause-durable c =
    let disk = c.passes.new.self in
    subst (λ (cs : List Call). Only (seen_after disk.first.items cs) (MayLeave disk.first.items cs)) (sym c.push_reserved.ensures.items) (synced_only disk.first.items disk.calls.items)

pub returns-clause-crash : goal.returns-clause-crash
returns-clause-crash c =
    less_synced _ _ _ _ (ap (λ (v : Vec ℕ Global). v.items) c.passes.ensures.keeps.first)
    (c.push_reserved.ensures.items ∙ ap (λ (v : Vec Call Global). v.items ++ Sync ∷ []) c.passes.ensures.keeps.calls)

pub returns-clause-time : goal.returns-clause-time
returns-clause-time c =
    elapses_push _ _ _ _ Sync (ap (λ (v : Vec ℕ Global). v.items) c.passes.ensures.keeps.first)
    (c.push_reserved.ensures.items ∙ ap (λ (v : Vec Call Global). v.items ++ Sync ∷ []) c.passes.ensures.keeps.calls)
