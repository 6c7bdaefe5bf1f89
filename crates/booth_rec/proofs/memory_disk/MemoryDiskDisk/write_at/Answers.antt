-- A write is one call more, with its bytes.
use Rattle.std.proofs.Common.{◌∙◌, List, ℕ, [], ◌∷◌, ◌++◌, ap, sym, Vec}
use Rattle.std.specs.declared.alloc.Global.{Global}
use Rattle.booth_rec.specs.declared.memory_disk.Call.{Call}
use Rattle.booth_rec.specs.Calls.{overwritten, seen_after}
use Rattle.booth_rec.proofs.MemoryLemmas.{seen_written, written_then, torn_then, elapses_push}
use Rattle.booth_rec.proofs.memory_disk.MemoryDiskDisk.write_at.Goals as goal

pub invariant_of-self-clause-same : goal.invariant_of-self-clause-same
invariant_of-self-clause-same c =
    let disk = c.passes.new.self in
    c.overwrite.ensures.items ∙ ap (λ (l : List ℕ). overwritten c.args.at c.args.bytes.now l) disk.same
    ∙ sym (ap (λ (cs : List Call). seen_after disk.first.items cs) c.push_reserved.ensures.items
    ∙ seen_written disk.first.items disk.calls.items c.args.at c.args.bytes.now c.write_call.result c.write_call.ensures)

pub returns-clause-written : goal.returns-clause-written
returns-clause-written c =
    written_then _ _ _ _ c.args.at c.args.bytes.now c.write_call.result (ap (λ (v : Vec ℕ Global). v.items) c.passes.ensures.keeps.first)
    (c.push_reserved.ensures.items ∙ ap (λ (v : Vec Call Global). v.items ++ c.write_call.result ∷ []) c.passes.ensures.keeps.calls) c.write_call.ensures

pub returns-clause-crash : goal.returns-clause-crash
returns-clause-crash c =
    torn_then _ _ _ _ c.args.at c.args.bytes.now c.write_call.result (ap (λ (v : Vec ℕ Global). v.items) c.passes.ensures.keeps.first)
    (c.push_reserved.ensures.items ∙ ap (λ (v : Vec Call Global). v.items ++ c.write_call.result ∷ []) c.passes.ensures.keeps.calls) c.write_call.ensures

pub returns-clause-time : goal.returns-clause-time
returns-clause-time c =
    elapses_push _ _ _ _ c.write_call.result (ap (λ (v : Vec ℕ Global). v.items) c.passes.ensures.keeps.first)
    (c.push_reserved.ensures.items ∙ ap (λ (v : Vec Call Global). v.items ++ c.write_call.result ∷ []) c.passes.ensures.keeps.calls)
