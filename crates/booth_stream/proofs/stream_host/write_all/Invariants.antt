use Rattle.std.specs.Prelude.{◌≤◌, ◌++◌, List, length}
use Rattle.booth_stream.specs.Calls.{CallsGrewBy}
use Rattle.booth_stream.specs.Steps.{Writes}
use Rattle.booth_stream.specs.declared.link_call.LinkCall.{LinkCall}
use Rattle.booth_stream.specs.declared.stream_host.Wrote.{Wrote}
use Rattle.booth_stream.proofs.stream_host.write_all.Given as goal

abbrev pub invariant-writing : goal.invariant-writing
invariant-writing g l = record {
  so_far : (done : List LinkCall) × CallsGrewBy (g.L.Links.past l.fn.links) (g.L.Links.past l.links) done
      × ((more : List LinkCall) (wrote : Wrote) → Writes l.number l.rest more wrote → Writes l.number l.fn.bytes (done ++ more) wrote);
  later : g.L.Links.faults l.fn.links ≤ g.L.Links.faults l.links;
}

abbrev pub decreases-writing : goal.decreases-writing
decreases-writing g l = length l.rest
