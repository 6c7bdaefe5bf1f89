use Rattle.std.specs.Prelude.{take}
use Rattle.booth_ticket.specs.Acts.{Did}
use Rattle.booth_ticket.specs.Waiting.{tell_one}
use Rattle.booth_base.specs.Tree.{each}
use Rattle.booth_ticket.specs.Waiting.{waiting_at}
use Rattle.booth_ticket.proofs.TellLemmas.{Looked}
use Rattle.booth_ticket.proofs.telling.tell_each.Given as goal

abbrev pub invariant-loop-place : goal.invariant-loop-place
invariant-loop-place g l = record {
  looked : Looked l.fn.waiters l.list l.told l._place l.waiters;
  told : Did g.W.Hands.did (each (tell_one l.setup l.part l.told) (take l._place (waiting_at l.fn.waiters l.list))) tt
      l.fn.hands l.hands;
}
