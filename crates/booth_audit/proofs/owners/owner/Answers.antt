use Rattle.booth_audit.proofs.OwnerLemmas.{call_may, never_next, seen_all, seen_next, seen_shorter}
use Rattle.booth_audit.proofs.owners.owner.Goals as goal

pub returns-in-Err : goal.returns-in-Err
returns-in-Err c all says =
    let is = c.calls.invariant all says in
    let f = c.in-Some.ensures is.left is.says in
    never_next is f c.in-Err.fault (c.in-Err.ensures f.said.call (call_may is f) f.call_is)

pub calls-smaller : goal.calls-smaller
calls-smaller c =
    let is = c.calls.invariant c.requires.says.0 c.requires.says.1 in
    seen_shorter (c.in-Some.ensures is.left is.says)

pub calls-preserved : goal.calls-preserved
calls-preserved c all says =
    let is = c.calls.invariant all says in
    let f = c.in-Some.ensures is.left is.says in
    seen_next is f (c.in-Ok.ensures f.said.call (call_may is f) f.call_is)

pub returns : goal.returns
returns c all says =
    let is = c.calls.invariant all says in
    seen_all is (c.in_default.ensures is.left is.says)
