use Rattle.std.specs.Prelude.{◌≡◌, take}
use Rattle.booth_auth.specs.Sealed.{sealed}
use Rattle.booth_wire.specs.Spelling.{Fits}
use Rattle.booth_ticket.specs.Acts.{Dids, said_to_each}
use Rattle.booth_node.specs.Led.{Led}
use Rattle.booth_node.specs.Reaction.{IsDone, one_of, sent_as}
use Rattle.booth_node.proofs.hands.NodeHandsHands.say_each.Given as goal

abbrev pub invariant-loop-place : goal.invariant-loop-place
invariant-loop-place g l = record {
  chain : Dids (λ old act new.
      (new.host.ghost_name ≡ old.host.ghost_name) × (new.common.ghost_name ≡ old.common.ghost_name)
      × (new.frame.ghost_name ≡ old.frame.ghost_name)
      × ((new.node.now ≡ old.node.now) × (new.now ≡ old.now) × (new.name.now ≡ old.name.now))
      × Led g.H.Host.past g.H.Host.faults (IsDone old.node.now.ring)
      (one_of old.node.now old.now old.name.now old.common.now act.ask)
      (record { ok = act.ok; common = new.common.now }) old.host.now new.host.now)
      l.initial.self (said_to_each (take l.place-index l.others) l.head l.part) l.self;
  written : l.self.frame.now ≡ sealed l.self.node.now.ring (sent_as l.self.node.now l.self.now l.head l.part);
  fits : Fits (sent_as l.self.node.now l.self.now l.head l.part);
}
