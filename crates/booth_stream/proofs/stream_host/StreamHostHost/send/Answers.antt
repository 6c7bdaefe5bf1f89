use Rattle.std.proofs.Common.{refl, inl}
use Rattle.booth_stream.specs.Table.{places_of}
use Rattle.booth_stream.proofs.HostLemmas.{linked_send, sent_on, own_stays}
use Rattle.booth_stream.proofs.stream_host.StreamHostHost.send.Goals.{in-Some, in-None}
use Rattle.booth_stream.proofs.stream_host.StreamHostHost.send.Goals as goal

pub returns-clause-does : goal.returns-clause-does
returns-clause-does g c = elim c.match-reach.branch [
  | in-Some w ↦
      let does = w.write-answer.ensures.does in
      rw (w.self-is, w.answer-is, w.write-answer.ensures.host)
      (linked_send (places_of c.args.self.now.table) (places_of w.write-answer.new.self.table) c.args.to.now c.args.bytes.now
      w.in-Some.number does.0 does.1 does.2 w.write-answer.result c.args.self.now.faults w.write-answer.new.self.faults
      w.in-Some.ensures does.3 does.4 does.5 does.6)
  | in-None w ↦
      rw (w.self-is, w.answer-is)
      (sent_on (places_of c.args.self.now.table) c.args.to.now c.args.bytes.now w.send-answer.result c.args.self.now.faults w.in-None.ensures w.send-answer.ensures.past)
]

pub returns-clause-own : goal.returns-clause-own
returns-clause-own g c = elim c.match-reach.branch [
  | in-Some w ↦
      let does = w.write-answer.ensures.does in
      rw (w.self-is, w.answer-is)
      (own_stays (places_of c.args.self.now.table) (places_of w.write-answer.new.self.table) w.in-Some.number does.0 does.1 does.2
      w.write-answer.result c.args.self.now.faults w.write-answer.new.self.faults does.5 does.6)
  | in-None w ↦ rw (w.self-is) (inl refl)
]
