use Rattle.std.specs.Prelude.{◌≡◌, Some, length}
use Rattle.booth_host.specs.declared.datagram.TheConstants.{DATAGRAM_BYTES}
use Rattle.booth_real.specs.Taking.{TakesIn, waiting}
use Rattle.booth_real.proofs.socket.Socket.drain_one.Given as goal

abbrev pub invariant-taking : goal.invariant-taking
invariant-taking l = record {
  size : length l.buffer ≡ DATAGRAM_BYTES;
  behind : TakesIn (Some l.self.takes) (waiting l.fn.backlog) (waiting l.backlog);
}
