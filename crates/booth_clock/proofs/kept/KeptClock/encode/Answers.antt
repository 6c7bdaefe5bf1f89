use Rattle.std.proofs.Common.{refl, ap, List, ℕ, ◌++◌, append-nil}
use Rattle.booth_clock.specs.Kept.{long}
use Rattle.booth_clock.proofs.kept.KeptClock.encode.Goals as goal

pub returns : goal.returns
unfolding long
returns c =
    rw (
      c.copy_from_slice.ensures.after,
      c.copy_from_slice-2.ensures.after,
      c.copy_from_slice-3.ensures.after,
      c.copy_from_slice-4.ensures.after,
      c.to_be_bytes.ensures,
      c.to_be_bytes-2.ensures,
      c.to_be_bytes-3.ensures,
    ) (ap (λ (rest : List ℕ). long 1 ++ long c.args.self.now.offset ++ long c.args.self.now.reached ++ rest) (append-nil c.args.self.now.boot.0))
