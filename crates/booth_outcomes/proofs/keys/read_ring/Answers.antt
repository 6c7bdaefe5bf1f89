use Rattle.std.proofs.Common.{option_copied, sym}
use Rattle.booth_outcomes.proofs.KeyLemmas.{no_ring, old_keyless, ring_read}
use Rattle.booth_outcomes.proofs.keys.read_ring.Goals as goal

pub returns-in_default-clause-past : goal.returns-in_default-clause-past
returns-in_default-clause-past g c = no_ring c.args.config.now (sym c.in_default.ensures)

pub returns-in_err-old-clause-past : goal.returns-in_err-old-clause-past
returns-in_err-old-clause-past g c =
    old_keyless c.args.config.now c.in-Some.path.now (sym c.in-Some.ensures) (option_copied c.authfile_old.result)
    c.authfile_old.ensures c.in_ok-first.first c.from_residual-in_err-old.result c.in_err-old.field-0.0
    c.from_residual-in_err-old.ensures c.in_ok-first.ensures.past c.in_err-old.ensures.past

pub returns-clause-past : goal.returns-clause-past
returns-clause-past g c =
    ring_read c.args.config.now c.in-Some.path.now (sym c.in-Some.ensures) (option_copied c.authfile_old.result)
    c.authfile_old.ensures (record { first = c.in_ok-first.first; old = c.in_ok-old.old; hash = c.auth_hash.result })
    c.auth_hash.ensures c.in_ok-first.ensures.past c.in_ok-old.ensures.past
