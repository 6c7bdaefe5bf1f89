-- The record of the one ticket of the name is kept, and its lease is compared with the one before.
use Rattle.std.proofs.Common.{None, refl}
use Rattle.booth_sim.proofs.Keeps.{kept_found, kept_missing, counted_found, counted_missing}
use Rattle.booth_sim.proofs.counting.keep.Goals as goal

pub returns-in-Some-clause-kept : goal.returns-in-Some-clause-kept
returns-in-Some-clause-kept c =
    λ before from time was. kept_found c.args.config.now c.args.name.now c.args.rec.now before from time c.args.kept.now was
    c.requires.sound c.in-Some.place (cc)

pub returns-in-Some-clause-counted : goal.returns-in-Some-clause-counted
returns-in-Some-clause-counted c =
    λ before from time was counted. counted_found c.args.config.now c.args.name.now c.args.rec.now before from time c.args.kept.now was
    c.in-Some.place None (cc) c.args.summary.now c.count_keep.new.summary counted (cc) (cc) (cc) (cc) (cc)

pub returns-in_default-clause-kept : goal.returns-in_default-clause-kept
returns-in_default-clause-kept c =
    λ before from time was. kept_missing c.args.config.now c.args.name.now c.args.rec.now before from time c.args.kept.now was (cc)

pub returns-in_default-clause-counted : goal.returns-in_default-clause-counted
returns-in_default-clause-counted c =
    λ before from time was counted. counted_missing c.args.config.now c.args.name.now c.args.rec.now before from time c.args.kept.now was
    (cc) c.args.summary.now _ counted refl refl refl refl (cc)
