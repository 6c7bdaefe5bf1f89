-- How the write of a record changed the lease of a ticket, as a table.
use Rattle.std.specs.Prelude.{◌==◌, ◌&&◌, Option, None, Some, if◌then◌else◌}
use Rattle.booth_rec.specs.declared.record.Lease.{Lease}
use Rattle.booth_log.specs.declared.happening.Ending.{Ending}
use Rattle.booth_log.specs.declared.happening.Ending.TheVariants.{Kept, Failed}
use Rattle.booth_log.specs.declared.happening.Happening.{Happening}
use Rattle.booth_log.specs.declared.happening.Happening.TheVariants.{Gains, GivesBack, FailsToKeep, FailsToGiveBack}

-- Depends on the lease of the record before, the lease of the record to be written, and how the write ended. A lease
-- that was written with another end in the same term is a renewal, which has no line.
abbrev pub lease_change : Option Lease → Option Lease → Ending → Option Happening
lease_change None None ending = None
lease_change None (Some lease) Kept = Some (Gains lease)
lease_change None (Some lease) Failed = Some (FailsToKeep lease)
lease_change (Some before) None Kept = Some (GivesBack before)
lease_change (Some before) None Failed = Some (FailsToGiveBack before)
lease_change (Some before) (Some lease) Kept = if before.term == lease.term then None else Some (Gains lease)
lease_change (Some before) (Some lease) Failed =
    if before.term == lease.term && before.until == lease.until then None else Some (FailsToKeep lease)
