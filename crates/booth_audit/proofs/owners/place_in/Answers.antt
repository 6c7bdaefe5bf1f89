use Rattle.std.proofs.Common.{subst}
use Rattle.booth_journal.specs.declared.said.Call.{Call}
use Rattle.booth_journal.specs.Reading.{SpellsCall}
use Rattle.booth_audit.proofs.OwnerLemmas.{place_some, place_wrong}
use Rattle.booth_audit.proofs.owners.place_in.Goals as goal

pub returns-in-Some : goal.returns-in-Some
returns-in-Some c said may text =
    place_some c.args.config.now.members c.in-Ok-Open.local
    (subst (λ (k : Call). SpellsCall c.args.call.now k) c.in-Ok-Open.field-0-is c.in-Ok-Open.ensures.found) c.in-Some.ensures said may text

pub returns-in-None : goal.returns-in-None
returns-in-None c said may text =
    place_wrong c.args.config.now.members c.in-Ok-Open.local
    (subst (λ (k : Call). SpellsCall c.args.call.now k) c.in-Ok-Open.field-0-is c.in-Ok-Open.ensures.found) c.in-None.ensures said may text
