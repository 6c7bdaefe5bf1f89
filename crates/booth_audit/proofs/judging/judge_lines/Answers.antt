use Rattle.std.specs.Prelude.{Option, Err}
use Rattle.std.specs.Option.{option_copied}
use Rattle.std.proofs.Common.{subst, ℕ}
use Rattle.booth_audit.specs.declared.owners.OwnerFault.{OwnerFault}
use Rattle.booth_audit.specs.Faults.{IsOf}
use Rattle.booth_audit.specs.Judging.{owners_of}
use Rattle.booth_audit.specs.Owners.{IsOwner}
use Rattle.booth_audit.proofs.JudgingLemmas.{its_members, nobodys_members, not_one_members, twice_members}
use Rattle.booth_audit.proofs.judging.judge_lines.Goals as goal

pub returns-then-is_owned : goal.returns-then-is_owned
returns-then-is_owned c =
    let said = c.requires.says.0 in
    let says = c.requires.says.1 in
    twice_members c.in-Ok-Some.place c.args.earlier.now says
    (subst (λ (o : Option ℕ). IsOf c.args.config.now.members said o) c.in-Ok-Some.field-0-is (c.in-Ok-Some.ensures said says))
    c.if-is_owned.ensures

pub returns-in-Ok-None : goal.returns-in-Ok-None
returns-in-Ok-None c =
    let said = c.requires.says.0 in
    let says = c.requires.says.1 in
    c.judge_nobodys.ensures (option_copied c.args.ring) (owners_of c.args.earlier.now) said
    (nobodys_members says
    (subst (λ (o : Option ℕ). IsOf c.args.config.now.members said o) c.in-Ok-None.field-0-is (c.in-Ok-None.ensures said says)))

pub returns-else-is_owned : goal.returns-else-is_owned
returns-else-is_owned c =
    let said = c.requires.says.0 in
    let says = c.requires.says.1 in
    c.judge_members.ensures (owners_of c.args.earlier.now) said
    (its_members c.in-Ok-Some.place c.args.earlier.now says
    (subst (λ (o : Option ℕ). IsOf c.args.config.now.members said o) c.in-Ok-Some.field-0-is (c.in-Ok-Some.ensures said says))
    c.if-is_owned.ensures)

pub returns-in-Err-NotOne : goal.returns-in-Err-NotOne
returns-in-Err-NotOne c =
    let said = c.requires.says.0 in
    let says = c.requires.says.1 in
    not_one_members says
    (subst (λ (f : OwnerFault). IsOwner c.args.config.now.members said (Err f)) c.in-Err-NotOne.field-0-is
    (c.in-Err-NotOne.ensures said says))
