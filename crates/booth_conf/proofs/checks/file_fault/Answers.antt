use Rattle.std.proofs.Common.{◌≡◌, ◌<◌, true, length, arith, rules, ap, ◌∙◌}
use Rattle.std.specs.List.{list_any}
use Rattle.std.specs.Option.{option_or}
use Rattle.std.proofs.lemmas.Bool.Decides.{nat_tests}
use Rattle.booth_conf.specs.Config.{is_site}
use Rattle.booth_conf.proofs.CheckLemmas.{later_faults}
use Rattle.booth_conf.proofs.checks.file_fault.Goals as goal

pub returns : goal.returns
returns c =
    let site : list_any is_site c.args.members.now ≡ true = search rules in
    let some : 0 < length c.args.tickets.now = grind (arith, nat_tests) in
    c.or-2.ensures ∙ ap (λ o. option_or o c.time_faults.result) c.or.ensures
    ∙ later_faults c.args.members.now c.args.tickets.now c.reserved_id.result c.clash.result c.time_faults.result site some c.reserved_id.ensures c.clash.ensures c.time_faults.ensures
