use Rattle.std.proofs.Common.{◌∙◌}
use Rattle.booth_conf.proofs.MemberLemmas.{any_address}
use Rattle.booth_conf.proofs.members.MemberList.has.Goals as goal

pub returns : goal.returns
returns c =
    rw (← c.self.view_is) (c.contains.ensures ∙ any_address c.args.address c.self.inside.addresses.keys c.self.inside.members.items c.self.invariant)
