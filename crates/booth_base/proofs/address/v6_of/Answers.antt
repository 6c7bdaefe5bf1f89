use Rattle.std.proofs.Common.{rules}
use Rattle.booth_base.specs.Address.{AreBytes}
use Rattle.booth_base.proofs.AddressLemmas.{octets_stay}
use Rattle.booth_base.proofs.address.v6_of.Goals as goal

pub returns : goal.returns
returns c =
    let whole : AreBytes 16 c.args.octets = search rules in
    octets_stay c.args.octets c.from.result.segments whole c.from.ensures
