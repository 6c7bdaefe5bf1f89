use Rattle.std.proofs.Common.{rules, sym, subst}
use Rattle.booth_wire.specs.Spelling.{HasAuth}
use Rattle.booth_wire.proofs.FrameLemmas.{signed_has_auth}
use Rattle.booth_wire.proofs.frame.Frame.set_auth.Goals as goal

pub returns-clause-auth : goal.returns-clause-auth
returns-clause-auth c = subst HasAuth (sym c.replace_auth.ensures) (signed_has_auth c.args.self.now c.args.id c.args.hash.now c.requires (search rules))
