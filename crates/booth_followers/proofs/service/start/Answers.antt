use Rattle.std.proofs.Common.{ℕ, List, [], ◌∷◌, subst}
use Rattle.std.specs.Prelude.{None, Ok}
use Rattle.booth_host.specs.Past.{GrewBy}
use Rattle.booth_host.specs.declared.entry.Entry.TheVariants.{Open}
use Rattle.booth_followers.proofs.ServiceLemmas.{opened}
use Rattle.booth_followers.proofs.service.start.Goals as goal

pub returns-in-Ok-clause-past : goal.returns-in-Ok-clause-past
returns-in-Ok-clause-past g c =
    opened c.args.setting.now.left c.args.service.now.conf c.args.service.now.following c.serve.result.outcome c.serve.result.said
    (subst (λ (conf : List ℕ). GrewBy (g.H.Host.past c.args.host.now) (g.H.Host.past c.open_socket.new.host) (Open None 0 [] conf (Ok tt) ∷ []))
    c.copy.ensures c.in-Ok.ensures.past) c.serve.ensures.past
