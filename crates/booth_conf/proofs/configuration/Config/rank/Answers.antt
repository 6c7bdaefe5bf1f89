use Rattle.std.proofs.Common.{◌≡◌, ◌<◌, ◌≤◌, length, arith, ap, ◌∙◌, IsTrue, subst, sym}
use Rattle.booth_conf.specs.Config.{ConfigSays}
use Rattle.booth_conf.specs.Lookups.{rank_of, weights_at}
use Rattle.booth_base.specs.declared.limits.TheConstants.{MEMBERS}
use Rattle.booth_conf.proofs.PlaceLemmas.{weights_here}
use Rattle.booth_conf.proofs.RankLemmas.{rank_below}
use Rattle.booth_conf.proofs.configuration.Config.rank.Goals as goal

pub returns-clause-exact : goal.returns-clause-exact
returns-clause-exact c =
    let same : c.self.inside.tickets.items ≡ c.args.self.now.tickets =
    ap (λ (x : ConfigSays). x.tickets) c.self.view_is in
    let within : c.args.ticket < length c.self.inside.tickets.items =
    omega (arith, ap length same, c.requires.ticket) in
    let weights : c.deref-2.result.now ≡ weights_at c.self.inside.tickets.items c.args.ticket =
    weights_here c.self.inside.tickets.items c.args.ticket c.index.result.now c.deref-2.result.now within c.index.ensures c.deref-2.ensures.0 in
    rw (← c.self.view_is) (c.rank.ensures ∙ ap (λ ms. rank_of ms c.deref-2.result.now c.args.member) c.deref.ensures.value ∙ ap (λ ws. rank_of c.self.inside.members.items ws c.args.member) weights)

pub returns-clause-few : goal.returns-clause-few
returns-clause-few c =
    let few : length c.args.self.now.members ≤ MEMBERS =
    subst (λ (x : ConfigSays). length x.members ≤ MEMBERS) c.self.view_is c.self.invariant.1.few_members in
    subst (λ n. n < MEMBERS) (sym (returns-clause-exact c))
    (rank_below (λ m. IsTrue m.site) c.args.self.now.members (weights_at c.args.self.now.tickets c.args.ticket)
    c.args.member MEMBERS c.requires.site few)
