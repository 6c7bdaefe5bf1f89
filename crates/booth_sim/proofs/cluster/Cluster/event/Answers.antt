use Rattle.std.proofs.Common.{◌+◌, sym, subst, ap, ◌∙◌, arith}
use Rattle.booth_conf.specs.Config.{ConfigSays}
use Rattle.booth_sim.specs.declared.cluster.Cluster.{Cluster}
use Rattle.booth_sim.specs.Clusters.{CanHappen, says}
use Rattle.booth_sim.proofs.ClusterEvents.{can_happen, event_stands, ready_again, ready_to_go, time_below, went_on}
use Rattle.booth_sim.proofs.cluster.Cluster.event.Goals as goal

pub overflow_add-self : goal.overflow_add-self
overflow_add-self c =
    let time = time_below _ _ _ _ _ c.requires.stands in
    let rise = c.rise.ensures.few in
    let few = c.requires.few in omega (arith, time, rise, few)

pub happen-requires-clause-ready : goal.happen-requires-clause-ready
happen-requires-clause-ready c =
    ready_to_go c.args.self.now.config c.args.self.now.summary.events c.args.self.now.summary.number c.args.event c.args.draw.now
    c.args.self.now c.happening.new.self c.requires.stands c.requires.few
    (ap (λ (x : Cluster). x.config) c.happening.ensures.same)
    (ap (λ (x : Cluster). x.daemons) c.happening.ensures.same)
    (ap (λ (x : Cluster). x.summary) c.happening.ensures.same)
    (ap (λ (x : Cluster). x.time) c.happening.ensures.same ∙ ap (λ r. c.args.self.now.time + r) c.rise.ensures.exact)

pub happen-requires-clause-place : goal.happen-requires-clause-place
happen-requires-clause-place c =
    subst (λ (x : ConfigSays). CanHappen x (says c.in_ok-happening.happening))
    (sym (ap (λ (x : Cluster). x.config) c.happening.ensures.same))
    (can_happen c.args.self.now.config c.requires.stands.sound c.requires.stands.before c.args.event c.args.draw.now
    (says c.in_ok-happening.happening)
    (c.in_ok-happening.ensures.happens.is c.requires.stands.before c.requires.stands.holds.sent))

pub count_holders-requires : goal.count_holders-requires
count_holders-requires c =
    ready_again c.args.self.now.summary.events c.args.self.now.summary.number c.args.event c.args.draw.now
    c.in_ok-happening.happening c.args.self.now c.happening.new.self c.happen.new.self c.requires.stands
    (went_on c.args.event c.args.draw.now c.in_ok-happening.happening c.args.self.now c.happening.new.self c.happen.new.self
    c.rise.result c.keeps_fail.result c.happening.ensures.same c.rise.ensures.exact c.keeps_fail.ensures
    c.in_ok-happening.ensures.happens c.in_ok-happen.ensures)
    c.requires.few

pub returns : goal.returns
returns c =
    event_stands c.args.self.now.summary.events c.args.self.now.summary.number c.args.event c.args.draw.now
    c.in_ok-happening.happening c.args.self.now c.happening.new.self c.happen.new.self c.requires.stands
    (went_on c.args.event c.args.draw.now c.in_ok-happening.happening c.args.self.now c.happening.new.self c.happen.new.self
    c.rise.result c.keeps_fail.result c.happening.ensures.same c.rise.ensures.exact c.keeps_fail.ensures
    c.in_ok-happening.ensures.happens c.in_ok-happen.ensures)
    c.count_holders.new.self c.requires.drawn c.count_holders.ensures
