-- A cluster through all events, and its summary.
use Rattle.std.proofs.Common.{◌≡◌, ℕ, suc, ◌+◌, ◌≤◌, sym, ap, ◌∙◌, subst, arith}
use Rattle.rand_pcg.specs.Lcg.{Lcg}
use Rattle.booth_conf.specs.Config.{ConfigSays}
use Rattle.booth_conf.specs.Sound.{IsSound}
use Rattle.booth_sim.specs.declared.cluster.Cluster.{Cluster}
use Rattle.booth_sim.specs.declared.drawing.Draw.{Draw}
use Rattle.booth_sim.specs.declared.summary.Summary.{Summary}
use Rattle.booth_sim.specs.Clusters.{Stands}
use Rattle.booth_sim.specs.Counts.{summary_of}
use Rattle.booth_sim.specs.Drawing.{draw_of, drawn, generator_before}
use Rattle.booth_sim.specs.Laws.{AtMostOneHolds, IsSummary, SimulationsAreWorlds}
use Rattle.booth_sim.specs.declared.summary.TheConstants.{MOST_EVENTS}

-- a cluster stands under its own names
pub stands_own : (config : ConfigSays) (events number event : ℕ) (cluster : Cluster) → Stands config events number event cluster
    → Stands cluster.config cluster.summary.events cluster.summary.number event cluster
stands_own config events number event cluster stands =
    subst (λ (c : ConfigSays). Stands c cluster.summary.events cluster.summary.number event cluster) (sym stands.same)
    (subst (λ (n : ℕ). Stands config n cluster.summary.number event cluster) (sym stands.asked)
    (subst (λ (n : ℕ). Stands config events n event cluster) (sym stands.drawn) stands))

-- so does the next one
pub stands_again : (config : ConfigSays) (events number event : ℕ) (old new : Cluster) → Stands config events number event old
    → Stands old.config old.summary.events old.summary.number (event + 1) new → Stands config events number (event + 1) new
stands_again config events number event old new stands next =
    subst (λ (c : ConfigSays). Stands c events number (event + 1) new) stands.same
    (subst (λ (n : ℕ). Stands old.config n number (event + 1) new) stands.asked
    (subst (λ (n : ℕ). Stands old.config old.summary.events n (event + 1) new) stands.drawn next))

same_summary : (s : Summary) (events number delivered restarts gained released greatest most : ℕ)
    → s.events ≡ events → s.number ≡ number → s.delivered ≡ delivered → s.restarts ≡ restarts → s.gains ≡ gained
    → s.releases ≡ released → s.greatest_term ≡ greatest → s.most_holders ≡ most
    → s ≡ record {
      events = events;
      number = number;
      delivered = delivered;
      restarts = restarts;
      gains = gained;
      releases = released;
      greatest_term = greatest;
      most_holders = most;
    }
same_summary s events number delivered restarts gained released greatest most a b c d e f g h =
    ap (λ (n : ℕ). record s { events = n }) a
    ∙ ap (λ (n : ℕ). record s { events = events; number = n }) b
    ∙ ap (λ (n : ℕ). record s { events = events; number = number; delivered = n }) c
    ∙ ap (λ (n : ℕ). record s { events = events; number = number; delivered = delivered; restarts = n }) d
    ∙ ap (λ (n : ℕ). record s { events = events; number = number; delivered = delivered; restarts = restarts; gains = n }) e
    ∙ ap (λ (n : ℕ). record s { events = events; number = number; delivered = delivered; restarts = restarts; gains = gained; releases = n }) f
    ∙ ap (λ (n : ℕ). record s { events = events; number = number; delivered = delivered; restarts = restarts; gains = gained; releases = released; greatest_term = n }) g
    ∙ ap (λ (n : ℕ). record s { events = events; number = number; delivered = delivered; restarts = restarts; gains = gained; releases = released; greatest_term = greatest; most_holders = n }) h

summary_is : (config : ConfigSays) (events number event : ℕ) (cluster : Cluster) → (stands : Stands config events number event cluster)
    → cluster.summary ≡ summary_of config events number stands.before
summary_is config events number event cluster stands =
    same_summary cluster.summary _ _ _ _ _ _ _ _ stands.asked stands.drawn stands.holds.counted.delivered stands.holds.counted.restarts
    stands.holds.counted.gains stands.holds.counted.releases stands.holds.counted.greatest stands.most

pub summed : SimulationsAreWorlds → (config : ConfigSays) (events number : ℕ) (cluster : Cluster) → IsSound config → events ≤ MOST_EVENTS
    → Stands config events number events cluster → IsSummary config events number cluster.summary
summed are_worlds config events number cluster sound few stands = record {
  entries = stands.before;
  simulation = stands.simulation;
  counts = summary_is config events number events cluster stands;
  world = are_worlds config sound number events few stands.before stands.simulation;
}

pub held_once : AtMostOneHolds → (config : ConfigSays) (events number : ℕ) (cluster : Cluster) → IsSound config → events ≤ MOST_EVENTS
    → Stands config events number events cluster → cluster.summary.most_holders ≤ 1
held_once at_most_one config events number cluster sound few stands =
    subst (λ (s : Summary). s.most_holders ≤ 1) (sym (summary_is config events number events cluster stands))
    (at_most_one config sound number events few stands.before stands.simulation)

-- what the next event draws, and the generator behind it
pub drawn_next : (number event : ℕ) (old new : Lcg) (draw : Draw) → (draw, new) ≡ drawn old → old ≡ generator_before number event
    → (draw ≡ draw_of number event) × (new ≡ generator_before number (event + 1))
drawn_next number event old new draw is at = (
  ap (λ (p : Draw × Lcg). p.0) is ∙ ap (λ (g : Lcg). (drawn g).0) at,
  ap (λ (p : Draw × Lcg). p.1) is ∙ ap (λ (g : Lcg). (drawn g).1) at ∙ ap (λ (n : ℕ). generator_before number n) (one_more event),
)
  where
    one_more : (n : ℕ) → suc n ≡ n + 1
    one_more n = omega arith
