-- A member starts: its id is known, and its node is the one of its place.
use Rattle.std.proofs.Common.{◌≡◌, ℕ, zero, suc, ◌<◌, true, List, [], ◌∷◌, length, get_or, replicate, refl, sym, ap, ◌∙◌, subst, arith, IfOk, IsSome, Result}
use Rattle.std.specs.Prelude.{Option, Some, None, position, slice_get}
use Rattle.std.specs.Option.{option_map_or}
use Rattle.std.proofs.lemmas.Bool.Decides.{nat_tests}
use Rattle.booth_base.specs.declared.address.MemberId.{MemberId}
use Rattle.booth_base.specs.declared.address.TheConstants.{NO_ONE}
use Rattle.booth_conf.specs.Config.{ConfigSays, has_id}
use Rattle.booth_conf.specs.declared.members.Member.{Member}
use Rattle.booth_conf.specs.declared.tickets.TicketConf.{TicketConf}
use Rattle.booth_rec.specs.declared.record.Record.{Record}
use Rattle.booth_node.specs.declared.node.Node.{Node}
use Rattle.booth_node.specs.declared.node_config.NodeConfig.{NodeConfig}
use Rattle.booth_node.specs.Opening.{opened}
use Rattle.booth_node.specs.View.{node_config, state_of}
use Rattle.booth_world.proofs.Configured.{no_position}
use Rattle.booth_sim.specs.Kept.{all_kept}
use Rattle.booth_sim.specs.declared.daemon.Daemon.{Daemon}
use Rattle.booth_sim.specs.Simulation.{node_in}
use Rattle.booth_sim.specs.Standing.{HasStarted}

slice_at : {X : Type 0} (xs : List X) (i : ℕ) (d : X) → i < length xs → slice_get xs i ≡ Some (get_or xs i d)
slice_at [] i d within = absurd (omega (arith, within))
slice_at (y ∷ ys) zero d within = refl
slice_at (y ∷ ys) (suc i) d within = slice_at ys i d (omega (arith, within))

pub id_there : (config : ConfigSays) (members : List Member) (place : ℕ) (d : Member) → members ≡ config.members → place < length config.members
    → (get_or members place d).id ≡ (node_in config place).me
id_there config members place d same within =
    ap (λ (ms : List Member). (get_or ms place d).id) same
    ∙ sym (ap (λ (o : Option Member). option_map_or (λ (m : Member). m.id) o NO_ONE) (slice_at config.members place d within))

own_id : (m : Member) → has_id m.id m ≡ true
own_id m = grind (arith, nat_tests)

known_there : (members : List Member) (place : ℕ) (d : Member) → place < length members → IsSome (position (has_id (get_or members place d).id) members)
known_there members place d within = by_place (position (has_id (get_or members place d).id) members) refl
  where
    by_place : (o : Option ℕ) → position (has_id (get_or members place d).id) members ≡ o → IsSome (position (has_id (get_or members place d).id) members)
    by_place None e =
        absurd (no_position (has_id (get_or members place d).id) members place (get_or members place d) e (slice_at members place d within)
        (own_id (get_or members place d)))
    by_place (Some n) e = subst (λ (o : Option ℕ). IsSome o) (sym e) refl

pub id_known : (config : ConfigSays) (members : List Member) (place : ℕ) (d : Member) → members ≡ config.members → place < length config.members
    → IsSome (position (has_id (get_or members place d).id) config.members)
id_known config members place d same within =
    subst (λ (ms : List Member). IsSome (position (has_id (get_or ms place d).id) config.members)) (sym same)
    (known_there config.members place d within)

-- the node of a place
node_is : (config copy : ConfigSays) (place : ℕ) (me : MemberId) → copy ≡ config → me ≡ (node_in config place).me
    → record { config = copy; ring = None; me = me; second = true } ≡ node_in config place
node_is config copy place me same own =
    ap (λ (c : ConfigSays). record { config = c; ring = None; me = me; second = true }) same ∙ ap (λ (i : MemberId). record { config = config; ring = None; me = i; second = true }) own

pub opened_node : {E : Type 0} (result : Result Node E) (config copy : ConfigSays) (place : ℕ) (me : MemberId) → copy ≡ config
    → me ≡ (node_in config place).me → IfOk result (λ node. node_config node ≡ record { config = copy; ring = None; me = me; second = true })
    → IfOk result (λ node. node_config node ≡ node_in config place)
opened_node {E} result config copy place me same own h =
    subst (λ (n : NodeConfig). IfOk result (λ node. node_config node ≡ n)) (node_is config copy place me same own) h

pub opened_state : {E : Type 0} (result : Result Node E) (config copy : ConfigSays) (place : ℕ) (me : MemberId) (kept : List (Option Record)) (reading : ℕ)
    → copy ≡ config → me ≡ (node_in config place).me
    → IfOk result (λ node. state_of node ≡ opened (record { config = copy; ring = None; me = me; second = true }) kept reading)
    → IfOk result (λ node. state_of node ≡ opened (node_in config place) kept reading)
opened_state {E} result config copy place me kept reading same own h =
    subst (λ (n : NodeConfig). IfOk result (λ node. state_of node ≡ opened n kept reading)) (node_is config copy place me same own) h

-- at first nothing is kept
pub none_kept : (tickets : List TicketConf) (place : ℕ) → replicate (length tickets) None ≡ all_kept tickets place []
none_kept [] place = refl
none_kept (t ∷ ts) place = ap (λ (ks : List (Option Record)). None ∷ ks) (none_kept ts place)

pub started_first : (config : ConfigSays) (place : ℕ) (tickets : List TicketConf) → tickets ≡ config.tickets → (daemon : Daemon)
    → daemon.kept.items ≡ replicate (length tickets) None → node_config daemon.node ≡ node_in config place
    → (read : List (Option Record)) → read ≡ daemon.kept.items → state_of daemon.node ≡ opened (node_in config place) read 0
    → HasStarted config place (all_kept config.tickets place []) 0 daemon
started_first config place tickets same daemon kept node read is state =
    let none : daemon.kept.items ≡ all_kept config.tickets place [] =
    kept ∙ ap (λ (ts : List TicketConf). replicate (length ts) None) same ∙ none_kept config.tickets place in
    record {
      node = node;
      state = state ∙ ap (λ (ks : List (Option Record)). opened (node_in config place) ks 0) (is ∙ none);
      records = none;
    }
