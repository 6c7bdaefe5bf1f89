-- The tickets' setups are those of the configuration, and a ticket that acts keeps its own.
use Rattle.std.proofs.Common.{◌≡◌, ℕ, zero, suc, ◌+◌, List, [], ◌∷◌, length, map, slice_get, refl, sym, ap, ◌∙◌, arith}
use Rattle.std.specs.Prelude.{Option, Some}
use Rattle.std.proofs.Math.Seq.{map-set_same}
use Rattle.std.proofs.lemmas.Option.{get_or_from_slice_get}
use Rattle.std.proofs.lemmas.List.{length-map, length-set}
use Rattle.booth_conf.specs.declared.tickets.TicketConf.{TicketConf}
use Rattle.booth_rec.specs.declared.record.Record.{Record}
use Rattle.booth_wire.specs.declared.message.Setup.{Setup}
use Rattle.booth_ticket.specs.Ticket.{TicketState, TicketLeft}
use Rattle.booth_node.specs.declared.node_config.NodeConfig.{NodeConfig}
use Rattle.booth_node.specs.declared.state.Common.{Common}
use Rattle.booth_node.specs.Opening.{AreSetUp, setup_of, setups_from, started_from}
use Rattle.booth_node.specs.State.{State, with_ticket}

-- ---- setups

pub started_set_up : (node : NodeConfig) (now index : ℕ) (confs : List TicketConf)
    (records : List (Option Record))
    → length records ≡ length confs
    → map (λ (t : TicketState). t.setup) (started_from node now index confs records) ≡ setups_from node
    index confs
started_set_up node now index [] [] same = refl
started_set_up node now index [] (r ∷ records) same = absurd (omega (arith, same))
started_set_up node now index (c ∷ confs) [] same = absurd (omega (arith, same))
started_set_up node now index (c ∷ confs) (r ∷ records) same =
    ap (λ (l : List Setup). setup_of node index c ∷ l)
    (started_set_up node now (index + 1) confs records (omega (arith, same)))

set_up_from : (node : NodeConfig) (index : ℕ) (confs : List TicketConf) (tickets : List TicketState)
    (place : ℕ) (t : TicketState)
    → map (λ (t : TicketState). t.setup) tickets ≡ setups_from node index confs
    → slice_get tickets place ≡ Some t
    → (conf : TicketConf) × (slice_get confs place ≡ Some conf)
    × (t.setup ≡ setup_of node (index + place) conf)
set_up_from node index confs [] place t same there = absurd cc
set_up_from node index [] (x ∷ tickets) place t same there = absurd cc
set_up_from node index (c ∷ confs) (x ∷ tickets) zero t same there =
    let here : x ≡ t = cc in
    let is : x.setup ≡ setup_of node index c = cc in (
      c,
      refl,
      ap (λ (t : TicketState). t.setup) (sym here) ∙ is
          ∙ ap (λ (n : ℕ). setup_of node n c) (omega arith),
    )
set_up_from node index (c ∷ confs) (x ∷ tickets) (suc place) t same there =
    let rest : map (λ (t : TicketState). t.setup) tickets ≡ setups_from node (index + 1) confs = cc in
    let found = set_up_from node (index + 1) confs tickets place t rest there in
    (found.0, found.1, found.2 ∙ ap (λ (n : ℕ). setup_of node n found.0) (omega arith))

-- the setup is that of the ticket at a place of the configuration
abbrev pub IsSetUpAt : NodeConfig → ℕ → Setup → Type 0
IsSetUpAt node place setup =
    (conf : TicketConf) × (slice_get node.config.tickets place ≡ Some conf) × (setup ≡ setup_of node place conf)

-- the setup of the ticket at a place is that of the configuration
pub set_up_at : (node : NodeConfig) (state : State) (place : ℕ) (t : TicketState) → AreSetUp node state
    → slice_get state.tickets place ≡ Some t → IsSetUpAt node place t.setup
set_up_at node state place t same there =
    let found = set_up_from node 0 node.config.tickets state.tickets place t same.0 there in
    (found.0, found.1, found.2 ∙ ap (λ (n : ℕ). setup_of node n found.0) (omega arith))

length_setups : (node : NodeConfig) (index : ℕ) (confs : List TicketConf)
    → length (setups_from node index confs) ≡ length confs
length_setups node index [] = refl
length_setups node index (c ∷ confs) = ap suc (length_setups node (index + 1) confs)

-- there are as many tickets as the configuration has
pub as_many : (node : NodeConfig) (state : State) → AreSetUp node state
    → length state.tickets ≡ length node.config.tickets
as_many node state same =
    sym (length-map state.tickets (λ (t : TicketState). t.setup)) ∙ ap (λ (l : List Setup). length l) same.0
    ∙ length_setups node 0 node.config.tickets

pub set_up_kept : (node : NodeConfig) (state : State) (place : ℕ) (before : TicketState) (after : TicketLeft)
    (common : Common)
    → AreSetUp node state → slice_get state.tickets place ≡ Some before → after.ticket.setup ≡ before.setup
    → AreSetUp node (with_ticket state place common after)
set_up_kept node state place before after common same there kept = (
  map-set_same (λ (t : TicketState). t.setup) state.tickets place after.ticket before
      (kept ∙ ap (λ (t : TicketState). t.setup)
      (sym (get_or_from_slice_get state.tickets place before before there)))
      ∙ same.0,
  length-set state.waiters place after.waiters ∙ same.1,
)
