-- The tickets that start from their records, one after the other.
use Rattle.std.proofs.Common.{◌≡◌, ◌<◌, ℕ, zero, suc, ◌+◌, List, [], ◌∷◌, ◌++◌, length, take, get_or, refl, sym, ap, ◌∙◌, subst, arith}
use Rattle.std.specs.Prelude.{Option, Some, None, IsSome, position, unwrap_or}
use Rattle.std.specs.List.{All}
use Rattle.std.proofs.lemmas.List.{length-append}
use Rattle.std.proofs.lemmas.List.Elements.{All-append}
use Rattle.booth_conf.specs.Config.{has_id}
use Rattle.booth_wire.specs.declared.message.Setup.{Setup}
use Rattle.booth_node.specs.Ours.{IsOurs}
use Rattle.booth_conf.specs.declared.tickets.TicketConf.{TicketConf}
use Rattle.booth_rec.specs.declared.record.Record.{Record}
use Rattle.booth_rec.specs.Record.{record_or_none}
use Rattle.booth_ticket.specs.Ticket.{TicketState}
use Rattle.booth_node.specs.declared.node_config.NodeConfig.{NodeConfig}
use Rattle.booth_node.specs.Opening.{opened_by, setup_of, started_from}

-- one ticket more
pub started_more : (node : NodeConfig) (now first i : ℕ) (tickets : List TicketConf)
    (records : List (Option Record))
    (t : TicketConf) (r : Option Record) → i < length tickets → i < length records
    → started_from node now first (take (i + 1) tickets) (take (i + 1) records)
    ≡ started_from node now first (take i tickets) (take i records)
    ++ opened_by (get_or tickets i t) (setup_of node (first + i) (get_or tickets i t)) (record_or_none (get_or records i r)) now ∷ []
started_more node now first i [] records t r below below_records = absurd (omega (arith, below))
started_more node now first i (x ∷ tickets) [] t r below below_records = absurd (omega (arith, below_records))
started_more node now first zero (x ∷ tickets) (y ∷ records) t r below below_records =
    ap (λ (n : ℕ). opened_by x (setup_of node n x) (record_or_none y) now ∷ []) (omega arith)
started_more node now first (suc i) (x ∷ tickets) (y ∷ records) t r below below_records =
    let one : suc i + 1 ≡ suc (i + 1) = omega arith in
    let at : first + 1 + i ≡ first + suc i = omega arith in
    let here : TicketState = opened_by x (setup_of node first x) (record_or_none y) now in
    ap (λ (n : ℕ). started_from node now first (take n (x ∷ tickets)) (take n (y ∷ records))) one
    ∙ ap (λ (ts : List TicketState). here ∷ ts)
    (started_more node now (first + 1) i tickets records t r (omega (arith, below))
    (omega (arith, below_records)))
    ∙ ap (λ (n : ℕ). here ∷ started_from node now (first + 1) (take i tickets) (take i records)
    ++ opened_by (get_or tickets i t) (setup_of node n (get_or tickets i t)) (record_or_none (get_or records i r)) now ∷ []) at

pub start_next : (node : NodeConfig) (now i : ℕ) (confs : List TicketConf) (records : List (Option Record))
    (t : TicketConf)
    (r : Option Record) (items items' : List TicketState) (new : TicketState) → i < length confs
    → i < length records
    → items ≡ started_from node now 0 (take i confs) (take i records) → items' ≡ items ++ new ∷ []
    → new ≡ opened_by (get_or confs i t) (setup_of node i (get_or confs i t)) (record_or_none (get_or records i r)) now
    → items' ≡ started_from node now 0 (take (i + 1) confs) (take (i + 1) records)
start_next node now i confs records t r items items' new below below_records so_far longer is =
    longer
    ∙ ap (λ (ts : List TicketState). ts ++ new ∷ []) so_far
    ∙ ap (λ (s : TicketState). started_from node now 0 (take i confs) (take i records) ++ s ∷ []) is
    ∙ ap (λ (n : ℕ). started_from node now 0 (take i confs) (take i records)
    ++ opened_by (get_or confs i t) (setup_of node n (get_or confs i t)) (record_or_none (get_or records i r)) now ∷ [])
    (omega arith)
    ∙ sym (started_more node now 0 i confs records t r below below_records)

pub opened_is : (node : NodeConfig) (now i : ℕ) (conf conf' : TicketConf) (r r' : Option Record) (s : Setup)
    (new : TicketState)
    → new ≡ opened_by conf s (record_or_none r) now → s ≡ setup_of node i conf → conf ≡ conf' → r ≡ r'
    → new ≡ opened_by conf' (setup_of node i conf') (record_or_none r') now
opened_is node now i conf conf' r r' s new is setup same same_record =
    is
    ∙ ap (λ (x : Setup). opened_by conf x (record_or_none r) now) setup
    ∙ ap (λ (x : TicketConf). opened_by x (setup_of node i x) (record_or_none r) now) same
    ∙ ap (λ (x : Option Record). opened_by conf' (setup_of node i conf') (record_or_none x) now) same_record

some_place : (o : Option ℕ) → IsSome o → o ≡ Some (unwrap_or o 0)
some_place None some = absurd cc
some_place (Some place) some = refl

pub ours_one : (node : NodeConfig) (now i : ℕ) (conf : TicketConf) (rec : Record) (new : TicketState)
    → IsSome (position (has_id node.me) node.config.members) → new ≡ opened_by conf (setup_of node i conf) rec now
    → IsOurs node.me node.config.members new
ours_one node now i conf rec new some is =
    subst (λ (t : TicketState). IsOurs node.me node.config.members t) (sym is)
    (record { all_members = refl; own = some_place (position (has_id node.me) node.config.members) some })

pub all_longer : {X : Type 0} (P : X → Type 0) (xs xs' : List X) (x : X) → xs' ≡ xs ++ x ∷ [] → All P xs
    → P x → All P xs'
all_longer {X} P xs xs' x longer all one =
    subst (λ (ys : List X). All P ys) (sym longer) (All-append P xs (x ∷ []) all only)
  where
    only : All P (x ∷ [])
    only zero d below = one
    only (suc k) d below = absurd (omega (arith, below))

pub one_longer : {X : Type 0} (xs xs' : List X) (x : X) (i : ℕ) → xs' ≡ xs ++ x ∷ [] → length xs ≡ i
    → length xs' ≡ i + 1
one_longer {X} xs xs' x i longer is =
    ap (λ (ys : List X). length ys) longer ∙ length-append xs (x ∷ []) ∙ ap (λ (n : ℕ). n + 1) is
