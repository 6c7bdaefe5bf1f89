-- The place of a name.
use Rattle.std.proofs.Common.{◌≡◌, ◌<◌, ◌∙◌, ℕ, zero, suc, arith, get_or, List, [], ◌∷◌, map, refl, ap, cond, Bool, not, ◌+◌, length}
use Rattle.std.specs.Prelude.{bytes_eq}
use Rattle.std.specs.List.{position, prefix_len}
use Rattle.std.proofs.lemmas.List.{length-map}
use Rattle.booth_conf.specs.Lookups.{ticket_name, is_called, weights_at}
use Rattle.booth_conf.specs.declared.tickets.TicketConf.{TicketConf}

prefix-map : (p : List ℕ → Bool) (ts : List TicketConf) →
    prefix_len p (map ticket_name ts) ≡ prefix_len (λ t. p t.name) ts
prefix-map p [] = refl
prefix-map p (t ∷ ts) = ap (λ n. cond (p t.name) (1 + n) 0) (prefix-map p ts)

pub position_named : (name : List ℕ) (ts : List TicketConf) →
    position (bytes_eq name) (map ticket_name ts) ≡ position (is_called name) ts
position_named name ts =
    rw (prefix-map (λ n. not (bytes_eq name n)) ts, length-map ts ticket_name) refl

-- the weights of the ticket that is read at a place
pub weights_here : (ts : List TicketConf) (i : ℕ) (t : TicketConf) (ws : List ℕ) → i < length ts →
    t ≡ get_or ts i t → ws ≡ t.weights.items → ws ≡ weights_at ts i
weights_here [] i t ws l e w = absurd (omega arith)
weights_here (x ∷ ts) zero t ws l e w = w ∙ ap (λ (y : TicketConf). y.weights.items) e
weights_here (x ∷ ts) (suc i) t ws l e w = weights_here ts i t ws (omega arith) e w
