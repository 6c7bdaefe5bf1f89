-- The same message said to several members.
use Rattle.std.proofs.Common.{◌≡◌, ℕ, ◌+◌, ◌≤◌, List, [], ◌∷◌, length, take, drop, get_or, sym, ◌∙◌, subst, arith}
use Rattle.std.proofs.lemmas.List.{take_all}
use Rattle.booth_wire.specs.declared.message.Head.{Head}
use Rattle.booth_wire.specs.declared.message.TicketPart.{TicketPart}
use Rattle.booth_wire.specs.Spelling.{Fits}
use Rattle.booth_auth.specs.Sealed.{sealed}
use Rattle.booth_ticket.specs.declared.hands.To.TheVariants.{Member}
use Rattle.booth_ticket.specs.Acts.{Act, Dids, said, said_to_each}
use Rattle.booth_node.specs.declared.node_config.NodeConfig.{NodeConfig}
use Rattle.booth_node.specs.Reaction.{sent_as}

pub all_said : {X : Type 0} (did : X → Act → X → Type 0) (places : List ℕ) (m i d : ℕ) (head : Head)
    (part : TicketPart) (a b c : X)
    → 1 ≤ length places → length places ≤ m + 1 → did a (said (Member (get_or places 0 d)) head part) b
    → Dids did b (said_to_each (take i (take m (drop 1 places))) head part) c
    → length (take m (drop 1 places)) ≤ i
    → Dids did a (said_to_each places head part) c
all_said did [] m i d head part a b c some most first others whole = absurd (omega (arith, some))
all_said did (place ∷ places) m i d head part a b c some most first others whole = (
  b,
  first,
  subst (λ (ps : List ℕ). Dids did b (said_to_each ps head part) c)
      (take_all i (take m places) whole ∙ take_all m places (omega (arith, most))) others,
)

-- what stands in the frame is still the message, at a node that is the same
pub still_written : (node node' : NodeConfig) (now now' : ℕ) (head : Head) (part : TicketPart)
    (frame frame' : List ℕ)
    → frame' ≡ frame → node' ≡ node → now' ≡ now
    → frame ≡ sealed node.ring (sent_as node now head part)
    → frame' ≡ sealed node'.ring (sent_as node' now' head part)
still_written node node' now now' head part frame frame' same_frame same_node same_moment written =
    same_frame ∙ subst (λ (n : NodeConfig). frame ≡ sealed n.ring (sent_as n now' head part))
    (sym same_node)
    (subst (λ (m : ℕ). frame ≡ sealed node.ring (sent_as node m head part)) (sym same_moment) written)

pub still_fits : (node node' : NodeConfig) (now now' : ℕ) (head : Head) (part : TicketPart)
    → node' ≡ node → now' ≡ now → Fits (sent_as node now head part)
    → Fits (sent_as node' now' head part)
still_fits node node' now now' head part same_node same_moment fits =
    subst (λ (n : NodeConfig). Fits (sent_as n now' head part)) (sym same_node)
    (subst (λ (m : ℕ). Fits (sent_as node m head part)) (sym same_moment) fits)
