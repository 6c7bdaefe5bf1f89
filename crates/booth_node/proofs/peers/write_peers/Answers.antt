use Rattle.std.specs.List.{flat_map, zip}
use Rattle.std.proofs.Common.{◌≡◌, ◌++◌, ◌⊎◌, ℕ, inl, inr}
use Rattle.booth_node.specs.Replies.{drops_line, other_line}
use Rattle.booth_node.proofs.PeerLemmas.{nothing_left}
use Rattle.booth_node.proofs.peers.write_peers.Goals as goal

-- which of two lists is over
over : {A B : Type 0} {P : A → Type 0} {Q : B → Type 0} {m n : ℕ} →
    ((x : A) × (m ≡ 0 × P x)) ⊎ ((y : B) × (n ≡ 0 × Q y)) → (m ≡ 0) ⊎ (n ≡ 0)
over (inl h) = inl h.1.0
over (inr h) = inr h.1.0

pub returns : goal.returns
returns c =
    nothing_left (other_line c.args.node.now) c.loop-member.member-iterator.a.rest.now
    c.loop-member.member-iterator.b.rest.now c.loop-member.text
    (drops_line c.args.common.now.drops ++ flat_map (other_line c.args.node.now)
    (zip c.args.node.now.config.members c.args.common.now.members))
    (over c.in-None.ensures.steps) c.loop-member.invariant.bytes
