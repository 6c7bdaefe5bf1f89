-- The node of the member whose journal is replayed.
use Rattle.std.specs.Prelude.{true, Option}
use Rattle.std.proofs.Common.{◌≡◌, ℕ, ap, sym, ◌∙◌}
use Rattle.booth_base.specs.declared.address.MemberId.{MemberId}
use Rattle.booth_conf.specs.Config.{ConfigSays}
use Rattle.booth_keys.specs.declared.ring.Ring.{Ring}
use Rattle.booth_node.specs.declared.node_config.NodeConfig.{NodeConfig}
use Rattle.booth_audit.specs.Noted.{MemberSays}

abbrev node_so : ConfigSays → Option Ring → MemberId → NodeConfig
node_so config ring me = record { config = config; ring = ring; me = me; second = true }

-- made of copies of its parts
pub same_node : (member : MemberSays) (config own_config : ConfigSays) (ring own_ring : Option Ring) (me : MemberId)
    (place : ℕ) → ◌≡◌ {A = MemberSays} (record { node = node_so own_config own_ring me; place = place }) member
    → config ≡ own_config → ring ≡ member.node.ring
    → node_so config ring me ≡ member.node
same_node member config own_config ring own_ring me place view same_config same_ring =
    let is : node_so own_config own_ring me ≡ member.node = ap (λ (m : MemberSays). m.node) view in
    ap (λ (c : ConfigSays). node_so c ring me) same_config
    ∙ ap (λ (r : Option Ring). node_so own_config r me) (same_ring ∙ sym (ap (λ (n : NodeConfig). n.ring) is))
    ∙ is
