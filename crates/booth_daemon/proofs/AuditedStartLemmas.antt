-- What an audit accepts of a start is what the premise of worlds accepts.
use Rattle.std.specs.Prelude.{Bool, Option, position, unwrap_or, ◌↔◌}
use Rattle.std.proofs.Common.{◌≡◌, ◌<◌, ◌∙◌, ℕ, List, [], ◌∷◌, ap, subst, sym}
use Rattle.booth_audit.specs.Faults.{ReadsKept as MayBeAudited}
use Rattle.booth_base.specs.declared.address.MemberId.{MemberId}
use Rattle.booth_conf.specs.Config.{has_id}
use Rattle.booth_conf.specs.declared.members.Member.{Member}
use Rattle.booth_node.specs.declared.node_config.NodeConfig.{NodeConfig}
use Rattle.booth_node.specs.AttributeRequests.{is_at_site}
use Rattle.booth_node.specs.Opening.{is_site_at, own_place}
use Rattle.booth_node.specs.Records.{MayRead, may_after_all, record_at}
use Rattle.booth_node.specs.Session.{IsCut, Makes, SessionEntry, Starts}
use Rattle.booth_node.specs.World.{HasConfiguration, HasForm, IsNodeOf, ReadsKept, World, WorldEntry}
use Rattle.booth_node.specs.World.{begins_with, entries_of, id_at, members_of}
use Rattle.booth_rec.specs.declared.record.Record.{Record}
use Rattle.booth_rec.specs.Record.{no_record}
use Rattle.booth_world.proofs.Configured.{ids_apart}
use Rattle.booth_daemon.specs.AuditedStarts.{AuditsAcceptAsWorlds}

module _ (w : World) (form : HasForm w) (member : ℕ) (below : member < members_of w) where
  place_so : (node : NodeConfig) → IsNodeOf w member node → own_place node ≡ member
  place_so node is =
      ap (λ (o : Option ℕ). unwrap_or o 0)
      (ap (λ (id : MemberId). position (has_id id) node.config.members) is.me
      ∙ ap (λ (members : List Member). position (has_id (id_at w member)) members) is.members
      ∙ ids_apart w form member below)

  -- a member is a site by its own configuration exactly if it is one of the world
  site_so : (node : NodeConfig) → IsNodeOf w member node → is_at_site node ≡ is_site_at w.members member
  site_so node is =
      ap (is_site_at node.config.members) (place_so node is)
      ∙ ap (λ (members : List Member). is_site_at members member) is.members

module _ (w : World) (before : List WorldEntry) (entry : WorldEntry) (form : HasForm w)
    (below : entry.member < members_of w) (bare : (name : List ℕ) → begins_with w entry.member name ≡ no_record) where
  accepts : (what : SessionEntry) → HasConfiguration w entry what
      → MayBeAudited (entries_of entry.member before) what ↔ ReadsKept w before entry what
  accepts (Starts node reading records) is =
      let site = site_so w form entry.member below node is in (
        (λ reads place conf at.
            subst (λ (r : Record).
            MayRead (is_site_at w.members entry.member)
            (may_after_all conf.name (r ∷ []) (entries_of entry.member before)) (record_at records place))
            (sym (bare conf.name))
            (subst (λ (b : Bool).
            MayRead b (may_after_all conf.name (no_record ∷ []) (entries_of entry.member before))
            (record_at records place)) site (reads place conf at))),
        (λ reads place conf at.
            subst (λ (b : Bool).
            MayRead b (may_after_all conf.name (no_record ∷ []) (entries_of entry.member before))
            (record_at records place)) (sym site)
            (subst (λ (r : Record).
            MayRead (is_site_at w.members entry.member)
            (may_after_all conf.name (r ∷ []) (entries_of entry.member before)) (record_at records place))
            (bare conf.name) (reads place conf at))),
      )
  accepts (Makes call) is = ((λ reads. tt), (λ reads. tt))
  accepts (IsCut call) is = ((λ reads. tt), (λ reads. tt))

pub audits_accept_as_worlds : AuditsAcceptAsWorlds
audits_accept_as_worlds w before entry form below bare is = accepts w before entry form below bare entry.what is
