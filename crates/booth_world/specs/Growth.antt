-- Shadows grow: the shadow of a later moment continues the shadow of an earlier one.
use Rattle.std.specs.Prelude.{◌≡◌, ◌⊎◌, ◌++◌, Bool, true, List, [], ◌∷◌}
use Rattle.booth_conf.specs.declared.tickets.TicketConf.{TicketConf}
use Rattle.booth_node.specs.Held.{Moment, IsAutomatic}
use Rattle.booth_node.specs.World.{WorldEntry, World, stand_after, IsSecondWorld, IsUntimedWorld, RecordsGoOn}
use Rattle.booth_world.specs.Clusters.{cluster_going}
use Rattle.booth_world.specs.Facts.{Release, Has}
use Rattle.booth_world.specs.Revocations.{AtSome}
use Rattle.booth_world.specs.Shadows.{GivesTermBack, HasShadow}
use Rattle.booth_world.specs.Steps.{WorldStep, AreSecond, world_of}
use Rattle.booth_world.specs.Worlds.{IsLater}

-- The shadows of two moments. The steps of the later shadow continue the steps of the earlier one. Each new release
-- in them is the release of an entry between the two moments. If all sessions of the world are of version 2, each
-- start among the steps is of version 2.
pub record HasLongerShadow (w : World) (going : Bool) (ticket : TicketConf) (early late : Moment w)
    (between : List WorldEntry) : Type 0 where
  pub first : HasShadow w going ticket early
  pub second : HasShadow w going ticket late
  pub more : List WorldStep
  pub goes_on : second.steps ≡ first.steps ++ more
  pub released : (release : Release) → Has (world_of (cluster_going going w ticket) second.steps).facts.releases release
      → Has (world_of (cluster_going going w ticket) first.steps).facts.releases release
      ⊎ AtSome early.before between
      (λ before entry.
      GivesTermBack w ticket.name entry.member entry.time (stand_after entry.member (before ++ entry ∷ [])) entry.what
      release)
  pub all_second : IsSecondWorld w → AreSecond second.steps

abbrev pub ShadowsGrow : Type 0
ShadowsGrow =
    (w : World) → IsUntimedWorld w → (going : Bool) → (going ≡ true → RecordsGoOn w)
    → (ticket : TicketConf) → IsAutomatic w ticket
    → (early late : Moment w) (between : List WorldEntry) → IsLater w early late between
    → HasLongerShadow w going ticket early late between
