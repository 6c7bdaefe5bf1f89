-- A member that names itself as a ticket's holder, with a claim that has not ended.
use Rattle.std.specs.Prelude.{◌≡◌, ℕ}
use Rattle.booth_conf.specs.declared.tickets.TicketConf.{TicketConf}
use Rattle.booth_node.specs.Held.{Moment, IsAutomatic}
use Rattle.booth_node.specs.World.{World, WorldEntry}
use Rattle.booth_world.specs.Tellers.{Claim, IsLive, IsNext, Tells}

-- At a moment with this true time, the next entry is one by which the member names itself as the holder of an
-- automatic ticket. The claim has not ended at the time that the member's clock reads then.
pub record TellsAt (w : World) (ticket : TicketConf) (member time : ℕ) (claim : Claim) : Type 0 where
  pub automatic : IsAutomatic w ticket
  pub moment : Moment w
  pub at : moment.time ≡ time
  pub entry : WorldEntry
  pub next : IsNext moment entry
  pub own : entry.member ≡ member
  pub tells : Tells w ticket entry claim
  pub live : IsLive w member moment claim
