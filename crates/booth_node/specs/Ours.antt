-- The setup that all tickets of a node share.
use Rattle.std.specs.Prelude.{◌≡◌, List, length, position, Some}
use Rattle.booth_base.specs.declared.address.MemberId.{MemberId}
use Rattle.booth_conf.specs.Config.{has_id}
use Rattle.booth_conf.specs.declared.members.Member.{Member}
use Rattle.booth_ticket.specs.Ticket.{TicketState}

-- The ticket is set up for these members, at the place of this member.
pub record IsOurs (me : MemberId) (members : List Member) (ticket : TicketState) : Type 0 where
  pub all_members : ticket.setup.members ≡ length members
  pub own : position (has_id me) members ≡ Some ticket.setup.place
