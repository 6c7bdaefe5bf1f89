-- Which ticket of a configuration can be followed at which site, and with which margins.
use Rattle.std.specs.Prelude.{◌≡◌, ◌&&◌, ℕ, Bool, true, false, List, position, slice_get, is_some, Option, Some, None}
use Rattle.booth_base.specs.declared.address.Address.{Address}
use Rattle.booth_conf.specs.Config.{ConfigSays, is_site}
use Rattle.booth_conf.specs.Lookups.{is_called}
use Rattle.booth_conf.specs.Rules.{is_at}
use Rattle.booth_conf.specs.declared.members.Member.{Member}
use Rattle.booth_conf.specs.declared.tickets.TicketConf.{TicketConf}
use Rattle.booth_follow_rule.specs.declared.margins.MarginFault.{MarginFault}
use Rattle.booth_follow_rule.specs.declared.margins.MarginFault.TheVariants as margin_faults
use Rattle.booth_follow_rule.specs.declared.margins.Margins.{Margins}
use Rattle.booth_follow_rule.specs.Margins.{Fits, HasFault as HasMarginFault, margins_of}
use Rattle.booth_following.specs.declared.choosing.FollowFault.{FollowFault}
use Rattle.booth_following.specs.declared.choosing.FollowFault.TheVariants as faults

abbrev pub is_site_at : Address → Member → Bool
is_site_at site m = is_site m && is_at site m

-- the place of the site with this address
abbrev pub site_at : ConfigSays → Address → Option ℕ
site_at config site = position (is_site_at site) config.members

abbrev pub has_site : ConfigSays → Address → Bool
has_site config site = is_some (site_at config site)

abbrev pub ticket_at : List TicketConf → Option ℕ → Option TicketConf
ticket_at tickets (Some place) = slice_get tickets place
ticket_at tickets None = None

-- the ticket of this name
abbrev pub ticket_called : ConfigSays → List ℕ → Option TicketConf
ticket_called config ticket = ticket_at config.tickets (position (is_called ticket) config.tickets)

abbrev pub fault_of : MarginFault → FollowFault
fault_of margin_faults.MarginTooLong = faults.MarginTooLong
fault_of margin_faults.KillTooLong = faults.KillTooLong
fault_of margin_faults.KillTooShort = faults.KillTooShort

abbrev pub margins_in : TicketConf → Option ℕ → Option ℕ → Margins
margins_in conf margin kill = margins_of conf.times.expire conf.times.renewal margin kill

-- The ticket exists and is automatic, a site has the address, and the margins fit.
pub record IsChosen (config : ConfigSays) (ticket : List ℕ) (site : Address) (margin kill : Option ℕ) (m : Margins)
    : Type 0 where
  pub conf : TicketConf
  pub there : ticket_called config ticket ≡ Some conf
  pub at : has_site config site ≡ true
  pub automatic : conf.manual ≡ false
  pub is : m ≡ margins_in conf margin kill
  pub fits : Fits conf.times.expire conf.times.renewal m

-- the margins for an automatic ticket at a site have this fault
pub record IsUnfit (config : ConfigSays) (ticket : List ℕ) (site : Address) (margin kill : Option ℕ)
    (fault : MarginFault) : Type 0 where
  pub conf : TicketConf
  pub there : ticket_called config ticket ≡ Some conf
  pub at : has_site config site ≡ true
  pub automatic : conf.manual ≡ false
  pub has : HasMarginFault conf.times.expire conf.times.renewal (margins_in conf margin kill) fault

pub record IsByHand (config : ConfigSays) (ticket : List ℕ) (site : Address) : Type 0 where
  pub conf : TicketConf
  pub there : ticket_called config ticket ≡ Some conf
  pub at : has_site config site ≡ true
  pub by_hand : conf.manual ≡ true

-- the first reason why it cannot be followed
abbrev pub HasFault : ConfigSays → List ℕ → Address → Option ℕ → Option ℕ → FollowFault → Type 0
HasFault config ticket site margin kill faults.NoTicket = ticket_called config ticket ≡ None
HasFault config ticket site margin kill faults.NotSite =
    (is_some (ticket_called config ticket) ≡ true) × (has_site config site ≡ false)
HasFault config ticket site margin kill faults.IsManual = IsByHand config ticket site
HasFault config ticket site margin kill faults.MarginTooLong =
    IsUnfit config ticket site margin kill margin_faults.MarginTooLong
HasFault config ticket site margin kill faults.KillTooLong =
    IsUnfit config ticket site margin kill margin_faults.KillTooLong
HasFault config ticket site margin kill faults.KillTooShort =
    IsUnfit config ticket site margin kill margin_faults.KillTooShort
