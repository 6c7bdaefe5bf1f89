-- The parts of small worlds of version 1, and the smallest world, in which a member that is alone holds its ticket.
use Rattle.std.specs.Prelude.{ℕ, ◌/◌, ◌%◌, ◌*◌, false, true, List, [], ◌∷◌, codes, Option, Some, None, Ok}
use Rattle.std.specs.List.{range_with_len}
use Rattle.booth_base.specs.declared.address.Address.TheVariants.{V4}
use Rattle.booth_base.specs.declared.address.MemberId.{MemberId}
use Rattle.booth_base.specs.declared.address.Peer.{Peer}
use Rattle.booth_base.specs.declared.address.TheConstants.{NO_ONE}
use Rattle.booth_conf.specs.Config.{ConfigSays}
use Rattle.booth_keys.specs.declared.ring.Hash.TheVariants.{Sha1}
use Rattle.booth_conf.specs.declared.members.Member.{Member}
use Rattle.booth_conf.specs.declared.tickets.TicketConf.{TicketConf}
use Rattle.booth_rec.specs.declared.record.Record.{Record}
use Rattle.booth_rec.specs.Record.{first_plain}
use Rattle.booth_wire.specs.declared.codes.reasons.TheConstants.{ADMN}
use Rattle.booth_wire.specs.declared.codes.results.TheConstants.{ASYN}
use Rattle.booth_wire.specs.declared.command.Cmd.{Cmd}
use Rattle.booth_wire.specs.declared.command.Cmd.TheVariants.{CGnt, CRvk, RVot, VtFr, UpdE, Stat, RGnt}
use Rattle.booth_wire.specs.PlainMessage.{PlainMessage, Ticket}
use Rattle.booth_auth.specs.Sealed.{sealed}
use Rattle.booth_host.specs.declared.host.Arrival.TheVariants as arrivals
use Rattle.booth_host.specs.declared.entry.Entry.TheVariants as calls
use Rattle.booth_node.specs.Session.{SessionEntry, Starts, Makes, IsCut, CutSend, CutKeep}
use Rattle.booth_node.specs.World.{World, WorldEntry, from_nothing}

-- ---- a configuration

-- The members 192.0.2.1, 192.0.2.2 and 192.0.2.3. The id of each is the CRC-32 of its address.
abbrev pub site_one : Member
site_one = record { site = true; address = V4 (192 ∷ 0 ∷ 2 ∷ 1 ∷ []); id = record { 0 = 305685262 } }

abbrev pub site_two : Member
site_two = record { site = true; address = V4 (192 ∷ 0 ∷ 2 ∷ 2 ∷ []); id = record { 0 = 2335257268 } }

abbrev pub arbitrator : Member
arbitrator = record { site = false; address = V4 (192 ∷ 0 ∷ 2 ∷ 3 ∷ []); id = record { 0 = 4231397922 } }

-- A ticket with a lease of six seconds, the shortest that a configuration allows.
abbrev pub web : TicketConf
web = record {
  name = codes "web";
  manual = false;
  times = record { expire = 6000; after = 0; timeout = 1000; retries = 3; renewal = 5000 };
  weights = record { items = [] };
  handler = None;
  prereqs = [];
  steady = false;
}

abbrev pub two_sites : List Member
two_sites = site_one ∷ site_two ∷ []

abbrev pub three_members : List Member
three_members = site_one ∷ site_two ∷ arbitrator ∷ []

abbrev pub config_with : List Member → ConfigSays
config_with members = record {
  port = 9929;
  authfile = None;
  skew = 600;
  authfile_old = None;
  auth_hash = Sha1;
  extras = [];
  members = members;
  tickets = web ∷ [];
}

-- ---- clocks and worlds

-- The readings of an exact clock for a minute.
abbrev pub exact_clock : List ℕ
exact_clock = range_with_len 0 60000

-- The world of these members, without keys, with clocks of a minute.
abbrev pub world_by : (ℕ → List ℕ) → List Member → List WorldEntry → World
world_by clock members entries = record {
  members = members;
  ticks = 1;
  span = 60000;
  clock = clock;
  begins = λ m. from_nothing;
  entries = entries;
}

abbrev pub world_with : List Member → List WorldEntry → World
world_with = world_by (λ m. exact_clock)

-- ---- entries

-- The member with this index does this at a true time.
abbrev pub at : ℕ → ℕ → SessionEntry → WorldEntry
at time place what = record { member = place; time = time; what = what }

-- A member starts in version 1, with one record or none.
abbrev pub starts : List Member → Member → ℕ → Option Record → SessionEntry
starts members member reading kept =
    Starts (record { config = config_with members; ring = None; me = member.id; second = false }) reading (kept ∷ [])

-- A turn begins with a datagram, and then the clock is read.
abbrev pub hears : Peer → PlainMessage → SessionEntry
hears from message = Makes (calls.Next 100 (Ok (arrivals.Datagram from)) (sealed None message))

abbrev pub reads : ℕ → SessionEntry
reads reading = Makes (calls.Now reading)

abbrev pub keeps : Record → SessionEntry
keeps kept = Makes (calls.Keep (codes "web") kept (Ok tt))

abbrev pub sends : Peer → PlainMessage → SessionEntry
sends to message = Makes (calls.Send to (sealed None message) (Ok tt))

-- The member is interrupted while it writes.
abbrev pub is_cut_keeping : Record → SessionEntry
is_cut_keeping tried = IsCut (CutKeep (codes "web") tried)

-- The member is interrupted while it sends: the datagram may be on its way.
abbrev pub is_cut_sending : Peer → PlainMessage → SessionEntry
is_cut_sending to message = IsCut (CutSend to (sealed None message))

-- The record of a term without a lease, and the record of a lease.
abbrev pub term : ℕ → Record
term number = first_plain number None

abbrev pub lease : ℕ → ℕ → Record
lease number until = first_plain number (Some (record { term = number; until = until }))

-- ---- messages

abbrev pub client : Peer
client = record { address = V4 (198 ∷ 51 ∷ 100 ∷ 7 ∷ []); port = 40000 }

abbrev pub port_of : Member → Peer
port_of member = record { address = member.address; port = 9929 }

-- A message about the ticket: the sender, the time by its own clock, a request number, a reason, a result, a leader
-- and a term.
abbrev pub says : MemberId → ℕ → Cmd → ℕ → ℕ → ℕ → MemberId → ℕ → ℕ → PlainMessage
says from reading cmd request reason result leader number seconds = record {
  head = record {
    auth = false;
    secs = reading / 1000;
    usecs = reading % 1000 * 1000;
    from = from;
    cmd = cmd;
    request = request;
    options = 0;
    reason = reason;
    result = result;
  };
  content = Ticket (record { ticket = codes "web"; leader = leader; term = number; valid_for = seconds });
}

-- A client requests a grant of the ticket, or a revocation.
abbrev pub grant_it : PlainMessage
grant_it = says (record { 0 = 0 }) 0 CGnt 1 0 0 NO_ONE 0 0

abbrev pub revoke_it : PlainMessage
revoke_it = says (record { 0 = 0 }) 0 CRvk 2 0 0 NO_ONE 0 0

-- ---- messages of members

-- A site requests votes in a term, at this reading.
abbrev pub asks_votes : Member → ℕ → ℕ → PlainMessage
asks_votes site number reading = says site.id reading RVot 0 ADMN 0 site.id number 0

-- A member votes for a site.
abbrev pub votes : Member → Member → ℕ → ℕ → PlainMessage
votes member site number reading = says member.id reading VtFr 0 0 0 site.id number 0

-- A site announces its lease, with this many seconds left. A member that knows of no holder asks for the state of a
-- ticket.
abbrev pub tells_lease : Member → ℕ → ℕ → ℕ → PlainMessage
tells_lease site number reading seconds = says site.id reading UpdE 0 0 0 site.id number seconds

abbrev pub asks_state : Member → ℕ → ℕ → PlainMessage
asks_state member number reading = says member.id reading Stat 0 0 0 NO_ONE number 0

-- A client is informed that the round is open.
abbrev pub is_open : Member → ℕ → ℕ → PlainMessage
is_open site number reading = says site.id reading RGnt 1 0 ASYN NO_ONE number 0

-- ---- a member that is alone

abbrev pub alone : List Member
alone = site_one ∷ []

-- The member begins with the record of a lease that has ended, and starts from it. When it may answer itself, a
-- client sends a request. The member writes the next term with that lease in the record, and then a lease of that
-- term.
abbrev pub one_goes_on : World
one_goes_on = record (world_with alone (
    at 0 0 (starts alone site_one 0 (Some (lease 7 0)))
    ∷ at 7000 0 (hears client grant_it)
    ∷ at 7000 0 (reads 7000)
    ∷ at 7001 0 (keeps (record (lease 7 0) { term = 8 }))
    ∷ at 7002 0 (keeps (lease 8 13000))
    ∷ [])) { begins = λ m. record { second = false; records = λ name. lease 7 0 } }

-- The member starts without a record. When it may answer itself, a client sends a request. The member writes a term,
-- and then a lease.
abbrev pub one_holds : World
one_holds = world_with alone (
    at 0 0 (starts alone site_one 0 None)
    ∷ at 7000 0 (hears client grant_it)
    ∷ at 7000 0 (reads 7000)
    ∷ at 7001 0 (keeps (term 1))
    ∷ at 7002 0 (keeps (lease 1 13000))
    ∷ [])
