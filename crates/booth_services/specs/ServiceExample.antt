-- A world in which a ticket is moved from one site to another, and followers at both sites. One follower at the first
-- site stops its service before the release; another one does not.
use Rattle.std.specs.Prelude.{◌++◌, ℕ, true, false, List, [], ◌∷◌, codes, pos, Some, None, Ok}
use Rattle.booth_base.specs.declared.address.Peer.{Peer}
use Rattle.booth_base.specs.declared.address.TheConstants.{NO_ONE}
use Rattle.booth_conf.specs.Config.{ConfigSays}
use Rattle.booth_conf.specs.declared.members.Member.{Member}
use Rattle.booth_conf.specs.declared.tickets.TicketConf.{TicketConf}
use Rattle.booth_rec.specs.declared.record.Record.{Record}
use Rattle.booth_rec.specs.Record.{plain}
use Rattle.booth_wire.specs.declared.command.Cmd.TheVariants.{CTkt, RTkt}
use Rattle.booth_wire.specs.PlainMessage.{PlainMessage}
use Rattle.booth_auth.specs.Sealed.{sealed}
use Rattle.booth_host.specs.declared.host.Arrival.TheVariants as arrivals
use Rattle.booth_node.specs.Session.{SessionEntry, Starts}
use Rattle.booth_node.specs.World.{World, WorldEntry}
use Rattle.booth_follow_rule.specs.declared.news.News.TheVariants as news
use Rattle.booth_follow_rule.specs.declared.news.RunEnd.TheVariants.{Done}
use Rattle.booth_follow_rule.specs.declared.news.Shown.TheVariants.{Here}
use Rattle.booth_following.specs.declared.following.Following.{Following}
use Rattle.booth_following.specs.Lists.{line_start}
use Rattle.booth_following.specs.Programs.{programs_of}
use Rattle.booth_examples.specs.LostExamples.{gives_back, leased_by}
use Rattle.booth_examples.specs.VersionExamples.{promised}
use Rattle.booth_examples.specs.WorldExamples.{site_one, site_two, arbitrator, web, three_members, config_with, world_with, at, hears, reads, keeps, sends, says, client, port_of, grant_it, revoke_it, asks_votes, votes, is_open, asks_state, tells_lease}
use Rattle.booth_services.specs.Services.{Follower, TimedTurn}

-- ---- a ticket whose service can be followed

-- A ticket with a lease of twenty seconds.
abbrev pub served : TicketConf
served = record web { times = record { expire = 20000; after = 0; timeout = 1000; retries = 3; renewal = 10000 } }

abbrev pub config_served : ConfigSays
config_served = record (config_with three_members) { tickets = served ∷ [] }

-- The record of a member that has promised nothing and does not abstain.
abbrev pub unpledged : Record
unpledged = plain 0 None

-- A member starts from that record.
abbrev pub starts_unpledged : Member → SessionEntry
starts_unpledged member =
    Starts (record { config = config_served; ring = None; me = member.id; second = true }) 0 (Some unpledged ∷ [])

-- ---- messages

-- A follower runs on the machine of its site's daemon.
abbrev pub follower_of : Member → Peer
follower_of member = record { address = member.address; port = 40000 }

-- A follower requests the state of the ticket, under this number. The daemon of its site answers at a reading, and
-- names itself as the holder with these seconds left.
abbrev pub asks_ticket : ℕ → PlainMessage
asks_ticket number = says (record { 0 = 0 }) 0 CTkt number 0 0 NO_ONE 0 0

abbrev pub names_itself : Member → ℕ → ℕ → ℕ → ℕ → PlainMessage
names_itself site number term reading seconds = says site.id reading RTkt number 0 0 site.id term seconds

-- ---- the world

-- All members start. A client requests the ticket from site one, site two votes for it, and site one has its lease.
abbrev pub is_granted_first : List WorldEntry
is_granted_first =
    at 0 0 (starts_unpledged site_one)
    ∷ at 0 1 (starts_unpledged site_two)
    ∷ at 0 2 (starts_unpledged arbitrator)
    ∷ at 1000 0 (hears client grant_it)
    ∷ at 1000 0 (reads 1000)
    ∷ at 1001 0 (keeps (promised 1 site_one 21042 0))
    ∷ at 1002 0 (sends (port_of site_two) (asks_votes site_one 1 1000))
    ∷ at 1002 0 (sends (port_of arbitrator) (asks_votes site_one 1 1000))
    ∷ at 1003 0 (sends client (is_open site_one 1 1000))
    ∷ at 1010 1 (hears (port_of site_one) (asks_votes site_one 1 1000))
    ∷ at 1010 1 (reads 1010)
    ∷ at 1011 1 (keeps (promised 1 site_one 21052 0))
    ∷ at 1012 1 (sends (port_of site_one) (votes site_two site_one 1 1010))
    ∷ at 1013 1 (sends (port_of site_one) (asks_state site_two 1 1010))
    ∷ at 1013 1 (sends (port_of arbitrator) (asks_state site_two 1 1010))
    ∷ at 1020 0 (hears (port_of site_two) (votes site_two site_one 1 1010))
    ∷ at 1020 0 (reads 1020)
    ∷ at 1021 0 (keeps (leased_by 1 site_one 21042 21000 0))
    ∷ at 1022 0 (sends (port_of site_two) (tells_lease site_one 1 1020 20))
    ∷ at 1022 0 (sends (port_of arbitrator) (tells_lease site_one 1 1020 20))
    ∷ []

-- Site one answers its follower.
abbrev pub first_answer : PlainMessage
first_answer = names_itself site_one 5200 1 5300 16

abbrev pub sends_first : WorldEntry
sends_first = at 5301 0 (sends (follower_of site_one) first_answer)

abbrev pub before_first : List WorldEntry
before_first =
    is_granted_first
    ++ at 5300 0 (hears (follower_of site_one) (asks_ticket 5200))
    ∷ at 5300 0 (reads 5300)
    ∷ []

-- A client requests a revocation, and site one releases its lease. Site two is informed, and a client requests the
-- ticket from it. The arbitrator votes for it, and site two has its lease.
abbrev pub is_moved : List WorldEntry
is_moved =
    at 7500 0 (hears client revoke_it)
    ∷ at 7500 0 (reads 7500)
    ∷ at 7501 0 (keeps (promised 1 site_one 21042 0))
    ∷ at 7502 0 (sends (port_of site_two) (gives_back site_one 1 7500))
    ∷ at 7510 1 (hears (port_of site_one) (gives_back site_one 1 7500))
    ∷ at 7510 1 (reads 7510)
    ∷ at 7520 1 (hears client grant_it)
    ∷ at 7520 1 (reads 7520)
    ∷ at 7521 1 (keeps (promised 2 site_two 27562 0))
    ∷ at 7522 1 (sends (port_of site_one) (asks_votes site_two 2 7520))
    ∷ at 7522 1 (sends (port_of arbitrator) (asks_votes site_two 2 7520))
    ∷ at 7523 1 (sends client (is_open site_two 2 7520))
    ∷ at 7530 2 (hears (port_of site_two) (asks_votes site_two 2 7520))
    ∷ at 7530 2 (reads 7530)
    ∷ at 7531 2 (keeps (promised 2 site_two 27572 0))
    ∷ at 7532 2 (sends (port_of site_two) (votes arbitrator site_two 2 7530))
    ∷ at 7540 1 (hears (port_of arbitrator) (votes arbitrator site_two 2 7530))
    ∷ at 7540 1 (reads 7540)
    ∷ at 7541 1 (keeps (leased_by 2 site_two 27562 27520 0))
    ∷ at 7542 1 (sends (port_of site_one) (tells_lease site_two 2 7540 20))
    ∷ at 7542 1 (sends (port_of arbitrator) (tells_lease site_two 2 7540 20))
    ∷ []

-- Site two answers its follower.
abbrev pub asks_second : List WorldEntry
asks_second =
    at 7600 1 (hears (follower_of site_two) (asks_ticket 7550))
    ∷ at 7600 1 (reads 7600)
    ∷ []

abbrev pub second_answer : PlainMessage
second_answer = names_itself site_two 7550 2 7600 20

abbrev pub sends_second : WorldEntry
sends_second = at 7601 1 (sends (follower_of site_two) second_answer)

abbrev pub before_second : List WorldEntry
before_second = before_first ++ sends_first ∷ is_moved ++ asks_second

-- Each member begins with a record of version 2 that has no lease.
abbrev pub moved : World
moved = record (world_with three_members (before_second ++ sends_second ∷ [])) {
  begins = λ m. record { second = true; records = λ name. unpledged };
}

-- ---- turns

-- A follower of the ticket with the default margins.
abbrev pub following_of : Member → Following
following_of member = record {
  ring = None;
  ticket = codes "web";
  to = port_of member;
  me = member.id;
  line = line_start (codes "web") member.address;
  programs = programs_of (codes "/s");
  margins = record { margin = 5000; kill = 2500; pause = 5000 };
  restarts = false;
}

-- A turn at this time, in which nothing arrives.
abbrev pub quiet : ℕ → TimedTurn
quiet time = record {
  time = time;
  turn = record {
    ring = None;
    answer = Ok arrivals.Quiet;
    bytes = [];
    reading = time;
    standing = None;
    said = news.Nothing;
    heard = news.Nothing;
    started = Ok tt;
    sent = record { ticket = Ok tt; list = Ok tt };
  };
}

-- A turn at which the run with this number has ended with 0.
abbrev pub ended : ℕ → ℕ → TimedTurn
ended time number = record {
  time = time;
  turn = record (quiet time).turn {
    answer = Ok (arrivals.Handler number (pos 0));
    said = news.End number Done;
    heard = news.End number Done;
  };
}

-- A turn that receives an answer, which shows this site until this end, by a lease of this term.
abbrev pub answered : ℕ → Member → PlainMessage → ℕ → ℕ → TimedTurn
answered time site message until term = record {
  time = time;
  turn = record (quiet time).turn {
    answer = Ok (arrivals.Datagram (port_of site));
    bytes = sealed None message;
    standing = Some (record { shown = Here until; term = term });
    said = news.List (Here until);
    heard = news.List (Here until);
  };
}

-- A turn in which the follower is asked to end.
abbrev pub asked_to_end : ℕ → TimedTurn
asked_to_end time = record {
  time = time;
  turn = record (quiet time).turn { answer = Ok arrivals.Stop; said = news.Stop; heard = news.Stop };
}

-- ---- followers

abbrev pub follower_with : Member → List TimedTurn → Follower
follower_with member turns =
    record { following = following_of member; left = None; turns = turns; gap = 1000; quick = 500 }

-- The follower at site one stops what may run. Five seconds later it hears of the lease, arms its end, and starts the
-- service.
abbrev pub begins_first : List TimedTurn
begins_first =
    quiet 100
    ∷ ended 200 1
    ∷ quiet 5200
    ∷ answered 5310 site_one first_answer 20300 1
    ∷ ended 5400 2
    ∷ ended 5500 3
    ∷ []

-- It is asked to end, stops the service, and leaves, before the ticket is released.
abbrev pub stops_in_time : Follower
stops_in_time =
    follower_with site_one (begins_first ++ asked_to_end 6400 ∷ ended 6450 4 ∷ quiet 6500 ∷ [])

-- It lets the service run, and the ticket is released meanwhile.
abbrev pub serves_on : Follower
serves_on = follower_with site_one (begins_first ++ quiet 6400 ∷ quiet 7300 ∷ [])

-- The follower at site two starts its service once it hears of the lease there.
abbrev pub serves_next : Follower
serves_next =
    follower_with site_two (
    quiet 100
    ∷ ended 200 1
    ∷ quiet 7550
    ∷ answered 7610 site_two second_answer 26600 2
    ∷ ended 7650 2
    ∷ [])
