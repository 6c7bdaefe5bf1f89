-- A world with a key, a ticket with a handler and a manual ticket. In it devices fail, and calls of each kind are
-- interrupted.
use Rattle.std.specs.Prelude.{◌∷◌, ℕ, [], List, ◌++◌, codes, true, pos, Option, Some, None, Result, Ok, Err}
use Rattle.booth_base.specs.declared.address.MemberId.{MemberId}
use Rattle.booth_base.specs.declared.address.Peer.{Peer}
use Rattle.booth_base.specs.declared.address.TheConstants.{NO_ONE}
use Rattle.booth_conf.specs.Config.{ConfigSays}
use Rattle.booth_conf.specs.declared.members.Member.{Member}
use Rattle.booth_conf.specs.declared.tickets.TicketConf.{TicketConf}
use Rattle.booth_keys.specs.Ring.{alone}
use Rattle.booth_rec.specs.Record.{plain}
use Rattle.booth_rec.specs.declared.record.Record.{Record}
use Rattle.booth_wire.specs.declared.codes.results.TheConstants.{XPRG}
use Rattle.booth_wire.specs.declared.command.Cmd.TheVariants.{CGnt, RGnt, Stat}
use Rattle.booth_wire.specs.PlainMessage.{PlainMessage, Ticket}
use Rattle.booth_auth.specs.Sealed.{sealed}
use Rattle.booth_host.specs.declared.entry.Entry.TheVariants as calls
use Rattle.booth_host.specs.declared.host.Arrival.{Arrival}
use Rattle.booth_host.specs.declared.host.Arrival.TheVariants as arrivals
use Rattle.booth_host.specs.declared.host.Failed.{Failed}
use Rattle.booth_manual.specs.declared.view.TheConstants.{NO_END, NO_END_SECONDS}
use Rattle.booth_node.specs.Session.{SessionEntry, Starts, Makes, IsCut, CutNext, CutNow, CutSend, CutKeep, CutStart}
use Rattle.booth_node.specs.World.{World, WorldEntry}
use Rattle.booth_examples.specs.WorldExamples.{site_one, site_two, arbitrator, web, config_with, three_members, world_with, at, reads, keeps, client, port_of, says, grant_it, is_open, asks_votes, votes}
use Rattle.booth_examples.specs.VersionExamples.{promised}

-- ---- a configuration, and a key

-- The ticket web with a handler, and a manual ticket.
abbrev pub web_by_handler : TicketConf
web_by_handler = record web { handler = Some (codes "/h") }

abbrev pub hand : TicketConf
hand = record web { name = codes "hand"; manual = true }

abbrev pub config_of_both : ConfigSays
config_of_both = record (config_with three_members) { tickets = web_by_handler ∷ hand ∷ [] }

abbrev pub key : List ℕ
key = codes "sixteen letters."

-- ---- entries

-- A member starts with the key, in version 2, with its records of both tickets.
abbrev pub begins : Member → ℕ → Option Record → Option Record → SessionEntry
begins member reading of_web of_hand =
    Starts (record { config = config_of_both; ring = Some (alone key); me = member.id; second = true }) reading
    (of_web ∷ of_hand ∷ [])

-- The message's bytes, with its MAC.
abbrev pub signed : PlainMessage → List ℕ
signed message =
    sealed (Some (alone key)) (record { head = record message.head { auth = true }; content = message.content })

abbrev pub comes : Result Arrival Failed → SessionEntry
comes answer = Makes (calls.Next 100 answer [])

abbrev pub hears_signed : Peer → PlainMessage → SessionEntry
hears_signed from message = Makes (calls.Next 100 (Ok (arrivals.Datagram from)) (signed message))

abbrev pub failed : Failed
failed = record {}

abbrev pub sends_signed : Peer → PlainMessage → SessionEntry
sends_signed to message = Makes (calls.Send to (signed message) (Ok tt))

abbrev pub fails_to_send : Peer → PlainMessage → SessionEntry
fails_to_send to message = Makes (calls.Send to (signed message) (Err failed))

abbrev pub is_cut_signing : Peer → PlainMessage → SessionEntry
is_cut_signing to message = IsCut (CutSend to (signed message))

-- The handler of web is started for site one, under a job number, with the end of its lease or 0.
abbrev pub starts_handler : ℕ → ℕ → Result (Unit {0}) Failed → SessionEntry
starts_handler number expires answer =
    Makes (calls.Start number (codes "web") (codes "/h") site_one.address expires answer)

-- ---- messages about the ticket hand

abbrev pub about_hand : PlainMessage → MemberId → ℕ → ℕ → PlainMessage
about_hand message leader number seconds = record {
  head = message.head;
  content =
      Ticket (record { ticket = codes "hand"; leader = leader; term = number; valid_for = seconds });
}

abbrev pub grant_by_hand : PlainMessage
grant_by_hand = about_hand (says (record { 0 = 0 }) 0 CGnt 2 0 0 NO_ONE 0 0) NO_ONE 0 0

-- A site asks for the state of the ticket, and reports what it knows itself.
abbrev pub asks_of_hand : Member → ℕ → MemberId → ℕ → ℕ → PlainMessage
asks_of_hand site reading leader number seconds =
    about_hand (says site.id reading Stat 0 0 0 NO_ONE 0 0) leader number seconds

-- ---- records

-- The record of the ticket hand, whose lease has no end.
abbrev pub kept_by_hand : Record
kept_by_hand = plain 1 (Some (record { term = 1; until = NO_END }))

-- A record of term 1 with a vote for site one, which promised itself until a reading.
abbrev pub asked_by_one : ℕ → Record
asked_by_one until = promised 1 site_one until 27114

abbrev pub leased_to_one : ℕ → Record
leased_to_one until = record (asked_by_one until) { lease = Some (record { term = 1; until = 34100 }) }

-- ---- events

-- All members start. Site one gets a request for web, and cannot start its handler. It cannot inform the client
-- either, and is interrupted while it greets the others. It starts again and is interrupted while it waits. It starts
-- once more, its wait fails, and it is interrupted while it reads its clock.
abbrev pub it_fails_and_is_cut : List WorldEntry
it_fails_and_is_cut =
    at 0 0 (begins site_one 0 None None)
    ∷ at 0 1 (begins site_two 0 None None)
    ∷ at 0 2 (begins arbitrator 0 None None)
    ∷ at 7000 0 (hears_signed client grant_it)
    ∷ at 7000 0 (reads 7000)
    ∷ at 7000 0 (starts_handler 1 0 (Err failed))
    ∷ at 7001 0 (fails_to_send client (says site_one.id 7000 RGnt 1 0 XPRG NO_ONE 0 0))
    ∷ at 7002 0 (sends_signed (port_of site_two) (asks_of_hand site_one 7000 NO_ONE 0 0))
    ∷ at 7003 0 (is_cut_signing (port_of arbitrator) (asks_of_hand site_one 7000 NO_ONE 0 0))
    ∷ at 7100 0 (begins site_one 7100 None None)
    ∷ at 7150 0 (IsCut CutNext)
    ∷ at 7200 0 (begins site_one 7200 None None)
    ∷ at 7250 0 (comes (Err failed))
    ∷ at 7250 0 (IsCut CutNow)
    ∷ []

-- Site one is granted the ticket hand, and starts from that record. It gets a request for web, and is interrupted
-- while it starts the handler.
abbrev pub it_is_granted_by_hand : List WorldEntry
it_is_granted_by_hand =
    at 7300 0 (begins site_one 7300 None None)
    ∷ at 14000 0 (hears_signed client grant_by_hand)
    ∷ at 14000 0 (reads 14000)
    ∷ at 14001 0 (Makes (calls.Keep (codes "hand") kept_by_hand (Ok tt)))
    ∷ at 14100 0 (begins site_one 14100 None (Some kept_by_hand))
    ∷ at 21000 0 (hears_signed client grant_it)
    ∷ at 21000 0 (reads 21000)
    ∷ at 21001 0 (IsCut (CutStart (record {
      number = 1;
      ticket = codes "web";
      handler = codes "/h";
      local = site_one.address;
      expires = 0;
    })))
    ∷ []

-- After one more request site one starts its handler. When the handler has ended, it requests votes. The request to
-- site two is not sent.
abbrev pub its_handler_runs : List WorldEntry
its_handler_runs =
    at 21100 0 (begins site_one 21100 None (Some kept_by_hand))
    ∷ at 28000 0 (hears_signed client grant_it)
    ∷ at 28000 0 (reads 28000)
    ∷ at 28001 0 (starts_handler 1 0 (Ok tt))
    ∷ at 28002 0 (sends_signed client (is_open site_one 0 28000))
    ∷ at 28003 0 (sends_signed (port_of site_two) (asks_of_hand site_one 28000 site_one.id 1 NO_END_SECONDS))
    ∷ at 28003 0 (sends_signed (port_of arbitrator) (asks_of_hand site_one 28000 site_one.id 1 NO_END_SECONDS))
    ∷ at 28100 0 (comes (Ok (arrivals.Handler 1 (pos 0))))
    ∷ at 28100 0 (reads 28100)
    ∷ at 28101 0 (keeps (asked_by_one 34114))
    ∷ at 28102 0 (fails_to_send (port_of site_two) (asks_votes site_one 1 28100))
    ∷ at 28102 0 (sends_signed (port_of arbitrator) (asks_votes site_one 1 28100))
    ∷ []

-- The arbitrator votes for site one. The vote reaches site two as well as site one. Site one may hold from then on:
-- it tries its write, and the write fails.
abbrev pub its_keep_fails : List WorldEntry
its_keep_fails =
    at 28110 2 (hears_signed (port_of site_one) (asks_votes site_one 1 28100))
    ∷ at 28110 2 (reads 28110)
    ∷ at 28111 2 (keeps (promised 1 site_one 34124 6014))
    ∷ at 28112 2 (sends_signed (port_of site_one) (votes arbitrator site_one 1 28110))
    ∷ at 28115 1 (hears_signed (port_of arbitrator) (votes arbitrator site_one 1 28110))
    ∷ at 28115 1 (reads 28115)
    ∷ at 28120 0 (hears_signed (port_of arbitrator) (votes arbitrator site_one 1 28110))
    ∷ at 28120 0 (reads 28120)
    ∷ at 28125 0 (Makes (calls.Keep (codes "web") (leased_to_one 34114) (Err failed)))
    ∷ []

-- Site one greets the others and must renew. Its handler reports that the service can run, and it is interrupted
-- while it writes its promise. It starts from that record.
abbrev pub its_keep_is_cut : List WorldEntry
its_keep_is_cut =
    at 33100 0 (comes (Ok arrivals.Quiet))
    ∷ at 33100 0 (reads 33100)
    ∷ at 33101 0 (sends_signed (port_of site_two) (says site_one.id 33100 Stat 0 0 0 site_one.id 1 1))
    ∷ at 33101 0 (sends_signed (port_of arbitrator) (says site_one.id 33100 Stat 0 0 0 site_one.id 1 1))
    ∷ at 33102 0 (starts_handler 2 34 (Ok tt))
    ∷ at 33200 0 (comes (Ok (arrivals.Handler 2 (pos 0))))
    ∷ at 33200 0 (reads 33200)
    ∷ at 33201 0 (IsCut (CutKeep (codes "web") (leased_to_one 39214)))
    ∷ at 33400 0 (begins site_one 33400 (Some (leased_to_one 39214)) (Some kept_by_hand))
    ∷ []

abbrev pub of_many_kinds : World
of_many_kinds =
    world_with three_members
    (it_fails_and_is_cut ++ it_is_granted_by_hand ++ its_handler_runs ++ its_keep_fails ++ its_keep_is_cut)
