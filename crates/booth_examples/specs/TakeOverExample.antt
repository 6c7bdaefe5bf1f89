-- A world of three members, in which the holder crashes in the middle of a write, and another member takes over the
-- ticket.
use Rattle.std.specs.Prelude.{List, [], ◌∷◌, ◌++◌, Some, None}
use Rattle.booth_node.specs.World.{World, WorldEntry}
use Rattle.booth_examples.specs.WorldExamples.{site_one, site_two, arbitrator, three_members, world_with, at, starts, hears, reads, keeps, sends, is_cut_keeping, is_cut_sending, term, lease, client, port_of, grant_it, revoke_it, asks_votes, votes, is_open, tells_lease, asks_state}

-- All members start without a record, and site one gets a request for the ticket. Site two votes for it, and site one
-- gets its lease.
abbrev pub it_is_granted : List WorldEntry
it_is_granted =
    at 0 0 (starts three_members site_one 0 None)
    ∷ at 0 1 (starts three_members site_two 0 None)
    ∷ at 0 2 (starts three_members arbitrator 0 None)
    ∷ at 7000 0 (hears client grant_it)
    ∷ at 7000 0 (reads 7000)
    ∷ at 7001 0 (keeps (term 1))
    ∷ at 7002 0 (sends (port_of site_two) (asks_votes site_one 1 7000))
    ∷ at 7002 0 (sends (port_of arbitrator) (asks_votes site_one 1 7000))
    ∷ at 7003 0 (sends client (is_open site_one 1 7000))
    ∷ at 7010 1 (hears (port_of site_one) (asks_votes site_one 1 7000))
    ∷ at 7010 1 (reads 7010)
    ∷ at 7011 1 (sends (port_of site_one) (votes site_two site_one 1 7010))
    ∷ at 7012 1 (sends (port_of site_one) (asks_state site_two 1 7010))
    ∷ at 7012 1 (sends (port_of arbitrator) (asks_state site_two 1 7010))
    ∷ at 7020 0 (hears (port_of site_two) (votes site_two site_one 1 7010))
    ∷ at 7020 0 (reads 7020)
    ∷ at 7021 0 (keeps (lease 1 13000))
    ∷ at 7022 0 (sends (port_of site_two) (tells_lease site_one 1 7020 6))
    ∷ at 7022 0 (sends (port_of arbitrator) (tells_lease site_one 1 7020 6))
    ∷ []

-- A client requests a revocation. Site one crashes while it writes the release, and starts again: it still has the
-- lease.
abbrev pub its_holder_crashes : List WorldEntry
its_holder_crashes =
    at 8000 0 (hears client revoke_it)
    ∷ at 8000 0 (reads 8000)
    ∷ at 8001 0 (is_cut_keeping (term 1))
    ∷ at 9000 0 (starts three_members site_one 9000 (Some (lease 1 13000)))
    ∷ []

-- When the lease and site two's promise have ended, site two gets a request for the ticket. The arbitrator votes for
-- it. Site two gets the lease, and crashes while it informs site one, which gets the message all the same.
abbrev pub another_takes_it_over : List WorldEntry
another_takes_it_over =
    at 20000 1 (hears client grant_it)
    ∷ at 20000 1 (reads 20000)
    ∷ at 20001 1 (keeps (term 2))
    ∷ at 20002 1 (sends (port_of site_one) (asks_votes site_two 2 20000))
    ∷ at 20002 1 (sends (port_of arbitrator) (asks_votes site_two 2 20000))
    ∷ at 20003 1 (sends client (is_open site_two 2 20000))
    ∷ at 20010 2 (hears (port_of site_two) (asks_votes site_two 2 20000))
    ∷ at 20010 2 (reads 20010)
    ∷ at 20011 2 (sends (port_of site_two) (votes arbitrator site_two 2 20010))
    ∷ at 20020 1 (hears (port_of arbitrator) (votes arbitrator site_two 2 20010))
    ∷ at 20020 1 (reads 20020)
    ∷ at 20021 1 (keeps (lease 2 26000))
    ∷ at 20022 1 (is_cut_sending (port_of site_one) (tells_lease site_two 2 20020 6))
    ∷ at 20030 0 (hears (port_of site_two) (tells_lease site_two 2 20020 6))
    ∷ at 20030 0 (reads 20030)
    ∷ []

abbrev pub taken_over : World
taken_over = world_with three_members (it_is_granted ++ its_holder_crashes ++ another_takes_it_over)
