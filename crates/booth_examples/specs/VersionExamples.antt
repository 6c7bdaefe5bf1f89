-- Worlds with sessions of both versions. In one, promises are kept through a crash. In one, a clock runs too fast and
-- two members hold, by leases of two terms. In one, a member of version 2 goes back to version 1 and two members
-- hold.
use Rattle.std.specs.Prelude.{ℕ, true, List, [], ◌∷◌, ◌++◌, Option, Some, None}
use Rattle.booth_conf.specs.declared.members.Member.{Member}
use Rattle.booth_rec.specs.declared.record.Record.{Record}
use Rattle.booth_rec.specs.Record.{plain}
use Rattle.booth_node.specs.Session.{SessionEntry, Starts}
use Rattle.booth_node.specs.World.{World, WorldEntry}
use Rattle.booth_examples.specs.PremiseExamples.{one_is_fast}
use Rattle.booth_examples.specs.WorldExamples.{site_one, site_two, arbitrator, config_with, three_members, world_by, world_with, at, starts, hears, reads, keeps, sends, term, lease, client, port_of, grant_it, asks_votes, votes, is_open, asks_state}

-- A member starts in version 2.
abbrev pub starts_again : Member → ℕ → Option Record → SessionEntry
starts_again member reading kept =
    Starts (record { config = config_with three_members; ring = None; me = member.id; second = true }) reading
    (kept ∷ [])

-- The record of a term, without a lease. Its member promised a site until a reading, and abstained until another.
abbrev pub promised : ℕ → Member → ℕ → ℕ → Record
promised number site until abstain = record (plain number None) {
  bound = Some site.id;
  promise = Some (record { to = site.id; term = number; until = until });
  abstain = abstain;
}

-- ---- promises are kept

-- All members start in version 1. Site one is asked for the ticket, site two votes for it, and site one gets its
-- lease.
abbrev pub granted_before : List WorldEntry
granted_before =
    at 0 0 (starts three_members site_one 0 None)
    ∷ at 0 1 (starts three_members site_two 0 None)
    ∷ at 0 2 (starts three_members arbitrator 0 None)
    ∷ at 7000 0 (hears client grant_it)
    ∷ at 7000 0 (reads 7000)
    ∷ at 7001 0 (keeps (term 1))
    ∷ at 7002 0 (sends (port_of site_two) (asks_votes site_one 1 7000))
    ∷ at 7002 0 (sends (port_of arbitrator) (asks_votes site_one 1 7000))
    ∷ at 7003 0 (sends client (is_open site_one 1 7000))
    ∷ at 7010 1 (hears (port_of site_one) (asks_votes site_one 1 7000))
    ∷ at 7010 1 (reads 7010)
    ∷ at 7011 1 (sends (port_of site_one) (votes site_two site_one 1 7010))
    ∷ at 7012 1 (sends (port_of site_one) (asks_state site_two 1 7010))
    ∷ at 7012 1 (sends (port_of arbitrator) (asks_state site_two 1 7010))
    ∷ at 7020 0 (hears (port_of site_two) (votes site_two site_one 1 7010))
    ∷ at 7020 0 (reads 7020)
    ∷ at 7021 0 (keeps (lease 1 13000))
    ∷ []

-- Site one and the arbitrator start in version 2. Site one starts from the record of its lease. The arbitrator starts
-- without a record, so it answers no round for the time of a whole promise.
abbrev pub begins_to_keep : List WorldEntry
begins_to_keep =
    at 8000 0 (starts_again site_one 8000 (Some (lease 1 13000)))
    ∷ at 8001 2 (starts_again arbitrator 8001 None)
    ∷ []

-- Later site two, still in version 1, requests votes in the next term. The arbitrator writes its promise, and crashes
-- before it answers. It starts from that record, receives the same message again, and answers at once. Site two gets
-- its lease.
abbrev pub answers_at_once : List WorldEntry
answers_at_once =
    at 20000 1 (hears client grant_it)
    ∷ at 20000 1 (reads 20000)
    ∷ at 20001 1 (keeps (term 2))
    ∷ at 20002 1 (sends (port_of site_one) (asks_votes site_two 2 20000))
    ∷ at 20002 1 (sends (port_of arbitrator) (asks_votes site_two 2 20000))
    ∷ at 20003 1 (sends client (is_open site_two 2 20000))
    ∷ at 20010 2 (hears (port_of site_two) (asks_votes site_two 2 20000))
    ∷ at 20010 2 (reads 20010)
    ∷ at 20011 2 (keeps (promised 2 site_two 26024 14015))
    ∷ at 20020 2 (starts_again arbitrator 20020 (Some (promised 2 site_two 26024 14015)))
    ∷ at 20030 2 (hears (port_of site_two) (asks_votes site_two 2 20000))
    ∷ at 20030 2 (reads 20030)
    ∷ at 20031 2 (keeps (promised 2 site_two 26044 14015))
    ∷ at 20032 2 (sends (port_of site_two) (votes arbitrator site_two 2 20030))
    ∷ at 20040 1 (hears (port_of arbitrator) (votes arbitrator site_two 2 20030))
    ∷ at 20040 1 (reads 20040)
    ∷ at 20041 1 (keeps (lease 2 26000))
    ∷ []

abbrev pub promises_kept : World
promises_kept = world_with three_members (granted_before ++ begins_to_keep ++ answers_at_once)

-- ---- in version 2 alone

-- The record of a lease. Its site promised itself, and abstained for a whole promise after its start.
abbrev pub leased : ℕ → Member → ℕ → ℕ → Record
leased number site promise until =
    record (promised number site promise 6014) { lease = Some (record { term = number; until = until }) }

-- Site one is asked for the ticket, and site two votes for it. When that lease is over, site two is asked, and the
-- arbitrator votes for it. Each member writes its promise first, also a promise to itself.
abbrev pub one_after_another : World
one_after_another = world_with three_members (
    at 0 0 (starts_again site_one 0 None)
    ∷ at 0 1 (starts_again site_two 0 None)
    ∷ at 0 2 (starts_again arbitrator 0 None)
    ∷ at 7000 0 (hears client grant_it)
    ∷ at 7000 0 (reads 7000)
    ∷ at 7001 0 (keeps (promised 1 site_one 13014 6014))
    ∷ at 7002 0 (sends (port_of site_two) (asks_votes site_one 1 7000))
    ∷ at 7002 0 (sends (port_of arbitrator) (asks_votes site_one 1 7000))
    ∷ at 7003 0 (sends client (is_open site_one 1 7000))
    ∷ at 7010 1 (hears (port_of site_one) (asks_votes site_one 1 7000))
    ∷ at 7010 1 (reads 7010)
    ∷ at 7011 1 (keeps (promised 1 site_one 13024 6014))
    ∷ at 7012 1 (sends (port_of site_one) (votes site_two site_one 1 7010))
    ∷ at 7013 1 (sends (port_of site_one) (asks_state site_two 1 7010))
    ∷ at 7013 1 (sends (port_of arbitrator) (asks_state site_two 1 7010))
    ∷ at 7020 0 (hears (port_of site_two) (votes site_two site_one 1 7010))
    ∷ at 7020 0 (reads 7020)
    ∷ at 7021 0 (keeps (leased 1 site_one 13014 13000))
    ∷ at 20000 1 (hears client grant_it)
    ∷ at 20000 1 (reads 20000)
    ∷ at 20001 1 (keeps (promised 2 site_two 26014 6014))
    ∷ at 20002 1 (sends (port_of site_one) (asks_votes site_two 2 20000))
    ∷ at 20002 1 (sends (port_of arbitrator) (asks_votes site_two 2 20000))
    ∷ at 20003 1 (sends client (is_open site_two 2 20000))
    ∷ at 20010 2 (hears (port_of site_two) (asks_votes site_two 2 20000))
    ∷ at 20010 2 (reads 20010)
    ∷ at 20011 2 (keeps (promised 2 site_two 26024 6014))
    ∷ at 20012 2 (sends (port_of site_two) (votes arbitrator site_two 2 20010))
    ∷ at 20020 1 (hears (port_of arbitrator) (votes arbitrator site_two 2 20010))
    ∷ at 20020 1 (reads 20020)
    ∷ at 20021 1 (keeps (leased 2 site_two 26014 26000))
    ∷ [])

-- ---- in version 2 alone, with a clock that is not true

-- Site two votes for site one, but its own clock runs twice as fast, so its promise is over in half the time. Then it
-- is asked for the ticket, and the arbitrator votes for it. Both sites hold, by leases of two terms.
abbrev pub fast_in_second : World
fast_in_second = world_by one_is_fast three_members (
    at 0 0 (starts_again site_one 0 None)
    ∷ at 0 1 (starts_again site_two 0 None)
    ∷ at 0 2 (starts_again arbitrator 0 None)
    ∷ at 7000 0 (hears client grant_it)
    ∷ at 7000 0 (reads 7000)
    ∷ at 7000 0 (keeps (promised 1 site_one 13014 6014))
    ∷ at 7000 0 (sends (port_of site_two) (asks_votes site_one 1 7000))
    ∷ at 7000 0 (sends (port_of arbitrator) (asks_votes site_one 1 7000))
    ∷ at 7000 0 (sends client (is_open site_one 1 7000))
    ∷ at 7010 1 (hears (port_of site_one) (asks_votes site_one 1 7000))
    ∷ at 7010 1 (reads 14020)
    ∷ at 7010 1 (keeps (promised 1 site_one 20034 6014))
    ∷ at 7010 1 (sends (port_of site_one) (votes site_two site_one 1 14020))
    ∷ at 7010 1 (sends (port_of site_one) (asks_state site_two 1 14020))
    ∷ at 7010 1 (sends (port_of arbitrator) (asks_state site_two 1 14020))
    ∷ at 7020 0 (hears (port_of site_two) (votes site_two site_one 1 14020))
    ∷ at 7020 0 (reads 7020)
    ∷ at 7020 0 (keeps (leased 1 site_one 13014 13000))
    ∷ at 10100 1 (hears client grant_it)
    ∷ at 10100 1 (reads 20200)
    ∷ at 10100 1 (keeps (promised 2 site_two 26214 6014))
    ∷ at 10100 1 (sends (port_of site_one) (asks_votes site_two 2 20200))
    ∷ at 10100 1 (sends (port_of arbitrator) (asks_votes site_two 2 20200))
    ∷ at 10100 1 (sends client (is_open site_two 2 20200))
    ∷ at 10110 2 (hears (port_of site_two) (asks_votes site_two 2 20200))
    ∷ at 10110 2 (reads 10110)
    ∷ at 10110 2 (keeps (promised 2 site_two 16124 6014))
    ∷ at 10110 2 (sends (port_of site_two) (votes arbitrator site_two 2 10110))
    ∷ at 10120 1 (hears (port_of arbitrator) (votes arbitrator site_two 2 10110))
    ∷ at 10120 1 (reads 20240)
    ∷ at 10120 1 (keeps (leased 2 site_two 26214 26200))
    ∷ [])

-- ---- without 'versions rise'

-- The arbitrator writes a promise in version 2, and later starts in version 1 from that record. It votes for site
-- one, and writes nothing. It starts once more from the same record, and at once votes for site two in the same term.
abbrev pub with_a_falling_version : World
with_a_falling_version = world_with three_members (
    at 0 0 (starts three_members site_one 0 None)
    ∷ at 0 1 (starts three_members site_two 0 None)
    ∷ at 0 2 (starts_again arbitrator 0 None)
    ∷ at 7000 0 (hears client grant_it)
    ∷ at 7000 0 (reads 7000)
    ∷ at 7000 0 (keeps (term 1))
    ∷ at 7000 0 (sends (port_of site_two) (asks_votes site_one 1 7000))
    ∷ at 7000 0 (sends (port_of arbitrator) (asks_votes site_one 1 7000))
    ∷ at 7000 0 (sends client (is_open site_one 1 7000))
    ∷ at 7010 1 (hears (port_of site_one) (asks_votes site_one 1 7000))
    ∷ at 7010 1 (reads 7010)
    ∷ at 7010 1 (sends (port_of site_one) (votes site_two site_one 1 7010))
    ∷ at 7010 1 (sends (port_of site_one) (asks_state site_two 1 7010))
    ∷ at 7010 1 (sends (port_of arbitrator) (asks_state site_two 1 7010))
    ∷ at 7010 2 (hears (port_of site_one) (asks_votes site_one 1 7000))
    ∷ at 7010 2 (reads 7010)
    ∷ at 7010 2 (keeps (promised 1 site_one 13024 6014))
    ∷ at 8000 0 (starts three_members site_one 8000 (Some (term 1)))
    ∷ at 14000 2 (starts three_members arbitrator 14000 (Some (promised 1 site_one 13024 6014)))
    ∷ at 20000 0 (hears client grant_it)
    ∷ at 20000 0 (reads 20000)
    ∷ at 20000 0 (keeps (term 2))
    ∷ at 20000 0 (sends (port_of site_two) (asks_votes site_one 2 20000))
    ∷ at 20000 0 (sends (port_of arbitrator) (asks_votes site_one 2 20000))
    ∷ at 20000 0 (sends client (is_open site_one 2 20000))
    ∷ at 20010 2 (hears (port_of site_one) (asks_votes site_one 2 20000))
    ∷ at 20010 2 (reads 20010)
    ∷ at 20010 2 (sends (port_of site_one) (votes arbitrator site_one 2 20010))
    ∷ at 20020 0 (hears (port_of arbitrator) (votes arbitrator site_one 2 20010))
    ∷ at 20020 0 (reads 20020)
    ∷ at 20020 0 (keeps (lease 2 26000))
    ∷ at 21000 2 (starts three_members arbitrator 21000 (Some (promised 1 site_one 13024 6014)))
    ∷ at 22000 1 (hears client grant_it)
    ∷ at 22000 1 (reads 22000)
    ∷ at 22000 1 (keeps (term 2))
    ∷ at 22000 1 (sends (port_of site_one) (asks_votes site_two 2 22000))
    ∷ at 22000 1 (sends (port_of arbitrator) (asks_votes site_two 2 22000))
    ∷ at 22000 1 (sends client (is_open site_two 2 22000))
    ∷ at 22010 2 (hears (port_of site_two) (asks_votes site_two 2 22000))
    ∷ at 22010 2 (reads 22010)
    ∷ at 22010 2 (sends (port_of site_two) (votes arbitrator site_two 2 22010))
    ∷ at 22020 1 (hears (port_of arbitrator) (votes arbitrator site_two 2 22010))
    ∷ at 22020 1 (reads 22020)
    ∷ at 22020 1 (keeps (lease 2 28000))
    ∷ [])
