-- Worlds in which a member loses its records. All their sessions are of version 2.
use Rattle.std.specs.Prelude.{ℕ, true, false, List, [], ◌∷◌, ◌++◌, codes, Option, Some, None}
use Rattle.booth_wire.specs.declared.codes.reasons.TheConstants.{ADMN}
use Rattle.booth_wire.specs.declared.command.Cmd.TheVariants.{Revk}
use Rattle.booth_wire.specs.PlainMessage.{PlainMessage}
use Rattle.booth_base.specs.declared.address.TheConstants.{NO_ONE}
use Rattle.booth_conf.specs.declared.members.Member.{Member}
use Rattle.booth_rec.specs.declared.record.Record.{Record}
use Rattle.booth_node.specs.World.{World, WorldEntry}
use Rattle.booth_examples.specs.WorldExamples.{site_one, site_two, arbitrator, three_members, world_with, at, hears, reads, keeps, sends, says, term, client, port_of, grant_it, revoke_it, asks_votes, votes, is_open, asks_state, tells_lease}
use Rattle.booth_examples.specs.VersionExamples.{starts_again, promised}

-- The record of a lease, with a promise and an abstention that end at these readings.
abbrev pub leased_by : ℕ → Member → ℕ → ℕ → ℕ → Record
leased_by number site promise until abstain =
    record (promised number site promise abstain) { lease = Some (record { term = number; until = until }) }

-- The message by which a site tells that it released a term.
abbrev pub gives_back : Member → ℕ → ℕ → PlainMessage
gives_back site number reading = says site.id reading Revk 0 ADMN 0 NO_ONE number 0

abbrev pub all_start : List WorldEntry
all_start =
    at 0 0 (starts_again site_one 0 None)
    ∷ at 0 1 (starts_again site_two 0 None)
    ∷ at 0 2 (starts_again arbitrator 0 None)
    ∷ []

-- Site one requests votes in term 1, and site two votes for it.
abbrev pub asks_first : List WorldEntry
asks_first =
    at 7000 0 (hears client grant_it)
    ∷ at 7000 0 (reads 7000)
    ∷ at 7001 0 (keeps (promised 1 site_one 13014 6014))
    ∷ at 7002 0 (sends (port_of site_two) (asks_votes site_one 1 7000))
    ∷ at 7002 0 (sends (port_of arbitrator) (asks_votes site_one 1 7000))
    ∷ at 7003 0 (sends client (is_open site_one 1 7000))
    ∷ at 7010 1 (hears (port_of site_one) (asks_votes site_one 1 7000))
    ∷ at 7010 1 (reads 7010)
    ∷ at 7011 1 (keeps (promised 1 site_one 13024 6014))
    ∷ at 7012 1 (sends (port_of site_one) (votes site_two site_one 1 7010))
    ∷ at 7013 1 (sends (port_of site_one) (asks_state site_two 1 7010))
    ∷ at 7013 1 (sends (port_of arbitrator) (asks_state site_two 1 7010))
    ∷ []

-- The vote is late. Site one starts without its record, and abstains for the time of a whole promise. Site two gains a
-- lease. Then site one requests votes in term 1 again, and the late vote counts for that round.
abbrev pub with_a_late_vote : World
with_a_late_vote = world_with three_members (all_start ++ asks_first ++
    at 8000 0 (starts_again site_one 8000 None)
    ∷ at 14500 1 (hears client grant_it)
    ∷ at 14500 1 (reads 14500)
    ∷ at 14501 1 (keeps (promised 2 site_two 20514 6014))
    ∷ at 14502 1 (sends (port_of site_one) (asks_votes site_two 2 14500))
    ∷ at 14502 1 (sends (port_of arbitrator) (asks_votes site_two 2 14500))
    ∷ at 14503 1 (sends client (is_open site_two 2 14500))
    ∷ at 14510 2 (hears (port_of site_two) (asks_votes site_two 2 14500))
    ∷ at 14510 2 (reads 14510)
    ∷ at 14511 2 (keeps (promised 2 site_two 20524 6014))
    ∷ at 14512 2 (sends (port_of site_two) (votes arbitrator site_two 2 14510))
    ∷ at 14520 1 (hears (port_of arbitrator) (votes arbitrator site_two 2 14510))
    ∷ at 14520 1 (reads 14520)
    ∷ at 14521 1 (keeps (leased_by 2 site_two 20514 20500 6014))
    ∷ at 15000 0 (hears client grant_it)
    ∷ at 15000 0 (reads 15000)
    ∷ at 15001 0 (keeps (promised 1 site_one 21014 14014))
    ∷ at 15002 0 (sends (port_of site_two) (asks_votes site_one 1 15000))
    ∷ at 15002 0 (sends (port_of arbitrator) (asks_votes site_one 1 15000))
    ∷ at 15003 0 (sends client (is_open site_one 1 15000))
    ∷ at 15010 0 (hears (port_of site_two) (votes site_two site_one 1 7010))
    ∷ at 15010 0 (reads 15010)
    ∷ at 15011 0 (keeps (leased_by 1 site_one 21014 21000 14014))
    ∷ [])

-- Site one gains a lease of term 1 and releases it, and the message that says so is late. Site one starts without its
-- record, and abstains for the time of a whole promise. It requests votes in term 1 again, and site two votes for it
-- again, so it has a lease. Then the late message arrives at site two, and ends its promise. Site two requests votes,
-- and the arbitrator votes for it.
abbrev pub with_a_late_return : World
with_a_late_return = world_with three_members (all_start ++ asks_first ++
    at 7020 0 (hears (port_of site_two) (votes site_two site_one 1 7010))
    ∷ at 7020 0 (reads 7020)
    ∷ at 7021 0 (keeps (leased_by 1 site_one 13014 13000 6014))
    ∷ at 7022 0 (sends (port_of site_two) (tells_lease site_one 1 7020 6))
    ∷ at 7022 0 (sends (port_of arbitrator) (tells_lease site_one 1 7020 6))
    ∷ at 7500 0 (hears client revoke_it)
    ∷ at 7500 0 (reads 7500)
    ∷ at 7501 0 (keeps (promised 1 site_one 13014 6014))
    ∷ at 7502 0 (sends (port_of site_two) (gives_back site_one 1 7500))
    ∷ at 8000 0 (starts_again site_one 8000 None)
    ∷ at 15000 0 (hears client grant_it)
    ∷ at 15000 0 (reads 15000)
    ∷ at 15001 0 (keeps (promised 1 site_one 21014 14014))
    ∷ at 15002 0 (sends (port_of site_two) (asks_votes site_one 1 15000))
    ∷ at 15002 0 (sends (port_of arbitrator) (asks_votes site_one 1 15000))
    ∷ at 15003 0 (sends client (is_open site_one 1 15000))
    ∷ at 15010 1 (hears (port_of site_one) (asks_votes site_one 1 15000))
    ∷ at 15010 1 (reads 15010)
    ∷ at 15011 1 (keeps (promised 1 site_one 21024 6014))
    ∷ at 15012 1 (sends (port_of site_one) (votes site_two site_one 1 15010))
    ∷ at 15020 0 (hears (port_of site_two) (votes site_two site_one 1 15010))
    ∷ at 15020 0 (reads 15020)
    ∷ at 15021 0 (keeps (leased_by 1 site_one 21014 21000 14014))
    ∷ at 15100 1 (hears (port_of site_one) (gives_back site_one 1 7500))
    ∷ at 15100 1 (reads 15100)
    ∷ at 15200 1 (hears client grant_it)
    ∷ at 15200 1 (reads 15200)
    ∷ at 15201 1 (keeps (promised 2 site_two 21214 6014))
    ∷ at 15202 1 (sends (port_of site_one) (asks_votes site_two 2 15200))
    ∷ at 15202 1 (sends (port_of arbitrator) (asks_votes site_two 2 15200))
    ∷ at 15203 1 (sends client (is_open site_two 2 15200))
    ∷ at 15210 2 (hears (port_of site_two) (asks_votes site_two 2 15200))
    ∷ at 15210 2 (reads 15210)
    ∷ at 15211 2 (keeps (promised 2 site_two 21224 6014))
    ∷ at 15212 2 (sends (port_of site_two) (votes arbitrator site_two 2 15210))
    ∷ at 15220 1 (hears (port_of arbitrator) (votes arbitrator site_two 2 15210))
    ∷ at 15220 1 (reads 15220)
    ∷ at 15221 1 (keeps (leased_by 2 site_two 21214 21200 6014))
    ∷ [])

-- The arbitrator has voted for site one in term 1, and starts without its record. Site one holds, and loses its disk:
-- it starts from a silent record of term 3. Later it requests votes in term 4, and the arbitrator votes for it. By then
-- neither of them abstains any more.
abbrev pub with_new_disks : World
with_new_disks = world_with three_members (all_start ++
    at 7000 0 (hears client grant_it)
    ∷ at 7000 0 (reads 7000)
    ∷ at 7001 0 (keeps (promised 1 site_one 13014 6014))
    ∷ at 7002 0 (sends (port_of site_two) (asks_votes site_one 1 7000))
    ∷ at 7002 0 (sends (port_of arbitrator) (asks_votes site_one 1 7000))
    ∷ at 7003 0 (sends client (is_open site_one 1 7000))
    ∷ at 7010 2 (hears (port_of site_one) (asks_votes site_one 1 7000))
    ∷ at 7010 2 (reads 7010)
    ∷ at 7011 2 (keeps (promised 1 site_one 13024 6014))
    ∷ at 7012 2 (sends (port_of site_one) (votes arbitrator site_one 1 7010))
    ∷ at 7020 0 (hears (port_of arbitrator) (votes arbitrator site_one 1 7010))
    ∷ at 7020 0 (reads 7020)
    ∷ at 7021 0 (keeps (leased_by 1 site_one 13014 13000 6014))
    ∷ at 7500 2 (starts_again arbitrator 7500 None)
    ∷ at 8000 0 (starts_again site_one 8000 (Some (term 3)))
    ∷ at 15000 0 (hears client grant_it)
    ∷ at 15000 0 (reads 15000)
    ∷ at 15001 0 (keeps (promised 4 site_one 21014 14014))
    ∷ at 15002 0 (sends (port_of site_two) (asks_votes site_one 4 15000))
    ∷ at 15002 0 (sends (port_of arbitrator) (asks_votes site_one 4 15000))
    ∷ at 15003 0 (sends client (is_open site_one 4 15000))
    ∷ at 15010 2 (hears (port_of site_one) (asks_votes site_one 4 15000))
    ∷ at 15010 2 (reads 15010)
    ∷ at 15011 2 (keeps (promised 4 site_one 21024 13514))
    ∷ at 15012 2 (sends (port_of site_one) (votes arbitrator site_one 4 15010))
    ∷ at 15020 0 (hears (port_of arbitrator) (votes arbitrator site_one 4 15010))
    ∷ at 15020 0 (reads 15020)
    ∷ at 15021 0 (keeps (leased_by 4 site_one 21014 21000 14014))
    ∷ [])
