-- For each premise, a world that meets the other premises and in which two members hold at the same moment.
use Rattle.std.specs.Prelude.{◌≡◌, ◌≢◌, ◌<◌, ℕ, zero, suc, ◌*◌, List, [], ◌∷◌, ◌++◌, length, map, false, Some, None}
use Rattle.std.specs.List.{range_with_len}
use Rattle.booth_conf.specs.declared.members.Member.{Member}
use Rattle.booth_node.specs.Clock.{IsClock}
use Rattle.booth_node.specs.Session.{SessionEntry, Down, AreSessions}
use Rattle.booth_node.specs.World.{World, members_of, entries_of, AtEach, ReadsClock}
use Rattle.booth_examples.specs.WorldExamples.{site_one, site_two, arbitrator, alone, three_members, exact_clock, world_by, world_with, at, starts, hears, reads, keeps, sends, term, lease, client, port_of, grant_it, asks_votes, votes, is_open, asks_state, two_sites}

-- ---- without 'records return'

-- Two sites start, and each reads the record of a lease that it never wrote.
abbrev pub with_foreign_records : World
with_foreign_records = world_with two_sites (
    at 0 0 (starts two_sites site_one 0 (Some (lease 1 6000)))
    ∷ at 0 1 (starts two_sites site_two 0 (Some (lease 1 6000)))
    ∷ [])

-- Site two votes for site one in term 1, and the vote is late. Site one starts again, but its record of that term
-- does not return. Site two gets a lease. Then site one requests votes in term 1 once more, and the late vote counts
-- for that round.
abbrev pub with_a_lost_record : World
with_a_lost_record = world_with three_members (
    at 0 0 (starts three_members site_one 0 None)
    ∷ at 0 1 (starts three_members site_two 0 None)
    ∷ at 0 2 (starts three_members arbitrator 0 None)
    ∷ at 7000 0 (hears client grant_it)
    ∷ at 7000 0 (reads 7000)
    ∷ at 7000 0 (keeps (term 1))
    ∷ at 7000 0 (sends (port_of site_two) (asks_votes site_one 1 7000))
    ∷ at 7000 0 (sends (port_of arbitrator) (asks_votes site_one 1 7000))
    ∷ at 7000 0 (sends client (is_open site_one 1 7000))
    ∷ at 7010 1 (hears (port_of site_one) (asks_votes site_one 1 7000))
    ∷ at 7010 1 (reads 7010)
    ∷ at 7010 1 (sends (port_of site_one) (votes site_two site_one 1 7010))
    ∷ at 7010 1 (sends (port_of site_one) (asks_state site_two 1 7010))
    ∷ at 7010 1 (sends (port_of arbitrator) (asks_state site_two 1 7010))
    ∷ at 8000 0 (starts three_members site_one 8000 None)
    ∷ at 14500 1 (hears client grant_it)
    ∷ at 14500 1 (reads 14500)
    ∷ at 14500 1 (keeps (term 2))
    ∷ at 14500 1 (sends (port_of site_one) (asks_votes site_two 2 14500))
    ∷ at 14500 1 (sends (port_of arbitrator) (asks_votes site_two 2 14500))
    ∷ at 14500 1 (sends client (is_open site_two 2 14500))
    ∷ at 14510 2 (hears (port_of site_two) (asks_votes site_two 2 14500))
    ∷ at 14510 2 (reads 14510)
    ∷ at 14510 2 (sends (port_of site_two) (votes arbitrator site_two 2 14510))
    ∷ at 14520 1 (hears (port_of arbitrator) (votes arbitrator site_two 2 14510))
    ∷ at 14520 1 (reads 14520)
    ∷ at 14520 1 (keeps (lease 2 20500))
    ∷ at 15000 0 (hears client grant_it)
    ∷ at 15000 0 (reads 15000)
    ∷ at 15000 0 (keeps (term 1))
    ∷ at 15000 0 (sends (port_of site_two) (asks_votes site_one 1 15000))
    ∷ at 15000 0 (sends (port_of arbitrator) (asks_votes site_one 1 15000))
    ∷ at 15000 0 (sends client (is_open site_one 1 15000))
    ∷ at 15010 0 (hears (port_of site_two) (votes site_two site_one 1 7010))
    ∷ at 15010 0 (reads 15010)
    ∷ at 15010 0 (keeps (lease 1 21000))
    ∷ [])

-- ---- without 'nothing held'

-- Each of two sites begins with a record of a lease in force, and starts from it.
abbrev pub with_leases_at_first : World
with_leases_at_first =
    record with_foreign_records { begins = λ m. record { second = false; records = λ name. lease 1 6000 } }

-- ---- without 'members speak'

-- Both sites get a request from a client, and open a round. No member votes, but each site gets a forged vote of the
-- other.
abbrev pub with_forged_votes : World
with_forged_votes = world_with two_sites (
    at 0 0 (starts two_sites site_one 0 None)
    ∷ at 0 1 (starts two_sites site_two 0 None)
    ∷ at 7000 0 (hears client grant_it)
    ∷ at 7000 0 (reads 7000)
    ∷ at 7000 0 (keeps (term 1))
    ∷ at 7000 0 (sends (port_of site_two) (asks_votes site_one 1 7000))
    ∷ at 7000 0 (sends client (is_open site_one 1 7000))
    ∷ at 7000 1 (hears client grant_it)
    ∷ at 7000 1 (reads 7000)
    ∷ at 7000 1 (keeps (term 1))
    ∷ at 7000 1 (sends (port_of site_one) (asks_votes site_two 1 7000))
    ∷ at 7000 1 (sends client (is_open site_two 1 7000))
    ∷ at 7100 0 (hears (port_of site_two) (votes site_two site_one 1 7000))
    ∷ at 7100 0 (reads 7100)
    ∷ at 7100 0 (keeps (lease 1 13000))
    ∷ at 7100 1 (hears (port_of site_one) (votes site_one site_two 1 7000))
    ∷ at 7100 1 (reads 7100)
    ∷ at 7100 1 (keeps (lease 1 13000))
    ∷ [])

-- ---- without 'one configuration'

abbrev pub other_alone : List Member
other_alone = site_two ∷ []

-- According to its own configuration each of two sites is the only member, so it needs no other vote.
abbrev pub with_two_configurations : World
with_two_configurations = world_with two_sites (
    at 0 0 (starts alone site_one 0 None)
    ∷ at 0 1 (starts other_alone site_two 0 None)
    ∷ at 7000 0 (hears client grant_it)
    ∷ at 7000 0 (reads 7000)
    ∷ at 7000 0 (keeps (term 1))
    ∷ at 7000 0 (keeps (lease 1 13000))
    ∷ at 7000 1 (hears client grant_it)
    ∷ at 7000 1 (reads 7000)
    ∷ at 7000 1 (keeps (term 1))
    ∷ at 7000 1 (keeps (lease 1 13000))
    ∷ [])

-- ---- without 'true clocks'

-- The readings of a clock that runs at twice the rate of true time.
abbrev pub double_clock : List ℕ
double_clock = map (λ time. 2 * time) (range_with_len 0 60000)

-- The clocks of the members: site two has the fast one.
abbrev pub one_is_fast : ℕ → List ℕ
one_is_fast zero = exact_clock
one_is_fast (suc zero) = double_clock
one_is_fast (suc (suc m)) = exact_clock

-- Site two votes for site one, but by its own clock that lease is over in half the time. Then it gets a request for
-- the ticket, and the arbitrator votes for it.
abbrev pub with_a_fast_clock : World
with_a_fast_clock = world_by one_is_fast three_members (
    at 0 0 (starts three_members site_one 0 None)
    ∷ at 0 1 (starts three_members site_two 0 None)
    ∷ at 0 2 (starts three_members arbitrator 0 None)
    ∷ at 7000 0 (hears client grant_it)
    ∷ at 7000 0 (reads 7000)
    ∷ at 7000 0 (keeps (term 1))
    ∷ at 7000 0 (sends (port_of site_two) (asks_votes site_one 1 7000))
    ∷ at 7000 0 (sends (port_of arbitrator) (asks_votes site_one 1 7000))
    ∷ at 7000 0 (sends client (is_open site_one 1 7000))
    ∷ at 7010 1 (hears (port_of site_one) (asks_votes site_one 1 7000))
    ∷ at 7010 1 (reads 14020)
    ∷ at 7010 1 (sends (port_of site_one) (votes site_two site_one 1 14020))
    ∷ at 7010 1 (sends (port_of site_one) (asks_state site_two 1 14020))
    ∷ at 7010 1 (sends (port_of arbitrator) (asks_state site_two 1 14020))
    ∷ at 7020 0 (hears (port_of site_two) (votes site_two site_one 1 14020))
    ∷ at 7020 0 (reads 7020)
    ∷ at 7020 0 (keeps (lease 1 13000))
    ∷ at 10100 1 (hears client grant_it)
    ∷ at 10100 1 (reads 20200)
    ∷ at 10100 1 (keeps (term 2))
    ∷ at 10100 1 (sends (port_of site_one) (asks_votes site_two 2 20200))
    ∷ at 10100 1 (sends (port_of arbitrator) (asks_votes site_two 2 20200))
    ∷ at 10100 1 (sends client (is_open site_two 2 20200))
    ∷ at 10110 2 (hears (port_of site_two) (asks_votes site_two 2 20200))
    ∷ at 10110 2 (reads 10110)
    ∷ at 10110 2 (sends (port_of site_two) (votes arbitrator site_two 2 10110))
    ∷ at 10120 1 (hears (port_of arbitrator) (votes arbitrator site_two 2 10110))
    ∷ at 10120 1 (reads 20240)
    ∷ at 10120 1 (keeps (lease 2 26200))
    ∷ [])

-- The clock of each other member is true, and all readings are readings of the clocks.
pub record AreTrueBut (broken : ℕ) (w : World) : Type 0 where
  pub long : (m : ℕ) → m < members_of w → length (w.clock m) ≡ w.span
  pub clocks : (m : ℕ) → m < members_of w → m ≢ broken → IsClock w.ticks (w.clock m)
  pub read : AtEach w (λ before entry. ReadsClock w entry entry.what)

-- ---- without 'one daemon'

-- Two daemons of the arbitrator start, and neither knows what the other answered.
abbrev pub daemon_starts : SessionEntry
daemon_starts = starts three_members arbitrator 0 None

abbrev pub votes_for_one : List SessionEntry
votes_for_one =
    hears (port_of site_one) (asks_votes site_one 1 7000)
    ∷ reads 7010
    ∷ sends (port_of site_one) (votes arbitrator site_one 1 7010)
    ∷ sends (port_of site_one) (asks_state arbitrator 1 7010)
    ∷ sends (port_of site_two) (asks_state arbitrator 1 7010)
    ∷ []

abbrev pub votes_for_two : List SessionEntry
votes_for_two =
    hears (port_of site_two) (asks_votes site_two 1 8000)
    ∷ reads 8010
    ∷ sends (port_of site_two) (votes arbitrator site_two 1 8010)
    ∷ []

-- The entries of this member are the entries of two daemons. Each daemon alone does what a daemon does.
pub record HasTwoDaemons (w : World) (m : ℕ) (start : SessionEntry) (first second : List SessionEntry) : Type 0 where
  pub entries : entries_of m w.entries ≡ start ∷ start ∷ first ++ second
  pub first_alone : AreSessions Down (start ∷ first)
  pub second_alone : AreSessions Down (start ∷ second)

-- Each daemon votes for another site, in the same term.
abbrev pub with_two_daemons : World
with_two_daemons = world_with three_members (
    at 0 0 (starts three_members site_one 0 None)
    ∷ at 0 1 (starts three_members site_two 0 None)
    ∷ at 0 2 daemon_starts
    ∷ at 0 2 daemon_starts
    ∷ at 7000 0 (hears client grant_it)
    ∷ at 7000 0 (reads 7000)
    ∷ at 7000 0 (keeps (term 1))
    ∷ at 7000 0 (sends (port_of site_two) (asks_votes site_one 1 7000))
    ∷ at 7000 0 (sends (port_of arbitrator) (asks_votes site_one 1 7000))
    ∷ at 7000 0 (sends client (is_open site_one 1 7000))
    ∷ at 7010 2 (hears (port_of site_one) (asks_votes site_one 1 7000))
    ∷ at 7010 2 (reads 7010)
    ∷ at 7010 2 (sends (port_of site_one) (votes arbitrator site_one 1 7010))
    ∷ at 7010 2 (sends (port_of site_one) (asks_state arbitrator 1 7010))
    ∷ at 7010 2 (sends (port_of site_two) (asks_state arbitrator 1 7010))
    ∷ at 7020 0 (hears (port_of arbitrator) (votes arbitrator site_one 1 7010))
    ∷ at 7020 0 (reads 7020)
    ∷ at 7020 0 (keeps (lease 1 13000))
    ∷ at 8000 1 (hears client grant_it)
    ∷ at 8000 1 (reads 8000)
    ∷ at 8000 1 (keeps (term 1))
    ∷ at 8000 1 (sends (port_of site_one) (asks_votes site_two 1 8000))
    ∷ at 8000 1 (sends (port_of arbitrator) (asks_votes site_two 1 8000))
    ∷ at 8000 1 (sends client (is_open site_two 1 8000))
    ∷ at 8010 2 (hears (port_of site_two) (asks_votes site_two 1 8000))
    ∷ at 8010 2 (reads 8010)
    ∷ at 8010 2 (sends (port_of site_two) (votes arbitrator site_two 1 8010))
    ∷ at 8020 1 (hears (port_of arbitrator) (votes arbitrator site_two 1 8010))
    ∷ at 8020 1 (reads 8020)
    ∷ at 8020 1 (keeps (lease 1 14000))
    ∷ [])
