-- The worlds without one premise pass the tests of the others, and two hold in them.
use Rattle.std.proofs.Common.{◌≡◌, ◌≢◌, ℕ, ◌<◌, zero, suc, refl, arith, length, ◌∷◌}
use Rattle.std.specs.Prelude.{◌*◌}
use Rattle.std.proofs.lemmas.List.FromFn.{length-range_with_len, length-map-range_with_len}
use Rattle.booth_node.specs.Clock.{IsClock}
use Rattle.booth_node.specs.Session.{AreSessions, Down}
use Rattle.booth_node.specs.World.{entries_of}
use Rattle.booth_rec.specs.Record.{no_record}
use Rattle.booth_examples.specs.PremiseExamples.{with_foreign_records, with_leases_at_first, with_forged_votes, with_two_configurations, with_a_fast_clock, with_two_daemons, with_a_lost_record, AreTrueBut, HasTwoDaemons, daemon_starts, votes_for_one, votes_for_two}
use Rattle.booth_examples.specs.Premises.{SameMembers, TrueClocks, RecordsReturn, VersionsRise, MembersSpeak, OneDaemon, NothingHeld, IsWorldBut, TwoHold}
use Rattle.booth_examples.specs.VersionExamples.{with_a_falling_version}
use Rattle.booth_examples.specs.WorldExamples.{web}
use Rattle.booth_examples.proofs.CheckLemmas.{lack_one, begin_free}
use Rattle.booth_examples.proofs.Clocks.{exact_clocks, true_clock}
use Rattle.booth_examples.proofs.Computing.{worlds_compute}
use Rattle.booth_examples.proofs.HoldingLemmas.{two_hold}
use Rattle.booth_examples.proofs.SessionLemmas.{sessions_are}
use Rattle.booth_examples.proofs.WorldLemmas.{readings_are}

pub foreign_but : IsWorldBut RecordsReturn with_foreign_records
unfolding worlds_compute
foreign_but =
    lack_one with_foreign_records RecordsReturn (λ other. begin_free with_foreign_records (λ m. no_record) (λ m name. refl) (λ m. refl))
    (λ other. exact_clocks with_foreign_records refl refl (λ m. refl)) refl

pub foreign_two : TwoHold with_foreign_records
unfolding worlds_compute
foreign_two = two_hold with_foreign_records web 0 1 5999 refl

pub first_but : IsWorldBut NothingHeld with_leases_at_first
unfolding worlds_compute
first_but =
    lack_one with_leases_at_first NothingHeld (λ other. absurd (other refl))
    (λ other. exact_clocks with_leases_at_first refl refl (λ m. refl)) refl

pub first_two : TwoHold with_leases_at_first
unfolding worlds_compute
first_two = two_hold with_leases_at_first web 0 1 5999 refl

pub forged_but : IsWorldBut MembersSpeak with_forged_votes
unfolding worlds_compute
forged_but =
    lack_one with_forged_votes MembersSpeak (λ other. begin_free with_forged_votes (λ m. no_record) (λ m name. refl) (λ m. refl))
    (λ other. exact_clocks with_forged_votes refl refl (λ m. refl)) refl

pub forged_two : TwoHold with_forged_votes
unfolding worlds_compute
forged_two = two_hold with_forged_votes web 0 1 12999 refl

pub configured_but : IsWorldBut SameMembers with_two_configurations
unfolding worlds_compute
configured_but =
    lack_one with_two_configurations SameMembers (λ other. begin_free with_two_configurations (λ m. no_record) (λ m name. refl) (λ m. refl))
    (λ other. exact_clocks with_two_configurations refl refl (λ m. refl)) refl

pub configured_two : TwoHold with_two_configurations
unfolding worlds_compute
configured_two = two_hold with_two_configurations web 0 1 12999 refl

pub fast_but : IsWorldBut TrueClocks with_a_fast_clock
unfolding worlds_compute
fast_but =
    lack_one with_a_fast_clock TrueClocks (λ other. begin_free with_a_fast_clock (λ m. no_record) (λ m name. refl) (λ m. refl))
    (λ other. absurd (other refl)) refl

pub fast_two : TwoHold with_a_fast_clock
unfolding worlds_compute
fast_two = two_hold with_a_fast_clock web 0 1 12000 refl

pub daemons_but : IsWorldBut OneDaemon with_two_daemons
unfolding worlds_compute
daemons_but =
    lack_one with_two_daemons OneDaemon (λ other. begin_free with_two_daemons (λ m. no_record) (λ m name. refl) (λ m. refl))
    (λ other. exact_clocks with_two_daemons refl refl (λ m. refl)) refl

pub daemons_two : TwoHold with_two_daemons
unfolding worlds_compute
daemons_two = two_hold with_two_daemons web 0 1 12999 refl

pub falling_but : IsWorldBut VersionsRise with_a_falling_version
unfolding worlds_compute
falling_but =
    lack_one with_a_falling_version VersionsRise (λ other. begin_free with_a_falling_version (λ m. no_record) (λ m name. refl) (λ m. refl))
    (λ other. exact_clocks with_a_falling_version refl refl (λ m. refl)) refl

pub falling_two : TwoHold with_a_falling_version
unfolding worlds_compute
falling_two = two_hold with_a_falling_version web 0 1 25999 refl

pub lost_but : IsWorldBut RecordsReturn with_a_lost_record
unfolding worlds_compute
lost_but =
    lack_one with_a_lost_record RecordsReturn (λ other. begin_free with_a_lost_record (λ m. no_record) (λ m name. refl) (λ m. refl))
    (λ other. exact_clocks with_a_lost_record refl refl (λ m. refl)) refl

pub lost_two : TwoHold with_a_lost_record
unfolding worlds_compute
lost_two = two_hold with_a_lost_record web 0 1 20499 refl

-- ---- the other clocks of a world with a fast one

pub others_are_true : AreTrueBut 1 with_a_fast_clock
others_are_true = record { long = long; clocks = clocks; read = readings_are with_a_fast_clock refl }
  where
    long : (m : ℕ) → m < 3 → length (with_a_fast_clock.clock m) ≡ 60000
    long zero below = length-range_with_len 0 60000
    long (suc zero) below = length-map-range_with_len (λ (time : ℕ). 2 * time) 0 60000
    long (suc (suc m)) below = length-range_with_len 0 60000

    clocks : (m : ℕ) → m < 3 → m ≢ 1 → IsClock 1 (with_a_fast_clock.clock m)
    clocks zero below other = true_clock 60000 (omega arith)
    clocks (suc zero) below other = absurd (other refl)
    clocks (suc (suc m)) below other = true_clock 60000 (omega arith)

-- ---- the two daemons of one member, and the daemons of the sites

pub two_daemons : HasTwoDaemons with_two_daemons 2 daemon_starts votes_for_one votes_for_two
unfolding worlds_compute
two_daemons = record {
  entries = refl;
  first_alone = sessions_are Down (daemon_starts ∷ votes_for_one) refl;
  second_alone = sessions_are Down (daemon_starts ∷ votes_for_two) refl;
}

pub sites_have_one : (m : ℕ) → m < 2 → AreSessions Down (entries_of m with_two_daemons.entries)
unfolding worlds_compute
sites_have_one zero below = sessions_are Down (entries_of 0 with_two_daemons.entries) refl
sites_have_one (suc zero) below = sessions_are Down (entries_of 1 with_two_daemons.entries) refl
sites_have_one (suc (suc m)) below = absurd (omega (arith, below))
