-- The world of version 2 with a fast clock is an untimed one, and two hold in it.
use Rattle.std.proofs.Common.{◌≡◌, ℕ, ◌<◌, zero, suc, refl, arith, length}
use Rattle.std.specs.Prelude.{◌*◌, map, slice_index}
use Rattle.std.specs.List.{range_with_len}
use Rattle.std.proofs.lemmas.List.FromFn.{length-range_with_len, length-map-range_with_len, get_or-map-range_with_len}
use Rattle.booth_node.specs.Clock.{IsRising, IsClock}
use Rattle.booth_node.specs.World.{IsUntimedWorld, IsSecondWorld, HasRisingClocks}
use Rattle.booth_rec.specs.Record.{no_record}
use Rattle.booth_examples.specs.PremiseExamples.{double_clock}
use Rattle.booth_examples.specs.Premises.{SameMembers, TrueClocks, RecordsReturn, VersionsRise, MembersSpeak, OneDaemon, NothingHeld, IsWorldBut, TwoHold}
use Rattle.booth_examples.specs.VersionExamples.{fast_in_second}
use Rattle.booth_examples.specs.WorldExamples.{web}
use Rattle.booth_examples.proofs.CheckLemmas.{lack_one, second_worlds_are, begin_free}
use Rattle.booth_examples.proofs.Clocks.{true_clock}
use Rattle.booth_examples.proofs.Computing.{worlds_compute}
use Rattle.booth_examples.proofs.HoldingLemmas.{two_hold}
use Rattle.booth_examples.proofs.WorldLemmas.{readings_are}

fast_but : IsWorldBut TrueClocks fast_in_second
unfolding worlds_compute
fast_but =
    lack_one fast_in_second TrueClocks (λ other. begin_free fast_in_second (λ m. no_record) (λ m name. refl) (λ m. refl))
    (λ other. absurd (other refl)) refl

-- ---- its clocks

double_rises : IsRising double_clock
double_rises = record {
  rises = λ a b ab h. let x = at a (omega (arith, ab, h)) in let y = at b h in omega (arith, x, y, ab);
  small = λ t h. let x = at t h in let n = short t h in omega (arith, x, n);
}
  where
    short : (t : ℕ) → t < length double_clock → t < 60000
    short t below = let e = length-map-range_with_len (λ (time : ℕ). 2 * time) 0 60000 in omega (arith, below, e)

    at : (t : ℕ) → t < length double_clock → slice_index double_clock t ≡ 2 * t
    at t below = get_or-map-range_with_len (λ (time : ℕ). 2 * time) 0 60000 t t 0 (short t below) (omega arith)

clocks_rise : HasRisingClocks fast_in_second
clocks_rise = record { some = omega arith; long = long; rising = rising; read = readings_are fast_in_second refl }
  where
    long : (m : ℕ) → m < 3 → length (fast_in_second.clock m) ≡ 60000
    long zero below = length-range_with_len 0 60000
    long (suc zero) below = length-map-range_with_len (λ (time : ℕ). 2 * time) 0 60000
    long (suc (suc m)) below = length-range_with_len 0 60000

    rising : (m : ℕ) → m < 3 → IsRising (fast_in_second.clock m)
    rising zero below = (true_clock 60000 (omega arith)).rising
    rising (suc zero) below = double_rises
    rising (suc (suc m)) below = (true_clock 60000 (omega arith)).rising

-- ---- the world

pub fast_is_untimed : IsUntimedWorld fast_in_second
fast_is_untimed = record {
  form = fast_but.0;
  nothing_held = fast_but.1 NothingHeld (λ e. cc);
  same_members = fast_but.1 SameMembers (λ e. cc);
  rising_clocks = clocks_rise;
  records_return = fast_but.1 RecordsReturn (λ e. cc);
  versions_rise = fast_but.1 VersionsRise (λ e. cc);
  members_speak = fast_but.1 MembersSpeak (λ e. cc);
  one_daemon = fast_but.1 OneDaemon (λ e. cc);
}

pub fast_is_second : IsSecondWorld fast_in_second
fast_is_second = second_worlds_are fast_in_second refl

pub fast_two_hold : TwoHold fast_in_second
unfolding worlds_compute
fast_two_hold = two_hold fast_in_second web 0 1 12000 refl
