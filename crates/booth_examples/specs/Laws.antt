-- Laws of the tests: a world that passes a test has the tested property.
use Rattle.std.specs.Prelude.{◌≡◌, ◌≢◌, ℕ, ◌<◌, true, List, length}
use Rattle.booth_conf.specs.declared.tickets.TicketConf.{TicketConf}
use Rattle.booth_rec.specs.declared.record.Record.{Record}
use Rattle.booth_node.specs.Clock.{IsClock}
use Rattle.booth_node.specs.World.{World, IsWorld, IsSecondWorld, BeginsFree, members_of, begins_with, clock_at}
use Rattle.booth_examples.specs.Checks.{is_world, is_world_but, is_second_world, holds_nothing}
use Rattle.booth_examples.specs.Holding.{holds_at, two_hold_at}
use Rattle.booth_examples.specs.Premises.{Premise, NothingHeld, TrueClocks, IsWorldBut, HoldsAt, TwoHold}

-- Each member has a clock that drifts within the bounds.
pub record HasGoodClocks (w : World) : Type 0 where
  pub ticking : 0 < w.ticks
  pub some : 0 < w.span
  pub long : (m : ℕ) → m < members_of w → length (w.clock m) ≡ w.span
  pub clocks : (m : ℕ) → m < members_of w → IsClock w.ticks (w.clock m)

abbrev pub CheckedWorldsAreWorlds : Type 0
CheckedWorldsAreWorlds = (w : World) → BeginsFree w → HasGoodClocks w → is_world w ≡ true → IsWorld w

-- The test of a world that lacks one premise. The test leaves out the clocks and the beginnings, so these are
-- premises of the law, unless they are the missing premise.
abbrev pub CheckedWorldsLackOne : Type 0
CheckedWorldsLackOne =
    (w : World) (broken : Premise) → (NothingHeld ≢ broken → BeginsFree w) → (TrueClocks ≢ broken → HasGoodClocks w)
    → is_world_but broken w ≡ true → IsWorldBut broken w

-- If each member begins with the same record for all of its tickets, and this record holds nothing, then every member
-- begins free.
abbrev pub CheckedBeginningsAreFree : Type 0
CheckedBeginningsAreFree =
    (w : World) (kept : ℕ → Record) → ((m : ℕ) (name : List ℕ) → begins_with w m name ≡ kept m)
    → ((m : ℕ) → holds_nothing w m (clock_at w m 0) (kept m) ≡ true) → BeginsFree w

abbrev pub CheckedHoldersHold : Type 0
CheckedHoldersHold =
    (w : World) (ticket : TicketConf) (m time : ℕ) → holds_at w ticket m time ≡ true → HoldsAt w ticket m time

abbrev pub CheckedTwoHold : Type 0
CheckedTwoHold =
    (w : World) (ticket : TicketConf) (m n time : ℕ) → two_hold_at w ticket m n time ≡ true → TwoHold w

abbrev pub CheckedSecondWorlds : Type 0
CheckedSecondWorlds = (w : World) → is_second_world w ≡ true → IsSecondWorld w
