-- The seven premises of a world, by name, and the meaning of a premise being needed.
use Rattle.std.specs.Prelude.{◌≡◌, ◌≢◌, ℕ, ◌<◌}
use Rattle.booth_conf.specs.declared.tickets.TicketConf.{TicketConf}
use Rattle.booth_node.specs.Session.{Down, AreSessions}
use Rattle.booth_node.specs.World.{World, members_of, entries_of, AtEach, HasForm, BeginsFree, HasConfiguration, HasTrueClocks, ReadsKept, StaysSecond, HearsSent, stand_after}
use Rattle.booth_node.specs.Held.{Moment, IsAutomatic, Holds}

pub data Premise : Type 0 where
  NothingHeld : Premise
  SameMembers : Premise
  TrueClocks : Premise
  RecordsReturn : Premise
  VersionsRise : Premise
  MembersSpeak : Premise
  OneDaemon : Premise

-- The world meets the premise.
abbrev pub Meets : World → Premise → Type 0
Meets w NothingHeld = BeginsFree w
Meets w SameMembers = AtEach w (λ before entry. HasConfiguration w entry entry.what)
Meets w TrueClocks = HasTrueClocks w
Meets w RecordsReturn = AtEach w (λ before entry. ReadsKept w before entry entry.what)
Meets w VersionsRise = AtEach w (λ before entry. StaysSecond w before entry entry.what)
Meets w MembersSpeak = AtEach w (λ before entry. HearsSent w before (stand_after entry.member before) entry.what)
Meets w OneDaemon = (m : ℕ) → m < members_of w → AreSessions Down (entries_of m w.entries)

-- A world that lacks this premise. It has the form of a world, and meets each other premise.
abbrev pub IsWorldBut : Premise → World → Type 0
IsWorldBut broken w = HasForm w × ((premise : Premise) → premise ≢ broken → Meets w premise)

-- At the same moment two members hold an automatic ticket.
pub record TwoHold (w : World) : Type 0 where
  pub ticket : TicketConf
  pub automatic : IsAutomatic w ticket
  pub moment : Moment w
  pub first : ℕ
  pub second : ℕ
  pub two : first ≢ second
  pub first_holds : Holds w ticket first moment
  pub second_holds : Holds w ticket second moment

-- At a moment with this true time a member holds an automatic ticket.
pub record HoldsAt (w : World) (ticket : TicketConf) (member time : ℕ) : Type 0 where
  pub automatic : IsAutomatic w ticket
  pub moment : Moment w
  pub at : moment.time ≡ time
  pub holds : Holds w ticket member moment

-- If two members hold, the missing premise is not met.
abbrev pub PremisesAreNeeded : Type 0
PremisesAreNeeded = (w : World) (broken : Premise) → IsWorldBut broken w → TwoHold w → Meets w broken → ⊥
