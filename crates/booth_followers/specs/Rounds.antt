-- The rounds of a service: turns until the daemon is silent, after which the keys are read again.
use Rattle.std.specs.Prelude.{◌≡◌, ◌++◌, ℕ, List, [], ◌∷◌, length, Option, Some, None, Result, Ok, Err, codes}
use Rattle.booth_keys.specs.declared.ring.Ring.{Ring}
use Rattle.booth_conf.specs.Config.{ConfigSays}
use Rattle.booth_following.specs.declared.following.Following.{Following}
use Rattle.booth_following.specs.declared.following.Seat.{Seat}
use Rattle.booth_following.specs.declared.turns.FollowEnd.{FollowEnd}
use Rattle.booth_following.specs.declared.turns.FollowEnd.TheVariants.{Left, Spent, Unheard}
use Rattle.booth_following.specs.Following.{under}
use Rattle.booth_following.specs.Turns.{AreTurnsTo, IsFollowed, first_seat}
use Rattle.booth_host.specs.declared.entry.Entry.{Entry}
use Rattle.booth_outcomes.specs.declared.outcome.Outcome.{Outcome}
use Rattle.booth_outcomes.specs.declared.outcome.Outcome.TheVariants as outs
use Rattle.booth_outcomes.specs.declared.outcome.Ended.{Ended}
use Rattle.booth_outcomes.specs.Configuration.{IsConfigRead}
use Rattle.booth_outcomes.specs.Keys.{IsRingRead}
use Rattle.booth_followers.specs.declared.rounds.TheConstants.{MOST_ROUNDS}

-- ---- the keys

-- the ring that was read
abbrev pub ring_in : Result (Option Ring) Ended → Option Ring
ring_in (Ok ring) = ring
ring_in (Err ended) = None

-- the configuration was read, and then the key files that it names. The reads stop at the first file without a key
pub record AreFilesRead (conf : List ℕ) (found : Option Ring) (entries : List Entry) : Type 0 where
  pub config : ConfigSays
  pub answer : Result (Option Ring) Ended
  pub first : List Entry
  pub rest : List Entry
  pub read : IsConfigRead conf (Ok config) first
  pub keys : IsRingRead config answer rest
  pub found_is : found ≡ ring_in answer
  pub whole : entries ≡ first ++ rest

-- the configuration could not be read, and no key file was read
pub record IsUnconfigured (conf : List ℕ) (found : Option Ring) (entries : List Entry) : Type 0 where
  pub ended : Ended
  pub unread : IsConfigRead conf (Err ended) entries
  pub found_is : found ≡ None

-- the reads of the configuration and of its key files, and the keys that were found
pub data AreKeysRead (conf : List ℕ) (found : Option Ring) (entries : List Entry) : Type 0 where
  Configured : AreFilesRead conf found entries → AreKeysRead conf found entries
  Unconfigured : IsUnconfigured conf found entries → AreKeysRead conf found entries

-- the following with the keys that were found: if there are none, with those from before
abbrev pub rekeyed : Following → Option Ring → Following
rekeyed f None = f
rekeyed f (Some ring) = under f (Some ring)

-- the keys were read again, and one following became another
pub record IsReadAgain (conf : List ℕ) (f g : Following) (entries : List Entry) : Type 0 where
  pub found : Option Ring
  pub read : AreKeysRead conf found entries
  pub same : g ≡ rekeyed f found

-- ---- one round

-- A round: the calls of its turns, the calls of its reads, and the following with its seat after the round.
pub record Round : Type 0 where
  pub turns : List Entry
  pub reads : List Entry
  pub following : Following
  pub seat : Seat

pub record IsRound (conf : List ℕ) (f : Following) (seat : Seat) (round : Round) : Type 0 where
  pub followed : IsFollowed f seat round.seat Unheard round.turns
  pub read : IsReadAgain conf f round.following round.reads

-- ---- round after round

unfoldable pub AreRounds : List ℕ → Following → Seat → List Round → Type 0
AreRounds conf f seat [] = Unit {0}
AreRounds conf f seat (r ∷ rs) = IsRound conf f seat r × AreRounds conf r.following r.seat rs

unfoldable pub following_behind : Following → List Round → Following
following_behind f [] = f
following_behind f (r ∷ rs) = following_behind r.following rs

unfoldable pub seat_behind : Seat → List Round → Seat
seat_behind seat [] = seat
seat_behind seat (r ∷ rs) = seat_behind r.seat rs

unfoldable pub calls_of : List Round → List Entry
calls_of [] = []
calls_of (r ∷ rs) = (r.turns ++ r.reads) ++ calls_of rs

-- this many rounds, after which this is the following, with this seat
pub record AreMade (conf : List ℕ) (f g : Following) (from to : Seat) (count : ℕ) (entries : List Entry)
    : Type 0 where
  pub rounds : List Round
  pub number : length rounds ≡ count
  pub are : AreRounds conf f from rounds
  pub keyed : following_behind f rounds ≡ g
  pub stands : seat_behind from rounds ≡ to
  pub whole : entries ≡ calls_of rounds

-- ---- the end

-- a run ends in the way that its following does
abbrev pub EndsAs : FollowEnd → Outcome → List ℕ → Type 0
EndsAs Left outs.Done said = said ≡ []
EndsAs Spent outs.TurnsSpent said = said ≡ codes "turns spent"
EndsAs end outcome said = ⊥

-- the last turns, after the rounds
pub record IsLastOf (f : Following) (from : Seat) (outcome : Outcome) (said : List ℕ) (entries : List Entry) : Type 0 where
  pub end : FollowEnd
  pub to : Seat
  pub followed : IsFollowed f from to end entries
  pub ends : EndsAs end outcome said

-- rounds, and then turns up to an end
pub record IsFinished (left : Option ℕ) (conf : List ℕ) (f : Following) (outcome : Outcome) (said : List ℕ)
    (entries : List Entry) : Type 0 where
  pub g : Following
  pub seat : Seat
  pub count : ℕ
  pub before : List Entry
  pub last : List Entry
  pub made : AreMade conf f g (first_seat f left) seat count before
  pub here : IsLastOf g seat outcome said last
  pub whole : entries ≡ before ++ last

-- all rounds were made
pub record IsExhausted (left : Option ℕ) (conf : List ℕ) (f : Following) (outcome : Outcome) (said : List ℕ)
    (entries : List Entry) : Type 0 where
  pub g : Following
  pub seat : Seat
  pub made : AreMade conf f g (first_seat f left) seat MOST_ROUNDS entries
  pub ends : EndsAs Spent outcome said

-- the service follows its ticket up to an end
pub data IsService (left : Option ℕ) (conf : List ℕ) (f : Following) (outcome : Outcome) (said : List ℕ)
    (entries : List Entry) : Type 0 where
  Finished : IsFinished left conf f outcome said entries → IsService left conf f outcome said entries
  Exhausted : IsExhausted left conf f outcome said entries → IsService left conf f outcome said entries

-- ---- the turns of all rounds

unfoldable pub turn_calls_of : List Round → List Entry
turn_calls_of [] = []
turn_calls_of (r ∷ rs) = r.turns ++ turn_calls_of rs

-- The turns of all rounds, in sequence, are turns of one following, whatever keys were read between the rounds. So each
-- law on the turns of a following holds for them.
abbrev pub RoundsAreTurns : Type 0
RoundsAreTurns = (conf : List ℕ) (f : Following) (seat : Seat) (rounds : List Round)
    → AreRounds conf f seat rounds → AreTurnsTo f seat (seat_behind seat rounds) (turn_calls_of rounds)
