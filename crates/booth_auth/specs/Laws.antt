-- Laws of the gate and of sealed messages.
use Rattle.std.specs.Prelude.{◌≡◌, ◌≢◌, ◌↔◌, ◌⊎◌, ◌==◌, ◌&&◌, ℕ, ◌+◌, ◌*◌, ◌^◌, ◌<◌, ◌≤◌, nat_le, Bool, true, false, T, List, [], ◌∷◌, Option, Some, None, is_some, Ok, Err}
use Rattle.booth_base.specs.declared.address.MemberId.{MemberId}
use Rattle.booth_conf.specs.Config.{ConfigSays}
use Rattle.booth_keys.specs.declared.ring.Hash.{Hash}
use Rattle.booth_keys.specs.declared.ring.Ring.{Ring}
use Rattle.booth_wire.specs.declared.command.Direction.TheVariants.{BetweenMembers}
use Rattle.booth_wire.specs.Command.{direction_of}
use Rattle.booth_wire.specs.PlainMessage.{PlainMessage}
use Rattle.booth_wire.specs.Faults.{fault_of, first_of}
use Rattle.booth_wire.specs.Reading.{decoded}
use Rattle.booth_wire.specs.Spelling.{Fits}
use Rattle.booth_auth.specs.declared.admission.DropFault.{DropFault}
use Rattle.booth_auth.specs.declared.admission.DropFault.TheVariants as faults
use Rattle.booth_auth.specs.Verdict.{verdict, lacks_mac, has_wrong_mac, is_too_old, is_stranger, is_member, part_of_member, names_no_ticket, names_no_leader}
use Rattle.booth_auth.specs.Sealed.{sealed, stamped}

-- The bytes spell the message, and none of the other seven faults applies.
pub record HasNoFault (config : ConfigSays) (ring : Option Ring) (me : MemberId) (now : ℕ)
    (bytes : List ℕ) (l : PlainMessage) : Type 0 where
  pub read : decoded bytes ≡ Ok l
  pub signed : lacks_mac ring l.head ≡ false
  pub right : has_wrong_mac ring bytes ≡ false
  pub fresh : is_too_old ring config.skew now l.head ≡ false
  pub known : is_stranger config l.head ≡ false
  pub other : l.head.from.0 == me.0 ≡ false
  pub ticket : names_no_ticket config (part_of_member l) ≡ false
  pub leader : names_no_leader config l.head (part_of_member l) ≡ false

-- The gate accepts a message exactly if it has none of the faults.
abbrev pub GateLetsIn : Type 0
GateLetsIn =
    (config : ConfigSays) (ring : Option Ring) (me : MemberId) (now : ℕ) (bytes : List ℕ)
    (l : PlainMessage) →
    (verdict config ring me now bytes ≡ Ok l) ↔ HasNoFault config ring me now bytes l

-- The seven conditions under which the gate drops a frame that it could read, each by itself, in the order of the
-- faults.
abbrev pub conditions : ConfigSays → Option Ring → MemberId → ℕ → List ℕ → PlainMessage → List (Bool × DropFault)
conditions config ring me now bytes l =
    (lacks_mac ring l.head, faults.NoMac)
    ∷ (has_wrong_mac ring bytes, faults.BadMac)
    ∷ (is_too_old ring config.skew now l.head, faults.TooOld)
    ∷ (is_stranger config l.head, faults.Stranger)
    ∷ (l.head.from.0 == me.0, faults.Own)
    ∷ (names_no_ticket config (part_of_member l), faults.Ticket)
    ∷ (names_no_leader config l.head (part_of_member l), faults.Leader)
    ∷ []

-- the first of all eight faults: the fault of bytes that are not a frame comes before the other seven
abbrev pub first_fault : ConfigSays → Option Ring → MemberId → ℕ → List ℕ → Option DropFault
first_fault config ring me now bytes = elim (decoded bytes) [
  | Ok l ↦ first_of (conditions config ring me now bytes l)
  | Err fault ↦ Some (faults.Frame fault)
]

-- The gate returns the first fault, and accepts a datagram without one.
abbrev pub GateTellsFirstFault : Type 0
GateTellsFirstFault =
    (config : ConfigSays) (ring : Option Ring) (me : MemberId) (now : ℕ) (bytes : List ℕ) →
    fault_of (verdict config ring me now bytes) ≡ first_fault config ring me now bytes

-- A sealed message is read as itself, if its `auth` says correctly whether there is a key.
abbrev pub SealedIsRead : Type 0
SealedIsRead =
    (ring : Option Ring) (l : PlainMessage) → Fits l → l.head.auth ≡ is_some ring →
    decoded (sealed ring l) ≡ Ok l

-- a member's command about a configured ticket, with a leader that it may name
pub record IsMemberCommand (config : ConfigSays) (l : PlainMessage) : Type 0 where
  pub direction : direction_of l.head.cmd ≡ BetweenMembers
  pub sender : is_member config l.head.from ≡ true
  pub ticket : names_no_ticket config (part_of_member l) ≡ false
  pub leader : names_no_leader config l.head (part_of_member l) ≡ false

-- A ring has this key, as its first or as its old one.
abbrev pub HasKey : Ring → List ℕ → Type 0
HasKey ring key = (ring.first ≡ key) ⊎ (ring.old ≡ Some key)

-- One ring accepts the frames that the other one seals: it has the key with which the other one seals, or it has no
-- keys.
abbrev pub IsTrusted : Option Ring → Option Ring → Type 0
IsTrusted None other = other ≡ None
IsTrusted (Some ring) None = Unit {0}
IsTrusted (Some ring) (Some other) = HasKey other ring.first

-- A message that a member seals at `now` is accepted by every other member that has the key of the seal, with either
-- hash, if that member's clock is at most `skew` seconds ahead. (The field of the seconds is full in 2106.)
abbrev pub SealedIsAccepted : Type 0
SealedIsAccepted =
    (config : ConfigSays) (ring others : Option Ring) (other : MemberId) (now later : ℕ) (l : PlainMessage) →
    IsTrusted ring others → Fits (stamped ring now l) → IsMemberCommand config l → l.head.from.0 ≢ other.0 →
    now < 1000 * 2 ^ 32 → later ≤ now + 1000 * config.skew →
    verdict config others other later (sealed ring (stamped ring now l)) ≡ Ok (stamped ring now l)

-- ---- the change of a key, member by member

-- The steps of a change: a member has only the old key; it also has the new one; it seals with the new one, and still
-- has the old one; it has only the new one.
pub data Stage : Type 0 where
  Old : Stage
  Learning : Stage
  Changed : Stage
  New : Stage

-- the ring of a stage, with any hash
abbrev pub ring_at : Stage → List ℕ → List ℕ → Hash → Ring
ring_at Old before after hash = record { first = before; old = None; hash = hash }
ring_at Learning before after hash = record { first = before; old = Some after; hash = hash }
ring_at Changed before after hash = record { first = after; old = Some before; hash = hash }
ring_at New before after hash = record { first = after; old = None; hash = hash }

-- the stages in their order
abbrev pub place_of : Stage → ℕ
place_of Old = 0
place_of Learning = 1
place_of Changed = 2
place_of New = 3

-- the same stage, or the one before or after it
abbrev pub AreNeighbours : Stage → Stage → Type 0
AreNeighbours one other =
    T (nat_le (place_of one) (place_of other + 1) && nat_le (place_of other) (place_of one + 1))

-- Members at one stage of a change, or at two neighbouring stages, accept each other, with either hash.
abbrev pub KeysChangeOneByOne : Type 0
KeysChangeOneByOne =
    (before after : List ℕ) (here there : Stage) (one other : Hash) → AreNeighbours here there →
    IsTrusted (Some (ring_at here before after one)) (Some (ring_at there before after other))
