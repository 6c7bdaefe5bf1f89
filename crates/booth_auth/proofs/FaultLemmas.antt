-- The gate tells the first condition that holds.
use Rattle.std.specs.Prelude.{◌==◌}
use Rattle.std.proofs.Common.{◌≡◌, ℕ, Bool, true, false, cond, List, [], ◌∷◌, Option, Some, Result, Ok, Err, refl}
use Rattle.booth_base.specs.declared.address.MemberId.{MemberId}
use Rattle.booth_conf.specs.Config.{ConfigSays}
use Rattle.booth_keys.specs.declared.ring.Ring.{Ring}
use Rattle.booth_wire.specs.declared.message.FrameFault.{FrameFault}
use Rattle.booth_wire.specs.Faults.{fault_of, first_of}
use Rattle.booth_wire.specs.PlainMessage.{PlainMessage}
use Rattle.booth_wire.specs.Reading.{decoded}
use Rattle.booth_auth.specs.declared.admission.DropFault.{DropFault}
use Rattle.booth_auth.specs.declared.admission.DropFault.TheVariants as faults
use Rattle.booth_auth.specs.Laws.{GateTellsFirstFault, conditions}
use Rattle.booth_auth.specs.Verdict.{has_wrong_mac, is_stranger, is_too_old, judged, judged_if_read, lacks_mac, names_no_leader, names_no_ticket, part_of_member}

-- a test in front of a verdict, and its condition in front of the others
tested : {A : Type 0} (b : Bool) (fault : DropFault) (verdict : Result A DropFault) (others : List (Bool × DropFault))
    → fault_of verdict ≡ first_of others → fault_of (cond b (Err fault) verdict) ≡ first_of ((b, fault) ∷ others)
tested true fault verdict others e = refl
tested false fault verdict others e = e

-- what is judged behind each test, and the conditions that are left there
module _ (config : ConfigSays) (ring : Option Ring) (me : MemberId) (now : ℕ) (bytes : List ℕ) (l : PlainMessage) where
  abbrev from_leader : Result PlainMessage DropFault
  from_leader = cond (names_no_leader config l.head (part_of_member l)) (Err faults.Leader) (Ok l)

  abbrev from_ticket : Result PlainMessage DropFault
  from_ticket = cond (names_no_ticket config (part_of_member l)) (Err faults.Ticket) from_leader

  abbrev from_own : Result PlainMessage DropFault
  from_own = cond (l.head.from.0 == me.0) (Err faults.Own) from_ticket

  abbrev from_stranger : Result PlainMessage DropFault
  from_stranger = cond (is_stranger config l.head) (Err faults.Stranger) from_own

  abbrev from_age : Result PlainMessage DropFault
  from_age = cond (is_too_old ring config.skew now l.head) (Err faults.TooOld) from_stranger

  abbrev from_mac : Result PlainMessage DropFault
  from_mac = cond (has_wrong_mac ring bytes) (Err faults.BadMac) from_age

  abbrev leader_faults : List (Bool × DropFault)
  leader_faults = (names_no_leader config l.head (part_of_member l), faults.Leader) ∷ []

  abbrev ticket_faults : List (Bool × DropFault)
  ticket_faults = (names_no_ticket config (part_of_member l), faults.Ticket) ∷ leader_faults

  abbrev own_faults : List (Bool × DropFault)
  own_faults = (l.head.from.0 == me.0, faults.Own) ∷ ticket_faults

  abbrev stranger_faults : List (Bool × DropFault)
  stranger_faults = (is_stranger config l.head, faults.Stranger) ∷ own_faults

  abbrev age_faults : List (Bool × DropFault)
  age_faults = (is_too_old ring config.skew now l.head, faults.TooOld) ∷ stranger_faults

  abbrev mac_faults : List (Bool × DropFault)
  mac_faults = (has_wrong_mac ring bytes, faults.BadMac) ∷ age_faults

  of_read : fault_of (judged config ring me now bytes l) ≡ first_of (conditions config ring me now bytes l)
  of_read =
      tested (lacks_mac ring l.head) faults.NoMac from_mac mac_faults
      (tested (has_wrong_mac ring bytes) faults.BadMac from_age age_faults
      (tested (is_too_old ring config.skew now l.head) faults.TooOld from_stranger stranger_faults
      (tested (is_stranger config l.head) faults.Stranger from_own own_faults
      (tested (l.head.from.0 == me.0) faults.Own from_ticket ticket_faults
      (tested (names_no_ticket config (part_of_member l)) faults.Ticket from_leader leader_faults
      (tested (names_no_leader config l.head (part_of_member l)) faults.Leader (Ok l) [] refl))))))

of_bytes : (config : ConfigSays) (ring : Option Ring) (me : MemberId) (now : ℕ) (bytes : List ℕ) (read : Result PlainMessage FrameFault)
    → fault_of (judged_if_read config ring me now bytes read) ≡ (elim read [
      | Ok l ↦ first_of (conditions config ring me now bytes l)
      | Err fault ↦ Some (faults.Frame fault)
    ])
of_bytes config ring me now bytes (Ok l) = of_read config ring me now bytes l
of_bytes config ring me now bytes (Err fault) = refl

pub tells_first_fault : GateTellsFirstFault
tells_first_fault config ring me now bytes = of_bytes config ring me now bytes (decoded bytes)
