-- A place of a host over streams, with its cutter.
use Rattle.std.specs.Prelude.{◌≡◌, ◌++◌, ℕ, false, List, [], ◌∷◌, Option, None, Some}
use Rattle.booth_base.specs.declared.address.Peer.{Peer}
use Rattle.booth_stream.specs.Cut.{begins_whole}
use Rattle.booth_stream.specs.Feeding.{Held}
use Rattle.booth_stream.specs.Places.{OpenLink, NoFrame, GivesFrame, is_broken}
use Rattle.booth_stream.specs.declared.slot.Caller.{Caller}
use Rattle.booth_stream.specs.declared.link_call.LinkCall.{LinkCall}
use Rattle.booth_stream.specs.declared.link_call.LinkCall.TheVariants.{Close}

-- who opened the link, the bytes in the cutter, and those that the cutter has not taken yet
pub record PlainSlot : Type 0 where
  pub caller : Option Caller
  pub held : Held
  pub later : List ℕ

abbrev pub called : Option Caller → List ℕ → Option OpenLink
called None rest = None
called (Some caller) rest = Some (record { number = caller.number; peer = caller.peer; rest = rest })

-- the link of a slot
abbrev pub link_in : PlainSlot → Option OpenLink
link_in slot = called slot.caller (slot.held.rest ++ slot.later)

-- the cutter has taken all bytes, or is broken
abbrev pub IsFed : PlainSlot → Type 0
IsFed slot = slot.held.broken ≡ false → slot.later ≡ []

-- the cutter has taken all bytes
abbrev pub IsIdle : PlainSlot → Type 0
IsIdle slot = slot.later ≡ []

-- there is no whole frame, and the cutter has checked it
pub record IsDry (slot : PlainSlot) : Type 0 where
  pub fed : IsFed slot
  pub none : NoFrame (link_in slot)

-- the bytes begin with no whole frame, and one may follow
abbrev pub IsWaiting : List ℕ → Type 0
IsWaiting rest = (begins_whole rest ≡ false) × (is_broken rest ≡ false)

-- all bytes are taken, there is no whole frame, and the link is not broken
abbrev pub IsAtRest : PlainSlot → Type 0
IsAtRest slot = IsIdle slot × ((link : OpenLink) → link_in slot ≡ Some link → IsWaiting link.rest)

-- a frame is returned, or there is none
abbrev pub GivesFrom : PlainSlot → Option Peer → List ℕ → PlainSlot → Type 0
GivesFrom old (Some peer) bytes new = GivesFrame (link_in old) peer bytes (link_in new)
GivesFrom old None bytes new = (link_in new ≡ link_in old) × IsDry new

-- the call that closes a link
abbrev pub closes : Option ℕ → List LinkCall
closes None = []
closes (Some number) = Close number ∷ []
