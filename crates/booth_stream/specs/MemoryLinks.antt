-- Links in memory: the calls that they record, and the answers that their script determines.
use Rattle.std.specs.Prelude.{◌≡◌, ◌+◌, ◌-◌, ◌==◌, ℕ, List, [], Option, None, Some, MatchOption, Result, Ok, is_err, true, if◌then◌else◌, slice_get, length, take, min}
use Rattle.booth_host.specs.declared.host.Failed.{Failed}
use Rattle.booth_stream.specs.declared.link_call.LinkCall.{LinkCall}
use Rattle.booth_stream.specs.declared.links.LinkEvent.{LinkEvent}
use Rattle.booth_stream.specs.declared.links.LinkEvent.TheVariants.{Quiet}
use Rattle.booth_stream.specs.declared.memory_links.LinkStep.{LinkStep}
use Rattle.booth_stream.specs.declared.memory_links.MemoryLinks.{MemoryLinks}
use Rattle.booth_stream.specs.declared.piece.TheConstants.{PIECE_BYTES}

abbrev pub links_past : MemoryLinks → Option (List LinkCall)
links_past links = if links.tells then Some links.calls.items else None

-- the step that runs, once one has begun
abbrev pub running : MemoryLinks → Option LinkStep
running links = if links.begun == 0 then None else slice_get links.script.items (links.begun - 1)

-- the step that a poll begins
abbrev pub coming : MemoryLinks → Option LinkStep
coming links = slice_get links.script.items links.begun

-- the result of the next step: its event with its bytes, or nothing after the last step
abbrev pub IsPolled : Option LinkStep → Result LinkEvent Failed → List ℕ → Type 0
IsPolled None answer bytes = (answer ≡ Ok Quiet) × (bytes ≡ [])
IsPolled (Some step) answer bytes = (answer ≡ step.event)
    × (bytes ≡ take (min (length step.bytes) PIECE_BYTES) step.bytes)

-- the number of bytes that a write takes, or `None` if the write fails; before the first step it takes all bytes
abbrev pub takes_of : Option LinkStep → ℕ → Option ℕ
takes_of None most = Some most
takes_of (Some step) most = if step.takes == 0 then None else Some (min step.takes most)

abbrev pub Takes : Option ℕ → Result ℕ Failed → Type 0
Takes None answer = is_err answer ≡ true
Takes (Some taken) answer = answer ≡ Ok taken

-- links made from this script, with room for this many written bytes, before their first step
pub record IsNew (links : MemoryLinks) (script : List LinkStep) (most : ℕ) : Type 0 where
  pub runs : links.script.items ≡ script
  pub begun : links.begun ≡ 0
  pub room : links.room ≡ most
  pub tells : links_past links ≡ Some []
  pub faults : links.faults ≡ 0

-- no step begins
pub record Stays (old new : MemoryLinks) : Type 0 where
  pub script : new.script ≡ old.script
  pub begun : new.begun ≡ old.begun

-- the next step begins, if one is left
pub record Begins (old new : MemoryLinks) : Type 0 where
  pub script : new.script ≡ old.script
  pub begun : MatchOption (coming old) (new.begun ≡ old.begun) (λ step. new.begun ≡ old.begun + 1)
