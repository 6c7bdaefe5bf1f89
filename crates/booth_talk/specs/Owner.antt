-- The owner of a ticket in a list.
use Rattle.std.specs.Prelude.{◌≡◌, ◌<◌, List, ℕ, [], length, get_or}
use Rattle.booth_base.specs.declared.address.Address.{Address}
use Rattle.booth_base.specs.Address.{printed}
use Rattle.booth_talk.specs.Fields.{first, rest}
use Rattle.booth_talk.specs.Forms.{lines_of}

-- The line is about the ticket, and names this owner.
pub record IsOwnerLine (ticket owner line : List ℕ) : Type 0 where
  pub of_ticket : first line ≡ ticket
  pub named : first (rest line) ≡ owner

-- The text has a line that names this owner of the ticket.
abbrev pub HasOwnerLine : List ℕ → List ℕ → List ℕ → Type 0
HasOwnerLine ticket owner text =
    (place : ℕ) × (place < length (lines_of text)) × IsOwnerLine ticket owner (get_or (lines_of text) place [])

-- A line of the list names the member at this address as the owner of the ticket.
abbrev pub ShowsOwner : List ℕ → Address → List ℕ → Type 0
ShowsOwner ticket owner text = HasOwnerLine ticket (printed owner) text
