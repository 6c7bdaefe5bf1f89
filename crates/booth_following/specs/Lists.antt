-- What a daemon's list shows of a ticket.
use Rattle.std.specs.Prelude.{◌≡◌, ◌<◌, ◌*◌, ◌^◌, ◌++◌, ◌==◌, ◌⊎◌, ℕ, Bool, true, List, [], codes, decimal, length, get_or, Option, Some, None}
use Rattle.std.specs.List.{slice_split}
use Rattle.booth_base.specs.declared.address.Address.{Address}
use Rattle.booth_base.specs.Address.{printed}
use Rattle.booth_follow_rule.specs.declared.news.Shown.{Shown}
use Rattle.booth_follow_rule.specs.declared.news.Shown.TheVariants.{Here, Elsewhere}

-- the beginning of the ticket's line while the site at this address holds the ticket
abbrev pub line_start : List ℕ → Address → List ℕ
line_start ticket local = ticket ++ (codes " " ++ (printed local ++ codes " "))

-- A line with this beginning reports an end in whole seconds, without the fraction of a second: so it is no later
-- than that.
pub record IsLine (start line : List ℕ) (until : ℕ) : Type 0 where
  pub seconds : ℕ
  pub spelled : line ≡ start ++ decimal seconds
  pub millis : until ≡ seconds * 1000
  pub small : until < 2 ^ 64

-- the lines between line feeds
abbrev pub lines_of : List ℕ → List (List ℕ)
lines_of text = slice_split (λ b. b == 0x0A) text

-- If a line of the text reports an end for this site, the text shows this site until that end. Otherwise it shows
-- another site or nobody.
abbrev pub IsShownIn : List ℕ → List ℕ → Shown → Type 0
IsShownIn start text (Here until) =
    (place : ℕ) × (place < length (lines_of text)) × IsLine start (get_or (lines_of text) place []) until
IsShownIn start text Elsewhere =
    (place until : ℕ) → place < length (lines_of text) → IsLine start (get_or (lines_of text) place []) until → ⊥

-- a line of the ticket, whoever holds it: it begins with the ticket's name and a space
abbrev pub IsOf : List ℕ → List ℕ → Type 0
IsOf ticket line = (rest : List ℕ) × (line ≡ ticket ++ (codes " " ++ rest))

abbrev pub HasLine : List ℕ → List ℕ → Type 0
HasLine ticket text = (place : ℕ) × (place < length (lines_of text)) × IsOf ticket (get_or (lines_of text) place [])

-- ---- parts

-- a part of a list: whether it is the whole list, and its text
pub record Part : Type 0 where
  pub whole : Bool
  pub text : List ℕ

-- It covers the ticket: it is the whole list, even without a line of the ticket, or it has a line of the ticket.
abbrev pub TellsOf : List ℕ → Part → Type 0
TellsOf ticket part = (part.whole ≡ true) ⊎ HasLine ticket part.text

-- ---- in the code

abbrev pub BeginsLine : List ℕ → List ℕ → Option (List ℕ) → Type 0
BeginsLine start line (Some rest) = line ≡ start ++ rest
BeginsLine start line None = (rest : List ℕ) → line ≡ start ++ rest → ⊥

abbrev pub IsUntil : List ℕ → List ℕ → Option ℕ → Type 0
IsUntil start line (Some until) = IsLine start line until
IsUntil start line None = (until : ℕ) → IsLine start line until → ⊥
