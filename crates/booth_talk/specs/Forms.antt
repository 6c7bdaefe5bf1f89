-- The forms of a daemon's texts: their lines, and how each line is printed.
use Rattle.std.specs.Prelude.{◌≡◌, ◌<◌, ◌+◌, ◌++◌, ◌==◌, ℕ, zero, suc, true, List, [], ◌∷◌, codes, length, get_or, if◌then◌else◌}
use Rattle.std.specs.List.{slice_split}
use Rattle.std.specs.Str.Parse.{digits_value}
use Rattle.booth_base.specs.Name.{is_name}
use Rattle.booth_talk.specs.declared.lines.Form.{Form}
use Rattle.booth_talk.specs.declared.lines.Form.TheVariants as forms
use Rattle.booth_talk.specs.declared.lines.LineKind.{LineKind}
use Rattle.booth_talk.specs.declared.lines.LineKind.TheVariants.{Ticket, Drops, Member}
use Rattle.booth_talk.specs.Civil.{date_text}
use Rattle.booth_talk.specs.Fields.{first, rest, IsNumber, IsOwner, IsPrinted, IsRole}

-- ---- a ticket: NAME OWNER SECS

pub record IsTicketLine (line : List ℕ) : Type 0 where
  pub name : is_name (first line) ≡ true
  pub owner : IsOwner (first (rest line))
  pub until : IsNumber (rest (rest line))

-- The text with the end of a lease, if there is one.
abbrev pub expiry : ℕ → List ℕ
expiry seconds = if seconds == 0 then [] else codes ", expires: " ++ date_text seconds

abbrev pub shown_ticket : List ℕ → List ℕ
shown_ticket line =
    codes "ticket: " ++ first line ++ codes ", leader: " ++ first (rest line)
    ++ expiry (digits_value 10 (rest (rest line))) ++ codes "\n"

-- ---- numbers with one blank between them

-- The text is one number more than this many, with one blank between them.
abbrev pub AreNumbers : ℕ → List ℕ → Type 0
AreNumbers zero text = IsNumber text
AreNumbers (suc more) text = IsNumber (first text) × AreNumbers more (rest text)

-- The text with each number after its label.
unfoldable pub labelled : List (List ℕ) → List ℕ → List ℕ
labelled [] text = []
labelled (label ∷ labels) text = label ++ first text ++ labelled labels (rest text)

-- ---- dropped datagrams: `dropped` and eight numbers

pub record IsDropsLine (line : List ℕ) : Type 0 where
  pub word : first line ≡ codes "dropped"
  pub numbers : AreNumbers 7 (rest line)

abbrev pub drop_labels : List (List ℕ)
drop_labels =
    codes "dropped: frame " ∷ codes ", nomac " ∷ codes ", badmac " ∷ codes ", old " ∷ codes ", stranger "
    ∷ codes ", self " ∷ codes ", ticket " ∷ codes ", leader " ∷ []

abbrev pub shown_drops : List ℕ → List ℕ
shown_drops line = labelled drop_labels (rest line) ++ codes "\n"

-- ---- a member: KIND ADDRESS LAST ACCEPTED SENT ERRORS

pub record IsMemberLine (line : List ℕ) : Type 0 where
  pub role : IsRole (first line)
  pub address : IsPrinted (first (rest line))
  pub numbers : AreNumbers 3 (rest (rest line))

-- The text with the time at which the last datagram arrived, if one did.
abbrev pub last_text : ℕ → List ℕ
last_text seconds = if seconds == 0 then codes "never" else date_text seconds

abbrev pub member_labels : List (List ℕ)
member_labels = codes ", received: " ∷ codes ", sent: " ∷ codes ", errors: " ∷ []

abbrev pub shown_member : List ℕ → List ℕ
shown_member line =
    first line ++ codes " " ++ first (rest line) ++ codes ", last: "
    ++ last_text (digits_value 10 (first (rest (rest line))))
    ++ labelled member_labels (rest (rest (rest line))) ++ codes "\n"

-- ---- texts

-- The kind of line at a place.
abbrev pub kind_at : Form → ℕ → LineKind
kind_at forms.List place = Ticket
kind_at forms.Peers zero = Drops
kind_at forms.Peers (suc place) = Member

abbrev pub IsLine : LineKind → List ℕ → Type 0
IsLine Ticket line = IsTicketLine line
IsLine Drops line = IsDropsLine line
IsLine Member line = IsMemberLine line

abbrev pub shown_line : LineKind → List ℕ → List ℕ
shown_line Ticket line = shown_ticket line
shown_line Drops line = shown_drops line
shown_line Member line = shown_member line

-- The lines between line feeds.
abbrev pub lines_of : List ℕ → List (List ℕ)
lines_of text = slice_split (λ b. b == 0x0A) text

-- Each line has the form that its place in the text requires.
abbrev pub AreLines : Form → List (List ℕ) → Type 0
AreLines form lines = (place : ℕ) → place < length lines → IsLine (kind_at form place) (get_or lines place [])

-- The lines as they are printed. The first of them is at this place.
unfoldable pub shown_from : Form → ℕ → List (List ℕ) → List ℕ
shown_from form place [] = []
shown_from form place (line ∷ lines) = shown_line (kind_at form place) line ++ shown_from form (place + 1) lines

-- A text has this form: some lines, each with a line feed at its end.
pub record IsOf (form : Form) (text : List ℕ) : Type 0 where
  pub body : List ℕ
  pub ended : text ≡ body ++ codes "\n"
  pub each : AreLines form (lines_of body)
