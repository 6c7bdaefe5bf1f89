-- The state of a ticket as it is printed: a line of text, or a JSON object (RFC 8259) on a line.
use Rattle.std.specs.Prelude.{◌++◌, ◌==◌, ◌||◌, ℕ, List, [], ◌∷◌, Option, Some, None, codes, decimal, flat_map, unwrap_or, if◌then◌else◌}
use Rattle.std.specs.List.{find}
use Rattle.booth_base.specs.Address.{printed}
use Rattle.booth_base.specs.declared.address.MemberId.{MemberId}
use Rattle.booth_base.specs.declared.address.TheConstants.{NO_ONE}
use Rattle.booth_conf.specs.Config.{ConfigSays, has_id}
use Rattle.booth_conf.specs.declared.members.Member.{Member}
use Rattle.booth_wire.specs.declared.message.TicketPart.{TicketPart}
use Rattle.booth_wire.specs.PlainMessage.{Content, Ticket}
use Rattle.booth_talk.specs.declared.order.Style.{Style}
use Rattle.booth_talk.specs.declared.order.Style.TheVariants.{Line, Json}
use Rattle.booth_talk.specs.declared.standing.TheConstants.{ENDLESS}

-- ---- the state in the reply

-- The address of a member. For a member that the configuration does not have, it is a word.
abbrev pub member_text : Option Member → List ℕ
member_text (Some member) = printed member.address
member_text None = codes "unknown"

-- The holder, if the reply names one.
abbrev pub holder_in : ConfigSays → MemberId → Option (List ℕ)
holder_in config id = if id.0 == NO_ONE.0 then None else Some (member_text (find (has_id id) config.members))

-- The term of the lease, which only its holder reports.
abbrev pub term_in : ℕ → Option ℕ
term_in term = if term == 0 then None else Some term

-- The seconds that are left of the lease, if it has an end.
abbrev pub seconds_in : ℕ → Option ℕ
seconds_in seconds = if seconds == 0 || seconds == ENDLESS then None else Some seconds

-- ---- as a line of text

-- A number after its label, if there is a number.
abbrev pub labelled_number : List ℕ → Option ℕ → List ℕ
labelled_number label (Some number) = label ++ decimal number
labelled_number label None = []

abbrev pub line_text : ConfigSays → TicketPart → List ℕ
line_text config part =
    codes "ticket: " ++ part.ticket ++ codes ", holder: " ++ unwrap_or (holder_in config part.leader) (codes "none")
    ++ labelled_number (codes ", term: ") (term_in part.term)
    ++ labelled_number (codes ", seconds left: ") (seconds_in part.valid_for) ++ codes "\n"

-- ---- as an object

-- A byte of a string. A quotation mark and a reverse solidus get another reverse solidus in front.
abbrev pub escaped_byte : ℕ → List ℕ
escaped_byte b = if b == 0x22 || b == 0x5C then 0x5C ∷ b ∷ [] else b ∷ []

abbrev pub string_text : List ℕ → List ℕ
string_text bytes = codes "\"" ++ flat_map escaped_byte bytes ++ codes "\""

abbrev pub string_or_null : Option (List ℕ) → List ℕ
string_or_null (Some bytes) = string_text bytes
string_or_null None = codes "null"

abbrev pub number_or_null : Option ℕ → List ℕ
number_or_null (Some number) = decimal number
number_or_null None = codes "null"

abbrev pub object_text : ConfigSays → TicketPart → List ℕ
object_text config part =
    codes "{\"ticket\":" ++ string_text part.ticket ++ codes ",\"holder\":" ++ string_or_null (holder_in config part.leader)
    ++ codes ",\"term\":" ++ number_or_null (term_in part.term)
    ++ codes ",\"seconds_left\":" ++ number_or_null (seconds_in part.valid_for) ++ codes "}\n"

-- ---- the output for a reply

abbrev pub ticket_text : Style → ConfigSays → TicketPart → List ℕ
ticket_text Line config part = line_text config part
ticket_text Json config part = object_text config part

-- The output for a reply in this style. A reply without a ticket has no text.
abbrev pub standing_text : Style → ConfigSays → Content → List ℕ
standing_text style config (Ticket part) = ticket_text style config part
standing_text style config content = []
