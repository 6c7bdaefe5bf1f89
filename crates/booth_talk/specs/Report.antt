-- The output for a reply.
use Rattle.std.specs.Prelude.{◌≡◌, ◌++◌, ◌⊎◌, ◌==◌, ℕ, Bool, true, false, List, [], Ok, codes, if◌then◌else◌}
use Rattle.booth_wire.specs.declared.codes.results.TheConstants.{ASYN}
use Rattle.booth_wire.specs.PlainMessage.{PlainMessage, Content, Ticket, Attr}
use Rattle.booth_wire.specs.Reading.{decoded}
use Rattle.booth_talk.specs.declared.lines.Form.{Form}
use Rattle.booth_talk.specs.declared.lines.Form.TheVariants as forms
use Rattle.booth_conf.specs.Config.{ConfigSays}
use Rattle.booth_talk.specs.declared.order.Asking.{Asking}
use Rattle.booth_talk.specs.declared.order.Order.{Order}
use Rattle.booth_talk.specs.declared.order.Order.TheVariants as orders
use Rattle.booth_talk.specs.Replies.{text_in}
use Rattle.booth_talk.specs.Forms.{IsOf, lines_of, shown_from}
use Rattle.booth_talk.specs.Standing.{standing_text}

-- A text with this form is printed line by line, and any other text is printed unchanged.
abbrev pub IsShown : Form → List ℕ → List ℕ → Type 0
IsShown form text shown =
    ((of : IsOf form text) × (shown ≡ shown_from form 0 (lines_of of.body)))
    ⊎ ((IsOf form text → ⊥) × (shown ≡ text))

-- The ticket in a reply, and the value of the attribute in a reply.
abbrev pub ticket_in : Content → List ℕ
ticket_in (Ticket part) = part.ticket
ticket_in content = []

abbrev pub value_in : Content → List ℕ
value_in (Attr part) = part.value
value_in content = []

-- The output for a grant that was begun, or that was done.
abbrev pub grant_text : ℕ → List ℕ → List ℕ
grant_text result ticket =
    if result == ASYN then codes "grant of " ++ ticket ++ codes " requested\n"
    else codes "ticket " ++ ticket ++ codes " granted\n"

abbrev pub revoke_text : ℕ → List ℕ → List ℕ
revoke_text result ticket =
    if result == ASYN then codes "revoke of " ++ ticket ++ codes " requested\n"
    else codes "ticket " ++ ticket ++ codes " revoked\n"

-- A good reply has no output.
abbrev pub is_silent : Order → Bool
is_silent (orders.SetAttribute ticket name value) = true
is_silent (orders.DeleteAttribute ticket name) = true
is_silent order = false

-- The client asks whether the daemon runs.
abbrev pub is_status : Order → Bool
is_status orders.Status = true
is_status order = false

-- The output for a list with this text.
abbrev pub IsListReport : List ℕ → List ℕ → Type 0
IsListReport text report = IsShown forms.List text report

-- The output for a daemon that answers, and so runs.
abbrev pub running_text : List ℕ
running_text = codes "booth daemon is running\n"

-- The output for a reply to this order, in a cluster with this configuration. A value is a line, and attributes are
-- printed as the daemon lists them.
abbrev pub Reports : ConfigSays → Order → PlainMessage → List ℕ → Type 0
Reports config orders.List m report = IsListReport (text_in m.content) report
Reports config (orders.Show ticket style) m report = report ≡ standing_text style config m.content
Reports config orders.Peers m report = IsShown forms.Peers (text_in m.content) report
Reports config orders.Status m report = report ≡ running_text
Reports config (orders.Grant ticket options) m report = report ≡ grant_text m.head.result (ticket_in m.content)
Reports config (orders.Revoke ticket options) m report = report ≡ revoke_text m.head.result (ticket_in m.content)
Reports config (orders.SetAttribute ticket name value) m report = report ≡ []
Reports config (orders.GetAttribute ticket name) m report = report ≡ value_in m.content ++ codes "\n"
Reports config (orders.DeleteAttribute ticket name) m report = report ≡ []
Reports config (orders.ListAttributes ticket) m report = report ≡ text_in m.content

-- The output for a reply to the request.
abbrev pub IsReport : Asking → PlainMessage → List ℕ → Type 0
IsReport asking m report = Reports asking.config asking.order m report

-- ---- the output for bytes

-- The output for the reply that these bytes spell.
pub record IsReportOf (asking : Asking) (bytes report : List ℕ) : Type 0 where
  pub reply : PlainMessage
  pub read : decoded bytes ≡ Ok reply
  pub is : IsReport asking reply report
