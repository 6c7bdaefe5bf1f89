-- What a follower learns from an arrival.
use Rattle.std.specs.Prelude.{◌≡◌, ◌==◌, ◌&&◌, ◌||◌, ℕ, zero, pos, ℤ, Bool, List, Option, Some, None, Result, Ok, Err, if◌then◌else◌}
use Rattle.booth_wire.specs.declared.codes.results.TheConstants.{MORE, SUCCESS}
use Rattle.booth_wire.specs.declared.command.Cmd.TheVariants.{RLst}
use Rattle.booth_wire.specs.declared.message.FrameFault.{FrameFault}
use Rattle.booth_wire.specs.Command.{code_of}
use Rattle.booth_wire.specs.PlainMessage.{PlainMessage, Content, Text}
use Rattle.booth_wire.specs.Reading.{decoded}
use Rattle.booth_auth.specs.Verdict.{is_signed}
use Rattle.booth_host.specs.declared.host.Arrival.{Arrival}
use Rattle.booth_host.specs.declared.host.Arrival.TheVariants.{Datagram, Handler, Stop}
use Rattle.booth_host.specs.declared.host.Failed.{Failed as DeviceFailed}
use Rattle.booth_follow_rule.specs.declared.news.News.{News}
use Rattle.booth_follow_rule.specs.declared.news.News.TheVariants as news
use Rattle.booth_follow_rule.specs.declared.news.RunEnd.{RunEnd}
use Rattle.booth_follow_rule.specs.declared.news.RunEnd.TheVariants.{Done, Failed}
use Rattle.booth_following.specs.declared.following.Following.{Following}
use Rattle.booth_following.specs.declared.standing.Standing.{Standing}
use Rattle.booth_following.specs.Asking.{number_of}
use Rattle.booth_following.specs.Lists.{IsShownIn, Part, TellsOf}
use Rattle.booth_following.specs.Standing.{standing_in}

-- ---- lists

-- the result of a list's part: More, and 0 for the last part
abbrev pub is_of_list : ℕ → Bool
is_of_list result = (result == SUCCESS) || (result == MORE)

-- a part with which this site answers the request for a list that was sent at a reading
abbrev pub is_answer : Following → ℕ → PlainMessage → Bool
is_answer f asked m =
    (code_of m.head.cmd == code_of RLst)
    && ((m.head.request == number_of asked) && ((m.head.from.0 == f.me.0) && is_of_list m.head.result))

-- the part is the whole list: the first part and the last
abbrev pub is_whole : PlainMessage → Bool
is_whole m = (m.head.options == 0) && (m.head.result == SUCCESS)

abbrev pub part_of : Bool → Content → Option Part
part_of whole (Text text) = Some (record { whole = whole; text = text })
part_of whole content = None

abbrev pub part_read : Following → ℕ → List ℕ → Result PlainMessage FrameFault → Option Part
part_read f asked bytes (Ok m) =
    if is_signed f.ring m.head bytes
    then (if is_answer f asked m then part_of (is_whole m) m.content else None) else None
part_read f asked bytes (Err fault) = None

-- The part of a list in these bytes: they are a message, it has the MAC if there is a key, and it is this site's
-- answer.
unfoldable pub part_in : Following → ℕ → List ℕ → Option Part
part_in f asked bytes = part_read f asked bytes (decoded bytes)

-- What a part says: what its text shows of the ticket, if it covers the ticket, and otherwise nothing.
abbrev pub IsTold : Following → Option Part → News → Type 0
IsTold f (Some part) (news.List shown) = TellsOf f.ticket part × IsShownIn f.line part.text shown
IsTold f (Some part) news.Nothing = TellsOf f.ticket part → ⊥
IsTold f (Some part) heard = ⊥
IsTold f None heard = heard ≡ news.Nothing

-- the state of the ticket by an answer about it, or else what a part of a list says
abbrev pub IsAnswered : Following → Option Standing → Option Part → News → Type 0
IsAnswered f (Some standing) read heard = heard ≡ news.List standing.shown
IsAnswered f None read heard = IsTold f read heard

-- what the bytes of a datagram say to a follower that sent its requests at this reading
abbrev pub IsHeard : Following → Option ℕ → List ℕ → News → Type 0
IsHeard f (Some asked) bytes heard = IsAnswered f (standing_in f asked bytes) (part_in f asked bytes) heard
IsHeard f None bytes heard = heard ≡ news.Nothing

-- ---- arrivals

abbrev pub how_of : ℤ → RunEnd
how_of (pos zero) = Done
how_of status = Failed

-- What an arrival says. The failure of a run that could not be started is reported in place of an arrival, but not in
-- place of the end.
abbrev pub IsNews : Following → Option ℕ → Option ℕ → Result Arrival DeviceFailed → List ℕ → News → Type 0
IsNews f asked failed (Ok Stop) bytes heard = heard ≡ news.Stop
IsNews f asked (Some run) answer bytes heard = heard ≡ news.End run Failed
IsNews f asked None (Ok (Datagram peer)) bytes heard = IsHeard f asked bytes heard
IsNews f asked None (Ok (Handler job status)) bytes heard = heard ≡ news.End job (how_of status)
IsNews f asked None answer bytes heard = heard ≡ news.Nothing

-- the failed run that remains to be reported
abbrev pub failed_left : Option ℕ → Result Arrival DeviceFailed → Option ℕ
failed_left failed (Ok Stop) = failed
failed_left failed answer = None
