-- The comparison of the first call left in a journal with the call that is requested.
use Rattle.std.specs.Prelude.{◌≡◌, ◌&&◌, not, ℕ, Bool, List, [], ◌∷◌, bytes_eq, codes, if◌then◌else◌}
use Rattle.std.specs.Prelude.{Option, None, Some, Result, Ok, Err}
use Rattle.booth_host.specs.declared.host.Arrival.{Arrival}
use Rattle.booth_host.specs.declared.host.Arrival.TheVariants as arrivals
use Rattle.booth_host.specs.declared.host.Failed.{Failed}
use Rattle.booth_journal.specs.declared.said.Answer.{Answer}
use Rattle.booth_journal.specs.Lines.{call_text}
use Rattle.booth_journal.specs.Looking.{begins_with_open}
use Rattle.booth_journal.specs.Says.{Said}
use Rattle.booth_audit.specs.declared.end.End.{End}
use Rattle.booth_audit.specs.declared.end.End.TheVariants.{Over, Cut, Differs}

-- ---- one call

abbrev pub is_now_text : List ℕ → Bool
is_now_text text = bytes_eq (codes "now") text

-- Whether a reading of the clock begins a start. If a reading is requested and the next call opens no socket, it is
-- the requested reading instead.
abbrev pub begins_start : List ℕ → List ℕ → List Said → Bool
begins_start text call more = is_now_text call && not (is_now_text text && not (begins_with_open more))

abbrev pub by_answer : Option Answer → Result Answer End
by_answer (Some answer) = Ok answer
by_answer None = Err Cut

abbrev pub judged_by : List ℕ → List ℕ → Option Answer → List Said → Result Answer End
judged_by text call answer more =
    if begins_start text call more then Err Over else
    if bytes_eq text call then by_answer answer else Err Differs

-- The answer of the first call, if the call has this text. Otherwise the result is how the lines end.
abbrev pub judged : List ℕ → List Said → Result Answer End
judged text [] = Err Over
judged text (said ∷ more) = judged_by text (call_text said.call) said.answer more

-- ---- bytes

-- An arrival without a datagram has no bytes.
abbrev pub HasBytes : Result Arrival Failed → List ℕ → Type 0
HasBytes (Ok (arrivals.Datagram from)) bytes = Unit {0}
HasBytes answer bytes = bytes ≡ []
