-- The balance between the links and the host: at most every second poll of the links has an event.
use Rattle.std.specs.Prelude.{◌≡◌, Result, Ok, Err}
use Rattle.booth_host.specs.declared.host.Failed.{Failed}
use Rattle.booth_links.specs.declared.turn.Turn.{Turn}
use Rattle.booth_stream.specs.declared.links.LinkEvent.{LinkEvent}
use Rattle.booth_stream.specs.declared.links.LinkEvent.TheVariants.{Quiet}

-- after any event but Quiet it is the host's turn
abbrev pub turn_after : Result LinkEvent Failed → Turn
turn_after (Ok LinkEvent.Quiet) = Turn.Links
turn_after (Ok (LinkEvent.Opened link peer)) = Turn.Host
turn_after (Ok (LinkEvent.Bytes link)) = Turn.Host
turn_after (Ok (LinkEvent.Ended link)) = Turn.Host
turn_after (Err fault) = Turn.Host

-- whose turn it was, the answer of a poll, and whose turn is next: if it was the host's, the answer is Quiet
abbrev pub TakesTurn : Turn → Result LinkEvent Failed → Turn → Type 0
TakesTurn Turn.Links answer after = after ≡ turn_after answer
TakesTurn Turn.Host answer after = (answer ≡ Ok Quiet) × (after ≡ Turn.Links)
