-- The code's answer to a request as the result of its tree. No public clause cites this module.
use Rattle.booth_raft.specs.State.{State}
use Rattle.booth_ticket.specs.declared.requests.Done.{Done}
use Rattle.booth_ticket.specs.Requests.{Answered}

abbrev pub answered : Done → State → Answered
answered done core = record { answer = done.answer; last = record { core = core; deed = done.last } }
