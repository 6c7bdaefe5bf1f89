-- The tally of a journal that is replayed: one fold over what its member did, call by call.
use Rattle.std.specs.Prelude.{List, [], ◌∷◌}
use Rattle.booth_conf.specs.declared.tickets.TicketConf.{TicketConf}
use Rattle.booth_audit.specs.Hearings.{Hearings, hearings_noted, nothing_heard}
use Rattle.booth_audit.specs.Noted.{MemberSays, Noted, noted, nothing_noted}
use Rattle.booth_audit.specs.Replay.{Event}
use Rattle.booth_audit.specs.Watched.{Watched, first_watched, watched}

-- The notes about the member, the result of the watch over its starts, and the messages that it received from others.
pub record Tally : Type 0 where
  pub noted : Noted
  pub watched : Watched
  pub hearings : Hearings

abbrev pub nothing_tallied : List TicketConf → Tally
nothing_tallied tickets = record { noted = nothing_noted; watched = first_watched tickets; hearings = nothing_heard }

-- The tally after one event, with its line.
abbrev pub tallied : MemberSays → Tally → Event → Tally
tallied member tally event = record {
  noted = noted member tally.noted event.what;
  watched = watched member tally.watched event;
  hearings = hearings_noted member tally.noted.last tally.hearings event;
}

abbrev pub tallied_all : MemberSays → Tally → List Event → Tally
tallied_all member tally [] = tally
tallied_all member tally (event ∷ events) = tallied_all member (tallied member tally event) events
