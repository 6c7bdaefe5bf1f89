-- A run of a member that is alone in its cluster, by the lease rules of version 1, at its core and at its host. It
-- shows that the laws over entries are not empty.
use Rattle.std.specs.Prelude.{true, false, List, [], ◌∷◌, Some, None}
use Rattle.booth_base.specs.declared.name.Name.{Name}
use Rattle.booth_rec.specs.declared.record.Record.{Record}
use Rattle.booth_rec.specs.Record.{first_plain, no_record}
use Rattle.booth_raft.specs.declared.view.View.{View}
use Rattle.booth_world.specs.States.{Cluster, begins_bare}
use Rattle.booth_world.specs.Rules.{Asks, Greets, GivesBack}
use Rattle.booth_world.specs.Cores.{CoreEntry, ReadsTime, CallsCore, HasAnswer, Stops, StartsWith, Cast, opening_session}
use Rattle.booth_world.specs.Turns.{Keeps, Plan, Rests, Calls, Waits}
use Rattle.booth_world.specs.Hosts.{HostEntry, BeginsTurn, DoesAsk, Halts, Boots}
use Rattle.booth_world.specs.Examples.{exact, example_times, id_of_place}
use Rattle.booth_world.specs.OnePhase.{all_seats, only_phase}

abbrev pub lone : Cluster
lone = record {
  members = 1;
  is_site = λ m. true;
  phase = only_phase 8 1 (all_seats 1) example_times;
  ticks = 1;
  span = 8;
  clock = λ m. exact;
  begins = λ m. begins_bare;
  goes_on = true;
}

abbrev pub lone_cast : Name → Cast
lone_cast ticket = record {
  id_of = id_of_place;
  setup = λ m session. record {
    ticket = ticket;
    me = id_of_place m;
    place = m;
    members = 1;
    site = true;
    rank = 0;
    times = example_times;
    second = session.second;
    steady = session.steady;
  };
}

abbrev pub lone_term : Record
lone_term = first_plain 1 None

abbrev pub lone_lease : Record
lone_lease = first_plain 1 (Some (record { term = 1; until = 8 }))

-- ---- at its core

-- The member starts an election and is granted its lease, and both writes succeed.
abbrev pub lone_grant : List CoreEntry
lone_grant =
    StartsWith 0 (opening_session false) no_record ∷ ReadsTime 0 6 ∷ CallsCore 0 (Asks 0)
    ∷ HasAnswer 0 lone_term true ∷ HasAnswer 0 lone_lease true ∷ []

-- The write of a release fails, a second one is interrupted, and the member starts from its record.
abbrev pub lone_restart : List CoreEntry
lone_restart =
    CallsCore 0 (GivesBack 0) ∷ HasAnswer 0 lone_term false ∷ CallsCore 0 (GivesBack 0) ∷ Stops 0
    ∷ StartsWith 0 (opening_session false) lone_term ∷ []

-- ---- at its host

-- The plan of a turn: the member greets all others, acquires the ticket, and informs a client.
abbrev pub lone_plan : View → Plan
lone_plan view = Calls Greets (λ greeted. Calls (Asks 0) (λ asked. Waits (λ ok. Rests)))

-- The member begins the turn and writes twice. It stops before it informs the client, and then starts with its lease.
abbrev pub lone_turn : List HostEntry
lone_turn =
    Boots 0 0 (opening_session false) no_record ∷ BeginsTurn 0 6 None lone_plan ∷ DoesAsk 0 (Keeps lone_term) true
    ∷ DoesAsk 0 (Keeps lone_lease) true ∷ Halts 0 ∷ Boots 0 7 (opening_session false) lone_lease ∷ []
