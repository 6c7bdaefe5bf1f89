-- The example run is one, and its world has it.
use Rattle.std.specs.Prelude.{Some, None, Ok, codes}
use Rattle.std.proofs.Common.{true, [], ◌∷◌, refl, inr}
use Rattle.booth_base.specs.Tree.{Deeds, Ends}
use Rattle.booth_conf.specs.Sound.{IsSound}
use Rattle.booth_conf.specs.Print.{printed}
use Rattle.booth_conf.proofs.Again.{print_is_read}
use Rattle.booth_wire.specs.Spelling.{Fits}
use Rattle.booth_rec.specs.Record.{no_record}
use Rattle.booth_host.specs.declared.entry.Entry.TheVariants as calls
use Rattle.booth_host.specs.declared.host.Arrival.TheVariants as arrivals
use Rattle.booth_auth.specs.Sealed.{sealed}
use Rattle.booth_node.specs.Log.{IsNodeLog}
use Rattle.booth_node.specs.Opening.{opened as start_state}
use Rattle.booth_node.specs.Reaction.{Ask, IsTurn, react}
use Rattle.booth_node.specs.Session.{Stand, Doing, after_entries}
use Rattle.booth_node.specs.State.{State}
use Rattle.booth_node.specs.World.{IsNodeOf, IsSecondWorld, IsWorld}
use Rattle.booth_node.specs.declared.node.Turn.TheVariants.{Went}
use Rattle.booth_world.specs.Worlds.{made}
use Rattle.booth_outcomes.specs.declared.outcome.Outcome.TheVariants.{Done}
use Rattle.booth_daemon.specs.Headline.{IsSessionIn, IsTurningRun}
use Rattle.booth_daemon.specs.Opening.{member_config}
use Rattle.booth_daemon.specs.Run.{IsRun, Served}
use Rattle.booth_daemon.specs.Serving.{IsNodeRun, IsTurning, Turning}
use Rattle.booth_examples.proofs.CheckLemmas.{begin_free, second_worlds_are, worlds_are}
use Rattle.booth_examples.proofs.Clocks.{exact_clocks}
use Rattle.booth_examples.proofs.Computing.{worlds_compute}
use Rattle.booth_examples.proofs.FittingLemmas.{config_is, message_is}
use Rattle.booth_examples.proofs.HoldingLemmas.{holders_hold}
use Rattle.booth_examples.specs.Premises.{HoldsAt}
use Rattle.booth_examples.specs.WorldExamples.{alone, client, config_with, grant_it, site_one, web}
use Rattle.booth_services.proofs.WordLemmas.{asks_it}
use Rattle.booth_services.specs.RunExample.{asked_for, deed_calls, node_alone, run_calls, run_words, told_success, turn_calls, with_a_run}

-- ---- the turn

-- where a member stands behind these entries, between two turns
abbrev state_in : State → Stand → State
state_in other (Doing node (Ends state)) = state
state_in other stand = other

abbrev first_state : State
first_state = start_state node_alone (None ∷ []) 0

abbrev turn_tree : Deeds Ask State
turn_tree = react node_alone first_state 7000 (Ok (arrivals.Datagram client)) (sealed None grant_it)

abbrev last_state : State
last_state = state_in first_state (after_entries (Doing node_alone turn_tree) (made deed_calls))

success_fits : Fits told_success
unfolding worlds_compute
success_fits = message_is told_success refl

turn_is : IsTurn node_alone first_state Went turn_calls last_state
unfolding worlds_compute
turn_is = (refl, refl, (true, (refl, refl, refl), (true, (refl, refl, refl), (true, (refl, refl, success_fits, refl), refl))))

log_is : IsNodeLog node_alone first_state 1 last_state turn_calls
log_is = record { turns = turn_calls ∷ []; number = refl; whole = refl; each = (last_state, turn_is, refl) }

node_runs :
    IsNodeRun (member_config site_one.address (config_with alone) None) (Some 1)
    (start_state (member_config site_one.address (config_with alone) None) (None ∷ []) 0) last_state Done [] turn_calls
unfolding worlds_compute
node_runs = (refl, inr log_is)

sound_alone : IsSound (config_with alone)
unfolding worlds_compute
sound_alone = config_is (config_with alone) refl

-- ---- the run and its world

abbrev turns_it : IsTurning asked_for Done [] run_calls
turns_it = record {
  config = config_with alone;
  ring = None;
  ready = record {
    text = printed (config_with alone);
    fit = record { says = print_is_read (config_with alone) sound_alone; member = refl };
    key_texts = record { first = []; old = [] };
    holds = refl;
  };
  reading = 0;
  records = None ∷ [];
  kept = calls.Kept (codes "web") (Ok None) ∷ [];
  read = record { each = refl; calls = refl };
  turns = turn_calls;
  last = last_state;
  whole = refl;
  log = node_runs;
}

abbrev turning_run : IsTurningRun run_words Done run_calls
turning_run = record {
  asked = asked_for;
  asks = asks_it;
  said = [];
  body = run_calls;
  last = [];
  whole = refl;
  turning = turns_it;
  told = refl;
}

pub it_is_run : IsRun run_words Done run_calls
it_is_run = record {
  said = [];
  body = run_calls;
  last = [];
  whole = refl;
  made = Served asked_for asks_it (Turning turns_it);
  told = refl;
}

pub it_is_world : IsWorld with_a_run
unfolding worlds_compute
it_is_world =
    worlds_are with_a_run (begin_free with_a_run (λ m. no_record) (λ m name. refl) (λ m. refl))
    (exact_clocks with_a_run refl refl (λ m. refl)) refl

pub it_is_second : IsSecondWorld with_a_run
it_is_second = second_worlds_are with_a_run refl

pub it_is_held : HoldsAt with_a_run web 0 12999
unfolding worlds_compute
it_is_held = holders_hold with_a_run web 0 12999 refl

member_is : IsNodeOf with_a_run 0 (member_config site_one.address (config_with alone) None)
unfolding worlds_compute
member_is = record { sound = sound_alone; members = refl; me = refl }

pub it_is_session : IsSessionIn with_a_run run_words Done run_calls
unfolding worlds_compute
it_is_session = record {
  run = turning_run;
  member = 0;
  found = member_is;
  before = [];
  after = [];
  session = refl;
}
