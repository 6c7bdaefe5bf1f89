-- What a daemon did behind its opening is a session of a member.
use Rattle.std.specs.Prelude.{Option, Some, None}
use Rattle.std.proofs.Common.{ℕ, List, inl, inr, subst}
use Rattle.booth_base.specs.Tree.{Ends}
use Rattle.booth_conf.specs.Config.{ConfigSays}
use Rattle.booth_host.specs.declared.entry.Entry.{Entry}
use Rattle.booth_host.specs.Past.{GrewSome}
use Rattle.booth_host.proofs.PastLemmas.{some_weaker}
use Rattle.booth_node.specs.State.{State}
use Rattle.booth_node.specs.Session.{SessionEntry, Down, Doing, AreSessions}
use Rattle.booth_node.specs.Opening.{opened as start_state}
use Rattle.booth_node.specs.declared.node_config.NodeConfig.{NodeConfig}
use Rattle.booth_world.specs.Tellers.{TellersAreApart, WhoTellsHolds}
use Rattle.booth_world.specs.Told.{WorldsHaveFencingTerms}
use Rattle.booth_world.specs.Worlds.{made, LaterHoldersHaveLaterTerms, WorldsHoldOne, WorldTermsNeverFall}
use Rattle.booth_world.proofs.Untimed.{untimed}
use Rattle.booth_world.proofs.LogSessions.{logs_are_sessions, stopped_logs_are_sessions, cut_sessions_are_sessions}
use Rattle.booth_outcomes.specs.declared.outcome.Outcome.{Outcome}
use Rattle.booth_outcomes.specs.declared.outcome.Outcome.TheVariants.{Done, TurnsSpent}
use Rattle.booth_outcomes.specs.Keys.{FirstKeyless, IsKeyless, OldKeyless}
use Rattle.booth_outcomes.specs.Unasked.{IsUnasked}
use Rattle.booth_cli.specs.declared.asking.DaemonWords.{DaemonWords}
use Rattle.booth_cli.specs.declared.program.Program.TheVariants.{Boothd}
use Rattle.booth_cli.specs.Asking.{AsksDaemon}
use Rattle.booth_daemon.specs.Headline.{IsSafe, IsTurningEnd, DaemonsTurn, RunsAreSessions, CutRunsAreSessions}
use Rattle.booth_daemon.specs.Opening.{member_config}
use Rattle.booth_daemon.specs.Run.{IsRun, IsMade, Unasked, Served, Summed, Reviewed, Looked, AskForDaemon}
use Rattle.booth_cli.specs.declared.reading.TheConstants.{MOST_TURNS}
use Rattle.booth_daemon.specs.Serving.{IsNodeRun, IsServing, IsTurning, Unread, Refused, Unkeyed, Unlocked, Unopened, Turning}

-- all turns that were asked for, fewer and one that stopped, or the most that there are
turns_are_a_session : (node : NodeConfig) (turns : Option ℕ) (old new : State) (outcome : Outcome) (said : List ℕ) (entries : List Entry)
    → IsNodeRun node turns old new outcome said entries → AreSessions (Doing node (Ends old)) (made entries)
turns_are_a_session node turns old new Done said entries (nothing, inl within) =
    (stopped_logs_are_sessions node old new entries within.stopped).0
turns_are_a_session node None old new Done said entries (nothing, inr all) = absurd all
turns_are_a_session node (Some count) old new Done said entries (nothing, inr all) =
    (logs_are_sessions node old new count entries all).0
turns_are_a_session node turns old new TurnsSpent said entries run =
    (logs_are_sessions node old new MOST_TURNS entries run.2).0
turns_are_a_session node turns old new outcome said entries run = absurd run

pub runs_are_sessions : RunsAreSessions
runs_are_sessions asked outcome said body t =
    let node = member_config asked.site t.config t.ring in
    (t.read.each, turns_are_a_session node asked.turns (start_state node t.records t.reading) t.last outcome said t.turns t.log)

pub cut_runs_are_sessions : CutRunsAreSessions
cut_runs_are_sessions asked outcome said body t early late same =
    cut_sessions_are_sessions Down early late
    (subst (λ (es : List SessionEntry). AreSessions Down es) same (runs_are_sessions asked outcome said body t))

-- without a key it does not end so
keyless_end : (config : ConfigSays) (outcome : Outcome) (said : List ℕ) (body : List Entry) → IsTurningEnd outcome
    → IsKeyless config outcome said body → ⊥
keyless_end config Done said body ends (FirstKeyless is) = is.here
keyless_end config Done said body ends (OldKeyless is) = is.here
keyless_end config TurnsSpent said body ends (FirstKeyless is) = is.here
keyless_end config TurnsSpent said body ends (OldKeyless is) = is.here
keyless_end config outcome said body ends is = absurd ends

-- a daemon that ends so came through its opening
turning_of : (asked : DaemonWords) (outcome : Outcome) (said : List ℕ) (body : List Entry) → IsTurningEnd outcome
    → IsServing asked outcome said body → IsTurning asked outcome said body
turning_of asked Done said body ends (Unread is) = absurd is
turning_of asked Done said body ends (Refused is) = absurd is.here
turning_of asked Done said body ends (Unkeyed is) = absurd (keyless_end is.config Done said is.rest ends is.here)
turning_of asked Done said body ends (Unlocked is) = absurd is.here
turning_of asked Done said body ends (Unopened is) = absurd is.here
turning_of asked Done said body ends (Turning is) = is
turning_of asked TurnsSpent said body ends (Unread is) = absurd is
turning_of asked TurnsSpent said body ends (Refused is) = absurd is.here
turning_of asked TurnsSpent said body ends (Unkeyed is) = absurd (keyless_end is.config TurnsSpent said is.rest ends is.here)
turning_of asked TurnsSpent said body ends (Unlocked is) = absurd is.here
turning_of asked TurnsSpent said body ends (Unopened is) = absurd is.here
turning_of asked TurnsSpent said body ends (Turning is) = is
turning_of asked outcome said body ends is = absurd ends

-- what was not asked for does not end so
unasked_end : (words : List (List ℕ)) (outcome : Outcome) (said : List ℕ) (body : List Entry) → IsTurningEnd outcome
    → IsUnasked Boothd words outcome said body → ⊥
unasked_end words Done said body ends is = absurd is
unasked_end words TurnsSpent said body ends is = absurd is
unasked_end words outcome said body ends is = absurd ends

-- words that ask for a daemon ask for nothing else
serving_of : (words : List (List ℕ)) (outcome : Outcome) (said : List ℕ) (body : List Entry) → AskForDaemon words → IsTurningEnd outcome
    → IsMade words outcome said body → (asked : DaemonWords) × AsksDaemon words asked × IsServing asked outcome said body
serving_of words outcome said body daemon ends (Unasked is) = absurd (unasked_end words outcome said body ends is)
serving_of words outcome said body daemon ends (Served asked asks is) = (asked, asks, is)
serving_of words outcome said body daemon ends (Summed asked asks is) =
    let daemon_named = daemon.asks.asks.named in
    let other_named = asks.asks.named in
    cc
serving_of words outcome said body daemon ends (Reviewed asked asks is) =
    let daemon_named = daemon.asks.asks.named in
    let other_named = asks.asks.named in
    cc
serving_of words outcome said body daemon ends (Looked lock asks is) =
    let daemon_named = daemon.asks.asks.named in
    let other_named = asks.asks.named in
    cc

pub daemons_turn : DaemonsTurn
daemons_turn words outcome entries run daemon ends =
    let (asked, asks, is) = serving_of words outcome run.said run.body daemon ends run.made in
    record {
      asked = asked;
      asks = asks;
      said = run.said;
      body = run.body;
      last = run.last;
      whole = run.whole;
      turning = turning_of asked outcome run.said run.body ends is;
      told = run.told;
    }

-- what a run is, and what the laws of all worlds say of it
pub safe_run : {a b : Option (List Entry)} (words : List (List ℕ)) (outcome : Outcome) → WorldsHoldOne → WorldTermsNeverFall
    → LaterHoldersHaveLaterTerms → WhoTellsHolds → TellersAreApart → WorldsHaveFencingTerms → GrewSome (IsRun words outcome) a b → GrewSome (IsSafe words outcome) a b
safe_run words outcome one_holder terms later_terms holds apart fenced ran =
    some_weaker (IsRun words outcome) (IsSafe words outcome) (λ entries run. record {
      turned = daemons_turn words outcome entries run;
      is_session = λ turns. runs_are_sessions turns.asked outcome turns.said turns.body turns.turning;
      in_worlds = λ w is session. (one_holder w is, terms w (untimed w is));
      tellers = λ w is session. (holds w is, apart w is);
      in_second_worlds = λ w is second on session. later_terms w is second on;
      in_untimed_worlds = λ w is session. terms w is;
      in_untimed_second_worlds = λ w is second on session. fenced w is second on;
    }) ran
