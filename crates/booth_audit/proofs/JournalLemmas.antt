-- The sessions of a journal, one behind the other.
use Rattle.std.specs.Prelude.{Bool, true, false, None, Some}
use Rattle.std.proofs.Common.{◌≡◌, ℕ, List, [], ◌++◌, refl, sym, ◌∙◌, ap, subst}
use Rattle.booth_journal.specs.Says.{Said, Says}
use Rattle.booth_node.specs.Session.{AreSessions, Down, after_entries}
use Rattle.booth_audit.specs.Course.{IsIdle, IsNext, IsReplayed, after_session}
use Rattle.booth_audit.specs.Noted.{MemberSays}
use Rattle.booth_audit.specs.Replay.{Event, Idle, deeds_of, replayed}
use Rattle.booth_audit.specs.Tally.{Tally, nothing_tallied, tallied_all}
use Rattle.booth_audit.specs.Turns.{with_events}
use Rattle.booth_audit.proofs.CourseLemmas.{deeds_then, left_all, left_then, tallied_then, sessions_then, with_all, with_none}

pub idle_none : (member : MemberSays) (text : List ℕ) (all : List Said) (tally : Tally) → tally ≡ nothing_tallied member.node.config.tickets
    → Says text all → IsIdle member text all tally text 1
idle_none member text all tally is says = record {
  events = [];
  then_left = all;
  still = left_all says;
  is = refl;
  sessions = tt;
  tallied = is;
}

module _ {member : MemberSays} {text rest behind : List ℕ} {all : List Said} {old new : Tally} {at next : ℕ} {strays : Bool}
    (idle : IsIdle member text all old rest at) (here : IsNext member rest at idle.then_left old new strays behind next) where
  abbrev both_events : List Event
  both_events = idle.events ++ here.run.events

  both_is : replayed member.node Idle 1 all
      ≡ with_events both_events (after_session member.node strays next here.run.over.then_left)
  both_is =
      idle.is ∙ ap (with_events idle.events) here.run.over.is
      ∙ sym (with_all idle.events here.run.events (after_session member.node strays next here.run.over.then_left))

  both_sessions : AreSessions Down (deeds_of both_events)
  both_sessions =
      subst (AreSessions Down) (sym (deeds_then idle.events here.run.events))
      (sessions_then Down (deeds_of idle.events) (deeds_of here.run.events) idle.sessions
      (here.run.sessions (after_entries Down (deeds_of idle.events))))

  both_tallied : new ≡ tallied_all member (nothing_tallied member.node.config.tickets) both_events
  both_tallied =
      here.run.tallied ∙ ap (λ (t : Tally). tallied_all member t here.run.events) idle.tallied
      ∙ sym (tallied_then member (nothing_tallied member.node.config.tickets) idle.events here.run.events)

  pub idle_more : strays ≡ false → IsIdle member text all new behind next
  idle_more on = record {
    events = both_events;
    then_left = here.run.over.then_left;
    still = left_then idle.still here.run.over.left;
    is = both_is ∙ ap (λ (b : Bool). with_events both_events (after_session member.node b next here.run.over.then_left)) on;
    sessions = both_sessions;
    tallied = both_tallied;
  }

  pub replayed_strays : strays ≡ true → IsReplayed member all (Some next) new
  replayed_strays ends = record {
    events = both_events;
    is = both_is ∙ ap (λ (b : Bool). with_events both_events (after_session member.node b next here.run.over.then_left)) ends
        ∙ with_none both_events (Some next);
    sessions = both_sessions;
    tallied = both_tallied;
  }

pub replayed_all : {member : MemberSays} {text rest : List ℕ} {all : List Said} {old new : Tally} {at : ℕ}
    (idle : IsIdle member text all old rest at) → idle.then_left ≡ [] → new ≡ old → IsReplayed member all None new
replayed_all {member} {at = at} idle none same = record {
  events = idle.events;
  is = idle.is ∙ ap (λ (l : List Said). with_events idle.events (replayed member.node Idle at l)) none
      ∙ with_none idle.events None;
  sessions = idle.sessions;
  tallied = same ∙ idle.tallied;
}
