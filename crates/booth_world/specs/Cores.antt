-- Entries of the lease cores of one ticket at all members, and the state of each member after them. The records that
-- may have been written, the messages and the releases follow from the entries alone.
use Rattle.std.specs.Prelude.{◌≡◌, refl, ℕ, ◌<◌, ◌≤◌, nat_lt, List, [], ◌∷◌, Bool, true, false, Option, Some, None, IsTrue, IsSomeAnd}
use Rattle.std.specs.Option.{ForSome}
use Rattle.booth_base.specs.declared.address.MemberId.{MemberId}
use Rattle.booth_base.specs.declared.limits.TheConstants.{MEMBERS}
use Rattle.booth_rec.specs.declared.record.Record.{Record}
use Rattle.booth_wire.specs.declared.message.Say.{Say}
use Rattle.booth_wire.specs.declared.message.Say.TheVariants as says
use Rattle.booth_wire.specs.declared.message.Setup.{Setup}
use Rattle.booth_raft.specs.declared.view.View.{View}
use Rattle.booth_raft.specs.Members.{is_leader}
use Rattle.booth_raft.specs.Notes.{MayNote}
use Rattle.booth_raft.specs.Sound.{IsSound}
use Rattle.booth_world.specs.Facts.{Has, Release}
use Rattle.booth_world.specs.States.{put, Cluster, IsIn, reads}
use Rattle.booth_world.specs.Agreement.{AreIds, IsSeated, record_in}
use Rattle.booth_world.specs.Reading.{MayBeRead, IsLaterOrKept}
use Rattle.booth_world.specs.Rules.{MemberMessage, CoreCall, Asks, Hears, MakesNote, RenewsLease, GivesBack, lease_rules}
use Rattle.booth_world.specs.Gives.{Mark, Given, given_by, may_answered, releases_answered}

-- ---- entries

-- The properties of a session: whether it is of version 2, its phase, whether it follows the steady rules, and how many
-- sites come before its member, by the weights in its configuration.
pub record Session : Type 0 where
  pub second : Bool
  pub phase : ℕ
  pub steady : Bool
  pub rank : ℕ
  pub few : nat_lt rank MEMBERS ≡ true

-- The session of a member that has not started yet.
abbrev pub opening_session : Bool → Session
opening_session second = record { second = second; phase = 0; steady = false; rank = 0; few = refl }

-- An event. Either true time passes, or one member does something: it reads its clock, calls its core, gets the
-- result of a write, stops, or starts with a record in a new session.
pub data CoreEntry : Type 0 where
  TimePasses : (time : ℕ) → CoreEntry
  ReadsTime : (m time : ℕ) → CoreEntry
  CallsCore : (m : ℕ) (call : CoreCall) → CoreEntry
  HasAnswer : (m : ℕ) (kept : Record) (ok : Bool) → CoreEntry
  Stops : (m : ℕ) → CoreEntry
  StartsWith : (m : ℕ) (session : Session) (kept : Record) → CoreEntry

-- ---- the state of the members after entries

-- The state of a member: its view while it is up; its session, or its last session while it is down; its last reading
-- and the true time of that reading; and the records that it may have written.
pub record CorePlace : Type 0 where
  pub view : Option View
  pub session : Session
  pub reading : ℕ
  pub at : ℕ
  pub may : List Record

-- The state of all members, with the messages that were sent, the releases, and the marks that facts may carry.
pub record Cores : Type 0 where
  pub now : ℕ
  pub place : ℕ → CorePlace
  pub said : List MemberMessage
  pub releases : List Release
  pub marks : List Mark

-- The members: the id of each, and the setup of each for any session of a phase in which it has a place.
pub record Cast : Type 0 where
  pub id_of : ℕ → MemberId
  pub setup : ℕ → Session → Setup

pub record IsCast (c : Cluster) (cast : Cast) : Type 0 where
  pub ids : AreIds c.members cast.id_of
  pub seated : (m : ℕ) → m < c.members → (session : Session) → IsIn c session.phase m
      → IsSeated c cast.id_of m session.second session.phase (cast.setup m session)
  pub sound : (m : ℕ) → m < c.members → (session : Session) → IsIn c session.phase m → IsSound (cast.setup m session)

-- The state before any start: each member has its beginning.
abbrev pub opening_cores : Cluster → Cast → Cores
opening_cores c cast = record {
  now = 0;
  place = λ m. record {
    view = None;
    session = opening_session (c.begins m).second;
    reading = reads c m 0;
    at = 0;
    may = record_in cast.id_of (c.begins m).kept ∷ [];
  };
  said = [];
  releases = [];
  marks = [];
}

-- ---- the entries that may come next

-- The condition of a call that handles no message, apart from the condition that no write waits.
abbrev pub MayCallAlone : Setup → View → CoreCall → Type 0
MayCallAlone setup view (Asks reason) = IsTrue setup.site
MayCallAlone setup view (Hears message) = ⊥
MayCallAlone setup view (MakesNote note) = MayNote view note
MayCallAlone setup view RenewsLease = IsTrue (is_leader view.role)
MayCallAlone setup view (GivesBack reason) = IsTrue setup.site
MayCallAlone setup view call = Unit {0}

-- The setup of the member in its session.
abbrev pub setup_in : Cast → Cores → ℕ → Setup
setup_in cast cores m = cast.setup m (cores.place m).session

-- The number in the cluster of the member at this place of the session's phase.
abbrev pub number_in : Cluster → Session → ℕ → ℕ
number_in c session place = (c.phase session.phase).seats.number place

-- The condition of a call. A message that arrives was sent, has its sender's id, and arrives at the true time of the
-- reading. A core knows its sender by the place in its own configuration.
abbrev pub MayCallCore : Cluster → Cast → Cores → ℕ → View → CoreCall → Type 0
MayCallCore c cast cores m view (Hears message) =
    (Has cores.said (record message { sender = number_in c (cores.place m).session message.sender }))
    × (message.head.from ≡ cast.id_of (number_in c (cores.place m).session message.sender))
    × ((cores.place m).at ≡ cores.now)
    × (message.sender < (c.phase (cores.place m).session.phase).seats.size)
MayCallCore c cast cores m view call = MayCallAlone (setup_in cast cores m) view call

-- The phase of the member's session has not closed.
abbrev pub IsInTime : Cluster → Cores → ℕ → Type 0
IsInTime c cores m = cores.now ≤ (c.phase (cores.place m).session.phase).closes

-- The condition of an entry. While a write waits, the member does not call its core, and in version 2 it does not
-- read its clock either. A start reads one of the records that may have been written, or a silent record, and is not of
-- version 1 after one of version 2. Its member has a place in its phase, and has read its clock since the phase opened.
-- After the phase has closed, the member calls nothing and gets no result of a write.
abbrev pub MayEnter : Cluster → Cast → Cores → CoreEntry → Type 0
MayEnter c cast cores (TimePasses time) = (cores.now ≤ time) × (time < c.span)
MayEnter c cast cores (ReadsTime m time) =
    (m < c.members) × (cores.now ≤ time) × (time < c.span)
    × ((cores.place m).session.second ≡ true → ForSome (cores.place m).view (λ view. view.waiting ≡ None))
MayEnter c cast cores (CallsCore m call) =
    (m < c.members)
    × IsSomeAnd (cores.place m).view
    (λ view. (view.waiting ≡ None) × MayCallCore c cast cores m view call)
    × IsInTime c cores m
MayEnter c cast cores (HasAnswer m kept ok) =
    (m < c.members)
    × IsSomeAnd (cores.place m).view
    (λ view. IsSomeAnd view.waiting (λ waits. waits.tried ≡ kept))
    × IsInTime c cores m
MayEnter c cast cores (Stops m) =
    (m < c.members) × IsSomeAnd (cores.place m).view (λ view. Unit {0})
MayEnter c cast cores (StartsWith m session kept) =
    (m < c.members) × ((cores.place m).view ≡ None) × MayBeRead (c.is_site m) (cores.place m).may kept
    × ((cores.place m).session.second ≡ true → session.second ≡ true)
    × (c.goes_on ≡ true → IsLaterOrKept (cores.place m).may kept)
    × ((c.phase session.phase).opens ≤ (cores.place m).at) × (cores.now ≤ (c.phase session.phase).closes)
    × IsIn c session.phase m

-- ---- the state after an entry

-- The list of sent messages after one more.
abbrev pub said_more : ℕ → Say → List MemberMessage → List MemberMessage
said_more m says.Nothing said = said
said_more m (says.All head part) said = record { sender = m; head = head; part = part } ∷ said
said_more m (says.Unanswered head part members) said =
    record { sender = m; head = head; part = part } ∷ said
said_more m (says.Reply head part) said = record { sender = m; head = head; part = part } ∷ said

abbrev pub mark_in : Cores → ℕ → Mark
mark_in cores m = record {
  member = m;
  second = (cores.place m).session.second;
  phase = (cores.place m).session.phase;
  reading = (cores.place m).reading;
  at = (cores.place m).at;
  now = cores.now;
}

-- The state after a member's core returned this result in this session.
abbrev pub has_given : Cores → ℕ → Session → Given → Cores
has_given cores m session given = record {
  now = cores.now;
  place = put cores.place m (record (cores.place m) { view = Some given.view; session = session; may = given.may });
  said = said_more m given.say cores.said;
  releases = given.releases;
  marks = record (mark_in cores m) { second = session.second; phase = session.phase } ∷ cores.marks;
}

-- The result of a call with this view, and the result after the write that waits.
abbrev pub call_given : Cast → Cores → ℕ → CoreCall → View → Given
call_given cast cores m call view =
    given_by
    (lease_rules.call (setup_in cast cores m) view (cores.place m).reading call)
    (cores.place m).may
    cores.releases

abbrev pub answer_given : Cast → Cores → ℕ → Bool → View → Given
answer_given cast cores m ok view =
    given_by
    (lease_rules.answer (setup_in cast cores m) view (cores.place m).reading ok)
    (may_answered view.waiting ok (cores.place m).may)
    (releases_answered (mark_in cores m) view.waiting ok cores.releases)

-- The state after a call of the member's core. If the member is down, the state is unchanged.
abbrev pub after_call : Cast → Cores → ℕ → CoreCall → Option View → Cores
after_call cast cores m call None = cores
after_call cast cores m call (Some view) =
    has_given cores m (cores.place m).session (call_given cast cores m call view)

abbrev pub after_answer : Cast → Cores → ℕ → Bool → Option View → Cores
after_answer cast cores m ok None = cores
after_answer cast cores m ok (Some view) =
    has_given cores m (cores.place m).session (answer_given cast cores m ok view)

abbrev pub entered : Cluster → Cast → Cores → CoreEntry → Cores
entered c cast cores (TimePasses time) = record cores { now = time }
entered c cast cores (ReadsTime m time) = record cores {
  now = time;
  place = put cores.place m (record (cores.place m) { reading = reads c m time; at = time });
}
entered c cast cores (CallsCore m call) = after_call cast cores m call (cores.place m).view
entered c cast cores (HasAnswer m kept ok) = after_answer cast cores m ok (cores.place m).view
entered c cast cores (Stops m) = record cores {
  place = put cores.place m (record (cores.place m) { view = None });
}
entered c cast cores (StartsWith m session kept) = has_given cores m session (record {
  view = lease_rules.start (cast.setup m session) kept (cores.place m).reading;
  say = says.Nothing;
  may = kept ∷ [];
  releases = cores.releases;
})

-- Each entry is allowed in the state before it.
abbrev pub AreEntered : Cluster → Cast → Cores → List CoreEntry → Type 0
AreEntered c cast cores [] = Unit {0}
AreEntered c cast cores (entry ∷ entries) =
    MayEnter c cast cores entry × AreEntered c cast (entered c cast cores entry) entries

abbrev pub cores_after : Cluster → Cast → Cores → List CoreEntry → Cores
cores_after c cast cores [] = cores
cores_after c cast cores (entry ∷ entries) =
    cores_after c cast (entered c cast cores entry) entries
