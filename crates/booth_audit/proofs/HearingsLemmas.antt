-- What is noted of a member's hearings is what its turns heard.
use Rattle.std.specs.Prelude.{◌↔◌, ◌≤◌, ◌-◌, Bool, true, false, Option, None, Some, Result, Ok, Err, IfOk, if◌then◌else◌}
use Rattle.std.specs.List.{AllByRecursion}
use Rattle.std.proofs.Common.{◌≡◌, ◌+◌, ℕ, List, [], ◌∷◌, ◌++◌, refl, sym, ◌∙◌, ap, subst, arith, append_assoc, append-nil}
use Rattle.std.proofs.lemmas.List.Elements.{All-from_recursion, recursion_from_All}
use Rattle.booth_auth.specs.declared.admission.DropFault.{DropFault}
use Rattle.booth_auth.specs.Verdict.{verdict}
use Rattle.booth_auth.proofs.GateLemmas.{lets_in as gate_lets_in}
use Rattle.booth_base.specs.declared.address.Peer.{Peer}
use Rattle.booth_host.specs.declared.host.Arrival.TheVariants as arrivals
use Rattle.booth_host.specs.declared.entry.Entry.TheVariants as entries
use Rattle.booth_node.specs.declared.node_config.NodeConfig.{NodeConfig}
use Rattle.booth_node.specs.Reaction.{used}
use Rattle.booth_node.specs.Session.{AreSessions, CutKeep, CutNext, CutNow, CutSend, CutStart, Doing, Down, Hearing, IsCut, Makes, MayDo, SessionEntry, Stand, Starts, after_entries, after_entry}
use Rattle.booth_node.specs.State.{State}
use Rattle.booth_wire.specs.declared.command.Direction.{Direction}
use Rattle.booth_wire.specs.declared.command.Direction.TheVariants.{BetweenMembers, ToClient, ToDaemon}
use Rattle.booth_wire.specs.declared.message.FrameFault.{FrameFault}
use Rattle.booth_wire.specs.Command.{direction_of}
use Rattle.booth_wire.specs.PlainMessage.{PlainMessage}
use Rattle.booth_wire.specs.Reading.{decoded}
use Rattle.booth_audit.specs.declared.hearings.Hears.{Hears}
use Rattle.booth_audit.specs.Faults.{AllHearSent, Heard, HearsSent, WasSent}
use Rattle.booth_audit.specs.Hearings.{Hearings, HearingsAreDeeds, IsPassed, IsSent, heard_by, heard_in, hearings_all, hearings_noted, is_between, is_members, let_in, nothing_heard, waits_after}
use Rattle.booth_audit.specs.Holdings.{used_after}
use Rattle.booth_audit.specs.Noted.{MemberSays, Noted, noted}
use Rattle.booth_audit.specs.Own.{AllOwn}
use Rattle.booth_audit.specs.Replay.{Event, deeds_of}
use Rattle.booth_audit.proofs.StandingLemmas.{StandsSo, stands_on}

-- ---- one event

-- where nothing waits, nothing is let in
none_of : (node : NodeConfig) (last line : ℕ) (what : SessionEntry) → heard_by node last line what None ≡ []
none_of node last line (Starts other reading records) = refl
none_of node last line (IsCut call) = refl
none_of node last line (Makes (entries.Now reading)) = refl
none_of node last line (Makes (entries.Open local port records conf_path answer)) = refl
none_of node last line (Makes (entries.Next wait answer bytes)) = refl
none_of node last line (Makes (entries.Send to bytes answer)) = refl
none_of node last line (Makes (entries.ReadFile path answer)) = refl
none_of node last line (Makes (entries.Lock path answer)) = refl
none_of node last line (Makes (entries.Kept name answer)) = refl
none_of node last line (Makes (entries.Keep name kept answer)) = refl
none_of node last line (Makes (entries.Start number name handler local expires answer)) = refl
none_of node last line (Makes (entries.Out bytes answer)) = refl
none_of node last line (Makes (entries.Err bytes answer)) = refl

-- one event lets one datagram in at most, whose answer stands a line before
abbrev IsOne : List Hears → ℕ → Type 0
IsOne [] line = Unit {0}
IsOne (hears ∷ []) line = hears.line ≡ line - 1
IsOne (hears ∷ more ∷ others) line = ⊥

one_if : (b : Bool) (bytes : List ℕ) (line : ℕ)
    → IsOne (if b then record { bytes = bytes; line = line - 1 } ∷ [] else []) line
one_if true bytes line = refl
one_if false bytes line = tt

one_of : (node : NodeConfig) (now line : ℕ) (waiting : Option (List ℕ)) → IsOne (let_in node now line waiting) line
one_of node now line None = tt
one_of node now line (Some bytes) =
    one_if (is_members (verdict node.config node.ring node.me now bytes)) bytes line

is_one : (node : NodeConfig) (last line : ℕ) (what : SessionEntry) (waiting : Option (List ℕ))
    → IsOne (heard_by node last line what waiting) line
is_one node last line (Starts other reading records) waiting = tt
is_one node last line (IsCut call) waiting = tt
is_one node last line (Makes (entries.Now reading)) waiting = one_of node (used last reading) line waiting
is_one node last line (Makes (entries.Open local port records conf_path answer)) waiting = tt
is_one node last line (Makes (entries.Next wait answer bytes)) waiting = tt
is_one node last line (Makes (entries.Send to bytes answer)) waiting = tt
is_one node last line (Makes (entries.ReadFile path answer)) waiting = tt
is_one node last line (Makes (entries.Lock path answer)) waiting = tt
is_one node last line (Makes (entries.Kept name answer)) waiting = tt
is_one node last line (Makes (entries.Keep name kept answer)) waiting = tt
is_one node last line (Makes (entries.Start number name handler local expires answer)) waiting = tt
is_one node last line (Makes (entries.Out bytes answer)) waiting = tt
is_one node last line (Makes (entries.Err bytes answer)) waiting = tt

abbrev lets : PlainMessage → Result PlainMessage DropFault
lets message = Ok message

abbrev drops : DropFault → Result PlainMessage DropFault
drops fault = Err fault

-- the same message was let in
same_message : (one other : PlainMessage) (judged : Result PlainMessage DropFault) → judged ≡ Ok one → judged ≡ Ok other → one ≡ other
same_message one other judged is also =
    let both : lets one ≡ lets other = sym is ∙ also in cc

module _ (all : List Heard) where
  abbrev AreSent : List Hears → Type 0
  AreSent hears = AllByRecursion (IsSent all) hears

  abbrev HeardSo : Stand → SessionEntry → List Hears → Type 0
  HeardSo stand what hears = HearsSent all stand what ↔ AreSent hears

  hears_none : (stand : Stand) (what : SessionEntry) (hears : List Hears) → HearsSent all stand what → hears ≡ []
      → HeardSo stand what hears
  hears_none stand what hears sent none = (λ h. subst AreSent (sym none) tt, λ h. sent)

  -- what a turn of this node hears of these bytes at this reading
  abbrev HearsAt : NodeConfig → ℕ → List ℕ → Type 0
  HearsAt node now bytes =
      (message : PlainMessage) → verdict node.config node.ring node.me now bytes ≡ Ok message
      → direction_of message.head.cmd ≡ BetweenMembers → WasSent all message

  module _ (node : NodeConfig) (now line : ℕ) (bytes : List ℕ) where
    abbrev HeardIf : Bool → Type 0
    HeardIf b = HearsAt node now bytes ↔ AreSent (if b then record { bytes = bytes; line = line - 1 } ∷ [] else [])

    by_direction : (one : PlainMessage) → verdict node.config node.ring node.me now bytes ≡ Ok one → (way : Direction)
        → direction_of one.head.cmd ≡ way → HeardIf (is_between way)
    by_direction one is BetweenMembers goes = (
      λ hears.
          let read : decoded bytes ≡ Ok one = ((gate_lets_in node.config node.ring node.me now bytes one).0 is).read in
          (subst (λ (r : Result PlainMessage FrameFault). IfOk r (WasSent all)) (sym read) (hears one is goes), tt),
      λ sent message also between.
          let read : decoded bytes ≡ Ok message =
          ((gate_lets_in node.config node.ring node.me now bytes message).0 also).read in
          subst (λ (r : Result PlainMessage FrameFault). IfOk r (WasSent all)) read sent.0,
    )
    by_direction one is ToDaemon goes = (
      λ hears. tt,
      λ sent message also between.
          let same : one ≡ message = same_message one message _ is also in
          let both : ToDaemon ≡ BetweenMembers = sym goes ∙ ap (λ (m : PlainMessage). direction_of m.head.cmd) same ∙ between in
          absurd cc,
    )
    by_direction one is ToClient goes = (
      λ hears. tt,
      λ sent message also between.
          let same : one ≡ message = same_message one message _ is also in
          let both : ToClient ≡ BetweenMembers = sym goes ∙ ap (λ (m : PlainMessage). direction_of m.head.cmd) same ∙ between in
          absurd cc,
    )

    by_verdict : (judged : Result PlainMessage DropFault) → verdict node.config node.ring node.me now bytes ≡ judged
        → HeardIf (is_members judged)
    by_verdict (Ok one) is = by_direction one is (direction_of one.head.cmd) refl
    by_verdict (Err fault) is = (
      λ hears. tt,
      λ sent message also between. let both : drops fault ≡ lets message = sym is ∙ also in absurd cc,
    )

  judged_so : (node other : NodeConfig) (old : State) (from : Peer) (bytes : List ℕ) (reading last line : ℕ) → other ≡ node
      → old.last_reading ≡ last
      → HeardSo (Hearing other old (Ok (arrivals.Datagram from)) bytes) (Makes (entries.Now reading))
      (let_in node (used last reading) line (Some bytes))
  judged_so node other old from bytes reading last line same at =
      subst
      (λ (n : NodeConfig). HearsAt n (used old.last_reading reading) bytes
      ↔ AreSent (let_in node (used last reading) line (Some bytes)))
      (sym same)
      (subst
      (λ (r : ℕ). HearsAt node (used r reading) bytes ↔ AreSent (let_in node (used last reading) line (Some bytes)))
      (sym at)
      (by_verdict node (used last reading) line bytes
      (verdict node.config node.ring node.me (used last reading) bytes) refl))

  module _ (node : NodeConfig) where
    brought_so : (other : NodeConfig) (old : State) (from : Peer) (bytes : List ℕ) (what : SessionEntry) (last line : ℕ)
        → MayDo (Hearing other old (Ok (arrivals.Datagram from)) bytes) what → other ≡ node → old.last_reading ≡ last
        → HeardSo (Hearing other old (Ok (arrivals.Datagram from)) bytes) what (heard_by node last line what (Some bytes))
    brought_so other old from bytes (Starts also reading records) last line can same at = (λ h. tt, λ h. tt)
    brought_so other old from bytes (IsCut call) last line can same at = (λ h. tt, λ h. tt)
    brought_so other old from bytes (Makes (entries.Now reading)) last line can same at =
        judged_so node other old from bytes reading last line same at
    brought_so other old from bytes (Makes (entries.Open local port records conf_path done)) last line can same at = absurd can
    brought_so other old from bytes (Makes (entries.Next wait again more)) last line can same at = absurd can
    brought_so other old from bytes (Makes (entries.Send to sent done)) last line can same at = absurd can
    brought_so other old from bytes (Makes (entries.ReadFile path done)) last line can same at = absurd can
    brought_so other old from bytes (Makes (entries.Lock path done)) last line can same at = absurd can
    brought_so other old from bytes (Makes (entries.Kept name done)) last line can same at = absurd can
    brought_so other old from bytes (Makes (entries.Keep name kept done)) last line can same at = absurd can
    brought_so other old from bytes (Makes (entries.Start number name handler local expires done)) last line can same at = absurd can
    brought_so other old from bytes (Makes (entries.Out text done)) last line can same at = absurd can
    brought_so other old from bytes (Makes (entries.Err text done)) last line can same at = absurd can

    none_by : (last line : ℕ) (what : SessionEntry) (waiting : Option (List ℕ)) → waiting ≡ None
        → heard_by node last line what waiting ≡ []
    none_by last line what waiting none = ap (λ w. heard_by node last line what w) none ∙ none_of node last line what

    nothing_so : (stand : Stand) (what : SessionEntry) (last line : ℕ) (waiting : Option (List ℕ)) → HearsSent all stand what
        → waiting ≡ None → HeardSo stand what (heard_by node last line what waiting)
    nothing_so stand what last line waiting sent none =
        hears_none stand what (heard_by node last line what waiting) sent (none_by last line what waiting none)

    hears_so : (stand : Stand) (what : SessionEntry) (last line : ℕ) (waiting : Option (List ℕ)) → MayDo stand what
        → StandsSo node last waiting stand → HeardSo stand what (heard_by node last line what waiting)
    hears_so Down what last line waiting can so = nothing_so Down what last line waiting tt so
    hears_so (Doing other deeds) what last line waiting can so = nothing_so (Doing other deeds) what last line waiting tt so.1
    hears_so (Hearing other old (Err fault) bytes) what last line waiting can so =
        nothing_so (Hearing other old (Err fault) bytes) what last line waiting tt so.1
    hears_so (Hearing other old (Ok arrivals.Quiet) bytes) what last line waiting can so =
        nothing_so (Hearing other old (Ok arrivals.Quiet) bytes) what last line waiting tt so.1
    hears_so (Hearing other old (Ok arrivals.Stop) bytes) what last line waiting can so =
        nothing_so (Hearing other old (Ok arrivals.Stop) bytes) what last line waiting tt so.1
    hears_so (Hearing other old (Ok (arrivals.Handler job status)) bytes) what last line waiting can so =
        nothing_so (Hearing other old (Ok (arrivals.Handler job status)) bytes) what last line waiting tt so.1
    hears_so (Hearing other old (Ok (arrivals.Datagram from)) bytes) what last line waiting can so =
        subst
        (λ (w : Option (List ℕ)). HeardSo (Hearing other old (Ok (arrivals.Datagram from)) bytes) what
        (heard_by node last line what w))
        (sym so.1) (brought_so other old from bytes what last line can so.0 so.2)

-- ---- all events

-- what these events let in, where this reading is in use and these bytes wait
abbrev heard_from : NodeConfig → ℕ → Option (List ℕ) → List Event → List Hears
heard_from node last waiting [] = []
heard_from node last waiting (event ∷ events) =
    heard_by node last event.line event.what waiting
    ++ heard_from node (used_after last event.what) (waits_after event.what) events

heard_all : (member : MemberSays) (events : List Event) (last : ℕ) (hearings : Hearings)
    → (hearings_all member last hearings events).all
    ≡ hearings.all ++ heard_from member.node last hearings.waiting events
heard_all member [] last hearings = sym (append-nil hearings.all)
heard_all member (event ∷ events) last hearings =
    heard_all member events (used_after last event.what) (hearings_noted member last hearings event)
    ∙ append_assoc hearings.all (heard_by member.node last event.line event.what hearings.waiting)
    (heard_from member.node (used_after last event.what) (waits_after event.what) events)

module _ (all : List Heard) where
  abbrev AllFrom : Stand → List SessionEntry → Type 0
  AllFrom stand [] = Unit {0}
  AllFrom stand (what ∷ more) = HearsSent all stand what × AllFrom (after_entry stand what) more

  after_one : (stand : Stand) (before : List SessionEntry) (what : SessionEntry)
      → after_entries stand (before ++ what ∷ []) ≡ after_entry (after_entries stand before) what
  after_one stand [] what = refl
  after_one stand (first ∷ before) what = after_one (after_entry stand first) before what

  from_behind : (before more : List SessionEntry) → AllHearSent all before more → AllFrom (after_entries Down before) more
  from_behind before [] hear = tt
  from_behind before (what ∷ more) hear = (
    hear.0,
    subst (λ (stand : Stand). AllFrom stand more) (after_one Down before what)
        (from_behind (before ++ what ∷ []) more hear.1),
  )

  behind_from : (before more : List SessionEntry) → AllFrom (after_entries Down before) more → AllHearSent all before more
  behind_from before [] hear = tt
  behind_from before (what ∷ more) hear = (
    hear.0,
    behind_from (before ++ what ∷ []) more
        (subst (λ (stand : Stand). AllFrom stand more) (sym (after_one Down before what)) hear.1),
  )

  sent_both : (some more : List Hears) → AreSent all some → AreSent all more → AreSent all (some ++ more)
  sent_both [] more first then_sent = then_sent
  sent_both (one ∷ some) more first then_sent = (first.0, sent_both some more first.1 then_sent)

  sent_first : (some more : List Hears) → AreSent all (some ++ more) → AreSent all some
  sent_first [] more sent = tt
  sent_first (one ∷ some) more sent = (sent.0, sent_first some more sent.1)

  sent_rest : (some more : List Hears) → AreSent all (some ++ more) → AreSent all more
  sent_rest [] more sent = sent
  sent_rest (one ∷ some) more sent = sent_rest some more sent.1

  -- the first event from here on by which something was heard that was not sent
  record First (stand : Stand) (events : List Event) (line : ℕ) : Type 0 where
    pub before : List Event
    pub event : Event
    pub after : List Event
    pub whole : events ≡ before ++ event ∷ after
    pub earlier : AllFrom stand (deeds_of before)
    pub wrong : HearsSent all (after_entries stand (deeds_of before)) event.what → ⊥
    pub place : line + 1 ≡ event.line

  goes_on : (stand : Stand) (event : Event) (events : List Event) (line : ℕ) → HearsSent all stand event.what
      → First (after_entry stand event.what) events line → First stand (event ∷ events) line
  goes_on stand event events line hears first = record {
    before = event ∷ first.before;
    event = first.event;
    after = first.after;
    whole = ap (λ (more : List Event). event ∷ more) first.whole;
    earlier = (hears, first.earlier);
    wrong = first.wrong;
    place = first.place;
  }

  by_one : (stand : Stand) (event : Event) (events : List Event) (hears rest before after : List Hears) (one : Hears)
      → IsOne hears event.line → HeardSo all stand event.what hears → 1 ≤ event.line → hears ++ rest ≡ before ++ one ∷ after
      → AreSent all before → (IsSent all one → ⊥)
      → ((more : List Hears) → rest ≡ more ++ one ∷ after → AreSent all more → First (after_entry stand event.what) events one.line)
      → First stand (event ∷ events) one.line
  by_one stand event events [] rest before after one is so counted whole sent wrong later =
      goes_on stand event events one.line (so.1 tt) (later before whole sent)
  by_one stand event events (heard ∷ []) rest [] after one is so counted whole sent wrong later =
      let same : heard ≡ one = cc in
      let lines : heard.line ≡ one.line = ap (λ (h : Hears). h.line) same in
      record {
        before = [];
        event = event;
        after = events;
        whole = refl;
        earlier = tt;
        wrong = λ hears. wrong (subst (IsSent all) same (so.0 hears).0);
        place = omega (arith, lines, is, counted);
      }
  by_one stand event events (heard ∷ []) rest (first ∷ before) after one is so counted whole sent wrong later =
      let same : heard ≡ first = cc in
      let tails : rest ≡ before ++ one ∷ after = cc in
      goes_on stand event events one.line (so.1 (subst (IsSent all) (sym same) sent.0, tt)) (later before tails sent.1)
  by_one stand event events (heard ∷ next ∷ others) rest before after one is so counted whole sent wrong later = absurd is

  no_first : (before after : List Hears) (one : Hears) → [] ≡ before ++ one ∷ after → ⊥
  no_first [] after one is = absurd cc
  no_first (first ∷ before) after one is = absurd cc

  module _ (node : NodeConfig) where
    all_so : (events : List Event) (stand : Stand) (last : ℕ) (waiting : Option (List ℕ)) → AreSessions stand (deeds_of events)
        → AllOwn node (deeds_of events) → StandsSo node last waiting stand
        → AllFrom stand (deeds_of events) ↔ AreSent all (heard_from node last waiting events)
    all_so [] stand last waiting are own so = (λ h. tt, λ h. tt)
    all_so (event ∷ events) stand last waiting are own so =
        let hears = heard_by node last event.line event.what waiting in
        let rest = heard_from node (used_after last event.what) (waits_after event.what) events in
        let one = hears_so all node stand event.what last event.line waiting are.0 so in
        let more =
        all_so events (after_entry stand event.what) (used_after last event.what) (waits_after event.what) are.1 own.1
        (stands_on node stand event.what last waiting are.0 own.0 so) in (
          λ hear. sent_both hears rest (one.0 hear.0) (more.0 hear.1),
          λ sent. (one.1 (sent_first hears rest sent), more.1 (sent_rest hears rest sent)),
        )

    first_so : (events : List Event) (stand : Stand) (last : ℕ) (waiting : Option (List ℕ)) → AreSessions stand (deeds_of events)
        → AllOwn node (deeds_of events) → StandsSo node last waiting stand
        → AllByRecursion (λ (event : Event). 1 ≤ event.line) events → (before after : List Hears) (one : Hears)
        → heard_from node last waiting events ≡ before ++ one ∷ after → AreSent all before → (IsSent all one → ⊥)
        → First stand events one.line
    first_so [] stand last waiting are own so counted before after one whole sent wrong =
        absurd (no_first before after one whole)
    first_so (event ∷ events) stand last waiting are own so counted before after one whole sent wrong =
        by_one stand event events (heard_by node last event.line event.what waiting)
        (heard_from node (used_after last event.what) (waits_after event.what) events) before after one
        (is_one node last event.line event.what waiting) (hears_so all node stand event.what last event.line waiting are.0 so)
        counted.0 whole sent wrong
        (λ more tails then_sent.
        first_so events (after_entry stand event.what) (used_after last event.what) (waits_after event.what) are.1 own.1
        (stands_on node stand event.what last waiting are.0 own.0 so) counted.1 more after one tails then_sent wrong)

pub hearings_are_deeds : HearingsAreDeeds
hearings_are_deeds member events all are own counted =
    let is : heard_in member events ≡ heard_from member.node 0 None events = heard_all member events 0 nothing_heard in
    let so = all_so all member.node events Down 0 None are own refl in
    record {
      sent = (
        λ hear. All-from_recursion (IsSent all) (heard_in member events)
            (subst (AreSent all) (sym is) (so.0 (from_behind all [] (deeds_of events) hear))),
        λ sent. behind_from all [] (deeds_of events)
            (so.1 (subst (AreSent all) is (recursion_from_All (IsSent all) (heard_in member events) sent))),
      );
      first = λ before after one whole sent wrong.
          let first =
          first_so all member.node events Down 0 None are own refl
          (recursion_from_All (λ (event : Event). 1 ≤ event.line) events counted) before after one (sym is ∙ whole)
          (recursion_from_All (IsSent all) before sent) wrong in
          record {
            before = first.before;
            event = first.event;
            after = first.after;
            whole = first.whole;
            earlier = behind_from all [] (deeds_of first.before) first.earlier;
            wrong = first.wrong;
            place = first.place;
          };
    }

-- ---- beside the other notes

-- the same, with the reading in use by the notes of the member
abbrev pub hearings_beside : MemberSays → Noted → Hearings → List Event → Hearings
hearings_beside member notes hearings [] = hearings
hearings_beside member notes hearings (event ∷ events) =
    hearings_beside member (noted member notes event.what) (hearings_noted member notes.last hearings event) events

noted_last : (member : MemberSays) (notes : Noted) (what : SessionEntry)
    → (noted member notes what).last ≡ used_after notes.last what
noted_last member notes (Starts node reading records) = refl
noted_last member notes (Makes (entries.Now reading)) = refl
noted_last member notes (Makes (entries.Send to sent answer)) = refl
noted_last member notes (Makes (entries.Open local port records conf_path answer)) = refl
noted_last member notes (Makes (entries.Next wait answer more)) = refl
noted_last member notes (Makes (entries.ReadFile path answer)) = refl
noted_last member notes (Makes (entries.Lock path answer)) = refl
noted_last member notes (Makes (entries.Kept name answer)) = refl
noted_last member notes (Makes (entries.Keep name kept answer)) = refl
noted_last member notes (Makes (entries.Start number name handler local expires answer)) = refl
noted_last member notes (Makes (entries.Out text answer)) = refl
noted_last member notes (Makes (entries.Err text answer)) = refl
noted_last member notes (IsCut CutNext) = refl
noted_last member notes (IsCut CutNow) = refl
noted_last member notes (IsCut (CutSend to bytes)) = refl
noted_last member notes (IsCut (CutKeep name kept)) = refl
noted_last member notes (IsCut (CutStart job)) = refl

pub beside_notes : (member : MemberSays) (events : List Event) (notes : Noted) (hearings : Hearings)
    → hearings_beside member notes hearings events ≡ hearings_all member notes.last hearings events
beside_notes member [] notes hearings = refl
beside_notes member (event ∷ events) notes hearings =
    beside_notes member events (noted member notes event.what) (hearings_noted member notes.last hearings event)
    ∙ ap (λ (last : ℕ). hearings_all member last (hearings_noted member notes.last hearings event) events)
    (noted_last member notes event.what)

pub passed : (hearings : Hearings) → IsPassed hearings (record hearings { waiting = None })
passed hearings = (
  λ member last line node reading records. ap with_all (sym (append-nil hearings.all)),
  λ member last line call. ap with_all (sym (append-nil hearings.all)),
)
  where
    with_all : List Hears → Hearings
    with_all all = record { waiting = None; all = all }
