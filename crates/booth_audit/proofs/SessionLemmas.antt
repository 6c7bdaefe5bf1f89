-- The turns of a session, one behind the other, and where it is over.
use Rattle.std.specs.Prelude.{length, Bool, true, false, ◌&&◌, codes, Option, None, Some, option_map, if◌then◌else◌}
use Rattle.std.proofs.Common.{◌≡◌, ◌<◌, ◌+◌, ◌-◌, ◌*◌, ◌/◌, ℕ, suc, List, [], ◌∷◌, ◌++◌, refl, sym, ◌∙◌, ap, subst, arith, append-nil, true≢false}
use Rattle.std.proofs.lemmas.Slice.Eq.{bytes_eq-Decides}
use Rattle.booth_base.specs.Tree.{Ends}
use Rattle.booth_rec.specs.declared.record.Record.{Record}
use Rattle.booth_host.specs.declared.entry.Entry.{Entry}
use Rattle.booth_journal.specs.declared.said.Answer.{Answer}
use Rattle.booth_journal.specs.declared.said.Answer.TheVariants as answers
use Rattle.booth_journal.specs.declared.said.Call.TheVariants as calls
use Rattle.booth_journal.specs.Lines.{answer_text, call_text}
use Rattle.booth_journal.specs.Looking.{IsFirstCall}
use Rattle.booth_journal.specs.Reading.{IsAnswerTo, SpellsReading}
use Rattle.booth_journal.specs.Says.{AreWhole, IsAnswered, Said, Says, answer_lines, lines_saying}
use Rattle.booth_journal.proofs.OneLemmas.{one_reading, same_kind}
use Rattle.booth_node.specs.declared.node.Turn.{Turn}
use Rattle.booth_node.specs.declared.node_config.NodeConfig.{NodeConfig}
use Rattle.booth_node.specs.Opening.{opened}
use Rattle.booth_node.specs.Reaction.{IsTurn}
use Rattle.booth_node.specs.Session.{AreSessions, Doing, IsCut, SessionEntry, Stand, Starts, after_entries}
use Rattle.booth_node.specs.State.{State}
use Rattle.booth_audit.specs.declared.end.End.{End}
use Rattle.booth_audit.specs.declared.end.End.TheVariants.{Over, Cut, Differs}
use Rattle.booth_audit.specs.Course.{AreLeft, HasStarted, IsBehind, IsGoing, IsNext, IsNone, IsOver, IsRun, IsSession, IsTurnTallied, cut_tallied, started_at}
use Rattle.booth_audit.specs.Hosts.{IsTurned}
use Rattle.booth_audit.specs.Judged.{is_now_text}
use Rattle.booth_audit.specs.Left.{LinesLeft}
use Rattle.booth_audit.specs.Noted.{MemberSays}
use Rattle.booth_audit.specs.Replay.{Event, Going, Idle, Replayed, Step, Strays, begun, by_step, deeds_of, line_behind, replayed, with_event}
use Rattle.booth_audit.specs.Tally.{Tally, tallied, tallied_all}
use Rattle.booth_audit.specs.Turns.{GoesOn, cut_of, events_from, made_by, with_events}
use Rattle.booth_audit.proofs.CourseLemmas.{deeds_made, deeds_then, left_all, left_then, none_over, over_then, sessions_then, stands_then, tallied_then, with_all}

-- ---- the entries of a turn

same_parts : (a b c d : List Entry) → length a ≡ length c → a ++ b ≡ c ++ d → (a ≡ c) × (b ≡ d)
same_parts [] b [] d same whole = (refl, whole)
same_parts [] b (y ∷ c) d same whole = absurd (omega (arith, same))
same_parts (x ∷ a) b [] d same whole = absurd (omega (arith, same))
same_parts (x ∷ a) b (y ∷ c) d same whole =
    let all : x ∷ (a ++ b) ≡ y ∷ (c ++ d) = whole in
    let first : x ≡ y = cc in
    let others : a ++ b ≡ c ++ d = cc in
    let shorter : length a ≡ length c = omega (arith, same) in
    let later = same_parts a b c d shorter others in
    (ap (λ (e : Entry). e ∷ a) first ∙ ap (λ (l : List Entry). y ∷ l) later.0, later.1)

halved : (line at count : ℕ) → at ≡ line + 2 * count → (at - line) / 2 ≡ count
halved line at count is = omega (arith, is)

some_entries : (node : NodeConfig) (old new : State) (turn : Turn) (entries : List Entry) → IsTurn node old turn entries new
    → 0 < length entries
some_entries node old new turn [] is = absurd is
some_entries node old new turn (entry ∷ entries) is = omega arith

module _ (member : MemberSays) {state next : State} {text rest : List ℕ} {line at : ℕ} {left : List Said} {end : Option End}
    {past : Option (List Entry)} (turned : IsTurned member.node state next text line left rest at end past) where
  pub turn_left : AreLeft text line rest at turned.then_left
  turn_left =
      let count = turned.replays.count in
      let within = turned.within in
      record { says = turned.says; within = within; no_longer = omega (arith, count, within) }

  -- how the replay goes on behind the calls that were read
  abbrev GoesOnSo : Option End → Type 0
  GoesOnSo o =
      GoesOn member.node (after_entries (Doing member.node (Ends state)) (made_by turned.replays.read)) o at turned.then_left
      turned.replays.unread turned.replays.rest

  on_at : (o : Option End) → end ≡ o → GoesOnSo o
  on_at o is = subst (λ (x : Option End). GoesOnSo x) is turned.replays.on

  pub turn_shorter : end ≡ None → length rest < length text
  turn_shorter none =
      let count = turned.replays.count in
      let within = turned.within in
      let all = turned.replays.whole ∙ ap (λ (l : List Entry). turned.replays.read ++ l) (on_at None none).0 in
      let some = some_entries member.node state next turned.turn turned.entries turned.is in
      let same : length turned.entries ≡ length (turned.replays.read ++ []) = ap (λ (l : List Entry). length l) all in
      let whole = ap (λ (l : List Entry). length l) (append-nil turned.replays.read) in
      let more : 0 < length turned.replays.read = omega (arith, same, some, whole) in
      omega (arith, count, within, more)

  -- the parts that were tallied are those that were read, and were not
  tallied_parts : {old new : Tally} → (t : IsTurnTallied member end line at past old new)
      → (t.read ≡ turned.replays.read) × (t.unread ≡ turned.replays.unread)
  tallied_parts t =
      let told : Some (t.read ++ t.unread) ≡ Some turned.entries = sym t.parts.0 ∙ turned.told in
      let whole : t.read ++ t.unread ≡ turned.entries = cc in
      same_parts t.read t.unread turned.replays.read turned.replays.unread
      (t.parts.1 ∙ halved line at (length turned.replays.read) turned.replays.count) (whole ∙ turned.replays.whole)

  pub tallied_so : {old new : Tally} → IsTurnTallied member end line at past old new
      → new ≡ cut_tallied member end at turned.replays.unread (tallied_all member old (events_from line turned.replays.read))
  tallied_so {old} t =
      let same = tallied_parts t in
      t.tallied
      ∙ ap (λ (l : List Entry). cut_tallied member end at t.unread (tallied_all member old (events_from line l))) same.0
      ∙ ap (λ (l : List Entry). cut_tallied member end at l (tallied_all member old (events_from line turned.replays.read))) same.1

-- ---- one more turn

-- the turn of a node that is this member's
pub of_member : {one other : NodeConfig} {old new : State} {text : List ℕ} {line : ℕ} {left : List Said} {rest : List ℕ}
    {at : ℕ} {end : Option End} {past : Option (List Entry)} → one ≡ other
    → IsTurned one old new text line left rest at end past → IsTurned other old new text line left rest at end past
of_member {old = old} {new} {text} {line} {left} {rest} {at} {end} {past} is turned =
    subst (λ (node : NodeConfig). IsTurned node old new text line left rest at end past) is turned

-- no turn so far
pub going_none : (member : MemberSays) (state : State) (text : List ℕ) (line : ℕ) (left : List Said) (tally : Tally)
    → Says text left → IsGoing member state state text line left tally tally text line
going_none member state text line left tally says = record {
  events = [];
  then_left = left;
  still = left_all says;
  is = refl;
  sessions = tt;
  stands = refl;
  tallied = refl;
}

module _ {member : MemberSays} {first state next : State} {text rest behind : List ℕ} {line at after : ℕ} {left : List Said}
    {end : Option End} {past : Option (List Entry)} {old mid new : Tally}
    (going : IsGoing member first state text line left old mid rest at)
    (turned : IsTurned member.node state next rest at going.then_left behind after end past)
    (tallied_here : IsTurnTallied member end at after past mid new) where
  abbrev read_events : List Event
  read_events = events_from at turned.replays.read

  abbrev then_stand : Stand
  then_stand = after_entries (Doing member.node (Ends state)) (made_by turned.replays.read)

  -- all that was done, up to what the turn read
  read_is : replayed member.node (Going (Doing member.node (Ends first))) line left
      ≡ with_events (going.events ++ read_events) turned.replays.rest
  read_is =
      going.is ∙ ap (with_events going.events) turned.replays.is
      ∙ sym (with_all going.events read_events turned.replays.rest)

  read_deeds : deeds_of (going.events ++ read_events) ≡ deeds_of going.events ++ made_by turned.replays.read
  read_deeds =
      deeds_then going.events read_events
      ∙ ap (λ (l : List SessionEntry). deeds_of going.events ++ l) (deeds_made at turned.replays.read)

  read_sessions : AreSessions (Doing member.node (Ends first)) (deeds_of (going.events ++ read_events))
  read_sessions =
      subst (AreSessions (Doing member.node (Ends first)))
      (sym read_deeds)
      (sessions_then (Doing member.node (Ends first)) (deeds_of going.events) (made_by turned.replays.read) going.sessions
      (subst (λ (s : Stand). AreSessions s (made_by turned.replays.read)) (sym going.stands) turned.replays.sessions))

  read_stands : after_entries (Doing member.node (Ends first)) (deeds_of (going.events ++ read_events)) ≡ then_stand
  read_stands =
      ap (after_entries (Doing member.node (Ends first))) read_deeds
      ∙ stands_then (Doing member.node (Ends first)) (deeds_of going.events) (made_by turned.replays.read)
      ∙ ap (λ (s : Stand). after_entries s (made_by turned.replays.read)) going.stands

  read_tallied : tallied_all member mid read_events ≡ tallied_all member old (going.events ++ read_events)
  read_tallied =
      ap (λ (t : Tally). tallied_all member t read_events) going.tallied ∙ sym (tallied_then member old going.events read_events)

  pub going_more : end ≡ None → IsGoing member first next text line left old new behind after
  going_more none =
      let on = on_at member turned None none in
      let there = turned.replays.all none in
      record {
        events = going.events ++ read_events;
        then_left = turned.then_left;
        still = left_then going.still (turn_left member turned);
        is = read_is ∙ ap (with_events (going.events ++ read_events)) (on.1
            ∙ ap (λ (s : Stand). replayed member.node (Going s) after turned.then_left) there);
        sessions = read_sessions;
        stands = read_stands ∙ there;
        tallied = tallied_so member turned tallied_here
            ∙ ap (λ (o : Option End). cut_tallied member o after turned.replays.unread (tallied_all member mid read_events)) none
            ∙ read_tallied;
      }

-- ---- where a session is over

-- what comes behind the calls that a turn read
record IsLastPart (member : MemberSays) (stand : Stand) (end : Option End) (unread : List Entry) (whole : Replayed)
    (text : List ℕ) (line : ℕ) (strays : Bool) (rest : List ℕ) (at : ℕ) : Type 0 where
  events : List Event
  over : IsOver member.node whole events text line strays rest at
  sessions : AreSessions stand (deeds_of events)
  tallied : (tally : Tally) → cut_tallied member end line unread tally ≡ tallied_all member tally events

last_part : {member : MemberSays} {stand : Stand} {unread : List Entry} {whole : Replayed} {text behind : List ℕ}
    {line next : ℕ} {strays : Bool} {left : List Said} (how : End) → Says text left
    → GoesOn member.node stand (Some how) line left unread whole → IsBehind (Some how) text line strays behind next
    → IsLastPart member stand (Some how) unread whole text line strays behind next
last_part Over says on b = record {
  events = [];
  over = none_over (Some Over) (left_all says) on b;
  sessions = tt;
  tallied = λ tally. refl;
}
last_part Differs says on b = record {
  events = [];
  over = none_over (Some Differs) (left_all says) on b;
  sessions = tt;
  tallied = λ tally. refl;
}
last_part {member} {stand} {line = line} Cut says on b =
    let event : Event = record { what = IsCut (cut_of on.first); line = line } in
    let behind = none_over {node = member.node} {whole = replayed member.node Idle (line + 1) on.more} (Some Cut)
    (left_all says) (on.said, on.more, on.is, refl) b in
    record {
      events = event ∷ [];
      over = record { then_left = behind.then_left; left = behind.left; is = on.on ∙ ap (with_event event) behind.is };
      sessions = (on.may, tt);
      tallied = λ tally. ap (λ (l : List Entry). cut_tallied member (Some Cut) line l tally) on.asked;
    }

module _ {member : MemberSays} {first state next : State} {text rest behind then_behind : List ℕ} {line at after then_after : ℕ}
    {left : List Said} {end : Option End} {past : Option (List Entry)} {old mid new : Tally} {strays : Bool}
    (going : IsGoing member first state text line left old mid rest at)
    (turned : IsTurned member.node state next rest at going.then_left behind after end past)
    (tallied_here : IsTurnTallied member end at after past mid new) where
  pub session_over : (how : End) → end ≡ Some how → IsBehind (Some how) behind after strays then_behind then_after
      → IsSession member first text line left old new strays then_behind then_after
  session_over how is b =
      let part = last_part how turned.says (on_at member turned (Some how) is) b in
      let read = going.events ++ events_from at turned.replays.read in
      let all_deeds = deeds_then read part.events in
      record {
        events = read ++ part.events;
        over = over_then read (read_is going turned tallied_here) (left_then going.still (turn_left member turned)) part.over;
        sessions = subst (AreSessions (Doing member.node (Ends first))) (sym all_deeds)
            (sessions_then (Doing member.node (Ends first)) (deeds_of read) (deeds_of part.events)
            (read_sessions going turned tallied_here)
            (subst (λ (s : Stand). AreSessions s (deeds_of part.events))
            (sym (read_stands going turned tallied_here)) part.sessions));
        tallied = tallied_so member turned tallied_here
            ∙ ap (λ (o : Option End). cut_tallied member o after turned.replays.unread
            (tallied_all member mid (events_from at turned.replays.read))) is
            ∙ part.tallied (tallied_all member mid (events_from at turned.replays.read))
            ∙ ap (λ (t : Tally). tallied_all member t part.events) (read_tallied going turned tallied_here)
            ∙ sym (tallied_then member old read part.events);
      }

-- ---- a start, and its session

-- a start whose lines began so, and which left this of them
pub started_here : (node : NodeConfig) (reading : ℕ) (text : List ℕ) (line : ℕ) (left : List Said)
    (records : Option (List (Option Record))) (old new : LinesLeft) (rest : List ℕ) (at : ℕ) (end : Option End)
    → old ≡ record { rest = text; line = line; end = None } → rest ≡ new.rest → at ≡ new.line → end ≡ new.end → Says text left
    → (Says old.rest left → HasStarted node reading (started_at node reading old.line left) records old new)
    → HasStarted node reading (started_at node reading line left) records (record { rest = text; line = line; end = None })
    (record { rest = rest; line = at; end = end })
started_here node reading text line left records old new rest at end is same_rest same_line same_end says has =
    let then_has = has (subst (λ (l : LinesLeft). Says l.rest left) (sym is) says) in
    let place : new ≡ record { rest = rest; line = at; end = end } =
    ap (λ (x : List ℕ). record { rest = x; line = new.line; end = new.end }) (sym same_rest)
    ∙ ap (λ (x : ℕ). record { rest = rest; line = x; end = new.end }) (sym same_line)
    ∙ ap (λ (x : Option End). record { rest = rest; line = at; end = x }) (sym same_end) in
    subst (λ (l : LinesLeft). HasStarted node reading (started_at node reading line left) records
    (record { rest = text; line = line; end = None }) l) place
    (subst (λ (l : LinesLeft). HasStarted node reading (started_at node reading l.line left) records l new) is then_has)

pub run_none : {member : MemberSays} {reading : ℕ} {whole : Replayed} {old new : LinesLeft} {tally : Tally} {strays : Bool}
    {behind : List ℕ} {next : ℕ} → HasStarted member.node reading whole None old new
    → IsBehind new.end new.rest new.line strays behind next
    → IsRun member whole old.rest old.line tally tally strays behind next
run_none {new = new} has b = record {
  events = [];
  over = none_over new.end has.left has.started b;
  sessions = λ stand. tt;
  tallied = refl;
}

-- the records that were read are noted, and a node is opened with them
pub run_session : {member : MemberSays} {reading : ℕ} {whole : Replayed} {records opened_with : List (Option Record)}
    {place : LinesLeft} {text : List ℕ} {line at : ℕ} {state : State} {old mid new : Tally} {strays : Bool} {behind : List ℕ}
    {next : ℕ} (has : HasStarted member.node reading whole (Some records) (record { rest = text; line = line; end = None }) place)
    → opened_with ≡ records → at ≡ place.line - 2
    → mid ≡ tallied member old (record { what = Starts member.node reading opened_with; line = at })
    → state ≡ opened member.node opened_with reading
    → IsSession member state place.rest place.line has.then_left mid new strays behind next
    → IsRun member whole text line old new strays behind next
run_session {member} {reading} {records = records} {opened_with} {place} {at = at} {state} {old} {mid} {new} {strays} {behind} {next}
    has same_records same_line tallied_now opened_so session =
    let event : Event = record { what = Starts member.node reading records; line = place.line - 2 } in
    let from : State = opened member.node records reading in
    let is : state ≡ from =
    opened_so ∙ ap (λ (l : List (Option Record)). opened member.node l reading) same_records in
    let first : mid ≡ tallied member old event =
    tallied_now
    ∙ ap (λ (l : List (Option Record)). tallied member old (record { what = Starts member.node reading l; line = at })) same_records
    ∙ ap (λ (n : ℕ). tallied member old (record { what = Starts member.node reading records; line = n })) same_line in
    let on = subst
    (λ (s : State). IsSession member s place.rest place.line has.then_left mid new strays behind next) is session in
    let over = on.over in
    record {
      events = event ∷ on.events;
      over = record {
        then_left = over.then_left;
        left = left_then has.left over.left;
        is = has.started.1 ∙ ap (with_event event) over.is;
      };
      sessions = λ stand. (has.started.0, on.sessions);
      tallied = on.tallied ∙ ap (λ (t : Tally). tallied_all member t on.events) first;
    }

-- ---- the first call, where no session goes on

no_answer : (o : Option Answer) → None ≡ option_map (λ (a : Answer). answer_text a) o → o ≡ None
no_answer None is = refl
no_answer (Some a) is = let none : None ≡ Some (answer_text a) = is in absurd cc

an_answer : (o : Option Answer) (bytes : List ℕ) → Some bytes ≡ option_map (λ (a : Answer). answer_text a) o
    → (a : Answer) × (o ≡ Some a) × (bytes ≡ answer_text a)
an_answer None bytes is = let none : Some bytes ≡ None = is in absurd cc
an_answer (Some a) bytes is = let same : Some bytes ≡ Some (answer_text a) = is in (a, refl, cc)

module _ {text : List ℕ} {left : List Said} {call : List ℕ} {answer : Option (List ℕ)} {behind : List ℕ} (node : NodeConfig)
    (line : ℕ) (f : IsFirstCall text left call answer behind) where
  -- the replay behind this step of the first call
  abbrev then_by : Step → Replayed
  then_by step = by_step step line (λ after. replayed node after (line_behind line f.said) f.more)

  idle_by : (b : Bool) → b ≡ is_now_text call
      → replayed node Idle line left
      ≡ then_by (if b && true then begun node f.said.answer else Strays)
  idle_by b is =
      ap (λ (l : List Said). replayed node Idle line l) f.is
      ∙ ap (λ (x : Bool). then_by (if x && true then begun node f.said.answer else Strays))
      (sym (is ∙ ap is_now_text f.call_is))

  pub next_strays : false ≡ is_now_text call → replayed node Idle line left ≡ record { events = []; strays = Some line }
  next_strays fails = idle_by false fails

  pub next_cut : true ≡ is_now_text call → answer ≡ None → IsNone node (Some Cut) line left (replayed node Idle line left)
  next_cut holds is =
      let none = no_answer f.said.answer (sym is ∙ f.answer_is) in
      let one : line_behind line f.said ≡ line + 1 = ap (λ (o : Option Answer). line + suc (length (answer_lines o))) none in (
        f.said,
        f.more,
        f.is,
        idle_by true holds
            ∙ ap (λ (o : Option Answer). then_by (begun node o)) none
            ∙ ap (λ (n : ℕ). replayed node Idle n f.more) one,
      )

  pub two_lines : (bytes : List ℕ) → answer ≡ Some bytes → length (lines_saying f.said) ≡ 2
  two_lines bytes is =
      let some = an_answer f.said.answer bytes (sym is ∙ f.answer_is) in
      ap (λ (o : Option Answer). suc (length (answer_lines o))) some.1

  pub next_reads : (bytes : List ℕ) (reading : ℕ) (a : Answer) → true ≡ is_now_text call → answer ≡ Some bytes → Says text left
      → SpellsReading bytes a → a ≡ answers.Reading reading
      → replayed node Idle line left ≡ started_at node reading (line + 2) f.more
  next_reads bytes reading a holds answered says spells same =
      let some = an_answer f.said.answer bytes (sym answered ∙ f.answer_is) in
      let each : AreWhole (f.said ∷ f.more) = subst AreWhole f.is says.each in
      let may = subst (λ (o : Option Answer). IsAnswered f.said.call o f.more) some.1 each.1 in
      let now : codes "now" ≡ call_text f.said.call = (bytes_eq-Decides (codes "now") call).0 (sym holds) ∙ f.call_is in
      let kind : IsAnswerTo calls.Now some.0 = same_kind calls.Now f.said.call now some.0 may.0 in
      let is : some.0 ≡ a = one_reading bytes some.0 a (kind, (may.1, some.2)) spells in
      let two : line_behind line f.said ≡ line + 2 = ap (λ (n : ℕ). line + n) (two_lines bytes answered) in
      idle_by true holds
      ∙ ap (λ (o : Option Answer). then_by (begun node o))
      (some.1 ∙ ap (λ (x : Answer). Some x) (is ∙ same))
      ∙ ap (λ (n : ℕ). started_at node reading n f.more) two

-- ---- the next start

pub next_run : {member : MemberSays} {text : List ℕ} {left : List Said} {call : List ℕ} {answer : Option (List ℕ)}
    {behind rest : List ℕ} {at : ℕ} {old new : Tally} {strays : Bool} (line reading : ℕ) (bytes : List ℕ) (a : Answer)
    (f : IsFirstCall text left call answer behind) → true ≡ is_now_text call → answer ≡ Some bytes → Says text left
    → SpellsReading bytes a → a ≡ answers.Reading reading
    → IsRun member (started_at member.node reading (line + 2) f.more) behind (line + 2) old new strays rest at
    → IsNext member text line left old new strays rest at
next_run {member} line reading bytes a f holds answered says spells same run =
    let over = run.over in
    let two = two_lines member.node line f bytes answered in
    let long = f.shorter in
    let within = over.left.within in
    let no_longer = over.left.no_longer in
    record {
      run = record {
        events = run.events;
        over = record {
          then_left = over.then_left;
          left = record {
            says = over.left.says;
            within = omega (arith, two, long, within);
            no_longer = omega (arith, two, long, no_longer);
          };
          is = next_reads member.node line f bytes reading a holds answered says spells same ∙ over.is;
        };
        sessions = run.sessions;
        tallied = run.tallied;
      };
      shorter = λ on. omega (arith, two, long, no_longer);
    }

-- it is no session, for its first call
pub next_none : {member : MemberSays} {text behind : List ℕ} {left : List Said} {line next : ℕ} {tally : Tally} {strays : Bool}
    (how : End) → Says text left → IsNone member.node (Some how) line left (replayed member.node Idle line left)
    → IsBehind (Some how) text line strays behind next → (strays ≡ false → length behind < length text)
    → IsNext member text line left tally tally strays behind next
next_none how says none b shorter = record {
  run = record {
    events = [];
    over = none_over (Some how) (left_all says) none b;
    sessions = λ stand. tt;
    tallied = refl;
  };
  shorter = shorter;
}

pub differs_shorter : {text behind : List ℕ} {line next : ℕ} {strays : Bool}
    → IsBehind (Some Differs) text line strays behind next → strays ≡ false → length behind < length text
differs_shorter b none = absurd (true≢false (sym b.0 ∙ none))

pub cut_shorter : {text behind : List ℕ} {strays : Bool} {left : List Said} {call : List ℕ} {answer : Option (List ℕ)}
    {after : List ℕ} (line next : ℕ) → (f : IsFirstCall text left call answer after) → Says text left
    → IsBehind (Some Cut) text line strays behind next
    → strays ≡ false → length behind < length text
cut_shorter {text} line next f says b none =
    let part = b.2 f.said f.more (subst (λ (l : List Said). Says text l) f.is says) in
    let shorter = part.1 in
    omega (arith, shorter)
