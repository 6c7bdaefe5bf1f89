-- The calls of a start behind its clock: it opens its socket, and reads the record of each ticket.
use Rattle.std.specs.Prelude.{length, Option, None, Some, Result, Ok, Err}
use Rattle.std.proofs.Common.{◌≡◌, ◌≤◌, ◌<◌, ◌+◌, ◌-◌, ◌^◌, ℕ, List, [], ◌∷◌, ◌++◌, drop, get_or, refl, sym, ◌∙◌, ap, subst, arith}
use Rattle.std.proofs.lemmas.List.{drop_more, drop_all}
use Rattle.booth_base.specs.Tree.{Ends}
use Rattle.booth_conf.specs.declared.tickets.TicketConf.{TicketConf}
use Rattle.booth_rec.specs.declared.record.Record.{Record}
use Rattle.booth_host.specs.declared.host.Failed.{Failed}
use Rattle.booth_journal.specs.declared.said.Answer.{Answer}
use Rattle.booth_journal.specs.declared.said.Answer.TheVariants as answers
use Rattle.booth_journal.specs.declared.said.Call.{Call}
use Rattle.booth_journal.specs.declared.said.Call.TheVariants as calls
use Rattle.booth_journal.specs.Lines.{call_text, done_answer}
use Rattle.booth_journal.specs.Says.{Said, Says}
use Rattle.booth_node.specs.declared.node_config.NodeConfig.{NodeConfig}
use Rattle.booth_node.specs.Jobs.{own_address}
use Rattle.booth_node.specs.Opening.{opened}
use Rattle.booth_node.specs.Session.{Doing, Starts}
use Rattle.booth_audit.specs.declared.end.End.{End}
use Rattle.booth_audit.specs.Course.{HasStarted, IsNone, kept_calls, start_on, started_at}
use Rattle.booth_audit.specs.Left.{Comes, IsDoneBy, IsFoundBy, LinesLeft, found_answer}
use Rattle.booth_audit.specs.Replay.{Going, Replayed, Step, answered, by_step, goes_on, replayed, with_event}
use Rattle.booth_audit.proofs.BeginLemmas.{IsAnsweredSo, ReadsOn, call_answered, call_ended}
use Rattle.booth_audit.proofs.CourseLemmas.{left_all, left_then}

-- ---- one answer

-- where a start goes on, its next call stands behind the two lines of this one
pub goes_on_is : (node : NodeConfig) (reading : ℕ) (records : List (Option Record)) (more : List Call) (line next : ℕ)
    (left : List Said) → next ≡ line + 2
    → by_step (goes_on node reading records more) line (λ place. replayed node place next left)
    ≡ start_on node reading records more next left
goes_on_is node reading records [] line next left on =
    let here : line ≡ next - 2 = omega (arith, on) in
    ap (λ (n : ℕ). with_event (record { what = Starts node reading records; line = n })
    (replayed node (Going (Doing node (Ends (opened node records reading)))) next left)) here
goes_on_is node reading records (call ∷ more) line next left on = refl

module _ {node : NodeConfig} {reading : ℕ} {whole : Replayed} {records : List (Option Record)} {call : Call}
    {more : List Call} {P : Answer → Type 0} {old mid new : LinesLeft}
    (a : IsAnsweredSo node reading whole records call more P old mid new) where
  answered_as : (other : Answer) → a.answer ≡ other
      → whole
      ≡ by_step (answered node reading records more (Some other)) mid.line
      (λ place. replayed node place new.line a.then_left)
  answered_as other same =
      a.on
      ∙ ap
      (λ (x : Answer). by_step (answered node reading records more (Some x)) mid.line
      (λ place. replayed node place new.line a.then_left)) same

  -- the start goes on with these records
  goes_by : (other : Answer) (found : List (Option Record)) → a.answer ≡ other
      → answered node reading records more (Some other) ≡ goes_on node reading found more
      → ReadsOn node reading whole found more old new
  goes_by other found same goes = record {
    then_left = a.then_left;
    left = a.left;
    is = answered_as other same
        ∙ ap (λ (s : Step). by_step s mid.line (λ place. replayed node place new.line a.then_left)) goes
        ∙ goes_on_is node reading found more mid.line new.line a.then_left a.line;
  }

  -- the start is none
  fails_by : a.answer ≡ answers.Fails → None ≡ new.end → HasStarted node reading whole None old new
  fails_by same none = record {
    then_left = a.then_left;
    left = a.left;
    started = subst (λ (o : Option End). IsNone node o new.line a.then_left whole) none
        (answered_as answers.Fails same);
  }

-- ---- the next read

-- Its text was asked for where the calls before it were read, and this came of it.
module _ {node : NodeConfig} {reading : ℕ} {whole : Replayed} {records : List (Option Record)} {name : List ℕ}
    {more : List Call} {old mid : LinesLeft} (new : LinesLeft) (text : List ℕ) (found : Result (Option Record) Failed)
    (so_far : ReadsOn node reading whole records (calls.Kept name ∷ more) old mid)
    (short : old.line + length old.rest ≤ 2 ^ 63) (running : mid.end ≡ None)
    (spells : text ≡ call_text (calls.Kept name))
    (comes : (left : List Said) → Says mid.rest left → Comes left text (IsFoundBy found) mid new) where
  record_comes : Comes so_far.then_left (call_text (calls.Kept name)) (IsFoundBy found) mid new
  record_comes =
      subst (λ (t : List ℕ). Comes so_far.then_left t (IsFoundBy found) mid new) spells
      (comes so_far.then_left so_far.left.says)

  record_read : None ≡ new.end
      → IsAnsweredSo node reading whole records (calls.Kept name) more (IsFoundBy found) old mid new
  record_read none = call_answered new (IsFoundBy found) so_far short running refl none record_comes

  pub records_ended : (how : End) → Some how ≡ new.end → HasStarted node reading whole None old new
  records_ended how some = call_ended new (IsFoundBy found) so_far short running refl how some record_comes

  pub records_failed : (failed : Failed) → found ≡ Err failed → None ≡ new.end
      → HasStarted node reading whole None old new
  records_failed failed is none =
      let a = record_read none in fails_by a (a.holds a.may ∙ ap found_answer is) none

  pub records_more : (one : Option Record) → found ≡ Ok one → None ≡ new.end
      → ReadsOn node reading whole (records ++ one ∷ []) more old new
  records_more None is none =
      let a = record_read none in
      goes_by a answers.Absent (records ++ None ∷ []) (a.holds a.may ∙ ap found_answer is) refl
  records_more (Some kept) is none =
      let a = record_read none in
      goes_by a (answers.Found kept) (records ++ Some kept ∷ []) (a.holds a.may ∙ ap found_answer is) refl

-- ---- all reads

-- nothing was read so far
pub records_none : (node : NodeConfig) (reading : ℕ) (tickets : List TicketConf) (old : LinesLeft) (left : List Said)
    → Says old.rest left
    → ReadsOn node reading (start_on node reading [] (kept_calls tickets) old.line left) []
    (kept_calls (drop 0 tickets)) old old
records_none node reading tickets old left says =
    record { then_left = left; left = left_all says; is = refl }

-- the next read is that of this ticket
pub records_next : {node : NodeConfig} {reading : ℕ} {whole : Replayed} {records : List (Option Record)}
    {old new : LinesLeft} (tickets : List TicketConf) (i : ℕ) (ticket : TicketConf) → i < length tickets → ticket ≡ get_or tickets i ticket
    → ReadsOn node reading whole records (kept_calls (drop i tickets)) old new
    → ReadsOn node reading whole records (calls.Kept ticket.name ∷ kept_calls (drop (i + 1) tickets)) old new
records_next {node} {reading} {whole} {records} {old} {new} tickets i ticket below at on =
    let first : drop i tickets ≡ ticket ∷ drop (i + 1) tickets =
    drop_more tickets i ticket below ∙ ap (λ (t : TicketConf). t ∷ drop (i + 1) tickets) (sym at) in
    subst (λ (l : List TicketConf). ReadsOn node reading whole records (kept_calls l) old new) first on

-- all records were read
pub records_all : {node : NodeConfig} {reading : ℕ} {whole : Replayed} {records : List (Option Record)}
    {old new : LinesLeft} (tickets : List TicketConf) (i : ℕ) → length tickets ≤ i → node.config.tickets ≡ tickets
    → length records ≡ length tickets → ReadsOn node reading whole records (kept_calls (drop i tickets)) old new
    → HasStarted node reading whole (Some records) old new
records_all {node} {reading} {records = records} {new = new} tickets i all same count on = record {
  then_left = on.then_left;
  left = on.left;
  started = (
    count ∙ sym (ap (λ (l : List TicketConf). length l) same),
    on.is
        ∙ ap (λ (l : List TicketConf). start_on node reading records (kept_calls l) new.line on.then_left)
        (drop_all i tickets all),
  );
}

-- ---- the first call

-- Its text was asked for, and this came of it.
module _ (node : NodeConfig) (reading : ℕ) (old mid : LinesLeft) (left : List Said) (text : List ℕ)
    (done : Result (Unit {0}) Failed) (says : Says old.rest left) (short : old.line + length old.rest ≤ 2 ^ 63)
    (running : old.end ≡ None) (spells : text ≡ call_text (calls.Open (Some (own_address node))))
    (comes : (l : List Said) → Says old.rest l → Comes l text (IsDoneBy done) old mid) where
  open_due : ReadsOn node reading (started_at node reading old.line left) []
      (calls.Open (Some (own_address node)) ∷ kept_calls node.config.tickets) old old
  open_due = record { then_left = left; left = left_all says; is = refl }

  open_comes : Comes left (call_text (calls.Open (Some (own_address node)))) (IsDoneBy done) old mid
  open_comes = subst (λ (t : List ℕ). Comes left t (IsDoneBy done) old mid) spells (comes left says)

  open_done : None ≡ mid.end
      → IsAnsweredSo node reading (started_at node reading old.line left) [] (calls.Open (Some (own_address node)))
      (kept_calls node.config.tickets) (IsDoneBy done) old old mid
  unfolding open_due
  open_done none = call_answered mid (IsDoneBy done) open_due short running refl none open_comes

  pub open_ended : (how : End) → Some how ≡ mid.end
      → HasStarted node reading (started_at node reading old.line left) None old mid
  unfolding open_due
  open_ended how some = call_ended mid (IsDoneBy done) open_due short running refl how some open_comes

  pub open_failed : (failed : Failed) → done ≡ Err failed → None ≡ mid.end
      → HasStarted node reading (started_at node reading old.line left) None old mid
  open_failed failed is none = let a = open_done none in fails_by a (a.holds a.may ∙ ap done_answer is) none

  pub opened_here : (did : Unit {0}) → done ≡ Ok did → None ≡ mid.end
      → ReadsOn node reading (started_at node reading old.line left) [] (kept_calls node.config.tickets) old mid
  opened_here did is none =
      let a = open_done none in goes_by a answers.Done [] (a.holds a.may ∙ ap done_answer is) refl

-- a start whose records are read behind its first call
pub started_then : {node : NodeConfig} {reading : ℕ} {whole : Replayed} {more : List Call} {old mid new : LinesLeft}
    (found : Option (List (Option Record))) → (on : ReadsOn node reading whole [] more old mid)
    → HasStarted node reading (start_on node reading [] more mid.line on.then_left) found mid new
    → HasStarted node reading whole found old new
started_then {node} {new = new} None on has = record {
  then_left = has.then_left;
  left = left_then on.left has.left;
  started = subst (λ (w : Replayed). IsNone node new.end new.line has.then_left w) (sym on.is) has.started;
}
started_then (Some records) on has = record {
  then_left = has.then_left;
  left = left_then on.left has.left;
  started = (has.started.0, on.is ∙ has.started.1);
}
