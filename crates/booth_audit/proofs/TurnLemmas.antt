-- A turn over a host that replays lines, in the replay of its journal.
use Rattle.std.specs.Prelude.{length, bytes_eq, Bool, true, false, not, ◌&&◌, Option, None, Some, Result, Ok, Err, if◌then◌else◌}
use Rattle.std.proofs.Common.{◌≡◌, ◌+◌, ◌*◌, inl, inr, ℕ, suc, List, [], ◌∷◌, refl, sym, ◌∙◌, ap, subst, arith, true≢false}
use Rattle.booth_base.specs.declared.address.Peer.{Peer}
use Rattle.booth_base.specs.Tree.{Deeds, Ends, Does, Leads}
use Rattle.booth_auth.specs.Sealed.{sealed}
use Rattle.booth_rec.specs.declared.record.Record.{Record}
use Rattle.booth_host.specs.declared.entry.Entry.{Entry}
use Rattle.booth_host.specs.declared.entry.Entry.TheVariants as entries
use Rattle.booth_host.specs.declared.host.Arrival.{Arrival}
use Rattle.booth_host.specs.declared.host.Arrival.TheVariants as arrivals
use Rattle.booth_host.specs.declared.host.Failed.{Failed}
use Rattle.booth_host.specs.declared.host.Job.{Job}
use Rattle.booth_journal.specs.declared.said.Answer.{Answer}
use Rattle.booth_journal.specs.declared.said.Answer.TheVariants as answers
use Rattle.booth_journal.specs.declared.said.Call.{Call}
use Rattle.booth_journal.specs.declared.said.Call.TheVariants as calls
use Rattle.booth_journal.specs.Lines.{arrival_answer, call_text, done_answer, written}
use Rattle.booth_journal.specs.Looking.{begins_with_open}
use Rattle.booth_journal.specs.Says.{Said, answer_lines}
use Rattle.booth_keys.specs.declared.ring.Ring.{Ring}
use Rattle.booth_node.specs.declared.node.Turn.{Turn}
use Rattle.booth_node.specs.declared.node_config.NodeConfig.{NodeConfig}
use Rattle.booth_node.specs.Reaction.{Ask, Send, Keep, Start, IsDone, IsTurn, react, used}
use Rattle.booth_node.specs.Session.{CutCall, CutKeep, CutNext, CutNow, CutSend, CutStart, Doing, Hearing, IsCut, Makes, MayBeCut, MayMake, Stand, after_call, did}
use Rattle.booth_node.specs.State.{State}
use Rattle.booth_audit.specs.declared.end.End.{End}
use Rattle.booth_audit.specs.declared.end.End.TheVariants.{Over, Cut, Differs}
use Rattle.booth_audit.specs.Demand.{arrival_by, bytes_by, cut, demanded, done_by, is_demanded, is_demanded_by, made}
use Rattle.booth_audit.specs.Judged.{HasBytes, by_answer, is_now_text, judged}
use Rattle.booth_audit.specs.Judged.{begins_start as text_begins}
use Rattle.booth_audit.specs.Reads.{HasAnswer, IsClear, Reads, asked_text}
use Rattle.booth_audit.specs.Replay.{Going, Idle, Replayed, Step, Strays, begun, by_step, follows, is_now, is_read_by, line_behind, makes, makes_with, is_cut_short, replayed, stepped, with_event}
use Rattle.booth_audit.specs.Turns.{GoesOn, IsCutHere, IsReplayOf, TurnsAreReplayed, cut_of}

-- ---- a turn, call by call

-- each of these calls may be made where the one before it left the member
abbrev AllMade : Stand → List Entry → Stand → Type 0
AllMade stand [] last = stand ≡ last
AllMade stand (entry ∷ more) last = MayMake stand entry × AllMade (after_call stand entry) more last

-- a deed says itself what it was answered
says_so : (ring : Option Ring) (ask : Ask) (ok : Bool) (call : Entry) → IsDone ring ask ok call → ok ≡ did call
says_so ring (Send peer message) ok (entries.Send to bytes answer) d = d.3
says_so ring (Keep name tried) ok (entries.Keep ticket rec answer) d = d.2
says_so ring (Start job) ok (entries.Start number ticket handler local expires answer) d = d.1
says_so ring (Send peer message) ok call d = absurd d
says_so ring (Keep name tried) ok call d = absurd d
says_so ring (Start job) ok call d = absurd d

deeds_made : (node : NodeConfig) (deeds left : Deeds Ask State) (es : List Entry) → Leads (IsDone node.ring) deeds es left
    → AllMade (Doing node deeds) es (Doing node left)
deeds_made node deeds left [] leads = ap (λ (t : Deeds Ask State). Doing node t) (sym leads)
deeds_made node (Ends state) left (call ∷ es) leads = absurd leads
deeds_made node (Does ask go) left (call ∷ es) leads =
    let ok : leads.0 ≡ did call = says_so node.ring ask leads.0 call leads.1 in (
      subst (λ (b : Bool). IsDone node.ring ask b call) ok leads.1,
      deeds_made node (go (did call)) left es
          (subst (λ (b : Bool). Leads (IsDone node.ring) (go b) es left) ok leads.2),
    )

turn_made : (node : NodeConfig) (old new : State) (turn : Turn) (es : List Entry) → IsTurn node old turn es new
    → AllMade (Doing node (Ends old)) es (Doing node (Ends new))
turn_made node old new turn (entries.Next wait answer bytes ∷ entries.Now reading ∷ es) is =
    (is.0, (tt, deeds_made node (react node old (used old.last_reading reading) answer bytes) (Ends new) es is.2))
turn_made node old new turn es is = absurd is

-- ---- the call that is demanded

abbrev some_cut : CutCall → Option CutCall
some_cut call = Some call

record IsDemand (stand : Stand) (entry : Entry) : Type 0 where
  call : Call
  is : demanded stand ≡ Some call
  text : asked_text entry ≡ call_text call
  now : (more : List Said) → is_read_by (Going stand) more ≡ (is_now_text (asked_text entry) && not (begins_with_open more))
  cuts : cut stand ≡ Some (cut_of entry)
  may : MayBeCut stand (cut_of entry)

demand_of : (stand : Stand) (entry : Entry) → MayMake stand entry → IsDemand stand entry
demand_of (Doing node (Ends old)) (entries.Next wait answer bytes) m = record {
  call = calls.Next;
  is = refl;
  text = refl;
  now = λ more. refl;
  cuts = refl;
  may = tt;
}
demand_of (Doing node (Does (Send peer message) go)) (entries.Send to bytes answer) m = record {
  call = calls.Send peer (sealed node.ring message);
  is = refl;
  text = ap (λ (p : Peer). call_text (calls.Send p bytes)) m.0 ∙ ap (λ (b : List ℕ). call_text (calls.Send peer b)) m.1;
  now = λ more. refl;
  cuts = ap (λ (p : Peer). some_cut (CutSend p (sealed node.ring message))) (sym m.0)
      ∙ ap (λ (b : List ℕ). some_cut (CutSend to b)) (sym m.1);
  may = (m.0, m.1, m.2);
}
demand_of (Doing node (Does (Keep name tried) go)) (entries.Keep ticket rec answer) m = record {
  call = calls.Keep name (written tried);
  is = refl;
  text = ap (λ (n : List ℕ). call_text (calls.Keep n (written rec))) m.0
      ∙ ap (λ (r : Record). call_text (calls.Keep name (written r))) m.1;
  now = λ more. refl;
  cuts = ap (λ (n : List ℕ). some_cut (CutKeep n tried)) (sym m.0)
      ∙ ap (λ (r : Record). some_cut (CutKeep ticket r)) (sym m.1);
  may = (m.0, m.1);
}
demand_of (Doing node (Does (Start job) go)) (entries.Start number ticket handler local expires answer) m = record {
  call = calls.Job job.number job.ticket job.expires;
  is = refl;
  text = ap (λ (j : Job). call_text (calls.Job j.number j.ticket j.expires)) m.0;
  now = λ more. refl;
  cuts = ap (λ (j : Job). some_cut (CutStart j)) (sym m.0);
  may = m.0;
}
demand_of (Hearing node old answer bytes) (entries.Now reading) m = record {
  call = calls.Now;
  is = refl;
  text = refl;
  now = λ more. refl;
  cuts = refl;
  may = tt;
}
demand_of stand entry m = absurd m

-- ---- its answer

abbrev pair_of : Call → Answer → Option (Call × Answer)
pair_of call answer = Some (call, answer)

abbrev answer_in : Option (Call × Answer) → Answer → Answer
answer_in None other = other
answer_in (Some both) other = both.1

same_pair : (a b : Call) (x y : Answer) → pair_of a x ≡ pair_of b y → x ≡ y
same_pair a b x y same = ap (λ (o : Option (Call × Answer)). answer_in o x) same

done_again : (done : Result (Unit {0}) Failed) → done_by (done_answer done) ≡ done
done_again (Ok done) = refl
done_again (Err fault) = refl

arrival_again : (came : Result Arrival Failed) (bytes : List ℕ) → arrival_by (arrival_answer came bytes) ≡ came
arrival_again (Ok (arrivals.Datagram from)) bytes = refl
arrival_again (Ok (arrivals.Handler job status)) bytes = refl
arrival_again (Ok arrivals.Quiet) bytes = refl
arrival_again (Ok arrivals.Stop) bytes = refl
arrival_again (Err fault) bytes = refl

bytes_again : (came : Result Arrival Failed) (bytes : List ℕ) → HasBytes came bytes → bytes_by (arrival_answer came bytes) ≡ bytes
bytes_again (Ok (arrivals.Datagram from)) bytes has = refl
bytes_again (Ok (arrivals.Handler job status)) bytes has = sym has
bytes_again (Ok arrivals.Quiet) bytes has = sym has
bytes_again (Ok arrivals.Stop) bytes has = sym has
bytes_again (Err fault) bytes has = sym has

-- the answer of an entry that was done, again
done_of : (call of : Call) (done : Result (Unit {0}) Failed) (answer : Answer) → pair_of of (done_answer done) ≡ pair_of call answer
    → done_by answer ≡ done
done_of call of done answer same = ap done_by (sym (same_pair of call (done_answer done) answer same)) ∙ done_again done

made_is : (stand : Stand) (entry : Entry) (answer : Answer) → MayMake stand entry → HasAnswer entry answer → IsClear entry
    → made stand answer ≡ Some entry
made_is (Doing node (Ends old)) (entries.Next wait came bytes) answer m has clear =
    let same = sym (same_pair calls.Next has.0 (arrival_answer came bytes) answer has.1) in
    ap (λ (a : Answer). Some (entries.Next 100 (arrival_by a) (bytes_by a))) same
    ∙ ap (λ (r : Result Arrival Failed). Some (entries.Next 100 r (bytes_by (arrival_answer came bytes)))) (arrival_again came bytes)
    ∙ ap (λ (b : List ℕ). Some (entries.Next 100 came b)) (bytes_again came bytes clear)
    ∙ ap (λ (n : ℕ). Some (entries.Next n came bytes)) (sym m)
made_is (Doing node (Does (Send peer message) go)) (entries.Send to bytes done) answer m has clear =
    ap (λ (d : Result (Unit {0}) Failed). Some (entries.Send peer (sealed node.ring message) d))
    (done_of has.0 (calls.Send to bytes) done answer has.1)
    ∙ ap (λ (p : Peer). Some (entries.Send p (sealed node.ring message) done)) (sym m.0)
    ∙ ap (λ (b : List ℕ). Some (entries.Send to b done)) (sym m.1)
made_is (Doing node (Does (Keep name tried) go)) (entries.Keep ticket rec done) answer m has clear =
    ap (λ (d : Result (Unit {0}) Failed). Some (entries.Keep name tried d))
    (done_of has.0 (calls.Keep ticket (written rec)) done answer has.1)
    ∙ ap (λ (n : List ℕ). Some (entries.Keep n tried done)) (sym m.0)
    ∙ ap (λ (r : Record). Some (entries.Keep ticket r done)) (sym m.1)
made_is (Doing node (Does (Start job) go)) (entries.Start number ticket handler local expires done) answer m has clear =
    ap (λ (d : Result (Unit {0}) Failed). Some (entries.Start job.number job.ticket job.handler job.local job.expires d))
    (done_of has.0 (calls.Job number ticket expires) done answer has.1)
    ∙ ap (λ (j : Job). Some (entries.Start j.number j.ticket j.handler j.local j.expires done)) (sym m.0)
made_is (Hearing node old heard bytes) (entries.Now reading) answer m has clear =
    let same = sym (same_pair calls.Now has.0 (answers.Reading reading) answer has.1) in
    ap (λ (a : Answer). made (Hearing node old heard bytes) a) same
made_is stand entry answer m has clear = absurd m

-- ---- one step of a replay

-- what each answer of `judged` says of its two tests
abbrev Outcome : Bool → Bool → Option Answer → Result Answer End → Type 0
Outcome begins same answer (Ok one) = (begins ≡ false) × (same ≡ true) × (answer ≡ Some one)
Outcome begins same answer (Err Over) = begins ≡ true
Outcome begins same answer (Err Cut) = (begins ≡ false) × (same ≡ true) × (answer ≡ None)
Outcome begins same answer (Err Differs) = (begins ≡ false) × (same ≡ false)

outcome : (begins same : Bool) (answer : Option Answer)
    → Outcome begins same answer (if begins then Err Over else (if same then by_answer answer else Err Differs))
outcome true same answer = refl
outcome false true (Some one) = (refl, refl, refl)
outcome false true None = (refl, refl, refl)
outcome false false answer = (refl, refl)

abbrev starts_at : Entry → Said → List Said → Bool
starts_at entry said more = text_begins (asked_text entry) (call_text said.call) more

abbrev is_same : Entry → Said → Bool
is_same entry said = bytes_eq (asked_text entry) (call_text said.call)

module _ (node : NodeConfig) (stand : Stand) (entry : Entry) (d : IsDemand stand entry) (said : Said) (more : List Said) where
  stepped_by : stepped node (Going stand) said more
      ≡ (if starts_at entry said more then begun node said.answer else (if is_same entry said then makes_with stand said.answer else Strays))
  stepped_by =
      ap (λ (r : Bool). if (is_now said.call && not r) then begun node said.answer else (if is_demanded stand said.call then makes_with stand said.answer else Strays)) (d.now more)
      ∙ ap (λ (o : Option Call). if starts_at entry said more then begun node said.answer else (if is_demanded_by o said.call then makes_with stand said.answer else Strays)) d.is
      ∙ ap (λ (l : List ℕ). if starts_at entry said more then begun node said.answer else (if bytes_eq l (call_text said.call) then makes_with stand said.answer else Strays)) (sym d.text)

  out_of : (r : Result Answer End) → judged (asked_text entry) (said ∷ more) ≡ r → Outcome (starts_at entry said more) (is_same entry said) said.answer r
  out_of r is = subst (λ (x : Result Answer End). Outcome (starts_at entry said more) (is_same entry said) said.answer x) is (outcome (starts_at entry said more) (is_same entry said) said.answer)

  stepped_over : starts_at entry said more ≡ true → stepped node (Going stand) said more ≡ begun node said.answer
  stepped_over holds =
      stepped_by
      ∙ ap (λ (b : Bool). if b then begun node said.answer else (if is_same entry said then makes_with stand said.answer else Strays)) holds

  stepped_on : starts_at entry said more ≡ false → is_same entry said ≡ true → stepped node (Going stand) said more ≡ makes_with stand said.answer
  stepped_on fails holds =
      stepped_by
      ∙ ap (λ (b : Bool). if b then begun node said.answer else (if is_same entry said then makes_with stand said.answer else Strays)) fails
      ∙ ap (λ (b : Bool). if b then makes_with stand said.answer else Strays) holds

  stepped_off : starts_at entry said more ≡ false → is_same entry said ≡ false → stepped node (Going stand) said more ≡ Strays
  stepped_off fails off =
      stepped_by
      ∙ ap (λ (b : Bool). if b then begun node said.answer else (if is_same entry said then makes_with stand said.answer else Strays)) fails
      ∙ ap (λ (b : Bool). if b then makes_with stand said.answer else Strays) off

-- ---- the lines end

abbrev is_over : Result Answer End → Bool
is_over (Err Over) = true
is_over r = false

first_true : (a b : Bool) → (a && b) ≡ true → a ≡ true
first_true true b holds = refl
first_true false b holds = holds

-- a start is the same from everywhere
pub idle_so : (node : NodeConfig) (said : Said) (more : List Said) → is_now said.call ≡ true
    → stepped node Idle said more ≡ begun node said.answer
idle_so node said more holds =
    ap (λ (b : Bool). if b && true then begun node said.answer else follows node Idle said) holds

over_so : (node : NodeConfig) (stand : Stand) (entry : Entry) (at : ℕ) (left : List Said) → IsDemand stand entry
    → judged (asked_text entry) left ≡ Err Over → replayed node (Going stand) at left ≡ replayed node Idle at left
over_so node stand entry at [] d judges = refl
over_so node stand entry at (said ∷ more) d judges =
    let starts = out_of node stand entry d said more (Err Over) judges in
    let now = first_true (is_now said.call) (not (is_now_text (asked_text entry) && not (begins_with_open more))) starts in
    ap (λ (s : Step). by_step s at (λ after. replayed node after (line_behind at said) more))
    (stepped_over node stand entry d said more starts ∙ sym (idle_so node said more now))

differs_so : (node : NodeConfig) (stand : Stand) (entry : Entry) (at : ℕ) (left : List Said) → IsDemand stand entry
    → judged (asked_text entry) left ≡ Err Differs
    → replayed node (Going stand) at left ≡ record { events = []; strays = Some at }
differs_so node stand entry at [] d judges = absurd (true≢false (ap is_over judges))
differs_so node stand entry at (said ∷ more) d judges =
    let off = out_of node stand entry d said more (Err Differs) judges in
    ap (λ (s : Step). by_step s at (λ after. replayed node after (line_behind at said) more))
    (stepped_off node stand entry d said more off.0 off.1)

cut_so : (node : NodeConfig) (stand : Stand) (entry : Entry) (later : List Entry) (at : ℕ) (left : List Said) → IsDemand stand entry
    → judged (asked_text entry) left ≡ Err Cut
    → IsCutHere node stand at left (entry ∷ later) (replayed node (Going stand) at left)
cut_so node stand entry later at [] d judges = absurd (true≢false (ap is_over judges))
cut_so node stand entry later at (said ∷ more) d judges =
    let out = out_of node stand entry d said more (Err Cut) judges in
    let one : line_behind at said ≡ at + 1 = ap (λ (o : Option Answer). at + suc (length (answer_lines o))) out.2 in
    record {
      said = said;
      more = more;
      first = entry;
      later = later;
      is = refl;
      asked = refl;
      may = d.may;
      on = ap (λ (s : Step). by_step s at (λ after. replayed node after (line_behind at said) more))
          (stepped_on node stand entry d said more out.0 out.1 ∙ ap (makes_with stand) out.2 ∙ ap is_cut_short d.cuts)
          ∙ ap (λ (n : ℕ). with_event (record { what = IsCut (cut_of entry); line = at }) (replayed node Idle n more)) one;
    }

ends_so : (node : NodeConfig) (stand : Stand) (entry : Entry) (later : List Entry) (at : ℕ) (left : List Said) (how : End)
    → IsDemand stand entry → judged (asked_text entry) left ≡ Err how
    → GoesOn node stand (Some how) at left (entry ∷ later) (replayed node (Going stand) at left)
ends_so node stand entry later at left Over d judges = over_so node stand entry at left d judges
ends_so node stand entry later at left Cut d judges = cut_so node stand entry later at left d judges
ends_so node stand entry later at left Differs d judges = differs_so node stand entry at left d judges

-- ---- one more call is read

read_so : (node : NodeConfig) (stand : Stand) (entry : Entry) (line : ℕ) (said : Said) (more : List Said) (answer : Answer)
    → MayMake stand entry → judged (asked_text entry) (said ∷ more) ≡ Ok answer → HasAnswer entry answer → IsClear entry
    → replayed node (Going stand) line (said ∷ more)
    ≡ with_event (record { what = Makes entry; line = line }) (replayed node (Going (after_call stand entry)) (line + 2) more)
read_so node stand entry line said more answer m judges has clear =
    let d = demand_of stand entry m in
    let out = out_of node stand entry d said more (Ok answer) judges in
    let two : line_behind line said ≡ line + 2 = ap (λ (o : Option Answer). line + suc (length (answer_lines o))) out.2 in
    ap (λ (s : Step). by_step s line (λ after. replayed node after (line_behind line said) more))
    (stepped_on node stand entry d said more out.0 out.1 ∙ ap (makes_with stand) out.2
    ∙ ap (makes stand) (made_is stand entry answer m has clear))
    ∙ ap (λ (n : ℕ). with_event (record { what = Makes entry; line = line }) (replayed node (Going (after_call stand entry)) n more)) two

-- ---- all calls of a turn

none_more : (line at : ℕ) → at ≡ line → at ≡ line + 2 * length {A = Entry} []
none_more line at count = omega (arith, count)

two_more : (line at : ℕ) (read : List Entry) (entry : Entry) → at ≡ (line + 2) + 2 * length read
    → at ≡ line + 2 * length (entry ∷ read)
two_more line at read entry count = omega (arith, count)

path_replayed : (node : NodeConfig) (stand last : Stand) (es : List Entry) (line : ℕ) (left : List Said) (end : Option End)
    (at : ℕ) (then_left : List Said) → AllMade stand es last → Reads es line left end at then_left
    → IsReplayOf node stand last es line left end at then_left
path_replayed node stand last [] line left end at then_left all reads =
    let whole : Replayed = replayed node (Going stand) line left in
    record {
      read = [];
      unread = [];
      rest = whole;
      whole = refl;
      is = refl;
      count = none_more line at reads.1;
      on = subst (λ (o : Option End). GoesOn node stand o at then_left [] whole) (sym reads.0)
          (subst (λ (n : ℕ). GoesOn node stand None n then_left [] whole) (sym reads.1)
          (subst (λ (l : List Said). GoesOn node stand None line l [] whole) (sym reads.2) (refl, refl)));
      sessions = tt;
      all = λ none. all;
    }
path_replayed node stand last (entry ∷ es) line left end at then_left all (inl ends) =
    let how = ends.0 in
    let whole : Replayed = replayed node (Going stand) line left in
    let goes = ends_so node stand entry es line left how.how (demand_of stand entry all.0) how.judges in
    record {
      read = [];
      unread = entry ∷ es;
      rest = whole;
      whole = refl;
      is = refl;
      count = none_more line at ends.1;
      on = subst (λ (o : Option End). GoesOn node stand o at then_left (entry ∷ es) whole) (sym how.is)
          (subst (λ (n : ℕ). GoesOn node stand (Some how.how) n then_left (entry ∷ es) whole) (sym ends.1)
          (subst (λ (l : List Said). GoesOn node stand (Some how.how) line l (entry ∷ es) whole) (sym ends.2) goes));
      sessions = tt;
      all = λ none. let both : None ≡ Some how.how = sym none ∙ how.is in absurd cc;
    }
path_replayed node stand last (entry ∷ es) line left end at then_left all (inr goes) =
    let is = goes.1 in
    let later = path_replayed node (after_call stand entry) last es (line + 2) goes.0 end at then_left all.1 goes.2 in
    let judges = ap (judged (asked_text entry)) (sym is.is) ∙ is.judges in
    let first = read_so node stand entry line is.said_so goes.0 is.answer all.0 judges is.has is.clear in
    record {
      read = entry ∷ later.read;
      unread = later.unread;
      rest = later.rest;
      whole = ap (λ (l : List Entry). entry ∷ l) later.whole;
      is = ap (λ (l : List Said). replayed node (Going stand) line l) is.is ∙ first
          ∙ ap (with_event (record { what = Makes entry; line = line })) later.is;
      count = two_more line at later.read entry later.count;
      on = later.on;
      sessions = (all.0, later.sessions);
      all = later.all;
    }

pub turns_are_replayed : TurnsAreReplayed
turns_are_replayed node old new turn es line left end at then_left is reads =
    path_replayed node (Doing node (Ends old)) (Doing node (Ends new)) es line left end at then_left
    (turn_made node old new turn es is) reads
