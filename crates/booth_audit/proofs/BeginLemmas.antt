-- The next call of a start, and what came of it.
use Rattle.std.specs.Prelude.{length, true, false, Option, None, Some, IsSome, Result, Ok, Err}
use Rattle.std.proofs.Common.{◌≡◌, ◌≤◌, ◌+◌, ◌^◌, inl, inr, ℕ, List, ◌∷◌, sym, ◌∙◌, ap, subst, arith, true≢false}
use Rattle.booth_rec.specs.declared.record.Record.{Record}
use Rattle.booth_journal.specs.declared.said.Answer.{Answer}
use Rattle.booth_journal.specs.declared.said.Call.{Call}
use Rattle.booth_journal.specs.Lines.{call_text}
use Rattle.booth_journal.specs.Reading.{IsAnswerTo}
use Rattle.booth_journal.specs.Says.{Said}
use Rattle.booth_journal.proofs.OneLemmas.{same_kind}
use Rattle.booth_node.specs.declared.node_config.NodeConfig.{NodeConfig}
use Rattle.booth_audit.specs.declared.end.End.{End}
use Rattle.booth_audit.specs.declared.end.End.TheVariants.{Over, Cut, Differs}
use Rattle.booth_audit.specs.Course.{AreLeft, HasStarted, IsNone, start_on}
use Rattle.booth_audit.specs.Judged.{is_now_text, judged}
use Rattle.booth_audit.specs.Left.{Comes, EndsHere, IsReadHere, LinesLeft, lines_on}
use Rattle.booth_audit.specs.Replay.{Replayed, Starting, answered, by_step, replayed}
use Rattle.booth_audit.specs.Starts.{StartGoesOn}
use Rattle.booth_audit.proofs.StartLemmas.{starts_are_replayed}

-- a start has read these records and is to make these calls
pub record ReadsOn (node : NodeConfig) (reading : ℕ) (whole : Replayed) (records : List (Option Record))
    (calls : List Call) (old new : LinesLeft) : Type 0 where
  pub then_left : List Said
  pub left : AreLeft old.rest old.line new.rest new.line then_left
  pub is : whole ≡ start_on node reading records calls new.line then_left

-- its next call was answered, and P holds of the answer
pub record IsAnsweredSo (node : NodeConfig) (reading : ℕ) (whole : Replayed) (records : List (Option Record))
    (call : Call) (more : List Call) (P : Answer → Type 0) (old mid new : LinesLeft) : Type 0 where
  pub answer : Answer
  pub holds : P answer
  pub may : IsAnswerTo call answer
  pub then_left : List Said
  pub left : AreLeft old.rest old.line new.rest new.line then_left
  pub line : new.line ≡ mid.line + 2
  pub on : whole
      ≡ by_step (answered node reading records more (Some answer)) mid.line
      (λ place. replayed node place new.line then_left)

abbrev end_of : LinesLeft → Option End
end_of place = place.end

two_more : (line : ℕ) → line + 2 ≤ 2 ^ 63 → lines_on line ≡ line + 2
two_more line fits = grind (arith, fits)

-- a start whose lines ended at a call is none
none_by : (node : NodeConfig) (reading : ℕ) (records : List (Option Record)) (more : List Call) (line : ℕ)
    (left : List Said) (whole : Replayed) (how : End) → StartGoesOn node reading records more line left whole (Err how)
    → IsNone node (Some how) line left whole
none_by node reading records more line left whole Over on = on
none_by node reading records more line left whole Cut on = on
none_by node reading records more line left whole Differs on = on

module _ {node : NodeConfig} {reading : ℕ} {whole : Replayed} {records : List (Option Record)} {call : Call}
    {more : List Call} {old mid : LinesLeft} (new : LinesLeft) (P : Answer → Type 0)
    (so_far : ReadsOn node reading whole records (call ∷ more) old mid) (short : old.line + length old.rest ≤ 2 ^ 63)
    (running : mid.end ≡ None) (other : is_now_text (call_text call) ≡ false) where
  goes_so : (r : Result Answer End) → judged (call_text call) so_far.then_left ≡ r
      → StartGoesOn node reading records more mid.line so_far.then_left whole r
  goes_so r judges =
      subst (λ (w : Replayed). StartGoesOn node reading records more mid.line so_far.then_left w r) (sym so_far.is)
      (subst
      (λ (x : Result Answer End). StartGoesOn node reading records more mid.line so_far.then_left
      (replayed node (Starting reading records (call ∷ more)) mid.line so_far.then_left) x)
      judges (starts_are_replayed node reading records call more mid.line so_far.then_left other))

  ended_here : EndsHere so_far.then_left (call_text call) mid new → HasStarted node reading whole None old new
  ended_here ends =
      subst (λ (p : LinesLeft). HasStarted node reading whole None old p) (sym ends.same) (record {
        then_left = so_far.then_left;
        left = so_far.left;
        started = none_by node reading records more mid.line so_far.then_left whole ends.how
            (goes_so (Err ends.how) ends.judges);
      })

  -- the lines ended there
  pub call_ended : (how : End) → Some how ≡ new.end → Comes so_far.then_left (call_text call) P mid new
      → HasStarted node reading whole None old new
  call_ended how some (inl (inl behind)) =
      absurd (true≢false (sym (subst (λ (o : Option End). IsSome o) running behind.ended)))
  call_ended how some (inl (inr ends)) = ended_here ends
  call_ended how some (inr read) = let both : Some how ≡ None = some ∙ read.1.end in absurd cc

  answered_here : (bytes : List ℕ) → (here : IsReadHere so_far.then_left (call_text call) mid new bytes)
      → P here.taken.answer → IsAnsweredSo node reading whole records call more P old mid new
  answered_here bytes here holds =
      let taken = here.taken in
      let long = taken.shorter in
      let within = so_far.left.within in
      let no_longer = so_far.left.no_longer in
      let next : new.line ≡ mid.line + 2 = here.line ∙ two_more mid.line (omega (arith, long, within, short)) in
      let on = goes_so (Ok taken.answer) taken.judges in
      let is = taken.is in
      let is_too = on.2 in
      let same : on.1 ≡ taken.more = cc in
      record {
        answer = taken.answer;
        holds = holds;
        may = same_kind call taken.said.call taken.asked taken.answer taken.may;
        then_left = taken.more;
        left = record {
          says = taken.says;
          within = omega (arith, long, within, next);
          no_longer = omega (arith, long, no_longer);
        };
        line = next;
        on = on.3
            ∙ ap
            (λ (l : List Said). by_step (answered node reading records more (Some taken.answer)) mid.line
            (λ place. replayed node place (mid.line + 2) l)) same
            ∙ ap
            (λ (n : ℕ). by_step (answered node reading records more (Some taken.answer)) mid.line
            (λ place. replayed node place n taken.more)) (sym next);
      }

  pub call_answered : None ≡ new.end → Comes so_far.then_left (call_text call) P mid new
      → IsAnsweredSo node reading whole records call more P old mid new
  call_answered none (inl (inl behind)) =
      absurd (true≢false (sym (subst (λ (o : Option End). IsSome o) running behind.ended)))
  call_answered none (inl (inr ends)) =
      let there : new.end ≡ Some ends.how = ap end_of ends.same in
      let both : None ≡ Some ends.how = none ∙ there in absurd cc
  call_answered none (inr read) = answered_here read.0 read.1 read.2
