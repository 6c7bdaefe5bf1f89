-- What a replaying host has read and tells, call by call.
use Rattle.std.specs.Prelude.{length, Option, None, Some, IsSome, Result, Err}
use Rattle.std.proofs.Common.{◌≡◌, ◌≤◌, ◌+◌, ◌^◌, inl, inr, ℕ, List, [], ◌∷◌, ◌++◌, refl, sym, ◌∙◌, ap, subst, arith, true≢false}
use Rattle.booth_host.specs.declared.entry.Entry.{Entry}
use Rattle.booth_host.specs.declared.host.Failed.{Failed}
use Rattle.booth_host.specs.Past.{GrewBy, grown}
use Rattle.booth_journal.specs.declared.said.Answer.{Answer}
use Rattle.booth_journal.specs.declared.said.Call.{Call}
use Rattle.booth_journal.specs.Lines.{call_text, done_answer, said}
use Rattle.booth_journal.specs.Reading.{IsAnswerTo, IsDone}
use Rattle.booth_journal.specs.Says.{Said, Says}
use Rattle.booth_journal.proofs.OneLemmas.{same_kind}
use Rattle.booth_audit.specs.declared.end.End.{End}
use Rattle.booth_audit.specs.Judged.{judged}
use Rattle.booth_audit.specs.Left.{Comes, EndsHere, IsBehind, IsDoneBy, IsReadHere, LinesLeft, lines_on}
use Rattle.booth_audit.specs.Hosts.{HasRead, IsReplay, Seen}
use Rattle.booth_audit.specs.Reads.{HasAnswer, IsClear, IsEntry, Reads, asked_text, text_said}

-- an entry has this answer, and no bytes without a datagram
abbrev pub Fits : Entry → Answer → Type 0
Fits entry answer = HasAnswer entry answer × IsClear entry

-- ---- one more entry

behind_end : (es : List Entry) (line : ℕ) (left : List Said) (end : Option End) (at : ℕ) (then_left : List Said) (entry : Entry)
    → IsSome end → Reads es line left end at then_left → Reads (es ++ entry ∷ []) line left end at then_left
behind_end [] line left end at then_left entry some reads =
    absurd (true≢false (sym (subst (λ (o : Option End). IsSome o) reads.0 some)))
behind_end (e ∷ es) line left end at then_left entry some (inl last) = inl last
behind_end (e ∷ es) line left end at then_left entry some (inr goes) =
    inr (goes.0, goes.1, behind_end es (line + 2) goes.0 end at then_left entry some goes.2)

at_end : (es : List Entry) (line : ℕ) (left : List Said) (end : Option End) (at : ℕ) (then_left : List Said) (entry : Entry)
    (how : End) → end ≡ None → judged (asked_text entry) then_left ≡ Err how → Reads es line left end at then_left
    → Reads (es ++ entry ∷ []) line left (Some how) at then_left
at_end [] line left end at then_left entry how none judges reads =
    inl
    (record { how = how; judges = ap (judged (asked_text entry)) (sym reads.2) ∙ judges; is = refl }, reads.1, reads.2)
at_end (e ∷ es) line left end at then_left entry how none judges (inl last) =
    let both : None ≡ Some last.0.how = sym none ∙ last.0.is in absurd cc
at_end (e ∷ es) line left end at then_left entry how none judges (inr goes) =
    inr (goes.0, goes.1, at_end es (line + 2) goes.0 end at then_left entry how none judges goes.2)

on_line : (es : List Entry) (line : ℕ) (left : List Said) (end : Option End) (at : ℕ) (then_left : List Said) (entry : Entry)
    (more : List Said) → end ≡ None → IsEntry entry then_left more → Reads es line left end at then_left
    → Reads (es ++ entry ∷ []) line left None (at + 2) more
on_line [] line left end at then_left entry more none is reads =
    inr (more, subst (λ (l : List Said). IsEntry entry l more) reads.2 is, (refl, ap (λ n. n + 2) reads.1, refl))
on_line (e ∷ es) line left end at then_left entry more none is (inl last) =
    let both : None ≡ Some last.0.how = sym none ∙ last.0.is in absurd cc
on_line (e ∷ es) line left end at then_left entry more none is (inr goes) =
    inr (goes.0, goes.1, on_line es (line + 2) goes.0 end at then_left entry more none is goes.2)

-- ---- one more call

module _ (text : List ℕ) (line : ℕ) (left : List Said) (old new : LinesLeft) (es : List Entry) (entry : Entry)
    (has : HasRead text line left old es) where
  more_behind : IsBehind old new → HasRead text line left new (es ++ entry ∷ [])
  more_behind behind =
      subst (λ (p : LinesLeft). HasRead text line left p (es ++ entry ∷ [])) (sym behind.same) (record {
        then_left = has.then_left;
        says = has.says;
        within = has.within;
        bound = has.bound;
        reads = behind_end es line left old.end old.line has.then_left entry behind.ended has.reads;
      })

  more_ends : EndsHere has.then_left (asked_text entry) old new → HasRead text line left new (es ++ entry ∷ [])
  more_ends ends =
      subst (λ (p : LinesLeft). HasRead text line left p (es ++ entry ∷ [])) (sym ends.same) (record {
        then_left = has.then_left;
        says = has.says;
        within = has.within;
        bound = has.bound;
        reads = at_end es line left old.end old.line has.then_left entry ends.how ends.running ends.judges has.reads;
      })

  more_read : (bytes : List ℕ) → (here : IsReadHere has.then_left (asked_text entry) old new bytes)
      → Fits entry here.taken.answer → HasRead text line left new (es ++ entry ∷ [])
  more_read bytes here fits =
      let long = here.taken.shorter in
      let within = has.within in
      let bound = has.bound in
      let next : new.line ≡ old.line + 2 = here.line ∙ small old.line (omega (arith, long, within, bound)) in
      let is : IsEntry entry has.then_left here.taken.more = record {
        said_so = here.taken.said;
        answer = here.taken.answer;
        is = here.taken.is;
        judges = here.taken.judges;
        asked = here.taken.asked;
        answered = here.taken.answered;
        has = fits.0;
        clear = fits.1;
      } in
      record {
        then_left = here.taken.more;
        says = here.taken.says;
        within = omega (arith, long, within, next);
        bound = bound;
        reads = subst (λ (o : Option End). Reads (es ++ entry ∷ []) line left o new.line here.taken.more) (sym here.end)
            (subst (λ (n : ℕ). Reads (es ++ entry ∷ []) line left None n here.taken.more) (sym next)
            (on_line es line left old.end old.line has.then_left entry here.taken.more here.running is has.reads));
      }
    where
      small : (n : ℕ) → n + 2 ≤ 2 ^ 63 → lines_on n ≡ n + 2
      small n fits = grind (arith, fits)

  more_comes : Comes has.then_left (asked_text entry) (Fits entry) old new → HasRead text line left new (es ++ entry ∷ [])
  more_comes (inl (inl behind)) = more_behind behind
  more_comes (inl (inr ends)) = more_ends ends
  more_comes (inr read) = more_read read.0 read.1 read.2

-- ---- what the host tells

-- nothing
pub untold : (text : List ℕ) (line : ℕ) (seen : Seen) → seen.past ≡ None → IsReplay text line seen
untold text line seen none entries is left says = let both : None ≡ Some entries = sym none ∙ is in absurd cc

abbrev ComesSo : Entry → Seen → Seen → Type 0
ComesSo entry old new = (left : List Said) → Says old.place.rest left
    → Comes left (asked_text entry) (Fits entry) old.place new.place

pub replay_more : (text : List ℕ) (line : ℕ) (old new : Seen) (entry : Entry) → IsReplay text line old
    → GrewBy old.past new.past (entry ∷ []) → ComesSo entry old new → IsReplay text line new
replay_more text line old new entry replay grew comes entries is left says =
    by old.past refl (sym is ∙ grew.grew (subst IsSome (sym is) refl))
  where
    by : (past : Option (List Entry)) → old.past ≡ past → Some entries ≡ grown old.past (entry ∷ [])
        → HasRead text line left new.place entries
    by None was now =
        let none : Some entries ≡ None = now ∙ ap (λ p. grown p (entry ∷ [])) was in absurd cc
    by (Some es) was now =
        let has = replay es was left says in
        let all : Some entries ≡ Some (es ++ entry ∷ []) = now ∙ ap (λ p. grown p (entry ∷ [])) was in
        let same : entries ≡ es ++ entry ∷ [] = cc in
        subst (λ (l : List Entry). HasRead text line left new.place l) (sym same)
        (more_comes text line left old.place new.place es entry has (comes has.then_left has.says))

-- an answer of the entry's call is the entry's
pub comes_as : {P : Answer → Type 0} {left : List Said} {old new : LinesLeft} (entry : Entry) (call : Call) (b : Answer)
    → said entry ≡ Some (call, b) → ((a : Answer) → IsAnswerTo call a → P a → (a ≡ b) × IsClear entry)
    → Comes left (asked_text entry) P old new → Comes left (asked_text entry) (Fits entry) old new
comes_as entry call b is fits (inl unread) = inl unread
comes_as entry call b is fits (inr read) =
    let taken = read.1.taken in
    let may = same_kind call taken.said.call (sym (ap text_said is) ∙ taken.asked) taken.answer taken.may in
    let both = fits taken.answer may read.2 in
    inr (read.0, read.1, ((call, is ∙ ap (λ (a : Answer). Some (call, a)) (sym both.0)), both.1))

-- ---- a call of the host

-- It is spelled so, and where its answer was read P holds of it.
module _ (text : List ℕ) (line : ℕ) (old new : Seen) (entry : Entry) (call : Call) (spelled : List ℕ) where
  pub asked_more : (P : Answer → Type 0) (b : Answer) → IsReplay text line old → GrewBy old.past new.past (entry ∷ [])
      → said entry ≡ Some (call, b) → spelled ≡ call_text call
      → ((a : Answer) → IsAnswerTo call a → P a → (a ≡ b) × IsClear entry)
      → ((left : List Said) → Says old.place.rest left → Comes left spelled P old.place new.place) → IsReplay text line new
  asked_more P b replay grew is spells fits comes =
      replay_more text line old new entry replay grew
      (λ left says. comes_as entry call b is fits
      (subst (λ (t : List ℕ). Comes left t P old.place new.place) (spells ∙ sym (ap text_said is)) (comes left says)))

  -- a deed
  pub done_more : (done : Result (Unit {0}) Failed) → IsReplay text line old → GrewBy old.past new.past (entry ∷ [])
      → said entry ≡ Some (call, done_answer done) → spelled ≡ call_text call
      → ((a : Answer) → IsAnswerTo call a → IsDone a) → IsClear entry
      → ((left : List Said) → Says old.place.rest left → Comes left spelled (IsDoneBy done) old.place new.place)
      → IsReplay text line new
  done_more done replay grew is spells kind clear comes =
      asked_more (IsDoneBy done) (done_answer done) replay grew is spells (λ a may fits. (fits (kind a may), clear)) comes

-- ---- the first call

-- nothing was asked for so far
pub begun : (text : List ℕ) (line : ℕ) (seen : Seen) → line + length text ≤ 2 ^ 63
    → seen.place ≡ record { rest = text; line = line; end = None } → seen.past ≡ Some [] → IsReplay text line seen
begun text line seen bound place past entries is left says =
    let none : Some [] ≡ Some entries = sym past ∙ is in
    let same : [] ≡ entries = cc in
    subst (λ (es : List Entry). HasRead text line left seen.place es) same
    (subst (λ (p : LinesLeft). HasRead text line left p []) (sym place) (record {
      then_left = left;
      says = says;
      within = omega arith;
      bound = bound;
      reads = (refl, refl, refl);
    }))
