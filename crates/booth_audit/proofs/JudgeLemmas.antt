-- What a call that is asked for is to the first call that is left.
use Rattle.std.specs.Prelude.{length, bytes_eq, Bool, true, false, not, ◌&&◌, Option, None, Some, option_map, IfSome, IsSome, Result, Err, if◌then◌else◌}
use Rattle.std.proofs.Common.{◌≡◌, inl, inr, ℕ, suc, List, [], ◌∷◌, refl, sym, ◌∙◌, ap, subst, arith}
use Rattle.std.proofs.lemmas.Slice.Eq.{bytes_eq-Decides}
use Rattle.booth_rec.specs.declared.record.Record.{Record}
use Rattle.booth_host.specs.declared.host.Arrival.{Arrival}
use Rattle.booth_host.specs.declared.host.Failed.{Failed}
use Rattle.booth_journal.specs.declared.said.Answer.{Answer}
use Rattle.booth_journal.specs.declared.said.Answer.TheVariants as answers
use Rattle.booth_journal.specs.declared.said.Call.{Call}
use Rattle.booth_journal.specs.Lines.{answer_text, call_text, done_answer}
use Rattle.booth_journal.specs.Looking.{IsFirstCall, begins_with_open, is_open}
use Rattle.booth_journal.specs.Reading.{IsAnswer, SpellsArrival, SpellsDone, SpellsFound, SpellsReading}
use Rattle.booth_journal.specs.Says.{AreWhole, IsAnswered, Said, Says, answer_lines, lines_saying}
use Rattle.booth_journal.proofs.OneLemmas.{one_arrival, one_done, one_found, one_reading}
use Rattle.booth_audit.specs.declared.end.End.{End}
use Rattle.booth_audit.specs.declared.end.End.TheVariants.{Over, Cut, Differs}
use Rattle.booth_audit.specs.Judged.{begins_start, by_answer, is_now_text, judged, judged_by}
use Rattle.booth_audit.specs.Left.{Comes, IsArrivalBy, IsDoneBy, IsFoundBy, IsReadHere, IsReadingBy, IsTaken, IsUnread, LinesLeft, found_answer, lines_on}

-- ---- which call it is

pub open_next : {rest : List ℕ} {left : List Said} {call : List ℕ} {answer : Option (List ℕ)} {behind : List ℕ} (result : Bool)
    → IsFirstCall rest left call answer behind → ((c : Call) → call ≡ call_text c → result ≡ is_open c)
    → result ≡ begins_with_open left
open_next result f opens = opens f.said.call f.call_is ∙ sym (ap begins_with_open f.is)

pub starts_not : (text call : List ℕ) (left : List Said) → false ≡ is_now_text call → false ≡ begins_start text call left
starts_not text call left fails = ap (λ (b : Bool). b && not (is_now_text text && not (begins_with_open left))) fails

pub starts_unasked : (text call : List ℕ) (left : List Said) → true ≡ is_now_text call → false ≡ is_now_text text
    → true ≡ begins_start text call left
starts_unasked text call left holds fails =
    ap (λ (b : Bool). not (b && not (begins_with_open left))) fails
    ∙ ap (λ (b : Bool). b && not (is_now_text text && not (begins_with_open left))) holds

twice : (b : Bool) → b ≡ not (not b)
twice true = refl
twice false = refl

not_true : (b : Bool) → true ≡ not b → false ≡ b
not_true b holds = ap not holds ∙ sym (twice b)

not_false : (b : Bool) → false ≡ not b → true ≡ b
not_false b fails = ap not fails ∙ sym (twice b)

pub starts_asked : (text call : List ℕ) (left : List Said) (result : Bool) → true ≡ is_now_text call → true ≡ is_now_text text
    → result ≡ begins_with_open left → result ≡ begins_start text call left
starts_asked text call left result holds also opens =
    opens ∙ twice (begins_with_open left)
    ∙ ap (λ (b : Bool). not (b && not (begins_with_open left))) also
    ∙ ap (λ (b : Bool). b && not (is_now_text text && not (begins_with_open left))) holds

pub ruleset starts_here = (starts_not, starts_unasked, starts_asked)

pub over_none : (text : List ℕ) (left : List Said) → left ≡ [] → judged text left ≡ Err Over
over_none text left none = ap (judged text) none

module _ {rest : List ℕ} {left : List Said} {call : List ℕ} {answer : Option (List ℕ)} {behind : List ℕ} (text : List ℕ)
    (f : IsFirstCall rest left call answer behind) where
  seen_so : judged text left ≡ judged_by text call f.said.answer f.more
  seen_so = ap (judged text) f.is ∙ ap (λ l. judged_by text l f.said.answer f.more) (sym f.call_is)

  pub over_start : true ≡ begins_start text call f.more → judged text left ≡ Err Over
  over_start starts =
      seen_so
      ∙ ap (λ (b : Bool). if b then Err Over else (if bytes_eq text call then by_answer f.said.answer else Err Differs)) (sym starts)

  goes : false ≡ begins_start text call f.more
      → judged text left ≡ (if bytes_eq text call then by_answer f.said.answer else Err Differs)
  goes starts =
      seen_so
      ∙ ap (λ (b : Bool). if b then Err Over else (if bytes_eq text call then by_answer f.said.answer else Err Differs)) (sym starts)

  pub differs_here : false ≡ begins_start text call f.more → true ≡ not (bytes_eq text call)
      → judged text left ≡ Err Differs
  differs_here starts other =
      goes starts
      ∙ ap (λ (b : Bool). if b then by_answer f.said.answer else Err Differs) (sym (not_true (bytes_eq text call) other))

  answer_here : false ≡ begins_start text call f.more → false ≡ not (bytes_eq text call)
      → judged text left ≡ by_answer f.said.answer
  answer_here starts same =
      goes starts
      ∙ ap (λ (b : Bool). if b then by_answer f.said.answer else Err Differs) (sym (not_false (bytes_eq text call) same))

none_of : (o : Option Answer) → None ≡ option_map (λ (a : Answer). answer_text a) o → o ≡ None
none_of None is = refl
none_of (Some a) is = let none : None ≡ Some (answer_text a) = is in absurd cc

some_of : (o : Option Answer) (bytes : List ℕ) → Some bytes ≡ option_map (λ (a : Answer). answer_text a) o
    → (a : Answer) × (o ≡ Some a) × (bytes ≡ answer_text a)
some_of None bytes is = let none : Some bytes ≡ None = is in absurd cc
some_of (Some a) bytes is = let same : Some bytes ≡ Some (answer_text a) = is in (a, refl, cc)

pub cut_here : {rest : List ℕ} {left : List Said} {call : List ℕ} {answer : Option (List ℕ)} {behind : List ℕ}
    (text : List ℕ) → (f : IsFirstCall rest left call answer behind) → false ≡ begins_start text call f.more
    → false ≡ not (bytes_eq text call) → answer ≡ None → judged text left ≡ Err Cut
cut_here text f starts same none =
    answer_here text f starts same ∙ ap by_answer (none_of f.said.answer (sym none ∙ f.answer_is))

pub taken_here : {rest : List ℕ} {left : List Said} {call : List ℕ} {answer : Option (List ℕ)} {bytes behind : List ℕ}
    (text : List ℕ) → (f : IsFirstCall rest left call answer behind) → Says rest left
    → false ≡ begins_start text call f.more → false ≡ not (bytes_eq text call) → answer ≡ Some bytes
    → IsTaken text rest left bytes behind
taken_here {rest} {left} {call} {answer} {bytes} {behind} text f says starts same some =
    let of = some_of f.said.answer bytes (sym some ∙ f.answer_is) in
    let each : AreWhole (f.said ∷ f.more) = subst AreWhole f.is says.each in
    let may = subst (λ (o : Option Answer). IsAnswered f.said.call o f.more) of.1 each.1 in
    let two : length (lines_saying f.said) ≡ 2 = ap (λ (o : Option Answer). suc (length (answer_lines o))) of.1 in
    let long = f.shorter in
    record {
      said = f.said;
      more = f.more;
      answer = of.0;
      is = f.is;
      judges = answer_here text f starts same ∙ ap by_answer of.1;
      asked = (bytes_eq-Decides text call).0 (sym (not_false (bytes_eq text call) same)) ∙ f.call_is;
      answered = of.1;
      bytes_are = of.2;
      may = may.0;
      of_answer = may.1;
      says = f.says;
      shorter = omega (arith, two, long);
    }

-- ---- what is left behind it

pub behind_here : {left : List Said} {text : List ℕ} (old : LinesLeft) → IsSome old.end → IsUnread left text old old
behind_here old some = inl (record { ended = some; same = refl })

pub ends_here : {left : List Said} {text : List ℕ} (rest : List ℕ) (line : ℕ) (how : End) → judged text left ≡ Err how
    → IsUnread left text (record { rest = rest; line = line; end = None }) (record { rest = rest; line = line; end = Some how })
ends_here rest line how judges = inr (record { running = refl; how = how; judges = judges; same = refl })

pub read_here : {left : List Said} {text bytes : List ℕ} (rest behind : List ℕ) (line : ℕ) → IsTaken text rest left bytes behind
    → IsReadHere left text (record { rest = rest; line = line; end = None })
    (record { rest = behind; line = lines_on line; end = None }) bytes
read_here rest behind line taken = record { running = refl; taken = taken; line = refl; end = refl }

pub ruleset left_here = (behind_here, ends_here, read_here)

-- ---- its answer

module _ {left : List Said} {text : List ℕ} {old new : LinesLeft} {bytes : List ℕ} (here : IsReadHere left text old new bytes) where
  pub done_here : (a : Answer) (done : Result (Unit {0}) Failed) → SpellsDone bytes a → a ≡ done_answer done
      → Comes left text (IsDoneBy done) old new
  done_here a done spells same =
      inr (bytes, here, λ is. one_done bytes here.taken.answer a (is, (here.taken.of_answer, here.taken.bytes_are)) spells ∙ same)

  pub reading_here : (a : Answer) (reading : ℕ) → SpellsReading bytes a → a ≡ answers.Reading reading
      → Comes left text (IsReadingBy reading) old new
  reading_here a reading spells same =
      inr (bytes, here, λ is. one_reading bytes here.taken.answer a (is, (here.taken.of_answer, here.taken.bytes_are)) spells ∙ same)

  pub found_here : (a : Answer) (found : Result (Option Record) Failed) → SpellsFound bytes a → a ≡ found_answer found
      → Comes left text (IsFoundBy found) old new
  found_here a found spells same =
      inr (bytes, here, λ is. one_found bytes here.taken.answer a (is, (here.taken.of_answer, here.taken.bytes_are)) spells ∙ same)

  pub arrival_here : (a : Answer) (came : Result Arrival Failed) (into : List ℕ) → SpellsArrival bytes a
      → IsArrivalBy came into a → Comes left text (IsArrivalBy came into) old new
  arrival_here a came into spells fits =
      let both = fits spells.0 in
      inr (
        bytes,
        here,
        λ is.
            (one_arrival bytes here.taken.answer a (is, (here.taken.of_answer, here.taken.bytes_are)) spells ∙ both.0, both.1),
      )

  pub arrivals_here : (a : Answer) (came : Option (Result Arrival Failed)) (into : List ℕ) → SpellsArrival bytes a
      → (IsAnswer a → IfSome came (λ one. IsArrivalBy one into a))
      → IfSome came (λ one. Comes left text (IsArrivalBy one into) old new)
  arrivals_here a None into spells fits = tt
  arrivals_here a (Some came) into spells fits = arrival_here a came into spells (fits spells.1.0)
