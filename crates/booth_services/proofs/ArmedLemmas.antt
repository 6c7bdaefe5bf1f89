-- The answer whose end a renewal armed.
use Rattle.std.proofs.Common.{◌≡◌, ◌⊎◌, ℕ, List, [], ◌∷◌, ◌++◌, refl, sym, ap, ◌∙◌, subst, inl, inr}
use Rattle.std.specs.Prelude.{Option, Some, None}
use Rattle.booth_node.specs.Records.{Has}
use Rattle.booth_follow_rule.specs.declared.margins.Margins.{Margins}
use Rattle.booth_follow_rule.specs.declared.news.News.{News}
use Rattle.booth_follow_rule.specs.declared.news.News.TheVariants as news
use Rattle.booth_follow_rule.specs.declared.news.RunEnd.TheVariants.{Done}
use Rattle.booth_follow_rule.specs.declared.news.Shown.{Shown}
use Rattle.booth_follow_rule.specs.declared.news.Shown.TheVariants.{Here}
use Rattle.booth_follow_rule.specs.declared.state.FollowDeed.TheVariants as deeds
use Rattle.booth_follow_rule.specs.declared.state.State.{State}
use Rattle.booth_follow_rule.specs.declared.state.Word.TheVariants.{Renew}
use Rattle.booth_follow_rule.specs.Known.{Row, rows_from}
use Rattle.booth_follow_rule.specs.Laws.{HasArmed, HasDone, last_shown, shown_after}
use Rattle.booth_follow_rule.specs.Rule.{follow_step, opening, state_after}
use Rattle.booth_follow_rule.proofs.PlainLemmas.{renewals}
use Rattle.booth_following.specs.Laws.{rows_in}
use Rattle.booth_following.specs.Turns.{moment_of}
use Rattle.booth_services.specs.Services.{ArmsEnd, Follower, HaveNoAnswer, TimedTurn, turns_of}
use Rattle.booth_services.proofs.FollowerLemmas.{HeardIn, moments_of}
use Rattle.booth_services.proofs.ListLemmas.{joins}

-- ---- the renewal

-- a turn that heard that a run is done
record DoneIn (turns : List TimedTurn) (number : ℕ) : Type 0 where
  pub ended : TimedTurn
  pub one : Has turns ended
  pub done : ended.turn.heard ≡ news.End number Done

done_in : (m : Margins) (s : State) (turns : List TimedTurn) (number : ℕ) → HasDone number (rows_from m s (moments_of turns)) → DoneIn turns number
unfolding rows_from
done_in m s [] number h = absurd h
done_in m s (t ∷ turns) number (inl is) = record { ended = t; one = inl refl; done = is }
done_in m s (t ∷ turns) number (inr h) =
    let q = done_in m (state_after m s (moment_of t.turn)) turns number h in record { ended = q.ended; one = inr q.one; done = q.done }

-- the turn that ran the renewal that armed an end
record ArmedAt (m : Margins) (s : State) (turns : List TimedTurn) (until : ℕ) : Type 0 where
  pub first : List TimedTurn
  pub runs : TimedTurn
  pub rest : List TimedTurn
  pub whole : turns ≡ first ++ runs ∷ rest
  pub number : ℕ
  pub rows : List Row
  pub row : Row
  pub last : rows_from m s (moments_of (first ++ runs ∷ [])) ≡ rows ++ row ∷ []
  pub run : row.deed ≡ deeds.Run Renew number until
  pub done : DoneIn rest number

armed_at : (m : Margins) (s : State) (turns : List TimedTurn) (until : ℕ) → HasArmed until (rows_from m s (moments_of turns)) → ArmedAt m s turns until
unfolding rows_from
armed_at m s [] until h = absurd h
armed_at m s (t ∷ turns) until (inl h) = record {
  first = [];
  runs = t;
  rest = turns;
  whole = refl;
  number = h.0;
  rows = [];
  row = record { at = moment_of t.turn; deed = (follow_step m s (moment_of t.turn)).deed };
  last = refl;
  run = h.1;
  done = done_in m (state_after m s (moment_of t.turn)) turns h.0 h.2;
}
armed_at m s (t ∷ turns) until (inr h) =
    let here : Row = record { at = moment_of t.turn; deed = (follow_step m s (moment_of t.turn)).deed } in
    let q = armed_at m (state_after m s (moment_of t.turn)) turns until h in record {
      first = t ∷ q.first;
      runs = q.runs;
      rest = q.rest;
      whole = ap (λ (ts : List TimedTurn). t ∷ ts) q.whole;
      number = q.number;
      rows = here ∷ q.rows;
      row = q.row;
      last = ap (λ (rows : List Row). here ∷ rows) q.last;
      run = q.run;
      done = q.done;
    }

-- ---- the answer

-- the last answer among these turns
record LastAnswer (turns : List TimedTurn) (until : ℕ) : Type 0 where
  pub before : List TimedTurn
  pub t : TimedTurn
  pub silent : List TimedTurn
  pub whole : turns ≡ before ++ t ∷ silent
  pub shown : t.turn.heard ≡ news.List (Here until)
  pub no_answer : HaveNoAnswer silent

same_shown : (a b : Shown) → (let x : Option Shown = Some a in x) ≡ Some b → a ≡ b
same_shown a b p = cc

last_answer : (last : Option Shown) (m : Margins) (s : State) (turns : List TimedTurn) (until : ℕ)
    → last_shown last (rows_from m s (moments_of turns)) ≡ Some (Here until)
    → ((last ≡ Some (Here until)) × HaveNoAnswer turns) ⊎ LastAnswer turns until
unfolding last_shown rows_from
last_answer last m s [] until e = inl (e, tt)
last_answer last m s (t ∷ turns) until e =
    by_rest (last_answer (shown_after last t.turn.heard) m (state_after m s (moment_of t.turn)) turns until e)
  where
    by_news : (heard : News) → t.turn.heard ≡ heard → shown_after last heard ≡ Some (Here until) → HaveNoAnswer turns
        → ((last ≡ Some (Here until)) × HaveNoAnswer (t ∷ turns)) ⊎ LastAnswer (t ∷ turns) until
    by_news news.Nothing is same none = inl (same, ((λ shown list. let e : news.Nothing ≡ news.List shown = sym is ∙ list in absurd cc), none))
    by_news news.Stop is same none = inl (same, ((λ shown list. let e : news.Stop ≡ news.List shown = sym is ∙ list in absurd cc), none))
    by_news (news.End run how) is same none =
        inl (same, ((λ shown list. let e : news.End run how ≡ news.List shown = sym is ∙ list in absurd cc), none))
    by_news (news.List shown) is same none = inr (record {
      before = [];
      t = t;
      silent = turns;
      whole = refl;
      shown = is ∙ ap (λ (x : Shown). news.List x) (same_shown shown (Here until) same);
      no_answer = none;
    })

    by_rest : ((shown_after last t.turn.heard ≡ Some (Here until)) × HaveNoAnswer turns) ⊎ LastAnswer turns until
        → ((last ≡ Some (Here until)) × HaveNoAnswer (t ∷ turns)) ⊎ LastAnswer (t ∷ turns) until
    by_rest (inl q) = by_news t.turn.heard refl q.0 q.1
    by_rest (inr q) = inr (record {
      before = t ∷ q.before;
      t = q.t;
      silent = q.silent;
      whole = ap (λ (ts : List TimedTurn). t ∷ ts) q.whole;
      shown = q.shown;
      no_answer = q.no_answer;
    })

-- ---- both

-- the turn for whose answer a renewal armed an end
pub record ArmedEnd (x : Follower) (turns : List TimedTurn) (until : ℕ) : Type 0 where
  pub heard : HeardIn turns until
  pub arms : ArmsEnd x turns until heard.t

pub armed_end : (x : Follower) (turns : List TimedTurn) (until : ℕ) → HasArmed until (rows_in x.following x.left (turns_of turns)) → ArmedEnd x turns until
armed_end x turns until armed = by_answer
    (last_answer None x.following.margins (opening x.left) (a.first ++ a.runs ∷ []) until
    (ap (λ (rows : List Row). last_shown None rows) a.last
    ∙ renewals x.following.margins x.left (moments_of (a.first ++ a.runs ∷ [])) a.rows [] a.row a.number until a.last a.run))
  where
    a : ArmedAt x.following.margins (opening x.left) turns until
    a = armed_at x.following.margins (opening x.left) turns until armed

    by_last : LastAnswer (a.first ++ a.runs ∷ []) until → ArmedEnd x turns until
    by_last q = record {
      heard = record { before = q.before; t = q.t; after = q.silent ++ a.rest; whole = whole; shown = q.shown };
      arms = record {
        before = q.before;
        silent = q.silent;
        after = a.rest;
        whole = whole;
        no_answer = q.no_answer;
        rows = a.rows;
        row = a.row;
        last = subst (λ (ts : List TimedTurn). rows_in x.following x.left (turns_of ts) ≡ a.rows ++ a.row ∷ []) q.whole a.last;
        number = a.number;
        run = a.run;
        ended = a.done.ended;
        later = a.done.one;
        done = a.done.done;
      };
    }
      where
        whole : turns ≡ q.before ++ q.t ∷ (q.silent ++ a.rest)
        whole =
            a.whole ∙ sym (joins a.first (a.runs ∷ []) a.rest) ∙ ap (λ (ts : List TimedTurn). ts ++ a.rest) q.whole
            ∙ joins q.before (q.t ∷ q.silent) a.rest

    none_first : (until : ℕ) → (let x : Option Shown = None in x) ≡ Some (Here until) → ⊥
    none_first until e = absurd cc

    by_answer : (((let x : Option Shown = None in x) ≡ Some (Here until)) × HaveNoAnswer (a.first ++ a.runs ∷ [])) ⊎ LastAnswer (a.first ++ a.runs ∷ []) until
        → ArmedEnd x turns until
    by_answer (inl none) = absurd (none_first until none.0)
    by_answer (inr q) = by_last q
