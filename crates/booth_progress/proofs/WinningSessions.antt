-- A leader's open round, through a session.
use Rattle.std.proofs.Common.{◌≡◌, ◌⊎◌, inl, inr, ℕ, Bool, List, [], ◌∷◌, sym, ◌∙◌, subst, arith}
use Rattle.std.specs.Prelude.{Some, is_ok}
use Rattle.booth_base.specs.Tree.{Ends, Does}
use Rattle.booth_host.specs.declared.entry.Entry.{Entry}
use Rattle.booth_host.specs.declared.entry.Entry.TheVariants as calls
use Rattle.booth_wire.specs.declared.message.Setup.{Setup}
use Rattle.booth_raft.specs.declared.view.Round.{Round}
use Rattle.booth_raft.specs.declared.view.View.{View}
use Rattle.booth_raft.specs.AskAndRenew.{renew}
use Rattle.booth_raft.proofs.FactsLemmas.{some_same, untrue}
use Rattle.booth_node.specs.Reaction.{Keep, Send, Start, react, used}
use Rattle.booth_node.specs.Session.{AreSessions, Doing, Down, Hearing, IsCut, Makes, MayDo, MayMake, SessionEntry, Stand, Starts, after_call, after_entries, after_entry}
use Rattle.booth_node.specs.State.{State}
use Rattle.booth_progress.specs.Extending.{AllHave}
use Rattle.booth_progress.specs.Kept.{all_kept}
use Rattle.booth_progress.specs.Leading.{HasTermsLeft, IsOpened, OpensRound, HasAnswered, IsLeading}
use Rattle.booth_progress.specs.Renewing.{after_renewal}
use Rattle.booth_progress.specs.Sessions.{EachEntry, Stands}
use Rattle.booth_progress.specs.Turns.{HasSomeView, IsLeft}
use Rattle.booth_progress.specs.Winning.{AllAreHeard, Attempt, attempt_of, Brings, HearsAnswer, HearsOne, IsAnswerBy, IsAwaiting, IsFit, IsRenewed, IsTimelyEntry, RestsRenewed, RestsWinning, SessionsWin, Wins}
use Rattle.booth_progress.specs.Written.{IsKept}
use Rattle.booth_progress.proofs.ExtendingLemmas.{some_and}
use Rattle.booth_progress.proofs.LeadingLemmas.{same_round}
use Rattle.booth_progress.proofs.OpeningLemmas.{leaders_open_rounds}
use Rattle.booth_progress.proofs.SessionLemmas.{no_earlier}
use Rattle.booth_progress.proofs.WrittenLemmas.{whenever_on}
use Rattle.booth_progress.proofs.WinningLemmas.{Awaits, WinsBy, turns_win, wins_more}

stands_on : (Before After : State → Type 0) → ((state : State) → Before state → After state) → (stand : Stand) → Stands Before stand
    → Stands After stand
stands_on Before After on Down h = h
stands_on Before After on (Doing node deeds) h = whenever_on IsKept Before After deeds h on
stands_on Before After on (Hearing node old answer bytes) h = on old h

module _ (place : ℕ) (attempt : Attempt) (fit : IsFit attempt) where
  abbrev Rest : (ℕ → Type 0) → State → Type 0
  Rest Answered state = HasSomeView state place attempt.setup (WinsBy attempt Answered state.last_reading)

  rest_more : (Answered More : ℕ → Type 0) → ((member : ℕ) → More member → Answered member) → (state : State) → Rest Answered state
      → Rest More state
  rest_more Answered More on state (view, there, w) = (view, there, wins_more attempt fit Answered More on state.last_reading view w)

  abbrev With : (ℕ → Type 0) → Stand → SessionEntry → ℕ → Type 0
  With Answered stand what member = Answered member ⊎ HearsOne attempt place member stand what

  nothing : (Answered : ℕ → Type 0) (member : ℕ) → Answered member ⊎ ⊥ → Answered member
  nothing Answered member (inl old) = old
  nothing Answered member (inr none) = absurd none

  makes_so : (Answered : ℕ → Type 0) (stand : Stand) (call : Entry) → Stands (Rest Answered) stand → MayMake stand call
      → IsTimelyEntry attempt place stand (Makes call) → Stands (Rest (With Answered stand (Makes call))) (after_call stand call)
  makes_so Answered Down call h d timely = absurd d
  makes_so Answered (Doing node (Ends old)) (calls.Next wait answer bytes) h d timely =
      rest_more Answered _ (nothing Answered) old h
  makes_so Answered (Doing node (Ends old)) call h d timely = absurd d
  makes_so Answered (Doing node (Does (Send peer message) go)) (calls.Send to bytes answer) h d timely =
      whenever_on IsKept (Rest Answered) (Rest _) (go (is_ok answer)) (h (is_ok answer) tt) (rest_more Answered _ (nothing Answered))
  makes_so Answered (Doing node (Does (Send peer message) go)) call h d timely = absurd d
  makes_so Answered (Doing node (Does (Keep name tried) go)) (calls.Keep ticket rec answer) h d timely =
      whenever_on IsKept (Rest Answered) (Rest _) (go (is_ok answer)) (h (is_ok answer) timely.well) (rest_more Answered _ (nothing Answered))
  makes_so Answered (Doing node (Does (Keep name tried) go)) call h d timely = absurd d
  makes_so Answered (Doing node (Does (Start job) go)) (calls.Start number ticket handler local expires answer) h d timely =
      whenever_on IsKept (Rest Answered) (Rest _) (go (is_ok answer)) (h (is_ok answer) tt) (rest_more Answered _ (nothing Answered))
  makes_so Answered (Doing node (Does (Start job) go)) call h d timely = absurd d
  makes_so Answered (Hearing node old answer bytes) (calls.Now reading) h d timely =
      whenever_on IsKept (IsLeft now place attempt.setup (WinsBy attempt Then now)) (Rest Then) (react node old now answer bytes)
      (turns_win node old place attempt Answered old.last_reading now answer bytes fit (no_earlier old.last_reading reading)
      timely.hears.0.0 timely.hears.0.1 timely.hears.0.2 h timely.hears.1)
      (λ left l. subst (λ (n : ℕ). HasSomeView left place attempt.setup (WinsBy attempt Then n)) (sym l.reading) l.ticket)
    where
      now : ℕ
      now = used old.last_reading reading

      Then : ℕ → Type 0
      Then member = Answered member ⊎ Brings node now old answer bytes (IsAnswerBy attempt place now member)
  makes_so Answered (Hearing node old answer bytes) call h d timely = absurd d

  goes_so : (Answered : ℕ → Type 0) (stand : Stand) (what : SessionEntry) → Stands (Rest Answered) stand → MayDo stand what
      → IsTimelyEntry attempt place stand what → Stands (Rest (With Answered stand what)) (after_entry stand what)
  goes_so Answered stand (Starts node reading records) h d timely = absurd timely.well
  goes_so Answered stand (Makes call) h d timely = makes_so Answered stand call h d timely
  goes_so Answered stand (IsCut call) h d timely = absurd timely.well

  all_so : (Answered : ℕ → Type 0) (stand : Stand) (entries : List SessionEntry) → AreSessions stand entries
      → EachEntry (IsTimelyEntry attempt place) stand entries → Stands (Rest Answered) stand
      → Stands (Rest (λ member. Answered member ⊎ HearsAnswer attempt place member stand entries)) (after_entries stand entries)
  all_so Answered stand [] are each_timely h = stands_on (Rest Answered) (Rest _) (rest_more Answered _ (nothing Answered)) stand h
  all_so Answered stand (what ∷ entries) are each_timely h =
      stands_on (Rest Later) (Rest _) (rest_more Later _ regroup) (after_entries (after_entry stand what) entries)
      (all_so (With Answered stand what) (after_entry stand what) entries are.1 each_timely.1
      (goes_so Answered stand what h are.0 each_timely.0))
    where
      Later : ℕ → Type 0
      Later member = With Answered stand what member ⊎ HearsAnswer attempt place member (after_entry stand what) entries

      regroup : (member : ℕ) → Answered member ⊎ (HearsOne attempt place member stand what
          ⊎ HearsAnswer attempt place member (after_entry stand what) entries) → Later member
      regroup member (inl old) = inl (inl old)
      regroup member (inr (inl now_it)) = inl (inr now_it)
      regroup member (inr (inr later)) = inr later

  -- at first nobody is counted beside those that had answered when the round was opened
  begun : (state : State) → RestsWinning attempt place state → Rest (λ member. HasAnswered attempt.first.answers member) state
  begun state (view, there, w) = (view, there, record { keeps = w.keeps; wins = by_case w.wins })
    where
      by_case : IsRenewed attempt view ⊎ IsAwaiting attempt view
          → IsRenewed attempt view ⊎ Awaits attempt (λ member. HasAnswered attempt.first.answers member) view
      by_case (inl renewed) = inl renewed
      by_case (inr awaits) = inr (record { awaits = awaits; answered = λ member answered. awaits.grew.answers member answered })

  abbrev Counted_in : Stand → List SessionEntry → ℕ → Type 0
  Counted_in stand entries member =
      HasAnswered attempt.first.answers member ⊎ HearsAnswer attempt place member stand entries

  all_from : (stand : Stand) (entries : List SessionEntry) → AreSessions stand entries
      → EachEntry (IsTimelyEntry attempt place) stand entries → Stands (RestsWinning attempt place) stand
      → Stands (Rest (Counted_in stand entries)) (after_entries stand entries)
  all_from stand entries are each_timely h =
      all_so (λ member. HasAnswered attempt.first.answers member) stand entries are each_timely
      (stands_on (RestsWinning attempt place) (Rest (λ member. HasAnswered attempt.first.answers member)) begun stand h)

  forget : (Answered : ℕ → Type 0) (state : State) → Rest Answered state → RestsWinning attempt place state
  forget Answered state (view, there, w) = (view, there, record { keeps = w.keeps; wins = by_case w.wins })
    where
      by_case : IsRenewed attempt view ⊎ Awaits attempt Answered view → IsRenewed attempt view ⊎ IsAwaiting attempt view
      by_case (inl renewed) = inl renewed
      by_case (inr a) = inr a.awaits

  all_have : (stand : Stand) (entries : List SessionEntry) (answers : List Bool) (members : List ℕ)
      → ((member : ℕ) → Counted_in stand entries member → HasAnswered answers member)
      → AllAreHeard attempt place stand entries members → AllHave members answers
  all_have stand entries answers [] on all = tt
  all_have stand entries answers (member ∷ members) on all = (on member all.0, all_have stand entries answers members on all.1)

  is_renewed : (stand : Stand) (entries : List SessionEntry) → AllAreHeard attempt place stand entries attempt.majority
      → (state : State) → Rest (Counted_in stand entries) state → RestsRenewed attempt place state
  is_renewed stand entries all state (view, there, w) = (view, there, record { keeps = w.keeps; renewed = by_case w.wins })
    where
      by_case : IsRenewed attempt view ⊎ Awaits attempt (Counted_in stand entries) view → IsRenewed attempt view
      by_case (inl renewed) = renewed
      by_case (inr a) = absurd (a.awaits.missing (all_have stand entries a.awaits.round.answers attempt.majority a.answered all))

-- a renewal opens a round that awaits its answers
begins_so : (setup : Setup) (majority : List ℕ) (view : View) (now : ℕ) (round : Round)
    → IsFit (attempt_of setup majority view now round) → IsLeading setup now view → HasTermsLeft view
    → (after_renewal setup view now).round ≡ Some round
    → Wins (attempt_of setup majority view now round) now (after_renewal setup view now)
begins_so setup majority view now round fit l left is =
    by_round (leaders_open_rounds.renewed setup view now fit.others l left)
  where
    by_round : OpensRound setup now view (all_kept setup now (renew setup view now))
        → Wins (attempt_of setup majority view now round) now (after_renewal setup view now)
    by_round opens = record {
      keeps = record { leading = opens.leading; longer = omega arith };
      wins = inr (record {
        round = round;
        current = is;
        grew = same_round round;
        unwon = fresh.unwon;
        missing = λ have. untrue (sym fresh.few ∙ fit.enough round.answers have);
        due = opens.due;
      });
    }
      where
        found : (r : Round) × ((after_renewal setup view now).round ≡ Some r) × IsOpened setup now (all_kept setup now (renew setup view now)) r
        found = some_and _ (after_renewal setup view now).round opens.round

        fresh : IsOpened setup now (all_kept setup now (renew setup view now)) round
        fresh =
            subst (λ (r : Round). IsOpened setup now (all_kept setup now (renew setup view now)) r) (some_same (sym found.1 ∙ is)) found.2

pub sessions_win : SessionsWin
sessions_win = record {
  begins = begins_so;
  goes_on = λ place attempt stand entries fit are each_timely h.
      stands_on _ (RestsWinning attempt place) (forget place attempt fit (Counted_in place attempt fit stand entries)) (after_entries stand entries)
      (all_from place attempt fit stand entries are each_timely h);
  renewed = λ place attempt stand entries fit are each_timely h all.
      stands_on _ (RestsRenewed attempt place) (is_renewed place attempt fit stand entries all) (after_entries stand entries)
      (all_from place attempt fit stand entries are each_timely h);
}
