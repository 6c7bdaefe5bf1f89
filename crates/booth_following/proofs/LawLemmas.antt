-- The runs are the rule's, and the lists authentic.
use Rattle.std.proofs.Common.{◌≡◌, ◌==◌, ◌||◌, ◌++◌, ℕ, Bool, true, false, List, [], ◌∷◌, map, Option, Some, None, Result, Ok, Err, cond, refl, ap, ◌*◌, ◌/◌, decimal, arith, sym, subst, ◌∙◌, ◌⊎◌, inl, inr}
use Rattle.std.proofs.lemmas.Bool.{eqb-true, eq-eqb}
use Rattle.std.proofs.lemmas.Fmt.{decimal_injective}
use Rattle.std.proofs.lemmas.List.{append_cancel_left}
use Rattle.booth_following.proofs.LineLemmas.{few_seconds}
use Rattle.booth_wire.specs.declared.command.Cmd.TheVariants.{RLst}
use Rattle.booth_wire.specs.declared.codes.results.TheConstants.{MORE, SUCCESS}
use Rattle.booth_wire.specs.declared.message.FrameFault.{FrameFault}
use Rattle.booth_wire.specs.Command.{code_of}
use Rattle.booth_wire.specs.PlainMessage.{Bare, Ticket, Attr, Text, Content, PlainMessage}
use Rattle.booth_wire.specs.Reading.{decoded}
use Rattle.booth_wire.proofs.ByteLemmas.{and_split}
use Rattle.booth_auth.specs.Verdict.{is_signed}
use Rattle.booth_follow_rule.specs.declared.news.News.{News}
use Rattle.booth_follow_rule.specs.declared.news.News.TheVariants as news
use Rattle.booth_follow_rule.specs.declared.news.Shown.{Shown}
use Rattle.booth_follow_rule.specs.declared.state.FollowDeed.{FollowDeed}
use Rattle.booth_follow_rule.proofs.KnownLemmas.{deeds_let}
use Rattle.booth_follow_rule.proofs.TimeLemmas.{in_time}
use Rattle.booth_follow_rule.specs.Rule.{deeds_from}
use Rattle.booth_following.specs.declared.following.Following.{Following}
use Rattle.booth_following.specs.declared.following.Seat.{Seat}
use Rattle.booth_following.specs.Asking.{number_of}
use Rattle.booth_following.specs.declared.standing.Standing.{Standing}
use Rattle.booth_following.specs.Standing.{standing_in}
use Rattle.booth_following.specs.Hearing.{IsAnswered, IsTold, is_answer, is_of_list, is_whole, part_in, part_of, part_read}
use Rattle.booth_following.specs.Laws.{EndsAreNoLater, IsAuthentic, ListsAreAuthentic, TurnsFollowTheRule}
use Rattle.booth_following.specs.Lists.{IsShownIn, Part, TellsOf}
use Rattle.booth_following.specs.Turns.{AreTurns, IsToldIn, Turn, deed_of, deeds_of, first_seat, moment_of, seat_after, seat_from}

-- ---- the rule's runs

rule_from : (seat : Seat) (ts : List Turn) →
    deeds_of seat ts ≡ deeds_from seat.follower.margins seat.follower.state (map (λ (t : Turn). moment_of t) ts)
unfolding deeds_of deeds_from
rule_from seat [] = refl
rule_from seat (t ∷ ts) = ap (λ (ds : List FollowDeed). deed_of seat t ∷ ds) (rule_from (seat_after seat t) ts)

pub follow_rule : TurnsFollowTheRule
follow_rule = record {
  deeds = λ f left turns. rule_from (first_seat f left) turns ∙ sym (deeds_let.deeds f.margins left (map (λ (t : Turn). moment_of t) turns));
  moments = λ f left turns. sym (deeds_let.moments f.margins left (map (λ (t : Turn). moment_of t) turns));
  allowed = λ f left turns. deeds_let.rows f.margins left (map (λ (t : Turn). moment_of t) turns);
  in_time = λ f left turns gap quick quicker short prompt. in_time f.margins left (map (λ (t : Turn). moment_of t) turns) gap quick quicker short prompt;
}

-- what a turn tells, behind others
pub told_at : (f : Following) (seat : Seat) (before : List Turn) (t : Turn) (after : List Turn) → AreTurns f seat (before ++ t ∷ after) →
    IsToldIn f (seat_from seat before) t
unfolding AreTurns seat_from
told_at f seat [] t after told = told.0
told_at f seat (b ∷ before) t after told = told_at f (seat_after seat b) before t after told.1

-- ---- lists

-- a test under which something is found
passed : (test : Bool) (then : Option Part) (part : Part) → cond test then None ≡ Some part → (test ≡ true) × (then ≡ Some part)
passed true then part h = (refl, h)
passed false then part h = absurd cc

-- what is found is of this text, and the whole list or not
record IsFound (whole : Bool) (content : Content) (part : Part) : Type 0 where
  tells : content ≡ Text part.text
  is_whole : part.whole ≡ whole

found : (whole : Bool) (content : Content) (part : Part) → part_of whole content ≡ Some part → IsFound whole content part
found whole (Text text) part h =
    let same : record { whole = whole; text = text } ≡ part = cc in
    record { tells = ap (λ (p : Part). Text p.text) same; is_whole = ap (λ (p : Part). p.whole) (sym same) }
found whole Bare part h = absurd cc
found whole (Ticket ticket) part h = absurd cc
found whole (Attr attr) part h = absurd cc

either : (a b : Bool) → (a || b) ≡ true → (a ≡ true) ⊎ (b ≡ true)
either true b h = inl refl
either false b h = inr h

of_list : (a b : Bool) (code : ℕ) → (code == SUCCESS) ≡ a → (code == MORE) ≡ b → (a ≡ true) ⊎ (b ≡ true) → (code ≡ SUCCESS) ⊎ (code ≡ MORE)
of_list a b code success more (inl e) = inl (eqb-true code SUCCESS (success ∙ e))
of_list a b code success more (inr e) = inr (eqb-true code MORE (more ∙ e))

result_of : (code : ℕ) → is_of_list code ≡ true → (code ≡ SUCCESS) ⊎ (code ≡ MORE)
result_of code h = of_list (code == SUCCESS) (code == MORE) code refl refl (either (code == SUCCESS) (code == MORE) h)

of_result : (code : ℕ) → (code ≡ SUCCESS) ⊎ (code ≡ MORE) → is_of_list code ≡ true
of_result code (inl e) = ap is_of_list e
of_result code (inr e) = ap is_of_list e

authentic : (f : Following) (asked : ℕ) (bytes : List ℕ) (read : Result PlainMessage FrameFault) (part : Part) → decoded bytes ≡ read →
    part_read f asked bytes read ≡ Some part → (m : PlainMessage) × IsAuthentic f asked bytes m part
authentic f asked bytes (Ok m) part is h =
    let signed = passed (is_signed f.ring m.head bytes) _ part h in
    let answer = passed (is_answer f asked m) _ part signed.1 in
    let command = and_split (code_of m.head.cmd == code_of RLst) _ answer.0 in
    let number = and_split (m.head.request == number_of asked) _ command.1 in
    let last = and_split (m.head.from.0 == f.me.0) _ number.1 in
    let is_found = found (is_whole m) m.content part answer.1 in (
      m,
      record {
        read = is;
        signed = signed.0;
        answer = eqb-true _ _ command.0;
        number = eqb-true _ _ number.0;
        from = eqb-true _ _ last.0;
        of_list = result_of m.head.result last.1;
        tells = is_found.tells;
        whole = is_found.is_whole;
      },
    )
authentic f asked bytes (Err fault) part is h = absurd cc

only : (f : Following) (asked : ℕ) (bytes : List ℕ) (part : Part) → part_in f asked bytes ≡ Some part → (m : PlainMessage) × IsAuthentic f asked bytes m part
unfolding part_in
only f asked bytes part h = authentic f asked bytes (decoded bytes) part refl h

all : (f : Following) (asked : ℕ) (bytes : List ℕ) (part : Part) (m : PlainMessage) → IsAuthentic f asked bytes m part → part_in f asked bytes ≡ Some part
unfolding part_in
all f asked bytes part m is =
    rw (is.read, is.signed, eq-eqb _ _ is.answer, eq-eqb _ _ is.number, eq-eqb _ _ is.from, of_result m.head.result is.of_list, is.tells, is.whole) refl

-- what shows something is a part that tells of the ticket
shown_by : (f : Following) (read : Option Part) (shown : Shown) → IsTold f read (news.List shown) →
    (part : Part) × (read ≡ Some part) × TellsOf f.ticket part × IsShownIn f.line part.text shown
shown_by f (Some part) shown told = (part, refl, told.0, told.1)
shown_by f None shown told = absurd cc

no_news : (f : Following) (part : Part) (heard : News) → IsTold f (Some part) heard → (TellsOf f.ticket part → ⊥) → heard ≡ news.Nothing
no_news f part (news.List shown) told untold = absurd (untold told.0)
no_news f part (news.End run how) told untold = absurd told
no_news f part news.Stop told untold = absurd told
no_news f part news.Nothing told untold = refl

-- what is no answer about the ticket tells what a list does
by_list : (f : Following) (stands : Option Standing) (read : Option Part) (heard : News) → stands ≡ None → IsAnswered f stands read heard → IsTold f read heard
by_list f (Some standing) read heard none told = absurd cc
by_list f None read heard none told = told

pub lists : ListsAreAuthentic
lists = record {
  only = only;
  all = all;
  shows = λ f asked bytes shown none heard.
      shown_by f (part_in f asked bytes) shown (by_list f (standing_in f asked bytes) (part_in f asked bytes) (news.List shown) none heard);
  silent = λ f asked bytes part heard none told is untold.
      no_news f part heard
      (subst (λ (read : Option Part). IsTold f read heard) is (by_list f (standing_in f asked bytes) (part_in f asked bytes) heard none told)) untold;
}

pub no_later : EndsAreNoLater
no_later start line end until few is told =
    let seconds : told.seconds ≡ end / 1000 = decimal_injective told.seconds (end / 1000) (few_seconds start line until told) (omega arith)
    (append_cancel_left start (decimal told.seconds) (decimal (end / 1000)) (sym told.spelled ∙ is)) in
    let millis : until ≡ told.seconds * 1000 = told.millis in omega (arith, seconds, millis)
