-- Answers about the ticket are authentic, and the end that they tell is no later than the lease's.
use Rattle.std.proofs.Common.{◌≡◌, ◌==◌, ◌||◌, ℕ, Bool, true, false, List, Option, Some, None, Result, Ok, Err, cond, refl, ap, arith, sym, ◌∙◌, ◌⊎◌, inl, inr}
use Rattle.std.proofs.lemmas.Bool.{eqb-true, eq-eqb}
use Rattle.std.proofs.lemmas.Slice.Eq.{bytes_eq-Decides}
use Rattle.std.specs.Prelude.{bytes_eq}
use Rattle.booth_wire.specs.declared.command.Cmd.TheVariants.{RTkt}
use Rattle.booth_wire.specs.declared.codes.results.TheConstants.{IARG, SUCCESS}
use Rattle.booth_wire.specs.declared.message.FrameFault.{FrameFault}
use Rattle.booth_wire.specs.declared.message.Head.{Head}
use Rattle.booth_wire.specs.declared.message.TicketPart.{TicketPart}
use Rattle.booth_wire.specs.Command.{code_of}
use Rattle.booth_wire.specs.PlainMessage.{Bare, Ticket, Attr, Text, Content, PlainMessage}
use Rattle.booth_wire.specs.Reading.{decoded}
use Rattle.booth_wire.proofs.ByteLemmas.{and_split}
use Rattle.booth_auth.specs.Verdict.{is_signed}
use Rattle.booth_follow_rule.specs.declared.news.News.{News}
use Rattle.booth_follow_rule.specs.declared.news.News.TheVariants as news
use Rattle.booth_following.specs.declared.following.Following.{Following}
use Rattle.booth_following.specs.declared.standing.Standing.{Standing}
use Rattle.booth_following.specs.Asking.{number_of}
use Rattle.booth_following.specs.Hearing.{IsAnswered, part_in}
use Rattle.booth_following.specs.Laws.{AnswersAreAuthentic, AnswersEndNoLater, IsStandingTold}
use Rattle.booth_following.specs.Lists.{Part}
use Rattle.booth_following.specs.Standing.{is_standing, standing_by, standing_in, standing_of, standing_read}

some_same : (one other : Standing) → Some one ≡ Some other → one ≡ other
some_same one other is = cc

-- a test under which something is found
passed : (test : Bool) (then : Option Standing) (standing : Standing) → cond test then None ≡ Some standing → (test ≡ true) × (then ≡ Some standing)
passed true then standing h = (refl, h)
passed false then standing h = absurd cc

-- what is found is said by a part about this ticket
record IsFound (f : Following) (head : Head) (content : Content) (standing : Standing) : Type 0 where
  part : TicketPart
  tells : content ≡ Ticket part
  about : bytes_eq part.ticket f.ticket ≡ true
  stands : standing ≡ standing_of f head part

found : (f : Following) (head : Head) (content : Content) (standing : Standing) → standing_by f head content ≡ Some standing → IsFound f head content standing
found f head (Ticket part) standing h =
    let is = passed (bytes_eq part.ticket f.ticket) (Some (standing_of f head part)) standing h in
    record { part = part; tells = refl; about = is.0; stands = sym (some_same (standing_of f head part) standing is.1) }
found f head Bare standing h = absurd cc
found f head (Text text) standing h = absurd cc
found f head (Attr attr) standing h = absurd cc

either : (a b : Bool) → (a || b) ≡ true → (a ≡ true) ⊎ (b ≡ true)
either true b h = inl refl
either false b h = inr h

done : (code : ℕ) → ((code == SUCCESS) ≡ true) ⊎ ((code == IARG) ≡ true) → (code ≡ SUCCESS) ⊎ (code ≡ IARG)
done code (inl e) = inl (eqb-true code SUCCESS e)
done code (inr e) = inr (eqb-true code IARG e)

is_done : (code : ℕ) → (code ≡ SUCCESS) ⊎ (code ≡ IARG) → ((code == SUCCESS) || (code == IARG)) ≡ true
is_done code (inl e) = ap (λ (n : ℕ). (n == SUCCESS) || (n == IARG)) e
is_done code (inr e) = ap (λ (n : ℕ). (n == SUCCESS) || (n == IARG)) e

told_by : (f : Following) (asked : ℕ) (bytes : List ℕ) (read : Result PlainMessage FrameFault) (standing : Standing) → decoded bytes ≡ read →
    standing_read f asked bytes read ≡ Some standing → (m : PlainMessage) × (part : TicketPart) × IsStandingTold f asked bytes m part standing
told_by f asked bytes (Ok m) standing is h =
    let signed = passed (is_signed f.ring m.head bytes) _ standing h in
    let answer = passed (is_standing f asked m) _ standing signed.1 in
    let command = and_split (code_of m.head.cmd == code_of RTkt) _ answer.0 in
    let number = and_split (m.head.request == number_of asked) _ command.1 in
    let last = and_split (m.head.from.0 == f.me.0) _ number.1 in
    let is_found = found f m.head m.content standing answer.1 in (
      m,
      is_found.part,
      record {
        read = is;
        signed = signed.0;
        answer = eqb-true _ _ command.0;
        number = eqb-true _ _ number.0;
        from = eqb-true _ _ last.0;
        is_done = done m.head.result (either (m.head.result == SUCCESS) (m.head.result == IARG) last.1);
        tells = is_found.tells;
        about = (bytes_eq-Decides is_found.part.ticket f.ticket).0 is_found.about;
        stands = is_found.stands;
      },
    )
told_by f asked bytes (Err fault) standing is h = absurd cc

only : (f : Following) (asked : ℕ) (bytes : List ℕ) (standing : Standing) → standing_in f asked bytes ≡ Some standing →
    (m : PlainMessage) × (part : TicketPart) × IsStandingTold f asked bytes m part standing
unfolding standing_in
only f asked bytes standing h = told_by f asked bytes (decoded bytes) standing refl h

all : (f : Following) (asked : ℕ) (bytes : List ℕ) (m : PlainMessage) (part : TicketPart) (standing : Standing) → IsStandingTold f asked bytes m part standing →
    standing_in f asked bytes ≡ Some standing
unfolding standing_in
all f asked bytes m part standing is =
    rw (is.read, is.signed, eq-eqb _ _ is.answer, eq-eqb _ _ is.number, eq-eqb _ _ is.from, is_done m.head.result is.is_done, is.tells, (bytes_eq-Decides part.ticket f.ticket).1 is.about, is.stands) refl

shows : (f : Following) (read : Option Standing) (part : Option Part) (standing : Standing) (heard : News) → read ≡ Some standing → IsAnswered f read part heard →
    heard ≡ news.List standing.shown
shows f (Some one) part standing heard is told = told ∙ ap (λ (s : Standing). news.List s.shown) (some_same one standing is)
shows f None part standing heard is told = absurd cc

pub answers : AnswersAreAuthentic
answers = record {
  only = only;
  all = all;
  shows = λ f asked bytes standing heard is told. shows f (standing_in f asked bytes) (part_in f asked bytes) standing heard is told;
}

pub answers_no_later : AnswersEndNoLater
answers_no_later head seconds reading until small secs usecs before left = omega (arith, small, secs, usecs, before, left)
