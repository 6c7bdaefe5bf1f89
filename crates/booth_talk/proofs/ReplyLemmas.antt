-- The replies are the authentic ones.
use Rattle.std.proofs.Common.{◌≡◌, ◌==◌, ℕ, Bool, true, false, List, Option, Some, None, option_map, Result, Ok, Err, cond, refl, sym, ap, subst}
use Rattle.std.proofs.lemmas.Bool.{eqb-true, eq-eqb}
use Rattle.booth_wire.specs.declared.message.FrameFault.{FrameFault}
use Rattle.booth_wire.specs.PlainMessage.{PlainMessage}
use Rattle.booth_wire.specs.Reading.{decoded}
use Rattle.booth_wire.proofs.ByteLemmas.{and_split}
use Rattle.booth_auth.specs.Verdict.{is_signed}
use Rattle.booth_talk.specs.declared.order.Asking.{Asking}
use Rattle.booth_talk.specs.declared.reply.Reply.{Reply}
use Rattle.booth_talk.specs.Asking.{number_of}
use Rattle.booth_talk.specs.Replies.{IsAuthentic, RepliesAreAuthentic, answers, is_answer, message_in, message_read, reply_in, reply_of}

-- a test under which something is found
passed : (test : Bool) (then : Option PlainMessage) (m : PlainMessage) → cond test then None ≡ Some m → (test ≡ true) × (then ≡ Some m)
passed true then m h = (refl, h)
passed false then m h = absurd cc

some_is : {X : Type 0} (a b : X) → Some a ≡ Some b → a ≡ b
some_is a b h = cc

authentic : (asking : Asking) (start : ℕ) (bytes : List ℕ) (read : Result PlainMessage FrameFault) (m : PlainMessage) → decoded bytes ≡ read →
    message_read asking start bytes read ≡ Some m → IsAuthentic asking start bytes m
authentic asking start bytes (Ok l) m is h =
    let signed = passed (is_signed asking.ring l.head bytes) _ m h in
    let answer = passed (is_answer asking start l) _ m signed.1 in
    let both = and_split (answers asking.order l.head.cmd) _ answer.0 in
    let rest = and_split (l.head.request == number_of start) _ both.1 in
    let spelled : IsAuthentic asking start bytes l = record {
      read = is;
      signed = signed.0;
      answer = both.0;
      number = eqb-true _ _ rest.0;
      member = rest.1;
    } in
    subst (IsAuthentic asking start bytes) (some_is l m answer.1) spelled
authentic asking start bytes (Err fault) m is h = absurd cc

told : (found : Option PlainMessage) (reply : Reply) → option_map reply_of found ≡ Some reply → (m : PlainMessage) × (found ≡ Some m) × (reply ≡ reply_of m)
told None reply h = absurd cc
told (Some m) reply h = (m, refl, sym (some_is (reply_of m) reply h))

message : (asking : Asking) (start : ℕ) (bytes : List ℕ) (m : PlainMessage) → message_in asking start bytes ≡ Some m → IsAuthentic asking start bytes m
unfolding message_in
message asking start bytes m h = authentic asking start bytes (decoded bytes) m refl h

spelled : (asking : Asking) (start : ℕ) (bytes : List ℕ) (m : PlainMessage) → IsAuthentic asking start bytes m → message_in asking start bytes ≡ Some m
unfolding message_in
spelled asking start bytes m is = rw (is.read, is.signed, is.answer, eq-eqb _ _ is.number, is.member) refl

only : (asking : Asking) (start : ℕ) (bytes : List ℕ) (reply : Reply) → reply_in asking start bytes ≡ Some reply →
    (m : PlainMessage) × IsAuthentic asking start bytes m × (reply ≡ reply_of m)
unfolding reply_in
only asking start bytes reply h =
    let found = told (message_in asking start bytes) reply h in
    (found.0, message asking start bytes found.0 found.1, found.2)

all : (asking : Asking) (start : ℕ) (bytes : List ℕ) (m : PlainMessage) → IsAuthentic asking start bytes m →
    reply_in asking start bytes ≡ Some (reply_of m)
unfolding reply_in
all asking start bytes m is = ap (option_map reply_of) (spelled asking start bytes m is)

pub replies : RepliesAreAuthentic
replies = record { message = message; spelled = spelled; only = only; all = all }
