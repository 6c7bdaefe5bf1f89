-- What is said, as a tree that was done.
use Rattle.std.proofs.Common.{◌≡◌, ℕ, true, List, [], ◌∷◌, refl, subst}
use Rattle.std.specs.Prelude.{Option}
use Rattle.booth_base.specs.Tree.{Ends, Leads}
use Rattle.booth_wire.specs.declared.message.Head.{Head}
use Rattle.booth_wire.specs.declared.message.TicketPart.{TicketPart}
use Rattle.booth_wire.specs.declared.message.Setup.{Setup}
use Rattle.booth_wire.specs.declared.message.Say.{Say as Words}
use Rattle.booth_raft.specs.declared.deed.Told.{Told}
use Rattle.booth_ticket.specs.declared.hands.To.{To}
use Rattle.booth_ticket.specs.declared.waiters.Waiter.{Waiter}
use Rattle.booth_ticket.specs.Acts.{Act, IsAct, Dids, Did, said, said_to_each}
use Rattle.booth_ticket.specs.Saying.{say, say_each, say_to}
use Rattle.booth_ticket.specs.Waiting.{result_for, tell_one, tell_result}
use Rattle.booth_ticket.proofs.DidLemmas.{did_last}

pub each_said : (places : List ℕ) (head : Head) (part : TicketPart)
    → Leads IsAct (say_each places head part) (said_to_each places head part) (Ends tt)
unfolding say_each say_to
each_said [] head part = refl
each_said (place ∷ places) head part = (true, refl, each_said places head part)

module _ {X : Type 0} {did : X → Act → X → Type 0} {a b : X} where
  -- one message
  pub did_said : (to : To) (head head' : Head) (part part' : TicketPart) → head ≡ head' → part ≡ part'
      → did a (said to head part) b → Did did (say_to to head' part') tt a b
  unfolding say_to
  did_said to head head' part part' same_head same_part done =
      subst (λ (h : Head). Did did (say_to to h part') tt a b) same_head
      (subst (λ (p : TicketPart). Did did (say_to to head p) tt a b) same_part (did_last true (λ ok. tt) done))

  pub did_said_each : (places places' : List ℕ) (head : Head) (part : TicketPart) → places ≡ places'
      → Dids did a (said_to_each places head part) b → Did did (say_each places' head part) tt a b
  did_said_each places places' head part same chain =
      subst (λ (ps : List ℕ). Did did (say_each ps head part) tt a b) same
      (record { acts = said_to_each places head part; chain = chain; leads = each_said places head part })

  -- one that waits is told its result
  pub told_one : (setup : Setup) (part : TicketPart) (told : Told) (waiter : Waiter) (result : Option ℕ) → result ≡ result_for told waiter
      → Did did (tell_result setup part waiter result) tt a b → Did did (tell_one setup part told waiter) tt a b
  unfolding tell_one
  told_one setup part told waiter result same done =
      subst (λ (r : Option ℕ). Did did (tell_result setup part waiter r) tt a b) same done

  -- the words that the code was given, with the setup that it found
  pub said_so : (setup setup' : Setup) (from : Option ℕ) (rule_words words' : Words) → setup' ≡ setup → words' ≡ rule_words
      → Did did (say setup' from words') tt a b → Did did (say setup from rule_words) tt a b
  said_so setup setup' from rule_words words' same_setup same_words done =
      subst (λ (s : Setup). Did did (say s from rule_words) tt a b) same_setup
      (subst (λ (w : Words). Did did (say setup' from w) tt a b) same_words done)
