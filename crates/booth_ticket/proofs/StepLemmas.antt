-- Whole steps that hands did: a step's writes and messages, and what is done at a deadline.
use Rattle.std.proofs.Common.{◌≡◌, ◌∙◌, ℕ, Option, None, ap, sym, subst}
use Rattle.booth_wire.specs.declared.message.Say.{Say}
use Rattle.booth_wire.specs.declared.message.Setup.{Setup}
use Rattle.booth_raft.specs.Deadlines.{greeted, hello}
use Rattle.booth_raft.specs.State.{State, Step, with_view}
use Rattle.booth_ticket.specs.Acts.{Act, Did}
use Rattle.booth_ticket.specs.Automatic.{role_due, tick}
use Rattle.booth_ticket.specs.declared.request.Given.{Given}
use Rattle.booth_ticket.specs.Keeping.{carry_out, keep_once}
use Rattle.booth_ticket.specs.Saying.{say}
use Rattle.booth_ticket.proofs.DidLemmas.{did_end, did_then}

module _ {X : Type 0} {did : X → Act → X → Type 0} where
  pub carried_out : (from : Option ℕ) (now : ℕ) (begun first last : Step) (setup : Setup) {a b c d : X}
      → setup ≡ last.core.setup → Did did (keep_once now begun) first a b → Did did (keep_once now first) last b c
      → Did did (say setup from last.deed.say) tt c d → Did did (carry_out from now begun) last a d
  unfolding carry_out
  carried_out from now begun first last setup {c = c} {d = d} setup_is one two said =
      did_then _ one (did_then _ two
      (did_then _ (subst (λ (s : Setup). Did did (say s from last.deed.say) tt c d) setup_is said) did_end))

  pub ticked : (core after : State) (given : Given) (words : Say) (setup : Setup) (begun last : Step) {a b c d : X}
      → words ≡ hello core.setup core.view given.now → after ≡ with_view core (greeted core.setup core.view)
      → setup ≡ after.setup → Did did (say setup None words) tt a b → Did did (role_due after given) begun b c
      → Did did (carry_out None given.now begun) last c d → Did did (tick core given) last a d
  unfolding tick
  ticked core after given words setup begun last {a = a} {b = b} {c = c} words_is after_is setup_is said done carried =
      let own : setup ≡ core.setup = setup_is ∙ ap (λ (s : State). s.setup) after_is in
      did_then _
      (subst (λ (p : Setup × Say). Did did (say p.0 None p.1) tt a b) (λ i. (own i, words_is i)) said)
      (did_then _ (subst (λ (s : State). Did did (role_due s given) begun b c) after_is done) carried)
