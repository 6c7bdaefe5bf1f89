-- A keep that failed ends its step, and a ticket keeps its kind.
use Rattle.std.proofs.Common.{◌≡◌, ℕ, Bool, true, false, List, [], ◌∷◌, refl, sym, subst}
use Rattle.std.specs.Prelude.{Option, Some, None}
use Rattle.booth_base.specs.Tree.{Deeds, Ends, ◌>>=◌}
use Rattle.booth_rec.specs.declared.record.Record.{Record}
use Rattle.booth_wire.specs.declared.message.Head.{Head}
use Rattle.booth_wire.specs.declared.message.Say.{Say as Words}
use Rattle.booth_wire.specs.declared.message.Say.TheVariants as words
use Rattle.booth_wire.specs.declared.message.Setup.{Setup}
use Rattle.booth_wire.specs.declared.message.TicketPart.{TicketPart}
use Rattle.booth_raft.specs.declared.view.Rule.{Rule}
use Rattle.booth_raft.specs.declared.view.Rule.TheVariants as rules
use Rattle.booth_raft.specs.declared.view.View.{View}
use Rattle.booth_raft.specs.AskAndRenew.{finish, goes_on}
use Rattle.booth_raft.specs.Members.{is_leader}
use Rattle.booth_raft.specs.Outcome.{Outcome}
use Rattle.booth_raft.specs.State.{Step, step}
use Rattle.booth_raft.proofs.FactsLemmas.{on_cond, on_option}
use Rattle.booth_ticket.specs.Acts.{Ask}
use Rattle.booth_ticket.specs.Keeping.{carry_out, keep_of, keep_once}
use Rattle.booth_ticket.specs.Saying.{others, places_in, say, say_each, say_to}
use Rattle.booth_node.specs.World.{stand_after}
use Rattle.booth_world.specs.Kept.{AreOver, EndsByFailure, FailedKeepsSayNothing, RestsInKind, TicketsKeepTheirKinds}
use Rattle.booth_world.proofs.ManualTerms.{stands_by_hand}
use Rattle.booth_world.proofs.TellerWorlds.{stands_by_votes}

-- nothing is kept, and nothing said
abbrev IsSilent : Outcome → Type 0
IsSilent outcome = (outcome.deed.keep ≡ None) × (outcome.deed.say ≡ words.Nothing)

silent : (s : Setup) (view : View) (rule : Rule) (tried : Record) (now : ℕ) → IsSilent (goes_on s view rule tried now false)
silent s view rules.Gain tried now = (refl, refl)
silent s view (rules.Ask reason) tried now = on_cond IsSilent (is_leader view.role) _ _ (refl, refl) (refl, refl)
silent s view (rules.Release reason) tried now = (refl, refl)
silent s view rules.EndRound tried now = (refl, refl)
silent s view (rules.Answer kind to number request told) tried now = (refl, refl)
silent s view (rules.Renew number) tried now = (refl, refl)

failed_is_silent : (s : Setup) (view : View) (now : ℕ) → IsSilent (finish s view now false)
failed_is_silent s view now =
    on_option IsSilent view.waiting _ _ (λ none. (refl, refl))
    (λ waits is. silent s (record view { waiting = None }) waits.rule waits.tried now)

-- what is said at last
abbrev says_last : Option ℕ → Step → Deeds Ask Step
says_last from last = say last.core.setup from last.deed.say >>= (λ done. Ends last)

each_ends : {S : Type 0} (places : List ℕ) (head : Head) (part : TicketPart) (rest : Unit {0} → Deeds Ask S)
    → EndsByFailure (rest tt) → EndsByFailure (say_each places head part >>= rest)
unfolding say_each say_to
each_ends [] head part rest h = h
each_ends (place ∷ places) head part rest h = λ ok. each_ends places head part rest h

says_end : (s : Setup) (from : Option ℕ) (rule_words : Words) (last : Step) → EndsByFailure (say s from rule_words >>= (λ done. Ends last))
unfolding say_to
says_end s from words.Nothing last = tt
says_end s None (words.Reply head part) last = tt
says_end s (Some place) (words.Reply head part) last = λ ok. tt
says_end s from (words.All head part) last = each_ends (others s) head part (λ done. Ends last) tt
says_end s from (words.Unanswered head part bits) last = each_ends (places_in bits) head part (λ done. Ends last) tt

-- a step with nothing to keep and nothing to say is over
over_last : (from : Option ℕ) (last : Step) → last.deed.say ≡ words.Nothing → AreOver (says_last from last)
over_last from last nothing =
    subst (λ (w : Words). AreOver (say last.core.setup from w >>= (λ done. Ends last))) (sym nothing) tt

over_next : (from : Option ℕ) (now : ℕ) (x : Step) → x.deed.keep ≡ None → x.deed.say ≡ words.Nothing
    → AreOver (keep_of now x.deed.keep x >>= says_last from)
over_next from now x none nothing =
    subst (λ (o : Option Record). AreOver (keep_of now o x >>= says_last from)) (sym none) (over_last from x nothing)

after_first : (from : Option ℕ) (now : ℕ) (x : Step) → EndsByFailure (keep_of now x.deed.keep x >>= says_last from)
after_first from now x = by_keep x.deed.keep
  where
    by_keep : (o : Option Record) → EndsByFailure (keep_of now o x >>= says_last from)
    by_keep None = says_end x.core.setup from x.deed.say x
    by_keep (Some tried) = (
      over_last from (step x.core (finish x.core.setup x.core.view now false)) (failed_is_silent x.core.setup x.core.view now).1,
      says_end x.core.setup from (finish x.core.setup x.core.view now true).deed.say (step x.core (finish x.core.setup x.core.view now true)),
    )

pub failed_keeps_say_nothing : FailedKeepsSayNothing
unfolding carry_out keep_once
failed_keeps_say_nothing from now begun = by_keep begun.deed.keep
  where
    by_keep : (o : Option Record)
        → EndsByFailure (keep_of now o begun >>= (λ first. keep_of now first.deed.keep first >>= says_last from))
    by_keep None = after_first from now begun
    by_keep (Some tried) =
        let silent_now = failed_is_silent begun.core.setup begun.core.view now in (
          over_next from now (step begun.core (finish begun.core.setup begun.core.view now false)) silent_now.0 silent_now.1,
          after_first from now (step begun.core (finish begun.core.setup begun.core.view now true)),
        )

-- ---- kinds

pub tickets_keep_their_kinds : TicketsKeepTheirKinds
tickets_keep_their_kinds w is_world ticket one m below moment = by_kind ticket.manual refl
  where
    by_kind : (manual : Bool) → ticket.manual ≡ manual → RestsInKind ticket (stand_after m moment.before)
    by_kind false automatic = stands_by_votes w is_world ticket one automatic m below moment
    by_kind true by_hand = stands_by_hand w is_world ticket one by_hand m below moment
