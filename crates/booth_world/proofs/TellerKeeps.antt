-- What they show and say after a keep, and at a start, is what the kept record's lease says.
use Rattle.std.proofs.Common.{◌≡◌, ℕ, ◌<◌, Bool, true, false, ◌&&◌, refl, sym, ap, ◌∙◌, subst}
use Rattle.std.specs.Prelude.{Option, Some, None, not, nat_lt, ◌==◌, if◌then◌else◌}
use Rattle.booth_base.specs.declared.address.TheConstants.{NO_ONE}
use Rattle.booth_rec.specs.declared.record.Record.{Record}
use Rattle.booth_rec.specs.Record.{lease_end}
use Rattle.booth_wire.specs.declared.codes.reasons.TheConstants.{SPLT}
use Rattle.booth_wire.specs.declared.message.Setup.{Setup}
use Rattle.booth_raft.specs.declared.deed.Told.{Told}
use Rattle.booth_raft.specs.declared.deed.Told.TheVariants as tells
use Rattle.booth_raft.specs.declared.view.Rule.{Rule}
use Rattle.booth_raft.specs.declared.view.Rule.TheVariants as rules
use Rattle.booth_raft.specs.declared.view.Shown.{Shown}
use Rattle.booth_raft.specs.declared.view.View.{View}
use Rattle.booth_raft.specs.declared.view.Waiting.{Waiting}
use Rattle.booth_raft.specs.AskAndRenew.{finish, goes_on}
use Rattle.booth_raft.specs.GainReleaseLost.{is_held_elsewhere, keeps_shown}
use Rattle.booth_raft.specs.Members.{is_leader, is_same}
use Rattle.booth_raft.specs.Messages.{part_of, revokes}
use Rattle.booth_raft.specs.Outcome.{saying, telling}
use Rattle.booth_raft.specs.StartAndLearn.{holds_at_start, started}
use Rattle.booth_raft.proofs.AnswerLemmas.{same-is_same}
use Rattle.booth_raft.proofs.FactsLemmas.{on_cond, on_option, on_test, untrue}
use Rattle.booth_world.proofs.Lists.{none_is, some_same}
use Rattle.booth_world.proofs.TellerRules.{OwnShown, IsGained, MayGoOn, Shows, IsCalm, for_this, for_none, state_borne, nothing_left, calmly, quietly, calm_if, begins}

-- ---- the answer of a keep

not_both : (a b : Bool) → a ≡ true → not a && b ≡ true → ⊥
not_both true b is both = cc
not_both false b is both = cc

second_holds : (a b : Bool) → a && b ≡ true → b ≡ true
second_holds true b both = both
second_holds false b both = cc

module _ (s : Setup) (now : ℕ) (lasts : 0 < s.times.expire) where
  -- the record that was tried is kept now, and its lease is that of the one before
  kept_calm : (Q : Type 0) → Q → (view other : View) (tried : Record) → OwnShown s.me view.kept view.shown → lease_end tried.lease ≡ lease_end view.kept.lease
      → other.shown ≡ view.shown → other.kept ≡ tried → other.waiting ≡ None → IsCalm s tried Q other
  kept_calm Q q view other tried own lease shown kept none = record {
    own = subst (λ (o : Option Shown). OwnShown s.me other.kept o) (sym shown)
        (λ x e is. own x e is ∙ sym lease ∙ ap (λ (r : Record). lease_end r.lease) (sym kept));
    same = kept;
    rests = none;
    trusted = λ e. q;
  }

  hidden_calm : (Q : Type 0) → Q → (other : View) (tried : Record) → other.shown ≡ None → other.kept ≡ tried → other.waiting ≡ None → IsCalm s tried Q other
  hidden_calm Q q other tried shown kept none = record {
    own = subst (λ (o : Option Shown). OwnShown s.me other.kept o) (sym shown)
        (for_none (λ (x : Shown). x.owner ≡ s.me → x.until ≡ lease_end other.kept.lease));
    same = kept;
    rests = none;
    trusted = λ e. q;
  }

  -- Whom the end of a round leaves known as the owner is another member.
  elsewhere : (shown : Option Shown) (kept : Record) → is_held_elsewhere shown s.me now ≡ true → OwnShown s.me kept shown
  elsewhere None kept held = for_none (λ (x : Shown). x.owner ≡ s.me → x.until ≡ lease_end kept.lease)
  elsewhere (Some shown) kept held =
      for_this (λ (x : Shown). x.owner ≡ s.me → x.until ≡ lease_end kept.lease) shown
      (λ own. absurd (not_both (is_same shown.owner s.me) (nat_lt now shown.until) (same-is_same shown.owner s.me own) held))

  left_shown : (view : View) (kept : Record) → OwnShown s.me kept (if keeps_shown s view now then view.shown else None)
  left_shown view kept =
      on_test (λ (o : Option Shown). OwnShown s.me kept o) (keeps_shown s view now) view.shown None
      (λ keeps. elsewhere view.shown kept (second_holds s.steady (is_held_elsewhere view.shown s.me now) keeps))
      (λ hides. for_none (λ (x : Shown). x.owner ≡ s.me → x.until ≡ lease_end kept.lease))

  ended_calm : (Q : Type 0) → Q → (view other : View) (tried : Record) → other.shown ≡ (if keeps_shown s view now then view.shown else None)
      → other.kept ≡ tried → other.waiting ≡ None → IsCalm s tried Q other
  ended_calm Q q view other tried shown kept none = record {
    own = subst (λ (o : Option Shown). OwnShown s.me other.kept o) (sym shown) (left_shown view other.kept);
    same = kept;
    rests = none;
    trusted = λ e. q;
  }

  goes_kept : (Q : Type 0) → Q → (view : View) (rule : Rule) (tried : Record) → OwnShown s.me view.kept view.shown → view.waiting ≡ None
      → MayGoOn now view.kept rule tried → Shows s now tried Q (goes_on s view rule tried now true)
  goes_kept Q q view rules.Gain tried own none may =
      let calm : IsCalm s tried Q view = record { own = own; same = may.0; rests = none; trusted = λ e. q } in
      calmly s now tried Q _ (kept_calm Q q view _ tried own (ap (λ (r : Record). lease_end r.lease) (sym may.0)) refl may.0 none) refl (state_borne s now tried Q view calm)
      (λ e. (subst (λ (r : Record). now < lease_end r.lease) may.0 may.1, q))
  goes_kept Q q view (rules.Ask reason) tried own none may =
      begins s now tried Q lasts _ 0 (kept_calm Q q view _ tried own may refl refl none)
  goes_kept Q q view (rules.Release reason) tried own none may =
      on_cond (λ (v : View). Shows s now tried Q (saying v (revokes s view.term reason) tells.Released)) (reason == SPLT) _ _
      (calmly s now tried Q _ (ended_calm Q q view _ tried refl refl none) refl (nothing_left s now tried Q (part_of s NO_ONE view.term 0) refl) (λ e. absurd e))
      (calmly s now tried Q _ (hidden_calm Q q _ tried refl refl none) refl (nothing_left s now tried Q (part_of s NO_ONE view.term 0) refl) (λ e. absurd e))
  goes_kept Q q view rules.EndRound tried own none may =
      calmly s now tried Q _ (ended_calm Q q view _ tried refl refl none) refl (nothing_left s now tried Q (part_of s NO_ONE view.term 0) refl) (λ e. absurd e)
  goes_kept Q q view (rules.Answer kind to number request told) tried own none may =
      calmly s now tried Q _ (kept_calm Q q view _ tried own may.0 refl refl none) refl (nothing_left s now tried Q (part_of s to view.term 0) refl)
      (λ e. absurd (may.1 e))
  goes_kept Q q view (rules.Renew number) tried own none may =
      begins s now tried Q lasts _ number (kept_calm Q q view _ tried own may refl refl none)

  goes_failed : (Q : Type 0) (view : View) (rule : Rule) (tried : Record) → OwnShown s.me view.kept view.shown → view.waiting ≡ None
      → MayGoOn now view.kept rule tried → Shows s now view.kept Q (goes_on s view rule tried now false)
  goes_failed Q view rule tried own none may = by_rule rule may
    where
      so : (other : View) → other.shown ≡ view.shown → other.kept ≡ view.kept → other.waiting ≡ view.waiting → other.sure ≡ false
          → IsCalm s view.kept Q other
      so other shown kept waiting unsure = record {
        own = subst (λ (o : Option Shown). OwnShown s.me other.kept o) (sym shown)
            (subst (λ (r : Record). OwnShown s.me r view.shown) (sym kept) own);
        same = kept;
        rests = waiting ∙ none;
        trusted = λ e. absurd (untrue (sym unsure ∙ e));
      }

      ends : (told : Told) → (IsGained told → ⊥) → (other : View) → IsCalm s view.kept Q other → Shows s now view.kept Q (telling other told)
      ends told never other other_calm = calmly s now view.kept Q _ other_calm refl tt (λ e. absurd (never e))

      by_rule : (rule : Rule) → MayGoOn now view.kept rule tried → Shows s now view.kept Q (goes_on s view rule tried now false)
      by_rule rules.Gain may = ends (tells.Gained false) (λ e. e) _ (so _ refl refl refl refl)
      by_rule (rules.Ask reason) may =
          on_cond (Shows s now view.kept Q) (is_leader view.role) _ _ (quietly s now view.kept Q _ (so _ refl refl refl refl))
          (ends tells.AskFailed (λ e. e) _ (so _ refl refl refl refl))
      by_rule (rules.Release reason) may =
          ends tells.ReleaseFailed (λ e. e) _
          (calm_if s now view.kept Q (reason == SPLT) _ _ (so _ refl refl refl refl)
          (calm_if s now view.kept Q (is_leader view.role) _ _ (so _ refl refl refl refl) (so _ refl refl refl refl)))
      by_rule rules.EndRound may = ends tells.RoundFailed (λ e. e) _ (so _ refl refl refl refl)
      by_rule (rules.Answer kind to number request told) may = ends told may.1 _ (so _ refl refl refl refl)
      by_rule (rules.Renew number) may = quietly s now view.kept Q _ (so _ refl refl refl refl)

  pub answered_kept : (Q : Type 0) → Q → (view : View) (waits : Waiting) → view.waiting ≡ Some waits → OwnShown s.me view.kept view.shown
      → MayGoOn now view.kept waits.rule waits.tried → Shows s now waits.tried Q (finish s view now true)
  answered_kept Q q view waits is own may =
      on_option (Shows s now waits.tried Q) view.waiting _ _ (λ none. absurd (none_is waits (sym none ∙ is)))
      (λ w e.
      let same : waits ≡ w = some_same waits w (sym is ∙ e) in
      subst (λ (x : Waiting). Shows s now waits.tried Q (goes_on s (record view { waiting = None }) x.rule x.tried now true)) same
      (goes_kept Q q (record view { waiting = None }) waits.rule waits.tried own refl may))

  pub answered_failed : (Q : Type 0) (view : View) (waits : Waiting) → view.waiting ≡ Some waits → OwnShown s.me view.kept view.shown
      → MayGoOn now view.kept waits.rule waits.tried → Shows s now view.kept Q (finish s view now false)
  answered_failed Q view waits is own may =
      on_option (Shows s now view.kept Q) view.waiting _ _ (λ none. absurd (none_is waits (sym none ∙ is)))
      (λ w e.
      let same : waits ≡ w = some_same waits w (sym is ∙ e) in
      subst (λ (x : Waiting). Shows s now view.kept Q (goes_on s (record view { waiting = None }) x.rule x.tried now false)) same
      (goes_failed Q (record view { waiting = None }) waits.rule waits.tried own refl may))

-- a start shows its record's lease
pub started_calm : (s : Setup) (kept : Record) (Q : Type 0) → Q → (now : ℕ) → IsCalm s kept Q (started s kept now)
started_calm s kept Q q now = record {
  own = on_cond (λ (o : Option Shown). OwnShown s.me kept o) (holds_at_start s kept now) _ None
      (for_this (λ (x : Shown). x.owner ≡ s.me → x.until ≡ lease_end kept.lease) (record { owner = s.me; until = lease_end kept.lease }) (λ own. refl))
      (for_none (λ (x : Shown). x.owner ≡ s.me → x.until ≡ lease_end kept.lease));
  same = refl;
  rests = refl;
  trusted = λ e. q;
}
