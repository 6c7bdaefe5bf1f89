-- When the terms of a manual ticket are not spent.
use Rattle.std.proofs.Common.{◌≡◌, ◌≤◌, Bool, true, false, arith, refl}
use Rattle.std.proofs.lemmas.Bool.Decides.{nat_tests}
use Rattle.booth_manual.specs.declared.view.ManualView.{ManualView}
use Rattle.booth_manual.specs.declared.view.TheConstants.{LAST_TERM}
use Rattle.booth_manual.specs.GrantAndRevoke.{are_terms_spent}

-- the terms are not spent where the rule says so
pub not_spent : (view : ManualView) → (LAST_TERM ≤ view.term → false ≡ true) → are_terms_spent view ≡ false
not_spent view never = by_test (are_terms_spent view) refl
  where
    by_test : (spent : Bool) → are_terms_spent view ≡ spent → spent ≡ false
    by_test true is = let less : LAST_TERM ≤ view.term = grind (arith, nat_tests) in absurd (no (never less))
      where
        no : false ≡ true → ⊥
        no e = cc
    by_test false is = refl
