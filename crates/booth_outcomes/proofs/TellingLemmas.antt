-- A text, and the one call that says it.
use Rattle.std.specs.Prelude.{Option, Result}
use Rattle.std.proofs.Common.{◌≡◌, ℕ, List, [], ◌∷◌, refl, sym, subst}
use Rattle.booth_host.specs.declared.host.Failed.{Failed}
use Rattle.booth_host.specs.declared.entry.Entry.{Entry}
use Rattle.booth_host.specs.declared.entry.Entry.TheVariants as calls
use Rattle.booth_host.specs.Past.{GrewBy, GrewSome}
use Rattle.booth_host.proofs.PastLemmas.{some_of}
use Rattle.booth_cli.specs.declared.program.Program.{Program}
use Rattle.booth_outcomes.specs.Texts.{IsText, spoken}

said_of : (program : Program) (text : List ℕ) (answer : Result (Unit {0}) Failed) → (text ≡ [] → ⊥) →
    IsText program text (calls.Err (spoken program text) answer ∷ [])
said_of program [] answer some = absurd (some refl)
said_of program (b ∷ text) answer some = (answer, refl)

-- a text, and its one call
pub told : (program : Program) (text line : List ℕ) (answer : Result (Unit {0}) Failed) {a b : Option (List Entry)} → (text ≡ [] → ⊥) →
    line ≡ spoken program text → GrewBy a b (calls.Err line answer ∷ []) → GrewSome (IsText program text) a b
told program text line answer some is grew =
    some_of (IsText program text) grew
    (subst (λ l. IsText program text (calls.Err l answer ∷ [])) (sym is) (said_of program text answer some))
