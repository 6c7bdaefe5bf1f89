use Rattle.std.specs.Prelude.{Option, MatchResult, unwrap_or}
use Rattle.std.proofs.Common.{◌≡◌, List, [], ℕ, ap, subst}
use Rattle.booth_cli.specs.Reading.{AreNoPaths, IsPathsFault}
use Rattle.booth_cli.proofs.paths.journals_in.Goals as goal

pub returns-in-Some : goal.returns-in-Some
returns-in-Some c =
    subst (λ (texts : List (List ℕ)). MatchResult c.copy_paths.result (λ paths. (paths.items ≡ texts) × (AreNoPaths texts → ⊥)) (IsPathsFault (AreNoPaths texts)))
    (ap (λ (found : Option (List (List ℕ))). unwrap_or found []) c.in-Some.ensures) c.copy_paths.ensures
