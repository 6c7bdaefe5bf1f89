use Rattle.std.specs.Prelude.{[], ◌∷◌}
use Rattle.std.proofs.Common.{◌≡◌}
use Rattle.booth_audit.proofs.CourseLemmas.{skipped}
use Rattle.booth_audit.proofs.sessions.skip.Goals as goal

pub returns-in-Some : goal.returns-in-Some
returns-in-Some c said more says = skipped said more (c.in-Some.ensures (said ∷ more) says)

pub returns-in-None : goal.returns-in-None
returns-in-None c said more says = let none : said ∷ more ≡ [] = c.in-None.ensures (said ∷ more) says in absurd cc
