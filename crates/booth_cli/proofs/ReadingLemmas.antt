-- Which words are refused before which, and when none is.
use Rattle.std.specs.List.{list_all}
use Rattle.std.specs.Borrow.{Bor}
use Rattle.std.proofs.Common.{◌≡◌, ◌<◌, ◌&&◌, zero, suc, ℕ, Bool, true, false, List, [], ◌∷◌, length, map, get_or, refl, arith}
use Rattle.booth_cli.specs.declared.word.Word.{Word}
use Rattle.booth_cli.specs.declared.word.Word.TheVariants as words
use Rattle.booth_cli.specs.Given.{Texts}
use Rattle.booth_cli.specs.Reading.{IsFirstRefused, Refuses, is_path, place_of}

-- a configuration that is refused, where no other word is
pub only_conf : (t : Texts) → (Refuses t words.Ticket → ⊥) → (Refuses t words.Name → ⊥) → (Refuses t words.Value → ⊥) → (Refuses t words.Site → ⊥) → (Refuses t words.Number → ⊥) → (Refuses t words.Path → ⊥) →
    (Refuses t words.Program → ⊥) → Refuses t words.Configuration → IsFirstRefused t words.Configuration
only_conf t ticket name value site number path program conf = record { refused = conf; first = go }
  where
    go : (other : Word) → place_of other < place_of words.Configuration → Refuses t other → ⊥
    go words.Ticket lt = ticket
    go words.Name lt = name
    go words.Value lt = value
    go words.Site lt = site
    go words.Number lt = number
    go words.Path lt = path
    go words.Program lt = program
    go words.Configuration lt = absurd (omega arith)

-- no word is refused
pub all_accepted : (t : Texts) → (Refuses t words.Ticket → ⊥) → (Refuses t words.Name → ⊥) → (Refuses t words.Value → ⊥) → (Refuses t words.Site → ⊥) → (Refuses t words.Number → ⊥) → (Refuses t words.Path → ⊥) →
    (Refuses t words.Program → ⊥) → (Refuses t words.Configuration → ⊥) → (word : Word) → Refuses t word → ⊥
all_accepted t ticket name value site number path program conf words.Ticket = ticket
all_accepted t ticket name value site number path program conf words.Name = name
all_accepted t ticket name value site number path program conf words.Value = value
all_accepted t ticket name value site number path program conf words.Site = site
all_accepted t ticket name value site number path program conf words.Number = number
all_accepted t ticket name value site number path program conf words.Path = path
all_accepted t ticket name value site number path program conf words.Program = program
all_accepted t ticket name value site number path program conf words.Configuration = conf

-- ---- paths

not_first : (a b : Bool) → a ≡ false → (a && b) ≡ false
not_first a b e = cc

not_second : (a b : Bool) → b ≡ false → (a && b) ≡ false
not_second true b e = e
not_second false b e = refl

-- one of these words is no path
pub refused_at : (words : List (Bor (List ℕ))) (i : ℕ) (d : Bor (List ℕ)) → i < length words → is_path (get_or words i d).now ≡ false →
    list_all is_path (map (λ w. w.now) words) ≡ false
refused_at [] i d lt none = absurd (omega arith)
refused_at (w ∷ words) zero d lt none = not_first (is_path w.now) _ none
refused_at (w ∷ words) (suc i) d lt none = not_second (is_path w.now) _ (refused_at words i d (omega arith) none)
