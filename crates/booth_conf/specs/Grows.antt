-- The bytes that printing adds to a text, and the quote around a value.
use Rattle.std.specs.Prelude.{◌≡◌, ℕ, List, ◌++◌, Result, Ok, Err, if◌then◌else◌}
use Rattle.std.specs.List.{list_all}
use Rattle.booth_conf.specs.Grammar.{is_other}
use Rattle.booth_conf.specs.declared.prints.Quote.{Quote}
use Rattle.booth_conf.specs.declared.prints.Quote.TheVariants.{Double, Single, Bare}

-- these bytes were added at the end; if memory ran out, nothing is claimed
abbrev pub Grows : {E : Type 0} → Result (Unit {0}) E → List ℕ → List ℕ → List ℕ → Type 0
Grows (Ok done) old new more = new ≡ old ++ more
Grows (Err e) old new more = Unit {0}

abbrev pub quote_of : List ℕ → Quote
quote_of value =
    if list_all (is_other 0x22) value then Double
    else (if list_all (is_other 0x27) value then Single else Bare)
