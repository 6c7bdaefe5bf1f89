-- The texts about a whole program, and the arguments that ask for them.
use Rattle.std.specs.Prelude.{ℕ, List, [], ◌∷◌, Option, Some, None, codes, if◌then◌else◌}
use Rattle.std.specs.Str.{bytes_eq}
use Rattle.booth_cli.specs.declared.page.Page.{Page}
use Rattle.booth_cli.specs.declared.page.Page.TheVariants.{Help, Version}
use Rattle.booth_cli.specs.declared.program.Program.{Program}
use Rattle.booth_cli.specs.declared.program.Program.TheVariants.{BoothFollow}

-- the text that an argument asks for
abbrev pub page_named : List ℕ → Option Page
page_named word =
    if bytes_eq word (codes "help") then Some Help else
    if bytes_eq word (codes "--help") then Some Help else
    if bytes_eq word (codes "-h") then Some Help else
    if bytes_eq word (codes "--version") then Some Version else
    if bytes_eq word (codes "-V") then Some Version else None

-- the text that the first argument asks for
abbrev pub first_page : List (List ℕ) → Option Page
first_page [] = None
first_page (word ∷ words) = page_named word

-- The same for a program. `booth-follow` has none: the first argument is its own name, and its one command has the help
-- and the version.
abbrev pub page_in : Program → List (List ℕ) → Option Page
page_in BoothFollow words = None
page_in program words = first_page words
