-- When the prerequisites of a grant hold.
use Rattle.std.specs.Prelude.{ℕ, Bool, true, false, not, ◌||◌, List, bytes_eq, if◌then◌else◌}
use Rattle.std.specs.Option.{option_map_or}
use Rattle.booth_conf.specs.declared.tickets.Prereq.{Prereq}
use Rattle.booth_conf.specs.declared.tickets.GrantKind.{GrantKind}
use Rattle.booth_conf.specs.declared.tickets.GrantKind.TheVariants.{Auto, Manual}
use Rattle.booth_attr.specs.declared.pair.Pair.{Pair}
use Rattle.booth_attr.specs.Lists.{value_of}

-- the name has this value
abbrev pub has_value : List ℕ → List ℕ → List Pair → Bool
has_value name value pairs = option_map_or (λ found. bytes_eq found value) (value_of name pairs) false

-- `eq`: the name has the value; `ne`: it has another value, or does not exist
abbrev pub is_met : List Pair → Prereq → Bool
is_met pairs prereq =
    if prereq.equal then has_value prereq.name prereq.value pairs
    else not (has_value prereq.name prereq.value pairs)

abbrev pub is_kind : GrantKind → GrantKind → Bool
is_kind Auto Auto = true
is_kind Manual Manual = true
is_kind _ _ = false

-- a grant of this kind does not need the prerequisite, or it is met
abbrev pub holds_for : GrantKind → List Pair → Prereq → Bool
holds_for kind pairs prereq = not (is_kind kind prereq.kind) || is_met pairs prereq
