-- The attributes of one ticket: names with values, in the order in which the names were added.
use Rattle.std.specs.Prelude.{◌≡◌, ℕ, Bool, false, not, List, [], ◌∷◌, ◌++◌, map, filter, find, Option, bytes_eq, if◌then◌else◌}
use Rattle.std.specs.List.{list_any}
use Rattle.std.specs.Option.{option_map}
use Rattle.booth_attr.specs.declared.pair.Pair.{Pair}

-- the pair has this name
abbrev pub is_named : List ℕ → Pair → Bool
is_named name pair = bytes_eq pair.name name

-- one of these pairs has this name
abbrev pub has_name : List ℕ → List Pair → Bool
has_name name pairs = list_any (is_named name) pairs

-- An attribute list: no two of its pairs have the same name.
abbrev pub AttributeList : List Pair → Type 0
AttributeList [] = Unit {0}
AttributeList (pair ∷ rest) = (has_name pair.name rest ≡ false) × AttributeList rest

-- the value of a name, if a pair has it
abbrev pub value_of : List ℕ → List Pair → Option (List ℕ)
value_of name pairs = option_map (λ pair. pair.value) (find (is_named name) pairs)

-- the pair, with this value if it has this name
abbrev pub revalued : List ℕ → List ℕ → Pair → Pair
revalued name value pair = if is_named name pair then record pair { value = value } else pair

-- the pairs once this name has this value: an existing name keeps its place, a new one goes last
abbrev pub with_value : List ℕ → List ℕ → List Pair → List Pair
with_value name value pairs =
    if has_name name pairs then map (revalued name value) pairs
    else pairs ++ (record { name = name; value = value }) ∷ []

-- the pairs that have other names
abbrev pub without : List ℕ → List Pair → List Pair
without name pairs = filter (λ pair. not (is_named name pair)) pairs

-- the line of a pair: its name, a blank, its value, a line feed
abbrev pub line_of : Pair → List ℕ
line_of pair = pair.name ++ 0x20 ∷ [] ++ pair.value ++ 0x0A ∷ []
