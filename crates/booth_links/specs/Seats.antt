-- Which link must leave its seat.
use Rattle.std.specs.Prelude.{◌+◌, ◌-◌, ◌^◌, ◌&&◌, min, ℕ, List, Bool, true, false, Option, None, Some, nat_le}
use Rattle.std.specs.List.{list_all}

-- a free seat, or one whose link has been idle since this moment or a later one
abbrev pub is_since : ℕ → Option ℕ → Bool
is_since moment None = true
is_since moment (Some other) = nat_le moment other

-- a link that has been idle for at least this long, and none has been idle for longer
abbrev pub has_to_leave : List (Option ℕ) → ℕ → ℕ → Option ℕ → Bool
has_to_leave moments now limit None = false
has_to_leave moments now limit (Some moment) =
    nat_le (min (moment + limit) (2 ^ 64 - 1)) now && list_all (is_since moment) moments
