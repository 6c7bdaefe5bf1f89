-- How many steps a look for due slots takes at most, in terms of the 128 ms buckets and the slots in them.
use Rattle.std.specs.Prelude.{ℕ, ◌+◌, ◌-◌, ◌/◌, ◌%◌, Bool, false, ◌||◌, nat_le, nat_eq, min, Option, Some, None}
use Rattle.std.specs.List.{count_by, list_any, range_with_len}
use Rattle.booth_chain.specs.Wheel.{Timer}
use Rattle.booth_chain.specs.declared.buckets.TheConstants.{SPAN_MS, BUCKETS}

-- the number of buckets from the bucket of one moment to the bucket of a later moment: at most all 512
abbrev pub buckets_between : ℕ → ℕ → ℕ
buckets_between swept now = min BUCKETS (now / SPAN_MS - swept / SPAN_MS + 1)

-- a deadline that is at most `swept`, or in the bucket of a moment from there to `now`
abbrev pub is_in_reach : ℕ → ℕ → Option ℕ → Bool
is_in_reach swept now None = false
is_in_reach swept now (Some deadline) =
    nat_le deadline swept
    || list_any (λ span. nat_eq ((deadline / SPAN_MS) % BUCKETS) (span % BUCKETS))
    (range_with_len (swept / SPAN_MS) (now / SPAN_MS - swept / SPAN_MS + 1))

-- the buckets since the latest moment at which nothing was due, and the slots whose deadline is in their reach
abbrev pub most_steps : Timer → ℕ → ℕ
most_steps timer now =
    buckets_between timer.swept now + count_by (is_in_reach timer.swept now) timer.deadlines
