-- The draws of an event: three words of a generator, and their meaning.
use Rattle.std.specs.Prelude.{ℕ, zero, suc, ◌%◌, ◌==◌, nat_lt, Bool, if◌then◌else◌}
use Rattle.rand_pcg.specs.Lcg.{Lcg, started, increment_of}
use Rattle.rand_pcg.specs.Pcg.{multiplier_64, pcg32}
use Rattle.booth_sim.specs.declared.drawing.Draw.{Draw}
use Rattle.booth_sim.specs.declared.drawing.Kind.{Kind}
use Rattle.booth_sim.specs.declared.drawing.Kind.TheVariants.{Frame, Quiet, Grant, Revoke, Restart}

-- The generator with a seed, on stream 54.
abbrev pub generator_of : ℕ → Lcg
generator_of number = started 64 multiplier_64 number (increment_of 64 54)

-- Three words in their order, and the generator after them.
abbrev pub drawn : Lcg → Draw × Lcg
drawn generator =
    let first : ℕ × Lcg = pcg32 generator in
    let second : ℕ × Lcg = pcg32 first.1 in
    let third : ℕ × Lcg = pcg32 second.1 in
    (record { first = first.0; second = second.0; third = third.0 }, third.1)

-- The generator before an event. Events count from 0.
abbrev pub generator_before : ℕ → ℕ → Lcg
generator_before number zero = generator_of number
generator_before number (suc event) = (drawn (generator_before number event)).1

-- The draws of an event.
abbrev pub draw_of : ℕ → ℕ → Draw
draw_of number event = (drawn (generator_before number event)).0

-- ---- the meaning of the words

-- The number of milliseconds by which true time rises.
abbrev pub rise_of : Draw → ℕ
rise_of draw = draw.first % 2000

-- Whether each write in this event's turn fails.
abbrev pub keeps_fail : Draw → Bool
keeps_fail draw = draw.third % 64 == 0

-- The kind of an event. Out of 2,000 draws, 1,200 deliver a frame and 790 deliver nothing. In 8 a client requests a
-- grant, in one a client requests a revocation, and one is a restart.
abbrev pub kind_in : ℕ → Kind
kind_in k =
    if nat_lt k 1200 then Frame else
    if nat_lt k 1990 then Quiet else
    if nat_lt k 1998 then Grant else
    if k == 1998 then Revoke else Restart

abbrev pub kind_of : Draw → Kind
kind_of draw = kind_in (draw.second % 2000)

-- The member at which the event is, among this many.
abbrev pub member_of : Draw → ℕ → ℕ
member_of draw members = draw.third % members

-- The ticket in a client's request, among this many.
abbrev pub ticket_of : Draw → ℕ → ℕ
ticket_of draw tickets = draw.first % tickets
