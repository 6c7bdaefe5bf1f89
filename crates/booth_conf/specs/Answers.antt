-- The answer of a step of the reader, compared with the rules.
use Rattle.std.specs.Prelude.{◌≡◌, Option, Some, None, Result, Ok, Err}
use Rattle.booth_conf.specs.declared.faults.LineFault.{LineFault}
use Rattle.booth_conf.specs.declared.faults.Stop.{Stop}
use Rattle.booth_conf.specs.declared.faults.Stop.TheVariants as stops

-- Ok: no fault, and this is the new value. Err: this fault, or out of memory, and the value is unchanged.
abbrev pub Answers : {V : Type 0} → Result (Unit {0}) Stop → V → Option LineFault → V → V → Type 0
Answers (Ok done) new fault old more = (fault ≡ None) × (new ≡ more)
Answers (Err stops.Memory) new fault old more = new ≡ old
Answers (Err (stops.Line kind)) new fault old more = (fault ≡ Some kind) × (new ≡ old)
