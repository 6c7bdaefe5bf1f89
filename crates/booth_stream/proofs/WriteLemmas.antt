-- The writes of a frame, one after the other.
use Rattle.std.specs.Prelude.{drop, ◌==◌, Bool, true, false, ◌||◌, if◌then◌else◌, Option, Result, Ok, Err}
use Rattle.std.proofs.Common.{◌≡◌, ℕ, ◌<◌, ◌≤◌, List, [], ◌∷◌, ◌++◌, length, refl, sym, ◌∙◌, ap, inl, inr, arith, append_assoc, append-nil, subst}
use Rattle.std.specs.List.{list_any}
use Rattle.booth_host.specs.declared.host.Failed.{Failed}
use Rattle.booth_stream.specs.Places.{OpenLink}
use Rattle.booth_stream.specs.declared.link_call.LinkCall.{LinkCall}
use Rattle.booth_stream.specs.declared.link_call.LinkCall.TheVariants.{Close, Write}
use Rattle.booth_stream.specs.declared.stream_host.Wrote.{Wrote}
use Rattle.booth_stream.specs.declared.stream_host.Wrote.TheVariants as wrotes
use Rattle.booth_stream.specs.Calls.{CallsGrewBy}
use Rattle.booth_stream.specs.Steps.{EndsWrites, Stops, Writes, own_after, own_count, wrote_nothing}
use Rattle.booth_stream.proofs.CallLemmas.{calls_joined}

-- what was written so far, and how it goes on
abbrev pub SoFar : ℕ → List ℕ → List ℕ → Option (List LinkCall) → Option (List LinkCall) → Type 0
SoFar number bytes rest links linked = (done : List LinkCall) × CallsGrewBy links linked done
    × ((more : List LinkCall) (wrote : Wrote) → Writes number rest more wrote → Writes number bytes (done ++ more) wrote)

-- the writes, to their end
abbrev pub Wrote_by : ℕ → List ℕ → Wrote → Option (List LinkCall) → Option (List LinkCall) → Type 0
Wrote_by number bytes wrote links linked =
    (calls : List LinkCall) × CallsGrewBy links linked calls × Writes number bytes calls wrote

pub is_wide : (rest : List ℕ) → false ≡ (length rest == 0) → 0 < length rest
is_wide [] is = absurd cc
is_wide (byte ∷ rest) is = omega arith

pub is_nil : (rest : List ℕ) → true ≡ (length rest == 0) → rest ≡ []
is_nil [] is = refl
is_nil (byte ∷ rest) is = absurd (grind (arith, is))

pub one_part : (number : ℕ) (bytes rest : List ℕ) (taken : ℕ) {a b d : Option (List LinkCall)} → SoFar number bytes rest a b
    → CallsGrewBy b d (Write number rest (Ok taken) ∷ []) → 0 < taken → taken ≤ length rest
    → SoFar number bytes (drop taken rest) a d
one_part number bytes rest taken so_far grew some fits =
    let write = Write number rest (Ok taken) in (
      so_far.0 ++ write ∷ [],
      calls_joined so_far.1 grew,
      (λ more wrote writes.
          let wide : 0 < length rest = omega (arith, some, fits) in
          subst (λ (l : List LinkCall). Writes number bytes l wrote) (sym (append_assoc so_far.0 (write ∷ []) more))
          (so_far.2 (write ∷ more) wrote (wide, inl (taken, refl, some, fits, writes)))),
    )

pub stopped : (number : ℕ) (bytes rest : List ℕ) (answer : Result ℕ Failed) (wrote : Wrote) {a b d : Option (List LinkCall)}
    → SoFar number bytes rest a b → CallsGrewBy b d (Write number rest answer ∷ []) → 0 < length rest → Stops answer wrote
    → Wrote_by number bytes wrote a d
stopped number bytes rest answer wrote so_far grew wide stops =
    let write = Write number rest answer in (
      so_far.0 ++ write ∷ [],
      calls_joined so_far.1 grew,
      so_far.2 (write ∷ []) wrote (wide, inr (answer, refl, refl, stops)),
    )

pub all_written : (number : ℕ) (bytes rest : List ℕ) {a b : Option (List LinkCall)} → SoFar number bytes rest a b → rest ≡ []
    → Wrote_by number bytes wrotes.All a b
all_written number bytes rest so_far none = (
  so_far.0,
  so_far.1,
  subst (λ (l : List LinkCall). Writes number bytes l wrotes.All) (append-nil so_far.0) (so_far.2 [] wrotes.All (none, refl)),
)

-- ---- the host's own count

some_taken : (taken : ℕ) → 0 < taken → (taken == 0) ≡ false
some_taken taken some = grind (arith, some)

-- whether a frame's writes end with one that wrote nothing
abbrev pub ends_empty : Wrote → Bool
ends_empty wrotes.All = false
ends_empty wrotes.Nothing = true
ends_empty wrotes.Fault = false

last_write : (number : ℕ) (bytes : List ℕ) (answer : Result ℕ Failed) (wrote : Wrote) → Stops answer wrote
    → wrote_nothing (Write number bytes answer) ≡ ends_empty wrote
last_write number bytes (Ok taken) wrote stops = rw (stops.0, stops.1) refl
last_write number bytes (Err fault) wrote stops = rw (stops) refl

or_false : (b : Bool) → (b || false) ≡ b
or_false true = refl
or_false false = refl

-- one of the calls wrote nothing exactly if the writes ended so
empties : (number : ℕ) (bytes : List ℕ) (writes : List LinkCall) (wrote : Wrote) (tail : List LinkCall)
    → Writes number bytes writes wrote → list_any wrote_nothing tail ≡ false
    → list_any wrote_nothing (writes ++ tail) ≡ ends_empty wrote
empties number bytes [] wrote tail none clean = clean ∙ sym (ap ends_empty none.1)
empties number bytes (call ∷ calls) wrote tail (wide, inl (taken, is, some, fits, more)) clean =
    ap (λ (c : LinkCall). wrote_nothing c || list_any wrote_nothing (calls ++ tail)) is
    ∙ ap (λ (b : Bool). b || list_any wrote_nothing (calls ++ tail)) (some_taken taken some)
    ∙ empties number (drop taken bytes) calls wrote tail more clean
empties number bytes (call ∷ calls) wrote tail (wide, inr (answer, is, last, stops)) clean =
    ap (λ (c : LinkCall). wrote_nothing c || list_any wrote_nothing (calls ++ tail)) is
    ∙ ap (λ (l : List LinkCall). wrote_nothing (Write number bytes answer) || list_any wrote_nothing (l ++ tail)) last
    ∙ ap (λ (b : Bool). wrote_nothing (Write number bytes answer) || b) clean
    ∙ or_false (wrote_nothing (Write number bytes answer))
    ∙ last_write number bytes answer wrote stops

count_of : (before : ℕ) (calls : List LinkCall) (wrote : Wrote) → list_any wrote_nothing calls ≡ ends_empty wrote
    → own_count before calls ≡ own_after wrote before
count_of before calls wrotes.All is = rw (is) refl
count_of before calls wrotes.Nothing is = rw (is) refl
count_of before calls wrotes.Fault is = rw (is) refl

-- The host's own count is one more exactly if a write wrote nothing.
pub own_counted : (old new : List (Option OpenLink)) (number : ℕ) (bytes : List ℕ) (writes calls : List LinkCall) (wrote : Wrote)
    (answer : Result (Unit {0}) Failed) (before : ℕ) → Writes number bytes writes wrote
    → EndsWrites old number wrote writes calls answer new → own_count before calls ≡ own_after wrote before
own_counted old new number bytes writes calls wrotes.All answer before written ends =
    count_of before calls wrotes.All (
    ap (list_any wrote_nothing) (ends.1 ∙ sym (append-nil writes)) ∙ empties number bytes writes wrotes.All [] written refl)
own_counted old new number bytes writes calls wrotes.Nothing answer before written ends =
    count_of before calls wrotes.Nothing (
    ap (list_any wrote_nothing) ends.1 ∙ empties number bytes writes wrotes.Nothing (Close number ∷ []) written refl)
own_counted old new number bytes writes calls wrotes.Fault answer before written ends =
    count_of before calls wrotes.Fault (
    ap (list_any wrote_nothing) ends.1 ∙ empties number bytes writes wrotes.Fault (Close number ∷ []) written refl)
