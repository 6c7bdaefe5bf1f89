-- Waits, pair by pair.
use Rattle.std.specs.Prelude.{Option, Result}
use Rattle.std.proofs.Common.{◌≡◌, ◌<◌, ◌+◌, ℕ, List, [], ◌∷◌, ◌++◌, ◌⊎◌, refl, sym, ◌∙◌, ap, append_assoc, append-nil, inl, inr}
use Rattle.std.proofs.lemmas.List.{length-append}
use Rattle.std.proofs.lemmas.List.Elements.{All-nil, All-push}
use Rattle.booth_host.specs.declared.entry.Entry.{Entry}
use Rattle.booth_host.specs.declared.entry.Entry.TheVariants.{Next, Now}
use Rattle.booth_host.specs.declared.host.Arrival.{Arrival}
use Rattle.booth_host.specs.declared.host.Failed.{Failed}
use Rattle.booth_host.specs.Past.{GrewBy, GrewSome}
use Rattle.booth_host.proofs.PastLemmas.{no_entry, one_more, some_of, some_joined, some_weaker}
use Rattle.booth_talk.specs.Waiting.{Pair, calls_of, all_calls, IsRow, EndsBy, IsSilent, IsLate}
use Rattle.booth_talk.specs.declared.wait.TheConstants.{MOST_PAIRS}
use Rattle.booth_talk.specs.declared.order.Asking.{Asking}

pub calls-push : (ps : List Pair) (p : Pair) → all_calls (ps ++ p ∷ []) ≡ all_calls ps ++ calls_of p
unfolding all_calls
calls-push [] p = append-nil (calls_of p)
calls-push (q ∷ ps) p = ap (λ es. calls_of q ++ es) (calls-push ps p) ∙ sym (append_assoc (calls_of q) (all_calls ps) (calls_of p))

-- no pair
pub no_pair : (P : Pair → Type 0) {a : Option (List Entry)} → GrewSome (IsRow P 0) a a
unfolding all_calls
no_pair P = some_of (IsRow P 0) no_entry (record { pairs = []; number = refl; whole = refl; each = All-nil P })

-- the two calls of a pair
abbrev pub pair_of : Result Arrival Failed → List ℕ → ℕ → Pair
pair_of answer bytes reading = record { answer = answer; bytes = bytes; reading = reading }

-- a row and one more pair
pub one_pair : (P : Pair → Type 0) {n : ℕ} {answer : Result Arrival Failed} {bytes : List ℕ} {reading : ℕ} {a b c d : Option (List Entry)} →
    GrewSome (IsRow P n) a b → GrewBy b c (Next 100 answer bytes ∷ []) → GrewBy c d (Now reading ∷ []) →
    P (pair_of answer bytes reading) → GrewSome (IsRow P (n + 1)) a d
one_pair P {n} {answer} {bytes} {reading} {a} {b} {c} {d} row next now holds =
    let p : Pair = pair_of answer bytes reading in
    let these : List Entry → Type 0 = λ es. es ≡ calls_of p in
    some_joined (IsRow P n) these (IsRow P (n + 1))
    (λ xs ys r e. record {
      pairs = r.pairs ++ p ∷ [];
      number = length-append r.pairs (p ∷ []) ∙ ap (λ k. k + 1) r.number;
      whole = ap (λ es. xs ++ es) e ∙ ap (λ es. es ++ calls_of p) r.whole ∙ sym (calls-push r.pairs p);
      each = All-push P r.pairs p r.each holds;
    })
    row (some_of these (one_more next now) refl)

-- a row and the last pair
pub last_pair : (P Q : Pair → Type 0) (limit : ℕ) {n : ℕ} {answer : Result Arrival Failed} {bytes : List ℕ} {reading : ℕ} {a b c d : Option (List Entry)} →
    GrewSome (IsRow P n) a b → GrewBy b c (Next 100 answer bytes ∷ []) → GrewBy c d (Now reading ∷ []) → n < limit →
    Q (pair_of answer bytes reading) → GrewSome (EndsBy P Q limit) a d
last_pair P Q limit {n} {answer} {bytes} {reading} {a} {b} {c} {d} row next now below holds =
    let p : Pair = pair_of answer bytes reading in
    let these : List Entry → Type 0 = λ es. es ≡ calls_of p in
    some_joined (IsRow P n) these (EndsBy P Q limit)
    (λ xs ys r e. record { count = n; below = below; early = xs; row = r; last = p; whole = ap (λ es. xs ++ es) e; holds = holds })
    row (some_of these (one_more next now) refl)

-- a wait that ended late, and one that ended after all its pairs
pub over_late : (asking : Asking) (start : ℕ) {a b : Option (List Entry)} → GrewSome (EndsBy (IsSilent asking start) (IsLate asking start) MOST_PAIRS) a b →
    GrewSome (λ es. EndsBy (IsSilent asking start) (IsLate asking start) MOST_PAIRS es ⊎ IsRow (IsSilent asking start) MOST_PAIRS es) a b
over_late asking start ended = some_weaker (EndsBy (IsSilent asking start) (IsLate asking start) MOST_PAIRS) _ (λ xs h. inl h) ended

pub over_spent : (asking : Asking) (start : ℕ) {a b : Option (List Entry)} → GrewSome (IsRow (IsSilent asking start) MOST_PAIRS) a b →
    GrewSome (λ es. EndsBy (IsSilent asking start) (IsLate asking start) MOST_PAIRS es ⊎ IsRow (IsSilent asking start) MOST_PAIRS es) a b
over_spent asking start spent = some_weaker (IsRow (IsSilent asking start) MOST_PAIRS) _ (λ xs h. inr h) spent
