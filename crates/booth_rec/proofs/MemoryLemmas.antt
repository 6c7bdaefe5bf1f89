-- One call more of a disk in memory.
use Rattle.std.proofs.Common.{◌≡◌, ◌⊎◌, inl, inr, ⊎_elim, ℕ, ◌+◌, ◌-◌, ◌<◌, ◌≤◌, List, [], ◌∷◌, ◌++◌, length, take, drop, refl, sym, ◌∙◌, ap, subst, arith, length-append}
use Rattle.std.proofs.lemmas.List.{take_all, drop_all, take-append-le, length-take-le, get_or-take, ext_get_or, append-nil}
use Rattle.std.proofs.lemmas.Bool.{cases_lt}
use Rattle.booth_rec.specs.declared.memory_disk.Call.{Call}
use Rattle.booth_rec.specs.declared.memory_disk.Call.TheVariants.{Write, Sync}
use Rattle.booth_rec.specs.Spelling.{zeros}
use Rattle.booth_rec.specs.Disk.{SameOutside, IsWritten, NoMore, Follows, Only, Elapses}
use Rattle.booth_rec.specs.Calls.{IsWriteOf, overwritten, seen_after, Torn, left_after, MayLeave, MightHaveLeft}
use Rattle.booth_rec.specs.CallLaws.{padded, length_zeros, is_written, leaves_seen}

pub elapses_same : (first first' : List ℕ) (calls calls' : List Call) → first' ≡ first → calls' ≡ calls
    → Elapses (length calls) (length calls') (MightHaveLeft first calls) (MightHaveLeft first' calls') (MayLeave first' calls')
elapses_same first first' calls calls' is same =
    subst (λ (cs : List Call). Elapses (length calls) (length cs) (MightHaveLeft first calls) (MightHaveLeft first' cs) (MayLeave first' cs)) (sym same)
    (subst (λ (f : List ℕ). Elapses (length calls) (length calls) (MightHaveLeft first calls) (MightHaveLeft f calls) (MayLeave f calls)) (sym is)
    (record { later = omega arith; nothing_else = λ t c le left. inl left; keeps = λ t c le left. left }))

pushed : (first : List ℕ) (calls : List Call) (x : Call)
    → Elapses (length calls) (length (calls ++ x ∷ [])) (MightHaveLeft first calls) (MightHaveLeft first (calls ++ x ∷ [])) (MayLeave first (calls ++ x ∷ []))
pushed first calls x = record {
  later = omega (arith, length-append calls (x ∷ []));
  nothing_else = λ t c le (k, ge, within, left). ⊎_elim
      (λ last. inr (subst (λ (cs : List Call). MayLeave first cs c) (take_all k (calls ++ x ∷ []) (omega (arith, last, length-append calls (x ∷ [])))) left))
      (λ earlier. inl (k, ge, earlier, subst (λ (cs : List Call). MayLeave first cs c) (take-append-le k calls (x ∷ []) earlier) left))
      (cases_lt (length calls) k);
  keeps = λ t c le (k, ge, within, left).
      (k, ge, omega (arith, within, length-append calls (x ∷ [])), subst (λ (cs : List Call). MayLeave first cs c) (sym (take-append-le k calls (x ∷ []) within)) left);
}

pub elapses_push : (first first' : List ℕ) (calls calls' : List Call) (x : Call) → first' ≡ first → calls' ≡ calls ++ x ∷ []
    → Elapses (length calls) (length calls') (MightHaveLeft first calls) (MightHaveLeft first' calls') (MayLeave first' calls')
elapses_push first first' calls calls' x is same =
    subst (λ (cs : List Call). Elapses (length calls) (length cs) (MightHaveLeft first calls) (MightHaveLeft first' cs) (MayLeave first' cs)) (sym same)
    (subst (λ (f : List ℕ). Elapses (length calls) (length (calls ++ x ∷ [])) (MightHaveLeft first calls) (MightHaveLeft f (calls ++ x ∷ [])) (MayLeave f (calls ++ x ∷ [])))
    (sym is) (pushed first calls x))

-- ---- a sync

pub seen_synced : (seen : List ℕ) (calls : List Call) → seen_after seen (calls ++ Sync ∷ []) ≡ seen_after seen calls
seen_synced seen [] = refl
seen_synced seen (Write at bytes len ∷ calls) = seen_synced (overwritten at (take len bytes) seen) calls
seen_synced seen (Sync ∷ calls) = seen_synced seen calls

left_synced : (seen : List ℕ) (left : List ℕ → Type 0) (calls : List Call) (c : List ℕ) → left_after seen left (calls ++ Sync ∷ []) c → c ≡ seen_after seen calls
left_synced seen left [] c is = is
left_synced seen left (Write at bytes len ∷ calls) c is = left_synced (overwritten at (take len bytes) seen) (Torn left at (length (take len bytes))) calls c is
left_synced seen left (Sync ∷ calls) c is = left_synced seen (λ d. d ≡ seen) calls c is

pub synced_only : (first : List ℕ) (calls : List Call) → Only (seen_after first (calls ++ Sync ∷ [])) (MayLeave first (calls ++ Sync ∷ []))
synced_only first calls c left = left_synced first (λ d. d ≡ first) calls c left ∙ sym (seen_synced first calls)

pub synced_less : (first : List ℕ) (calls : List Call) → NoMore (MayLeave first calls) (MayLeave first (calls ++ Sync ∷ []))
synced_less first calls c left =
    subst (λ (f : List ℕ). MayLeave first calls f) (sym (left_synced first (λ d. d ≡ first) calls c left)) (leaves_seen first (λ d. d ≡ first) calls refl)

pub less_synced : (first first' : List ℕ) (calls calls' : List Call) → first' ≡ first → calls' ≡ calls ++ Sync ∷ [] → NoMore (MayLeave first calls) (MayLeave first' calls')
less_synced first first' calls calls' is same =
    subst (λ (cs : List Call). NoMore (MayLeave first calls) (MayLeave first' cs)) (sym same)
    (subst (λ (f : List ℕ). NoMore (MayLeave first calls) (MayLeave f (calls ++ Sync ∷ []))) (sym is) (synced_less first calls))

-- ---- a write

seen_pushed : (seen : List ℕ) (calls : List Call) (at : ℕ) (kept : List ℕ) (len : ℕ)
    → seen_after seen (calls ++ Write at kept len ∷ []) ≡ overwritten at (take len kept) (seen_after seen calls)
seen_pushed seen [] at kept len = refl
seen_pushed seen (Write p bytes n ∷ calls) at kept len = seen_pushed (overwritten p (take n bytes) seen) calls at kept len
seen_pushed seen (Sync ∷ calls) at kept len = seen_pushed seen calls at kept len

left_pushed : (seen : List ℕ) (left : List ℕ → Type 0) (calls : List Call) (at : ℕ) (kept : List ℕ) (len : ℕ) (c : List ℕ)
    → left_after seen left (calls ++ Write at kept len ∷ []) c → Torn (left_after seen left calls) at (length (take len kept)) c
left_pushed seen left [] at kept len c is = is
left_pushed seen left (Write p bytes n ∷ calls) at kept len c is =
    left_pushed (overwritten p (take n bytes) seen) (Torn left p (length (take n bytes))) calls at kept len c is
left_pushed seen left (Sync ∷ calls) at kept len c is = left_pushed seen (λ d. d ≡ seen) calls at kept len c is

pub seen_written : (first : List ℕ) (calls : List Call) (at : ℕ) (bytes : List ℕ) (x : Call) → IsWriteOf at bytes x
    → seen_after first (calls ++ x ∷ []) ≡ overwritten at bytes (seen_after first calls)
seen_written first calls at bytes (Write p kept len) (place, is) =
    seen_pushed first calls p kept len
    ∙ ap (λ (k : ℕ). overwritten k (take len kept) (seen_after first calls)) place ∙ ap (λ (l : List ℕ). overwritten at l (seen_after first calls)) is
seen_written first calls at bytes Sync none = absurd none

pub is_written_by : (first : List ℕ) (calls : List Call) (at : ℕ) (bytes : List ℕ) (x : Call) → IsWriteOf at bytes x
    → IsWritten at bytes (seen_after first calls) (seen_after first (calls ++ x ∷ []))
is_written_by first calls at bytes x is =
    subst (λ (f : List ℕ). IsWritten at bytes (seen_after first calls) f) (sym (seen_written first calls at bytes x is)) (is_written at bytes (seen_after first calls))

pub torn_by : (first : List ℕ) (calls : List Call) (at : ℕ) (bytes : List ℕ) (x : Call) → IsWriteOf at bytes x
    → Follows (SameOutside at (length bytes)) (MayLeave first calls) (MayLeave first (calls ++ x ∷ []))
torn_by first calls at bytes (Write p kept len) (place, is) c left =
    let (d, was, torn) = left_pushed first (λ e. e ≡ first) calls p kept len c left in
    (d, was, subst (λ (k : ℕ). SameOutside k (length bytes) d c) place (subst (λ (l : List ℕ). SameOutside p (length l) d c) is torn))
torn_by first calls at bytes Sync none c left = absurd none

pub written_then : (first first' : List ℕ) (calls calls' : List Call) (at : ℕ) (bytes : List ℕ) (x : Call) → first' ≡ first → calls' ≡ calls ++ x ∷ []
    → IsWriteOf at bytes x → IsWritten at bytes (seen_after first calls) (seen_after first' calls')
written_then first first' calls calls' at bytes x is same of =
    subst (λ (cs : List Call). IsWritten at bytes (seen_after first calls) (seen_after first' cs)) (sym same)
    (subst (λ (f : List ℕ). IsWritten at bytes (seen_after first calls) (seen_after f (calls ++ x ∷ []))) (sym is) (is_written_by first calls at bytes x of))

pub torn_then : (first first' : List ℕ) (calls calls' : List Call) (at : ℕ) (bytes : List ℕ) (x : Call) → first' ≡ first → calls' ≡ calls ++ x ∷ []
    → IsWriteOf at bytes x → Follows (SameOutside at (length bytes)) (MayLeave first calls) (MayLeave first' calls')
torn_then first first' calls calls' at bytes x is same of =
    subst (λ (cs : List Call). Follows (SameOutside at (length bytes)) (MayLeave first calls) (MayLeave first' cs)) (sym same)
    (subst (λ (f : List ℕ). Follows (SameOutside at (length bytes)) (MayLeave first calls) (MayLeave f (calls ++ x ∷ []))) (sym is) (torn_by first calls at bytes x of))

-- ---- lists

no_more : (l : List ℕ) → l ++ zeros 0 ≡ l
unfolding zeros
no_more l = append-nil l

pub written_over : (at : ℕ) (bytes old : List ℕ) →
    take at (old ++ zeros (at + length bytes - length old)) ++ bytes ++ drop (at + length bytes) (old ++ zeros (at + length bytes - length old)) ≡ overwritten at bytes old
unfolding overwritten
written_over at bytes old =
    let more : List ℕ = zeros (at + length bytes - length old) in
    let wide : length (old ++ more) ≡ length old + (at + length bytes - length old) =
    length-append old more ∙ omega (arith, length_zeros (at + length bytes - length old)) in
    let front : take at (old ++ more) ≡ take at (old ++ zeros at) = ext_get_or 0 (take at (old ++ more)) (take at (old ++ zeros at))
    (length-take-le at (old ++ more) (omega (arith, wide)) ∙ sym (length-take-le at (old ++ zeros at) (omega (arith, length-append old (zeros at), length_zeros at))))
    (λ i below.
    let within : i < at = omega (arith, below, length-take-le at (old ++ more) (omega (arith, wide))) in
    get_or-take at (old ++ more) i 0 within ∙ padded old (at + length bytes - length old) i
    ∙ sym (get_or-take at (old ++ zeros at) i 0 within ∙ padded old at i)) in
    ap (λ (l : List ℕ). l ++ bytes ++ drop (at + length bytes) (old ++ more)) front
    ∙ ap (λ (l : List ℕ). take at (old ++ zeros at) ++ bytes ++ l) (behind (cases_lt (length old) (at + length bytes)))
  where
    behind : (length old < at + length bytes) ⊎ (at + length bytes ≤ length old)
        → drop (at + length bytes) (old ++ zeros (at + length bytes - length old)) ≡ drop (at + length bytes) old
    behind (inl short) =
        drop_all (at + length bytes) (old ++ zeros (at + length bytes - length old))
        (omega (arith, short, length-append old (zeros (at + length bytes - length old)), length_zeros (at + length bytes - length old)))
        ∙ sym (drop_all (at + length bytes) old (omega (arith, short)))
    behind (inr long) =
        let none : at + length bytes - length old ≡ 0 = omega (arith, long) in
        ap (λ (n : ℕ). drop (at + length bytes) (old ++ zeros n)) none ∙ ap (λ (l : List ℕ). drop (at + length bytes) l) (no_more old)
