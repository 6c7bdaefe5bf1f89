-- What a journal writes in several appends.
use Rattle.std.specs.Prelude.{Option, None, Some, IsSome, take, min}
use Rattle.std.proofs.Common.{◌≡◌, ◌≤◌, ◌+◌, ◌⊎◌, inl, inr, ℕ, Bool, true, false, List, [], ◌∷◌, ◌++◌, length, refl, sym, ◌∙◌, ap, append_assoc, append-nil, subst, arith, true≢false}
use Rattle.std.proofs.lemmas.List.{take_min, take-append-le}
use Rattle.std.proofs.Math.Seq.{take-append-add}
use Rattle.booth_host.specs.Causes.{Rose}
use Rattle.booth_journal.specs.Held.{HoldsMore, HoldsPart, with_bytes}
use Rattle.booth_host.specs.declared.entry.Entry.{Entry}
use Rattle.booth_journal.specs.Journal.{IsOrdered, Ordered, Wrote}
use Rattle.booth_journal.specs.Lines.{answer_line, call_line, lines_of, lines_said, said}
use Rattle.booth_journal.specs.declared.said.Answer.{Answer}
use Rattle.booth_journal.specs.declared.said.Call.{Call}
use Rattle.booth_journal.specs.declared.journal.Journal.{Journal}

with_both : (held : Option (List ℕ)) (xs ys : List ℕ) → with_bytes (with_bytes held xs) ys ≡ with_bytes held (xs ++ ys)
with_both None xs ys = refl
with_both (Some held) xs ys = ap Some (append_assoc held xs ys)

told_with : (held : Option (List ℕ)) (xs : List ℕ) → IsSome (with_bytes held xs) → IsSome held
told_with None xs told = told
told_with (Some held) xs told = refl

more_after : {a b c : Option (List ℕ)} {xs ys : List ℕ} → HoldsMore a b xs → HoldsMore b c ys → HoldsMore a c (xs ++ ys)
more_after {a} {b} {c} {xs} {ys} first second = record {
  more_held = λ told.
      let last : c ≡ with_bytes b ys = second.more_held told in
      let told_b : IsSome b = told_with b ys (subst IsSome last told) in
      last ∙ ap (λ h. with_bytes h ys) (first.more_held told_b) ∙ with_both a xs ys;
}

rose_before : (a b c : ℕ) → a ≤ b → Rose b c → Rose a c
rose_before a b c le rose = grind (arith)

rose_after : (a b c : ℕ) → Rose a b → b ≤ c → Rose a c
rose_after a b c rose le = grind (arith)

take_within : (n : ℕ) (xs ys : List ℕ) → take n xs ≡ take (min n (length xs)) (xs ++ ys)
take_within n xs ys =
    let below : min n (length xs) ≤ length xs = omega arith in
    sym (take_min n xs) ∙ sym (take-append-le (min n (length xs)) xs ys below)

part_first : {a b : Option (List ℕ)} {xs : List ℕ} (ys : List ℕ) → HoldsPart a b xs → HoldsPart a b (xs ++ ys)
part_first {a} {b} {xs} ys part = record {
  part_held = λ told.
      let some = part.part_held told in
      (min some.0 (length xs), some.1 ∙ ap (with_bytes a) (take_within some.0 xs ys));
}

part_after : {a b c : Option (List ℕ)} {xs ys : List ℕ} → HoldsMore a b xs → HoldsPart b c ys → HoldsPart a c (xs ++ ys)
part_after {a} {b} {c} {xs} {ys} first part = record {
  part_held = λ told.
      let some = part.part_held told in
      let told_b : IsSome b = told_with b (take some.0 ys) (subst IsSome some.1 told) in (
        length xs + some.0,
        some.1 ∙ ap (λ h. with_bytes h (take some.0 ys)) (first.more_held told_b) ∙ with_both a xs (take some.0 ys)
            ∙ ap (with_bytes a) (sym (take-append-add xs ys some.0)),
      );
}

either : (b : Bool) → (b ≡ true) ⊎ (b ≡ false)
either true = inl refl
either false = inr refl

parts : {S : Type 0} (held : S → Option (List ℕ)) (faults : S → ℕ) (a b c : Journal S) (xs ys : List ℕ)
    → Wrote held faults a b xs → Wrote held faults b c ys → a.failed ≡ false → c.failed ≡ true
    → (b.failed ≡ true) ⊎ (b.failed ≡ false)
    → HoldsPart (held a.sink) (held c.sink) (xs ++ ys) × Rose (faults a.sink) (faults c.sink)
parts {S} held faults a b c xs ys first second works fails (inl before) =
    let early = first.part works before in
    let same = (second.nothing before).1 in (
      subst (λ (s : S). HoldsPart (held a.sink) (held s) (xs ++ ys)) (sym same) (part_first ys early.0),
      subst (λ (s : S). Rose (faults a.sink) (faults s)) (sym same) early.1,
    )
parts held faults a b c xs ys first second works fails (inr now) =
    let late = second.part now fails in
    (part_after (first.whole now).1 late.0, rose_before (faults a.sink) (faults b.sink) (faults c.sink) first.later late.1)

-- what was written in two steps
pub then_wrote : {S : Type 0} {held : S → Option (List ℕ)} {faults : S → ℕ} {a b c : Journal S} {xs ys : List ℕ}
    → Wrote held faults a b xs → Wrote held faults b c ys → Wrote held faults a c (xs ++ ys)
then_wrote {S} {held} {faults} {a} {b} {c} {xs} {ys} first second =
    let le_first = first.later in
    let le_second = second.later in
    record {
      whole = λ works.
          let late = second.whole works in
          let early = first.whole late.0 in
          (early.0, more_after early.1 late.1);
      part = λ works fails. parts held faults a b c xs ys first second works fails (either b.failed);
      nothing = λ fails.
          let early = first.nothing fails in
          let late = second.nothing early.0 in
          (late.0, late.1 ∙ early.1);
      later = omega (arith, le_first, le_second);
    }

with_none : (held : Option (List ℕ)) → held ≡ with_bytes held []
with_none None = refl
with_none (Some held) = ap Some (sym (append-nil held))

-- nothing was written
pub nothing_wrote : {S : Type 0} (held : S → Option (List ℕ)) (faults : S → ℕ) (a : Journal S) → Wrote held faults a a []
nothing_wrote held faults a = record {
  whole = λ works. (works, record { more_held = λ told. with_none (held a.sink) });
  part = λ works fails. absurd (true≢false (sym fails ∙ works));
  nothing = λ fails. (fails, refl);
  later = omega arith;
}

-- the same bytes, said otherwise
pub as_text : {S : Type 0} {held : S → Option (List ℕ)} {faults : S → ℕ} {a b : Journal S} {xs ys : List ℕ} → xs ≡ ys
    → Wrote held faults a b xs → Wrote held faults a b ys
as_text {S} {held} {faults} {a} {b} same wrote = subst (λ (l : List ℕ). Wrote held faults a b l) same wrote

-- a call between its two lines: what was written before it, the call, and what was written after it
pub in_order : {H S : Type 0} {held : S → Option (List ℕ)} {faults : S → ℕ} {old mid called new : Journal S}
    {calls first second last : List (H × Journal S)} {host end : H} {entry : Entry}
    → Wrote held faults old mid (call_line (said entry)) → first ≡ calls → called ≡ mid
    → second ≡ first ++ (host, mid) ∷ [] → Wrote held faults called new (answer_line (said entry)) → last ≡ second
    → end ≡ host → IsOrdered held faults (old, calls) (new, last) end entry
in_order {H} {S} {held} {faults} {old} {mid} {called} {new} {calls} {first} {second} {last} {host} {end} {entry} before is_first same noted after is_last is_host =
    record {
      during = mid;
      noted = is_last ∙ noted ∙ ap (λ (l : List (H × Journal S)). l ++ (host, mid) ∷ []) is_first
          ∙ ap (λ (h : H). calls ++ (h, mid) ∷ []) (sym is_host);
      before = before;
      after = subst (λ (j : Journal S). Wrote held faults j new (answer_line (said entry))) same after;
    }

two_lines : (both : Option (Call × Answer)) → call_line both ++ answer_line both ≡ lines_said both
two_lines None = refl
two_lines (Some both) = refl

-- both lines of a call
pub wrote_both : {H S : Type 0} {held : S → Option (List ℕ)} {faults : S → ℕ} {old new : Ordered H S} {host : H} {entry : Entry}
    → IsOrdered held faults old new host entry → Wrote held faults old.0 new.0 (lines_of entry)
wrote_both {H} {S} {held} {faults} {old} {new} {host} {entry} order =
    as_text (two_lines (said entry)) (then_wrote order.before order.after)
