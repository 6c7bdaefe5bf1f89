-- Which slots are looked at, and how many looks that takes.
use Rattle.std.proofs.Common.{◌≡◌, ℕ, zero, suc, Bool, true, false, ◌||◌, cond, ◌+◌, ◌-◌, ◌%◌, ◌/◌, ◌<◌, ◌≤◌, List, [], ◌∷◌, length, get_or, set, refl, sym, ◌∙◌, ap, subst, inl, inr, arith}
use Rattle.std.specs.Prelude.{Option, Some, None, nat_eq, nat_lt, nat_le, max}
use Rattle.std.specs.List.{count_by, list_any, range_with_len}
use Rattle.std.proofs.lemmas.List.{length-map}
use Rattle.std.proofs.lemmas.List.Sums.{sum_by-cons, sum_by-le-sum_by}
use Rattle.std.proofs.lemmas.List.Folds.{list_any_at}
use Rattle.std.proofs.lemmas.List.FromFn.{get_or-range_with_len, length-range_with_len}
use Rattle.std.proofs.Math.Bool.{or-true}
use Rattle.booth_chain.specs.Pool.{Pool, items_at}
use Rattle.booth_chain.specs.Wheel.{Timer, IsDue, NothingDue, SlotDue}
use Rattle.booth_chain.specs.declared.slot.Slot.{Slot}
use Rattle.booth_chain.specs.declared.slot.Found.{Found}
use Rattle.booth_chain.specs.Buckets.{buckets_between, is_in_reach, most_steps}
use Rattle.booth_chain.specs.Slots.{IsBucketed, IsIn, IsKept, bucket_of, deadline_at, deadlines_of, node_at, timer_of}
use Rattle.booth_chain.specs.Search.{IsFirstOf, SlotNear, bucket_after, looks}
use Rattle.booth_chain.proofs.DueListLemmas.{lt_yes, lt_no, le_yes, eq_yes, lt_or_not, there}
use Rattle.booth_chain.proofs.NodesLemmas.{same_or_not}
use Rattle.booth_chain.proofs.MoveLemmas.{eq_no, one_if}

-- how many buckets after that of the latest sweep a deadline stands
abbrev pub distance : ℕ → Option ℕ → ℕ
distance swept None = 512
distance swept (Some deadline) = (max deadline swept / 128 - swept / 128) % 512

-- its bucket is looked at
abbrev pub is_near : ℕ → ℕ → Option ℕ → Bool
is_near swept many deadline = nat_lt (distance swept deadline) many

-- two counts are one where their tests agree, and add up where they part a third
count_same : (p q : Option ℕ → Bool) (ds : List (Option ℕ)) → ((s : ℕ) → s < length ds → p (get_or ds s None) ≡ q (get_or ds s None)) → count_by p ds ≡ count_by q ds
count_same p q [] same = refl
count_same p q (d ∷ rest) same =
    let head : one_if (p d) ≡ one_if (q d) = ap (λ b. one_if b) (same 0 (omega arith)) in
    omega (arith, head, sum_by-cons (λ o. cond (p o) 1 0) d rest, sum_by-cons (λ o. cond (q o) 1 0) d rest, count_same p q rest (λ s lt. same (suc s) (omega arith)))

pub count_parts : (p q r : Option ℕ → Bool) (ds : List (Option ℕ)) → ((d : Option ℕ) → one_if (p d) ≡ one_if (q d) + one_if (r d)) → count_by p ds ≡ count_by q ds + count_by r ds
count_parts p q r [] parts = refl
count_parts p q r (d ∷ rest) parts =
    omega (arith, parts d, sum_by-cons (λ o. cond (p o) 1 0) d rest, sum_by-cons (λ o. cond (q o) 1 0) d rest, sum_by-cons (λ o. cond (r o) 1 0) d rest, count_parts p q r rest parts)

pub count_none : (p : Option ℕ → Bool) (ds : List (Option ℕ)) → ((d : Option ℕ) → p d ≡ false) → count_by p ds ≡ 0
count_none p [] none = refl
count_none p (d ∷ rest) none =
    let head : one_if (p d) ≡ 0 = ap (λ b. one_if b) (none d) in
    omega (arith, head, sum_by-cons (λ o. cond (p o) 1 0) d rest, count_none p rest none)

pub same_bucket : (from m j : ℕ) → from ≤ m → j < 512 → (m - from) % 512 ≡ j → m % 512 ≡ (from + j) % 512
same_bucket from m j le lt e = omega arith

same_distance : (from m j : ℕ) → from ≤ m → j < 512 → m % 512 ≡ (from + j) % 512 → (m - from) % 512 ≡ j
same_distance from m j le lt e = omega arith

-- one bucket more is one distance more
by_number : (distance bucket after j : ℕ) → (distance ≡ j → bucket ≡ after) → (bucket ≡ after → distance ≡ j) → one_if (nat_lt distance (suc j)) ≡ one_if (nat_lt distance j) + one_if (nat_eq bucket after)
by_number distance bucket after j there back =
    elim (lt_or_not distance j) [
      | inl lt ↦
          let t = lt_yes distance (suc j) (omega arith) in
          let u = lt_yes distance j lt in
          let v = eq_no bucket after (λ e. let d = back e in omega arith) in
          rw (t, u, v)
      | inr le ↦
          let u = lt_no distance j le in
          elim (same_or_not distance j) [
            | inl e ↦ let t = lt_yes distance (suc j) (omega arith) in let v = eq_yes bucket after (there e) in rw (t, u, v)
            | inr ne ↦ let t = lt_no distance (suc j) (omega arith) in let v = eq_no bucket after (λ b. ne (back b)) in rw (t, u, v)
          ]
    ]

pub near_parts : (swept j : ℕ) → j < 512 → (d : Option ℕ) → one_if (is_near swept (suc j) d) ≡ one_if (is_near swept j d) + one_if (nat_eq (bucket_of swept d) (bucket_after (swept / 128) j))
near_parts swept j lt None =
    by_number 512 512 (bucket_after (swept / 128) j) j (λ e. omega arith) (λ e. omega arith)
near_parts swept j lt (Some deadline) =
    let m = max deadline swept / 128 in
    let le : swept / 128 ≤ m = omega arith in
    by_number ((m - swept / 128) % 512) (m % 512) (bucket_after (swept / 128) j) j (same_bucket (swept / 128) m j le lt) (same_distance (swept / 128) m j le lt)

pub looks_counted : (pool : Pool ℕ) (slots : List Slot) (swept many : ℕ) → IsBucketed pool slots swept → many ≤ 512 → looks pool (swept / 128) many ≡ many + count_by (is_near swept many) (deadlines_of slots)
looks_counted pool slots swept zero b le =
    let none = count_none (is_near swept 0) (deadlines_of slots) (λ d. lt_no (distance swept d) 0 (omega arith)) in
    omega arith
looks_counted pool slots swept (suc many) b le =
    let inner = looks_counted pool slots swept many b (omega arith) in
    let after = bucket_after (swept / 128) many in
    let parts = count_parts (is_near swept (suc many)) (is_near swept many) (λ d. nat_eq (bucket_of swept d) after) (deadlines_of slots) (near_parts swept many (omega arith)) in
    omega (arith, inner, parts, b.counted after)

-- every slot that is due stands near
all_near : (pool : Pool ℕ) (slots : List Slot) (swept now slot deadline : ℕ) → IsBucketed pool slots swept → swept ≤ now → slot < length (deadlines_of slots) → IsDue (deadlines_of slots) now slot deadline → SlotNear pool (swept / 128) (buckets_between swept now) slot
all_near pool slots swept now slot deadline b order lt due =
    let m = max deadline swept / 128 in
    let le : swept / 128 ≤ m = omega arith in
    let step = (m - swept / 128) % 512 in
    let lt2 : slot < length slots = omega (arith, length-map slots (λ (s : Slot). s.deadline)) in
    let few : step < buckets_between swept now = omega (arith, due.came) in
    let bucket : bucket_of swept (deadline_at slots slot) ≡ bucket_after (swept / 128) step = ap (bucket_of swept) due.set ∙ same_bucket (swept / 128) m step le (omega arith) refl in
    (step, few, (node_at slots slot, subst (λ (l : ℕ). IsIn (node_at slots slot) slot (items_at pool l)) bucket (b.stands slot lt2)))

seen_more : (P Q : ℕ → Type 0) (deadlines : List (Option ℕ)) (now : ℕ) (first : Option Found) → ((slot deadline : ℕ) → Q slot → IsDue deadlines now slot deadline → P slot) → IsFirstOf P deadlines now first → IsFirstOf Q deadlines now first
seen_more P Q deadlines now None more f = λ s d q due. f s d (more s d q due) due
seen_more P Q deadlines now (Some found) more f = record { due = f.due; first = λ s d q due. f.first s d (more s d q due) due }

-- a later sweep changes no bucket where nothing is due
bucket_later : (swept now : ℕ) (d : Option ℕ) → swept ≤ now → ((deadline : ℕ) → d ≡ Some deadline → now < deadline) → bucket_of now d ≡ bucket_of swept d
bucket_later swept now None order later = refl
bucket_later swept now (Some deadline) order later =
    let lt = later deadline refl in
    let same : max deadline now ≡ max deadline swept = omega arith in
    ap (λ m. (m / 128) % 512) same

pub kept_swept : (pool : Pool ℕ) (slots : List Slot) (last swept now : ℕ) (old : Timer) → IsKept pool slots last swept → timer_of slots last swept ≡ old → old.last ≤ now → ((slot deadline : ℕ) → IsDue old.deadlines now slot deadline → ⊥) → IsKept pool slots now now
kept_swept pool slots last swept now old k is later none =
    let order : swept ≤ now = omega (arith, k.order, ap (λ (t : Timer). t.last) is) in
    let ds = deadlines_of slots in
    let not_due : (s d : ℕ) → get_or ds s None ≡ Some d → now < d =
    λ s d e. elim (lt_or_not now d) [ inl lt ↦ lt | inr le ↦ absurd (none s d (subst (λ (t : Timer). IsDue t.deadlines now s d) is (record { set = e; came = le }))) ] in
    let same : (s : ℕ) → bucket_of now (get_or ds s None) ≡ bucket_of swept (get_or ds s None) = λ s. bucket_later swept now (get_or ds s None) order (not_due s) in
    record {
      order = omega arith;
      bucketed = record {
        lists = k.bucketed.lists;
        few = k.bucketed.few;
        stands = λ s lt. subst (λ (l : ℕ). IsIn (node_at slots s) s (items_at pool l)) (sym (same s)) (k.bucketed.stands s lt);
        known = k.bucketed.known;
        counted = λ list. k.bucketed.counted list ∙ count_same (λ d. nat_eq (bucket_of swept d) list) (λ d. nat_eq (bucket_of now d) list) ds (λ s _. ap (λ b. nat_eq b list) (sym (same s)));
      };
    }

pub slot_due : (old : Timer) (now : ℕ) (found : Found) (cleared new : Timer) → IsFirstOf (λ (s : ℕ). s < length old.deadlines) old.deadlines now (Some found) → cleared ≡ record { deadlines = set old.deadlines found.slot None; last = old.last; swept = old.swept } → new ≡ record { deadlines = cleared.deadlines; last = now; swept = cleared.swept } → SlotDue old now found.slot new
slot_due old now found cleared new first clear ask =
    let timer : List (Option ℕ) → ℕ → Timer = λ ds s. record { deadlines = ds; last = now; swept = s } in
    record {
      deadline = found.deadline;
      due = first.due;
      first = λ other d h. first.first other d (there old.deadlines other d h.set) h;
      new_is = ask ∙ ap (λ (t : Timer). timer t.deadlines t.swept) clear;
    }

pub nothing_due : (old : Timer) (now : ℕ) (new : Timer) → IsFirstOf (λ (s : ℕ). s < length old.deadlines) old.deadlines now None → new ≡ record { deadlines = old.deadlines; last = now; swept = now } → NothingDue old now new
nothing_due old now new first is = record { none = λ s d h. first s d (there old.deadlines s d h.set) h; new_is = is }

pub find_first : (pool : Pool ℕ) (slots given : List Slot) (last swept now many : ℕ) (old : Timer) (first : Option Found) → IsKept pool slots last swept → timer_of slots last swept ≡ old → old.last ≤ now → given ≡ slots → many ≡ buckets_between swept now → IsFirstOf (SlotNear pool (swept / 128) many) (deadlines_of given) now first → IsFirstOf (λ (s : ℕ). s < length old.deadlines) old.deadlines now first
find_first pool slots given last swept now many old first k is later same many_is found =
    let order : swept ≤ now = omega (arith, k.order, ap (λ (t : Timer). t.last) is) in
    let here : IsFirstOf (SlotNear pool (swept / 128) (buckets_between swept now)) (deadlines_of slots) now first =
    subst (λ (m : ℕ). IsFirstOf (SlotNear pool (swept / 128) m) (deadlines_of slots) now first) many_is
    (subst (λ (xs : List Slot). IsFirstOf (SlotNear pool (swept / 128) many) (deadlines_of xs) now first) same found) in
    subst (λ (t : Timer). IsFirstOf (λ (s : ℕ). s < length t.deadlines) t.deadlines now first) is
    (seen_more (SlotNear pool (swept / 128) (buckets_between swept now)) (λ (s : ℕ). s < length (deadlines_of slots)) (deadlines_of slots) now first (λ s d lt due. all_near pool slots swept now s d k.bucketed order lt due) here)

-- the test of a bucket against that of a deadline
same_span : ℕ → ℕ → Bool
same_span deadline span = nat_eq ((deadline / 128) % 512) (span % 512)

at_most_one : (b : Bool) → one_if b ≤ 1
at_most_one true = omega arith
at_most_one false = omega arith

-- a deadline whose bucket is looked at is in reach
near_in_reach : (swept now : ℕ) → swept ≤ now → (d : Option ℕ) → one_if (is_near swept (buckets_between swept now) d) ≤ one_if (is_in_reach swept now d)
unfolding same_span
near_in_reach swept now order None =
    let t = lt_no 512 (buckets_between swept now) (omega arith) in
    rw t (omega arith)
near_in_reach swept now order (Some deadline) =
    let near = is_near swept (buckets_between swept now) (Some deadline) in
    let spans = range_with_len (swept / 128) (now / 128 - swept / 128 + 1) in
    let step = (max deadline swept / 128 - swept / 128) % 512 in
    elim (lt_or_not swept deadline) [
      | inr le ↦
          let t = le_yes deadline swept le in
          let reached : is_in_reach swept now (Some deadline) ≡ true = ap (λ b. b || list_any (same_span deadline) spans) t in
          omega (arith, at_most_one near, ap (λ b. one_if b) reached)
      | inl lt ↦ elim (lt_or_not step (buckets_between swept now)) [
        | inr far ↦ let t = lt_no step (buckets_between swept now) far in rw t (omega arith)
        | inl close ↦
            let same : (deadline / 128) % 512 ≡ (swept / 128 + step) % 512 = omega (arith, lt, order) in
            let read = get_or-range_with_len (swept / 128) (now / 128 - swept / 128 + 1) step 0 (omega arith) in
            let here : same_span deadline (get_or spans step 0) ≡ true = ap (same_span deadline) read ∙ eq_yes ((deadline / 128) % 512) ((swept / 128 + step) % 512) same in
            let some = list_any_at (same_span deadline) spans step 0 (omega (arith, length-range_with_len (swept / 128) (now / 128 - swept / 128 + 1))) here in
            let reached : is_in_reach swept now (Some deadline) ≡ true = ap (λ b. nat_le deadline swept || b) some ∙ or-true (nat_le deadline swept) in
            omega (arith, at_most_one near, ap (λ b. one_if b) reached)
      ]
    ]

-- so many deadlines are in reach as are in the buckets that are looked at, or more
pub near_reach : (swept now : ℕ) → swept ≤ now → (deadlines : List (Option ℕ)) → count_by (is_near swept (buckets_between swept now)) deadlines ≤ count_by (is_in_reach swept now) deadlines
near_reach swept now order deadlines =
    sum_by-le-sum_by (λ d. cond (is_near swept (buckets_between swept now) d) 1 0) (λ d. cond (is_in_reach swept now d) 1 0) deadlines (near_in_reach swept now order)

pub find_steps : (pool : Pool ℕ) (slots : List Slot) (last swept now many : ℕ) (old : Timer) → IsKept pool slots last swept → timer_of slots last swept ≡ old → old.last ≤ now → many ≡ buckets_between swept now → looks pool (swept / 128) many ≤ most_steps old now
find_steps pool slots last swept now many old k is later many_is =
    let few : buckets_between swept now ≤ 512 = omega arith in
    let order : swept ≤ now = omega (arith, k.order, ap (λ (t : Timer). t.last) is) in
    let exact = ap (looks pool (swept / 128)) many_is ∙ looks_counted pool slots swept (buckets_between swept now) k.bucketed few in
    let fewer = near_reach swept now order (deadlines_of slots) in
    omega (arith, exact, fewer, ap (λ (t : Timer). most_steps t now) is)
