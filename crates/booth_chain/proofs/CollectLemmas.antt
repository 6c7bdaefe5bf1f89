-- What a walk along one bucket collects, and then one over the buckets.
use Rattle.std.proofs.Common.{◌≡◌, ℕ, suc, ◌+◌, ◌/◌, ◌<◌, ◌≤◌, List, [], ◌∷◌, ◌++◌, length, get_or, refl, sym, ◌∙◌, ap, subst, inl, inr, arith, append-nil}
use Rattle.std.specs.Prelude.{Option, Some, None, nat_eq, max}
use Rattle.std.specs.List.{Contains, count_by}
use Rattle.std.proofs.lemmas.List.{length-append, length-map}
use Rattle.std.proofs.lemmas.List.Elements.{Contains-append_cases, Contains-append_left, Contains-append_right, Contains-push_cases}
use Rattle.std.proofs.lemmas.List.Sums.{count_by-le-length}
use Rattle.booth_chain.specs.Pool.{Pool, items_at, first_node, Stands}
use Rattle.booth_chain.specs.Wheel.{Timer}
use Rattle.booth_chain.specs.declared.slot.Slot.{Slot}
use Rattle.booth_chain.specs.Buckets.{buckets_between, most_steps}
use Rattle.booth_chain.specs.Slots.{IsIn, IsKept, bucket_of, deadlines_of, node_at, timer_of}
use Rattle.booth_chain.specs.Search.{SlotIn, bucket_after}
use Rattle.booth_chain.specs.Draining.{AreDue, Collects, IsAfter, added_at, count_after}
use Rattle.booth_chain.proofs.DueListLemmas.{le_no, le_yes, lt_no, lt_or_not, there}
use Rattle.booth_chain.proofs.SearchLemmas.{append_one, entry_first, in_either, in_right, length-one_more}
use Rattle.booth_chain.proofs.ReachLemmas.{count_none, count_parts, distance, is_near, near_parts, near_reach, same_bucket}

-- ---- one slot

added_in : (now slot d : ℕ) (deadline : Option ℕ) → deadline ≡ Some d → d ≤ now → Contains (added_at now slot deadline) slot
added_in now slot d None e le = absurd (cc)
added_in now slot d (Some c) e le =
    let same : c ≡ d = cc in
    let t = le_yes c now (omega (arith, same)) in
    rw t (0, omega arith, refl)

record Added (now slot s : ℕ) (deadline : Option ℕ) : Type 0 where
  same : slot ≡ s
  at : ℕ
  set : deadline ≡ Some at
  came : at ≤ now

added_is : (now slot s : ℕ) (deadline : Option ℕ) → Contains (added_at now slot deadline) s → Added now slot s deadline
added_is now slot s None h = absurd (omega (arith, h.1))
added_is now slot s (Some c) h =
    elim (lt_or_not now c) [
      | inl lt ↦
          let t = le_no c now lt in
          let none : added_at now slot (Some c) ≡ [] = rw t in
          let in_none = subst (λ (slots : List ℕ). Contains slots s) none h in
          absurd (omega (arith, in_none.1))
      | inr le ↦
          let t = le_yes c now le in
          let one : added_at now slot (Some c) ≡ slot ∷ [] = rw t in
          elim (Contains-push_cases [] slot s (subst (λ (slots : List ℕ). Contains slots s) one h)) [
            | inl none ↦ absurd (omega (arith, none.1))
            | inr same ↦ record { same = same; at = c; set = refl; came = le }
          ]
    ]

few_added : (now slot : ℕ) (deadline : Option ℕ) → length (added_at now slot deadline) ≤ 1
few_added now slot None = omega arith
few_added now slot (Some c) =
    elim (lt_or_not now c) [
      | inl lt ↦ let t = le_no c now lt in rw t (omega arith)
      | inr le ↦ let t = le_yes c now le in rw t (omega arith)
    ]

-- ---- the walk along one list

pub record Gathered (entries : List (ℕ × ℕ)) (deadlines : List (Option ℕ)) (now : ℕ) (at : Option ℕ) (old new : List ℕ) (count : ℕ) : Type 0 where
  pub seen : List (ℕ × ℕ)
  pub rest : List (ℕ × ℕ)
  pub whole : entries ≡ seen ++ rest
  pub here : at ≡ first_node rest
  pub many : count ≡ length seen
  pub few : length new ≤ length old + length seen
  pub found : Collects (SlotIn seen) deadlines now old new

pub gathered_none : (entries : List (ℕ × ℕ)) (deadlines : List (Option ℕ)) (now : ℕ) (at : Option ℕ) (old : List ℕ) (count : ℕ) → at ≡ first_node entries → count ≡ 0 → Gathered entries deadlines now at old old count
gathered_none entries deadlines now at old count first none = record {
  seen = [];
  rest = entries;
  whole = refl;
  here = first;
  many = none;
  few = omega arith;
  found = record {
    kept = λ s h. h;
    added = λ s d h is. absurd (h.1);
    only = λ s h. inl h;
  };
}

unfoldable pub gathered_at : (pool : Pool ℕ) (list : ℕ) (deadlines : List (Option ℕ)) (now : ℕ) (at : Option ℕ) (old new : List ℕ) (count node : ℕ) → list < length pool.lists → Gathered (items_at pool list) deadlines now at old new count → at ≡ Some node → Stands pool node
unfolding entry_first
gathered_at pool list deadlines now at old new count node lt w e =
    let f = entry_first w.rest node (sym w.here ∙ e) in
    record { list = list; before = w.seen; item = f.0; rest = f.1; exists = lt; place = w.whole ∙ ap (λ es. w.seen ++ es) f.2 }

pub gathered_known : (pool : Pool ℕ) (list : ℕ) (deadlines : List (Option ℕ)) (now : ℕ) (at : Option ℕ) (old new : List ℕ) (count node slot many : ℕ) → list < length pool.lists → Gathered (items_at pool list) deadlines now at old new count → at ≡ Some node → ((stands : Stands pool node) → slot ≡ stands.item) → ((n item : ℕ) → IsIn n item (items_at pool list) → item < many) → slot < many
unfolding gathered_at entry_first
gathered_known pool list deadlines now at old new count node slot many lt w e item known =
    let s = gathered_at pool list deadlines now at old new count node lt w e in
    known node slot (subst (λ (es : List (ℕ × ℕ)). IsIn node slot es) (sym s.place) (in_right node slot s.before ((node, s.item) ∷ s.rest) (inl (refl, item s))))

-- there is room while some of the list is left
pub gathered_room : (pool : Pool ℕ) (list : ℕ) (deadlines : List (Option ℕ)) (now : ℕ) (at : Option ℕ) (old new : List ℕ) (count node room : ℕ) → list < length pool.lists → Gathered (items_at pool list) deadlines now at old new count → at ≡ Some node → length old + length (items_at pool list) ≤ room → length new < room
unfolding gathered_at entry_first
gathered_room pool list deadlines now at old new count node room lt w e fits =
    let s = gathered_at pool list deadlines now at old new count node lt w e in
    omega (arith, w.few, fits, ap length s.place, length-append s.before ((node, s.item) ∷ s.rest))

pub gathered_on : (pool : Pool ℕ) (list : ℕ) (deadlines : List (Option ℕ)) (now : ℕ) (at : Option ℕ) (old new : List ℕ) (count node slot : ℕ) (deadline : Option ℕ) (more : List ℕ) (next : Option ℕ) (count2 : ℕ) → list < length pool.lists → Gathered (items_at pool list) deadlines now at old new count → at ≡ Some node → ((stands : Stands pool node) → slot ≡ stands.item) → get_or deadlines slot None ≡ deadline → more ≡ new ++ added_at now slot deadline → ((stands : Stands pool node) → next ≡ first_node stands.rest) → count2 ≡ count + 1 → Gathered (items_at pool list) deadlines now next old more count2
unfolding gathered_at entry_first
gathered_on pool list deadlines now at old new count node slot deadline more next count2 lt w e item read more_is next_is counted =
    let s = gathered_at pool list deadlines now at old new count node lt w e in
    let seen = w.seen ++ (node, s.item) ∷ [] in
    let one = added_at now slot deadline in
    let both : Collects (SlotIn seen) deadlines now old (new ++ one) = record {
      kept = λ other h. Contains-append_left new one other (w.found.kept other h);
      added = λ other d h is. elim (in_either h.0 other w.seen ((node, s.item) ∷ []) h.1) [
        | inl l ↦ Contains-append_left new one other (w.found.added other d (h.0, l) is)
        | inr r ↦ elim r [
          | inl p ↦
              let same : slot ≡ other = item s ∙ sym p.1 in
              let set : deadline ≡ Some d = sym read ∙ ap (λ (n : ℕ). get_or deadlines n None) same ∙ is.set in
              Contains-append_right new one other (subst (λ (n : ℕ). Contains one n) same (added_in now slot d deadline set is.came))
          | inr none ↦ absurd none
        ]
      ];
      only = λ other h. elim (Contains-append_cases new one other h) [
        | inl l ↦ w.found.only other l
        | inr r ↦
            let a = added_is now slot other deadline r in
            inr (a.at, record { set = ap (λ (n : ℕ). get_or deadlines n None) (sym a.same) ∙ read ∙ a.set; came = a.came })
      ];
    } in
    record {
      seen = seen;
      rest = s.rest;
      whole = s.place ∙ append_one w.seen (node, s.item) s.rest;
      here = next_is s;
      many = omega (arith, counted, w.many, length-one_more w.seen (node, s.item));
      few = omega (arith, ap length more_is, length-append new one, few_added now slot deadline, w.few, length-one_more w.seen (node, s.item));
      found = subst (λ (slots : List ℕ). Collects (SlotIn seen) deadlines now old slots) (sym more_is) both;
    }

-- at its end all of the list was seen
record Whole (entries : List (ℕ × ℕ)) (deadlines : List (Option ℕ)) (now : ℕ) (old new : List ℕ) (count : ℕ) : Type 0 where
  many : count ≡ length entries
  few : length new ≤ length old + length entries
  found : Collects (SlotIn entries) deadlines now old new

none_first : (rest : List (ℕ × ℕ)) → first_node rest ≡ None → rest ≡ []
none_first [] e = refl
none_first (entry ∷ rest) e = absurd (cc)

whole_of : (entries : List (ℕ × ℕ)) (deadlines : List (Option ℕ)) (now : ℕ) (at : Option ℕ) (old new : List ℕ) (count : ℕ) → Gathered entries deadlines now at old new count → at ≡ None → Whole entries deadlines now old new count
whole_of entries deadlines now at old new count w e =
    let left = none_first w.rest (sym w.here ∙ e) in
    let all : entries ≡ w.seen = w.whole ∙ ap (λ (es : List (ℕ × ℕ)). w.seen ++ es) left ∙ append-nil w.seen in
    record {
      many = w.many ∙ ap length (sym all);
      few = omega (arith, w.few, ap length all);
      found = subst (λ (es : List (ℕ × ℕ)). Collects (SlotIn es) deadlines now old new) (sym all) w.found;
    }

-- what was collected of a bucket, in the words of the timer
pub record Bucket (timer : Timer) (step now : ℕ) (old new : List ℕ) (count : ℕ) : Type 0 where
  pub many : count ≡ count_after timer step
  pub few : length new ≤ length old + count_after timer step
  pub found : Collects (IsAfter timer step) timer.deadlines now old new

-- how many slots a bucket has
pub bucket_count : (pool : Pool ℕ) (slots : List Slot) (last swept step bucket : ℕ) (timer : Timer) → IsKept pool slots last swept → timer_of slots last swept ≡ timer → bucket ≡ bucket_after (swept / 128) step → length (items_at pool bucket) ≡ count_after timer step
bucket_count pool slots last swept step bucket timer k is bucket_is =
    subst (λ (t : Timer). length (items_at pool bucket) ≡ count_after t step) is
    (subst (λ (b : ℕ). length (items_at pool bucket) ≡ count_by (λ d. nat_eq (bucket_of swept d) b) (deadlines_of slots)) bucket_is (k.bucketed.counted bucket))

pub bucket_whole : (pool : Pool ℕ) (slots : List Slot) (last swept step bucket now : ℕ) (timer : Timer) (at : Option ℕ) (old new : List ℕ) (count : ℕ) → IsKept pool slots last swept → timer_of slots last swept ≡ timer → bucket ≡ bucket_after (swept / 128) step → Gathered (items_at pool bucket) (deadlines_of slots) now at old new count → at ≡ None → Bucket timer step now old new count
bucket_whole pool slots last swept step bucket now timer at old new count k is bucket_is w e =
    let all = whole_of (items_at pool bucket) (deadlines_of slots) now at old new count w e in
    let long = bucket_count pool slots last swept step bucket timer k is bucket_is in
    let ds = deadlines_of slots in
    let found : Collects (IsAfter (timer_of slots last swept) step) ds now old new = record {
      kept = all.found.kept;
      added = λ slot d after due.
          let lt : slot < length slots = omega (arith, there ds slot d due.set, length-map slots (λ (s : Slot). s.deadline)) in
          all.found.added slot d (node_at slots slot, subst (λ (list : ℕ). IsIn (node_at slots slot) slot (items_at pool list)) (after ∙ sym bucket_is) (k.bucketed.stands slot lt)) due;
      only = all.found.only;
    } in
    record {
      many = all.many ∙ long;
      few = omega (arith, all.few, long);
      found = subst (λ (t : Timer). Collects (IsAfter t step) t.deadlines now old new) is found;
    }

-- ---- the walk over the buckets

-- the slot's deadline is in one of so many buckets
abbrev pub IsNear : Timer → ℕ → ℕ → Type 0
IsNear timer many slot = distance timer.swept (get_or timer.deadlines slot None) < many

-- how many slots have their deadline in one of so many buckets
abbrev pub near_count : Timer → ℕ → ℕ
near_count timer many = count_by (is_near timer.swept many) timer.deadlines

pub near_none : (timer : Timer) → near_count timer 0 ≡ 0
near_none timer = count_none (is_near timer.swept 0) timer.deadlines (λ d. lt_no (distance timer.swept d) 0 (omega arith))

pub near_next : (timer : Timer) (step : ℕ) → step < 512 → near_count timer (step + 1) ≡ near_count timer step + count_after timer step
near_next timer step lt =
    let one : suc step ≡ step + 1 = omega arith in
    subst (λ (many : ℕ). near_count timer many ≡ near_count timer step + count_after timer step) one
    (count_parts (is_near timer.swept (suc step)) (is_near timer.swept step) (λ d. nat_eq (bucket_of timer.swept d) (bucket_after (timer.swept / 128) step)) timer.deadlines (near_parts timer.swept step lt))

pub near_few : (timer : Timer) (many : ℕ) → near_count timer many ≤ length timer.deadlines
near_few timer many = count_by-le-length (is_near timer.swept many) timer.deadlines

pub collects_none : (timer : Timer) (now : ℕ) (slots : List ℕ) → slots ≡ [] → Collects (IsNear timer 0) timer.deadlines now [] slots
collects_none timer now slots e = record {
  kept = λ s h. absurd (omega (arith, h.1));
  added = λ s d near is. absurd (omega (arith, near));
  only = λ s h. inl (subst (λ (xs : List ℕ). Contains xs s) e h);
}

-- a slot that is due, and as far as this bucket, is in it
in_bucket : (swept step : ℕ) (deadline : Option ℕ) (d : ℕ) → deadline ≡ Some d → step < 512 → distance swept deadline ≡ step → bucket_of swept deadline ≡ bucket_after (swept / 128) step
in_bucket swept step None d e lt far = absurd (cc)
in_bucket swept step (Some c) d e lt far = same_bucket (swept / 128) (max c swept / 128) step (omega arith) lt far

pub collects_more : (timer : Timer) (now step : ℕ) (middle new : List ℕ) → step < 512 → Collects (IsNear timer step) timer.deadlines now [] middle → Collects (IsAfter timer step) timer.deadlines now middle new → Collects (IsNear timer (step + 1)) timer.deadlines now [] new
collects_more timer now step middle new lt a b = record {
  kept = λ s h. absurd (omega (arith, h.1));
  added = λ s d near is. elim (lt_or_not (distance timer.swept (get_or timer.deadlines s None)) step) [
    | inl less ↦ b.kept s (a.added s d less is)
    | inr le ↦ b.added s d (in_bucket timer.swept step (get_or timer.deadlines s None) d is.set lt (omega (arith, near, le))) is
  ];
  only = λ s h. elim (b.only s h) [ inl old ↦ a.only s old | inr due ↦ inr due ];
}

-- what is due is within reach
near_due : (swept now : ℕ) (deadline : Option ℕ) (d : ℕ) → deadline ≡ Some d → d ≤ now → swept ≤ now → distance swept deadline < buckets_between swept now
near_due swept now None d e le order = absurd (cc)
near_due swept now (Some c) d e le order = let same : c ≡ d = cc in omega (arith, same)

pub collects_due : (timer : Timer) (now : ℕ) (slots : List ℕ) → timer.swept ≤ now → Collects (IsNear timer (buckets_between timer.swept now)) timer.deadlines now [] slots → AreDue timer.deadlines now slots
collects_due timer now slots order c = record {
  all = λ s d is. c.added s d (near_due timer.swept now (get_or timer.deadlines s None) d is.set is.came order) is;
  only = λ s h. elim (c.only s h) [ inl none ↦ absurd (omega (arith, none.1)) | inr due ↦ due ];
}

pub near_steps : (timer : Timer) (now : ℕ) → timer.swept ≤ now → buckets_between timer.swept now + near_count timer (buckets_between timer.swept now) ≤ most_steps timer now
near_steps timer now order = omega (arith, near_reach timer.swept now order timer.deadlines)
