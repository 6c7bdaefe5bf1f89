-- The first that is due, of what was seen in parts.
use Rattle.std.proofs.Common.{◌≡◌, ◌⊎◌, ℕ, zero, suc, ◌+◌, ◌<◌, List, [], ◌∷◌, ◌++◌, length, get_or, add-one, refl, sym, ◌∙◌, ap, subst, inl, inr, arith}
use Rattle.std.specs.Prelude.{Option, Some, None}
use Rattle.booth_chain.proofs.DueListLemmas.{lt_yes, lt_no, lt_or_not}
use Rattle.booth_chain.specs.Pool.{Pool, items_at, first_node, Stands}
use Rattle.booth_chain.specs.Wheel.{IsDue, IsNotAfter}
use Rattle.booth_chain.specs.declared.slot.Slot.{Slot}
use Rattle.booth_chain.specs.declared.slot.Found.{Found}
use Rattle.booth_chain.specs.Slots.{IsIn, deadlines_of}
use Rattle.booth_chain.specs.Search.{IsFirstOf, IsFirstSeen, SlotIn, SlotNear, bucket_after, earlier_of, found_at, looks}

pub order : (a b : ℕ) → (a < b) ⊎ ((a ≡ b) ⊎ (b < a))
order zero zero = inr (inl refl)
order zero (suc b) = inl (omega arith)
order (suc a) zero = inr (inr (omega arith))
order (suc a) (suc b) = elim (order a b) [ inl lt ↦ inl (omega arith) | inr r ↦ elim r [ inl e ↦ inr (inl (ap suc e)) | inr gt ↦ inr (inr (omega arith)) ] ]

not_after_then : (d s e t f u : ℕ) → IsNotAfter d s e t → IsNotAfter e t f u → IsNotAfter d s f u
not_after_then d s e t f u (inl a) (inl b) = inl (omega arith)
not_after_then d s e t f u (inl a) (inr b) = inl (omega (arith, b.0))
not_after_then d s e t f u (inr a) (inl b) = inl (omega (arith, a.0))
not_after_then d s e t f u (inr a) (inr b) = inr (a.0 ∙ b.0, omega (arith, a.1, b.1))

-- of two that are first of their parts, the one that is not after the other is first of both
chosen : (P Q R : ℕ → Type 0) (deadlines : List (Option ℕ)) (now : ℕ) → ((s : ℕ) → R s → P s ⊎ Q s) → (f g h : Found) → IsFirstSeen P deadlines now f → IsFirstSeen Q deadlines now g → IsDue deadlines now h.slot h.deadline → IsNotAfter h.deadline h.slot f.deadline f.slot → IsNotAfter h.deadline h.slot g.deadline g.slot → IsFirstSeen R deadlines now h
chosen P Q R deadlines now parts f g h a b due before_f before_g = record {
  due = due;
  first = λ other deadline r d. elim (parts other r) [
    | inl p ↦ not_after_then h.deadline h.slot f.deadline f.slot deadline other before_f (a.first other deadline p d)
    | inr q ↦ not_after_then h.deadline h.slot g.deadline g.slot deadline other before_g (b.first other deadline q d)
  ];
}

pub first_of_both : (P Q R : ℕ → Type 0) (deadlines : List (Option ℕ)) (now : ℕ) → ((s : ℕ) → R s → P s ⊎ Q s) → (one other : Option Found) → IsFirstOf P deadlines now one → IsFirstOf Q deadlines now other → IsFirstOf R deadlines now (earlier_of one other)
first_of_both P Q R deadlines now parts None None a b = λ s d r due. elim (parts s r) [ inl p ↦ a s d p due | inr q ↦ b s d q due ]
first_of_both P Q R deadlines now parts None (Some g) a b = record {
  due = b.due;
  first = λ s d r due. elim (parts s r) [ inl p ↦ absurd (a s d p due) | inr q ↦ b.first s d q due ];
}
first_of_both P Q R deadlines now parts (Some f) None a b = record {
  due = a.due;
  first = λ s d r due. elim (parts s r) [ inl p ↦ a.first s d p due | inr q ↦ absurd (b s d q due) ];
}
first_of_both P Q R deadlines now parts (Some f) (Some g) a b =
    let goal : Option Found → Type 0 = λ o. IsFirstOf R deadlines now o in
    let pick = chosen P Q R deadlines now parts f g in
    elim (order f.deadline g.deadline) [
      | inl lt ↦ let t = lt_yes f.deadline g.deadline lt in rw t (pick f a b a.due (inr (refl, omega arith)) (inl lt))
      | inr r ↦ elim r [
        | inr gt ↦
            let t = lt_no f.deadline g.deadline (omega arith) in
            let u = lt_yes g.deadline f.deadline gt in
            rw (t, u) (pick g a b b.due (inl gt) (inr (refl, omega arith)))
        | inl e ↦
            let t = lt_no f.deadline g.deadline (omega arith) in
            let u = lt_no g.deadline f.deadline (omega arith) in
            elim (lt_or_not g.slot f.slot) [
              | inl less ↦ let v = lt_yes g.slot f.slot less in rw (t, u, v) (pick g a b b.due (inr (sym e, omega arith)) (inr (refl, omega arith)))
              | inr more ↦ let v = lt_no g.slot f.slot more in rw (t, u, v) (pick f a b a.due (inr (refl, omega arith)) (inr (e, more)))
            ]
      ]
    ]

-- one slot, as found
pub first_of_one : (deadlines : List (Option ℕ)) (now slot : ℕ) (deadline : Option ℕ) → get_or deadlines slot None ≡ deadline → IsFirstOf (λ (s : ℕ). s ≡ slot) deadlines now (found_at now slot deadline)
first_of_one deadlines now slot None e = λ s d same due.
    let read : get_or deadlines s None ≡ None = ap (λ n. get_or deadlines n None) same ∙ e in
    let set = due.set in
    absurd (cc)
first_of_one deadlines now slot (Some deadline) e =
    elim (lt_or_not now deadline) [
      | inl lt ↦ let t = lt_yes now deadline lt in rw t (λ s d same due.
          let some : Some deadline ≡ Some d = sym e ∙ ap (λ n. get_or deadlines n None) (sym same) ∙ due.set in
          let is : deadline ≡ d = cc in
          absurd (omega (arith, due.came)))
      | inr le ↦ let t = lt_no now deadline le in rw t (record {
        due = record { set = e; came = le };
        first = λ s d same due.
            let some : Some deadline ≡ Some d = sym e ∙ ap (λ n. get_or deadlines n None) (sym same) ∙ due.set in
            inr (cc, omega (arith, same));
      })
    ]

-- the walk along one list
pub record Walked (entries : List (ℕ × ℕ)) (deadlines : List (Option ℕ)) (now : ℕ) (at : Option ℕ) (first : Option Found) (count : ℕ) : Type 0 where
  pub seen : List (ℕ × ℕ)
  pub rest : List (ℕ × ℕ)
  pub whole : entries ≡ seen ++ rest
  pub here : at ≡ first_node rest
  pub many : count ≡ length seen
  pub found : IsFirstOf (SlotIn seen) deadlines now first

unfoldable pub entry_first : (entries : List (ℕ × ℕ)) (node : ℕ) → first_node entries ≡ Some node → (item : ℕ) × (rest : List (ℕ × ℕ)) × (entries ≡ (node, item) ∷ rest)
entry_first [] node e = absurd (cc)
entry_first (x ∷ rest) node e = let n : x.0 ≡ node = cc in (x.1, rest, ap (λ m. (m, x.1) ∷ rest) n)

-- the node where the walk is stands in the list
pub reached : (pool : Pool ℕ) (list : ℕ) (deadlines : List (Option ℕ)) (now : ℕ) (at : Option ℕ) (first : Option Found) (count node : ℕ) → list < length pool.lists → Walked (items_at pool list) deadlines now at first count → at ≡ Some node → Stands pool node
unfolding entry_first
reached pool list deadlines now at first count node lt w e =
    let f = entry_first w.rest node (sym w.here ∙ e) in
    record { list = list; before = w.seen; item = f.0; rest = f.1; exists = lt; place = w.whole ∙ ap (λ es. w.seen ++ es) f.2 }

pub in_right : (node item : ℕ) (xs ys : List (ℕ × ℕ)) → IsIn node item ys → IsIn node item (xs ++ ys)
in_right node item [] ys h = h
in_right node item (x ∷ xs) ys h = inr (in_right node item xs ys h)

pub in_either : (node item : ℕ) (xs ys : List (ℕ × ℕ)) → IsIn node item (xs ++ ys) → IsIn node item xs ⊎ IsIn node item ys
in_either node item [] ys h = inr h
in_either node item (x ∷ xs) ys (inl e) = inl (inl e)
in_either node item (x ∷ xs) ys (inr h) = elim (in_either node item xs ys h) [ inl l ↦ inl (inr l) | inr r ↦ inr r ]

-- the item where the walk is, is one of the list
pub item_known : (pool : Pool ℕ) (list : ℕ) (deadlines : List (Option ℕ)) (now : ℕ) (at : Option ℕ) (first : Option Found) (count node slot many : ℕ) → list < length pool.lists → Walked (items_at pool list) deadlines now at first count → at ≡ Some node → ((stands : Stands pool node) → slot ≡ stands.item) → ((n item : ℕ) → IsIn n item (items_at pool list) → item < many) → slot < many
unfolding reached entry_first
item_known pool list deadlines now at first count node slot many lt w e item known =
    let s = reached pool list deadlines now at first count node lt w e in
    known node slot (subst (λ (es : List (ℕ × ℕ)). IsIn node slot es) (sym s.place) (in_right node slot s.before ((node, s.item) ∷ s.rest) (inl (refl, item s))))

pub length-one_more : (xs : List (ℕ × ℕ)) (x : ℕ × ℕ) → length (xs ++ x ∷ []) ≡ length xs + 1
length-one_more [] x = omega arith
length-one_more (y ∷ xs) x = omega (arith, length-one_more xs x)

pub append_one : (xs : List (ℕ × ℕ)) (x : ℕ × ℕ) (ys : List (ℕ × ℕ)) → xs ++ x ∷ ys ≡ (xs ++ x ∷ []) ++ ys
append_one [] x ys = refl
append_one (y ∷ xs) x ys = ap (λ zs. y ∷ zs) (append_one xs x ys)

pub walked_on : (pool : Pool ℕ) (list : ℕ) (deadlines : List (Option ℕ)) (now : ℕ) (at : Option ℕ) (first : Option Found) (count node slot : ℕ) (deadline : Option ℕ) (found first2 : Option Found) (next : Option ℕ) (count2 : ℕ) → list < length pool.lists → Walked (items_at pool list) deadlines now at first count → at ≡ Some node → ((stands : Stands pool node) → slot ≡ stands.item) → get_or deadlines slot None ≡ deadline → found ≡ found_at now slot deadline → first2 ≡ earlier_of first found → ((stands : Stands pool node) → next ≡ first_node stands.rest) → count2 ≡ count + 1 → Walked (items_at pool list) deadlines now next first2 count2
unfolding reached entry_first
walked_on pool list deadlines now at first count node slot deadline found first2 next count2 lt w e item read found_is first_is next_is more =
    let s = reached pool list deadlines now at first count node lt w e in
    let seen = w.seen ++ (node, s.item) ∷ [] in
    let both = first_of_both (SlotIn w.seen) (λ (n : ℕ). n ≡ slot) (SlotIn seen) deadlines now
    (λ n h. elim (in_either h.0 n w.seen ((node, s.item) ∷ []) h.1) [ inl l ↦ inl (h.0, l) | inr r ↦ elim r [ inl p ↦ inr (p.1 ∙ sym (item s)) | inr f ↦ absurd f ] ])
    first (found_at now slot deadline) w.found (first_of_one deadlines now slot deadline read) in
    record {
      seen = seen;
      rest = s.rest;
      whole = s.place ∙ append_one w.seen (node, s.item) s.rest;
      here = next_is s;
      many = omega (arith, more, w.many, length-one_more w.seen (node, s.item));
      found = subst (λ (o : Option Found). IsFirstOf (SlotIn seen) deadlines now o) (sym (first_is ∙ ap (earlier_of first) found_is)) both;
    }

-- the deadline of a slot
pub deadline_read : (slots : List Slot) (slot : ℕ) (one : Slot) → slot < length slots → get_or (deadlines_of slots) slot None ≡ (get_or slots slot one).deadline
deadline_read [] slot one lt = absurd (omega arith)
deadline_read (x ∷ rest) zero one lt = refl
deadline_read (x ∷ rest) (suc slot) one lt = deadline_read rest slot one (omega arith)

-- one bucket more
pub near_more : (pool : Pool ℕ) (from step : ℕ) (deadlines : List (Option ℕ)) (now : ℕ) (first found first2 : Option Found) → IsFirstOf (SlotNear pool from step) deadlines now first → IsFirstOf (SlotIn (items_at pool (bucket_after from step))) deadlines now found → first2 ≡ earlier_of first found → IsFirstOf (SlotNear pool from (step + 1)) deadlines now first2
near_more pool from step deadlines now first found first2 a b e =
    let both = first_of_both (SlotNear pool from step) (SlotIn (items_at pool (bucket_after from step))) (SlotNear pool from (step + 1)) deadlines now
    (λ n h. elim (lt_or_not h.0 step) [
      | inl lt ↦ inl (h.0, lt, h.2)
      | inr le ↦ let same : h.0 ≡ step = omega (arith, h.1) in inr (subst (λ (k : ℕ). SlotIn (items_at pool (bucket_after from k)) n) same h.2)
    ]) first found a b in
    subst (λ (o : Option Found). IsFirstOf (SlotNear pool from (step + 1)) deadlines now o) (sym e) both

pub looks_more : (pool : Pool ℕ) (from step : ℕ) → looks pool from (step + 1) ≡ looks pool from step + 1 + length (items_at pool (bucket_after from step))
looks_more pool from step = rw add-one
