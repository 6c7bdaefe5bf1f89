-- A slot moves to the bucket of another deadline.
use Rattle.std.proofs.Common.{◌≡◌, ◌≢◌, ◌⊎◌, ℕ, zero, suc, Bool, false, cond, ◌+◌, ◌-◌, ◌^◌, ◌<◌, List, [], ◌∷◌, ◌++◌, length, get_or, set, replicate, length-append, refl, sym, ◌∙◌, ap, subst, inl, inr, arith, get_or-set_same, get_or-set_other, length-set}
use Rattle.std.specs.Prelude.{Option, Some, None, nat_eq}
use Rattle.std.specs.List.{count_by}
use Rattle.std.proofs.lemmas.List.{map-set, length-map, map-append}
use Rattle.std.proofs.lemmas.List.Sums.{sum_by-set, sum_by_push}
use Rattle.std.proofs.lemmas.Bool.Decides.{nat_tests}
use Rattle.booth_chain.specs.Pool.{Pool, items_at, Stands, Pushes, Removes}
use Rattle.booth_chain.specs.Wheel.{Timer}
use Rattle.booth_chain.specs.declared.slot.Slot.{Slot}
use Rattle.booth_chain.specs.Slots.{AreUnset, IsIn, IsKept, bucket_of, deadline_at, deadlines_of, node_at, timer_of}
use Rattle.booth_chain.proofs.DueListLemmas.{eq_yes, lt_or_not}
use Rattle.booth_chain.proofs.NodesLemmas.{same_or_not}
use Rattle.booth_chain.proofs.SearchLemmas.{in_right, in_either, length-one_more}

pub eq_no : (a b : ℕ) → a ≢ b → nat_eq a b ≡ false
eq_no a b ne = grind (arith, nat_tests)

-- a test as a number
abbrev pub one_if : Bool → ℕ
one_if b = cond b 1 0

-- one where both lists are one, and else none
pub one_where : ℕ → ℕ → ℕ
one_where bucket list = cond (nat_eq bucket list) 1 0

by_list : (P : ℕ → List (ℕ × ℕ) → Type 0) (lists : List (List (ℕ × ℕ))) (list : ℕ) (entries : List (ℕ × ℕ)) → list < length lists → P list entries → ((other : ℕ) → other ≢ list → P other (get_or lists other [])) → (other : ℕ) → P other (get_or (set lists list entries) other [])
by_list P lists list entries lt here others other =
    elim (same_or_not other list) [
      | inl e ↦ subst (λ (k : ℕ). P k (get_or (set lists list entries) k [])) (sym e) (subst (P list) (sym (get_or-set_same lists list entries [] lt)) here)
      | inr ne ↦ subst (P other) (sym (get_or-set_other lists list other entries [] ne)) (others other ne)
    ]

pub record InSplit (node item : ℕ) (entries : List (ℕ × ℕ)) : Type 0 where
  pub before : List (ℕ × ℕ)
  pub rest : List (ℕ × ℕ)
  pub whole : entries ≡ before ++ (node, item) ∷ rest

in_split : (node item : ℕ) (entries : List (ℕ × ℕ)) → IsIn node item entries → InSplit node item entries
in_split node item [] h = absurd h
in_split node item (x ∷ xs) (inl e) =
    let pair : ℕ → ℕ → ℕ × ℕ = λ a b. (a, b) in
    let same : x ≡ (node, item) = ap (λ n. pair n x.1) (sym e.0) ∙ ap (pair node) (sym e.1) in
    record { before = []; rest = xs; whole = ap (λ y. y ∷ xs) same }
in_split node item (x ∷ xs) (inr h) =
    let s = in_split node item xs h in
    record { before = x ∷ s.before; rest = s.rest; whole = ap (λ ys. x ∷ ys) s.whole }

in_rest : (node item n i : ℕ) (xs ys : List (ℕ × ℕ)) → i ≢ item → IsIn n i (xs ++ (node, item) ∷ ys) → IsIn n i (xs ++ ys)
in_rest node item n i [] ys ne (inl e) = absurd (ne e.1)
in_rest node item n i [] ys ne (inr h) = h
in_rest node item n i (x ∷ xs) ys ne (inl e) = inl e
in_rest node item n i (x ∷ xs) ys ne (inr h) = inr (in_rest node item n i xs ys ne h)

in_back : (node item n i : ℕ) (xs ys : List (ℕ × ℕ)) → IsIn n i (xs ++ ys) → IsIn n i (xs ++ (node, item) ∷ ys)
in_back node item n i [] ys h = inr h
in_back node item n i (x ∷ xs) ys (inl e) = inl e
in_back node item n i (x ∷ xs) ys (inr h) = inr (in_back node item n i xs ys h)

in_left : (n i : ℕ) (xs ys : List (ℕ × ℕ)) → IsIn n i xs → IsIn n i (xs ++ ys)
in_left n i [] ys h = absurd h
in_left n i (x ∷ xs) ys (inl e) = inl e
in_left n i (x ∷ xs) ys (inr h) = inr (in_left n i xs ys h)

length-middle : (x : ℕ × ℕ) (xs ys : List (ℕ × ℕ)) → length (xs ++ x ∷ ys) ≡ length (xs ++ ys) + 1
length-middle x [] ys = omega arith
length-middle x (y ∷ xs) ys = omega (arith, length-middle x xs ys)

-- what a move does to the lists
pub record Moved (pool : Pool ℕ) (item from : ℕ) (node to : ℕ) (new : Pool ℕ) : Type 0 where
  pub lists : length new.lists ≡ length pool.lists
  pub kept : (list n i : ℕ) → i ≢ item → IsIn n i (items_at pool list) → IsIn n i (items_at new list)
  pub back : (list n i : ℕ) → IsIn n i (items_at new list) → (i ≡ item) ⊎ IsIn n i (items_at pool list)
  pub there : IsIn node item (items_at new to)
  pub counts : (list : ℕ) → length (items_at new list) + one_where from list ≡ length (items_at pool list) + one_where to list

pub moved : (pool : Pool ℕ) (old_node : ℕ) (item : ℕ) (middle : Pool ℕ) (to node : ℕ) (new : Pool ℕ) → (at : Stands pool old_node) → at.item ≡ item → Removes pool old_node item middle → to < length pool.lists → Pushes middle to node item new → Moved pool item at.list node to new
unfolding one_where
moved pool old_node item middle to node new at item_is removes lt pushes =
    let gone = removes.lists at in
    let lt2 : to < length middle.lists = omega (arith, ap length gone, length-set pool.lists at.list (at.before ++ at.rest)) in
    let place : items_at pool at.list ≡ at.before ++ (old_node, item) ∷ at.rest = at.place ∙ ap (λ i. at.before ++ (old_node, i) ∷ at.rest) item_is in
    let first = by_list (λ list es. ((n i : ℕ) → i ≢ item → IsIn n i (items_at pool list) → IsIn n i es) × (((n i : ℕ) → IsIn n i es → IsIn n i (items_at pool list)) × (length es + cond (nat_eq at.list list) 1 0 ≡ length (items_at pool list)))) pool.lists at.list (at.before ++ at.rest) at.exists (
      (λ n i ne h. in_rest old_node item n i at.before at.rest ne (subst (λ (es : List (ℕ × ℕ)). IsIn n i es) place h)),
      (
        (λ n i h. subst (λ (es : List (ℕ × ℕ)). IsIn n i es) (sym place) (in_back old_node item n i at.before at.rest h)),
        (let t = eq_yes at.list at.list refl in rw t (omega (arith, ap length place, length-middle (old_node, item) at.before at.rest))),
      ),
    )
    (λ other ne. ((λ n i _ h. h), ((λ n i h. h), (let t = eq_no at.list other (λ e. ne (sym e)) in rw t (omega arith))))) in
    let first_at : (list : ℕ) → ((n i : ℕ) → i ≢ item → IsIn n i (items_at pool list) → IsIn n i (items_at middle list)) × (((n i : ℕ) → IsIn n i (items_at middle list) → IsIn n i (items_at pool list)) × (length (items_at middle list) + cond (nat_eq at.list list) 1 0 ≡ length (items_at pool list))) =
    λ list. subst (λ (ls : List (List (ℕ × ℕ))). ((n i : ℕ) → i ≢ item → IsIn n i (items_at pool list) → IsIn n i (get_or ls list [])) × (((n i : ℕ) → IsIn n i (get_or ls list []) → IsIn n i (items_at pool list)) × (length (get_or ls list []) + cond (nat_eq at.list list) 1 0 ≡ length (items_at pool list)))) (sym gone) (first list) in
    let second = by_list (λ list es. ((n i : ℕ) → IsIn n i (items_at middle list) → IsIn n i es) × (((n i : ℕ) → IsIn n i es → (i ≡ item) ⊎ IsIn n i (items_at middle list)) × (length es ≡ length (items_at middle list) + cond (nat_eq to list) 1 0))) middle.lists to (items_at middle to ++ (node, item) ∷ []) lt2 (
      (λ n i h. in_left n i (items_at middle to) ((node, item) ∷ []) h),
      (
        (λ n i h. elim (in_either n i (items_at middle to) ((node, item) ∷ []) h) [ inl l ↦ inr l | inr r ↦ elim r [ inl e ↦ inl e.1 | inr f ↦ absurd f ] ]),
        (let t = eq_yes to to refl in rw t (length-one_more (items_at middle to) (node, item))),
      ),
    )
    (λ other ne. ((λ n i h. h), ((λ n i h. inr h), (let t = eq_no to other (λ e. ne (sym e)) in rw t (omega arith))))) in
    let second_at : (list : ℕ) → ((n i : ℕ) → IsIn n i (items_at middle list) → IsIn n i (items_at new list)) × (((n i : ℕ) → IsIn n i (items_at new list) → (i ≡ item) ⊎ IsIn n i (items_at middle list)) × (length (items_at new list) ≡ length (items_at middle list) + cond (nat_eq to list) 1 0)) =
    λ list. subst (λ (ls : List (List (ℕ × ℕ))). ((n i : ℕ) → IsIn n i (items_at middle list) → IsIn n i (get_or ls list [])) × (((n i : ℕ) → IsIn n i (get_or ls list []) → (i ≡ item) ⊎ IsIn n i (items_at middle list)) × (length (get_or ls list []) ≡ length (items_at middle list) + cond (nat_eq to list) 1 0))) (sym pushes.lists) (second list) in
    record {
      lists = ap length pushes.lists ∙ length-set middle.lists to _ ∙ ap length gone ∙ length-set pool.lists at.list _;
      kept = λ list n i ne h. (second_at list).0 n i ((first_at list).0 n i ne h);
      back = λ list n i h. elim ((second_at list).1.0 n i h) [ inl e ↦ inl e | inr m ↦ inr ((first_at list).1.0 n i m) ];
      there = subst (λ (ls : List (List (ℕ × ℕ))). IsIn node item (get_or ls to [])) (sym pushes.lists) (subst (λ (es : List (ℕ × ℕ)). IsIn node item es) (sym (get_or-set_same middle.lists to (items_at middle to ++ (node, item) ∷ []) [] lt2)) (in_right node item (items_at middle to) ((node, item) ∷ []) (inl (refl, refl))));
      counts = λ list. omega (arith, (first_at list).1.1, (second_at list).1.1);
    }

pub bucket_below : (swept : ℕ) (deadline : Option ℕ) → bucket_of swept deadline < 513
bucket_below swept None = omega arith
bucket_below swept (Some deadline) = omega arith

-- the node of a slot stands in its bucket
pub record SlotStands (pool : Pool ℕ) (slots : List Slot) (swept slot node : ℕ) : Type 0 where
  pub stands : Stands pool node
  pub item_is : stands.item ≡ slot
  pub list_is : stands.list ≡ bucket_of swept (deadline_at slots slot)

node_read : (slots : List Slot) (slot : ℕ) (one : Slot) → slot < length slots → one ≡ get_or slots slot one → node_at slots slot ≡ one.node
node_read [] slot one lt e = absurd (omega arith)
node_read (x ∷ rest) zero one lt e = ap (λ (s : Slot). s.node) (sym e)
node_read (x ∷ rest) (suc slot) one lt e = node_read rest slot one (omega arith) e

pub slot_stands : (pool : Pool ℕ) (slots : List Slot) (last swept slot : ℕ) (one : Slot) (old : Timer) → IsKept pool slots last swept → timer_of slots last swept ≡ old → slot < length old.deadlines → one ≡ get_or slots slot one → SlotStands pool slots swept slot one.node
slot_stands pool slots last swept slot one old k is lt read =
    let lt2 : slot < length slots = omega (arith, ap (λ (t : Timer). length t.deadlines) is, length-map slots (λ (s : Slot). s.deadline)) in
    let list = bucket_of swept (deadline_at slots slot) in
    let split = in_split one.node slot (items_at pool list) (subst (λ (n : ℕ). IsIn n slot (items_at pool list)) (node_read slots slot one lt2 read) (k.bucketed.stands slot lt2)) in
    record {
      stands = record { list = list; before = split.before; item = slot; rest = split.rest; exists = omega (arith, k.bucketed.lists, bucket_below swept (deadline_at slots slot)); place = split.whole };
      item_is = refl;
      list_is = refl;
    }

node_set_same : (slots : List Slot) (slot : ℕ) (one : Slot) → slot < length slots → node_at (set slots slot one) slot ≡ one.node
node_set_same [] slot one lt = absurd (omega arith)
node_set_same (x ∷ rest) zero one lt = refl
node_set_same (x ∷ rest) (suc slot) one lt = node_set_same rest slot one (omega arith)

node_set_other : (slots : List Slot) (slot other : ℕ) (one : Slot) → other ≢ slot → node_at (set slots slot one) other ≡ node_at slots other
node_set_other [] slot other one ne = refl
node_set_other (x ∷ rest) zero zero one ne = absurd (ne refl)
node_set_other (x ∷ rest) zero (suc other) one ne = refl
node_set_other (x ∷ rest) (suc slot) zero one ne = refl
node_set_other (x ∷ rest) (suc slot) (suc other) one ne = node_set_other rest slot other one (λ e. ne (ap suc e))

pub deadlines-set : (slots : List Slot) (slot : ℕ) (one : Slot) → deadlines_of (set slots slot one) ≡ set (deadlines_of slots) slot one.deadline
deadlines-set slots slot one = map-set (λ (s : Slot). s.deadline) slots slot one

pub kept_moved : (pool : Pool ℕ) (slots : List Slot) (last swept slot from node : ℕ) (deadline : Option ℕ) (new : Pool ℕ) → IsKept pool slots last swept → slot < length slots → from ≡ bucket_of swept (deadline_at slots slot) → Moved pool slot from node (bucket_of swept deadline) new → IsKept new (set slots slot (record { node = node; deadline = deadline })) last swept
unfolding one_where
kept_moved pool slots last swept slot from node deadline new k lt from_is m =
    let one : Slot = record { node = node; deadline = deadline } in
    let ds = deadlines_of slots in
    let ds2 = deadlines-set slots slot one in
    let lt_ds : slot < length ds = omega (arith, length-map slots (λ (s : Slot). s.deadline)) in
    record {
      order = k.order;
      bucketed = record {
        lists = m.lists ∙ k.bucketed.lists;
        few = omega (arith, k.bucketed.few, length-set slots slot one);
        stands = λ s s_lt. elim (same_or_not s slot) [
          | inl e ↦ subst (λ (x : ℕ). IsIn (node_at (set slots slot one) x) x (items_at new (bucket_of swept (deadline_at (set slots slot one) x)))) (sym e)
              (subst (λ (d : Option ℕ). IsIn (node_at (set slots slot one) slot) slot (items_at new (bucket_of swept d))) (sym (ap (λ (xs : List (Option ℕ)). get_or xs slot None) ds2 ∙ get_or-set_same ds slot deadline None lt_ds))
              (subst (λ (n : ℕ). IsIn n slot (items_at new (bucket_of swept deadline))) (sym (node_set_same slots slot one lt)) m.there))
          | inr ne ↦
              subst (λ (d : Option ℕ). IsIn (node_at (set slots slot one) s) s (items_at new (bucket_of swept d))) (sym (ap (λ (xs : List (Option ℕ)). get_or xs s None) ds2 ∙ get_or-set_other ds slot s deadline None ne))
              (subst (λ (n : ℕ). IsIn n s (items_at new (bucket_of swept (deadline_at slots s)))) (sym (node_set_other slots slot s one ne))
              (m.kept _ _ s ne (k.bucketed.stands s (omega (arith, length-set slots slot one)))))
        ];
        known = λ list n i h. elim (m.back list n i h) [
          | inl e ↦ omega (arith, e, length-set slots slot one)
          | inr old ↦ omega (arith, k.bucketed.known list n i old, length-set slots slot one)
        ];
        counted = λ list.
            let p = λ (d : Option ℕ). nat_eq (bucket_of swept d) list in
            let sums = sum_by-set (λ (d : Option ℕ). cond (nat_eq (bucket_of swept d) list) 1 0) ds slot deadline None lt_ds in
            let from_one : one_if (nat_eq from list) ≡ one_if (nat_eq (bucket_of swept (get_or ds slot None)) list) = ap (λ b. one_if (nat_eq b list)) from_is in
            let goal : length (items_at new list) ≡ count_by p (set ds slot deadline) = omega (arith, m.counts list, k.bucketed.counted list, sums, from_one) in
            goal ∙ ap (count_by p) (sym ds2);
      };
    }

-- a slot was put into another bucket
pub record Put (slots : List Slot) (last swept slot : ℕ) (deadline : Option ℕ) (old : Timer) (new : Pool ℕ) (removed node : ℕ) : Type 0 where
  pub kept : IsKept new (set slots removed (record { node = node; deadline = deadline })) last swept
  pub timer : timer_of (set slots removed (record { node = node; deadline = deadline })) last swept ≡ record { deadlines = set old.deadlines slot deadline; last = old.last; swept = old.swept }

pub same_lists : (pool : Pool ℕ) (node item : ℕ) (middle : Pool ℕ) → Stands pool node → Removes pool node item middle → length middle.lists ≡ length pool.lists
same_lists pool node item middle at removes = ap length (removes.lists at) ∙ length-set pool.lists at.list (at.before ++ at.rest)

pub put : (pool : Pool ℕ) (slots : List Slot) (last swept slot : ℕ) (one : Slot) (old : Timer) (deadline : Option ℕ) (bucket : ℕ) (middle : Pool ℕ) (removed node : ℕ) (new : Pool ℕ) → IsKept pool slots last swept → timer_of slots last swept ≡ old → slot < length old.deadlines → one ≡ get_or slots slot one → Removes pool one.node removed middle → bucket ≡ bucket_of swept deadline → Pushes middle bucket node removed new → Put slots last swept slot deadline old new removed node
put pool slots last swept slot one old deadline bucket middle removed node new k is lt read removes bucket_is pushes =
    let lt2 : slot < length slots = omega (arith, ap (λ (t : Timer). length t.deadlines) is, length-map slots (λ (s : Slot). s.deadline)) in
    let s = slot_stands pool slots last swept slot one old k is lt read in
    let same : removed ≡ slot = removes.item_is s.stands ∙ s.item_is in
    let removes2 : Removes pool one.node slot middle = subst (λ (i : ℕ). Removes pool one.node i middle) same removes in
    let pushes2 : Pushes middle (bucket_of swept deadline) node slot new = subst (λ (b : ℕ). Pushes middle b node slot new) bucket_is (subst (λ (i : ℕ). Pushes middle bucket node i new) same pushes) in
    let m = moved pool one.node slot middle (bucket_of swept deadline) node new s.stands s.item_is removes2 (omega (arith, k.bucketed.lists, bucket_below swept deadline)) pushes2 in
    let kept = kept_moved pool slots last swept slot s.stands.list node deadline new k lt2 s.list_is m in
    let timer : List (Option ℕ) → Timer = λ ds. record { deadlines = ds; last = last; swept = swept } in
    let written : Timer → Timer = λ t. record { deadlines = set t.deadlines slot deadline; last = t.last; swept = t.swept } in
    record {
      kept = subst (λ (i : ℕ). IsKept new (set slots i (record { node = node; deadline = deadline })) last swept) (sym same) kept;
      timer = ap timer (ap (λ (i : ℕ). deadlines_of (set slots i (record { node = node; deadline = deadline }))) same ∙ deadlines-set slots slot (record { node = node; deadline = deadline })) ∙ ap written is;
    }

abbrev no_items : List (ℕ × ℕ)
no_items = []

abbrev no_deadline : Option ℕ
no_deadline = None

-- the beginning: empty lists, and then one slot after another in the last list
empty_at : (lists list : ℕ) → get_or (replicate lists no_items) list [] ≡ []
empty_at zero list = refl
empty_at (suc lists) zero = refl
empty_at (suc lists) (suc list) = empty_at lists list

length-replicated : (lists : ℕ) → length (replicate lists no_items) ≡ lists
length-replicated zero = refl
length-replicated (suc lists) = ap suc (length-replicated lists)

pub filled_first : (pool : Pool ℕ) (all : ℕ) → pool.lists ≡ replicate 513 no_items → pool.spare ≡ all → AreUnset pool [] 0 all
filled_first pool all lists spare =
    let none : (list : ℕ) → items_at pool list ≡ [] = λ list. ap (λ (ls : List (List (ℕ × ℕ))). get_or ls list []) lists ∙ empty_at 513 list in
    record {
      bucketed = record {
        lists = ap length lists ∙ length-replicated 513;
        few = omega arith;
        stands = λ slot lt. absurd (omega arith);
        known = λ list n i h. absurd (subst (λ (es : List (ℕ × ℕ)). IsIn n i es) (none list) h);
        counted = λ list. ap length (none list);
      };
      none = refl;
      many_are = refl;
      spare = omega arith;
    }

replicate_more : (n : ℕ) → replicate n no_deadline ++ no_deadline ∷ [] ≡ replicate (n + 1) no_deadline
replicate_more zero = refl
replicate_more (suc n) =
    let e : suc (n + 1) ≡ suc n + 1 = omega arith in
    ap (λ ds. no_deadline ∷ ds) (replicate_more n) ∙ ap (λ m. replicate m no_deadline) e

none_at : (many slot : ℕ) → get_or (replicate many no_deadline) slot None ≡ None
none_at zero slot = refl
none_at (suc many) zero = refl
none_at (suc many) (suc slot) = none_at many slot

node_push_old : (slots : List Slot) (one : Slot) (slot : ℕ) → slot < length slots → node_at (slots ++ one ∷ []) slot ≡ node_at slots slot
node_push_old [] one slot lt = absurd (omega arith)
node_push_old (x ∷ rest) one zero lt = refl
node_push_old (x ∷ rest) one (suc slot) lt = node_push_old rest one slot (omega arith)

node_push_new : (slots : List Slot) (one : Slot) → node_at (slots ++ one ∷ []) (length slots) ≡ one.node
node_push_new [] one = refl
node_push_new (x ∷ rest) one = node_push_new rest one

pub filled_more : (pool : Pool ℕ) (slots : List Slot) (many all node : ℕ) (new : Pool ℕ) → AreUnset pool slots many all → many < 2 ^ 32 - 1 → Pushes pool 512 node many new → AreUnset new (slots ++ record { node = node; deadline = None } ∷ []) (many + 1) all
filled_more pool slots many all node new f fits pushes =
    let one : Slot = record { node = node; deadline = None } in
    let more = slots ++ one ∷ [] in
    let lt : 512 < length pool.lists = omega (arith, f.bucketed.lists) in
    let long : length more ≡ length slots + 1 = length-append slots (one ∷ []) in
    let ds : deadlines_of more ≡ deadlines_of slots ++ None ∷ [] = map-append (λ (s : Slot). s.deadline) slots (one ∷ []) in
    let all_none : deadlines_of more ≡ replicate (many + 1) None = ds ∙ ap (λ xs. xs ++ None ∷ []) f.none ∙ replicate_more many in
    let old_none : (s : ℕ) → deadline_at slots s ≡ None = λ s. ap (λ (xs : List (Option ℕ)). get_or xs s None) f.none ∙ none_at many s in
    let new_none : (s : ℕ) → deadline_at more s ≡ None = λ s. ap (λ (xs : List (Option ℕ)). get_or xs s None) all_none ∙ none_at (many + 1) s in
    let there : items_at new 512 ≡ items_at pool 512 ++ (node, many) ∷ [] = ap (λ (ls : List (List (ℕ × ℕ))). get_or ls 512 []) pushes.lists ∙ get_or-set_same pool.lists 512 (items_at pool 512 ++ (node, many) ∷ []) [] lt in
    let old_in : (s : ℕ) → s < length slots → IsIn (node_at slots s) s (items_at pool 512) = λ s s_lt. subst (λ (d : Option ℕ). IsIn (node_at slots s) s (items_at pool (bucket_of 0 d))) (old_none s) (f.bucketed.stands s s_lt) in
    let new_in : (s : ℕ) → s < length more → IsIn (node_at more s) s (items_at pool 512 ++ (node, many) ∷ []) = λ s s_lt. elim (lt_or_not s (length slots)) [
      | inl less ↦ subst (λ (n : ℕ). IsIn n s (items_at pool 512 ++ (node, many) ∷ [])) (sym (node_push_old slots one s less)) (in_left (node_at slots s) s (items_at pool 512) ((node, many) ∷ []) (old_in s less))
      | inr le ↦
          let same : s ≡ length slots = omega (arith, long) in
          in_right (node_at more s) s (items_at pool 512) ((node, many) ∷ []) (inl (ap (node_at more) same ∙ node_push_new slots one, same ∙ f.many_are))
    ] in
    let lists = by_list (λ list es. ((n i : ℕ) → IsIn n i es → i < length more) × (length es ≡ length (items_at pool list) + one_if (nat_eq 512 list))) pool.lists 512 (items_at pool 512 ++ (node, many) ∷ []) lt (
      (λ n i h. elim (in_either n i (items_at pool 512) ((node, many) ∷ []) h) [ inl l ↦ omega (arith, f.bucketed.known 512 n i l) | inr r ↦ elim r [ inl e ↦ omega (arith, e.1, f.many_are) | inr empty ↦ absurd empty ] ]),
      length-one_more (items_at pool 512) (node, many),
    )
    (λ other ne. ((λ n i h. omega (arith, f.bucketed.known other n i h)), (let t = eq_no 512 other (λ e. ne (sym e)) in rw t (omega arith)))) in
    let lists_at : (list : ℕ) → ((n i : ℕ) → IsIn n i (items_at new list) → i < length more) × (length (items_at new list) ≡ length (items_at pool list) + one_if (nat_eq 512 list)) =
    λ list. subst (λ (ls : List (List (ℕ × ℕ))). ((n i : ℕ) → IsIn n i (get_or ls list []) → i < length more) × (length (get_or ls list []) ≡ length (items_at pool list) + one_if (nat_eq 512 list))) (sym pushes.lists) (lists list) in
    record {
      bucketed = record {
        lists = ap length pushes.lists ∙ length-set pool.lists 512 _ ∙ f.bucketed.lists;
        few = omega (arith, f.many_are);
        stands = λ s s_lt. subst (λ (d : Option ℕ). IsIn (node_at more s) s (items_at new (bucket_of 0 d))) (sym (new_none s)) (subst (λ (es : List (ℕ × ℕ)). IsIn (node_at more s) s es) (sym there) (new_in s s_lt));
        known = λ list n i h. (lists_at list).0 n i h;
        counted = λ list.
            let pushed = sum_by_push (λ (d : Option ℕ). one_if (nat_eq (bucket_of 0 d) list)) (deadlines_of slots) None in
            let goal : length (items_at new list) ≡ count_by (λ (d : Option ℕ). nat_eq (bucket_of 0 d) list) (deadlines_of slots ++ None ∷ []) = omega (arith, (lists_at list).1, f.bucketed.counted list, pushed) in
            goal ∙ ap (count_by (λ (d : Option ℕ). nat_eq (bucket_of 0 d) list)) (sym ds);
      };
      none = all_none;
      many_are = omega (arith, f.many_are);
      spare = omega (arith, pushes.spare, f.spare);
    }
