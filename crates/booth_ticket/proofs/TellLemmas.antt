-- Those that wait, told one after the other.
use Rattle.std.proofs.Common.{◌≡◌, ℕ, ◌+◌, ◌<◌, ◌≤◌, List, [], ◌∷◌, ◌++◌, length, get_or, set, take, drop, refl, sym, ◌∙◌, ap, arith, append-nil, length-set, get_or-set_same}
use Rattle.std.specs.Prelude.{Option, Some, None, not, slice_get}
use Rattle.std.specs.List.{filter, sum_by}
use Rattle.std.specs.Option.{is_none}
use Rattle.std.proofs.lemmas.List.{append_assoc, drop_more, take_more, take-append-drop, set-set, set-get_or}
use Rattle.std.proofs.lemmas.List.Elements.{filter-append}
use Rattle.std.proofs.lemmas.List.Filters.{length-filter_both}
use Rattle.std.proofs.lemmas.List.Sums.{sum_by-set}
use Rattle.std.proofs.Math.ListN.{drop_of_length-le}
use Rattle.booth_raft.specs.declared.deed.Told.{Told}
use Rattle.booth_ticket.specs.declared.waiters.Waiter.{Waiter}
use Rattle.booth_ticket.specs.Waiting.{waiting_at, spare_in, result_for, staying}

-- ---- the lists

pub waiting_set : (lists : List (List Waiter)) (list : ℕ) (waiters : List Waiter) (new : List (List Waiter))
    → list < length lists → new ≡ set lists list waiters → waiting_at new list ≡ waiters
waiting_set lists list waiters new exists is =
    ap (λ (ls : List (List Waiter)). waiting_at ls list) is ∙ get_or-set_same lists list waiters [] exists

pub exists_set : (lists : List (List Waiter)) (list : ℕ) (waiters : List Waiter) (new : List (List Waiter))
    → list < length lists → new ≡ set lists list waiters → list < length new
exists_set lists list waiters new exists is =
    let same : length new ≡ length lists = ap length is ∙ length-set lists list waiters in
    omega (arith, exists, same)

pub set_again : (lists : List (List Waiter)) (list : ℕ) (one two : List Waiter) (mid new : List (List Waiter))
    → mid ≡ set lists list one → new ≡ set mid list two → new ≡ set lists list two
set_again lists list one two mid new is then_is =
    then_is ∙ ap (λ (ls : List (List Waiter)). set ls list two) is ∙ set-set lists list one two

fewer : (p : Waiter → _) (waiters : List Waiter) → length (filter p waiters) ≤ length waiters
fewer p waiters =
    let all = length-filter_both p (λ w. not (p w)) (λ w. refl) waiters in omega (arith, all)

-- those that were told leave room
pub more_room : (lists new : List (List Waiter)) (list : ℕ) (told : Told) → list < length lists
    → new ≡ set lists list (staying told (waiting_at lists list)) → spare_in lists ≤ spare_in new
more_room lists new list told exists is =
    let stay : List Waiter = staying told (waiting_at lists list) in
    let few : length stay ≤ length (waiting_at lists list) =
    fewer (λ w. is_none (result_for told w)) (waiting_at lists list) in
    let same : sum_by length new ≡ sum_by length (set lists list stay) = ap (sum_by length) is in
    let total = sum_by-set length lists list stay [] exists in
    omega (arith, few, same, total)

-- ---- the loop

module _ (lists : List (List Waiter)) (list : ℕ) (told : Told) where
  abbrev waiters : List Waiter
  waiters = waiting_at lists list

  -- So many were looked at: the others stand first, and behind them those that wait on.
  abbrev pub Looked : ℕ → List (List Waiter) → Type 0
  Looked i new = new ≡ set lists list (drop i waiters ++ staying told (take i waiters))

  pub looked_none : Looked 0 lists
  looked_none =
      sym (ap (set lists list) (append-nil waiters) ∙ set-get_or lists list [])

  pub looked_all : (i : ℕ) (now : List (List Waiter)) → length waiters ≤ i → Looked i now
      → now ≡ set lists list (staying told waiters)
  looked_all i now past looked =
      let none : drop i waiters ≡ [] = drop_of_length-le waiters past in
      let all : take i waiters ≡ waiters =
      sym (append-nil (take i waiters)) ∙ ap (λ ws. take i waiters ++ ws) (sym none)
      ∙ take-append-drop i waiters in
      looked ∙ ap (λ ws. set lists list (ws ++ staying told (take i waiters))) none
      ∙ ap (λ ws. set lists list (staying told ws)) all

  first_there : (i : ℕ) (now : List (List Waiter)) (d : Waiter) → list < length lists → i < length waiters
      → Looked i now
      → waiting_at now list ≡ (get_or waiters i d ∷ drop (i + 1) waiters) ++ staying told (take i waiters)
  first_there i now d exists below looked =
      waiting_set lists list _ now exists looked
      ∙ ap (λ ws. ws ++ staying told (take i waiters)) (drop_more waiters i d below)

  -- there is a first one
  pub never_none : (i : ℕ) (first : Option Waiter) (now : List (List Waiter)) → list < length lists
      → i < length waiters → Looked i now
      → first ≡ slice_get (waiting_at now list) 0 → first ≡ None → ⊥
  never_none i first now exists below looked first_is none = by_list waiters refl
    where
      by_list : (ws : List Waiter) → waiters ≡ ws → ⊥
      by_list [] e =
          let empty : length waiters ≡ 0 = ap length e in let b : i < length waiters = below in omega (arith, empty, b)
      by_list (w ∷ ws) e =
          never (sym none ∙ first_is ∙ ap (λ xs. slice_get xs 0) (first_there i now w exists below looked))
        where
          never : None ≡ Some (get_or waiters i w) → ⊥
          never n = cc

  -- the first one was taken out
  pub record TookOut (i : ℕ) (w : Waiter) (new : List (List Waiter)) : Type 0 where
    pub w_is : w ≡ get_or waiters i w
    pub is : new ≡ set lists list (drop (i + 1) waiters ++ staying told (take i waiters))

  pub took_out : (i : ℕ) (first : Option Waiter) (now new : List (List Waiter)) (w : Waiter)
      → list < length lists → i < length waiters → Looked i now
      → first ≡ slice_get (waiting_at now list) 0 → new ≡ set now list (drop 1 (waiting_at now list))
      → first ≡ Some w → TookOut i w new
  took_out i first now new w exists below looked first_is rest_is some =
      let there = first_there i now w exists below looked in
      record {
        w_is = same w (get_or waiters i w) (sym some ∙ first_is ∙ ap (λ ws. slice_get ws 0) there);
        is = set_again lists list _ _ now new looked (rest_is ∙ ap (λ ws. set now list (drop 1 ws)) there);
      }
    where
      same : (x y : Waiter) → Some x ≡ Some y → x ≡ y
      same x y e = cc

  -- and it was put back where it waits on
  pub looked_next : (i : ℕ) (w : Waiter) (mid new : List (List Waiter)) → list < length lists → i < length waiters
      → mid ≡ set lists list (drop (i + 1) waiters ++ staying told (take i waiters))
      → w ≡ get_or waiters i w
      → new ≡ set mid list (waiting_at mid list ++ staying told (w ∷ []))
      → Looked (i + 1) new
  looked_next i w mid new exists below is w_is new_is =
      set_again lists list _ _ mid new is
      (new_is
      ∙ ap (λ ws. set mid list (ws ++ staying told (w ∷ []))) (waiting_set lists list _ mid exists is)
      ∙ ap (set mid list)
      (append_assoc (drop (i + 1) waiters) (staying told (take i waiters)) (staying told (w ∷ []))
      ∙ ap (λ ws. drop (i + 1) waiters ++ ws)
      (sym (filter-append (λ x. is_none (result_for told x)) (take i waiters) (w ∷ []))
      ∙ ap (λ (x : Waiter). staying told (take i waiters ++ x ∷ [])) w_is
      ∙ ap (staying told) (sym (take_more waiters i w below)))))
