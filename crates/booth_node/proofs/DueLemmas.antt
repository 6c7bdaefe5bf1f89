-- Which tickets are due: each stands once among them, and its deadline has come.
use Rattle.std.proofs.Common.{◌≡◌, ◌≢◌, ◌⊎◌, inl, inr, ℕ, zero, suc, Bool, true, false, ◌+◌, ◌<◌, ◌≤◌, List, [], ◌∷◌, length, map, set, get_or, slice_get, refl, sym, ap, ◌∙◌, subst, arith}
use Rattle.std.specs.Prelude.{Option, Some, None, IfSome, IsSomeAnd, MatchOption, nat_le}
use Rattle.std.specs.List.{All}
use Rattle.std.proofs.Math.Dec.{eqb}
use Rattle.std.proofs.lemmas.Bool.Decides.{eqb_tells, nat_tests}
use Rattle.std.proofs.lemmas.Option.{slice_get_within}
use Rattle.std.proofs.lemmas.List.{ext_get_or, get_or-set_same, get_or-set_other, length-map, length-set, map-set}
use Rattle.booth_chain.specs.Wheel.{Timer, with_deadline}
use Rattle.booth_chain.specs.DueList.{comes_before, placed, due_from, due_list}
use Rattle.booth_chain.proofs.NodesLemmas.{slice_get-set_other, slice_get-set_same}
use Rattle.booth_ticket.specs.Ticket.{TicketState, IsDue}
use Rattle.booth_node.specs.Acting.{IsSetAt}
use Rattle.booth_node.specs.Reaction.{deadline_of, due_places}
use Rattle.booth_node.proofs.PlaceLemmas.{the_value}

-- P of each
abbrev pub Each : {X : Type 0} → (X → Type 0) → List X → Type 0
Each P [] = Unit {0}
Each P (x ∷ xs) = P x × Each P xs

-- each number stands once
abbrev pub Once : List ℕ → Type 0
Once [] = Unit {0}
Once (x ∷ xs) = Each (λ y. x ≢ y) xs × Once xs

pub each_weaker : {X : Type 0} (P Q : X → Type 0) (xs : List X) → ((x : X) → P x → Q x) → Each P xs
    → Each Q xs
each_weaker P Q [] gives each = each
each_weaker P Q (x ∷ xs) gives each = (gives x each.0, each_weaker P Q xs gives each.1)

pub all_of_each : {X : Type 0} (P : X → Type 0) (xs : List X) → Each P xs → All P xs
all_of_each P [] each i d below = absurd (omega (arith, below))
all_of_each P (x ∷ xs) each zero d below = each.0
all_of_each P (x ∷ xs) each (suc i) d below = all_of_each P xs each.1 i d (omega (arith, below))

-- a pair of deadline and slot, among others of other slots
abbrev OncePairs : List (ℕ × ℕ) → Type 0
OncePairs [] = Unit {0}
OncePairs (x ∷ xs) = Each (λ (y : ℕ × ℕ). x.1 ≢ y.1) xs × OncePairs xs

each_slot : (P : ℕ → Type 0) (xs : List (ℕ × ℕ)) → Each (λ (x : ℕ × ℕ). P x.1) xs
    → Each P (map (λ (x : ℕ × ℕ). x.1) xs)
each_slot P [] each = each
each_slot P (x ∷ xs) each = (each.0, each_slot P xs each.1)

once_slots : (xs : List (ℕ × ℕ)) → OncePairs xs → Once (map (λ (x : ℕ × ℕ). x.1) xs)
once_slots [] once = once
once_slots (x ∷ xs) once = (each_slot (λ y. x.1 ≢ y) xs once.0, once_slots xs once.1)

each_placed : (P : ℕ × ℕ → Type 0) (d s : ℕ) (xs : List (ℕ × ℕ)) → P (d, s) → Each P xs
    → Each P (placed d s xs)
each_placed P d s [] one each = (one, each)
each_placed P d s (x ∷ xs) one each = by_test (comes_before d s x.0 x.1) refl
    (each_placed P d s xs one each.1)
  where
    by_test : (b : Bool) → comes_before d s x.0 x.1 ≡ b → Each P (placed d s xs)
        → Each P (placed d s (x ∷ xs))
    by_test true e more =
        let step : placed d s (x ∷ xs) ≡ (d, s) ∷ x ∷ xs = rw e in
        subst (λ (ys : List (ℕ × ℕ)). Each P ys) (sym step) (one, each)
    by_test false e more =
        let step : placed d s (x ∷ xs) ≡ x ∷ placed d s xs = rw e in
        subst (λ (ys : List (ℕ × ℕ)). Each P ys) (sym step) (each.0, more)

once_placed : (d s : ℕ) (xs : List (ℕ × ℕ)) → Each (λ (y : ℕ × ℕ). s ≢ y.1) xs → OncePairs xs
    → OncePairs (placed d s xs)
once_placed d s [] apart once = (apart, once)
once_placed d s (x ∷ xs) apart once = by_test (comes_before d s x.0 x.1) refl
    (once_placed d s xs apart.1 once.1)
  where
    by_test : (b : Bool) → comes_before d s x.0 x.1 ≡ b → OncePairs (placed d s xs)
        → OncePairs (placed d s (x ∷ xs))
    by_test true e more =
        let step : placed d s (x ∷ xs) ≡ (d, s) ∷ x ∷ xs = rw e in
        subst (λ (ys : List (ℕ × ℕ)). OncePairs ys) (sym step) (apart, once)
    by_test false e more =
        let step : placed d s (x ∷ xs) ≡ x ∷ placed d s xs = rw e in
        subst (λ (ys : List (ℕ × ℕ)). OncePairs ys) (sym step)
        (each_placed (λ (y : ℕ × ℕ). x.1 ≢ y.1) d s xs (λ (e : x.1 ≡ s). apart.0 (sym e)) once.0, more)

-- what is due among slots is what comes of the first and of the others
module _ (P : List (ℕ × ℕ) → Type 0) (now slot d : ℕ) (ds : List (Option ℕ)) where
  of_more : P (placed d slot (due_from now (slot + 1) ds)) → P (due_from now (slot + 1) ds)
      → P (due_from now slot (Some d ∷ ds))
  of_more due not_due = by_test (nat_le d now) refl
    where
      by_test : (b : Bool) → nat_le d now ≡ b → P (due_from now slot (Some d ∷ ds))
      by_test true e =
          let step : due_from now slot (Some d ∷ ds) ≡ placed d slot (due_from now (slot + 1) ds) = rw e in
          subst P (sym step) due
      by_test false e =
          let step : due_from now slot (Some d ∷ ds) ≡ due_from now (slot + 1) ds = rw e in
          subst P (sym step) not_due

above : (now slot : ℕ) (ds : List (Option ℕ)) → Each (λ (x : ℕ × ℕ). slot ≤ x.1) (due_from now slot ds)
above now slot [] = tt
above now slot (None ∷ ds) =
    each_weaker _ _ (due_from now (slot + 1) ds) (λ x le. omega (arith, le)) (above now (slot + 1) ds)
above now slot (Some d ∷ ds) =
    let more : Each (λ (x : ℕ × ℕ). slot ≤ x.1) (due_from now (slot + 1) ds) =
    each_weaker _ _ (due_from now (slot + 1) ds) (λ x le. omega (arith, le)) (above now (slot + 1) ds) in
    of_more (λ xs. Each (λ (x : ℕ × ℕ). slot ≤ x.1) xs) now slot d ds
    (each_placed (λ (x : ℕ × ℕ). slot ≤ x.1) d slot (due_from now (slot + 1) ds) (omega arith) more) more

once_from : (now slot : ℕ) (ds : List (Option ℕ)) → OncePairs (due_from now slot ds)
once_from now slot [] = tt
once_from now slot (None ∷ ds) = once_from now (slot + 1) ds
once_from now slot (Some d ∷ ds) =
    of_more OncePairs now slot d ds
    (once_placed d slot (due_from now (slot + 1) ds)
    (each_weaker (λ (x : ℕ × ℕ). slot + 1 ≤ x.1) (λ (x : ℕ × ℕ). slot ≢ x.1) (due_from now (slot + 1) ds)
    (λ x le (e : slot ≡ x.1). omega (arith, le, e)) (above now (slot + 1) ds))
    (once_from now (slot + 1) ds))
    (once_from now (slot + 1) ds)

-- the slot's deadline has come
abbrev Came : ℕ → List (Option ℕ) → ℕ × ℕ → Type 0
Came now full x = (get_or full x.1 None ≡ Some x.0) × (x.0 ≤ now)

le_of : (d now : ℕ) → nat_le d now ≡ true → d ≤ now
le_of d now e = grind (arith, nat_tests)

came_from : (now slot : ℕ) (ds full : List (Option ℕ))
    → ((i : ℕ) → get_or full (slot + i) None ≡ get_or ds i None)
    → Each (Came now full) (due_from now slot ds)
came_from now slot [] full at = tt
came_from now slot (o ∷ ds) full at =
    came_with o at (came_from now (slot + 1) ds full
    (λ i. subst (λ (n : ℕ). get_or full n None ≡ get_or ds i None) (omega arith) (at (suc i))))
  where
    came_with : (o : Option ℕ) → ((i : ℕ) → get_or full (slot + i) None ≡ get_or (o ∷ ds) i None)
        → Each (Came now full) (due_from now (slot + 1) ds)
        → Each (Came now full) (due_from now slot (o ∷ ds))
    came_with None at more = more
    came_with (Some d) at more = by_test (nat_le d now) refl
      where
        by_test : (b : Bool) → nat_le d now ≡ b → Each (Came now full) (due_from now slot (Some d ∷ ds))
        by_test true e =
            let step : due_from now slot (Some d ∷ ds) ≡ placed d slot (due_from now (slot + 1) ds) = rw e in
            let here : get_or full slot None ≡ Some d = subst (λ (n : ℕ). get_or full n None ≡ Some d)
            (omega arith) (at 0) in
            subst (λ (ys : List (ℕ × ℕ)). Each (Came now full) ys) (sym step)
            (each_placed (Came now full) d slot (due_from now (slot + 1) ds) (here, le_of d now e) more)
        by_test false e =
            let step : due_from now slot (Some d ∷ ds) ≡ due_from now (slot + 1) ds = rw e in
            subst (λ (ys : List (ℕ × ℕ)). Each (Came now full) ys) (sym step) more

-- the ticket at a place is due
abbrev pub DueAt : ℕ → List TicketState → ℕ → Type 0
DueAt now tickets place = IsSomeAnd (slice_get tickets place) (λ ticket. IsDue ticket.known now)

due_at : (now d : ℕ) (tickets : List TicketState) (place : ℕ)
    → get_or (map deadline_of tickets) place None ≡ Some d → d ≤ now
    → DueAt now tickets place
due_at now d [] place e le = absurd cc
due_at now d (t ∷ tickets) zero e le = subst (λ (o : Option ℕ). IsSomeAnd o (λ due. due ≤ now)) (sym e) le
due_at now d (t ∷ tickets) (suc place) e le = due_at now d tickets place e le

pub all_due : (now : ℕ) (tickets : List TicketState) → Each (DueAt now tickets) (due_places now tickets)
all_due now tickets =
    each_slot (DueAt now tickets) (due_list now (map deadline_of tickets))
    (each_weaker (Came now (map deadline_of tickets)) (λ (x : ℕ × ℕ). DueAt now tickets x.1)
    (due_list now (map deadline_of tickets))
    (λ x came. due_at now x.0 tickets x.1 came.0 came.1)
    (came_from now 0 (map deadline_of tickets) (map deadline_of tickets)
    (λ i. ap (λ (n : ℕ). get_or (map deadline_of tickets) n None) (omega arith))))

pub all_once : (now : ℕ) (tickets : List TicketState) → Once (due_places now tickets)
all_once now tickets = once_slots (due_list now (map deadline_of tickets))
    (once_from now 0 (map deadline_of tickets))

-- ---- one of them after the other

pub still_due : (now place : ℕ) (tickets tickets' : List TicketState) (places : List ℕ)
    → IsSetAt tickets place tickets'
    → Each (λ other. place ≢ other) places → Each (DueAt now tickets) places
    → Each (DueAt now tickets') places
still_due now place tickets tickets' [] is apart due = tt
still_due now place tickets tickets' (p ∷ places) is apart due =
    let same : slice_get tickets' p ≡ slice_get tickets p =
    ap (λ (ts : List TicketState). slice_get ts p) is.is
    ∙ slice_get-set_other tickets place p is.after (λ (e : p ≡ place). apart.0 (sym e)) in (
      subst (λ (o : Option TicketState). IsSomeAnd o (λ ticket. IsDue ticket.known now)) (sym same) due.0,
      still_due now place tickets tickets' places is apart.1 due.1,
    )

-- the deadlines are the tickets', but for those of these places
abbrev pub TimedBut : List ℕ → List TicketState → List (Option ℕ) → Type 0
TimedBut places tickets deadlines =
    (slot : ℕ) → Each (λ gone. gone ≢ slot) places
    → get_or deadlines slot None ≡ get_or (map deadline_of tickets) slot None

pub timed_more : (place : ℕ) (places : List ℕ) (tickets tickets' : List TicketState) (ds : List (Option ℕ))
    (v : Option ℕ)
    → IsSetAt tickets place tickets' → IsSomeAnd (slice_get tickets' place) (λ ticket. v ≡ deadline_of ticket)
    → place < length ds → length ds ≡ length tickets
    → TimedBut (place ∷ places) tickets ds → TimedBut places tickets' (set ds place v)
timed_more place places tickets tickets' ds v is read below same timed slot others = by_place
    (eqb_tells slot place)
  where
    below_tickets : place < length tickets
    below_tickets = subst (λ (n : ℕ). place < n) same below

    value : v ≡ deadline_of is.after
    value = subst (λ (o : Option TicketState). IsSomeAnd o (λ ticket. v ≡ deadline_of ticket))
        (ap (λ (ts : List TicketState). slice_get ts place) is.is
        ∙ slice_get-set_same tickets place is.after below_tickets) read

    left_is : map deadline_of tickets' ≡ set (map deadline_of tickets) place (deadline_of is.after)
    left_is = ap (λ (ts : List TicketState). map deadline_of ts) is.is
        ∙ map-set deadline_of tickets place is.after

    below_deadlines : place < length (map deadline_of tickets)
    below_deadlines = subst (λ (n : ℕ). place < n) (sym (length-map tickets deadline_of)) below_tickets

    at_place : get_or (set ds place v) place None ≡ get_or (map deadline_of tickets') place None
    at_place =
        get_or-set_same ds place v None below ∙ value
        ∙ sym (get_or-set_same (map deadline_of tickets) place (deadline_of is.after) None below_deadlines)
        ∙ ap (λ (os : List (Option ℕ)). get_or os place None) (sym left_is)

    by_place : ((eqb slot place ≡ true) × (slot ≡ place)) ⊎ ((eqb slot place ≡ false) × (slot ≢ place))
        → get_or (set ds place v) slot None ≡ get_or (map deadline_of tickets') slot None
    by_place (inl h) =
        subst (λ (n : ℕ). get_or (set ds place v) n None ≡ get_or (map deadline_of tickets') n None)
        (sym h.1) at_place
    by_place (inr h) =
        get_or-set_other ds place slot v None h.1 ∙ timed slot ((λ (e : place ≡ slot). h.1 (sym e)), others)
        ∙ sym (get_or-set_other (map deadline_of tickets) place slot (deadline_of is.after) None h.1)
        ∙ ap (λ (os : List (Option ℕ)). get_or os slot None) (sym left_is)

pub timed_all : (tickets : List TicketState) (ds : List (Option ℕ)) → length ds ≡ length tickets
    → TimedBut [] tickets ds
    → ds ≡ map deadline_of tickets
timed_all tickets ds same timed =
    ext_get_or None ds (map deadline_of tickets) (same ∙ sym (length-map tickets deadline_of))
    (λ i below. timed i tt)

pub same_length : (place : ℕ) (tickets tickets' : List TicketState) → IsSetAt tickets place tickets'
    → length tickets' ≡ length tickets
same_length place tickets tickets' is = ap (λ (ts : List TicketState). length ts) is.is
    ∙ length-set tickets place is.after

pub each_of_all : {X : Type 0} (P : X → Type 0) (xs : List X) → X → All P xs → Each P xs
each_of_all P [] x all = tt
each_of_all P (x ∷ xs) d all =
    (all 0 d (omega arith), each_of_all P xs d (λ i e below. all (suc i) e (omega (arith, below))))

-- the place is one of the tickets'
pub place_in : (place : ℕ) (tickets tickets' : List TicketState) → IsSetAt tickets place tickets'
    → place < length tickets
place_in place tickets tickets' is = slice_get_within tickets place is.before is.there

pub place_after : (place : ℕ) (tickets tickets' : List TicketState) → IsSetAt tickets place tickets'
    → place < length tickets'
place_after place tickets tickets' is =
    subst (λ (n : ℕ). place < n) (sym (same_length place tickets tickets' is))
    (place_in place tickets tickets' is)

pub placed_again : (place : Option ℕ) (tickets tickets' : List TicketState)
    → MatchOption place (tickets' ≡ tickets) (λ place. IsSetAt tickets place tickets')
    → IfSome place (λ place. place < length tickets')
placed_again None tickets tickets' others = tt
placed_again (Some place) tickets tickets' others = place_after place tickets tickets' others

module _ (place : ℕ) (places more : List ℕ) (tickets tickets' : List TicketState) (old new : Timer)
    (v : Option ℕ)
    (is : IsSetAt tickets place tickets') (slots : length old.deadlines ≡ length tickets)
    (left : places ≡ place ∷ more)
    (same : new ≡ with_deadline old place v) where
  pub timed_next : IsSomeAnd (slice_get tickets' place) (λ ticket. v ≡ deadline_of ticket)
      → TimedBut places tickets old.deadlines
      → TimedBut more tickets' new.deadlines
  timed_next read timed =
      subst (λ (t : Timer). TimedBut more tickets' t.deadlines) (sym same)
      (timed_more place more tickets tickets' old.deadlines v is read
      (subst (λ (n : ℕ). place < n) (sym slots) (place_in place tickets tickets' is)) slots
      (subst (λ (ps : List ℕ). TimedBut ps tickets old.deadlines) left timed))

  pub slots_next : length new.deadlines ≡ length tickets'
  slots_next =
      ap (λ (t : Timer). length t.deadlines) same ∙ length-set old.deadlines place v ∙ slots
      ∙ sym (same_length place tickets tickets' is)

-- ---- a ticket that may have changed

abbrev Changes : Option ℕ → List TicketState → List TicketState → Type 0
Changes place tickets tickets' = MatchOption place (tickets' ≡ tickets) (λ p. IsSetAt tickets p tickets')

abbrev LooksAgain : Option ℕ → List TicketState → Timer → Timer → Type 0
LooksAgain place tickets' old new = MatchOption place (new ≡ old)
    (λ p. IsSomeAnd (slice_get tickets' p) (λ ticket. new ≡ with_deadline old p (deadline_of ticket)))

module _ (tickets tickets' : List TicketState) (old new : Timer) where
  pub timed_again : (place : Option ℕ) → Changes place tickets tickets' → LooksAgain place tickets' old new
      → old.deadlines ≡ map deadline_of tickets → new.deadlines ≡ map deadline_of tickets'
  timed_again None same still timed =
      ap (λ (t : Timer). t.deadlines) still ∙ timed ∙ ap (λ (ts : List TicketState). map deadline_of ts)
      (sym same)
  timed_again (Some p) is again timed =
      let it : (t : TicketState) × (slice_get tickets' p ≡ Some t)
      × (new ≡ with_deadline old p (deadline_of t)) =
      the_value (λ t. new ≡ with_deadline old p (deadline_of t)) (slice_get tickets' p) again in
      let there : slice_get tickets' p ≡ Some is.after =
      ap (λ (ts : List TicketState). slice_get ts p) is.is
      ∙ slice_get-set_same tickets p is.after (place_in p tickets tickets' is) in
      let one : it.0 ≡ is.after = the_same it.0 is.after (sym it.1 ∙ there) in
      ap (λ (t : Timer). t.deadlines) it.2
      ∙ ap (λ (t : TicketState). set old.deadlines p (deadline_of t)) one
      ∙ ap (λ (os : List (Option ℕ)). set os p (deadline_of is.after)) timed
      ∙ sym (map-set deadline_of tickets p is.after)
      ∙ ap (λ (ts : List TicketState). map deadline_of ts) (sym is.is)
    where
      the_same : (x y : TicketState) → Some x ≡ Some y → x ≡ y
      the_same x y e = cc

  pub last_again : (place : Option ℕ) → LooksAgain place tickets' old new → new.last ≡ old.last
  last_again None still = ap (λ (t : Timer). t.last) still
  last_again (Some p) again =
      ap (λ (t : Timer). t.last) (the_value (λ t. new ≡ with_deadline old p (deadline_of t))
      (slice_get tickets' p) again).2

pub length_again : (place : Option ℕ) (tickets tickets' : List TicketState) → Changes place tickets tickets'
    → length tickets' ≡ length tickets
length_again None tickets tickets' same = ap (λ (ts : List TicketState). length ts) same
length_again (Some p) tickets tickets' is = same_length p tickets tickets' is
