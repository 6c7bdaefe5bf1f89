-- A walk along a ticket's list: in search of a name, and to write each line.
use Rattle.std.proofs.Common.{◌≡◌, ℕ, ◌+◌, ◌*◌, ◌<◌, ◌≤◌, false, List, [], ◌∷◌, ◌++◌, length, refl, sym, ◌∙◌, ap, arith, append_assoc, length-append}
use Rattle.std.specs.Prelude.{Option, Some, None, flat_map}
use Rattle.std.proofs.lemmas.List.{map-append, append-nil, nil_from_length, flat_map_more}
use Rattle.std.proofs.lemmas.Bool.{or_from}
use Rattle.booth_chain.specs.Pool.{Pool, items_at, first_node, Stands}
use Rattle.booth_attr.specs.declared.pair.Pair.{Pair}
use Rattle.booth_attr.specs.declared.pair.TheConstants.{LINE_BYTES}
use Rattle.booth_attr.specs.Lists.{is_named, has_name, line_of}
use Rattle.booth_attr.specs.Attributes.{Attributes, pairs_of}
use Rattle.booth_attr.specs.Places.{pairs_in, attributes_of}
use Rattle.booth_attr.proofs.ListLemmas.{has_none_of_both}
use Rattle.booth_attr.proofs.PoolLemmas.{pairs_there, length-push}

-- So many entries are passed, and the next one is the first of those that are left.
pub record Walked (pool : Pool Pair) (ticket : ℕ) (passed : ℕ) (next : Option ℕ) : Type 0 where
  pub before : List (ℕ × Pair)
  pub rest : List (ℕ × Pair)
  pub whole : items_at pool ticket ≡ before ++ rest
  pub many : length before ≡ passed
  pub next_is : next ≡ first_node rest

-- The next entry has this node.
pub record Here (pool : Pool Pair) (ticket : ℕ) (node : ℕ) (before : List (ℕ × Pair)) : Type 0 where
  pub pair : Pair
  pub rest : List (ℕ × Pair)
  pub place : items_at pool ticket ≡ before ++ (node, pair) ∷ rest

pub begun : (pool : Pool Pair) (ticket : ℕ) (next : Option ℕ) → next ≡ first_node (items_at pool ticket) → Walked pool ticket 0 next
begun pool ticket next is = record { before = []; rest = items_at pool ticket; whole = refl; many = refl; next_is = is }

here_in : (pool : Pool Pair) (ticket node : ℕ) (before rest : List (ℕ × Pair)) → items_at pool ticket ≡ before ++ rest → Some node ≡ first_node rest → Here pool ticket node before
here_in pool ticket node before [] whole is = absurd (cc)
here_in pool ticket node before (entry ∷ rest) whole is =
    let same : entry.0 ≡ node = cc in
    record { pair = entry.1; rest = rest; place = whole ∙ ap (λ (n : ℕ). before ++ (n, entry.1) ∷ rest) same }

pub here : (pool : Pool Pair) (ticket passed node : ℕ) (next : Option ℕ) → (w : Walked pool ticket passed next) → next ≡ Some node → Here pool ticket node w.before
here pool ticket passed node next w is = here_in pool ticket node w.before w.rest w.whole (sym is ∙ w.next_is)

abbrev pub stands_here : (pool : Pool Pair) (ticket node : ℕ) (before : List (ℕ × Pair)) → ticket < length pool.lists → Here pool ticket node before → Stands pool node
stands_here pool ticket node before exists h = record { list = ticket; before = before; item = h.pair; rest = h.rest; exists = exists; place = h.place }

abbrev pub moved : (pool : Pool Pair) (ticket passed node : ℕ) (next after : Option ℕ) → (w : Walked pool ticket passed next) → (h : Here pool ticket node w.before) → after ≡ first_node h.rest
    → Walked pool ticket (passed + 1) after
moved pool ticket passed node next after w h is = record {
  before = w.before ++ (node, h.pair) ∷ [];
  rest = h.rest;
  whole = h.place ∙ sym (append_assoc w.before ((node, h.pair) ∷ []) h.rest);
  many = length-push (node, h.pair) w.before ∙ ap (λ (n : ℕ). n + 1) w.many;
  next_is = is;
}

none_left : (rest : List (ℕ × Pair)) → None ≡ first_node rest → rest ≡ []
none_left [] is = refl
none_left (entry ∷ rest) is = absurd (cc)

-- the end of a walk: there is no next entry, or all are passed
pub passed_all : (pool : Pool Pair) (ticket passed : ℕ) (next : Option ℕ) → (w : Walked pool ticket passed next) → next ≡ None → items_at pool ticket ≡ w.before
passed_all pool ticket passed next w is =
    w.whole ∙ ap (λ es. w.before ++ es) (none_left w.rest (sym is ∙ w.next_is)) ∙ append-nil w.before

pub counted_all : (pool : Pool Pair) (ticket passed : ℕ) (next : Option ℕ) → (w : Walked pool ticket passed next) → length (items_at pool ticket) ≤ passed → items_at pool ticket ≡ w.before
counted_all pool ticket passed next w all =
    let left : length w.rest ≡ 0 = omega (arith, all, w.many, ap length w.whole, length-append w.before w.rest) in
    w.whole ∙ ap (λ es. w.before ++ es) (nil_from_length w.rest left) ∙ append-nil w.before

-- No entry that is passed has the name.
pub record Searched (pool : Pool Pair) (ticket : ℕ) (name : List ℕ) (passed : ℕ) (next : Option ℕ) : Type 0 where
  pub walked : Walked pool ticket passed next
  pub none : has_name name (pairs_in walked.before) ≡ false

pub search_begins : (pool : Pool Pair) (ticket : ℕ) (name : List ℕ) (next : Option ℕ) → next ≡ first_node (items_at pool ticket) → Searched pool ticket name 0 next
unfolding begun
search_begins pool ticket name next is = record { walked = begun pool ticket next is; none = refl }

pub search_goes_on : (pool : Pool Pair) (ticket : ℕ) (name : List ℕ) (passed node : ℕ) (next after : Option ℕ) → (s : Searched pool ticket name passed next)
    → (h : Here pool ticket node s.walked.before) → is_named name h.pair ≡ false → after ≡ first_node h.rest → Searched pool ticket name (passed + 1) after
search_goes_on pool ticket name passed node next after s h other is = record {
  walked = moved pool ticket passed node next after s.walked h is;
  none = ap (has_name name) (map-append (λ entry. entry.1) s.walked.before ((node, h.pair) ∷ []))
      ∙ has_none_of_both name (pairs_in s.walked.before) (h.pair ∷ []) s.none (or_from (is_named name h.pair) false other refl);
}

-- The lines of all entries that are passed are written.
pub record Listed (pool : Pool Pair) (ticket : ℕ) (old : List ℕ) (passed : ℕ) (next : Option ℕ) (text : List ℕ) : Type 0 where
  pub walked : Walked pool ticket passed next
  pub lines : text ≡ old ++ flat_map line_of (pairs_in walked.before)
  pub short : length text ≤ length old + LINE_BYTES * passed

pub list_begins : (pool : Pool Pair) (ticket : ℕ) (old : List ℕ) (next : Option ℕ) → next ≡ first_node (items_at pool ticket) → Listed pool ticket old 0 next old
unfolding begun
list_begins pool ticket old next is = record { walked = begun pool ticket next is; lines = sym (append-nil old); short = omega arith }

pub list_goes_on : (pool : Pool Pair) (ticket : ℕ) (old : List ℕ) (passed node : ℕ) (next after : Option ℕ) (text more : List ℕ) → (l : Listed pool ticket old passed next text)
    → (h : Here pool ticket node l.walked.before) → more ≡ text ++ line_of h.pair → length more ≤ length text + LINE_BYTES → after ≡ first_node h.rest
    → Listed pool ticket old (passed + 1) after more
list_goes_on pool ticket old passed node next after text more l h line short is = record {
  walked = moved pool ticket passed node next after l.walked h is;
  lines = line ∙ ap (λ t. t ++ line_of h.pair) l.lines ∙ flat_map_more line_of old (pairs_in l.walked.before) h.pair
      ∙ ap (λ ps. old ++ flat_map line_of ps) (sym (map-append (λ entry. entry.1) l.walked.before ((node, h.pair) ∷ [])));
  short = omega (arith, short, l.short);
}

-- all lines are written
pub list_whole : (pool : Pool Pair) (all : Attributes) (ticket : ℕ) (old : List ℕ) (passed : ℕ) (next : Option ℕ) (text : List ℕ) → attributes_of pool ≡ all
    → (l : Listed pool ticket old passed next text) → items_at pool ticket ≡ l.walked.before → text ≡ old ++ flat_map line_of (pairs_of all ticket)
list_whole pool all ticket old passed next text is l whole =
    let pairs : pairs_in l.walked.before ≡ pairs_of all ticket =
    ap pairs_in (sym whole) ∙ sym (pairs_there pool ticket) ∙ ap (λ (a : Attributes). pairs_of a ticket) is in
    l.lines ∙ ap (λ ps. old ++ flat_map line_of ps) pairs
