-- Loops over the places, and what they leave.
use Rattle.std.specs.Prelude.{take, drop, map, set, get_or, replicate, Bool, true, false, not, cond, ◌||◌, nat_lt, Option, Some, None, slice_get}
use Rattle.std.specs.List.{All, AllWithin, flat_map, position, list_any, prefix_len}
use Rattle.std.proofs.Common.{◌≡◌, ◌≢◌, ℕ, zero, suc, ◌+◌, ◌<◌, ◌≤◌, List, [], ◌∷◌, ◌++◌, length, refl, sym, ◌∙◌, ap, arith, append_assoc, append-nil, subst}
use Rattle.std.proofs.lemmas.List.{map-set, get_or-map, length-map, get_or-set_other}
use Rattle.std.proofs.lemmas.List.Edits.{map_over_more}
use Rattle.std.proofs.lemmas.List.Elements.{All-map}
use Rattle.std.proofs.lemmas.List.Folds.{list_any_more}
use Rattle.std.proofs.lemmas.Option.{slice_get-get_or}
use Rattle.std.proofs.Math.Seq.{map-set_same}
use Rattle.booth_base.specs.declared.address.Peer.{Peer}
use Rattle.booth_stream.specs.Places.{OpenLink, NoneWhole, GivesFrame, Gives, is_free, opened, placed, without}
use Rattle.booth_stream.specs.Slot.{PlainSlot, called, link_in, IsDry}
use Rattle.booth_stream.specs.declared.slot.Caller.{Caller}
use Rattle.booth_stream.specs.Slots.{IsNotOf, IsOpen, links_in}

-- ---- one slot of the list is replaced

-- by one with the same link
pub same_links : (slots : List PlainSlot) (i : ℕ) (old new : PlainSlot) → old ≡ get_or slots i old → link_in new ≡ link_in old
    → links_in (set slots i new) ≡ links_in slots
same_links slots i old new is same = map-set_same link_in slots i new old (same ∙ ap link_in is)

link_at : (slots : List PlainSlot) (i : ℕ) (old : PlainSlot) → i < length slots → old ≡ get_or slots i old
    → link_in old ≡ get_or (links_in slots) i (link_in old)
link_at slots i old within is = ap link_in is ∙ sym (get_or-map link_in slots i old (link_in old) within)

-- by one that gave a frame
pub gives_here : (first slots : List PlainSlot) (i : ℕ) (old new : PlainSlot) (peer : Peer) (bytes : List ℕ)
    → links_in slots ≡ links_in first → i < length slots → old ≡ get_or slots i old
    → GivesFrame (link_in old) peer bytes (link_in new) → Gives (links_in first) peer bytes (links_in (set slots i new))
gives_here first slots i old new peer bytes same within is gives =
    let long = length-map slots link_in in
    let within_links : i < length (links_in slots) = omega (arith, within, long) in
    record {
      place = i;
      before = link_in old;
      after = link_in new;
      there = ap (λ (l : List (Option OpenLink)). slice_get l i) (sym same)
          ∙ slice_get-get_or (links_in slots) i (link_in old) within_links ∙ ap Some (sym (link_at slots i old within is));
      gives = gives;
      now = map-set link_in slots i new ∙ ap (λ (l : List (Option OpenLink)). set l i (link_in new)) same;
    }

-- by what a function makes of its link
pub over_more : (f : Option OpenLink → Option OpenLink) (first slots : List PlainSlot) (i : ℕ) (old new : PlainSlot)
    → length slots ≡ length first → i < length slots
    → links_in slots ≡ map f (take i (links_in first)) ++ drop i (links_in first)
    → old ≡ get_or slots i old → link_in new ≡ f (link_in old)
    → links_in (set slots i new) ≡ map f (take (i + 1) (links_in first)) ++ drop (i + 1) (links_in first)
over_more f first slots i old new same within so_far is now =
    let long = length-map first link_in in
    let within_first : i < length (links_in first) = omega (arith, within, long, same) in
    map-set link_in slots i new ∙ ap (λ (x : Option OpenLink). set (links_in slots) i x) now
    ∙ map_over_more f (links_in first) (links_in slots) i (link_in old) within_first so_far (link_at slots i old within is)

untouched : {X : Type 0} (f : X → X) (xs : List X) (i : ℕ) (d : X) → i < length xs
    → get_or (map f (take i xs) ++ drop i xs) i d ≡ get_or xs i d
untouched f [] i d within = absurd (omega (arith, within))
untouched f (x ∷ xs) zero d within = refl
untouched f (x ∷ xs) (suc i) d within = untouched f xs i d (omega (arith, within))

-- the link that the loop comes to is the first one still
pub still_there : (f : Option OpenLink → Option OpenLink) (first slots : List PlainSlot) (i : ℕ) (old : PlainSlot)
    → length slots ≡ length first → i < length slots
    → links_in slots ≡ map f (take i (links_in first)) ++ drop i (links_in first)
    → old ≡ get_or slots i old → get_or (links_in first) i (link_in old) ≡ link_in old
still_there f first slots i old same within so_far is =
    let long = length-map first link_in in
    let within_first : i < length (links_in first) = omega (arith, within, long, same) in
    sym (untouched f (links_in first) i (link_in old) within_first)
    ∙ ap (λ (l : List (Option OpenLink)). get_or l i (link_in old)) (sym so_far) ∙ sym (link_at slots i old within is)

flat_suc : {X A : Type 0} (f : X → List A) (xs : List X) (i : ℕ) (d : X) → i < length xs
    → flat_map f (take (suc i) xs) ≡ flat_map f (take i xs) ++ f (get_or xs i d)
flat_suc f [] i d within = absurd (omega (arith, within))
flat_suc f (x ∷ xs) zero d within = append-nil (f x)
flat_suc f (x ∷ xs) (suc i) d within =
    ap (λ l. f x ++ l) (flat_suc f xs i d (omega (arith, within)))
    ∙ sym (append_assoc (f x) (flat_map f (take i xs)) (f (get_or xs i d)))

pub flat_more : {X A : Type 0} (f : X → List A) (xs : List X) (i : ℕ) (d : X) → i < length xs
    → flat_map f (take (i + 1) xs) ≡ flat_map f (take i xs) ++ f (get_or xs i d)
flat_more f xs i d within =
    let next : i + 1 ≡ suc i = omega arith in
    ap (λ n. flat_map f (take n xs)) next ∙ flat_suc f xs i d within

-- a link of this place is open
pub found_open : (slots : List PlainSlot) (i : ℕ) (slot : PlainSlot) (caller : Caller) (peer : Peer) → i < length slots
    → slot ≡ get_or slots i slot → Some caller ≡ slot.caller → caller.peer ≡ peer → IsOpen (links_in slots) peer caller.number
found_open slots i slot caller peer within is by same =
    let rest = slot.held.rest ++ slot.later in
    let long = length-map slots link_in in
    let within_links : i < length (links_in slots) = omega (arith, within, long) in
    record {
      place = i;
      link = record { number = caller.number; peer = caller.peer; rest = rest };
      there = slice_get-get_or (links_in slots) i (link_in slot) within_links ∙ ap Some (sym (link_at slots i slot within is))
          ∙ ap (λ (c : Option Caller). Some (called c rest)) (sym by);
      same = same;
      named = refl;
    }

or_true : (b : Bool) → (b || true) ≡ true
or_true true = refl
or_true false = refl

or_false : (b : Bool) → (b || false) ≡ b
or_false true = refl
or_false false = refl

-- whether one was found so far, and at this place
pub found_here : (p : Option OpenLink → Bool) (links : List (Option OpenLink)) (i : ℕ) (place : Option OpenLink) → i < length links
    → get_or links i place ≡ place → p place ≡ true → true ≡ list_any p (take (i + 1) links)
found_here p links i place within is passes =
    sym (or_true (list_any p (take i links))) ∙ ap (λ b. list_any p (take i links) || b) (sym passes)
    ∙ ap (λ x. list_any p (take i links) || p x) (sym is) ∙ sym (list_any_more p links i place within)

pub not_found_here : (p : Option OpenLink → Bool) (links : List (Option OpenLink)) (i : ℕ) (place : Option OpenLink) → i < length links
    → get_or links i place ≡ place → p place ≡ false → list_any p (take i links) ≡ list_any p (take (i + 1) links)
not_found_here p links i place within is fails =
    sym (or_false (list_any p (take i links))) ∙ ap (λ b. list_any p (take i links) || b) (sym fails)
    ∙ ap (λ x. list_any p (take i links) || p x) (sym is) ∙ sym (list_any_more p links i place within)

-- what holds behind the loop's place holds behind the next one
pub within_later : (P : PlainSlot → Type 0) (slots : List PlainSlot) (i : ℕ) (new : PlainSlot) (n : ℕ)
    → AllWithin P slots i n → AllWithin P (set slots i new) (i + 1) n
within_later P slots i new n all k d low high =
    let other : k ≢ i = omega (arith, low) in
    subst P (sym (get_or-set_other slots i k new d other)) (all k d (omega (arith, low)) high)

-- ---- the whole list

pub none_whole : (slots : List PlainSlot) → All IsDry slots → NoneWhole (links_in slots)
none_whole [] dry k d within = absurd (omega (arith, within))
none_whole (slot ∷ slots) dry zero d within = (dry 0 slot (omega arith)).none
none_whole (slot ∷ slots) dry (suc k) d within =
    none_whole slots (λ j e less. dry (suc j) e (omega (arith, less))) k d (omega (arith, within))

prefix-map : {X Y : Type 0} (p : Y → Bool) (f : X → Y) (xs : List X) → prefix_len p (map f xs) ≡ prefix_len (λ x. p (f x)) xs
prefix-map p f [] = refl
prefix-map p f (x ∷ xs) = ap (λ n. cond (p (f x)) (1 + n) 0) (prefix-map p f xs)

-- the first free place
pub first_free : (slots : List PlainSlot) → position (λ slot. is_free (link_in slot)) slots ≡ position is_free (links_in slots)
first_free slots =
    let n = prefix_len (λ slot. not (is_free (link_in slot))) slots in
    let m = prefix_len (λ place. not (is_free place)) (links_in slots) in
    let same : m ≡ n = prefix-map (λ place. not (is_free place)) link_in slots in
    ap (λ k. cond (nat_lt k (length slots)) (Some k) None) (sym same)
    ∙ ap (λ k. cond (nat_lt m k) (Some m) None) (sym (length-map slots link_in))

abbrev free : Option OpenLink
free = None

at_end : (k : ℕ) → replicate k free ++ free ∷ [] ≡ replicate (suc k) free
at_end zero = refl
at_end (suc k) = ap (λ l. free ∷ l) (at_end k)

replicate_push : (n : ℕ) (xs : List (Option OpenLink)) → xs ≡ replicate n free → xs ++ free ∷ [] ≡ replicate (n + 1) free
replicate_push n xs is =
    let next : n + 1 ≡ suc n = omega arith in
    ap (λ l. l ++ free ∷ []) is ∙ at_end n ∙ ap (λ k. replicate k free) (sym next)

links_push : (slots : List PlainSlot) (slot : PlainSlot) → links_in (slots ++ slot ∷ []) ≡ links_in slots ++ link_in slot ∷ []
links_push [] slot = refl
links_push (first ∷ slots) slot = ap (λ l. link_in first ∷ l) (links_push slots slot)

pub one_more_free : (n : ℕ) (slots : List PlainSlot) (slot : PlainSlot) → links_in slots ≡ replicate n None
    → link_in slot ≡ None → links_in (slots ++ slot ∷ []) ≡ replicate (n + 1) None
one_more_free n slots slot so_far is_none =
    links_push slots slot ∙ ap (λ (l : Option OpenLink). links_in slots ++ l ∷ []) is_none
    ∙ replicate_push n (links_in slots) so_far

-- no link of this peer is open
pub none_open : (slots : List PlainSlot) (peer : Peer) (n : ℕ) → length slots ≤ n
    → AllWithin (λ slot. IsNotOf peer (link_in slot)) slots 0 n → All (IsNotOf peer) (links_in slots)
none_open slots peer n past within =
    All-map (IsNotOf peer) link_in slots (λ k d less. within k d (omega arith) (omega (arith, less, past)))

-- ---- a link is opened

free_first : (slots : List PlainSlot) (free : Option ℕ) → free ≡ position (λ slot. is_free (link_in slot)) slots
    → position is_free (links_in slots) ≡ free
free_first slots spot found = sym (first_free slots) ∙ sym found

pub opened_as : (number : ℕ) (peer : Peer) (places : List (Option OpenLink)) (slots : List PlainSlot) (free : Option ℕ)
    → links_in slots ≡ without number places → free ≡ position (λ slot. is_free (link_in slot)) slots
    → opened number peer places ≡ placed number peer (links_in slots) free
opened_as number peer places slots spot left found =
    ap (λ (l : List (Option OpenLink)). placed number peer l (position is_free l)) (sym left)
    ∙ ap (λ (f : Option ℕ). placed number peer (links_in slots) f) (free_first slots spot found)

pub begun_at : (slots : List PlainSlot) (place : ℕ) (new : PlainSlot) (number : ℕ) (peer : Peer)
    → link_in new ≡ Some (record { number = number; peer = peer; rest = [] })
    → links_in (set slots place new) ≡ (placed number peer (links_in slots) (Some place)).places
begun_at slots place new number peer is =
    map-set link_in slots place new ∙ ap (λ (x : Option OpenLink). set (links_in slots) place x) is
