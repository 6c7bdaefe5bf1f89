-- What `set`, `delete` and `get` do, from what the pool's calls do.
use Rattle.std.proofs.Common.{◌≡◌, ℕ, ◌+◌, ◌-◌, ◌<◌, true, false, not, cond, ◌||◌, List, [], ◌∷◌, ◌++◌, length, set, map, refl, sym, ◌∙◌, ap, subst, arith, leb, eqb, length-set}
use Rattle.std.specs.Prelude.{Some, None}
use Rattle.std.specs.Option.{option_map}
use Rattle.std.proofs.lemmas.List.{map-append}
use Rattle.std.proofs.lemmas.Bool.{cond-true, cond-false, and_left, and_right, and_from, not_from_true, not_from_false, lt-leb, eq-eqb, ne_eqb, or_from, or_right}
use Rattle.booth_chain.specs.Pool.{Pool, items_at, Stands, Pushes, Removes, Replaces}
use Rattle.booth_attr.specs.declared.pair.Pair.{Pair}
use Rattle.booth_attr.specs.declared.attrs.TheConstants.{TICKET_NAMES}
use Rattle.booth_attr.specs.declared.attrs.SetAnswer.{SetAnswer}
use Rattle.booth_attr.specs.declared.attrs.SetAnswer.TheVariants as set_answers
use Rattle.booth_attr.specs.declared.attrs.DelAnswer.TheVariants as del_answers
use Rattle.booth_attr.specs.Lists.{is_named, has_name, AttributeList, value_of, revalued, with_value, without}
use Rattle.booth_attr.specs.Attributes.{Attributes, pairs_of, AreSound, is_full, with_attribute, without_attribute, set_answer, after_set, del_answer, after_delete}
use Rattle.booth_attr.specs.Places.{pairs_in, attributes_of, StandsNamed}
use Rattle.booth_attr.proofs.ListLemmas.{is_named_is, has_middle, alone, find_none, find_middle, without_middle, revalued_middle, list_without, list_with, list_push}
use Rattle.booth_attr.proofs.PoolLemmas.{length-middle, length-push, pairs_there, length-pairs_in, sound_with, same_attributes, with_list, exists_there}

-- What a `set` leaves.
pub record SetTo (all : Attributes) (ticket : ℕ) (name value : List ℕ) (answer : SetAnswer) (new : Attributes) : Type 0 where
  pub answer_is : answer ≡ set_answer all ticket name
  pub after : new ≡ after_set all ticket name value
  pub sound : AreSound new
  pub tickets : length new.lists ≡ length all.lists

-- What a `delete` leaves.
pub record Deletes (all : Attributes) (ticket : ℕ) (name : List ℕ) (new : Attributes) : Type 0 where
  pub answer_is : del_answers.Done ≡ del_answer all ticket name
  pub after : new ≡ after_delete all ticket name
  pub sound : AreSound new
  pub tickets : length new.lists ≡ length all.lists

-- a name that is there, or for which there is room
set_done : (all : Attributes) (ticket : ℕ) (name value : List ℕ) (new : Attributes) → is_full all ticket name ≡ false → new ≡ with_attribute all ticket name value → AreSound new
    → SetTo all ticket name value set_answers.Done new
set_done all ticket name value new room is sound = record {
  answer_is = sym (cond-false (is_full all ticket name) set_answers.Full set_answers.Done room);
  after = is ∙ sym (cond-false (is_full all ticket name) all (with_attribute all ticket name value) room);
  sound = sound;
  tickets = ap (λ (a : Attributes). length a.lists) is ∙ length-set all.lists ticket (with_value name value (pairs_of all ticket));
}

-- there is no room for a new name
pub refused : (all : Attributes) (ticket : ℕ) (name value : List ℕ) → AreSound all → has_name name (pairs_of all ticket) ≡ false
    → (leb TICKET_NAMES (length (pairs_of all ticket)) || eqb all.spare 0) ≡ true
    → SetTo all ticket name value set_answers.Full all
refused all ticket name value sound is_new full =
    let is : is_full all ticket name ≡ true = and_from (not (has_name name (pairs_of all ticket))) (leb TICKET_NAMES (length (pairs_of all ticket)) || eqb all.spare 0) (not_from_false (has_name name (pairs_of all ticket)) is_new) full in
    record {
      answer_is = sym (cond-true (is_full all ticket name) set_answers.Full set_answers.Done is);
      after = sym (cond-true (is_full all ticket name) all (with_attribute all ticket name value) is);
      sound = sound;
      tickets = refl;
    }

-- the pool has no room for a new name
pub pool_full : (pool new : Pool Pair) (all : Attributes) (ticket : ℕ) (pair : Pair) → AreSound (attributes_of pool) → attributes_of pool ≡ all
    → has_name pair.name (pairs_of all ticket) ≡ false → pool.spare ≡ 0 → new ≡ pool → SetTo all ticket pair.name pair.value set_answers.Full (attributes_of new)
pool_full pool new all ticket pair sound is is_new spare same =
    let all_sound = subst (λ (a : Attributes). AreSound a) is sound in
    let none : eqb all.spare 0 ≡ true = subst (λ (a : Attributes). eqb a.spare 0 ≡ true) is (eq-eqb pool.spare 0 spare) in
    let full = or_right (leb TICKET_NAMES (length (pairs_of all ticket))) (eqb all.spare 0) none in
    subst (λ (a : Attributes). SetTo all ticket pair.name pair.value set_answers.Full a) (sym (ap attributes_of same ∙ is)) (refused all ticket pair.name pair.value all_sound is_new full)

-- a new name went to the end of the ticket's list
added_here : (pool new : Pool Pair) (ticket node : ℕ) (pair : Pair) → AreSound (attributes_of pool) → ticket < length (attributes_of pool).lists
    → has_name pair.name (pairs_of (attributes_of pool) ticket) ≡ false → length (items_at pool ticket) < TICKET_NAMES → Pushes pool ticket node pair new
    → SetTo (attributes_of pool) ticket pair.name pair.value set_answers.Done (attributes_of new)
added_here pool new ticket node pair sound exists is_new few push =
    let old = attributes_of pool in
    let pairs = pairs_of old ticket in
    let there : pairs ≡ pairs_in (items_at pool ticket) = pairs_there pool ticket in
    let long : length pairs ≡ length (items_at pool ticket) = ap length there ∙ length-pairs_in (items_at pool ticket) in
    let more = pairs ++ pair ∷ [] in
    let lists : (attributes_of new).lists ≡ set old.lists ticket more =
    with_list pool new ticket (items_at pool ticket ++ (node, pair) ∷ []) more push.lists
    (map-append (λ entry. entry.1) (items_at pool ticket) ((node, pair) ∷ []) ∙ ap (λ ps. ps ++ pair ∷ []) (sym there)) in
    let whole : with_value pair.name pair.value pairs ≡ more = cond-false (has_name pair.name pairs) (map (revalued pair.name pair.value) pairs) more is_new in
    let room : is_full old ticket pair.name ≡ false =
    and_right (not (has_name pair.name pairs)) (leb TICKET_NAMES (length pairs) || eqb old.spare 0)
    (or_from (leb TICKET_NAMES (length pairs)) (eqb old.spare 0) (lt-leb TICKET_NAMES (length pairs) (omega (arith, long, few))) (ne_eqb old.spare 0 (λ e. omega (arith, e, push.spare)))) in
    let spare : new.spare ≡ cond (has_name pair.name pairs) old.spare (old.spare - 1) =
    sym (cond-false (has_name pair.name pairs) old.spare (old.spare - 1) is_new ∙ omega (arith, push.spare)) in
    set_done old ticket pair.name pair.value (attributes_of new) room
    (same_attributes (attributes_of new) (with_attribute old ticket pair.name pair.value) (lists ∙ ap (set old.lists ticket) (sym whole)) spare)
    (subst (λ (a : Attributes). AreSound a) (sym (same_attributes (attributes_of new) (record { lists = set old.lists ticket more; spare = new.spare }) lists refl))
    (sound_with old ticket more new.spare sound exists (list_push pairs pair (sound.distinct ticket) is_new) (omega (arith, length-push pair pairs, long, few)) (omega (arith, length-push pair pairs, push.spare))))

pub added : (pool new : Pool Pair) (all : Attributes) (ticket node : ℕ) (pair : Pair) → AreSound (attributes_of pool) → attributes_of pool ≡ all → ticket < length all.lists
    → has_name pair.name (pairs_of all ticket) ≡ false → length (items_at pool ticket) < TICKET_NAMES → Pushes pool ticket node pair new
    → SetTo all ticket pair.name pair.value set_answers.Done (attributes_of new)
added pool new all ticket node pair sound is exists is_new few push =
    subst (λ (a : Attributes). SetTo a ticket pair.name pair.value set_answers.Done (attributes_of new)) is
    (added_here pool new ticket node pair sound (subst (λ (a : Attributes). ticket < length a.lists) (sym is) exists)
    (subst (λ (a : Attributes). has_name pair.name (pairs_of a ticket) ≡ false) (sym is) is_new) few push)

-- The ticket's list has one pair of the name, in this place.
record Middle (pairs : List Pair) (name : List ℕ) (before : List Pair) (pair : Pair) (rest : List Pair) : Type 0 where
  whole : pairs ≡ before ++ pair ∷ rest
  list : AttributeList (before ++ pair ∷ rest)
  here : pair.name ≡ name
  is : is_named name pair ≡ true
  none_before : has_name name before ≡ false
  none_after : has_name name rest ≡ false
  has : has_name name pairs ≡ true

middle : (pool : Pool Pair) (ticket : ℕ) (name : List ℕ) (node : ℕ) → AreSound (attributes_of pool) → (f : StandsNamed pool ticket name node)
    → Middle (pairs_of (attributes_of pool) ticket) name (pairs_in f.before) f.pair (pairs_in f.rest)
middle pool ticket name node sound f =
    let whole : pairs_of (attributes_of pool) ticket ≡ pairs_in f.before ++ f.pair ∷ pairs_in f.rest =
    pairs_there pool ticket ∙ ap pairs_in f.place ∙ map-append (λ entry. entry.1) f.before ((node, f.pair) ∷ f.rest) in
    let list = subst (λ (ps : List Pair). AttributeList ps) whole (sound.distinct ticket) in
    let is = is_named_is name f.pair f.named in
    let none = alone name (pairs_in f.before) f.pair (pairs_in f.rest) list f.named in
    record {
      whole = whole;
      list = list;
      here = f.named;
      is = is;
      none_before = none.0;
      none_after = none.1;
      has = ap (has_name name) whole ∙ has_middle name (pairs_in f.before) f.pair (pairs_in f.rest) is;
    }

abbrev pub stands_at : (pool : Pool Pair) (ticket : ℕ) (name : List ℕ) (node : ℕ) → ticket < length pool.lists → StandsNamed pool ticket name node → Stands pool node
stands_at pool ticket name node exists f =
    record { list = ticket; before = f.before; item = f.pair; rest = f.rest; exists = exists; place = f.place }

-- a name that is there got another value
replaced_here : (pool new : Pool Pair) (ticket node : ℕ) (pair gone : Pair) → AreSound (attributes_of pool) → ticket < length (attributes_of pool).lists
    → StandsNamed pool ticket pair.name node → Replaces pool node pair gone new → SetTo (attributes_of pool) ticket pair.name pair.value set_answers.Done (attributes_of new)
replaced_here pool new ticket node pair gone sound exists f r =
    let old = attributes_of pool in
    let pairs = pairs_of old ticket in
    let m = middle pool ticket pair.name node sound f in
    let before = pairs_in f.before in
    let rest = pairs_in f.rest in
    let changed = before ++ pair ∷ rest in
    let at = stands_at pool ticket pair.name node (exists_there pool ticket exists) f in
    let lists : (attributes_of new).lists ≡ set old.lists ticket changed =
    with_list pool new ticket (f.before ++ (node, pair) ∷ f.rest) changed (r.lists at) (map-append (λ entry. entry.1) f.before ((node, pair) ∷ f.rest)) in
    let whole : with_value pair.name pair.value pairs ≡ changed =
    cond-true (has_name pair.name pairs) (map (revalued pair.name pair.value) pairs) (pairs ++ pair ∷ []) m.has
    ∙ ap (map (revalued pair.name pair.value)) m.whole ∙ revalued_middle pair.name pair.value before f.pair rest m.none_before m.none_after m.here in
    let room : is_full old ticket pair.name ≡ false =
    and_left (not (has_name pair.name pairs)) (leb TICKET_NAMES (length pairs) || eqb old.spare 0) (not_from_true (has_name pair.name pairs) m.has) in
    let spare : new.spare ≡ cond (has_name pair.name pairs) old.spare (old.spare - 1) =
    r.spare ∙ sym (cond-true (has_name pair.name pairs) old.spare (old.spare - 1) m.has) in
    let long : length changed ≡ length pairs = omega (arith, ap length m.whole, length-middle pair before rest, length-middle f.pair before rest) in
    set_done old ticket pair.name pair.value (attributes_of new) room
    (same_attributes (attributes_of new) (with_attribute old ticket pair.name pair.value) (lists ∙ ap (set old.lists ticket) (sym whole)) spare)
    (subst (λ (a : Attributes). AreSound a) (sym (same_attributes (attributes_of new) (record { lists = set old.lists ticket changed; spare = new.spare }) lists refl))
    (sound_with old ticket changed new.spare sound exists (list_with before f.pair pair rest m.list m.here) (omega (arith, long, sound.few ticket)) (omega (arith, long, r.spare))))

pub replaced : (pool new : Pool Pair) (all : Attributes) (ticket node : ℕ) (name value : List ℕ) (pair gone : Pair) → AreSound (attributes_of pool) → attributes_of pool ≡ all
    → ticket < length all.lists → pair.name ≡ name → pair.value ≡ value → StandsNamed pool ticket name node → Replaces pool node pair gone new
    → SetTo all ticket name value set_answers.Done (attributes_of new)
replaced pool new all ticket node name value pair gone sound is exists name_is value_is f r =
    let here = subst (λ (n : List ℕ). StandsNamed pool ticket n node) (sym name_is) f in
    let done = replaced_here pool new ticket node pair gone sound (subst (λ (a : Attributes). ticket < length a.lists) (sym is) exists) here r in
    let named = subst (λ (n : List ℕ). SetTo (attributes_of pool) ticket n pair.value set_answers.Done (attributes_of new)) name_is done in
    let valued = subst (λ (v : List ℕ). SetTo (attributes_of pool) ticket name v set_answers.Done (attributes_of new)) value_is named in
    subst (λ (a : Attributes). SetTo a ticket name value set_answers.Done (attributes_of new)) is valued

-- a name that was there is gone
removed_here : (pool new : Pool Pair) (ticket node : ℕ) (name : List ℕ) (gone : Pair) → AreSound (attributes_of pool) → ticket < length (attributes_of pool).lists
    → StandsNamed pool ticket name node → Removes pool node gone new → Deletes (attributes_of pool) ticket name (attributes_of new)
removed_here pool new ticket node name gone sound exists f r =
    let old = attributes_of pool in
    let pairs = pairs_of old ticket in
    let m = middle pool ticket name node sound f in
    let before = pairs_in f.before in
    let rest = pairs_in f.rest in
    let left = before ++ rest in
    let at = stands_at pool ticket name node (exists_there pool ticket exists) f in
    let lists : (attributes_of new).lists ≡ set old.lists ticket left =
    with_list pool new ticket (f.before ++ f.rest) left (r.lists at) (map-append (λ entry. entry.1) f.before f.rest) in
    let whole : without name pairs ≡ left = ap (without name) m.whole ∙ without_middle name before f.pair rest m.none_before m.none_after m.is in
    let long : length left + 1 ≡ length pairs = omega (arith, ap length m.whole, length-middle f.pair before rest) in
    record {
      answer_is = sym (cond-true (has_name name pairs) del_answers.Done del_answers.NoSuch m.has);
      after = same_attributes (attributes_of new) (without_attribute old ticket name) (lists ∙ ap (set old.lists ticket) (sym whole)) r.spare
          ∙ sym (cond-true (has_name name pairs) (without_attribute old ticket name) old m.has);
      sound = subst (λ (a : Attributes). AreSound a) (sym (same_attributes (attributes_of new) (record { lists = set old.lists ticket left; spare = new.spare }) lists refl))
          (sound_with old ticket left new.spare sound exists (list_without before f.pair rest m.list) (omega (arith, long, sound.few ticket)) (omega (arith, long, r.spare)));
      tickets = ap length lists ∙ length-set old.lists ticket left;
    }

pub removed : (pool new : Pool Pair) (all : Attributes) (ticket node : ℕ) (name : List ℕ) (gone : Pair) → AreSound (attributes_of pool) → attributes_of pool ≡ all → ticket < length all.lists
    → StandsNamed pool ticket name node → Removes pool node gone new → Deletes all ticket name (attributes_of new)
removed pool new all ticket node name gone sound is exists f r =
    subst (λ (a : Attributes). Deletes a ticket name (attributes_of new)) is
    (removed_here pool new ticket node name gone sound (subst (λ (a : Attributes). ticket < length a.lists) (sym is) exists) f r)

-- no pair has the name in the pool's list, nor in the ticket's
pub absent : (pool : Pool Pair) (all : Attributes) (ticket : ℕ) (name : List ℕ) → attributes_of pool ≡ all → has_name name (pairs_in (items_at pool ticket)) ≡ false
    → has_name name (pairs_of all ticket) ≡ false
absent pool all ticket name is none =
    subst (λ (a : Attributes). has_name name (pairs_of a ticket) ≡ false) is (ap (has_name name) (pairs_there pool ticket) ∙ none)

-- the value of a name that is there, and of one that is not
pub value_found : (pool : Pool Pair) (all : Attributes) (ticket : ℕ) (name : List ℕ) (node : ℕ) → AreSound (attributes_of pool) → attributes_of pool ≡ all
    → (f : StandsNamed pool ticket name node) → value_of name (pairs_of all ticket) ≡ Some f.pair.value
value_found pool all ticket name node sound is f =
    let m = middle pool ticket name node sound f in
    subst (λ (a : Attributes). value_of name (pairs_of a ticket) ≡ Some f.pair.value) is
    (ap (value_of name) m.whole ∙ ap (option_map (λ (p : Pair). p.value)) (find_middle name (pairs_in f.before) f.pair (pairs_in f.rest) m.none_before m.is))

pub value_absent : (all : Attributes) (ticket : ℕ) (name : List ℕ) → has_name name (pairs_of all ticket) ≡ false → value_of name (pairs_of all ticket) ≡ None
value_absent all ticket name none = ap (option_map (λ (p : Pair). p.value)) (find_none name (pairs_of all ticket) none)
