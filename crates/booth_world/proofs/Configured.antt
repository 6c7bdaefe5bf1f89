-- What a sound configuration gives a ticket of a world.
use Rattle.std.proofs.Common.{◌≡◌, ◌≢◌, ◌⊎◌, ⊎_elim, inl, inr, ℕ, zero, suc, ◌+◌, ◌-◌, ◌^◌, ◌<◌, ◌≤◌, Bool, true, false, ◌||◌, ◌&&◌, not, List, [], ◌∷◌, ◌++◌, length, drop, get_or, refl, sym, ap, ◌∙◌, subst, arith, if◌then◌else◌}
use Rattle.std.specs.Prelude.{Option, Some, None, is_some, IsSomeAnd, position, slice_get, ◌==◌, option_map, nat_lt}
use Rattle.std.specs.List.{list_any, filter_map, enumerate_from, position_or_len}
use Rattle.std.proofs.lemmas.Bool.Decides.{nat_tests}
use Rattle.std.proofs.lemmas.Option.{get_or_from_slice_get, slice_get_within, slice_get_cases}
use Rattle.std.proofs.lemmas.List.Quantifiers.{position-Some}
use Rattle.std.specs.Option.{option_map_or}
use Rattle.booth_base.specs.declared.address.MemberId.{MemberId}
use Rattle.booth_base.specs.declared.address.TheConstants.{NO_ONE}
use Rattle.booth_base.specs.declared.limits.TheConstants.{MEMBERS}
use Rattle.booth_base.specs.declared.times.Times.{Times}
use Rattle.booth_chain.proofs.NodesLemmas.{same_or_not}
use Rattle.booth_conf.specs.Config.{ConfigSays, has_id, no_site, no_ticket, reserved_id, same_id, time_fault}
use Rattle.booth_conf.specs.Sections.{first}
use Rattle.booth_conf.specs.Sound.{are_new, same_ticket, HasTimes, IsSound as IsSoundConfig}
use Rattle.booth_conf.specs.Lookups.{is_called, rank_of, weights_at}
use Rattle.booth_conf.specs.declared.members.Member.{Member}
use Rattle.booth_conf.specs.declared.tickets.TicketConf.{TicketConf}
use Rattle.booth_conf.proofs.FirstLemmas.{given, given_cons}
use Rattle.booth_conf.proofs.RankLemmas.{rank_below}
use Rattle.booth_conf.proofs.TimesLemmas.{tickets_timed}
use Rattle.booth_raft.specs.Sound.{IsSound}
use Rattle.booth_node.specs.declared.node_config.NodeConfig.{NodeConfig}
use Rattle.booth_node.specs.Opening.{is_site_at, own_place, rank_at}
use Rattle.booth_node.specs.Session.{SessionEntry, Starts, Makes, IsCut}
use Rattle.booth_node.specs.World.{RecordsGoOn, World, members_of, id_at, HasForm, IsNodeOf, IsOneTicket, OneConfigurationIsEnough, StartsIn, StartsWithIt}
use Rattle.booth_world.specs.Cores.{Session}
use Rattle.booth_world.specs.Facts.{Has}
use Rattle.booth_world.proofs.Lists.{none_is, some_same}
use Rattle.booth_world.proofs.Stays.{not_up}
use Rattle.booth_world.proofs.WorldSteps.{Seats, Setting, equal_bytes, other_bytes, own_place_of, same_bytes, setup_by, setup_for}

-- ---- names

both_parts : (a b : Bool) → a && b ≡ true → (a ≡ true) × (b ≡ true)
both_parts true b e = (refl, e)
both_parts false b e = absurd cc

not_either : (a b : Bool) → not (a || b) ≡ true → (a ≡ false) × (not b ≡ true)
not_either true b e = absurd cc
not_either false b e = (refl, e)

none_passes : {X : Type 0} (p : X → Bool) (xs : List X) (x : X) → not (list_any p xs) ≡ true → Has xs x → p x ≡ false
none_passes p [] x none h = absurd h
none_passes {X} p (y ∷ ys) x none (inl e) = subst (λ (z : X). p z ≡ false) e (not_either (p y) (list_any p ys) none).0
none_passes p (y ∷ ys) x none (inr h) = none_passes p ys x (not_either (p y) (list_any p ys) none).1 h

has_last : {X : Type 0} (xs : List X) (x : X) → Has (xs ++ x ∷ []) x
has_last [] x = inl refl
has_last (y ∷ ys) x = inr (has_last ys x)

has_left : {X : Type 0} (xs ys : List X) (x : X) → Has xs x → Has (xs ++ ys) x
has_left [] ys x h = absurd h
has_left (y ∷ xs) ys x (inl e) = inl e
has_left (y ∷ xs) ys x (inr h) = inr (has_left xs ys x h)

-- none of the elements is the same as one before them
new_after : {X : Type 0} (same : X → X → Bool) (before xs : List X) (b y : X) (j : ℕ) → are_new same before xs ≡ true → Has before b
    → slice_get xs j ≡ Some y → same y b ≡ false
new_after same before [] b y j new h is = absurd (none_is y is)
new_after {X} same before (x ∷ xs) b y zero new h is =
    subst (λ (z : X). same z b ≡ false) (some_same x y is)
    (none_passes (same x) before b (both_parts (not (list_any (same x) before)) (are_new same (before ++ x ∷ []) xs) new).0 h)
new_after same before (x ∷ xs) b y (suc j) new h is =
    new_after same (before ++ x ∷ []) xs b y j (both_parts (not (list_any (same x) before)) (are_new same (before ++ x ∷ []) xs) new).1
    (has_left before (x ∷ []) b h) is

new_pair : {X : Type 0} (same : X → X → Bool) (before xs : List X) (a b : X) (i j : ℕ) → are_new same before xs ≡ true
    → slice_get xs i ≡ Some a → slice_get xs j ≡ Some b → i < j → same b a ≡ false
new_pair same before [] a b i j new is js less = absurd (none_is a is)
new_pair same before (x ∷ xs) a b i zero new is js less = absurd (omega (arith, less))
new_pair {X} same before (x ∷ xs) a b zero (suc j) new is js less =
    subst (λ (z : X). same b z ≡ false) (some_same x a is)
    (new_after same (before ++ x ∷ []) xs x b j (both_parts (not (list_any (same x) before)) (are_new same (before ++ x ∷ []) xs) new).1 (has_last before x) js)
new_pair same before (x ∷ xs) a b (suc i) (suc j) new is js less =
    new_pair same (before ++ x ∷ []) xs a b i j (both_parts (not (list_any (same x) before)) (are_new same (before ++ x ∷ []) xs) new).1 is js (omega (arith, less))

never : true ≡ false → ⊥
never e = cc

pub names_apart : (config : ConfigSays) → IsSoundConfig config → (i j : ℕ) (a b : TicketConf) → slice_get config.tickets i ≡ Some a
    → slice_get config.tickets j ≡ Some b → j ≢ i → b.name ≢ a.name
names_apart config sound i j a b is js ne same = by_order (dec i j)
  where
    dec : (n k : ℕ) → (n < k) ⊎ (k ≤ n)
    dec n zero = inr (omega arith)
    dec zero (suc k) = inl (omega arith)
    dec (suc n) (suc k) = ⊎_elim (λ (l : n < k). inl (omega (arith, l))) (λ (l : k ≤ n). inr (omega (arith, l))) (dec n k)

    by_order : (i < j) ⊎ (j ≤ i) → ⊥
    by_order (inl less) = never (sym (same_bytes b.name a.name same) ∙ new_pair same_ticket [] config.tickets a b i j sound.new_tickets is js less)
    by_order (inr not_less) =
        never (sym (same_bytes a.name b.name (sym same)) ∙ new_pair same_ticket [] config.tickets b a j i sound.new_tickets js is (omega (arith, not_less, ne)))

-- ---- ids

pol_cons : {X : Type 0} (p : X → Bool) (x : X) (xs : List X) → p x ≡ false → position_or_len p (x ∷ xs) ≡ suc (position_or_len p xs)
pol_cons p x xs e = let one : 1 + position_or_len p xs ≡ suc (position_or_len p xs) = omega arith in rw e one

pol_here : {X : Type 0} (p : X → Bool) (x : X) (xs : List X) → p x ≡ true → position_or_len p (x ∷ xs) ≡ 0
pol_here p x xs e = rw e refl

pol_before : {X : Type 0} (p : X → Bool) (xs : List X) (k : ℕ) (x : X) → slice_get xs k ≡ Some x → p x ≡ true → position_or_len p xs ≤ k
pol_before p [] k x is passes = absurd (none_is x is)
pol_before {X} p (y ∷ ys) zero x is passes =
    let e = pol_here p y ys (subst (λ (z : X). p z ≡ true) (sym (some_same y x is)) passes) in omega (arith, e)
pol_before p (y ∷ ys) (suc k) x is passes = by_test (p y) refl (pol_before p ys k x is passes)
  where
    by_test : (b : Bool) → p y ≡ b → position_or_len p ys ≤ k → position_or_len p (y ∷ ys) ≤ suc k
    by_test true e rest = let q = pol_here p y ys e in omega (arith, q)
    by_test false e rest = let q = pol_cons p y ys e in omega (arith, q, rest)

pol_is : {X : Type 0} (p : X → Bool) (xs : List X) (i : ℕ) (x : X) → slice_get xs i ≡ Some x → p x ≡ true
    → ((k : ℕ) (y : X) → k < i → slice_get xs k ≡ Some y → p y ≡ false) → position_or_len p xs ≡ i
pol_is p [] i x is passes others = absurd (none_is x is)
pol_is {X} p (y ∷ ys) zero x is passes others = pol_here p y ys (subst (λ (z : X). p z ≡ true) (sym (some_same y x is)) passes)
pol_is p (y ∷ ys) (suc i) x is passes others =
    pol_cons p y ys (others zero y (omega arith) refl)
    ∙ ap suc (pol_is p ys i x is passes (λ k z less at. others (suc k) z (omega (arith, less)) at))

pub no_position : {X : Type 0} (p : X → Bool) (xs : List X) (k : ℕ) (x : X) → position p xs ≡ None → slice_get xs k ≡ Some x → p x ≡ true → ⊥
no_position p xs k x none is passes =
    let less = pol_before p xs k x is passes in
    let below = slice_get_within xs k x is in
    let test : nat_lt (position_or_len p xs) (length xs) ≡ true = (let both : position_or_len p xs < length xs = omega (arith, less, below) in grind (arith, nat_tests)) in
    none_is (position_or_len p xs) (sym none ∙ when_lt (nat_lt (position_or_len p xs) (length xs)) test)
  where
    when_lt : (b : Bool) → b ≡ true → (if b then Some (position_or_len p xs) else None) ≡ Some (position_or_len p xs)
    when_lt true e = refl
    when_lt false e = absurd cc

pub at_position : {X : Type 0} (p : X → Bool) (xs : List X) (i : ℕ) (x : X) → slice_get xs i ≡ Some x → p x ≡ true
    → ((k : ℕ) (y : X) → k < i → slice_get xs k ≡ Some y → p y ≡ false) → position p xs ≡ Some i
at_position p xs i x is passes others =
    let at = pol_is p xs i x is passes others in
    let below = slice_get_within xs i x is in
    let test : nat_lt (position_or_len p xs) (length xs) ≡ true = (let both : position_or_len p xs < length xs = omega (arith, at, below) in grind (arith, nat_tests)) in
    when_lt (nat_lt (position_or_len p xs) (length xs)) test ∙ ap (λ (n : ℕ). Some n) at
  where
    when_lt : (b : Bool) → b ≡ true → (if b then Some (position_or_len p xs) else None) ≡ Some (position_or_len p xs)
    when_lt true e = refl
    when_lt false e = absurd cc

none_each : {X Y : Type 0} (f : ℕ × X → Option Y) (n : ℕ) (xs : List X) (k : ℕ) (x : X) → is_some (given f n xs) ≡ false → slice_get xs k ≡ Some x
    → f (n + k, x) ≡ None
none_each f n [] k x none is = absurd (none_is x is)
none_each {X} {Y} f n (y ∷ ys) k x none is = by_first (f (n, y)) refl (λ (j : ℕ) rest at. none_each f (n + 1) ys j x rest at) k is
  where
    by_first : (o : Option Y) → f (n, y) ≡ o → ((j : ℕ) → is_some (given f (n + 1) ys) ≡ false → slice_get ys j ≡ Some x → f (n + 1 + j, x) ≡ None)
        → (j : ℕ) → slice_get (y ∷ ys) j ≡ Some x → f (n + j, x) ≡ None
    by_first (Some z) e rest j at = absurd (never (ap is_some (sym (given_cons f n y ys (Some z) e)) ∙ none))
    by_first None e rest zero at =
        subst (λ (m : ℕ). f (m, x) ≡ None) (omega arith) (subst (λ (v : X). f (n, v) ≡ None) (some_same y x at) e)
    by_first None e rest (suc j) at =
        subst (λ (m : ℕ). f (m, x) ≡ None) (omega arith) (rest j (ap is_some (sym (given_cons f n y ys None e)) ∙ none) at)

none_front : {Y : Type 0} (xs ys : List Y) → is_some (first (xs ++ ys)) ≡ false → is_some (first xs) ≡ false
none_front [] ys h = refl
none_front (x ∷ xs) ys h = h

none_back : {Y : Type 0} (xs ys : List Y) → is_some (first (xs ++ ys)) ≡ false → is_some (first ys) ≡ false
none_back [] ys h = h
none_back (x ∷ xs) ys h = absurd (never h)

unmapped : {X Y : Type 0} (f : X → Y) (o : Option X) → option_map f o ≡ None → o ≡ None
unmapped f None e = refl
unmapped f (Some x) e = absurd cc

no_same_id : (config : ConfigSays) → IsSoundConfig config → (i : ℕ) (x : Member) → slice_get config.members i ≡ Some x
    → position (has_id x.id) (drop (i + 1) config.members) ≡ None
no_same_id config sound i x is =
    let times = filter_map time_fault (enumerate_from 0 config.tickets) in
    let same = filter_map (same_id config.members) (enumerate_from 0 config.members) in
    let ids = filter_map reserved_id (enumerate_from 0 config.members) in
    let none : is_some (given (same_id config.members) 0 config.members) ≡ false =
    none_front same times (none_back ids (same ++ times)
    (none_back (no_ticket config.tickets) (ids ++ (same ++ times))
    (none_back (no_site config.members) (no_ticket config.tickets ++ (ids ++ (same ++ times))) sound.no_fault))) in
    subst (λ (n : ℕ). position (has_id x.id) (drop (n + 1) config.members) ≡ None) (omega arith)
    (unmapped _ (position (has_id x.id) (drop (0 + i + 1) config.members)) (none_each (same_id config.members) 0 config.members i x none is))

slice_drop : {X : Type 0} (n k m : ℕ) (xs : List X) (x : X) → m ≡ n + k → slice_get xs m ≡ Some x → slice_get (drop n xs) k ≡ Some x
slice_drop {X} zero k m xs x e is = subst (λ (j : ℕ). slice_get xs j ≡ Some x) (omega (arith, e)) is
slice_drop (suc n) k m [] x e is = absurd (none_is x is)
slice_drop (suc n) k zero (y ∷ ys) x e is = absurd (omega (arith, e))
slice_drop (suc n) k (suc m) (y ∷ ys) x e is = slice_drop n k m ys x (omega (arith, e)) is

same_number : (a b : MemberId) → a.0 == b.0 ≡ true → b.0 == a.0 ≡ true
same_number a b e = grind (arith, nat_tests)

own_number : (a : MemberId) → a.0 == a.0 ≡ true
own_number a = grind (arith, nat_tests)

pub member_at : (config : ConfigSays) → IsSoundConfig config → (m : ℕ) (x : Member) → slice_get config.members m ≡ Some x
    → position (has_id x.id) config.members ≡ Some m
member_at config sound m x is =
    at_position (has_id x.id) config.members m x is (own_number x.id) (λ k y less at. by_test k y less at (has_id x.id y) refl)
  where
    by_test : (k : ℕ) (y : Member) → k < m → slice_get config.members k ≡ Some y → (b : Bool) → has_id x.id y ≡ b → has_id x.id y ≡ false
    by_test k y less at false e = e
    by_test k y less at true e =
        absurd (no_position (has_id y.id) (drop (k + 1) config.members) (m - (k + 1)) x (no_same_id config sound k y at)
        (slice_drop (k + 1) (m - (k + 1)) m config.members x (omega (arith, less)) is) (same_number y.id x.id e))

-- ---- the setting

module _ (config : ConfigSays) (sound : IsSoundConfig config) where
  the_member : (m : ℕ) → m < length config.members → (x : Member) × (slice_get config.members m ≡ Some x)
  the_member m below = by_get (slice_get config.members m) refl (slice_get_cases config.members m).1
    where
      by_get : (o : Option Member) → slice_get config.members m ≡ o
          → ((x : Member) × (m < length config.members) × (slice_get config.members m ≡ Some x) × (get_or config.members m x ≡ x))
          ⊎ ((length config.members ≤ m) × (slice_get config.members m ≡ None))
          → (x : Member) × (slice_get config.members m ≡ Some x)
      by_get o e (inl h) = (h.0, h.2)
      by_get o e (inr h) = absurd (omega (arith, below, h.0))

  -- the id of the member at a place has this place
  pub id_apart : (m : ℕ) → m < length config.members
      → position (has_id (option_map_or (λ (member : Member). member.id) (slice_get config.members m) NO_ONE)) config.members ≡ Some m
  id_apart m below =
      let q = the_member m below in
      subst (λ (o : Option Member). position (has_id (option_map_or (λ (member : Member). member.id) o NO_ONE)) config.members ≡ Some m)
      (sym q.1) (member_at config sound m q.0 q.1)

  -- so few sites come before a member
  pub few_before : (n : ℕ) (ws : List ℕ) → n < length config.members
      → (if is_site_at config.members n then rank_of config.members ws n else 0) < 16
  few_before n ws below = by_test (is_site_at config.members n)
    where
      few : rank_of config.members ws n < 16
      few =
          let q = the_member n below in
          rank_below (λ x. Unit {0}) config.members ws n 16
          (subst (λ (o : Option Member). IsSomeAnd o (λ x. Unit {0})) (sym q.1) tt) sound.few_members

      by_test : (b : Bool) → (if b then rank_of config.members ws n else 0) < 16
      by_test true = few
      by_test false = omega arith

  pub timed_so : (place : ℕ) (ticket : TicketConf) → slice_get config.tickets place ≡ Some ticket → HasTimes ticket
  timed_so place ticket is =
      subst HasTimes (get_or_from_slice_get config.tickets place ticket ticket is)
      (tickets_timed config sound place ticket (slice_get_within config.tickets place ticket is))

pub ids_apart : (w : World) → HasForm w → (m : ℕ) → m < members_of w → position (has_id (id_at w m)) w.members ≡ Some m
ids_apart w form m below =
    subst (λ (ms : List Member). position (has_id (option_map_or (λ (member : Member). member.id) (slice_get ms m) NO_ONE)) ms ≡ Some m)
    form.said.2 (id_apart form.said.0 form.said.1 m (subst (λ (ms : List Member). m < length ms) (sym form.said.2) below))

few_so : (rank : ℕ) → nat_lt rank 16 ≡ true → rank < 16
few_so rank few = grind (arith, nat_tests)

pub setup_sound : (w : World) → HasForm w → (ticket : TicketConf) → IsOneTicket w ticket → (m : ℕ) → m < members_of w
    → (session : Session) → IsSound (setup_for w ticket m session)
setup_sound w form ticket one m below session =
    let timed : HasTimes ticket = timed_so one.config one.sound one.place ticket one.said in
    let expire = timed.expire in
    let after = timed.after in
    let timeout = timed.timeout in
    record {
      place = below;
      members = subst (λ (ms : List Member). length ms ≤ 16) form.said.2 form.said.1.few_members;
      rank = few_so session.rank session.few;
      expire = expire;
      after = after;
      timeout = timeout;
      renewal = timed.renewal;
      retries = timed.retries;
    }

-- a setting, with what is known of its starts
abbrev pub going_on : (w : World) (ticket : TicketConf) (going : Bool) → (going ≡ true → RecordsGoOn w) → Setting w ticket → Setting w ticket
going_on w ticket going recs setting = record {
  most = setting.most;
  enough = setting.enough;
  automatic = setting.automatic;
  ids = setting.ids;
  same = setting.same;
  goes_on = going;
  on = recs;
  sound = setting.sound;
}

pub setting_of : (w : World) → HasForm w → (ticket : TicketConf) → IsOneTicket w ticket → ticket.manual ≡ false → Setting w ticket
setting_of w form ticket one automatic = record {
  most = 2 ^ 64;
  enough = omega arith;
  automatic = automatic;
  ids = ids_apart w form;
  same = one.same;
  goes_on = false;
  on = λ going. absurd (not_up going);
  sound = setup_sound w form ticket one;
}

-- a sound configuration finds a ticket by its name at its place
pub found_at : (config : ConfigSays) → IsSoundConfig config → (place : ℕ) (own : TicketConf) → slice_get config.tickets place ≡ Some own
    → (name : List ℕ) → own.name ≡ name → position (is_called name) config.tickets ≡ Some place
found_at config sound place own is name named =
    at_position (is_called name) config.tickets place own is (same_bytes name own.name (sym named))
    (λ k other less at. other_bytes name other.name
    (λ same. names_apart config sound place k own other is at (λ e. absurd (omega (arith, less, e))) (sym same ∙ sym named)))

-- and what it finds has that name
pub found_named : (config : ConfigSays) (place : ℕ) (own : TicketConf) → slice_get config.tickets place ≡ Some own → (name : List ℕ)
    → position (is_called name) config.tickets ≡ Some place → own.name ≡ name
found_named config place own there name at =
    sym (equal_bytes name own.name
    (subst (λ (t : TicketConf). is_called name t ≡ true) (get_or_from_slice_get config.tickets place own own there)
    (position-Some (is_called name) config.tickets place own at).1))

pub found_there : (config : ConfigSays) (place : ℕ) (name : List ℕ) → position (is_called name) config.tickets ≡ Some place
    → (own : TicketConf) × (slice_get config.tickets place ≡ Some own)
found_there config place name at = by_get (slice_get config.tickets place) refl
  where
    by_get : (o : Option TicketConf) → slice_get config.tickets place ≡ o → (own : TicketConf) × (slice_get config.tickets place ≡ Some own)
    by_get (Some own) is = (own, is)
    by_get None none = by_cases (slice_get_cases config.tickets place).1
      where
        no_room : (ts : List TicketConf) → length ts ≤ place → position (is_called name) ts ≡ Some place → ⊥
        no_room [] out found = absurd cc
        no_room (x ∷ ts) out found =
            let inside = (position-Some (is_called name) (x ∷ ts) place x found).0 in
            omega (arith, out, inside)

        by_cases : ((x : TicketConf) × (place < length config.tickets) × (slice_get config.tickets place ≡ Some x) × (get_or config.tickets place x ≡ x))
            ⊎ ((length config.tickets ≤ place) × (slice_get config.tickets place ≡ None))
            → (own : TicketConf) × (slice_get config.tickets place ≡ Some own)
        by_cases (inl h) = absurd (none_is h.0 (sym none ∙ h.2))
        by_cases (inr h) = absurd (no_room config.tickets h.0 at)

-- ---- sessions

-- what a member's session has of its own of the ticket at a place
pub session_of : (w : World) (ticket : TicketConf) (setting : Setting w ticket) (m : ℕ) (node : NodeConfig) → m < members_of w → IsNodeOf w m node
    → (place : ℕ) → (rank : ℕ) × (nat_lt rank MEMBERS ≡ true) × (rank_at node place ≡ rank)
session_of w ticket setting m node below is place =
    (rank_at node place, few_test (rank_at node place) (few_before node.config is.sound (own_place node) (weights_at node.config.tickets place) within), refl)
  where
    within : own_place node < length node.config.members
    within =
        let here : own_place node ≡ m = own_place_of w ticket setting m node below is in
        let all : length node.config.members ≡ members_of w = ap (λ (ms : List Member). length ms) is.members in
        omega (arith, here, all, below)

    few_test : (rank : ℕ) → rank < 16 → nat_lt rank 16 ≡ true
    few_test rank few = grind (arith, nat_tests)

-- a start that has the ticket is in a session in which its node has it
pub seats_of : (w : World) (ticket : TicketConf) (setting : Setting w ticket) (m : ℕ) (node : NodeConfig) → m < members_of w → IsNodeOf w m node
    → (place : ℕ) (conf : TicketConf) → slice_get node.config.tickets place ≡ Some conf → conf.name ≡ ticket.name → conf.times ≡ ticket.times
    → (session : Session) × (session.second ≡ node.second) × (seats : Seats w ticket setting m session node) × (seats.place ≡ place) × (seats.conf ≡ conf)
seats_of w ticket setting m node below is place conf there named timed =
    let r = session_of w ticket setting m node below is place in
    let session : Session = record { second = node.second; phase = 0; steady = conf.steady; rank = r.0; few = r.1 } in (
      session,
      refl,
      record {
        own = is;
        place = place;
        conf = conf;
        there = there;
        named = named;
        same = ap (λ (name : List ℕ). setup_by name conf.times node.config.members node.me (own_place node) (rank_at node place) node.second conf.steady) named
            ∙ ap (λ (times : Times). setup_by ticket.name times node.config.members node.me (own_place node) (rank_at node place) node.second conf.steady) timed
            ∙ ap (λ (members : List Member). setup_by ticket.name ticket.times members node.me (own_place node) (rank_at node place) node.second conf.steady) is.members
            ∙ ap (λ (id : MemberId). setup_by ticket.name ticket.times w.members id (own_place node) (rank_at node place) node.second conf.steady) is.me
            ∙ ap (λ (n : ℕ). setup_by ticket.name ticket.times w.members (id_at w m) n (rank_at node place) node.second conf.steady)
            (own_place_of w ticket setting m node below is)
            ∙ ap (λ (rank : ℕ). setup_by ticket.name ticket.times w.members (id_at w m) m rank node.second conf.steady) r.2;
        first = refl;
      },
      refl,
      refl,
    )

-- ---- one configuration

pub one_configuration_is_enough : OneConfigurationIsEnough
one_configuration_is_enough w config sound starts place ticket is = record {
  config = config;
  sound = sound;
  place = place;
  said = is;
  same = λ before after entry whole. by_what entry.what (starts before after entry whole);
}
  where
    in_it : (other : ℕ) (own : TicketConf) → slice_get config.tickets other ≡ Some own → own.name ≡ ticket.name
        → (own.manual ≡ ticket.manual) × (own.times ≡ ticket.times)
    in_it other own at named = by_place (same_or_not other place)
      where
        by_place : (other ≡ place) ⊎ (other ≢ place) → (own.manual ≡ ticket.manual) × (own.times ≡ ticket.times)
        by_place (inr ne) = absurd (names_apart config sound place other ticket own is at ne named)
        by_place (inl e) =
            let same : own ≡ ticket = some_same own ticket (sym at ∙ ap (λ (n : ℕ). slice_get config.tickets n) e ∙ is) in
            (ap (λ (t : TicketConf). t.manual) same, ap (λ (t : TicketConf). t.times) same)

    by_what : (what : SessionEntry) → StartsIn config what → StartsWithIt ticket what
    by_what (Starts node reading records) same = λ other own at named.
        in_it other own (subst (λ (c : ConfigSays). slice_get c.tickets other ≡ Some own) same at) named
    by_what (Makes call) same = tt
    by_what (IsCut call) same = tt
