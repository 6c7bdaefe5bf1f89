-- The ticket at a place.
use Rattle.std.proofs.Common.{◌≡◌, ◌≢◌, ◌<◌, ◌≤◌, ◌⊎◌, inl, inr, ℕ, List, length, slice_get, get_or, refl, sym, ap, ◌∙◌, subst, arith}
use Rattle.std.specs.Prelude.{Option, Some, None, IsSomeAnd, position}
use Rattle.std.specs.List.{All}
use Rattle.booth_base.specs.declared.address.MemberId.{MemberId}
use Rattle.booth_conf.specs.Config.{has_id}
use Rattle.booth_conf.specs.declared.members.Member.{Member}
use Rattle.booth_wire.specs.declared.message.Head.{Head}
use Rattle.booth_wire.specs.declared.message.Setup.{Setup}
use Rattle.booth_wire.specs.declared.message.TicketPart.{TicketPart}
use Rattle.booth_ticket.specs.Ticket.{TicketState}
use Rattle.booth_node.specs.declared.event.Event.TheVariants.{Heard}
use Rattle.booth_node.specs.Acting.{IsSetAt, MayBefall}
use Rattle.booth_node.specs.Ours.{IsOurs}
use Rattle.std.proofs.lemmas.List.Elements.{All-set}
use Rattle.std.proofs.lemmas.Option.{get_or_from_slice_get, slice_get_cases, slice_get_within}

pub the_value : {A : Type 0} (P : A → Type 0) (o : Option A) → IsSomeAnd o P → (x : A) × (o ≡ Some x) × P x
the_value P None h = absurd h
the_value P (Some x) h = (x, refl, h)

-- what was read at the place is the one there
pub read_at : {A : Type 0} (P : A → Type 0) (xs : List A) (i : ℕ) (d x : A) → x ≡ get_or xs i d
    → IsSomeAnd (slice_get xs i) P
    → (slice_get xs i ≡ Some x) × P x
read_at {A} P xs i d x read some =
    let v : (y : A) × (slice_get xs i ≡ Some y) × P y = the_value P (slice_get xs i) some in
    let same : v.0 ≡ x = sym (get_or_from_slice_get xs i v.0 d v.1) ∙ sym read in
    (v.1 ∙ ap (λ (y : A). Some y) same, subst P same v.2)

-- what holds of all holds of the one at a place
pub all_at : {A : Type 0} (P Q : A → Type 0) (xs : List A) (i : ℕ) → i < length xs → All P xs
    → ((x : A) → P x → Q x)
    → IsSomeAnd (slice_get xs i) Q
all_at {A} P Q xs i below all gives = by_cases (slice_get_cases xs i).1
  where
    by_cases : ((x : A) × (i < length xs) × (slice_get xs i ≡ Some x) × (get_or xs i x ≡ x)) ⊎
        ((length xs ≤ i) × (slice_get xs i ≡ None))
        → IsSomeAnd (slice_get xs i) Q
    by_cases (inl h) = subst (λ (o : Option A). IsSomeAnd o Q) (sym h.2)
        (gives h.0 (subst P h.3 (all i h.0 below)))
    by_cases (inr h) = absurd (omega (arith, below, h.0))

-- what another member says may befall each of them
pub may_hear : (me : MemberId) (members : List Member) (tickets : List TicketState) (from place now : ℕ)
    (head : Head)
    (part : TicketPart) → All (IsOurs me members) tickets → place < length tickets → from < length members
    → position (has_id me) members ≢ Some from
    → IsSomeAnd (slice_get tickets place) (λ t. MayBefall t (Heard from head part) now)
may_hear me members tickets from place now head part ours below member other =
    all_at (IsOurs me members) (λ t. MayBefall t (Heard from head part) now) tickets place below ours
    (λ t our. (
      subst (λ (n : ℕ). from < n) (sym our.all_members) member,
      λ (e : from ≡ t.setup.place). other (our.own ∙ ap (λ (n : ℕ). Some n) (sym e)),
    ))

-- the tickets are still the node's where another stands at one place, with the same setup
pub still_ours : (me : MemberId) (members : List Member) (place : ℕ) (tickets tickets' : List TicketState)
    → IsSetAt tickets place tickets' → All (IsOurs me members) tickets
    → All (IsOurs me members) tickets'
still_ours me members place tickets tickets' set ours =
    let before : IsOurs me members set.before =
    subst (λ (o : Option TicketState). IsSomeAnd o (IsOurs me members)) set.there
    (all_at (IsOurs me members) (IsOurs me members) tickets place
    (slice_get_within tickets place set.before set.there) ours (λ t our. our)) in
    let after : IsOurs me members set.after = record {
      all_members = ap (λ (s : Setup). s.members) set.same ∙ before.all_members;
      own = before.own ∙ ap (λ (s : Setup). Some s.place) (sym set.same);
    } in
    subst (λ (ts : List TicketState). All (IsOurs me members) ts) (sym set.is)
    (All-set (IsOurs me members) tickets place set.after after ours)
