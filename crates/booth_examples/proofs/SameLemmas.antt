-- What the tests say is the same, is.
use Rattle.std.proofs.Common.{◌≡◌, ℕ, Bool, true, false, ◌==◌, List, [], ◌∷◌, refl, ap}
use Rattle.std.specs.Prelude.{Some, None, bytes_eq}
use Rattle.std.proofs.lemmas.Bool.{and_parts, eqb-true}
use Rattle.std.proofs.lemmas.Slice.Eq.{bytes_eq-Decides}
use Rattle.booth_base.specs.declared.address.Address.TheVariants.{V4, V6}
use Rattle.booth_base.specs.declared.address.MemberId.{MemberId}
use Rattle.booth_examples.specs.Same.{same_bool, same_option, same_list, same_id, same_address, same_peer, same_member, same_lease, same_promise, same_record, same_times, same_job}

pub no_test : {A : Type 0} → false ≡ true → A
no_test e = absurd (cc)

pub bytes_are : (a b : List ℕ) → bytes_eq a b ≡ true → a ≡ b
bytes_are a b e = (bytes_eq-Decides a b).0 e

pub bool_is : (a b : Bool) → same_bool a b ≡ true → a ≡ b
bool_is true true e = refl
bool_is true false e = no_test e
bool_is false true e = no_test e
bool_is false false e = refl

-- a test that is right
abbrev pub IsRight : {A : Type 0} → (A → A → Bool) → Type 0
IsRight {A} same = (a b : A) → same a b ≡ true → a ≡ b

pub option_is : {A : Type 0} (same : A → A → Bool) → IsRight same → IsRight (same_option same)
option_is same right None None e = refl
option_is same right (Some a) (Some b) e = ap (λ x. Some x) (right a b e)
option_is same right None (Some b) e = no_test e
option_is same right (Some a) None e = no_test e

pub list_is : {A : Type 0} (same : A → A → Bool) → IsRight same → IsRight (same_list same)
list_is same right [] [] e = refl
list_is same right (a ∷ xs) (b ∷ ys) e =
    let q = and_parts (same a b) (same_list same xs ys) e in
    let head : a ≡ b = right a b q.0 in
    let tail : xs ≡ ys = list_is same right xs ys q.1 in
    cc
list_is same right [] (b ∷ ys) e = no_test e
list_is same right (a ∷ xs) [] e = no_test e

pub id_is : IsRight same_id
id_is a b e = let n : a.0 ≡ b.0 = eqb-true a.0 b.0 e in ap (λ (k : ℕ). let i : MemberId = record { 0 = k } in i) n

pub address_is : IsRight same_address
address_is (V4 a) (V4 b) e = ap (λ x. V4 x) (bytes_are a b e)
address_is (V6 a) (V6 b) e = ap (λ x. V6 x) (bytes_are a b e)
address_is (V4 a) (V6 b) e = no_test e
address_is (V6 a) (V4 b) e = no_test e

pub peer_is : IsRight same_peer
peer_is a b e =
    let q = and_parts (same_address a.address b.address) (a.port == b.port) e in
    let address : a.address ≡ b.address = address_is a.address b.address q.0 in
    let port : a.port ≡ b.port = eqb-true a.port b.port q.1 in
    λ i. record { address = address i; port = port i }

pub member_is : IsRight same_member
member_is a b e =
    let q = and_parts (same_bool a.site b.site) _ e in
    let r = and_parts (same_address a.address b.address) _ q.1 in
    let site : a.site ≡ b.site = bool_is a.site b.site q.0 in
    let address : a.address ≡ b.address = address_is a.address b.address r.0 in
    let id : a.id ≡ b.id = id_is a.id b.id r.1 in
    λ i. record { site = site i; address = address i; id = id i }

pub lease_is : IsRight same_lease
lease_is a b e =
    let q = and_parts (a.term == b.term) _ e in
    let term : a.term ≡ b.term = eqb-true a.term b.term q.0 in
    let until : a.until ≡ b.until = eqb-true a.until b.until q.1 in
    λ i. record { term = term i; until = until i }

pub promise_is : IsRight same_promise
promise_is a b e =
    let q = and_parts (same_id a.to b.to) _ e in
    let r = and_parts (a.term == b.term) _ q.1 in
    let to : a.to ≡ b.to = id_is a.to b.to q.0 in
    let term : a.term ≡ b.term = eqb-true a.term b.term r.0 in
    let until : a.until ≡ b.until = eqb-true a.until b.until r.1 in
    λ i. record { to = to i; term = term i; until = until i }

pub record_is : IsRight same_record
record_is a b e =
    let q = and_parts (a.version == b.version) _ e in
    let r = and_parts (a.term == b.term) _ q.1 in
    let s = and_parts (same_option same_lease a.lease b.lease) _ r.1 in
    let t = and_parts (same_option same_id a.bound b.bound) _ s.1 in
    let u = and_parts (same_option same_promise a.promise b.promise) _ t.1 in
    let version : a.version ≡ b.version = eqb-true a.version b.version q.0 in
    let term : a.term ≡ b.term = eqb-true a.term b.term r.0 in
    let lease : a.lease ≡ b.lease = option_is same_lease lease_is a.lease b.lease s.0 in
    let bound : a.bound ≡ b.bound = option_is same_id id_is a.bound b.bound t.0 in
    let promise : a.promise ≡ b.promise = option_is same_promise promise_is a.promise b.promise u.0 in
    let abstain : a.abstain ≡ b.abstain = eqb-true a.abstain b.abstain u.1 in
    λ i. record {
      version = version i;
      term = term i;
      lease = lease i;
      bound = bound i;
      promise = promise i;
      abstain = abstain i;
    }

pub times_are : IsRight same_times
times_are a b e =
    let q = and_parts (a.expire == b.expire) _ e in
    let r = and_parts (a.after == b.after) _ q.1 in
    let s = and_parts (a.timeout == b.timeout) _ r.1 in
    let t = and_parts (a.retries == b.retries) _ s.1 in
    let expire : a.expire ≡ b.expire = eqb-true a.expire b.expire q.0 in
    let after : a.after ≡ b.after = eqb-true a.after b.after r.0 in
    let timeout : a.timeout ≡ b.timeout = eqb-true a.timeout b.timeout s.0 in
    let retries : a.retries ≡ b.retries = eqb-true a.retries b.retries t.0 in
    let renewal : a.renewal ≡ b.renewal = eqb-true a.renewal b.renewal t.1 in
    λ i. record { expire = expire i; after = after i; timeout = timeout i; retries = retries i; renewal = renewal i }

pub job_is : IsRight same_job
job_is a b e =
    let q = and_parts (a.number == b.number) _ e in
    let r = and_parts (bytes_eq a.ticket b.ticket) _ q.1 in
    let s = and_parts (bytes_eq a.handler b.handler) _ r.1 in
    let t = and_parts (same_address a.local b.local) _ s.1 in
    let number : a.number ≡ b.number = eqb-true a.number b.number q.0 in
    let ticket : a.ticket ≡ b.ticket = bytes_are a.ticket b.ticket r.0 in
    let handler : a.handler ≡ b.handler = bytes_are a.handler b.handler s.0 in
    let local : a.local ≡ b.local = address_is a.local b.local t.0 in
    let expires : a.expires ≡ b.expires = eqb-true a.expires b.expires t.1 in
    λ i. record { number = number i; ticket = ticket i; handler = handler i; local = local i; expires = expires i }
