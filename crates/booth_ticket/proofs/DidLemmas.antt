-- What hands did, one tree after the other.
use Rattle.std.proofs.Common.{◌≡◌, ℕ, ◌+◌, ◌<◌, ◌≤◌, Bool, List, [], ◌∷◌, ◌++◌, length, take, get_or, refl, ap, sym, ◌∙◌, subst}
use Rattle.std.proofs.lemmas.List.{take_more, map-append, take-append-drop}
use Rattle.std.proofs.Math.ListN.{drop_of_length-le}
use Rattle.std.proofs.Common.{append-nil}
use Rattle.booth_base.specs.Tree.{Deeds, Ends, Does, ◌>>=◌, each}
use Rattle.booth_base.proofs.TreeLemmas.{leads_then, each_on, each_one}
use Rattle.booth_wire.specs.declared.message.Head.{Head}
use Rattle.booth_wire.specs.declared.message.TicketPart.{TicketPart}
use Rattle.booth_ticket.specs.declared.hands.To.TheVariants.{Member}
use Rattle.booth_ticket.specs.Acts.{Ask, Act, IsAct, Dids, Did, said, said_to_each}

-- ---- what hands did

pub chain_on : {X : Type 0} (did : X → Act → X → Type 0) (a b c : X) (xs ys : List Act) →
    Dids did a xs b → Dids did b ys c → Dids did a (xs ++ ys) c
chain_on {X} did a b c [] ys first later = subst (λ (x : X). Dids did x ys c) first later
chain_on did a b c (x ∷ xs) ys first later =
    (first.0, first.1, chain_on did first.0 b c xs ys first.2 later)

module _ {X : Type 0} {did : X → Act → X → Type 0} where
  -- a tree was done, and then what follows from what it left
  pub did_then : {S T : Type 0} {t : Deeds Ask S} {x : S} {y : T} {a b c : X} (f : S → Deeds Ask T)
      → Did did t x a b → Did did (f x) y b c → Did did (t >>= f) y a c
  did_then {t = t} {x = x} {y = y} {a = a} {b = b} {c = c} f first later = record {
    acts = first.acts ++ later.acts;
    chain = chain_on did a b c first.acts later.acts first.chain later.chain;
    leads = leads_then IsAct t f x (Ends y) first.acts later.acts first.leads later.leads;
  }

  -- nothing was left to do
  pub did_end : {S : Type 0} {x : S} {a : X} → Did did (Ends x) x a a
  did_end = record { acts = []; chain = refl; leads = refl }

  -- one ask was done, and then what follows from its answer
  pub did_ask : {S : Type 0} {ask : Ask} {ok : Bool} {y : S} {a b c : X} (f : Bool → Deeds Ask S)
      → did a (record { ask = ask; ok = ok }) b → Did did (f ok) y b c → Did did (Does ask f) y a c
  did_ask {ask = ask} {ok = ok} {b = b} f done later = record {
    acts = record { ask = ask; ok = ok } ∷ later.acts;
    chain = (b, done, later.chain);
    leads = (ok, refl, later.leads);
  }

  -- one ask was done, and what its answer leaves is the end
  pub did_last : {S : Type 0} {ask : Ask} {a b : X} (ok : Bool) (f : Bool → S)
      → did a (record { ask = ask; ok = ok }) b → Did did (Does ask (λ ok. Ends (f ok))) (f ok) a b
  did_last ok f done = did_ask (λ ok. Ends (f ok)) done did_end

  -- the same, of an equal tree and of what is equally left
  pub did_as : {S : Type 0} {t t' : Deeds Ask S} {x x' : S} {a b : X} → t ≡ t' → x ≡ x' → Did did t x a b → Did did t' x' a b
  did_as {S} {a = a} {b = b} is left_is done =
      subst (λ (both : Deeds Ask S × S). Did did both.0 both.1 a b) (λ i. (is i, left_is i)) done

  -- a loop: before the first, one more, and all
  pub did_one_more : {B : Type 0} (f : B → Deeds Ask (Unit {0})) (xs : List B) (i : ℕ) (d : B) {a b c : X} → i < length xs
      → Did did (each f (take i xs)) tt a b → Did did (f (get_or xs i d)) tt b c → Did did (each f (take (i + 1) xs)) tt a c
  did_one_more f xs i d below first later =
      did_as
      (sym (ap (λ ys. each f ys) (take_more xs i d below) ∙ each_on f (take i xs) (get_or xs i d ∷ [])
      ∙ ap (λ t. each f (take i xs) >>= (λ done. t)) (each_one f (get_or xs i d))))
      refl
      (did_then (λ done. f (get_or xs i d)) first later)

  pub did_all : {B : Type 0} (f : B → Deeds Ask (Unit {0})) (xs : List B) (i : ℕ) {a b : X} → length xs ≤ i
      → Did did (each f (take i xs)) tt a b → Did did (each f xs) tt a b
  did_all f xs i past done =
      did_as (ap (λ ys. each f ys)
      (sym (append-nil (take i xs)) ∙ ap (λ ys. take i xs ++ ys) (sym (drop_of_length-le xs past)) ∙ take-append-drop i xs))
      refl done

-- the same message said to one member more
pub said_more : {X : Type 0} (did : X → Act → X → Type 0) (a b c : X) (places : List ℕ) (i d : ℕ)
    (head : Head) (part : TicketPart) → i < length places
    → Dids did a (said_to_each (take i places) head part) b
    → did b (said (Member (get_or places i d)) head part) c
    → Dids did a (said_to_each (take (i + 1) places) head part) c
said_more did a b c places i d head part below before one =
    subst (λ (acts : List Act). Dids did a acts c)
    (sym (map-append (λ place. said (Member place) head part) (take i places)
    (get_or places i d ∷ []))
    ∙ ap (λ (ps : List ℕ). said_to_each ps head part) (sym (take_more places i d below)))
    (chain_on did a b c (said_to_each (take i places) head part)
    (said (Member (get_or places i d)) head part ∷ []) before (c, one, refl))

-- a call behind a call, and nothing left to do
pub ruleset did_calls = (did_then, did_end)
