-- How the past grows over several calls.
use Rattle.std.specs.Prelude.{Option, None, Some, IsSome}
use Rattle.std.proofs.Common.{◌≡◌, List, [], ◌∷◌, ◌++◌, refl, sym, ◌∙◌, ap, append_assoc, append-nil, subst}
use Rattle.booth_host.specs.declared.entry.Entry.{Entry}
use Rattle.booth_host.specs.Past.{grown, GrewBy, GrewSome}

grown-grown : (a : Option (List Entry)) (xs ys : List Entry) → grown (grown a xs) ys ≡ grown a (xs ++ ys)
grown-grown None xs ys = refl
grown-grown (Some past) xs ys = ap Some (append_assoc past xs ys)

IsSome-grown : (a : Option (List Entry)) (xs : List Entry) → IsSome (grown a xs) → IsSome a
IsSome-grown None xs told = told
IsSome-grown (Some past) xs told = refl

grown-nil : (a : Option (List Entry)) → a ≡ grown a []
grown-nil None = refl
grown-nil (Some past) = ap Some (sym (append-nil past))

-- no call
pub no_entry : {a : Option (List Entry)} → GrewBy a a []
no_entry {a} = record { grew = λ told. grown-nil a }

-- one part after another
pub joined : {a b c : Option (List Entry)} {xs ys : List Entry} → GrewBy a b xs → GrewBy b c ys → GrewBy a c (xs ++ ys)
joined {a} {b} {c} {xs} {ys} first second = record {
  grew = λ told.
      let last : c ≡ grown b ys = second.grew told in
      let told_b : IsSome b = IsSome-grown b ys (subst IsSome last told) in
      last ∙ ap (λ p. grown p ys) (first.grew told_b) ∙ grown-grown a xs ys;
}

-- one entry, and then the others
pub one_more : {a b c : Option (List Entry)} {x : Entry} {ys : List Entry} → GrewBy a b (x ∷ []) → GrewBy b c ys → GrewBy a c (x ∷ ys)
one_more first second = joined first second

-- a last entry
pub one_last : {a b c : Option (List Entry)} {xs : List Entry} {y : Entry} → GrewBy a b xs → GrewBy b c (y ∷ []) → GrewBy a c (xs ++ y ∷ [])
one_last first second = joined first second

pub some_of : (P : List Entry → Type 0) {a b : Option (List Entry)} {xs : List Entry} → GrewBy a b xs → P xs → GrewSome P a b
some_of P {a} {b} {xs} grew holds = record { grew = λ told. (xs, grew.grew told, holds) }

-- what came after is added, where P of the first part and the second gives Q of the whole
pub some_joined : (P Q R : List Entry → Type 0) {a b c : Option (List Entry)} →
    ((xs ys : List Entry) → P xs → Q ys → R (xs ++ ys)) → GrewSome P a b → GrewSome Q b c → GrewSome R a c
some_joined P Q R {a} {b} {c} both first second = record {
  grew = λ told.
      let later = second.grew told in
      let told_b : IsSome b = IsSome-grown b later.0 (subst IsSome later.1 told) in
      let earlier = first.grew told_b in
      (earlier.0 ++ later.0, later.1 ∙ ap (λ p. grown p later.0) earlier.1 ∙ grown-grown a earlier.0 later.0, both earlier.0 later.0 earlier.2 later.2);
}

-- where P gives Q
pub some_weaker : (P Q : List Entry → Type 0) {a b : Option (List Entry)} → ((xs : List Entry) → P xs → Q xs) → GrewSome P a b → GrewSome Q a b
some_weaker P Q gives some = record { grew = λ told. let s = some.grew told in (s.0, s.1, gives s.0 s.2) }

-- these entries, and then some of which Q holds
pub then_some : (Q R : List Entry → Type 0) {a b c : Option (List Entry)} {xs : List Entry} →
    GrewBy a b xs → ((ys : List Entry) → Q ys → R (xs ++ ys)) → GrewSome Q b c → GrewSome R a c
then_some Q R {xs = xs} first gives later =
    let these : List Entry → Type 0 = λ zs. zs ≡ xs in
    some_joined these Q R (λ zs ys e h. let P : List Entry → Type 0 = λ ws. R (ws ++ ys) in subst P (sym e) (gives ys h)) (some_of these first refl) later

-- one entry behind no entry
pub one_behind_none : {a b c : Option (List Entry)} {x : Entry} → GrewBy a b [] → GrewBy b c (x ∷ []) → GrewBy a c (x ∷ [])
one_behind_none none one = joined none one
