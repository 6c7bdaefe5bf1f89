-- What is true of each key of the table.
use Rattle.std.proofs.Common.{◌≡◌, ◌≤◌, ◌-◌, ℕ, zero, suc, Bool, true, false, ◌&&◌, nat_lt, nat_le, List, [], ◌∷◌, length, Option, Some, None, refl, arith, ap, ◌∙◌, sym, subst}
use Rattle.std.specs.Prelude.{slice_get}
use Rattle.std.specs.List.{list_all}
use Rattle.std.specs.Option.{option_map_or}
use Rattle.std.proofs.lemmas.Bool.Decides.{nat_tests}
use Rattle.booth_conf.specs.Grammar.{is_key}
use Rattle.booth_conf.specs.Keys.{row_of, all_keys, key_named, are_one}
use Rattle.booth_conf.specs.declared.keys.ConfKey.{ConfKey}
use Rattle.booth_conf.specs.declared.keys.ConfKey.TheVariants as keys
use Rattle.booth_conf.specs.declared.keys.Form.{Form}
use Rattle.booth_conf.specs.declared.keys.Form.TheVariants as forms

-- the keys stand in the order of their numbers, which count from 1
at_number : (key : ConfKey) → slice_get all_keys ((row_of key).number - 1) ≡ Some key
at_number keys.Port = refl
at_number keys.Transport = refl
at_number keys.Authfile = refl
at_number keys.Maxtimeskew = refl
at_number keys.Debug = refl
at_number keys.SiteUser = refl
at_number keys.SiteGroup = refl
at_number keys.ArbitratorUser = refl
at_number keys.ArbitratorGroup = refl
at_number keys.Site = refl
at_number keys.Arbitrator = refl
at_number keys.Ticket = refl
at_number keys.Expire = refl
at_number keys.AcquireAfter = refl
at_number keys.Timeout = refl
at_number keys.Retries = refl
at_number keys.RenewalFreq = refl
at_number keys.Weights = refl
at_number keys.BeforeAcquireHandler = refl
at_number keys.AttrPrereq = refl
at_number keys.Mode = refl
at_number keys.AuthfileOld = refl
at_number keys.Authhash = refl
at_number keys.Steady = refl

some_one : {X : Type 0} (x y : X) → Some x ≡ Some y → x ≡ y
some_one x y e = cc

pub both_true : (a b : Bool) → (a && b) ≡ true → (a ≡ true) × (b ≡ true)
both_true true b h = (refl, h)
both_true false b h = cc

-- two keys of one number are one
pub key_is : (key other : ConfKey) → are_one key other ≡ true → other ≡ key
key_is key other h =
    let n : (row_of other).number ≡ (row_of key).number = grind (arith, nat_tests) in
    some_one other key (sym (at_number other) ∙ ap (λ m. slice_get all_keys (m - 1)) n ∙ at_number key)

passes_at : (p : ConfKey → Bool) (xs : List ConfKey) (i : ℕ) (key : ConfKey) → list_all p xs ≡ true →
    slice_get xs i ≡ Some key → p key ≡ true
passes_at p [] i key h e = cc
passes_at p (x ∷ xs) zero key h e = subst (λ k. p k ≡ true) (some_one x key e) (both_true (p x) (list_all p xs) h).0
passes_at p (x ∷ xs) (suc i) key h e = passes_at p xs i key (both_true (p x) (list_all p xs) h).1 e

-- a test that all keys of the table pass
pub each_key : (p : ConfKey → Bool) → list_all p all_keys ≡ true → (key : ConfKey) → p key ≡ true
each_key p h key = passes_at p all_keys ((row_of key).number - 1) key h (at_number key)

-- NAMES

pub key_name : (key : ConfKey) → is_key (row_of key).name ≡ true
key_name key = each_key (λ k. is_key (row_of k).name) refl key

pub name_most : (key : ConfKey) → length (row_of key).name ≤ 22
name_most key =
    let h : nat_le (length (row_of key).name) 22 ≡ true = each_key (λ k. nat_le (length (row_of k).name) 22) refl key in
    grind (arith, nat_tests)

found_is : (key : ConfKey) (o : Option ConfKey) → option_map_or (are_one key) o false ≡ true → o ≡ Some key
found_is key None h = cc
found_is key (Some other) h = ap (λ k. Some k) (key_is key other h)

pub named_only : (key : ConfKey) → key_named (row_of key).name ≡ Some key
named_only key =
    found_is key (key_named (row_of key).name) (each_key (λ k. option_map_or (are_one k) (key_named (row_of k).name) false) refl key)

-- NUMBERS

-- a number of the form has at most ten digits
abbrev pub is_short : Form → Bool
is_short (forms.Number least most) = nat_lt most 10000000000
is_short form = true

pub short_form : (key : ConfKey) → is_short (row_of key).form ≡ true
short_form key = each_key (λ k. is_short (row_of k).form) refl key
