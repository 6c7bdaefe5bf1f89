-- A member that is found by its address is found by its id.
use Rattle.std.specs.Prelude.{IsSome, position}
use Rattle.std.specs.List.{list_all, list_any, prefix_len}
use Rattle.std.specs.Cmp.Lexicographic.{same_text}
use Rattle.std.proofs.Common.{◌≡◌, ◌==◌, ◌&&◌, ◌||◌, ◌<◌, Bool, true, false, not, List, [], ◌∷◌}
use Rattle.std.proofs.Common.{length, refl, sym, ap, ◌∙◌, arith}
use Rattle.std.proofs.lemmas.Bool.Decides.{nat_tests}
use Rattle.std.proofs.lemmas.Bool.{eq-eqb, eqb-true}
use Rattle.booth_base.specs.declared.address.Address.{Address}
use Rattle.booth_base.specs.declared.address.Address.TheVariants.{V4, V6}
use Rattle.booth_base.specs.contracts.address.AddressPartialEq.TheImpl as addresses
use Rattle.booth_base.specs.Address.{id_of}
use Rattle.booth_conf.specs.Config.{ConfigSays, has_id}
use Rattle.booth_conf.specs.Rules.{is_at}
use Rattle.booth_conf.specs.Sound.{is_address, is_member, IsSound}
use Rattle.booth_conf.specs.declared.members.Member.{Member}
use Rattle.booth_daemon.specs.Fitness.{has_member}

same_id : (a b : Address) → addresses.eq-value.it a b ≡ true → id_of a ≡ id_of b
same_id (V4 xs) (V4 ys) same = ap (λ bytes. id_of (V4 bytes)) (same_text xs ys (sym same))
same_id (V6 xs) (V6 ys) same = ap (λ bytes. id_of (V6 bytes)) (same_text xs ys (sym same))
same_id (V4 xs) (V6 ys) same = cc
same_id (V6 xs) (V4 ys) same = cc

left_true : (a b : Bool) → (a && b) ≡ true → a ≡ true
left_true true b both = refl
left_true false b both = cc

right_true : (a b : Bool) → (a && b) ≡ true → b ≡ true
right_true true b both = both
right_true false b both = cc

-- a member at this address has its id
has_its_id : (address : Address) (m : Member) → is_member m ≡ true → is_at address m ≡ true →
    has_id (record { 0 = id_of address }) m ≡ true
has_its_id address m member at =
    let same : id_of address ≡ id_of m.address = same_id address m.address at in
    let its : (m.id.0 == id_of m.address) ≡ true =
    right_true (is_address m.address) (m.id.0 == id_of m.address) member in
    eq-eqb m.id.0 (id_of address) (eqb-true m.id.0 (id_of m.address) its ∙ sym same)

-- a list of which one passes is longer than those before the first that does
first_within : (p : Member → Bool) (members : List Member) → list_any p members ≡ true →
    prefix_len (λ m. not (p m)) members < length members
first_within p [] any = cc
first_within p (m ∷ members) any = by_test (p m) refl (λ later. first_within p members later)
  where
    by_test : (b : Bool) → p m ≡ b →
        (list_any p members ≡ true → prefix_len (λ m. not (p m)) members < length members) →
        prefix_len (λ m. not (p m)) (m ∷ members) < length (m ∷ members)
    by_test true is later = rw is (omega arith)
    by_test false is later = rw is (omega (arith, later (rw is at any)))

some_place : (p : Member → Bool) (members : List Member) → list_any p members ≡ true →
    IsSome (position p members)
some_place p members any =
    let within = first_within p members any in
    grind (arith, nat_tests, within)

either : (a b c d : Bool) → (a ≡ true → c ≡ true) → (b ≡ true → d ≡ true) → (a || b) ≡ true → (c || d) ≡ true
either true b c d left right any = rw (left refl) refl
either false b true d left right any = refl
either false b false d left right any = right any

any_id : (address : Address) (members : List Member) → list_all is_member members ≡ true →
    list_any (is_at address) members ≡ true →
    list_any (has_id (record { 0 = id_of address })) members ≡ true
any_id address [] all any = any
any_id address (m ∷ members) all any =
    either (is_at address m) (list_any (is_at address) members) (has_id (record { 0 = id_of address }) m)
    (list_any (has_id (record { 0 = id_of address })) members)
    (has_its_id address m (left_true (is_member m) (list_all is_member members) all))
    (any_id address members (right_true (is_member m) (list_all is_member members) all)) any

pub found_by_id : (config : ConfigSays) (address : Address) → IsSound config →
    has_member config address ≡ true →
    IsSome (position (has_id (record { 0 = id_of address })) config.members)
found_by_id config address sound member =
    some_place (has_id (record { 0 = id_of address })) config.members
    (any_id address config.members sound.members member)
