-- Members by their addresses.
use Rattle.std.proofs.Common.{◌≡◌, false, List, [], ◌∷◌, ◌++◌, map, refl, ap, ◌∙◌, sym}
use Rattle.std.specs.List.{list_any}
use Rattle.std.proofs.lemmas.List.{map-append}
use Rattle.indexmap.specs.IndexSet.{insert_key}
use Rattle.booth_base.specs.declared.address.Address.{Address}
use Rattle.booth_base.specs.contracts.address.AddressPartialEq.TheImpl as derived
use Rattle.booth_conf.specs.Rules.{is_at}
use Rattle.booth_conf.specs.declared.members.Member.{Member}

abbrev pub addresses : List Member → List Address
addresses ms = map (λ (m : Member). m.address) ms

any_at : (a : Address) (ms : List Member) →
    list_any (derived.eq-value.it a) (addresses ms) ≡ list_any (is_at a) ms
any_at a [] = refl
any_at a (m ∷ ms) = rw (any_at a ms) refl

pub any_address : (a : Address) (keys : List Address) (ms : List Member) → keys ≡ addresses ms →
    list_any (derived.eq-value.it a) keys ≡ list_any (is_at a) ms
any_address a keys ms e = ap (list_any (derived.eq-value.it a)) e ∙ any_at a ms

pub address_pushed : (m : Member) (keys : List Address) (ms : List Member) → keys ≡ addresses ms →
    list_any (is_at m.address) ms ≡ false →
    insert_key derived.eq-value.it keys m.address ≡ addresses (ms ++ m ∷ [])
address_pushed m keys ms e new =
    let absent : list_any (derived.eq-value.it m.address) keys ≡ false =
    any_address m.address keys ms e ∙ new in
    rw absent (ap (λ xs. xs ++ m.address ∷ []) e ∙ sym (map-append (λ (m : Member). m.address) ms (m ∷ [])))
