-- The id of a member has four bytes.
use Rattle.std.proofs.Common.{◌≡◌, ℕ, zero, suc, ◌^◌, ◌<◌, Bool, true, false, not, ◌&&◌, List, [], ◌∷◌, length, map, refl, sym, ◌∙◌, subst, arith}
use Rattle.std.specs.Prelude.{Option, Some, None, ◌==◌, slice_get}
use Rattle.std.specs.List.{list_all}
use Rattle.std.specs.Option.{option_map_or}
use Rattle.std.proofs.lemmas.Bool.Decides.{nat_tests}
use Rattle.std.proofs.lemmas.List.{length-map}
use Rattle.std.proofs.Math.Nat.{pow-suc}
use Rattle.booth_base.specs.declared.address.TheConstants.{NO_ONE}
use Rattle.booth_base.specs.Address.{id_of, octets}
use Rattle.booth_base.specs.Crc.{CrcIsRemainder, crc32, number}
use Rattle.booth_conf.specs.Config.{ConfigSays}
use Rattle.booth_conf.specs.Sound.{IsSound, is_address, is_member}
use Rattle.booth_conf.specs.declared.members.Member.{Member}
use Rattle.booth_sim.specs.Simulation.{node_in}

number_small : (bits : List Bool) → number bits < 2 ^ length bits
unfolding number
number_small [] = omega arith
number_small (true ∷ bits) = let rest = number_small bits in omega (arith, rest, pow-suc 2 (length bits))
number_small (false ∷ bits) = let rest = number_small bits in omega (arith, rest, pow-suc 2 (length bits))

crc_small : CrcIsRemainder → (bytes : List ℕ) → crc32 bytes < 2 ^ 32
crc_small law bytes =
    let is = law bytes in
    let long : length (map not is.0) ≡ 32 = length-map is.0 not ∙ is.1.degree in
    let small = number_small (map not is.0) in
    let at : number (map not is.0) < 2 ^ 32 = subst (λ (n : ℕ). number (map not is.0) < 2 ^ n) long small in
    subst (λ (n : ℕ). n < 2 ^ 32) (sym is.3) at

both_true : (a b : Bool) → a && b ≡ true → (a ≡ true) × (b ≡ true)
both_true true b e = (refl, e)
both_true false b e = absurd cc

same_member : (a b : Member) → Some a ≡ Some b → a ≡ b
same_member a b e = cc

each_member : (members : List Member) (m : ℕ) (member : Member) → list_all is_member members ≡ true → slice_get members m ≡ Some member
    → is_member member ≡ true
each_member [] m member all e = absurd cc
each_member (x ∷ members) zero member all e =
    subst (λ (y : Member). is_member y ≡ true) (same_member x member e) (both_true (is_member x) (list_all is_member members) all).0
each_member (x ∷ members) (suc m) member all e =
    each_member members m member (both_true (is_member x) (list_all is_member members) all).1 e

pub ids_small : CrcIsRemainder → (config : ConfigSays) → IsSound config → (m : ℕ) → (node_in config m).me.0 < 2 ^ 32
ids_small law config sound m = by_get (slice_get config.members m) refl
  where
    by_get : (o : Option Member) → slice_get config.members m ≡ o → (option_map_or (λ (x : Member). x.id) o NO_ONE).0 < 2 ^ 32
    by_get None e = omega arith
    by_get (Some member) e =
        let is = (both_true (is_address member.address) (member.id.0 == id_of member.address)
        (each_member config.members m member sound.members e)).1 in
        let same : member.id.0 ≡ id_of member.address = grind (arith, nat_tests, is) in
        subst (λ (n : ℕ). n < 2 ^ 32) (sym same) (crc_small law (octets member.address))
