-- What a sound configuration gives a list: addresses that are addresses, ids that are theirs, and names without a gap.
use Rattle.std.proofs.Common.{◌≡◌, ⊎_elim, ℕ, zero, suc, ◌<◌, Bool, true, List, [], ◌∷◌, length, slice_get, refl, sym, ◌∙◌, subst, arith, ◌&&◌}
use Rattle.std.specs.Prelude.{Option, Some, None, nat_le, not, ◌==◌, bytes_eq}
use Rattle.std.specs.List.{list_all}
use Rattle.std.specs.Option.{option_map_or}
use Rattle.std.proofs.lemmas.Bool.Decides.{nat_tests}
use Rattle.std.proofs.lemmas.Option.{slice_get_cases}
use Rattle.booth_base.specs.declared.address.TheConstants.{NO_ONE}
use Rattle.booth_base.specs.Address.{IsAddress, id_of}
use Rattle.booth_base.specs.Name.{is_name, is_name_byte}
use Rattle.booth_conf.specs.Config.{ConfigSays}
use Rattle.booth_conf.specs.Sound.{IsSound, are_prereqs, are_times, are_weights, each, is_address, is_command, is_member, is_sayable, is_ticket, is_ticket_name}
use Rattle.booth_conf.specs.Values.{default_name}
use Rattle.booth_conf.specs.declared.members.Member.{Member}
use Rattle.booth_conf.specs.declared.tickets.TicketConf.{TicketConf}
use Rattle.booth_conf.proofs.AddressAgain.{address_is}
use Rattle.booth_node.specs.Jobs.{address_in}
use Rattle.booth_node.specs.World.{World, id_at, members_of}
use Rattle.booth_world.specs.Tellers.{HasNone, address_at}
use Rattle.booth_world.proofs.Lists.{none_is, some_same}
use Rattle.booth_world.proofs.TellerLists.{AreTheirs}
use Rattle.booth_world.proofs.TellerTexts.{both_parts, none_in_name}

-- what all pass, the one at a place does
passes_at : {X : Type 0} (p : X → Bool) (xs : List X) (i : ℕ) (x : X) → list_all p xs ≡ true → slice_get xs i ≡ Some x → p x ≡ true
passes_at p [] i x all is = absurd (none_is x is)
passes_at {X} p (y ∷ xs) zero x all is = subst (λ (z : X). p z ≡ true) (some_same y x is) (both_parts (p y) (list_all p xs) all).0
passes_at p (y ∷ xs) (suc i) x all is = passes_at p xs i x (both_parts (p y) (list_all p xs) all).1 is

-- ---- members

member_so : (member : Member) → is_member member ≡ true → IsAddress member.address × (member.id.0 ≡ id_of member.address)
member_so member passes =
    let both = both_parts (is_address member.address) (member.id.0 == id_of member.address) passes in
    (address_is member.address both.0, equal (member.id.0) (id_of member.address) both.1)
  where
    equal : (a b : ℕ) → a == b ≡ true → a ≡ b
    equal a b e = grind (arith, nat_tests)

pub theirs_of : (w : World) (config : ConfigSays) → IsSound config → config.members ≡ w.members → (m : ℕ) → m < members_of w
    → AreTheirs config (id_at w m) (address_at w m)
theirs_of w config sound same m below =
    subst (λ (ms : List Member). AreTheirs config (option_map_or (λ (member : Member). member.id) (slice_get ms m) NO_ONE) (address_in (slice_get ms m)))
    same (by_member (slice_get config.members m) refl)
  where
    all : (p : ℕ) (member : Member) → slice_get config.members p ≡ Some member → IsAddress member.address × (member.id.0 ≡ id_of member.address)
    all p member is = member_so member (passes_at is_member config.members p member sound.members is)

    inside : m < length config.members
    inside = subst (λ (ms : List Member). m < length ms) (sym same) below

    by_member : (o : Option Member) → slice_get config.members m ≡ o
        → AreTheirs config (option_map_or (λ (member : Member). member.id) o NO_ONE) (address_in o)
    by_member None e =
        ⊎_elim
        (λ some. absurd (none_is some.0 (sym e ∙ some.2)))
        (λ past. let out = past.0 in absurd (omega (arith, out, inside)))
        (slice_get_cases config.members m).1
    by_member (Some member) e = record { each = all; whole = (all m member e).0; mine = (all m member e).1 }

-- ---- tickets

pub names_free : (config : ConfigSays) → IsSound config → (place : ℕ) (ticket : TicketConf) → slice_get config.tickets place ≡ Some ticket
    → HasNone 10 ticket.name × HasNone 32 ticket.name
names_free config sound place ticket is =
    let passes : is_ticket ticket ≡ true = passes_at is_ticket config.tickets place ticket sound.tickets is in
    let named : is_ticket_name ticket.name ≡ true =
    (both_parts (is_ticket_name ticket.name)
    (are_times ticket.times && (are_weights ticket.weights.items && (each is_command ticket.handler && are_prereqs ticket.prereqs))) passes).0 in
    let name : is_name ticket.name ≡ true =
    (both_parts (is_name ticket.name) (not (bytes_eq ticket.name default_name) && is_sayable ticket.name) named).0 in
    let bytes : list_all is_name_byte ticket.name ≡ true =
    (both_parts (nat_le 1 (length ticket.name) && nat_le (length ticket.name) 63) (list_all is_name_byte ticket.name) name).1 in
    (none_in_name 10 (omega arith) ticket.name bytes, none_in_name 32 (omega arith) ticket.name bytes)
