-- The owner of a journal, and the journal that belongs to no one.
use Rattle.std.specs.Prelude.{◌≡◌, ◌⊎◌, ℕ, List, [], ◌∷◌, Option, None, Some, Result, Ok, Err}
use Rattle.booth_base.specs.declared.address.Address.{Address}
use Rattle.booth_conf.specs.declared.members.Member.{Member}
use Rattle.booth_journal.specs.declared.said.Call.{Call}
use Rattle.booth_journal.specs.Says.{Said}
use Rattle.booth_node.specs.declared.node_config.NodeConfig.{NodeConfig}
use Rattle.booth_audit.specs.declared.owners.OwnerFault.{OwnerFault}
use Rattle.booth_audit.specs.declared.owners.OwnerFault.TheVariants.{NotOne, OutOfMemory}
use Rattle.booth_audit.specs.Faults.{IsOf, opened_by, opened_in, place_of}
use Rattle.booth_audit.specs.Replay.{replay}

-- If a call opens a socket, this is the place of the member whose start it is.
abbrev pub HasPlace : List Member → Call → Result (Option ℕ) OwnerFault → Type 0
HasPlace members call (Ok None) = opened_by call ≡ []
HasPlace members call (Ok (Some place)) =
    (local : Option Address) × (opened_by call ≡ local ∷ []) × (place_of members local ≡ Some place)
HasPlace members call (Err NotOne) =
    (local : Option Address) × (opened_by call ≡ local ∷ []) × (place_of members local ≡ None)
HasPlace members call (Err OutOfMemory) = Unit {0}

-- The owner of the starts among these calls. NotOne comes only if they belong neither to no one nor to one member.
abbrev pub IsOwner : List Member → List Said → Result (Option ℕ) OwnerFault → Type 0
IsOwner members all (Ok owner) = IsOf members all owner
IsOwner members all (Err NotOne) = (owner : Option ℕ) → IsOf members all owner → ⊥
IsOwner members all (Err OutOfMemory) = Unit {0}

-- A journal in which no start listened belongs to no one. It has no session, and its first call that is not a reading
-- of the clock was not demanded.
abbrev pub IsNobodys : List Said → Option ℕ → Type 0
IsNobodys all strays =
    (node : NodeConfig) → opened_in all ≡ [] → replay node all ≡ record { events = []; strays = strays }

-- The owner after one more start, which belongs to the member at this place.
abbrev pub IsOneOwner : Option ℕ → ℕ → Result (Option ℕ) OwnerFault → Type 0
IsOneOwner owner place (Ok after) = (after ≡ Some place) × ((owner ≡ None) ⊎ (owner ≡ Some place))
IsOneOwner owner place (Err NotOne) = (earlier : ℕ) × (owner ≡ Some earlier) × (earlier ≡ place → ⊥)
IsOneOwner owner place (Err OutOfMemory) = ⊥

-- The owner of the starts so far and of one more call.
abbrev pub IsNextOwner : List Member → Option ℕ → Call → Result (Option ℕ) OwnerFault → Type 0
IsNextOwner members owner call (Ok after) =
    (HasPlace members call (Ok None) × (after ≡ owner))
    ⊎ ((place : ℕ) × HasPlace members call (Ok (Some place)) × IsOneOwner owner place (Ok after))
IsNextOwner members owner call (Err fault) =
    HasPlace members call (Err fault)
    ⊎ ((place : ℕ) × HasPlace members call (Ok (Some place)) × IsOneOwner owner place (Err fault))

-- The number of lines of a call, by the line of its answer.
abbrev pub lines_of : Option (List ℕ) → ℕ
lines_of None = 1
lines_of (Some bytes) = 2
