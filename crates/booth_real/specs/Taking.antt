-- What a host takes from the system before anybody asks for it, and in which order it returns it.
use Rattle.std.specs.Prelude.{◌≡◌, ℕ, List, [], ◌∷◌, ◌++◌, Bool, true, false, Option, Some, None, Result, Ok, Err}
use Rattle.booth_base.specs.declared.address.Peer.{Peer}
use Rattle.booth_host.specs.declared.host.Arrival.{Arrival}
use Rattle.booth_host.specs.declared.host.Arrival.TheVariants.{Datagram, Handler}
use Rattle.booth_real.specs.Waiting.{waits}
use Rattle.booth_real.specs.declared.backlog.Backlog.{Backlog}
use Rattle.booth_real.specs.declared.socket.Takes.{Takes}
use Rattle.booth_real.specs.declared.socket.Takes.TheVariants.{All, Asked}

-- what a backlog holds and has not returned yet, in the order of arrival
abbrev pub waiting : Backlog → List (Peer × List ℕ)
waiting backlog = waits backlog.held.items backlog.given backlog.bytes.items

-- everybody is accepted
abbrev pub hears_all : Option Takes → Bool
hears_all None = false
hears_all (Some All) = true
hears_all (Some (Asked asked)) = false

-- datagrams wait only at a socket that accepts everybody
abbrev pub WaitsFor : Option Takes → List (Peer × List ℕ) → Type 0
WaitsFor hearing waiting = hears_all hearing ≡ false → waiting ≡ []

-- What waited keeps waiting in its order, with the new arrivals behind it. If the socket accepts one peer or nobody,
-- nothing arrived.
abbrev pub TakesIn : Option Takes → List (Peer × List ℕ) → List (Peer × List ℕ) → Type 0
TakesIn None before after = after ≡ before
TakesIn (Some All) before after = (came : List (Peer × List ℕ)) × (after ≡ before ++ came)
TakesIn (Some (Asked asked)) before after = after ≡ before

-- If datagrams wait, then either the first one arrives and the others keep waiting, or the end of a handler arrives and
-- all datagrams keep waiting.
abbrev pub IsGiven : {E : Type 0} → List (Peer × List ℕ) → Result Arrival E → List ℕ → List (Peer × List ℕ) → Type 0
IsGiven [] answer bytes after = after ≡ []
IsGiven (first ∷ rest) (Ok (Datagram from)) bytes after = (first ≡ (from, bytes)) × (after ≡ rest)
IsGiven (first ∷ rest) (Ok (Handler job status)) bytes after = after ≡ first ∷ rest
IsGiven (first ∷ rest) answer bytes after = ⊥

-- a handler's program has ended
abbrev pub IsHandler : Arrival → Type 0
IsHandler (Handler job status) = Unit {0}
IsHandler arrival = ⊥

-- the same answer, whatever type describes a failure
abbrev pub IsSame : {T E F : Type 0} → Result T E → Result T F → Type 0
IsSame (Ok value) (Ok other) = value ≡ other
IsSame (Err fault) (Err other) = Unit {0}
IsSame answer other = ⊥
