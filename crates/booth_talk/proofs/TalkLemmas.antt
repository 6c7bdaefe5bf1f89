-- A talk, part by part.
use Rattle.std.specs.Prelude.{Option, Result, Ok, Err}
use Rattle.std.proofs.Common.{◌≡◌, ℕ, List, [], ◌∷◌, append-nil, refl, sym, ap}
use Rattle.booth_base.specs.declared.address.Peer.{Peer}
use Rattle.booth_host.specs.declared.entry.Entry.{Entry}
use Rattle.booth_host.specs.declared.entry.Entry.TheVariants.{Send}
use Rattle.booth_host.specs.declared.host.Failed.{Failed}
use Rattle.booth_host.specs.Past.{GrewBy, GrewSome}
use Rattle.booth_host.proofs.PastLemmas.{some_joined, some_weaker, then_some}
use Rattle.booth_talk.specs.declared.order.Asking.{Asking}
use Rattle.booth_talk.specs.declared.wait.Waited.{Waited}
use Rattle.booth_talk.specs.Asking.{request_bytes}
use Rattle.booth_talk.specs.Waiting.{IsFirstWait}
use Rattle.booth_talk.specs.Talk.{AsksOn, GoesOn, IsAsking, IsTalk, IsWait}

-- the first wait, and what follows it
pub waited : (asking : Asking) (start : ℕ) (first : Waited) (first_bytes : List ℕ) (last : Waited) (bytes : List ℕ) {a b c : Option (List Entry)} →
    GrewSome (IsFirstWait asking start first first_bytes) a b → GrewSome (GoesOn asking start first first_bytes last bytes) b c →
    GrewSome (IsWait asking start last bytes) a c
waited asking start first first_bytes last bytes first_wait on =
    some_joined (IsFirstWait asking start first first_bytes) (GoesOn asking start first first_bytes last bytes) (IsWait asking start last bytes)
    (λ xs ys h k. record { first = first; first_bytes = first_bytes; early = xs; late = ys; whole = refl; waited = h; goes_on = k }) first_wait on

-- a request that was sent, and its wait
pub asked : (asking : Asking) (to : Peer) (start : ℕ) (sent : List ℕ) (last : Waited) (bytes : List ℕ) {a b c : Option (List Entry)} →
    GrewBy a b (Send to sent (Ok tt) ∷ []) → sent ≡ request_bytes asking start → GrewSome (IsWait asking start last bytes) b c →
    GrewSome (IsAsking asking to start (Ok last) bytes) a c
asked asking to start sent last bytes send is wait =
    then_some (IsWait asking start last bytes) (IsAsking asking to start (Ok last) bytes) send
    (λ ys h. (ys, ap (λ (s : List ℕ). Send to s (Ok tt) ∷ ys) is, h)) wait

-- the first asking, and what follows it
pub talked : (asking : Asking) (to : Peer) (start : ℕ) (first : Result Waited Failed) (first_bytes : List ℕ) (last : Result Waited Failed)
    (bytes : List ℕ) {a b c : Option (List Entry)} →
    GrewSome (IsAsking asking to start first first_bytes) a b → GrewSome (AsksOn asking first first_bytes last bytes) b c →
    GrewSome (IsTalk asking to start last bytes) a c
talked asking to start first first_bytes last bytes ask on =
    some_joined (IsAsking asking to start first first_bytes) (AsksOn asking first first_bytes last bytes) (IsTalk asking to start last bytes)
    (λ xs ys h k. record { first = first; first_bytes = first_bytes; early = xs; late = ys; whole = refl; asked = h; goes_on = k }) ask on

-- a request that was not sent ends the talk
pub not_sent : (asking : Asking) (to : Peer) (start : ℕ) (failed : Failed) (bytes : List ℕ) {a b : Option (List Entry)} →
    GrewSome (IsAsking asking to start (Err failed) bytes) a b → GrewSome (IsTalk asking to start (Err failed) bytes) a b
not_sent asking to start failed bytes ask =
    some_weaker (IsAsking asking to start (Err failed) bytes) (IsTalk asking to start (Err failed) bytes)
    (λ xs h. record {
      first = Err failed;
      first_bytes = bytes;
      early = xs;
      late = [];
      whole = sym (append-nil xs);
      asked = h;
      goes_on = record { same = refl; kept = refl; none = refl };
    }) ask
