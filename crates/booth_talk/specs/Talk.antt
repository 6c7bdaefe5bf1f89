-- All messages and waits: a request, its answer, and the one redirection of a revoke.
use Rattle.std.specs.Prelude.{◌≡◌, ◌++◌, ◌&&◌, ◌==◌, ℕ, Bool, true, false, List, [], ◌∷◌, Option, Some, None, option_map}
use Rattle.std.specs.Prelude.{Result, Ok, Err, MatchBool, MatchOption, if◌then◌else◌}
use Rattle.booth_base.specs.declared.address.Peer.{Peer}
use Rattle.booth_wire.specs.declared.codes.results.TheConstants.{REDR}
use Rattle.booth_host.specs.declared.host.Failed.{Failed}
use Rattle.booth_host.specs.declared.entry.Entry.{Entry}
use Rattle.booth_host.specs.declared.entry.Entry.TheVariants.{Send}
use Rattle.booth_talk.specs.declared.order.Asking.{Asking}
use Rattle.booth_talk.specs.declared.order.Order.{Order}
use Rattle.booth_talk.specs.declared.order.Order.TheVariants as orders
use Rattle.booth_talk.specs.declared.reply.Reply.{Reply}
use Rattle.booth_talk.specs.declared.wait.Waited.{Waited}
use Rattle.booth_talk.specs.declared.wait.Waited.TheVariants.{Came, Over}
use Rattle.booth_talk.specs.Asking.{find_peer, is_waiting, order_options, request_bytes}
use Rattle.booth_talk.specs.Replies.{reply_in}
use Rattle.booth_talk.specs.Waiting.{IsFirstWait, IsFinalWait, is_begun}

-- ---- the reply in a datagram

-- The reply is the meaning of these bytes for a request of this order.
abbrev pub IsReplyIn : Asking → Reply → List ℕ → Type 0
IsReplyIn asking reply bytes = (start : ℕ) × (reply_in asking start bytes ≡ Some reply)

-- The bytes are the bytes of the reply that arrived.
abbrev pub IsHeld : Asking → Waited → List ℕ → Type 0
IsHeld asking (Came reply reading) bytes = IsReplyIn asking reply bytes
IsHeld asking Over bytes = Unit {0}

abbrev pub IsAnswerHeld : Asking → Result Waited Failed → List ℕ → Type 0
IsAnswerHeld asking (Ok waited) bytes = IsHeld asking waited bytes
IsAnswerHeld asking (Err failed) bytes = Unit {0}

-- ---- one request

-- There is no further entry.
pub record Stays (first : Waited) (first_bytes : List ℕ) (last : Waited) (bytes : List ℕ)
    (entries : List Entry) : Type 0 where
  pub same : last ≡ first
  pub kept : bytes ≡ first_bytes
  pub none : entries ≡ []

-- The entries after the wait for the first reply. If the client waits for the outcome and the request was begun, they
-- are the wait for the outcome.
abbrev pub GoesOn : Asking → ℕ → Waited → List ℕ → Waited → List ℕ → List Entry → Type 0
GoesOn asking start (Came reply reading) first_bytes last bytes entries =
    MatchBool (is_waiting (order_options asking.order) && is_begun reply)
    (IsFinalWait asking start last bytes entries)
    (Stays (Came reply reading) first_bytes last bytes entries)
GoesOn asking start Over first_bytes last bytes entries = Stays Over first_bytes last bytes entries

-- The wait for the answer to a request that was sent at this reading.
pub record IsWait (asking : Asking) (start : ℕ) (last : Waited) (bytes : List ℕ)
    (entries : List Entry) : Type 0 where
  pub first : Waited
  pub first_bytes : List ℕ
  pub early : List Entry
  pub late : List Entry
  pub whole : entries ≡ early ++ late
  pub waited : IsFirstWait asking start first first_bytes early
  pub goes_on : GoesOn asking start first first_bytes last bytes late

-- One request to a peer, and the wait for its answer.
abbrev pub IsAsking : Asking → Peer → ℕ → Result Waited Failed → List ℕ → List Entry → Type 0
IsAsking asking to start (Ok waited) bytes entries = (rest : List Entry)
    × (entries ≡ Send to (request_bytes asking start) (Ok tt) ∷ rest) × IsWait asking start waited bytes rest
IsAsking asking to start (Err failed) bytes entries =
    entries ≡ Send to (request_bytes asking start) (Err failed) ∷ []

-- ---- the redirection

abbrev pub is_revoke : Order → Bool
is_revoke (orders.Revoke ticket options) = true
is_revoke order = false

-- The member to which a revoke is redirected, and the reading at which it is sent. It is the reading at which the
-- reply that names the member arrived.
abbrev pub redirected : Asking → Waited → Option (Peer × ℕ)
redirected asking (Came reply reading) =
    if is_revoke asking.order && reply.result == REDR
    then option_map (λ peer. (peer, reading)) (find_peer asking.config reply.leader) else None
redirected asking Over = None

-- There is no further request.
pub record Rests (first : Result Waited Failed) (first_bytes : List ℕ) (last : Result Waited Failed)
    (bytes : List ℕ) (entries : List Entry) : Type 0 where
  pub same : last ≡ first
  pub kept : bytes ≡ first_bytes
  pub none : entries ≡ []

-- The entries after the first request. If it is redirected, they are one more request.
abbrev pub AsksOn : Asking → Result Waited Failed → List ℕ → Result Waited Failed → List ℕ → List Entry → Type 0
AsksOn asking (Ok first) first_bytes last bytes entries =
    MatchOption (redirected asking first) (Rests (Ok first) first_bytes last bytes entries)
    (λ on. IsAsking asking on.0 on.1 last bytes entries)
AsksOn asking (Err failed) first_bytes last bytes entries = Rests (Err failed) first_bytes last bytes entries

-- All requests and waits. The answer's bytes are the bytes of the last datagram.
pub record IsTalk (asking : Asking) (to : Peer) (start : ℕ) (last : Result Waited Failed) (bytes : List ℕ)
    (entries : List Entry) : Type 0 where
  pub first : Result Waited Failed
  pub first_bytes : List ℕ
  pub early : List Entry
  pub late : List Entry
  pub whole : entries ≡ early ++ late
  pub asked : IsAsking asking to start first first_bytes early
  pub goes_on : AsksOn asking first first_bytes last bytes late
