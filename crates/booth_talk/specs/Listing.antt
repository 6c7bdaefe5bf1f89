-- A request for a list, and the wait until all its parts have arrived.
use Rattle.std.specs.Prelude.{◌≡◌, ◌<◌, ◌≤◌, ◌+◌, ◌++◌, ◌⊎◌, ℕ, true, false, List, [], ◌∷◌, length, Option, Some, None, Result, Ok, Err}
use Rattle.std.specs.List.{All}
use Rattle.booth_base.specs.declared.address.Peer.{Peer}
use Rattle.booth_host.specs.declared.host.Failed.{Failed}
use Rattle.booth_host.specs.declared.entry.Entry.{Entry}
use Rattle.booth_host.specs.declared.entry.Entry.TheVariants.{Send}
use Rattle.booth_talk.specs.declared.list_wait.Listed.{Listed}
use Rattle.booth_talk.specs.declared.list_wait.Listed.TheVariants.{Whole, Refused, Over}
use Rattle.booth_talk.specs.declared.list_wait.ListHeard.{ListHeard}
use Rattle.booth_talk.specs.declared.list_wait.ListHeard.TheVariants as heard
use Rattle.booth_talk.specs.declared.order.Asking.{Asking}
use Rattle.booth_talk.specs.Asking.{request_bytes}
use Rattle.booth_talk.specs.Parts.{BringList, IsWhole, Part, first_part, is_whole, refusal_at}
use Rattle.booth_talk.specs.Waiting.{Pair, all_calls, calls_of}
use Rattle.booth_talk.specs.declared.wait.TheConstants.{MOST_PAIRS, PATIENCE}

-- ---- sequences of pairs

-- The pair has no refusal, and its reading is not late.
pub record IsPatient (asking : Asking) (start : ℕ) (p : Pair) : Type 0 where
  pub none : refusal_at asking start p ≡ None
  pub early : p.reading ≤ start + PATIENCE

-- These pairs do not contain a whole list.
abbrev pub IsUnwhole : Asking → ℕ → List Pair → Type 0
IsUnwhole asking start pairs = (texts : List (List ℕ)) → IsWhole (first_part asking start pairs) texts → ⊥

-- After these pairs the client still waits for the list. A whole list stays whole, so no prefix of the pairs contains
-- one.
pub record IsAwaited (asking : Asking) (start : ℕ) (pairs : List Pair) : Type 0 where
  pub patient : All (IsPatient asking start) pairs
  pub unwhole : IsUnwhole asking start pairs

-- These are this many pairs, after which the client still waits for the list.
pub record IsListRow (asking : Asking) (start count : ℕ) (entries : List Entry) : Type 0 where
  pub pairs : List Pair
  pub number : length pairs ≡ count
  pub whole : entries ≡ all_calls pairs
  pub awaited : IsAwaited asking start pairs

-- There are fewer pairs than the limit, and after them the client still waits for the list. Then a last pair follows,
-- for which Q holds.
pub record EndsAwaited (asking : Asking) (start : ℕ) (Q : List Pair → Pair → Type 0) (entries : List Entry)
    : Type 0 where
  pub early : List Pair
  pub below : length early < MOST_PAIRS
  pub awaited : IsAwaited asking start early
  pub last : Pair
  pub whole : entries ≡ all_calls early ++ calls_of last
  pub holds : Q early last

-- ---- the end of a wait for a list

-- The last pair completes the list. Its reading may be late.
abbrev pub Completes : Asking → ℕ → List ℕ → List Pair → Pair → Type 0
Completes asking start text early last = BringList asking start (early ++ last ∷ []) text

-- The last pair is a refusal.
abbrev pub IsRefused : Asking → ℕ → ℕ → List Pair → Pair → Type 0
IsRefused asking start result early last = refusal_at asking start last ≡ Some result

-- The last pair is no refusal and completes no list, and its reading is late.
pub record IsLateList (asking : Asking) (start : ℕ) (early : List Pair) (last : Pair) : Type 0 where
  pub none : refusal_at asking start last ≡ None
  pub unwhole : IsUnwhole asking start (early ++ last ∷ [])
  pub late : start + PATIENCE < last.reading

-- The wait for a list. It ends when its parts are whole, with their text; when an answer refuses it; at the first
-- late reading before that; or with the last pair.
abbrev pub IsListWait : Asking → ℕ → Listed → List ℕ → List Entry → Type 0
IsListWait asking start Whole text entries = EndsAwaited asking start (Completes asking start text) entries
IsListWait asking start (Refused result) text entries = EndsAwaited asking start (IsRefused asking start result) entries
IsListWait asking start Over text entries =
    EndsAwaited asking start (IsLateList asking start) entries ⊎ IsListRow asking start MOST_PAIRS entries

-- The request for a list to a peer, and the wait for it.
abbrev pub IsListTalk : Asking → Peer → ℕ → Result Listed Failed → List ℕ → List Entry → Type 0
IsListTalk asking to start (Ok listed) text entries = (rest : List Entry)
    × (entries ≡ Send to (request_bytes asking start) (Ok tt) ∷ rest) × IsListWait asking start listed text rest
IsListTalk asking to start (Err failed) text entries =
    entries ≡ Send to (request_bytes asking start) (Err failed) ∷ []

-- ---- in the code

-- A pair has this meaning for a client that waits for a list and has these parts.
abbrev pub IsListHeard : Asking → ℕ → Pair → List (Option Part) → ListHeard → Type 0
IsListHeard asking start p kept heard.Whole = is_whole kept ≡ true
IsListHeard asking start p kept (heard.Refusal result) = refusal_at asking start p ≡ Some result
IsListHeard asking start p kept heard.Late =
    (refusal_at asking start p ≡ None) × (is_whole kept ≡ false) × (start + PATIENCE < p.reading)
IsListHeard asking start p kept heard.Silent = IsPatient asking start p × (is_whole kept ≡ false)
