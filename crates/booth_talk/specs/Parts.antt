-- The parts of a list, and the condition for a whole list.
use Rattle.std.specs.Prelude.{◌≡◌, ◌<◌, ◌+◌, ◌++◌, ◌==◌, ◌&&◌, ◌||◌, ℕ, Bool, true, false, List, [], ◌∷◌, length, get_or, nat_lt}
use Rattle.std.specs.Prelude.{Option, Some, None, option_and_then, if◌then◌else◌}
use Rattle.std.specs.List.{concat}
use Rattle.std.specs.Option.{option_or}
use Rattle.booth_wire.specs.declared.codes.results.TheConstants.{MORE, SUCCESS}
use Rattle.booth_wire.specs.PlainMessage.{PlainMessage}
use Rattle.booth_talk.specs.declared.order.Asking.{Asking}
use Rattle.booth_talk.specs.declared.parts.TheConstants.{PARTS}
use Rattle.booth_talk.specs.Replies.{text_in}
use Rattle.booth_talk.specs.Waiting.{Pair, message_at}

-- A part of a list: whether it is the last, and its text.
pub record Part : Type 0 where
  pub last : Bool
  pub text : List ℕ

-- ---- the meaning of a reply for a client that waits for a list

-- The result belongs to a part of a list. It is `MORE` for each part except the last, whose result is 0.
abbrev pub is_of_list : ℕ → Bool
is_of_list result = (result == SUCCESS) || (result == MORE)

abbrev pub part_of : PlainMessage → Part
part_of m = record { last = m.head.result == SUCCESS; text = text_in m.content }

-- The part with this number, if the reply is that part.
abbrev pub part_in : ℕ → PlainMessage → Option Part
part_in n m =
    if is_of_list m.head.result && ((m.head.options == n) && nat_lt n PARTS) then Some (part_of m) else None

-- The result of a reply that refuses the list. Every result other than that of a part is a refusal, and the options do
-- not matter.
abbrev pub refusal_in : PlainMessage → Option ℕ
refusal_in m = if is_of_list m.head.result then None else Some m.head.result

-- ---- the parts in pairs

abbrev pub part_at : Asking → ℕ → ℕ → Pair → Option Part
part_at asking start n p = option_and_then (part_in n) (message_at asking start p)

abbrev pub refusal_at : Asking → ℕ → Pair → Option ℕ
refusal_at asking start p = option_and_then refusal_in (message_at asking start p)

-- The first part with this number in these pairs. Later parts with the number are ignored.
unfoldable pub first_part : Asking → ℕ → List Pair → ℕ → Option Part
first_part asking start [] n = None
first_part asking start (p ∷ ps) n = option_or (part_at asking start n p) (first_part asking start ps n)

-- ---- the condition for a whole list

-- These parts, by number, are a whole list with these texts. There is a last part, and a part with each smaller
-- number, which is not the last.
pub record IsWhole (part : ℕ → Option Part) (texts : List (List ℕ)) : Type 0 where
  pub last : ℕ
  pub number : length texts ≡ last + 1
  pub inner : (n : ℕ) → n < last → part n ≡ Some (record { last = false; text = get_or texts n [] })
  pub end : part last ≡ Some (record { last = true; text = get_or texts last [] })

-- These pairs contain a whole list. Its text is the texts of its parts, joined by number.
pub record BringList (asking : Asking) (start : ℕ) (pairs : List Pair) (text : List ℕ) : Type 0 where
  pub texts : List (List ℕ)
  pub whole : IsWhole (first_part asking start pairs) texts
  pub joined : text ≡ concat texts

-- A whole list has one text, and stays whole with this text, whatever arrives later.
pub record ListsAreOne : Type 0 where
  pub one : (asking : Asking) (start : ℕ) (pairs : List Pair) (text other : List ℕ) →
      BringList asking start pairs text → BringList asking start pairs other → text ≡ other
  pub stays : (asking : Asking) (start : ℕ) (pairs more : List Pair) (text : List ℕ) →
      BringList asking start pairs text → BringList asking start (pairs ++ more) text

-- ---- in the code

-- For each number the first part is stored: the part that was there before, or this one.
pub record AreTaken (part : ℕ → Option Part) (old new : List (Option Part)) : Type 0 where
  pub each : (n : ℕ) → get_or new n None ≡ option_or (get_or old n None) (part n)

-- No part has arrived.
abbrev pub AreNone : List (Option Part) → Type 0
AreNone kept = (n : ℕ) → get_or kept n None ≡ None

-- These parts are a whole list, by number from 0.
unfoldable pub is_whole : List (Option Part) → Bool
is_whole [] = false
is_whole (None ∷ kept) = false
is_whole (Some part ∷ kept) = part.last || is_whole kept

-- The texts of these parts, joined from number 0 up to the last one.
unfoldable pub text_of : List (Option Part) → List ℕ
text_of [] = []
text_of (None ∷ kept) = []
text_of (Some part ∷ kept) = part.text ++ (if part.last then [] else text_of kept)
