-- No line feed stands in a call or in an answer.
use Rattle.std.specs.Prelude.{codes, decimal, Option, None, Some, pos, negsuc}
use Rattle.std.specs.Fmt.{signed_decimal}
use Rattle.std.specs.Int.Signed.{mag}
use Rattle.std.proofs.Common.{◌≡◌, ◌<◌, ◌^◌, ◌/◌, ◌%◌, ℕ, ℤ, suc, true, List, [], ◌∷◌, ◌++◌, refl, arith}
use Rattle.std.proofs.lemmas.Bool.Decides.{nat_tests}
use Rattle.hex.specs.Hex.{encode_lower, encode_with, lower_digits}
use Rattle.booth_base.specs.declared.address.Address.{Address}
use Rattle.booth_base.specs.declared.address.Peer.{Peer}
use Rattle.booth_base.specs.Address.{printed}
use Rattle.booth_base.specs.Name.{is_name}
use Rattle.booth_rec.specs.Spelling.{spelling}
use Rattle.booth_journal.specs.declared.said.Answer.{Answer}
use Rattle.booth_journal.specs.declared.said.Answer.TheVariants as answers
use Rattle.booth_journal.specs.declared.said.Call.{Call}
use Rattle.booth_journal.specs.declared.said.Call.TheVariants as calls
use Rattle.booth_journal.specs.Fields.{is_other}
use Rattle.booth_journal.specs.Lines.{answer_text, call_text, hex_text, local_text, peer_text, record_text}
use Rattle.booth_journal.specs.Reading.{IsAnswer, IsCall, IsLocal, IsPeer}
use Rattle.booth_journal.specs.Texts.{IsInside}
use Rattle.booth_journal.proofs.BlankLemmas.{IsNoDigit, address_has_no, both_have_no, byte_passes, name_has_no, number_has_no}
use Rattle.booth_journal.proofs.FieldLemmas.{small_status}

-- ---- fields

feed_no_digit : IsNoDigit 0x0A
feed_no_digit c h = grind (arith, nat_tests, h)

number_inside : (n : ℕ) → n < 2 ^ 64 → IsInside (decimal n)
number_inside n small = number_has_no 0x0A feed_no_digit n small

status_inside : (z : ℤ) → mag z < 2 ^ 63 → IsInside (signed_decimal z)
status_inside (pos n) small = number_inside n (omega (arith, small))
status_inside (negsuc n) small =
    both_have_no 0x0A (codes "-") (decimal (suc n)) refl (number_inside (suc n) (omega (arith, small)))

name_inside : (name : List ℕ) → is_name name ≡ true → IsInside name
name_inside name named = name_has_no 0x0A (omega arith) name named

local_inside : (local : Option Address) → IsLocal local → IsInside (local_text local)
local_inside None whole = refl
local_inside (Some a) whole = address_has_no 0x0A (omega arith) a whole

peer_inside : (peer : Peer) → IsPeer peer → IsInside (peer_text peer)
peer_inside peer of_peer =
    both_have_no 0x0A (printed peer.address ++ codes " ") (decimal peer.port)
    (both_have_no 0x0A (printed peer.address) (codes " ") (address_has_no 0x0A (omega arith) peer.address of_peer.0) refl)
    (number_inside peer.port (omega (arith, of_peer.1)))

digits_inside : (bytes : List ℕ) → IsInside (encode_lower bytes)
unfolding encode_with
digits_inside [] = refl
digits_inside (b ∷ bytes) =
    rw (byte_passes (is_other 0x0A) lower_digits (b / 16) refl refl)
    (rw (byte_passes (is_other 0x0A) lower_digits (b % 16) refl refl) (digits_inside bytes))

bytes_inside : (bytes : List ℕ) → IsInside (hex_text bytes)
bytes_inside [] = refl
bytes_inside (b ∷ bytes) = digits_inside (b ∷ bytes)

-- the two of a send or of a datagram
carried_inside : (head : List ℕ) (peer : Peer) (bytes : List ℕ) → IsInside head → IsPeer peer
    → IsInside (head ++ peer_text peer ++ codes " " ++ hex_text bytes)
carried_inside head peer bytes of_head of_peer =
    both_have_no 0x0A ((head ++ peer_text peer) ++ codes " ") (hex_text bytes)
    (both_have_no 0x0A (head ++ peer_text peer) (codes " ")
    (both_have_no 0x0A head (peer_text peer) of_head (peer_inside peer of_peer)) refl) (bytes_inside bytes)

-- ---- lines

pub call_inside : (call : Call) → IsCall call → IsInside (call_text call)
call_inside calls.Now of = refl
call_inside (calls.Open local) of = both_have_no 0x0A (codes "open ") (local_text local) refl (local_inside local of)
call_inside calls.Next of = refl
call_inside (calls.Send to bytes) of = carried_inside (codes "send ") to bytes refl of.0
call_inside (calls.Kept ticket) of = both_have_no 0x0A (codes "kept ") ticket refl (name_inside ticket of)
call_inside (calls.Keep ticket kept) of =
    both_have_no 0x0A ((codes "keep " ++ ticket) ++ codes " ") (record_text kept)
    (both_have_no 0x0A (codes "keep " ++ ticket) (codes " ")
    (both_have_no 0x0A (codes "keep ") ticket refl (name_inside ticket of.0)) refl) (digits_inside (spelling kept))
call_inside (calls.Job number ticket expires) of =
    both_have_no 0x0A ((((codes "job " ++ decimal number) ++ codes " ") ++ ticket) ++ codes " ") (decimal expires)
    (both_have_no 0x0A (((codes "job " ++ decimal number) ++ codes " ") ++ ticket) (codes " ")
    (both_have_no 0x0A ((codes "job " ++ decimal number) ++ codes " ") ticket
    (both_have_no 0x0A (codes "job " ++ decimal number) (codes " ")
    (both_have_no 0x0A (codes "job ") (decimal number) refl (number_inside number of.0)) refl) (name_inside ticket of.1))
    refl) (number_inside expires of.2)

pub answer_inside : (answer : Answer) → IsAnswer answer → IsInside (answer_text answer)
answer_inside (answers.Reading reading) of = number_inside reading of
answer_inside answers.Done of = refl
answer_inside answers.Fails of = refl
answer_inside answers.Quiet of = refl
answer_inside answers.Stop of = refl
answer_inside (answers.Ended job status) of =
    both_have_no 0x0A ((codes "handler " ++ decimal job) ++ codes " ") (signed_decimal status)
    (both_have_no 0x0A (codes "handler " ++ decimal job) (codes " ")
    (both_have_no 0x0A (codes "handler ") (decimal job) refl (number_inside job of.0)) refl)
    (status_inside status (small_status status of.1))
answer_inside (answers.Data from bytes) of = carried_inside (codes "data ") from bytes refl of.0
answer_inside answers.Absent of = refl
answer_inside (answers.Found kept) of = digits_inside (spelling kept)
