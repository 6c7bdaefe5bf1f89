-- The calls of a move are those of its deeds.
use Rattle.std.specs.Prelude.{Option, Some, None, Result, Ok, Err, IfSome, is_some, option_map}
use Rattle.std.proofs.Common.{◌≡◌, ◌<◌, ◌&&◌, ◌==◌, ℕ, true, List, [], ◌∷◌, ◌++◌, length, map, slice_get, refl, ap, arith}
use Rattle.std.proofs.lemmas.Bool.{cond_both, and_parts}
use Rattle.std.proofs.lemmas.List.Quantifiers.{position-Some}
use Rattle.std.proofs.lemmas.Option.{slice_get-get_or}
use Rattle.booth_base.specs.declared.address.MemberId.{MemberId}
use Rattle.booth_host.specs.declared.entry.Entry.{Entry}
use Rattle.booth_host.specs.declared.host.Arrival.{Arrival}
use Rattle.booth_host.specs.declared.host.Arrival.TheVariants as arrivals
use Rattle.booth_host.specs.declared.host.Failed.{Failed}
use Rattle.booth_auth.specs.Verdict.{is_signed}
use Rattle.booth_wire.specs.declared.message.FrameFault.{FrameFault}
use Rattle.booth_wire.specs.PlainMessage.{PlainMessage}
use Rattle.booth_wire.specs.Reading.{decoded}
use Rattle.booth_talk.specs.Waiting.{Pair as CallPair, calls_of}
use Rattle.booth_talk.specs.Asking.{peer_at}
use Rattle.booth_move.specs.declared.carrying.Asks.{Asks}
use Rattle.booth_move.specs.declared.carrying.Asks.TheVariants as asks
use Rattle.booth_move.specs.declared.carrying.Moving.{Moving}
use Rattle.booth_move.specs.declared.deeds.MoveDeed.{MoveDeed}
use Rattle.booth_move.specs.declared.deeds.MoveDeed.TheVariants as deeds
use Rattle.booth_move.specs.declared.stage.Stage.{Stage}
use Rattle.booth_move.specs.declared.stage.Stage.TheVariants.{Opening, Revoking, Granting, Pausing}
use Rattle.booth_move.specs.Carried.{CarriesDeeds, IsRequest, RequestsAreSent, all_told, calls_of_deeds, calls_with, told_from}
use Rattle.booth_move.specs.Carrying.{answer_at, answer_in, answer_read, calls_from, calls_so_far, member_peer, sending_to, sends, sent_for, setup_of, step_at, told}
use Rattle.booth_move.specs.Deeds.{deeds_from, move_deeds, opens}
use Rattle.booth_move.specs.Laws.{AreAnswers}
use Rattle.booth_move.specs.Move.{Pair, id_number, is_answer, place_of}
use Rattle.booth_move.specs.Rows.{Follows}
use Rattle.booth_move.proofs.LawLemmas.{ids_many}
use Rattle.booth_move.proofs.RowLemmas.{step_row}

calls_are : (moving : Moving) (stage : Stage) (ps : List CallPair) →
    calls_from moving stage ps ≡ calls_with moving ps (deeds_from (setup_of moving) stage (told_from moving stage ps))
unfolding calls_from told_from deeds_from
calls_are moving stage [] = refl
calls_are moving stage (p ∷ ps) =
    ap (λ (es : List Entry). (calls_of p ++ sends moving p.reading (sent_for moving (step_at moving stage p).deed)) ++ es)
    (calls_are moving (step_at moving stage p).stage ps)

all_calls_are : (moving : Moving) (start : ℕ) (pairs : List CallPair) →
    calls_so_far moving start pairs ≡ calls_of_deeds moving start pairs (move_deeds (setup_of moving) start (all_told moving start pairs))
unfolding deeds_from
all_calls_are moving start pairs =
    ap (λ (es : List Entry). sends moving start (sent_for moving (opens start).deed) ++ es) (calls_are moving (opens start).stage pairs)

-- ---- answers

-- what is told is an answer
abbrev Answers : Moving → Stage → Option PlainMessage → Type 0
Answers moving stage reply = IfSome reply (λ m. is_answer (setup_of moving) stage m ≡ true)

read_answers : (moving : Moving) (stage : Stage) (bytes : List ℕ) (read : Result PlainMessage FrameFault) →
    Answers moving stage (answer_read moving stage bytes read)
read_answers moving stage bytes (Err fault) = tt
read_answers moving stage bytes (Ok m) =
    cond_both (is_signed moving.ring m.head bytes && is_answer (setup_of moving) stage m) (Some m) None (Answers moving stage)
    (λ e. (and_parts (is_signed moving.ring m.head bytes) (is_answer (setup_of moving) stage m) e).1)
    (λ e. tt)

bytes_answer : (moving : Moving) (stage : Stage) (bytes : List ℕ) → Answers moving stage (answer_in moving stage bytes)
unfolding answer_in
bytes_answer moving stage bytes = read_answers moving stage bytes (decoded bytes)

arrival_answers : (moving : Moving) (stage : Stage) (answer : Result Arrival Failed) (bytes : List ℕ) →
    Answers moving stage (answer_at moving stage answer bytes)
arrival_answers moving stage (Ok (arrivals.Datagram peer)) bytes = bytes_answer moving stage bytes
arrival_answers moving stage (Ok (arrivals.Handler job status)) bytes = tt
arrival_answers moving stage (Ok arrivals.Quiet) bytes = tt
arrival_answers moving stage (Ok arrivals.Stop) bytes = tt
arrival_answers moving stage (Err failed) bytes = tt

told_answers : (moving : Moving) (stage : Stage) (ps : List CallPair) → AreAnswers (setup_of moving) stage (told_from moving stage ps)
unfolding told_from
told_answers moving stage [] = tt
told_answers moving stage (p ∷ ps) =
    (arrival_answers moving stage p.answer p.bytes, told_answers moving (step_at moving stage p).stage ps)

pub carries : CarriesDeeds
carries = record { calls = all_calls_are; answers = λ moving start pairs. (tt, told_answers moving (opens start).stage pairs) }

-- ---- requests

map_some : {A B : Type 0} (f : A → B) (o : Option A) → is_some o ≡ true → is_some (option_map f o) ≡ true
map_some f None some = some
map_some f (Some x) some = refl

-- inside a list there is an element
element : {A : Type 0} (xs : List A) (k : ℕ) → k < length xs → is_some (slice_get xs k) ≡ true
element [] k lt = absurd (omega (arith, lt))
element (x ∷ xs) k lt = ap is_some (slice_get-get_or (x ∷ xs) k x lt)

at_place : (moving : Moving) (what : Asks) (number place : ℕ) → place < length moving.config.members →
    is_some (option_map (sending_to what number) (member_peer moving place)) ≡ true
at_place moving what number place lt =
    map_some (sending_to what number) (member_peer moving place)
    (map_some (peer_at moving.config) (slice_get moving.config.members place) (element moving.config.members place lt))

-- the place of a member is one among the members
within : (moving : Moving) (id : MemberId) (place : ℕ) → place_of id (setup_of moving).ids ≡ Some place → place < length moving.config.members
within moving id place is =
    let lt : place < length (map id_number moving.config.members) =
    (position-Some (λ (other : ℕ). other == id.0) (map id_number moving.config.members) place 0 is).0 in
    omega (arith, lt, ids_many moving.config.members)

sent_row : (moving : Moving) (stage : Stage) (q : Pair) (d : MoveDeed) (next : Stage) → moving.target < length moving.config.members →
    Follows (setup_of moving) stage q d next → IsRequest d → is_some (sent_for moving d) ≡ true
sent_row moving (Opening start) q (deeds.Revoke None number) (Revoking next on) lt h r = refl
sent_row moving (Revoking last sent_on) q (deeds.Revoke (Some place) number) (Revoking next on) lt h r =
    at_place moving asks.Revoke number place (within moving _ place h.0.there)
sent_row moving (Revoking last sent_on) q (deeds.Grant number) (Granting next again) lt h r = at_place moving asks.Grant number moving.target lt
sent_row moving (Granting last repeats) q (deeds.Grant number) (Granting next again) lt h r = at_place moving asks.Grant number moving.target lt
sent_row moving (Pausing last repeats) q (deeds.Grant number) (Granting next again) lt h r = at_place moving asks.Grant number moving.target lt
sent_row moving stage q deeds.Nothing next lt h r = absurd r
sent_row moving stage q (deeds.End end) next lt h r = absurd r
sent_row moving stage q d next lt h r = absurd h

pub requests_sent : RequestsAreSent
requests_sent moving stage p lt sound r =
    sent_row moving stage (told moving stage p) (step_at moving stage p).deed (step_at moving stage p).stage lt
    (step_row (setup_of moving) stage (told moving stage p) sound) r
