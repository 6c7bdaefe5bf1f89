-- Turns one after the other, by whatever keys.
use Rattle.std.specs.Prelude.{Option}
use Rattle.std.proofs.Common.{◌≡◌, ◌∙◌, List, [], ◌∷◌, ◌++◌, sym, ap, refl, subst, append_assoc, append-nil}
use Rattle.booth_keys.specs.declared.ring.Ring.{Ring}
use Rattle.booth_host.specs.declared.entry.Entry.{Entry}
use Rattle.booth_following.specs.declared.following.Following.{Following}
use Rattle.booth_following.specs.declared.following.Seat.{Seat}
use Rattle.booth_following.specs.declared.turns.Awaited.{Awaited}
use Rattle.booth_following.specs.declared.turns.FollowEnd.TheVariants.{Unheard}
use Rattle.booth_following.specs.declared.turns.Made.{Made}
use Rattle.booth_following.specs.Following.{under}
use Rattle.booth_following.specs.Turns.{AreTurns, AreTurnsTo, IsEnded, IsFollowed, IsSilent, IsToldIn, Turn, calls_from, seat_after, seat_from, turn_calls}

told_append : (f : Following) (seat : Seat) (xs ys : List Turn) → AreTurns f seat xs → AreTurns f (seat_from seat xs) ys → AreTurns f seat (xs ++ ys)
unfolding AreTurns seat_from
told_append f seat [] ys first second = second
told_append f seat (x ∷ xs) ys first second = (first.0, told_append f (seat_after seat x) xs ys first.1 second)

seat_append : (seat : Seat) (xs ys : List Turn) → seat_from seat (xs ++ ys) ≡ seat_from (seat_from seat xs) ys
unfolding seat_from
seat_append seat [] ys = refl
seat_append seat (x ∷ xs) ys = seat_append (seat_after seat x) xs ys

turn_calls_append : (f : Following) (seat : Seat) (xs ys : List Turn) →
    calls_from f seat (xs ++ ys) ≡ calls_from f seat xs ++ calls_from f (seat_from seat xs) ys
unfolding calls_from seat_from
turn_calls_append f seat [] ys = refl
turn_calls_append f seat (x ∷ xs) ys =
    ap (λ (es : List Entry). turn_calls f seat x ++ es) (turn_calls_append f (seat_after seat x) xs ys)
    ∙ sym (append_assoc (turn_calls f seat x) (calls_from f (seat_after seat x) xs) (calls_from f (seat_from (seat_after seat x) xs) ys))

one_told : (f : Following) (seat : Seat) (t : Turn) → IsToldIn f seat t → AreTurns f seat (t ∷ [])
unfolding AreTurns
one_told f seat t told = (told, tt)

one_seat : (seat : Seat) (t : Turn) → seat_from seat (t ∷ []) ≡ seat_after seat t
unfolding seat_from
one_seat seat t = refl

one_turn_calls : (f : Following) (seat : Seat) (t : Turn) → calls_from f seat (t ∷ []) ≡ turn_calls f seat t
unfolding calls_from
one_turn_calls f seat t = append-nil (turn_calls f seat t)

-- turns and a last one are turns
ended_turns : (f : Following) (from to : Seat) (ends : Option Awaited → Made → Type 0) (entries : List Entry) → IsEnded f from to ends entries →
    AreTurnsTo f from to entries
ended_turns f from to ends entries e =
    let ts : List Turn = e.underway.turns in
    let t : Turn = e.turn.t in
    let stands : seat_from from ts ≡ e.seat = e.underway.stands in
    record {
      turns = ts ++ t ∷ [];
      told = told_append f from ts (t ∷ []) e.underway.told
          (one_told f (seat_from from ts) t (subst (λ (s : Seat). IsToldIn f s t) (sym stands) e.turn.told));
      stands = seat_append from ts (t ∷ []) ∙ one_seat (seat_from from ts) t ∙ ap (λ (s : Seat). seat_after s t) stands ∙ sym e.turn.stands;
      calls = e.whole ∙ ap (λ (es : List Entry). es ++ e.last) e.underway.whole
          ∙ ap (λ (es : List Entry). calls_from f from ts ++ es)
          (e.turn.whole ∙ ap (λ (s : Seat). turn_calls f s t) (sym stands) ∙ sym (one_turn_calls f (seat_from from ts) t))
          ∙ sym (turn_calls_append f from ts (t ∷ []));
    }

-- whatever keys a following has, its turns are the same
told_under : (f : Following) (ring : Option Ring) (seat : Seat) (ts : List Turn) → AreTurns (under f ring) seat ts → AreTurns f seat ts
unfolding AreTurns
told_under f ring seat [] told = tt
told_under f ring seat (t ∷ ts) told = (told.0, told_under f ring (seat_after seat t) ts told.1)

calls_under : (f : Following) (ring : Option Ring) (seat : Seat) (ts : List Turn) → calls_from (under f ring) seat ts ≡ calls_from f seat ts
unfolding calls_from
calls_under f ring seat [] = refl
calls_under f ring seat (t ∷ ts) = ap (λ (es : List Entry). turn_calls f seat t ++ es) (calls_under f ring (seat_after seat t) ts)

pub turns_under : (f : Following) (ring : Option Ring) (from to : Seat) (entries : List Entry) → AreTurnsTo (under f ring) from to entries →
    AreTurnsTo f from to entries
turns_under f ring from to entries are = record {
  turns = are.turns;
  told = told_under f ring from are.turns are.told;
  stands = are.stands;
  calls = are.calls ∙ calls_under f ring from are.turns;
}

pub turns_then : (f : Following) (from at to : Seat) (xs ys : List Entry) → AreTurnsTo f from at xs → AreTurnsTo f at to ys → AreTurnsTo f from to (xs ++ ys)
turns_then f from at to xs ys first second = record {
  turns = first.turns ++ second.turns;
  told = told_append f from first.turns second.turns first.told
      (subst (λ (s : Seat). AreTurns f s second.turns) (sym first.stands) second.told);
  stands = seat_append from first.turns second.turns ∙ ap (λ (s : Seat). seat_from s second.turns) first.stands ∙ second.stands;
  calls = ap (λ (es : List Entry). es ++ ys) first.calls ∙ ap (λ (es : List Entry). calls_from f from first.turns ++ es) second.calls
      ∙ ap (λ (s : Seat). calls_from f from first.turns ++ calls_from f s second.turns) (sym first.stands)
      ∙ sym (turn_calls_append f from first.turns second.turns);
}

pub no_turns : (f : Following) (seat : Seat) → AreTurnsTo f seat seat []
unfolding AreTurns seat_from calls_from
no_turns f seat = record { turns = []; told = tt; stands = refl; calls = refl }

-- turns up to silence
pub silent_turns : (f : Following) (from to : Seat) (entries : List Entry) → IsFollowed f from to Unheard entries → AreTurnsTo f from to entries
silent_turns f from to entries followed = ended_turns f from to IsSilent entries followed
