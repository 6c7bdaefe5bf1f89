-- The answers of hands in memory, and the acts that they record.
use Rattle.std.specs.Prelude.{◌≡◌, ◌++◌, ◌||◌, not, true, Bool, [], ◌∷◌, IsTrue}
use Rattle.booth_ticket.specs.Acts.{Ask, Act, Keep, Start, Say}
use Rattle.booth_ticket.specs.declared.fake.FakeHands.{FakeHands}
use Rattle.booth_ticket.specs.declared.fake.Noted.{Noted}
use Rattle.booth_ticket.specs.declared.fake.Noted.TheVariants as noted

-- The answer of the hands. A write and a start succeed exactly if the hands are not set to fail them.
abbrev pub answer_of : FakeHands → Ask → Bool
answer_of hands (Keep rec) = not hands.fails
answer_of hands (Start job expires) = not hands.fails_to_start
answer_of hands (Say to head part) = true

-- Whether writes fail after this act. If the hands are set to break, writes fail after the first one.
abbrev pub fails_after : FakeHands → Ask → Bool
fails_after hands (Keep rec) = hands.fails || hands.breaks
fails_after hands (Start job expires) = hands.fails
fails_after hands (Say to head part) = hands.fails

abbrev pub note_of : Ask → Bool → Noted
note_of (Keep rec) ok = noted.Kept rec ok
note_of (Start job expires) ok = noted.Started job expires ok
note_of (Say to head part) ok = noted.Said to head part

-- If the hands record acts afterwards, they recorded them before, and this act was added.
pub record Notes (old : FakeHands) (note : Noted) (new : FakeHands) : Type 0 where
  pub told : IsTrue new.tells → IsTrue old.tells × (new.acts.items ≡ old.acts.items ++ note ∷ [])

-- The answer of the act is that of the fake hands, and the act is recorded.
pub record DoesAct (old : FakeHands) (act : Act) (new : FakeHands) : Type 0 where
  pub answer : act.ok ≡ answer_of old act.ask
  pub fails : new.fails ≡ fails_after old act.ask
  pub breaks : new.breaks ≡ old.breaks
  pub starts : new.fails_to_start ≡ old.fails_to_start
  pub notes : Notes old (note_of act.ask act.ok) new

abbrev pub notes_act : FakeHands → Act → FakeHands → Type 0
notes_act old act new = DoesAct old act new
