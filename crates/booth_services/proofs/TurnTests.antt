-- Tests of the turns of followers, which the prover computes.
use Rattle.std.proofs.Common.{◌≡◌, ℕ, ◌<◌, ◌+◌, ◌==◌, Bool, true, false, not, ◌&&◌, ◌||◌, List, [], ◌∷◌, ◌++◌, sym, ap, ◌∙◌, subst}
use Rattle.std.specs.Prelude.{Option, Some, None, Result, Ok, is_ok, nat_le, nat_lt}
use Rattle.std.proofs.lemmas.Bool.{and_parts, eqb-true, leb-true, ltb-true}
use Rattle.booth_wire.specs.declared.message.FrameFault.{FrameFault}
use Rattle.booth_wire.specs.PlainMessage.{PlainMessage}
use Rattle.booth_wire.specs.Reading.{decoded}
use Rattle.booth_node.specs.Records.{Has}
use Rattle.booth_node.specs.World.{WorldEntry, World, clock_at, IsSend}
use Rattle.booth_follow_rule.specs.declared.state.Word.{Word}
use Rattle.booth_follow_rule.specs.declared.state.Word.TheVariants.{Kill}
use Rattle.booth_follow_rule.specs.Known.{AllRows, Known, Row, Service, Started, known_after}
use Rattle.booth_follow_rule.specs.Laws.{IsPrompt}
use Rattle.booth_following.specs.declared.following.Following.{Following}
use Rattle.booth_examples.proofs.SameLemmas.{no_test}
use Rattle.booth_services.specs.Services.{HearsItsSite, IsTurnAt, TimedTurn, WasSentBy, asked_after, time_after}
use Rattle.booth_services.proofs.ListLemmas.{heads, joins, some_there, with_none}

-- ---- each turn

-- each turn has this property, together with the turns before it
abbrev pub AllAt : (List TimedTurn → TimedTurn → Type 0) → List TimedTurn → List TimedTurn → Type 0
AllAt P before [] = Unit {0}
AllAt P before (t ∷ turns) = P before t × AllAt P (before ++ t ∷ []) turns

pub all_at : (P : List TimedTurn → TimedTurn → Type 0) (earlier turns : List TimedTurn) → AllAt P earlier turns
    → (before after : List TimedTurn) (t : TimedTurn) → turns ≡ before ++ t ∷ after → P (earlier ++ before) t
all_at P earlier [] h before after t whole = absurd (some_there before t after (sym whole))
all_at P earlier (u ∷ turns) h [] after t whole =
    let q = heads u t turns after whole in
    subst (λ (xs : List TimedTurn). P xs t) (sym (with_none earlier)) (subst (λ (v : TimedTurn). P earlier v) q.0 h.0)
all_at P earlier (u ∷ turns) h (b ∷ before) after t whole =
    let q = heads u b turns (before ++ t ∷ after) whole in
    subst (λ (xs : List TimedTurn). P xs t)
    (joins earlier (u ∷ []) before ∙ ap (λ (v : TimedTurn). earlier ++ v ∷ before) q.0)
    (all_at P (earlier ++ u ∷ []) turns h.1 before after t q.1)

-- ---- a turn at a member

-- the turn is in order and within a minute, and its reading is its true time
abbrev pub is_timed : List TimedTurn → TimedTurn → Bool
is_timed before t = nat_le (time_after 0 before) t.time && (nat_lt t.time 60000 && t.turn.reading == t.time)

-- the clock of this member reads the true time, for a minute
pub record IsExact (w : World) (m : ℕ) : Type 0 where
  pub span : w.span ≡ 60000
  pub reads : (time : ℕ) → time < 60000 → clock_at w m time ≡ time

-- what is sent is what is heard
hears_sent : (w : World) (m : ℕ) (f : Following) (asked : Option ℕ) (t : TimedTurn)
    → ((message : PlainMessage) → decoded t.turn.bytes ≡ Ok message → WasSentBy w m t.time message) → HearsItsSite w m f asked t
hears_sent w m f None t sent = tt
hears_sent w m f (Some asked) t sent = (λ message part told. sent message told.read, λ message part told. sent message told.read)

turn_at : (w : World) (m : ℕ) (f : Following) (left : Option ℕ) → IsExact w m → (before : List TimedTurn) (t : TimedTurn)
    → is_timed before t ≡ true
    → ((message : PlainMessage) → decoded t.turn.bytes ≡ Ok message → WasSentBy w m t.time message) → IsTurnAt w m f left before t
turn_at w m f left exact before t e sent =
    let order = and_parts (nat_le (time_after 0 before) t.time) _ e in
    let span = and_parts (nat_lt t.time 60000) _ order.1 in
    let within = ltb-true t.time 60000 span.0 in
    record {
      in_order = leb-true (time_after 0 before) t.time order.0;
      within = subst (λ (n : ℕ). t.time < n) (sym exact.span) within;
      reads = eqb-true t.turn.reading t.time span.1 ∙ sym (exact.reads t.time within);
      hears = hears_sent w m f (asked_after f left before) t sent;
    }

-- no bytes are no message
none_read : (message : PlainMessage) → decoded [] ≡ Ok message → ⊥
none_read message e = no_test (ap (λ (r : Result PlainMessage FrameFault). is_ok r) e)

pub silent_at : (w : World) (m : ℕ) (f : Following) (left : Option ℕ) → IsExact w m → (before : List TimedTurn) (t : TimedTurn)
    → is_timed before t ≡ true → t.turn.bytes ≡ [] → IsTurnAt w m f left before t
silent_at w m f left exact before t e silent =
    turn_at w m f left exact before t e
    (λ message read. absurd (none_read message (subst (λ (bytes : List ℕ). decoded bytes ≡ Ok message) silent read)))

pub told_at : (w : World) (m : ℕ) (f : Following) (left : Option ℕ) → IsExact w m → (before : List TimedTurn) (t : TimedTurn)
    → is_timed before t ≡ true → (entry : WorldEntry) → Has w.entries entry → entry.member ≡ m → nat_le entry.time t.time ≡ true
    → IsSend entry.what t.turn.bytes → IsTurnAt w m f left before t
told_at w m f left exact before t e entry one own earlier sent =
    turn_at w m f left exact before t e
    (λ message read. record {
      entry = entry;
      one = one;
      own = own;
      no_later = leb-true entry.time t.time earlier;
      bytes = t.turn.bytes;
      sent = sent;
      same = read;
    })

-- ---- promptness

abbrev is_started : Service → Bool
is_started Started = true
is_started service = false

abbrev is_killed : Option Word → Bool
is_killed (Some Kill) = true
is_killed last = false

-- a row of a prompt environment
abbrev is_prompt : ℕ → ℕ → Known → Row → Bool
is_prompt gap quick k row =
    (not (is_started k.service) || nat_le row.at.reading (k.seen + gap))
    && (not (is_started (known_after k row).service && is_killed (known_after k row).last)
    || nat_le row.at.reading ((known_after k row).killed_at + quick))

abbrev pub are_prompt : ℕ → ℕ → Known → List Row → Bool
are_prompt gap quick k [] = true
are_prompt gap quick k (row ∷ rows) = is_prompt gap quick k row && are_prompt gap quick (known_after k row) rows

pub implied : (a b : Bool) → not a || b ≡ true → a ≡ true → b ≡ true
implied true b e h = e
implied false b e h = no_test h

both : (a b : Bool) → a ≡ true → b ≡ true → a && b ≡ true
both true b h e = e
both false b h e = no_test h

prompt_is : (gap quick : ℕ) (k : Known) (row : Row) → is_prompt gap quick k row ≡ true → IsPrompt gap quick k row
prompt_is gap quick k row e =
    let q = and_parts (not (is_started k.service) || nat_le row.at.reading (k.seen + gap)) _ e in
    record {
      soon = λ started. leb-true _ _ (implied (is_started k.service) _ q.0 (ap (λ s. is_started s) started));
      killed = λ started last. leb-true _ _
          (implied _ _ q.1
          (both (is_started (known_after k row).service) (is_killed (known_after k row).last) (ap (λ s. is_started s) started) (ap (λ o. is_killed o) last)));
    }

pub prompt_rows : (gap quick : ℕ) (k : Known) (rows : List Row) → are_prompt gap quick k rows ≡ true → AllRows (IsPrompt gap quick) k rows
prompt_rows gap quick k [] e = tt
prompt_rows gap quick k (row ∷ rows) e =
    let q = and_parts (is_prompt gap quick k row) _ e in
    (prompt_is gap quick k row q.0, prompt_rows gap quick (known_after k row) rows q.1)
