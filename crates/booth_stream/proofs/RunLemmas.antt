-- Of an open link what was given, and then its rest, is what was polled of it.
use Rattle.std.specs.Prelude.{map, set, get_or, replicate, Bool, true, false, if◌then◌else◌, ◌==◌, Option, Some, None, Result, Ok, Err, position}
use Rattle.std.proofs.Common.{◌≡◌, ◌⊎◌, ℕ, zero, suc, List, [], ◌∷◌, ◌++◌, length, refl, sym, ◌∙◌, ap, inl, inr, arith, append_assoc, append-nil, subst}
use Rattle.std.proofs.Math.ListN.{get_or-map}
use Rattle.std.proofs.lemmas.List.{get_or-set_other, get_or-set_same, get_or_past, length-set}
use Rattle.std.proofs.lemmas.Option.{get_or_from_slice_get}
use Rattle.booth_base.specs.declared.address.Peer.{Peer}
use Rattle.booth_host.specs.declared.host.Failed.{Failed}
use Rattle.booth_stream.specs.declared.links.LinkEvent.{LinkEvent}
use Rattle.booth_stream.specs.declared.links.LinkEvent.TheVariants.{Opened, Bytes, Ended, Quiet}
use Rattle.booth_stream.specs.Cut.{AreFrames, IsCut, cut, joined}
use Rattle.booth_stream.specs.Places.{OpenLink, after_poll, after_event, placed, is_free, is_broken, unless_broken, unless_number, with_more, unbroken, without}
use Rattle.booth_stream.specs.Runs.{Happening, Polled, Given, Pruned, Left, Happens, IsGiven, IsRun, polled_of, given_of, GivenIsPrefix}
use Rattle.booth_stream.proofs.CutLemmas.{one_cut, cuts_each, lt_or_not}
use Rattle.booth_stream.proofs.FeedLemmas.{not_both, joined-append, AreFrames-append}

-- the link of a place, whatever its number
abbrev pub spot : List (Option OpenLink) → ℕ → Option OpenLink
spot places i = get_or places i None

cases_eq : (a b : ℕ) → (a ≡ b) ⊎ (a ≡ b → ⊥)
cases_eq a b = elim (lt_or_not a b) [
  | inl less ↦ inr (λ same. absurd (omega (arith, less, same)))
  | inr at_least ↦ elim (lt_or_not b a) [
    | inl more ↦ inr (λ same. absurd (omega (arith, more, same)))
    | inr at_most ↦ inl (omega (arith, at_least, at_most))
  ]
]

some_eq : (a b : OpenLink) → Some a ≡ Some b → a ≡ b
some_eq a b same = ap (λ (o : Option OpenLink). elim o [ None ↦ a | Some x ↦ x ]) same

no_some : (link : OpenLink) → None ≡ Some link → ⊥
no_some link is = cc

same_number : (m n : ℕ) → m ≡ n → (m == n) ≡ true
same_number m n is = grind (arith, is)

number_of : (m n : ℕ) → (m == n) ≡ true → m ≡ n
number_of m n is = grind (arith, is)

not_number : (m n : ℕ) → (m ≡ n → ⊥) → (b : Bool) → (m == n) ≡ b → (m == n) ≡ false
not_number m n differ true is = absurd (differ (number_of m n is))
not_number m n differ false is = is

-- what is told of a link after a run
pub record Tells (run : List Happening) (link : OpenLink) : Type 0 where
  pub each : AreFrames (given_of link.number run)
  pub whole : polled_of link.number run ≡ joined (given_of link.number run) ++ link.rest

-- it is told of each open link, and no two have one number
pub record Sound (run : List Happening) (places : List (Option OpenLink)) : Type 0 where
  pub told : (i : ℕ) (link : OpenLink) → spot places i ≡ Some link → Tells run link
  pub apart : (i j : ℕ) (a b : OpenLink) → spot places i ≡ Some a → spot places j ≡ Some b → a.number ≡ b.number → i ≡ j

-- ---- a function of each place, which keeps the number of a link or drops it

record Keeps (f : Option OpenLink → Option OpenLink) : Type 0 where
  none : f None ≡ None
  number : (old link : OpenLink) → f (Some old) ≡ Some link → link.number ≡ old.number

came_from : (f : Option OpenLink → Option OpenLink) (places : List (Option OpenLink)) (i : ℕ) (link : OpenLink) → Keeps f
    → spot (map f places) i ≡ Some link → (old : OpenLink) × (spot places i ≡ Some old) × (f (Some old) ≡ Some link)
came_from f places i link keeps is = pick (get_or places i None) refl
  where
    read : spot (map f places) i ≡ f (get_or places i None)
    read = ap (λ d. get_or (map f places) i d) (sym keeps.none) ∙ get_or-map f places i None

    pick : (was : Option OpenLink) → get_or places i None ≡ was
        → (old : OpenLink) × (spot places i ≡ Some old) × (f (Some old) ≡ Some link)
    pick None was = absurd (no_some link (sym keeps.none ∙ ap f (sym was) ∙ sym read ∙ is))
    pick (Some old) was = (old, was, ap f (sym was) ∙ sym read ∙ is)

mapped : (f : Option OpenLink → Option OpenLink) (run more : List Happening) (places : List (Option OpenLink)) → Keeps f
    → ((old link : OpenLink) → f (Some old) ≡ Some link → Tells run old → Tells more link)
    → Sound run places → Sound more (map f places)
mapped f run more places keeps tells sound = record {
  told = λ i link is. let was = came_from f places i link keeps is in tells was.0 link was.2 (sound.told i was.0 was.1);
  apart = λ i j a b is_a is_b same.
      let was_a = came_from f places i a keeps is_a in
      let was_b = came_from f places j b keeps is_b in
      sound.apart i j was_a.0 was_b.0 was_a.1 was_b.1
      (sym (keeps.number was_a.0 a was_a.2) ∙ same ∙ keeps.number was_b.0 b was_b.2);
}

-- ---- links are dropped

kept_if : (b : Bool) (old link : OpenLink) → (if b then None else Some old) ≡ Some link → (old ≡ link) × (b ≡ false)
kept_if true old link is = absurd (no_some link is)
kept_if false old link is = (some_eq old link is, refl)

unbroken_keeps : Keeps unless_broken
unbroken_keeps = record {
  none = refl;
  number = λ old link is. ap (λ (l : OpenLink). l.number) (sym (kept_if (is_broken old.rest) old link is).0);
}

without_keeps : (number : ℕ) → Keeps (unless_number number)
without_keeps number = record {
  none = refl;
  number = λ old link is. ap (λ (l : OpenLink). l.number) (sym (kept_if (old.number == number) old link is).0);
}

pruned : (run : List Happening) (places : List (Option OpenLink)) → Sound run places → Sound (Pruned ∷ run) (unbroken places)
pruned run places sound = mapped unless_broken run (Pruned ∷ run) places unbroken_keeps
    (λ old link is tells.
    let same = (kept_if (is_broken old.rest) old link is).0 in
    subst (λ (l : OpenLink). Tells (Pruned ∷ run) l) same (record { each = tells.each; whole = tells.whole }))
    sound

left_run : (number : ℕ) (run : List Happening) (places : List (Option OpenLink)) → Sound run places
    → Sound (Left number ∷ run) (without number places)
left_run number run places sound = mapped (unless_number number) run (Left number ∷ run) places (without_keeps number)
    (λ old link is tells.
    let same = (kept_if (old.number == number) old link is).0 in
    subst (λ (l : OpenLink). Tells (Left number ∷ run) l) same (record { each = tells.each; whole = tells.whole }))
    sound

-- ---- bytes are added

more_is : (b : Bool) (bytes : List ℕ) (old link : OpenLink) → (if b then Some (record old { rest = old.rest ++ bytes }) else Some old) ≡ Some link
    → (if b then record old { rest = old.rest ++ bytes } else old) ≡ link
more_is true bytes old link is = some_eq (record old { rest = old.rest ++ bytes }) link is
more_is false bytes old link is = some_eq old link is

more_number : (b : Bool) (bytes : List ℕ) (old : OpenLink) → (if b then record old { rest = old.rest ++ bytes } else old).number ≡ old.number
more_number true bytes old = refl
more_number false bytes old = refl

added_keeps : (number : ℕ) (bytes : List ℕ) → Keeps (with_more number bytes)
added_keeps number bytes = record {
  none = refl;
  number = λ old link is.
      ap (λ (l : OpenLink). l.number) (sym (more_is (old.number == number) bytes old link is)) ∙ more_number (old.number == number) bytes old;
}

added_tells : (m : ℕ) (bytes : List ℕ) (run : List Happening) (old : OpenLink) (b : Bool) → (old.number == m) ≡ b → Tells run old
    → Tells (Polled (Ok (Bytes m)) bytes ∷ run) (if b then record old { rest = old.rest ++ bytes } else old)
added_tells m bytes run old true is tells =
    let here = same_number m old.number (sym (number_of old.number m is)) in
    let before = polled_of old.number run in
    record {
      each = tells.each;
      whole = ap (λ (c : Bool). if c then before ++ bytes else before) here ∙ ap (λ l. l ++ bytes) tells.whole
          ∙ append_assoc (joined (given_of old.number run)) old.rest bytes;
    }
added_tells m bytes run old false is tells =
    let before = polled_of old.number run in
    let elsewhere = not_number m old.number (λ same. not_both (old.number == m) (same_number old.number m (sym same)) is) (m == old.number) refl in
    record { each = tells.each; whole = ap (λ (c : Bool). if c then before ++ bytes else before) elsewhere ∙ tells.whole }

added_run : (m : ℕ) (bytes : List ℕ) (run : List Happening) (places : List (Option OpenLink)) → Sound run places
    → Sound (Polled (Ok (Bytes m)) bytes ∷ run) (map (with_more m bytes) places)
added_run m bytes run places sound =
    let more = Polled (Ok (Bytes m)) bytes ∷ run in
    mapped (with_more m bytes) run more places (added_keeps m bytes)
    (λ old link is tells. subst (λ (l : OpenLink). Tells more l) (more_is (old.number == m) bytes old link is)
    (added_tells m bytes run old (old.number == m) refl tells))
    sound

-- ---- one place is written

spot_set : (places : List (Option OpenLink)) (p : ℕ) (new : OpenLink) (i : ℕ) (link : OpenLink)
    → spot (set places p (Some new)) i ≡ Some link
    → ((i ≡ p) × (link ≡ new)) ⊎ ((i ≡ p → ⊥) × (spot places i ≡ Some link))
spot_set places p new i link is = elim (cases_eq i p) [
  | inl same ↦ elim (lt_or_not p (length places)) [
    | inl within ↦ inl (
      same,
      sym (some_eq new link (sym (get_or-set_same places p (Some new) None within)
          ∙ ap (λ k. get_or (set places p (Some new)) k None) (sym same) ∙ is)),
    )
    | inr past ↦
        let long = length-set places p (Some new) in
        absurd (no_some link (sym (get_or_past (set places p (Some new)) p None (omega (arith, past, long)))
        ∙ ap (λ k. get_or (set places p (Some new)) k None) (sym same) ∙ is))
  ]
  | inr other ↦ inr (other, sym (get_or-set_other places p i (Some new) None other) ∙ is)
]

-- where the others are told of, and have other numbers
written : (run : List Happening) (places : List (Option OpenLink)) (p : ℕ) (new : OpenLink) → Tells run new
    → ((i : ℕ) (link : OpenLink) → (i ≡ p → ⊥) → spot places i ≡ Some link → Tells run link × (link.number ≡ new.number → ⊥))
    → ((i j : ℕ) (a b : OpenLink) → spot places i ≡ Some a → spot places j ≡ Some b → a.number ≡ b.number → i ≡ j)
    → Sound run (set places p (Some new))
written run places p new tells others apart = record {
  told = λ i link is. elim (spot_set places p new i link is) [
    | inl here ↦ subst (λ (l : OpenLink). Tells run l) (sym here.1) tells
    | inr there ↦ (others i link there.0 there.1).0
  ];
  apart = λ i j a b is_a is_b same. elim (spot_set places p new i a is_a) [
    | inl here_a ↦ elim (spot_set places p new j b is_b) [
      | inl here_b ↦ here_a.0 ∙ sym here_b.0
      | inr there_b ↦ absurd ((others j b there_b.0 there_b.1).1 (sym same ∙ ap (λ (l : OpenLink). l.number) here_a.1))
    ]
    | inr there_a ↦ elim (spot_set places p new j b is_b) [
      | inl here_b ↦ absurd ((others i a there_a.0 there_a.1).1 (same ∙ ap (λ (l : OpenLink). l.number) here_b.1))
      | inr there_b ↦ apart i j a b there_a.1 there_b.1 same
    ]
  ];
}

-- ---- a link is opened

-- of a link with another number nothing new is told
not_opened : (m : ℕ) (peer : Peer) (bytes : List ℕ) (run : List Happening) (link : OpenLink) → (m == link.number) ≡ false
    → Tells run link → Tells (Polled (Ok (Opened m peer)) bytes ∷ run) link
not_opened m peer bytes run link elsewhere tells =
    let n = link.number in
    record {
      each = subst (λ (c : Bool). AreFrames (if c then [] else given_of n run)) (sym elsewhere) tells.each;
      whole = subst (λ (c : Bool). (if c then [] else polled_of n run) ≡ joined (if c then [] else given_of n run) ++ link.rest)
          (sym elsewhere) tells.whole;
    }

just_opened : (m : ℕ) (peer : Peer) (bytes : List ℕ) (run : List Happening)
    → Tells (Polled (Ok (Opened m peer)) bytes ∷ run) (record { number = m; peer = peer; rest = [] })
just_opened m peer bytes run =
    let here = same_number m m refl in
    record {
      each = subst (λ (c : Bool). AreFrames (if c then [] else given_of m run)) (sym here) tt;
      whole = subst (λ (c : Bool). (if c then [] else polled_of m run) ≡ joined (if c then [] else given_of m run) ++ [])
          (sym here) refl;
    }

-- links of another number are left
left_over : (m : ℕ) (places : List (Option OpenLink)) (i : ℕ) (link : OpenLink) → spot (without m places) i ≡ Some link
    → (m == link.number) ≡ false
left_over m places i link is =
    let was = came_from (unless_number m) places i link (without_keeps m) is in
    let kept = kept_if (was.0.number == m) was.0 link was.2 in
    not_number m link.number
    (λ same. not_both (was.0.number == m) (same_number was.0.number m (ap (λ (l : OpenLink). l.number) kept.0 ∙ sym same)) kept.1)
    (m == link.number) refl

without_run : (m : ℕ) (peer : Peer) (bytes : List ℕ) (run : List Happening) (places : List (Option OpenLink)) → Sound run places
    → Sound (Polled (Ok (Opened m peer)) bytes ∷ run) (without m places)
without_run m peer bytes run places sound =
    let dropped : Sound (Left m ∷ run) (without m places) = left_run m run places sound in
    record {
      told = λ i link is.
          let t = dropped.told i link is in
          not_opened m peer bytes run link (left_over m places i link is) (record { each = t.each; whole = t.whole });
      apart = dropped.apart;
    }

placed_run : (m : ℕ) (peer : Peer) (bytes : List ℕ) (run : List Happening) (places : List (Option OpenLink)) → Sound run places
    → (free : Option ℕ) → Sound (Polled (Ok (Opened m peer)) bytes ∷ run) (placed m peer (without m places) free).places
placed_run m peer bytes run places sound None = without_run m peer bytes run places sound
placed_run m peer bytes run places sound (Some p) =
    let more = Polled (Ok (Opened m peer)) bytes ∷ run in
    let rest = without_run m peer bytes run places sound in
    written more (without m places) p (record { number = m; peer = peer; rest = [] }) (just_opened m peer bytes run)
    (λ i link other is. (
      rest.told i link is,
      (λ same. not_both (m == link.number) (same_number m link.number (sym same)) (left_over m places i link is)),
    ))
    rest.apart

-- ---- a frame is given

given_run : (number : ℕ) (bytes : List ℕ) (run : List Happening) (old new : List (Option OpenLink)) → Sound run old
    → IsGiven old number bytes new → Sound (Given number bytes ∷ run) new
given_run number bytes run old new sound given =
    let more = Given number bytes ∷ run in
    let link = given.link in
    let frames = given_of link.number run in
    let was : spot old given.place ≡ Some link = get_or_from_slice_get old given.place (Some link) None given.there in
    let tells = sound.told given.place link was in
    let here = same_number number link.number given.named in
    let next : OpenLink = record link { rest = given.left } in
    let now : Tells more next = record {
      each = subst (λ (c : Bool). AreFrames (if c then frames ++ bytes ∷ [] else frames)) (sym here)
          (AreFrames-append frames (bytes ∷ []) tells.each (given.frame, tt));
      whole = subst (λ (c : Bool). polled_of link.number run ≡ joined (if c then frames ++ bytes ∷ [] else frames) ++ given.left)
          (sym here)
          (tells.whole ∙ ap (λ l. joined frames ++ l) given.begins ∙ sym (append_assoc (joined frames) bytes given.left)
          ∙ ap (λ l. (joined frames ++ l) ++ given.left) (sym (append-nil bytes))
          ∙ ap (λ l. l ++ given.left) (sym (joined-append frames (bytes ∷ []))));
    } in
    subst (λ (l : List (Option OpenLink)). Sound more l) (sym given.now)
    (written more old given.place next now
    (λ i other apart is.
    let differs : other.number ≡ link.number → ⊥ = λ same. apart (sound.apart i given.place other link is was same) in
    let elsewhere : (number == other.number) ≡ false =
    not_number number other.number (λ same. differs (sym same ∙ given.named)) (number == other.number) refl in
    let t = sound.told i other is in
    let theirs = given_of other.number run in (
      record {
        each = subst (λ (c : Bool). AreFrames (if c then theirs ++ bytes ∷ [] else theirs)) (sym elsewhere) t.each;
        whole = subst (λ (c : Bool). polled_of other.number run ≡ joined (if c then theirs ++ bytes ∷ [] else theirs) ++ other.rest)
            (sym elsewhere) t.whole;
      },
      differs,
    ))
    sound.apart)

-- ---- runs

none_free : (n i : ℕ) → spot (replicate n None) i ≡ None
none_free zero i = refl
none_free (suc n) zero = refl
none_free (suc n) (suc i) = none_free n i

event_run : (event : LinkEvent) (bytes : List ℕ) (run : List Happening) (places : List (Option OpenLink)) → Sound run places
    → Sound (Polled (Ok event) bytes ∷ run) (after_event event bytes places).places
event_run (Opened m peer) bytes run places sound =
    placed_run m peer bytes run places sound (position is_free (without m places))
event_run (Bytes m) bytes run places sound = added_run m bytes run places sound
event_run (Ended m) bytes run places sound =
    let gone : Sound (Left m ∷ run) (without m places) = left_run m run places sound in
    record { told = λ i link is. let t = gone.told i link is in record { each = t.each; whole = t.whole }; apart = gone.apart }
event_run Quiet bytes run places sound =
    record { told = λ i link is. let t = sound.told i link is in record { each = t.each; whole = t.whole }; apart = sound.apart }

polled_run : (answer : Result LinkEvent Failed) (bytes : List ℕ) (run : List Happening) (places : List (Option OpenLink)) → Sound run places
    → Sound (Polled answer bytes ∷ run) (after_poll answer bytes places).places
polled_run (Ok event) bytes run places sound = event_run event bytes run places sound
polled_run (Err fault) bytes run places sound =
    record { told = λ i link is. let t = sound.told i link is in record { each = t.each; whole = t.whole }; apart = sound.apart }

happened : (happening : Happening) (run : List Happening) (old new : List (Option OpenLink)) → Sound run old
    → Happens old happening new → Sound (happening ∷ run) new
happened (Polled answer bytes) run old new sound is =
    subst (λ (l : List (Option OpenLink)). Sound (Polled answer bytes ∷ run) l) (sym is) (polled_run answer bytes run old sound)
happened (Given number bytes) run old new sound is = given_run number bytes run old new sound is
happened Pruned run old new sound is =
    subst (λ (l : List (Option OpenLink)). Sound (Pruned ∷ run) l) (sym is) (pruned run old sound)
happened (Left number) run old new sound is =
    subst (λ (l : List (Option OpenLink)). Sound (Left number ∷ run) l) (sym is) (left_run number run old sound)

sound_run : (run : List Happening) (places : List (Option OpenLink)) → IsRun run places → Sound run places
sound_run [] places is = record {
  told = λ i link there. absurd (no_some link (sym (none_free 16 i) ∙ ap (λ (l : List (Option OpenLink)). spot l i) (sym is) ∙ there));
  apart = λ i j a b is_a is_b same.
      absurd (no_some a (sym (none_free 16 i) ∙ ap (λ (l : List (Option OpenLink)). spot l i) (sym is) ∙ is_a));
}
sound_run (happening ∷ earlier) places is = happened happening earlier is.0 places (sound_run earlier is.0 is.1) is.2

pub given_is_prefix : GivenIsPrefix
given_is_prefix run places place link is there =
    let tells = (sound_run run places is).told place link (get_or_from_slice_get places place (Some link) None there) in
    let polled = polled_of link.number run in
    let given = given_of link.number run in
    let rest = cut link.rest in
    let whole = cuts_each link.rest in
    let parts : IsCut polled (given ++ rest.frames) rest.tail = record {
      whole = tells.whole ∙ ap (λ l. joined given ++ l) whole.whole
          ∙ sym (append_assoc (joined given) (joined rest.frames) rest.tail)
          ∙ ap (λ l. l ++ rest.tail) (sym (joined-append given rest.frames));
      each = AreFrames-append given rest.frames tells.each whole.each;
      end = whole.end;
    } in
    (tells.whole, (one_cut polled (cut polled).frames (given ++ rest.frames) (cut polled).tail rest.tail (cuts_each polled) parts).0)
