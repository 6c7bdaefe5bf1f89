-- What a line says, both ways.
use Rattle.std.proofs.Common.{◌≡◌, ◌≢◌, ℕ, Bool, true, false, List, [], ◌∷◌, map, Option, Some, None, cond, refl, ap, ◌∙◌, sym, subst}
use Rattle.std.specs.List.{find}
use Rattle.std.proofs.lemmas.Slice.Eq.{bytes_eq-Decides}
use Rattle.booth_conf.specs.Grammar.{IsPair}
use Rattle.booth_conf.specs.Keys.{row_of, all_keys, is_named, key_named}
use Rattle.booth_conf.specs.LineReader.{Reading, line_read}
use Rattle.booth_conf.specs.LineReader as reads
use Rattle.booth_conf.specs.ValueReader.{setting_in}
use Rattle.booth_conf.specs.Said.{IsSaid, AreSaid, SaysUnknown, IsBroken, MakesSetting}
use Rattle.booth_conf.specs.SaidReader.{said, said_of, said_by}
use Rattle.booth_conf.specs.declared.keys.ConfKey.{ConfKey}
use Rattle.booth_conf.specs.declared.settings.Setting.{Setting}
use Rattle.booth_conf.specs.declared.line_meaning.Said.{Said}
use Rattle.booth_conf.specs.declared.line_meaning.Said.TheVariants.{Empty, Broken, Unknown, Pair}
use Rattle.booth_conf.proofs.KeyLemmas.{named_only}
use Rattle.booth_conf.proofs.BothWays.{pair_only, pair_found, empty_read, empty_found}
use Rattle.booth_conf.proofs.Forms.{setting_found, setting_only}

-- KEYS

find_passes : (p : ConfKey → Bool) (xs : List ConfKey) (k : ConfKey) → find p xs ≡ Some k →
    p k ≡ true
find_passes p [] k e = cc
find_passes p (x ∷ xs) k e = elim (p x) as (λ t. p x ≡ t → cond t (Some x) (find p xs) ≡ Some k → p k ≡ true) [
  | true ↦ λ t f. (let same : x ≡ k = cc in subst (λ y. p y ≡ true) same t)
  | false ↦ λ t f. find_passes p xs k f
] refl e

pub named_found : (name : List ℕ) (key : ConfKey) → key_named name ≡ Some key →
    (row_of key).name ≡ name
named_found name key e =
    (bytes_eq-Decides (row_of key).name name).0 (find_passes (is_named name) all_keys key e)

-- WHAT IS READ IS SAID

makes_of : (key : ConfKey) (value : List ℕ) (o : Option Setting) → setting_in key value ≡ o →
    MakesSetting key value o
makes_of key value None e = λ s h. (let f : None ≡ Some s = sym e ∙ setting_only key value s h in cc)
makes_of key value (Some s) e = setting_found key value s e

unknown_of : (line name value : List ℕ) → IsPair line name value → key_named name ≡ None →
    SaysUnknown line
unknown_of line name value p e = record {
  name = name;
  value = value;
  pair = p;
  unknown = λ key same. (let f : None ≡ Some key = sym e ∙ ap key_named (sym same) ∙ named_only key in cc);
}

key_of : (line name value : List ℕ) (o : Option ConfKey) → IsPair line name value →
    key_named name ≡ o → IsSaid line (said_by value o)
key_of line name value None p e = unknown_of line name value p e
key_of line name value (Some key) p e = record {
  value = value;
  pair = subst (λ n. IsPair line n value) (sym (named_found name key e)) p;
  makes = makes_of key value (setting_in key value) refl;
}

broken_of : (line : List ℕ) → line_read line ≡ reads.Broken → IsBroken line
broken_of line e = record {
  not_empty = λ h. (let f : reads.Empty ≡ reads.Broken = sym (empty_read line h) ∙ e in cc);
  no_pair = λ name value p. (let f : reads.Pair name value ≡ reads.Broken = sym (pair_only line name value p) ∙ e in cc);
}

reading_of : (line : List ℕ) (r : Reading) → line_read line ≡ r → IsSaid line (said_of r)
reading_of line reads.Empty e = empty_found line e
reading_of line (reads.Pair name value) e =
    key_of line name value (key_named name) (pair_found line name value e) refl
reading_of line reads.Broken e = broken_of line e

pub said_found : (line : List ℕ) → IsSaid line (said line)
said_found line = reading_of line (line_read line) refl

pub said_is : (line : List ℕ) (s : Said) → s ≡ said line → IsSaid line s
said_is line s e = subst (λ t. IsSaid line t) (sym e) (said_found line)

-- NOTHING ELSE IS SAID

makes_only : (key : ConfKey) (value : List ℕ) (o p : Option Setting) → MakesSetting key value o →
    setting_in key value ≡ p → o ≡ p
makes_only key value None None h e = refl
makes_only key value None (Some s) h e = absurd (h s (setting_found key value s e))
makes_only key value (Some s) p h e = sym (setting_only key value s h) ∙ e

unknown_named : (name : List ℕ) (o : Option ConfKey) →
    ((key : ConfKey) → (row_of key).name ≢ name) → key_named name ≡ o → o ≡ None
unknown_named name None n e = refl
unknown_named name (Some key) n e = absurd (n key (named_found name key e))

broken_read : (line : List ℕ) (r : Reading) → IsBroken line → line_read line ≡ r → r ≡ reads.Broken
broken_read line reads.Empty h e = absurd (h.not_empty (empty_found line e))
broken_read line (reads.Pair name value) h e =
    absurd (h.no_pair name value (pair_found line name value e))
broken_read line reads.Broken h e = refl

pub said_only : (line : List ℕ) (s : Said) → IsSaid line s → s ≡ said line
said_only line Empty h = ap said_of (sym (empty_read line h))
said_only line Broken h = ap said_of (sym (broken_read line (line_read line) h refl))
said_only line Unknown h =
    rw (pair_only line h.name h.value h.pair, unknown_named h.name (key_named h.name) h.unknown refl) refl
said_only line (Pair key setting) h =
    rw (pair_only line (row_of key).name h.value h.pair, named_only key) (ap (λ o. Pair key o) (makes_only key h.value setting (setting_in key h.value) h.makes refl))

-- LISTS OF LINES

pub all_said_found : (lines : List (List ℕ)) → AreSaid lines (map said lines)
all_said_found [] = tt
all_said_found (l ∷ ls) = (said_found l, all_said_found ls)

pub all_said_only : (lines : List (List ℕ)) (ss : List Said) → AreSaid lines ss →
    ss ≡ map said lines
all_said_only [] [] h = refl
all_said_only [] (s ∷ ss) h = absurd h
all_said_only (l ∷ ls) [] h = absurd h
all_said_only (l ∷ ls) (s ∷ ss) h =
    ap (λ t. t ∷ ss) (said_only l s h.0) ∙ ap (λ ts. said l ∷ ts) (all_said_only ls ss h.1)
