-- Cutting blanks off both ends.
use Rattle.std.proofs.Common.{◌≡◌, ℕ, ◌+◌, ◌<◌, Bool, true, List, [], ◌∷◌, ◌++◌, length, reverse, refl, ap, ◌∙◌, ◌&&◌, false, arith}
use Rattle.std.specs.List.{list_all, prefix_len, suffix_len}
use Rattle.std.proofs.lemmas.Bool.Decides.{nat_tests}
use Rattle.std.proofs.lemmas.List.{take_rest, take_at, drop_at, length-append, length-reverse, reverse-append}
use Rattle.std.proofs.lemmas.List.Sums.{prefix_len-le-length, suffix_len-le-length}
use Rattle.booth_keys.specs.Key.{is_blank, is_plain, begun, ended, KeyTextIsKey}

and_split : (a b : Bool) → a && b ≡ true → (a ≡ true) × (b ≡ true)
and_split true b h = (refl, h)
and_split false b h = absurd cc

pub ruleset cuts = (take_rest, prefix_len-le-length, suffix_len-le-length)

past_all :
    (p : ℕ → Bool) (xs ys : List ℕ) → list_all p xs ≡ true →
    prefix_len p (xs ++ ys) ≡ length xs + prefix_len p ys
past_all p [] ys all = omega arith
past_all p (x ∷ xs) ys all = grind (arith, nat_tests, past_all p xs ys)

-- what begins with no blank does so with more behind it
begins :
    (p : ℕ → Bool) (xs ys : List ℕ) → 0 < length xs → prefix_len p xs ≡ 0 → prefix_len p (xs ++ ys) ≡ 0
begins p [] ys some none = absurd (omega arith)
begins p (x ∷ xs) ys some none = grind (arith, nat_tests)

all_plain : (bytes : List ℕ) → list_all is_blank bytes ≡ true → list_all is_plain bytes ≡ true
all_plain [] all = refl
all_plain (b ∷ bytes) all = grind (arith, nat_tests, all_plain bytes)

all_both :
    (p : ℕ → Bool) (xs ys : List ℕ) → list_all p xs ≡ true → list_all p ys ≡ true →
    list_all p (xs ++ ys) ≡ true
all_both p [] ys here later = later
all_both p (x ∷ xs) ys here later = grind (arith, nat_tests, all_both p xs ys)

all_reversed : (p : ℕ → Bool) (xs : List ℕ) → list_all p xs ≡ true → list_all p (reverse xs) ≡ true
all_reversed p [] all = refl
all_reversed p (x ∷ xs) all =
    let both = and_split (p x) (list_all p xs) all in
    let last : list_all p (x ∷ []) ≡ true = grind (arith, nat_tests, both.0) in
    ap (list_all p) (reverse-append (x ∷ []) xs)
    ∙ all_both p (reverse xs) (x ∷ []) (all_reversed p xs both.1) last

begun_of :
    (before rest : List ℕ) → list_all is_blank before ≡ true → prefix_len is_blank rest ≡ 0 →
    begun (before ++ rest) ≡ rest
begun_of before rest blank none =
    drop_at before rest _ (omega (arith, past_all is_blank before rest blank, none))

ended_of :
    (key after : List ℕ) → list_all is_blank after ≡ true → suffix_len is_blank key ≡ 0 →
    ended (key ++ after) ≡ key
ended_of key after blank none =
    let turned : suffix_len is_blank (key ++ after) ≡ length (reverse after) + suffix_len is_blank key =
    ap (prefix_len is_blank) (reverse-append key after) ∙ past_all is_blank (reverse after) (reverse key) (all_reversed is_blank after blank) in
    take_at key after _ (omega (arith, turned, none, length-reverse after, length-append key after))

pub key_is_kept : KeyTextIsKey
key_is_kept bytes key t =
    let whole : list_all is_plain bytes ≡ true =
    ap (list_all is_plain) t.parts
    ∙ all_both is_plain t.before (key ++ t.after) (all_plain t.before t.before_blank) (all_both is_plain key t.after t.plain (all_plain t.after t.after_blank)) in
    let cut : ended (begun bytes) ≡ key =
    ap (λ (xs : List ℕ). ended (begun xs)) t.parts
    ∙ (ap ended (begun_of t.before (key ++ t.after) t.before_blank (begins is_blank key t.after t.some t.begins)) ∙ ended_of key t.after t.after_blank t.ends) in
    rw whole cut
