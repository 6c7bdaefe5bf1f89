-- What is printed of the keys of the whole file clashes nowhere and says them.
use Rattle.std.proofs.Common.{◌≡◌, ◌==◌, ℕ, Bool, true, false, not, List, [], ◌∷◌, ◌++◌, map, Option, Some, None, cond, refl, arith, ap, ◌∙◌, sym, subst, inl, inr, ◌⊎◌, append_assoc}
use Rattle.std.specs.Prelude.{count_by, option_map, option_and_then, unwrap_or}
use Rattle.std.specs.List.{list_all, list_any, filter_map}
use Rattle.std.proofs.lemmas.List.{map-append}
use Rattle.std.proofs.lemmas.List.Folds.{list_all-append}
use Rattle.std.proofs.lemmas.List.Sums.{sum_by-append}
use Rattle.std.proofs.lemmas.Bool.Decides.{nat_tests}
use Rattle.booth_keys.specs.declared.ring.Hash.{Hash}
use Rattle.booth_keys.specs.declared.ring.Hash.TheVariants.{Sha1, Sha256}
use Rattle.booth_conf.specs.Keys.{row_of, are_one}
use Rattle.booth_conf.specs.Sections.{has_key, given, number_given, text_given, word_given, as_number, as_text, as_word, is_without_effect, extra_of, entry_clash}
use Rattle.booth_conf.specs.Config.{ConfigSays, hash_at}
use Rattle.booth_conf.specs.Print.{set, hash_place, hash_entry, extra_key, extra_entry, early_entries, late_entries, top_entries}
use Rattle.booth_conf.specs.Sound.{is_within, is_text, is_extra, are_new, same_key}
use Rattle.booth_conf.specs.declared.keys.ConfKey.{ConfKey}
use Rattle.booth_conf.specs.declared.keys.ConfKey.TheVariants as keys
use Rattle.booth_conf.specs.declared.keys.Form.TheVariants as forms
use Rattle.booth_conf.specs.declared.defaults.TheConstants.{PORT, SKEW}
use Rattle.booth_conf.specs.declared.keys.KeyNo.{KeyNo}
use Rattle.booth_conf.specs.declared.settings.Value.{Value}
use Rattle.booth_conf.specs.declared.settings.Value.TheVariants.{Number, Text, Word}
use Rattle.booth_conf.specs.declared.settings.Entry.{Entry}
use Rattle.booth_conf.proofs.KeyLemmas.{both_true}
use Rattle.booth_conf.proofs.SettingAgain.{is_file_key}
use Rattle.booth_conf.proofs.TicketAgain.{MayStand, may_once, given_behind, given_here}

-- the entries that are printed of the whole file
abbrev pub top_of : ConfigSays → List Entry
top_of c = top_entries c

-- THE KEYS WITHOUT EFFECT

one_of_five : (n : ℕ) → is_within 5 9 n ≡ true → (n ≡ 5) ⊎ (n ≡ 6) ⊎ (n ≡ 7) ⊎ (n ≡ 8) ⊎ (n ≡ 9)
one_of_five n h = grind (arith, nat_tests)

-- what is known of the key with such a number
pub record ExtraFacts (n : ℕ) : Type 0 where
  pub number : (row_of (extra_key (record { 0 = n }))).number ≡ n
  pub form : (row_of (extra_key (record { 0 = n }))).form ≡ forms.Text 0
  pub file : is_file_key (extra_key (record { 0 = n })) ≡ true
  pub extra : is_without_effect (extra_key (record { 0 = n })) ≡ true

facts_at : (n : ℕ) → (n ≡ 5) ⊎ (n ≡ 6) ⊎ (n ≡ 7) ⊎ (n ≡ 8) ⊎ (n ≡ 9) → ExtraFacts n
facts_at n (inl e) = subst ExtraFacts (sym e) (record { number = refl; form = refl; file = refl; extra = refl })
facts_at n (inr (inl e)) = subst ExtraFacts (sym e) (record { number = refl; form = refl; file = refl; extra = refl })
facts_at n (inr (inr (inl e))) = subst ExtraFacts (sym e) (record { number = refl; form = refl; file = refl; extra = refl })
facts_at n (inr (inr (inr (inl e)))) = subst ExtraFacts (sym e) (record { number = refl; form = refl; file = refl; extra = refl })
facts_at n (inr (inr (inr (inr e)))) = subst ExtraFacts (sym e) (record { number = refl; form = refl; file = refl; extra = refl })

pub extra_facts : (x : KeyNo × List ℕ) → is_extra x ≡ true → ExtraFacts x.0.0
extra_facts x h = facts_at x.0.0 (one_of_five x.0.0 (both_true (is_within 5 9 x.0.0) (is_text 0 x.1) h).0)

extra_again : (x : KeyNo × List ℕ) → is_extra x ≡ true → extra_of (extra_entry x) ≡ Some x
extra_again x h =
    let f : ExtraFacts x.0.0 = extra_facts x h in
    rw f.extra (ap (λ n. Some (record { 0 = n }, x.1)) f.number)

extras_again : (xs : List (KeyNo × List ℕ)) → list_all is_extra xs ≡ true → filter_map extra_of (map extra_entry xs) ≡ xs
extras_again [] h = refl
extras_again (x ∷ xs) h =
    let b = both_true (is_extra x) (list_all is_extra xs) h in
    rw (extra_again x b.0) (ap (λ ys. x ∷ ys) (extras_again xs b.1))

-- none of them is another key
given_extras : (key : ConfKey) (xs : List (KeyNo × List ℕ)) → is_without_effect key ≡ false →
    list_all is_extra xs ≡ true → given key (map extra_entry xs) ≡ None
given_extras key [] n h = refl
given_extras key (x ∷ xs) n h =
    let b = both_true (is_extra x) (list_all is_extra xs) h in
    let f : ExtraFacts x.0.0 = extra_facts x b.0 in
    let w : is_within 5 9 x.0.0 ≡ true = (both_true (is_within 5 9 x.0.0) (is_text 0 x.1) b.0).0 in
    let other : has_key key (extra_entry x) ≡ false = grind (arith, nat_tests, f.number, w, n) in
    rw other (given_extras key xs n b.1)

-- NO CLASH

-- no setting of these keys is one of another of them
none_done : (x : KeyNo × List ℕ) (done : List (KeyNo × List ℕ)) → is_extra x ≡ true → list_all is_extra done ≡ true →
    list_any (same_key x) done ≡ false → count_by (has_key (extra_key x.0)) (map extra_entry done) ≡ 0
none_done x [] h all new = refl
none_done x (d ∷ done) h all new =
    let b = both_true (is_extra d) (list_all is_extra done) all in
    let f : ExtraFacts x.0.0 = extra_facts x h in
    let g : ExtraFacts d.0.0 = extra_facts d b.0 in
    let apart : (d.0.0 == x.0.0) ≡ false = grind (arith, nat_tests, new) in
    let rest : list_any (same_key x) done ≡ false = grind (arith, nat_tests, new) in
    let other : has_key (extra_key x.0) (extra_entry d) ≡ false = grind (arith, nat_tests, f.number, g.number, apart) in
    omega (arith, none_done x done h b.1 rest, sum_by-append (λ t. cond (has_key (extra_key x.0) t) 1 0) (extra_entry d ∷ []) (map extra_entry done), ap {B = ℕ} (λ b. cond b 1 0) other)

-- an entry of a key that has an effect
abbrev is_effective : Entry → Bool
is_effective e = not (is_without_effect e.key)

none_effective : (key : ConfKey) (es : List Entry) → is_without_effect key ≡ true → list_all is_effective es ≡ true →
    count_by (has_key key) es ≡ 0
none_effective key [] w h = refl
none_effective key (e ∷ es) w h =
    let b = both_true (is_effective e) (list_all is_effective es) h in
    let other : has_key key e ≡ false = grind (arith, nat_tests, w, b.0) in
    rw other (none_effective key es w b.1)

extra_fine : (start : List Entry) (done : List (KeyNo × List ℕ)) (x : KeyNo × List ℕ) → list_all is_effective start ≡ true →
    is_extra x ≡ true → list_all is_extra done ≡ true → list_any (same_key x) done ≡ false →
    entry_clash (start ++ map extra_entry done) (extra_entry x) ≡ None
extra_fine start done x low h all new =
    let f : ExtraFacts x.0.0 = extra_facts x h in
    let a : count_by (has_key (extra_key x.0)) start ≡ 0 = none_effective (extra_key x.0) start f.extra low in
    let b : count_by (has_key (extra_key x.0)) (map extra_entry done) ≡ 0 = none_done x done h all new in
    let none : count_by (has_key (extra_key x.0)) (start ++ map extra_entry done) ≡ 0 =
    omega (arith, a, b, sum_by-append (λ t. cond (has_key (extra_key x.0) t) 1 0) start (map extra_entry done)) in
    rw (none, may_once (row_of (extra_key x.0)).form) refl

extras_stand : (start : List Entry) (done xs : List (KeyNo × List ℕ)) → list_all is_effective start ≡ true →
    list_all is_extra done ≡ true → list_all is_extra xs ≡ true → are_new same_key done xs ≡ true →
    MayStand (start ++ map extra_entry done) (map extra_entry xs)
extras_stand start done [] low all h new = tt
extras_stand start done (x ∷ xs) low all h new =
    let b = both_true (is_extra x) (list_all is_extra xs) h in
    let n = both_true (not (list_any (same_key x) done)) (are_new same_key (done ++ x ∷ []) xs) new in
    let fresh : list_any (same_key x) done ≡ false = grind (arith, nat_tests, n.0) in
    let more : start ++ map extra_entry (done ++ x ∷ []) ≡ (start ++ map extra_entry done) ++ extra_entry x ∷ [] =
    ap (λ ys. start ++ ys) (map-append extra_entry done (x ∷ [])) ∙ sym (append_assoc start (map extra_entry done) (extra_entry x ∷ [])) in
    let all_more : list_all is_extra (done ++ x ∷ []) ≡ true = list_all-append is_extra done (x ∷ []) ∙ rw (all, b.0) refl in
    (extra_fine start done x low b.0 all fresh, subst (λ ys. MayStand ys (map extra_entry xs)) more (extras_stand start (done ++ x ∷ []) xs low all_more b.1 n.1))

-- the keys of the whole file clash nowhere
pub top_stands : (port : ℕ) (authfile : Option (List ℕ)) (skew : ℕ) (authfile_old : Option (List ℕ)) (auth_hash : Hash)
    (extras : List (KeyNo × List ℕ)) → list_all is_extra extras ≡ true → are_new same_key [] extras ≡ true →
    MayStand [] (early_entries port authfile skew ++ late_entries authfile_old auth_hash extras)
top_stands port None skew None hash extras h new =
    (refl, (refl, (refl, (refl, extras_stand (early_entries port None skew ++ hash_entry hash ∷ []) [] extras refl refl h new))))
top_stands port None skew (Some old) hash extras h new =
    (refl, (refl, (refl, (refl, (refl, extras_stand (early_entries port None skew ++ set keys.AuthfileOld (Text old) ∷ hash_entry hash ∷ []) [] extras refl refl h new)))))
top_stands port (Some path) skew None hash extras h new =
    (refl, (refl, (refl, (refl, (refl, extras_stand (early_entries port (Some path) skew ++ hash_entry hash ∷ []) [] extras refl refl h new)))))
top_stands port (Some path) skew (Some old) hash extras h new =
    (refl, (refl, (refl, (refl, (refl, (refl, extras_stand (early_entries port (Some path) skew ++ set keys.AuthfileOld (Text old) ∷ hash_entry hash ∷ []) [] extras refl refl h new))))))

-- THE VALUE

path_at : (o : Option (List ℕ)) → option_and_then as_text (option_map Text o) ≡ o
path_at None = refl
path_at (Some text) = refl

hash_again : (hash : Hash) → hash_at (hash_place hash) ≡ hash
hash_again Sha1 = refl
hash_again Sha256 = refl

-- a key that is none of the first four is given behind them
given_late : (key : ConfKey) (port : ℕ) (o : Option (List ℕ)) (skew : ℕ) (rest : List Entry) →
    are_one key keys.Port ≡ false → are_one key keys.Transport ≡ false → are_one key keys.Authfile ≡ false →
    are_one key keys.Maxtimeskew ≡ false → given key (early_entries port o skew ++ rest) ≡ given key rest
given_late key port None skew rest a b c d = rw (a, b, d) refl
given_late key port (Some path) skew rest a b c d = rw (a, b, c, d) refl

path_given : (port : ℕ) (o : Option (List ℕ)) (skew : ℕ) (rest : List Entry) → given keys.Authfile rest ≡ None →
    given keys.Authfile (early_entries port o skew ++ rest) ≡ option_map Text o
path_given port None skew rest h = h
path_given port (Some path) skew rest h = refl

skew_given : (port : ℕ) (o : Option (List ℕ)) (skew : ℕ) (rest : List Entry) →
    given keys.Maxtimeskew (early_entries port o skew ++ rest) ≡ Some (Number skew)
skew_given port None skew rest = refl
skew_given port (Some path) skew rest = refl

early_no_extra : (port : ℕ) (o : Option (List ℕ)) (skew : ℕ) (rest : List Entry) →
    filter_map extra_of (early_entries port o skew ++ rest) ≡ filter_map extra_of rest
early_no_extra port None skew rest = refl
early_no_extra port (Some path) skew rest = refl

late_no_extra : (o : Option (List ℕ)) (hash : Hash) (xs : List (KeyNo × List ℕ)) →
    filter_map extra_of (late_entries o hash xs) ≡ filter_map extra_of (map extra_entry xs)
late_no_extra None hash xs = refl
late_no_extra (Some path) hash xs = refl

-- what they say
pub record TopSays (c : ConfigSays) : Type 0 where
  pub port : unwrap_or (number_given keys.Port (top_of c)) PORT ≡ c.port
  pub authfile : text_given keys.Authfile (top_of c) ≡ c.authfile
  pub skew : unwrap_or (number_given keys.Maxtimeskew (top_of c)) SKEW ≡ c.skew
  pub authfile_old : text_given keys.AuthfileOld (top_of c) ≡ c.authfile_old
  pub auth_hash : hash_at (unwrap_or (word_given keys.Authhash (top_of c)) 0) ≡ c.auth_hash
  pub extras : filter_map extra_of (top_of c) ≡ c.extras

pub top_again : (c : ConfigSays) → list_all is_extra c.extras ≡ true → TopSays c
top_again c h =
    let late : List Entry = late_entries c.authfile_old c.auth_hash c.extras in
    let rest : List Entry = hash_entry c.auth_hash ∷ map extra_entry c.extras in
    let old_path : Option Value = option_map Text c.authfile_old in
    let file : given keys.Authfile (top_of c) ≡ option_map Text c.authfile =
    path_given c.port c.authfile c.skew late
    (given_behind keys.Authfile keys.AuthfileOld old_path rest refl ∙ given_extras keys.Authfile c.extras refl h) in
    let old : given keys.AuthfileOld (top_of c) ≡ old_path =
    given_late keys.AuthfileOld c.port c.authfile c.skew late refl refl refl refl
    ∙ given_here keys.AuthfileOld old_path rest refl (given_extras keys.AuthfileOld c.extras refl h) in
    let hash : given keys.Authhash (top_of c) ≡ Some (Word (hash_place c.auth_hash)) =
    given_late keys.Authhash c.port c.authfile c.skew late refl refl refl refl
    ∙ given_behind keys.Authhash keys.AuthfileOld old_path rest refl in
    record {
      port = refl;
      authfile = ap (option_and_then as_text) file ∙ path_at c.authfile;
      skew = ap (λ o. unwrap_or (option_and_then as_number o) SKEW) (skew_given c.port c.authfile c.skew late);
      authfile_old = ap (option_and_then as_text) old ∙ path_at c.authfile_old;
      auth_hash = ap (λ o. hash_at (unwrap_or (option_and_then as_word o) 0)) hash ∙ hash_again c.auth_hash;
      extras = early_no_extra c.port c.authfile c.skew late ∙ late_no_extra c.authfile_old c.auth_hash c.extras ∙ extras_again c.extras h;
    }
