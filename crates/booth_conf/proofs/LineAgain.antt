-- A printed line is read as its key and its value.
use Rattle.std.proofs.Common.{◌≡◌, ℕ, Bool, true, false, not, ◌&&◌, ◌||◌, cond, ◌==◌, List, [], ◌∷◌, ◌++◌, Some, refl, arith, ap, ◌∙◌, sym, append_assoc, append-nil, inl, inr}
use Rattle.std.specs.Prelude.{codes}
use Rattle.std.specs.List.{list_all, onto_first}
use Rattle.std.proofs.lemmas.Bool.Decides.{nat_tests}
use Rattle.std.proofs.lemmas.List.Splits.{slice_split-cons_no}
use Rattle.booth_conf.specs.Grammar.{is_key_byte, is_value_byte, is_other, begins_bare, stays_bare, is_key, IsBare, IsWritten}
use Rattle.booth_conf.specs.LineReader.{line_read}
use Rattle.booth_conf.specs.LineReader as reads
use Rattle.booth_conf.specs.Keys.{row_of}
use Rattle.booth_conf.specs.ValueReader.{setting_in}
use Rattle.booth_conf.specs.SaidReader.{said, said_of, said_by}
use Rattle.booth_conf.specs.Reads.{lines_of}
use Rattle.booth_conf.specs.Print.{written, pair_line, line_text}
use Rattle.booth_conf.specs.Sound.{is_sayable}
use Rattle.booth_conf.specs.declared.keys.ConfKey.{ConfKey}
use Rattle.booth_conf.specs.declared.settings.Setting.{Setting}
use Rattle.booth_conf.specs.declared.line_meaning.Said.TheVariants.{Pair}
use Rattle.booth_conf.proofs.BothWays.{pair_only}
use Rattle.booth_conf.proofs.KeyLemmas.{both_true, key_name, named_only}
use Rattle.booth_conf.proofs.SayLemmas.{is_formed}

bare_is : (value : List ℕ) → (begins_bare value && stays_bare value []) ≡ true → IsBare value value
bare_is value h = let b = both_true (begins_bare value) (stays_bare value []) h in
    record { tail = []; spelled = sym (append-nil value); begins = b.0; stays = b.1; ends = refl }

written_is : (value : List ℕ) (a b : Bool) → list_all (is_other 0x22) value ≡ a →
    list_all (is_other 0x27) value ≡ b →
    (a || (b || (begins_bare value && stays_bare value []))) ≡ true →
    IsWritten (cond a (0x22 ∷ (value ++ 0x22 ∷ [])) (cond b (0x27 ∷ (value ++ 0x27 ∷ [])) value)) value
written_is value true b e f v = inl (record { tail = []; spelled = refl; plain = e; ends = refl })
written_is value false true e f v =
    inr (inl (record { tail = []; spelled = refl; plain = f; ends = refl }))
written_is value false false e f v = inr (inr (bare_is value v))

pub pair_again : (name value : List ℕ) → is_key name ≡ true → is_sayable value ≡ true →
    line_read (pair_line name value) ≡ reads.Pair name value
pair_again name value named s =
    let b = both_true (list_all is_value_byte value) (is_formed value) s in
    pair_only (pair_line name value) name value (record {
      lead = [];
      gap = 0x20 ∷ [];
      pad = 0x20 ∷ [];
      rest = written value;
      spelled = refl;
      lead_blank = refl;
      gap_blank = refl;
      pad_blank = refl;
      named = named;
      written = written_is value (list_all (is_other 0x22) value) (list_all (is_other 0x27) value) refl refl b.1;
      plain = b.0;
    })

pub key_said : (key : ConfKey) (value : List ℕ) (s : Setting) → is_sayable value ≡ true →
    setting_in key value ≡ Some s → said (pair_line (row_of key).name value) ≡ Pair key (Some s)
key_said key value s say is =
    ap said_of (pair_again (row_of key).name value (key_name key) say)
    ∙ ap (said_by value) (named_only key) ∙ ap (λ o. Pair key o) is

-- CUTTING

abbrev pub has_no_end : List ℕ → Bool
has_no_end bs = list_all (λ b. not (b == 0x0A)) bs

pub cut_line : (line rest : List ℕ) → has_no_end line ≡ true →
    lines_of (line ++ 0x0A ∷ rest) ≡ line ∷ lines_of rest
cut_line [] rest h = refl
cut_line (b ∷ bs) rest h =
    let t : (b == 0x0A) ≡ false = grind (arith, nat_tests) in
    let u : has_no_end bs ≡ true = grind (arith, nat_tests) in
    slice_split-cons_no (λ x. x == 0x0A) b (bs ++ 0x0A ∷ rest) t
    ∙ ap (onto_first b) (cut_line bs rest u)

no_end_both : (xs ys : List ℕ) → has_no_end xs ≡ true → has_no_end ys ≡ true →
    has_no_end (xs ++ ys) ≡ true
no_end_both [] ys h k = k
no_end_both (x ∷ xs) ys h k = grind (arith, nat_tests, no_end_both xs ys)

value_no_end : (value : List ℕ) → list_all is_value_byte value ≡ true → has_no_end value ≡ true
value_no_end [] h = refl
value_no_end (b ∷ bs) h = grind (arith, nat_tests, value_no_end bs)

key_no_end : (name : List ℕ) → list_all is_key_byte name ≡ true → has_no_end name ≡ true
key_no_end [] h = refl
key_no_end (b ∷ bs) h = grind (arith, nat_tests, key_no_end bs)

written_no_end : (value : List ℕ) (a b : Bool) → has_no_end value ≡ true →
    has_no_end (cond a (0x22 ∷ (value ++ 0x22 ∷ [])) (cond b (0x27 ∷ (value ++ 0x27 ∷ [])) value)) ≡ true
written_no_end value true b h = no_end_both value (0x22 ∷ []) h refl
written_no_end value false true h = no_end_both value (0x27 ∷ []) h refl
written_no_end value false false h = h

name_bytes : (name : List ℕ) → is_key name ≡ true → list_all is_key_byte name ≡ true
name_bytes [] h = cc
name_bytes (b ∷ bs) h = h

pair_no_end : (name value : List ℕ) → is_key name ≡ true → is_sayable value ≡ true →
    has_no_end (pair_line name value) ≡ true
pair_no_end name value named s =
    let v : has_no_end value ≡ true =
    value_no_end value (both_true (list_all is_value_byte value) (is_formed value) s).0 in
    no_end_both name (codes " = " ++ written value) (key_no_end name (name_bytes name named)) (written_no_end value (list_all (is_other 0x22) value) (list_all (is_other 0x27) value) v)

-- a line with its end, in front of a text
pub line_cut : (key : ConfKey) (value rest : List ℕ) → is_sayable value ≡ true →
    lines_of (line_text (row_of key).name value ++ rest) ≡ pair_line (row_of key).name value ∷ lines_of rest
unfolding line_text
line_cut key value rest s =
    ap lines_of (append_assoc (pair_line (row_of key).name value) (0x0A ∷ []) rest)
    ∙ cut_line (pair_line (row_of key).name value) rest (pair_no_end (row_of key).name value (key_name key) s)
