-- What the definition reads is in the grammar, and nothing in the grammar is refused.
use Rattle.std.proofs.Common.{◌≡◌, ℕ, ◌+◌, ◌==◌, Bool, true, false, not, ◌||◌, List, [], ◌∷◌, ◌++◌, Option, Some, None, refl, arith, take, drop, cond, ap, ◌∙◌, sym, ◌⊎◌, inl, inr, append-nil, length, get_or, append_assoc, take-append-drop, length-append, nat_lt, subst}
use Rattle.std.specs.List.{list_all, prefix_len, position}
use Rattle.std.proofs.lemmas.List.{drop_at, take_at, drop_more, length_push}
use Rattle.std.proofs.lemmas.List.Quantifiers.{position-Some}
use Rattle.std.proofs.lemmas.Bool.Decides.{nat_tests}
use Rattle.booth_conf.specs.Grammar.{is_blank, is_key_byte, is_value_byte, is_end, beyond, begins_note, stays_bare, ends_bare, begins_bare, is_other, IsQuoted, IsBare, IsWritten, IsPair, IsEmptyLine, is_key, Reads, OneReading}
use Rattle.booth_conf.specs.LineReader.{Reading, Empty, Pair, Broken, front, bare, bare_part, quoted, quoted_to, value_in, valued, keyed, begun, line_read, Shows}
use Rattle.booth_conf.specs.declared.grammar.Line.{Line}
use Rattle.booth_conf.specs.declared.grammar.Line.TheVariants as lines
use Rattle.booth_conf.proofs.Cuts.{beyond_more, front_more, front_beyond, front_is, front_all, beyond_none, front_none, beyond_stops, stops}
use Rattle.booth_conf.proofs.Bare.{bare_of, bare_tail, bare_parts, bare_stays, bare_ends}

key_no_blank : (b : ℕ) → is_key_byte b ≡ true → is_blank b ≡ false
key_no_blank b h = grind (arith, nat_tests)

blank_no_key : (b : ℕ) → is_blank b ≡ true → is_key_byte b ≡ false
blank_no_key b h = grind (arith, nat_tests)

key_no_note : (b : ℕ) → is_key_byte b ≡ true → (b == 0x23) ≡ false
key_no_note b h = grind (arith, nat_tests)

-- which way a choice went
pub chosen : {A : Type 0} (b : Bool) (x y z : A) → cond b x y ≡ z →
    ((b ≡ true) × (x ≡ z)) ⊎ ((b ≡ false) × (y ≡ z))
chosen true x y z e = inl (refl, e)
chosen false x y z e = inr (refl, e)

key_stops_blank : (key rest : List ℕ) → is_key key ≡ true → stops is_blank (key ++ rest) ≡ true
key_stops_blank [] rest h = cc
key_stops_blank (k ∷ ks) rest h = grind (arith, nat_tests, key_no_blank k)

key_is_no_end : (key rest : List ℕ) → is_key key ≡ true → is_end (key ++ rest) ≡ false
key_is_no_end [] rest h = cc
key_is_no_end (k ∷ ks) rest h = grind (arith, nat_tests, key_no_blank k, key_no_note k)

key_all : (key : List ℕ) → is_key key ≡ true → list_all is_key_byte key ≡ true
key_all [] h = cc
key_all (k ∷ ks) h = h

gap_stops_key : (gap rest : List ℕ) → list_all is_blank gap ≡ true →
    stops is_key_byte (gap ++ 0x3D ∷ rest) ≡ true
gap_stops_key [] rest h = refl
gap_stops_key (b ∷ bs) rest h = grind (arith, nat_tests, blank_no_key b)

-- VALUES
prefix_at : (p : ℕ → Bool) (xs : List ℕ) (y : ℕ) (ys : List ℕ) → list_all p xs ≡ true →
    p y ≡ false → prefix_len p (xs ++ y ∷ ys) ≡ length xs
prefix_at p [] y ys h n = grind (arith, nat_tests)
prefix_at p (x ∷ xs) y ys h n = grind (arith, nat_tests, prefix_at p xs y ys)

quote_place : (quote : ℕ) (value tail : List ℕ) → list_all (is_other quote) value ≡ true →
    position (λ b. b == quote) (value ++ quote ∷ tail) ≡ Some (length value)
quote_place quote value tail h =
    let e : prefix_len (is_other quote) (value ++ quote ∷ tail) ≡ length value =
    prefix_at (is_other quote) value quote tail h (grind (arith, nat_tests)) in
    let l : nat_lt (length value) (length (value ++ quote ∷ tail)) ≡ true =
    simp length-append (grind (arith, nat_tests)) in
    rw (e, l) refl

behind : (value tail : List ℕ) (quote : ℕ) → drop (length value + 1) (value ++ quote ∷ tail) ≡ tail
behind value tail quote =
    ap (λ xs. drop (length value + 1) xs) (sym (append_assoc value (quote ∷ []) tail))
    ∙ drop_at (value ++ quote ∷ []) tail (length value + 1) (length_push value quote)

pub quoted_only : (quote : ℕ) (value tail : List ℕ) → list_all (is_other quote) value ≡ true →
    is_end tail ≡ true → list_all is_value_byte value ≡ true →
    quoted quote (value ++ quote ∷ tail) ≡ Some value
quoted_only quote value tail other ends plain =
    rw (quote_place quote value tail other, behind value tail quote, ends, take_at value (quote ∷ tail) (length value) refl, plain) refl

-- what a chosen option gives
some_of : {A : Type 0} (b : Bool) (x y : A) → cond b (Some x) None ≡ Some y → (b ≡ true) × (x ≡ y)
some_of true x y e = (refl, cc)
some_of false x y e = cc

none_or : {A : Type 0} (b : Bool) (o : Option A) (y : A) → cond b None o ≡ Some y →
    (b ≡ false) × (o ≡ Some y)
none_or true o y e = cc
none_or false o y e = (refl, e)

option_from_cond : {A : Type 0} (b : Bool) (x y : A) → cond b (Some x) None ≡ Some y →
    (b ≡ true) × (y ≡ x)
option_from_cond true x y e = (refl, cc)
option_from_cond false x y e = cc

quoted_to_found : (quote : ℕ) (inside value : List ℕ) (at : Option ℕ) →
    position (λ b. b == quote) inside ≡ at → quoted_to inside at ≡ Some value →
    IsQuoted quote (quote ∷ inside) value × (list_all is_value_byte value ≡ true)
quoted_to_found quote inside value None p e = cc
quoted_to_found quote inside value (Some end) p e =
    let n =
    none_or (not (is_end (drop (end + 1) inside))) (cond (list_all is_value_byte (take end inside)) (Some (take end inside)) None) value e in
    let s = some_of (list_all is_value_byte (take end inside)) (take end inside) value n.1 in
    let at = position-Some (λ b. b == quote) inside end 0 p in
    let is_quote : get_or inside end 0 ≡ quote = grind (arith, nat_tests, at.1) in
    let cut : inside ≡ take end inside ++ (quote ∷ drop (end + 1) inside) =
    sym (take-append-drop end inside)
    ∙ ap (λ xs. take end inside ++ xs) (drop_more inside end 0 at.0 ∙ ap (λ b. b ∷ drop (end + 1) inside) is_quote) in
    let place : end ≡ prefix_len (is_other quote) inside =
    (option_from_cond (nat_lt (prefix_len (is_other quote) inside) (length inside)) (prefix_len (is_other quote) inside) end p).1 in
    let other : list_all (is_other quote) (take end inside) ≡ true =
    rw (place, ← front_is (is_other quote) inside) (front_all (is_other quote) inside) in
    rw (← s.1) (
      record {
        tail = drop (end + 1) inside;
        spelled = ap (λ xs. quote ∷ xs) cut;
        plain = other;
        ends = grind (arith, nat_tests, n.0);
      },
      s.0,
    )

pub quoted_found : (quote : ℕ) (inside value : List ℕ) → quoted quote inside ≡ Some value →
    IsQuoted quote (quote ∷ inside) value × (list_all is_value_byte value ≡ true)
quoted_found quote inside value e =
    quoted_to_found quote inside value (position (λ b. b == quote) inside) refl e

-- BARE VALUES

begins_some : (value tail : List ℕ) → begins_bare value ≡ true →
    value_in (value ++ tail) ≡ bare (value ++ tail)
begins_some [] tail h = cc
begins_some (b ∷ bs) tail h = grind (arith, nat_tests)

pub bare_only : (value tail : List ℕ) → begins_bare value ≡ true → stays_bare value tail ≡ true →
    ends_bare tail ≡ true → list_all is_value_byte value ≡ true →
    value_in (value ++ tail) ≡ Some value
bare_only value tail b s e plain =
    begins_some value tail b ∙ rw (bare_of value tail s e, plain) refl

begins_section : (b : ℕ) (bs : List ℕ) → is_blank b ≡ false → (b == 0x23) ≡ false →
    (b == 0x22 || b == 0x27) ≡ false → begins_bare (bare_part (b ∷ bs)) ≡ true
begins_section b bs n h q = grind (arith, nat_tests)

pub bare_found : (b : ℕ) (bs value : List ℕ) → is_blank b ≡ false → (b == 0x23) ≡ false →
    (b == 0x22 || b == 0x27) ≡ false → bare (b ∷ bs) ≡ Some value →
    IsBare (b ∷ bs) value × (list_all is_value_byte value ≡ true)
bare_found b bs value n h q e =
    let s = some_of (list_all is_value_byte (bare_part (b ∷ bs))) (bare_part (b ∷ bs)) value e in
    let rest : List ℕ = b ∷ bs in
    let given : IsBare rest (bare_part rest) = record {
      tail = bare_tail rest;
      spelled = bare_parts rest;
      begins = begins_section b bs n h q;
      stays = bare_stays rest;
      ends = bare_ends rest;
    } in
    (subst (λ v. IsBare rest v) s.1 given, subst (λ v. list_all is_value_byte v ≡ true) s.1 s.0)

-- VALUES

pub written_only : (rest value : List ℕ) → IsWritten rest value →
    list_all is_value_byte value ≡ true → value_in rest ≡ Some value
written_only rest value (inl w) plain =
    ap value_in w.spelled ∙ quoted_only 0x22 value w.tail w.plain w.ends plain
written_only rest value (inr (inl w)) plain =
    ap value_in w.spelled ∙ quoted_only 0x27 value w.tail w.plain w.ends plain
written_only rest value (inr (inr w)) plain =
    ap value_in w.spelled ∙ bare_only value w.tail w.begins w.stays w.ends plain

quote_cases : (b : ℕ) → (b == 0x22 || b == 0x27) ≡ true → (b ≡ 0x22) ⊎ (b ≡ 0x27)
quote_cases b h = grind (arith, nat_tests)

by_quote : (b : ℕ) (bs value : List ℕ) → (b ≡ 0x22) ⊎ (b ≡ 0x27) → IsQuoted b (b ∷ bs) value →
    IsWritten (b ∷ bs) value
by_quote b bs value (inl d) w = inl (subst (λ c. IsQuoted c (b ∷ bs) value) d w)
by_quote b bs value (inr d) w = inr (inl (subst (λ c. IsQuoted c (b ∷ bs) value) d w))

by_first : (b : ℕ) (bs value : List ℕ) → is_blank b ≡ false → (b == 0x23) ≡ false →
    (((b == 0x22 || b == 0x27) ≡ true) × (quoted b bs ≡ Some value)) ⊎ (((b == 0x22 || b == 0x27) ≡ false) × (bare (b ∷ bs) ≡ Some value)) →
    IsWritten (b ∷ bs) value × (list_all is_value_byte value ≡ true)
by_first b bs value n h (inl q) = let f = quoted_found b bs value q.1 in (by_quote b bs value (quote_cases b q.0) f.0, f.1)
by_first b bs value n h (inr q) = let f = bare_found b bs value n h q.0 q.1 in (inr (inr f.0), f.1)

pub written_found : (rest value : List ℕ) → stops is_blank rest ≡ true →
    value_in rest ≡ Some value → IsWritten rest value × (list_all is_value_byte value ≡ true)
written_found [] value s e = cc
written_found (b ∷ bs) value s e =
    let n =
    none_or (b == 0x23) (cond (b == 0x22 || b == 0x27) (quoted b bs) (bare (b ∷ bs))) value e in
    by_first b bs value (grind (arith, nat_tests)) n.0 (chosen (b == 0x22 || b == 0x27) (quoted b bs) (bare (b ∷ bs)) (Some value) n.1)

-- LINES

bare_stops : (value tail : List ℕ) → begins_bare value ≡ true →
    stops is_blank (value ++ tail) ≡ true
bare_stops [] tail h = cc
bare_stops (b ∷ bs) tail h = grind (arith, nat_tests)

-- a value does not begin with a blank
written_stops : (rest value : List ℕ) → IsWritten rest value → stops is_blank rest ≡ true
written_stops rest value (inl w) = ap (stops is_blank) w.spelled
written_stops rest value (inr (inl w)) = ap (stops is_blank) w.spelled
written_stops rest value (inr (inr w)) =
    ap (stops is_blank) w.spelled ∙ bare_stops value w.tail w.begins

keyed_some : (key rest : List ℕ) → is_key key ≡ true →
    keyed key (0x3D ∷ rest) ≡ valued key (value_in (beyond is_blank rest))
keyed_some [] rest h = cc
keyed_some (k ∷ ks) rest h = refl

-- what is in the grammar is read
pub pair_only : (line key value : List ℕ) → IsPair line key value → line_read line ≡ Pair key value
pair_only line key value p =
    let tail : List ℕ = p.gap ++ 0x3D ∷ (p.pad ++ p.rest) in
    let start : beyond is_blank line ≡ key ++ tail =
    ap (beyond is_blank) p.spelled ∙ beyond_more is_blank p.lead (key ++ tail) p.lead_blank
    ∙ beyond_none is_blank (key ++ tail) (key_stops_blank key tail p.named) in
    let all : list_all is_key_byte key ≡ true = key_all key p.named in
    let ends : stops is_key_byte tail ≡ true = gap_stops_key p.gap (p.pad ++ p.rest) p.gap_blank in
    let front_is_key : front is_key_byte (key ++ tail) ≡ key =
    front_more is_key_byte key tail all ∙ ap (λ xs. key ++ xs) (front_none is_key_byte tail ends)
    ∙ append-nil key in
    let beyond_key : beyond is_key_byte (key ++ tail) ≡ tail =
    beyond_more is_key_byte key tail all ∙ beyond_none is_key_byte tail ends in
    let beyond_gap : beyond is_blank tail ≡ 0x3D ∷ (p.pad ++ p.rest) =
    beyond_more is_blank p.gap (0x3D ∷ (p.pad ++ p.rest)) p.gap_blank in
    let beyond_pad : beyond is_blank (p.pad ++ p.rest) ≡ p.rest =
    beyond_more is_blank p.pad p.rest p.pad_blank
    ∙ beyond_none is_blank p.rest (written_stops p.rest value p.written) in
    rw (start, key_is_no_end key tail p.named, front_is_key, beyond_key, beyond_gap, keyed_some key (p.pad ++ p.rest) p.named, beyond_pad, written_only p.rest value p.written p.plain) refl

pair_of : (b : Bool) (read : Reading) (key value : List ℕ) → cond b Empty read ≡ Pair key value →
    (b ≡ false) × (read ≡ Pair key value)
pair_of true read key value e = cc
pair_of false read key value e = (refl, e)

begun_found : (start key value : List ℕ) → begun start ≡ Pair key value →
    (is_end start ≡ false) × (keyed (front is_key_byte start) (beyond is_blank (beyond is_key_byte start)) ≡ Pair key value)
begun_found start key value e =
    pair_of (is_end start) (keyed (front is_key_byte start) (beyond is_blank (beyond is_key_byte start))) key value e

valued_found : (k key value : List ℕ) (o : Option (List ℕ)) → valued k o ≡ Pair key value →
    (k ≡ key) × (o ≡ Some value)
valued_found k key value None e = cc
valued_found k key value (Some v) e = (cc, cc)

equals_found : (b : Bool) (read : Reading) (key value : List ℕ) →
    cond b read Broken ≡ Pair key value → (b ≡ true) × (read ≡ Pair key value)
equals_found true read key value e = (refl, e)
equals_found false read key value e = cc

-- the key in front, an equals sign and a value
pub record Keyed (k rest key value : List ℕ) : Type 0 where
  pub after : List ℕ
  pub same : k ≡ key
  pub some_key : (k ≡ []) → ⊥
  pub equals : rest ≡ 0x3D ∷ after
  pub read : value_in (beyond is_blank after) ≡ Some value

keyed_found : (k rest key value : List ℕ) → keyed k rest ≡ Pair key value → Keyed k rest key value
keyed_found [] rest key value e = cc
keyed_found (k ∷ ks) [] key value e = cc
keyed_found (k ∷ ks) (b ∷ rest) key value e =
    let q =
    equals_found (b == 0x3D) (valued (k ∷ ks) (value_in (beyond is_blank rest))) key value e in
    let v = valued_found (k ∷ ks) key value (value_in (beyond is_blank rest)) q.1 in
    record { after = rest; same = v.0; some_key = λ h. cc; equals = grind (arith, nat_tests, q.0); read = v.1 }

key_is_some : (k : List ℕ) → ((k ≡ []) → ⊥) → list_all is_key_byte k ≡ true → is_key k ≡ true
key_is_some [] n h = absurd (n refl)
key_is_some (k ∷ ks) n h = h

-- what is read is in the grammar
pub pair_found : (line key value : List ℕ) → line_read line ≡ Pair key value → IsPair line key value
pair_found line key value e =
    let start : List ℕ = beyond is_blank line in
    let b = begun_found start key value e in
    let rest : List ℕ = beyond is_key_byte start in
    let k = keyed_found (front is_key_byte start) (beyond is_blank rest) key value b.1 in
    let w = written_found (beyond is_blank k.after) value (beyond_stops is_blank k.after) k.read in
    record {
      lead = front is_blank line;
      gap = front is_blank rest;
      pad = front is_blank k.after;
      rest = beyond is_blank k.after;
      spelled = front_beyond is_blank line ∙ ap (λ xs. front is_blank line ++ xs)
          (front_beyond is_key_byte start ∙ ap (λ xs. xs ++ rest) k.same ∙ ap (λ xs. key ++ xs)
          (front_beyond is_blank rest ∙ ap (λ xs. front is_blank rest ++ xs) (k.equals ∙ ap (λ xs. 0x3D ∷ xs) (front_beyond is_blank k.after))));
      lead_blank = front_all is_blank line;
      gap_blank = front_all is_blank rest;
      pad_blank = front_all is_blank k.after;
      named = subst (λ xs. is_key xs ≡ true) k.same (key_is_some (front is_key_byte start) k.some_key (front_all is_key_byte start));
      written = w.0;
      plain = w.1;
    }

pub empty_read : (line : List ℕ) → is_end line ≡ true → line_read line ≡ Empty
empty_read line e =
    let start : is_end (beyond is_blank line) ≡ true =
    ap begins_note (beyond_none is_blank (beyond is_blank line) (beyond_stops is_blank line)) ∙ e in
    rw start refl

valued_not : (k : List ℕ) (o : Option (List ℕ)) → valued k o ≡ Empty → ⊥
valued_not k None e = cc
valued_not k (Some v) e = cc

cond_not : (b : Bool) (r : Reading) → (r ≡ Empty → ⊥) → cond b r Broken ≡ Empty → ⊥
cond_not true r n e = n e
cond_not false r n e = cc

keyed_not : (k rest : List ℕ) → keyed k rest ≡ Empty → ⊥
keyed_not [] rest e = cc
keyed_not (k ∷ ks) [] e = cc
keyed_not (k ∷ ks) (b ∷ rest) e =
    cond_not (b == 0x3D) (valued (k ∷ ks) (value_in (beyond is_blank rest))) (valued_not (k ∷ ks) (value_in (beyond is_blank rest))) e

empty_of : (b : Bool) (k rest : List ℕ) → cond b Empty (keyed k rest) ≡ Empty → b ≡ true
empty_of true k rest e = refl
empty_of false k rest e = absurd (keyed_not k rest e)

pub empty_found : (line : List ℕ) → line_read line ≡ Empty → is_end line ≡ true
empty_found line e =
    sym (ap begins_note (beyond_none is_blank (beyond is_blank line) (beyond_stops is_blank line)))
    ∙ empty_of (is_end (beyond is_blank line)) (front is_key_byte (beyond is_blank line)) (beyond is_blank (beyond is_key_byte (beyond is_blank line))) e

pub reads_of : (line : List ℕ) (said : Line) → Shows said (line_read line) → Reads line said
reads_of line lines.Empty e = empty_found line e
reads_of line (lines.Pair key value) e = pair_found line key.now value.now e
reads_of line lines.Broken e =
    (λ h. (let f : Empty ≡ Broken = sym (empty_read line h) ∙ e in cc), λ key value p. (let f : Pair key value ≡ Broken = sym (pair_only line key value p) ∙ e in cc))

same_pair : (line a b c d : List ℕ) → IsPair line a b → IsPair line c d → (a ≡ c) × (b ≡ d)
same_pair line a b c d p q = let e : Pair a b ≡ Pair c d = sym (pair_only line a b p) ∙ pair_only line c d q in (cc, cc)

empty_no_pair : (line a b : List ℕ) → IsEmptyLine line → IsPair line a b → ⊥
empty_no_pair line a b e p = let f : Empty ≡ Pair a b = sym (empty_read line e) ∙ pair_only line a b p in cc

pub one_reading : OneReading
one_reading = record { one_pair = same_pair; no_pair = empty_no_pair }
