-- Numbers, names and values in the bytes of a frame: what is read at a place is what stands there, and comes back as it
-- was written.
use Rattle.std.proofs.Common.{◌≡◌, ℕ, zero, suc, ◌+◌, ◌-◌, ◌^◌, ◌<◌, ◌≤◌, Bool, true, false, cond, not, ◌&&◌, ◌==◌, List, [], ◌∷◌, ◌++◌, length, get_or, take, drop, replicate, Some, None, refl, sym, ap, ◌∙◌, append_assoc, arith, inl, inr}
use Rattle.std.specs.Int.{w32, from_be_bytes}
use Rattle.std.specs.List.{prefix_len}
use Rattle.std.proofs.lemmas.Bool.{cases_lt, eqb-true}
use Rattle.std.proofs.lemmas.Option.{cond_some}
use Rattle.std.proofs.lemmas.List.{take-append-drop, drop-drop, length-append, length-take, length-drop, length-replicate, get_or-drop, get_or-take, get_or_past}
use Rattle.std.proofs.lemmas.List.Folds.{length-prefix_len}
use Rattle.std.proofs.lemmas.Nat.{be_bytes_4, from_be_bytes-to_be_bytes_4}
use Rattle.booth_base.specs.Name.{is_name, is_value}
use Rattle.booth_wire.specs.Layout.{word_at, field_at, word, padded_to}
use Rattle.booth_wire.specs.Reading.{text_of, are_zeros, is_padded, name_in, value_in}

-- ---- bytes

abbrev pub IsBytes : List ℕ → Type 0
IsBytes bytes = (i : ℕ) → get_or bytes i 0 < 256

pub IsBytes-drop : (n : ℕ) (bytes : List ℕ) → IsBytes bytes → IsBytes (drop n bytes)
IsBytes-drop n bytes are i = rw get_or-drop (are (n + i))

pub IsBytes-take : (n : ℕ) (bytes : List ℕ) → IsBytes bytes → IsBytes (take n bytes)
IsBytes-take n bytes are i =
    elim (cases_lt i n) [
      | inl lt ↦ rw (get_or-take n bytes i 0 lt) (are i)
      | inr le ↦ rw (get_or_past (take n bytes) i 0 (omega (arith, length-take n bytes))) (omega arith)
    ]

pub and_split : (a b : Bool) → a && b ≡ true → (a ≡ true) × (b ≡ true)
and_split true b h = (refl, h)
and_split false b h = absurd cc

-- ---- what is taken from a place

pub record Takes (at : List ℕ) (piece rest : List ℕ) : Type 0 where
  pub parts : at ≡ piece ++ rest

pub Takes-then : (a x b y c : List ℕ) → Takes a x b → Takes b y c → Takes a (x ++ y) c
Takes-then a x b y c p q =
    record { parts = p.parts ∙ ap (λ (t : List ℕ). x ++ t) q.parts ∙ sym (append_assoc x y c) }

pub field_len : (at n : ℕ) (bytes : List ℕ) → at + n ≤ length bytes → length (field_at at n bytes) ≡ n
field_len at n bytes here = omega (arith, length-take n (drop at bytes), length-drop at bytes)

pub field_next : (at n : ℕ) (bytes : List ℕ)
    → Takes (drop at bytes) (field_at at n bytes) (drop (at + n) bytes)
field_next at n bytes =
    record { parts = rw (← drop-drop n at bytes) (sym (take-append-drop n (drop at bytes))) }

-- ---- numbers

pub len_word : (n : ℕ) → length (word n) ≡ 4
unfolding word
len_word n = refl

pub word_again : (n : ℕ) → n < 2 ^ 32 → from_be_bytes w32 (word n) ≡ n
unfolding word
word_again n lt = from_be_bytes-to_be_bytes_4 n lt

word_back : (bytes : List ℕ) → length bytes ≡ 4 → IsBytes bytes → word (from_be_bytes w32 bytes) ≡ bytes
unfolding word
word_back bytes len are = be_bytes_4 bytes (from_be_bytes w32 bytes) len are refl

number_small : (bytes : List ℕ) → IsBytes bytes → from_be_bytes w32 bytes < 2 ^ 32
number_small bytes are = omega (arith, are 0, are 1, are 2, are 3)

pub word_small : (at : ℕ) (bytes : List ℕ) → IsBytes bytes → word_at at bytes < 2 ^ 32
word_small at bytes are =
    number_small (take 4 (drop at bytes)) (IsBytes-take 4 (drop at bytes) (IsBytes-drop at bytes are))

-- the number at a place, and what stands behind it
pub word_next : (at : ℕ) (bytes : List ℕ) → IsBytes bytes → at + 4 ≤ length bytes
    → Takes (drop at bytes) (word (word_at at bytes)) (drop (at + 4) bytes)
word_next at bytes are here =
    let back : word (word_at at bytes) ≡ take 4 (drop at bytes) =
    word_back (take 4 (drop at bytes)) (field_len at 4 bytes here)
    (IsBytes-take 4 (drop at bytes) (IsBytes-drop at bytes are)) in
    rw back (field_next at 4 bytes)

-- ---- zeros

zeros_back : (xs : List ℕ) → are_zeros xs ≡ true → xs ≡ replicate {A = ℕ} (length xs) 0
zeros_back [] h = refl
zeros_back (x ∷ xs) h =
    let both = and_split (x == 0) (are_zeros xs) h in
    let first : x ≡ 0 = eqb-true x 0 both.0 in
    let others : xs ≡ replicate {A = ℕ} (length xs) 0 = zeros_back xs both.1 in
    cc

pub zeros_again : (k : ℕ) → are_zeros (replicate {A = ℕ} k 0) ≡ true
zeros_again zero = refl
zeros_again (suc k) = zeros_again k

-- ---- names and values

pub len_padded : (n : ℕ) (text : List ℕ) → length text ≤ n → length (padded_to n text) ≡ n
unfolding padded_to
len_padded n text le =
    omega (
      arith,
      length-append text (replicate {A = ℕ} (n - length text) 0),
      length-replicate {A = ℕ} (n - length text) 0,
    )

split_at : (n : ℕ) (field : List ℕ) → are_zeros (drop n field) ≡ true
    → field ≡ take n field ++ replicate {A = ℕ} (length field - n) 0
split_at n field h =
    let zeros : drop n field ≡ replicate {A = ℕ} (length (drop n field)) 0 =
    zeros_back (drop n field) h in
    sym (take-append-drop n field) ∙ ap (λ (z : List ℕ). take n field ++ z)
    (zeros ∙ ap (λ (k : ℕ). replicate {A = ℕ} k 0) (length-drop n field))

-- a padded field is its text and zeros
padded_back : (field : List ℕ) → is_padded field ≡ true
    → field ≡ padded_to (length field) (text_of field)
unfolding padded_to
padded_back field h =
    let len : length (text_of field) ≡ prefix_len (λ b. not (b == 0)) field =
    length-prefix_len (λ b. not (b == 0)) field in
    rw len (split_at (prefix_len (λ b. not (b == 0)) field) field (rw len at h))

-- a name or a value that is read from a field, and what stands behind the field
pub record FieldRead (at n : ℕ) (bytes text : List ℕ) (is_form : List ℕ → Bool) : Type 0 where
  pub form : is_form text ≡ true
  pub taken : Takes (drop at bytes) (padded_to n text) (drop (at + n) bytes)

field_read : (is_form : List ℕ → Bool) (at n : ℕ) (bytes text : List ℕ) → at + n ≤ length bytes
    → cond (is_padded (field_at at n bytes) && is_form (text_of (field_at at n bytes)))
    (Some (text_of (field_at at n bytes))) None ≡ Some text
    → FieldRead at n bytes text is_form
field_read is_form at n bytes text here h =
    let field : List ℕ = field_at at n bytes in
    let g = cond_some (is_padded field && is_form (text_of field)) (text_of field) text h in
    let both = and_split (is_padded field) (is_form (text_of field)) g.0 in
    let whole : field_at at n bytes ≡ padded_to n text =
    rw (g.1, field_len at n bytes here) at (padded_back field both.0) in
    record { form = rw (← g.1) both.1; taken = rw whole at (field_next at n bytes) }

pub name_next : (at n : ℕ) (bytes name : List ℕ) → at + n ≤ length bytes
    → name_in (field_at at n bytes) ≡ Some name → FieldRead at n bytes name is_name
name_next at n bytes name here h = field_read is_name at n bytes name here h

pub value_next : (at n : ℕ) (bytes value : List ℕ) → at + n ≤ length bytes
    → value_in (field_at at n bytes) ≡ Some value → FieldRead at n bytes value is_value
value_next at n bytes value here h = field_read is_value at n bytes value here h

pub zeros_next : (at n : ℕ) (bytes : List ℕ) → at + n ≤ length bytes
    → are_zeros (field_at at n bytes) ≡ true
    → Takes (drop at bytes) (padded_to n []) (drop (at + n) bytes)
unfolding padded_to
zeros_next at n bytes here h =
    let zeros : field_at at n bytes ≡ replicate {A = ℕ} (length (field_at at n bytes)) 0 =
    zeros_back (field_at at n bytes) h in
    let field : field_at at n bytes ≡ replicate {A = ℕ} n 0 = rw (field_len at n bytes here) at zeros in
    let none : n - 0 ≡ n = omega arith in
    rw none (rw field at (field_next at n bytes))
