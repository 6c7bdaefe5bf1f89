-- A printed value is read as the same.
use Rattle.std.proofs.Common.{◌≡◌, ◌<◌, ◌≤◌, ◌+◌, ◌-◌, ◌*◌, ◌/◌, ◌%◌, ◌==◌, ℕ, Bool, true, false, not, ◌&&◌, nat_lt, nat_le, List, [], ◌∷◌, ◌++◌, length, Some, refl, arith, ap, ◌∙◌, sym, subst, decimal, append-nil}
use Rattle.std.specs.Prelude.{bytes_eq}
use Rattle.std.specs.List.{list_all, list_any, flat_map, slice_split, onto_first}
use Rattle.std.proofs.lemmas.Fmt.{decimal_by_steps, length-decimal-le, decimal_nonempty}
use Rattle.std.proofs.lemmas.List.Sums.{fold-append}
use Rattle.std.proofs.lemmas.List.Folds.{list_all-append}
use Rattle.std.proofs.lemmas.List.Splits.{slice_split-cons_no}
use Rattle.std.proofs.lemmas.Bool.Decides.{nat_tests}
use Rattle.booth_base.specs.Name.{is_name, is_value, is_name_byte}
use Rattle.booth_conf.specs.Grammar.{is_value_byte, is_other}
use Rattle.booth_conf.specs.Values.{is_digit, worth, is_word_byte, is_word, begins_gap, AreWords, IsWeight, AreWeights, IsKindWord, IsTestWord, default_name}
use Rattle.booth_conf.specs.ValueReader.{number_in, number_within, text_in, command_in, weights_in, prereq_in}
use Rattle.booth_conf.specs.Print.{kind_word, test_word, prereq_text, weights_text}
use Rattle.booth_conf.specs.Sound.{is_within, is_sayable, is_text, is_command, is_weight, are_weights, is_prereq, is_ticket_name}
use Rattle.booth_conf.specs.declared.limits.TheConstants.{WEIGHT}
use Rattle.booth_base.specs.declared.limits.TheConstants.{MEMBERS}
use Rattle.booth_conf.specs.declared.tickets.GrantKind.{GrantKind}
use Rattle.booth_conf.specs.declared.tickets.GrantKind.TheVariants.{Auto, Manual}
use Rattle.booth_conf.specs.declared.tickets.Prereq.{Prereq}
use Rattle.booth_conf.proofs.KeyLemmas.{both_true}
use Rattle.booth_conf.proofs.Forms.{weights_only, prereq_only}
use Rattle.booth_conf.proofs.SayLemmas.{name_bytes}
use Rattle.booth_base.specs.declared.text.TheConstants.{PATH_BYTES}

-- NUMBERS

pub record Spelled (n : ℕ) (ds : List ℕ) : Type 0 where
  pub digits : list_all is_digit ds ≡ true
  pub value : worth ds ≡ n

digit_worth : (n : ℕ) → n < 10 → Spelled n ((48 + n) ∷ [])
digit_worth n h = record { digits = grind (arith, nat_tests); value = omega arith }

more_worth : (n : ℕ) (ds : List ℕ) → 10 ≤ n → Spelled (n / 10) ds →
    Spelled n (ds ++ (48 + n % 10) ∷ [])
more_worth n ds l s =
    let d : is_digit (48 + n % 10) ≡ true = grind (arith, nat_tests) in
    let more : worth (ds ++ (48 + n % 10) ∷ []) ≡ worth ds * 10 + (48 + n % 10 - 48) =
    fold-append (λ m b. m * 10 + (b - 48)) 0 ds ((48 + n % 10) ∷ []) in
    let all : list_all is_digit ((48 + n % 10) ∷ []) ≡ true = rw d refl in
    record {
      digits = list_all-append is_digit ds ((48 + n % 10) ∷ []) ∙ rw (s.digits, all) refl;
      value = omega (arith, more, s.value);
    }

pub digits_of : (n : ℕ) → n < 10000000000 → Spelled n (decimal n)
digits_of n h = decimal_by_steps Spelled digit_worth more_worth n (omega arith)

number_again : (n : ℕ) → n < 10000000000 → number_in (decimal n) ≡ Some n
number_again n h =
    let s : Spelled n (decimal n) = digits_of n h in
    let some : nat_lt 0 (length (decimal n)) ≡ true =
    grind (arith, nat_tests, decimal_nonempty n) in
    let few : nat_le (length (decimal n)) 10 ≡ true =
    grind (arith, nat_tests, length-decimal-le 10 n) in
    rw (some, few, s.digits, s.value) refl

within_most : (least most n : ℕ) → is_within least most n ≡ true → n ≤ most
within_most least most n h = grind (arith, nat_tests)

pub within_again : (least most n : ℕ) → most < 10000000000 → is_within least most n ≡ true →
    number_within least most (decimal n) ≡ Some n
within_again least most n top h =
    let le : n ≤ most = within_most least most n h in
    rw (number_again n (omega arith), h) refl

digits_plain : (ds : List ℕ) → list_all is_digit ds ≡ true → list_all is_value_byte ds ≡ true
digits_plain [] h = refl
digits_plain (d ∷ ds) h = grind (arith, nat_tests, digits_plain ds)

digits_other : (ds : List ℕ) → list_all is_digit ds ≡ true → list_all (is_other 0x22) ds ≡ true
digits_other [] h = refl
digits_other (d ∷ ds) h = grind (arith, nat_tests, digits_other ds)

-- printing bytes without `"` can be said
pub plain_sayable : (value : List ℕ) → list_all is_value_byte value ≡ true →
    list_all (is_other 0x22) value ≡ true → is_sayable value ≡ true
plain_sayable value h k = rw (h, k) refl

pub number_sayable : (least most n : ℕ) → most < 10000000000 → is_within least most n ≡ true →
    is_sayable (decimal n) ≡ true
number_sayable least most n top h =
    let le : n ≤ most = within_most least most n h in
    let s : Spelled n (decimal n) = digits_of n (omega arith) in
    plain_sayable (decimal n) (digits_plain (decimal n) s.digits) (digits_other (decimal n) s.digits)

-- TEXTS

pub text_again : (least : ℕ) (value : List ℕ) → is_text least value ≡ true →
    text_in least value ≡ Some value
text_again least value h =
    rw (both_true (is_sayable value) (is_within least PATH_BYTES (length value)) h).1 refl

pub text_sayable : (least : ℕ) (value : List ℕ) → is_text least value ≡ true →
    is_sayable value ≡ true
text_sayable least value h =
    (both_true (is_sayable value) (is_within least PATH_BYTES (length value)) h).0

pub command_again : (value : List ℕ) → is_command value ≡ true → command_in value ≡ Some value
command_again value h = let b = both_true (is_text 1 value) (list_any is_word_byte value) h in rw b.1 (text_again 1 value b.0)

pub command_sayable : (value : List ℕ) → is_command value ≡ true → is_sayable value ≡ true
command_sayable value h =
    text_sayable 1 value (both_true (is_text 1 value) (list_any is_word_byte value) h).0

pub ticket_sayable : (name : List ℕ) → is_ticket_name name ≡ true → is_sayable name ≡ true
ticket_sayable name h =
    (both_true (not (bytes_eq name default_name)) (is_sayable name) (both_true (is_name name) (not (bytes_eq name default_name) && is_sayable name) h).1).1

-- WEIGHTS

abbrev is_no_comma : ℕ → Bool
is_no_comma b = not (b == 0x2C)

digits_no_comma : (ds : List ℕ) → list_all is_digit ds ≡ true → list_all is_no_comma ds ≡ true
digits_no_comma [] h = refl
digits_no_comma (d ∷ ds) h = grind (arith, nat_tests, digits_no_comma ds)

abbrev cut : List ℕ → List (List ℕ)
cut text = slice_split (λ b. b == 0x2C) text

cut_piece : (piece rest : List ℕ) → list_all is_no_comma piece ≡ true →
    cut (piece ++ 0x2C ∷ rest) ≡ piece ∷ cut rest
cut_piece [] rest h = refl
cut_piece (b ∷ bs) rest h =
    let t : (b == 0x2C) ≡ false = grind (arith, nat_tests) in
    slice_split-cons_no (λ x. x == 0x2C) b (bs ++ 0x2C ∷ rest) t
    ∙ ap (onto_first b) (cut_piece bs rest (both_true (is_no_comma b) (list_all is_no_comma bs) h).1)

cut_last : (piece : List ℕ) → list_all is_no_comma piece ≡ true → cut piece ≡ piece ∷ []
cut_last [] h = refl
cut_last (b ∷ bs) h =
    let t : (b == 0x2C) ≡ false = grind (arith, nat_tests) in
    slice_split-cons_no (λ x. x == 0x2C) b bs t
    ∙ ap (onto_first b) (cut_last bs (both_true (is_no_comma b) (list_all is_no_comma bs) h).1)

weight_most : (n : ℕ) → is_weight n ≡ true → n ≤ WEIGHT
weight_most n h = grind (arith, nat_tests)

weight_digits : (n : ℕ) → is_weight n ≡ true → Spelled n (decimal n)
weight_digits n h = let le : n ≤ WEIGHT = weight_most n h in digits_of n (omega arith)

digits_word : (ds : List ℕ) → list_all is_digit ds ≡ true → list_all is_word_byte ds ≡ true
digits_word [] h = refl
digits_word (d ∷ ds) h = grind (arith, nat_tests, digits_word ds)

some_word : (bs : List ℕ) → 0 < length bs → list_all is_word_byte bs ≡ true → is_word bs ≡ true
some_word [] l h = absurd (omega arith)
some_word (b ∷ bs) l h = h

alone : (word : List ℕ) → is_word word ≡ true → AreWords word (word ∷ [])
alone word h = ([], [], sym (append-nil word), refl, h, refl, refl)

weight_again : (n : ℕ) → is_weight n ≡ true → IsWeight (decimal n) n
weight_again n h =
    let s : Spelled n (decimal n) = weight_digits n h in
    let le : n ≤ WEIGHT = weight_most n h in
    let some : 0 < length (decimal n) = decimal_nonempty n (omega arith) in (
      decimal n,
      alone (decimal n) (some_word (decimal n) some (digits_word (decimal n) s.digits)),
      record { digits = s.digits; some = some; few = length-decimal-le 10 n (omega arith) (omega arith) (omega arith); value = sym s.value; low = omega arith; high = le },
    )

abbrev more_weights : List ℕ → List ℕ
more_weights ns = flat_map (λ m. 0x2C ∷ decimal m) ns

pieces_again : (n : ℕ) (ns : List ℕ) → list_all is_weight (n ∷ ns) ≡ true →
    AreWeights (cut (decimal n ++ more_weights ns)) (n ∷ ns)
pieces_again n [] h =
    let w : is_weight n ≡ true = (both_true (is_weight n) true h).0 in
    let pieces : cut (decimal n ++ []) ≡ decimal n ∷ [] =
    ap cut (append-nil (decimal n))
    ∙ cut_last (decimal n) (digits_no_comma (decimal n) (weight_digits n w).digits) in
    subst (λ ps. AreWeights ps (n ∷ [])) (sym pieces) (weight_again n w, tt)
pieces_again n (m ∷ ms) h =
    let b = both_true (is_weight n) (list_all is_weight (m ∷ ms)) h in
    let pieces : cut (decimal n ++ 0x2C ∷ (decimal m ++ more_weights ms)) ≡ decimal n ∷ cut (decimal m ++ more_weights ms) = cut_piece (decimal n) (decimal m ++ more_weights ms) (digits_no_comma (decimal n) (weight_digits n b.0).digits) in
    subst (λ ps. AreWeights ps (n ∷ m ∷ ms)) (sym pieces) (weight_again n b.0, pieces_again m ms b.1)

weights_most : (ws : List ℕ) → are_weights ws ≡ true → length ws ≤ MEMBERS
weights_most ws h = let b = both_true (nat_le (length ws) MEMBERS) (list_all is_weight ws) h in grind (arith, nat_tests, b.0)

pub weights_again : (n : ℕ) (ns : List ℕ) → are_weights (n ∷ ns) ≡ true →
    weights_in (weights_text (n ∷ ns)) ≡ Some (n ∷ ns)
weights_again n ns h =
    let b = both_true (nat_le (length (n ∷ ns)) MEMBERS) (list_all is_weight (n ∷ ns)) h in
    weights_only (weights_text (n ∷ ns)) (n ∷ ns) (record { numbers = pieces_again n ns b.1; few = weights_most (n ∷ ns) h })

-- a test of the bytes of numbers and commas
weights_all : (p : ℕ → Bool) → p 0x2C ≡ true →
    ((ds : List ℕ) → list_all is_digit ds ≡ true → list_all p ds ≡ true) → (ns : List ℕ) →
    list_all is_weight ns ≡ true → list_all p (more_weights ns) ≡ true
weights_all p c f [] h = refl
weights_all p c f (m ∷ ms) h =
    let b = both_true (is_weight m) (list_all is_weight ms) h in
    rw (c, list_all-append p (decimal m) (more_weights ms), f (decimal m) (weight_digits m b.0).digits, weights_all p c f ms b.1) refl

text_weights : (p : ℕ → Bool) → p 0x2C ≡ true →
    ((ds : List ℕ) → list_all is_digit ds ≡ true → list_all p ds ≡ true) → (n : ℕ) (ns : List ℕ) →
    list_all is_weight (n ∷ ns) ≡ true → list_all p (weights_text (n ∷ ns)) ≡ true
text_weights p c f n ns h =
    let b = both_true (is_weight n) (list_all is_weight ns) h in
    rw (list_all-append p (decimal n) (more_weights ns), f (decimal n) (weight_digits n b.0).digits, weights_all p c f ns b.1) refl

pub weights_sayable : (n : ℕ) (ns : List ℕ) → are_weights (n ∷ ns) ≡ true →
    is_sayable (weights_text (n ∷ ns)) ≡ true
weights_sayable n ns h =
    let b = both_true (nat_le (length (n ∷ ns)) MEMBERS) (list_all is_weight (n ∷ ns)) h in
    plain_sayable (weights_text (n ∷ ns)) (text_weights is_value_byte refl digits_plain n ns b.1) (text_weights (is_other 0x22) refl digits_other n ns b.1)

-- PREREQUISITES

kind_again : (kind : GrantKind) → IsKindWord (kind_word kind) kind
kind_again Auto = refl
kind_again Manual = refl

kind_some : (kind : GrantKind) → is_word (kind_word kind) ≡ true
kind_some Auto = refl
kind_some Manual = refl

test_again : (equal : Bool) → IsTestWord (test_word equal) equal
test_again true = refl
test_again false = refl

test_some : (equal : Bool) → is_word (test_word equal) ≡ true
test_some true = refl
test_some false = refl

name_words : (name : List ℕ) → list_all is_name_byte name ≡ true → list_all is_word_byte name ≡ true
name_words [] h = refl
name_words (b ∷ bs) h = grind (arith, nat_tests, name_words bs)

name_some : (name : List ℕ) → is_name name ≡ true → is_word name ≡ true
name_some name h =
    let l : 0 < length name = grind (arith, nat_tests) in
    some_word name l (name_words name (name_bytes name h))

-- a space and a word
spaced : (word rest : List ℕ) (words : List (List ℕ)) → is_word word ≡ true →
    begins_gap rest ≡ true → AreWords rest words → AreWords (0x20 ∷ (word ++ rest)) (word ∷ words)
spaced word rest words w g more = (0x20 ∷ [], rest, refl, refl, w, g, more)

prereq_words : (q : Prereq) → is_name q.name ≡ true → is_word q.value ≡ true →
    AreWords (prereq_text q) (kind_word q.kind ∷ q.name ∷ test_word q.equal ∷ q.value ∷ [])
prereq_words q n v =
    let last : AreWords (0x20 ∷ q.value) (q.value ∷ []) =
    subst (λ xs. AreWords (0x20 ∷ xs) (q.value ∷ [])) (append-nil q.value) (spaced q.value [] [] v refl refl) in
    let third : AreWords (0x20 ∷ (test_word q.equal ++ (0x20 ∷ q.value))) (test_word q.equal ∷ q.value ∷ []) = spaced (test_word q.equal) (0x20 ∷ q.value) (q.value ∷ []) (test_some q.equal) refl last in
    let second : AreWords (0x20 ∷ (q.name ++ (0x20 ∷ (test_word q.equal ++ (0x20 ∷ q.value))))) (q.name ∷ test_word q.equal ∷ q.value ∷ []) =
    spaced q.name (0x20 ∷ (test_word q.equal ++ (0x20 ∷ q.value))) (test_word q.equal ∷ q.value ∷ []) (name_some q.name n) refl third in
    ([], 0x20 ∷ (q.name ++ (0x20 ∷ (test_word q.equal ++ (0x20 ∷ q.value)))), refl, refl, kind_some q.kind, refl, second)

-- what the test of a prerequisite says of its words
pub record PrereqFacts (q : Prereq) : Type 0 where
  pub name : is_name q.name ≡ true
  pub value : is_value q.value ≡ true
  pub word : is_word q.value ≡ true
  pub sayable : is_sayable (prereq_text q) ≡ true

pub prereq_facts : (q : Prereq) → is_prereq q ≡ true → PrereqFacts q
prereq_facts q h =
    let a =
    both_true (is_name q.name) (is_value q.value && (is_word q.value && is_sayable (prereq_text q))) h in
    let b = both_true (is_value q.value) (is_word q.value && is_sayable (prereq_text q)) a.1 in
    let c = both_true (is_word q.value) (is_sayable (prereq_text q)) b.1 in
    record { name = a.0; value = b.0; word = c.0; sayable = c.1 }

pub prereq_again : (q : Prereq) → is_prereq q ≡ true → prereq_in (prereq_text q) ≡ Some q
prereq_again q h =
    let f : PrereqFacts q = prereq_facts q h in
    prereq_only (prereq_text q) q (record {
      kind = kind_word q.kind;
      test = test_word q.equal;
      words = prereq_words q f.name f.word;
      kind_is = kind_again q.kind;
      name_is = f.name;
      test_is = test_again q.equal;
      value_is = f.value;
    })
