-- Fields: addresses and rows of numbers.
use Rattle.std.specs.Prelude.{MatchBool}
use Rattle.std.specs.Str.{bytes_eq}
use Rattle.std.proofs.Common.{◌≡◌, ◌+◌, ◌-◌, ◌<◌, ℕ, suc, Bool, true, false, List, sym, ap, ◌∙◌, subst, true≢false, arith}
use Rattle.std.proofs.lemmas.Slice.Eq.{bytes_eq-Decides}
use Rattle.booth_base.specs.declared.address.Address.{Address}
use Rattle.booth_base.specs.Address.{IsAddress, Spells, printed}
use Rattle.booth_base.proofs.AddressLemmas.{one_address, printed_spells}
use Rattle.booth_talk.specs.Fields.{IsNumber, IsPrinted, first, rest}
use Rattle.booth_talk.specs.Forms.{AreNumbers}

-- an address that was read, and its text again
pub is_shown : (text shown : List ℕ) (a : Address) (same : Bool) → IsAddress a → Spells text a → shown ≡ printed a → same ≡ bytes_eq shown text →
    MatchBool same (IsPrinted text) (IsPrinted text → ⊥)
is_shown text shown a true whole spells is test =
    record { address = a; whole = whole; spelled = sym ((bytes_eq-Decides shown text).0 (sym test)) ∙ is }
is_shown text shown a false whole spells is test = λ p.
    let again : Spells text p.address = subst (λ t. Spells t p.address) (sym p.spelled) (printed_spells p.address p.whole) in
    let one : a ≡ p.address = one_address text a p.address spells again in
    let equal : shown ≡ text = is ∙ ap printed one ∙ sym p.spelled in
    absurd (true≢false (sym ((bytes_eq-Decides shown text).1 equal) ∙ sym test))

-- what is no address is printed by none
pub never_shown : (text : List ℕ) → ((a : Address) → Spells text a → ⊥) → IsPrinted text → ⊥
never_shown text none p = none p.address (subst (λ t. Spells t p.address) (sym p.spelled) (printed_spells p.address p.whole))

-- what is left of a row of numbers, behind so many
pub record AreLeft (more done : ℕ) (text left : List ℕ) : Type 0 where
  pub there : (k : ℕ) → done + k ≡ more → AreNumbers k left → AreNumbers more text
  pub back : (k : ℕ) → done + k ≡ more → AreNumbers more text → AreNumbers k left

pub none_done : (more : ℕ) (text : List ℕ) → AreLeft more 0 text text
none_done more text = record {
  there = λ k is h. let same : k ≡ more = omega (arith, is) in subst (λ n. AreNumbers n text) same h;
  back = λ k is h. let same : more ≡ k = omega (arith, is) in subst (λ n. AreNumbers n text) same h;
}

pub one_more_done : (more done : ℕ) (text left : List ℕ) → AreLeft more done text left → IsNumber (first left) → AreLeft more (done + 1) text (rest left)
one_more_done more done text left s number = record {
  there = λ k is h. s.there (suc k) (omega (arith, is)) (number, h);
  back = λ k is h. (s.back (suc k) (omega (arith, is)) h).1;
}

pub one_missing : (more done : ℕ) (text left : List ℕ) → AreLeft more done text left → done < more → (IsNumber (first left) → ⊥) →
    AreNumbers more text → ⊥
one_missing more done text left s lt never h = never (s.back (suc (more - (done + 1))) (omega (arith, lt)) h).0

match_same : (b : Bool) (P Q : Type 0) → (P → Q) → (Q → P) → MatchBool b P (P → ⊥) → MatchBool b Q (Q → ⊥)
match_same true P Q there back holds = there holds
match_same false P Q there back never = λ q. never (back q)

pub all_done : (b : Bool) (more done : ℕ) (text left : List ℕ) → AreLeft more done text left → done ≡ more →
    MatchBool b (IsNumber left) (IsNumber left → ⊥) → MatchBool b (AreNumbers more text) (AreNumbers more text → ⊥)
all_done b more done text left s same test =
    match_same b (IsNumber left) (AreNumbers more text) (s.there 0 (omega (arith, same))) (s.back 0 (omega (arith, same))) test
