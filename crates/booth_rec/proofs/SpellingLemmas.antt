-- What is spelled so is read back, and has its version and its size.
use Rattle.std.proofs.Common.{false, true, ◌≡◌, ◌≢◌, ◌⊎◌, inl, inr, ◌∙◌, sym, ℕ, ◌<◌, ◌^◌, List, length, length-append, Bool, Option, Some, None, refl, ap, subst, arith, Err}
use Rattle.std.specs.Prelude.{◌==◌, if◌then◌else◌, is_some}
use borrow.Rule.Slice.PartMut.{put_mid}
use Rattle.std.proofs.lemmas.Bool.Decides.{nat_tests}
use Rattle.std.proofs.lemmas.Nat.{from_be_bytes-to_be_bytes_4, from_be_bytes-to_be_bytes_8}
use Rattle.booth_base.specs.declared.address.MemberId.{MemberId}
use Rattle.booth_rec.specs.declared.record.Lease.{Lease}
use Rattle.booth_rec.specs.declared.record.Promise.{Promise}
use Rattle.booth_rec.specs.declared.record.Record.{Record}
use Rattle.booth_rec.specs.declared.spelling.RecordFault.{RecordFault}
use Rattle.booth_rec.specs.declared.spelling.RecordFault.TheVariants.{Torn, Version}
use Rattle.booth_rec.specs.Record.{is_second, first_plain}
use Rattle.booth_rec.specs.Spelling.{word, long, zeros, head, lease_fields, flags, bound_field, promise_fields, pledge_fields, first_spelling, second_spelling, spelling, first_record, second_record, record_in, word_at, HasVersion, HasFormat, IsRecord, FitsTypes, Spells, Reads}

abbrev made : ℕ → Option Lease → Option MemberId → Option Promise → ℕ → Record
made term lease bound promise abstain =
    record { version = 2; term = term; lease = lease; bound = bound; promise = promise; abstain = abstain }

read_made : (term : ℕ) (lease : Option Lease) (bound : Option MemberId) (promise : Option Promise) (abstain : ℕ)
    → FitsTypes (made term lease bound promise abstain) → second_record (second_spelling (made term lease bound promise abstain)) ≡ made term lease bound promise abstain
unfolding word long zeros
read_made term None None None abstain fits =
    rw (from_be_bytes-to_be_bytes_4 term fits.term, from_be_bytes-to_be_bytes_8 abstain fits.abstain) refl
read_made term None None (Some p) abstain fits =
    rw (
      from_be_bytes-to_be_bytes_4 term fits.term,
      from_be_bytes-to_be_bytes_4 p.to.0 (fits.promise_to p refl),
      from_be_bytes-to_be_bytes_4 p.term (fits.promise_term p refl),
      from_be_bytes-to_be_bytes_8 p.until (fits.promise_until p refl),
      from_be_bytes-to_be_bytes_8 abstain fits.abstain,
    ) refl
read_made term None (Some b) None abstain fits =
    rw (from_be_bytes-to_be_bytes_4 term fits.term, from_be_bytes-to_be_bytes_4 b.0 (fits.bound b refl), from_be_bytes-to_be_bytes_8 abstain fits.abstain) refl
read_made term None (Some b) (Some p) abstain fits =
    rw (
      from_be_bytes-to_be_bytes_4 term fits.term,
      from_be_bytes-to_be_bytes_4 b.0 (fits.bound b refl),
      from_be_bytes-to_be_bytes_4 p.to.0 (fits.promise_to p refl),
      from_be_bytes-to_be_bytes_4 p.term (fits.promise_term p refl),
      from_be_bytes-to_be_bytes_8 p.until (fits.promise_until p refl),
      from_be_bytes-to_be_bytes_8 abstain fits.abstain,
    ) refl
read_made term (Some l) None None abstain fits =
    rw (
      from_be_bytes-to_be_bytes_4 term fits.term,
      from_be_bytes-to_be_bytes_4 l.term (fits.lease_term l refl),
      from_be_bytes-to_be_bytes_8 l.until (fits.lease_until l refl),
      from_be_bytes-to_be_bytes_8 abstain fits.abstain,
    ) refl
read_made term (Some l) None (Some p) abstain fits =
    rw (
      from_be_bytes-to_be_bytes_4 term fits.term,
      from_be_bytes-to_be_bytes_4 l.term (fits.lease_term l refl),
      from_be_bytes-to_be_bytes_8 l.until (fits.lease_until l refl),
      from_be_bytes-to_be_bytes_4 p.to.0 (fits.promise_to p refl),
      from_be_bytes-to_be_bytes_4 p.term (fits.promise_term p refl),
      from_be_bytes-to_be_bytes_8 p.until (fits.promise_until p refl),
      from_be_bytes-to_be_bytes_8 abstain fits.abstain,
    ) refl
read_made term (Some l) (Some b) None abstain fits =
    rw (
      from_be_bytes-to_be_bytes_4 term fits.term,
      from_be_bytes-to_be_bytes_4 l.term (fits.lease_term l refl),
      from_be_bytes-to_be_bytes_8 l.until (fits.lease_until l refl),
      from_be_bytes-to_be_bytes_4 b.0 (fits.bound b refl),
      from_be_bytes-to_be_bytes_8 abstain fits.abstain,
    ) refl
read_made term (Some l) (Some b) (Some p) abstain fits =
    rw (
      from_be_bytes-to_be_bytes_4 term fits.term,
      from_be_bytes-to_be_bytes_4 l.term (fits.lease_term l refl),
      from_be_bytes-to_be_bytes_8 l.until (fits.lease_until l refl),
      from_be_bytes-to_be_bytes_4 b.0 (fits.bound b refl),
      from_be_bytes-to_be_bytes_4 p.to.0 (fits.promise_to p refl),
      from_be_bytes-to_be_bytes_4 p.term (fits.promise_term p refl),
      from_be_bytes-to_be_bytes_8 p.until (fits.promise_until p refl),
      from_be_bytes-to_be_bytes_8 abstain fits.abstain,
    ) refl

is_made : (kept : Record) → is_second kept ≡ true → kept ≡ made kept.term kept.lease kept.bound kept.promise kept.abstain
is_made kept second =
    let two : kept.version ≡ 2 = grind (arith, nat_tests) in
    ap (λ (n : ℕ). let r : Record = record { version = n; term = kept.term; lease = kept.lease; bound = kept.bound; promise = kept.promise; abstain = kept.abstain } in r) two

second_read : (kept : Record) → is_second kept ≡ true → FitsTypes kept → second_record (second_spelling kept) ≡ kept
second_read kept second fits =
    read_made kept.term kept.lease kept.bound kept.promise kept.abstain
    (record {
      term = fits.term;
      lease_term = fits.lease_term;
      lease_until = fits.lease_until;
      bound = fits.bound;
      promise_to = fits.promise_to;
      promise_term = fits.promise_term;
      promise_until = fits.promise_until;
      abstain = fits.abstain;
    }) ∙ sym (is_made kept second)

first_made : (term : ℕ) (lease : Option Lease) → term < 2 ^ 32 → ((l : Lease) → lease ≡ Some l → l.term < 2 ^ 32) → ((l : Lease) → lease ≡ Some l → l.until < 2 ^ 64)
    → first_record (first_spelling (first_plain term lease)) ≡ first_plain term lease
unfolding word long zeros
first_made term None below lease_term lease_until =
    rw (from_be_bytes-to_be_bytes_4 term below) refl
first_made term (Some l) below lease_term lease_until =
    rw (
      from_be_bytes-to_be_bytes_4 term below,
      from_be_bytes-to_be_bytes_4 l.term (lease_term l refl),
      from_be_bytes-to_be_bytes_8 l.until (lease_until l refl),
    ) refl

first_length : (kept : Record) → length (first_spelling kept) ≡ 32
unfolding word long zeros
first_length kept = by_lease kept.lease
  where
    by_lease : (lease : Option Lease) → length (first_spelling (first_plain kept.term lease)) ≡ 32
    by_lease None = refl
    by_lease (Some l) = refl

first_version : (kept : Record) → word_at 0 (first_spelling kept) ≡ 1
unfolding word long zeros
first_version kept = from_be_bytes-to_be_bytes_4 1 (omega arith)

second_version : (kept : Record) → word_at 0 (second_spelling kept) ≡ 2
unfolding word long zeros
second_version kept = from_be_bytes-to_be_bytes_4 2 (omega arith)

-- ---- spellings, written part by part over zeros

pub head_written : (version bits : ℕ) (kept : Record)
    → put_mid 12 12 (put_mid 8 4 (put_mid 4 4 (put_mid 0 4 (zeros 24) (word version)) (word kept.term)) (word bits)) (lease_fields kept.lease) ≡ head version bits kept
unfolding word long zeros
head_written version bits kept = by_lease kept.lease
  where
    by_lease : (lease : Option Lease)
        → put_mid 12 12 (put_mid 8 4 (put_mid 4 4 (put_mid 0 4 (zeros 24) (word version)) (word kept.term)) (word bits)) (lease_fields lease)
        ≡ head version bits (first_plain kept.term lease)
    by_lease None = refl
    by_lease (Some l) = refl

pub first_written : (kept : Record) → put_mid 0 24 (zeros 32) (head 1 (if is_some kept.lease then 1 else 0) kept) ≡ first_spelling kept
unfolding word long zeros
first_written kept = refl

pub pledge_written : (kept : Record)
    → put_mid 0 4 (put_mid 4 20 (put_mid 24 8 (zeros 40) (long kept.abstain)) (promise_fields kept.promise)) (bound_field kept.bound) ≡ pledge_fields kept
unfolding word long zeros
pledge_written kept = by_parts kept.bound kept.promise
  where
    by_parts : (bound : Option MemberId) (promise : Option Promise)
        → put_mid 0 4 (put_mid 4 20 (put_mid 24 8 (zeros 40) (long kept.abstain)) (promise_fields promise)) (bound_field bound)
        ≡ pledge_fields (made kept.term kept.lease bound promise kept.abstain)
    by_parts None None = refl
    by_parts None (Some p) = refl
    by_parts (Some b) None = refl
    by_parts (Some b) (Some p) = refl

head_length : (version bits : ℕ) (kept : Record) → length (head version bits kept) ≡ 24
unfolding word long
head_length version bits kept = by_lease kept.lease
  where
    by_lease : (lease : Option Lease) → length (head version bits (first_plain kept.term lease)) ≡ 24
    by_lease None = refl
    by_lease (Some l) = refl

pledge_length : (kept : Record) → length (pledge_fields kept) ≡ 40
unfolding word long zeros
pledge_length kept = by_parts kept.bound kept.promise
  where
    by_parts : (bound : Option MemberId) (promise : Option Promise) → length (pledge_fields (made kept.term kept.lease bound promise kept.abstain)) ≡ 40
    by_parts None None = refl
    by_parts None (Some p) = refl
    by_parts (Some b) None = refl
    by_parts (Some b) (Some p) = refl

second_length : (kept : Record) → length (second_spelling kept) ≡ 64
second_length kept =
    length-append (head 2 (flags kept) kept) (pledge_fields kept) ∙ omega (arith, head_length 2 (flags kept) kept, pledge_length kept)

pub second_written : (kept : Record) → put_mid 24 40 (put_mid 0 24 (zeros 64) (head 2 (flags kept) kept)) (pledge_fields kept) ≡ second_spelling kept
unfolding word long zeros
second_written kept = by_parts kept.lease kept.bound kept.promise
  where
    by_parts : (lease : Option Lease) (bound : Option MemberId) (promise : Option Promise)
        → let kept_so : Record = made kept.term lease bound promise kept.abstain in
        put_mid 24 40 (put_mid 0 24 (zeros 64) (head 2 (flags kept_so) kept_so)) (pledge_fields kept_so) ≡ second_spelling kept_so
    by_parts None None None = refl
    by_parts None None (Some p) = refl
    by_parts None (Some b) None = refl
    by_parts None (Some b) (Some p) = refl
    by_parts (Some l) None None = refl
    by_parts (Some l) None (Some p) = refl
    by_parts (Some l) (Some b) None = refl
    by_parts (Some l) (Some b) (Some p) = refl

-- ---- of either version

pub spelled_second : (kept : Record) → is_second kept ≡ true → spelling kept ≡ second_spelling kept
spelled_second kept second = ap (λ (b : Bool). if b then second_spelling kept else first_spelling kept) second

spelled_first : (kept : Record) → kept ≡ first_plain kept.term kept.lease → spelling kept ≡ first_spelling kept
spelled_first kept is = ap (λ (r : Record). spelling r) is

pub length_of : (kept : Record) → is_second kept ≡ true → length (spelling kept) ≡ 64
length_of kept second = ap length (spelled_second kept second) ∙ second_length kept

-- bytes that spell a record have a format
pub format : (bytes : List ℕ) (kept : Record) → Spells bytes kept → HasFormat bytes
format bytes kept spells = by_version spells.version
  where
    by_version : (is_second kept ≡ true) ⊎ (kept ≡ first_plain kept.term kept.lease) → HasFormat bytes
    by_version (inl second) =
        let is : bytes ≡ second_spelling kept = spells.spelled ∙ spelled_second kept second in
        inr (ap length is ∙ second_length kept, ap (word_at 0) is ∙ second_version kept)
    by_version (inr first) =
        let is : bytes ≡ first_spelling kept = spells.spelled ∙ spelled_first kept first in
        inl (ap length is ∙ first_length kept, ap (word_at 0) is ∙ first_version kept)

-- what is read of a size
pub read_first : (bytes : List ℕ) → length bytes ≡ 32 → record_in bytes ≡ first_record bytes
unfolding record_in
read_first bytes long = ap (λ (n : ℕ). if n == 64 then second_record bytes else first_record bytes) long

pub read_second : (bytes : List ℕ) → length bytes ≡ 64 → record_in bytes ≡ second_record bytes
unfolding record_in
read_second bytes long = ap (λ (n : ℕ). if n == 64 then second_record bytes else first_record bytes) long

-- bytes that spell a record are read as that record
pub read_back : (bytes : List ℕ) (kept : Record) → Spells bytes kept → record_in bytes ≡ kept
read_back bytes kept spells = by_version spells.version
  where
    by_version : (is_second kept ≡ true) ⊎ (kept ≡ first_plain kept.term kept.lease) → record_in bytes ≡ kept
    by_version (inl second) =
        let is : bytes ≡ second_spelling kept = spells.spelled ∙ spelled_second kept second in
        read_second bytes (ap length is ∙ second_length kept) ∙ ap (λ (l : List ℕ). second_record l) is ∙ second_read kept second spells.fits
    by_version (inr first) =
        let is : bytes ≡ first_spelling kept = spells.spelled ∙ spelled_first kept first in
        read_first bytes (ap length is ∙ first_length kept) ∙ ap (λ (l : List ℕ). first_record l) is
        ∙ first_made kept.term kept.lease spells.fits.term spells.fits.lease_term spells.fits.lease_until ∙ sym first

pub is_record : (bytes : List ℕ) (kept : Record) → Spells bytes kept → IsRecord bytes
is_record bytes kept spells = spells.spelled ∙ ap (λ (r : Record). spelling r) (sym (read_back bytes kept spells))

-- a record has a format
pub record_format : (bytes : List ℕ) → IsRecord bytes → HasFormat bytes
unfolding record_in
record_format bytes is = by_size (length bytes == 64) is
  where
    by_size : (b : Bool) → bytes ≡ spelling (if b then second_record bytes else first_record bytes) → HasFormat bytes
    by_size true e = inr (ap length e ∙ second_length (second_record bytes), ap (word_at 0) e ∙ second_version (second_record bytes))
    by_size false e = inl (ap length e ∙ first_length (first_record bytes), ap (word_at 0) e ∙ first_version (first_record bytes))

-- ---- what decoding tells apart

-- what is read has a version
pub in_version : (bytes : List ℕ) → HasVersion (record_in bytes)
unfolding record_in
in_version bytes = by_size (length bytes == 64)
  where
    by_size : (b : Bool) → HasVersion (if b then second_record bytes else first_record bytes)
    by_size true = inl refl
    by_size false = inr refl

module _ (bytes : List ℕ) (rec : Record) (is : rec ≡ record_in bytes) where
  pub spells_so : FitsTypes rec → bytes ≡ spelling rec → Spells bytes rec
  spells_so fits same = record { version = subst (λ (r : Record). HasVersion r) (sym is) (in_version bytes); fits = fits; spelled = same }

  -- its own spelling is another
  pub no_record_here : (bytes ≡ spelling rec → ⊥) → IsRecord bytes → ⊥
  no_record_here other same = other (same ∙ ap (λ (r : Record). spelling r) (sym is))

  version_first : length bytes ≡ 32 → rec.version ≡ 1
  version_first long = ap (λ (r : Record). r.version) (is ∙ read_first bytes long)

  version_second : length bytes ≡ 64 → rec.version ≡ 2
  version_second long = ap (λ (r : Record). r.version) (is ∙ read_second bytes long)

  pub other_version : (length bytes ≡ 32) ⊎ (length bytes ≡ 64) → word_at 0 bytes ≢ rec.version → Reads bytes (Err Version)
  other_version (inl long) other = inl (long, λ same. other (same ∙ sym (version_first long)))
  other_version (inr long) other = inr (long, λ same. other (same ∙ sym (version_second long)))

  pub has_format : (length bytes ≡ 32) ⊎ (length bytes ≡ 64) → word_at 0 bytes ≡ rec.version → HasFormat bytes
  has_format (inl long) same = inl (long, same ∙ version_first long)
  has_format (inr long) same = inr (long, same ∙ version_second long)

  pub version_of : HasFormat bytes → word_at 0 bytes ≡ rec.version
  version_of (inl (long, one)) = one ∙ sym (version_first long)
  version_of (inr (long, two)) = two ∙ sym (version_second long)

-- bytes that are refused are no record
pub refused : (bytes : List ℕ) (fault : RecordFault) → Reads bytes (Err fault) → IsRecord bytes → ⊥
refused bytes Version reads is = by_format reads (record_format bytes is)
  where
    by_format : Reads bytes (Err Version) → HasFormat bytes → ⊥
    by_format (inl (_, other)) (inl (_, one)) = other one
    by_format (inl (short, _)) (inr (long, _)) = omega (arith, short, long)
    by_format (inr (long, _)) (inl (short, _)) = omega (arith, short, long)
    by_format (inr (_, other)) (inr (_, two)) = other two
refused bytes Torn reads is = by_size reads (record_format bytes is)
  where
    by_size : Reads bytes (Err Torn) → HasFormat bytes → ⊥
    by_size (inl (other, _)) (inl (short, _)) = other short
    by_size (inl (_, other)) (inr (long, _)) = other long
    by_size (inr (_, none)) format = none is
