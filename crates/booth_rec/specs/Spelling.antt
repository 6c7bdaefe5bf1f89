-- The spelling of a record in bytes, and when bytes spell none: 32 bytes in version 1, 64 in version 2.
use Rattle.std.specs.Prelude.{◌≡◌, ◌≢◌, ◌⊎◌, ℕ, ◌+◌, ◌<◌, ◌^◌, List, ◌++◌, length, take, drop, replicate, ◌==◌, Bool, true, if◌then◌else◌, Option, Some, None, is_some, Result, Ok, Err}
use Rattle.std.specs.Option.{ForSome}
use Rattle.std.specs.Int.{w32, w64, from_be_bytes, to_be_bytes, bit_at}
use Rattle.booth_base.specs.declared.address.MemberId.{MemberId}
use Rattle.booth_rec.specs.declared.record.Lease.{Lease}
use Rattle.booth_rec.specs.declared.record.Promise.{Promise}
use Rattle.booth_rec.specs.declared.record.Record.{Record}
use Rattle.booth_rec.specs.declared.spelling.RecordFault.{RecordFault}
use Rattle.booth_rec.specs.declared.spelling.RecordFault.TheVariants.{Torn, Version}
use Rattle.booth_rec.specs.Record.{is_second, first_plain}

-- numbers in network order
unfoldable pub word : ℕ → List ℕ
word n = to_be_bytes w32 n

unfoldable pub long : ℕ → List ℕ
long n = to_be_bytes w64 n

unfoldable pub zeros : ℕ → List ℕ
zeros n = replicate n 0

-- a lease's term and its end; the fields of a missing part are 0
abbrev pub lease_fields : Option Lease → List ℕ
lease_fields None = word 0 ++ long 0
lease_fields (Some lease) = word lease.term ++ long lease.until

-- both versions begin with the version, the term, the flags for the parts of the record, and the lease
abbrev pub head : ℕ → ℕ → Record → List ℕ
head version bits kept = word version ++ word kept.term ++ word bits ++ lease_fields kept.lease

-- ---- version 1

-- 1 with a lease and else 0; 8 zero bytes follow the lease
abbrev pub first_spelling : Record → List ℕ
first_spelling kept = head 1 (if is_some kept.lease then 1 else 0) kept ++ zeros 8

-- ---- version 2

-- the flags: the sum of 1 if there is a lease, 2 if there is a vote, and 4 if there is a promise
abbrev pub flags : Record → ℕ
flags kept =
    (if is_some kept.lease then 1 else 0) + (if is_some kept.bound then 2 else 0)
    + (if is_some kept.promise then 4 else 0)

abbrev pub bound_field : Option MemberId → List ℕ
bound_field None = word 0
bound_field (Some member) = word member.0

-- the member of the promise, its term, a zero word, and its end
abbrev pub promise_fields : Option Promise → List ℕ
promise_fields None = word 0 ++ word 0 ++ word 0 ++ long 0
promise_fields (Some promise) = word promise.to.0 ++ word promise.term ++ word 0 ++ long promise.until

-- vote, promise, the end of the abstention, and 8 zero bytes
abbrev pub pledge_fields : Record → List ℕ
pledge_fields kept = bound_field kept.bound ++ promise_fields kept.promise ++ long kept.abstain ++ zeros 8

abbrev pub second_spelling : Record → List ℕ
second_spelling kept = head 2 (flags kept) kept ++ pledge_fields kept

-- ---- either

abbrev pub spelling : Record → List ℕ
spelling kept = if is_second kept then second_spelling kept else first_spelling kept

-- a record of version 2, or one of version 1, which has a term and perhaps a lease and nothing else
abbrev pub HasVersion : Record → Type 0
HasVersion kept = (is_second kept ≡ true) ⊎ (kept ≡ first_plain kept.term kept.lease)

-- the numbers of a record fit their types
pub record FitsTypes (kept : Record) : Type 0 where
  pub term : kept.term < 2 ^ 32
  pub lease_term : ForSome kept.lease (λ lease. lease.term < 2 ^ 32)
  pub lease_until : ForSome kept.lease (λ lease. lease.until < 2 ^ 64)
  pub bound : ForSome kept.bound (λ member. member.0 < 2 ^ 32)
  pub promise_to : ForSome kept.promise (λ promise. promise.to.0 < 2 ^ 32)
  pub promise_term : ForSome kept.promise (λ promise. promise.term < 2 ^ 32)
  pub promise_until : ForSome kept.promise (λ promise. promise.until < 2 ^ 64)
  pub abstain : kept.abstain < 2 ^ 64

-- bytes that spell a record
pub record Spells (bytes : List ℕ) (kept : Record) : Type 0 where
  pub version : HasVersion kept
  pub fits : FitsTypes kept
  pub spelled : bytes ≡ spelling kept

-- ---- reading

-- the number at a place
abbrev pub word_at : ℕ → List ℕ → ℕ
word_at at bytes = from_be_bytes w32 (take 4 (drop at bytes))

abbrev pub long_at : ℕ → List ℕ → ℕ
long_at at bytes = from_be_bytes w64 (take 8 (drop at bytes))

-- whether the flag at this place is set: a lease has the first, a vote the second, a promise the third
abbrev pub has_flag : ℕ → List ℕ → Bool
has_flag place bytes = bit_at (word_at 8 bytes) place == 1

abbrev pub lease_in : List ℕ → Option Lease
lease_in bytes = if has_flag 0 bytes then Some (record { term = word_at 12 bytes; until = long_at 16 bytes }) else None

abbrev pub bound_in : List ℕ → Option MemberId
bound_in bytes = if has_flag 1 bytes then Some (record { 0 = word_at 24 bytes }) else None

abbrev pub promise_in : List ℕ → Option Promise
promise_in bytes =
    if has_flag 2 bytes
    then Some (record { to = record { 0 = word_at 28 bytes }; term = word_at 32 bytes; until = long_at 40 bytes })
    else None

abbrev pub first_record : List ℕ → Record
first_record bytes = first_plain (word_at 4 bytes) (lease_in bytes)

abbrev pub second_record : List ℕ → Record
second_record bytes = record {
  version = 2;
  term = word_at 4 bytes;
  lease = lease_in bytes;
  bound = bound_in bytes;
  promise = promise_in bytes;
  abstain = long_at 48 bytes;
}

-- the record with the numbers of a body: of version 2 if it has 64 bytes
unfoldable pub record_in : List ℕ → Record
record_in bytes = if length bytes == 64 then second_record bytes else first_record bytes

-- the version comes first, and there are as many bytes as in its spelling
abbrev pub HasFormat : List ℕ → Type 0
HasFormat bytes = ((length bytes ≡ 32) × (word_at 0 bytes ≡ 1)) ⊎ ((length bytes ≡ 64) × (word_at 0 bytes ≡ 2))

-- bytes are a record if they spell what is read from them
abbrev pub IsRecord : List ℕ → Type 0
IsRecord bytes = bytes ≡ spelling (record_in bytes)

-- The result of reading: the record with this spelling, or a version that does not fit the number of bytes, or torn.
abbrev pub Reads : List ℕ → Result Record RecordFault → Type 0
Reads bytes (Ok kept) = Spells bytes kept
Reads bytes (Err Version) =
    ((length bytes ≡ 32) × (word_at 0 bytes ≢ 1)) ⊎ ((length bytes ≡ 64) × (word_at 0 bytes ≢ 2))
Reads bytes (Err Torn) = ((length bytes ≢ 32) × (length bytes ≢ 64)) ⊎ (HasFormat bytes × (IsRecord bytes → ⊥))
