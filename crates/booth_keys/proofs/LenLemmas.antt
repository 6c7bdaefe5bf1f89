-- How many bytes a MAC has.
use Rattle.std.proofs.Common.{◌≡◌, ℕ, zero, suc, ◌*◌, List, length, slice_index, refl, arith}
use Rattle.std.specs.Int.{w32, to_be_bytes}
use Rattle.std.proofs.lemmas.List.{length-append}
use Rattle.sha1.specs.Sha1 as first
use Rattle.sha2.specs.Sha256 as second
use Rattle.booth_keys.specs.Mac.{mac, mac256}

len_bytes : (n : ℕ) → length (to_be_bytes w32 n) ≡ 4
len_bytes n = refl

len_digest : (h : List ℕ) (n : ℕ) → length (first.digest_bytes h n) ≡ 4 * n
unfolding first.digest_bytes
len_digest h zero = refl
len_digest h (suc n) =
    omega (arith, length-append (first.digest_bytes h n) (to_be_bytes w32 (slice_index h n)), len_bytes (slice_index h n), len_digest h n)

len_digest256 : (h : List ℕ) (n : ℕ) → length (second.digest_bytes h n) ≡ 4 * n
unfolding second.digest_bytes
len_digest256 h zero = refl
len_digest256 h (suc n) =
    omega (arith, length-append (second.digest_bytes h n) (to_be_bytes w32 (slice_index h n)), len_bytes (slice_index h n), len_digest256 h n)

pub len_mac : (key bytes : List ℕ) → length (mac key bytes) ≡ 20
unfolding first.sha1
len_mac key bytes = len_digest _ 5

pub len_mac256 : (key bytes : List ℕ) → length (mac256 key bytes) ≡ 32
unfolding second.sha256
len_mac256 key bytes = len_digest256 _ 8
