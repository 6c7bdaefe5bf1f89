-- The MACs of a message under a key (RFC 2104), over the hashes of FIPS 180-4.
use Rattle.std.specs.Prelude.{ℕ, ◌-◌, List, ◌++◌, length, map, replicate, bit_xor}
use Rattle.sha1.specs.Sha1.{sha1}
use Rattle.sha2.specs.Sha256.{sha256}

-- a key's block: the key, then zeros to 64 bytes
unfoldable pub block : List ℕ → List ℕ
block key = key ++ replicate (64 - length key) 0

-- the block, with each of its bytes xored with the same byte
abbrev pub padded : ℕ → List ℕ → List ℕ
padded with key = map (λ b. bit_xor b with) (block key)

abbrev pub inner_pad : List ℕ → List ℕ
inner_pad key = padded 0x36 key

abbrev pub outer_pad : List ℕ → List ℕ
outer_pad key = padded 0x5C key

-- with SHA-1, of 20 bytes
abbrev pub mac : List ℕ → List ℕ → List ℕ
mac key bytes = sha1 (outer_pad key ++ sha1 (inner_pad key ++ bytes))

-- with SHA-256, of 32 bytes
abbrev pub mac256 : List ℕ → List ℕ → List ℕ
mac256 key bytes = sha256 (outer_pad key ++ sha256 (inner_pad key ++ bytes))
