-- A sealed message is read as itself, and shows the right MAC.
use Rattle.std.proofs.Common.{◌≡◌, ◌⊎◌, ℕ, ◌-◌, ◌*◌, Bool, true, false, not, ◌||◌, ◌==◌, cond, inl, inr, Option, Some, None, List, [], ◌++◌, length, take, drop, replicate, is_some, Ok, refl, ap, sym, ◌∙◌, append_assoc, arith}
use Rattle.std.specs.Int.{w32, from_be_bytes}
use Rattle.std.proofs.lemmas.List.{take_at, drop_at, length-append, length-take, take_all}
use Rattle.std.proofs.lemmas.Slice.Eq.{bytes_eq-Decides}
use Rattle.booth_wire.specs.PlainMessage.{PlainMessage}
use Rattle.booth_wire.specs.Layout.{auth_len, field_at, word, word_at}
use Rattle.booth_wire.specs.Reading.{decoded}
use Rattle.booth_wire.specs.Spelling.{Fits, frame_with, spelling, blank_auth, before_auth}
use Rattle.booth_wire.proofs.ByteLemmas.{len_word, word_again}
use Rattle.booth_wire.proofs.AgainLemmas.{frame_read, len_blank}
use Rattle.booth_wire.proofs.FrameLemmas.{vouched_for}
use Rattle.booth_keys.specs.Mac.{mac, mac256}
use Rattle.booth_keys.specs.declared.ring.Hash.{Hash}
use Rattle.booth_keys.specs.declared.ring.Hash.TheVariants.{Sha1, Sha256}
use Rattle.booth_keys.specs.declared.ring.Ring.{Ring}
use Rattle.booth_keys.proofs.LenLemmas.{len_mac, len_mac256}
use Rattle.booth_auth.specs.Verdict.{hash_id, is_sha1_right, is_sha256_right, is_mac_right, is_old_right, has_wrong_mac}
use Rattle.booth_auth.specs.Sealed.{vouched, number_of, hash_of, auth_part, sealed}
use Rattle.booth_auth.specs.Laws.{HasKey}

pub len_hash : (hash : Hash) (key bytes : List ℕ) → length (hash_of hash key bytes) ≡ 24
len_hash Sha1 key bytes = omega (arith, length-append (mac key bytes) (replicate {A = ℕ} 4 0), len_mac key bytes)
len_hash Sha256 key bytes = omega (arith, length-take 24 (mac256 key bytes), len_mac256 key bytes)

len_part : (ring : Ring) (bytes : List ℕ) → length (auth_part ring bytes) ≡ 28
len_part ring bytes =
    omega (arith, length-append (word (number_of ring.hash)) (hash_of ring.hash ring.first bytes), len_word (number_of ring.hash), len_hash ring.hash ring.first bytes)

pub sealed_read :
    (ring : Option Ring) (l : PlainMessage) → Fits l → l.head.auth ≡ is_some ring →
    decoded (sealed ring l) ≡ Ok l
sealed_read None l fits keyed = frame_read l [] fits (sym (ap auth_len keyed))
sealed_read (Some ring) l fits keyed =
    frame_read l (auth_part ring (vouched l)) fits (len_part ring (vouched l) ∙ sym (ap auth_len keyed))

-- what is signed is sealed
pub signed_sealed :
    (ring : Ring) (l : PlainMessage) → l.head.auth ≡ true →
    before_auth (spelling l) ++ auth_part ring (before_auth (spelling l)) ≡ sealed (Some ring) l
signed_sealed ring l keyed =
    let auth = blank_auth l.head.auth in
    let len : length auth ≡ 28 = len_blank l.head.auth ∙ ap auth_len keyed in
    ap (λ (bytes : List ℕ). bytes ++ auth_part ring bytes) (vouched_for l auth len)

pub unsigned_sealed : (l : PlainMessage) → l.head.auth ≡ false → spelling l ≡ sealed None l
unfolding blank_auth
unsigned_sealed l plain = ap (λ (auth : Bool). frame_with (blank_auth auth) l) plain

-- the 24 bytes behind the number of the hash
shown : (front id code : List ℕ) → length id ≡ 4 → length code ≡ 24 →
    drop (length (front ++ (id ++ code)) - 24) (front ++ (id ++ code)) ≡ code
shown front id code four long =
    let bytes : List ℕ = front ++ (id ++ code) in
    let at : length (front ++ id) ≡ length bytes - 24 =
    omega (arith, length-append front id, length-append front (id ++ code), length-append id code) in
    ap (drop (length bytes - 24)) (sym (append_assoc front id code)) ∙ drop_at (front ++ id) code (length bytes - 24) at

-- the number of the hash
numbered : (front id code : List ℕ) → length id ≡ 4 → length code ≡ 24 →
    take 4 (drop (length (front ++ (id ++ code)) - 28) (front ++ (id ++ code))) ≡ id
numbered front id code four long =
    let bytes : List ℕ = front ++ (id ++ code) in
    let at : length front ≡ length bytes - 28 =
    omega (arith, length-append front (id ++ code), length-append id code) in
    ap (take 4) (drop_at front (id ++ code) (length bytes - 28) at) ∙ take_at id code 4 four

number_small : (hash : Hash) → from_be_bytes w32 (word (number_of hash)) ≡ number_of hash
number_small Sha1 = word_again 2 (omega arith)
number_small Sha256 = word_again 3 (omega arith)

module _ (ring : Ring) (l : PlainMessage) where
  abbrev frame : List ℕ
  frame = sealed (Some ring) l

  abbrev code : List ℕ
  code = hash_of ring.hash ring.first (vouched l)

  of_hash : hash_id frame ≡ number_of ring.hash
  of_hash =
      ap (from_be_bytes w32)
      (numbered (vouched l) (word (number_of ring.hash)) code (len_word _) (len_hash ring.hash ring.first (vouched l)))
      ∙ number_small ring.hash

  shows : drop (length frame - 24) frame ≡ code
  shows =
      shown (vouched l) (word (number_of ring.hash)) code (len_word _) (len_hash ring.hash ring.first (vouched l))

  vouches : before_auth frame ≡ vouched l
  vouches = vouched_for l (auth_part ring (vouched l)) (len_part ring (vouched l))

sha1_right : (ring : Ring) (l : PlainMessage) → ring.hash ≡ Sha1 → is_sha1_right ring.first (frame ring l) ≡ true
sha1_right ring l is =
    let key = ring.first in
    let part : take 20 (hash_of ring.hash key (vouched l)) ≡ mac key (vouched l) =
    ap (λ h. take 20 (hash_of h key (vouched l))) is ∙ take_at (mac key (vouched l)) (replicate 4 0) 20 (len_mac key (vouched l)) in
    (bytes_eq-Decides _ _).1
    (ap (take 20) (shows ring l) ∙ (part ∙ sym (ap (mac key) (vouches ring l))))

sha256_right : (ring : Ring) (l : PlainMessage) → ring.hash ≡ Sha256 → is_sha256_right ring.first (frame ring l) ≡ true
sha256_right ring l is =
    let key = ring.first in
    let part : take 24 (hash_of ring.hash key (vouched l)) ≡ take 24 (mac256 key (vouched l)) =
    take_all 24 (hash_of ring.hash key (vouched l)) (omega (arith, len_hash ring.hash key (vouched l)))
    ∙ ap (λ h. hash_of h key (vouched l)) is in
    (bytes_eq-Decides _ _).1
    (ap (take 24) (shows ring l) ∙ (part ∙ sym (ap (λ bytes. take 24 (mac256 key bytes)) (vouches ring l))))

mac_by : (hash : Hash) (ring : Ring) (l : PlainMessage) → ring.hash ≡ hash → is_mac_right ring.first (frame ring l) ≡ true
mac_by Sha1 ring l is =
    let bytes = frame ring l in
    ap (λ (id : ℕ). cond (id == 3) (is_sha256_right ring.first bytes) (is_sha1_right ring.first bytes))
    (of_hash ring l ∙ ap number_of is)
    ∙ sha1_right ring l is
mac_by Sha256 ring l is =
    let bytes = frame ring l in
    ap (λ (id : ℕ). cond (id == 3) (is_sha256_right ring.first bytes) (is_sha1_right ring.first bytes))
    (of_hash ring l ∙ ap number_of is)
    ∙ sha256_right ring l is

-- one of two is right
first_right : (a b : Bool) → a ≡ true → not (a || b) ≡ false
first_right true b is = refl
first_right false b is = absurd cc

second_right : (a b : Bool) → b ≡ true → not (a || b) ≡ false
second_right true b is = refl
second_right false b is = ap not is

-- what is sealed by a ring has a right MAC for each ring that has its first key
pub seal_is_right : (ring other : Ring) (l : PlainMessage) → HasKey other ring.first
    → has_wrong_mac (Some other) (sealed (Some ring) l) ≡ false
seal_is_right ring other l (inl is) =
    let bytes = frame ring l in
    first_right _ _ (ap (λ key. is_mac_right key bytes) is ∙ mac_by ring.hash ring l refl)
seal_is_right ring other l (inr is) =
    let bytes = frame ring l in
    second_right (is_mac_right other.first bytes) _ (ap (λ key. is_old_right key bytes) is ∙ mac_by ring.hash ring l refl)
