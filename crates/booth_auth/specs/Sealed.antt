-- The bytes that a member sends: a message with the sender's time and, if there are keys, with the MAC by the first.
use Rattle.std.specs.Prelude.{ℕ, ◌*◌, ◌/◌, ◌%◌, min, Bool, List, [], ◌++◌, take, replicate, is_some, Option, Some, None}
use Rattle.booth_wire.specs.declared.message.Head.{Head}
use Rattle.booth_wire.specs.PlainMessage.{PlainMessage}
use Rattle.booth_wire.specs.Layout.{word}
use Rattle.booth_wire.specs.Spelling.{header, body, frame_len, frame_with}
use Rattle.booth_keys.specs.Mac.{mac, mac256}
use Rattle.booth_keys.specs.declared.ring.Hash.{Hash}
use Rattle.booth_keys.specs.declared.ring.Hash.TheVariants.{Sha1, Sha256}
use Rattle.booth_keys.specs.declared.ring.Ring.{Ring}

-- the head of a message that is sent at a reading in milliseconds: `secs` has the whole seconds, up to the greatest
-- value of the field, and `usecs` has the rest
abbrev pub stamped_head : Bool → ℕ → Head → Head
stamped_head auth now h = record h {
  auth = auth;
  secs = min (now / 1000) 4294967295;
  usecs = now % 1000 * 1000;
}

abbrev pub stamped : Option Ring → ℕ → PlainMessage → PlainMessage
stamped ring now l = record { head = stamped_head (is_some ring) now l.head; content = l.content }

-- the bytes that a MAC covers
abbrev pub vouched : PlainMessage → List ℕ
vouched l = header l.head (frame_len l) ++ body l.content

-- the number of a hash in an authentication part
abbrev pub number_of : Hash → ℕ
number_of Sha1 = 2
number_of Sha256 = 3

-- the 24 bytes of a hash: the MAC and zeros, or the first bytes of a longer MAC
abbrev pub hash_of : Hash → List ℕ → List ℕ → List ℕ
hash_of Sha1 key bytes = mac key bytes ++ replicate 4 0
hash_of Sha256 key bytes = take 24 (mac256 key bytes)

-- the authentication part of these bytes: the number of the ring's hash, and that hash by the first key
abbrev pub auth_part : Ring → List ℕ → List ℕ
auth_part ring bytes = word (number_of ring.hash) ++ hash_of ring.hash ring.first bytes

-- the message's frame as a member sends it: if there are keys, its last 28 bytes are the authentication part
abbrev pub sealed : Option Ring → PlainMessage → List ℕ
sealed None l = frame_with [] l
sealed (Some ring) l = frame_with (auth_part ring (vouched l)) l
