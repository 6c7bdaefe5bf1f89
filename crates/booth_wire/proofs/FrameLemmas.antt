-- What signing leaves as it was.
use Rattle.std.proofs.Common.{◌≡◌, ℕ, ◌-◌, ◌≤◌, ◌%◌, Bool, true, false, List, ◌++◌, length, take, drop, refl, sym, ap, ◌∙◌, append_assoc, arith, rules}
use Rattle.std.specs.Int.{w32, from_be_bytes}
use Rattle.std.proofs.lemmas.List.{take_at, length-append, length-take, take-append-le, take-append-drop}
use Rattle.booth_wire.specs.declared.command.Kind.{Kind}
use Rattle.booth_wire.specs.Command.{kind_of}
use Rattle.booth_wire.specs.PlainMessage.{PlainMessage}
use Rattle.booth_wire.specs.Layout.{word_at, opts_of, auth_len, word}
use Rattle.booth_wire.specs.Spelling.{Fits, before_auth, header, body, frame_len, frame_with, HasAuth, signed}
use Rattle.booth_wire.proofs.ByteLemmas.{len_word}
use Rattle.booth_wire.proofs.AgainLemmas.{first_word, len_frame}

len_signed : (bytes hash : List ℕ) (id : ℕ) → 76 ≤ length bytes → length hash ≡ 24
    → length (signed bytes id hash) ≡ length bytes
len_signed bytes hash id long len =
    omega (
      arith,
      length-append (take (length bytes - 28) bytes) (word id ++ hash),
      length-append (word id) hash,
      length-take (length bytes - 28) bytes,
      len_word id,
    )

-- the first bytes of a list do not change where something behind them does
front : (n : ℕ) (bytes more : List ℕ) → 4 ≤ n → n ≤ length bytes
    → take 4 (take n bytes ++ more) ≡ take 4 bytes
front n bytes more four within =
    let long : 4 ≤ length (take n bytes) = omega (arith, length-take n bytes) in
    take-append-le 4 (take n bytes) more long
    ∙ sym (take-append-le 4 (take n bytes) (drop n bytes) long) ∙ ap (take 4) (take-append-drop n bytes)

pub signed_has_auth : (bytes : List ℕ) (id : ℕ) (hash : List ℕ) → HasAuth bytes → length hash ≡ 24
    → HasAuth (signed bytes id hash)
signed_has_auth bytes id hash h len =
    let n : ℕ = length bytes - 28 in
    let same : take 4 (signed bytes id hash) ≡ take 4 bytes =
    front n bytes (word id ++ hash) (omega (arith, h.room)) (omega arith) in
    record {
      room = omega (arith, h.room, len_signed bytes hash id h.room len);
      bit = ap (λ (w : List ℕ). from_be_bytes w32 w % 2) same ∙ h.bit;
    }

-- with AUTH the opts of every command are odd
odd_opts : (auth : Bool) (kind : Kind) → auth ≡ true → opts_of auth kind % 2 ≡ 1
odd_opts true kind h = search rules
odd_opts false kind h = absurd cc

pub spelling_has_auth : (l : PlainMessage) (auth : List ℕ) → Fits l → length auth ≡ auth_len l.head.auth
    → l.head.auth ≡ true → HasAuth (frame_with auth l)
spelling_has_auth l auth fits len keyed =
    let count : length (frame_with auth l) ≡ frame_len l = len_frame l auth fits.part len in
    let more : auth_len l.head.auth ≡ 28 = ap auth_len keyed in
    record {
      room = omega (arith, count, more);
      bit =
          ap (λ (n : ℕ). n % 2)
          (ap (word_at 0) (append_assoc (header l.head (frame_len l)) (body l.content) auth)
          ∙ first_word l.head (frame_len l) (body l.content ++ auth))
          ∙ odd_opts l.head.auth (kind_of l.head.cmd) keyed;
    }

-- what the authentication part vouches for, and the frame with another one
pub vouched_for : (l : PlainMessage) (auth : List ℕ) → length auth ≡ 28
    → before_auth (frame_with auth l) ≡ header l.head (frame_len l) ++ body l.content
vouched_for l auth len =
    let front : List ℕ = header l.head (frame_len l) ++ body l.content in
    let size : length (front ++ auth) - 28 ≡ length front = omega (arith, length-append front auth) in
    rw size (take_at front auth (length front) refl)

pub signed_frame : (l : PlainMessage) (auth hash : List ℕ) (id : ℕ) → length auth ≡ 28
    → signed (frame_with auth l) id hash ≡ frame_with (word id ++ hash) l
signed_frame l auth hash id len =
    ap (λ (front : List ℕ). front ++ (word id ++ hash)) (vouched_for l auth len)
