-- What the bytes of a message say of who sent it, and of what it is.
use Rattle.std.proofs.Common.{◌≡◌, ℕ, ◌^◌, ◌<◌, Bool, true, false, List, Option, Some, None, Result, Ok, Err, refl, sym, ap, subst, ◌∙◌, if◌then◌else◌}
use Rattle.std.specs.Prelude.{ok_or}
use Rattle.std.proofs.lemmas.Nat.{from_be_bytes-to_be_bytes_4}
use Rattle.booth_wire.specs.declared.command.Cmd.{Cmd}
use Rattle.booth_wire.specs.declared.command.Cmd.TheVariants.{CGnt, CRvk}
use Rattle.booth_wire.specs.declared.command.Direction.TheVariants.{ToDaemon, BetweenMembers}
use Rattle.booth_wire.specs.declared.message.FrameFault.{FrameFault}
use Rattle.booth_wire.specs.declared.message.FrameFault.TheVariants as faults
use Rattle.booth_wire.specs.declared.message.Head.{Head}
use Rattle.booth_wire.specs.Command.{cmd_of, direction_of, kind_of}
use Rattle.booth_wire.specs.Layout.{word, word_at}
use Rattle.booth_wire.specs.PlainMessage.{PlainMessage}
use Rattle.booth_wire.specs.Reading.{◌>>=◌, auth_in, body_read, content_in, decoded, head_at, head_read}
use Rattle.booth_wire.specs.Spelling.{header}
use Rattle.booth_auth.specs.Sealed.{sealed}
use Rattle.booth_sim.specs.Happenings.{request}

bind_ok : {A B : Type 0} (r : Result A FrameFault) (f : A → Result B FrameFault) (y : B) → (r >>= f) ≡ Ok y
    → (x : A) × (r ≡ Ok x) × (f x ≡ Ok y)
bind_ok (Ok x) f y h = (x, refl, h)
bind_ok (Err e) f y h = absurd cc

ok_or_ok : {A : Type 0} (o : Option A) (e : FrameFault) (x : A) → ok_or o e ≡ Ok x → o ≡ Some x
ok_or_ok None e x h = absurd cc
ok_or_ok (Some y) e x h = cc

passed : (test : Bool) (fault : FrameFault) (rest : Result Head FrameFault) (h : Head) → (if test then Err fault else rest) ≡ Ok h → rest ≡ Ok h
passed true fault rest h e = absurd cc
passed false fault rest h e = e

-- a head that is read of these bytes
abbrev IsHead : List ℕ → Head → Type 0
IsHead bytes h = (h.from.0 ≡ word_at 20 bytes) × (cmd_of (word_at 28 bytes) ≡ Some h.cmd)

rest_read : (bytes : List ℕ) (h : Head)
    → (ok_or (cmd_of (word_at 28 bytes)) faults.Command >>= λ cmd. ok_or (auth_in (kind_of cmd) (word_at 0 bytes)) faults.Command
    >>= λ auth. Ok (head_at auth cmd bytes)) ≡ Ok h
    → IsHead bytes h
rest_read bytes h e =
    let a = bind_ok (ok_or (cmd_of (word_at 28 bytes)) faults.Command)
    (λ cmd. ok_or (auth_in (kind_of cmd) (word_at 0 bytes)) faults.Command >>= λ auth. Ok (head_at auth cmd bytes)) h e in
    let b = bind_ok (ok_or (auth_in (kind_of a.0) (word_at 0 bytes)) faults.Command) (λ auth. Ok (head_at auth a.0 bytes)) h a.2 in
    let is : head_at b.0 a.0 bytes ≡ h = cc (b.2) in
    subst (λ (x : Head). IsHead bytes x) is (refl, ok_or_ok (cmd_of (word_at 28 bytes)) faults.Command a.0 a.1)

head_is : (bytes : List ℕ) (h : Head) → head_read bytes ≡ Ok h → IsHead bytes h
head_is bytes h e =
    rest_read bytes h
    (passed _ faults.Length _ h (passed _ faults.Version _ h (passed _ faults.Magic _ h (passed _ faults.Short _ h e))))

pub read_head : (bytes : List ℕ) (l : PlainMessage) → decoded bytes ≡ Ok l
    → (l.head.from.0 ≡ word_at 20 bytes) × (cmd_of (word_at 28 bytes) ≡ Some l.head.cmd)
read_head bytes l read =
    let a = bind_ok (head_read bytes)
    (λ h. body_read h bytes >>= λ inner. ok_or (content_in h.cmd (kind_of h.cmd) inner) faults.Name
    >>= λ c. Ok (record { head = h; content = c })) l read in
    let b = bind_ok (body_read a.0 bytes)
    (λ inner. ok_or (content_in a.0.cmd (kind_of a.0.cmd) inner) faults.Name
    >>= λ c. Ok (record { head = a.0; content = c })) l a.2 in
    let c = bind_ok (ok_or (content_in a.0.cmd (kind_of a.0.cmd) b.0) faults.Name) (λ c. Ok (record { head = a.0; content = c })) l b.2 in
    let made : PlainMessage = record { head = a.0; content = c.0 } in
    let is : made ≡ l = cc (c.2) in
    subst (λ (x : PlainMessage). IsHead bytes x.head) {x = made} is (head_is bytes a.0 a.1)

-- the sender stands in the bytes that are sent
pub sent_from : (l : PlainMessage) → l.head.from.0 < 2 ^ 32 → word_at 20 (sealed None l) ≡ l.head.from.0
unfolding header word
sent_from l small = from_be_bytes-to_be_bytes_4 l.head.from.0 small

-- a client's request is no member's message
grant_code : (ticket : List ℕ) (event : ℕ) → cmd_of (word_at 28 (sealed None (request CGnt ticket event))) ≡ Some CGnt
unfolding header word
grant_code ticket event = refl

revoke_code : (ticket : List ℕ) (event : ℕ) → cmd_of (word_at 28 (sealed None (request CRvk ticket event))) ≡ Some CRvk
unfolding header word
revoke_code ticket event = refl

same_cmd : (a b : Cmd) → Some a ≡ Some b → a ≡ b
same_cmd a b e = cc

apart : ToDaemon ≡ BetweenMembers → ⊥
apart e = cc

pub grant_is_a_clients : (ticket : List ℕ) (event : ℕ) (l : PlainMessage) → decoded (sealed None (request CGnt ticket event)) ≡ Ok l
    → direction_of l.head.cmd ≡ BetweenMembers → ⊥
grant_is_a_clients ticket event l read between =
    let is = same_cmd CGnt l.head.cmd (sym (grant_code ticket event) ∙ (read_head (sealed None (request CGnt ticket event)) l read).1) in
    apart (ap direction_of is ∙ between)

pub revoke_is_a_clients : (ticket : List ℕ) (event : ℕ) (l : PlainMessage) → decoded (sealed None (request CRvk ticket event)) ≡ Ok l
    → direction_of l.head.cmd ≡ BetweenMembers → ⊥
revoke_is_a_clients ticket event l read between =
    let is = same_cmd CRvk l.head.cmd (sym (revoke_code ticket event) ∙ (read_head (sealed None (request CRvk ticket event)) l read).1) in
    apart (ap direction_of is ∙ between)
