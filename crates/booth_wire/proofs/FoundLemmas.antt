-- What is read is spelled so, and fits.
use Rattle.std.proofs.Common.{◌≡◌, ℕ, ◌+◌, ◌-◌, ◌≤◌, Bool, true, false, cond, not, ◌&&◌, ltb, ◌==◌, List, [], ◌∷◌, ◌++◌, length, drop, Option, Some, None, Result, Ok, Err, refl, sym, ap, subst, ◌∙◌, append_assoc, arith, ◌⊎◌, inl, inr}
use Rattle.std.specs.Prelude.{◌||◌, nat_lt, nat_le, is_none, unwrap_or, ok_or, option_map, IfOk, IfSome}
use Rattle.std.specs.List.{find, list_all}
use Rattle.std.proofs.lemmas.Bool.{eqb-true, ltb-false, leb-true}
use Rattle.std.proofs.lemmas.List.{append-nil, drop_all, length-drop}
use Rattle.std.proofs.lemmas.Option.{cond_some}
use Rattle.booth_base.specs.Name.{is_name, is_line_byte}
use Rattle.booth_wire.specs.declared.command.Cmd.{Cmd}
use Rattle.booth_wire.specs.declared.command.Kind.{Kind}
use Rattle.booth_wire.specs.declared.command.Kind.TheVariants as kinds
use Rattle.booth_wire.specs.declared.message.Head.{Head}
use Rattle.booth_wire.specs.declared.message.Message.{Message}
use Rattle.booth_wire.specs.declared.message.FrameFault.{FrameFault}
use Rattle.booth_wire.specs.declared.message.FrameFault.TheVariants as faults
use Rattle.booth_wire.specs.Command.{code_of, cmd_of, kind_of, all_cmds}
use Rattle.booth_wire.specs.PlainMessage.{Content, Bare, Attr, Text, PlainMessage, plain_of, kind_in, names_none, is_same, is_named, has_text}
use Rattle.booth_wire.specs.Layout.{opts_of, auth_len, word_at, field_at, word, padded_to}
use Rattle.booth_wire.specs.Reading.{◌>>=◌, are_zeros, name_in, value_in, auth_in, head_at, head_read, has_size, body_read, ticket_with, ticket_in, attr_name_in, attr_with, attr_in, text_in, content_in, decoded, Gives}
use Rattle.booth_wire.specs.Spelling.{HeadFits, PartFits, Fits, header, body, body_len, frame_len, frame_with, Spells}
use Rattle.booth_wire.proofs.ByteLemmas.{IsBytes, IsBytes-drop, IsBytes-take, and_split, Takes, Takes-then, field_len, field_next, word_next, word_small, name_next, value_next, zeros_next}

-- ---- steps that led to no fault

bind_ok : {A B : Type 0} (r : Result A FrameFault) (f : A → Result B FrameFault) (y : B)
    → (r >>= f) ≡ Ok y → (x : A) × (r ≡ Ok x) × (f x ≡ Ok y)
bind_ok (Ok x) f y h = (x, refl, h)
bind_ok (Err e) f y h = absurd cc

ok_or_ok : {A : Type 0} (o : Option A) (e : FrameFault) (x : A) → ok_or o e ≡ Ok x → o ≡ Some x
ok_or_ok None e x h = absurd cc
ok_or_ok (Some y) e x h = cc

passed : {A : Type 0} (b : Bool) (f : FrameFault) (r : Result A FrameFault) (x : A)
    → cond b (Err f) r ≡ Ok x → (b ≡ false) × (r ≡ Ok x)
passed true f r x h = absurd cc
passed false f r x h = (refl, h)

allowed : {A : Type 0} (b : Bool) (f : FrameFault) (x y : A) → cond b (Ok x) (Err f) ≡ Ok y
    → (b ≡ true) × (x ≡ y)
allowed true f x y h = (refl, cc)
allowed false f x y h = absurd cc

not_false : (b : Bool) → not b ≡ false → b ≡ true
not_false true h = refl
not_false false h = absurd cc

or_false : (a b : Bool) → a || b ≡ false → (a ≡ false) × (b ≡ false)
or_false true b h = absurd cc
or_false false b h = (refl, h)

mapped : {A B : Type 0} (f : A → B) (o : Option A) (y : B) → option_map f o ≡ Some y
    → (x : A) × (o ≡ Some x) × (f x ≡ y)
mapped f None y h = absurd cc
mapped f (Some x) y h = (x, refl, cc)

-- ---- the header

find_step : {X : Type 0} (b : Bool) (y x : X) (r : Option X) → cond b (Some y) r ≡ Some x
    → ((b ≡ true) × (y ≡ x)) ⊎ (r ≡ Some x)
find_step true y x r h = inl (refl, cc)
find_step false y x r h = inr h

find_holds : {X : Type 0} (p : X → Bool) (xs : List X) (x : X) → find p xs ≡ Some x → p x ≡ true
find_holds p [] x h = absurd cc
find_holds p (y ∷ ys) x h =
    elim (find_step (p y) y x (find p ys) h) [
      | inl e ↦ rw (← e.1) e.0
      | inr r ↦ find_holds p ys x r
    ]

code_is : (n : ℕ) (cmd : Cmd) → cmd_of n ≡ Some cmd → code_of cmd ≡ n
code_is n cmd h = eqb-true _ _ (find_holds (λ c. code_of c == n) all_cmds cmd h)

opts_step : (a b : Bool) (auth : Bool) → cond a (Some false) (cond b (Some true) None) ≡ Some auth
    → ((a ≡ true) × (auth ≡ false)) ⊎ ((b ≡ true) × (auth ≡ true))
opts_step true b auth h = inl (refl, cc)
opts_step false true auth h = inr (refl, cc)
opts_step false false auth h = absurd cc

opts_are : (kind : Kind) (opts : ℕ) (auth : Bool) → auth_in kind opts ≡ Some auth
    → opts ≡ opts_of auth kind
opts_are kind opts auth h =
    elim (opts_step (opts == opts_of false kind) (opts == opts_of true kind) auth h) [
      | inl plain ↦ rw plain.1 (eqb-true _ _ plain.0)
      | inr keyed ↦ rw keyed.1 (eqb-true _ _ keyed.0)
    ]

header_takes : (bytes : List ℕ) → IsBytes bytes → 48 ≤ length bytes
    → bytes ≡ (word (word_at 0 bytes) ++ word (word_at 4 bytes) ++ word (word_at 8 bytes)
    ++ word (word_at 12 bytes) ++ word (word_at 16 bytes) ++ word (word_at 20 bytes)
    ++ word (word_at 24 bytes) ++ word (word_at 28 bytes) ++ word (word_at 32 bytes)
    ++ word (word_at 36 bytes) ++ word (word_at 40 bytes) ++ word (word_at 44 bytes)) ++ drop 48 bytes
header_takes bytes are long =
    let next : (at : ℕ) → at ≤ 44
    → Takes (drop at bytes) (word (word_at at bytes)) (drop (at + 4) bytes) =
    λ at le. word_next at bytes are (omega arith) in
    let t1 = Takes-then _ _ _ _ _ (next 0 (omega arith)) (next 4 (omega arith)) in
    let t2 = Takes-then _ _ _ _ _ t1 (next 8 (omega arith)) in
    let t3 = Takes-then _ _ _ _ _ t2 (next 12 (omega arith)) in
    let t4 = Takes-then _ _ _ _ _ t3 (next 16 (omega arith)) in
    let t5 = Takes-then _ _ _ _ _ t4 (next 20 (omega arith)) in
    let t6 = Takes-then _ _ _ _ _ t5 (next 24 (omega arith)) in
    let t7 = Takes-then _ _ _ _ _ t6 (next 28 (omega arith)) in
    let t8 = Takes-then _ _ _ _ _ t7 (next 32 (omega arith)) in
    let t9 = Takes-then _ _ _ _ _ t8 (next 36 (omega arith)) in
    let t10 = Takes-then _ _ _ _ _ t9 (next 40 (omega arith)) in
    (Takes-then _ _ _ _ _ t10 (next 44 (omega arith))).parts

-- a header that was read
record HeadTaken (bytes : List ℕ) (h : Head) : Type 0 where
  pub long : 48 ≤ length bytes
  pub fits : HeadFits h
  pub parts : bytes ≡ header h (length bytes) ++ drop 48 bytes

head_fits : (auth : Bool) (cmd : Cmd) (bytes : List ℕ) → IsBytes bytes
    → HeadFits (head_at auth cmd bytes)
head_fits auth cmd bytes are = record {
  secs = word_small 4 bytes are;
  usecs = word_small 8 bytes are;
  from = word_small 20 bytes are;
  request = word_small 32 bytes are;
  options = word_small 36 bytes are;
  reason = word_small 40 bytes are;
  result = word_small 44 bytes are;
}

-- twelve numbers, of which five are known, are that header
head_parts : (auth : Bool) (cmd : Cmd) (bytes : List ℕ) → IsBytes bytes → 48 ≤ length bytes
    → word_at 12 bytes ≡ 0x5F1BA08C → word_at 16 bytes ≡ 0x00010003
    → word_at 24 bytes ≡ length bytes → code_of cmd ≡ word_at 28 bytes
    → word_at 0 bytes ≡ opts_of auth (kind_of cmd)
    → bytes ≡ header (head_at auth cmd bytes) (length bytes) ++ drop 48 bytes
unfolding header
head_parts auth cmd bytes are long magic version count code opts =
    rw (magic, version, count, ← code, opts) at (header_takes bytes are long)

head_taken : (bytes : List ℕ) (h : Head) → IsBytes bytes → head_read bytes ≡ Ok h → HeadTaken bytes h
head_taken bytes h are read =
    let a = passed (ltb (length bytes) 48) _ _ h read in
    let b = passed (not (word_at 12 bytes == 0x5F1BA08C)) _ _ h a.1 in
    let c = passed (not (word_at 16 bytes == 0x00010003)) _ _ h b.1 in
    let d = passed (not (word_at 24 bytes == length bytes) || nat_lt 16460 (length bytes)) _ _ h c.1 in
    let e =
    bind_ok (ok_or (cmd_of (word_at 28 bytes)) faults.Command)
    (λ cmd. ok_or (auth_in (kind_of cmd) (word_at 0 bytes)) faults.Command
    >>= λ auth. Ok (head_at auth cmd bytes)) h d.1 in
    let f =
    bind_ok (ok_or (auth_in (kind_of e.0) (word_at 0 bytes)) faults.Command)
    (λ auth. Ok (head_at auth e.0 bytes)) h e.2 in
    let long : 48 ≤ length bytes = ltb-false _ _ a.0 in
    let code : code_of e.0 ≡ word_at 28 bytes =
    code_is (word_at 28 bytes) e.0 (ok_or_ok (cmd_of (word_at 28 bytes)) faults.Command e.0 e.1) in
    let opts : word_at 0 bytes ≡ opts_of f.0 (kind_of e.0) =
    opts_are (kind_of e.0) (word_at 0 bytes) f.0
    (ok_or_ok (auth_in (kind_of e.0) (word_at 0 bytes)) faults.Command f.0 f.1) in
    let parts : bytes ≡ header (head_at f.0 e.0 bytes) (length bytes) ++ drop 48 bytes =
    head_parts f.0 e.0 bytes are long (eqb-true _ _ (not_false _ b.0)) (eqb-true _ _ (not_false _ c.0))
    (eqb-true _ _ (not_false _ (or_false _ _ d.0).0)) code opts in
    let is : head_at f.0 e.0 bytes ≡ h = cc (f.2) in
    subst (λ (x : Head). HeadTaken bytes x) {x = head_at f.0 e.0 bytes} is
    (record { long = long; fits = head_fits f.0 e.0 bytes are; parts = parts })

-- ---- the body

-- a content that was read
record ContentTaken (cmd : Cmd) (inner : List ℕ) (c : Content) : Type 0 where
  pub kind : kind_in c ≡ kind_of cmd
  pub named : is_named cmd c ≡ true
  pub text : has_text c ≡ true
  pub fits : PartFits c
  pub count : body_len c ≡ length inner
  pub parts : inner ≡ body c

-- all of the bytes were taken
whole : (bytes text : List ℕ) (n : ℕ) → length bytes ≡ n → Takes bytes text (drop n bytes)
    → bytes ≡ text
whole bytes text n len taken =
    taken.parts ∙ rw (drop_all n bytes (omega (arith, len)), append-nil text) refl

ticket_taken : (cmd : Cmd) (bytes : List ℕ) (c : Content) → IsBytes bytes → length bytes ≡ 76
    → kinds.Ticket ≡ kind_of cmd → ticket_in bytes ≡ Some c → ContentTaken cmd bytes c
ticket_taken cmd bytes c are len kind h =
    let t = mapped (ticket_with bytes) (name_in (field_at 0 64 bytes)) c h in
    let name = name_next 0 64 bytes t.0 (omega arith) t.1 in
    let p1 = Takes-then _ _ _ _ _ name.taken (word_next 64 bytes are (omega arith)) in
    let p2 = Takes-then _ _ _ _ _ p1 (word_next 68 bytes are (omega arith)) in
    let p3 = Takes-then _ _ _ _ _ p2 (word_next 72 bytes are (omega arith)) in
    subst (λ (x : Content). ContentTaken cmd bytes x) t.2 (record {
      kind = kind;
      named = refl;
      text = refl;
      fits =
          record {
            ticket = name.form;
            leader = word_small 64 bytes are;
            term = word_small 68 bytes are;
            valid_for = word_small 72 bytes are;
          };
      count = sym len;
      parts = whole bytes (body (ticket_with bytes t.0)) 76 len p3;
    })

-- the name of an attribute, or none where the command names none
record NameTaken (none : Bool) (bytes : List ℕ) (name : Option (List ℕ)) : Type 0 where
  pub named : is_same none (is_none name) ≡ true
  pub form : IfSome name (λ text. is_name text ≡ true)
  pub taken : Takes (drop 64 bytes) (padded_to 64 (unwrap_or name [])) (drop 128 bytes)

name_taken : (none : Bool) (bytes : List ℕ) (name : Option (List ℕ)) → 128 ≤ length bytes
    → cond none (cond (are_zeros (field_at 64 64 bytes)) (Some None) None)
    (option_map (λ text. Some text) (name_in (field_at 64 64 bytes))) ≡ Some name
    → NameTaken none bytes name
name_taken true bytes name here h =
    let blank : Option (List ℕ) = None in
    let g = cond_some (are_zeros (field_at 64 64 bytes)) blank name h in
    subst (λ (x : Option (List ℕ)). NameTaken true bytes x) g.1
    (record { named = refl; form = tt; taken = zeros_next 64 64 bytes here g.0 })
name_taken false bytes name here h =
    let some : List ℕ → Option (List ℕ) = λ text. Some text in
    let g = mapped some (name_in (field_at 64 64 bytes)) name h in
    let read = name_next 64 64 bytes g.0 here g.1 in
    subst (λ (x : Option (List ℕ)). NameTaken false bytes x) g.2
    (record { named = refl; form = read.form; taken = read.taken })

attr_is : (o : Option (List ℕ)) (name : Option (Option (List ℕ))) (value : Option (List ℕ))
    (c : Content) → attr_with o name value ≡ Some c
    → (x : List ℕ) × (y : Option (List ℕ)) × (z : List ℕ) × (o ≡ Some x) × (name ≡ Some y)
    × (value ≡ Some z) × (Attr (record { ticket = x; name = y; value = z }) ≡ c)
attr_is None name value c h = absurd cc
attr_is (Some x) None value c h = absurd cc
attr_is (Some x) (Some y) None c h = absurd cc
attr_is (Some x) (Some y) (Some z) c h = (x, y, z, refl, refl, refl, cc)

attr_taken : (cmd : Cmd) (bytes : List ℕ) (c : Content) → length bytes ≡ 256 → kinds.Attr ≡ kind_of cmd
    → attr_in cmd bytes ≡ Some c → ContentTaken cmd bytes c
attr_taken cmd bytes c len kind h =
    let t =
    attr_is (name_in (field_at 0 64 bytes)) (attr_name_in cmd (field_at 64 64 bytes))
    (value_in (field_at 128 128 bytes)) c h in
    let ticket = name_next 0 64 bytes t.0 (omega arith) t.3 in
    let name = name_taken (names_none cmd) bytes t.1 (omega arith) t.4 in
    let value = value_next 128 128 bytes t.2 (omega arith) t.5 in
    let p1 = Takes-then _ _ _ _ _ ticket.taken name.taken in
    let p2 = Takes-then _ _ _ _ _ p1 value.taken in
    subst (λ (x : Content). ContentTaken cmd bytes x) t.6 (record {
      kind = kind;
      named = name.named;
      text = refl;
      fits = record { ticket = ticket.form; name = name.form; value = value.form };
      count = sym len;
      parts = whole bytes (body (Attr (record { ticket = t.0; name = t.1; value = t.2 }))) 256 len p2;
    })

text_taken : (cmd : Cmd) (bytes : List ℕ) (c : Content) → nat_le (length bytes) 16384 ≡ true
    → kinds.Text ≡ kind_of cmd → text_in bytes ≡ Some c → ContentTaken cmd bytes c
text_taken cmd bytes c short kind h =
    let g = cond_some (list_all is_line_byte bytes) (Text bytes) c h in
    subst (λ (x : Content). ContentTaken cmd bytes x) g.1
    (record { kind = kind; named = refl; text = rw short g.0; fits = tt; count = refl; parts = refl })

bare_taken : (cmd : Cmd) (bytes : List ℕ) (c : Content) → length bytes ≡ 0 → kinds.Bare ≡ kind_of cmd
    → Some Bare ≡ Some c → ContentTaken cmd bytes c
bare_taken cmd bytes c none kind h =
    let is : Bare ≡ c = cc in
    let parts : bytes ≡ [] = drop_all 0 bytes (omega (arith, none)) in
    subst (λ (x : Content). ContentTaken cmd bytes x) is
    (record { kind = kind; named = refl; text = refl; fits = tt; count = sym none; parts = parts })

content_taken : (cmd : Cmd) (kind : Kind) (bytes : List ℕ) (c : Content) → IsBytes bytes
    → has_size kind (length bytes) ≡ true → kind ≡ kind_of cmd → content_in cmd kind bytes ≡ Some c
    → ContentTaken cmd bytes c
content_taken cmd kinds.Bare bytes c are size kind h = bare_taken cmd bytes c (eqb-true _ _ size) kind h
content_taken cmd kinds.Ticket bytes c are size kind h =
    ticket_taken cmd bytes c are (eqb-true _ _ size) kind h
content_taken cmd kinds.Attr bytes c are size kind h = attr_taken cmd bytes c (eqb-true _ _ size) kind h
content_taken cmd kinds.Text bytes c are size kind h = text_taken cmd bytes c size kind h

-- the bytes between header and authentication part, and those of the latter
record BodyTaken (h : Head) (bytes inner : List ℕ) : Type 0 where
  pub auth : List ℕ
  pub size : has_size (kind_of h.cmd) (length inner) ≡ true
  pub rest : length auth ≡ auth_len h.auth
  pub are : IsBytes inner
  pub parts : drop 48 bytes ≡ inner ++ auth
  pub count : length bytes ≡ 48 + length inner + auth_len h.auth

body_taken : (h : Head) (bytes inner : List ℕ) → IsBytes bytes → body_read h bytes ≡ Ok inner
    → BodyTaken h bytes inner
body_taken h bytes inner are read =
    let around : ℕ = 48 + auth_len h.auth in
    let size : ℕ = length bytes - around in
    let g =
    allowed (nat_le around (length bytes) && has_size (kind_of h.cmd) size) faults.Size
    (field_at 48 size bytes) inner read in
    let both = and_split (nat_le around (length bytes)) (has_size (kind_of h.cmd) size) g.0 in
    let here : around ≤ length bytes = leb-true _ _ both.0 in
    let len : length (field_at 48 size bytes) ≡ size = field_len 48 size bytes (omega arith) in
    subst (λ (x : List ℕ). BodyTaken h bytes x) g.1 (record {
      auth = drop (48 + size) bytes;
      size = rw len both.1;
      rest = omega (arith, length-drop (48 + size) bytes);
      are = IsBytes-take size (drop 48 bytes) (IsBytes-drop 48 bytes are);
      parts = (field_next 48 size bytes).parts;
      count = omega (arith, len);
    })

-- ---- the message

pub record IsFound (bytes : List ℕ) (l : PlainMessage) : Type 0 where
  pub count : length bytes ≡ frame_len l
  pub spells : Spells bytes l
  pub fits : Fits l

found_parts : (bytes inner : List ℕ) (h : Head) (c : Content) → HeadTaken bytes h
    → BodyTaken h bytes inner → ContentTaken h.cmd inner c
    → IsFound bytes (record { head = h; content = c })
found_parts bytes inner h c head between content =
    let l : PlainMessage = record { head = h; content = c } in
    let count : length bytes ≡ frame_len l = omega (arith, between.count, content.count) in
    let parts : bytes ≡ frame_with between.auth l =
    head.parts ∙ ap (λ (r : List ℕ). header h (length bytes) ++ r)
    (between.parts ∙ ap (λ (x : List ℕ). x ++ between.auth) content.parts)
    ∙ sym (append_assoc (header h (length bytes)) (body c) between.auth)
    ∙ ap (λ (n : ℕ). header h n ++ body c ++ between.auth) count in
    record {
      count = count;
      spells = record { auth = between.auth; size = between.rest; parts = parts };
      fits =
          record {
            head = head.fits;
            part = content.fits;
            kind = content.kind;
            named = content.named;
            text = content.text;
          };
    }

pub is_found : (bytes : List ℕ) (l : PlainMessage) → IsBytes bytes → decoded bytes ≡ Ok l → IsFound bytes l
is_found bytes l are read =
    let a =
    bind_ok (head_read bytes)
    (λ h. body_read h bytes >>= λ inner. ok_or (content_in h.cmd (kind_of h.cmd) inner) faults.Name
    >>= λ c. Ok (record { head = h; content = c })) l read in
    let b =
    bind_ok (body_read a.0 bytes)
    (λ inner. ok_or (content_in a.0.cmd (kind_of a.0.cmd) inner) faults.Name
    >>= λ c. Ok (record { head = a.0; content = c })) l a.2 in
    let c =
    bind_ok (ok_or (content_in a.0.cmd (kind_of a.0.cmd) b.0) faults.Name)
    (λ c. Ok (record { head = a.0; content = c })) l b.2 in
    let head = head_taken bytes a.0 are a.1 in
    let between = body_taken a.0 bytes b.0 are b.1 in
    let content =
    content_taken a.0.cmd (kind_of a.0.cmd) b.0 c.0 between.are between.size refl
    (ok_or_ok (content_in a.0.cmd (kind_of a.0.cmd) b.0) faults.Name c.0 c.1) in
    let made : PlainMessage = record { head = a.0; content = c.0 } in
    let is : made ≡ l = cc (c.2) in
    subst (λ (x : PlainMessage). IsFound bytes x) {x = made} is
    (found_parts bytes b.0 a.0 c.0 head between content)

pub message_spells : (bytes : List ℕ) (r : Result Message FrameFault) → IsBytes bytes
    → Gives r (decoded bytes) → IfOk r (λ m. Spells bytes (plain_of m))
message_spells bytes (Ok m) are given = (is_found bytes (plain_of m) are given).spells
message_spells bytes (Err f) are given = tt

pub message_fits : (bytes : List ℕ) (r : Result Message FrameFault) → IsBytes bytes
    → Gives r (decoded bytes) → IfOk r (λ m. Fits (plain_of m))
message_fits bytes (Ok m) are given = (is_found bytes (plain_of m) are given).fits
message_fits bytes (Err f) are given = tt

pub message_len : (bytes : List ℕ) (r : Result Message FrameFault) → IsBytes bytes
    → Gives r (decoded bytes) → IfOk r (λ m. length bytes ≡ frame_len (plain_of m))
message_len bytes (Ok m) are given = (is_found bytes (plain_of m) are given).count
message_len bytes (Err f) are given = tt
