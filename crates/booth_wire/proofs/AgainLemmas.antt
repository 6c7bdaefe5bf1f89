-- What is spelled so is read.
use Rattle.std.proofs.Common.{◌≡◌, ℕ, zero, suc, ◌+◌, ◌-◌, ◌^◌, ◌<◌, ◌≤◌, Bool, true, false, cond, not, ◌&&◌, ◌==◌, ltb, List, [], ◌∷◌, ◌++◌, length, take, drop, replicate, Option, Some, None, Ok, Err, refl, sym, ap, subst, ◌∙◌, append_assoc, arith, rules}
use Rattle.std.specs.Prelude.{nat_le, nat_lt, is_none, unwrap_or, option_map, IfSome}
use Rattle.std.specs.List.{list_all, prefix_len}
use Rattle.std.proofs.lemmas.Bool.{leb-true, le-leb, le-ltb, ltb-true}
use Rattle.std.proofs.lemmas.Bool.Decides.{nat_tests}
use Rattle.std.proofs.lemmas.List.{take_at, drop_at, drop-drop, append-nil, length-append}
use Rattle.std.proofs.lemmas.Nat.{from_be_bytes-to_be_bytes_4}
use Rattle.booth_base.specs.Name.{is_name_byte, is_text_byte, is_name, is_value, is_line_byte}
use Rattle.booth_wire.specs.declared.command.Cmd.{Cmd}
use Rattle.booth_wire.specs.declared.command.Kind.{Kind}
use Rattle.booth_wire.specs.declared.message.Head.{Head}
use Rattle.booth_wire.specs.declared.message.TicketPart.{TicketPart}
use Rattle.booth_wire.specs.declared.message.AttrPart.{AttrPart}
use Rattle.booth_wire.specs.declared.message.FrameFault.{FrameFault}
use Rattle.booth_wire.specs.Command.{code_of, cmd_of, kind_of}
use Rattle.booth_wire.specs.PlainMessage.{Content, Bare, Ticket, Attr, Text, PlainMessage, kind_in, names_none, is_same, is_named, has_text}
use Rattle.booth_wire.specs.Layout.{opts_of, auth_len, word_at, word, padded_to}
use Rattle.booth_wire.specs.Reading.{text_of, are_zeros, is_padded, name_in, value_in, auth_in, head_read, has_size, body_read, ticket_in, attr_in, content_in, decoded}
use Rattle.booth_wire.specs.Spelling.{HeadFits, TicketFits, AttrFits, PartFits, Fits, header, body, body_len, frame_len, frame_with, blank_auth, spelling, Spells}
use Rattle.booth_wire.proofs.ByteLemmas.{and_split, len_word, word_again, zeros_again, len_padded}

-- ---- the header

code_small : (cmd : Cmd) → ltb (code_of cmd) 4294967296 ≡ true
code_small cmd = search rules

cmd_again : (cmd : Cmd) → cmd_of (code_of cmd) ≡ Some cmd
cmd_again cmd = search rules

opts_small : (auth : Bool) (kind : Kind) → ltb (opts_of auth kind) 4294967296 ≡ true
opts_small true kind = search rules
opts_small false kind = search rules

auth_again : (kind : Kind) (auth : Bool) → auth_in kind (opts_of auth kind) ≡ Some auth
auth_again kind true = search rules
auth_again kind false = search rules

-- each number of a header is read as it was written
record HeaderAgain (bytes : List ℕ) (h : Head) (n : ℕ) : Type 0 where
  pub opts : word_at 0 bytes ≡ opts_of h.auth (kind_of h.cmd)
  pub secs : word_at 4 bytes ≡ h.secs
  pub usecs : word_at 8 bytes ≡ h.usecs
  pub magic : word_at 12 bytes ≡ 0x5F1BA08C
  pub version : word_at 16 bytes ≡ 0x00010003
  pub from : word_at 20 bytes ≡ h.from.0
  pub count : word_at 24 bytes ≡ n
  pub code : word_at 28 bytes ≡ code_of h.cmd
  pub request : word_at 32 bytes ≡ h.request
  pub options : word_at 36 bytes ≡ h.options
  pub reason : word_at 40 bytes ≡ h.reason
  pub result : word_at 44 bytes ≡ h.result

header_again : (h : Head) (n : ℕ) (rest : List ℕ) → HeadFits h → n < 2 ^ 32
    → HeaderAgain (header h n ++ rest) h n
unfolding header word
header_again h n rest fits small = record {
  opts =
      from_be_bytes-to_be_bytes_4 (opts_of h.auth (kind_of h.cmd))
      (ltb-true _ _ (opts_small h.auth (kind_of h.cmd)));
  secs = from_be_bytes-to_be_bytes_4 h.secs fits.secs;
  usecs = from_be_bytes-to_be_bytes_4 h.usecs fits.usecs;
  magic = refl;
  version = refl;
  from = from_be_bytes-to_be_bytes_4 h.from.0 fits.from;
  count = from_be_bytes-to_be_bytes_4 n small;
  code = from_be_bytes-to_be_bytes_4 (code_of h.cmd) (ltb-true _ _ (code_small h.cmd));
  request = from_be_bytes-to_be_bytes_4 h.request fits.request;
  options = from_be_bytes-to_be_bytes_4 h.options fits.options;
  reason = from_be_bytes-to_be_bytes_4 h.reason fits.reason;
  result = from_be_bytes-to_be_bytes_4 h.result fits.result;
}

pub first_word : (h : Head) (n : ℕ) (rest : List ℕ)
    → word_at 0 (header h n ++ rest) ≡ opts_of h.auth (kind_of h.cmd)
unfolding header word
first_word h n rest =
    from_be_bytes-to_be_bytes_4 (opts_of h.auth (kind_of h.cmd))
    (ltb-true _ _ (opts_small h.auth (kind_of h.cmd)))

header_rest : (h : Head) (n : ℕ) (rest : List ℕ) → drop 48 (header h n ++ rest) ≡ rest
unfolding header word
header_rest h n rest = refl

pub len_header : (h : Head) (n : ℕ) → length (header h n) ≡ 48
unfolding header word
len_header h n = refl

eqb_self : (n : ℕ) → (n == n) ≡ true
eqb_self n = grind (arith, nat_tests)

head_again : (bytes : List ℕ) (h : Head) → HeaderAgain bytes h (length bytes) → 48 ≤ length bytes
    → length bytes ≤ 16460 → head_read bytes ≡ Ok h
head_again bytes h w long short =
    let not_short : nat_lt (length bytes) 48 ≡ false = le-ltb _ _ long in
    let not_long : nat_lt 16460 (length bytes) ≡ false = le-ltb _ _ short in
    rw (
      not_short,
      w.magic,
      w.version,
      w.count,
      eqb_self (length bytes),
      not_long,
      w.code,
      cmd_again h.cmd,
      w.opts,
      auth_again (kind_of h.cmd) h.auth,
      w.secs,
      w.usecs,
      w.from,
      w.request,
      w.options,
      w.reason,
      w.result,
    ) refl

-- ---- names and values

name_byte_stays : (b : ℕ) → is_name_byte b ≡ true → not (b == 0) ≡ true
name_byte_stays b h = grind (arith, nat_tests)

text_byte_stays : (b : ℕ) → is_text_byte b ≡ true → not (b == 0) ≡ true
text_byte_stays b h = grind (arith, nat_tests)

-- a text without zeros ends where its zeros begin
text_len_again : (p : ℕ → Bool) (stays : (b : ℕ) → p b ≡ true → not (b == 0) ≡ true) (text : List ℕ)
    (k : ℕ) → list_all p text ≡ true
    → prefix_len (λ b. not (b == 0)) (text ++ replicate {A = ℕ} k 0) ≡ length text
text_len_again p stays [] zero h = refl
text_len_again p stays [] (suc k) h = refl
text_len_again p stays (b ∷ bs) k h =
    let both = and_split (p b) (list_all p bs) h in
    let more = text_len_again p stays bs k both.1 in
    rw (stays b both.0) (omega (arith, more))

-- a padded field has its text again
record PaddedAgain (n : ℕ) (text : List ℕ) : Type 0 where
  pub text-is : text_of (padded_to n text) ≡ text
  pub zeros : is_padded (padded_to n text) ≡ true

padded_again : (p : ℕ → Bool) (stays : (b : ℕ) → p b ≡ true → not (b == 0) ≡ true) (n : ℕ)
    (text : List ℕ) → list_all p text ≡ true → PaddedAgain n text
unfolding padded_to
padded_again p stays n text h =
    let zeros : List ℕ = replicate {A = ℕ} (n - length text) 0 in
    let len : prefix_len (λ b. not (b == 0)) (text ++ zeros) ≡ length text =
    text_len_again p stays text (n - length text) h in
    let front : take (length text) (text ++ zeros) ≡ text = take_at text zeros (length text) refl in
    let back : drop (length text) (text ++ zeros) ≡ zeros = drop_at text zeros (length text) refl in
    record {
      text-is = rw (len, front) refl;
      zeros = rw (len, front, back, zeros_again (n - length text)) refl;
    }

name_bytes : (name : List ℕ) → is_name name ≡ true → list_all is_name_byte name ≡ true
name_bytes name h =
    (and_split (nat_le 1 (length name) && nat_le (length name) 63) (list_all is_name_byte name) h).1

name_again : (n : ℕ) (name : List ℕ) → is_name name ≡ true → name_in (padded_to n name) ≡ Some name
name_again n name h =
    let again = padded_again is_name_byte name_byte_stays n name (name_bytes name h) in
    rw (again.zeros, again.text-is, h) refl

value_again : (n : ℕ) (text : List ℕ) → is_value text ≡ true → value_in (padded_to n text) ≡ Some text
value_again n text h =
    let both = and_split (nat_le (length text) 127) (list_all is_text_byte text) h in
    let again = padded_again is_text_byte text_byte_stays n text both.1 in
    rw (again.zeros, again.text-is, h) refl

name_short : (name : List ℕ) → is_name name ≡ true → length name ≤ 64
name_short name h =
    let a =
    and_split (nat_le 1 (length name) && nat_le (length name) 63) (list_all is_name_byte name) h in
    let b = and_split (nat_le 1 (length name)) (nat_le (length name) 63) a.0 in
    omega (arith, leb-true _ _ b.1)

maybe_short : (name : Option (List ℕ)) → IfSome name (λ text. is_name text ≡ true)
    → length (unwrap_or name []) ≤ 64
maybe_short None h = omega arith
maybe_short (Some text) h = name_short text h

value_short : (text : List ℕ) → is_value text ≡ true → length text ≤ 128
value_short text h =
    omega (arith, leb-true _ _ (and_split (nat_le (length text) 127) (list_all is_text_byte text) h).0)

-- ---- the content

-- a piece of n bytes at a place
record At (bytes piece : List ℕ) (at n : ℕ) (rest : List ℕ) : Type 0 where
  pub piece-is : take n (drop at bytes) ≡ piece
  pub rest-is : drop (at + n) bytes ≡ rest

piece_at : (bytes piece rest : List ℕ) (at n : ℕ) → length piece ≡ n → drop at bytes ≡ piece ++ rest
    → At bytes piece at n rest
piece_at bytes piece rest at n len e = record {
  piece-is = rw e (take_at piece rest n len);
  rest-is = rw (← drop-drop n at bytes, e) (drop_at piece rest n len);
}

-- the pieces of a ticket's body
ticket_again : (p : TicketPart) → TicketFits p → ticket_in (body (Ticket p)) ≡ Some (Ticket p)
ticket_again p fits =
    let bytes : List ℕ = body (Ticket p) in
    let e : drop 0 bytes ≡ padded_to 64 p.ticket
    ++ (word p.leader.0 ++ (word p.term ++ (word p.valid_for ++ []))) =
    simp (append_assoc, append-nil) in
    let a =
    piece_at bytes (padded_to 64 p.ticket) _ 0 64
    (len_padded 64 p.ticket (name_short p.ticket fits.ticket)) e in
    let b = piece_at bytes (word p.leader.0) _ 64 4 (len_word p.leader.0) a.rest-is in
    let c = piece_at bytes (word p.term) _ 68 4 (len_word p.term) b.rest-is in
    let d = piece_at bytes (word p.valid_for) [] 72 4 (len_word p.valid_for) c.rest-is in
    rw (
      a.piece-is,
      name_again 64 p.ticket fits.ticket,
      b.piece-is,
      word_again p.leader.0 fits.leader,
      c.piece-is,
      word_again p.term fits.term,
      d.piece-is,
      word_again p.valid_for fits.valid_for,
    ) refl

blank_again : are_zeros (padded_to 64 []) ≡ true
unfolding padded_to
blank_again = refl

attr_name_again : (none : Bool) (name : Option (List ℕ)) → is_same none (is_none name) ≡ true
    → IfSome name (λ text. is_name text ≡ true)
    → cond none (cond (are_zeros (padded_to 64 (unwrap_or name []))) (Some None) None)
    (option_map (λ text. Some text) (name_in (padded_to 64 (unwrap_or name [])))) ≡ Some name
attr_name_again true None same form = rw blank_again refl
attr_name_again true (Some text) same form = absurd cc
attr_name_again false None same form = absurd cc
attr_name_again false (Some text) same form = rw (name_again 64 text form) refl

attr_again : (cmd : Cmd) (p : AttrPart) → AttrFits p → is_same (names_none cmd) (is_none p.name) ≡ true
    → attr_in cmd (body (Attr p)) ≡ Some (Attr p)
attr_again cmd p fits same =
    let bytes : List ℕ = body (Attr p) in
    let e : drop 0 bytes ≡ padded_to 64 p.ticket
    ++ (padded_to 64 (unwrap_or p.name []) ++ (padded_to 128 p.value ++ [])) =
    simp (append_assoc, append-nil) in
    let a =
    piece_at bytes (padded_to 64 p.ticket) _ 0 64
    (len_padded 64 p.ticket (name_short p.ticket fits.ticket)) e in
    let b =
    piece_at bytes (padded_to 64 (unwrap_or p.name [])) _ 64 64
    (len_padded 64 (unwrap_or p.name []) (maybe_short p.name fits.name)) a.rest-is in
    let c =
    piece_at bytes (padded_to 128 p.value) [] 128 128
    (len_padded 128 p.value (value_short p.value fits.value)) b.rest-is in
    rw (
      a.piece-is,
      name_again 64 p.ticket fits.ticket,
      b.piece-is,
      attr_name_again (names_none cmd) p.name same fits.name,
      c.piece-is,
      value_again 128 p.value
          fits.value,
    ) refl

text_form : (text : List ℕ) → has_text (Text text) ≡ true → list_all is_line_byte text ≡ true
text_form text h = (and_split (nat_le (length text) 16384) (list_all is_line_byte text) h).1

content_again : (cmd : Cmd) (c : Content) → PartFits c → is_named cmd c ≡ true → has_text c ≡ true
    → content_in cmd (kind_in c) (body c) ≡ Some c
content_again cmd Bare fits named text = refl
content_again cmd (Ticket p) fits named text = ticket_again p fits
content_again cmd (Attr p) fits named text = attr_again cmd p fits named
content_again cmd (Text t) fits named text = rw (text_form t text) refl

len_body : (c : Content) → PartFits c → length (body c) ≡ body_len c
len_body Bare fits = refl
len_body (Ticket p) fits =
    simp (length-append, len_padded 64 p.ticket (name_short p.ticket fits.ticket), len_word) refl
len_body (Attr p) fits =
    simp (
      length-append,
      len_padded 64 p.ticket (name_short p.ticket fits.ticket),
      len_padded 64 (unwrap_or p.name []) (maybe_short p.name fits.name),
      len_padded 128 p.value
          (value_short p.value fits.value),
    ) refl
len_body (Text t) fits = refl

size_again : (c : Content) → has_text c ≡ true → has_size (kind_in c) (body_len c) ≡ true
size_again Bare text = refl
size_again (Ticket p) text = refl
size_again (Attr p) text = refl
size_again (Text t) text = (and_split (nat_le (length t) 16384) (list_all is_line_byte t) text).0

body_small : (c : Content) → has_text c ≡ true → body_len c ≤ 16384
body_small Bare text = omega arith
body_small (Ticket p) text = omega arith
body_small (Attr p) text = omega arith
body_small (Text t) text = leb-true _ _ (size_again (Text t) text)

auth_small : (auth : Bool) → auth_len auth ≤ 28
auth_small true = omega arith
auth_small false = omega arith

-- ---- the frame

body_again : (h : Head) (bytes inner auth : List ℕ) → has_size (kind_of h.cmd) (length inner) ≡ true
    → length auth ≡ auth_len h.auth
    → length bytes ≡ 48 + length inner + auth_len h.auth → drop 48 bytes ≡ inner ++ auth
    → body_read h bytes ≡ Ok inner
body_again h bytes inner auth size len count e =
    let long : nat_le (48 + auth_len h.auth) (length bytes) ≡ true =
    le-leb _ _ (omega (arith, count)) in
    let is : length bytes - (48 + auth_len h.auth) ≡ length inner = omega (arith, count) in
    let piece : take (length inner) (drop 48 bytes) ≡ inner =
    rw e (take_at inner auth (length inner) refl) in
    rw (long, is, size, piece) refl

pub len_frame : (l : PlainMessage) (auth : List ℕ) → PartFits l.content → length auth ≡ auth_len l.head.auth
    → length (frame_with auth l) ≡ frame_len l
len_frame l auth fits len =
    omega (
      arith,
      length-append (header l.head (frame_len l) ++ body l.content) auth,
      length-append (header l.head (frame_len l)) (body l.content),
      len_header l.head (frame_len l),
      len_body l.content fits,
    )

pub frame_read : (l : PlainMessage) (auth : List ℕ) → Fits l → length auth ≡ auth_len l.head.auth
    → decoded (frame_with auth l) ≡ Ok l
frame_read l auth fits len =
    let bytes : List ℕ = frame_with auth l in
    let count : length bytes ≡ frame_len l = len_frame l auth fits.part len in
    let body_len_is : length (body l.content) ≡ body_len l.content = len_body l.content fits.part in
    let small : body_len l.content ≤ 16384 = body_small l.content fits.text in
    let little : auth_len l.head.auth ≤ 28 = auth_small l.head.auth in
    let parts : bytes ≡ header l.head (frame_len l) ++ (body l.content ++ auth) =
    append_assoc (header l.head (frame_len l)) (body l.content) auth in
    let again : HeaderAgain (header l.head (frame_len l) ++ (body l.content ++ auth)) l.head
    (frame_len l) = header_again l.head (frame_len l) _ fits.head (omega arith) in
    let moved : HeaderAgain bytes l.head (frame_len l) =
    subst (λ (b : List ℕ). HeaderAgain b l.head (frame_len l)) (sym parts) again in
    let counted : HeaderAgain bytes l.head (length bytes) =
    subst (λ (n : ℕ). HeaderAgain bytes l.head n) (sym count) moved in
    let head : head_read bytes ≡ Ok l.head =
    head_again bytes l.head counted (omega arith) (omega arith) in
    let behind : drop 48 bytes ≡ body l.content ++ auth =
    ap (drop 48) parts ∙ header_rest l.head (frame_len l) _ in
    let size : has_size (kind_of l.head.cmd) (length (body l.content)) ≡ true =
    rw (← fits.kind, body_len_is) (size_again l.content fits.text) in
    let inner : body_read l.head bytes ≡ Ok (body l.content) =
    body_again l.head bytes (body l.content) auth size len (omega arith) behind in
    let content : content_in l.head.cmd (kind_of l.head.cmd) (body l.content) ≡ Some l.content =
    rw (← fits.kind) (content_again l.head.cmd l.content fits.part fits.named fits.text) in
    rw (head, inner, content) refl

pub len_blank : (auth : Bool) → length (blank_auth auth) ≡ auth_len auth
unfolding blank_auth word
len_blank true = refl
len_blank false = refl

pub spelling_read : (l : PlainMessage) → Fits l → decoded (spelling l) ≡ Ok l
spelling_read l fits = frame_read l (blank_auth l.head.auth) fits (len_blank l.head.auth)

pub is_read : (bytes : List ℕ) (l : PlainMessage) → Fits l → Spells bytes l → decoded bytes ≡ Ok l
is_read bytes l fits s = ap decoded s.parts ∙ frame_read l s.auth fits s.size

pub letters_same : (bytes : List ℕ) (l m : PlainMessage) → Fits l → Fits m → Spells bytes l → Spells bytes m
    → l ≡ m
letters_same bytes l m l_fits m_fits s t =
    let both = sym (is_read bytes l l_fits s) ∙ is_read bytes m m_fits t in
    cc both

pub none_spelled : (bytes : List ℕ) (fault : FrameFault) → decoded bytes ≡ Err fault → (l : PlainMessage)
    → Fits l → Spells bytes l → ⊥
none_spelled bytes fault refused l fits s =
    let both = sym refused ∙ is_read bytes l fits s in
    absurd (cc both)
