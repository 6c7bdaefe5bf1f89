-- A text spells one call, and one answer of a call.
use Rattle.std.specs.Prelude.{codes, decimal, length, drop, Option, None, Some}
use Rattle.std.specs.List.{list_all}
use Rattle.std.specs.Fmt.{signed_decimal}
use Rattle.std.proofs.Common.{◌≡◌, ◌<◌, ◌≤◌, ◌^◌, ◌+◌, inl, inr, ℕ, ℤ, true, List, ◌∷◌, ◌++◌, refl, sym, ◌∙◌, ap, subst, arith, true≢false, append_assoc}
use Rattle.std.proofs.lemmas.Bool.Decides.{nat_tests}
use Rattle.std.proofs.lemmas.Fmt.{decimal_injective, signed_decimal_injective}
use Rattle.booth_base.specs.declared.address.Address.{Address}
use Rattle.booth_base.specs.declared.address.Peer.{Peer}
use Rattle.booth_base.specs.Address.{IsAddress, Spells, printed}
use Rattle.booth_base.proofs.AddressLemmas.{one_address, printed_spells}
use Rattle.booth_rec.specs.declared.record.Record.{Record}
use Rattle.booth_rec.specs.Spelling.{HasFormat, spelling}
use Rattle.booth_rec.proofs.SpellingLemmas.{format, read_back}
use Rattle.booth_journal.specs.declared.fields.Carried.{Carried}
use Rattle.booth_journal.specs.declared.said.Answer.{Answer}
use Rattle.booth_journal.specs.declared.said.Answer.TheVariants as answers
use Rattle.booth_journal.specs.declared.said.Call.{Call}
use Rattle.booth_journal.specs.declared.said.Call.TheVariants as calls
use Rattle.booth_journal.specs.Fields.{is_other}
use Rattle.booth_journal.specs.Lines.{call_text, hex_text, record_text}
use Rattle.booth_journal.specs.Reading.{IsAnswerTo, SpellsAnswerTo, SpellsArrival, SpellsCall, SpellsDatagram, SpellsDone, SpellsFound, SpellsLocal, SpellsReading, SpellsRecord}
use Rattle.booth_journal.proofs.BlankLemmas.{IsNoDigit, address_has_no, address_has_none, name_has_none, number_has_no, number_has_none, one_cut}
use Rattle.booth_journal.proofs.FieldLemmas.{small_status}
use Rattle.booth_journal.proofs.HexLemmas.{encode_long}
use Rattle.booth_journal.proofs.PartLemmas.{one_hex_text}
use Rattle.booth_journal.proofs.ReadingLemmas.{clash, one_hex, spelling_bytes, three}

-- ---- fields

one_printed : (a b : Address) → IsAddress a → IsAddress b → printed a ≡ printed b → a ≡ b
one_printed a b of_a of_b same =
    one_address (printed a) a b (printed_spells a of_a) (subst (λ t. Spells t b) (sym same) (printed_spells b of_b))

-- no address is printed so
no_dash : (a : Address) → IsAddress a → codes "-" ≡ printed a → ⊥
no_dash a whole same =
    true≢false (sym (address_has_no 0x2D (omega arith) a whole) ∙ sym (ap (list_all (is_other 0x2D)) same))

one_local : (text : List ℕ) (a b : Option Address) → SpellsLocal text a → SpellsLocal text b → a ≡ b
one_local text None None s t = refl
one_local text None (Some b) s t = absurd (no_dash b t.0 (sym s.1 ∙ t.1))
one_local text (Some a) None s t = absurd (no_dash a s.0 (sym t.1 ∙ s.1))
one_local text (Some a) (Some b) s t = ap Some (one_printed a b s.0 t.0 (sym s.1 ∙ t.1))

same_peer : (a b : Peer) → a.address ≡ b.address → a.port ≡ b.port → a ≡ b
same_peer a b address port =
    let first : a ≡ record { address = b.address; port = a.port } =
    ap (λ (x : Address). let peer : Peer = record { address = x; port = a.port } in peer) address in
    first ∙ ap (λ (n : ℕ). let peer : Peer = record { address = b.address; port = n } in peer) port

-- one peer, and bytes
one_datagram : (rest : List ℕ) (a b : Carried) → SpellsDatagram rest a → SpellsDatagram rest b
    → (a.peer ≡ b.peer) × (a.bytes ≡ b.bytes)
one_datagram rest a b s t =
    let small_a : a.peer.port < 2 ^ 64 = omega (arith, s.0.1) in
    let small_b : b.peer.port < 2 ^ 64 = omega (arith, t.0.1) in
    let left = s.2 ∙ three (printed a.peer.address) (decimal a.peer.port) (hex_text a.bytes) in
    let right = t.2 ∙ three (printed b.peer.address) (decimal b.peer.port) (hex_text b.bytes) in
    let outer = one_cut 0x20 (printed a.peer.address) (printed b.peer.address) (decimal a.peer.port ++ 0x20 ∷ hex_text a.bytes)
    (decimal b.peer.port ++ 0x20 ∷ hex_text b.bytes) (address_has_none a.peer.address s.0.0)
    (address_has_none b.peer.address t.0.0) (sym left ∙ right) in
    let inner = one_cut 0x20 (decimal a.peer.port) (decimal b.peer.port) (hex_text a.bytes) (hex_text b.bytes)
    (number_has_none a.peer.port small_a) (number_has_none b.peer.port small_b) outer.1 in (
      same_peer a.peer b.peer (one_printed a.peer.address b.peer.address s.0.0 t.0.0 outer.0)
          (decimal_injective a.peer.port b.peer.port small_a small_b inner.0),
      one_hex_text a.bytes b.bytes s.1 t.1 inner.1,
    )

one_record : (text : List ℕ) (a b : Record) → SpellsRecord text a → SpellsRecord text b → a ≡ b
one_record text a b s t =
    let same : spelling a ≡ spelling b = one_hex (spelling a) (spelling b) (spelling_bytes a) (spelling_bytes b) (sym s.1 ∙ t.1) in
    sym (read_back (spelling a) a (record { version = s.0.0; fits = s.0.1; spelled = refl }))
    ∙ read_back (spelling a) b (record { version = t.0.0; fits = t.0.1; spelled = same })

-- a record has no fewer digits
record_long : (text : List ℕ) (kept : Record) → SpellsRecord text kept → 64 ≤ length text
record_long text kept s =
    by (format (spelling kept) kept (record { version = s.0.0; fits = s.0.1; spelled = refl }))
  where
    by : HasFormat (spelling kept) → 64 ≤ length text
    by (inl first) = omega (arith, ap length s.1, encode_long (spelling kept), first.0)
    by (inr second) = omega (arith, ap length s.1, encode_long (spelling kept), second.0)

short_is_none : (text : List ℕ) → length text < 64 → (kept : Record) → SpellsRecord text kept → ⊥
short_is_none text short kept s = omega (arith, short, record_long text kept s)

-- ---- calls

one_keep : (text : List ℕ) (a : List ℕ) (x : Record) (b : List ℕ) (y : Record) → SpellsCall text (calls.Keep a x)
    → SpellsCall text (calls.Keep b y) → calls.Keep a x ≡ calls.Keep b y
one_keep text a x b y s t =
    let left = ap (drop 5) s.1 ∙ append_assoc a (codes " ") (record_text x) in
    let right = ap (drop 5) t.1 ∙ append_assoc b (codes " ") (record_text y) in
    let fields = one_cut 0x20 a b (record_text x) (record_text y) (name_has_none a s.0.0) (name_has_none b t.0.0)
    (sym left ∙ right) in
    ap (λ (n : List ℕ). calls.Keep n x) fields.0
    ∙ ap (λ (r : Record). calls.Keep b r) (one_record (record_text x) x y (s.0.1, refl) (t.0.1, fields.1))

one_send : (text : List ℕ) (a : Peer) (x : List ℕ) (b : Peer) (y : List ℕ) → SpellsCall text (calls.Send a x)
    → SpellsCall text (calls.Send b y) → calls.Send a x ≡ calls.Send b y
one_send text a x b y s t =
    let same = one_datagram (drop 5 text) (record { peer = a; bytes = x }) (record { peer = b; bytes = y })
    (s.0.0, s.0.1, ap (drop 5) s.1) (t.0.0, t.0.1, ap (drop 5) t.1) in
    ap (λ (p : Peer). calls.Send p x) same.0 ∙ ap (λ (l : List ℕ). calls.Send b l) same.1

one_job : (text : List ℕ) (m : ℕ) (a : List ℕ) (x n : ℕ) (b : List ℕ) (y : ℕ) → SpellsCall text (calls.Job m a x)
    → SpellsCall text (calls.Job n b y) → calls.Job m a x ≡ calls.Job n b y
one_job text m a x n b y s t =
    let left = ap (drop 4) s.1 ∙ three (decimal m) a (decimal x) in
    let right = ap (drop 4) t.1 ∙ three (decimal n) b (decimal y) in
    let outer = one_cut 0x20 (decimal m) (decimal n) (a ++ 0x20 ∷ decimal x) (b ++ 0x20 ∷ decimal y) (number_has_none m s.0.0)
    (number_has_none n t.0.0) (sym left ∙ right) in
    let inner = one_cut 0x20 a b (decimal x) (decimal y) (name_has_none a s.0.1) (name_has_none b t.0.1) outer.1 in
    ap (λ (k : ℕ). calls.Job k a x) (decimal_injective m n s.0.0 t.0.0 outer.0)
    ∙ ap (λ (l : List ℕ). calls.Job n l x) inner.0
    ∙ ap (λ (k : ℕ). calls.Job n b k) (decimal_injective x y s.0.2 t.0.2 inner.1)

pub one_call : (text : List ℕ) (a b : Call) → SpellsCall text a → SpellsCall text b → a ≡ b
one_call text calls.Now calls.Now s t = refl
one_call text (calls.Open a) (calls.Open b) s t =
    ap calls.Open (one_local (drop 5 text) a b (s.0, ap (drop 5) s.1) (t.0, ap (drop 5) t.1))
one_call text calls.Next calls.Next s t = refl
one_call text (calls.Send a x) (calls.Send b y) s t = one_send text a x b y s t
one_call text (calls.Kept a) (calls.Kept b) s t = ap calls.Kept (ap (drop 5) (sym s.1 ∙ t.1))
one_call text (calls.Keep a x) (calls.Keep b y) s t = one_keep text a x b y s t
one_call text (calls.Job m a x) (calls.Job n b y) s t = one_job text m a x n b y s t
one_call text a b s t = absurd (clash 4 (sym s.1 ∙ t.1) refl)

-- calls of one text may have the same answers
pub same_kind : (a b : Call) → call_text a ≡ call_text b → (answer : Answer) → IsAnswerTo b answer → IsAnswerTo a answer
same_kind calls.Now calls.Now same answer may = may
same_kind (calls.Open a) (calls.Open b) same answer may = may
same_kind calls.Next calls.Next same answer may = may
same_kind (calls.Send a x) (calls.Send b y) same answer may = may
same_kind (calls.Kept a) (calls.Kept b) same answer may = may
same_kind (calls.Keep a x) (calls.Keep b y) same answer may = may
same_kind (calls.Job m a x) (calls.Job n b y) same answer may = may
same_kind a b same answer may = absurd (clash 4 same refl)

-- ---- answers

pub one_done : (text : List ℕ) (a b : Answer) → SpellsDone text a → SpellsDone text b → a ≡ b
one_done text answers.Done answers.Done s t = refl
one_done text answers.Done answers.Fails s t = absurd (clash 4 (sym s.1.1 ∙ t.1.1) refl)
one_done text answers.Fails answers.Done s t = absurd (clash 4 (sym s.1.1 ∙ t.1.1) refl)
one_done text answers.Fails answers.Fails s t = refl
one_done text answers.Done b s t = absurd t.0
one_done text answers.Fails b s t = absurd t.0
one_done text a b s t = absurd s.0

pub one_reading : (text : List ℕ) (a b : Answer) → SpellsReading text a → SpellsReading text b → a ≡ b
one_reading text (answers.Reading a) (answers.Reading b) s t =
    ap answers.Reading (decimal_injective a b s.1.0 t.1.0 (sym s.1.1 ∙ t.1.1))
one_reading text (answers.Reading a) b s t = absurd t.0
one_reading text a b s t = absurd s.0

pub one_found : (text : List ℕ) (a b : Answer) → SpellsFound text a → SpellsFound text b → a ≡ b
one_found text answers.Fails answers.Fails s t = refl
one_found text answers.Fails answers.Absent s t = absurd (clash 4 (sym s.1.1 ∙ t.1.1) refl)
one_found text answers.Fails (answers.Found b) s t = absurd (short_is_none text (omega (arith, ap length s.1.1)) b t.1)
one_found text answers.Absent answers.Fails s t = absurd (clash 4 (sym s.1.1 ∙ t.1.1) refl)
one_found text answers.Absent answers.Absent s t = refl
one_found text answers.Absent (answers.Found b) s t = absurd (short_is_none text (omega (arith, ap length s.1.1)) b t.1)
one_found text (answers.Found a) answers.Fails s t = absurd (short_is_none text (omega (arith, ap length t.1.1)) a s.1)
one_found text (answers.Found a) answers.Absent s t = absurd (short_is_none text (omega (arith, ap length t.1.1)) a s.1)
one_found text (answers.Found a) (answers.Found b) s t = ap answers.Found (one_record text a b s.1 t.1)
one_found text answers.Fails b s t = absurd t.0
one_found text answers.Absent b s t = absurd t.0
one_found text (answers.Found a) b s t = absurd t.0
one_found text a b s t = absurd s.0

one_end : (text : List ℕ) (m : ℕ) (y : ℤ) (n : ℕ) (z : ℤ) → SpellsArrival text (answers.Ended m y)
    → SpellsArrival text (answers.Ended n z) → answers.Ended m y ≡ answers.Ended n z
one_end text m y n z s t =
    let left = ap (drop 8) s.1.1 ∙ append_assoc (decimal m) (codes " ") (signed_decimal y) in
    let right = ap (drop 8) t.1.1 ∙ append_assoc (decimal n) (codes " ") (signed_decimal z) in
    let fields = one_cut 0x20 (decimal m) (decimal n) (signed_decimal y) (signed_decimal z) (number_has_none m s.1.0.0)
    (number_has_none n t.1.0.0) (sym left ∙ right) in
    ap (λ (k : ℕ). answers.Ended k y) (decimal_injective m n s.1.0.0 t.1.0.0 fields.0)
    ∙ ap (λ (k : ℤ). answers.Ended n k)
    (signed_decimal_injective y z (small_status y s.1.0.1) (small_status z t.1.0.1) fields.1)

one_data : (text : List ℕ) (a : Peer) (x : List ℕ) (b : Peer) (y : List ℕ) → SpellsArrival text (answers.Data a x)
    → SpellsArrival text (answers.Data b y) → answers.Data a x ≡ answers.Data b y
one_data text a x b y s t =
    let same = one_datagram (drop 5 text) (record { peer = a; bytes = x }) (record { peer = b; bytes = y })
    (s.1.0.0, s.1.0.1, ap (drop 5) s.1.1) (t.1.0.0, t.1.0.1, ap (drop 5) t.1.1) in
    ap (λ (p : Peer). answers.Data p x) same.0 ∙ ap (λ (l : List ℕ). answers.Data b l) same.1

pub one_arrival : (text : List ℕ) (a b : Answer) → SpellsArrival text a → SpellsArrival text b → a ≡ b
one_arrival text answers.Fails answers.Fails s t = refl
one_arrival text answers.Quiet answers.Quiet s t = refl
one_arrival text answers.Stop answers.Stop s t = refl
one_arrival text (answers.Ended m y) (answers.Ended n z) s t = one_end text m y n z s t
one_arrival text (answers.Data a x) (answers.Data b y) s t = one_data text a x b y s t
one_arrival text (answers.Reading a) b s t = absurd s.0
one_arrival text answers.Done b s t = absurd s.0
one_arrival text answers.Absent b s t = absurd s.0
one_arrival text (answers.Found a) b s t = absurd s.0
one_arrival text a (answers.Reading b) s t = absurd t.0
one_arrival text a answers.Done s t = absurd t.0
one_arrival text a answers.Absent s t = absurd t.0
one_arrival text a (answers.Found b) s t = absurd t.0
one_arrival text a b s t = absurd (clash 4 (sym s.1.1 ∙ t.1.1) refl)

pub one_answer : (call : Call) (text : List ℕ) (a b : Answer) → SpellsAnswerTo call text a → SpellsAnswerTo call text b
    → a ≡ b
one_answer calls.Now text a b s t = one_reading text a b s t
one_answer (calls.Open local) text a b s t = one_done text a b s t
one_answer calls.Next text a b s t = one_arrival text a b s t
one_answer (calls.Send to bytes) text a b s t = one_done text a b s t
one_answer (calls.Kept ticket) text a b s t = one_found text a b s t
one_answer (calls.Keep ticket kept) text a b s t = one_done text a b s t
one_answer (calls.Job number ticket expires) text a b s t = one_done text a b s t

-- ---- no answer is spelled as a reading of the clock is asked

letter_no_digit : IsNoDigit 0x6E
letter_no_digit c h = grind (arith, nat_tests, h)

no_number : (n : ℕ) → n < 2 ^ 64 → codes "now" ≡ decimal n → ⊥
no_number n small same =
    true≢false (sym (number_has_no 0x6E letter_no_digit n small) ∙ sym (ap (list_all (is_other 0x6E)) same))

done_not_now : (a : Answer) → SpellsDone (codes "now") a → ⊥
done_not_now answers.Done s = clash 4 s.1.1 refl
done_not_now answers.Fails s = clash 4 s.1.1 refl
done_not_now a s = s.0

reading_not_now : (a : Answer) → SpellsReading (codes "now") a → ⊥
reading_not_now (answers.Reading n) s = no_number n s.1.0 s.1.1
reading_not_now a s = s.0

found_not_now : (a : Answer) → SpellsFound (codes "now") a → ⊥
found_not_now answers.Fails s = clash 4 s.1.1 refl
found_not_now answers.Absent s = clash 4 s.1.1 refl
found_not_now (answers.Found kept) s = short_is_none (codes "now") (omega arith) kept s.1
found_not_now a s = s.0

arrival_not_now : (a : Answer) → SpellsArrival (codes "now") a → ⊥
arrival_not_now (answers.Reading n) s = s.0
arrival_not_now answers.Done s = s.0
arrival_not_now answers.Absent s = s.0
arrival_not_now (answers.Found kept) s = s.0
arrival_not_now a s = clash 4 s.1.1 refl

pub no_answer_is_now : (call : Call) (a : Answer) → SpellsAnswerTo call (codes "now") a → ⊥
no_answer_is_now calls.Now a s = reading_not_now a s
no_answer_is_now (calls.Open local) a s = done_not_now a s
no_answer_is_now calls.Next a s = arrival_not_now a s
no_answer_is_now (calls.Send to bytes) a s = done_not_now a s
no_answer_is_now (calls.Kept ticket) a s = found_not_now a s
no_answer_is_now (calls.Keep ticket kept) a s = done_not_now a s
no_answer_is_now (calls.Job number ticket expires) a s = done_not_now a s
