-- What a text spells, and what it cannot.
use Rattle.std.specs.Prelude.{codes, decimal, length, take, drop, is_some, if◌then◌else◌, FitsSigned, Option, None, Some, Result, Ok, Err}
use Rattle.std.specs.Str.{bytes_eq}
use Rattle.std.specs.Fmt.{signed_decimal}
use Rattle.std.specs.Int.{w32, byte_at, bytes_high_first}
use Rattle.std.proofs.Common.{◌≡◌, ◌<◌, ◌≤◌, ◌^◌, ◌/◌, ◌%◌, ℕ, ℤ, zero, suc, Bool, true, false, List, [], ◌∷◌, ◌++◌, get_or, refl, sym, ◌∙◌, ap, arith, true≢false, append_assoc}
use Rattle.std.proofs.lemmas.Slice.Eq.{bytes_eq-Decides}
use Rattle.hex.specs.Hex.{encode_lower, decode_of}
use Rattle.hex.specs.declared.error.FromHexError.{FromHexError}
use Rattle.hex.proofs.HexLemmas.{decode_of-encode_lower}
use Rattle.booth_base.specs.declared.address.Address.{Address}
use Rattle.booth_base.specs.Address.{printed}
use Rattle.booth_base.specs.Name.{is_name}
use Rattle.booth_base.specs.declared.address.MemberId.{MemberId}
use Rattle.booth_rec.specs.declared.record.Lease.{Lease}
use Rattle.booth_rec.specs.declared.record.Promise.{Promise}
use Rattle.booth_rec.specs.declared.record.Record.{Record}
use Rattle.booth_rec.specs.Spelling.{spelling, word, long, zeros, head, flags, lease_fields, bound_field, promise_fields, pledge_fields, first_spelling, second_spelling, Spells}
use Rattle.booth_rec.specs.Record.{is_second}
use Rattle.booth_host.specs.declared.datagram.TheConstants.{DATAGRAM_BYTES}
use Rattle.booth_journal.specs.declared.fields.Carried.{Carried}
use Rattle.booth_journal.specs.declared.fields.LineFault.{LineFault}
use Rattle.booth_journal.specs.declared.fields.LineFault.TheVariants.{NoLine, OutOfMemory}
use Rattle.booth_journal.specs.declared.said.Answer.{Answer}
use Rattle.booth_journal.specs.declared.said.Answer.TheVariants as answers
use Rattle.booth_journal.specs.declared.said.Call.{Call}
use Rattle.booth_journal.specs.declared.said.Call.TheVariants as calls
use Rattle.booth_journal.specs.Lines.{hex_text, local_text, peer_text, record_text}
use Rattle.booth_journal.specs.Fields.{IsCut}
use Rattle.booth_journal.specs.Reading.{AreOctets, IsWritten, ReadsAs, SpellsArrival, SpellsCall, SpellsDatagram, SpellsDone, SpellsFound, SpellsLocal, SpellsName, SpellsNumber, SpellsReading, SpellsRecord}
use Rattle.booth_journal.proofs.BlankLemmas.{address_has_none, name_has_none, number_has_none, one_cut}

-- ---- what is read

pub reads_found : {A : Type 0} (Spells : A → Type 0) (value : A) → Spells value → ReadsAs Spells (Ok value)
reads_found Spells value spells = record { found = spells; none = λ is other also. cc }

pub reads_none : {A : Type 0} (Spells : A → Type 0) → ((value : A) → Spells value → ⊥) → ReadsAs Spells (Err NoLine)
reads_none Spells never = record { found = tt; none = λ is. never }

pub reads_nothing : {A : Type 0} (Spells : A → Type 0) → ReadsAs Spells (Err OutOfMemory)
reads_nothing Spells = record { found = tt; none = λ is other also. cc }

-- the fault of a part
pub reads_fault : {A B : Type 0} (Part : A → Type 0) (Spells : B → Type 0) (fault : LineFault) → ReadsAs Part (Err fault)
    → (((part : A) → Part part → ⊥) → (value : B) → Spells value → ⊥) → ReadsAs Spells (Err fault)
reads_fault Part Spells NoLine read never = reads_none Spells (never (read.none refl))
reads_fault Part Spells OutOfMemory read never = reads_nothing Spells

abbrev fault_in : {A : Type 0} → Result A LineFault → LineFault → LineFault
fault_in (Ok value) other = other
fault_in (Err fault) other = fault

pub fault_is : {A : Type 0} (r : Result A LineFault) (e f : LineFault) → r ≡ Err e → r ≡ Err f → e ≡ f
fault_is r e f is also = sym (ap (λ x. fault_in x e) is) ∙ ap (λ x. fault_in x e) also

-- ---- texts that differ

pub differ : {a b : List ℕ} → a ≡ b → bytes_eq a b ≡ false → ⊥
differ {a} {b} same unlike = true≢false (sym ((bytes_eq-Decides a b).1 same) ∙ unlike)

-- they differ in their first bytes
pub clash : (k : ℕ) {a b : List ℕ} → a ≡ b → bytes_eq (take k a) (take k b) ≡ false → ⊥
clash k same unlike = differ (ap (take k) same) unlike

abbrev value_in : Result (List ℕ) FromHexError → List ℕ
value_in (Ok bytes) = bytes
value_in (Err fault) = []

pub one_value : (r : Result (List ℕ) FromHexError) (a b : List ℕ) → r ≡ Ok a → r ≡ Ok b → a ≡ b
one_value r a b is also = sym (ap value_in is) ∙ ap value_in also

-- one list of bytes has these digits
pub one_hex : (a b : List ℕ) → AreOctets a → AreOctets b → encode_lower a ≡ encode_lower b → a ≡ b
one_hex a b of_a of_b same =
    one_value (decode_of (encode_lower a)) a b (decode_of-encode_lower a of_a)
    (ap decode_of same ∙ decode_of-encode_lower b of_b)

-- ---- bytes of a record

abbrev Below : List ℕ → Type 0
Below xs = (k : ℕ) → get_or xs k 0 < 256

below_both : (xs ys : List ℕ) → Below xs → Below ys → Below (xs ++ ys)
below_both [] ys hx hy k = hy k
below_both (x ∷ xs) ys hx hy zero = hx zero
below_both (x ∷ xs) ys hx hy (suc k) = below_both xs ys (λ j. hx (suc j)) hy k

below_none : Below []
below_none k = omega arith

below_one : (x : ℕ) (xs : List ℕ) → x < 256 → Below xs → Below (x ∷ xs)
below_one x xs h hs zero = h
below_one x xs h hs (suc k) = hs k

mod_below : (m : ℕ) → m % 256 < 256
mod_below m = omega arith

byte_below : (i n : ℕ) → byte_at i n < 256
byte_below zero n = mod_below n
byte_below (suc i) n = mod_below (n / 256 ^ suc i)

below_high : (k n : ℕ) → Below (bytes_high_first k n)
below_high zero n = below_none
below_high (suc k) n = below_one (byte_at k n) (bytes_high_first k n) (byte_below k n) (below_high k n)

word_below : (n : ℕ) → Below (word n)
unfolding word
word_below n = below_high 4 n

long_below : (n : ℕ) → Below (long n)
unfolding long
long_below n = below_high 8 n

zeros_below : (n : ℕ) → Below (zeros n)
unfolding zeros
zeros_below zero = below_none
zeros_below (suc n) = below_one 0 (zeros n) (omega arith) (zeros_below n)

lease_below : (lease : Option Lease) → Below (lease_fields lease)
lease_below None = below_both _ _ (word_below 0) (long_below 0)
lease_below (Some lease) = below_both _ _ (word_below lease.term) (long_below lease.until)

head_below : (version bits : ℕ) (kept : Record) → Below (head version bits kept)
head_below version bits kept =
    below_both _ _ (below_both _ _ (below_both _ _ (word_below version) (word_below kept.term)) (word_below bits))
    (lease_below kept.lease)

bound_below : (bound : Option MemberId) → Below (bound_field bound)
bound_below None = word_below 0
bound_below (Some member) = word_below member.0

promise_below : (promise : Option Promise) → Below (promise_fields promise)
promise_below None =
    below_both _ _ (below_both _ _ (below_both _ _ (word_below 0) (word_below 0)) (word_below 0)) (long_below 0)
promise_below (Some promise) =
    below_both _ _ (below_both _ _ (below_both _ _ (word_below promise.to.0) (word_below promise.term)) (word_below 0))
    (long_below promise.until)

pledge_below : (kept : Record) → Below (pledge_fields kept)
pledge_below kept =
    below_both _ _ (below_both _ _ (below_both _ _ (bound_below kept.bound) (promise_below kept.promise))
    (long_below kept.abstain)) (zeros_below 8)

either_below : (second : Bool) (xs ys : List ℕ) → Below xs → Below ys → Below (if second then xs else ys)
either_below true xs ys hx hy = hx
either_below false xs ys hx hy = hy

-- a record's bytes are bytes
pub spelling_bytes : (kept : Record) → AreOctets (spelling kept)
spelling_bytes kept =
    either_below (is_second kept) (second_spelling kept) (first_spelling kept)
    (below_both _ _ (head_below 2 (flags kept) kept) (pledge_below kept))
    (below_both _ _ (head_below 1 (if is_some kept.lease then 1 else 0) kept) (zeros_below 8))

-- the fault of the bytes that a record is spelled in
pub record_fault : (text : List ℕ) (fault : LineFault)
    → (fault ≡ NoLine → (bytes : List ℕ) → AreOctets bytes → text ≡ encode_lower bytes → ⊥)
    → ReadsAs (SpellsRecord text) (Err fault)
record_fault text NoLine never =
    reads_none (SpellsRecord text) (λ kept s. never refl (spelling kept) (spelling_bytes kept) s.1)
record_fault text OutOfMemory never = reads_nothing (SpellsRecord text)

-- bytes that are no record's
pub no_bytes_of : (text bytes : List ℕ) → text ≡ encode_lower bytes → AreOctets bytes
    → ((kept : Record) → Spells bytes kept → ⊥) → (kept : Record) → SpellsRecord text kept → ⊥
no_bytes_of text bytes spelled octets never kept s =
    let same : bytes ≡ spelling kept = one_hex bytes (spelling kept) octets (spelling_bytes kept) (sym spelled ∙ s.1) in
    never kept (record { version = s.0.0; fits = s.0.1; spelled = same })

-- ---- calls

pub only_open : (rest : List ℕ) → ((local : Option Address) → SpellsLocal rest local → ⊥) → (call : Call)
    → SpellsCall (codes "open " ++ rest) call → ⊥
only_open rest none calls.Now s = clash 4 s.1 refl
only_open rest none (calls.Open local) s = none local (s.0, ap (drop 5) s.1)
only_open rest none calls.Next s = clash 4 s.1 refl
only_open rest none (calls.Send to bytes) s = clash 4 s.1 refl
only_open rest none (calls.Kept ticket) s = clash 4 s.1 refl
only_open rest none (calls.Keep ticket kept) s = clash 4 s.1 refl
only_open rest none (calls.Job number ticket expires) s = clash 4 s.1 refl

pub only_send : (rest : List ℕ) → ((sent : Carried) → SpellsDatagram rest sent → ⊥) → (call : Call)
    → SpellsCall (codes "send " ++ rest) call → ⊥
only_send rest none calls.Now s = clash 4 s.1 refl
only_send rest none (calls.Open local) s = clash 4 s.1 refl
only_send rest none calls.Next s = clash 4 s.1 refl
only_send rest none (calls.Send to bytes) s =
    none (record { peer = to; bytes = bytes }) (s.0.0, s.0.1, ap (drop 5) s.1)
only_send rest none (calls.Kept ticket) s = clash 4 s.1 refl
only_send rest none (calls.Keep ticket kept) s = clash 4 s.1 refl
only_send rest none (calls.Job number ticket expires) s = clash 4 s.1 refl

pub only_kept : (rest : List ℕ) → ((name : List ℕ) → SpellsName rest name → ⊥) → (call : Call)
    → SpellsCall (codes "kept " ++ rest) call → ⊥
only_kept rest none calls.Now s = clash 4 s.1 refl
only_kept rest none (calls.Open local) s = clash 4 s.1 refl
only_kept rest none calls.Next s = clash 4 s.1 refl
only_kept rest none (calls.Send to bytes) s = clash 4 s.1 refl
only_kept rest none (calls.Kept ticket) s = none ticket (s.0, ap (drop 5) s.1)
only_kept rest none (calls.Keep ticket kept) s = clash 4 s.1 refl
only_kept rest none (calls.Job number ticket expires) s = clash 4 s.1 refl

-- a ticket and a record
abbrev pub SpellsKeep : List ℕ → List ℕ → Record → Type 0
SpellsKeep rest ticket kept =
    (is_name ticket ≡ true) × IsWritten kept × (rest ≡ ticket ++ 0x20 ∷ record_text kept)

pub only_keep : (rest : List ℕ) → ((ticket : List ℕ) (kept : Record) → SpellsKeep rest ticket kept → ⊥) → (call : Call)
    → SpellsCall (codes "keep " ++ rest) call → ⊥
only_keep rest none calls.Now s = clash 4 s.1 refl
only_keep rest none (calls.Open local) s = clash 4 s.1 refl
only_keep rest none calls.Next s = clash 4 s.1 refl
only_keep rest none (calls.Send to bytes) s = clash 4 s.1 refl
only_keep rest none (calls.Kept ticket) s = clash 4 s.1 refl
only_keep rest none (calls.Keep ticket kept) s =
    none ticket kept (s.0.0, s.0.1, ap (drop 5) s.1 ∙ append_assoc ticket (codes " ") (record_text kept))
only_keep rest none (calls.Job number ticket expires) s = clash 4 s.1 refl

-- the two fields of a keep
pub no_name : (rest first second : List ℕ) → IsCut 0x20 rest first second → ((name : List ℕ) → SpellsName first name → ⊥)
    → (call : Call) → SpellsCall (codes "keep " ++ rest) call → ⊥
no_name rest first second cut never = only_keep rest λ ticket kept s.
    let fields = one_cut 0x20 first ticket second (record_text kept) cut.plain (name_has_none ticket s.0) (sym cut.joined ∙ s.2) in
    never ticket (s.0, fields.0)

pub no_record : (rest first second : List ℕ) → IsCut 0x20 rest first second → ((kept : Record) → SpellsRecord second kept → ⊥)
    → (call : Call) → SpellsCall (codes "keep " ++ rest) call → ⊥
no_record rest first second cut never = only_keep rest λ ticket kept s.
    let fields = one_cut 0x20 first ticket second (record_text kept) cut.plain (name_has_none ticket s.0) (sym cut.joined ∙ s.2) in
    never kept (s.1, fields.1)

-- three fields
pub three : (a b c : List ℕ) → (((a ++ codes " ") ++ b) ++ codes " ") ++ c ≡ a ++ 0x20 ∷ (b ++ 0x20 ∷ c)
three a b c =
    append_assoc ((a ++ codes " ") ++ b) (codes " ") c ∙ append_assoc (a ++ codes " ") b (0x20 ∷ c)
    ∙ append_assoc a (codes " ") (b ++ 0x20 ∷ c)

-- a number, a ticket and a number
abbrev pub SpellsJob : List ℕ → ℕ → List ℕ → ℕ → Type 0
SpellsJob rest number ticket expires =
    (number < 2 ^ 64) × (is_name ticket ≡ true) × (expires < 2 ^ 64)
    × (rest ≡ decimal number ++ 0x20 ∷ (ticket ++ 0x20 ∷ decimal expires))

pub only_job : (rest : List ℕ) → ((number : ℕ) (ticket : List ℕ) (expires : ℕ) → SpellsJob rest number ticket expires → ⊥)
    → (call : Call) → SpellsCall (codes "job " ++ rest) call → ⊥
only_job rest none calls.Now s = clash 4 s.1 refl
only_job rest none (calls.Open local) s = clash 4 s.1 refl
only_job rest none calls.Next s = clash 4 s.1 refl
only_job rest none (calls.Send to bytes) s = clash 4 s.1 refl
only_job rest none (calls.Kept ticket) s = clash 4 s.1 refl
only_job rest none (calls.Keep ticket kept) s = clash 4 s.1 refl
only_job rest none (calls.Job number ticket expires) s =
    none number ticket expires
    (s.0.0, s.0.1, s.0.2, ap (drop 4) s.1 ∙ three (decimal number) ticket (decimal expires))

-- none of the seven
pub no_call : (text : List ℕ) → (text ≡ codes "now" → ⊥) → (text ≡ codes "next" → ⊥)
    → ((rest : List ℕ) → text ≡ codes "open " ++ rest → ⊥) → ((rest : List ℕ) → text ≡ codes "send " ++ rest → ⊥)
    → ((rest : List ℕ) → text ≡ codes "kept " ++ rest → ⊥) → ((rest : List ℕ) → text ≡ codes "keep " ++ rest → ⊥)
    → ((rest : List ℕ) → text ≡ codes "job " ++ rest → ⊥) → (call : Call) → SpellsCall text call → ⊥
no_call text is_now is_next opens sends keeps_read keeps_new jobs calls.Now s = is_now s.1
no_call text is_now is_next opens sends keeps_read keeps_new jobs (calls.Open local) s = opens (local_text local) s.1
no_call text is_now is_next opens sends keeps_read keeps_new jobs calls.Next s = is_next s.1
no_call text is_now is_next opens sends keeps_read keeps_new jobs (calls.Send to bytes) s =
    sends (peer_text to ++ codes " " ++ hex_text bytes) s.1
no_call text is_now is_next opens sends keeps_read keeps_new jobs (calls.Kept ticket) s = keeps_read ticket s.1
no_call text is_now is_next opens sends keeps_read keeps_new jobs (calls.Keep ticket kept) s =
    keeps_new (ticket ++ codes " " ++ record_text kept) s.1
no_call text is_now is_next opens sends keeps_read keeps_new jobs (calls.Job number ticket expires) s =
    jobs (decimal number ++ codes " " ++ ticket ++ codes " " ++ decimal expires) s.1

-- ---- answers

pub no_done : (text : List ℕ) → (text ≡ codes "ok" → ⊥) → (text ≡ codes "fail" → ⊥) → (answer : Answer) → SpellsDone text answer
    → ⊥
no_done text ok fail (answers.Reading reading) s = s.0
no_done text ok fail answers.Done s = ok s.1.1
no_done text ok fail answers.Fails s = fail s.1.1
no_done text ok fail answers.Quiet s = s.0
no_done text ok fail answers.Stop s = s.0
no_done text ok fail (answers.Ended job status) s = s.0
no_done text ok fail (answers.Data from bytes) s = s.0
no_done text ok fail answers.Absent s = s.0
no_done text ok fail (answers.Found kept) s = s.0

pub no_found : (text : List ℕ) → (text ≡ codes "none" → ⊥) → (text ≡ codes "fail" → ⊥)
    → ((kept : Record) → SpellsRecord text kept → ⊥) → (answer : Answer) → SpellsFound text answer → ⊥
no_found text none fail never (answers.Reading reading) s = s.0
no_found text none fail never answers.Done s = s.0
no_found text none fail never answers.Fails s = fail s.1.1
no_found text none fail never answers.Quiet s = s.0
no_found text none fail never answers.Stop s = s.0
no_found text none fail never (answers.Ended job status) s = s.0
no_found text none fail never (answers.Data from bytes) s = s.0
no_found text none fail never answers.Absent s = none s.1.1
no_found text none fail never (answers.Found kept) s = never kept s.1

pub no_reading : (text : List ℕ) → ((n : ℕ) → SpellsNumber text n → ⊥) → (answer : Answer) → SpellsReading text answer → ⊥
no_reading text never (answers.Reading reading) s = never reading s.1
no_reading text never answers.Done s = s.0
no_reading text never answers.Fails s = s.0
no_reading text never answers.Quiet s = s.0
no_reading text never answers.Stop s = s.0
no_reading text never (answers.Ended job status) s = s.0
no_reading text never (answers.Data from bytes) s = s.0
no_reading text never answers.Absent s = s.0
no_reading text never (answers.Found kept) s = s.0

-- a number and a status
abbrev pub SpellsEnded : List ℕ → ℕ → ℤ → Type 0
SpellsEnded rest job status =
    (job < 2 ^ 64) × FitsSigned w32 status × (rest ≡ decimal job ++ 0x20 ∷ signed_decimal status)

pub only_ended : (rest : List ℕ) → ((job : ℕ) (status : ℤ) → SpellsEnded rest job status → ⊥) → (answer : Answer)
    → SpellsArrival (codes "handler " ++ rest) answer → ⊥
only_ended rest none (answers.Reading reading) s = s.0
only_ended rest none answers.Done s = s.0
only_ended rest none answers.Fails s = clash 4 s.1.1 refl
only_ended rest none answers.Quiet s = clash 4 s.1.1 refl
only_ended rest none answers.Stop s = clash 4 s.1.1 refl
only_ended rest none (answers.Ended job status) s =
    none job status
    (s.1.0.0, s.1.0.1, ap (drop 8) s.1.1 ∙ append_assoc (decimal job) (codes " ") (signed_decimal status))
only_ended rest none (answers.Data from bytes) s = clash 4 s.1.1 refl
only_ended rest none answers.Absent s = s.0
only_ended rest none (answers.Found kept) s = s.0

pub only_data : (rest : List ℕ)
    → ((came : Carried) → SpellsDatagram rest came → length came.bytes ≤ DATAGRAM_BYTES → ⊥) → (answer : Answer)
    → SpellsArrival (codes "data " ++ rest) answer → ⊥
only_data rest none (answers.Reading reading) s = s.0
only_data rest none answers.Done s = s.0
only_data rest none answers.Fails s = clash 4 s.1.1 refl
only_data rest none answers.Quiet s = clash 4 s.1.1 refl
only_data rest none answers.Stop s = clash 4 s.1.1 refl
only_data rest none (answers.Ended job status) s = clash 4 s.1.1 refl
only_data rest none (answers.Data from bytes) s =
    none (record { peer = from; bytes = bytes }) (s.1.0.0, s.1.0.1, ap (drop 5) s.1.1) s.1.0.2
only_data rest none answers.Absent s = s.0
only_data rest none (answers.Found kept) s = s.0

pub no_arrival : (text : List ℕ) → (text ≡ codes "quiet" → ⊥) → (text ≡ codes "stop" → ⊥) → (text ≡ codes "fail" → ⊥)
    → ((rest : List ℕ) → text ≡ codes "handler " ++ rest → ⊥) → ((rest : List ℕ) → text ≡ codes "data " ++ rest → ⊥)
    → (answer : Answer) → SpellsArrival text answer → ⊥
no_arrival text quiet stop fail ended carries (answers.Reading reading) s = s.0
no_arrival text quiet stop fail ended carries answers.Done s = s.0
no_arrival text quiet stop fail ended carries answers.Fails s = fail s.1.1
no_arrival text quiet stop fail ended carries answers.Quiet s = quiet s.1.1
no_arrival text quiet stop fail ended carries answers.Stop s = stop s.1.1
no_arrival text quiet stop fail ended carries (answers.Ended job status) s =
    ended (decimal job ++ codes " " ++ signed_decimal status) s.1.1
no_arrival text quiet stop fail ended carries (answers.Data from bytes) s =
    carries (peer_text from ++ codes " " ++ hex_text bytes) s.1.1
no_arrival text quiet stop fail ended carries answers.Absent s = s.0
no_arrival text quiet stop fail ended carries (answers.Found kept) s = s.0

-- ---- fields

-- the fields of a datagram are those that are cut
pub fields_of_datagram : (rest first more second third : List ℕ) (carried : Carried) → IsCut 0x20 rest first more → IsCut 0x20 more second third
    → SpellsDatagram rest carried
    → (first ≡ printed carried.peer.address) × (second ≡ decimal carried.peer.port) × (third ≡ hex_text carried.bytes)
fields_of_datagram rest first more second third carried one two s =
    let address = printed carried.peer.address in
    let port = decimal carried.peer.port in
    let bytes = hex_text carried.bytes in
    let small : carried.peer.port < 2 ^ 64 = omega (arith, s.0.1) in
    let whole : first ++ 0x20 ∷ more ≡ address ++ 0x20 ∷ (port ++ 0x20 ∷ bytes) = sym one.joined ∙ s.2 ∙ three address port bytes in
    let outer = one_cut 0x20 first address more (port ++ 0x20 ∷ bytes) one.plain (address_has_none carried.peer.address s.0.0) whole in
    let inner = one_cut 0x20 second port third bytes two.plain (number_has_none carried.peer.port small) (sym two.joined ∙ outer.1) in
    (outer.0, inner.0, inner.1)

-- and these make one
pub datagram_of_fields : (rest first more second third : List ℕ) (carried : Carried) → IsCut 0x20 rest first more → IsCut 0x20 more second third
    → first ≡ printed carried.peer.address → second ≡ decimal carried.peer.port → third ≡ hex_text carried.bytes
    → rest ≡ peer_text carried.peer ++ codes " " ++ hex_text carried.bytes
datagram_of_fields rest first more second third carried one two is_address is_port is_bytes =
    one.joined ∙ ap (λ l. first ++ 0x20 ∷ l) two.joined
    ∙ ap (λ l. l ++ 0x20 ∷ (second ++ 0x20 ∷ third)) is_address
    ∙ ap (λ l. printed carried.peer.address ++ 0x20 ∷ (l ++ 0x20 ∷ third)) is_port
    ∙ ap (λ l. printed carried.peer.address ++ 0x20 ∷ (decimal carried.peer.port ++ 0x20 ∷ l)) is_bytes
    ∙ sym (three (printed carried.peer.address) (decimal carried.peer.port) (hex_text carried.bytes))
