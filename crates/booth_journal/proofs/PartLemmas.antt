-- What a line of several fields cannot spell: one that is not cut so, or whose part spells nothing.
use Rattle.std.specs.Prelude.{codes, decimal, length}
use Rattle.std.specs.Fmt.{signed_decimal}
use Rattle.std.proofs.Common.{◌≡◌, ◌<◌, ◌^◌, ℕ, ℤ, List, [], ◌∷◌, ◌++◌, refl, sym, ◌∙◌, ap, arith}
use Rattle.booth_base.specs.Address.{printed}
use Rattle.booth_base.specs.declared.address.Address.{Address}
use Rattle.booth_host.specs.declared.datagram.TheConstants.{DATAGRAM_BYTES}
use Rattle.booth_journal.specs.declared.fields.Carried.{Carried}
use Rattle.booth_journal.specs.declared.said.Answer.{Answer}
use Rattle.booth_journal.specs.declared.said.Call.{Call}
use Rattle.booth_journal.specs.Fields.{HasNo, IsCut}
use Rattle.booth_journal.specs.Lines.{hex_text}
use Rattle.booth_journal.specs.Reading.{AreOctets, SpellsAddress, SpellsArrival, SpellsBytes, SpellsCall, SpellsDatagram, SpellsName, SpellsNumber, SpellsPort, SpellsStatus}
use Rattle.booth_journal.proofs.BlankLemmas.{address_has_none, name_has_none, no_cut, number_has_none, one_cut}
use Rattle.booth_journal.proofs.HexLemmas.{encode_long}
use Rattle.booth_journal.proofs.ReadingLemmas.{SpellsEnded, SpellsJob, fields_of_datagram, one_hex, only_data, only_ended, only_job, three}

-- ---- a job

-- its first field is the one that is cut
job_first : (rest first more : List ℕ) (number : ℕ) (ticket : List ℕ) (expires : ℕ) → IsCut 0x20 rest first more
    → SpellsJob rest number ticket expires → (first ≡ decimal number) × (more ≡ ticket ++ 0x20 ∷ decimal expires)
job_first rest first more number ticket expires cut s =
    one_cut 0x20 first (decimal number) more (ticket ++ 0x20 ∷ decimal expires) cut.plain (number_has_none number s.0)
    (sym cut.joined ∙ s.3)

-- and so are the others
job_fields : (rest first more second third : List ℕ) (number : ℕ) (ticket : List ℕ) (expires : ℕ) → IsCut 0x20 rest first more
    → IsCut 0x20 more second third → SpellsJob rest number ticket expires → (second ≡ ticket) × (third ≡ decimal expires)
job_fields rest first more second third number ticket expires one two s =
    let outer = job_first rest first more number ticket expires one s in
    one_cut 0x20 second ticket third (decimal expires) two.plain (name_has_none ticket s.1) (sym two.joined ∙ outer.1)

pub job_cut_once : (rest first more : List ℕ) → IsCut 0x20 rest first more → HasNo 0x20 more → (call : Call)
    → SpellsCall (codes "job " ++ rest) call → ⊥
job_cut_once rest first more cut plain = only_job rest λ number ticket expires s.
    no_cut 0x20 more ticket (decimal expires) plain (job_first rest first more number ticket expires cut s).1

pub no_job_number : (rest first more : List ℕ) → IsCut 0x20 rest first more → ((number : ℕ) → SpellsNumber first number → ⊥)
    → (call : Call) → SpellsCall (codes "job " ++ rest) call → ⊥
no_job_number rest first more cut never = only_job rest λ number ticket expires s.
    never number (s.0, (job_first rest first more number ticket expires cut s).0)

pub no_job_ticket : (rest first more second third : List ℕ) → IsCut 0x20 rest first more → IsCut 0x20 more second third
    → ((name : List ℕ) → SpellsName second name → ⊥) → (call : Call) → SpellsCall (codes "job " ++ rest) call → ⊥
no_job_ticket rest first more second third one two never = only_job rest λ number ticket expires s.
    never ticket (s.1, (job_fields rest first more second third number ticket expires one two s).0)

pub no_job_expires : (rest first more second third : List ℕ) → IsCut 0x20 rest first more → IsCut 0x20 more second third
    → ((expires : ℕ) → SpellsNumber third expires → ⊥) → (call : Call) → SpellsCall (codes "job " ++ rest) call → ⊥
no_job_expires rest first more second third one two never = only_job rest λ number ticket expires s.
    never expires (s.2, (job_fields rest first more second third number ticket expires one two s).1)

-- ---- the end of a job

ended_fields : (rest first second : List ℕ) (job : ℕ) (status : ℤ) → IsCut 0x20 rest first second → SpellsEnded rest job status
    → (first ≡ decimal job) × (second ≡ signed_decimal status)
ended_fields rest first second job status cut s =
    one_cut 0x20 first (decimal job) second (signed_decimal status) cut.plain (number_has_none job s.0) (sym cut.joined ∙ s.2)

pub no_ended_job : (rest first second : List ℕ) → IsCut 0x20 rest first second → ((job : ℕ) → SpellsNumber first job → ⊥)
    → (answer : Answer) → SpellsArrival (codes "handler " ++ rest) answer → ⊥
no_ended_job rest first second cut never = only_ended rest λ job status s.
    never job (s.0, (ended_fields rest first second job status cut s).0)

pub no_ended_status : (rest first second : List ℕ) → IsCut 0x20 rest first second → ((status : ℤ) → SpellsStatus second status → ⊥)
    → (answer : Answer) → SpellsArrival (codes "handler " ++ rest) answer → ⊥
no_ended_status rest first second cut never = only_ended rest λ job status s.
    never status (s.1, (ended_fields rest first second job status cut s).1)

-- ---- a datagram

pub datagram_cut_once : (rest first more : List ℕ) → IsCut 0x20 rest first more → HasNo 0x20 more → (carried : Carried)
    → SpellsDatagram rest carried → ⊥
datagram_cut_once rest first more cut plain carried s =
    let address = printed carried.peer.address in
    let port = decimal carried.peer.port in
    let bytes = hex_text carried.bytes in
    let outer = one_cut 0x20 first address more (port ++ 0x20 ∷ bytes) cut.plain (address_has_none carried.peer.address s.0.0)
    (sym cut.joined ∙ s.2 ∙ three address port bytes) in
    no_cut 0x20 more port bytes plain outer.1

pub no_datagram_address : (rest first more second third : List ℕ) → IsCut 0x20 rest first more → IsCut 0x20 more second third
    → ((address : Address) → SpellsAddress first address → ⊥) → (carried : Carried) → SpellsDatagram rest carried → ⊥
no_datagram_address rest first more second third one two never carried s =
    never carried.peer.address (s.0.0, (fields_of_datagram rest first more second third carried one two s).0)

pub no_datagram_port : (rest first more second third : List ℕ) → IsCut 0x20 rest first more → IsCut 0x20 more second third
    → ((port : ℕ) → SpellsPort second port → ⊥) → (carried : Carried) → SpellsDatagram rest carried → ⊥
no_datagram_port rest first more second third one two never carried s =
    never carried.peer.port (s.0.1, (fields_of_datagram rest first more second third carried one two s).1)

pub no_datagram_bytes : (rest first more second third : List ℕ) → IsCut 0x20 rest first more → IsCut 0x20 more second third
    → ((bytes : List ℕ) → SpellsBytes third bytes → ⊥) → (carried : Carried) → SpellsDatagram rest carried → ⊥
no_datagram_bytes rest first more second third one two never carried s =
    never carried.bytes (s.1, (fields_of_datagram rest first more second third carried one two s).2)

-- one list of bytes is spelled so
pub one_hex_text : (a b : List ℕ) → AreOctets a → AreOctets b → hex_text a ≡ hex_text b → a ≡ b
one_hex_text [] [] of_a of_b same = refl
one_hex_text [] (y ∷ b) of_a of_b same = absurd (omega (arith, encode_long (y ∷ b), ap length same))
one_hex_text (x ∷ a) [] of_a of_b same = absurd (omega (arith, encode_long (x ∷ a), ap length same))
one_hex_text (x ∷ a) (y ∷ b) of_a of_b same = one_hex (x ∷ a) (y ∷ b) of_a of_b same

one_bytes : (rest : List ℕ) (a b : Carried) → SpellsDatagram rest a → SpellsDatagram rest b → a.bytes ≡ b.bytes
one_bytes rest a b s t =
    let small_a : a.peer.port < 2 ^ 64 = omega (arith, s.0.1) in
    let small_b : b.peer.port < 2 ^ 64 = omega (arith, t.0.1) in
    let left = s.2 ∙ three (printed a.peer.address) (decimal a.peer.port) (hex_text a.bytes) in
    let right = t.2 ∙ three (printed b.peer.address) (decimal b.peer.port) (hex_text b.bytes) in
    let outer = one_cut 0x20 (printed a.peer.address) (printed b.peer.address) (decimal a.peer.port ++ 0x20 ∷ hex_text a.bytes)
    (decimal b.peer.port ++ 0x20 ∷ hex_text b.bytes) (address_has_none a.peer.address s.0.0)
    (address_has_none b.peer.address t.0.0) (sym left ∙ right) in
    let inner = one_cut 0x20 (decimal a.peer.port) (decimal b.peer.port) (hex_text a.bytes) (hex_text b.bytes)
    (number_has_none a.peer.port small_a) (number_has_none b.peer.port small_b) outer.1 in
    one_hex_text a.bytes b.bytes s.1 t.1 inner.1

-- one of too many bytes did not come
pub too_long : (rest : List ℕ) (came : Carried) → SpellsDatagram rest came → DATAGRAM_BYTES < length came.bytes → (answer : Answer)
    → SpellsArrival (codes "data " ++ rest) answer → ⊥
too_long rest came spells long = only_data rest λ other also short.
    omega (arith, long, short, ap length (one_bytes rest came other spells also))
