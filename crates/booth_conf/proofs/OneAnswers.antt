-- Each text says one configuration, or has one first fault.
use Rattle.std.proofs.Common.{◌≡◌, ◌≤◌, ◌<◌, ◌+◌, ℕ, zero, suc, List, length, take, get_or, Option, Some, None, refl, arith, ap, ◌∙◌, sym, subst, inl, inr, ◌⊎◌, below_more}
use Rattle.booth_conf.specs.Rules.{line_fault, AreFine, IsFirstFault}
use Rattle.booth_conf.specs.Reads.{lines_of, said_lines, fault_at}
use Rattle.booth_conf.specs.Config.{ConfigSays, file_fault}
use Rattle.booth_conf.specs.Says.{said_config, Says, HasLineFault, HasFileFault, IsFault, OneAnswer}
use Rattle.booth_conf.specs.declared.limits.TheConstants.{TEXT_BYTES}
use Rattle.booth_conf.specs.declared.line_meaning.Said.{Said}
use Rattle.booth_conf.specs.declared.line_meaning.Said.TheVariants.{Empty}
use Rattle.booth_conf.specs.declared.faults.ConfFault.{ConfFault}
use Rattle.booth_conf.specs.declared.faults.ConfFault.TheVariants.{TooLarge, Syntax, UnknownKey, Misplaced, BadValue, Repeated, DefaultLate, TooMany, NoSite, NoTicket, IdClash, Renewal, RetryTime, OutOfMemory}
use Rattle.booth_conf.specs.declared.faults.LineFault.{LineFault}
use Rattle.booth_conf.specs.declared.faults.LineFault.TheVariants as faults
use Rattle.booth_conf.proofs.SaidLemmas.{all_said_found, all_said_only}
use Rattle.booth_conf.proofs.ParseLemmas.{file_fault_is, line_fault_is}

-- THREE KINDS of answers, over what the lines of the text say

pub record FaultOfLine (text : List ℕ) (fault : ConfFault) : Type 0 where
  pub short : length text ≤ TEXT_BYTES
  pub place : ℕ
  pub kind : LineFault
  pub is : fault ≡ fault_at (place + 1) kind
  pub first_one : IsFirstFault (said_lines text) place kind

pub record FaultOfFile (text : List ℕ) (fault : ConfFault) : Type 0 where
  pub short : length text ≤ TEXT_BYTES
  pub fine : AreFine (said_lines text)
  pub first_one : file_fault (said_config (said_lines text)).members (said_config (said_lines text)).tickets ≡ Some fault

pub record FaultOfSize (text : List ℕ) (fault : ConfFault) : Type 0 where
  pub is : fault ≡ TooLarge
  pub large : TEXT_BYTES < length text

abbrev Kinds : List ℕ → ConfFault → Type 0
Kinds text fault = FaultOfSize text fault ⊎ FaultOfLine text fault ⊎ FaultOfFile text fault

of_line : (text : List ℕ) (line : ℕ) (kind : LineFault) → HasLineFault text line kind →
    FaultOfLine text (fault_at line kind)
of_line text line kind h = record {
  short = h.short;
  place = h.place;
  kind = kind;
  is = ap (λ n. fault_at n kind) h.number;
  first_one =
      subst (λ ss. IsFirstFault ss h.place kind) (all_said_only (lines_of text) h.said h.reads) h.first_one;
}

of_file : (text : List ℕ) (fault : ConfFault) → HasFileFault text fault → FaultOfFile text fault
of_file text fault h =
    let same : h.said ≡ said_lines text = all_said_only (lines_of text) h.said h.reads in
    record {
      short = h.short;
      fine = subst AreFine same h.fine;
      first_one = subst (λ ss. file_fault (said_config ss).members (said_config ss).tickets ≡ Some fault) same h.first_one;
    }

kinds_of : (text : List ℕ) (f : ConfFault) → IsFault text f → Kinds text f
kinds_of text TooLarge h = inl (record { is = refl; large = h })
kinds_of text (Syntax line) h = inr (inl (of_line text line faults.Syntax h))
kinds_of text (UnknownKey line) h = inr (inl (of_line text line faults.UnknownKey h))
kinds_of text (Misplaced line) h = inr (inl (of_line text line faults.Misplaced h))
kinds_of text (BadValue line key) h = inr (inl (of_line text line (faults.BadValue key) h))
kinds_of text (Repeated line) h = inr (inl (of_line text line faults.Repeated h))
kinds_of text (DefaultLate line) h = inr (inl (of_line text line faults.DefaultLate h))
kinds_of text (TooMany line) h = inr (inl (of_line text line faults.TooMany h))
kinds_of text NoSite h = inr (inr (of_file text NoSite h))
kinds_of text NoTicket h = inr (inr (of_file text NoTicket h))
kinds_of text (IdClash i j) h = inr (inr (of_file text (IdClash i j) h))
kinds_of text (Renewal ticket) h = inr (inr (of_file text (Renewal ticket) h))
kinds_of text (RetryTime ticket) h = inr (inr (of_file text (RetryTime ticket) h))
kinds_of text OutOfMemory h = absurd h

-- TWO FAULTS ARE ONE

first_before : (ss : List Said) (n m : ℕ) (k l : LineFault) → IsFirstFault ss n k →
    IsFirstFault ss m l → n < m → ⊥
first_before ss n m k l i j h = let e : Some k ≡ None = sym i.here ∙ j.earlier n h in cc

same_kind : (ss : List Said) (n m : ℕ) (k l : LineFault) → IsFirstFault ss n k →
    IsFirstFault ss m l → n ≡ m → k ≡ l
same_kind ss n m k l i j e = let f : Some k ≡ Some l = sym i.here ∙ ap (λ x. line_fault (take x ss) (get_or ss x Empty)) e ∙ j.here in cc

same_place : (ss : List Said) (n m : ℕ) (k l : LineFault) → IsFirstFault ss n k →
    IsFirstFault ss m l → n ≡ m
same_place ss n m k l i j =
    let a : n < m → ⊥ = first_before ss n m k l i j in
    let b : m < n → ⊥ = first_before ss m n l k j i in
    omega (arith, a, b)

fine_no_fault : (ss : List Said) (n : ℕ) (k : LineFault) → AreFine ss → IsFirstFault ss n k → ⊥
fine_no_fault ss n k f i = let e : Some k ≡ None = sym i.here ∙ f n i.within in cc

same_fault : (text : List ℕ) (f g : ConfFault) → Kinds text f → Kinds text g → f ≡ g
same_fault text f g (inl a) (inl b) = a.is ∙ sym b.is
same_fault text f g (inl a) (inr (inl b)) = absurd (omega (arith, a.large, b.short))
same_fault text f g (inl a) (inr (inr b)) = absurd (omega (arith, a.large, b.short))
same_fault text f g (inr (inl a)) (inl b) = absurd (omega (arith, b.large, a.short))
same_fault text f g (inr (inl a)) (inr (inl b)) =
    let place : a.place ≡ b.place =
    same_place (said_lines text) a.place b.place a.kind b.kind a.first_one b.first_one in
    let kind : a.kind ≡ b.kind =
    same_kind (said_lines text) a.place b.place a.kind b.kind a.first_one b.first_one place in
    a.is ∙ ap (λ n. fault_at (n + 1) a.kind) place ∙ ap (λ k. fault_at (b.place + 1) k) kind
    ∙ sym b.is
same_fault text f g (inr (inl a)) (inr (inr b)) =
    absurd (fine_no_fault (said_lines text) a.place a.kind b.fine a.first_one)
same_fault text f g (inr (inr a)) (inl b) = absurd (omega (arith, b.large, a.short))
same_fault text f g (inr (inr a)) (inr (inl b)) =
    absurd (fine_no_fault (said_lines text) b.place b.kind a.fine b.first_one)
same_fault text f g (inr (inr a)) (inr (inr b)) = let e : Some f ≡ Some g = sym a.first_one ∙ b.first_one in cc

-- A CONFIGURATION AND NO FAULT

pub record SaidConfig (text : List ℕ) (c : ConfigSays) : Type 0 where
  pub short : length text ≤ TEXT_BYTES
  pub fine : AreFine (said_lines text)
  pub value : c ≡ said_config (said_lines text)
  pub whole : file_fault c.members c.tickets ≡ None

config_of_text : (text : List ℕ) (c : ConfigSays) → Says text c → SaidConfig text c
config_of_text text c h =
    let same : h.said ≡ said_lines text = all_said_only (lines_of text) h.said h.reads in
    record { short = h.short; fine = subst AreFine same h.fine; value = h.value ∙ ap said_config same; whole = h.whole }

no_fault : (text : List ℕ) (c : ConfigSays) (f : ConfFault) → SaidConfig text c → Kinds text f → ⊥
no_fault text c f h (inl a) = omega (arith, a.large, h.short)
no_fault text c f h (inr (inl a)) =
    fine_no_fault (said_lines text) a.place a.kind h.fine a.first_one
no_fault text c f h (inr (inr a)) =
    let e : Some f ≡ None = sym a.first_one ∙ ap (λ (x : ConfigSays). file_fault x.members x.tickets) (sym h.value) ∙ h.whole in cc

-- ONE OF THEM IS THERE

abbrev Upto : List Said → ℕ → Type 0
Upto ss n = (m : ℕ) → m < n → line_fault (take m ss) (get_or ss m Empty) ≡ None

-- the first fault of the lines up to place n, where there is one
pub record FaultBelow (ss : List Said) (n : ℕ) : Type 0 where
  pub place : ℕ
  pub kind : LineFault
  pub below : place < n
  pub here : line_fault (take place ss) (get_or ss place Empty) ≡ Some kind
  pub earlier : Upto ss place

later : (ss : List Said) (n : ℕ) → FaultBelow ss n → FaultBelow ss (n + 1)
later ss n f = record { place = f.place; kind = f.kind; below = omega (arith, f.below); here = f.here; earlier = f.earlier }

next_line : (ss : List Said) (n : ℕ) (o : Option LineFault) →
    line_fault (take n ss) (get_or ss n Empty) ≡ o → Upto ss n →
    Upto ss (n + 1) ⊎ FaultBelow ss (n + 1)
next_line ss n None e fine =
    inl (below_more (λ m. line_fault (take m ss) (get_or ss m Empty) ≡ None) n fine e)
next_line ss n (Some k) e fine =
    inr (record { place = n; kind = k; below = omega arith; here = e; earlier = fine })

more_lines : (ss : List Said) (n : ℕ) → Upto ss n ⊎ FaultBelow ss n →
    Upto ss (n + 1) ⊎ FaultBelow ss (n + 1)
more_lines ss n (inl fine) = next_line ss n (line_fault (take n ss) (get_or ss n Empty)) refl fine
more_lines ss n (inr f) = inr (later ss n f)

no_lines : (ss : List Said) → Upto ss 0
no_lines ss m h = absurd (omega arith)

fine_or_fault : (ss : List Said) (n : ℕ) → Upto ss n ⊎ FaultBelow ss n
fine_or_fault ss zero = inl (no_lines ss)
fine_or_fault ss (suc n) =
    let k : n + 1 ≡ suc n = omega arith in
    subst (λ m. Upto ss m ⊎ FaultBelow ss m) k (more_lines ss n (fine_or_fault ss n))

abbrev Answer : List ℕ → Type 0
Answer text =
    ((config : ConfigSays) × Says text config) ⊎ ((fault : ConfFault) × IsFault text fault)

fine_answer : (text : List ℕ) (o : Option ConfFault) → length text ≤ TEXT_BYTES →
    AreFine (said_lines text) →
    file_fault (said_config (said_lines text)).members (said_config (said_lines text)).tickets ≡ o →
    Answer text
fine_answer text None short fine e = inl (
  said_config (said_lines text),
  record {
    short = short;
    said = said_lines text;
    reads = all_said_found (lines_of text);
    fine = fine;
    value = refl;
    whole = e;
  },
)
fine_answer text (Some f) short fine e = inr (
  f,
  file_fault_is text f (record {
    short = short;
    said = said_lines text;
    reads = all_said_found (lines_of text);
    fine = fine;
    first_one = e;
  }),
)

short_answer : (text : List ℕ) → length text ≤ TEXT_BYTES →
    Upto (said_lines text) (length (said_lines text)) ⊎ FaultBelow (said_lines text) (length (said_lines text)) →
    Answer text
short_answer text short (inl fine) =
    fine_answer text (file_fault (said_config (said_lines text)).members (said_config (said_lines text)).tickets) short fine refl
short_answer text short (inr f) = inr (
  fault_at (f.place + 1) f.kind,
  line_fault_is text (f.place + 1) f.kind (record {
    short = short;
    said = said_lines text;
    reads = all_said_found (lines_of text);
    place = f.place;
    number = refl;
    first_one = record { within = f.below; here = f.here; earlier = f.earlier };
  }),
)

size_answer : (text : List ℕ) → (length text ≤ TEXT_BYTES) ⊎ (TEXT_BYTES < length text) →
    Answer text
size_answer text (inl short) =
    short_answer text short (fine_or_fault (said_lines text) (length (said_lines text)))
size_answer text (inr large) = inr (TooLarge, large)

size_cases : (n most : ℕ) → (n ≤ most) ⊎ (most < n)
size_cases n most = grind arith

pub one_answer : (text : List ℕ) → OneAnswer text
one_answer text = record {
  answer = size_answer text (size_cases (length text) TEXT_BYTES);
  one_config = λ c d h k. (config_of_text text c h).value ∙ sym (config_of_text text d k).value;
  one_fault = λ f g h k. same_fault text f g (kinds_of text f h) (kinds_of text g k);
  not_both = λ c f h k. no_fault text c f (config_of_text text c h) (kinds_of text f k);
}
