-- A text has its lines once: it says one list of calls, or has one first fault.
use Rattle.std.specs.Prelude.{codes, length, drop, Option, None, Some}
use Rattle.std.specs.List.{All, flat_map}
use Rattle.std.proofs.Common.{◌≡◌, ◌+◌, ℕ, suc, List, [], ◌∷◌, ◌++◌, refl, sym, ◌∙◌, ap, subst, arith, append_assoc}
use Rattle.std.proofs.lemmas.List.Elements.{All-head, All-tail}
use Rattle.booth_journal.specs.declared.said.Answer.{Answer}
use Rattle.booth_journal.specs.declared.said.Call.{Call}
use Rattle.booth_journal.specs.Lines.{answer_text, call_text, line}
use Rattle.booth_journal.specs.Says.{AreWhole, IsAnswered, Said, TextsSayOneList, answer_lines, lines_saying}
use Rattle.booth_journal.specs.Texts.{AreSaid, Follows, IsInside, JournalsHaveNoFault, TextsHaveOneFault}
use Rattle.booth_journal.proofs.BlankLemmas.{no_cut, one_cut}
use Rattle.booth_journal.proofs.OneLemmas.{no_answer_is_now, one_answer, one_call}
use Rattle.booth_journal.proofs.PlainLemmas.{answer_inside, call_inside}

-- ---- lines

-- no byte of any ends a line
abbrev AllInside : List (List ℕ) → Type 0
AllInside [] = Unit {0}
AllInside (text ∷ texts) = IsInside text × AllInside texts

each_inside : (texts : List (List ℕ)) → All IsInside texts → AllInside texts
each_inside [] all = tt
each_inside (text ∷ texts) all = (All-head IsInside text texts all, each_inside texts (All-tail IsInside text texts all))

-- the first line, and what is behind its end
pub first_line : (text more behind : List ℕ) → (line text ++ more) ++ behind ≡ text ++ 0x0A ∷ (more ++ behind)
first_line text more behind = append_assoc (line text) more behind ∙ append_assoc text (codes "\n") (more ++ behind)

same_lines : (xs ys : List (List ℕ)) (s t : List ℕ) → AllInside xs → AllInside ys → IsInside s → IsInside t
    → flat_map line xs ++ s ≡ flat_map line ys ++ t → xs ≡ ys
same_lines [] [] s t of_xs of_ys of_s of_t same = refl
same_lines [] (y ∷ ys) s t of_xs of_ys of_s of_t same =
    absurd (no_cut 0x0A s y (flat_map line ys ++ t) of_s (same ∙ first_line y (flat_map line ys) t))
same_lines (x ∷ xs) [] s t of_xs of_ys of_s of_t same =
    absurd (no_cut 0x0A t x (flat_map line xs ++ s) of_t (sym same ∙ first_line x (flat_map line xs) s))
same_lines (x ∷ xs) (y ∷ ys) s t of_xs of_ys of_s of_t same =
    let first = one_cut 0x0A x y (flat_map line xs ++ s) (flat_map line ys ++ t) of_xs.0 of_ys.0
    (sym (first_line x (flat_map line xs) s) ∙ same ∙ first_line y (flat_map line ys) t) in
    ap (λ l. l ∷ xs) first.0 ∙ ap (λ l. y ∷ l) (same_lines xs ys s t of_xs.1 of_ys.1 of_s of_t first.1)

-- ---- calls

with_answer : (call : Call) (answer : Option Answer) (more : List Said) (rest : List (List ℕ)) → IsAnswered call answer more
    → AllInside rest → AllInside (answer_lines answer ++ rest)
with_answer call None more rest is of_rest = of_rest
with_answer call (Some answer) more rest is of_rest = (answer_inside answer is.1, of_rest)

saying_inside : (all : List Said) → AreWhole all → AllInside (flat_map lines_saying all)
saying_inside [] whole = tt
saying_inside (said ∷ more) whole = (
  call_inside said.call whole.0,
  with_answer said.call said.answer more (flat_map lines_saying more) whole.1 (saying_inside more whole.2),
)

abbrev first_of : List (List ℕ) → List ℕ
first_of [] = []
first_of (text ∷ texts) = text

-- behind a call without an answer stands none
no_answer_behind : (call : Call) (xs : List Said) (answer : Answer) (rest : List (List ℕ)) → IsAnswered call None xs
    → IsAnswered call (Some answer) xs → flat_map lines_saying xs ≡ answer_text answer ∷ rest → ⊥
no_answer_behind call [] answer rest none is same = omega (arith, ap length same)
no_answer_behind call (said ∷ more) answer rest none is same =
    no_answer_is_now call answer (is.0, (is.1, ap call_text (sym none) ∙ ap first_of same))

same_answers : (call : Call) (p q : Option Answer) (xs ys : List Said) → IsAnswered call p xs → IsAnswered call q ys
    → answer_lines p ++ flat_map lines_saying xs ≡ answer_lines q ++ flat_map lines_saying ys
    → (p ≡ q) × (flat_map lines_saying xs ≡ flat_map lines_saying ys)
same_answers call None None xs ys of_p of_q same = (refl, same)
same_answers call None (Some b) xs ys of_p of_q same =
    absurd (no_answer_behind call xs b (flat_map lines_saying ys) of_p of_q same)
same_answers call (Some a) None xs ys of_p of_q same =
    absurd (no_answer_behind call ys a (flat_map lines_saying xs) of_q of_p (sym same))
same_answers call (Some a) (Some b) xs ys of_p of_q same = (
  ap Some (one_answer call (answer_text a) a b (of_p.0, (of_p.1, refl)) (of_q.0, (of_q.1, ap first_of same))),
  ap (drop 1) same,
)

same_said : (x y : Said) → x.call ≡ y.call → x.answer ≡ y.answer → x ≡ y
same_said x y call answer =
    let first : x ≡ record { call = y.call; answer = x.answer } =
    ap (λ (c : Call). let said : Said = record { call = c; answer = x.answer } in said) call in
    first ∙ ap (λ (a : Option Answer). let said : Said = record { call = y.call; answer = a } in said) answer

one_list : (a b : List Said) → AreWhole a → AreWhole b → flat_map lines_saying a ≡ flat_map lines_saying b → a ≡ b
one_list [] [] of_a of_b same = refl
one_list [] (y ∷ ys) of_a of_b same = absurd (omega (arith, ap length same))
one_list (x ∷ xs) [] of_a of_b same = absurd (omega (arith, ap length same))
one_list (x ∷ xs) (y ∷ ys) of_a of_b same =
    let call : x.call ≡ y.call =
    one_call (call_text x.call) x.call y.call (of_a.0, refl) (of_b.0, ap first_of same) in
    let rest = same_answers x.call x.answer y.answer xs ys of_a.1 (subst (λ c. IsAnswered c y.answer ys) (sym call) of_b.1)
    (ap (drop 1) same) in
    ap (λ s. s ∷ xs) (same_said x y call rest.0) ∙ ap (λ l. y ∷ l) (one_list xs ys of_a.2 of_b.2 rest.1)

pub one_list_said : TextsSayOneList
one_list_said text a b says also =
    one_list a b says.each also.each
    (same_lines (flat_map lines_saying a) (flat_map lines_saying b) says.tail also.tail (saying_inside a says.each)
    (saying_inside b also.each) says.rest also.rest (sym says.whole ∙ also.whole))

-- ---- faults

one_follows : (before : Option Call) (text : List ℕ) (a b : Option Call) → Follows before text a → Follows before text b
    → a ≡ b
one_follows None text None b s t = absurd s
one_follows None text (Some a) None s t = absurd t
one_follows None text (Some a) (Some b) s t = ap Some (one_call text a b s t)
one_follows (Some call) text None None s t = refl
one_follows (Some call) text None (Some b) s t =
    absurd (no_answer_is_now call s.0 (s.1.0, (s.1.1.0, sym t.1 ∙ s.1.1.1)))
one_follows (Some call) text (Some a) None s t =
    absurd (no_answer_is_now call t.0 (t.1.0, (t.1.1.0, sym s.1 ∙ t.1.1.1)))
one_follows (Some call) text (Some a) (Some b) s t = ap Some (s.0 ∙ sym t.0)

-- lines that go on behind others, of which the last says nothing there
goes_on : (start : Option Call) (xs ys : List (List ℕ)) (tail wrong behind : List ℕ) (after before : Option Call)
    → AllInside xs → AllInside ys → IsInside tail → IsInside wrong → AreSaid start xs after → AreSaid start ys before
    → ((next : Option Call) → Follows before wrong next → ⊥)
    → flat_map line xs ++ tail ≡ (flat_map line ys ++ line wrong) ++ behind → ⊥
goes_on start [] [] tail wrong behind after before of_xs of_ys of_tail of_wrong said also never same =
    no_cut 0x0A tail wrong behind of_tail (same ∙ append_assoc wrong (codes "\n") behind)
goes_on start [] (y ∷ ys) tail wrong behind after before of_xs of_ys of_tail of_wrong said also never same =
    no_cut 0x0A tail y ((flat_map line ys ++ line wrong) ++ behind) of_tail
    (same ∙ ap (λ l. l ++ behind) (append_assoc (line y) (flat_map line ys) (line wrong))
    ∙ first_line y (flat_map line ys ++ line wrong) behind)
goes_on start (x ∷ xs) [] tail wrong behind after before of_xs of_ys of_tail of_wrong said also never same =
    let first = one_cut 0x0A x wrong (flat_map line xs ++ tail) behind of_xs.0 of_wrong
    (sym (first_line x (flat_map line xs) tail) ∙ same ∙ append_assoc wrong (codes "\n") behind) in
    never said.0 (subst (λ b. Follows b wrong said.0) also (subst (λ l. Follows start l said.0) first.0 said.1))
goes_on start (x ∷ xs) (y ∷ ys) tail wrong behind after before of_xs of_ys of_tail of_wrong said also never same =
    let rest : List ℕ = (flat_map line ys ++ line wrong) ++ behind in
    let first = one_cut 0x0A x y (flat_map line xs ++ tail) rest of_xs.0 of_ys.0
    (sym (first_line x (flat_map line xs) tail) ∙ same
    ∙ ap (λ l. l ++ behind) (append_assoc (line y) (flat_map line ys) (line wrong))
    ∙ first_line y (flat_map line ys ++ line wrong) behind) in
    let between = one_follows start y said.0 also.0 (subst (λ l. Follows start l said.0) first.0 said.1) also.1 in
    goes_on said.0 xs ys tail wrong behind after before of_xs.1 of_ys.1 of_tail of_wrong said.2
    (subst (λ b. AreSaid b ys before) (sym between) also.2) never first.1

pub no_fault : JournalsHaveNoFault
no_fault text n journal fault =
    goes_on None journal.lines fault.lines journal.tail fault.wrong fault.behind journal.after fault.before
    (each_inside journal.lines journal.each) (each_inside fault.lines fault.each) journal.rest fault.inside journal.said
    fault.said fault.never (sym journal.whole ∙ fault.whole)

-- two first faults stand behind as many lines
one_place : (start : Option Call) (xs ys : List (List ℕ)) (v w b c : List ℕ) (p q : Option Call) → AllInside xs → AllInside ys
    → IsInside v → IsInside w → AreSaid start xs p → AreSaid start ys q → ((next : Option Call) → Follows p v next → ⊥)
    → ((next : Option Call) → Follows q w next → ⊥)
    → (flat_map line xs ++ line v) ++ b ≡ (flat_map line ys ++ line w) ++ c → length xs ≡ length ys
one_place start [] [] v w b c p q of_xs of_ys of_v of_w said also no_v no_w same = refl
one_place start [] (y ∷ ys) v w b c p q of_xs of_ys of_v of_w said also no_v no_w same =
    let first = one_cut 0x0A v y b ((flat_map line ys ++ line w) ++ c) of_v of_ys.0
    (sym (append_assoc v (codes "\n") b) ∙ same ∙ ap (λ l. l ++ c) (append_assoc (line y) (flat_map line ys) (line w))
    ∙ first_line y (flat_map line ys ++ line w) c) in
    absurd (no_v also.0 (subst (λ k. Follows k v also.0) said (subst (λ l. Follows start l also.0) (sym first.0) also.1)))
one_place start (x ∷ xs) [] v w b c p q of_xs of_ys of_v of_w said also no_v no_w same =
    let first = one_cut 0x0A x w ((flat_map line xs ++ line v) ++ b) c of_xs.0 of_w
    (sym (first_line x (flat_map line xs ++ line v) b)
    ∙ ap (λ l. l ++ b) (sym (append_assoc (line x) (flat_map line xs) (line v))) ∙ same ∙ append_assoc w (codes "\n") c) in
    absurd (no_w said.0 (subst (λ k. Follows k w said.0) also (subst (λ l. Follows start l said.0) first.0 said.1)))
one_place start (x ∷ xs) (y ∷ ys) v w b c p q of_xs of_ys of_v of_w said also no_v no_w same =
    let first = one_cut 0x0A x y ((flat_map line xs ++ line v) ++ b) ((flat_map line ys ++ line w) ++ c) of_xs.0 of_ys.0
    (sym (first_line x (flat_map line xs ++ line v) b)
    ∙ ap (λ l. l ++ b) (sym (append_assoc (line x) (flat_map line xs) (line v))) ∙ same
    ∙ ap (λ l. l ++ c) (append_assoc (line y) (flat_map line ys) (line w))
    ∙ first_line y (flat_map line ys ++ line w) c) in
    let between = one_follows start y said.0 also.0 (subst (λ l. Follows start l said.0) first.0 said.1) also.1 in
    ap suc (one_place said.0 xs ys v w b c p q of_xs.1 of_ys.1 of_v of_w said.2
    (subst (λ k. AreSaid k ys q) (sym between) also.2) no_v no_w first.1)

pub one_fault : TextsHaveOneFault
one_fault text m n fault other =
    fault.count
    ∙ ap (λ k. k + 1) (one_place None fault.lines other.lines fault.wrong other.wrong fault.behind other.behind fault.before
    other.before (each_inside fault.lines fault.each) (each_inside other.lines other.each) fault.inside other.inside
    fault.said other.said fault.never other.never (sym fault.whole ∙ other.whole)) ∙ sym other.count
