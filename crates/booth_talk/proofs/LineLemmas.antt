-- Lines as they are shown, one after the other.
use Rattle.std.proofs.Common.{◌≡◌, ◌+◌, ◌<◌, ◌≤◌, ℕ, suc, List, [], ◌∷◌, ◌++◌, length, take, drop, get_or, inl, inr, refl, sym, ap, ◌∙◌, subst, arith, append-nil, append_assoc}
use Rattle.std.proofs.Math.Seq.{take-suc, drop-cons}
use Rattle.std.proofs.lemmas.Bool.{cases_lt}
use Rattle.std.proofs.lemmas.List.{get_or_default, length-take-le, take_all, drop_all}
use Rattle.booth_talk.specs.declared.lines.Form.{Form}
use Rattle.booth_talk.specs.declared.lines.Form.TheVariants as forms
use Rattle.booth_talk.specs.declared.lines.LineKind.{LineKind}
use Rattle.booth_talk.specs.Fields.{first, rest}
use Rattle.booth_talk.specs.Forms.{AreLines, IsLine, kind_at, labelled, shown_from, shown_line}

-- ---- labels

-- one label and its field
one_labelled : (labels : List (List ℕ)) (n : ℕ) (label text : List ℕ) → n < length labels → label ≡ get_or labels n label →
    labelled (drop n labels) text ≡ label ++ first text ++ labelled (drop (n + 1) labels) (rest text)
unfolding labelled
one_labelled labels n label text lt at =
    let next : suc n ≡ n + 1 = omega arith in
    ap (λ ls. labelled ls text) (drop-cons labels n label lt)
    ∙ ap (λ k. get_or labels n label ++ first text ++ labelled (drop k labels) (rest text)) next
    ∙ ap (λ l. l ++ first text ++ labelled (drop (n + 1) labels) (rest text)) (sym at)

-- one label and its field were put behind what was shown
pub one_shown : (labels : List (List ℕ)) (n : ℕ) (label text shown one two whole : List ℕ) → n < length labels → label ≡ get_or labels n label →
    shown ++ labelled (drop n labels) text ≡ whole → one ≡ shown ++ label → two ≡ one ++ first text →
    two ++ labelled (drop (n + 1) labels) (rest text) ≡ whole
one_shown labels n label text shown one two whole lt at so_far put_label put_field =
    ap (λ b. b ++ labelled (drop (n + 1) labels) (rest text)) (put_field ∙ ap (λ b. b ++ first text) put_label)
    ∙ ap (λ b. b ++ labelled (drop (n + 1) labels) (rest text)) (append_assoc shown label (first text))
    ∙ append_assoc shown (label ++ first text) _
    ∙ ap (λ b. shown ++ b) (sym (one_labelled labels n label text lt at)) ∙ so_far

no_label : (labels : List (List ℕ)) (n : ℕ) (text : List ℕ) → length labels ≤ n → labelled (drop n labels) text ≡ []
unfolding labelled
no_label labels n text le = ap (λ ls. labelled ls text) (drop_all n labels le)

-- behind the last label
pub labels_shown : (labels : List (List ℕ)) (n : ℕ) (text shown whole : List ℕ) → length labels ≤ n → shown ++ labelled (drop n labels) text ≡ whole →
    shown ≡ whole
labels_shown labels n text shown whole le so_far =
    sym (append-nil shown) ∙ ap (λ b. shown ++ b) (sym (no_label labels n text le)) ∙ so_far

-- three pieces, one behind the other
pub three_shown : (old a b c one two three : List ℕ) → one ≡ old ++ a → two ≡ one ++ b → three ≡ two ++ c → three ≡ old ++ ((a ++ b) ++ c)
three_shown old a b c one two three first_put second_put third_put =
    third_put ∙ ap (λ x. x ++ c) (second_put ∙ ap (λ x. x ++ b) first_put ∙ append_assoc old a b) ∙ append_assoc old (a ++ b) c

-- ---- lines

shown_push : (form : Form) (place : ℕ) (lines : List (List ℕ)) (line : List ℕ) →
    shown_from form place (lines ++ line ∷ []) ≡ shown_from form place lines ++ shown_line (kind_at form (place + length lines)) line
unfolding shown_from
shown_push form place [] line =
    let same : place ≡ place + 0 = omega arith in
    append-nil (shown_line (kind_at form place) line) ∙ ap (λ k. shown_line (kind_at form k) line) same
shown_push form place (l ∷ lines) line =
    let same : place + 1 + length lines ≡ place + suc (length lines) = omega arith in
    ap (λ t. shown_line (kind_at form place) l ++ t) (shown_push form (place + 1) lines line)
    ∙ ap (λ k. shown_line (kind_at form place) l ++ (shown_from form (place + 1) lines ++ shown_line (kind_at form k) line)) same
    ∙ sym (append_assoc (shown_line (kind_at form place) l) (shown_from form (place + 1) lines) _)

next_kind : (form : Form) (n : ℕ) → kind_at form 1 ≡ kind_at form (n + 1)
next_kind forms.List n = refl
next_kind forms.Peers n =
    let next : suc n ≡ n + 1 = omega arith in
    subst (λ k. kind_at forms.Peers 1 ≡ kind_at forms.Peers k) next refl

-- so many lines are of their kinds, and shown; the next one is to be of this kind
pub record AreShown (form : Form) (lines : List (List ℕ)) (n : ℕ) (kind : LineKind) (shown : List ℕ) : Type 0 where
  pub next : kind ≡ kind_at form n
  pub fine : (m : ℕ) → m < n → IsLine (kind_at form m) (get_or lines m [])
  pub bytes : shown ≡ shown_from form 0 (take n lines)

pub none_shown : (form : Form) (lines : List (List ℕ)) → AreShown form lines 0 (kind_at form 0) []
unfolding shown_from
none_shown form lines = record { next = refl; fine = λ m lt. absurd (omega (arith, lt)); bytes = refl }

pub one_more_shown : (form : Form) (lines : List (List ℕ)) (n : ℕ) (kind next : LineKind) (line shown new : List ℕ) →
    AreShown form lines n kind shown → n < length lines → line ≡ get_or lines n line → IsLine kind line →
    new ≡ shown ++ shown_line kind line → next ≡ kind_at form 1 → AreShown form lines (n + 1) next new
one_more_shown form lines n kind next line shown new s lt at is grew follows =
    let here : line ≡ get_or lines n [] = at ∙ get_or_default lines n line [] lt in
    let long : length (take n lines) ≡ n = length-take-le n lines (omega (arith, lt)) in
    let after : suc n ≡ n + 1 = omega arith in
    let zeroth : 0 + length (take n lines) ≡ n = omega (arith, long) in
    record {
      next = follows ∙ next_kind form n;
      fine = λ m below. elim (cases_lt m n) [
        | inl less ↦ s.fine m less
        | inr ge ↦
            let same : n ≡ m = omega (arith, below, ge) in
            subst (λ k. IsLine (kind_at form k) (get_or lines k [])) same
            (subst (λ l. IsLine (kind_at form n) l) here (subst (λ k. IsLine k line) s.next is))
      ];
      bytes = grew ∙ ap (λ b. b ++ shown_line kind line) s.bytes
          ∙ ap (λ k. shown_from form 0 (take n lines) ++ shown_line k line) s.next
          ∙ ap (λ l. shown_from form 0 (take n lines) ++ shown_line (kind_at form n) l) here
          ∙ ap (λ k. shown_from form 0 (take n lines) ++ shown_line (kind_at form k) (get_or lines n [])) (sym zeroth)
          ∙ sym (shown_push form 0 (take n lines) (get_or lines n []))
          ∙ ap (λ ls. shown_from form 0 ls) (sym (take-suc lines n [] lt))
          ∙ ap (λ k. shown_from form 0 (take k lines)) after;
    }

-- a line that is not of its kind
pub one_bad : (form : Form) (lines : List (List ℕ)) (n : ℕ) (kind : LineKind) (line shown : List ℕ) →
    AreShown form lines n kind shown → n < length lines → line ≡ get_or lines n line → (IsLine kind line → ⊥) → AreLines form lines → ⊥
one_bad form lines n kind line shown s lt at never all =
    let here : line ≡ get_or lines n [] = at ∙ get_or_default lines n line [] lt in
    never (subst (λ k. IsLine k line) (sym s.next) (subst (λ l. IsLine (kind_at form n) l) (sym here) (all n lt)))

pub all_shown : (form : Form) (lines : List (List ℕ)) (n : ℕ) (kind : LineKind) (shown : List ℕ) →
    AreShown form lines n kind shown → length lines ≤ n → AreLines form lines × (shown ≡ shown_from form 0 lines)
all_shown form lines n kind shown s le =
    (λ m lt. s.fine m (omega (arith, lt, le)), s.bytes ∙ ap (λ ls. shown_from form 0 ls) (take_all n lines le))
