-- Texts of a form, and others.
use Rattle.std.specs.Prelude.{Option, None, Some, MatchOption}
use Rattle.std.proofs.Common.{◌≡◌, ◌++◌, ℕ, List, codes, inl, inr, sym, ◌∙◌, subst}
use Rattle.std.proofs.lemmas.List.{append_cancel_right}
use Rattle.booth_talk.specs.declared.lines.Form.{Form}
use Rattle.booth_talk.specs.Forms.{AreLines, lines_of, shown_from}
use Rattle.booth_talk.specs.Report.{IsShown}

pub when_some : {X : Type 0} (o : Option X) (P : Type 0) (Q : X → Type 0) (x : X) → o ≡ Some x → MatchOption o P Q → Q x
when_some o P Q x is h = subst (λ p. MatchOption p P Q) is h

pub when_none : {X : Type 0} (o : Option X) (P : Type 0) (Q : X → Type 0) → o ≡ None → MatchOption o P Q → P
when_none o P Q is h = subst (λ p. MatchOption p P Q) is h

pub of_form : (form : Form) (text body shown report : List ℕ) → text ≡ body ++ codes "\n" → AreLines form (lines_of body) →
    shown ≡ shown_from form 0 (lines_of body) → report ≡ shown → IsShown form text report
of_form form text body shown report ended lines is same = inl (record { body = body; ended = ended; each = lines }, same ∙ is)

pub other_form : (form : Form) (text body report : List ℕ) → text ≡ body ++ codes "\n" → (AreLines form (lines_of body) → ⊥) →
    report ≡ text → IsShown form text report
other_form form text body report ended never same =
    inr (λ of. never (subst (λ b. AreLines form (lines_of b)) (append_cancel_right of.body body (codes "\n") (sym of.ended ∙ ended)) of.each), same)

pub no_form : (form : Form) (text report : List ℕ) → ((body : List ℕ) → text ≡ body ++ codes "\n" → ⊥) → report ≡ text → IsShown form text report
no_form form text report never same = inr (λ of. never of.body of.ended, same)
