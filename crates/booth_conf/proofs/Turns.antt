-- One more line of a text.
use Rattle.std.proofs.Common.{arith, ◌≡◌, ℕ, ◌+◌, ◌<◌, List, [], ◌∷◌, ◌++◌, length, take, map, get_or, Some, None, Err, ap, ◌∙◌, sym, refl, below_more, inl, inr}
use Rattle.std.proofs.lemmas.List.{take_more, length-map, get_or-map}
use Rattle.booth_conf.specs.Rules.{Summary, summary, settings, line_fault, said_fault, IsFirstFault}
use Rattle.booth_conf.specs.Steps.{said_added}
use Rattle.booth_conf.specs.SaidReader.{said}
use Rattle.booth_conf.specs.Answers.{Answers}
use Rattle.booth_conf.specs.Reads.{ReadsLines, at_line}
use Rattle.booth_conf.specs.declared.line_meaning.Said.{Said}
use Rattle.booth_conf.specs.declared.line_meaning.Said.TheVariants.{Empty}
use Rattle.booth_conf.specs.declared.faults.LineFault.{LineFault}
use Rattle.booth_conf.specs.declared.faults.Stop.{Stop}
use Rattle.booth_conf.specs.declared.faults.Stop.TheVariants as stops
use Rattle.booth_conf.proofs.More.{line_more}

-- what the line at place n says, and what was read before it
pub record AtLine (ss : List Said) (n : ℕ) (s : Said) (d : Summary) : Type 0 where
  pub within : n < length ss
  pub is : get_or ss n Empty ≡ s
  pub read : d ≡ summary (settings (take n ss))

-- the line at place n of the text
pub at_line_of : (ls : List (List ℕ)) (n : ℕ) (line : List ℕ) (d : Summary) → n < length ls →
    line ≡ get_or ls n line → d ≡ summary (settings (take n (map said ls))) →
    AtLine (map said ls) n (said line) d
at_line_of ls n line d lt is read = record {
  within = omega (arith, length-map ls said);
  is = get_or-map said ls n line Empty lt ∙ ap said (sym is);
  read = read;
}

fault_here : (ss : List Said) (n : ℕ) (s : Said) (d : Summary) → AtLine ss n s d →
    said_fault d s ≡ line_fault (take n ss) (get_or ss n Empty)
fault_here ss n s d a =
    ap (λ x. said_fault x s) a.read ∙ ap (λ l. line_fault (take n ss) l) (sym a.is)

pub draft_more : (ss : List Said) (n : ℕ) (s : Said) (d new : Summary) → AtLine ss n s d →
    said_fault d s ≡ None → new ≡ said_added d s → new ≡ summary (settings (take (n + 1) ss))
draft_more ss n s d new a none e =
    let here : line_fault (take n ss) s ≡ None = ap (λ x. said_fault x s) (sym a.read) ∙ none in
    e ∙ ap (λ x. said_added x s) a.read ∙ sym (line_more (take n ss) s here)
    ∙ ap (λ xs. summary (settings xs)) (ap (λ y. take n ss ++ (y ∷ [])) (sym a.is) ∙ sym (take_more ss n Empty a.within))

pub fine_more : (ss : List Said) (n : ℕ) (s : Said) (d : Summary) → AtLine ss n s d →
    said_fault d s ≡ None → ((m : ℕ) → m < n → line_fault (take m ss) (get_or ss m Empty) ≡ None) →
    (m : ℕ) → m < n + 1 → line_fault (take m ss) (get_or ss m Empty) ≡ None
fine_more ss n s d a none fine =
    below_more (λ m. line_fault (take m ss) (get_or ss m Empty) ≡ None) n fine (sym (fault_here ss n s d a) ∙ none)

pub first_fault : (ss : List Said) (n : ℕ) (s : Said) (d : Summary) (fault : LineFault) →
    AtLine ss n s d → said_fault d s ≡ Some fault →
    ((m : ℕ) → m < n → line_fault (take m ss) (get_or ss m Empty) ≡ None) → IsFirstFault ss n fault
first_fault ss n s d fault a some fine = record { within = a.within; here = sym (fault_here ss n s d a) ∙ some; earlier = fine }

pub reads_err : (ss : List Said) (n : ℕ) (s : Said) (d new more : Summary) (stop : Stop) (number : ℕ) →
    AtLine ss n s d → number ≡ n + 1 → Answers (Err stop) new (said_fault d s) d more →
    ((m : ℕ) → m < n → line_fault (take m ss) (get_or ss m Empty) ≡ None) →
    ReadsLines (Err (at_line number stop)) ss
reads_err ss n s d new more stops.Memory number a e h fine = inl refl
reads_err ss n s d new more (stops.Line fault) number a e h fine = inr (record {
  place = n;
  fault = fault;
  is = ap (λ k. at_line k (stops.Line fault)) e;
  first_one = first_fault ss n s d fault a h.0 fine;
})
