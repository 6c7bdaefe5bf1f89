-- Settings that are taken one after the other.
use Rattle.std.proofs.Common.{◌≡◌, ℕ, zero, suc, ◌<◌, List, [], ◌∷◌, ◌++◌, length, take, get_or, None, arith, ap, ◌∙◌, sym, append-nil, append_assoc, subst}
use Rattle.booth_conf.specs.Rules.{Summary, summary, settings, clash, line_fault, said_fault}
use Rattle.booth_conf.specs.Steps.{added, said_added}
use Rattle.booth_conf.specs.declared.line_meaning.Said.{Said}
use Rattle.booth_conf.specs.declared.line_meaning.Said.TheVariants.{Empty}
use Rattle.booth_conf.specs.declared.settings.Setting.{Setting}
use Rattle.booth_conf.proofs.More.{line_more}

-- each setting is taken, and d has become e
abbrev pub Runs : Summary → List Setting → Summary → Type 0
Runs d [] e = d ≡ e
Runs d (s ∷ ss) e = (clash d s ≡ None) × Runs (added d s) ss e

pub runs_append : (d : Summary) (xs : List Setting) (e : Summary) (ys : List Setting) (f : Summary) →
    Runs d xs e → Runs e ys f → Runs d (xs ++ ys) f
runs_append d [] e ys f p q = subst (λ x. Runs x ys f) (sym p) q
runs_append d (x ∷ xs) e ys f p q = (p.0, runs_append (added d x) xs e ys f p.1 q)

-- each line is taken, and d has become e
abbrev pub Takes : Summary → List Said → Summary → Type 0
Takes d [] e = d ≡ e
Takes d (s ∷ ss) e = (said_fault d s ≡ None) × Takes (said_added d s) ss e

pub takes_fine : (before ss : List Said) (d e : Summary) → d ≡ summary (settings before) →
    Takes d ss e → (m : ℕ) → m < length ss →
    line_fault (before ++ take m ss) (get_or ss m Empty) ≡ None
takes_fine before [] d e is t m h = absurd (omega arith)
takes_fine before (s ∷ ss) d e is t zero h =
    ap (λ b. line_fault b s) (append-nil before) ∙ ap (λ x. said_fault x s) (sym is) ∙ t.0
takes_fine before (s ∷ ss) d e is t (suc m) h =
    let here : line_fault before s ≡ None = ap (λ x. said_fault x s) (sym is) ∙ t.0 in
    let next : said_added d s ≡ summary (settings (before ++ s ∷ [])) =
    ap (λ x. said_added x s) is ∙ sym (line_more before s here) in
    ap (λ b. line_fault b (get_or ss m Empty)) (sym (append_assoc before (s ∷ []) (take m ss)))
    ∙ takes_fine (before ++ s ∷ []) ss (said_added d s) e next t.1 m (omega arith)

pub takes_ends : (before ss : List Said) (d e : Summary) → d ≡ summary (settings before) →
    Takes d ss e → e ≡ summary (settings (before ++ ss))
takes_ends before [] d e is t =
    sym t ∙ is ∙ ap (λ b. summary (settings b)) (sym (append-nil before))
takes_ends before (s ∷ ss) d e is t =
    let here : line_fault before s ≡ None = ap (λ x. said_fault x s) (sym is) ∙ t.0 in
    let next : said_added d s ≡ summary (settings (before ++ s ∷ [])) =
    ap (λ x. said_added x s) is ∙ sym (line_more before s here) in
    takes_ends (before ++ s ∷ []) ss (said_added d s) e next t.1
    ∙ ap (λ b. summary (settings b)) (append_assoc before (s ∷ []) ss)
