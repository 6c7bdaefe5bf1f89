use Rattle.std.proofs.Common.{◌≡◌, ℕ, List, length, ap, sym, ◌∙◌, eqb-true, eq-eqb}
use Rattle.std.specs.Bool.{one_answer}
use Rattle.std.proofs.lemmas.Slice.Eq.{bytes_eq-Decides}
use Rattle.booth_keys.proofs.MacLemmas.{found, none_found, found_none}
use Rattle.booth_keys.proofs.mac.are_equal.Goals as goal

same_if_none : (n : ℕ) (xs ys : List ℕ) → length xs ≡ length ys → n ≡ found 0 xs ys → n ≡ 0 → xs ≡ ys
same_if_none n xs ys long is none = (none_found 0 xs ys long (sym is ∙ none)).1

none_if_same : (n : ℕ) (xs ys : List ℕ) → n ≡ found 0 xs ys → xs ≡ ys → n ≡ 0
none_if_same n xs ys is same = is ∙ (ap (λ zs. found 0 xs zs) (sym same) ∙ found_none xs)

pub returns-clause-answer : goal.returns-clause-answer
returns-clause-answer c =
    let a = c.args.a.now in
    let b = c.args.b.now in
    one_answer _ _
    (λ t. same_if_none _ a b c.requires c.difference.ensures (eqb-true _ _ t), λ e. eq-eqb _ _ (none_if_same _ a b c.difference.ensures e))
    (bytes_eq-Decides a b)

pub returns-clause-equal : goal.returns-clause-equal
returns-clause-equal c =
    let a = c.args.a.now in
    let b = c.args.b.now in (
      λ t. same_if_none _ a b c.requires c.difference.ensures (eqb-true _ _ t),
      λ e. eq-eqb _ _ (none_if_same _ a b c.difference.ensures e),
    )
