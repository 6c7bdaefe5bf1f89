-- What `?` hands on.
use Rattle.std.specs.Prelude.{Result, Ok, Err, IsErr, IsErrAnd}
use Rattle.std.proofs.Common.{◌≡◌, sym, subst}
use Rattle.booth_outcomes.specs.declared.outcome.Ended.{Ended}

abbrev pub ErrIs : {T : Type 0} → Result T Ended → Ended → Type 0
ErrIs r ended = IsErr r × IsErrAnd r (λ e. e ≡ ended)

-- a result that is this error has what the error has
pub err_has : {T : Type 0} (P : Result T Ended → Type 0) (r : Result T Ended) (ended : Ended) → ErrIs r ended → P (Err ended) → P r
err_has P (Ok x) ended is holds = absurd is.1
err_has P (Err e) ended is holds = subst (λ x. P (Err x)) (sym is.1) holds
