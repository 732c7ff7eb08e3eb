-- What a step that failed hands on.
use Rattle.std.proofs.Common.{◌≡◌, ap, ◌∙◌}
use Rattle.std.specs.Prelude.{Result, Err}
use Rattle.std.specs.Result.{IsErrAnd}
use Rattle.std.proofs.lemmas.Result.{err_from_is_err_and}

-- its error
pub err_is : {A E : Type 0} (r : Result A E) (e : E) → IsErrAnd r (λ d. d ≡ e) → r ≡ Err e
err_is {A} {E} r e h = let w = err_from_is_err_and {Q = λ d. d ≡ e} r h in w.1 ∙ ap Err w.2
