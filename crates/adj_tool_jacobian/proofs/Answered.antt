-- Answered: the answer to what a text is, is the answer to the text.
use Rattle.std.proofs.Common.{◌≤◌, ℕ, List, length, Result, Ok, Err, sym, subst}
use Rattle.std.proofs.lemmas.Bool.{le-ltb}
use Rattle.std.specs.Prelude.{IfOk}
use Rattle.adj_tree.specs.Code.{Procedure}
use Rattle.adj_tree.specs.declared.fault.Refusal.{Refusal}
use Rattle.def_text.specs.declared.mode.Mode.TheVariants.{Source}
use Rattle.adj_tool_answer.specs.Programs.{IsProgram}
use Rattle.adj_tool_answer.specs.Views.{answer_of}
use Rattle.adj_tool_answer.specs.declared.answer.Answer.{Answer}
use Rattle.adj_tool_answer.specs.Endings.{Asked}
use Rattle.adj_tool_jacobian.specs.Jacobian.{most_bytes, AnswersText, AnswersSized, AnswersJacobian}

pub answered : {E : Type 0} (r : Asked) (vars outvars : List (List ℕ)) (bytes : List ℕ) → length bytes ≤ most_bytes → (found : Result (List Procedure) Refusal) → IsProgram Source bytes found → (result : Result Answer E) →
    IfOk result (λ a. AnswersText r vars outvars bytes found (answer_of a)) → IfOk result (λ a. AnswersJacobian r vars outvars bytes (answer_of a))
answered r vars outvars bytes l found is (Ok a) h = subst (λ b. AnswersSized b r vars outvars bytes (answer_of a)) (sym (le-ltb most_bytes (length bytes) l)) (record { found = found; is = is; such = h })
answered r vars outvars bytes l found is (Err e) h = tt
