-- Answered: the answer to what a text is, is the answer to the text.
use Rattle.std.proofs.Common.{arith, ◌≡◌, ◌≤◌, ℕ, List, length, Result, Ok, Err, sym, ap, subst}
use Rattle.std.proofs.lemmas.Bool.{le-ltb}
use Rattle.std.specs.Prelude.{IfOk}
use Rattle.adj_tree.specs.Code.{Procedure}
use Rattle.adj_tree.specs.declared.fault.Refusal.{Refusal}
use Rattle.def_text.specs.declared.mode.Mode.TheVariants.{Source}
use Rattle.adj_tool_answer.specs.Programs.{IsProgram}
use Rattle.adj_tool_answer.specs.Views.{answer_of}
use Rattle.adj_tool_answer.specs.declared.answer.Answer as code
use Rattle.adj_tool_answer.specs.Answer.{Answer, refused}
use Rattle.adj_tool.specs.Answer.{most_bytes, AnswersText, AnswersSized, AnswersWanted}
use Rattle.adj_tool_answer.specs.Endings.{Asked}
use Rattle.adj_tool.specs.Check.{AnswersTextCheck, AnswersSizedCheck, AnswersCheck}
use Rattle.adj_tool.specs.Arguments.{Request}
use Rattle.adj_tool.specs.Headline.{IsTransformed}
use Rattle.adj_tool.specs.declared.task.Wanted.{Wanted}

-- a refusal isn't done
pub refused_transforms : (w : Wanted) (r : Request) (bytes : List ℕ) (e : Refusal) (a : Answer) → a ≡ refused e → IsTransformed w r bytes a
refused_transforms w r bytes e a is = let status : a.status ≡ 2 = ap (λ (z : Answer). z.status) is in λ done. absurd (omega (arith, status, done))

pub answered : {E : Type 0} (w : Wanted) (r : Request) (bytes : List ℕ) → length bytes ≤ most_bytes → (found : Result (List Procedure) Refusal) → IsProgram Source bytes found → (result : Result code.Answer E) → IfOk result (λ a. AnswersText w r bytes found (answer_of a)) → IfOk result (λ a. IsTransformed w r bytes (answer_of a)) → IfOk result (λ a. AnswersWanted w r bytes (answer_of a))
answered w r bytes l found is (Ok a) h transformed = record { sized = subst (λ b. AnswersSized b w r bytes (answer_of a)) (sym (le-ltb most_bytes (length bytes) l)) (record { found = found; is = is; such = h }); transformed = transformed }
answered w r bytes l found is (Err e) h transformed = tt

-- the same of `check`
pub checked : {E : Type 0} (r : Asked) (vars outvars : List (List ℕ)) (bytes : List ℕ) → length bytes ≤ most_bytes → (found : Result (List Procedure) Refusal) → IsProgram Source bytes found → (result : Result code.Answer E) →
    IfOk result (λ a. AnswersTextCheck r vars outvars bytes found (answer_of a)) → IfOk result (λ a. AnswersCheck r vars outvars bytes (answer_of a))
checked r vars outvars bytes l found is (Ok a) h = subst (λ b. AnswersSizedCheck b r vars outvars bytes (answer_of a)) (sym (le-ltb most_bytes (length bytes) l)) (record { found = found; is = is; such = h })
checked r vars outvars bytes l found is (Err e) h = tt
