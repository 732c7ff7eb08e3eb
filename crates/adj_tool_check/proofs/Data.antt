-- The answer to the data of `check`.
use Rattle.std.proofs.Common.{◌≡◌, ℕ, List, drop, refl, sym, ap, ◌∙◌, Option, Some, None}
use Rattle.def_text.specs.Data.{data_of}
use Rattle.adj_data.specs.DataCodes.{data_code_number}
use Rattle.adj_data.specs.Faults.{Fault}
use Rattle.adj_data.specs.Given.{IsFirstFault}
use Rattle.adj_data.specs.Marked.{check_fault}
use Rattle.adj_data.specs.declared.data_error.DataError.{DataError}
use Rattle.adj_data.specs.declared.data_error.DataError.TheVariants as error
use Rattle.adj_tool_answer.specs.Answer.{Answer}
use Rattle.adj_tool_answer.specs.Endings.{Asked, bad_data}
use Rattle.adj_tool_answer.specs.EndingViews.{error_answer}
use Rattle.adj_tool_check.specs.Checking.{Sides, Given, runs_answer, given_by, faulty_or, data_answer, check_answer}

module _ (r : Asked) (p : Sides) (bytes : List ℕ) (at : ℕ × ℕ) (is : at ≡ data_of bytes) (given : List ℕ) (rest : given ≡ drop at.0 bytes) where
  answered : data_answer r p at.1 given ≡ check_answer r p bytes
  answered = ap (data_answer r p at.1) rest ∙ ap (λ (z : ℕ × ℕ). data_answer r p z.1 (drop z.0 bytes)) is

  -- they have a fault
  pub bad_given : (e : DataError) → IsFirstFault e (check_fault at.1 given p.head p.vars p.outvars) → (a : Answer) → Some a ≡ error_answer e → a ≡ check_answer r p bytes
  bad_given (error.Data c n) h a same =
      let f : Fault = record { code = data_code_number c; line = n } in
      let is_bad : a ≡ bad_data f = cc in
      is_bad ∙ ap (λ o. faulty_or o (runs_answer r p (given_by p at.1 given))) (sym h) ∙ answered
  bad_given error.Memory h a same = absurd cc

  -- they have none
  pub good_given : (d : Given) → check_fault at.1 given p.head p.vars p.outvars ≡ None → d ≡ given_by p at.1 given → runs_answer r p d ≡ check_answer r p bytes
  good_given d none same = ap (runs_answer r p) same ∙ ap (λ o. faulty_or o (runs_answer r p (given_by p at.1 given))) (sym none) ∙ answered
