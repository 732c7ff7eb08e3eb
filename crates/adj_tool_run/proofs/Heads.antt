-- The head of a run: the unit of a name, and its number.
use Rattle.std.proofs.Common.{◌≡◌, ℕ, List, drop, sym, ap, ◌∙◌, Some, None}
use Rattle.std.specs.Prelude.{ℤ}
use Rattle.adj_tree.specs.Code.{Procedure}
use Rattle.def_text.specs.Data.{data_of}
use Rattle.def_meaning.specs.Units.{Slot}
use Rattle.def_meaning.specs.Written.{find_unit}
use Rattle.adj_tool_answer.specs.Answer.{Answer}
use Rattle.adj_data.specs.DataCodes.{data_code_number}
use Rattle.adj_data.specs.Faults.{Fault, data_fault}
use Rattle.adj_data.specs.Given.{IsFirstFault, input_given}
use Rattle.adj_data.specs.declared.data_error.DataError.{DataError}
use Rattle.adj_data.specs.declared.data_error.DataError.TheVariants as error
use Rattle.adj_tool_answer.specs.Endings.{Asked, bad_data}
use Rattle.adj_tool_run.specs.Running.{data_answer, ended, head_answer, input_answer, run_asked}
use Rattle.adj_tool_answer.specs.EndingViews.{error_answer}

-- ---- the answer for a head that was found, where its data begin at a place and behind the line of a number

module _ (r : Asked) (bytes : List ℕ) (ps : List Procedure) (u : Procedure) (found : find_unit ps r.head ≡ Some u) (d : ℕ × ℕ) (is : d ≡ data_of bytes) (given : List ℕ) (rest : given ≡ drop d.0 bytes) where
  answered : data_answer r ps u d.1 given ≡ head_answer r bytes ps (find_unit ps r.head)
  answered = ap (data_answer r ps u d.1) rest ∙ ap (λ (z : ℕ × ℕ). data_answer r ps u z.1 (drop z.0 bytes)) is ∙ ap (head_answer r bytes ps) (sym found)

  -- they give no input
  pub bad_input : (e : DataError) → IsFirstFault e (data_fault d.1 given u) → (a : Answer) → Some a ≡ error_answer e → a ≡ head_answer r bytes ps (find_unit ps r.head)
  bad_input (error.Data c n) h a same =
      let f : Fault = record { code = data_code_number c; line = n } in
      let is_bad : a ≡ bad_data f = cc in
      is_bad ∙ ap (λ o. input_answer o r ps u (input_given d.1 given u)) (sym h) ∙ answered
  bad_input error.Memory h a same = absurd cc

  -- they give an input
  pub good_input : (slots : List (Slot ℤ)) → data_fault d.1 given u ≡ None → slots ≡ input_given d.1 given u → ended r u.dummies (run_asked r ps u slots) ≡ head_answer r bytes ps (find_unit ps r.head)
  good_input slots none same =
      ap (λ s. ended r u.dummies (run_asked r ps u s)) same ∙ ap (λ o. input_answer o r ps u (input_given d.1 given u)) (sym none) ∙ answered
