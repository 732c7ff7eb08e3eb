-- What `sample` answers is what `check` answers to the sample, in short.
use Rattle.std.proofs.Common.{◌≡◌, ℕ, List, Bool, true, false, refl, ap, sym, subst, ◌∙◌}
use Rattle.std.proofs.lemmas.Bool.{eqb-true}
use Rattle.std.specs.Prelude.{◌==◌}
use Rattle.adj_data.specs.Sample.{sample_bytes}
use Rattle.adj_tool_answer.specs.Answer.{Answer}
use Rattle.adj_tool_answer.specs.Endings.{Asked}
use Rattle.adj_tool.specs.Check.{AnswersCheck, ChecksAdjoint}
use Rattle.adj_tool.specs.Sample.{AnswersSample, SamplesAdjoint, sample_asked, sample_vars, sample_outvars, summary, summary_if}

module _ (n : ℕ) (checked a : Answer) (r : Asked) (vars outvars : List (List ℕ)) (bytes : List ℕ) (asked : r ≡ sample_asked) (with_vars : vars ≡ sample_vars) (with_outvars : outvars ≡ sample_outvars) (made : bytes ≡ sample_bytes n) where
  -- what holds of the request and of the bytes holds of those of the sample
  moved : (P : Asked → List (List ℕ) → List (List ℕ) → List ℕ → Type 0) → P r vars outvars bytes → P sample_asked sample_vars sample_outvars (sample_bytes n)
  moved P h =
      subst (λ z. P sample_asked sample_vars sample_outvars z) made (subst (λ z. P sample_asked sample_vars z bytes) with_outvars (subst (λ z. P sample_asked z outvars bytes) with_vars (subst (λ z. P z vars outvars bytes) asked h)))

  pub answered : AnswersCheck r vars outvars bytes checked → a ≡ summary n checked → AnswersSample n a
  answered h is = record { checked = checked; checks = moved (λ x vs os z. AnswersCheck x vs os z checked) h; is = is }

  pub compared : (checked.status ≡ 0 → ChecksAdjoint r vars outvars bytes checked.text) → a ≡ summary n checked → a.status ≡ 0 → SamplesAdjoint n a.text
  compared h is done = go (checked.status == 0) refl is
    where
      go : (b : Bool) → (checked.status == 0) ≡ b → a ≡ summary_if b n checked → SamplesAdjoint n a.text
      go true e short = record { lines = checked.text; checks = moved (λ x vs os z. ChecksAdjoint x vs os z checked.text) (h (eqb-true checked.status 0 e)); is = ap (λ z. z.text) short }
      go false e short =
          let zero_status : checked.status ≡ 0 = sym (ap (λ z. z.status) short) ∙ done in
          let both : true ≡ false = sym (ap (λ k. k == 0) zero_status) ∙ e in
          absurd (let c = both in cc)
