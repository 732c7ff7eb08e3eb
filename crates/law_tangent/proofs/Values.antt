-- Values of the text's expressions in the dual run and in the run of the tangent.
use Rattle.std.proofs.Common.{◌≡◌, ℕ, Bool, true, false, List, refl, sym, ap, ◌∙◌}
use Rattle.std.specs.Prelude.{ℤ, Result, Ok, Err}
use Rattle.adj_tree.specs.Code.{Var, plain, shadow, helper, Term, Terms, none, more, Test}
use Rattle.def_meaning.specs.Trap.{Trap, then_ok}
use Rattle.def_meaning.specs.Numbers.{words}
use Rattle.def_meaning.specs.Store.{Shape, Store}
use Rattle.def_meaning.specs.Value.{value, cell_at, target, holds}
use Rattle.def_meaning.specs.Read.{reads_term, reads_terms, reads_test}
use Rattle.law_meaning.proofs.Agreements.{Cells, Covers, StoresAgree, value_alike, target_alike, holds_alike}
use Rattle.law_meaning.proofs.SeenCalls.{terms_same}
use Rattle.def_meaning.proofs.SeenValues.{mapped, value_seen, target_seen}
use Rattle.def_meaning.proofs.WithoutTangents.{without_tangents}
use Rattle.law_sweep.specs.Pairs.{Words, SamePlain, with_tangents, on_words, on_duals}
use Rattle.law_sweep.specs.Passing.{plainly}
use Rattle.law_sweep.specs.Kernel.{AllText}
use Rattle.law_sweep.proofs.Shapes.{value_bare, values_bare, holds_bare}
use Rattle.law_sweep.proofs.Evaluations.{term_same, holds_dual}

-- a value, or a trap, of which the word is known
pub mapped-err : {A B : Type 0} (h : A → B) (r : Result A Trap) (t : Trap) → mapped h r ≡ Err t → r ≡ Err t
mapped-err h (Ok a) t e = cc
mapped-err h (Err k) t e = let s : k ≡ t = cc in ap Err s

-- ---- in the dual run

module _ (sh : Var → Shape) (level : ℕ) (u : Store ℤ) (y : Words) where
  pub value_shown : (e : Term) → AllText (λ v. reads_term v e) → mapped (λ (a : ℤ × ℤ). a.0) (value (on_duals (plainly sh) level) e (with_tangents u y)) ≡ value (on_words sh level) e u
  value_shown e t =
      ap (mapped (λ (a : ℤ × ℤ). a.0)) (value_bare (on_duals sh level) (with_tangents u y) e t)
      ∙ ap (λ z. mapped (λ (a : ℤ × ℤ). a.0) (value (on_duals sh level) z (with_tangents u y))) (sym (term_same e))
      ∙ value_seen (λ x. x) (λ a. a.0) (on_duals sh level) words without_tangents e (with_tangents u y)

  pub target_shown : (x : List ℕ) (subs : Terms) → AllText (λ v. reads_terms v subs) → target (on_duals (plainly sh) level) (plain x) subs (with_tangents u y) ≡ target (on_words sh level) (plain x) subs u
  target_shown x subs t =
      bare subs t
      ∙ ap (λ z. target (on_duals sh level) (plain x) z (with_tangents u y)) (sym (terms_same subs))
      ∙ target_seen (λ x. x) (λ a. a.0) (on_duals sh level) words without_tangents (plain x) subs (with_tangents u y)
    where
      bare : (ss : Terms) → AllText (λ v. reads_terms v ss) → target (on_duals (plainly sh) level) (plain x) ss (with_tangents u y) ≡ target (on_duals sh level) (plain x) ss (with_tangents u y)
      bare none t = refl
      bare (more a rest) t = ap (λ r. then_ok r (λ is. cell_at (on_duals sh level) (plain x) is)) (values_bare (on_duals sh level) (with_tangents u y) (more a rest) t)

  pub holds_shown : (c : Test) → AllText (λ v. reads_test v c) → holds (on_duals (plainly sh) level) c (with_tangents u y) ≡ holds (on_words sh level) c u
  holds_shown c t = holds_bare (on_duals sh level) (with_tangents u y) c t ∙ holds_dual sh level u y c

-- ---- in the run of the tangent

module _ (sh : Var → Shape) (level : ℕ) (u s : Store ℤ) (same : SamePlain u s) where
  -- the cells in which the stores agree
  abbrev cells : Cells
  cells (plain x) i = Unit {0}
  cells (shadow x) i = ⊥
  cells (helper r k) i = ⊥

  agree : StoresAgree cells s u
  agree (plain x) i h = same.at x i
  agree (shadow x) i h = absurd h
  agree (helper r k) i h = absurd h

  covers : (p : Var → Bool) → AllText p → Covers (on_words sh level) cells p
  covers p text (plain x) e i l = tt
  covers p text (shadow x) e i l = absurd (let c : false ≡ true = text (shadow x) e in cc)
  covers p text (helper r k) e i l = absurd (let c : false ≡ true = text (helper r k) e in cc)

  pub value_again : (e : Term) → AllText (λ v. reads_term v e) → value (on_words sh level) e s ≡ value (on_words sh level) e u
  value_again e t = value_alike (on_words sh level) cells s u agree e (covers (λ v. reads_term v e) t)

  pub target_again : (x : Var) (subs : Terms) → AllText (λ v. reads_terms v subs) → target (on_words sh level) x subs s ≡ target (on_words sh level) x subs u
  target_again x subs t = target_alike (on_words sh level) cells s u agree x subs (covers (λ v. reads_terms v subs) t)

  pub holds_again : (c : Test) → AllText (λ v. reads_test v c) → holds (on_words sh level) c s ≡ holds (on_words sh level) c u
  holds_again c t = holds_alike (on_words sh level) cells s u agree c (covers (λ v. reads_test v c) t)
