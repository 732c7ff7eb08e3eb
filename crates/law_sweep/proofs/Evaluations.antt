-- What is evaluated in the sweeps and in the dual run is as in the program.
use Rattle.std.proofs.Common.{◌≡◌, ◌<◌, ℕ, Bool, true, false, [], refl, sym, ap, ◌∙◌}
use Rattle.std.specs.Prelude.{ℤ, pos, Result, Ok, Err}
use Rattle.adj_tree.specs.Code.{Var, plain, shadow, helper, Term, lit, none, Test, assign, choose, Code, stop, step}
use Rattle.def_meaning.specs.Trap.{Trap}
use Rattle.def_meaning.specs.Numbers.{words}
use Rattle.def_meaning.specs.Store.{Shape, size_of, Store}
use Rattle.def_meaning.specs.Value.{value, holds}
use Rattle.def_meaning.specs.Read.{reads_term, reads_test}
use Rattle.def_meaning.specs.Rename.{rename_term, rename_test}
use Rattle.law_meaning.proofs.Agreements.{Cells, Covers, StoresAgree, value_alike, holds_alike}
use Rattle.law_meaning.proofs.SeenCalls.{code_same}
use Rattle.def_meaning.proofs.SeenValues.{mapped, value_seen, holds_seen}
use Rattle.def_meaning.proofs.WithoutTangents.{without_tangents}
use Rattle.def_names.specs.Numbers.{Vars}
use Rattle.def_sweep.specs.Facts.{In, Within}
use Rattle.law_sweep.specs.Pairs.{Words, with_tangents, on_words, on_duals}
use Rattle.law_sweep.specs.Passing.{plainly}
use Rattle.law_sweep.specs.Runs.{SameOn}
use Rattle.law_sweep.specs.Kernel.{AllText}
use Rattle.law_sweep.proofs.Shapes.{value_bare, holds_bare}

-- ---- renaming by nothing

term_in : Code → Term
term_in (step line (assign x subs e) rest) = e
term_in c = lit (pos 0)

test_in : Test → Code → Test
test_in d (step line (choose c a b) rest) = c
test_in d c = d

pub term_same : (e : Term) → rename_term (λ x. x) e ≡ e
unfolding term_in
term_same e = ap term_in (code_same (step 0 (assign (plain []) none e) stop))

test_same : (c : Test) → rename_test (λ x. x) c ≡ c
unfolding test_in
test_same c = ap (test_in c) (code_same (step 0 (choose c stop stop) stop))

-- ---- in the sweeps

module _ (sh : Var → Shape) (level : ℕ) (a : Vars) (u f : Store ℤ) (same : SameOn sh a u f) where
  -- the cells in which the stores agree
  abbrev cells : Cells
  cells (plain x) i = (i < size_of (sh (plain x))) × In (plain x) a
  cells (shadow x) i = ⊥
  cells (helper r k) i = ⊥

  agree : StoresAgree cells f u
  agree (plain x) i h = same.at x i h.0 h.1
  agree (shadow x) i h = absurd h
  agree (helper r k) i h = absurd h

  covers : (p : Var → Bool) → AllText p → Within p a → Covers (on_words sh level) cells p
  covers p text within (plain x) e i l = (l, within (plain x) e)
  covers p text within (shadow x) e i l = absurd (let c : false ≡ true = text (shadow x) e in cc)
  covers p text within (helper r k) e i l = absurd (let c : false ≡ true = text (helper r k) e in cc)

  pub value_again : (e : Term) → AllText (λ v. reads_term v e) → Within (λ v. reads_term v e) a → value (on_words sh level) e f ≡ value (on_words (plainly sh) level) e u
  value_again e text within = value_alike (on_words sh level) cells f u agree e (covers (λ v. reads_term v e) text within) ∙ sym (value_bare (on_words sh level) u e text)

  pub holds_again : (c : Test) → AllText (λ v. reads_test v c) → Within (λ v. reads_test v c) a → holds (on_words sh level) c f ≡ holds (on_words (plainly sh) level) c u
  holds_again c text within = holds_alike (on_words sh level) cells f u agree c (covers (λ v. reads_test v c) text within) ∙ sym (holds_bare (on_words sh level) u c text)

-- ---- in the dual run

module _ (sh : Var → Shape) (level : ℕ) (u : Store ℤ) (y : Words) where
  pub holds_dual : (c : Test) → holds (on_duals sh level) c (with_tangents u y) ≡ holds (on_words sh level) c u
  holds_dual c = ap (λ t. holds (on_duals sh level) t (with_tangents u y)) (sym (test_same c)) ∙ holds_seen (λ x. x) (λ a. a.0) (on_duals sh level) words without_tangents c (with_tangents u y)

  -- a value with its tangent
  pub record Dual (e : Term) (v : ℤ) : Type 0 where
    pub tangent : ℤ
    pub is : value (on_duals sh level) e (with_tangents u y) ≡ Ok (v, tangent)

  pub value_dual : (e : Term) (v : ℤ) → value (on_words sh level) e u ≡ Ok v → Dual e v
  value_dual e v h = go (value (on_duals sh level) e (with_tangents u y)) refl seen
    where
      seen : mapped (λ (a : ℤ × ℤ). a.0) (value (on_duals sh level) e (with_tangents u y)) ≡ Ok v
      seen = ap (λ t. mapped (λ (a : ℤ × ℤ). a.0) (value (on_duals sh level) t (with_tangents u y))) (sym (term_same e)) ∙ value_seen (λ x. x) (λ a. a.0) (on_duals sh level) words without_tangents e (with_tangents u y) ∙ h

      go : (r : Result (ℤ × ℤ) Trap) → value (on_duals sh level) e (with_tangents u y) ≡ r → mapped (λ (a : ℤ × ℤ). a.0) r ≡ Ok v → Dual e v
      go (Ok p) is s = let same : p.0 ≡ v = cc in record { tangent = p.1; is = is ∙ (λ i. Ok (same i, p.1)) }
      go (Err t) is s = cc
