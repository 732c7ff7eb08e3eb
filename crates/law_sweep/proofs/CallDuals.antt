-- Words with tangents go into a unit and come back as the words and the tangents do.
use Rattle.std.proofs.Common.{◌≡◌, ℕ, Bool, true, false, List, [], ◌∷◌, refl, sym, ap, ◌∙◌, if◌then◌else◌}
use Rattle.std.specs.Prelude.{ℤ, pos, Option, Some, None}
use Rattle.adj_tree.specs.Code.{Var, plain, shadow, helper, more, var}
use Rattle.def_meaning.specs.Store.{Store}
use Rattle.def_names.specs.Numbers.{Vars}
use Rattle.def_meaning.specs.Apart.{AreApart}
use Rattle.law_sweep.specs.Pairs.{Words, with_tangents}
use Rattle.def_sweep.specs.Plan.{beside, actuals_named, found_or}
use Rattle.def_sweep.specs.Rows.{with_shadows}
use Rattle.def_sweep.specs.Callees.{nothing}
pub use Rattle.law_sweep.specs.Kernel.{AsMany}
use Rattle.def_sweep.specs.Bindings.{bindings, actuals_in}
use Rattle.law_sweep.specs.Passing.{passed_in, passed_out}
use Rattle.law_sweep.proofs.Passing.{beside_back, in_plain, in_shadow, in_helper, out_plain, out_shadow, out_helper}
use Rattle.law_sweep.proofs.CallTangents.{tangents_in, tangents_out}

-- the actuals of a call are those of its bindings
pub actuals_bound : (ds given : List (List ℕ)) → AsMany ds given → actuals_in (bindings nothing ds given) ≡ actuals_named given
actuals_bound [] [] h = refl
actuals_bound [] (a ∷ given) h = absurd h
actuals_bound (d ∷ ds) [] h = absurd h
actuals_bound (d ∷ ds) (a ∷ given) h = ap (λ es. more (var (plain a)) es) (actuals_bound ds given h)

-- so are those of the call of an adjoint
pub shadows_bound : (shadowed : Vars) (ds given : List (List ℕ)) → with_shadows shadowed ds given ≡ actuals_in (bindings shadowed ds given)
shadows_bound shadowed [] given = refl
shadows_bound shadowed (d ∷ ds) [] = refl
shadows_bound shadowed (d ∷ ds) (a ∷ given) = go (shadowed (plain d)) (shadows_bound shadowed ds given)
  where
    go : (t : Bool) → with_shadows shadowed ds given ≡ actuals_in (bindings shadowed ds given) → (if t then more (var (plain a)) (more (var (shadow a)) (with_shadows shadowed ds given)) else more (var (plain a)) (with_shadows shadowed ds given)) ≡ actuals_in (if t then (plain d, plain a) ∷ (shadow d, shadow a) ∷ bindings shadowed ds given else (plain d, plain a) ∷ bindings shadowed ds given)
    go true ih = ap (λ es. more (var (plain a)) (more (var (shadow a)) es)) ih
    go false ih = ap (λ es. more (var (plain a)) es) ih

module _ (ds given : List (List ℕ)) (u : Store ℤ) (y : Words) where
  pub dual_in : (let z : ℤ × ℤ = (pos 0, pos 0) in passed_in z (bindings nothing ds given) (with_tangents u y) ≡ with_tangents (passed_in (pos 0) (bindings nothing ds given) u) (tangents_in nothing ds given y))
  dual_in = λ i x j. at x j i
    where
      none : ℤ × ℤ
      none = (pos 0, pos 0)

      pair : (o : Option (List ℕ)) (j : ℕ) → found_or o none (λ a. with_tangents u y (plain a) j) ≡ (found_or o (pos 0) (λ a. u (plain a) j), found_or o (pos 0) (λ a. y (a, j)))
      pair None j = refl
      pair (Some a) j = refl

      at : (x : Var) (j : ℕ) → passed_in none (bindings nothing ds given) (with_tangents u y) x j ≡ with_tangents (passed_in (pos 0) (bindings nothing ds given) u) (tangents_in nothing ds given y) x j
      at (plain x) j =
          in_plain none nothing (with_tangents u y) ds given x j ∙ pair (beside ds given x) j
          ∙ ap (λ v. (v, found_or (beside ds given x) (pos 0) (λ a. y (a, j)))) (sym (in_plain (pos 0) nothing u ds given x j))
      at (shadow x) j = in_shadow none nothing (with_tangents u y) ds given x j ∙ ap (λ v. (v, pos 0)) (sym (in_shadow (pos 0) nothing u ds given x j))
      at (helper r k) j = in_helper none nothing (with_tangents u y) ds given r k j ∙ ap (λ v. (v, pos 0)) (sym (in_helper (pos 0) nothing u ds given r k j))

  pub dual_out : (written : Vars) (e : Store ℤ) (inner : Words → Words) → AreApart ds → AreApart given → ((d : List ℕ) → written (plain d) ≡ false → (j : ℕ) → inner (tangents_in nothing ds given y) (d, j) ≡ tangents_in nothing ds given y (d, j)) →
      passed_out written (bindings nothing ds given) (with_tangents e (inner (tangents_in nothing ds given y))) (with_tangents u y) ≡ with_tangents (passed_out written (bindings nothing ds given) e u) (tangents_out nothing ds given inner y)
  dual_out written e inner apart apart' kept = λ i x j. at x j i
    where
      yi : Words
      yi = tangents_in nothing ds given y

      te : Store (ℤ × ℤ)
      te = with_tangents e (inner yi)

      tu : Store (ℤ × ℤ)
      tu = with_tangents u y

      pair : (x : List ℕ) (j : ℕ) (o : Option (List ℕ)) → beside given ds x ≡ o → found_or o (tu (plain x) j) (λ d. if written (plain d) then te (plain d) j else tu (plain x) j) ≡ (found_or o (u (plain x) j) (λ d. if written (plain d) then e (plain d) j else u (plain x) j), found_or o (y (x, j)) (λ d. inner yi (d, j)))
      pair x j None b = refl
      pair x j (Some d) b = go (written (plain d)) refl
        where
          go : (t : Bool) → written (plain d) ≡ t → (if t then te (plain d) j else tu (plain x) j) ≡ ((if t then e (plain d) j else u (plain x) j), inner yi (d, j))
          go true w = refl
          go false w =
              let back : beside ds given d ≡ Some x = beside_back given ds apart' apart x d b in
              ap (λ v. (u (plain x) j, v)) (sym (kept d w j ∙ ap (λ o. found_or o (pos 0) (λ a. y (a, j))) back))

      at : (x : Var) (j : ℕ) → passed_out written (bindings nothing ds given) te tu x j ≡ with_tangents (passed_out written (bindings nothing ds given) e u) (tangents_out nothing ds given inner y) x j
      at (plain x) j =
          out_plain written nothing te x j ds given apart' tu ∙ pair x j (beside given ds x) refl
          ∙ ap (λ v. (v, tangents_out nothing ds given inner y (x, j))) (sym (out_plain written nothing e x j ds given apart' u))
      at (shadow x) j = out_shadow written nothing te x j ds given apart' tu ∙ same (beside given ds x) ∙ ap (λ v. (v, pos 0)) (sym (out_shadow written nothing e x j ds given apart' u))
        where
          same : (o : Option (List ℕ)) → found_or o (tu (shadow x) j) (λ d. tu (shadow x) j) ≡ (found_or o (u (shadow x) j) (λ d. u (shadow x) j), pos 0)
          same None = refl
          same (Some d) = refl
      at (helper r k) j = out_helper written nothing te r k j ds given tu ∙ ap (λ v. (v, pos 0)) (sym (out_helper written nothing e r k j ds given u))
