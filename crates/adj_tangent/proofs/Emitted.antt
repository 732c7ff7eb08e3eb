-- What is emitted for units, one by one.
use Rattle.std.proofs.Common.{◌≡◌, ℕ, ◌+◌, ◌<◌, Bool, true, false, List, [], ◌∷◌, ◌++◌, map, length, drop, get_or, refl, sym, ap, ◌∙◌, append_assoc, if◌then◌else◌}
use Rattle.adj_tree.specs.Code.{Procedure}
use Rattle.adj_tree.specs.View.{procedure_of}
use Rattle.adj_tree.specs.declared.unit.Unit as units
use Rattle.def_sweep.specs.Declared.{unit_at}
use Rattle.def_tangent.specs.Program.{Carried, tangent_name, has_tangent, stays, made_names, emitted_units, emitted_for, tangent_program}
use Rattle.adj_weave_units.specs.Calls.{flagged}
use Rattle.adj_weave_units.proofs.Walks.{walked_on}
use Rattle.adj_tangent.specs.Woven.{only_if, emitted_tangent}

module _ (on : Carried) (ps : List Procedure) (h : Procedure) where
  -- the names of the tangents that are emitted
  pub made_flagged : (us : List Procedure) → flagged (map (λ u. has_tangent on ps h.name u.name) us) (map (λ u. tangent_name ps u.name) us) ≡ made_names on ps h.name us
  made_flagged [] = refl
  made_flagged (u ∷ us) = go (has_tangent on ps h.name u.name) (made_flagged us)
    where
      go : (b : Bool) → flagged (map (λ u. has_tangent on ps h.name u.name) us) (map (λ u. tangent_name ps u.name) us) ≡ made_names on ps h.name us →
          (if b then tangent_name ps u.name ∷ flagged (map (λ u. has_tangent on ps h.name u.name) us) (map (λ u. tangent_name ps u.name) us) else flagged (map (λ u. has_tangent on ps h.name u.name) us) (map (λ u. tangent_name ps u.name) us)) ≡ (if b then tangent_name ps u.name ∷ made_names on ps h.name us else made_names on ps h.name us)
      go true ih = ap (λ z. tangent_name ps u.name ∷ z) ih
      go false ih = ih

  -- what is emitted for the units passed and for the next stands before what is emitted for those behind it
  pub emitted_on : (vars : List Bool) (us made longer : List units.Unit) (k : ℕ) (u : units.Unit) (kept has : Bool) → k < length us → u ≡ get_or us k u →
      map procedure_of longer ≡ map procedure_of made ++ (only_if kept (procedure_of u) ++ only_if has (emitted_tangent on ps h vars (procedure_of u))) → kept ≡ stays on ps h.name u.name → has ≡ has_tangent on ps h.name u.name →
      map procedure_of longer ++ emitted_units on ps h vars (map procedure_of (drop (k + 1) us)) ≡ map procedure_of made ++ emitted_units on ps h vars (map procedure_of (drop k us))
  emitted_on vars us made longer k u kept has lt at is hk hh =
      let v = procedure_of u in
      let rest = emitted_units on ps h vars (map procedure_of (drop (k + 1) us)) in
      walked_on procedure_of (emitted_units on ps h vars) (emitted_units on ps h vars) us (map procedure_of made) (map procedure_of longer) (only_if kept v ++ only_if has (emitted_tangent on ps h vars v)) k u lt at is
      ((λ i. only_if (sym hk i) v ++ (only_if (sym hh i) (emitted_tangent on ps h vars v) ++ rest)) ∙ sym (append_assoc (only_if kept v) (only_if has (emitted_tangent on ps h vars v)) rest))

-- for the head of a number
pub program_made : (on : Carried) (ps : List Procedure) (number : ℕ) (h : Procedure) (vars : List Bool) → unit_at number ps ≡ h ∷ [] → emitted_units on ps h vars ps ≡ tangent_program on ps number vars
program_made on ps number h vars e = ap (emitted_for on ps vars) (sym e)
