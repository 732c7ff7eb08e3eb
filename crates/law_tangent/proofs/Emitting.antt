-- What is emitted for a kernel that fits is its tangent.
use Rattle.std.proofs.Common.{◌≡◌, ℕ, ◌*◌, Bool, List, [], ◌∷◌, ◌++◌, map, sym, ap, ◌∙◌, subst, if◌then◌else◌}
use Rattle.std.specs.Prelude.{Some}
use Rattle.adj_tree.specs.Code.{Procedure}
use Rattle.adj_tree.proofs.Names.{name_refl}
use Rattle.def_names.specs.Numbers.{Vars}
use Rattle.def_sweep.specs.Marked.{names_in}
use Rattle.def_sweep.specs.Declared.{unit_name, unmarked}
use Rattle.def_tangent.specs.Program.{Carried, made_names, tangent_unit, emitted_units, emitted_for, tangent_program}
use Rattle.law_tangent.specs.IsTangent.{IsTangentOf}
use Rattle.law_tangent.specs.Source.{TangentFits, EmittedIsTangent}
use Rattle.law_tangent.proofs.FoundUnits.{tangent_found}
use Rattle.law_tangent.proofs.Fitting as fitting
use Rattle.law_tangent.proofs.HeadRun as head

module _ (m : ℕ) (on : Carried) (varied : ℕ → Vars) (ps : List Procedure) (u : Procedure) (vars : List Bool) (good : TangentFits m on varied ps u vars) where
  units_are : IsTangentOf (2 * m) on ps u vars (emitted_units on ps u vars ps)
  units_are = record {
    unit = tangent_unit on ps (map unit_name ps ++ made_names on ps u.name ps) u (names_in (on u.name) (unmarked u.dummies vars));
    found =
        tangent_found on ps u vars u.name u good.there (fitting.head_reached m on varied ps u vars good)
        ∙ ap (λ (b : Bool). Some (tangent_unit on ps (map unit_name ps ++ made_names on ps u.name ps) u (if b then names_in (on u.name) (unmarked u.dummies vars) else []))) (name_refl u.name);
    done = λ input z d fit alike dir are handed n used out h. head.tangent_done m on varied ps u vars good input z d fit alike dir are handed n used out h;
    traps = λ input z d fit alike dir are handed n line t x h. head.tangent_traps m on varied ps u vars good input z d fit alike dir are handed n line t x h;
  }

-- the law
pub emitted_is_tangent : EmittedIsTangent
emitted_is_tangent m on varied ps n vars u is good v at =
    let same : u ∷ [] ≡ v ∷ [] = sym is ∙ at in
    let one : u ≡ v = cc in
    subst (λ w. IsTangentOf (2 * m) on ps w vars (tangent_program on ps n vars)) one
    (subst (λ us. IsTangentOf (2 * m) on ps u vars (emitted_for on ps vars us)) (sym is) (units_are m on varied ps u vars good))
