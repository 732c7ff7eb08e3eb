-- Scalars fit a unit that declares no variable.
use Rattle.std.proofs.Common.{◌≡◌, ℕ, zero, suc, true, List, [], ◌∷◌, map, length, refl, ap, subst, sym, ◌∙◌, arith, Some}
use Rattle.std.specs.Prelude.{ℤ, slice_get}
use Rattle.adj_tree.specs.Code.{Declaration, Procedure}
use Rattle.adj_tree.specs.View.{declaration_of, procedure_of}
use Rattle.adj_tree.specs.declared.unit.Decl.{Decl}
use Rattle.adj_tree.specs.declared.unit.Unit.{Unit as CodeUnit}
use Rattle.def_meaning.specs.Numbers.{words}
use Rattle.def_meaning.specs.Store.{Store}
use Rattle.def_meaning.specs.Units.{fits, slots_fit, input_store}
use Rattle.adj_interp.specs.Concludes.{slot_seen}
use Rattle.test_programs.specs.Scalars.{scalar_of}

each_fits : (u : Procedure) (s : Store ℤ) → u.declarations ≡ [] → (ds : List (List ℕ)) (ws : List ℤ) → length ds ≡ length ws → slots_fit words u s ds (map slot_seen (map scalar_of ws)) ≡ true
each_fits u s none [] [] n = refl
each_fits u s none [] (w ∷ ws) n = absurd (omega arith)
each_fits u s none (d ∷ ds) [] n = absurd (omega arith)
each_fits u s none (d ∷ ds) (w ∷ ws) n = rw none (each_fits u s none ds ws (omega arith))

none_declared : (ds : List Decl) → length ds ≡ 0 → map declaration_of ds ≡ []
none_declared [] h = refl
none_declared (d ∷ ds) h = absurd (omega arith)

-- and so the first unit of a program
pub first_fits : (us : List CodeUnit) (unit : CodeUnit) (u : Procedure) (ws : List ℤ) → Some unit ≡ slice_get us 0 → slice_get (map procedure_of us) 0 ≡ Some u → (length unit.decls ≡ 0) × (length unit.dummies ≡ length ws) → fits words u (map slot_seen (map scalar_of ws)) ≡ true
first_fits [] unit u ws h k p = absurd cc
first_fits (v ∷ us) unit u ws h k p =
    let same : procedure_of v ≡ u = cc in
    let first : unit ≡ v = cc in
    let q = subst (λ (z : CodeUnit). (length z.decls ≡ 0) × (length z.dummies ≡ length ws)) first p in
    subst (λ (z : Procedure). fits words z (map slot_seen (map scalar_of ws)) ≡ true) same
    (each_fits (procedure_of v) (input_store words (procedure_of v) (map slot_seen (map scalar_of ws))) (none_declared v.decls q.0) v.dummies ws q.1)
