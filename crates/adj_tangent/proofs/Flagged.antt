-- What flags tell of a unit is what they tell of the program there.
use Rattle.std.proofs.Common.{◌≡◌, ℕ, ◌+◌, ◌*◌, ◌<◌, Bool, true, false, List, [], map, length, Some, None, refl, sym, ap, ◌∙◌, subst, if◌then◌else◌}
use Rattle.std.specs.Prelude.{Option, slice_index_or}
use Rattle.std.proofs.lemmas.List.{length-map}
use Rattle.adj_tree.specs.Code.{Var, plain}
use Rattle.adj_tree.specs.View.{procedure_of}
use Rattle.def_names.specs.Numbers.{Vars}
use Rattle.adj_reach.specs.Edges.{flag}
use Rattle.adj_symbols_writes.specs.Table.{value_of}
use Rattle.adj_symbols_writes.specs.Graph as places
use Rattle.adj_flow.specs.declared.row.Part as row
use Rattle.adj_flow.specs.declared.units.Flow.{Flow}
use Rattle.adj_flow.specs.Asked.{units_of, variables_of}
use Rattle.adj_flow.specs.Told.{told_of}
use Rattle.adj_sweep_assignment.specs.View as view
use Rattle.adj_weave_units.specs.Flowing.{scope_in}
use Rattle.adj_weave_units.proofs.Flagged.{told_taken, told_untaken, unit_variables, flags_same}
use Rattle.adj_weave_units.proofs.Places.{At}

-- where there are no flags, none is set
none_set : (n : ℕ) → flag [] n ≡ false
none_set n = refl

no_flags : (w n : ℕ) (o : Option ℕ) → view.flag_of [] w n o ≡ false
no_flags w n None = refl
no_flags w n (Some j) = none_set (n * w + j)

-- by the places of the variables of a unit, where its flags are none if it doesn't take part
pub flags_told : (f : Flow) (all flags : List Bool) (u : ℕ) (p : row.Part) → At f.parts.items u p → (es : List (List ℕ × ℕ)) → es ≡ p.places → flags ≡ (if flag f.taking u then all else []) →
    (λ v. view.flag_of flags f.width u (view.place_of es v)) ≡ told_of all (scope_in f) f.width u
flags_told f all flags u p at es is by = λ i v. one v i
  where
    known : (x : List ℕ) → value_of x es ≡ places.place_from 0 (slice_index_or (variables_of f) u []) x
    known x = ap (value_of x) is ∙ p.known x ∙ ap (λ ys. places.place_from 0 ys x) (sym (unit_variables f u p at))

    within : u < length (units_of f)
    within = subst (λ n. u < n) (sym (length-map f.parts.items (λ (q : row.Part). procedure_of q.unit.now))) at.within

    go : (v : Var) (b : Bool) → flag f.taking u ≡ b → view.flag_of (if b then all else []) f.width u (view.place_of es v) ≡ told_of all (scope_in f) f.width u v
    go v true e = flags_same es (slice_index_or (variables_of f) u []) known all f.width u v ∙ sym (told_taken (flag f.taking) (variables_of f) all f.width (units_of f) u v e within)
    go v false e = no_flags f.width u (view.place_of es v) ∙ sym (told_untaken (flag f.taking) (variables_of f) all f.width (units_of f) u v e)

    one : (v : Var) → view.flag_of flags f.width u (view.place_of es v) ≡ told_of all (scope_in f) f.width u v
    one v = ap (λ z. view.flag_of z f.width u (view.place_of es v)) by ∙ go v (flag f.taking u) refl
