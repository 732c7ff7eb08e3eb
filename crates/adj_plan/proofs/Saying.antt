-- What the letters of a plan say is what its analyses say.
use Rattle.std.proofs.Common.{◌≡◌, ◌⊎◌, inl, inr, ℕ, List, [], ◌∷◌, ◌++◌, Bool, true, false, map, refl, sym, ap, ◌∙◌, subst}
use Rattle.std.specs.Prelude.{◌↔◌, ◌||◌, Contains, Option, Some, None, slice_index_or}
use Rattle.std.specs.List.{flat_map, list_any}
use Rattle.adj_tree.specs.Code.{Var, plain}
use Rattle.adj_tree.specs.declared.marks.Head.{Head}
use Rattle.adj_tree.specs.declared.marks.Marks as flags
use Rattle.def_names.specs.Numbering.{point_before}
use Rattle.def_sweep.specs.Facts.{In}
use Rattle.def_names.proofs.Variables.{or_right}
use Rattle.def_flow.specs.Parts.{Part, parts}
use Rattle.def_flow.specs.Standing.{Standing}
use Rattle.def_flow.specs.Problem.{TakesPart, statements_of}
use Rattle.def_flow.specs.Rules.{Scope, Covers}
use Rattle.adj_reach.proofs.Members.{is_among, is_none, filter_has, filter_only}
use Rattle.def_flow.proofs.OwnPoints.{own_before}
use Rattle.adj_reach.specs.Edges.{flag}
use Rattle.adj_flow.specs.Asked.{units_of, variables_of, problem_of, IsFlow}
use Rattle.adj_flow.specs.Nodes.{node_in, number_at, place_in}
use Rattle.adj_flow.specs.Rows.{row_in, rows}
use Rattle.adj_flow.specs.Scoped.{scope_by}
use Rattle.adj_flow.specs.Told.{flag_at, told_in, unit_at}
use Rattle.adj_flow.specs.declared.units.Flow.{Flow}
use Rattle.adj_flow.proofs.Covering.{flags_cover}
use Rattle.adj_flow.proofs.Places.{place_only}
use Rattle.adj_flow.proofs.Telling.{point_found}
use Rattle.adj_flow.specs.Marked.{activity_of, liveness_of, saved_of}
use Rattle.adj_plan.specs.Asked.{IsPlan}
use Rattle.adj_plan.specs.Lines.{plan_lines, TellsPlan}
use Rattle.adj_plan.specs.View.{is_saved_in, said_in, row_lines}

-- ---- the lines of rows are those of the units

flat_mapped : {A B C : Type 0} (f : B → List C) (g : A → B) (xs : List A) → flat_map f (map g xs) ≡ flat_map (λ x. f (g x)) xs
flat_mapped f g [] = refl
flat_mapped f g (x ∷ xs) = ap (λ z. f (g x) ++ z) (flat_mapped f g xs)

pub rows_lines : (f : Flow) (t : flags.Marks) → flat_map (row_lines t f.width f.taking) (rows (variables_of f) (units_of f)) ≡ plan_lines (said_in f t) (flag f.taking) (units_of f)
rows_lines f t = flat_mapped (row_lines t f.width f.taking) (row_in (variables_of f)) (parts (units_of f))

-- ---- some variable of a list

any_only : (p : Var → Bool) (vs : List Var) → list_any p vs ≡ true → (v : Var) × (p v ≡ true)
any_only p [] h = absurd cc
any_only p (v ∷ vs) h = go (p v) refl h (any_only p vs)
  where
    go : (b : Bool) → p v ≡ b → b || list_any p vs ≡ true → (list_any p vs ≡ true → (w : Var) × (p w ≡ true)) → (w : Var) × (p w ≡ true)
    go true e h r = (v, e)
    go false e h r = r h

any_has : (p : Var → Bool) (vs : List Var) (v : Var) → Contains vs v → p v ≡ true → list_any p vs ≡ true
any_has p [] v c h = absurd (is_none v c)
any_has p (x ∷ xs) v c h = go (is_among v x xs c) (λ d. any_has p xs v d h)
  where
    go : (x ≡ v) ⊎ Contains xs v → (Contains xs v → list_any p xs ≡ true) → p x || list_any p xs ≡ true
    go (inl e) r = ap (λ b. b || list_any p xs) (ap p e ∙ h)
    go (inr d) r = or_right (p x) (list_any p xs) (r d)

-- ---- what is said of a statement

module _ (bits : List Bool) (w i : ℕ) (vs : List Var) where
  -- a variable whose flag is set is one of them
  stands : (v : Var) (n : Option ℕ) → place_in 0 vs v ≡ n → flag_at bits (number_at w i n) ≡ true → Contains vs v
  stands v None e h = absurd cc
  stands v (Some j) e h = place_only 0 vs v j e

  saved_exact : is_saved_in bits w vs i ≡ true ↔ ((v : Var) × (flag_at bits (node_in w vs (i, v)) ≡ true))
  saved_exact = (
    any_only (λ v. flag_at bits (node_in w vs (i, v))) vs,
    λ q. any_has (λ v. flag_at bits (node_in w vs (i, v))) vs q.0 (stands q.0 (place_in 0 vs q.0) refl q.1) q.1,
  )

module _ (f : Flow) (h : Head) (flow : IsFlow f h.unit) (t : flags.Marks) (x : IsPlan f (problem_of f h) t) where
  covers : Covers (problem_of f h) (scope_by (variables_of f) (flag f.taking) (units_of f))
  covers = flags_cover (problem_of f h) (variables_of f) f.taking flow.variables flow.taking

  takes : (g : Part) → Contains (parts (units_of f)) g → flag f.taking g.number ≡ true ↔ TakesPart (problem_of f h) g
  takes g c = (
    λ b. (covers.parts g).0 (filter_has (λ (z : Part). flag f.taking z.number) (parts (units_of f)) g c b),
    λ r. (filter_only (λ (z : Part). flag f.taking z.number) (parts (units_of f)) g ((covers.parts g).1 r)).1,
  )

  abbrev scope : Scope
  scope = scope_by (variables_of f) (flag f.taking) (units_of f)

  abbrev vars_in : Part → List Var
  vars_in g = map plain (slice_index_or (variables_of f) g.number [])

  saves : (g : Part) → TakesPart (problem_of f h) g → (s : Standing) → Contains (statements_of g) s →
      is_saved_in t.saved.saved f.width (vars_in g) s.number ≡ true ↔ ((v : Var) × In v (saved_of f t.saved s.number))
  saves g r s c =
      let at : unit_at scope.parts (point_before s.number) ≡ Some g = point_found (problem_of f h) scope covers g (point_before s.number) r (own_before g s c) in
      subst (λ (o : Option Part). is_saved_in t.saved.saved f.width (vars_in g) s.number ≡ true ↔ ((v : Var) × (told_in t.saved.saved scope f.width s.number o v ≡ true))) (sym at)
      (saved_exact t.saved.saved f.width s.number (vars_in g))

  pub told : TellsPlan (problem_of f h) (said_in f t) (flag f.taking)
  told = record {
    activity = activity_of f t.activity;
    liveness = liveness_of x.needed f t.kept;
    saved = saved_of f t.saved;
    held = x.held;
    analysed = x.analysed;
    units = takes;
    statements = λ g r s c. record { kept = refl; adjointed = refl; saves = saves g r s c };
  }
