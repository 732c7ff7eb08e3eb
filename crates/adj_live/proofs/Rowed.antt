-- The lists of the rows of units that take part are those of the units, by what the flags of the activity tell.
use Rattle.std.proofs.Common.{◌≡◌, ℕ, List, [], ◌∷◌, ◌++◌, Bool, refl, sym, ap}
use Rattle.std.specs.Prelude.{Contains, Option, ◌&&◌, flat_map, slice_index_or}
use Rattle.adj_tree.specs.Code.{Var, Act, assign, choose, loop, during, call, runtime}
use Rattle.adj_tree.specs.declared.marks.Activity as flags
use Rattle.def_names.specs.Numbers.{Vars}
use Rattle.def_names.specs.Numbering.{point_before}
use Rattle.def_flow.specs.Parts.{Part}
use Rattle.def_flow.specs.Standing.{outermost, Standing}
use Rattle.def_names.specs.VariableLists.{list_if, vars_in_terms}
use Rattle.def_flow.specs.AdjointReads.{adjoint_reads_in}
use Rattle.def_flow.specs.Problem.{Problem, statements_of, TakesPart}
use Rattle.def_flow.specs.Activity.{Activity}
use Rattle.def_flow.specs.Rules.{Scope, Covers}
use Rattle.def_flow.proofs.OwnPoints.{own_before}
use Rattle.adj_reach.specs.Edges.{flag}
use Rattle.adj_flow.specs.Rows.{Row, row_in, rows}
use Rattle.adj_flow.specs.Told.{told_in, told, told_of}
use Rattle.adj_flow.specs.NodeView.{told_at}
use Rattle.adj_flow.specs.Scoped.{scope_by}
use Rattle.adj_flow.proofs.Scoping.{flat_same, scoped, told_there}
use Rattle.adj_flow.proofs.Telling.{number_found}
use Rattle.adj_flow.specs.ActivityTold.{activity_told}
use Rattle.adj_live.specs.Numbers.{kept_at}
use Rattle.adj_live.specs.Listed.{Here, needed_nodes, own_nodes, held_nodes, statement_nodes, extent_nodes, unit_nodes, all_nodes, unit_edges, all_edges}
use Rattle.adj_live.specs.View.{activity_in}
use Rattle.adj_live.proofs.Imaged.{here_of}

module _ (k : Problem) (vss : List (List (List ℕ))) (taking : List Bool) (w : ℕ) (y : Covers k (scope_by vss (flag taking) k.units)) (b : flags.Activity) (find : List ℕ → Option Row) (read written : List ℕ → List Bool) where
  abbrev o : Scope
  o = scope_by vss (flag taking) k.units

  -- what the flags tell
  abbrev a : Activity
  a = activity_told b.varied b.useful b.shadowed b.adjointed o w

  -- a unit by its row
  abbrev seen : Row → Here
  seen r = record { width = w; find = find; read = read; written = written; activity = activity_in b w r; split = k.split; row = r }

  abbrev here : Part → Here
  here = here_of vss w a k.split find read written

  pub edges_same : all_edges seen (rows vss k.units) taking ≡ flat_map (λ g. unit_edges (here g)) o.parts
  edges_same = scoped k vss taking (λ r. unit_edges (seen r)) (λ g. unit_edges (here g)) (λ g c. refl)

  -- ---- beginnings

  module _ (g : Part) (t : TakesPart k g) where
    is_varied : (s : Standing) → Contains (statements_of g) s → (v : Var) → told_at b.varied w (row_in vss g) (point_before s.number) v ≡ told b.varied o w (point_before s.number) v
    is_varied s c v = told_there k o y b.varied w (slice_index_or vss g.number []) g (point_before s.number) t (own_before g s c) refl v

    has_shadow : (v : Var) → told_at b.shadowed w (row_in vss g) g.number v ≡ told_of b.shadowed o w g.number v
    has_shadow v = sym (ap (λ z. told_in b.shadowed o w g.number z v) (number_found k o y g g.number t refl))

    own_same : (s : Standing) → Contains (statements_of g) s → (d : Act) → own_nodes (seen (row_in vss g)) s.number d ≡ own_nodes (here g) s.number d
    own_same s c (assign x subs e) =
        let on : (λ (v : Var). told_at b.varied w (row_in vss g) (point_before s.number) v && told_at b.shadowed w (row_in vss g) g.number v) ≡ (λ (v : Var). told b.varied o w (point_before s.number) v && told_of b.shadowed o w g.number v) = (λ i v. is_varied s c v i && has_shadow v i) in
        ap (λ (z : Vars). list_if (flag b.adjointed s.number) (needed_nodes (here g) (point_before s.number) outermost (adjoint_reads_in z e ++ vars_in_terms subs))) on
    own_same s c (choose q d e) = refl
    own_same s c (loop x first last by body m) =
        let n = has_shadow x in
        let p = is_varied s c x in
        λ i. list_if (n i && p i) (kept_at w s.number ∷ [])
    own_same s c (during q body) = refl
    own_same s c (call name args) = refl
    own_same s c (runtime r) = refl

    unit_same : unit_nodes (seen (row_in vss g)) ≡ unit_nodes (here g)
    unit_same =
        ap (λ z. extent_nodes (here g) ++ z)
        (flat_same (statement_nodes (seen (row_in vss g))) (statement_nodes (here g)) (statements_of g) (λ s c. ap (λ z. z ++ list_if (flag b.adjointed s.number) (held_nodes (here g) s)) (own_same s c s.act)))

  pub nodes_same : all_nodes seen (rows vss k.units) taking ≡ flat_map (λ g. unit_nodes (here g)) o.parts
  nodes_same = scoped k vss taking (λ r. unit_nodes (seen r)) (λ g. unit_nodes (here g)) (λ g c. unit_same g ((y.parts g).0 c))
