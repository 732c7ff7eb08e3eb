-- Where the code begins is where the definitions begin.
use Rattle.std.proofs.Common.{◌≡◌, inl, inr, ℕ, List, [], ◌∷◌, ◌++◌, Bool, true, map, refl, sym, ap, ◌∙◌, append-nil}
use Rattle.std.specs.Prelude.{Contains, Option, Some, None, flat_map, slice_get, slice_index_or, not, ◌&&◌, ◌||◌}
use Rattle.std.specs.Borrow.{Bor}
use Rattle.adj_tree.specs.Code.{Var, plain, Act, assign, choose, loop, during, call, runtime}
use Rattle.def_names.specs.Numbers.{Vars, everything}
use Rattle.def_names.specs.Numbering.{point_before, point_after}
use Rattle.def_sweep.specs.Facts.{whole}
use Rattle.def_flow.specs.Parts.{Part, parts}
use Rattle.def_flow.specs.Ways.{Way}
use Rattle.def_flow.specs.Standing.{Standing}
use Rattle.def_names.specs.VariableLists.{list_if}
use Rattle.def_flow.specs.Problem.{Problem, statements_of, ways_of, TakesPart, flagged}
use Rattle.def_flow.specs.Activity.{Activity, statement}
use Rattle.def_flow.specs.Rules.{Scope, Covers, list_of, somewhere, head_parts, adjoint_starts_at}
use Rattle.adj_reach.proofs.Members.{is_first, is_later}
use Rattle.def_flow.proofs.OwnPoints.{own_before, own_after}
use Rattle.adj_flow.specs.Rows.{row_in, rows}
use Rattle.adj_reach.specs.Edges.{flag}
use Rattle.adj_flow.specs.Nodes.{node_in}
use Rattle.adj_activity.specs.Edges.{entry_nodes, end_nodes, head_shadows, active_shadows, shadow_nodes, adjoint_number, adjoint_nodes}
use Rattle.adj_flow.specs.Told.{told_in, told, told_of}
use Rattle.adj_activity.specs.Searched.{activity_searched}
use Rattle.adj_flow.specs.NodeView.{told_at}
use Rattle.adj_flow.specs.Scoped.{scope_by}
use Rattle.adj_activity.specs.Starts.{point_nodes, is_useful_in, active_nodes, all_active, row_activity, outright_at, outright_in, all_outright}
use Rattle.adj_activity.specs.declared.found.Found.{Found}
use Rattle.adj_flow.proofs.Scoping.{flat_same, map_flat, scoped, told_there}
use Rattle.adj_flow.proofs.Telling.{number_found}

-- two tests that agree at the ends of each way agree somewhere
somewhere_same : (f g : ℕ → Bool) (ws : List Way) → ((w : Way) → Contains ws w → (f w.from ≡ g w.from) × (f w.to ≡ g w.to)) → somewhere ws f ≡ somewhere ws g
somewhere_same f g [] h = refl
somewhere_same f g (w ∷ ws) h =
    let a = h w (is_first w w ws refl) in
    let later : somewhere ws f ≡ somewhere ws g = somewhere_same f g ws (λ z c. h z (is_later z w ws c)) in
    λ i. a.0 i || (a.1 i || later i)

-- what is so everywhere is so where something is
everywhere : (f : ℕ → Bool) (ws : List Way) → (somewhere ws f && true) ≡ (somewhere ws f && somewhere ws (λ p. true))
everywhere f [] = refl
everywhere f (w ∷ ws) = refl

module _ (k : Problem) (vss : List (List (List ℕ))) (flags : List Bool) (w : ℕ) (y : Covers k (scope_by vss (flag flags) k.units)) where
  abbrev o : Scope
  o = scope_by vss (flag flags) k.units

  -- ---- the head

  module _ (g : Part) (is : slice_get (parts k.units) k.head ≡ Some g) where
    at_head : {Y : Type 0} (f : Part → List Y) → f g ≡ flat_map f (head_parts k)
    at_head f = sym (append-nil (f g)) ∙ ap (λ z. flat_map f (list_of z)) (sym is)

    pub entry_same : point_nodes w (row_in vss g) g.entry k.vars ≡ entry_nodes k o w
    entry_same = at_head (λ q. flat_map (λ d. list_of (node_in w (o.variables q) (q.entry, plain d))) (flagged k.vars q.unit.dummies))

    pub end_same : point_nodes w (row_in vss g) g.end k.outvars ≡ end_nodes k o w
    end_same = at_head (λ q. flat_map (λ d. list_of (node_in w (o.variables q) (q.end, plain d))) (flagged k.outvars q.unit.dummies))

    head_same : point_nodes w (row_in vss g) g.number k.vars ++ point_nodes w (row_in vss g) g.number k.outvars ≡ flat_map (head_shadows k o w) (head_parts k)
    head_same = at_head (head_shadows k o w)

    -- ---- shadows

    -- what is useful, by flags; without flags everything is
    abbrev pub useful_by : Option (Bor (List Bool)) → ℕ → Vars
    useful_by None = λ p. everything
    useful_by (Some useful) = told useful.now o w

    active_same : (varied : List Bool) (useful : Option (Bor (List Bool))) (q : Part) → TakesPart k q → active_nodes varied useful w (row_in vss q) ≡ active_shadows o w (told varied o w) (useful_by useful) q
    active_same varied useful q t =
        flat_same (λ v. list_if (somewhere (ways_of q) (λ p. told_at varied w (row_in vss q) p v) && is_useful_in useful w (row_in vss q) v) (list_of (node_in w (o.variables q) (q.number, v))))
        (λ v. list_if (somewhere (ways_of q) (λ p. told varied o w p v) && somewhere (ways_of q) (λ p. useful_by useful p v)) (list_of (node_in w (o.variables q) (q.number, v)))) (o.variables q)
        (λ v c.
        let a : somewhere (ways_of q) (λ p. told_at varied w (row_in vss q) p v) ≡ somewhere (ways_of q) (λ p. told varied o w p v) = on varied v in
        (λ i. list_if (a i && is_useful_in useful w (row_in vss q) v) (list_of (node_in w (o.variables q) (q.number, v)))) ∙ ap (λ b. list_if b (list_of (node_in w (o.variables q) (q.number, v)))) (used useful v))
      where
        on : (by : List Bool) (v : Var) → somewhere (ways_of q) (λ p. told_at by w (row_in vss q) p v) ≡ somewhere (ways_of q) (λ p. told by o w p v)
        on by v =
            somewhere_same (λ p. told_at by w (row_in vss q) p v) (λ p. told by o w p v) (ways_of q)
            (λ r c. (told_there k o y by w (slice_index_or vss q.number []) q r.from t (r, c, inl refl) refl v, told_there k o y by w (slice_index_or vss q.number []) q r.to t (r, c, inr refl) refl v))

        used : (by : Option (Bor (List Bool))) (v : Var) →
            (somewhere (ways_of q) (λ p. told varied o w p v) && is_useful_in by w (row_in vss q) v) ≡ (somewhere (ways_of q) (λ p. told varied o w p v) && somewhere (ways_of q) (λ p. useful_by by p v))
        used None v = everywhere (λ p. told varied o w p v) (ways_of q)
        used (Some by) v = ap (λ b. somewhere (ways_of q) (λ p. told varied o w p v) && b) (on by.now v)

    pub shadows_same : (varied : List Bool) (useful : Option (Bor (List Bool))) →
        (point_nodes w (row_in vss g) g.number k.vars ++ point_nodes w (row_in vss g) g.number k.outvars) ++ all_active varied useful (rows vss k.units) flags w ≡ shadow_nodes k o w (told varied o w) (useful_by useful)
    shadows_same varied useful =
        let a : all_active varied useful (rows vss k.units) flags w ≡ flat_map (active_shadows o w (told varied o w) (useful_by useful)) o.parts =
        scoped k vss flags (active_nodes varied useful w) (active_shadows o w (told varied o w) (useful_by useful)) (λ q c. active_same varied useful q ((y.parts q).0 c)) in
        λ i. head_same i ++ a i

  -- ---- adjoints

  -- what is told of a unit by its number
  told_here : (by : List Bool) (q : Part) → TakesPart k q → (v : Var) → told_at by w (row_in vss q) q.number v ≡ told_of by o w q.number v
  told_here by q t v = sym (ap (λ z. told_in by o w q.number z v) (number_found k o y q q.number t refl))

  module _ (f : Found) (adjointed : List Bool) where
    abbrev a : Activity
    a = activity_searched f.varied.now f.useful.now f.shadowed.now adjointed o w

    at_same : (q : Part) (s : Standing) → TakesPart k q → Contains (statements_of q) s → (b : Act) → adjoint_starts_at (row_activity f w (row_in vss q)) q.number s.number b ≡ adjoint_starts_at a q.number s.number b
    at_same q s t c (assign x subs e) =
        let n : told_at f.shadowed.now w (row_in vss q) q.number x ≡ told_of f.shadowed.now o w q.number x = told_here f.shadowed.now q t x in
        let p : told_at f.varied.now w (row_in vss q) (point_after s.number) x ≡ told f.varied.now o w (point_after s.number) x = told_there k o y f.varied.now w (slice_index_or vss q.number []) q (point_after s.number) t (own_after q s c) refl x in
        let u : told_at f.useful.now w (row_in vss q) (point_after s.number) x ≡ told f.useful.now o w (point_after s.number) x = told_there k o y f.useful.now w (slice_index_or vss q.number []) q (point_after s.number) t (own_after q s c) refl x in
        let m : told_at f.varied.now w (row_in vss q) (point_before s.number) x ≡ told f.varied.now o w (point_before s.number) x = told_there k o y f.varied.now w (slice_index_or vss q.number []) q (point_before s.number) t (own_before q s c) refl x in
        λ i. list_if (n i && ((p i && u i) || (whole x subs x && (m i && not (p i))))) (statement s.number ∷ [])
    at_same q s t c (choose r b d) = refl
    at_same q s t c (loop x first last by body r) =
        let n : told_at f.shadowed.now w (row_in vss q) q.number x ≡ told_of f.shadowed.now o w q.number x = told_here f.shadowed.now q t x in
        let m : told_at f.varied.now w (row_in vss q) (point_before s.number) x ≡ told f.varied.now o w (point_before s.number) x = told_there k o y f.varied.now w (slice_index_or vss q.number []) q (point_before s.number) t (own_before q s c) refl x in
        λ i. list_if (n i && m i) (statement s.number ∷ [])
    at_same q s t c (during r body) = refl
    at_same q s t c (call name args) = refl
    at_same q s t c (runtime r) = refl

    in_same : (q : Part) → TakesPart k q → outright_in f w (row_in vss q) ≡ map adjoint_number (flat_map (λ s. adjoint_starts_at a q.number s.number s.act) (statements_of q))
    in_same q t =
        flat_same (outright_at f w (row_in vss q)) (λ s. map adjoint_number (adjoint_starts_at a q.number s.number s.act)) (statements_of q) (λ s c. ap (map adjoint_number) (at_same q s t c s.act))
        ∙ map_flat adjoint_number (λ (s : Standing). adjoint_starts_at a q.number s.number s.act) (statements_of q)

    pub outright_same : all_outright f (rows vss k.units) flags w ≡ adjoint_nodes a o
    outright_same =
        scoped k vss flags (outright_in f w) (λ (q : Part). map adjoint_number (flat_map (λ s. adjoint_starts_at a q.number s.number s.act) (statements_of q))) (λ q c. in_same q ((y.parts q).0 c))
        ∙ map_flat adjoint_number (λ (q : Part). flat_map (λ s. adjoint_starts_at a q.number s.number s.act) (statements_of q)) o.parts
