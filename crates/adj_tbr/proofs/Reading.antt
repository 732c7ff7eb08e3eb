-- The numbers of adjoint reads are those of the definitions.
use Rattle.std.proofs.Common.{◌≡◌, ℕ, List, [], ◌∷◌, ◌++◌, Bool, true, false, map, refl, sym, ap, ◌∙◌, subst, append-nil, arith}
use Rattle.std.specs.Prelude.{Contains, Option, Some, None, not, ◌&&◌, ◌||◌, flat_map, slice_index_or}
use Rattle.std.specs.Option.{option_map}
use Rattle.std.proofs.lemmas.List.Concat.{flat_map-cons}
use Rattle.std.proofs.lemmas.List.Folds.{flat_map-map}
use Rattle.adj_tree.specs.Code.{Var, plain, Terms, Act, assign, choose, loop, during, call, runtime}
use Rattle.def_meaning.specs.LeastSet.{least_rows}
use Rattle.def_meaning.specs.Read.{read_rule, is_read}
use Rattle.def_meaning.specs.Written.{write_rule, is_written}
use Rattle.def_meaning.proofs.ReadsMore.{read_rises}
use Rattle.def_meaning.proofs.WritesMore.{write_rises}
use Rattle.def_names.specs.Numbers.{Vars}
use Rattle.def_names.specs.Numbering.{point_before}
use Rattle.adj_reach.specs.Reached.{leads}
use Rattle.def_flow.specs.Parts.{Part, parts, find_part}
use Rattle.def_flow.specs.Standing.{Standing}
use Rattle.def_flow.specs.Problem.{Problem, statements_of, TakesPart}
use Rattle.def_flow.specs.Activity.{Activity, IsPoint}
use Rattle.def_flow.specs.Live.{Liveness}
use Rattle.def_flow.specs.Uses.{site, turned_by, is_turn}
use Rattle.def_flow.specs.Rules.{Scope, Covers, with_args, called, at_actuals, reads_by, reads_called, reads_list}
use Rattle.def_names.specs.VariableLists.{list_if, vars_in_terms}
use Rattle.def_flow.specs.AdjointReads.{adjoint_reads_in}
use Rattle.def_flow.proofs.Numbers.{part_is_there}
use Rattle.def_flow.proofs.OwnPoints.{own_before}
use Rattle.def_flow.proofs.Points.{one_point}
use Rattle.def_flow.proofs.LiveListed.{site_point}
use Rattle.adj_flow.specs.Nodes.{HasNode}
use Rattle.adj_flow.specs.Rows.{Row, row_in, rows}
use Rattle.adj_flow.specs.Scoped.{scope_by}
use Rattle.adj_flow.proofs.Images.{Images, images_none, images_append, images_flat, images_map, images_if}
use Rattle.adj_flow.proofs.Scoping.{scoped}
use Rattle.adj_reach.specs.Edges.{flag}
use Rattle.adj_tbr.specs.Bound.{Passed, bound_from, dummies_at, seen}
use Rattle.adj_tbr.specs.View.{adjointed_by, kept_by, split_by}
use Rattle.adj_tbr.specs.Reads.{node_before, assigned_reads, is_wanted, found_reads, call_reads, standing_reads, unit_reads, read_nodes}
use Rattle.adj_tbr.specs.declared.found.Found.{Found}
use Rattle.adj_flow.specs.declared.sides.Sides.{Sides}
use Rattle.adj_tbr.proofs.Given.{activity_by, liveness_by, told_here, active_same}
use Rattle.adj_tbr.proofs.Numbering.{images_at, number_has, number_only}
use Rattle.adj_tbr.proofs.Passing.{pair, pairs_bound, bound_place}
use Rattle.adj_tbr.proofs.Sets.{dummy_flag}
use Rattle.adj_tbr.proofs.Standing.{before}

-- ---- lists

abbrev nothing : {X : Type 0} (Y : Type 0) → X → List Y
nothing Y x = []

flat_nothing : {X : Type 0} (Y : Type 0) (xs : List X) → flat_map (nothing Y) xs ≡ []
flat_nothing Y [] = refl
flat_nothing Y (x ∷ xs) = flat_map-cons (nothing Y) x xs ∙ flat_nothing Y xs

-- what holds of all members is asked once
flat_if : {X Y : Type 0} (b : Bool) (c : X → Bool) (f : X → List Y) (xs : List X) → flat_map (λ x. list_if (b && c x) (f x)) xs ≡ list_if b (flat_map (λ x. list_if (c x) (f x)) xs)
flat_if true c f xs = refl
flat_if {Y = Y} false c f xs = flat_nothing Y xs

module _ (k : Problem) (vss : List (List (List ℕ))) (taking : List Bool) (w : ℕ) (y : Covers k (scope_by vss (flag taking) k.units)) (f : Found) (useful : List Bool) (needed : ℕ → Vars) (t : Sides) (find : List ℕ → Option Row)
    (finds : (x : List ℕ) → find x ≡ option_map (row_in vss) (find_part (parts k.units) x)) (read : seen t.read.now ≡ least_rows read_rule k.units) (written : seen t.written.now ≡ least_rows write_rule k.units) (splits : (n : ℕ) → split_by f n ≡ k.split n) where
  abbrev o : Scope
  o = scope_by vss (flag taking) k.units

  abbrev a : Activity
  a = activity_by f useful o w

  abbrev l : Liveness
  l = liveness_by f needed o w

  abbrev pub IsRead : ℕ × Var → ℕ → Type 0
  IsRead r = HasNode k o w (before r)

  one_read : (g : Part) (i : ℕ) (v : Var) → TakesPart k g → IsPoint g (point_before i) → Images IsRead ((i, v) ∷ []) (node_before w (row_in vss g) i v)
  one_read g i v u p = images_at (i, v) (node_before w (row_in vss g) i v) (number_has k o w IsPoint (one_point k) g u (point_before i, v) p) (number_only k o w IsPoint (one_point k) g u (point_before i, v) p)

  -- ---- assignments

  assigned_images : (g : Part) (s : Standing) → TakesPart k g → Contains (statements_of g) s → (b : Act) →
      Images IsRead (reads_by a l g.number s.number b) (flat_map (node_before w (row_in vss g) s.number) (assigned_reads f w (row_in vss g) s.number b))
  assigned_images g s u c (assign x subs e) =
      let same : assigned_reads f w (row_in vss g) s.number (assign x subs e) ≡ _ =
      (λ j. list_if (adjointed_by f s.number) (adjoint_reads_in (active_same k vss taking w y f useful needed g s.number u (own_before g s c) j) e) ++ list_if (kept_by f s.number || adjointed_by f s.number) (vars_in_terms subs)) in
      subst (λ z. Images IsRead (map (λ v. (s.number, v)) z) (flat_map (node_before w (row_in vss g) s.number) (assigned_reads f w (row_in vss g) s.number (assign x subs e)))) same
      (images_map (λ v. (s.number, v)) (node_before w (row_in vss g) s.number) (assigned_reads f w (row_in vss g) s.number (assign x subs e)) (λ v m. one_read g s.number v u (own_before g s c)))
  assigned_images g s u c (choose q b d) = images_none
  assigned_images g s u c (loop x first last by body m) = images_none
  assigned_images g s u c (during q body) = images_none
  assigned_images g s u c (call name args) = images_none
  assigned_images g s u c (runtime r) = images_none

  -- ---- calls

  module _ (h : Part) (s : Standing) (u : TakesPart k h) (c : Contains (statements_of h) s) where
    -- of an actual that a dummy is bound to
    abbrev is_call_read : Part → Passed → Bool
    is_call_read g b = not (turned_by s.place b.2) && ((l.wanted g.number b.1 || ((k.split s.number || is_turn s.place) && is_read k.units g.unit b.1)) && not (is_written k.units g.unit b.1))

    wanted_same : (g : Part) → TakesPart k g → (args : Terms) (b : Passed) → Contains (bound_from 0 g.unit.dummies args) b → is_wanted f t w s (row_in vss g) b ≡ is_call_read g b
    wanted_same g v args b m =
        let q = bound_place 0 g.unit.dummies args b m in
        let n = q.1 in
        let e : b.0 ≡ q.0 = omega arith in
        let there = part_is_there k g v in
        let r : flag (dummies_at t.read.now (row_in vss g)) b.0 ≡ is_read k.units g.unit b.1 =
        (λ j. flag (slice_index_or (read j) g.number []) (e j)) ∙ dummy_flag read_rule read_rises k.units g there q.0 b.1 q.2 in
        let z : flag (dummies_at t.written.now (row_in vss g)) b.0 ≡ is_written k.units g.unit b.1 =
        (λ j. flag (slice_index_or (written j) g.number []) (e j)) ∙ dummy_flag write_rule write_rises k.units g there q.0 b.1 q.2 in
        let marked : split_by f s.number ≡ k.split s.number = splits s.number in
        λ j. not (turned_by s.place b.2) && ((told_here k vss taking w y f.entry.now g v (plain b.1) j || ((marked j || is_turn s.place) && r j)) && not (z j))

    found_images : (name : List ℕ) (args : Terms) → s.act ≡ call name args → (g : Option Part) → find_part (parts k.units) name ≡ g →
        Images IsRead (flat_map (at_actuals (reads_called k a l s)) (with_args args g)) (found_reads f t w (row_in vss h) s args (option_map (row_in vss) g))
    found_images name args e None p = images_none
    found_images name args e (Some g) p =
        let v : TakesPart k g = leads u (s, args, record { name = name; stands = c; act = e; finds = p }) in
        let adj : Bool = adjointed_by f s.number in
        let here : ℕ = site true s.number s.place in
        let zs : List Passed = bound_from 0 g.unit.dummies args in
        let things : flat_map (λ b. list_if (adjointed_by f s.number && is_call_read g b) ((site true s.number s.place, b.2) ∷ [])) (bound_from 0 g.unit.dummies args) ≡ flat_map (at_actuals (reads_called k a l s)) (with_args args (Some g)) =
        sym (flat_map-map (λ (b : List ℕ × Var). reads_called k a l s g b.0 b.1) pair (bound_from 0 g.unit.dummies args)) ∙ ap (flat_map (λ (b : List ℕ × Var). reads_called k a l s g b.0 b.1)) (pairs_bound 0 g.unit.dummies args)
        ∙ sym (append-nil (at_actuals (reads_called k a l s) (g, args))) ∙ sym (flat_map-cons (at_actuals (reads_called k a l s)) (g, args) []) in
        let numbers : flat_map (λ b. list_if (adjointed_by f s.number && is_wanted f t w s (row_in vss g) b) (node_before w (row_in vss h) (site true s.number s.place) b.2)) (bound_from 0 g.unit.dummies args) ≡ found_reads f t w (row_in vss h) s args (Some (row_in vss g)) =
        flat_if (adjointed_by f s.number) (is_wanted f t w s (row_in vss g)) (λ b. node_before w (row_in vss h) (site true s.number s.place) b.2) (bound_from 0 g.unit.dummies args) in
        subst (λ z. Images IsRead z (found_reads f t w (row_in vss h) s args (Some (row_in vss g)))) things (subst (λ z. Images IsRead (flat_map (λ b. list_if (adjointed_by f s.number && is_call_read g b) ((site true s.number s.place, b.2) ∷ [])) (bound_from 0 g.unit.dummies args)) z) numbers
        (images_flat (λ b. list_if (adjointed_by f s.number && is_call_read g b) ((site true s.number s.place, b.2) ∷ []))
        (λ b. list_if (adjointed_by f s.number && is_wanted f t w s (row_in vss g) b) (node_before w (row_in vss h) (site true s.number s.place) b.2)) (bound_from 0 g.unit.dummies args)
        (λ b m. subst (λ q. Images IsRead (list_if (adjointed_by f s.number && is_call_read g b) ((site true s.number s.place, b.2) ∷ [])) (list_if (adjointed_by f s.number && q) (node_before w (row_in vss h) (site true s.number s.place) b.2))) (sym (wanted_same g v args b m))
        (images_if (adjointed_by f s.number && is_call_read g b) (one_read h (site true s.number s.place) b.2 u (site_point k o y a h s true c))))))

    call_images : (b : Act) → s.act ≡ b → Images IsRead (flat_map (at_actuals (reads_called k a l s)) (called (parts k.units) b)) (call_reads f t find w (row_in vss h) s b)
    call_images (assign x subs e) p = images_none
    call_images (choose q d e) p = images_none
    call_images (loop x first last by body m) p = images_none
    call_images (during q body) p = images_none
    call_images (call name args) p =
        subst (λ z. Images IsRead (flat_map (at_actuals (reads_called k a l s)) (with_args args (find_part (parts k.units) name))) (found_reads f t w (row_in vss h) s args z)) (sym (finds name)) (found_images name args p (find_part (parts k.units) name) refl)
    call_images (runtime r) p = images_none

  -- ---- all

  unit_images : (g : Part) → TakesPart k g → Images IsRead (flat_map (λ s. reads_by a l g.number s.number s.act ++ flat_map (at_actuals (reads_called k a l s)) (called (parts k.units) s.act)) (statements_of g)) (unit_reads f t find w (row_in vss g))
  unit_images g u =
      images_flat (λ s. reads_by a l g.number s.number s.act ++ flat_map (at_actuals (reads_called k a l s)) (called (parts k.units) s.act)) (standing_reads f t find w (row_in vss g)) (statements_of g)
      (λ s c. images_append (assigned_images g s u c s.act) (call_images g s u c s.act refl))

  pub read_images : Images IsRead (reads_list k a l o) (read_nodes f t find (rows vss k.units) taking w)
  read_images =
      subst (λ z. Images IsRead (reads_list k a l o) z) (sym (scoped k vss taking (unit_reads f t find w) (λ g. unit_reads f t find w (row_in vss g)) (λ g c. refl)))
      (images_flat (λ g. flat_map (λ s. reads_by a l g.number s.number s.act ++ flat_map (at_actuals (reads_called k a l s)) (called (parts k.units) s.act)) (statements_of g)) (λ g. unit_reads f t find w (row_in vss g)) o.parts (λ g c. unit_images g ((y.parts g).0 c)))
