-- The numbers of what may be saved and is held are those of the definitions.
use Rattle.std.proofs.Common.{◌≡◌, ℕ, List, [], ◌∷◌, ◌++◌, Bool, true, map, refl, sym, ap, ◌∙◌, subst, append-nil}
use Rattle.std.specs.Prelude.{Contains, Option, Some, None, ◌||◌, ◌&&◌, not, flat_map, slice_index_or}
use Rattle.std.specs.Option.{option_map}
use Rattle.std.proofs.lemmas.List.Concat.{flat_map-cons}
use Rattle.adj_tree.specs.Code.{Var, Terms, Act, assign, choose, loop, during, call, runtime}
use Rattle.def_meaning.specs.LeastSet.{least_rows}
use Rattle.def_meaning.specs.Written.{write_rule}
use Rattle.def_meaning.proofs.WritesMore.{write_rises}
use Rattle.def_names.specs.Numbers.{Vars}
use Rattle.def_names.specs.Numbering.{point_before}
use Rattle.adj_reach.specs.Reached.{leads}
use Rattle.def_flow.specs.Parts.{Part, parts, find_part}
use Rattle.def_flow.specs.Standing.{Standing}
use Rattle.def_flow.specs.Problem.{Problem, statements_of, TakesPart}
use Rattle.def_flow.specs.Activity.{Activity, IsPoint}
use Rattle.def_flow.specs.Live.{Liveness}
use Rattle.def_flow.specs.Uses.{site}
use Rattle.def_flow.specs.Rules.{Scope, Covers, list_of, with_args, called, may_save_by, may_save_called, may_save_list}
use Rattle.def_names.specs.VariableLists.{list_if, handed_in, handed_in_actuals}
use Rattle.def_names.proofs.Conditioned.{if_has, if_only}
use Rattle.def_flow.proofs.Numbers.{part_is_there}
use Rattle.def_flow.proofs.OwnPoints.{own_before}
use Rattle.def_flow.proofs.Points.{one_point}
use Rattle.def_flow.proofs.LiveListed.{site_point}
use Rattle.adj_flow.specs.NodeView.{told_at}
use Rattle.adj_flow.specs.Nodes.{node_in, HasNumber}
use Rattle.adj_flow.specs.Rows.{Row, row_in, rows}
use Rattle.adj_flow.specs.Scoped.{scope_by}
use Rattle.adj_flow.specs.Told.{told}
use Rattle.adj_flow.proofs.Images.{Images, images_none, images_append, images_flat, images_map, images_if}
use Rattle.adj_flow.proofs.Scoping.{scoped, told_there}
use Rattle.adj_reach.specs.Edges.{flag}
use Rattle.adj_tbr.specs.Bound.{dummies_at, seen}
use Rattle.adj_tbr.specs.View.{adjointed_by, kept_by, split_by}
use Rattle.adj_tbr.specs.Saves.{saved_node, own_saves, call_may_save, found_saves, call_saves, standing_saves, unit_saves, save_nodes}
use Rattle.adj_tbr.specs.declared.found.Found.{Found}
use Rattle.adj_flow.specs.declared.sides.Sides.{Sides}
use Rattle.adj_tbr.proofs.Given.{activity_by, liveness_by}
use Rattle.adj_tbr.proofs.Numbering.{images_at, number_has, number_only}
use Rattle.adj_tbr.proofs.Sets.{named_row}

-- the statement of a number is one of the unit
abbrev pub IsStatement : Part → ℕ → Type 0
IsStatement g i = IsPoint g (point_before i)

-- a statement is one of one unit
pub one_statement : (k : Problem) (f g : Part) (i : ℕ) → TakesPart k f → TakesPart k g → IsStatement f i → IsStatement g i → f ≡ g
one_statement k f g i t u p q = one_point k f g (point_before i) t u p q

module _ (k : Problem) (vss : List (List (List ℕ))) (taking : List Bool) (w : ℕ) (y : Covers k (scope_by vss (flag taking) k.units)) (f : Found) (useful : List Bool) (needed : ℕ → Vars) (t : Sides) (held : List Bool) (find : List ℕ → Option Row)
    (finds : (x : List ℕ) → find x ≡ option_map (row_in vss) (find_part (parts k.units) x)) (written : seen t.written.now ≡ least_rows write_rule k.units) (splits : (n : ℕ) → split_by f n ≡ k.split n) where
  abbrev o : Scope
  o = scope_by vss (flag taking) k.units

  abbrev a : Activity
  a = activity_by f useful o w

  abbrev l : Liveness
  l = liveness_by f needed o w

  -- a variable at a statement before which the flags tell it
  abbrev pub IsKept : ℕ × Var → ℕ → Type 0
  IsKept r m = HasNumber k o w IsStatement r m × (told held o w (point_before r.0) r.1 ≡ true)

  one_saved : (g : Part) (i : ℕ) (v : Var) → TakesPart k g → IsStatement g i → Images IsKept ((i, v) ∷ []) (saved_node held w (row_in vss g) i v)
  one_saved g i v u p = images_at (i, v) (saved_node held w (row_in vss g) i v) has only
    where
      same : told_at held w (row_in vss g) (point_before i) v ≡ told held o w (point_before i) v
      same = told_there k o y held w (slice_index_or vss g.number []) g (point_before i) u p refl v

      has : (m : ℕ) → IsKept (i, v) m → Contains (saved_node held w (row_in vss g) i v) m
      has m h = if_has (told_at held w (row_in vss g) (point_before i) v) (list_of (node_in w (o.variables g) (i, v))) m (same ∙ h.1) (number_has k o w IsStatement (one_statement k) g u (i, v) p m h.0)

      only : (m : ℕ) → Contains (saved_node held w (row_in vss g) i v) m → IsKept (i, v) m
      only m c =
          let q = if_only (told_at held w (row_in vss g) (point_before i) v) (list_of (node_in w (o.variables g) (i, v))) m c in
          (number_only k o w IsStatement (one_statement k) g u (i, v) p m q.1, sym same ∙ q.0)

  -- ---- assignments and loops

  own_images : (g : Part) (s : Standing) → TakesPart k g → Contains (statements_of g) s → (b : Act) → Images IsKept (may_save_by l s.number b) (own_saves held f w (row_in vss g) s.number b)
  own_images g s u c (assign x subs e) = images_if (kept_by f s.number) (one_saved g s.number x u (own_before g s c))
  own_images g s u c (choose q b d) = images_none
  own_images g s u c (loop x first last by body m) = images_if (kept_by f s.number) (one_saved g s.number x u (own_before g s c))
  own_images g s u c (during q body) = images_none
  own_images g s u c (call name args) = images_none
  own_images g s u c (runtime r) = images_none

  -- ---- calls

  module _ (h : Part) (s : Standing) (u : TakesPart k h) (c : Contains (statements_of h) s) where
    -- what is handed back, by the flags of the unit that is called
    handed_same : (name : List ℕ) (args : Terms) → s.act ≡ call name args → (g : Part) → TakesPart k g → find_part (parts k.units) name ≡ Some g → handed_in k.units s.act ≡ handed_in_actuals (dummies_at t.written.now (row_in vss g)) args
    handed_same name args e g v p =
        ap (handed_in k.units) e
        ∙ ap (λ z. handed_in_actuals z args) (named_row write_rule write_rises k.units name g (part_is_there k g v) p ∙ ap (λ z. slice_index_or z g.number []) (sym written))

    found_images : (name : List ℕ) (args : Terms) → s.act ≡ call name args → (g : Option Part) → find_part (parts k.units) name ≡ g →
        Images IsKept (flat_map (may_save_called k a l s) (with_args args g)) (found_saves held f t w (row_in vss h) s args (option_map (row_in vss) g))
    found_images name args e None p = images_none
    found_images name args e (Some g) p =
        let v : TakesPart k g = leads u (s, args, record { name = name; stands = c; act = e; finds = p }) in
        subst (λ z. Images IsKept z (found_saves held f t w (row_in vss h) s args (Some (row_in vss g)))) (sym (append-nil (may_save_called k a l s (g, args))) ∙ sym (flat_map-cons (may_save_called k a l s) (g, args) []))
        (subst (λ b. Images IsKept (saves_by b) (found_saves held f t w (row_in vss h) s args (Some (row_in vss g)))) (splits s.number) (images_if (call_may_save f s.number)
        (subst (λ z. Images IsKept (map (λ x. (site (adjointed_by f s.number) s.number s.place, x)) z) (flat_map (saved_node held w (row_in vss h) (site (adjointed_by f s.number) s.number s.place)) (handed_in_actuals (dummies_at t.written.now (row_in vss g)) args)))
        (sym (handed_same name args e g v p))
        (images_map (λ x. (site (adjointed_by f s.number) s.number s.place, x)) (saved_node held w (row_in vss h) (site (adjointed_by f s.number) s.number s.place)) (handed_in_actuals (dummies_at t.written.now (row_in vss g)) args)
        (λ x m. one_saved h (site (adjointed_by f s.number) s.number s.place) x u (site_point k o y a h s (adjointed_by f s.number) c))))))
      where
        -- what the call may save, by whether it is to be split
        saves_by : Bool → List (ℕ × Var)
        saves_by b = list_if (not (b && adjointed_by f s.number) && (kept_by f s.number || adjointed_by f s.number)) (map (λ v. (site (adjointed_by f s.number) s.number s.place, v)) (handed_in k.units s.act))

    call_images : (b : Act) → s.act ≡ b → Images IsKept (flat_map (may_save_called k a l s) (called (parts k.units) b)) (call_saves held f t find w (row_in vss h) s b)
    call_images (assign x subs e) p = images_none
    call_images (choose q d e) p = images_none
    call_images (loop x first last by body m) p = images_none
    call_images (during q body) p = images_none
    call_images (call name args) p =
        subst (λ z. Images IsKept (flat_map (may_save_called k a l s) (with_args args (find_part (parts k.units) name))) (found_saves held f t w (row_in vss h) s args z)) (sym (finds name)) (found_images name args p (find_part (parts k.units) name) refl)
    call_images (runtime r) p = images_none

  -- ---- all

  unit_images : (g : Part) → TakesPart k g → Images IsKept (flat_map (λ s. may_save_by l s.number s.act ++ flat_map (may_save_called k a l s) (called (parts k.units) s.act)) (statements_of g)) (unit_saves held f t find w (row_in vss g))
  unit_images g u =
      images_flat (λ s. may_save_by l s.number s.act ++ flat_map (may_save_called k a l s) (called (parts k.units) s.act)) (standing_saves held f t find w (row_in vss g)) (statements_of g)
      (λ s c. images_append (own_images g s u c s.act) (call_images g s u c s.act refl))

  pub save_images : Images IsKept (may_save_list k a l o) (save_nodes held f t find (rows vss k.units) taking w)
  save_images =
      subst (λ z. Images IsKept (may_save_list k a l o) z) (sym (scoped k vss taking (unit_saves held f t find w) (λ g. unit_saves held f t find w (row_in vss g)) (λ g c. refl)))
      (images_flat (λ g. flat_map (λ s. may_save_by l s.number s.act ++ flat_map (may_save_called k a l s) (called (parts k.units) s.act)) (statements_of g)) (λ g. unit_saves held f t find w (row_in vss g)) o.parts (λ g c. unit_images g ((y.parts g).0 c)))
