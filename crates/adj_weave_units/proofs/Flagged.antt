-- What flags tell of the variables of a unit.
use Rattle.std.proofs.Common.{◌≡◌, ◌⊎◌, inl, inr, ℕ, suc, ◌+◌, ◌<◌, ◌≤◌, ◌==◌, Bool, true, false, List, [], ◌∷◌, map, length, refl, sym, ap, ◌∙◌, arith, if◌then◌else◌}
use Rattle.std.specs.Prelude.{Contains, filter, Option, Some, None, slice_index_or}
use Rattle.adj_tree.specs.Code.{Role, Var, plain, shadow, helper, Procedure}
use Rattle.def_names.specs.Numbers.{behind}
use Rattle.def_sweep.specs.Marking.{place_from}
use Rattle.def_flow.specs.Parts.{Part, part, parts_from, parts}
use Rattle.def_names.specs.StatementsIn.{statements_in}
use Rattle.adj_reach.proofs.Members.{is_first, is_later, is_among, is_none}
use Rattle.def_flow.proofs.NumbersSame.{numbers_same}
use Rattle.adj_symbols_writes.specs.Table.{value_of}
use Rattle.adj_flow.specs.declared.units.Flow.{Flow}
use Rattle.adj_flow.specs.Asked.{variables_of}
use Rattle.adj_symbols_writes.specs.Graph as places
use Rattle.adj_flow.specs.declared.row.Part as row
use Rattle.adj_flow.specs.Nodes.{place_in, number_at, node_in}
use Rattle.adj_flow.specs.Scoped.{scope_by}
use Rattle.adj_flow.specs.Told as told
use Rattle.adj_flow.specs.Told.{flag_at, told_in, told_of}
use Rattle.adj_flow.proofs.Naming.{placed}
use Rattle.adj_sweep_assignment.specs.View as view
use Rattle.adj_naming.proofs.Places.{get_or_any}
use Rattle.adj_weave_units.proofs.Places.{At, at_map}

-- ---- the flags of a unit

-- a unit is among those that take part where it is flagged
module _ (takes : ℕ → Bool) (vss : List (List (List ℕ))) (by : List Bool) (w : ℕ) where
  abbrev kept : List Part → List Part
  kept gs = filter (λ (g : Part). takes g.number) gs

  untaken : (u : ℕ) → takes u ≡ false → (gs : List Part) → told.unit_of (kept gs) u ≡ None
  untaken u e [] = refl
  untaken u e (g ∷ gs) = go (takes g.number) refl (untaken u e gs)
    where
      go : (b : Bool) → takes g.number ≡ b → told.unit_of (kept gs) u ≡ None → told.unit_of (if b then g ∷ kept gs else kept gs) u ≡ None
      go false p ih = ih
      go true p ih = at (g.number == u) refl
        where
          at : (b : Bool) → (g.number == u) ≡ b → (if b then Some g else told.unit_of (kept gs) u) ≡ None
          at false q = ih
          at true q = absurd (let s : g.number ≡ u = numbers_same.same_is g.number u q in let c : true ≡ false = sym p ∙ ap takes s ∙ e in cc)

  -- a part of the number
  abbrev Finds : ℕ → Option Part → Type 0
  Finds u None = ⊥
  Finds u (Some g) = g.number ≡ u

  taken : (u : ℕ) → takes u ≡ true → (gs : List Part) (g : Part) → Contains gs g → g.number ≡ u → Finds u (told.unit_of (kept gs) u)
  taken u e [] g c n = absurd (is_none g c)
  taken u e (f ∷ gs) g c n = go (takes f.number) refl (is_among g f gs c) (λ d. taken u e gs g d n)
    where
      go : (b : Bool) → takes f.number ≡ b → (f ≡ g) ⊎ Contains gs g → (Contains gs g → Finds u (told.unit_of (kept gs) u)) → Finds u (told.unit_of (if b then f ∷ kept gs else kept gs) u)
      go true p s ih = at (f.number == u) refl s
        where
          at : (b : Bool) → (f.number == u) ≡ b → (f ≡ g) ⊎ Contains gs g → Finds u (if b then Some f else told.unit_of (kept gs) u)
          at true q s = numbers_same.same_is f.number u q
          at false q (inl r) = absurd (let t : (f.number == u) ≡ true = ap (λ (z : Part). z.number == u) r ∙ ap (λ z. z == u) n ∙ numbers_same.is_same u in cc)
          at false q (inr d) = ih d
      go false p (inl r) ih = absurd (let c : true ≡ false = sym e ∙ ap takes (sym n) ∙ ap (λ (z : Part). takes z.number) (sym r) ∙ p in cc)
      go false p (inr d) ih = ih d

  there : (t m i : ℕ) (ps : List Procedure) (u : ℕ) → m ≤ u → u < m + length ps → (g : Part) × Contains (parts_from t m i ps) g × (g.number ≡ u)
  there t m i [] u l r = absurd (omega arith)
  there t m i (p ∷ ps) u l r = go (m == u) refl (λ a b. there t (suc m) (behind i p.body) ps u a b)
    where
      go : (b : Bool) → (m == u) ≡ b → (suc m ≤ u → u < suc m + length ps → (g : Part) × Contains (parts_from t (suc m) (behind i p.body) ps) g × (g.number ≡ u)) → (g : Part) × Contains (parts_from t m i (p ∷ ps)) g × (g.number ≡ u)
      go true e ih = (part t m i p, is_first (part t m i p) (part t m i p) (parts_from t (suc m) (behind i p.body) ps) refl, numbers_same.same_is m u e)
      go false e ih =
          let other : m ≡ u → ⊥ = λ s. let c : (m == u) ≡ true = ap (λ z. z == u) s ∙ numbers_same.is_same u in cc in
          let o = ih (omega arith) (omega arith) in
          (o.0, is_later o.0 (part t m i p) (parts_from t (suc m) (behind i p.body) ps) o.1, o.2)

  pub told_untaken : (ps : List Procedure) (u : ℕ) (v : Var) → takes u ≡ false → told_of by (scope_by vss takes ps) w u v ≡ false
  told_untaken ps u v e = ap (λ o. told_in by (scope_by vss takes ps) w u o v) (untaken u e (parts ps))

  pub told_taken : (ps : List Procedure) (u : ℕ) (v : Var) → takes u ≡ true → u < length ps → told_of by (scope_by vss takes ps) w u v ≡ flag_at by (node_in w (map plain (slice_index_or vss u [])) (u, v))
  told_taken ps u v e l =
      let o = there (statements_in 0 ps) 0 0 ps u (omega arith) (omega arith) in
      found (told.unit_of (kept (parts ps)) u) (taken u e (parts ps) o.0 o.1 o.2)
    where
      found : (o : Option Part) → Finds u o → told_in by (scope_by vss takes ps) w u o v ≡ flag_at by (node_in w (map plain (slice_index_or vss u [])) (u, v))
      found None h = absurd h
      found (Some g) h = ap (λ n. flag_at by (node_in w (map plain (slice_index_or vss n [])) (u, v))) h

-- ---- places of variables

-- the variables of a unit at its place
pub unit_variables : (f : Flow) (k : ℕ) (p : row.Part) → At f.parts.items k p → slice_index_or (variables_of f) k [] ≡ p.variables.now
unit_variables f k p h =
    let a = at_map (λ (q : row.Part). q.variables.now) f.parts.items k p h in
    get_or_any (variables_of f) k [] p.variables.now a.within ∙ sym a.is

module _ (es : List (List ℕ × ℕ)) (vs : List (List ℕ)) (known : (x : List ℕ) → value_of x es ≡ places.place_from 0 vs x) where
  -- only variables of the text have places
  no_shadow : (k : ℕ) (x : List ℕ) (ys : List (List ℕ)) → None ≡ place_in k (map plain ys) (shadow x)
  no_shadow k x [] = refl
  no_shadow k x (y ∷ ys) = no_shadow (suc k) x ys

  no_helper : (k : ℕ) (r : Role) (n : ℕ) (ys : List (List ℕ)) → None ≡ place_in k (map plain ys) (helper r n)
  no_helper k r n [] = refl
  no_helper k r n (y ∷ ys) = no_helper (suc k) r n ys

  place_same : (v : Var) → view.place_of es v ≡ place_in 0 (map plain vs) v
  place_same (plain x) = known x ∙ sym (placed 0 vs x)
  place_same (shadow x) = no_shadow 0 x vs
  place_same (helper r n) = no_helper 0 r n vs

  number_same : (by : List Bool) (w n : ℕ) (o : Option ℕ) → view.flag_of by w n o ≡ flag_at by (number_at w n o)
  number_same by w n None = refl
  number_same by w n (Some j) = refl

  pub flags_same : (by : List Bool) (w n : ℕ) (v : Var) → view.flag_of by w n (view.place_of es v) ≡ flag_at by (node_in w (map plain vs) (n, v))
  flags_same by w n v = ap (view.flag_of by w n) (place_same v) ∙ number_same by w n (place_in 0 (map plain vs) v)
