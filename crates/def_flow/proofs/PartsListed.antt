-- The units that take part, by their numbers; and the scope that is made of them.
use Rattle.def_meaning.proofs.Variables.{var_same}
use Rattle.std.proofs.Common.{◌≡◌, ◌⊎◌, inl, inr, ℕ, suc, ◌+◌, ◌<◌, ◌≤◌, List, [], ◌∷◌, ◌++◌, Bool, true, false, refl, sym, ap, ◌∙◌, subst, arith, length}
use Rattle.std.specs.Prelude.{Contains, ◌↔◌, map, flat_map, not, filter}
use Rattle.std.proofs.lemmas.List.Elements.{Contains-append_left, Contains-append_right}
use Rattle.adj_tree.specs.Code.{Var, plain, Terms, Procedure, var_eq}
use Rattle.def_names.specs.Numbers.{behind}
use Rattle.adj_reach.specs.Reached.{Reached, begins}
use Rattle.def_flow.specs.Parts.{Part, part, parts_from, parts}
use Rattle.def_names.specs.StatementsIn.{statements_in}
use Rattle.def_flow.specs.Standing.{Standing}
use Rattle.def_names.specs.VariableLists.{standing_in}
use Rattle.def_flow.specs.Problem.{Problem, statements_of, CallsUnit, IsHead}
use Rattle.def_flow.specs.Rules.{Covers, called, head_parts, part_steps}
use Rattle.def_flow.specs.Closure.{is_in}
use Rattle.def_flow.specs.Scopes.{same_number, distinct, scope_of}
use Rattle.adj_reach.proofs.Members.{is_first, is_later, is_among, is_none, map_has, map_only, flat_has, flat_only, filter_has, filter_only}
use Rattle.def_flow.proofs.Numbered.{IsListed, exact_by_number}
use Rattle.def_flow.proofs.Numbers.{found_part, part_is_there}
use Rattle.def_flow.proofs.Scoped.{called_has, called_only, head_has, head_only}

-- ---- numbers of units

-- they rise
pub part_above : (t u i : ℕ) (ps : List Procedure) (g : Part) → Contains (parts_from t u i ps) g → (u ≤ g.number) × (g.number < u + length ps)
part_above t u i [] g c = absurd (is_none g c)
part_above t u i (p ∷ ps) g c = go (is_among g (part t u i p) (parts_from t (suc u) (behind i p.body) ps) c) (part_above t (suc u) (behind i p.body) ps g)
  where
    go : (part t u i p ≡ g) ⊎ Contains (parts_from t (suc u) (behind i p.body) ps) g → (Contains (parts_from t (suc u) (behind i p.body) ps) g → (suc u ≤ g.number) × (g.number < suc u + length ps)) → (u ≤ g.number) × (g.number < u + suc (length ps))
    go (inl e) r = let n : u ≡ g.number = ap (λ z. z.number) e in (omega arith, omega arith)
    go (inr d) r = let q = r d in (omega (arith, q.0), omega (arith, q.1))

-- so units with one number are one
pub part_own : (t u i : ℕ) (ps : List Procedure) (f g : Part) → Contains (parts_from t u i ps) f → Contains (parts_from t u i ps) g → f.number ≡ g.number → f ≡ g
part_own t u i [] f g c d e = absurd (is_none f c)
part_own t u i (p ∷ ps) f g c d e =
    go (is_among f (part t u i p) (parts_from t (suc u) (behind i p.body) ps) c) (is_among g (part t u i p) (parts_from t (suc u) (behind i p.body) ps) d) (λ a b. part_own t (suc u) (behind i p.body) ps f g a b e)
  where
    rest : List Part
    rest = parts_from t (suc u) (behind i p.body) ps

    go : (part t u i p ≡ f) ⊎ Contains rest f → (part t u i p ≡ g) ⊎ Contains rest g → (Contains rest f → Contains rest g → f ≡ g) → f ≡ g
    go (inl a) (inl b) r = sym a ∙ b
    go (inl a) (inr b) r = let n : u ≡ f.number = ap (λ z. z.number) a in absurd (omega (arith, (part_above t (suc u) (behind i p.body) ps g b).0))
    go (inr a) (inl b) r = let n : u ≡ g.number = ap (λ z. z.number) b in absurd (omega (arith, (part_above t (suc u) (behind i p.body) ps f a).0))
    go (inr a) (inr b) r = r a b

module _ (k : Problem) where
  -- a unit and its number
  abbrev HasNumber : Part → ℕ → Type 0
  HasNumber g n = Contains (parts k.units) g × (g.number ≡ n)

  own : (f g : Part) → Contains (parts k.units) f → Contains (parts k.units) g → f.number ≡ g.number → f ≡ g
  own = part_own (statements_in 0 k.units) 0 0 k.units

  step_has : (f g : Part) (s : Standing) (args : Terms) → Contains (parts k.units) f → CallsUnit k f g s args → Contains {X = ℕ × ℕ} (part_steps k) (f.number, g.number)
  step_has f g s args p c =
      flat_has (λ h. flat_map (λ t. map (λ d. (h.number, d.0.number)) (called (parts k.units) t.act)) (statements_of h)) (parts k.units) f (f.number, g.number) p
      (flat_has (λ t. map (λ d. (f.number, d.0.number)) (called (parts k.units) t.act)) (statements_of f) s (f.number, g.number) c.stands
      (map_has (λ (d : Part × Terms). (f.number, d.0.number)) (called (parts k.units) s.act) (g, args) (called_has k f g s args c)))

  parts_listed : IsListed (IsHead k) (λ f g. (s : Standing) × (args : Terms) × CallsUnit k f g s args) HasNumber (λ n. Contains (map (λ g. g.number) (head_parts k)) n) (λ m n. Contains (part_steps k) (m, n))
  parts_listed = record {
    one = λ g m n h j. sym h.1 ∙ j.1;
    own = λ f g n h j. own f g h.0 j.0 (h.1 ∙ sym j.1);
    begun = λ g h. (g.number, (part_is_there k g (begins h), refl), map_has (λ f. f.number) (head_parts k) g (head_has k g h));
    led = λ f g m h c. (g.number, (found_part (parts k.units) c.2.name g c.2.finds, refl), subst (λ z. Contains {X = ℕ × ℕ} (part_steps k) (z, g.number)) h.1 (step_has f g c.0 c.1 h.0 c.2));
    only_begun = λ n c. let g = map_only (λ f. f.number) (head_parts k) n c in let h = head_only k g.0 g.1 in (g.0, (part_is_there k g.0 (begins h), g.2), h);
    only_led = λ f m n h c. led_only f m n h c;
  }
    where
      led_only : (f : Part) (m n : ℕ) → HasNumber f m → Contains {X = ℕ × ℕ} (part_steps k) (m, n) → (g : Part) × HasNumber g n × ((s : Standing) × (args : Terms) × CallsUnit k f g s args)
      led_only f m n h c =
          let e : ℕ × ℕ = (m, n) in
          let f' = flat_only (λ h. flat_map (λ t. map (λ d. (h.number, d.0.number)) (called (parts k.units) t.act)) (statements_of h)) (parts k.units) e c in
          let s = flat_only (λ t. map (λ d. (f'.0.number, d.0.number)) (called (parts k.units) t.act)) (statements_of f'.0) e f'.2 in
          let g = map_only (λ (d : Part × Terms). (f'.0.number, d.0.number)) (called (parts k.units) s.0.act) e s.2 in
          let same : f'.0 ≡ f = own f'.0 f f'.1 h.0 (ap (λ z. z.0) g.2 ∙ sym h.1) in
          let u : CallsUnit k f'.0 g.0.0 s.0 g.0.1 = called_only k f'.0 s.0 g.0 s.1 g.1 in
          (g.0.0, (found_part (parts k.units) u.name g.0.0 u.finds, ap (λ z. z.1) g.2), (s.0, g.0.1, subst (λ z. CallsUnit k z g.0.0 s.0 g.0.1) same u))

  -- ---- the scope

  distinct_has : (xs : List Var) (v : Var) → Contains xs v → Contains (distinct xs) v
  distinct_has [] v c = c
  distinct_has (x ∷ xs) v c = go (var_eq v x) refl (is_among v x xs c) (distinct_has xs v)
    where
      rest : List Var
      rest = filter (λ z. not (var_eq z x)) (distinct xs)

      go : (b : Bool) → var_eq v x ≡ b → (x ≡ v) ⊎ Contains xs v → (Contains xs v → Contains (distinct xs) v) → Contains (x ∷ filter (λ z. not (var_eq z x)) (distinct xs)) v
      go b h (inl e) r = is_first v x rest e
      go true h (inr d) r = is_first v x rest (sym (var_same v x h))
      go false h (inr d) r = is_later v x rest (filter_has (λ z. not (var_eq z x)) (distinct xs) v (r d) (ap not h))

  pub scope_covers : (numbers : List ℕ) → ((n : ℕ) → (is_in same_number numbers n ≡ true) ↔ Reached (λ m. Contains (map (λ g. g.number) (head_parts k)) m) (λ m j. Contains (part_steps k) (m, j)) n) → Covers k (scope_of k numbers)
  scope_covers numbers exact = record {
    parts = λ g. (
      λ c. let f = filter_only (λ h. is_in same_number numbers h.number) (parts k.units) g c in (exact_by_number parts_listed g g.number (f.0, refl)).1 ((exact g.number).0 f.1),
      λ t. let c = part_is_there k g t in filter_has (λ h. is_in same_number numbers h.number) (parts k.units) g c ((exact g.number).1 ((exact_by_number parts_listed g g.number (c, refl)).0 t)),
    );
    dummies = λ g t d c. distinct_has (map plain g.unit.dummies ++ flat_map (λ s. standing_in s.act) (statements_of g)) (plain d) (Contains-append_left (map plain g.unit.dummies) (flat_map (λ s. standing_in s.act) (statements_of g)) (plain d) (map_has plain g.unit.dummies d c));
    standing = λ g t s c v m. distinct_has (map plain g.unit.dummies ++ flat_map (λ s. standing_in s.act) (statements_of g)) v
        (Contains-append_right (map plain g.unit.dummies) (flat_map (λ s. standing_in s.act) (statements_of g)) v (flat_has (λ s. standing_in s.act) (statements_of g) s v c m));
  }
