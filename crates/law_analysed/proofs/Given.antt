-- The actuals of a call that are names: which of them are bound, written, read and passed.
use Rattle.std.proofs.Common.{◌≡◌, ℕ, suc, List, [], ◌∷◌, ◌++◌, Bool, true, false, map, refl, sym, ap, ◌∙◌, if◌then◌else◌}
use Rattle.std.specs.Prelude.{Contains, ◌||◌, ◌&&◌, Some}
use Rattle.std.proofs.lemmas.List.Elements.{Contains-append_left, Contains-append_right}
use Rattle.adj_tree.specs.Code.{Var, plain, shadow, helper, name_eq, Act, assign, choose, loop, during, call, runtime, Code, stop, step}
use Rattle.adj_tree.proofs.Names.{name_refl, name_same}
use Rattle.def_meaning.specs.Written.{is_handed_back}
use Rattle.def_meaning.specs.Read.{reads_actuals}
use Rattle.def_sweep.specs.Marks.{Marks}
use Rattle.def_names.specs.Numbers.{next, behind}
use Rattle.def_names.proofs.Variables.{or_right}
use Rattle.def_sweep.specs.Plan.{beside, IsActual, actuals_named}
use Rattle.law_sweep.specs.Kernel.{AsMany}
use Rattle.def_sweep.specs.Callees.{is_plain', is_plain}
use Rattle.law_sweep.specs.Laws.{is_found, among}
use Rattle.def_flow.specs.Ways.{is_actual}
use Rattle.def_flow.specs.Standing.{Place, part_of, body_of, Standing, held_in, standing}
use Rattle.def_flow.specs.Problem.{bound}
use Rattle.adj_reach.proofs.Members.{is_first, is_later}

pair_same : (x d y a : List ℕ) → x ≡ d → y ≡ a → (let p : List ℕ × Var = (x, plain y) in p ≡ (d, plain a))
pair_same x d y a h k = λ i. (h i, plain (k i))

-- a dummy is bound to its actual
pub bound_has : (ds given : List (List ℕ)) (d a : List ℕ) → IsActual ds given d a → Contains (bound ds (actuals_named given)) (d, plain a)
bound_has [] given d a h = absurd cc
bound_has (x ∷ ds) [] d a h = absurd cc
bound_has (x ∷ ds) (y ∷ given) d a h = go (name_eq d x) refl h (bound_has ds given d a)
  where
    go : (b : Bool) → name_eq d x ≡ b → (if b then Some y else beside ds given d) ≡ Some a → (beside ds given d ≡ Some a → Contains (bound ds (actuals_named given)) (d, plain a)) → Contains ((x, plain y) ∷ bound ds (actuals_named given)) (d, plain a)
    go true e h ih =
        let same : y ≡ a = cc in
        is_first (d, plain a) (x, plain y) (bound ds (actuals_named given)) (pair_same x d y a (sym (name_same d x e)) same)
    go false e h ih = is_later (d, plain a) (x, plain y) (bound ds (actuals_named given)) (ih h)

-- the actual of a dummy that is written is handed back
pub handed_named : (f : List ℕ → Bool) (ds given : List (List ℕ)) (d a : List ℕ) → IsActual ds given d a → f d ≡ true → is_handed_back (plain a) (map f ds) (actuals_named given) ≡ true
handed_named f [] given d a h k = absurd cc
handed_named f (x ∷ ds) [] d a h k = absurd cc
handed_named f (x ∷ ds) (y ∷ given) d a h k = go (name_eq d x) refl h (λ r. handed_named f ds given d a r k)
  where
    go : (b : Bool) → name_eq d x ≡ b → (if b then Some y else beside ds given d) ≡ Some a → (beside ds given d ≡ Some a → is_handed_back (plain a) (map f ds) (actuals_named given) ≡ true) → ((f x && name_eq a y) || is_handed_back (plain a) (map f ds) (actuals_named given)) ≡ true
    go true e h ih =
        let same : y ≡ a = cc in
        let fx : f x ≡ true = ap f (sym (name_same d x e)) ∙ k in
        let at : name_eq a y ≡ true = ap (name_eq a) same ∙ name_refl a in
        λ i. (fx i && at i) || is_handed_back (plain a) (map f ds) (actuals_named given)
    go false e h ih = or_right (f x && name_eq a y) (is_handed_back (plain a) (map f ds) (actuals_named given)) (ih h)

-- the actual of a dummy that is read is read
pub read_named : (f : List ℕ → Bool) (ds given : List (List ℕ)) (d a : List ℕ) → IsActual ds given d a → f d ≡ true → reads_actuals (plain a) (map f ds) (actuals_named given) ≡ true
read_named f [] given d a h k = absurd cc
read_named f (x ∷ ds) [] d a h k = absurd cc
read_named f (x ∷ ds) (y ∷ given) d a h k = go (name_eq d x) refl h (λ r. read_named f ds given d a r k)
  where
    go : (b : Bool) → name_eq d x ≡ b → (if b then Some y else beside ds given d) ≡ Some a → (beside ds given d ≡ Some a → reads_actuals (plain a) (map f ds) (actuals_named given) ≡ true) → ((f x && name_eq a y) || reads_actuals (plain a) (map f ds) (actuals_named given)) ≡ true
    go true e h ih =
        let same : y ≡ a = cc in
        let fx : f x ≡ true = ap f (sym (name_same d x e)) ∙ k in
        let at : name_eq a y ≡ true = ap (name_eq a) same ∙ name_refl a in
        λ i. (fx i && at i) || reads_actuals (plain a) (map f ds) (actuals_named given)
    go false e h ih = or_right (f x && name_eq a y) (reads_actuals (plain a) (map f ds) (actuals_named given)) (ih h)

-- what is passed is the actual of a dummy
pub passed_among : (ds given : List (List ℕ)) → AsMany ds given → (v : Var) → is_actual v (actuals_named given) ≡ true → among ds given v ≡ true
passed_among ds [] m (plain z) h = absurd cc
passed_among ds [] m (shadow z) h = absurd cc
passed_among ds [] m (helper r j) h = absurd cc
passed_among [] (y ∷ given) m v h = absurd m
passed_among (x ∷ ds) (y ∷ given) m (shadow z) h = passed_among ds given m (shadow z) h
passed_among (x ∷ ds) (y ∷ given) m (helper r j) h = passed_among ds given m (helper r j) h
passed_among (x ∷ ds) (y ∷ given) m (plain z) h = go (name_eq z y) h (passed_among ds given m (plain z))
  where
    go : (b : Bool) → (b || is_actual (plain z) (actuals_named given)) ≡ true → (is_actual (plain z) (actuals_named given) ≡ true → is_found (beside given ds z) ≡ true) → is_found (if b then Some x else beside given ds z) ≡ true
    go true h ih = refl
    go false h ih = ih h

-- ---- a unit of whose statements none is adjointed

both_plain : (a b : Bool) → a ≡ true → b ≡ true → (a && b) ≡ true
both_plain a b h k = ap (λ c. c && b) h ∙ k

mutual
  plain_act : (m : Marks) (i : ℕ) (a : Act) → m.adjointed i ≡ false → ((t : Standing) → Contains (held_in i a) t → m.adjointed t.number ≡ false) → is_plain' m i a ≡ true
  plain_act m i (assign x subs e) n h = rw n refl
  plain_act m i (choose c a b) n h =
      let first = standing (part_of i) (suc i) a in
      rw n (both_plain (is_plain m (suc i) a) (is_plain m (behind (suc i) a) b) (plain_list m (part_of i) (suc i) a (λ t k. h t (Contains-append_left first (standing (part_of i) (behind (suc i) a) b) t k))) (plain_list m (part_of i) (behind (suc i) a) b (λ t k. h t (Contains-append_right first (standing (part_of i) (behind (suc i) a) b) t k))))
  plain_act m i (loop x first last by body mark) n h = rw n (plain_list m (body_of i x mark) (suc i) body h)
  plain_act m i (during c body) n h = rw n (plain_list m (part_of i) (suc i) body h)
  plain_act m i (call name args) n h = rw n refl
  plain_act m i (runtime r) n h = refl

  pub plain_list : (m : Marks) (at : Place) (i : ℕ) (c : Code) → ((t : Standing) → Contains (standing at i c) t → m.adjointed t.number ≡ false) → is_plain m i c ≡ true
  plain_list m at i stop h = refl
  plain_list m at i (step line a rest) h =
      let self : Standing = record { number = i; place = at; act = a } in
      let inside = held_in i a in
      let later = standing at (next i a) rest in
      both_plain (is_plain' m i a) (is_plain m (next i a) rest)
      (plain_act m i a (h self (is_first self self (inside ++ later) refl)) (λ t k. h t (is_later t self (inside ++ later) (Contains-append_left inside later t k))))
      (plain_list m at (next i a) rest (λ t k. h t (is_later t self (inside ++ later) (Contains-append_right inside later t k))))
