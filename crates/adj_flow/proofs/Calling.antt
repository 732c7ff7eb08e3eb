-- The calls that are listed are those by which units take part.
use Rattle.std.proofs.Common.{◌≡◌, ◌⊎◌, inl, inr, ℕ, zero, suc, ◌+◌, ◌<◌, List, [], ◌∷◌, ◌++◌, Bool, true, false, refl, sym, ap, ◌∙◌, subst, arith, length, map, get_or}
use Rattle.std.specs.Prelude.{Contains, Option, Some, None, if◌then◌else◌, slice_get}
use Rattle.std.proofs.lemmas.List.Concat.{flat_map-cons}
use Rattle.std.proofs.lemmas.List.Elements.{Contains-get_or, Contains-append_left, Contains-append_right, Contains-append_cases}
use Rattle.adj_tree.specs.Code.{name_eq, Terms, Act, assign, choose, loop, during, call, runtime, Procedure}
use Rattle.def_names.specs.Numbers.{behind}
use Rattle.def_flow.specs.Parts.{Part, part, parts_from, parts, find_part}
use Rattle.def_names.specs.StatementsIn.{statements_in}
use Rattle.def_flow.specs.Standing.{Standing, standing, outermost}
use Rattle.def_flow.specs.Problem.{Problem, statements_of, CallsUnit, IsHead}
use Rattle.adj_reach.proofs.Members.{is_first, is_later, is_among, is_none}
use Rattle.adj_reach.specs.Edges.{AreBelow}
use Rattle.def_flow.proofs.Numbered.{IsListed}
use Rattle.def_flow.proofs.PartsListed.{part_above, part_own}
use Rattle.adj_symbols_writes.proofs.Rows.{name_comm}
use Rattle.adj_symbols_writes.specs.Graph.{number_from}
use Rattle.adj_flow.specs.Calls.{called_by, with_call, calls_in, calls_from, calls_of}
use Rattle.adj_flow.specs.Rows.{Row, row_in}

-- ---- units and their numbers

-- the number of the unit that is found
number_found : (t u i : ℕ) (ps : List Procedure) (name : List ℕ) (g : Part) → find_part (parts_from t u i ps) name ≡ Some g → number_from u ps name ≡ Some g.number
number_found t u i [] name g e = absurd cc
number_found t u i (p ∷ ps) name g e = ap (λ b. if b then Some u else number_from (suc u) ps name) (name_comm name p.name) ∙ go (name_eq p.name name) e (number_found t (suc u) (behind i p.body) ps name g)
  where
    go : (b : Bool) → (if b then Some (part t u i p) else find_part (parts_from t (suc u) (behind i p.body) ps) name) ≡ Some g →
        (find_part (parts_from t (suc u) (behind i p.body) ps) name ≡ Some g → number_from (suc u) ps name ≡ Some g.number) → (if b then Some u else number_from (suc u) ps name) ≡ Some g.number
    go true f r = let h : part t u i p ≡ g = cc in ap (λ z. Some z.number) h
    go false f r = r f

-- and the unit of the number that is found
part_found : (t u i : ℕ) (ps : List Procedure) (name : List ℕ) (n : ℕ) → number_from u ps name ≡ Some n → (g : Part) × (find_part (parts_from t u i ps) name ≡ Some g) × (g.number ≡ n) × Contains (parts_from t u i ps) g
part_found t u i [] name n e = absurd cc
part_found t u i (p ∷ ps) name n e = go (name_eq p.name name) (ap (λ b. if b then Some u else number_from (suc u) ps name) (name_comm p.name name) ∙ e) (part_found t (suc u) (behind i p.body) ps name n)
  where
    go : (b : Bool) → (if b then Some u else number_from (suc u) ps name) ≡ Some n →
        (number_from (suc u) ps name ≡ Some n → (g : Part) × (find_part (parts_from t (suc u) (behind i p.body) ps) name ≡ Some g) × (g.number ≡ n) × Contains (parts_from t (suc u) (behind i p.body) ps) g) →
        (g : Part) × ((if b then Some (part t u i p) else find_part (parts_from t (suc u) (behind i p.body) ps) name) ≡ Some g) × (g.number ≡ n) × Contains (parts_from t u i (p ∷ ps)) g
    go true f r = (part t u i p, refl, (let h : u ≡ n = cc in h), is_first (part t u i p) (part t u i p) (parts_from t (suc u) (behind i p.body) ps) refl)
    go false f r = let q = r f in (q.0, q.1, q.2, is_later q.0 (part t u i p) (parts_from t (suc u) (behind i p.body) ps) q.3)

-- the unit at a place
part_at : (t u i : ℕ) (ps : List Procedure) (n : ℕ) → n < length ps → (g : Part) × (slice_get (parts_from t u i ps) n ≡ Some g) × (g.number ≡ u + n) × Contains (parts_from t u i ps) g
part_at t u i [] n l = absurd (omega arith)
part_at t u i (p ∷ ps) zero l = (part t u i p, refl, omega arith, is_first (part t u i p) (part t u i p) (parts_from t (suc u) (behind i p.body) ps) refl)
part_at t u i (p ∷ ps) (suc n) l = let q = part_at t (suc u) (behind i p.body) ps n (omega arith) in (q.0, q.1, omega (arith, q.2), is_later q.0 (part t u i p) (parts_from t (suc u) (behind i p.body) ps) q.3)

-- ---- calls

calls_has : (find : List ℕ → Option ℕ) (u n : ℕ) (ss : List Standing) (s : Standing) → Contains ss s → called_by find s.act ≡ Some n → Contains (calls_in find u ss) (u, n)
calls_has find u n [] s c e = absurd (is_none s c)
calls_has find u n (r ∷ rs) s c e = go (is_among s r rs c) (λ d. calls_has find u n rs s d e)
  where
    later : (o : Option ℕ) → Contains (calls_in find u rs) (u, n) → Contains (with_call u o (calls_in find u rs)) (u, n)
    later None m = m
    later (Some k) m = is_later (u, n) (u, k) (calls_in find u rs) m

    go : (r ≡ s) ⊎ Contains rs s → (Contains rs s → Contains (calls_in find u rs) (u, n)) → Contains (with_call u (called_by find r.act) (calls_in find u rs)) (u, n)
    go (inl q) f = subst (λ o. Contains (with_call u o (calls_in find u rs)) (u, n)) (sym (ap (λ (z : Standing). called_by find z.act) q ∙ e)) (is_first (u, n) (u, n) (calls_in find u rs) refl)
    go (inr d) f = later (called_by find r.act) (f d)

calls_only : (find : List ℕ → Option ℕ) (u : ℕ) (ss : List Standing) (e : ℕ × ℕ) → Contains (calls_in find u ss) e → (e.0 ≡ u) × ((s : Standing) × Contains ss s × (called_by find s.act ≡ Some e.1))
calls_only find u [] e c = absurd (is_none e c)
calls_only find u (r ∷ rs) e c = go (called_by find r.act) refl c (calls_only find u rs e)
  where
    deeper : (e.0 ≡ u) × ((s : Standing) × Contains rs s × (called_by find s.act ≡ Some e.1)) → (e.0 ≡ u) × ((s : Standing) × Contains (r ∷ rs) s × (called_by find s.act ≡ Some e.1))
    deeper q = (q.0, (q.1.0, is_later q.1.0 r rs q.1.1, q.1.2))

    go : (o : Option ℕ) → called_by find r.act ≡ o → Contains (with_call u o (calls_in find u rs)) e → (Contains (calls_in find u rs) e → (e.0 ≡ u) × ((s : Standing) × Contains rs s × (called_by find s.act ≡ Some e.1))) →
        (e.0 ≡ u) × ((s : Standing) × Contains (r ∷ rs) s × (called_by find s.act ≡ Some e.1))
    go None q m f = deeper (f m)
    go (Some k) q m f = first (is_among e (u, k) (calls_in find u rs) m)
      where
        first : ((u, k) ≡ e) ⊎ Contains (calls_in find u rs) e → (e.0 ≡ u) × ((s : Standing) × Contains (r ∷ rs) s × (called_by find s.act ≡ Some e.1))
        first (inl h) = (sym (ap (λ z. z.0) h), (r, is_first r r rs refl, q ∙ ap (λ z. Some z.1) h))
        first (inr h) = deeper (f h)

all_has : (find : List ℕ → Option ℕ) (t u i : ℕ) (qs : List Procedure) (f : Part) (s : Standing) (n : ℕ) → Contains (parts_from t u i qs) f → Contains (statements_of f) s → called_by find s.act ≡ Some n → Contains (calls_from find u i qs) (f.number, n)
all_has find t u i [] f s n c d e = absurd (is_none f c)
all_has find t u i (q ∷ qs) f s n c d e = go (is_among f (part t u i q) (parts_from t (suc u) (behind i q.body) qs) c) (λ m. all_has find t (suc u) (behind i q.body) qs f s n m d e)
  where
    own : List (ℕ × ℕ)
    own = calls_in find u (standing outermost i q.body)

    others : List (ℕ × ℕ)
    others = calls_from find (suc u) (behind i q.body) qs

    go : (part t u i q ≡ f) ⊎ Contains (parts_from t (suc u) (behind i q.body) qs) f → (Contains (parts_from t (suc u) (behind i q.body) qs) f → Contains others (f.number, n)) → Contains (own ++ others) (f.number, n)
    go (inl h) r = Contains-append_left own others (f.number, n) (subst (λ (z : Part). Contains (calls_in find z.number (statements_of z)) (z.number, n) → Contains own (f.number, n)) h
        (λ m. subst (λ k. Contains own (k, n)) (ap (λ z. z.number) h) m) (calls_has find f.number n (statements_of f) s d e))
    go (inr m) r = Contains-append_right own others (f.number, n) (r m)

all_only : (find : List ℕ → Option ℕ) (t u i : ℕ) (qs : List Procedure) (e : ℕ × ℕ) → Contains (calls_from find u i qs) e → (f : Part) × Contains (parts_from t u i qs) f × (f.number ≡ e.0) × ((s : Standing) × Contains (statements_of f) s × (called_by find s.act ≡ Some e.1))
all_only find t u i [] e c = absurd (is_none e c)
all_only find t u i (q ∷ qs) e c = go (Contains-append_cases (calls_in find u (standing outermost i q.body)) (calls_from find (suc u) (behind i q.body) qs) e c) (λ m. all_only find t (suc u) (behind i q.body) qs e m)
  where
    go : Contains (calls_in find u (standing outermost i q.body)) e ⊎ Contains (calls_from find (suc u) (behind i q.body) qs) e →
        (Contains (calls_from find (suc u) (behind i q.body) qs) e → (f : Part) × Contains (parts_from t (suc u) (behind i q.body) qs) f × (f.number ≡ e.0) × ((s : Standing) × Contains (statements_of f) s × (called_by find s.act ≡ Some e.1))) →
        (f : Part) × Contains (parts_from t u i (q ∷ qs)) f × (f.number ≡ e.0) × ((s : Standing) × Contains (statements_of f) s × (called_by find s.act ≡ Some e.1))
    go (inl m) r = let o = calls_only find u (standing outermost i q.body) e m in
        (part t u i q, is_first (part t u i q) (part t u i q) (parts_from t (suc u) (behind i q.body) qs) refl, sym o.0, o.1)
    go (inr m) r = let o = r m in (o.0, is_later o.0 (part t u i q) (parts_from t (suc u) (behind i q.body) qs) o.1, o.2, o.3)

-- the calls of the rows of units are those of the units
pub rows_calls : (find : List ℕ → Option ℕ) (vss : List (List (List ℕ))) (t u i : ℕ) (qs : List Procedure) → calls_of find (map (row_in vss) (parts_from t u i qs)) ≡ calls_from find u i qs
rows_calls find vss t u i [] = refl
rows_calls find vss t u i (q ∷ qs) =
    flat_map-cons (λ (r : Row). calls_in find r.part.number r.statements) (row_in vss (part t u i q)) (map (row_in vss) (parts_from t (suc u) (behind i q.body) qs))
    ∙ ap (λ z. calls_in find u (standing outermost i q.body) ++ z) (rows_calls find vss t (suc u) (behind i q.body) qs)

-- a statement that calls is a call
is_call : (find : List ℕ → Option ℕ) (a : Act) (n : ℕ) → called_by find a ≡ Some n → (name : List ℕ) × (args : Terms) × (a ≡ call name args) × (find name ≡ Some n)
is_call find (assign x subs e) n h = absurd cc
is_call find (choose c a b) n h = absurd cc
is_call find (loop x first last by body m) n h = absurd cc
is_call find (during c body) n h = absurd cc
is_call find (call name args) n h = (name, args, refl, h)
is_call find (runtime r) n h = absurd cc

-- ---- the whole

module _ (k : Problem) (inside : k.head < length k.units) where
  abbrev ps : List Procedure
  ps = k.units

  abbrev t : ℕ
  t = statements_in 0 k.units

  abbrev edges : List (ℕ × ℕ)
  edges = calls_from (number_from 0 k.units) 0 0 k.units

  -- the call of a unit that was listed
  call_listed : (f g : Part) (s : Standing) (args : Terms) → CallsUnit k f g s args → called_by (number_from 0 ps) s.act ≡ Some g.number
  call_listed f g s args c = ap (called_by (number_from 0 ps)) c.act ∙ number_found t 0 0 ps c.name g c.finds

  head_number : (g : Part) → IsHead k g → g.number ≡ k.head
  head_number g h = let q = part_at t 0 0 ps k.head inside in let e : q.0 ≡ g = (let f : Some q.0 ≡ Some g = sym q.1 ∙ h.is in cc) in sym (ap (λ z. z.number) e) ∙ q.2 ∙ omega arith

  -- a unit and its number
  abbrev pub HasNumber : Part → ℕ → Type 0
  HasNumber g n = Contains (parts k.units) g × (g.number ≡ n)

  pub calls_listed : IsListed (IsHead k) (λ f g. (s : Standing) × (args : Terms) × CallsUnit k f g s args) HasNumber (λ n. Contains (k.head ∷ []) n) (λ m n. Contains edges (m, n))
  calls_listed = record {
    one = λ g m n h j. sym h.1 ∙ j.1;
    own = λ f g n h j. part_own t 0 0 ps f g h.0 j.0 (h.1 ∙ sym j.1);
    begun = λ g h. let q = part_at t 0 0 ps k.head inside in let e : q.0 ≡ g = (let f : Some q.0 ≡ Some g = sym q.1 ∙ h.is in cc) in
        (g.number, (subst (λ z. Contains (parts ps) z) e q.3, refl), is_first g.number k.head [] (sym (head_number g h)));
    led = λ f g m h c. let q = part_found t 0 0 ps c.2.name g.number (number_found t 0 0 ps c.2.name g c.2.finds) in let e : q.0 ≡ g = (let j : Some q.0 ≡ Some g = sym q.1 ∙ c.2.finds in cc) in
        (g.number, (subst (λ z. Contains (parts ps) z) e q.3, refl), subst (λ z. Contains edges (z, g.number)) h.1 (all_has (number_from 0 ps) t 0 0 ps f c.0 g.number h.0 c.2.stands (call_listed f g c.0 c.1 c.2)));
    only_begun = λ n c. head_only n (is_among n k.head [] c);
    only_led = λ f m n h c. let o = all_only (number_from 0 ps) t 0 0 ps (m, n) c in let a = is_call (number_from 0 ps) o.3.0.act n o.3.2 in let q = part_found t 0 0 ps a.0 n a.3 in
        let e : o.0 ≡ f = part_own t 0 0 ps o.0 f o.1 h.0 (o.2 ∙ sym h.1) in
        (q.0, (q.3, q.2), (o.3.0, a.1, record { name = a.0; stands = subst (λ z. Contains (statements_of z) o.3.0) e o.3.1; act = a.2; finds = q.1 }));
  }
    where
      head_only : (n : ℕ) → (k.head ≡ n) ⊎ Contains [] n → (g : Part) × HasNumber g n × IsHead k g
      head_only n (inl e) = let q = part_at t 0 0 ps k.head inside in (q.0, (q.3, q.2 ∙ (let z : 0 + k.head ≡ k.head = omega arith in z) ∙ e), record { is = q.1 })
      head_only n (inr d) = absurd (is_none n d)

  -- the ends of the edges are units
  pub calls_within : AreBelow (length ps) edges
  calls_within j d l =
      let c : Contains edges (get_or edges j d) = Contains-get_or edges j d l in
      let o = all_only (number_from 0 ps) t 0 0 ps (get_or edges j d) c in
      let a = is_call (number_from 0 ps) o.3.0.act (get_or edges j d).1 o.3.2 in
      let q = part_found t 0 0 ps a.0 (get_or edges j d).1 a.3 in
      (omega (arith, (part_above t 0 0 ps o.0 o.1).1, o.2), omega (arith, (part_above t 0 0 ps q.0 q.3).1, q.2))
