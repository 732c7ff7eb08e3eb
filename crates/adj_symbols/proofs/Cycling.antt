-- Calls lead from unit to unit just where paths in the graph of calls do.
use Rattle.std.proofs.Common.{◌≡◌, ℕ, zero, suc, ◌<◌, ◌⊎◌, inl, inr, Bool, true, false, List, [], ◌∷◌, ◌++◌, map, length, get_or, refl, sym, ap, ap₂, ◌∙◌, subst, Option, Some, None, arith, IsTrue, ◌↔◌, Result, Ok, Err, IfOk, if◌then◌else◌}
use Rattle.std.specs.Prelude.{◌||◌, is_some}
use Rattle.std.specs.List.{list_any, flat_map, slice_get, Contains}
use Rattle.std.proofs.lemmas.Option.{slice_get_within}
use Rattle.adj_tree.specs.Code.{name_eq, Procedure}
use Rattle.adj_tree.proofs.Names.{name_same, name_refl}
use Rattle.def_meaning.specs.Written.{find_unit}
use Rattle.def_names.specs.Variables.{Name}
use Rattle.def_names.specs.Calls.{calls_from, leads, calls_lead}
use Rattle.def_names.specs.Laws.{IsIn}
use Rattle.adj_reach.specs.Reached as reached
use Rattle.adj_reach.specs.Edges.{ReachedFrom, AreBelow}
use Rattle.adj_symbols.specs.Graph.{edge_of, edges_from, call_edges}
use Rattle.adj_symbols.proofs.Scopes.{found_at, number_found, number_has}
use Rattle.adj_symbols.proofs.Leading.{unit_cases, alone, has_call, leads_on, leads_itself}
use Rattle.adj_symbols.proofs.Graphs.{one_member}
use Rattle.adj_symbols_writes.specs.Graph.{number_from}

-- ---- members

pub in_contains : {X : Type 0} (x : X) (xs : List X) → IsIn x xs → Contains xs x
in_contains x [] h = absurd h
in_contains x (y ∷ xs) (inl p) = (0, omega arith, sym p)
in_contains x (y ∷ xs) (inr h) = let c = in_contains x xs h in (suc c.0, (let lt = c.1 in omega arith), c.2)

pub contains_in : {X : Type 0} (x : X) (xs : List X) → Contains xs x → IsIn x xs
contains_in {X} x xs c = go xs c.0 c.1 c.2
  where
    go : (ys : List X) (k : ℕ) → k < length ys → get_or ys k x ≡ x → IsIn x ys
    go [] k lt e = absurd (omega arith)
    go (y ∷ ys) zero lt e = inl (sym e)
    go (y ∷ ys) (suc k) lt e = inr (go ys k (omega arith) e)

pub get_in : {X : Type 0} (xs : List X) (k : ℕ) (d : X) → k < length xs → IsIn (get_or xs k d) xs
get_in [] k d lt = absurd (omega arith)
get_in (x ∷ xs) zero d lt = inl refl
get_in (x ∷ xs) (suc k) d lt = inr (get_in xs k d (omega arith))

in_left : {X : Type 0} (x : X) (xs ys : List X) → IsIn x xs → IsIn x (xs ++ ys)
in_left x [] ys h = absurd h
in_left x (z ∷ xs) ys (inl p) = inl p
in_left x (z ∷ xs) ys (inr h) = inr (in_left x xs ys h)

in_right : {X : Type 0} (x : X) (xs ys : List X) → IsIn x ys → IsIn x (xs ++ ys)
in_right x [] ys h = h
in_right x (z ∷ xs) ys h = inr (in_right x xs ys h)

in_either : {X : Type 0} (x : X) (xs ys : List X) → IsIn x (xs ++ ys) → IsIn x xs ⊎ IsIn x ys
in_either x [] ys h = inr h
in_either x (z ∷ xs) ys (inl p) = inl (inl p)
in_either x (z ∷ xs) ys (inr h) = go (in_either x xs ys h)
  where
    go : IsIn x xs ⊎ IsIn x ys → IsIn x (z ∷ xs) ⊎ IsIn x ys
    go (inl a) = inl (inr a)
    go (inr b) = inr b

in_flat : {X Y : Type 0} (f : X → List Y) (x : X) (y : Y) (xs : List X) → IsIn x xs → IsIn y (f x) → IsIn y (flat_map f xs)
in_flat f x y [] h g = absurd h
in_flat f x y (z ∷ xs) (inl p) g = in_left y (f z) (flat_map f xs) (subst (λ w. IsIn y (f w)) p g)
in_flat f x y (z ∷ xs) (inr h) g = in_right y (f z) (flat_map f xs) (in_flat f x y xs h g)

flat_in : {X Y : Type 0} (f : X → List Y) (y : Y) (xs : List X) → IsIn y (flat_map f xs) → (x : X) × IsIn x xs × IsIn y (f x)
flat_in f y [] h = absurd h
flat_in {X} f y (z ∷ xs) h = go (in_either y (f z) (flat_map f xs) h) (λ b. flat_in f y xs b)
  where
    go : IsIn y (f z) ⊎ IsIn y (flat_map f xs) → (IsIn y (flat_map f xs) → (x : X) × IsIn x xs × IsIn y (f x)) → (x : X) × IsIn x (z ∷ xs) × IsIn y (f x)
    go (inl a) later = (z, inl refl, a)
    go (inr b) later = let r = later b in (r.0, inr r.1, r.2)

any_some : {X : Type 0} (f : X → Bool) (xs : List X) → list_any f xs ≡ true → (x : X) × IsIn x xs × (f x ≡ true)
any_some f [] h = absurd cc
any_some {X} f (x ∷ xs) h = go (f x) refl h (λ g. any_some f xs g)
  where
    go : (b : Bool) → f x ≡ b → (b || list_any f xs) ≡ true → (list_any f xs ≡ true → (y : X) × IsIn y xs × (f y ≡ true)) → (y : X) × IsIn y (x ∷ xs) × (f y ≡ true)
    go true e g later = (x, inl refl, e)
    go false e g later = let r = later g in (r.0, inr r.1, r.2)

in_any : {X : Type 0} (f : X → Bool) (x : X) (xs : List X) → IsIn x xs → f x ≡ true → list_any f xs ≡ true
in_any f x [] h e = absurd h
in_any f x (y ∷ xs) (inl p) e = let here : f y ≡ true = ap f (sym p) ∙ e in ap (λ b. b || list_any f xs) here
in_any f x (y ∷ xs) (inr h) e = or_true (f y) (in_any f x xs h e)
  where
    or_true : (b : Bool) → list_any f xs ≡ true → (b || list_any f xs) ≡ true
    or_true true g = refl
    or_true false g = g

-- ---- numbers of units

module _ (ps : List Procedure) where
  abbrev num : Name → Option ℕ
  num x = number_from 0 ps x

  -- the unit of a number
  number_unit : (x : Name) (i : ℕ) → num x ≡ Some i → (u : Procedure) × IsIn u ps × (u.name ≡ x) × (slice_get ps i ≡ Some u)
  number_unit x i e = go (unit_cases ps x)
    where
      here : slice_get ps i ≡ find_unit ps x
      here = ap (found_at ps) (sym e) ∙ number_found ps x

      go : (find_unit ps x ≡ None) ⊎ ((u : Procedure) × IsIn u ps × (u.name ≡ x) × (find_unit ps x ≡ Some u)) → (u : Procedure) × IsIn u ps × (u.name ≡ x) × (slice_get ps i ≡ Some u)
      go (inl n) = absurd (let p : true ≡ false = ap is_some (sym e) ∙ number_has 0 ps x ∙ ap is_some n in cc)
      go (inr f) = (f.0, f.1, f.2, here ∙ f.3)

  pub number_below : (x : Name) (i : ℕ) → num x ≡ Some i → i < length ps
  number_below x i e = let r = number_unit x i e in slice_get_within ps i r.0 r.3

  number_same : (x y : Name) (i : ℕ) → num x ≡ Some i → num y ≡ Some i → x ≡ y
  number_same x y i e d =
      let a = number_unit x i e in
      let b = number_unit y i d in
      let same : a.0 ≡ b.0 = unwrapped a.0 b.0 (sym a.3 ∙ b.3) in
      sym a.2 ∙ ap (λ u. u.name) same ∙ b.2
    where
      unwrapped : (u v : Procedure) → Some u ≡ Some v → u ≡ v
      unwrapped u v h = cc

  -- a unit of the program has a number by its name
  pub member_number : (u : Procedure) → IsIn u ps → is_some (num u.name) ≡ true
  member_number u h = number_has 0 ps u.name ∙ found ps h
    where
      found : (us : List Procedure) → IsIn u us → is_some (find_unit us u.name) ≡ true
      found [] g = absurd g
      found (v ∷ us) (inl p) = let e : name_eq v.name u.name ≡ true = ap (λ w. name_eq w.name u.name) (sym p) ∙ name_refl u.name in rw e refl
      found (v ∷ us) (inr g) = go (name_eq v.name u.name) (found us g)
        where
          go : (b : Bool) → is_some (find_unit us u.name) ≡ true → is_some (if b then Some v else find_unit us u.name) ≡ true
          go true k = refl
          go false k = k

  -- ---- edges

  edge_ends : (a b : Option ℕ) (i j : ℕ) → IsIn (i, j) (edge_of a b) → (a ≡ Some i) × (b ≡ Some j)
  edge_ends None b i j h = absurd h
  edge_ends (Some k) None i j h = absurd h
  edge_ends (Some k) (Some m) i j (inl p) = (ap (λ e. Some e.0) (sym p), ap (λ e. Some e.1) (sym p))
  edge_ends (Some k) (Some m) i j (inr h) = absurd h

  edge_in : (x y : Name) (i j : ℕ) → num x ≡ Some i → num y ≡ Some j → has_call ps x y ≡ true → IsIn (i, j) (call_edges ps)
  edge_in x y i j e d h =
      let u = number_unit x i e in
      let c = any_some (λ c. name_eq (c.1).0 y) (calls_from ps x) h in
      let named : (c.0.1).0 ≡ y = name_same (c.0.1).0 y c.2 in
      let own : IsIn (i, j) (edge_of (num x) (num (c.0.1).0)) = subst (IsIn (i, j)) (ap₂ edge_of (sym e) (sym d ∙ ap num (sym named))) (inl refl) in
      let there : IsIn (i, j) (edges_from ps (num x) (calls_from ps x)) = in_flat (λ b. edge_of (num x) (num (b.1).0)) c.0 (i, j) (calls_from ps x) c.1 own in
      in_flat (λ v. edges_from ps (num v.name) (calls_from ps v.name)) u.0 (i, j) ps u.1 (subst (λ z. IsIn (i, j) (edges_from ps (num z) (calls_from ps z))) (sym u.2) there)

  edge_out : (i j : ℕ) → IsIn (i, j) (call_edges ps) → (x : Name) × (y : Name) × (num x ≡ Some i) × (num y ≡ Some j) × (has_call ps x y ≡ true)
  edge_out i j h =
      let u = flat_in (λ v. edges_from ps (num v.name) (calls_from ps v.name)) (i, j) ps h in
      let c = flat_in (λ b. edge_of (num u.0.name) (num (b.1).0)) (i, j) (calls_from ps u.0.name) u.2 in
      let both = edge_ends (num u.0.name) (num (c.0.1).0) i j c.2 in
      (u.0.name, (c.0.1).0, both.0, both.1, in_any (λ b. name_eq (b.1).0 (c.0.1).0) c.0 (calls_from ps u.0.name) c.1 (name_refl (c.0.1).0))

  pub edges_below : AreBelow (length ps) (call_edges ps)
  edges_below k d lt =
      let e = get_or (call_edges ps) k d in
      let r = edge_out e.0 e.1 (get_in (call_edges ps) k d lt) in
      (number_below r.0 e.0 r.2, number_below r.1 e.1 r.3)

  -- ---- paths

  no_unit : (z : Name) → num z ≡ None → find_unit ps z ≡ None
  no_unit z f = sym (number_found ps z) ∙ ap (found_at ps) f

  same_end : (s : ℕ) (x y : Name) (i j : ℕ) → num x ≡ Some i → num y ≡ Some j → ReachedFrom (call_edges ps) (s ∷ []) i → name_eq x y ≡ true → ReachedFrom (call_edges ps) (s ∷ []) j
  same_end s x y i j e d r n = let p : i ≡ j = unwrapped i j (sym e ∙ ap num (name_same x y n) ∙ d) in subst (ReachedFrom (call_edges ps) (s ∷ [])) p r
    where
      unwrapped : (a b : ℕ) → Some a ≡ Some b → a ≡ b
      unwrapped a b q = cc

  -- where so many calls lead, a path leads
  leads_reach : (k : ℕ) (s : ℕ) (x y : Name) (i j : ℕ) → num x ≡ Some i → num y ≡ Some j → ReachedFrom (call_edges ps) (s ∷ []) i → leads ps k x y ≡ true → ReachedFrom (call_edges ps) (s ∷ []) j
  leads_reach zero s x y i j e d r h = same_end s x y i j e d r h
  leads_reach (suc m) s x y i j e d r h = pick (name_eq x y) refl h (λ z n f q l. leads_reach m s z y n j f d q l)
    where
      on : (z : Name) (o : Option ℕ) → num z ≡ o → has_call ps x z ≡ true → leads ps m z y ≡ true → ((w : Name) (n : ℕ) → num w ≡ Some n → ReachedFrom (call_edges ps) (s ∷ []) n → leads ps m w y ≡ true → ReachedFrom (call_edges ps) (s ∷ []) j) → ReachedFrom (call_edges ps) (s ∷ []) j
      on z (Some n) f a b later = later z n f (reached.leads r (in_contains (i, n) (call_edges ps) (edge_in x z i n e f a))) b
      on z None f a b later = absurd (let p : None ≡ Some j = sym f ∙ ap num (name_same z y (sym (alone ps m z y (no_unit z f)) ∙ b)) ∙ d in cc)

      pick : (b : Bool) → name_eq x y ≡ b → (b || list_any (λ c. leads ps m (c.1).0 y) (calls_from ps x)) ≡ true → ((w : Name) (n : ℕ) → num w ≡ Some n → ReachedFrom (call_edges ps) (s ∷ []) n → leads ps m w y ≡ true → ReachedFrom (call_edges ps) (s ∷ []) j) → ReachedFrom (call_edges ps) (s ∷ []) j
      pick true n q later = same_end s x y i j e d r n
      pick false n q later =
          let c = any_some (λ c. leads ps m (c.1).0 y) (calls_from ps x) q in
          let z = (c.0.1).0 in
          on z (num z) refl (in_any (λ b. name_eq (b.1).0 z) c.0 (calls_from ps x) c.1 (name_refl z)) c.2 later

  reach_leads : (x : Name) (i j : ℕ) → num x ≡ Some i → ReachedFrom (call_edges ps) (i ∷ []) j → (y : Name) → num y ≡ Some j → calls_lead ps x y ≡ true
  reach_leads x i j e (reached.begins c) y d =
      let same : x ≡ y = number_same x y i e (d ∙ ap Some (sym (one_member i j c))) in
      subst (λ z. calls_lead ps x z ≡ true) same (leads_itself ps x)
  reach_leads x i j e (reached.leads {x = m} r c) y d =
      let o = edge_out m j (contains_in (m, j) (call_edges ps) c) in
      let before = reach_leads x i m e r o.0 o.2 in
      subst (λ z. calls_lead ps x z ≡ true) (number_same o.1 y j o.3 d) (leads_on ps x o.0 o.1 before o.4)

  -- a search tells whether calls lead from one unit to another
  pub found_leads : (x y : Name) (i j : ℕ) (b : Bool) → num x ≡ Some i → num y ≡ Some j → IsTrue b ↔ ReachedFrom (call_edges ps) (i ∷ []) j → b ≡ calls_lead ps x y
  found_leads x y i j b e d h = same b (calls_lead ps x y) (λ t. reach_leads x i j e (h.0 t) y d) (λ t. h.1 (leads_reach (length ps) i x y i j e d (reached.begins (0, omega arith, refl)) t))
    where
      same : (a c : Bool) → (IsTrue a → c ≡ true) → (c ≡ true → IsTrue a) → a ≡ c
      same true true f g = refl
      same false false f g = refl
      same true false f g = sym (f refl)
      same false true f g = g refl

  -- a name without a unit leads to no unit
  pub lost_leads : (x y : Name) → num x ≡ None → is_some (num y) ≡ true → false ≡ calls_lead ps x y
  lost_leads x y e d = go (name_eq x y) refl ∙ sym (alone ps (length ps) x y (no_unit x e))
    where
      go : (b : Bool) → name_eq x y ≡ b → false ≡ name_eq x y
      go false f = sym f
      go true f = absurd (let p : false ≡ true = ap is_some (sym e) ∙ ap (λ z. is_some (num z)) (name_same x y f) ∙ d in cc)

-- what follows for a result
pub if_ok : {E : Type 0} (P Q : Bool → Type 0) (r : Result Bool E) → ((b : Bool) → P b → Q b) → IfOk r P → IfOk r Q
if_ok P Q (Ok b) f h = f b h
if_ok P Q (Err e) f h = h

-- a member that is looked at
pub in_mapped : {X Y : Type 0} (f : X → Y) (x : X) (xs : List X) → IsIn x xs → IsIn (f x) (map f xs)
in_mapped f x [] h = absurd h
in_mapped f x (y ∷ xs) (inl p) = inl (ap f p)
in_mapped f x (y ∷ xs) (inr h) = inr (in_mapped f x xs h)
