-- A unit uses a block just where calls lead from it to a unit that declares the block.
use Rattle.std.proofs.Common.{◌≡◌, ◌⊎◌, inl, inr, ℕ, zero, suc, ◌+◌, Bool, true, false, List, [], ◌∷◌, ◌++◌, length, Option, Some, None, refl, sym, ap, ◌∙◌, subst, arith, if◌then◌else◌}
use Rattle.std.specs.Prelude.{◌||◌, ◌↔◌, IsTrue, Contains}
use Rattle.std.specs.List.{slice_get}
use Rattle.std.specs.Option.{option_or}
use Rattle.std.proofs.lemmas.List.Elements.{Contains-append_left, Contains-append_right, Contains-append_cases}
use Rattle.adj_tree.specs.Code.{name_eq, Terms, Act, assign, choose, loop, during, call, runtime, Code, stop, step}
use Rattle.def_names.specs.Statements.{At, inner, statements}
use Rattle.adj_tree.specs.Common.{Shared}
use Rattle.def_common.specs.Blocks.{declares, find_shared, calls_some_act, calls_some, found_uses, uses_after, uses}
use Rattle.def_common.specs.Members.{unit_names}
use Rattle.adj_reach.specs.Reached.{begins, leads}
use Rattle.adj_reach.specs.Edges.{Edges, ReachedBack}
use Rattle.adj_reach.proofs.Members.{is_first, is_later, is_among, is_none, flat_has, flat_only}
use Rattle.adj_symbols_writes.specs.Table.{value_of, with_value}
use Rattle.adj_common.specs.Texts.{at_place}
use Rattle.adj_common.specs.Using.{numbered_from, unit_numbers, edge_to, act_edges, unit_edges, edges_from}
use Rattle.adj_common.proofs.Finding.{next}
use Rattle.adj_common.proofs.Owned.{name_turned}
use Rattle.adj_common.proofs.Passed.{index, moved, moved_none, value_more}
use Rattle.adj_common.proofs.Rounds.{all_rounds}
use Rattle.adj_common.proofs.Used.{declaring, declaring_only, declaring_all}

-- ---- calls as statements

or_cases : (a b : Bool) → (a || b) ≡ true → (a ≡ true) ⊎ (b ≡ true)
or_cases true b h = inl refl
or_cases false b h = inr h

or_front : {a : Bool} (b : Bool) → a ≡ true → (a || b) ≡ true
or_front b h = ap (λ z. z || b) h

or_back : {b : Bool} (a : Bool) → b ≡ true → (a || b) ≡ true
or_back true h = refl
or_back false h = h

-- a call of a unit in some statements
record Called (ss : List (At Act)) (f : List ℕ → Bool) : Type 0 where
  pub name : List ℕ
  pub args : Terms
  pub line : ℕ
  pub among : Contains ss (line, call name args)
  pub is : f name ≡ true

wider : (ss ts : List (At Act)) (f : List ℕ → Bool) → ((x : At Act) → Contains ss x → Contains ts x) → Called ss f → Called ts f
wider ss ts f w c = record { name = c.name; args = c.args; line = c.line; among = w (c.line, call c.name c.args) c.among; is = c.is }

module _ (f : List ℕ → Bool) where
  mutual
    act_calls : (line : ℕ) (a : Act) → calls_some_act f a ≡ true → Called ((line, a) ∷ inner a) f
    act_calls line (assign x subs e) h = cc
    act_calls line (choose c a b) h = go (or_cases (calls_some f a) (calls_some f b) h) (code_calls a) (code_calls b)
      where
        go : (calls_some f a ≡ true) ⊎ (calls_some f b ≡ true) → (calls_some f a ≡ true → Called (statements a) f) → (calls_some f b ≡ true → Called (statements b) f) → Called ((line, choose c a b) ∷ (statements a ++ statements b)) f
        go (inl k) q r = wider (statements a) _ f (λ x d. is_later x (line, choose c a b) (statements a ++ statements b) (Contains-append_left (statements a) (statements b) x d)) (q k)
        go (inr k) q r = wider (statements b) _ f (λ x d. is_later x (line, choose c a b) (statements a ++ statements b) (Contains-append_right (statements a) (statements b) x d)) (r k)
    act_calls line (loop x first last by body m) h = wider (statements body) _ f (λ z d. is_later z (line, loop x first last by body m) (statements body) d) (code_calls body h)
    act_calls line (during c body) h = wider (statements body) _ f (λ z d. is_later z (line, during c body) (statements body) d) (code_calls body h)
    act_calls line (call name args) h = record { name = name; args = args; line = line; among = is_first (line, call name args) (line, call name args) [] refl; is = h }
    act_calls line (runtime r) h = cc

    code_calls : (c : Code) → calls_some f c ≡ true → Called (statements c) f
    code_calls stop h = cc
    code_calls (step line a rest) h = go (or_cases (calls_some_act f a) (calls_some f rest) h) (act_calls line a) (code_calls rest)
      where
        go : (calls_some_act f a ≡ true) ⊎ (calls_some f rest ≡ true) → (calls_some_act f a ≡ true → Called ((line, a) ∷ inner a) f) → (calls_some f rest ≡ true → Called (statements rest) f) → Called ((line, a) ∷ (inner a ++ statements rest)) f
        go (inl k) q r = wider ((line, a) ∷ inner a) _ f (λ z d. Contains-append_left ((line, a) ∷ inner a) (statements rest) z d) (q k)
        go (inr k) q r = wider (statements rest) _ f (λ z d. Contains-append_right ((line, a) ∷ inner a) (statements rest) z d) (r k)

  mutual
    act_called : (a : Act) (line : ℕ) (name : List ℕ) (args : Terms) → f name ≡ true → Contains (inner a) (line, call name args) → calls_some_act f a ≡ true
    act_called (assign x subs e) line name args h c = absurd (is_none _ c)
    act_called (choose t a b) line name args h c = go (Contains-append_cases (statements a) (statements b) (line, call name args) c) (code_called a line name args h) (code_called b line name args h)
      where
        go : Contains (statements a) (line, call name args) ⊎ Contains (statements b) (line, call name args) → (Contains (statements a) (line, call name args) → calls_some f a ≡ true) → (Contains (statements b) (line, call name args) → calls_some f b ≡ true) → (calls_some f a || calls_some f b) ≡ true
        go (inl d) q r = or_front (calls_some f b) (q d)
        go (inr d) q r = or_back (calls_some f a) (r d)
    act_called (loop x first last by body m) line name args h c = code_called body line name args h c
    act_called (during t body) line name args h c = code_called body line name args h c
    act_called (call n es) line name args h c = absurd (is_none _ c)
    act_called (runtime r) line name args h c = absurd (is_none _ c)

    code_called : (c : Code) (line : ℕ) (name : List ℕ) (args : Terms) → f name ≡ true → Contains (statements c) (line, call name args) → calls_some f c ≡ true
    code_called stop line name args h c = absurd (is_none _ c)
    code_called (step l a rest) line name args h c = go (is_among (line, call name args) (l, a) (inner a ++ statements rest) c) (act_called a line name args h) (code_called rest line name args h)
      where
        one : At Act
        one = (l, a)

        other : At Act
        other = (line, call name args)

        Same : Type 0
        Same = one ≡ other

        itself : Same → calls_some_act f a ≡ true
        itself e = ap (λ (z : At Act). calls_some_act f z.1) e ∙ h

        later : Contains (inner a) (line, call name args) ⊎ Contains (statements rest) (line, call name args) → (Contains (inner a) (line, call name args) → calls_some_act f a ≡ true) → (Contains (statements rest) (line, call name args) → calls_some f rest ≡ true) → (calls_some_act f a || calls_some f rest) ≡ true
        later (inl d) q r = or_front (calls_some f rest) (q d)
        later (inr d) q r = or_back (calls_some_act f a) (r d)

        go : Same ⊎ Contains (inner a ++ statements rest) (line, call name args) → (Contains (inner a) (line, call name args) → calls_some_act f a ≡ true) → (Contains (statements rest) (line, call name args) → calls_some f rest ≡ true) → (calls_some_act f a || calls_some f rest) ≡ true
        go (inl e) q r = or_front (calls_some f rest) (itself e)
        go (inr d) q r = later (Contains-append_cases (inner a) (statements rest) (line, call name args) d) q r

-- ---- edges

-- an edge is a call
record Edge (ns : List (List ℕ × ℕ)) (ps : List Shared) (j x : ℕ) : Type 0 where
  pub unit : Shared
  pub at : slice_get ps j ≡ Some unit
  pub name : List ℕ
  pub args : Terms
  pub line : ℕ
  pub among : Contains (statements unit.unit.body) (line, call name args)
  pub to : value_of name ns ≡ Some x

act_edge : (ns : List (List ℕ × ℕ)) (u : ℕ) (a : Act) (y x : ℕ) → Contains (act_edges ns u a) (y, x) → (name : List ℕ) × (args : Terms) × (a ≡ call name args) × (value_of name ns ≡ Some x) × (u ≡ y)
act_edge ns u (assign z subs e) y x c = absurd (is_none _ c)
act_edge ns u (choose t a b) y x c = absurd (is_none _ c)
act_edge ns u (loop z first last by body m) y x c = absurd (is_none _ c)
act_edge ns u (during t body) y x c = absurd (is_none _ c)
act_edge ns u (call name args) y x c = go (value_of name ns) refl c
  where
    go : (o : Option ℕ) → value_of name ns ≡ o → Contains (edge_to u o) (y, x) → (n : List ℕ) × (es : Terms) × (call name args ≡ call n es) × (value_of n ns ≡ Some x) × (u ≡ y)
    go None e d = absurd (is_none _ d)
    go (Some j) e d = one (is_among to from [] d)
      where
        from : ℕ × ℕ
        from = (u, j)

        to : ℕ × ℕ
        to = (y, x)

        one : (from ≡ to) ⊎ Contains [] to → (n : List ℕ) × (es : Terms) × (call name args ≡ call n es) × (value_of n ns ≡ Some x) × (u ≡ y)
        one (inl q) = (name, args, refl, e ∙ ap (λ (z : ℕ × ℕ). Some z.1) q, ap (λ (z : ℕ × ℕ). z.0) q)
        one (inr z) = absurd (is_none _ z)
act_edge ns u (runtime r) y x c = absurd (is_none _ c)

edge_only : (ns : List (List ℕ × ℕ)) (k : ℕ) (ps : List Shared) (y x : ℕ) → Contains (edges_from ns k ps) (y, x) → (j : ℕ) × (y ≡ j + k) × Edge ns ps j x
edge_only ns k [] y x c = absurd (is_none _ c)
edge_only ns k (s ∷ ps) y x c = go (Contains-append_cases (unit_edges ns k s) (edges_from ns (k + 1) ps) (y, x) c) (edge_only ns (k + 1) ps y x)
  where
    here : Contains (unit_edges ns k s) (y, x) → (j : ℕ) × (y ≡ j + k) × Edge ns (s ∷ ps) j x
    here d =
        let t = flat_only (λ (t : At Act). act_edges ns k t.1) (statements s.unit.body) (y, x) d in
        let e = act_edge ns k (t.0).1 y x t.2 in
        let q : y ≡ 0 + k = (let w : k ≡ y = e.4 in omega (arith, w)) in
        (0, q, record { unit = s; at = refl; name = e.0; args = e.1; line = (t.0).0; among = subst (λ a. Contains (statements s.unit.body) ((t.0).0, a)) e.2 t.1; to = e.3 })

    go : Contains (unit_edges ns k s) (y, x) ⊎ Contains (edges_from ns (k + 1) ps) (y, x) → (Contains (edges_from ns (k + 1) ps) (y, x) → (j : ℕ) × (y ≡ j + (k + 1)) × Edge ns ps j x) → (j : ℕ) × (y ≡ j + k) × Edge ns (s ∷ ps) j x
    go (inl d) r = here d
    go (inr d) r =
        let w = r d in
        let q : y ≡ w.0 + (k + 1) = w.1 in
        let e = w.2 in
        (suc w.0, omega (arith, q), record { unit = e.unit; at = e.at; name = e.name; args = e.args; line = e.line; among = e.among; to = e.to })

edge_there : (ns : List (List ℕ × ℕ)) (k : ℕ) (ps : List Shared) (j x : ℕ) → Edge ns ps j x → Contains (edges_from ns k ps) (j + k, x)
edge_there ns k [] j x e = absurd (let z : None ≡ Some e.unit = e.at in cc)
edge_there ns k (s ∷ ps) zero x e =
    let same : e.unit ≡ s = (let z : Some s ≡ Some e.unit = e.at in cc) in
    let q : k ≡ 0 + k = omega arith in
    Contains-append_left (unit_edges ns k s) (edges_from ns (k + 1) ps) (0 + k, x)
    (flat_has (λ (t : At Act). act_edges ns k t.1) (statements s.unit.body) (e.line, call e.name e.args) (0 + k, x) (subst (λ u. Contains (statements u.unit.body) (e.line, call e.name e.args)) same e.among)
    (subst (λ o. Contains (edge_to k o) (0 + k, x)) (sym e.to) (is_first (0 + k, x) (k, x) [] (λ i. (q i, x)))))
edge_there ns k (s ∷ ps) (suc j) x e =
    let q : j + (k + 1) ≡ suc j + k = omega arith in
    Contains-append_right (unit_edges ns k s) (edges_from ns (k + 1) ps) (suc j + k, x)
    (subst (λ n. Contains (edges_from ns (k + 1) ps) (n, x)) q (edge_there ns (k + 1) ps j x (record { unit = e.unit; at = e.at; name = e.name; args = e.args; line = e.line; among = e.among; to = e.to })))

-- ---- numbers of units

or_none : (o : Option ℕ) → option_or o None ≡ o
or_none None = refl
or_none (Some n) = refl

or_assoc : (a b c : Option ℕ) → option_or (option_or a b) c ≡ option_or a (option_or b c)
or_assoc None b c = refl
or_assoc (Some n) b c = refl

moved_step : (k : ℕ) (p : Bool) (o : Option ℕ) → option_or (if p then Some k else None) (moved (k + 1) o) ≡ moved k (if p then Some 0 else next o)
moved_step k true o = let e : k ≡ 0 + k = omega arith in ap Some e
moved_step k false None = refl
moved_step k false (Some n) = let e : n + (k + 1) ≡ suc n + k = omega arith in ap Some e

numbered_index : (es : List (List ℕ × ℕ)) (k : ℕ) (ps : List Shared) (c : List ℕ) → value_of c (numbered_from es k ps) ≡ option_or (value_of c es) (moved k (index (unit_names ps) c))
numbered_index es k [] c = sym (or_none (value_of c es))
numbered_index es k (s ∷ ps) c =
    numbered_index (with_value es s.unit.name k) (k + 1) ps c
    ∙ ap (λ o. option_or o (moved (k + 1) (index (unit_names ps) c))) (value_more es s.unit.name k c)
    ∙ or_assoc (value_of c es) (if name_eq c s.unit.name then Some k else None) (moved (k + 1) (index (unit_names ps) c))
    ∙ ap (option_or (value_of c es)) (moved_step k (name_eq c s.unit.name) (index (unit_names ps) c))

pub numbers_are : (ps : List Shared) (c : List ℕ) → value_of c (unit_numbers ps) ≡ index (unit_names ps) c
numbers_are ps c = numbered_index [] 0 ps c ∙ moved_none (index (unit_names ps) c)

at_next : {A : Type 0} (a : A) (l : List A) (o : Option ℕ) → at_place (a ∷ l) (next o) ≡ at_place l o
at_next a l None = refl
at_next a l (Some n) = refl

pub find_index : (ps : List Shared) (c : List ℕ) → find_shared ps c ≡ at_place ps (index (unit_names ps) c)
find_index [] c = refl
find_index (s ∷ ps) c = ap (λ b. if b then Some s else find_shared ps c) (name_turned s.unit.name c) ∙ go (name_eq c s.unit.name) (find_index ps c)
  where
    go : (b : Bool) → find_shared ps c ≡ at_place ps (index (unit_names ps) c) → (if b then Some s else find_shared ps c) ≡ at_place (s ∷ ps) (if b then Some 0 else next (index (unit_names ps) c))
    go true h = refl
    go false h = h ∙ sym (at_next s ps (index (unit_names ps) c))

-- ---- what is reached

module _ (ps : List Shared) (b : List ℕ) where
  abbrev es : Edges
  es = edges_from (unit_numbers ps) 0 ps

  abbrev UsesIt : ℕ → Type 0
  UsesIt u = (s : Shared) × (slice_get ps u ≡ Some s) × ((declares b s || calls_some (λ g. uses ps g b) s.unit.body) ≡ true)

  -- the unit of a name uses the block where it declares it or calls such a unit
  uses_found : (name : List ℕ) → uses ps name b ≡ found_uses (λ s. declares b s || calls_some (λ g. uses ps g b) s.unit.body) (find_shared ps name)
  uses_found name = sym (all_rounds ps b name)

  reached_uses : (u : ℕ) → ReachedBack es (declaring b ps) u → UsesIt u
  reached_uses u (begins c) = let d = declaring_only b ps u c in (d.0, d.1, or_front (calls_some (λ g. uses ps g b) d.0.unit.body) d.2)
  reached_uses u (leads {x} r c) =
      let i = reached_uses x r in
      let w = edge_only (unit_numbers ps) 0 ps u x c in
      let e = w.2 in
      let q : w.0 ≡ u = (let z : u ≡ w.0 + 0 = w.1 in omega (arith, z)) in
      let called : uses ps e.name b ≡ true = uses_found e.name ∙ ap (found_uses (λ s. declares b s || calls_some (λ g. uses ps g b) s.unit.body)) (find_index ps e.name ∙ ap (at_place ps) (sym (numbers_are ps e.name) ∙ e.to) ∙ i.1) ∙ i.2 in
      (e.unit, ap (slice_get ps) (sym q) ∙ e.at, or_back (declares b e.unit) (code_called (λ g. uses ps g b) e.unit.unit.body e.line e.name e.args called e.among))

  uses_reached : (k : ℕ) (name : List ℕ) (u : ℕ) → index (unit_names ps) name ≡ Some u → uses_after ps b k name ≡ true → ReachedBack es (declaring b ps) u
  uses_reached zero name u at h = cc
  uses_reached (suc k) name u at h = go (find_shared ps name) (find_index ps name ∙ ap (at_place ps) at) h (uses_reached k)
    where
      go : (o : Option Shared) → o ≡ slice_get ps u → found_uses (λ s. declares b s || calls_some (uses_after ps b k) s.unit.body) o ≡ true → ((g : List ℕ) (v : ℕ) → index (unit_names ps) g ≡ Some v → uses_after ps b k g ≡ true → ReachedBack es (declaring b ps) v) → ReachedBack es (declaring b ps) u
      go None e w r = cc
      go (Some s) e w r = either (or_cases (declares b s) (calls_some (uses_after ps b k) s.unit.body) w)
        where
          -- the called unit is there, since it uses the block
          along : (c : Called (statements s.unit.body) (uses_after ps b k)) (o : Option ℕ) → index (unit_names ps) c.name ≡ o → ReachedBack es (declaring b ps) u
          along c None d = absurd (let z : false ≡ true = sym (none_uses k (find_index ps c.name ∙ ap (at_place ps) d)) ∙ c.is in cc)
            where
              none_uses : (k : ℕ) → find_shared ps c.name ≡ None → uses_after ps b k c.name ≡ false
              none_uses zero n = refl
              none_uses (suc k) n = ap (found_uses (λ s. declares b s || calls_some (uses_after ps b k) s.unit.body)) n
          along c (Some v) d =
              let edge : Contains es (u + 0, v) = edge_there (unit_numbers ps) 0 ps u v (record { unit = s; at = sym e; name = c.name; args = c.args; line = c.line; among = c.among; to = numbers_are ps c.name ∙ d }) in
              let q : u + 0 ≡ u = omega arith in
              leads (r c.name v d c.is) (subst (λ n. Contains es (n, v)) q edge)

          either : (declares b s ≡ true) ⊎ (calls_some (uses_after ps b k) s.unit.body ≡ true) → ReachedBack es (declaring b ps) u
          either (inl d) = begins (declaring_all b ps u (s, sym e, d))
          either (inr d) = let c = code_calls (uses_after ps b k) s.unit.body d in along c (index (unit_names ps) c.name) refl

  -- a flag that says what is reached says what is used
  pub flag_uses : (f : Bool) (name : List ℕ) (u : ℕ) → index (unit_names ps) name ≡ Some u → (IsTrue f ↔ ReachedBack es (declaring b ps) u) → f ≡ uses ps name b
  flag_uses f name u at h = go f refl (uses ps name b) refl
    where
      there : UsesIt u → uses ps name b ≡ true
      there i = uses_found name ∙ ap (found_uses (λ s. declares b s || calls_some (λ g. uses ps g b) s.unit.body)) (find_index ps name ∙ ap (at_place ps) at ∙ i.1) ∙ i.2

      go : (p : Bool) → f ≡ p → (q : Bool) → uses ps name b ≡ q → p ≡ q
      go true e true d = refl
      go false e false d = refl
      go true e false d = absurd (let z : true ≡ false = sym (there (reached_uses u (h.0 e))) ∙ d in cc)
      go false e true d = absurd (let z : false ≡ true = sym e ∙ h.1 (uses_reached (length ps) name u at d) in cc)
