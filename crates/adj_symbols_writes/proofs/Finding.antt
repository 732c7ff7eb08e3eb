-- What a search along the edges finds is the least set.
use Rattle.std.proofs.Common.{◌≡◌, ◌⊎◌, inl, inr, ℕ, zero, suc, ◌+◌, ◌<◌, ◌≤◌, Bool, true, false, List, [], ◌∷◌, length, map, get_or, refl, sym, ap, ap₂, ◌∙◌, subst, Option, Some, arith}
use Rattle.std.specs.Prelude.{◌↔◌, All, Contains, IsTrue}
use Rattle.std.specs.List.{flat_map}
use Rattle.std.proofs.lemmas.Bool.{or_cases}
use Rattle.std.proofs.lemmas.List.Elements.{Contains-get_or, Contains-append_left, Contains-append_right, Contains-append_cases}
use Rattle.adj_tree.specs.Code.{plain, name_eq, Procedure}
use Rattle.adj_tree.proofs.Names.{name_refl}
use Rattle.adj_reach.specs.Reached.{begins, leads}
use Rattle.adj_reach.proofs.Members.{is_none}
use Rattle.adj_reach.proofs.Reaching.{reached_least}
use Rattle.def_meaning.specs.LeastSet.{Dummies, row_of, by_rule, dummies_in_all, least_rows, IsWithin, AreWithin}
use Rattle.def_meaning.proofs.Booleans.{or_first, or_second}
use Rattle.def_meaning.proofs.LeastSets.{Rises, is_least}
use Rattle.def_meaning.proofs.WritesMore.{write_rises}
use Rattle.def_meaning.proofs.ReadsMore.{read_rises}
use Rattle.def_meaning.specs.Apart.{has_name}
use Rattle.def_names.specs.Statements.{statements}
use Rattle.def_names.specs.Variables.{Name}
use Rattle.adj_reach.specs.Edges.{AreBelow, ReachedFrom, flag}
use Rattle.adj_symbols_writes.specs.Graph.{Unit', numbered, number_from, found_at, nodes_of, starts, same_edges, act_edges, unit_edges, edges, bits, row}
use Rattle.adj_symbols_writes.specs.Names.{direct, rule_of}
use Rattle.adj_symbols_writes.specs.declared.side.Side.{Side}
use Rattle.adj_symbols_writes.specs.declared.side.Side.TheVariants.{Written, Read}
use Rattle.adj_symbols_writes.proofs.Rows.{place_within, place_some, place_bit, span_within, found_span, row_found, row_span, flat, flat_rows}
use Rattle.adj_symbols_writes.proofs.Splitting.{some_hand, split}
use Rattle.adj_symbols_writes.proofs.Steps.{place, nodes_only, nodes_has, same_only, same_within, same_first, same_later, acts_only, acts_has, acts_within}

-- ---- sets within each other

within_same : (vs ws : List Bool) → IsWithin vs ws → IsWithin ws vs → vs ≡ ws
within_same [] [] f g = refl
within_same [] (w ∷ ws) f g = absurd f
within_same (v ∷ vs) [] f g = absurd f
within_same (v ∷ vs) (w ∷ ws) f g = ap₂ (λ x xs. x ∷ xs) (go v w f.0 g.0) (within_same vs ws f.1 g.1)
  where
    go : (a b : Bool) → (a ≡ true → b ≡ true) → (b ≡ true → a ≡ true) → a ≡ b
    go true b h k = sym (h refl)
    go false true h k = k refl
    go false false h k = refl

are_within_same : (vs ws : List (List Bool)) → AreWithin vs ws → AreWithin ws vs → vs ≡ ws
are_within_same [] [] f g = refl
are_within_same [] (w ∷ ws) f g = absurd f
are_within_same (v ∷ vs) [] f g = absurd f
are_within_same (v ∷ vs) (w ∷ ws) f g = ap₂ (λ x xs. x ∷ xs) (within_same v w f.0 g.0) (are_within_same vs ws f.1 g.1)

bits_within : (b c : ℕ → Bool) → ((n : ℕ) → b n ≡ true → c n ≡ true) → (i n : ℕ) → IsWithin (bits b i n) (bits c i n)
bits_within b c h i zero = tt
bits_within b c h i (suc n) = (h i, bits_within b c h (suc i) n)

rows_within : (b c : ℕ → Bool) → ((n : ℕ) → b n ≡ true → c n ≡ true) → (ps : List Unit') → AreWithin (map (row b) ps) (map (row c) ps)
rows_within b c h [] = tt
rows_within b c h (p ∷ ps) = (bits_within b c h p.0 (length (p.1).dummies), rows_within b c h ps)

-- the same of each unit, with its first node or without
unplaced : (g : Procedure → List Bool) (k : ℕ) (us : List Procedure) → map (λ p. g p.1) (numbered k us) ≡ map g us
unplaced g k [] = refl
unplaced g k (u ∷ us) = ap (λ z. g u ∷ z) (unplaced g (k + length u.dummies) us)

-- ---- where it is known what the rule puts into the set

module _ (side : Side) (find : Name → Option Unit') (F : Dummies) (b : ℕ → Bool) (known : (x : Name) → F x ≡ row_found b (find x)) where
  abbrev made : Unit' → List Bool
  made p = map (rule_of side F p.1) (p.1).dummies

  -- each start is in the set
  start_in : (p : Unit') (n : ℕ) → row b p ≡ made p → Contains (nodes_of p (direct side p.1)) n → b n ≡ true
  start_in p n h c =
      let o = nodes_only p (direct side p.1) n c in
      place_bit b (rule_of side F p.1) p.0 (p.1).dummies o.0 n h o.2 ∙ split side F p.1 o.0 ∙ or_first (has_name o.0 (direct side p.1)) (some_hand F (plain o.0) (statements (p.1).body)) o.1

  pub starts_in : (ps : List Unit') (n : ℕ) → map (row b) ps ≡ map made ps → Contains (starts (direct side) ps) n → b n ≡ true
  starts_in [] n h c = absurd (is_none n c)
  starts_in (p ∷ ps) n h c =
      let first : row b p ≡ made p = cc in
      let later : map (row b) ps ≡ map made ps = cc in
      go first (Contains-append_cases (nodes_of p (direct side p.1)) (starts (direct side) ps) n c) (starts_in ps n later)
    where
      go : row b p ≡ made p → Contains (nodes_of p (direct side p.1)) n ⊎ Contains (starts (direct side) ps) n → (Contains (starts (direct side) ps) n → b n ≡ true) → b n ≡ true
      go f (inl d) ih = start_in p n f d
      go f (inr d) ih = ih d

  -- an edge leads from what is in the set to what is in it
  edge_in : (p : Unit') (m n : ℕ) → row b p ≡ made p → Contains (unit_edges find p) (m, n) → b m ≡ true → b n ≡ true
  edge_in p m n h c t = go (Contains-append_cases (same_edges p p.0 (p.1).dummies) (flat_map (λ s. act_edges find p s.1) (statements (p.1).body)) (m, n) c)
    where
      go : Contains (same_edges p p.0 (p.1).dummies) (m, n) ⊎ Contains (flat_map (λ s. act_edges find p s.1) (statements (p.1).body)) (m, n) → b n ≡ true
      go (inl d) =
          let o = same_only p p.0 (p.1).dummies b (rule_of side F p.1) m n h d in
          o.2 ∙ sym (place_bit b (rule_of side F p.1) p.0 (p.1).dummies o.0 m h o.1) ∙ t
      go (inr d) =
          let o = acts_only find F b known p (statements (p.1).body) m n d in
          place_bit b (rule_of side F p.1) p.0 (p.1).dummies o.0 n h o.1 ∙ split side F p.1 o.0 ∙ or_second (has_name o.0 (direct side p.1)) (some_hand F (plain o.0) (statements (p.1).body)) (o.2 t)

  pub edges_in : (ps : List Unit') (m n : ℕ) → map (row b) ps ≡ map made ps → Contains (edges find ps) (m, n) → b m ≡ true → b n ≡ true
  edges_in [] m n h c t = absurd (is_none (m, n) c)
  edges_in (p ∷ ps) m n h c t =
      let first : row b p ≡ made p = cc in
      let later : map (row b) ps ≡ map made ps = cc in
      go first (Contains-append_cases (unit_edges find p) (edges find ps) (m, n) c) (λ d. edges_in ps m n later d t)
    where
      go : row b p ≡ made p → Contains (unit_edges find p) (m, n) ⊎ Contains (edges find ps) (m, n) → (Contains (edges find ps) (m, n) → b n ≡ true) → b n ≡ true
      go f (inl d) ih = edge_in p m n f d t
      go f (inr d) ih = ih d

  -- ---- and where starts are in, and edges lead from what is in to what is in

  -- the rule puts no more into it
  module _ (p : Unit') (begun : (n : ℕ) → Contains (nodes_of p (direct side p.1)) n → b n ≡ true) (led : (m n : ℕ) → Contains (unit_edges find p) (m, n) → b m ≡ true → b n ≡ true) where
    first_in : (d : Name) (n : ℕ) → place p d ≡ Some n → rule_of side F p.1 d ≡ true → b n ≡ true
    first_in d n l h = go (or_cases (has_name d (direct side p.1)) (some_hand F (plain d) (statements (p.1).body)) (sym (split side F p.1 d) ∙ h))
      where
        go : (has_name d (direct side p.1) ≡ true) ⊎ (some_hand F (plain d) (statements (p.1).body) ≡ true) → b n ≡ true
        go (inl k) = begun n (nodes_has p (direct side p.1) d n k l)
        go (inr k) =
            let o = acts_has find F b known p (statements (p.1).body) d n k l in
            led o.0 n (Contains-append_right (same_edges p p.0 (p.1).dummies) (flat_map (λ s. act_edges find p s.1) (statements (p.1).body)) (o.0, n) o.1) o.2

    rest_in : (j : ℕ) (ds : List Name) → ((e : ℕ × ℕ) → Contains (same_edges p j ds) e → Contains (same_edges p p.0 (p.1).dummies) e) → ((d : Name) → has_name d ds ≡ true → has_name d (p.1).dummies ≡ true) →
        IsWithin (map (rule_of side F p.1) ds) (bits b j (length ds))
    rest_in j [] own among = tt
    rest_in j (d ∷ ds) own among =
        let n = place_some p.0 (p.1).dummies d (among d (or_first (name_eq d d) (has_name d ds) (name_refl d))) in (
          (λ h. led n.0 j (Contains-append_left (same_edges p p.0 (p.1).dummies) (flat_map (λ s. act_edges find p s.1) (statements (p.1).body)) (n.0, j) (own (n.0, j) (same_first p j d ds n.0 n.1))) (first_in d n.0 n.1 h)),
          rest_in (suc j) ds (λ e c. own e (same_later p j d ds e c)) (λ x h. among x (or_second (name_eq x d) (has_name x ds) h)),
        )

    row_in : IsWithin (made p) (row b p)
    row_in = rest_in p.0 (p.1).dummies (λ e c. c) (λ d h. h)

  pub rows_in : (ps : List Unit') → ((n : ℕ) → Contains (starts (direct side) ps) n → b n ≡ true) → ((m n : ℕ) → Contains (edges find ps) (m, n) → b m ≡ true → b n ≡ true) → AreWithin (map made ps) (map (row b) ps)
  rows_in [] begun led = tt
  rows_in (p ∷ ps) begun led = (
    row_in p (λ n c. begun n (Contains-append_left (nodes_of p (direct side p.1)) (starts (direct side) ps) n c)) (λ m n c. led m n (Contains-append_left (unit_edges find p) (edges find ps) (m, n) c)),
    rows_in ps (λ n c. begun n (Contains-append_right (nodes_of p (direct side p.1)) (starts (direct side) ps) n c)) (λ m n c. led m n (Contains-append_right (unit_edges find p) (edges find ps) (m, n) c)),
  )

-- ---- all units

rises : (side : Side) → Rises (rule_of side)
rises Written = write_rises
rises Read = read_rises

module _ (side : Side) (us : List Procedure) where
  abbrev all : List Unit'
  all = numbered 0 us

  abbrev find : Name → Option Unit'
  find x = found_at (numbered 0 us) (number_from 0 us x)

  abbrev least : List (List Bool)
  least = least_rows (rule_of side) us

  -- rows are known by the units that are found
  known : (b : ℕ → Bool) (x : Name) → row_of us (map (row b) all) x ≡ row_found b (find x)
  known b x = row_span b 0 us x ∙ ap (row_found b) (sym (found_span us x))

  -- the least set, node by node
  abbrev in_least : ℕ → Bool
  in_least = flag (flat (by_rule (rule_of side) us least))

  least_is : map (row in_least) all ≡ least
  least_is = flat_rows (rule_of side (row_of us least)) us ∙ (is_least (rule_of side) (rises side) us).closed

  least_known : (x : Name) → row_of us least x ≡ row_found in_least (find x)
  least_known x = ap (λ z. row_of us z x) (sym least_is) ∙ known in_least x

  least_made : map (row in_least) all ≡ map (λ p. map (rule_of side (row_of us least) p.1) (p.1).dummies) all
  least_made = flat_rows (rule_of side (row_of us least)) us ∙ sym (unplaced (λ u. map (rule_of side (row_of us least) u) u.dummies) 0 us)

  -- what the flags of all reached nodes say of the dummies
  pub found_least : (flags : List Bool) → ((n : ℕ) → IsTrue (flag flags n) ↔ ReachedFrom (edges find all) (starts (direct side) all) n) → map (row (flag flags)) all ≡ least
  found_least flags exact =
      are_within_same (map (row (flag flags)) all) least
      (subst (λ z. AreWithin (map (row (flag flags)) all) z) least_is (rows_within (flag flags) in_least (λ n h. reached_least (record { holds = λ m c. starts_in side find (row_of us least) in_least least_known all m least_made c; steps = λ m k t c. edges_in side find (row_of us least) in_least least_known all m k least_made c t }) n ((exact n).0 h)) all))
      ((is_least (rule_of side) (rises side) us).least (map (row (flag flags)) all)
      (subst (λ z. AreWithin z (map (row (flag flags)) all)) (unplaced (λ u. map (rule_of side (row_of us (map (row (flag flags)) all)) u) u.dummies) 0 us)
      (rows_in side find (row_of us (map (row (flag flags)) all)) (flag flags) (known (flag flags)) all
      (λ n c. (exact n).1 (begins c)) (λ m n c t. (exact n).1 (leads ((exact m).0 t) c)))))

  -- ---- the nodes are those of the dummies

  starts_below : (k : ℕ) (vs : List Procedure) (n : ℕ) → Contains (starts (direct side) (numbered k vs)) n → n < k + dummies_in_all vs
  starts_below k [] n c = absurd (is_none n c)
  starts_below k (u ∷ vs) n c = go (Contains-append_cases (nodes_of (k, u) (direct side u)) (starts (direct side) (numbered (k + length u.dummies) vs)) n c) (starts_below (k + length u.dummies) vs n)
    where
      go : Contains (nodes_of (k, u) (direct side u)) n ⊎ Contains (starts (direct side) (numbered (k + length u.dummies) vs)) n → (Contains (starts (direct side) (numbered (k + length u.dummies) vs)) n → n < (k + length u.dummies) + dummies_in_all vs) → n < k + (length u.dummies + dummies_in_all vs)
      go (inl d) ih = let o = nodes_only (k, u) (direct side u) n d in let l = place_within k u.dummies o.0 n o.2 in omega arith
      go (inr d) ih = let l = ih d in omega arith

  pub starts_within : All (λ n. n < dummies_in_all us) (starts (direct side) all)
  starts_within j d l = let below = starts_below 0 us (get_or (starts (direct side) all) j d) (Contains-get_or (starts (direct side) all) j d l) in omega arith

  find_within : (x : Name) (r : Unit') → find x ≡ Some r → r.0 + length (r.1).dummies ≤ dummies_in_all us
  find_within x r e = let within = span_within 0 us x r (sym (found_span us x) ∙ e) in omega arith

  edges_below : (k : ℕ) (vs : List Procedure) (m n : ℕ) → k + dummies_in_all vs ≤ dummies_in_all us → Contains (edges find (numbered k vs)) (m, n) → (m < dummies_in_all us) × (n < dummies_in_all us)
  edges_below k [] m n h c = absurd (is_none (m, n) c)
  edges_below k (u ∷ vs) m n h c = go (Contains-append_cases (unit_edges find (k, u)) (edges find (numbered (k + length u.dummies) vs)) (m, n) c) (edges_below (k + length u.dummies) vs m n (omega (arith, h)))
    where
      own : Contains (same_edges (k, u) k u.dummies) (m, n) ⊎ Contains (flat_map (λ s. act_edges find (k, u) s.1) (statements u.body)) (m, n) → (m < dummies_in_all us) × (n < dummies_in_all us)
      own (inl d) = let o = same_within (k, u) k u.dummies m n d in let a = place_within k u.dummies o.0.0 m o.0.1 in let b = o.1 in (omega (arith, h), omega (arith, h))
      own (inr d) =
          let o = acts_only find (λ x. row_found (λ i. true) (find x)) (λ i. true) (λ x. refl) (k, u) (statements u.body) m n d in
          let a = place_within k u.dummies o.0 n o.1 in
          (acts_within find (k, u) (dummies_in_all us) find_within (statements u.body) m n d, omega (arith, h))

      go : Contains (unit_edges find (k, u)) (m, n) ⊎ Contains (edges find (numbered (k + length u.dummies) vs)) (m, n) → (Contains (edges find (numbered (k + length u.dummies) vs)) (m, n) → (m < dummies_in_all us) × (n < dummies_in_all us)) → (m < dummies_in_all us) × (n < dummies_in_all us)
      go (inl d) ih = own (Contains-append_cases (same_edges (k, u) k u.dummies) (flat_map (λ s. act_edges find (k, u) s.1) (statements u.body)) (m, n) d)
      go (inr d) ih = ih d

  pub edges_within : AreBelow (dummies_in_all us) (edges find all)
  edges_within j d l = edges_below 0 us (get_or (edges find all) j d).0 (get_or (edges find all) j d).1 (omega arith) (Contains-get_or (edges find all) j d l)
