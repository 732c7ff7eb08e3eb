-- What the code lists are the numbers of what the rules list.
use Rattle.std.proofs.Common.{◌≡◌, ◌⊎◌, inl, inr, ℕ, suc, List, [], ◌∷◌, ◌++◌, Bool, true, false, map, refl, sym, ap, ◌∙◌, subst, append-nil}
use Rattle.std.specs.Prelude.{Contains, Option, Some, None, not, ◌&&◌, flat_map, filter}
use Rattle.std.specs.Option.{option_map}
use Rattle.std.proofs.lemmas.List.Concat.{flat_map-cons}
use Rattle.std.proofs.lemmas.List.Elements.{Contains-append_left, Contains-append_right, Contains-append_cases}
use Rattle.adj_tree.specs.Code.{Var, plain, var_eq, Terms, Term, Code, Mark, Act, assign, choose, loop, during, call, runtime}
use Rattle.def_meaning.specs.Read.{is_extent, is_read, looked_at, read_rule}
use Rattle.def_meaning.specs.Written.{handed_back, write_rule}
use Rattle.def_names.specs.Numbering.{point_before, point_after, point_inside}
use Rattle.adj_reach.specs.Reached.{leads}
use Rattle.def_flow.specs.Parts.{Part, parts, find_part}
use Rattle.def_flow.specs.Ways.{Way, assigned_on, way, ways, act_ways, assigning, passing}
use Rattle.def_flow.specs.Standing.{Place, outermost, part_of, turn_of, Standing}
use Rattle.def_names.specs.VariableLists.{list_if, vars_in, vars_in_terms, vars_in_mark, used_in, handed_in, handed_in_actuals, standing_in}
use Rattle.def_flow.specs.AdjointReads.{adjoint_reads_in}
use Rattle.def_flow.specs.Problem.{Problem, statements_of, ways_of, CallsUnit, TakesPart, bound}
use Rattle.def_flow.specs.Activity.{Activity, Holds, IsPoint, resets}
use Rattle.def_flow.specs.Uses.{use_point, site, turned_by}
use Rattle.def_flow.specs.Live.{Fact, needed, kept, wanted}
use Rattle.def_flow.specs.Rules.{Scope, Covers, list_of, with_args, called, at_actuals, holders, live_starts_by, live_turned, live_starts_at, live_starts, live_stays, live_assigned, live_member, live_called, live_steps_at, live_steps}
use Rattle.adj_reach.proofs.Members.{is_first, is_later, is_none, flat_only, filter_only}
use Rattle.def_flow.proofs.Holders.{holder_of}
use Rattle.def_flow.proofs.Placed.{way_of_statement}
use Rattle.def_flow.proofs.OwnPoints.{entry_point, own_before, own_after, use_is_point}
use Rattle.def_names.proofs.VariableLists.{used_stands}
use Rattle.def_flow.proofs.AdjointReads.{adjoint_reads_stand}
use Rattle.def_flow.proofs.FlowListed as flowing
use Rattle.def_flow.proofs.LiveListed as listing
use Rattle.adj_flow.specs.Nodes.{IsWide, linked}
use Rattle.adj_flow.specs.Rows.{Row, row_in}
use Rattle.adj_flow.specs.Passed.{passed_in}
use Rattle.adj_flow.specs.Scoped.{scope_by}
use Rattle.adj_flow.proofs.Scoping.{flat_chosen}
use Rattle.adj_flow.proofs.Images.{Images, images_none, images_append, images_flat, images_map, images_if}
use Rattle.adj_reach.specs.Edges.{flag}
use Rattle.adj_live.specs.Numbers.{kept_at, wanted_at}
use Rattle.adj_live.specs.Passed.{handed_by}
use Rattle.adj_live.specs.Listed.{Here, active_here, needed_here, needed_nodes, own_nodes, turned_nodes, statement_nodes, extent_nodes, unit_nodes, entry_edges, way_edges, used_edges, assigned_edges, held_edges, handed_edges, member_edges, found_edges, call_edges, statement_edges, unit_edges}
use Rattle.adj_live.proofs.Facts.{HasFact, HasStep, single, link}
use Rattle.adj_live.proofs.Using.{used_same, handed_same, handed_stands, no_dummies, read_row, passed_bound}

-- a list without members has no images
nothing : {A B : Type 0} {R : A → B → Type 0} (xs : List A) → ((x : A) → Contains xs x → ⊥) → Images R xs []
nothing xs h = record { has = λ x y c r. absurd (h x c); only = λ y c. absurd (is_none y c) }

-- images of an equal list
same_images : {A B : Type 0} {R : A → B → Type 0} (xs zs : List A) (ys : List B) → xs ≡ zs → Images R zs ys → Images R xs ys
same_images xs zs ys e i = record {
  has = λ x y c r. i.has x y (subst (λ l. Contains l x) e c) r;
  only = λ y c. let q = i.only y c in (q.0, subst (λ l. Contains l q.0) (sym e) q.1, q.2);
}

images_same : {A B : Type 0} {R : A → B → Type 0} (xs : List A) (ys us : List B) → ys ≡ us → Images R xs us → Images R xs ys
images_same xs ys us e i = record {
  has = λ x y c r. subst (λ l. Contains l y) (sym e) (i.has x y c r);
  only = λ y c. i.only y (subst (λ l. Contains l y) e c);
}

-- a unit, as the code sees it
abbrev pub here_of : List (List (List ℕ)) → ℕ → Activity → (ℕ → Bool) → (List ℕ → Option Row) → (List ℕ → List Bool) → (List ℕ → List Bool) → Part → Here
here_of vss w a split find read written g = record { width = w; find = find; read = read; written = written; activity = a; split = split; row = row_in vss g }

module _ (k : Problem) (vss : List (List (List ℕ))) (flags : List Bool) (w : ℕ) (y : Covers k (scope_by vss (flag flags) k.units)) (wide : IsWide k (scope_by vss (flag flags) k.units) w) (a : Activity)
    (find : List ℕ → Option Row) (finds : (x : List ℕ) → find x ≡ option_map (row_in vss) (find_part (parts k.units) x))
    (read : List ℕ → List Bool) (reads : (x : List ℕ) → read x ≡ looked_at k.units x) (written : List ℕ → List Bool) (writes : (x : List ℕ) → written x ≡ handed_back k.units x) where
  abbrev o : Scope
  o = scope_by vss (flag flags) k.units

  abbrev here : Part → Here
  here = here_of vss w a k.split find read written

  abbrev Nodes : List Fact → List ℕ → Type 0
  Nodes = Images (HasFact k o w)

  abbrev Edges : List (Fact × Fact) → List (ℕ × ℕ) → Type 0
  Edges = Images (HasStep k o w)

  module _ (g : Part) (t : TakesPart k g) where
    abbrev h : Here
    h = here g

    -- ---- single facts and steps

    needed_one : (p : ℕ) (v : Var) → IsPoint g p → Contains (o.variables g) v → Nodes (needed p v ∷ []) (list_of (needed_here h p v))
    needed_one p v i c = single k o w wide g t (needed p v) (i, c)

    kept_one : (i : ℕ) → Nodes (kept i ∷ []) (kept_at w i ∷ [])
    kept_one i = single k o w wide g t (kept i) tt

    to_needed : (i p : ℕ) (v : Var) → IsPoint g p → Contains (o.variables g) v → Edges ((kept i, needed p v) ∷ []) (linked (Some (kept_at w i)) (needed_here h p v))
    to_needed i p v q c = link k o w wide g g t t (kept i) (needed p v) tt (q, c)

    from_needed : (i p : ℕ) (v : Var) → IsPoint g p → Contains (o.variables g) v → Edges ((needed p v, kept i) ∷ []) (linked (needed_here h p v) (Some (kept_at w i)))
    from_needed i p v q c = link k o w wide g g t t (needed p v) (kept i) (q, c) tt

    -- ---- ways, and the entry

    entry_images : Edges (map (λ d. (needed g.entry (plain d), wanted g.number d)) g.unit.dummies) (entry_edges h)
    entry_images =
        images_map (λ d. (needed g.entry (plain d), wanted g.number d)) (λ d. linked (needed_here h g.entry (plain d)) (wanted_at w (o.variables g) g.number d)) g.unit.dummies
        (λ d m. link k o w wide g g t t (needed g.entry (plain d)) (wanted g.number d) (entry_point g, y.dummies g t d m) (refl, y.dummies g t d m))

    on_way : (r : Way) → Contains (ways_of g) r → Edges (live_stays (o.variables g) r) (way_edges h r)
    on_way r c =
        images_flat (λ v. list_if (not (assigned_on r.deed v)) ((needed r.to v, needed r.from v) ∷ [])) (λ v. list_if (not (assigned_on r.deed v)) (linked (needed_here h r.to v) (needed_here h r.from v))) (o.variables g)
        (λ v m. images_if (not (assigned_on r.deed v)) (link k o w wide g g t t (needed r.to v) (needed r.from v) ((r, c, inr refl), m) ((r, c, inl refl), m)))

    -- ---- statements

    module _ (s : Standing) (c : Contains (statements_of g) s) where
      stands : (v : Var) → Contains (standing_in s.act) v → Contains (o.variables g) v
      stands v m = y.standing g t s c v m

      used_images : Edges (map (λ v. (kept s.number, needed (use_point s.number s.act) v)) (used_in k.units s.act)) (used_edges h s.number s.act)
      used_images =
          images_same (map (λ v. (kept s.number, needed (use_point s.number s.act) v)) (used_in k.units s.act)) (used_edges h s.number s.act)
          (flat_map (λ v. linked (Some (kept_at w s.number)) (needed_here h (use_point s.number s.act) v)) (used_in k.units s.act))
          (ap (λ l. flat_map (λ v. linked (Some (kept_at w s.number)) (needed_here h (use_point s.number s.act) v)) l) (used_same k.units read reads s.act))
          (images_map (λ v. (kept s.number, needed (use_point s.number s.act) v)) (λ v. linked (Some (kept_at w s.number)) (needed_here h (use_point s.number s.act) v)) (used_in k.units s.act)
          (λ v m. to_needed s.number (use_point s.number s.act) v (use_is_point g s c) (stands v (used_stands k.units v s.act m))))

      -- the point inside a DO
      inside : (x : Var) (first last by : Term) (body : Code) (m : Mark) → s.act ≡ loop x first last by body m → IsPoint g (point_inside s.number)
      inside x first last by body m e =
          let r = way (point_before s.number) (point_inside s.number) (assigning s.number x) in
          let rest = way (point_inside s.number) (point_after s.number) passing ∷ ways (suc s.number) (point_inside s.number) (point_inside s.number) (assigning s.number x) body in
          (r, way_of_statement g s r c (subst (λ b. Contains (act_ways s.number b) r) (sym e) (is_first r r rest refl)), inr refl)

      assigned_images : Edges (live_assigned s.number s.act) (assigned_edges h s.number s.act)
      assigned_images = go s.act refl
        where
          go : (b : Act) → s.act ≡ b → Edges (live_assigned s.number b) (assigned_edges h s.number b)
          go (assign x subs e) q = from_needed s.number (point_after s.number) x (own_after g s c) (stands x (subst (λ b. Contains (standing_in b) x) (sym q) (is_first x x (vars_in_terms subs ++ vars_in e) refl)))
          go (choose r b d) q = images_none
          go (loop x first last by body m) q =
              from_needed s.number (point_inside s.number) x (inside x first last by body m q) (stands x (subst (λ b. Contains (standing_in b) x) (sym q) (is_first x x (vars_in first ++ (vars_in last ++ (vars_in by ++ vars_in_mark m))) refl)))
          go (during r body) q = images_none
          go (call name args) q = images_none
          go (runtime r) q = images_none

      held_images : Edges (map (λ n. (kept s.number, kept n)) (holders s.place)) (held_edges h s.number s.place)
      held_images = go s.place
        where
          go : (at : Place) → Edges (map (λ n. (kept s.number, kept n)) (holders at)) (held_edges h s.number at)
          go outermost = images_none
          go (part_of i) = link k o w wide g g t t (kept s.number) (kept i) tt tt
          go (turn_of i x) = link k o w wide g g t t (kept s.number) (kept i) tt tt

      -- ---- calls

      after_site : (b : Bool) → IsPoint g (point_after (site b s.number s.place))
      after_site b = go s.place refl b
        where
          go : (at : Place) → s.place ≡ at → (b : Bool) → IsPoint g (point_after (site b s.number at))
          go outermost e b = own_after g s c
          go (part_of i) e b = own_after g s c
          go (turn_of i x) e true = let u = holder_of g s i c (subst (λ q. Holds i q) (sym e) refl) in subst (λ n. IsPoint g (point_after n)) u.2 (own_after g u.0 u.1)
          go (turn_of i x) e false = own_after g s c

      handed_images : Edges (map (λ v. (needed (point_after (site (a.adjointed s.number) s.number s.place)) v, kept s.number)) (handed_in k.units s.act)) (handed_edges h s)
      handed_images =
          images_same (map (λ v. (needed (point_after (site (a.adjointed s.number) s.number s.place)) v, kept s.number)) (handed_in k.units s.act)) (handed_edges h s)
          (flat_map (λ v. linked (needed_here h (point_after (site (a.adjointed s.number) s.number s.place)) v) (Some (kept_at w s.number))) (handed_in k.units s.act))
          (ap (λ l. flat_map (λ v. linked (needed_here h (point_after (site (a.adjointed s.number) s.number s.place)) v) (Some (kept_at w s.number))) l) (handed_same k.units written writes s.act))
          (images_map (λ v. (needed (point_after (site (a.adjointed s.number) s.number s.place)) v, kept s.number)) (λ v. linked (needed_here h (point_after (site (a.adjointed s.number) s.number s.place)) v) (Some (kept_at w s.number))) (handed_in k.units s.act)
          (λ v m. from_needed s.number (point_after (site (a.adjointed s.number) s.number s.place)) v (after_site (a.adjointed s.number)) (stands v (handed_stands k.units v s.act m))))

      member_images : (f : Part) (args : Terms) → CallsUnit k g f s args → Edges (at_actuals (live_member a s) (f, args)) (found_edges h s args (Some (row_in vss f)))
      member_images f args u =
          images_flat (λ b. live_member a s f b.0 b.1) (λ b. member_edges h s (row_in vss f) b.0 b.1) (bound f.unit.dummies args)
          (λ b m. images_if (a.adjointed s.number && not (turned_by s.place b.1))
          (link k o w wide f g (leads t (s, args, u)) t (wanted f.number b.0) (needed (point_before (site true s.number s.place)) b.1) (refl, flowing.dummy_stands k o y g f s args b.0 b.1 t u m) (listing.site_point k o y a g s true c, flowing.actual_stands k o y g f s args b.0 b.1 t u m)))

      -- a call of a unit that was found, or of none
      called_images : (name : List ℕ) (args : Terms) → s.act ≡ call name args → (f : Option Part) → find_part (parts k.units) name ≡ f →
          Edges (flat_map (live_called k a s) (with_args args f)) (handed_edges h s ++ found_edges h s args (option_map (row_in vss) f))
      called_images name args e None p =
          images_same [] (handed_edges h s ++ []) [] (ap (λ l. flat_map (λ v. linked (needed_here h (point_after (site (a.adjointed s.number) s.number s.place)) v) (Some (kept_at w s.number))) l ++ []) (ap (λ b. handed_by written b) e ∙ ap (λ ws. handed_in_actuals ws args) (writes name ∙ no_dummies write_rule k.units name p))) images_none
      called_images name args e (Some f) p =
          same_images (flat_map (live_called k a s) ((f, args) ∷ [])) (live_called k a s (f, args)) (handed_edges h s ++ found_edges h s args (Some (row_in vss f)))
          (flat_map-cons (live_called k a s) (f, args) [] ∙ append-nil (live_called k a s (f, args)))
          (images_append handed_images (member_images f args (record { name = name; stands = c; act = e; finds = p })))

      call_images : Edges (flat_map (live_called k a s) (called (parts k.units) s.act)) (handed_edges h s ++ call_edges h s s.act)
      call_images = go s.act refl
        where
          none : (b : Act) → s.act ≡ b → handed_by written b ≡ [] → Edges [] (handed_edges h s ++ [])
          none b e n = images_same [] (handed_edges h s ++ []) [] (ap (λ l. flat_map (λ v. linked (needed_here h (point_after (site (a.adjointed s.number) s.number s.place)) v) (Some (kept_at w s.number))) l ++ []) (ap (λ z. handed_by written z) e ∙ n)) images_none

          go : (b : Act) → s.act ≡ b → Edges (flat_map (live_called k a s) (called (parts k.units) b)) (handed_edges h s ++ call_edges h s b)
          go (assign x subs e) q = none (assign x subs e) q refl
          go (choose r b d) q = none (choose r b d) q refl
          go (loop x first last by body m) q = none (loop x first last by body m) q refl
          go (during r body) q = none (during r body) q refl
          go (call name args) q =
              subst (λ f. Edges (flat_map (live_called k a s) (with_args args (find_part (parts k.units) name))) (handed_edges h s ++ found_edges h s args f)) (sym (finds name)) (called_images name args q (find_part (parts k.units) name) refl)
          go (runtime r) q = none (runtime r) q refl

      statement_images : Edges (live_steps_at k a s) (statement_edges h s)
      statement_images = images_append used_images (images_append assigned_images (images_append held_images call_images))

      -- ---- beginnings

      reads_images : (x : Var) (subs : Terms) (e : Term) → s.act ≡ assign x subs e →
          Nodes (map (λ v. needed (point_before s.number) v) (adjoint_reads_in (active_here h s.number) e ++ vars_in_terms subs)) (needed_nodes h (point_before s.number) outermost (adjoint_reads_in (active_here h s.number) e ++ vars_in_terms subs))
      reads_images x subs e q =
          images_map (λ v. needed (point_before s.number) v) (λ v. list_of (needed_here h (point_before s.number) v)) (adjoint_reads_in (active_here h s.number) e ++ vars_in_terms subs)
          (λ v m. needed_one (point_before s.number) v (own_before g s c) (stands v (subst (λ b. Contains (standing_in b) v) (sym q) (is_later v x (vars_in_terms subs ++ vars_in e) (in_text v (Contains-append_cases (adjoint_reads_in (active_here h s.number) e) (vars_in_terms subs) v m))))))
        where
          in_text : (v : Var) → Contains (adjoint_reads_in (active_here h s.number) e) v ⊎ Contains (vars_in_terms subs) v → Contains (vars_in_terms subs ++ vars_in e) v
          in_text v (inl d) = Contains-append_right (vars_in_terms subs) (vars_in e) v (adjoint_reads_stand (active_here h s.number) v e d)
          in_text v (inr d) = Contains-append_left (vars_in_terms subs) (vars_in e) v d

      own_images : Nodes (live_starts_by a g.number s.number s.act) (own_nodes h s.number s.act)
      own_images = go s.act refl
        where
          go : (b : Act) → s.act ≡ b → Nodes (live_starts_by a g.number s.number b) (own_nodes h s.number b)
          go (assign x subs e) q = images_if (a.adjointed s.number) (reads_images x subs e q)
          go (choose r b d) q = images_none
          go (loop x first last by body m) q = images_if (resets a g.number s.number x) (kept_one s.number)
          go (during r body) q = images_none
          go (call name args) q = images_none
          go (runtime r) q = images_none

      -- what a step call passes to dummies that are read, where it was found
      passed_images : (i : ℕ) (x : Var) → s.place ≡ turn_of i x → (name : List ℕ) (args : Terms) → s.act ≡ call name args → (f : Option Part) → find_part (parts k.units) name ≡ f →
          Nodes (flat_map (at_actuals (live_turned k (turn_of i x))) (with_args args f)) (needed_nodes h (point_before i) (turn_of i x) (passed_in (read name) args))
      passed_images i x r name args e None p =
          images_same [] (needed_nodes h (point_before i) (turn_of i x) (passed_in (read name) args)) [] (ap (λ ws. needed_nodes h (point_before i) (turn_of i x) (passed_in ws args)) (reads name ∙ no_dummies read_rule k.units name p)) images_none
      passed_images i x r name args e (Some f) p =
          same_images (flat_map (at_actuals (live_turned k (turn_of i x))) ((f, args) ∷ [])) (at_actuals (live_turned k (turn_of i x)) (f, args)) (needed_nodes h (point_before i) (turn_of i x) (passed_in (read name) args))
          (flat_map-cons (at_actuals (live_turned k (turn_of i x))) (f, args) [] ∙ append-nil (at_actuals (live_turned k (turn_of i x)) (f, args)))
          (images_same (at_actuals (live_turned k (turn_of i x)) (f, args)) (needed_nodes h (point_before i) (turn_of i x) (passed_in (read name) args))
          (flat_map (λ b. list_if (is_read k.units f.unit b.0 && not (var_eq b.1 x)) (list_of (needed_here h (point_before i) b.1))) (bound f.unit.dummies args))
          (ap (λ ws. needed_nodes h (point_before i) (turn_of i x) (passed_in ws args)) (reads name ∙ read_row k.units name f p) ∙ passed_bound (is_read k.units f.unit) (λ v. not (var_eq v x)) (λ v. list_of (needed_here h (point_before i) v)) f.unit.dummies args)
          (images_flat (λ b. live_turned k (turn_of i x) f b.0 b.1) (λ b. list_if (is_read k.units f.unit b.0 && not (var_eq b.1 x)) (list_of (needed_here h (point_before i) b.1))) (bound f.unit.dummies args)
          (λ b m. images_if (is_read k.units f.unit b.0 && not (var_eq b.1 x)) (needed_one (point_before i) b.1 before (flowing.actual_stands k o y g f s args b.0 b.1 t (record { name = name; stands = c; act = e; finds = p }) m)))))
        where
          before : IsPoint g (point_before i)
          before = let u = holder_of g s i c (subst (λ q. Holds i q) (sym r) refl) in subst (λ n. IsPoint g (point_before n)) u.2 (own_before g u.0 u.1)

      turned_images : Nodes (flat_map (at_actuals (live_turned k s.place)) (called (parts k.units) s.act)) (turned_nodes h s.place s.act)
      turned_images = go s.place refl
        where
          never : (at : Place) → ((f : Part) (d : List ℕ) (v : Var) → live_turned k at f d v ≡ []) → (x : Fact) → Contains (flat_map (at_actuals (live_turned k at)) (called (parts k.units) s.act)) x → ⊥
          never at n x m =
              let f = flat_only (at_actuals (live_turned k at)) (called (parts k.units) s.act) x m in
              let b = flat_only (λ q. live_turned k at f.0.0 q.0 q.1) (bound f.0.0.unit.dummies f.0.1) x f.2 in
              is_none x (subst (λ l. Contains l x) (n f.0.0 b.0.0 b.0.1) b.2)

          turn : (i : ℕ) (x : Var) → s.place ≡ turn_of i x → (b : Act) → s.act ≡ b → Nodes (flat_map (at_actuals (live_turned k (turn_of i x))) (called (parts k.units) b)) (turned_nodes h (turn_of i x) b)
          turn i x r (assign z subs e) q = images_none
          turn i x r (choose l b d) q = images_none
          turn i x r (loop z first last by body m) q = images_none
          turn i x r (during l body) q = images_none
          turn i x r (call name args) q = passed_images i x r name args q (find_part (parts k.units) name) refl
          turn i x r (runtime l) q = images_none

          go : (at : Place) → s.place ≡ at → Nodes (flat_map (at_actuals (live_turned k at)) (called (parts k.units) s.act)) (turned_nodes h at s.act)
          go outermost r = nothing (flat_map (at_actuals (live_turned k outermost)) (called (parts k.units) s.act)) (never outermost (λ f d v. refl))
          go (part_of i) r = nothing (flat_map (at_actuals (live_turned k (part_of i))) (called (parts k.units) s.act)) (never (part_of i) (λ f d v. refl))
          go (turn_of i x) r = turn i x r s.act refl

      holder_images : Nodes (map kept (holders s.place)) (map (kept_at w) (holders s.place))
      holder_images = go s.place
        where
          go : (at : Place) → Nodes (map kept (holders at)) (map (kept_at w) (holders at))
          go outermost = images_none
          go (part_of i) = kept_one i
          go (turn_of i x) = kept_one i

      begun_images : Nodes (live_starts_at k a g.number s) (statement_nodes h s)
      begun_images = images_append own_images (images_if (a.adjointed s.number) (images_append (images_if (k.split s.number) (kept_one s.number)) (images_append holder_images turned_images)))

    -- ---- the unit

    extent_images : Nodes (map (wanted g.number) (filter (λ d. is_extent d g.unit.declarations) g.unit.dummies)) (extent_nodes h)
    extent_images =
        images_same (map (wanted g.number) (filter (λ d. is_extent d g.unit.declarations) g.unit.dummies)) (extent_nodes h) (flat_map (λ d. list_of (wanted_at w (o.variables g) g.number d)) (filter (λ d. is_extent d g.unit.declarations) g.unit.dummies))
        (flat_chosen (λ d. is_extent d g.unit.declarations) (λ d. list_of (wanted_at w (o.variables g) g.number d)) g.unit.dummies)
        (images_map (wanted g.number) (λ d. list_of (wanted_at w (o.variables g) g.number d)) (filter (λ d. is_extent d g.unit.declarations) g.unit.dummies)
        (λ d m. single k o w wide g t (wanted g.number d) (refl, y.dummies g t d (filter_only (λ z. is_extent z g.unit.declarations) g.unit.dummies d m).0)))

    unit_steps : Edges (map (λ d. (needed g.entry (plain d), wanted g.number d)) g.unit.dummies ++ (flat_map (live_stays (o.variables g)) (ways_of g) ++ flat_map (live_steps_at k a) (statements_of g))) (unit_edges h)
    unit_steps =
        images_append entry_images (images_append (images_flat (live_stays (o.variables g)) (way_edges h) (ways_of g) on_way) (images_flat (live_steps_at k a) (statement_edges h) (statements_of g) statement_images))

    unit_starts : Nodes (map (wanted g.number) (filter (λ d. is_extent d g.unit.declarations) g.unit.dummies) ++ flat_map (live_starts_at k a g.number) (statements_of g)) (unit_nodes h)
    unit_starts = images_append extent_images (images_flat (live_starts_at k a g.number) (statement_nodes h) (statements_of g) begun_images)

  -- ---- all units that take part

  pub step_images : Edges (live_steps k a o) (flat_map (λ g. unit_edges (here g)) o.parts)
  step_images =
      images_flat (λ g. map (λ d. (needed g.entry (plain d), wanted g.number d)) g.unit.dummies ++ (flat_map (live_stays (o.variables g)) (ways_of g) ++ flat_map (live_steps_at k a) (statements_of g))) (λ g. unit_edges (here g)) o.parts
      (λ g c. unit_steps g ((y.parts g).0 c))

  pub start_images : Nodes (live_starts k a o) (flat_map (λ g. unit_nodes (here g)) o.parts)
  start_images =
      images_flat (λ g. map (wanted g.number) (filter (λ d. is_extent d g.unit.declarations) g.unit.dummies) ++ flat_map (live_starts_at k a g.number) (statements_of g)) (λ g. unit_nodes (here g)) o.parts
      (λ g c. unit_starts g ((y.parts g).0 c))
