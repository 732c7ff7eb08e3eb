-- The units that are emitted are the nodes that paths along calls meet.
use Rattle.std.proofs.Common.{◌≡◌, ◌⊎◌, inl, inr, ℕ, Bool, true, false, List, [], ◌∷◌, ◌++◌, map, length, refl, sym, ap, ◌∙◌, subst}
use Rattle.std.specs.Prelude.{◌↔◌, ◌&&◌, not, Contains, IsTrue}
use Rattle.std.proofs.lemmas.List.Elements.{Contains-append_left, Contains-append_right, Contains-append_cases}
use Rattle.adj_tree.specs.Code.{name_eq, Procedure}
use Rattle.adj_tree.proofs.Names.{name_refl, name_same}
use Rattle.def_meaning.specs.Apart.{AreApart}
use Rattle.def_names.proofs.Variables.{or_left, or_right}
use Rattle.def_sweep.specs.Declared.{unit_name, unit_at}
use Rattle.def_sweep.specs.Marking.{ProgramMarks}
use Rattle.def_sweep.specs.Program.{takes_part, answers, has_adjoint, has_pair, is_kept_with, is_carried_with}
use Rattle.adj_reach.proofs.Members.{is_first, is_none, is_only}
use Rattle.adj_reach.specs.Reached.{begins, leads}
use Rattle.adj_reach.specs.Edges.{Edges, ReachedFrom, flag}
use Rattle.adj_naming.proofs.Places.{get_or_any}
use Rattle.adj_weave_units.specs.Calls.{listed_from, edges_of, ends_of}
use Rattle.adj_weave_units.proofs.Calling.{has_some, some_same}
use Rattle.adj_weave_units.proofs.Edges.{either_of}
use Rattle.adj_weave_units.proofs.Reached.{ends_has, ends_only, step_of, comes, flags_are}
use Rattle.adj_weave.proofs.Calling.{with_steps, plain_calls}
use Rattle.adj_weave_units.proofs.Places.{At, at_one, at_map, one_place, number_at, same_lists}

-- what is true where the other is, and the other way round, is the same
same_truth : (a b : Bool) → (a ≡ true → b ≡ true) → (b ≡ true → a ≡ true) → a ≡ b
same_truth true b f g = sym (f refl)
same_truth false true f g = g refl
same_truth false false f g = refl

-- along no edges only the beginnings are met
no_way : (start : List ℕ) (x : ℕ) → ReachedFrom [] start x → Contains start x
no_way start x (begins c) = c
no_way start x (leads {x = i} r c) = absurd (is_none (i, x) c)

module _ (ps : List Procedure) (apart : AreApart (map unit_name ps)) where
  abbrev names : List (List ℕ)
  names = map unit_name ps

  abbrev pub edges_along : (ℕ → Bool → Bool) → Edges
  edges_along f = edges_of f (listed_from (map unit_name ps) 0 0 ps)

  -- flags of the nodes where a search begins say which units are told of
  told_are : (told : List ℕ → Bool) (start : List ℕ) → ((j : ℕ) → Contains start j → (u : Procedure) × At ps j u × (told u.name ≡ true)) → ((j : ℕ) (u : Procedure) → At ps j u → told u.name ≡ true → Contains start j) →
      (flags : List Bool) → length flags ≡ length ps → ((x : ℕ) → IsTrue (flag flags x) ↔ ReachedFrom [] start x) → flags ≡ map (λ u. told u.name) ps
  told_are told start only whole flags many exact = same_lists (λ (u : Procedure). told u.name) ps flags many one
    where
      one : (j : ℕ) (u : Procedure) (b : Bool) → At ps j u → At flags j b → b ≡ told u.name
      one j u b h g = same_truth b (told u.name)
          (λ t. let o = only j (no_way start j ((exact j).0 (sym seen ∙ t))) in let s : o.0 ≡ u = at_one ps j o.0 u o.1 h in ap (λ (z : Procedure). told z.name) (sym s) ∙ o.2)
          (λ t. seen ∙ (exact j).1 (begins (whole j u h t)))
        where
          seen : b ≡ flag flags j
          seen = g.is ∙ get_or_any flags j b false g.within

  -- ---- what flagged units call

  module _ (f : ℕ → Bool → Bool) (among : List ℕ → Bool) (flags : List Bool) (are : flags ≡ map (λ u. among u.name) ps) where
    -- a flag says whether its unit is among them
    flag_at : (j : ℕ) (u : Procedure) → At ps j u → flag flags j ≡ among u.name
    flag_at j u h =
        let a = at_map (λ (u : Procedure). among u.name) ps j u h in
        ap (λ fs. flag fs j) are ∙ get_or_any (map (λ (u : Procedure). among u.name) ps) j false (among u.name) a.within ∙ sym a.is

    called_only : (j : ℕ) → Contains (ends_of flags (edges_along f)) j → (u : Procedure) × At ps j u × (has_some among f u.name 0 ps ≡ true)
    called_only j c =
        let o = ends_only flags (edges_along f) j c in
        let s = step_of ps apart f o.0 o.1 in
        let inside : among s.from.name ≡ true = sym (flag_at (o.0).0 s.from s.from_at) ∙ o.3 in
        (s.to, subst (λ z. At ps z s.to) o.2 s.to_at, s.calls among inside)

    called_whole : (j : ℕ) (u : Procedure) → At ps j u → has_some among f u.name 0 ps ≡ true → Contains (ends_of flags (edges_along f)) j
    called_whole j u h e =
        let d = comes ps apart f among j u h e in
        ends_has flags (edges_along f) (d.place, j) d.edge (flag_at d.place d.unit d.at ∙ d.inside)

  module _ (m : ProgramMarks) (head : Procedure) where
    abbrev whole_calls : ℕ → Bool → Bool
    whole_calls i turns = m.adjointed i && not (m.split i)

    abbrev split_calls : ℕ → Bool → Bool
    split_calls i turns = m.adjointed i && m.split i

    abbrev part : List ℕ → Bool
    part = takes_part m ps head

    -- the head stands at its number alone
    module _ (number : ℕ) (at : unit_at number ps ≡ head ∷ []) where
      head_at : At ps number head
      head_at = number_at ps number head at

      head_only : (j : ℕ) (u : Procedure) → At ps j u → name_eq head.name u.name ≡ true → number ≡ j
      head_only j u h e =
          let same : head.name ≡ u.name = name_same head.name u.name e in
          one_place names number j u.name apart (subst (At names number) same (at_map unit_name ps number head head_at)) (at_map unit_name ps j u h)

      -- the units that take part
      pub taking_are : (flags : List Bool) → length flags ≡ length ps → ((x : ℕ) → IsTrue (flag flags x) ↔ ReachedFrom (edges_along (λ i turns. m.adjointed i)) (number ∷ []) x) → flags ≡ map (λ u. takes_part m ps head u.name) ps
      taking_are flags many exact =
          flags_are ps apart m.adjointed (name_eq head.name) (number ∷ [])
          (λ j c. let s : number ≡ j = is_only j number c in (head, subst (λ z. At ps z head) s head_at, name_refl head.name))
          (λ j u h e. is_first j number [] (head_only j u h e))
          (takes_part m ps head) (λ n there. refl) flags many exact

      -- the head, and those that adjointed calls name that aren't split
      module _ (taking : List Bool) (are : taking ≡ map (λ u. takes_part m ps head u.name) ps) where
        abbrev whole_called : List ℕ
        whole_called = ends_of taking (edges_along whole_calls)

        whole_only : (j : ℕ) → Contains (whole_called ++ (number ∷ [])) j → (u : Procedure) × At ps j u × (has_adjoint m ps head u.name ≡ true)
        whole_only j c = go (Contains-append_cases whole_called (number ∷ []) j c)
          where
            go : Contains whole_called j ⊎ Contains (number ∷ []) j → (u : Procedure) × At ps j u × (has_adjoint m ps head u.name ≡ true)
            go (inl d) =
                let o = called_only whole_calls part taking are j d in
                let name = (o.0).name in
                (o.0, o.1, or_right (name_eq head.name name) (answers m ps head name) (sym (some_same (λ i. m.adjointed i && not (m.split i)) name part 0 ps) ∙ o.2))
            go (inr d) =
                let s : number ≡ j = is_only j number d in
                (head, subst (λ z. At ps z head) s head_at, or_left (name_eq head.name head.name) (answers m ps head head.name) (name_refl head.name))

        whole_named : (j : ℕ) (u : Procedure) → At ps j u → has_adjoint m ps head u.name ≡ true → Contains (whole_called ++ (number ∷ [])) j
        whole_named j u h e = go (either_of (name_eq head.name u.name) (answers m ps head u.name) e)
          where
            go : (name_eq head.name u.name ≡ true) ⊎ (answers m ps head u.name ≡ true) → Contains (whole_called ++ (number ∷ [])) j
            go (inl d) = Contains-append_right whole_called (number ∷ []) j (is_first j number [] (head_only j u h d))
            go (inr d) = Contains-append_left whole_called (number ∷ []) j (called_whole whole_calls part taking are j u h (some_same (λ i. m.adjointed i && not (m.split i)) u.name part 0 ps ∙ d))

        pub adjointed_are : (flags : List Bool) → length flags ≡ length ps → ((x : ℕ) → IsTrue (flag flags x) ↔ ReachedFrom [] (ends_of taking (edges_along whole_calls) ++ (number ∷ [])) x) → flags ≡ map (λ u. has_adjoint m ps head u.name) ps
        adjointed_are flags many exact = told_are (has_adjoint m ps head) (whole_called ++ (number ∷ [])) whole_only whole_named flags many exact

    -- those that split calls name
    pub paired_are : (taking : List Bool) → taking ≡ map (λ u. takes_part m ps head u.name) ps → (flags : List Bool) → length flags ≡ length ps → ((x : ℕ) → IsTrue (flag flags x) ↔ ReachedFrom [] (ends_of taking (edges_along split_calls)) x) → flags ≡ map (λ u. has_pair m ps head u.name) ps
    paired_are taking are flags many exact =
        told_are (has_pair m ps head) (ends_of taking (edges_along split_calls))
        (λ j c. let o = called_only split_calls part taking are j c in (o.0, o.1, sym (some_same (λ i. m.adjointed i && m.split i) (o.0).name part 0 ps) ∙ o.2))
        (λ j u h e. called_whole split_calls part taking are j u h (some_same (λ i. m.adjointed i && m.split i) u.name part 0 ps ∙ e))
        flags many exact

    -- those that emitted units call as they are, and what they call
    module _ (b : Bool) (adjointed paired : List Bool) (a : adjointed ≡ map (λ u. has_adjoint m ps head u.name) ps) (p : paired ≡ map (λ u. has_pair m ps head u.name) ps) where
      abbrev own_calls : ℕ → Bool → Bool
      own_calls = with_steps b m (λ i. m.kept i && not (m.split i))

      abbrev pair_calls : ℕ → Bool → Bool
      pair_calls = with_steps b m (λ i. not (m.split i))

      abbrev one_called : List ℕ
      one_called = ends_of adjointed (edges_along own_calls)

      abbrev more_called : List ℕ
      more_called = ends_of paired (edges_along pair_calls)

      abbrev by_one : List ℕ → Bool
      by_one n = has_some (has_adjoint m ps head) own_calls n 0 ps

      abbrev by_more : List ℕ → Bool
      by_more n = has_some (has_pair m ps head) pair_calls n 0 ps

      kept_only : (j : ℕ) → Contains (one_called ++ more_called) j → (u : Procedure) × At ps j u × (is_kept_with b m ps head u.name ≡ true)
      kept_only j c = go (Contains-append_cases one_called more_called j c)
        where
          go : Contains one_called j ⊎ Contains more_called j → (u : Procedure) × At ps j u × (is_kept_with b m ps head u.name ≡ true)
          go (inl d) = let o = called_only own_calls (has_adjoint m ps head) adjointed a j d in (o.0, o.1, sym (plain_calls b m ps head (o.0).name) ∙ or_left (by_one (o.0).name) (by_more (o.0).name) o.2)
          go (inr d) = let o = called_only pair_calls (has_pair m ps head) paired p j d in (o.0, o.1, sym (plain_calls b m ps head (o.0).name) ∙ or_right (by_one (o.0).name) (by_more (o.0).name) o.2)

      kept_whole : (j : ℕ) (u : Procedure) → At ps j u → is_kept_with b m ps head u.name ≡ true → Contains (one_called ++ more_called) j
      kept_whole j u h e = go (either_of (by_one u.name) (by_more u.name) (plain_calls b m ps head u.name ∙ e))
        where
          go : (by_one u.name ≡ true) ⊎ (by_more u.name ≡ true) → Contains (one_called ++ more_called) j
          go (inl d) = Contains-append_left one_called more_called j (called_whole own_calls (has_adjoint m ps head) adjointed a j u h d)
          go (inr d) = Contains-append_right one_called more_called j (called_whole pair_calls (has_pair m ps head) paired p j u h d)

      pub carried_are : (flags : List Bool) → length flags ≡ length ps → ((x : ℕ) → IsTrue (flag flags x) ↔ ReachedFrom (edges_along (λ i turns. true)) (one_called ++ more_called) x) → flags ≡ map (λ u. is_carried_with b m ps head u.name) ps
      carried_are flags many exact = flags_are ps apart (λ i. true) (is_kept_with b m ps head) (one_called ++ more_called) kept_only kept_whole (is_carried_with b m ps head) (λ n there. refl) flags many exact
