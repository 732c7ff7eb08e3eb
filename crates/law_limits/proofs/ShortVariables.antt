-- All names of a unit are short where those of its variables are, and the other way round.
use Rattle.std.proofs.Common.{◌≡◌, ◌≤◌, ℕ, true, false, List, [], ◌∷◌, ◌++◌, length, map, flat_map, refl, sym, ◌∙◌, arith, if◌then◌else◌, Some}
use Rattle.std.specs.Prelude.{◌&&◌}
use Rattle.std.specs.List.{list_any}
use Rattle.std.proofs.lemmas.Bool.{or_parts, and_parts, not-false}
use Rattle.adj_tree.specs.Code.{name_eq, Act, assign, choose, loop, during, call, runtime, Extent, fixed, given, Declaration, Procedure}
use Rattle.def_meaning.specs.Written.{find_unit}
use Rattle.def_names.specs.Fault.{fault, faults_if}
use Rattle.def_names.specs.Standing.{Standing, in_act}
use Rattle.def_names.specs.Statements.{At, statements}
use Rattle.def_names.specs.Variables.{dummy_places, declared_places, statement_places, places, variables, is_dummy, is_scalar}
use Rattle.def_names.specs.NameFaults.{is_bad_extent, has_bad_extents, bad_extents}
use Rattle.def_names.specs.CallFaults.{faults_of_call}
use Rattle.def_names.proofs.Lists.{names_at}
use Rattle.def_meaning.specs.Apart.{has_name}
use Rattle.law_sweep.proofs.Variables.{variables_stand, dummy_among}
use Rattle.law_kernel.proofs.Faultless as faults
use Rattle.law_emitted.proofs.Lists.{Each, each_front, each_behind, each_append, none_each}
use Rattle.def_names.proofs.Faultless.{none_if}
use Rattle.law_emitted.proofs.Statements.{CallHasNone, call_of_unit}
use Rattle.law_emitted.proofs.Sources.{each_name, of_each}
use Rattle.law_limits.specs.Rule.{procedure_keeps}
use Rattle.law_limits.specs.Kept.{short_names}
use Rattle.law_limits.proofs.Reserved.{same_length}
use Rattle.law_limits.proofs.StandingShort.{S, IsCalledShort, Fine, ExtentFine, HasShort, of_unit}

module _ (n : ℕ) where
  abbrev AtPlace : At (List ℕ) → Type 0
  AtPlace p = length p.1 ≤ n

  at_line : (line : ℕ) (xs : List Standing) → Each AtPlace (map (λ s. (line, s.name)) xs) → faults.Each (S n) xs
  at_line line [] h = tt
  at_line line (s ∷ xs) h = (h.0, at_line line xs h.1)

  at_dummies : (line : ℕ) (ds : List (List ℕ)) → Each AtPlace (map (λ d. (line, d)) ds) → faults.Each (λ x. length x ≤ n) ds
  at_dummies line [] h = tt
  at_dummies line (d ∷ ds) h = (h.0, at_dummies line ds h.1)

  to_line : (line : ℕ) (xs : List Standing) → faults.Each (S n) xs → Each AtPlace (map (λ s. (line, s.name)) xs)
  to_line line [] h = tt
  to_line line (s ∷ xs) h = (h.0, to_line line xs h.1)

  to_dummies : (line : ℕ) (ds : List (List ℕ)) → faults.Each (λ x. length x ≤ n) ds → Each AtPlace (map (λ d. (line, d)) ds)
  to_dummies line [] h = tt
  to_dummies line (d ∷ ds) h = (h.0, to_dummies line ds h.1)

  to_declared : (ds : List Declaration) → faults.Each (λ d. length d.name ≤ n) ds → Each AtPlace (map (λ d. (d.line, d.name)) ds)
  to_declared [] h = tt
  to_declared (d ∷ ds) h = (h.0, to_declared ds h.1)

  to_statements : (ss : List (At Act)) → faults.Each (λ (s : At Act). faults.Each (S n) (in_act s.1)) ss → Each AtPlace (flat_map (λ s. map (λ x. (s.0, x.name)) (in_act s.1)) ss)
  to_statements [] h = tt
  to_statements (s ∷ ss) h = each_append AtPlace (map (λ x. (s.0, x.name)) (in_act s.1)) (flat_map (λ s. map (λ x. (s.0, x.name)) (in_act s.1)) ss) (to_line s.0 (in_act s.1) h.0) (to_statements ss h.1)

  abbrev ShortName : List ℕ → Type 0
  ShortName x = length x ≤ n

  of_places : (ps : List (At (List ℕ))) → Each AtPlace ps → Each ShortName (names_at ps)
  of_places [] h = tt
  of_places (p ∷ ps) h = (h.0, of_places ps h.1)

  to_places : (ps : List (At (List ℕ))) → Each ShortName (names_at ps) → Each AtPlace ps
  to_places [] h = tt
  to_places (p ∷ ps) h = (h.0, to_places ps h.1)

  -- each variable of a unit that passes is short
  pub variable_short : (u : Procedure) → HasShort n u → (x : List ℕ) → has_name x (variables u) ≡ true → length x ≤ n
  variable_short u h x k =
      let all = each_append AtPlace (dummy_places u) (declared_places u ++ statement_places u) (to_dummies u.line u.dummies h.dummies) (each_append AtPlace (declared_places u) (statement_places u) (to_declared u.declarations h.declared) (to_statements (statements u.body) h.body)) in
      of_each ShortName (names_at (places u)) (of_places (places u) all) x (sym (variables_stand u x) ∙ k)

  -- ---- the other way

  module _ (qs : List Procedure) (units : Each (λ v. length v.name ≤ n) qs) where
    found_short : (us : List Procedure) → Each (λ v. length v.name ≤ n) us → (name : List ℕ) (v : Procedure) → find_unit us name ≡ Some v → length name ≤ n
    found_short [] h name v e = absurd cc
    found_short (u ∷ us) h name v e =
        elim (name_eq u.name name) as (λ b. name_eq u.name name ≡ b → (if b then Some u else find_unit us name) ≡ Some v → length name ≤ n) [
          | true ↦ λ g k. let same = same_length u.name name g in let le : length u.name ≤ n = h.0 in omega arith
          | false ↦ λ g k. found_short us h.1 name v k
        ] refl e

    called_short : (u : Procedure) (s : At Act) → CallHasNone qs u s → IsCalledShort n s.1
    called_short u s h = go s.0 s.1 h
      where
        go : (line : ℕ) (a : Act) → faults_of_call qs u line a ≡ [] → IsCalledShort n a
        go line (assign x e r) h = tt
        go line (choose c a b) h = tt
        go line (loop x a b c body m) h = tt
        go line (during c body) h = tt
        go line (call name args) h = let c = call_of_unit qs u line name args h in found_short qs units name c.unit c.found
        go line (runtime r) h = tt

    module _ (u : Procedure) (known : (x : List ℕ) → has_name x (variables u) ≡ true → length x ≤ n) where
      dummy_short : (x : List ℕ) → is_dummy u x ≡ true → length x ≤ n
      dummy_short x h = known x (dummy_among u x h)

      extents_short : (es : List Extent) → list_any (is_bad_extent u) es ≡ false → faults.Each (ExtentFine n) es
      extents_short [] h = tt
      extents_short (fixed z ∷ es) h = (tt, extents_short es (or_parts (is_bad_extent u (fixed z)) (list_any (is_bad_extent u) es) h).1)
      extents_short (given x ∷ es) h =
          let p = or_parts (is_bad_extent u (given x)) (list_any (is_bad_extent u) es) h in
          (dummy_short x (and_parts (is_dummy u x) (is_scalar u x) (not-false (is_dummy u x && is_scalar u x) p.0)).0, extents_short es p.1)

      declarations_short : (ds : List Declaration) → Each AtPlace (map (λ d. (d.line, d.name)) ds) → Each (λ d. faults_if (has_bad_extents u d) (fault 12 d.line) ≡ []) ds → faults.Each (λ d. (length d.name ≤ n) × faults.Each (ExtentFine n) d.extents) ds
      declarations_short [] h e = tt
      declarations_short (d ∷ ds) h e =
          let good : has_bad_extents u d ≡ false = none_if (has_bad_extents u d) (fault 12 d.line) e.0 in
          ((h.0, extents_short d.extents (or_parts (list_any (is_bad_extent u) d.extents) _ good).0), declarations_short ds h.1 e.1)

      statements_short : (ss : List (At Act)) → Each AtPlace (flat_map (λ s. map (λ x. (s.0, x.name)) (in_act s.1)) ss) → Each (CallHasNone qs u) ss → faults.Each (Fine n) ss
      statements_short [] h c = tt
      statements_short (s ∷ ss) h c =
          let own = map (λ x. (s.0, x.name)) (in_act s.1) in
          let rest = flat_map (λ s. map (λ x. (s.0, x.name)) (in_act s.1)) ss in
          ((at_line s.0 (in_act s.1) (each_front AtPlace own rest h), called_short u s c.0), statements_short ss (each_behind AtPlace own rest h) c.1)

      -- a unit without faults of names and calls passes where its name and its variables are short
      pub unit_passes : length u.name ≤ n → bad_extents u ≡ [] → Each (CallHasNone qs u) (statements u.body) → procedure_keeps (short_names n) u ≡ true
      unit_passes name extents calls =
          let all : Each AtPlace (places u) = to_places (places u) (each_name ShortName (names_at (places u)) (λ x k. known x (variables_stand u x ∙ k))) in
          let behind = each_behind AtPlace (dummy_places u) (declared_places u ++ statement_places u) all in
          of_unit n u name (at_dummies u.line u.dummies (each_front AtPlace (dummy_places u) (declared_places u ++ statement_places u) all))
          (declarations_short u.declarations (each_front AtPlace (declared_places u) (statement_places u) behind) (none_each (λ d. faults_if (has_bad_extents u d) (fault 12 d.line)) u.declarations extents))
          (statements_short (statements u.body) (each_behind AtPlace (declared_places u) (statement_places u) behind) calls)
