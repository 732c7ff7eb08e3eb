-- How long the names of made units are.
use Rattle.std.proofs.Common.{◌≡◌, ◌≤◌, ℕ, zero, suc, ◌+◌, ◌*◌, true, false, List, [], ◌∷◌, ◌++◌, length, map, flat_map, refl, sym, subst, ◌∙◌, arith, inl, inr, append_assoc, length-append, codes, if◌then◌else◌}
use Rattle.std.proofs.lemmas.Bool.{or_cases, cases_lt}
use Rattle.std.proofs.lemmas.List.{append-nil}
use Rattle.adj_tree.specs.Code.{name_eq, Procedure}
use Rattle.def_names.specs.Variables.{variables}
use Rattle.def_meaning.specs.Apart.{has_name}
use Rattle.def_names.specs.Fresh.{digits, candidate, fresh}
use Rattle.def_sweep.specs.Declared.{unit_name}
use Rattle.def_names.proofs.NameLists.{has-append}
use Rattle.def_kernel.specs.Kernel.{EachUnit}
use Rattle.def_sweep.specs.Names.{source_names, named_after, named_list, taken_forth}
use Rattle.law_emitted.proofs.Lists.{Each, each_append}
use Rattle.law_emitted.proofs.Sources.{of_each}
use Rattle.law_emitted.proofs.Makings.{Making, as_adjoint, as_forth, as_back, its_name}
use Rattle.law_limits.specs.Lengths.{AreShort}
use Rattle.law_limits.proofs.FreshLengths.{fresh_short}

-- a candidate is as long as the wanted name at least
candidate_longer : (b : List ℕ) (j : ℕ) → length b ≤ length (candidate b j)
candidate_longer b zero = omega arith
candidate_longer b (suc j) = let all = length-append b (codes "_" ++ digits (suc j)) in omega arith

abbrev Within : List ℕ → Type 0
Within x = length x ≤ 46

variables_within : (xs : List (List ℕ)) → AreShort 40 xs → Each Within xs
variables_within [] h = tt
variables_within (x ∷ xs) h = let le : length x ≤ 40 = h.0 in (omega arith, variables_within xs h.1)

units_within : (ps : List Procedure) → EachUnit (λ u. length u.name ≤ 46) ps → Each Within (map unit_name ps)
units_within [] h = tt
units_within (u ∷ us) h = (h.0, units_within us h.1)

all_within : (ps : List Procedure) → EachUnit (λ u. AreShort 40 (variables u)) ps → Each Within (flat_map variables ps)
all_within [] h = tt
all_within (u ∷ us) h = each_append Within (variables u) (flat_map variables us) (variables_within (variables u) h.0) (all_within us h.1)

units_length : (ps : List Procedure) → length (map unit_name ps) ≡ length ps
units_length [] = refl
units_length (u ∷ us) = let rest = units_length us in omega arith

variables_length : (ps : List Procedure) → EachUnit (λ u. length (variables u) ≤ 1073741823) ps → length (flat_map variables ps) ≤ 1073741823 * length ps
variables_length [] h = omega arith
variables_length (u ∷ us) h =
    let rest = variables_length us h.1 in
    let all = length-append (variables u) (flat_map variables us) in
    let few : length (variables u) ≤ 1073741823 = h.0 in
    omega arith

module _ (ps : List Procedure) (few : length ps ≤ 402000) (names : EachUnit (λ u. length u.name ≤ 46) ps) (short : EachUnit (λ u. AreShort 40 (variables u)) ps) (known : EachUnit (λ u. length (variables u) ≤ 1073741823) ps) where
  source_within : Each Within (source_names ps)
  source_within = each_append Within (map unit_name ps) (flat_map variables ps) (units_within ps names) (all_within ps short)

  -- where so many characters are put behind the names of units
  module _ (ending : List ℕ) (four : length ending ≤ 4) where
    made_short : (made : List (List ℕ)) → length made ≤ 1206000 → (name : List ℕ) → length name ≤ 46 → length (fresh (name ++ ending) (source_names ps ++ made)) ≤ 63
    made_short made less name le =
        let b = name ++ ending in
        let wanted = length-append name ending in
        let all = length-append (source_names ps) made in
        let source = length-append (map unit_name ps) (flat_map variables ps) in
        let units = units_length ps in
        let vars = variables_length ps known in
        elim (cases_lt 46 (length b)) [
          | inl lt ↦
              let f = fresh_short 6 b made (source_names ps ++ made) (λ j e.
              elim (or_cases (has_name (candidate b j) (source_names ps)) (has_name (candidate b j) made) (sym (has-append (candidate b j) (source_names ps) made) ∙ e)) [
                | inl g ↦ let within : length (candidate b j) ≤ 46 = of_each Within (source_names ps) source_within (candidate b j) g in let longer = candidate_longer b j in absurd (omega arith)
                | inr g ↦ g
              ]) (omega arith) in
              omega arith
          | inr ge ↦ let f = fresh_short 14 b (source_names ps ++ made) (source_names ps ++ made) (λ j e. e) (omega arith) in omega arith
        ]

    after_short : (made : List (List ℕ)) (us : List Procedure) (name : List ℕ) → length made + length us ≤ 1206000 → EachUnit (λ u. length u.name ≤ 46) us → length (named_after ending (source_names ps ++ made) us name) ≤ 63
    after_short made [] name le h = omega arith
    after_short made (u ∷ us) name le h =
        let x = fresh (u.name ++ ending) (source_names ps ++ made) in
        let here = made_short made (omega arith) u.name h.0 in
        let all = length-append made (x ∷ []) in
        let P : List (List ℕ) → Type 0 = λ taken. length (named_after ending taken us name) ≤ 63 in
        let rest : length (named_after ending ((source_names ps ++ made) ++ x ∷ []) us name) ≤ 63 = subst P (sym (append_assoc (source_names ps) made (x ∷ []))) (after_short (made ++ x ∷ []) us name (omega arith) h.1) in
        elim (name_eq u.name name) as (λ b. length (if b then x else named_after ending ((source_names ps ++ made) ++ x ∷ []) us name) ≤ 63) [ true ↦ here | false ↦ rest ]

    pub unit_name_short : (name : List ℕ) → length (named_after ending (source_names ps) ps name) ≤ 63
    unit_name_short name =
        let P : List (List ℕ) → Type 0 = λ taken. length (named_after ending taken ps name) ≤ 63 in
        subst P (append-nil (source_names ps)) (after_short [] ps name (omega arith) names)

  -- the names of the units that are made are so, where those of each kind are named behind those before it
  named_count : (ending : List ℕ) (taken : List (List ℕ)) (us : List Procedure) → length (named_list ending taken us) ≡ length us
  named_count ending taken [] = refl
  named_count ending taken (u ∷ us) = let rest = named_count ending (taken ++ (fresh (u.name ++ ending) taken ∷ [])) us in omega arith

  abbrev adjoints : List (List ℕ)
  adjoints = named_list (codes "_B") (source_names ps) ps

  abbrev forths : List (List ℕ)
  forths = named_list (codes "_FWD") (taken_forth ps) ps

  pub made_short_name : (u : Procedure) (k : Making) → length (its_name ps u k) ≤ 63
  made_short_name u (as_adjoint at_turn at_end) = unit_name_short (codes "_B") (omega arith) u.name
  made_short_name u as_forth = let a = named_count (codes "_B") (source_names ps) ps in after_short (codes "_FWD") (omega arith) adjoints ps u.name (omega arith) names
  made_short_name u as_back =
      let a = named_count (codes "_B") (source_names ps) ps in
      let b = named_count (codes "_FWD") (taken_forth ps) ps in
      let both = length-append adjoints forths in
      let P : List (List ℕ) → Type 0 = λ taken. length (named_after (codes "_BWD") taken ps u.name) ≤ 63 in
      subst P (sym (append_assoc (source_names ps) adjoints forths)) (after_short (codes "_BWD") (omega arith) (adjoints ++ forths) ps u.name (omega arith) names)
