-- Names with a mark, dummy by dummy.
use Rattle.std.proofs.Common.{◌≡◌, ℕ, zero, suc, ◌+◌, ◌<◌, Bool, true, false, List, [], ◌∷◌, ◌++◌, length, get_or, drop, drop-cons, add-one, append_assoc, refl, sym, ap, ◌∙◌, arith, if◌then◌else◌}
use Rattle.std.specs.Prelude.{◌||◌}
use Rattle.def_meaning.specs.Apart.{has_name}
use Rattle.adj_sets.proofs.NameSets.{has-behind}
use Rattle.adj_data.specs.Marked.{marked_names}
use Rattle.adj_data.proofs.Declarations.{from_here}
use Rattle.adj_data.proofs.Entering.{stands_more}

-- within a list it doesn't matter what stands for a member that isn't there
get_or_any : {A : Type 0} (xs : List A) (i : ℕ) (a b : A) → i < length xs → get_or xs i a ≡ get_or xs i b
get_or_any [] i a b lt = absurd (omega arith)
get_or_any (x ∷ xs) zero a b lt = refl
get_or_any (x ∷ xs) (suc i) a b lt = get_or_any xs i a b (omega arith)

-- names that are told apart from others by what they add, behind some more
behind : (x : List ℕ) (one other rest : List (List ℕ)) → has_name x one ≡ has_name x other → has_name x (one ++ rest) ≡ has_name x (other ++ rest)
behind x one other rest h = has-behind x one rest ∙ ap (λ b. b || has_name x rest) h ∙ sym (has-behind x other rest)

module _ (mark : List ℕ) (names : List (List ℕ)) (flags : List Bool) (i : ℕ) (in_names : i < length names) (in_flags : i < length flags) where
  abbrev rest : List (List ℕ)
  rest = marked_names mark (drop (i + 1) names) (drop (i + 1) flags)

  flags_here : drop i flags ≡ get_or flags i false ∷ drop (i + 1) flags
  flags_here = drop-cons flags i false in_flags ∙ (λ j. get_or flags i false ∷ drop (sym (add-one i) j) flags)

  left : (d : List ℕ) → d ≡ get_or names i d → marked_names mark (drop i names) (drop i flags) ≡ (if get_or flags i false then (d ++ mark) ∷ rest else rest)
  left d is = λ k. marked_names mark (from_here names i d in_names is k) (flags_here k)

  -- a dummy that isn't flagged is passed
  pub mark_passed : get_or flags i false ≡ false → (x : List ℕ) (set : List (List ℕ)) → has_name x (set ++ rest) ≡ has_name x (set ++ marked_names mark (drop i names) (drop i flags))
  mark_passed e x set =
      let d = get_or names i [] in
      ap (λ l. has_name x (set ++ l)) (sym (left d (same_there names in_names) ∙ ap (λ b. if b then (d ++ mark) ∷ rest else rest) e))
    where
      same_there : (xs : List (List ℕ)) → i < length xs → get_or xs i [] ≡ get_or xs i (get_or xs i [])
      same_there xs lt = get_or_any xs i [] (get_or xs i []) lt

  -- the name of one that is flagged is added
  pub mark_added : get_or flags i false ≡ true → (d : List ℕ) → d ≡ get_or names i d → (x : List ℕ) (set new : List (List ℕ)) → new ≡ (if has_name (d ++ mark) set then set else set ++ (d ++ mark) ∷ []) →
      has_name x (new ++ rest) ≡ has_name x (set ++ marked_names mark (drop i names) (drop i flags))
  mark_added e d is x set new h =
      behind x new (set ++ ((d ++ mark) ∷ [])) rest (ap (has_name x) h ∙ stands_more x (d ++ mark) set set (λ z. refl)) ∙ ap (has_name x) (append_assoc set ((d ++ mark) ∷ []) rest)
      ∙ ap (λ l. has_name x (set ++ l)) (sym (left d is ∙ ap (λ b. if b then (d ++ mark) ∷ rest else rest) e))
