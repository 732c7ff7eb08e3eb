-- Locals of a unit, and their declarations.
use Rattle.std.proofs.Common.{◌≡◌, ℕ, zero, suc, ◌+◌, List, [], ◌∷◌, ◌++◌, map, refl, sym, ap, ◌∙◌, append_assoc, add-one}
use Rattle.std.specs.Prelude.{◌||◌}
use Rattle.std.proofs.lemmas.List.{map_push}
use Rattle.adj_tree.specs.Code.{Var, plain, shadow, helper, Declaration, Procedure}
use Rattle.adj_tree.specs.View.{extent_of, declaration_of}
use Rattle.adj_tree.specs.declared.unit.Decl.{Decl}
use Rattle.def_meaning.specs.Apart.{has_name}
use Rattle.def_names.specs.Fresh.{fresh}
use Rattle.def_names.specs.Reserved.{reserved}
use Rattle.def_kernel.specs.Kernel.{unit_name, names_of, wanted_local, local_names, local_of, scalar_at, taken_in}
use Rattle.adj_sets.specs.Sets.{all_added}
use Rattle.adj_sets.proofs.NameSets.{has-behind}
use Rattle.adj_naming.proofs.Added.{SameNames, or_comm, once_same, fresh_alike}

-- ---- lists with the same names

module _ (xs ys : List (List ℕ)) (same : SameNames xs ys) where
  same_behind : (zs : List (List ℕ)) → SameNames (xs ++ zs) (ys ++ zs)
  same_behind zs = record { at = λ x. has-behind x xs zs ∙ ap (λ b. b || has_name x zs) (same.at x) ∙ sym (has-behind x ys zs) }

  -- they leave the same names to locals
  one_alike : (k : ℕ) → local_names xs k ≡ local_names ys k → fresh (wanted_local k) (xs ++ local_names xs k) ≡ fresh (wanted_local k) (ys ++ local_names ys k)
  one_alike k same_names = fresh_alike (wanted_local k) (xs ++ local_names xs k) (ys ++ local_names xs k) (same_behind (local_names xs k)) ∙ ap (λ z. fresh (wanted_local k) (ys ++ z)) same_names

  pub local_names_alike : (k : ℕ) → local_names xs k ≡ local_names ys k
  local_names_alike zero = refl
  local_names_alike (suc k) = let ih = local_names_alike k in λ i. ih i ++ (one_alike k ih i ∷ [])

  local_name_alike : (k : ℕ) → fresh (wanted_local k) (xs ++ local_names xs k) ≡ fresh (wanted_local k) (ys ++ local_names ys k)
  local_name_alike k = one_alike k (local_names_alike k)

  pub locals_alike : local_of xs ≡ local_of ys
  locals_alike = λ i k. plain (local_name_alike k i)

-- what is known to be taken are the names that a local may not have
pub taken_alike : (units : List Procedure) (u : Procedure) (shared variables : List (List ℕ)) → shared ≡ all_added [] (map unit_name units ++ reserved) → variables ≡ all_added [] (names_of u) → SameNames (shared ++ all_added [] variables) (taken_in units u)
taken_alike units u shared variables h v =
    let others = map unit_name units ++ reserved in
    record {
      at = λ x.
          has-behind x shared (all_added [] variables)
          ∙ (λ i. (ap (has_name x) h ∙ (once_same others).at x) i || ((once_same variables).at x ∙ ap (has_name x) v ∙ (once_same (names_of u)).at x) i)
          ∙ or_comm (has_name x others) (has_name x (names_of u)) ∙ sym (has-behind x (names_of u) others);
    }

-- ---- declarations

-- the name of a variable of the text
text_of : Var → List ℕ
text_of (plain x) = x
text_of (shadow x) = x
text_of (helper r k) = []

-- one more local is declared
pub local_declared : (made longer : List Decl) (d : Decl) (before : List Declaration) (line number : ℕ) (taken : List (List ℕ)) (local : ℕ → Var) → longer ≡ made ++ d ∷ [] → d.line ≡ line → plain d.name ≡ local number → local ≡ local_of taken → d.extents ≡ [] → map declaration_of made ≡ before ++ map (scalar_at line) (local_names taken number) → map declaration_of longer ≡ before ++ map (scalar_at line) (local_names taken (number + 1))
unfolding text_of
local_declared made longer d before line number taken local h hl hn same he inv =
    let name : d.name ≡ fresh (wanted_local number) (taken ++ local_names taken number) = ap text_of (hn ∙ (λ i. same i number)) in
    let declared : declaration_of d ≡ scalar_at line (fresh (wanted_local number) (taken ++ local_names taken number)) = λ i. record { line = hl i; name = name i; extents = map extent_of (he i) } in
    ap (map declaration_of) h ∙ map_push declaration_of made d ∙ (λ i. inv i ++ declared i ∷ [])
    ∙ append_assoc before (map (scalar_at line) (local_names taken number)) (scalar_at line (fresh (wanted_local number) (taken ++ local_names taken number)) ∷ [])
    ∙ ap (λ z. before ++ z) (sym (map_push (scalar_at line) (local_names taken number) (fresh (wanted_local number) (taken ++ local_names taken number))))
    ∙ ap (λ n. before ++ map (scalar_at line) (local_names taken n)) (sym (add-one number))
