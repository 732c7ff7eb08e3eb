-- Names added one list after another.
use Rattle.std.proofs.Common.{◌≡◌, ℕ, Bool, true, false, List, [], ◌∷◌, ◌++◌, refl, ap, ◌∙◌, if◌then◌else◌}
use Rattle.def_meaning.specs.Apart.{has_name}
use Rattle.adj_sets.specs.Sets.{with_added, all_added}
use Rattle.std.specs.Prelude.{◌||◌}
use Rattle.adj_tree.specs.Code.{name_eq}
use Rattle.adj_sets.proofs.NameSets.{with_added_is}
use Rattle.adj_naming.proofs.Added.{all_added-append, has-all_added, added_new}

-- the names of one list and then those of another
pub added_both : (xs ys zs : List (List ℕ)) → all_added xs (ys ++ zs) ≡ all_added (all_added xs ys) zs
added_both xs ys zs = all_added-append xs ys zs

-- and then those of a third
pub added_three : (ws xs ys zs : List (List ℕ)) → all_added ws (xs ++ (ys ++ zs)) ≡ all_added (all_added (all_added ws xs) ys) zs
added_three ws xs ys zs = all_added-append ws xs (ys ++ zs) ∙ all_added-append (all_added ws xs) ys zs

-- a name that is there isn't added
pub added_there : (x : List ℕ) (xs : List (List ℕ)) → has_name x xs ≡ true → with_added x xs ≡ xs
added_there x xs h = with_added_is x xs ∙ ap (λ b. if b then xs else xs ++ x ∷ []) h

-- another one is
pub added_behind : (x : List ℕ) (xs : List (List ℕ)) → has_name x xs ≡ false → with_added x xs ≡ xs ++ x ∷ []
added_behind x xs h = added_new x xs h

or_none : (a : Bool) → (a || false) ≡ a
or_none true = refl
or_none false = refl

-- a name is there where it was, or is the one that was added
pub has_added : (x y : List ℕ) (xs : List (List ℕ)) → has_name x (with_added y xs) ≡ (has_name x xs || name_eq x y)
has_added x y xs = has-all_added x xs (y ∷ []) ∙ ap (λ b. has_name x xs || b) (or_none (name_eq x y))
