-- A look by number, and what is left of a list.
use Rattle.std.proofs.Common.{◌≡◌, ℕ, suc, ◌+◌, ◌<◌, ◌≤◌, nat_lt, true, false, List, map, length, get_or, drop, Bor, refl, sym, ap, ◌∙◌, Option, Some, None, IfSome, MatchOption, arith}
use Rattle.std.specs.Prelude.{is_some}
use Rattle.std.specs.List.{slice_get}
use Rattle.std.specs.Option.{option_map}
use Rattle.std.proofs.lemmas.Bool.Decides.{nat_tests}
use Rattle.std.proofs.lemmas.List.{drop_more}
use Rattle.std.proofs.lemmas.Option.{slice_get_past, slice_get_read, slice_get-map}

-- what a look by number gives
pub found_by : {X Y : Type 0} (view : X → Y) (xs : List X) (n : ℕ) (r : Option (Bor X)) (f : Option Y) → is_some r ≡ nat_lt n (length xs) → IfSome r (λ x. x.now ≡ get_or xs n x.now) → slice_get (map view xs) n ≡ f → MatchOption r (f ≡ None) (λ o. f ≡ Some (view o.now))
found_by view xs n None f e h g = sym g ∙ slice_get-map view xs n ∙ ap (option_map view) (slice_get_past xs n (past n (length xs) e))
  where
    past : (a b : ℕ) → false ≡ nat_lt a b → b ≤ a
    past a b e = grind (arith, nat_tests)
found_by view xs n (Some b) f e h g = sym g ∙ slice_get-map view xs n ∙ ap (option_map view) (slice_get_read xs (length xs) n b.now refl (within n (length xs) e) h)
  where
    within : (a b : ℕ) → true ≡ nat_lt a b → a < b
    within a b e = grind (arith, nat_tests)

-- one member fewer is left
pub left_length : {X : Type 0} (xs : List X) (i : ℕ) (x : X) → i < length xs → length (drop i xs) ≡ suc (length (drop (i + 1) xs))
left_length xs i x lt = ap length (drop_more xs i x lt)
