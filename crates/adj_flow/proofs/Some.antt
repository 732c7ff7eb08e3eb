-- More beginnings give more.
use Rattle.std.proofs.Common.{◌≡◌, ℕ, Bool, true, false, List, refl, Option, Some, None, if◌then◌else◌}
use Rattle.std.specs.Prelude.{is_some, ◌||◌}
use Rattle.std.specs.Option.{option_or}
use Rattle.adj_tree.specs.Code.{name_eq}
use Rattle.adj_symbols_writes.specs.Table.{value_of, with_value}
use Rattle.adj_symbols_writes.proofs.Numbers.{numbers_more}

-- one name more
pub some_more : (x : List ℕ) (es made : List (List ℕ × ℕ)) (y : List ℕ) (n : ℕ) → made ≡ with_value es y n → is_some (value_of x made) ≡ (is_some (value_of x es) || name_eq x y)
some_more x es made y n m = go (value_of x made) (value_of x es) (name_eq x y) (numbers_more x es made None y n m)
  where
    go : (a b : Option ℕ) (t : Bool) → option_or a None ≡ option_or b (if t then Some n else None) → is_some a ≡ (is_some b || t)
    go None None true e = absurd cc
    go None None false e = refl
    go None (Some k) t e = absurd cc
    go (Some j) None true e = refl
    go (Some j) None false e = absurd cc
    go (Some j) (Some k) t e = refl
