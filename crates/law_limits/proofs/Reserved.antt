-- The names that the language has itself are short.
use Rattle.std.proofs.Common.{◌≡◌, ◌≤◌, ℕ, Bool, true, false, List, [], ◌∷◌, length, Option, Some, None, refl, arith}
use Rattle.std.specs.Prelude.{codes, ◌||◌, ◌==◌, if◌then◌else◌}
use Rattle.std.proofs.lemmas.Bool.{le-leb, and_parts}
use Rattle.adj_tree.specs.Code.{name_eq, Op, greater, lesser, modulo}
use Rattle.def_text.specs.Grammar.{is_absolute, operation_of}
use Rattle.law_limits.specs.Kept.{is_short}

pub same_length : (x y : List ℕ) → name_eq x y ≡ true → length x ≡ length y
same_length [] [] h = refl
same_length [] (b ∷ ys) h = absurd cc
same_length (a ∷ xs) [] h = absurd cc
same_length (a ∷ xs) (b ∷ ys) h = let rest = same_length xs ys (and_parts (a == b) (name_eq xs ys) h).1 in omega arith

-- a name that is one of at most 17 characters
pub named_short : (n : ℕ) → 17 ≤ n → (x w : List ℕ) → length w ≤ 17 → name_eq x w ≡ true → is_short n x ≡ true
named_short n wide x w le h = let same = same_length x w h in le-leb (length x) n (omega arith)

either : (a b : Bool) (P : Type 0) → (a ≡ true → P) → (b ≡ true → P) → (a || b) ≡ true → P
either true b P f g h = f refl
either false b P f g h = g h

pub absolute_short : (n : ℕ) → 17 ≤ n → (x : List ℕ) → is_absolute x ≡ true → is_short n x ≡ true
absolute_short n wide x h = either (name_eq x (codes "ABS")) (name_eq x (codes "IABS")) _ (named_short n wide x (codes "ABS") (omega arith)) (named_short n wide x (codes "IABS") (omega arith)) h

some_if : (b : Bool) (op k : Op) (o : Option Op) (P : Type 0) → (b ≡ true → P) → (o ≡ Some k → P) → (if b then Some op else o) ≡ Some k → P
some_if true op k o P f g h = f refl
some_if false op k o P f g h = g h

pub operation_short : (n : ℕ) → 17 ≤ n → (x : List ℕ) (op : Op) → operation_of x ≡ Some op → is_short n x ≡ true
operation_short n wide x op h =
    some_if (name_eq x (codes "MAX") || name_eq x (codes "MAX0")) greater op _ _ (either (name_eq x (codes "MAX")) (name_eq x (codes "MAX0")) _ (named_short n wide x (codes "MAX") (omega arith)) (named_short n wide x (codes "MAX0") (omega arith)))
    (some_if (name_eq x (codes "MIN") || name_eq x (codes "MIN0")) lesser op _ _ (either (name_eq x (codes "MIN")) (name_eq x (codes "MIN0")) _ (named_short n wide x (codes "MIN") (omega arith)) (named_short n wide x (codes "MIN0") (omega arith)))
    (some_if (name_eq x (codes "MOD")) modulo op None _ (named_short n wide x (codes "MOD") (omega arith)) (λ e. absurd cc)))
    h
