-- Stores with their shadows and tangents, seen from the cells of the text's variables.
use Rattle.std.specs.Prelude.{◌≡◌, ℕ, ℤ, pos, List, ◌==◌, ◌&&◌, Bool, None}
use Rattle.adj_tree.specs.Code.{Var, plain, shadow, name_eq}
use Rattle.def_meaning.specs.Numbers.{words, duals}
use Rattle.def_meaning.specs.Store.{Shape, Store}
use Rattle.def_meaning.specs.Value.{Setting}

-- a cell of a variable of the text
abbrev pub Key : Type 0
Key = List ℕ × ℕ

abbrev pub key_eq : Key → Key → Bool
key_eq a b = name_eq a.0 b.0 && (a.1 == b.1)

-- a word for each cell of the text's variables, as their shadows or their tangents
abbrev pub Words : Type 0
Words = Key → ℤ

-- the shadows of a store, by the cells of their variables
abbrev pub shadows : Store ℤ → Words
shadows s x = s (shadow x.0) x.1

-- the tangent of a cell, where only those of the text's variables have one
abbrev pub tangent_at : Words → Var → ℕ → ℤ
tangent_at d (plain x) i = d (x, i)
tangent_at d _ i = pos 0

-- values and tangents side by side
abbrev pub with_tangents : Store ℤ → Words → Store (ℤ × ℤ)
with_tangents s d x i = (s x i, tangent_at d x i)

-- stores with the same values of the text's variables
pub record SamePlain (s s' : Store ℤ) : Type 0 where
  pub at : (x : List ℕ) (i : ℕ) → s' (plain x) i ≡ s (plain x) i

-- runs on words, and on words with tangents, with a tape that has no end
abbrev pub on_words : (Var → Shape) → ℕ → Setting ℤ
on_words sh level = record { numbers = words; shape = sh; room = None; level = level }

abbrev pub on_duals : (Var → Shape) → ℕ → Setting (ℤ × ℤ)
on_duals sh level = record { numbers = duals; shape = sh; room = None; level = level }

-- ---- straight code
