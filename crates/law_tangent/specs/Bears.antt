-- What the scene of a tangent's run holds of a scene of the dual run: the values in the text's variables, and the tangents in their shadows.
use Rattle.std.specs.Prelude.{◌≡◌, ◌<◌, ◌≤◌, ℕ, ℤ, pos, List, [], true, false}
use Rattle.adj_tree.specs.Code.{Var, plain, shadow}
use Rattle.adj_word.specs.Word.{wrap}
use Rattle.def_meaning.specs.Store.{Shape, size_of, Store}
use Rattle.def_meaning.specs.Scene.{Scene}
use Rattle.def_names.specs.Numbers.{Vars}
use Rattle.law_sweep.specs.Pairs.{Key, Words, SamePlain, with_tangents}

-- each is the residue of itself
abbrev pub AreWords : Words → Type 0
AreWords y = (k : Key) → wrap (y k) ≡ y k

-- only the variables of a set have a tangent in their cells
abbrev pub OnlyOn : (Var → Shape) → Vars → Words → Type 0
OnlyOn sh on y = (k : Key) → k.1 < size_of (sh (plain k.0)) → on (plain k.0) ≡ false → y k ≡ pos 0

-- the shadows are tangents, of the variables that carry one
abbrev pub HasTangents : Vars → Words → Store ℤ → Type 0
HasTangents on y s = (x : List ℕ) (i : ℕ) → on (plain x) ≡ true → s (shadow x) i ≡ y (x, i)

-- the store s has the values u and the tangents y of what carries one; no other variable than those in a set has a tangent
pub record Bears (sh : Var → Shape) (on varied : Vars) (u : Store ℤ) (y : Words) (s : Store ℤ) : Type 0 where
  pub plains : SamePlain u s
  pub tangents : HasTangents on y s
  pub words : AreWords y
  pub others : OnlyOn sh varied y
  -- and no cell outside of its variable
  pub outside : (k : Key) → size_of (sh (plain k.0)) ≤ k.1 → y k ≡ pos 0

-- both tapes are empty: no statement of a kernel pushes anything
abbrev pub NoTapes : List (ℤ × ℤ) → List ℤ → Type 0
NoTapes t s = (t ≡ []) × (s ≡ [])

-- the same of a scene d of the dual run and a scene s of the tangent's run on words
pub record SceneBears (sh : Var → Shape) (on varied : Vars) (d : Scene (ℤ × ℤ)) (s : Scene ℤ) : Type 0 where
  pub values : Store ℤ
  pub tangents : Words
  pub is : d.store ≡ with_tangents values tangents
  pub bears : Bears sh on varied values tangents s.store
  pub opened : s.opened ≡ d.opened
  pub tape : NoTapes d.tape s.tape
