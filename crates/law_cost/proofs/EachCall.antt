-- Lists each of whose calls is of a unit with some property, and how deep calls go, where a marked DO counts for nothing.
use Rattle.std.proofs.Common.{◌≡◌, ◌≤◌, ℕ, suc, List, subst, arith}
use Rattle.std.specs.Prelude.{max, Bool, Some, IsTrue}
use Rattle.adj_tree.specs.Code.{Act, assign, choose, loop, during, call, runtime, Code, stop, step, Procedure}
use Rattle.def_meaning.specs.Written.{find_unit}
use Rattle.law_meaning.specs.Common.{CallsInside', CallsInside}
use Rattle.def_adjoint.specs.Calls.{act_chain, code_chain, chain_of, units_within}

abbrev mutual
  pub EachCall' : (List ℕ → Type 0) → Act → Type 0
  EachCall' called (assign x subs e) = Unit {0}
  EachCall' called (choose c a b) = EachCall called a × EachCall called b
  EachCall' called (loop x a b c body m) = EachCall called body
  EachCall' called (during c body) = EachCall called body
  EachCall' called (call name args) = called name
  EachCall' called (runtime r) = Unit {0}

  pub EachCall : (List ℕ → Type 0) → Code → Type 0
  EachCall called stop = Unit {0}
  EachCall called (step line a rest) = EachCall' called a × EachCall called rest

-- these units are inside
module _ (called : List ℕ → Type 0) (inside : List ℕ → Bool) (within : (name : List ℕ) → called name → IsTrue (inside name)) where
  mutual
    act_inside : (a : Act) → EachCall' called a → CallsInside' inside a
    act_inside (assign x subs e) h = tt
    act_inside (choose c a b) h = (each_inside a h.0, each_inside b h.1)
    act_inside (loop x a b c body m) h = each_inside body h
    act_inside (during c body) h = each_inside body h
    act_inside (call name args) h = within name h
    act_inside (runtime i) h = tt

    pub each_inside : (c : Code) → EachCall called c → CallsInside inside c
    each_inside stop h = tt
    each_inside (step line a rest) h = (act_inside a h.0, each_inside rest h.1)

-- a unit inside from which no chain has more than so many units
abbrev pub IsWithin : (List ℕ → Bool) → List Procedure → ℕ → List ℕ → Type 0
IsWithin inside ps r name = IsTrue (inside name) × ((k : ℕ) → units_within ps k name ≤ r)

module _ (inside : List ℕ → Bool) (ps : List Procedure) (r : ℕ) where
  less_first : (a b : ℕ) → max a b ≤ r → a ≤ r
  less_first a b h = omega (arith, h)

  less_other : (a b : ℕ) → max a b ≤ r → b ≤ r
  less_other a b h = omega (arith, h)

  mutual
    act_within : (a : Act) → CallsInside' inside a → ((k : ℕ) → act_chain (units_within ps k) a ≤ r) → EachCall' (IsWithin inside ps r) a
    act_within (assign x subs e) h c = tt
    act_within (choose t a b) h c = (each_within a h.0 (λ k. less_first (code_chain (units_within ps k) a) (code_chain (units_within ps k) b) (c k)), each_within b h.1 (λ k. less_other (code_chain (units_within ps k) a) (code_chain (units_within ps k) b) (c k)))
    act_within (loop x first last by body m) h c = each_within body h c
    act_within (during t body) h c = each_within body h c
    act_within (call name args) h c = (h, c)
    act_within (runtime i) h c = tt

    pub each_within : (b : Code) → CallsInside inside b → ((k : ℕ) → code_chain (units_within ps k) b ≤ r) → EachCall (IsWithin inside ps r) b
    each_within stop h c = tt
    each_within (step line a rest) h c = (act_within a h.0 (λ k. less_first (act_chain (units_within ps k) a) (code_chain (units_within ps k) rest) (c k)), each_within rest h.1 (λ k. less_other (act_chain (units_within ps k) a) (code_chain (units_within ps k) rest) (c k)))

  -- from a unit one chain of which has at most one more
  pub unit_within : (name : List ℕ) (u : Procedure) → find_unit ps name ≡ Some u → CallsInside inside u.body → ((k : ℕ) → units_within ps k name ≤ suc r) → EachCall (IsWithin inside ps r) u.body
  unit_within name u found h c = each_within u.body h (λ k. let l : suc (code_chain (units_within ps k) u.body) ≤ suc r = subst (λ o. chain_of (units_within ps k) o ≤ suc r) found (c (suc k)) in omega (arith, l))

-- no chain from a unit that is there is without units
pub some_chain : (ps : List Procedure) (name : List ℕ) (u : Procedure) → find_unit ps name ≡ Some u → ((k : ℕ) → units_within ps k name ≤ 0) → ⊥
some_chain ps name u found c = let l : suc (code_chain (units_within ps 0) u.body) ≤ 0 = subst (λ o. chain_of (units_within ps 0) o ≤ 0) found (c 1) in omega (arith, l)
