-- The number of the unit of a name, looked for from the first unit on.
use Rattle.std.proofs.Common.{arith, ◌≡◌, ℕ, suc, ◌+◌, ◌<◌, ◌≤◌, Bool, true, false, List, ◌∷◌, map, length, drop, get_or, refl, sym, ap, ◌∙◌}
use Rattle.std.specs.Prelude.{if◌then◌else◌}
use Rattle.std.proofs.lemmas.List.{drop_more}
use Rattle.std.proofs.Math.ListN.{drop_of_length-le}
use Rattle.adj_tree.specs.Code.{name_eq}
use Rattle.adj_tree.specs.View.{procedure_of}
use Rattle.adj_tree.specs.declared.unit.Unit.{Unit as Units}
use Rattle.adj_tree.proofs.Names.{name_refl, name_same}
use Rattle.def_names.specs.HeadFaults.{unit_number}

module _ (us : List Units) (name : List ℕ) where
  abbrev number_from : ℕ → ℕ
  number_from k = unit_number (map procedure_of (drop k us)) name

  -- what stands there is the first of what is left
  there : (k : ℕ) (u : Units) → k < length us → u ≡ get_or us k u → number_from k ≡ unit_number (procedure_of u ∷ map procedure_of (drop (k + 1) us)) name
  there k u lt at = ap (λ l. unit_number (map procedure_of l) name) (drop_more us k u lt) ∙ ap (λ v. unit_number (procedure_of v ∷ map procedure_of (drop (k + 1) us)) name) (sym at)

  -- a unit of another name is passed
  pub passed : (k : ℕ) (u : Units) → k < length us → u ≡ get_or us k u → (u.name ≡ name → false ≡ true) → (k + 1) + number_from (k + 1) ≡ k + number_from k
  passed k u lt at other = go (name_eq u.name name) refl
    where
      go : (b : Bool) → name_eq u.name name ≡ b → (k + 1) + number_from (k + 1) ≡ k + number_from k
      go true e = let no : false ≡ true = other (name_same u.name name e) in absurd cc
      go false e = let h : number_from k ≡ suc (number_from (k + 1)) = there k u lt at ∙ ap (λ b. if b then 0 else suc (number_from (k + 1))) e in omega (arith, h)

  -- a unit of the name is found
  pub found : (k : ℕ) (u : Units) → k < length us → u ≡ get_or us k u → u.name ≡ name → k ≡ k + number_from k
  found k u lt at same =
      let e : name_eq u.name name ≡ true = ap (λ z. name_eq u.name z) (sym same) ∙ name_refl u.name in
      let h : number_from k ≡ 0 = there k u lt at ∙ ap (λ b. if b then 0 else suc (number_from (k + 1))) e in
      omega (arith, h)

  -- all were passed
  pub none : (k : ℕ) → length us ≤ k → k ≡ k + number_from k
  none k past = let h : number_from k ≡ 0 = ap (λ l. unit_number (map procedure_of l) name) (drop_of_length-le us past) in omega (arith, h)
