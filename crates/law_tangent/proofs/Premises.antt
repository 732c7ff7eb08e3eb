-- The product meets what the law on units asks, and so does a program with a call.
use Rattle.std.proofs.Common.{◌≡◌, ◌≤◌, ℕ, Bool, true, false, List, [], ◌∷◌, refl, subst, arith, if◌then◌else◌, codes}
use Rattle.std.specs.Prelude.{◌||◌, not, Some}
use Rattle.adj_tree.specs.Code.{plain, shadow, helper, name_eq, bin, times, var, none, Extent}
use Rattle.def_meaning.specs.Written.{find_unit}
use Rattle.def_meaning.specs.Units.{declared}
use Rattle.def_meaning.specs.Read.{reads_term}
use Rattle.def_names.specs.Numbers.{Vars, everything}
use Rattle.def_meaning.specs.Apart.{has_name}
use Rattle.def_names.proofs.Variables.{and_true}
use Rattle.law_sweep.specs.Kernel.{AllText, AssignmentFits}
use Rattle.law_tangent.specs.Laws.{WayFlows}
use Rattle.law_tangent.specs.Examples.{square}
use Rattle.adj_tree.proofs.Names.{name_same}
use Rattle.law_tangent.proofs.FoundUnits.{tangents_there}
use Rattle.law_tangent.specs.Premises.{caller, both, all_carried, Called', ProductIsLight, CalledFit, carried, no_arrays, Unit', UnitsFit}

-- what is carried by the product keeps its tangent on each way
same_way : (cut : Vars) (p q : ℕ) → WayFlows (λ p. carried) cut p q
same_way cut p q = record { varies = λ v h. (and_true (carried v) (not (cut v)) h).0 }

-- no variable of the product is an array
scalars : (x : List ℕ) → declared square.declarations (plain x) ≡ []
scalars x = go (name_eq x (codes "X")) (name_eq x (codes "Y"))
  where
    go : (a b : Bool) → (let l : List Extent = if a then [] else (if b then [] else []) in l ≡ [])
    go true b = refl
    go false true = refl
    go false false = refl

-- the right side X*X reads variables of the text
text : AllText (λ v. reads_term v (bin times (var (plain (codes "X"))) (var (plain (codes "X")))))
text (plain x) h = refl
text (shadow x) h = absurd cc
text (helper r k) h = absurd cc

-- and they are variables of the unit
known : (y : List ℕ) → (name_eq y (codes "X") || name_eq y (codes "X")) ≡ true → has_name y (codes "X" ∷ codes "Y" ∷ []) ≡ true
known y h = go (name_eq y (codes "X")) (name_eq y (codes "Y")) h
  where
    go : (a b : Bool) → (a || a) ≡ true → (a || (b || false)) ≡ true
    go true b h = refl
    go false b h = absurd cc

-- the assignment is as a text asks
fits : AssignmentFits (codes "X" ∷ codes "Y" ∷ []) no_arrays (codes "Y") none (bin times (var (plain (codes "X"))) (var (plain (codes "X"))))
fits = record { variable = refl; rank = λ e. refl; apart = refl; text = text; subs_text = λ v h. absurd cc; treated = (tt, tt); known = known }

-- the unit under any name is as the law on units asks
own : (name : List ℕ) → Unit' name square
own name = record {
  dummies = refl;
  apart = (refl, (refl, tt));
  scalars = λ x h. scalars x;
  begins = λ v h. h;
  finishes = λ v h. h;
  flows = (same_way _ _ _, (record { covers = λ v h. h; carries = λ h. h; stays = (same_way _ 0 1).varies; goes = λ v o h. refl }, tt));
  ends = same_way _ _ _;
  texts = (fits, tt);
  few = (omega arith, tt);
  tangent = λ c. absurd cc;
}

-- the first example
pub units_fit : UnitsFit
units_fit name v h t = go (name_eq (codes "P") name) h
  where
    go : (b : Bool) → (if b then Some square else find_unit [] name) ≡ Some v → Unit' name v
    go true e = let s : square ≡ v = cc in subst (Unit' name) s (own name)
    go false e = absurd cc

-- the product's weight
pub product_is_light : ProductIsLight
product_is_light = ((omega arith, tt), λ h. let x : 4 ≤ 3 = h.0 in absurd (grind arith))

-- ---- with a call

-- where everything carries a tangent it keeps it on each way
every_way : (cut : Vars) (p q : ℕ) → WayFlows (λ p. everything) cut p q
every_way cut p q = record { varies = λ v h. refl }

-- no variable of the calling unit is an array
caller_scalars : (x : List ℕ) → declared caller.declarations (plain x) ≡ []
caller_scalars x = go (name_eq x (codes "A")) (name_eq x (codes "B"))
  where
    go : (a b : Bool) → (let l : List Extent = if a then [] else (if b then [] else []) in l ≡ [])
    go true b = refl
    go false true = refl
    go false false = refl

-- the product as the unit that is called
called : Called' (codes "P") square
called = record {
  dummies = refl;
  apart = (refl, (refl, tt));
  scalars = λ x h. scalars x;
  begins = λ v h. h;
  finishes = λ v h. h;
  flows = (every_way _ _ _, (record { covers = λ v h. h; carries = λ h. refl; stays = λ v h. refl; goes = λ v o h. refl }, tt));
  ends = every_way _ _ _;
  texts = (fits, tt);
  few = (omega arith, tt);
  tangent = λ c. tangents_there all_carried both caller (true ∷ false ∷ []) (codes "P") square refl refl (refl, (refl, tt)) (λ d h. absurd cc);
}

-- the unit that calls it
calling : Called' (codes "Q") caller
calling = record {
  dummies = refl;
  apart = (refl, (refl, tt));
  scalars = λ x h. caller_scalars x;
  begins = λ v h. h;
  finishes = λ v h. h;
  flows = (every_way _ _ _, ((codes "A" ∷ codes "B" ∷ [], (refl, record { covers = λ v h. h; enters = λ d a i h. refl; leaves = λ d a i h. refl; stays = λ a n h. refl; carries = λ d a i h. refl; entered = λ d h. refl; left = λ d h. refl })), tt));
  ends = every_way _ _ _;
  texts = ((codes "A" ∷ codes "B" ∷ [], (refl, record { unit = square; found = refl; there = refl; calls = refl; apart = (refl, (refl, tt)); many = tt; ranks = λ d a i e. refl })), tt);
  few = (tt, tt);
  tangent = λ c. absurd cc;
}

-- the second example
pub called_fit : CalledFit
called_fit name v h t = go (name_eq (codes "Q") name) refl (name_eq (codes "P") name) refl h
  where
    go : (a : Bool) → name_eq (codes "Q") name ≡ a → (b : Bool) → name_eq (codes "P") name ≡ b → (if a then Some caller else (if b then Some square else find_unit [] name)) ≡ Some v → Called' name v
    go true q b p e = let s : caller ≡ v = cc in let n : codes "Q" ≡ name = name_same (codes "Q") name q in subst (Called' name) s (subst (λ (x : List ℕ). Called' x caller) n calling)
    go false q true p e = let s : square ≡ v = cc in let n : codes "P" ≡ name = name_same (codes "P") name p in subst (Called' name) s (subst (λ (x : List ℕ). Called' x square) n called)
    go false q false p e = absurd cc
