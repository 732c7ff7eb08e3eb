-- The number of snapshots of a reversed loop, which a directive gives or a variable: it stands in a helper, before the loop and in its
-- reversal.
use Rattle.std.proofs.Common.{◌≡◌, ◌≤◌, ◌<◌, ℕ, Bool, true, false, min, max, List, [], ◌∷◌, ◌++◌, refl, ap, ◌∙◌, subst, sym, arith, if◌then◌else◌}
use Rattle.std.specs.Prelude.{ℤ, pos, negsuc, nat_lt, int_lt, Ok, ◌==◌, ◌&&◌, Some}
use Rattle.adj_tree.specs.Code.{Var, plain, shadow, helper, slots, var_eq, Mark, unmarked, with_count, count_from, none, assign, runtime, push_word, pop_word, Code}
use Rattle.adj_tree.proofs.Names.{nat_refl, nat_same}
use Rattle.def_meaning.specs.Store.{Shape, Store, set}
use Rattle.def_meaning.specs.Value.{Setting, value}
use Rattle.def_meaning.specs.Scene.{Scene, Done}
use Rattle.def_meaning.specs.Read.{reads_mark}
use Rattle.def_meaning.specs.Run.{Calls, from_1_to_64, in_force}
use Rattle.law_meaning.specs.Leads.{Leads}
use Rattle.def_meaning.proofs.Cells.{size_positive}
use Rattle.law_meaning.proofs.Leadings.{leads_step}
use Rattle.def_names.specs.Numbers.{Vars}
use Rattle.def_sweep.specs.Facts.{Within}
use Rattle.law_sweep.specs.Pairs.{Words, with_tangents, on_words, on_duals}
use Rattle.law_sweep.specs.Scenes.{Course, scene}
use Rattle.def_meaning.proofs.Variables.{var_refl, var_same}
use Rattle.def_names.proofs.Variables.{and_true}
use Rattle.def_sweep.specs.ReversalCode.{as_slots, slots_of, set_slots, push_slots, pop_slots}
use Rattle.def_sweep.specs.MarkedUnits.{is_marked}
use Rattle.law_sweep.specs.Kernel.{HasSlots}
use Rattle.law_sweep.specs.Passing.{plainly}
use Rattle.law_sweep.specs.Runs.{SameOn}

-- ---- the number in force

-- by MAX and MIN a word becomes one from 1 to 64
word_slots : (z : ℤ) → (let u : ℤ = if int_lt z (pos 1) then pos 1 else z in if int_lt (pos 64) u then pos 64 else u) ≡ pos (from_1_to_64 z)
word_slots (negsuc n) = refl
word_slots (pos n) = go (nat_lt n 1) refl (nat_lt 64 n) refl
  where
    go : (a : Bool) → nat_lt n 1 ≡ a → (b : Bool) → nat_lt 64 n ≡ b → (let u : ℤ = if nat_lt n 1 then pos 1 else pos n in if int_lt (pos 64) u then pos 64 else u) ≡ pos (from_1_to_64 (pos n))
    go true l b g = let e : 1 ≡ max 1 (min n 64) = grind arith in rw l (ap pos e)
    go false l true g = let e : 64 ≡ max 1 (min n 64) = grind arith in rw (l, g) (ap pos e)
    go false l false g = let e : n ≡ max 1 (min n 64) = grind arith in rw (l, g) (ap pos e)

from_1 : (k : ℕ) → (0 < max 1 (min k 64)) × (max 1 (min k 64) ≤ 64)
from_1 k = (grind arith, grind arith)

-- a directive that gives one marks its loop
pub slots_marked : (mark : Mark) → HasSlots mark → is_marked mark ≡ true
slots_marked unmarked has = absurd has
slots_marked (with_count k) has = refl
slots_marked (count_from x) has = refl

-- it is from 1 to 64
pub few_slots : (n : Setting ℤ) (mark : Mark) (s : Store ℤ) (m : ℕ) → HasSlots mark → in_force n mark s ≡ Some m → (0 < m) × (m ≤ 64)
few_slots n unmarked s m has h = absurd has
few_slots n (with_count k) s m has h = let same : k ≡ m = cc in subst (λ z. (0 < z) × (z ≤ 64)) same has
few_slots n (count_from x) s m has h =
    let same : from_1_to_64 (n.numbers.shown (s x 0)) ≡ m = cc in
    subst (λ z. (0 < z) × (z ≤ 64)) same (from_1 _)

-- a directive gives one
pub slots_found : (n : Setting ℤ) (mark : Mark) (s : Store ℤ) → HasSlots mark → (m : ℕ) × (in_force n mark s ≡ Some m)
slots_found n unmarked s has = absurd has
slots_found n (with_count k) s has = (k, refl)
slots_found n (count_from x) s has = (from_1_to_64 (n.numbers.shown (s x 0)), refl)

-- the same in the sweeps, from a store with the values that are needed
pub force_again : (sh : Var → Shape) (level : ℕ) (needed : Vars) (u f : Store ℤ) → SameOn sh needed u f → (mark : Mark) (m : ℕ) → HasSlots mark → Within (λ v. reads_mark v mark) needed → in_force (on_words (plainly sh) level) mark u ≡ Some m → in_force (on_words sh level) mark f ≡ Some m
force_again sh level needed u f same unmarked m has within h = absurd has
force_again sh level needed u f same (with_count k) m has within h = h
force_again sh level needed u f same (count_from (plain y)) m has within h = ap (λ z. Some (from_1_to_64 z)) (same.at y 0 (size_positive (sh (plain y))) (within (plain y) (var_refl (plain y)))) ∙ h
force_again sh level needed u f same (count_from (shadow y)) m has within h = absurd (let c : false ≡ true = has in cc)
force_again sh level needed u f same (count_from (helper r k)) m has within h = absurd (let c : false ≡ true = has in cc)

-- and in the dual run
pub force_dual : (sh : Var → Shape) (level : ℕ) (u : Store ℤ) (y : Words) (mark : Mark) → in_force (on_duals sh level) mark (with_tangents u y) ≡ in_force (on_words sh level) mark u
force_dual sh level u y unmarked = refl
force_dual sh level u y (with_count k) = refl
force_dual sh level u y (count_from x) = refl

-- ---- the helper of a loop of depth d

-- what it holds after it was set, and what is pushed
abbrev slots_held : ℕ → Mark → ℕ → Store ℤ → ℤ
slots_held d unmarked m f = f (helper slots d) 0
slots_held d (with_count k) m f = f (helper slots d) 0
slots_held d (count_from x) m f = pos m

abbrev pub slots_trail : Mark → ℕ → List ℤ
slots_trail unmarked m = []
slots_trail (with_count k) m = []
slots_trail (count_from x) m = pos m ∷ []

abbrev pub with_slots : ℕ → Mark → ℕ → Store ℤ → Store ℤ
with_slots d mark m f = set f (helper slots d) 0 (slots_held d mark m f)

-- a cell that is set to what it held
same_set : (f : Store ℤ) (v : Var) → set f v 0 (f v 0) ≡ f
same_set f v = λ i y j. go y j (var_eq y v && (j == 0)) refl i
  where
    go : (y : Var) (j : ℕ) (b : Bool) → (var_eq y v && (j == 0)) ≡ b → (if var_eq y v && (j == 0) then f v 0 else f y j) ≡ f y j
    go y j true e =
        let p = and_true (var_eq y v) (j == 0) e in
        rw e (λ i. f (sym (var_same y v p.0) i) (sym (nat_same j 0 p.1) i))
    go y j false e = rw e refl

module _ (sh : Var → Shape) (level d : ℕ) where
  abbrev nw : Setting ℤ
  nw = on_words sh level

  -- the term of the reversal looks at the helper alone
  pub slots_same : (mark : Mark) (f g : Store ℤ) → g (helper slots d) 0 ≡ f (helper slots d) 0 → value nw (slots_of d mark) g ≡ value nw (slots_of d mark) f
  slots_same unmarked f g e = refl
  slots_same (with_count k) f g e = refl
  slots_same (count_from x) f g e = ap (λ (z : ℤ). Ok z) e

  -- and has the number in force there
  pub slots_are : (n : Setting ℤ) (mark : Mark) (m : ℕ) (s f : Store ℤ) → HasSlots mark → in_force n mark s ≡ Some m → value nw (slots_of d mark) (with_slots d mark m f) ≡ Ok (pos m)
  slots_are n unmarked m s f has h = absurd has
  slots_are n (with_count k) m s f has h = let same : k ≡ m = cc in ap (λ z. Ok (pos z)) same
  slots_are n (count_from x) m s f has h = rw (nat_refl d) refl

  module _ (q : Calls ℤ) (line : ℕ) where
    pub slots_set : (mark : Mark) (m : ℕ) (rest : Code) (b : Course) (f : Store ℤ) (t : List ℤ) (e : Scene ℤ) → in_force nw mark f ≡ Some m → Leads q nw rest (scene b (with_slots d mark m f) t) e → Leads q nw (set_slots line d mark rest) (scene b f t) e
    slots_set unmarked m rest b f t e h l = subst (λ (z : Store ℤ). Leads q nw rest (scene b z t) e) (same_set f (helper slots d)) l
    slots_set (with_count k) m rest b f t e h l = subst (λ (z : Store ℤ). Leads q nw rest (scene b z t) e) (same_set f (helper slots d)) l
    slots_set (count_from x) m rest b f t e h l =
        let same : from_1_to_64 (f x 0) ≡ m = cc in
        let word = word_slots (f x 0) ∙ ap pos same in
        leads_step q nw line (assign (helper slots d) none (as_slots x)) rest (scene b f t) (scene b (set f (helper slots d) 0 (pos m)) t) e (λ k. ap (λ (z : ℤ). Done (scene b (set f (helper slots d) 0 z) t) k) word) l

    pub slots_pushed : (mark : Mark) (m : ℕ) (rest : Code) (b : Course) (f : Store ℤ) (t : List ℤ) (e : Scene ℤ) → value nw (slots_of d mark) f ≡ Ok (pos m) → Leads q nw rest (scene b f (slots_trail mark m ++ t)) e → Leads q nw (push_slots line d mark rest) (scene b f t) e
    slots_pushed unmarked m rest b f t e h l = l
    slots_pushed (with_count k) m rest b f t e h l = l
    slots_pushed (count_from x) m rest b f t e h l =
        let is : f (helper slots d) 0 ≡ pos m = cc in
        leads_step q nw line (runtime (push_word (helper slots d) none)) rest (scene b f t) (scene b f (pos m ∷ t)) e (λ k. ap (λ (z : ℤ). Done (scene b f (z ∷ t)) k) is) l

    pub slots_popped : (mark : Mark) (m : ℕ) (rest : Code) (b : Course) (f : Store ℤ) (t : List ℤ) (e : Scene ℤ) → Leads q nw rest (scene b (with_slots d mark m f) t) e → Leads q nw (pop_slots line d mark rest) (scene b f (slots_trail mark m ++ t)) e
    slots_popped unmarked m rest b f t e l = subst (λ (z : Store ℤ). Leads q nw rest (scene b z t) e) (same_set f (helper slots d)) l
    slots_popped (with_count k) m rest b f t e l = subst (λ (z : Store ℤ). Leads q nw rest (scene b z t) e) (same_set f (helper slots d)) l
    slots_popped (count_from x) m rest b f t e l =
        leads_step q nw line (runtime (pop_word (helper slots d) none)) rest (scene b f (pos m ∷ t)) (scene b (set f (helper slots d) 0 (pos m)) t) e (λ k. refl) l
