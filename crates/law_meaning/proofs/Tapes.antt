-- Arrays that are pushed and popped are as they were.
use Rattle.std.proofs.Common.{◌≡◌, ℕ, zero, suc, ◌+◌, ◌<◌, ◌⊎◌, inl, inr, Bool, true, false, List, [], ◌∷◌, ◌++◌, refl, sym, ap, ◌∙◌, arith}
use Rattle.std.proofs.lemmas.Bool.{cases_order}
use Rattle.std.specs.Prelude.{None, length, nat_lt, ◌&&◌, ◌==◌, if◌then◌else◌}
use Rattle.adj_tree.specs.Code.{Var, var_eq}
use Rattle.def_meaning.specs.Store.{Store, set, cells_from}
use Rattle.def_meaning.specs.Value.{Setting}
use Rattle.def_meaning.specs.Scene.{Scene, stand, Done, Full, then_do, has_room, pushed_all, with_top, popped_all}

-- the tape with some words more, of which the first was pushed first
abbrev pub pushed_on : {C : Type 0} → List C → List C → List C
pushed_on [] t = t
pushed_on (c ∷ cs) t = pushed_on cs (c ∷ t)

-- where the room isn't limited, words that are pushed stand on the tape
pub push_all_done : {C : Type 0} (n : Setting C) → n.room ≡ None → (cs : List C) (s : Scene C) (k : ℕ) → pushed_all n cs s k ≡ Done (record s { tape = pushed_on cs s.tape }) k
push_all_done n e [] s k = refl
push_all_done n e (c ∷ cs) s k =
    ap (λ r. then_do (if has_room r (length s.tape) then Done (record s { tape = c ∷ s.tape }) k else Full (stand n s)) (pushed_all n cs)) e
    ∙ push_all_done n e cs (record s { tape = c ∷ s.tape }) k

-- the last word is on top
pushed_on-last : {C : Type 0} (cs : List C) (c : C) (t : List C) → pushed_on (cs ++ (c ∷ [])) t ≡ c ∷ pushed_on cs t
pushed_on-last [] c t = refl
pushed_on-last (d ∷ cs) c t = pushed_on-last cs c (d ∷ t)

-- the last of some cells
cells_last : {C : Type 0} (f : ℕ → C) (i m : ℕ) → cells_from f i (suc m) ≡ cells_from f i m ++ (f (i + m) ∷ [])
cells_last f i zero = let e : i ≡ i + 0 = omega arith in ap (λ z. f z ∷ []) e
cells_last f i (suc m) = let e : suc i + m ≡ i + suc m = omega arith in ap (λ z. f i ∷ z) (cells_last f (suc i) m ∙ ap (λ z. cells_from f (suc i) m ++ (f z ∷ [])) e)

-- the store with other numbers in the cells of a variable below m
abbrev pub filled : {C : Type 0} → Store C → Var → (ℕ → C) → ℕ → Store C
filled s x f m = λ y j. if var_eq y x && nat_lt j m then f j else s y j

-- no cell
filled-zero : {C : Type 0} (s : Store C) (x : Var) (f : ℕ → C) → s ≡ filled s x f 0
filled-zero s x f = λ i y j. go y j (var_eq y x) i
  where
    go : (y : Var) (j : ℕ) (b : Bool) → s y j ≡ (if b && nat_lt j 0 then f j else s y j)
    go y j true = let none_less : nat_lt j 0 ≡ false = grind arith in rw none_less refl
    go y j false = refl

-- one cell more, which may be set first
filled-suc : {C : Type 0} (s : Store C) (x : Var) (f : ℕ → C) (m : ℕ) → filled (set s x m (f m)) x f m ≡ filled s x f (suc m)
filled-suc s x f m = λ i y j. go y j (var_eq y x) (cases_order j m) i
  where
    go : (y : Var) (j : ℕ) (b : Bool) → (j ≡ m) ⊎ ((j < m) ⊎ (m < j)) → (if b && nat_lt j m then f j else (if b && (j == m) then f m else s y j)) ≡ (if b && nat_lt j (suc m) then f j else s y j)
    go y j false o = refl
    go y j true (inl e) =
        let no_less : nat_lt j m ≡ false = grind arith in
        let same : (j == m) ≡ true = grind arith in
        let less : nat_lt j (suc m) ≡ true = grind arith in
        rw (no_less, same, less) (ap f (sym e))
    go y j true (inr (inl l)) =
        let less : nat_lt j m ≡ true = grind arith in
        let still : nat_lt j (suc m) ≡ true = grind arith in
        rw (less, still) refl
    go y j true (inr (inr l)) =
        let no_less : nat_lt j m ≡ false = grind arith in
        let other : (j == m) ≡ false = grind arith in
        let not_less : nat_lt j (suc m) ≡ false = grind arith in
        rw (no_less, other, not_less) refl

-- the cells of a variable that were pushed are popped into a variable's cells, each to its place
pub pop_all_done : {C : Type 0} (n : Setting C) (x : Var) (f : ℕ → C) (m line : ℕ) (s : Scene C) (t : List C) (k : ℕ) → s.tape ≡ pushed_on (cells_from f 0 m) t → popped_all n x m line s k ≡ Done (record s { store = filled s.store x f m; tape = t }) k
pop_all_done n x f zero line s t k e = λ i. Done (record s { store = filled-zero s.store x f i; tape = e i }) k
pop_all_done n x f (suc m) line s t k e =
    let zero_m : 0 + m ≡ m = omega arith in
    let top : s.tape ≡ f m ∷ pushed_on (cells_from f 0 m) t = e ∙ ap (λ z. pushed_on z t) (cells_last f 0 m) ∙ pushed_on-last (cells_from f 0 m) (f (0 + m)) t ∙ ap (λ z. f z ∷ pushed_on (cells_from f 0 m) t) zero_m in
    ap (λ z. then_do (with_top z line (stand n s) (λ c cs. Done (record s { store = set s.store x m c; tape = cs }) k)) (popped_all n x m line)) top
    ∙ pop_all_done n x f m line (record s { store = set s.store x m (f m); tape = pushed_on (cells_from f 0 m) t }) t k refl
    ∙ ap (λ z. Done (record s { store = z; tape = t }) k) (filled-suc s.store x f m)
