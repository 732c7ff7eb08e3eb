-- What variables hold at a unit's entry, and what they hold when it has handed back.
use Rattle.std.proofs.Common.{◌≡◌, ℕ, Bool, true, false, List, [], ◌∷◌, refl, sym, ap, ◌∙◌, subst, if◌then◌else◌}
use Rattle.std.specs.Prelude.{◌||◌, ◌&&◌, Some, None}
use Rattle.adj_tree.specs.Code.{Role, Var, plain, shadow, helper, name_eq, var_eq}
use Rattle.adj_tree.proofs.Names.{name_refl, name_same}
use Rattle.def_meaning.specs.Store.{Store, set_all}
use Rattle.def_names.specs.Numbers.{Vars}
use Rattle.def_meaning.specs.Apart.{has_name, AreApart}
use Rattle.def_names.proofs.Variables.{or_false, or_left, or_right, has_apart}
use Rattle.def_sweep.specs.Plan.{beside}
pub use Rattle.def_sweep.specs.Plan.{found_or}
use Rattle.def_sweep.specs.Bindings.{bindings}
use Rattle.law_sweep.specs.Passing.{passed_in, passed_out}

-- ---- lists side by side

pub beside_none : (xs ys : List (List ℕ)) (z : List ℕ) → has_name z xs ≡ false → beside xs ys z ≡ None
beside_none [] ys z h = refl
beside_none (x ∷ xs) [] z h = refl
beside_none (x ∷ xs) (y ∷ ys) z h =
    let p = or_false (name_eq z x) (has_name z xs) h in
    rw p.0 (beside_none xs ys z p.1)

pub beside_in : (xs ys : List (List ℕ)) (z w : List ℕ) → beside xs ys z ≡ Some w → has_name w ys ≡ true
beside_in [] ys z w h = cc
beside_in (x ∷ xs) [] z w h = cc
beside_in (x ∷ xs) (y ∷ ys) z w h = go (beside_in xs ys z w) (name_eq z x) h
  where
    go : (beside xs ys z ≡ Some w → has_name w ys ≡ true) → (b : Bool) → (if b then Some y else beside xs ys z) ≡ Some w → (name_eq w y || has_name w ys) ≡ true
    go ih true e = let s : y ≡ w = cc in or_left (name_eq w y) (has_name w ys) (subst (λ v. name_eq w v ≡ true) (sym s) (name_refl w))
    go ih false e = or_right (name_eq w y) (has_name w ys) (ih e)

-- what is found stands in the first list
pub beside_key : (xs ys : List (List ℕ)) (z w : List ℕ) → beside xs ys z ≡ Some w → has_name z xs ≡ true
beside_key [] ys z w h = cc
beside_key (x ∷ xs) [] z w h = cc
beside_key (x ∷ xs) (y ∷ ys) z w h = go (name_eq z x) h (beside_key xs ys z w)
  where
    go : (b : Bool) → (if b then Some y else beside xs ys z) ≡ Some w → (beside xs ys z ≡ Some w → has_name z xs ≡ true) → (b || has_name z xs) ≡ true
    go true h ih = refl
    go false h ih = ih h

-- where no name stands twice it goes both ways
pub beside_back : (xs ys : List (List ℕ)) → AreApart xs → AreApart ys → (z w : List ℕ) → beside xs ys z ≡ Some w → beside ys xs w ≡ Some z
beside_back [] ys a b z w h = cc
beside_back (x ∷ xs) [] a b z w h = cc
beside_back (x ∷ xs) (y ∷ ys) a b z w h = go (beside_back xs ys a.1 b.1 z w) (name_eq z x) refl h
  where
    go : (beside xs ys z ≡ Some w → beside ys xs w ≡ Some z) → (t : Bool) → name_eq z x ≡ t → (if t then Some y else beside xs ys z) ≡ Some w → (if name_eq w y then Some x else beside ys xs w) ≡ Some z
    go ih true n e =
        let s : y ≡ w = cc in
        let here : name_eq w y ≡ true = subst (λ v. name_eq w v ≡ true) (sym s) (name_refl w) in
        rw here (ap Some (sym (name_same z x n)))
    go ih false n e =
        let other : name_eq w y ≡ false = has_apart w y ys (beside_in xs ys z w e) b.0 in
        rw other (ih e)

-- ---- at the unit's entry

module _ {C : Type 0} (z : C) (shadowed : Vars) (s : Store C) where
  pub in_plain : (ds given : List (List ℕ)) (x : List ℕ) (j : ℕ) → passed_in z (bindings shadowed ds given) s (plain x) j ≡ found_or (beside ds given x) z (λ a. s (plain a) j)
  in_plain [] given x j = refl
  in_plain (d ∷ ds) [] x j = refl
  in_plain (d ∷ ds) (a ∷ given) x j = go (in_plain ds given x j) (shadowed (plain d)) (name_eq x d) refl
    where
      go : passed_in z (bindings shadowed ds given) s (plain x) j ≡ found_or (beside ds given x) z (λ a. s (plain a) j) → (t b : Bool) → name_eq x d ≡ b → passed_in z (if t then (plain d, plain a) ∷ (shadow d, shadow a) ∷ bindings shadowed ds given else (plain d, plain a) ∷ bindings shadowed ds given) s (plain x) j ≡ found_or (if b then Some a else beside ds given x) z (λ a. s (plain a) j)
      go ih true true e = rw e refl
      go ih true false e = rw e ih
      go ih false true e = rw e refl
      go ih false false e = rw e ih

  pub in_shadow : (ds given : List (List ℕ)) (x : List ℕ) (j : ℕ) → passed_in z (bindings shadowed ds given) s (shadow x) j ≡ (if shadowed (plain x) then found_or (beside ds given x) z (λ a. s (shadow a) j) else z)
  in_shadow [] given x j = go (shadowed (plain x))
    where
      go : (t : Bool) → z ≡ (if t then z else z)
      go true = refl
      go false = refl
  in_shadow (d ∷ ds) [] x j = go (shadowed (plain x))
    where
      go : (t : Bool) → z ≡ (if t then z else z)
      go true = refl
      go false = refl
  in_shadow (d ∷ ds) (a ∷ given) x j = go (shadowed (plain d)) refl (shadowed (plain x)) refl (name_eq x d) refl (in_shadow ds given x j)
    where
      go : (t : Bool) → shadowed (plain d) ≡ t → (v : Bool) → shadowed (plain x) ≡ v → (b : Bool) → name_eq x d ≡ b → passed_in z (bindings shadowed ds given) s (shadow x) j ≡ (if v then found_or (beside ds given x) z (λ a. s (shadow a) j) else z) →
          passed_in z (if t then (plain d, plain a) ∷ (shadow d, shadow a) ∷ bindings shadowed ds given else (plain d, plain a) ∷ bindings shadowed ds given) s (shadow x) j ≡ (if v then found_or (if b then Some a else beside ds given x) z (λ a. s (shadow a) j) else z)
      go true et true ev true e ih = rw e refl
      go true et false ev true e ih = absurd (let c : true ≡ false = sym et ∙ ap (λ n. shadowed (plain n)) (sym (name_same x d e)) ∙ ev in cc)
      go true et v ev false e ih = rw e ih
      go false et true ev true e ih = absurd (let c : true ≡ false = sym ev ∙ ap (λ n. shadowed (plain n)) (name_same x d e) ∙ et in cc)
      go false et false ev true e ih = ih
      go false et true ev false e ih = ih
      go false et false ev false e ih = ih

  -- helpers hold nothing
  pub in_helper : (ds given : List (List ℕ)) (r : Role) (k j : ℕ) → passed_in z (bindings shadowed ds given) s (helper r k) j ≡ z
  in_helper [] given r k j = refl
  in_helper (d ∷ ds) [] r k j = refl
  in_helper (d ∷ ds) (a ∷ given) r k j = go (in_helper ds given r k j) (shadowed (plain d))
    where
      go : passed_in z (bindings shadowed ds given) s (helper r k) j ≡ z → (t : Bool) → passed_in z (if t then (plain d, plain a) ∷ (shadow d, shadow a) ∷ bindings shadowed ds given else (plain d, plain a) ∷ bindings shadowed ds given) s (helper r k) j ≡ z
      go ih true = ih
      go ih false = ih

-- ---- when it has handed back

module _ {C : Type 0} (written shadowed : Vars) (t : Store C) (y : List ℕ) (j : ℕ) where
  -- what the variable holds at the end, where v is what it held before
  abbrev pub held_plain : (ds given : List (List ℕ)) → C → C
  held_plain ds given v = found_or (beside given ds y) v (λ d. if written (plain d) then t (plain d) j else v)

  abbrev pub held_shadow : (ds given : List (List ℕ)) → C → C
  held_shadow ds given v = found_or (beside given ds y) v (λ d. if shadowed (plain d) && written (shadow d) then t (shadow d) j else v)

  pub out_plain : (ds given : List (List ℕ)) → AreApart given → (s : Store C) → passed_out written (bindings shadowed ds given) t s (plain y) j ≡ held_plain ds given (s (plain y) j)
  out_plain [] [] a s = refl
  out_plain [] (g ∷ given) a s = refl
  out_plain (d ∷ ds) [] a s = refl
  out_plain (d ∷ ds) (g ∷ given) a s = go (λ s1. out_plain ds given a.1 s1) (shadowed (plain d)) ∙ last (name_eq y g) refl
    where
      first : Store C
      first = if written (plain d) then set_all s (plain g) (t (plain d)) else s

      value_first : (w : Bool) → (if w then set_all s (plain g) (t (plain d)) else s) (plain y) j ≡ (if w then (if name_eq y g then t (plain d) j else s (plain y) j) else s (plain y) j)
      value_first true = refl
      value_first false = refl

      value_second : (w : Bool) (s1 : Store C) → (if w then set_all s1 (shadow g) (t (shadow d)) else s1) (plain y) j ≡ s1 (plain y) j
      value_second true s1 = refl
      value_second false s1 = refl

      -- where the name is the first, it is no other
      last : (b : Bool) → name_eq y g ≡ b → held_plain ds given (if written (plain d) then (if b then t (plain d) j else s (plain y) j) else s (plain y) j) ≡ found_or (if b then Some d else beside given ds y) (s (plain y) j) (λ d. if written (plain d) then t (plain d) j else s (plain y) j)
      last true e =
          let v = if written (plain d) then t (plain d) j else s (plain y) j in
          let out : has_name y given ≡ false = ap (λ n. has_name n given) (name_same y g e) ∙ a.0 in
          ap (λ o. found_or o v (λ d. if written (plain d) then t (plain d) j else v)) (beside_none given ds y out)
      last false e = ap (λ v. held_plain ds given v) (same (written (plain d)))
        where
          same : (w : Bool) → (if w then s (plain y) j else s (plain y) j) ≡ s (plain y) j
          same true = refl
          same false = refl

      go : ((s1 : Store C) → passed_out written (bindings shadowed ds given) t s1 (plain y) j ≡ held_plain ds given (s1 (plain y) j)) → (v : Bool) →
          passed_out written (if v then (plain d, plain g) ∷ (shadow d, shadow g) ∷ bindings shadowed ds given else (plain d, plain g) ∷ bindings shadowed ds given) t s (plain y) j
          ≡ held_plain ds given (if written (plain d) then (if name_eq y g then t (plain d) j else s (plain y) j) else s (plain y) j)
      go ih true = ih (if written (shadow d) then set_all first (shadow g) (t (shadow d)) else first) ∙ ap (λ v. held_plain ds given v) (value_second (written (shadow d)) first ∙ value_first (written (plain d)))
      go ih false = ih first ∙ ap (λ v. held_plain ds given v) (value_first (written (plain d)))

  pub out_shadow : (ds given : List (List ℕ)) → AreApart given → (s : Store C) → passed_out written (bindings shadowed ds given) t s (shadow y) j ≡ held_shadow ds given (s (shadow y) j)
  out_shadow [] [] a s = refl
  out_shadow [] (g ∷ given) a s = refl
  out_shadow (d ∷ ds) [] a s = refl
  out_shadow (d ∷ ds) (g ∷ given) a s = go (λ s1. out_shadow ds given a.1 s1) (shadowed (plain d)) refl ∙ last (name_eq y g) refl
    where
      first : Store C
      first = if written (plain d) then set_all s (plain g) (t (plain d)) else s

      value_first : (w : Bool) → (if w then set_all s (plain g) (t (plain d)) else s) (shadow y) j ≡ s (shadow y) j
      value_first true = refl
      value_first false = refl

      value_second : (w : Bool) (s1 : Store C) → (if w then set_all s1 (shadow g) (t (shadow d)) else s1) (shadow y) j ≡ (if w then (if name_eq y g then t (shadow d) j else s1 (shadow y) j) else s1 (shadow y) j)
      value_second true s1 = refl
      value_second false s1 = refl

      last : (b : Bool) → name_eq y g ≡ b → held_shadow ds given (if shadowed (plain d) && written (shadow d) then (if b then t (shadow d) j else s (shadow y) j) else s (shadow y) j) ≡ found_or (if b then Some d else beside given ds y) (s (shadow y) j) (λ d. if shadowed (plain d) && written (shadow d) then t (shadow d) j else s (shadow y) j)
      last true e =
          let v = if shadowed (plain d) && written (shadow d) then t (shadow d) j else s (shadow y) j in
          let out : has_name y given ≡ false = ap (λ n. has_name n given) (name_same y g e) ∙ a.0 in
          ap (λ o. found_or o v (λ d. if shadowed (plain d) && written (shadow d) then t (shadow d) j else v)) (beside_none given ds y out)
      last false e = ap (λ v. held_shadow ds given v) (same (shadowed (plain d) && written (shadow d)))
        where
          same : (w : Bool) → (if w then s (shadow y) j else s (shadow y) j) ≡ s (shadow y) j
          same true = refl
          same false = refl

      go : ((s1 : Store C) → passed_out written (bindings shadowed ds given) t s1 (shadow y) j ≡ held_shadow ds given (s1 (shadow y) j)) → (v : Bool) → shadowed (plain d) ≡ v →
          passed_out written (if v then (plain d, plain g) ∷ (shadow d, shadow g) ∷ bindings shadowed ds given else (plain d, plain g) ∷ bindings shadowed ds given) t s (shadow y) j
          ≡ held_shadow ds given (if v && written (shadow d) then (if name_eq y g then t (shadow d) j else s (shadow y) j) else s (shadow y) j)
      go ih true e =
          ih (if written (shadow d) then set_all first (shadow g) (t (shadow d)) else first)
          ∙ ap (λ v. held_shadow ds given v) (value_second (written (shadow d)) first ∙ ap (λ v. if written (shadow d) then (if name_eq y g then t (shadow d) j else v) else v) (value_first (written (plain d))))
      go ih false e = ih first ∙ ap (λ v. held_shadow ds given v) (value_first (written (plain d)))

module _ {C : Type 0} (written shadowed : Vars) (t : Store C) (r : Role) (k j : ℕ) where
  -- helpers are as they were
  pub out_helper : (ds given : List (List ℕ)) (s : Store C) → passed_out written (bindings shadowed ds given) t s (helper r k) j ≡ s (helper r k) j
  out_helper [] [] s = refl
  out_helper [] (g ∷ given) s = refl
  out_helper (d ∷ ds) [] s = refl
  out_helper (d ∷ ds) (g ∷ given) s = go (λ s1. out_helper ds given s1) (shadowed (plain d))
    where
      first : Store C
      first = if written (plain d) then set_all s (plain g) (t (plain d)) else s

      value_of : (w : Bool) (x y : Var) (s1 : Store C) → var_eq (helper r k) x ≡ false → (if w then set_all s1 x (t y) else s1) (helper r k) j ≡ s1 (helper r k) j
      value_of true x y s1 e = rw e refl
      value_of false x y s1 e = refl

      go : ((s1 : Store C) → passed_out written (bindings shadowed ds given) t s1 (helper r k) j ≡ s1 (helper r k) j) → (v : Bool) →
          passed_out written (if v then (plain d, plain g) ∷ (shadow d, shadow g) ∷ bindings shadowed ds given else (plain d, plain g) ∷ bindings shadowed ds given) t s (helper r k) j ≡ s (helper r k) j
      go ih true = ih (if written (shadow d) then set_all first (shadow g) (t (shadow d)) else first) ∙ value_of (written (shadow d)) (shadow g) (shadow d) first refl ∙ value_of (written (plain d)) (plain g) (plain d) s refl
      go ih false = ih first ∙ value_of (written (plain d)) (plain g) (plain d) s refl
