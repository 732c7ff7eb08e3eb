-- Handing back what a called unit wrote: straight to the places of the actuals, or by names and then by assignments after the call.
use Rattle.std.proofs.Common.{◌≡◌, ℕ, ◌<◌, Bool, true, false, List, [], ◌∷◌, refl, sym, ap, ◌∙◌, subst}
use Rattle.std.specs.Prelude.{◌==◌, ◌&&◌, ◌||◌, if◌then◌else◌}
use Rattle.adj_tree.specs.Code.{Var, plain, var_eq}
use Rattle.def_meaning.specs.Store.{size_of, Store, set, set_all}
use Rattle.def_meaning.specs.Value.{Setting}
use Rattle.def_meaning.specs.Units.{Place, whole, cell, nowhere, Actual, put, copied_out}
use Rattle.def_meaning.proofs.Booleans.{or_false}
use Rattle.def_meaning.proofs.Variables.{var_refl, var_same}
use Rattle.law_meaning.proofs.Frames.{is_in}
use Rattle.def_kernel.specs.Lowered.{is_among}

module _ {C : Type 0} where
  -- whether what is handed back goes into the variable
  abbrev pub goes_into : Var → List Bool → List (Actual C) → Bool
  goes_into x [] got = false
  goes_into x (w ∷ ws) [] = false
  goes_into x (w ∷ ws) (a ∷ got) = (w && is_in x a.place) || goes_into x ws got

  -- another place
  put_other : (x : Var) (p : Place) (cs : ℕ → C) (s : Store C) → is_in x p ≡ false → (i : ℕ) → put p cs s x i ≡ s x i
  put_other x (whole y) cs s h i = ap (λ b. if b then cs i else s x i) h
  put_other x (cell y j) cs s h i = ap (λ b. if b && (i == j) then cs 0 else s x i) h
  put_other x nowhere cs s h i = refl

  -- where nothing goes into a variable it is as it was
  pub copied_other : (x : Var) (ds : List (List ℕ)) (ws : List Bool) (got : List (Actual C)) (u s : Store C) → goes_into x ws got ≡ false → (i : ℕ) → copied_out ds ws got u s x i ≡ s x i
  copied_other x [] ws got u s h i = refl
  copied_other x (d ∷ ds) [] got u s h i = refl
  copied_other x (d ∷ ds) (w ∷ ws) [] u s h i = refl
  copied_other x (d ∷ ds) (true ∷ ws) (a ∷ got) u s h i = let p = or_false (is_in x a.place) (goes_into x ws got) h in copied_other x ds ws got u (put a.place (u (plain d)) s) p.1 i ∙ put_other x a.place (u (plain d)) s p.0 i
  copied_other x (d ∷ ds) (false ∷ ws) (a ∷ got) u s h i = copied_other x ds ws got u s h i

  -- a name as an actual
  abbrev pub by_name : Setting C → Store C → Var → Actual C
  by_name n t y = record { shape = n.shape y; cells = t y; place = whole y }

  abbrev pub by_names : Setting C → Store C → List Var → List (Actual C)
  by_names n t [] = []
  by_names n t (y ∷ ys) = by_name n t y ∷ by_names n t ys

  -- what comes after the call: each element gets what the name holds that stood for it
  abbrev pub put_cell : Place → Var → Store C → Store C
  put_cell (whole x) y s = s
  put_cell (cell x i) y s = set s x i (s y 0)
  put_cell nowhere y s = s

  abbrev pub put_if : Bool → Place → Var → Store C → Store C
  put_if true p y s = put_cell p y s
  put_if false p y s = s

  abbrev pub put_cells : List Bool → List (Actual C) → List Var → Store C → Store C
  put_cells [] got ys s = s
  put_cells (w ∷ ws) [] ys s = s
  put_cells (w ∷ ws) (a ∷ got) [] s = s
  put_cells (w ∷ ws) (a ∷ got) (y ∷ ys) s = put_cells ws got ys (put_if w a.place y s)

  module _ (n : Setting C) (inside : Var → Bool) (t2 : Store C) (u v : Store C) where
    -- a name stands for a place: for a whole variable it is this, and for an element or nothing it is a local; and what is handed back is the same
    abbrev pub StandsFor : Place → Var → List ℕ → Type 0
    StandsFor (whole x) y d = (y ≡ x) × ((inside x ≡ true) × ((i : ℕ) → i < size_of (n.shape x) → u (plain d) i ≡ v (plain d) i))
    StandsFor (cell x i) y d = (inside y ≡ false) × ((inside x ≡ true) × (u (plain d) 0 ≡ v (plain d) 0))
    StandsFor nowhere y d = inside y ≡ false

    -- each name stands for the place of its actual where the dummy is written; no two names are the same, and nothing goes twice into a variable
    abbrev pub AllStand : List (List ℕ) → List Bool → List (Actual C) → List Var → Type 0
    AllStand [] [] got ys = Unit {0}
    AllStand [] (w ∷ ws) got ys = ⊥
    AllStand (d ∷ ds) [] got ys = Unit {0}
    AllStand (d ∷ ds) (w ∷ ws) [] [] = Unit {0}
    AllStand (d ∷ ds) (w ∷ ws) [] (y ∷ ys) = ⊥
    AllStand (d ∷ ds) (w ∷ ws) (a ∷ got) [] = ⊥
    AllStand (d ∷ ds) (w ∷ ws) (a ∷ got) (y ∷ ys) =
        (w ≡ true → StandsFor a.place y d)
        × ((is_among y ys ≡ false)
        × (((x : Var) → inside x ≡ true → w ≡ true → is_in x a.place ≡ true → goes_into x ws got ≡ false) × AllStand ds ws got ys))

    -- what is inside isn't what is outside
    apart_by : (x y : Var) → inside x ≡ true → inside y ≡ false → var_eq x y ≡ false
    apart_by x y h g = go (var_eq x y) refl
      where
        go : (b : Bool) → var_eq x y ≡ b → var_eq x y ≡ false
        go true e = absurd (let f : true ≡ false = sym h ∙ ap inside (var_same x y e) ∙ g in cc)
        go false e = e

    -- a name isn't a variable into which nothing goes
    name_apart : (x y : Var) (p : Place) (d : List ℕ) → inside x ≡ true → StandsFor p y d → is_in x p ≡ false → var_eq x y ≡ false
    name_apart x y (whole z) d h s e = ap (var_eq x) s.0 ∙ e
    name_apart x y (cell z i) d h s e = apart_by x y h s.0
    name_apart x y nowhere d h s e = apart_by x y h s

    -- other variables stay
    set_all_other : (s : Store C) (x y : Var) (cs : ℕ → C) (i : ℕ) → var_eq x y ≡ false → set_all s y cs x i ≡ s x i
    set_all_other s x y cs i e = ap (λ b. if b then cs i else s x i) e

    -- by names, a variable into which nothing goes is as it was
    named_other : (x : Var) (ds : List (List ℕ)) (ws : List Bool) (got : List (Actual C)) (ys : List Var) (g : Store C) (i : ℕ) → inside x ≡ true → goes_into x ws got ≡ false → AllStand ds ws got ys → copied_out ds ws (by_names n t2 ys) v g x i ≡ g x i
    named_other x [] [] got ys g i h e s = refl
    named_other x [] (w ∷ ws) got ys g i h e s = absurd s
    named_other x (d ∷ ds) [] got ys g i h e s = refl
    named_other x (d ∷ ds) (w ∷ ws) [] [] g i h e s = refl
    named_other x (d ∷ ds) (w ∷ ws) [] (y ∷ ys) g i h e s = absurd s
    named_other x (d ∷ ds) (w ∷ ws) (a ∷ got) [] g i h e s = absurd s
    named_other x (d ∷ ds) (true ∷ ws) (a ∷ got) (y ∷ ys) g i h e s =
        let p = or_false (is_in x a.place) (goes_into x ws got) e in
        named_other x ds ws got ys (set_all g y (v (plain d))) i h p.1 s.1.1.1 ∙ set_all_other g x y (v (plain d)) i (name_apart x y a.place d h (s.0 refl) p.0)
    named_other x (d ∷ ds) (false ∷ ws) (a ∷ got) (y ∷ ys) g i h e s = named_other x ds ws got ys g i h e s.1.1.1

    -- and so is a name that isn't among them
    pub name_kept : (z : Var) (ds : List (List ℕ)) (ws : List Bool) (ys : List Var) (g : Store C) (i : ℕ) → is_among z ys ≡ false → copied_out ds ws (by_names n t2 ys) v g z i ≡ g z i
    name_kept z [] ws ys g i e = refl
    name_kept z (d ∷ ds) [] ys g i e = refl
    name_kept z (d ∷ ds) (w ∷ ws) [] g i e = refl
    name_kept z (d ∷ ds) (true ∷ ws) (y ∷ ys) g i e = let p = or_false (var_eq z y) (is_among z ys) e in name_kept z ds ws ys (set_all g y (v (plain d))) i p.1 ∙ set_all_other g z y (v (plain d)) i p.0
    name_kept z (d ∷ ds) (false ∷ ws) (y ∷ ys) g i e = name_kept z ds ws ys g i (or_false (var_eq z y) (is_among z ys) e).1

    -- what comes after the call keeps such a variable too
    put_cell_other : (x y : Var) (p : Place) (g : Store C) (i : ℕ) → is_in x p ≡ false → put_cell p y g x i ≡ g x i
    put_cell_other x y (whole z) g i e = refl
    put_cell_other x y (cell z j) g i e = ap (λ b. if b && (i == j) then g y 0 else g x i) e
    put_cell_other x y nowhere g i e = refl

    -- other cells stay
    put_cells_other : (x : Var) (ws : List Bool) (got : List (Actual C)) (ys : List Var) (g : Store C) (i : ℕ) → goes_into x ws got ≡ false → put_cells ws got ys g x i ≡ g x i
    put_cells_other x [] got ys g i e = refl
    put_cells_other x (w ∷ ws) [] ys g i e = refl
    put_cells_other x (w ∷ ws) (a ∷ got) [] g i e = refl
    put_cells_other x (true ∷ ws) (a ∷ got) (y ∷ ys) g i e = let p = or_false (is_in x a.place) (goes_into x ws got) e in put_cells_other x ws got ys (put_cell a.place y g) i p.1 ∙ put_cell_other x y a.place g i p.0
    put_cells_other x (false ∷ ws) (a ∷ got) (y ∷ ys) g i e = put_cells_other x ws got ys g i e

    -- what is put back goes into variables inside
    pub put_cell_outside : (z y : Var) (p : Place) (d : List ℕ) (g : Store C) → inside z ≡ false → StandsFor p y d → put_cell p y g z 0 ≡ g z 0
    put_cell_outside z y (whole x) d g h s = refl
    put_cell_outside z y (cell x i) d g h s = ap (λ b. if b && (0 == i) then g y 0 else g z 0) (not_same (var_eq z x) refl)
      where
        not_same : (b : Bool) → var_eq z x ≡ b → var_eq z x ≡ false
        not_same true e = absurd (let f : true ≡ false = sym s.1.0 ∙ ap inside (sym (var_same z x e)) ∙ h in cc)
        not_same false e = e
    put_cell_outside z y nowhere d g h s = refl

    module _ (x : Var) (i : ℕ) (hx : inside x ≡ true) (small : i < size_of (n.shape x)) where
      -- the source hands back to f; the kernel hands back to g by names, which gives k, and then puts cells back
      abbrev Claim : List (List ℕ) → List Bool → List (Actual C) → List Var → Store C → Store C → Store C → Type 0
      Claim ds ws got ys f g k = f x i ≡ g x i → k x i ≡ copied_out ds ws (by_names n t2 ys) v g x i → ((z : Var) → inside z ≡ false → k z 0 ≡ copied_out ds ws (by_names n t2 ys) v g z 0) → copied_out ds ws got u f x i ≡ put_cells ws got ys k x i

      -- an actual that is a whole variable, an element or nothing, by whether it is in x
      at_whole : (d : List ℕ) (ds : List (List ℕ)) (ws : List Bool) (got : List (Actual C)) (y : Var) (ys : List Var) (z : Var) (f g k : Store C) → StandsFor (whole z) y d → (is_in x (whole z) ≡ true → goes_into x ws got ≡ false) → AllStand ds ws got ys →
          ((f g k : Store C) → Claim ds ws got ys f g k) → (b : Bool) → var_eq x z ≡ b → f x i ≡ g x i → k x i ≡ copied_out ds ws (by_names n t2 ys) v (set_all g y (v (plain d))) x i →
          ((c : Var) → inside c ≡ false → k c 0 ≡ copied_out ds ws (by_names n t2 ys) v (set_all g y (v (plain d))) c 0) → copied_out ds ws got u (set_all f z (u (plain d))) x i ≡ put_cells ws got ys k x i
      at_whole d ds ws got y ys z f g k s once others ih true e a b c =
          let none = once e in
          copied_other x ds ws got u (set_all f z (u (plain d))) none i
          ∙ ap (λ b. if b then u (plain d) i else f x i) e
          ∙ s.1.1 i (subst (λ w. i < size_of (n.shape w)) (var_same x z e) small)
          ∙ sym (ap (λ b. if b then v (plain d) i else g x i) (ap (var_eq x) s.0 ∙ e))
          ∙ sym (named_other x ds ws got ys (set_all g y (v (plain d))) i hx none others)
          ∙ sym b
          ∙ sym (put_cells_other x ws got ys k i none)
      at_whole d ds ws got y ys z f g k s once others ih false e a b c =
          ih (set_all f z (u (plain d))) (set_all g y (v (plain d))) k
          (set_all_other f x z (u (plain d)) i e ∙ a ∙ sym (set_all_other g x y (v (plain d)) i (ap (var_eq x) s.0 ∙ e))) b c

      at_cell : (d : List ℕ) (ds : List (List ℕ)) (ws : List Bool) (got : List (Actual C)) (y : Var) (ys : List Var) (z : Var) (j : ℕ) (f g k : Store C) → StandsFor (cell z j) y d → is_among y ys ≡ false → (is_in x (cell z j) ≡ true → goes_into x ws got ≡ false) → AllStand ds ws got ys →
          ((f g k : Store C) → Claim ds ws got ys f g k) → (b : Bool) → var_eq x z ≡ b → f x i ≡ g x i → k x i ≡ copied_out ds ws (by_names n t2 ys) v (set_all g y (v (plain d))) x i →
          ((c : Var) → inside c ≡ false → k c 0 ≡ copied_out ds ws (by_names n t2 ys) v (set_all g y (v (plain d))) c 0) → copied_out ds ws got u (set f z j (u (plain d) 0)) x i ≡ put_cells ws got ys (set k z j (k y 0)) x i
      at_cell d ds ws got y ys z j f g k s new once others ih true e a b c =
          let none = once e in
          let handed : k y 0 ≡ v (plain d) 0 =
          c y s.0 ∙ name_kept y ds ws ys (set_all g y (v (plain d))) 0 new ∙ ap (λ b. if b then v (plain d) 0 else g y 0) (var_refl y)
          in
          let kept : k x i ≡ f x i =
          b ∙ named_other x ds ws got ys (set_all g y (v (plain d))) i hx none others ∙ set_all_other g x y (v (plain d)) i (apart_by x y hx s.0) ∙ sym a
          in
          copied_other x ds ws got u (set f z j (u (plain d) 0)) none i
          ∙ (λ l. if var_eq x z && (i == j) then s.1.1 l else sym kept l)
          ∙ ap (λ w. if var_eq x z && (i == j) then w else k x i) (sym handed)
          ∙ sym (put_cells_other x ws got ys (set k z j (k y 0)) i none)
      at_cell d ds ws got y ys z j f g k s new once others ih false e a b c =
          ih (set f z j (u (plain d) 0)) (set_all g y (v (plain d))) (set k z j (k y 0))
          (ap (λ b. if b && (i == j) then u (plain d) 0 else f x i) e ∙ a ∙ sym (set_all_other g x y (v (plain d)) i (apart_by x y hx s.0)))
          (ap (λ b. if b && (i == j) then k y 0 else k x i) e ∙ b)
          (λ z1 o. put_cell_outside z1 y (cell z j) d k o s ∙ c z1 o)

      at_none : (d : List ℕ) (ds : List (List ℕ)) (ws : List Bool) (got : List (Actual C)) (y : Var) (ys : List Var) (f g k : Store C) → inside y ≡ false → ((f g k : Store C) → Claim ds ws got ys f g k) → f x i ≡ g x i → k x i ≡ copied_out ds ws (by_names n t2 ys) v (set_all g y (v (plain d))) x i →
          ((c : Var) → inside c ≡ false → k c 0 ≡ copied_out ds ws (by_names n t2 ys) v (set_all g y (v (plain d))) c 0) → copied_out ds ws got u f x i ≡ put_cells ws got ys k x i
      at_none d ds ws got y ys f g k s ih a b c = ih f (set_all g y (v (plain d))) k (a ∙ sym (set_all_other g x y (v (plain d)) i (apart_by x y hx s))) b c

      at_place : (d : List ℕ) (ds : List (List ℕ)) (ws : List Bool) (got : List (Actual C)) (p : Place) (y : Var) (ys : List Var) (f g k : Store C) → StandsFor p y d → is_among y ys ≡ false → (is_in x p ≡ true → goes_into x ws got ≡ false) → AllStand ds ws got ys →
          ((f g k : Store C) → Claim ds ws got ys f g k) → f x i ≡ g x i → k x i ≡ copied_out ds ws (by_names n t2 ys) v (set_all g y (v (plain d))) x i →
          ((c : Var) → inside c ≡ false → k c 0 ≡ copied_out ds ws (by_names n t2 ys) v (set_all g y (v (plain d))) c 0) → copied_out ds ws got u (put p (u (plain d)) f) x i ≡ put_cells ws got ys (put_cell p y k) x i
      at_place d ds ws got (whole z) y ys f g k s new once others ih a b c = at_whole d ds ws got y ys z f g k s once others ih (var_eq x z) refl a b c
      at_place d ds ws got (cell z j) y ys f g k s new once others ih a b c = at_cell d ds ws got y ys z j f g k s new once others ih (var_eq x z) refl a b c
      at_place d ds ws got nowhere y ys f g k s new once others ih a b c = at_none d ds ws got y ys f g k s ih a b c

      -- both ways of handing back give the variable the same
      pub handed_alike : (ds : List (List ℕ)) (ws : List Bool) (got : List (Actual C)) (ys : List Var) → AllStand ds ws got ys → (f g k : Store C) → Claim ds ws got ys f g k
      handed_alike [] [] got ys s f g k a b c = a ∙ sym b
      handed_alike [] (w ∷ ws) got ys s f g k a b c = absurd s
      handed_alike (d ∷ ds) [] got ys s f g k a b c = a ∙ sym b
      handed_alike (d ∷ ds) (w ∷ ws) [] [] s f g k a b c = a ∙ sym b
      handed_alike (d ∷ ds) (w ∷ ws) [] (y ∷ ys) s f g k a b c = absurd s
      handed_alike (d ∷ ds) (w ∷ ws) (e ∷ got) [] s f g k a b c = absurd s
      handed_alike (d ∷ ds) (true ∷ ws) (e ∷ got) (y ∷ ys) s f g k a b c =
          at_place d ds ws got e.place y ys f g k (s.0 refl) s.1.0 (s.1.1.0 x hx refl) s.1.1.1 (λ f1 g1 k1. handed_alike ds ws got ys s.1.1.1 f1 g1 k1) a b c
      handed_alike (d ∷ ds) (false ∷ ws) (e ∷ got) (y ∷ ys) s f g k a b c = handed_alike ds ws got ys s.1.1.1 f g k a b c
