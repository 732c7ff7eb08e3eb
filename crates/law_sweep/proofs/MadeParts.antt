-- What is made for a unit: helpers, whose names are of a text, and what is declared.
use Rattle.std.proofs.Common.{◌≡◌, ℕ, zero, suc, Bool, true, false, List, [], ◌∷◌, ◌++◌, map, refl, sym, ap, ◌∙◌, if◌then◌else◌}
use Rattle.std.specs.Prelude.{◌&&◌, ◌||◌, Some, None}
use Rattle.adj_tree.specs.Code.{Var, plain, shadow, helper, Role, work, temp, control, first, stride, count, turn, entry, entries, kind, lower, upper, slots, name_eq, var_eq, Act, Code, Extent, Declaration, Procedure}
use Rattle.adj_tree.proofs.Names.{name_refl, name_same}
use Rattle.def_meaning.specs.Units.{declared}
use Rattle.def_meaning.specs.Apart.{has_name}
use Rattle.def_sweep.specs.Naming.{Named, name_in, naming, AreInside}
use Rattle.def_names.specs.Numbers.{Vars}
use Rattle.def_sweep.specs.Marked.{names_in}
use Rattle.def_sweep.specs.MarkedProgram.{declared_behind}
use Rattle.def_sweep.specs.Declared.{declaration, helpers_from, declared_helpers}
use Rattle.law_sweep.proofs.Naming.{AreMadeInside}
use Rattle.def_names.proofs.Variables.{or_left, or_right}
use Rattle.def_meaning.proofs.Variables.{name_comm}
use Rattle.def_sweep.specs.Plan.{Plan, Schedules, Step}
use Rattle.def_sweep.specs.Program.{helpers_forth, forth_slots, helpers_used_with, helpers_among, loop_helpers_with, goes_back_with, is_do, is_loop, depth_used_with, tells_some_with, works_used, temps_used, all_reversal_helpers, reversal_helpers, any_step, has_slots, reverses_by}

-- ---- names of a text

pub inside-made : (xs : List (List ℕ)) → AreInside xs → AreMadeInside (map shadow xs)
inside-made [] h = tt
inside-made (x ∷ xs) h = (h.0, inside-made xs h.1)

pub inside-among : (a : Vars) (xs : List (List ℕ)) → AreInside xs → AreInside (names_in a xs)
inside-among a [] h = tt
inside-among a (x ∷ xs) h = go (a (plain x)) (inside-among a xs h.1)
  where
    go : (b : Bool) → AreInside (names_in a xs) → AreInside (if b then x ∷ names_in a xs else names_in a xs)
    go true ih = (h.0, ih)
    go false ih = ih

pub made-append : (vs ws : List Var) → AreMadeInside vs → AreMadeInside ws → AreMadeInside (vs ++ ws)
made-append [] ws a b = b
made-append (v ∷ vs) ws a b = (a.0, made-append vs ws a.1 b)

pub helpers-inside : (r : Role) (k n : ℕ) → AreMadeInside (helpers_from r k n)
helpers-inside r k zero = tt
helpers-inside r k (suc n) = (tt, helpers-inside r (suc k) n)

among-inside : (f : ℕ → Bool) (r : Role) (k n : ℕ) → AreMadeInside (helpers_among f r k n)
among-inside f r k zero = tt
among-inside f r k (suc n) = go (f k) (among-inside f r (suc k) n)
  where
    go : (b : Bool) → AreMadeInside (helpers_among f r (suc k) n) → AreMadeInside (if b then helper r k ∷ helpers_among f r (suc k) n else helpers_among f r (suc k) n)
    go true h = (tt, h)
    go false h = h

-- ---- declarations

-- the declaration of a name bears it
declaration_name : (line : ℕ) (ds : List Declaration) (x : List ℕ) → (declaration line ds x).name ≡ x
declaration_name line [] x = refl
declaration_name line (d ∷ ds) x = go (name_eq d.name x) refl (declaration_name line ds x)
  where
    go : (b : Bool) → name_eq d.name x ≡ b → (declaration line ds x).name ≡ x → (if b then d else declaration line ds x).name ≡ x
    go true e ih = name_same d.name x e
    go false e ih = ih

-- two names are the same both ways
name_turned : (x y : List ℕ) → name_eq x y ≡ name_eq y x
name_turned [] [] = refl
name_turned [] (b ∷ y) = refl
name_turned (a ∷ x) [] = refl
name_turned (a ∷ x) (b ∷ y) = go (name_eq (a ∷ x) (b ∷ y)) refl
  where
    go : (t : Bool) → name_eq (a ∷ x) (b ∷ y) ≡ t → t ≡ name_eq (b ∷ y) (a ∷ x)
    go true e = sym (ap (λ z. name_eq z (a ∷ x)) (sym (name_same (a ∷ x) (b ∷ y) e)) ∙ name_refl (a ∷ x))
    go false e = sym (name_comm (a ∷ x) (b ∷ y) e)

-- and has the extents that are declared
declaration_extents : (line : ℕ) (ds : List Declaration) (x : List ℕ) → (declaration line ds x).extents ≡ declared ds (plain x)
declaration_extents line [] x = refl
declaration_extents line (d ∷ ds) x = go (name_eq d.name x) (name_eq x d.name) (name_turned d.name x) (declaration_extents line ds x)
  where
    go : (b c : Bool) → b ≡ c → (declaration line ds x).extents ≡ declared ds (plain x) → (if b then d else declaration line ds x).extents ≡ (if c then d.extents else declared ds (plain x))
    go true true e ih = refl
    go true false e ih = absurd cc
    go false true e ih = absurd cc
    go false false e ih = ih

pub helpers_none : (ns : List Named) (line : ℕ) (vs : List Var) (x : Var) → declared (declared_helpers ns line vs) x ≡ []
helpers_none ns line [] x = refl
helpers_none ns line (v ∷ vs) x = go (var_eq x (plain (name_in ns v))) (helpers_none ns line vs x)
  where
    go : (b : Bool) → declared (declared_helpers ns line vs) x ≡ [] → (if b then [] else declared (declared_helpers ns line vs) x) ≡ []
    go true ih = refl
    go false ih = ih

and_none : (b : Bool) → (b && false) ≡ false
and_none true = refl
and_none false = refl

-- ---- each declaration followed by that of its shadow

module _ (a : Vars) (ns : List Named) (u : Procedure) (separates : (v w : Var) → var_eq (naming ns v) (naming ns w) ≡ var_eq v w) where
  abbrev pub extents : List ℕ → List Extent
  extents x = declared u.declarations (plain x)

  -- what is found for a variable among these, and `r` elsewhere
  abbrev pub looked : List (List ℕ) → Var → List Extent → List Extent
  looked [] w r = r
  looked (x ∷ xs) w r = if var_eq w (plain x) then extents x else (if a (plain x) then (if var_eq w (shadow x) then extents x else looked xs w r) else looked xs w r)

  pub behind : (xs : List (List ℕ)) → ((x : List ℕ) → has_name x xs ≡ true → name_in ns (plain x) ≡ x) → (es : List Declaration) (w : Var) → declared (declared_behind a ns u xs ++ es) (naming ns w) ≡ looked xs w (declared es (naming ns w))
  behind [] own es w = refl
  behind (x ∷ xs) own es w =
      let d = declaration u.line u.declarations x in
      let at : name_in ns (plain x) ≡ x = own x (or_left (name_eq x x) (has_name x xs) (name_refl x)) in
      let same : var_eq (naming ns w) (plain d.name) ≡ var_eq w (plain x) = ap (λ z. var_eq (naming ns w) (plain z)) (declaration_name u.line u.declarations x ∙ sym at) ∙ separates w (plain x) in
      let ext : d.extents ≡ extents x = declaration_extents u.line u.declarations x in
      let second : var_eq (naming ns w) (naming ns (shadow x)) ≡ var_eq w (shadow x) = separates w (shadow x) in
      go (a (plain x)) same second ext (behind xs (λ y h. own y (or_right (name_eq y x) (has_name y xs) h)) es w)
    where
      go : (b : Bool) → var_eq (naming ns w) (plain (declaration u.line u.declarations x).name) ≡ var_eq w (plain x) → var_eq (naming ns w) (naming ns (shadow x)) ≡ var_eq w (shadow x) → (declaration u.line u.declarations x).extents ≡ extents x → declared (declared_behind a ns u xs ++ es) (naming ns w) ≡ looked xs w (declared es (naming ns w)) →
          declared ((if b then declaration u.line u.declarations x ∷ record (declaration u.line u.declarations x) { name = name_in ns (shadow x) } ∷ declared_behind a ns u xs else declaration u.line u.declarations x ∷ declared_behind a ns u xs) ++ es) (naming ns w) ≡ (if var_eq w (plain x) then extents x else (if b then (if var_eq w (shadow x) then extents x else looked xs w (declared es (naming ns w))) else looked xs w (declared es (naming ns w))))
      go true same second ext ih = λ i. if same i then ext i else (if second i then ext i else ih i)
      go false same second ext ih = λ i. if same i then ext i else ih i

  pub look_plain : (xs : List (List ℕ)) (y : List ℕ) (r : List Extent) → looked xs (plain y) r ≡ (if has_name y xs then extents y else r)
  look_plain [] y r = refl
  look_plain (x ∷ xs) y r = go (name_eq y x) refl (a (plain x)) (look_plain xs y r)
    where
      go : (b : Bool) → name_eq y x ≡ b → (c : Bool) → looked xs (plain y) r ≡ (if has_name y xs then extents y else r) → (if b then extents x else (if c then looked xs (plain y) r else looked xs (plain y) r)) ≡ (if b || has_name y xs then extents y else r)
      go true e c ih = ap extents (sym (name_same y x e))
      go false e true ih = ih
      go false e false ih = ih

  pub look_shadow : (xs : List (List ℕ)) (y : List ℕ) (r : List Extent) → looked xs (shadow y) r ≡ (if has_name y xs && a (plain y) then extents y else r)
  look_shadow [] y r = refl
  look_shadow (x ∷ xs) y r = go (name_eq y x) refl (a (plain x)) refl (a (plain y)) refl (look_shadow xs y r)
    where
      go : (b : Bool) → name_eq y x ≡ b → (c : Bool) → a (plain x) ≡ c → (d : Bool) → a (plain y) ≡ d → looked xs (shadow y) r ≡ (if has_name y xs && a (plain y) then extents y else r) → (if c then (if b then extents x else looked xs (shadow y) r) else looked xs (shadow y) r) ≡ (if (b || has_name y xs) && d then extents y else r)
      go true e true ex true ey ih = ap extents (sym (name_same y x e))
      go true e true ex false ey ih = absurd (let p : true ≡ false = sym ex ∙ ap (λ z. a (plain z)) (sym (name_same y x e)) ∙ ey in cc)
      go true e false ex true ey ih = absurd (let p : false ≡ true = sym ex ∙ ap (λ z. a (plain z)) (sym (name_same y x e)) ∙ ey in cc)
      go true e false ex false ey ih = ih ∙ ap (λ t. if t then extents y else r) (ap (λ t. has_name y xs && t) ey ∙ and_none (has_name y xs))
      go false e true ex d ey ih = ih ∙ ap (λ t. if has_name y xs && t then extents y else r) ey
      go false e false ex d ey ih = ih ∙ ap (λ t. if has_name y xs && t then extents y else r) ey

  pub look_helper : (xs : List (List ℕ)) (o : Role) (k : ℕ) (r : List Extent) → looked xs (helper o k) r ≡ r
  look_helper [] o k r = refl
  look_helper (x ∷ xs) o k r = go (a (plain x)) (look_helper xs o k r)
    where
      go : (c : Bool) → looked xs (helper o k) r ≡ r → (if c then looked xs (helper o k) r else looked xs (helper o k) r) ≡ r
      go true ih = ih
      go false ih = ih

-- ---- helpers

pub helpers_made : (r : Schedules) (p : Plan) (i : ℕ) (c : Code) → AreMadeInside (helpers_used_with r p i c)
helpers_made r p i c =
    let of_loops = λ (sort : Act → Bool) (o : Role). among-inside (λ k. goes_back_with r sort k p i 0 c) o 1 (depth_used_with r p i 0 c) in
    made-append (if tells_some_with r p i 0 c then helper control 0 ∷ [] else []) _ (control_inside (tells_some_with r p i 0 c))
    (made-append (loop_helpers_with r is_loop count p i c) _ (of_loops is_loop count)
    (made-append (loop_helpers_with r is_do first p i c) _ (of_loops is_do first)
    (made-append (loop_helpers_with r is_do stride p i c) _ (of_loops is_do stride)
    (made-append (loop_helpers_with r is_loop turn p i c) _ (of_loops is_loop turn)
    (made-append (all_reversal_helpers r p i c) _ (reversals_inside r p i c)
    (made-append (helpers_from work 1 (works_used p.marks i c)) _ (helpers-inside work 1 (works_used p.marks i c)) (helpers-inside temp 1 (temps_used p.marks i c))))))))
  where
    control_inside : (b : Bool) → AreMadeInside (if b then helper control 0 ∷ [] else [])
    control_inside true = (tt, tt)
    control_inside false = tt

    reversals_inside : (r : Schedules) (p : Plan) (i : ℕ) (c : Code) → AreMadeInside (all_reversal_helpers r p i c)
    reversals_inside None p i c = tt
    reversals_inside (Some reads) p i c =
        let r = Some reads in
        let each = λ (sort : Step → Bool) (o : Role). among-inside (λ k. reverses_by r sort k p i 0 c) o 1 (depth_used_with r p i 0 c) in
        made-append (reversal_helpers r any_step entry p i c) _ (each any_step entry)
        (made-append (reversal_helpers r any_step entries p i c) _ (each any_step entries)
        (made-append (reversal_helpers r any_step kind p i c) _ (each any_step kind)
        (made-append (reversal_helpers r any_step lower p i c) _ (each any_step lower)
        (made-append (reversal_helpers r any_step upper p i c) _ (each any_step upper) (each has_slots slots)))))

pub forth_made : (r : Schedules) (p : Plan) (i : ℕ) (c : Code) → AreMadeInside (helpers_forth r p i c)
forth_made r p i c =
    let of_loops = λ (sort : Act → Bool) (o : Role). among-inside (λ k. goes_back_with r sort k p i 0 c) o 1 (depth_used_with r p i 0 c) in
    made-append (loop_helpers_with r is_loop count p i c) _ (of_loops is_loop count)
    (made-append (loop_helpers_with r is_do first p i c) _ (of_loops is_do first)
    (made-append (loop_helpers_with r is_do stride p i c) _ (of_loops is_do stride) (slots_made r)))
  where
    slots_made : (r : Schedules) → AreMadeInside (forth_slots r p i c)
    slots_made None = tt
    slots_made (Some reads) = among-inside (λ k. reverses_by (Some reads) has_slots k p i 0 c) slots 1 (depth_used_with (Some reads) p i 0 c)
