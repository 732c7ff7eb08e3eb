-- Which units code calls, by its text and by marks.
use Rattle.std.proofs.Common.{◌≡◌, ℕ, zero, suc, Bool, true, false, List, [], ◌∷◌, ◌++◌, map, refl, sym, ap, ◌∙◌, if◌then◌else◌}
use Rattle.std.specs.Prelude.{◌||◌, ◌&&◌, not, length, flat_map, Option, Some, None}
use Rattle.std.proofs.lemmas.Grind.{flat_map-append}
use Rattle.adj_tree.specs.Code.{name_eq, Act, assign, choose, loop, during, call, runtime, Code, stop, step, Procedure}
use Rattle.adj_tree.specs.Lines.{unlined_act, unlined_code}
use Rattle.adj_tree.proofs.Names.{name_refl, name_same}
use Rattle.law_meaning.specs.Common.{CallsInside', CallsInside}
use Rattle.def_meaning.specs.Written.{find_unit}
use Rattle.def_names.specs.Statements.{At, statements}
use Rattle.def_meaning.specs.Apart.{has_name, AreApart}
use Rattle.def_names.specs.Numbers.{next, behind}
use Rattle.def_sweep.specs.Declared.{unit_name}
use Rattle.def_names.proofs.Variables.{and_true, or_left, or_right, has_apart}
use Rattle.def_meaning.proofs.Variables.{name_comm}
use Rattle.def_sweep.specs.Marking.{first_from}
use Rattle.def_sweep.specs.Plan.{Plan, found_or, Schedules, Step, reversed_by}
use Rattle.def_sweep.specs.Program.{calls_act, calls_in, calls_some, turns_act, turns_in, turns_some, reached_after}
use Rattle.law_sweep.specs.Source.{is_unit, CallUnits}
use Rattle.law_sweep.proofs.ByStep.{step_inside}
use Rattle.law_sweep.proofs.Names.{has-append}
use Rattle.law_sweep.proofs.Rounds.{either, calls_rise, reached_last}
use Rattle.law_sweep.proofs.EmittedUnits.{some_there}
use Rattle.def_adjoint.specs.Shape.{gathered, own_call, called}
use Rattle.law_shape.proofs.Gathered.{gathered_step, inside, due_act, due_code}

-- ---- what is called by marks

-- a split call calls the forward unit, which x isn't
module _ (p : Plan) (x : List ℕ) (inside : List ℕ → Bool) (apart : (name : List ℕ) → inside name ≡ true → name_eq x (p.callees name).forth ≡ false) where
  abbrev plainly : ℕ → Bool
  plainly j = p.marks.kept j && not (p.marks.split j)

  abbrev chosen : ℕ → Act → List (List ℕ)
  chosen i a = if p.marks.kept i then called (own_call p i a) else []

  none_chosen : (b : Bool) → has_name x (if b then [] else []) ≡ false
  none_chosen true = refl
  none_chosen false = refl

  with_none : (b : Bool) (xs : List (List ℕ)) → has_name x ((if b then [] else []) ++ xs) ≡ has_name x xs
  with_none true xs = refl
  with_none false xs = refl

  mutual
    chosen_act : (i : ℕ) (a : Act) → CallsInside' inside a → has_name x (due_act chosen i a) ≡ calls_act plainly x i a
    chosen_act i (assign y subs e) k = none_chosen (p.marks.kept i)
    chosen_act i (choose c a b) k =
        with_none (p.marks.kept i) (due_code chosen (suc i) a ++ due_code chosen (behind (suc i) a) b)
        ∙ has-append x (due_code chosen (suc i) a) (due_code chosen (behind (suc i) a) b)
        ∙ (λ j. chosen_code (suc i) a k.0 j || chosen_code (behind (suc i) a) b k.1 j)
    chosen_act i (loop y a b c body m) k = with_none (p.marks.kept i) (due_code chosen (suc i) body) ∙ chosen_code (suc i) body k
    chosen_act i (during c body) k = with_none (p.marks.kept i) (due_code chosen (suc i) body) ∙ chosen_code (suc i) body k
    chosen_act i (call name args) k = go (p.marks.kept i) (p.marks.split i)
      where
        or_none : (b : Bool) → (b || false) ≡ b
        or_none true = refl
        or_none false = refl

        go : (b s : Bool) → has_name x (if b then called (if s then call (p.callees name).forth args else call name args) else []) ≡ ((b && not s) && name_eq x name)
        go true true = or_none (name_eq x (p.callees name).forth) ∙ apart name k
        go true false = or_none (name_eq x name)
        go false s = refl
    chosen_act i (runtime r) k = none_chosen (p.marks.kept i)

    pub chosen_code : (i : ℕ) (c : Code) → CallsInside inside c → has_name x (due_code (λ i a. if p.marks.kept i then called (own_call p i a) else []) i c) ≡ calls_in (λ j. p.marks.kept j && not (p.marks.split j)) x i c
    chosen_code i stop k = refl
    chosen_code i (step line a rest) k = has-append x (due_act chosen i a) (due_code chosen (next i a) rest) ∙ (λ j. chosen_act i a k.0 j || chosen_code (next i a) rest k.1 j)

-- ---- what is called at all

module _ (x : List ℕ) where
  parts_called : (a b : Code) → flat_map (λ (s : At Act). called s.1) (statements a ++ statements b) ≡ gathered called a ++ gathered called b
  parts_called a b = flat_map-append (λ (s : At Act). called s.1) (statements a) (statements b)

  or_none : (b : Bool) → (b || false) ≡ b
  or_none true = refl
  or_none false = refl

  mutual
    all_act : (i : ℕ) (a : Act) → (has_name x (called (unlined_act a)) || has_name x (inside called (unlined_act a))) ≡ calls_act (λ j. true) x i a
    all_act i (assign y subs e) = refl
    all_act i (choose c a b) = ap (has_name x) (parts_called (unlined_code a) (unlined_code b)) ∙ has-append x (gathered called (unlined_code a)) (gathered called (unlined_code b)) ∙ (λ j. all_code (suc i) a j || all_code (behind (suc i) a) b j)
    all_act i (loop y a b c body m) = all_code (suc i) body
    all_act i (during c body) = all_code (suc i) body
    all_act i (call name args) = or_none (name_eq x name || false) ∙ or_none (name_eq x name)
    all_act i (runtime r) = refl

    pub all_code : (i : ℕ) (c : Code) → has_name x (gathered called (unlined_code c)) ≡ calls_in (λ j. true) x i c
    all_code i stop = refl
    all_code i (step line a rest) =
        ap (has_name x) (gathered_step called 0 (unlined_act a) (unlined_code rest))
        ∙ has-append x (called (unlined_act a)) (inside called (unlined_act a) ++ gathered called (unlined_code rest))
        ∙ ap (λ b. has_name x (called (unlined_act a)) || b) (has-append x (inside called (unlined_act a)) (gathered called (unlined_code rest)))
        ∙ sym (assoc (has_name x (called (unlined_act a))) (has_name x (inside called (unlined_act a))) (has_name x (gathered called (unlined_code rest))))
        ∙ (λ j. all_act i a j || all_code (next i a) rest j)
      where
        assoc : (a b c : Bool) → ((a || b) || c) ≡ (a || (b || c))
        assoc true b c = refl
        assoc false b c = refl

  -- so what code calls that calls units of a set alone is in the set
  mutual
    within_act : (p : List ℕ → Bool) (i : ℕ) (a : Act) → CallsInside' p a → calls_act (λ j. true) x i a ≡ true → p x ≡ true
    within_act p i (assign y subs e) k h = absurd cc
    within_act p i (choose c a b) k h = either (calls_in (λ j. true) x (suc i) a) (calls_in (λ j. true) x (behind (suc i) a) b) (p x) h (within_code p (suc i) a k.0) (within_code p (behind (suc i) a) b k.1)
    within_act p i (loop y a b c body n) k h = within_code p (suc i) body k h
    within_act p i (during c body) k h = within_code p (suc i) body k h
    within_act p i (call other args) k h = ap p (name_same x other h) ∙ k
    within_act p i (runtime r) k h = absurd cc

    pub within_code : (p : List ℕ → Bool) (i : ℕ) (c : Code) → CallsInside p c → calls_in (λ j. true) x i c ≡ true → p x ≡ true
    within_code p i stop k h = absurd cc
    within_code p i (step line a rest) k h = either (calls_act (λ j. true) x i a) (calls_in (λ j. true) x (next i a) rest) (p x) h (within_act p i a k.0) (within_code p (next i a) rest k.1)

  -- and so is a unit that a loop turns that is reversed
  mutual
    turned_act : (p : List ℕ → Bool) (sc : Schedules) (f : ℕ → Bool) (i : ℕ) (a : Act) → CallsInside' p a → turns_act sc f x i a ≡ true → p x ≡ true
    turned_act p sc f i (assign y subs e) k h = absurd cc
    turned_act p sc f i (choose c a b) k h = either (turns_in sc f x (suc i) a) (turns_in sc f x (behind (suc i) a) b) (p x) h (turned_code p sc f (suc i) a k.0) (turned_code p sc f (behind (suc i) a) b k.1)
    turned_act p sc f i (loop y a b c body m) k h = go (reversed_by sc f i body m) refl h (turned_code p sc f (suc i) body k)
      where
        go : (t : Option Step) → reversed_by sc f i body m ≡ t → found_or t (turns_in sc f x (suc i) body) (λ s. name_eq x s.name) ≡ true → (turns_in sc f x (suc i) body ≡ true → p x ≡ true) → p x ≡ true
        go None e h ih = ih h
        go (Some s) e h ih = ap p (name_same x s.name h) ∙ step_inside p sc f i body m s e k
    turned_act p sc f i (during c body) k h = turned_code p sc f (suc i) body k h
    turned_act p sc f i (call other args) k h = absurd cc
    turned_act p sc f i (runtime r) k h = absurd cc

    turned_code : (p : List ℕ → Bool) (sc : Schedules) (f : ℕ → Bool) (i : ℕ) (c : Code) → CallsInside p c → turns_in sc f x i c ≡ true → p x ≡ true
    turned_code p sc f i stop k h = absurd cc
    turned_code p sc f i (step line a rest) k h = either (turns_act sc f x i a) (turns_in sc f x (next i a) rest) (p x) h (turned_act p sc f i a k.0) (turned_code p sc f (next i a) rest k.1)

  pub turned_there : (ps us : List Procedure) → CallUnits ps us → (sc : Schedules) (among : List ℕ → Bool) (f : ℕ → Bool) (i : ℕ) → turns_some sc among f x i us ≡ true → is_unit ps x ≡ true
  turned_there ps [] k sc among f i h = absurd cc
  turned_there ps (u ∷ us) k sc among f i h =
      either (among u.name && turns_in sc f x i u.body) (turns_some sc among f x (behind i u.body) us) (is_unit ps x) h
      (λ e. turned_code (is_unit ps) sc f i u.body k.0 (and_true (among u.name) (turns_in sc f x i u.body) e).1)
      (turned_there ps us k.1 sc among f (behind i u.body))

-- ---- a unit that calls

-- whether a body has some property, by the number of its first statement, for a unit of a set
abbrev pub some_body : (List ℕ → Bool) → (ℕ → Code → Bool) → ℕ → List Procedure → Bool
some_body among t i [] = false
some_body among t i (u ∷ us) = (among u.name && t i u.body) || some_body among t (behind i u.body) us

pub some_calls : (among : List ℕ → Bool) (f : ℕ → Bool) (n : List ℕ) (i : ℕ) (us : List Procedure) → calls_some among f n i us ≡ some_body among (calls_in f n) i us
some_calls among f n i [] = refl
some_calls among f n i (u ∷ us) = ap (λ b. (among u.name && calls_in f n i u.body) || b) (some_calls among f n (behind i u.body) us)

pub some_turns : (sc : Schedules) (among : List ℕ → Bool) (f : ℕ → Bool) (n : List ℕ) (i : ℕ) (us : List Procedure) → turns_some sc among f n i us ≡ some_body among (turns_in sc f n) i us
some_turns sc among f n i [] = refl
some_turns sc among f n i (u ∷ us) = ap (λ b. (among u.name && turns_in sc f n i u.body) || b) (some_turns sc among f n (behind i u.body) us)

-- that unit
pub record Caller (among : List ℕ → Bool) (t : ℕ → Code → Bool) (i : ℕ) (us : List Procedure) : Type 0 where
  pub unit : Procedure
  pub found : find_unit us unit.name ≡ Some unit
  pub inside : among unit.name ≡ true
  pub calling : t (first_from i us unit.name) unit.body ≡ true

pub caller : (among : List ℕ → Bool) (t : ℕ → Code → Bool) (i : ℕ) (us : List Procedure) → AreApart (map unit_name us) → some_body among t i us ≡ true → Caller among t i us
caller among t i [] a h = absurd cc
caller among t i (u ∷ us) a h = go (among u.name && t i u.body) refl h (λ k. later (caller among t (behind i u.body) us a.1 k))
  where
    here : (among u.name && t i u.body) ≡ true → Caller among t i (u ∷ us)
    here e = let p = and_true (among u.name) (t i u.body) e in record { unit = u; found = ap (λ b. if b then Some u else find_unit us u.name) (name_refl u.name); inside = p.0; calling = ap (λ b. t (if b then i else first_from (behind i u.body) us u.name) u.body) (name_refl u.name) ∙ p.1 }

    later : Caller among t (behind i u.body) us → Caller among t i (u ∷ us)
    later c =
        let w = c.unit in
        let other : name_eq u.name w.name ≡ false = name_comm w.name u.name (has_apart w.name u.name (map unit_name us) (stands us w.name w c.found) a.0) in
        record { unit = w; found = ap (λ b. if b then Some u else find_unit us w.name) other ∙ c.found; inside = c.inside; calling = ap (λ b. t (if b then i else first_from (behind i u.body) us w.name) w.body) other ∙ c.calling }
      where
        stands : (vs : List Procedure) (z : List ℕ) (w : Procedure) → find_unit vs z ≡ Some w → has_name z (map unit_name vs) ≡ true
        stands [] z w h = absurd cc
        stands (v ∷ vs) z w h = at (name_eq v.name z) refl h (stands vs z w)
          where
            at : (b : Bool) → name_eq v.name z ≡ b → (if b then Some v else find_unit vs z) ≡ Some w → (find_unit vs z ≡ Some w → has_name z (map unit_name vs) ≡ true) → (name_eq z v.name || has_name z (map unit_name vs)) ≡ true
            at true e h ih = or_left (name_eq z v.name) (has_name z (map unit_name vs)) (ap (λ y. name_eq z y) (name_same v.name z e) ∙ name_refl z)
            at false e h ih = or_right (name_eq z v.name) (has_name z (map unit_name vs)) (ih h)

    go : (b : Bool) → (among u.name && t i u.body) ≡ b → (b || some_body among t (behind i u.body) us) ≡ true → (some_body among t (behind i u.body) us ≡ true → Caller among t i (u ∷ us)) → Caller among t i (u ∷ us)
    go true e h ih = here e
    go false e h ih = ih h

-- ---- what is reached in some rounds is reached

module _ (roots : List ℕ → Bool) (f : ℕ → Bool) (ps : List Procedure) (there : (n : List ℕ) → roots n ≡ true → is_unit ps n ≡ true) (known : CallUnits ps ps) where
  pub reached_in : (k : ℕ) (n : List ℕ) → reached_after roots f ps k n ≡ true → reached_after roots f ps (length ps) n ≡ true
  reached_in zero n h = absurd cc
  reached_in (suc k) n h =
      either (roots n) (calls_some (reached_after roots f ps k) f n 0 ps) (reached_after roots f ps (length ps) n) h
      (λ e. reached_last roots f ps n (there n e) (or_left (roots n) (calls_some (reached_after roots f ps (length ps)) f n 0 ps) e))
      (λ e.
      let risen = calls_rise (reached_after roots f ps k) (reached_after roots f ps (length ps)) (reached_in k) f n 0 ps e in
      reached_last roots f ps n (some_there ps ps known (reached_after roots f ps k) f n 0 e) (or_right (roots n) (calls_some (reached_after roots f ps (length ps)) f n 0 ps) risen))
