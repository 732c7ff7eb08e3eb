-- Each unit of the source and each step unit is found in the stepped program.
use Rattle.std.proofs.Common.{◌≡◌, ℕ, zero, suc, ◌+◌, ◌<◌, ◌≤◌, ◌⊎◌, inl, inr, Bool, true, false, List, [], ◌∷◌, ◌++◌, map, refl, sym, ap, ◌∙◌, arith, subst}
use Rattle.std.proofs.lemmas.Bool.{cases_lt, or_cases}
use Rattle.std.proofs.lemmas.List.{append_assoc, map-append}
use Rattle.std.specs.Prelude.{◌||◌, flat_map, Some, if◌then◌else◌}
use Rattle.adj_tree.specs.Code.{name_eq, unmarked, with_count, count_from, Act, assign, choose, loop, during, call, runtime, Code, stop, step, Procedure}
use Rattle.adj_tree.proofs.Names.{name_refl, name_same}
use Rattle.def_meaning.specs.Written.{find_unit}
use Rattle.def_meaning.proofs.Booleans.{or_false, or_first, or_second}
use Rattle.def_meaning.specs.Apart.{has_name}
use Rattle.def_names.proofs.Fresh.{fresh-is_free}
use Rattle.def_names.proofs.NameLists.{has-append}
use Rattle.def_meaning.proofs.Variables.{name_comm}
use Rattle.def_names.proofs.Variables.{not_true}
use Rattle.def_kernel.specs.Kernel.{unit_name, names_of}
use Rattle.def_kernel.specs.Stepped.{marked_in, marked_in_act, wanted_step, step_names, step_name, step_unit, step_units_in_act, step_units_in, cut, stepped_from, names_of_source, stepped_program}
use Rattle.law_kernel.specs.StepTheorem.{StepsThereAct, StepsThere, IsStepFor}
use Rattle.law_kernel.proofs.Locals.{has_first, has_second}

-- neither
pub neither : (x : List ℕ) (xs ys : List (List ℕ)) → has_name x xs ≡ false → has_name x ys ≡ false → has_name x (xs ++ ys) ≡ false
neither x xs ys h g = has-append x xs ys ∙ ap (λ z. z || has_name x ys) h ∙ g

-- from either
one_of : {A B D : Type 0} → A ⊎ B → (A → D) → (B → D) → D
one_of (inl a) f g = f a
one_of (inr b) f g = g b

-- ---- names of step units are apart

module _ (taken : List (List ℕ)) (base : List ℕ) where
  abbrev name_at : ℕ → List ℕ
  name_at k = step_name taken base k

  pub not_taken : (k : ℕ) → has_name (name_at k) taken ≡ false
  not_taken k = (or_false (has_name (name_at k) taken) (has_name (name_at k) (step_names taken base k)) (sym (has-append (name_at k) taken (step_names taken base k)) ∙ fresh-is_free (wanted_step base k) (taken ++ step_names taken base k))).0

  earlier_there : (i j : ℕ) → i < j → has_name (name_at i) (step_names taken base j) ≡ true
  earlier_there i zero h = absurd (omega arith)
  earlier_there i (suc j) h = go (λ l. earlier_there i j l) (cases_lt i j)
    where
      go : (i < j → has_name (name_at i) (step_names taken base j) ≡ true) → (i < j) ⊎ (j ≤ i) → has_name (name_at i) (step_names taken base j ++ (name_at j ∷ [])) ≡ true
      go ih (inl l) = has_first (name_at i) (step_names taken base j) (name_at j ∷ []) (ih l)
      go ih (inr l) = let e : i ≡ j = omega (arith, l, h) in has_second (name_at i) (step_names taken base j) (name_at j ∷ []) (or_first (name_eq (name_at i) (name_at j)) false (ap (λ z. name_eq (name_at i) (name_at z)) (sym e) ∙ name_refl (name_at i)))

  pub later_apart : (i j : ℕ) → i < j → name_eq (name_at j) (name_at i) ≡ false
  later_apart i j h =
      not_true (name_eq (name_at j) (name_at i)) (λ e.
      let free = (or_false (has_name (name_at j) taken) (has_name (name_at j) (step_names taken base j)) (sym (has-append (name_at j) taken (step_names taken base j)) ∙ fresh-is_free (wanted_step base j) (taken ++ step_names taken base j))).1 in
      let there = ap (λ z. has_name z (step_names taken base j)) (name_same (name_at j) (name_at i) e) ∙ earlier_there i j h in
      let z : true ≡ false = sym there ∙ free in cc)

  -- a name that is taken is no step unit's
  pub not_in_names : (x : List ℕ) → has_name x taken ≡ true → (k : ℕ) → has_name x (step_names taken base k) ≡ true → ⊥
  not_in_names x t zero h = absurd cc
  not_in_names x t (suc k) h =
      one_of (or_cases (has_name x (step_names taken base k)) (name_eq x (name_at k) || false) (sym (has-append x (step_names taken base k) (name_at k ∷ [])) ∙ h)) (λ g. not_in_names x t k g)
      (λ g. one_of (or_cases (name_eq x (name_at k)) false g) (λ e. let z : true ≡ false = sym t ∙ ap (λ y. has_name y taken) (name_same x (name_at k) e) ∙ not_taken k in cc) (λ e. absurd cc))

-- ---- finding

-- units of other names are passed over
skip : (before rest : List Procedure) (name : List ℕ) → has_name name (map unit_name before) ≡ false → find_unit (before ++ rest) name ≡ find_unit rest name
skip [] rest name h = refl
skip (u ∷ us) rest name h =
    let p = or_false (name_eq name u.name) (has_name name (map unit_name us)) h in
    ap (λ b. if b then Some u else find_unit (us ++ rest) name) (name_comm name u.name p.0) ∙ skip us rest name p.1

-- a unit is found at its place
here : (u : Procedure) (rest : List Procedure) → find_unit (u ∷ rest) u.name ≡ Some u
here u rest = ap (λ b. if b then Some u else find_unit rest u.name) (name_refl u.name)

module _ (taken : List (List ℕ)) (u : Procedure) where
  mutual
    -- later names aren't those of the step units of a list
    pub later_act : (k line : ℕ) (a : Act) (i : ℕ) → k + marked_in_act a ≤ i → has_name (step_name taken u.name i) (map unit_name (step_units_in_act taken u k line a)) ≡ false
    later_act k line (assign x subs e) i le = refl
    later_act k line (choose c a b) i le =
        ap (has_name (step_name taken u.name i)) (map-append unit_name (step_units_in taken u k a) (step_units_in taken u (k + marked_in a) b))
        ∙ neither (step_name taken u.name i) (map unit_name (step_units_in taken u k a)) (map unit_name (step_units_in taken u (k + marked_in a) b)) (later_code k a i (omega (arith, le))) (later_code (k + marked_in a) b i (omega (arith, le)))
    later_act k line (loop x first last by body unmarked) i le = later_code k body i le
    later_act k line (loop x first last by body (with_count m)) i le =
        ap (λ z. z || has_name (step_name taken u.name i) (map unit_name (step_units_in taken u (suc k) body))) (later_apart taken u.name k i (omega (arith, le))) ∙ later_code (suc k) body i (omega (arith, le))
    later_act k line (loop x first last by body (count_from counter)) i le =
        ap (λ z. z || has_name (step_name taken u.name i) (map unit_name (step_units_in taken u (suc k) body))) (later_apart taken u.name k i (omega (arith, le))) ∙ later_code (suc k) body i (omega (arith, le))
    later_act k line (during c body) i le = later_code k body i le
    later_act k line (call name args) i le = refl
    later_act k line (runtime r) i le = refl

    pub later_code : (k : ℕ) (c : Code) (i : ℕ) → k + marked_in c ≤ i → has_name (step_name taken u.name i) (map unit_name (step_units_in taken u k c)) ≡ false
    later_code k stop i le = refl
    later_code k (step line a rest) i le =
        ap (has_name (step_name taken u.name i)) (map-append unit_name (step_units_in_act taken u k line a) (step_units_in taken u (k + marked_in_act a) rest))
        ∙ neither (step_name taken u.name i) (map unit_name (step_units_in_act taken u k line a)) (map unit_name (step_units_in taken u (k + marked_in_act a) rest)) (later_act k line a i (omega (arith, le))) (later_code (k + marked_in_act a) rest i (omega (arith, le)))

  module _ (whole : List Procedure) where
    -- no name from the k-th on stands before
    abbrev NoneBefore : List Procedure → ℕ → Type 0
    NoneBefore before k = (i : ℕ) → k ≤ i → has_name (step_name taken u.name i) (map unit_name before) ≡ false

    none_more : (before more : List Procedure) (k j : ℕ) → k ≤ j → NoneBefore before k → ((i : ℕ) → j ≤ i → has_name (step_name taken u.name i) (map unit_name more) ≡ false) → NoneBefore (before ++ more) j
    none_more before more k j le h g i l =
        ap (has_name (step_name taken u.name i)) (map-append unit_name before more) ∙ neither (step_name taken u.name i) (map unit_name before) (map unit_name more) (h i (omega (arith, le, l))) (g i l)

    mutual
      -- step units are found
      there_act : (k line : ℕ) (a : Act) (before after : List Procedure) → whole ≡ before ++ (step_units_in_act taken u k line a ++ after) → NoneBefore before k → StepsThereAct whole taken u k line a
      there_act k line (assign x subs e) before after w n = tt
      there_act k line (choose c a b) before after w n =
          let first = step_units_in taken u k a in let second = step_units_in taken u (k + marked_in a) b in (
            there_code k a before (second ++ after) (w ∙ ap (λ z. before ++ z) (append_assoc first second after)) n,
            there_code (k + marked_in a) b (before ++ first) after (w ∙ ap (λ z. before ++ z) (append_assoc first second after) ∙ sym (append_assoc before first (second ++ after)))
                (none_more before first k (k + marked_in a) (omega arith) n (λ i l. later_code k a i l)),
          )
      there_act k line (loop x first last by body unmarked) before after w n = there_code k body before after w n
      there_act k line (loop x first last by body (with_count m)) before after w n =
          let unit = step_unit taken u k line x body in let inner = step_units_in taken u (suc k) body in (
            ap (λ z. find_unit z unit.name) w ∙ skip before (unit ∷ (inner ++ after)) unit.name (n k (omega arith)) ∙ here unit (inner ++ after),
            there_code (suc k) body (before ++ (unit ∷ [])) after (w ∙ sym (append_assoc before (unit ∷ []) (inner ++ after)))
                (none_more before (unit ∷ []) k (suc k) (omega arith) n (λ i l. ap (λ z. z || false) (later_apart taken u.name k i (omega (arith, l))))),
          )
      there_act k line (loop x first last by body (count_from counter)) before after w n =
          let unit = step_unit taken u k line x body in let inner = step_units_in taken u (suc k) body in (
            ap (λ z. find_unit z unit.name) w ∙ skip before (unit ∷ (inner ++ after)) unit.name (n k (omega arith)) ∙ here unit (inner ++ after),
            there_code (suc k) body (before ++ (unit ∷ [])) after (w ∙ sym (append_assoc before (unit ∷ []) (inner ++ after)))
                (none_more before (unit ∷ []) k (suc k) (omega arith) n (λ i l. ap (λ z. z || false) (later_apart taken u.name k i (omega (arith, l))))),
          )
      there_act k line (during c body) before after w n = there_code k body before after w n
      there_act k line (call name args) before after w n = tt
      there_act k line (runtime r) before after w n = tt

      pub there_code : (k : ℕ) (c : Code) (before after : List Procedure) → whole ≡ before ++ (step_units_in taken u k c ++ after) → NoneBefore before k → StepsThere whole taken u k c
      there_code k stop before after w n = tt
      there_code k (step line a rest) before after w n =
          let first = step_units_in_act taken u k line a in let second = step_units_in taken u (k + marked_in_act a) rest in (
            there_act k line a before (second ++ after) (w ∙ ap (λ z. before ++ z) (append_assoc first second after)) n,
            there_code (k + marked_in_act a) rest (before ++ first) after (w ∙ ap (λ z. before ++ z) (append_assoc first second after) ∙ sym (append_assoc before first (second ++ after)))
                (none_more before first k (k + marked_in_act a) (omega arith) n (λ i l. later_act k line a i l)),
          )

-- ---- the program

-- names of step units of a unit are among its list of names
module _ (taken : List (List ℕ)) (u : Procedure) (total : ℕ) where
  mutual
    -- step units bear the names of the list
    listed_act : (k line : ℕ) (a : Act) (x : List ℕ) → k + marked_in_act a ≤ total → has_name x (map unit_name (step_units_in_act taken u k line a)) ≡ true → has_name x (step_names taken u.name total) ≡ true
    listed_act k line (assign y subs e) x le h = absurd cc
    listed_act k line (choose c a b) x le h =
        one_of (or_cases (has_name x (map unit_name (step_units_in taken u k a))) (has_name x (map unit_name (step_units_in taken u (k + marked_in a) b)))
        (sym (ap (has_name x) (map-append unit_name (step_units_in taken u k a) (step_units_in taken u (k + marked_in a) b)) ∙ has-append x (map unit_name (step_units_in taken u k a)) (map unit_name (step_units_in taken u (k + marked_in a) b))) ∙ h))
        (λ g. listed_code k a x (omega (arith, le)) g) (λ g. listed_code (k + marked_in a) b x (omega (arith, le)) g)
    listed_act k line (loop y first last by body unmarked) x le h = listed_code k body x le h
    listed_act k line (loop y first last by body (with_count m)) x le h =
        one_of (or_cases (name_eq x (step_name taken u.name k)) (has_name x (map unit_name (step_units_in taken u (suc k) body))) h)
        (λ g. ap (λ z. has_name z (step_names taken u.name total)) (name_same x (step_name taken u.name k) g) ∙ earlier_there taken u.name k total (omega (arith, le))) (λ g. listed_code (suc k) body x (omega (arith, le)) g)
    listed_act k line (loop y first last by body (count_from counter)) x le h =
        one_of (or_cases (name_eq x (step_name taken u.name k)) (has_name x (map unit_name (step_units_in taken u (suc k) body))) h)
        (λ g. ap (λ z. has_name z (step_names taken u.name total)) (name_same x (step_name taken u.name k) g) ∙ earlier_there taken u.name k total (omega (arith, le))) (λ g. listed_code (suc k) body x (omega (arith, le)) g)
    listed_act k line (during c body) x le h = listed_code k body x le h
    listed_act k line (call name args) x le h = absurd cc
    listed_act k line (runtime r) x le h = absurd cc

    pub listed_code : (k : ℕ) (c : Code) (x : List ℕ) → k + marked_in c ≤ total → has_name x (map unit_name (step_units_in taken u k c)) ≡ true → has_name x (step_names taken u.name total) ≡ true
    listed_code k stop x le h = absurd cc
    listed_code k (step line a rest) x le h =
        one_of (or_cases (has_name x (map unit_name (step_units_in_act taken u k line a))) (has_name x (map unit_name (step_units_in taken u (k + marked_in_act a) rest)))
        (sym (ap (has_name x) (map-append unit_name (step_units_in_act taken u k line a) (step_units_in taken u (k + marked_in_act a) rest)) ∙ has-append x (map unit_name (step_units_in_act taken u k line a)) (map unit_name (step_units_in taken u (k + marked_in_act a) rest))) ∙ h))
        (λ g. listed_act k line a x (omega (arith, le)) g) (λ g. listed_code (k + marked_in_act a) rest x (omega (arith, le)) g)

-- a name that is found is that of a unit
pub found_name : (us : List Procedure) (name : List ℕ) (v : Procedure) → find_unit us name ≡ Some v → has_name name (map unit_name us) ≡ true
found_name [] name v h = absurd cc
found_name (u ∷ us) name v h = go (name_eq u.name name) refl h (λ g. found_name us name v g)
  where
    go : (b : Bool) → name_eq u.name name ≡ b → (if b then Some u else find_unit us name) ≡ Some v → (find_unit us name ≡ Some v → has_name name (map unit_name us) ≡ true) → (name_eq name u.name || has_name name (map unit_name us)) ≡ true
    go true e g ih = or_first (name_eq name u.name) (has_name name (map unit_name us)) (ap (name_eq name) (name_same u.name name e) ∙ name_refl name)
    go false e g ih = or_second (name_eq name u.name) (has_name name (map unit_name us)) (ih g)

false_of : (b : Bool) → (b ≡ true → ⊥) → b ≡ false
false_of true h = absurd (h refl)
false_of false h = refl

-- a unit of the rest of the source is found where the units before have other names
step_for : (us before : List Procedure) (taken : List (List ℕ)) (name : List ℕ) (v : Procedure) → ((x : List ℕ) → has_name x (map unit_name before) ≡ true → has_name x taken ≡ true) → ((x : List ℕ) → has_name x (map unit_name us) ≡ true → has_name x taken ≡ true) →
    find_unit us name ≡ Some v → has_name name (map unit_name before) ≡ false → IsStepFor (before ++ stepped_from taken us) name v
step_for [] before taken name v hb hu f n = absurd cc
step_for (u ∷ us) before taken name v hb hu f n = go (name_eq u.name name) refl f (λ b1 t1 h1 h2 g m. step_for us b1 t1 name v h1 h2 g m)
  where
    total : ℕ
    total = marked_in u.body

    made : List Procedure
    made = step_units_in taken u 0 u.body

    later : List (List ℕ)
    later = taken ++ step_names taken u.name (marked_in u.body)

    cut_one : Procedure
    cut_one = record u { body = cut taken u 0 u.body }

    own_taken : has_name u.name taken ≡ true
    own_taken = hu u.name (or_first (name_eq u.name u.name) (has_name u.name (map unit_name us)) (name_refl u.name))

    whole_is : before ++ (cut_one ∷ (made ++ stepped_from later us)) ≡ (before ++ (cut_one ∷ made)) ++ stepped_from later us
    whole_is = sym (append_assoc before (cut_one ∷ made) (stepped_from later us))

    -- a fresh name is none of those before
    fresh_before : (i : ℕ) → has_name (step_name taken u.name i) (map unit_name (before ++ (cut_one ∷ []))) ≡ false
    fresh_before i = false_of _ (λ h. let z : true ≡ false = sym (in_taken (step_name taken u.name i) h) ∙ not_taken taken u.name i in cc)
      where
        in_taken : (x : List ℕ) → has_name x (map unit_name (before ++ (cut_one ∷ []))) ≡ true → has_name x taken ≡ true
        in_taken x h =
            one_of (or_cases (has_name x (map unit_name before)) (name_eq x u.name || false) (sym (ap (has_name x) (map-append unit_name before (cut_one ∷ [])) ∙ has-append x (map unit_name before) (u.name ∷ [])) ∙ h))
            (hb x) (λ g. one_of (or_cases (name_eq x u.name) false g) (λ e. ap (λ z. has_name z taken) (name_same x u.name e) ∙ own_taken) (λ e. absurd cc))

    here_for : name_eq u.name name ≡ true → IsStepFor (before ++ (cut_one ∷ (made ++ stepped_from later us))) name u
    here_for e = record {
      taken = taken;
      found = skip before (cut_one ∷ (made ++ stepped_from later us)) name n ∙ ap (λ b. if b then Some cut_one else find_unit (made ++ stepped_from later us) name) e;
      steps = there_code taken u (before ++ (cut_one ∷ (made ++ stepped_from later us))) 0 u.body (before ++ (cut_one ∷ [])) (stepped_from later us) (sym (append_assoc before (cut_one ∷ []) (made ++ stepped_from later us))) (λ i l. fresh_before i);
    }

    go : (b : Bool) → name_eq u.name name ≡ b → (if b then Some u else find_unit us name) ≡ Some v →
        ((b1 : List Procedure) (t1 : List (List ℕ)) → ((x : List ℕ) → has_name x (map unit_name b1) ≡ true → has_name x t1 ≡ true) → ((x : List ℕ) → has_name x (map unit_name us) ≡ true → has_name x t1 ≡ true) → find_unit us name ≡ Some v → has_name name (map unit_name b1) ≡ false → IsStepFor (b1 ++ stepped_from t1 us) name v) →
        IsStepFor (before ++ (cut_one ∷ (made ++ stepped_from later us))) name v
    go true e g ih = let same : u ≡ v = cc in subst (IsStepFor (before ++ (cut_one ∷ (made ++ stepped_from later us))) name) same (here_for e)
    go false e g ih =
        subst (λ z. IsStepFor z name v) (sym whole_is)
        (ih (before ++ (cut_one ∷ made)) later in_later (λ x h. has_first x taken (step_names taken u.name total) (hu x (or_second (name_eq x u.name) (has_name x (map unit_name us)) h))) g other)
      where
        name_taken : has_name name taken ≡ true
        name_taken = hu name (or_second (name_eq name u.name) (has_name name (map unit_name us)) (found_name us name v g))

        parts : (x : List ℕ) → has_name x (map unit_name (before ++ (cut_one ∷ made))) ≡ (has_name x (map unit_name before) || (name_eq x u.name || has_name x (map unit_name made)))
        parts x = ap (has_name x) (map-append unit_name before (cut_one ∷ made)) ∙ has-append x (map unit_name before) (u.name ∷ map unit_name made)

        in_later : (x : List ℕ) → has_name x (map unit_name (before ++ (cut_one ∷ made))) ≡ true → has_name x later ≡ true
        in_later x h =
            one_of (or_cases (has_name x (map unit_name before)) (name_eq x u.name || has_name x (map unit_name made)) (sym (parts x) ∙ h)) (λ k. has_first x taken (step_names taken u.name total) (hb x k))
            (λ k. one_of (or_cases (name_eq x u.name) (has_name x (map unit_name made)) k) (λ m. has_first x taken (step_names taken u.name total) (ap (λ z. has_name z taken) (name_same x u.name m) ∙ own_taken))
            (λ m. has_second x taken (step_names taken u.name total) (listed_code taken u total 0 u.body x (omega arith) m)))

        other : has_name name (map unit_name (before ++ (cut_one ∷ made))) ≡ false
        other =
            parts name ∙ ap (λ z. z || (name_eq name u.name || has_name name (map unit_name made))) n ∙ ap (λ z. z || has_name name (map unit_name made)) (name_comm u.name name e)
            ∙ false_of (has_name name (map unit_name made)) (λ m. none_made (listed_code taken u total 0 u.body name (omega arith) m))
          where
            none_made : has_name name (step_names taken u.name total) ≡ true → ⊥
            none_made h = not_in_names taken u.name name name_taken total h

-- each unit of the source is found in the stepped program
pub is_step_for : (units : List Procedure) (name : List ℕ) (v : Procedure) → find_unit units name ≡ Some v → IsStepFor (stepped_program units) name v
is_step_for units name v f = step_for units [] (names_of_source units) name v (λ x h. absurd cc) (λ x h. has_first x (map unit_name units) (flat_map names_of units) h) f refl

-- ---- the step units of every unit

-- the step units of each unit are there, where the names are taken one unit after the other
abbrev pub AllThere : List Procedure → List (List ℕ) → List Procedure → Type 0
AllThere whole taken [] = Unit {0}
AllThere whole taken (u ∷ us) = StepsThere whole taken u 0 u.body × AllThere whole (taken ++ step_names taken u.name (marked_in u.body)) us

all_there : (whole us before : List Procedure) (taken : List (List ℕ)) → whole ≡ before ++ stepped_from taken us → ((x : List ℕ) → has_name x (map unit_name before) ≡ true → has_name x taken ≡ true) → ((x : List ℕ) → has_name x (map unit_name us) ≡ true → has_name x taken ≡ true) → AllThere whole taken us
all_there whole [] before taken w hb hu = tt
all_there whole (u ∷ us) before taken w hb hu = (
  there_code taken u whole 0 u.body (before ++ (cut_one ∷ [])) (stepped_from later us) (w ∙ sym (append_assoc before (cut_one ∷ []) (made ++ stepped_from later us))) (λ i l. fresh_before i),
  all_there whole us (before ++ (cut_one ∷ made)) later (w ∙ sym (append_assoc before (cut_one ∷ made) (stepped_from later us))) in_later (λ x h. has_first x taken (step_names taken u.name total) (hu x (or_second (name_eq x u.name) (has_name x (map unit_name us)) h))),
)
  where
    total : ℕ
    total = marked_in u.body

    made : List Procedure
    made = step_units_in taken u 0 u.body

    later : List (List ℕ)
    later = taken ++ step_names taken u.name (marked_in u.body)

    cut_one : Procedure
    cut_one = record u { body = cut taken u 0 u.body }

    own_taken : has_name u.name taken ≡ true
    own_taken = hu u.name (or_first (name_eq u.name u.name) (has_name u.name (map unit_name us)) (name_refl u.name))

    fresh_before : (i : ℕ) → has_name (step_name taken u.name i) (map unit_name (before ++ (cut_one ∷ []))) ≡ false
    fresh_before i = false_of _ (λ h. let z : true ≡ false = sym (in_taken (step_name taken u.name i) h) ∙ not_taken taken u.name i in cc)
      where
        in_taken : (x : List ℕ) → has_name x (map unit_name (before ++ (cut_one ∷ []))) ≡ true → has_name x taken ≡ true
        in_taken x h =
            one_of (or_cases (has_name x (map unit_name before)) (name_eq x u.name || false) (sym (ap (has_name x) (map-append unit_name before (cut_one ∷ [])) ∙ has-append x (map unit_name before) (u.name ∷ [])) ∙ h))
            (hb x) (λ g. one_of (or_cases (name_eq x u.name) false g) (λ e. ap (λ z. has_name z taken) (name_same x u.name e) ∙ own_taken) (λ e. absurd cc))

    in_later : (x : List ℕ) → has_name x (map unit_name (before ++ (cut_one ∷ made))) ≡ true → has_name x later ≡ true
    in_later x h =
        one_of (or_cases (has_name x (map unit_name before)) (name_eq x u.name || has_name x (map unit_name made)) (sym (ap (has_name x) (map-append unit_name before (cut_one ∷ made)) ∙ has-append x (map unit_name before) (u.name ∷ map unit_name made)) ∙ h)) (λ k. has_first x taken (step_names taken u.name total) (hb x k))
        (λ k. one_of (or_cases (name_eq x u.name) (has_name x (map unit_name made)) k) (λ m. has_first x taken (step_names taken u.name total) (ap (λ z. has_name z taken) (name_same x u.name m) ∙ own_taken))
        (λ m. has_second x taken (step_names taken u.name total) (listed_code taken u total 0 u.body x (omega arith) m)))

-- the step units of each unit are there
pub program_there : (units : List Procedure) → AllThere (stepped_program units) (names_of_source units) units
program_there units = all_there (stepped_program units) units [] (names_of_source units) refl (λ x h. absurd cc) (λ x h. has_first x (map unit_name units) (flat_map names_of units) h)
