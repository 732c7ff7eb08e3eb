-- The units of the emitted program: each carried unit, and the adjoint of each unit that has one, are found under their names.
use Rattle.std.proofs.Common.{◌≡◌, ℕ, zero, suc, Bool, true, false, List, [], ◌∷◌, ◌++◌, map, length, refl, sym, ap, ◌∙◌, append_assoc, codes, if◌then◌else◌}
use Rattle.std.specs.Prelude.{not, ◌&&◌, ◌||◌, Option, Some, None, flat_map}
use Rattle.adj_tree.specs.Code.{name_eq, Mark, Act, assign, choose, loop, during, call, runtime, Code, stop, step, Procedure}
use Rattle.adj_tree.proofs.Names.{name_refl, name_same}
use Rattle.def_meaning.specs.Written.{find_unit}
use Rattle.law_meaning.specs.Common.{CallsInside', CallsInside, HaveInCommon}
use Rattle.def_meaning.specs.Apart.{has_name}
use Rattle.def_names.specs.Variables.{variables}
use Rattle.def_sweep.specs.Declared.{unit_name, unmarked}
use Rattle.def_sweep.specs.Marked.{names_in}
use Rattle.def_names.specs.Numbers.{next, behind}
use Rattle.def_names.proofs.Variables.{and_true, or_false, or_left, or_right, has_apart}
use Rattle.def_meaning.proofs.Variables.{name_comm}
use Rattle.def_sweep.specs.Names.{source_names, named_after, named_list, taken_forth, taken_back, adjoint_after, adjoint_name, forth_name, back_name}
use Rattle.def_sweep.specs.Marking.{ProgramMarks}
use Rattle.def_sweep.specs.Plan.{found_or, Schedules, Step, reversed_by}
use Rattle.law_sweep.proofs.ByStep.{step_inside}
use Rattle.def_sweep.specs.Program.{calls_act, calls_in, calls_some, reached_after, has_adjoint, has_pair, kept_calls, emitted_group, forth_unit, back_unit, answers, is_kept_with, is_carried_with, all_units, adjoint_unit_with, emitted_adjoint_with, emitted_units_with, turns_act, turns_in, turns_some, schedules_in}
use Rattle.law_sweep.specs.Source.{is_unit}
use Rattle.law_sweep.proofs.Names.{has-append, adjoint_free, adjoints_apart, name_free, names_apart, name_among}
pub use Rattle.law_sweep.specs.Source.{CallUnits}
use Rattle.law_sweep.proofs.UnitLists.{take, skip, unit_named, Differ, skip_all, differ_both, differ_one, differ_two, through, stays}
pub use Rattle.law_sweep.proofs.UnitLists.{found_there}
use Rattle.law_sweep.proofs.Rounds.{either, reached_last}

-- ---- what is emitted

module _ (sc : Bool) (m : ProgramMarks) (ps : List Procedure) (head : Procedure) (vars outvars : List Bool) where
  -- the name of the adjoint of the unit of a name
  abbrev adj : List ℕ → List ℕ
  adj x = adjoint_after (source_names ps) ps x

  abbrev made : Procedure → Procedure
  made u = emitted_adjoint_with sc m ps head vars outvars u

  abbrev emitted : List Procedure → List Procedure
  emitted us = emitted_units_with sc m ps head vars outvars us

  made_name : (u : Procedure) → (made u).name ≡ adj u.name
  made_name u = go (name_eq head.name u.name)
    where
      go : (b : Bool) → (if b then adjoint_unit_with sc m ps (all_units m ps head) u (names_in (m.shadowed u.name) (unmarked u.dummies outvars)) (names_in (m.shadowed u.name) (unmarked u.dummies vars)) else adjoint_unit_with sc m ps (all_units m ps head) u [] []).name ≡ adj u.name
      go true = refl
      go false = refl

  -- the names of forward and backward units
  abbrev fwd : List ℕ → List ℕ
  fwd x = named_after (codes "_FWD") (taken_forth ps) ps x

  abbrev bwd : List ℕ → List ℕ
  bwd x = named_after (codes "_BWD") (taken_back ps) ps x

  abbrev group : Procedure → List Procedure
  group u = emitted_group sc m ps head vars outvars u

  -- ---- names are apart

  -- no unit of the source has a name that isn't among the source's
  not_source : (x n : List ℕ) → is_unit ps x ≡ true → has_name n (source_names ps) ≡ false → name_eq x n ≡ false
  not_source x n h free =
      has_apart x n (map unit_name ps) (unit_named ps x h) (or_false (has_name n (map unit_name ps)) (has_name n (flat_map variables ps)) (sym (has-append n (map unit_name ps) (flat_map variables ps)) ∙ free)).0

  fwd_free : (y : List ℕ) → is_unit ps y ≡ true → (has_name (fwd y) (source_names ps) ≡ false) × (has_name (fwd y) (named_list (codes "_B") (source_names ps) ps) ≡ false)
  fwd_free y h = or_false (has_name (fwd y) (source_names ps)) (has_name (fwd y) (named_list (codes "_B") (source_names ps) ps)) (sym (has-append (fwd y) (source_names ps) (named_list (codes "_B") (source_names ps) ps)) ∙ name_free (codes "_FWD") (taken_forth ps) ps y h)

  bwd_free : (y : List ℕ) → is_unit ps y ≡ true → (has_name (bwd y) (taken_forth ps) ≡ false) × (has_name (bwd y) (named_list (codes "_FWD") (taken_forth ps) ps) ≡ false)
  bwd_free y h = or_false (has_name (bwd y) (taken_forth ps)) (has_name (bwd y) (named_list (codes "_FWD") (taken_forth ps) ps)) (sym (has-append (bwd y) (taken_forth ps) (named_list (codes "_FWD") (taken_forth ps) ps)) ∙ name_free (codes "_BWD") (taken_back ps) ps y h)

  bwd_source : (y : List ℕ) → is_unit ps y ≡ true → (has_name (bwd y) (source_names ps) ≡ false) × (has_name (bwd y) (named_list (codes "_B") (source_names ps) ps) ≡ false)
  bwd_source y h = or_false (has_name (bwd y) (source_names ps)) (has_name (bwd y) (named_list (codes "_B") (source_names ps) ps)) (sym (has-append (bwd y) (source_names ps) (named_list (codes "_B") (source_names ps) ps)) ∙ (bwd_free y h).0)

  -- no unit of the source has the name of an adjoint
  pub apart_source : (x y : List ℕ) → is_unit ps x ≡ true → is_unit ps y ≡ true → name_eq x (adj y) ≡ false
  apart_source x y h g = not_source x (adj y) h (adjoint_free (source_names ps) ps y g)

  fwd_source : (x y : List ℕ) → is_unit ps x ≡ true → is_unit ps y ≡ true → name_eq x (fwd y) ≡ false
  fwd_source x y h g = not_source x (fwd y) h (fwd_free y g).0

  back_source : (x y : List ℕ) → is_unit ps x ≡ true → is_unit ps y ≡ true → name_eq x (bwd y) ≡ false
  back_source x y h g = not_source x (bwd y) h (bwd_source y g).0

  adj_fwd : (x y : List ℕ) → is_unit ps x ≡ true → is_unit ps y ≡ true → name_eq (adj x) (fwd y) ≡ false
  adj_fwd x y h g = has_apart (adj x) (fwd y) (named_list (codes "_B") (source_names ps) ps) (name_among (codes "_B") (source_names ps) ps x h) (fwd_free y g).1

  adj_bwd : (x y : List ℕ) → is_unit ps x ≡ true → is_unit ps y ≡ true → name_eq (adj x) (bwd y) ≡ false
  adj_bwd x y h g = has_apart (adj x) (bwd y) (named_list (codes "_B") (source_names ps) ps) (name_among (codes "_B") (source_names ps) ps x h) (bwd_source y g).1

  fwd_bwd : (x y : List ℕ) → is_unit ps x ≡ true → is_unit ps y ≡ true → name_eq (fwd x) (bwd y) ≡ false
  fwd_bwd x y h g = has_apart (fwd x) (bwd y) (named_list (codes "_FWD") (taken_forth ps) ps) (name_among (codes "_FWD") (taken_forth ps) ps x h) (bwd_free y g).1

  -- ---- what is emitted for a unit

  abbrev plain_part : Procedure → List Procedure
  plain_part u = if is_carried_with sc m ps head u.name then u ∷ [] else []

  abbrev adjoint_part : Procedure → List Procedure
  adjoint_part u = if has_adjoint m ps head u.name then made u ∷ [] else []

  abbrev forth_of : Procedure → Procedure
  forth_of u = forth_unit sc m ps (all_units m ps head) u

  abbrev back_of : Procedure → Procedure
  back_of u = back_unit sc m ps (all_units m ps head) u

  abbrev pair_part : Procedure → List Procedure
  pair_part u = if has_pair m ps head u.name then forth_of u ∷ back_of u ∷ [] else []

  -- a group none of whose units has the name
  differ_group : (name : List ℕ) (u : Procedure) → name_eq u.name name ≡ false → name_eq (adj u.name) name ≡ false → name_eq (fwd u.name) name ≡ false → name_eq (bwd u.name) name ≡ false → Differ name (group u)
  differ_group name u h1 h2 h3 h4 =
      differ_both name (plain_part u) (adjoint_part u ++ pair_part u) (differ_one name (is_carried_with sc m ps head u.name) u h1)
      (differ_both name (adjoint_part u) (pair_part u) (differ_one name (has_adjoint m ps head u.name) (made u) (ap (λ z. name_eq z name) (made_name u) ∙ h2)) (differ_two name (has_pair m ps head u.name) (forth_of u) (back_of u) h3 h4))

  append_three : (a b c rest : List Procedure) → (a ++ (b ++ c)) ++ rest ≡ a ++ (b ++ (c ++ rest))
  append_three a b c rest = append_assoc a (b ++ c) rest ∙ ap (λ l. a ++ l) (append_assoc b c rest)

  -- a carried unit is found as it was
  pub carried_found : (name : List ℕ) → is_carried_with sc m ps head name ≡ true → is_unit ps name ≡ true → find_unit (emitted ps) name ≡ find_unit ps name
  carried_found name c h =
      stays emitted group refl (λ u us. refl) ps name first
      (λ u g e. differ_group name u e (name_comm name (adj u.name) (apart_source name u.name h g)) (name_comm name (fwd u.name) (fwd_source name u.name h g)) (name_comm name (bwd u.name) (back_source name u.name h g)))
    where
      first : (u : Procedure) (rest : List Procedure) → name_eq u.name name ≡ true → find_unit (group u ++ rest) name ≡ Some u
      first u rest e =
          let k : is_carried_with sc m ps head u.name ≡ true = ap (is_carried_with sc m ps head) (name_same u.name name e) ∙ c in
          ap (λ b. find_unit (((if b then u ∷ [] else []) ++ (adjoint_part u ++ pair_part u)) ++ rest) name) k ∙ take u ((adjoint_part u ++ pair_part u) ++ rest) name e

  -- the adjoint of a unit is found under its name
  pub adjoint_found : (name : List ℕ) (u : Procedure) → find_unit ps name ≡ Some u → has_adjoint m ps head name ≡ true → find_unit (emitted ps) (adjoint_name ps u) ≡ Some (made u)
  adjoint_found name u f a =
      let t = found_there ps name u f in
      let there : is_unit ps u.name ≡ true = ap (is_unit ps) t.1 ∙ t.0 in
      let own : find_unit ps u.name ≡ Some u = ap (find_unit ps) t.1 ∙ f in
      let has : has_adjoint m ps head u.name ≡ true = ap (has_adjoint m ps head) t.1 ∙ a in
      through emitted group refl (λ v us. refl) ps u (made u) (adj u.name) own
      (λ v g n. differ_group (adj u.name) v (apart_source v.name u.name g there) (adjoints_apart (source_names ps) ps v.name u.name g there n) (name_comm (adj u.name) (fwd v.name) (adj_fwd u.name v.name there g)) (name_comm (adj u.name) (bwd v.name) (adj_bwd u.name v.name there g)))
      (λ rest.
      ap (λ l. find_unit l (adj u.name)) (append_three (plain_part u) (adjoint_part u) (pair_part u) rest)
      ∙ skip_all (adj u.name) (plain_part u) (adjoint_part u ++ (pair_part u ++ rest)) (differ_one (adj u.name) (is_carried_with sc m ps head u.name) u (apart_source u.name u.name there there))
      ∙ ap (λ b. find_unit ((if b then made u ∷ [] else []) ++ (pair_part u ++ rest)) (adj u.name)) has
      ∙ take (made u) (pair_part u ++ rest) (adj u.name) (ap (λ z. name_eq z (adj u.name)) (made_name u) ∙ name_refl (adj u.name)))

  -- and so are its forward and its backward unit
  pub forth_found : (name : List ℕ) (u : Procedure) → find_unit ps name ≡ Some u → has_pair m ps head name ≡ true → find_unit (emitted ps) (forth_name ps u) ≡ Some (forth_of u)
  forth_found name u f a =
      let t = found_there ps name u f in
      let there : is_unit ps u.name ≡ true = ap (is_unit ps) t.1 ∙ t.0 in
      let own : find_unit ps u.name ≡ Some u = ap (find_unit ps) t.1 ∙ f in
      let has : has_pair m ps head u.name ≡ true = ap (has_pair m ps head) t.1 ∙ a in
      through emitted group refl (λ v us. refl) ps u (forth_of u) (fwd u.name) own
      (λ v g n. differ_group (fwd u.name) v (fwd_source v.name u.name g there) (adj_fwd v.name u.name g there) (names_apart (codes "_FWD") (taken_forth ps) ps v.name u.name g there n) (name_comm (fwd u.name) (bwd v.name) (fwd_bwd u.name v.name there g)))
      (λ rest.
      ap (λ l. find_unit l (fwd u.name)) (append_three (plain_part u) (adjoint_part u) (pair_part u) rest)
      ∙ skip_all (fwd u.name) (plain_part u) (adjoint_part u ++ (pair_part u ++ rest)) (differ_one (fwd u.name) (is_carried_with sc m ps head u.name) u (fwd_source u.name u.name there there))
      ∙ skip_all (fwd u.name) (adjoint_part u) (pair_part u ++ rest) (differ_one (fwd u.name) (has_adjoint m ps head u.name) (made u) (ap (λ z. name_eq z (fwd u.name)) (made_name u) ∙ adj_fwd u.name u.name there there))
      ∙ ap (λ b. find_unit ((if b then forth_of u ∷ back_of u ∷ [] else []) ++ rest) (fwd u.name)) has
      ∙ take (forth_of u) (back_of u ∷ rest) (fwd u.name) (name_refl (fwd u.name)))

  pub back_found : (name : List ℕ) (u : Procedure) → find_unit ps name ≡ Some u → has_pair m ps head name ≡ true → find_unit (emitted ps) (back_name ps u) ≡ Some (back_of u)
  back_found name u f a =
      let t = found_there ps name u f in
      let there : is_unit ps u.name ≡ true = ap (is_unit ps) t.1 ∙ t.0 in
      let own : find_unit ps u.name ≡ Some u = ap (find_unit ps) t.1 ∙ f in
      let has : has_pair m ps head u.name ≡ true = ap (has_pair m ps head) t.1 ∙ a in
      through emitted group refl (λ v us. refl) ps u (back_of u) (bwd u.name) own
      (λ v g n. differ_group (bwd u.name) v (back_source v.name u.name g there) (adj_bwd v.name u.name g there) (fwd_bwd v.name u.name g there) (names_apart (codes "_BWD") (taken_back ps) ps v.name u.name g there n))
      (λ rest.
      ap (λ l. find_unit l (bwd u.name)) (append_three (plain_part u) (adjoint_part u) (pair_part u) rest)
      ∙ skip_all (bwd u.name) (plain_part u) (adjoint_part u ++ (pair_part u ++ rest)) (differ_one (bwd u.name) (is_carried_with sc m ps head u.name) u (back_source u.name u.name there there))
      ∙ skip_all (bwd u.name) (adjoint_part u) (pair_part u ++ rest) (differ_one (bwd u.name) (has_adjoint m ps head u.name) (made u) (ap (λ z. name_eq z (bwd u.name)) (made_name u) ∙ adj_bwd u.name u.name there there))
      ∙ ap (λ b. find_unit ((if b then forth_of u ∷ back_of u ∷ [] else []) ++ rest) (bwd u.name)) has
      ∙ skip (forth_of u) (back_of u ∷ rest) (bwd u.name) (fwd_bwd u.name u.name there there)
      ∙ take (back_of u) rest (bwd u.name) (name_refl (bwd u.name)))

-- ---- the calls in what is carried

mutual
  called_act : (p : List ℕ → Bool) (s : ℕ → Bool) (name : List ℕ) (i : ℕ) (a : Act) → CallsInside' p a → calls_act s name i a ≡ true → p name ≡ true
  called_act p s name i (assign x subs e) k h = absurd cc
  called_act p s name i (choose c a b) k h = either (calls_in s name (suc i) a) (calls_in s name (behind (suc i) a) b) (p name) h (called_in p s name (suc i) a k.0) (called_in p s name (behind (suc i) a) b k.1)
  called_act p s name i (loop x a b c body n) k h = called_in p s name (suc i) body k h
  called_act p s name i (during c body) k h = called_in p s name (suc i) body k h
  called_act p s name i (call other args) k h = ap p (name_same name other (and_true (s i) (name_eq name other) h).1) ∙ k
  called_act p s name i (runtime r) k h = absurd cc

  called_in : (p : List ℕ → Bool) (s : ℕ → Bool) (name : List ℕ) (i : ℕ) (c : Code) → CallsInside p c → calls_in s name i c ≡ true → p name ≡ true
  called_in p s name i stop k h = absurd cc
  called_in p s name i (step line a rest) k h = either (calls_act s name i a) (calls_in s name (next i a) rest) (p name) h (called_act p s name i a k.0) (called_in p s name (next i a) rest k.1)

mutual
  inside_act : (p : List ℕ → Bool) (i : ℕ) (a : Act) → ((n : List ℕ) → calls_act (λ j. true) n i a ≡ true → p n ≡ true) → CallsInside' p a
  inside_act p i (assign x subs e) h = tt
  inside_act p i (choose c a b) h =
      (inside_in p (suc i) a (λ n g. h n (or_left (calls_in (λ j. true) n (suc i) a) (calls_in (λ j. true) n (behind (suc i) a) b) g)), inside_in p (behind (suc i) a) b (λ n g. h n (or_right (calls_in (λ j. true) n (suc i) a) (calls_in (λ j. true) n (behind (suc i) a) b) g)))
  inside_act p i (loop x a b c body n) h = inside_in p (suc i) body h
  inside_act p i (during c body) h = inside_in p (suc i) body h
  inside_act p i (call other args) h = h other (name_refl other)
  inside_act p i (runtime r) h = tt

  pub inside_in : (p : List ℕ → Bool) (i : ℕ) (c : Code) → ((n : List ℕ) → calls_in (λ j. true) n i c ≡ true → p n ≡ true) → CallsInside p c
  inside_in p i stop h = tt
  inside_in p i (step line a rest) h =
      (inside_act p i a (λ n g. h n (or_left (calls_act (λ j. true) n i a) (calls_in (λ j. true) n (next i a) rest) g)), inside_in p (next i a) rest (λ n g. h n (or_right (calls_act (λ j. true) n i a) (calls_in (λ j. true) n (next i a) rest) g)))

-- what a unit calls is called by some of those in a set, if it is in it
pub record Counts (f : List ℕ → Bool) (s : ℕ → Bool) (i : ℕ) (us : List Procedure) (u : Procedure) : Type 0 where
  pub at : ℕ
  pub by : (n : List ℕ) → calls_in s n at u.body ≡ true → calls_some f s n i us ≡ true

pub counts : (f : List ℕ → Bool) (s : ℕ → Bool) (i : ℕ) (us : List Procedure) (name : List ℕ) (u : Procedure) → find_unit us name ≡ Some u → f name ≡ true → Counts f s i us u
counts f s i [] name u h k = absurd cc
counts f s i (v ∷ us) name u h k = go (name_eq v.name name) refl h (counts f s (behind i v.body) us name u)
  where
    go : (b : Bool) → name_eq v.name name ≡ b → (if b then Some v else find_unit us name) ≡ Some u → (find_unit us name ≡ Some u → f name ≡ true → Counts f s (behind i v.body) us u) → Counts f s i (v ∷ us) u
    go true e h ih =
        let same : v ≡ u = cc in
        let here : f v.name ≡ true = ap f (name_same v.name name e) ∙ k in
        record { at = i; by = λ n g. or_left (f v.name && calls_in s n i v.body) (calls_some f s n (behind i v.body) us) (rw (here, ap (λ z. calls_in s n i z.body) same ∙ g) refl) }
    go false e h ih = let c = ih h k in record { at = c.at; by = λ n g. or_right (f v.name && calls_in s n i v.body) (calls_some f s n (behind i v.body) us) (c.by n g) }

pub some_there : (ps us : List Procedure) → CallUnits ps us → (f : List ℕ → Bool) (s : ℕ → Bool) (name : List ℕ) (i : ℕ) → calls_some f s name i us ≡ true → is_unit ps name ≡ true
some_there ps [] k f s name i h = absurd cc
some_there ps (u ∷ us) k f s name i h =
    either (f u.name && calls_in s name i u.body) (calls_some f s name (behind i u.body) us) (is_unit ps name) h
    (λ e. called_in (is_unit ps) s name i u.body k.0 (and_true (f u.name) (calls_in s name i u.body) e).1)
    (some_there ps us k.1 f s name (behind i u.body))

-- a loop that is reversed by a schedule calls its step unit
turned_loop : (p : List ℕ → Bool) (r : Schedules) (s : ℕ → Bool) (name : List ℕ) (i : ℕ) (body : Code) (n : Mark) → CallsInside p body → (turns_in r s name (suc i) body ≡ true → p name ≡ true) → (o : Option Step) → reversed_by r s i body n ≡ o → found_or o (turns_in r s name (suc i) body) (λ t. name_eq name t.name) ≡ true → p name ≡ true
turned_loop p r s name i body n k as_others None e h = as_others h
turned_loop p r s name i body n k as_others (Some t) e h = ap p (name_same name t.name h) ∙ step_inside p r s i body n t e k

mutual
  turned_act : (p : List ℕ → Bool) (r : Schedules) (s : ℕ → Bool) (name : List ℕ) (i : ℕ) (a : Act) → CallsInside' p a → turns_act r s name i a ≡ true → p name ≡ true
  turned_act p r s name i (assign x subs e) k h = absurd cc
  turned_act p r s name i (choose c a b) k h = either (turns_in r s name (suc i) a) (turns_in r s name (behind (suc i) a) b) (p name) h (turned_in p r s name (suc i) a k.0) (turned_in p r s name (behind (suc i) a) b k.1)
  turned_act p r s name i (loop x a b c body n) k h = turned_loop p r s name i body n k (turned_in p r s name (suc i) body k) (reversed_by r s i body n) refl h
  turned_act p r s name i (during c body) k h = turned_in p r s name (suc i) body k h
  turned_act p r s name i (call other args) k h = absurd cc
  turned_act p r s name i (runtime c) k h = absurd cc

  turned_in : (p : List ℕ → Bool) (r : Schedules) (s : ℕ → Bool) (name : List ℕ) (i : ℕ) (c : Code) → CallsInside p c → turns_in r s name i c ≡ true → p name ≡ true
  turned_in p r s name i stop k h = absurd cc
  turned_in p r s name i (step line a rest) k h = either (turns_act r s name i a) (turns_in r s name (next i a) rest) (p name) h (turned_act p r s name i a k.0) (turned_in p r s name (next i a) rest k.1)

turned_there : (ps us : List Procedure) → CallUnits ps us → (r : Schedules) (f : List ℕ → Bool) (s : ℕ → Bool) (name : List ℕ) (i : ℕ) → turns_some r f s name i us ≡ true → is_unit ps name ≡ true
turned_there ps [] k r f s name i h = absurd cc
turned_there ps (u ∷ us) k r f s name i h =
    either (f u.name && turns_in r s name i u.body) (turns_some r f s name (behind i u.body) us) (is_unit ps name) h
    (λ e. turned_in (is_unit ps) r s name i u.body k.0 (and_true (f u.name) (turns_in r s name i u.body) e).1)
    (turned_there ps us k.1 r f s name (behind i u.body))

module _ (sc : Bool) (m : ProgramMarks) (ps : List Procedure) (head : Procedure) (vars outvars : List Bool) (known : CallUnits ps ps) where
  calls_there : (name : List ℕ) → kept_calls m ps head name ≡ true → is_unit ps name ≡ true
  calls_there name h =
      either (calls_some (has_adjoint m ps head) (λ i. m.kept i && not (m.split i)) name 0 ps) (calls_some (has_pair m ps head) (λ i. not (m.split i)) name 0 ps) (is_unit ps name) h
      (some_there ps ps known (has_adjoint m ps head) (λ i. m.kept i && not (m.split i)) name 0) (some_there ps ps known (has_pair m ps head) (λ i. not (m.split i)) name 0)

  kept_there : (b : Bool) (name : List ℕ) → is_kept_with b m ps head name ≡ true → is_unit ps name ≡ true
  kept_there false name h = calls_there name h
  kept_there true name h =
      let f : List ℕ → Bool = λ n. has_adjoint m ps head n || has_pair m ps head n in
      either (kept_calls m ps head name) (turns_some (schedules_in true ps) f m.adjointed name 0 ps) (is_unit ps name) h
      (calls_there name) (turned_there ps ps known (schedules_in true ps) f m.adjointed name 0)

  there_after : (k : ℕ) (name : List ℕ) → reached_after (is_kept_with sc m ps head) (λ i. true) ps k name ≡ true → is_unit ps name ≡ true
  there_after zero name h = absurd cc
  there_after (suc k) name h =
      either (is_kept_with sc m ps head name) (calls_some (reached_after (is_kept_with sc m ps head) (λ i. true) ps k) (λ i. true) name 0 ps) (is_unit ps name) h
      (kept_there sc name) (some_there ps ps known (reached_after (is_kept_with sc m ps head) (λ i. true) ps k) (λ i. true) name 0)

  -- the carried units are in the emitted program as in the source, and call carried ones only
  pub carried_common : HaveInCommon (is_carried_with sc m ps head) ps (emitted_units_with sc m ps head vars outvars ps)
  carried_common = record {
    same = λ name h. sym (carried_found sc m ps head vars outvars name h (there_after (length ps) name h));
    closed = λ name u h f.
        let c = counts (is_carried_with sc m ps head) (λ i. true) 0 ps name u f h in
        inside_in (is_carried_with sc m ps head) c.at u.body (λ n g.
        let some : calls_some (is_carried_with sc m ps head) (λ i. true) n 0 ps ≡ true = c.by n g in
        reached_last (is_kept_with sc m ps head) (λ i. true) ps n (some_there ps ps known (is_carried_with sc m ps head) (λ i. true) n 0 some) (or_right (is_kept_with sc m ps head n) (calls_some (is_carried_with sc m ps head) (λ i. true) n 0 ps) some));
  }

  -- a unit whose adjoint is called has one
  pub answers_there : (name : List ℕ) → answers m ps head name ≡ true → has_adjoint m ps head name ≡ true
  answers_there name h = or_right (name_eq head.name name) (answers m ps head name) h

  -- and so has the head
  pub head_there : is_unit ps head.name ≡ true → has_adjoint m ps head head.name ≡ true
  head_there there = or_left (name_eq head.name head.name) (answers m ps head head.name) (name_refl head.name)
