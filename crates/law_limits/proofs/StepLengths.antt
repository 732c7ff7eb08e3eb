-- How many units a kernel has, and how long their names are.
use Rattle.std.proofs.Common.{◌≡◌, ◌≤◌, ◌<◌, ◌^◌, ℕ, zero, suc, ◌+◌, ◌*◌, Bool, true, false, List, [], ◌∷◌, ◌++◌, length, map, flat_map, refl, sym, ap, ap₂, subst, ◌∙◌, arith, append_assoc, length-append, codes}
use Rattle.std.specs.Prelude.{◌||◌}
use Rattle.std.proofs.lemmas.List.{append-nil}
use Rattle.adj_tree.specs.Code.{unmarked, with_count, count_from, Act, Code, assign, choose, loop, during, call, runtime, stop, step, Procedure}
use Rattle.def_names.specs.Variables.{variables}
use Rattle.def_meaning.specs.Apart.{has_name}
use Rattle.def_names.specs.Fresh.{digits, candidate, fresh}
use Rattle.def_names.proofs.NameLists.{has-append}
use Rattle.def_kernel.specs.Kernel.{names_of, unit_name, lowered_unit, EachUnit}
use Rattle.def_kernel.specs.Stepped.{marked_in_act, marked_in, once_each, variables_of, wanted_step, step_names, step_name, step_units_in_act, step_units_in, stepped_unit, stepped_from, names_of_source, stepped_program}
use Rattle.law_kernel.proofs.OneNotion.{one_notion}
use Rattle.law_kernel.proofs.StepNames.{listed_once}
use Rattle.law_kernel.proofs.StepsWritten.{once_from}
use Rattle.law_limits.specs.Lengths.{HasCandidates, marked_loops, KernelUnitsAreShort}
use Rattle.law_limits.proofs.FreshLengths.{digits_short, fresh_short}

-- ---- the names of a source, each once in its unit

iff : (a b : Bool) → (a ≡ true → b ≡ true) → (b ≡ true → a ≡ true) → a ≡ b
iff true b f g = sym (f refl)
iff false true f g = g refl
iff false false f g = refl

once_same : (x : List ℕ) (xs : List (List ℕ)) → has_name x (once_each [] xs) ≡ has_name x xs
once_same x xs = iff (has_name x (once_each [] xs)) (has_name x xs) (once_from x [] xs) (listed_once x xs)

all_once : (x : List ℕ) (us : List Procedure) → has_name x (flat_map variables_of us) ≡ has_name x (flat_map names_of us)
all_once x [] = refl
all_once x (u ∷ us) = has-append x (variables_of u) (flat_map variables_of us) ∙ ap₂ (λ a b. a || b) (once_same x (names_of u)) (all_once x us) ∙ sym (has-append x (names_of u) (flat_map names_of us))

abbrev short_source : List Procedure → List (List ℕ)
short_source us = map unit_name us ++ flat_map variables_of us

short_same : (x : List ℕ) (us : List Procedure) → has_name x (short_source us) ≡ has_name x (names_of_source us)
short_same x us = has-append x (map unit_name us) (flat_map variables_of us) ∙ ap (λ b. has_name x (map unit_name us) || b) (all_once x us) ∙ sym (has-append x (map unit_name us) (flat_map names_of us))

pub named_count : (us : List Procedure) → length (map unit_name us) ≡ length us
named_count [] = refl
named_count (u ∷ us) = let rest = named_count us in omega arith

variables_count : (us : List Procedure) → EachUnit (λ u. length (variables u) ≤ 200) us → length (flat_map variables_of us) ≤ 200 * length us
variables_count [] h = omega arith
variables_count (u ∷ us) h =
    let rest = variables_count us h.1 in
    let all = length-append (variables_of u) (flat_map variables_of us) in
    let own : length (variables_of u) ≡ length (variables u) = ap length (one_notion u) in
    let few : length (variables u) ≤ 200 = h.0 in
    omega arith

-- ---- the names of step units

steps_count : (taken : List (List ℕ)) (name : List ℕ) (k : ℕ) → length (step_names taken name k) ≡ k
steps_count taken name zero = refl
steps_count taken name (suc k) = let rest = steps_count taken name k in let all = length-append (step_names taken name k) (fresh (wanted_step name k) (taken ++ step_names taken name k) ∷ []) in omega arith

wanted_short : (name : List ℕ) (k : ℕ) → length name ≤ 31 → k < 400000 → length (wanted_step name k) ≤ 39
wanted_short name k h lt =
    let few : suc k < 10 ^ suc 5 = omega arith in
    let d = digits_short 5 (suc k) few in
    let all = length-append name (codes "_S" ++ digits (suc k)) in
    omega arith

-- made are the step units before
module _ (us : List Procedure) (few : length us ≤ 2000) (known : EachUnit (λ u. length (variables u) ≤ 200) us) where
  step_short : (made : List (List ℕ)) (name : List ℕ) (k : ℕ) → length name ≤ 31 → length made + k < 400000 → length (step_name (names_of_source us ++ made) name k) ≤ 46
  step_short made name k h lt =
      let steps = step_names (names_of_source us ++ made) name k in
      let left = short_source us ++ (made ++ steps) in
      let taken = (names_of_source us ++ made) ++ steps in
      let same : HasCandidates (wanted_step name k) left taken = λ j h.
      let x = candidate (wanted_step name k) j in
      let all : has_name x left ≡ has_name x taken =
      has-append x (short_source us) (made ++ steps) ∙ ap₂ (λ a b. a || b) (short_same x us) (has-append x made steps) ∙ or_group (has_name x (names_of_source us)) (has_name x made) (has_name x steps)
      ∙ ap (λ b. b || has_name x steps) (sym (has-append x (names_of_source us) made)) ∙ sym (has-append x (names_of_source us ++ made) steps) in
      all ∙ h in
      let count = steps_count (names_of_source us ++ made) name k in
      let all = length-append (short_source us) (made ++ steps) in
      let inner = length-append made steps in
      let source = length-append (map unit_name us) (flat_map variables_of us) in
      let named = named_count us in
      let variable = variables_count us known in
      let small : length left < 10 ^ suc 5 = omega arith in
      let wanted = wanted_short name k h (omega arith) in
      let fresh_is = fresh_short 5 (wanted_step name k) left taken same small in
      omega arith
    where
      or_group : (a b c : Bool) → (a || (b || c)) ≡ ((a || b) || c)
      or_group true b c = refl
      or_group false b c = refl

-- ---- the units

abbrev NamedWithin : ℕ → List Procedure → Type 0
NamedWithin n us = EachUnit (λ u. length u.name ≤ n) us

named_join : (n : ℕ) (us vs : List Procedure) → NamedWithin n us → NamedWithin n vs → NamedWithin n (us ++ vs)
named_join n [] vs h g = g
named_join n (u ∷ us) vs h g = (h.0, named_join n us vs h.1 g)

module _ (taken : List (List ℕ)) (u : Procedure) (n : ℕ) where
  mutual
    act_named : (k line : ℕ) (a : Act) → ((j : ℕ) → j < k + marked_in_act a → length (step_name taken u.name j) ≤ n) → NamedWithin n (step_units_in_act taken u k line a)
    act_named k line (assign x subs e) f = tt
    act_named k line (choose c a b) f = named_join n (step_units_in taken u k a) (step_units_in taken u (k + marked_in a) b) (list_named k a (λ j lt. f j (omega arith))) (list_named (k + marked_in a) b (λ j lt. f j (omega arith)))
    act_named k line (loop x first last by body unmarked) f = list_named k body f
    act_named k line (loop x first last by body (with_count m)) f = (f k (omega arith), list_named (suc k) body (λ j lt. f j (omega arith)))
    act_named k line (loop x first last by body (count_from y)) f = (f k (omega arith), list_named (suc k) body (λ j lt. f j (omega arith)))
    act_named k line (during c body) f = list_named k body f
    act_named k line (call name args) f = tt
    act_named k line (runtime r) f = tt

    list_named : (k : ℕ) (c : Code) → ((j : ℕ) → j < k + marked_in c → length (step_name taken u.name j) ≤ n) → NamedWithin n (step_units_in taken u k c)
    list_named k stop f = tt
    list_named k (step line a rest) f = named_join n (step_units_in_act taken u k line a) (step_units_in taken u (k + marked_in_act a) rest) (act_named k line a (λ j lt. f j (omega arith))) (list_named (k + marked_in_act a) rest (λ j lt. f j (omega arith)))

  mutual
    act_count : (k line : ℕ) (a : Act) → length (step_units_in_act taken u k line a) ≡ marked_in_act a
    act_count k line (assign x subs e) = refl
    act_count k line (choose c a b) = length-append (step_units_in taken u k a) (step_units_in taken u (k + marked_in a) b) ∙ ap₂ (λ m n. m + n) (list_count k a) (list_count (k + marked_in a) b)
    act_count k line (loop x first last by body unmarked) = list_count k body
    act_count k line (loop x first last by body (with_count m)) = ap suc (list_count (suc k) body)
    act_count k line (loop x first last by body (count_from y)) = ap suc (list_count (suc k) body)
    act_count k line (during c body) = list_count k body
    act_count k line (call name args) = refl
    act_count k line (runtime r) = refl

    list_count : (k : ℕ) (c : Code) → length (step_units_in taken u k c) ≡ marked_in c
    list_count k stop = refl
    list_count k (step line a rest) = length-append (step_units_in_act taken u k line a) (step_units_in taken u (k + marked_in_act a) rest) ∙ ap₂ (λ m n. m + n) (act_count k line a) (list_count (k + marked_in_act a) rest)

pub from_count : (taken : List (List ℕ)) (us : List Procedure) → length (stepped_from taken us) ≡ length us + marked_loops us
from_count taken [] = refl
from_count taken (u ∷ us) =
    let here = list_count taken u 0 0 u.body in
    let rest = from_count (taken ++ step_names taken u.name (marked_in u.body)) us in
    let all = length-append (stepped_unit taken u) (stepped_from (taken ++ step_names taken u.name (marked_in u.body)) us) in
    omega arith

module _ (us : List Procedure) (few : length us ≤ 2000) (known : EachUnit (λ u. length (variables u) ≤ 200) us) where
  from_named : (made : List (List ℕ)) (vs : List Procedure) → EachUnit (λ u. length u.name ≤ 31) vs → length made + marked_loops vs ≤ 400000 → NamedWithin 46 (stepped_from (names_of_source us ++ made) vs)
  from_named made [] h le = tt
  from_named made (v ∷ vs) h le =
      let taken = names_of_source us ++ made in
      let steps = step_names taken v.name (marked_in v.body) in
      let count = steps_count taken v.name (marked_in v.body) in
      let all = length-append made steps in
      let own : length v.name ≤ 31 = h.0 in
      let named : (j : ℕ) → j < 0 + marked_in v.body → length (step_name taken v.name j) ≤ 46 = λ j lt. step_short us few known made v.name j own (omega arith) in
      let rest = from_named (made ++ steps) vs h.1 (omega arith) in
      let P : List (List ℕ) → Type 0 = λ xs. NamedWithin 46 (stepped_from xs vs) in
      named_join 46 (stepped_unit taken v) (stepped_from (taken ++ steps) vs) (omega arith, list_named taken v 46 0 v.body named) (subst P (sym (append_assoc (names_of_source us) made steps)) rest)

lowered_named : (n : ℕ) (units us : List Procedure) → NamedWithin n us → NamedWithin n (map (lowered_unit units) us)
lowered_named n units [] h = tt
lowered_named n units (u ∷ us) h = (h.0, lowered_named n units us h.1)

mapped_count : (units us : List Procedure) → length (map (lowered_unit units) us) ≡ length us
mapped_count units [] = refl
mapped_count units (u ∷ us) = let rest = mapped_count units us in omega arith

pub kernel_units_short : KernelUnitsAreShort
kernel_units_short ps small =
    let known = small.few_variables in
    let few = small.few_units in
    let marked = small.few_marked in
    let start = from_named ps few known [] ps small.names (omega arith) in
    let P : List (List ℕ) → Type 0 = λ xs. NamedWithin 46 (stepped_from xs ps) in
    let stepped : NamedWithin 46 (stepped_program ps) = subst P (append-nil (names_of_source ps)) start in
    let count = from_count (names_of_source ps) ps in
    let all = mapped_count (stepped_program ps) (stepped_program ps) in
    record { few_units = omega arith; names = lowered_named 46 (stepped_program ps) (stepped_program ps) stepped }
