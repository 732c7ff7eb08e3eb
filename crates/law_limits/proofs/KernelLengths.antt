-- The variables of a kernel have short names.
use Rattle.std.proofs.Common.{◌≡◌, ◌≤◌, ◌<◌, ◌^◌, inl, inr, ℕ, zero, suc, ◌+◌, Bool, true, false, List, [], ◌∷◌, ◌++◌, length, map, flat_map, refl, sym, ap, subst, ◌∙◌, arith, length-append, pow-suc, codes, if◌then◌else◌}
use Rattle.std.specs.Prelude.{◌||◌, not, filter, ℤ}
use Rattle.std.proofs.lemmas.Bool.{or_left, or_right, or_cases, cases_lt}
use Rattle.adj_tree.specs.Code.{Var, plain, shadow, helper, Term, Terms, lit, var, elem, neg, bin, pow, power_of, abs, none, more, name_eq, unmarked, with_count, count_from, Act, Code, assign, choose, loop, during, call, runtime, stop, step, Declaration, Procedure}
use Rattle.adj_tree.proofs.Names.{name_refl, name_same}
use Rattle.def_meaning.specs.Written.{handed_back}
use Rattle.def_meaning.proofs.Variables.{var_same}
use Rattle.def_names.specs.Standing.{Standing, scalar, whole, in_actual, in_actuals, in_act}
use Rattle.def_names.specs.Statements.{At, statements}
use Rattle.def_names.specs.Variables.{Name, dummy_places, declared_places, statement_places, places, first_places, variables}
use Rattle.def_meaning.specs.Apart.{has_name}
use Rattle.def_names.specs.Fresh.{digits, candidate, fresh}
use Rattle.def_names.specs.Reserved.{reserved}
use Rattle.def_names.proofs.NameLists.{has-append}
use Rattle.def_names.proofs.Fresh.{fresh-is_free}
use Rattle.law_kernel.specs.Apart.{EachCall', EachCall}
use Rattle.def_kernel.specs.Calls.{is_name_of}
use Rattle.def_kernel.specs.Kernel.{declared_names, names_in_code, names_of, wanted_local, local_names, unit_name, taken_in, local_in, scalar_at, locals_count, lowered_unit, EachUnit}
use Rattle.def_kernel.specs.Stepped.{variables_of, used_among, is_extent_of, step_dummies, as_actuals, step_declarations, marked_in, marked_in_act, step_names, cut_act, cut, step_unit, step_units_in_act, step_units_in, stepped_unit, stepped_from, names_of_source, stepped_program}
use Rattle.law_kernel.proofs.Faultless.{Each, each_front, each_behind, each_join, join_units}
use Rattle.law_kernel.proofs.Holding.{HoldsIn, Holds, listed, holding}
use Rattle.law_kernel.proofs.LoweredNames.{lowered_names}
use Rattle.law_kernel.proofs.Repeated.{Once}
use Rattle.law_kernel.proofs.OneNotion.{names_placed, one_notion}
use Rattle.law_kernel.proofs.StandingNames.{each_member}
use Rattle.law_kernel.proofs.StepNames.{listed_once}
use Rattle.law_kernel.specs.Fits.{IsFitCall}
use Rattle.law_kernel.proofs.SoundPrograms.{sound_is_source}
use Rattle.law_kernel.proofs.WholeKernels.{good}
use Rattle.law_kernel.proofs.WholeKernels as whole
use Rattle.law_limits.specs.Lengths.{HasCandidates, AreShort, KernelVariablesAreShort, LocalsAreVariables}
use Rattle.law_limits.proofs.FreshLengths.{digits_short, without, without-shorter, without-has, not_so, fresh_short}
use Rattle.law_limits.proofs.StepLengths.{named_count, from_count}

-- each member of a list of names
each_name : (P : Name → Type 0) (xs : List Name) → ((x : Name) → has_name x xs ≡ true → P x) → Each P xs
each_name P [] f = tt
each_name P (x ∷ xs) f = (f x (or_left (name_eq x x) (has_name x xs) (name_refl x)), each_name P xs (λ y h. f y (or_right (name_eq y x) (has_name y xs) h)))

module _ (P : Name → Type 0) where
  abbrev R : Standing → Type 0
  R s = P s.name

  abbrev Names : ℕ → Act → Type 0
  Names line a = Each R (in_act a)

  -- all names of a unit
  record AllNames (v : Procedure) : Type 0 where
    dummies : Each P v.dummies
    declared : Each (λ d. P d.name) v.declarations
    body : Holds Names v.body

  -- ---- the variables of a unit, and all its names

  unmapped : {A : Type 0} (f : A → Name) (xs : List A) → Each P (map f xs) → Each (λ x. P (f x)) xs
  unmapped f [] h = tt
  unmapped f (x ∷ xs) h = (h.0, unmapped f xs h.1)

  mapped : {A : Type 0} (f : A → Name) (xs : List A) → Each (λ x. P (f x)) xs → Each P (map f xs)
  mapped f [] h = tt
  mapped f (x ∷ xs) h = (h.0, mapped f xs h.1)

  abbrev AtPlace : At Name → Type 0
  AtPlace p = P p.1

  of_line : (line : ℕ) (ns : List Standing) → Each AtPlace (map (λ n. (line, n.name)) ns) → Each R ns
  of_line line [] h = tt
  of_line line (n ∷ ns) h = (h.0, of_line line ns h.1)

  at_line : (line : ℕ) (ns : List Standing) → Each R ns → Each AtPlace (map (λ n. (line, n.name)) ns)
  at_line line [] h = tt
  at_line line (n ∷ ns) h = (h.0, at_line line ns h.1)

  of_dummies : (line : ℕ) (ds : List Name) → Each AtPlace (map (λ d. (line, d)) ds) → Each P ds
  of_dummies line [] h = tt
  of_dummies line (d ∷ ds) h = (h.0, of_dummies line ds h.1)

  at_dummies : (line : ℕ) (ds : List Name) → Each P ds → Each AtPlace (map (λ d. (line, d)) ds)
  at_dummies line [] h = tt
  at_dummies line (d ∷ ds) h = (h.0, at_dummies line ds h.1)

  of_declared : (ds : List Declaration) → Each AtPlace (map (λ d. (d.line, d.name)) ds) → Each (λ d. P d.name) ds
  of_declared [] h = tt
  of_declared (d ∷ ds) h = (h.0, of_declared ds h.1)

  at_declared : (ds : List Declaration) → Each (λ d. P d.name) ds → Each AtPlace (map (λ d. (d.line, d.name)) ds)
  at_declared [] h = tt
  at_declared (d ∷ ds) h = (h.0, at_declared ds h.1)

  of_statements : (ss : List (At Act)) → Each AtPlace (flat_map (λ s. map (λ n. (s.0, n.name)) (in_act s.1)) ss) → Each (λ s. Each R (in_act s.1)) ss
  of_statements [] h = tt
  of_statements (s ∷ ss) h =
      let own = map (λ n. (s.0, n.name)) (in_act s.1) in
      let rest = flat_map (λ s. map (λ n. (s.0, n.name)) (in_act s.1)) ss in
      (of_line s.0 (in_act s.1) (each_front AtPlace own rest h), of_statements ss (each_behind AtPlace own rest h))

  at_statements : (ss : List (At Act)) → Each (λ s. Each R (in_act s.1)) ss → Each AtPlace (flat_map (λ s. map (λ n. (s.0, n.name)) (in_act s.1)) ss)
  at_statements [] h = tt
  at_statements (s ∷ ss) h = each_join AtPlace (map (λ n. (s.0, n.name)) (in_act s.1)) (flat_map (λ s. map (λ n. (s.0, n.name)) (in_act s.1)) ss) (at_line s.0 (in_act s.1) h.0) (at_statements ss h.1)

  -- what holds of the variables holds of all names
  all_names : (u : Procedure) → Each P (variables u) → AllNames u
  all_names u h =
      let vs : Each P (variables_of u) = subst (Each P) (sym (one_notion u)) h in
      let every : Each P (names_of u) = each_name P (names_of u) (λ x k. each_member P (variables_of u) vs x (listed_once x (names_of u) k)) in
      let placed : Each AtPlace (places u) = unmapped (λ p. p.1) (places u) (subst (Each P) (sym (names_placed u)) every) in
      let behind = each_behind AtPlace (dummy_places u) (declared_places u ++ statement_places u) placed in
      record {
        dummies = of_dummies u.line u.dummies (each_front AtPlace (dummy_places u) (declared_places u ++ statement_places u) placed);
        declared = of_declared u.declarations (each_front AtPlace (declared_places u) (statement_places u) behind);
        body = holding Names u.body (of_statements (statements u.body) (each_behind AtPlace (declared_places u) (statement_places u) behind));
      }

  filtered : (f : At Name → Bool) (ps : List (At Name)) → Each AtPlace ps → Each AtPlace (filter f ps)
  filtered f [] h = tt
  filtered f (p ∷ ps) h =
      let rest = filtered f ps h.1 in
      elim (f p) as (λ b. Each AtPlace (if b then p ∷ filter f ps else filter f ps)) [ true ↦ (h.0, rest) | false ↦ rest ]

  firsts : (ps : List (At Name)) → Each AtPlace ps → Each AtPlace (first_places ps)
  firsts [] h = tt
  firsts (p ∷ ps) h = (h.0, filtered (λ q. not (name_eq p.1 q.1)) (first_places ps) (firsts ps h.1))

  -- and the other way
  all_variables : (v : Procedure) → AllNames v → Each P (variables v)
  all_variables v h =
      let body : Each (λ s. Each R (in_act s.1)) (statements v.body) = listed Names v.body h.body in
      mapped (λ p. p.1) (first_places (places v))
      (firsts (places v) (each_join AtPlace (dummy_places v) (declared_places v ++ statement_places v) (at_dummies v.line v.dummies h.dummies) (each_join AtPlace (declared_places v) (statement_places v) (at_declared v.declarations h.declared) (at_statements (statements v.body) body))))

  -- ---- step units

  actuals_named : (xs : List Name) → Each P xs → Each R (in_actuals (as_actuals xs))
  actuals_named [] h = tt
  actuals_named (x ∷ xs) h = (h.0, actuals_named xs h.1)

  used_named : (ds : List Declaration) (names vs : List Name) → Each P vs → Each P (used_among ds names vs)
  used_named ds names [] h = tt
  used_named ds names (x ∷ xs) h =
      let rest = used_named ds names xs h.1 in
      elim (has_name x names || is_extent_of ds x names) as (λ b. Each P (if b then x ∷ used_among ds names xs else used_among ds names xs)) [ true ↦ (h.0, rest) | false ↦ rest ]

  step_declared : (ds : List Declaration) (line : ℕ) (xs : List Name) → Each P xs → Each (λ d. P d.name) (step_declarations ds line xs)
  step_declared ds line [] h = tt
  step_declared ds line (x ∷ xs) h = (h.0, step_declared ds line xs h.1)

  module _ (taken : List Name) (u : Procedure) (vars : Each P (variables_of u)) where
    dummies_named : (x : Var) (body : Code) → Each P (step_dummies u x body)
    dummies_named x body = used_named u.declarations _ (variables_of u) vars

    mutual
      act_cut : (k line : ℕ) (a : Act) → Names line a → HoldsIn Names a → Names line (cut_act taken u k line a) × HoldsIn Names (cut_act taken u k line a)
      act_cut k line (assign x subs e) n h = (n, tt)
      act_cut k line (choose c a b) n h = (n, (list_cut k a h.0, list_cut (k + marked_in a) b h.1))
      act_cut k line (loop x first last by body unmarked) n h = (n, list_cut k body h)
      act_cut k line (loop x first last by body (with_count m)) n h = (n, (actuals_named (step_dummies u x body) (dummies_named x body), (tt, tt)))
      act_cut k line (loop x first last by body (count_from y)) n h = (n, (actuals_named (step_dummies u x body) (dummies_named x body), (tt, tt)))
      act_cut k line (during c body) n h = (n, list_cut k body h)
      act_cut k line (call name args) n h = (n, tt)
      act_cut k line (runtime r) n h = (n, tt)

      list_cut : (k : ℕ) (c : Code) → Holds Names c → Holds Names (cut taken u k c)
      list_cut k stop h = tt
      list_cut k (step line a rest) h = let p = act_cut k line a h.0 h.1.0 in (p.0, (p.1, list_cut (k + marked_in_act a) rest h.1.1))

    unit_made : (k line : ℕ) (x : Var) (body : Code) → Holds Names body → AllNames (step_unit taken u k line x body)
    unit_made k line x body h = record { dummies = dummies_named x body; declared = step_declared u.declarations line (step_dummies u x body) (dummies_named x body); body = list_cut (suc k) body h }

    mutual
      act_units : (k line : ℕ) (a : Act) → HoldsIn Names a → EachUnit AllNames (step_units_in_act taken u k line a)
      act_units k line (assign x subs e) h = tt
      act_units k line (choose c a b) h = join_units AllNames (step_units_in taken u k a) (step_units_in taken u (k + marked_in a) b) (list_units k a h.0) (list_units (k + marked_in a) b h.1)
      act_units k line (loop x first last by body unmarked) h = list_units k body h
      act_units k line (loop x first last by body (with_count m)) h = (unit_made k line x body h, list_units (suc k) body h)
      act_units k line (loop x first last by body (count_from y)) h = (unit_made k line x body h, list_units (suc k) body h)
      act_units k line (during c body) h = list_units k body h
      act_units k line (call name args) h = tt
      act_units k line (runtime r) h = tt

      list_units : (k : ℕ) (c : Code) → Holds Names c → EachUnit AllNames (step_units_in taken u k c)
      list_units k stop h = tt
      list_units k (step line a rest) h = join_units AllNames (step_units_in_act taken u k line a) (step_units_in taken u (k + marked_in_act a) rest) (act_units k line a h.1.0) (list_units (k + marked_in_act a) rest h.1.1)

    stepped_named : AllNames u → EachUnit AllNames (stepped_unit taken u)
    stepped_named h = (record { dummies = h.dummies; declared = h.declared; body = list_cut 0 u.body h.body }, list_units 0 u.body h.body)

  from_named : (taken : List Name) (us : List Procedure) → EachUnit (λ u. Each P (variables u)) us → EachUnit AllNames (stepped_from taken us)
  from_named taken [] h = tt
  from_named taken (u ∷ us) h =
      join_units AllNames (stepped_unit taken u) (stepped_from (taken ++ step_names taken u.name (marked_in u.body)) us) (stepped_named taken u (subst (Each P) (sym (one_notion u)) h.0) (all_names u h.0))
      (from_named (taken ++ step_names taken u.name (marked_in u.body)) us h.1)

  -- ---- lowering

  -- a name that stands whole is one
  name_there : (x : Var) (e : Term) → is_name_of x e ≡ true → Each R (in_actual e) → Each R (scalar x)
  name_there x (var y) n h = subst (λ z. Each R (scalar z)) (sym (var_same x y n)) (as_scalar y h)
    where
      as_scalar : (y : Var) → Each R (whole y) → Each R (scalar y)
      as_scalar (plain z) h = h
      as_scalar (shadow z) h = tt
      as_scalar (helper r k) h = tt
  name_there x (lit z) n h = absurd cc
  name_there x (elem y s) n h = absurd cc
  name_there x (neg a) n h = absurd cc
  name_there x (bin op a b) n h = absurd cc
  name_there x (pow a k) n h = absurd cc
  name_there x (power_of a b) n h = absurd cc
  name_there x (abs a) n h = absurd cc

  once_names : (es : Terms) → Each R (in_actuals es) → Once (λ x. Each R (scalar x)) es
  once_names none h = tt
  once_names (more e es) h = ((λ x n s. name_there x e n (each_front R (in_actual e) (in_actuals es) h)), once_names es (each_behind R (in_actual e) (in_actuals es) h))

  mutual
    act_once : (C : List ℕ → Terms → Type 0) (line : ℕ) (a : Act) → Names line a → HoldsIn Names a → EachCall' C a → EachCall' (λ name args. Once (λ x. Each R (scalar x)) args) a
    act_once C line (assign x subs e) n h f = tt
    act_once C line (choose c a b) n h f = (list_once C a h.0 f.0, list_once C b h.1 f.1)
    act_once C line (loop x first last by body m) n h f = list_once C body h f
    act_once C line (during c body) n h f = list_once C body h f
    act_once C line (call name args) n h f = once_names args n
    act_once C line (runtime r) n h f = absurd f

    list_once : (C : List ℕ → Terms → Type 0) (c : Code) → Holds Names c → EachCall C c → EachCall (λ name args. Once (λ x. Each R (scalar x)) args) c
    list_once C stop h f = tt
    list_once C (step line a rest) h f = (act_once C line a h.0 h.1.0 f.0, list_once C rest h.1.1 f.1)

  scalars_named : (line : ℕ) (xs : List Name) → Each P xs → Each (λ d. P d.name) (map (scalar_at line) xs)
  scalars_named line [] h = tt
  scalars_named line (x ∷ xs) h = (h.0, scalars_named line xs h.1)

  locals_named : (taken : List Name) (k : ℕ) → ((j : ℕ) → j < k → P (fresh (wanted_local j) (taken ++ local_names taken j))) → Each P (local_names taken k)
  locals_named taken zero f = tt
  locals_named taken (suc k) f = each_join P (local_names taken k) (fresh (wanted_local k) (taken ++ local_names taken k) ∷ []) (locals_named taken k (λ j lt. f j (omega arith))) (f k (omega arith), tt)

  lowered_named : (C : List ℕ → Terms → Type 0) (all : List Procedure) (v : Procedure) → AllNames v → EachCall C v.body → ((j : ℕ) → j < locals_count all v → P (fresh (wanted_local j) (taken_in all v ++ local_names (taken_in all v) j))) → AllNames (lowered_unit all v)
  lowered_named C all v h f locals = record {
    dummies = h.dummies;
    declared = each_join (λ (d : Declaration). P d.name) v.declarations (map (scalar_at v.line) (local_names (taken_in all v) (locals_count all v))) h.declared (scalars_named v.line (local_names (taken_in all v) (locals_count all v)) (locals_named (taken_in all v) (locals_count all v) locals));
    body = lowered_names (local_in all v) (locals_count all v) R (λ j lt. (locals j lt, tt)) (λ j lt. (locals j lt, tt)) (handed_back all) v.body (omega arith) h.body (list_once C v.body h.body f);
  }

-- ---- names of a source's unit alone stand in its units

units_more : (A B : Procedure → Type 0) → ((v : Procedure) → A v → B v) → (vs : List Procedure) → EachUnit A vs → EachUnit B vs
units_more A B f [] h = tt
units_more A B f (v ∷ vs) h = (f v h.0, units_more A B f vs h.1)

-- a unit whose names are among few
record IsCovered (v : Procedure) : Type 0 where
  names : List Name
  few : length names ≤ 200
  covers : (x : Name) → has_name x (names_of v) ≡ true → has_name x names ≡ true

unit_covered : (u : Procedure) → length (variables u) ≤ 200 → (taken : List Name) → EachUnit IsCovered (stepped_unit taken u)
unit_covered u few taken =
    let among : Name → Type 0 = λ x. has_name x (variables_of u) ≡ true in
    let own : Each among (variables_of u) = each_name among (variables_of u) (λ x h. h) in
    let same : length (variables_of u) ≡ length (variables u) = ap length (one_notion u) in
    let all = stepped_named among taken u own (all_names among u (subst (Each among) (one_notion u) own)) in
    units_more (AllNames among) IsCovered (λ v h. record {
      names = variables_of u;
      few = omega arith;
      covers = λ x k. each_member among (variables_of v) (subst (Each among) (sym (one_notion v)) (all_variables among v h)) x (listed_once x (names_of v) k);
    }) (stepped_unit taken u) all

from_covered : (taken : List Name) (us : List Procedure) → EachUnit (λ u. length (variables u) ≤ 200) us → EachUnit IsCovered (stepped_from taken us)
from_covered taken [] h = tt
from_covered taken (u ∷ us) h = join_units IsCovered (stepped_unit taken u) (stepped_from (taken ++ step_names taken u.name (marked_in u.body)) us) (unit_covered u h.0 taken) (from_covered (taken ++ step_names taken u.name (marked_in u.body)) us h.1)

-- ---- locals

locals_length : (taken : List Name) (k : ℕ) → length (local_names taken k) ≡ k
locals_length taken zero = refl
locals_length taken (suc k) = let rest = locals_length taken k in let all = length-append (local_names taken k) (fresh (wanted_local k) (taken ++ local_names taken k) ∷ []) in omega arith

in_either : (x : Name) (xs ys zs us : List Name) → (has_name x xs ≡ true → has_name x zs ≡ true) → (has_name x ys ≡ true → has_name x us ≡ true) → has_name x (xs ++ ys) ≡ true → has_name x (zs ++ us) ≡ true
in_either x xs ys zs us f g h =
    elim (or_cases (has_name x xs) (has_name x ys) (sym (has-append x xs ys) ∙ h)) [
      | inl e ↦ has-append x zs us ∙ or_left (has_name x zs) (has_name x us) (f e)
      | inr e ↦ has-append x zs us ∙ or_right (has_name x zs) (has_name x us) (g e)
    ]

local_short : (all : List Procedure) → length all ≤ 402000 → (v : Procedure) → IsCovered v → (j : ℕ) → suc j < 10 ^ 10 → length (fresh (wanted_local j) (taken_in all v ++ local_names (taken_in all v) j)) ≤ 40
local_short all few v c j lt =
    let locals = local_names (taken_in all v) j in
    let units = map unit_name all ++ reserved in
    let left = (c.names ++ units) ++ locals in
    let same : HasCandidates (wanted_local j) left (taken_in all v ++ locals) = λ i.
    let x = candidate (wanted_local j) i in
    in_either x (taken_in all v) locals (c.names ++ units) locals (in_either x (names_of v) units c.names units (c.covers x) (λ h. h)) (λ h. h) in
    let few_names = c.few in
    let count = locals_length (taken_in all v) j in
    let a = length-append (c.names ++ units) locals in
    let b = length-append c.names units in
    let d = length-append (map unit_name all) reserved in
    let named = named_count all in
    let eighteen : length reserved ≡ 18 = refl in
    let power = pow-suc 10 10 in
    let small : length left < 10 ^ suc 10 = omega arith in
    let wanted = length-append (codes "ADV") (digits (suc j)) in
    let ten = digits_short 9 (suc j) lt in
    let fresh_is = fresh_short 10 (wanted_local j) left (taken_in all v ++ locals) same small in
    omega arith

-- ---- the kernel

short_each : (n : ℕ) (xs : List Name) → AreShort n xs → Each (λ x. length x ≤ n) xs
short_each n [] h = tt
short_each n (x ∷ xs) h = (h.0, short_each n xs h.1)

each_short : (n : ℕ) (xs : List Name) → Each (λ x. length x ≤ n) xs → AreShort n xs
each_short n [] h = tt
each_short n (x ∷ xs) h = (h.0, each_short n xs h.1)

abbrev Short : Name → Type 0
Short x = length x ≤ 40

pub kernel_variables_short : KernelVariablesAreShort
kernel_variables_short ps accepted small short counts =
    let all = stepped_program ps in
    let few = small.few_units in
    let marked = small.few_marked in
    let count = from_count (names_of_source ps) ps in
    let units : length all ≤ 402000 = omega arith in
    let named = from_named Short (names_of_source ps) ps (units_more (λ u. AreShort 40 (variables u)) (λ u. Each Short (variables u)) (λ u h. short_each 40 (variables u) h) ps short) in
    go units all named (from_covered (names_of_source ps) ps small.few_variables) (good ℤ ps (sound_is_source ps accepted.written accepted.sound ℤ)) counts
  where
    go : length (stepped_program ps) ≤ 402000 → (vs : List Procedure) → EachUnit (AllNames Short) vs → EachUnit IsCovered vs → EachUnit (whole.IsGood ℤ ps (sound_is_source ps accepted.written accepted.sound ℤ)) vs → EachUnit (λ v. locals_count (stepped_program ps) v < 10 ^ 10) vs → EachUnit (λ v. AreShort 40 (variables v)) (map (lowered_unit (stepped_program ps)) vs)
    go units [] n c g k = tt
    go units (v ∷ vs) n c g k =
        let all = stepped_program ps in
        let most : locals_count all v < 10 ^ 10 = k.0 in
        let w = lowered_named Short (IsFitCall all v) all v n.0 g.0.1.0 (λ j lt. local_short all units v c.0 j (omega arith)) in
        (each_short 40 (variables (lowered_unit all v)) (all_variables Short (lowered_unit all v) w), go units vs n.1 c.1 g.1 k.1)

-- ---- locals are variables

abbrev name_at : List Name → ℕ → Name
name_at taken j = fresh (wanted_local j) (taken ++ local_names taken j)

local_there : (taken : List Name) (j k : ℕ) → j < k → has_name (name_at taken j) (local_names taken k) ≡ true
local_there taken j zero lt = absurd (omega arith)
local_there taken j (suc k) lt =
    let x = name_at taken j in
    let here = name_at taken k in
    elim (cases_lt j k) [
      | inl less ↦ has-append x (local_names taken k) (here ∷ []) ∙ or_left (has_name x (local_names taken k)) (has_name x (here ∷ [])) (local_there taken j k less)
      | inr le ↦
          let e : j ≡ k = omega arith in
          let same : name_eq x here ≡ true = subst (λ i. name_eq (name_at taken i) here ≡ true) (sym e) (name_refl here) in
          has-append x (local_names taken k) (here ∷ []) ∙ or_right (has_name x (local_names taken k)) (has_name x (here ∷ [])) (or_left (name_eq x here) false same)
    ]

-- names that are apart and stand in a list are no more than it has
locals_within : (taken : List Name) (k : ℕ) (ys : List Name) → ((j : ℕ) → j < k → has_name (name_at taken j) ys ≡ true) → k ≤ length ys
locals_within taken zero ys f = omega arith
locals_within taken (suc k) ys f =
    let x = name_at taken k in
    let last : k < suc k = omega arith in
    let shorter = without-shorter x ys (f k last) in
    let free : has_name x (taken ++ local_names taken k) ≡ false = fresh-is_free (wanted_local k) (taken ++ local_names taken k) in
    let apart : (j : ℕ) → j < k → name_eq (name_at taken j) x ≡ false = λ j lt.
    not_so _ (λ e.
    let there : has_name x (local_names taken k) ≡ true = subst (λ z. has_name z (local_names taken k) ≡ true) (name_same (name_at taken j) x e) (local_there taken j k lt) in
    let z : true ≡ false = sym (has-append x taken (local_names taken k) ∙ or_right (has_name x taken) (has_name x (local_names taken k)) there) ∙ free in
    cc) in
    let rest = locals_within taken k (without x ys) (λ j lt. let le : j < suc k = omega arith in without-has x (name_at taken j) ys (apart j lt) ∙ f j le) in
    omega arith

declared_there : (x : Name) (ds : List Declaration) (line : ℕ) (xs : List Name) → has_name x xs ≡ true → has_name x (declared_names (ds ++ map (scalar_at line) xs)) ≡ true
declared_there x [] line [] h = absurd cc
declared_there x [] line (y ∷ ys) h = elim (or_cases (name_eq x y) (has_name x ys) h) [ inl e ↦ or_left (name_eq x y) _ e | inr e ↦ or_right (name_eq x y) _ (declared_there x [] line ys e) ]
declared_there x (d ∷ ds) line xs h = or_right (name_eq x d.name) _ (declared_there x ds line xs h)

pub locals_few : LocalsAreVariables
locals_few all v =
    let taken = taken_in all v in
    let w = lowered_unit all v in
    let count = locals_count all v in
    let there : (j : ℕ) → j < count → has_name (name_at taken j) (variables_of w) ≡ true = λ j lt.
    let x = name_at taken j in
    let declared = declared_there x v.declarations v.line (local_names taken count) (local_there taken j count lt) in
    listed_once x (names_of w) (has-append x w.dummies (declared_names w.declarations ++ names_in_code w.body) ∙ or_right (has_name x w.dummies) _ (has-append x (declared_names w.declarations) (names_in_code w.body) ∙ or_left (has_name x (declared_names w.declarations)) _ declared)) in
    let within = locals_within taken count (variables_of w) there in
    let same : length (variables_of w) ≡ length (variables w) = ap length (one_notion w) in
    omega arith
