-- The CALLs of the stepped program are as they should be, where those of the source and those of step units are.
use Rattle.std.proofs.Common.{◌≡◌, ℕ, suc, ◌+◌, ◌⊎◌, inl, inr, true, List, [], ◌++◌, refl, sym, ap, ◌∙◌}
use Rattle.std.proofs.lemmas.Bool.{or_cases}
use Rattle.adj_tree.specs.Code.{Var, plain, shadow, helper, Terms, unmarked, with_count, count_from, Act, assign, choose, loop, during, call, runtime, Code, stop, step, Procedure}
use Rattle.def_meaning.specs.Read.{reads_terms, names_extent}
use Rattle.def_meaning.specs.Units.{declared}
use Rattle.def_meaning.proofs.Booleans.{or_second}
use Rattle.def_meaning.specs.Apart.{has_name, is_named}
use Rattle.law_kernel.specs.Apart.{TermsInside, ActInside, CodeInside, EachCall', EachCall}
use Rattle.def_kernel.specs.Kernel.{named, names_in_code, names_of, EachUnit}
use Rattle.law_kernel.specs.Fits.{is_of, PlainAct, PlainCode}
use Rattle.def_kernel.specs.Stepped.{marked_in, marked_in_act, variables_of, is_extent_of, step_dummies, as_actuals, step_name, cut_act, cut, step_unit, step_units_in_act, step_units_in, stepped_unit}
use Rattle.law_kernel.specs.StepTheorem.{IsStepThere, StepsThereAct, StepsThere}
use Rattle.law_kernel.proofs.Faultless.{join_units}
use Rattle.law_kernel.proofs.Locals.{own_body}
use Rattle.law_kernel.proofs.StepNames.{loop_named, listed_once, used_has, used_is, extent_among, among_extent, declared_step}
use Rattle.law_kernel.proofs.StepUnits.{step_body_inside}

module _ (u : Procedure) where
  -- the extents of these variables are among them
  abbrev pub ExtentsIn : List (List ℕ) → Type 0
  ExtentsIn ns = (y d : List ℕ) → has_name y ns ≡ true → names_extent d (declared u.declarations (plain y)) ≡ true → has_name d ns ≡ true

  -- the caller declares these variables as the unit does
  abbrev pub Declares : Procedure → List (List ℕ) → Type 0
  Declares caller ns = (y : List ℕ) → has_name y ns ≡ true → declared caller.declarations (plain y) ≡ declared u.declarations (plain y)

  -- what is inside is of the text
  pub declares_read : (caller : Procedure) (ns : List (List ℕ)) (args : Terms) → Declares caller ns → TermsInside (is_named ns) args → (x : Var) → reads_terms x args ≡ true → declared caller.declarations x ≡ declared u.declarations x
  declares_read caller ns args d h x r = go x (h x r)
    where
      go : (z : Var) → is_named ns z ≡ true → declared caller.declarations z ≡ declared u.declarations z
      go (plain y) g = d y g
      go (shadow y) g = absurd cc
      go (helper o k) g = absurd cc

  module _ (P : List ℕ → Terms → Type 0) (own_extents : (x : Var) (d : List ℕ) → names_extent d (declared u.declarations x) ≡ true → has_name d (names_of u) ≡ true)
      (flat_extents : (x : Var) (d : List ℕ) → names_extent d (declared u.declarations x) ≡ true → declared u.declarations (plain d) ≡ []) where
    module _ (x : Var) (body : Code) (each : EachCall P body) where
      -- the names in the loop
      abbrev used : List (List ℕ)
      used = named x ++ names_in_code body

      -- the dummies of its step unit are among names that hold the loop
      pub in_hand : (ns : List (List ℕ)) → is_named ns x ≡ true → CodeInside (is_named ns) body → ExtentsIn ns → (y : List ℕ) → has_name y (step_dummies u x body) ≡ true → has_name y ns ≡ true
      in_hand ns hx h ext y g = go (or_cases (has_name y used) (is_extent_of u.declarations y used) (used_is u.declarations used (variables_of u) y g))
        where
          go : (has_name y used ≡ true) ⊎ (is_extent_of u.declarations y used ≡ true) → has_name y ns ≡ true
          go (inl k) = loop_named y (is_named ns) P x body hx h each k
          go (inr k) = let f = among_extent u.declarations y used k in ext f.of y (loop_named f.of (is_named ns) P x body hx h each f.among) f.is

      -- and hold their own extents
      pub extents_in : ExtentsIn (step_dummies u x body)
      extents_in y d h g = go (or_cases (has_name y used) (is_extent_of u.declarations y used) (used_is u.declarations used (variables_of u) y h))
        where
          go : (has_name y used ≡ true) ⊎ (is_extent_of u.declarations y used ≡ true) → has_name d (step_dummies u x body) ≡ true
          go (inl k) = used_has u.declarations used (variables_of u) d (listed_once d (names_of u) (own_extents (plain y) d g)) (or_second (has_name d used) (is_extent_of u.declarations d used) (extent_among u.declarations d y used k g))
          go (inr k) =
              let f = among_extent u.declarations y used k in
              let none : names_extent d [] ≡ true = sym (ap (names_extent d) (flat_extents (plain f.of) y f.is)) ∙ g in
              absurd cc

    module _ (units' : List Procedure) (taken : List (List ℕ)) (Q : Procedure → List ℕ → Terms → Type 0) (source_call : (caller : Procedure) (ns : List (List ℕ)) (name : List ℕ) (args : Terms) → Declares caller ns → TermsInside (is_named ns) args → P name args → Q caller name args)
        (step_call : (k line : ℕ) (x : Var) (body : Code) → IsStepThere units' taken u k line x body → (caller : Procedure) (ns : List (List ℕ)) → Declares caller ns → ((y : List ℕ) → has_name y (step_dummies u x body) ≡ true → has_name y ns ≡ true) → Q caller (step_name taken u.name k) (as_actuals (step_dummies u x body))) where
      mutual
        -- the calls of a cut statement are as they should be
        calls_act : (k line : ℕ) (a : Act) (caller : Procedure) (ns : List (List ℕ)) → Declares caller ns → ActInside (is_named ns) a → EachCall' P a → StepsThereAct units' taken u k line a → ExtentsIn ns → EachCall' (Q caller) (cut_act taken u k line a)
        calls_act k line (assign x subs e) caller ns d h p st ext = tt
        calls_act k line (choose c a b) caller ns d h p st ext = (calls_code k a caller ns d h.1.0 p.0 st.0 ext, calls_code (k + marked_in a) b caller ns d h.1.1 p.1 st.1 ext)
        calls_act k line (loop x first last by body unmarked) caller ns d h p st ext = calls_code k body caller ns d h.1.1 p st ext
        calls_act k line (loop x first last by body (with_count m)) caller ns d h p st ext = (step_call k line x body st.0 caller ns d (in_hand x body p ns h.0 h.1.1 ext), tt)
        calls_act k line (loop x first last by body (count_from counter)) caller ns d h p st ext = (step_call k line x body st.0 caller ns d (in_hand x body p ns h.0 h.1.1 ext), tt)
        calls_act k line (during c body) caller ns d h p st ext = calls_code k body caller ns d h.1 p st ext
        calls_act k line (call name args) caller ns d h p st ext = source_call caller ns name args d h p
        calls_act k line (runtime r) caller ns d h p st ext = absurd p

        -- and those of a list
        pub calls_code : (k : ℕ) (c : Code) (caller : Procedure) (ns : List (List ℕ)) → Declares caller ns → CodeInside (is_named ns) c → EachCall P c → StepsThere units' taken u k c → ExtentsIn ns → EachCall (Q caller) (cut taken u k c)
        calls_code k stop caller ns d h p st ext = tt
        calls_code k (step line a rest) caller ns d h p st ext = (calls_act k line a caller ns d h.0 p.0 st.0 ext, calls_code (k + marked_in_act a) rest caller ns d h.1 p.1 st.1 ext)

      -- those of a step unit
      pub calls_step : (k line : ℕ) (x : Var) (body : Code) → PlainCode body → is_of u x ≡ true → CodeInside (is_of u) body → EachCall P body → StepsThere units' taken u (suc k) body → EachCall (Q (step_unit taken u k line x body)) (cut taken u (suc k) body)
      calls_step k line x body pl ox o p st =
          calls_code (suc k) body (step_unit taken u k line x body) (step_dummies u x body) (λ y h. declared_step u.declarations line (step_dummies u x body) y h) (step_body_inside u P x body pl p ox o) p st (extents_in x body p)

      -- those of the unit
      pub calls_own : PlainCode u.body → EachCall P u.body → StepsThere units' taken u 0 u.body → EachCall (Q (record u { body = cut taken u 0 u.body })) (cut taken u 0 u.body)
      calls_own pl p st = calls_code 0 u.body (record u { body = cut taken u 0 u.body }) (names_of u) (λ y h. refl) (own_body u pl) p st (λ y d h g. own_extents (plain y) d g)

      -- those of its step units
      mutual
        calls_units_act : (k line : ℕ) (a : Act) → ActInside (is_of u) a → PlainAct a → EachCall' P a → StepsThereAct units' taken u k line a → EachUnit (λ v. EachCall (Q v) v.body) (step_units_in_act taken u k line a)
        calls_units_act k line (assign x subs e) o pl p st = tt
        calls_units_act k line (choose c a b) o pl p st = join_units (λ v. EachCall (Q v) v.body) (step_units_in taken u k a) (step_units_in taken u (k + marked_in a) b) (calls_units k a o.1.0 pl.1.0 p.0 st.0) (calls_units (k + marked_in a) b o.1.1 pl.1.1 p.1 st.1)
        calls_units_act k line (loop x first last by body unmarked) o pl p st = calls_units k body o.1.1 pl.1.1 p st
        calls_units_act k line (loop x first last by body (with_count m)) o pl p st = (calls_step k line x body pl.1.1 o.0 o.1.1 p st.1, calls_units (suc k) body o.1.1 pl.1.1 p st.1)
        calls_units_act k line (loop x first last by body (count_from counter)) o pl p st = (calls_step k line x body pl.1.1 o.0 o.1.1 p st.1, calls_units (suc k) body o.1.1 pl.1.1 p st.1)
        calls_units_act k line (during c body) o pl p st = calls_units k body o.1 pl.1 p st
        calls_units_act k line (call name args) o pl p st = tt
        calls_units_act k line (runtime r) o pl p st = tt

        calls_units : (k : ℕ) (c : Code) → CodeInside (is_of u) c → PlainCode c → EachCall P c → StepsThere units' taken u k c → EachUnit (λ v. EachCall (Q v) v.body) (step_units_in taken u k c)
        calls_units k stop o pl p st = tt
        calls_units k (step line a rest) o pl p st = join_units (λ v. EachCall (Q v) v.body) (step_units_in_act taken u k line a) (step_units_in taken u (k + marked_in_act a) rest) (calls_units_act k line a o.0 pl.0 p.0 st.0) (calls_units (k + marked_in_act a) rest o.1 pl.1 p.1 st.1)

      -- and so of the unit with its step units
      pub calls_stepped : PlainCode u.body → EachCall P u.body → StepsThere units' taken u 0 u.body → EachUnit (λ v. EachCall (Q v) v.body) (stepped_unit taken u)
      calls_stepped pl p st = (calls_own pl p st, calls_units 0 u.body (own_body u pl) pl p st)
