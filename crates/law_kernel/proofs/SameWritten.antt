-- The dummies that a unit of the kernel writes are those that its source writes.
use Rattle.std.proofs.Common.{◌≡◌, ℕ, ◌⊎◌, inl, inr, Bool, true, false, List, [], ◌∷◌, map, refl, sym, ap, ◌∙◌, subst}
use Rattle.std.specs.Prelude.{◌||◌, if◌then◌else◌}
use Rattle.adj_tree.specs.Code.{Var, plain, var_eq, name_eq, Terms, Act, assign, choose, loop, during, call, runtime, Code, stop, step, Procedure}
use Rattle.adj_tree.proofs.Names.{name_refl}
use Rattle.def_meaning.specs.Append.{◌+++◌}
use Rattle.def_meaning.specs.LeastSet.{Dummies, row_of, by_rule, least_rows, IsWithin, AreWithin, IsLeast}
use Rattle.def_meaning.specs.Written.{is_handed_back, act_writes, writes, write_rule, handed_back}
use Rattle.def_meaning.proofs.Booleans.{or_first, or_second, or_more}
use Rattle.def_meaning.proofs.LeastSets.{row_within}
use Rattle.law_meaning.proofs.WriteSets.{least_written}
use Rattle.def_meaning.specs.Apart.{has_name}
use Rattle.def_kernel.specs.Lowered.{locals_in_all, reduced_all, before_all, all_passed, before_passing_all, after_passing_all, lowered_call, lowered_act, lowered}
use Rattle.law_kernel.specs.Apart.{AreLocals, TermsInside, ActInside, CodeInside, EachCall', EachCall}
use Rattle.def_kernel.specs.Calls.{AreHandedApart}
use Rattle.law_kernel.specs.Fits.{is_of, PlainCode, IsFitCall, IsFit}
use Rattle.def_kernel.specs.Kernel.{local_in, lowered_unit, lowered_program, EachUnit}
use Rattle.law_kernel.proofs.Locals.{unit_locals, own_body, own_dummies}
use Rattle.law_kernel.proofs.Writes.{writes_append, assign_writes, call_back, args_written, leaves_all, leaves_passing_all}

module _ (inside : Var → Bool) (local : ℕ → Var) (apart : AreLocals inside local) (handed : Dummies) (P : List ℕ → Terms → Type 0) (fit : (name : List ℕ) (args : Terms) → P name args → AreHandedApart (handed name) args) (x : Var) (hx : inside x ≡ true) where
  or_nothing : (b : Bool) → (b || false) ≡ true → b ≡ true
  or_nothing true e = refl
  or_nothing false e = e

  -- what the kernel's statements write the source's do
  mutual
    act_back : (line : ℕ) (a : Act) → writes handed x (lowered_act local handed line a) ≡ true → act_writes handed x a ≡ true
    act_back line (assign y subs e) h = sym (assign_writes inside local apart handed x hx line y subs e) ∙ h
    act_back line (choose c a b) h = or_more (writes handed x (lowered local handed a)) (writes handed x (lowered local handed b)) (writes handed x a) (writes handed x b) (code_back a) (code_back b) (or_nothing (writes handed x (lowered local handed a) || writes handed x (lowered local handed b)) h)
    act_back line (loop y first last by body m) h = or_more (var_eq x y) (writes handed x (lowered local handed body)) (var_eq x y) (writes handed x body) (λ z. z) (code_back body) (or_nothing (var_eq x y || writes handed x (lowered local handed body)) h)
    act_back line (during c body) h = code_back body (or_nothing (writes handed x (lowered local handed body)) h)
    act_back line (call name args) h = call_back inside local apart handed x hx line name args h
    act_back line (runtime r) h = or_nothing (act_writes handed x (runtime r)) h

    -- and of a list
    code_back : (c : Code) → writes handed x (lowered local handed c) ≡ true → writes handed x c ≡ true
    code_back stop h = h
    code_back (step line a rest) h =
        or_more (writes handed x (lowered_act local handed line a)) (writes handed x (lowered local handed rest)) (act_writes handed x a) (writes handed x rest) (act_back line a) (code_back rest)
        (sym (writes_append handed x (lowered_act local handed line a) (lowered local handed rest)) ∙ h)

  -- and what the source's write the kernel's do, where fewer dummies are known to be written
  module _ (fewer : Dummies) (within : (name : List ℕ) → IsWithin (fewer name) (handed name)) where
    -- a CALL that hands back a variable becomes statements that write it
    call_forth : (line : ℕ) (name : List ℕ) (args : Terms) → TermsInside inside args → P name args → is_handed_back x (fewer name) args ≡ true → writes fewer x (lowered_call local line (handed name) name args) ≡ true
    call_forth line name args h p e =
        e1 ∙ go (args_written inside local apart fewer x hx line args (fewer name) (handed name) [] 0 j (within name) h (λ y hy g. absurd cc) (fit name args p) e)
      where
        j : ℕ
        j = locals_in_all args

        es : Terms
        es = reduced_all local 0 args

        names : Terms
        names = all_passed local (locals_in_all args) (handed name) [] (reduced_all local 0 args)

        after : Code
        after = after_passing_all local line (locals_in_all args) (handed name) [] (reduced_all local 0 args)

        second : Code
        second = before_passing_all local line (locals_in_all args) (handed name) [] (reduced_all local 0 args)

        e1 : writes fewer x (lowered_call local line (handed name) name args) ≡ (is_handed_back x (fewer name) names || writes fewer x after)
        e1 =
            writes_append fewer x (before_all local line 0 args) (second +++ step line (call name names) after)
            ∙ ap (λ z. z || writes fewer x (second +++ step line (call name names) after)) (leaves_all inside local apart fewer x hx line 0 args)
            ∙ writes_append fewer x second (step line (call name names) after)
            ∙ ap (λ z. z || (is_handed_back x (fewer name) names || writes fewer x after)) (leaves_passing_all inside local apart fewer x hx line (locals_in_all args) (handed name) [] (reduced_all local 0 args))

        go : (is_handed_back x (fewer name) (all_passed local (locals_in_all args) (handed name) [] (reduced_all local 0 args)) ≡ true) ⊎ (writes fewer x (after_passing_all local line (locals_in_all args) (handed name) [] (reduced_all local 0 args)) ≡ true) → (is_handed_back x (fewer name) names || writes fewer x after) ≡ true
        go (inl m) = or_first (is_handed_back x (fewer name) names) (writes fewer x after) m
        go (inr m) = or_second (is_handed_back x (fewer name) names) (writes fewer x after) m

    mutual
      act_forth : (line : ℕ) (a : Act) → ActInside inside a → EachCall' P a → act_writes fewer x a ≡ true → writes fewer x (lowered_act local handed line a) ≡ true
      act_forth line (assign y subs e) h p g = assign_writes inside local apart fewer x hx line y subs e ∙ g
      act_forth line (choose c a b) h p g = or_first (writes fewer x (lowered local handed a) || writes fewer x (lowered local handed b)) false (or_more (writes fewer x a) (writes fewer x b) (writes fewer x (lowered local handed a)) (writes fewer x (lowered local handed b)) (code_forth a h.1.0 p.0) (code_forth b h.1.1 p.1) g)
      act_forth line (loop y first last by body m) h p g = or_first (var_eq x y || writes fewer x (lowered local handed body)) false (or_more (var_eq x y) (writes fewer x body) (var_eq x y) (writes fewer x (lowered local handed body)) (λ z. z) (code_forth body h.1.1 p) g)
      act_forth line (during c body) h p g = or_first (writes fewer x (lowered local handed body)) false (code_forth body h.1 p g)
      act_forth line (call name args) h p g = call_forth line name args h p g
      act_forth line (runtime r) h p g = absurd p

      code_forth : (c : Code) → CodeInside inside c → EachCall P c → writes fewer x c ≡ true → writes fewer x (lowered local handed c) ≡ true
      code_forth stop h p g = g
      code_forth (step line a rest) h p g =
          writes_append fewer x (lowered_act local handed line a) (lowered local handed rest)
          ∙ or_more (act_writes fewer x a) (writes fewer x rest) (writes fewer x (lowered_act local handed line a)) (writes fewer x (lowered local handed rest)) (act_forth line a h.0 p.0) (code_forth rest h.1 p.1) g

-- ---- the least sets

-- rows are found by the names of units alone
row_lowered : (all units : List Procedure) (rows : List (List Bool)) (name : List ℕ) → row_of (map (lowered_unit all) units) rows name ≡ row_of units rows name
row_lowered all [] rows name = refl
row_lowered all (u ∷ us) [] name = refl
row_lowered all (u ∷ us) (ws ∷ rows) name = ap (λ z. if name_eq u.name name then ws else z) (row_lowered all us rows name)

-- rows by one test lie within rows by another
pub row_by : (ds : List (List ℕ)) (f g : List ℕ → Bool) → ((d : List ℕ) → has_name d ds ≡ true → f d ≡ true → g d ≡ true) → IsWithin (map f ds) (map g ds)
row_by [] f g h = tt
row_by (d ∷ ds) f g h = (h d (or_first (name_eq d d) (has_name d ds) (name_refl d)), row_by ds f g (λ e k. h e (or_second (name_eq e d) (has_name e ds) k)))

-- both within each other are the same
pub same_row : (vs ws : List Bool) → IsWithin vs ws → IsWithin ws vs → vs ≡ ws
same_row [] [] f g = refl
same_row [] (w ∷ ws) f g = absurd f
same_row (v ∷ vs) [] f g = absurd f
same_row (true ∷ vs) (true ∷ ws) f g = ap (λ z. true ∷ z) (same_row vs ws f.1 g.1)
same_row (true ∷ vs) (false ∷ ws) f g = absurd (let e : false ≡ true = f.0 refl in cc)
same_row (false ∷ vs) (true ∷ ws) f g = absurd (let e : false ≡ true = g.0 refl in cc)
same_row (false ∷ vs) (false ∷ ws) f g = ap (λ z. false ∷ z) (same_row vs ws f.1 g.1)

same_rows : (vs ws : List (List Bool)) → AreWithin vs ws → AreWithin ws vs → vs ≡ ws
same_rows [] [] f g = refl
same_rows [] (w ∷ ws) f g = absurd f
same_rows (v ∷ vs) [] f g = absurd f
same_rows (v ∷ vs) (w ∷ ws) f g = λ i. same_row v w f.0 g.0 i ∷ same_rows vs ws f.1 g.1 i

-- what is known of each unit of a list
abbrev AllFit : List Procedure → List Procedure → Type 0
AllFit units us = EachUnit (λ u. CodeInside (is_of u) u.body × EachCall (IsFitCall units u) u.body) us

all_fit : (units us : List Procedure) → EachUnit (λ u. PlainCode u.body) us → EachUnit (λ u. EachCall (IsFitCall units u) u.body) us → AllFit units us
all_fit units [] p c = tt
all_fit units (u ∷ us) p c = ((own_body u p.0, c.0), all_fit units us p.1 c.1)

module _ (units : List Procedure) (given : IsFit units) where
  fit : AllFit units units
  fit = all_fit units units given.plains given.calls

  abbrev rows : List (List Bool)
  rows = least_rows write_rule units

  abbrev rows' : List (List Bool)
  rows' = least_rows write_rule (lowered_program units)

  abbrev least : IsLeast write_rule units rows
  least = least_written units

  abbrev least' : IsLeast write_rule (lowered_program units) rows'
  least' = least_written (lowered_program units)

  once : (u : Procedure) (name : List ℕ) (args : Terms) → IsFitCall units u name args → AreHandedApart (handed_back units name) args
  once u name args f = f.once

  -- the flags of the source, as the kernel's units are looked for
  flags_same : (name : List ℕ) → row_of (lowered_program units) rows name ≡ handed_back units name
  flags_same name = row_lowered units units rows name

  unit_back : (u : Procedure) (d : List ℕ) → has_name d u.dummies ≡ true → write_rule (row_of (lowered_program units) rows) (lowered_unit units u) d ≡ true → write_rule (row_of units rows) u d ≡ true
  unit_back u d h e =
      code_back (is_of u) (local_in units u) (unit_locals units u) (handed_back units) (IsFitCall units u) (once u) (plain d) (own_dummies u d h) u.body
      (ap (λ (z : Dummies). writes z (plain d) (lowered_unit units u).body) (λ i name. sym (flags_same name) i) ∙ e)

  no_more : (us : List Procedure) → AreWithin (map (λ u. map (write_rule (row_of (lowered_program units) rows) u) u.dummies) (map (lowered_unit units) us)) (map (λ u. map (write_rule (row_of units rows) u) u.dummies) us)
  no_more [] = tt
  no_more (u ∷ us) = (row_by u.dummies (write_rule (row_of (lowered_program units) rows) (lowered_unit units u)) (write_rule (row_of units rows) u) (λ d h e. unit_back u d h e), no_more us)

  -- so the kernel's set lies within the source's
  kernel_within : AreWithin rows' rows
  kernel_within = least'.least rows (subst (λ z. AreWithin (by_rule write_rule (lowered_program units) rows) z) least.closed (no_more units))

  fewer : Dummies
  fewer = row_of units rows'

  fewer_within : (name : List ℕ) → IsWithin (row_of units rows' name) (handed_back units name)
  fewer_within name = row_within units rows' rows kernel_within name

  unit_forth : (u : Procedure) → CodeInside (is_of u) u.body → EachCall (IsFitCall units u) u.body → (d : List ℕ) → has_name d u.dummies ≡ true → write_rule (row_of units rows') u d ≡ true → write_rule (row_of (lowered_program units) rows') (lowered_unit units u) d ≡ true
  unit_forth u hi f d h e =
      ap (λ (z : Dummies). writes z (plain d) (lowered_unit units u).body) (λ i name. row_lowered units units rows' name i)
      ∙ code_forth (is_of u) (local_in units u) (unit_locals units u) (handed_back units) (IsFitCall units u) (once u) (plain d) (own_dummies u d h) (row_of units rows') fewer_within u.body hi f e

  no_fewer : (us : List Procedure) → AllFit units us → AreWithin (map (λ u. map (write_rule (row_of units rows') u) u.dummies) us) (map (λ u. map (write_rule (row_of (lowered_program units) rows') u) u.dummies) (map (lowered_unit units) us))
  no_fewer [] f = tt
  no_fewer (u ∷ us) f = (row_by u.dummies (write_rule (row_of units rows') u) (write_rule (row_of (lowered_program units) rows') (lowered_unit units u)) (λ d h e. unit_forth u f.0.0 f.0.1 d h e), no_fewer us f.1)

  -- and the source's within the kernel's
  source_within : AreWithin rows rows'
  source_within = least.least rows' (subst (λ z. AreWithin (by_rule write_rule units rows') z) least'.closed (no_fewer units fit))

  -- so the lowered program writes what the program writes
  pub same_written : (name : List ℕ) → handed_back (lowered_program units) name ≡ handed_back units name
  same_written name = ap (λ z. row_of (lowered_program units) z name) (same_rows rows' rows kernel_within source_within) ∙ row_lowered units units rows name

  -- so the statements of the kernel write the same variables of a unit
  pub statements_same : (u : Procedure) (x : Var) → is_of u x ≡ true → (c : Code) → CodeInside (is_of u) c → EachCall (IsFitCall units u) c → writes (handed_back (lowered_program units)) x (lowered (local_in units u) (handed_back units) c) ≡ writes (handed_back units) x c
  statements_same u x h c hi f = ap (λ (z : Dummies). writes z x (lowered (local_in units u) (handed_back units) c)) (λ i name. same_written name i) ∙ both_ways (writes (handed_back units) x (lowered (local_in units u) (handed_back units) c)) (writes (handed_back units) x c) back forth
    where
      both_ways : (a b : Bool) → (a ≡ true → b ≡ true) → (b ≡ true → a ≡ true) → a ≡ b
      both_ways true b f g = sym (f refl)
      both_ways false true f g = g refl
      both_ways false false f g = refl

      back : writes (handed_back units) x (lowered (local_in units u) (handed_back units) c) ≡ true → writes (handed_back units) x c ≡ true
      back = code_back (is_of u) (local_in units u) (unit_locals units u) (handed_back units) (IsFitCall units u) (once u) x h c

      forth : writes (handed_back units) x c ≡ true → writes (handed_back units) x (lowered (local_in units u) (handed_back units) c) ≡ true
      forth = code_forth (is_of u) (local_in units u) (unit_locals units u) (handed_back units) (IsFitCall units u) (once u) x h (handed_back units) (λ name. self_within (handed_back units name)) c hi f
        where
          self_within : (ws : List Bool) → IsWithin ws ws
          self_within [] = tt
          self_within (w ∷ ws) = ((λ e. e), self_within ws)
