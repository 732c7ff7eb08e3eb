-- Which dummies emitted units hand back: carried units those that they hand back in the source, and what is made of a unit of its dummies no others.
use Rattle.std.proofs.Common.{◌≡◌, ℕ, zero, suc, Bool, true, false, List, [], ◌∷◌, map, refl, sym, ap, ◌∙◌, subst, if◌then◌else◌}
use Rattle.std.specs.Prelude.{◌&&◌, ◌||◌, not, Option, Some, None}
use Rattle.adj_tree.specs.Code.{Var, var_eq, plain, shadow, helper, turn, name_eq, var, Terms, none, more, Mark, Act, assign, choose, loop, during, call, runtime, Code, stop, step, Procedure}
use Rattle.adj_tree.proofs.Names.{name_refl, name_same}
use Rattle.def_text.specs.Written.{IsName, IsVariable, IsPlace, IsWrittenAct, IsWrittenCode, IsWrittenProcedure}
use Rattle.def_meaning.specs.LeastSet.{Dummies, row_of, rounds, dummies_in_all}
use Rattle.def_meaning.specs.Written.{find_unit, is_handed_back, act_writes, writes, write_rule, handed_back, is_written}
use Rattle.law_meaning.specs.Common.{CallsInside', CallsInside, HaveInCommon}
use Rattle.def_meaning.specs.Rename.{rename}
use Rattle.def_meaning.proofs.Booleans.{or_more}
use Rattle.def_meaning.proofs.LeastSets.{of_found, row_map}
use Rattle.law_meaning.proofs.WriteSets.{handed_written}
use Rattle.def_names.specs.CallFaults.{are_actuals_for}
use Rattle.def_names.specs.Statements.{inner, statements}
use Rattle.def_names.specs.Variables.{variables}
use Rattle.def_kernel.specs.Form.{IsKernelAct, IsKernelCode}
use Rattle.def_meaning.specs.Apart.{has_name}
use Rattle.def_sweep.specs.Callees.{nothing}
use Rattle.def_sweep.specs.Naming.{adjoint_text, Named, name_in, naming}
use Rattle.def_names.specs.Numbers.{Vars, next, behind}
use Rattle.def_sweep.specs.MarkedProgram.{shadows_behind}
use Rattle.def_names.proofs.Variables.{and_true, or_left, or_right}
use Rattle.def_sweep.specs.Names.{adjoint_name, forth_name, back_name}
use Rattle.def_sweep.specs.Plan.{names_of, actuals_named, group, Schedules, Step, reversed_by, ByStep}
use Rattle.def_sweep.specs.Rows.{with_shadows}
use Rattle.def_sweep.specs.SplitRows.{left_of}
use Rattle.def_sweep.specs.Marking.{ProgramMarks, first_statement, callee_of, callee_in, dummy_set}
use Rattle.def_sweep.specs.Program.{has_adjoint, has_pair, is_carried_with, all_units, left_by, emitted_units_with, schedules_in}
use Rattle.law_sweep.specs.Source.{CallUnits}
use Rattle.law_sweep.proofs.UnitLists.{found_there}
use Rattle.law_sweep.proofs.EmittedUnits.{adjoint_found, forth_found, back_found, carried_common}
use Rattle.law_sweep.proofs.Variables.{dummy_among}
use Rattle.law_emitted.proofs.Lists.{Each, each_front, each_behind, each_found}
use Rattle.law_emitted.proofs.Statements.{CallHasNone}
use Rattle.law_emitted.proofs.StepCalls.{step_body}
use Rattle.law_emitted.proofs.Calling.{MayCall', MayCall}
use Rattle.law_emitted.proofs.Carried.{AreCarriedWith, HaveAdjoint, HavePair, its_calls}
use Rattle.law_emitted.proofs.Following.{KnownCall, known_call, names_again}
use Rattle.law_emitted.proofs.Makings.{Making, as_adjoint, as_forth, as_back, its_name, its_shadows, its_kept, its_saved, plan_with, its_plan, its_helpers, its_code, made, is_made, emitted_making, emitted_is_made, emitted_there, emitted_shadows}
use Rattle.law_emitted.proofs.Actuals.{named_back, plainly_given}
use Rattle.law_emitted.proofs.Sources.{UnitSound}
use Rattle.law_emitted.proofs.Tables.{table_for}
use Rattle.law_emitted.proofs.CallFaults.{IsSound, names_for, keeps, name_apart}
use Rattle.law_emitted.proofs.RenamedWrites.{renamed_writes}
use Rattle.law_emitted.proofs.Writing.{IsPlain, IsApart, no_given, CallWrites, Turned, KnownAct, Known, body_writes, forth_writes, back_writes}

-- ---- what is handed back

-- more is handed back where more dummies are written
pub flags_more : (v : Var) (t s : List ℕ → Bool) (ds : List (List ℕ)) → ((d : List ℕ) → t d ≡ true → s d ≡ true) → (args : Terms) → is_handed_back v (map t ds) args ≡ true → is_handed_back v (map s ds) args ≡ true
flags_more v t s [] h args e = absurd cc
flags_more v t s (d ∷ ds) h none e = absurd cc
flags_more v t s (d ∷ ds) h (more a args) e = or_more _ (is_handed_back v (map t ds) args) _ (is_handed_back v (map s ds) args) (λ b. let p = and_true (t d) _ b in rw (h d p.0, p.1) refl) (flags_more v t s ds h args) e

-- what isn't one of two is the other
skip : (a b c : Bool) → b ≡ false → ((a && b) || c) ≡ true → c ≡ true
skip true true c h e = absurd cc
skip true false c h e = e
skip false b c h e = e

-- and of the actuals of an adjoint's call, which has shadows besides
with_more : (v : Var) → IsApart v → (sh : Vars) (ns : List Named) (t s : List ℕ → Bool) (ds given : List (List ℕ)) → ((d : List ℕ) → has_name d ds ≡ true → t d ≡ true → s d ≡ true) →
    is_handed_back v (map t (shadows_behind sh ns ds)) (with_shadows sh ds given) ≡ true → is_handed_back v (map s ds) (actuals_named given) ≡ true
with_more v apart sh ns t s [] given h e = absurd cc
with_more v apart sh ns t s (d ∷ ds) [] h e = absurd (go (sh (plain d)) e)
  where
    go : (b : Bool) → is_handed_back v (map t (if b then d ∷ name_in ns (shadow d) ∷ shadows_behind sh ns ds else d ∷ shadows_behind sh ns ds)) none ≡ true → ⊥
    go true e = cc
    go false e = cc
with_more v apart sh ns t s (d ∷ ds) (a ∷ given) h e = go (sh (plain d)) e (with_more v apart sh ns t s ds given (λ c k. h c (or_right (name_eq c d) (has_name c ds) k)))
  where
    here : (t d && var_eq v (plain a)) ≡ true → (s d && var_eq v (plain a)) ≡ true
    here b = let p = and_true (t d) (var_eq v (plain a)) b in rw (h d (or_left (name_eq d d) (has_name d ds) (name_refl d)) p.0, p.1) refl

    later : List Bool
    later = map t (shadows_behind sh ns ds)

    go : (b : Bool) → is_handed_back v (map t (if b then d ∷ name_in ns (shadow d) ∷ shadows_behind sh ns ds else d ∷ shadows_behind sh ns ds)) (if b then more (var (plain a)) (more (var (shadow a)) (with_shadows sh ds given)) else more (var (plain a)) (with_shadows sh ds given)) ≡ true →
        (is_handed_back v later (with_shadows sh ds given) ≡ true → is_handed_back v (map s ds) (actuals_named given) ≡ true) → ((s d && var_eq v (plain a)) || is_handed_back v (map s ds) (actuals_named given)) ≡ true
    go true e ih =
        or_more (t d && var_eq v (plain a)) ((t (name_in ns (shadow d)) && var_eq v (shadow a)) || is_handed_back v later (with_shadows sh ds given)) (s d && var_eq v (plain a)) (is_handed_back v (map s ds) (actuals_named given)) here
        (λ k. ih (skip (t (name_in ns (shadow d))) (var_eq v (shadow a)) (is_handed_back v later (with_shadows sh ds given)) (apart (shadow a) tt) k)) e
    go false e ih = or_more (t d && var_eq v (plain a)) (is_handed_back v later (with_shadows sh ds given)) (s d && var_eq v (plain a)) (is_handed_back v (map s ds) (actuals_named given)) here ih e

-- the actuals that are pushed for a call
group_each : (v : Var) (dummies actuals : Vars) (s : List ℕ → Bool) (n : Bool) (ds given : List (List ℕ)) → ((d : List ℕ) → dummies (plain d) ≡ true → s d ≡ true) → (is_handed_back v (map s ds) (actuals_named given) ≡ true → n ≡ true) →
    Each (λ a. var_eq v (plain a) ≡ true → n ≡ true) (group dummies actuals ds given)
group_each v dummies actuals s n [] given h k = tt
group_each v dummies actuals s n (d ∷ ds) [] h k = tt
group_each v dummies actuals s n (d ∷ ds) (a ∷ given) h k = go (dummies (plain d) && actuals (plain a)) refl (group_each v dummies actuals s n ds given h (λ e. k (or_right (s d && var_eq v (plain a)) (is_handed_back v (map s ds) (actuals_named given)) e)))
  where
    go : (b : Bool) → (dummies (plain d) && actuals (plain a)) ≡ b → Each (λ a. var_eq v (plain a) ≡ true → n ≡ true) (group dummies actuals ds given) → Each (λ a. var_eq v (plain a) ≡ true → n ≡ true) (if b then a ∷ group dummies actuals ds given else group dummies actuals ds given)
    go true e ih = ((λ q. k (or_left (s d && var_eq v (plain a)) (is_handed_back v (map s ds) (actuals_named given)) (rw (h d (and_true (dummies (plain d)) (actuals (plain a)) e).0, q) refl))), ih)
    go false e ih = ih

place_plain : (x : Var) (s : Terms) → IsPlace x s → IsPlain x
place_plain (plain x) s h = tt
place_plain (shadow x) none h = absurd h
place_plain (shadow x) (more e es) h = absurd h.0
place_plain (helper r k) none h = absurd h
place_plain (helper r k) (more e es) h = absurd h.0

pub variable_plain : (x : Var) → IsVariable x → IsPlain x
variable_plain (plain x) h = tt
variable_plain (shadow x) h = absurd h
variable_plain (helper r k) h = absurd h

-- code that calls units of a set alone
module _ (f g : Dummies) (inside : List ℕ → Bool) (v : Var) (less : (name : List ℕ) → inside name ≡ true → (args : Terms) → is_handed_back v (f name) args ≡ true → is_handed_back v (g name) args ≡ true) where
  mutual
    inside_act : (a : Act) → CallsInside' inside a → act_writes f v a ≡ true → act_writes g v a ≡ true
    inside_act (assign x s e) h t = t
    inside_act (choose c a b) h t = or_more (writes f v a) (writes f v b) (writes g v a) (writes g v b) (inside_writes a h.0) (inside_writes b h.1) t
    inside_act (loop x a b c body m) h t = or_more (var_eq v x) (writes f v body) (var_eq v x) (writes g v body) (λ z. z) (inside_writes body h) t
    inside_act (during c body) h t = inside_writes body h t
    inside_act (call name args) h t = less name h args t
    inside_act (runtime r) h t = t

    pub inside_writes : (c : Code) → CallsInside inside c → writes f v c ≡ true → writes g v c ≡ true
    inside_writes stop h t = t
    inside_writes (step line a rest) h t = or_more (act_writes f v a) (writes f v rest) (act_writes g v a) (writes g v rest) (inside_act a h.0) (inside_writes rest h.1) t

-- ---- the emitted program

-- what is left on the tape that is a dummy is written
of_left : (P : Type 0) (x : List ℕ) (w : Vars) (ds xs : List (List ℕ)) → has_name x ds ≡ true → (w (plain x) ≡ true → P) → Each (λ a. name_eq x a ≡ true → P) (left_of w ds xs)
of_left P x w ds [] there f = tt
of_left P x w ds (y ∷ xs) there f = go (not (has_name y ds) || w (plain y)) refl (of_left P x w ds xs there f)
  where
    written : (b c : Bool) → b ≡ true → (not b || c) ≡ true → c ≡ true
    written true c h e = e
    written false c h e = absurd cc

    go : (b : Bool) → (not (has_name y ds) || w (plain y)) ≡ b → Each (λ a. name_eq x a ≡ true → P) (left_of w ds xs) → Each (λ a. name_eq x a ≡ true → P) (if b then y ∷ left_of w ds xs else left_of w ds xs)
    go true e ih = (λ h. let same : x ≡ y = name_same x y h in f (ap (λ z. w (plain z)) same ∙ written (has_name y ds) (w (plain y)) (ap (λ z. has_name z ds) (sym same) ∙ there) e), ih)
    go false e ih = ih

module _ (sb : Bool) (m : ProgramMarks) (ps : List Procedure) (head : Procedure) (vars outvars : List Bool) (named : Each (λ u. IsName u.name) ps) (known : CallUnits ps ps) (sound : Each (IsSound sb m ps) ps) where
  abbrev qs : List Procedure
  qs = emitted_units_with sb m ps head vars outvars ps

  abbrev units : List (List ℕ)
  units = all_units m ps head

  abbrev sc : Schedules
  sc = schedules_in sb ps

  abbrev g : Dummies
  g = handed_back ps

  pub common : HaveInCommon (is_carried_with sb m ps head) ps qs
  common = carried_common sb m ps head vars outvars known

  -- no more is handed back than in the source
  pub record HandBackNoMore (f : Dummies) : Type 0 where
    pub carried : (name : List ℕ) → is_carried_with sb m ps head name ≡ true → (v : Var) (args : Terms) → is_handed_back v (f name) args ≡ true → is_handed_back v (handed_back ps name) args ≡ true
    pub of_made : (name : List ℕ) (w : Procedure) → find_unit ps name ≡ Some w → (k : Making) → is_made m ps head w k ≡ true → (v : Var) → IsApart v → (given : List (List ℕ)) → is_handed_back v (f (its_name ps w k)) (with_shadows (its_shadows m w k) w.dummies given) ≡ true → is_handed_back v (handed_back ps name) (actuals_named given) ≡ true

  -- ---- what is known of a unit of which something is made

  module _ (f : Dummies) (back : HandBackNoMore f) (u : Procedure) (kept : ℕ → Bool) (saved : ℕ → Vars) where
    -- the call of what is made of a unit that is called
    from_made : (name : List ℕ) (args : Terms) (c : KnownCall ps u name args) (k : Making) → is_made m ps head c.unit k ≡ true → (v : Var) → IsApart v → is_handed_back v (f (its_name ps c.unit k)) (with_shadows (its_shadows m c.unit k) c.unit.dummies (names_of args)) ≡ true → is_handed_back v (g name) args ≡ true
    from_made name args c k there v apart e =
        subst (λ l. is_handed_back v (g name) l ≡ true) (sym c.are)
        (back.of_made name c.unit c.found k there v apart c.given (subst (λ l. is_handed_back v (f (its_name ps c.unit k)) (with_shadows (its_shadows m c.unit k) c.unit.dummies l) ≡ true) (ap names_of c.are ∙ named_back c.given) e))

    adjoint_known : (name : List ℕ) (args : Terms) → KnownCall ps u name args → HaveAdjoint m ps head name → (v : Var) → IsApart v → is_handed_back v (f (callee_in m ps name).adjoint) (with_shadows (callee_in m ps name).shadowed (callee_in m ps name).dummies (names_of args)) ≡ true → is_handed_back v (g name) args ≡ true
    adjoint_known name args c a v apart =
        let same = (found_there ps name c.unit c.found).1 in
        subst (λ o. is_handed_back v (f (callee_of m ps name o).adjoint) (with_shadows (callee_of m ps name o).shadowed (callee_of m ps name o).dummies (names_of args)) ≡ true → is_handed_back v (g name) args ≡ true) (sym c.found)
        (subst (λ z. is_handed_back v (f (adjoint_name ps c.unit)) (with_shadows (m.shadowed z) c.unit.dummies (names_of args)) ≡ true → is_handed_back v (g name) args ≡ true) same (from_made name args c (as_adjoint [] []) (ap (has_adjoint m ps head) same ∙ a.0) v apart))

    back_known : (name : List ℕ) (args : Terms) → KnownCall ps u name args → HavePair m ps head name → (v : Var) → IsApart v → is_handed_back v (f (callee_in m ps name).back) (with_shadows (callee_in m ps name).shadowed (callee_in m ps name).dummies (names_of args)) ≡ true → is_handed_back v (g name) args ≡ true
    back_known name args c a v apart =
        let same = (found_there ps name c.unit c.found).1 in
        subst (λ o. is_handed_back v (f (callee_of m ps name o).back) (with_shadows (callee_of m ps name o).shadowed (callee_of m ps name o).dummies (names_of args)) ≡ true → is_handed_back v (g name) args ≡ true) (sym c.found)
        (subst (λ z. is_handed_back v (f (back_name ps c.unit)) (with_shadows (m.shadowed z) c.unit.dummies (names_of args)) ≡ true → is_handed_back v (g name) args ≡ true) same (from_made name args c as_back (ap (has_pair m ps head) same ∙ a.0) v apart))

    forth_known : (name : List ℕ) (args : Terms) → KnownCall ps u name args → HavePair m ps head name → (v : Var) → IsApart v → is_handed_back v (f (callee_in m ps name).forth) args ≡ true → is_handed_back v (g name) args ≡ true
    forth_known name args c a v apart =
        let same = (found_there ps name c.unit c.found).1 in
        subst (λ o. is_handed_back v (f (callee_of m ps name o).forth) args ≡ true → is_handed_back v (g name) args ≡ true) (sym c.found)
        (subst (λ l. is_handed_back v (f (forth_name ps c.unit)) l ≡ true → is_handed_back v (g name) args ≡ true) (plain_given name args c) (from_made name args c as_forth (ap (has_pair m ps head) same ∙ a.0) v apart))
      where
        plain_given : (name : List ℕ) (args : Terms) (c : KnownCall ps u name args) → with_shadows nothing c.unit.dummies (names_of args) ≡ args
        plain_given name args c =
            plainly_given u c.unit c.unit.dummies (names_of args) (subst (λ l. are_actuals_for u c.unit c.unit.dummies l ≡ true) (sym (names_again ps u name args c)) c.fit) ∙ names_again ps u name args c

    -- what is pushed and popped for a call
    groups_known : (name : List ℕ) (args : Terms) → KnownCall ps u name args → (v : Var) (dummies actuals : Vars) → ((d : Var) → dummies d ≡ true → (callee_in m ps name).written d ≡ true) → Each (λ a. var_eq v (plain a) ≡ true → is_handed_back v (g name) args ≡ true) (group dummies actuals (callee_in m ps name).dummies (names_of args))
    groups_known name args c v dummies actuals =
        subst (λ o. ((d : Var) → dummies d ≡ true → (callee_of m ps name o).written d ≡ true) → Each (λ a. var_eq v (plain a) ≡ true → is_handed_back v (g name) args ≡ true) (group dummies actuals (callee_of m ps name o).dummies (names_of args))) (sym c.found)
        (λ h. subst (λ l. Each (λ a. var_eq v (plain a) ≡ true → is_handed_back v (g name) l ≡ true) (group dummies actuals c.unit.dummies (names_of l))) (sym c.are)
        (subst (λ l. Each (λ a. var_eq v (plain a) ≡ true → is_handed_back v (g name) (actuals_named c.given) ≡ true) (group dummies actuals c.unit.dummies l)) (sym (named_back c.given))
        (group_each v dummies actuals (is_written ps c.unit) (is_handed_back v (g name) (actuals_named c.given)) c.unit.dummies c.given (λ d. h (plain d)) (λ e. subst (λ ws. is_handed_back v ws (actuals_named c.given) ≡ true) (sym (handed_written ps name c.unit c.found)) e))))

    call_known : (i : ℕ) (name : List ℕ) (args : Terms) → KnownCall ps u name args → MayCall' (AreCarriedWith sb m ps head) (HaveAdjoint m ps head) (HavePair m ps head) sc kept m.adjointed m.split i (call name args) → CallWrites f g sc (plan_with m ps u kept saved) i name args
    call_known i name args c may = record {
      kept = λ t s v e. back.carried name (may.0 t s) v args e;
      adjointed = λ t s v apart e. adjoint_known name args c (may.1.0 t s) v apart e;
      forth = λ s v apart e. forth_known name args c (may.1.1 s).1 v apart e;
      back = λ s v apart e. back_known name args c (may.1.1 s).1 v apart e;
      groups = λ v dummies actuals h. groups_known name args c v dummies actuals h;
      own = λ k. subst (λ l. is_handed_back (helper turn k) (g name) l ≡ false) (sym c.are) (no_given turn k (g name) c.given);
    }

    -- the step call of a loop that is reversed by a schedule
    step_turned : (i : ℕ) (body : Code) (mark : Mark) (s : Step) → reversed_by sc m.adjointed i body mark ≡ Some s → Each (CallHasNone ps u) (statements body) → IsWrittenCode body → IsKernelCode body → AreCarriedWith sb m ps head s.name → HaveAdjoint m ps head s.name → Turned f g sc (plan_with m ps u kept saved) body s
    step_turned i body mark s e = step_body (λ c s. Each (CallHasNone ps u) (statements c) → IsWrittenCode c → IsKernelCode c → AreCarriedWith sb m ps head s.name → HaveAdjoint m ps head s.name → Turned f g sc (plan_with m ps u kept saved) c s) there sc m.adjointed i body mark s e
      where
        there : (line : ℕ) (name : List ℕ) (args : Terms) (read : Vars) (n : Mark) → Each (CallHasNone ps u) (statements (step line (call name args) stop)) → IsWrittenCode (step line (call name args) stop) → IsKernelCode (step line (call name args) stop) → AreCarriedWith sb m ps head name → HaveAdjoint m ps head name →
            Turned f g sc (plan_with m ps u kept saved) (step line (call name args) stop) (record { name = name; given = names_of args; read = read; mark = n })
        there line name args read n c w k carried adjoint =
            let its = known_call ps u line name args c.0 w.0 k.0 in record {
              plainly = λ v h. or_left (is_handed_back v (g name) args) false (back.carried name carried v args (subst (λ l. is_handed_back v (f name) l ≡ true) (names_again ps u name args its) h));
              adjointed = λ v apart h. or_left (is_handed_back v (g name) args) false (adjoint_known name args its adjoint v apart h);
            }

    loop_known : (i : ℕ) (body : Code) (mark : Mark) → Each (CallHasNone ps u) (statements body) → IsWrittenCode body → IsKernelCode body → (o : Option Step) → reversed_by sc m.adjointed i body mark ≡ o → ByStep o (Unit {0}) (λ s. AreCarriedWith sb m ps head s.name × HaveAdjoint m ps head s.name) →
        ByStep o (Unit {0}) (Turned f g sc (plan_with m ps u kept saved) body)
    loop_known i body mark inside w k None e may = tt
    loop_known i body mark inside w k (Some s) e may = step_turned i body mark s e inside w k may.0 may.1

    mutual
      act_known : (i line : ℕ) (a : Act) → CallHasNone ps u (line, a) → Each (CallHasNone ps u) (inner a) → IsWrittenAct a → IsKernelAct a → MayCall' (AreCarriedWith sb m ps head) (HaveAdjoint m ps head) (HavePair m ps head) sc kept m.adjointed m.split i a → KnownAct f g sc (plan_with m ps u kept saved) i a
      act_known i line (assign x subs e) c inside w k may = place_plain x subs w.0
      act_known i line (choose t a b) c inside w k may = (
        code_known (suc i) a (each_front (CallHasNone ps u) (statements a) (statements b) inside) w.1 k.0 may.0,
        code_known (behind (suc i) a) b (each_behind (CallHasNone ps u) (statements a) (statements b) inside) w.2 k.1 may.1,
      )
      act_known i line (loop x a b c body mark) d inside w k may = (variable_plain x w.0, (loop_known i body mark inside w.4 k.1 (reversed_by sc m.adjointed i body mark) refl may.0, code_known (suc i) body inside w.4 k.1 may.1))
      act_known i line (during t body) c inside w k may = code_known (suc i) body inside w.1 k may
      act_known i line (call name args) c inside w k may = call_known i name args (known_call ps u line name args c w k) may
      act_known i line (runtime r) c inside w k may = k

      pub code_known : (i : ℕ) (c : Code) → Each (CallHasNone ps u) (statements c) → IsWrittenCode c → IsKernelCode c → MayCall (AreCarriedWith sb m ps head) (HaveAdjoint m ps head) (HavePair m ps head) sc kept m.adjointed m.split i c → Known f g sc (plan_with m ps u kept saved) i c
      code_known i stop c w k may = tt
      code_known i (step line a rest) c w k may = (
        act_known i line a c.0 (each_front (CallHasNone ps u) (inner a) (statements rest) c.1) w.0 k.0 may.0,
        code_known (next i a) rest (each_behind (CallHasNone ps u) (inner a) (statements rest) c.1) w.1 k.1 may.1,
      )

  -- ---- what emitted units may write

  module _ (f : Dummies) (back : HandBackNoMore f) where
    -- a carried unit
    pub carried_writes : (u : Procedure) → find_unit ps u.name ≡ Some u → is_carried_with sb m ps head u.name ≡ true → (v : Var) → writes f v u.body ≡ true → writes g v u.body ≡ true
    carried_writes u found h v e = inside_writes f g (is_carried_with sb m ps head) v (λ name k args. back.carried name k v args) u.body (common.closed u.name u h found) e

    module _ (u : Procedure) (s : IsSound sb m ps u) (found : find_unit ps u.name ≡ Some u) where
      pub unit_known : (k : Making) → is_made m ps head u k ≡ true → Known f g sc (its_plan m ps u k) (first_statement ps u.name) u.body
      unit_known k there = code_known f back u (its_kept m k) (its_saved m k) (first_statement ps u.name) u.body source.calls written.body source.kernel (its_calls sb m ps head u found source.calls s.splits k there)
        where
          source : UnitSound ps u
          source = s.sound

          written : IsWrittenProcedure u
          written = source.written

      -- the code that is made, of the dummies of the unit
      code_writes : (k : Making) → is_made m ps head u k ≡ true → (d : List ℕ) → has_name d u.dummies ≡ true → writes f (plain d) (its_code sb m ps u k) ≡ true → writes g (plain d) u.body ≡ true
      code_writes (as_adjoint at_turn at_end) there d h e = body_writes f g sc (its_plan m ps u (as_adjoint at_turn at_end)) d (first_statement ps u.name) u.line u.body at_turn at_end (unit_known (as_adjoint at_turn at_end) there) e
      code_writes as_forth there d h e = forth_writes f g sc (its_plan m ps u as_forth) d (first_statement ps u.name) u.line (left_by ps u) u.body (unit_known as_forth there) e
      code_writes as_back there d h e =
          back_writes f g sc (its_plan m ps u as_back) d (first_statement ps u.name) u.line (left_by ps u) u.body (of_left (writes g (plain d) u.body ≡ true) d (dummy_set (is_written ps u)) u.dummies (variables u) h (λ w. w)) (unit_known as_back there) e

      pub made_writes : (k : Making) → is_made m ps head u k ≡ true → (d : List ℕ) → has_name d u.dummies ≡ true → writes f (plain d) (made sb m ps units u k).body ≡ true → writes g (plain d) u.body ≡ true
      made_writes k there d h e =
          code_writes k there d h
          (sym (renamed_writes f (naming ns) (name_apart sb m ps head vars outvars named known sound u s k) (plain d) (its_code sb m ps u k))
          ∙ subst (λ z. writes f (plain z) (rename (naming ns) (its_code sb m ps u k)) ≡ true) (sym (keeps sb m ps head vars outvars named known sound u s k d (dummy_among u d h))) e)
        where
          ns : List Named
          ns = names_for sb m ps head vars outvars named known sound u s k

  -- ---- round by round

  module _ (t : Procedure → List ℕ → Bool) (of_carried : (u : Procedure) → find_unit ps u.name ≡ Some u → is_carried_with sb m ps head u.name ≡ true → (d : List ℕ) → t u d ≡ true → is_written ps u d ≡ true)
      (of_its : (u : Procedure) → find_unit ps u.name ≡ Some u → (k : Making) → is_made m ps head u k ≡ true → (d : List ℕ) → has_name d u.dummies ≡ true → t (made sb m ps units u k) d ≡ true → is_written ps u d ≡ true) where
    abbrev row : Procedure → List Bool
    row u = map (t u) u.dummies

    abbrev rows : Dummies
    rows = row_of qs (map row qs)

    carried_no_more : (name : List ℕ) → is_carried_with sb m ps head name ≡ true → (v : Var) (args : Terms) → is_handed_back v (rows name) args ≡ true → is_handed_back v (handed_back ps name) args ≡ true
    carried_no_more name h v args e = go (find_unit ps name) refl (subst (λ ws. is_handed_back v ws args ≡ true) (row_map row qs name ∙ ap (of_found row) (sym (common.same name h))) e)
      where
        go : (o : Option Procedure) → find_unit ps name ≡ o → is_handed_back v (of_found row o) args ≡ true → is_handed_back v (handed_back ps name) args ≡ true
        go None q e = absurd cc
        go (Some u) q e =
            let same : u.name ≡ name = (found_there ps name u q).1 in
            subst (λ ws. is_handed_back v ws args ≡ true) (sym (handed_written ps name u q)) (flags_more v (t u) (is_written ps u) u.dummies (of_carried u (ap (find_unit ps) same ∙ q) (ap (is_carried_with sb m ps head) same ∙ h)) args e)

    -- what is made of a unit, found under a name
    found_no_more : (w : Procedure) → find_unit ps w.name ≡ Some w → (k : Making) → is_made m ps head w k ≡ true → (other : List ℕ) → find_unit qs other ≡ Some (made sb m ps units w k) → (v : Var) → IsApart v → (given : List (List ℕ)) → is_handed_back v (rows other) (with_shadows (its_shadows m w k) w.dummies given) ≡ true →
        is_handed_back v (handed_back ps w.name) (actuals_named given) ≡ true
    found_no_more w found k there other is v apart given e =
        subst (λ ws. is_handed_back v ws (actuals_named given) ≡ true) (sym (handed_written ps w.name w found))
        (with_more v apart (its_shadows m w k) (table_for adjoint_text (variables w) units (its_shadows m w k) (its_helpers sb m ps w k)) (t (made sb m ps units w k)) (is_written ps w) w.dummies given (of_its w found k there)
        (subst (λ ws. is_handed_back v ws (with_shadows (its_shadows m w k) w.dummies given) ≡ true) (row_map row qs other ∙ ap (of_found row) is) e))

    its_no_more : (w : Procedure) → find_unit ps w.name ≡ Some w → (k : Making) → is_made m ps head w k ≡ true → (v : Var) → IsApart v → (given : List (List ℕ)) → is_handed_back v (rows (its_name ps w k)) (with_shadows (its_shadows m w k) w.dummies given) ≡ true → is_handed_back v (handed_back ps w.name) (actuals_named given) ≡ true
    its_no_more w found (as_adjoint at_turn at_end) there v apart given e =
        found_no_more w found (emitted_making m head vars outvars w) (emitted_there m ps head vars outvars w ∙ there) (adjoint_name ps w) (adjoint_found sb m ps head vars outvars w.name w found there ∙ ap Some (emitted_is_made sb m ps head vars outvars w)) v apart given
        (subst (λ sh. is_handed_back v (rows (adjoint_name ps w)) (with_shadows sh w.dummies given) ≡ true) (sym (emitted_shadows m head vars outvars w)) e)
    its_no_more w found as_forth there v apart given e = found_no_more w found as_forth there (forth_name ps w) (forth_found sb m ps head vars outvars w.name w found there) v apart given e
    its_no_more w found as_back there v apart given e = found_no_more w found as_back there (back_name ps w) (back_found sb m ps head vars outvars w.name w found there) v apart given e

    no_more : HandBackNoMore rows
    no_more = record {
      carried = carried_no_more;
      of_made = λ name w found k there v apart given e.
          let same = (found_there ps name w found).1 in
          subst (λ z. is_handed_back v (handed_back ps z) (actuals_named given) ≡ true) same (its_no_more w (ap (find_unit ps) same ∙ found) k there v apart given e);
    }

  sound_of : (u : Procedure) → find_unit ps u.name ≡ Some u → IsSound sb m ps u
  sound_of u found = each_found (IsSound sb m ps) ps sound u.name u found

  round_no_more : (k : ℕ) → HandBackNoMore (row_of qs (rounds write_rule qs k))
  round_no_more zero = no_more (λ u d. false) (λ u f h d e. absurd cc) (λ u f j h d k e. absurd cc)
  round_no_more (suc k) =
      let back = round_no_more k in
      let f = row_of qs (rounds write_rule qs k) in
      no_more (write_rule f) (λ u found h d e. carried_writes f back u found h (plain d) e) (λ u found j h d inside e. made_writes f back u (sound_of u found) found j h d inside e)

  -- so emitted units hand back no more
  pub handed_no_more : HandBackNoMore (handed_back qs)
  handed_no_more = round_no_more (dummies_in_all qs)
