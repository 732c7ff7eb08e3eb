-- Where no loop of a program is marked, the same is emitted for it whether marked loops are reversed by schedules or not, and none is reversed.
use Rattle.std.proofs.Common.{◌≡◌, ℕ, zero, suc, max, List, [], ◌∷◌, ◌++◌, Bool, true, false, map, refl, ap, sym, ◌∙◌, if◌then◌else◌}
use Rattle.std.specs.Prelude.{◌&&◌, ◌||◌, ◌==◌, not, Some, None}
use Rattle.adj_tree.specs.Code.{Role, plain, shadow, helper, none, work, temp, control, first, stride, count, turn, entry, entries, kind, lower, upper, slots, push_word, pop_word, unmarked, with_count, count_from, name_eq, Act, assign, choose, loop, during, call, runtime, Code, stop, step, Procedure}
use Rattle.def_meaning.specs.Append.{◌+++◌, one}
use Rattle.def_meaning.specs.Rename.{rename}
use Rattle.def_meaning.specs.Written.{find_unit}
use Rattle.def_names.specs.Variables.{variables}
use Rattle.def_names.specs.Numbers.{Vars, next, behind}
use Rattle.def_sweep.specs.Marked.{code_if, names_in}
use Rattle.def_sweep.specs.MarkedProgram.{shadows_behind, declared_behind}
use Rattle.def_sweep.specs.Naming.{unit_names, naming}
use Rattle.def_sweep.specs.Declared.{unmarked as of_flags, helpers_from, declared_helpers, unit_at}
use Rattle.def_kernel.specs.Kernel.{EachUnit}
use Rattle.def_kernel.specs.Stepped.{kernel_of}
use Rattle.def_sweep.specs.Rows.{is_empty, told_forward, told_backward, loop_forward, loop_backward, while_forward, while_backward, reset}
use Rattle.def_sweep.specs.Emission.{forward_act_with, forward_with, backward_act_with, backward_with, cleared, adjoint_body_with}
use Rattle.def_sweep.specs.Callees.{CalleeFacts}
use Rattle.def_sweep.specs.Marking.{ProgramMarks, SplitsNothing, first_statement, plan_in, dummy_set, read_by, callee_facts}
use Rattle.def_sweep.specs.Names.{adjoint_name}
use Rattle.def_sweep.specs.Plan.{Plan, Schedules, Step, is_emitted}
use Rattle.def_sweep.specs.Program.{works_used, temps_used, depth_act_with, depth_used_with, tells_act_with, tells_some_with, goes_back_act_with, goes_back_with, reverses_act_by, reverses_by, any_step, has_slots, is_do, is_loop, helpers_among, loop_helpers_with, reversal_helpers, all_reversal_helpers, helpers_used_with, made_for_with, adjoint_names_with, adjoint_unit_with, calls_some, is_reached, has_adjoint, turns_act, turns_in, turns_some, is_kept_with, is_carried_with, all_units, emitted_adjoint_with, emitted_units_with, emitted_for_with}
use Rattle.law_sweep.proofs.Unsplit.{adjoint_units, unsplit_kept, unsplit_units}
use Rattle.def_planned.specs.ProgramFacts.{IsUnmarkedAct, IsUnmarked}
use Rattle.def_sweep.specs.MarkedLines.{told_in, told_code, told_units, tale_of}
use Rattle.def_planned.specs.Planned.{facts_by}
use Rattle.law_planned.specs.Planned.{SchedulesAddNothing, NoneIsReversed}
use Rattle.law_planned.proofs.Unmarked.{kernel_unmarked}

and_none : (b : Bool) → (b && false) ≡ false
and_none true = refl
and_none false = refl

or_none : (b : Bool) → (b || false) ≡ b
or_none true = refl
or_none false = refl

-- ---- a unit

module _ (reads : List ℕ → Vars) where
  abbrev sc : Schedules
  sc = Some reads

  module _ (p : Plan) where
    mutual
      back_act : (i d line : ℕ) (a : Act) → IsUnmarkedAct a → backward_act_with sc p i d line a ≡ backward_act_with None p i d line a
      back_act i d line (assign (plain x) subs e) h = refl
      back_act i d line (assign (shadow x) subs e) h = refl
      back_act i d line (assign (helper r k) subs e) h = refl
      back_act i d line (choose c a b) h =
          let here = back (suc i) d a h.0 in
          let other = back (behind (suc i) a) d b h.1 in
          λ k. code_if (is_emitted p.marks i) (told_backward (is_empty (here k) && is_empty (other k)) line (here k) (other k))
      back_act i d line (loop (plain x) a b c body unmarked) h =
          let inside = back (suc i) (suc d) body h.1 in
          λ k. code_if (is_emitted p.marks i)
          (loop_backward (is_empty (inside k)) (suc d) line (plain x) (inside k) +++ (code_if (p.marks.saved i (plain x)) (one line (runtime (pop_word (plain x) none))) +++ reset p.marks i line x))
      back_act i d line (loop (plain x) a b c body (with_count m)) h = absurd (let e = h.0 in cc)
      back_act i d line (loop (plain x) a b c body (count_from y)) h = absurd (let e = h.0 in cc)
      back_act i d line (loop (shadow x) a b c body m) h = refl
      back_act i d line (loop (helper r k) a b c body m) h = refl
      back_act i d line (during c body) h =
          let inside = back (suc i) (suc d) body h in
          λ k. code_if (is_emitted p.marks i) (while_backward (is_empty (inside k)) (suc d) line (inside k))
      back_act i d line (call name args) h = refl
      back_act i d line (runtime o) h = refl

      back : (i d : ℕ) (c : Code) → IsUnmarked c → backward_with sc p i d c ≡ backward_with None p i d c
      back i d stop h = refl
      back i d (step line a rest) h = let here = back_act i d line a h.0 in let later = back (next i a) d rest h.1 in λ k. later k +++ here k

    mutual
      forth_act : (i d line : ℕ) (a : Act) → IsUnmarkedAct a → forward_act_with sc p i d line a ≡ forward_act_with None p i d line a
      forth_act i d line (assign (plain x) subs e) h = refl
      forth_act i d line (assign (shadow x) subs e) h = refl
      forth_act i d line (assign (helper r k) subs e) h = refl
      forth_act i d line (choose c a b) h =
          let here = back (suc i) d a h.0 in
          let other = back (behind (suc i) a) d b h.1 in
          let one_way = forth (suc i) d a h.0 in
          let other_way = forth (behind (suc i) a) d b h.1 in
          λ k. code_if (is_emitted p.marks i) (one line (choose c (told_forward (is_empty (here k) && is_empty (other k)) line (one_way k) 1) (told_forward (is_empty (here k) && is_empty (other k)) line (other_way k) 0)))
      forth_act i d line (loop (plain x) a b c body unmarked) h =
          let inside = back (suc i) (suc d) body h.1 in
          let way = forth (suc i) (suc d) body h.1 in
          λ k. code_if (is_emitted p.marks i) (code_if (p.marks.saved i (plain x)) (one line (runtime (push_word (plain x) none))) +++ loop_forward (is_empty (inside k)) (suc d) line (plain x) a b c (way k))
      forth_act i d line (loop (plain x) a b c body (with_count m)) h = absurd (let e = h.0 in cc)
      forth_act i d line (loop (plain x) a b c body (count_from y)) h = absurd (let e = h.0 in cc)
      forth_act i d line (loop (shadow x) a b c body m) h = refl
      forth_act i d line (loop (helper r k) a b c body m) h = refl
      forth_act i d line (during c body) h =
          let inside = back (suc i) (suc d) body h in
          let way = forth (suc i) (suc d) body h in
          λ k. code_if (is_emitted p.marks i) (while_forward (is_empty (inside k)) (suc d) line c (way k))
      forth_act i d line (call name args) h = refl
      forth_act i d line (runtime o) h = refl

      forth : (i d : ℕ) (c : Code) → IsUnmarked c → forward_with sc p i d c ≡ forward_with None p i d c
      forth i d stop h = refl
      forth i d (step line a rest) h = let here = forth_act i d line a h.0 in let later = forth (next i a) d rest h.1 in λ k. here k +++ later k

    body_same : (i line : ℕ) (c : Code) (at_turn at_end : List (List ℕ)) → IsUnmarked c → adjoint_body_with sc p i line c at_turn at_end ≡ adjoint_body_with None p i line c at_turn at_end
    body_same i line c at_turn at_end h =
        let way = forth i 0 c h in
        let inside = back i 0 c h in
        λ k. way k +++ (cleared p line at_turn +++ (inside k +++ cleared p line at_end))

    -- ---- its helpers

    mutual
      depth_act : (i d : ℕ) (a : Act) → IsUnmarkedAct a → depth_act_with sc p i d a ≡ depth_act_with None p i d a
      depth_act i d (assign x subs e) h = refl
      depth_act i d (choose c a b) h = let here = depth (suc i) d a h.0 in let other = depth (behind (suc i) a) d b h.1 in λ k. max (here k) (other k)
      depth_act i d (loop x a b c body unmarked) h =
          let inside = back (suc i) (suc d) body h.1 in
          let deep = depth (suc i) (suc d) body h.1 in
          λ k. if is_empty (inside k) then 0 else max (suc d) (deep k)
      depth_act i d (loop x a b c body (with_count m)) h = absurd (let e = h.0 in cc)
      depth_act i d (loop x a b c body (count_from y)) h = absurd (let e = h.0 in cc)
      depth_act i d (during c body) h =
          let inside = back (suc i) (suc d) body h in
          let deep = depth (suc i) (suc d) body h in
          λ k. if is_empty (inside k) then 0 else max (suc d) (deep k)
      depth_act i d (call name args) h = refl
      depth_act i d (runtime o) h = refl

      depth : (i d : ℕ) (c : Code) → IsUnmarked c → depth_used_with sc p i d c ≡ depth_used_with None p i d c
      depth i d stop h = refl
      depth i d (step line a rest) h = let here = depth_act i d a h.0 in let later = depth (next i a) d rest h.1 in λ k. max (here k) (later k)

    mutual
      tells_act : (i d : ℕ) (a : Act) → IsUnmarkedAct a → tells_act_with sc p i d a ≡ tells_act_with None p i d a
      tells_act i d (assign x subs e) h = refl
      tells_act i d (choose c a b) h = let here = back (suc i) d a h.0 in let other = back (behind (suc i) a) d b h.1 in λ k. not (is_empty (here k) && is_empty (other k))
      tells_act i d (loop x a b c body n) h = tells (suc i) (suc d) body h.1
      tells_act i d (during c body) h = tells (suc i) (suc d) body h
      tells_act i d (call name args) h = refl
      tells_act i d (runtime o) h = refl

      tells : (i d : ℕ) (c : Code) → IsUnmarked c → tells_some_with sc p i d c ≡ tells_some_with None p i d c
      tells i d stop h = refl
      tells i d (step line a rest) h = let here = tells_act i d a h.0 in let later = tells (next i a) d rest h.1 in λ k. here k || later k

    module _ (sort : Act → Bool) (n : ℕ) where
      mutual
        goes_act : (i d : ℕ) (a : Act) → IsUnmarkedAct a → goes_back_act_with sc sort n p i d a ≡ goes_back_act_with None sort n p i d a
        goes_act i d (assign x subs e) h = refl
        goes_act i d (choose c a b) h = let here = goes (suc i) d a h.0 in let other = goes (behind (suc i) a) d b h.1 in λ k. here k || other k
        goes_act i d (loop x a b c body unmarked) h =
            let inside = back (suc i) (suc d) body h.1 in
            let further = goes (suc i) (suc d) body h.1 in
            λ k. (sort (loop x a b c body unmarked) && ((n == suc d) && not (is_empty (inside k)))) || further k
        goes_act i d (loop x a b c body (with_count m)) h = absurd (let e = h.0 in cc)
        goes_act i d (loop x a b c body (count_from y)) h = absurd (let e = h.0 in cc)
        goes_act i d (during c body) h =
            let inside = back (suc i) (suc d) body h in
            let further = goes (suc i) (suc d) body h in
            λ k. (sort (during c body) && ((n == suc d) && not (is_empty (inside k)))) || further k
        goes_act i d (call name args) h = refl
        goes_act i d (runtime o) h = refl

        goes : (i d : ℕ) (c : Code) → IsUnmarked c → goes_back_with sc sort n p i d c ≡ goes_back_with None sort n p i d c
        goes i d stop h = refl
        goes i d (step line a rest) h = let here = goes_act i d a h.0 in let later = goes (next i a) d rest h.1 in λ k. here k || later k

    -- no loop is reversed by a schedule
    module _ (sort : Step → Bool) (n : ℕ) where
      mutual
        reverses_none_act : (i d : ℕ) (a : Act) → IsUnmarkedAct a → reverses_act_by sc sort n p i d a ≡ false
        reverses_none_act i d (assign x subs e) h = refl
        reverses_none_act i d (choose c a b) h = let here = reverses_none (suc i) d a h.0 in let other = reverses_none (behind (suc i) a) d b h.1 in λ k. here k || other k
        reverses_none_act i d (loop x a b c body unmarked) h = reverses_none (suc i) (suc d) body h.1
        reverses_none_act i d (loop x a b c body (with_count m)) h = absurd (let e = h.0 in cc)
        reverses_none_act i d (loop x a b c body (count_from y)) h = absurd (let e = h.0 in cc)
        reverses_none_act i d (during c body) h = reverses_none (suc i) (suc d) body h
        reverses_none_act i d (call name args) h = refl
        reverses_none_act i d (runtime o) h = refl

        reverses_none : (i d : ℕ) (c : Code) → IsUnmarked c → reverses_by sc sort n p i d c ≡ false
        reverses_none i d stop h = refl
        reverses_none i d (step line a rest) h = let here = reverses_none_act i d a h.0 in let later = reverses_none (next i a) d rest h.1 in λ k. here k || later k

    among_none : (f : ℕ → Bool) → ((k : ℕ) → f k ≡ false) → (o : Role) (k n : ℕ) → helpers_among f o k n ≡ []
    among_none f h o k zero = refl
    among_none f h o k (suc n) = (λ j. if h k j then helper o k ∷ helpers_among f o (suc k) n else helpers_among f o (suc k) n) ∙ among_none f h o (suc k) n

    helpers_same : (i : ℕ) (c : Code) → IsUnmarked c → helpers_used_with sc p i c ≡ helpers_used_with None p i c
    helpers_same i c h =
        λ k. (if tells i 0 c h k then helper control 0 ∷ [] else [])
        ++ (of_loops is_loop count k ++ (of_loops is_do first k ++ (of_loops is_do stride k ++ (of_loops is_loop turn k
        ++ (of_reversals k ++ (helpers_from work 1 (works_used p.marks i c) ++ helpers_from temp 1 (temps_used p.marks i c)))))))
      where
        of_loops : (sort : Act → Bool) (o : Role) → loop_helpers_with sc sort o p i c ≡ loop_helpers_with None sort o p i c
        of_loops sort o = λ k. helpers_among (λ n. goes sort n i 0 c h k) o 1 (depth i 0 c h k)

        of_role : (sort : Step → Bool) (o : Role) → reversal_helpers sc sort o p i c ≡ []
        of_role sort o = among_none (λ n. reverses_by sc sort n p i 0 c) (λ n. reverses_none sort n i 0 c h) o 1 (depth_used_with sc p i 0 c)

        of_reversals : all_reversal_helpers sc p i c ≡ []
        of_reversals = λ k. of_role any_step entry k ++ (of_role any_step entries k ++ (of_role any_step kind k ++ (of_role any_step lower k ++ (of_role any_step upper k ++ of_role has_slots slots k))))

  -- ---- which units its turns call

  module _ (adjointed : ℕ → Bool) (name : List ℕ) where
    mutual
      turns_none_act : (i : ℕ) (a : Act) → IsUnmarkedAct a → turns_act sc adjointed name i a ≡ false
      turns_none_act i (assign x subs e) h = refl
      turns_none_act i (choose c a b) h = let here = turns_none (suc i) a h.0 in let other = turns_none (behind (suc i) a) b h.1 in λ k. here k || other k
      turns_none_act i (loop x a b c body unmarked) h = turns_none (suc i) body h.1
      turns_none_act i (loop x a b c body (with_count m)) h = absurd (let e = h.0 in cc)
      turns_none_act i (loop x a b c body (count_from y)) h = absurd (let e = h.0 in cc)
      turns_none_act i (during c body) h = turns_none (suc i) body h
      turns_none_act i (call other args) h = refl
      turns_none_act i (runtime o) h = refl

      turns_none : (i : ℕ) (c : Code) → IsUnmarked c → turns_in sc adjointed name i c ≡ false
      turns_none i stop h = refl
      turns_none i (step line a rest) h = let here = turns_none_act i a h.0 in let later = turns_none (next i a) rest h.1 in λ k. here k || later k

    turns_some_none : (among : List ℕ → Bool) (i : ℕ) (us : List Procedure) → EachUnit (λ u. IsUnmarked u.body) us → turns_some sc among adjointed name i us ≡ false
    turns_some_none among i [] h = refl
    turns_some_none among i (u ∷ us) h =
        let here = turns_none i u.body h.0 in
        let later = turns_some_none among (behind i u.body) us h.1 in
        (λ k. (among u.name && here k) || later k) ∙ (λ k. and_none (among u.name) k || false)

  -- ---- which lines are told

  module _ (g : List ℕ → CalleeFacts) (adjointed : ℕ → Bool) where
    mutual
      told_none_act : (i line : ℕ) (a : Act) → IsUnmarkedAct a → told_in sc g adjointed i line a ≡ []
      told_none_act i line (assign x subs e) h = refl
      told_none_act i line (choose c a b) h = let here = told_none (suc i) a h.0 in let other = told_none (behind (suc i) a) b h.1 in λ k. here k ++ other k
      told_none_act i line (loop x a b c body unmarked) h = told_none (suc i) body h.1
      told_none_act i line (loop x a b c body (with_count m)) h = absurd (let e = h.0 in cc)
      told_none_act i line (loop x a b c body (count_from y)) h = absurd (let e = h.0 in cc)
      told_none_act i line (during c body) h = told_none (suc i) body h
      told_none_act i line (call name args) h = refl
      told_none_act i line (runtime o) h = refl

      told_none : (i : ℕ) (c : Code) → IsUnmarked c → told_code sc g adjointed i c ≡ []
      told_none i stop h = refl
      told_none i (step line a rest) h = let here = told_none_act i line a h.0 in let later = told_none (next i a) rest h.1 in λ k. here k ++ later k

    units_told_none : (i : ℕ) (us : List Procedure) → EachUnit (λ u. IsUnmarked u.body) us → told_units sc g adjointed i us ≡ []
    units_told_none i [] h = refl
    units_told_none i (u ∷ us) h = let here = told_none i u.body h.0 in let later = units_told_none (behind i u.body) us h.1 in λ k. here k ++ later k

-- ---- the emitted program

module _ (m : ProgramMarks) (unsplit : SplitsNothing m) (ps : List Procedure) (free : EachUnit (λ u. IsUnmarked u.body) ps) where
  -- what each unit reads
  abbrev reads_of : List ℕ → Vars
  reads_of name = dummy_set (read_by ps (find_unit ps name))

  made_same : (u : Procedure) → IsUnmarked u.body → made_for_with true m ps u ≡ made_for_with false m ps u
  made_same u h = let helpers = helpers_same reads_of (plan_in m ps u) (first_statement ps u.name) u.body h in λ k. map shadow (names_in (m.shadowed u.name) (variables u)) ++ helpers k

  names_same : (units : List (List ℕ)) (u : Procedure) → IsUnmarked u.body → adjoint_names_with true m ps units u ≡ adjoint_names_with false m ps units u
  names_same units u h = let made = made_same u h in λ k. unit_names (variables u) units (made k)

  unit_same : (units : List (List ℕ)) (u : Procedure) (at_turn at_end : List (List ℕ)) → IsUnmarked u.body → adjoint_unit_with true m ps units u at_turn at_end ≡ adjoint_unit_with false m ps units u at_turn at_end
  unit_same units u at_turn at_end h =
      let names = names_same units u h in
      let helpers = helpers_same reads_of (plan_in m ps u) (first_statement ps u.name) u.body h in
      let body = body_same reads_of (plan_in m ps u) (first_statement ps u.name) u.line u.body at_turn at_end h in
      λ k. record {
        line = u.line;
        name = adjoint_name ps u;
        dummies = shadows_behind (m.shadowed u.name) (names k) u.dummies;
        is_none = false;
        declarations = declared_behind (m.shadowed u.name) (names k) u (variables u) ++ declared_helpers (names k) u.line (helpers k);
        body = rename (naming (names k)) (body k);
      }

  module _ (head : Procedure) (vars outvars : List Bool) where
    adjoint_same : (u : Procedure) → IsUnmarked u.body → emitted_adjoint_with true m ps head vars outvars u ≡ emitted_adjoint_with false m ps head vars outvars u
    adjoint_same u h =
        let shadows = names_in (m.shadowed u.name) in
        let top = unit_same (all_units m ps head) u (shadows (of_flags u.dummies outvars)) (shadows (of_flags u.dummies vars)) h in
        let below = unit_same (all_units m ps head) u [] [] h in
        λ k. if name_eq head.name u.name then top k else below k

    kept_same : (name : List ℕ) → is_kept_with true m ps head name ≡ is_kept_with false m ps head name
    kept_same name =
        let kept = calls_some (has_adjoint m ps head) m.kept name 0 ps in
        let turned = turns_some_none reads_of m.adjointed name (has_adjoint m ps head) 0 ps free in
        unsplit_kept m unsplit ps head true name ∙ (λ k. kept || turned k) ∙ or_none kept ∙ sym (unsplit_kept m unsplit ps head false name)

    carried_same : (name : List ℕ) → is_carried_with true m ps head name ≡ is_carried_with false m ps head name
    carried_same name = λ k. is_reached (λ n. kept_same n k) (λ i. true) ps name

    adjoints_same : (us : List Procedure) → EachUnit (λ u. IsUnmarked u.body) us → adjoint_units true m ps head vars outvars us ≡ adjoint_units false m ps head vars outvars us
    adjoints_same [] h = refl
    adjoints_same (u ∷ us) h =
        let carried = carried_same u.name in
        let adjoint = adjoint_same u h.0 in
        let later = adjoints_same us h.1 in
        λ k. (if carried k then u ∷ [] else []) ++ ((if has_adjoint m ps head u.name then adjoint k ∷ [] else []) ++ later k)

    units_same : emitted_units_with true m ps head vars outvars ps ≡ emitted_units_with false m ps head vars outvars ps
    units_same = unsplit_units true m unsplit ps head vars outvars ps ∙ adjoints_same ps free ∙ sym (unsplit_units false m unsplit ps head vars outvars ps)

  for_same : (vars outvars : List Bool) (us : List Procedure) → emitted_for_with true m ps vars outvars us ≡ emitted_for_with false m ps vars outvars us
  for_same vars outvars [] = refl
  for_same vars outvars (u ∷ us) = units_same u vars outvars

pub nothing_added : SchedulesAddNothing
nothing_added ps free m unsplit head vars outvars = for_same m unsplit ps free vars outvars (unit_at head ps)

pub none_reversed : NoneIsReversed
none_reversed ps free m line =
    let w = facts_by m in
    let g = callee_facts w (kernel_of ps) in
    ap (λ ts. tale_of ts line) (units_told_none (λ name. (g name).read) g m.adjointed 0 (kernel_of ps) (kernel_unmarked ps free))
