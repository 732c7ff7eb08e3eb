-- The marks of exact analyses are closed, and so are full marks.
use Rattle.std.proofs.Common.{◌≡◌, inl, inr, ℕ, zero, suc, List, [], ◌∷◌, ◌++◌, Bool, true, false, refl, sym, ap, ◌∙◌, subst}
use Rattle.std.specs.Prelude.{◌||◌, ◌&&◌, length, Contains}
use Rattle.std.proofs.lemmas.List.Elements.{Contains-append_left, Contains-append_right}
use Rattle.adj_tree.specs.Code.{name_eq, Var, Mark, unmarked, with_count, count_from, Act, assign, choose, loop, during, call, runtime, Code, stop, step, Procedure}
use Rattle.def_sweep.specs.Marks.{Marks}
use Rattle.def_names.specs.Numbers.{next, behind}
use Rattle.def_sweep.specs.Facts.{Facts}
use Rattle.def_names.proofs.Variables.{and_true, or_false, or_left, or_right, not_true}
use Rattle.def_sweep.specs.Plan.{is_emitted}
use Rattle.law_sweep.specs.Laws.{IsIdle', IsIdle}
use Rattle.def_sweep.specs.Marking.{full_marks, marks_in, first_statement}
use Rattle.def_sweep.specs.Program.{calls_act, calls_in, calls_some, reached_after}
use Rattle.law_sweep.proofs.Rounds.{either, calls_rise}
use Rattle.law_emitted.proofs.Premises.{units_apart, found}
use Rattle.law_emitted.proofs.Pairs.{adjoint_part}
use Rattle.def_planned.specs.ProgramFacts.{program_facts}
use Rattle.def_flow.specs.Parts.{Part}
use Rattle.def_names.specs.StatementsIn.{statements_in}
use Rattle.def_flow.specs.Standing.{Place, outermost, part_of, body_of, Standing, held_in, standing}
use Rattle.def_flow.specs.Problem.{IsHead, statements_of}
use Rattle.def_flow.specs.Activity.{Holds}
use Rattle.def_flow.specs.Live as live
use Rattle.law_flow.specs.Laws.{InUnit, facts_of}
use Rattle.law_flow.proofs.Heads.{head_part}
use Rattle.adj_reach.specs.Reached.{begins}
use Rattle.adj_reach.proofs.Members.{is_first, is_later}
use Rattle.law_flow.proofs.Statements.{analysed_is_closed}
use Rattle.law_analysed.proofs.Checked.{part_found}
use Rattle.law_analysed.proofs.Meets.{some_same}
use Rattle.law_analysed.proofs.Numbers.{placed}
use Rattle.law_analysed.proofs.Reaching.{taking}
use Rattle.law_shape.specs.Closed.{IsClosed', IsClosed}
use Rattle.law_shape.specs.Laws.{FullAreClosed, AnalysedAreClosed}

-- ---- what is kept throughout is closed

module _ (m : Marks) (all : (i : ℕ) → m.kept i ≡ true) where
  never : {X : Type 0} (i : ℕ) → is_emitted m i ≡ false → X
  never i h = absurd (let z : true ≡ false = sym (all i) ∙ (or_false (m.kept i) (m.adjointed i) h).0 in cc)

  mutual
    throughout_act : (i : ℕ) (a : Act) → IsClosed' m i a
    throughout_act i (assign x subs e) = tt
    throughout_act i (choose c a b) = (λ h. never i h, (throughout (suc i) a, throughout (behind (suc i) a) b))
    throughout_act i (loop x a b c body n) = (λ h. never i h, throughout (suc i) body)
    throughout_act i (during c body) = (λ h. never i h, throughout (suc i) body)
    throughout_act i (call name args) = λ h. all i
    throughout_act i (runtime r) = tt

    pub throughout : (i : ℕ) (c : Code) → IsClosed m i c
    throughout i stop = tt
    throughout i (step line a rest) = (throughout_act i a, throughout (next i a) rest)

pub full_are_closed : FullAreClosed
full_are_closed ps head u f there = throughout (marks_in full_marks u.name) (λ i. refl) (first_statement ps u.name) u.body

-- ---- so is a unit in which each holder is kept where what it holds is kept or adjointed, and each split call is kept

-- what stands in the body of a loop is held by it
holds_body : (i : ℕ) (x : Var) (m : Mark) → Holds i (body_of i x m)
holds_body i x unmarked = refl
holds_body i x (with_count n) = refl
holds_body i x (count_from y) = refl

module _ (w : Facts) (g : Part) (unit : InUnit w g) (splits : (s : Standing) → Contains (statements_of g) s → w.marks.split s.number ≡ true → w.marks.kept s.number ≡ true) where
  -- statements of the unit
  abbrev AllOwn : List Standing → Type 0
  AllOwn ss = (s : Standing) → Contains ss s → Contains (statements_of g) s

  -- what isn't kept holds nothing that is kept or adjointed
  spare : (n : ℕ) (s : Standing) → Contains (statements_of g) s → Holds n s.place → w.marks.kept n ≡ false → (w.marks.kept s.number ≡ false) × (w.marks.adjointed s.number ≡ false)
  spare n s c h k =
      let o = unit.holders s c in (
        not_true (w.marks.kept s.number) (λ e. let p : true ≡ false = sym (o.keeps n h (inl e)) ∙ k in cc),
        not_true (w.marks.adjointed s.number) (λ e. let p : true ≡ false = sym (o.keeps n h (inr e)) ∙ k in cc),
      )

  module _ (at : Place) (i line : ℕ) (a : Act) (rest : Code) (h : AllOwn (standing at i (step line a rest))) where
    abbrev self : Standing
    self = record { number = i; place = at; act = a }

    own : Contains (statements_of g) self
    own = h self (is_first self self (held_in i a ++ standing at (next i a) rest) refl)

    own_inside : AllOwn (held_in i a)
    own_inside s c = h s (is_later s self (held_in i a ++ standing at (next i a) rest) (Contains-append_left (held_in i a) (standing at (next i a) rest) s c))

    own_behind : AllOwn (standing at (next i a) rest)
    own_behind s c = h s (is_later s self (held_in i a ++ standing at (next i a) rest) (Contains-append_right (held_in i a) (standing at (next i a) rest) s c))

  module _ (i : ℕ) (a b : Code) (h : AllOwn (standing (part_of i) (suc i) a ++ standing (part_of i) (behind (suc i) a) b)) where
    own_part : AllOwn (standing (part_of i) (suc i) a)
    own_part s c = h s (Contains-append_left (standing (part_of i) (suc i) a) (standing (part_of i) (behind (suc i) a) b) s c)

    own_other : AllOwn (standing (part_of i) (behind (suc i) a) b)
    own_other s c = h s (Contains-append_right (standing (part_of i) (suc i) a) (standing (part_of i) (behind (suc i) a) b) s c)

  mutual
    idle_act : (i : ℕ) (a : Act) → w.marks.kept i ≡ false → w.marks.adjointed i ≡ false → AllOwn (held_in i a) → IsIdle' w.marks i a
    idle_act i (assign x subs e) k d h = (k, d)
    idle_act i (choose c a b) k d h = ((k, d), (idle i (part_of i) (suc i) a k refl (own_part i a b h), idle i (part_of i) (behind (suc i) a) b k refl (own_other i a b h)))
    idle_act i (loop x first last by body m) k d h = ((k, d), idle i (body_of i x m) (suc i) body k (holds_body i x m) h)
    idle_act i (during c body) k d h = ((k, d), idle i (part_of i) (suc i) body k refl h)
    idle_act i (call name args) k d h = (k, d)
    idle_act i (runtime r) k d h = (k, d)

    idle : (n : ℕ) (at : Place) (i : ℕ) (c : Code) → w.marks.kept n ≡ false → Holds n at → AllOwn (standing at i c) → IsIdle w.marks i c
    idle n at i stop k o h = tt
    idle n at i (step line a rest) k o h =
        let none = spare n (self at i line a rest h) (own at i line a rest h) o k in
        (idle_act i a none.0 none.1 (own_inside at i line a rest h), idle n at (next i a) rest k o (own_behind at i line a rest h))

  mutual
    closed_act : (i : ℕ) (a : Act) → AllOwn (held_in i a) → (w.marks.split i ≡ true → w.marks.kept i ≡ true) → IsClosed' w.marks i a
    closed_act i (assign x subs e) h k = tt
    closed_act i (choose c a b) h k = (
      λ e. let none = (or_false (w.marks.kept i) (w.marks.adjointed i) e).0 in (idle i (part_of i) (suc i) a none refl (own_part i a b h), idle i (part_of i) (behind (suc i) a) b none refl (own_other i a b h)),
      (closed (part_of i) (suc i) a (own_part i a b h), closed (part_of i) (behind (suc i) a) b (own_other i a b h)),
    )
    closed_act i (loop x first last by body m) h k = (λ e. idle i (body_of i x m) (suc i) body (or_false (w.marks.kept i) (w.marks.adjointed i) e).0 (holds_body i x m) h, closed (body_of i x m) (suc i) body h)
    closed_act i (during c body) h k = (λ e. idle i (part_of i) (suc i) body (or_false (w.marks.kept i) (w.marks.adjointed i) e).0 refl h, closed (part_of i) (suc i) body h)
    closed_act i (call name args) h k = k
    closed_act i (runtime r) h k = tt

    closed : (at : Place) (i : ℕ) (c : Code) → AllOwn (standing at i c) → IsClosed w.marks i c
    closed at i stop h = tt
    closed at i (step line a rest) h = (closed_act i a (own_inside at i line a rest h) (splits (self at i line a rest h) (own at i line a rest h)), closed at (next i a) rest (own_behind at i line a rest h))

  pub unit_closed : IsClosed w.marks g.first g.unit.body
  unit_closed = closed outermost g.first g.unit.body (λ s c. c)

-- ---- what adjointed calls reach is reached by calls

module _ (f : ℕ → Bool) (x : List ℕ) where
  mutual
    any_act : (i : ℕ) (a : Act) → calls_act f x i a ≡ true → calls_act (λ j. true) x i a ≡ true
    any_act i (assign y subs e) h = h
    any_act i (choose c a b) h =
        either (calls_in f x (suc i) a) (calls_in f x (behind (suc i) a) b) (calls_in (λ j. true) x (suc i) a || calls_in (λ j. true) x (behind (suc i) a) b) h
        (λ e. or_left (calls_in (λ j. true) x (suc i) a) (calls_in (λ j. true) x (behind (suc i) a) b) (any_code (suc i) a e)) (λ e. or_right (calls_in (λ j. true) x (suc i) a) (calls_in (λ j. true) x (behind (suc i) a) b) (any_code (behind (suc i) a) b e))
    any_act i (loop y a b c body n) h = any_code (suc i) body h
    any_act i (during c body) h = any_code (suc i) body h
    any_act i (call other args) h = (and_true (f i) (name_eq x other) h).1
    any_act i (runtime r) h = h

    any_code : (i : ℕ) (c : Code) → calls_in f x i c ≡ true → calls_in (λ j. true) x i c ≡ true
    any_code i stop h = h
    any_code i (step line a rest) h =
        either (calls_act f x i a) (calls_in f x (next i a) rest) (calls_act (λ j. true) x i a || calls_in (λ j. true) x (next i a) rest) h
        (λ e. or_left (calls_act (λ j. true) x i a) (calls_in (λ j. true) x (next i a) rest) (any_act i a e)) (λ e. or_right (calls_act (λ j. true) x i a) (calls_in (λ j. true) x (next i a) rest) (any_code (next i a) rest e))

  any_some : (among : List ℕ → Bool) (i : ℕ) (us : List Procedure) → calls_some among f x i us ≡ true → calls_some among (λ j. true) x i us ≡ true
  any_some among i [] h = h
  any_some among i (u ∷ us) h =
      either (among u.name && calls_in f x i u.body) (calls_some among f x (behind i u.body) us) (calls_some among (λ j. true) x i (u ∷ us)) h
      (λ e. let p = and_true (among u.name) (calls_in f x i u.body) e in or_left (among u.name && calls_in (λ j. true) x i u.body) (calls_some among (λ j. true) x (behind i u.body) us) (λ j. p.0 j && any_code i u.body p.1 j))
      (λ e. or_right (among u.name && calls_in (λ j. true) x i u.body) (calls_some among (λ j. true) x (behind i u.body) us) (any_some among (behind i u.body) us e))

any_reached : (roots : List ℕ → Bool) (f : ℕ → Bool) (ps : List Procedure) (k : ℕ) (x : List ℕ) → reached_after roots f ps k x ≡ true → reached_after roots (λ j. true) ps k x ≡ true
any_reached roots f ps zero x h = h
any_reached roots f ps (suc k) x h =
    either (roots x) (calls_some (reached_after roots f ps k) f x 0 ps) (roots x || calls_some (reached_after roots (λ j. true) ps k) (λ j. true) x 0 ps) h
    (λ e. or_left (roots x) (calls_some (reached_after roots (λ j. true) ps k) (λ j. true) x 0 ps) e)
    (λ e. or_right (roots x) (calls_some (reached_after roots (λ j. true) ps k) (λ j. true) x 0 ps) (calls_rise (reached_after roots f ps k) (reached_after roots (λ j. true) ps k) (any_reached roots f ps k) (λ j. true) x 0 ps (any_some f x (reached_after roots f ps k) 0 ps e)))

-- ---- exact analyses

pub analysed_are_closed : AnalysedAreClosed
analysed_are_closed rules k checked a l saved held y top at u f there =
    let h = head_part (statements_in 0 k.units) 0 0 k.units k.head top at in
    let finds = part_found (statements_in 0 k.units) 0 0 k.units (units_apart rules k.units checked) k.head h.0 h.1 in
    let is : IsHead k h.0 = record { is = h.1 } in
    let reached : reached_after (name_eq h.0.unit.name) (λ j. true) k.units (length k.units) u.name ≡ true =
    ap (λ z. reached_after (name_eq z.name) (λ j. true) k.units (length k.units) u.name) h.2 ∙ any_reached (name_eq top.name) a.adjointed k.units (length k.units) u.name (adjoint_part (program_facts k.units k.split a l saved held).marks k.units top u.name u f there) in
    let t = taking k (found rules k.units checked) h.0 is finds (length k.units) u.name u f reached in
    let placed_at = placed k.units u.name t.part t.finds in
    let unit : t.part.unit ≡ u = some_same t.part.unit u (sym placed_at.found ∙ f) in
    let own : IsClosed (facts_of k a l saved held t.part.number).marks t.part.first t.part.unit.body = unit_closed (facts_of k a l saved held t.part.number) t.part (analysed_is_closed k a l saved held y t.part t.takes) (λ s c h. (y.live.exact (live.kept s.number)).1 (begins (live.split t.takes c h))) in
    subst (λ n. IsClosed (facts_of k a l saved held n).marks (first_statement k.units u.name) u.body) placed_at.number
    (subst (λ n. IsClosed (facts_of k a l saved held t.part.number).marks n u.body) placed_at.first (subst (λ (v : Procedure). IsClosed (facts_of k a l saved held t.part.number).marks t.part.first v.body) unit own))
