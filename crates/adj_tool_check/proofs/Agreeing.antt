-- Where `check` is done, its products are equal and its advances the least, and a trap that it tells of is the original's, by the theorem on adjoints.
use Rattle.std.proofs.Common.{◌≡◌, ℕ, true, List, [], ◌++◌, drop, refl, sym, ap, ◌∙◌, subst, Option, Some, None}
use Rattle.std.specs.Prelude.{ℤ, codes}
use Rattle.adj_tree.specs.Code.{Procedure}
use Rattle.def_meaning.specs.Log.{log_of}
use Rattle.def_meaning.specs.Numbers.{words}
use Rattle.def_meaning.specs.Scene.{Outcome, Done, Trapped, More, Full}
use Rattle.def_meaning.specs.Units.{Output, fits, run_unit}
use Rattle.def_text.specs.Data.{data_of}
use Rattle.def_sweep.specs.Tangents.{cells_of}
use Rattle.def_sweep.specs.MarkedAdjoint.{shadow_flags, joined_by}
use Rattle.def_sweep.specs.Reversals.{runs_in}
use Rattle.adj_data.specs.Faults.{Fault}
use Rattle.adj_data.specs.Marked.{check_fault}
use Rattle.def_adjoint.specs.Trapped.{IsTrapped}
use Rattle.law_rooms.specs.Adjoints.{Balances}
use Rattle.def_adjoint.specs.LeastCosts.{least_costs}
use Rattle.law_rooms.specs.Advances.{AdjointsAdvance}
use Rattle.law_rooms.proofs.Adjoints.{adjoints_balance}
use Rattle.adj_tool_answer.specs.Answer.{Answer, line_of_one}
use Rattle.adj_tool_answer.specs.Endings.{Asked}
use Rattle.adj_tool_check.specs.Checking.{Sides, Given, original_run, dual_run, adjoint_run, value_lines, products_line, input_product, output_product, tangents_in, adjoints_in, compared, after, runs_answer, given_by, faulty_or, data_answer, check_answer}
use Rattle.adj_tool_check.specs.Agreeing.{TellsEqual, NeverTraps, IsAdjointSide, AreAdjoint, IsDone, TellsTrap, TrapsAlone, CheckTraps, Agrees, CheckAgrees}
use Rattle.adj_tool_check.specs.Ready.{SuitsHead}
use Rattle.adj_tool_check.proofs.Suits.{suits}

-- ---- answers by how a run ends

module _ {C : Type 0} (r : Asked) where
  -- without a trap of the run, and none in what goes on from it, the status isn't that of a trap
  other_status : (o : Outcome (Output C)) → (IsTrapped o → ⊥) → (go : Output C → Answer) → ((out : Output C) → (go out).status ≡ 4 → ⊥) → (after r o go).status ≡ 4 → ⊥
  other_status (Done out used) n go f h = f out h
  other_status (Trapped t line w) n go f h = n tt
  other_status (More w) n go f h = absurd cc
  other_status (Full w) n go f h = absurd cc

  -- with one it is
  trap_status : (o : Outcome (Output C)) → IsTrapped o → (go : Output C → Answer) → (after r o go).status ≡ 4
  trap_status (Done out used) t go = absurd t
  trap_status (Trapped d line w) t go = refl
  trap_status (More w) t go = absurd t
  trap_status (Full w) t go = absurd t

-- ---- where the original is done

module _ (p : Sides) (x : IsAdjointSide p) (d : Given) (s : SuitsHead p d) where
  -- where the original is done, its adjoint balances it
  pub balanced : (room : Option ℕ) (k used : ℕ) (out : Output ℤ) → run_unit words p.source p.head d.inputs [] room k ≡ Done out used → Balances p.shadowed p.source p.head p.vars p.outvars p.emitted p.adjoint d.inputs d.adjoints (cells_of d.tangents)
  balanced room k used out e =
      let u = x.adjoins.unit in
      let b = adjoints_balance x.lines x.marks p.source x.name p.vars p.outvars p.emitted x.adjoins d.inputs d.adjoints (subst (λ v. fits words v d.inputs ≡ true) x.is_head s.fits) s.adjoints (cells_of d.tangents) s.along room k used out
      (subst (λ v. run_unit words p.source v d.inputs [] room k ≡ Done out used) x.is_head e) in
      let flags : shadow_flags (x.marks.shadowed x.name) u.dummies ≡ p.shadowed = sym (x.shadows ∙ ap (λ (v : Procedure). shadow_flags (x.marks.shadowed x.name) v.dummies) x.is_head) in
      subst (λ a. Balances p.shadowed p.source p.head p.vars p.outvars p.emitted a d.inputs d.adjoints (cells_of d.tangents)) (sym x.is_adjoint)
      (subst (λ v. Balances p.shadowed p.source v p.vars p.outvars p.emitted x.adjoins.adjoint d.inputs d.adjoints (cells_of d.tangents)) (sym x.is_head)
      (subst (λ f. Balances f p.source u p.vars p.outvars p.emitted x.adjoins.adjoint d.inputs d.adjoints (cells_of d.tangents)) flags b))

  -- where the adjoint's run is done too, its advances are the least costs of the original's runs of the loops that are reversed
  advanced : AdjointsAdvance → (room : Option ℕ) (k used used' : ℕ) (out back : Output ℤ) → run_unit words p.source p.head d.inputs [] room k ≡ Done out used →
      run_unit words p.emitted p.adjoint (joined_by p.shadowed d.inputs d.adjoints) [] room k ≡ Done back used' → (log_of back.events).advances ≡ least_costs (runs_in x.lines out.events)
  advanced law room k used used' out back e e' =
      law x.lines x.own_names x.marks p.source x.name p.vars p.outvars p.emitted x.adjoins d.inputs d.adjoints (subst (λ v. fits words v d.inputs ≡ true) x.is_head s.fits) s.adjoints room room k k used used' out back
      (subst (λ v. run_unit words p.source v d.inputs [] room k ≡ Done out used) x.is_head e)
      (subst (λ f. run_unit words p.emitted x.adjoins.adjoint (joined_by f d.inputs d.adjoints) [] room k ≡ Done back used') (x.shadows ∙ ap (λ (v : Procedure). shadow_flags (x.marks.shadowed x.name) v.dummies) x.is_head)
      (subst (λ a. run_unit words p.emitted a (joined_by p.shadowed d.inputs d.adjoints) [] room k ≡ Done back used') x.is_adjoint e'))

  -- the text of an answer with equal products
  equal_text : (out : Output ℤ) (dual : Output (ℤ × ℤ)) (back : Output ℤ) → input_product p d (adjoints_in p back) ≡ output_product p d (tangents_in dual) → (advances : ℕ) → (log_of back.events).advances ≡ advances →
      TellsEqual advances (compared p d out.slots (tangents_in dual) (adjoints_in p back) (log_of back.events).advances).text
  equal_text out dual back e advances e' = record {
    values = value_lines p out.slots (tangents_in dual) (adjoints_in p back);
    both = input_product p d (adjoints_in p back);
    is = λ i. value_lines p out.slots (tangents_in dual) (adjoints_in p back) ++ (products_line (input_product p d (adjoints_in p back)) (sym e i) ++ line_of_one (codes "ADVANCES ") (e' i));
  }

  module _ (r : Asked) (law : AdjointsAdvance) where
    -- after the adjoint's run
    adjoint_done : (out : Output ℤ) (used : ℕ) → original_run r p d ≡ Done out used → (dual : Output (ℤ × ℤ)) (used1 : ℕ) → dual_run r p d ≡ Done dual used1 → (o : Outcome (Output ℤ)) → adjoint_run r p d ≡ o →
        let a = after r o (λ back. compared p d out.slots (tangents_in dual) (adjoints_in p back) (log_of back.events).advances) in a.status ≡ 0 → TellsEqual (least_costs (runs_in x.lines out.events)) a.text
    adjoint_done out used e dual used1 f (Done back used2) g h =
        equal_text out dual back ((balanced (Some r.room) r.budget used out e).products (Some r.room) (Some 0) r.budget r.budget used2 used1 back dual g f)
        (least_costs (runs_in x.lines out.events)) (advanced law (Some r.room) r.budget used used2 out back e g)
    adjoint_done out used e dual used1 f (Trapped t line w) g h = absurd cc
    adjoint_done out used e dual used1 f (More w) g h = absurd cc
    adjoint_done out used e dual used1 f (Full w) g h = absurd cc

    -- after the dual run
    dual_done : (out : Output ℤ) (used : ℕ) → original_run r p d ≡ Done out used → (o : Outcome (Output (ℤ × ℤ))) → dual_run r p d ≡ o →
        let a = after r o (λ dual. after r (adjoint_run r p d) (λ back. compared p d out.slots (tangents_in dual) (adjoints_in p back) (log_of back.events).advances)) in a.status ≡ 0 → TellsEqual (least_costs (runs_in x.lines out.events)) a.text
    dual_done out used e (Done dual used1) f h = adjoint_done out used e dual used1 f (adjoint_run r p d) refl h
    dual_done out used e (Trapped t line w) f h = absurd cc
    dual_done out used e (More w) f h = absurd cc
    dual_done out used e (Full w) f h = absurd cc

    -- after the original's
    original_done : (o : Outcome (Output ℤ)) → original_run r p d ≡ o →
        let a = after r o (λ out. after r (dual_run r p d) (λ dual. after r (adjoint_run r p d) (λ back. compared p d out.slots (tangents_in dual) (adjoints_in p back) (log_of back.events).advances))) in a.status ≡ 0 →
        (out : Output ℤ) × (used : ℕ) × (o ≡ Done out used) × TellsEqual (least_costs (runs_in x.lines out.events)) a.text × NeverTraps p d
    original_done (Done out used) e h = (out, used, refl, dual_done out used e (dual_run r p d) refl h, (balanced (Some r.room) r.budget used out e).untrapped)
    original_done (Trapped t line w) e h = absurd cc
    original_done (More w) e h = absurd cc
    original_done (Full w) e h = absurd cc

  module _ (r : Asked) where
    -- a trap that is told is the original's
    tells : (o : Outcome (Output ℤ)) → original_run r p d ≡ o →
        let a = after r o (λ out. after r (dual_run r p d) (λ dual. after r (adjoint_run r p d) (λ back. compared p d out.slots (tangents_in dual) (adjoints_in p back) (log_of back.events).advances))) in a.status ≡ 4 → TellsTrap o a
    tells (Done out used) e h =
        let b = balanced (Some r.room) r.budget used out e in
        let last = λ (dual : Output (ℤ × ℤ)) (back : Output ℤ). compared p d out.slots (tangents_in dual) (adjoints_in p back) (log_of back.events).advances in
        absurd (other_status r (dual_run r p d) (b.dual_untrapped (Some 0) r.budget) (λ dual. after r (adjoint_run r p d) (last dual))
        (λ dual. other_status r (adjoint_run r p d) (b.untrapped (Some r.room) r.budget) (last dual) (λ back k. absurd cc)) h)
    tells (Trapped t line w) e h = refl
    tells (More w) e h = absurd cc
    tells (Full w) e h = absurd cc

    -- where the original's run is done, the adjoint never traps
    untraps : (o : Outcome (Output ℤ)) → original_run r p d ≡ o → IsDone o → NeverTraps p d
    untraps (Done out used) e h = (balanced (Some r.room) r.budget used out e).untrapped
    untraps (Trapped t line w) e h = absurd h
    untraps (More w) e h = absurd h
    untraps (Full w) e h = absurd h

-- ---- answers to data

pub check_traps : CheckTraps
check_traps r p x bytes = record {
  told = told_by (check_fault line behind p.head p.vars p.outvars) refl;
  comes = λ none t. ap (λ f. (faulty_or f (runs_answer r p d)).status) none
      ∙ trap_status r (original_run r p d) t (λ out. after r (dual_run r p d) (λ dual. after r (adjoint_run r p d) (λ back. compared p d out.slots (tangents_in dual) (adjoints_in p back) (log_of back.events).advances)));
  untrapped = λ none. untraps p x.side d (suits p x.sized x.vars x.outvars line behind none) r (original_run r p d) refl;
}
  where
    line : ℕ
    line = (data_of bytes).1

    behind : List ℕ
    behind = drop (data_of bytes).0 bytes

    d : Given
    d = given_by p line behind

    told_by : (f : Option Fault) → check_fault line behind p.head p.vars p.outvars ≡ f → (faulty_or f (runs_answer r p d)).status ≡ 4 → (check_fault line behind p.head p.vars p.outvars ≡ None) × TellsTrap (original_run r p d) (faulty_or f (runs_answer r p d))
    told_by (Some f) e k = absurd cc
    told_by None e k = (e, tells p x.side d (suits p x.sized x.vars x.outvars line behind e) r (original_run r p d) refl k)

pub check_agrees : AdjointsAdvance → CheckAgrees
check_agrees law r p x bytes h = go (check_fault line behind p.head p.vars p.outvars) refl h
  where
    line : ℕ
    line = (data_of bytes).1

    behind : List ℕ
    behind = drop (data_of bytes).0 bytes

    go : (f : Option Fault) → check_fault line behind p.head p.vars p.outvars ≡ f → (faulty_or f (runs_answer r p (given_by p line behind))).status ≡ 0 → Agrees r x.side.lines p bytes (faulty_or f (runs_answer r p (given_by p line behind))).text
    go (Some f) e k = absurd cc
    go None e k =
        let d = given_by p line behind in
        let all = original_done p x.side d (suits p x.sized x.vars x.outvars line behind e) r law (original_run r p d) refl k in
        record { original = all.0; used = all.1; done = all.2; equal = all.3; untrapped = all.4 }
