-- A call that is done and the run of the unit's body: what it takes, and what it costs where each statement costs so many statements more.
use Rattle.std.proofs.Common.{◌≡◌, ℕ, suc, ◌+◌, Bool, true, false, List, refl, sym, ap, ◌∙◌}
use Rattle.std.specs.Prelude.{Ok, Some, ◌==◌, if◌then◌else◌}
use Rattle.adj_tree.specs.Code.{Terms, Act, call, Procedure}
use Rattle.def_meaning.specs.Padded.{padded_program, padded_procedure}
use Rattle.def_meaning.specs.Trap.{shape_trap, schedule_trap}
use Rattle.def_meaning.specs.Value.{Setting}
use Rattle.def_meaning.specs.Scene.{Scene, stand, Outcome, Done, Trapped, then_do, with_value}
use Rattle.def_meaning.specs.Run.{run}
use Rattle.def_meaning.specs.Written.{find_unit, handed_back}
use Rattle.def_meaning.specs.Units.{Actual, actuals, entry_store, dummies_fit, copied_out, setting_in, entered, unit_run, call_in, calls_of}
use Rattle.law_meaning.proofs.Inversions.{then_done, done_same}
use Rattle.law_meaning.proofs.PaddedPrograms.{handed_padded, find_padded, padded_found}
use Rattle.law_cost.proofs.Runs.{left_same}
use Rattle.law_cost.proofs.Prices.{Pays, ActPays}

module _ {C : Type 0} (units : List Procedure) (depth : ℕ) (n : Setting C) (name : List ℕ) (u : Procedure) (found : find_unit units name ≡ Some u) (args : Terms) (line : ℕ) (s e : Scene C) (got : List (Actual C)) (is : actuals n args s.store ≡ Ok got) where
  -- the scene after the unit's body
  abbrev pub handed : Scene C → Scene C
  handed end = record s { store = copied_out u.dummies (handed_back units name) got end.store s.store; tape = end.tape; events = end.events }

  abbrev pub begun : Scene C
  begun = entered n u (record s { store = entry_store n.numbers u.dummies got })

  pub record CallBody (k left : ℕ) : Type 0 where
    pub fit : dummies_fit n.numbers u (entry_store n.numbers u.dummies got) u.dummies got ≡ true
    pub end : Scene C
    pub body : run (calls_of units depth) (setting_in n u (entry_store n.numbers u.dummies got)) u.body begun k ≡ Done end left
    pub shut : (end.opened == 0) ≡ true
    pub ends : handed end ≡ e

  pub call_body : (k left : ℕ) → calls_of units (suc depth) n name args line s k ≡ Done e left → CallBody k left
  call_body k left h = fitted (dummies_fit n.numbers u (entry_store n.numbers u.dummies got) u.dummies got) refl h2
    where
      start : Scene C
      start = record s { store = entry_store n.numbers u.dummies got }

      back : Scene C → ℕ → Outcome (Scene C)
      back s1 j = Done (handed s1) j

      close : Scene C → ℕ → Outcome (Scene C)
      close s1 j = if s1.opened == 0 then Done s1 j else Trapped schedule_trap line (stand n s1)

      go : List (Actual C) → Outcome (Scene C)
      go got = if dummies_fit n.numbers u (entry_store n.numbers u.dummies got) u.dummies got
          then then_do (unit_run (calls_of units depth) n u line (record s { store = entry_store n.numbers u.dummies got }) k) (λ s1 j. Done (record s { store = copied_out u.dummies (handed_back units name) got s1.store s.store; tape = s1.tape; events = s1.events }) j)
          else Trapped shape_trap line (stand n s)

      h1 : with_value (actuals n args s.store) line (stand n s) go ≡ Done e left
      h1 = ap (λ o. call_in (calls_of units depth) n (handed_back units name) o args line s k) (sym found) ∙ h

      h2 : go got ≡ Done e left
      h2 = ap (λ g. with_value g line (stand n s) go) (sym is) ∙ h1

      closed : (a : Scene C) (i : ℕ) (b : Scene C) (j : ℕ) (f : Bool) → (a.opened == 0) ≡ f → (if f then Done a i else Trapped schedule_trap line (stand n a)) ≡ Done b j → ((a.opened == 0) ≡ true) × (a ≡ b) × (i ≡ j)
      closed a i b j true is g = (is, done_same a b i j g, left_same a b i j g)
      closed a i b j false is g = absurd cc

      fitted : (b : Bool) → dummies_fit n.numbers u (entry_store n.numbers u.dummies got) u.dummies got ≡ b → (if b then then_do (unit_run (calls_of units depth) n u line start k) back else Trapped shape_trap line (stand n s)) ≡ Done e left → CallBody k left
      fitted false f g = absurd cc
      fitted true f g =
          let p = then_done (unit_run (calls_of units depth) n u line start k) back e left g in
          let o = then_done (run (calls_of units depth) (setting_in n u start.store) u.body begun k) close p.scene p.left p.first in
          let c = closed o.scene o.left p.scene p.left (o.scene.opened == 0) refl o.second in
          let l : o.left ≡ left = c.2 ∙ left_same (handed p.scene) e p.left left p.second in
          record {
            fit = f;
            end = o.scene;
            body = o.first ∙ ap (Done o.scene) l;
            shut = c.0;
            ends = ap handed c.1 ∙ done_same (handed p.scene) e p.left left p.second;
          }

  -- so the call takes what its unit does
  pub pays_call : (extra : Act → ℕ) (k left price : ℕ) (b : CallBody k left) → Pays extra (calls_of (padded_program extra units) depth) (setting_in n u (entry_store n.numbers u.dummies got)) u.body begun b.end price → ActPays extra (calls_of (padded_program extra units) (suc depth)) n line (call name args) s e price
  pays_call extra k left price b pays j =
      let weighed = padded_program extra units in
      let q = calls_of weighed depth in
      let start : Scene C = record s { store = entry_store n.numbers u.dummies got } in
      let close : Scene C → ℕ → Outcome (Scene C) = λ s1 i. if s1.opened == 0 then Done s1 i else Trapped schedule_trap line (stand n s1) in
      let back : Scene C → ℕ → Outcome (Scene C) = λ s1 i. Done (handed s1) i in
      (λ i. call_in q n (handed_padded extra units name i) (find_padded extra units name i) args line s (price + j))
      ∙ ap (λ o. call_in q n (handed_back units name) (padded_found extra o) args line s (price + j)) found
      ∙ ap (λ r. with_value r line (stand n s) (λ got. if dummies_fit n.numbers u (entry_store n.numbers u.dummies got) u.dummies got
      then then_do (unit_run q n (padded_procedure extra u) line (record s { store = entry_store n.numbers u.dummies got }) (price + j)) (λ s1 i. Done (record s { store = copied_out u.dummies (handed_back units name) got s1.store s.store; tape = s1.tape; events = s1.events }) i)
      else Trapped shape_trap line (stand n s))) is
      ∙ ap (λ f. if f then then_do (unit_run q n (padded_procedure extra u) line start (price + j)) back else Trapped shape_trap line (stand n s)) b.fit
      ∙ ap (λ o. then_do (then_do o close) back) (pays j)
      ∙ ap (λ f. then_do (if f then Done b.end j else Trapped schedule_trap line (stand n b.end)) back) b.shut
      ∙ ap (λ z. Done z j) b.ends
