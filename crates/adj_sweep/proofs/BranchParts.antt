-- What an IF uses, from what its parts use.
use Rattle.std.proofs.Common.{◌≡◌, ℕ, suc, not, max, sym, ap, ◌∙◌, subst}
use Rattle.std.specs.Prelude.{◌&&◌, ◌||◌}
use Rattle.adj_tree.specs.Code.{Test, choose, Code}
use Rattle.def_names.specs.Numbers.{behind}
use Rattle.def_sweep.specs.Plan.{Plan, Schedules, is_emitted}
use Rattle.def_sweep.specs.Rows.{is_empty}
use Rattle.def_sweep.specs.Emission.{backward_with}
use Rattle.adj_sweep.specs.declared.uses.Used.{Used}
use Rattle.adj_sweep.specs.Uses.{UsesAct, UsesList}
use Rattle.adj_sweep.proofs.Idle.{told_there}

-- an IF
pub uses_if : (r : Schedules) (p : Plan) (d i : ℕ) (c : Test) (a b : Code) (first second u : Used) → UsesList r p d (suc i) a first → UsesList r p d first.number b second → u.idle ≡ (not (is_emitted p.marks i) || (first.idle && second.idle)) → u.tells ≡ not (first.idle && second.idle) → u.works ≡ max first.works second.works → u.temps ≡ max first.temps second.temps → u.depth ≡ max first.depth second.depth → u.number ≡ second.number → UsesAct r p d i (choose c a b) u
uses_if r p d i c a b first second u ha hb0 hi ht hw hz hd hn =
    let hb = subst (λ k. UsesList r p d k b second) ha.number hb0 in
    let j = behind (suc i) a in
    let idle : (first.idle && second.idle) ≡ (is_empty (backward_with r p (suc i) d a) && is_empty (backward_with r p j d b)) = λ k. ha.idle k && hb.idle k in
    record {
      idle = λ line.
          hi ∙ ap (λ z. not (is_emitted p.marks i) || z) idle
          ∙ sym (told_there (is_emitted p.marks i) (is_empty (backward_with r p (suc i) d a) && is_empty (backward_with r p j d b)) line (backward_with r p (suc i) d a) (backward_with r p j d b));
      tells = ht ∙ ap not idle;
      works = hw ∙ (λ k. max (ha.works k) (hb.works k));
      temps = hz ∙ (λ k. max (ha.temps k) (hb.temps k));
      depth = hd ∙ (λ k. max (ha.depth k) (hb.depth k));
      number = hn ∙ hb.number;
    }
