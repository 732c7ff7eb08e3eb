use Rattle.std.proofs.Common.{◌≡◌, ℕ, ◌⊎◌, inl, inr, ◌∙◌, sym, ap}
use Rattle.adj_tree.specs.Code.{helper, none, assign, stop, Var, Code}
use Rattle.adj_tree.specs.View.{mark_of, code_of}
use Rattle.adj_tree.specs.declared.stmt.Mark.{Mark}
use Rattle.adj_tree.specs.declared.stmt.Mark.TheVariants.{Plain, Count}
use Rattle.def_meaning.specs.Append.{◌+++◌}
use Rattle.def_meaning.specs.Rename.{rename}
use Rattle.def_meaning.proofs.Appends.{append-stop}
use Rattle.def_sweep.specs.ReversalCode.{set_slots}
use Rattle.adj_naming.specs.Roles.{role_of}
use Rattle.adj_sweep.specs.Plans.{naming_in}
use Rattle.adj_sweep.specs.Swept.{in_order}
use Rattle.adj_sweep.proofs.Turned.{put_behind}
use Rattle.adj_sweep.proofs.plan.Plan.set_slots.Goals as goal

pub returns-in_ok-code-in-From : goal.returns-in_ok-code-in-From
returns-in_ok-code-in-From c =
    let r = naming_in c.args.self.now in
    let at = c.args.at in
    let old = code_of c.args.turned in
    let own = c.of_depth-own.ensures in
    record {
      set = put_behind old (code_of c.in_ok-code-in-From.code) at.line _ _ c.in_ok-code-in-From.ensures.step (λ i. assign (r (helper (role_of (own.role i)) (own.number i))) none (c.in_ok-value-in-From.ensures.slots i))
          ∙ ap (λ m. in_order old +++ rename r (set_slots at.line at.depth (mark_of m) stop)) (sym c.in-From.is);
    }

-- nothing is written where no variable gives the number
none_set : (r : Var → Var) (line d : ℕ) (old : Code) (m : Mark) → (m ≡ Plain) ⊎ ((n : ℕ) × (m ≡ Count n)) → old ≡ old +++ rename r (set_slots line d (mark_of m) stop)
none_set r line d old m (inl e) = sym (append-stop old) ∙ ap (λ z. old +++ rename r (set_slots line d (mark_of z) stop)) (sym e)
none_set r line d old m (inr e) = sym (append-stop old) ∙ ap (λ z. old +++ rename r (set_slots line d (mark_of z) stop)) (sym e.1)

pub returns-in-Plain : goal.returns-in-Plain
returns-in-Plain c = record { set = none_set (naming_in c.args.self.now) c.args.at.line c.args.at.depth (in_order (code_of c.args.turned)) c.args.mark.now c.in-Plain.is }
