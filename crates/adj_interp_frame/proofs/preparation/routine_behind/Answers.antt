use Rattle.std.proofs.Common.{◌≡◌, ◌<◌, ℕ, true, map, length, get_or, refl, ap, sym, subst, ◌∙◌, arith}
use Rattle.adj_tree.specs.View.{declaration_of}
use Rattle.adj_interp_frame.specs.Instructed.{steps_in, AreStepsBelow}
use Rattle.adj_interp_frame.specs.Numbered.{Extends}
use Rattle.adj_interp_frame.specs.Declaring.{Declares}
use Rattle.adj_interp_frame.specs.declared.layout.Layout.{Layout}
use Rattle.adj_interp_frame.specs.declared.layout.Layout.TheVariants as layout
use Rattle.adj_interp_frame.proofs.Resolving.{extends_self, extends_on}
use Rattle.adj_interp_frame.proofs.Declarations.{laid_out}
use Rattle.adj_interp_frame.proofs.Failing.{err_is}
use Rattle.adj_interp_frame.proofs.preparation.routine_behind.Goals as goal

pub returns-clause-routine : goal.returns-clause-routine
returns-clause-routine c =
    let ms = c.steps.new.self in
    let same = c.in_ok-names.ensures.names in
    let first = c.requires.dummies in
    let e1 = c.in_ok-layouts.ensures.extends in
    let e2 = c.in_ok-body.ensures.extends in
    let d = subst (λ ds. Declares (map declaration_of ds) c.layouts.new.names c.in_ok-layouts.layouts.items) c.as_slice.ensures.members c.in_ok-layouts.ensures.declares in
    let k = c.in_ok-body.ensures.resolves in
    let longer = c.in_ok-names.ensures.longer in
    let few = d.few in
    let more = e2.longer in
    let most = c.in_ok-names.ensures.few (length ms) (omega arith) (omega (arith, few, more)) in
    let named = ap length same in
    record {
      laid = laid_out (record { unit = c.args.unit; names = c.in_ok-names.names; layouts = c.listed.new.layouts; is_plain = c.are_scalars-is_plain.result; writes = c.args.writes; body = c.in_ok-body.body }) c.layouts.new.names c.in_ok-layouts.layouts.items c.in_ok-names.ensures.apart
          (subst (λ ns. Extends c.args.unit.now.dummies ns) (sym same) (subst (λ ns. Extends ns ms) first (extends_on _ _ _ e1 e2)))
          (subst (λ ns. Extends c.layouts.new.names ns) (sym same) e2)
          d c.in_ok-names.ensures.same (omega (arith, named, longer, most))
          (subst (λ ls. c.are_scalars-is_plain.result ≡ true → (i : ℕ) (l : Layout) → i < length ls → get_or ls i l ≡ layout.Scalar) c.as_slice-2.ensures.value c.are_scalars-is_plain.ensures);
      body = ap (λ ns. steps_in ns c.in_ok-body.body) same ∙ k.stands_for ms (extends_self ms);
      below = subst (λ ns. AreStepsBelow (length ns) c.in_ok-body.body) (sym same) (k.below ms (extends_self ms));
      linked = c.in_ok-body.ensures.linked;
      suited = c.requires.suited;
      writes = c.requires.writes;
    }

pub returns-in_err-layouts : goal.returns-in_err-layouts
returns-in_err-layouts c = rw (err_is c.from_residual.result c.in_err-layouts.field-0.0 c.from_residual.ensures.1) (record { units = refl; directory = tt; unit = tt; routine = tt })

pub returns-in_err-body : goal.returns-in_err-body
returns-in_err-body c = rw (err_is c.from_residual-in_err-body.result c.in_err-body.field-0.0 c.from_residual-in_err-body.ensures.1) (record { units = c.in_err-body.ensures.units; directory = tt; unit = tt; routine = tt })

pub returns-in_err-names : goal.returns-in_err-names
returns-in_err-names c = rw (err_is c.from_residual-in_err-names.result c.in_err-names.field-0.0 c.from_residual-in_err-names.ensures.1) (record { units = c.in_ok-body.ensures.units; directory = tt; unit = tt; routine = tt })
