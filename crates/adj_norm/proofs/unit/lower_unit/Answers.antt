use Rattle.std.proofs.Common.{◌≡◌, ◌∙◌, ◌++◌, map, ap}
use Rattle.adj_tree.specs.View.{declaration_of, procedure_of, code_of}
use Rattle.def_meaning.specs.Written.{handed_back}
use Rattle.def_kernel.specs.Kernel.{scalar_at, local_names, taken_in, local_in}
use Rattle.def_kernel.specs.Lowered.{lowered, locals_of}
use Rattle.adj_norm_statement.specs.Locals.{local_by}
use Rattle.adj_norm.proofs.Units.{taken_alike, locals_alike}
use Rattle.adj_norm.proofs.unit.lower_unit.Goals as goal

pub returns : goal.returns
returns c =
    let u = procedure_of c.args.unit.now in
    let l = c.in_ok-lowered.ensures in
    let made = c.in_ok-locals.ensures.locals in
    let variables = c.as_slice.ensures.names ∙ c.in_ok-variables.ensures.names in
    record {
      unit = λ units h g.
          let taken = taken_alike units u c.args.shared.now c.as_slice.result.now h variables in
          let local : local_by c.in_ok-locals.locals ≡ local_in units u = made ∙ locals_alike _ (taken_in units u) taken in
          let code : code_of c.in_ok-lowered.lowered.code ≡ lowered (local_in units u) (handed_back units) u.body = l.code ∙ (λ i. lowered (local i) (g i) u.body) in
          let most : c.in_ok-lowered.lowered.most ≡ locals_of (local_in units u) (handed_back units) u.body = l.most ∙ (λ i. locals_of (local i) (g i) u.body) in
          let decls : map declaration_of c.declare_locals.new.made.items ≡ u.declarations ++ map (scalar_at u.line) (local_names (taken_in units u) (locals_of (local_in units u) (handed_back units) u.body)) =
          c.in_ok-declare_locals.ensures.declared (taken_in units u) (l.locals ∙ local) ∙ (λ i. (c.in_ok-decls.ensures.equal ∙ ap (map declaration_of) c.as_slice-2.ensures.members) i ++ map (scalar_at u.line) (local_names (taken_in units u) (most i))) in
          (λ i. record { line = u.line; name = c.in_ok-name.ensures.same i; dummies = (c.new-2.ensures.members ∙ c.in_ok-dummies.ensures.same ∙ c.as_slice-3.ensures.members) i; is_none = u.is_none; declarations = (ap (map declaration_of) c.new-3.ensures.members ∙ decls) i; body = code i });
    }
