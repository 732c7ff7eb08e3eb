use Rattle.std.proofs.Common.{◌≡◌, ◌∙◌, ◌<◌, false, map, ap, arith, add-one}
use Rattle.adj_tree.specs.View.{declaration_of, code_of}
use Rattle.def_kernel.specs.Stepped.{step_name, step_declarations, cut}
use Rattle.adj_norm.proofs.Cuts.{known_name}
use Rattle.adj_norm.proofs.steps.step_unit.Goals as goal

pub returns : goal.returns
returns c =
    let number = c.args.number in
    let line = c.args.line in
    let body = code_of c.args.body.now in
    let within : number < _ = omega (arith, c.requires.enough) in
    record {
      unit = λ taken u k.
          let name : c.in_ok-name.name ≡ step_name taken u.name number = c.in_ok-name.ensures.same ∙ c.index-names-number.is ∙ known_name c.args.source taken u number _ k within in
          let dummies = c.in_ok-dummies.ensures.dummies taken u k in
          let decls = c.in_ok-decls.ensures.declarations u.declarations k.declared ∙ ap (step_declarations u.declarations line) (c.as_slice.ensures.value ∙ dummies) in
          λ i.
          record {
            line = line;
            name = name i;
            dummies = (c.new.ensures.members ∙ dummies) i;
            is_none = false;
            declarations = (ap (map declaration_of) c.new-2.ensures.members ∙ decls) i;
            body = (c.in_ok-made.ensures.code taken u k ∙ ap (λ n. cut taken u n body) (add-one number)) i;
          };
    }
