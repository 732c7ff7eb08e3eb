use Rattle.std.proofs.Common.{◌≡◌, ◌∙◌, ◌++◌, length, ap, sym, arith}
use Rattle.adj_tree.specs.View.{procedure_of}
use Rattle.def_meaning.specs.Apart.{has_name}
use Rattle.def_kernel.specs.Stepped.{step_names}
use Rattle.adj_norm.proofs.Cuts.{length-step_names}
use Rattle.adj_norm.proofs.Programs.{alike_behind, step_names_alike, variables_added}
use Rattle.adj_norm.proofs.program.add_stepped.Goals as goal

pub add_made-requires : goal.add_made-requires
add_made-requires c =
    let old = c.args.taken.now in
    let base = c.args.unit.now.name in
    let many : length c.as_slice.result.now ≡ c.in_ok-count.count = ap length (c.as_slice.ensures.value ∙ c.in_ok-names.ensures.names) ∙ length-step_names old base c.in_ok-count.count in
    record { enough = omega (arith, many, c.in_ok-count.ensures.count) }

pub returns : goal.returns
returns c =
    let old = c.args.taken.now in
    let u = procedure_of c.args.unit.now in
    let count = c.in_ok-count.count in
    let given = c.as_slice.ensures.value ∙ c.in_ok-names.ensures.names in
    let many : length c.as_slice.result.now ≡ count = ap length given ∙ length-step_names old u.name count in
    record {
      units = λ names h.
          let same = step_names_alike old names u.name h count in
          c.in_ok-add_made.ensures.units names (record { variables = c.in_ok-variables.ensures.names ∙ variables_added u; declared = c.in_ok-declared.ensures.same; names = given ∙ same ∙ ap (step_names names u.name) (sym many) });
      taken = λ names h x.
          ap (has_name x) (c.in_ok-names.ensures.taken ∙ ap (λ z. old ++ z) c.in_ok-names.ensures.names)
          ∙ alike_behind old names _ _ h (step_names_alike old names u.name h count ∙ ap (step_names names u.name) c.in_ok-count.ensures.count) x;
    }
