use Rattle.std.proofs.Common.{◌≡◌, ◌<◌, [], true, false, length, map, get_or, ap, sym, ◌∙◌, arith}
use Rattle.std.specs.Prelude.{slice_index_or}
use Rattle.std.proofs.lemmas.List.{length-map}
use Rattle.adj_tree.specs.Code.{plain}
use Rattle.adj_tree.specs.View.{procedure_of}
use Rattle.adj_reach.specs.Edges.{flag}
use Rattle.adj_flow.specs.Asked.{units_of, variables_of}
use Rattle.adj_flow.specs.Nodes.{node_in}
use Rattle.adj_flow.specs.Told.{flag_at}
use Rattle.adj_weave_units.proofs.Places.{At}
use Rattle.adj_weave_units.proofs.Flagged.{told_untaken, told_taken, unit_variables}
use Rattle.adj_weave.proofs.marks.FoundMarks.told.Goals as goal

pub returns-then-not-flag_at : goal.returns-then-not-flag_at
returns-then-not-flag_at c =
    let f = c.args.self.now.flow.now in
    let not_taken : flag f.taking c.args.unit ≡ false = ap (λ xs. flag xs c.args.unit) (sym c.as_slice.ensures.members) ∙ sym c.flag_at.ensures ∙ c.if-not-flag_at.true in
    record { told = sym (told_untaken (flag f.taking) (variables_of f) c.args.flags.now f.width (units_of f) c.args.unit (plain c.args.name.now) not_taken) }

pub returns : goal.returns
returns c =
    let f = c.args.self.now.flow.now in
    let k = c.args.unit in
    let x = plain c.args.name.now in
    let taken : flag f.taking k ≡ true = ap (λ xs. flag xs k) (sym c.as_slice.ensures.members) ∙ sym c.flag_at.ensures ∙ c.if-not-flag_at.false in
    let within : k < length (units_of f) = let l = c.requires.unit in let m = length-map f.parts.items (λ p. procedure_of p.unit.now) in omega arith in
    let p = c.index-parts-unit.result in
    let at : At f.parts.items k p = record { within = c.requires.unit; is = c.index-parts-unit.is ∙ ap (λ ps. get_or ps k p) c.as_slice-parts.ensures.value } in
    let own : slice_index_or (variables_of f) k [] ≡ p.variables.now = unit_variables f k p at in
    record {
      told = c.told-flag.ensures.told
          ∙ ap (λ vs. flag_at c.args.flags.now (node_in f.width (map plain vs) (k, x))) (sym own)
          ∙ sym (told_taken (flag f.taking) (variables_of f) c.args.flags.now f.width (units_of f) k x taken within);
    }
