-- What the flags tell is live.
use Rattle.std.proofs.Common.{◌≡◌, ◌↔◌, ℕ, ◌+◌, ◌-◌, ◌*◌, List, Bool, map, length, sym, subst, ◌∙◌, arith}
use Rattle.std.specs.Prelude.{IsTrue}
use Rattle.std.proofs.lemmas.List.{length-map}
use Rattle.adj_tree.specs.View.{procedure_of}
use Rattle.adj_reach.specs.Edges.{ReachedFrom, flag}
use Rattle.adj_flow.specs.declared.row.Part.{Part}
use Rattle.adj_flow.specs.Rows.{row_of}
use Rattle.adj_flow.specs.Asked.{units_of, variables_of, problem_of}
use Rattle.adj_flow.specs.Scoped.{scope_by}
use Rattle.adj_flow.specs.Told.{told}
use Rattle.adj_flow.proofs.UnitNumbers.{flow_numbered}
use Rattle.adj_live.specs.Listed.{all_nodes, all_edges}
use Rattle.adj_live.proofs.Answering.{seen_by, told_live}
use Rattle.adj_live.proofs.finding.live.Goals as goal

pub facts-requires-clause-flow : goal.facts-requires-clause-flow
facts-requires-clause-flow c = flow_numbered c.args.flow.now c.args.head.now.unit c.requires.flow

pub returns : goal.returns
returns c =
    let fl = c.args.flow.now in
    let is = c.requires.flow in
    let w = fl.width in
    let rs = map row_of fl.parts.items in
    let reads = map (λ b. b.now) c.args.sides.read.now in
    let writes = map (λ b. b.now) c.args.sides.written.now in
    let b = c.args.activity.now in
    let facts = c.in_ok-facts.facts in
    let kepts = c.in_ok-kept.kept in
    let entries = c.in_ok-entry.entry in
    let lengths : length (variables_of c.args.flow.now) ≡ length (units_of c.args.flow.now) = length-map c.args.flow.now.parts.items (λ p. p.variables.now) ∙ sym (length-map c.args.flow.now.parts.items (λ p. procedure_of p.unit.now)) in
    let given = subst (λ (z : List Part). (m : ℕ) → IsTrue (flag facts m) ↔ ReachedFrom (all_edges (seen_by fl.numbers w reads writes b (flag c.as_slice-2.result.now) (map row_of z)) rs fl.taking) (all_nodes (seen_by fl.numbers w reads writes b (flag c.as_slice-2.result.now) (map row_of z)) rs fl.taking) m) c.as_slice.ensures.value c.in_ok-facts.ensures.facts in
    let exact = subst (λ (z : List Bool). (m : ℕ) → IsTrue (flag facts m) ↔ ReachedFrom (all_edges (seen_by fl.numbers w reads writes b (flag z) (map row_of fl.parts.items)) rs fl.taking) (all_nodes (seen_by fl.numbers w reads writes b (flag z) (map row_of fl.parts.items)) rs fl.taking) m) c.as_slice-2.ensures.members given in
    let s : c.stride-stride.result ≡ c.args.flow.now.width + 2 = c.stride-stride.ensures.stride in
    let last : c.stride-stride.result - 1 ≡ c.args.flow.now.width + 1 = omega (arith, s) in
    let kept_by = λ (n : ℕ). c.in_ok-kept.ensures.picked n ∙ (λ i. flag facts (n * s i + w)) in
    let entry_by = λ (n : ℕ). c.in_ok-entry.ensures.picked n ∙ (λ i. flag facts (n * s i + last i)) in
    record {
      live = record {
        needed = told facts (scope_by (variables_of fl) (flag fl.taking) (units_of fl)) (w + 2);
        live = told_live (problem_of fl c.args.head.now) (variables_of fl) fl.numbers fl.taking w is.numbers is.taking lengths is.width is.variables rs is.rows reads writes c.requires.read c.requires.written b facts kepts entries exact kept_by entry_by;
      };
    }
