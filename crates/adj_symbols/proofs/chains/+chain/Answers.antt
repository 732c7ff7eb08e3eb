use Rattle.std.proofs.Common.{◌≡◌, ◌+◌, ap, sym, ◌∙◌, map, max, min, rules, arith}
use Rattle.std.specs.Prelude.{◌&&◌, nat_le}
use Rattle.std.specs.List.{flat_map}
use Rattle.adj_tree.specs.Size.{act_nodes, code_nodes}
use Rattle.adj_tree.specs.View.{act_of, code_of, procedure_of}
use Rattle.def_names.specs.Statements.{inner, statements}
use Rattle.def_names.specs.Calls.{act_chain, chain}
use Rattle.def_names.specs.ChainFaults.{begins_chain}
use Rattle.def_names.specs.Fault.{passed, faults_if, first_of, sooner}
use Rattle.adj_symbols.specs.Chain.{length_of, faults_of_chain}
use Rattle.adj_symbols.proofs.Lengths.{lists_then, inner_first, long_capped, max_more}
use Rattle.adj_symbols.proofs.chains.+chain.Goals as goal

pub add_inner-returns-in-If-clause-faults : goal.add_inner-returns-in-If-clause-faults
add_inner-returns-in-If-clause-faults t c =
    let f = faults_of_chain c.args.limit (length_of (map procedure_of c.args.scope.now) c.args.lengths.now) in
    lists_then f (statements (code_of c.in-If.then)) (statements (code_of c.in-If.other)) c.args.first.now c.add_list-one.new.first c.add_list-two.new.first c.add_list-one.ensures.faults c.add_list-two.ensures.faults
    ∙ ap (λ a. sooner c.args.first.now (first_of (flat_map f (inner (act_of a))))) (sym c.in-If.is)

pub add_list-loop-rest-preserved : goal.add_list-loop-rest-preserved
add_list-loop-rest-preserved t c =
    let g = length_of (map procedure_of c.args.scope.now) c.args.lengths.now in
    let L = c.args.limit in
    let f = faults_of_chain L g in
    let s = c.in-More.row.value.first in
    let a = act_of s.act in
    let n = c.add_inner-length.result in
    let next = code_of c.in-More.row.value.rest in
    let f0 = c.loop-rest.first in
    let f1 = c.add_inner-length.new.first in
    let f2 = c.add_passed_if.new.self in
    let length : n ≡ min L (act_chain g a) = c.add_inner-length.ensures.length ∙ ap (λ z. min L (act_chain g (act_of z.first.act))) c.deref.ensures in
    let inside : f1 ≡ sooner f0 (first_of (flat_map f (inner a))) = c.add_inner-length.ensures.faults ∙ ap (λ z. sooner f0 (first_of (flat_map f (inner (act_of z.first.act))))) c.deref.ensures in
    let own : f2 ≡ sooner f1 (first_of (f (s.line, a))) =
    c.add_passed_if.ensures.added
    ∙ (λ i. sooner f1 (first_of (faults_if (c.is_too_long.ensures i) (passed L (c.deref-in-More-2.ensures i).first.line))))
    ∙ (λ i. sooner f1 (first_of (faults_if (begins_chain (act_of (c.deref-in-More.ensures i).first.act) && nat_le L n) (passed L s.line))))
    ∙ ap (λ rs. sooner f1 (first_of rs)) (long_capped L (act_chain g a) n s.line (begins_chain a) length) in
    let most : c.max-most.result ≡ max c.loop-rest.most n = search rules in
    record {
      no_more =
          let left : code_nodes (code_of c.deref-in-More-3.result.now.rest) ≡ code_nodes next = ap (λ z. code_nodes (code_of z.rest)) c.deref-in-More-3.ensures in
          let was : code_nodes (code_of c.loop-rest.rest.now) ≡ act_nodes a + code_nodes next = ap (λ z. code_nodes (code_of z)) c.in-More.is in
          omega (arith, c.loop-rest.invariant.no_more);
      length =
          ap (λ z. max c.max-most.result (min L (chain g (code_of z.rest)))) c.deref-in-More-3.ensures
          ∙ max_more L c.loop-rest.most n (act_chain g a) (chain g next) c.max-most.result most length
          ∙ ap (λ z. max c.loop-rest.most (min L (chain g (code_of z)))) (sym c.in-More.is)
          ∙ c.loop-rest.invariant.length;
      faults =
          ap (λ z. sooner f2 (first_of (flat_map f (statements (code_of z.rest))))) c.deref-in-More-3.ensures
          ∙ inner_first f (s.line, a) (inner a) (statements next) f0 f1 f2 inside own
          ∙ ap (λ z. sooner f0 (first_of (flat_map f (statements (code_of z))))) (sym c.in-More.is)
          ∙ c.loop-rest.invariant.faults;
    }
