-- A full line is taken off what is left; the last line ends the statement.
use Rattle.std.proofs.Common.{◌∙◌, ◌++◌, ◌∷◌, [], ap, append_assoc, arith, codes}
use Rattle.def_text.specs.Text.{laid}
use Rattle.adj_print.proofs.Laying.{full_line, last_line}
use Rattle.adj_print.proofs.layout.push_statement.Goals as goal

pub loop-rest-init : goal.loop-rest-init
loop-rest-init c = ap (λ xs. xs ++ laid 0 c.args.chars.now) c.in_ok-extend_from_slice.ensures.items ∙ append_assoc c.args.out.now.items (codes "      ") (laid 0 c.args.chars.now)

pub loop-rest-smaller : goal.loop-rest-smaller
loop-rest-smaller c = omega (arith, c.split_at.ensures.back_len)

pub loop-rest-preserved : goal.loop-rest-preserved
loop-rest-preserved c =
    let l = c.loop-rest in
    let line = c.in_ok-extend_from_slice-2.ensures.items ∙ ap (λ xs. l.out.items ++ xs) c.split_at.ensures.front in
    let added = c.in_ok-extend_from_slice-3.ensures.items ∙ ap (λ xs. xs ++ codes "\n     +") line in
    (λ i. added i ++ laid 0 (c.split_at.ensures.back i)) ∙ full_line l.out.items l.rest.now c.loop-rest-test.true ∙ l.invariant

pub returns : goal.returns
returns c =
    let l = c.loop-rest in
    record { lines = c.in_ok-push.ensures.items ∙ ap (λ xs. xs ++ 10 ∷ []) c.in_ok-extend_from_slice-4.ensures.items ∙ last_line l.out.items l.rest.now (omega (arith, c.loop-rest-test.false)) ∙ l.invariant }
