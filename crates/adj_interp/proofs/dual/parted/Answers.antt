use Rattle.std.proofs.Common.{◌≡◌, ◌≤◌, map, take, length, ◌∙◌, arith}
use Rattle.std.specs.Prelude.{ℤ}
use Rattle.std.specs.List.{zip}
use Rattle.std.proofs.lemmas.List.{take_all}
use Rattle.adj_interp.proofs.Worded.{zip_parts}
use Rattle.adj_interp.proofs.dual.parted.Goals as goal

pub returns-clause-same : goal.returns-clause-same
returns-clause-same c =
    let items = c.as_slice-cell-items.result.now in
    let n = c.loop-cell.cell-index in
    let test = c.loop-cell-test.false in
    let l : length items ≤ n = omega (arith, test) in
    let w : c.new.result ≡ map (λ (p : ℤ × ℤ). p.0) (take n items) = c.new.ensures.members ∙ c.loop-cell.invariant.words in
    let t : c.new-2.result ≡ map (λ (p : ℤ × ℤ). p.1) (take n items) = c.new-2.ensures.members ∙ c.loop-cell.invariant.tangents in
    let cells : zip c.new.result c.new-2.result ≡ c.args.slot.now.cells.items = (λ i. zip (w i) (t i)) ∙ zip_parts (take n items) ∙ take_all n items l ∙ c.as_slice-cell-items.ensures.value in
    λ i. record { shape = record { rows = c.args.slot.now.rows; cols = c.args.slot.now.cols }; cells = cells i }
