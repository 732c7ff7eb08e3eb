use Rattle.std.proofs.Common.{◌+◌, ◌*◌, ◌/◌, ◌%◌, ◌^◌, ◌<◌, length, set, bit_or, ap, ◌∙◌, arith}
use Rattle.std.proofs.lemmas.Nat.{mul-add-lt}
use Rattle.std.proofs.lemmas.List.{get_or_read}
use Rattle.adj_tree.specs.Bits.{bit}
use Rattle.adj_reach_rows.proofs.Words.{bit_put_in}
use Rattle.adj_reach_rows.proofs.bits.Rows.set.Goals as goal

pub returns-clause-bits : goal.returns-clause-bits
returns-clause-bits c =
    let r = c.args.self.now in
    let first = c.args.row * r.words in
    let k = c.args.column in
    let below : c.args.column / 64 < c.args.self.now.words = omega (arith, c.requires.column) in
    let l : c.args.row * c.args.self.now.words + c.args.column / 64 < length c.args.self.now.bits.items = omega (arith, mul-add-lt c.args.row r.words (c.args.column / 64) r.count c.requires.row below, r.full, r.bits.ok.0) in
    λ n. ap (λ z. bit (set r.bits.items (first + k / 64) (bit_or z (1 * 2 ^ (k % 64) % 2 ^ 64))) n) (get_or_read r.bits.items (first + k / 64) c.index_mut.result.now l c.index_mut.ensures.value 0)
    ∙ bit_put_in r.bits.items first k n l
