use Rattle.std.proofs.Common.{◌*◌, ap, sym, ◌∙◌, length, get_or, false, arith}
use Rattle.std.specs.Prelude.{◌==◌, ◌||◌}
use Rattle.std.proofs.lemmas.List.{with_items_is}
use Rattle.adj_tree.specs.Bits.{bit, values_in}
use Rattle.adj_tree.proofs.BitWords.{values_at, values_count}
use Rattle.adj_tree.proofs.bits.BitFlags.set.Goals as goal

pub set_bit-requires : goal.set_bit-requires
set_bit-requires c =
    let count = values_count c.self.inside.words.items in
    let same = ap length c.self.view_is in
    record { within = omega (arith, count, same, c.requires.within, ap length c.as_mut_slice.ensures.value) }

pub returns-clause-count : goal.returns-clause-count
returns-clause-count c =
    let size = c.set_bit.ensures.count ∙ ap length c.as_mut_slice.ensures.value in
    let is = with_items_is c.self.inside.words c.set_bit.new.words (size ∙ sym c.self.inside.words.ok.0) in
    ap (λ ws. length (values_in ws)) is ∙ values_count c.set_bit.new.words ∙ ap (λ n. 64 * n) size ∙ sym (values_count c.self.inside.words.items) ∙ ap length c.self.view_is

pub returns-clause-set : goal.returns-clause-set
returns-clause-set c =
    let size = c.set_bit.ensures.count ∙ ap length c.as_mut_slice.ensures.value in
    let is = with_items_is c.self.inside.words c.set_bit.new.words (size ∙ sym c.self.inside.words.ok.0) in
    λ x. ap (λ ws. get_or (values_in ws) x false) is ∙ values_at c.set_bit.new.words x ∙ c.set_bit.ensures.set x
    ∙ ap (λ b. (x == c.args.n) || b) (ap (λ ws. bit ws x == 1) c.as_mut_slice.ensures.value ∙ sym (values_at c.self.inside.words.items x) ∙ ap (λ z. get_or z x false) c.self.view_is)
