use Rattle.std.proofs.Common.{◌/◌, ◌%◌, ap, sym, ◌∙◌, get_or, false}
use Rattle.std.specs.Prelude.{◌==◌}
use Rattle.std.specs.Int.{bit_at}
use Rattle.adj_tree.proofs.BitWords.{values_at}
use Rattle.adj_tree.proofs.bits.BitFlags.at.Goals as goal

pub returns : goal.returns
returns c =
    let n = c.args.n in
    c.has_bit.ensures ∙ ap (λ w. bit_at w (n % 64) == 1) (c.word_at.ensures ∙ ap (λ ws. get_or ws (n / 64) 0) c.as_slice.ensures.value)
    ∙ sym (values_at c.self.inside.words.items n) ∙ ap (λ z. get_or z n false) c.self.view_is
