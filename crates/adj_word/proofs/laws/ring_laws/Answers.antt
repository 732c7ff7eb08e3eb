-- Each clause is a law of the kit.
use Rattle.adj_word.proofs.Residues.{word-wrap, wrap_word, wrap-add_left, wrap-mul_left, wrap-negated, add_comm, add_assoc, add-zero_word, add-negated, sub_is, mul_comm, mul_assoc, mul-one_word, mul-add}
use Rattle.adj_word.proofs.Powers.{power-zero, power-suc}
use Rattle.adj_word.proofs.laws.ring_laws.Goals as goal

pub returns : goal.returns
returns c = record {
  residue = word-wrap;
  word = wrap_word;
  sum_residue = wrap-add_left;
  product_residue = wrap-mul_left;
  negation_residue = wrap-negated;
  sum_turned = add_comm;
  sum_grouped = add_assoc;
  sum_zero = add-zero_word;
  sum_negation = add-negated;
  difference = sub_is;
  product_turned = mul_comm;
  product_grouped = mul_assoc;
  product_one = mul-one_word;
  distributive = mul-add;
  power_none = power-zero;
  power_more = power-suc;
}
