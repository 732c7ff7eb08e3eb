use Rattle.std.proofs.Common.{◌≡◌, ℕ, ◌+◌, ◌-◌, ◌*◌, ◌<◌, ◌≤◌, ◌⊎◌, inl, inr, Bool, List, sym, ap, ◌∙◌, subst, arith}
use Rattle.std.specs.Prelude.{◌==◌}
use Rattle.std.proofs.lemmas.Bool.{cases_lt}
use Rattle.adj_reach.specs.Edges.{flag}
use Rattle.adj_tree.specs.Bits.{bit}
use Rattle.adj_reach_rows.specs.Searches.{place_of}
use Rattle.adj_reach_rows.proofs.Columns.{node_place}
use Rattle.adj_reach_rows.proofs.flags.flags.Goals as goal

-- the flags of one row more
flags_more : (width words row : ℕ) (bits : List ℕ) (old new : List Bool) → 0 < width → width < 64 * words → ((x : ℕ) → x < row * width → flag old x ≡ (bit bits (place_of width words x) == 1)) → ((x : ℕ) → x < row * width → flag new x ≡ flag old x) →
    ((j : ℕ) → j < width → flag new (row * width + j) ≡ (bit bits (row * words * 64 + j) == 1)) → (x : ℕ) → x < (row + 1) * width → flag new x ≡ (bit bits (place_of width words x) == 1)
flags_more width words row bits old new some wide before same more x l = go (cases_lt x (row * width))
  where
    go : (x < row * width) ⊎ (row * width ≤ x) → flag new x ≡ (bit bits (place_of width words x) == 1)
    go (inl k) = same x k ∙ before x k
    go (inr k) =
        let m : x - row * width < width = omega (arith, k, l) in
        let q : x ≡ row * width + (x - row * width) = omega (arith, k) in
        ap (flag new) q ∙ more (x - row * width) m ∙ ap (λ n. bit bits n == 1) (sym (ap (place_of width words) q ∙ node_place width words some wide row (x - row * width) m))

pub loop-row-preserved : goal.loop-row-preserved
loop-row-preserved c =
    let i = c.loop-row.invariant in
    let e = c.set_row.ensures in
    record {
      count = subst (λ n. c.args.rows * c.args.width ≤ n) (sym e.count) i.count;
      flags = flags_more c.args.width c.args.words c.loop-row.row c.args.bits.now c.loop-row.flags c.set_row.new.flags c.requires.some c.requires.wide i.flags e.before e.row;
      behind = λ x l. e.behind x (omega (arith, l));
    }
