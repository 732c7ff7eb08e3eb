-- Runs over blocks of columns, and over few columns, end as the pattern run.
use Rattle.std.proofs.Common.{◌≡◌, ℕ, List, sym, ap, subst, ◌∙◌}
use Rattle.std.specs.Prelude.{ℤ, ◌&&◌, Result, Ok, Err}
use Rattle.adj_tape.specs.Held.{Held}
use Rattle.def_meaning.specs.Scene.{Outcome, Done, Trapped, More, Full}
use Rattle.def_meaning.specs.Seen.{output_seen, ending_seen}
use Rattle.def_meaning.specs.Units.{Slot, Output}
use Rattle.def_jacobian.specs.Columns.{Columns, marked}
use Rattle.def_jacobian.specs.Laws.{in_part}
use Rattle.def_jacobian.specs.Patterns.{Place, held, columns_at}
use Rattle.law_jacobian.proofs.Runs.{held_seen, part_does}
use Rattle.adj_interp.specs.declared.log.Log.{Log}
use Rattle.adj_interp.specs.declared.stop.Stop.{Stop}
use Rattle.adj_interp.specs.declared.stop.Stop.TheVariants as stop
use Rattle.adj_interp.specs.Ended.{EndsWith}
use Rattle.adj_jacobian_block.specs.declared.block.Block.{Block}
use Rattle.adj_jacobian_block.specs.Blocks.{blocks, columns_of, marked_by, inside_block}
use Rattle.adj_jacobian_block.proofs.Seen.{blocks_do}
use Rattle.adj_jacobian_few.specs.declared.few.Few.{Few}
use Rattle.adj_jacobian_few.specs.Few.{few, Tells, FewTells}
use Rattle.adj_jacobian.specs.Lists.{list_in}
use Rattle.adj_jacobian.specs.Ends.{PartSo, FewSo}

-- ---- ends

same_done : {R : Type 0} (x y : R) (a b : ℕ) → Done x a ≡ Done y b → x ≡ y
same_done x y a b e = cc

module _ (k : ℕ) where
  -- what a cell holds at both ends
  part_told : (out : Output Block) (q : Output (ℤ × Columns)) → output_seen (marked_by k) out ≡ output_seen (in_part (inside_block k)) q →
      (a : Place) (c : ℕ) → columns_of k (held blocks out.slots a.dummy a.cell).columns c ≡ (columns_at q a c && inside_block k c)
  part_told out q e a c =
      ap (λ (z : ℤ × Columns). z.1 c)
      (held_seen (marked_by k) blocks marked (blocks_do k) out.slots a.dummy a.cell
      ∙ ap (λ (o : Output (ℤ × Columns)). held marked o.slots a.dummy a.cell) e
      ∙ sym (held_seen (in_part (inside_block k)) marked marked (part_does (inside_block k)) q.slots a.dummy a.cell))

  pub part_ends : {A : Type 0} (seen : A → List (Slot Block)) (o : Outcome (Output Block)) (q : Outcome (Output (ℤ × Columns))) (r : Result A Stop) (tape : Held Block) (log : Log) →
      ending_seen (marked_by k) o ≡ ending_seen (in_part (inside_block k)) q → EndsWith blocks seen o r tape log → PartSo k seen q r
  part_ends seen (Done out used) (Done res more) (Ok a) tape log e h =
      λ b c. ap (λ slots. columns_of k (held blocks slots b.dummy b.cell).columns c) h.0 ∙ part_told out res (same_done (output_seen (marked_by k) out) (output_seen (in_part (inside_block k)) res) used more e) b c
  part_ends seen (Done out used) (Done res more) (Err (stop.Trap t l)) tape log e h = absurd h
  part_ends seen (Done out used) (Done res more) (Err stop.Budget) tape log e h = absurd h
  part_ends seen (Done out used) (Done res more) (Err stop.TapeFull) tape log e h = absurd h
  part_ends seen (Trapped d line w) (Trapped t m v) (Err (stop.Trap c l)) tape log e h = let at = h.0 in let where_ = h.1 in (cc, cc)
  part_ends seen (Trapped d line w) (Trapped t m v) (Ok a) tape log e h = absurd h
  part_ends seen (Trapped d line w) (Trapped t m v) (Err stop.Budget) tape log e h = absurd h
  part_ends seen (Trapped d line w) (Trapped t m v) (Err stop.TapeFull) tape log e h = absurd h
  part_ends seen (More w) (More v) (Ok a) tape log e h = absurd h
  part_ends seen (More w) (More v) (Err (stop.Trap t l)) tape log e h = absurd h
  part_ends seen (More w) (More v) (Err stop.Budget) tape log e h = tt
  part_ends seen (More w) (More v) (Err stop.TapeFull) tape log e h = absurd h
  part_ends seen (Full w) (Full v) (Ok a) tape log e h = absurd h
  part_ends seen (Full w) (Full v) (Err (stop.Trap t l)) tape log e h = absurd h
  part_ends seen (Full w) (Full v) (Err stop.Budget) tape log e h = absurd h
  part_ends seen (Full w) (Full v) (Err stop.TapeFull) tape log e h = tt
  part_ends seen o q (Err stop.Memory) tape log e h = tt
  part_ends seen (Done out used) (Trapped t m v) r tape log e h = cc
  part_ends seen (Done out used) (More v) r tape log e h = cc
  part_ends seen (Done out used) (Full v) r tape log e h = cc
  part_ends seen (Trapped d line w) (Done res more) r tape log e h = cc
  part_ends seen (Trapped d line w) (More v) r tape log e h = cc
  part_ends seen (Trapped d line w) (Full v) r tape log e h = cc
  part_ends seen (More w) (Done res more) r tape log e h = cc
  part_ends seen (More w) (Trapped t m v) r tape log e h = cc
  part_ends seen (More w) (Full v) r tape log e h = cc
  part_ends seen (Full w) (Done res more) r tape log e h = cc
  part_ends seen (Full w) (Trapped t m v) r tape log e h = cc
  part_ends seen (Full w) (More v) r tape log e h = cc

-- a run over few columns
pub few_ends : {A : Type 0} (seen : A → List (Slot Few)) (o : Outcome (Output Few)) (q : Outcome (Output (ℤ × Columns))) (r : Result A Stop) (tape : Held Few) (log : Log) →
    FewTells o q → EndsWith few seen o r tape log → FewSo seen q r
few_ends seen (Done out used) (Done res more) (Ok a) tape log e h = λ b. subst (λ slots. Tells (list_in slots b) (columns_at res b)) (sym h.0) (e.1 b)
few_ends seen (Done out used) (Done res more) (Err (stop.Trap t l)) tape log e h = absurd h
few_ends seen (Done out used) (Done res more) (Err stop.Budget) tape log e h = absurd h
few_ends seen (Done out used) (Done res more) (Err stop.TapeFull) tape log e h = absurd h
few_ends seen (Trapped d line w) (Trapped t m v) (Err (stop.Trap c l)) tape log e h = (sym h.0 ∙ e.0, sym h.1 ∙ e.1)
few_ends seen (Trapped d line w) (Trapped t m v) (Ok a) tape log e h = absurd h
few_ends seen (Trapped d line w) (Trapped t m v) (Err stop.Budget) tape log e h = absurd h
few_ends seen (Trapped d line w) (Trapped t m v) (Err stop.TapeFull) tape log e h = absurd h
few_ends seen (More w) (More v) (Ok a) tape log e h = absurd h
few_ends seen (More w) (More v) (Err (stop.Trap t l)) tape log e h = absurd h
few_ends seen (More w) (More v) (Err stop.Budget) tape log e h = tt
few_ends seen (More w) (More v) (Err stop.TapeFull) tape log e h = absurd h
few_ends seen (Full w) (Full v) (Ok a) tape log e h = absurd h
few_ends seen (Full w) (Full v) (Err (stop.Trap t l)) tape log e h = absurd h
few_ends seen (Full w) (Full v) (Err stop.Budget) tape log e h = absurd h
few_ends seen (Full w) (Full v) (Err stop.TapeFull) tape log e h = tt
few_ends seen o q (Err stop.Memory) tape log e h = tt
few_ends seen (Done out used) (Trapped t m v) r tape log e h = absurd e
few_ends seen (Done out used) (More v) r tape log e h = absurd e
few_ends seen (Done out used) (Full v) r tape log e h = absurd e
few_ends seen (Trapped d line w) (Done res more) r tape log e h = absurd e
few_ends seen (Trapped d line w) (More v) r tape log e h = absurd e
few_ends seen (Trapped d line w) (Full v) r tape log e h = absurd e
few_ends seen (More w) (Done res more) r tape log e h = absurd e
few_ends seen (More w) (Trapped t m v) r tape log e h = absurd e
few_ends seen (More w) (Full v) r tape log e h = absurd e
few_ends seen (Full w) (Done res more) r tape log e h = absurd e
few_ends seen (Full w) (Trapped t m v) r tape log e h = absurd e
few_ends seen (Full w) (More v) r tape log e h = absurd e
