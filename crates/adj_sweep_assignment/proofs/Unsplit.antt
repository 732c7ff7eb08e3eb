-- A split call is adjointed.
use Rattle.std.proofs.Common.{◌≡◌, ℕ, ◌*◌, true, false, ap, ◌∙◌, Bool, refl}
use Rattle.std.specs.Prelude.{◌&&◌}
use Rattle.adj_reach.specs.Edges.{flag}
use Rattle.adj_sweep_assignment.specs.declared.marking.Marking as marking
use Rattle.adj_sweep_assignment.specs.declared.marking.Marking.TheVariants as from
use Rattle.adj_sweep_assignment.specs.View.{marks_of}

and_false : (b : Bool) → (b && false) ≡ false
and_false true = refl
and_false false = refl

-- so one that isn't adjointed isn't split
pub never_split : (m : marking.Marking) (i : ℕ) → (marks_of m).adjointed i ≡ false → (marks_of m).split i ≡ false
never_split from.Full i e = refl
never_split (from.Found f) i e = ap (λ b. flag f.split.now i && b) e ∙ and_false (flag f.split.now i)
never_split (from.Pair f) i e = ap (λ b. flag f.split.now i && b) e ∙ and_false (flag f.split.now i)
never_split (from.Carried c) i e = refl
never_split from.Bare i e = refl
