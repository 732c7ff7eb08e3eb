-- Units without marked loops.
use Rattle.std.proofs.Common.{◌≡◌, true, List, [], ◌∷◌, sym, ap}
use Rattle.std.specs.Prelude.{◌==◌}
use Rattle.std.proofs.lemmas.Bool.{eqb-true}
use Rattle.adj_tree.specs.Code.{Procedure}
use Rattle.def_meaning.proofs.Booleans.{and_true}
use Rattle.def_kernel.specs.Kernel.{EachUnit, lowered_program}
use Rattle.def_kernel.specs.Stepped.{marked_in, kernel_of}
use Rattle.law_kernel.proofs.Unmarked.{stepped_same}
use Rattle.adj_norm.specs.Programs.{are_unmarked}

each_unmarked : (us : List Procedure) → are_unmarked us ≡ true → EachUnit (λ u. marked_in u.body ≡ 0) us
each_unmarked [] h = tt
each_unmarked (u ∷ us) h =
    let both = and_true (marked_in u.body == 0) (are_unmarked us) h in
    (eqb-true (marked_in u.body) 0 both.0, each_unmarked us both.1)

-- they are their own step, so the kernel is what they are lowered to
pub unmarked_kernel : (us : List Procedure) → are_unmarked us ≡ true → lowered_program us ≡ kernel_of us
unmarked_kernel us h = ap lowered_program (sym (stepped_same us (each_unmarked us h)))
