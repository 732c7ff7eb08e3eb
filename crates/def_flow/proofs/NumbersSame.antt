-- Tests of numbers that are the same.
use Rattle.std.proofs.Common.{refl}
use borrow.Author.Tests.{eq-eqb, eqb-true}
use Rattle.def_flow.specs.Scopes.{same_number}
use Rattle.def_flow.proofs.Closure.{IsSame}

pub numbers_same : IsSame same_number
numbers_same = record { same_is = λ m n h. eqb-true m n h; is_same = λ n. eq-eqb n n refl }
