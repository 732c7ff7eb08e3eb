-- The worked patterns are as they were worked out by hand.
use Rattle.std.proofs.Common.{refl, arith}
use Rattle.std.specs.Int.{int_wrap}
use Rattle.law_jacobian.specs.Examples.{NeighboursPattern, SquaresPattern, ChosenColumns, OneGroupRefused}

pub neighbours_pattern : NeighboursPattern
unfolding int_wrap
neighbours_pattern = (refl, refl)

pub squares_pattern : SquaresPattern
unfolding int_wrap
squares_pattern = (refl, refl)

pub chosen_columns : ChosenColumns
unfolding int_wrap
chosen_columns = (refl, refl, refl)

pub one_group_refused : OneGroupRefused
one_group_refused = (λ l. l.free 0 2 refl (record { column = 0; before = omega arith; is_in = refl; shares = refl }), refl)
