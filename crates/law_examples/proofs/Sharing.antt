-- The program that passes members in another order is run beside the one with blocks.
use Rattle.std.proofs.Common.{◌≡◌, [], ◌∷◌, refl, subst}
use Rattle.std.specs.Prelude.{pos, None}
use Rattle.std.specs.Int.{int_wrap}
use Rattle.def_meaning.specs.Numbers.{words}
use Rattle.def_common.specs.Slots.{run_with_blocks}
use Rattle.law_examples.specs.Programs.{held_after}
use Rattle.law_examples.specs.Sharing.{calling_reader, sharing, MembersInOrder, before, TurnedIsRefused}
use Rattle.law_examples.proofs.Trials.{differ_words}

pub in_order : MembersInOrder
in_order = refl

pub turned_fails : TurnedIsRefused
unfolding int_wrap
turned_fails e =
    let h : ((pos 5 ∷ []) ∷ (pos 5 ∷ []) ∷ (pos 7 ∷ []) ∷ []) ≡ ((pos 7 ∷ []) ∷ (pos 5 ∷ []) ∷ (pos 7 ∷ []) ∷ []) =
    subst (λ o. held_after (run_with_blocks words sharing calling_reader before [] None 9) ≡ held_after o) e refl
    in
    let k : pos 5 ≡ pos 7 = cc in differ_words 5 7 refl k
