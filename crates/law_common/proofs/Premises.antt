-- The worked programs meet what is asked.
use Rattle.std.proofs.Common.{ℕ, ◌<◌, ◌^◌, List, [], ◌∷◌, refl, arith}
use Rattle.std.proofs.lemmas.List.Elements.{All-nil}
use Rattle.std.specs.Int.{int_wrap}
use Rattle.std.specs.Prelude.{pos, codes}
use Rattle.adj_tree.specs.Code.{fixed, Declaration}
use Rattle.def_text.specs.Written.{IsName, IsLiteral, IsWrittenExtent, IsWrittenDeclaration, IsWrittenCommon, IsWrittenShared}
use Rattle.law_common.specs.Lowers.{Each}
use Rattle.law_common.proofs.LoweredWritten.{all_of_each}
use Rattle.law_common.specs.Examples.{declare, common, first, second, between, shared, Q, summing, WorkedAccepted, WorkedArrays}

-- ---- they are written

small : (n : ℕ) → n < 4 → n < 2 ^ 63
small n h = omega arith

one : IsLiteral (pos 1)
one = small 1 (omega arith)

two : IsLiteral (pos 2)
two = small 2 (omega arith)

three : IsLiteral (pos 3)
three = small 3 (omega arith)

bare : (line : ℕ) (x : List ℕ) → IsName x → IsWrittenDeclaration (declare line x)
bare line x h = record { named = h; few_extents = omega arith; extents = All-nil IsWrittenExtent }

array : (line : ℕ) (x : List ℕ) → IsName x → IsWrittenDeclaration (record { line = line; name = x; extents = fixed (pos 3) ∷ [] })
array line x h = record { named = h; few_extents = omega arith; extents = all_of_each IsWrittenExtent (fixed (pos 3) ∷ []) (three, tt) }

-- COMMON /B/ with these items
block : (line : ℕ) (items : List Declaration) → Each IsWrittenDeclaration items → IsWrittenCommon (common line items)
block line items h = record { named = (refl, refl); items = all_of_each IsWrittenDeclaration items h }

first_written : IsWrittenShared first
first_written = record {
  unit = record {
    named = (refl, refl);
    dummies = all_of_each IsName first.unit.dummies ((refl, refl), ((refl, refl), tt));
    declarations = all_of_each IsWrittenDeclaration first.unit.declarations (bare 2 _ (refl, refl), (bare 2 _ (refl, refl), (bare 2 _ (refl, refl), tt)));
    body = (((refl, refl), ((refl, refl), (refl, refl))), (((refl, refl), ((refl, refl), tt), refl), tt));
  };
  commons = all_of_each IsWrittenCommon first.commons (block 3 (declare 3 (codes "K") ∷ []) (bare 3 _ (refl, refl), tt), tt);
}

second_written : IsWrittenShared second
second_written = record {
  unit = record {
    named = (refl, refl);
    dummies = all_of_each IsName second.unit.dummies ((refl, refl), tt);
    declarations = all_of_each IsWrittenDeclaration second.unit.declarations (bare 8 _ (refl, refl), (bare 8 _ (refl, refl), tt));
    body = (((refl, refl), ((refl, refl), three)), tt);
  };
  commons = all_of_each IsWrittenCommon second.commons (block 9 (declare 9 (codes "L") ∷ []) (bare 9 _ (refl, refl), tt), tt);
}

between_written : IsWrittenShared between
between_written = record {
  unit = record {
    named = (refl, refl);
    dummies = all_of_each IsName between.unit.dummies ((refl, refl), ((refl, refl), tt));
    declarations = all_of_each IsWrittenDeclaration between.unit.declarations (bare 13 _ (refl, refl), (bare 13 _ (refl, refl), tt));
    body = (((refl, refl), ((refl, refl), tt), refl), tt);
  };
  commons = All-nil IsWrittenCommon;
}

Q_written : IsWrittenShared Q
Q_written = record {
  unit = record {
    named = (refl, refl);
    dummies = all_of_each IsName Q.unit.dummies ((refl, refl), tt);
    declarations = all_of_each IsWrittenDeclaration Q.unit.declarations (bare 2 _ (refl, refl), (bare 2 _ (refl, refl), (bare 2 _ (refl, refl), tt)));
    body = (((refl, refl), one, three, one, ((((refl, refl), tt, ((refl, refl), tt)), ((refl, refl), (refl, refl))), tt), tt), (((refl, refl), ((refl, refl), tt), refl), tt));
  };
  commons = all_of_each IsWrittenCommon Q.commons (block 3 (declare 3 (codes "S") ∷ record { line = 3; name = codes "M"; extents = fixed (pos 3) ∷ [] } ∷ []) (bare 3 _ (refl, refl), (array 3 _ (refl, refl), tt)), tt);
}

summing_written : IsWrittenShared summing
summing_written = record {
  unit = record {
    named = (refl, refl);
    dummies = all_of_each IsName summing.unit.dummies ((refl, refl), tt);
    declarations = all_of_each IsWrittenDeclaration summing.unit.declarations (bare 11 _ (refl, refl), (bare 11 _ (refl, refl), (array 11 _ (refl, refl), tt)));
    body = (((refl, refl), ((refl, refl), (((refl, refl), refl), tt, (two, tt)))), (((refl, refl), (refl, refl)), tt));
  };
  commons = all_of_each IsWrittenCommon summing.commons (block 12 (declare 12 (codes "A") ∷ []) (bare 12 _ (refl, refl), tt), (block 13 (declare 13 (codes "L") ∷ []) (bare 13 _ (refl, refl), tt), tt));
}

-- ---- and accepted

pub accepted : WorkedAccepted
accepted = (
  record { written = all_of_each IsWrittenShared shared (first_written, (second_written, tt)); alike = refl; sound = refl },
  record { written = all_of_each IsWrittenShared (first ∷ second ∷ between ∷ []) (first_written, (second_written, (between_written, tt))); alike = refl; sound = refl },
)

pub arrays : WorkedArrays
unfolding int_wrap
arrays = (record { written = all_of_each IsWrittenShared (Q ∷ summing ∷ []) (Q_written, (summing_written, tt)); alike = refl; sound = refl }, refl)
