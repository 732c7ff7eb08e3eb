-- The members of a list, one by one, and those of lists that are made of lists.
use Rattle.std.proofs.Common.{◌≡◌, List, Bool, true, false, refl}
use Rattle.std.specs.Prelude.{Contains}
use Rattle.def_names.specs.VariableLists.{list_if}
use Rattle.adj_reach.proofs.Members.{is_none}

-- ---- where a condition holds

pub if_has : {X : Type 0} (b : Bool) (xs : List X) (x : X) → b ≡ true → Contains xs x → Contains (list_if b xs) x
if_has true xs x h c = c
if_has false xs x h c = absurd cc

pub if_only : {X : Type 0} (b : Bool) (xs : List X) (x : X) → Contains (list_if b xs) x → (b ≡ true) × Contains xs x
if_only true xs x c = (refl, c)
if_only false xs x c = absurd (is_none x c)

-- ---- seen by a function

-- ---- for each

-- ---- those of which a test holds
