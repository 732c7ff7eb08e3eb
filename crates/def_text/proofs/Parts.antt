-- Parts: what an option that is there was made of.
use Rattle.std.proofs.Common.{◌≡◌, Option, Some, None, option_map, refl}
use Rattle.std.specs.Prelude.{option_and_then}
use Rattle.def_text.specs.Grammar.{with_both}

-- one part, one part that may have none, and two
pub map_some : {A B : Type 0} (F : A → B) (o : Option A) (r : B) → option_map F o ≡ Some r → (t : A) × (o ≡ Some t) × (F t ≡ r)
map_some F None r e = absurd cc
map_some F (Some t) r e = (t, refl, cc)

pub then_some : {A B : Type 0} (F : A → Option B) (o : Option A) (r : B) → option_and_then F o ≡ Some r → (t : A) × (o ≡ Some t) × (F t ≡ Some r)
then_some F None r e = absurd cc
then_some F (Some t) r e = (t, refl, e)

pub both_some : {A B C : Type 0} (F : A → B → C) (o : Option A) (p : Option B) (r : C) → with_both (λ t u. Some (F t u)) o p ≡ Some r → (t : A) × (u : B) × (o ≡ Some t) × (p ≡ Some u) × (F t u ≡ r)
both_some F None p r e = absurd cc
both_some F (Some t) None r e = absurd cc
both_some F (Some t) (Some u) r e = (t, u, refl, refl, cc)
