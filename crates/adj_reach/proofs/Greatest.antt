-- What holds of the members passed, one after the other.
use Rattle.std.proofs.Common.{ℕ, ◌+◌, ◌<◌, ◌≤◌, List, All, length, get_or, take, subst}
use Rattle.std.proofs.lemmas.List.{take_all}
use Rattle.std.proofs.lemmas.List.Elements.{All-more}

-- one member more, where what held still holds
pub all_more : {X : Type 0} (P Q : X → Type 0) (xs : List X) (i : ℕ) (d : X) → i < length xs → ((z : X) → P z → Q z) → Q (get_or xs i d) → All P (take i xs) → All Q (take (i + 1) xs)
all_more P Q xs i d lt up q h = All-more Q xs i d lt (λ j e l. up (get_or (take i xs) j e) (h j e l)) q

-- all members
pub all_end : {X : Type 0} (P : X → Type 0) (xs : List X) (i : ℕ) → length xs ≤ i → All P (take i xs) → All P xs
all_end P xs i past h = subst (λ z. All P z) (take_all i xs past) h
