-- Sums of products in which words count for a set alone.
use Rattle.std.proofs.Common.{◌≡◌, Bool, true, false, List, [], ◌∷◌, refl, sym, ◌∙◌, if◌then◌else◌}
use Rattle.std.specs.Prelude.{pos}
use Rattle.adj_tree.specs.Code.{plain}
use Rattle.adj_tree.proofs.Names.{nat_refl, name_refl}
use Rattle.adj_word.specs.Word.{add, mul}
use Rattle.adj_word.specs.Pairing.{pairing, stands_in}
use Rattle.adj_word.proofs.Residues.{mul-zero, zero-mul}
use Rattle.def_names.specs.Numbers.{Vars}
use Rattle.law_sweep.specs.Pairs.{Key, key_eq, Words}
use Rattle.law_sweep.specs.Scenes.{masked}
use Rattle.def_names.proofs.Variables.{or_right}

key_refl : (k : Key) → key_eq k k ≡ true
key_refl k = rw (name_refl k.0) (nat_refl k.1)

-- sums whose products are the same at each key
pairing_terms : (ks : List Key) (f g y z : Words) → ((k : Key) → stands_in key_eq k ks ≡ true → mul (f k) (z k) ≡ mul (g k) (y k)) → pairing ks f z ≡ pairing ks g y
pairing_terms [] f g y z h = refl
pairing_terms (k ∷ ks) f g y z h =
    let here : stands_in key_eq k (k ∷ ks) ≡ true = rw (key_refl k) refl in
    λ i. add (h k here i) (pairing_terms ks f g y z (λ l o. h l (or_right (key_eq k l) (stands_in key_eq l ks) o)) i)

-- words that count for a set alone may stand on either side
pub masked_sides : (ks : List Key) (a : Vars) (f y : Words) → pairing ks f (masked a y) ≡ pairing ks (masked a f) y
masked_sides ks a f y = pairing_terms ks f (masked a f) y (masked a y) (λ k o. go k (a (plain k.0)))
  where
    go : (k : Key) (b : Bool) → mul (f k) (if b then y k else pos 0) ≡ mul (if b then f k else pos 0) (y k)
    go k true = refl
    go k false = mul-zero (f k) ∙ sym (zero-mul (y k))
