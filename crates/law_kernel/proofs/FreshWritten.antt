-- Fresh names are written. (As in the crate of the emission: this belongs beside the definition of fresh names.)
use Rattle.std.proofs.Common.{◌≡◌, ℕ, zero, suc, Bool, true, false, List, [], ◌∷◌, ◌++◌, length, refl, arith, if◌then◌else◌, codes}
use Rattle.std.specs.Prelude.{◌&&◌}
use Rattle.std.specs.List.{list_all}
use Rattle.std.proofs.lemmas.Bool.Decides.{nat_tests}
use Rattle.def_text.specs.Char.{is_name_char}
use Rattle.def_text.specs.Written.{IsName}
use Rattle.def_meaning.specs.Apart.{has_name}
use Rattle.def_names.specs.Fresh.{digits, candidate, first_free, fresh}
use Rattle.def_names.proofs.Fresh.{digits_pass}
use Rattle.def_kernel.specs.Kernel.{wanted_local, local_names}

-- ---- names

all-append : (test : ℕ → Bool) (xs ys : List ℕ) → list_all test xs ≡ true → list_all test ys ≡ true → list_all test (xs ++ ys) ≡ true
all-append test [] ys a b = b
all-append test (x ∷ xs) ys a b = go (test x) a (all-append test xs ys)
  where
    go : (t : Bool) → (t && list_all test xs) ≡ true → (list_all test xs ≡ true → list_all test ys ≡ true → list_all test (xs ++ ys) ≡ true) → (t && list_all test (xs ++ ys)) ≡ true
    go true a ih = ih a b
    go false a ih = a

-- what a name goes on with may stand behind it
pub name-append : (b x : List ℕ) → IsName b → list_all is_name_char x ≡ true → IsName (b ++ x)
name-append [] x h g = absurd h
name-append (c ∷ b) x h g = (h.0, all-append is_name_char b x h.1 g)

pub digits_chars : (n : ℕ) → list_all is_name_char (digits n) ≡ true
digits_chars = digits_pass is_name_char (λ d h. grind (arith, nat_tests))

candidate-name : (b : List ℕ) (i : ℕ) → IsName b → IsName (candidate b i)
candidate-name b zero h = h
candidate-name b (suc i) h = name-append b (codes "_" ++ digits (suc i)) h (digits_chars (suc i))

first_free-name : (tries i : ℕ) (b : List ℕ) (taken : List (List ℕ)) → IsName b → IsName (first_free tries i b taken)
first_free-name zero i b taken h = candidate-name b i h
first_free-name (suc tries) i b taken h = go (has_name (candidate b i) taken) (first_free-name tries (suc i) b taken h)
  where
    go : (t : Bool) → IsName (first_free tries (suc i) b taken) → IsName (if t then first_free tries (suc i) b taken else candidate b i)
    go true ih = ih
    go false ih = candidate-name b i h

-- a fresh name is a name
pub fresh-name : (b : List ℕ) (taken : List (List ℕ)) → IsName b → IsName (fresh b taken)
fresh-name b taken h = first_free-name (length taken) 0 b taken h

-- the name of a local is
pub local-name : (taken : List (List ℕ)) (k : ℕ) → IsName (fresh (wanted_local k) (taken ++ local_names taken k))
local-name taken k = fresh-name (wanted_local k) (taken ++ local_names taken k) (name-append (codes "ADV") (digits (suc k)) (refl, refl) (digits_chars (suc k)))
