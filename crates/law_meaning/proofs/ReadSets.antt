-- What statements read grows with what is known of called units, and looks at no units but those.
use Rattle.std.proofs.Common.{◌≡◌, ℕ, Bool, List, refl, ap}
use Rattle.std.specs.Prelude.{◌||◌, IsTrue}
use Rattle.adj_tree.specs.Code.{Var, plain, Act, assign, choose, loop, during, call, runtime, Code, stop, step}
use Rattle.def_meaning.specs.LeastSet.{Dummies}
use Rattle.def_meaning.specs.Read.{reads_term, reads_test, reads_mark, reads_actuals, act_reads, reads, is_extent, read_rule}
use Rattle.law_meaning.specs.Common.{CallsInside', CallsInside}
use Rattle.law_meaning.specs.Laws.{LeastRead, ExtendsRead}
use Rattle.def_meaning.proofs.LeastSets.{is_least}
use Rattle.law_meaning.proofs.Extensions.{LooksInside, least_same}
use Rattle.def_meaning.proofs.ReadsMore.{read_rises}

-- the dummies that units read are the least set by their rule
pub least_read : LeastRead
least_read units = is_least read_rule read_rises units

module _ (inside : List ℕ → Bool) (f g : Dummies) (h : (name : List ℕ) → IsTrue (inside name) → f name ≡ g name) (x : Var) where
  mutual
    act_reads_same : (a : Act) → CallsInside' inside a → act_reads f x a ≡ act_reads g x a
    act_reads_same (assign y subs e) c = refl
    act_reads_same (choose t a b) c = λ i. reads_test x t || (reads_same a c.0 i || reads_same b c.1 i)
    act_reads_same (loop y first last by body m) c = ap (λ z. (reads_term x first || (reads_term x last || (reads_term x by || reads_mark x m))) || z) (reads_same body c)
    act_reads_same (during t body) c = ap (λ z. reads_test x t || z) (reads_same body c)
    act_reads_same (call name args) c = ap (λ z. reads_actuals x z args) (h name c)
    act_reads_same (runtime r) c = refl

    -- a list reads the same variables where called units are known to read the same dummies
    reads_same : (b : Code) → CallsInside inside b → reads f x b ≡ reads g x b
    reads_same stop c = refl
    reads_same (step line a rest) c = λ i. act_reads_same a c.0 i || reads_same rest c.1 i

-- what a unit reads depends on no other units
pub read_looks : LooksInside read_rule
read_looks = record { by = λ inside f g h u c d. ap (λ z. z || is_extent d u.declarations) (reads_same inside f g h (plain d) u.body c) }

-- so the dummies that a unit reads are the same in both programs
pub extends_read : ExtendsRead
extends_read inside units others common name t = least_same inside units others common read_rule read_looks read_rises name t
