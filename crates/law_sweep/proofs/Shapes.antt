-- A value depends on the shapes of the variables that stand in the expression alone.
use Rattle.std.proofs.Common.{◌≡◌, Bool, true, List, ◌∷◌, refl, sym, ap}
use Rattle.std.specs.Prelude.{ℤ, not, ◌&&◌, ◌||◌, Ok}
use Rattle.adj_tree.specs.Code.{Var, plain, shadow, helper, var_eq, Term, lit, var, elem, neg, bin, pow, power_of, abs, Terms, none, more, Test, compare, negation, conjunction, disjunction}
use Rattle.def_meaning.specs.Trap.{index, then_ok, or_trap}
use Rattle.def_meaning.specs.Numbers.{operation, absolute, compares}
use Rattle.def_meaning.specs.Store.{Shape, Store, cell_of}
use Rattle.def_meaning.specs.Value.{Setting, cell_at, exponent_of, value, values, holds}
use Rattle.def_meaning.specs.Read.{reads_term, reads_terms, reads_test}
use Rattle.def_meaning.proofs.Variables.{var_refl}
use Rattle.def_names.proofs.Variables.{or_left, or_right}
use Rattle.law_sweep.specs.Passing.{plainly}
pub use Rattle.law_sweep.specs.Kernel.{is_text, AllText}

pub text_first : (f g : Var → Bool) → AllText (λ v. f v || g v) → AllText f
text_first f g h v e = h v (or_left (f v) (g v) e)

pub text_second : (f g : Var → Bool) → AllText (λ v. f v || g v) → AllText g
text_second f g h v e = h v (or_right (f v) (g v) e)

pub plainly_text : (sh : Var → Shape) (v : Var) → is_text v ≡ true → sh v ≡ plainly sh v
plainly_text sh (plain x) h = refl
plainly_text sh (shadow x) h = cc
plainly_text sh (helper r k) h = cc

module _ {C : Type 0} (n : Setting C) (s : Store C) where
  -- the setting with the shapes of the text's variables alone
  abbrev pub bare : Setting C
  bare = record n { shape = plainly n.shape }

  cell_bare : (x : Var) (is : List ℤ) → is_text x ≡ true → cell_at bare x is ≡ cell_at n x is
  cell_bare x is h = ap (λ sh. or_trap index (cell_of sh is)) (sym (plainly_text n.shape x h))

  mutual
    pub value_bare : (e : Term) → AllText (λ v. reads_term v e) → value bare e s ≡ value n e s
    value_bare (lit z) h = refl
    value_bare (var x) h = refl
    value_bare (elem x subs) h =
        (λ i. then_ok (values_bare subs (text_second (λ v. var_eq v x) (λ v. reads_terms v subs) h) i) (λ is. then_ok (cell_bare x is (h x (or_left (var_eq x x) (reads_terms x subs) (var_refl x))) i) (λ j. Ok (s x j))))
    value_bare (neg a) h = λ i. then_ok (value_bare a h i) (λ u. Ok (n.numbers.negation u))
    value_bare (bin op a b) h =
        λ i. then_ok (value_bare a (text_first (λ v. reads_term v a) (λ v. reads_term v b) h) i) (λ u. then_ok (value_bare b (text_second (λ v. reads_term v a) (λ v. reads_term v b) h) i) (λ v. operation n.numbers op u v))
    value_bare (pow a k) h = λ i. then_ok (value_bare a h i) (λ u. Ok (n.numbers.raised_to u k))
    value_bare (power_of a b) h =
        λ i. then_ok (value_bare a (text_first (λ v. reads_term v a) (λ v. reads_term v b) h) i) (λ u. then_ok (value_bare b (text_second (λ v. reads_term v a) (λ v. reads_term v b) h) i) (λ v. then_ok (exponent_of (n.numbers.shown v)) (λ k. Ok (n.numbers.raised_to u k))))
    value_bare (abs a) h = λ i. then_ok (value_bare a h i) (λ u. Ok (absolute n.numbers u))

    pub values_bare : (es : Terms) → AllText (λ v. reads_terms v es) → values bare es s ≡ values n es s
    values_bare none h = refl
    values_bare (more e es) h =
        λ i. then_ok (value_bare e (text_first (λ v. reads_term v e) (λ v. reads_terms v es) h) i) (λ u. then_ok (values_bare es (text_second (λ v. reads_term v e) (λ v. reads_terms v es) h) i) (λ us. Ok (n.numbers.shown u ∷ us)))

  pub holds_bare : (t : Test) → AllText (λ v. reads_test v t) → holds bare t s ≡ holds n t s
  holds_bare (compare r a b) h =
      λ i. then_ok (value_bare a (text_first (λ v. reads_term v a) (λ v. reads_term v b) h) i) (λ u. then_ok (value_bare b (text_second (λ v. reads_term v a) (λ v. reads_term v b) h) i) (λ v. Ok (compares r (n.numbers.shown u) (n.numbers.shown v))))
  holds_bare (negation c) h = λ i. then_ok (holds_bare c h i) (λ p. Ok (not p))
  holds_bare (conjunction c d) h =
      λ i. then_ok (holds_bare c (text_first (λ v. reads_test v c) (λ v. reads_test v d) h) i) (λ p. then_ok (holds_bare d (text_second (λ v. reads_test v c) (λ v. reads_test v d) h) i) (λ q. Ok (p && q)))
  holds_bare (disjunction c d) h =
      λ i. then_ok (holds_bare c (text_first (λ v. reads_test v c) (λ v. reads_test v d) h) i) (λ p. then_ok (holds_bare d (text_second (λ v. reads_test v c) (λ v. reads_test v d) h) i) (λ q. Ok (p || q)))
