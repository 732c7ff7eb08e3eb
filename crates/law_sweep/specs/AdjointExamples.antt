-- Programs and their adjoints, written out.
use Rattle.std.specs.Prelude.{ℕ, pos, List, []}
use Rattle.adj_tree.specs.Code.{Var, plain, Term, lit, var, bin, plus, times, none, Act, assign, runtime, push_word, pop_word, Declaration}

-- the variable of this name
abbrev named : List ℕ → Var
named x = plain x

abbrev pub use_of : List ℕ → Term
use_of x = var (named x)

abbrev pub declare : ℕ → List ℕ → Declaration
declare line x = record { line = line; name = x; extents = [] }

-- t = e
abbrev pub set_to : List ℕ → Term → Act
set_to t e = assign (named t) none e

-- t = t + e
abbrev pub grow : List ℕ → List ℕ → Act
grow t e = set_to t (bin plus (use_of t) (use_of e))

-- t = a * b
abbrev pub multiply : List ℕ → List ℕ → List ℕ → Act
multiply t a b = set_to t (bin times (use_of a) (use_of b))

abbrev pub push : List ℕ → Act
push x = runtime (push_word (named x) none)

abbrev pub pop : List ℕ → Act
pop x = runtime (pop_word (named x) none)

abbrev pub zero_of : List ℕ → Act
zero_of x = set_to x (lit (pos 0))
