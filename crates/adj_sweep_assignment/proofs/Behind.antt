-- Statements that are written behind others: the temporaries of terms.
use Rattle.std.proofs.Common.{◌≡◌, ℕ, Bool, true, List, ◌+◌, sym, ap, ◌∙◌}
use Rattle.adj_tree.specs.Code.{Var, Term, bin, times, power_of, Code, stop}
use Rattle.adj_tree.specs.declared.stmt.Stmt.{Stmt}
use Rattle.adj_tree.specs.Listed.{steps_onto}
use Rattle.def_meaning.specs.Append.{◌+++◌}
use Rattle.def_meaning.specs.Rename.{rename}
use Rattle.def_meaning.proofs.Appends.{append_assoc}
use Rattle.def_meaning.proofs.RenamedLists.{rename-append}
use Rattle.def_names.specs.Numbers.{Vars}
use Rattle.def_sweep.specs.Marked.{own_code, count_of}
use Rattle.def_sweep.specs.AdjointOf.{has_own_where, temps_in_where, shrunk_where, temps_where}
use Rattle.adj_sweep_assignment.proofs.Values.{is_idle, idle}
use Rattle.adj_sweep_assignment.specs.Behind.{AreBehind}

-- nothing
pub nothing_behind : (r : Var → Var) (c : Code) (steps : List Stmt) → c ≡ stop → AreBehind (rename r c) steps steps
nothing_behind r c steps h = λ rest. ap (λ z. steps_onto steps (rename r z +++ rest)) (sym h)

-- those of a term that has none
pub idle_behind : (r : Var → Var) (on : Vars) (t : Term) (j line : ℕ) (steps : List Stmt) → is_idle t ≡ true → AreBehind (rename r (temps_where on t j line)) steps steps
idle_behind r on t j line steps h = nothing_behind r (temps_where on t j line) steps ((idle on t h).code j line)

-- one list, and then another
pub both_behind : (r : Var → Var) (a b : Code) (s0 s1 s2 : List Stmt) → AreBehind (rename r a) s0 s1 → AreBehind (rename r b) s1 s2 → AreBehind (rename r (a +++ b)) s0 s2
both_behind r a b s0 s1 s2 f g = λ rest.
    g rest ∙ f (rename r b +++ rest) ∙ ap (steps_onto s0) (sym (append_assoc (rename r a) (rename r b) rest) ∙ ap (λ z. z +++ rest) (sym (rename-append r a b)))

-- one list, then the temporary of an operand that may have one, where both numbers and the mark are known by equations
pub owned_behind : (r : Var → Var) (a : Code) (own other : Bool) (line j k : ℕ) (t : Term) (s0 s1 s2 : List Stmt) → own ≡ other → j ≡ k → AreBehind (rename r a) s0 s1 → AreBehind (rename r (own_code own line j t)) s1 s2 → AreBehind (rename r (a +++ own_code other line k t)) s0 s2
owned_behind r a own other line j k t s0 s1 s2 e f g h = both_behind r a (own_code other line k t) s0 s1 s2 g (λ rest. h rest ∙ (λ i. steps_onto s1 (rename r (own_code (e i) line (f i) t) +++ rest)))

-- the temporaries of a product
pub product_behind : (r : Var → Var) (on : Vars) (a b : Term) (oa ob : Bool) (j ja jn jb line : ℕ) (s0 s1 s2 s3 s4 : List Stmt) → oa ≡ has_own_where on a b → ob ≡ has_own_where on b a → ja ≡ j + temps_in_where on a → jn ≡ ja + count_of oa → jb ≡ jn + temps_in_where on b → AreBehind (rename r (temps_where on a j line)) s0 s1 → AreBehind (rename r (own_code oa line ja (shrunk_where on a j))) s1 s2 → AreBehind (rename r (temps_where on b jn line)) s2 s3 → AreBehind (rename r (own_code ob line jb (shrunk_where on b jn))) s3 s4 → AreBehind (rename r (temps_where on (bin times a b) j line)) s0 s4
product_behind r on a b oa ob j ja jn jb line s0 s1 s2 s3 s4 ea eb eja ejn ejb f g h k =
    λ rest.
    let first = temps_where on a j line in
    let own = own_code oa line ja (shrunk_where on a j) in
    let second = temps_where on b jn line in
    let last = own_code ob line jb (shrunk_where on b jn) in
    let next : jn ≡ j + temps_in_where on a + count_of (has_own_where on a b) = ejn ∙ (λ i. eja i + count_of (ea i)) in
    both_behind r first (own +++ (second +++ last)) s0 s1 s4 f (both_behind r own (second +++ last) s1 s2 s4 g (both_behind r second last s2 s3 s4 h k)) rest
    ∙ (λ i. steps_onto s0 (rename r (first +++ (own_code (ea i) line (eja i) (shrunk_where on a j) +++ (temps_where on b (next i) line +++ own_code (eb i) line ((ejb ∙ ap (λ z. z + temps_in_where on b) next) i) (shrunk_where on b (next i))))) +++ rest))

-- those of a power whose exponent is an expression
pub variable_power_behind : (r : Var → Var) (on : Vars) (a b : Term) (oa ob : Bool) (j ja jb line : ℕ) (s0 s1 s2 s3 : List Stmt) → oa ≡ has_own_where on a a → ob ≡ has_own_where on b a → ja ≡ j + temps_in_where on a → jb ≡ ja + count_of oa → AreBehind (rename r (temps_where on a j line)) s0 s1 → AreBehind (rename r (own_code oa line ja (shrunk_where on a j))) s1 s2 → AreBehind (rename r (own_code ob line jb b)) s2 s3 → AreBehind (rename r (temps_where on (power_of a b) j line)) s0 s3
variable_power_behind r on a b oa ob j ja jb line s0 s1 s2 s3 ea eb eja ejb f g h =
    λ rest.
    let first = temps_where on a j line in
    let own = own_code oa line ja (shrunk_where on a j) in
    let last = own_code ob line jb b in
    both_behind r first (own +++ last) s0 s1 s3 f (both_behind r own last s1 s2 s3 g h) rest
    ∙ (λ i. steps_onto s0 (rename r (first +++ (own_code (ea i) line (eja i) (shrunk_where on a j) +++ own_code (eb i) line ((ejb ∙ (λ i. eja i + count_of (ea i))) i) b)) +++ rest))
