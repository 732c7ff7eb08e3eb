-- The statements of a share.
use Rattle.std.specs.Prelude.{ℕ, suc, pos, ◌-◌, Bool}
use Rattle.adj_tree.specs.Code.{Var, plain, helper, work, plus, minus, times, greater, Term, lit, var, elem, neg, bin, pow, power_of, none, assign, Code, stop, step}
use Rattle.adj_tree.specs.View.{term_of, terms_of}
use Rattle.def_meaning.specs.Append.{◌+++◌, one}
use Rattle.def_sweep.specs.Marked.{code_if}
use Rattle.adj_sweep_assignment.specs.declared.share.Factor.{Factor}
use Rattle.adj_sweep_assignment.specs.declared.share.Factor.TheVariants.{Opposite, Value, Power, PowerBy}
use Rattle.adj_sweep_assignment.specs.declared.share.Share.{Share}
use Rattle.adj_sweep_assignment.specs.declared.share.Share.TheVariants.{Nothing, Scalar, Element, Both', Scaled'}

-- a power whose exponent is less by 1, but not below 0
abbrev pub guarded_power : Term → Term → Term
guarded_power base exponent = power_of base (bin greater (bin minus exponent (lit (pos 1))) (lit (pos 0)))

-- the product of a term with a factor
abbrev pub scaled_by : Factor → Term → Term
scaled_by Opposite w = neg w
scaled_by (Value e) w = bin times w (term_of e.value)
scaled_by (Power base n) w = bin times (bin times w (lit (pos n))) (pow (term_of base.value) (n - 1))
scaled_by (PowerBy base exponent) w = bin times (bin times w (term_of exponent.value)) (guarded_power (term_of base.value) (term_of exponent.value))

-- what is written of a share, where the adjoint of the term stands in the k-th work variable
abbrev pub share_code : (Var → Var) → ℕ → Share → ℕ → Code
share_code r line Nothing k = stop
share_code r line (Scalar x) k = one line (assign (plain x) none (bin plus (var (plain x)) (var (r (helper work k)))))
share_code r line (Element x subs) k = one line (assign (plain x) (terms_of subs) (bin plus (elem (plain x) (terms_of subs)) (var (r (helper work k)))))
share_code r line (Both' p a q b) k = share_code r line a k +++ share_code r line b k
share_code r line (Scaled' f p s) k = step line (assign (r (helper work (suc k))) none (scaled_by f (var (r (helper work k))))) (share_code r line s (suc k))

-- the next work variable becomes a value, and this becomes of it, where the term is active
abbrev pub scaled_code : (Var → Var) → ℕ → Bool → Term → Share → ℕ → Code
scaled_code r line active value s k = code_if active (step line (assign (r (helper work (suc k))) none value) (share_code r line s (suc k)))
