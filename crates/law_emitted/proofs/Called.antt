-- What holds of each statement of code once its variables have names, by what holds of its CALLs and its calls of the runtime.
use Rattle.std.proofs.Common.{◌≡◌, ℕ, false, List, ◌∷◌}
use Rattle.std.specs.Prelude.{Option}
use Rattle.adj_tree.specs.Code.{Var, Terms, Runtime, Act, assign, choose, loop, during, call, runtime, Code, stop, step}
use Rattle.def_meaning.specs.Rename.{rename_term, rename_terms, rename_test, rename_runtime, rename_mark, rename_act, rename}
use Rattle.def_names.specs.Reserved.{is_runtime}
use Rattle.def_names.specs.Statements.{At, inner, statements}
use Rattle.law_emitted.proofs.Lists.{Each, each_append}
use Rattle.law_emitted.proofs.Over.{OverRuntime, OverAct, OverCode}

-- neither a CALL nor a call of the runtime
abbrev pub IsOwn : Act → Type 0
IsOwn (assign x s e) = Unit {0}
IsOwn (choose c a b) = Unit {0}
IsOwn (loop x a b c body m) = Unit {0}
IsOwn (during c body) = Unit {0}
IsOwn (call name args) = ⊥
IsOwn (runtime r) = ⊥

module _ (Q : Var → Option ℕ → Type 0) (A : Var → Type 0) (C : List ℕ → Terms → Type 0) (r : Var → Var) (G : At Act → Type 0) (own : (line : ℕ) (a : Act) → IsOwn a → G (line, a)) (called : (line : ℕ) (name : List ℕ) (args : Terms) → is_runtime name ≡ false → C name args → G (line, call name (rename_terms r args)))
    (ran : (line : ℕ) (c : Runtime) → OverRuntime Q A c → G (line, runtime (rename_runtime r c))) where
  mutual
    each_act : (line : ℕ) (a : Act) → OverAct Q A C a → Each G ((line, rename_act r a) ∷ inner (rename_act r a))
    each_act line (assign x s e) o = (own line (assign (r x) (rename_terms r s) (rename_term r e)) tt, tt)
    each_act line (choose c a b) o = (own line (choose (rename_test r c) (rename r a) (rename r b)) tt, each_append G (statements (rename r a)) (statements (rename r b)) (each_statement a o.1.0) (each_statement b o.1.1))
    each_act line (loop x a b c body m) o = (own line (loop (r x) (rename_term r a) (rename_term r b) (rename_term r c) (rename r body) (rename_mark r m)) tt, each_statement body o.1.1.1.1.0)
    each_act line (during c body) o = (own line (during (rename_test r c) (rename r body)) tt, each_statement body o.1)
    each_act line (call name args) o = (called line name args o.1.1.0 o.1.1.1, tt)
    each_act line (runtime c) o = (ran line c o, tt)

    pub each_statement : (c : Code) → OverCode Q A C c → Each G (statements (rename r c))
    each_statement stop o = tt
    each_statement (step line a rest) o = let here = each_act line a o.0 in (here.0, each_append G (inner (rename_act r a)) (statements (rename r rest)) here.1 (each_statement rest o.1))
