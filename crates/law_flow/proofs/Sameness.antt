-- What the tests of sameness call the same is so.
use Rattle.std.proofs.Common.{◌≡◌, true, refl, ap, Bool, false, List, ◌∷◌}
use Rattle.std.specs.Prelude.{◌==◌, ◌&&◌, []}
use borrow.Author.Tests.{eq-eqb, eqb-true}
use Rattle.adj_tree.specs.Code.{var_eq, name_eq}
use Rattle.adj_tree.proofs.Names.{name_same, name_refl}
use Rattle.def_meaning.proofs.Variables.{var_refl, var_same}
use Rattle.def_flow.specs.Activity.{Adjoint, statement, unit}
use Rattle.def_flow.specs.Live.{Fact, needed, kept, wanted}
use Rattle.law_flow.specs.Computed.{same_node, same_adjoint, same_fact, Row, Table, same_lists, same_truths, same_rows, same_tables}
use Rattle.def_flow.proofs.Sets.{both, and_both}
use Rattle.def_flow.proofs.Closure.{IsSame}

pub nodes_same : IsSame same_node
nodes_same = record {
  same_is = λ m n h. let b = both (m.0 == n.0) (var_eq m.1 n.1) h in let p : m.0 ≡ n.0 = eqb-true m.0 n.0 b.0 in let q : m.1 ≡ n.1 = var_same m.1 n.1 b.1 in λ i. (p i, q i);
  is_same = λ n. and_both (eq-eqb n.0 n.0 refl) (var_refl n.1);
}

adjoint_is : (x y : Adjoint) → same_adjoint x y ≡ true → x ≡ y
adjoint_is (statement i) (statement j) h = ap statement (eqb-true i j h)
adjoint_is (statement i) (unit u) h = absurd cc
adjoint_is (unit u) (statement i) h = absurd cc
adjoint_is (unit u) (unit w) h = ap unit (eqb-true u w h)

adjoint_self : (x : Adjoint) → same_adjoint x x ≡ true
adjoint_self (statement i) = eq-eqb i i refl
adjoint_self (unit u) = eq-eqb u u refl

pub adjoints_same : IsSame same_adjoint
adjoints_same = record { same_is = adjoint_is; is_same = adjoint_self }

fact_is : (x y : Fact) → same_fact x y ≡ true → x ≡ y
fact_is (needed p v) (needed q w) h = let b = both (p == q) (var_eq v w) h in let e : p ≡ q = eqb-true p q b.0 in let f : v ≡ w = var_same v w b.1 in λ i. needed (e i) (f i)
fact_is (needed p v) (kept i) h = absurd cc
fact_is (needed p v) (wanted u d) h = absurd cc
fact_is (kept i) (needed p v) h = absurd cc
fact_is (kept i) (kept j) h = ap kept (eqb-true i j h)
fact_is (kept i) (wanted u d) h = absurd cc
fact_is (wanted u d) (needed p v) h = absurd cc
fact_is (wanted u d) (kept i) h = absurd cc
fact_is (wanted u d) (wanted w e) h = let b = both (u == w) (name_eq d e) h in let p : u ≡ w = eqb-true u w b.0 in let q : d ≡ e = name_same d e b.1 in λ i. wanted (p i) (q i)

fact_self : (x : Fact) → same_fact x x ≡ true
fact_self (needed p v) = and_both (eq-eqb p p refl) (var_refl v)
fact_self (kept i) = eq-eqb i i refl
fact_self (wanted u d) = and_both (eq-eqb u u refl) (name_refl d)

pub facts_same : IsSame same_fact
facts_same = record { same_is = fact_is; is_same = fact_self }

-- ---- tables

lists_same : {A : Type 0} {same : A → A → Bool} → ((x y : A) → same x y ≡ true → x ≡ y) → (xs ys : List A) → same_lists same xs ys ≡ true → xs ≡ ys
lists_same f [] [] h = refl
lists_same f [] (y ∷ ys) h = absurd cc
lists_same f (x ∷ xs) [] h = absurd cc
lists_same {A} {same} f (x ∷ xs) (y ∷ ys) h = let b = both (same x y) (same_lists same xs ys) h in let p : x ≡ y = f x y b.0 in let q : xs ≡ ys = lists_same f xs ys b.1 in λ i. p i ∷ q i

truths_same : (b c : Bool) → same_truths b c ≡ true → b ≡ c
truths_same true true h = refl
truths_same true false h = absurd cc
truths_same false true h = absurd cc
truths_same false false h = refl

rows_same : (r s : Row) → same_rows r s ≡ true → r ≡ s
rows_same r s h =
    let b = both (same_truths r.adjointed s.adjointed) (same_truths r.kept s.kept && same_lists var_eq r.saved s.saved) h in
    let c = both (same_truths r.kept s.kept) (same_lists var_eq r.saved s.saved) b.1 in
    let p = truths_same r.adjointed s.adjointed b.0 in
    let q = truths_same r.kept s.kept c.0 in
    let v = lists_same var_same r.saved s.saved c.1 in
    λ i. record { adjointed = p i; kept = q i; saved = v i }

pub tables_same : (t u : Table) → same_tables t u ≡ true → t ≡ u
tables_same t u h =
    let b = both (same_lists same_rows t.rows u.rows) (same_lists (same_lists var_eq) t.shadows u.shadows && same_lists (same_lists name_eq) t.entries u.entries) h in
    let c = both (same_lists (same_lists var_eq) t.shadows u.shadows) (same_lists (same_lists name_eq) t.entries u.entries) b.1 in
    let p = lists_same rows_same t.rows u.rows b.0 in
    let q = lists_same (lists_same var_same) t.shadows u.shadows c.0 in
    let v = lists_same (lists_same name_same) t.entries u.entries c.1 in
    λ i. record { rows = p i; shadows = q i; entries = v i }
