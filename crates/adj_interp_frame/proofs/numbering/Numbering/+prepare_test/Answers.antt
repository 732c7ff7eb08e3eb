use Rattle.std.proofs.Common.{length, sym, ap, subst, ◌∙◌, arith}
use Rattle.adj_tree.specs.declared.expr.Cond.{size-Cond}
use Rattle.adj_tree.specs.declared.expr.Cond.TheViews.{sized-And, sized-Or}
use Rattle.adj_tree.specs.Code.{compare, negation, conjunction, disjunction}
use Rattle.adj_tree.specs.View.{rel_of, term_of, test_of}
use Rattle.adj_interp_frame.specs.Prepared.{test_in, IsTestBelow}
use Rattle.adj_interp_frame.proofs.Failing.{err_is}
use Rattle.adj_interp_frame.proofs.Resolving.{extends_on, resolves_on}
use Rattle.adj_interp_frame.proofs.numbering.Numbering.+prepare_test.Goals as goal

-- ---- each kind of condition

pub test-returns-in_ok-left-in-Cmp : goal.test-returns-in_ok-left-in-Cmp
test-returns-in_ok-left-in-Cmp t c =
    let r = c.in_ok-left-in-Cmp.ensures in
    record {
      extends = r.extends;
      resolves = rw c.in-Cmp.is (record {
        stands_for = λ ls f i. compare (rel_of c.in-Cmp.rel) ((r.first.stands_for ls f ∙ ap term_of c.deref.ensures) i) ((r.second.stands_for ls f ∙ ap term_of c.deref-in-Cmp.ensures) i);
        below = λ ls f. (r.first.below ls f, r.second.below ls f);
      });
    }

pub test-returns-in_ok-operand-in-Not : goal.test-returns-in_ok-operand-in-Not
test-returns-in_ok-operand-in-Not t c =
    let r = c.in_ok-operand-in-Not.ensures in
    record {
      extends = r.extends;
      resolves = rw c.in-Not.is (record {
        stands_for = λ ls f. ap (λ z. negation z) (r.resolves.stands_for ls f ∙ ap test_of c.deref-in-Not.ensures);
        below = λ ls f. r.resolves.below ls f;
      });
    }

pub test-returns-in_ok-left-in-And : goal.test-returns-in_ok-left-in-And
test-returns-in_ok-left-in-And t c =
    let r = c.in_ok-left-in-And.ensures in
    record {
      extends = r.extends;
      resolves = rw c.in-And.is (record {
        stands_for = λ ls f i. conjunction ((r.first.stands_for ls f ∙ ap test_of c.deref-in-And.ensures) i) ((r.second.stands_for ls f ∙ ap test_of c.deref-in-And-2.ensures) i);
        below = λ ls f. (r.first.below ls f, r.second.below ls f);
      });
    }

pub test-returns-in_ok-left-in-Or : goal.test-returns-in_ok-left-in-Or
test-returns-in_ok-left-in-Or t c =
    let r = c.in_ok-left-in-Or.ensures in
    record {
      extends = r.extends;
      resolves = rw c.in-Or.is (record {
        stands_for = λ ls f i. disjunction ((r.first.stands_for ls f ∙ ap test_of c.deref-in-Or.ensures) i) ((r.second.stands_for ls f ∙ ap test_of c.deref-in-Or-2.ensures) i);
        below = λ ls f. (r.first.below ls f, r.second.below ls f);
      });
    }

-- ---- parts are smaller

pub test-parts-requires : goal.test-parts-requires
test-parts-requires t c =
    let whole = sized-And c.in-And.c c.in-And.d in
    let was = ap size-Cond c.in-And.is in
    let left = ap size-Cond c.deref-in-And.ensures in
    let right = ap size-Cond c.deref-in-And-2.ensures in
    (omega (arith, c.decreases, whole, was, left, right), tt)

pub test-parts-requires-in-Or : goal.test-parts-requires-in-Or
test-parts-requires-in-Or t c =
    let whole = sized-Or c.in-Or.c c.in-Or.d in
    let was = ap size-Cond c.in-Or.is in
    let left = ap size-Cond c.deref-in-Or.ensures in
    let right = ap size-Cond c.deref-in-Or-2.ensures in
    (omega (arith, c.decreases, whole, was, left, right), tt)

-- ---- parts

pub part-returns : goal.part-returns
part-returns t c =
    let r = c.in_ok-test.ensures in
    let b = c.in_ok-part.ensures.boxed in
    record {
      extends = r.extends;
      resolves = record {
        stands_for = λ ls f. ap (test_in ls) b ∙ r.resolves.stands_for ls f;
        below = λ ls f. subst (IsTestBelow (length ls)) (sym b) (r.resolves.below ls f);
      };
    }

pub parts-returns : goal.parts-returns
parts-returns t c =
    let r1 = c.in_ok-left.ensures in
    let r2 = c.in_ok-right.ensures in
    record {
      extends = extends_on _ _ _ r1.extends r2.extends;
      first = resolves_on _ _ _ _ _ _ r2.extends r1.resolves;
      second = r2.resolves;
    }

-- ---- where memory is out

pub test-returns-in_err-left-in-Cmp : goal.test-returns-in_err-left-in-Cmp
test-returns-in_err-left-in-Cmp t c = rw (err_is c.from_residual.result c.in_err-left-in-Cmp.field-0.0 c.from_residual.ensures.1) (record { extends = tt; resolves = tt })

pub test-returns-in_err-operand-in-Not : goal.test-returns-in_err-operand-in-Not
test-returns-in_err-operand-in-Not t c = rw (err_is c.from_residual-in_err-operand-in-Not.result c.in_err-operand-in-Not.field-0.0 c.from_residual-in_err-operand-in-Not.ensures.1) (record { extends = tt; resolves = tt })

pub test-returns-in_err-left-in-And : goal.test-returns-in_err-left-in-And
test-returns-in_err-left-in-And t c = rw (err_is c.from_residual-in_err-left-in-And.result c.in_err-left-in-And.field-0.0 c.from_residual-in_err-left-in-And.ensures.1) (record { extends = tt; resolves = tt })

pub test-returns-in_err-left-in-Or : goal.test-returns-in_err-left-in-Or
test-returns-in_err-left-in-Or t c = rw (err_is c.from_residual-in_err-left-in-Or.result c.in_err-left-in-Or.field-0.0 c.from_residual-in_err-left-in-Or.ensures.1) (record { extends = tt; resolves = tt })

pub part-returns-in_err-test : goal.part-returns-in_err-test
part-returns-in_err-test t c = rw (err_is c.from_residual.result c.in_err-test.field-0.0 c.from_residual.ensures.1) (record { extends = tt; resolves = tt })

pub part-returns-in_err-part : goal.part-returns-in_err-part
part-returns-in_err-part t c = rw (err_is c.from_residual-in_err-part.result c.in_err-part.field-0.0 c.from_residual-in_err-part.ensures.1) (record { extends = tt; resolves = tt })

pub parts-returns-in_err-left : goal.parts-returns-in_err-left
parts-returns-in_err-left t c = rw (err_is c.from_residual.result c.in_err-left.field-0.0 c.from_residual.ensures.1) (record { extends = tt; first = tt; second = tt })

pub parts-returns-in_err-right : goal.parts-returns-in_err-right
parts-returns-in_err-right t c = rw (err_is c.from_residual-in_err-right.result c.in_err-right.field-0.0 c.from_residual-in_err-right.ensures.1) (record { extends = tt; first = tt; second = tt })
