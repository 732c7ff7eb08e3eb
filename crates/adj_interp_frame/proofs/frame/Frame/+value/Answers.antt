use Rattle.std.proofs.Common.{rules, FitsSigned, ◌<◌, ◌≡◌, ℕ, List, ◌∷◌, [], length, get_or, w64, Result, Ok, Err, ap, sym, subst, ◌∙◌, arith}
use Rattle.std.proofs.lemmas.Int.{to_z-of_z}
use Rattle.std.proofs.lemmas.List.{get_or_default}
use Rattle.adj_tree.specs.declared.value.Trap.{Trap as CodeTrap}
use Rattle.adj_tree.specs.View.{op_of}
use Rattle.def_meaning.specs.Trap.{Trap, index, or_trap, then_ok}
use Rattle.def_meaning.specs.Numbers.{operation, absolute}
use Rattle.def_meaning.specs.Store.{Store, cell_of}
use Rattle.def_meaning.specs.Value.{Setting, value, values, exponent_of, cell_at}
use Rattle.adj_interp_frame.specs.declared.slot.Slot.{Slot}
use Rattle.adj_interp_frame.specs.declared.term.Term.{Term, size-Term}
use Rattle.adj_interp_frame.specs.declared.term.Terms.{size-Terms}
use Rattle.adj_interp_frame.specs.declared.term.Term.TheViews.{sized-Elem, sized-Neg, sized-Bin, sized-Pow, sized-Power, sized-Abs, sized-More}
use Rattle.adj_interp_frame.specs.Prepared.{var_at, term_in, terms_in, IsTermBelow, AreTermsBelow}
use Rattle.adj_interp_frame.specs.Framed.{trap_of, result_of, zero_in, slot_shape, store_in, setting_in_slots}
use Rattle.adj_interp_frame.proofs.Reading.{read_cell, read_shape, chained, cell_there, only_one, first_known, first_trap}
use Rattle.adj_interp_frame.proofs.Giving.{chained_err}
use Rattle.adj_interp_frame.proofs.Failing.{err_is}
use Rattle.adj_interp_frame.proofs.frame.Frame.+value.Goals as goal

pub cell_behind-returns-in-Empty : goal.cell_behind-returns-in-Empty
cell_behind-returns-in-Empty g t c =
    let names = c.args.self.now.names.now in
    let vs = c.args.self.now.slots.items in
    let v = c.index.result.now in
    let row = c.args.row in
    let shape = read_shape names vs c.args.i v c.requires.framed c.requires.there in
    record {
      cell = rw c.in-Empty.is (c.in_list.ensures ∙ ap (λ z. or_trap index (cell_of (slot_shape v) (z ∷ []))) (to_z-of_z w64 row c.ranges.row)
          ∙ ap (λ (w : Slot _). or_trap index (cell_of (slot_shape w) (row ∷ []))) c.index.ensures ∙ ap (λ sh. or_trap index (cell_of sh (row ∷ []))) (sym shape));
    }

pub cell_behind-returns-in-Empty-deref : goal.cell_behind-returns-in-Empty-deref
cell_behind-returns-in-Empty-deref g t c =
    let names = c.args.self.now.names.now in
    let vs = c.args.self.now.slots.items in
    let v = c.index-in-Empty-deref.result.now in
    let row = c.args.row in
    let column = c.word-column.result in
    let z = c.in_ok-operand-in-More.field-0 in
    let n = setting_in_slots g.N.Number.numbers names vs in
    let s = store_in g.N.Number.numbers names vs in
    let shape = read_shape names vs c.args.i v c.requires.framed c.requires.there in
    let fits : FitsSigned w64 c.word-column.result = search rules in
    let no_more = ap (λ ts. values n (terms_in names ts) s) (sym c.deref-in-More.ensures ∙ c.in-Empty-deref.is) in
    record {
      cell = rw c.in-More.is (c.in_table.ensures
          ∙ (λ k. or_trap index (cell_of (slot_shape v) (to_z-of_z w64 row c.ranges.row k ∷ to_z-of_z w64 column fits k ∷ [])))
          ∙ ap (λ (w : Slot _). or_trap index (cell_of (slot_shape w) (row ∷ column ∷ []))) c.index-in-Empty-deref.ensures ∙ ap (λ sh. or_trap index (cell_of sh (row ∷ column ∷ []))) (sym shape)
          ∙ ap (λ u. cell_at n (var_at names c.args.i) (row ∷ u ∷ [])) c.word-column.ensures
          ∙ sym (only_one g.N.Number.numbers (value n (term_in names c.in-More.second.value) s) (values n (terms_in names c.in-More.others.value) s) (λ is. cell_at n (var_at names c.args.i) (row ∷ is)) z (c.in_ok-operand-in-More.ensures.value ∙ ap (λ e. value n (term_in names e) s) c.deref.ensures) no_more));
    }

pub value-index-requires-in-Elem-2 : goal.value-index-requires-in-Elem-2
value-index-requires-in-Elem-2 g t c =
    let names = c.args.self.now.names.now in
    let vs = c.args.self.now.slots.items in
    let v = c.index-in-Elem.result.now in
    let below = rw c.in-Elem.is at c.requires.below in
    let there = cell_there g.N.Number.numbers names vs c.in-Elem.i v (values (setting_in_slots g.N.Number.numbers names vs) (terms_in names c.in-Elem.subs) (store_in g.N.Number.numbers names vs)) c.in_ok-cell-in-Elem.cell c.requires.framed below.0 c.in_ok-cell-in-Elem.ensures.cell in
    let same = ap (λ (w : Slot _). length w.cells.items) c.index-in-Elem.ensures in
    let whole = c.index-in-Elem.result.now.cells.ok in
    omega (arith, there, same, whole)

pub value-returns-in-Var : goal.value-returns-in-Var
value-returns-in-Var g t c =
    let names = c.args.self.now.names.now in
    let vs = c.args.self.now.slots.items in
    let i = c.in-Var.i in
    let v = c.index.result.now in
    let below = rw c.in-Var.is at c.requires.below in
    record {
      value = rw c.in-Var.is (ap Ok (c.first.ensures ∙ ap (λ (w : Slot _). get_or w.cells.items 0 (zero_in g.N.Number.numbers)) c.index.ensures ∙ sym (read_cell g.N.Number.numbers names vs i v 0 c.requires.framed below)));
    }

pub value-returns-in_ok-cell-in-Elem : goal.value-returns-in_ok-cell-in-Elem
value-returns-in_ok-cell-in-Elem g t c =
    let names = c.args.self.now.names.now in
    let vs = c.args.self.now.slots.items in
    let i = c.in-Elem.i in
    let j = c.in_ok-cell-in-Elem.cell in
    let v = c.index-in-Elem.result.now in
    let below = rw c.in-Elem.is at c.requires.below in
    let n = setting_in_slots g.N.Number.numbers names vs in
    let x = var_at names i in
    let there = cell_there g.N.Number.numbers names vs i v (values n (terms_in names c.in-Elem.subs) (store_in g.N.Number.numbers names vs)) j c.requires.framed below.0 c.in_ok-cell-in-Elem.ensures.cell in
    let same = ap (λ (w : Slot _). length w.cells.items) c.index-in-Elem.ensures in
    let within : c.in_ok-cell-in-Elem.cell < length c.index-in-Elem.result.now.cells.items = omega (arith, there, same) in
    record {
      value = rw c.in-Elem.is (ap Ok (c.index-in-Elem-2.ensures ∙ get_or_default v.cells.items j c.index-in-Elem-2.result.now (zero_in g.N.Number.numbers) within ∙ ap (λ (w : Slot _). get_or w.cells.items j (zero_in g.N.Number.numbers)) c.index-in-Elem.ensures ∙ sym (read_cell g.N.Number.numbers names vs i v j c.requires.framed below.0))
          ∙ sym (chained (values n (terms_in names c.in-Elem.subs) (store_in g.N.Number.numbers names vs)) (λ is. cell_at n x is) (λ k. Ok (store_in g.N.Number.numbers names vs x k)) j c.in_ok-cell-in-Elem.ensures.cell));
    }

-- ---- operands that are evaluated before the operation

module _ {C : Type 0} (n : Setting C) (s : Store C) (names : List (List ℕ)) where
  -- what goes on with the value of an operand
  went : (f : C → Result C Trap) (d a : Term) (z : C) (r : Result C Trap) → d ≡ a → Ok z ≡ value n (term_in names d) s → r ≡ f z → r ≡ then_ok (value n (term_in names a) s) f
  went f d a z r q e h = h ∙ ap (λ w. then_ok w f) (e ∙ ap (λ x. value n (term_in names x) s) q)

  -- its trap is kept
  kept : (f : C → Result C Trap) (d a : Term) (t : CodeTrap) (r : Result C CodeTrap) → d ≡ a → result_of {A = C} (Err t) ≡ value n (term_in names d) s → r ≡ Err t → result_of r ≡ then_ok (value n (term_in names a) s) f
  kept f d a t r q e h = ap result_of h ∙ ap (λ w. then_ok w f) (e ∙ ap (λ x. value n (term_in names x) s) q)

  module _ (f : C → C → Result C Trap) (d a d2 b : Term) (z : C) where
    -- the same after a first operand
    went_second : (w : C) (r : Result C Trap) → d ≡ a → Ok z ≡ value n (term_in names d) s → d2 ≡ b → Ok w ≡ value n (term_in names d2) s → r ≡ f z w → r ≡ then_ok (value n (term_in names a) s) (λ u. then_ok (value n (term_in names b) s) (f u))
    went_second w r q e q2 e2 h = went (λ u. then_ok (value n (term_in names b) s) (f u)) d a z r q e (went (f z) d2 b w r q2 e2 h)

    kept_second : (t : CodeTrap) (r : Result C CodeTrap) → d ≡ a → Ok z ≡ value n (term_in names d) s → d2 ≡ b → result_of {A = C} (Err t) ≡ value n (term_in names d2) s → r ≡ Err t → result_of r ≡ then_ok (value n (term_in names a) s) (λ u. then_ok (value n (term_in names b) s) (f u))
    kept_second t r q e q2 e2 h = went (λ u. then_ok (value n (term_in names b) s) (f u)) d a z (result_of r) q e (kept (f z) d2 b t r q2 e2 h)

pub value-returns-in_ok-operand-in-Neg : goal.value-returns-in_ok-operand-in-Neg
value-returns-in_ok-operand-in-Neg g t c =
    let names = c.args.self.now.names.now in
    let vs = c.args.self.now.slots.items in
    let numbers = g.N.Number.numbers in
    let n = setting_in_slots numbers names vs in
    let s = store_in numbers names vs in
    record { value = rw c.in-Neg.is (went n s names (λ u. Ok (numbers.negation u)) c.deref.result.now c.in-Neg.a.value c.in_ok-operand-in-Neg.field-0 (Ok c.negation.result) c.deref.ensures c.in_ok-operand-in-Neg.ensures.value (ap Ok c.negation.ensures)) }

pub value-returns-in_err-operand-in-Neg : goal.value-returns-in_err-operand-in-Neg
value-returns-in_err-operand-in-Neg g t c =
    let names = c.args.self.now.names.now in
    let vs = c.args.self.now.slots.items in
    let numbers = g.N.Number.numbers in
    let n = setting_in_slots numbers names vs in
    let s = store_in numbers names vs in
    let r = err_is c.from_residual-in_err-operand-in-Neg.result c.in_err-operand-in-Neg.field-0.0 c.from_residual-in_err-operand-in-Neg.ensures.1 in
    record { value = rw c.in-Neg.is (kept n s names (λ u. Ok (numbers.negation u)) c.deref.result.now c.in-Neg.a.value c.in_err-operand-in-Neg.field-0.0 c.from_residual-in_err-operand-in-Neg.result c.deref.ensures c.in_err-operand-in-Neg.ensures.value r) }

pub value-returns-in_ok-operand-in-Pow : goal.value-returns-in_ok-operand-in-Pow
value-returns-in_ok-operand-in-Pow g t c =
    let names = c.args.self.now.names.now in
    let vs = c.args.self.now.slots.items in
    let numbers = g.N.Number.numbers in
    let n = setting_in_slots numbers names vs in
    let s = store_in numbers names vs in
    record { value = rw c.in-Pow.is (went n s names (λ u. Ok (numbers.raised_to u c.in-Pow.power)) c.deref-in-Pow.result.now c.in-Pow.a.value c.in_ok-operand-in-Pow.field-0 (Ok c.power.result) c.deref-in-Pow.ensures c.in_ok-operand-in-Pow.ensures.value (ap Ok c.power.ensures)) }

pub value-returns-in_err-operand-in-Pow : goal.value-returns-in_err-operand-in-Pow
value-returns-in_err-operand-in-Pow g t c =
    let names = c.args.self.now.names.now in
    let vs = c.args.self.now.slots.items in
    let numbers = g.N.Number.numbers in
    let n = setting_in_slots numbers names vs in
    let s = store_in numbers names vs in
    let r = err_is c.from_residual-in_err-operand-in-Pow.result c.in_err-operand-in-Pow.field-0.0 c.from_residual-in_err-operand-in-Pow.ensures.1 in
    record { value = rw c.in-Pow.is (kept n s names (λ u. Ok (numbers.raised_to u c.in-Pow.power)) c.deref-in-Pow.result.now c.in-Pow.a.value c.in_err-operand-in-Pow.field-0.0 c.from_residual-in_err-operand-in-Pow.result c.deref-in-Pow.ensures c.in_err-operand-in-Pow.ensures.value r) }

pub value-returns-in_ok-operand-in-Abs : goal.value-returns-in_ok-operand-in-Abs
value-returns-in_ok-operand-in-Abs g t c =
    let names = c.args.self.now.names.now in
    let vs = c.args.self.now.slots.items in
    let numbers = g.N.Number.numbers in
    let n = setting_in_slots numbers names vs in
    let s = store_in numbers names vs in
    record { value = rw c.in-Abs.is (went n s names (λ u. Ok (absolute numbers u)) c.deref-in-Abs.result.now c.in-Abs.a.value c.in_ok-operand-in-Abs.field-0 (Ok c.absolute.result) c.deref-in-Abs.ensures c.in_ok-operand-in-Abs.ensures.value (ap Ok c.absolute.ensures)) }

pub value-returns-in_err-operand-in-Abs : goal.value-returns-in_err-operand-in-Abs
value-returns-in_err-operand-in-Abs g t c =
    let names = c.args.self.now.names.now in
    let vs = c.args.self.now.slots.items in
    let numbers = g.N.Number.numbers in
    let n = setting_in_slots numbers names vs in
    let s = store_in numbers names vs in
    let r = err_is c.from_residual-in_err-operand-in-Abs.result c.in_err-operand-in-Abs.field-0.0 c.from_residual-in_err-operand-in-Abs.ensures.1 in
    record { value = rw c.in-Abs.is (kept n s names (λ u. Ok (absolute numbers u)) c.deref-in-Abs.result.now c.in-Abs.a.value c.in_err-operand-in-Abs.field-0.0 c.from_residual-in_err-operand-in-Abs.result c.deref-in-Abs.ensures c.in_err-operand-in-Abs.ensures.value r) }

pub value-returns-in_err-left-in-Bin : goal.value-returns-in_err-left-in-Bin
value-returns-in_err-left-in-Bin g t c =
    let names = c.args.self.now.names.now in
    let vs = c.args.self.now.slots.items in
    let numbers = g.N.Number.numbers in
    let n = setting_in_slots numbers names vs in
    let s = store_in numbers names vs in
    let r = err_is c.from_residual-in_err-left-in-Bin.result c.in_err-left-in-Bin.field-0.0 c.from_residual-in_err-left-in-Bin.ensures.1 in
    record { value = rw c.in-Bin.is (kept n s names (λ u. then_ok (value n (term_in names c.in-Bin.b.value) s) (λ v. operation numbers (op_of c.in-Bin.op) u v)) c.deref-in-Bin.result.now c.in-Bin.a.value c.in_err-left-in-Bin.field-0.0 c.from_residual-in_err-left-in-Bin.result c.deref-in-Bin.ensures c.in_err-left-in-Bin.ensures.value r) }

pub value-returns-in_err-right-in-Bin : goal.value-returns-in_err-right-in-Bin
value-returns-in_err-right-in-Bin g t c =
    let names = c.args.self.now.names.now in
    let vs = c.args.self.now.slots.items in
    let numbers = g.N.Number.numbers in
    let n = setting_in_slots numbers names vs in
    let s = store_in numbers names vs in
    let r = err_is c.from_residual-in_err-right-in-Bin.result c.in_err-right-in-Bin.field-0.0 c.from_residual-in_err-right-in-Bin.ensures.1 in
    record { value = rw c.in-Bin.is (kept_second n s names (λ u v. operation numbers (op_of c.in-Bin.op) u v) c.deref-in-Bin.result.now c.in-Bin.a.value c.deref-in-Bin-2.result.now c.in-Bin.b.value c.in_ok-left-in-Bin.left c.in_err-right-in-Bin.field-0.0 c.from_residual-in_err-right-in-Bin.result c.deref-in-Bin.ensures c.in_ok-left-in-Bin.ensures.value c.deref-in-Bin-2.ensures c.in_err-right-in-Bin.ensures.value r) }

pub value-returns-in_ok-right-in-Bin : goal.value-returns-in_ok-right-in-Bin
value-returns-in_ok-right-in-Bin g t c =
    let names = c.args.self.now.names.now in
    let vs = c.args.self.now.slots.items in
    let numbers = g.N.Number.numbers in
    let n = setting_in_slots numbers names vs in
    let s = store_in numbers names vs in
    record { value = rw c.in-Bin.is (went_second n s names (λ u v. operation numbers (op_of c.in-Bin.op) u v) c.deref-in-Bin.result.now c.in-Bin.a.value c.deref-in-Bin-2.result.now c.in-Bin.b.value c.in_ok-left-in-Bin.left c.in_ok-right-in-Bin.right (result_of c.operation.result) c.deref-in-Bin.ensures c.in_ok-left-in-Bin.ensures.value c.deref-in-Bin-2.ensures c.in_ok-right-in-Bin.ensures.value c.operation.ensures) }

pub value-returns-in_err-base-in-Power : goal.value-returns-in_err-base-in-Power
value-returns-in_err-base-in-Power g t c =
    let names = c.args.self.now.names.now in
    let vs = c.args.self.now.slots.items in
    let numbers = g.N.Number.numbers in
    let n = setting_in_slots numbers names vs in
    let s = store_in numbers names vs in
    let r = err_is c.from_residual-in_err-base-in-Power.result c.in_err-base-in-Power.field-0.0 c.from_residual-in_err-base-in-Power.ensures.1 in
    record { value = rw c.in-Power.is (kept n s names (λ u. then_ok (value n (term_in names c.in-Power.b.value) s) (λ v. then_ok (exponent_of (numbers.shown v)) (λ k. Ok (numbers.raised_to u k)))) c.deref-in-Power.result.now c.in-Power.a.value c.in_err-base-in-Power.field-0.0 c.from_residual-in_err-base-in-Power.result c.deref-in-Power.ensures c.in_err-base-in-Power.ensures.value r) }

pub value-returns-in_err-operand-in-Power : goal.value-returns-in_err-operand-in-Power
value-returns-in_err-operand-in-Power g t c =
    let names = c.args.self.now.names.now in
    let vs = c.args.self.now.slots.items in
    let numbers = g.N.Number.numbers in
    let n = setting_in_slots numbers names vs in
    let s = store_in numbers names vs in
    let r = err_is c.from_residual-in_err-operand-in-Power.result c.in_err-operand-in-Power.field-0.0 c.from_residual-in_err-operand-in-Power.ensures.1 in
    record { value = rw c.in-Power.is (kept_second n s names (λ u v. then_ok (exponent_of (numbers.shown v)) (λ k. Ok (numbers.raised_to u k))) c.deref-in-Power.result.now c.in-Power.a.value c.deref-in-Power-2.result.now c.in-Power.b.value c.in_ok-base-in-Power.base c.in_err-operand-in-Power.field-0.0 c.from_residual-in_err-operand-in-Power.result c.deref-in-Power.ensures c.in_ok-base-in-Power.ensures.value c.deref-in-Power-2.ensures c.in_err-operand-in-Power.ensures.value r) }

pub value-returns-in_err-power-in-Power : goal.value-returns-in_err-power-in-Power
value-returns-in_err-power-in-Power g t c =
    let names = c.args.self.now.names.now in
    let vs = c.args.self.now.slots.items in
    let numbers = g.N.Number.numbers in
    let n = setting_in_slots numbers names vs in
    let s = store_in numbers names vs in
    let fits : FitsSigned w64 c.word.result = search rules in
    let r = err_is c.from_residual-in_err-power-in-Power.result c.in_err-power-in-Power.field-0.0 c.from_residual-in_err-power-in-Power.ensures.1 in
    record { value = rw c.in-Power.is (went_second n s names (λ u v. then_ok (exponent_of (numbers.shown v)) (λ k. Ok (numbers.raised_to u k))) c.deref-in-Power.result.now c.in-Power.a.value c.deref-in-Power-2.result.now c.in-Power.b.value c.in_ok-base-in-Power.base c.in_ok-operand-in-Power.field-0 (result_of c.from_residual-in_err-power-in-Power.result) c.deref-in-Power.ensures c.in_ok-base-in-Power.ensures.value c.deref-in-Power-2.ensures c.in_ok-operand-in-Power.ensures.value (ap result_of r ∙ ap (λ x. then_ok x (λ k. Ok (numbers.raised_to c.in_ok-base-in-Power.base k))) (c.in_err-power-in-Power.ensures ∙ ap exponent_of (to_z-of_z w64 c.word.result fits ∙ c.word.ensures)))) }

pub value-returns-in_ok-power-in-Power : goal.value-returns-in_ok-power-in-Power
value-returns-in_ok-power-in-Power g t c =
    let names = c.args.self.now.names.now in
    let vs = c.args.self.now.slots.items in
    let numbers = g.N.Number.numbers in
    let n = setting_in_slots numbers names vs in
    let s = store_in numbers names vs in
    let fits : FitsSigned w64 c.word.result = search rules in
    record { value = rw c.in-Power.is (went_second n s names (λ u v. then_ok (exponent_of (numbers.shown v)) (λ k. Ok (numbers.raised_to u k))) c.deref-in-Power.result.now c.in-Power.a.value c.deref-in-Power-2.result.now c.in-Power.b.value c.in_ok-base-in-Power.base c.in_ok-operand-in-Power.field-0 (Ok c.power-in-Power.result) c.deref-in-Power.ensures c.in_ok-base-in-Power.ensures.value c.deref-in-Power-2.ensures c.in_ok-operand-in-Power.ensures.value (ap Ok c.power-in-Power.ensures ∙ ap (λ x. then_ok x (λ k. Ok (numbers.raised_to c.in_ok-base-in-Power.base k))) (c.in_ok-power-in-Power.ensures ∙ ap exponent_of (to_z-of_z w64 c.word.result fits ∙ c.word.ensures)))) }

-- ---- operands are smaller, and their numbers have slots

pub value-operand-requires : goal.value-operand-requires
value-operand-requires g t c κs alive =
    let below = rw c.in-Neg.is at c.requires.below in
    let whole = sized-Neg c.in-Neg.a in
    let was = ap size-Term c.in-Neg.is in
    let left = ap size-Term c.deref.ensures in
    (omega (arith, c.decreases, whole, was, left), (alive, (c.requires.framed, subst (IsTermBelow (length c.args.self.now.slots.items)) (sym c.deref.ensures) below)))

pub value-nested-requires : goal.value-nested-requires
value-nested-requires g t c κs alive =
    let below = rw c.in-Bin.is at c.requires.below in
    let whole = sized-Bin c.in-Bin.op c.in-Bin.a c.in-Bin.b in
    let was = ap size-Term c.in-Bin.is in
    let left = ap size-Term c.deref-in-Bin.ensures in
    (omega (arith, c.decreases, whole, was, left), (alive, (c.requires.framed, subst (IsTermBelow (length c.args.self.now.slots.items)) (sym c.deref-in-Bin.ensures) below.0)))

pub value-nested-requires-in-Bin : goal.value-nested-requires-in-Bin
value-nested-requires-in-Bin g t c κs alive =
    let below = rw c.in-Bin.is at c.requires.below in
    let whole = sized-Bin c.in-Bin.op c.in-Bin.a c.in-Bin.b in
    let was = ap size-Term c.in-Bin.is in
    let left = ap size-Term c.deref-in-Bin-2.ensures in
    (omega (arith, c.decreases, whole, was, left), (alive, (c.requires.framed, subst (IsTermBelow (length c.args.self.now.slots.items)) (sym c.deref-in-Bin-2.ensures) below.1)))

pub value-operand-requires-in-Pow : goal.value-operand-requires-in-Pow
value-operand-requires-in-Pow g t c κs alive =
    let below = rw c.in-Pow.is at c.requires.below in
    let whole = sized-Pow c.in-Pow.a c.in-Pow.power in
    let was = ap size-Term c.in-Pow.is in
    let left = ap size-Term c.deref-in-Pow.ensures in
    (omega (arith, c.decreases, whole, was, left), (alive, (c.requires.framed, subst (IsTermBelow (length c.args.self.now.slots.items)) (sym c.deref-in-Pow.ensures) below)))

pub value-operand-requires-in-Power : goal.value-operand-requires-in-Power
value-operand-requires-in-Power g t c κs alive =
    let below = rw c.in-Power.is at c.requires.below in
    let whole = sized-Power c.in-Power.a c.in-Power.b in
    let was = ap size-Term c.in-Power.is in
    let left = ap size-Term c.deref-in-Power.ensures in
    (omega (arith, c.decreases, whole, was, left), (alive, (c.requires.framed, subst (IsTermBelow (length c.args.self.now.slots.items)) (sym c.deref-in-Power.ensures) below.0)))

pub value-operand-requires-in-Power-2 : goal.value-operand-requires-in-Power-2
value-operand-requires-in-Power-2 g t c κs alive =
    let below = rw c.in-Power.is at c.requires.below in
    let whole = sized-Power c.in-Power.a c.in-Power.b in
    let was = ap size-Term c.in-Power.is in
    let left = ap size-Term c.deref-in-Power-2.ensures in
    (omega (arith, c.decreases, whole, was, left), (alive, (c.requires.framed, subst (IsTermBelow (length c.args.self.now.slots.items)) (sym c.deref-in-Power-2.ensures) below.1)))

pub value-operand-requires-in-Abs : goal.value-operand-requires-in-Abs
value-operand-requires-in-Abs g t c κs alive =
    let below = rw c.in-Abs.is at c.requires.below in
    let whole = sized-Abs c.in-Abs.a in
    let was = ap size-Term c.in-Abs.is in
    let left = ap size-Term c.deref-in-Abs.ensures in
    (omega (arith, c.decreases, whole, was, left), (alive, (c.requires.framed, subst (IsTermBelow (length c.args.self.now.slots.items)) (sym c.deref-in-Abs.ensures) below)))

pub value-cell-requires : goal.value-cell-requires
value-cell-requires g t c κs alive =
    let below = rw c.in-Elem.is at c.requires.below in
    let whole = sized-Elem c.in-Elem.i c.in-Elem.subs in
    let was = ap size-Term c.in-Elem.is in
    (omega (arith, c.decreases, whole, was), (alive, (c.requires.framed, (below.0, below.1))))

pub operand-value-requires : goal.operand-value-requires
operand-value-requires g t c κs alive = (omega (arith, c.decreases), (alive, (c.requires.framed, c.requires.below)))

pub cell-operand-requires : goal.cell-operand-requires
cell-operand-requires g t c κs alive =
    let below = rw c.in-More.is at c.requires.below in
    let whole = sized-More c.in-More.first c.in-More.rest in
    let was = ap size-Terms c.in-More.is in
    let left = ap size-Term c.deref.ensures in
    (omega (arith, c.decreases, whole, was, left), (alive, (c.requires.framed, subst (IsTermBelow (length c.args.self.now.slots.items)) (sym c.deref.ensures) below.0)))

pub cell_behind-operand-requires : goal.cell_behind-operand-requires
cell_behind-operand-requires g t c κs alive =
    let below = rw c.in-More.is at c.requires.below in
    let whole = sized-More c.in-More.second c.in-More.others in
    let was = ap size-Terms c.in-More.is in
    let left = ap size-Term c.deref.ensures in
    (omega (arith, c.decreases, whole, was, left), (alive, (c.requires.framed, subst (IsTermBelow (length c.args.self.now.slots.items)) (sym c.deref.ensures) below.0)))

-- ---- subscripts in order

pub cell-returns-in_ok-operand-in-More : goal.cell-returns-in_ok-operand-in-More
cell-returns-in_ok-operand-in-More g t c =
    let names = c.args.self.now.names.now in
    let vs = c.args.self.now.slots.items in
    let n = setting_in_slots g.N.Number.numbers names vs in
    let s = store_in g.N.Number.numbers names vs in
    let x = var_at names c.args.i in
    let fits : FitsSigned w64 c.word-row.result = search rules in
    record {
      cell = rw c.in-More.is (c.cell_behind.ensures.cell
          ∙ (λ k. then_ok (values n (terms_in names (c.deref-in-More.ensures k)) s) (λ is. cell_at n x ((to_z-of_z w64 c.word-row.result fits ∙ c.word-row.ensures) k ∷ is)))
          ∙ sym (first_known g.N.Number.numbers (value n (term_in names c.in-More.first.value) s) (values n (terms_in names c.in-More.rest.value) s) (λ is. cell_at n x is) c.in_ok-operand-in-More.field-0 (c.in_ok-operand-in-More.ensures.value ∙ ap (λ e. value n (term_in names e) s) c.deref.ensures)));
    }

pub each_value-loop-current-preserved : goal.each_value-loop-current-preserved
each_value-loop-current-preserved g t c =
    let names = c.args.self.now.names.now in
    let vs = c.args.self.now.slots.items in
    let n = setting_in_slots g.N.Number.numbers names vs in
    let s = store_in g.N.Number.numbers names vs in
    let inv = c.loop-current.invariant in
    let below = rw c.in-More.is at inv.below in
    record {
      no_deeper =
          let whole = sized-More c.in-More.first c.in-More.rest in
          let was = ap size-Terms c.in-More.is in
          let left = ap size-Terms c.deref-current.ensures in
          let earlier = inv.no_deeper in
          omega (arith, whole, was, left, earlier);
      below = subst (AreTermsBelow (length vs)) (sym c.deref-current.ensures) below.1;
      traps = ap (λ ts. then_ok (values n (terms_in names ts) s) (λ is. Ok (tt {0}))) c.deref-current.ensures
          ∙ sym (first_known g.N.Number.numbers (value n (term_in names c.in-More.first.value) s) (values n (terms_in names c.in-More.rest.value) s) (λ is. Ok (tt {0})) c.in_ok-value.field-0 (c.in_ok-value.ensures.value ∙ ap (λ e. value n (term_in names e) s) c.deref.ensures))
          ∙ ap (λ ts. then_ok (values n (terms_in names ts) s) (λ is. Ok (tt {0}))) (sym c.in-More.is)
          ∙ inv.traps;
    }

-- ---- traps

pub value-returns-in_err-cell-in-Elem : goal.value-returns-in_err-cell-in-Elem
value-returns-in_err-cell-in-Elem g _ c =
    let names = c.args.self.now.names.now in
    let vs = c.args.self.now.slots.items in
    let n = setting_in_slots g.N.Number.numbers names vs in
    let s = store_in g.N.Number.numbers names vs in
    let x = var_at names c.in-Elem.i in
    let t = c.in_err-cell-in-Elem.field-0.0 in
    let r = err_is c.from_residual.result t c.from_residual.ensures.1 in
    record { value = rw c.in-Elem.is (ap result_of r ∙ sym (chained_err (values n (terms_in names c.in-Elem.subs) s) (λ is. cell_at n x is) (λ k. Ok (s x k)) (trap_of t) c.in_err-cell-in-Elem.ensures.cell)) }

pub cell-returns-in_err-operand-in-More : goal.cell-returns-in_err-operand-in-More
cell-returns-in_err-operand-in-More g _ c =
    let names = c.args.self.now.names.now in
    let vs = c.args.self.now.slots.items in
    let n = setting_in_slots g.N.Number.numbers names vs in
    let s = store_in g.N.Number.numbers names vs in
    let x = var_at names c.args.i in
    let t = c.in_err-operand-in-More.field-0.0 in
    let r = err_is c.from_residual.result t c.from_residual.ensures.1 in
    record { cell = rw c.in-More.is (ap result_of r ∙ sym (first_trap g.N.Number.numbers (value n (term_in names c.in-More.first.value) s) (values n (terms_in names c.in-More.rest.value) s) (λ is. cell_at n x is) (trap_of t) (c.in_err-operand-in-More.ensures.value ∙ ap (λ e. value n (term_in names e) s) c.deref.ensures))) }

pub cell_behind-returns-in_err-operand-in-More : goal.cell_behind-returns-in_err-operand-in-More
cell_behind-returns-in_err-operand-in-More g _ c =
    let names = c.args.self.now.names.now in
    let vs = c.args.self.now.slots.items in
    let n = setting_in_slots g.N.Number.numbers names vs in
    let s = store_in g.N.Number.numbers names vs in
    let x = var_at names c.args.i in
    let t = c.in_err-operand-in-More.field-0.0 in
    let r = err_is c.from_residual.result t c.from_residual.ensures.1 in
    record { cell = rw c.in-More.is (ap result_of r ∙ sym (first_trap g.N.Number.numbers (value n (term_in names c.in-More.second.value) s) (values n (terms_in names c.in-More.others.value) s) (λ is. cell_at n x (c.args.row ∷ is)) (trap_of t) (c.in_err-operand-in-More.ensures.value ∙ ap (λ e. value n (term_in names e) s) c.deref.ensures))) }

pub each_value-returns-in_err-value : goal.each_value-returns-in_err-value
each_value-returns-in_err-value g _ c =
    let names = c.args.self.now.names.now in
    let vs = c.args.self.now.slots.items in
    let n = setting_in_slots g.N.Number.numbers names vs in
    let s = store_in g.N.Number.numbers names vs in
    let t = c.in_err-value.field-0.0 in
    let r = err_is c.from_residual.result t c.from_residual.ensures.1 in
    record {
      traps = ap result_of r
          ∙ sym (first_trap g.N.Number.numbers (value n (term_in names c.in-More.first.value) s) (values n (terms_in names c.in-More.rest.value) s) (λ is. Ok (tt {0})) (trap_of t) (c.in_err-value.ensures.value ∙ ap (λ e. value n (term_in names e) s) c.deref.ensures))
          ∙ ap (λ ts. then_ok (values n (terms_in names ts) s) (λ is. Ok (tt {0}))) (sym c.in-More.is)
          ∙ c.loop-current.invariant.traps;
    }
