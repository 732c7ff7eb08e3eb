use Rattle.std.proofs.Common.{Ok, ap, ◌∙◌, ◌&&◌, ◌||◌, not}
use Rattle.adj_tree.specs.View.{rel_of}
use Rattle.def_meaning.specs.Trap.{then_ok}
use Rattle.def_meaning.specs.Numbers.{compares}
use Rattle.def_meaning.specs.Value.{value, holds}
use Rattle.adj_interp_frame.specs.Prepared.{term_in, test_in}
use Rattle.adj_interp_frame.specs.Framed.{trap_of, result_of, store_in, setting_in_slots}
use Rattle.adj_interp_frame.proofs.Failing.{err_is}
use Rattle.adj_interp_frame.proofs.Reading.{went_on, trapped}
use Rattle.adj_interp_frame.proofs.frame.Frame.+holds.Goals as goal

pub returns-in_err-left-in-Cmp : goal.returns-in_err-left-in-Cmp
returns-in_err-left-in-Cmp g _ c =
    let names = c.args.self.now.names.now in
    let vs = c.args.self.now.slots.items in
    let n = setting_in_slots g.N.Number.numbers names vs in
    let s = store_in g.N.Number.numbers names vs in
    let t = c.in_err-left-in-Cmp.field-0.0 in
    let r = err_is c.from_residual.result t c.from_residual.ensures.1 in
    record { holds = rw c.in-Cmp.is (ap result_of r ∙ trapped (value n (term_in names c.in-Cmp.a.value) s) (λ u. then_ok (value n (term_in names c.in-Cmp.b.value) s) (λ v. Ok (compares (rel_of c.in-Cmp.rel) (g.N.Number.numbers.shown u) (g.N.Number.numbers.shown v)))) (trap_of t) (c.in_err-left-in-Cmp.ensures.value ∙ ap (λ e. value n (term_in names e) s) c.deref.ensures)) }

pub returns-in_err-right-in-Cmp : goal.returns-in_err-right-in-Cmp
returns-in_err-right-in-Cmp g _ c =
    let names = c.args.self.now.names.now in
    let vs = c.args.self.now.slots.items in
    let n = setting_in_slots g.N.Number.numbers names vs in
    let s = store_in g.N.Number.numbers names vs in
    let t = c.in_err-right-in-Cmp.field-0.0 in
    let r = err_is c.from_residual-in_err-right-in-Cmp.result t c.from_residual-in_err-right-in-Cmp.ensures.1 in
    record { holds = rw c.in-Cmp.is (ap result_of r ∙ trapped (value n (term_in names c.in-Cmp.b.value) s) (λ v. Ok (compares (rel_of c.in-Cmp.rel) (g.N.Number.numbers.shown c.in_ok-left-in-Cmp.left) (g.N.Number.numbers.shown v))) (trap_of t) (c.in_err-right-in-Cmp.ensures.value ∙ ap (λ e. value n (term_in names e) s) c.deref-in-Cmp.ensures) ∙ went_on (value n (term_in names c.in-Cmp.a.value) s) (λ u. then_ok (value n (term_in names c.in-Cmp.b.value) s) (λ v. Ok (compares (rel_of c.in-Cmp.rel) (g.N.Number.numbers.shown u) (g.N.Number.numbers.shown v)))) c.in_ok-left-in-Cmp.left (c.in_ok-left-in-Cmp.ensures.value ∙ ap (λ e. value n (term_in names e) s) c.deref.ensures)) }

pub returns-in_err-holds-in-Not : goal.returns-in_err-holds-in-Not
returns-in_err-holds-in-Not g _ c =
    let names = c.args.self.now.names.now in
    let vs = c.args.self.now.slots.items in
    let n = setting_in_slots g.N.Number.numbers names vs in
    let s = store_in g.N.Number.numbers names vs in
    let t = c.in_err-holds-in-Not.field-0.0 in
    let r = err_is c.from_residual-in_err-holds-in-Not.result t c.from_residual-in_err-holds-in-Not.ensures.1 in
    record { holds = rw c.in-Not.is (ap result_of r ∙ trapped (holds n (test_in names c.in-Not.c.value) s) (λ p. Ok (not p)) (trap_of t) (c.in_err-holds-in-Not.ensures.holds ∙ ap (λ e. holds n (test_in names e) s) c.deref-in-Not.ensures)) }

pub returns-in_err-left-in-And : goal.returns-in_err-left-in-And
returns-in_err-left-in-And g _ c =
    let names = c.args.self.now.names.now in
    let vs = c.args.self.now.slots.items in
    let n = setting_in_slots g.N.Number.numbers names vs in
    let s = store_in g.N.Number.numbers names vs in
    let t = c.in_err-left-in-And.field-0.0 in
    let r = err_is c.from_residual-in_err-left-in-And.result t c.from_residual-in_err-left-in-And.ensures.1 in
    record { holds = rw c.in-And.is (ap result_of r ∙ trapped (holds n (test_in names c.in-And.c.value) s) (λ p. then_ok (holds n (test_in names c.in-And.d.value) s) (λ q. Ok (p && q))) (trap_of t) (c.in_err-left-in-And.ensures.holds ∙ ap (λ e. holds n (test_in names e) s) c.deref-in-And.ensures)) }

pub returns-in_err-right-in-And : goal.returns-in_err-right-in-And
returns-in_err-right-in-And g _ c =
    let names = c.args.self.now.names.now in
    let vs = c.args.self.now.slots.items in
    let n = setting_in_slots g.N.Number.numbers names vs in
    let s = store_in g.N.Number.numbers names vs in
    let t = c.in_err-right-in-And.field-0.0 in
    let r = err_is c.from_residual-in_err-right-in-And.result t c.from_residual-in_err-right-in-And.ensures.1 in
    record { holds = rw c.in-And.is (ap result_of r ∙ trapped (holds n (test_in names c.in-And.d.value) s) (λ q. Ok (c.in_ok-left-in-And.left && q)) (trap_of t) (c.in_err-right-in-And.ensures.holds ∙ ap (λ e. holds n (test_in names e) s) c.deref-in-And-2.ensures) ∙ went_on (holds n (test_in names c.in-And.c.value) s) (λ p. then_ok (holds n (test_in names c.in-And.d.value) s) (λ q. Ok (p && q))) c.in_ok-left-in-And.left (c.in_ok-left-in-And.ensures.holds ∙ ap (λ e. holds n (test_in names e) s) c.deref-in-And.ensures)) }

pub returns-in_err-left-in-Or : goal.returns-in_err-left-in-Or
returns-in_err-left-in-Or g _ c =
    let names = c.args.self.now.names.now in
    let vs = c.args.self.now.slots.items in
    let n = setting_in_slots g.N.Number.numbers names vs in
    let s = store_in g.N.Number.numbers names vs in
    let t = c.in_err-left-in-Or.field-0.0 in
    let r = err_is c.from_residual-in_err-left-in-Or.result t c.from_residual-in_err-left-in-Or.ensures.1 in
    record { holds = rw c.in-Or.is (ap result_of r ∙ trapped (holds n (test_in names c.in-Or.c.value) s) (λ p. then_ok (holds n (test_in names c.in-Or.d.value) s) (λ q. Ok (p || q))) (trap_of t) (c.in_err-left-in-Or.ensures.holds ∙ ap (λ e. holds n (test_in names e) s) c.deref-in-Or.ensures)) }

pub returns-in_err-right-in-Or : goal.returns-in_err-right-in-Or
returns-in_err-right-in-Or g _ c =
    let names = c.args.self.now.names.now in
    let vs = c.args.self.now.slots.items in
    let n = setting_in_slots g.N.Number.numbers names vs in
    let s = store_in g.N.Number.numbers names vs in
    let t = c.in_err-right-in-Or.field-0.0 in
    let r = err_is c.from_residual-in_err-right-in-Or.result t c.from_residual-in_err-right-in-Or.ensures.1 in
    record { holds = rw c.in-Or.is (ap result_of r ∙ trapped (holds n (test_in names c.in-Or.d.value) s) (λ q. Ok (c.in_ok-left-in-Or.left || q)) (trap_of t) (c.in_err-right-in-Or.ensures.holds ∙ ap (λ e. holds n (test_in names e) s) c.deref-in-Or-2.ensures) ∙ went_on (holds n (test_in names c.in-Or.c.value) s) (λ p. then_ok (holds n (test_in names c.in-Or.d.value) s) (λ q. Ok (p || q))) c.in_ok-left-in-Or.left (c.in_ok-left-in-Or.ensures.holds ∙ ap (λ e. holds n (test_in names e) s) c.deref-in-Or.ensures)) }
