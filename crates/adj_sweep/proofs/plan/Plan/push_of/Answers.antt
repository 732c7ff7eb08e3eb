use Rattle.std.proofs.Common.{◌∙◌, sym, ap, if◌then◌else◌}
use Rattle.adj_tree.specs.Code.{plain, none, push_word, push_array}
use Rattle.def_meaning.specs.Apart.{has_name}
use Rattle.adj_sweep.proofs.plan.Plan.push_of.Goals as goal

pub returns-then-has : goal.returns-then-has
returns-then-has c =
    let x = c.args.name in
    let has = sym (c.has.ensures.found ∙ ap (λ z. has_name z c.args.self.now.arrays.now) c.bytes.ensures.bytes) in
    record { call = ap (λ b. if b then push_array (plain x) else push_word (plain x) none) (sym (has ∙ c.if-has.true)) }

pub returns : goal.returns
returns c =
    let x = c.args.name in
    let has = sym (c.has.ensures.found ∙ ap (λ z. has_name z c.args.self.now.arrays.now) c.bytes.ensures.bytes) in
    record { call = ap (λ b. if b then push_array (plain x) else push_word (plain x) none) (sym (has ∙ c.if-has.false)) }
