use Rattle.std.proofs.Common.{◌≡◌, ◌++◌, ◌∷◌, [], ◌+◌, ◌<◌, ◌≤◌, map, length, get_or, drop, drop_of_length-le, length-append, ap, ◌∙◌, sym, subst}
use Rattle.std.proofs.lemmas.List.{length-map}
use Rattle.def_names.specs.Fresh.{fresh}
use Rattle.def_sweep.specs.Naming.{named_for, wanted_for}
use Rattle.adj_naming.specs.declared.role.Role.TheVariants.{Work}
use Rattle.adj_naming.specs.declared.role.Helper.{Helper}
use Rattle.adj_naming.specs.Roles.{variable_of}
use Rattle.adj_naming.specs.Texts.{derived_of}
use Rattle.adj_naming.specs.Table.{paired}
use Rattle.adj_naming.proofs.Making.{paired-empty, named_step}
use Rattle.adj_naming.proofs.Places.{mapped_at, get_or_any}
use Rattle.adj_naming.proofs.naming.helper_names.Goals as goal

pub loop-helper-init : goal.loop-helper-init
loop-helper-init c =
    let o = derived_of c.args.derived in
    let vs = map variable_of c.args.helpers.now in
    record {
      count = ap length c.new-made.ensures.items;
      names = λ rest. ap (λ ns. ns ++ named_for o c.args.taken.now (vs ++ rest)) (ap (paired vs) c.new-made.ensures.items ∙ paired-empty vs);
    }

pub loop-helper-preserved : goal.loop-helper-preserved
loop-helper-preserved c =
    let o = derived_of c.args.derived in
    let xs = c.args.helpers.now in
    let vs = map variable_of xs in
    let made = c.loop-helper.made.items in
    let taken = c.loop-helper.taken in
    let i = c.loop-helper.helper-index in
    let missing : Helper = record { role = Work; number = 0 } in
    let h = get_or xs i missing in
    let v = variable_of h in
    let name = c.in_ok-name.name in
    let is : name ≡ fresh (wanted_for o v) taken = c.in_ok-name.ensures.name ∙ ap (λ b. fresh b taken) (c.bytes.ensures.bytes ∙ c.in_ok-base.ensures.name) in
    let added : c.push.new.self.items ≡ made ++ (name ∷ []) = c.in_ok-push.ensures.items in
    record {
      count = ap length added ∙ length-append made (name ∷ []) ∙ ap (λ z. z + 1) c.loop-helper.invariant.count;
      names = λ rest.
          (λ k. paired vs (added k) ++ named_for o (c.in_ok-name.ensures.taken k) (drop (i + 1) vs ++ rest))
          ∙ named_step o vs made taken name v i rest c.loop-helper.invariant.count (subst (λ m. i < m) (sym (length-map xs variable_of)) c.loop-helper-test.true) (mapped_at variable_of xs i h c.loop-helper-test.true (get_or_any xs i missing h c.loop-helper-test.true)) is
          ∙ c.loop-helper.invariant.names rest;
    }

pub returns : goal.returns
returns c =
    let o = derived_of c.args.derived in
    let xs = c.args.helpers.now in
    let vs = map variable_of xs in
    record {
      helpers = λ rest.
          ap (λ ws. paired vs c.loop-helper.made.items ++ named_for o c.loop-helper.taken (ws ++ rest)) (sym (drop_of_length-le vs (subst (λ m. m ≤ c.loop-helper.helper-index) (sym (length-map xs variable_of)) c.loop-helper-test.false)))
          ∙ c.loop-helper.invariant.names rest;
    }
