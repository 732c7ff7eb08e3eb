-- What statements may write, by the names in a list.
use Rattle.std.proofs.Common.{◌≡◌, refl, sym, ◌∙◌}
use Rattle.adj_tree.specs.Code.{Var, plain, Act, assign, choose, loop, during, call, runtime}
use Rattle.def_meaning.specs.LeastSet.{Dummies}
use Rattle.def_meaning.specs.Apart.{has_name}
use Rattle.def_names.specs.Variables.{Name}
use Rattle.def_names.specs.WriteFaults.{may_write}
use Rattle.def_names.specs.VariableLists.{has}
use Rattle.def_names.proofs.VariableLists.{has_handed}
use Rattle.adj_symbols_writes.proofs.Naming.{has_among, has_one, changed_has}
pub use Rattle.adj_symbols_writes.proofs.Naming.{seen_among}
use Rattle.adj_symbols.specs.Writes.{written_in, written_names}

may_write_in : (handed : Dummies) (v : Var) (a : Act) → may_write handed v a ≡ has (written_in handed a) v
may_write_in handed v (assign y subs e) = has_one v y
may_write_in handed v (choose c a b) = refl
may_write_in handed v (loop y first last by body m) = has_one v y
may_write_in handed v (during c body) = refl
may_write_in handed v (call name args) = sym (has_handed v (handed name) args)
may_write_in handed v (runtime r) = changed_has v r

-- a statement may write the variables of its list
pub may_write_name : (handed : Dummies) (x : Name) (a : Act) → may_write handed (plain x) a ≡ has_name x (written_names handed a)
may_write_name handed x a = may_write_in handed (plain x) a ∙ sym (has_among x (written_in handed a))
