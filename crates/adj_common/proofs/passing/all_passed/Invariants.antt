-- The members passed, and those that are left.
use Rattle.std.proofs.Common.{◌≡◌, ◌++◌, map, drop}
use Rattle.adj_common.specs.Views.{entry_of}
use Rattle.adj_common.specs.Members.{entry_names, passed_entries}
use Rattle.adj_common.proofs.passing.all_passed.Given as goal

abbrev pub invariant-loop-member : goal.invariant-loop-member
invariant-loop-member l = record {
  members : map entry_of l.out.items ++ passed_entries l.line l.taken (map entry_of (drop l.member-index l.members)) ≡ passed_entries l.line l.initial.taken (map entry_of l.members);
  taken : l.taken ++ entry_names (passed_entries l.line l.taken (map entry_of (drop l.member-index l.members))) ≡ l.initial.taken ++ entry_names (passed_entries l.line l.initial.taken (map entry_of l.members));
}
