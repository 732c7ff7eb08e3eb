-- What a proof unfolds to compute what a text reads as.
use Rattle.std.specs.Prelude.{⊤}
use Rattle.def_text.specs.Class.{has_open, is_matched, group_len, kind_of}
use Rattle.def_text.specs.Grammar.{to_power}
use Rattle.def_text.specs.Line.{cut_lines, begins_in_either_case}
use Rattle.def_text.specs.Lined.{with_line, pass_over}
use Rattle.def_text.specs.Machine.{arguments_from, arguments_of, read}
use Rattle.def_text.specs.Stated.{stated, all_stated}
use Rattle.def_text.specs.Token.{tokens_from}
use Rattle.adj_parse_expression.specs.ConditionMachine.{read_test as read_condition}
use Rattle.adj_parse_statement.specs.Phrases.{members, members_behind, read_arguments, read_subscripts, read_place, read_assignment, read_actuals, read_call, read_names, read_dummies, read_head, size_at, read_sizes, read_item, read_items, read_step, read_bounds, read_label, read_do, read_guard, read_guarded, read_logical, read_test}
use Rattle.adj_parse_statement.specs.Said.{said}
use Rattle.adj_parse.specs.Trees.{follow, trees_from}

unfoldable pub reading : ⊤
unfolding has_open is_matched group_len kind_of to_power cut_lines begins_in_either_case with_line pass_over arguments_from arguments_of read stated all_stated tokens_from read_condition members members_behind read_arguments read_subscripts read_place read_assignment read_actuals read_call read_names read_dummies read_head size_at read_sizes read_item read_items read_step read_bounds read_label read_do read_guard read_guarded read_logical read_test said follow trees_from
reading = tt
