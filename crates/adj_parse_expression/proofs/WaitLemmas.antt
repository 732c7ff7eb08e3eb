-- WaitLemmas: a condition is alone where nothing waits.
use Rattle.std.proofs.Common.{◌≡◌, List, ◌<◌, length, Some, None, ap}
use Rattle.std.proofs.lemmas.List.{append-nil}
use Rattle.adj_parse_expression.specs.declared.waiting.Waiting.{Waiting}
use Rattle.adj_parse_expression.specs.ConditionMachine.{alone}
use Rattle.adj_parse_expression.specs.PartialCondition.{PartialTest}
use Rattle.adj_parse_expression.specs.Waits.{waiting_of, waits_of}
use Rattle.adj_parse_expression.proofs.StackLemmas.{stacked-push, stacked-pop, stacked-nil, stacked-last, stacked-no_last, stacked-left_over}

pub alone-nil : (items : List Waiting) (c : PartialTest) → length items ≡ 0 → alone (waits_of items, c) ≡ Some c
alone-nil items c n = ap (λ waits. alone (waits, c)) (stacked-nil waiting_of items n)

pub alone-left_over : (items : List Waiting) (c : PartialTest) → 0 < length items → alone (waits_of items, c) ≡ None
alone-left_over items c some = ap (λ waits. alone (waits, c)) (stacked-left_over waiting_of items some).2

pub ruleset waits = (stacked-push, stacked-pop, stacked-nil, stacked-last, stacked-no_last, append-nil, alone-nil, alone-left_over)
