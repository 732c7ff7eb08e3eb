-- Each law is a lemma; that of runs holds over words and over words with tangents.
use Rattle.std.specs.Prelude.{ℤ}
use Rattle.law_kernel.proofs.Weighing.{act_light, list_light}
use Rattle.law_kernel.proofs.Costs.{weighed_means}
use Rattle.law_kernel.proofs.Towers.{tower_weight, tower_total}
use Rattle.law_kernel.proofs.Unmarked.{stepped_same}
use Rattle.law_kernel.proofs.Capped.{program_capped}
use Rattle.law_kernel.proofs.weight_laws.Goals as goal

pub returns-clause-statements : goal.returns-clause-statements
returns-clause-statements c = act_light

pub returns-clause-lists : goal.returns-clause-lists
returns-clause-lists c = list_light

pub returns-clause-towers : goal.returns-clause-towers
returns-clause-towers c = λ local x y line k. (tower_weight local x y k, tower_total local x line y k)

pub returns-clause-no_step : goal.returns-clause-no_step
returns-clause-no_step c = stepped_same

pub returns-clause-cost : goal.returns-clause-cost
returns-clause-cost c = (weighed_means {C = ℤ}, weighed_means {C = ℤ × ℤ})

pub returns-clause-capped : goal.returns-clause-capped
returns-clause-capped c = program_capped
