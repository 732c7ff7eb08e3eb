-- From the statements of the kernel's run to those of the adjoint's.
use Rattle.std.proofs.Common.{suc, ◌+◌, ◌*◌, arith}
use Rattle.std.proofs.Math.Nat.{mul-le-mul_left}
use Rattle.def_sweep.specs.MarkedAdjoint.{shadow_flags, joined_by}
use Rattle.def_sweep.specs.Names.{adjoint_name}
use Rattle.def_sweep.specs.Program.{emitted_program_with}
use Rattle.law_cost.specs.ScheduledRuns.{ScheduledSpends, ReadBackSpends, ReadBackSplitSpends}
use Rattle.law_cost.proofs.Costs.{scheduled_costs, split_spends}
use Rattle.law_cost.proofs.ReadBack.{read_back}

pub scheduled_spends : ScheduledSpends
scheduled_spends sb lines w ps head vars outvars u is good unsplit weight each calls reps chains a found input shadows fit alike k used output done few j spent end h =
    let x = scheduled_costs sb lines w ps head vars outvars u is good unsplit calls reps chains a found input shadows fit alike k used output done few j spent end h in
    let most = x.most in
    let price = x.price_few weight each in
    let l = mul-le-mul_left (15 + suc calls * suc reps) price in
    omega (arith, most, l)

pub read_back_spends : ReadBackSpends
read_back_spends sb lines w ps head vars outvars u is good unsplit weight each calls reps chains qs same adjoint is_there input shadows fit alike k used output done few j spent end h =
    let r = read_back (emitted_program_with sb w.marks ps head vars outvars) qs same (adjoint_name ps u) adjoint is_there (joined_by (shadow_flags (w.marks.shadowed u.name) u.dummies) input shadows) j spent end h in
    scheduled_spends sb lines w ps head vars outvars u is good unsplit weight each calls reps chains r.unit r.found input shadows fit alike k used output done few j spent r.output r.done

pub read_back_split : ReadBackSplitSpends
read_back_split sb lines w ps head vars outvars u is good weight each count many calls reps chains qs same adjoint is_there input shadows fit alike k used output done few j spent end h =
    let r = read_back (emitted_program_with sb w.marks ps head vars outvars) qs same (adjoint_name ps u) adjoint is_there (joined_by (shadow_flags (w.marks.shadowed u.name) u.dummies) input shadows) j spent end h in
    split_spends sb lines w ps head vars outvars u is good weight each count many calls reps chains r.unit r.found input shadows fit alike k used output done few j spent r.output r.done
