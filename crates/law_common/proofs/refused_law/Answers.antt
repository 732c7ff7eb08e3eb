use Rattle.std.proofs.Common.{refl}
use Rattle.law_common.proofs.Refused.{refused_at_places, laid_alike}
use Rattle.law_common.proofs.Slotted.{a_member_for_each}
use Rattle.law_common.proofs.refused_law.Goals as goal

pub returns-clause-places : goal.returns-clause-places
returns-clause-places c = refused_at_places

pub returns-clause-alike : goal.returns-clause-alike
returns-clause-alike c = laid_alike

pub returns-clause-members : goal.returns-clause-members
returns-clause-members c = a_member_for_each

pub returns-clause-worked : goal.returns-clause-worked
returns-clause-worked c = (refl, (refl, (refl, refl)))
