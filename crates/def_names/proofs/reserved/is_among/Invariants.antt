-- The texts passed aren't the name.
use Rattle.std.proofs.Common.{◌≡◌, map, drop}
use Rattle.def_meaning.specs.Apart.{has_name}
use Rattle.def_names.proofs.reserved.is_among.Given as goal

abbrev pub invariant-loop-text : goal.invariant-loop-text
invariant-loop-text l = has_name l.name (map (λ t. t.now) (drop l.text-index l.texts)) ≡ has_name l.name (map (λ t. t.now) l.texts)
