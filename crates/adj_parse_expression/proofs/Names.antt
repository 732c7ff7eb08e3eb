-- Names: names that code compares are those that definitions compare.
use Rattle.adj_tree.proofs.Names.{name_eq-bytes}

pub ruleset names = (name_eq-bytes)
