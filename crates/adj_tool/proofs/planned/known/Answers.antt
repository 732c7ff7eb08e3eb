use Rattle.adj_tool.proofs.planned.known.Goals as goal

pub known_by-requires-clause-split : goal.known_by-requires-clause-split
known_by-requires-clause-split c = (c.args.splits.now, c.in_ok-found.ensures.split)
