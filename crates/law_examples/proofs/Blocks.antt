-- What texts with blocks, lines of all sorts and declarations are is computed.
use Rattle.std.proofs.Common.{refl}
use Rattle.def_text.specs.Data.{text_len, data_line}
use Rattle.law_examples.specs.Blocks.{Branches, LoopBlocks, Directives, SplitCalls, Lines, Declared, Likenesses, DataPlaces, Labels, Keywords}
use Rattle.law_examples.proofs.Computing.{reading}

pub branches : Branches
unfolding reading text_len data_line
branches = (refl, refl, refl, refl, refl)

pub loop_blocks : LoopBlocks
unfolding reading text_len data_line
loop_blocks = (refl, refl, refl, refl, refl, refl)

pub directives : Directives
unfolding reading text_len data_line
directives = (refl, refl, refl, refl, refl, refl, refl)

pub split_calls : SplitCalls
unfolding reading text_len data_line
split_calls = ((refl, refl), (refl, refl), (refl, refl))

pub lines : Lines
unfolding reading text_len data_line
lines = (refl, refl, refl, refl, refl, refl, refl, refl, refl, refl, refl)

pub declared : Declared
unfolding reading text_len data_line
declared = (refl, refl, refl, refl, refl, refl)

pub likenesses : Likenesses
unfolding reading text_len data_line
likenesses = refl

pub data_places : DataPlaces
unfolding reading text_len data_line
data_places = (refl, refl, refl, refl, refl, refl)

pub labels : Labels
labels = (refl, refl, refl, refl, refl, refl, refl, refl)

pub keywords : Keywords
keywords = (refl, refl, refl, refl, refl, refl, refl, refl, refl, refl, refl, refl, refl, refl, refl, refl, refl, refl, refl, refl, refl)
