-- What was read so far, and the last piece where there is one.
use Rattle.std.proofs.Common.{◌≡◌, ◌+◌, ◌≤◌, length, length-take, arith, refl}
use Rattle.adj_io.proofs.Pieces.{read_more, another}
use Rattle.adj_io.proofs.whole.read_all.Goals as goal

pub returns-in-Ok-clause-read : goal.returns-in-Ok-clause-read
returns-in-Ok-clause-read g c =
    let bytes = c.loop-bytes.bytes in
    let piece = c.in-Ok.ensures.within in
    let asked : length c.read.new.into ≤ c.min-wanted.result = omega (arith, c.read.auto.into, length-take c.min-wanted.result c.loop-bytes.piece) in
    let all : length bytes.items + c.in-Ok.count ≡ c.args.limit + 1 = omega (arith, bytes.ok.0, asked, piece, c.min-wanted.ensures, c.len.ensures, c.if-count-room.true, c.loop-bytes.invariant.within) in
    let read = read_more bytes.items _ c.in-Ok.count _ _ _ piece c.loop-bytes.invariant.left c.in-Ok.ensures.bytes in
    (length bytes.items + c.in-Ok.count, omega (arith, all), read, (λ _. all, λ _. refl))

pub returns-then-is_err-clause-read : goal.returns-then-is_err-clause-read
returns-then-is_err-clause-read g c =
    let bytes = c.loop-bytes.bytes in
    let within : length bytes.items + c.in-Ok-2.count ≤ c.args.limit = omega (arith, bytes.ok.0, c.loop-bytes.invariant.within, c.len.ensures, c.if-count-room.false) in
    let read = read_more bytes.items _ c.in-Ok-2.count _ _ _ c.in-Ok-2.ensures.within c.loop-bytes.invariant.left c.in-Ok-2.ensures.bytes in
    (length bytes.items + c.in-Ok-2.count, omega (arith, within), read, another _ _ _ _ (λ e. cc) within)
