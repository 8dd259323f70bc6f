use Rattle.std.proofs.Common.{◌≡◌, ◌<◌, ◌^◌, ap, ◌∙◌, arith, length}
use Rattle.cv_interp.specs.Seen.{left}
use Rattle.cv_interp.proofs.Arriving.{bytes_length}
use Rattle.cv_interp.proofs.entering.make_buffer.Goals as goal

pub make-requires-clause-short : goal.make-requires-clause-short
make-requires-clause-short c =
    let size : length c.from_vec.result ≡ c.args.size =
    ap length (c.from_vec.ensures ∙ c.in_ok-bytes.ensures) ∙ bytes_length c.args.size (left c.args.w.now c.args.room.now.taken) in
    let short : c.args.size < 2 ^ 31 = c.requires.short in
    omega arith
