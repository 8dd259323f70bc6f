use Rattle.std.proofs.Common.{◌≡◌, ◌++◌, drop}
use Rattle.std.specs.List.{flat_map}
use Rattle.cv_cert.specs.Writing.{block_text}
use Rattle.cv_cert.proofs.write.push_blocks.Given as goal

abbrev pub invariant-loop-block : goal.invariant-loop-block
invariant-loop-block l = l.out.items ++ flat_map block_text (drop l.block-index l.blocks) ≡ l.fn.out.items ++ flat_map block_text l.fn.blocks
